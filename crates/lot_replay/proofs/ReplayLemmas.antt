-- How far a replay has come.
use Rattle.std.proofs.Common.{◌≡◌, ℕ, ◌+◌, ◌-◌, ◌<◌, Bool, true, false, cond, List, [], ◌∷◌, ◌++◌, Option}
use Rattle.std.proofs.Common.{None, Some, Ok, Err, inl, inr, length, refl, sym, ap, subst, ◌∙◌, arith}
use Rattle.std.proofs.Common.{append_assoc, append-nil, length-append, take, drop, take-append-drop, IfSome}
use Rattle.std.proofs.lemmas.List.Elements.{All-nil}
use Rattle.std.proofs.lemmas.Bool.Decides.{leb_tells}
use Rattle.std.specs.Prelude.{⊤, option_and_then}
use Rattle.std.specs.Io.{StartsWith}
use Rattle.std.specs.Io.KnownBytes.{Appends, Consumes, IsAtEnd, Keeps}
use Rattle.std.proofs.KnownBytes.{Consumes-nil, starts_with_rest}
use Rattle.std.proofs.lemmas.List.{append_cancel_left, drop-drop}
use Rattle.std.proofs.Math.Seq.{take-append_seam, drop-append_seam}
use Rattle.lot_text.specs.Lines.{line_len, lines_of}
use Rattle.lot_text.specs.Grammar.{meaning}
use Rattle.lot_text.specs.Text.{malformed_line, no_memory_line}
use Rattle.lot_text.proofs.LinesLemmas.{lines_feed}
use Rattle.lot_text.specs.Reads.{IsOneLine, TakesLine, StartsTooLong, TakesPart}
use Rattle.lot_text.specs.Sent.{Held, Puts, PutsWhere, Sends, SendsFront}
use Rattle.lot_text.proofs.SentLemmas.{puts_then}
use Rattle.lot_text.specs.declared.grammar.Command.{Command}
use Rattle.lot_replay.specs.declared.state.Refusal.{Refusal}
use Rattle.lot_replay.specs.declared.state.Refusal.TheVariants.{Malformed, NoMemory}
use Rattle.lot_replay.specs.Stages.{ReplayStage, nothing, obeyed, after_line}
use Rattle.lot_replay.specs.Answers.{MayTakeMemory, AnswersTo, last_line, last_status}
use Rattle.lot_replay.specs.Fronts.{AnswersRead, MayAnswerAll, BeginsWithLines, TakesLines, RefusesFirst}
use Rattle.lot_replay.specs.Fronts.{RefusesRead}
use Rattle.lot_replay.specs.Replay.{LineMayLead, IsMalformed, IsReplay, LinesWrite, IsText, StopsForMemory}
use Rattle.lot_replay.specs.Replay.{MayWrite}
use Rattle.lot_replay.proofs.Declaring.{StillDeclares, still_declares, lacked_before}

-- `done` lines wrote `text`, the k-th is next, and then the others
pub record Reached (input text : List ℕ) (k : ℕ) (s : ReplayStage) (rest : List (List ℕ)) : Type 0 where
  pub done : List (List ℕ)
  pub lines : lines_of input ≡ done ++ rest
  pub count : length done + 1 ≡ k
  pub declares : StillDeclares s done
  pub goes : (more : List (List ℕ)) (t : List ℕ) (st : ℕ) → IsReplay k s more t st
      → LinesWrite (done ++ more) (text ++ t) st

reached_start : (input : List ℕ) → Reached input [] 1 nothing (lines_of input)
reached_start input = record {
  done = [];
  lines = refl;
  count = refl;
  declares = refl;
  goes = λ more t st h. h;
}

reached_step : (input text : List ℕ) (k : ℕ) (s : ReplayStage) (line : List ℕ) (rest : List (List ℕ))
    (next : ReplayStage) (t : List ℕ) → Reached input text k s (line ∷ rest) → LineMayLead s line next t
    → Reached input (text ++ t) (k + 1) next rest
reached_step input text k s line rest next t r e = record {
  done = r.done ++ line ∷ [];
  lines = r.lines ∙ sym (append_assoc r.done (line ∷ []) rest);
  count = omega (arith, length-append r.done (line ∷ []), r.count);
  declares = still_declares s next t line r.done e r.declares;
  goes = λ more u st h.
      subst (λ ls. LinesWrite ls ((text ++ t) ++ u) st) (sym (append_assoc r.done (line ∷ []) more))
      (subst (λ l. LinesWrite (r.done ++ line ∷ more) l st) (sym (append_assoc text t u))
      (r.goes (line ∷ more) (t ++ u) st (inr (next, t, u, e, refl, h))));
}

-- the lines so far
wrote_so_far : (input text : List ℕ) (k : ℕ) (s : ReplayStage) (rest : List (List ℕ))
    (r : Reached input text k s rest) → LinesWrite r.done text 0
wrote_so_far input text k s rest r =
    subst (λ ls. LinesWrite ls text 0) (append-nil r.done) (subst (λ l. LinesWrite (r.done ++ []) l 0)
    (append-nil text) (r.goes [] [] 0 (refl, refl)))

whole_from : (input text : List ℕ) (k : ℕ) (s : ReplayStage) (rest : List (List ℕ)) (t : List ℕ) (st : ℕ)
    → Reached input text k s rest → IsReplay k s rest t st → IsText input (text ++ t) st
whole_from input text k s rest t st r h = subst (λ ls. LinesWrite ls (text ++ t) st) (sym r.lines)
    (r.goes rest t st h)

-- a stage is reached, where the bytes may be unknown
abbrev pub ReachedKnown : Option (List ℕ) → Option (List ℕ) → List ℕ → ℕ → ReplayStage → Type 0
ReachedKnown None now text k s = ⊤
ReachedKnown (Some x) None text k s = ⊥
ReachedKnown (Some x) (Some y) text k s = Reached x text k s (lines_of y)

pub known_start : (a : Option (List ℕ)) (s : ReplayStage) → s ≡ nothing → ReachedKnown a a [] 1 s
known_start None s e = tt
known_start (Some x) s e = subst (λ t. Reached x [] 1 t (lines_of x)) (sym e) (reached_start x)

pub known_step : (a b c : Option (List ℕ)) (text : List ℕ) (k : ℕ) (s : ReplayStage) (line : List ℕ)
    (next : ReplayStage) (t : List ℕ) → ReachedKnown a b text k s → TakesLine b c line
    → LineMayLead s line next t → ReachedKnown a c (text ++ t) (k + 1) next
known_step None b c text k s line next t r q e = tt
known_step (Some x) None c text k s line next t r q e = absurd r
known_step (Some x) (Some y) None text k s line next t r q e = absurd q
known_step (Some x) (Some y) (Some z) text k s line next t r q e = reached_step x text k s line (lines_of z)
    next t (subst (Reached x text k s) q r) e

may_whole : (x : List ℕ) (d : Option (List ℕ)) (text : List ℕ) (st : ℕ) → IsText x text st
    → MayWrite (Some x) d text st
may_whole x None text st e = inl e
may_whole x (Some z) text st e = inl e

may_memory : (x : List ℕ) (d : Option (List ℕ)) (text : List ℕ) → StopsForMemory x text
    → MayWrite (Some x) d text 3
may_memory x None text m = inr (refl, m)
may_memory x (Some z) text m = inr (inl (refl, m))

pub known_end : (a b d : Option (List ℕ)) (text : List ℕ) (k : ℕ) (s : ReplayStage)
    → ReachedKnown a b text k s → IsAtEnd b → MayWrite a d text 0
known_end None b d text k s r e = tt
known_end (Some x) None d text k s r e = absurd r
known_end (Some x) (Some y) d text k s r e =
    may_whole x d text 0 (subst (λ l. IsText x l 0) (append-nil text) (whole_from x text k s [] [] 0
    (subst (λ l. Reached x text k s (lines_of l)) e r) (refl, refl)))

malformed_at : (x text : List ℕ) (k : ℕ) (s : ReplayStage) (line : List ℕ) (rest : List (List ℕ))
    (d : Option (List ℕ)) → Reached x text k s (line ∷ rest) → IsMalformed s line
    → MayWrite (Some x) d (text ++ malformed_line k) 2
malformed_at x text k s line rest d r e = may_whole x d (text ++ malformed_line k) 2
    (whole_from x text k s (line ∷ rest) (malformed_line k) 2 r (inl (e, refl, refl)))

known_malformed : (a b c d : Option (List ℕ)) (text : List ℕ) (k : ℕ) (s : ReplayStage) (line : List ℕ)
    → ReachedKnown a b text k s → TakesLine b c line → IsMalformed s line
    → MayWrite a d (text ++ malformed_line k) 2
known_malformed None b c d text k s line r q e = tt
known_malformed (Some x) None c d text k s line r q e = absurd r
known_malformed (Some x) (Some y) None d text k s line r q e = absurd q
known_malformed (Some x) (Some y) (Some z) d text k s line r q e = malformed_at x text k s line (lines_of z) d
    (subst (Reached x text k s) q r) e

too_long_none : (s : ReplayStage) (line : List ℕ) → line_len < length line → IsMalformed s line
too_long_none s line long = elim (leb_tells (length line) line_len) [
  | inl h ↦ absurd (omega (arith, h.1))
  | inr h ↦ ap (λ t. cond t (option_and_then (obeyed s) (meaning line)) None) h.0
]

pub known_too_long : (a b d : Option (List ℕ)) (text : List ℕ) (k : ℕ) (s : ReplayStage)
    → ReachedKnown a b text k s → StartsTooLong b → MayWrite a d (text ++ malformed_line k) 2
known_too_long None b d text k s r q = tt
known_too_long (Some x) None d text k s r q = absurd r
known_too_long (Some x) (Some y) d text k s r q = malformed_at x text k s q.0 q.1 d
    (subst (Reached x text k s) q.3 r) (too_long_none s q.0 q.2)

pub known_failed : (a b c : Option (List ℕ)) (text : List ℕ) (k : ℕ) (s : ReplayStage)
    → ReachedKnown a b text k s → TakesPart b c → MayWrite a c text 4
known_failed None b c text k s r q = tt
known_failed (Some x) None c text k s r q = absurd r
known_failed (Some x) (Some y) None text k s r q = absurd q.2
known_failed (Some x) (Some y) (Some z) text k s r q =
    inr (inr (
      refl,
      record {
        done = r.done;
        part = q.0;
        one = q.1;
        lines = r.lines ∙ ap (λ l. r.done ++ lines_of l) q.2;
        wrote = wrote_so_far x text k s (lines_of y) r;
      },
    ))

pub nothing_taken : (a : Option (List ℕ)) → TakesPart a a
nothing_taken a = ([], All-nil (λ b. b ≡ 10 → ⊥), Consumes-nil a)

memory_at : (x text : List ℕ) (k : ℕ) (s : ReplayStage) (line : List ℕ) (rest : List (List ℕ))
    (next : ReplayStage) (t : List ℕ) → Reached x text k s (line ∷ rest) → LineMayLead s line next t
    → MayTakeMemory (meaning line) s → StopsForMemory x (text ++ no_memory_line k)
unfolding reached_step
memory_at x text k s line rest next t r e m =
    let before = lacked_before s line r.done m r.declares in record {
      done = r.done;
      line = line;
      rest = rest;
      lines = r.lines;
      lacked = before.0;
      some_line = before.1;
      before = text;
      wrote = wrote_so_far x text k s (line ∷ rest) r;
      whole = text ++ t;
      would = wrote_so_far x (text ++ t) (k + 1) next rest (reached_step x text k s line rest next t r e);
      written = ap (λ n. text ++ no_memory_line n) (sym r.count);
    }

known_memory : (a b c d : Option (List ℕ)) (text : List ℕ) (k : ℕ) (s : ReplayStage) (line : List ℕ)
    (next : ReplayStage) (t : List ℕ) → ReachedKnown a b text k s → TakesLine b c line
    → LineMayLead s line next t → MayTakeMemory (meaning line) s → MayWrite a d (text ++ no_memory_line k) 3
known_memory None b c d text k s line next t r q e m = tt
known_memory (Some x) None c d text k s line next t r q e m = absurd r
known_memory (Some x) (Some y) None d text k s line next t r q e m = absurd q
known_memory (Some x) (Some y) (Some z) d text k s line next t r q e m =
    may_memory x d (text ++ no_memory_line k) (memory_at x text k s line (lines_of z) next t
    (subst (Reached x text k s) q r) e m)

-- tells what an answer says
pub record Answered (w : Option (ReplayStage × List ℕ)) (new : ReplayStage) (a c : Option (List ℕ))
    (p q : Held) : Type 0 where
  pub text : List ℕ
  pub wanted : w ≡ Some (new, text)
  pub puts : Puts a c p q text

pub as_answered : (said : Option Command) (w : Option (ReplayStage × List ℕ)) (u : Unit {0})
    (old new : ReplayStage) (a c : Option (List ℕ)) (p q : Held) → AnswersTo said w (Ok u) old new
    (Puts a c p q) → Answered w new a c p q
as_answered said None u old new a c p q h = absurd h
as_answered said (Some x) u old new a c p q h = record {
  text = x.1;
  wanted = ap (λ (s : ReplayStage). Some (s, x.1)) (sym h.0);
  puts = h.1;
}

pub refused_puts : (said : Option Command) (w : Option (ReplayStage × List ℕ)) (refusal : Refusal)
    (old new : ReplayStage) (Wrote : List ℕ → Type 0) → AnswersTo said w (Err refusal) old new Wrote
    → Wrote []
refused_puts said None Malformed old new Wrote h = h.1
refused_puts said None NoMemory old new Wrote h = absurd h
refused_puts said (Some x) Malformed old new Wrote h = absurd h
refused_puts said (Some x) NoMemory old new Wrote h = h.1

pub known_refused : (w : Option (ReplayStage × List ℕ)) (refusal : Refusal) (new : ReplayStage)
    (Wrote : List ℕ → Type 0) (a b c d : Option (List ℕ)) (text : List ℕ) (k : ℕ) (s : ReplayStage)
    (line : List ℕ)
    → after_line s line ≡ w → AnswersTo (meaning line) w (Err refusal) s new Wrote → ReachedKnown a b text k s
    → TakesLine b c line → MayWrite a d (text ++ last_line refusal k) (last_status refusal)
known_refused None Malformed new Wrote a b c d text k s line e h r q = known_malformed a b c d text k s line r
    q e
known_refused None NoMemory new Wrote a b c d text k s line e h r q = absurd h
known_refused (Some x) Malformed new Wrote a b c d text k s line e h r q = absurd h
known_refused (Some x) NoMemory new Wrote a b c d text k s line e h r q = known_memory a b c d text k s line
    x.0 x.1 r q e h.2

-- the last send
ended_lost : (y z : Bool) (a b c : Option (List ℕ)) (mid left text : List ℕ)
    → PutsWhere false y a b [] mid text → PutsWhere y z b c mid left [] → z ≡ true
    → PutsWhere false true a c [] left (text ++ [])
ended_lost y true a b c mid left text p q e = puts_then a b c (record { bytes = []; lost = false })
    (record { bytes = mid; lost = y }) (record { bytes = left; lost = true }) text [] p q
ended_lost y false a b c mid left text p q e = cc

pub finish_lost : (a b c : Option (List ℕ)) (p q : Held) (text : List ℕ)
    → Puts a b (record { bytes = []; lost = false }) p text → Puts b c p q [] → q.lost ≡ true
    → SendsFront a c text
finish_lost a b c p q text h k e = subst (SendsFront a c) (append-nil text)
    (ended_lost p.lost q.lost a b c p.bytes q.bytes text h k e)

pub all_sent : (a c : Option (List ℕ)) (text : List ℕ) → Sends a c text [] → Appends a c text
all_sent a c text s = subst (Appends a c) (sym (append-nil s.taken) ∙ s.whole) s.appended

-- lines one after another
reached_all : (input text : List ℕ) (k : ℕ) (s : ReplayStage) (lines rest : List (List ℕ))
    (next : ReplayStage) (t : List ℕ) → Reached input text k s (lines ++ rest) → MayAnswerAll s lines next t
    → Reached input (text ++ t) (k + length lines) next rest
reached_all input text k s [] rest next t r h =
    let same : text ≡ text ++ t = sym (ap (λ l. text ++ l) h.1 ∙ append-nil text) in
    let none : k ≡ k + 0 = omega arith in
    subst (λ n. Reached input (text ++ t) n next rest) none (subst (λ l. Reached input l k next rest) same
    (subst (λ m. Reached input text k m rest) (sym h.0) r))
reached_all input text k s (l ∷ ls) rest next t r h =
    let step = reached_step input text k s l (ls ++ rest) h.0 h.1 r h.3 in
    let all = reached_all input (text ++ h.1) (k + 1) h.0 ls rest next h.2 step h.4 in
    let told : (text ++ h.1) ++ h.2 ≡ text ++ t = append_assoc text h.1 h.2 ∙ ap (λ l. text ++ l) (sym h.5) in
    let counted : k + 1 + length ls ≡ k + length (l ∷ ls) = omega arith in
    subst (λ n. Reached input (text ++ t) n next rest) counted
    (subst (λ u. Reached input u (k + 1 + length ls) next rest) told all)

pub known_all : (a b c : Option (List ℕ)) (text : List ℕ) (k : ℕ) (s : ReplayStage) (lines : List (List ℕ))
    (next : ReplayStage) (t : List ℕ) → ReachedKnown a b text k s → TakesLines b c lines
    → MayAnswerAll s lines next t → ReachedKnown a c (text ++ t) (k + length lines) next
known_all None b c text k s lines next t r q h = tt
known_all (Some x) None c text k s lines next t r q h = absurd r
known_all (Some x) (Some y) None text k s lines next t r q h = absurd q
known_all (Some x) (Some y) (Some z) text k s lines next t r q h = reached_all x text k s lines (lines_of z)
    next t (subst (Reached x text k s) q r) h

-- one line more
pub answered_more : (s : ReplayStage) (lines : List (List ℕ)) (between next : ReplayStage) (t u line : List ℕ)
    → MayAnswerAll s lines between t → LineMayLead between line next u → MayAnswerAll s (lines ++ line ∷ [])
    next (t ++ u)
answered_more s [] between next t u line h e = (
  next,
  u,
  [],
  subst (λ m. LineMayLead m line next u) h.0 e,
  (refl, refl),
  ap (λ l. l ++ u) h.1
      ∙ sym (append-nil u),
)
answered_more s (l ∷ ls) between next t u line h e = (
  h.0,
  h.1,
  h.2 ++ u,
  h.3,
  answered_more h.0 ls between next h.2 u line h.4 e,
  ap (λ l. l ++ u) h.5
      ∙ append_assoc h.1 h.2 u,
)

pub begins_more : (text left line rest : List ℕ) (lines : List (List ℕ)) → BeginsWithLines text lines left
    → left ≡ line ++ 10 ∷ rest → IsOneLine line → BeginsWithLines text (lines ++ line ∷ []) rest
begins_more text left line rest lines h e one = λ more.
    h more
    ∙ ap (λ ls. lines ++ ls) (ap (λ l. lines_of (l ++ more)) e
    ∙ ap lines_of (append_assoc line (10 ∷ rest) more) ∙ lines_feed line (rest ++ more) one)
    ∙ sym (append_assoc lines (line ∷ []) (lines_of (rest ++ more)))

-- tells what the reader still has, where the front of what it showed was taken
still_left : (x y shown : List ℕ) (n : ℕ) → StartsWith x shown → x ≡ take n shown ++ y → drop n shown
    ++ drop (length shown) x ≡ y
still_left x y shown n front taken =
    append_cancel_left (take n shown) _ _
    (sym (append_assoc (take n shown) (drop n shown) (drop (length shown) x))
    ∙ ap (λ l. l ++ drop (length shown) x) (take-append-drop n shown)
    ∙ sym (starts_with_rest x shown front) ∙ taken)

pub takes_front : (a b : Option (List ℕ)) (shown : List ℕ) (n : ℕ) (lines : List (List ℕ))
    → IfSome a (λ xs. StartsWith xs shown) → Consumes a b (take n shown) → BeginsWithLines shown lines
    (drop n shown) → TakesLines a b lines
takes_front None b shown n lines front taken h = tt
takes_front (Some x) None shown n lines front taken h = absurd taken
takes_front (Some x) (Some y) shown n lines front taken h =
    ap lines_of (starts_with_rest x shown front) ∙ h (drop (length shown) x)
    ∙ ap (λ l. lines ++ lines_of l) (still_left x y shown n front taken)

pub refuses_read : (refusal : Option Refusal) (s : ReplayStage) (a b : Option (List ℕ)) (shown : List ℕ)
    (n : ℕ) → IfSome a (λ xs. StartsWith xs shown) → Consumes a b (take n shown)
    → RefusesFirst refusal s (drop n shown) → RefusesRead refusal s a b
refuses_read None s a b shown n front taken h = tt
refuses_read (Some refusal) s None b shown n front taken h = tt
refuses_read (Some refusal) s (Some x) None shown n front taken h = absurd taken
refuses_read (Some refusal) s (Some x) (Some y) shown n front taken h =
    let more = drop (length shown) x in (
      h.0,
      Some (h.1 ++ more),
      ap lines_of (sym (still_left x y shown n front taken) ∙ ap (λ l. l ++ more) h.2
          ∙ append_assoc h.0 (10 ∷ h.1) more) ∙ lines_feed h.0 (h.1 ++ more) h.3,
      h.4,
    )

pub known_read_refused : (a b c d : Option (List ℕ)) (refusal : Refusal) (text told : List ℕ) (k n : ℕ)
    (s next : ReplayStage) → ReachedKnown a b text k s → ReachedKnown a c told n next
    → RefusesRead (Some refusal) next b c → MayWrite a d (told ++ last_line refusal n) (last_status refusal)
known_read_refused None b c d refusal text told k n s next r q h = tt
known_read_refused (Some x) None c d refusal text told k n s next r q h = absurd r
known_read_refused (Some x) (Some y) c d refusal text told k n s next r q h =
    known_refused (after_line next h.0) refusal next (λ t. t ≡ []) (Some x) c h.1 d told n next h.0 refl h.3 q
    h.2

-- nothing is told of a line that is refused
pub refused_first : (said : Option Command) (w : Option (ReplayStage × List ℕ)) (refusal : Refusal)
    (old new : ReplayStage) (Wrote : List ℕ → Type 0) → AnswersTo said w (Err refusal) old new Wrote
    → (new ≡ old) × Wrote [] × AnswersTo said w (Err refusal) old old (λ t. t ≡ [])
refused_first said None Malformed old new Wrote h = (h.0, h.1, (refl, refl))
refused_first said None NoMemory old new Wrote h = absurd h
refused_first said (Some x) Malformed old new Wrote h = absurd h
refused_first said (Some x) NoMemory old new Wrote h = (h.0, h.1, (refl, refl, h.2))

pub keeps_lines : (a b : Option (List ℕ)) → Keeps a b → TakesLines a b []
keeps_lines None b h = tt
keeps_lines (Some x) None h = absurd h
keeps_lines (Some x) (Some y) h = ap lines_of (sym h)

-- the lines that were read lead on
pub known_read : (a b c : Option (List ℕ)) (text : List ℕ) (k n number : ℕ) (s next : ReplayStage)
    (Wrote : List ℕ → Type 0) → ReachedKnown a b text k s → (read : AnswersRead b c number s next Wrote)
    → n ≡ k + number → ReachedKnown a c (text ++ read.1) n next
known_read a b c text k n number s next Wrote r read e =
    let at : k + length read.0 ≡ n = ap (λ m. k + m) (sym read.3) ∙ sym e in
    subst (λ m. ReachedKnown a c (text ++ read.1) m next) at (known_all a b c text k s read.0 next read.1 r
    read.2 read.4)

-- the line that comes first, and what is left after it
pub kept_line : (text line rest : List ℕ) (len : ℕ) → text ≡ line ++ 10 ∷ rest → len ≡ length line + 1
    → take (len - 1) text ≡ line
kept_line text line rest len e f =
    let n : len - 1 ≡ length line = omega (arith, f) in
    ap (λ k. take k text) n ∙ ap (take (length line)) e ∙ take-append_seam line (10 ∷ rest)

pub left_after : (shown line rest : List ℕ) (n len : ℕ) → drop n shown ≡ line ++ 10 ∷ rest → len
    ≡ length line + 1 → drop (n + len) shown ≡ rest
left_after shown line rest n len e f =
    let long : len ≡ length (line ++ 10 ∷ []) = f ∙ sym (length-append line (10 ∷ [])) in
    sym (drop-drop len n shown)
    ∙ ap (drop len) (e ∙ sym (append_assoc line (10 ∷ []) rest))
    ∙ ap (λ k. drop k ((line ++ 10 ∷ []) ++ rest)) long
    ∙ drop-append_seam (line ++ 10 ∷ []) rest
