-- What is told of lines comes to the text of a replay.
use Rattle.std.proofs.Common.{◌≡◌, ℕ, ◌+◌, Bool, true, false, List, [], ◌++◌, Option, None, Some, Result, Ok}
use Rattle.std.proofs.Common.{Err, IfOk, inl, inr, ◌⊎◌, refl, sym, ap, subst, ◌∙◌, append-nil}
use Rattle.std.specs.Io.KnownBytes.{Appends, IsAtEnd}
use Rattle.lot_text.specs.Text.{malformed_line}
use Rattle.lot_text.specs.Reads.{TakesLine, StartsTooLong}
use Rattle.lot_text.specs.Sent.{Held, Puts, PutsWhere, Sends}
use Rattle.lot_text.proofs.SentLemmas.{puts_then}
use Rattle.lot_text.specs.declared.grammar.Command.{Command}
use Rattle.lot_replay.specs.Stages.{ReplayStage, nothing}
use Rattle.lot_replay.specs.Answers.{AnswersTo}
use Rattle.lot_replay.specs.Replay.{IsMalformed, MayWrite}
use Rattle.lot_replay.specs.declared.state.Refusal.{Refusal}
use Rattle.lot_replay.specs.declared.state.Refusal.TheVariants.{Malformed, NoMemory}
use Rattle.lot_replay.proofs.ReplayLemmas.{ReachedKnown, known_start, known_step, known_end, known_too_long}
use Rattle.lot_replay.proofs.ReplayLemmas.{known_refused, all_sent}
use Rattle.lot_explain.specs.declared.failure.Failure.{Failure}
use Rattle.lot_explain.specs.declared.lines.Told.{Told}
use Rattle.lot_explain.specs.declared.lines.Told.TheVariants.{Answered, Refused, End}
use Rattle.lot_explain.specs.Explains.{IsTextOf, TellsLine, TellsLong, ComesTo, Adds}

-- a text that went out whole
sent_where : (x y z : Bool) (a b c : Option (List ℕ)) (start mid left text : List ℕ)
    → PutsWhere x y a b start mid text → PutsWhere y z b c mid left [] → x ≡ false → start ≡ [] → z ≡ false
    → left ≡ [] → Appends a c text
sent_where true y z a b c start mid left text p q e f g h = cc
sent_where false y true a b c start mid left text p q e f g h = cc
sent_where false y false a b c start mid left text p q e f g h =
    let both : Sends a c (start ++ (text ++ [])) left =
    puts_then a b c (record { bytes = start; lost = false }) (record { bytes = mid; lost = y })
    (record { bytes = left; lost = false }) text [] p q in
    let begun : Sends a c (text ++ []) left = subst (λ l. Sends a c (l ++ (text ++ [])) left) f both in
    let all : Sends a c (text ++ []) [] = subst (λ l. Sends a c (text ++ []) l) h begun in
    subst (Appends a c) (append-nil text) (all_sent a c (text ++ []) all)

pub sent_whole : (a b c : Option (List ℕ)) (p q r : Held) (text : List ℕ) → p ≡ record {
  bytes = [];
  lost =
      false;
} → Puts a b p q text → Puts b c q r [] → r.lost ≡ false → r.bytes ≡ [] → Appends a c text
sent_whole a b c p q r text e h k lost left =
    sent_where false q.lost r.lost a b c [] q.bytes r.bytes text (subst (λ s. Puts a b s q text) e h) k refl
    refl lost left

pub refused_malformed : (said : Option Command) (w : Option (ReplayStage × List ℕ)) (why : Refusal)
    (old new : ReplayStage) (Wrote : List ℕ → Type 0) → AnswersTo said w (Err why) old new Wrote
    → why ≡ Malformed → w ≡ None
refused_malformed said None Malformed old new Wrote h e = refl
refused_malformed said None NoMemory old new Wrote h e = absurd h
refused_malformed said (Some x) Malformed old new Wrote h e = absurd h
refused_malformed said (Some x) NoMemory old new Wrote h e = cc

-- what is told of a line that was read is what the next line comes to
pub line_comes : (r : Result Told Failure) (a b : Option (List ℕ)) (k : ℕ) (old new : ReplayStage)
    (line : List ℕ) → TakesLine a b line → IfOk r (λ told. TellsLine line k old new told)
    → IfOk r (λ told. ComesTo a b k old new told)
line_comes (Ok (Answered answer note)) a b k old new line q h = (line, q, h)
line_comes (Ok (Refused answer note)) a b k old new line q h = (inr (line, q, h.0), h.1)
line_comes (Ok End) a b k old new line q h = absurd h
line_comes (Err failure) a b k old new line q h = tt

pub long_comes : (r : Result Told Failure) (a b : Option (List ℕ)) (k : ℕ) (old new : ReplayStage)
    → StartsTooLong a → IfOk r (λ told. TellsLong k told) → IfOk r (λ told. ComesTo a b k old new told)
long_comes (Ok (Answered answer note)) a b k old new q h = absurd h
long_comes (Ok (Refused answer note)) a b k old new q h = (inl q, h)
long_comes (Ok End) a b k old new q h = absurd h
long_comes (Err failure) a b k old new q h = tt

-- the text of all lines
text_of : (a : Option (List ℕ)) (text : List ℕ) (status : ℕ) → (status ≡ 3 → ⊥) → MayWrite a None text status
    → IsTextOf a text status
text_of None text status never h = tt
text_of (Some input) text status never (inl h) = h
text_of (Some input) text status never (inr h) = absurd (never h.0)

told_all : (a b : Option (List ℕ)) (text : List ℕ) (k : ℕ) (s : ReplayStage) → ReachedKnown a b text k s
    → IsAtEnd b → IsTextOf a text 0
told_all a b text k s r q = text_of a text 0 (λ e. cc) (known_end a b None text k s r q)

refused_text : (a b c : Option (List ℕ)) (text : List ℕ) (k : ℕ) (s : ReplayStage) → ReachedKnown a b text k s
    → (StartsTooLong b ⊎ ((line : List ℕ) × TakesLine b c line × IsMalformed s line))
    → IsTextOf a (text ++ malformed_line k) 2
refused_text a b c text k s r (inl q) = text_of a (text ++ malformed_line k) 2 (λ e. cc)
    (known_too_long a b None text k s r q)
refused_text a b c text k s r (inr q) = text_of a (text ++ malformed_line k) 2 (λ e. cc)
    (known_refused None Malformed s (λ t. t ≡ []) a b c None text k s q.0 q.2 (refl, refl) r q.1)

-- after a line there are more, or the text is whole
pub told_more : (told : Told) (ending : Option ℕ) (a b c : Option (List ℕ)) (text now : List ℕ) (k : ℕ)
    (s next : ReplayStage) → ReachedKnown a b text k s → ComesTo b c k s next told → Adds told text now ending
    → ending ≡ None → ReachedKnown a c now (k + 1) next
told_more (Answered answer note) ending a b c text now k s next r q h e =
    subst (λ l. ReachedKnown a c l (k + 1) next) (sym h.1) (known_step a b c text k s q.0 next answer.items r
    q.1 q.2)
told_more (Refused answer note) ending a b c text now k s next r q h e = let never : ◌≡◌ {A = Option ℕ}
    (Some 2) None = sym h.0 ∙ e in cc
told_more End ending a b c text now k s next r q h e = let never : ◌≡◌ {A = Option ℕ} (Some 0) None = sym h.0
    ∙ e in cc

pub told_whole : (told : Told) (ending : Option ℕ) (a b c : Option (List ℕ)) (text now : List ℕ)
    (k status : ℕ) (s next : ReplayStage) → ReachedKnown a b text k s → ComesTo b c k s next told
    → Adds told text now ending → ending ≡ Some status → IsTextOf a now status
told_whole (Answered answer note) ending a b c text now k status s next r q h e =
    let never : ◌≡◌ {A = Option ℕ} None (Some status) = sym h.0 ∙ e in cc
told_whole (Refused answer note) ending a b c text now k status s next r q h e =
    let both : ◌≡◌ {A = Option ℕ} (Some 2) (Some status) = sym h.0 ∙ e in
    let same : 2 ≡ status = cc in
    let told : now ≡ text ++ malformed_line k = h.1 ∙ ap (λ l. text ++ l) q.1 in
    subst (IsTextOf a now) same (subst (λ l. IsTextOf a l 2) (sym told) (refused_text a b c text k s r q.0))
told_whole End ending a b c text now k status s next r q h e =
    let both : ◌≡◌ {A = Option ℕ} (Some 0) (Some status) = sym h.0 ∙ e in
    let same : 0 ≡ status = cc in
    subst (IsTextOf a now) same (subst (λ l. IsTextOf a l 0) (sym h.1) (told_all a b text k s r q))

pub told_first : (a : Option (List ℕ)) (text : List ℕ) (s : ReplayStage) → s ≡ nothing → text ≡ []
    → ReachedKnown a a text 1 s
told_first a text s e f = subst (λ l. ReachedKnown a a l 1 s) (sym f) (known_start a s e)
