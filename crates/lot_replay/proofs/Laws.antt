-- The laws of texts.
use Rattle.std.proofs.Common.{◌≡◌, ℕ, ◌+◌, Bool, true, false, cond, List, [], ◌∷◌, ◌++◌, Option, None, Some}
use Rattle.std.proofs.Common.{inl, inr, refl, sym, ap, subst, ◌∙◌, append_assoc, append-nil}
use Rattle.std.specs.Prelude.{◌==◌}
use Rattle.std.specs.List.{onto_first}
use Rattle.lot_text.specs.Lines.{lines_of}
use Rattle.lot_text.specs.Text.{malformed_line}
use Rattle.lot_replay.specs.Stages.{ReplayStage, nothing, after_line}
use Rattle.lot_replay.specs.Replay.{IsReplay, LinesWrite, IsBeginning, BeginningsBegin, EarlyTextsBegin}
use Rattle.lot_replay.specs.Replay.{HasOneText}

-- the lines of a text in front of a line feed: at least one
pub record SomeLines (front : List ℕ) : Type 0 where
  first : List ℕ
  others : List (List ℕ)
  fed : (back : List ℕ) → lines_of (front ++ 10 ∷ back) ≡ (first ∷ others) ++ lines_of back

more_lines : (t : Bool) (b : ℕ) (front : List ℕ) → (b == 10) ≡ t → SomeLines front → SomeLines (b ∷ front)
more_lines true b front e r = record {
  first = [];
  others = r.first ∷ r.others;
  fed = λ back. ap (λ t. cond t ([] ∷ lines_of (front ++ 10 ∷ back))
      (onto_first b (lines_of (front ++ 10 ∷ back)))) e ∙ ap (λ l. [] ∷ l) (r.fed back);
}
more_lines false b front e r = record {
  first = b ∷ r.first;
  others = r.others;
  fed = λ back. ap (λ t. cond t ([] ∷ lines_of (front ++ 10 ∷ back))
      (onto_first b (lines_of (front ++ 10 ∷ back)))) e ∙ ap (onto_first b) (r.fed back);
}

some_lines : (front : List ℕ) → SomeLines front
some_lines [] = record { first = []; others = []; fed = λ back. refl }
some_lines (b ∷ front) = more_lines (b == 10) b front refl (some_lines front)

none_some : (s : ReplayStage) (t : List ℕ) → ◌≡◌ {A = Option (ReplayStage × List ℕ)} None (Some (s, t)) → ⊥
none_some s t e = cc

some_pair : (s u : ReplayStage) (t v : List ℕ) → ◌≡◌ {A = Option (ReplayStage × List ℕ)} (Some (s, t))
    (Some (u, v)) → (s ≡ u) × (t ≡ v)
some_pair s u t v e = let p : ◌≡◌ {A = ReplayStage × List ℕ} (s, t) (u, v) = cc
    in (ap (λ (x : ReplayStage × List ℕ). x.0) p, ap (λ (x : ReplayStage × List ℕ). x.1) p)

-- tells what follows of two replays of the same first lines
next_begins : (k : ℕ) (s : ReplayStage) (lines more : List (List ℕ)) (t u : List ℕ) (st su : ℕ)
    → IsReplay k s lines t st → IsReplay k s (lines ++ more) u su → IsBeginning t u
next_begins k s [] more t u st su h g = (u, ap (λ l. l ++ u) h.0)
next_begins k s (line ∷ lines) more t u st su (inl h) (inl g) = ([], append-nil t ∙ h.1 ∙ sym g.1)
next_begins k s (line ∷ lines) more t u st su (inl h) (inr g) = absurd (none_some g.0 g.1 (sym h.0 ∙ g.3))
next_begins k s (line ∷ lines) more t u st su (inr h) (inl g) = absurd (none_some h.0 h.1 (sym g.0 ∙ h.3))
next_begins k s (line ∷ lines) more t u st su (inr h) (inr g) =
    let same = some_pair h.0 g.0 h.1 g.1 (sym h.3 ∙ g.3) in
    let rest = next_begins (k + 1) h.0 lines more h.2 g.2 st su h.5
    (subst (λ n. IsReplay (k + 1) n (lines ++ more) g.2 su) (sym same.0) g.5) in (
      rest.0,
      ap (λ l. l ++ rest.0) h.4 ∙ append_assoc h.1 h.2 rest.0 ∙ ap (λ l. h.1 ++ l) rest.1
          ∙ ap (λ l. l ++ g.2) same.1 ∙ sym g.4,
    )

pub beginnings : BeginningsBegin
beginnings front back text longer status ending h g =
    let lines = some_lines front in
    let done = lines.first ∷ lines.others in
    next_begins 1 nothing done (lines_of back) text longer status ending
    (subst (λ ls. LinesWrite ls text status) (lines.fed [] ∙ append-nil done) h)
    (subst (λ ls. LinesWrite ls longer ending) (lines.fed back) g)

pub early : EarlyTextsBegin
early input whole status h = (
  λ left text stop. next_begins 1 nothing stop.done (lines_of (stop.part ++ left)) text whole 0 status
      stop.wrote (subst (λ ls. LinesWrite ls whole status) stop.lines h),
  λ text stop. next_begins 1 nothing stop.done (stop.line ∷ stop.rest) stop.before whole 0 status stop.wrote
      (subst (λ ls. LinesWrite ls whole status) stop.lines h),
)

-- one text, and no other
same_replay : (k : ℕ) (s : ReplayStage) (lines : List (List ℕ)) (t u : List ℕ) (st su : ℕ)
    → IsReplay k s lines t st → IsReplay k s lines u su → (u ≡ t) × (su ≡ st)
same_replay k s [] t u st su h g = (g.0 ∙ sym h.0, g.1 ∙ sym h.1)
same_replay k s (line ∷ lines) t u st su (inl h) (inl g) = (g.1 ∙ sym h.1, g.2 ∙ sym h.2)
same_replay k s (line ∷ lines) t u st su (inl h) (inr g) = absurd (none_some g.0 g.1 (sym h.0 ∙ g.3))
same_replay k s (line ∷ lines) t u st su (inr h) (inl g) = absurd (none_some h.0 h.1 (sym g.0 ∙ h.3))
same_replay k s (line ∷ lines) t u st su (inr h) (inr g) =
    let same = some_pair h.0 g.0 h.1 g.1 (sym h.3 ∙ g.3) in
    let rest = same_replay (k + 1) h.0 lines h.2 g.2 st su h.5 (subst (λ n. IsReplay (k + 1) n lines g.2 su)
    (sym same.0) g.5) in
    (g.4 ∙ ap (λ l. l ++ g.2) (sym same.1) ∙ ap (λ l. h.1 ++ l) rest.0 ∙ sym h.4, rest.1)

pub record HasReplay (k : ℕ) (s : ReplayStage) (lines : List (List ℕ)) : Type 0 where
  text : List ℕ
  status : ℕ
  is : IsReplay k s lines text status

first_replay : (k : ℕ) (s : ReplayStage) (line : List ℕ) (lines : List (List ℕ))
    (o : Option (ReplayStage × List ℕ)) → after_line s line ≡ o
    → ((n : ReplayStage) → HasReplay (k + 1) n lines) → HasReplay k s (line ∷ lines)
first_replay k s line lines None e rest = record {
  text = malformed_line k;
  status = 2;
  is = inl (e, refl, refl);
}
first_replay k s line lines (Some a) e rest = let r = rest a.0 in record {
  text = a.1 ++ r.text;
  status = r.status;
  is = inr (a.0, a.1, r.text, e, refl, r.is);
}

has_replay : (lines : List (List ℕ)) (k : ℕ) (s : ReplayStage) → HasReplay k s lines
has_replay [] k s = record { text = []; status = 0; is = (refl, refl) }
has_replay (line ∷ lines) k s = first_replay k s line lines (after_line s line) refl
    (has_replay lines (k + 1))

pub one_text : HasOneText
one_text input =
    let r = has_replay (lines_of input) 1 nothing in (
      r.text,
      r.status,
      r.is,
      λ other ending h. same_replay 1 nothing (lines_of input) r.text other r.status
          ending r.is h,
    )
