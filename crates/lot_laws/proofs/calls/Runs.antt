-- A run by one step more.
use Rattle.lot_laws.proofs.Imports
use Imports.{◌≡◌, List, [], ◌∷◌, ◌++◌, refl, ap, sym, ◌∙◌, append_assoc, Step, Outcome, State, after}
use Imports.{step_outcome, after_steps, step_outcomes}

after_more : (w : State) (ss : List Step) (s : Step) → after_steps w (ss ++ s ∷ []) ≡ after (after_steps w ss)
    s
after_more w [] s = refl
after_more w (x ∷ ss) s = after_more (after w x) ss s

answered_more : (w : State) (ss : List Step) (s : Step)
    → step_outcomes w (ss ++ s ∷ []) ≡ step_outcomes w ss ++ step_outcome (after_steps w ss) s ∷ []
answered_more w [] s = refl
answered_more w (x ∷ ss) s = ap (λ os. step_outcome w x ∷ os) (answered_more (after w x) ss s)

-- one step more, and its outcome after the others
pub run_state : (w v m : State) (ss more : List Step) (s : Step) → more ≡ ss ++ s ∷ [] → v ≡ after_steps w ss
    → m ≡ after v s
    → m ≡ after_steps w more
run_state w v m ss more s e f g = g ∙ ap (λ u. after u s) f ∙ sym (after_more w ss s)
    ∙ ap (after_steps w) (sym e)

pub run_outcomes : (w v : State) (ss more : List Step) (s : Step) (before now : List Outcome)
    → more ≡ ss ++ s ∷ []
    → v ≡ after_steps w ss → now ≡ before ++ step_outcomes w ss
    → now ++ step_outcome v s ∷ [] ≡ before ++ step_outcomes w more
run_outcomes w v ss more s before now e f g =
    ap (λ os. os ++ step_outcome v s ∷ []) g ∙ append_assoc before (step_outcomes w ss) (step_outcome v s
    ∷ [])
    ∙ ap (λ (u : State). before ++ (step_outcomes w ss ++ step_outcome u s ∷ [])) f
    ∙ ap (λ os. before ++ os) (sym (answered_more w ss s) ∙ ap (step_outcomes w) (sym e))
