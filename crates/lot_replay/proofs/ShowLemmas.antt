-- Groups of items that are printed one by one.
use Rattle.std.proofs.Common.{◌≡◌, ◌≢◌, ℕ, ◌+◌, ◌*◌, ◌<◌, Bool, true, false, cond, List, [], ◌∷◌, ◌++◌}
use Rattle.std.proofs.Common.{length, refl, sym, ap, ◌∙◌, arith, append_assoc, All, get_or, drop, drop-cons}
use Rattle.std.proofs.Common.{suc, add-one, ne_eqb, eq-eqb}
use Rattle.std.specs.Prelude.{codes, decimal, if◌then◌else◌, ◌==◌}
use Rattle.std.proofs.lemmas.List.Elements.{All-nil, All-cons, All-head, All-tail}
use Rattle.core_base.specs.declared.wants.Waiter.{Waiter}
use Rattle.lot_steps.specs.declared.places.Place.{Place}
use Rattle.lot_machine.specs.declared.debts.Debt.{Debt}
use Rattle.lot_machine.specs.declared.debts.Debt.TheVariants.{Owes, Retries}
use Rattle.lot_machine.specs.Machine.{State}
use Rattle.lot_machine.specs.Views.{StandUnder, has_debt, debtors}
use Rattle.lot_replay.specs.Shows.{show_line, show_lines, waiter_text, aside_text, debtor_text, group}
use Rattle.lot_replay.specs.Shows.{waiters_text}

-- the first item has the heading, and the others a comma
pub group_step : {X : Type 0} (mark : List ℕ) (text : X → List ℕ) (x : X) (xs : List X)
    → group mark text (x ∷ xs) ≡ mark ++ (text x ++ group (codes ",") text xs)
group_step mark text x [] = refl
group_step mark text x (y ∷ ys) = refl

-- tells what is left to print of waiters, where each queue has its next mark
abbrev pub waiters_left : ℕ → List ℕ → List ℕ → List Waiter → List ℕ
waiters_left key main aside [] = []
waiters_left key main aside (x ∷ xs) =
    if x.key == key then main ++ (waiter_text x ++ waiters_left key (codes ",") aside xs)
    else aside ++ (aside_text x ++ waiters_left key main (codes ",") xs)

waiters_aside : (key : ℕ) (main aside : List ℕ) (xs : List Waiter) → All (λ (x : Waiter). x.key ≢ key) xs
    → waiters_left key main aside xs ≡ group aside aside_text xs
waiters_aside key main aside [] h = refl
waiters_aside key main aside (x ∷ xs) h =
    ap (λ b. cond b (main ++ (waiter_text x ++ waiters_left key (codes ",") aside xs)) (aside
    ++ (aside_text x ++ waiters_left key main (codes ",") xs)))
    (ne_eqb x.key key (All-head (λ (y : Waiter). y.key ≢ key) x xs h))
    ∙ ap (λ l. aside ++ (aside_text x ++ l)) (waiters_aside key main (codes ",") xs
    (All-tail (λ (y : Waiter). y.key ≢ key) x xs h))
    ∙ sym (group_step aside aside_text x xs)

waiters_both : (key : ℕ) (main aside : List ℕ) (xs ys : List Waiter) → StandUnder key xs
    → All (λ (x : Waiter). x.key ≢ key) ys → waiters_left key main aside (xs ++ ys) ≡ group main waiter_text
    xs ++ group aside aside_text ys
waiters_both key main aside [] ys h k = waiters_aside key main aside ys k
waiters_both key main aside (x ∷ xs) ys h k =
    let first = main ++ (waiter_text x ++ group (codes ",") waiter_text xs) in
    ap (λ b. cond b (main ++ (waiter_text x ++ waiters_left key (codes ",") aside (xs ++ ys)))
    (aside ++ (aside_text x ++ waiters_left key main (codes ",") (xs ++ ys))))
    (eq-eqb x.key key (All-head (λ (y : Waiter). y.key ≡ key) x xs h))
    ∙ ap (λ l. main ++ (waiter_text x ++ l)) (waiters_both key (codes ",") aside xs ys
    (All-tail (λ (y : Waiter). y.key ≡ key) x xs h) k)
    ∙ ap (λ l. main ++ l) (sym (append_assoc (waiter_text x) (group (codes ",") waiter_text xs)
    (group aside aside_text ys)))
    ∙ sym (append_assoc main (waiter_text x ++ group (codes ",") waiter_text xs) (group aside aside_text ys))
    ∙ ap (λ l. l ++ group aside aside_text ys) (sym (group_step main waiter_text x xs))

pub waiters_all : (l : ℕ) (xs ys : List Waiter) → StandUnder (2 * l) xs → StandUnder (2 * l + 1) ys
    → waiters_left (2 * l) (codes " queue=") (codes " aside=") (xs ++ ys) ≡ waiters_text xs ys
waiters_all l xs ys h k = waiters_both (2 * l) (codes " queue=") (codes " aside=") xs ys h
    (λ i d b e. let other = k i d b in omega arith)

-- tells what is left to print of those that owe and those that try again
abbrev pub debts_left : List ℕ → List ℕ → List (Debt × ℕ) → List ℕ
debts_left owe retry [] = []
debts_left owe retry ((Owes, t) ∷ ds) = owe ++ (decimal t ++ debts_left (codes ",") retry ds)
debts_left owe retry ((Retries, t) ∷ ds) = retry ++ (decimal t ++ debts_left owe (codes ",") ds)

owes_not_retries : Owes ≡ Retries → ⊥
owes_not_retries e = cc

retries_alone : (owe retry : List ℕ) (ds : List (Debt × ℕ)) → All (λ (d : Debt × ℕ). d.0 ≡ Retries) ds
    → debts_left owe retry ds ≡ group retry debtor_text ds
retries_alone owe retry [] h = refl
retries_alone owe retry ((Owes, t) ∷ ds) h =
    absurd (owes_not_retries (All-head (λ (d : Debt × ℕ). d.0 ≡ Retries) (Owes, t) ds h))
retries_alone owe retry ((Retries, t) ∷ ds) h =
    ap (λ l. retry ++ (decimal t ++ l))
    (retries_alone owe (codes ",") ds (All-tail (λ (d : Debt × ℕ). d.0 ≡ Retries) (Retries, t) ds h))
    ∙ sym (group_step retry debtor_text (Retries, t) ds)

pub debts_both : (owe retry : List ℕ) (ds rs : List (Debt × ℕ)) → All (λ (d : Debt × ℕ). d.0 ≡ Owes) ds
    → All (λ (d : Debt × ℕ). d.0 ≡ Retries) rs
    → debts_left owe retry (ds ++ rs) ≡ group owe debtor_text ds ++ group retry debtor_text rs
debts_both owe retry [] rs h k = retries_alone owe retry rs k
debts_both owe retry ((Owes, t) ∷ ds) rs h k =
    ap (λ l. owe ++ (decimal t ++ l)) (debts_both (codes ",") retry ds rs
    (All-tail (λ (d : Debt × ℕ). d.0 ≡ Owes) (Owes, t) ds h) k)
    ∙ ap (λ l. owe ++ l) (sym (append_assoc (decimal t) (group (codes ",") debtor_text ds)
    (group retry debtor_text rs)))
    ∙ sym (append_assoc owe (decimal t ++ group (codes ",") debtor_text ds) (group retry debtor_text rs))
    ∙ ap (λ l. l ++ group retry debtor_text rs) (sym (group_step owe debtor_text (Owes, t) ds))
debts_both owe retry ((Retries, t) ∷ ds) rs h k =
    absurd (owes_not_retries (sym (All-head (λ (d : Debt × ℕ). d.0 ≡ Owes) (Retries, t) ds h)))

owes_first : (debt : Debt) (t : ℕ) (b : Bool) (ds : List (Debt × ℕ)) → All (λ (d : Debt × ℕ). d.0 ≡ debt) ds
    → All (λ (d : Debt × ℕ). d.0 ≡ debt) (cond b ((debt, t) ∷ ds) ds)
owes_first debt t true ds h = All-cons (λ (d : Debt × ℕ). d.0 ≡ debt) (debt, t) ds refl h
owes_first debt t false ds h = h

pub debtors_owe : (debt : Debt) (l t : ℕ) (ps : List Place) → All (λ (d : Debt × ℕ). d.0 ≡ debt)
    (debtors debt l t ps)
debtors_owe debt l t [] = All-nil (λ (d : Debt × ℕ). d.0 ≡ debt)
debtors_owe debt l t (p ∷ ps) = owes_first debt t (has_debt p debt l) (debtors debt l (t + 1) ps)
    (debtors_owe debt l (t + 1) ps)

-- one item more
pub left_main : (key : ℕ) (main aside : List ℕ) (x : Waiter) (xs : List Waiter) → x.key ≡ key
    → waiters_left key main aside (x ∷ xs) ≡ (main ++ waiter_text x) ++ waiters_left key (codes ",") aside xs
left_main key main aside x xs h =
    ap (λ b. cond b (main ++ (waiter_text x ++ waiters_left key (codes ",") aside xs)) (aside
    ++ (aside_text x ++ waiters_left key main (codes ",") xs))) (eq-eqb x.key key h)
    ∙ sym (append_assoc main (waiter_text x) (waiters_left key (codes ",") aside xs))

pub left_aside : (key : ℕ) (main aside : List ℕ) (x : Waiter) (xs : List Waiter) → x.key ≢ key
    → waiters_left key main aside (x ∷ xs) ≡ (aside ++ aside_text x) ++ waiters_left key main (codes ",") xs
left_aside key main aside x xs h =
    ap (λ b. cond b (main ++ (waiter_text x ++ waiters_left key (codes ",") aside xs)) (aside
    ++ (aside_text x ++ waiters_left key main (codes ",") xs))) (ne_eqb x.key key h)
    ∙ sym (append_assoc aside (aside_text x) (waiters_left key main (codes ",") xs))

pub left_owes : (owe retry : List ℕ) (d : Debt) (t : ℕ) (ds : List (Debt × ℕ)) → d ≡ Owes
    → debts_left owe retry ((d, t) ∷ ds) ≡ (owe ++ decimal t) ++ debts_left (codes ",") retry ds
left_owes owe retry Owes t ds h = sym (append_assoc owe (decimal t) (debts_left (codes ",") retry ds))
left_owes owe retry Retries t ds h = absurd (owes_not_retries (sym h))

pub left_retries : (owe retry : List ℕ) (d : Debt) (t : ℕ) (ds : List (Debt × ℕ)) → d ≡ Retries
    → debts_left owe retry ((d, t) ∷ ds) ≡ (retry ++ decimal t) ++ debts_left owe (codes ",") ds
left_retries owe retry Owes t ds h = absurd (owes_not_retries h)
left_retries owe retry Retries t ds h = sym (append_assoc retry (decimal t) (debts_left owe (codes ",") ds))

pub show_step : (w : State) (l : ℕ) (names : List (List ℕ)) (name : List ℕ) → l < length names
    → name ≡ get_or names l name → show_lines w l (drop l names) ≡ show_line w l name ++ show_lines w (l + 1)
    (drop (l + 1) names)
show_step w l names name h e =
    ap (show_lines w l) (drop-cons names l name h ∙ ap (λ n. n ∷ drop (suc l) names) (sym e)
    ∙ ap (λ k. name ∷ drop k names) (sym (add-one l)))
