-- The lines of `show`.
use Rattle.std.specs.Prelude.{ℕ, ◌+◌, ◌*◌, List, [], ◌∷◌, ◌++◌, codes, decimal}
use Rattle.std.specs.List.{join_by}
use Rattle.core_base.specs.declared.wants.Waiter.{Waiter}
use Rattle.core_base.specs.declared.wants.Want.{Want}
use Rattle.core_base.specs.declared.wants.Want.TheVariants as want
use Rattle.steps_base.specs.declared.owners.Owner.{Owner}
use Rattle.steps_base.specs.declared.owners.Owner.TheVariants as owner
use Rattle.lot_machine.specs.declared.debts.Debt.{Debt}
use Rattle.lot_machine.specs.declared.debts.Debt.TheVariants.{Owes, Retries}
use Rattle.lot_machine.specs.Machine.{State, word_at, queue_at}
use Rattle.lot_machine.specs.Views.{owners_of, debtors}

abbrev pub owner_letter : Owner → List ℕ
owner_letter owner.Exclusive = codes "x"
owner_letter owner.Pending = codes "p"
owner_letter owner.Upgradable = codes "u"
owner_letter owner.Running = codes "r"
owner_letter owner.Shared = codes "s"

abbrev pub want_letter : Want → List ℕ
want_letter want.Exclusive = codes "x"
want_letter want.Upgradable = codes "u"
want_letter want.Shared = codes "s"
want_letter want.Wait = codes "w"
want_letter want.CallOnce = codes "c"

abbrev pub owner_text : Owner × ℕ → List ℕ
owner_text o = decimal o.1 ++ owner_letter o.0

abbrev pub waiter_text : Waiter → List ℕ
waiter_text x = decimal x.thread ++ want_letter x.want

abbrev pub aside_text : Waiter → List ℕ
aside_text x = decimal x.thread

abbrev pub debtor_text : Debt × ℕ → List ℕ
debtor_text d = decimal d.1

-- items parted by commas after a heading, or nothing where there are none
abbrev pub group : {X : Type 0} → List ℕ → (X → List ℕ) → List X → List ℕ
group heading text [] = []
group heading text (x ∷ xs) = heading ++ join_by text (codes ",") (x ∷ xs)

abbrev pub owners_text : List (Owner × ℕ) → List ℕ
owners_text owners = group (codes " own=") owner_text owners

-- the waiters in the main queue, and those aside
abbrev pub waiters_text : List Waiter → List Waiter → List ℕ
waiters_text main aside = group (codes " queue=") waiter_text main
    ++ group (codes " aside=") aside_text aside

-- the threads that owe a wake, and those that try again
abbrev pub debtors_text : List (Debt × ℕ) → List (Debt × ℕ) → List ℕ
debtors_text owing retrying = group (codes " owe=") debtor_text owing
    ++ group (codes " retry=") debtor_text retrying

-- the line of a lock with a name
abbrev pub show_line : State → ℕ → List ℕ → List ℕ
show_line w l name =
    name ++ (codes " " ++ (decimal (word_at w l)
    ++ (owners_text (owners_of w l)
    ++ (waiters_text (queue_at w (2 * l)) (queue_at w (2 * l + 1))
    ++ (debtors_text (debtors Owes l 0 w.places) (debtors Retries l 0 w.places) ++ codes "\n")))))

-- the lines of the locks from one on, which have these names
abbrev pub show_lines : State → ℕ → List (List ℕ) → List ℕ
show_lines w l [] = []
show_lines w l (name ∷ names) = show_line w l name ++ show_lines w (l + 1) names
