-- The owners, waiters and debts that the views of a lock show, in the order of a printed line.
use Rattle.std.specs.Prelude.{ℕ, Bool, Option, Some, None, if◌then◌else◌, ◌+◌, ◌*◌, List, [], ◌∷◌, ◌++◌}
use Rattle.std.specs.Prelude.{replicate, ◌≡◌, All}
use Rattle.steps_base.specs.declared.owners.Owner.{Owner}
use Rattle.steps_base.specs.declared.owners.Owner.TheVariants.{Exclusive, Pending, Upgradable, Running}
use Rattle.steps_base.specs.declared.owners.Owner.TheVariants.{Shared}
use Rattle.steps_base.specs.declared.owners.Owners.{Owners}
use Rattle.steps_base.specs.declared.owners.Pending as pending
use Rattle.steps_base.specs.Owners.{running_thread}
use Rattle.lot_steps.specs.declared.places.Place.{Place}
use Rattle.lot_steps.specs.Steps.{owes_on, retries_on}
use Rattle.core_base.specs.declared.wants.Waiter.{Waiter}
use Rattle.lot_machine.specs.declared.debts.Debt.{Debt}
use Rattle.lot_machine.specs.declared.debts.Debt.TheVariants.{Owes, Retries}
use Rattle.lot_machine.specs.Machine.{State, owners_at, shares_at, queue_at}

abbrev pub owner_of : Owner → Option ℕ → List (Owner × ℕ)
owner_of sort None = []
owner_of sort (Some t) = (sort, t) ∷ []

abbrev pub pending_of : Option pending.Pending → List (Owner × ℕ)
pending_of None = []
pending_of (Some p) = (Pending, p.thread) ∷ []

-- the exclusive, pending, upgradable and running owner
abbrev pub owners_listed : Owners → List (Owner × ℕ)
owners_listed o =
    owner_of Exclusive o.exclusive
    ++ (pending_of o.pending
    ++ (owner_of Upgradable o.upgradable ++ owner_of Running (running_thread o.phase)))

-- the sharers of a lock, once for each right, by the numbers of rights of threads from this one on
abbrev pub sharers_listed : ℕ → List ℕ → List (Owner × ℕ)
sharers_listed t [] = []
sharers_listed t (n ∷ ns) = replicate n (Shared, t) ++ sharers_listed (t + 1) ns

-- the owners, then those that share
abbrev pub owners_of : State → ℕ → List (Owner × ℕ)
owners_of w l = owners_listed (owners_at w l) ++ sharers_listed 0 (shares_at w l)

-- each of the waiters stands under the key
abbrev pub StandUnder : ℕ → List Waiter → Type 0
StandUnder key waiters = All (λ (x : Waiter). x.key ≡ key) waiters

-- the main queue from its front, then the waiter aside
abbrev pub queue_of : State → ℕ → List Waiter
queue_of w l = queue_at w (2 * l) ++ queue_at w (2 * l + 1)

abbrev pub has_debt : Place → Debt → ℕ → Bool
has_debt p Owes l = owes_on p l
has_debt p Retries l = retries_on p l

-- the threads of some places that have a debt on a lock, where the first place is that of this
-- thread
abbrev pub debtors : Debt → ℕ → ℕ → List Place → List (Debt × ℕ)
debtors debt l t [] = []
debtors debt l t (p ∷ ps) =
    if has_debt p debt l then (debt, t) ∷ debtors debt l (t + 1) ps
    else debtors debt l (t + 1) ps

-- the threads that owe a wake on a lock, then those that try again
abbrev pub debts_of : State → ℕ → List (Debt × ℕ)
debts_of w l = debtors Owes l 0 w.places ++ debtors Retries l 0 w.places
