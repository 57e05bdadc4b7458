-- A thread in a call of a reader-writer lock that hands nothing over, and is handed nothing, goes where its
-- call does.
use Rattle.lot_laws.proofs.Imports
use Imports.{ℕ, Bool, false, Option, None, ◌≡◌, refl, ap, Act, Next, Reply, Admission, RwLockPlace, rwlock_next}
use Imports.{RwLockCallPlace, Plain, given, plain_next, unless_given, Place, RwLock, State, reply_to, next_act}
use Imports.{next_place, rwlock_does, rwlock_goes}
use Rattle.steps_base.specs.declared.acts.Act.TheVariants as act
use Rattle.steps_base.specs.declared.acts.TakeWhich.TheVariants as whom

abbrev pub plain_goes : ℕ → Admission → Next RwLockPlace → Place
plain_goes l a n = rwlock_goes l a (plain_next n)

abbrev pub plain_does : ℕ → Admission → Next RwLockPlace → Act
plain_does l a n = rwlock_does l a (plain_next n)

pub plain_leads : (l : ℕ) (a : Admission) (p : RwLockPlace) (told : Reply) → given false p told ≡ None
    → next_place (RwLock l a (Plain p)) told ≡ plain_goes l a (rwlock_next a p told)
plain_leads l a p told none =
    ap (λ (o : Option RwLockCallPlace). rwlock_goes l a (unless_given o (plain_next (rwlock_next a p told))))
    none

pub plain_acts : (l : ℕ) (a : Admission) (p : RwLockPlace) (told : Reply) → given false p told ≡ None
    → next_act (RwLock l a (Plain p)) told ≡ plain_does l a (rwlock_next a p told)
plain_acts l a p told none = ap (λ (o : Option RwLockCallPlace). rwlock_does l a
    (unless_given o (plain_next (rwlock_next a p told)))) none

-- no act of its own is told that the thread was handed the lock
pub never_given : (w : State) (t : ℕ) (b : Bool) (p : RwLockPlace) (y : Act) → given b p (reply_to w t y)
    ≡ None
never_given w t b p act.Rest = refl
never_given w t b p (act.Word l op) = refl
never_given w t b p (act.HandOver l op) = refl
never_given w t b p (act.Enter keys) = refl
never_given w t b p (act.Park l key check x) = refl
never_given w t b p (act.Stand key x) = refl
never_given w t b p (act.Take key whom.First) = refl
never_given w t b p (act.Take key (whom.Picked start recursive)) = refl
never_given w t b p (act.Take key whom.All) = refl
never_given w t b p (act.Requeue from to how) = refl
never_given w t b p (act.Remove key) = refl
never_given w t b p (act.Leave keys wakes) = refl
never_given w t b p act.Sleep = refl
never_given w t b p act.Accept = refl
never_given w t b p (act.Closure state) = refl
never_given w t b p (act.End answer) = refl
