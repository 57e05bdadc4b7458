-- A step changes the debt of its thread as its place says.
use Rattle.spec_locks.specs.declared.calls.CondvarCall.TheVariants as condvar
use Rattle.lot_laws.proofs.Imports
use Imports.{Bool, ℕ, true, false, Some, None, if◌then◌else◌, ◌≡◌, refl, sym, ◌∙◌, ap, subst, Call, Reply, Late}
use Imports.{Place, Idle, Mutex, RwLock, Once, Condvar, Semaphore, outcome_of, Kind, is_fair, act_of, next_act}
use Imports.{next_place, first_place, called_lock, line_owed, profile, rwlock_does, rwlock_goes, State}
use Imports.{place_at, word_at, kind_at, reply_to, sort_at, Exclusive, Has, Line, has_readers, idle, role_on}
use Imports.{IsInductive, FitsItsLock, rules_in, site_of, Next, Admission, RwLockPlace, Admits, MayStand}
use Imports.{rwlock_act, RwLockCallPlace, admission_of_kind, Plain, HandOver, given, call_act, call_next}
use Imports.{call_profile, CallStands}
use Rattle.lot_laws.proofs.condvar.CondvarOwing.{condvar_befallen}
use Rattle.lot_laws.proofs.once.OnceOwes.{once_owes_next}
use Rattle.lot_laws.proofs.semaphore.SemaphoreOwes.{semaphore_owes_next}
use Rattle.lot_laws.proofs.semaphore.SemaphoreOwing.{semaphore_befallen, semaphore_late}
use Rattle.spec_locks.specs.declared.calls.Patience.TheVariants as how
use Rattle.spec_locks.specs.declared.calls.SemaphoreCall.TheVariants as semaphore_call
use Rattle.spec_locks.specs.declared.calls.Call.TheVariants as call
use Rattle.lot_laws.proofs.once.OnceOwing.{once_befallen, once_late}
use Rattle.spec_locks.specs.Locks as locks
use Rattle.lot_laws.proofs.machine.Parts.{same, IsSingle}
use Rattle.lot_laws.proofs.promises.RowPromises.{Befalls, RowOwesThen, IsLateNext, owes_then, mutex_tells}
use Rattle.lot_laws.proofs.mutex.MutexOwing.{mutex_befallen, mutex_owes_next, mutex_first_owes, mutex_late}
use Rattle.lot_laws.proofs.sites.StandsMoved.{mutex_rules}
use Rattle.lot_laws.proofs.rwlock.RwLockOwing.{plain_tells, rwlock_befallen, rwlock_owes_next}
use Rattle.lot_laws.proofs.rwlock.RwLockOwing.{rwlock_first_owes}
use Rattle.lot_laws.proofs.rwlock.RwLockOwing.{rwlock_late}
use Rattle.lot_laws.proofs.rwlock.CallOwing.{CallOwesNext, IsOwners, call_owes_next, owners_word}
use Rattle.spec_locks.specs.declared.calls.Access.TheVariants as access
use Rattle.steps_base.specs.declared.acts.Next.TheVariants as next
use Rattle.steps_rwlock_fair.specs.declared.hand_over.HandOverAt.TheVariants as handing
use Rattle.lot_laws.proofs.calls.PlainCalls.{never_given, plain_acts, plain_leads}

-- ---------------------------------------------------------------- each place

-- a thread owes what it owed, with all that befalls it
pub owes_befallen : (p : Place) (r : Reply) → Befalls r → (k : ℕ) → line_owed (next_place p r) k
    ≡ line_owed p k
owes_befallen Idle r b k = refl
owes_befallen (Mutex l at) r b k = mutex_befallen l at r b k
owes_befallen (RwLock l a c) r b k = rwlock_befallen l a r k c b
owes_befallen (Once l at) r b k = once_befallen l at r b k
owes_befallen (Semaphore l at) r b k = semaphore_befallen l at r b k
owes_befallen (Condvar l at) r b k = condvar_befallen l at r b k

-- at a lock by its number and rules
abbrev OwesAt : State → ℕ → locks.Sort → ℕ → Place → Type 0
OwesAt w t sort l p =
    let told = reply_to w t (act_of p) in
    RowOwesThen sort l (word_at w l) (profile p) (outcome_of (next_act p told)) (profile (next_place p told))
    (act_of (next_place p told))

plain_owes : (w : State) (t k : ℕ) (a : Admission) (p : RwLockPlace) → Admits (rules_in w k) a → MayStand a p
    → OwesAt w t (sort_at w k) k (RwLock k a (Plain p))
plain_owes w t k a p admits stands =
    let none : given false p (reply_to w t (rwlock_act k a p)) ≡ None = never_given w t false p
    (rwlock_act k a p) in
    rw (
      plain_acts k a p (reply_to w t (rwlock_act k a p)) none,
      plain_leads k a p (reply_to w t (rwlock_act k a p)) none,
    )
    (owes_then (λ m. plain_tells (sort_at w k) k p.purpose m (word_at w k))
    (rwlock_owes_next w t k a admits p stands))

-- at any place of a call of a lock that is shared
pub call_owes : (w : State) (t k : ℕ) (a : Admission) (c : RwLockCallPlace) → Admits (rules_in w k) a
    → CallStands a c
    → ((b : Bool) (seen : ℕ) → c ≡ HandOver access.Exclusive b (handing.Free seen) → IsOwners (word_at w k))
    → OwesAt w t (sort_at w k) k (RwLock k a c)
call_owes w t k a (Plain p) admits stands alone = plain_owes w t k a p admits stands
call_owes w t k a c admits stands alone = leads (call_next a c (reply_to w t (call_act k a c)))
    (call_owes_next w t k a admits c stands tt alone)
  where
    leads : (n : Next RwLockCallPlace) → CallOwesNext (rules_in w k) a k (word_at w k) c n
        → RowOwesThen (sort_at w k) k (word_at w k) (call_profile a c) (outcome_of (rwlock_does k a n))
        (profile (rwlock_goes k a n)) (act_of (rwlock_goes k a n))
    leads (next.At d) h = h
    leads (next.End answer) h = record { since = h.since; sees = λ m s step looks. absurd cc }

-- the reply to its act leads a thread on, in a call of one lock
pub owes_next : (w : State) (t l : ℕ) → IsInductive w → IsSingle (place_at w t) → called_lock (place_at w t)
    ≡ Some l
    → OwesAt w t (sort_at w l) l (place_at w t)
owes_next w t l inductive single own = by_place (place_at w t) refl own
  where
    -- an exclusive owner knows the word but for those that wait
    alone : (k : ℕ) (a : Admission) (c : RwLockCallPlace) → place_at w t ≡ RwLock k a c
        → has_readers (rules_in w k).sort ≡ true
        → (b : Bool) (seen : ℕ) → c ≡ HandOver access.Exclusive b (handing.Free seen) → IsOwners (word_at w k)
    alone k a c is readers b seen e = subst IsOwners (sym (inductive.sites.word k))
        (owners_word (rules_in w k) (site_of w k) t readers (inductive.sites.site k)
        ((inductive.sites.site k).held t (Has Exclusive) claims))
      where
        claims : (role_on (place_at w t) k).claims ≡ Some (Has Exclusive)
        claims = ap (λ p. (role_on p k).claims) (is ∙ ap (RwLock k a) e)
            ∙ ap (λ (z : Bool). (if z then (call_profile a
            (HandOver access.Exclusive b (handing.Free seen))).role else idle).claims) (same k)

    by_place : (p : Place) → place_at w t ≡ p → called_lock p ≡ Some l → OwesAt w t (sort_at w l) l p
    by_place Idle is own = absurd cc
    by_place (Once k at) is own =
        let here : k ≡ l = cc in
        let admitted : (rules_in w k).sort ≡ locks.Once = subst (FitsItsLock w) is (inductive.stands.calls t)
        in
        subst (λ j. OwesAt w t (sort_at w j) j (Once k at)) here (subst (λ s. OwesAt w t s k (Once k at))
        (sym admitted) (once_owes_next w t k at))
    by_place (Semaphore k at) is own =
        let here : k ≡ l = cc in
        let admitted : FitsItsLock w (Semaphore k at) = subst (FitsItsLock w) is (inductive.stands.calls t) in
        subst (λ j. OwesAt w t (sort_at w j) j (Semaphore k at)) here
        (subst (λ s. OwesAt w t s k (Semaphore k at)) (sym admitted.0) (semaphore_owes_next w t k at))
    by_place (Condvar k at) is own = absurd (subst IsSingle is single)
    by_place (Mutex k at) is own =
        let here : k ≡ l = cc in
        let admitted : FitsItsLock w (Mutex k at) = rw is at (inductive.stands.calls t) in
        let sort : locks.Mutex ≡ sort_at w k = sym (ap (λ r. r.sort) (mutex_rules (kind_at w k) admitted)) in
        subst (λ j. OwesAt w t (sort_at w j) j (Mutex k at)) here
        (subst (λ s. OwesAt w t s k (Mutex k at)) sort
        (owes_then (λ m. mutex_tells (Some ((profile (Mutex k at)).purpose k)) m (word_at w k))
        (mutex_owes_next w t inductive k at is)))
    by_place (RwLock k a c) is own =
        let here : k ≡ l = cc in
        let admitted : FitsItsLock w (RwLock k a c) = rw is at (inductive.stands.calls t) in
        subst (λ j. OwesAt w t (sort_at w j) j (RwLock k a c)) here (call_owes w t k a c admitted.0 admitted.1
        (alone k a c is admitted.0.0))

pub first_owes : (k : Kind) (c : Call) → (profile (first_place k c)).owes ≡ None
first_owes k (call.Mutex m c) = mutex_first_owes (is_fair k) c
first_owes k (call.RwLock m c) = rwlock_first_owes (admission_of_kind k) c
first_owes k (call.Once m c) = refl
first_owes k (call.Semaphore m (semaphore_call.Acquire how.Patient)) = refl
first_owes k (call.Semaphore m (semaphore_call.Acquire how.Timed)) = refl
first_owes k (call.Semaphore m (semaphore_call.Acquire how.Try)) = refl
first_owes k (call.Semaphore m semaphore_call.Release) = refl
first_owes k (call.Condvar m (condvar.Wait n timed)) = refl
first_owes k (call.Condvar m (condvar.Notify all)) = refl

pub late_next : (p : Place) (m : Line) → IsSingle p → (profile p).late_line ≡ Some m
    → IsLateNext (next_place p Late) m
late_next Idle m single h = absurd cc
late_next (Mutex l at) m single h = mutex_late l at m h
late_next (RwLock l a at) m single h = rwlock_late l a at m h
late_next (Condvar l at) m single h = absurd single
late_next (Once l at) m single h = once_late l at m h
late_next (Semaphore l at) m single h = semaphore_late l at m h
