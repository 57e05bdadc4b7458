-- A try neither sleeps nor enters a section.
use Rattle.lot_laws.proofs.Imports
use Imports.{ℕ, Bool, true, false, if◌then◌else◌, ◌&&◌, ◌==◌, ◌≡◌, refl, Access, Patience, Patient, Timed, Try}
use Imports.{Admission, RwLockAt, Decision, RwLockPurpose, decided_act, decided_for, is_counted, wanted}
use Imports.{IsDecided, IsNoRefusal, StandsAt, count_in, is_blocked, Rights, RwLockCallPlace, CallStands}
use Imports.{WaitsWithPatience, HandedAt, Place, Idle, Mutex, RwLock, Once, Condvar, Semaphore, act_of, State}
use Imports.{place_at, call_at, call_state, FitsItsLock, IsInductive, IsTry}
use Rattle.std.proofs.Common.{nat_le}
use Rattle.spec_locks.specs.declared.calls.Access.TheVariants as access
use Rattle.spec_locks.specs.declared.outcomes.Answer.TheVariants as answer
use Rattle.steps_rwlock.specs.declared.places.RwLockAt.TheVariants as at
use Rattle.steps_rwlock.specs.declared.enter.Decision.TheVariants as decisions
use Rattle.steps_rwlock.specs.declared.purposes.RwLockPurpose.TheVariants as purpose
use Rattle.core_base.specs.declared.keys.Line.TheVariants.{Main, Second}
use Rattle.steps_rwlock_fair.specs.declared.places.RwLockCallPlace.TheVariants as fair
use Rattle.steps_condvar.specs.declared.places.CondvarPlace.TheVariants as condvar
use Rattle.lot_laws.proofs.machine.PlaceTest.{IsFree, mutex_row_facts, once_facts, semaphore_facts}
use Rattle.lot_laws.proofs.rwlock.RwLockRows.{parks_wait}

-- ---------------------------------------------------------------- a reader-writer lock

-- a try that is to decide takes what it wants
by_decision : (l : ℕ) (q : RwLockPurpose) (seen : ℕ) (d : Decision) → (d ≡ decisions.Park → ⊥) → IsNoRefusal d
    → IsFree (decided_act l q seen d)
by_decision l q seen decisions.Take never some = (refl, refl, refl)
by_decision l q seen decisions.Mark never some = (refl, refl, refl)
by_decision l q seen decisions.Park never some = absurd (never refl)
by_decision l q seen (decisions.Refuse a) never some = absurd some

never_parks : (a : Admission) (x : Access) (seen : ℕ) → decided_for a (purpose.Enter x Try) seen
    ≡ decisions.Park → ⊥
never_parks a x seen = by_bits (is_blocked a.recursive (wanted x) seen) (is_counted (wanted x) && nat_le
    a.limit (count_in seen))
  where
    by_bits : (b c : Bool) → (if b then decisions.Refuse answer.No else if c then decisions.Refuse
        answer.ReadersFull else decisions.Take) ≡ decisions.Park → ⊥
    by_bits true c e = cc
    by_bits false true e = cc
    by_bits false false e = cc

never_upgrades : (a : Admission) (seen : ℕ) → decided_for a (purpose.Upgrade Try) seen ≡ decisions.Park → ⊥
never_upgrades a seen = by_count (count_in seen == 1)
  where
    by_count : (b : Bool) → (if b then decisions.Take else decisions.Refuse answer.No) ≡ decisions.Park → ⊥
    by_count true e = cc
    by_count false e = cc

abbrev pub place : RwLockPurpose → Bool → RwLockAt → RwLockCallPlace
place q again to = fair.Plain (record { purpose = q; retries = again; at = to })

writes_free : (l : ℕ) (a : Admission) (again : Bool) (to : RwLockAt)
    → StandsAt (purpose.Enter access.Exclusive Try) again to
    → IsFree (act_of (RwLock l a (place (purpose.Enter access.Exclusive Try) again to)))
writes_free l a again at.First stands = (refl, refl, refl)
writes_free l a again (at.Park to) stands = absurd (parks_wait Try to stands refl)
writes_free l a again (at.Aside to) stands = absurd (parks_wait Try to stands refl)
writes_free l a again (at.Wake Main to) stands = absurd stands
writes_free l a again (at.Wake Second to) stands = absurd stands
writes_free l a again to stands = absurd stands

shares_free : (l : ℕ) (a : Admission) (x : Access) (again : Bool) (to : RwLockAt)
    → StandsAt (purpose.Enter x Try) again to
    → IsDecided a (purpose.Enter x Try) to
    → IsFree (act_of (RwLock l a (place (purpose.Enter x Try) again to)))
shares_free l a access.Exclusive again to stands decided = writes_free l a again to stands
shares_free l a access.Shared again at.Load stands decided = (refl, refl, refl)
shares_free l a access.Shared again (at.Decide seen) stands decided =
    by_decision l (purpose.Enter access.Shared Try) seen (decided_for a (purpose.Enter access.Shared Try)
    seen) (never_parks a access.Shared seen) decided
shares_free l a access.Shared again (at.Park to) stands decided = absurd (parks_wait Try to stands refl)
shares_free l a access.Shared again to stands decided = absurd stands
shares_free l a access.Upgradable again at.Load stands decided = (refl, refl, refl)
shares_free l a access.Upgradable again (at.Decide seen) stands decided =
    by_decision l (purpose.Enter access.Upgradable Try) seen
    (decided_for a (purpose.Enter access.Upgradable Try) seen) (never_parks a access.Upgradable seen) decided
shares_free l a access.Upgradable again (at.Park to) stands decided = absurd (parks_wait Try to stands refl)
shares_free l a access.Upgradable again to stands decided = absurd stands

upgrades_free : (l : ℕ) (a : Admission) (again : Bool) (to : RwLockAt) → StandsAt (purpose.Upgrade Try) again
    to
    → IsDecided a (purpose.Upgrade Try) to
    → IsFree (act_of (RwLock l a (place (purpose.Upgrade Try) again to)))
upgrades_free l a again at.Load stands decided = (refl, refl, refl)
upgrades_free l a again (at.Decide seen) stands decided = by_decision l (purpose.Upgrade Try) seen
    (decided_for a (purpose.Upgrade Try) seen) (never_upgrades a seen) decided
upgrades_free l a again to stands decided = absurd stands

plain_free : (l : ℕ) (a : Admission) (q : RwLockPurpose) (again : Bool) (to : RwLockAt) → StandsAt q again to
    → IsDecided a q to → (rights : ℕ → Rights)
    → IsTry (call_state (RwLock l a (place q again to)) rights).purpose
    → IsFree (act_of (RwLock l a (place q again to)))
plain_free l a (purpose.Enter x Try) again to stands decided rights h = shares_free l a x again to stands
    decided
plain_free l a (purpose.Upgrade Try) again to stands decided rights h = upgrades_free l a again to stands
    decided
plain_free l a (purpose.Enter x how) again to stands decided rights h = absurd cc
plain_free l a (purpose.Upgrade how) again to stands decided rights h = absurd cc
plain_free l a (purpose.Release x) again to stands decided rights h = absurd h
plain_free l a (purpose.Downgrade d) again to stands decided rights h = absurd cc

handed_free : (l : ℕ) (a : Admission) (x : Access) (how : Patience) (b : Bool) (to : HandedAt)
    → WaitsWithPatience b how → (rights : ℕ → Rights)
    → IsTry (call_state (RwLock l a (fair.Handed x how b to)) rights).purpose
    → IsFree (act_of (RwLock l a (fair.Handed x how b to)))
handed_free l a x how true to waits rights h = absurd h
handed_free l a x Patient false to waits rights h = absurd cc
handed_free l a x Timed false to waits rights h = absurd cc
handed_free l a x Try false to waits rights h = absurd waits

call_free : (l : ℕ) (a : Admission) (c : RwLockCallPlace) → CallStands a c → (rights : ℕ → Rights)
    → IsTry (call_state (RwLock l a c) rights).purpose → IsFree (act_of (RwLock l a c))
call_free l a (fair.Plain p) stands rights h = plain_free l a p.purpose p.retries p.at stands.place
    stands.decided rights h
call_free l a (fair.Bump p) stands rights h = absurd h
call_free l a (fair.PeekQueue x) stands rights h = absurd h
call_free l a (fair.HandOver x true to) stands rights h = absurd h
call_free l a (fair.HandOver x false to) stands rights h = absurd h
call_free l a (fair.Handed x how b to) stands rights h = handed_free l a x how b to stands rights h

-- ---------------------------------------------------------------- any place

place_free : (w : State) (p : Place) → FitsItsLock w p → (rights : ℕ → Rights)
    → IsTry (call_state p rights).purpose → IsFree (act_of p)
place_free w Idle fits rights h = absurd h
place_free w (Mutex l at) fits rights h = (mutex_row_facts l at).tries refl h
place_free w (RwLock l a c) fits rights h = call_free l a c fits.1 rights h
place_free w (Once l at) fits rights h = (once_facts l at).tries refl h
place_free w (Semaphore l at) fits rights h = (semaphore_facts l at).tries refl h
place_free w (Condvar l (condvar.Wait m timed to)) fits rights h = absurd h
place_free w (Condvar l (condvar.Look all)) fits rights h = absurd h
place_free w (Condvar l (condvar.Notify all m to)) fits rights h = absurd h

pub tries_go : (w : State) → IsInductive w → (t : ℕ) → IsTry (call_at w t).purpose
    → IsFree (act_of (place_at w t))
tries_go w inductive t h = place_free w (place_at w t) (inductive.stands.calls t) _ h
