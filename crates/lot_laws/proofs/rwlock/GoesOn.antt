-- A conversion or a roll-back that works on the word while threads wait does not end by that step.
use Rattle.lot_laws.proofs.Imports
use Imports.{ℕ, Bool, true, false, Option, Some, None, if◌then◌else◌, ◌≡◌, ◌≢◌, ◌<◌, ◌⊎◌, is_some, inl, inr}
use Imports.{length, nat_lt, refl, sym, ◌∙◌, ap, subst, Op, Downgrade, Patient, Step, Turn, has_parked, Rights}
use Imports.{Rules, rights_of, Line, Main, Second, has_readers, Act, Value, Next, outcome_of, IsDowngrade}
use Imports.{Admission, RwLockPlace, RwLockAt, ParkAt, RwLockPurpose, DowngradesAt, StandsAt, act_at, next_at}
use Imports.{park_act, park_next, parks_at, start_of, wakes_or_ends, want_at, enters_late, gone_to}
use Imports.{has_given_up, late_at, looking_at, purpose_by, rwlock_profile, RwLockCallPlace, CallStands}
use Imports.{IsOfBump, bump_next, call_act, plain_next, Place, Idle, Mutex, RwLock, Once, Condvar, Semaphore}
use Imports.{call_profile, in_call, OncePlace, CondvarPlace, mutex_act, semaphore_act, IsOwn, call_runs_none}
use Imports.{mutex_own, semaphore_own, ltb-true, Call, MutexPlace, SemaphorePlace, both, Want, act_of}
use Imports.{in_rwlock, is_idle, key_in, late_key, respins_from, next_act, next_place, profile, rwlock_does}
use Imports.{rwlock_goes, location, location_at, key_of, State, after, can_begin, can_close, can_do, can_turn}
use Imports.{closed_place, go_outcome, is_free_under, is_open_to, is_possible, kind_at, place_at, reply_to}
use Imports.{runs_closure, state_after_go, state_after_turn, step_outcome, turn_outcome, word_at}
use Imports.{GivesWayWhileSomeWait, IsInside, LetsMoreIn, TakesNext, sort_at, call_at, call_state, lock_state}
use Imports.{FitsItsLock, IsInductive}
use Rattle.spec_locks.specs.declared.calls.Access.TheVariants as access
use Rattle.spec_locks.specs.declared.calls.Downgrade.TheVariants as downgrade
use Rattle.spec_locks.specs.declared.calls.Turn.TheVariants as turn
use Rattle.spec_locks.specs.declared.outcomes.Answer.TheVariants as answer
use Rattle.spec_locks.specs.declared.outcomes.Outcome.TheVariants as told
use Rattle.spec_locks.specs.Locks as locks
use Rattle.steps_base.specs.declared.acts.Act.TheVariants as act
use Rattle.steps_base.specs.declared.acts.Next.TheVariants as next
use Rattle.steps_rwlock.specs.declared.places.RwLockAt.TheVariants as at
use Rattle.steps_rwlock.specs.declared.park.ParkAt.TheVariants as parking
use Rattle.steps_rwlock.specs.declared.release.WakeAt.TheVariants as waking
use Rattle.steps_rwlock.specs.declared.purposes.RwLockPurpose.TheVariants as purpose
use Rattle.steps_rwlock_fair.specs.declared.places.RwLockCallPlace.TheVariants as fair
use Rattle.steps_once.specs.declared.places.OncePlace.TheVariants as once
use Rattle.spec_locks.specs.declared.calls.OnceCall.TheVariants as once_call
use Rattle.steps_condvar.specs.declared.places.CondvarPlace.TheVariants as condvar
use Rattle.steps_mutex.specs.declared.lock.Entry.TheVariants as entry
use Rattle.steps_mutex.specs.declared.places.MutexPlace.TheVariants as mutex
use Rattle.steps_semaphore.specs.declared.places.SemaphorePlace.TheVariants as semaphore
use Rattle.steps_base.specs.declared.acts.TakeWhich.TheVariants as whom
use Rattle.lot_laws.specs.Locations.{Location}
use Rattle.lot_laws.specs.Owing.{kept_by}
use Rattle.lot_laws.proofs.calls.OwnPlace.{gone_place, gone_told}
use Rattle.lot_laws.proofs.machine.Parts.{IsSingle, location_here, next_of}
use Rattle.lot_laws.proofs.sites.StandsMoved.{mutex_rules}
use Rattle.lot_laws.proofs.sites.LawsKept.{parked_read}

-- ---------------------------------------------------------------- a place

-- the thread goes on to an act that no thread sleeps at, and its call doesn't end
abbrev Onward : ℕ → Admission → Next RwLockPlace → Type 0
Onward k a (next.At q) = outcome_of (act_at k a q q.at) ≡ told.Step
Onward k a (next.End answer) = ⊥

module _ (k : ℕ) (a : Admission) (seen : ℕ) (parked : has_parked seen ≡ true) (j : ℕ) (f : Op) where
  abbrev at_place : RwLockPurpose → Bool → RwLockAt → RwLockPlace
  at_place q again to = record { purpose = q; retries = again; at = to }

  wakes : (p : RwLockPlace) (b : Bool) → b ≡ true → Onward k a (wakes_or_ends p Main b)
  wakes p true e = refl
  wakes p false e = absurd cc

  rolls : (p : RwLockPlace) (b : Bool) → b ≡ true → Onward k a (if b then next.At (record {
    purpose = p.purpose;
    retries = p.retries;
    at = at.Wake Main waking.Enter;
  }) else next.End answer.No)
  rolls p true e = refl
  rolls p false e = absurd cc

  -- a downgrade
  downgrades : (d : Downgrade) (again : Bool) (to : RwLockAt) → DowngradesAt to
      → act_at k a (at_place (purpose.Downgrade d) again to) to ≡ act.Word j f
      → Onward k a (next_at a (at_place (purpose.Downgrade d) again to) to (Value seen))
  downgrades d again at.GiveWay stands is = wakes (at_place (purpose.Downgrade d) again at.GiveWay)
      (has_parked seen) parked
  downgrades d again (at.Wake Main waking.Enter) stands is = absurd cc
  downgrades d again (at.Wake Main waking.Take) stands is = absurd cc
  downgrades d again (at.Wake Main (waking.Clear any)) stands is = refl
  downgrades d again (at.Wake Main (waking.Leave any)) stands is = absurd cc
  downgrades d again to stands is = absurd stands

  -- a call that has given up
  clears : (q : RwLockPurpose) (again : Bool) (m : Line) (to : ParkAt) → has_given_up to ≡ true
      → park_act k a (want_at (at_place q again (parks_at m to))) m to ≡ act.Word j f
      → Onward k a (park_next (at_place q again (parks_at m to)) m to (Value seen))
  clears q again Main parking.Clear h is = refl
  clears q again Second parking.Clear h is = refl
  clears q again Main parking.GiveUp h is = absurd cc
  clears q again Second parking.GiveUp h is = absurd cc
  clears q again m to h is = absurd cc

  gives_up : (q : RwLockPurpose) (again : Bool) (to : RwLockAt) → enters_late has_given_up to ≡ true
      → act_at k a (at_place q again to) to ≡ act.Word j f
      → Onward k a (next_at a (at_place q again to) to (Value seen))
  gives_up q again (at.Park to) h is = clears q again Main to h is
  gives_up q again (at.Aside to) h is = clears q again Second to h is
  gives_up q again at.RollBack h is = rolls (at_place q again at.RollBack) (has_parked seen) parked
  gives_up q again (at.Wake m waking.Enter) h is = absurd cc
  gives_up q again (at.Wake m waking.Take) h is = absurd cc
  gives_up q again (at.Wake Main (waking.Clear any)) h is = refl
  gives_up q again (at.Wake Second (waking.Clear any)) h is = refl
  gives_up q again (at.Wake m (waking.Leave any)) h is = absurd cc
  gives_up q again to h is = absurd cc

  -- a call that only waits for ever gives up nowhere
  bumps_on : (q : RwLockPurpose) (again : Bool) (to : RwLockAt) → StandsAt q again to → IsOfBump q again
      → late_at has_given_up q to ≡ true
      → act_at k a (at_place q again to) to ≡ act.Word j f
      → Onward k a (next_at a (at_place q again to) to (Value seen))
  bumps_on (purpose.Enter x Patient) again (at.Park to) stands of h is = clears (purpose.Enter x Patient)
      again Main to h is
  bumps_on (purpose.Enter x Patient) again (at.Aside to) stands of h is = clears (purpose.Enter x Patient)
      again Second to h is
  bumps_on (purpose.Enter access.Exclusive Patient) again at.RollBack stands of h is = absurd stands
  bumps_on (purpose.Enter access.Shared Patient) again at.RollBack stands of h is = absurd stands
  bumps_on (purpose.Enter access.Upgradable Patient) again at.RollBack stands of h is = absurd stands
  bumps_on (purpose.Enter access.Exclusive Patient) again (at.Wake Main to) stands of h is = absurd stands
  bumps_on (purpose.Enter access.Exclusive Patient) again (at.Wake Second to) stands of h is = absurd stands
  bumps_on (purpose.Enter access.Shared Patient) again (at.Wake m to) stands of h is = absurd stands
  bumps_on (purpose.Enter access.Upgradable Patient) again (at.Wake m to) stands of h is = absurd stands
  bumps_on (purpose.Enter x Patient) again to stands of h is = absurd cc
  bumps_on (purpose.Release access.Shared) again to stands of h is = absurd cc
  bumps_on q again to stands of h is = absurd of

  on_plain : (n : Next RwLockPlace) → Onward k a n → outcome_of (rwlock_does k a (plain_next n)) ≡ told.Step
  on_plain (next.At q) h = h
  on_plain (next.End answer) h = absurd h

  on_bump : (q : RwLockPurpose) (n : Next RwLockPlace) → Onward k a n
      → outcome_of (rwlock_does k a (bump_next q n)) ≡ told.Step
  on_bump q (next.At p) h = h
  on_bump q (next.End answer) h = absurd h

-- ---------------------------------------------------------------- a call

abbrev LetsBy : RwLockCallPlace → (ℕ → Rights) → ℕ → Admission → ℕ → Type 0
LetsBy c r k a l = IsDowngrade (call_state (RwLock k a c) r).purpose l
    ⊎ ((call_state (RwLock k a c) r).gave_up ≡ Some l)

given_up : (b : Bool) (k l : ℕ) → (if b then Some k else None) ≡ Some l → b ≡ true
given_up true k l e = refl
given_up false k l e = absurd cc

plain_on : (k : ℕ) (a : Admission) (q : RwLockPurpose) (again : Bool) (to : RwLockAt) (seen : ℕ)
    → has_parked seen ≡ true → StandsAt q again to
    → (j : ℕ) (f : Op) (r : ℕ → Rights) (l : ℕ) → LetsBy (fair.Plain (record {
      purpose = q;
      retries = again;
      at = to;
    })) r k a l
    → act_at k a (record { purpose = q; retries = again; at = to }) to ≡ act.Word j f
    → Onward k a (next_at a (record { purpose = q; retries = again; at = to }) to (Value seen))
plain_on k a (purpose.Downgrade d) again to seen parked stands j f r l lets is =
    downgrades k a seen parked j f d again to stands is
plain_on k a (purpose.Enter x how) again to seen parked stands j f r l (inl down) is = absurd down
plain_on k a (purpose.Enter x how) again to seen parked stands j f r l (inr late) is =
    gives_up k a seen parked j f (purpose.Enter x how) again to (given_up (enters_late has_given_up to) k l
    late) is
plain_on k a (purpose.Release x) again to seen parked stands j f r l (inl down) is = absurd down
plain_on k a (purpose.Release x) again to seen parked stands j f r l (inr late) is = absurd cc
plain_on k a (purpose.Upgrade how) again to seen parked stands j f r l (inl down) is = absurd (down.1 refl)
plain_on k a (purpose.Upgrade how) again to seen parked stands j f r l (inr late) is =
    gives_up k a seen parked j f (purpose.Upgrade how) again to (given_up (enters_late has_given_up to) k l
    late) is

call_on : (k : ℕ) (a : Admission) (c : RwLockCallPlace) (seen : ℕ) → has_parked seen ≡ true → CallStands a c
    → (j : ℕ) (f : Op) (r : ℕ → Rights) (l : ℕ)
    → LetsBy c r k a l → call_act k a c ≡ act.Word j f → outcome_of (next_act (RwLock k a c) (Value seen))
    ≡ told.Step
call_on k a (fair.Plain p) seen parked stands j f r l lets is = on_plain k a seen parked j f
    (next_at a p p.at (Value seen)) (plain_on k a p.purpose p.retries p.at seen parked stands.place j f r l
    lets is)
call_on k a (fair.Bump p) seen parked stands j f r l (inl down) is = absurd down
call_on k a (fair.Bump p) seen parked stands j f r l (inr late) is = on_bump k a seen parked j f p.purpose
    (next_at a p p.at (Value seen)) (bumps_on k a seen parked j f p.purpose p.retries p.at stands.0.place
    stands.1 (given_up (late_at has_given_up p.purpose p.at) k l late) is)
call_on k a (fair.PeekQueue x) seen parked stands j f r l (inl down) is = absurd down
call_on k a (fair.PeekQueue x) seen parked stands j f r l (inr late) is = absurd cc
call_on k a (fair.HandOver x true to) seen parked stands j f r l (inl down) is = absurd down
call_on k a (fair.HandOver x false to) seen parked stands j f r l (inl down) is = absurd down
call_on k a (fair.HandOver x b to) seen parked stands j f r l (inr late) is = absurd cc
call_on k a (fair.Handed x how true to) seen parked stands j f r l (inl down) is = absurd down
call_on k a (fair.Handed x how false to) seen parked stands j f r l (inl down) is = absurd down
call_on k a (fair.Handed x how b to) seen parked stands j f r l (inr late) is = absurd cc

-- ---------------------------------------------------------------- any call

gave_there : (b : Bool) (k l : ℕ) → (if b then Some k else None) ≡ Some l → k ≡ l
gave_there true k l e = cc
gave_there false k l e = absurd cc

-- an act on a word is on that of the lock that the thread calls
on_own : (k : ℕ) (a : Act) → IsOwn k a → (l : ℕ) (f : Op) → a ≡ act.Word l f → k ≡ l
on_own k (act.Word j g) own l f e = let h : j ≡ l = cc in sym own ∙ h
on_own k (act.HandOver j g) own l f e = absurd cc
on_own k (act.Enter keys) own l f e = absurd cc
on_own k (act.Park j key check x) own l f e = absurd cc
on_own k (act.Stand key x) own l f e = absurd cc
on_own k (act.Take key x) own l f e = absurd cc
on_own k (act.Requeue from to how) own l f e = absurd cc
on_own k (act.Remove key) own l f e = absurd cc
on_own k (act.Leave keys x) own l f e = absurd cc
on_own k act.Rest own l f e = absurd cc
on_own k act.Sleep own l f e = absurd cc
on_own k act.Accept own l f e = absurd cc
on_own k (act.Closure x) own l f e = absurd cc
on_own k (act.End x) own l f e = absurd cc

-- a place of a call of a lock that is shared
record IsOfShared (p : Place) : Type 0 where
  pub lock : ℕ
  pub admission : Admission
  pub call : RwLockCallPlace
  pub is : p ≡ RwLock lock admission call
  pub stands : CallStands admission call

abbrev Lets : Place → (ℕ → Rights) → ℕ → Type 0
Lets p r l = IsDowngrade (call_state p r).purpose l ⊎ ((call_state p r).gave_up ≡ Some l)

module _ (w : State) (r : ℕ → Rights) (l : ℕ) (shared : has_readers (sort_at w l) ≡ true) (f : Op) where
  not_shared : (k : ℕ) (sort : locks.Sort) → k ≡ l → sort_at w k ≡ sort → has_readers sort ≡ false → ⊥
  not_shared k sort own e none = let g : false ≡ true = sym none ∙ ap has_readers (sym e ∙ ap (sort_at w) own)
      ∙ shared in cc

  -- a call of a `Once`, or of a condition variable, lets nobody in so
  once_none : (k : ℕ) (at : OncePlace) → sort_at w k ≡ locks.Once → Lets (Once k at) r l → ⊥
  once_none k (once.Look (once_call.CallOnce forced) again at) sort (inl down) = down
  once_none k (once.Look (once_call.Wait forced) again at) sort (inl down) = down
  once_none k (once.Look once_call.WaitTimed again at) sort (inl down) = down
  once_none k (once.Run forced at) sort (inl down) = down
  once_none k (once.GiveUp again at) sort (inl down) = down
  once_none k (once.Look c again at) sort (inr late) = not_shared k locks.Once
      (gave_there (profile (Once k (once.Look c again at))).gave_up k l late) sort refl
  once_none k (once.Run forced at) sort (inr late) = not_shared k locks.Once
      (gave_there (profile (Once k (once.Run forced at))).gave_up k l late) sort refl
  once_none k (once.GiveUp again at) sort (inr late) = not_shared k locks.Once
      (gave_there (profile (Once k (once.GiveUp again at))).gave_up k l late) sort refl

  condvar_none : (k : ℕ) (at : CondvarPlace) → sort_at w k ≡ locks.Condvar → Lets (Condvar k at) r l → ⊥
  condvar_none k (condvar.Wait m timed at) sort (inl down) = down
  condvar_none k (condvar.Look all) sort (inl down) = down
  condvar_none k (condvar.Notify all m at) sort (inl down) = down
  condvar_none k (condvar.Wait m timed at) sort (inr late) =
      not_shared k locks.Condvar (gave_there (profile (Condvar k (condvar.Wait m timed at))).gave_up k l late)
      sort refl
  condvar_none k (condvar.Look all) sort (inr late) = not_shared k locks.Condvar
      (gave_there (profile (Condvar k (condvar.Look all))).gave_up k l late) sort refl
  condvar_none k (condvar.Notify all m at) sort (inr late) =
      not_shared k locks.Condvar (gave_there (profile (Condvar k (condvar.Notify all m at))).gave_up k l late)
      sort refl

  of_shared : (p : Place) → FitsItsLock w p → act_of p ≡ act.Word l f → Lets p r l → IsOfShared p
  of_shared Idle fits is lets = absurd cc
  of_shared (Mutex k at) fits is lets =
      absurd (not_shared k locks.Mutex (on_own k (mutex_act k at) (mutex_own k at) l f is)
      (ap (λ (x : Rules). x.sort) (mutex_rules (kind_at w k) fits)) refl)
  of_shared (Once k at) fits is lets = absurd (once_none k at fits lets)
  of_shared (Semaphore k at) fits is lets =
      absurd (not_shared k locks.Semaphore (on_own k (semaphore_act k at) (semaphore_own k at) l f is) fits.0
      refl)
  of_shared (Condvar k at) fits is lets = absurd (condvar_none k at fits.sort lets)
  of_shared (RwLock k a c) fits is lets = record {
    lock = k;
    admission = a;
    call = c;
    is = refl;
    stands = fits.1;
  }

-- there it looks at no word once more
late_quiet : (a : Admission) (q : RwLockPurpose) (again : Bool) (to : RwLockAt) → enters_late has_given_up to
    ≡ true
    → looking_at a (record { purpose = q; retries = again; at = to }) to ≡ None
late_quiet a q again (at.Park to) h = refl
late_quiet a q again (at.Aside to) h = refl
late_quiet a q again at.RollBack h = refl
late_quiet a q again (at.Wake m to) h = refl
late_quiet a q again to h = absurd cc

plain_quiet : (k : ℕ) (a : Admission) (q : RwLockPurpose) (again : Bool) (to : RwLockAt) → StandsAt q again to
    → (r : ℕ → Rights) (l : ℕ)
    → LetsBy (fair.Plain (record { purpose = q; retries = again; at = to })) r k a l → looking_at a (record {
      purpose = q;
      retries = again;
      at = to;
    }) to ≡ None
plain_quiet k a (purpose.Downgrade d) again at.GiveWay stands r l lets = refl
plain_quiet k a (purpose.Downgrade d) again (at.Wake Main to) stands r l lets = refl
plain_quiet k a (purpose.Downgrade d) again to stands r l lets = absurd stands
plain_quiet k a (purpose.Enter x how) again to stands r l (inl down) = absurd down
plain_quiet k a (purpose.Enter x how) again to stands r l (inr late) = late_quiet a (purpose.Enter x how)
    again to (given_up (enters_late has_given_up to) k l late)
plain_quiet k a (purpose.Release x) again to stands r l (inl down) = absurd down
plain_quiet k a (purpose.Release x) again to stands r l (inr late) = absurd cc
plain_quiet k a (purpose.Upgrade how) again to stands r l (inl down) = absurd (down.1 refl)
plain_quiet k a (purpose.Upgrade how) again to stands r l (inr late) = late_quiet a (purpose.Upgrade how)
    again to (given_up (enters_late has_given_up to) k l late)

bump_quiet : (k : ℕ) (a : Admission) (q : RwLockPurpose) (again : Bool) (to : RwLockAt) (l : ℕ)
    → (if late_at has_given_up q to then Some k else None) ≡ Some l
    → looking_at a (record { purpose = q; retries = again; at = to }) to ≡ None
bump_quiet k a (purpose.Enter x how) again to l late = late_quiet a (purpose.Enter x how) again to
    (given_up (enters_late has_given_up to) k l late)
bump_quiet k a (purpose.Upgrade how) again to l late = late_quiet a (purpose.Upgrade how) again to
    (given_up (enters_late has_given_up to) k l late)
bump_quiet k a q again to l late = absurd cc

none_looks : (k : ℕ) (a : Admission) (b : Bool) (p : RwLockPlace) (o : Option RwLockAt) → o ≡ None
    → in_rwlock k a (in_call b (gone_to p o)) ≡ None
none_looks k a b p None e = refl
none_looks k a b p (Some x) e = absurd cc

call_quiet : (k : ℕ) (a : Admission) (c : RwLockCallPlace) → CallStands a c → (r : ℕ → Rights) (l : ℕ)
    → LetsBy c r k a l → respins_from (RwLock k a c) ≡ None
call_quiet k a (fair.Plain p) stands r l lets = none_looks k a false p (looking_at a p p.at)
    (plain_quiet k a p.purpose p.retries p.at stands.place r l lets)
call_quiet k a (fair.Bump p) stands r l (inl down) = absurd down
call_quiet k a (fair.Bump p) stands r l (inr late) = none_looks k a true p (looking_at a p p.at)
    (bump_quiet k a p.purpose p.retries p.at l late)
call_quiet k a (fair.PeekQueue x) stands r l lets = refl
call_quiet k a (fair.HandOver x b to) stands r l lets = refl
call_quiet k a (fair.Handed x how b to) stands r l lets = refl

-- ---------------------------------------------------------------- each turn

module _ (w : State) (t : ℕ) (inductive : IsInductive w) (l : ℕ) (gives : GivesWayWhileSomeWait w t l) where
  abbrev rights : ℕ → Rights
  rights k = rights_of (lock_state w k) t

  lets_now : Lets (place_at w t) rights l
  lets_now = elim gives.lets_in [ inl down ↦ inl down | inr late ↦ inr late.0 ]

  there : IsOfShared (place_at w t)
  there = of_shared w rights l gives.shared gives.works.0 (place_at w t) (inductive.stands.calls t)
      gives.works.1
      lets_now

  lets_there : LetsBy there.call rights there.lock there.admission l
  lets_there = subst (λ p. Lets p rights l) there.is lets_now

  set_there : has_parked (word_at w l) ≡ true
  set_there = sym (parked_read (sort_at w l) (word_at w l) gives.shared) ∙ gives.told

  onward : outcome_of (next_act (place_at w t) (Value (word_at w l))) ≡ told.Step
  onward = subst (λ p. outcome_of (next_act p (Value (word_at w l))) ≡ told.Step) (sym there.is)
      (call_on there.lock there.admission there.call (word_at w l) set_there there.stands l gives.works.0
      rights l lets_there (sym (ap act_of there.is) ∙ gives.works.1))

  goes_outcome : go_outcome w t ≡ told.Step
  goes_outcome = gone_told w t (subst IsSingle (sym there.is) tt)
      ∙ ap (λ r. outcome_of (next_act (place_at w t) r)) (ap (reply_to w t) gives.works.1) ∙ onward

  looks_none : respins_from (place_at w t) ≡ None
  looks_none = ap respins_from there.is
      ∙ call_quiet there.lock there.admission there.call there.stands rights l
      lets_there

  no_closure : runs_closure (act_of (place_at w t)) ≡ false
  no_closure = ap runs_closure gives.works.1

  closes_not : (x : Bool) → can_close w t x ≡ true → ⊥
  closes_not x can = let f : false ≡ true = sym no_closure
      ∙ (both (runs_closure (act_of (place_at w t))) (can_do w (act_of (closed_place w t x))) can).0 in cc

  by_turn : (x : Turn) → can_turn w t x ≡ true → turn_outcome w t x ≡ told.Step
  by_turn (turn.Begin c) can = refl
  by_turn turn.Go can = goes_outcome
  by_turn turn.Spin can = absurd (let f : false ≡ true = sym (ap is_some looks_none) ∙ can in cc)
  by_turn turn.Late can = refl
  by_turn turn.Ok can = absurd (closes_not true can)
  by_turn turn.Err can = absurd (closes_not false can)

pub goes_on_waking : (w : State) (s : Step) → IsInductive w → (l : ℕ) → step_outcome w s ≢ told.NotNow
    → GivesWayWhileSomeWait w s.thread l → step_outcome w s ≡ told.Step
goes_on_waking w s inductive l possible gives = either (is_possible w s) refl possible
  where
    either : (b : Bool) → is_possible w s ≡ b → (if b then turn_outcome w s.thread s.turn else told.NotNow)
        ≢ told.NotNow
        → (if b then turn_outcome w s.thread s.turn else told.NotNow) ≡ told.Step
    either true can n = by_turn w s.thread inductive l gives s.turn (both (nat_lt s.thread (length w.places))
        (can_turn w s.thread s.turn) can).1
    either false can n = absurd (n refl)

-- ---------------------------------------------------------------- as it comes into the section

module _ (w : State) (t l : ℕ) (a : Admission) where
  abbrev At : RwLockPurpose → Bool → RwLockAt → Place
  At q again to = RwLock l a (fair.Plain (record { purpose = q; retries = again; at = to }))

  abbrev Then : Place → Place
  Then p = next_place p (reply_to w t (act_of p))

  abbrev Takes : Place → Option Want → Type 0
  Takes p kept = (location p).inside ≡ Some Main → (recursive : Bool)
      × (act_of p ≡ act.Take (key_of l Main) (whom.Picked kept recursive))

  abbrev Outside : Place → Type 0
  Outside p = (m : Line) → (location p).inside ≡ Some m → ⊥

  gave_way : (d : Downgrade) (again b : Bool) (kept : Option Want)
      → Takes (rwlock_goes l a (plain_next (wakes_or_ends (record {
        purpose = purpose.Downgrade d;
        retries = again;
        at = at.GiveWay;
      }) Main b))) kept
  gave_way d again true kept = λ e. absurd cc
  gave_way d again false kept = λ e. absurd cc

  enters_so : (d : Downgrade) (again : Bool)
      → Takes (Then (At (purpose.Downgrade d) again (at.Wake Main waking.Enter)))
      (kept_by (Some (purpose_by (purpose.Downgrade d) l)))
  enters_so downgrade.ToShared again = λ e. (a.recursive, refl)
  enters_so downgrade.ToUpgradable again = λ e. (a.recursive, refl)
  enters_so downgrade.UpgradableToShared again = λ e. (a.recursive, refl)

  downgrade_takes : (d : Downgrade) (again : Bool) (to : RwLockAt) → DowngradesAt to
      → ((location (At (purpose.Downgrade d) again to)).inside ≡ Some Main → ⊥)
      → Takes (Then (At (purpose.Downgrade d) again to)) (kept_by (Some (purpose_by (purpose.Downgrade d) l)))
  downgrade_takes d again at.GiveWay stands out = gave_way d again (has_parked (word_at w l)) _
  downgrade_takes d again (at.Wake Main waking.Enter) stands out = enters_so d again
  downgrade_takes d again (at.Wake Main waking.Take) stands out = absurd (out refl)
  downgrade_takes d again (at.Wake Main (waking.Clear any)) stands out = absurd (out refl)
  downgrade_takes d again (at.Wake Main (waking.Leave any)) stands out = absurd (out refl)
  downgrade_takes d again to stands out = absurd stands

  rolled : (q : RwLockPurpose) (again b : Bool) (kept : Option Want)
      → Takes (rwlock_goes l a (plain_next (if b then next.At (record {
        purpose = q;
        retries = again;
        at = at.Wake Main waking.Enter;
      }) else next.End answer.No))) kept
  rolled q again true kept = λ e. absurd cc
  rolled q again false kept = λ e. absurd cc

  late_takes : (q : RwLockPurpose) (again : Bool) (to : RwLockAt) → enters_late has_given_up to ≡ true
      → Outside (At q again to) → Takes (Then (At q again to)) (start_of q)
  late_takes q again (at.Park parking.Clear) h out = absurd (out Main refl)
  late_takes q again (at.Park parking.GiveUp) h out = absurd (out Main refl)
  late_takes q again (at.Aside parking.Clear) h out = absurd (out Second refl)
  late_takes q again (at.Aside parking.GiveUp) h out = absurd (out Second refl)
  late_takes q again at.RollBack h out = rolled q again (has_parked (word_at w l)) _
  late_takes q again (at.Wake Main waking.Enter) h out = λ e. (a.recursive, refl)
  late_takes q again (at.Wake Second waking.Enter) h out = λ e. absurd cc
  late_takes q again (at.Wake m waking.Take) h out = absurd (out m refl)
  late_takes q again (at.Wake m (waking.Clear any)) h out = absurd (out m refl)
  late_takes q again (at.Wake m (waking.Leave any)) h out = absurd (out m refl)
  late_takes q again to h out = absurd cc

  plain_takes : (q : RwLockPurpose) (again : Bool) (to : RwLockAt) → StandsAt q again to → (r : ℕ → Rights)
      → LetsBy (fair.Plain (record {
        purpose = q;
        retries = again;
        at = to;
      })) r l a l → ((location (At q again to)).inside ≡ Some Main → ⊥)
      → ((call_state (At q again to) r).gave_up ≡ Some l → Outside (At q again to))
      → Takes (Then (At q again to)) (kept_by (Some (purpose_by q l)))
  plain_takes (purpose.Downgrade d) again to stands r lets main out = downgrade_takes d again to stands main
  plain_takes (purpose.Enter x how) again to stands r (inl down) main out = absurd down
  plain_takes (purpose.Enter x how) again to stands r (inr late) main out =
      late_takes (purpose.Enter x how) again to (given_up (enters_late has_given_up to) l l late) (out late)
  plain_takes (purpose.Release x) again to stands r (inl down) main out = absurd down
  plain_takes (purpose.Release x) again to stands r (inr late) main out = absurd cc
  plain_takes (purpose.Upgrade how) again to stands r (inl down) main out = absurd (down.1 refl)
  plain_takes (purpose.Upgrade how) again to stands r (inr late) main out =
      late_takes (purpose.Upgrade how) again to (given_up (enters_late has_given_up to) l l late) (out late)

  -- a bump never gives up
  bumps_not : (q : RwLockPurpose) (again : Bool) (to : RwLockAt) → StandsAt q again to → IsOfBump q again
      → late_at has_given_up q to ≡ true
      → Outside (RwLock l a (fair.Bump (record { purpose = q; retries = again; at = to }))) → ⊥
  bumps_not (purpose.Enter x Patient) again (at.Park parking.Clear) stands of h out = out Main refl
  bumps_not (purpose.Enter x Patient) again (at.Park parking.GiveUp) stands of h out = out Main refl
  bumps_not (purpose.Enter x Patient) again (at.Aside parking.Clear) stands of h out = out Second refl
  bumps_not (purpose.Enter x Patient) again (at.Aside parking.GiveUp) stands of h out = out Second refl
  bumps_not (purpose.Enter access.Exclusive Patient) again at.RollBack stands of h out = stands
  bumps_not (purpose.Enter access.Shared Patient) again at.RollBack stands of h out = stands
  bumps_not (purpose.Enter access.Upgradable Patient) again at.RollBack stands of h out = stands
  bumps_not (purpose.Enter access.Exclusive Patient) again (at.Wake Main to) stands of h out = stands
  bumps_not (purpose.Enter access.Exclusive Patient) again (at.Wake Second to) stands of h out = stands
  bumps_not (purpose.Enter access.Shared Patient) again (at.Wake m to) stands of h out = stands
  bumps_not (purpose.Enter access.Upgradable Patient) again (at.Wake m to) stands of h out = stands
  bumps_not (purpose.Enter x Patient) again to stands of h out = absurd cc
  bumps_not (purpose.Release access.Shared) again to stands of h out = absurd cc
  bumps_not q again to stands of h out = of

  call_takes : (c : RwLockCallPlace) → CallStands a c → (r : ℕ → Rights) → LetsBy c r l a l
      → ((location (RwLock l a c)).inside ≡ Some Main → ⊥)
      → ((call_state (RwLock l a c) r).gave_up ≡ Some l → Outside (RwLock l a c))
      → Takes (Then (RwLock l a c)) (kept_by (call_state (RwLock l a c) r).purpose)
  call_takes (fair.Plain p) stands r lets main out = plain_takes p.purpose p.retries p.at stands.place r lets
      main out
  call_takes (fair.Bump p) stands r (inl down) main out = absurd down
  call_takes (fair.Bump p) stands r (inr late) main out =
      absurd (bumps_not p.purpose p.retries p.at stands.0.place stands.1
      (given_up (late_at has_given_up p.purpose p.at) l l late) (out late))
  call_takes (fair.PeekQueue x) stands r (inl down) main out = absurd down
  call_takes (fair.PeekQueue x) stands r (inr late) main out = absurd cc
  call_takes (fair.HandOver x true to) stands r (inl down) main out = absurd down
  call_takes (fair.HandOver x false to) stands r (inl down) main out = absurd down
  call_takes (fair.HandOver x b to) stands r (inr late) main out = absurd cc
  call_takes (fair.Handed x how true to) stands r (inl down) main out = absurd down
  call_takes (fair.Handed x how false to) stands r (inl down) main out = absurd down
  call_takes (fair.Handed x how b to) stands r (inr late) main out = absurd cc

  -- nor is its time up there
  late_none : (q : RwLockPurpose) (again : Bool) (to : RwLockAt) → enters_late has_given_up to ≡ true
      → (rwlock_profile a (record {
        purpose = q;
        retries = again;
        at = to;
      })).late_line ≡ None
  late_none q again (at.Park parking.Clear) h = refl
  late_none q again (at.Park parking.GiveUp) h = refl
  late_none q again (at.Aside parking.Clear) h = refl
  late_none q again (at.Aside parking.GiveUp) h = refl
  late_none q again at.RollBack h = refl
  late_none q again (at.Wake m to) h = refl
  late_none q again to h = absurd cc

  plain_late : (q : RwLockPurpose) (again : Bool) (to : RwLockAt) → StandsAt q again to → (r : ℕ → Rights)
      → LetsBy (fair.Plain (record {
        purpose = q;
        retries = again;
        at = to;
      })) r l a l → (rwlock_profile a (record { purpose = q; retries = again; at = to })).late_line ≡ None
  plain_late (purpose.Downgrade d) again at.GiveWay stands r lets = refl
  plain_late (purpose.Downgrade d) again (at.Wake Main to) stands r lets = refl
  plain_late (purpose.Downgrade d) again to stands r lets = absurd stands
  plain_late (purpose.Enter x how) again to stands r (inl down) = absurd down
  plain_late (purpose.Enter x how) again to stands r (inr late) = late_none (purpose.Enter x how) again to
      (given_up (enters_late has_given_up to) l l late)
  plain_late (purpose.Release x) again to stands r (inl down) = absurd down
  plain_late (purpose.Release x) again to stands r (inr late) = absurd cc
  plain_late (purpose.Upgrade how) again to stands r (inl down) = absurd (down.1 refl)
  plain_late (purpose.Upgrade how) again to stands r (inr late) = late_none (purpose.Upgrade how) again to
      (given_up (enters_late has_given_up to) l l late)

  bump_late : (q : RwLockPurpose) (again : Bool) (to : RwLockAt) → late_at has_given_up q to ≡ true
      → (rwlock_profile a (record {
        purpose = q;
        retries = again;
        at = to;
      })).late_line ≡ None
  bump_late (purpose.Enter x how) again to h = late_none (purpose.Enter x how) again to h
  bump_late (purpose.Upgrade how) again to h = late_none (purpose.Upgrade how) again to h
  bump_late q again to h = absurd cc

  call_late : (c : RwLockCallPlace) → CallStands a c → (r : ℕ → Rights) → LetsBy c r l a l
      → (call_profile a c).late_line ≡ None
  call_late (fair.Plain p) stands r lets = plain_late p.purpose p.retries p.at stands.place r lets
  call_late (fair.Bump p) stands r (inl down) = absurd down
  call_late (fair.Bump p) stands r (inr late) = bump_late p.purpose p.retries p.at
      (given_up (late_at has_given_up p.purpose p.at) l l late)
  call_late (fair.PeekQueue x) stands r lets = refl
  call_late (fair.HandOver x b to) stands r lets = refl
  call_late (fair.Handed x how b to) stands r lets = refl

-- ---------------------------------------------------------------- a call that lets more in

record IsOfSharedAt (p : Place) (l : ℕ) : Type 0 where
  pub admission : Admission
  pub call : RwLockCallPlace
  pub is : p ≡ RwLock l admission call
  pub stands : CallStands admission call

module _ (w : State) (r : ℕ → Rights) (l : ℕ) (shared : has_readers (sort_at w l) ≡ true) where
  other_sort : (k : ℕ) (sort : locks.Sort) → k ≡ l → sort_at w k ≡ sort → has_readers sort ≡ false → ⊥
  other_sort k sort own e none = let g : false ≡ true = sym none ∙ ap has_readers (sym e ∙ ap (sort_at w) own)
      ∙ shared in cc

  mutex_down : (k : ℕ) (at : MutexPlace) → IsDowngrade (call_state (Mutex k at) r).purpose l → ⊥
  mutex_down k (mutex.Lock entry.Lock again at) down = down
  mutex_down k (mutex.Lock entry.LockTimed again at) down = down
  mutex_down k (mutex.Lock entry.Bump again at) down = down
  mutex_down k mutex.TryLock down = down
  mutex_down k (mutex.Unlock at) down = down
  mutex_down k mutex.UnlockFair down = down
  mutex_down k mutex.Bump down = down
  mutex_down k (mutex.HandOff true at) down = down
  mutex_down k (mutex.HandOff false at) down = down

  semaphore_down : (k : ℕ) (at : SemaphorePlace) → IsDowngrade (call_state (Semaphore k at) r).purpose l → ⊥
  semaphore_down k (semaphore.Acquire timed again at) down = down
  semaphore_down k (semaphore.Try at) down = down
  semaphore_down k (semaphore.Release at) down = down

  once_down : (k : ℕ) (at : OncePlace) → IsDowngrade (call_state (Once k at) r).purpose l → ⊥
  once_down k (once.Look (once_call.CallOnce forced) again at) down = down
  once_down k (once.Look (once_call.Wait forced) again at) down = down
  once_down k (once.Look once_call.WaitTimed again at) down = down
  once_down k (once.Run forced at) down = down
  once_down k (once.GiveUp again at) down = down

  condvar_down : (k : ℕ) (at : CondvarPlace) → IsDowngrade (call_state (Condvar k at) r).purpose l → ⊥
  condvar_down k (condvar.Wait m timed at) down = down
  condvar_down k (condvar.Look all) down = down
  condvar_down k (condvar.Notify all m at) down = down

  condvar_late : (k : ℕ) (at : CondvarPlace) → (call_state (Condvar k at) r).gave_up ≡ Some l → k ≡ l
  condvar_late k (condvar.Wait m timed at) late =
      gave_there (profile (Condvar k (condvar.Wait m timed at))).gave_up k l late
  condvar_late k (condvar.Look all) late = gave_there (profile (Condvar k (condvar.Look all))).gave_up k l
      late
  condvar_late k (condvar.Notify all m at) late =
      gave_there (profile (Condvar k (condvar.Notify all m at))).gave_up k l late

  rwlock_is : (k : ℕ) (a : Admission) (c : RwLockCallPlace) → LetsBy c r k a l → k ≡ l
  rwlock_is k a c (inr late) = gave_there (call_profile a c).gave_up k l late
  rwlock_is k a (fair.Plain p) (inl down) = by_purpose p.purpose down
    where
      by_purpose : (q : RwLockPurpose) → IsDowngrade (Some (purpose_by q k)) l → k ≡ l
      by_purpose (purpose.Enter x how) h = absurd h
      by_purpose (purpose.Release x) h = absurd h
      by_purpose (purpose.Downgrade d) h = h.0
      by_purpose (purpose.Upgrade how) h = h.0
  rwlock_is k a (fair.Bump p) (inl down) = absurd down
  rwlock_is k a (fair.PeekQueue x) (inl down) = absurd down
  rwlock_is k a (fair.HandOver x true to) (inl down) = absurd down
  rwlock_is k a (fair.HandOver x false to) (inl down) = absurd down
  rwlock_is k a (fair.Handed x how true to) (inl down) = absurd down
  rwlock_is k a (fair.Handed x how false to) (inl down) = absurd down

  shared_place : (p : Place) → FitsItsLock w p → Lets p r l → IsOfSharedAt p l
  shared_place Idle fits (inl down) = absurd down
  shared_place Idle fits (inr late) = absurd cc
  shared_place (Mutex k at) fits (inl down) = absurd (mutex_down k at down)
  shared_place (Mutex k at) fits (inr late) =
      absurd (other_sort k locks.Mutex (gave_there (profile (Mutex k at)).gave_up k l late)
      (ap (λ (x : Rules). x.sort) (mutex_rules (kind_at w k) fits)) refl)
  shared_place (Once k at) fits (inl down) = absurd (once_down k at down)
  shared_place (Once k at) fits (inr late) =
      absurd (other_sort k locks.Once (gave_there (profile (Once k at)).gave_up k l late) fits refl)
  shared_place (Semaphore k at) fits (inl down) = absurd (semaphore_down k at down)
  shared_place (Semaphore k at) fits (inr late) =
      absurd (other_sort k locks.Semaphore (gave_there (profile (Semaphore k at)).gave_up k l late) fits.0
      refl)
  shared_place (Condvar k at) fits (inl down) = absurd (condvar_down k at down)
  shared_place (Condvar k at) fits (inr late) =
      absurd (other_sort k locks.Condvar (condvar_late k at late) fits.sort refl)
  shared_place (RwLock k a c) fits lets = record {
    admission = a;
    call = c;
    is = ap (λ j. RwLock j a c) (rwlock_is k a c lets);
    stands = fits.1;
  }

module _ (w : State) (t : ℕ) (inductive : IsInductive w) (l : ℕ) (lets : LetsMoreIn w t l)
    (main : IsInside w t l Main → ⊥) where
  abbrev own_rights : ℕ → Rights
  own_rights k = rights_of (lock_state w k) t

  lets_so : Lets (place_at w t) own_rights l
  lets_so = elim lets.1 [ inl down ↦ inl down | inr late ↦ inr late.0 ]

  here : IsOfSharedAt (place_at w t) l
  here = shared_place w own_rights l lets.0 (place_at w t) (inductive.stands.calls t) lets_so

  abbrev p : Place
  p = RwLock l here.admission here.call

  lets_here : LetsBy here.call own_rights l here.admission l
  lets_here = subst (λ x. Lets x own_rights l) here.is lets_so

  -- by its place it is inside a section where it is
  inside_so : (m : Line) → (location p).inside ≡ Some m → IsInside w t l m
  inside_so m e = (inductive.stands.sections t l m).0 (ap (λ x. (location_at x l).inside) here.is
      ∙ ap (λ (x : Location). x.inside) (location_here l p refl) ∙ e)

  outside : (call_state p own_rights).gave_up ≡ Some l → (m : Line) → (location p).inside ≡ Some m → ⊥
  outside late m e = elim lets.1 [
    | inl down ↦ down_late here.admission here.call
        (subst (λ x. IsDowngrade (call_state x own_rights).purpose l) here.is down) late
    | inr given ↦ given.1 m (inside_so m e)
  ]
    where
      none : (q : RwLockPurpose) (to : RwLockAt) → IsDowngrade (Some (purpose_by q l)) l
          → (if late_at has_given_up q to then Some l else None) ≡ Some l → ⊥
      none (purpose.Downgrade d) to down g = cc
      none (purpose.Enter x how) to down g = down
      none (purpose.Release x) to down g = down
      none (purpose.Upgrade how) to down g = down.1 refl

      down_late : (a : Admission) (c : RwLockCallPlace)
          → IsDowngrade (call_state (RwLock l a c) own_rights).purpose l
          → (call_state (RwLock l a c) own_rights).gave_up ≡ Some l → ⊥
      down_late a (fair.Plain p) down g = none p.purpose p.at down g
      down_late a (fair.Bump p) down g = down
      down_late a (fair.PeekQueue x) down g = down
      down_late a (fair.HandOver x true to) down g = down
      down_late a (fair.HandOver x false to) down g = down
      down_late a (fair.Handed x how true to) down g = down
      down_late a (fair.Handed x how false to) down g = down

  then_takes : (location (next_place p (reply_to w t (act_of p)))).inside ≡ Some Main
      → (recursive : Bool) × (act_of (next_place p (reply_to w t (act_of p))) ≡ act.Take (key_of l Main)
      (whom.Picked (kept_by (call_state p own_rights).purpose) recursive))
  then_takes = call_takes w t l here.admission here.call here.stands own_rights lets_here
      (λ e. main (inside_so Main e)) outside

  -- the thread takes the waiters of the line as it goes on
  goes_takes : t < length w.places → IsInductive (state_after_go w t) → IsInside (state_after_go w t) t l Main
      → TakesNext (state_after_go w t) t l (kept_by (call_at w t).purpose)
  goes_takes there after inside =
      let single : IsSingle (place_at w t) = subst IsSingle (sym here.is) tt in
      let at_then : place_at (state_after_go w t) t ≡ next_place p (reply_to w t (act_of p)) =
      gone_place w t single there ∙ ap (λ x. next_place x (reply_to w t (act_of x))) here.is in
      let within : (location (next_place p (reply_to w t (act_of p)))).inside ≡ Some Main =
      sym (ap (λ (x : Location). x.inside) (location_here l (next_place p (reply_to w t (act_of p)))
      (next_of l p (reply_to w t (act_of p)) refl)))
      ∙ sym (ap (λ x. (location_at x l).inside) at_then) ∙ (after.stands.sections t l Main).1 inside in
      let takes = then_takes within in (
        takes.0,
        ap act_of at_then ∙ takes.1
            ∙ ap (λ x. act.Take (key_of l Main) (whom.Picked (kept_by (call_state x own_rights).purpose)
            takes.0)) (sym here.is),
      )

  late_never : late_key (place_at w t) ≡ None
  late_never = ap late_key here.is ∙ ap (key_in (Some l)) (call_late w t l here.admission here.call
      here.stands own_rights lets_here)

  looks_never : respins_from (place_at w t) ≡ None
  looks_never = ap respins_from here.is
      ∙ call_quiet l here.admission here.call here.stands own_rights l lets_here

  closes_never : (x : Bool) → can_close w t x ≡ true → ⊥
  closes_never x can = let runs =
      (both (runs_closure (act_of (place_at w t))) (can_do w (act_of (closed_place w t x))) can).0 in
      let f : false ≡ true = sym (call_runs_none l here.admission here.call)
      ∙ sym (ap (λ x. runs_closure (act_of x)) here.is) ∙ runs in cc

  busy : (c : Call) → can_begin w t c ≡ true → ⊥
  busy c can = let idle = (both (is_idle (place_at w t)) (is_open_to w t c) can).0 in let f : false ≡ true =
      sym (ap is_idle here.is) ∙ idle in cc

  turn_takes : (x : Turn) → t < length w.places → can_turn w t x ≡ true → IsInductive (state_after_turn w t x)
      → IsInside (state_after_turn w t x) t l Main
      → TakesNext (state_after_turn w t x) t l (kept_by (call_at w t).purpose)
  turn_takes (turn.Begin c) there can after inside = absurd (busy c can)
  turn_takes turn.Go there can after inside = goes_takes there after inside
  turn_takes turn.Spin there can after inside =
      absurd (let f : false ≡ true = sym (ap is_some looks_never) ∙ can in cc)
  turn_takes turn.Late there can after inside =
      absurd (let f : false ≡ true = sym (ap (is_free_under w) late_never) ∙ can in cc)
  turn_takes turn.Ok there can after inside = absurd (closes_never true can)
  turn_takes turn.Err there can after inside = absurd (closes_never false can)

pub takes_next : (w : State) (s : Step) → IsInductive w → IsInductive (after w s) → (l : ℕ)
    → LetsMoreIn w s.thread l → (IsInside w s.thread l Main → ⊥) → IsInside (after w s) s.thread l Main
    → TakesNext (after w s) s.thread l (kept_by (call_at w s.thread).purpose)
takes_next w s inductive after_is l lets main inside = either (is_possible w s) refl after_is inside
  where
    either : (b : Bool) → is_possible w s ≡ b → IsInductive (if b then state_after_turn w s.thread s.turn
        else w) → IsInside (if b then state_after_turn w s.thread s.turn else w) s.thread l Main
        → TakesNext (if b then state_after_turn w s.thread s.turn else w) s.thread l
        (kept_by (call_at w s.thread).purpose)
    either true can after_so within = let parts = both (nat_lt s.thread (length w.places))
        (can_turn w s.thread s.turn) can in
        turn_takes w s.thread inductive l lets main s.turn (ltb-true s.thread (length w.places) parts.0)
        parts.1
        after_so within
    either false can after_so within = absurd (main within)
