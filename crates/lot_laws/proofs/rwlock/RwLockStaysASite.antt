-- A thread in a call of a reader-writer lock goes on: every lock is a site again.
use Rattle.lot_laws.proofs.Imports
use Imports.{ℕ, Bool, true, false, Option, Some, None, ◌≡◌, ◌+◌, ◌-◌}
use Imports.{◌^◌, ◌≤◌, ◌<◌, [], ◌∷◌, length, refl, sym, ◌∙◌, ap, subst, arith}
use Imports.{RwLockCall, Kind, Patience, Act, Next, Reply, Done, Value}
use Imports.{Late, takes_aside, row_of}
use Imports.{Profile, Admission, RwLockPlace}
use Imports.{RwLockAt, patience_of, Admits, late_line_at, HasDeadline, MayBeTold, admission_of_kind}
use Imports.{RwLockCallPlace, Plain, PeekQueue, HandOver, Bump, Handed, CallMayBeTold, CallMayHear, CallStands}
use Imports.{CallStandsNext, IsInCall, call_deeds, call_role, call_role_next, call_move}
use Imports.{call_late_line, call_profile}
use Imports.{fair_sections_follow, fair_calls_stand, call_first}
use Imports.{CallTells, next_rows, call_next, calls_open, SemaphorePlace}
use Imports.{Place, Mutex, RwLock, Once, Condvar, Semaphore as OfSemaphore, MutexPlace, OncePlace}
use Imports.{next_place, profile, calls, rwlock_goes, Rules, Sort, Recursive, count, one_if_some}
use Imports.{Site, IsSite, Line, has_readers, HasLimit, bit}
use Imports.{code, code_of, packed, writers, case_of, rules_of, State, place_at, kind_at}
use Imports.{put, state_after_act}
use Imports.{reply_to, IsWellFormed, acts, IsInductive}
use Imports.{Goes, FitsItsLock, TakesOne, is_mutex, rules_in}
use Imports.{CondvarPlace, is_lock, mutex_beside}
use Rattle.spec_locks.specs.declared.kinds.Kind.TheVariants as kinds
use Rattle.spec_locks.specs.declared.calls.Patience.TheVariants as patience
use Rattle.steps_base.specs.declared.acts.Act.TheVariants as act
use Rattle.steps_base.specs.declared.acts.Next.TheVariants as next
use Rattle.steps_base.specs.declared.acts.TakeWhich as whom
use Rattle.steps_rwlock.specs.declared.places.RwLockAt.TheVariants as at
use Rattle.steps_rwlock.specs.declared.park.ParkAt.TheVariants as parking
use Rattle.steps_rwlock.specs.RwLockDeeds.{MayReply}
use Rattle.spec_locks.specs.Locks.{Normal as NormalSort, Semaphore}
use Rattle.spec_locks.specs.Locks as locks
use Rattle.spec_locks.specs.Deeds as laws
use Rattle.lot_laws.proofs.machine.Parts.{not_beside, IsOf, next_of}
use Rattle.lot_laws.proofs.machine.Parts.{role_here}
use Rattle.lot_laws.proofs.sites.StandsMoved.{mutex_rules}
use Rattle.lot_laws.proofs.sites.ActsKept.{lock_by}
use Rattle.lot_laws.proofs.calls.OtherCalls.{WakesOwn}
use Rattle.lot_laws.proofs.sites.ByAct.{AreCalm}
use Rattle.lot_laws.proofs.sites.ByAct.{parked}
use Rattle.lot_laws.proofs.sites.MovesKept.{IsFollowed}

-- ---------------------------------------------------------------- rows

-- where a place leads, its row does
pub goes_row : (l : ℕ) (a : Admission) (n : Next RwLockCallPlace) → profile (rwlock_goes l a n)
    ≡ row_of (next_rows a n)
goes_row l a (next.At c) = refl
goes_row l a (next.End answer) = refl

pub role_row : (a : Admission) (c : RwLockCallPlace) → (call_profile a c).role ≡ call_role c
role_row a (Plain p) = refl
role_row a (PeekQueue x) = refl
role_row a (HandOver x b to) = refl
role_row a (Bump p) = refl
role_row a (Handed x how b to) = refl

pub role_is : (a : Admission) (n : Next RwLockCallPlace) → call_role_next n ≡ (row_of (next_rows a n)).role
role_is a (next.At c) = sym (role_row a c)
role_is a (next.End answer) = refl

-- ---------------------------------------------------------------- the notes that a thread may be told

-- replies but those of an entering, of the word, or of a time that is up
abbrev IsOther : Reply → Type 0
IsOther Done = ⊥
IsOther (Value seen) = ⊥
IsOther Late = ⊥
IsOther told = Unit {0}

module _ (a : Admission) (p : RwLockPlace) where
  told_other : (to : RwLockAt) (told : Reply) → IsOther told → MayBeTold a p to told
  told_other (at.Decide seen) Done h = absurd h
  told_other (at.Decide seen) (Value v) h = absurd h
  told_other (at.Decide seen) Late h = absurd h
  told_other (at.Decide seen) told h = tt
  told_other to Done h = absurd h
  told_other to (Value v) h = absurd h
  told_other to Late h = absurd h
  told_other to told h = tt

  told_value : (to : RwLockAt) (v : ℕ) → v < 2 ^ 64 → MayBeTold a p to (Value v)
  told_value (at.Decide seen) v h = h
  told_value to v h = h

  told_late : (to : RwLockAt) (how : Patience) → patience_of p.purpose ≡ how → (m : Line)
      → late_line_at how to ≡ Some m
      → MayBeTold a p to Late
  told_late (at.Park parking.Asleep) patience.Timed e m h = subst HasDeadline (sym e) tt
  told_late (at.Aside parking.Asleep) patience.Timed e m h = subst HasDeadline (sym e) tt
  told_late (at.Park parking.Asleep) patience.Patient e m h = absurd cc
  told_late (at.Aside parking.Asleep) patience.Patient e m h = absurd cc
  told_late (at.Park parking.Asleep) patience.Try e m h = absurd cc
  told_late (at.Aside parking.Asleep) patience.Try e m h = absurd cc
  told_late (at.Park to) how e m h = absurd cc
  told_late (at.Aside to) how e m h = absurd cc
  told_late to how e m h = absurd cc

  told_done : (r : Rules) (s : Site) (t : ℕ) (to : RwLockAt) (whom : Option ℕ)
      → MayReply r a s t p to whom Done
      → MayBeTold a p to Done
  told_done r s t (at.Decide seen) whom h = h.0
  told_done r s t to whom h = tt

-- in any call
module _ (a : Admission) where
  pub call_told_other : (c : RwLockCallPlace) (told : Reply) → IsOther told → CallMayBeTold a c told
  call_told_other (Plain p) told h = told_other a p p.at told h
  call_told_other (Bump p) told h = told_other a p p.at told h
  call_told_other (PeekQueue x) told h = tt
  call_told_other (HandOver x b to) told h = tt
  call_told_other (Handed x how b to) told h = tt

  pub call_told_value : (c : RwLockCallPlace) (v : ℕ) → v < 2 ^ 64 → CallMayBeTold a c (Value v)
  call_told_value (Plain p) v h = told_value a p p.at v h
  call_told_value (Bump p) v h = told_value a p p.at v h
  call_told_value (PeekQueue x) v h = tt
  call_told_value (HandOver x b to) v h = tt
  call_told_value (Handed x how b to) v h = tt

  pub call_told_late : (c : RwLockCallPlace) (m : Line) → call_late_line c ≡ Some m → CallMayBeTold a c Late
  call_told_late (Plain p) m h = told_late a p p.at (patience_of p.purpose) refl m h
  call_told_late (Bump p) m h = told_late a p p.at (patience_of p.purpose) refl m h
  call_told_late (PeekQueue x) m h = tt
  call_told_late (HandOver x b to) m h = tt
  call_told_late (Handed x how b to) m h = tt

  pub call_told_done : (r : Rules) (s : Site) (t : ℕ) (c : RwLockCallPlace) (whom : Option ℕ)
      → CallMayHear r a s t c whom Done
      → CallMayBeTold a c Done
  call_told_done r s t (Plain p) whom h = told_done a p r s t p.at whom h
  call_told_done r s t (Bump p) whom h = told_done a p r s t p.at whom h
  call_told_done r s t (PeekQueue x) whom h = tt
  call_told_done r s t (HandOver x b to) whom h = tt
  call_told_done r s t (Handed x how b to) whom h = tt

-- ---------------------------------------------------------------- words

-- the word of a lock with room has 64 bits
pub word_few : (r : Rules) (s : Site) → has_readers r.sort ≡ true → IsSite r s → r.limit < 2 ^ 60 - 1
    → HasLimit r s.lock
    → code r s < 2 ^ 64
word_few r s readers site room limit = by_sort r.sort refl readers
  where
    one : s.lock.exclusive ≡ None → writers s.lock ≤ 1
    one e = let x : one_if_some s.lock.exclusive ≡ 0 = ap one_if_some e in let y : one_if_some s.lock.pending
        ≤ 1 = at_most s.lock.pending in omega arith
      where
        at_most : {A : Type 0} (o : Option A) → one_if_some o ≤ 1
        at_most None = omega arith
        at_most (Some x) = omega arith

    few_writers : (o : Option ℕ) → s.lock.exclusive ≡ o → writers s.lock ≤ 1
    few_writers None e = one e
    few_writers (Some u) e = let x : one_if_some s.lock.exclusive ≡ 1 = ap one_if_some e
        in let y : one_if_some s.lock.pending ≡ 0 = ap one_if_some (site.state.exclusive_alone u e).0
        in omega arith

    few_upgradable : (o : Option ℕ) → one_if_some o ≤ 1
    few_upgradable None = omega arith
    few_upgradable (Some x) = omega arith

    bit_few : (b : Bool) → bit b ≤ 1
    bit_few true = omega arith
    bit_few false = omega arith

    small : packed (count s.lock) (writers s.lock) (one_if_some s.lock.upgradable) (bit s.aside_parked)
        (bit s.parked) < 2 ^ 64
    small = let c : count s.lock ≤ r.limit + 1 = limit.top in
        let x : writers s.lock ≤ 1 = few_writers s.lock.exclusive refl in
        let u : one_if_some s.lock.upgradable ≤ 1 = few_upgradable s.lock.upgradable in
        let b : bit s.aside_parked ≤ 1 = bit_few s.aside_parked in
        let d : bit s.parked ≤ 1 = bit_few s.parked in
        omega arith

    by_sort : (sort : Sort) → r.sort ≡ sort → has_readers sort ≡ true → code_of r.sort r.limit s < 2 ^ 64
    by_sort NormalSort e h = subst (λ sort. code_of sort r.limit s < 2 ^ 64) (sym e) small
    by_sort Recursive e h = subst (λ sort. code_of sort r.limit s < 2 ^ 64) (sym e) small
    by_sort locks.Mutex e h = absurd cc
    by_sort Semaphore e h = absurd cc
    by_sort locks.Once e h = absurd cc
    by_sort locks.Condvar e h = absurd cc

-- ---------------------------------------------------------------- deeds that leave the others as they are

aside_calm : (o : Option ℕ) → AreCalm (takes_aside o ∷ [])
aside_calm None = tt
aside_calm (Some u) = tt

-- ---------------------------------------------------------------- one thread

module _ (w : State) (t l : ℕ) (a : Admission) (c : RwLockCallPlace) (inductive : IsInductive w)
    (shape : IsWellFormed w)
    (there : t < length w.places) (lt : l < length w.locks) (is : place_at w t ≡ RwLock l a c) where
  pub fits_now : FitsItsLock w (RwLock l a c)
  fits_now = subst (FitsItsLock w) is (inductive.stands.calls t)

  pub admits : Admits (rules_in w l) a
  admits = fits_now.0

  pub stands : CallStands a c
  stands = fits_now.1

  pub own : IsOf l (place_at w t)
  own = rw is refl

  pub same_row : profile (place_at w t) ≡ call_profile a c
  same_row = ap profile is

  abbrev here : Site
  here = lock_by w l (rules_in w l)

  pub site : IsSite (rules_in w l) here
  site = inductive.sites.site l

  pub role_now : here.role t ≡ call_role c
  role_now = role_here l (place_at w t) own ∙ ap (λ (y : Profile). y.role) same_row ∙ role_row a c

  pub at_now : IsInCall (rules_in w l) a here t c
  at_now = record {
    admits = admits;
    site = site;
    role = role_now;
    stands = stands;
    there = subst (λ n. t < n) (sym (inductive.numbers.threads l)) there;
  }

  pub fits_next : (k : ℕ) (b : Admission) (n : Next RwLockCallPlace) → Admits (rules_in w k) b
      → CallStandsNext b n
      → FitsItsLock w (rwlock_goes k b n)
  fits_next k b (next.At q) admitted may = (admitted, may)
  fits_next k b (next.End answer) admitted may = tt

  -- tells what its laws conclude
  abbrev Followed : Option ℕ → Reply → Type 0
  Followed whom told = IsFollowed w t l inductive there own (rules_in w l) refl (call_move a c) same_row whom
      told (next_place (place_at w t) told)

  pub followed_by : (whom : Option ℕ) (told : Reply) → laws.AllNeeded (rules_in w l)
      (call_deeds a c whom told) here t
      → (laws.after_all (rules_in w l) (call_deeds a c whom told) here t).role t ≡ call_role_next
      (call_next a c told)
      → CallMayBeTold a c told → Followed whom told
  followed_by whom told needed does may = record {
    of = next_of l (place_at w t) told own;
    fits = subst (λ q. FitsItsLock w (next_place q told)) (sym is) (fits_next l a (call_next a c told) admits
        (fair_calls_stand a c told stands may));
    row = ap (λ q. profile (next_place q told)) is ∙ goes_row l a (call_next a c told);
    needed = needed;
    role = does ∙ role_is a (call_next a c told);
  }

  followed : (whom : Option ℕ) (told : Reply) → CallMayHear (rules_in w l) a here t c whom told
      → CallMayBeTold a c told
      → Followed whom told
  followed whom told hears may = let f = fair_sections_follow (rules_in w l) a here t c whom told at_now hears
      in followed_by whom told f.needed f.role may

  -- ---------------------------------------------------------------- other callers of the lock

  pub of_no_mutex : (u k : ℕ) (m : MutexPlace) → place_at w u ≡ Mutex k m → k ≡ l → ⊥
  of_no_mutex u k m e same_lock =
      let of_mutex : is_mutex (kind_at w k) ≡ true = subst (FitsItsLock w) e (inductive.stands.calls u) in
      let none : has_readers (rules_in w k).sort ≡ false = ap (λ (r : Rules). has_readers r.sort)
      (mutex_rules (kind_at w k) of_mutex) in
      let some : has_readers (rules_in w l).sort ≡ true = admits.0 in
      let both : true ≡ false = sym some ∙ ap (λ j. has_readers (rules_in w j).sort) (sym same_lock) ∙ none
      in cc

  pub of_no_once : (u k : ℕ) (p : OncePlace) → place_at w u ≡ Once k p → k ≡ l → ⊥
  of_no_once u k p e same_lock =
      let of_once : (rules_in w k).sort ≡ locks.Once = subst (FitsItsLock w) e (inductive.stands.calls u) in
      let some : has_readers (rules_in w l).sort ≡ true = admits.0 in
      let both : true ≡ false = sym some ∙ ap (λ j. has_readers (rules_in w j).sort) (sym same_lock)
      ∙ ap has_readers of_once in cc

  pub of_no_semaphore : (u k : ℕ) (at : SemaphorePlace) → place_at w u ≡ OfSemaphore k at → k ≡ l → ⊥
  of_no_semaphore u k at e same_lock =
      let of_semaphore : FitsItsLock w (OfSemaphore k at) = subst (FitsItsLock w) e (inductive.stands.calls u)
      in
      let some : has_readers (rules_in w l).sort ≡ true = admits.0 in
      let both : true ≡ false = sym some ∙ ap (λ j. has_readers (rules_in w j).sort) (sym same_lock)
      ∙ ap has_readers of_semaphore.0 in cc

  pub of_no_condvar : (u k : ℕ) (at : CondvarPlace) → place_at w u ≡ Condvar k at → k ≡ l → ⊥
  of_no_condvar u k at e same_lock =
      let of_condvar : FitsItsLock w (Condvar k at) = subst (FitsItsLock w) e (inductive.stands.calls u) in
      let some : has_readers (rules_in w l).sort ≡ true = admits.0 in
      let both : true ≡ false = sym some ∙ ap (λ j. has_readers (rules_in w j).sort) (sym same_lock)
      ∙ ap has_readers of_condvar.sort in cc

  many : TakesOne w l → ⊥
  many one = let none : has_readers (rules_in w l).sort ≡ false = ap has_readers one
      in let some : has_readers (rules_in w l).sort ≡ true = admits.0 in cc

  -- No condition variable is beside the call.
  pub beside_no_call : (u k : ℕ) (at : CondvarPlace) → place_at w u ≡ Condvar k at
      → is_lock l (mutex_beside at) ≡ false
  beside_no_call u k at e = not_beside w (Condvar k at) l (subst (FitsItsLock w) e (inductive.stands.calls u))
      many

  -- ---------------------------------------------------------------- each act

  -- the thread's deeds as it goes on from a place, what they make of its call, and of those of the others
  pub record GoesFrom (q : Place) (y : Act) : Type 0 where
    pub whom : Option ℕ
    pub goes : Goes w (put (state_after_act w t (RwLock l a c) y) t (next_place q (reply_to w t y))) l
        (acts t (call_deeds a c whom (reply_to w t y)))
    pub tells : CallTells (rules_in w l) a here t l c whom (reply_to w t y)
    pub others : WakesOwn ((call_profile a c).has_taken) y
        (case_of ((call_profile a c).has_taken) (call_deeds a c whom (reply_to w t y)))

-- ---------------------------------------------------------------- a call begins

-- a lock of such a kind lets in the threads that the call says
pub admits_by : (k : Kind) → has_readers (rules_of k).sort ≡ true → Admits (rules_of k) (admission_of_kind k)
admits_by (kinds.RwLock limit) h = (refl, refl, refl)
admits_by (kinds.Recursive limit) h = (refl, refl, refl)
admits_by k h = absurd cc

-- the thread begins where it fits its lock
pub first_fits : (w : State) (l : ℕ) (a : Admission) (c : RwLockCall) → Admits (rules_in w l) a
    → FitsItsLock w (RwLock l a (call_first c))
first_fits w l a c admits = (admits, (calls_open a c).stands)
