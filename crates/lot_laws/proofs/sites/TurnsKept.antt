-- Each turn of a thread keeps every lock a site, and every thread in the line, the section and the hand that
-- its place says.
use Rattle.lot_laws.proofs.Imports
use Imports.{ℕ, Bool, true, false, Option, Some, None, if◌then◌else◌, ◌≡◌, ◌<◌, [], ◌∷◌, length, length-set}
use Imports.{nat_lt, inl, inr, refl, subst, sym, ◌∙◌, ap, once_first, semaphore_first, can_close, can_do}
use Imports.{can_go, state_after_close, state_after_go, state_after_going, mutex_profile, once_profile}
use Imports.{semaphore_profile, ltb-true, Exclusive, Call, MutexCall, Step, Turn, has_call, is_fair, Place}
use Imports.{Idle, Mutex, RwLock, Once, Condvar, Semaphore, MutexPlace, mutex_first, mutex_right, act_of}
use Imports.{is_idle, respins_from, late_key, key_in, Claim, Has, Begin, HasClaim, idle, State, place_at}
use Imports.{owners_at}
use Imports.{kind_at, put, state_after_begin, can_begin, is_open_to, state_after_look, state_after_late_on}
use Imports.{is_free_under, state_after_turn, can_turn, is_possible, after, IsWellFormed, PlaceFits, lock_state}
use Imports.{taken_at, is_mutex, mutex_role, mutex_location, acts, begin_deed, nowhere, location, AreCondvars}
use Imports.{AreCounted, IsInductive, Goes, both, looking_well_formed, Admission, RwLockCallPlace, Plain}
use Imports.{Bump as BumpCall, call_late_line}
use Rattle.lot_laws.proofs.book.LockStaysASite.{begins_with, goes_late}
use Rattle.lot_laws.proofs.book.Pages.{booked}
use Rattle.lot_laws.proofs.calls.Looking.{closing_inductive}
use Rattle.lot_laws.proofs.calls.Closings.{closing, closing_counted, closing_may, closing_well_formed}
use Rattle.lot_laws.proofs.calls.Closings.{closing_there}
use Rattle.lot_laws.proofs.calls.Closures.{closes_one}
use Rattle.lot_laws.proofs.semaphore.Page.{claim_held, claims_first, opens}
use Rattle.spec_locks.specs.declared.calls.Call.TheVariants as calling
use Rattle.spec_locks.specs.declared.calls.MutexCall.TheVariants as call
use Rattle.spec_locks.specs.declared.calls.Turn.TheVariants as turn
use Rattle.lot_laws.proofs.machine.KindsStay.{calls_mutex, calls_readers, calls_once, calls_semaphore}
use Rattle.lot_laws.proofs.machine.Parts.{parts_at, same, single_or_two, thread_is}
use Rattle.lot_laws.proofs.machine.Parts.{mutex, own_role}
use Rattle.lot_laws.proofs.sites.OneStep.{meets, others_same}
use Rattle.lot_laws.proofs.sites.StandsMoved.{mutex_rules}
use Rattle.lot_laws.proofs.sites.ActsKept.{goes_inductive, place_goes}
use Rattle.lot_laws.proofs.sites.SitesKept.{mutex_at}
use Rattle.lot_laws.proofs.calls.Looking.{looking_inductive, looks_now}
use Rattle.lot_laws.proofs.hands.CountsPut.{looking_counted}
use Rattle.lot_laws.proofs.mutex.MutexStaysASite.{gone_kept, mutex_goes_late}
use Rattle.lot_laws.proofs.condvar.ActsRefine.{condvar_inductive}
use Rattle.lot_laws.proofs.condvar.SameCondvars.{closing_condvars, looking_condvars}
use Rattle.lot_laws.proofs.condvar.BeginsKept.{begins_at, condvar_begins, condvar_goes_late}
use Rattle.lot_laws.proofs.calls.OwnPlace.{gone}
use Rattle.lot_laws.proofs.rwlock.RwLockStepsAreEvents.{rwlock_begins}
use Rattle.lot_laws.proofs.rwlock.Late.{late_row}
use Rattle.core_base.specs.declared.keys.Line.{Line}

pub idle_is : (p : Place) → is_idle p ≡ true → p ≡ Idle
idle_is Idle h = refl
idle_is (Mutex l at) h = absurd cc
idle_is (RwLock l a at) h = absurd cc
idle_is (Once l at) h = absurd cc
idle_is (Condvar l at) h = absurd cc
idle_is (Semaphore l at) h = absurd cc

module _ (w : State) (t : ℕ) (inductive : IsInductive w) (shape : IsWellFormed w) (there : t
    < length w.places)
  where
    -- a thread goes on from its place
    gone_inductive : AreCounted w → AreCondvars w → can_go w t ≡ true → IsInductive (state_after_go w t)
    gone_inductive counted condvars can = elim (single_or_two (place_at w t)) [
      | inl single ↦ subst IsInductive (sym (gone w t single)) (gone_kept w t inductive shape there counted
          (place_at w t) refl single (shape.places t) can)
      | inr two ↦ subst (λ p. IsInductive (state_after_going w t p)) (sym two.is)
          (condvar_inductive w t two.lock shape inductive condvars there two.at two.is
          (ap (λ p. can_do w (act_of p)) (sym two.is) ∙ can))
    ]

module _ (w : State) (t : ℕ) (inductive : IsInductive w) (shape : IsWellFormed w) (there : t
    < length w.places)
  where
    -- the thread begins, with the claim that the call needs
    begin_kept : (l : ℕ) (at : MutexPlace) (c : Option Claim) → is_mutex (kind_at w l) ≡ true → place_at w t
        ≡ Idle → taken_at (Mutex l at) l ≡ None → mutex_role at ≡ record idle { claims = c }
        → HasClaim (lock_state w l) t c → mutex_location at ≡ nowhere → Goes w (put w t (Mutex l at)) l
        (acts t (Begin c ∷ []))
    begin_kept l at c of_mutex is none e has s = place_goes w t l inductive (rw is tt) there mutex
        (mutex_rules (kind_at w l) of_mutex) (Mutex l at) refl of_mutex (Begin c ∷ []) (λ h. tt) (record {
          site = meets mutex l (parts_at w l) (place_at w) t (Mutex l at) _ (rw is (sym none)) refl refl refl
              refl
              (own_role l (Mutex l at) at refl ∙ e ∙ rw (same t, is) refl)
              (λ u ne. others_same mutex (Begin c ∷ []) (mutex_at w l) t u (tt, tt) ne);
          needed = (has, tt);
        }) (s ∙ sym (ap location is))

    -- each call of a mutex
    calls_begin : (l : ℕ) (fair : Bool) (c : MutexCall) → is_mutex (kind_at w l) ≡ true → place_at w t ≡ Idle
        → mutex_right c t (owners_at w l) ≡ true
        → Goes w (put w t (Mutex l (mutex_first fair c))) l (acts t (begin_deed (mutex_first fair c) ∷ []))
    calls_begin l fair call.Lock of is right = begin_kept l _ None of is refl refl tt refl
    calls_begin l fair call.LockTimed of is right = begin_kept l _ None of is refl refl tt refl
    calls_begin l fair call.TryLock of is right = begin_kept l _ None of is refl refl tt refl
    calls_begin l true call.Unlock of is right = begin_kept l _ (Some (Has Exclusive)) of is refl refl
        (thread_is t (owners_at w l).exclusive right) refl
    calls_begin l false call.Unlock of is right = begin_kept l _ (Some (Has Exclusive)) of is refl refl
        (thread_is t (owners_at w l).exclusive right) refl
    calls_begin l fair call.UnlockFair of is right = begin_kept l _ (Some (Has Exclusive)) of is refl refl
        (thread_is t (owners_at w l).exclusive right) refl
    calls_begin l fair call.Bump of is right = begin_kept l _ (Some (Has Exclusive)) of is refl refl
        (thread_is t (owners_at w l).exclusive right) refl

    begun_kept : (c : Call) → can_begin w t c ≡ true → IsInductive (state_after_begin w t c)
    begun_kept (calling.Mutex l c) can =
        let parts = both (is_idle (place_at w t)) (is_open_to w t (calling.Mutex l c)) can in
        let open_to = both (nat_lt l (length w.locks)) _ parts.1 in
        let right = both (has_call (kind_at w l) (calling.Mutex l c)) _ open_to.1 in
        goes_inductive w _ l _ inductive (calls_begin l (is_fair (kind_at w l)) c
        (calls_mutex (kind_at w l) l c
        right.0) (idle_is (place_at w t) parts.0) right.1)
    begun_kept (calling.Once l c) can =
        let parts = both (is_idle (place_at w t)) (is_open_to w t (calling.Once l c)) can in
        let open_to = both (nat_lt l (length w.locks)) _ parts.1 in
        let right = both (has_call (kind_at w l) (calling.Once l c)) _ open_to.1 in
        goes_inductive w _ l _ inductive (begins_with w t l inductive there (idle_is (place_at w t) parts.0)
        (Once l (once_first c)) refl refl (calls_once (kind_at w l) l c right.0) None refl refl tt)
    begun_kept (calling.Semaphore l c) can =
        let parts = both (is_idle (place_at w t)) (is_open_to w t (calling.Semaphore l c)) can in
        let open_to = both (nat_lt l (length w.locks)) _ parts.1 in
        let right = both (has_call (kind_at w l) (calling.Semaphore l c)) _ open_to.1 in
        goes_inductive w _ l _ inductive (begins_with w t l inductive there (idle_is (place_at w t) parts.0)
        (Semaphore l (semaphore_first c)) refl refl (
          calls_semaphore (kind_at w l) l c right.0,
          (opens c).timed,
        ) (claims_first c) (opens c).location (opens c).role
        (claim_held (lock_state w l) t c right.1))
    begun_kept (calling.Condvar l c) can =
        let parts = both (is_idle (place_at w t)) (is_open_to w t (calling.Condvar l c)) can in
        goes_inductive w _ (begins_at l c) _ inductive (condvar_begins w t l inductive there
        (idle_is (place_at w t) parts.0) c parts.1)
    begun_kept (calling.RwLock l c) can =
        let parts = both (is_idle (place_at w t)) (is_open_to w t (calling.RwLock l c)) can in
        let open_to = both (nat_lt l (length w.locks)) _ parts.1 in
        let right = both (has_call (kind_at w l) (calling.RwLock l c)) _ open_to.1 in
        goes_inductive w _ l _ inductive (rwlock_begins w t l c inductive there
        (idle_is (place_at w t) parts.0)
        (calls_readers (kind_at w l) l c right.0) right.1)

    -- the thread looks at the word once more
    spun_kept : AreCounted w → AreCondvars w → (o : Option Place) → respins_from (place_at w t) ≡ o
        → IsInductive (state_after_look w t o)
    spun_kept counted condvars None is = inductive
    spun_kept counted condvars (Some q) is =
        gone_inductive (put w t q) t (looking_inductive w t there q is inductive)
        (looking_well_formed w t q shape is) (rw (length-set w.places t q) there)
        (looking_counted w t there q is counted) (looking_condvars w t q there is condvars)
        (looks_now w t there q is)

    -- the thread's time is up, and it goes into the section of its line
    rwlock_late : (l : ℕ) (a : Admission) (c : RwLockCallPlace) → place_at w t ≡ RwLock l a c → l
        < length w.locks
        → (m : Option Line) → call_late_line c ≡ m → is_free_under w (key_in (Some l) m) ≡ true
        → IsInductive (state_after_late_on w t (key_in (Some l) m))
    rwlock_late l a c is lt None e can = absurd cc
    rwlock_late l a c is lt (Some m) e can =
        goes_inductive w _ l _ inductive (goes_late w t l (RwLock l a c) inductive shape there lt is
        (booked w t l (RwLock l a c) inductive is tt (same l)) (same l) m (late_row a c ∙ e) can)

    late_kept : (p : Place) → place_at w t ≡ p → PlaceFits (length w.locks) p → is_free_under w (late_key p)
        ≡ true
        → IsInductive (state_after_late_on w t (late_key p))
    late_kept (Mutex l at) is fits can = mutex_late (mutex_profile at).late_line refl can
      where
        mutex_late : (m : Option Line) → (mutex_profile at).late_line ≡ m
            → is_free_under w (key_in (Some l) m)
            ≡ true
            → IsInductive (state_after_late_on w t (key_in (Some l) m))
        mutex_late None e h = absurd cc
        mutex_late (Some m) e h = goes_inductive w _ l _ inductive (mutex_goes_late w t l at inductive shape
            there
            fits.0
            is m e h)
    late_kept (RwLock l a (Plain p)) is fits can = rwlock_late l a (Plain p) is fits
        (call_late_line (Plain p))
        refl can
    late_kept (RwLock l a (BumpCall p)) is fits can = rwlock_late l a (BumpCall p) is fits
        (call_late_line (BumpCall p)) refl can
    late_kept (RwLock l a c) is fits can = absurd cc
    late_kept Idle is fits can = absurd cc
    late_kept (Condvar l at) is fits can = let goes = condvar_goes_late w t l shape inductive there at is can
        in goes_inductive w _ goes.0 _ inductive goes.1
    late_kept (Semaphore l at) is fits can = semaphore_late (semaphore_profile at).late_line refl can
      where
        semaphore_late : (m : Option Line) → (semaphore_profile at).late_line ≡ m
            → is_free_under w (key_in (Some l) m) ≡ true
            → IsInductive (state_after_late_on w t (key_in (Some l) m))
        semaphore_late None e h = absurd cc
        semaphore_late (Some m) e h = goes_inductive w _ l _ inductive (goes_late w t l (Semaphore l at)
            inductive
            shape
            there fits is (booked w t l (Semaphore l at) inductive is tt (same l)) (same l) m e h)
    late_kept (Once l at) is fits can = once_late (once_profile at).late_line refl can
      where
        once_late : (m : Option Line) → (once_profile at).late_line ≡ m → is_free_under w (key_in (Some l) m)
            ≡ true
            → IsInductive (state_after_late_on w t (key_in (Some l) m))
        once_late None e h = absurd cc
        once_late (Some m) e h = goes_inductive w _ l _ inductive (goes_late w t l (Once l at) inductive shape
            there
            fits
            is (booked w t l (Once l at) inductive is tt (same l)) (same l) m e h)

    -- the thread's closure has answered, and it goes on after it
    closed_kept : AreCounted w → AreCondvars w → (succeeded : Bool) → can_close w t succeeded ≡ true
        → IsInductive (state_after_close w t succeeded)
    closed_kept counted condvars succeeded can =
        let one = closes_one w t succeeded can in
        gone_inductive (closing w t there succeeded one) t (closing_inductive w t there succeeded one
        inductive)
        (closing_well_formed w t there succeeded one shape) (closing_there w t there succeeded one)
        (closing_counted w t there succeeded one counted) (closing_condvars w t there succeeded one condvars)
        (closing_may w t there succeeded one)

    turned_kept : AreCounted w → AreCondvars w → (x : Turn) → can_turn w t x ≡ true
        → IsInductive (state_after_turn w t x)
    turned_kept counted condvars (turn.Begin c) can = begun_kept c can
    turned_kept counted condvars turn.Go can = gone_inductive w t inductive shape there counted
        condvars
        can
    turned_kept counted condvars turn.Spin can =
        spun_kept counted condvars (respins_from (place_at w t))
        refl
    turned_kept counted condvars turn.Late can = late_kept (place_at w t) refl (shape.places t)
        can
    turned_kept counted condvars turn.Ok can = closed_kept counted condvars true can
    turned_kept counted condvars turn.Err can = closed_kept counted condvars false can

-- a step keeps what holds between steps
pub after_inductive : (w : State) (s : Step) → IsWellFormed w → IsInductive w → AreCounted w → AreCondvars w
    → IsInductive (after w s)
after_inductive w s shape inductive counted condvars = either (is_possible w s) refl
  where
    either : (b : Bool) → is_possible w s ≡ b → IsInductive (if b then state_after_turn w s.thread s.turn
        else w)
    either true can = let parts = both (nat_lt s.thread (length w.places)) (can_turn w s.thread s.turn) can in
        turned_kept w s.thread inductive shape (ltb-true s.thread (length w.places) parts.0) counted condvars
        s.turn parts.1
    either false can = inductive
