-- The first step of a notification, which looks at the mutex that is shown, changes no lock, and its call
-- goes on by what it sees.
use Rattle.lot_laws.proofs.Imports
use Imports.{ℕ, Bool, true, false, Option, Some, None, if◌then◌else◌, ◌==◌, ◌≡◌, ◌+◌, ◌-◌, List, [], inl, refl}
use Imports.{sym, ◌∙◌, ap, subst, arith, outcome_of, rights_where, Value, CallOfTwoFollows, look_event}
use Imports.{word_showing, condvar_next, mutex_shown, notified, looks_tell, Condvar, condvar_does, condvar_goes}
use Imports.{LockState, OfCondvar, rights_of, AtLock, Event, GoesOn, Moves, Nothing, is_taken_by, Site, State}
use Imports.{place_at, call_at, call_state, lock_state, locks_of, taken_at, FollowAll, IsInductive, after_acts}
use Imports.{condvar_of, rules_in, site_of}
use Rattle.steps_base.specs.declared.acts.Next.TheVariants as next
use Rattle.steps_condvar.specs.declared.notify.NotifyAt.TheVariants as notify
use Rattle.steps_condvar.specs.declared.places.CondvarPlace.TheVariants as places
use Rattle.steps_condvar.specs.CondvarCalls as calls
use Rattle.spec_locks.specs.Locks as locks
use Rattle.lot_laws.specs.ThreadDeeds as deeds
use Rattle.lot_laws.proofs.calls.CallEvents.{IsEvent, OthersFollow, happens_at, put_is, rights}
use Rattle.lot_laws.proofs.condvar.StepEvents.{NamesStill, ToldSo, begins_two, call_led, condvar_goes_on}
use Rattle.lot_laws.proofs.condvar.StepEvents.{may_go, no_closure, unwoken}
use Rattle.lot_laws.proofs.condvar.Replies.{fits_here}
use Rattle.lot_laws.proofs.machine.Parts.{differ}

module _ (w v : State) (t l : ℕ) (all : Bool) (inductive : IsInductive w) (after : IsInductive v)
    (is : place_at w t ≡ Condvar l (places.Look all)) (done : ℕ → List deeds.Act) (f : FollowAll w v done)
    (nothing : (k : ℕ) → done k ≡ []) where
  abbrev seen : ℕ
  seen = word_showing (lock_state w l).shown

  abbrev mutex : ℕ
  mutex = mutex_shown seen

  abbrev event : Event
  event = look_event l seen

  stays : (k : ℕ) → lock_state v k ≡ lock_state w k
  stays k = ap (λ (s : Site). s.lock) (f.site k)
      ∙ ap (λ ds. (after_acts (rules_in w k) ds (site_of w k)).lock) (nothing k)

  pub look_happened : IsEvent w v t event
  look_happened = by_word (lock_state w l).shown refl
    where
      by_word : (o : Option ℕ) → (lock_state w l).shown ≡ o → IsEvent w v t (look_event l (word_showing o))
      by_word None e = happens_at w v t l None inductive after f.kinds (stays l) (λ k ne. stays k) tt
      by_word (Some m) e = subst (IsEvent w v t) (sym sees)
          (happens_at w v t l (Some (OfCondvar (locks.Look (Some m)))) inductive after f.kinds (stays l)
          (λ k ne. stays k) ((fits_here w t l (places.Look all) inductive is).sort, sym e))
        where
          sees : look_event l (m + 1) ≡ AtLock l (OfCondvar (locks.Look (Some m)))
          sees = let some : (m + 1 == 0) ≡ false = differ (m + 1) 0 (λ h. omega arith) in let same_mutex : m
              + 1 - 1 ≡ m = omega arith in
              ap (λ (b : Bool). if b then Nothing else AtLock l (OfCondvar (locks.Look (Some (m + 1 - 1)))))
              some ∙ ap (λ j. AtLock l (OfCondvar (locks.Look (Some j)))) same_mutex

  follows : CallOfTwoFollows l mutex (places.Look all) (Value seen) event (lock_state w l).shown
      (lock_state w mutex)
      (lock_state w mutex) t (condvar_next (places.Look all) (Value seen))
  follows = looks_tell (condvar_of w l) (lock_state w mutex) t l all

  rights_led : (k : ℕ) → rights v t k ≡ rights_where mutex (lock_state w mutex) t (rights w t) k
  rights_led k = put_is (rights w t) mutex (rights w t mutex) k (rights v t k)
      (λ e. ap (λ s. rights_of s t) (stays k) ∙ ap (rights w t) e) (λ ne. ap (λ s. rights_of s t) (stays k))

  names : (b : Bool) → NamesStill mutex (if b then next.End (notified all 0)
      else next.At (places.Notify all mutex notify.Enter))
  names true = tt
  names false = refl

  told_so : (b : Bool)
      → ToldSo v t (if b then next.End (notified all 0) else next.At (places.Notify all mutex notify.Enter))
      (outcome_of (condvar_does l (if b then next.End (notified all 0) else next.At
      (places.Notify all mutex notify.Enter))))
  told_so true = refl
  told_so false = (l, inl refl)

  no_move : (b : Bool) (c k n : ℕ) (every owned : Bool)
      → (if b then Nothing else AtLock l (OfCondvar (locks.Look (Some mutex)))) ≡ Moves c k every owned n → ⊥
  no_move true c k n every owned e = cc
  no_move false c k n every owned e = cc

  -- the step goes on by that event, where it stands then as its reply says, is in no hand of its own, and the
  -- others' calls follow
  pub look_goes : place_at v t ≡ condvar_goes l (condvar_next (places.Look all) (Value seen))
      → ((k : ℕ) → is_taken_by t (taken_at (place_at w t) k) ≡ false) → OthersFollow w v t event
      → GoesOn (locks_of w) t (outcome_of (condvar_does l (condvar_next (places.Look all) (Value seen))))
      (locks_of v)
  look_goes there free others_follow = condvar_goes_on w v t l mutex (places.Look all) call_is (Value seen)
      event look_happened (lock_state w l).shown (lock_state w mutex) (condvar_next (places.Look all)
      (Value seen)) _
      (may_go w v t l mutex (places.Look all) call_is (Value seen) event look_happened (lock_state w l).shown
      (lock_state w mutex) follows.may
      (λ c k every owned n e. absurd (no_move (seen == 0) c k n every owned e)))
      (call_led w v t l mutex (places.Look all) call_is (Value seen) event look_happened
      (lock_state w l).shown (lock_state w mutex) (condvar_next (places.Look all) (Value seen)) _ refl
      (unwoken w t event _ free (λ c k n every owned e. absurd (no_move (seen == 0) c k n every owned e)))
      follows.becomes there (names (seen == 0)) (ap (λ (s : LockState). s.shown) (stays l)) rights_led
      (told_so (seen == 0)))
      others_follow (begins_two (locks_of w) l (places.Look all) event _ follows.may
      (no_closure l (condvar_next (places.Look all) (Value seen))))
    where
      call_is : call_at w t ≡ calls.condvar_call_by l mutex (places.Look all) (rights w t)
      call_is = ap (λ q. call_state q (rights w t)) is
