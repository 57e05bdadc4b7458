-- Each step of a reader-writer lock into a section, in it and out of it makes of its call what its row says.
use Rattle.std.proofs.Common.{ℕ, Bool, true, false, Option, Some, None, List, if◌then◌else◌, ◌&&◌, not, ◌≡◌}
use Rattle.std.proofs.Common.{◌≢◌, ◌<◌, inl, inr, refl, sym, ap, ◌∙◌, subst, length}
use Rattle.core_base.specs.declared.keys.Line.TheVariants.{Main, Second}
use Rattle.core_base.specs.declared.wants.Want.TheVariants.{Exclusive, Upgradable, Shared}
use Rattle.spec_locks.specs.declared.calls.Access.{Access}
use Rattle.spec_locks.specs.declared.calls.Access.TheVariants as access
use Rattle.spec_locks.specs.declared.calls.Downgrade.{Downgrade}
use Rattle.spec_locks.specs.declared.calls.Downgrade.TheVariants as downgrade
use Rattle.spec_locks.specs.declared.calls.Patience.{Patience}
use Rattle.spec_locks.specs.declared.calls.Patience.TheVariants.{Patient, Timed, Try}
use Rattle.spec_locks.specs.declared.outcomes.Answer.TheVariants.{No}
use Rattle.steps_base.specs.declared.acts.Next.{Next}
use Rattle.steps_base.specs.declared.acts.Reply.{Reply}
use Rattle.steps_base.specs.declared.acts.Reply.TheVariants as reply
use Rattle.steps_base.specs.Calls.{call_by, CallFollows, IsNotLate}
use Rattle.steps_base.specs.Acts.{any_picked}
use Rattle.steps_rwlock.specs.declared.places.Admission.{Admission}
use Rattle.steps_rwlock.specs.declared.places.RwLockPlace.{RwLockPlace}
use Rattle.steps_rwlock.specs.declared.purposes.RwLockPurpose.{RwLockPurpose}
use Rattle.steps_rwlock.specs.declared.purposes.RwLockPurpose.TheVariants as purpose
use Rattle.steps_rwlock.specs.declared.places.RwLockAt.{RwLockAt}
use Rattle.steps_rwlock.specs.declared.places.RwLockAt.TheVariants as at
use Rattle.steps_rwlock.specs.declared.park.ParkAt.{ParkAt}
use Rattle.steps_rwlock.specs.declared.park.ParkAt.TheVariants as parking
use Rattle.steps_rwlock.specs.declared.release.WakeAt.{WakeAt}
use Rattle.steps_rwlock.specs.declared.release.WakeAt.TheVariants as waking
use Rattle.steps_rwlock.specs.RwLockSteps.{wanted, from_of, to_of, start_of, patience_of, park_next}
use Rattle.steps_rwlock.specs.RwLockSteps.{wake_next, rwlock_next}
use Rattle.steps_rwlock.specs.RwLockDeeds.{Admits, IsFreshTry, MayReply, MayHearParking, MayHearWaking}
use Rattle.steps_rwlock.specs.RwLockDeeds.{rwlock_deeds, park_deeds, wake_deeds, rwlock_role}
use Rattle.steps_rwlock.specs.RwLockProfiles.{rwlock_profile}
use Rattle.steps_rwlock.specs.RwLockCalls.{WaitsIfBlocked, HasDeadline, ParksBy, EntersAt, SharesAt, WritesAt}
use Rattle.steps_rwlock.specs.RwLockCalls.{ReleasesAt, DowngradesAt, UpgradesAt, StandsAt, next_row}
use Rattle.steps_rwlock.specs.RwLockCalls.{CallFollowsBy, RwLockSectionsTell}
use Rattle.steps_rwlock.proofs.RwLockCallRights.{recalls, goes, keeps, loses, replaces}
use Rattle.spec_locks.specs.Locks.{LockCase, LockState, Rules, Rights, Park, Aside, TakeAside, TakePicked}
use Rattle.spec_locks.specs.Locks.{Wake, Late, Owns, after_case, rights_of, with_right, without_right}
use Rattle.spec_locks.specs.Runs.{CallState, AtLock, going_on, EntersAnswer, ConvertsAnswer}
use Rattle.spec_locks.specs.Sites.{Role, Has, Site, IsSite, Deed, Case}
use Rattle.spec_locks.proofs.Rights.{regained}

-- a thread that wakes others after a downgrade owns what it got by it
abbrev KeepsRight : LockState → ℕ → RwLockPurpose → RwLockAt → Type 0
KeepsRight s t (purpose.Downgrade d) (at.Wake m to) = Owns s t (wanted (to_of d))
KeepsRight s t q to = Unit {0}

module _ (r : Rules) (a : Admission) (s : Site) (t l : ℕ) (admits : Admits r a) (h : IsSite r s)
    (there : t < length s.lock.shared) where
  abbrev of : RwLockPurpose → Bool → RwLockAt → RwLockPlace
  of q again to = record { purpose = q; retries = again; at = to }

  abbrev Tells : RwLockPlace → List Deed → Next RwLockPlace → Type 0
  Tells p ds n = CallFollows r s.lock t l (rwlock_profile a p) ds (next_row a n)

  abbrev by_case : LockCase → RwLockPlace → (ℕ → Rights) → CallState
  by_case case p rights = going_on (AtLock l case) (call_by l (rwlock_profile a p) rights)

  can_wait : (y : Patience) → WaitsIfBlocked y → y ≢ Try
  can_wait Try may e = may
  can_wait Patient may e = cc
  can_wait Timed may e = cc

  is_timed : (y : Patience) → HasDeadline y → y ≡ Timed
  is_timed Timed d = refl
  is_timed Patient d = absurd d
  is_timed Try d = absurd d

  -- a place in a queue ends the retry, and nothing else does there
  parked_ends : (b : Bool) → (if b && not true then Some l else None) ≡ None
  parked_ends true = refl
  parked_ends false = refl

  unparked_stays : (b : Bool) → (if b && not false then Some l else None) ≡ (if b then Some l else None)
  unparked_stays true = refl
  unparked_stays false = refl

  -- ----------------------------------------------------------- on the way into the main queue, and out of it

  module _ (x : Access) (how : Patience) (again : Bool) where
    abbrev enterer : RwLockAt → RwLockPlace
    enterer to = of (purpose.Enter x how) again to

    parks_tell : (to : ParkAt) (told : Reply) (finds : Bool) → ParksBy how to → IsNotLate told
        → MayHearParking r s t Main finds to told → Tells (enterer (at.Park to))
        (park_deeds (Case (Park (wanted x))) Main to told) (park_next (enterer (at.Park to)) Main to told)
    parks_tell parking.Check (reply.Parked true) finds by now hears = record {
      one = tt;
      may = ((refl, (refl, can_wait how by)), tt);
      comes = λ rights e i.
          record (call_by l (rwlock_profile a (enterer (at.Park parking.Check))) rights) {
            former =
                λ k. goes l t s.lock s.lock (purpose.Enter x how) (at.Park parking.Check)
                (at.Park (parking.Leave true)) rights e refl k i;
            retries = parked_ends again i;
          };
    }
    parks_tell parking.Check (reply.Parked false) finds by now hears = record {
      one = tt;
      may = tt;
      comes = λ rights e i.
          record (call_by l (rwlock_profile a (enterer (at.Park parking.Check))) rights) {
            former =
                λ k. goes l t s.lock s.lock (purpose.Enter x how) (at.Park parking.Check)
                (at.Park (parking.Leave false)) rights e refl k i;
            retries = unparked_stays again i;
          };
    }
    parks_tell (parking.Leave true) reply.Done finds by now hears = record {
      one = tt;
      may = tt;
      comes = λ rights e. recalls _ _ (goes l t s.lock s.lock (purpose.Enter x how)
          (at.Park (parking.Leave true)) (at.Park parking.Asleep) rights e refl);
    }
    parks_tell (parking.Leave false) reply.Done finds by now hears = record {
      one = tt;
      may = tt;
      comes = λ rights e. recalls _ _ (goes l t s.lock s.lock (purpose.Enter x how)
          (at.Park (parking.Leave false)) at.Load rights e refl);
    }
    parks_tell parking.Remove (reply.Removed true) finds by now hears = record {
      one = tt;
      may = ((refl, (is_timed how by, refl)), refl);
      comes = λ rights e. recalls _ _ (goes l t s.lock (after_case r Late s.lock t) (purpose.Enter x how)
          (at.Park parking.Remove) (at.Park parking.Clear) rights e refl);
    }
    parks_tell parking.Remove (reply.Removed false) finds by now hears = record {
      one = tt;
      may = ((refl, (is_timed how by, refl)), refl);
      comes = λ rights e. recalls _ _ (goes l t s.lock (after_case r Late s.lock t) (purpose.Enter x how)
          (at.Park parking.Remove) (at.Park parking.GiveUp) rights e refl);
    }
    parks_tell parking.GiveUp reply.Done finds by now hears = record {
      one = tt;
      may = tt;
      comes = λ w rights ruled now e has.
          subst (λ y. EntersAnswer w t (call_by l (rwlock_profile a (enterer (at.Park parking.GiveUp)))
          rights) l (wanted x) y No) (sym (is_timed how by)) (
            refl,
            keeps l t s.lock s.lock
                (purpose.Enter x how) (at.Park parking.GiveUp) r w rights ruled now e has refl,
          );
    }
    parks_tell parking.Asleep reply.Late finds by now hears = absurd now
    parks_tell to told finds by now hears = absurd hears

  -- ---------------------------------------------------------------- a pending writer, on its way aside

  module _ (how : Patience) (again : Bool) where
    abbrev writer : RwLockAt → RwLockPlace
    writer to = of (purpose.Enter access.Exclusive how) again to

    aside_tells : (to : ParkAt) (told : Reply) (finds : Bool) → ParksBy how to → IsNotLate told
        → MayHearParking r s t Second finds to told → Tells (writer (at.Aside to))
        (park_deeds (Case Aside) Second to told) (park_next (writer (at.Aside to)) Second to told)
    aside_tells parking.Check (reply.Parked true) finds by now hears = record {
      one = tt;
      may = ((refl, refl), tt);
      comes = λ rights e i.
          record (call_by l (rwlock_profile a (writer (at.Aside parking.Check))) rights) {
            former =
                λ k. goes l t s.lock (after_case r Aside s.lock t) (purpose.Enter access.Exclusive how)
                (at.Aside parking.Check) (at.Aside (parking.Leave true)) rights e refl k i;
            retries =
                parked_ends again i;
          };
    }
    aside_tells parking.Check (reply.Parked false) finds by now hears = record {
      one = tt;
      may = tt;
      comes = λ rights e i.
          record (call_by l (rwlock_profile a (writer (at.Aside parking.Check))) rights) {
            former =
                λ k. goes l t s.lock s.lock (purpose.Enter access.Exclusive how) (at.Aside parking.Check)
                (at.Aside (parking.Leave false)) rights e refl k i;
            retries = unparked_stays again i;
          };
    }
    aside_tells (parking.Leave true) reply.Done finds by now hears = record {
      one = tt;
      may = tt;
      comes = λ rights e. recalls _ _ (goes l t s.lock s.lock (purpose.Enter access.Exclusive how)
          (at.Aside (parking.Leave true)) (at.Aside parking.Asleep) rights e refl);
    }
    aside_tells (parking.Leave false) reply.Done finds by now hears = record {
      one = tt;
      may = tt;
      comes = λ rights e. recalls _ _ (goes l t s.lock s.lock (purpose.Enter access.Exclusive how)
          (at.Aside (parking.Leave false)) (at.Look) rights e refl);
    }
    aside_tells parking.Remove (reply.Removed none_left) finds by now hears = record {
      one = tt;
      may = ((refl, (is_timed how by, refl)), refl);
      comes = λ rights e. recalls _ _ (goes l t s.lock (after_case r Late s.lock t)
          (purpose.Enter access.Exclusive how) (at.Aside parking.Remove) (at.Aside parking.Clear) rights e
          refl);
    }
    aside_tells parking.GiveUp reply.Done finds by now hears = record {
      one = tt;
      may = tt;
      comes = λ rights e. recalls _ _ (goes l t s.lock s.lock (purpose.Enter access.Exclusive how)
          (at.Aside parking.GiveUp) (at.RollBack) rights e refl);
    }
    aside_tells parking.Asleep reply.Late finds by now hears = absurd now
    aside_tells to told finds by now hears = absurd hears

    abbrev raiser : RwLockAt → RwLockPlace
    raiser to = of (purpose.Upgrade how) again to

    aside_up : (to : ParkAt) (told : Reply) (finds : Bool) → ParksBy how to → IsNotLate told
        → MayHearParking r s t Second finds to told → Tells (raiser (at.Aside to))
        (park_deeds (Case Aside) Second to told) (park_next (raiser (at.Aside to)) Second to told)
    aside_up parking.Check (reply.Parked true) finds by now hears = record {
      one = tt;
      may = ((refl, (refl, can_wait how by)), tt);
      comes = λ rights e i.
          record (call_by l (rwlock_profile a (raiser (at.Aside parking.Check))) rights) {
            former =
                λ k. goes l t s.lock (after_case r Aside s.lock t) (purpose.Upgrade how)
                (at.Aside parking.Check) (at.Aside (parking.Leave true)) rights e refl k i;
            retries =
                parked_ends again i;
          };
    }
    aside_up parking.Check (reply.Parked false) finds by now hears = record {
      one = tt;
      may = tt;
      comes = λ rights e i.
          record (call_by l (rwlock_profile a (raiser (at.Aside parking.Check))) rights) {
            former =
                λ k. goes l t s.lock s.lock (purpose.Upgrade how) (at.Aside parking.Check)
                (at.Aside (parking.Leave false)) rights e refl k i;
            retries = unparked_stays again i;
          };
    }
    aside_up (parking.Leave true) reply.Done finds by now hears = record {
      one = tt;
      may = tt;
      comes = λ rights e. recalls _ _ (goes l t s.lock s.lock (purpose.Upgrade how)
          (at.Aside (parking.Leave true)) (at.Aside parking.Asleep) rights e refl);
    }
    aside_up (parking.Leave false) reply.Done finds by now hears = record {
      one = tt;
      may = tt;
      comes = λ rights e. recalls _ _ (goes l t s.lock s.lock (purpose.Upgrade how)
          (at.Aside (parking.Leave false)) (at.Look) rights e refl);
    }
    aside_up parking.Remove (reply.Removed none_left) finds by now hears = record {
      one = tt;
      may = ((refl, (is_timed how by, refl)), refl);
      comes = λ rights e. recalls _ _ (goes l t s.lock (after_case r Late s.lock t) (purpose.Upgrade how)
          (at.Aside parking.Remove) (at.Aside parking.Clear) rights e refl);
    }
    aside_up parking.GiveUp reply.Done finds by now hears = record {
      one = tt;
      may = tt;
      comes = λ rights e. recalls _ _ (goes l t s.lock s.lock (purpose.Upgrade how) (at.Aside parking.GiveUp)
          (at.RollBack) rights e refl);
    }
    aside_up parking.Asleep reply.Late finds by now hears = absurd now
    aside_up to told finds by now hears = absurd hears

  -- ---------------------------------------------------------------- waking others

  -- a writer that has given up
  module _ (x : Access) (how : Patience) (again : Bool) where
    wakes_late : (to : WakeAt) (whom : Option ℕ) (told : Reply) → HasDeadline how
        → MayHearWaking r s t (start_of (purpose.Enter x how)) Main to whom told
        → Tells (enterer x how again (at.Wake Main to)) (wake_deeds (start_of (purpose.Enter x how)) Main to
        whom told) (wake_next (enterer x how again (at.Wake Main to)) Main to told)
    wakes_late waking.Enter whom reply.Done ready hears = record {
      one = tt;
      may = tt;
      comes = λ rights e. recalls _ _ (goes l t s.lock s.lock (purpose.Enter x how)
          (at.Wake Main waking.Enter) (at.Wake Main waking.Take) rights e refl);
    }
    wakes_late waking.Take whom (reply.Took any true) ready hears = record {
      one = tt;
      may = ((refl, ((λ e. cc), refl)), tt);
      comes = λ rights e. recalls _ _
          (goes l t s.lock (after_case r (TakePicked (start_of (purpose.Enter x how))) s.lock t)
          (purpose.Enter x how) (at.Wake Main waking.Take) (at.Wake Main (waking.Clear any)) rights e refl);
    }
    wakes_late waking.Take whom (reply.Took any false) ready hears = record {
      one = tt;
      may = ((refl, ((λ e. cc), refl)), tt);
      comes = λ rights e. recalls _ _
          (goes l t s.lock (after_case r (TakePicked (start_of (purpose.Enter x how))) s.lock t)
          (purpose.Enter x how) (at.Wake Main waking.Take) (at.Wake Main (waking.Leave any)) rights e refl);
    }
    wakes_late waking.Take whom (reply.Picked n y true) ready hears = record {
      one = tt;
      may = ((refl, ((λ e. cc), refl)), tt);
      comes = λ rights e. recalls _ _
          (goes l t s.lock (after_case r (TakePicked (start_of (purpose.Enter x how))) s.lock t)
          (purpose.Enter x how) (at.Wake Main waking.Take) (at.Wake Main (waking.Clear (any_picked n y)))
          rights e refl);
    }
    wakes_late waking.Take whom (reply.Picked n y false) ready hears = record {
      one = tt;
      may = ((refl, ((λ e. cc), refl)), tt);
      comes = λ rights e. recalls _ _
          (goes l t s.lock (after_case r (TakePicked (start_of (purpose.Enter x how))) s.lock t)
          (purpose.Enter x how) (at.Wake Main waking.Take) (at.Wake Main (waking.Leave (any_picked n y)))
          rights e refl);
    }
    wakes_late (waking.Leave true) whom reply.Done ready hears = record {
      one = tt;
      may = ((refl, λ e. cc), tt);
      comes = λ w rights ruled now e has. subst
          (λ y. EntersAnswer w t (by_case Wake (enterer x how again (at.Wake Main (waking.Leave true)))
          rights) l (wanted x) y No) (sym (is_timed how ready)) (
            refl,
            keeps l t s.lock (after_case r Wake s.lock t) (purpose.Enter x how)
                (at.Wake Main (waking.Leave true)) r w rights ruled now e has refl,
          );
    }
    wakes_late (waking.Leave false) whom reply.Done ready hears = record {
      one = tt;
      may = tt;
      comes = λ w rights ruled now e has. subst
          (λ y. EntersAnswer w t (call_by l
          (rwlock_profile a (enterer x how again (at.Wake Main (waking.Leave false)))) rights) l (wanted x) y
          No) (sym (is_timed how ready)) (
            refl,
            keeps l t s.lock s.lock (purpose.Enter x how)
                (at.Wake Main (waking.Leave false)) r w rights ruled now e has refl,
          );
    }
    wakes_late to whom told ready hears = absurd hears

  module _ (how : Patience) (again : Bool) where
    wakes_fallen : (to : WakeAt) (whom : Option ℕ) (told : Reply) → HasDeadline how
        → MayHearWaking r s t (start_of (purpose.Upgrade how)) Main to whom told
        → Tells (raiser how again (at.Wake Main to)) (wake_deeds (start_of (purpose.Upgrade how)) Main to whom
        told) (wake_next (raiser how again (at.Wake Main to)) Main to told)
    wakes_fallen waking.Enter whom reply.Done ready hears = record {
      one = tt;
      may = tt;
      comes = λ rights e. recalls _ _ (goes l t s.lock s.lock (purpose.Upgrade how)
          (at.Wake Main waking.Enter) (at.Wake Main waking.Take) rights e refl);
    }
    wakes_fallen waking.Take whom (reply.Took any true) ready hears = record {
      one = tt;
      may = ((refl, inr ((λ e. cc), refl)), tt);
      comes = λ rights e. recalls _ _
          (goes l t s.lock (after_case r (TakePicked (start_of (purpose.Upgrade how))) s.lock t)
          (purpose.Upgrade how) (at.Wake Main waking.Take) (at.Wake Main (waking.Clear any)) rights e refl);
    }
    wakes_fallen waking.Take whom (reply.Took any false) ready hears = record {
      one = tt;
      may = ((refl, inr ((λ e. cc), refl)), tt);
      comes = λ rights e. recalls _ _
          (goes l t s.lock (after_case r (TakePicked (start_of (purpose.Upgrade how))) s.lock t)
          (purpose.Upgrade how) (at.Wake Main waking.Take) (at.Wake Main (waking.Leave any)) rights e refl);
    }
    wakes_fallen waking.Take whom (reply.Picked n y true) ready hears = record {
      one = tt;
      may = ((refl, inr ((λ e. cc), refl)), tt);
      comes = λ rights e. recalls _ _
          (goes l t s.lock (after_case r (TakePicked (start_of (purpose.Upgrade how))) s.lock t)
          (purpose.Upgrade how) (at.Wake Main waking.Take) (at.Wake Main (waking.Clear (any_picked n y)))
          rights e refl);
    }
    wakes_fallen waking.Take whom (reply.Picked n y false) ready hears = record {
      one = tt;
      may = ((refl, inr ((λ e. cc), refl)), tt);
      comes = λ rights e. recalls _ _
          (goes l t s.lock (after_case r (TakePicked (start_of (purpose.Upgrade how))) s.lock t)
          (purpose.Upgrade how) (at.Wake Main waking.Take) (at.Wake Main (waking.Leave (any_picked n y)))
          rights e refl);
    }
    wakes_fallen (waking.Leave true) whom reply.Done ready hears = record {
      one = tt;
      may = ((refl, inr (λ e. cc)), tt);
      comes = λ w rights ruled now e has. subst
          (λ y. ConvertsAnswer w t (by_case Wake (raiser how again (at.Wake Main (waking.Leave true))) rights)
          l Upgradable Exclusive y No) (sym (is_timed how ready)) (
            refl,
            keeps l t s.lock (after_case r Wake s.lock t) (purpose.Upgrade how)
                (at.Wake Main (waking.Leave true)) r w rights ruled now e has refl,
          );
    }
    wakes_fallen (waking.Leave false) whom reply.Done ready hears = record {
      one = tt;
      may = tt;
      comes = λ w rights ruled now e has. subst
          (λ y. ConvertsAnswer w t (call_by l
          (rwlock_profile a (raiser how again (at.Wake Main (waking.Leave false)))) rights) l Upgradable
          Exclusive y No) (sym (is_timed how ready)) (
            refl,
            keeps l t s.lock s.lock (purpose.Upgrade how)
                (at.Wake Main (waking.Leave false)) r w rights ruled now e has refl,
          );
    }
    wakes_fallen to whom told ready hears = absurd hears

  -- a thread that has released
  module _ (x : Access) (again : Bool) where
    abbrev leaver : RwLockAt → RwLockPlace
    leaver to = of (purpose.Release x) again to

    wakes_released : (to : WakeAt) (whom : Option ℕ) (told : Reply) → wanted x ≢ Shared
        → MayHearWaking r s t (start_of (purpose.Release x)) Main to whom told
        → Tells (leaver (at.Wake Main to)) (wake_deeds (start_of (purpose.Release x)) Main to whom told)
        (wake_next (leaver (at.Wake Main to)) Main to told)
    wakes_released waking.Enter whom reply.Done ready hears = record {
      one = tt;
      may = tt;
      comes = λ rights e. recalls _ _ (goes l t s.lock s.lock (purpose.Release x) (at.Wake Main waking.Enter)
          (at.Wake Main waking.Take) rights e refl);
    }
    wakes_released waking.Take whom (reply.Took any true) ready hears = record {
      one = tt;
      may = ((refl, (ready, refl)), tt);
      comes = λ rights e. recalls _ _
          (goes l t s.lock (after_case r (TakePicked (start_of (purpose.Release x))) s.lock t)
          (purpose.Release x) (at.Wake Main waking.Take) (at.Wake Main (waking.Clear any)) rights e refl);
    }
    wakes_released waking.Take whom (reply.Took any false) ready hears = record {
      one = tt;
      may = ((refl, (ready, refl)), tt);
      comes = λ rights e. recalls _ _
          (goes l t s.lock (after_case r (TakePicked (start_of (purpose.Release x))) s.lock t)
          (purpose.Release x) (at.Wake Main waking.Take) (at.Wake Main (waking.Leave any)) rights e refl);
    }
    wakes_released waking.Take whom (reply.Picked n y true) ready hears = record {
      one = tt;
      may = ((refl, (ready, refl)), tt);
      comes = λ rights e. recalls _ _
          (goes l t s.lock (after_case r (TakePicked (start_of (purpose.Release x))) s.lock t)
          (purpose.Release x) (at.Wake Main waking.Take) (at.Wake Main (waking.Clear (any_picked n y))) rights
          e refl);
    }
    wakes_released waking.Take whom (reply.Picked n y false) ready hears = record {
      one = tt;
      may = ((refl, (ready, refl)), tt);
      comes = λ rights e. recalls _ _
          (goes l t s.lock (after_case r (TakePicked (start_of (purpose.Release x))) s.lock t)
          (purpose.Release x) (at.Wake Main waking.Take) (at.Wake Main (waking.Leave (any_picked n y))) rights
          e refl);
    }
    wakes_released (waking.Leave true) whom reply.Done ready hears = record {
      one = tt;
      may = ((refl, inl refl), tt);
      comes = λ w rights ruled now e has. loses l t s.lock (after_case r Wake s.lock t) (purpose.Release x)
          (at.Wake Main (waking.Leave true)) r w rights ruled now e has (wanted x) refl;
    }
    wakes_released (waking.Leave false) whom reply.Done ready hears = record {
      one = tt;
      may = tt;
      comes = λ w rights ruled now e has. loses l t s.lock s.lock (purpose.Release x)
          (at.Wake Main (waking.Leave false)) r w rights ruled now e has (wanted x) refl;
    }
    wakes_released to whom told ready hears = absurd hears

    wakes_aside : (to : WakeAt) (whom : Option ℕ) (told : Reply) → wanted x ≡ Shared
        → MayHearWaking r s t (start_of (purpose.Release x)) Second to whom told
        → Tells (leaver (at.Wake Second to)) (wake_deeds (start_of (purpose.Release x)) Second to whom told)
        (wake_next (leaver (at.Wake Second to)) Second to told)
    wakes_aside waking.Enter whom reply.Done ready hears = record {
      one = tt;
      may = tt;
      comes = λ rights e. recalls _ _ (goes l t s.lock s.lock (purpose.Release x)
          (at.Wake Second waking.Enter) (at.Wake Second waking.Take) rights e refl);
    }
    wakes_aside waking.Take None (reply.Took any none_left) ready hears = record {
      one = tt;
      may = tt;
      comes = λ rights e. recalls _ _ (goes l t s.lock s.lock (purpose.Release x) (at.Wake Second waking.Take)
          (at.Wake Second (waking.Clear any)) rights e refl);
    }
    wakes_aside waking.Take (Some u) (reply.Took any none_left) ready hears = record {
      one = tt;
      may = ((refl, ready), tt);
      comes = λ rights e. recalls _ _ (goes l t s.lock (after_case r (TakeAside u) s.lock t)
          (purpose.Release x) (at.Wake Second waking.Take) (at.Wake Second (waking.Clear any)) rights e refl);
    }
    wakes_aside waking.Take None (reply.Picked n y none_left) ready hears = record {
      one = tt;
      may = tt;
      comes = λ rights e. recalls _ _ (goes l t s.lock s.lock (purpose.Release x) (at.Wake Second waking.Take)
          (at.Wake Second (waking.Clear (any_picked n y))) rights e refl);
    }
    wakes_aside waking.Take (Some u) (reply.Picked n y none_left) ready hears = record {
      one = tt;
      may = ((refl, ready), tt);
      comes = λ rights e. recalls _ _ (goes l t s.lock (after_case r (TakeAside u) s.lock t)
          (purpose.Release x) (at.Wake Second waking.Take) (at.Wake Second (waking.Clear (any_picked n y)))
          rights e refl);
    }
    wakes_aside (waking.Leave true) whom reply.Done ready hears = record {
      one = tt;
      may = ((refl, inl refl), tt);
      comes = λ w rights ruled now e has. loses l t s.lock (after_case r Wake s.lock t) (purpose.Release x)
          (at.Wake Second (waking.Leave true)) r w rights ruled now e has (wanted x) refl;
    }
    wakes_aside (waking.Leave false) whom reply.Done ready hears = record {
      one = tt;
      may = tt;
      comes = λ w rights ruled now e has. loses l t s.lock s.lock (purpose.Release x)
          (at.Wake Second (waking.Leave false)) r w rights ruled now e has (wanted x) refl;
    }
    wakes_aside to whom told ready hears = absurd hears

  module _ (d : Downgrade) (again : Bool) where
    abbrev lowerer : RwLockAt → RwLockPlace
    lowerer to = of (purpose.Downgrade d) again to

    lesser : (d : Downgrade) → wanted (to_of d) ≢ Exclusive
    lesser downgrade.ToShared e = cc
    lesser downgrade.ToUpgradable e = cc
    lesser downgrade.UpgradableToShared e = cc

    gained : Owns s.lock t (wanted (to_of d)) → with_right (wanted (from_of d)) (rights_of s.lock t)
        ≡ with_right (wanted (to_of d))
        (with_right (wanted (from_of d)) (without_right (wanted (to_of d)) (rights_of s.lock t)))
    gained own = ap (with_right (wanted (from_of d))) (sym (regained s.lock t (wanted (to_of d)) own))
        ∙ commute d (without_right (wanted (to_of d)) (rights_of s.lock t))
      where
        commute : (d : Downgrade) (y : Rights) → with_right (wanted (from_of d))
            (with_right (wanted (to_of d)) y) ≡ with_right (wanted (to_of d))
            (with_right (wanted (from_of d)) y)
        commute downgrade.ToShared y = refl
        commute downgrade.ToUpgradable y = refl
        commute downgrade.UpgradableToShared y = refl

    wakes_lower : (to : WakeAt) (whom : Option ℕ) (told : Reply) → Owns s.lock t (wanted (to_of d))
        → MayHearWaking r s t (start_of (purpose.Downgrade d)) Main to whom told
        → Tells (lowerer (at.Wake Main to)) (wake_deeds (start_of (purpose.Downgrade d)) Main to whom told)
        (wake_next (lowerer (at.Wake Main to)) Main to told)
    wakes_lower waking.Enter whom reply.Done ready hears = record {
      one = tt;
      may = tt;
      comes = λ rights e. recalls _ _ (goes l t s.lock s.lock (purpose.Downgrade d)
          (at.Wake Main waking.Enter) (at.Wake Main waking.Take) rights e refl);
    }
    wakes_lower waking.Take whom (reply.Took any true) ready hears = record {
      one = tt;
      may = ((refl, inl (lesser d, refl)), tt);
      comes = λ rights e. recalls _ _
          (goes l t s.lock (after_case r (TakePicked (start_of (purpose.Downgrade d))) s.lock t)
          (purpose.Downgrade d) (at.Wake Main waking.Take) (at.Wake Main (waking.Clear any)) rights e refl);
    }
    wakes_lower waking.Take whom (reply.Took any false) ready hears = record {
      one = tt;
      may = ((refl, inl (lesser d, refl)), tt);
      comes = λ rights e. recalls _ _
          (goes l t s.lock (after_case r (TakePicked (start_of (purpose.Downgrade d))) s.lock t)
          (purpose.Downgrade d) (at.Wake Main waking.Take) (at.Wake Main (waking.Leave any)) rights e refl);
    }
    wakes_lower waking.Take whom (reply.Picked n y true) ready hears = record {
      one = tt;
      may = ((refl, inl (lesser d, refl)), tt);
      comes = λ rights e. recalls _ _
          (goes l t s.lock (after_case r (TakePicked (start_of (purpose.Downgrade d))) s.lock t)
          (purpose.Downgrade d) (at.Wake Main waking.Take) (at.Wake Main (waking.Clear (any_picked n y)))
          rights e refl);
    }
    wakes_lower waking.Take whom (reply.Picked n y false) ready hears = record {
      one = tt;
      may = ((refl, inl (lesser d, refl)), tt);
      comes = λ rights e. recalls _ _
          (goes l t s.lock (after_case r (TakePicked (start_of (purpose.Downgrade d))) s.lock t)
          (purpose.Downgrade d) (at.Wake Main waking.Take) (at.Wake Main (waking.Leave (any_picked n y)))
          rights e refl);
    }
    wakes_lower (waking.Leave true) whom reply.Done ready hears = record {
      one = tt;
      may = ((refl, inl (lesser d)), tt);
      comes = λ w rights ruled now e has. replaces l t s.lock (after_case r Wake s.lock t)
          (purpose.Downgrade d) (at.Wake Main (waking.Leave true)) r w rights ruled now e has
          (wanted (from_of d)) (wanted (to_of d)) (gained ready);
    }
    wakes_lower (waking.Leave false) whom reply.Done ready hears = record {
      one = tt;
      may = tt;
      comes = λ w rights ruled now e has. replaces l t s.lock s.lock (purpose.Downgrade d)
          (at.Wake Main (waking.Leave false)) r w rights ruled now e has (wanted (from_of d))
          (wanted (to_of d)) (gained ready);
    }
    wakes_lower to whom told ready hears = absurd hears

  -- ---------------------------------------------------------------- every place

  abbrev TellsBy : RwLockPlace → Option ℕ → Reply → Type 0
  TellsBy p whom told = Tells p (rwlock_deeds a p whom told) (rwlock_next a p told)

  writes_tell : (how : Patience) (again : Bool) (to : RwLockAt) (whom : Option ℕ) (told : Reply)
      → WritesAt how to → IsFreshTry how again → s.role t ≡ rwlock_role (writer how again to) → IsNotLate told
      → MayReply r a s t (writer how again to) to whom told → TellsBy (writer how again to) whom told
  writes_tell how again (at.Decide seen) whom reply.Done fits fresh role now hears = record {
    one = tt;
    may = tt;
    comes = λ rights e. recalls _ _ (goes l t s.lock s.lock (purpose.Enter access.Exclusive how)
        (at.Decide seen) (at.Park parking.Check) rights e refl);
  }
  writes_tell how again (at.Count seen) whom reply.Done fits fresh role now hears = record {
    one = tt;
    may = tt;
    comes = λ rights e. recalls _ _ (goes l t s.lock s.lock (purpose.Enter access.Exclusive how)
        (at.Count seen) (at.Aside parking.Check) rights e refl);
  }
  writes_tell how again at.Marked whom reply.Done fits fresh role now hears = record {
    one = tt;
    may = tt;
    comes = λ rights e. recalls _ _ (goes l t s.lock s.lock (purpose.Enter access.Exclusive how) at.Marked
        (at.Aside parking.Check) rights e refl);
  }
  writes_tell how again (at.Park to) whom told fits fresh role now hears =
      parks_tell access.Exclusive how again to told _ fits now hears
  writes_tell how again (at.Aside to) whom told fits fresh role now hears =
      aside_tells how again to told _ fits now hears
  writes_tell how again (at.Wake Main to) whom told fits fresh role now hears =
      wakes_late access.Exclusive how again to whom told fits hears
  writes_tell how again (at.Wake Second to) whom told fits fresh role now hears = absurd fits
  writes_tell how again to whom told fits fresh role now hears = absurd hears

  shares_tell : (x : Access) (how : Patience) (again : Bool) (to : RwLockAt) (whom : Option ℕ) (told : Reply)
      → SharesAt how to → EntersAt x how at.Load → IsFreshTry how again → IsNotLate told
      → MayReply r a s t (enterer x how again to) to whom told → TellsBy (enterer x how again to) whom told
  shares_tell x how again (at.Decide seen) whom reply.Done fits respins_from fresh now hears = record {
    one = tt;
    may = tt;
    comes = λ rights e. recalls _ _ (goes l t s.lock s.lock (purpose.Enter x how) (at.Decide seen)
        (at.Park parking.Check) rights e refl);
  }
  shares_tell x how again (at.Decide seen) whom told fits respins_from fresh now hears = absurd hears
  shares_tell x how again (at.Park to) whom told fits respins_from fresh now hears =
      parks_tell x how again to told _ fits now hears
  shares_tell x how again at.Load whom told fits respins_from fresh now hears = absurd hears
  shares_tell x how again to whom told fits respins_from fresh now hears = absurd fits

  enters_tell : (x : Access) (how : Patience) (again : Bool) (to : RwLockAt) (whom : Option ℕ) (told : Reply)
      → EntersAt x how to → IsFreshTry how again → s.role t ≡ rwlock_role (enterer x how again to)
      → IsNotLate told → MayReply r a s t (enterer x how again to) to whom told
      → TellsBy (enterer x how again to) whom told
  enters_tell access.Exclusive how again to whom told fits fresh role now hears =
      writes_tell how again to whom told fits fresh role now hears
  enters_tell access.Shared how again to whom told fits fresh role now hears =
      shares_tell access.Shared how again to whom told fits tt fresh now hears
  enters_tell access.Upgradable how again to whom told fits fresh role now hears =
      shares_tell access.Upgradable how again to whom told fits tt fresh now hears

  releases_tell : (x : Access) (again : Bool) (to : RwLockAt) (whom : Option ℕ) (told : Reply)
      → ReleasesAt x to → MayReply r a s t (leaver x again to) to whom told
      → TellsBy (leaver x again to) whom told
  releases_tell access.Shared again (at.Wake Second to) whom told fits hears =
      wakes_aside access.Shared again to whom told refl hears
  releases_tell access.Upgradable again (at.Wake Main to) whom told fits hears =
      wakes_released access.Upgradable again to whom told (λ e. cc) hears
  releases_tell access.Exclusive again (at.Wake Main to) whom told fits hears =
      wakes_released access.Exclusive again to whom told (λ e. cc) hears
  releases_tell x again at.GiveWay whom told fits hears = absurd hears
  releases_tell access.Shared again to whom told fits hears = absurd fits
  releases_tell access.Upgradable again to whom told fits hears = absurd fits
  releases_tell access.Exclusive again to whom told fits hears = absurd fits

  downgrades_tell : (d : Downgrade) (again : Bool) (to : RwLockAt) (whom : Option ℕ) (told : Reply)
      → DowngradesAt to → KeepsRight s.lock t (purpose.Downgrade d) to → MayReply r a s t (lowerer d again to)
      to whom told → TellsBy (lowerer d again to) whom told
  downgrades_tell d again (at.Wake Main to) whom told fits own hears = wakes_lower d again to whom told own
      hears
  downgrades_tell d again at.GiveWay whom told fits own hears = absurd hears
  downgrades_tell d again to whom told fits own hears = absurd fits

  upgrades_tell : (how : Patience) (again : Bool) (to : RwLockAt) (whom : Option ℕ) (told : Reply) → how ≢ Try
      → UpgradesAt how again to → s.role t ≡ rwlock_role (raiser how again to) → IsNotLate told
      → MayReply r a s t (raiser how again to) to whom told → TellsBy (raiser how again to) whom told
  upgrades_tell how again (at.Count seen) whom reply.Done more fits role now hears = record {
    one = tt;
    may = tt;
    comes = λ rights e. recalls _ _ (goes l t s.lock s.lock (purpose.Upgrade how) (at.Count seen)
        (at.Aside parking.Check) rights e refl);
  }
  upgrades_tell how again at.Marked whom reply.Done more fits role now hears = record {
    one = tt;
    may = tt;
    comes = λ rights e. recalls _ _ (goes l t s.lock s.lock (purpose.Upgrade how) at.Marked
        (at.Aside parking.Check) rights e refl);
  }
  upgrades_tell Patient again (at.Count seen) whom told more fits role now hears = absurd hears
  upgrades_tell Patient again at.Marked whom told more fits role now hears = absurd hears
  upgrades_tell Patient again (at.Aside to) whom told more fits role now hears =
      aside_up Patient again to told _ fits now hears
  upgrades_tell Patient again at.GiveWay whom told more fits role now hears = absurd hears
  upgrades_tell Patient again at.Look whom told more fits role now hears = absurd hears
  upgrades_tell Patient again at.RollBack whom told more fits role now hears = absurd hears
  upgrades_tell Patient again (at.Wake Main to) whom told more fits role now hears = absurd fits
  upgrades_tell Patient again (at.Wake Second to) whom told more fits role now hears = absurd fits
  upgrades_tell Patient again to whom told more fits role now hears = absurd fits
  upgrades_tell Timed again (at.Count seen) whom told more fits role now hears = absurd hears
  upgrades_tell Timed again at.Marked whom told more fits role now hears = absurd hears
  upgrades_tell Timed again (at.Aside to) whom told more fits role now hears =
      aside_up Timed again to told _ fits now hears
  upgrades_tell Timed again (at.Wake Main to) whom told more fits role now hears =
      wakes_fallen Timed again to whom told fits hears
  upgrades_tell Timed again at.GiveWay whom told more fits role now hears = absurd hears
  upgrades_tell Timed again at.Look whom told more fits role now hears = absurd hears
  upgrades_tell Timed again at.RollBack whom told more fits role now hears = absurd hears
  upgrades_tell Timed again (at.Wake Second to) whom told more fits role now hears = absurd fits
  upgrades_tell Timed again to whom told more fits role now hears = absurd fits
  upgrades_tell Try again to whom told more fits role now hears = absurd (more refl)

  -- a try to upgrade enters no section
  tries_tell : (again : Bool) (to : RwLockAt) (whom : Option ℕ) (told : Reply) → UpgradesAt Try again to
      → MayReply r a s t (raiser Try again to) to whom told → TellsBy (raiser Try again to) whom told
  tries_tell again (at.Decide seen) whom reply.Done fits hears = record {
    one = tt;
    may = tt;
    comes = λ rights e. recalls _ _ (goes l t s.lock s.lock (purpose.Upgrade Try) (at.Decide seen)
        (at.Park parking.Check) rights e refl);
  }
  tries_tell again (at.Decide seen) whom told fits hears = absurd hears
  tries_tell again at.Load whom told fits hears = absurd hears
  tries_tell again to whom told fits hears = absurd fits

keeps_right : {r : Rules} {s : Site} {t : ℕ} → IsSite r s → (q : RwLockPurpose) (again : Bool) (to : RwLockAt)
    → s.role t ≡ rwlock_role (record {
      purpose = q;
      retries = again;
      at = to;
    }) → KeepsRight s.lock t q to
keeps_right {s = s} {t} site (purpose.Downgrade d) again (at.Wake m waking.Enter) is =
    site.held t (Has (wanted (to_of d))) (ap (λ (x : Role). x.claims) is)
keeps_right {s = s} {t} site (purpose.Downgrade d) again (at.Wake m waking.Take) is =
    site.held t (Has (wanted (to_of d))) (ap (λ (x : Role). x.claims) is)
keeps_right {s = s} {t} site (purpose.Downgrade d) again (at.Wake m (waking.Clear any)) is =
    site.held t (Has (wanted (to_of d))) (ap (λ (x : Role). x.claims) is)
keeps_right {s = s} {t} site (purpose.Downgrade d) again (at.Wake m (waking.Leave any)) is =
    site.held t (Has (wanted (to_of d))) (ap (λ (x : Role). x.claims) is)
keeps_right site (purpose.Downgrade d) again to is = tt
keeps_right site q again to is = tt

pub rwlock_sections_tell : RwLockSectionsTell
rwlock_sections_tell r a s t l p whom told calling hears now = by_purpose p.purpose p.retries p.at
    calling.stands.place (keeps_right calling.at.site p.purpose p.retries p.at calling.at.role)
    calling.at.fresh calling.at.role hears
  where
    admits : Admits r a
    admits = calling.at.admits

    by_patience : (how : Patience) (again : Bool) (to : RwLockAt) → UpgradesAt how again to → s.role t
        ≡ rwlock_role (record {
          purpose = purpose.Upgrade how;
          retries = again;
          at = to;
        })
        → MayReply r a s t (record {
          purpose = purpose.Upgrade how;
          retries = again;
          at = to;
        }) to whom told → CallFollowsBy r a s t l (record {
          purpose = purpose.Upgrade how;
          retries = again;
          at = to;
        }) whom told
    by_patience Try again to stands role hears = tries_tell r a s t l admits calling.at.site calling.at.there
        again to whom told stands hears
    by_patience Patient again to stands role hears = upgrades_tell r a s t l admits calling.at.site
        calling.at.there Patient again to whom told (λ e. cc) stands role now hears
    by_patience Timed again to stands role hears = upgrades_tell r a s t l admits calling.at.site
        calling.at.there Timed again to whom told (λ e. cc) stands role now hears

    by_purpose : (q : RwLockPurpose) (again : Bool) (to : RwLockAt) → StandsAt q again to
        → KeepsRight s.lock t q to → IsFreshTry (patience_of q) again → s.role t ≡ rwlock_role (record {
          purpose = q;
          retries = again;
          at = to;
        })
        → MayReply r a s t (record {
          purpose = q;
          retries = again;
          at = to;
        }) to whom told → CallFollowsBy r a s t l (record { purpose = q; retries = again; at = to }) whom told
    by_purpose (purpose.Enter x how) again to stands own fresh role hears =
        enters_tell r a s t l admits calling.at.site calling.at.there x how again to whom told stands fresh
        role now hears
    by_purpose (purpose.Release x) again to stands own fresh role hears = releases_tell r a s t l admits
        calling.at.site calling.at.there x again to whom told stands hears
    by_purpose (purpose.Downgrade d) again to stands own fresh role hears =
        downgrades_tell r a s t l admits calling.at.site calling.at.there d again to whom told stands own
        hears
    by_purpose (purpose.Upgrade how) again to stands own fresh role hears =
        by_patience how again to stands role hears
