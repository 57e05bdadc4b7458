-- How a thread's call began, by its place and by what the thread owns now.
use Rattle.std.proofs.Common.{ℕ, Bool, true, false, Some, ◌≡◌, ◌-◌, ◌≤◌, refl, sym, ◌∙◌, ap, arith}
use Rattle.spec_locks.specs.Locks.{Rights, with_right, without_right}
use Rattle.spec_locks.specs.Purposes.{Enters, Releases, Converts, Bumps}
use Rattle.spec_locks.specs.declared.calls.Patience.{Patience}
use Rattle.spec_locks.specs.Runs.{no_rights, one_less_at, one_more_at}
use Rattle.core_base.specs.declared.keys.Line.TheVariants.{Main, Second}
use Rattle.core_base.specs.declared.wants.Want.{Want}
use Rattle.core_base.specs.declared.wants.Want.TheVariants.{Exclusive, Upgradable, Shared, Wait, CallOnce}
use Rattle.spec_locks.specs.declared.calls.Access.{Access}
use Rattle.spec_locks.specs.declared.calls.Access.TheVariants as access
use Rattle.spec_locks.specs.declared.calls.Downgrade.{Downgrade}
use Rattle.spec_locks.specs.declared.calls.Downgrade.TheVariants as downgrade
use Rattle.spec_locks.specs.declared.calls.Patience.TheVariants as patience
use Rattle.steps_mutex.specs.declared.lock.Entry.{Entry}
use Rattle.steps_mutex.specs.declared.lock.Entry.TheVariants as entry
use Rattle.steps_mutex.specs.declared.lock.LockAt.{LockAt}
use Rattle.steps_mutex.specs.declared.unlock.UnlockAt.{UnlockAt}
use Rattle.steps_mutex.specs.declared.unlock.UnlockAt.TheVariants as unlock
use Rattle.steps_mutex.specs.declared.hand_off.HandOffAt.{HandOffAt}
use Rattle.steps_mutex.specs.declared.hand_off.HandOffAt.TheVariants as hand_off
use Rattle.steps_mutex.specs.declared.places.MutexPlace.{MutexPlace}
use Rattle.steps_mutex.specs.declared.places.MutexPlace.TheVariants as mutex
use Rattle.steps_rwlock.specs.declared.places.Admission.{Admission}
use Rattle.steps_rwlock.specs.declared.places.RwLockAt.{RwLockAt}
use Rattle.steps_rwlock.specs.declared.places.RwLockAt.TheVariants as at
use Rattle.steps_rwlock.specs.declared.park.ParkAt.{ParkAt}
use Rattle.steps_rwlock.specs.declared.park.ParkAt.TheVariants as parking
use Rattle.steps_rwlock.specs.declared.release.WakeAt.{WakeAt}
use Rattle.steps_rwlock.specs.declared.release.WakeAt.TheVariants as waking
use Rattle.steps_rwlock.specs.declared.purposes.RwLockPurpose.{RwLockPurpose}
use Rattle.steps_rwlock.specs.declared.purposes.RwLockPurpose.TheVariants as purpose
use Rattle.steps_rwlock.specs.RwLockCalls.{StandsAt}
use Rattle.steps_rwlock.specs.RwLockSteps.{from_of, to_of, wanted}
use Rattle.steps_rwlock.specs.RwLockProfiles as rows
use Rattle.steps_rwlock_fair.specs.declared.places.RwLockCallPlace.{RwLockCallPlace}
use Rattle.steps_rwlock_fair.specs.declared.places.RwLockCallPlace.TheVariants.{Plain, PeekQueue, HandOver}
use Rattle.steps_rwlock_fair.specs.declared.places.RwLockCallPlace.TheVariants.{Bump}
use Rattle.steps_rwlock_fair.specs.declared.places.RwLockCallPlace.TheVariants.{Handed}
use Rattle.steps_rwlock_fair.specs.declared.hand_over.HandOverAt.{HandOverAt}
use Rattle.steps_rwlock_fair.specs.declared.hand_over.HandOverAt.TheVariants as handing
use Rattle.steps_rwlock_fair.specs.FairCalls.{IsOfBump}
use Rattle.lot_steps.specs.declared.places.Place.{Place}
use Rattle.lot_steps.specs.declared.places.Place.TheVariants.{Idle, Mutex, RwLock, Once, Condvar, Semaphore}
use Rattle.lot_steps.specs.Steps.{profile}
use Rattle.lot_world.specs.Few.{HadNone, IsFew, IsPlain, PendsInCall, number}
use Rattle.lot_world.proofs.Sleepers.{here}
use Rattle.lot_world.specs.Began.{IsJust, PlacesBegan}
use Rattle.lot_world.specs.Owned.{ReleasesOne}
use Rattle.lot_world.specs.Sleepers.{BeganWithFew}
use Rattle.lot_world.specs.Standing.{MayStandAt}

-- a call with another purpose is no release
no_enter : (y x : Want) (how : Patience) (fair : Bool) → Enters 0 y how ≡ Releases 0 x fair → ⊥
no_enter y x how fair e = cc

no_bump : (y x : Want) (fair : Bool) → Bumps 0 y ≡ Releases 0 x fair → ⊥
no_bump y x fair e = cc

no_convert : (y z x : Want) (how : Patience) (fair : Bool) → Converts 0 y z how ≡ Releases 0 x fair → ⊥
no_convert y z x how fair e = cc

same_want : (y x : Want) (a b : Bool) → Releases 0 y a ≡ Releases 0 x b → y ≡ x
same_want y x a b e = cc

unlike : true ≡ false → ⊥
unlike e = cc

gone : (x : Want) → without_right x (with_right x no_rights) ≡ no_rights
gone Exclusive = refl
gone Upgradable = refl
gone Shared = refl
gone Wait = refl
gone CallOnce = refl

module _ (rights : ℕ → Rights) (few : IsFew (rights 0)) where
  abbrev Rest : Want → Rights → Type 0
  Rest x before = (rest : Rights) × IsPlain rest × (with_right x rest ≡ before)

  -- a release that has its right yet, and one that has given it up
  has_it : (x : Want) → rights 0 ≡ with_right x no_rights → Rest x (rights 0)
  has_it x e = (no_rights, omega arith, sym e)

  gave_it : (x : Want) → (rights 0).pending ≡ 0 → Rest x (one_more_at 0 x rights 0)
  gave_it x none = (rights 0, (let f : number (rights 0) ≤ 1 = few in omega arith), sym (here rights 0 _))

  releases_it : (y : Want) (a : Bool) → rights 0 ≡ with_right y no_rights → (x : Want) (fair : Bool)
      → Releases 0 y a ≡ Releases 0 x fair → rights 0 ≡ with_right x no_rights
  releases_it y a just x fair is = just ∙ ap (λ z. with_right z no_rights) (same_want y x a fair is)

  abbrev Began : Place → Type 0
  Began p = BeganWithFew 0 p rights × ReleasesOne p rights

  abbrev Given : Place → Type 0
  Given p = IsJust (profile p).role.claims (rights 0)
      → HadNone ((profile p).purpose 0) (profile p).released ((profile p).former 0 rights 0)
      → PendsInCall (Some ((profile p).purpose 0)) (rights 0) → Began p

  -- ---------------------------------------------------------------- places of a mutex

  unlock_began : (l : ℕ) (to : UnlockAt) → Given (Mutex l (mutex.Unlock to))
  unlock_began l unlock.Subtract just had none =
      (has_it Exclusive just, λ x fair is free. releases_it Exclusive false just x fair is)
  unlock_began l unlock.Enter just had none = (gave_it Exclusive none, λ x fair is free. absurd (unlike free))
  unlock_began l unlock.Take just had none = (gave_it Exclusive none, λ x fair is free. absurd (unlike free))
  unlock_began l (unlock.Clear any) just had none =
      (gave_it Exclusive none, λ x fair is free. absurd (unlike free))
  unlock_began l (unlock.Leave any) just had none =
      (gave_it Exclusive none, λ x fair is free. absurd (unlike free))

  hand_off_began : (l : ℕ) (bumps : Bool) (to : HandOffAt) → Given (Mutex l (mutex.HandOff bumps to))
  hand_off_began l true hand_off.Enter just had none =
      (just, λ x fair is free. absurd (no_bump Exclusive x fair is))
  hand_off_began l true hand_off.Take just had none =
      (just, λ x fair is free. absurd (no_bump Exclusive x fair is))
  hand_off_began l true (hand_off.Store any none_left) just had none =
      (just, λ x fair is free. absurd (no_bump Exclusive x fair is))
  hand_off_began l true (hand_off.Leave any) just had none = (had, λ x fair is free. absurd (unlike free))
  hand_off_began l false hand_off.Enter just had none =
      (has_it Exclusive just, λ x fair is free. releases_it Exclusive true just x fair is)
  hand_off_began l false hand_off.Take just had none =
      (has_it Exclusive just, λ x fair is free. releases_it Exclusive true just x fair is)
  hand_off_began l false (hand_off.Store any none_left) just had none =
      (has_it Exclusive just, λ x fair is free. releases_it Exclusive true just x fair is)
  hand_off_began l false (hand_off.Leave any) just had none =
      (gave_it Exclusive none, λ x fair is free. absurd (unlike free))

  lock_began : (l : ℕ) (e : Entry) (retries : Bool) (to : LockAt) → Given (Mutex l (mutex.Lock e retries to))
  lock_began l entry.Lock retries to just had none =
      (had, λ x fair is free. absurd (no_enter Exclusive x patience.Patient fair is))
  lock_began l entry.LockTimed retries to just had none =
      (had, λ x fair is free. absurd (no_enter Exclusive x patience.Timed fair is))
  lock_began l entry.Bump retries to just had none =
      (had, λ x fair is free. absurd (no_bump Exclusive x fair is))

  mutex_began : (l : ℕ) (to : MutexPlace) → Given (Mutex l to)
  mutex_began l (mutex.Lock e retries to) just had none = lock_began l e retries to just had none
  mutex_began l mutex.TryLock just had none =
      (had, λ x fair is free. absurd (no_enter Exclusive x patience.Try fair is))
  mutex_began l (mutex.Unlock to) just had none = unlock_began l to just had none
  mutex_began l mutex.UnlockFair just had none =
      (has_it Exclusive just, λ x fair is free. releases_it Exclusive true just x fair is)
  mutex_began l mutex.Bump just had none = (just, λ x fair is free. absurd (no_bump Exclusive x fair is))
  mutex_began l (mutex.HandOff bumps to) just had none = hand_off_began l bumps to just had none

  -- ---------------------------------------------------------------- places of a reader-writer lock

  module _ (l : ℕ) (a : Admission) where
    abbrev plain : RwLockPurpose → Bool → RwLockAt → Place
    plain q b to = RwLock l a (Plain (record { purpose = q; retries = b; at = to }))

    abbrev bumping : RwLockPurpose → Bool → RwLockAt → Place
    bumping q b to = RwLock l a (Bump (record { purpose = q; retries = b; at = to }))

    release_began : (x : Access) (b : Bool) (to : RwLockAt) → StandsAt (purpose.Release x) b to
        → Given (plain (purpose.Release x) b to)
    release_began x b at.GiveWay stands just had none =
        (has_it (wanted x) just, λ y fair is free. releases_it (wanted x) false just y fair is)
    release_began x b (at.Wake m to) stands just had none =
        (gave_it (wanted x) none, λ y fair is free. absurd (unlike free))
    release_began access.Shared b to stands just had none = absurd stands
    release_began access.Upgradable b to stands just had none = absurd stands
    release_began access.Exclusive b to stands just had none = absurd stands

    -- the right before it was turned into a lesser one
    back : (x y : Want) → rights 0 ≡ with_right y no_rights → one_more_at 0 x (one_less_at 0 y rights) 0
        ≡ with_right x no_rights
    back x y just = here (one_less_at 0 y rights) 0 _ ∙ ap (with_right x) (here rights 0 _
        ∙ ap (without_right y) just ∙ gone y)

    kept : (d : Downgrade) (b : Bool) (to : WakeAt)
        → IsJust (profile (plain (purpose.Downgrade d) b (at.Wake Main to))).role.claims (rights 0)
        → rights 0 ≡ with_right (wanted (to_of d)) no_rights
    kept downgrade.ToShared b waking.Enter just = just
    kept downgrade.ToShared b waking.Take just = just
    kept downgrade.ToShared b (waking.Clear any) just = just
    kept downgrade.ToShared b (waking.Leave any) just = just
    kept downgrade.ToUpgradable b waking.Enter just = just
    kept downgrade.ToUpgradable b waking.Take just = just
    kept downgrade.ToUpgradable b (waking.Clear any) just = just
    kept downgrade.ToUpgradable b (waking.Leave any) just = just
    kept downgrade.UpgradableToShared b waking.Enter just = just
    kept downgrade.UpgradableToShared b waking.Take just = just
    kept downgrade.UpgradableToShared b (waking.Clear any) just = just
    kept downgrade.UpgradableToShared b (waking.Leave any) just = just

    downgrade_began : (d : Downgrade) (b : Bool) (to : RwLockAt) → StandsAt (purpose.Downgrade d) b to
        → Given (plain (purpose.Downgrade d) b to)
    downgrade_began d b at.GiveWay stands just had none = (
      just,
      λ x fair is free. absurd (no_convert (wanted (from_of d)) (wanted (to_of d)) x patience.Patient
          fair is),
    )
    downgrade_began d b (at.Wake Main to) stands just had none = (
      back (wanted (from_of d)) (wanted (to_of d)) (kept d b to just),
      λ x fair is free. absurd
          (no_convert (wanted (from_of d)) (wanted (to_of d)) x patience.Patient fair is),
    )
    downgrade_began d b to stands just had none = absurd stands

    -- an upgrade that is pending has its lesser right to fall back to
    falls : rights 0 ≡ record no_rights { pending = 1 } → one_more_at 0 Upgradable
        (rows.without_pending 0 rights) 0 ≡ with_right Upgradable no_rights
    falls just = here (rows.without_pending 0 rights) 0 _ ∙ ap (with_right Upgradable) (here rights 0 _
        ∙ ap (λ (r : Rights). record r { pending = r.pending - 1 }) just)

    no_upgrade : (how : Patience) (x : Want) (fair : Bool) → Converts 0 Upgradable Exclusive how
        ≡ Releases 0 x fair → ⊥
    no_upgrade how x fair is = no_convert Upgradable Exclusive x how fair is

    parks_aside : (how : Patience) (b : Bool) (to : ParkAt)
        → IsJust (profile (plain (purpose.Upgrade how) b (at.Aside to))).role.claims (rights 0)
        → rights 0 ≡ record no_rights { pending = 1 }
    parks_aside how b parking.Check just = just
    parks_aside how b (parking.Leave true) just = just
    parks_aside how b (parking.Leave false) just = just
    parks_aside how b parking.Asleep just = just
    parks_aside how b (parking.Taken by) just = just
    parks_aside how b parking.Remove just = just
    parks_aside how b parking.Clear just = just
    parks_aside how b parking.GiveUp just = just

    wakes_up : (how : Patience) (b : Bool) (to : WakeAt)
        → IsJust (profile (plain (purpose.Upgrade how) b (at.Wake Main to))).role.claims (rights 0)
        → rights 0 ≡ with_right Upgradable no_rights
    wakes_up how b waking.Enter just = just
    wakes_up how b waking.Take just = just
    wakes_up how b (waking.Clear any) just = just
    wakes_up how b (waking.Leave any) just = just

    upgrade_began : (how : Patience) (b : Bool) (to : RwLockAt) → StandsAt (purpose.Upgrade how) b to
        → Given (plain (purpose.Upgrade how) b to)
    upgrade_began how b at.Load stands just had none =
        (just, λ x fair is free. absurd (no_upgrade how x fair is))
    upgrade_began how b (at.Decide seen) stands just had none =
        (just, λ x fair is free. absurd (no_upgrade how x fair is))
    upgrade_began how b at.GiveWay stands just had none =
        (just, λ x fair is free. absurd (no_upgrade how x fair is))
    upgrade_began how b at.Look stands just had none =
        (falls just, λ x fair is free. absurd (no_upgrade how x fair is))
    upgrade_began how b (at.Count seen) stands just had none =
        (falls just, λ x fair is free. absurd (no_upgrade how x fair is))
    upgrade_began how b at.Marked stands just had none =
        (falls just, λ x fair is free. absurd (no_upgrade how x fair is))
    upgrade_began how b (at.Aside to) stands just had none =
        (falls (parks_aside how b to just), λ x fair is free. absurd (no_upgrade how x fair is))
    upgrade_began how b at.RollBack stands just had none =
        (falls just, λ x fair is free. absurd (no_upgrade how x fair is))
    upgrade_began how b (at.Wake Main to) stands just had none =
        (wakes_up how b to just, λ x fair is free. absurd (no_upgrade how x fair is))
    upgrade_began patience.Try b (at.Wake Second to) stands just had none = absurd stands
    upgrade_began patience.Timed b (at.Wake Second to) stands just had none = absurd stands
    upgrade_began patience.Patient b (at.Wake Second to) stands just had none = absurd stands
    upgrade_began patience.Try b at.First stands just had none = absurd stands
    upgrade_began patience.Timed b at.First stands just had none = absurd stands
    upgrade_began patience.Patient b at.First stands just had none = absurd stands
    upgrade_began patience.Try b (at.Park to) stands just had none = absurd stands
    upgrade_began patience.Timed b (at.Park to) stands just had none = absurd stands
    upgrade_began patience.Patient b (at.Park to) stands just had none = absurd stands

    plain_began : (q : RwLockPurpose) (b : Bool) (to : RwLockAt) → StandsAt q b to → Given (plain q b to)
    plain_began (purpose.Enter x how) b to stands just had none =
        (had, λ y fair is free. absurd (no_enter (wanted x) y how fair is))
    plain_began (purpose.Release x) b to stands just had none = release_began x b to stands just had none
    plain_began (purpose.Downgrade d) b to stands just had none = downgrade_began d b to stands just had none
    plain_began (purpose.Upgrade how) b to stands just had none = upgrade_began how b to stands just had none

    -- a bump of a shared right, as it gives that up
    bump_release : (b : Bool) (to : RwLockAt) → StandsAt (purpose.Release access.Shared) b to
        → Given (bumping (purpose.Release access.Shared) b to)
    bump_release b at.GiveWay stands just had none =
        (just, λ x fair is free. absurd (no_bump Shared x fair is))
    bump_release b (at.Wake m to) stands just had none =
        (had, λ x fair is free. absurd (no_bump Shared x fair is))
    bump_release b to stands just had none = absurd stands

    bump_began : (q : RwLockPurpose) (b : Bool) (to : RwLockAt) → StandsAt q b to → IsOfBump q b
        → Given (bumping q b to)
    bump_began (purpose.Enter x how) b to stands bumps just had none =
        (had, λ y fair is free. absurd (no_bump (wanted x) y fair is))
    bump_began (purpose.Release access.Shared) b to stands bumps just had none =
        bump_release b to stands just had none
    bump_began (purpose.Release access.Upgradable) b to stands bumps just had none = absurd bumps
    bump_began (purpose.Release access.Exclusive) b to stands bumps just had none = absurd bumps
    bump_began (purpose.Upgrade how) b to stands bumps just had none = absurd bumps
    bump_began (purpose.Downgrade d) b to stands bumps just had none = absurd bumps

    hand_over_began : (x : Access) (bumps : Bool) (to : HandOverAt) → Given (RwLock l a (HandOver x bumps to))
    hand_over_began x true (handing.Leave any handed) just had none =
        (had, λ y fair is free. absurd (unlike free))
    hand_over_began x false (handing.Leave any handed) just had none =
        (gave_it (wanted x) none, λ y fair is free. absurd (unlike free))
    hand_over_began x true handing.Take just had none =
        (just, λ y fair is free. absurd (no_bump (wanted x) y fair is))
    hand_over_began x false handing.Take just had none =
        (has_it (wanted x) just, λ y fair is free. releases_it (wanted x) true just y fair is)
    hand_over_began x true to just had none = (just, λ y fair is free. absurd (no_bump (wanted x) y fair is))
    hand_over_began x false to just had none =
        (has_it (wanted x) just, λ y fair is free. releases_it (wanted x) true just y fair is)

    handed_began : (x : Access) (how : Patience) (bumps : Bool) (to : _)
        → Given (RwLock l a (Handed x how bumps to))
    handed_began x how true to just had none = (had, λ y fair is free. absurd (no_bump (wanted x) y fair is))
    handed_began x how false to just had none =
        (had, λ y fair is free. absurd (no_enter (wanted x) y how fair is))

    call_began : (c : RwLockCallPlace) → MayStandAt (RwLock l a c) → Given (RwLock l a c)
    call_began (Plain p) stands just had none = plain_began p.purpose p.retries p.at stands.place just had
        none
    call_began (Bump p) stands just had none = bump_began p.purpose p.retries p.at stands.0.place stands.1
        just had none
    call_began (PeekQueue x) stands just had none =
        (just, λ y fair is free. absurd (no_bump (wanted x) y fair is))
    call_began (HandOver x b to) stands just had none = hand_over_began x b to just had none
    call_began (Handed x how b to) stands just had none = handed_began x how b to just had none

pub places_began : PlacesBegan
places_began Idle rights stands of few just had none = absurd cc
places_began (Mutex l to) rights stands of few just had none = mutex_began rights few l to just had none
places_began (RwLock l a c) rights stands of few just had none = call_began rights few l a c stands just had
    none
places_began (Once l to) rights stands of few just had none = absurd stands
places_began (Semaphore l to) rights stands of few just had none = absurd stands
places_began (Condvar l to) rights stands of few just had none = absurd stands
