-- A call of a reader-writer lock goes on where it may stand, and what befalls a thread asleep makes of its
-- call what its row says.
use Rattle.std.proofs.Common.{ℕ, Bool, true, false, Some, None, if◌then◌else◌, ◌==◌, ◌&&◌, not, ◌≡◌, ◌≢◌}
use Rattle.std.proofs.Common.{refl, ◌∙◌, ap, sym, subst, nat_le}
use Rattle.core_base.specs.declared.keys.Line.{Line}
use Rattle.core_base.specs.declared.keys.Line.TheVariants.{Main, Second}
use Rattle.core_base.specs.declared.notes.Note.TheVariants as note
use Rattle.core_base.specs.declared.wants.Want.TheVariants.{Exclusive}
use Rattle.spec_locks.specs.declared.calls.Access.{Access}
use Rattle.spec_locks.specs.declared.calls.Downgrade.{Downgrade}
use Rattle.spec_locks.specs.declared.calls.Access.TheVariants as access
use Rattle.spec_locks.specs.declared.calls.Patience.{Patience}
use Rattle.spec_locks.specs.declared.calls.Patience.TheVariants.{Patient, Timed, Try}
use Rattle.spec_locks.specs.declared.outcomes.Answer.{Answer}
use Rattle.spec_locks.specs.declared.outcomes.Answer.TheVariants.{No, ReadersFull}
use Rattle.steps_base.specs.declared.acts.Next.{Next}
use Rattle.steps_base.specs.declared.acts.Next.TheVariants as next
use Rattle.steps_base.specs.declared.acts.Reply.{Reply}
use Rattle.steps_base.specs.declared.acts.Reply.TheVariants as reply
use Rattle.steps_rwlock.specs.declared.places.Admission.{Admission}
use Rattle.steps_rwlock.specs.declared.places.RwLockPlace.{RwLockPlace}
use Rattle.steps_rwlock.specs.declared.purposes.RwLockPurpose.{RwLockPurpose}
use Rattle.steps_rwlock.specs.declared.purposes.RwLockPurpose.TheVariants as purpose
use Rattle.steps_rwlock.specs.declared.places.RwLockAt.{RwLockAt}
use Rattle.steps_rwlock.specs.declared.places.RwLockAt.TheVariants as at
use Rattle.steps_rwlock.specs.declared.enter.Decision.{Decision}
use Rattle.steps_rwlock.specs.declared.enter.Decision.TheVariants as decisions
use Rattle.steps_rwlock.specs.declared.park.ParkAt.{ParkAt}
use Rattle.steps_rwlock.specs.declared.park.ParkAt.TheVariants as parking
use Rattle.steps_rwlock.specs.declared.release.WakeAt.{WakeAt}
use Rattle.steps_rwlock.specs.declared.release.WakeAt.TheVariants as waking
use Rattle.steps_rwlock.specs.RwLockSteps.{entered, goes, after_count, wanted, patience_of, decision_blocked}
use Rattle.steps_rwlock.specs.RwLockSteps.{decision, decided, is_counted, plus, stays, missed, looked_by}
use Rattle.steps_rwlock.specs.RwLockSteps.{looked, came_in, exchanged_next, wakes, wakes_or_ends, park_next}
use Rattle.steps_rwlock.specs.RwLockSteps.{wake_next, rwlock_next}
use Rattle.steps_rwlock.specs.RwLockCalls.{WaitsIfBlocked, HasDeadline, ParksBy, EntersAt, SharesAt, WritesAt}
use Rattle.steps_rwlock.specs.RwLockCalls.{ReleasesAt, DowngradesAt, UpgradesAt, StandsAt, MayBeTold}
use Rattle.steps_rwlock.specs.RwLockCalls.{MayStand, RwLockLooksStand, CallBecomes, RwLockSleepersHear}
use Rattle.steps_base.specs.Calls.{call_by}
use Rattle.steps_base.specs.Profiles.{hand}
use Rattle.steps_rwlock.specs.RwLockProfiles.{rwlock_profile, looking_at, gone_to, parked_hand, late_line_at}
use Rattle.spec_locks.specs.Locks.{Rights}
use Rattle.spec_locks.specs.Runs.{CallState}
use Rattle.spec_locks.specs.Codes.{count_in, has_parked, has_aside, is_blocked}

-- by what its call is for
abbrev pub StandsNext : Next RwLockPlace → Type 0
StandsNext (next.At p) = StandsAt p.purpose p.retries p.at
StandsNext (next.End answer) = Unit {0}

module _ (a : Admission) where
  abbrev of : RwLockPurpose → Bool → RwLockAt → RwLockPlace
  of q again to = record { purpose = q; retries = again; at = to }

  waits_timed : (how : Patience) → HasDeadline how → WaitsIfBlocked how
  waits_timed Timed d = tt
  waits_timed Patient d = absurd d
  waits_timed Try d = absurd d

  -- a thread that decides to wait may
  waits_by : (how : Patience) (word : ℕ) (b c : Bool) → (if b then decision_blocked how word else if c
      then decisions.Refuse ReadersFull else decisions.Take) ≡ decisions.Park → WaitsIfBlocked how
  waits_by Patient word b c e = tt
  waits_by Timed word b c e = tt
  waits_by Try word true c e = cc
  waits_by Try word false true e = cc
  waits_by Try word false false e = cc

  -- ---------------------------------------------------------------- calls that enter

  module _ (x : Access) (how : Patience) (again : Bool) where
    abbrev enterer : RwLockAt → RwLockPlace
    enterer to = of (purpose.Enter x how) again to

    looks : (to : RwLockAt) → ((seen : ℕ) → EntersAt x how (at.Decide seen)) → (seen : ℕ) (d : Decision)
        → StandsNext (looked_by (enterer to) seen d)
    looks to fits seen (decisions.Refuse ans) = tt
    looks to fits seen decisions.Take = fits seen
    looks to fits seen decisions.Mark = fits seen
    looks to fits seen decisions.Park = fits seen

    came : (y : Access) (to : RwLockAt) → (y ≡ access.Exclusive → WaitsIfBlocked how)
        → StandsNext (came_in (of (purpose.Enter y how) again to))
    came access.Exclusive to fits = fits refl
    came access.Shared to fits = tt
    came access.Upgradable to fits = tt

    exchanges : (was seen : ℕ) → ((seen : ℕ) → EntersAt x how (at.Decide seen))
        → (x ≡ access.Exclusive → WaitsIfBlocked how) → (d : Decision)
        → StandsNext (exchanged_next a (enterer (at.Decide was)) was seen d)
    exchanges was seen fits writes decisions.Take = either (seen == was)
      where
        either : (b : Bool) → StandsNext (if b then came_in (enterer (at.Decide was)) else looked a
            (enterer (at.Decide was)) seen)
        either true = came x (at.Decide was) writes
        either false = looks (at.Decide was) fits seen (decided a (enterer (at.Decide was)) seen)
    exchanges was seen fits writes decisions.Mark = either (seen == was)
      where
        either : (b : Bool) → StandsNext (if b then stays (enterer (at.Decide was)) (at.Decide (plus was 1))
            else looked a (enterer (at.Decide was)) seen)
        either true = fits (plus was 1)
        either false = looks (at.Decide was) fits seen (decided a (enterer (at.Decide was)) seen)
    exchanges was seen fits writes decisions.Park = looks (at.Decide was) fits seen
        (decided a (enterer (at.Decide was)) seen)
    exchanges was seen fits writes (decisions.Refuse ans) =
        looks (at.Decide was) fits seen (decided a (enterer (at.Decide was)) seen)

    -- on its way into the main queue, and out of it
    parks : ((to : ParkAt) → ParksBy how to → EntersAt x how (at.Park to))
        → (WaitsIfBlocked how → EntersAt x how at.Load) → (to : ParkAt) (told : Reply) → ParksBy how to
        → MayBeTold a (enterer (at.Park to)) (at.Park to) told
        → StandsNext (park_next (enterer (at.Park to)) Main to told)
    parks fits loads parking.Check (reply.Parked b) by may = fits (parking.Leave b) by
    parks fits loads (parking.Leave true) reply.Done by may = fits parking.Asleep by
    parks fits loads (parking.Leave false) reply.Done by may = loads by
    parks fits loads parking.Asleep (reply.TakenBy u) by may = fits (parking.Taken u) by
    parks fits loads parking.Asleep (reply.Woken note.Normal) by may = loads by
    parks fits loads (parking.Taken u) (reply.Woken note.Normal) by may = loads by
    parks fits loads parking.Asleep reply.Late by may = fits parking.Remove may
    parks fits loads parking.Remove (reply.Removed true) by may = fits parking.Clear by
    parks fits loads parking.Remove (reply.Removed false) by may = fits parking.GiveUp by
    parks fits loads parking.Clear (reply.Value seen) by may = fits parking.GiveUp by
    parks fits loads parking.GiveUp reply.Done by may = tt
    parks fits loads to told by may = fits to by

  -- a writer, on its way aside and out of there
  module _ (q : RwLockPurpose) (again : Bool) (how : Patience) (is : patience_of q ≡ how) where
    asides : ((again : Bool) (to : ParkAt) → ParksBy how to → StandsAt q again (at.Aside to))
        → ((again : Bool) → WaitsIfBlocked how → StandsAt q again at.Look)
        → (HasDeadline how → StandsAt q again at.RollBack)
        → (to : ParkAt) (told : Reply) → ParksBy how to → MayBeTold a (of q again (at.Aside to)) (at.Aside to)
        told → StandsNext (park_next (of q again (at.Aside to)) Second to told)
    asides fits looks rolls parking.Check (reply.Parked b) by may = fits (again && not b) (parking.Leave b) by
    asides fits looks rolls (parking.Leave true) reply.Done by may = fits again parking.Asleep by
    asides fits looks rolls (parking.Leave false) reply.Done by may = looks again by
    asides fits looks rolls parking.Asleep (reply.TakenBy u) by may = fits again (parking.Taken u) by
    asides fits looks rolls parking.Asleep (reply.Woken note.Normal) by may = looks true by
    asides fits looks rolls (parking.Taken u) (reply.Woken note.Normal) by may = looks true by
    asides fits looks rolls parking.Asleep reply.Late by may =
        fits again parking.Remove (subst HasDeadline is may)
    asides fits looks rolls parking.Remove (reply.Removed b) by may = fits again parking.Clear by
    asides fits looks rolls parking.Clear (reply.Value seen) by may = fits again parking.GiveUp by
    asides fits looks rolls parking.GiveUp reply.Done by may = rolls by
    asides fits looks rolls to told by may = fits again to by

    -- each thread that wakes others goes on doing so
    wakes_on : (m : Line) → ((to : WakeAt) → StandsAt q again (at.Wake m to)) → (to : WakeAt) (told : Reply)
        → StandsNext (wake_next (of q again (at.Wake m to)) m to told)
    wakes_on m fits waking.Enter reply.Done = fits waking.Take
    wakes_on m fits waking.Take (reply.Took any none_left) = fits _
    wakes_on m fits waking.Take (reply.Picked n y none_left) = fits _
    wakes_on m fits (waking.Clear any) (reply.Value seen) = fits (waking.Leave any)
    wakes_on m fits (waking.Leave any) reply.Done = tt
    wakes_on m fits to told = fits to

  counts_on : (q : RwLockPurpose) (again : Bool) (to : RwLockAt) (seen : ℕ)
      → ((seen : ℕ) → StandsAt q again (at.Count seen)) → (b : Bool) → (ans : Answer)
      → StandsNext (if b then next.End ans else stays (of q again to) (at.Count seen))
  counts_on q again to seen fits true ans = tt
  counts_on q again to seen fits false ans = fits seen

  first_on : (how : Patience) (again : Bool) (b : Bool) (ans : Answer)
      → StandsNext (if b then next.End ans else missed (of (purpose.Enter access.Exclusive how) again
      at.First) how)
  first_on how again true ans = tt
  first_on Patient again false ans = tt
  first_on Timed again false ans = tt
  first_on Try again false ans = tt

  rolls_on : (q : RwLockPurpose) (again : Bool) → StandsAt q again (at.Wake Main waking.Enter) → (b : Bool)
      → StandsNext (if b then stays (of q again at.RollBack) (wakes Main) else next.End No)
  rolls_on q again fits true = fits
  rolls_on q again fits false = tt

  writes_stand : (how : Patience) (again : Bool) (to : RwLockAt) (told : Reply) → WritesAt how to
      → MayBeTold a (of (purpose.Enter access.Exclusive how) again to) to told
      → StandsNext (rwlock_next a (of (purpose.Enter access.Exclusive how) again to) told)
  writes_stand how again at.First (reply.Value seen) fits may = first_on how again (seen == 0) _
  writes_stand how again at.Load (reply.Value seen) fits may = looks access.Exclusive how again at.Load
      (λ n. fits) seen (decision a Exclusive how seen)
  writes_stand how again (at.Decide was) (reply.Value seen) fits may = exchanges access.Exclusive how again
      was seen (λ n. fits) (λ e. fits) (decision a Exclusive how was)
  writes_stand how again (at.Decide was) reply.Done fits may = fits
  writes_stand how again (at.Park to) told fits may = parks access.Exclusive how again (λ to by. by) (λ w. w)
      to told fits may
  writes_stand how again at.Look (reply.Value seen) fits may = counts_on (purpose.Enter access.Exclusive how)
      again at.Look seen (λ n. fits) (count_in seen == 0) _
  writes_stand how again (at.Count was) (reply.Value seen) fits may = either (seen == was)
    where
      either : (b : Bool) → StandsNext
          (if b then stays (of (purpose.Enter access.Exclusive how) again (at.Count was)) at.Marked
          else after_count (of (purpose.Enter access.Exclusive how) again (at.Count was)) seen)
      either true = fits
      either false = counts_on (purpose.Enter access.Exclusive how) again (at.Count was) seen (λ n. fits)
          (count_in seen == 0) _
  writes_stand how again (at.Count was) reply.Done fits may = fits
  writes_stand how again at.Marked reply.Done fits may = fits
  writes_stand how again (at.Aside to) told fits may = asides (purpose.Enter access.Exclusive how) again how
      refl (λ again to by. by) (λ again w. w) (λ d. d) to told fits may
  writes_stand how again at.RollBack (reply.Value seen) fits may =
      rolls_on (purpose.Enter access.Exclusive how) again fits (has_parked seen)
  writes_stand how again (at.Wake Main to) told fits may = wakes_on (purpose.Enter access.Exclusive how) again
      how refl Main (λ to. fits) to told
  writes_stand how again (at.Wake Second to) told fits may = absurd fits
  writes_stand how again at.GiveWay told fits may = absurd fits
  writes_stand how again to told fits may = fits

  shares_stand : (x : Access) (how : Patience) (again : Bool) (to : RwLockAt) (told : Reply)
      → ((to : RwLockAt) → SharesAt how to → EntersAt x how to) → (x ≢ access.Exclusive) → SharesAt how to
      → MayBeTold a (enterer x how again to) to told
      → StandsNext (rwlock_next a (enterer x how again to) told)
  shares_stand x how again at.Load (reply.Value seen) fit more fits may = looks x how again at.Load
      (λ n. fit (at.Decide n) tt) seen (decision a (wanted x) how seen)
  shares_stand x how again (at.Decide was) (reply.Value seen) fit more fits may =
      exchanges x how again was seen (λ n. fit (at.Decide n) tt) (λ e. absurd (more e))
      (decision a (wanted x) how was)
  shares_stand x how again (at.Decide was) reply.Done fit more fits may = fit (at.Park parking.Check)
      (waits_by how was (is_blocked a.recursive (wanted x) was) (is_counted (wanted x) && nat_le a.limit
      (count_in was)) may)
  shares_stand x how again (at.Park to) told fit more fits may =
      parks x how again (λ to by. fit (at.Park to) by) (λ w. fit at.Load tt) to told fits may
  shares_stand x how again at.Load told fit more fits may = fit at.Load tt
  shares_stand x how again (at.Decide was) told fit more fits may = fit (at.Decide was) tt
  shares_stand x how again to told fit more fits may = absurd fits

  -- ---------------------------------------------------------------- the other calls

  wakes_or : (q : RwLockPurpose) (again : Bool) (m : Line) → StandsAt q again (at.Wake m waking.Enter)
      → (b : Bool) → StandsNext (wakes_or_ends (of q again at.GiveWay) m b)
  wakes_or q again m fits true = fits
  wakes_or q again m fits false = tt

  releases_stand : (x : Access) (again : Bool) (to : RwLockAt) (told : Reply) → ReleasesAt x to
      → StandsNext (rwlock_next a (of (purpose.Release x) again to) told)
  releases_stand access.Shared again at.GiveWay (reply.Value seen) fits =
      wakes_or (purpose.Release access.Shared) again Second tt (has_aside seen && (count_in seen == 1))
  releases_stand access.Upgradable again at.GiveWay (reply.Value seen) fits =
      wakes_or (purpose.Release access.Upgradable) again Main tt (has_parked seen)
  releases_stand access.Exclusive again at.GiveWay (reply.Value seen) fits =
      wakes_or (purpose.Release access.Exclusive) again Main tt (has_parked seen)
  releases_stand x again at.GiveWay told fits = fits
  releases_stand access.Shared again (at.Wake Second to) told fits = wakes_on (purpose.Release access.Shared)
      again Patient refl Second (λ to. tt) to told
  releases_stand access.Upgradable again (at.Wake Main to) told fits =
      wakes_on (purpose.Release access.Upgradable) again Patient refl Main (λ to. tt) to told
  releases_stand access.Exclusive again (at.Wake Main to) told fits =
      wakes_on (purpose.Release access.Exclusive) again Patient refl Main (λ to. tt) to told
  releases_stand access.Shared again to told fits = absurd fits
  releases_stand access.Upgradable again to told fits = absurd fits
  releases_stand access.Exclusive again to told fits = absurd fits

  downgrades_stand : (d : Downgrade) (again : Bool) (to : RwLockAt) (told : Reply) → DowngradesAt to
      → StandsNext (rwlock_next a (of (purpose.Downgrade d) again to) told)
  downgrades_stand d again at.GiveWay (reply.Value seen) fits = wakes_or (purpose.Downgrade d) again Main tt
      (has_parked seen)
  downgrades_stand d again at.GiveWay told fits = fits
  downgrades_stand d again (at.Wake Main to) told fits = wakes_on (purpose.Downgrade d) again Patient refl
      Main (λ to. tt) to told
  downgrades_stand d again (at.Wake Second to) told fits = absurd fits
  downgrades_stand d again to told fits = absurd fits

  -- an upgrade that waits
  patient_stands : (again : Bool) (to : RwLockAt) (told : Reply) → UpgradesAt Patient again to
      → MayBeTold a (of (purpose.Upgrade Patient) again to) to told
      → StandsNext (rwlock_next a (of (purpose.Upgrade Patient) again to) told)
  patient_stands again at.GiveWay (reply.Value seen) fits may = either (count_in seen == 1)
    where
      either : (b : Bool) → StandsNext (if b then next.End (entered Patient)
          else goes (of (purpose.Upgrade Patient) again at.GiveWay) at.Look false)
      either true = tt
      either false = tt
  patient_stands again at.GiveWay told fits may = fits
  patient_stands again at.Look (reply.Value seen) fits may = counts_on (purpose.Upgrade Patient) again at.Look
      seen (λ n. tt) (count_in seen == 0) (entered Patient)
  patient_stands again at.Look told fits may = tt
  patient_stands again (at.Count was) (reply.Value seen) fits may = either (seen == was)
    where
      either : (b : Bool) → StandsNext (if b then stays (of (purpose.Upgrade Patient) again (at.Count was))
          at.Marked else after_count (of (purpose.Upgrade Patient) again (at.Count was)) seen)
      either true = tt
      either false = counts_on (purpose.Upgrade Patient) again (at.Count was) seen (λ n. tt)
          (count_in seen == 0) (entered Patient)
  patient_stands again (at.Count was) reply.Done fits may = tt
  patient_stands again (at.Count was) told fits may = tt
  patient_stands again at.Marked reply.Done fits may = tt
  patient_stands again at.Marked told fits may = tt
  patient_stands again (at.Aside to) told fits may = asides (purpose.Upgrade Patient) again Patient refl
      (λ again to by. by) (λ again w. tt) (λ d. absurd d) to told fits may
  patient_stands again (at.Wake Main to) told fits may = absurd fits
  patient_stands again (at.Wake Second to) told fits may = absurd fits
  patient_stands again to told fits may = absurd fits

  timed_stands : (again : Bool) (to : RwLockAt) (told : Reply) → UpgradesAt Timed again to
      → MayBeTold a (of (purpose.Upgrade Timed) again to) to told
      → StandsNext (rwlock_next a (of (purpose.Upgrade Timed) again to) told)
  timed_stands again at.GiveWay (reply.Value seen) fits may = either (count_in seen == 1)
    where
      either : (b : Bool) → StandsNext (if b then next.End (entered Timed)
          else goes (of (purpose.Upgrade Timed) again at.GiveWay) at.Look false)
      either true = tt
      either false = tt
  timed_stands again at.GiveWay told fits may = fits
  timed_stands again at.Look (reply.Value seen) fits may = counts_on (purpose.Upgrade Timed) again at.Look
      seen (λ n. tt) (count_in seen == 0) (entered Timed)
  timed_stands again at.Look told fits may = tt
  timed_stands again (at.Count was) (reply.Value seen) fits may = either (seen == was)
    where
      either : (b : Bool) → StandsNext (if b then stays (of (purpose.Upgrade Timed) again (at.Count was))
          at.Marked else after_count (of (purpose.Upgrade Timed) again (at.Count was)) seen)
      either true = tt
      either false = counts_on (purpose.Upgrade Timed) again (at.Count was) seen (λ n. tt)
          (count_in seen == 0) (entered Timed)
  timed_stands again (at.Count was) reply.Done fits may = tt
  timed_stands again (at.Count was) told fits may = tt
  timed_stands again at.Marked reply.Done fits may = tt
  timed_stands again at.Marked told fits may = tt
  timed_stands again (at.Aside to) told fits may = asides (purpose.Upgrade Timed) again Timed refl
      (λ again to by. by) (λ again w. tt) (λ d. d) to told fits may
  timed_stands again at.RollBack (reply.Value seen) fits may = rolls_on (purpose.Upgrade Timed) again tt
      (has_parked seen)
  timed_stands again at.RollBack told fits may = tt
  timed_stands again (at.Wake Main to) told fits may = wakes_on (purpose.Upgrade Timed) again Timed refl Main
      (λ to. tt) to told
  timed_stands again (at.Wake Second to) told fits may = absurd fits
  timed_stands again to told fits may = absurd fits

  -- A try to upgrade stands where it looks up.
  looks_up : (again : Bool) (to : RwLockAt) (seen : ℕ) (b : Bool)
      → StandsNext (looked_by (of (purpose.Upgrade Try) again to) seen (if b then decisions.Take
      else decisions.Refuse No))
  looks_up again to seen true = tt
  looks_up again to seen false = tt

  never_parks : (b : Bool) → (if b then decisions.Take else decisions.Refuse No) ≡ decisions.Park → ⊥
  never_parks true e = cc
  never_parks false e = cc

  tries_stand : (again : Bool) (to : RwLockAt) (told : Reply) → UpgradesAt Try again to
      → MayBeTold a (of (purpose.Upgrade Try) again to) to told
      → StandsNext (rwlock_next a (of (purpose.Upgrade Try) again to) told)
  tries_stand again at.Load (reply.Value seen) fits may = looks_up again at.Load seen (count_in seen == 1)
  tries_stand again at.Load told fits may = tt
  tries_stand again (at.Decide was) (reply.Value seen) fits may = by_sight (count_in was == 1)
    where
      won : (b : Bool) → StandsNext (if b then next.End (entered Try) else looked a
          (of (purpose.Upgrade Try) again (at.Decide was)) seen)
      won true = tt
      won false = looks_up again (at.Decide was) seen (count_in seen == 1)

      by_sight : (b : Bool) → StandsNext (exchanged_next a (of (purpose.Upgrade Try) again (at.Decide was))
          was seen (if b then decisions.Take else decisions.Refuse No))
      by_sight true = won (seen == was)
      by_sight false = looks_up again (at.Decide was) seen (count_in seen == 1)
  tries_stand again (at.Decide was) reply.Done fits may = absurd (never_parks (count_in was == 1) may)
  tries_stand again (at.Decide was) told fits may = tt
  tries_stand again to told fits may = absurd fits

-- wherever it stands
pub stands_on : (a : Admission) (p : RwLockPlace) (told : Reply) → StandsAt p.purpose p.retries p.at
    → MayBeTold a p p.at told → StandsNext (rwlock_next a p told)
stands_on a p told stands may = by_purpose p.purpose p.retries p.at stands may
  where
    by_purpose : (q : RwLockPurpose) (again : Bool) (to : RwLockAt) → StandsAt q again to
        → MayBeTold a (of a q again to) to told → StandsNext (rwlock_next a (of a q again to) told)
    by_purpose (purpose.Enter access.Exclusive how) again to fits may = writes_stand a how again to told fits
        may
    by_purpose (purpose.Enter access.Shared how) again to fits may = shares_stand a access.Shared how again to
        told (λ to h. h) (λ e. cc) fits may
    by_purpose (purpose.Enter access.Upgradable how) again to fits may = shares_stand a access.Upgradable how
        again to told (λ to h. h) (λ e. cc) fits may
    by_purpose (purpose.Release x) again to fits may = releases_stand a x again to told fits
    by_purpose (purpose.Downgrade d) again to fits may = downgrades_stand a d again to told fits
    by_purpose (purpose.Upgrade Patient) again to fits may = patient_stands a again to told fits may
    by_purpose (purpose.Upgrade Timed) again to fits may = timed_stands a again to told fits may
    by_purpose (purpose.Upgrade Try) again to fits may = tries_stand a again to told fits may

-- ---------------------------------------------------------------- looks

module _ (a : Admission) where
  same_rows : (q : RwLockPurpose) (again : Bool) (seen : ℕ)
      → (rwlock_profile a (of a q again at.Load) ≡ rwlock_profile a (of a q again (at.Decide seen)))
      × (rwlock_profile a (of a q again at.Look) ≡ rwlock_profile a (of a q again (at.Count seen)))
  same_rows (purpose.Enter x how) again seen = (refl, refl)
  same_rows (purpose.Release x) again seen = (refl, refl)
  same_rows (purpose.Downgrade d) again seen = (refl, refl)
  same_rows (purpose.Upgrade how) again seen = (refl, refl)

  loads_stand : (q : RwLockPurpose) (again : Bool) (seen : ℕ) → StandsAt q again (at.Decide seen)
      → StandsAt q again at.Load
  loads_stand (purpose.Enter access.Exclusive how) again seen fits = fits
  loads_stand (purpose.Enter access.Shared how) again seen fits = tt
  loads_stand (purpose.Enter access.Upgradable how) again seen fits = tt
  loads_stand (purpose.Release access.Shared) again seen fits = fits
  loads_stand (purpose.Release x) again seen fits = fits
  loads_stand (purpose.Downgrade d) again seen fits = fits
  loads_stand (purpose.Upgrade Try) again seen fits = tt
  loads_stand (purpose.Upgrade how) again seen fits = fits

  counts_stand : (q : RwLockPurpose) (again : Bool) (seen : ℕ) → StandsAt q again (at.Count seen)
      → StandsAt q again at.Look
  counts_stand (purpose.Enter access.Exclusive how) again seen fits = fits
  counts_stand (purpose.Enter access.Shared how) again seen fits = fits
  counts_stand (purpose.Enter access.Upgradable how) again seen fits = fits
  counts_stand (purpose.Release access.Shared) again seen fits = fits
  counts_stand (purpose.Release x) again seen fits = fits
  counts_stand (purpose.Downgrade d) again seen fits = fits
  counts_stand (purpose.Upgrade Patient) again seen fits = tt
  counts_stand (purpose.Upgrade Timed) again seen fits = tt
  counts_stand (purpose.Upgrade Try) again seen fits = fits

  abbrev IsLook : RwLockPlace → RwLockPlace → Type 0
  IsLook p q = (rwlock_profile a q ≡ rwlock_profile a p) × (MayStand a p → MayStand a q)

  some_is : (p q : RwLockPlace) → Some p ≡ Some q → p ≡ q
  some_is p q e = cc

  by_mark : (b : Bool) (p q : RwLockPlace) → IsLook p (record p { at = at.Load })
      → gone_to p (if b then Some at.Load else None) ≡ Some q → IsLook p q
  by_mark true p q look is = subst (IsLook p) (some_is (record p { at = at.Load }) q is) look
  by_mark false p q look is = absurd cc

  looks_from : (how : RwLockPurpose) (again : Bool) (to : RwLockAt) (q : RwLockPlace)
      → gone_to (of a how again to) (looking_at a (of a how again to) to) ≡ Some q
      → IsLook (of a how again to) q
  looks_from how again (at.Decide seen) q is = by_mark _ (of a how again (at.Decide seen)) q (
    (same_rows how again seen).0,
    λ h. record {
      place = loads_stand how again seen h.place;
      fresh = h.fresh;
      decided = tt;
    },
  ) is
  looks_from how again (at.Count seen) q is = subst (IsLook (of a how again (at.Count seen)))
      (some_is (of a how again at.Look) q is) (
        (same_rows how again seen).1,
        λ h. record {
          place = counts_stand how again seen h.place;
          fresh = h.fresh;
          decided = tt;
        },
      )
  looks_from how again to q is = absurd cc

pub rwlock_looks_stand : RwLockLooksStand
rwlock_looks_stand a p q is = looks_from a p.purpose p.retries p.at q is

-- ---------------------------------------------------------------- threads asleep

module _ (a : Admission) (l : ℕ) where
  -- where a thread stands then is one place
  becomes : (p n : RwLockPlace) (told : Reply) (f : CallState → CallState) → rwlock_next a p told ≡ next.At n
      → ((rights : ℕ → Rights) → call_by l (rwlock_profile a n) rights ≡ f
      (call_by l (rwlock_profile a p) rights)) → CallBecomes a l p told f
  becomes p n told f is same p2 rights e = let there : p2 ≡ n = cc
      in subst (λ q. call_by l (rwlock_profile a q) rights ≡ f (call_by l (rwlock_profile a p) rights))
      (sym there) (same rights)

  abbrev again_then : CallState → CallState
  again_then c = record c { retries = Some l }

  abbrev late_then : CallState → CallState
  late_then c = record c { late = true }

  abbrev taken_to : ℕ → RwLockAt → RwLockAt
  taken_to u (at.Park parking.Asleep) = at.Park (parking.Taken u)
  taken_to u (at.Aside parking.Asleep) = at.Aside (parking.Taken u)
  taken_to u to = to

  takes : (q : RwLockPurpose) (again : Bool) (to : RwLockAt) (u : ℕ) → rwlock_next a (of a q again to)
      (reply.TakenBy u) ≡ next.At (of a q again (taken_to u to))
  takes q again (at.Park parking.Asleep) u = refl
  takes q again (at.Park to) u = refl
  takes q again (at.Aside parking.Asleep) u = refl
  takes q again (at.Aside to) u = refl
  takes q again (at.Wake m waking.Enter) u = refl
  takes q again (at.Wake m to) u = refl
  takes q again (at.Decide seen) u = refl
  takes q again to u = refl

  taken_same : (q : RwLockPurpose) (again : Bool) (to : RwLockAt) (u : ℕ) (rights : ℕ → Rights)
      → call_by l (rwlock_profile a (of a q again (taken_to u to))) rights
      ≡ call_by l (rwlock_profile a (of a q again to)) rights
  taken_same (purpose.Enter x how) again (at.Park parking.Asleep) u rights = refl
  taken_same (purpose.Release x) again (at.Park parking.Asleep) u rights = refl
  taken_same (purpose.Downgrade d) again (at.Park parking.Asleep) u rights = refl
  taken_same (purpose.Upgrade how) again (at.Park parking.Asleep) u rights = refl
  taken_same (purpose.Enter x how) again (at.Aside parking.Asleep) u rights = refl
  taken_same (purpose.Release x) again (at.Aside parking.Asleep) u rights = refl
  taken_same (purpose.Downgrade d) again (at.Aside parking.Asleep) u rights = refl
  taken_same (purpose.Upgrade how) again (at.Aside parking.Asleep) u rights = refl
  taken_same q again (at.Park to) u rights = refl
  taken_same q again (at.Aside to) u rights = refl
  taken_same q again to u rights = refl

  -- a thread that was taken, and is woken, tries again
  wakes_up : (q : RwLockPurpose) (again : Bool) (to : RwLockAt) (u : ℕ) → parked_hand to ≡ hand u false
      → CallBecomes a l (of a q again to) (reply.Woken note.Normal) (λ c. record c { retries = Some l })
  wakes_up q again (at.Park (parking.Taken v)) u h = becomes (of a q again (at.Park (parking.Taken v)))
      (of a q true at.Load) (reply.Woken note.Normal) again_then refl (by_purpose q)
    where
      by_purpose : (q : RwLockPurpose) (rights : ℕ → Rights)
          → call_by l (rwlock_profile a (of a q true at.Load)) rights ≡ record
          (call_by l (rwlock_profile a (of a q again (at.Park (parking.Taken v)))) rights) {
            retries =
                Some l;
          }
      by_purpose (purpose.Enter x how) rights = refl
      by_purpose (purpose.Release x) rights = refl
      by_purpose (purpose.Downgrade d) rights = refl
      by_purpose (purpose.Upgrade how) rights = refl
  wakes_up q again (at.Aside (parking.Taken v)) u h = becomes (of a q again (at.Aside (parking.Taken v)))
      (of a q true at.Look) (reply.Woken note.Normal) again_then refl (by_purpose q)
    where
      by_purpose : (q : RwLockPurpose) (rights : ℕ → Rights)
          → call_by l (rwlock_profile a (of a q true at.Look)) rights ≡ record
          (call_by l (rwlock_profile a (of a q again (at.Aside (parking.Taken v)))) rights) {
            retries =
                Some l;
          }
      by_purpose (purpose.Enter x how) rights = refl
      by_purpose (purpose.Release x) rights = refl
      by_purpose (purpose.Downgrade d) rights = refl
      by_purpose (purpose.Upgrade how) rights = refl
  wakes_up q again (at.Park to) u h = absurd cc
  wakes_up q again (at.Aside to) u h = absurd cc
  wakes_up q again to u h = absurd cc

  -- A call whose time is up is late.
  is_late_then : (q : RwLockPurpose) (again : Bool) (to : RwLockAt) → StandsAt q again to
      → late_line_at (patience_of q) to ≢ None → CallBecomes a l (of a q again to) reply.Late
      (λ c. record c { late = true })
  is_late_then (purpose.Enter x how) again (at.Park parking.Asleep) fits may =
      becomes (of a (purpose.Enter x how) again (at.Park parking.Asleep)) (of a (purpose.Enter x how) again
      (at.Park parking.Remove)) reply.Late late_then refl (λ rights. refl)
  is_late_then (purpose.Enter x how) again (at.Aside parking.Asleep) fits may =
      becomes (of a (purpose.Enter x how) again (at.Aside parking.Asleep))
      (of a (purpose.Enter x how) again (at.Aside parking.Remove)) reply.Late late_then refl (λ rights. refl)
  is_late_then (purpose.Upgrade how) again (at.Aside parking.Asleep) fits may =
      becomes (of a (purpose.Upgrade how) again (at.Aside parking.Asleep))
      (of a (purpose.Upgrade how) again (at.Aside parking.Remove)) reply.Late late_then refl (λ rights. refl)
  is_late_then (purpose.Upgrade how) again (at.Park parking.Asleep) fits may = absurd (nowhere how fits)
    where
      nowhere : (y : Patience) → UpgradesAt y again (at.Park parking.Asleep) → ⊥
      nowhere Patient f = f
      nowhere Timed f = f
      nowhere Try f = f
  is_late_then (purpose.Release x) again (at.Park to) fits may = absurd (may (never to))
    where
      never : (to : ParkAt) → late_line_at Patient (at.Park to) ≡ None
      never parking.Asleep = refl
      never to = refl
  is_late_then (purpose.Release x) again (at.Aside to) fits may = absurd (may (never to))
    where
      never : (to : ParkAt) → late_line_at Patient (at.Aside to) ≡ None
      never parking.Asleep = refl
      never to = refl
  is_late_then (purpose.Downgrade d) again (at.Park to) fits may = absurd fits
  is_late_then (purpose.Downgrade d) again (at.Aside to) fits may = absurd fits
  is_late_then q again (at.Park to) fits may = absurd (may refl)
  is_late_then q again (at.Aside to) fits may = absurd (may refl)
  is_late_then q again to fits may = absurd (may refl)

-- a thread that is taken stands somewhere of its call, which is as it was, and for the same purpose
pub taken_goes : (a : Admission) (l : ℕ) (p : RwLockPlace) (u : ℕ) → (p2 : RwLockPlace)
    × (rwlock_next a p (reply.TakenBy u) ≡ next.At p2)
    × ((rights : ℕ → Rights) → call_by l (rwlock_profile a p2) rights ≡ call_by l (rwlock_profile a p) rights)
    × (p2.purpose ≡ p.purpose)
taken_goes a l p u = (
  of a p.purpose p.retries (taken_to a l u p.at),
  takes a l p.purpose p.retries p.at u,
  taken_same a l p.purpose p.retries p.at u,
  refl,
)

-- a thread that was taken, and is woken, does too, and it tries again
pub woken_goes : (a : Admission) (l : ℕ) (p : RwLockPlace) (u : ℕ) → parked_hand p.at ≡ hand u false
    → (p2 : RwLockPlace) × (rwlock_next a p (reply.Woken note.Normal) ≡ next.At p2)
    × ((rights : ℕ → Rights) → call_by l (rwlock_profile a p2) rights ≡ record
    (call_by l (rwlock_profile a p) rights) { retries = Some l }) × (p2.purpose ≡ p.purpose)
woken_goes a l p u h = by_place p.at refl h
  where
    at_once : (to goes_to : RwLockAt) → p.at ≡ to → parked_hand to ≡ hand u false
        → rwlock_next a (of a p.purpose p.retries to) (reply.Woken note.Normal)
        ≡ next.At (of a p.purpose true goes_to)
        → (p2 : RwLockPlace) × (rwlock_next a p (reply.Woken note.Normal) ≡ next.At p2)
        × ((rights : ℕ → Rights) → call_by l (rwlock_profile a p2) rights
        ≡ record (call_by l (rwlock_profile a p) rights) { retries = Some l }) × (p2.purpose ≡ p.purpose)
    at_once to goes_to e h is = let then_is : rwlock_next a p (reply.Woken note.Normal) ≡ next.At
        (of a p.purpose true goes_to) =
        ap (λ x. rwlock_next a (of a p.purpose p.retries x) (reply.Woken note.Normal)) e ∙ is in (
          of a p.purpose true goes_to,
          then_is,
          λ rights. wakes_up a l p.purpose p.retries p.at u (rw e h)
              (of a p.purpose true goes_to) rights then_is,
          refl,
        )

    by_place : (to : RwLockAt) → p.at ≡ to → parked_hand to ≡ hand u false → (p2 : RwLockPlace)
        × (rwlock_next a p (reply.Woken note.Normal) ≡ next.At p2)
        × ((rights : ℕ → Rights) → call_by l (rwlock_profile a p2) rights ≡ record
        (call_by l (rwlock_profile a p) rights) { retries = Some l }) × (p2.purpose ≡ p.purpose)
    by_place (at.Park (parking.Taken v)) e h = at_once (at.Park (parking.Taken v)) at.Load e h refl
    by_place (at.Aside (parking.Taken v)) e h = at_once (at.Aside (parking.Taken v)) at.Look e h refl
    by_place (at.Park to) e h = absurd cc
    by_place (at.Aside to) e h = absurd cc
    by_place to e h = absurd cc

pub rwlock_sleepers_hear : RwLockSleepersHear
rwlock_sleepers_hear a l p stands = record {
  taken = λ u. becomes a l p (of a p.purpose p.retries (taken_to a l u p.at)) (reply.TakenBy u) (λ c. c)
      (takes a l p.purpose p.retries p.at u) (taken_same a l p.purpose p.retries p.at u);
  woken = λ u h. wakes_up a l p.purpose p.retries p.at u h;
  late = λ may. is_late_then a l p.purpose p.retries p.at stands.place may;
}
