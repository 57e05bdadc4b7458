-- A call that hands the lock over, bumps, or was handed the lock goes on where it may stand.
use Rattle.std.proofs.Common.{ℕ, Bool, true, false, Option, Some, None, if◌then◌else◌, ◌==◌, ◌&&◌, ◌≡◌, refl}
use Rattle.std.proofs.Common.{sym, subst}
use Rattle.core_base.specs.declared.keys.Line.{Line}
use Rattle.core_base.specs.declared.keys.Line.TheVariants.{Main, Second}
use Rattle.core_base.specs.declared.notes.Note.TheVariants as note
use Rattle.spec_locks.specs.declared.calls.Access.{Access}
use Rattle.spec_locks.specs.declared.calls.Access.TheVariants as access
use Rattle.spec_locks.specs.declared.calls.Patience.{Patience}
use Rattle.spec_locks.specs.declared.calls.Patience.TheVariants.{Patient, Timed, Try}
use Rattle.spec_locks.specs.declared.outcomes.Answer.{Answer}
use Rattle.spec_locks.specs.declared.outcomes.Answer.TheVariants.{Ok, No}
use Rattle.steps_base.specs.declared.acts.Next.{Next}
use Rattle.steps_base.specs.declared.acts.Next.TheVariants as next
use Rattle.steps_base.specs.declared.acts.Reply.{Reply}
use Rattle.steps_base.specs.declared.acts.Reply.TheVariants as reply
use Rattle.spec_locks.specs.Codes.{count_in, has_aside, has_parked}
use Rattle.steps_rwlock.specs.declared.places.Admission.{Admission}
use Rattle.steps_rwlock.specs.declared.places.RwLockPlace.{RwLockPlace}
use Rattle.steps_rwlock.specs.declared.places.RwLockAt.{RwLockAt}
use Rattle.steps_rwlock.specs.declared.places.RwLockAt.TheVariants as at
use Rattle.steps_rwlock.specs.declared.purposes.RwLockPurpose.{RwLockPurpose}
use Rattle.steps_rwlock.specs.declared.purposes.RwLockPurpose.TheVariants as purpose
use Rattle.steps_rwlock.specs.declared.enter.Decision.{Decision}
use Rattle.steps_rwlock.specs.declared.enter.Decision.TheVariants as decisions
use Rattle.steps_rwlock.specs.declared.park.ParkAt.{ParkAt}
use Rattle.steps_rwlock.specs.declared.park.ParkAt.TheVariants as parking
use Rattle.steps_rwlock.specs.declared.release.WakeAt.{WakeAt}
use Rattle.steps_rwlock.specs.declared.release.WakeAt.TheVariants as waking
use Rattle.steps_rwlock.specs.RwLockSteps.{patience_of, plus, stays, wakes, missed, decided, looked_by}
use Rattle.steps_rwlock.specs.RwLockSteps.{looked, goes, came_in, came_in_for, exchanged_next, after_count}
use Rattle.steps_rwlock.specs.RwLockSteps.{wakes_or_ends, released, gave_way_by, park_next, wake_next}
use Rattle.steps_rwlock.specs.RwLockSteps.{next_at, rwlock_next, entered}
use Rattle.steps_rwlock.specs.RwLockCalls.{WaitsIfBlocked, ReleasesAt, StandsAt, MayStand, MayStandNext}
use Rattle.steps_rwlock.proofs.RwLockStands.{rwlock_calls_stand, unwoken_fresh}
use Rattle.steps_rwlock_fair.specs.declared.places.RwLockCallPlace.{RwLockCallPlace}
use Rattle.steps_rwlock_fair.specs.declared.places.RwLockCallPlace.TheVariants.{Plain, PeekQueue, HandOver}
use Rattle.steps_rwlock_fair.specs.declared.places.RwLockCallPlace.TheVariants.{Bump}
use Rattle.steps_rwlock_fair.specs.declared.places.RwLockCallPlace.TheVariants.{Handed}
use Rattle.steps_rwlock_fair.specs.declared.hand_over.Taken.{Taken}
use Rattle.steps_rwlock_fair.specs.declared.hand_over.HandOverAt.{HandOverAt}
use Rattle.steps_rwlock_fair.specs.declared.hand_over.HandOverAt.TheVariants as handing
use Rattle.steps_rwlock_fair.specs.declared.handed.HandedAt.{HandedAt}
use Rattle.steps_rwlock_fair.specs.declared.handed.HandedAt.TheVariants as handed
use Rattle.steps_rwlock_fair.specs.FairSteps.{any_taken, has_room, entering, enters_again, given, handed_by}
use Rattle.steps_rwlock_fair.specs.FairSteps.{woken_with, handed_woken, handed_next, looked as looked_at}
use Rattle.steps_rwlock_fair.specs.FairSteps.{freed_next, hand_over_next, gives_way, gives_up_at, plain_next}
use Rattle.steps_rwlock_fair.specs.FairSteps.{bump_next, unless_given, released as released_next}
use Rattle.steps_rwlock_fair.specs.FairCalls.{IsOfBump, HandsOverAt, WaitsWithPatience, CallStands}
use Rattle.steps_rwlock_fair.specs.FairCalls.{CallStandsNext}
use Rattle.steps_rwlock_fair.specs.FairLaws.{FairCallsStand}

-- in the queue, or taken of it
abbrev IsAsleep : ParkAt → Type 0
IsAsleep parking.Asleep = Unit {0}
IsAsleep (parking.Taken u) = Unit {0}
IsAsleep to = ⊥

-- ---------------------------------------------------------------- a call stays what it is for

abbrev pub StaysFor : RwLockPurpose → Next RwLockPlace → Type 0
StaysFor q (next.At p) = p.purpose ≡ q
StaysFor q (next.End answer) = Unit {0}

module _ (a : Admission) (p : RwLockPlace) where
  looks_for : (seen : ℕ) (d : Decision) → StaysFor p.purpose (looked_by p seen d)
  looks_for seen (decisions.Refuse answer) = tt
  looks_for seen decisions.Take = refl
  looks_for seen decisions.Mark = refl
  looks_for seen decisions.Park = refl

  came_for : (q : RwLockPurpose) → p.purpose ≡ q → StaysFor p.purpose (came_in_for p q)
  came_for (purpose.Enter access.Exclusive how) e = refl
  came_for (purpose.Enter access.Shared how) e = tt
  came_for (purpose.Enter access.Upgradable how) e = tt
  came_for (purpose.Release x) e = tt
  came_for (purpose.Downgrade d) e = tt
  came_for (purpose.Upgrade how) e = tt

  exchanges_for : (was seen : ℕ) (d : Decision) → StaysFor p.purpose (exchanged_next a p was seen d)
  exchanges_for was seen decisions.Take = either (seen == was)
    where
      either : (b : Bool) → StaysFor p.purpose (if b then came_in p else looked a p seen)
      either true = came_for p.purpose refl
      either false = looks_for seen (decided a p seen)
  exchanges_for was seen decisions.Mark = either (seen == was)
    where
      either : (b : Bool) → StaysFor p.purpose (if b then stays p (at.Decide (plus was 1)) else looked a p
          seen)
      either true = refl
      either false = looks_for seen (decided a p seen)
  exchanges_for was seen decisions.Park = looks_for seen (decided a p seen)
  exchanges_for was seen (decisions.Refuse answer) = looks_for seen (decided a p seen)

  -- the thread ends, or goes on
  ends_or : (b : Bool) (answer : Answer) (to : RwLockAt)
      → StaysFor p.purpose (if b then next.End answer else stays p to)
  ends_or true answer to = tt
  ends_or false answer to = refl

  or_ends : (b : Bool) (answer : Answer) (to : RwLockAt)
      → StaysFor p.purpose (if b then stays p to else next.End answer)
  or_ends true answer to = refl
  or_ends false answer to = tt

  misses_for : (how : Patience) → StaysFor p.purpose (missed p how)
  misses_for Try = tt
  misses_for Patient = refl
  misses_for Timed = refl

  firsts_for : (b : Bool) (answer : Answer) (how : Patience)
      → StaysFor p.purpose (if b then next.End answer else missed p how)
  firsts_for true answer how = tt
  firsts_for false answer how = misses_for how

  counts_for : (was seen : ℕ) (b : Bool)
      → StaysFor p.purpose (if b then stays p at.Marked else after_count p seen)
  counts_for was seen true = refl
  counts_for was seen false = ends_or (count_in seen == 0) (entered (patience_of p.purpose)) (at.Count seen)

  releases_for : (seen : ℕ) (x : Access) → StaysFor p.purpose (released p seen x)
  releases_for seen access.Shared = or_ends (has_aside seen && (count_in seen == 1)) Ok (wakes Second)
  releases_for seen access.Upgradable = or_ends (has_parked seen) Ok (wakes Main)
  releases_for seen access.Exclusive = or_ends (has_parked seen) Ok (wakes Main)

  gives_for : (seen : ℕ) (q : RwLockPurpose) → StaysFor p.purpose (gave_way_by p seen q)
  gives_for seen (purpose.Enter x how) = releases_for seen x
  gives_for seen (purpose.Release x) = releases_for seen x
  gives_for seen (purpose.Downgrade d) = or_ends (has_parked seen) Ok (wakes Main)
  gives_for seen (purpose.Upgrade how) = either (count_in seen == 1)
    where
      either : (b : Bool) → StaysFor p.purpose (if b then next.End (entered how) else goes p at.Look false)
      either true = tt
      either false = refl

  parks_for : (m : Line) (to : ParkAt) (told : Reply) → StaysFor p.purpose (park_next p m to told)
  parks_for m parking.Check (reply.Parked b) = refl
  parks_for m (parking.Leave true) reply.Done = refl
  parks_for m (parking.Leave false) reply.Done = refl
  parks_for m parking.Asleep (reply.TakenBy u) = refl
  parks_for m parking.Asleep (reply.Woken note.Normal) = refl
  parks_for m (parking.Taken u) (reply.Woken note.Normal) = refl
  parks_for m parking.Asleep reply.Late = refl
  parks_for m parking.Remove (reply.Removed b) = refl
  parks_for m parking.Clear (reply.Value seen) = refl
  parks_for Main parking.GiveUp reply.Done = tt
  parks_for Second parking.GiveUp reply.Done = refl
  parks_for m to told = refl

  wakes_for : (m : Line) (to : WakeAt) (told : Reply) → StaysFor p.purpose (wake_next p m to told)
  wakes_for m waking.Enter reply.Done = refl
  wakes_for m waking.Take (reply.Took any none_left) = refl
  wakes_for m waking.Take (reply.Picked n y none_left) = refl
  wakes_for m (waking.Clear any) (reply.Value seen) = refl
  wakes_for m (waking.Leave any) reply.Done = tt
  wakes_for m to told = refl

  stays_at : (to : RwLockAt) (told : Reply) → StaysFor p.purpose (next_at a p to told)
  stays_at at.First (reply.Value seen) = firsts_for (seen == 0) (entered (patience_of p.purpose))
      (patience_of p.purpose)
  stays_at at.Load (reply.Value seen) = looks_for seen (decided a p seen)
  stays_at (at.Decide was) (reply.Value seen) = exchanges_for was seen (decided a p was)
  stays_at (at.Decide was) reply.Done = refl
  stays_at (at.Decide was) told = refl
  stays_at (at.Park to) told = parks_for Main to told
  stays_at at.Look (reply.Value seen) = ends_or (count_in seen == 0) (entered (patience_of p.purpose))
      (at.Count seen)
  stays_at (at.Count was) (reply.Value seen) = counts_for was seen (seen == was)
  stays_at (at.Count was) reply.Done = refl
  stays_at (at.Count was) told = refl
  stays_at at.Marked reply.Done = refl
  stays_at at.Marked told = refl
  stays_at (at.Aside to) told = parks_for Second to told
  stays_at at.RollBack (reply.Value seen) = or_ends (has_parked seen) No (wakes Main)
  stays_at at.GiveWay (reply.Value seen) = gives_for seen p.purpose
  stays_at (at.Wake m to) told = wakes_for m to told
  stays_at to told = refl

  pub stays_for : (told : Reply) → StaysFor p.purpose (rwlock_next a p told)
  stays_for told = stays_at p.at told

-- ---------------------------------------------------------------- where a call goes on

module _ (a : Admission) where
  abbrev GivenStands : Option RwLockCallPlace → Type 0
  GivenStands None = Unit {0}
  GivenStands (Some c) = CallStands a c

  waits_as : (b : Bool) (x : Access) (how : Patience) → WaitsIfBlocked how
      → (b ≡ true → IsOfBump (purpose.Enter x how) false) → WaitsWithPatience b how
  waits_as true x Patient waits of = refl
  waits_as true x Timed waits of = absurd (of refl)
  waits_as true x Try waits of = absurd waits
  waits_as false x how waits of = waits

  -- which call enters is no matter of whether it was woken
  patient : (x : Access) (how : Patience) (again : Bool) → IsOfBump (purpose.Enter x how) again
      → IsOfBump (purpose.Enter x how) false
  patient x Patient again of = tt
  patient x Timed again of = absurd of
  patient x Try again of = absurd of

  -- a thread that is handed the lock waited for it
  waited : (x : Access) (how : Patience) (again : Bool) (to : ParkAt) → IsAsleep to
      → StandsAt (purpose.Enter x how) again (at.Park to) → WaitsIfBlocked how
  waited access.Exclusive how again parking.Asleep is stands = stands
  waited access.Shared how again parking.Asleep is stands = stands
  waited access.Upgradable how again parking.Asleep is stands = stands
  waited access.Exclusive how again (parking.Taken u) is stands = stands
  waited access.Shared how again (parking.Taken u) is stands = stands
  waited access.Upgradable how again (parking.Taken u) is stands = stands
  waited x how again to is stands = absurd is

  -- a writer beside readers looks
  looks_stand : (b : Bool) (how : Patience) → WaitsIfBlocked how → WaitsWithPatience b how
      → CallStands a (entering b (record {
        purpose = purpose.Enter access.Exclusive how;
        retries = false;
        at = at.Look;
      }))
  looks_stand false how waits is = record { place = waits; fresh = unwoken_fresh how; decided = tt }
  looks_stand true Patient waits is = (record { place = waits; fresh = tt; decided = tt }, tt)
  looks_stand true Timed waits is = absurd (let e : Timed ≡ Patient = is in cc)
  looks_stand true Try waits is = absurd waits

  waking_stands : (x : Access) (how : Patience) (b alone : Bool) → WaitsIfBlocked how
      → WaitsWithPatience b how → CallStands a (handed_woken x how b alone)
  waking_stands access.Shared how b alone waits is = is
  waking_stands access.Upgradable how b alone waits is = is
  waking_stands access.Exclusive how b true waits is = is
  waking_stands access.Exclusive how b false waits is = looks_stand b how waits is

  handed_stands : (b : Bool) (q : RwLockPurpose) (again : Bool) (to : RwLockAt) (by : ℕ) (alone : Bool)
      → StandsAt q again to → (b ≡ true → IsOfBump q again) → GivenStands (handed_by b q to by alone)
  handed_stands b (purpose.Enter x how) again (at.Park (parking.Taken u)) by alone stands of =
      waits_as b x how (waited x how again (parking.Taken u) tt stands) (λ e. patient x how again (of e))
  handed_stands b q again to by alone stands of = tt

  woken_stands : (b : Bool) (q : RwLockPurpose) (again : Bool) (to : RwLockAt) → StandsAt q again to
      → (b ≡ true → IsOfBump q again) → GivenStands (woken_with b q to)
  woken_stands b (purpose.Enter x how) again (at.Park parking.Asleep) stands of = let waits =
      waited x how again parking.Asleep tt stands in waking_stands x how b false waits
      (waits_as b x how waits (λ e. patient x how again (of e)))
  woken_stands b q again to stands of = tt

  given_stands : (b : Bool) (p : RwLockPlace) (told : Reply) → MayStand a p
      → (b ≡ true → IsOfBump p.purpose p.retries) → GivenStands (given b p told)
  given_stands b p (reply.HandedBy by alone) stands of = handed_stands b p.purpose p.retries p.at by alone
      stands.place of
  given_stands b p (reply.Woken note.HandOff) stands of = woken_stands b p.purpose p.retries p.at stands.place
      of
  given_stands b p told stands of = tt

  unless_stands : (o : Option RwLockCallPlace) (n : Next RwLockCallPlace) → GivenStands o → CallStandsNext a n
      → CallStandsNext a (unless_given o n)
  unless_stands None n is stands = stands
  unless_stands (Some c) n is stands = is

  plain_stands : (n : Next RwLockPlace) → MayStandNext a n → CallStandsNext a (plain_next n)
  plain_stands (next.At p) stands = stands
  plain_stands (next.End answer) stands = tt

  again_stands : (x : Access) → CallStands a (enters_again x)
  again_stands access.Shared = (record { place = tt; fresh = tt; decided = tt }, tt)
  again_stands access.Upgradable = (record { place = tt; fresh = tt; decided = tt }, tt)
  again_stands access.Exclusive = (record { place = tt; fresh = tt; decided = tt }, tt)

  abbrev BumpNext : Next RwLockPlace → Type 0
  BumpNext (next.At p) = IsOfBump p.purpose p.retries
  BumpNext (next.End answer) = Unit {0}

  abbrev leaver : RwLockAt → RwLockPlace
  leaver to = record { purpose = purpose.Release access.Shared; retries = false; at = to }

  gives_way_on : (b : Bool) → BumpNext (wakes_or_ends (leaver at.GiveWay) Second b)
  gives_way_on true = refl
  gives_way_on false = tt

  wakes_on : (to : WakeAt) (told : Reply) → BumpNext (wake_next (leaver (at.Wake Second to)) Second to told)
  wakes_on waking.Enter reply.Done = refl
  wakes_on waking.Take (reply.Took any none_left) = refl
  wakes_on waking.Take (reply.Picked n y none_left) = refl
  wakes_on (waking.Clear any) (reply.Value seen) = refl
  wakes_on (waking.Leave any) reply.Done = tt
  wakes_on to told = refl

  releases_on : (to : RwLockAt) (told : Reply) → ReleasesAt access.Shared to
      → BumpNext (rwlock_next a (leaver to) told)
  releases_on at.GiveWay (reply.Value seen) stands = gives_way_on (has_aside seen && (count_in seen == 1))
  releases_on at.GiveWay told stands = refl
  releases_on (at.Wake Second to) told stands = wakes_on to told
  releases_on to told stands = absurd stands

  enters_on : (x : Access) (n : Next RwLockPlace) → StaysFor (purpose.Enter x Patient) n → BumpNext n
  enters_on x (next.At p) e = subst (λ q. IsOfBump q p.retries) (sym e) tt
  enters_on x (next.End answer) e = tt

  -- a bump stays one
  stays_bump : (q : RwLockPurpose) (again : Bool) (to : RwLockAt) (told : Reply) → StandsAt q again to
      → IsOfBump q again → BumpNext (rwlock_next a (record {
        purpose = q;
        retries = again;
        at = to;
      }) told)
  stays_bump (purpose.Enter x Patient) again to told stands of = enters_on x _ (stays_for a (record {
    purpose = purpose.Enter x Patient;
    retries = again;
    at = to;
  }) told)
  stays_bump (purpose.Release access.Shared) false to told stands of = releases_on to told stands
  stays_bump (purpose.Release access.Shared) true to told stands of = absurd (let e : true ≡ false = of in cc)
  stays_bump q again to told stands of = absurd of

  bump_stands : (q : RwLockPurpose) (n : Next RwLockPlace) → BumpNext n → MayStandNext a n
      → CallStandsNext a (bump_next q n)
  bump_stands q (next.At p) of stands = (stands, of)
  bump_stands (purpose.Release x) (next.End answer) of stands = again_stands x
  bump_stands (purpose.Enter x how) (next.End answer) of stands = tt
  bump_stands (purpose.Downgrade d) (next.End answer) of stands = tt
  bump_stands (purpose.Upgrade how) (next.End answer) of stands = tt

  glances_stand : (x : Access) (seen : ℕ) (b : Bool) → CallStandsNext a (if b then next.At (gives_up_at x)
      else next.End Ok)
  glances_stand access.Shared seen true = (record { place = tt; fresh = tt; decided = tt }, refl)
  glances_stand access.Upgradable seen true = tt
  glances_stand access.Exclusive seen true = tt
  glances_stand x seen false = tt

  released_stands : (x : Access) (b : Bool) → CallStandsNext a (released_next x b)
  released_stands x true = again_stands x
  released_stands x false = tt

  looked_stands : (seen : ℕ) → HandsOverAt access.Upgradable (looked_at seen)
  looked_stands seen = either (has_parked seen) refl
    where
      either : (b : Bool) → has_parked seen ≡ b → HandsOverAt access.Upgradable (if b then handing.Enter
          else handing.Free seen)
      either true e = tt
      either false e = e

  freed_stands : (x : Access) (b : Bool) (seen : ℕ) (won : Bool) → (x ≡ access.Shared → ⊥)
      → CallStandsNext a (if won then released_next x b else next.At (HandOver x b (freed_next x seen)))
  freed_stands x b seen true more = released_stands x b
  freed_stands access.Shared b seen false more = absurd (more refl)
  freed_stands access.Upgradable b seen false more = looked_stands seen
  freed_stands access.Exclusive b seen false more = tt

  exchanged_stands : (b : Bool) (k : Taken) (seen : ℕ) (room won : Bool)
      → CallStandsNext a (if won then next.At (HandOver access.Upgradable b
      (handing.Leave (any_taken k) room))
      else next.At (HandOver access.Upgradable b (handing.Exchange k seen)))
  exchanged_stands b k seen room true = tt
  exchanged_stands b k seen room false = tt

  hand_over_stands : (x : Access) (b : Bool) (to : HandOverAt) (told : Reply) → HandsOverAt x to
      → CallStandsNext a (hand_over_next a x b to told)
  hand_over_stands access.Upgradable b handing.Load (reply.Value seen) stands = looked_stands seen
  hand_over_stands access.Exclusive b handing.Load (reply.Value seen) stands = absurd stands
  hand_over_stands access.Shared b to told stands = absurd stands
  hand_over_stands access.Exclusive b (handing.Free was) (reply.Value seen) stands =
      freed_stands access.Exclusive b seen (seen == was) (λ e. cc)
  hand_over_stands access.Upgradable b (handing.Free was) (reply.Value seen) stands =
      freed_stands access.Upgradable b seen (seen == was) (λ e. cc)
  hand_over_stands access.Exclusive b handing.Enter reply.Done stands = tt
  hand_over_stands access.Upgradable b handing.Enter reply.Done stands = tt
  hand_over_stands access.Exclusive b handing.Take (reply.Picked n y none_left) stands = tt
  hand_over_stands access.Upgradable b handing.Take (reply.Picked n y none_left) stands = tt
  hand_over_stands access.Exclusive b (handing.Store k) (reply.Value seen) stands = tt
  hand_over_stands access.Upgradable b (handing.Store k) (reply.Value seen) stands = absurd stands
  hand_over_stands access.Upgradable b (handing.Look k) (reply.Value seen) stands = tt
  hand_over_stands access.Exclusive b (handing.Look k) (reply.Value seen) stands = absurd stands
  hand_over_stands access.Upgradable b (handing.Exchange k was) (reply.Value seen) stands =
      exchanged_stands b k seen (has_room a.limit k seen) (seen == was)
  hand_over_stands access.Exclusive b (handing.Exchange k was) (reply.Value seen) stands = absurd stands
  hand_over_stands x b (handing.Leave any handed) reply.Done stands = released_stands x b
  hand_over_stands x b to told stands = stands

  waits_on : (b : Bool) (how : Patience) → WaitsWithPatience b how → WaitsIfBlocked how
  waits_on true how is = subst WaitsIfBlocked (sym is) tt
  waits_on false how is = is

  handed_on : (x : Access) (how : Patience) (b : Bool) (to : HandedAt) (told : Reply)
      → WaitsWithPatience b how → CallStandsNext a (handed_next x how b to told)
  handed_on x how b (handed.Asleep by alone) (reply.Woken note.HandOff) is =
      waking_stands x how b alone (waits_on b how is) is
  handed_on x how b handed.Accept reply.Done is = tt
  handed_on x how b handed.Accept (reply.Value seen) is = tt
  handed_on x how b to told is = is

pub fair_calls_stand : FairCallsStand
fair_calls_stand a (Plain p) told stands may = unless_stands a (given false p told) _
    (given_stands a false p told stands (λ e. absurd cc))
    (plain_stands a _ (rwlock_calls_stand a p told stands may))
fair_calls_stand a (Bump p) told stands may = unless_stands a (given true p told) _
    (given_stands a true p told stands.0 (λ e. stands.1))
    (bump_stands a p.purpose _ (stays_bump a p.purpose p.retries p.at told stands.0.place stands.1)
    (rwlock_calls_stand a p told stands.0 may))
fair_calls_stand a (PeekQueue x) (reply.Value seen) stands may = glances_stand a x seen (gives_way a x seen)
fair_calls_stand a (PeekQueue x) told stands may = tt
fair_calls_stand a (HandOver x b to) told stands may = hand_over_stands a x b to told stands
fair_calls_stand a (Handed x how b to) told stands may = handed_on a x how b to told stands
