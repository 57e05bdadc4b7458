-- A call of a reader-writer lock goes on where it may stand: a try isn't woken, and no thread that has to be
-- refused comes to decide.
use Rattle.std.proofs.Common.{length, ℕ, Bool, true, false, if◌then◌else◌, ◌==◌, ◌&&◌, not, ◌≡◌, ◌+◌, ◌/◌}
use Rattle.std.proofs.Common.{◌%◌, ◌^◌, ◌<◌, refl, sym, ap, ◌∙◌, subst, arith, nat_le, ◌||◌}
use Rattle.std.proofs.lemmas.Bool.{eqb-true}
use Rattle.std.proofs.lemmas.Bool.Decides.{nat_tests}
use Rattle.core_base.specs.declared.keys.Line.{Line}
use Rattle.core_base.specs.declared.keys.Line.TheVariants.{Main, Second}
use Rattle.core_base.specs.declared.notes.Note.TheVariants as note
use Rattle.core_base.specs.declared.wants.Want.{Want}
use Rattle.core_base.specs.declared.wants.Want.TheVariants as want
use Rattle.spec_locks.specs.declared.calls.Access.{Access}
use Rattle.spec_locks.specs.declared.calls.Access.TheVariants as access
use Rattle.spec_locks.specs.declared.calls.Patience.{Patience}
use Rattle.spec_locks.specs.declared.calls.Patience.TheVariants.{Patient, Timed, Try}
use Rattle.spec_locks.specs.declared.outcomes.Answer.{Answer}
use Rattle.spec_locks.specs.declared.outcomes.Answer.TheVariants.{No, Ok, ReadersFull}
use Rattle.steps_base.specs.declared.acts.Next.{Next}
use Rattle.steps_base.specs.declared.acts.Next.TheVariants as next
use Rattle.steps_base.specs.declared.acts.Reply.{Reply}
use Rattle.steps_base.specs.declared.acts.Reply.TheVariants as reply
use Rattle.spec_locks.specs.Codes.{count_in, has_aside, has_parked, has_writer, has_upgradable, is_blocked}
use Rattle.steps_rwlock.specs.declared.places.Admission.{Admission}
use Rattle.steps_rwlock.specs.declared.places.RwLockPlace.{RwLockPlace}
use Rattle.steps_rwlock.specs.declared.purposes.RwLockPurpose.{RwLockPurpose}
use Rattle.steps_rwlock.specs.declared.purposes.RwLockPurpose.TheVariants as purpose
use Rattle.steps_rwlock.specs.declared.places.RwLockAt.{RwLockAt}
use Rattle.steps_rwlock.specs.declared.places.RwLockAt.TheVariants as at
use Rattle.steps_rwlock.specs.declared.enter.Decision.{Decision}
use Rattle.steps_rwlock.specs.declared.enter.Decision.TheVariants as decisions
use Rattle.steps_rwlock.specs.declared.park.ParkAt.{ParkAt}
use Rattle.steps_rwlock.specs.declared.park.ParkAt.TheVariants as parking
use Rattle.steps_rwlock.specs.declared.release.WakeAt.{WakeAt}
use Rattle.steps_rwlock.specs.declared.release.WakeAt.TheVariants as waking
use Rattle.steps_rwlock.specs.RwLockSteps.{wanted, access_of, patience_of, is_counted, park_or_mark}
use Rattle.steps_rwlock.specs.RwLockSteps.{decision_blocked, decision, decided_for, plus, stays, goes, missed}
use Rattle.steps_rwlock.specs.RwLockSteps.{entered, looked_by, looked, came_in, exchanged_next, after_count}
use Rattle.steps_rwlock.specs.RwLockSteps.{wakes, parks_at, released, gave_way_by, park_next, wake_next}
use Rattle.steps_rwlock.specs.RwLockSteps.{rwlock_next}
use Rattle.steps_rwlock.specs.RwLockDeeds.{Admits, AtFits, AtUpgrade, IsAt, IsFreshTry, rwlock_role}
use Rattle.spec_locks.specs.Locks.{Rules}
use Rattle.spec_locks.specs.Sites.{Site, IsSite}
use Rattle.steps_rwlock.specs.RwLockCalls.{WaitsIfBlocked, HasDeadline, ParksBy, StandsAt, UpgradesAt}
use Rattle.steps_rwlock.specs.RwLockCalls.{IsNoRefusal, IsDecided, MayStand, MayBeTold, MayStandNext}
use Rattle.steps_rwlock.specs.RwLockCalls.{RwLockCallsStand}
use Rattle.steps_rwlock.proofs.RwLockCodes.{blocked_unset, fits_even, fits_aside}
use Rattle.steps_rwlock.proofs.RwLockCallPlaces.{StandsNext, stands_on}

-- ---------------------------------------------------------------- words

-- a parked bit that is set in an even word keeps out the threads that it kept out
blocked_same : (b : Bool) (x : Want) (v : ℕ) → v < 2 ^ 64 → has_parked v ≡ false → is_blocked b x (plus v 1)
    ≡ is_blocked b x v
blocked_same b x v few even = ap (is_blocked b x) (fits_even v few even) ∙ by_want x
  where
    zero_end : v % 2 ≡ 0
    zero_end = grind (arith, nat_tests)

    writer : has_writer (v + 1) ≡ has_writer v
    writer = ap (λ n. n % 2 == 1) (let e : (v + 1) / 8 ≡ v / 8 = let z = zero_end in omega arith in e)

    upgradable : has_upgradable (v + 1) ≡ has_upgradable v
    upgradable = ap (λ n. n % 2 == 1) (let e : (v + 1) / 4 ≡ v / 4 = let z = zero_end in omega arith in e)

    count : count_in (v + 1) ≡ count_in v
    count = let z = zero_end in omega arith

    by_want : (x : Want) → is_blocked b x (v + 1) ≡ is_blocked b x v
    by_want want.Shared = λ i. writer i && (not b || (count i == 0))
    by_want want.Exclusive = λ i. writer i || upgradable i
    by_want want.Upgradable = λ i. writer i || upgradable i
    by_want want.Wait = λ i. writer i || upgradable i
    by_want want.CallOnce = λ i. writer i || upgradable i

-- a thread that decides to set it, decides to park then
module _ (a : Admission) where
  marks_by : (how : Patience) (word : ℕ) (b c : Bool) → (if b then decision_blocked how word else if c
      then decisions.Refuse ReadersFull else decisions.Take) ≡ decisions.Mark → (b ≡ true)
      × WaitsIfBlocked how
  marks_by Patient word true c e = (refl, tt)
  marks_by Timed word true c e = (refl, tt)
  marks_by Try word true c e = absurd cc
  marks_by how word false true e = absurd cc
  marks_by how word false false e = absurd cc

  is_even : (x : Want) (how : Patience) (word : ℕ) → decision a x how word ≡ decisions.Mark → has_parked word
      ≡ false
  is_even x how word e = by_tests (is_blocked a.recursive x word) (is_counted x && nat_le a.limit
      (count_in word)) e
    where
      by_tests : (b c : Bool) → (if b then decision_blocked how word else if c then decisions.Refuse
          ReadersFull else decisions.Take) ≡ decisions.Mark → has_parked word ≡ false
      by_tests true c f = blocked_unset how word f
      by_tests false true f = absurd cc
      by_tests false false f = absurd cc

  marked_parks : (x : Want) (how : Patience) (word : ℕ) → word < 2 ^ 64 → decision a x how word
      ≡ decisions.Mark → decision a x how (plus word 1) ≡ decisions.Park
  marked_parks x how word few e = let found = marks_by how word (is_blocked a.recursive x word)
      (is_counted x && nat_le a.limit (count_in word)) e in
      ap (λ b. if b then decision_blocked how (plus word 1) else if is_counted x && nat_le a.limit
      (count_in (plus word 1)) then decisions.Refuse ReadersFull else decisions.Take)
      (blocked_same a.recursive x word few (is_even x how word e) ∙ found.0) ∙ by_how how found.1
    where
      odd : has_parked (plus word 1) ≡ true
      odd = let next : plus word 1 ≡ word + 1 = fits_even word few (is_even x how word e)
          in let even : has_parked word ≡ false = is_even x how word e in grind (arith, nat_tests)

      by_how : (y : Patience) → WaitsIfBlocked y → decision_blocked y (plus word 1) ≡ decisions.Park
      by_how Patient w = ap park_or_mark odd
      by_how Timed w = ap park_or_mark odd
      by_how Try w = absurd w

  -- A call that decides to park never refuses, whatever it is for.
  pub decides_to_park : (q : RwLockPurpose) (word : ℕ) → word < 2 ^ 64 → decided_for a q word ≡ decisions.Mark
      → decided_for a q (plus word 1) ≡ decisions.Park
  decides_to_park (purpose.Enter x how) word few e = marked_parks (wanted x) how word few e
  decides_to_park (purpose.Release x) word few e = marked_parks (wanted x) Patient word few e
  decides_to_park (purpose.Downgrade d) word few e = marked_parks (wanted (access_of (purpose.Downgrade d)))
      Patient word few e
  decides_to_park (purpose.Upgrade how) word few e = absurd (never (count_in word == 1) e)
    where
      never : (b : Bool) → (if b then decisions.Take else decisions.Refuse No) ≡ decisions.Mark → ⊥
      never true f = cc
      never false f = cc

-- a writer that sets the bit of the second line finds it set, and as many readers
pub aside_set : (word : ℕ) → word < 2 ^ 64 → has_aside word ≡ false → (has_aside (plus word 2) ≡ true)
    × (count_in (plus word 2) ≡ count_in word)
aside_set word few unset = (
  grind (arith, nat_tests),
  let more : plus word 2 ≡ word + 2 =
      fits_aside word few unset in let unset_bit : word / 2 % 2 ≡ 0 = zero in omega arith,
)
  where
    zero : word / 2 % 2 ≡ 0
    zero = grind (arith, nat_tests)

-- ---------------------------------------------------------------- patience

-- each thread that may wait may have been woken
fresh_waits : (how : Patience) → WaitsIfBlocked how → (again : Bool) → IsFreshTry how again
fresh_waits Patient w again = tt
fresh_waits Timed w again = tt
fresh_waits Try w again = absurd w

pub unwoken_fresh : (how : Patience) → IsFreshTry how false
unwoken_fresh Patient = tt
unwoken_fresh Timed = tt
unwoken_fresh Try = refl

timed_waits : (how : Patience) → HasDeadline how → WaitsIfBlocked how
timed_waits Timed d = tt
timed_waits Patient d = absurd d
timed_waits Try d = absurd d

parks_wait : (how : Patience) (to : ParkAt) → ParksBy how to → WaitsIfBlocked how
parks_wait how parking.Remove by = timed_waits how by
parks_wait how parking.Clear by = timed_waits how by
parks_wait how parking.GiveUp by = timed_waits how by
parks_wait how to by = by

lines_wait : (q : RwLockPurpose) (again : Bool) (m : Line) (to : ParkAt) → StandsAt q again (parks_at m to)
    → WaitsIfBlocked (patience_of q)
lines_wait (purpose.Enter access.Exclusive how) again Main to fits = parks_wait how to fits
lines_wait (purpose.Enter access.Exclusive how) again Second to fits = parks_wait how to fits
lines_wait (purpose.Enter access.Shared how) again Main to fits = parks_wait how to fits
lines_wait (purpose.Enter access.Upgradable how) again Main to fits = parks_wait how to fits
lines_wait (purpose.Enter access.Shared how) again Second to fits = absurd fits
lines_wait (purpose.Enter access.Upgradable how) again Second to fits = absurd fits
lines_wait (purpose.Release x) again m to fits = tt
lines_wait (purpose.Downgrade d) again m to fits = tt
lines_wait (purpose.Upgrade Patient) again m to fits = tt
lines_wait (purpose.Upgrade Timed) again m to fits = tt
lines_wait (purpose.Upgrade Try) again Main to fits = absurd fits
lines_wait (purpose.Upgrade Try) again Second to fits = absurd fits

-- ---------------------------------------------------------------- where a call goes on

module _ (a : Admission) where
  -- no try was woken, and nobody has to be refused
  abbrev Keeps : Next RwLockPlace → Type 0
  Keeps (next.At p) = IsFreshTry (patience_of p.purpose) p.retries × IsDecided a p.purpose p.at
  Keeps (next.End answer) = Unit {0}

  abbrev of : RwLockPurpose → Bool → RwLockAt → RwLockPlace
  of q again to = record { purpose = q; retries = again; at = to }

  module _ (q : RwLockPurpose) (again : Bool) (fresh : IsFreshTry (patience_of q) again) where
    looks : (to : RwLockAt) (seen : ℕ) (d : Decision) → decided_for a q seen ≡ d
        → Keeps (looked_by (of q again to) seen d)
    looks to seen (decisions.Refuse answer) e = tt
    looks to seen decisions.Take e = (fresh, subst IsNoRefusal (sym e) tt)
    looks to seen decisions.Mark e = (fresh, subst IsNoRefusal (sym e) tt)
    looks to seen decisions.Park e = (fresh, subst IsNoRefusal (sym e) tt)

    exchanges : (was seen : ℕ) → seen < 2 ^ 64 → (d : Decision) → decided_for a q was ≡ d
        → Keeps (exchanged_next a (of q again (at.Decide was)) was seen d)
    exchanges was seen few decisions.Take e = either (seen == was)
      where
        came : (q : RwLockPurpose) → Keeps (came_in (of q again (at.Decide was)))
        came (purpose.Enter access.Exclusive how) = (unwoken_fresh how, tt)
        came (purpose.Enter access.Shared how) = tt
        came (purpose.Enter access.Upgradable how) = tt
        came (purpose.Release x) = tt
        came (purpose.Downgrade d) = tt
        came (purpose.Upgrade how) = tt

        either : (b : Bool) → Keeps (if b then came_in (of q again (at.Decide was)) else looked a
            (of q again (at.Decide was)) seen)
        either true = came q
        either false = looks (at.Decide was) seen (decided_for a q seen) refl
    exchanges was seen few decisions.Mark e = either (seen == was) refl
      where
        either : (b : Bool) → (seen == was) ≡ b
            → Keeps (if b then stays (of q again (at.Decide was)) (at.Decide (plus was 1)) else looked a
            (of q again (at.Decide was)) seen)
        either true f = (
          fresh,
          subst IsNoRefusal
              (sym (decides_to_park a q was (subst (λ n. n < 2 ^ 64) (eqb-true seen was f) few) e)) tt,
        )
        either false f = looks (at.Decide was) seen (decided_for a q seen) refl
    exchanges was seen few decisions.Park e = looks (at.Decide was) seen (decided_for a q seen) refl
    exchanges was seen few (decisions.Refuse answer) e = looks (at.Decide was) seen (decided_for a q seen)
        refl

    counts : (to : RwLockAt) (seen : ℕ) (b : Bool) (ans : Answer)
        → Keeps (if b then next.End ans else stays (of q again to) (at.Count seen))
    counts to seen true ans = tt
    counts to seen false ans = (fresh, tt)

    wakes_or : (to : RwLockAt) (m : Line) (b : Bool) (ans : Answer)
        → Keeps (if b then stays (of q again to) (wakes m) else next.End ans)
    wakes_or to m true ans = (fresh, tt)
    wakes_or to m false ans = tt

    firsts : (b : Bool) (ans : Answer) (how : Patience)
        → Keeps (if b then next.End ans else missed (of q again at.First) how)
    firsts true ans how = tt
    firsts false ans Try = tt
    firsts false ans Patient = (fresh, tt)
    firsts false ans Timed = (fresh, tt)

    counts_again : (was seen : ℕ) (b : Bool) → Keeps (if b then stays (of q again (at.Count was)) at.Marked
        else after_count (of q again (at.Count was)) seen)
    counts_again was seen true = (fresh, tt)
    counts_again was seen false = counts (at.Count was) seen (count_in seen == 0) (entered (patience_of q))

    releases : (seen : ℕ) (x : Access) → Keeps (released (of q again at.GiveWay) seen x)
    releases seen access.Shared = wakes_or at.GiveWay Second (has_aside seen && (count_in seen == 1)) Ok
    releases seen access.Upgradable = wakes_or at.GiveWay Main (has_parked seen) Ok
    releases seen access.Exclusive = wakes_or at.GiveWay Main (has_parked seen) Ok

    gives : (seen : ℕ) (how : Patience) (b : Bool) → IsFreshTry (patience_of q) false
        → Keeps (if b then next.End (entered how) else goes (of q again at.GiveWay) at.Look false)
    gives seen how true unwoken = tt
    gives seen how false unwoken = (unwoken, tt)

    wakes_on : (m : Line) (to : WakeAt) (told : Reply)
        → Keeps (wake_next (of q again (at.Wake m to)) m to told)
    wakes_on m waking.Enter reply.Done = (fresh, tt)
    wakes_on m waking.Take (reply.Took any none_left) = (fresh, tt)
    wakes_on m waking.Take (reply.Picked n y none_left) = (fresh, tt)
    wakes_on m (waking.Clear any) (reply.Value seen) = (fresh, tt)
    wakes_on m (waking.Leave any) reply.Done = tt
    wakes_on m to told = (fresh, tt)

  gave : (q : RwLockPurpose) (again : Bool) → IsFreshTry (patience_of q) again → (seen : ℕ)
      → Keeps (gave_way_by (of q again at.GiveWay) seen q)
  gave (purpose.Enter x how) again fresh seen = releases (purpose.Enter x how) again fresh seen x
  gave (purpose.Release x) again fresh seen = releases (purpose.Release x) again fresh seen x
  gave (purpose.Downgrade d) again fresh seen = wakes_or (purpose.Downgrade d) again fresh at.GiveWay Main
      (has_parked seen) Ok
  gave (purpose.Upgrade how) again fresh seen = gives (purpose.Upgrade how) again fresh seen how
      (count_in seen == 1) (unwoken_fresh how)

  module _ (q : RwLockPurpose) (again : Bool) (ready : (b : Bool) → IsFreshTry (patience_of q) b) where
    parks : (to : ParkAt) (told : Reply) → Keeps (park_next (of q again (at.Park to)) Main to told)
    parks parking.Check (reply.Parked b) = (ready (again && not b), tt)
    parks (parking.Leave true) reply.Done = (ready again, tt)
    parks (parking.Leave false) reply.Done = (ready again, tt)
    parks parking.Asleep (reply.TakenBy u) = (ready again, tt)
    parks parking.Asleep (reply.Woken note.Normal) = (ready true, tt)
    parks (parking.Taken u) (reply.Woken note.Normal) = (ready true, tt)
    parks parking.Asleep reply.Late = (ready again, tt)
    parks parking.Remove (reply.Removed b) = (ready again, tt)
    parks parking.Clear (reply.Value seen) = (ready again, tt)
    parks parking.GiveUp reply.Done = tt
    parks to told = (ready again, tt)

    asides : (to : ParkAt) (told : Reply) → Keeps (park_next (of q again (at.Aside to)) Second to told)
    asides parking.Check (reply.Parked b) = (ready (again && not b), tt)
    asides (parking.Leave true) reply.Done = (ready again, tt)
    asides (parking.Leave false) reply.Done = (ready again, tt)
    asides parking.Asleep (reply.TakenBy u) = (ready again, tt)
    asides parking.Asleep (reply.Woken note.Normal) = (ready true, tt)
    asides (parking.Taken u) (reply.Woken note.Normal) = (ready true, tt)
    asides parking.Asleep reply.Late = (ready again, tt)
    asides parking.Remove (reply.Removed b) = (ready again, tt)
    asides parking.Clear (reply.Value seen) = (ready again, tt)
    asides parking.GiveUp reply.Done = (ready again, tt)
    asides to told = (ready again, tt)

  keeps_all : (q : RwLockPurpose) (again : Bool) (to : RwLockAt) (told : Reply) → StandsAt q again to
      → IsFreshTry (patience_of q) again → IsDecided a q to → MayBeTold a (of q again to) to told
      → Keeps (rwlock_next a (of q again to) told)
  keeps_all q again at.First (reply.Value seen) fits fresh on may = firsts q again fresh (seen == 0)
      (entered (patience_of q)) (patience_of q)
  keeps_all q again at.First told fits fresh on may = (fresh, tt)
  keeps_all q again at.Load (reply.Value seen) fits fresh on may = looks q again fresh at.Load seen
      (decided_for a q seen) refl
  keeps_all q again at.Load told fits fresh on may = (fresh, tt)
  keeps_all q again (at.Decide was) (reply.Value seen) fits fresh on may =
      exchanges q again fresh was seen may (decided_for a q was) refl
  keeps_all q again (at.Decide was) reply.Done fits fresh on may = (fresh, tt)
  keeps_all q again (at.Decide was) told fits fresh on may = (fresh, on)
  keeps_all q again (at.Park to) told fits fresh on may =
      parks q again (fresh_waits (patience_of q) (lines_wait q again Main to fits)) to told
  keeps_all q again at.Look (reply.Value seen) fits fresh on may = counts q again fresh at.Look seen
      (count_in seen == 0) (entered (patience_of q))
  keeps_all q again at.Look told fits fresh on may = (fresh, tt)
  keeps_all q again (at.Count was) (reply.Value seen) fits fresh on may = counts_again q again fresh was seen
      (seen == was)
  keeps_all q again (at.Count was) reply.Done fits fresh on may = (fresh, tt)
  keeps_all q again (at.Count was) told fits fresh on may = (fresh, tt)
  keeps_all q again at.Marked reply.Done fits fresh on may = (fresh, tt)
  keeps_all q again at.Marked told fits fresh on may = (fresh, tt)
  keeps_all q again (at.Aside to) told fits fresh on may =
      asides q again (fresh_waits (patience_of q) (lines_wait q again Second to fits)) to told
  keeps_all q again at.RollBack (reply.Value seen) fits fresh on may = wakes_or q again fresh at.RollBack Main
      (has_parked seen) No
  keeps_all q again at.RollBack told fits fresh on may = (fresh, tt)
  keeps_all q again at.GiveWay (reply.Value seen) fits fresh on may = gave q again fresh seen
  keeps_all q again at.GiveWay told fits fresh on may = (fresh, tt)
  keeps_all q again (at.Wake m to) told fits fresh on may = wakes_on q again fresh m to told

  both : (n : Next RwLockPlace) → StandsNext n → Keeps n → MayStandNext a n
  both (next.At p) stands keeps = record { place = stands; fresh = keeps.0; decided = keeps.1 }
  both (next.End answer) stands keeps = tt

pub rwlock_calls_stand : RwLockCallsStand
rwlock_calls_stand a p told stands may = both a (rwlock_next a p told) (stands_on a p told stands.place may)
    (keeps_all a p.purpose p.retries p.at told stands.place stands.fresh stands.decided may)

-- a call stands only where it fits
upgrade_fits : (how : Patience) (again : Bool) (to : RwLockAt) → UpgradesAt how again to → AtUpgrade how to
upgrade_fits Try again at.Load fits = tt
upgrade_fits Try again (at.Decide seen) fits = tt
upgrade_fits Try again to fits = fits
upgrade_fits Patient again at.GiveWay fits = tt
upgrade_fits Patient again (at.Wake Main to) fits = tt
upgrade_fits Patient again (at.Wake Second to) fits = fits
upgrade_fits Patient again (at.Aside to) fits = tt
upgrade_fits Patient again at.RollBack fits = tt
upgrade_fits Patient again to fits = fits
upgrade_fits Timed again at.GiveWay fits = tt
upgrade_fits Timed again (at.Wake Main to) fits = tt
upgrade_fits Timed again (at.Wake Second to) fits = fits
upgrade_fits Timed again (at.Aside to) fits = tt
upgrade_fits Timed again at.RollBack fits = tt
upgrade_fits Timed again to fits = fits

pub place_fits : (q : RwLockPurpose) (again : Bool) (to : RwLockAt) → StandsAt q again to → AtFits q to
place_fits (purpose.Enter access.Exclusive how) again at.First fits = refl
place_fits (purpose.Enter access.Shared how) again at.First fits = absurd fits
place_fits (purpose.Enter access.Upgradable how) again at.First fits = absurd fits
place_fits (purpose.Enter access.Exclusive how) again at.GiveWay fits = fits
place_fits (purpose.Enter access.Shared how) again at.GiveWay fits = fits
place_fits (purpose.Enter access.Upgradable how) again at.GiveWay fits = fits
place_fits (purpose.Enter x how) again to fits = tt
place_fits (purpose.Release x) again at.GiveWay fits = tt
place_fits (purpose.Release x) again (at.Wake m to) fits = tt
place_fits (purpose.Release access.Shared) again to fits = fits
place_fits (purpose.Release access.Upgradable) again to fits = fits
place_fits (purpose.Release access.Exclusive) again to fits = fits
place_fits (purpose.Downgrade d) again at.GiveWay fits = tt
place_fits (purpose.Downgrade d) again (at.Wake Main to) fits = tt
place_fits (purpose.Downgrade d) again to fits = fits
place_fits (purpose.Upgrade how) again to fits = upgrade_fits how again to fits

-- the bit is there, by what the lock is and what the thread does
pub is_at : (r : Rules) (a : Admission) (s : Site) (t : ℕ) (p : RwLockPlace) → Admits r a → IsSite r s
    → s.role t ≡ rwlock_role p → MayStand a p → t < length s.lock.shared → IsAt r a s t p
is_at r a s t p admits site role stands there = record {
  there = there;
  admits = admits;
  site = site;
  role = role;
  fresh = stands.fresh;
  place = place_fits p.purpose p.retries p.at stands.place;
}
