-- A thread that finds a lock full of readers saw so by its last step.
use Rattle.std.proofs.Common.{ℕ, Bool, true, false, not, List, Option, Some, None, if◌then◌else◌, ◌==◌, ◌≡◌}
use Rattle.std.proofs.Common.{◌≤◌, ◌+◌, ◌/◌, ◌%◌, ◌&&◌, ◌||◌, ◌∙◌, ◌++◌, nat_le, refl, ap, sym, subst, arith}
use Rattle.std.proofs.lemmas.List.{append_assoc}
use Rattle.std.proofs.lemmas.Bool.Decides.{nat_tests}
use Rattle.core_base.specs.declared.keys.Line.{Line}
use Rattle.core_base.specs.declared.keys.Line.TheVariants.{Main, Second}
use Rattle.core_base.specs.declared.notes.Note.TheVariants as note
use Rattle.spec_locks.specs.declared.calls.Access.{Access}
use Rattle.spec_locks.specs.declared.calls.Access.TheVariants as access
use Rattle.spec_locks.specs.declared.calls.Patience.{Patience}
use Rattle.spec_locks.specs.declared.calls.Patience.TheVariants.{Patient, Timed, Try}
use Rattle.spec_locks.specs.declared.outcomes.Answer.{Answer}
use Rattle.spec_locks.specs.declared.outcomes.Answer.TheVariants.{No, ReadersFull}
use Rattle.spec_locks.specs.Codes.{count_in, has_aside, has_parked, has_upgradable, has_writer, is_blocked}
use Rattle.core_base.specs.declared.ops.Op.{Op}
use Rattle.core_base.specs.declared.wants.Want.{Want}
use Rattle.core_base.specs.declared.wants.Want.TheVariants as want
use Rattle.steps_base.specs.declared.acts.Act.{Act}
use Rattle.steps_base.specs.declared.acts.Act.TheVariants as act
use Rattle.steps_base.specs.declared.acts.Next.{Next}
use Rattle.steps_base.specs.declared.acts.Next.TheVariants.{At, End}
use Rattle.steps_base.specs.declared.acts.Reply.{Reply}
use Rattle.steps_base.specs.declared.acts.Reply.TheVariants as reply
use Rattle.steps_rwlock.specs.RwLockCalls.{IsDecided, IsNoRefusal}
use Rattle.steps_rwlock.specs.RwLockProfiles.{gone_to, is_mark, looking_at, rwlock_respin}
use Rattle.steps_rwlock.specs.RwLockSteps.{access_of, came_in, came_in_for, count_act, after_count, decided}
use Rattle.steps_rwlock.specs.RwLockSteps.{decided_act, decided_for, decision, decision_blocked, ends_with}
use Rattle.steps_rwlock.specs.RwLockSteps.{entered, exchanged_next, gave_way_by, goes, is_counted, looked}
use Rattle.steps_rwlock.specs.RwLockSteps.{looked_by, missed, park_act, park_next, patience_of, plus}
use Rattle.steps_rwlock.specs.RwLockSteps.{released, rolled_back, rwlock_act, rwlock_next, stays}
use Rattle.steps_rwlock.specs.RwLockSteps.{park_or_mark, wake_act, wake_next, wakes_or_ends, want_at, wanted}
use Rattle.steps_rwlock.specs.declared.enter.Decision.{Decision}
use Rattle.steps_rwlock.specs.declared.enter.Decision.TheVariants as decisions
use Rattle.steps_rwlock.specs.declared.park.ParkAt.{ParkAt}
use Rattle.steps_rwlock.specs.declared.park.ParkAt.TheVariants as parking
use Rattle.steps_rwlock.specs.declared.places.Admission.{Admission}
use Rattle.steps_rwlock.specs.declared.places.RwLockAt.{RwLockAt}
use Rattle.steps_rwlock.specs.declared.places.RwLockAt.TheVariants as at
use Rattle.steps_rwlock.specs.declared.places.RwLockPlace.{RwLockPlace}
use Rattle.steps_rwlock.specs.declared.purposes.RwLockPurpose.{RwLockPurpose}
use Rattle.steps_rwlock.specs.declared.purposes.RwLockPurpose.TheVariants as purpose
use Rattle.steps_rwlock.specs.declared.release.WakeAt.{WakeAt}
use Rattle.steps_rwlock.specs.declared.release.WakeAt.TheVariants as waking
use Rattle.steps_rwlock_fair.specs.FairProfiles.{in_call}
use Rattle.steps_rwlock_fair.specs.FairSteps.{call_act, call_next, given, handed_act, handed_by, handed_next}
use Rattle.steps_rwlock_fair.specs.FairSteps.{handed_woken, plain_next, unless_given, woken_with}
use Rattle.steps_rwlock_fair.specs.declared.handed.HandedAt.{HandedAt}
use Rattle.steps_rwlock_fair.specs.declared.handed.HandedAt.TheVariants as handed
use Rattle.steps_rwlock_fair.specs.declared.places.RwLockCallPlace.{RwLockCallPlace}
use Rattle.steps_rwlock_fair.specs.declared.places.RwLockCallPlace.TheVariants.{Plain, PeekQueue, HandOver}
use Rattle.steps_rwlock_fair.specs.declared.places.RwLockCallPlace.TheVariants.{Bump}
use Rattle.steps_rwlock_fair.specs.declared.places.RwLockCallPlace.TheVariants.{Handed}
use Rattle.lot_steps.specs.Steps.{in_rwlock, respins_from, next_act, next_place, rwlock_does, rwlock_goes}
use Rattle.lot_steps.specs.declared.places.Place.{Place}
use Rattle.lot_steps.specs.declared.places.Place.TheVariants.{Idle, Mutex, Once, RwLock, Condvar, Semaphore}
use Rattle.core_words.specs.declared.views.WordStep.{WordStep}
use Rattle.parking_lot_core.specs.Tokens.{view_of}
use Rattle.parking_lot_core.specs.declared.tokens.Token.{Token}
use Rattle.run_base.specs.Paths.{Brings, at_rwlock, hands, is_valueless, other, parks, rwlock_at, step, word}
use Rattle.run_base.specs.Courses.{Course, Courses, PathItem, steps_in, trail_of}
use Rattle.run_base.proofs.Courses.{steps_to_end}
use Rattle.run_base.specs.Courses as courses
use Rattle.run_base.specs.RwLockCalls.{HasWalkedRwLock, rwlock_begin}
use Rattle.run_locks.specs.RwLockRefusals.{SawReadersFull}

-- ---------------------------------------------------------------- words

-- a parked bit that is set in a word without it keeps out the threads that the word kept out
module _ (v : ℕ) (unset : has_parked v ≡ false) where
  even : v % 2 ≡ 0
  even = grind (arith, nat_tests)

  writer : has_writer (plus v 1) ≡ has_writer v
  writer = let e = even in let same : (v + 1) % 18446744073709551616 / 8 % 2 ≡ v / 8 % 2 = omega arith
      in ap (λ n. n == 1) same

  upgradable : has_upgradable (plus v 1) ≡ has_upgradable v
  upgradable = let e = even in let same : (v + 1) % 18446744073709551616 / 4 % 2 ≡ v / 4 % 2 = omega arith
      in ap (λ n. n == 1) same

  count : count_in v ≡ 0 → count_in (plus v 1) ≡ count_in v
  count none = let e = even in omega arith

  still_blocked : (b : Bool) (x : Want) → is_blocked b x v ≡ true → is_blocked b x (plus v 1) ≡ true
  still_blocked false want.Shared e = ap (λ w. w && true) writer ∙ e
  still_blocked true want.Shared e = let none : count_in v ≡ 0 = grind (arith, nat_tests)
      in (λ i. writer i && (count none i == 0)) ∙ e
  still_blocked b want.Exclusive e = (λ i. writer i || upgradable i) ∙ e
  still_blocked b want.Upgradable e = (λ i. writer i || upgradable i) ∙ e
  still_blocked b want.Wait e = (λ i. writer i || upgradable i) ∙ e
  still_blocked b want.CallOnce e = (λ i. writer i || upgradable i) ∙ e

unset_by : (b : Bool) → park_or_mark b ≡ decisions.Mark → b ≡ false
unset_by true e = absurd cc
unset_by false e = refl

unset_where : (how : Patience) (v : ℕ) → decision_blocked how v ≡ decisions.Mark → has_parked v ≡ false
unset_where Try v e = absurd cc
unset_where Patient v e = unset_by (has_parked v) e
unset_where Timed v e = unset_by (has_parked v) e

waits_still : (how : Patience) (v w : ℕ) → decision_blocked how v ≡ decisions.Mark
    → IsNoRefusal (decision_blocked how w)
waits_still Try v w e = absurd cc
waits_still Patient v w e = by_bit (has_parked w)
  where
    by_bit : (b : Bool) → IsNoRefusal (park_or_mark b)
    by_bit true = tt
    by_bit false = tt
waits_still Timed v w e = by_bit (has_parked w)
  where
    by_bit : (b : Bool) → IsNoRefusal (park_or_mark b)
    by_bit true = tt
    by_bit false = tt

-- a thread that decides to set it is not refused once it is set
marks_on : (a : Admission) (x : Want) (how : Patience) (was : ℕ) → decision a x how was ≡ decisions.Mark
    → IsNoRefusal (decision a x how (plus was 1))
marks_on a x how was e = by_tests (is_blocked a.recursive x was) (is_counted x && nat_le a.limit
    (count_in was)) refl e
  where
    by_tests : (b c : Bool) → is_blocked a.recursive x was ≡ b
        → (if b then decision_blocked how was else if c then decisions.Refuse ReadersFull else decisions.Take)
        ≡ decisions.Mark → IsNoRefusal (decision a x how (plus was 1))
    by_tests true c eb f = subst (λ (b : Bool). IsNoRefusal (if b then decision_blocked how (plus was 1)
        else if is_counted x && nat_le a.limit (count_in (plus was 1)) then decisions.Refuse ReadersFull
        else decisions.Take)) (sym (still_blocked was (unset_where how was f) a.recursive x eb))
        (waits_still how was (plus was 1) f)
    by_tests false true eb f = absurd cc
    by_tests false false eb f = absurd cc

marked_on : (a : Admission) (c : RwLockPurpose) (was : ℕ) → decided_for a c was ≡ decisions.Mark
    → IsNoRefusal (decided_for a c (plus was 1))
marked_on a (purpose.Enter x how) was e = marks_on a (wanted x) how was e
marked_on a (purpose.Release x) was e = marks_on a (wanted x) Patient was e
marked_on a (purpose.Downgrade d) was e = marks_on a (wanted (access_of (purpose.Downgrade d))) Patient was e
marked_on a (purpose.Upgrade how) was e = never (count_in was == 1) e
  where
    never : (b : Bool) → (if b then decisions.Take else decisions.Refuse No) ≡ decisions.Mark
        → IsNoRefusal (decided_for a (purpose.Upgrade how) (plus was 1))
    never true f = absurd cc
    never false f = absurd cc

abbrev pub IsGoing : Act → Type 0
IsGoing (act.End answer) = ⊥
IsGoing going = Unit {0}

module _ (a : Admission) (q : RwLockPurpose) where
  abbrev of : Bool → RwLockAt → RwLockPlace
  of again to = record { purpose = q; retries = again; at = to }

  -- the value told that the lock is full
  abbrev pub ToldFull : Reply → Type 0
  ToldFull (reply.Value seen) = decided_for a q seen ≡ decisions.Refuse ReadersFull
  ToldFull told = ⊥

  abbrev pub EndsBy : Reply → Answer → Type 0
  EndsBy told ReadersFull = ToldFull told
  EndsBy told answer = Unit {0}

  abbrev pub IsCalling : RwLockPlace → Type 0
  IsCalling p = (p.purpose ≡ q) × IsDecided a q p.at

  abbrev pub Keeps : Reply → Next RwLockPlace → Type 0
  Keeps told (At p) = IsCalling p
  Keeps told (End answer) = EndsBy told answer

  pub entered_ends : (told : Reply) (how : Patience) → EndsBy told (entered how)
  entered_ends told Patient = tt
  entered_ends told Timed = tt
  entered_ends told Try = tt

  -- ---------------------------------------------------------------- one reply

  looked_keeps : (again : Bool) (to : RwLockAt) (seen : ℕ)
      → Keeps (reply.Value seen) (looked a (of again to) seen)
  looked_keeps again to seen = by_decision (decided_for a q seen) refl
    where
      refused : (answer : Answer) → decided_for a q seen ≡ decisions.Refuse answer
          → EndsBy (reply.Value seen) answer
      refused ReadersFull e = e
      refused answer e = tt

      by_decision : (d : Decision) → decided_for a q seen ≡ d
          → Keeps (reply.Value seen) (looked_by (of again to) seen d)
      by_decision decisions.Take e = (refl, subst IsNoRefusal (sym e) tt)
      by_decision decisions.Mark e = (refl, subst IsNoRefusal (sym e) tt)
      by_decision decisions.Park e = (refl, subst IsNoRefusal (sym e) tt)
      by_decision (decisions.Refuse answer) e = refused answer e

  came_keeps : (again : Bool) (was seen : ℕ) (c : RwLockPurpose)
      → Keeps (reply.Value seen) (came_in_for (of again (at.Decide was)) c)
  came_keeps again was seen (purpose.Enter access.Exclusive how) = (refl, tt)
  came_keeps again was seen (purpose.Enter access.Shared how) = entered_ends (reply.Value seen) how
  came_keeps again was seen (purpose.Enter access.Upgradable how) = entered_ends (reply.Value seen) how
  came_keeps again was seen (purpose.Release x) = tt
  came_keeps again was seen (purpose.Downgrade d) = tt
  came_keeps again was seen (purpose.Upgrade how) = entered_ends (reply.Value seen) how

  exchanged_keeps : (again : Bool) (was seen : ℕ) (d : Decision) → decided_for a q was ≡ d
      → Keeps (reply.Value seen) (exchanged_next a (of again (at.Decide was)) was seen d)
  exchanged_keeps again was seen decisions.Take e = by_test (seen == was)
    where
      by_test : (b : Bool) → Keeps (reply.Value seen) (if b then came_in (of again (at.Decide was))
          else looked a (of again (at.Decide was)) seen)
      by_test true = came_keeps again was seen q
      by_test false = looked_keeps again (at.Decide was) seen
  exchanged_keeps again was seen decisions.Mark e = by_test (seen == was)
    where
      by_test : (b : Bool) → Keeps (reply.Value seen) (if b then stays (of again (at.Decide was))
          (at.Decide (plus was 1)) else looked a (of again (at.Decide was)) seen)
      by_test true = (refl, marked_on a q was e)
      by_test false = looked_keeps again (at.Decide was) seen
  exchanged_keeps again was seen decisions.Park e = looked_keeps again (at.Decide was) seen
  exchanged_keeps again was seen (decisions.Refuse answer) e = looked_keeps again (at.Decide was) seen

  first_keeps : (again : Bool) (seen : ℕ) (b : Bool) (y : Patience) → Keeps (reply.Value seen)
      (if b then End (entered (patience_of q)) else missed (of again at.First) y)
  first_keeps again seen true y = entered_ends (reply.Value seen) (patience_of q)
  first_keeps again seen false Try = tt
  first_keeps again seen false Patient = (refl, tt)
  first_keeps again seen false Timed = (refl, tt)

  counted_keeps : (again : Bool) (to : RwLockAt) (seen : ℕ) (b : Bool) → Keeps (reply.Value seen)
      (if b then End (entered (patience_of q)) else stays (of again to) (at.Count seen))
  counted_keeps again to seen true = entered_ends (reply.Value seen) (patience_of q)
  counted_keeps again to seen false = (refl, tt)

  count_keeps : (again : Bool) (was seen : ℕ) (b : Bool)
      → Keeps (reply.Value seen) (if b then stays (of again (at.Count was)) at.Marked else after_count
      (of again (at.Count was)) seen)
  count_keeps again was seen true = (refl, tt)
  count_keeps again was seen false = counted_keeps again (at.Count was) seen (count_in seen == 0)

  rolled_keeps : (again : Bool) (seen : ℕ) (b : Bool) → has_parked seen ≡ b
      → Keeps (reply.Value seen) (rolled_back (of again at.RollBack) seen)
  rolled_keeps again seen true e = rw e (refl, tt)
  rolled_keeps again seen false e = rw e tt

  goes_to_wake : (again : Bool) (seen : ℕ) (m : Line) (b : Bool)
      → Keeps (reply.Value seen) (wakes_or_ends (of again at.GiveWay) m b)
  goes_to_wake again seen m true = (refl, tt)
  goes_to_wake again seen m false = tt

  released_keeps : (again : Bool) (seen : ℕ) (x : Access)
      → Keeps (reply.Value seen) (released (of again at.GiveWay) seen x)
  released_keeps again seen access.Shared = goes_to_wake again seen Second
      (has_aside seen && (count_in seen == 1))
  released_keeps again seen access.Upgradable = goes_to_wake again seen Main (has_parked seen)
  released_keeps again seen access.Exclusive = goes_to_wake again seen Main (has_parked seen)

  gave_keeps : (again : Bool) (seen : ℕ) (c : RwLockPurpose)
      → Keeps (reply.Value seen) (gave_way_by (of again at.GiveWay) seen c)
  gave_keeps again seen (purpose.Enter x how) = released_keeps again seen x
  gave_keeps again seen (purpose.Release x) = released_keeps again seen x
  gave_keeps again seen (purpose.Downgrade d) = goes_to_wake again seen Main (has_parked seen)
  gave_keeps again seen (purpose.Upgrade how) = by_test (count_in seen == 1)
    where
      by_test : (b : Bool) → Keeps (reply.Value seen) (if b then End (entered how) else goes
          (of again at.GiveWay) at.Look false)
      by_test true = entered_ends (reply.Value seen) how
      by_test false = (refl, tt)

  parks_keep : (again : Bool) (to : ParkAt) (told : Reply)
      → Keeps told (park_next (of again (at.Park to)) Main to told)
  parks_keep again parking.Check (reply.Parked b) = (refl, tt)
  parks_keep again (parking.Leave true) reply.Done = (refl, tt)
  parks_keep again (parking.Leave false) reply.Done = (refl, tt)
  parks_keep again parking.Asleep (reply.TakenBy u) = (refl, tt)
  parks_keep again parking.Asleep (reply.Woken note.Normal) = (refl, tt)
  parks_keep again (parking.Taken u) (reply.Woken note.Normal) = (refl, tt)
  parks_keep again parking.Asleep reply.Late = (refl, tt)
  parks_keep again parking.Remove (reply.Removed b) = (refl, tt)
  parks_keep again parking.Clear (reply.Value seen) = (refl, tt)
  parks_keep again parking.GiveUp reply.Done = tt
  parks_keep again to told = (refl, tt)

  asides_keep : (again : Bool) (to : ParkAt) (told : Reply)
      → Keeps told (park_next (of again (at.Aside to)) Second to told)
  asides_keep again parking.Check (reply.Parked b) = (refl, tt)
  asides_keep again (parking.Leave true) reply.Done = (refl, tt)
  asides_keep again (parking.Leave false) reply.Done = (refl, tt)
  asides_keep again parking.Asleep (reply.TakenBy u) = (refl, tt)
  asides_keep again parking.Asleep (reply.Woken note.Normal) = (refl, tt)
  asides_keep again (parking.Taken u) (reply.Woken note.Normal) = (refl, tt)
  asides_keep again parking.Asleep reply.Late = (refl, tt)
  asides_keep again parking.Remove (reply.Removed b) = (refl, tt)
  asides_keep again parking.Clear (reply.Value seen) = (refl, tt)
  asides_keep again parking.GiveUp reply.Done = (refl, tt)
  asides_keep again to told = (refl, tt)

  woken_ends : (told : Reply) (c : RwLockPurpose) → EndsBy told (ends_with c)
  woken_ends told (purpose.Enter x how) = tt
  woken_ends told (purpose.Release x) = tt
  woken_ends told (purpose.Downgrade d) = tt
  woken_ends told (purpose.Upgrade how) = tt

  wakes_keep : (again : Bool) (m : Line) (to : WakeAt) (told : Reply)
      → Keeps told (wake_next (of again (at.Wake m to)) m to told)
  wakes_keep again m waking.Enter reply.Done = (refl, tt)
  wakes_keep again m waking.Take (reply.Took any none_left) = (refl, tt)
  wakes_keep again m waking.Take (reply.Picked n y none_left) = (refl, tt)
  wakes_keep again m (waking.Clear any) (reply.Value seen) = (refl, tt)
  wakes_keep again m (waking.Leave any) reply.Done = woken_ends reply.Done q
  wakes_keep again m to told = (refl, tt)

  pub keeps_at : (again : Bool) (to : RwLockAt) (told : Reply) → IsDecided a q to
      → Keeps told (rwlock_next a (of again to) told)
  keeps_at again at.First (reply.Value seen) d = first_keeps again seen (seen == 0) (patience_of q)
  keeps_at again at.First told d = (refl, tt)
  keeps_at again at.Load (reply.Value seen) d = looked_keeps again at.Load seen
  keeps_at again at.Load told d = (refl, tt)
  keeps_at again (at.Decide was) (reply.Value seen) d = exchanged_keeps again was seen (decided_for a q was)
      refl
  keeps_at again (at.Decide was) reply.Done d = (refl, tt)
  keeps_at again (at.Decide was) told d = (refl, d)
  keeps_at again (at.Park to) told d = parks_keep again to told
  keeps_at again at.Look (reply.Value seen) d = counted_keeps again at.Look seen (count_in seen == 0)
  keeps_at again at.Look told d = (refl, tt)
  keeps_at again (at.Count was) (reply.Value seen) d = count_keeps again was seen (seen == was)
  keeps_at again (at.Count was) reply.Done d = (refl, tt)
  keeps_at again (at.Count was) told d = (refl, tt)
  keeps_at again at.Marked reply.Done d = (refl, tt)
  keeps_at again at.Marked told d = (refl, tt)
  keeps_at again (at.Aside to) told d = asides_keep again to told
  keeps_at again at.RollBack (reply.Value seen) d = rolled_keeps again seen (has_parked seen) refl
  keeps_at again at.RollBack told d = (refl, tt)
  keeps_at again at.GiveWay (reply.Value seen) d = gave_keeps again seen q
  keeps_at again at.GiveWay told d = (refl, tt)
  keeps_at again (at.Wake m to) told d = wakes_keep again m to told

  pub next_keeps : (p : RwLockPlace) (told : Reply) → IsCalling p → Keeps told (rwlock_next a p told)
  next_keeps p told w = subst (λ (c : RwLockPurpose). Keeps told (rwlock_next a (record {
    purpose = c;
    retries = p.retries;
    at = p.at;
  }) told)) (sym w.0) (keeps_at p.retries p.at told w.1)

  -- ---------------------------------------------------------------- one act

  parked_act : (l : ℕ) (x : Want) (m : Line) (to : ParkAt) → IsGoing (park_act l a x m to)
  parked_act l x m parking.Check = tt
  parked_act l x m (parking.Leave b) = tt
  parked_act l x m parking.Asleep = tt
  parked_act l x m (parking.Taken u) = tt
  parked_act l x m parking.Remove = tt
  parked_act l x m parking.Clear = tt
  parked_act l x m parking.GiveUp = tt

  deciding_act : (l seen : ℕ) (d : Decision) → IsNoRefusal d → IsGoing (decided_act l q seen d)
  deciding_act l seen decisions.Take n = tt
  deciding_act l seen decisions.Mark n = tt
  deciding_act l seen decisions.Park n = tt
  deciding_act l seen (decisions.Refuse answer) n = absurd n

  counting_act : (l seen : ℕ) (b : Bool) → has_aside seen ≡ b → IsGoing (count_act l seen)
  counting_act l seen true e = rw e tt
  counting_act l seen false e = rw e tt

  woken_act : (l : ℕ) (m : Line) (to : WakeAt) → IsGoing (wake_act l a q m to)
  woken_act l m waking.Enter = tt
  woken_act l m waking.Take = tt
  woken_act l m (waking.Clear any) = tt
  woken_act l m (waking.Leave any) = tt

  act_there : (l : ℕ) (again : Bool) (to : RwLockAt) → IsDecided a q to
      → IsGoing (rwlock_act l a (of again to))
  act_there l again at.First d = tt
  act_there l again at.Load d = tt
  act_there l again (at.Decide seen) d = deciding_act l seen (decided_for a q seen) d
  act_there l again (at.Park to) d = parked_act l (want_at (of again (at.Park to))) Main to
  act_there l again at.Look d = tt
  act_there l again (at.Count seen) d = counting_act l seen (has_aside seen) refl
  act_there l again at.Marked d = tt
  act_there l again (at.Aside to) d = parked_act l (want_at (of again (at.Aside to))) Second to
  act_there l again at.RollBack d = tt
  act_there l again at.GiveWay d = tt
  act_there l again (at.Wake m to) d = woken_act l m to

  pub act_going : (l : ℕ) (p : RwLockPlace) → IsCalling p → IsGoing (rwlock_act l a p)
  act_going l p w = subst (λ (c : RwLockPurpose). IsGoing (rwlock_act l a (record {
    purpose = c;
    retries = p.retries;
    at = p.at;
  }))) (sym w.0) (act_there l p.retries p.at w.1)

  -- ---------------------------------------------------------------- the thread that is handed the lock

  abbrev IsCall : RwLockCallPlace → Type 0
  IsCall (Plain p) = IsCalling p
  IsCall (Handed x y b to) = (purpose.Enter x y ≡ q) × (b ≡ false)
  IsCall c = ⊥

  abbrev KeepsCall : Reply → Next RwLockCallPlace → Type 0
  KeepsCall told (At c) = IsCall c
  KeepsCall told (End answer) = EndsBy told answer

  abbrev KeepsGiven : Option RwLockCallPlace → Type 0
  KeepsGiven None = Unit {0}
  KeepsGiven (Some c) = IsCall c

  woken_keeps : (x : Access) (how : Patience) (alone : Bool) → purpose.Enter x how ≡ q
      → IsCall (handed_woken x how false alone)
  woken_keeps access.Exclusive how true e = (e, refl)
  woken_keeps access.Exclusive how false e = (e, tt)
  woken_keeps access.Shared how alone e = (e, refl)
  woken_keeps access.Upgradable how alone e = (e, refl)

  taken_there : (c : RwLockPurpose) (to : RwLockAt) (by : ℕ) (alone : Bool) → c ≡ q
      → KeepsGiven (handed_by false c to by alone)
  taken_there (purpose.Enter x how) (at.Park (parking.Taken u)) by alone e = (e, refl)
  taken_there c to by alone e = tt

  slept_there : (c : RwLockPurpose) (to : RwLockAt) → c ≡ q → KeepsGiven (woken_with false c to)
  slept_there (purpose.Enter x how) (at.Park parking.Asleep) e = woken_keeps x how false e
  slept_there c to e = tt

  given_there : (again : Bool) (c : RwLockPurpose) (to : RwLockAt) (told : Reply) → c ≡ q
      → KeepsGiven (given false (record {
        purpose = c;
        retries = again;
        at = to;
      }) told)
  given_there again c to (reply.HandedBy by alone) e = taken_there c to by alone e
  given_there again c to (reply.Woken note.HandOff) e = slept_there c to e
  given_there again c to told e = tt

  plain_keeps : (told : Reply) (o : Option RwLockCallPlace) (n : Next RwLockPlace) → KeepsGiven o
      → Keeps told n → KeepsCall told (unless_given o (plain_next n))
  plain_keeps told None (At p) g k = k
  plain_keeps told None (End answer) g k = k
  plain_keeps told (Some c) n g k = g

  handed_keeps : (x : Access) (how : Patience) (to : HandedAt) (told : Reply) → purpose.Enter x how ≡ q
      → KeepsCall told (handed_next x how false to told)
  handed_keeps x how (handed.Asleep by alone) (reply.Woken note.HandOff) e = woken_keeps x how alone e
  handed_keeps x how handed.Accept reply.Done e = entered_ends reply.Done how
  handed_keeps x how handed.Accept (reply.Value seen) e = entered_ends (reply.Value seen) how
  handed_keeps x how to told e = (e, refl)

  call_keeps : (c : RwLockCallPlace) (told : Reply) → IsCall c → KeepsCall told (call_next a c told)
  call_keeps (Plain p) told w = plain_keeps told (given false p told) (rwlock_next a p told)
      (given_there p.retries p.purpose p.at told w.0) (next_keeps p told w)
  call_keeps (Handed x y b to) told w = subst (λ (d : Bool). KeepsCall told (handed_next x y d to told))
      (sym w.1) (handed_keeps x y to told w.0)
  call_keeps (Bump p) told w = absurd w
  call_keeps (PeekQueue x) told w = absurd w
  call_keeps (HandOver x b to) told w = absurd w

  pub accepting_act : (l : ℕ) (x : Access) (to : HandedAt) → IsGoing (handed_act l x to)
  accepting_act l x (handed.Asleep by alone) = tt
  accepting_act l access.Exclusive handed.Accept = tt
  accepting_act l access.Shared handed.Accept = tt
  accepting_act l access.Upgradable handed.Accept = tt

  call_going : (l : ℕ) (c : RwLockCallPlace) → IsCall c → IsGoing (call_act l a c)
  call_going l (Plain p) w = act_going l p w
  call_going l (Handed x y b to) w = accepting_act l x to
  call_going l (Bump p) w = absurd w
  call_going l (PeekQueue x) w = absurd w
  call_going l (HandOver x b to) w = absurd w

  -- ---------------------------------------------------------------- where it looks once more

  pub gone_at : (p : RwLockPlace) (to : RwLockAt) → IsCalling p → (r : RwLockPlace)
      → gone_to p (looking_at a p to) ≡ Some r → IsCalling r
  gone_at p (at.Decide seen) w r e = by_test (is_mark (decided a p seen) && not (has_aside seen)) e
    where
      by_test : (b : Bool) → gone_to p (if b then Some at.Load else None) ≡ Some r → IsCalling r
      by_test true f = let there : record p { at = at.Load } ≡ r = cc in subst IsCalling there (w.0, tt)
      by_test false f = absurd cc
  gone_at p (at.Count seen) w r e = let there : record p { at = at.Look } ≡ r = cc
      in subst IsCalling there (w.0, tt)
  gone_at p to w r e = absurd cc

  pub told_value : (told : Reply) → ToldFull told → (seen : ℕ) × (told ≡ reply.Value seen)
      × (decided_for a q seen ≡ decisions.Refuse ReadersFull)
  told_value (reply.Value seen) h = (seen, refl, h)
  told_value told h = absurd h

-- the step that brings a value saw it
value_seen : (l : ℕ) (p : Place) (xs : List WordStep) (told : Reply) → Brings (at_rwlock l) p xs told
    → (seen : ℕ) → told ≡ reply.Value seen → (op : Op) × (xs ≡ step (rwlock_at l) op seen)
value_seen l p _ _ (word _ lock op s e) seen is = let same : s ≡ seen = cc
    in (op, ap (step (rwlock_at l) op) same)
value_seen l p _ _ (hands _ lock op s e) seen is = let same : s ≡ seen = cc
    in (op, ap (step (rwlock_at l) op) same)
value_seen l p _ _ (parks _ lock key check _ s e) seen is = absurd cc
value_seen l p _ _ (other _ told e none may) seen is = let told_none : is_valueless (reply.Value seen)
    ≡ true = subst (λ (r : Reply). is_valueless r ≡ true) is none in absurd cc

-- a thread that is told so is kept out by nobody, and sees as many readers as there may be
module _ (a : Admission) (how : Patience) (seen : ℕ) where
  no_wait : (y : Patience) → decision_blocked y seen ≡ decisions.Refuse ReadersFull → ⊥
  no_wait Try e = cc
  no_wait Patient e = by_bit (has_parked seen) e
    where
      by_bit : (b : Bool) → park_or_mark b ≡ decisions.Refuse ReadersFull → ⊥
      by_bit true f = cc
      by_bit false f = cc
  no_wait Timed e = by_bit (has_parked seen) e
    where
      by_bit : (b : Bool) → park_or_mark b ≡ decisions.Refuse ReadersFull → ⊥
      by_bit true f = cc
      by_bit false f = cc

  full_by : (x : Want) → decision a x how seen ≡ decisions.Refuse ReadersFull
      → (is_blocked a.recursive x seen ≡ false) × ((is_counted x && nat_le a.limit (count_in seen)) ≡ true)
  full_by x e = by_tests (is_blocked a.recursive x seen) (is_counted x && nat_le a.limit (count_in seen)) refl
      refl e
    where
      by_tests : (b c : Bool) → is_blocked a.recursive x seen ≡ b
          → (is_counted x && nat_le a.limit (count_in seen)) ≡ c
          → (if b then decision_blocked how seen else if c then decisions.Refuse ReadersFull
          else decisions.Take) ≡ decisions.Refuse ReadersFull → (is_blocked a.recursive x seen ≡ false)
          × ((is_counted x && nat_le a.limit (count_in seen)) ≡ true)
      by_tests true c eb ec f = absurd (no_wait how f)
      by_tests false true eb ec f = (eb, ec)
      by_tests false false eb ec f = absurd cc

  found : (x : Access) → decided_for a (purpose.Enter x how) seen ≡ decisions.Refuse ReadersFull
      → (is_blocked a.recursive (wanted x) seen ≡ false) × (a.limit ≤ count_in seen)
  found access.Shared e = let by = full_by want.Shared e in let most : nat_le a.limit (count_in seen) ≡ true =
      by.1 in (by.0, grind (arith, nat_tests))
  found access.Upgradable e = let by = full_by want.Upgradable e in let most : nat_le a.limit (count_in seen)
      ≡ true = by.1 in (by.0, grind (arith, nat_tests))
  found access.Exclusive e = let by = full_by want.Exclusive e in let none : false ≡ true = by.1 in absurd cc

-- ---------------------------------------------------------------- a whole call

-- the places of a call that enters so: each reply leads to one of them, or ends the call
module _ (a : Admission) (x : Access) (how : Patience) (Is : RwLockCallPlace → Type 0) where
  abbrev enters : RwLockPurpose
  enters = purpose.Enter x how

  abbrev pub Keeping : Reply → Next RwLockCallPlace → Type 0
  Keeping told (At c) = Is c
  Keeping told (End answer) = EndsBy a enters told answer

  abbrev pub IsIn : Place → Type 0
  IsIn Idle = Unit {0}
  IsIn (Mutex l to) = ⊥
  IsIn (Once l to) = ⊥
  IsIn (Condvar l to) = ⊥
  IsIn (Semaphore l to) = ⊥
  IsIn (RwLock l b c) = (b ≡ a) × Is c

  abbrev EndsActBy : Reply → Act → Type 0
  EndsActBy told (act.End answer) = EndsBy a enters told answer
  EndsActBy told going = Unit {0}

  going_ends : (told : Reply) (y : Act) → IsGoing y → EndsActBy told y
  going_ends told (act.End answer) g = absurd g
  going_ends told y g = tt

  -- none of them ends it by itself, and one that it looks from once more is one too
  abbrev pub Leads : Type 0
  Leads = ((c : RwLockCallPlace) (told : Reply) → Is c → Keeping told (call_next a c told))
      × ((l : ℕ) (c : RwLockCallPlace) → Is c → IsGoing (call_act l a c))
      × ((l : ℕ) (c : RwLockCallPlace) (r : Place) → respins_from (RwLock l a c) ≡ Some r → Is c → IsIn r)

  module _ (leads : Leads) where
    place_keeps : (p : Place) (told : Reply) → IsIn p → IsIn (next_place p told)
        × EndsActBy told (next_act p told)
    place_keeps Idle told w = (tt, tt)
    place_keeps (Mutex l to) told w = absurd w
    place_keeps (Once l to) told w = absurd w
    place_keeps (Condvar l to) told w = absurd w
    place_keeps (Semaphore l to) told w = absurd w
    place_keeps (RwLock l b c) told w = subst (λ (y : Admission). IsIn (next_place (RwLock l y c) told)
        × EndsActBy told (next_act (RwLock l y c) told)) (sym w.0) (by_next (call_next a c told)
        (leads.0 c told w.1))
      where
        by_next : (n : Next RwLockCallPlace) → Keeping told n → IsIn (rwlock_goes l a n)
            × EndsActBy told (rwlock_does l a n)
        by_next (At d) k = ((refl, k), going_ends told (call_act l a d) (leads.1 l d k))
        by_next (End answer) k = (tt, k)

    looks_keep : (p r : Place) → respins_from p ≡ Some r → IsIn p → IsIn r
    looks_keep Idle r e w = absurd cc
    looks_keep (Mutex l to) r e w = absurd w
    looks_keep (Once l to) r e w = absurd w
    looks_keep (Condvar l to) r e w = absurd w
    looks_keep (Semaphore l to) r e w = absurd w
    looks_keep (RwLock l b c) r e w =
        leads.2 l c r (subst (λ (y : Admission). respins_from (RwLock l y c) ≡ Some r) w.0 e) w.1

    course_keeps : (at : ℕ → ℕ) (me : ℕ) (p r : Place) (x : List PathItem) → Course at me p x r → IsIn p
        → IsIn r
    course_keeps at me p _ _ (courses.rests _) w = w
    course_keeps at me p _ _ (courses.goes _ r x y told course will_bring) w =
        (place_keeps r told (course_keeps at me p r x course w)).0
    course_keeps at me p s x (courses.sees _ r _ _ course is) w =
        looks_keep r s is (course_keeps at me p r x course w)

    ended_by : (at : ℕ → ℕ) (me : ℕ) (p last : Place) (x : List PathItem) (told : Reply)
        → Course at me p x last → IsIn p → next_act last told ≡ act.End ReadersFull → ToldFull a enters told
    ended_by at me p last x told course w ends =
        subst (EndsActBy told) ends (place_keeps last told (course_keeps at me p last x course w)).1

    -- a thread that finds the lock full by them saw so by its last step
    pub walked_full : (l : ℕ) (me : ℕ) (start : Place) (old new : Token) → IsIn start
        → Courses (at_rwlock l) me start (trail_of old None) (trail_of new None) ReadersFull
        → SawReadersFull l a x old new
    walked_full l me start old new begins w =
        let end = w.2 in
        let told = ended_by (at_rwlock l) me start end.last end.before end.reply end.course begins end.ends in
        let value = told_value a enters end.reply told in
        let by = value_seen l end.last end.will_bring.0 end.reply end.will_bring.3 value.0 value.1 in
        let is = found a how value.0 x value.2 in (
          steps_in end.before,
          by.0,
          value.0,
          steps_to_end (at_rwlock l) me start (trail_of old None) (trail_of new None) ReadersFull w
              ∙ ap (λ (s : List WordStep). (view_of old).steps ++ (steps_in end.before ++ s)) by.1
              ∙ sym (append_assoc (view_of old).steps (steps_in end.before)
              (step (rwlock_at l) by.0 value.0)),
          is.0,
          is.1,
        )

-- ---------------------------------------------------------------- a call that enters

module _ (x : Access) (how : Patience) (a : Admission) where
  looks_on : (l : ℕ) (c : RwLockCallPlace) (r : Place) → respins_from (RwLock l a c) ≡ Some r
      → IsCall a (purpose.Enter x how) c → IsIn a x how (IsCall a (purpose.Enter x how)) r
  looks_on l (Handed y z d to) r e w = absurd cc
  looks_on l (Bump p) r e w = absurd w
  looks_on l (PeekQueue y) r e w = absurd w
  looks_on l (HandOver y d to) r e w = absurd w
  looks_on l (Plain p) r e w = by_place (rwlock_respin a p) refl e
    where
      by_place : (o : Option RwLockPlace) → rwlock_respin a p ≡ o → in_rwlock l a (in_call false o) ≡ Some r
          → IsIn a x how (IsCall a (purpose.Enter x how)) r
      by_place None f is = absurd cc
      by_place (Some n) f is = let there : RwLock l a (Plain n) ≡ r = cc
          in subst (IsIn a x how (IsCall a (purpose.Enter x how))) there (
            refl,
            gone_at a (purpose.Enter x how) p p.at w n f,
          )

  begins : (y : Access) (l : ℕ) → IsIn a y how (IsCall a (purpose.Enter y how))
      (rwlock_begin l a (purpose.Enter y how))
  begins access.Shared l = (refl, (refl, tt))
  begins access.Upgradable l = (refl, (refl, tt))
  begins access.Exclusive l = (refl, (refl, tt))

-- a whole call that found the lock full is refused so too
pub sees_full : (x : Access) (how : Patience) (l : ℕ) (a : Admission) (old new : Token)
    → HasWalkedRwLock l a (purpose.Enter x how) ReadersFull old new → SawReadersFull l a x old new
sees_full x how l a old new w = walked_full a x how (IsCall a (purpose.Enter x how))
    (call_keeps a (purpose.Enter x how), call_going a (purpose.Enter x how), looks_on x how a) l old.number
    (rwlock_begin l a (purpose.Enter x how)) old new (begins x how a x l) w
