-- Each step of a reader-writer lock uses up what its thread has before it.
use Rattle.std.proofs.Common.{ℕ, Bool, true, false, if◌then◌else◌, ◌==◌, ◌&&◌, ◌≡◌, ◌+◌, ◌*◌, ◌%◌, ◌/◌, ◌^◌}
use Rattle.std.proofs.Common.{◌≤◌, ◌<◌, inl, inr, length, refl, ap, sym, ◌∙◌, subst, arith}
use Rattle.std.proofs.lemmas.Bool.{eqb-true}
use Rattle.std.proofs.lemmas.Bool.Decides.{nat_tests}
use Rattle.core_base.specs.declared.keys.Keys.TheVariants.{One}
use Rattle.core_base.specs.declared.keys.Line.{Line}
use Rattle.core_base.specs.declared.keys.Line.TheVariants.{Main, Second}
use Rattle.core_base.specs.declared.ops.Op.TheVariants.{Exchange, Load as LoadOp}
use Rattle.core_base.specs.declared.wants.Want.{Want}
use Rattle.core_base.specs.Keys.{key_of}
use Rattle.core_base.specs.Lines.{without}
use Rattle.spec_locks.specs.Codes.{bars, count_in, has_aside, has_parked, is_blocked, leaves_readers}
use Rattle.spec_locks.specs.Locks.{Sort}
use Rattle.spec_locks.specs.Locks as locks
use Rattle.spec_locks.specs.Purposes.{rules_of}
use Rattle.spec_locks.specs.Sites.{has_readers}
use Rattle.spec_locks.specs.declared.calls.Access.{Access}
use Rattle.spec_locks.specs.declared.calls.Access.TheVariants as access
use Rattle.spec_locks.specs.declared.calls.Patience.{Patience}
use Rattle.spec_locks.specs.declared.calls.Patience.TheVariants.{Patient, Timed, Try}
use Rattle.spec_locks.specs.declared.outcomes.Answer.TheVariants as answer
use Rattle.steps_base.specs.Acts.{any_picked}
use Rattle.steps_base.specs.declared.acts.Act.{Act}
use Rattle.steps_base.specs.declared.acts.Act.TheVariants as act
use Rattle.steps_base.specs.declared.acts.Next.{Next}
use Rattle.steps_base.specs.declared.acts.Next.TheVariants.{End}
use Rattle.steps_base.specs.declared.acts.Reply.{Reply}
use Rattle.steps_base.specs.declared.acts.Reply.TheVariants.{Done, Picked, Took, Value}
use Rattle.steps_rwlock.specs.declared.places.Admission.{Admission}
use Rattle.steps_rwlock.specs.declared.places.RwLockPlace.{RwLockPlace}
use Rattle.steps_rwlock.specs.declared.places.RwLockAt.{RwLockAt}
use Rattle.steps_rwlock.specs.declared.places.RwLockAt.TheVariants as at
use Rattle.steps_rwlock.specs.declared.park.ParkAt.{ParkAt}
use Rattle.steps_rwlock.specs.declared.park.ParkAt.TheVariants as parking
use Rattle.steps_rwlock.specs.declared.release.WakeAt.{WakeAt}
use Rattle.steps_rwlock.specs.declared.release.WakeAt.TheVariants as waking
use Rattle.steps_rwlock.specs.declared.enter.Decision.{Decision}
use Rattle.steps_rwlock.specs.declared.enter.Decision.TheVariants as decisions
use Rattle.steps_rwlock.specs.declared.purposes.RwLockPurpose.{RwLockPurpose}
use Rattle.steps_rwlock.specs.declared.purposes.RwLockPurpose.TheVariants as purpose
use Rattle.steps_rwlock.specs.RwLockSteps.{access_of, act_at, after_count, came_in, came_in_for, decided_act}
use Rattle.steps_rwlock.specs.RwLockSteps.{decided_for, decision_blocked, entered, exchange, exchanged_next}
use Rattle.steps_rwlock.specs.RwLockSteps.{gave_way_by, goes, looked, looked_by, missed, next_at, park_act}
use Rattle.steps_rwlock.specs.RwLockSteps.{park_or_mark, patience_of, plus, released, stays, took, wake_act}
use Rattle.steps_rwlock.specs.RwLockSteps.{wake_next, wakes, wakes_or_ends, want_at, wanted, word_taken}
use Rattle.lot_machine.specs.Machine.{State, can_do, kind_at, queue_at, reply_to, word_at}
use Rattle.steps_rwlock.proofs.RwLockCodes.{fits_aside, fits_even}
use Rattle.lot_rests.proofs.Rows.{Goes, SetsBit, clear_by, either_less, exchange_fails, exchanged, is_still}
use Rattle.lot_rests.proofs.Rows.{nears, one_unless, same}
use Rattle.lot_rests.proofs.Work.{plain_work, wake_work, work_then}
use Rattle.lot_rests.proofs.Ways.{checks, decides, leaves, loads, parks, rwlock_ways}
use Rattle.lot_rests.proofs.Ways.{waits_in_main, ways_then}
use Rattle.lot_rests.proofs.Ways as ways

-- ---------------------------------------------------------------- bits

-- the parked bit that was clear is set, and no other
parked_fewer : (sort : Sort) → has_readers sort ≡ true → (v : ℕ) → v < 2 ^ 64 → has_parked v ≡ false
    → clear_by sort (plus v 1) + 1 ≤ clear_by sort v
parked_fewer sort readers v few even = subst (λ n. clear_by sort n + 1 ≤ clear_by sort v)
    (sym (fits_even v few even)) (by_sort sort readers)
  where
    zero_end : v % 2 ≡ 0
    zero_end = grind (arith, nat_tests)

    odd : has_parked (v + 1) ≡ true
    odd = ap (λ n. n == 1) (let e : (v + 1) % 2 ≡ 1 = let z = zero_end in omega arith in e)

    aside : has_aside (v + 1) ≡ has_aside v
    aside = ap (λ n. n % 2 == 1) (let e : (v + 1) / 2 ≡ v / 2 = let z = zero_end in omega arith in e)

    fewer : one_unless (has_parked (v + 1)) + one_unless (has_aside (v + 1)) + 1 ≤ one_unless (has_parked v)
        + one_unless (has_aside v)
    fewer = rw (odd, aside, even) (omega arith)

    by_sort : (sort : Sort) → has_readers sort ≡ true → clear_by sort (v + 1) + 1 ≤ clear_by sort v
    by_sort locks.Normal r = fewer
    by_sort locks.Recursive r = fewer
    by_sort sort r = absurd cc

-- a word with the bit of the second queue set has fewer clear bits
aside_fewer : (sort : Sort) → has_readers sort ≡ true → (v : ℕ) → v < 2 ^ 64 → has_aside v ≡ false
    → clear_by sort (plus v 2) + 1 ≤ clear_by sort v
aside_fewer sort readers v few none = subst (λ n. clear_by sort n + 1 ≤ clear_by sort v)
    (sym (fits_aside v few none)) (by_sort sort readers)
  where
    even : v / 2 % 2 ≡ 0
    even = grind (arith, nat_tests)

    set : has_aside (v + 2) ≡ true
    set = ap (λ n. n == 1) (let e : (v + 2) / 2 % 2 ≡ 1 = let z = even in omega arith in e)

    parked : has_parked (v + 2) ≡ has_parked v
    parked = ap (λ n. n == 1) (let e : (v + 2) % 2 ≡ v % 2 = omega arith in e)

    fewer : one_unless (has_parked (v + 2)) + one_unless (has_aside (v + 2)) + 1 ≤ one_unless (has_parked v)
        + one_unless (has_aside v)
    fewer = rw (set, parked, none) (omega arith)

    by_sort : (sort : Sort) → has_readers sort ≡ true → clear_by sort (v + 2) + 1 ≤ clear_by sort v
    by_sort locks.Normal r = fewer
    by_sort locks.Recursive r = fewer
    by_sort sort r = absurd cc

-- ---------------------------------------------------------------- decisions

abbrev marks : Decision → Bool
marks decisions.Mark = true
marks decisions.Take = false
marks decisions.Park = false
marks (decisions.Refuse x) = false

-- a thread that parks saw its way barred and the bit set, and one that marks saw it clear
record Blocked (a : Admission) (x : Want) (v : ℕ) (d : Decision) : Type 0 where
  pub waits : parks d ≡ true → bars a.recursive x v ≡ true
  pub unset : marks d ≡ true → has_parked v ≡ false

park_or_mark_so : (a : Admission) (x : Want) (v : ℕ) → is_blocked a.recursive x v ≡ true
    → Blocked a x v (park_or_mark (has_parked v))
park_or_mark_so a x v blocked = by_bit (has_parked v) refl
  where
    by_bit : (b : Bool) → has_parked v ≡ b → Blocked a x v (park_or_mark b)
    by_bit true is = record { waits = λ h. rw (is, blocked) refl; unset = λ h. absurd cc }
    by_bit false is = record { waits = λ h. absurd cc; unset = λ h. is }

blocked_so : (a : Admission) (x : Want) (how : Patience) (v : ℕ) → is_blocked a.recursive x v ≡ true
    → Blocked a x v (decision_blocked how v)
blocked_so a x Try v blocked = record { waits = λ h. absurd cc; unset = λ h. absurd cc }
blocked_so a x Patient v blocked = park_or_mark_so a x v blocked
blocked_so a x Timed v blocked = park_or_mark_so a x v blocked

decision_so : (a : Admission) (x : Want) (how : Patience) (v : ℕ) (full : Bool)
    → Blocked a x v (if is_blocked a.recursive x v then decision_blocked how v else if full
    then decisions.Refuse answer.ReadersFull else decisions.Take)
decision_so a x how v full = by_tests (is_blocked a.recursive x v) full refl
  where
    by_tests : (b c : Bool) → is_blocked a.recursive x v ≡ b
        → Blocked a x v (if b then decision_blocked how v else if c then decisions.Refuse answer.ReadersFull
        else decisions.Take)
    by_tests true c is = blocked_so a x how v is
    by_tests false true is = record { waits = λ h. absurd cc; unset = λ h. absurd cc }
    by_tests false false is = record { waits = λ h. absurd cc; unset = λ h. absurd cc }

decided_so : (a : Admission) (q : RwLockPurpose) (v : ℕ) → Blocked a (wanted (access_of q)) v
    (decided_for a q v)
decided_so a (purpose.Upgrade how) v = by_count (count_in v == 1)
  where
    by_count : (b : Bool) → Blocked a (wanted (access_of (purpose.Upgrade how))) v (if b then decisions.Take
        else decisions.Refuse answer.No)
    by_count true = record { waits = λ h. absurd cc; unset = λ h. absurd cc }
    by_count false = record { waits = λ h. absurd cc; unset = λ h. absurd cc }
decided_so a (purpose.Enter x how) v = decision_so a (wanted x) how v _
decided_so a (purpose.Release x) v = decision_so a (wanted x) Patient v _
decided_so a (purpose.Downgrade d) v = decision_so a _ Patient v _

-- a pending writer that saw readers waits where the bit of the second queue is set
aside_waits : (v : ℕ) → (count_in v == 0) ≡ false → has_aside v ≡ true → leaves_readers v ≡ true
aside_waits v some aside = rw (aside, some) refl

-- ---------------------------------------------------------------- rows

abbrev TellsTaken : Reply → Type 0
TellsTaken (Took any none_left) = Unit {0}
TellsTaken (Picked number more none_left) = Unit {0}
TellsTaken reply = ⊥

abbrev place : RwLockPurpose → Bool → RwLockAt → RwLockPlace
place q again to = record { purpose = q; retries = again; at = to }

module _ (w : State) (t l : ℕ) (readers : has_readers (rules_of (kind_at w l)).sort ≡ true) (few : word_at w l
    < 2 ^ 64) (there : l < length w.locks) (a : Admission) where
  abbrev word : ℕ
  word = word_at w l

  abbrev ways_of : RwLockPlace → ℕ
  ways_of p = rwlock_ways a word p p.at

  -- where this act leads from a place
  abbrev Leads : RwLockPlace → Act → Type 0
  Leads p x = Goes w x (plain_work p) (work_then plain_work (next_at a p p.at (reply_to w t x))) (ways_of p)
      (ways_then ways_of (next_at a p p.at (reply_to w t x)))

  module _ (q : RwLockPurpose) (again : Bool) where
    abbrev on : RwLockAt → RwLockPlace
    on to = place q again to

    abbrev waits : Bool
    waits = waits_in_main a (on at.Load) word

    -- ---------------------------------------------------------------- on the way into the main queue

    looked_now : rwlock_ways a word (on at.Load) (at.Decide word) + 1 ≤ loads waits
    looked_now = subst (λ b. decides (parks (decided_for a q word)) waits b + 1 ≤ loads waits)
        (sym (same word)) (ways.looked (parks (decided_for a q word)) waits (decided_so a q word).waits)

    looked_row : (to : RwLockAt) (x : Act) → is_still w x ≡ true → (d : Decision)
        → Goes w x 10 (work_then plain_work (looked_by (on to) word d)) (loads waits)
        (ways_then ways_of (looked_by (on to) word d))
    looked_row to x still (decisions.Refuse answer) = inl (omega arith)
    looked_row to x still d = nears 10 10 (loads waits) (rwlock_ways a word (on at.Load) (at.Decide word))
        (omega arith) still looked_now

    first_row : Leads (on at.First) (exchange l 0 8)
    first_row = by_word (word == 0) (patience_of q) refl
      where
        by_word : (b : Bool) (how : Patience) → (word == 0) ≡ b
            → Goes w (exchange l 0 8) 10 (work_then plain_work (if b then End (entered how) else missed
            (on at.First) how)) (loads waits + 1) (ways_then ways_of (if b then End (entered how)
            else missed (on at.First) how))
        by_word true how is = inl (omega arith)
        by_word false Try is = inl (omega arith)
        by_word false Patient is = nears 10 10 (loads waits + 1) (loads waits) (omega arith)
            (exchange_fails 0 8 word is) (omega arith)
        by_word false Timed is = nears 10 10 (loads waits + 1) (loads waits) (omega arith)
            (exchange_fails 0 8 word is) (omega arith)

    -- the thread came in
    came_less : (to : RwLockAt) (q2 : RwLockPurpose) → work_then plain_work (came_in_for (on to) q2) + 1 ≤ 10
    came_less to (purpose.Enter access.Exclusive how) = omega arith
    came_less to (purpose.Enter access.Upgradable how) = omega arith
    came_less to (purpose.Enter access.Shared how) = omega arith
    came_less to (purpose.Release x) = omega arith
    came_less to (purpose.Downgrade d) = omega arith
    came_less to (purpose.Upgrade how) = omega arith

    bit_pending : (seen : ℕ) → (word == seen) ≡ true → has_parked seen ≡ false
        → SetsBit w (exchange l seen (plus seen 1))
    bit_pending seen is unset = let e : word ≡ seen = eqb-true word seen is in record {
      lock = l;
      op = Exchange seen (plus seen 1);
      is = refl;
      there = there;
      fewer = subst (λ n. clear_by (rules_of (kind_at w l)).sort n + 1 ≤ clear_by
          (rules_of (kind_at w l)).sort word) (sym (exchanged seen (plus seen 1) word is))
          (subst (λ v. clear_by (rules_of (kind_at w l)).sort (plus v 1) + 1
          ≤ clear_by (rules_of (kind_at w l)).sort word) e
          (parked_fewer (rules_of (kind_at w l)).sort readers word few (ap has_parked e ∙ unset)));
    }

    take_row : (seen : ℕ) → Goes w (exchange l seen (word_taken q seen)) 10
        (work_then plain_work (if word == seen then came_in (on (at.Decide seen)) else looked a
        (on (at.Decide seen)) word))
        (decides false waits (word == seen))
        (ways_then ways_of (if word == seen then came_in (on (at.Decide seen)) else looked a
        (on (at.Decide seen)) word))
    take_row seen = by_word (word == seen) refl
      where
        by_word : (b : Bool) → (word == seen) ≡ b → Goes w (exchange l seen (word_taken q seen)) 10
            (work_then plain_work (if b then came_in (on (at.Decide seen)) else looked a (on (at.Decide seen))
            word))
            (decides false waits b)
            (ways_then ways_of (if b then came_in (on (at.Decide seen)) else looked a (on (at.Decide seen))
            word))
        by_word true is = inl (came_less (at.Decide seen) q)
        by_word false is = looked_row (at.Decide seen) (exchange l seen (word_taken q seen))
            (exchange_fails seen (word_taken q seen) word is) (decided_for a q word)

    mark_row : (seen : ℕ) → has_parked seen ≡ false → Goes w (exchange l seen (plus seen 1)) 10
        (work_then plain_work (if word == seen then stays (on (at.Decide seen)) (at.Decide (plus seen 1))
        else looked a (on (at.Decide seen)) word))
        (decides false waits (word == seen))
        (ways_then ways_of (if word == seen then stays (on (at.Decide seen)) (at.Decide (plus seen 1))
        else looked a (on (at.Decide seen)) word))
    mark_row seen unset = by_word (word == seen) refl
      where
        by_word : (b : Bool) → (word == seen) ≡ b → Goes w (exchange l seen (plus seen 1)) 10
            (work_then plain_work (if b then stays (on (at.Decide seen)) (at.Decide (plus seen 1))
            else looked a (on (at.Decide seen)) word))
            (decides false waits b)
            (ways_then ways_of (if b then stays (on (at.Decide seen)) (at.Decide (plus seen 1))
            else looked a (on (at.Decide seen)) word))
        by_word true is = inr (omega arith, inl (bit_pending seen is unset))
        by_word false is = looked_row (at.Decide seen) (exchange l seen (plus seen 1))
            (exchange_fails seen (plus seen 1) word is) (decided_for a q word)

    -- by what it decided
    abbrev decided_next : ℕ → Decision → Reply → Next RwLockPlace
    decided_next seen d (Value v) = exchanged_next a (on (at.Decide seen)) seen v d
    decided_next seen d Done = stays (on (at.Decide seen)) (at.Park parking.Check)
    decided_next seen d reply = stays (on (at.Decide seen)) (at.Decide seen)

    decide_row : (seen : ℕ) (d : Decision) → Blocked a (wanted (access_of q)) seen d
        → can_do w (decided_act l q seen d) ≡ true
        → Goes w (decided_act l q seen d) 10
        (work_then plain_work (decided_next seen d (reply_to w t (decided_act l q seen d))))
        (decides (parks d) waits (word == seen))
        (ways_then ways_of (decided_next seen d (reply_to w t (decided_act l q seen d))))
    decide_row seen decisions.Take so can = take_row seen
    decide_row seen decisions.Mark so can = mark_row seen (so.unset refl)
    decide_row seen decisions.Park so can = nears 10 10 (decides true waits (word == seen)) (checks waits)
        (omega arith) refl (ways.entered waits (word == seen))
    decide_row seen (decisions.Refuse answer) so can = absurd cc

    park_row : (to : ParkAt) → can_do w (park_act l a (want_at (on (at.Park to))) Main to) ≡ true
        → Leads (on (at.Park to)) (park_act l a (want_at (on (at.Park to))) Main to)
    park_row parking.Check can = nears 10 10 (checks waits) (leaves waits waits) (omega arith) refl
        (ways.checked waits)
    park_row (parking.Leave true) can = nears 10 10 1 0 (omega arith) refl (omega arith)
    park_row (parking.Leave false) can = nears 10 10 (loads waits + 1) (loads waits) (omega arith) refl
        (omega arith)
    park_row parking.Asleep can = absurd cc
    park_row (parking.Taken by) can = absurd cc
    park_row parking.Remove can =
        inl (either_less (λ x. work_then plain_work (stays (on (at.Park parking.Remove)) (at.Park x)))
        (length (without t (queue_at w (key_of l Main))) == 0) parking.Clear parking.GiveUp 3 (omega arith)
        (omega arith))
    park_row parking.Clear can = inl (omega arith)
    park_row parking.GiveUp can = inl (omega arith)

    -- ---------------------------------------------------------------- a pending writer

    abbrev left : Bool
    left = leaves_readers word

    counted_now : (count_in word == 0) ≡ false → rwlock_ways a word (on at.Look) (at.Count word) + 1
        ≤ loads left
    counted_now some = subst (λ b. decides (has_aside word) left b + 1 ≤ loads left) (sym (same word))
        (ways.looked (has_aside word) left (aside_waits word some))

    counted_row : (to : RwLockAt) (x : Act) → is_still w x ≡ true
        → Goes w x 9 (work_then plain_work (after_count (on to) word)) (loads left)
        (ways_then ways_of (after_count (on to) word))
    counted_row to x still = by_count (count_in word == 0) refl
      where
        by_count : (b : Bool) → (count_in word == 0) ≡ b
            → Goes w x 9 (work_then plain_work (if b then End (entered (patience_of q)) else stays (on to)
            (at.Count word))) (loads left)
            (ways_then ways_of (if b then End (entered (patience_of q)) else stays (on to) (at.Count word)))
        by_count true is = inl (omega arith)
        by_count false is = nears 9 9 (loads left) (rwlock_ways a word (on at.Look) (at.Count word))
            (omega arith) still (counted_now is)

    sets_aside : (seen : ℕ) → (word == seen) ≡ true → has_aside seen ≡ false
        → SetsBit w (exchange l seen (plus seen 2))
    sets_aside seen is none = let e : word ≡ seen = eqb-true word seen is in record {
      lock = l;
      op = Exchange seen (plus seen 2);
      is = refl;
      there = there;
      fewer = subst (λ n. clear_by (rules_of (kind_at w l)).sort n + 1 ≤ clear_by
          (rules_of (kind_at w l)).sort word) (sym (exchanged seen (plus seen 2) word is))
          (subst (λ v. clear_by (rules_of (kind_at w l)).sort (plus v 2) + 1
          ≤ clear_by (rules_of (kind_at w l)).sort word) e
          (aside_fewer (rules_of (kind_at w l)).sort readers word few (ap has_aside e ∙ none)));
    }

    pend_row : (seen : ℕ) → has_aside seen ≡ false → Goes w (exchange l seen (plus seen 2)) 9
        (work_then plain_work (if word == seen then stays (on (at.Count seen)) at.Marked else after_count
        (on (at.Count seen)) word))
        (decides false left (word == seen))
        (ways_then ways_of (if word == seen then stays (on (at.Count seen)) at.Marked else after_count
        (on (at.Count seen)) word))
    pend_row seen none = by_word (word == seen) refl
      where
        by_word : (b : Bool) → (word == seen) ≡ b → Goes w (exchange l seen (plus seen 2)) 9
            (work_then plain_work (if b then stays (on (at.Count seen)) at.Marked else after_count
            (on (at.Count seen)) word))
            (decides false left b)
            (ways_then ways_of (if b then stays (on (at.Count seen)) at.Marked else after_count
            (on (at.Count seen)) word))
        by_word true is = inr (omega arith, inl (sets_aside seen is none))
        by_word false is = counted_row (at.Count seen) (exchange l seen (plus seen 2))
            (exchange_fails seen (plus seen 2) word is)

    count_row : (seen : ℕ) (b : Bool) → has_aside seen ≡ b
        → Goes w (if b then act.Enter (One (2 * l + 1)) else exchange l seen (plus seen 2)) 9
        (work_then plain_work (next_at a (on (at.Count seen)) (at.Count seen)
        (reply_to w t (if b then act.Enter (One (2 * l + 1)) else exchange l seen (plus seen 2)))))
        (decides b left (word == seen))
        (ways_then ways_of (next_at a (on (at.Count seen)) (at.Count seen)
        (reply_to w t (if b then act.Enter (One (2 * l + 1)) else exchange l seen (plus seen 2)))))
    count_row seen true is = nears 9 9 (decides true left (word == seen)) (checks left) (omega arith) refl
        (ways.entered left (word == seen))
    count_row seen false is = pend_row seen is

    aside_row : (to : ParkAt) → can_do w (park_act l a (want_at (on (at.Aside to))) Second to) ≡ true
        → Leads (on (at.Aside to)) (park_act l a (want_at (on (at.Aside to))) Second to)
    aside_row parking.Check can = nears 9 9 (checks left) (leaves left left) (omega arith) refl
        (ways.checked left)
    aside_row (parking.Leave true) can = nears 9 9 1 0 (omega arith) refl (omega arith)
    aside_row (parking.Leave false) can = nears 9 9 (loads left + 1) (loads left) (omega arith) refl
        (omega arith)
    aside_row parking.Asleep can = absurd cc
    aside_row (parking.Taken by) can = absurd cc
    aside_row parking.Remove can = inl (omega arith)
    aside_row parking.Clear can = inl (omega arith)
    aside_row parking.GiveUp can = inl (omega arith)

    -- ---------------------------------------------------------------- a thread that gives a right up

    wakes_less : (to : RwLockAt) (m : Line) (b : Bool) → work_then plain_work (wakes_or_ends (on to) m b) + 1
        ≤ 5
    wakes_less to m true = omega arith
    wakes_less to m false = omega arith

    released_less : (x : Access) → work_then plain_work (released (on at.GiveWay) word x) + 1 ≤ 10
    released_less access.Shared = let most =
        wakes_less at.GiveWay Second (has_aside word && (count_in word == 1)) in omega arith
    released_less access.Upgradable = let most = wakes_less at.GiveWay Main (has_parked word) in omega arith
    released_less access.Exclusive = let most = wakes_less at.GiveWay Main (has_parked word) in omega arith

    gave_less : (q2 : RwLockPurpose) → work_then plain_work (gave_way_by (on at.GiveWay) word q2) + 1 ≤ 10
    gave_less (purpose.Enter x how) = released_less x
    gave_less (purpose.Release x) = released_less x
    gave_less (purpose.Downgrade d) = let most = wakes_less at.GiveWay Main (has_parked word) in omega arith
    gave_less (purpose.Upgrade how) = either_less (work_then plain_work) (count_in word == 1)
        (End (entered how)) (goes (on at.GiveWay) at.Look false) 10 (omega arith) (omega arith)

    took_less : (m : Line) (any none_left : Bool) → wake_work (took m any none_left) + 1 ≤ 3
    took_less Main any true = omega arith
    took_less Main any false = omega arith
    took_less Second any none_left = omega arith

    -- the thread has taken some, or none
    takes_less : (m : Line) (told : Reply) → TellsTaken told
        → work_then plain_work (wake_next (on (at.Wake m waking.Take)) m waking.Take told) + 1 ≤ 3
    takes_less m (Took any none_left) told = took_less m any none_left
    takes_less m (Picked number more none_left) told = took_less m (any_picked number more) none_left
    takes_less m reply told = absurd told

    wake_row : (m : Line) (to : WakeAt) → Leads (on (at.Wake m to)) (wake_act l a q m to)
    wake_row m waking.Enter = inl (omega arith)
    wake_row Main waking.Take = inl (takes_less Main (reply_to w t (wake_act l a q Main waking.Take)) tt)
    wake_row Second waking.Take = inl (takes_less Second (reply_to w t (wake_act l a q Second waking.Take))
        tt)
    wake_row m (waking.Clear any) = inl (omega arith)
    wake_row m (waking.Leave any) = inl (omega arith)

    -- ---------------------------------------------------------------- each place

    pub rwlock_row : (to : RwLockAt) → can_do w (act_at l a (on to) to) ≡ true
        → Leads (on to) (act_at l a (on to) to)
    rwlock_row at.First can = first_row
    rwlock_row at.Load can = looked_row at.Load (act.Word l LoadOp) (same word) (decided_for a q word)
    rwlock_row (at.Decide seen) can = decide_row seen (decided_for a q seen) (decided_so a q seen) can
    rwlock_row (at.Park to) can = park_row to can
    rwlock_row at.Look can = counted_row at.Look (act.Word l LoadOp) (same word)
    rwlock_row (at.Count seen) can = count_row seen (has_aside seen) refl
    rwlock_row at.Marked can = nears 9 9 (decides true left true) (checks left) (omega arith) refl
        (ways.entered left true)
    rwlock_row (at.Aside to) can = aside_row to can
    rwlock_row at.RollBack can = inl (either_less (work_then plain_work) (has_parked word)
        (stays (on at.RollBack) (wakes Main)) (End answer.No) 5 (omega arith) (omega arith))
    rwlock_row at.GiveWay can = inl (gave_less q)
    rwlock_row (at.Wake m to) can = wake_row m to
