-- Each step of a call of a reader-writer lock uses up what its thread has before it: of a plain call, of a
-- bump, of one that hands the lock over, and of one that was handed it.
use Rattle.std.proofs.Common.{ℕ, Bool, true, false, None, if◌then◌else◌, ◌==◌, ◌≡◌, ◌+◌, ◌^◌, ◌≤◌, ◌<◌, inl}
use Rattle.std.proofs.Common.{length, refl, sym, subst, arith}
use Rattle.core_base.specs.declared.ops.Op.TheVariants.{Exchange, Load as LoadOp}
use Rattle.spec_locks.specs.Codes.{has_parked}
use Rattle.spec_locks.specs.Purposes.{rules_of}
use Rattle.spec_locks.specs.Sites.{has_readers}
use Rattle.spec_locks.specs.declared.calls.Access.{Access}
use Rattle.spec_locks.specs.declared.calls.Access.TheVariants as access
use Rattle.spec_locks.specs.declared.calls.Patience.{Patience}
use Rattle.spec_locks.specs.declared.outcomes.Answer.TheVariants as answer
use Rattle.steps_base.specs.declared.acts.Act.{Act}
use Rattle.steps_base.specs.declared.acts.Act.TheVariants as act
use Rattle.steps_base.specs.declared.acts.Next.{Next}
use Rattle.steps_base.specs.declared.acts.Next.TheVariants.{At, End}
use Rattle.steps_base.specs.declared.acts.TakeWhich.TheVariants as whom
use Rattle.steps_rwlock.specs.RwLockSteps.{exchange, rwlock_act, rwlock_next}
use Rattle.steps_rwlock.specs.declared.places.Admission.{Admission}
use Rattle.steps_rwlock.specs.declared.places.RwLockPlace.{RwLockPlace}
use Rattle.steps_rwlock.specs.declared.places.RwLockAt.{RwLockAt}
use Rattle.steps_rwlock.specs.declared.places.RwLockAt.TheVariants as at
use Rattle.steps_rwlock.specs.declared.park.ParkAt.TheVariants as parking
use Rattle.steps_rwlock.specs.declared.release.WakeAt.TheVariants as waking
use Rattle.steps_rwlock.specs.declared.purposes.RwLockPurpose.{RwLockPurpose}
use Rattle.steps_rwlock.specs.declared.purposes.RwLockPurpose.TheVariants as purpose
use Rattle.steps_rwlock_fair.specs.declared.hand_over.HandOverAt.{HandOverAt}
use Rattle.steps_rwlock_fair.specs.declared.hand_over.HandOverAt.TheVariants as handing
use Rattle.steps_rwlock_fair.specs.declared.hand_over.Taken.{Taken}
use Rattle.steps_rwlock_fair.specs.declared.handed.HandedAt.{HandedAt}
use Rattle.steps_rwlock_fair.specs.declared.handed.HandedAt.TheVariants as handed
use Rattle.steps_rwlock_fair.specs.declared.places.RwLockCallPlace.{RwLockCallPlace}
use Rattle.steps_rwlock_fair.specs.declared.places.RwLockCallPlace.TheVariants.{Plain, PeekQueue, HandOver}
use Rattle.steps_rwlock_fair.specs.declared.places.RwLockCallPlace.TheVariants.{Bump}
use Rattle.steps_rwlock_fair.specs.declared.places.RwLockCallPlace.TheVariants.{Handed}
use Rattle.steps_rwlock_fair.specs.FairSteps.{any_taken, bump_next, call_act, call_next}
use Rattle.steps_rwlock_fair.specs.FairSteps.{enters_again, freed_next, given, gives_up_at}
use Rattle.steps_rwlock_fair.specs.FairSteps.{gives_way, hand_over_act, handed_act, has_room}
use Rattle.steps_rwlock_fair.specs.FairSteps.{parked_as, plain_next, released, took, unless_given, with_taken}
use Rattle.steps_rwlock_fair.specs.FairSteps.{word_without}
use Rattle.steps_rwlock_fair.specs.FairSteps as fair
use Rattle.steps_rwlock_fair.proofs.FairStands.{StaysFor, stays_for}
use Rattle.lot_machine.specs.Machine.{State, can_do, kind_at, reply_to, word_at}
use Rattle.lot_rests.proofs.Condvars.{goes_more}
use Rattle.lot_rests.proofs.RwLocks.{rwlock_row}
use Rattle.lot_rests.proofs.Rows.{Goes, exchange_fails, hand_over_fails, is_still, nears, same}
use Rattle.lot_rests.proofs.Work.{bump_work, call_work, hand_over_work, is_release, plain_work, rwlock_work}
use Rattle.lot_rests.proofs.Work.{work_after, work_then}
use Rattle.lot_rests.proofs.Ways.{call_ways, hand_over_ways, rwlock_ways, ways_then}

-- a thread's own act hands it no lock
own_given : (w : State) (t : ℕ) (bumps : Bool) (p : RwLockPlace) (a : Act) → given bumps p (reply_to w t a)
    ≡ None
own_given w t bumps p (act.Word l f) = refl
own_given w t bumps p (act.HandOver l f) = refl
own_given w t bumps p (act.Park l key check x) = refl
own_given w t bumps p (act.Take key whom.First) = refl
own_given w t bumps p (act.Take key (whom.Picked start recursive)) = refl
own_given w t bumps p (act.Take key whom.All) = refl
own_given w t bumps p (act.Requeue from to how) = refl
own_given w t bumps p (act.Remove key) = refl
own_given w t bumps p a = refl

-- each call has something to do
some_work : (to : RwLockAt) → 1 ≤ rwlock_work to
some_work (at.Park parking.Check) = omega arith
some_work (at.Park to) = omega arith
some_work (at.Aside parking.Check) = omega arith
some_work (at.Aside to) = omega arith
some_work (at.Wake m waking.Enter) = omega arith
some_work (at.Wake m to) = omega arith
some_work to = omega arith

again_works : (x : Access) → call_work (enters_again x) ≡ 10
again_works access.Exclusive = refl
again_works access.Upgradable = refl
again_works access.Shared = refl

module _ (w : State) (t l : ℕ) (readers : has_readers (rules_of (kind_at w l)).sort ≡ true) (few : word_at w l
    < 2 ^ 64) (there : l < length w.locks) (a : Admission) where
  abbrev word : ℕ
  word = word_at w l

  -- where this act leads from a place
  abbrev Leads : RwLockCallPlace → Act → Type 0
  Leads c x = Goes w x (call_work c) (work_then call_work (call_next a c (reply_to w t x)))
      (call_ways a word c) (ways_then (call_ways a word) (call_next a c (reply_to w t x)))

  abbrev ways_of : RwLockPlace → ℕ
  ways_of p = rwlock_ways a word p p.at

  -- ---------------------------------------------------------------- a plain call, and a bump

  plain_so : (x : Act) (k m : ℕ) (n : Next RwLockPlace) → Goes w x k (work_then plain_work n) m
      (ways_then ways_of n)
      → Goes w x k (work_then call_work (plain_next n)) m (ways_then (call_ways a word) (plain_next n))
  plain_so x k m (At p) row = row
  plain_so x k m (End answer) row = row

  plain_row : (p : RwLockPlace) → can_do w (rwlock_act l a p) ≡ true → Leads (Plain p) (rwlock_act l a p)
  plain_row p can =
      let n = rwlock_next a p (reply_to w t (rwlock_act l a p)) in
      subst (λ o. Goes w (rwlock_act l a p) (plain_work p)
      (work_then call_work (unless_given o (plain_next n))) (ways_of p)
      (ways_then (call_ways a word) (unless_given o (plain_next n))))
      (sym (own_given w t false p (rwlock_act l a p)))
      (plain_so (rwlock_act l a p) (plain_work p) (ways_of p) n (rwlock_row w t l readers few there a
      p.purpose p.retries p.at can))

  bump_so : (q : RwLockPurpose) (x : Act) (k m : ℕ) (n : Next RwLockPlace) → 1 ≤ k → StaysFor q n
      → Goes w x k (work_then plain_work n) m (ways_then ways_of n)
      → Goes w x (work_after (is_release q) 10 + k) (work_then call_work (bump_next q n)) m
      (ways_then (call_ways a word) (bump_next q n))
  bump_so q x k m (At p) some stays row =
      subst (λ y. Goes w x (work_after (is_release q) 10 + k) (work_after (is_release y) 10 + rwlock_work
      p.at) m (ways_of p)) (sym stays)
      (goes_more (work_after (is_release q) 10) k (plain_work p) m (ways_of p) row)
  bump_so (purpose.Release y) x k m (End answer) some stays row = inl (let again = again_works y
      in omega arith)
  bump_so (purpose.Enter y how) x k m (End answer) some stays row = inl (omega arith)
  bump_so (purpose.Downgrade d) x k m (End answer) some stays row = inl (omega arith)
  bump_so (purpose.Upgrade how) x k m (End answer) some stays row = inl (omega arith)

  bump_row : (p : RwLockPlace) → can_do w (rwlock_act l a p) ≡ true → Leads (Bump p) (rwlock_act l a p)
  bump_row p can =
      let n = rwlock_next a p (reply_to w t (rwlock_act l a p)) in
      subst (λ o. Goes w (rwlock_act l a p) (bump_work p)
      (work_then call_work (unless_given o (bump_next p.purpose n))) (ways_of p)
      (ways_then (call_ways a word) (unless_given o (bump_next p.purpose n))))
      (sym (own_given w t true p (rwlock_act l a p)))
      (bump_so p.purpose (rwlock_act l a p) (plain_work p) (ways_of p) n (some_work p.at)
      (stays_for a p (reply_to w t (rwlock_act l a p)))
      (rwlock_row w t l readers few there a p.purpose p.retries p.at can))

  gives_less : (x : Access) (b : Bool) → work_then call_work (if b then At (gives_up_at x) else End answer.Ok)
      + 1 ≤ 21
  gives_less access.Shared true = omega arith
  gives_less access.Upgradable true = omega arith
  gives_less access.Exclusive true = omega arith
  gives_less x false = omega arith

  -- ---------------------------------------------------------------- a thread that hands the lock over

  module _ (x : Access) (bumps : Bool) where
    abbrev base : ℕ
    base = work_after bumps 10

    abbrev hands : HandOverAt → RwLockCallPlace
    hands to = HandOver x bumps to

    -- the thread ends, or enters again
    released_works : (b : Bool) → work_then call_work (released x b) ≡ work_after b 10
    released_works true = again_works x
    released_works false = refl

    release_less : (k : ℕ) → 1 ≤ k → work_then call_work (released x bumps) + 1 ≤ base + k
    release_less k some = let works = released_works bumps in omega arith

    free_now : (if word == word then 0 else 1) + 1 ≤ 1
    free_now = subst (λ b. (if b then 0 else 1) + 1 ≤ 1) (sym (same word)) (omega arith)

    -- by the word that it has just seen
    looked_row : (y : Act) → is_still w y ≡ true
        → Goes w y (base + 5) (work_then call_work (At (hands (fair.looked word)))) 1
        (ways_then (call_ways a word) (At (hands (fair.looked word))))
    looked_row y still = by_bit (has_parked word)
      where
        by_bit : (b : Bool) → Goes w y (base + 5)
            (work_then call_work (At (hands (if b then handing.Enter else handing.Free word)))) 1
            (ways_then (call_ways a word) (At (hands (if b then handing.Enter else handing.Free word))))
        by_bit true = inl (omega arith)
        by_bit false = nears (base + 5) (base + 5) 1 (hand_over_ways word (handing.Free word)) (omega arith)
            still free_now

    freed_row : (z : Access) (y : Act) → is_still w y ≡ true
        → Goes w y (base + 5) (work_then call_work (At (hands (freed_next z word)))) 1
        (ways_then (call_ways a word) (At (hands (freed_next z word))))
    freed_row access.Upgradable y still = looked_row y still
    freed_row access.Shared y still = inl (omega arith)
    freed_row access.Exclusive y still = inl (omega arith)

    free_row : (seen : ℕ) → Leads (hands (handing.Free seen)) (exchange l seen (word_without x seen))
    free_row seen = by_word (word == seen) refl
      where
        by_word : (b : Bool) → (word == seen) ≡ b
            → Goes w (exchange l seen (word_without x seen)) (base + 5) (work_then call_work
            (if b then released x bumps else At (hands (freed_next x word)))) (if b then 0 else 1)
            (ways_then (call_ways a word) (if b then released x bumps else At (hands (freed_next x word))))
        by_word true is = inl (release_less 5 (omega arith))
        by_word false is = freed_row x (exchange l seen (word_without x seen))
            (exchange_fails seen (word_without x seen) word is)

    took_works : (z : Access) (k : Taken) → hand_over_work (took z k) ≡ 2
    took_works access.Upgradable k = refl
    took_works access.Shared k = refl
    took_works access.Exclusive k = refl

    take_row : (k : Taken) → call_work (hands (took x k)) + 1 ≤ base + 3
    take_row k = let works = took_works x k in omega arith

    -- the exchange of the thread, which hands the lock over or only gives the right up
    exchanged_row : (k : Taken) (seen : ℕ) (y : Act) → ((word == seen) ≡ false → is_still w y ≡ true)
        → (room : Bool)
        → Goes w y (base + 2) (work_then call_work (if word == seen then At
        (hands (handing.Leave (any_taken k) room)) else At (hands (handing.Exchange k word))))
        (if word == seen then 0 else 1)
        (ways_then (call_ways a word) (if word == seen then At (hands (handing.Leave (any_taken k) room))
        else At (hands (handing.Exchange k word))))
    exchanged_row k seen y still room = by_word (word == seen) refl
      where
        by_word : (b : Bool) → (word == seen) ≡ b
            → Goes w y (base + 2) (work_then call_work (if b
            then At (hands (handing.Leave (any_taken k) room)) else At (hands (handing.Exchange k word))))
            (if b then 0 else 1)
            (ways_then (call_ways a word) (if b then At (hands (handing.Leave (any_taken k) room))
            else At (hands (handing.Exchange k word))))
        by_word true is = inl (omega arith)
        by_word false is = nears (base + 2) (base + 2) 1 (hand_over_ways word (handing.Exchange k word))
            (omega arith) (still is) free_now

    exchange_row : (k : Taken) (seen : ℕ) (room : Bool)
        → Goes w (if room then act.HandOver l (Exchange seen (with_taken x k seen)) else act.Word l
        (Exchange seen (parked_as k.none_left (word_without x seen)))) (base + 2)
        (work_then call_work (call_next a (hands (handing.Exchange k seen))
        (reply_to w t (if room then act.HandOver l (Exchange seen (with_taken x k seen))
        else act.Word l (Exchange seen (parked_as k.none_left (word_without x seen)))))))
        (hand_over_ways word (handing.Exchange k seen))
        (ways_then (call_ways a word) (call_next a (hands (handing.Exchange k seen))
        (reply_to w t (if room then act.HandOver l (Exchange seen (with_taken x k seen))
        else act.Word l (Exchange seen (parked_as k.none_left (word_without x seen)))))))
    exchange_row k seen true = exchanged_row k seen (act.HandOver l (Exchange seen (with_taken x k seen)))
        (λ is. hand_over_fails seen (with_taken x k seen) word is) (has_room a.limit k word)
    exchange_row k seen false = exchanged_row k seen
        (act.Word l (Exchange seen (parked_as k.none_left (word_without x seen))))
        (λ is. exchange_fails seen (parked_as k.none_left (word_without x seen)) word is)
        (has_room a.limit k word)

    hand_over_row : (to : HandOverAt) → Leads (hands to) (hand_over_act l a x to)
    hand_over_row handing.Load = looked_row (act.Word l LoadOp) (same word)
    hand_over_row (handing.Free seen) = free_row seen
    hand_over_row handing.Enter = inl (omega arith)
    hand_over_row handing.Take = inl (take_row _)
    hand_over_row (handing.Store k) = inl (omega arith)
    hand_over_row (handing.Look k) = nears (base + 2) (base + 2) 1
        (hand_over_ways word (handing.Exchange k word)) (omega arith) (same word) free_now
    hand_over_row (handing.Exchange k seen) = exchange_row k seen (has_room a.limit k seen)
    hand_over_row (handing.Leave any given_over) = inl (release_less 1 (omega arith))

  -- ---------------------------------------------------------------- each place

  handed_row : (x : Access) (how : Patience) (bumps : Bool) (to : HandedAt) → can_do w (handed_act l x to)
      ≡ true → Leads (Handed x how bumps to) (handed_act l x to)
  handed_row x how bumps (handed.Asleep by alone) can = absurd cc
  handed_row access.Exclusive how bumps handed.Accept can = inl (omega arith)
  handed_row access.Upgradable how bumps handed.Accept can = inl (omega arith)
  handed_row access.Shared how bumps handed.Accept can = inl (omega arith)

  pub call_row : (c : RwLockCallPlace) → can_do w (call_act l a c) ≡ true → Leads c (call_act l a c)
  call_row (Plain p) can = plain_row p can
  call_row (Bump p) can = bump_row p can
  call_row (PeekQueue x) can = inl (gives_less x (gives_way a x word))
  call_row (HandOver x bumps to) can = hand_over_row x bumps to
  call_row (Handed x how bumps to) can = handed_row x how bumps to can
