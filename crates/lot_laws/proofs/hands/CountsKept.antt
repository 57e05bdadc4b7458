-- The counts that a call has made of the threads in its hand stay true, whatever any thread does. As long
-- as it hasn't handed the lock over, no other thread brings anybody into its hand or lets anybody go.
use Rattle.lot_laws.proofs.Imports
use Imports.{ℕ, Bool, true, false, Option, Some, None, if◌then◌else◌, ◌==◌, ◌≡◌, ◌≢◌, ◌<◌, inl, inr, length}
use Imports.{nat_lt, refl, sym, ◌∙◌, ap, subst, get_or, get_or-set_same, length-set, set, semaphore_act}
use Imports.{semaphore_next, once_next, Run, reply_to, state_after_close, state_after_go, state_after_going}
use Imports.{has_readers, cases_eq, ltb-true, Op, lock_in, Access, Turn, Step, Outcome, Act, Next, Reply, Late}
use Imports.{mutex_act, mutex_next, Admission, RwLockCallPlace, Plain, PeekQueue, HandOver, Bump, Handed}
use Imports.{HandOverAt, in_hand_of, any_taken, call_act, call_next, freed_next, has_room, hand_over_act}
use Imports.{hand_over_next, looked, parked_as, with_taken, word_without, has_parked, once_act, condvar_act}
use Imports.{condvar_next, Place, Idle, Mutex, RwLock, Once, Condvar, Semaphore, act_of, first_place, late_key}
use Imports.{respins_from, next_place, rwlock_goes, LockState, Turned, State, after, can_turn, go_reply, held}
use Imports.{is_possible, kind_at, place_at, put, state_after_act, state_after_hand_over_by}
use Imports.{state_after_late_on, state_after_look, state_after_operation, state_after_turn, step_outcome}
use Imports.{word_at, IsWellFormed, after_size, both, lock_state, locks_of, AreCondvars, AreCounted}
use Imports.{FitsItsLock, IsCountOfHand, IsInductive, rules_in}
use Rattle.lot_laws.proofs.machine.Parts.{IsOfTwo, IsSingle, fits_two, single_or_two}
use Rattle.lot_laws.proofs.hands.Counting.{once_counted, condvar_counted}
use Rattle.steps_once.specs.declared.run.RunAt.TheVariants as run
use Rattle.lot_laws.proofs.calls.Closures.{RunsOne, closes_one}
use Rattle.lot_laws.proofs.calls.Closings.{closing, closing_there, is_after}
use Rattle.lot_laws.proofs.calls.OwnPlace.{gone, gone_place}
use Rattle.core_base.specs.declared.ops.Op.TheVariants as operation
use Rattle.spec_locks.specs.declared.calls.Access.TheVariants as access
use Rattle.spec_locks.specs.declared.calls.Turn.TheVariants as turn
use Rattle.steps_base.specs.declared.acts.Act.TheVariants as act
use Rattle.steps_base.specs.declared.acts.Next.TheVariants as next
use Rattle.steps_rwlock_fair.specs.declared.hand_over.Taken.{Taken as Counted}
use Rattle.steps_rwlock_fair.specs.declared.hand_over.HandOverAt.TheVariants as handing
use Rattle.steps_rwlock_fair.specs.FairSteps.{released}
use Rattle.lot_laws.proofs.machine.Befallen.{others_keep_it}
use Rattle.lot_laws.proofs.hands.Counting.{HasCounted, IsHandOver, are_counted, begins_bare, counted_befallen}
use Rattle.lot_laws.proofs.hands.Counting.{counted_next, counted_on, counting, counting_row, counts_there}
use Rattle.lot_laws.proofs.hands.Counting.{goes_counted, late_bare, looks_bare, mutex_counted, none_is}
use Rattle.lot_laws.proofs.hands.Counting.{nothing, once_counted, others_bare, semaphore_counted}
use Rattle.lot_laws.proofs.hands.CountsTaken.{picked_now, take_counts, took_is}
use Rattle.lot_laws.proofs.condvar.OwnStand.{went, went_place}
use Rattle.lot_laws.proofs.calls.EachLock.{moves_no_readers, turned_so}
use Rattle.lot_laws.proofs.machine.Parts.{same}
use Rattle.lot_laws.proofs.hands.Cases.{others_hold}
use Rattle.lot_laws.proofs.hands.Counted.{counted_stays, same_hand}
use Rattle.lot_laws.proofs.hands.InHand.{wanted_of}
use Rattle.lot_laws.proofs.calls.LockSteps.{IsTurn, after_step}
use Rattle.lot_laws.proofs.calls.Looking.{closing_here, looking_inductive, set_keeps}
use Rattle.lot_laws.proofs.sites.TurnsKept.{after_inductive}

-- ---------------------------------------------------------------- another thread goes on

module _ (w v : State) (a : ℕ) (inductive : IsInductive w) (afterwards : IsInductive v)
    (counted : AreCounted w)
    (size : length v.places ≡ length w.places) where
  module _ (t l : ℕ) (k : Counted) (was : counted_on (place_at w t) l ≡ Some k)
      (now : counted_on (place_at v t) l ≡ Some k) where
    before : HasCounted l (place_at w t)
    before = counting_row l k (place_at w t) was

    then_so : HasCounted l (place_at v t)
    then_so = counting_row l k (place_at v t) now

    -- a lock that is shared
    readers : has_readers (rules_in w l).sort ≡ true
    readers = let h = counting l k (place_at w t) was in let fits : FitsItsLock w
        (RwLock l h.admission h.call) = subst (FitsItsLock w) h.is (inductive.stands.calls t) in fits.0.0

    -- a thread that it has in hand, the abstract lock says, and no case of another changes that
    same_wanted : t ≢ a → (x : Turn) (o : Outcome) → Turned (locks_of w) a x o (locks_of v) → (u : ℕ)
        → wanted_of t (held (place_at v u)) ≡ wanted_of t (held (place_at w u))
    same_wanted ne x o turned u = same_hand v t l afterwards then_so.of then_so.any then_so.has_taken u
        ∙ turned_so (λ (s z : LockState). wanted_of t (z.taken u) ≡ wanted_of t (s.taken u)) (locks_of w)
        (locks_of v) a l (λ c m every owned number may. moves_no_readers (locks_of w) a c m every owned
        number l readers may (λ z. wanted_of t (z.taken u) ≡ wanted_of t ((lock_state w l).taken u)) refl)
        refl
        (λ c needs. others_hold (rules_in w l) (lock_state w l) t a u (inductive.sites.site l).state ne c
        needs)
        x o turned
        ∙ sym (same_hand w t l inductive before.of before.any before.has_taken u)

    pub another_counts : t ≢ a → (x : Turn) (o : Outcome) → Turned (locks_of w) a x o (locks_of v)
        → IsCountOfHand v t k
    another_counts ne x o turned = counted_stays w v t size (same_wanted ne x o turned) k
        (counts_there w t l k counted was)

-- ---------------------------------------------------------------- the thread itself goes on

module _ (w : State) (t : ℕ) (inductive : IsInductive w) (counted : AreCounted w) (there : t
    < length w.places)
  where
    abbrev goes_to : Place → State
    goes_to p = put (state_after_act w t p (act_of p)) t (next_place p (reply_to w t (act_of p)))

    -- no place changes but its own, and that is in no hand
    alone_counts : (b : State) (l : ℕ) (k : Counted) (q : Place) → b.places ≡ w.places
        → counted_on (place_at w t) l ≡ Some k
        → counted_on q l ≡ Some k → IsCountOfHand (put b t q) t k
    alone_counts b l k q same_places was now = counted_stays w (put b t q) t (length-set b.places t q
        ∙ ap (λ ps. length ps) same_places) same_wants k (counts_there w t l k counted was)
      where
        same_wants : (u : ℕ) → wanted_of t (held (place_at (put b t q) u)) ≡ wanted_of t (held (place_at w u))
        same_wants u = ap (λ ps. wanted_of t (held (get_or (set ps t q) u Idle))) same_places
            ∙ ap (wanted_of t) (set_keeps held w.places t u q Idle ((counting_row l k q now).unheld
            ∙ sym (counting_row l k (place_at w t) was).unheld))

    module _ (l : ℕ) (a : Admission) (x : Access) (b : Bool) (y : Turn) (o : Outcome) where
      abbrev at : HandOverAt → Place
      at to = RwLock l a (HandOver x b to)

      abbrev told : HandOverAt → Reply
      told to = reply_to w t (hand_over_act l a x to)

      abbrev Counts : HandOverAt → Type 0
      Counts to = (k : Counted) → counted_next (hand_over_next a x b to (told to)) ≡ Some k
          → IsCountOfHand (goes_to (at to)) t k

      -- the place says of the hand what it said
      keeps_count : (v : State) (m k : Counted) (to now : HandOverAt) → v.places ≡ w.places → place_at w t
          ≡ at to
          → in_hand_of (HandOver x b to) ≡ Some m → in_hand_of (HandOver x b now) ≡ Some m → m ≡ k
          → IsCountOfHand (put v t (at now)) t k
      keeps_count v m k to now same_places is was then_so same_count =
          subst (IsCountOfHand (put v t (at now)) t) same_count
          (alone_counts v l m (at now) same_places (ap (λ p. counted_on p l) is ∙ here to ∙ was) (here now
          ∙ then_so))
        where
          here : (to : HandOverAt) → counted_on (at to) l ≡ in_hand_of (HandOver x b to)
          here to = ap (λ c. if c then in_hand_of (HandOver x b to) else None) (same l)

      released_bare : counted_next (released x b) ≡ None
      released_bare = either b
        where
          either : (c : Bool) → counted_next (released x c) ≡ None
          either true = refl
          either false = refl

      looked_bare : (seen : ℕ) → in_hand_of (HandOver x b (looked seen)) ≡ None
      looked_bare seen = either (has_parked seen)
        where
          either : (c : Bool) → in_hand_of (HandOver x b (if c then handing.Enter else handing.Free seen))
              ≡ None
          either true = refl
          either false = refl

      freed_bare : (seen : ℕ) (z : Access) → in_hand_of (HandOver x b (freed_next z seen)) ≡ None
      freed_bare seen access.Upgradable = looked_bare seen
      freed_bare seen access.Shared = refl
      freed_bare seen access.Exclusive = refl

      free_counts : (expected : ℕ) → Counts (handing.Free expected)
      free_counts expected k e = absurd
          (none_is k (counted_next (if word_at w l == expected then released x b
          else next.At (HandOver x b (freed_next x (word_at w l))))) (either (word_at w l == expected)) e)
        where
          either : (c : Bool)
              → counted_next (if c then released x b else next.At (HandOver x b (freed_next x (word_at w l))))
              ≡ None
          either true = released_bare
          either false = freed_bare (word_at w l) x

      -- the exchange found another value
      exchange_counts : (m : Counted) (expected : ℕ) → place_at w t ≡ at (handing.Exchange m expected)
          → Counts (handing.Exchange m expected)
      exchange_counts m expected is k = by_room (has_room a.limit m expected)
        where
          seen : ℕ
          seen = word_at w l

          over : Op
          over = operation.Exchange expected (with_taken x m expected)

          away : Op
          away = operation.Exchange expected (parked_as m.none_left (word_without x expected))

          acts_by : Bool → Act
          acts_by room = if room then act.HandOver l over else act.Word l away

          goes_by : Bool → Next RwLockCallPlace
          goes_by found = if found then next.At
              (HandOver x b (handing.Leave (any_taken m) (has_room a.limit m seen))) else next.At
              (HandOver x b (handing.Exchange m seen))

          handed : (found : Bool) → counted_next (goes_by found) ≡ Some k
              → IsCountOfHand
              (put (state_after_hand_over_by found w t (at (handing.Exchange m expected)) l over) t
              (rwlock_goes l a (goes_by found))) t k
          handed true e = absurd cc
          handed false e = keeps_count (state_after_operation w t (at (handing.Exchange m expected)) l over) m
              k
              (handing.Exchange m expected) (handing.Exchange m seen) refl is refl refl (let z : m ≡ k = cc
              in z)

          let_go : (found : Bool) → counted_next (goes_by found) ≡ Some k
              → IsCountOfHand
              (put (state_after_operation w t (at (handing.Exchange m expected)) l away) t
              (rwlock_goes l a (goes_by found))) t k
          let_go true e = absurd cc
          let_go false e = keeps_count (state_after_operation w t (at (handing.Exchange m expected)) l away) m
              k
              (handing.Exchange m expected) (handing.Exchange m seen) refl is refl refl (let z : m ≡ k = cc
              in z)

          by_room : (room : Bool)
              → counted_next (hand_over_next a x b (handing.Exchange m expected)
              (reply_to w t (acts_by room)))
              ≡ Some k
              → IsCountOfHand
              (put (state_after_act w t (at (handing.Exchange m expected)) (acts_by room)) t
              (rwlock_goes l a (hand_over_next a x b (handing.Exchange m expected)
              (reply_to w t (acts_by room))))) t k
          by_room true e = handed (seen == expected) e
          by_room false e = let_go (seen == expected) e

      hand_over_counts : (to : HandOverAt) → place_at w t ≡ at to → IsInductive (goes_to (at to))
          → Turned (locks_of w) t y o (locks_of (goes_to (at to))) → Counts to
      hand_over_counts handing.Load is afterwards turned k e =
          absurd (none_is k (in_hand_of (HandOver x b (looked (word_at w l)))) (looked_bare (word_at w l)) e)
      hand_over_counts (handing.Free expected) is afterwards turned k e = free_counts expected k e
      hand_over_counts handing.Enter is afterwards turned k e = absurd cc
      hand_over_counts handing.Take is afterwards turned k e =
          let so : Some (picked_now w t l a x b inductive there is) ≡ Some k =
          sym (took_is x b (picked_now w t l a x b inductive there is)) ∙ e in
          let same_count : picked_now w t l a x b inductive there is ≡ k = cc in
          subst (IsCountOfHand (goes_to (at handing.Take)) t) same_count (take_counts w t l a x b inductive
          there
          is afterwards y o turned)
      hand_over_counts (handing.Store m) is afterwards turned k e = absurd cc
      hand_over_counts (handing.Look m) is afterwards turned k e =
          keeps_count (state_after_operation w t (at (handing.Look m)) l operation.Load) m k (handing.Look m)
          (handing.Exchange m (word_at w l)) refl is refl refl (let z : m ≡ k = cc in z)
      hand_over_counts (handing.Exchange m expected) is afterwards turned k e =
          exchange_counts m expected is k e
      hand_over_counts (handing.Leave any given) is afterwards turned k e =
          absurd (none_is k (counted_next (released x b)) released_bare e)

    -- by the reply to the act of its place
    module _ (y : Turn) (o : Outcome) where
      abbrev Goes : Place → Type 0
      Goes p = place_at w t ≡ p → IsInductive (goes_to p) → Turned (locks_of w) t y o (locks_of (goes_to p))
          → (l : ℕ) (k : Counted) → counted_on (next_place p (reply_to w t (act_of p))) l ≡ Some k
          → IsCountOfHand (goes_to p) t k

      bare_goes : (j : ℕ) (a : Admission) (c : RwLockCallPlace) → (IsHandOver c → ⊥) → Goes (RwLock j a c)
      bare_goes j a c other is afterwards turned l k e =
          absurd (none_is k _ (goes_counted l j a n ∙ ap (λ z. if j == l then z else None)
          (others_bare a c (reply_to w t (call_act j a c)) other) ∙ nothing (j == l)) e)
        where
          n : Next RwLockCallPlace
          n = call_next a c (reply_to w t (call_act j a c))

      going_counts : (p : Place) → Goes p
      going_counts Idle is afterwards turned l k e = absurd cc
      going_counts (Mutex j m) is afterwards turned l k e =
          absurd (none_is k _ (mutex_counted l j (mutex_next m (reply_to w t (mutex_act j m)))) e)
      going_counts (Once j m) is afterwards turned l k e =
          absurd (none_is k _ (once_counted l j (once_next m (reply_to w t (once_act j m)))) e)
      going_counts (Semaphore j m) is afterwards turned l k e =
          absurd (none_is k _ (semaphore_counted l j (semaphore_next m (reply_to w t (semaphore_act j m)))) e)
      going_counts (Condvar j m) is afterwards turned l k e =
          absurd (none_is k _ (condvar_counted l j (condvar_next m (reply_to w t (condvar_act j m)))) e)
      going_counts (RwLock j a (HandOver x b to)) is afterwards turned l k e =
          either (j == l) (sym (goes_counted l j a n) ∙ e)
        where
          n : Next RwLockCallPlace
          n = call_next a (HandOver x b to) (reply_to w t (call_act j a (HandOver x b to)))

          either : (c : Bool) → (if c then counted_next n else None) ≡ Some k
              → IsCountOfHand (goes_to (RwLock j a (HandOver x b to))) t k
          either true f = hand_over_counts j a x b y o to is afterwards turned k f
          either false f = absurd cc
      going_counts (RwLock j a (Plain p)) is afterwards turned l k e = bare_goes j a (Plain p) (λ no. no) is
          afterwards
          turned l k e
      going_counts (RwLock j a (Bump p)) is afterwards turned l k e = bare_goes j a (Bump p) (λ no. no) is
          afterwards
          turned l k e
      going_counts (RwLock j a (PeekQueue x)) is afterwards turned l k e = bare_goes j a (PeekQueue x)
          (λ no. no) is
          afterwards turned l k e
      going_counts (RwLock j a (Handed x how b to)) is afterwards turned l k e =
          bare_goes j a (Handed x how b to) (λ no. no) is afterwards turned l k e

-- in a call of two locks it counts nobody
two_bare : (w : State) (t : ℕ) → IsInductive w → t < length w.places → IsOfTwo (place_at w t) → (l : ℕ)
    → counted_on (place_at (state_after_go w t) t) l ≡ None
two_bare w t inductive there two l = ap (λ p. counted_on (place_at (state_after_going w t p) t) l) two.is
    ∙ ap (λ p. counted_on p l) (went_place w t two.lock two.at two.is (fits_two w t inductive two).reached
    there)
    ∙ condvar_counted l two.lock (went w t two.lock two.at two.is (fits_two w t inductive two).reached there)

module _ (w : State) (t : ℕ) (inductive : IsInductive w) (counted : AreCounted w) (there : t
    < length w.places)
  where
    -- the thread looks at the word once more
    spun_counts : (p : Option Place) → respins_from (place_at w t) ≡ p → (l : ℕ) (k : Counted)
        → counted_on (place_at (state_after_look w t p) t) l ≡ Some k → IsCountOfHand (state_after_look w t p)
        t
        k
    spun_counts None is l k e = counts_there w t l k counted e
    spun_counts (Some q) is l k e = absurd (none_is k _ (elim (single_or_two (place_at moved t)) [
      | inl single ↦ ap (λ p. counted_on p l) (gone_place moved t single there_moved
          ∙ ap (λ p. next_place p (go_reply moved t)) (get_or-set_same w.places t q Idle there))
          ∙ (looks_bare (place_at w t) q is).goes_on (go_reply moved t) l
      | inr two ↦ two_bare moved t (looking_inductive w t there q is inductive) there_moved two l
    ]) e)
      where
        moved : State
        moved = put w t q

        there_moved : t < length moved.places
        there_moved = rw (length-set w.places t q) there

    late_counts : (key : Option ℕ) → late_key (place_at w t) ≡ key → (l : ℕ) (k : Counted)
        → counted_on (place_at (state_after_late_on w t key) t) l ≡ Some k
        → IsCountOfHand (state_after_late_on w t key) t k
    late_counts None is l k e = counts_there w t l k counted e
    late_counts (Some key) is l k e =
        absurd (none_is k _ (ap (λ p. counted_on p l) (get_or-set_same w.places t
        (next_place (place_at w t) Late) Idle there) ∙ late_bare (place_at w t) key is l) e)

    -- a call of a `Once` counts nobody
    closed_bare : (succeeded : Bool) → RunsOne (place_at w t) → (l : ℕ)
        → counted_on (place_at (state_after_close w t succeeded) t) l ≡ None
    closed_bare succeeded one l =
        let v = closing w t there succeeded one in
        ap (λ p. counted_on p l) (gone_place v t
        (subst IsSingle (sym (closing_here w t there succeeded one ∙ is_after w t there succeeded one)) tt)
        (closing_there w t there succeeded one))
        ∙ ap (λ p. counted_on (next_place p (reply_to v t (act_of p))) l) (closing_here w t there succeeded
        one
        ∙ is_after w t there succeeded one)
        ∙ once_counted l one.lock (once_next (Run one.forced (run.Close succeeded))
        (reply_to v t (act_of (Once one.lock (Run one.forced (run.Close succeeded))))))

    turned_counts : (x : Turn) → can_turn w t x ≡ true → IsInductive (state_after_turn w t x) → (o : Outcome)
        → Turned (locks_of w) t x o (locks_of (state_after_turn w t x)) → (l : ℕ) (k : Counted)
        → counted_on (place_at (state_after_turn w t x) t) l ≡ Some k → IsCountOfHand (state_after_turn w t x)
        t
        k
    turned_counts (turn.Begin c) can afterwards o turned l k e =
        absurd (none_is k _ (ap (λ p. counted_on p l) (get_or-set_same w.places t
        (first_place (kind_at w (lock_in c)) c) Idle there) ∙ begins_bare l (kind_at w (lock_in c)) c) e)
    turned_counts turn.Go can afterwards o turned l k e = elim (single_or_two (place_at w t)) [
      | inl single ↦ (let same = gone w t single in
          subst (λ (v : State). IsCountOfHand v t k) (sym same) (going_counts w t inductive counted there
          turn.Go o (place_at w t) refl
          (subst IsInductive same afterwards)
          (subst (λ (v : State). Turned (locks_of w) t turn.Go o (locks_of v)) same turned) l k
          (ap (λ p. counted_on p l) (sym (gone_place w t single there)) ∙ e)))
      | inr two ↦ absurd (none_is k _ (two_bare w t inductive there two l) e)
    ]
    turned_counts turn.Spin can afterwards o turned l k e = spun_counts
        (respins_from (place_at w t))
        refl
        l
        k e
    turned_counts turn.Late can afterwards o turned l k e = late_counts (late_key (place_at w t))
        refl
        l
        k e
    turned_counts turn.Ok can afterwards o turned l k e =
        absurd (none_is k _ (closed_bare true (closes_one w t true can) l) e)
    turned_counts turn.Err can afterwards o turned l k e =
        absurd (none_is k _ (closed_bare false (closes_one w t false can) l) e)

-- ---------------------------------------------------------------- every step

pub counted_after : (w : State) (s : Step) → IsWellFormed w → IsInductive w → AreCounted w → AreCondvars w
    → AreCounted (after w s)
counted_after w s shape inductive counted condvars = are_counted (after w s) each
  where
    afterwards : IsInductive (after w s)
    afterwards = after_inductive w s shape inductive counted condvars

    stepped : IsTurn (locks_of w) s (step_outcome w s) (locks_of (after w s))
    stepped = after_step w s shape inductive counted condvars

    own : (b : Bool) → is_possible w s ≡ b → IsInductive (if b then state_after_turn w s.thread s.turn else w)
        → Turned (locks_of w) s.thread s.turn (step_outcome w s)
        (locks_of (if b then state_after_turn w s.thread s.turn else w))
        → (l : ℕ) (k : Counted) → counted_on (place_at (if b then state_after_turn w s.thread s.turn else w)
        s.thread) l ≡ Some k
        → IsCountOfHand (if b then state_after_turn w s.thread s.turn else w) s.thread k
    own true can afterwards turned l k e = let h = both (nat_lt s.thread (length w.places))
        (can_turn w s.thread s.turn) can in
        turned_counts w s.thread inductive counted (ltb-true s.thread (length w.places) h.0) s.turn h.1
        afterwards
        (step_outcome w s) turned l k e
    own false cannot afterwards turned l k e = counts_there w s.thread l k counted e

    each : (t l : ℕ) (k : Counted) → counted_on (place_at (after w s) t) l ≡ Some k
        → IsCountOfHand (after w s) t k
    each t l k e = elim (cases_eq t s.thread) [
      | inl mine ↦ subst (λ u. IsCountOfHand (after w s) u k) (sym mine) (own (is_possible w s) refl
          afterwards
          stepped.1 l k (ap (λ u. counted_on (place_at (after w s) u) l) (sym mine) ∙ e))
      | inr ne ↦ another_counts w (after w s) s.thread inductive afterwards counted (after_size w s).threads t
          l k
          (sym (others_keep_it (λ p. counted_on p l) (counted_befallen l) w s t ne) ∙ e) e ne s.turn
          (step_outcome w s) stepped.1
    ]
