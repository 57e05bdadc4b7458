-- A step changes one word at most, or queues whose sections its thread is in.
use Rattle.lot_laws.proofs.Imports
use Imports.{subst, sym, ℕ, Bool, true, false, Option, Some, None, if◌then◌else◌, ◌≡◌, ◌<◌, ◌⊎◌, inl, inr, List}
use Imports.{[], ◌∷◌, ◌++◌, get_or, set, map, drop, refl, ◌∙◌, ap, get_or-set_other, Value, word_after}
use Imports.{state_after_close, state_after_operation, closed_place, cases_eq, ltb-true, Keys, One, Two, waiter}
use Imports.{without, first_of, Act, Wakes, Late, Turn, Step, Place, lock_in, act_of, called_lock, next_place}
use Imports.{first_place, respins_from, late_key, state_after_hand_over_by, State, left_in_line}
use Imports.{state_after_requeue}
use Imports.{state_after_take, can_turn, unlocked, place_at, word_at, queue_at, section_at, put}
use Imports.{state_with_sections, queues_with_last, queues_without_first, state_after_taking, state_after_wake}
use Imports.{state_after_act, state_after_look, state_after_late_on, go_reply, state_after_turn, is_possible}
use Imports.{after, kind_at, both, location, FitsItsLock, IsInductive, CondvarPlace, Condvar, Requeue, Want}
use Imports.{Waiter, without_lock_picked, TakeWhich, takes_effect, holds, ChangesOneThing, KeepsWordsAndQueues}
use Imports.{TouchesOnlyByGoing}
use Rattle.lot_laws.proofs.calls.Closures.{RunsOne, closes_one}
use Rattle.lot_laws.proofs.calls.Closings.{afterwards, closing, goes_there, is_after}
use Rattle.lot_laws.proofs.calls.Looking.{closing_here}
use Rattle.lot_laws.proofs.calls.OwnPlace.{goes_from_there}
use Rattle.core_base.specs.declared.ops.Op as op
use Rattle.spec_locks.specs.declared.kinds.Kind.TheVariants as kind
use Rattle.steps_base.specs.declared.acts.Act.TheVariants as act
use Rattle.steps_base.specs.declared.acts.Wakes.TheVariants as wakes
use Rattle.spec_locks.specs.declared.calls.Turn.TheVariants as turn
use Rattle.lot_laws.proofs.calls.Looking.{looks_untouched}
use Rattle.std.specs.Prelude.{nat_lt, length}
use Rattle.lot_laws.proofs.condvar.Sections.{IsActOfTwo, condvar_lines, holds_key, left_at}
use Rattle.lot_laws.proofs.machine.Parts.{IsOf, IsOfTwo, IsSingle, calls_none, fits_two, of_own}
use Rattle.lot_laws.proofs.machine.Parts.{single_or_two}
use Rattle.lot_laws.proofs.promises.LineActs.{line_act, holds_line, removed_at}
use Rattle.lot_laws.proofs.machine.PlaceTest.{IsLineAct}
use Rattle.steps_base.specs.declared.acts.TakeWhich.TheVariants as whom

-- a thread that looks at the word once more changes none
spun_touches : (w : State) (t : ℕ) → t < length w.places → (o : Option Place) → respins_from (place_at w t)
    ≡ o
    → KeepsWordsAndQueues w (state_after_look w t o)
spun_touches w t there None is = (λ l. refl, λ key. refl)
spun_touches w t there (Some q) is = looks_untouched w t there q is

-- words and queues are as they were
abbrev Same : State → State → Type 0
Same w v = ((l : ℕ) → word_at v l ≡ word_at w l) × ((key : ℕ) → queue_at v key ≡ queue_at w key)

same_one : (w v : State) (t : ℕ) → Same w v → ChangesOneThing w t v
same_one w v t h = inl (0, (λ k ne. h.0 k), h.1)

filled_same : (w : State) (keys : Keys) (who : Option ℕ) → Same w (state_with_sections w keys who)
filled_same w (One key) who = (λ l. refl, λ key. refl)
filled_same w (Two first second) who = (λ l. refl, λ key. refl)

left_same : (w : State) (t : ℕ) (keys : Keys) (x : Wakes)
    → Same w (state_after_wake (state_with_sections w keys None) t x)
left_same w t (One key) wakes.Nobody = (λ l. refl, λ key. refl)
left_same w t (One key) (wakes.All note) = (λ l. refl, λ key. refl)
left_same w t (Two first second) wakes.Nobody = (λ l. refl, λ key. refl)
left_same w t (Two first second) (wakes.All note) = (λ l. refl, λ key. refl)

-- a thread that goes on changes its place only, beside what its act does
put_one : (w v : State) (t u : ℕ) (p : Place) → ChangesOneThing w t v → ChangesOneThing w t (put v u p)
put_one w v t u p (inl h) = inl h
put_one w v t u p (inr h) = inr h

module _ (w : State) (t : ℕ) (inductive : IsInductive w) (there : t < length w.places) where
  word_one : (p : Place) (l : ℕ) (f : op.Op) → ChangesOneThing w t (state_after_operation w t p l f)
  word_one p l f = inl (
    l,
    (λ k ne. ap (λ x. x.word) (get_or-set_other w.locks l k _
        (unlocked kind.Mutex) ne)),
    λ key. refl,
  )

  given_one : (p : Place) (l : ℕ) (f : op.Op) (b : Bool)
      → ChangesOneThing w t (state_after_hand_over_by b w t p l f)
  given_one p l f false = word_one p l f
  given_one p l f true = inl (
    l,
    (λ k ne. ap (λ x. x.word) (get_or-set_other w.locks l k _ (unlocked kind.Mutex) ne)),
    λ key. refl,
  )

  stays : ChangesOneThing w t w
  stays = same_one w w t (λ l. refl, λ key. refl)

  filled_one : (keys : Keys) (who : Option ℕ) → ChangesOneThing w t (state_with_sections w keys who)
  filled_one keys who = same_one w (state_with_sections w keys who) t (filled_same w keys who)

  left_one : (keys : Keys) (x : Wakes)
      → ChangesOneThing w t (state_after_wake (state_with_sections w keys None) t x)
  left_one keys x = same_one w (state_after_wake (state_with_sections w keys None) t x) t
      (left_same w t keys x)

  -- a queue is set whose section the thread is in
  set_at : (key : ℕ) (queues : List (List Waiter)) (q : List Waiter) → section_at w key ≡ Some t
      → ((k : ℕ) → (get_or queues k [] ≡ queue_at w k) ⊎ (section_at w k ≡ Some t))
      → (k : ℕ) → (get_or (set queues key q) k [] ≡ queue_at w k) ⊎ (section_at w k ≡ Some t)
  set_at key queues q held others k = elim (cases_eq k key) [
    | inl e ↦ inr (rw e held)
    | inr ne ↦ elim (others k) [
      | inl h ↦ inl (get_or-set_other queues key k q [] ne ∙ h)
      | inr h ↦ inr h
    ]
  ]

  park_one : (key : ℕ) (x : Want) → section_at w key ≡ Some t
      → ((k : ℕ) → (get_or (map (without t) w.queues) k [] ≡ queue_at w k) ⊎ (section_at w k ≡ Some t))
      → (b : Bool) → ChangesOneThing w t (if b then record w { queues = queues_with_last w.queues key t x }
      else w)
  park_one key x held others false = stays
  park_one key x held others true =
      inr (
        (λ k. refl),
        set_at key (map (without t) w.queues) (get_or (map (without t) w.queues) key []
            ++ waiter key t x ∷ []) held others,
      )

  take_first : (key : ℕ) → section_at w key ≡ Some t → (o : Option ℕ)
      → ChangesOneThing w t (state_after_taking (record w { queues = queues_without_first w.queues key }) t o)
  take_first key held None = inr (
    (λ k. refl),
    set_at key w.queues (drop 1 (queue_at w key)) held
        (λ k. inl refl),
  )
  take_first key held (Some u) = inr (
    (λ k. refl),
    set_at key w.queues (drop 1 (queue_at w key)) held
        (λ k. inl refl),
  )

  take_one : (key : ℕ) → section_at w key ≡ Some t → (x : TakeWhich)
      → ChangesOneThing w t (state_after_take w t key x)
  take_one key held whom.First = take_first key held (first_of (queue_at w key))
  take_one key held (whom.Picked start recursive) =
      inr (
        (λ k. refl),
        set_at key w.queues (without_lock_picked start recursive key (queue_at w key)) held
            (λ k. inl refl),
      )
  take_one key held whom.All = inr ((λ k. refl), set_at key w.queues [] held (λ k. inl refl))

  -- for every act, by the line that it touches
  module _ (l : ℕ) (is_of : IsOf l (place_at w t)) where
    act_one : (p : Place) (a : Act) → IsLineAct l (location (place_at w t)) a
        → ChangesOneThing w t (state_after_act w t p a)
    act_one p (act.Word k f) h = word_one p k f
    act_one p (act.HandOver k f) h = given_one p k f (takes_effect f (word_at w k))
    act_one p (act.Enter keys) h = filled_one keys (Some t)
    act_one p (act.Park k key check x) h =
        park_one key x (holds_line w t l inductive is_of key h.0)
        (removed_at w t l inductive is_of h.0.0 h.0.1 h.1) (holds check (word_at w k))
    act_one p (act.Stand key x) h = park_one key x (holds_line w t l inductive is_of key h.0)
        (removed_at w t l inductive is_of h.0.0 h.0.1 h.1) true
    act_one p (act.Take key x) h = take_one key (holds_line w t l inductive is_of key h) x
    act_one p (act.Requeue from to how) h = absurd h
    act_one p (act.Remove key) h =
        inr ((λ k. refl), removed_at w t l inductive is_of h.0.0 h.0.1 h.1)
    act_one p (act.Leave keys x) h = left_one keys x
    act_one p act.Rest h = stays
    act_one p act.Sleep h = stays
    act_one p act.Accept h = stays
    act_one p (act.Closure state) h = stays
    act_one p (act.End answer) h = stays

  one_gone : IsSingle (place_at w t) → (o : Option ℕ) → called_lock (place_at w t) ≡ o
      → ChangesOneThing w t (state_after_act w t (place_at w t) (act_of (place_at w t)))
  one_gone single (Some l) own = act_one l (of_own l (place_at w t) single own) (place_at w t)
      (act_of (place_at w t)) (line_act (place_at w t) l single own)
  one_gone single None none = subst (λ p. ChangesOneThing w t (state_after_act w t p (act_of p)))
      (sym (calls_none (place_at w t) none)) stays

  -- in a call of a condition variable, by the sections that it is inside
  module _ (c : ℕ) (at : CondvarPlace) (is : place_at w t ≡ Condvar c at) (fits : FitsItsLock w
      (Condvar c at)) where
    requeued_one : (from to : ℕ) (how : Requeue) → section_at w from ≡ Some t → section_at w to ≡ Some t
        → ChangesOneThing w t (state_after_requeue w t from to how)
    requeued_one from to how held_from held_to =
        inr (
          (λ k. refl),
          set_at to (set w.queues from (left_in_line how (queue_at w from))) _ held_to
              (set_at from w.queues (left_in_line how (queue_at w from)) held_from (λ k. inl refl)),
        )

    act_of_two : (p : Place) (a : Act) → IsActOfTwo c at a → ChangesOneThing w t (state_after_act w t p a)
    act_of_two p (act.Word k f) h = word_one p k f
    act_of_two p (act.HandOver k f) h = given_one p k f (takes_effect f (word_at w k))
    act_of_two p (act.Enter keys) h = filled_one keys (Some t)
    act_of_two p (act.Park k key check x) h =
        park_one key x (holds_key w t c at inductive is fits key h.0) (left_at w t c at inductive is fits key
        h.1
        h.0) (holds check (word_at w k))
    act_of_two p (act.Stand key x) h =
        park_one key x (holds_key w t c at inductive is fits key h.0)
        (left_at w t c at inductive is fits key h.1 h.0) true
    act_of_two p (act.Take key x) h = take_one key (holds_key w t c at inductive is fits key h) x
    act_of_two p (act.Requeue from to how) h =
        requeued_one from to how (holds_key w t c at inductive is fits from h.0)
        (holds_key w t c at inductive is fits to h.1)
    act_of_two p (act.Remove key) h =
        inr ((λ k. refl), left_at w t c at inductive is fits key h.1 h.0)
    act_of_two p (act.Leave keys x) h = left_one keys x
    act_of_two p act.Rest h = stays
    act_of_two p act.Sleep h = stays
    act_of_two p act.Accept h = stays
    act_of_two p (act.Closure state) h = stays
    act_of_two p (act.End answer) h = stays

  two_gone : (two : IsOfTwo (place_at w t))
      → ChangesOneThing w t (state_after_act w t (place_at w t) (act_of (place_at w t)))
  two_gone two = let fits = fits_two w t inductive two in
      act_of_two two.lock two.at two.is fits (place_at w t) (act_of (place_at w t))
      (subst (λ p. IsActOfTwo two.lock two.at (act_of p)) (sym two.is)
      (condvar_lines two.lock two.at fits.reached))

  gone_one : (o : Option ℕ) → called_lock (place_at w t) ≡ o
      → ChangesOneThing w t (state_after_act w t (place_at w t) (act_of (place_at w t)))
  gone_one o e = elim (single_or_two (place_at w t)) [
    | inl single ↦ one_gone single o e
    | inr two ↦
        two_gone two
  ]

  spin_one : (o : Option Place) → respins_from (place_at w t) ≡ o
      → ChangesOneThing w t (state_after_look w t o)
  spin_one o is = same_one w (state_after_look w t o) t (spun_touches w t there o is)

  late_one : (o : Option ℕ) → ChangesOneThing w t (state_after_late_on w t o)
  late_one None = stays
  late_one (Some key) = put_one w (state_with_sections w (One key) (Some t)) t t
      (next_place (place_at w t) Late) (filled_one (One key) (Some t))

  -- after its closure it swaps the word of its `Once`
  closed_one : (succeeded : Bool) → RunsOne (place_at w t)
      → ChangesOneThing w t (state_after_close w t succeeded)
  closed_one succeeded one = subst (ChangesOneThing w t) (sym (goes_there w t there succeeded one
      ∙ goes_from_there (closing w t there succeeded one) t swaps (closing_here w t there succeeded one
      ∙ is_after w t there succeeded one) tt))
      (put_one w (put swapped t (closed_place w t succeeded)) t t
      (next_place swaps (Value (word_at w one.lock))) (put_one w swapped t t (closed_place w t succeeded)
      (word_one swaps one.lock (op.TheVariants.Swap (word_after succeeded)))))
    where
      swaps : Place
      swaps = afterwards w t there succeeded one

      swapped : State
      swapped = state_after_operation w t swaps one.lock (op.TheVariants.Swap (word_after succeeded))

  turned_one : (x : Turn) → can_turn w t x ≡ true → ChangesOneThing w t (state_after_turn w t x)
  turned_one (turn.Begin c) can = put_one w w t t (first_place (kind_at w (lock_in c)) c) stays
  turned_one turn.Go can = let acted = state_after_act w t (place_at w t) (act_of (place_at w t))
      in
      put_one w acted t t (next_place (place_at acted t) (go_reply w t))
      (gone_one (called_lock (place_at w t)) refl)
  turned_one turn.Spin can = spin_one (respins_from (place_at w t)) refl
  turned_one turn.Late can = late_one (late_key (place_at w t))
  turned_one turn.Ok can = closed_one true (closes_one w t true can)
  turned_one turn.Err can = closed_one false (closes_one w t false can)

pub one_thing : (w : State) (s : Step) → IsInductive w → ChangesOneThing w s.thread (after w s)
one_thing w s inductive = either (is_possible w s) refl
  where
    either : (b : Bool) → is_possible w s ≡ b → ChangesOneThing w s.thread
        (if b then state_after_turn w s.thread s.turn else w)
    either true can = let parts = both (nat_lt s.thread (length w.places)) (can_turn w s.thread s.turn) can in
        turned_one w s.thread inductive (ltb-true s.thread (length w.places) parts.0) s.turn parts.1
    either false can = same_one w w s.thread (λ k. refl, λ key. refl)

-- ---------------------------------------------------------------- turns that touch nothing

late_touches : (w : State) (t : ℕ) (o : Option ℕ) → KeepsWordsAndQueues w (state_after_late_on w t o)
late_touches w t None = (λ l. refl, λ key. refl)
late_touches w t (Some key) = (λ l. refl, λ key. refl)

turned_touches : (w : State) (t : ℕ) (x : Turn) → t < length w.places → TouchesOnlyByGoing w x
    (state_after_turn w t x)
turned_touches w t (turn.Begin c) there = (λ l. refl, λ key. refl)
turned_touches w t turn.Spin there = spun_touches w t there (respins_from (place_at w t)) refl
turned_touches w t turn.Late there = late_touches w t (late_key (place_at w t))
turned_touches w t x there = tt

untouched : (w : State) (x : Turn) → TouchesOnlyByGoing w x w
untouched w (turn.Begin c) = (λ l. refl, λ key. refl)
untouched w turn.Spin = (λ l. refl, λ key. refl)
untouched w turn.Late = (λ l. refl, λ key. refl)
untouched w x = tt

pub touches : (w : State) (s : Step) → TouchesOnlyByGoing w s.turn (after w s)
touches w s = either (is_possible w s) refl
  where
    either : (b : Bool) → is_possible w s ≡ b → TouchesOnlyByGoing w s.turn
        (if b then state_after_turn w s.thread s.turn else w)
    either true can = turned_touches w s.thread s.turn (ltb-true s.thread (length w.places)
        (both (nat_lt s.thread (length w.places)) (can_turn w s.thread s.turn) can).0)
    either false cannot = untouched w s.turn
