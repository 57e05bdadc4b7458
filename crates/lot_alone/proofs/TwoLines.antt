-- A thread that steps alone at a lock of two lines: what each of its acts leads to.
use Rattle.lot_laws.proofs.Imports
use Imports.{ℕ, true, false, Bool, Option, Some, None, if◌then◌else◌, ◌≡◌, ◌+◌, ◌*◌, ◌<◌, ◌⊎◌, inl, inr, List}
use Imports.{[], ◌∷◌, ◌++◌, length, get_or, map, refl, sym, ◌∙◌, ap, arith, get_or-set_same, subst, lt-ltb}
use Imports.{length-map, get_or-map, One, Op, Waiter, Want, apply, waiter, without, times, Outcome, Check}
use Imports.{Reply, Done, Value, Parked, Wakes, TakeWhich, holds, outcome_of, takes_effect, Place, Idle, act_of}
use Imports.{next_place, next_act, Line, Main, Second, State, unlocked, place_at, word_at, section_at, queue_at}
use Imports.{put, state_after_hand_over_by, state_after_operation, state_with_sections, queues_with_last}
use Imports.{state_after_act, state_after_take, state_after_wake, state_after_go, go_outcome, reply_to, can_do}
use Imports.{is_possible, after, step_outcome, go_of, going_outcome, state_after_going, IsWellFormed, SameSize}
use Imports.{after_well_formed, after_size, main_key_there, performed_counts, AreCondvars, AreCounted}
use Imports.{IsInductive, IsSettled, key_of, stood_in, EntersSection, IsBarred, location, location_at}
use Rattle.spec_locks.specs.declared.kinds.Kind.TheVariants as kind
use Rattle.spec_locks.specs.declared.outcomes.Outcome.TheVariants as outcome
use Rattle.steps_base.specs.declared.acts.Act.TheVariants as act
use Rattle.steps_base.specs.declared.acts.Wakes.TheVariants as notes
use Rattle.lot_laws.proofs.calls.OwnPlace.{goes_from_there, told_from_there}
use Rattle.lot_laws.proofs.mutex.FairMutexes.{settled_after}
use Rattle.lot_alone.proofs.Leads.{Leads, leads_barred, leads_step}
use Rattle.lot_laws.proofs.machine.Parts.{nothing_at, next_single, IsSingle}
use Rattle.lot_laws.proofs.hands.Counts.{without_absent}
use Rattle.lot_laws.proofs.condvar.StepsKeep.{after_condvars}
use Rattle.lot_laws.proofs.hands.CountsKept.{counted_after}
use Rattle.lot_laws.proofs.sites.TurnsKept.{after_inductive}

-- how a thread stands that steps alone: its place at the lock, the word, and the waiters there
pub record StepsAlone (w : State) (t l : ℕ) (p : Place) (v : ℕ) (q : Line → List Waiter) : Type 0 where
  pub shape : IsWellFormed w
  pub inductive : IsInductive w
  pub counted : AreCounted w
  pub condvars : AreCondvars w
  pub settled : IsSettled w
  pub thread : t < length w.places
  pub lock : l < length w.locks
  pub place : place_at w t ≡ p
  pub single : IsSingle p
  pub word : word_at w l ≡ v
  pub queue : (m : Line) → queue_at w (key_of l m) ≡ q m

-- the thread is told this, and stands so then
abbrev pub Comes : State → ℕ → ℕ → Place → Outcome → ℕ → (Line → List Waiter) → Type 0
Comes w t l p told v q = (step_outcome w (go_of t) ≡ told) × StepsAlone (after w (go_of t)) t l p v q

key_there : (w : State) (l : ℕ) (m : Line) → IsWellFormed w → l < length w.locks → key_of l m
    < length w.sections
key_there w l Main s lt = main_key_there w l s lt
key_there w l Second s lt = let n : length w.sections ≡ 2 * length w.locks = s.sections in omega arith

module _ (w : State) (t l : ℕ) (p : Place) (v : ℕ) (q : Line → List Waiter) (f : StepsAlone w t l p v q) where
  possible : can_do w (act_of p) ≡ true → is_possible w (go_of t) ≡ true
  possible can = rw (lt-ltb t (length w.places) f.thread, f.place) can

  goes : can_do w (act_of p) ≡ true
      → after w (go_of t) ≡ put (state_after_act w t p (act_of p)) t (next_place p (reply_to w t (act_of p)))
  goes can = ap (λ b. if b then state_after_go w t else w) (possible can) ∙ ap (state_after_going w t) f.place
      ∙ goes_from_there w t p f.place f.single

  told : can_do w (act_of p) ≡ true → step_outcome w (go_of t) ≡ outcome_of
      (next_act p (reply_to w t (act_of p)))
  told can = ap (λ b. if b then go_outcome w t else outcome.NotNow) (possible can)
      ∙ ap (going_outcome w t) f.place ∙ told_from_there w t p f.place f.single

  -- where the act leads to b, and its reply is this
  comes : (b : State) (reply : Reply) (v2 : ℕ) (q2 : Line → List Waiter) → can_do w (act_of p) ≡ true
      → state_after_act w t p (act_of p) ≡ b → reply_to w t (act_of p) ≡ reply → word_at b l ≡ v2
      → ((m : Line) → queue_at b (key_of l m) ≡ q2 m)
      → Comes w t l (next_place p reply) (outcome_of (next_act p reply)) v2 q2
  comes b reply v2 q2 can does heard word queue = (
    told can ∙ ap (λ r. outcome_of (next_act p r)) heard,
    record {
      shape = after_well_formed w (go_of t) f.shape;
      inductive = after_inductive w (go_of t) f.shape f.inductive f.counted f.condvars;
      counted = counted_after w (go_of t) f.shape f.inductive f.counted f.condvars;
      condvars = after_condvars w (go_of t) f.shape f.inductive f.counted f.condvars;
      settled = settled_after w (go_of t) f.shape f.inductive f.counted f.condvars f.settled;
      thread = let size : SameSize w (after w (go_of t)) = after_size w (go_of t) in rw size.threads f.thread;
      lock = let size : SameSize w (after w (go_of t)) = after_size w (go_of t) in rw size.locks f.lock;
      single = next_single p reply f.single;
      place = ap (λ (x : State). place_at x t) led ∙ get_or-set_same b.places t (next_place p reply) Idle
          (rw places f.thread);
      word = ap (λ (x : State). word_at x l) led ∙ word;
      queue = λ m. ap (λ (x : State). queue_at x (key_of l m)) led ∙ queue m;
    },
  )
    where
      led : after w (go_of t) ≡ put b t (next_place p reply)
      led = goes can ∙ (λ i. put (does i) t (next_place p (heard i)))

      places : length b.places ≡ length w.places
      places = ap (λ (x : State). length x.places) (sym does) ∙ (performed_counts w t p (act_of p)).0

  -- a step on the word
  pub word_comes : (x : Op) → act_of p ≡ act.Word l x
      → Comes w t l (next_place p (Value v)) (outcome_of (next_act p (Value v))) (apply x v) q
  word_comes x is = comes (state_after_operation w t p l x) (Value v) (apply x v) q (rw is refl)
      (ap (state_after_act w t p) is) (ap (reply_to w t) is ∙ ap Value f.word)
      (ap (λ y. y.word) (get_or-set_same w.locks l _ (unlocked kind.Mutex) f.lock) ∙ ap (apply x) f.word)
      f.queue

  -- a right is handed over to those in hand, or an exchange fails
  pub hand_comes : (x : Op) → act_of p ≡ act.HandOver l x
      → Comes w t l (next_place p (Value v)) (outcome_of (next_act p (Value v))) (apply x v) q
  hand_comes x is = by_effect (takes_effect x (word_at w l)) refl
    where
      word : (b : Bool) → word_at (state_after_hand_over_by b w t p l x) l ≡ apply x v
      word true = ap (λ y. y.word) (get_or-set_same w.locks l _ (unlocked kind.Mutex) f.lock)
          ∙ ap (apply x) f.word
      word false = ap (λ y. y.word) (get_or-set_same w.locks l _ (unlocked kind.Mutex) f.lock)
          ∙ ap (apply x) f.word

      queue : (b : Bool) (m : Line) → queue_at (state_after_hand_over_by b w t p l x) (key_of l m) ≡ q m
      queue true m = f.queue m
      queue false m = f.queue m

      by_effect : (b : Bool) → takes_effect x (word_at w l) ≡ b
          → Comes w t l (next_place p (Value v)) (outcome_of (next_act p (Value v))) (apply x v) q
      by_effect b e = comes (state_after_hand_over_by b w t p l x) (Value v) (apply x v) q (rw is refl)
          (ap (state_after_act w t p) is ∙ ap (λ b. state_after_hand_over_by b w t p l x) e)
          (ap (reply_to w t) is ∙ ap Value f.word) (word b) (queue b)

  -- the thread was handed the lock
  pub accept_comes : act_of p ≡ act.Accept → Comes w t l (next_place p Done) (outcome_of (next_act p Done)) v
      q
  accept_comes is = comes w Done v q (rw is refl) (ap (state_after_act w t p) is) (ap (reply_to w t) is)
      f.word f.queue

  -- into a section that is free
  pub enter_comes : (m : Line) → act_of p ≡ act.Enter (One (key_of l m)) → section_at w (key_of l m) ≡ None
      → Comes w t l (next_place p Done) (outcome_of (next_act p Done)) v q
  enter_comes m is free = comes (state_with_sections w (One (key_of l m)) (Some t)) Done v q
      (rw (is, free) refl) (ap (state_after_act w t p) is) (ap (reply_to w t) is) f.word f.queue

  -- A thread that leaves the section wakes each thread that it has in hand.
  pub leave_comes : (m : Line) (wakes : Wakes) → act_of p ≡ act.Leave (One (key_of l m)) wakes
      → Comes w t l (next_place p Done) (outcome_of (next_act p Done)) v q
  leave_comes m wakes is = by_wakes wakes is
    where
      by_wakes : (x : Wakes) → act_of p ≡ act.Leave (One (key_of l m)) x
          → Comes w t l (next_place p Done) (outcome_of (next_act p Done)) v q
      by_wakes notes.Nobody is = comes (state_with_sections w (One (key_of l m)) None) Done v q (rw is refl)
          (ap (state_after_act w t p) is) (ap (reply_to w t) is) f.word f.queue
      by_wakes (notes.All note) is = comes (state_after_wake (state_with_sections w (One (key_of l m)) None) t
          (notes.All note)) Done v q (rw is refl) (ap (state_after_act w t p) is) (ap (reply_to w t) is)
          f.word f.queue

  -- the check holds, and it stands somewhere in the lines then
  pub park_comes : (key : ℕ) (check : Check) (x : Want) (b : Bool) → act_of p ≡ act.Park l key check x
      → holds check v ≡ b
      → Comes w t l (next_place p (Parked b)) (outcome_of (next_act p (Parked b))) v
      (λ m. queue_at (if b then record w { queues = queues_with_last w.queues key t x } else w) (key_of l m))
  park_comes key check x b is h = by_check b (ap (holds check) f.word ∙ h)
    where
      by_check : (b : Bool) → holds check (word_at w l) ≡ b → Comes w t l (next_place p (Parked b))
          (outcome_of (next_act p (Parked b))) v
          (λ m. queue_at (if b then record w { queues = queues_with_last w.queues key t x } else w)
          (key_of l m))
      by_check true e = comes (record w { queues = queues_with_last w.queues key t x }) (Parked true) v _
          (rw is refl) (ap (state_after_act w t p) is
          ∙ ap (λ c. if c then record w { queues = queues_with_last w.queues key t x } else w) e)
          (ap (reply_to w t) is ∙ ap Parked e) f.word (λ m. refl)
      by_check false e = comes w (Parked false) v _ (rw is refl) (ap (state_after_act w t p) is
          ∙ ap (λ c. if c then record w { queues = queues_with_last w.queues key t x } else w) e)
          (ap (reply_to w t) is ∙ ap Parked e) f.word (λ m. refl)

  -- the thread leaves its line, or takes others of one
  pub remove_comes : (key : ℕ) → act_of p ≡ act.Remove key
      → Comes w t l (next_place p (reply_to w t (act.Remove key)))
      (outcome_of (next_act p (reply_to w t (act.Remove key)))) v
      (λ m. queue_at (state_after_act w t p (act.Remove key)) (key_of l m))
  remove_comes key is = comes (state_after_act w t p (act.Remove key)) (reply_to w t (act.Remove key)) v _
      (rw is refl) (ap (state_after_act w t p) is) (ap (reply_to w t) is) f.word (λ m. refl)

  pub take_comes : (key : ℕ) (whom : TakeWhich) → act_of p ≡ act.Take key whom
      → word_at (state_after_take w t key whom) l ≡ word_at w l
      → Comes w t l (next_place p (reply_to w t (act.Take key whom)))
      (outcome_of (next_act p (reply_to w t (act.Take key whom)))) v
      (λ m. queue_at (state_after_take w t key whom) (key_of l m))
  take_comes key whom is word = comes (state_after_take w t key whom) (reply_to w t (act.Take key whom)) v _
      (rw is refl) (ap (state_after_act w t p) is) (ap (reply_to w t) is) (word ∙ f.word) (λ m. refl)

  -- a thread that stands in no line is the last of one where it parks
  line_there : (m : Line) → key_of l m < length w.queues
  line_there m = let n : length w.queues ≡ length w.sections = f.shape.queues in let k : key_of l m
      < length w.sections = key_there w l m f.shape f.lock in omega arith

  unmoved : (location p).stands ≡ None → (m : Line) → get_or (map (without t) w.queues) (key_of l m) [] ≡ q m
  unmoved nowhere m = get_or-map (without t) w.queues (key_of l m) []
      ∙ without_absent t (queue_at w (key_of l m)) absent ∙ f.queue m
    where
      absent : times t (queue_at w (key_of l m)) ≡ 0
      absent = f.inductive.stands.lines t l m
          ∙ ap (λ x. stood_in x m) (nothing_at (place_at w t) l (subst IsSingle (sym f.place) f.single)
          (λ x. x.stands) refl (ap (λ x. (location x).stands) f.place ∙ nowhere))

  pub parks_last : (location p).stands ≡ None → (m : Line) (x : Want)
      → queue_at (record w { queues = queues_with_last w.queues (key_of l m) t x }) (key_of l m) ≡ q m
      ++ waiter (key_of l m) t x ∷ []
  parks_last nowhere m x = get_or-set_same (map (without t) w.queues) (key_of l m) _ []
      (rw (length-map w.queues (without t)) (line_there m))
      ∙ ap (λ xs. xs ++ waiter (key_of l m) t x ∷ []) (unmoved nowhere m)

  -- outside of a section that its act enters it finds it free, or is barred
  pub finds_free : (location p).inside ≡ None → (m : Line) → act_of p ≡ act.Enter (One (key_of l m))
      → (section_at w (key_of l m) ≡ None) ⊎ IsBarred w t
  finds_free outside m is = by_who (section_at w (key_of l m)) refl
    where
      by_who : (who : Option ℕ) → section_at w (key_of l m) ≡ who → (section_at w (key_of l m) ≡ None)
          ⊎ IsBarred w t
      by_who None e = inl e
      by_who (Some u) e = inr (record {
        lock = l;
        line = m;
        other = u;
        enters = subst (EntersSection (key_of l m)) (sym (ap act_of f.place ∙ is)) refl;
        inside = e;
        another = λ mine. let within : (location_at (place_at w t) l).inside ≡ Some m =
            (f.inductive.stands.sections t l m).1 (e ∙ ap Some mine) in
            let out : (location_at (place_at w t) l).inside ≡ None = nothing_at (place_at w t) l
            (subst IsSingle (sym f.place) f.single) (λ x. x.inside) refl
            (ap (λ x. (location x).inside) f.place ∙ outside) in cc;
      })

  -- the thread goes on from there, or is barred
  pub leads_into : (P : State → Outcome → Type 0) (k : ℕ) (m : Line) → act_of p ≡ act.Enter (One (key_of l m))
      → (location p).inside ≡ None → outcome_of (next_act p Done) ≡ outcome.Step
      → (StepsAlone (after w (go_of t)) t l (next_place p Done) v q → Leads k (after w (go_of t)) t P)
      → Leads (k + 1) w t P
  leads_into P k m is outside steps on = elim (finds_free outside m is) [
    | inl free ↦ let c = enter_comes m is free in leads_step w t P k (c.0 ∙ steps) (on c.1)
    | inr barred ↦ leads_barred w t P (k + 1) barred
  ]
