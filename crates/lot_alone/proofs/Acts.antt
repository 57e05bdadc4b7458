-- A thread that steps alone: what each of its acts leads to, of the lock that it calls.
use Rattle.lot_laws.proofs.Imports
use Imports.{subst, ℕ, true, false, Option, Some, None, if◌then◌else◌, ◌==◌, ◌≡◌, ◌+◌, ◌*◌, ◌<◌, List, [], ◌∷◌}
use Imports.{◌++◌, length, get_or, map, drop, is_none, refl, sym, ◌∙◌, ap, get_or-set_same, length-set, lt-ltb}
use Imports.{length-map, get_or-map, One, Note, Op, Waiter, Exclusive, apply, waiter, without, first_of, WordIs}
use Imports.{Done, Value, Parked, Took, Removed, TakenBy, Woken, Outcome, Place, Idle, Mutex, MutexPlace}
use Imports.{takes_effect, outcome_of, act_of, next_place, next_act, state_after_hand_over_by, hand_over_told}
use Imports.{State, unlocked, place_at, word_at, owners_at, section_at, queue_at, put, state_after_operation}
use Imports.{state_with_sections, queues_with_last, queues_without, queues_without_first, state_after_taking}
use Imports.{state_after_reply, state_after_act, reply_to, can_do, state_after_go, go_of, is_possible, after}
use Imports.{step_outcome, go_outcome, place_after_telling, state_after_telling, state_after_hand_over}
use Imports.{owners_handed_over, is_there, going_outcome, state_after_going, IsWellFormed, SameSize, owner_at}
use Imports.{Main, EntersSection, location, location_at, AreCondvars, AreCounted, IsInductive}
use Imports.{after_well_formed, after_size, main_key_there, main_line_there, Owners, with_exclusive}
use Imports.{owners_after}
use Rattle.spec_locks.specs.declared.kinds.Kind.TheVariants as kind
use Rattle.steps_base.specs.declared.acts.Act.TheVariants as act
use Rattle.steps_base.specs.declared.acts.Wakes.TheVariants as wakes
use Rattle.spec_locks.specs.declared.outcomes.Outcome.TheVariants as outcome
use Rattle.steps_base.specs.declared.acts.TakeWhich.TheVariants as whoms
use Rattle.lot_laws.proofs.machine.Parts.{IsSingle, next_single, nothing_at}
use Rattle.lot_alone.proofs.Leads.{Leads, leads_barred, leads_step}
use Rattle.lot_laws.proofs.calls.OwnPlace.{goes_from_there, told_from_there}
use Rattle.lot_laws.proofs.condvar.StepsKeep.{after_condvars}
use Rattle.lot_laws.proofs.hands.CountsKept.{counted_after}
use Rattle.lot_laws.proofs.sites.TurnsKept.{after_inductive}
use Rattle.lot_laws.proofs.machine.AtPlaces.{same_without}
use Rattle.lot_laws.proofs.promises.ExclusiveOwners.{mutex_is, mutex_owner_after}

-- ---------------------------------------------------------------- acts

-- where a thread stands in a call of a lock, the lock's word and owner, the thread inside its section, and
-- its queue
pub record Facing (w : State) (t l : ℕ) (p : Place) (v : ℕ) (o : Option ℕ) (s : Option ℕ)
    (q : List Waiter) : Type 0 where
  pub shape : IsWellFormed w
  pub inductive : IsInductive w
  pub counted : AreCounted w
  pub condvars : AreCondvars w
  pub thread : t < length w.places
  pub lock : l < length w.locks
  pub place : place_at w t ≡ p
  pub single : IsSingle p
  pub word : word_at w l ≡ v
  pub owner : owner_at w l ≡ o
  pub section : section_at w (2 * l) ≡ s
  pub queue : queue_at w (2 * l) ≡ q

-- tells what a step leads to, and what the thread is told
abbrev pub Faces : State → ℕ → ℕ → Place → Outcome → ℕ → Option ℕ → Option ℕ → List Waiter → Type 0
Faces w t l p told v o s q = (step_outcome w (go_of t) ≡ told) × Facing (after w (go_of t)) t l p v o s q

module _ (w : State) (t l : ℕ) (p : Place) (v : ℕ) (o s : Option ℕ) (q : List Waiter)
    (f : Facing w t l p v o s q) where
  possible : can_do w (act_of p) ≡ true → is_possible w (go_of t) ≡ true
  possible can = rw (lt-ltb t (length w.places) f.thread, f.place) can

  goes : can_do w (act_of p) ≡ true → after w (go_of t) ≡ state_after_go w t
  goes can = ap (λ b. if b then state_after_go w t else w) (possible can)

  told : can_do w (act_of p) ≡ true → step_outcome w (go_of t) ≡ outcome_of
      (next_act p (reply_to w t (act_of p)))
  told can = ap (λ b. if b then go_outcome w t else outcome.NotNow) (possible can)
      ∙ ap (going_outcome w t) f.place ∙ told_from_there w t p f.place f.single

  pub act_led : can_do w (act_of p) ≡ true
      → after w (go_of t) ≡ put (state_after_act w t p (act_of p)) t (next_place p (reply_to w t (act_of p)))
  act_led can = goes can ∙ ap (state_after_going w t) f.place ∙ goes_from_there w t p f.place f.single

  -- tells what it leads to, where the act leads to b
  faces : (b : State) (p2 : Place) (v2 : ℕ) (o2 s2 : Option ℕ) (q2 : List Waiter) → can_do w (act_of p) ≡ true
      → state_after_act w t p (act_of p) ≡ b → length b.places ≡ length w.places
      → next_place p (reply_to w t (act_of p)) ≡ p2 → word_at b l ≡ v2 → owner_at b l ≡ o2
      → section_at b (2 * l) ≡ s2
      → queue_at b (2 * l) ≡ q2 → Facing (after w (go_of t)) t l p2 v2 o2 s2 q2
  faces b p2 v2 o2 s2 q2 can does places to word owner section queue = record {
    shape = after_well_formed w (go_of t) f.shape;
    inductive = after_inductive w (go_of t) f.shape f.inductive f.counted f.condvars;
    counted = counted_after w (go_of t) f.shape f.inductive f.counted f.condvars;
    condvars = after_condvars w (go_of t) f.shape f.inductive f.counted f.condvars;
    thread = let size : SameSize w (after w (go_of t)) = after_size w (go_of t) in rw size.threads f.thread;
    lock = let size : SameSize w (after w (go_of t)) = after_size w (go_of t) in rw size.locks f.lock;
    single = subst IsSingle to (next_single p (reply_to w t (act_of p)) f.single);
    place = ap (λ (x : State). place_at x t) led ∙ get_or-set_same b.places t p2 Idle (rw places f.thread);
    word = ap (λ (x : State). word_at x l) led ∙ word;
    owner = ap (λ (x : State). owner_at x l) led ∙ owner;
    section = ap (λ (x : State). section_at x (2 * l)) led ∙ section;
    queue = ap (λ (x : State). queue_at x (2 * l)) led ∙ queue;
  }
    where
      led : after w (go_of t) ≡ put b t p2
      led = act_led can ∙ (λ i. put (does i) t (to i))

  pub hand_faces : (x : Op) (u : ℕ) → takes_effect x (word_at w l) ≡ true → act_of p
      ≡ act.HandOver l x
      → ((o : Owners) → owners_handed_over w t l o ≡ with_exclusive o (Some u))
      → Faces w t l (next_place p (Value v)) (outcome_of (next_act p (Value v))) (apply x v) (Some u) s q
  hand_faces x u takes is heir = (
    told can ∙ ap (λ r. outcome_of (next_act p r)) heard,
    faces (state_after_telling (state_after_hand_over w t p l x) t (hand_over_told w t l))
        (next_place p (Value v)) (apply x v) (Some u) s q can (ap (state_after_act w t p) is
        ∙ ap (λ b. state_after_hand_over_by b w t p l x) takes)
        (length-map w.places (place_after_telling t (hand_over_told w t l))) (ap (next_place p) heard)
        (ap (λ y. y.word) (get_or-set_same w.locks l _ (unlocked kind.Mutex) f.lock)
        ∙ ap (apply x) f.word)
        (ap (λ y. y.owners.exclusive) (get_or-set_same w.locks l _ (unlocked kind.Mutex) f.lock)
        ∙ ap (λ (o : Owners). o.exclusive) (heir (owners_after p t (word_at w l) (owners_at w l))))
        f.section f.queue,
  )
    where
      can : can_do w (act_of p) ≡ true
      can = rw is refl

      heard : reply_to w t (act_of p) ≡ Value v
      heard = ap (reply_to w t) is ∙ ap Value f.word

  pub accept_faces : act_of p ≡ act.Accept → Faces w t l (next_place p Done)
      (outcome_of (next_act p Done)) v o s q
  accept_faces is = (
    told can ∙ ap (λ r. outcome_of (next_act p r)) heard,
    faces w (next_place p Done) v o s q can (ap (state_after_act w t p) is) refl (ap (next_place p) heard)
        f.word f.owner f.section f.queue,
  )
    where
      can : can_do w (act_of p) ≡ true
      can = rw is refl

      heard : reply_to w t (act_of p) ≡ Done
      heard = ap (reply_to w t) is

  pub enter_faces : act_of p ≡ act.Enter (One (2 * l)) → s ≡ None
      → Faces w t l (next_place p Done) (outcome_of (next_act p Done)) v o (Some t) q
  enter_faces is free = (
    told can ∙ ap (λ r. outcome_of (next_act p r)) heard,
    faces (state_with_sections w (One (2 * l)) (Some t)) (next_place p Done) v o (Some t) q can
        (ap (state_after_act w t p) is) refl (ap (next_place p) heard) f.word f.owner
        (get_or-set_same w.sections (2 * l) (Some t) None (main_key_there w l f.shape f.lock)) f.queue,
  )
    where
      can : can_do w (act_of p) ≡ true
      can = rw is (ap is_none (f.section ∙ free))

      heard : reply_to w t (act_of p) ≡ Done
      heard = ap (reply_to w t) is

  -- outside of the section it enters it, or is barred
  pub faces_into : (P : State → Outcome → Type 0) (k : ℕ) → act_of p ≡ act.Enter (One (2 * l))
      → (location p).inside ≡ None → outcome_of (next_act p Done) ≡ outcome.Step
      → (Facing (after w (go_of t)) t l (next_place p Done) v o (Some t) q → Leads k (after w (go_of t)) t P)
      → Leads (k + 1) w t P
  faces_into P k is outside steps on = by_who s f.section
    where
      by_who : (who : Option ℕ) → section_at w (2 * l) ≡ who → Leads (k + 1) w t P
      by_who None e = let h = enter_faces is (sym f.section ∙ e) in leads_step w t P k (h.0 ∙ steps) (on h.1)
      by_who (Some u) e = leads_barred w t P (k + 1) (record {
        lock = l;
        line = Main;
        other = u;
        enters = subst (EntersSection (2 * l)) (sym (ap act_of f.place ∙ is)) refl;
        inside = e;
        another = λ mine. let within : (location_at (place_at w t) l).inside ≡ Some Main =
            (f.inductive.stands.sections t l Main).1 (e ∙ ap Some mine) in
            let out : (location_at (place_at w t) l).inside ≡ None = nothing_at (place_at w t) l
            (subst IsSingle (sym f.place) f.single) (λ x. x.inside) refl
            (ap (λ x. (location x).inside) f.place ∙ outside) in cc;
      })

  pub leave_faces : act_of p ≡ act.Leave (One (2 * l)) wakes.Nobody
      → Faces w t l (next_place p Done) (outcome_of (next_act p Done)) v o None q
  leave_faces is = (
    told can ∙ ap (λ r. outcome_of (next_act p r)) heard,
    faces (state_with_sections w (One (2 * l)) None) (next_place p Done) v o None q can
        (ap (state_after_act w t p) is) refl (ap (next_place p) heard) f.word f.owner
        (get_or-set_same w.sections (2 * l) None None (main_key_there w l f.shape f.lock)) f.queue,
  )
    where
      can : can_do w (act_of p) ≡ true
      can = rw is refl

      heard : reply_to w t (act_of p) ≡ Done
      heard = ap (reply_to w t) is

  pub wake_faces : (note : Note) → act_of p ≡ act.Leave (One (2 * l)) (wakes.All note)
      → Faces w t l (next_place p Done) (outcome_of (next_act p Done)) v o None q
  wake_faces note is = (
    told can ∙ ap (λ r. outcome_of (next_act p r)) heard,
    faces (state_after_telling (state_with_sections w (One (2 * l)) None) t (Woken note)) (next_place p Done)
        v o None q can (ap (state_after_act w t p) is) (length-map w.places
        (place_after_telling t (Woken note))) (ap (next_place p) heard) f.word f.owner
        (get_or-set_same w.sections (2 * l) None None (main_key_there w l f.shape f.lock)) f.queue,
  )
    where
      can : can_do w (act_of p) ≡ true
      can = rw is refl

      heard : reply_to w t (act_of p) ≡ Done
      heard = ap (reply_to w t) is

  pub park_faces : act_of p ≡ act.Park l (2 * l) (WordIs 3) Exclusive → v ≡ 3
      → (location p).stands ≡ None
      → Faces w t l (next_place p (Parked true)) (outcome_of (next_act p (Parked true))) v o s
      (q ++ waiter (2 * l) t Exclusive ∷ [])
  park_faces is full nowhere = (
    told can ∙ ap (λ r. outcome_of (next_act p r)) heard,
    faces (record w { queues = queues_with_last w.queues (2 * l) t Exclusive }) (next_place p (Parked true)) v
        o s (q ++ waiter (2 * l) t Exclusive ∷ []) can
        (ap (state_after_act w t p) is
        ∙ ap (λ b. if b then record w { queues = queues_with_last w.queues (2 * l) t Exclusive } else w)
        is_full) refl (ap (next_place p) heard) f.word f.owner f.section queue,
  )
    where
      can : can_do w (act_of p) ≡ true
      can = rw is refl

      is_full : (word_at w l == 3) ≡ true
      is_full = rw (f.word, full) refl

      heard : reply_to w t (act_of p) ≡ Parked true
      heard = ap (reply_to w t) is ∙ ap Parked is_full

      queue : get_or (queues_with_last w.queues (2 * l) t Exclusive) (2 * l) [] ≡ q ++ waiter (2 * l) t
          Exclusive ∷ []
      queue = get_or-set_same (map (without t) w.queues) (2 * l) _ [] (rw (length-map w.queues (without t))
          (main_line_there w l f.shape f.lock))
          ∙ ap (λ x. x ++ waiter (2 * l) t Exclusive ∷ [])
          (same_without w f.inductive t (subst IsSingle (sym f.place) f.single)
          (ap (λ x. (location x).stands) f.place ∙ nowhere) l ∙ f.queue)

  -- the word was another
  pub unparked_faces : act_of p ≡ act.Park l (2 * l) (WordIs 3) Exclusive → (v == 3) ≡ false
      → Faces w t l (next_place p (Parked false)) (outcome_of (next_act p (Parked false))) v o s q
  unparked_faces is other = (
    told can ∙ ap (λ r. outcome_of (next_act p r)) heard,
    faces w (next_place p (Parked false)) v o s q can (ap (state_after_act w t p) is
        ∙ ap (λ b. if b then record w { queues = queues_with_last w.queues (2 * l) t Exclusive } else w)
        is_other) refl (ap (next_place p) heard) f.word f.owner f.section f.queue,
  )
    where
      can : can_do w (act_of p) ≡ true
      can = rw is refl

      is_other : (word_at w l == 3) ≡ false
      is_other = rw f.word other

      heard : reply_to w t (act_of p) ≡ Parked false
      heard = ap (reply_to w t) is ∙ ap Parked is_other

  pub remove_faces : act_of p ≡ act.Remove (2 * l)
      → Faces w t l (next_place p (Removed (length (without t q) == 0)))
      (outcome_of (next_act p (Removed (length (without t q) == 0)))) v o s (without t q)
  remove_faces is = (
    told can ∙ ap (λ r. outcome_of (next_act p r)) heard,
    faces (record w { queues = queues_without w.queues t })
        (next_place p (Removed (length (without t q) == 0))) v o s (without t q) can
        (ap (state_after_act w t p) is) refl (ap (next_place p) heard) f.word f.owner f.section
        (get_or-map (without t) w.queues (2 * l) [] ∙ ap (without t) f.queue),
  )
    where
      can : can_do w (act_of p) ≡ true
      can = rw is refl

      heard : reply_to w t (act_of p) ≡ Removed (length (without t q) == 0)
      heard = ap (reply_to w t) is ∙ ap (λ x. Removed (length (without t x) == 0)) f.queue

  pub take_faces : act_of p ≡ act.Take (2 * l) whoms.First
      → Faces w t l (next_place p (Took (is_there (first_of q)) (length (drop 1 q) == 0)))
      (outcome_of (next_act p (Took (is_there (first_of q)) (length (drop 1 q) == 0)))) v o s (drop 1 q)
  take_faces is = by_first (first_of q) refl
    where
      can : can_do w (act_of p) ≡ true
      can = rw is refl

      heard : reply_to w t (act_of p) ≡ Took (is_there (first_of q)) (length (drop 1 q) == 0)
      heard = ap (reply_to w t) is ∙ ap (λ x. Took (is_there (first_of x)) (length (drop 1 x) == 0)) f.queue

      queue : get_or (queues_without_first w.queues (2 * l)) (2 * l) [] ≡ drop 1 q
      queue = get_or-set_same w.queues (2 * l) _ [] (main_line_there w l f.shape f.lock) ∙ ap (drop 1) f.queue

      does : (x : Option ℕ) → first_of q ≡ x → state_after_act w t p (act_of p) ≡ state_after_taking
          (record w { queues = queues_without_first w.queues (2 * l) }) t x
      does x e = ap (state_after_act w t p) is
          ∙ ap (state_after_taking (record w { queues = queues_without_first w.queues (2 * l) }) t)
          (ap first_of f.queue ∙ e)

      by_first : (x : Option ℕ) → first_of q ≡ x
          → Faces w t l (next_place p (Took (is_there (first_of q)) (length (drop 1 q) == 0)))
          (outcome_of (next_act p (Took (is_there (first_of q)) (length (drop 1 q) == 0)))) v o s (drop 1 q)
      by_first None e = (
        told can ∙ ap (λ r. outcome_of (next_act p r)) heard,
        faces (record w { queues = queues_without_first w.queues (2 * l) }) _ v o s (drop 1 q) can
            (does None e) refl (ap (next_place p) heard) f.word f.owner f.section queue,
      )
      by_first (Some u) e = (
        told can ∙ ap (λ r. outcome_of (next_act p r)) heard,
        faces (state_after_reply (record w { queues = queues_without_first w.queues (2 * l) }) u (TakenBy t))
            _ v o s (drop 1 q) can (does (Some u) e) (length-set w.places u _) (ap (next_place p) heard)
            f.word f.owner f.section queue,
      )

-- by a step on the word of a mutex
module _ (w : State) (t l : ℕ) (at : MutexPlace) (v : ℕ) (o s : Option ℕ) (q : List Waiter)
    (f : Facing w t l (Mutex l at) v o s q) where
  abbrev there : Place
  there = Mutex l at

  word_led : (x : Op) → word_at (state_after_operation w t there l x) l ≡ apply x v
  word_led x = ap (λ y. y.word) (get_or-set_same w.locks l _ (unlocked kind.Mutex) f.lock)
      ∙ ap (apply x) f.word

  owner_led : (x : Op) → owner_at (state_after_operation w t there l x) l ≡ mutex_owner_after at t v o
  owner_led x = ap (λ y. y.owners.exclusive) (get_or-set_same w.locks l _ (unlocked kind.Mutex)
      f.lock) ∙ mutex_is at t (word_at w l) (owners_at w l)
      ∙ (λ i. mutex_owner_after at t (f.word i) (f.owner i))

  pub word_faces : (x : Op) → act_of there ≡ act.Word l x
      → Faces w t l (next_place there (Value v)) (outcome_of (next_act there (Value v))) (apply x v)
      (mutex_owner_after at t v o) s q
  word_faces x is = (
    told w t l there v o s q f can ∙ ap (λ r. outcome_of (next_act there r)) heard,
    faces w t l there v o s q f (state_after_operation w t there l x) (next_place there (Value v)) (apply x v)
        (mutex_owner_after at t v o) s q can (ap (state_after_act w t there) is) refl
        (ap (next_place there) heard) (word_led x) (owner_led x) f.section f.queue,
  )
    where
      can : can_do w (act_of there) ≡ true
      can = rw is refl

      heard : reply_to w t (act_of there) ≡ Value v
      heard = ap (reply_to w t) is ∙ ap Value f.word
