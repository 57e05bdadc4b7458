-- A thread alone at a lock in whose lines nobody stands, while all others are in no call: what each of its
-- acts leads to.
use Rattle.std.proofs.Common.{ℕ, zero, suc, Bool, true, false, Option, Some, None, if◌then◌else◌, cond, ◌==◌}
use Rattle.std.proofs.Common.{◌≡◌, ◌≢◌, ◌+◌, ◌*◌, ◌<◌, List, [], ◌∷◌, length, drop, get_or, refl, sym, ◌∙◌}
use Rattle.std.proofs.Common.{ap, subst, arith, get_or-set_same, get_or-set_other}
use Rattle.std.specs.List.{filter}
use Rattle.std.proofs.lemmas.Bool.{lt-ltb}
use Rattle.core_base.specs.declared.keys.Line.{Line}
use Rattle.core_base.specs.declared.keys.Line.TheVariants.{Main, Second}
use Rattle.core_base.specs.declared.keys.Keys.TheVariants.{One}
use Rattle.core_base.specs.declared.ops.Op.{Op}
use Rattle.core_base.specs.declared.wants.Waiter.{Waiter}
use Rattle.core_base.specs.Lines.{first_of, threads_of}
use Rattle.core_base.specs.Picks.{lock_picked, without_lock_picked}
use Rattle.core_base.specs.Words.{apply}
use Rattle.spec_locks.specs.declared.calls.Call.{Call}
use Rattle.spec_locks.specs.declared.kinds.Kind.{Kind}
use Rattle.spec_locks.specs.declared.outcomes.Answer.TheVariants.{Ok}
use Rattle.spec_locks.specs.declared.outcomes.Outcome.{Outcome}
use Rattle.spec_locks.specs.declared.outcomes.Outcome.TheVariants as outcome
use Rattle.spec_locks.specs.Calls.{lock_in}
use Rattle.steps_base.specs.declared.acts.Act.TheVariants as act
use Rattle.steps_base.specs.declared.acts.Reply.TheVariants.{Done, Value, Took, Picked, TakenBy}
use Rattle.steps_base.specs.declared.acts.Wakes.TheVariants as wakes
use Rattle.steps_base.specs.declared.acts.TakeWhich.{TakeWhich}
use Rattle.steps_base.specs.declared.acts.TakeWhich.TheVariants as whoms
use Rattle.steps_base.specs.Acts.{outcome_of}
use Rattle.lot_steps.specs.declared.places.Place.{Place}
use Rattle.lot_steps.specs.declared.places.Place.TheVariants.{Idle}
use Rattle.lot_steps.specs.Steps.{act_of, first_place, next_act, next_place}
use Rattle.lot_machine.specs.Machine.{State, after, can_begin, go_of, held, is_possible, is_there, kind_at}
use Rattle.lot_machine.specs.Machine.{place_at, places_told, queue_at, queues_without_first, reply_to}
use Rattle.lot_machine.specs.Machine.{section_at, shares_in_hand, sharers_in_hand, state_after_act}
use Rattle.lot_machine.specs.Machine.{state_after_begin, state_after_go, state_after_take, state_after_taking}
use Rattle.lot_machine.specs.Machine.{successor_from, successor_or, want_of_successor, wants_more_in_hand}
use Rattle.lot_machine.specs.Machine.{word_at}
use Rattle.lot_machine.specs.Fits.{SameSize}
use Rattle.lot_machine.proofs.Acted.{acted_keeps}
use Rattle.lot_machine.proofs.Shape.{after_well_formed, after_size}
use Rattle.lot_laws.specs.SitesOf.{key_of}
use Rattle.lot_laws.specs.Locations.{location, location_at}
use Rattle.lot_laws.proofs.condvar.StepsKeep.{after_condvars}
use Rattle.lot_laws.proofs.hands.CountsKept.{counted_after}
use Rattle.lot_laws.proofs.machine.Parts.{IsSingle, nothing_at}
use Rattle.lot_laws.proofs.machine.KindsStay.{after_kinds}
use Rattle.lot_alone.proofs.Leads.{LeadsSurely, surely_rest, surely_step}
use Rattle.lot_alone.proofs.TwoLines.{Comes, StepsAlone, enter_comes, hand_comes, leave_comes}
use Rattle.lot_alone.proofs.TwoLines.{take_comes, word_comes}
use Rattle.lot_laws.proofs.mutex.FairMutexes.{settled_after}
use Rattle.lot_laws.proofs.sites.TurnsKept.{after_inductive}
use Rattle.lot_world.specs.Ordered.{begin_of}

abbrev pub no_lines : Line → List Waiter
no_lines m = []

-- thread 0 stands at a place, the lock is of this kind and has this word, and all others are in no call
pub record Passes (k : Kind) (w : State) (p : Place) (v : ℕ) : Type 0 where
  pub alone : StepsAlone w 0 0 p v no_lines
  pub others : (u : ℕ) → u ≢ 0 → place_at w u ≡ Idle
  pub kind : kind_at w 0 ≡ k

-- the run of the thread ends with the lock's word as this
abbrev pub Ended : Kind → ℕ → State → Outcome → Type 0
Ended k v w o = Passes k w Idle v

-- ---------------------------------------------------------------- one step

others_stay : (w : State) (u : ℕ) → u ≢ 0 → place_at w u ≡ Idle → place_at (after w (go_of 0)) u ≡ Idle
others_stay w u ne idle = either (is_possible w (go_of 0))
  where
    either : (b : Bool) → place_at (if b then state_after_go w 0 else w) u ≡ Idle
    either true = get_or-set_other (state_after_act w 0 (place_at w 0) (act_of (place_at w 0))).places 0 u _
        Idle ne
        ∙ acted_keeps (λ q. q ≡ Idle) w u 0 (place_at w 0) (act_of (place_at w 0))
        (λ loud r b q e. ap (λ p. next_place p r) e) idle
    either false = idle

-- a run alone that leaves every line empty is one without lines
same_lines : (w : State) (p : Place) (v : ℕ) (q : Line → List Waiter) → ((m : Line) → q m ≡ [])
    → StepsAlone w 0 0 p v q → StepsAlone w 0 0 p v no_lines
same_lines w p v q e f = record {
  shape = f.shape;
  inductive = f.inductive;
  counted = f.counted;
  condvars = f.condvars;
  settled = f.settled;
  thread = f.thread;
  lock = f.lock;
  place = f.place;
  single = f.single;
  word = f.word;
  queue = λ m. f.queue m ∙ e m;
}

module _ (k : Kind) (w : State) (p : Place) (v : ℕ) (f : Passes k w p v) where
  passes : (p2 : Place) (v2 : ℕ) → StepsAlone (after w (go_of 0)) 0 0 p2 v2 no_lines
      → Passes k (after w (go_of 0)) p2 v2
  passes p2 v2 c = record {
    alone = c;
    others = λ u ne. others_stay w u ne (f.others u ne);
    kind = after_kinds w (go_of 0) 0 ∙ f.kind;
  }

  -- where it is told to go on, and where it has ended
  goes_on : (n : ℕ) (e : ℕ) (p2 : Place) (v2 : ℕ) (told : Outcome) → told ≡ outcome.Step
      → Comes w 0 0 p2 told v2 no_lines
      → (Passes k (after w (go_of 0)) p2 v2 → LeadsSurely n (after w (go_of 0)) 0 (Ended k e))
      → LeadsSurely (n + 1) w 0 (Ended k e)
  goes_on n e p2 v2 told step c more = surely_step w 0 (Ended k e) n (c.0 ∙ step) (more (passes p2 v2 c.1))

  ends : (e : ℕ) (told : Outcome) → told ≡ outcome.End Ok → Comes w 0 0 Idle told e no_lines
      → LeadsSurely 1 w 0 (Ended k e)
  ends e told end c = surely_rest w 0 (Ended k e) (outcome.End Ok) (c.0 ∙ end) tt (passes Idle e c.1)

  -- a step on the word
  pub on_word : (n : ℕ) (e : ℕ) (x : Op) → act_of p ≡ act.Word 0 x → outcome_of (next_act p (Value v))
      ≡ outcome.Step
      → (Passes k (after w (go_of 0)) (next_place p (Value v)) (apply x v)
      → LeadsSurely n (after w (go_of 0)) 0 (Ended k e))
      → LeadsSurely (n + 1) w 0 (Ended k e)
  on_word n e x is step more = goes_on n e _ _ _ step (word_comes w 0 0 p v no_lines f.alone x is) more

  pub by_hand : (n : ℕ) (e : ℕ) (x : Op) → act_of p ≡ act.HandOver 0 x → outcome_of (next_act p (Value v))
      ≡ outcome.Step
      → (Passes k (after w (go_of 0)) (next_place p (Value v)) (apply x v)
      → LeadsSurely n (after w (go_of 0)) 0 (Ended k e))
      → LeadsSurely (n + 1) w 0 (Ended k e)
  by_hand n e x is step more = goes_on n e _ _ _ step (hand_comes w 0 0 p v no_lines f.alone x is) more

  -- outside of its section it finds it free, since all others are in no call
  free_main : (location p).inside ≡ None → section_at w 0 ≡ None
  free_main outside = by_who (section_at w 0) refl
    where
      none_inside : (u : ℕ) (q : Place) → place_at w u ≡ q → IsSingle q → (location q).inside ≡ None
          → (location_at (place_at w u) 0).inside ≡ None
      none_inside u q is single out = nothing_at (place_at w u) 0 (subst IsSingle (sym is) single)
          (λ x. x.inside) refl (ap (λ x. (location x).inside) is ∙ out)

      out_there : (u : ℕ) → (location_at (place_at w u) 0).inside ≡ None
      out_there zero = none_inside 0 p f.alone.place f.alone.single outside
      out_there (suc u) = none_inside (suc u) Idle (f.others (suc u) (λ h. omega arith)) tt refl

      by_who : (who : Option ℕ) → section_at w 0 ≡ who → section_at w 0 ≡ None
      by_who None e = e
      by_who (Some u) e = absurd (let within : (location_at (place_at w u) 0).inside ≡ Some Main =
          (f.alone.inductive.stands.sections u 0 Main).1 e in
          let out : (location_at (place_at w u) 0).inside ≡ None = out_there u in cc)

  -- into the section of the main line
  pub into : (n : ℕ) (e : ℕ) → act_of p ≡ act.Enter (One 0) → (location p).inside ≡ None
      → outcome_of (next_act p Done) ≡ outcome.Step
      → (Passes k (after w (go_of 0)) (next_place p Done) v → LeadsSurely n (after w (go_of 0)) 0 (Ended k e))
      → LeadsSurely (n + 1) w 0 (Ended k e)
  into n e is outside step more = goes_on n e _ _ _ step (enter_comes w 0 0 p v no_lines f.alone Main is
      (free_main outside)) more

  -- the last step: out of it, or on the word
  pub out_of : act_of p ≡ act.Leave (One 0) wakes.Nobody → next_place p Done ≡ Idle
      → outcome_of (next_act p Done) ≡ outcome.End Ok → LeadsSurely 1 w 0 (Ended k v)
  out_of is idle end =
      let c = leave_comes w 0 0 p v no_lines f.alone Main wakes.Nobody is in
      ends v _ end (c.0, subst (λ q. StepsAlone (after w (go_of 0)) 0 0 q v no_lines) idle c.1)

  pub word_ends : (x : Op) → act_of p ≡ act.Word 0 x → next_place p (Value v) ≡ Idle
      → outcome_of (next_act p (Value v)) ≡ outcome.End Ok → LeadsSurely 1 w 0 (Ended k (apply x v))
  word_ends x is idle end =
      let c = word_comes w 0 0 p v no_lines f.alone x is in
      ends (apply x v) _ end (
        c.0,
        subst (λ q. StepsAlone (after w (go_of 0)) 0 0 q (apply x v) no_lines) idle
            c.1,
      )

  -- ---------------------------------------------------------------- nobody is taken

  empty : queue_at w 0 ≡ []
  empty = f.alone.queue Main

  line_there : 0 < length w.queues
  line_there = let a : length w.queues ≡ length w.sections = f.alone.shape.queues in let b : length w.sections
      ≡ 2 * length w.locks = f.alone.shape.sections in let c : 0 < length w.locks = f.alone.lock
      in omega arith

  second_empty : queue_at w 1 ≡ []
  second_empty = f.alone.queue Second

  -- the first of nobody
  abbrev left : State
  left = record w { queues = queues_without_first w.queues 0 }

  pub none_first : (n : ℕ) (e : ℕ) → act_of p ≡ act.Take 0 whoms.First
      → outcome_of (next_act p (Took false true)) ≡ outcome.Step
      → (Passes k (after w (go_of 0)) (next_place p (Took false true)) v → LeadsSurely n (after w (go_of 0)) 0
      (Ended k e))
      → LeadsSurely (n + 1) w 0 (Ended k e)
  none_first n e is step more =
      goes_on n e _ _ _ step (subst (λ r. Comes w 0 0 (next_place p r) (outcome_of (next_act p r)) v no_lines)
      heard (c.0, same_lines (after w (go_of 0)) _ v _ lines c.1)) more
    where
      nobody : first_of (queue_at w 0) ≡ None
      nobody = ap first_of empty

      c : Comes w 0 0 (next_place p (reply_to w 0 (act.Take 0 whoms.First)))
          (outcome_of (next_act p (reply_to w 0 (act.Take 0 whoms.First)))) v
          (λ m. queue_at (state_after_take w 0 0 whoms.First) (key_of 0 m))
      c = take_comes w 0 0 p v no_lines f.alone 0 whoms.First is
          (ap (λ o. word_at (state_after_taking left 0 o) 0) nobody)

      heard : reply_to w 0 (act.Take 0 whoms.First) ≡ Took false true
      heard = ap (λ q. Took (is_there (first_of q)) (length (drop 1 q) == 0)) empty

      lines : (m : Line) → queue_at (state_after_take w 0 0 whoms.First) (key_of 0 m) ≡ []
      lines Main = ap (λ o. queue_at (state_after_taking left 0 o) 0) nobody
          ∙ get_or-set_same w.queues 0 _ [] line_there ∙ ap (drop 1) empty
      lines Second = ap (λ o. queue_at (state_after_taking left 0 o) 1) nobody
          ∙ get_or-set_other w.queues 0 1 _ [] (λ h. omega arith) ∙ second_empty

  -- nobody that the lock would let in
  module _ (nobody_held : held p ≡ None) where
    none_held : (u : ℕ) → held (place_at w u) ≡ None
    none_held zero = ap held f.alone.place ∙ nobody_held
    none_held (suc u) = ap held (f.others (suc u) (λ h. omega arith))

    no_sharers : (ps : List Place) → ((u : ℕ) → held (get_or ps u Idle) ≡ None) → sharers_in_hand 0 ps ≡ 0
    no_sharers [] h = refl
    no_sharers (x ∷ ps) h = ap (λ o. length
        (cond (shares_in_hand 0 o) (x ∷ filter (λ (y : Place). shares_in_hand 0 (held y)) ps)
        (filter (λ (y : Place). shares_in_hand 0 (held y)) ps))) (h 0) ∙ no_sharers ps (λ u. h (suc u))

    no_successor : (u : ℕ) (ps : List Place) → ((i : ℕ) → held (get_or ps i Idle) ≡ None)
        → successor_from 0 u ps ≡ None
    no_successor u [] h = refl
    no_successor u (x ∷ ps) h = ap (λ o. successor_or u (wants_more_in_hand 0 o)
        (successor_from 0 (suc u) ps)) (h 0) ∙ no_successor (suc u) ps (λ i. h (suc i))

    abbrev picking : Bool → TakeWhich
    picking recursive = whoms.Picked None recursive

    pub none_picked : (n : ℕ) (e : ℕ) (recursive : Bool) → act_of p ≡ act.Take 0 (whoms.Picked None recursive)
        → outcome_of (next_act p (Picked 0 None true)) ≡ outcome.Step
        → (Passes k (after w (go_of 0)) (next_place p (Picked 0 None true)) v
        → LeadsSurely n (after w (go_of 0)) 0 (Ended k e))
        → LeadsSurely (n + 1) w 0 (Ended k e)
    none_picked n e recursive is step more =
        goes_on n e _ _ _ step (subst (λ r. Comes w 0 0 (next_place p r) (outcome_of (next_act p r)) v
        no_lines) heard (c.0, same_lines (after w (go_of 0)) _ v _ lines c.1)) more
      where
        c : Comes w 0 0 (next_place p (reply_to w 0 (act.Take 0 (picking recursive))))
            (outcome_of (next_act p (reply_to w 0 (act.Take 0 (picking recursive))))) v
            (λ m. queue_at (state_after_take w 0 0 (picking recursive)) (key_of 0 m))
        c = take_comes w 0 0 p v no_lines f.alone 0 (picking recursive) is refl

        places : (state_after_take w 0 0 (picking recursive)).places ≡ w.places
        places = ap (λ q. places_told (TakenBy 0) (threads_of (lock_picked None recursive q)) w.places) empty

        heard : reply_to w 0 (act.Take 0 (picking recursive)) ≡ Picked 0 None true
        heard = λ i. Picked ((ap (sharers_in_hand 0) places ∙ no_sharers w.places none_held) i)
            ((ap (λ ps. want_of_successor (successor_from 0 0 ps)) places ∙ ap want_of_successor
            (no_successor 0 w.places none_held)) i)
            ((ap (λ q. length (without_lock_picked None recursive 0 q) == 0) empty) i)

        lines : (m : Line) → queue_at (state_after_take w 0 0 (picking recursive)) (key_of 0 m) ≡ []
        lines Main = get_or-set_same w.queues 0 _ [] line_there ∙ ap (without_lock_picked None recursive 0)
            empty
        lines Second = get_or-set_other w.queues 0 1 _ [] (λ h. omega arith) ∙ second_empty

-- ---------------------------------------------------------------- a call begins

module _ (k : Kind) (w : State) (v : ℕ) (f : Passes k w Idle v) (c : Call) (can : can_begin w 0 c ≡ true)
  where
    pub may : is_possible w (begin_of 0 c) ≡ true
    may = rw (lt-ltb 0 (length w.places) f.alone.thread, can) refl

    abbrev first : Place
    first = first_place (kind_at w (lock_in c)) c

    pub led : after w (begin_of 0 c) ≡ state_after_begin w 0 c
    led = ap (λ b. if b then state_after_begin w 0 c else w) may

    pub begins : IsSingle first → Passes k (after w (begin_of 0 c)) first v
    begins single = record {
      alone = record {
        shape = after_well_formed w (begin_of 0 c) f.alone.shape;
        inductive = after_inductive w (begin_of 0 c) f.alone.shape f.alone.inductive f.alone.counted
            f.alone.condvars;
        counted = counted_after w (begin_of 0 c) f.alone.shape f.alone.inductive f.alone.counted
            f.alone.condvars;
        condvars = after_condvars w (begin_of 0 c) f.alone.shape f.alone.inductive f.alone.counted
            f.alone.condvars;
        settled = settled_after w (begin_of 0 c) f.alone.shape f.alone.inductive f.alone.counted
            f.alone.condvars
            f.alone.settled;
        thread = let size : SameSize w (after w (begin_of 0 c)) = after_size w (begin_of 0 c)
            in rw size.threads f.alone.thread;
        lock = let size : SameSize w (after w (begin_of 0 c)) = after_size w (begin_of 0 c)
            in rw size.locks f.alone.lock;
        place = ap (λ (x : State). place_at x 0) led ∙ get_or-set_same w.places 0 first Idle f.alone.thread;
        single = single;
        word = ap (λ (x : State). word_at x 0) led ∙ f.alone.word;
        queue = λ m. ap (λ (x : State). queue_at x (key_of 0 m)) led ∙ f.alone.queue m;
      };
      others = λ u ne. ap (λ (x : State). place_at x u) led ∙ get_or-set_other w.places 0 u first Idle ne
          ∙ f.others u ne;
      kind = after_kinds w (begin_of 0 c) 0 ∙ f.kind;
    }
