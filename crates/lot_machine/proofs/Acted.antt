-- The events that befall threads by an act of one of them. Each place keeps a property that no
-- wake, take, move or hand-over changes.
use Rattle.std.proofs.Common.{ℕ, Bool, true, false, Option, Some, None, if◌then◌else◌, ◌≡◌, inl, inr, List}
use Rattle.std.proofs.Common.{[], ◌∷◌, length, set, get_or, map, refl, sym, subst, get_or-set_other}
use Rattle.std.proofs.Common.{get_or-set_same}
use Rattle.std.proofs.Math.ListN.{get_or-map}
use Rattle.std.proofs.lemmas.Bool.{cases_eq, cases_lt}
use Rattle.std.proofs.lemmas.List.{set_past}
use Rattle.core_base.specs.declared.keys.Keys.{Keys}
use Rattle.core_base.specs.declared.keys.Keys.TheVariants.{One, Two}
use Rattle.core_base.specs.Lines.{first_of, threads_of}
use Rattle.core_base.specs.Picks.{lock_picked}
use Rattle.core_base.specs.Requeues.{taken_by}
use Rattle.steps_base.specs.declared.acts.Act.{Act}
use Rattle.steps_base.specs.declared.acts.Act.TheVariants.{Word, HandOver, Enter, Park, Take}
use Rattle.steps_base.specs.declared.acts.Act.TheVariants as act
use Rattle.steps_base.specs.declared.acts.Wakes.TheVariants as wakes
use Rattle.steps_base.specs.declared.acts.TakeWhich.TheVariants as whom
use Rattle.steps_base.specs.declared.acts.Reply.{Reply}
use Rattle.steps_base.specs.declared.acts.Reply.TheVariants.{TakenBy, MovedTo, HandedBy, Woken}
use Rattle.steps_base.specs.Acts.{takes_effect, holds}
use Rattle.steps_base.specs.Owners.{is_thread}
use Rattle.lot_steps.specs.declared.places.Place.{Place}
use Rattle.lot_steps.specs.declared.places.Place.TheVariants.{Idle}
use Rattle.lot_steps.specs.Steps.{next_place, taker}
use Rattle.lot_machine.specs.Machine.{State, hand_over_told, listed, moved_threads, place_after_telling}
use Rattle.lot_machine.specs.Machine.{place_at, places_told, queue_at, queues_without_first, state_after_act}
use Rattle.lot_machine.specs.Machine.{state_after_hand_over_by, state_after_taking, state_with_sections}
use Rattle.lot_machine.specs.Machine.{word_at}

-- tells what befalls a thread in a step of another
abbrev pub Befalls : Reply → Type 0
Befalls (TakenBy t) = Unit {0}
Befalls (MovedTo key) = Unit {0}
Befalls (HandedBy t alone) = Unit {0}
Befalls (Woken n) = Unit {0}
Befalls r = ⊥

-- whether an act tells threads something
abbrev pub tells : Act → Bool
tells (HandOver l f) = true
tells (Take key whom) = true
tells (act.Requeue from to how) = true
tells (act.Leave keys (wakes.All n)) = true
tells a = false

module _ (P : Place → Type 0) where
  -- a fact of a place holds of where this leads from there
  abbrev pub Keeps : Reply → Type 0
  Keeps r = (p : Place) → P p → P (next_place p r)

  -- a thread stands where it stood, or was befallen
  befallen_keeps : (u : ℕ) (ps : List Place) (x : ℕ) (r : Reply) → Keeps r → P (get_or ps u Idle)
      → P (get_or (set ps x (next_place (get_or ps x Idle) r)) u Idle)
  befallen_keeps u ps x r kept h = elim (cases_eq u x) [
    | inl e ↦ elim (cases_lt x (length ps)) [
      | inl lt ↦ rw (e, get_or-set_same ps x (next_place (get_or ps x Idle) r) Idle lt)
          (kept (get_or ps x Idle) (subst (λ v. P (get_or ps v Idle)) e h))
      | inr ge ↦ subst (λ qs. P (get_or qs u Idle)) (sym (set_past ps x (next_place (get_or ps x Idle) r) ge))
          h
    ]
    | inr ne ↦ subst P (sym (get_or-set_other ps x u (next_place (get_or ps x Idle) r) Idle ne)) h
  ]

  -- one after another
  told_keeps : (u : ℕ) (r : Reply) → Keeps r → (us : List ℕ) (ps : List Place) → P (get_or ps u Idle)
      → P (get_or (places_told r us ps) u Idle)
  told_keeps u r kept [] ps h = h
  told_keeps u r kept (x ∷ us) ps h = told_keeps u r kept us (set ps x (next_place (get_or ps x Idle) r))
      (befallen_keeps u ps x r kept h)

  module _ (w : State) (u : ℕ) where
    parked_keeps : (b : Bool) (queues : List (List _)) → P (place_at w u)
        → P (place_at (if b then record w { queues = queues } else w) u)
    parked_keeps true queues h = h
    parked_keeps false queues h = h

    took_keeps : (t : ℕ) → Keeps (TakenBy t) → (queues : List (List _)) (o : Option ℕ) → P (place_at w u)
        → P (place_at (state_after_taking (record w { queues = queues }) t o) u)
    took_keeps t kept queues None h = h
    took_keeps t kept queues (Some x) h = befallen_keeps u w.places x (TakenBy t) kept h

    -- for all that is told to those in a hand
    hand_keeps : (t : ℕ) (r : Reply) → Keeps r → P (place_at w u)
        → P (get_or (map (place_after_telling t r) w.places) u Idle)
    hand_keeps t r kept h = subst P (sym (get_or-map (place_after_telling t r) w.places u Idle))
        (either (is_thread t (taker (place_at w u))))
      where
        either : (b : Bool) → P (if b then next_place (place_at w u) r else place_at w u)
        either true = kept (place_at w u) h
        either false = h

    filled_keeps : (keys : Keys) (who : Option ℕ) → P (place_at w u)
        → P (place_at (state_with_sections w keys who) u)
    filled_keeps (One key) who h = h
    filled_keeps (Two first second) who h = h

    -- the act of another thread, or its own: an act that tells nothing changes no place
    pub acted_keeps : (t : ℕ) (p : Place) (a : Act) → (tells a ≡ true → (r : Reply) → Befalls r → Keeps r)
        → P (place_at w u) → P (place_at (state_after_act w t p a) u)
    acted_keeps t p (Word l f) kept h = h
    acted_keeps t p (HandOver l f) kept h = either (takes_effect f (word_at w l))
      where
        either : (b : Bool) → P (place_at (state_after_hand_over_by b w t p l f) u)
        either true = hand_keeps t (hand_over_told w t l) (kept refl (hand_over_told w t l) tt) h
        either false = h
    acted_keeps t p (Enter keys) kept h = filled_keeps keys (Some t) h
    acted_keeps t p (Park l key check x) kept h = parked_keeps (holds check (word_at w l)) _ h
    acted_keeps t p (Take key whom.First) kept h = took_keeps t (kept refl (TakenBy t) tt)
        (queues_without_first w.queues key) (first_of (queue_at w key)) h
    acted_keeps t p (Take key (whom.Picked start recursive)) kept h =
        told_keeps u (TakenBy t) (kept refl (TakenBy t) tt)
        (threads_of (lock_picked start recursive (queue_at w key))) w.places h
    acted_keeps t p (Take key whom.All) kept h =
        told_keeps u (TakenBy t) (kept refl (TakenBy t) tt) (threads_of (queue_at w key)) w.places h
    acted_keeps t p (act.Requeue from to how) kept h =
        told_keeps u (MovedTo to) (kept refl (MovedTo to) tt)
        (moved_threads how (threads_of (queue_at w from)))
        (places_told (TakenBy t) (listed (taken_by how (queue_at w from))) w.places)
        (told_keeps u (TakenBy t) (kept refl (TakenBy t) tt) (listed (taken_by how (queue_at w from)))
        w.places h)
    acted_keeps t p (act.Leave (One key) wakes.Nobody) kept h = h
    acted_keeps t p (act.Leave (One key) (wakes.All n)) kept h =
        hand_keeps t (Woken n) (kept refl (Woken n) tt) h
    acted_keeps t p (act.Leave (Two first second) wakes.Nobody) kept h = h
    acted_keeps t p (act.Leave (Two first second) (wakes.All n)) kept h =
        hand_keeps t (Woken n) (kept refl (Woken n) tt) h
    acted_keeps t p act.Rest kept h = h
    acted_keeps t p a kept h = h
