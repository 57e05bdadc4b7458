-- The turn of a thread in a call, as steps of the world.
use Rattle.std.proofs.Common.{ℕ, zero, suc, ◌≡◌, ◌<◌, ◌+◌, ◌-◌, Bool, true, false, List, [], ◌∷◌, length, refl, sym}
use Rattle.std.proofs.Common.{ap, append_assoc, subst, ◌∙◌, arith}
use Rattle.std.specs.Prelude.{if◌then◌else◌, ◌||◌, ◌++◌}
use Rattle.spec_locks.specs.declared.calls.Turn.TheVariants as turn
use Rattle.spec_locks.specs.declared.calls.Step.{Step}
use Rattle.spec_locks.specs.declared.outcomes.Outcome.{Outcome}
use Rattle.spec_locks.specs.declared.outcomes.Outcome.TheVariants as outcome
use Rattle.spec_locks.specs.declared.outcomes.OnceState.{OnceState}
use Rattle.steps_base.specs.declared.acts.Act.{Act}
use Rattle.steps_base.specs.declared.acts.Act.TheVariants as act
use Rattle.steps_base.specs.Acts.{outcome_of}
use Rattle.lot_steps.specs.Steps.{HasKeys, act_of}
use Rattle.lot_laws.specs.Refinement.{sleeps}
use Rattle.lot_laws.specs.SitesOf.{IsWorld}
use Rattle.lot_laws.proofs.promises.WorldRuns.{world_after}
use Rattle.lot_machine.specs.Machine.{State, after, after_steps, place_at, runs_closure, step_outcome}
use Rattle.lot_machine.specs.Fits.{SameSize}
use Rattle.lot_machine.proofs.Shape.{after_size, has_keys, size_more}
use Rattle.lot_program.specs.declared.grains.Grain.{Grain}
use Rattle.lot_program.specs.declared.states.Local.{Local}
use Rattle.lot_steps.specs.declared.places.Place.{Place}
use Rattle.lot_program.specs.Grains.{goes_straight, is_cut}
use Rattle.lot_program.specs.States.{Turning, turning, is_own, is_barred, turn_ends, gone, gone_if, gone_on, gone_straight}
use Rattle.lot_program.specs.States.{gone_straight_by, step_of}
use Rattle.lot_program.specs.Runs.{again_steps, go_steps, more_steps, turn_steps}

pub gone_none : (g : Grain) (t : ℕ) (x : Turning) (n : ℕ) → n ≡ 0 → gone_on g n t x ≡ x
unfolding gone_on
gone_none g t x zero e = refl
gone_none g t x (suc n) e = cc

pub steps_none : (g : Grain) (t : ℕ) (w : State) (n : ℕ) → n ≡ 0 → go_steps g n t w ≡ []
unfolding go_steps
steps_none g t w zero e = refl
steps_none g t w (suc n) e = cc

-- where a turn ends, it goes on no more
pub gone_ends : (g : Grain) (t : ℕ) (x : Turning) (n : ℕ) → turn_ends g x.world t ≡ true → gone_on g n t x ≡ x
unfolding gone_on
gone_ends g t x zero e = refl
gone_ends g t x (suc n) e = ap (λ b. if b then x else gone_on g n t (gone t x)) e

pub steps_end : (g : Grain) (t : ℕ) (w : State) (n : ℕ) → turn_ends g w t ≡ true → go_steps g n t w ≡ []
unfolding go_steps
steps_end g t w zero e = refl
steps_end g t w (suc n) e =
    ap (λ b. if b then [] else step_of t turn.Go ∷ go_steps g n t (after w (step_of t turn.Go))) e

pub gone_more : (g : Grain) (t : ℕ) (x : Turning) (n : ℕ) → turn_ends g x.world t ≡ false
    → gone_on g (suc n) t x ≡ gone_on g n t (gone t x)
unfolding gone_on
gone_more g t x n e = ap (λ b. if b then x else gone_on g n t (gone t x)) e

steps_more : (g : Grain) (t : ℕ) (w : State) (n : ℕ) → turn_ends g w t ≡ false
    → go_steps g (suc n) t w ≡ step_of t turn.Go ∷ go_steps g n t (after w (step_of t turn.Go))
unfolding go_steps
steps_more g t w n e =
    ap (λ b. if b then [] else step_of t turn.Go ∷ go_steps g n t (after w (step_of t turn.Go))) e

left : (k : ℕ) → k < 64 → 64 - k ≡ suc (64 - (k + 1))
left k below = omega (arith, below)

-- else it goes on by one step
pub gone_goes : (g : Grain) (t : ℕ) (x : Turning) (k : ℕ) → k < 64 → turn_ends g x.world t ≡ false
    → gone_on g (64 - k) t x ≡ gone_on g (64 - (k + 1)) t (gone t x)
gone_goes g t x k below e = ap (λ n. gone_on g n t x) (left k below) ∙ gone_more g t x (64 - (k + 1)) e

pub steps_go : (g : Grain) (t : ℕ) (w : State) (k : ℕ) → k < 64 → turn_ends g w t ≡ false
    → go_steps g (64 - k) t w ≡ step_of t turn.Go ∷ go_steps g (64 - (k + 1)) t (after w (step_of t turn.Go))
steps_go g t w k below e = ap (λ n. go_steps g n t w) (left k below) ∙ steps_more g t w (64 - (k + 1)) e

-- a turn ends by the place, or where the next step isn't possible
pub ends_there : (g : Grain) (w : State) (t : ℕ)
    → (is_own w t || (sleeps (act_of (place_at w t)) || is_cut g (place_at w t))) ≡ true → turn_ends g w t
    ≡ true
ends_there g w t e =
    by (is_own w t) (sleeps (act_of (place_at w t))) (is_cut g (place_at w t))
    (is_barred (step_outcome w (step_of t turn.Go))) e
  where
    by : (a b c d : Bool) → (a || (b || c)) ≡ true → (a || (b || (c || d))) ≡ true
    by true b c d e = refl
    by false true c d e = refl
    by false false true d e = refl
    by false false false d e = absurd cc

pub ends_barred : (g : Grain) (w : State) (t : ℕ) → step_outcome w (step_of t turn.Go) ≡ outcome.NotNow
    → turn_ends g w t ≡ true
ends_barred g w t e =
    by (is_own w t) (sleeps (act_of (place_at w t))) (is_cut g (place_at w t))
    (is_barred (step_outcome w (step_of t turn.Go))) (ap is_barred e)
  where
    by : (a b c d : Bool) → d ≡ true → (a || (b || (c || d))) ≡ true
    by true b c d e = refl
    by false true c d e = refl
    by false false true d e = refl
    by false false false d e = e

-- an act that is told to be neither sleep nor a closure is none
pub quiet_act : (a : Act) → (outcome_of a ≡ outcome.Sleep → ⊥)
    → ((x : OnceState) → outcome_of a ≡ outcome.Closure x → ⊥)
    → (runs_closure a ≡ false) × (sleeps a ≡ false)
quiet_act act.Rest f h = (refl, refl)
quiet_act (act.Word l op) f h = (refl, refl)
quiet_act (act.HandOver l op) f h = (refl, refl)
quiet_act (act.Enter keys) f h = (refl, refl)
quiet_act (act.Park l key check x) f h = (refl, refl)
quiet_act (act.Stand key x) f h = (refl, refl)
quiet_act (act.Take key whom) f h = (refl, refl)
quiet_act (act.Requeue from to how) f h = (refl, refl)
quiet_act (act.Remove key) f h = (refl, refl)
quiet_act (act.Leave keys wakes) f h = (refl, refl)
quiet_act act.Sleep f h = absurd (f refl)
quiet_act act.Accept f h = (refl, refl)
quiet_act (act.Closure x) f h = absurd (h x refl)
quiet_act (act.End a) f h = (refl, refl)

-- an act that is told to run a closure does, and one that is told to sleep does
pub closes_told : (a : Act) (x : OnceState) → outcome_of a ≡ outcome.Closure x → runs_closure a ≡ true
closes_told (act.Closure y) x e = refl
closes_told act.Sleep x e = absurd cc
closes_told (act.End answer) x e = absurd cc
closes_told a x e = absurd cc

pub sleeps_told : (a : Act) → outcome_of a ≡ outcome.Sleep → sleeps a ≡ true
sleeps_told act.Sleep e = refl
sleeps_told (act.Closure y) e = absurd cc
sleeps_told (act.End answer) e = absurd cc
sleeps_told a e = absurd cc

pub told_barred : (o : Outcome) → (o ≡ outcome.NotNow → ⊥) → is_barred o ≡ false
told_barred outcome.NotNow h = absurd (h refl)
told_barred outcome.Step h = refl
told_barred outcome.Sleep h = refl
told_barred (outcome.Closure x) h = refl
told_barred (outcome.End a) h = refl

pub ends_not : (g : Grain) (w : State) (t : ℕ)
    → (is_own w t || (sleeps (act_of (place_at w t)) || is_cut g (place_at w t))) ≡ false
    → (step_outcome w (step_of t turn.Go) ≡ outcome.NotNow → ⊥) → turn_ends g w t ≡ false
ends_not g w t e told =
    by (is_own w t) (sleeps (act_of (place_at w t))) (is_cut g (place_at w t))
    (is_barred (step_outcome w (step_of t turn.Go))) e
    (told_barred (step_outcome w (step_of t turn.Go)) told)
  where
    by : (a b c d : Bool) → (a || (b || c)) ≡ false → d ≡ false → (a || (b || (c || d))) ≡ false
    by true b c d e f = absurd cc
    by false true c d e f = absurd cc
    by false false true d e f = absurd cc
    by false false false d e f = f

-- ---------------------------------------------------------------- worlds

chosen_world : (b : Bool) (x y : Turning) (ss : List Step) → y.world ≡ after_steps x.world ss
    → (if b then x else y).world ≡ after_steps x.world (if b then [] else ss)
chosen_world true x y ss e = refl
chosen_world false x y ss e = e

chosen_kept : (b : Bool) (x y : Turning) → IsWorld x.world → IsWorld y.world
    → IsWorld (if b then x else y).world
chosen_kept true x y p q = p
chosen_kept false x y p q = q

chosen_size : (b : Bool) (w : State) (x y : Turning) → SameSize w x.world → SameSize w y.world
    → SameSize w (if b then x else y).world
chosen_size true w x y p q = p
chosen_size false w x y p q = q

-- where a thread goes on alone, the world takes its steps
pub gone_world : (g : Grain) (n t : ℕ) (x : Turning)
    → (gone_on g n t x).world ≡ after_steps x.world (go_steps g n t x.world)
unfolding gone_on go_steps
gone_world g zero t x = refl
gone_world g (suc n) t x =
    chosen_world (turn_ends g x.world t) x (gone_on g n t (gone t x))
    (step_of t turn.Go ∷ go_steps g n t (after x.world (step_of t turn.Go))) (gone_world g n t (gone t x))

pub gone_kept : (g : Grain) (n t : ℕ) (x : Turning) → IsWorld x.world → IsWorld (gone_on g n t x).world
unfolding gone_on
gone_kept g zero t x world = world
gone_kept g (suc n) t x world =
    chosen_kept (turn_ends g x.world t) x (gone_on g n t (gone t x)) world
    (gone_kept g n t (gone t x) (world_after x.world (step_of t turn.Go) world))

pub gone_size : (g : Grain) (n t : ℕ) (x : Turning) → SameSize x.world (gone_on g n t x).world
unfolding gone_on
gone_size g zero t x = record { threads = refl; locks = refl }
gone_size g (suc n) t x =
    chosen_size (turn_ends g x.world t) x.world x (gone_on g n t (gone t x))
    (record { threads = refl; locks = refl })
    (size_more x.world (after x.world (step_of t turn.Go)) (gone_on g n t (gone t x)).world
    (after_size x.world (step_of t turn.Go)) (gone_size g n t (gone t x)))

-- ---------------------------------------------------------------- a turn that takes steps along

again_world : (b : Bool) (g : Grain) (t : ℕ) (x : Turning)
    → after_steps (gone_if b t x).world (go_steps g 64 t (gone_if b t x).world)
    ≡ after_steps x.world (again_steps b g t x.world)
again_world true g t x = refl
again_world false g t x = refl

pub straight_world : (b : Bool) (g : Grain) (t : ℕ) (x : Turning)
    → after_steps (gone_straight_by b g t x).world (go_steps g 64 t (gone_straight_by b g t x).world)
    ≡ after_steps x.world (more_steps b g t x.world)
straight_world true g t x =
    again_world (goes_straight g (place_at x.world t) turn.Go (place_at (gone t x).world t)) g t (gone t x)
straight_world false g t x = refl

pub again_kept : (b : Bool) (t : ℕ) (x : Turning) → IsWorld x.world → IsWorld (gone_if b t x).world
again_kept true t x world = world_after x.world (step_of t turn.Go) world
again_kept false t x world = world

pub again_size : (b : Bool) (t : ℕ) (x : Turning) → SameSize x.world (gone_if b t x).world
again_size true t x = after_size x.world (step_of t turn.Go)
again_size false t x = record { threads = refl; locks = refl }

pub straight_kept : (b : Bool) (g : Grain) (t : ℕ) (x : Turning) → IsWorld x.world
    → IsWorld (gone_straight_by b g t x).world
straight_kept true g t x world =
    again_kept (goes_straight g (place_at x.world t) turn.Go (place_at (gone t x).world t)) t (gone t x)
    (world_after x.world (step_of t turn.Go) world)
straight_kept false g t x world = world

pub straight_size : (b : Bool) (g : Grain) (t : ℕ) (x : Turning) → SameSize x.world (gone_straight_by b g t x).world
straight_size true g t x =
    let b = goes_straight g (place_at x.world t) turn.Go (place_at (gone t x).world t) in
    size_more x.world (gone t x).world (gone_if b t (gone t x)).world (after_size x.world (step_of t turn.Go))
    (again_size b t (gone t x))
straight_size false g t x = record { threads = refl; locks = refl }

-- where it has taken them
pub took_along : (g : Grain) (p : Place) (step : Step) (x : Turning) (b : Bool) (v : State) (l : Local)
    → b ≡ goes_straight g p step.turn (place_at x.world step.thread) → b ≡ true
    → v ≡ (gone_straight_by true g step.thread x).world → l ≡ (gone_straight_by true g step.thread x).local
    → turning v l ≡ gone_straight g p step x
took_along g p step x b v l is on world local =
    ap (λ w. turning w l) world ∙ ap (turning (gone_straight_by true g step.thread x).world) local
    ∙ ap (λ c. gone_straight_by c g step.thread x) (sym on ∙ is)

-- where a turn ends
pub finished_kept : (g : Grain) (p : Place) (step : Step) (x : Turning) → IsWorld x.world
    → IsWorld (gone_on g 64 step.thread (gone_straight g p step x)).world
finished_kept g p step x world = gone_kept g 64 step.thread (gone_straight g p step x)
    (straight_kept (goes_straight g p step.turn (place_at x.world step.thread)) g step.thread x world)

-- the steps of a turn are pushed one after another
pub pushed : (g : Grain) (w v : State) (step : Step) (p : Place) (olds mids news : List Step) → v ≡ after w step
    → p ≡ place_at w step.thread → (step_outcome w step ≡ outcome.NotNow → ⊥)
    → mids ≡ olds ++ step ∷ []
    → news ≡ mids ++ more_steps (goes_straight g p step.turn (place_at v step.thread)) g step.thread v
    → news ≡ olds ++ turn_steps g w step
pushed g w v step p olds mids news led from possible mid new =
    let straight = goes_straight g (place_at w step.thread) step.turn (place_at (after w step) step.thread) in
    let more = more_steps straight g step.thread (after w step) in
    new
    ∙ ap (λ x. mids ++ more_steps (goes_straight g p step.turn (place_at x step.thread)) g step.thread x) led
    ∙ ap (λ q. mids ++ more_steps (goes_straight g q step.turn (place_at (after w step) step.thread)) g step.thread
    (after w step)) from
    ∙ ap (λ ss. ss ++ more) mid ∙ append_assoc olds (step ∷ []) more
    ∙ ap (λ c. olds ++ step ∷ (if c then [] else more)) (sym (told_barred (step_outcome w step) possible))

-- ---------------------------------------------------------------- places

-- the keys of a place are numbers
pub keyed : (w : State) (t : ℕ) → IsWorld w → HasKeys (place_at w t)
keyed w t h = has_keys (length w.locks) (place_at w t) h.well_formed.few (h.well_formed.places t)

-- what is told of a turn that has ended so
module _ (g : Grain) (t : ℕ) (w v : State) (l k : Local) (e : turning v k ≡ gone_on g 64 t (turning w l))
  where
    pub ended_world : v ≡ (gone_on g 64 t (turning w l)).world
    ended_world = ap (λ (x : Turning). x.world) e

    pub ended_local : k ≡ (gone_on g 64 t (turning w l)).local
    ended_local = ap (λ (x : Turning). x.local) e

    pub ended_size : SameSize w v
    ended_size = subst (SameSize w) (sym ended_world) (gone_size g 64 t (turning w l))
