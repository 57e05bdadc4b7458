-- Each move of a behaviour is a step of the world, or leaves it as it is.
use Rattle.std.proofs.Common.{ℕ, zero, suc, ◌≡◌, ◌/◌, ◌%◌, Bool, true, false, Option, Some, None, refl, sym}
use Rattle.std.proofs.Common.{ap, subst, ◌∙◌}
use Rattle.std.specs.Prelude.{if◌then◌else◌, nat_lt}
use Rattle.spec_locks.specs.declared.calls.Turn.TheVariants as turn
use Rattle.spec_locks.specs.declared.calls.Turn.{Turn}
use Rattle.spec_locks.specs.declared.calls.Step.{Step}
use Rattle.spec_locks.specs.declared.outcomes.Outcome.{Outcome}
use Rattle.spec_locks.specs.declared.outcomes.Outcome.TheVariants as outcome
use Rattle.lot_machine.specs.Machine.{after, after_steps, step_outcome}
use Rattle.lot_laws.specs.SitesOf.{IsWorld}
use Rattle.lot_laws.proofs.machine.Stuck.{after_stuck}
use Rattle.lot_laws.proofs.promises.Overtaken.{world_steps}
use Rattle.state_search.proofs.Lists.{none_some, some_same}
use Rattle.lot_scene.specs.Stages.{step_of, is_own}
use Rattle.lot_behaviour.specs.declared.behaviour.Act.{Act}
use Rattle.lot_behaviour.specs.declared.behaviour.Act.TheVariants as act
use Rattle.lot_behaviour.specs.Conducts.{Conduct}
use Rattle.lot_behaviour.specs.Moves.{SceneState, with_step, stepped_by, or_refused, world_move, closing}
use Rattle.lot_behaviour.specs.Moves.{acted, own_move, next_at, local_at, thread_move, scene_next}
use Rattle.lot_behaviour.specs.Runs.{step_by, own_step, thread_step, listed, steps_taken}

stepped_world : {S : Type 0} (c : Conduct S) (o : Outcome) (s u : SceneState S) (step : Step) (x : S)
    → stepped_by c o s step x ≡ Some u → u.world ≡ after s.world step
stepped_world c outcome.NotNow s u step x e = absurd (none_some u e)
stepped_world {S} c outcome.Step s u step x e =
    ap (λ (v : SceneState S). v.world) (sym (some_same (with_step c outcome.Step s step x) u e))
stepped_world {S} c outcome.Sleep s u step x e =
    ap (λ (v : SceneState S). v.world) (sym (some_same (with_step c outcome.Sleep s step x) u e))
stepped_world {S} c (outcome.Closure y) s u step x e =
    ap (λ (v : SceneState S). v.world) (sym (some_same (with_step c (outcome.Closure y) s step x) u e))
stepped_world {S} c (outcome.End a) s u step x e =
    ap (λ (v : SceneState S). v.world) (sym (some_same (with_step c (outcome.End a) s step x) u e))

refused_world : {S : Type 0} (c : Conduct S) (o : Outcome) (s : SceneState S) (step : Step) (x : S) (t : ℕ)
    → step_outcome s.world step ≡ o → (or_refused c s t (stepped_by c o s step x)).world ≡ after s.world step
refused_world c outcome.NotNow s step x t told = sym (after_stuck s.world step told)
refused_world c outcome.Step s step x t told = refl
refused_world c outcome.Sleep s step x t told = refl
refused_world c (outcome.Closure y) s step x t told = refl
refused_world c (outcome.End a) s step x t told = refl

acted_world : {S : Type 0} (a : Act) (c : Conduct S) (s : SceneState S) (t : ℕ) (x : S)
    → (acted a c s t x).world ≡ after_steps s.world (listed (step_by a t))
acted_world (act.Call call) c s t x =
    refused_world c (step_outcome s.world (step_of t (turn.Begin call))) s (step_of t (turn.Begin call)) x t
    refl
acted_world (act.Close b) c s t x =
    refused_world c (step_outcome s.world (step_of t (closing b))) s (step_of t (closing b)) x t refl
acted_world (act.Write v n) c s t x = refl
acted_world act.Step c s t x = refl

own_world : {S : Type 0} (c : Conduct S) (s u : SceneState S) (t : ℕ) (next : Option (Act × S))
    → own_move c s t next ≡ Some u → u.world ≡ after_steps s.world (listed (own_step next t))
own_world c s u t None e = absurd (none_some u e)
own_world {S} c s u t (Some next) e =
    ap (λ (v : SceneState S). v.world) (sym (some_same (acted next.0 c s t next.1) u e))
    ∙ acted_world next.0 c s t next.1

-- a move that is a step in a call
went_world : {S : Type 0} (c : Conduct S) (s u : SceneState S) (t : ℕ) (x : Turn)
    → world_move c s t x (local_at c s t).state ≡ Some u → u.world ≡ after s.world (step_of t x)
went_world c s u t x e =
    stepped_world c (step_outcome s.world (step_of t x)) s u (step_of t x) (local_at c s t).state e

thread_world : {S : Type 0} (c : Conduct S) (s u : SceneState S) (t n : ℕ) → thread_move c s t n ≡ Some u
    → u.world ≡ after_steps s.world (listed (thread_step c s t n))
thread_world c s u t zero e = by (is_own s.world t) e where
  by : (b : Bool) → (if b then own_move c s t (next_at c s t)
      else world_move c s t turn.Go (local_at c s t).state) ≡ Some u
      → u.world ≡ after_steps s.world
      (listed (if b then own_step (next_at c s t) t else Some (step_of t turn.Go)))
  by true f = own_world c s u t (next_at c s t) f
  by false f = went_world c s u t turn.Go f
thread_world c s u t (suc zero) e = went_world c s u t turn.Spin e
thread_world c s u t (suc (suc n)) e = went_world c s u t turn.Late e

pub next_world : {S : Type 0} (c : Conduct S) (s u : SceneState S) (k : ℕ) → scene_next c s k ≡ Some u
    → u.world ≡ after_steps s.world (steps_taken c s k)
next_world c s u k e = by (nat_lt (k / 3) c.threads) e where
  by : (b : Bool) → (if b then thread_move c s (k / 3) (k % 3) else None) ≡ Some u
      → u.world ≡ after_steps s.world (steps_taken c s k)
  by true f = thread_world c s u (k / 3) (k % 3) f
  by false f = absurd (none_some u f)

-- after a move it stays a world
pub next_stays : {S : Type 0} (c : Conduct S) (s u : SceneState S) (k : ℕ) → scene_next c s k ≡ Some u
    → IsWorld s.world → IsWorld u.world
next_stays c s u k e world =
    subst IsWorld (sym (next_world c s u k e)) (world_steps (steps_taken c s k) s.world world)
