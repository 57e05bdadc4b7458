-- Each move of a program is a step of the world, or leaves it as it is.
use Rattle.std.proofs.Common.{ℕ, zero, suc, ◌≡◌, ◌/◌, ◌%◌, Bool, true, false, Option, Some, None, [], ◌∷◌}
use Rattle.std.proofs.Common.{refl, sym, ap, subst, ◌∙◌}
use Rattle.std.specs.Prelude.{if◌then◌else◌, nat_lt, slice_set}
use Rattle.spec_locks.specs.declared.calls.Turn.TheVariants as turn
use Rattle.spec_locks.specs.declared.calls.Turn.{Turn}
use Rattle.spec_locks.specs.declared.calls.Step.{Step}
use Rattle.spec_locks.specs.declared.outcomes.Outcome.{Outcome}
use Rattle.spec_locks.specs.declared.outcomes.Outcome.TheVariants as outcome
use Rattle.lot_machine.specs.Machine.{State, after, after_steps, place_at, step_outcome}
use Rattle.lot_laws.specs.SitesOf.{IsWorld}
use Rattle.lot_laws.proofs.machine.Stuck.{after_stuck}
use Rattle.lot_laws.proofs.promises.Overtaken.{world_steps}
use Rattle.state_search.proofs.Lists.{none_some, some_same}
use Rattle.lot_program.specs.declared.grains.Grain.{Grain}
use Rattle.lot_program.specs.declared.states.Local.{Local}
use Rattle.lot_program.specs.declared.program.Deadlines.{Deadlines}
use Rattle.lot_program.specs.declared.program.Deadlines.TheVariants.{Pass, Never}
use Rattle.lot_program.specs.declared.program.Instruction.{Instruction}
use Rattle.lot_program.specs.declared.program.Instruction.TheVariants as instruction
use Rattle.lot_program.specs.declared.program.Program.{Program}
use Rattle.lot_program.specs.Programs.{threads_of, instruction_at, branch_at}
use Rattle.lot_steps.specs.declared.places.Place.{Place}
use Rattle.lot_program.specs.Grains.{goes_straight}
use Rattle.lot_program.specs.States.{ProgramState, Turning, gone_on, gone_straight, step_of, turning, turned, with_turn, heard}
use Rattle.lot_program.specs.States.{is_barred}
use Rattle.lot_program.specs.States.{stepped_by, or_refused, world_move, late_move, closing, performed}
use Rattle.lot_program.specs.States.{going_on, asserted, at_target, is_own, own_move, branch_move, local_at, thread_move}
use Rattle.lot_program.specs.States.{program_next}
use Rattle.lot_program.specs.Runs.{more_steps, turn_steps, steps_by, step_by, own_step, thread_step}
use Rattle.lot_program.specs.Runs.{steps_taken}
use Rattle.lot_program.proofs.TurnLemmas.{gone_world, straight_world}

-- a turn whose first step is possible leads somewhere
stepped_on : (g : Grain) (o : Outcome) (s : ProgramState) (step : Step) (l : Local) → (o ≡ outcome.NotNow → ⊥)
    → Some (with_turn s step.thread (turned g o s.world step l)) ≡ stepped_by o g s step l
stepped_on g outcome.NotNow s step l goes = absurd (goes refl)
stepped_on g outcome.Step s step l goes = refl
stepped_on g outcome.Sleep s step l goes = refl
stepped_on g (outcome.Closure x) s step l goes = refl
stepped_on g (outcome.End a) s step l goes = refl

-- where the parts of a turn lead, the turn does
module _ (g : Grain) (s : ProgramState) (step : Step) (l : Local) (v u : State) (p : Place) (o : Outcome)
    (first last : Local) (out : ProgramState) (led : v ≡ after s.world step)
    (from : p ≡ place_at s.world step.thread) (told : o ≡ step_outcome s.world step)
    (goes : o ≡ outcome.NotNow → ⊥) (hears : first ≡ heard o l)
    (world : u ≡ (gone_on g 64 step.thread (gone_straight g p step (turning v first))).world)
    (local : last ≡ (gone_on g 64 step.thread (gone_straight g p step (turning v first))).local)
    (leads : out ≡ record s { world = u; locals = slice_set s.locals step.thread last }) where
  whole : gone_on g 64 step.thread (gone_straight g p step (turning v first)) ≡ turned g o s.world step l
  whole = ap (λ x. gone_on g 64 step.thread (gone_straight g p step (turning x first))) led
      ∙ ap (λ q. gone_on g 64 step.thread (gone_straight g q step (turning (after s.world step) first))) from
      ∙ ap (λ m. gone_on g 64 step.thread (gone_straight g (place_at s.world step.thread) step
      (turning (after s.world step) m))) hears

  pub turn_leads : Some out ≡ stepped_by (step_outcome s.world step) g s step l
  turn_leads =
      ap Some (leads
      ∙ ap (λ w. record s { world = w; locals = slice_set s.locals step.thread last })
      (world ∙ ap (λ (x : Turning). x.world) whole)
      ∙ ap (λ m. record s { world = (turned g o s.world step l).world; locals = slice_set s.locals step.thread m })
      (local ∙ ap (λ (x : Turning). x.local) whole))
      ∙ stepped_on g o s step l goes ∙ ap (λ c. stepped_by c g s step l) told

-- the world after a turn
turned_world : (g : Grain) (o : Outcome) (w : State) (step : Step) (l : Local) → step_outcome w step ≡ o
    → is_barred o ≡ false
    → (turned g o w step l).world ≡ after_steps w (turn_steps g w step)
turned_world g o w step l told goes =
    let b = goes_straight g (place_at w step.thread) step.turn (place_at (after w step) step.thread) in
    let x = turning (after w step) (heard o l) in
    gone_world g 64 step.thread (gone_straight g (place_at w step.thread) step x) ∙ straight_world b g step.thread x
    ∙ ap (λ c. after_steps (after w step) (if c then [] else more_steps b g step.thread (after w step)))
    (sym (ap is_barred told ∙ goes))

-- a turn whose first step isn't possible has only that step
barred_steps : (g : Grain) (w : State) (step : Step) → step_outcome w step ≡ outcome.NotNow
    → turn_steps g w step ≡ step ∷ []
barred_steps g w step told =
    ap (λ b. step ∷ (if b then [] else more_steps (goes_straight g (place_at w step.thread) step.turn
    (place_at (after w step) step.thread)) g step.thread (after w step)))
    (ap is_barred told)

stepped_world : (g : Grain) (o : Outcome) (s u : ProgramState) (step : Step) (l : Local)
    → step_outcome s.world step ≡ o
    → stepped_by o g s step l ≡ Some u → u.world ≡ after_steps s.world (turn_steps g s.world step)
stepped_world g outcome.NotNow s u step l told e = absurd (none_some u e)
stepped_world g outcome.Step s u step l told e =
    ap (λ (v : ProgramState). v.world)
    (sym (some_same (with_turn s step.thread (turned g outcome.Step s.world step l)) u e))
    ∙ turned_world g outcome.Step s.world step l told refl
stepped_world g outcome.Sleep s u step l told e =
    ap (λ (v : ProgramState). v.world)
    (sym (some_same (with_turn s step.thread (turned g outcome.Sleep s.world step l)) u e))
    ∙ turned_world g outcome.Sleep s.world step l told refl
stepped_world g (outcome.Closure x) s u step l told e =
    ap (λ (v : ProgramState). v.world)
    (sym (some_same (with_turn s step.thread (turned g (outcome.Closure x) s.world step l)) u e))
    ∙ turned_world g (outcome.Closure x) s.world step l told refl
stepped_world g (outcome.End a) s u step l told e =
    ap (λ (v : ProgramState). v.world)
    (sym (some_same (with_turn s step.thread (turned g (outcome.End a) s.world step l)) u e))
    ∙ turned_world g (outcome.End a) s.world step l told refl

refused_world : (g : Grain) (o : Outcome) (s : ProgramState) (step : Step) (l : Local) (t : ℕ)
    → step_outcome s.world step ≡ o
    → (or_refused s t (stepped_by o g s step l)).world ≡ after_steps s.world (turn_steps g s.world step)
refused_world g outcome.NotNow s step l t told =
    sym (after_stuck s.world step told) ∙ sym (ap (after_steps s.world) (barred_steps g s.world step told))
refused_world g outcome.Step s step l t told = turned_world g outcome.Step s.world step l told refl
refused_world g outcome.Sleep s step l t told = turned_world g outcome.Sleep s.world step l told refl
refused_world g (outcome.Closure x) s step l t told = turned_world g (outcome.Closure x) s.world step l told
    refl
refused_world g (outcome.End a) s step l t told = turned_world g (outcome.End a) s.world step l told refl

gone_world_same : (s : ProgramState) (t : ℕ) (b : Bool) (n : ℕ) → (going_on s t b n).world ≡ s.world
gone_world_same s t true n = refl
gone_world_same s t false n = refl

asserted_world : (s : ProgramState) (t : ℕ) (b : Bool) → (asserted s t b).world ≡ s.world
asserted_world s t true = refl
asserted_world s t false = refl

performed_world : (i : Instruction) (g : Grain) (s : ProgramState) (t : ℕ)
    → (performed i g s t).world ≡ after_steps s.world (steps_by g s.world (step_by i t))
performed_world (instruction.Call c) g s t =
    refused_world g (step_outcome s.world (step_of t (turn.Begin c))) s (step_of t (turn.Begin c)) _ t refl
performed_world (instruction.Close b) g s t =
    refused_world g (step_outcome s.world (step_of t (closing b))) s (step_of t (closing b)) _ t refl
performed_world (instruction.Set v x) g s t = refl
performed_world (instruction.Add v n) g s t = refl
performed_world (instruction.Jump n) g s t = refl
performed_world (instruction.JumpUnless test n) g s t = gone_world_same s t _ n
performed_world (instruction.JumpUnlessTold x n) g s t = gone_world_same s t _ n
performed_world (instruction.JumpUnlessRunning n) g s t = gone_world_same s t _ n
performed_world (instruction.Either n) g s t = refl
performed_world (instruction.Assert test) g s t = asserted_world s t _

own_world : (g : Grain) (s u : ProgramState) (t : ℕ) (i : Option Instruction) → own_move g s t i ≡ Some u
    → u.world ≡ after_steps s.world (steps_by g s.world (own_step i t))
own_world g s u t None e = absurd (none_some u e)
own_world g s u t (Some i) e =
    ap (λ (v : ProgramState). v.world) (sym (some_same (performed i g s t) u e)) ∙ performed_world i g s t

branch_world : (s u : ProgramState) (t : ℕ) (o : Option ℕ) → branch_move s t o ≡ Some u → u.world ≡ s.world
branch_world s u t None e = absurd (none_some u e)
branch_world s u t (Some n) e = ap (λ (v : ProgramState). v.world) (sym (some_same (at_target s t n) u e))

-- a move that is a turn in a call
went_world : (g : Grain) (s u : ProgramState) (t : ℕ) (x : Turn) → world_move g s t x (local_at s t) ≡ Some u
    → u.world ≡ after_steps s.world (turn_steps g s.world (step_of t x))
went_world g s u t x e = stepped_world g (step_outcome s.world (step_of t x)) s u (step_of t x) (local_at s t)
    refl e

late_world : (p : Program) (s u : ProgramState) (t : ℕ) (d : Deadlines)
    → late_move d (world_move p.grain s t turn.Late (local_at s t)) ≡ Some u
    → u.world ≡ after_steps s.world (turn_steps p.grain s.world (step_of t turn.Late))
late_world p s u t Pass e = went_world p.grain s u t turn.Late e
late_world p s u t Never e = absurd (none_some u e)

thread_world : (p : Program) (s u : ProgramState) (t n : ℕ) → thread_move p s t n ≡ Some u
    → u.world ≡ after_steps s.world (steps_by p.grain s.world (thread_step p s t n))
thread_world p s u t zero e = by (is_own s.world t) e where
  by : (b : Bool) → (if b then own_move p.grain s t (instruction_at p t (local_at s t).at) else world_move
      p.grain s t turn.Go (local_at s t)) ≡ Some u
      → u.world ≡ after_steps s.world (steps_by p.grain s.world
      (if b then own_step (instruction_at p t (local_at s t).at) t else Some (step_of t turn.Go)))
  by true f = own_world p.grain s u t (instruction_at p t (local_at s t).at) f
  by false f = went_world p.grain s u t turn.Go f
thread_world p s u t (suc zero) e = by (is_own s.world t) e where
  by : (b : Bool) → (if b then branch_move s t (branch_at p t (local_at s t).at) else world_move
      p.grain s t turn.Spin (local_at s t)) ≡ Some u
      → u.world ≡ after_steps s.world (steps_by p.grain s.world (if b then None else Some (step_of t turn.Spin)))
  by true f = branch_world s u t (branch_at p t (local_at s t).at) f
  by false f = went_world p.grain s u t turn.Spin f
thread_world p s u t (suc (suc n)) e = late_world p s u t p.deadlines e

pub next_world : (p : Program) (s u : ProgramState) (k : ℕ) → program_next p s k ≡ Some u
    → u.world ≡ after_steps s.world (steps_taken p s k)
next_world p s u k e = by (nat_lt (k / 3) (threads_of p)) e where
  by : (b : Bool) → (if b then thread_move p s (k / 3) (k % 3) else None) ≡ Some u
      → u.world ≡ after_steps s.world (steps_taken p s k)
  by true f = thread_world p s u (k / 3) (k % 3) f
  by false f = absurd (none_some u f)

-- a move leaves a world of a world
pub next_stays : (p : Program) (s u : ProgramState) (k : ℕ) → program_next p s k ≡ Some u → IsWorld s.world
    → IsWorld u.world
next_stays p s u k e world =
    subst IsWorld (sym (next_world p s u k e)) (world_steps (steps_taken p s k) s.world world)
