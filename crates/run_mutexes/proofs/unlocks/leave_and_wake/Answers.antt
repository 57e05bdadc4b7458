use Rattle.std.proofs.Common.{ℕ, refl, sym, ap, ◌∙◌}
use Rattle.steps_base.specs.Acts.{wakes_taken}
use Rattle.steps_base.specs.declared.acts.Act.TheVariants.{Leave}
use Rattle.steps_base.specs.declared.acts.Reply.TheVariants.{Done}
use Rattle.steps_base.specs.declared.acts.Wakes.{Wakes}
use Rattle.core_base.specs.declared.keys.Keys.TheVariants.{One}
use Rattle.core_base.specs.declared.notes.Note.TheVariants.{Normal}
use Rattle.spec_locks.specs.declared.outcomes.Answer.TheVariants.{Ok}
use Rattle.run_base.proofs.TurnsOn.{turn_ends}
use Rattle.steps_mutex.specs.declared.unlock.UnlockAt.TheVariants as unlock
use Rattle.run_base.specs.MutexCourses.{unlocks_at}
use Rattle.run_base.proofs.Coming.{turn_outside}
use Rattle.run_mutexes.proofs.unlocks.leave_and_wake.Goals as goal

pub turn_leave-requires : goal.turn_leave-requires
turn_leave-requires g c = (
  unlocks_at c.args.mutex (unlock.Leave c.args.any),
  c.requires,
  ap (λ (k : ℕ). Leave (One k) (wakes_taken c.args.any Normal)) (sym c.main_key.ensures)
      ∙ ap (λ (w : Wakes). Leave (One c.main_key.result) w) (sym c.taken-wakes.ensures),
)

pub end-requires : goal.end-requires
end-requires g c = let p = unlocks_at c.args.mutex (unlock.Leave c.args.any) in
    let is = ap (λ (k : ℕ). Leave (One k) (wakes_taken c.args.any Normal)) (sym c.main_key.ensures)
    ∙ ap (λ (w : Wakes). Leave (One c.main_key.result) w) (sym c.taken-wakes.ensures) in
    turn_outside ⊥ c.args.lot.now c.args.words p Done c.args.token.now c.turn_leave.new.token c.args.section
    c.turn_leave.new.section Ok c.requires (c.turn_leave.ensures p c.requires is) refl

pub returns : goal.returns
returns g c = let p = unlocks_at c.args.mutex (unlock.Leave c.args.any) in
    let is = ap (λ (k : ℕ). Leave (One k) (wakes_taken c.args.any Normal)) (sym c.main_key.ensures)
    ∙ ap (λ (w : Wakes). Leave (One c.main_key.result) w) (sym c.taken-wakes.ensures) in
    turn_ends ⊥ c.args.lot.now c.args.words p Done c.args.token.now c.turn_leave.new.token c.args.section
    c.turn_leave.new.section (c.turn_leave.ensures p c.requires is) c.requires Ok refl
