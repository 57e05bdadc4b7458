use Rattle.std.proofs.Common.{◌∙◌, ap, List}
use Rattle.spec_locks.specs.declared.calls.Step.{Step}
use Rattle.lot_world.specs.Schedules.{Progress, all_released, clear, settled}
use Rattle.lot_world.proofs.draining.schedule.Goals as goal

pub returns-clause-ok : goal.returns-clause-ok
returns-clause-ok g c =
    ap (λ (d : Progress). d.steps)
    (c.drain-3.view_is ∙ c.in_ok-clear_word.ensures.ok
    ∙ ap clear
    (c.in_ok-release_all.ensures.ok ∙ ap all_released
    (c.in_ok-settle.ensures.ok ∙ ap (λ (steps : List Step). settled (record {
      state = c.args.machine;
      steps = steps;
    })) c.new.ensures.items)))
