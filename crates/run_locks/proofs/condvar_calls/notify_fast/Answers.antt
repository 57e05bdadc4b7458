use Rattle.std.proofs.Common.{ap, refl, Bool}
use Rattle.steps_condvar.specs.CondvarSteps.{notified}
use Rattle.core_words.specs.declared.views.View.{View}
use Rattle.run_locks.proofs.CondvarNotifying.{nobody_waits}
use Rattle.run_locks.proofs.condvar_calls.notify_fast.Goals as goal

pub returns-clause-looked : goal.returns-clause-looked
returns-clause-looked c = let stepped = c.look_shown.ensures.stepped in (
  ap (λ (v : View). v.steps) stepped,
  ap (λ (v : View). v.owns) stepped,
  c.look_shown.ensures.shown,
  c.look_shown.ensures.untold,
  c.look_shown.ensures.own.0.1,
)

pub returns-clause-nobody : goal.returns-clause-nobody
returns-clause-nobody c = λ zero (all : Bool). nobody_waits c.args.condvar.number all c.look_shown.result
    (notified all 0) c.args.token.now c.look_shown.new.token
    (ap (λ (v : View). v.steps) c.look_shown.ensures.stepped) c.look_shown.ensures.untold
    c.look_shown.ensures.own.0.1 zero refl
