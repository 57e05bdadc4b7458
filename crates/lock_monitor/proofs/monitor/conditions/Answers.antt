use Rattle.std.proofs.Common.{◌≡◌, ◌+◌, ◌∙◌, ap, length}
use Rattle.std.specs.Arc.{arc_value}
use Rattle.std.proofs.lemmas.List.{length-append}
use Rattle.lock_api.proofs.Stays.{stays_afterwards}
use Rattle.lock_monitor.proofs.More.{all_more}
use Rattle.lock_monitor.proofs.Stays.{refused_at_last}
use Rattle.lock_monitor.proofs.monitor.conditions.Goals as goal

pub returns-in-Err-clause-token : goal.returns-in-Err-clause-token
returns-in-Err-clause-token g c = (
  c.new.ensures.token.0,
  stays_afterwards g.R.RawMutex.RawMutex.keeps_rights g.R.RawMutex.RawMutex.keeps_rights_on _ _ _
      c.loop.invariant.keeps_rights c.new.ensures.token.1,
)

pub returns-in-Err-clause-err : goal.returns-in-Err-clause-err
returns-in-Err-clause-err g c = refused_at_last (g.R.RawMutex.RawMutex.found_full (arc_value c.args.lot.now))
    _ _ _ c.in-Err.ensures.made

pub returns-in_err-push-in-Ok-clause-token : goal.returns-in_err-push-in-Ok-clause-token
returns-in_err-push-in-Ok-clause-token g c = (
  c.new.ensures.token.0,
  stays_afterwards g.R.RawMutex.RawMutex.keeps_rights g.R.RawMutex.RawMutex.keeps_rights_on _ _ _
      c.loop.invariant.keeps_rights c.new.ensures.token.1,
)

pub loop-preserved : goal.loop-preserved
loop-preserved g c = record {
  thread = c.new.ensures.token.0;
  keeps_rights = stays_afterwards g.R.RawMutex.RawMutex.keeps_rights g.R.RawMutex.RawMutex.keeps_rights_on _
      _ _
      c.loop.invariant.keeps_rights
      c.new.ensures.token.1;
  counted = ap length c.in_ok-push-in-Ok.ensures.items ∙ length-append _ _
      ∙ ap (λ n. n + 1) c.loop.invariant.counted;
  together = all_more (λ condition. g.R.RawCondvar.lot_of condition ≡ arc_value c.args.lot.now)
      c.loop.made.items c.push.new.self.items c.in-Ok.condition c.in_ok-push-in-Ok.ensures.items
      c.loop.invariant.together c.in-Ok.ensures.made;
}
