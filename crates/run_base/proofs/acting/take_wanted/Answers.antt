use Rattle.std.proofs.Common.{◌∙◌, ap}
use Rattle.core_base.specs.Picks.{lock_picked}
use Rattle.parking_lot_core.specs.declared.tokens.Did.TheVariants.{TakePicked}
use Rattle.run_base.specs.Stages.{section_view}
use Rattle.run_base.specs.Takes.{sharers_in, successor_in}
use Rattle.run_base.specs.Telling.{line_in}
use Rattle.run_base.proofs.TakesFew.{few_taken, picked_few}
use Rattle.run_base.proofs.acting.take_wanted.Goals as goal

pub returns-clause-took : goal.returns-clause-took
returns-clause-took c =
    let waiters = lock_picked c.args.start c.args.recursive (line_in c.args.key c.args.section.now) in
    let did = c.take_picked-none_left.ensures.did in (
      did.0,
      (
        waiters,
        c.tell_wants-sharers.ensures.sharers ∙ ap sharers_in c.take_picked-none_left.ensures.wants,
        c.tell_wants-sharers.ensures.successor ∙ ap successor_in c.take_picked-none_left.ensures.wants,
        did.1,
        picked_few c.args.start c.args.recursive (line_in c.args.key c.args.section.now),
        few_taken (TakePicked c.args.key c.args.start c.args.recursive) waiters c.args.key
            (section_view c.args.section.now) c.take_picked-none_left.new.section c.requires.1 did.1
            c.tell_wants-sharers.ensures.few,
      ),
    )
