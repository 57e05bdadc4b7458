use Rattle.std.proofs.Common.{refl}
use Rattle.lot_machine.specs.Machine.{can_do, place_at}
use Rattle.lot_machine.proofs.Shape.{acted_there, went, went_told}
use Rattle.lot_machine.proofs.machine.Machine.go_from.Goals as goal

pub deliver-requires : goal.deliver-requires
deliver-requires g c =
    acted_there c.args.self.now c.perform.new.self c.args.thread c.args.thread
    (place_at c.args.self.now c.args.thread) c.args.act (can_do c.args.self.now c.args.act)
    c.perform.ensures.state c.requires.thread

pub returns-in-Some-clause-state : goal.returns-in-Some-clause-state
returns-in-Some-clause-state g c =
    went c.args.self.now c.perform.new.self c.deliver.new.self c.args.thread
    (place_at c.args.self.now c.args.thread) c.args.act c.in-Some.reply
    (can_do c.args.self.now c.args.act) c.requires.act refl c.in-Some.ensures.reply
    c.perform.ensures.state c.deliver.ensures.state

pub returns-in-Some-clause-outcome : goal.returns-in-Some-clause-outcome
returns-in-Some-clause-outcome g c =
    went_told c.args.self.now c.perform.new.self c.args.thread (place_at c.args.self.now c.args.thread)
    c.args.act c.in-Some.reply (can_do c.args.self.now c.args.act) c.requires.act refl
    c.in-Some.ensures.reply c.perform.ensures.state c.deliver.result c.deliver.ensures.outcome
