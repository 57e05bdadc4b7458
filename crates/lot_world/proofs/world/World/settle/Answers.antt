use Rattle.std.proofs.Common.{subst}
use Rattle.lot_laws.specs.SitesOf.{IsWorld}
use Rattle.lot_rests.specs.Rests.{GoesRound}
use Rattle.lot_rests.proofs.Rest.{quiet}
use Rattle.lot_rests.proofs.Rounds.{HasGone, gone_rests, gone_size, gone_world, no_round, one_round}
use Rattle.lot_rests.proofs.Rounds.{round_lowers, settles}
use Rattle.lot_world.proofs.world.World.settle.Goals as goal

pub rounds-init : goal.rounds-init
rounds-init g c = no_round c.args.self.now

pub rounds-preserved : goal.rounds-preserved
rounds-preserved g c = one_round c.args.self.now c.rounds.self c.go_round.new.self c.go_round.result
    c.rounds.invariant c.go_round.ensures

pub rounds-smaller : goal.rounds-smaller
rounds-smaller g c =
    let before : IsWorld c.self.inside.machine = c.self.invariant in
    let holds : IsWorld c.args.self.now = rw (← c.self.view_is) before in
    round_lowers c.rounds.self c.go_round.new.self (gone_world c.args.self.now c.rounds.self holds
    c.rounds.invariant)
    (subst (λ b. GoesRound c.rounds.self b c.go_round.new.self) c.rounds-test.true c.go_round.ensures)

pub returns-clause-settles : goal.returns-clause-settles
returns-clause-settles g c =
    let before : IsWorld c.self.inside.machine = c.self.invariant in
    let holds : IsWorld c.args.self.now = rw (← c.self.view_is) before in
    let gone : HasGone c.args.self.now c.go_round.new.self = one_round c.args.self.now c.rounds.self
    c.go_round.new.self c.go_round.result c.rounds.invariant c.go_round.ensures in
    settles c.args.self.now c.go_round.new.self holds gone (c.go_round.ensures.stuck c.rounds-test.false)

pub returns-clause-quiet : goal.returns-clause-quiet
returns-clause-quiet g c =
    let before : IsWorld c.self.inside.machine = c.self.invariant in
    let holds : IsWorld c.args.self.now = rw (← c.self.view_is) before in
    let gone : HasGone c.args.self.now c.go_round.new.self = one_round c.args.self.now c.rounds.self
    c.go_round.new.self c.go_round.result c.rounds.invariant c.go_round.ensures in
    quiet c.go_round.new.self (gone_world c.args.self.now c.go_round.new.self holds gone)
    (c.go_round.ensures.stuck c.rounds-test.false)

pub returns-clause-rests : goal.returns-clause-rests
returns-clause-rests g c =
    let before : IsWorld c.self.inside.machine = c.self.invariant in
    let holds : IsWorld c.args.self.now = rw (← c.self.view_is) before in
    let gone : HasGone c.args.self.now c.go_round.new.self = one_round c.args.self.now c.rounds.self
    c.go_round.new.self c.go_round.result c.rounds.invariant c.go_round.ensures in
    gone_rests c.go_round.new.self (gone_world c.args.self.now c.go_round.new.self holds gone)
    (c.go_round.ensures.stuck c.rounds-test.false)

pub returns-clause-same_size : goal.returns-clause-same_size
returns-clause-same_size g c =
    gone_size c.args.self.now c.go_round.new.self (one_round c.args.self.now c.rounds.self c.go_round.new.self
    c.go_round.result c.rounds.invariant c.go_round.ensures)
