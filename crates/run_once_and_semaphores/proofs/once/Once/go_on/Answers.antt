use Rattle.std.proofs.Common.{◌∙◌, sym, subst}
use Rattle.core_clocks.specs.Clocks.{TimeIsUp}
use Rattle.run_base.specs.Telling.{owns_of}
use Rattle.parking_lot_core.specs.Tokens.{last_of}
use Rattle.parking_lot_core.specs.declared.tokens.Token.{Token}
use Rattle.run_once_and_semaphores.specs.OnceCalls.{LookOwns, LooksBy}
use Rattle.run_once_and_semaphores.specs.declared.once.Came.{Came}
use Rattle.run_once_and_semaphores.specs.declared.once_calls.Look.{Look}
use Rattle.run_once_and_semaphores.specs.Looks.{CameTo}
use Rattle.run_once_and_semaphores.proofs.Knowing.{came}
use Rattle.run_once_and_semaphores.proofs.once.Once.go_on.Goals as goal

pub returns-in-Ended-clause-came : goal.returns-in-Ended-clause-came
returns-in-Ended-clause-came g c = let rest = c.begin_slow.ensures in let n = c.args.self.now.word.number in
    λ (before : Token) saw. subst (λ (to : Came). CameTo (TimeIsUp g.C.Clock.tells c.args.limit.now)
    c.args.self.now.word.number c.args.call before c.begin_slow.new.token to) (sym c.came_by.ensures)
    (came n (TimeIsUp g.C.Clock.tells c.args.limit.now) c.args.call before c.begin_slow.new.token
    c.in-Ended.answer (rest.own.1 ∙ saw.0)
    (subst (λ (look : Look). LooksBy c.args.self.now.word.number c.args.call look before
    c.begin_slow.new.token) c.in-Ended.is (rest.path before saw))
    (subst (λ (look : Look). LookOwns (TimeIsUp g.C.Clock.tells c.args.limit.now) c.args.self.now.word.number
    c.args.call look (owns_of before) (owns_of c.begin_slow.new.token) (last_of c.begin_slow.new.token))
    c.in-Ended.is (rest.over before saw)))
