use Rattle.run_once_and_semaphores.proofs.Knowing.{found_done}
use Rattle.run_once_and_semaphores.proofs.OnceCalling.{looked_since}
use Rattle.run_once_and_semaphores.proofs.once.Once.begin.Goals as goal

pub returns-clause-seen : goal.returns-clause-seen
returns-clause-seen g c = looked_since c.args.self.now.word.number c.begin.result c.args.token.now
    c.may_begin.new.token c.begin.new.token c.may_begin.ensures.own.0.1 c.may_begin.ensures.view
    c.may_begin.ensures.untold c.begin.ensures.seen

pub returns-clause-done : goal.returns-clause-done
returns-clause-done g c = λ done. found_done c.args.self.now.word.number c.begin.result c.args.token.now
    c.begin.new.token done (looked_since c.args.self.now.word.number c.begin.result c.args.token.now
    c.may_begin.new.token c.begin.new.token c.may_begin.ensures.own.0.1 c.may_begin.ensures.view
    c.may_begin.ensures.untold c.begin.ensures.seen)
