use Rattle.std.proofs.Common.{subst}
use Rattle.state_search.specs.Rules.{IsWrong}
use Rattle.lot_program.specs.States.{rules_of_program}
use Rattle.lot_explore.specs.Walks.{Way}
use Rattle.lot_explore.specs.Wrongs.{IsWrongBy}
use Rattle.lot_explore.proofs.walks.Walk.wrong.Goals as goal

pub returns-in-Some-clause-judged : goal.returns-in-Some-clause-judged
returns-in-Some-clause-judged g c =
    subst (λ (w : Way). IsWrong (rules_of_program w.program) w.state × IsWrongBy w.program w.state
    c.in-Some.wrong)
    c.self.view_is c.in-Some.ensures.found
