use Rattle.core_clocks.specs.Clocks.{TimeIsUp}
use Rattle.run_base.proofs.Leading.{places_lead}
use Rattle.run_base.proofs.driver.places_lead.Goals as goal

pub returns : goal.returns
returns g c = places_lead (TimeIsUp g.C.Clock.tells c.args._limit)
