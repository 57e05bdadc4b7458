use Rattle.std.proofs.Common.{arith}
use Rattle.lot_text.proofs.SentLemmas.{number_one}
use Rattle.lot_text.proofs.output.Page.put_number.Goals as goal

pub returns-then-n-lt10 : goal.returns-then-n-lt10
returns-then-n-lt10 g c = number_one c.args.n _ _ c.args.self.now c.put.new.self
    (omega (arith, c.if-n-lt10.true)) c.put.ensures
