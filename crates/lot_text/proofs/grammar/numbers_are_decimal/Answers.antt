use Rattle.lot_text.proofs.NumberLaw.{number_is_decimal}
use Rattle.lot_text.proofs.grammar.numbers_are_decimal.Goals as goal

pub returns : goal.returns
returns c = number_is_decimal
