use Rattle.lot_machine.proofs.NewLocks.{new_words}
use Rattle.lot_machine.proofs.laws.new_words_are_true.Goals as goal

pub returns : goal.returns
returns c = new_words
