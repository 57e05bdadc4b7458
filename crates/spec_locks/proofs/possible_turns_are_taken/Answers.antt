use Rattle.spec_locks.proofs.Laws.{possible_turns}
use Rattle.spec_locks.proofs.possible_turns_are_taken.Goals as goal

pub returns : goal.returns
returns c = possible_turns
