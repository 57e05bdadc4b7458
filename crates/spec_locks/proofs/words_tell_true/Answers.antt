use Rattle.spec_locks.proofs.CodeLaws.{words_tell_true}
use Rattle.spec_locks.proofs.words_tell_true.Goals as goal

pub returns : goal.returns
returns c = words_tell_true
