use Rattle.spec_locks.proofs.CodeLaws.{words_follow}
use Rattle.spec_locks.proofs.words_follow.Goals as goal

pub returns : goal.returns
returns c = words_follow
