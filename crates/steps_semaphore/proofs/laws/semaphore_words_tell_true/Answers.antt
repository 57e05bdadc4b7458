use Rattle.steps_semaphore.proofs.TendedKept.{words_tell}
use Rattle.steps_semaphore.proofs.laws.semaphore_words_tell_true.Goals as goal

pub returns : goal.returns
returns c = words_tell
