use Rattle.core_words.proofs.SemaphoreSteps.{semaphore_trades}
use Rattle.core_words.proofs.laws.semaphore_trades.Goals as goal

pub returns : goal.returns
returns c = semaphore_trades
