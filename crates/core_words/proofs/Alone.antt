-- An exclusive owner stands alone in every code.
use Rattle.std.proofs.Common.{arith}
use Rattle.core_words.specs.Laws.{ExclusiveIsAlone}
use Rattle.core_words.specs.declared.words.WordKind.TheVariants.{Mutex, RwLock, Condvar, Once, Count}
use Rattle.core_words.specs.declared.words.WordKind.TheVariants.{Semaphore}

pub exclusive_alone : ExclusiveIsAlone
exclusive_alone Mutex n owners code some = let all = code.1 in let one = code.2 in omega arith
exclusive_alone RwLock n owners code some = let few = code.1 in (
  omega arith,
  omega arith,
  omega arith,
  omega arith,
  code.2 some,
)
exclusive_alone Condvar n owners code some = tt
exclusive_alone Once n owners code some = tt
exclusive_alone Count n owners code some = tt
exclusive_alone (Semaphore permits) n owners code some = tt
