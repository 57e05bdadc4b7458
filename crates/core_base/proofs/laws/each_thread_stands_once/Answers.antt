use Rattle.core_base.specs.Picks.{lock_answer, lock_picker, next_picker}
use Rattle.core_base.proofs.Seats.{seated_append, seated_requeued, seated_without, seated_without_first}
use Rattle.core_base.proofs.Seats.{seated_without_key, seated_without_picked}
use Rattle.core_base.proofs.laws.each_thread_stands_once.Goals as goal

pub returns : goal.returns
returns c waiters capacity seated = record {
  appended = λ key thread want below. seated_append key thread capacity want waiters seated below;
  first_taken = λ key. seated_without_first key capacity waiters seated;
  all_taken = λ key. seated_without_key key capacity waiters seated;
  picked = λ start recursive key. seated_without_picked lock_answer next_picker (lock_picker start recursive)
      key capacity waiters seated;
  requeued = λ op from to. seated_requeued op from to capacity waiters seated;
  removed = λ thread. seated_without thread capacity waiters seated;
}
