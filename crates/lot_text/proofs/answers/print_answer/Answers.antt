use Rattle.lot_text.proofs.answers.print_answer.Goals as goal

pub returns-in-ReadersFull : goal.returns-in-ReadersFull
returns-in-ReadersFull g c = rw c.in-ReadersFull.is c.put-in-ReadersFull.ensures

pub returns-in-TwoMutexes : goal.returns-in-TwoMutexes
returns-in-TwoMutexes g c = rw c.in-TwoMutexes.is c.put-in-TwoMutexes.ensures
