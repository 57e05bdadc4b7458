use Rattle.lock_api.proofs.mutex.Mutex.try_with.Goals as goal

pub returns-clause-ran : goal.returns-clause-ran
returns-clause-ran g c = (_, _, c.run_on-answer.ensures)
