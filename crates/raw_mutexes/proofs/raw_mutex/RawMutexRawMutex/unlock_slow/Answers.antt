use Rattle.raw_mutexes.proofs.raw_mutex.RawMutexRawMutex.unlock_slow.Goals as goal

pub unlock_in_turn-requires-clause-waits : goal.unlock_in_turn-requires-clause-waits
unlock_in_turn-requires-clause-waits g c = (c.requires.begun.0, c.requires.begun.1.1 c.if-seen-eq-NOT_BEGUN.true)

pub unlock_after-requires-clause-begun : goal.unlock_after-requires-clause-begun
unlock_after-requires-clause-begun g c = (c.requires.begun.0, c.requires.begun.1.0 c.if-seen-eq-NOT_BEGUN.false)

pub returns-then-seen-eq-NOT_BEGUN-clause-over : goal.returns-then-seen-eq-NOT_BEGUN-clause-over
returns-then-seen-eq-NOT_BEGUN-clause-over g c = λ before begun.
    c.unlock_in_turn.ensures.over before (begun.1 c.if-seen-eq-NOT_BEGUN.true)

pub returns-else-seen-eq-NOT_BEGUN-clause-over : goal.returns-else-seen-eq-NOT_BEGUN-clause-over
returns-else-seen-eq-NOT_BEGUN-clause-over g c = λ before begun.
    c.unlock_after.ensures.over before (begun.0 c.if-seen-eq-NOT_BEGUN.false)
