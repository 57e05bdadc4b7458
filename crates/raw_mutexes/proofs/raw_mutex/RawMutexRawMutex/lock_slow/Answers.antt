use Rattle.raw_mutexes.proofs.raw_mutex.RawMutexRawMutex.lock_slow.Goals as goal

pub lock_in_turn-requires-clause-waits : goal.lock_in_turn-requires-clause-waits
lock_in_turn-requires-clause-waits g c = (c.requires.begun.0, c.requires.begun.1.1 c.if-seen-eq-NOT_BEGUN.true)

pub lock_after-requires-clause-begun : goal.lock_after-requires-clause-begun
lock_after-requires-clause-begun g c = (c.requires.begun.0, c.requires.begun.1.0 c.if-seen-eq-NOT_BEGUN.false)

pub returns-then-seen-eq-NOT_BEGUN-clause-over : goal.returns-then-seen-eq-NOT_BEGUN-clause-over
returns-then-seen-eq-NOT_BEGUN-clause-over g c = λ before begun.
    c.lock_in_turn.ensures.over before (begun.1 c.if-seen-eq-NOT_BEGUN.true)

pub returns-clause-over : goal.returns-clause-over
returns-clause-over g c = λ before begun.
    c.lock_after.ensures.over before (begun.0 c.if-seen-eq-NOT_BEGUN.false)
