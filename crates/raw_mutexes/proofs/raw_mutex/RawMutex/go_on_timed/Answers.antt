use Rattle.raw_mutexes.proofs.raw_mutex.RawMutex.go_on_timed.Goals as goal

pub lock_timed_in_turn-requires-clause-waits : goal.lock_timed_in_turn-requires-clause-waits
lock_timed_in_turn-requires-clause-waits g c = (
  c.requires.begun.0,
  c.requires.begun.1.1 c.if-seen-eq-NOT_BEGUN.true,
)

pub lock_timed_after-requires-clause-begun : goal.lock_timed_after-requires-clause-begun
lock_timed_after-requires-clause-begun g c = (
  c.requires.begun.0,
  c.requires.begun.1.0 c.if-seen-eq-NOT_BEGUN.false,
)

pub returns-then-seen-eq-NOT_BEGUN-clause-over : goal.returns-then-seen-eq-NOT_BEGUN-clause-over
returns-then-seen-eq-NOT_BEGUN-clause-over g c = λ before begun.
    c.lock_timed_in_turn.ensures.over before (begun.1 c.if-seen-eq-NOT_BEGUN.true)

pub returns-clause-over : goal.returns-clause-over
returns-clause-over g c = λ before begun.
    c.lock_timed_after.ensures.over before (begun.0 c.if-seen-eq-NOT_BEGUN.false)
