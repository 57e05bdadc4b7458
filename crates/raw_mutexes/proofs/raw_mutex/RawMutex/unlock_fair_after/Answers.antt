use Rattle.raw_mutexes.proofs.raw_mutex.RawMutex.unlock_fair_after.Goals as goal

pub unlock_fair_in_turn-requires-clause-waits : goal.unlock_fair_in_turn-requires-clause-waits
unlock_fair_in_turn-requires-clause-waits g c = (
  c.requires.begun.0,
  c.requires.begun.1.1 c.if-seen-eq-NOT_BEGUN.true,
)

pub hand_over-requires-clause-begun : goal.hand_over-requires-clause-begun
hand_over-requires-clause-begun g c = (c.requires.begun.0, c.requires.begun.1.0 c.if-seen-eq-NOT_BEGUN.false)

pub returns-then-seen-eq-NOT_BEGUN-clause-over : goal.returns-then-seen-eq-NOT_BEGUN-clause-over
returns-then-seen-eq-NOT_BEGUN-clause-over g c = λ before begun.
    c.unlock_fair_in_turn.ensures.over before (begun.1 c.if-seen-eq-NOT_BEGUN.true)

pub returns-else-seen-eq-NOT_BEGUN-clause-over : goal.returns-else-seen-eq-NOT_BEGUN-clause-over
returns-else-seen-eq-NOT_BEGUN-clause-over g c = λ before begun.
    c.hand_over.ensures.over before (begun.0 c.if-seen-eq-NOT_BEGUN.false)
