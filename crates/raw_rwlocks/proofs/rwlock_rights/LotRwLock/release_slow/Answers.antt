use Rattle.std.proofs.Common.{rules, ◌≡◌, subst}
use Rattle.steps_rwlock.specs.declared.purposes.RwLockPurpose.TheVariants.{Release}
use Rattle.parking_lot_core.specs.Tokens.{view_of}
use Rattle.run_locks.specs.Halves.{HasBegunRwLock}
use Rattle.run_locks.specs.declared.rwlock_calls.SlowPart.{SlowPart}
use Rattle.run_locks.specs.declared.rwlock_calls.SlowPart.TheVariants.{GoesOn, Missed, NotBegun}
use Rattle.raw_rwlocks.proofs.RwLockReleases.{begins_releasing, released}
use Rattle.raw_rwlocks.proofs.rwlock_rights.LotRwLock.release_slow.Goals as goal

pub call_slow-requires-clause-begun : goal.call_slow-requires-clause-begun
call_slow-requires-clause-begun g c = let begun = c.requires.begun in let is : c.args.rest ≡ GoesOn
    c.in-GoesOn.seen = search rules in (
      begun.1.0,
      (view_of begun.0).owns,
      begins_releasing c.args.self.now c.args.access begun.0 begun.1.0 begun.1.1 begun.1.2,
      subst (λ (r : SlowPart). HasBegunRwLock c.args.self.now.word c.args.self.now.settings.admission
          (Release c.args.access) r c.requires.begun.1.0 c.args.token.now) is begun.1.3,
    )

pub missed-requires-clause-begun : goal.missed-requires-clause-begun
missed-requires-clause-begun g c = let begun = c.requires.begun in let is : c.args.rest ≡ Missed
    c.in-Missed.seen c.in-Missed.found = search rules in (
      begun.1.0,
      (view_of begun.0).owns,
      begins_releasing c.args.self.now c.args.access begun.0 begun.1.0 begun.1.1 begun.1.2,
      subst (λ (r : SlowPart). HasBegunRwLock c.args.self.now.word c.args.self.now.settings.admission
          (Release c.args.access) r c.requires.begun.1.0 c.args.token.now) is begun.1.3,
    )

pub returns-in-GoesOn-clause-over : goal.returns-in-GoesOn-clause-over
returns-in-GoesOn-clause-over g c = λ before begun. let is : c.args.rest ≡ GoesOn c.in-GoesOn.seen =
    search rules in
    released c.args.self.now c.args.access before begun.0 begun.1 begun.2 begun.4 c.call_slow.new.token
    c.call_slow.result
    (c.call_slow.ensures.over begun.0 (view_of before).owns (begins_releasing c.args.self.now c.args.access
    before begun.0 begun.1 begun.2)
    (subst (λ (r : SlowPart). HasBegunRwLock c.args.self.now.word c.args.self.now.settings.admission
    (Release c.args.access) r begun.0 c.args.token.now) is begun.3))

pub returns-in-Missed-clause-over : goal.returns-in-Missed-clause-over
returns-in-Missed-clause-over g c = λ before begun. let is : c.args.rest ≡ Missed c.in-Missed.seen
    c.in-Missed.found = search rules in
    released c.args.self.now c.args.access before begun.0 begun.1 begun.2 begun.4 c.missed.new.token
    c.missed.result
    (c.missed.ensures.over begun.0 (view_of before).owns (begins_releasing c.args.self.now c.args.access
    before begun.0 begun.1 begun.2)
    (subst (λ (r : SlowPart). HasBegunRwLock c.args.self.now.word c.args.self.now.settings.admission
    (Release c.args.access) r begun.0 c.args.token.now) is begun.3))

pub call_in_turn-requires-clause-begun : goal.call_in_turn-requires-clause-begun
call_in_turn-requires-clause-begun g c = let begun = c.requires.begun in let is : c.args.rest ≡ NotBegun = search rules in (
  begun.1.0,
  (view_of begun.0).owns,
  begins_releasing c.args.self.now c.args.access begun.0 begun.1.0 begun.1.1 begun.1.2,
  subst (λ (r : SlowPart). HasBegunRwLock c.args.self.now.word c.args.self.now.settings.admission
      (Release c.args.access) r c.requires.begun.1.0 c.args.token.now) is begun.1.3,
)

pub returns-in-NotBegun-clause-over : goal.returns-in-NotBegun-clause-over
returns-in-NotBegun-clause-over g c = λ before begun. let is : c.args.rest ≡ NotBegun =
    search rules in
    released c.args.self.now c.args.access before begun.0 begun.1 begun.2 begun.4 c.call_in_turn.new.token
    c.call_in_turn.result
    (c.call_in_turn.ensures.over begun.0 (view_of before).owns (begins_releasing c.args.self.now c.args.access
    before begun.0 begun.1 begun.2)
    (subst (λ (r : SlowPart). HasBegunRwLock c.args.self.now.word c.args.self.now.settings.admission
    (Release c.args.access) r begun.0 c.args.token.now) is begun.3))
