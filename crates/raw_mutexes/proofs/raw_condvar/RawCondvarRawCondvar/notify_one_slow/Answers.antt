use Rattle.std.proofs.Common.{subst, false}
use Rattle.spec_locks.specs.declared.outcomes.Answer.{Answer}
use Rattle.parking_lot_core.specs.declared.tokens.Token.{Token}
use Rattle.run_locks.specs.CondvarCalls.{HasLooked, NotifiesBy}
use Rattle.raw_mutexes.specs.CondvarWords.{lot_of}
use Rattle.raw_mutexes.proofs.CondvarAnswers.{moved_none, moved_one}
use Rattle.raw_mutexes.proofs.raw_condvar.RawCondvarRawCondvar.notify_one_slow.Goals as goal

pub returns-in-Yes-clause-path : goal.returns-in-Yes-clause-path
returns-in-Yes-clause-path g c = let number = c.args.self.now.word.number in
    λ (before : Token) (looked : HasLooked (lot_of c.args.self.now).words.count number c.args.seen before
    c.args.token.now). (
      subst (λ (a : Answer). NotifiesBy number false a before c.notify_rest.new.token) c.in-Yes.is
          (c.notify_rest.ensures.path before looked),
      moved_one (lot_of c.args.self.now).words.count number c.args.seen before c.args.token.now
          c.notify_rest.new.token looked c.notify_rest.result c.in-Yes.is c.go_on_where_one_moved.ensures
          c.notify_rest.ensures.record,
    )

pub returns-in_default-clause-path : goal.returns-in_default-clause-path
returns-in_default-clause-path g c = let number = c.args.self.now.word.number in
    λ (before : Token) (looked : HasLooked (lot_of c.args.self.now).words.count number c.args.seen before
    c.args.token.now).
    let none = moved_none (lot_of c.args.self.now).words.count number c.args.seen before c.args.token.now
    c.notify_rest.new.token looked c.notify_rest.result c.in_default.not-Yes c.notify_rest.ensures.record
    in (
      subst (λ (a : Answer). NotifiesBy number false a before c.notify_rest.new.token) none.0
          (c.notify_rest.ensures.path before looked),
      none.1,
    )
