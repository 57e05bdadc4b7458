use Rattle.std.proofs.Common.{subst, true}
use Rattle.spec_locks.specs.declared.outcomes.Answer.{Answer}
use Rattle.parking_lot_core.specs.declared.tokens.Token.{Token}
use Rattle.run_locks.specs.CondvarCalls.{HasLooked, NotifiesBy}
use Rattle.raw_mutexes.specs.CondvarWords.{lot_of}
use Rattle.raw_mutexes.proofs.CondvarAnswers.{moved_all}
use Rattle.raw_mutexes.proofs.raw_condvar.RawCondvarRawCondvar.notify_all_slow.Goals as goal

pub returns-clause-path : goal.returns-clause-path
returns-clause-path g c = let number = c.args.self.now.word.number in
    λ (before : Token) (looked : HasLooked (lot_of c.args.self.now).words.count number c.args.seen before
    c.args.token.now). (
      subst (λ (a : Answer). NotifiesBy number true a before c.notify_rest.new.token) c.in-Number.is
          (c.notify_rest.ensures.path before looked),
      moved_all (lot_of c.args.self.now).words.count number c.args.seen before c.args.token.now
          c.notify_rest.new.token looked c.notify_rest.result c.in-Number.number c.in-Number.is
          c.notify_rest.ensures.record,
    )
