use Rattle.std.proofs.Common.{sym, subst}
use Rattle.spec_locks.specs.declared.calls.MutexCall.TheVariants.{Lock}
use Rattle.parking_lot_core.specs.declared.tokens.Token.{Token}
use Rattle.raw_mutexes.specs.Begun.{HasBegun}
use Rattle.raw_mutexes.specs.declared.raw_mutex.RawMutex.{RawMutex}
use Rattle.raw_mutexes.proofs.raw_fair_mutex.RawFairMutexRawMutex.lock_slow.Goals as goal

pub lock_slow-requires-clause-begun : goal.lock_slow-requires-clause-begun
lock_slow-requires-clause-begun g c = subst (λ (m : RawMutex). (before : Token)
    × HasBegun m.word.number Lock c.args.seen before c.args.token.now) (sym c.self.view_is) c.requires.begun
