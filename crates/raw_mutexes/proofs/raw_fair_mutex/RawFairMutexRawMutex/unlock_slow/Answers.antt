use Rattle.std.proofs.Common.{sym, subst}
use Rattle.spec_locks.specs.declared.calls.MutexCall.TheVariants.{UnlockFair}
use Rattle.parking_lot_core.specs.declared.tokens.Token.{Token}
use Rattle.raw_mutexes.specs.Begun.{HasBegun}
use Rattle.raw_mutexes.specs.declared.raw_mutex.RawMutex.{RawMutex}
use Rattle.raw_mutexes.proofs.raw_fair_mutex.RawFairMutexRawMutex.unlock_slow.Goals as goal

pub unlock_fair_after-requires-clause-begun : goal.unlock_fair_after-requires-clause-begun
unlock_fair_after-requires-clause-begun g c = subst (λ (m : RawMutex). (before : Token)
    × HasBegun m.word.number UnlockFair c.args.seen before c.args.token.now) (sym c.self.view_is)
    c.requires.begun
