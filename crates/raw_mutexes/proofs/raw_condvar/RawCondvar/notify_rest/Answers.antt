use Rattle.std.proofs.Common.{sym, subst}
use Rattle.run_locks.specs.CondvarCalls.{HasLooked}
use Rattle.parking_lot_core.specs.declared.lot.ParkingLot.{ParkingLot}
use Rattle.parking_lot_core.specs.declared.tokens.Token.{Token}
use Rattle.raw_mutexes.specs.CondvarWords.{lot_of}
use Rattle.raw_mutexes.proofs.raw_condvar.RawCondvar.notify_rest.Goals as goal

pub notify_slow-requires-clause-looked : goal.notify_slow-requires-clause-looked
notify_slow-requires-clause-looked g c = let number = c.args.self.now.word.number in let before =
    c.requires.looked.0 in (
      before,
      subst (λ (lot : ParkingLot). HasLooked lot.words.count number c.args.seen before
          c.args.token.now) (sym c.deref.ensures) c.requires.looked.1,
    )

pub returns-clause-path : goal.returns-clause-path
returns-clause-path g c = let number = c.args.self.now.word.number in
    λ (before : Token) (looked : HasLooked (lot_of c.args.self.now).words.count number c.args.seen before
    c.args.token.now).
    c.notify_slow.ensures.path before (subst (λ (lot : ParkingLot). HasLooked lot.words.count number
    c.args.seen before c.args.token.now) (sym c.deref.ensures) looked)
