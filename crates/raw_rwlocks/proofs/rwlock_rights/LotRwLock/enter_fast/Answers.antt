use Rattle.parking_lot_core.specs.Tokens.{view_of}
use Rattle.run_locks.proofs.RwLockCalling.{begins_entering}
use Rattle.raw_rwlocks.proofs.rwlock_rights.LotRwLock.enter_fast.Goals as goal

pub call_fast-requires-clause-right : goal.call_fast-requires-clause-right
call_fast-requires-clause-right g c = let owns = (view_of c.args.token.now).owns in
    (owns, begins_entering c.args.self.now.word.number c.args.access c.args.patience owns)
