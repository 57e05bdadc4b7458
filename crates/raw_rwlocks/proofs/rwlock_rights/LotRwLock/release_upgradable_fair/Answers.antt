use Rattle.std.proofs.Common.{rules, ◌≡◌, ◌∙◌, subst}
use Rattle.spec_locks.specs.declared.calls.Access.TheVariants as access
use Rattle.parking_lot_core.specs.declared.lot.ParkingLot.{ParkingLot}
use Rattle.parking_lot_core.specs.Tokens.{IsTokenOf, view_of}
use Rattle.raw_rwlocks.specs.RwLockUsers.{lot_in}
use Rattle.raw_rwlocks.proofs.RwLockReleases.{begins_releasing}
use Rattle.raw_rwlocks.proofs.rwlock_rights.LotRwLock.release_upgradable_fair.Goals as goal

pub returns-clause-token : goal.returns-clause-token
returns-clause-token g c =
    let lot : c.deref-lot.result.now ≡ lot_in c.args.self.now = search rules in
    let own = c.release_upgradable.ensures.own in
    let joined = c.join.ensures.own.0.1 in
    let owns = begins_releasing c.args.self.now access.Upgradable c.args.token.now c.join.new.token joined
    c.join.ensures.joined in (
      subst (λ (l : ParkingLot). IsTokenOf l c.release_upgradable.new.token) lot own.0,
      (own.1 ∙ joined, c.release_upgradable.ensures.over (view_of c.args.token.now).owns owns),
    )
