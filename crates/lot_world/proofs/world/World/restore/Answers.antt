use Rattle.std.proofs.Common.{◌≡◌, ◌*◌, length, sym, ap, ◌∙◌, subst}
use Rattle.lot_laws.specs.SitesOf.{IsWorld}
use Rattle.lot_machine.specs.Copies.{CanRestore}
use Rattle.lot_machine.specs.Machine.{State}
use Rattle.lot_world.proofs.StandsOnce.{stand_once, stand_under}
use Rattle.lot_world.proofs.world.World.restore.Goals as goal

-- two worlds with as many threads and locks
can_restore : (w v : State) → IsWorld w → IsWorld v → length v.places ≡ length w.places → length v.locks
    ≡ length w.locks → CanRestore w v
can_restore w v before after threads locks = record {
  threads = threads;
  locks = locks;
  shares = after.inductive.numbers.locks ∙ locks ∙ sym before.inductive.numbers.locks;
  sections = after.well_formed.sections ∙ ap (λ n. 2 * n) locks ∙ sym before.well_formed.sections;
  queues = after.well_formed.queues;
  rights = before.inductive.numbers.locks;
  rows = before.inductive.numbers.threads;
  rows_after = after.inductive.numbers.threads;
  once = stand_once v after;
  below = after.well_formed.waiting;
  keyed = stand_under v after;
}

pub restore-requires : goal.restore-requires
restore-requires g c =
    let w = c.self.inside.machine in
    let s = g.P.Parts.state c.args.parts.now in
    let same = c.self.view_is in
    can_restore w s c.self.invariant c.requires.world (c.requires.size.threads
    ∙ ap (λ (v : State). length v.places) (sym same)) (c.requires.size.locks
    ∙ ap (λ (v : State). length v.locks) (sym same))

pub invariant_of-self : goal.invariant_of-self
invariant_of-self g c = subst IsWorld (sym c.restore.ensures) c.requires.world
