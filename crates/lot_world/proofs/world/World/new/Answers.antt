use Rattle.lot_machine.proofs.Shape.{opening_well_formed}
use Rattle.lot_laws.proofs.hands.CountsPut.{opening_counted}
use Rattle.lot_laws.proofs.promises.Headline.{opens}
use Rattle.lot_laws.proofs.sites.Opening.{opening_condvars, opening_inductive, unfilled_0}
use Rattle.lot_laws.proofs.promises.PromisesKept.{kept, opening_is}
use Rattle.lot_laws.proofs.mutex.FairMutexes.{opening_settled}
use Rattle.lot_world.proofs.world.World.new.Goals as goal

pub invariant_of-result : goal.invariant_of-result
invariant_of-result g c = rw c.in_ok-new.ensures.ok (record {
  well_formed = opening_well_formed c.args.kinds.now c.args.threads c.requires.few_locks;
  inductive = opening_inductive c.args.kinds.now c.args.threads c.requires.some c.requires.fit;
  counted = opening_counted c.args.kinds.now c.args.threads;
  condvars = opening_condvars c.args.kinds.now c.args.threads;
  settled = opening_settled c.args.kinds.now c.args.threads;
})

pub returns-clause-opening : goal.returns-clause-opening
returns-clause-opening g c =
    let inductive = opening_inductive c.args.kinds.now c.args.threads c.requires.some c.requires.fit in
    rw c.in_ok-new.ensures.ok (
      opening_is c.args.kinds.now c.args.threads,
      kept _ inductive (opening_condvars c.args.kinds.now c.args.threads) (opening_settled c.args.kinds.now
          c.args.threads),
    )

pub returns-clause-headline : goal.returns-clause-headline
returns-clause-headline g c = rw c.in_ok-new.ensures.ok (
  opens c.args.kinds.now c.args.threads,
  unfilled_0 c.args.kinds.now,
)
