use Rattle.lot_text.proofs.NamesOnce.{one_more}
use Rattle.lot_text.proofs.names.Names.push.Goals as goal

pub invariant_of-self-in_err-reserve : goal.invariant_of-self-in_err-reserve
invariant_of-self-in_err-reserve c = rw c.reserve.ensures.items c.self.invariant

pub invariant_of-self-2 : goal.invariant_of-self-2
invariant_of-self-2 c = rw (c.push_reserved.ensures.items, c.reserve.ensures.items)
    (one_more c.self.inside.names.items c.args.name c.self.invariant (rw (← c.self.view_is) at c.requires))
