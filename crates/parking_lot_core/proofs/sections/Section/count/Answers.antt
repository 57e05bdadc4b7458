use Rattle.parking_lot_core.proofs.sections.Section.count.Goals as goal

pub count_beside-requires-clause-two : goal.count_beside-requires-clause-two
count_beside-requires-clause-two c = let self = c.args.self.now in
    rw (c.deref.ensures, c.deref-in-Some.ensures) ((self.two c.in-Some.other c.in-Some.is).0, self.seated.1)

pub count_beside-requires-clause-key : goal.count_beside-requires-clause-key
count_beside-requires-clause-key c = let self = c.args.self.now in
    rw (c.deref.ensures, c.deref-in-Some.ensures) ((self.two c.in-Some.other c.in-Some.is).1.each c.args.key
    c.requires)
