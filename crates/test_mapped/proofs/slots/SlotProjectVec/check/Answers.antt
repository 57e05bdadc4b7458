use Rattle.test_mapped.proofs.SlotLemmas.{check_missing, check_there}
use Rattle.test_mapped.proofs.slots.SlotProjectVec.check.Goals as goal

pub returns-then-self-len : goal.returns-then-self-len
returns-then-self-len g c =
    check_there c.args.value.now.items c.args.value.now.len c.len.result c.args.self.at c.args.self.missing
    c.args.value.now.ok.0 c.len.ensures c.if-self-len.true

pub returns-else-self-len : goal.returns-else-self-len
returns-else-self-len g c =
    check_missing c.args.value.now.items c.args.value.now.len c.len.result c.args.self.at c.args.self.missing
    c.args.value.now.ok.0 c.len.ensures c.if-self-len.false
