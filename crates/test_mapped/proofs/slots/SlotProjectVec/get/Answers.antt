use Rattle.test_mapped.proofs.SlotLemmas.{found_there, vec_bound}
use Rattle.test_mapped.proofs.slots.SlotProjectVec.get.Goals as goal

pub index-requires : goal.index-requires
index-requires g c =
    vec_bound c.args.value.now.items c.args.value.now.len c.args.self.at c.args.self.missing
    c.args.value.now.ok.0 c.requires

pub returns : goal.returns
returns g c =
    found_there c.args.value.now.items c.args.self.at c.args.self.missing c.index.result.now c.requires
    c.index.ensures
