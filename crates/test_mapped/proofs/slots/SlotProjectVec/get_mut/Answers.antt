use Rattle.std.proofs.Common.{refl}
use Rattle.test_mapped.proofs.SlotLemmas.{found_there, vec_bound}
use Rattle.test_mapped.proofs.slots.SlotProjectVec.get_mut.Goals as goal

pub index_mut-requires : goal.index_mut-requires
index_mut-requires g c =
    vec_bound c.args.value.now.items c.args.value.now.len c.args.by.at c.args.by.missing c.args.value.now.ok.0
    c.requires

pub returns : goal.returns
returns g c = (
  (refl, λ w. refl),
  record {
    writes_back = tt;
    found = found_there c.args.value.now.items c.args.by.at c.args.by.missing c.index_mut.result.now
        c.requires c.index_mut.ensures.value;
  },
)
