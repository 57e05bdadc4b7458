use Rattle.std.proofs.Common.{◌∙◌, ap, refl, sym}
use Rattle.lock_values.proofs.MappedLemmas.{same_mapped}
use Rattle.lock_values.proofs.mapped.MappedDerefMut.deref_mut.Goals as goal

pub returns : goal.returns
returns g c = (
  (
    refl,
    λ w. same_mapped _ _ c.args.self.now.by
        (ap (λ v. g.G.Shows.written c.args.self.now.guard (g.P.Project.written c.args.self.now.by v w))
        c.show_mut.ensures.shows) _ _,
  ),
  record {
    writes_back = tt;
    found = ap (g.P.Project.finds c.args.self.now.by) (sym c.show_mut.ensures.shows)
        ∙ c.get_mut.ensures.found;
  },
)
