use Rattle.std.proofs.Common.{◌≡◌, refl}
use Rattle.std.proofs.Props.{props}
use Rattle.core_parts.specs.PermitIds.{PermitId}
use Rattle.lock_api.specs.declared.guarded.Guarded.{Guarded}
use Rattle.lock_api.specs.declared.shows.Keeps as keeps
use Rattle.lock_api.specs.declared.shows.Shows as shows
use Rattle.lock_api.proofs.guarded.GuardedDerefMut.deref_mut.Goals as goal

same_permit : (one other : PermitId) → IsProp (one ≡ other)
same_permit one other = Prim.hlevel props

-- guards of one lock and one value differ in nothing
same_guard : {K V X : Type 0} {k : keeps.Ghosts K} {v : shows.Ghosts V X} (taken : K) (value : V)
    (x y : v.opened_by value ≡ k.permit taken)
    → ◌≡◌ {A = Guarded K V X k v} (record {
      taken = taken;
      value = value;
      tied = x;
    }) (record { taken = taken; value = value; tied = y })
same_guard {v = v} taken value x y = λ i. record {
  taken = taken;
  value = value;
  tied = same_permit _ _ x y i;
}

pub returns : goal.returns
returns g c = ((refl, λ w. same_guard _ _ _ _), record { writes_back = tt; shows = c.show_mut.ensures.shows })
