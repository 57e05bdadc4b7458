use Rattle.std.proofs.Common.{◌≡◌, refl}
use Rattle.std.proofs.Props.{props}
use Rattle.lock_values.specs.Ownership.{PlaceId}
use Rattle.core_words.specs.declared.views.View.{View}
use Rattle.lock_api_rw.specs.declared.held.Held.{Held}
use Rattle.lock_api_rw.specs.declared.shows.Holds as holds
use Rattle.lock_api_rw.specs.declared.shows.Shows as shows
use Rattle.lock_api_rw.proofs.held.HeldDerefMut.deref_mut.Goals as goal

same_place : (one other : PlaceId) → IsProp (one ≡ other)
same_place one other = Prim.hlevel props

same_view : (one other : View) → IsProp (one ≡ other)
same_view one other = Prim.hlevel props

-- guards of one lock and one value differ in nothing
same_guard : {K V X : Type 0} {k : holds.Ghosts K} {v : shows.Ghosts V X} (right : K) (value : V)
    (a b : v.opened value ≡ k.place right) (x y : v.opened_by value ≡ k.right_view right)
    → ◌≡◌ {A = Held K V X k v} (record { right = right; value = value; placed = a; seated = x })
    (record { right = right; value = value; placed = b; seated = y })
same_guard {v = v} right value a b x y = λ i. record {
  right = right;
  value = value;
  placed = same_place _ _ a b i;
  seated = same_view _ _ x y i;
}

pub returns : goal.returns
returns g c = (
  (refl, λ w. same_guard _ _ _ _ _ _),
  record {
    writes_back = tt;
    shows = c.show_mut.ensures.shows;
  },
)
