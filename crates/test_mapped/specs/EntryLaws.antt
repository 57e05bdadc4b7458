-- A value that was written at a key is found there.
use Rattle.std.specs.Prelude.{◌≡◌, ℕ, Bool, true, false, cond, List, [], ◌∷◌, Option, Some, None, Ok}
use Rattle.std.specs.Prelude.{map, not, ◌+◌}
use Rattle.std.specs.Option.{ok_or}
use Rattle.std.specs.List.{position_or_len}
use Rattle.std.specs.Map.{lookup}
use Rattle.std.proofs.Common.{ap, ◌∙◌, refl}
use Rattle.std.proofs.Math.Numerals.{one-add}
use Rattle.indexmap.specs.IndexMap.{IndexMap, get_by, with_value_at, set_value_at}
use Rattle.test_mapped.specs.Entries.{place_in}

written_at : {K X : Type 0} (test : K → Bool) (e : K × X) (es : List (K × X)) (n : ℕ) (v w : X)
    (passes : Bool) → test e.0 ≡ passes
    → (lookup test es ≡ Some v → lookup test (set_value_at es n w) ≡ Some w)
    → cond passes (Some e.1) (lookup test es) ≡ Some v
    → lookup test (set_value_at (e ∷ es) (cond (not passes) (1 + n) 0) w) ≡ Some w
written_at test e es n v w true is deeper there = ap (λ b. cond b (Some w) (lookup test es)) is
written_at test e es n v w false is deeper there =
    ap (λ k. lookup test (set_value_at (e ∷ es) k w)) (one-add n)
    ∙ ap (λ b. cond b (Some e.1) (lookup test (set_value_at es n w))) is
    ∙ deeper there

pub written_there : {K X : Type 0} (test : K → Bool) (es : List (K × X)) (v w : X) → lookup test es ≡ Some v
    → lookup test (set_value_at es (position_or_len test (map (λ e. e.0) es)) w) ≡ Some w
written_there test [] v w is = cc
written_there test (e ∷ es) v w is =
    written_at test e es (position_or_len test (map (λ e. e.0) es)) v w (test e.0) refl
    (written_there test es v w) is

pub some_found : {X E : Type 0} (one : Option X) (missing : E) (found : X) → ok_or one missing ≡ Ok found
    → one ≡ Some found
some_found None missing found is = cc
some_found (Some x) missing found is = let same : x ≡ found = cc in ap Some same

pub found_again : {K X S E : Type 0} (test : K → Bool) (m : IndexMap K X S) (missing : E) (found next : X)
    → ok_or (get_by test m) missing ≡ Ok found
    → ok_or (get_by test (with_value_at m (place_in test m) next)) missing ≡ Ok next
found_again test m missing found next is =
    ap (λ one. ok_or one missing) (written_there test m.entries found next
    (some_found (get_by test m) missing found is))
