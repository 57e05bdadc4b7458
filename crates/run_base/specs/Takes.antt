-- The facts that a take tells of the waiters that it took.
use Rattle.std.specs.Prelude.{ℕ, suc, Bool, true, false, cond, List, [], ◌∷◌, Option, Some, None, length}
use Rattle.std.specs.List.{filter}
use Rattle.core_base.specs.declared.wants.Want.{Want}
use Rattle.core_base.specs.declared.wants.Want.TheVariants.{Shared}

abbrev pub shares : Want → Bool
shares Shared = true
shares _ = false

-- how many of them want to share
abbrev pub sharers_in : List Want → ℕ
sharers_in wants = length (filter shares wants)

-- the want of the first of them that wants more
abbrev pub successor_in : List Want → Option Want
successor_in [] = None
successor_in (want ∷ wants) = cond (shares want) (successor_in wants) (Some want)

-- how many of them want more
abbrev pub more_in : List Want → ℕ
more_in [] = 0
more_in (want ∷ wants) = cond (shares want) (more_in wants) (suc (more_in wants))
