-- A guard is of a raw lock and of a value.
use Rattle.lock_api.specs.declared.guarded.Guarded.{Guarded}
use Rattle.lock_api.specs.declared.shows.Keeps as keeps
use Rattle.lock_api.specs.declared.shows.Shows as shows

-- the raw lock that the guard has taken
abbrev pub lock_of : {K V X : Type 0} {k : keeps.Ghosts K} {v : shows.Ghosts V X}
    → Guarded K V X k v → K
lock_of guard = guard.taken

-- The value that a guard shows.
abbrev pub value_of : {K V X : Type 0} {k : keeps.Ghosts K} {v : shows.Ghosts V X}
    → Guarded K V X k v → X
value_of {v = v} guard = v.shown guard.value
