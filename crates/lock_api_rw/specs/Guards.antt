-- The raw lock of a guard of a reader-writer lock.
use Rattle.lock_api_rw.specs.declared.held.Held.{Held}
use Rattle.lock_api_rw.specs.declared.shows.Holds as holds
use Rattle.lock_api_rw.specs.declared.shows.Shows as shows

-- the raw lock that the guard holds
abbrev pub lock_of : {K V X : Type 0} {k : holds.Ghosts K} {v : shows.Ghosts V X}
    → Held K V X k v → K
lock_of guard = guard.right
