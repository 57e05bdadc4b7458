-- The places of a lock that has owners, where a call may stand.
use Rattle.steps_rwlock_fair.specs.FairCalls.{CallStands}
use Rattle.lot_steps.specs.declared.places.Place.{Place}
use Rattle.lot_steps.specs.declared.places.Place.TheVariants.{Idle, Mutex, RwLock, Once, Condvar, Semaphore}

abbrev pub MayStandAt : Place → Type 0
MayStandAt Idle = Unit {0}
MayStandAt (Mutex l at) = Unit {0}
MayStandAt (RwLock l a c) = CallStands a c
MayStandAt (Once l at) = ⊥
MayStandAt (Semaphore l at) = ⊥
MayStandAt (Condvar l at) = ⊥
