-- The buckets of a section: one, or two where its keys lie apart.
use Rattle.std.specs.Prelude.{ℕ, ◌≡◌, ◌≢◌, List, [], Option, Some, None}
use Rattle.std.specs.Sync.Mutex.{mutex_guard_value}
use Rattle.std.specs.declared.sync.MutexGuard.{MutexGuard}
use Rattle.core_base.specs.declared.keys.Keys.{Keys}
use Rattle.core_base.specs.declared.wants.Waiter.{Waiter}
use Rattle.core_queues.specs.Chains.{bucket_of}
use Rattle.core_queues.specs.Buckets.{AreApart}
use Rattle.core_queues.specs.Places.{AreTwo}
use Rattle.core_queues.specs.declared.section_queues.SectionQueues.{SectionQueues}
use Rattle.parking_lot_core.specs.Keys.{IsKeyOf}

-- the waiters of the second bucket, if there is one
abbrev pub waiters_of : Option (MutexGuard SectionQueues) → Option (List Waiter)
waiters_of None = None
waiters_of (Some guard) = Some (mutex_guard_value guard).queues.waiters

-- nobody has been taken of a bucket yet
abbrev pub IsBegun : SectionQueues → Type 0
IsBegun section_queues = (section_queues.taken.items ≡ []) × (section_queues.rightless.items ≡ [])
    × (section_queues.wants.items ≡ [])

-- each key of a section has one bucket
abbrev pub HasOneBucket : Keys → SectionQueues → Type 0
HasOneBucket keys one = (key : ℕ) → IsKeyOf keys key → bucket_of one.bits key ≡ one.number

-- each key has one of two buckets, and keys that differ have different ones
pub record AreSplit (bits : ℕ) (keys : Keys) (one other : ℕ) : Type 0 where
  pub each : (key : ℕ) → IsKeyOf keys key → bucket_of bits key ≢ one → bucket_of bits key ≡ other
  pub differ : (from to : ℕ) → IsKeyOf keys from → IsKeyOf keys to → from ≢ to
      → bucket_of bits from ≢ bucket_of bits to

abbrev pub AreBuckets : Keys → SectionQueues → SectionQueues → Type 0
AreBuckets keys one other = AreTwo one other × AreSplit one.bits keys one.number other.number

-- nobody under a key of a section stands in both
abbrev pub AreApartAt : Keys → SectionQueues → SectionQueues → Type 0
AreApartAt keys one other = (key : ℕ) → IsKeyOf keys key
    → AreApart key one.queues.waiters other.queues.waiters
    × AreApart key other.queues.waiters one.queues.waiters
