-- Calls that leave a bucket where it is, and calls that take nobody.
use Rattle.std.specs.Prelude.{ℕ, ◌≡◌, ◌≢◌}
use Rattle.core_queues.specs.Buckets.{AreApart}
use Rattle.core_queues.specs.declared.section_queues.SectionQueues.{SectionQueues}

-- two are of one bucket of one lot
abbrev pub IsSameBucket : SectionQueues → SectionQueues → Type 0
IsSameBucket old new = (new.seats ≡ old.seats) × (new.number ≡ old.number) × (new.bits ≡ old.bits)

-- the waiters that its section took
abbrev pub TookSame : SectionQueues → SectionQueues → Type 0
TookSame old new = (new.taken.items ≡ old.taken.items) × (new.rightless.items ≡ old.rightless.items)
    × (new.wants.items ≡ old.wants.items)

-- two buckets of one lot
abbrev pub AreTwo : SectionQueues → SectionQueues → Type 0
AreTwo one other = (other.seats ≡ one.seats) × (other.bits ≡ one.bits) × (other.number ≢ one.number)

-- the waiters of a key that stood in one of two buckets alone do so still
abbrev pub KeepApart : SectionQueues → SectionQueues → SectionQueues → SectionQueues → Type 0
KeepApart one other one' other' = (key : ℕ) → (AreApart key one.queues.waiters other.queues.waiters
    → AreApart key one'.queues.waiters other'.queues.waiters)
    × (AreApart key other.queues.waiters one.queues.waiters
    → AreApart key other'.queues.waiters one'.queues.waiters)
