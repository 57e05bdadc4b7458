-- Neighbouring moments of one world.
use Rattle.std.specs.Prelude.{◌≡◌, length}
use Rattle.test_checker.specs.declared.seen.Seen.{Seen}

-- two moments have as many threads, and as many locks
pub record IsSameSize (before after : Seen) : Type 0 where
  pub threads : length before.threads.items ≡ length after.threads.items
  pub locks : length before.locks.items ≡ length after.locks.items
