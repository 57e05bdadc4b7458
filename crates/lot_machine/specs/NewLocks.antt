-- A new lock as its word shows it.
use Rattle.std.specs.Prelude.{ℕ, true, ◌≡◌}
use Rattle.spec_locks.specs.declared.kinds.Kind.{Kind}
use Rattle.spec_locks.specs.Kinds.{fits}
use Rattle.spec_locks.specs.Codes.{aside_in, code, parked_in}
use Rattle.spec_locks.specs.Purposes.{rules_of}
use Rattle.spec_locks.specs.Sites.{Site, opening_site}
use Rattle.lot_machine.specs.Machine.{first_word}

-- nobody owns it or waits for it, and its parked bits are those of its word
abbrev pub new_site : Kind → ℕ → Site
new_site kind threads = record (opening_site threads) {
  parked = parked_in (rules_of kind).sort (first_word kind);
  aside_parked = aside_in (rules_of kind).sort (first_word kind);
}

-- the word of a new lock is the one of such a lock: of a semaphore each permit is free
abbrev pub NewWordsAreTrue : Type 0
NewWordsAreTrue = (kind : Kind) (threads n : ℕ) → fits kind threads ≡ true
    → code (rules_of kind) (new_site kind n) ≡ first_word kind
