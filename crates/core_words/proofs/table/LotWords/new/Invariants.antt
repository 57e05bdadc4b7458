use Rattle.std.proofs.Common.{◌≡◌, ◌-◌, ◌≤◌, length}
use Rattle.core_words.specs.Permits.{laid}
use Rattle.core_words.proofs.table.LotWords.new.Given as goal

abbrev pub invariant-loop-slots : goal.invariant-loop-slots
invariant-loop-slots l = (l.slots.items ≡ laid l.permits.family (length l.slots.items))
    × (l.permits.next ≡ length l.slots.items) × (length l.slots.items ≤ l.size)

abbrev pub decreases-loop-slots : goal.decreases-loop-slots
decreases-loop-slots l = l.size - length l.slots.items
