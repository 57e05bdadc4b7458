-- Seats and words of a lot.
use Rattle.std.specs.Prelude.{◌≡◌, ◌<◌}
use Rattle.core_words.specs.declared.table.LotWords.{LotWords}
use Rattle.core_words.specs.declared.words.Word.{Word}
use Rattle.atomic_table.specs.declared.shared.Seat.{Seat}
use Rattle.core_words.specs.declared.views.View.{View}
use Rattle.core_words.specs.Indices.{word_index}
use Rattle.core_words.specs.Permits.{permit_at, slots_of}
use Rattle.core_parts.specs.PermitIds.{PermitId}
use Rattle.core_parts.specs.declared.slot.PermitSlot.{PermitSlot}

-- with the slots of the mutexes whose permits are out with it, as its view says
abbrev pub IsSeatOf : LotWords → Seat PermitSlot View → Type 0
IsSeatOf lot seat = (seat.table_id ≡ lot.table.shared.table_id)
    × (seat.me.1 ≡ slots_of lot.table.shared.key.1.family seat.me.0.out)

-- the lot that drew it, told by its tag
abbrev pub IsWordOf : LotWords → Word → Type 0
IsWordOf lot word = (word.tag ≡ lot.tag) × (word.number < lot.count)

-- the permit of the value that a mutex guards
abbrev pub permit_of : LotWords → Word → PermitId
permit_of lot word = permit_at lot.table.shared.key.1.family (word_index word.number word.kind)
