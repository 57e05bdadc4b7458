-- Names and shares of a lot.
use Rattle.std.specs.Prelude.{◌≡◌, ℕ, List, []}
use Rattle.atomic_table.specs.declared.shared.Seat.{Seat}
use Rattle.core_parts.specs.declared.slot.PermitSlot.{PermitSlot}
use Rattle.core_words.specs.Indices.{word_index}
use Rattle.core_words.specs.declared.table.LotWords.{LotWords}
use Rattle.core_words.specs.declared.views.Counting.{Counting}
use Rattle.core_words.specs.declared.views.Naming.TheVariants.{Thread}
use Rattle.core_words.specs.declared.views.View.{View}
use Rattle.core_words.specs.declared.words.WordKind.TheVariants.{Count}
use Rattle.core_names.specs.Shares.{SaysAt, namer_from, share_view, thread_in}
use Rattle.core_names.specs.declared.name.CountShare.{CountShare}
use Rattle.core_names.specs.declared.name.Name.{Name}

-- the first seat of a lot, which has the numbers from this one on
abbrev pub IsNamer : LotWords → ℕ → Seat PermitSlot View → Type 0
IsNamer lot thread seat = (seat.table_id ≡ lot.table.shared.table_id)
    × (seat.me ≡ (namer_from thread, []))

-- a name's view has the number of this thread, and has passed its steps on
abbrev pub IsNameView : ℕ → View → Type 0
IsNameView thread v = (v.steps ≡ []) × (v.out ≡ []) × (v.naming ≡ Thread thread)

-- the name of this thread of the lot
abbrev pub IsNameOf : LotWords → ℕ → Name → Type 0
IsNameOf lot thread name = (name.seat.table_id ≡ lot.table.shared.table_id) × (name.seat.me.1 ≡ [])
    × IsNameView thread name.seat.me.0

-- where the count word of this number stands
abbrev pub count_at : ℕ → ℕ
count_at number = word_index number Count

-- a name says this of the count word of this number, and owns the mutex before it
abbrev pub Says : ℕ → ℕ → Name → Type 0
Says number count name = SaysAt (count_at number) count name.seat.me.0

abbrev pub shares_of : Name → List Counting
shares_of name = name.seat.me.0.shares

-- the number of the thread that a share names
abbrev pub thread_named : CountShare → ℕ
thread_named share = thread_in share.seat.me.0.shares

-- a share of the count word of this number
abbrev pub IsShareOf : LotWords → ℕ → CountShare → Type 0
IsShareOf lot number share = (share.seat.table_id ≡ lot.table.shared.table_id)
    × (share.seat.me ≡ (share_view (count_at number) (thread_named share), []))
