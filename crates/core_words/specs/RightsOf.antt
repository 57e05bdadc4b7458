-- Rights of a lot.
use Rattle.std.specs.Prelude.{◌≡◌, [], ◌∷◌}
use Rattle.core_words.specs.Indices.{word_index}
use Rattle.core_words.specs.Lots.{IsSeatOf, IsWordOf}
use Rattle.atomic_table.specs.declared.shared.Seat.{Seat}
use Rattle.core_words.specs.Permits.{bare}
use Rattle.core_words.specs.Rights.{MayHand, piece_of, with_permit}
use Rattle.core_words.specs.declared.owners.Owner.{Owner}
use Rattle.core_words.specs.declared.table.LotWords.{LotWords}
use Rattle.core_words.specs.declared.rights.Right.{Right}
use Rattle.core_words.specs.declared.rights.Held.{Held}
use Rattle.core_words.specs.declared.permits.OpenHeld.{OpenHeld}
use Rattle.core_words.specs.declared.views.View.{View}
use Rattle.core_words.specs.declared.words.Word.{Word}
use Rattle.core_base.specs.declared.wants.Want.{Want}
use Rattle.core_parts.specs.declared.slot.PermitSlot.{PermitSlot}

-- an ownership of a word of the lot, owned so: it names this and nothing else
abbrev pub IsHeldOf : LotWords → Word → Owner → Held → Type 0
IsHeldOf lot word owner held = IsSeatOf lot held.seat × (held.seat.me.0 ≡ piece_of word owner)

-- a right of the lot. Where a mutex is handed over, its slot is out with the right's seat, and the
-- permit of its value lies there
abbrev pub IsRightOf : LotWords → Right → Type 0
IsRightOf lot right = IsSeatOf lot right.seat × IsWordOf lot right.word

-- a word of this number and kind: of one lot, this word
abbrev pub IsSame : Word → Word → Type 0
IsSame word other = (word.number ≡ other.number) × (word.kind ≡ other.kind)

-- a right names a word, and an owner that a want may be handed
abbrev pub IsFor : Word → Want → Right → Type 0
IsFor word want right = IsSame right.word word × MayHand word.kind want right.owner

-- the seat of a mutex's owner, with the mutex's slot
abbrev pub IsOwnerOf : LotWords → Word → Seat PermitSlot View → Type 0
IsOwnerOf lot word seat = IsSeatOf lot seat × (seat.me.0 ≡ with_permit word)

-- the seat of a mutex's owner, with the permit taken out of the mutex's slot
abbrev pub IsOpenOf : LotWords → Word → OpenHeld → Type 0
IsOpenOf lot word opened =
    (opened.seat.table_id ≡ lot.table.shared.table_id)
    × (opened.seat.me ≡ (with_permit word, (word_index word.number word.kind, bare) ∷ []))
