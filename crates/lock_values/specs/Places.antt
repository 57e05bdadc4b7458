-- The place that the word of a lot guards.
use Rattle.lock_values.specs.Ownership.{PlaceId}
use Rattle.core_words.specs.declared.table.LotWords.{LotWords}
use Rattle.core_words.specs.declared.words.Word.{Word}
use Rattle.core_words.specs.Indices.{word_index}

abbrev pub place_of : LotWords → Word → PlaceId
place_of lot word = record { table = lot.table.shared.table_id; at = word_index word.number word.kind }
