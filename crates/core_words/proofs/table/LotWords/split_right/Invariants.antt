use Rattle.core_words.specs.Rights.{named_by}
use Rattle.core_words.proofs.table.LotWords.split_right.Given as goal

abbrev pub ghosts-split_off : goal.ghosts-split_off
ghosts-split_off a = record { owned = named_by a.word a.owner }
