use Rattle.core_words.specs.Indices.{word_index}
use Rattle.core_words.proofs.table.LotWords.split_owner.Given as goal

abbrev pub ghosts-split_picked : goal.ghosts-split_picked
ghosts-split_picked a = record {
  family = a.self.now.table.shared.key.1.family;
  at = word_index a.word.number a.word.kind;
}
