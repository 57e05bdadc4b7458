use Rattle.core_words.specs.Indices.{word_index}
use Rattle.core_words.proofs.table.LotWords.lock_with_permit.Given as goal

abbrev pub ghosts-enter_tagged : goal.ghosts-enter_tagged
ghosts-enter_tagged a = record {
  family = a.self.now.table.shared.key.1.family;
  at = word_index a.word.number a.word.kind;
}
