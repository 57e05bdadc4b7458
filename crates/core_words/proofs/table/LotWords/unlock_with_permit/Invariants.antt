use Rattle.core_words.specs.Indices.{word_index}
use Rattle.core_words.proofs.table.LotWords.unlock_with_permit.Given as goal

abbrev pub ghosts-leave_tagged : goal.ghosts-leave_tagged
ghosts-leave_tagged a = record {
  family = a.self.now.table.shared.key.1.family;
  at = word_index a.word.number a.word.kind;
}
