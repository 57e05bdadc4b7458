use Rattle.core_words.specs.Indices.{word_index}
use Rattle.core_words.proofs.table.LotWords.unlock_if_alone.Given as goal

abbrev pub ghosts-leave_alone_tagged : goal.ghosts-leave_alone_tagged
ghosts-leave_alone_tagged a = record {
  family = a.self.now.table.shared.key.1.family;
  at = word_index a.word.number a.word.kind;
}
