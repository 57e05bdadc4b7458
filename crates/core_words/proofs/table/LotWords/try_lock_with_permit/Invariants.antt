use Rattle.core_words.specs.Indices.{word_index}
use Rattle.core_words.proofs.table.LotWords.try_lock_with_permit.Given as goal

abbrev pub ghosts-try_enter_tagged : goal.ghosts-try_enter_tagged
ghosts-try_enter_tagged a = record {
  family = a.self.now.table.shared.key.1.family;
  at = word_index a.word.number a.word.kind;
}
