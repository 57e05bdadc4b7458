use Rattle.core_words.proofs.table.LotWords.look_free.Given as goal

abbrev pub ghosts-free_tagged-N-NumberTag : goal.ghosts-free_tagged-N-NumberTag
ghosts-free_tagged-N-NumberTag a = record { number = a.semaphore.number }

abbrev pub ghosts-free_tagged-P-PermitTag : goal.ghosts-free_tagged-P-PermitTag
ghosts-free_tagged-P-PermitTag a = record { family = a.self.now.table.shared.key.1.family; at = 0 }
