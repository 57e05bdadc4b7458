use Rattle.core_words.proofs.table.LotWords.step.Given as goal

abbrev pub ghosts-step_tagged : goal.ghosts-step_tagged
ghosts-step_tagged a = record { family = a.self.now.table.shared.key.1.family; at = 0 }
