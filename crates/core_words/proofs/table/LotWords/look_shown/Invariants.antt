use Rattle.core_words.proofs.table.LotWords.look_shown.Given as goal

abbrev pub ghosts-look_tagged-C-CondvarTag : goal.ghosts-look_tagged-C-CondvarTag
ghosts-look_tagged-C-CondvarTag a = record { words = a.self.now.count; number = a.condvar.number }

abbrev pub ghosts-look_tagged-P-PermitTag : goal.ghosts-look_tagged-P-PermitTag
ghosts-look_tagged-P-PermitTag a = record { family = a.self.now.table.shared.key.1.family; at = 0 }
