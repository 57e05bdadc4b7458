use Rattle.core_words.proofs.table.LotWords.step_tagged.Given as goal

abbrev pub ghosts-set_bits : goal.ghosts-set_bits
ghosts-set_bits g a = record { bits = a.bits }
