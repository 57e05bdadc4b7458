use Rattle.core_words.proofs.table.LotWords.new_word.Given as goal

abbrev pub ghosts-draw : goal.ghosts-draw
ghosts-draw a = record { kinds = a.kinds.now }
