use Rattle.core_words.proofs.table.LotWords.new_semaphore.Given as goal

abbrev pub ghosts-draw_permits : goal.ghosts-draw_permits
ghosts-draw_permits a = record { many = a.permits }
