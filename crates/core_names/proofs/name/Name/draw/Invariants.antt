use Rattle.core_names.proofs.name.Name.draw.Given as goal

abbrev pub ghosts-draw_tagged : goal.ghosts-draw_tagged
ghosts-draw_tagged a = record { thread = a.thread; at = 0; said = 0 }
