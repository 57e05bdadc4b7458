use Rattle.core_names.proofs.name.Name.see.Given as goal

abbrev pub ghosts-see_tagged : goal.ghosts-see_tagged
ghosts-see_tagged a = record { thread = a.thread; at = 0; said = 0 }
