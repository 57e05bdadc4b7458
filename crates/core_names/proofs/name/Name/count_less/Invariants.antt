use Rattle.core_names.proofs.name.Name.count_less.Given as goal

abbrev pub ghosts-less_tagged : goal.ghosts-less_tagged
ghosts-less_tagged a = record { thread = a.thread; at = 0; said = a.said }
