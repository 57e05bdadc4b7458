use Rattle.core_names.proofs.name.Name.count_more.Given as goal

abbrev pub ghosts-more_tagged : goal.ghosts-more_tagged
ghosts-more_tagged a = record { thread = a.thread; at = 0; said = a.said }
