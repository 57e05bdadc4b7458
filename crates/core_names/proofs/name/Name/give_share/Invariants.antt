use Rattle.core_names.specs.Names.{count_at}
use Rattle.core_names.proofs.name.Name.give_share.Given as goal

abbrev pub ghosts-give_tagged : goal.ghosts-give_tagged
ghosts-give_tagged a = record { thread = a.thread; at = count_at a.count.number; said = 0 }
