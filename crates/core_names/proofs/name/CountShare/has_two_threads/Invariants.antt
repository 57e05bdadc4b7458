use Rattle.core_names.specs.Shares.{rest_of, thread_in}
use Rattle.core_names.proofs.name.CountShare.has_two_threads.Given as goal

abbrev pub ghosts-see_two-C-CountTag : goal.ghosts-see_two-C-CountTag
ghosts-see_two-C-CountTag a = record {
  thread = thread_in (rest_of a.self.now.seat.me.0.shares);
  at = 0;
  said = 0;
}

abbrev pub ghosts-see_two-D-CountTag : goal.ghosts-see_two-D-CountTag
ghosts-see_two-D-CountTag a = record {
  thread = thread_in a.self.now.seat.me.0.shares;
  at = 0;
  said = 0;
}
