use Rattle.std.proofs.Common.{rules, inl, inr}
use Rattle.run_once_and_semaphores.proofs.once_cell.OnceCell.show_or_init.Goals as goal

pub returns-clause-value : goal.returns-clause-value
returns-clause-value g c = elim c.in-Ok.ensures.value [
  | inl own ↦ inl (search (own, rules))
  | inr anothers ↦ inr anothers
]
