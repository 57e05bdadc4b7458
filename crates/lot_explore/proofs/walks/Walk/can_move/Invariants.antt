use Rattle.std.proofs.Common.{ℕ, ◌≡◌, ◌<◌, None}
use Rattle.lot_program.specs.States.{program_next}
use Rattle.lot_explore.proofs.walks.Walk.can_move.Given as goal

abbrev pub invariant-loop-by : goal.invariant-loop-by
invariant-loop-by g l = record {
  same : l.self ≡ l.fn.self;
  none : (k : ℕ) → k < l.by → program_next l.fn.self.program l.fn.self.state k ≡ None;
}
