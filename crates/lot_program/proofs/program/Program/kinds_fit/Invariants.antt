use Rattle.std.proofs.Common.{ℕ, ◌≡◌, ◌<◌, true, get_or}
use Rattle.spec_locks.specs.declared.kinds.Kind.{Kind}
use Rattle.spec_locks.specs.Kinds.{fits}
use Rattle.lot_program.proofs.program.Program.kinds_fit.Given as goal

abbrev pub invariant-loop-kind : goal.invariant-loop-kind
invariant-loop-kind l = (i : ℕ) (d : Kind) → i < l.kind-index → fits (get_or l.kind-items i d) l.threads
    ≡ true
