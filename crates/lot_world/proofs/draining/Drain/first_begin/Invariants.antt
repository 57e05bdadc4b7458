use Rattle.std.proofs.Common.{◌≡◌, drop}
use Rattle.lot_world.specs.Schedules.{first_begin}
use Rattle.lot_world.proofs.draining.Drain.first_begin.Given as goal

-- none of the calls so far may begin
abbrev pub invariant-loop-call : goal.invariant-loop-call
invariant-loop-call g l = first_begin l.self.state l.thread (drop l.call-index l.calls) ≡ first_begin
    l.self.state l.thread l.calls
