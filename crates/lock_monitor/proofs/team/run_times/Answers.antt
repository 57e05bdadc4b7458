use Rattle.std.proofs.Common.{◌≡◌, ◌+◌, ℕ, suc, refl, subst, sym, arith}
use Rattle.lock_monitor.specs.Calls.{CalledTimes}
use Rattle.lock_monitor.proofs.Members.{enters}
use Rattle.lock_monitor.proofs.team.run_times.Goals as goal

pub loop-preserved : goal.loop-preserved
loop-preserved g c = record {
  own = c.requires.2 _ _ _ c.loop.invariant.own c.f.ensures;
  called = let more : suc c.loop.counter ≡ c.loop.counter + 1 = omega arith in
      subst (λ (n : ℕ). CalledTimes g.F.Fn c.args.f.now n c.enter-token.result c.f.new.arg2) more (
        _,
        c.loop.invariant.called,
        (_, _, _, refl, refl, c.f.ensures),
      );
}

pub returns-clause-ran : goal.returns-clause-ran
returns-clause-ran g c = let all : c.loop.counter ≡ c.args.times = omega (
  arith,
  c.loop-test.false,
  c.loop.auto.counter-end,
) in (
  c.enter-token.result,
  c.loop.token,
  enters c.args.lot.now c.args.ticket c.enter-token.result c.enter-token.ensures c.requires.0,
  subst (λ (n : ℕ). CalledTimes g.F.Fn c.args.f.now n c.enter-token.result c.loop.token) all
      c.loop.invariant.called,
  (sym c.leave.ensures.0, sym c.leave.ensures.1, sym c.leave.ensures.2),
)
