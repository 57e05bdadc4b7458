use Rattle.std.proofs.Common.{◌-◌, ◌∙◌, sym, arith}
use Rattle.lot_world.proofs.DrainLemmas.{alone_goes, alone_rests, alone_end}
use Rattle.lot_world.proofs.draining.Drain.go_alone.Goals as goal

pub returns-in_default : goal.returns-in_default
returns-in_default g c =
    let told = c.in_ok-go.ensures.ok in
    record {
      ok = alone_rests 64 c.loop.counter c.loop.self c.go.new.self c.args.thread c.in_ok-go.field-0
          c.loop-test.true told.0 told.1 c.in_default.not-Step ∙ c.loop.invariant;
      err = tt;
    }

pub loop-preserved : goal.loop-preserved
loop-preserved g c =
    let told = c.in_ok-go.ensures.ok in
    alone_goes 64 c.loop.counter c.loop.self c.go.new.self c.args.thread c.in_ok-go.field-0 c.loop-test.true
    told.0 told.1 c.in-Step.is ∙ c.loop.invariant

pub returns-clause-ok : goal.returns-clause-ok
returns-clause-ok g c = sym (alone_end (64 - c.loop.counter) c.loop.self c.args.thread
    (omega (arith, c.loop-test.false))) ∙ c.loop.invariant
