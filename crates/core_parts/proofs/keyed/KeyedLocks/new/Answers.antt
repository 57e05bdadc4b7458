use Rattle.std.proofs.Common.{arith}
use Rattle.core_parts.proofs.KeyKeeps.{opens}
use Rattle.core_parts.proofs.keyed.KeyedLocks.new.Goals as goal

pub new-requires : goal.new-requires
new-requires g c = let count = c.len-count.ensures in let shown = c.as_slice.ensures.value in let made =
    c.in_ok-unlocked.ensures.len in
    opens (g.T.Keyed.fits c.args.key.now) c.as_slice.result.now c.args.values.items c.args.key.now
    (omega (arith, c.as_slice.ensures.len, made, count, c.args.values.ok)) c.requires
