use Rattle.std.proofs.Common.{◌-◌, ◌≤◌, length, drop, length-take, length-drop, arith}
use Rattle.lot_text.proofs.SentLemmas.{appends_kept, appends_more}
use Rattle.lot_text.proofs.output.send_front.Goals.{in-Ok, in-Err+else-ne}
use Rattle.lot_text.proofs.output.send_front.Goals as goal

pub loop-preserved : goal.loop-preserved
loop-preserved g c =
    let xs = c.args.bytes.now in
    let sent = c.loop.sent in
    let before = c.loop.invariant in
    elim c.match-write.branch [
      | in-Ok w ↦
          let fits : w.in-Ok.n ≤ length xs - sent = omega (
            arith,
            w.in-Ok.ensures.bound,
            length-take (length xs - sent) (drop sent xs),
            length-drop sent xs,
          ) in
          rw w.sent-is (
            omega (arith, fits),
            appends_more _ _ _ xs sent w.in-Ok.n before.0 fits before.1
                w.in-Ok.ensures.bytes,
          )
      | in-Err+else-ne w ↦ rw w.sent-is (before.0, appends_kept _ _ _ _ before.1 w.in-Err.ensures.bytes)
    ]
