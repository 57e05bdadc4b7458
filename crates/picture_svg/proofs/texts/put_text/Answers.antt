use Rattle.std.proofs.Common.{sym, subst}
use Rattle.std.specs.Io.KnownBytes.{Appends}
use Rattle.std.proofs.KnownBytes.{Appends-trans}
use Rattle.picture_svg.proofs.Escaping.{escaped_next}
use Rattle.picture_svg.proofs.texts.put_text.Goals as goal

pub loop-byte-preserved : goal.loop-byte-preserved
loop-byte-preserved g c =
    let before = g.W.Write.contents c.args.out.now in
    let afterwards = g.W.Write.contents c.put_byte.new.out in
    subst (λ bs. Appends before afterwards bs)
    (sym (escaped_next c.args.text.now c.loop-byte.byte-index c.loop-byte-test.true))
    (Appends-trans _ _ _ _ _ c.loop-byte.invariant c.in_ok-put_byte.ensures)
