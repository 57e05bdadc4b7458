use Rattle.std.proofs.Common.{refl, sym, ◌∙◌}
use Rattle.lot_text.proofs.NameLemmas.{padded_more, name_bytes_more}
use Rattle.lot_text.proofs.names.padded.Goals as goal

pub loop-at-preserved : goal.loop-at-preserved
loop-at-preserved c =
    let i = c.loop-at.invariant in
    let word = c.args.word.now in (
      name_bytes_more word c.loop-at.at _ c.loop-at-test.true refl i.0 (sym c.is_name_byte.ensures
          ∙ c.if-not-is_name_byte.false),
      padded_more word c.loop-at.bytes c.loop-at.at _ c.loop-at-test.true
          c.requires refl i.1,
    )
