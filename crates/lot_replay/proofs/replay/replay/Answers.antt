use Rattle.std.proofs.Common.{refl, sym, subst, ◌∙◌, inr}
use Rattle.lot_text.specs.Sent.{Puts}
use Rattle.lot_replay.proofs.ReplayLemmas.{finish_lost}
use Rattle.lot_replay.proofs.replay.replay.Goals as goal

pub returns-then-is_lost : goal.returns-then-is_lost
returns-then-is_lost g c =
    let a = c.answer_lines-status.ensures in
    let start = subst (λ p. Puts (g.W.Write.contents c.args.writer.now)
    (g.W.Write.contents c.answer_lines-status.new.writer) p c.answer_lines-status.new.page a.0)
    c.new-page.ensures a.3 in
    let lost = sym c.is_lost.ensures ∙ c.if-is_lost.true in (
      a.0,
      a.1,
      a.2,
      inr (
        refl,
        finish_lost _ _ _ c.answer_lines-status.new.page c.finish.new.self a.0 start
            c.finish.ensures.puts lost,
      ),
    )
