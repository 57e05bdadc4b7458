use Rattle.std.proofs.Common.{◌≡◌, ◌++◌, [], ◌∙◌, sym, ap, subst, refl, true}
use Rattle.lot_text.specs.Sent.{Puts, Sends, SendsFront}
use Rattle.lot_text.specs.contracts.output.Page.{the_view}
use Rattle.lot_text.proofs.SentLemmas.{puts_lost, puts_sent, front_longer, front_then, sends_then, on_err}
use Rattle.lot_text.proofs.output.Page.put_cold.Goals as goal

pub returns-then-not-send_all-clause-puts : goal.returns-then-not-send_all-clause-puts
returns-then-not-send_all-clause-puts g c =
    let all = subst (λ l. SendsFront (g.W.Write.contents c.args.writer.now)
    (g.W.Write.contents c.send_all.new.writer) l) c.as_slice.ensures.value
    (c.send_all.ensures.failed c.if-not-send_all.true) in
    subst (λ h. Puts (g.W.Write.contents c.args.writer.now) (g.W.Write.contents c.send_all.new.writer) h
    (the_view record {
      bytes = c.self.inside.bytes;
      is_lost = _;
    }) c.args.text.now) c.self.view_is
    (puts_lost _ _ (the_view c.self.inside) _ c.args.text.now c.if-self.false refl
    (front_longer _ _ c.self.inside.bytes.items c.args.text.now all))

pub returns-then-not-send_all-2-clause-puts : goal.returns-then-not-send_all-2-clause-puts
returns-then-not-send_all-2-clause-puts g c =
    let sent = subst (λ l. Sends (g.W.Write.contents c.args.writer.now)
    (g.W.Write.contents c.send_all.new.writer) l []) c.as_slice.ensures.value
    (c.send_all.ensures.sent c.if-not-send_all.false) in
    subst (λ h. Puts (g.W.Write.contents c.args.writer.now) (g.W.Write.contents c.send_all-2.new.writer) h
    (the_view record {
      bytes = c.try_extend_from_slice.new.self;
      is_lost = true;
    }) c.args.text.now) c.self.view_is
    (puts_lost _ _ (the_view c.self.inside) _ c.args.text.now c.if-self.false refl
    (front_then _ _ _ c.self.inside.bytes.items [] c.args.text.now sent
    (c.send_all-2.ensures.failed c.if-not-send_all-2.true)))

pub returns-else-not-send_all-2-clause-puts : goal.returns-else-not-send_all-2-clause-puts
returns-else-not-send_all-2-clause-puts g c =
    let sent = subst (λ l. Sends (g.W.Write.contents c.args.writer.now)
    (g.W.Write.contents c.send_all.new.writer) l []) c.as_slice.ensures.value
    (c.send_all.ensures.sent c.if-not-send_all.false) in
    let same = on_err _ _ _ c.try_extend_from_slice.result (sym c.is_ok.ensures.value ∙ c.if-is_ok.false)
    c.try_extend_from_slice.ensures.err in
    let empty : c.try_extend_from_slice.new.self.items ≡ [] = ap (λ v. v.items) same ∙ c.clear.ensures in
    let whole = sends_then _ _ _ c.self.inside.bytes.items [] c.args.text.now [] sent
    (c.send_all-2.ensures.sent c.if-not-send_all-2.false) in
    subst (λ h. Puts (g.W.Write.contents c.args.writer.now) (g.W.Write.contents c.send_all-2.new.writer) h
    (the_view record {
      bytes = c.try_extend_from_slice.new.self;
      is_lost = c.self.inside.is_lost;
    }) c.args.text.now) c.self.view_is
    (puts_sent _ _ (the_view c.self.inside) _ c.args.text.now c.if-self.false c.if-self.false
    (subst (λ l. Sends (g.W.Write.contents c.args.writer.now) (g.W.Write.contents c.send_all-2.new.writer)
    (c.self.inside.bytes.items ++ c.args.text.now) l) (sym empty) whole))
