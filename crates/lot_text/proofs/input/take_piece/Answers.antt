use Rattle.std.proofs.Common.{take, length-append, sym, ◌∙◌, rules, IfSome, ◌≤◌, ◌+◌}
use Rattle.lot_text.proofs.LinesLemmas.{shown_front, shown_line, may_consume, no_room}
use Rattle.lot_text.proofs.input.take_piece.Goals as goal

pub returns-then-is_err : goal.returns-then-is_err
returns-then-is_err g c =
    let shown = c.in-Ok.shown.now in
    let len = c.len_of_line-len in
    let front = shown_front (g.R.Read.remaining c.args.reader.now) shown len.result len.ensures.within
    c.in-Ok.ensures.front in
    let full = no_room _ _ c.try_extend_from_slice.result _ _ c.try_extend_from_slice.ensures.variant
    (sym c.is_err.ensures.value ∙ c.if-is_err.true) in
    (take len.result shown, front.0, len.ensures.before, front.1, rw length-append full)

pub returns-then-len-shown : goal.returns-then-len-shown
returns-then-len-shown g c =
    let shown = c.in-Ok.shown.now in
    let len = c.len_of_line-len in (
      take len.result shown,
      len.ensures.before,
      shown_line _ _ _ shown len.result (IfSome (g.R.BufRead.consumable_len c.fill_buf.follows.lender-at-none)
          (λ n. len.result + 1 ≤ n)) c.if-len-shown.true (len.ensures.found c.if-len-shown.true)
          c.in-Ok.ensures.front c.fill_buf.follows.holds-at-none.0
          (may_consume _ _ shown len.result c.if-len-shown.true
          (rw c.in-Ok.is at c.fill_buf.follows.holds-at-none.1))
          c.consume.ensures.bytes,
      search rules,
      search rules,
    )
