use Rattle.std.proofs.Common.{[], refl, subst}
use Rattle.std.specs.Io.BufRead.{FillKeeps}
use Rattle.std.proofs.BufReadLemmas.{Consumes_shown}
use Rattle.lot_text.proofs.SentLemmas.{puts_nothing}
use Rattle.lot_replay.proofs.ReplayLemmas.{keeps_lines, takes_front, refuses_read}
use Rattle.lot_replay.proofs.replay.answer_shown.Goals as goal

pub returns-then-eq : goal.returns-then-eq
returns-then-eq g c = (
  (
    [],
    [],
    keeps_lines _ _ c.fill_buf.follows.holds-at-none.0,
    refl,
    (refl, refl),
    puts_nothing _ c.args.page.now,
  ),
  tt,
)

pub returns-in-Err : goal.returns-in-Err
returns-in-Err g c = (
  [],
  [],
  keeps_lines _ _ c.fill_buf.follows.holds-at-none.0,
  refl,
  (refl, refl),
  puts_nothing _ c.args.page.now,
)

pub returns : goal.returns
returns g c =
    let shown = c.in-Ok.shown.now in
    let front = c.answer_front-front in
    let rested = c.fill_buf.follows.lender-at-none in
    let filled = subst (FillKeeps _ (g.R.Read.remaining rested) (g.R.BufRead.consumable_len rested))
    c.in-Ok.is c.fill_buf.follows.holds-at-none in
    let taken = Consumes_shown _ _ _ _ shown front.result.len front.ensures.within c.in-Ok.ensures.front
    c.in-Ok.ensures.end filled.0 filled.1 c.consume.ensures.bytes in
    let a = front.ensures.answered in (
      (a.0, a.1, takes_front _ _ shown front.result.len a.0 c.in-Ok.ensures.front taken.0 a.2, a.3, a.4, a.5),
      refuses_read front.result.refusal _ _ _ shown front.result.len c.in-Ok.ensures.front taken.0
          front.ensures.refused,
    )
