use Rattle.std.proofs.Common.{◌≢◌, ◌++◌, length, arith, ap}
use Rattle.std.proofs.lemmas.List.Elements.{All-append}
use Rattle.std.proofs.KnownBytes.{Consumes-trans}
use Rattle.lot_text.proofs.LinesLemmas.{takes_fed, takes_last, too_long, some_from_test}
use Rattle.lot_text.proofs.input.read_line.Goals as goal

pub returns-in-LineFeed : goal.returns-in-LineFeed
returns-in-LineFeed g c =
    let e = c.in-LineFeed.ensures in
    let before = c.loop.invariant in
    let whole = All-append (λ b. b ≢ 10) c.loop.line.items e.0 before.0 e.1 in
    (rw e.3 (takes_fed _ _ _ c.loop.line.items e.0 before.2 e.2 whole), e.4)

pub returns-in-NoRoom : goal.returns-in-NoRoom
returns-in-NoRoom g c =
    let e = c.in-NoRoom.ensures in
    let before = c.loop.invariant in
    let whole = All-append (λ b. b ≢ 10) c.loop.line.items e.0 before.0 e.2 in
    too_long _ e.1 (c.loop.line.items ++ e.0) (Consumes-trans _ _ e.1 c.loop.line.items e.0 before.2 e.3)
    whole e.4

pub returns-else-is_empty : goal.returns-else-is_empty
returns-else-is_empty g c =
    let e = c.in-NoMore.ensures in
    let before = c.loop.invariant in
    let some = some_from_test _ _ c.is_empty.ensures c.if-is_empty.false in (
      rw e.2 (takes_last _ _ _ c.loop.line.items before.2 e.0 e.1 before.0 (omega (
        arith,
        ap length e.2,
        some,
      ))),
      rw e.2 before.1,
    )
