use Rattle.std.proofs.Common.{◌++◌, refl, ap, ◌∙◌}
use Rattle.std.specs.Prelude.{codes, decimal}
use Rattle.lot_text.proofs.SentLemmas.{puts_then, left_all, left_less, left_none}
use Rattle.lot_replay.proofs.ShowLemmas.{debts_left, debts_both, left_owes, left_retries}
use Rattle.lot_replay.proofs.show.print_debtors.Goals as goal

pub loop-debt-init : goal.loop-debt-init
loop-debt-init g c = (
  tt,
  tt,
  left_all _ _ _ _ (rw (
    c.as_slice-owe_mark.ensures,
    c.as_slice-retry_mark.ensures,
    c.into_iter-debt-iterator.ensures.into_iter_gives,
  ) refl),
)

pub returns : goal.returns
returns g c =
    λ owing retrying e h k.
    left_none _ _ c.args.page.now c.loop-debt.page _ _
    (rw (e, debts_both (codes " owe=") (codes " retry=") owing retrying h k) at c.loop-debt.invariant.2)
    (ap (debts_left c.loop-debt.owe_mark.now c.loop-debt.retry_mark.now) c.in-None.ensures.steps.0)

pub loop-debt-preserved-in-Owes : goal.loop-debt-preserved-in-Owes
loop-debt-preserved-in-Owes g c =
    let owe = c.loop-debt.owe_mark.now in
    let retry = c.loop-debt.retry_mark.now in
    let number = decimal c.in-Some.thread in (
      tt,
      tt,
      left_less _ _ _ c.args.page.now c.loop-debt.page c.put_number.new.self (owe ++ number) _ _ _
          c.loop-debt.invariant.2 (puts_then _ _ _ c.loop-debt.page c.put.new.self c.put_number.new.self owe
          number c.put.ensures c.put_number.ensures)
          (ap (debts_left owe retry) c.in-Some.ensures.steps ∙ left_owes owe retry c.in-Some.debt
          c.in-Some.thread c.next.new.self c.in-Owes.is),
    )

pub loop-debt-preserved : goal.loop-debt-preserved
loop-debt-preserved g c =
    let owe = c.loop-debt.owe_mark.now in
    let retry = c.loop-debt.retry_mark.now in
    let number = decimal c.in-Some.thread in (
      tt,
      tt,
      left_less _ _ _ c.args.page.now c.loop-debt.page c.put_number-in-Retries.new.self (retry ++ number) _ _
          _ c.loop-debt.invariant.2
          (puts_then _ _ _ c.loop-debt.page c.put-in-Retries.new.self c.put_number-in-Retries.new.self retry
          number c.put-in-Retries.ensures c.put_number-in-Retries.ensures)
          (ap (debts_left owe retry) c.in-Some.ensures.steps ∙ left_retries owe retry c.in-Some.debt
          c.in-Some.thread c.next.new.self c.in-Retries.is),
    )
