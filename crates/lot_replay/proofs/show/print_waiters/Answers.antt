use Rattle.std.proofs.Common.{◌*◌, ◌++◌, refl, sym, ap, ◌∙◌}
use Rattle.std.specs.Prelude.{decimal}
use Rattle.lot_replay.specs.Shows.{want_letter, waiter_text, aside_text}
use Rattle.lot_text.proofs.SentLemmas.{puts_then, left_all, left_less, left_none}
use Rattle.lot_replay.proofs.ShowLemmas.{waiters_left, waiters_all, left_main, left_aside}
use Rattle.lot_replay.proofs.show.print_waiters.Goals as goal

pub loop-waiter-init : goal.loop-waiter-init
loop-waiter-init g c = (
  tt,
  tt,
  left_all _ _ _ _ (rw (
    c.as_slice-main_mark.ensures,
    c.as_slice-aside_mark.ensures,
    c.into_iter-waiter-iterator.ensures.into_iter_gives,
  ) refl),
)

pub loop-waiter-preserved-then-waiter-main_key : goal.loop-waiter-preserved-then-waiter-main_key
loop-waiter-preserved-then-waiter-main_key g c =
    let key = 2 * c.args.lock in
    let x = c.in-Some.waiter in
    let main = c.loop-waiter.main_mark.now in
    let aside = c.loop-waiter.aside_mark.now in
    let puts =
    puts_then _ _ _ c.loop-waiter.page c.put.new.self c.put-then-waiter-main_key.new.self main (waiter_text x)
    c.put.ensures
    (puts_then _ _ _ c.put.new.self c.put_number.new.self c.put-then-waiter-main_key.new.self
    (decimal x.thread) (want_letter x.want) c.put_number.ensures (rw c.want_letter.ensures at
    c.put-then-waiter-main_key.ensures)) in (
      tt,
      tt,
      left_less _ _ _ c.args.page.now c.loop-waiter.page c.put-then-waiter-main_key.new.self
          (main ++ waiter_text x) _ _ _ c.loop-waiter.invariant.2 puts
          (ap (waiters_left key main aside) c.in-Some.ensures.steps ∙ left_main key main aside x
          c.next.new.self (c.if-waiter-main_key.true ∙ c.main_key.ensures)),
    )

pub loop-waiter-preserved : goal.loop-waiter-preserved
loop-waiter-preserved g c =
    let key = 2 * c.args.lock in
    let x = c.in-Some.waiter in
    let main = c.loop-waiter.main_mark.now in
    let aside = c.loop-waiter.aside_mark.now in
    let puts =
    puts_then _ _ _ c.loop-waiter.page c.put-else-waiter-main_key.new.self
    c.put_number-else-waiter-main_key.new.self aside (aside_text x) c.put-else-waiter-main_key.ensures
    c.put_number-else-waiter-main_key.ensures in (
      tt,
      tt,
      left_less _ _ _ c.args.page.now c.loop-waiter.page c.put_number-else-waiter-main_key.new.self
          (aside ++ aside_text x) _ _ _ c.loop-waiter.invariant.2 puts
          (ap (waiters_left key main aside) c.in-Some.ensures.steps ∙ left_aside key main aside x
          c.next.new.self (λ e. c.if-waiter-main_key.false (e ∙ sym c.main_key.ensures))),
    )

pub returns : goal.returns
returns g c =
    λ main aside e h k.
    left_none _ _ c.args.page.now c.loop-waiter.page _ _ (rw (e, waiters_all c.args.lock main aside h k) at
    c.loop-waiter.invariant.2)
    (ap (waiters_left (2 * c.args.lock) c.loop-waiter.main_mark.now c.loop-waiter.aside_mark.now)
    c.in-None.ensures.steps.0)
