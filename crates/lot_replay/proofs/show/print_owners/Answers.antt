use Rattle.std.proofs.Common.{◌++◌, refl, sym, ap, ◌∙◌, append_assoc}
use Rattle.std.specs.Prelude.{codes, decimal}
use Rattle.lot_replay.specs.Shows.{owner_letter, owner_text, group}
use Rattle.lot_text.proofs.SentLemmas.{puts_then, left_all, left_less}
use Rattle.lot_replay.proofs.ShowLemmas.{group_step}
use Rattle.lot_replay.proofs.show.print_owners.Goals as goal

pub loop-owner-init : goal.loop-owner-init
loop-owner-init g c = (
  tt,
  tt,
  left_all _ _ _ _ (rw (c.as_slice-mark.ensures, c.into_iter-owner-iterator.ensures.into_iter_gives) refl),
)

pub loop-owner-preserved : goal.loop-owner-preserved
loop-owner-preserved g c =
    let mark = c.loop-owner.mark.now in
    let letter = owner_letter c.in-Some.owner in
    let number = decimal c.in-Some.thread in
    let rest = group (codes ",") owner_text c.next.new.self in
    let puts =
    puts_then _ _ _ c.loop-owner.page c.put.new.self c.put-in-loop-owner.new.self mark (number ++ letter)
    c.put.ensures
    (puts_then _ _ _ c.put.new.self c.put_number.new.self c.put-in-loop-owner.new.self number letter
    c.put_number.ensures (rw c.owner_letter.ensures at c.put-in-loop-owner.ensures)) in (
      tt,
      tt,
      left_less _ _ _ c.args.page.now c.loop-owner.page c.put-in-loop-owner.new.self
          (mark ++ (number ++ letter)) _ rest _ c.loop-owner.invariant.2 puts
          (ap (group mark owner_text) c.in-Some.ensures.steps ∙ group_step mark owner_text (
            c.in-Some.owner,
            c.in-Some.thread,
          ) c.next.new.self ∙ sym (append_assoc mark (number ++ letter) rest)),
    )
