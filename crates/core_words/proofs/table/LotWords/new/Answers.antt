use Rattle.std.proofs.Common.{◌≡◌, ℕ, ◌+◌, ◌*◌, List, length, sym, ap, ◌∙◌, subst, arith}
use lib.ListN.{replicate}
use Rattle.atomic_table.specs.Table.{opening}
use Rattle.core_parts.specs.declared.slot.PermitSlot.{PermitSlot}
use Rattle.core_words.specs.Permits.{laid}
use Rattle.core_words.specs.Rule.{LotRule}
use Rattle.core_words.specs.Views.{namer}
use Rattle.core_words.proofs.PermitSteps.{opens_at_first}
use Rattle.core_words.proofs.table.LotWords.new.Goals as goal

pub new-requires : goal.new-requires
new-requires c =
    let i = c.loop-slots.invariant in let t = c.loop-slots-test.false in let same = c.len.ensures in
    let full : length c.loop-slots.slots.items ≡ 8 * (c.args.count + 1) = (let ok = c.loop-slots.slots.ok
    in let most = i.2 in omega arith) in
    let zeros : c.as_slice.result.now ≡ replicate (8 * (c.args.count + 1)) 0 = c.as_slice.ensures.value
    ∙ c.in_ok-zeros.ensures.items_if_clones_equal (λ y e. e) in
    let family : ℕ = c.loop-slots.permits.family in
    subst (λ (t : List ℕ × List PermitSlot). LotRule c.args.count family (opening t.0 t.1 namer)) (λ k.
    (sym zeros k, sym (i.0 ∙ ap (laid family) full) k)) (opens_at_first c.args.count family)
