use Rattle.std.proofs.Common.{◌≡◌, ◌∙◌, ℕ, Some, None, IfOk, refl, subst, arith}
use Rattle.core_parts.specs.Guards.{HasValue}
use Rattle.core_words.specs.RightsOf.{IsRightOf}
use Rattle.parking_lot_core.specs.declared.waiters.WakeRecord.{WakeRecord}
use Rattle.parking_lot_core.proofs.Lists.{all_more, all_empty}
use Rattle.parking_lot_core.proofs.lot.empty_records.Goals as goal

pub loop-preserved : goal.loop-preserved
loop-preserved c = let more = c.in_ok-push.ensures.items in (
  omega (arith, c.in_ok-push.ensures.len, c.push.new.self.ok, c.loop.records.ok),
  all_more (HasValue (λ (wake_record : WakeRecord). wake_record.right ≡ None)) c.loop.records.items
      c.push.new.self.items (Some c.empty.result) more c.loop.invariant.1 (
        c.empty.result,
        refl,
        c.empty.ensures,
      ),
)

pub new-requires : goal.new-requires
new-requires c = all_empty (λ (wake_record : WakeRecord). wake_record.right) (IsRightOf c.args.words.now)
    c.loop.records.items c.loop.invariant.1

pub returns : goal.returns
returns c = subst (λ (seats : ℕ). IfOk c.new.result (λ records. (records.table.shared.key ≡ c.args.words.now)
    × (records.count ≡ seats))) (c.loop.invariant.0 ∙ omega (
      arith,
      c.loop-test.false,
      c.loop.auto.counter-end,
    )) c.new.ensures
