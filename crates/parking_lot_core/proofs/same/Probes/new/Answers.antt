use Rattle.std.proofs.Common.{◌≡◌, ◌∙◌, List, Option, [], ◌∷◌, ◌++◌, Some, ap, refl, sym, arith}
use Rattle.core_parts.specs.Guards.{HasValue}
use Rattle.parking_lot_core.specs.Same.{probe_id}
use Rattle.parking_lot_core.specs.declared.same.Probe.{Probe}
use Rattle.parking_lot_core.proofs.Lists.{all_more}
use Rattle.parking_lot_core.proofs.same.Probes.new.Goals as goal

pub new-requires : goal.new-requires
new-requires c = let source = c.draw-permit.new.self in let probe : Probe =
    record { permit = c.draw-permit.result } in
    let first : probe.permit.id ≡ probe_id source = c.draw-permit.ensures.permit ∙ (λ i. record {
      family = (sym c.draw-permit.ensures.permits.0) i;
      number = c.new-source.ensures i;
    }) in
    all_more (HasValue (λ (p : Probe). p.permit.id ≡ probe_id source)) [] c.push.new.self.items (Some probe)
    (c.in_ok-push.ensures.items ∙ ap (λ (ps : List (Option Probe)). ps ++ Some probe ∷ [])
    c.in_ok-probes.ensures.items) (λ k d near. absurd (omega (arith, near))) (probe, refl, first)
