-- The permit by which a lot is told from others.
use Rattle.std.specs.Prelude.{◌≡◌}
use Rattle.core_parts.specs.PermitIds.{PermitId}
use Rattle.core_parts.specs.declared.permit.Permits.{Permits}
use Rattle.parking_lot_core.specs.declared.same.Probe.{Probe}
use Rattle.parking_lot_core.specs.declared.same.Probes.{Probes}

-- the first of its source
abbrev pub probe_id : Permits → PermitId
probe_id source = record { family = source.family; number = 0 }

abbrev pub IsProbeOf : Probes → Probe → Type 0
IsProbeOf probes probe = probe.permit.id ≡ probe_id probes.row.table.shared.key
