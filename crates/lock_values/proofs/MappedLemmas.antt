-- Mapped guards.
use Rattle.std.proofs.Common.{◌≡◌, IsOk, Result, subst}
use Rattle.std.proofs.Props.{props}
use Rattle.lock_values.specs.declared.mapped.Mapped.{Mapped}
use Rattle.lock_values.specs.declared.project.Project as project
use Rattle.lock_values.specs.declared.shows.Shows as shows

ok_once : {A E : Type 0} (one : Result A E) → IsProp (IsOk one)
ok_once one = Prim.hlevel props

-- mapped guards of one guard and one projection differ in nothing
pub same_mapped : {G P V B E : Type 0} {s : shows.Ghosts G V} {p : project.Ghosts P V B E} (guard other : G)
    (by : P) → guard ≡ other
    → (x : IsOk (p.finds by (s.shown guard))) (y : IsOk (p.finds by (s.shown other)))
    → ◌≡◌ {A = Mapped G P V B E s p} (record {
      guard = guard;
      by = by;
      fits = x;
    }) (record { guard = other; by = by; fits = y })
same_mapped {G = G} {P = P} {V = V} {B = B} {E = E} {s = s} {p = p} guard other by same x =
    subst (λ (other : G). (y : IsOk (p.finds by (s.shown other))) → ◌≡◌ {A = Mapped G P V B E s p} (record {
      guard = guard;
      by = by;
      fits = x;
    }) (record { guard = other; by = by; fits = y })) same
    (λ y i. record { guard = guard; by = by; fits = ok_once (p.finds by (s.shown guard)) x y i })
