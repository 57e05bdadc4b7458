-- Each lock sees of a place in a call of a condition variable, and of the next one, its own part: the row
-- there, the row beside, or nothing.
use Rattle.lot_laws.proofs.Imports
use Imports.{ℕ, true, false, Some, None, ◌==◌, ◌≡◌, ◌≢◌, refl, sym, ◌∙◌, ap, Next, At, taken_from, Location}
use Imports.{location_by, Place, condvar_goes, CondvarPlace, mutex_beside, row_at_mutex, row_at_condvar, idle}
use Imports.{taken_at, role_on, location_at}
use Rattle.steps_base.specs.declared.acts.Next.TheVariants.{End as Over}
use Rattle.steps_base.specs.Locations.{nowhere}
use Rattle.lot_laws.proofs.machine.Parts.{differ, same}
use Rattle.lot_laws.proofs.sites.StandsKept.{Alike}

-- a place in a call of the condition variable l with the mutex m, or of none
abbrev pub Beside : ℕ → Next CondvarPlace → Type 0
Beside m (At p) = mutex_beside p ≡ Some m
Beside m (Over answer) = Unit {0}

module _ (l m : ℕ) (apart : m ≢ l) where
  there_differ : (l == m) ≡ false
  there_differ = differ l m (λ e. apart (sym e))

  module _ (n : Next CondvarPlace) (beside : Beside m n) where
    abbrev pub place : Place
    place = condvar_goes l n

    pub location_there : location_at place l ≡ location_by (row_at_condvar n)
    location_there = by_next n
      where
        by_next : (n : Next CondvarPlace) → location_at (condvar_goes l n) l ≡ location_by (row_at_condvar n)
        by_next (At p) = rw (same l) refl
        by_next (Over answer) = refl

    pub role_there : role_on place l ≡ (row_at_condvar n).role
    role_there = by_next n
      where
        by_next : (n : Next CondvarPlace) → role_on (condvar_goes l n) l ≡ (row_at_condvar n).role
        by_next (At p) = rw (same l) refl
        by_next (Over answer) = refl

    pub taken_there : taken_at place l ≡ None
    taken_there = by_next n beside
      where
        by_next : (n : Next CondvarPlace) → Beside m n → taken_at (condvar_goes l n) l ≡ None
        by_next (At p) e = rw (same l, e, differ m l apart) refl
        by_next (Over answer) e = refl

    pub location_beside : location_at place m ≡ location_by (row_at_mutex n)
    location_beside = by_next n beside
      where
        by_next : (n : Next CondvarPlace) → Beside m n → location_at (condvar_goes l n) m ≡ location_by
            (row_at_mutex n)
        by_next (At p) e = rw (there_differ, e, same m) refl
        by_next (Over answer) e = refl

    pub role_beside : role_on place m ≡ (row_at_mutex n).role
    role_beside = by_next n beside
      where
        by_next : (n : Next CondvarPlace) → Beside m n → role_on (condvar_goes l n) m ≡ (row_at_mutex n).role
        by_next (At p) e = rw (there_differ, e, same m) refl
        by_next (Over answer) e = refl

    pub taken_beside : taken_at place m ≡ taken_from (row_at_mutex n).hand (row_at_mutex n).wants true
    taken_beside = by_next n beside
      where
        by_next : (n : Next CondvarPlace) → Beside m n
            → taken_at (condvar_goes l n) m ≡ taken_from (row_at_mutex n).hand (row_at_mutex n).wants true
        by_next (At p) e = rw (there_differ, e, same m) refl
        by_next (Over answer) e = refl

  -- elsewhere it stands nowhere
  pub nothing_there : (n : Next CondvarPlace) → Beside m n → (k : ℕ) → k ≢ l → k ≢ m
      → location_at (condvar_goes l n) k ≡ nowhere
  nothing_there (At p) e k nl nm = rw (differ l k (λ f. nl (sym f)), e, differ m k (λ f. nm (sym f))) refl
  nothing_there (Over answer) e k nl nm = refl

  -- another lock sees nothing of it
  pub nothing_else : (n n2 : Next CondvarPlace) → Beside m n → Beside m n2 → (k : ℕ) → k ≢ l → k ≢ m
      → Alike k (condvar_goes l n) (condvar_goes l n2)
  nothing_else n n2 h h2 k nl nm = let a = nothing n h in let b = nothing n2 h2 in record {
    location = b.0 ∙ sym a.0;
    role = b.1 ∙ sym a.1;
    taken = b.2 ∙ sym a.2;
  }
    where
      nothing : (n : Next CondvarPlace) → Beside m n
          → (location_at (condvar_goes l n) k ≡ nowhere) × (role_on (condvar_goes l n) k ≡ idle)
          × (taken_at (condvar_goes l n) k ≡ None)
      nothing (At p) e = (
        rw (differ l k (λ f. nl (sym f)), e, differ m k (λ f. nm (sym f))) refl,
        rw (differ l k (λ f. nl (sym f)), e, differ m k (λ f. nm (sym f))) refl,
        rw (differ l k (λ f. nl (sym f)), e, differ m k (λ f. nm (sym f))) refl,
      )
      nothing (Over answer) e = (refl, refl, refl)

-- the row there says of the thread's doing where it is inside
pub role_of_row : (n : Next CondvarPlace) → (row_at_condvar n).role ≡ record idle {
  inside =
      (location_by (row_at_condvar n)).inside;
}
role_of_row (At p) = refl
role_of_row (Over answer) = refl

-- ---------------------------------------------------------------- the parts that a step leaves as they were

-- one row and the next say the same of the thread at the mutex
abbrev pub SameBeside : Next CondvarPlace → Next CondvarPlace → Type 0
SameBeside n n2 =
    (location_by (row_at_mutex n2) ≡ location_by (row_at_mutex n)) × ((row_at_mutex n2).role ≡ (row_at_mutex n).role)
    × (taken_from (row_at_mutex n2).hand (row_at_mutex n2).wants true ≡ taken_from (row_at_mutex n).hand
    (row_at_mutex n).wants true)

module _ (l m : ℕ) (apart : m ≢ l) (n n2 : Next CondvarPlace) (beside : Beside m n) (beside2 : Beside m n2)
  where
    pub alike_beside : SameBeside n n2 → Alike m (condvar_goes l n) (condvar_goes l n2)
    alike_beside e = record {
      location = location_beside l m apart n2 beside2 ∙ e.0 ∙ sym (location_beside l m apart n beside);
      role = role_beside l m apart n2 beside2 ∙ e.1 ∙ sym (role_beside l m apart n beside);
      taken = taken_beside l m apart n2 beside2 ∙ e.2 ∙ sym (taken_beside l m apart n beside);
    }

    pub alike_there : location_by (row_at_condvar n2) ≡ location_by (row_at_condvar n)
        → Alike l (condvar_goes l n) (condvar_goes l n2)
    alike_there e = record {
      location = location_there l m apart n2 beside2 ∙ e ∙ sym (location_there l m apart n beside);
      role = role_there l m apart n2 beside2 ∙ role_of_row n2
          ∙ ap (λ (y : Location). record idle { inside = y.inside }) e ∙ sym (role_of_row n)
          ∙ sym (role_there l m apart n beside);
      taken = taken_there l m apart n2 beside2 ∙ sym (taken_there l m apart n beside);
    }
