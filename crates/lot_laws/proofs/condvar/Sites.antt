-- Condition variables of a world: each thread in a call of one is where the row of its place says, and a
-- thread that waits stands nowhere at its mutex.
use Rattle.lot_laws.proofs.Imports
use Imports.{ℕ, Bool, true, false, Option, Some, None, if◌then◌else◌, ◌≡◌, ◌*◌, refl, sym, ◌∙◌, ap, Profile}
use Imports.{Location, location_by, Condvar, profile_at, CondvarPlace, condvar_profile, condvar_row, section_in}
use Imports.{IsAt, IsAtStage, IsListed, IsInsideNot, CondvarPhase, Line, Main, State, place_at, queue_at}
use Imports.{section_at, location_at, condvar_of, inside_as, key_of, stage_or, stood_in}
use Rattle.lot_laws.specs.SitesOf.{Stands}
use Rattle.lot_laws.proofs.machine.Parts.{same}
use Rattle.lot_laws.proofs.sites.OneStep.{queued_times}

module _ (w : State) (stands : Stands w) (t l : ℕ) (at : CondvarPlace) (is : place_at w t ≡ Condvar l at)
  where
    row_at_condvar : profile_at (place_at w t) l ≡ condvar_profile at
    row_at_condvar = rw (is, same l) refl

    pub location_there : location_at (place_at w t) l ≡ location_by (condvar_profile at)
    location_there = rw (is, same l) refl

    -- inside the section, about to do what its row says
    within : (stage : CondvarPhase) → (condvar_row at).stage ≡ Some stage
        → inside_as (section_at w (key_of l Main)) (λ u. (profile_at (place_at w u) l).stage) ≡ Some
        (record { thread = t; stage = stage })
    within stage e = ap (λ o. inside_as o (λ u. (profile_at (place_at w u) l).stage)) held
        ∙ ap (λ o. Some (record {
          thread = t;
          stage = stage_or o;
        })) (ap (λ (y : Profile). y.stage) row_at_condvar ∙ e)
      where
        held : section_at w (key_of l Main) ≡ Some t
        held = (stands.sections t l Main).0 (ap (λ (y : Location). y.inside) location_there ∙ ap section_in e)

    -- A place without a stage is not inside the section.
    outside : (condvar_row at).stage ≡ None → (o : Option ℕ) → section_at w (key_of l Main) ≡ o
        → IsInsideNot (inside_as o (λ u. (profile_at (place_at w u) l).stage)) t
    outside none None e = tt
    outside none (Some u) e = λ here.
        let in_it : (location_at (place_at w t) l).inside ≡ Some Main = (stands.sections t l Main).1 (e
        ∙ ap Some here) in
        let not_in : (location_at (place_at w t) l).inside ≡ None = ap (λ (y : Location). y.inside)
        location_there ∙ ap section_in none in
        let both : ◌≡◌ {A = Option Line} None (Some Main) = sym not_in ∙ in_it in cc

    stage_is : (o : Option CondvarPhase) → (condvar_row at).stage ≡ o → IsAtStage (condvar_of w l) t o
    stage_is None e = outside e (section_at w (key_of l Main)) refl
    stage_is (Some stage) e = within stage e

    listed_is : (b : Bool) → (condvar_row at).listed ≡ b → IsListed (condvar_of w l) t b
    listed_is true e = queued_times t (queue_at w (2 * l)) ∙ stands.lines t l Main
        ∙ ap (λ (y : Location). stood_in y.stands Main) location_there
        ∙ ap (λ (b : Bool). stood_in (if b then Some Main else None) Main) e
    listed_is false e = queued_times t (queue_at w (2 * l)) ∙ stands.lines t l Main
        ∙ ap (λ (y : Location). stood_in y.stands Main) location_there
        ∙ ap (λ (b : Bool). stood_in (if b then Some Main else None) Main) e

    -- the condition variable has its thread where the row of its place says
    pub at_place : IsAt (condvar_of w l) t at
    at_place = record {
      stage = stage_is (condvar_row at).stage refl;
      listed = listed_is (condvar_row at).listed refl;
      names = ap (λ (y : Profile). y.names) row_at_condvar;
    }
