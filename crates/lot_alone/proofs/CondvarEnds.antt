-- A call of a condition variable whose thread steps alone: from any place it ends or sleeps, and from its
-- beginning it does what it is for.
use Rattle.lot_laws.proofs.Imports
use Imports.{ℕ, Bool, Option, Some, None, ◌≡◌, ◌≢◌, ◌*◌, ◌<◌, length, refl, sym, ◌∙◌, ap, arith, CondvarCall}
use Imports.{Outcome, CondvarPlace, Wait, Look, Notify, condvar_act, condvar_first, Condvar, condvar_purpose}
use Imports.{Line, Main, State, place_at, section_at, lock_state, IsWorld, EndsAlone, HasWhatItReads, IsOnly}
use Imports.{EndsOrSleeps, location_at, Location}
use Rattle.spec_locks.specs.declared.calls.CondvarCall.TheVariants as condvar_call
use Rattle.steps_base.specs.declared.acts.Act.TheVariants as act
use Rattle.lot_alone.proofs.Condvar.{GoesAlone, Keeps}
use Rattle.lot_laws.proofs.condvar.Replies.{fits_here}
use Rattle.lot_laws.proofs.condvar.Sites.{location_there}
use Rattle.lot_alone.proofs.Leads.{Leads, leads_more}
use Rattle.lot_alone.proofs.NotifyEnds.{look_rests, notifies_alone}
use Rattle.lot_alone.proofs.Notify.{notify_rests}
use Rattle.lot_alone.proofs.WaitEnds.{wait_alone}
use Rattle.lot_alone.proofs.Wait.{wait_rests}

module _ (t : ℕ) (keeps : Keeps t) (w : State) (world : IsWorld w) (there : t < length w.places) (l : ℕ) where
  goes_alone : (m : ℕ) (p : CondvarPlace) → place_at w t ≡ Condvar l p → GoesAlone w t l m p
  goes_alone m p is = record { world = world; thread = there; place = is }

  -- where it is to look: any mutex serves where none is shown
  module _ (all : Bool) (is : place_at w t ≡ Condvar l (Look all)) where
    looks_at : (P : State → Outcome → Type 0)
        → ((m : ℕ) → GoesAlone w t l m (Look all) → (o : Option ℕ) → (lock_state w l).shown ≡ o
        → (o ≢ None → o ≡ Some m) → Leads 9 w t P)
        → Leads 9 w t P
    looks_at P on = by_shown (lock_state w l).shown refl
      where
        by_shown : (o : Option ℕ) → (lock_state w l).shown ≡ o → Leads 9 w t P
        by_shown None e = on l (goes_alone l (Look all) is) None e (λ f. absurd (f refl))
        by_shown (Some m) e = on m (goes_alone m (Look all) is) (Some m) e (λ f. refl)

  -- from any place where it is awake
  pub condvar_rests : (p : CondvarPlace) → place_at w t ≡ Condvar l p → condvar_act l p ≢ act.Sleep
      → Leads 17 w t (λ v o. EndsOrSleeps o)
  condvar_rests (Wait m timed at) is up = wait_rests t l m keeps timed w at
      (fits_here w t l (Wait m timed at) world.inductive is).reached up (goes_alone m (Wait m timed at) is)
  condvar_rests (Look all) is up = leads_more 9 17 w t (λ v o. EndsOrSleeps o) (omega arith)
      (looks_at all is (λ v o. EndsOrSleeps o) (λ m g. look_rests t l m keeps w all g))
  condvar_rests (Notify all m at) is up = leads_more 8 17 w t (λ v o. EndsOrSleeps o) (omega arith)
      (notify_rests t l m keeps w all at (goes_alone m (Notify all m at) is))

  -- nobody is inside its section, where only this thread may be
  free_to_look : (all : Bool) → place_at w t ≡ Condvar l (Look all) → IsOnly t (section_at w (2 * l))
      → section_at w (2 * l) ≡ None
  free_to_look all is only = by_who (section_at w (2 * l)) refl
    where
      by_who : (o : Option ℕ) → section_at w (2 * l) ≡ o → section_at w (2 * l) ≡ None
      by_who None e = e
      by_who (Some u) e = absurd (let within : (location_at (place_at w t) l).inside ≡ Some Main =
          (world.inductive.stands.sections t l Main).1 (e ∙ ap Some (only u e)) in
          let outside : (location_at (place_at w t) l).inside ≡ None = ap (λ (y : Location). y.inside)
          (location_there w world.inductive.stands t l (Look all) is) in
          let both : ◌≡◌ {A = Option Line} None (Some Main) = sym outside ∙ within in cc)

  -- from its beginning
  pub condvar_alone : (c : CondvarCall) → place_at w t ≡ Condvar l (condvar_first c)
      → HasWhatItReads w t (Some (condvar_purpose l c))
      → Leads 17 w t (λ v o. EndsAlone w t (Some (condvar_purpose l c)) o v)
  condvar_alone (condvar_call.Wait m timed) is reads = wait_alone t l m keeps timed w
      (goes_alone m (condvar_first (condvar_call.Wait m timed)) is)
  condvar_alone (condvar_call.Notify all) is reads =
      leads_more 9 17 w t (λ v o. EndsAlone w t (Some (condvar_purpose l (condvar_call.Notify all))) o v)
      (omega arith)
      (looks_at all is (λ v o. EndsAlone w t (Some (condvar_purpose l (condvar_call.Notify all))) o v)
      (λ m g. notifies_alone t l m keeps w all g (free_to_look all is reads)))
