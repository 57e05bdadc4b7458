-- Where a reader-writer call stands it goes on, and from where it looks once more.
use Rattle.std.proofs.Common.{ℕ, Bool, true, false, List, Some, None, if◌then◌else◌, ◌&&◌, not, ◌≡◌, ◌+◌, ◌*◌}
use Rattle.std.proofs.Common.{refl, ap, ◌∙◌, sym, subst}
use Rattle.core_base.specs.declared.keys.Keys.TheVariants.{One}
use Rattle.core_base.specs.declared.keys.Line.{Line}
use Rattle.core_base.specs.declared.keys.Line.TheVariants.{Main, Second}
use Rattle.spec_locks.specs.Codes.{has_aside}
use Rattle.steps_base.specs.declared.acts.Act.{Act}
use Rattle.steps_base.specs.declared.acts.Act.TheVariants as act
use Rattle.steps_rwlock.specs.RwLockCalls.{IsDecided, IsNoRefusal, MayStand}
use Rattle.spec_locks.specs.Sites.{Role}
use Rattle.steps_base.specs.Profiles.{Profile}
use Rattle.steps_rwlock.specs.RwLockDeeds.{rwlock_role}
use Rattle.steps_rwlock.specs.RwLockProfiles.{gone_to, is_mark, rwlock_respin}
use Rattle.steps_rwlock.specs.RwLockSteps.{act_at, decided_act, decided_for, exchange, park_act, plus}
use Rattle.steps_rwlock.specs.RwLockSteps.{rwlock_act, wake_act, want_at}
use Rattle.steps_rwlock.specs.declared.enter.Decision.{Decision}
use Rattle.steps_rwlock.specs.declared.enter.Decision.TheVariants as decisions
use Rattle.steps_rwlock.specs.declared.park.ParkAt.{ParkAt}
use Rattle.steps_rwlock.specs.declared.park.ParkAt.TheVariants as parking
use Rattle.steps_rwlock.specs.declared.places.Admission.{Admission}
use Rattle.steps_rwlock.specs.declared.places.RwLockAt.{RwLockAt}
use Rattle.steps_rwlock.specs.declared.places.RwLockAt.TheVariants as at
use Rattle.steps_rwlock.specs.declared.places.RwLockPlace.{RwLockPlace}
use Rattle.steps_rwlock.specs.declared.purposes.RwLockPurpose.{RwLockPurpose}
use Rattle.steps_rwlock.specs.declared.release.WakeAt.{WakeAt}
use Rattle.steps_rwlock.specs.declared.release.WakeAt.TheVariants as waking
use Rattle.steps_rwlock.proofs.RwLockCallPlaces.{rwlock_looks_stand}
use Rattle.core_words.specs.declared.owners.Ownership.{Ownership}
use Rattle.run_base.specs.Fitting.{answer_of}
use Rattle.run_base.specs.Paths.{closure_of}
use Rattle.core_words.specs.declared.views.WordStep.{WordStep}
use Rattle.run_base.specs.RwLockFitting.{FitsRwLock, HasGivenWay, SeenInRange, HasStood, IsWithin, OwnsBeside}
use Rattle.run_base.specs.Stages.{ThreadState}

-- an act that neither ends its call nor runs a closure
abbrev GoesOn : Act → Type 0
GoesOn x = (answer_of x ≡ None) × (closure_of x ≡ None)

module _ (l : ℕ) (a : Admission) where
  abbrev of : RwLockPurpose → Bool → RwLockAt → RwLockPlace
  of q again to = record { purpose = q; retries = again; at = to }

  decided_goes : (q : RwLockPurpose) (seen : ℕ) (d : Decision) → IsNoRefusal d
      → GoesOn (decided_act l q seen d)
  decided_goes q seen decisions.Take n = (refl, refl)
  decided_goes q seen decisions.Mark n = (refl, refl)
  decided_goes q seen decisions.Park n = (refl, refl)
  decided_goes q seen (decisions.Refuse answer) n = absurd n

  parking_goes : (p : RwLockPlace) (m : Line) (to : ParkAt) → GoesOn (park_act l a (want_at p) m to)
  parking_goes p m parking.Check = (refl, refl)
  parking_goes p m (parking.Leave parked) = (refl, refl)
  parking_goes p m parking.Asleep = (refl, refl)
  parking_goes p m (parking.Taken by) = (refl, refl)
  parking_goes p m parking.Remove = (refl, refl)
  parking_goes p m parking.Clear = (refl, refl)
  parking_goes p m parking.GiveUp = (refl, refl)

  waking_goes : (q : RwLockPurpose) (m : Line) (to : WakeAt) → GoesOn (wake_act l a q m to)
  waking_goes q m waking.Enter = (refl, refl)
  waking_goes q m waking.Take = (refl, refl)
  waking_goes q m (waking.Clear any) = (refl, refl)
  waking_goes q m (waking.Leave any) = (refl, refl)

  counting_goes : (seen : ℕ) (b : Bool)
      → GoesOn (if b then act.Enter (One (2 * l + 1)) else exchange l seen (plus seen 2))
  counting_goes seen true = (refl, refl)
  counting_goes seen false = (refl, refl)

  goes_at : (q : RwLockPurpose) (again : Bool) (to : RwLockAt) → IsDecided a q to
      → GoesOn (act_at l a (of q again to) to)
  goes_at q again at.First n = (refl, refl)
  goes_at q again at.Load n = (refl, refl)
  goes_at q again (at.Decide seen) n = decided_goes q seen (decided_for a q seen) n
  goes_at q again (at.Park to) n = parking_goes (of q again (at.Park to)) Main to
  goes_at q again at.Look n = (refl, refl)
  goes_at q again (at.Count seen) n = counting_goes seen (has_aside seen)
  goes_at q again at.Marked n = (refl, refl)
  goes_at q again (at.Aside to) n = parking_goes (of q again (at.Aside to)) Second to
  goes_at q again at.RollBack n = (refl, refl)
  goes_at q again at.GiveWay n = (refl, refl)
  goes_at q again (at.Wake m to) n = waking_goes q m to

  -- where a call may stand, it neither ends nor runs a closure
  pub goes_on : (p : RwLockPlace) → MayStand a p → (answer_of (rwlock_act l a p) ≡ None)
      × (closure_of (rwlock_act l a p) ≡ None)
  goes_on p stands = goes_at p.purpose p.retries p.at stands.decided

  -- where a thread looks once more
  pub looks_from : (q : RwLockPurpose) (again : Bool) (to : RwLockAt) (p : RwLockPlace)
      → rwlock_respin a (of q again to) ≡ Some p → (q ≡ p.purpose) × (again ≡ p.retries) × HasGivenWay p.at
      × SeenInRange p.at × ((steps : List WordStep) → HasStood l p.at steps)
  looks_from q again (at.Decide seen) p e = by_test (is_mark (decided_for a q seen) && not (has_aside seen)) e
    where
      by_test : (b : Bool) → gone_to (of q again (at.Decide seen)) (if b then Some at.Load else None) ≡ Some p
          → (q ≡ p.purpose) × (again ≡ p.retries) × HasGivenWay p.at × SeenInRange p.at
          × ((steps : List WordStep) → HasStood l p.at steps)
      by_test true e = let there : of q again at.Load ≡ p = cc in subst (λ (r : RwLockPlace). (q ≡ r.purpose)
          × (again ≡ r.retries) × HasGivenWay r.at × SeenInRange r.at × ((steps : List WordStep)
          → HasStood l r.at steps)) there (refl, refl, tt, tt, λ steps. tt)
      by_test false e = absurd cc
  looks_from q again (at.Count seen) p e = let there : of q again at.Look ≡ p = cc
      in subst (λ (r : RwLockPlace). (q ≡ r.purpose) × (again ≡ r.retries) × HasGivenWay r.at
      × SeenInRange r.at × ((steps : List WordStep) → HasStood l r.at steps)) there (
        refl,
        refl,
        tt,
        tt,
        λ steps. tt,
      )
  looks_from q again to p e = absurd cc

module _ (up : Type 0) (l : ℕ) (a : Admission) (base : List Ownership) (p : RwLockPlace) (st : ThreadState)
    (f : FitsRwLock up l base a p st) where
  -- the thread has there what it had
  pub looks_fit : (p2 : RwLockPlace) → rwlock_respin a p ≡ Some p2 → FitsRwLock up l base a p2 st
  looks_fit p2 e = let row = (rwlock_looks_stand a p p2 e).0 in let place =
      looks_from l a p.purpose p.retries p.at p2 e in
      let role : rwlock_role p2 ≡ rwlock_role p = ap (λ (r : Profile). r.role) row in record {
        stands = (rwlock_looks_stand a p p2 e).1 f.stands;
        room = f.room;
        begun = place.2;
        seen = place.3;
        stood = place.4 st.steps;
        owns = subst (λ (d : Role). OwnsBeside l d.claims base st.owns) (sym role) f.owns;
        within = subst (λ (r : RwLockPurpose). IsWithin l a r (rwlock_role p2).inside (rwlock_role p2).has_taken
            st.inside) place.0 (subst (λ (d : Role). IsWithin l a p.purpose d.inside d.has_taken st.inside)
            (sym role) f.within);
        late = λ h. f.late (sym (ap (λ (r : Profile). r.late) row) ∙ h);
      }
