-- The places of a bump lead on that releases a shared right, or enters again.
use Rattle.std.proofs.Common.{◌<◌, ◌-◌, ◌^◌, inl, inr}
use Rattle.core_base.specs.declared.wants.Want.TheVariants as wants
use Rattle.spec_locks.specs.declared.calls.Access.TheVariants as access
use Rattle.spec_locks.specs.declared.calls.Patience.TheVariants.{Patient, Timed, Try}
use Rattle.steps_base.specs.declared.acts.Reply.TheVariants.{Value}
use Rattle.steps_rwlock.specs.RwLockBegins.{rwlock_first}
use Rattle.steps_rwlock.specs.RwLockSteps.{access_of}
use Rattle.steps_rwlock.specs.declared.purposes.RwLockPurpose.TheVariants as purpose
use Rattle.steps_rwlock_fair.proofs.FairStands.{fair_calls_stand}
use Rattle.steps_rwlock_fair.specs.FairCalls.{CallStandsNext, IsOfBump}
use Rattle.steps_rwlock_fair.specs.FairSteps.{bump_next}
use Rattle.steps_rwlock_fair.specs.declared.places.RwLockCallPlace.TheVariants.{Bump}
use Rattle.core_words.proofs.RwLockOwning.{fits}
use Rattle.run_base.specs.RwLockFitting.{FitsBump, OwnsRight}
use Rattle.run_base.proofs.RwLockBeginning.{Begun, begun, may_begin}
use Rattle.run_base.proofs.RwLockGoing.{goes_on, looks_fit, looks_from}
use Rattle.run_base.proofs.RwLockHanded.{bump_goes, told_plainly}
use Rattle.run_base.proofs.RwLockHanding.{enters_fit}
use Rattle.std.proofs.Common.{ℕ, true, false, List, Option, Some, None, ◌≡◌, refl, ap, sym, subst}
use Rattle.spec_locks.specs.declared.outcomes.Answer.{Answer}
use Rattle.steps_base.specs.declared.acts.Next.{Next}
use Rattle.steps_base.specs.declared.acts.Next.TheVariants.{At, End}
use Rattle.steps_base.specs.declared.acts.Reply.{Reply}
use Rattle.lot_steps.specs.Steps.{in_rwlock, rwlock_goes, rwlock_does}
use Rattle.lot_steps.specs.declared.places.Place.{Place}
use Rattle.lot_steps.specs.declared.places.Place.TheVariants.{RwLock}
use Rattle.steps_rwlock.proofs.RwLockOpenings.{rwlock_calls_open}
use Rattle.steps_rwlock.specs.RwLockProfiles.{rwlock_respin}
use Rattle.steps_rwlock.specs.RwLockSteps.{rwlock_act, rwlock_next}
use Rattle.steps_rwlock.specs.declared.places.Admission.{Admission}
use Rattle.steps_rwlock.specs.declared.places.RwLockAt.{RwLockAt}
use Rattle.steps_rwlock.specs.declared.places.RwLockAt.TheVariants as at
use Rattle.steps_rwlock.specs.declared.places.RwLockPlace.{RwLockPlace}
use Rattle.steps_rwlock.specs.declared.purposes.RwLockPurpose.{RwLockPurpose}
use Rattle.steps_rwlock_fair.specs.declared.places.RwLockCallPlace.{RwLockCallPlace}
use Rattle.steps_rwlock_fair.specs.FairProfiles.{in_call}
use Rattle.steps_rwlock_fair.specs.FairSteps.{call_act, call_next, given, unless_given}
use Rattle.core_words.specs.declared.owners.Ownership.{Ownership}
use Rattle.run_base.specs.Fitting.{Fits, LooksLeadOn, Reached, ReachedBy, call_purpose, answer_of, of_rwlock}
use Rattle.run_base.specs.Fitting.{sleeper_at}
use Rattle.run_base.specs.Paths.{rwlock_at, rwlocks, at_rwlock}
use Rattle.run_base.specs.RwLockFitting.{IsBeside, FitsCall, FitsRwLock, HasGivenWay}
use Rattle.run_base.specs.Stages.{ThreadState, ActNeeds, Became}
use Rattle.run_base.proofs.RwLockLeads.{Comes, leads_at}
use Rattle.run_base.proofs.RwLockNeeds.{rwlock_needs}

module _ (up : Type 0) (l : ℕ) (a : Admission) (base : List Ownership) where
  -- where a plain call fits, a bump does
  pub bump_fits : (p : RwLockPlace) (st : ThreadState) → IsOfBump p.purpose p.retries
      → FitsRwLock up l base a p st
      → FitsCall up l base a (Bump p) st
  bump_fits p st of f = (of, by_place p.at f.begun)
    where
      by_place : (to : RwLockAt) → HasGivenWay to → FitsBump up l base a p to st
      by_place at.GiveWay begun = absurd begun
      by_place to begun = f

  abbrev Leads : RwLockCallPlace → ThreadState → Type 0
  Leads c st = ActNeeds rwlocks (at_rwlock l) st (call_act l a c) × LooksLeadOn up base (RwLock l a c) st
      × ((reply : Reply) (new : ThreadState) → Became up rwlocks (at_rwlock l) (sleeper_at (RwLock l a c)) st
      (call_act l a c) reply new → Reached up base (RwLock l a c) reply new)

  abbrev Goes : ThreadState → RwLockPurpose → Next RwLockPlace → Type 0
  Goes new q n = ReachedBy up base (of_rwlock l a (purpose.Enter (access_of q) Patient))
      (rwlock_goes l a (bump_next q n)) (answer_of (rwlock_does l a (bump_next q n))) new

  -- at its next place
  goes_at : (new : ThreadState) (q : RwLockPurpose) (p : RwLockPlace) → CallStandsNext a (bump_next q (At p))
      → FitsRwLock up l base a p new → p.purpose ≡ q → Goes new q (At p)
  goes_at new q p stands f same =
      subst (λ (o : Option Answer). ReachedBy up base (of_rwlock l a (purpose.Enter (access_of q) Patient))
      (RwLock l a (Bump p)) o new) (sym (goes_on l a p stands.0).0) (
        bump_fits p new stands.1 f,
        ap (λ (r : RwLockPurpose). of_rwlock l a
            (purpose.Enter (access_of r) Patient)) same,
      )

  -- the thread has released its right, and enters again
  enters_on : (new : ThreadState) → a.limit < 2 ^ 60 - 1 → new.inside ≡ None → IsBeside l base new.owns
      → Fits up base (RwLock l a (Bump (rwlock_first (purpose.Enter access.Shared Patient)))) new
  enters_on new room none beside = (tt, enters_fit up l a base room true new new access.Shared beside none)

  module _ (p : RwLockPlace) (st : ThreadState) (of : IsOfBump p.purpose p.retries)
      (f : FitsRwLock up l base a p st) where
    looks_on : LooksLeadOn up base (RwLock l a (Bump p)) st
    looks_on r is = by_place (rwlock_respin a p) refl is
      where
        there : (p2 : RwLockPlace) → rwlock_respin a p ≡ Some p2 → Fits up base (RwLock l a (Bump p2)) st
            × (call_purpose (RwLock l a (Bump p2)) ≡ call_purpose (RwLock l a (Bump p)))
        there p2 e = let place = looks_from l a p.purpose p.retries p.at p2 e in (
          bump_fits p2 st (subst (IsOfBump p2.purpose) place.1
              (subst (λ (q : RwLockPurpose). IsOfBump q p.retries) place.0 of))
              (looks_fit up l a base p st f p2 e),
          ap (λ (q : RwLockPurpose). of_rwlock l a (purpose.Enter (access_of q) Patient)) (sym place.0),
        )

        by_place : (o : Option RwLockPlace) → rwlock_respin a p ≡ o → in_rwlock l a (in_call true o) ≡ Some r
            → Fits up base r st × (call_purpose r ≡ call_purpose (RwLock l a (Bump p)))
        by_place None e is = absurd cc
        by_place (Some p2) e is = let same : RwLock l a (Bump p2) ≡ r = cc
            in subst (λ (x : Place). Fits up base x st
            × (call_purpose x ≡ call_purpose (RwLock l a (Bump p)))) same (there p2 e)

    -- by what the plain call came to
    comes : (new : ThreadState) (q : RwLockPurpose) → IsOfBump q p.retries → (n : Next RwLockPlace)
        → CallStandsNext a (bump_next q n) → Comes up l base a q n new → Goes new q n
    comes new q of (At p2) stands c = goes_at new q p2 stands (record {
      stands = stands.0;
      room = f.room;
      begun = c.0.begun;
      seen = c.0.seen;
      owns = c.0.owns;
      within = c.0.within;
      stood = c.0.stood;
      late = c.0.late;
    }) c.1
    comes new (purpose.Enter x Patient) of (End answer) stands c = c
    comes new (purpose.Enter x Timed) of (End answer) stands c = absurd of
    comes new (purpose.Enter x Try) of (End answer) stands c = absurd of
    comes new (purpose.Release access.Shared) of (End answer) stands c = (
      enters_on new f.room c.0 c.1.1,
      refl,
    )
    comes new (purpose.Release access.Upgradable) of (End answer) stands c = absurd of
    comes new (purpose.Release access.Exclusive) of (End answer) stands c = absurd of
    comes new (purpose.Downgrade d) of (End answer) stands c = absurd of
    comes new (purpose.Upgrade how) of (End answer) stands c = absurd of

    leads_on : (reply : Reply) (new : ThreadState) → Became up rwlocks (at_rwlock l)
        (sleeper_at (RwLock l a (Bump p))) st (rwlock_act l a p) reply new
        → Reached up base (RwLock l a (Bump p)) reply new
    leads_on reply new b = elim (told_plainly up rwlocks (at_rwlock l) (sleeper_at (RwLock l a (Bump p))) st
        new reply (rwlock_act l a p) b) [
          | inl plain ↦ let h = leads_at up l a base p.purpose p.retries st new p.at f reply plain.1 in
              let same : call_next a (Bump p) reply ≡ bump_next p.purpose (rwlock_next a p reply) =
              ap (λ (o : Option RwLockCallPlace). unless_given o
              (bump_next p.purpose (rwlock_next a p reply))) (plain.0 true p) in
              let stands = subst (CallStandsNext a) same (fair_calls_stand a (Bump p) reply (f.stands, of)
              h.1) in
              subst (λ (n : Next RwLockCallPlace). ReachedBy up base
              (of_rwlock l a (purpose.Enter (access_of p.purpose) Patient)) (rwlock_goes l a n)
              (answer_of (rwlock_does l a n)) new) (sym same) (comes new p.purpose of (rwlock_next a p reply)
              stands h.0)
          | inr given ↦ subst (λ (r : Reply). Reached up base (RwLock l a (Bump p)) r new) (sym given.0)
              (bump_goes up l a base st new p of f given.1)
        ]

    bumping_on : Leads (Bump p) st
    bumping_on = (rwlock_needs up l a base p.purpose p.retries st p.at f, looks_on, leads_on)

  -- --------------------------------------------------------------- the step with which it gives its right up

  abbrev giving : RwLockPlace
  giving = rwlock_first (purpose.Release access.Shared)

  module _ (st : ThreadState) (room : a.limit < 2 ^ 60 - 1) (outside : st.inside ≡ None)
      (right : OwnsRight l wants.Shared base st.owns) where
    gives : (new : ThreadState) (seen : ℕ)
        → Became up rwlocks (at_rwlock l) (sleeper_at (RwLock l a (Bump giving)))
        st (rwlock_act l a giving) (Value seen) new → Reached up base (RwLock l a (Bump giving)) (Value seen)
        new
    gives new seen b = by_next (rwlock_next a giving (Value seen)) (begun up l a base st new seen outside room
        (purpose.Release access.Shared) right b) (fair_calls_stand a (Bump giving) (Value seen)
        ((rwlock_calls_open a (purpose.Release access.Shared)).stands, refl)
        (fits (rwlock_at l) seen st.owns b.0))
      where
        by_next : (n : Next RwLockPlace) → Begun up l a base st new seen outside room
            (purpose.Release access.Shared) n → CallStandsNext a (bump_next (purpose.Release access.Shared) n)
            → Goes new (purpose.Release access.Shared) n
        by_next (At p) k stands = goes_at new (purpose.Release access.Shared) p stands k.0 k.1
        by_next (End answer) k stands = (enters_on new room k.0 k.1.1, refl)

    giving_leads : (reply : Reply) (new : ThreadState) → Became up rwlocks (at_rwlock l)
        (sleeper_at (RwLock l a (Bump giving))) st (rwlock_act l a giving) reply new
        → Reached up base (RwLock l a (Bump giving)) reply new
    giving_leads (Value seen) new b = gives new seen b
    giving_leads reply new b = absurd b

    giving_on : Leads (Bump giving) st
    giving_on = (
      may_begin l (purpose.Release access.Shared) base st.owns right,
      (λ r is. absurd cc),
      giving_leads,
    )

  -- each place of it
  pub bump_leads : (p : RwLockPlace) (st : ThreadState) → FitsCall up l base a (Bump p) st
      → ActNeeds rwlocks (at_rwlock l) st (rwlock_act l a p) × LooksLeadOn up base (RwLock l a (Bump p)) st
      × ((reply : Reply) (new : ThreadState)
      → Became up rwlocks (at_rwlock l) (sleeper_at (RwLock l a (Bump p))) st
      (rwlock_act l a p) reply new → Reached up base (RwLock l a (Bump p)) reply new)
  bump_leads p st f = by_place p.at refl f.1
    where
      retries_not : IsOfBump p.purpose p.retries → p.purpose ≡ purpose.Release access.Shared
          → p.retries ≡ false
      retries_not of e = subst (λ (q : RwLockPurpose). IsOfBump q p.retries) e of

      by_place : (to : RwLockAt) → p.at ≡ to → FitsBump up l base a p to st → Leads (Bump p) st
      by_place at.GiveWay e g = let same : giving ≡ p = λ i. record {
        purpose = sym g.0 i;
        retries = sym (retries_not f.0 g.0) i;
        at = sym e i;
      } in subst (λ (x : RwLockPlace). Leads (Bump x) st) same (giving_on st g.1 g.2 g.3)
      by_place to e g = bumping_on p st f.0 g
