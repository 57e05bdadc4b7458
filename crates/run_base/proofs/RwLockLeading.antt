-- The places of a reader-writer call lead on.
use Rattle.std.proofs.Common.{inl, inr}
use Rattle.spec_locks.specs.declared.calls.Access.{Access}
use Rattle.spec_locks.specs.declared.calls.Access.TheVariants as access
use Rattle.spec_locks.specs.declared.calls.Patience.{Patience}
use Rattle.steps_base.specs.declared.acts.Reply.TheVariants.{Done}
use Rattle.steps_rwlock.specs.RwLockSteps.{entered, wanted}
use Rattle.steps_rwlock.specs.declared.purposes.RwLockPurpose.TheVariants as purpose
use Rattle.steps_rwlock_fair.specs.FairSteps.{handed_act}
use Rattle.steps_rwlock_fair.specs.declared.handed.HandedAt.{HandedAt}
use Rattle.steps_rwlock_fair.specs.declared.handed.HandedAt.TheVariants as handed
use Rattle.steps_rwlock_fair.specs.declared.places.RwLockCallPlace.TheVariants.{Bump, PeekQueue, HandOver}
use Rattle.steps_rwlock_fair.specs.declared.places.RwLockCallPlace.TheVariants.{Handed}
use Rattle.run_base.specs.RwLockFitting.{FitsBump, FitsHanded, IsRwLockOver, OwnsRight}
use Rattle.run_base.proofs.RwLockBumping.{bump_leads}
use Rattle.run_base.proofs.RwLockGoing.{goes_on, looks_fit, looks_from}
use Rattle.run_base.proofs.RwLockHanded.{plain_goes, told_plainly}
use Rattle.run_base.proofs.RwLockHanding.{hand_over_goes_on, hand_over_leads, hand_over_needs}
use Rattle.std.proofs.Common.{ℕ, Bool, false, List, Option, Some, None, ◌≡◌, refl, ap, ◌∙◌, sym, subst}
use Rattle.spec_locks.specs.declared.outcomes.Answer.{Answer}
use Rattle.spec_locks.specs.declared.outcomes.OnceState.{OnceState}
use Rattle.steps_base.specs.declared.acts.Act.TheVariants as act
use Rattle.steps_base.specs.declared.acts.Next.{Next}
use Rattle.steps_base.specs.declared.acts.Next.TheVariants.{At, End}
use Rattle.steps_base.specs.declared.acts.Reply.{Reply}
use Rattle.lot_steps.specs.Steps.{act_of, in_rwlock, rwlock_goes, rwlock_does}
use Rattle.lot_steps.specs.declared.places.Place.{Place}
use Rattle.lot_steps.specs.declared.places.Place.TheVariants.{RwLock}
use Rattle.steps_rwlock.proofs.RwLockStands.{rwlock_calls_stand}
use Rattle.steps_rwlock.specs.RwLockCalls.{MayStandNext}
use Rattle.steps_rwlock.specs.RwLockProfiles.{rwlock_respin}
use Rattle.steps_rwlock.specs.RwLockSteps.{act_at, rwlock_act, rwlock_next}
use Rattle.steps_rwlock.specs.declared.places.Admission.{Admission}
use Rattle.steps_rwlock.specs.declared.places.RwLockAt.{RwLockAt}
use Rattle.steps_rwlock.specs.declared.places.RwLockAt.TheVariants as at
use Rattle.steps_rwlock.specs.declared.places.RwLockPlace.{RwLockPlace}
use Rattle.steps_rwlock_fair.specs.declared.places.RwLockCallPlace.{RwLockCallPlace}
use Rattle.steps_rwlock_fair.specs.declared.places.RwLockCallPlace.TheVariants.{Plain}
use Rattle.steps_rwlock_fair.specs.FairProfiles.{in_call}
use Rattle.steps_rwlock_fair.specs.FairSteps.{call_act, call_next, given, plain_next, unless_given}
use Rattle.core_words.specs.declared.owners.Ownership.{Ownership}
use Rattle.run_base.specs.Fitting.{Fits, LooksLeadOn, Reached, ReachedBy, call_purpose, answer_of, of_rwlock}
use Rattle.run_base.specs.Fitting.{sleeper_at}
use Rattle.run_base.specs.Paths.{rwlocks, at_rwlock, closure_of}
use Rattle.run_base.specs.RwLockFitting.{FitsCall, FitsRwLock}
use Rattle.run_base.specs.Stages.{ThreadState, ActNeeds, Became}
use Rattle.run_base.proofs.RwLockLeads.{Comes, leads_at}
use Rattle.run_base.proofs.RwLockNeeds.{rwlock_needs}

-- ---------------------------------------------------------------- plain calls

module _ (up : Type 0) (l : ℕ) (a : Admission) (base : List Ownership) (p : RwLockPlace) (st : ThreadState)
    (f : FitsRwLock up l base a p st) where
  pub rwlock_looks : LooksLeadOn up base (RwLock l a (Plain p)) st
  rwlock_looks r is = by_place (rwlock_respin a p) refl is
    where
      by_place : (o : Option RwLockPlace) → rwlock_respin a p ≡ o → in_rwlock l a (in_call false o) ≡ Some r
          → Fits up base r st × (call_purpose r ≡ of_rwlock l a p.purpose)
      by_place None e is = absurd cc
      by_place (Some p2) e is = let there : RwLock l a (Plain p2) ≡ r = cc
          in subst (λ (x : Place). Fits up base x st × (call_purpose x ≡ of_rwlock l a p.purpose)) there (
            looks_fit up l a base p st f p2 e,
            ap (of_rwlock l a) (sym (looks_from l a p.purpose p.retries p.at p2 e).0),
          )

  -- where a reply led, by what was kept
  reached_by : (new : ThreadState) (next : Next RwLockPlace) → MayStandNext a next
      → Comes up l base a p.purpose next new → ReachedBy up base (of_rwlock l a p.purpose)
      (rwlock_goes l a (plain_next next)) (answer_of (rwlock_does l a (plain_next next))) new
  reached_by new (At p2) stands c = subst (λ (o : Option Answer). ReachedBy up base (of_rwlock l a p.purpose)
      (RwLock l a (Plain p2)) o new) (sym (goes_on l a p2 stands).0) (
        record {
          stands = stands;
          room = f.room;
          begun = c.0.begun;
          seen = c.0.seen;
          owns = c.0.owns;
          within = c.0.within;
          stood = c.0.stood;
          late = c.0.late;
        },
        ap (of_rwlock l a) c.1,
      )
  reached_by new (End answer) stands c = c

  pub rwlock_leads : (reply : Reply) (new : ThreadState) → Became up rwlocks (at_rwlock l)
      (sleeper_at (RwLock l a (Plain p))) st (rwlock_act l a p) reply new
      → Reached up base (RwLock l a (Plain p)) reply new
  rwlock_leads reply new b = elim (told_plainly up rwlocks (at_rwlock l) (sleeper_at (RwLock l a (Plain p)))
      st new reply (rwlock_act l a p) b) [
        | inl plain ↦ let h = leads_at up l a base p.purpose p.retries st new p.at f reply plain.1 in
            let same : call_next a (Plain p) reply ≡ plain_next (rwlock_next a p reply) =
            ap (λ (o : Option RwLockCallPlace). unless_given o (plain_next (rwlock_next a p reply)))
            (plain.0 false p) in
            subst (λ (n : Next RwLockCallPlace). ReachedBy up base (of_rwlock l a p.purpose)
            (rwlock_goes l a n)
            (answer_of (rwlock_does l a n)) new) (sym same)
            (reached_by new (rwlock_next a p reply) (rwlock_calls_stand a p reply f.stands h.1) h.0)
        | inr given ↦ subst (λ (r : Reply). Reached up base (RwLock l a (Plain p)) r new) (sym given.0)
            (plain_goes up l a base st new p f given.1)
      ]

-- ---------------------------------------------------------------- a thread that was handed the lock

module _ (up : Type 0) (l : ℕ) (a : Admission) (base : List Ownership) (how : Patience) (b : Bool)
    (st : ThreadState) where
  handed_needs : (x : Access) (to : HandedAt) → FitsHanded l base x to st → ActNeeds rwlocks (at_rwlock l) st
      (handed_act l x to)
  handed_needs access.Shared handed.Accept f = tt
  handed_needs access.Upgradable handed.Accept f = tt
  handed_needs access.Exclusive to f = absurd f
  handed_needs x to f = absurd f

  -- the thread has its right already
  accepts : (x : Access) → OwnsRight l (wanted x) base st.owns × (st.inside ≡ None) → (new : ThreadState)
      → new ≡ st
      → IsRwLockOver up l base a (purpose.Enter x how) (entered how) new
  accepts x f new e = (
    ap (λ (s : ThreadState). s.inside) e ∙ f.1,
    inl (refl, subst (OwnsRight l (wanted x) base) (sym (ap (λ (s : ThreadState). s.owns) e)) f.0),
  )

  handed_leads : (x : Access) (to : HandedAt) → FitsHanded l base x to st
      → (reply : Reply) (new : ThreadState)
      → Became up rwlocks (at_rwlock l) (sleeper_at (RwLock l a (Handed x how b to))) st (handed_act l x to)
      reply new → Reached up base (RwLock l a (Handed x how b to)) reply new
  handed_leads access.Shared handed.Accept f Done new e = accepts access.Shared f new e
  handed_leads access.Upgradable handed.Accept f Done new e = accepts access.Upgradable f new e
  handed_leads access.Exclusive to f reply new e = absurd f
  handed_leads access.Shared handed.Accept f reply new e = absurd e
  handed_leads access.Upgradable handed.Accept f reply new e = absurd e
  handed_leads x to f reply new e = absurd f

-- ---------------------------------------------------------------- every place

-- each place of a reader-writer call leads on
pub rwlock_place_leads : (up : Type 0) (l : ℕ) (a : Admission) (base : List Ownership) (c : RwLockCallPlace)
    (st : ThreadState) → FitsCall up l base a c st →
    ActNeeds rwlocks (at_rwlock l) st (call_act l a c) × LooksLeadOn up base (RwLock l a c) st
    × ((reply : Reply) (new : ThreadState) → Became up rwlocks (at_rwlock l) (sleeper_at (RwLock l a c)) st
    (call_act l a c) reply new → Reached up base (RwLock l a c) reply new)
rwlock_place_leads up l a base (Plain p) st f = (
  rwlock_needs up l a base p.purpose p.retries st p.at f,
  rwlock_looks up l a base p st f,
  λ reply new. rwlock_leads up l a base p st f reply new,
)
rwlock_place_leads up l a base (Bump p) st f = bump_leads up l a base p st f
rwlock_place_leads up l a base (HandOver x b to) st f = (
  hand_over_needs l a base st f.1 x to f.0 f.2,
  (λ r is. absurd cc),
  λ reply new. hand_over_leads up l a base f.1 b st new x to f.0 f.2 reply,
)
rwlock_place_leads up l a base (Handed x how b to) st f = (
  handed_needs up l a base how b st x to f,
  (λ r is. absurd cc),
  handed_leads up l a base how b st x to f,
)
rwlock_place_leads up l a base (PeekQueue x) st f = absurd f

-- none runs a closure
no_closure_at : (up : Type 0) (l : ℕ) (a : Admission) (base : List Ownership) (c : RwLockCallPlace)
    (st : ThreadState) → FitsCall up l base a c st → closure_of (call_act l a c) ≡ None
no_closure_at up l a base (Plain p) st f = (goes_on l a p f.stands).1
no_closure_at up l a base (Bump p) st f = by_place p.at refl f.1
  where
    by_place : (to : RwLockAt) → p.at ≡ to → FitsBump up l base a p to st → closure_of (rwlock_act l a p)
        ≡ None
    by_place at.GiveWay e g = ap (λ (to : RwLockAt). closure_of (act_at l a p to)) e
    by_place to e g = (goes_on l a p g.stands).1
no_closure_at up l a base (HandOver x b to) st f = (hand_over_goes_on l a x to).1
no_closure_at up l a base (Handed access.Shared how b handed.Accept) st f = refl
no_closure_at up l a base (Handed access.Upgradable how b handed.Accept) st f = refl
no_closure_at up l a base (Handed access.Exclusive how b to) st f = absurd f
no_closure_at up l a base (Handed x how b to) st f = absurd f
no_closure_at up l a base (PeekQueue x) st f = absurd f

pub rwlock_no_closure : (up : Type 0) (l : ℕ) (a : Admission) (base : List Ownership) (c : RwLockCallPlace)
    (st : ThreadState) (state : OnceState) → FitsCall up l base a c st → act_of (RwLock l a c)
    ≡ act.Closure state
    → ⊥
rwlock_no_closure up l a base c st state f is = some_closure (sym (ap closure_of is)
    ∙ no_closure_at up l a base c st f)
  where
    some_closure : Some state ≡ None → ⊥
    some_closure e = cc
