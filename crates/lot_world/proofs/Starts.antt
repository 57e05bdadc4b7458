-- A world that may be drained has all that a drain keeps: each call began with what it needs and no more, and
-- nobody is forgotten.
use Rattle.std.proofs.Common.{ℕ, Bool, true, false, Option, Some, None, ◌≡◌, ◌≤◌, inl, inr, refl, sym, ◌∙◌}
use Rattle.std.proofs.Common.{ap, subst, arith}
use Rattle.core_base.specs.declared.wants.Want.{Want}
use Rattle.spec_locks.specs.Locks.{LockState, Rights, one_if_pending, rights_of, with_right}
use Rattle.spec_locks.specs.Purposes.{Purpose, Releases}
use Rattle.spec_locks.specs.Runs.{CallState, no_rights}
use Rattle.spec_locks.specs.Sites.{Claim, Has, Pends, Runs, Ran, Holds, IsSite, is_full}
use Rattle.lot_steps.specs.declared.places.Place.{Place}
use Rattle.lot_steps.specs.declared.places.Place.TheVariants.{Idle, Mutex, RwLock, Once, Condvar, Semaphore}
use Rattle.lot_steps.specs.Steps.{is_lock, called_lock, profile}
use Rattle.lot_machine.specs.Machine.{State, filled_at, place_at}
use Rattle.lot_laws.specs.Refinement.{call_at, call_state, lock_state}
use Rattle.lot_laws.specs.SitesOf.{IsWorld, rules_in, site_of}
use Rattle.lot_laws.specs.Locations.{role_on}
use Rattle.lot_world.specs.Drained.{as_now}
use Rattle.lot_world.specs.Few.{HadNone, HasFew, HasNoneBefore, IsFew, PendsInCall, number}
use Rattle.lot_world.proofs.Few.{rights_are}
use Rattle.lot_world.specs.Began.{IsJust}
use Rattle.lot_world.proofs.Began.{places_began}
use Rattle.lot_world.specs.Quiet.{IsDraining}
use Rattle.lot_world.specs.Full.{IsStrict}
use Rattle.lot_world.proofs.Quiet.{OnlyHere, only_here}
use Rattle.lot_world.proofs.Releases.{only_right}
use Rattle.lot_world.specs.Drains.{IsDrainable}
use Rattle.lot_world.proofs.Clears.{one_pending}

-- a release that has its right yet has no other
abbrev IsFresh : CallState → Type 0
IsFresh c = (x : Want) (fair : Bool) → c.purpose ≡ Some (Releases 0 x fair) → c.released ≡ false
    → c.former 0 ≡ with_right x no_rights

abbrev Begun : CallState → Rights → Type 0
Begun c now = HasFew c.purpose (c.former 0) now × IsFresh c

same_purpose : (p q : Purpose) → Some p ≡ Some q → p ≡ q
same_purpose p q e = cc

-- by the place
begun_at : (p : Place) (rights : ℕ → Rights) → OnlyHere p → IsFew (rights 0)
    → (called_lock p ≡ Some 0 → IsJust (profile p).role.claims (rights 0))
    → HasNoneBefore (call_state p rights) → PendsInCall (call_state p rights).purpose (rights 0)
    → Begun (call_state p rights) (rights 0)
begun_at Idle rights only few just had none = (
  (let f : number (rights 0) ≤ 1 = few in let g : (rights 0).pending ≡ 0 = none in omega arith),
  λ x fair is free. absurd cc,
)
begun_at (Mutex l at) rights (inl e) few just had none = absurd cc
begun_at (Mutex l at) rights (inr there) few just had none =
    let zero_is : 0 ≡ l = (let f = there.0 in cc) in
    subst (λ j. HadNone ((profile (Mutex l at)).purpose j) (profile (Mutex l at)).released
    ((profile (Mutex l at)).former j rights 0)
    → PendsInCall (Some ((profile (Mutex l at)).purpose j)) (rights 0)
    → HasFew (Some ((profile (Mutex l at)).purpose j)) ((profile (Mutex l at)).former j rights 0) (rights 0)
    × ((x : Want) (fair : Bool) → Some ((profile (Mutex l at)).purpose j) ≡ Some (Releases 0 x fair)
    → (profile (Mutex l at)).released ≡ false → (profile (Mutex l at)).former j rights 0
    ≡ with_right x no_rights))
    zero_is
    (λ had none. let began = places_began (Mutex l at) rights there.1 there.0 few (just there.0) had none in
    (began.0, λ x fair is free. began.1 x fair (same_purpose _ _ is) free))
    had none
begun_at (RwLock l a c) rights (inl e) few just had none = absurd cc
begun_at (RwLock l a c) rights (inr there) few just had none =
    let zero_is : 0 ≡ l = (let f = there.0 in cc) in
    subst (λ j. HadNone ((profile (RwLock l a c)).purpose j) (profile (RwLock l a c)).released
    ((profile (RwLock l a c)).former j rights 0)
    → PendsInCall (Some ((profile (RwLock l a c)).purpose j)) (rights 0)
    → HasFew (Some ((profile (RwLock l a c)).purpose j)) ((profile (RwLock l a c)).former j rights 0)
    (rights 0)
    × ((x : Want) (fair : Bool) → Some ((profile (RwLock l a c)).purpose j) ≡ Some (Releases 0 x fair)
    → (profile (RwLock l a c)).released ≡ false → (profile (RwLock l a c)).former j rights 0
    ≡ with_right x no_rights))
    zero_is
    (λ had none. let began = places_began (RwLock l a c) rights there.1 there.0 few (just there.0) had none in
    (began.0, λ x fair is free. began.1 x fair (same_purpose _ _ is) free))
    had none
begun_at (Once l at) rights (inl e) few just had none = absurd cc
begun_at (Semaphore l at) rights (inl e) few just had none = absurd cc
begun_at (Once l at) rights (inr there) few just had none = absurd there.1
begun_at (Semaphore l at) rights (inr there) few just had none = absurd there.1
begun_at (Condvar l at) rights (inl e) few just had none = absurd cc
begun_at (Condvar l at) rights (inr there) few just had none = absurd there.1

-- a thread of one right at most has what its place says, and no more
just_that : (s : LockState) (t : ℕ) (c : Claim) → Holds s t c → IsFew (rights_of s t)
    → IsJust (Some c) (rights_of s t)
just_that s t (Has x) owns few = only_right s t x owns few
just_that s t (Pends falls_back) holds few =
    let one : one_if_pending t s.pending ≡ 1 = ap (one_if_pending t) holds ∙ one_pending (record {
      thread = t;
      falls_back = falls_back;
    }) in
    let all : number (rights_of s t) ≤ 1 = few in
    rights_are (rights_of s t) (record no_rights { pending = 1 }) (omega arith) one (omega arith)
    (omega arith)
just_that s t Runs holds few = tt
just_that s t Ran holds few = tt

module _ (w : State) (world : IsWorld w) (h : IsDrainable w) where
  abbrev s : LockState
  s = lock_state w 0

  abbrev rights : (t l : ℕ) → Rights
  rights t l = rights_of (lock_state w l) t

  just : (t : ℕ) → called_lock (place_at w t) ≡ Some 0 → IsJust (profile (place_at w t)).role.claims
      (rights t 0)
  just t of = by_claim (profile (place_at w t)).role.claims refl
    where
      here : role_on (place_at w t) 0 ≡ (profile (place_at w t)).role
      here = rw (ap (is_lock 0) of) refl

      by_claim : (o : Option Claim) → (profile (place_at w t)).role.claims ≡ o → IsJust o (rights t 0)
      by_claim None e = tt
      by_claim (Some c) e = just_that s t c ((world.inductive.sites.site 0).held t c (ap (λ d. d.claims) here
          ∙ e)) (h.few t)

  begun : (t : ℕ) → Begun (call_at w t) (rights t 0)
  begun t = begun_at (place_at w t) (rights t) (only_here w h.lock (place_at w t) (world.well_formed.places t)
      (world.inductive.stands.calls t))
      (h.few t) (just t) (h.none_before t) (h.unpending t)

  not_full : is_full (rules_in w 0) s ≡ false
  not_full = by_full (is_full (rules_in w 0) s) refl
    where
      by_full : (b : Bool) → is_full (rules_in w 0) s ≡ b → is_full (rules_in w 0) s ≡ false
      by_full false e = e
      by_full true e = absurd (let f : filled_at w 0 ≡ true = (world.inductive.sites.site 0).full e
          in let g : true ≡ false = sym f ∙ h.unfilled in cc)

  now : IsSite (rules_in w 0) (as_now (rules_in w 0) (site_of w 0))
  now = subst (λ b. IsSite (rules_in w 0) (record (site_of w 0) { filled = b })) (h.unfilled ∙ sym not_full)
      (world.inductive.sites.site 0)

  pub draining : IsDraining w
  draining = record { world = world; lock = h.lock; few = λ t. (begun t).0; now = now }

  pub strict : IsStrict w
  strict = record {
    ordered = record { world = world; lock = h.lock; few = λ t. (begun t).0 };
    fresh = λ t x fair is free. (begun t).1 x fair is free;
    past = h.past;
  }
