-- A thread that waits to be notified stands nowhere at its mutex, is in no hand there, and doesn't try it
-- again.
use Rattle.lot_laws.proofs.Imports
use Imports.{ℕ, Bool, true, false, Option, Some, None, if◌then◌else◌, ◌==◌, ◌≡◌, ◌≢◌, ◌+◌, ◌*◌, ◌≤◌, refl, sym}
use Imports.{◌∙◌, ap, subst, arith, eqb-true, Kind, is_plain_mutex, Hand, Profile, taken_from, Location}
use Imports.{location_by, CondvarPlace, Wait, Look, Notify, condvar_profile, condvar_row, mutex_side}
use Imports.{mutex_beside, Place, Idle, Mutex, RwLock, Once, Condvar, Semaphore, is_lock, profile_at}
use Imports.{WaitsAside, Rules, Sort, one_if_some, standing, rules_of, Main, Second, has_readers, State}
use Imports.{kind_at, place_at, queue_at, lock_state, taken_at, role_on, location, location_at, FitsCondvar}
use Imports.{FitsItsLock, IsInductive, condvar_of, rules_in, site_of, stood_in}
use Rattle.spec_locks.specs.declared.kinds.Kind.TheVariants as kind
use Rattle.steps_base.specs.Locations.{nowhere}
use Rattle.spec_locks.specs.Locks as locks
use Rattle.lot_laws.proofs.machine.Parts.{differ, same}
use Rattle.lot_laws.proofs.sites.OneStep.{queued_times}
use Rattle.lot_laws.proofs.condvar.CondvarPromises.{IsAside, aside, unlisted}
use Rattle.lot_laws.proofs.promises.PlacePromises.{standing_by}
use Rattle.lot_laws.proofs.sites.StandsMoved.{mutex_rules}

pub plain_sort : (k : Kind) → is_plain_mutex k ≡ true → (rules_of k).sort ≡ locks.Mutex
plain_sort kind.Mutex plain = refl
plain_sort k plain = absurd cc

-- ---------------------------------------------------------------- waiters

-- a place of a call of the condition variable, where the thread stands in its queue
pub record WaitsAtCondvar (w : State) (u l : ℕ) : Type 0 where
  pub at : CondvarPlace
  pub is : place_at w u ≡ Condvar l at
  pub listed : (condvar_row at).listed ≡ true

module _ (w : State) (inductive : IsInductive w) (l : ℕ) (sort : (rules_in w l).sort ≡ locks.Condvar) where
  no_mutex : (rules_in w l).sort ≡ locks.Mutex → ⊥
  no_mutex mutex = let both : locks.Mutex ≡ locks.Condvar = sym mutex ∙ sort in cc

  no_once : (rules_in w l).sort ≡ locks.Once → ⊥
  no_once once = let both : locks.Once ≡ locks.Condvar = sym once ∙ sort in cc

  no_semaphore : (rules_in w l).sort ≡ locks.Semaphore → ⊥
  no_semaphore semaphore = let both : locks.Semaphore ≡ locks.Condvar = sym semaphore ∙ sort in cc

  sort_at : (k : ℕ) (s : Sort) → (k == l) ≡ true → (rules_in w k).sort ≡ s → (rules_in w l).sort ≡ s
  sort_at k s here is = subst (λ j. (rules_in w j).sort ≡ s) (eqb-true k l here) is

  module _ (u : ℕ) where
    by_place : (p : Place) → place_at w u ≡ p → FitsItsLock w p → 1 ≤ stood_in (location_at p l).stands Main
        → WaitsAtCondvar w u l
    by_place Idle is fits some = absurd (omega arith)
    by_place (Mutex k at) is fits some = either (k == l) refl some
      where
        either : (b : Bool) → (k == l) ≡ b
            → 1 ≤ stood_in (if b then location (Mutex k at) else nowhere).stands Main
            → WaitsAtCondvar w u l
        either true e h = absurd (no_mutex
            (sort_at k locks.Mutex e (ap (λ (r : Rules). r.sort) (mutex_rules (kind_at w k) fits))))
        either false e h = absurd (omega arith)
    by_place (RwLock k a c) is fits some = either (k == l) refl some
      where
        either : (b : Bool) → (k == l) ≡ b → 1 ≤ stood_in (if b then location (RwLock k a c)
            else nowhere).stands Main
            → WaitsAtCondvar w u l
        either true e h = absurd (let none : false ≡ true =
            sym (ap has_readers (ap (λ j. (rules_in w j).sort) (eqb-true k l e) ∙ sort)) ∙ fits.0.0 in cc)
        either false e h = absurd (omega arith)
    by_place (Once k at) is fits some = either (k == l) refl some
      where
        either : (b : Bool) → (k == l) ≡ b → 1 ≤ stood_in (if b then location (Once k at) else nowhere).stands
            Main
            → WaitsAtCondvar w u l
        either true e h = absurd (no_once (sort_at k locks.Once e fits))
        either false e h = absurd (omega arith)
    by_place (Semaphore k at) is fits some = either (k == l) refl some
      where
        either : (b : Bool) → (k == l) ≡ b → 1 ≤ stood_in (if b then location (Semaphore k at)
            else nowhere).stands Main
            → WaitsAtCondvar w u l
        either true e h = absurd (no_semaphore (sort_at k locks.Semaphore e fits.0))
        either false e h = absurd (omega arith)
    by_place (Condvar k at) is fits some = either (k == l) refl some
      where
        beside : (o : Option ℕ) → mutex_beside at ≡ o
            → 1 ≤ stood_in (if is_lock l o then location_by (mutex_side at) else nowhere).stands Main
            → WaitsAtCondvar w u l
        beside None e h = absurd (omega arith)
        beside (Some m) e h = here (m == l) refl h
          where
            here : (b : Bool) → (m == l) ≡ b → 1 ≤ stood_in (if b then location_by (mutex_side at)
                else nowhere).stands Main
                → WaitsAtCondvar w u l
            here true f g = absurd (no_mutex
                (sort_at m locks.Mutex f (plain_sort (kind_at w m) (fits.mutex m e))))
            here false f g = absurd (omega arith)

        listed : (b : Bool) → 1 ≤ stood_in (if b then Some Main else None) Main → b ≡ true
        listed true h = refl
        listed false h = absurd (omega arith)

        either : (b : Bool) → (k == l) ≡ b
            → 1
            ≤ stood_in
            (if b then location_by (condvar_profile at) else if is_lock l (mutex_beside at) then location_by
            (mutex_side at) else nowhere).stands Main
            → WaitsAtCondvar w u l
        either true e h = record {
          at = at;
          is = is ∙ ap (λ j. Condvar j at) (eqb-true k l e);
          listed = listed (condvar_row at).listed h;
        }
        either false e h = beside (mutex_beside at) refl h

    pub waits_there : 1 ≤ locks.times u (lock_state w l).queue → WaitsAtCondvar w u l
    waits_there some = by_place (place_at w u) refl (inductive.stands.calls u)
        (let n : locks.times u (lock_state w l).queue ≡ stood_in (location_at (place_at w u) l).stands Main =
        queued_times u (queue_at w (2 * l)) ∙ inductive.stands.lines u l Main in omega arith)

  pub waits_aside : (m : ℕ) → WaitsAside (condvar_of w l) (site_of w m) m
  waits_aside m u some names = let x = waits_there u some in by_at x.at x.is x.listed
    where
      by_at : (at : CondvarPlace) → place_at w u ≡ Condvar l at → (condvar_row at).listed ≡ true
          → (standing u (lock_state w m) ≡ 0) × ((role_on (place_at w u) m).retries ≡ None)
      by_at (Look all) is listed = absurd cc
      by_at (Notify all k at) is listed = absurd (let none : false ≡ true = sym (unlisted all k at) ∙ listed
          in cc)
      by_at (Wait k timed at) is listed = subst Nowhere named (standing_none, role_none)
        where
          Nowhere : ℕ → Type 0
          Nowhere j = (standing u (lock_state w j) ≡ 0) × ((role_on (place_at w u) j).retries ≡ None)

          row : profile_at (place_at w u) l ≡ condvar_profile (Wait k timed at)
          row = rw (is, same l) refl

          named : k ≡ m
          named = let both : Some k ≡ Some m = sym (ap (λ (y : Profile). y.names) row) ∙ names in cc

          fits : FitsCondvar w l (Wait k timed at)
          fits = subst (FitsItsLock w) is (inductive.stands.calls u)

          apart : l ≢ k
          apart e = no_mutex (subst (λ j. (rules_in w j).sort ≡ locks.Mutex) (sym e)
              (plain_sort (kind_at w k) (fits.mutex k refl)))

          side : IsAside k at
          side = aside k timed at fits.reached listed

          location_beside : location_at (place_at w u) k ≡ location_by (mutex_side (Wait k timed at))
          location_beside = rw (is, differ l k apart, same k) refl

          stands_none : (location_at (place_at w u) k).stands ≡ None
          stands_none = ap (λ (y : Location). y.stands) location_beside
              ∙ ap (λ (b : Bool). if b then Some Main else None) side.moved

          taken_none : taken_at (place_at w u) k ≡ None
          taken_none = rw (is, differ l k apart, same k)
              (ap (λ (h : Option Hand). taken_from h (mutex_side (Wait k timed at)).wants true) side.hand)

          standing_none : standing u (lock_state w k) ≡ 0
          standing_none = standing_by w u inductive k
              ∙ (λ i. stood_in (stands_none i) Main + stood_in (stands_none i) Second + one_if_some
              (taken_none i))

          role_none : (role_on (place_at w u) k).retries ≡ None
          role_none = rw (is, differ l k apart, same k) side.retries
