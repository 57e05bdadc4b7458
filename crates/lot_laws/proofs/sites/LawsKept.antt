-- A step on the word of a lock that is shared, by what the laws of its sort conclude of it: that its deeds
-- may be done, what its thread does then, the owners and the word after it.
use Rattle.lot_laws.proofs.Imports
use Imports.{ℕ, true, ◌||◌, ◌≡◌, ◌<◌, List, [], ◌∷◌, length, refl, sym, ◌∙◌, ap, Op, apply, Place, Rules, Sort}
use Imports.{Recursive, Site, IsSite, Deed, has_readers, after_deed, code, fills, parked_in, aside_in}
use Imports.{has_parked, has_aside, TellsTrue, words_tell_true, State, place_at, word_at, filled_at, put}
use Imports.{state_after_operation, taken_at, acts, location, role_on, ActsNeeded, IsInductive, Goes}
use Imports.{FitsItsLock, after_acts, rules_in}
use Rattle.spec_locks.specs.Locks.{Mutex, Normal, Semaphore, Once, Condvar}
use Rattle.spec_locks.specs.Deeds as laws
use Rattle.lot_laws.proofs.machine.Parts.{parts_at, lock_in, IsOf}
use Rattle.lot_laws.proofs.sites.OneStep.{AreSingle, HasOneCase, Steps, steps_by, acts_keep, full_then}
use Rattle.lot_laws.proofs.sites.OneStep.{fills_by}
use Rattle.lot_laws.proofs.sites.ActsKept.{NoHandOff, lock_by, operated, site_by, word_goes}

-- deeds of one thread are acts of it
pub after_same : (r : Rules) (ds : List Deed) (s : Site) (t : ℕ) → after_acts r (acts t ds) s
    ≡ laws.after_all r ds s t
after_same r [] s t = refl
after_same r (d ∷ ds) s t = after_same r ds (after_deed r d s t) t

pub needed_same : (r : Rules) (ds : List Deed) (s : Site) (t : ℕ) → laws.AllNeeded r ds s t
    → ActsNeeded r (acts t ds) s
needed_same r [] s t h = tt
needed_same r (d ∷ ds) s t h = (h.0, needed_same r ds (after_deed r d s t) t h.1)

pub parked_read : (sort : Sort) (v : ℕ) → has_readers sort ≡ true → parked_in sort v ≡ has_parked v
parked_read Normal v h = refl
parked_read Recursive v h = refl
parked_read Mutex v h = absurd cc
parked_read Semaphore v h = absurd cc
parked_read Once v h = absurd cc
parked_read Condvar v h = absurd cc

pub aside_read : (sort : Sort) (v : ℕ) → has_readers sort ≡ true → aside_in sort v ≡ has_aside v
aside_read Normal v h = refl
aside_read Recursive v h = refl
aside_read Mutex v h = absurd cc
aside_read Semaphore v h = absurd cc
aside_read Once v h = absurd cc
aside_read Condvar v h = absurd cc

module _ (w : State) (t l : ℕ) (inductive : IsInductive w) (own : IsOf l (place_at w t)) (there : t
    < length w.places) (r : Rules)
    (rules : rules_in w l ≡ r) (p2 : Place) (of : IsOf l p2) (fits : FitsItsLock w p2)
    (readers : has_readers r.sort ≡ true)
    (p : Place) (f : Op) (ds : List Deed) where
  -- the site after the deeds
  abbrev afterwards : Site
  afterwards = after_acts r (acts t ds) (lock_by w l r)

  -- tells what the laws conclude
  pub record IsLawful : Type 0 where
    pub needed : laws.AllNeeded r ds (lock_by w l r) t
    pub role : (laws.after_all r ds (lock_by w l r) t).role t ≡ role_on p2 l
    pub owners : lock_in (operated w t p l f) (λ u. taken_at (place_at w u) l)
        ≡ (laws.after_all r ds (lock_by w l r) t).lock
    pub word : apply f (word_at w l) ≡ code r (laws.after_all r ds (lock_by w l r) t)

  module _ (law : IsLawful) (single : AreSingle ds) (one : HasOneCase ds) where
    needed : ActsNeeded r (acts t ds) (lock_by w l r)
    needed = needed_same r ds (lock_by w l r) t law.needed

    site_after : IsSite r afterwards
    site_after = acts_keep r (acts t ds) (lock_by w l r) (site_by w t l inductive own there r rules p2 of
        fits)
        needed

    coded : apply f (word_at w l) ≡ code r afterwards
    coded = law.word ∙ sym (ap (code r) (after_same r ds (lock_by w l r) t))

    told : TellsTrue r afterwards
    told = words_tell_true r afterwards readers site_after

    full : (operated w t p l f).base.filled ≡ afterwards.filled
    full = ap (λ (x : Rules). filled_at w l || fills x (apply f (word_at w l))) rules
        ∙ ap (λ b. filled_at w l || b) (fills_by r afterwards (apply f (word_at w l)) site_after coded)
        ∙ sym (full_then r ds (lock_by w l r) t one (site_by w t l inductive own there r rules p2 of fits))

    steps : taken_at (place_at w t) l ≡ taken_at p2 l → Steps r l (parts_at w l) (operated w t p l f)
        (place_at w) t p2 ds
    steps hand = steps_by r l (parts_at w l) (operated w t p l f) (place_at w) t p2 ds needed single hand
        (law.owners ∙ sym (ap (λ (s : Site). s.lock) (after_same r ds (lock_by w l r) t)))
        (parked_read r.sort (apply f (word_at w l)) readers ∙ ap has_parked coded ∙ told.parked)
        (aside_read r.sort (apply f (word_at w l)) readers ∙ ap has_aside coded ∙ told.aside)
        full
        (sym law.role ∙ sym (ap (λ (s : Site). s.role t) (after_same r ds (lock_by w l r) t)))

    -- every lock is a site again
    pub lawful_goes : l < length w.locks → NoHandOff ds → taken_at (place_at w t) l ≡ taken_at p2 l
        → location p2 ≡ location (place_at w t) → Goes w (put (state_after_operation w t p l f) t p2) l
        (acts t ds)
    lawful_goes lt plain hand e = word_goes w t l inductive own there r rules p2 of fits p lt
        (rw inductive.numbers.locks lt) f ds (λ h. plain) (steps hand)
        (coded ∙ sym (ap (code r) (steps hand).site)) e
