-- A thread at a place, between steps: the section that it is inside, the lines in which it stands, and its
-- rights.
use Rattle.lot_laws.proofs.Imports
use Imports.{ℕ, Bool, true, false, Option, Some, None, if◌then◌else◌, ◌==◌, ◌≡◌, ◌*◌, [], get_or, map, refl}
use Imports.{sym, ◌∙◌, ap, get_or-map, Exclusive, without, times, Mutex, MutexPlace, Taken, HasTakenNobody}
use Imports.{keep_from, is_taken_by, Main, Has, State, place_at, word_at, owners_at, kind_at, queue_at}
use Imports.{lock_state, taken_at, IsMutexWord, mutex_role, location, location_at, role_on, IsInductive}
use Imports.{FitsItsLock, rules_in, carried_at, hand_at, stood_in}
use Rattle.spec_locks.specs.Locks as locks
use Rattle.lot_laws.specs.Locations.{hand}
use Rattle.lot_laws.proofs.hands.Counts.{without_absent}
use Rattle.lot_laws.proofs.machine.Parts.{IsSingle, same, role_here, nothing_at, untaken}
use Rattle.lot_laws.proofs.machine.Parts.{mutex}
use Rattle.lot_laws.proofs.sites.OneStep.{queued_times}
use Rattle.lot_laws.proofs.sites.StandsMoved.{mutex_rules}
use Rattle.lot_laws.proofs.promises.SitesPromise.{coded_at}

module _ (w : State) (inductive : IsInductive w) where
  -- the word says whether the mutex is owned
  pub coded : (l : ℕ) → rules_in w l ≡ mutex → IsMutexWord (word_at w l) (owners_at w l).exclusive
  coded = coded_at w inductive

  -- a lock that a thread calls as a mutex is one
  pub rules_for : (t l : ℕ) (at : MutexPlace) → place_at w t ≡ Mutex l at → rules_in w l ≡ mutex
  rules_for t l at is = mutex_rules (kind_at w l) (let c : FitsItsLock w (Mutex l at) =
      rw is at (inductive.stands.calls t) in c)

  pub coded_for : (t l : ℕ) (at : MutexPlace) → place_at w t ≡ Mutex l at → IsMutexWord (word_at w l)
      (owners_at w l).exclusive
  coded_for t l at is = coded l (rules_for t l at is)

  -- a thread that has nobody in hand by its place
  pub taken_nobody : (t l : ℕ) → (role_on (place_at w t) l).has_taken ≡ false
      → HasTakenNobody (lock_state w l) t
  taken_nobody t l none u x h = let some : (role_on (place_at w t) l).has_taken ≡ true =
      (inductive.sites.site l).carried u (record { by = t; want = x }) h in cc

  module _ (t l : ℕ) where
    -- a thread that is not in its hand, to be woken or to be handed the lock, it hasn't taken
    pub unless_held : (u : ℕ) → (hand_at (place_at w u) l ≡ hand t false → ⊥)
        → is_taken_by t (taken_at (place_at w u) l) ≡ false
    unless_held u none = freed (taken_at (place_at w u) l) (untaken (place_at w u) t l none)
      where
        freed : (o : Option Taken) → keep_from t o ≡ o → is_taken_by t o ≡ false
        freed None e = refl
        freed (Some h) e = either (h.by == t) refl
          where
            either : (b : Bool) → (h.by == t) ≡ b → b ≡ false
            either false f = refl
            either true f = absurd (let g : ◌≡◌ {A = Option Taken} None (Some h) =
                sym (ap (λ b. if b then None else Some h) f) ∙ e in cc)

    pub in_no_hand : (carried_at (place_at w t) l ≡ Some false → ⊥) → HasTakenNobody (lock_state w l) t
    in_no_hand none u x h = let free : is_taken_by t (taken_at (place_at w u) l) ≡ false =
        unless_held u (λ g. none (inductive.stands.hands.taken t u l false g)) in
        let mine : is_taken_by t (taken_at (place_at w u) l) ≡ true = ap (is_taken_by t) h ∙ same t in cc

  module _ (t l : ℕ) where
    -- how often it stands in the queue
    pub queued_by : locks.times t (lock_state w l).queue ≡ stood_in (location_at (place_at w t) l).stands Main
    queued_by = queued_times t (queue_at w (2 * l)) ∙ inductive.stands.lines t l Main

  -- a thread that stands in no line leaves none, in a call of one lock
  module _ (t : ℕ) (single : IsSingle (place_at w t)) (nowhere_now : (location (place_at w t)).stands ≡ None)
    where
      pub absent : (l : ℕ) → times t (queue_at w (2 * l)) ≡ 0
      absent l = inductive.stands.lines t l Main
          ∙ ap (λ x. stood_in x Main) (nothing_at (place_at w t) l single (λ x. x.stands) refl nowhere_now)

      pub same_without : (l : ℕ) → get_or (map (without t) w.queues) (2 * l) [] ≡ queue_at w (2 * l)
      same_without l = get_or-map (without t) w.queues (2 * l) [] ∙ without_absent t (queue_at w (2 * l))
          (absent l)

  module _ (t l : ℕ) (at : MutexPlace) (is : place_at w t ≡ Mutex l at) where
    pub own_role : role_on (place_at w t) l ≡ mutex_role at
    own_role = ap (λ p. role_on p l) is ∙ role_here l (Mutex l at) refl

    pub owns : (mutex_role at).claims ≡ Some (Has Exclusive) → (owners_at w l).exclusive ≡ Some t
    owns h = (inductive.sites.site l).held t (Has Exclusive) (ap (λ x. x.claims) own_role ∙ h)
