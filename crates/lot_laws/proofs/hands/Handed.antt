-- A thread that has somebody in hand at one lock alone: each thread in its hand is so there, and one at
-- most where that lock lets one go at a time. Its leaving and its hand-over empty the hand.
use Rattle.lot_laws.proofs.Imports
use Imports.{ℕ, Bool, true, false, Option, Some, None, if◌then◌else◌, ◌==◌, ◌≡◌, ◌≢◌, ◌+◌, List, inl, inr, refl}
use Imports.{◌∙◌, ap, subst, arith, sharing_same, IsLockState, cases_eq, Waiter, Exclusive, Owners, Place}
use Imports.{Reply, taker, let_go, putting, sum, is_thread, with_exclusive, State, place_at, shares_at}
use Imports.{state_after_telling, held, owners_with_pending, owners_of_successor, shares_handed_over}
use Imports.{owners_handed_over, state_after_reply, lock_seen, taken_at, carried_at, hand_at, Hands}
use Rattle.spec_locks.specs.Locks as locks
pub use Rattle.steps_mutex.specs.MutexLaws.{heir}
use Rattle.lot_laws.specs.Locations.{Location, hand}
use Rattle.lot_laws.proofs.machine.Parts.{mutex, put_other, stays, untaken, IsOf, location_elsewhere}
use Rattle.lot_laws.proofs.machine.Parts.{WantsAlone, none_given, IsApart, held_tells, in_hand_where, Base}
use Rattle.lot_laws.proofs.machine.Parts.{LetGo, IsInHandOf, successor_in, successor_is, told_in}

-- a thread that has somebody in hand at one lock at most
abbrev pub CarriesAt : ℕ → Place → Type 0
CarriesAt l p = (k : ℕ) → k ≢ l → carried_at p k ≡ None

pub of_carries : (l : ℕ) (p : Place) → IsOf l p → CarriesAt l p
of_carries l p of k ne = ap (λ (y : Location). y.has_taken) (location_elsewhere l k p of ne)

-- each thread that is in the hand of t is so there
pub in_hand_here : {one : ℕ → Type 0} (p : ℕ → Place) → Hands one p → (t l u : ℕ) → CarriesAt l (p t)
    → (x : IsInHandOf (p u) t)
    → x.lock ≡ l
in_hand_here p hands t l u here x = elim (cases_eq x.lock l) [
  | inl e ↦ e
  | inr ne ↦ absurd (let a : carried_at (p t) x.lock ≡ Some x.handed = hands.taken t u x.lock x.handed x.hand
      in let c : carried_at (p t) x.lock ≡ None = here x.lock ne in cc)
]

-- among those that wait at one lock, one at most is in the hand of t
pub only_held : {one : ℕ → Type 0} (p : ℕ → Place) → ((u : ℕ) → IsApart (p u)) → Hands one p
    → (t l u : ℕ) (b : Bool) → one l
    → CarriesAt l (p t) → hand_at (p u) l ≡ hand t b → (x : ℕ) → x ≢ u → is_thread t (taker (p x)) ≡ false
only_held p apart hands t l u b single here held x ne = either (is_thread t (taker (p x))) refl
  where
    second : IsInHandOf (p x) t → ⊥
    second h = ne (hands.alone t l u x b h.handed single held (subst (λ k. hand_at (p x) k ≡ hand t h.handed)
        (in_hand_here p hands t l x here h) h.hand))

    either : (c : Bool) → is_thread t (taker (p x)) ≡ c → c ≡ false
    either false e = refl
    either true e = absurd (second (in_hand_where (p x) t (apart x) e))

-- all that t has in hand are that one
pub told_one : {one : ℕ → Type 0} (w : State) (t l u : ℕ) (b : Bool) (reply : Reply)
    → ((u : ℕ) → IsApart (place_at w u))
    → Hands one (place_at w) → one l → CarriesAt l (place_at w t) → hand_at (place_at w u) l ≡ hand t b
    → state_after_telling w t reply ≡ state_after_reply w u reply
told_one w t l u b reply apart hands single here held = λ i. record w {
  places =
      told_in t reply w.places u (held_tells (place_at w u) t l b held) (only_held (place_at w) apart hands t
      l
      u b single here held) i;
}

-- A successor owns the lock when t hands it over.
pub successor_one : {one : ℕ → Type 0} (w : State) (t l u : ℕ) (b : Bool) → ((u : ℕ) → IsApart (place_at w u))
    → Hands one (place_at w) → one l → CarriesAt l (place_at w t) → hand_at (place_at w u) l ≡ hand t b
    → ((x : ℕ) → WantsAlone t (place_at w x)) → sum (shares_at w l) ≡ 0 → (o : Owners)
    → owners_handed_over w t l o ≡ with_exclusive o (Some u)
successor_one w t l u b apart hands single here held_at alone unshared o =
    ap (λ s. owners_of_successor (sum (shares_handed_over w t l)) s o) (successor_in t 0 w.places u (alone u)
    (held_tells (place_at w u) t l b held_at) (only_held (place_at w) apart hands t l u b single here
    held_at) ∙ ap (λ n. Some (successor_is n)) (let e : 0 + u ≡ u = omega arith in e))
    ∙ ap (λ (n : ℕ). if n == 0 then with_exclusive o (Some u) else owners_with_pending u o)
    (ap sum (none_given t w.places (shares_at w l) alone) ∙ unshared)

-- ------------------------------------------------------- a release wakes the threads that it has taken

-- a thread that has nobody in hand leaves alone
pub lets_nobody : {one : ℕ → Type 0} (places : ℕ → Place) (hands : Hands one places) (t l : ℕ) (p2 : Place)
    → carried_at (places t) l ≡ None → (u : ℕ) → u ≢ t → LetGo t l (places u) (putting places t p2 u)
lets_nobody places hands t l p2 none u ne = rw (put_other places t p2 u ne)
    (stays t l (places u) (untaken (places u) t l (λ h. let a : carried_at (places t) l ≡ Some false =
    hands.taken t u l false h in absurd cc)))

-- ---------------------------------------------------------------- a lock is handed over

-- the lock goes from t to those in hand
pub handed_is : (t : ℕ) (n : Base) (o : Owners) (m s : List Waiter) (p : ℕ → Place) (l : ℕ) (to : Option ℕ)
    → IsLockState mutex (lock_seen n.shared o m s (λ u. taken_at (p u) l))
    → locks.handed t Exclusive (heir to) (lock_seen n.shared o m s (λ u. taken_at (p u) l))
    ≡ lock_seen n.shared (with_exclusive o to) m s (let_go t (λ u. taken_at (p u) l))
handed_is t n o m s p l to state =
    (λ i. locks.with_successor (heir to)
    (record (lock_seen n.shared (with_exclusive o None) m s (let_go t (λ u. taken_at (p u) l))) {
      shared =
          sharing_same mutex (lock_seen n.shared o m s (λ u. taken_at (p u) l)) t 0 n.shared state (λ h. h) i;
    }))
    ∙ by_heir to
  where
    by_heir : (to : Option ℕ)
        → locks.with_successor (heir to) (lock_seen n.shared (with_exclusive o None) m s
        (let_go t (λ u. taken_at (p u) l)))
        ≡ lock_seen n.shared (with_exclusive o to) m s (let_go t (λ u. taken_at (p u) l))
    by_heir None = refl
    by_heir (Some u) = ap (λ (k : ℕ). if k == 0 then lock_seen n.shared (with_exclusive o (Some u)) m s
        (let_go t (λ x. taken_at (p x) l)) else locks.pending_for u false (lock_seen n.shared
        (with_exclusive o None) m s (let_go t (λ x. taken_at (p x) l)))) (state.unshared (λ h. h))
