-- By each act of a notification the calls of the other threads become what its event makes of them: each
-- thread that is moved or taken knows it, and each thread that is woken tries the mutex again.
use Rattle.lot_laws.proofs.Imports
use Imports.{ℕ, Bool, true, false, None, if◌then◌else◌, ◌==◌, ◌≡◌, ◌≢◌, ◌*◌, ◌<◌, length, refl, sym, ◌∙◌, ap}
use Imports.{subst, inl, inr, cases_eq, Two, At, Location, Place, Condvar, condvar_goes, is_locked, NotifyAt}
use Imports.{CondvarPlace, Notify, notify_event, condvar_next, move_act, notify_act, IsCondvar, WaitsAside}
use Imports.{moved_of, Rights, rights_of, LockState, putting, AtLock, Event, Moves, Nothing, if_moved, Main}
use Imports.{State, place_at, put, reply_to, state_after_act, state_with_sections, word_at, call_state}
use Imports.{lock_state, FitsItsLock, IsInductive, carried_at, condvar_of, key_of, rules_in, site_of}
use Rattle.steps_condvar.specs.declared.notify.NotifyAt.TheVariants as notify
use Rattle.spec_locks.specs.Locks as locks
use Rattle.lot_laws.proofs.calls.CallEvents.{IsEvent, OthersFollow, rights}
use Rattle.lot_laws.proofs.condvar.OtherCalls.{IsCalmEvent, calm_follow, condvar_carries, wake_follows}
use Rattle.lot_laws.proofs.condvar.TwoParts.{location_beside}
use Rattle.lot_laws.proofs.machine.Parts.{put_here, put_other}
use Rattle.lot_laws.proofs.hands.Handed.{CarriesAt}
use Rattle.lot_laws.proofs.condvar.NotifyMoves.{moves_calls}
use Rattle.lot_laws.proofs.calls.OtherCalls.{IsLonely, lonely}

module _ (w : State) (t l m : ℕ) (all : Bool) where
  abbrev notifies : NotifyAt → CondvarPlace
  notifies at = Notify all m at

  abbrev event : NotifyAt → Event
  event p = notify_event l all m p (reply_to w t (notify_act all l m p))

  abbrev afterwards : NotifyAt → Place → State
  afterwards p p2 = put (state_after_act w t (Condvar l (notifies p)) (notify_act all l m p)) t p2

  abbrev Follow : NotifyAt → Place → Type 0
  Follow p p2 = IsEvent w (afterwards p p2) t (event p) → OthersFollow w (afterwards p p2) t (event p)

  marked_calm : (b : Bool) → IsCalmEvent (if b then Nothing else AtLock m (locks.SeeOwner false))
  marked_calm true = tt
  marked_calm false = tt

  set_calm : (b c : Bool)
      → IsCalmEvent (if b then AtLock m (locks.SeeOwner true) else if c then Nothing else AtLock m
      (locks.SeeOwner false))
  set_calm true c = tt
  set_calm false c = marked_calm c

  -- an act by which nobody else goes elsewhere
  alone : (p : NotifyAt) (p2 : Place) → IsLonely (notify_act all l m p) → IsCalmEvent (event p) → Follow p p2
  alone p p2 h calm happens = calm_follow w (afterwards p p2) t (event p) happens calm
      (lonely w t p2 (Condvar l (notifies p)) (notify_act all l m p) h)

  module _ (inductive : IsInductive w) (apart : m ≢ l) where
    wakes : (number : ℕ) → place_at w t ≡ Condvar l (notifies (notify.Leave true number)) → (p2 : Place)
        → Follow (notify.Leave true number) p2
    wakes number is p2 h = wake_follows w t m inductive (subst (CarriesAt m) (sym is)
        (condvar_carries l m apart this refl)) (ap (λ q. carried_at q m) is
        ∙ ap (λ (y : Location). y.has_taken) (location_beside l m apart (At this) refl)) p2
        (state_with_sections w (Two (2 * l) (2 * m)) None) refl h
      where
        this : CondvarPlace
        this = notifies (notify.Leave true number)

-- a move leaves each right as it was
put_rights : (f : ℕ → LockState) (x : ℕ) (s : LockState) (u : ℕ) → rights_of s u ≡ rights_of (f x) u → (k : ℕ)
    → rights_of (putting f x s k) u ≡ rights_of (f k) u
put_rights f x s u e k = elim (cases_eq k x) [
  | inl here ↦ rw (here, put_here f x s) e
  | inr ne ↦ ap (λ y. rights_of y u) (put_other f x s k ne)
]

module _ (w v : State) (t l m : ℕ) (all owned : Bool) (number : ℕ)
    (h : IsEvent w v t (Moves l m all owned number)) where
  left_rights : (u : ℕ) → rights_of (locks.left_after all (lock_state w l)) u ≡ rights_of (lock_state w l) u
  left_rights u = refl

  moved_rights : (u k : ℕ) → rights_of (lock_state v k) u ≡ rights_of (lock_state w k) u
  moved_rights u k = ap (λ s. rights_of s u) (h.led k)
      ∙ put_rights (putting (lock_state w) l (locks.left_after all (lock_state w l))) m _ u
      (sym (put_rights (lock_state w) l (locks.left_after all (lock_state w l)) u (left_rights u) m)) k
      ∙ put_rights (lock_state w) l (locks.left_after all (lock_state w l)) u (left_rights u) k

  -- the others follow where each thread that is moved or taken knows it
  moves_follow : ((u : ℕ) → u ≢ t → (r : ℕ → Rights) → call_state (place_at v u) r ≡ if_moved u
      (moved_of all (lock_state w l).queue) (call_state (place_at w u) r))
      → OthersFollow w v t (Moves l m all owned number)
  moves_follow knows u ne = ap (call_state (place_at v u)) (λ i k. moved_rights u k i)
      ∙ knows u ne (rights w u)

-- ---------------------------------------------------------------- whichever it is

-- tells what its move is to the abstract locks
moves_event : (w : State) (t l m : ℕ) (all locked : Bool)
    → (number : ℕ)
    × (notify_event l all m (notify.Move locked) (reply_to w t (move_act all locked l m)) ≡ Moves l m all
    locked number)
moves_event w t l m true true = (_, refl)
moves_event w t l m true false = (_, refl)
moves_event w t l m false true = (_, refl)
moves_event w t l m false false = (_, refl)

module _ (w : State) (t l m : ℕ) (all : Bool) (inductive : IsInductive w) (is_there : t < length w.places)
    (apart : m ≢ l)
    (sort_l : (rules_in w l).sort ≡ locks.Condvar) (sort_m : (rules_in w m).sort ≡ locks.Mutex)
    (kept : IsCondvar (condvar_of w l)) (aside : WaitsAside (condvar_of w l) (site_of w m) m)
    (line_l : key_of l Main < length w.queues) (line_m : key_of m Main < length w.queues) where
  -- by where it goes
  abbrev next : NotifyAt → Place
  next p = condvar_goes l (condvar_next (Notify all m p) (reply_to w t (notify_act all l m p)))

  pub notify_others : (p : NotifyAt) → place_at w t ≡ Condvar l (Notify all m p) → FitsItsLock w (next p)
      → Follow w t l m all p (next p)
  notify_others notify.Enter is fits = alone w t l m all notify.Enter (next notify.Enter) tt tt
  notify_others notify.Again is fits = alone w t l m all notify.Again (next notify.Again) tt tt
  notify_others notify.Hide is fits = alone w t l m all notify.Hide (next notify.Hide) tt tt
  notify_others notify.Mark is fits = alone w t l m all notify.Mark (next notify.Mark) tt
      (marked_calm w t l m all (is_locked (word_at w m)))
  notify_others (notify.Set x) is fits = alone w t l m all (notify.Set x) (next (notify.Set x)) tt
      (set_calm w t l m all (word_at w m == x) (is_locked (word_at w m)))
  notify_others (notify.Clear any) is fits = alone w t l m all (notify.Clear any) (next (notify.Clear any)) tt
      tt
  notify_others (notify.MarkMoved number) is fits = alone w t l m all (notify.MarkMoved number)
      (next (notify.MarkMoved number)) tt tt
  notify_others (notify.Leave false number) is fits = alone w t l m all (notify.Leave false number)
      (next (notify.Leave false number)) tt tt
  notify_others (notify.Leave true number) is fits = wakes w t l m all inductive apart number is
      (next (notify.Leave true number))
  notify_others (notify.Move locked) is fits = let e = moves_event w t l m all locked in
      subst (λ x. IsEvent w after_move t x → OthersFollow w after_move t x) (sym e.1)
      (λ h. moves_follow w after_move t l m all locked e.0 h (moves_calls w t l m inductive is_there apart
      sort_l
      sort_m kept aside line_l line_m all locked is fits))
    where
      after_move : State
      after_move = afterwards w t l m all (notify.Move locked) (next (notify.Move locked))
