-- Locks stay of their kinds.
use Rattle.lot_laws.proofs.Imports
use Imports.{ℕ, Bool, true, false, Option, Some, None, if◌then◌else◌, ◌||◌, ◌≡◌, length, replicate, get_or, set}
use Imports.{refl, ap, ◌∙◌, Op, Kind, has_readers, rules_of, MutexCall, RwLockCall, Turn, Step, CondvarCall}
use Imports.{OnceCall, SemaphoreCall, Place, has_call, act_of, respins_from, late_key, State}
use Imports.{shares_handed_over}
use Imports.{unlocked, place_at, word_at, shares_at, filled_at, kind_at, state_after_hand_over}
use Imports.{state_after_look, put, state_after_late_on, state_after_turn, closed_place, is_possible, after}
use Imports.{apply, fills, or-false, is_mutex}
use Rattle.spec_locks.specs.declared.kinds.Kind.TheVariants as kind
use Rattle.spec_locks.specs.declared.calls.Call.TheVariants as call
use Rattle.spec_locks.specs.declared.calls.Turn.TheVariants as turn
use Rattle.spec_locks.specs.Locks as locks
pub use Rattle.lot_machine.proofs.KindsStay.{set_field, operated_kinds, given_kinds, performed_kinds}

pub given_filled : (w : State) (t : ℕ) (p : Place) (l : ℕ) (f : Op) → rules_of (kind_at w l)
    ≡ record { sort = locks.Mutex; limit = 0 } → (k : ℕ) → filled_at (state_after_hand_over w t p l f) k
    ≡ filled_at w k
given_filled w t p l f rules k = set_field (λ x. x.filled) w.locks l _ (unlocked kind.Mutex)
    (ap (λ r. filled_at w l || fills r (apply f (word_at w l))) rules ∙ or-false (filled_at w l)) k

-- nobody gets a share where none is given
pub given_shares : (w : State) (t l : ℕ) → shares_handed_over w t l ≡ shares_at w l → (k : ℕ)
    → get_or (set w.shares l (shares_handed_over w t l)) k (replicate (length w.places) 0) ≡ shares_at w k
given_shares w t l none k = set_field (λ x. x) w.shares l (shares_handed_over w t l)
    (replicate (length w.places) 0) none k

late_kinds : (w : State) (t : ℕ) (o : Option ℕ) (k : ℕ) → kind_at (state_after_late_on w t o) k ≡ kind_at w k
late_kinds w t None k = refl
late_kinds w t (Some key) k = refl

spun_kinds : (w : State) (t : ℕ) (o : Option Place) (k : ℕ) → kind_at (state_after_look w t o) k ≡ kind_at w k
spun_kinds w t None k = refl
spun_kinds w t (Some q) k = performed_kinds (put w t q) t (place_at (put w t q) t)
    (act_of (place_at (put w t q) t)) k

turned_kinds : (w : State) (t : ℕ) (x : Turn) (k : ℕ) → kind_at (state_after_turn w t x) k ≡ kind_at w k
turned_kinds w t (turn.Begin c) k = refl
turned_kinds w t turn.Go k = performed_kinds w t (place_at w t) (act_of (place_at w t)) k
turned_kinds w t turn.Spin k = spun_kinds w t (respins_from (place_at w t)) k
turned_kinds w t turn.Late k = late_kinds w t (late_key (place_at w t)) k
turned_kinds w t turn.Ok k = spun_kinds w t (Some (closed_place w t true)) k
turned_kinds w t turn.Err k = spun_kinds w t (Some (closed_place w t false)) k

pub after_kinds : (w : State) (s : Step) (k : ℕ) → kind_at (after w s) k ≡ kind_at w k
after_kinds w s k = either (is_possible w s)
  where
    either : (b : Bool) → kind_at (if b then state_after_turn w s.thread s.turn else w) k ≡ kind_at w k
    either true = turned_kinds w s.thread s.turn k
    either false = refl

-- each sort of lock has its own calls alone
pub calls_mutex : (k : Kind) (l : ℕ) (c : MutexCall) → has_call k (call.Mutex l c) ≡ true
    → is_mutex k ≡ true
calls_mutex kind.Mutex l c h = refl
calls_mutex kind.Fair l c h = refl
calls_mutex k l c h = absurd cc

pub calls_readers : (k : Kind) (l : ℕ) (c : RwLockCall) → has_call k (call.RwLock l c) ≡ true
    → has_readers (rules_of k).sort ≡ true
calls_readers (kind.RwLock limit) l c h = refl
calls_readers (kind.Recursive limit) l c h = refl
calls_readers k l c h = absurd cc

pub calls_once : (k : Kind) (l : ℕ) (c : OnceCall) → has_call k (call.Once l c) ≡ true
    → (rules_of k).sort ≡ locks.Once
calls_once kind.Once l c h = refl
calls_once k l c h = absurd cc

pub calls_semaphore : (k : Kind) (l : ℕ) (c : SemaphoreCall) → has_call k (call.Semaphore l c)
    ≡ true
    → (rules_of k).sort ≡ locks.Semaphore
calls_semaphore (kind.Semaphore permits) l c h = refl
calls_semaphore k l c h = absurd cc

pub calls_condvar : (k : Kind) (l : ℕ) (c : CondvarCall) → has_call k (call.Condvar l c) ≡ true
    → (rules_of k).sort ≡ locks.Condvar
calls_condvar kind.Condvar l c h = refl
calls_condvar k l c h = absurd cc
