-- A thread stands under one key, once, and each waiter under its own.
use Rattle.std.proofs.Common.{ℕ, zero, suc, Bool, true, false, cond, Option, Some, None, ◌≡◌, ◌≢◌, ◌≤◌, ◌⊎◌}
use Rattle.std.proofs.Common.{inl, inr, List, [], ◌∷◌, refl, sym, ap, ◌∙◌, subst, arith}
use Rattle.std.proofs.lemmas.Bool.{eqb-true}
use Rattle.std.proofs.lemmas.List.Elements.{All-cons, All-nil}
use Rattle.core_base.specs.declared.keys.Line.{Line}
use Rattle.core_base.specs.declared.keys.Line.TheVariants.{Main, Second}
use Rattle.core_base.specs.declared.wants.Waiter.{Waiter}
use Rattle.core_base.specs.Keys.{key_of}
use Rattle.core_base.specs.Lines.{times}
use Rattle.steps_base.specs.Profiles.{in_line}
use Rattle.steps_condvar.specs.declared.notify.NotifyAt.{NotifyAt}
use Rattle.steps_condvar.specs.declared.notify.NotifyAt.TheVariants as notify
use Rattle.steps_condvar.specs.declared.places.CondvarPlace.{CondvarPlace}
use Rattle.steps_condvar.specs.declared.places.CondvarPlace.TheVariants.{Wait, Look, Notify}
use Rattle.steps_condvar.specs.declared.wait.WaiterFate.{WaiterFate}
use Rattle.steps_condvar.specs.declared.wait.WaiterFate.TheVariants as stands
use Rattle.steps_condvar.specs.declared.wait.WaitAt.{WaitAt}
use Rattle.steps_condvar.specs.declared.wait.WaitAt.TheVariants as wait
use Rattle.steps_condvar.specs.CondvarProfiles.{condvar_row, is_listed, is_moved, notify_row, wait_row}
use Rattle.lot_steps.specs.declared.places.Place.{Place}
use Rattle.lot_steps.specs.declared.places.Place.TheVariants as place
use Rattle.lot_steps.specs.Steps.{beside_of, called_lock, is_lock, profile_at_mutex}
use Rattle.lot_machine.specs.Copies.{StandOnce}
use Rattle.lot_machine.specs.Machine.{State, place_at, queue_at}
use Rattle.lot_machine.specs.Views.{StandUnder}
use Rattle.lot_laws.specs.SitesOf.{AreWaiting, IsWorld, locations_of, stood_in}
use Rattle.lot_laws.specs.Locations.{Location, location, location_at, location_by, nowhere}

-- the lock and the line of a key
record KeyOf (key : ℕ) : Type 0 where
  lock : ℕ
  line : Line
  is : key ≡ key_of lock line

key_at : (key : ℕ) → KeyOf key
key_at zero = record { lock = 0; line = Main; is = refl }
key_at (suc zero) = record { lock = 0; line = Second; is = refl }
key_at (suc (suc key)) = next (key_at key)
  where
    next : KeyOf key → KeyOf (suc (suc key))
    next k = record { lock = suc k.lock; line = k.line; is = by_line k.line k.is }
      where
        by_line : (m : Line) → key ≡ key_of k.lock m → suc (suc key) ≡ key_of (suc k.lock) m
        by_line Main e = omega (arith, e)
        by_line Second e = omega (arith, e)

stood_once : (o : Option Line) (m : Line) → stood_in o m ≤ 1
stood_once None m = omega arith
stood_once (Some Main) Main = omega arith
stood_once (Some Main) Second = omega arith
stood_once (Some Second) Main = omega arith
stood_once (Some Second) Second = omega arith

-- ---------------------------------------------------------------- a thread stands at one lock

stand_alone : (s : WaiterFate) → (is_listed s ≡ false) ⊎ (is_moved s ≡ false)
stand_alone stands.Listed = inr refl
stand_alone stands.Moved = inl refl
stand_alone (stands.InHand by) = inl refl
stand_alone (stands.Handed by) = inl refl
stand_alone (stands.Noted note) = inl refl

wait_alone : (m : ℕ) (at : WaitAt) → ((wait_row m at).listed ≡ false) ⊎ ((wait_row m at).moved ≡ false)
wait_alone m wait.Enter = inl refl
wait_alone m wait.Show = inl refl
wait_alone m wait.Stand = inl refl
wait_alone m wait.Leave = inr refl
wait_alone m wait.Refuse = inl refl
wait_alone m (wait.Release s at) = stand_alone s
wait_alone m (wait.Asleep s) = stand_alone s
wait_alone m wait.Remove = inr refl
wait_alone m wait.Hide = inl refl
wait_alone m wait.GiveUp = inl refl
wait_alone m wait.RemoveMoved = inl refl
wait_alone m (wait.GiveUpMoved none_left) = inl refl
wait_alone m (wait.Lock timed_out at) = inl refl

notify_alone : (all : Bool) (m : ℕ) (at : NotifyAt) → (notify_row all m at).listed ≡ false
notify_alone all m notify.Enter = refl
notify_alone all m notify.Again = refl
notify_alone all m notify.Hide = refl
notify_alone all m notify.Mark = refl
notify_alone all m (notify.Set seen) = refl
notify_alone all m (notify.Move locked) = refl
notify_alone all m (notify.Clear any) = refl
notify_alone all m (notify.MarkMoved number) = refl
notify_alone all m (notify.Leave any number) = refl

row_alone : (at : CondvarPlace) → ((condvar_row at).listed ≡ false) ⊎ ((condvar_row at).moved ≡ false)
row_alone (Wait m timed at) = wait_alone m at
row_alone (Look all) = inl refl
row_alone (Notify all m at) = inl (notify_alone all m at)

in_no_line : (b : Bool) (m : Line) → b ≡ false → 1 ≤ stood_in (in_line b Main) m → ⊥
in_no_line true m e h = absurd cc
in_no_line false m e h = absurd (omega (arith, h))

-- a thread stands at the lock that it calls, or at the mutex beside it, and not at both
not_both : (p : Place) (m n : Line) → 1 ≤ stood_in (location p).stands m → 1
    ≤ stood_in (location_by (profile_at_mutex p)).stands n → ⊥
not_both place.Idle m n h k = absurd (omega (arith, k))
not_both (place.Mutex l at) m n h k = absurd (omega (arith, k))
not_both (place.RwLock l a at) m n h k = absurd (omega (arith, k))
not_both (place.Once l at) m n h k = absurd (omega (arith, k))
not_both (place.Semaphore l at) m n h k = absurd (omega (arith, k))
not_both (place.Condvar l at) m n h k = elim (row_alone at) [
  | inl e ↦ in_no_line (condvar_row at).listed m e h
  | inr e ↦ in_no_line (condvar_row at).moved n e k
]

same_lock : (o : Option ℕ) (l k : ℕ) → is_lock l o ≡ true → is_lock k o ≡ true → l ≡ k
same_lock None l k h e = absurd cc
same_lock (Some own) l k h e = sym (eqb-true own l h) ∙ eqb-true own k e

-- where it stands
data StandsAt (p : Place) (l : ℕ) (m : Line) : Type 0 where
  called : is_lock l (called_lock p) ≡ true → 1 ≤ stood_in (location p).stands m → StandsAt p l m
  beside : is_lock l (beside_of p) ≡ true → 1 ≤ stood_in (location_by (profile_at_mutex p)).stands m
      → StandsAt p l m

by_tests : (p : Place) (l : ℕ) (m : Line) (a b : Bool) → is_lock l (called_lock p) ≡ a
    → is_lock l (beside_of p) ≡ b
    → 1 ≤ stood_in (cond a (location p) (cond b (location_by (profile_at_mutex p)) nowhere)).stands m
    → StandsAt p l m
by_tests p l m true b e f h = called e h
by_tests p l m false true e f h = beside f h
by_tests p l m false false e f h = absurd (omega (arith, h))

stands_at : (p : Place) (l : ℕ) (m : Line) → 1 ≤ stood_in (location_at p l).stands m → StandsAt p l m
stands_at p l m h = by_tests p l m (is_lock l (called_lock p)) (is_lock l (beside_of p)) refl refl h

one_line : (o : Option Line) (m n : Line) → 1 ≤ stood_in o m → 1 ≤ stood_in o n → m ≡ n
one_line None m n h e = absurd (omega (arith, h))
one_line (Some Main) Main Main h e = refl
one_line (Some Main) Main Second h e = absurd (omega (arith, e))
one_line (Some Main) Second n h e = absurd (omega (arith, h))
one_line (Some Second) Second Second h e = refl
one_line (Some Second) Second Main h e = absurd (omega (arith, e))
one_line (Some Second) Main n h e = absurd (omega (arith, h))

one_key : (p : Place) (l k : ℕ) (m n : Line) → StandsAt p l m → StandsAt p k n → key_of l m ≡ key_of k n
one_key p l k m n (called a h) (called b e) = ap (λ j. key_of j m) (same_lock (called_lock p) l k a b)
    ∙ ap (key_of k) (one_line (location p).stands m n h e)
one_key p l k m n (called a h) (beside b e) = absurd (not_both p m n h e)
one_key p l k m n (beside a h) (called b e) = absurd (not_both p n m e h)
one_key p l k m n (beside a h) (beside b e) = ap (λ j. key_of j m) (same_lock (beside_of p) l k a b)
    ∙ ap (key_of k) (one_line (location_by (profile_at_mutex p)).stands m n h e)

none_if : (n : ℕ) → (1 ≤ n → ⊥) → n ≡ 0
none_if zero h = refl
none_if (suc n) h = absurd (h (omega arith))

pub stand_once : (w : State) → IsWorld w → StandOnce w
stand_once w world = record { once = once; nowhere_else = nowhere_else }
  where
    counted : (t key : ℕ) → let k = key_at key in times t (queue_at w key)
        ≡ stood_in (location_at (place_at w t) k.lock).stands k.line
    counted t key = let k = key_at key in ap (λ n. times t (queue_at w n)) k.is
        ∙ world.inductive.stands.lines t k.lock k.line

    once : (t key : ℕ) → times t (queue_at w key) ≤ 1
    once t key = let k = key_at key in subst (λ n. n ≤ 1) (sym (counted t key))
        (stood_once (location_at (place_at w t) k.lock).stands k.line)

    there : (t key : ℕ) → 1 ≤ times t (queue_at w key) → let k = key_at key
        in StandsAt (place_at w t) k.lock k.line
    there t key h = let k = key_at key in stands_at (place_at w t) k.lock k.line
        (subst (λ n. 1 ≤ n) (counted t key) h)

    nowhere_else : (t key other : ℕ) → 1 ≤ times t (queue_at w key) → other ≢ key → times t (queue_at w other)
        ≡ 0
    nowhere_else t key other h ne = none_if (times t (queue_at w other)) (λ twice.
        let k = key_at key in
        let o = key_at other in
        ne (o.is ∙ one_key (place_at w t) o.lock k.lock o.line k.line (there t other twice) (there t key h)
        ∙ sym k.is))

-- ---------------------------------------------------------------- each waiter stands under its key

keyed : (at : ℕ → ℕ → Location) (l : ℕ) (m : Line) (q : List Waiter) → AreWaiting at l m q
    → StandUnder (key_of l m) q
keyed at l m [] h = All-nil (λ (x : Waiter). x.key ≡ key_of l m)
keyed at l m (x ∷ q) h = All-cons (λ (y : Waiter). y.key ≡ key_of l m) x q h.0.0 (keyed at l m q h.1)

pub stand_under : (w : State) → IsWorld w → (key : ℕ) → StandUnder key (queue_at w key)
stand_under w world key =
    let k = key_at key in
    subst (λ n. StandUnder n (queue_at w n)) (sym k.is) (keyed (locations_of (place_at w)) k.lock k.line
    (queue_at w (key_of k.lock k.line)) (world.inductive.stands.waits k.lock k.line))
