-- An act in a call of a condition variable enters sections of its two locks, and one that leaves sections or
-- touches queues is of those that its thread is inside, as its row says.
use Rattle.lot_laws.proofs.Imports
use Imports.{ℕ, Bool, true, false, Option, Some, None, if◌then◌else◌, ◌==◌, not, ◌+◌, ◌*◌, ◌≡◌, ◌≢◌, ◌⊎◌, inl}
use Imports.{inr, [], map, get_or, refl, sym, ◌∙◌, ap, cases_eq, eqb-true, get_or-map, One, Two, without, times}
use Imports.{Act, in_line, Location, LockAt, is_locked, lock_act, NotifyAt, CondvarPlace, Wait, Look, Notify}
use Imports.{WaitAt, IsLockOf, IsReached, condvar_row, has_moved, section_in, inside, condvar_act, move_act}
use Imports.{mutex_beside, Condvar, is_lock, Line, Main, Second, State, place_at, queue_at, section_at}
use Imports.{location_at, FitsItsLock, IsInductive, key_of, stood_in}
use Rattle.core_base.specs.declared.ops.Op.TheVariants as op
use Rattle.steps_base.specs.declared.acts.Act.TheVariants as act
use Rattle.steps_mutex.specs.declared.places.MutexPlace.TheVariants as mutex
use Rattle.steps_mutex.specs.declared.lock.Entry.TheVariants as entry
use Rattle.steps_mutex.specs.declared.lock.LockAt.TheVariants as lock
use Rattle.steps_mutex.specs.declared.unlock.UnlockAt.TheVariants as unlock
use Rattle.steps_condvar.specs.declared.notify.NotifyAt.TheVariants as notify
use Rattle.steps_condvar.specs.declared.wait.WaitAt.TheVariants as wait
use Rattle.lot_laws.proofs.condvar.CondvarPromises.{stands_at, two_stand_main}
use Rattle.lot_laws.proofs.condvar.Sites.{location_there}
use Rattle.lot_laws.proofs.hands.Counts.{without_absent}
use Rattle.lot_laws.proofs.machine.Parts.{condvar_apart}
use Rattle.lot_laws.proofs.promises.LineActs.{line_of_key}
use Rattle.lot_laws.proofs.mutex.Waiters.{location_beside}

-- the key of the main line of one of its locks, and of one whose section its row says it is in
abbrev pub IsItsKey : ℕ → CondvarPlace → ℕ → Type 0
IsItsKey c at key = (key ≡ 2 * c) ⊎ ((m : ℕ) × (mutex_beside at ≡ Some m) × (key ≡ 2 * m))

abbrev pub IsInsideKey : ℕ → CondvarPlace → ℕ → Type 0
IsInsideKey c at key =
    ((key ≡ 2 * c) × (section_in (condvar_row at).stage ≡ Some Main))
    ⊎ ((m : ℕ) × (mutex_beside at ≡ Some m) × (key ≡ 2 * m) × ((condvar_row at).role.inside ≡ Some Main))

-- where its row says that it stands, it does so under this key
abbrev pub StandsUnder : ℕ → CondvarPlace → ℕ → Type 0
StandsUnder c at key =
    ((condvar_row at).listed ≡ true → key ≡ 2 * c)
    × ((condvar_row at).moved ≡ true → (m : ℕ) → mutex_beside at ≡ Some m → key ≡ 2 * m)

abbrev pub IsActOfTwo : ℕ → CondvarPlace → Act → Type 0
IsActOfTwo c at (act.Enter (One key)) = IsItsKey c at key
IsActOfTwo c at (act.Enter (Two first second)) = IsItsKey c at first × IsItsKey c at second
IsActOfTwo c at (act.Leave (One key) x) = IsInsideKey c at key
IsActOfTwo c at (act.Leave (Two first second) x) = IsInsideKey c at first × IsInsideKey c at second
IsActOfTwo c at (act.Park lock key check x) = IsInsideKey c at key × StandsUnder c at key
IsActOfTwo c at (act.Stand key x) = IsInsideKey c at key × StandsUnder c at key
IsActOfTwo c at (act.Take key x) = IsInsideKey c at key
IsActOfTwo c at (act.Remove key) = IsInsideKey c at key × StandsUnder c at key
IsActOfTwo c at (act.Requeue from to how) = IsInsideKey c at from × IsInsideKey c at to
IsActOfTwo c at a = Unit {0}

pub inside_its : (c : ℕ) (at : CondvarPlace) (key : ℕ) → IsInsideKey c at key → IsItsKey c at key
inside_its c at key (inl h) = inl h.0
inside_its c at key (inr h) = inr (h.0, h.1, h.2)

-- ---------------------------------------------------------------- each place

module _ (c m : ℕ) where
  relock_lines : (timed late r : Bool) (a : LockAt) → IsLockOf a
      → IsActOfTwo c (Wait m timed (wait.Lock late (mutex.Lock entry.Lock r a))) (lock_act m a)
  relock_lines timed late r (lock.Decide x) of = decides (is_locked x) (x == 1)
    where
      decides : (a b : Bool)
          → IsActOfTwo c (Wait m timed (wait.Lock late (mutex.Lock entry.Lock r (lock.Decide x))))
          (if not a then act.Word m (op.Exchange x (x + 1)) else if b then act.Word m
          (op.Exchange 1 3) else act.Enter (One (2 * m)))
      decides false b = tt
      decides true true = tt
      decides true false = inr (m, refl, refl)
  relock_lines timed late r lock.Check of = (inr (m, refl, refl, refl), (λ e. absurd cc, λ e k f. absurd cc))
  relock_lines timed late r (lock.Leave parked) of = inr (m, refl, refl, refl)
  relock_lines timed late r lock.First of = tt
  relock_lines timed late r lock.Load of = tt
  relock_lines timed late r lock.Asleep of = tt
  relock_lines timed late r (lock.Taken by) of = tt
  relock_lines timed late r (lock.Handed by) of = tt
  relock_lines timed late r lock.Accept of = tt
  relock_lines timed late r a of = absurd of

  wait_lines : (timed : Bool) (at : WaitAt) → IsReached (Wait m timed at)
      → IsActOfTwo c (Wait m timed at) (condvar_act c (Wait m timed at))
  wait_lines timed wait.Enter reached = inl refl
  wait_lines timed wait.Stand reached = (inl (refl, refl), (λ e. refl, λ e k f. absurd cc))
  wait_lines timed wait.Leave reached = inl (refl, refl)
  wait_lines timed wait.Refuse reached = inl (refl, refl)
  wait_lines timed (wait.Release s (mutex.Unlock unlock.Enter)) reached = inr (m, refl, refl)
  wait_lines timed (wait.Release s (mutex.Unlock unlock.Take)) reached = inr (m, refl, refl, refl)
  wait_lines timed (wait.Release s (mutex.Unlock (unlock.Leave any))) reached = inr (m, refl, refl, refl)
  wait_lines timed (wait.Release s (mutex.Unlock unlock.Subtract)) reached = tt
  wait_lines timed (wait.Release s (mutex.Unlock (unlock.Clear any))) reached = tt
  wait_lines timed (wait.Release s at) reached = absurd reached.0
  wait_lines timed wait.Remove reached = (inl (refl, refl), (λ e. refl, λ e k f. absurd cc))
  wait_lines timed wait.GiveUp reached = inl (refl, refl)
  wait_lines timed wait.RemoveMoved reached =
      (inr (m, refl, refl, refl), (λ e. absurd cc, λ e k f. let here : m ≡ k = cc in ap (λ j. 2 * j) here))
  wait_lines timed (wait.GiveUpMoved none_left) reached = inr (m, refl, refl, refl)
  wait_lines timed (wait.Lock late (mutex.Lock entry.Lock r a)) reached = relock_lines timed late r a
      reached.1
  wait_lines timed (wait.Lock late at) reached = absurd reached.1
  wait_lines timed at reached = tt

  notify_lines : (all : Bool) (at : NotifyAt) → IsActOfTwo c (Notify all m at)
      (condvar_act c (Notify all m at))
  notify_lines all notify.Enter = (inl refl, inr (m, refl, refl))
  notify_lines all (notify.Move locked) = moves all locked
    where
      moves : (a b : Bool) → IsActOfTwo c (Notify all m (notify.Move locked)) (move_act a b c m)
      moves true b = (inl (refl, refl), inr (m, refl, refl, refl))
      moves false true = (inl (refl, refl), inr (m, refl, refl, refl))
      moves false false = inl (refl, refl)
  notify_lines all (notify.Leave any number) = (inl (refl, refl), inr (m, refl, refl, within (number == 0)))
    where
      within : (b : Bool) → (if b then inside else has_moved any false).inside ≡ Some Main
      within true = refl
      within false = refl
  notify_lines all at = tt

pub condvar_lines : (c : ℕ) (at : CondvarPlace) → IsReached at → IsActOfTwo c at (condvar_act c at)
condvar_lines c (Wait m timed at) reached = wait_lines c m timed at reached
condvar_lines c (Look all) reached = tt
condvar_lines c (Notify all m at) reached = notify_lines c m all at

-- ---------------------------------------------------------------- the sections and queues that it touches

module _ (w : State) (t c : ℕ) (at : CondvarPlace) (inductive : IsInductive w) (is : place_at w t
    ≡ Condvar c at)
    (fits : FitsItsLock w (Condvar c at)) where
  -- the thread holds each section in which its row has it
  pub holds_key : (key : ℕ) → IsInsideKey c at key → section_at w key ≡ Some t
  holds_key key (inl h) = ap (section_at w) h.0 ∙ (inductive.stands.sections t c Main).0
      (ap (λ (s : Location). s.inside) (location_there w inductive.stands t c at is) ∙ h.1)
  holds_key key (inr h) = ap (section_at w) h.2 ∙ (inductive.stands.sections t h.0 Main).0
      (ap (λ p. (location_at p h.0).inside) is ∙ ap (λ (s : Location). s.inside)
      (location_beside c h.0 (condvar_apart w c at fits h.0 h.1) at h.1) ∙ h.3)

  -- in no queue but that one it stands
  module _ (key : ℕ) (under : StandsUnder c at key) where
    main_out : (k : ℕ) → 2 * k ≢ key → (o : Option Line)
        → o
        ≡ (if c == k then in_line (condvar_row at).listed Main else if is_lock k (mutex_beside at)
        then in_line (condvar_row at).moved Main else None)
        → stood_in o Main ≡ 0
    main_out k ne o e = rw e (by_lock (c == k) (mutex_beside at) refl refl)
      where
        listed : (b : Bool) → (condvar_row at).listed ≡ b → (c == k) ≡ true → stood_in (in_line b Main) Main
            ≡ 0
        listed true f g = absurd (ne (ap (λ j. 2 * j) (sym (eqb-true c k g)) ∙ sym (under.0 f)))
        listed false f g = refl

        moved : (m : ℕ) → mutex_beside at ≡ Some m → (b d : Bool) → (condvar_row at).moved ≡ b → (m == k) ≡ d
            → stood_in (if d then in_line b Main else None) Main ≡ 0
        moved m names true true f g =
            absurd (ne (ap (λ j. 2 * j) (sym (eqb-true m k g)) ∙ sym (under.1 f m names)))
        moved m names false true f g = refl
        moved m names b false f g = refl

        by_lock : (b : Bool) (o : Option ℕ) → (c == k) ≡ b → mutex_beside at ≡ o
            → stood_in
            (if b then in_line (condvar_row at).listed Main else if is_lock k o then in_line
            (condvar_row at).moved Main else None) Main
            ≡ 0
        by_lock true o f g = listed (condvar_row at).listed refl f
        by_lock false None f g = refl
        by_lock false (Some m) f g = moved m g (condvar_row at).moved (m == k) refl refl

    second_out : (k : ℕ) (o : Option Line) → (location_at (Condvar c at) k).stands ≡ o → stood_in o Second ≡ 0
    second_out k None e = refl
    second_out k (Some Main) e = refl
    second_out k (Some Second) e = absurd (two_stand_main c at k e)

    stood_out : (k : ℕ) (n : Line) → key_of k n ≢ key → times t (queue_at w (key_of k n)) ≡ 0
    stood_out k Main ne = inductive.stands.lines t k Main ∙ ap (λ p. stood_in (location_at p k).stands Main)
        is
        ∙ main_out k ne (location_at (Condvar c at) k).stands (stands_at c at k)
    stood_out k Second ne = inductive.stands.lines t k Second
        ∙ ap (λ p. stood_in (location_at p k).stands Second) is
        ∙ second_out k (location_at (Condvar c at) k).stands refl

    -- where it leaves the queues, only that one changes
    pub left_at : IsInsideKey c at key → (k : ℕ)
        → (get_or (map (without t) w.queues) k [] ≡ queue_at w k) ⊎ (section_at w k ≡ Some t)
    left_at within k = let of = line_of_key k in elim (cases_eq (key_of of.0 of.1) key) [
      | inl e ↦ inr (ap (section_at w) (of.2 ∙ e) ∙ holds_key key within)
      | inr ne ↦ inl (ap (λ j. get_or (map (without t) w.queues) j []) of.2
          ∙ get_or-map (without t) w.queues (key_of of.0 of.1) []
          ∙ without_absent t (queue_at w (key_of of.0 of.1)) (stood_out of.0 of.1 ne)
          ∙ sym (ap (queue_at w) of.2))
    ]
