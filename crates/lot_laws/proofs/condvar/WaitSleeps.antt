-- A wait that is told to sleep stands in a queue, or is in a hand.
use Rattle.lot_laws.proofs.Imports
use Imports.{ℕ, Bool, true, false, Some, None, if◌then◌else◌, ◌==◌, ◌≡◌, ◌+◌, ◌*◌, ◌≤◌, not, inl, inr, refl}
use Imports.{◌∙◌, ap, arith, One, outcome_of, Location, Next, is_locked, Wait, WaitAt, IsReached, wait_row}
use Imports.{in_wait, wait_act, Condvar, condvar_does, condvar_goes, one_if_some, standing, Main, State}
use Imports.{place_at, lock_state, taken_at, location_at, IsInductive, stood_in}
use Rattle.core_base.specs.declared.ops.Op.TheVariants as op
use Rattle.spec_locks.specs.declared.outcomes.Outcome.TheVariants as outcome
use Rattle.steps_base.specs.declared.acts.Act.TheVariants as act
use Rattle.steps_base.specs.declared.acts.Next.TheVariants as next
use Rattle.steps_mutex.specs.declared.places.MutexPlace.TheVariants as mutex
use Rattle.steps_mutex.specs.declared.lock.Entry.TheVariants as entry
use Rattle.steps_mutex.specs.declared.lock.LockAt.TheVariants as lock
use Rattle.steps_mutex.specs.declared.unlock.UnlockAt.TheVariants as unlock
use Rattle.steps_condvar.specs.declared.wait.WaiterFate.TheVariants as stands
use Rattle.steps_condvar.specs.declared.wait.WaitAt.TheVariants as wait
use Rattle.lot_laws.proofs.calls.CallEvents.{GoesAs}
use Rattle.lot_laws.proofs.condvar.StepEvents.{ToldSo}
use Rattle.lot_laws.proofs.condvar.Replies.{fits_here, location_beside, taken_beside}
use Rattle.lot_laws.proofs.condvar.Sites.{location_there}
use Rattle.lot_laws.proofs.promises.PlacePromises.{standing_by}

-- the own step of a wait leads to no sleep of one that was handed its mutex, or told so
abbrev pub IsSettled : WaitAt → Type 0
IsSettled (wait.Asleep (stands.Handed by)) = ⊥
IsSettled (wait.Asleep (stands.Noted n)) = ⊥
IsSettled (wait.Lock late (mutex.Lock e again (lock.Handed by))) = ⊥
IsSettled at = Unit {0}

abbrev pub IsSettledNext : Next WaitAt → Type 0
IsSettledNext (next.At q) = IsSettled q
IsSettledNext (next.End answer) = Unit {0}

module _ (v : State) (t l m : ℕ) (timed : Bool) (inductive : IsInductive v) where
  module _ (q : WaitAt) (there : place_at v t ≡ Condvar l (Wait m timed q)) where
    listed : (wait_row m q).listed ≡ true → 1 ≤ standing t (lock_state v l)
    listed e = let a : (location_at (place_at v t) l).stands ≡ Some Main =
        ap (λ (y : Location). y.stands) (location_there v inductive.stands t l (Wait m timed q) there)
        ∙ ap (λ (b : Bool). if b then Some Main else None) e in
        let one : stood_in (location_at (place_at v t) l).stands Main ≡ 1 = ap (λ o. stood_in o Main) a in
        let by = standing_by v t inductive l in omega arith

    moved : (wait_row m q).moved ≡ true → 1 ≤ standing t (lock_state v m)
    moved e = let a : (location_at (place_at v t) m).stands ≡ Some Main = ap (λ (y : Location). y.stands)
        (location_beside v t l (Wait m timed q) inductive there m refl)
        ∙ ap (λ (b : Bool). if b then Some Main else None) e in
        let one : stood_in (location_at (place_at v t) m).stands Main ≡ 1 = ap (λ o. stood_in o Main) a in
        let by = standing_by v t inductive m in omega arith

    held : one_if_some (taken_at (place_at v t) m) ≡ 1 → 1 ≤ standing t (lock_state v m)
    held one = let by = standing_by v t inductive m in omega arith

  rests_at : (q : WaitAt) → place_at v t ≡ Condvar l (Wait m timed q) → IsReached (Wait m timed q)
      → IsSettled q
      → (k : ℕ) × GoesAs v t k (outcome_of (wait_act l m q))
  rests_at wait.Enter there reached settled = (l, inl refl)
  rests_at wait.Show there reached settled = (l, inl refl)
  rests_at wait.Stand there reached settled = (l, inl refl)
  rests_at wait.Leave there reached settled = (l, inl refl)
  rests_at wait.Refuse there reached settled = (l, inl refl)
  rests_at (wait.Release s (mutex.Unlock unlock.Subtract)) there reached settled = (l, inl refl)
  rests_at (wait.Release s (mutex.Unlock unlock.Enter)) there reached settled = (l, inl refl)
  rests_at (wait.Release s (mutex.Unlock unlock.Take)) there reached settled = (l, inl refl)
  rests_at (wait.Release s (mutex.Unlock (unlock.Clear any))) there reached settled = (l, inl refl)
  rests_at (wait.Release s (mutex.Unlock (unlock.Leave any))) there reached settled = (l, inl refl)
  rests_at (wait.Release s a) there reached settled = absurd reached.0
  rests_at (wait.Asleep stands.Listed) there reached settled =
      (l, inr (inl (refl, listed (wait.Asleep stands.Listed) there refl)))
  rests_at (wait.Asleep stands.Moved) there reached settled =
      (m, inr (inl (refl, moved (wait.Asleep stands.Moved) there refl)))
  rests_at (wait.Asleep (stands.InHand by)) there reached settled = (
    m,
    inr (inl (
      refl,
      held (wait.Asleep (stands.InHand by)) there
          (ap one_if_some (taken_beside v t l (Wait m timed (wait.Asleep (stands.InHand by))) inductive there
          m
          refl)),
    )),
  )
  rests_at (wait.Asleep s) there reached settled = absurd settled
  rests_at wait.Remove there reached settled = (l, inl refl)
  rests_at wait.Hide there reached settled = (l, inl refl)
  rests_at wait.GiveUp there reached settled = (l, inl refl)
  rests_at wait.RemoveMoved there reached settled = (l, inl refl)
  rests_at (wait.GiveUpMoved none_left) there reached settled = (l, inl refl)
  rests_at (wait.Lock late (mutex.Lock entry.Lock again lock.First)) there reached settled = (l, inl refl)
  rests_at (wait.Lock late (mutex.Lock entry.Lock again lock.Load)) there reached settled = (l, inl refl)
  rests_at (wait.Lock late (mutex.Lock entry.Lock again (lock.Decide seen))) there reached settled =
      (l, inl (decides (is_locked seen) (seen == 1)))
    where
      decides : (a b : Bool)
          → outcome_of
          (if not a then act.Word m (op.Exchange seen (seen + 1)) else if b then act.Word m
          (op.Exchange 1 3) else act.Enter (One (2 * m)))
          ≡ outcome.Step
      decides false b = refl
      decides true true = refl
      decides true false = refl
  rests_at (wait.Lock late (mutex.Lock entry.Lock again lock.Check)) there reached settled = (l, inl refl)
  rests_at (wait.Lock late (mutex.Lock entry.Lock again (lock.Leave parked))) there reached settled =
      (l, inl refl)
  rests_at (wait.Lock late (mutex.Lock entry.Lock again lock.Accept)) there reached settled = (l, inl refl)
  rests_at (wait.Lock late (mutex.Lock entry.Lock again lock.Asleep)) there reached settled =
      (m, inr (inl (refl, moved (wait.Lock late (mutex.Lock entry.Lock again lock.Asleep)) there refl)))
  rests_at (wait.Lock late (mutex.Lock entry.Lock again (lock.Taken by))) there reached settled = (
    m,
    inr (inl (
      refl,
      held (wait.Lock late (mutex.Lock entry.Lock again (lock.Taken by))) there
          (ap one_if_some (taken_beside v t l
          (Wait m timed (wait.Lock late (mutex.Lock entry.Lock again (lock.Taken by)))) inductive there m
          refl)),
    )),
  )
  rests_at (wait.Lock late (mutex.Lock entry.Lock again (lock.Handed by))) there reached settled =
      absurd settled
  rests_at (wait.Lock late (mutex.Lock entry.Lock again a)) there reached settled = absurd reached.1
  rests_at (wait.Lock late a) there reached settled = absurd reached.1

  -- tells what it is told of its step
  pub wait_rests : (n : Next WaitAt) → place_at v t ≡ condvar_goes l (in_wait m timed n) → IsSettledNext n
      → ToldSo v t (in_wait m timed n) (outcome_of (condvar_does l (in_wait m timed n)))
  wait_rests (next.At q) there settled =
      rests_at q there (fits_here v t l (Wait m timed q) inductive there).reached settled
  wait_rests (next.End answer) there settled = refl
