-- A wait that locks its mutex again, whose thread steps alone: from each place it ends, or sleeps.
use Rattle.lot_laws.proofs.Imports
use Imports.{ℕ, Bool, true, false, if◌then◌else◌, ◌==◌, ◌&&◌, ◌≡◌, ◌≢◌, ◌+◌, ◌*◌, not, is_none, inl, inr, refl}
use Imports.{sym, ◌∙◌, ap, subst, arith, cases_eq, eqb-true, One, Op, apply, Reply, Value, Parked, outcome_of}
use Imports.{LockAt, is_locked, lock_act, CondvarPlace, Wait, IsLockOf, condvar_next, Condvar, State, after}
use Imports.{can_do, go_of, place_at, reply_to, state_after_act, word_at, IsMutexWord, owner_at, EntersSection}
use Imports.{EndsOrSleeps}
use Rattle.core_base.specs.declared.ops.Op.TheVariants as op
use Rattle.spec_locks.specs.declared.outcomes.Outcome.TheVariants as outcome
use Rattle.steps_base.specs.declared.acts.Act.TheVariants as act
use Rattle.steps_mutex.specs.declared.lock.Entry.TheVariants as entry
use Rattle.steps_mutex.specs.declared.lock.LockAt.TheVariants as lock
use Rattle.steps_mutex.specs.declared.places.MutexPlace.TheVariants as mutex
use Rattle.steps_mutex.specs.MutexSteps.{decided}
use Rattle.steps_condvar.specs.declared.wait.WaitAt.TheVariants as wait
use Rattle.lot_laws.proofs.machine.AtPlaces.{coded}
use Rattle.lot_alone.proofs.Condvar.{Afterwards, GoesAlone, Keeps, free_beside, leads_afterwards}
use Rattle.lot_alone.proofs.Condvar.{reached}
use Rattle.lot_alone.proofs.Condvar.{so_then, word_then}
use Rattle.lot_laws.proofs.condvar.Replies.{fits_here}
use Rattle.lot_laws.proofs.condvar.OwnStand.{calm_waiter}
use Rattle.lot_laws.proofs.promises.ExclusiveOwners.{by_code}
use Rattle.lot_laws.proofs.machine.Parts.{differ, plain_rules}
use Rattle.lot_alone.proofs.Leads.{leads_barred, Leads, leads_more}

module _ (t l m : ℕ) (keeps : Keeps t) (timed late : Bool) where
  abbrev pub relocks : Bool → LockAt → CondvarPlace
  relocks again a = Wait m timed (wait.Lock late (mutex.Lock entry.Lock again a))

  abbrev RestsIn : ℕ → State → Type 0
  RestsIn k w = Leads k w t (λ v o. EndsOrSleeps o)

  abbrev Alone : State → Bool → LockAt → Type 0
  Alone w again a = GoesAlone w t l m (relocks again a)

  module _ (w : State) (again : Bool) (a : LockAt) (g : Alone w again a) where
    -- tells what is left to do after this reply
    abbrev Left : ℕ → Reply → Type 0
    Left k r = Afterwards t l m keeps w (relocks again a) g (λ v o. EndsOrSleeps o) k
        (condvar_next (relocks again a) r)

    stays : place_at (state_after_act w t (Condvar l (relocks again a)) (lock_act m a)) t ≡ Condvar l
        (relocks again a)
    stays = calm_waiter w t l m timed (wait.Lock late (mutex.Lock entry.Lock again a)) g.place
        (reached t l m keeps w (relocks again a) g) g.thread refl

    goes : (k : ℕ) → can_do w (lock_act m a) ≡ true → Left k (reply_to w t (lock_act m a)) → RestsIn (k + 1) w
    goes k can left = leads_afterwards t l m keeps w (relocks again a) g can (λ v o. EndsOrSleeps o) k
        (relocks again a)
        stays left

    -- the word of the mutex after a step on it, and after any other
    word_is : (x : Op) → lock_act m a ≡ act.Word m x → can_do w (lock_act m a) ≡ true
        → word_at (after w (go_of t)) m ≡ apply x (word_at w m)
    word_is x is can = word_then t l m keeps w (relocks again a) g can x refl is

    mutex_coded : IsMutexWord (word_at w m) (owner_at w m)
    mutex_coded = coded w g.world.inductive m
        (plain_rules _ ((fits_here w t l (relocks again a) g.world.inductive g.place).mutex m refl))

  -- ---------------------------------------------------------------- each place

  sleeps : (w : State) (again : Bool) → Alone w again (lock.Leave true) → RestsIn 1 w
  sleeps w again g = goes w again (lock.Leave true) g 0 refl (λ h. inl (refl, tt))

  checks_full : (w : State) (again : Bool) → word_at w m ≡ 3 → Alone w again lock.Check → RestsIn 2 w
  checks_full w again full g = goes w again lock.Check g 1 refl
      (subst (λ v. Left w again lock.Check g 1 (Parked (v == 3))) (sym full)
      (λ h. inr (refl, sleeps (after w (go_of t)) (again && not true) h)))

  -- into the section, or it is barred
  enters : (w : State) (again : Bool) (seen k : ℕ) (g : Alone w again (lock.Decide seen)) → is_locked seen
      ≡ true
      → (seen == 1) ≡ false
      → (word_at (after w (go_of t)) m ≡ word_at w m → Alone (after w (go_of t)) again lock.Check
      → RestsIn k (after w (go_of t)))
      → RestsIn (k + 1) w
  enters w again seen k g locked marked on =
      elim (free_beside t l m keeps w (relocks again (lock.Decide seen)) g
      (subst (EntersSection (2 * m)) (sym is) refl) refl refl) [
        | inl free ↦ let can : can_do w (lock_act m (lock.Decide seen)) ≡ true = rw is (ap is_none free) in
            goes w again (lock.Decide seen) g k can
            (subst (λ a. Left w again (lock.Decide seen) g k (reply_to w t a)) (sym is)
            (λ h. inr (refl, on (same_word can) h)))
        | inr barred ↦ leads_barred w t (λ v o. EndsOrSleeps o) (k + 1) barred
      ]
    where
      is : lock_act m (lock.Decide seen) ≡ act.Enter (One (2 * m))
      is = rw (locked, marked) refl

      same_word : can_do w (lock_act m (lock.Decide seen)) ≡ true → word_at (after w (go_of t)) m
          ≡ word_at w m
      same_word can = so_then t l m keeps w (relocks again (lock.Decide seen)) g can (λ s. word_at s m)
          (λ q. refl) ∙ ap (λ a. word_at (state_after_act w t (Condvar l (relocks again (lock.Decide seen)))
          a) m) is

  decides_full : (w : State) (again : Bool) → word_at w m ≡ 3 → Alone w again (lock.Decide 3) → RestsIn 3 w
  decides_full w again full g = enters w again 3 2 g refl refl (λ e h. checks_full (after w (go_of t)) again
      (e ∙ full) h)

  -- the thread decides by the word as it is
  decides_now : (w : State) (again : Bool) → Alone w again (lock.Decide (word_at w m)) → RestsIn 4 w
  decides_now w again g = by_code (λ v o. word_at w m ≡ v → Alone w again (lock.Decide v) → RestsIn 4 w)
      (λ e h. goes w again (lock.Decide 0) h 3 refl (subst (λ v. Left w again (lock.Decide 0) h 3 (Value v))
      (sym e) tt))
      (λ e h. goes w again (lock.Decide 2) h 3 refl (subst (λ v. Left w again (lock.Decide 2) h 3 (Value v))
      (sym e) tt))
      (λ u e h. goes w again (lock.Decide 1) h 3 refl (subst (λ v. Left w again (lock.Decide 1) h 3 (Value v))
      (sym e)
      (λ k. inr (
        refl,
        decides_full (after w (go_of t)) again (word_is w again (lock.Decide 1) h
            (op.Exchange 1 3) refl refl ∙ ap (apply (op.Exchange 1 3)) e) k,
      ))))
      (λ u e h. leads_more 3 4 w t (λ v o. EndsOrSleeps o) (omega arith) (decides_full w again e h))
      (word_at w m) (owner_at w m) (mutex_coded w again (lock.Decide (word_at w m)) g) refl g

  -- the thread has looked
  decides_step : (v : ℕ) → outcome_of (decided m v) ≡ outcome.Step
  decides_step v = either (is_locked v) (v == 1)
    where
      either : (a b : Bool)
          → outcome_of
          (if not a then act.Word m (op.Exchange v (v + 1)) else if b then act.Word m (op.Exchange 1 3)
          else act.Enter (One (2 * m)))
          ≡ outcome.Step
      either false b = refl
      either true true = refl
      either true false = refl

  looks : (w : State) (again : Bool) (v : ℕ) → word_at (after w (go_of t)) m ≡ v
      → Alone (after w (go_of t)) again (lock.Decide v)
      → RestsIn 4 (after w (go_of t))
  looks w again v same h = decides_now (after w (go_of t)) again
      (subst (λ x. Alone (after w (go_of t)) again (lock.Decide x)) (sym same) h)

  loads : (w : State) (again : Bool) → Alone w again lock.Load → RestsIn 5 w
  loads w again g = goes w again lock.Load g 4 refl (λ h. inr (
    decides_step (word_at w m),
    looks w again (word_at w m) (word_is w again lock.Load g op.Load refl refl) h,
  ))

  leaves : (w : State) (again parked : Bool) → Alone w again (lock.Leave parked) → RestsIn 6 w
  leaves w again true g = leads_more 1 6 w t (λ v o. EndsOrSleeps o) (omega arith) (sleeps w again g)
  leaves w again false g = goes w again (lock.Leave false) g 5 refl
      (λ h. inr (refl, loads (after w (go_of t)) again h))

  checks : (w : State) (again : Bool) → Alone w again lock.Check → RestsIn 7 w
  checks w again g = goes w again lock.Check g 6 refl
      (λ h. inr (refl, leaves (after w (go_of t)) (again && not (word_at w m == 3)) (word_at w m == 3) h))

  -- the exchange fails, and it decides by what it has seen
  missed : (w : State) (again : Bool) (seen : ℕ) (x : Op) (g : Alone w again (lock.Decide seen))
      → lock_act m (lock.Decide seen) ≡ act.Word m x → apply x (word_at w m) ≡ word_at w m
      → (word_at w m == seen) ≡ false
      → RestsIn 5 w
  missed w again seen x g is unchanged other = goes w again (lock.Decide seen) g 4 can
      (subst (λ a. Left w again (lock.Decide seen) g 4 (reply_to w t a)) (sym is)
      (rw other (λ h. inr (
        decides_step (word_at w m),
        looks w again (word_at w m) (word_is w again (lock.Decide seen) g x is can ∙ unchanged) h,
      ))))
    where
      can : can_do w (lock_act m (lock.Decide seen)) ≡ true
      can = rw is refl

  -- the thread decides by a value that the word has no longer, or still
  decides_by : (w : State) (again : Bool) (seen : ℕ) → Alone w again (lock.Decide seen) → RestsIn 8 w
  decides_by w again seen g = elim (cases_eq (word_at w m) seen) [
    | inl e ↦ leads_more 4 8 w t (λ v o. EndsOrSleeps o) (omega arith)
        (decides_now w again (subst (λ x. Alone w again (lock.Decide x)) (sym e) g))
    | inr ne ↦ either (is_locked seen) (seen == 1) refl refl (differ (word_at w m) seen ne)
  ]
    where
      either : (a b : Bool) → is_locked seen ≡ a → (seen == 1) ≡ b → (word_at w m == seen) ≡ false
          → RestsIn 8 w
      either false b ea eb other = leads_more 5 8 w t (λ v o. EndsOrSleeps o) (omega arith)
          (missed w again seen (op.Exchange seen (seen + 1)) g (rw ea refl) (rw other refl) other)
      either true true ea eb other = leads_more 5 8 w t (λ v o. EndsOrSleeps o) (omega arith)
          (missed w again seen (op.Exchange 1 3) g (rw (ea, eb) refl)
          (rw (subst (λ n. (word_at w m == n) ≡ false) (eqb-true seen 1 eb) other) refl) other)
      either true false ea eb other = enters w again seen 7 g ea eb (λ e h. checks (after w (go_of t)) again
          h)

  tries : (w : State) (again : Bool) → Alone w again lock.First → RestsIn 6 w
  tries w again g = either (word_at w m == 0) refl
    where
      either : (b : Bool) → (word_at w m == 0) ≡ b → RestsIn 6 w
      either true e = goes w again lock.First g 5 refl (rw e tt)
      either false e = goes w again lock.First g 5 refl
          (rw e (λ h. inr (refl, loads (after w (go_of t)) again h)))

  -- from any place where it is awake
  pub relock_rests : (w : State) (again : Bool) (a : LockAt) → IsLockOf a → lock_act m a ≢ act.Sleep
      → Alone w again a
      → RestsIn 8 w
  relock_rests w again lock.First of up g = leads_more 6 8 w t (λ v o. EndsOrSleeps o) (omega arith)
      (tries w again g)
  relock_rests w again lock.Load of up g = leads_more 5 8 w t (λ v o. EndsOrSleeps o) (omega arith) (loads w again g)
  relock_rests w again (lock.Decide seen) of up g = decides_by w again seen g
  relock_rests w again lock.Check of up g = leads_more 7 8 w t (λ v o. EndsOrSleeps o) (omega arith)
      (checks w again g)
  relock_rests w again (lock.Leave parked) of up g = leads_more 6 8 w t (λ v o. EndsOrSleeps o) (omega arith)
      (leaves w again parked g)
  relock_rests w again lock.Accept of up g = leads_more 1 8 w t (λ v o. EndsOrSleeps o) (omega arith)
      (goes w again lock.Accept g 0 refl tt)
  relock_rests w again lock.Asleep of up g = absurd (up refl)
  relock_rests w again (lock.Taken by) of up g = absurd (up refl)
  relock_rests w again (lock.Handed by) of up g = absurd (up refl)
  relock_rests w again a of up g = absurd of
