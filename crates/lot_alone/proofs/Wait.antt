-- A wait whose thread steps alone: from each place where it is awake it ends, or sleeps.
use Rattle.lot_laws.proofs.Imports
use Imports.{ℕ, Bool, true, false, if◌then◌else◌, ◌==◌, ◌||◌, ◌≡◌, ◌≢◌, ◌⊎◌, ◌+◌, ◌*◌, length, drop, is_none}
use Imports.{inl, inr, refl, sym, ap, subst, arith, without, Outcome, Reply, Value, Took, Removed, TakenBy}
use Imports.{MovedTo, HandedBy, Woken, outcome_of, UnlockAt, in_unlock, is_parked, unlock_act, Wait, WaiterFate}
use Imports.{WaitAt, IsReached, stands_after, past_release, condvar_next, first_lock, in_wait, is_shown}
use Imports.{released, wait_act, Place, Condvar, next_place, State, after, can_do, go_of, place_at, queue_at}
use Imports.{reply_to, state_after_act, word_at, Befalls, acted_keeps, EndsOrSleeps}
use Rattle.core_base.specs.declared.notes.Note.TheVariants as note
use Rattle.spec_locks.specs.declared.outcomes.Answer.TheVariants as answer
use Rattle.spec_locks.specs.declared.outcomes.Outcome.TheVariants as outcome
use Rattle.steps_base.specs.declared.acts.Act.TheVariants as act
use Rattle.steps_base.specs.declared.acts.Next.TheVariants as next
use Rattle.steps_mutex.specs.declared.lock.Entry.TheVariants as entry
use Rattle.steps_mutex.specs.declared.lock.LockAt.TheVariants as lock
use Rattle.steps_mutex.specs.declared.places.MutexPlace.TheVariants as mutex
use Rattle.steps_mutex.specs.declared.unlock.UnlockAt.TheVariants as unlock
use Rattle.steps_condvar.specs.declared.wait.WaiterFate.TheVariants as stands
use Rattle.steps_condvar.specs.declared.wait.WaitAt.TheVariants as wait
use Rattle.lot_alone.proofs.Condvar.{Afterwards, GoesAlone, Keeps, free_beside, free_here}
use Rattle.lot_alone.proofs.Condvar.{leads_afterwards}
use Rattle.lot_alone.proofs.Condvar.{reached}
use Rattle.lot_laws.proofs.condvar.OwnStand.{calm_waiter, is_release}
use Rattle.lot_alone.proofs.Leads.{leads_barred, Leads, leads_more}
use Rattle.lot_alone.proofs.Relock.{relock_rests}

module _ (t l m : ℕ) (keeps : Keeps t) (timed : Bool) where
  abbrev pub Alone : State → WaitAt → Type 0
  Alone w at = GoesAlone w t l m (Wait m timed at)

  abbrev pub releasing : WaiterFate → UnlockAt → WaitAt
  releasing s at = wait.Release s (mutex.Unlock at)

  -- ---------------------------------------------------------------- where it stands once it has acted

  -- in its release, whatever befell it there
  abbrev InRelease : UnlockAt → Place → Type 0
  InRelease at p = (s : WaiterFate) × (p ≡ Condvar l (Wait m timed (releasing s at)))

  told_there : (at : UnlockAt) (s : WaiterFate) (r : Reply) → Befalls r
      → InRelease at (next_place (Condvar l (Wait m timed (releasing s at))) r)
  told_there at s (TakenBy u) h = (stands_after s (TakenBy u), refl)
  told_there at s (MovedTo key) h = (stands_after s (MovedTo key), refl)
  told_there at s (HandedBy u alone) h = (stands_after s (HandedBy u alone), refl)
  told_there at s (Woken n) h = (stands_after s (Woken n), refl)
  told_there at s r h = absurd h

  module _ (w : State) (s : WaiterFate) (at : UnlockAt) (g : Alone w (releasing s at)) where
    in_release : InRelease at (place_at (state_after_act w t (Condvar l (Wait m timed (releasing s at)))
        (unlock_act m at)) t)
    in_release = acted_keeps (InRelease at) w t t (Condvar l (Wait m timed (releasing s at)))
        (unlock_act m at) (λ loud r b q there. subst (λ x. InRelease at (next_place x r)) (sym there.1)
        (told_there at there.0 r b)) (s, g.place)

    -- tells what is left to do after this reply, whatever befell it
    abbrev LeftThere : (State → Outcome → Type 0) → ℕ → Reply → Type 0
    LeftThere P k r = (s2 : WaiterFate) → Afterwards t l m keeps w (Wait m timed (releasing s at)) g P k
        (condvar_next (Wait m timed (releasing s2 at)) r)

    goes_there : (P : State → Outcome → Type 0) (k : ℕ) → can_do w (unlock_act m at) ≡ true
        → LeftThere P k (reply_to w t (unlock_act m at)) → Leads (k + 1) w t P
    goes_there P k can left = leads_afterwards t l m keeps w (Wait m timed (releasing s at)) g can P k
        (Wait m timed (releasing in_release.0 at)) in_release.1 (left in_release.0)

  module _ (w : State) (at : WaitAt) (g : Alone w at) where
    -- Elsewhere the thread stands where it stood.
    abbrev pub Left : (State → Outcome → Type 0) → ℕ → Reply → Type 0
    Left P k r = Afterwards t l m keeps w (Wait m timed at) g P k (condvar_next (Wait m timed at) r)

    pub goes : (P : State → Outcome → Type 0) (k : ℕ) → is_release at ≡ false → can_do w (wait_act l m at)
        ≡ true
        → Left P k (reply_to w t (wait_act l m at)) → Leads (k + 1) w t P
    goes P k calm can left = leads_afterwards t l m keeps w (Wait m timed at) g can P k (Wait m timed at)
        (calm_waiter w t l m timed at g.place (reached t l m keeps w (Wait m timed at) g) g.thread calm) left

  -- ---------------------------------------------------------------- the release

  -- tells what holds of a state from the release on, and what it comes to after it
  module _ (P : State → Outcome → Type 0) (J : State → Type 0)
      (kept : (w : State) (s : WaiterFate) (at : UnlockAt) → Alone w (releasing s at) → at ≢ unlock.Subtract
      → can_do w (unlock_act m at) ≡ true → J w → J (after w (go_of t)))
      (finish : (w : State) (s : WaiterFate) → J w → Alone w (past_release s)
      → ((outcome_of (wait_act l m (past_release s)) ≡ outcome.Sleep) × P w outcome.Sleep)
      ⊎ ((outcome_of (wait_act l m (past_release s)) ≡ outcome.Step) × Leads 8 w t P)) where
    wakes : (w : State) (s : WaiterFate) (any : Bool) → J w → Alone w (releasing s (unlock.Leave any))
        → Leads 9 w t P
    wakes w s any j g = goes_there w s (unlock.Leave any) g P 8 refl (λ s2 h. finish (after w (go_of t)) s2
        (kept w s (unlock.Leave any) g (λ e. cc) refl j) h)

    clears : (w : State) (s : WaiterFate) (any : Bool) → J w → Alone w (releasing s (unlock.Clear any))
        → Leads 10 w t P
    clears w s any j g = goes_there w s (unlock.Clear any) g P 9 refl
        (λ s2 h. inr (
          refl,
          wakes (after w (go_of t)) s2 any (kept w s (unlock.Clear any) g (λ e. cc) refl j)
              h,
        ))

    takes : (w : State) (s : WaiterFate) → J w → Alone w (releasing s unlock.Take) → Leads 11 w t P
    takes w s j g = goes_there w s unlock.Take g P 10 refl
        (λ s2. taken s2 _ (length (drop 1 (queue_at w (2 * m))) == 0))
      where
        taken : (s2 : WaiterFate) (any none_left : Bool)
            → Afterwards t l m keeps w (Wait m timed (releasing s unlock.Take)) g P 10
            (condvar_next (Wait m timed (releasing s2 unlock.Take)) (Took any none_left))
        taken s2 any true h = inr (
          refl,
          clears (after w (go_of t)) s2 any
              (kept w s unlock.Take g (λ e. cc) refl j) h,
        )
        taken s2 any false h = inr (
          refl,
          leads_more 9 10 (after w (go_of t)) t P (omega arith)
              (wakes (after w (go_of t)) s2 any (kept w s unlock.Take g (λ e. cc) refl j) h),
        )

    enters : (w : State) (s : WaiterFate) → J w → Alone w (releasing s unlock.Enter) → Leads 12 w t P
    enters w s j g = elim (free_beside t l m keeps w (Wait m timed (releasing s unlock.Enter)) g refl refl
        refl) [
          | inl free ↦ let can : can_do w (unlock_act m unlock.Enter) ≡ true = ap is_none free in
              goes_there w s unlock.Enter g P 11 can
              (λ s2 h. inr (refl, takes (after w (go_of t)) s2 (kept w s unlock.Enter g (λ e. cc) can j) h))
          | inr barred ↦ leads_barred w t P 12 barred
        ]

    pub subtracts : (w : State) (s : WaiterFate) (g : Alone w (releasing s unlock.Subtract))
        → J (after w (go_of t)) → Leads 13 w t P
    subtracts w s g j = goes_there w s unlock.Subtract g P 12 refl (λ s2. seen s2 (word_at w m))
      where
        seen : (s2 : WaiterFate) (v : ℕ)
            → Afterwards t l m keeps w (Wait m timed (releasing s unlock.Subtract)) g P 12
            (condvar_next (Wait m timed (releasing s2 unlock.Subtract)) (Value v))
        seen s2 v = either (is_parked v)
          where
            either : (b : Bool)
                → Afterwards t l m keeps w (Wait m timed (releasing s unlock.Subtract)) g P 12
                (next.At (Wait m timed (released s2 (in_unlock (if b then next.At unlock.Enter
                else next.End answer.Ok)))))
            either true h = inr (refl, enters (after w (go_of t)) s2 j h)
            either false h = elim (finish (after w (go_of t)) s2 j h) [
              | inl asleep ↦ inl asleep
              | inr on ↦ inr (on.0, leads_more 8 12 (after w (go_of t)) t P (omega arith) on.1)
            ]

    pub releases : (w : State) (s : WaiterFate) (at : UnlockAt) → at ≢ unlock.Subtract → J w
        → Alone w (releasing s at)
        → Leads 12 w t P
    releases w s unlock.Subtract other j g = absurd (other refl)
    releases w s unlock.Enter other j g = enters w s j g
    releases w s unlock.Take other j g = leads_more 11 12 w t P (omega arith) (takes w s j g)
    releases w s (unlock.Clear any) other j g = leads_more 10 12 w t P (omega arith) (clears w s any j g)
    releases w s (unlock.Leave any) other j g = leads_more 9 12 w t P (omega arith) (wakes w s any j g)

  -- ---------------------------------------------------------------- from any place

  abbrev RestsIn : ℕ → State → Type 0
  RestsIn k w = Leads k w t (λ v o. EndsOrSleeps o)

  relocks_first : (w : State) (late again : Bool) → Alone w (wait.Lock late (first_lock again)) → RestsIn 8 w
  relocks_first w late again g = relock_rests t l m keeps timed late w again lock.First tt (λ e. cc) g

  released_rests : (w : State) (s : WaiterFate) → Unit {0} → Alone w (past_release s)
      → ((outcome_of (wait_act l m (past_release s)) ≡ outcome.Sleep) × EndsOrSleeps outcome.Sleep)
      ⊎ ((outcome_of (wait_act l m (past_release s)) ≡ outcome.Step) × RestsIn 8 w)
  released_rests w (stands.Noted note.Normal) j g = inr (refl, relocks_first w false true g)
  released_rests w (stands.Noted note.HandOff) j g =
      inr (refl, relock_rests t l m keeps timed false w false lock.Accept tt (λ e. cc) g)
  released_rests w stands.Listed j g = inl (refl, tt)
  released_rests w stands.Moved j g = inl (refl, tt)
  released_rests w (stands.InHand by) j g = inl (refl, tt)
  released_rests w (stands.Handed by) j g = inl (refl, tt)

  after_subtract : (w : State) (s : WaiterFate) (at : UnlockAt) → at ≢ unlock.Subtract
      → Alone w (releasing s at)
      → RestsIn 13 w
  after_subtract w s at other g = leads_more 12 13 w t (λ v o. EndsOrSleeps o) (omega arith)
      (releases (λ v o. EndsOrSleeps o) (λ v. Unit {0}) (λ v s at h other can j. tt) released_rests w s at other tt
      g)

  release_rests : (w : State) (s : WaiterFate) (at : UnlockAt) → Alone w (releasing s at) → RestsIn 13 w
  release_rests w s unlock.Subtract g = subtracts (λ v o. EndsOrSleeps o) (λ v. Unit {0})
      (λ v s at h other can j. tt) released_rests w s g tt
  release_rests w s unlock.Enter g = after_subtract w s unlock.Enter (λ e. cc) g
  release_rests w s unlock.Take g = after_subtract w s unlock.Take (λ e. cc) g
  release_rests w s (unlock.Clear any) g = after_subtract w s (unlock.Clear any) (λ e. cc) g
  release_rests w s (unlock.Leave any) g = after_subtract w s (unlock.Leave any) (λ e. cc) g

  leaves_mutex : (w : State) (none_left : Bool) → Alone w (wait.GiveUpMoved none_left) → RestsIn 9 w
  leaves_mutex w none_left g = goes w (wait.GiveUpMoved none_left) g (λ v o. EndsOrSleeps o) 8 refl refl
      (λ h. inr (refl, relocks_first (after w (go_of t)) false false h))

  gives_up : (w : State) → Alone w wait.GiveUp → RestsIn 9 w
  gives_up w g = goes w wait.GiveUp g (λ v o. EndsOrSleeps o) 8 refl refl
      (λ h. inr (refl, relocks_first (after w (go_of t)) true false h))

  hides : (w : State) → Alone w wait.Hide → RestsIn 10 w
  hides w g = goes w wait.Hide g (λ v o. EndsOrSleeps o) 9 refl refl
      (λ h. inr (refl, gives_up (after w (go_of t)) h))

  removes : (w : State) → Alone w wait.Remove → RestsIn 11 w
  removes w g = goes w wait.Remove g (λ v o. EndsOrSleeps o) 10 refl refl
      (left (length (without t (queue_at w (2 * l))) == 0))
    where
      left : (none_left : Bool) → Left w wait.Remove g (λ v o. EndsOrSleeps o) 10 (Removed none_left)
      left true = λ h. inr (refl, hides (after w (go_of t)) h)
      left false = λ h. inr (
        refl,
        leads_more 9 10 (after w (go_of t)) t (λ v o. EndsOrSleeps o) (omega arith)
            (gives_up (after w (go_of t)) h),
      )

  goes_out : (w : State) → Alone w wait.Leave → RestsIn 14 w
  goes_out w g = goes w wait.Leave g (λ v o. EndsOrSleeps o) 13 refl refl
      (λ h. inr (refl, release_rests (after w (go_of t)) stands.Listed unlock.Subtract h))

  stands_last : (w : State) → Alone w wait.Stand → RestsIn 15 w
  stands_last w g = goes w wait.Stand g (λ v o. EndsOrSleeps o) 14 refl refl
      (λ h. inr (refl, goes_out (after w (go_of t)) h))

  refuses : (w : State) → Alone w wait.Refuse → RestsIn 1 w
  refuses w g = goes w wait.Refuse g (λ v o. EndsOrSleeps o) 0 refl refl tt

  shows : (w : State) → Alone w wait.Show → RestsIn 16 w
  shows w g = goes w wait.Show g (λ v o. EndsOrSleeps o) 15 refl refl (seen (word_at w l))
    where
      seen : (v : ℕ) → Left w wait.Show g (λ v o. EndsOrSleeps o) 15 (Value v)
      seen v = either ((v == 0) || is_shown v m)
        where
          either : (b : Bool)
              → Afterwards t l m keeps w (Wait m timed wait.Show) g (λ v o. EndsOrSleeps o) 15
              (in_wait m timed (if b then next.At wait.Stand else next.At wait.Refuse))
          either true = λ h. inr (refl, stands_last (after w (go_of t)) h)
          either false = λ h. inr (
            refl,
            leads_more 1 15 (after w (go_of t)) t (λ v o. EndsOrSleeps o) (omega arith)
                (refuses (after w (go_of t)) h),
          )

  -- the thread enters the section, or is barred
  pub into_section : (w : State) (g : Alone w wait.Enter) (P : State → Outcome → Type 0)
      → (can_do w (wait_act l m wait.Enter) ≡ true → Leads 17 w t P) → Leads 17 w t P
  into_section w g P on = elim (free_here t l m keeps w (Wait m timed wait.Enter) g refl refl) [
    | inl free ↦ on (ap is_none free)
    | inr barred ↦ leads_barred w t P 17 barred
  ]

  -- from any place where it is awake
  pub wait_rests : (w : State) (at : WaitAt) → IsReached (Wait m timed at) → wait_act l m at ≢ act.Sleep
      → Alone w at
      → RestsIn 17 w
  wait_rests w wait.Enter reached up g = into_section w g (λ v o. EndsOrSleeps o)
      (λ can. goes w wait.Enter g (λ v o. EndsOrSleeps o) 16 refl can (λ h. inr (refl, shows (after w (go_of t)) h)))
  wait_rests w wait.Show reached up g = leads_more 16 17 w t (λ v o. EndsOrSleeps o) (omega arith) (shows w g)
  wait_rests w wait.Stand reached up g = leads_more 15 17 w t (λ v o. EndsOrSleeps o) (omega arith) (stands_last w g)
  wait_rests w wait.Leave reached up g = leads_more 14 17 w t (λ v o. EndsOrSleeps o) (omega arith) (goes_out w g)
  wait_rests w wait.Refuse reached up g = leads_more 1 17 w t (λ v o. EndsOrSleeps o) (omega arith) (refuses w g)
  wait_rests w (wait.Release s (mutex.Unlock at)) reached up g = leads_more 13 17 w t (λ v o. EndsOrSleeps o)
      (omega arith) (release_rests w s at g)
  wait_rests w (wait.Release s a) reached up g = absurd reached.0
  wait_rests w (wait.Asleep s) reached up g = absurd (up refl)
  wait_rests w wait.Remove reached up g = leads_more 11 17 w t (λ v o. EndsOrSleeps o) (omega arith) (removes w g)
  wait_rests w wait.Hide reached up g = leads_more 10 17 w t (λ v o. EndsOrSleeps o) (omega arith) (hides w g)
  wait_rests w wait.GiveUp reached up g = leads_more 9 17 w t (λ v o. EndsOrSleeps o) (omega arith) (gives_up w g)
  wait_rests w wait.RemoveMoved reached up g = leads_more 10 17 w t (λ v o. EndsOrSleeps o) (omega arith)
      (goes w wait.RemoveMoved g (λ v o. EndsOrSleeps o) 9 refl refl
      (λ h. inr (refl, leaves_mutex (after w (go_of t)) (length (without t (queue_at w (2 * m))) == 0) h)))
  wait_rests w (wait.GiveUpMoved none_left) reached up g = leads_more 9 17 w t (λ v o. EndsOrSleeps o) (omega arith)
      (leaves_mutex w none_left g)
  wait_rests w (wait.Lock late (mutex.Lock entry.Lock again a)) reached up g =
      leads_more 8 17 w t (λ v o. EndsOrSleeps o) (omega arith) (relock_rests t l m keeps timed late w again a
      reached.1 up g)
  wait_rests w (wait.Lock late a) reached up g = absurd reached.1
