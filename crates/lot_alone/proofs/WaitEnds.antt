-- A wait from its beginning, whose thread steps alone: it ends where another mutex is shown, and else sleeps
-- as the last, its mutex let go.
use Rattle.lot_laws.proofs.Imports
use Imports.{ℕ, Bool, true, false, Option, Some, None, if◌then◌else◌, ◌==◌, ◌||◌, ◌≡◌, ◌≢◌, ◌⊎◌, ◌*◌, ◌≤◌, ◌<◌}
use Imports.{List, [], ◌∷◌, ◌++◌, length, inl, inr, refl, sym, ◌∙◌, ap, subst, arith, get_or-set_same}
use Imports.{nat_tests, first_of, Outcome, outcome_of, UnlockAt, unlock_act, Wait, WaiterFate, WaitAt, IsListed}
use Imports.{after_condvar_deeds, condvar_deeds, word_showing, wait_row, past_release, in_wait, is_shown}
use Imports.{shown_as, wait_act, Condvar, SeeOther, Show, Queued, State, after, can_do, go_of, queue_at}
use Imports.{queues_without_first, reply_to, state_after_act, state_after_taking, unlocked, word_at, lock_state}
use Imports.{locks_of, owner_at, condvar_of, CondvarWaitsAlone}
use Rattle.core_base.specs.declared.notes.Note.TheVariants as note
use Rattle.core_base.specs.declared.wants.Want.TheVariants.{Wait as WaitHere}
use Rattle.spec_locks.specs.declared.kinds.Kind.TheVariants as kind
use Rattle.spec_locks.specs.declared.outcomes.Answer.TheVariants as answer
use Rattle.spec_locks.specs.declared.outcomes.Outcome.TheVariants as outcome
use Rattle.steps_base.specs.declared.acts.Next.TheVariants as next
use Rattle.steps_mutex.specs.declared.unlock.UnlockAt.TheVariants as unlock
use Rattle.steps_condvar.specs.declared.wait.WaiterFate.TheVariants as stands
use Rattle.steps_condvar.specs.declared.wait.WaitAt.TheVariants as wait
use Rattle.spec_locks.specs.Locks.{times}
use Rattle.lot_alone.proofs.Condvar.{Afterwards, GoesAlone, Keeps, mutex_there, queue_then, so_then}
use Rattle.lot_laws.proofs.condvar.Replies.{at_it, word_is}
use Rattle.lot_alone.proofs.Leads.{Leads, leads_more, leads_so}
use Rattle.lot_alone.proofs.Wait.{goes, into_section, releasing, subtracts}

module _ (t l m : ℕ) (keeps : Keeps t) (timed : Bool) where
  abbrev Alone : State → WaitAt → Type 0
  Alone w at = GoesAlone w t l m (Wait m timed at)

  queue_is : (w : State) (at : WaitAt) (g : Alone w at) (can : can_do w (wait_act l m at) ≡ true)
      (q : List Queued)
      → (after_condvar_deeds (condvar_deeds (Wait m timed at) (reply_to w t (wait_act l m at)))
      (condvar_of w l) t).waiters ≡ q
      → (lock_state (after w (go_of t)) l).queue ≡ q
  queue_is w at g can q e = queue_then t l m keeps w (Wait m timed at) g can ∙ e

  -- ---------------------------------------------------------------- from where it stands after the last

  module _ (q : List Queued) where
    -- threads wait, and nobody owns the mutex
    abbrev LetGo : State → Type 0
    LetGo v = ((lock_state v l).queue ≡ q) × (owner_at v m ≡ None)

    abbrev Sleeps : State → Outcome → Type 0
    Sleeps v o = (o ≡ outcome.Sleep) × LetGo v

    module _ (w : State) (s : WaiterFate) (at : UnlockAt) (g : Alone w (releasing t l m keeps timed s at))
        (can : can_do w (unlock_act m at) ≡ true) where
      abbrev acted : State
      acted = state_after_act w t (Condvar l (Wait m timed (releasing t l m keeps timed s at)))
          (unlock_act m at)

      owner_then : owner_at acted m ≡ None → owner_at (after w (go_of t)) m ≡ None
      owner_then e = so_then t l m keeps w (Wait m timed (releasing t l m keeps timed s at)) g can
          (λ s. owner_at s m) (λ q. refl) ∙ e

    there : (w : State) (s : WaiterFate) (at : UnlockAt) → Alone w (releasing t l m keeps timed s at)
        → m < length w.locks
    there w s at g = mutex_there t l m keeps w (Wait m timed (releasing t l m keeps timed s at)) g refl

    owner_kept : (w : State) (s : WaiterFate) (at : UnlockAt) → Alone w (releasing t l m keeps timed s at)
        → at ≢ unlock.Subtract
        → owner_at w m ≡ None
        → owner_at (state_after_act w t (Condvar l (Wait m timed (releasing t l m keeps timed s at)))
        (unlock_act m at)) m ≡ None
    owner_kept w s unlock.Subtract g other free = absurd (other refl)
    owner_kept w s unlock.Enter g other free = free
    owner_kept w s unlock.Take g other free = by_first (first_of (queue_at w (2 * m)))
      where
        by_first : (o : Option ℕ) → owner_at
            (state_after_taking (record w { queues = queues_without_first w.queues (2 * m) }) t o) m ≡ None
        by_first None = free
        by_first (Some u) = free
    owner_kept w s (unlock.Clear any) g other free = ap (λ y. y.owners.exclusive)
        (get_or-set_same w.locks m _ (unlocked kind.Mutex) (there w s (unlock.Clear any) g)) ∙ free
    owner_kept w s (unlock.Leave true) g other free = free
    owner_kept w s (unlock.Leave false) g other free = free

    kept : (w : State) (s : WaiterFate) (at : UnlockAt) → Alone w (releasing t l m keeps timed s at)
        → at ≢ unlock.Subtract
        → can_do w (unlock_act m at) ≡ true → LetGo w → LetGo (after w (go_of t))
    kept w s at g other can j = (
      queue_is w (releasing t l m keeps timed s at) g can q j.0,
      owner_then w s at g can (owner_kept w s at g other j.1),
    )

    -- the thread stands in that queue
    module _ (last : 1 ≤ times t q) where
      listed : (v : State) (at : WaitAt) → Alone v at → LetGo v → (wait_row m at).listed ≡ false → ⊥
      listed v at g j none = let here : times t (lock_state v l).queue ≡ 0 =
          subst (IsListed (condvar_of v l) t) none (at_it v t l (Wait m timed at) g.world.inductive
          g.place).listed in
          let same : times t (lock_state v l).queue ≡ times t q = ap (times t) j.0 in omega arith

      finish : (v : State) (s : WaiterFate) → LetGo v → Alone v (past_release s)
          → ((outcome_of (wait_act l m (past_release s)) ≡ outcome.Sleep) × Sleeps v outcome.Sleep)
          ⊎ ((outcome_of (wait_act l m (past_release s)) ≡ outcome.Step) × Leads 8 v t Sleeps)
      finish v (stands.Noted note.Normal) j g =
          absurd (listed v (past_release (stands.Noted note.Normal)) g j refl)
      finish v (stands.Noted note.HandOff) j g =
          absurd (listed v (past_release (stands.Noted note.HandOff)) g j refl)
      finish v stands.Listed j g = inl (refl, (refl, j))
      finish v stands.Moved j g = inl (refl, (refl, j))
      finish v (stands.InHand by) j g = inl (refl, (refl, j))
      finish v (stands.Handed by) j g = inl (refl, (refl, j))

      lets_go : (w : State) → (lock_state w l).queue ≡ q
          → Alone w (releasing t l m keeps timed stands.Listed unlock.Subtract)
          → Leads 13 w t Sleeps
      lets_go w e g = subtracts t l m keeps timed Sleeps LetGo kept finish w stands.Listed g (
        queue_is w (releasing t l m keeps timed stands.Listed unlock.Subtract) g refl q e,
        owner_then w stands.Listed unlock.Subtract g refl
            (ap (λ y. y.owners.exclusive) (get_or-set_same w.locks m _ (unlocked kind.Mutex)
            (there w stands.Listed unlock.Subtract g))),
      )

  goes_out : (q : List Queued) (w : State) → (lock_state w l).queue ≡ q → Alone w wait.Leave
      → Leads 14 w t (Sleeps q)
  goes_out q w e g = goes t l m keeps timed w wait.Leave g (Sleeps q) 13 refl refl
      (λ h. inr (refl, lets_go q last (after w (go_of t)) (queue_is w wait.Leave g refl q e) h))
    where
      last : 1 ≤ times t q
      last = let here : times t (lock_state w l).queue ≡ 1 =
          (at_it w t l (Wait m timed wait.Leave) g.world.inductive g.place).listed in
          let same : times t (lock_state w l).queue ≡ times t q = ap (times t) e in omega arith

  -- ---------------------------------------------------------------- from its beginning

  -- the thread stands after the last
  abbrev after_last : List Queued → List Queued
  after_last q = q ++ (record { thread = t; want = WaitHere }) ∷ []

  stands_last : (q : List Queued) (w : State) → (lock_state w l).queue ≡ q → Alone w wait.Stand
      → Leads 15 w t (Sleeps (after_last q))
  stands_last q w e g = goes t l m keeps timed w wait.Stand g (Sleeps (after_last q)) 14 refl refl
      (λ h. inr (
        refl,
        goes_out (after_last q) (after w (go_of t)) (queue_is w wait.Stand g refl
            (after_last q) (ap after_last e)) h,
      ))

  abbrev Refused : State → Outcome → Type 0
  Refused v o = o ≡ outcome.End answer.TwoMutexes

  refuses : (w : State) → Alone w wait.Refuse → Leads 1 w t Refused
  refuses w g = goes t l m keeps timed w wait.Refuse g Refused 0 refl refl refl

  -- whether it may show its mutex, by the word
  abbrev may_show : ℕ → Bool
  may_show v = (v == 0) || is_shown v m

  module _ (w : State) (g : Alone w wait.Show) where
    -- tells what it does after its look
    abbrev Shown : (State → Outcome → Type 0) → Bool → Type 0
    Shown P b = Afterwards t l m keeps w (Wait m timed wait.Show) g P 15
        (in_wait m timed (if b then next.At wait.Stand else next.At wait.Refuse))

    shows_by : (P : State → Outcome → Type 0) (b : Bool) → may_show (word_at w l) ≡ b → Shown P b
        → Leads 16 w t P
    shows_by P b e left = goes t l m keeps timed w wait.Show g P 15 refl refl (subst (Shown P) (sym e) left)

    shows : (q : List Queued) → (lock_state w l).queue ≡ q → may_show (word_at w l) ≡ true
        → Leads 16 w t (Sleeps (after_last q))
    shows q e may = shows_by (Sleeps (after_last q)) true may (λ h. inr (
      refl,
      stands_last q (after w (go_of t))
          (queue_is w wait.Show g refl q
          (ap (λ b. (after_condvar_deeds (if b then Show m ∷ [] else SeeOther m ∷ []) (condvar_of w l)
          t).waiters) may ∙ e)) h,
    ))

    sees_other : may_show (word_at w l) ≡ false → Leads 16 w t Refused
    sees_other none = shows_by Refused false none
        (λ h. inr (
          refl,
          leads_more 1 15 (after w (go_of t)) t Refused (omega arith)
              (refuses (after w (go_of t)) h),
        ))

  other_one : (k : ℕ) → k ≢ m → may_show (shown_as k) ≡ false
  other_one k ne = grind (arith, nat_tests)

  refused_one : (k : ℕ) → k ≡ m → may_show (shown_as k) ≡ false → ⊥
  refused_one k same e = grind (arith, nat_tests)

  refused_by : (o : Option ℕ) → may_show (word_showing o) ≡ false → (o ≢ None) × (o ≢ Some m)
  refused_by None e = absurd cc
  refused_by (Some k) e = ((λ f. cc), λ f. refused_one k (let g : k ≡ m = cc in g) e)

  shows_other : (o : Option ℕ) → (o ≢ None) × (o ≢ Some m) → may_show (word_showing o) ≡ false
  shows_other None h = absurd (h.0 refl)
  shows_other (Some k) h = other_one k (λ e. h.1 (ap Some e))

  module _ (w : State) (g : Alone w wait.Enter) where
    abbrev shown : Option ℕ
    shown = (lock_state w l).shown

    -- inside it finds the condition variable as it was
    same_word : can_do w (wait_act l m wait.Enter) ≡ true → word_at (after w (go_of t)) l ≡ word_showing shown
    same_word can = so_then t l m keeps w (Wait m timed wait.Enter) g can (λ s. word_at s l) (λ q. refl)
        ∙ word_is w t l (Wait m timed wait.Enter) g.world.inductive g.place

    enters : (P : State → Outcome → Type 0)
        → (can_do w (wait_act l m wait.Enter) ≡ true → Alone (after w (go_of t)) wait.Show
        → Leads 16 (after w (go_of t)) t P)
        → Leads 17 w t P
    enters P on = into_section t l m keeps timed w g P (λ can. goes t l m keeps timed w wait.Enter g P 16 refl
        can (λ h. inr (refl, on can h)))

    -- tells what it comes to
    pub wait_alone : Leads 17 w t (λ v o. CondvarWaitsAlone (locks_of w) t l m o (locks_of v))
    wait_alone = either (may_show (word_showing shown)) refl
      where
        either : (b : Bool) → may_show (word_showing shown) ≡ b
            → Leads 17 w t (λ v o. CondvarWaitsAlone (locks_of w) t l m o (locks_of v))
        either true e = enters (λ v o. CondvarWaitsAlone (locks_of w) t l m o (locks_of v))
            (λ can h. leads_so 16 (after w (go_of t)) t (Sleeps (after_last (lock_state w l).queue))
            (λ v o. CondvarWaitsAlone (locks_of w) t l m o (locks_of v))
            (λ v o x. record {
              other = λ other. absurd (let no : may_show (word_showing shown) ≡ false =
                  shows_other shown other in cc);
              own = λ own. ((x.0, x.1.0), x.1.1);
            })
            (shows (after w (go_of t)) h (lock_state w l).queue (queue_is w wait.Enter g can
            (lock_state w l).queue refl) (ap may_show (same_word can) ∙ e)))
        either false e = enters (λ v o. CondvarWaitsAlone (locks_of w) t l m o (locks_of v))
            (λ can h. leads_so 16 (after w (go_of t)) t Refused (λ v o. CondvarWaitsAlone (locks_of w) t l m o
            (locks_of v))
            (λ v o x. record { other = λ other. x; own = λ own. absurd (own (refused_by shown e)) })
            (sees_other (after w (go_of t)) h (ap may_show (same_word can) ∙ e)))
