-- A notification whose thread steps alone: from each place it ends, and has moved the first, or all, or
-- nobody where its mutex is not shown.
use Rattle.lot_laws.proofs.Imports
use Imports.{ℕ, Bool, true, false, if◌then◌else◌, ◌==◌, ◌&&◌, ◌≡◌, ◌+◌, ◌*◌, ◌≤◌, List, [], ◌∷◌, drop, length}
use Imports.{nat_lt, not, inl, inr, refl, sym, ◌∙◌, ap, subst, arith, Op, apply, first_of, Outcome, Reply}
use Imports.{Requeued, outcome_of, is_locked, NotifyAt, Notify, MayReply, after_condvar_deeds, condvar_deeds}
use Imports.{condvar_next, is_shown, marks, move_act, moved_one, notified, notify_act, Condvar, SeeAgain}
use Imports.{MissIt, Queued, State, after, can_do, go_of, is_there, place_at, queue_at, reply_to}
use Imports.{state_after_act, word_at, lock_state, condvar_of, EndsOrSleeps}
use Rattle.core_base.specs.declared.ops.Op.TheVariants as op
use Rattle.spec_locks.specs.declared.outcomes.Outcome.TheVariants as outcome
use Rattle.steps_base.specs.declared.acts.Act.TheVariants as act
use Rattle.steps_base.specs.declared.acts.Next.TheVariants as next
use Rattle.steps_condvar.specs.declared.notify.NotifyAt.TheVariants as notify
use Rattle.lot_alone.proofs.Condvar.{Afterwards, GoesAlone, Keeps, free_beside, free_here, hears}
use Rattle.lot_alone.proofs.Condvar.{leads_afterwards, queue_then, reached, so_then, word_then}
use Rattle.lot_laws.proofs.condvar.OwnStand.{notifier_still}
use Rattle.lot_laws.proofs.machine.Parts.{same}
use Rattle.lot_alone.proofs.Leads.{leads_barred, Leads, leads_more, leads_so}

-- how many it moves of those that wait, and the waiters that are left
abbrev pub moved_number : Bool → List Queued → ℕ
moved_number all q = if all then length q else 1

abbrev pub left_then : Bool → List Queued → List Queued
left_then all q = if all then [] else drop 1 q

module _ (t l m : ℕ) (keeps : Keeps t) where
  abbrev Alone : State → Bool → NotifyAt → Type 0
  Alone w all at = GoesAlone w t l m (Notify all m at)

  -- the thread ends with so many, and these are left
  abbrev pub Ends : Bool → ℕ → List Queued → State → Outcome → Type 0
  Ends all number q v o = (o ≡ outcome.End (notified all number)) × ((lock_state v l).queue ≡ q)

  module _ (w : State) (all : Bool) (at : NotifyAt) (g : Alone w all at) where
    -- tells what is left to do after this reply
    abbrev Left : (State → Outcome → Type 0) → ℕ → Reply → Type 0
    Left P k r = Afterwards t l m keeps w (Notify all m at) g P k (condvar_next (Notify all m at) r)

    stays : place_at (state_after_act w t (Condvar l (Notify all m at)) (notify_act all l m at)) t
        ≡ Condvar l (Notify all m at)
    stays = notifier_still w t l m all at g.place (reached t l m keeps w (Notify all m at) g) g.thread

    goes : (P : State → Outcome → Type 0) (k : ℕ) → can_do w (notify_act all l m at) ≡ true
        → Left P k (reply_to w t (notify_act all l m at)) → Leads (k + 1) w t P
    goes P k can left = leads_afterwards t l m keeps w (Notify all m at) g can P k (Notify all m at) stays
        left

    queue_is : (can : can_do w (notify_act all l m at) ≡ true)
        → (lock_state (after w (go_of t)) l).queue
        ≡ (after_condvar_deeds (condvar_deeds (Notify all m at) (reply_to w t (notify_act all l m at)))
        (condvar_of w l) t).waiters
    queue_is can = queue_then t l m keeps w (Notify all m at) g can

  move_steps : (all locked : Bool) → outcome_of (move_act all locked l m) ≡ outcome.Step
  move_steps true locked = refl
  move_steps false true = refl
  move_steps false false = refl

  -- ---------------------------------------------------------------- after its move

  leaves : (w : State) (all any : Bool) (number : ℕ) (q : List Queued) → (lock_state w l).queue ≡ q
      → Alone w all (notify.Leave any number) → Leads 1 w t (Ends all number q)
  leaves w all any number q e g = goes w all (notify.Leave any number) g (Ends all number q) 0 refl (
    refl,
    queue_is w all (notify.Leave any number) g refl ∙ e,
  )

  clears : (w : State) (all any : Bool) (q : List Queued) → (lock_state w l).queue ≡ q
      → Alone w all (notify.Clear any)
      → Leads 2 w t (Ends all 1 q)
  clears w all any q e g = goes w all (notify.Clear any) g (Ends all 1 q) 1 refl
      (λ h. inr (
        refl,
        leaves (after w (go_of t)) all any 1 q (queue_is w all (notify.Clear any) g refl ∙ e)
            h,
      ))

  sets_bit : (w : State) (all : Bool) (number : ℕ) (q : List Queued) → (lock_state w l).queue ≡ q
      → Alone w all (notify.MarkMoved number) → Leads 2 w t (Ends all number q)
  sets_bit w all number q e g = goes w all (notify.MarkMoved number) g (Ends all number q) 1 refl
      (λ h. inr (
        refl,
        leaves (after w (go_of t)) all true number q (queue_is w all (notify.MarkMoved number)
            g refl ∙ e) h,
      ))

  -- ---------------------------------------------------------------- the move

  -- the first is moved or taken
  module _ (w : State) (locked : Bool) (q : List Queued) (g : Alone w false (notify.Move locked))
      (left : (lock_state (after w (go_of t)) l).queue ≡ q) where
    one_after : (any none_left : Bool)
        → Afterwards t l m keeps w (Notify false m (notify.Move locked)) g (Ends false 1 q) 2
        (next.At (Notify false m (moved_one any none_left)))
    one_after any true h = inr (refl, clears (after w (go_of t)) false any q left h)
    one_after any false h = inr (
      refl,
      leads_more 1 2 (after w (go_of t)) t (Ends false 1 q) (omega arith)
          (leaves (after w (go_of t)) false any 1 q left h),
    )

  -- A notification of all moves each waiter.
  module _ (w : State) (locked : Bool) (number : ℕ) (q : List Queued) (g : Alone w true (notify.Move locked))
      (left : (lock_state (after w (go_of t)) l).queue ≡ q) where
    all_after : (some : Bool)
        → Afterwards t l m keeps w (Notify true m (notify.Move locked)) g (Ends true number q) 2
        (next.At (Notify true m (if some then notify.MarkMoved number else notify.Leave (not locked) number)))
    all_after true h = inr (refl, sets_bit (after w (go_of t)) true number q left h)
    all_after false h = inr (
      refl,
      leads_more 1 2 (after w (go_of t)) t (Ends true number q) (omega arith)
          (leaves (after w (go_of t)) true (not locked) number q left h),
    )

  moves : (w : State) (all locked : Bool) (q : List Queued) → (lock_state w l).queue ≡ q
      → Alone w all (notify.Move locked)
      → Leads 3 w t (Ends all (moved_number all q) (left_then all q))
  moves w false false q e g = goes w false (notify.Move false) g (Ends false 1 (drop 1 q)) 2 refl
      (one_after w false (drop 1 q) g (queue_is w false (notify.Move false) g refl ∙ ap (drop 1) e)
      (is_there (first_of (queue_at w (2 * l)))) (length (drop 1 (queue_at w (2 * l))) == 0))
  moves w false true q e g = goes w false (notify.Move true) g (Ends false 1 (drop 1 q)) 2 refl
      (one_after w true (drop 1 q) g (queue_is w false (notify.Move true) g refl ∙ ap (drop 1) e) false
      (length (drop 1 (queue_at w (2 * l))) == 0))
  moves w true locked q e g = all_move locked g
    where
      number_is : (locked : Bool) → Alone w true (notify.Move locked) → (number : ℕ) (none_left : Bool)
          → reply_to w t (notify_act true l m (notify.Move locked)) ≡ Requeued number none_left
          → number ≡ length q
      number_is locked g number none_left told =
          subst (λ r. MayReply (condvar_of w l) t (Notify true m (notify.Move locked)) r) told
          (hears t l m keeps w (Notify true m (notify.Move locked)) g refl) ∙ ap length e

      afterwards : (locked : Bool) (g : Alone w true (notify.Move locked)) (number : ℕ) → number ≡ length q
          → (lock_state (after w (go_of t)) l).queue ≡ []
          → Left w true (notify.Move locked) g (Ends true (length q) []) 2 (Requeued number true)
      afterwards locked g number is left =
          subst (λ n. Left w true (notify.Move locked) g (Ends true (length q) []) 2 (Requeued n true))
          (sym is) (all_after w locked (length q) [] g left (not locked && nat_lt 1 (length q)))

      all_move : (locked : Bool) → Alone w true (notify.Move locked) → Leads 3 w t (Ends true (length q) [])
      all_move false g = goes w true (notify.Move false) g (Ends true (length q) []) 2 refl
          (afterwards false g _ (number_is false g _ true refl) (queue_is w true (notify.Move false) g refl))
      all_move true g = goes w true (notify.Move true) g (Ends true (length q) []) 2 refl
          (afterwards true g _ (number_is true g _ true refl) (queue_is w true (notify.Move true) g refl))

  -- ---------------------------------------------------------------- before it

  module _ (all : Bool) (q : List Queued) where
    abbrev Moves : State → Outcome → Type 0
    Moves = Ends all (moved_number all q) (left_then all q)

    -- the thread exchanges what the word is
    sets_now : (w : State) → (lock_state w l).queue ≡ q → Alone w all (notify.Set (word_at w m))
        → Leads 4 w t Moves
    sets_now w e g = goes w all (notify.Set (word_at w m)) g Moves 3 refl (rw (same (word_at w m))
        (λ h. inr (
          move_steps all true,
          moves (after w (go_of t)) all true q
              (queue_is w all (notify.Set (word_at w m)) g refl ∙ e) h,
        )))

    -- by the word that it has seen
    marked : (w : State) (at : NotifyAt) (g : Alone w all at) (v : ℕ) → word_at (after w (go_of t)) m ≡ v
        → (lock_state (after w (go_of t)) l).queue ≡ q
        → Afterwards t l m keeps w (Notify all m at) g Moves 4 (next.At (Notify all m (marks v)))
    marked w at g v word left = either (is_locked v)
      where
        either : (b : Bool)
            → Afterwards t l m keeps w (Notify all m at) g Moves 4
            (next.At (Notify all m (if b then notify.Set v else notify.Move false)))
        either true h = inr (
          refl,
          sets_now (after w (go_of t)) left
              (subst (λ x. Alone (after w (go_of t)) all (notify.Set x)) (sym word) h),
        )
        either false h = inr (
          move_steps all false,
          leads_more 3 4 (after w (go_of t)) t Moves (omega arith)
              (moves (after w (go_of t)) all false q left h),
        )

    word_of_mutex : (w : State) (at : NotifyAt) (g : Alone w all at) (x : Op) → notify_act all l m at
        ≡ act.Word m x
        → can_do w (notify_act all l m at) ≡ true → word_at (after w (go_of t)) m ≡ apply x (word_at w m)
    word_of_mutex w at g x is can = word_then t l m keeps w (Notify all m at) g can x refl is

    bit_pending : (w : State) (seen : ℕ) → (lock_state w l).queue ≡ q → Alone w all (notify.Set seen)
        → Leads 5 w t Moves
    bit_pending w seen e g = either (word_at w m == seen) refl
      where
        left : (lock_state (after w (go_of t)) l).queue ≡ q
        left = queue_is w all (notify.Set seen) g refl ∙ e

        either : (b : Bool) → (word_at w m == seen) ≡ b → Leads 5 w t Moves
        either true f = goes w all (notify.Set seen) g Moves 4 refl
            (rw f (λ h. inr (
              move_steps all true,
              leads_more 3 4 (after w (go_of t)) t Moves (omega arith)
                  (moves (after w (go_of t)) all true q left h),
            )))
        either false f = goes w all (notify.Set seen) g Moves 4 refl
            (rw f (marked w (notify.Set seen) g (word_at w m) (word_of_mutex w (notify.Set seen) g
            (op.Exchange seen 3) refl refl ∙ ap (λ b. if b then 3 else word_at w m) f) left))

    begins_marking : (w : State) → (lock_state w l).queue ≡ q → Alone w all notify.Mark → Leads 5 w t Moves
    begins_marking w e g = goes w all notify.Mark g Moves 4 refl (marked w notify.Mark g (word_at w m)
        (word_of_mutex w notify.Mark g op.Load refl refl) (queue_is w all notify.Mark g refl ∙ e))

    hides : (w : State) → (lock_state w l).queue ≡ q → Alone w all notify.Hide → Leads 6 w t Moves
    hides w e g = goes w all notify.Hide g Moves 5 refl
        (λ h. inr (refl, begins_marking (after w (go_of t)) (queue_is w all notify.Hide g refl ∙ e) h))

    -- the thread looks again, and sees its mutex
    sees : (w : State) → is_shown (word_at w l) m ≡ true → (lock_state w l).queue ≡ q
        → Alone w all notify.Again
        → Leads 7 w t Moves
    sees w shown e g = goes w all notify.Again g Moves 6 refl (rw shown (either all refl))
      where
        left : (lock_state (after w (go_of t)) l).queue ≡ q
        left = queue_is w all notify.Again g refl
            ∙ ap (λ b. (after_condvar_deeds (if b then SeeAgain m ∷ [] else MissIt m ∷ []) (condvar_of w l)
            t).waiters) shown ∙ e

        either : (b : Bool) → all ≡ b
            → Afterwards t l m keeps w (Notify all m notify.Again) g Moves 6
            (next.At (Notify all m (if b then notify.Hide else notify.Mark)))
        either true f h = inr (refl, hides (after w (go_of t)) left h)
        either false f h = inr (
          refl,
          leads_more 5 6 (after w (go_of t)) t Moves (omega arith)
              (begins_marking (after w (go_of t)) left h),
        )

    -- A notification whose exchange finds another mutex misses.
    misses : (w : State) → is_shown (word_at w l) m ≡ false → (lock_state w l).queue ≡ q
        → Alone w all notify.Again
        → Leads 2 w t (Ends all 0 q)
    misses w shown e g = goes w all notify.Again g (Ends all 0 q) 1 refl
        (rw shown (λ h. inr (refl, leaves (after w (go_of t)) all false 0 q left h)))
      where
        left : (lock_state (after w (go_of t)) l).queue ≡ q
        left = queue_is w all notify.Again g refl
            ∙ ap (λ b. (after_condvar_deeds (if b then SeeAgain m ∷ [] else MissIt m ∷ []) (condvar_of w l)
            t).waiters) shown ∙ e

  -- the thread enters both sections, or is barred
  module _ (w : State) (all : Bool) (g : Alone w all notify.Enter) where
    abbrev BothFree : Type 0
    BothFree = can_do w (notify_act all l m notify.Enter) ≡ true

    -- A notification that misses finds the condition variable as it was.
    same_word : BothFree → word_at (after w (go_of t)) l ≡ word_at w l
    same_word can = so_then t l m keeps w (Notify all m notify.Enter) g can (λ s. word_at s l) (λ x. refl)

    same_queue : BothFree → (lock_state (after w (go_of t)) l).queue ≡ (lock_state w l).queue
    same_queue can = queue_is w all notify.Enter g can

    enters : (P : State → Outcome → Type 0) (k : ℕ)
        → (BothFree → Alone (after w (go_of t)) all notify.Again → Leads k (after w (go_of t)) t P)
        → Leads (k + 1) w t P
    enters P k on = elim (free_here t l m keeps w (Notify all m notify.Enter) g (inl refl) refl) [
      | inl here ↦ elim (free_beside t l m keeps w (Notify all m notify.Enter) g (inr refl) refl refl) [
        | inl beside ↦ let can : BothFree = rw (here, beside) refl in goes w all notify.Enter g P k can
            (λ h. inr (refl, on can h))
        | inr barred ↦ leads_barred w t P (k + 1) barred
      ]
      | inr barred ↦ leads_barred w t P (k + 1) barred
    ]

  pub enters_seeing : (w : State) (all : Bool) (q : List Queued) → is_shown (word_at w l) m ≡ true
      → (lock_state w l).queue ≡ q
      → Alone w all notify.Enter → Leads 8 w t (Ends all (moved_number all q) (left_then all q))
  enters_seeing w all q shown e g = enters w all g (Moves all q) 7 (λ can. sees all q (after w (go_of t))
      (ap (λ v. is_shown v m) (same_word w all g can) ∙ shown) (same_queue w all g can ∙ e))

  -- ---------------------------------------------------------------- from any place

  ends_rest : (k : ℕ) (w : State) (all : Bool) (number : ℕ) (q : List Queued) → k ≤ 8
      → Leads k w t (Ends all number q)
      → Leads 8 w t (λ v o. EndsOrSleeps o)
  ends_rest k w all number q le h = leads_more k 8 w t (λ v o. EndsOrSleeps o) le
      (leads_so k w t (Ends all number q) (λ v o. EndsOrSleeps o) (λ v o e. subst EndsOrSleeps (sym e.0) tt) h)

  again_rests : (w : State) (all : Bool) → Alone w all notify.Again → Leads 7 w t (λ v o. EndsOrSleeps o)
  again_rests w all g = either (is_shown (word_at w l) m) refl
    where
      either : (b : Bool) → is_shown (word_at w l) m ≡ b → Leads 7 w t (λ v o. EndsOrSleeps o)
      either true e = leads_so 7 w t (Ends all (moved_number all (lock_state w l).queue)
          (left_then all (lock_state w l).queue)) (λ v o. EndsOrSleeps o) (λ v o x. subst EndsOrSleeps (sym x.0) tt)
          (sees all (lock_state w l).queue w e refl g)
      either false e = leads_more 2 7 w t (λ v o. EndsOrSleeps o) (omega arith)
          (leads_so 2 w t (Ends all 0 (lock_state w l).queue) (λ v o. EndsOrSleeps o)
          (λ v o x. subst EndsOrSleeps (sym x.0) tt) (misses all (lock_state w l).queue w e refl g))

  pub notify_rests : (w : State) (all : Bool) (at : NotifyAt) → Alone w all at → Leads 8 w t (λ v o. EndsOrSleeps o)
  notify_rests w all notify.Enter g = enters w all g (λ v o. EndsOrSleeps o) 7
      (λ can. again_rests (after w (go_of t)) all)
  notify_rests w all notify.Again g = leads_more 7 8 w t (λ v o. EndsOrSleeps o) (omega arith) (again_rests w all g)
  notify_rests w all notify.Hide g = ends_rest 6 w all _ _ (omega arith) (hides all (lock_state w l).queue w
      refl g)
  notify_rests w all notify.Mark g = ends_rest 5 w all _ _ (omega arith) (begins_marking all
      (lock_state w l).queue w refl g)
  notify_rests w all (notify.Set seen) g = ends_rest 5 w all _ _ (omega arith)
      (bit_pending all (lock_state w l).queue w seen refl g)
  notify_rests w all (notify.Move locked) g = ends_rest 3 w all _ _ (omega arith)
      (moves w all locked (lock_state w l).queue refl g)
  notify_rests w all (notify.Clear any) g = ends_rest 2 w all _ _ (omega arith)
      (clears w all any (lock_state w l).queue refl g)
  notify_rests w all (notify.MarkMoved number) g = ends_rest 2 w all _ _ (omega arith)
      (sets_bit w all number (lock_state w l).queue refl g)
  notify_rests w all (notify.Leave any number) g = ends_rest 1 w all _ _ (omega arith)
      (leaves w all any number (lock_state w l).queue refl g)
