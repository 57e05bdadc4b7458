-- A notification from its beginning, whose thread steps alone: it moves the first, or all, where a mutex is
-- shown.
use Rattle.lot_laws.proofs.Imports
use Imports.{ℕ, Bool, true, false, Option, Some, None, if◌then◌else◌, ◌==◌, ◌≡◌, ◌*◌, ◌≢◌, ◌+◌, List, [], ◌∷◌}
use Imports.{is_none, inr, refl, sym, ◌∙◌, ap, subst, arith, get_or-set_same, nat_tests, Outcome, Look, Notify}
use Imports.{word_showing, is_shown, look_next, mutex_shown, notified, shown_as, IsAsInside, IsSettledAt}
use Imports.{Queued, State, after, go_of, section_at, unlocked, word_at, lock_state, condvar_of, NotifiesAlone}
use Imports.{EndsOrSleeps}
use Rattle.spec_locks.specs.declared.kinds.Kind.TheVariants as kind
use Rattle.spec_locks.specs.declared.outcomes.Outcome.TheVariants as outcome
use Rattle.steps_base.specs.declared.acts.Next.TheVariants as next
use Rattle.steps_condvar.specs.declared.notify.NotifyAt.TheVariants as notify
use Rattle.lot_alone.proofs.Condvar.{Afterwards, GoesAlone, Keeps, leads_afterwards, lock_there}
use Rattle.lot_alone.proofs.Condvar.{queue_then}
use Rattle.lot_alone.proofs.Condvar.{so_then}
use Rattle.lot_laws.proofs.condvar.Replies.{fits_here, free_inside, word_is}
use Rattle.lot_alone.proofs.Leads.{Leads, leads_more, leads_so}
use Rattle.lot_alone.proofs.Notify.{Ends, enters_seeing, left_then, moved_number}

shown_one : (m : ℕ) → (shown_as m == 0) ≡ false
shown_one m = grind (arith, nat_tests)

pub shown_again : (m : ℕ) → mutex_shown (shown_as m) ≡ m
shown_again m = omega arith

shows_itself : (m : ℕ) → is_shown (shown_as m) m ≡ true
shows_itself m = grind (arith, nat_tests)

module _ (t l m : ℕ) (keeps : Keeps t) (w : State) (all : Bool) (g : GoesAlone w t l m (Look all)) where
  looks : (P : State → Outcome → Type 0) (k : ℕ) → Afterwards t l m keeps w (Look all) g P k
      (look_next all (word_at w l))
      → Leads (k + 1) w t P
  looks P k left = leads_afterwards t l m keeps w (Look all) g refl P k (Look all) g.place left

  -- nothing is shown
  pub finds_none : word_at w l ≡ 0 → Leads 1 w t (Ends t l m keeps all 0 (lock_state w l).queue)
  finds_none e = looks (Ends t l m keeps all 0 (lock_state w l).queue) 0
      (subst (λ v. Afterwards t l m keeps w (Look all) g (Ends t l m keeps all 0 (lock_state w l).queue) 0
      (look_next all v)) (sym e)
      (refl, queue_then t l m keeps w (Look all) g refl))

  -- the mutex is the one that is shown
  module _ (shown : word_at w l ≡ shown_as m) where
    abbrev Moves : State → Outcome → Type 0
    Moves = Ends t l m keeps all (moved_number all (lock_state w l).queue)
        (left_then all (lock_state w l).queue)

    word_then : word_at (after w (go_of t)) l ≡ shown_as m
    word_then = so_then t l m keeps w (Look all) g refl (λ s. word_at s l) (λ q. refl)
        ∙ ap (λ y. y.word) (get_or-set_same w.locks l _ (unlocked kind.Mutex)
        (lock_there t l m keeps w (Look all) g)) ∙ shown

    seen : (b : Bool) (k : ℕ) → b ≡ false → k ≡ m
        → Afterwards t l m keeps w (Look all) g Moves 8 (if b then next.End (notified all 0) else next.At
        (Notify all k notify.Enter))
    seen true k e f = absurd cc
    seen false k e f = λ h. inr (
      refl,
      enters_seeing t l m keeps (after w (go_of t)) all (lock_state w l).queue
          (ap (λ v. is_shown v m) word_then ∙ shows_itself m) (queue_then t l m keeps w (Look all) g refl)
          (subst (λ j. GoesAlone (after w (go_of t)) t l m (Notify all j notify.Enter)) f h),
    )

    pub finds_some : Leads 9 w t Moves
    finds_some = looks Moves 8 (subst (λ v. Afterwards t l m keeps w (Look all) g Moves 8 (look_next all v))
        (sym shown) (seen (shown_as m == 0) (mutex_shown (shown_as m)) (shown_one m) (shown_again m)))

  -- ---------------------------------------------------------------- the law

  -- a condition variable is settled, where nobody is inside its section
  settled : section_at w (2 * l) ≡ None → IsSettledAt (lock_state w l).shown (condvar_of w l)
  settled free = subst (IsAsInside (condvar_of w l)) (free_inside w t l (Look all) g.world.inductive g.place
      (ap is_none free))
      (g.world.condvars l (fits_here w t l (Look all) g.world.inductive g.place).sort).inside

  -- the word that is shown
  shows : (o : Option ℕ) → (lock_state w l).shown ≡ o → word_at w l ≡ word_showing o
  shows o e = word_is w t l (Look all) g.world.inductive g.place ∙ ap word_showing e

  none_moved : (v : State) (o : Outcome) (q : List Queued) → q ≡ [] → Ends t l m keeps all 0 q v o
      → NotifiesAlone all q o (lock_state v l).queue
  none_moved v o q e h = by_all all (h.0) (h.1 ∙ e) e
    where
      by_all : (b : Bool) → o ≡ outcome.End (notified b 0) → (lock_state v l).queue ≡ [] → q ≡ []
          → NotifiesAlone b q o (lock_state v l).queue
      by_all true is left e = rw e (is, left)
      by_all false is left e = rw e is

  some_moved : (v : State) (o : Outcome) (b : Bool) (q : List Queued) → q ≢ []
      → Ends t l m keeps b (moved_number b q) (left_then b q) v o → NotifiesAlone b q o (lock_state v l).queue
  some_moved v o true q some h = h
  some_moved v o false [] some h = absurd (some refl)
  some_moved v o false (x ∷ q) some h = h

  -- where no mutex is shown, or this one
  pub notifies_alone : section_at w (2 * l) ≡ None → (o : Option ℕ) → (lock_state w l).shown ≡ o
      → (o ≢ None → o ≡ Some m)
      → Leads 9 w t (λ v x. NotifiesAlone all (lock_state w l).queue x (lock_state v l).queue)
  notifies_alone free None e of = leads_more 1 9 w t (λ v x. NotifiesAlone all (lock_state w l).queue x
      (lock_state v l).queue) (omega arith) (leads_so 1 w t (Ends t l m keeps all 0 (lock_state w l).queue)
      (λ v x. NotifiesAlone all (lock_state w l).queue x (lock_state v l).queue)
      (λ v x h. none_moved v x (lock_state w l).queue (subst (λ s. IsSettledAt s (condvar_of w l)) e
      (settled free)) h) (finds_none (shows None e)))
  notifies_alone free (Some k) e of =
      leads_so 9 w t (Ends t l m keeps all (moved_number all (lock_state w l).queue)
      (left_then all (lock_state w l).queue)) (λ v x. NotifiesAlone all (lock_state w l).queue x
      (lock_state v l).queue)
      (λ v x h. some_moved v x all (lock_state w l).queue (subst (λ s. IsSettledAt s (condvar_of w l)) e
      (settled free)).0 h)
      (finds_some (shows (Some k) e ∙ ap word_showing (of (λ f. cc))))

  pub look_rests : (o : Option ℕ) → (lock_state w l).shown ≡ o → (o ≢ None → o ≡ Some m)
      → Leads 9 w t (λ v x. EndsOrSleeps x)
  look_rests None e of = leads_more 1 9 w t (λ v x. EndsOrSleeps x) (omega arith)
      (leads_so 1 w t (Ends t l m keeps all 0 (lock_state w l).queue) (λ v x. EndsOrSleeps x)
      (λ v x h. subst EndsOrSleeps (sym h.0) tt) (finds_none (shows None e)))
  look_rests (Some k) e of = leads_so 9 w t (Ends t l m keeps all (moved_number all (lock_state w l).queue)
      (left_then all (lock_state w l).queue)) (λ v x. EndsOrSleeps x) (λ v x h. subst EndsOrSleeps (sym h.0) tt)
      (finds_some (shows (Some k) e ∙ ap word_showing (of (λ f. cc))))
