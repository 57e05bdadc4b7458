-- A thread that steps alone and has its way keeps it, and is never barred.
use Rattle.lot_laws.proofs.Imports
use Imports.{ℕ, zero, suc, Bool, true, false, Option, Some, None, if◌then◌else◌, ◌==◌, ◌≡◌, ◌⊎◌, ◌<◌, List, []}
use Imports.{◌∷◌, length, nat_lt, get_or, set, get_or-set_same, inl, inr, refl, sym, ◌∙◌, ap, subst, ltb-true}
use Imports.{Keys, One, Two, first_of, Outcome, Act, Next, Reply, holds, takes_effect, MutexPlace, OncePlace}
use Imports.{SemaphorePlace, RwLockCallPlace, Wait, Look, Notify, NotifyAt, WaitAt, word_showing, in_notify}
use Imports.{in_wait, look_next, mutex_shown, notified, shown_as, Place, Idle, Mutex, RwLock, Once, Condvar}
use Imports.{Semaphore, act_of, beside_of, condvar_goes, called_lock, mutex_goes, next_place, once_goes}
use Imports.{rwlock_goes, semaphore_goes, rules_of, State, after, alone_after, can_go, go_of, is_possible}
use Imports.{place_at, put, queue_at, queues_with_last, queues_without_first, reply_to, section_at, solo}
use Imports.{state_after_act, state_after_go, state_after_hand_over_by, state_after_taking, state_with_sections}
use Imports.{step_outcome, word_at, acted_keeps, both, performed_counts, lock_state, IsWorld, key_of}
use Imports.{IsUnobstructed, HasLine, IsBarred, IsOnly, MayEnterOf, mutex_to_come}
use Rattle.spec_locks.specs.declared.outcomes.Outcome.TheVariants as outcome
use Rattle.steps_base.specs.declared.acts.Act.TheVariants as act
use Rattle.steps_base.specs.declared.acts.Next.TheVariants as next
use Rattle.steps_base.specs.declared.acts.Wakes.TheVariants as wakes
use Rattle.steps_base.specs.declared.acts.TakeWhich.TheVariants as whoms
use Rattle.steps_condvar.specs.declared.notify.NotifyAt.TheVariants as notifies
use Rattle.lot_laws.proofs.condvar.Replies.{word_is}
use Rattle.lot_laws.proofs.machine.EntersOwn.{enters_own}
use Rattle.lot_laws.proofs.machine.KindsStay.{after_kinds}
use Rattle.lot_alone.proofs.NotifyEnds.{shown_again}
use Rattle.lot_laws.proofs.promises.WorldRuns.{world_after}

-- ---------------------------------------------------------------- sections

set_only : (t : ℕ) (ss : List (Option ℕ)) (key k : ℕ) (who : Option ℕ) → IsOnly t who
    → IsOnly t (get_or ss k None)
    → IsOnly t (get_or (set ss key who) k None)
set_only t [] key k who new old = old
set_only t (x ∷ ss) zero zero who new old = new
set_only t (x ∷ ss) zero (suc k) who new old = old
set_only t (x ∷ ss) (suc key) zero who new old = old
set_only t (x ∷ ss) (suc key) (suc k) who new old = set_only t ss key k who new old

-- an act lets nobody else into a section
module _ (w : State) (t k : ℕ) (only : IsOnly t (section_at w k)) where
  abbrev OnlyIn : State → Type 0
  OnlyIn v = IsOnly t (section_at v k)

  filled_only : (keys : Keys) (who : Option ℕ) → IsOnly t who → OnlyIn (state_with_sections w keys who)
  filled_only (One key) who mine = set_only t w.sections key k who mine only
  filled_only (Two first second) who mine = set_only t (set w.sections first who) second k who mine
      (set_only t w.sections first k who mine only)

  itself : IsOnly t (Some t)
  itself u e = let f : t ≡ u = cc in sym f

  nobody : IsOnly t None
  nobody u e = cc

  pub acted_only : (p : Place) (a : Act) → OnlyIn (state_after_act w t p a)
  acted_only p (act.Word l op) = only
  acted_only p (act.HandOver l op) = by_effect (takes_effect op (word_at w l))
    where
      by_effect : (b : Bool) → OnlyIn (state_after_hand_over_by b w t p l op)
      by_effect true = only
      by_effect false = only
  acted_only p (act.Enter keys) = filled_only keys (Some t) itself
  acted_only p (act.Park l key check x) = by_check (holds check (word_at w l))
    where
      by_check : (b : Bool) → OnlyIn (if b then record w { queues = queues_with_last w.queues key t x }
          else w)
      by_check true = only
      by_check false = only
  acted_only p (act.Stand key x) = only
  acted_only p (act.Take key whoms.First) = by_first (first_of (queue_at w key))
    where
      by_first : (o : Option ℕ) → OnlyIn
          (state_after_taking (record w { queues = queues_without_first w.queues key }) t o)
      by_first None = only
      by_first (Some u) = only
  acted_only p (act.Take key (whoms.Picked start recursive)) = only
  acted_only p (act.Take key whoms.All) = only
  acted_only p (act.Requeue from to how) = only
  acted_only p (act.Remove key) = only
  acted_only p (act.Leave keys wakes.Nobody) = filled_only keys None nobody
  acted_only p (act.Leave keys (wakes.All note)) = filled_only keys None nobody
  acted_only p a = only

-- ---------------------------------------------------------------- the locks that a place names

-- the lock that it calls, or the mutex beside
abbrev NamesLock : Place → ℕ → Type 0
NamesLock p k = (called_lock p ≡ Some k) ⊎ (beside_of p ≡ Some k)

abbrev IsLook : Place → Type 0
IsLook (Condvar c (Look all)) = Unit {0}
IsLook p = ⊥

looks_to_come : (w : State) (p : Place) (k : ℕ) → mutex_to_come w p ≡ Some k → IsLook p
looks_to_come w (Condvar c (Look all)) k e = tt
looks_to_come w p k e = let f : ◌≡◌ {A = Option ℕ} None (Some k) = e in absurd cc

-- the thread names such locks alone, and is to look for no mutex
abbrev NamesOnly : (ℕ → Type 0) → Place → Type 0
NamesOnly Named p = ((k : ℕ) → NamesLock p k → Named k) × (IsLook p → ⊥)

nothing_named : (k : ℕ) → NamesLock Idle k → ⊥
nothing_named k (inl e) = cc
nothing_named k (inr e) = cc

module _ (Named : ℕ → Type 0) where
  idle_names : NamesOnly Named Idle
  idle_names = ((λ k h. absurd (nothing_named k h)), λ h. h)

  -- a reply leads it to no other lock
  names_next : (p : Place) (r : Reply) → NamesOnly Named p → NamesOnly Named (next_place p r)
  names_next Idle r h = idle_names
  names_next (Mutex l at) r h = by_next _
    where
      by_next : (n : Next MutexPlace) → NamesOnly Named (mutex_goes l n)
      by_next (next.At to) = (h.0, λ e. e)
      by_next (next.End answer) = idle_names
  names_next (RwLock l a at) r h = by_next _
    where
      by_next : (n : Next RwLockCallPlace) → NamesOnly Named (rwlock_goes l a n)
      by_next (next.At to) = (h.0, λ e. e)
      by_next (next.End answer) = idle_names
  names_next (Once l at) r h = by_next _
    where
      by_next : (n : Next OncePlace) → NamesOnly Named (once_goes l n)
      by_next (next.At to) = (h.0, λ e. e)
      by_next (next.End answer) = idle_names
  names_next (Semaphore l at) r h = by_next _
    where
      by_next : (n : Next SemaphorePlace) → NamesOnly Named (semaphore_goes l n)
      by_next (next.At to) = (h.0, λ e. e)
      by_next (next.End answer) = idle_names
  names_next (Condvar l (Look all)) r h = absurd (h.1 tt)
  names_next (Condvar l (Wait m timed at)) r h = by_next _
    where
      by_next : (n : Next WaitAt) → NamesOnly Named (condvar_goes l (in_wait m timed n))
      by_next (next.At to) = (h.0, λ e. e)
      by_next (next.End answer) = idle_names
  names_next (Condvar l (Notify all m at)) r h = by_next _
    where
      by_next : (n : Next NotifyAt) → NamesOnly Named (condvar_goes l (in_notify all m n))
      by_next (next.At to) = (h.0, λ e. e)
      by_next (next.End answer) = idle_names

-- ---------------------------------------------------------------- one step

module _ (w : State) (t : ℕ) (world : IsWorld w) (way : IsUnobstructed w t) where
  -- a lock that its call may enter
  abbrev Named : ℕ → Type 0
  Named k = MayEnterOf w (place_at w t) k

  abbrev acted : State
  acted = state_after_act w t (place_at w t) (act_of (place_at w t))

  abbrev told : Reply
  told = reply_to w t (act_of (place_at w t))

  -- tells what it reads where it looks
  look_names : (c : ℕ) (all : Bool) → place_at w t ≡ Condvar c (Look all)
      → NamesOnly Named (condvar_goes c (look_next all (word_at w c)))
  look_names c all is = by_shown (lock_state w c).shown refl
    where
      by_word : (m : ℕ) (b : Bool) → (lock_state w c).shown ≡ Some m
          → NamesOnly Named (condvar_goes c (if b then next.End (notified all 0) else next.At
          (Notify all (mutex_shown (shown_as m)) notifies.Enter)))
      by_word m true e = idle_names Named
      by_word m false e = (
        (λ k h. elim h [
          | inl own ↦ inl (ap called_lock is ∙ own)
          | inr beside ↦ inr (inr (ap (mutex_to_come w) is ∙ e ∙ ap Some (sym (shown_again m)) ∙ beside))
        ]),
        λ h. h,
      )

      by_shown : (o : Option ℕ) → (lock_state w c).shown ≡ o
          → NamesOnly Named (condvar_goes c (look_next all (word_at w c)))
      by_shown None e = subst (λ v. NamesOnly Named (condvar_goes c (look_next all v)))
          (sym (word_is w t c (Look all) world.inductive is ∙ ap word_showing e)) (idle_names Named)
      by_shown (Some m) e = subst (λ v. NamesOnly Named (condvar_goes c (look_next all v)))
          (sym (word_is w t c (Look all) world.inductive is ∙ ap word_showing e))
          (by_word m (shown_as m == 0) e)

  -- from any other place
  acted_names : (IsLook (place_at w t) → ⊥) → NamesOnly Named (place_at acted t)
  acted_names other = acted_keeps (NamesOnly Named) w t t (place_at w t) (act_of (place_at w t))
      (λ loud r b q h. names_next Named q r h)
      ((λ k h. elim h [ inl own ↦ inl own | inr beside ↦ inr (inl beside) ]), other)

  gone_names : NamesOnly Named (next_place (place_at acted t) told)
  gone_names = by_place (place_at w t) refl
    where
      another : (IsLook (place_at w t) → ⊥) → NamesOnly Named (next_place (place_at acted t) told)
      another other = names_next Named (place_at acted t) told (acted_names other)

      otherwise : (p : Place) → place_at w t ≡ p → (IsLook p → ⊥)
          → NamesOnly Named (next_place (place_at acted t) told)
      otherwise p is other = another (λ h. other (subst IsLook is h))

      by_place : (p : Place) → place_at w t ≡ p → NamesOnly Named (next_place (place_at acted t) told)
      by_place (Condvar c (Look all)) is =
          subst (NamesOnly Named) (sym (λ i. next_place (there i) (reply_to w t (act_of (is i)))))
          (look_names c all is)
        where
          there : place_at acted t ≡ Condvar c (Look all)
          there = ap (λ p. place_at (state_after_act w t p (act_of p)) t) is ∙ is
      by_place (Condvar c (Wait m timed at)) is = otherwise (Condvar c (Wait m timed at)) is (λ h. h)
      by_place (Condvar c (Notify all m at)) is = otherwise (Condvar c (Notify all m at)) is (λ h. h)
      by_place Idle is = otherwise Idle is (λ h. h)
      by_place (Mutex l at) is = otherwise (Mutex l at) is (λ h. h)
      by_place (RwLock l a at) is = otherwise (RwLock l a at) is (λ h. h)
      by_place (Once l at) is = otherwise (Once l at) is (λ h. h)
      by_place (Semaphore l at) is = otherwise (Semaphore l at) is (λ h. h)

  -- the thread has its way on
  way_after : IsUnobstructed (after w (go_of t)) t
  way_after = either (is_possible w (go_of t)) refl
    where
      either : (b : Bool) → is_possible w (go_of t) ≡ b → IsUnobstructed (after w (go_of t)) t
      either false e = subst (λ v. IsUnobstructed v t) (sym (ap (λ b. if b then state_after_go w t else w) e))
          way
      either true e = λ k u m may line inside. acted_only w t (key_of k m)
          (λ x f. way k x m (before k may) (subst (λ kind. HasLine (rules_of kind).sort m)
          (after_kinds w (go_of t) k) line) f)
          (place_at w t) (act_of (place_at w t)) u (sym (ap (λ (v : State). section_at v (key_of k m)) led)
          ∙ inside)
        where
          led : after w (go_of t) ≡ put acted t (next_place (place_at acted t) told)
          led = ap (λ b. if b then state_after_go w t else w) e

          there : t < length acted.places
          there = rw ((performed_counts w t (place_at w t) (act_of (place_at w t))).0)
              (ltb-true t (length w.places) (both (nat_lt t (length w.places)) (can_go w t) e).0)

          stands : place_at (after w (go_of t)) t ≡ next_place (place_at acted t) told
          stands = ap (λ (v : State). place_at v t) led ∙ get_or-set_same acted.places t _ Idle there

          before : (k : ℕ) → MayEnterOf (after w (go_of t)) (place_at (after w (go_of t)) t) k → Named k
          before k (inl own) = gone_names.0 k (inl (sym (ap called_lock stands) ∙ own))
          before k (inr (inl beside)) = gone_names.0 k (inr (sym (ap beside_of stands) ∙ beside))
          before k (inr (inr shown)) = absurd
              (gone_names.1 (subst IsLook stands (looks_to_come (after w (go_of t))
              (place_at (after w (go_of t)) t) k shown)))

  -- No other thread bars it.
  unbarred_now : IsBarred w t → ⊥
  unbarred_now b = let own = enters_own w t world b
      in b.another (way b.lock b.other b.line (may own.0) own.1 b.inside)
    where
      may : NamesLock (place_at w t) b.lock → Named b.lock
      may (inl own) = inl own
      may (inr beside) = inr (inl beside)

-- ---------------------------------------------------------------- a run

pub unbarred : (n : ℕ) (w : State) (t : ℕ) (last : Outcome) → IsWorld w → IsUnobstructed w t
    → IsBarred (solo n w t last).state t → ⊥
unfolding solo
unbarred zero w t last world way b = unbarred_now w t world way b
unbarred (suc n) w t last world way b = by_outcome (step_outcome w (go_of t))
    (λ c. unbarred n (after w (go_of t)) t outcome.Step (world_after w (go_of t) world)
    (way_after w t world way) c) b
  where
    v : State
    v = after w (go_of t)

    world_then : IsWorld v
    world_then = world_after w (go_of t) world

    way_then : IsUnobstructed v t
    way_then = way_after w t world way

    by_outcome : (o : Outcome) → (IsBarred (solo n v t outcome.Step).state t → ⊥)
        → IsBarred (alone_after o w v last (solo n v t outcome.Step)).state t → ⊥
    by_outcome outcome.NotNow on b = unbarred_now w t world way b
    by_outcome outcome.Step on b = on b
    by_outcome outcome.Sleep on b = unbarred_now v t world_then way_then b
    by_outcome (outcome.Closure state) on b = unbarred_now v t world_then way_then b
    by_outcome (outcome.End answer) on b = unbarred_now v t world_then way_then b
