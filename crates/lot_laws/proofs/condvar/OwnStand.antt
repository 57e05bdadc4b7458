-- Where a thread in a call of a condition variable stands once it has acted: where it stood, or where its own
-- release of its mutex has left it.
use Rattle.lot_laws.proofs.Imports
use Imports.{ℕ, Bool, true, false, None, if◌then◌else◌, ◌==◌, ◌≡◌, ◌*◌, ◌+◌, ◌<◌, length, not, refl, sym, ◌∙◌}
use Imports.{ap, subst, get_or-set_same, One, Next, Reply, TakenBy, MovedTo, HandedBy, Woken, MutexPlace}
use Imports.{LockAt, is_locked, lock_act, mutex_next, NotifyAt, CondvarPlace, Wait, Look, Notify, WaiterFate}
use Imports.{WaitAt, IsLockOf, IsReached, wait_row, stands_after, comes_from_another, past_release, condvar_act}
use Imports.{condvar_next, release_next, released, Place, Idle, Condvar, condvar_goes, next_place, State}
use Imports.{place_at, reply_to, state_after_act, state_after_going, acted_keeps, tells, performed_counts}
use Rattle.core_base.specs.declared.notes.Note.TheVariants as note
use Rattle.core_base.specs.declared.ops.Op.TheVariants as op
use Rattle.steps_base.specs.declared.acts.Act.TheVariants as act
use Rattle.steps_base.specs.declared.acts.Next.TheVariants as next
use Rattle.steps_mutex.specs.declared.places.MutexPlace.TheVariants as mutex
use Rattle.steps_mutex.specs.declared.lock.Entry.TheVariants as entry
use Rattle.steps_mutex.specs.declared.lock.LockAt.TheVariants as lock
use Rattle.steps_condvar.specs.declared.notify.NotifyAt.TheVariants as notify
use Rattle.steps_condvar.specs.declared.wait.WaiterFate.TheVariants as stands
use Rattle.steps_condvar.specs.declared.wait.WaitAt.TheVariants as wait
use Rattle.lot_laws.proofs.condvar.FollowsDeeds.{Alike}
use Rattle.lot_laws.proofs.promises.RowPromises.{Befalls}

-- for all that befell it while it released its mutex
abbrev pub IsStill : CondvarPlace → CondvarPlace → Type 0
IsStill (Wait m timed (wait.Release s a)) q = (s2 : WaiterFate) × (q ≡ Wait m timed (wait.Release s2 a))
IsStill p q = q ≡ p

abbrev pub StandsAt : ℕ → CondvarPlace → Place → Type 0
StandsAt l at p = (q : CondvarPlace) × (p ≡ Condvar l q) × IsStill at q

module _ (l : ℕ) where
  abbrev Keeps : CondvarPlace → Reply → Type 0
  Keeps at r = (p : Place) → StandsAt l at p → StandsAt l at (next_place p r)

  releases : (m : ℕ) (timed : Bool) (s : WaiterFate) (a : MutexPlace) (r : Reply) → Befalls r
      → Keeps (Wait m timed (wait.Release s a)) r
  releases m timed s a r h p stood = subst (λ x. StandsAt l (Wait m timed (wait.Release s a))
      (next_place x r)) (sym (stood.1 ∙ ap (Condvar l) stood.2.1)) (told stood.2.0 r h)
    where
      told : (s2 : WaiterFate) (r : Reply) → Befalls r
          → StandsAt l (Wait m timed (wait.Release s a))
          (next_place (Condvar l (Wait m timed (wait.Release s2 a))) r)
      told s2 (TakenBy t) h = (
        Wait m timed (wait.Release (stands_after s2 (TakenBy t)) a),
        refl,
        (stands_after s2 (TakenBy t), refl),
      )
      told s2 (MovedTo key) h = (
        Wait m timed (wait.Release (stands_after s2 (MovedTo key)) a),
        refl,
        (stands_after s2 (MovedTo key), refl),
      )
      told s2 (HandedBy t alone) h = (
        Wait m timed (wait.Release (stands_after s2 (HandedBy t alone)) a),
        refl,
        (stands_after s2 (HandedBy t alone), refl),
      )
      told s2 (Woken n) h = (
        Wait m timed (wait.Release (stands_after s2 (Woken n)) a),
        refl,
        (stands_after s2 (Woken n), refl),
      )
      told s2 r h = absurd h

  -- a thread that notifies is deaf
  notifies : (all : Bool) (m : ℕ) (at : NotifyAt) (r : Reply) → Befalls r → Keeps (Notify all m at) r
  notifies all m at r h p stood = subst (λ x. StandsAt l (Notify all m at) (next_place x r))
      (sym (stood.1 ∙ ap (Condvar l) stood.2)) (Notify all m at, ap (condvar_goes l) (deaf at r h), refl)
    where
      deaf : (at : NotifyAt) (r : Reply) → Befalls r → condvar_next (Notify all m at) r ≡ next.At
          (Notify all m at)
      deaf notify.Enter (TakenBy t) h = refl
      deaf at (TakenBy t) h = refl
      deaf at (MovedTo key) h = refl
      deaf at (HandedBy t alone) h = refl
      deaf at (Woken n) h = refl
      deaf at r h = absurd h

  -- a thread that locks its mutex again tells nobody anything
  quietly : (m : ℕ) (a : LockAt) → IsLockOf a → tells (lock_act m a) ≡ false
  quietly m (lock.Decide seen) of = decides (is_locked seen) (seen == 1)
    where
      decides : (a b : Bool)
          → tells
          (if not a then act.Word m (op.Exchange seen (seen + 1)) else if b then act.Word m
          (op.Exchange 1 3) else act.Enter (One (2 * m)))
          ≡ false
      decides false b = refl
      decides true true = refl
      decides true false = refl
  quietly m lock.First of = refl
  quietly m lock.Load of = refl
  quietly m lock.Check of = refl
  quietly m (lock.Leave parked) of = refl
  quietly m lock.Asleep of = refl
  quietly m (lock.Taken by) of = refl
  quietly m (lock.Handed by) of = refl
  quietly m lock.Accept of = refl
  quietly m a of = absurd of

  act_keeps : (at : CondvarPlace) → IsReached at → tells (condvar_act l at) ≡ true → (r : Reply) → Befalls r
      → Keeps at r
  act_keeps (Look all) reached loud = absurd cc
  act_keeps (Notify all m at) reached loud = notifies all m at
  act_keeps (Wait m timed (wait.Release s a)) reached loud = releases m timed s a
  act_keeps (Wait m timed (wait.Lock late (mutex.Lock entry.Lock again a))) reached loud =
      absurd (let quiet : false ≡ true = sym (quietly m a reached.1) ∙ loud in cc)
  act_keeps (Wait m timed (wait.Lock late a)) reached loud = absurd reached.1
  act_keeps (Wait m timed at) reached loud = absurd cc

-- ---------------------------------------------------------------- the next row

pub alike_same : (n : Next CondvarPlace) → Alike n n
alike_same (next.At q) = (refl, refl)
alike_same (next.End answer) = tt

release_stage : (m : ℕ) (s : WaiterFate) (a : MutexPlace) (r : Reply)
    → (wait_row m (release_next s a r)).stage
    ≡ None
release_stage m s a r = by_reply (comes_from_another r)
  where
    by_after : (s : WaiterFate) → (wait_row m (past_release s)).stage ≡ None
    by_after (stands.Noted note.Normal) = refl
    by_after (stands.Noted note.HandOff) = refl
    by_after s = refl

    by_next : (n : Next MutexPlace) → (wait_row m (released s n)).stage ≡ None
    by_next (next.At b) = refl
    by_next (next.End answer) = by_after s

    by_reply : (b : Bool) → (wait_row m (if b then wait.Release (stands_after s r) a else released s
        (mutex_next a r))).stage ≡ None
    by_reply true = refl
    by_reply false = by_next (mutex_next a r)

still_alike : (at q : CondvarPlace) (r : Reply) → IsStill at q → Alike (condvar_next at r) (condvar_next q r)
still_alike (Wait m timed (wait.Release s a)) q r still =
    subst (λ x. Alike (condvar_next (Wait m timed (wait.Release s a)) r) (condvar_next x r)) (sym still.1)
    (release_stage m still.0 a r ∙ sym (release_stage m s a r), refl)
still_alike at q r still = subst (λ x. Alike (condvar_next at r) (condvar_next x r)) (sym still)
    (alike_same (condvar_next at r))

still_self : (at : CondvarPlace) → IsStill at at
still_self (Wait m timed (wait.Release s a)) = (s, refl)
still_self (Wait m timed at) = refl
still_self (Look all) = refl
still_self (Notify all m at) = refl

module _ (w : State) (t l : ℕ) (at : CondvarPlace) (is : place_at w t ≡ Condvar l at) (reached : IsReached at)
    (there : t < length w.places) where
  pub own_place : StandsAt l at (place_at (state_after_act w t (Condvar l at) (condvar_act l at)) t)
  own_place = acted_keeps (StandsAt l at) w t t (Condvar l at) (condvar_act l at) (act_keeps l at reached)
      (at, is, still_self at)

  -- from there it goes on
  pub went : Next CondvarPlace
  went = condvar_next own_place.0 (reply_to w t (condvar_act l at))

  pub went_is : went ≡ condvar_next own_place.0 (reply_to w t (condvar_act l at))
  unfolding went
  went_is = refl

  pub went_place : place_at (state_after_going w t (Condvar l at)) t ≡ condvar_goes l went
  unfolding went
  went_place = get_or-set_same (state_after_act w t (Condvar l at) (condvar_act l at)).places t _ Idle
      (rw ((performed_counts w t (Condvar l at) (condvar_act l at)).0) there)
      ∙ ap (λ p. next_place p (reply_to w t (condvar_act l at))) own_place.1

  pub went_alike : Alike (condvar_next at (reply_to w t (condvar_act l at))) went
  unfolding went
  went_alike = still_alike at own_place.0 (reply_to w t (condvar_act l at)) own_place.2

-- a thread that notifies stands where it stood
pub notifier_still : (w : State) (t l m : ℕ) (all : Bool) (p : NotifyAt) (is : place_at w t ≡ Condvar l
    (Notify all m p))
    (reached : IsReached (Notify all m p)) (there : t < length w.places)
    → place_at (state_after_act w t (Condvar l (Notify all m p)) (condvar_act l (Notify all m p))) t
    ≡ Condvar l (Notify all m p)
notifier_still w t l m all p is reached there = let own = own_place w t l (Notify all m p) is reached there
    in own.1 ∙ ap (Condvar l) own.2

-- a thread that notifies, or looks, goes on from where it stood
pub notify_place : (w : State) (t l m : ℕ) (all : Bool) (p : NotifyAt) (is : place_at w t ≡ Condvar l
    (Notify all m p))
    (reached : IsReached (Notify all m p)) (there : t < length w.places)
    → place_at (state_after_going w t (Condvar l (Notify all m p))) t
    ≡ condvar_goes l (condvar_next (Notify all m p) (reply_to w t (condvar_act l (Notify all m p))))
unfolding went
notify_place w t l m all p is reached there = went_place w t l (Notify all m p) is reached there
    ∙ ap (λ q. condvar_goes l (condvar_next q (reply_to w t (condvar_act l (Notify all m p)))))
    (own_place w t l (Notify all m p) is reached there).2

pub look_place : (w : State) (t l : ℕ) (all : Bool) (is : place_at w t ≡ Condvar l (Look all))
    (there : t < length w.places)
    → place_at (state_after_going w t (Condvar l (Look all))) t
    ≡ condvar_goes l (condvar_next (Look all) (reply_to w t (condvar_act l (Look all))))
unfolding went
look_place w t l all is there = went_place w t l (Look all) is tt there
    ∙ ap (λ q. condvar_goes l (condvar_next q (reply_to w t (condvar_act l (Look all)))))
    (own_place w t l (Look all) is tt there).2

-- a wait inside the release of its mutex may befall its own thread
abbrev pub is_release : WaitAt → Bool
is_release (wait.Release s a) = true
is_release p = false

-- any other goes on from where it stood
calm_still : (m : ℕ) (timed : Bool) (p : WaitAt) (q : CondvarPlace) → is_release p ≡ false
    → IsStill (Wait m timed p) q
    → q ≡ Wait m timed p
calm_still m timed (wait.Release s a) q calm still = absurd cc
calm_still m timed p q calm still = still

pub calm_waiter : (w : State) (t l m : ℕ) (timed : Bool) (p : WaitAt) (is : place_at w t ≡ Condvar l
    (Wait m timed p))
    (reached : IsReached (Wait m timed p)) (there : t < length w.places)
    → is_release p ≡ false
    → place_at (state_after_act w t (Condvar l (Wait m timed p)) (condvar_act l (Wait m timed p))) t
    ≡ Condvar l (Wait m timed p)
calm_waiter w t l m timed p is reached there calm = let own = own_place w t l (Wait m timed p) is reached
    there in own.1 ∙ ap (Condvar l) (calm_still m timed p _ calm own.2)
