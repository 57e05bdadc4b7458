-- A thread that sleeps does so on, whatever befalls it but a wake; and another thread wakes only those that
-- it has in hand.
use Rattle.lot_laws.proofs.Imports
use Imports.{ℕ, Bool, true, false, Option, Some, None, if◌then◌else◌, ◌==◌, ◌≡◌, ◌≢◌, ◌⊎◌, inl, inr, List, []}
use Imports.{◌∷◌, length, map, set, get_or, refl, sym, ◌∙◌, ap, subst, get_or-set_other, get_or-set_same}
use Imports.{get_or-map, cases_eq, cases_lt, eqb-true, set_past, Keys, One, Two, first_of, threads_of}
use Imports.{lock_picked, taken_by, Step, Turn, Act, Sleep, Next, At, Reply, TakenBy, MovedTo, HandedBy, Woken}
use Imports.{holds, takes_effect, is_thread, MutexPlace, mutex_act, mutex_next, CondvarPlace, WaitAt, NotifyAt}
use Imports.{condvar_act, condvar_next, notify_act, move_act, in_wait, relocked, wait_act, Place, Idle, Mutex}
use Imports.{RwLock, Once, Condvar, Semaphore, act_of, condvar_goes, late_key, respins_from, mutex_goes}
use Imports.{next_place}
use Imports.{taker, State, hand_over_told, is_possible, after, listed, moved_threads, place_after_telling}
use Imports.{place_at, places_told, put, queue_at, queues_without_first, closed_place, state_after_act}
use Imports.{state_after_go, state_after_hand_over_by, state_after_late_on, state_after_look}
use Imports.{state_after_taking, state_after_turn, state_with_sections, word_at, SleepersStay}
use Rattle.spec_locks.specs.declared.calls.Turn.TheVariants as turn
use Rattle.steps_base.specs.declared.acts.Act.TheVariants as act
use Rattle.steps_base.specs.declared.acts.Wakes.TheVariants as wakes
use Rattle.steps_base.specs.declared.acts.TakeWhich.TheVariants as whom
use Rattle.steps_condvar.specs.declared.places.CondvarPlace.TheVariants as condvar
use Rattle.steps_condvar.specs.declared.wait.WaiterFate.TheVariants as stands
use Rattle.steps_condvar.specs.declared.wait.WaitAt.TheVariants as wait
use Rattle.steps_condvar.specs.declared.notify.NotifyAt.TheVariants as notify
use Rattle.lot_laws.proofs.machine.Hearing.{Quiet, call_hears, mutex_hears, once_hears, semaphore_hears}

-- ---------------------------------------------------------------- a condition variable

-- the place at which a mutex is waited for
goes_asleep : (m : ℕ) (n : Next MutexPlace) → act_of (mutex_goes m n) ≡ Sleep → (at : MutexPlace)
    × ((n ≡ At at) × (mutex_act m at ≡ Sleep))
goes_asleep m (At at) h = (at, (refl, h))
goes_asleep m n h = absurd cc

wait_quiet : (l m : ℕ) (timed : Bool) (at : WaitAt) (r : Reply) → Quiet r → wait_act l m at ≡ Sleep
    → (at2 : CondvarPlace) × ((condvar_next (condvar.Wait m timed at) r ≡ At at2)
    × (condvar_act l at2 ≡ Sleep))
wait_quiet l m timed (wait.Asleep s) (TakenBy t) q h = (
  condvar.Wait m timed (wait.Asleep (stands.InHand t)),
  (refl, refl),
)
wait_quiet l m timed (wait.Asleep s) (MovedTo key) q h = (
  condvar.Wait m timed (wait.Asleep stands.Moved),
  (refl, refl),
)
wait_quiet l m timed (wait.Asleep s) (HandedBy t alone) q h =
    (condvar.Wait m timed (wait.Asleep (stands.Handed t)), (refl, refl))
wait_quiet l m timed (wait.Asleep s) r q h = absurd q
wait_quiet l m timed (wait.Release s at) (TakenBy t) q h =
    (condvar.Wait m timed (wait.Release (stands.InHand t) at), (refl, h))
wait_quiet l m timed (wait.Release s at) (MovedTo key) q h =
    (condvar.Wait m timed (wait.Release stands.Moved at), (refl, h))
wait_quiet l m timed (wait.Release s at) (HandedBy t alone) q h =
    (condvar.Wait m timed (wait.Release (stands.Handed t) at), (refl, h))
wait_quiet l m timed (wait.Release s at) r q h = absurd q
wait_quiet l m timed (wait.Lock timed_out at) r q h =
    let stays = goes_asleep m (mutex_next at r) ((mutex_hears m at).sleeps_on h r q) in (
      condvar.Wait m timed (wait.Lock timed_out stays.0),
      (ap (λ n. in_wait m timed (relocked timed timed_out n)) stays.1.0, stays.1.1),
    )
wait_quiet l m timed at r q h = absurd cc

moves_awake : (l m : ℕ) (all locked : Bool) → move_act all locked l m ≡ Sleep → ⊥
moves_awake l m true locked h = cc
moves_awake l m false true h = cc
moves_awake l m false false h = cc

notify_awake : (l m : ℕ) (all : Bool) (at : NotifyAt) → notify_act all l m at ≡ Sleep → ⊥
notify_awake l m all (notify.Move locked) h = moves_awake l m all locked h
notify_awake l m all at h = cc

condvar_quiet : (l : ℕ) (at : CondvarPlace) (r : Reply) → Quiet r → condvar_act l at ≡ Sleep
    → (at2 : CondvarPlace) × ((condvar_next at r ≡ At at2) × (condvar_act l at2 ≡ Sleep))
condvar_quiet l (condvar.Wait m timed at) r q h = wait_quiet l m timed at r q h
condvar_quiet l (condvar.Look all) r q h = absurd cc
condvar_quiet l (condvar.Notify all m at) r q h = absurd (notify_awake l m all at h)

-- ---------------------------------------------------------------- any place

place_quiet : (r : Reply) → Quiet r → (p : Place) → act_of p ≡ Sleep → act_of (next_place p r) ≡ Sleep
place_quiet r q Idle h = absurd cc
place_quiet r q (Mutex l at) h = (mutex_hears l at).sleeps_on h r q
place_quiet r q (RwLock l a c) h = (call_hears l a c).sleeps_on h r q
place_quiet r q (Once l at) h = (once_hears l at).sleeps_on h r q
place_quiet r q (Semaphore l at) h = (semaphore_hears l at).sleeps_on h r q
place_quiet r q (Condvar l at) h = let stays = condvar_quiet l at r q h in ap (λ n. act_of (condvar_goes l n))
    stays.1.0 ∙ stays.1.1

-- ---------------------------------------------------------------- the act of another thread

befallen_sleeps : (u : ℕ) (ps : List Place) (x : ℕ) (r : Reply) → Quiet r → act_of (get_or ps u Idle) ≡ Sleep
    → act_of (get_or (set ps x (next_place (get_or ps x Idle) r)) u Idle) ≡ Sleep
befallen_sleeps u ps x r q h = elim (cases_eq u x) [
  | inl e ↦ elim (cases_lt x (length ps)) [
    | inl lt ↦ rw (e, get_or-set_same ps x (next_place (get_or ps x Idle) r) Idle lt)
        (place_quiet r q (get_or ps x Idle) (subst (λ v. act_of (get_or ps v Idle) ≡ Sleep) e h))
    | inr ge ↦ subst (λ qs. act_of (get_or qs u Idle) ≡ Sleep)
        (sym (set_past ps x (next_place (get_or ps x Idle) r) ge)) h
  ]
  | inr ne ↦ ap act_of (get_or-set_other ps x u (next_place (get_or ps x Idle) r) Idle ne) ∙ h
]

told_sleeps : (u : ℕ) (r : Reply) → Quiet r → (us : List ℕ) (ps : List Place) → act_of (get_or ps u Idle)
    ≡ Sleep
    → act_of (get_or (places_told r us ps) u Idle) ≡ Sleep
told_sleeps u r q [] ps h = h
told_sleeps u r q (x ∷ us) ps h = told_sleeps u r q us (set ps x (next_place (get_or ps x Idle) r))
    (befallen_sleeps u ps x r q h)

module _ (w : State) (t u : ℕ) (asleep : act_of (place_at w u) ≡ Sleep) where
  parked_sleeps : (b : Bool) (queues : List (List _))
      → act_of (place_at (if b then record w { queues = queues } else w) u) ≡ Sleep
  parked_sleeps true queues = asleep
  parked_sleeps false queues = asleep

  took_sleeps : (queues : List (List _)) (o : Option ℕ)
      → act_of (place_at (state_after_taking (record w { queues = queues }) t o) u) ≡ Sleep
  took_sleeps queues None = asleep
  took_sleeps queues (Some x) = befallen_sleeps u w.places x (TakenBy t) tt asleep

  hand_sleeps : (r : Reply) → Quiet r → act_of (get_or (map (place_after_telling t r) w.places) u Idle)
      ≡ Sleep
  hand_sleeps r q = ap act_of (get_or-map (place_after_telling t r) w.places u Idle)
      ∙ either (is_thread t (taker (place_at w u)))
    where
      either : (b : Bool) → act_of (if b then next_place (place_at w u) r else place_at w u) ≡ Sleep
      either true = place_quiet r q (place_at w u) asleep
      either false = asleep

  -- a wake is told only those that the thread has in hand
  wake_sleeps : (r : Reply) → is_thread t (taker (place_at w u)) ≡ false
      → act_of (get_or (map (place_after_telling t r) w.places) u Idle) ≡ Sleep
  wake_sleeps r free = ap act_of (get_or-map (place_after_telling t r) w.places u Idle)
      ∙ ap (λ b. act_of (if b then next_place (place_at w u) r else place_at w u)) free ∙ asleep

  filled_sleeps : (keys : Keys) (who : Option ℕ) → act_of (place_at (state_with_sections w keys who) u)
      ≡ Sleep
  filled_sleeps (One key) who = asleep
  filled_sleeps (Two first second) who = asleep

  acted_sleeps : (p : Place) (a : Act) → is_thread t (taker (place_at w u)) ≡ false
      → act_of (place_at (state_after_act w t p a) u) ≡ Sleep
  acted_sleeps p (act.HandOver l f) free = either (takes_effect f (word_at w l))
    where
      either : (b : Bool) → act_of (place_at (state_after_hand_over_by b w t p l f) u) ≡ Sleep
      either true = hand_sleeps (hand_over_told w t l) tt
      either false = asleep
  acted_sleeps p (act.Enter keys) free = filled_sleeps keys (Some t)
  acted_sleeps p (act.Park l key check x) free = parked_sleeps (holds check (word_at w l)) _
  acted_sleeps p (act.Take key whom.First) free = took_sleeps (queues_without_first w.queues key)
      (first_of (queue_at w key))
  acted_sleeps p (act.Take key (whom.Picked start recursive)) free = told_sleeps u (TakenBy t) tt
      (threads_of (lock_picked start recursive (queue_at w key))) w.places asleep
  acted_sleeps p (act.Take key whom.All) free = told_sleeps u (TakenBy t) tt (threads_of (queue_at w key))
      w.places asleep
  acted_sleeps p (act.Requeue from to how) free =
      told_sleeps u (MovedTo to) tt (moved_threads how (threads_of (queue_at w from)))
      (places_told (TakenBy t) (listed (taken_by how (queue_at w from))) w.places)
      (told_sleeps u (TakenBy t) tt (listed (taken_by how (queue_at w from))) w.places asleep)
  acted_sleeps p (act.Leave (One key) wakes.Nobody) free = asleep
  acted_sleeps p (act.Leave (One key) (wakes.All n)) free = wake_sleeps (Woken n) free
  acted_sleeps p (act.Leave (Two first second) wakes.Nobody) free = asleep
  acted_sleeps p (act.Leave (Two first second) (wakes.All n)) free = wake_sleeps (Woken n) free
  acted_sleeps p a free = asleep

-- ---------------------------------------------------------------- a step

-- another thread stands where the act has left it
put_sleeps : (v : State) (t u : ℕ) (p : Place) → u ≢ t → act_of (place_at v u) ≡ Sleep
    → act_of (place_at (put v t p) u) ≡ Sleep
put_sleeps v t u p other h = ap act_of (get_or-set_other v.places t u p Idle other) ∙ h

module _ (w : State) (t u : ℕ) (other : u ≢ t) (free : is_thread t (taker (place_at w u)) ≡ false)
    (asleep : act_of (place_at w u) ≡ Sleep) where
  gone_sleeps : act_of (place_at (state_after_go w t) u) ≡ Sleep
  gone_sleeps = put_sleeps (state_after_act w t (place_at w t) (act_of (place_at w t))) t u _ other
      (acted_sleeps w t u asleep (place_at w t) (act_of (place_at w t)) free)

module _ (w : State) (t u : ℕ) (other : u ≢ t) (free : is_thread t (taker (place_at w u)) ≡ false)
    (asleep : act_of (place_at w u) ≡ Sleep) where
  looked_sleeps : (o : Option Place) → act_of (place_at (state_after_look w t o) u) ≡ Sleep
  looked_sleeps None = asleep
  looked_sleeps (Some q) = gone_sleeps (put w t q) t u other (subst (λ p. is_thread t (taker p) ≡ false)
      (sym (get_or-set_other w.places t u q Idle other)) free) (put_sleeps w t u q other asleep)

  late_sleeps : (o : Option ℕ) → act_of (place_at (state_after_late_on w t o) u) ≡ Sleep
  late_sleeps None = asleep
  late_sleeps (Some key) = put_sleeps w t u _ other asleep

  turned_sleeps : (x : Turn) → act_of (place_at (state_after_turn w t x) u) ≡ Sleep
  turned_sleeps (turn.Begin c) = put_sleeps w t u _ other asleep
  turned_sleeps turn.Go = gone_sleeps w t u other free asleep
  turned_sleeps turn.Spin = looked_sleeps (respins_from (place_at w t))
  turned_sleeps turn.Late = late_sleeps (late_key (place_at w t))
  turned_sleeps turn.Ok = looked_sleeps (Some (closed_place w t true))
  turned_sleeps turn.Err = looked_sleeps (Some (closed_place w t false))

-- in the hand of this thread, or not
in_hand_or_not : (t : ℕ) (o : Option ℕ) → (o ≡ Some t) ⊎ (is_thread t o ≡ false)
in_hand_or_not t None = inr refl
in_hand_or_not t (Some x) = by_thread (x == t) refl
  where
    by_thread : (b : Bool) → (x == t) ≡ b → (Some x ≡ Some t) ⊎ (is_thread t (Some x) ≡ false)
    by_thread true e = inl (ap Some (eqb-true x t e))
    by_thread false e = inr e

pub sleepers_stay : (w : State) (s : Step) → SleepersStay w s.thread (after w s)
sleepers_stay w s u other asleep = elim (in_hand_or_not s.thread (taker (place_at w u))) [
  | inl in_hand ↦ inl in_hand
  | inr free ↦ inr (either free (is_possible w s))
]
  where
    either : is_thread s.thread (taker (place_at w u)) ≡ false → (b : Bool)
        → act_of (place_at (if b then state_after_turn w s.thread s.turn else w) u) ≡ Sleep
    either free true = turned_sleeps w s.thread u other free asleep s.turn
    either free false = asleep
