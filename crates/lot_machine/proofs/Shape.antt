-- Each step keeps the shape of a state: its numbers go on naming threads, locks and keys that are there.
use Rattle.std.proofs.Common.{inl, ◌^◌, ℕ, zero, suc, Bool, true, false, cond, Option, Some, None}
use Rattle.std.proofs.Common.{if◌then◌else◌, ◌==◌, not, nat_lt, ◌≡◌, ◌*◌, ◌≤◌, ◌<◌, List, [], ◌∷◌, ◌++◌}
use Rattle.std.proofs.Common.{length, get_or, set, map, drop, refl, ◌∙◌, length-set, get_or-set_same}
use Rattle.std.proofs.Common.{replicate, sym, ap, subst, arith}
use Rattle.std.specs.Prelude.{is_some}
use Rattle.std.proofs.lemmas.List.{length-replicate}
use Rattle.std.proofs.lemmas.Bool.{ltb-true}
use Rattle.std.proofs.lemmas.List.{length-map}
use Rattle.std.proofs.Math.ListN.{get_or-map}
use Rattle.core_base.specs.declared.keys.Keys.{Keys}
use Rattle.core_base.specs.declared.keys.Keys.TheVariants.{One, Two}
use Rattle.core_base.specs.declared.ops.Op.{Op}
use Rattle.core_base.specs.declared.wants.Waiter.{Waiter}
use Rattle.core_base.specs.declared.wants.Want.{Want}
use Rattle.core_base.specs.Lines.{waiter, without, first_of}
use Rattle.steps_base.specs.declared.acts.Act.{Act}
use Rattle.steps_base.specs.declared.acts.Act.TheVariants.{Word, HandOver, Enter, Park, Stand, Take, Remove}
use Rattle.steps_base.specs.declared.acts.Act.TheVariants.{Leave}
use Rattle.steps_base.specs.declared.acts.Act.TheVariants as act
use Rattle.steps_base.specs.declared.acts.Check.{Check}
use Rattle.steps_base.specs.declared.acts.Wakes.{Wakes}
use Rattle.steps_base.specs.declared.acts.Wakes.TheVariants as wakes
use Rattle.steps_base.specs.declared.acts.Reply.{Reply}
use Rattle.steps_base.specs.declared.acts.Reply.TheVariants.{Value, TakenBy, MovedTo, HandedBy, Late, Woken}
use Rattle.steps_base.specs.declared.acts.Reply.TheVariants.{Closed}
use Rattle.steps_base.specs.declared.acts.Next.{Next}
use Rattle.steps_base.specs.declared.acts.Next.TheVariants as next
use Rattle.spec_locks.specs.declared.calls.Call.{Call}
use Rattle.spec_locks.specs.declared.kinds.Kind.{Kind}
use Rattle.spec_locks.specs.declared.kinds.Kind.TheVariants as kind
use Rattle.spec_locks.specs.Kinds.{is_condvar}
use Rattle.spec_locks.specs.declared.calls.Turn.{Turn}
use Rattle.spec_locks.specs.declared.calls.Turn.TheVariants as turn
use Rattle.spec_locks.specs.declared.calls.Step.{Step}
use Rattle.lot_steps.specs.declared.places.Place.{Place}
use Rattle.lot_steps.specs.declared.places.Place.TheVariants.{Idle, Mutex, RwLock, Once, Condvar, Semaphore}
use Rattle.core_base.specs.declared.keys.Line.{Line}
use Rattle.core_base.specs.Keys.{key_of}
use Rattle.steps_rwlock_fair.specs.declared.places.RwLockCallPlace.{RwLockCallPlace}
use Rattle.steps_rwlock_fair.specs.FairSteps.{call_next}
use Rattle.steps_rwlock_fair.specs.FairProfiles.{call_profile}
use Rattle.steps_once.specs.declared.places.OncePlace.{OncePlace}
use Rattle.steps_once.specs.OnceSteps.{once_next}
use Rattle.steps_once.specs.OnceProfiles.{once_profile}
use Rattle.steps_semaphore.specs.declared.places.SemaphorePlace.{SemaphorePlace}
use Rattle.steps_semaphore.specs.SemaphoreProfiles.{semaphore_profile}
use Rattle.steps_semaphore.specs.SemaphoreSteps.{semaphore_next}
use Rattle.steps_mutex.specs.declared.lock.Entry.{Entry}
use Rattle.steps_mutex.specs.declared.places.MutexPlace.{MutexPlace}
use Rattle.steps_mutex.specs.declared.places.MutexPlace.TheVariants.{Lock, TryLock, Unlock, UnlockFair, Bump}
use Rattle.steps_mutex.specs.declared.places.MutexPlace.TheVariants.{HandOff}
use Rattle.steps_mutex.specs.declared.lock.LockAt.{LockAt}
use Rattle.steps_base.specs.Acts.{takes_effect, holds, outcome_of}
use Rattle.spec_locks.specs.declared.outcomes.Outcome.{Outcome}
use Rattle.spec_locks.specs.declared.outcomes.Outcome.TheVariants as outcome
use Rattle.lot_steps.specs.Steps.{next_act}
use Rattle.core_base.specs.declared.requeues.Requeue.{Requeue}
use Rattle.core_base.specs.declared.requeues.Requeue.TheVariants as requeue
use Rattle.core_base.specs.declared.lock_picker.LockPicker.{LockPicker}
use Rattle.core_base.specs.declared.picks.Pick.{Pick}
use Rattle.core_base.specs.declared.picks.Pick.TheVariants.{Unpark, Skip, Stop}
use Rattle.core_base.specs.Lines.{threads_of}
use Rattle.core_base.specs.Picks.{without_picked, without_lock_picked, lock_picked, lock_answer, next_picker}
use Rattle.core_base.specs.Picks.{lock_picker}
use Rattle.core_base.specs.Requeues.{taken_by, moved_by}
use Rattle.lot_machine.proofs.QueueLemmas.{told_count}
use Rattle.steps_mutex.specs.MutexSteps.{is_timed, mutex_next}
use Rattle.spec_locks.specs.Calls.{lock_in}
use Rattle.steps_base.specs.Profiles.{in_line}
use Rattle.spec_locks.specs.Sites.{Main}
use Rattle.lot_steps.specs.Steps.{is_idle, first_place, act_of, next_place, mutex_goes, rwlock_goes}
use Rattle.lot_steps.specs.Steps.{once_goes, respins_from, late_key, key_in, HasKeys, condvar_goes}
use Rattle.lot_steps.specs.Steps.{semaphore_goes}
use Rattle.lot_machine.specs.Machine.{first_word, state_after_hand_over_by, hand_over_told, State, unlocked}
use Rattle.lot_machine.specs.Machine.{opening, kind_at, word_at, place_at, queue_at, put}
use Rattle.lot_machine.specs.Machine.{state_after_operation, state_with_sections, queues_with_last}
use Rattle.lot_machine.specs.Machine.{queues_without_first, queues_without, state_after_park}
use Rattle.lot_machine.specs.Machine.{state_after_reply, place_after_telling, state_after_telling}
use Rattle.lot_machine.specs.Machine.{state_after_hand_over, state_after_taking, state_after_wake}
use Rattle.lot_machine.specs.Machine.{state_after_act, state_after_takes, state_after_take_first}
use Rattle.lot_machine.specs.Machine.{state_after_requeue, queues_requeued, left_in_line, moved_under}
use Rattle.lot_machine.specs.Machine.{moved_threads, listed, places_told, state_after_going, going_outcome}
use Rattle.lot_machine.specs.Machine.{closed_place, state_after_close, close_outcome, can_close, runs_closure}
use Rattle.lot_machine.specs.Machine.{can_do, state_after_go, reply_to, state_after_begin, can_begin}
use Rattle.lot_machine.specs.Machine.{is_open_to, state_after_spin, state_after_late, state_after_late_on}
use Rattle.lot_machine.specs.Machine.{state_after_turn, can_turn, is_possible, after, state_after_look}
use Rattle.lot_machine.specs.Machine.{look_outcome, spin_outcome, can_spin, can_go, go_outcome}
use Rattle.steps_mutex.specs.declared.lock.LockAt.TheVariants as lock
use Rattle.steps_base.specs.declared.acts.TakeWhich.TheVariants as whom
use Rattle.lot_machine.specs.Fits.{ActFits, AllBelow, IsOfItsKind, IsWellFormed, PlaceFits, SameSize}
use Rattle.lot_machine.specs.Fits.{ShowsPlainMutex}
use Rattle.steps_condvar.specs.declared.notify.NotifyAt.{NotifyAt}
use Rattle.steps_condvar.specs.declared.places.CondvarPlace.{CondvarPlace}
use Rattle.steps_condvar.specs.declared.places.CondvarPlace.TheVariants.{Wait, Look, Notify}
use Rattle.steps_condvar.specs.declared.wait.WaitAt.{WaitAt}
use Rattle.steps_condvar.specs.declared.wait.WaitAt.TheVariants as wait
use Rattle.steps_condvar.specs.CondvarSteps.{in_notify, in_wait, next_notify, next_wait}
use Rattle.lot_machine.proofs.Acted.{Befalls, acted_keeps}
use Rattle.lot_machine.proofs.Shown.{AreShown, Writes, performed_shown, writes}
use Rattle.lot_machine.proofs.Suits.{ReplyFits, SeesFit, call_suits, next_suits}
use Rattle.lot_machine.proofs.Opening.{idle_at}
use Rattle.lot_machine.proofs.Looks.{look}
use Rattle.lot_machine.proofs.KindsStay.{performed_kinds}
pub use Rattle.lot_machine.proofs.KindsStay.{set_all}
pub use Rattle.lot_machine.proofs.Suits.{Suits, both}
use Rattle.lot_machine.proofs.Closures.{closes_freely}

-- a lock's main key has its section and its queue
pub main_key_there : (w : State) (l : ℕ) → IsWellFormed w → l < length w.locks → 2 * l < length w.sections
main_key_there w l s lt = let n : length w.sections ≡ 2 * length w.locks = s.sections in omega arith

pub main_line_there : (w : State) (l : ℕ) → IsWellFormed w → l < length w.locks → 2 * l < length w.queues
main_line_there w l s lt = let m : length w.queues ≡ length w.sections = s.queues in let key : 2 * l
    < length w.sections = main_key_there w l s lt in omega arith

-- ---------------------------------------------------------------- waiters

below_without : (n t : ℕ) (xs : List Waiter) → AllBelow n xs → AllBelow n (without t xs)
below_without n t [] h = tt
below_without n t (x ∷ xs) h = either (not (x.thread == t)) (below_without n t xs h.1)
  where
    either : (b : Bool) → AllBelow n (without t xs) → AllBelow n (cond b (x ∷ without t xs) (without t xs))
    either true more = (h.0, more)
    either false more = more

below_after : (n key t : ℕ) (wanted : Want) (xs : List Waiter) → t < n → AllBelow n xs
    → AllBelow n (xs ++ waiter key t wanted ∷ [])
below_after n key t wanted [] lt h = (lt, tt)
below_after n key t wanted (x ∷ xs) lt h = (h.0, below_after n key t wanted xs lt h.1)

below_rest : (n : ℕ) (xs : List Waiter) → AllBelow n xs → AllBelow n (drop 1 xs)
below_rest n [] h = tt
below_rest n (x ∷ xs) h = h.1

below_both : (n : ℕ) (xs ys : List Waiter) → AllBelow n xs → AllBelow n ys → AllBelow n (xs ++ ys)
below_both n [] ys h k = k
below_both n (x ∷ xs) ys h k = (h.0, below_both n xs ys h.1 k)

below_unpicked : (n : ℕ) (picker : LockPicker) (key : ℕ) (xs : List Waiter) → AllBelow n xs
    → AllBelow n (without_picked lock_answer next_picker picker key xs)
below_unpicked n picker key [] h = tt
below_unpicked n picker key (x ∷ xs) h = either (x.key == key) (lock_answer picker x.want)
    (below_unpicked n (next_picker picker x.want) key xs h.1) (below_unpicked n picker key xs h.1)
  where
    either : (b : Bool) (answer : Pick)
        → AllBelow n (without_picked lock_answer next_picker (next_picker picker x.want) key xs)
        → AllBelow n (without_picked lock_answer next_picker picker key xs) → AllBelow n (if b
        then (elim answer [
          | Unpark ↦ without_picked lock_answer next_picker (next_picker picker x.want) key xs
          | Skip ↦ x ∷ without_picked lock_answer next_picker (next_picker picker x.want) key xs
          | Stop ↦ x ∷ xs
        ])
        else (x ∷ without_picked lock_answer next_picker picker key xs))
    either true Unpark more same = more
    either true Skip more same = (h.0, more)
    either true Stop more same = h
    either false answer more same = (h.0, same)

below_moved : (n key : ℕ) (xs : List Waiter) → AllBelow n xs → AllBelow n (moved_under key xs)
below_moved n key [] h = tt
below_moved n key (x ∷ xs) h = (h.0, below_moved n key xs h.1)

below_first : (n : ℕ) (xs : List Waiter) → AllBelow n xs → AllBelow n (moved_by requeue.One xs)
below_first n [] h = tt
below_first n (x ∷ xs) h = (h.0, tt)

below_requeued : (n key : ℕ) (how : Requeue) (xs : List Waiter) → AllBelow n xs
    → AllBelow n (moved_under key (moved_by how xs))
below_requeued n key requeue.One xs h = below_moved n key (moved_by requeue.One xs)
    (below_first n xs h)
below_requeued n key requeue.All xs h = below_moved n key xs h
below_requeued n key requeue.TakeOneMoveRest xs h = below_moved n key (drop 1 xs)
    (below_rest n xs h)

below_after_requeue : (n : ℕ) (how : Requeue) (xs : List Waiter) → AllBelow n xs
    → AllBelow n (left_in_line how xs)
below_after_requeue n requeue.One xs h = below_rest n xs h
below_after_requeue n requeue.All xs h = tt
below_after_requeue n requeue.TakeOneMoveRest xs h = tt

-- ---------------------------------------------------------------- lines and sections

-- tells what the shape says of them
record IsLined (w : State) : Type 0 where
  few : length w.locks ≤ 256
  sections : length w.sections ≡ 2 * length w.locks
  queues : length w.queues ≡ length w.sections
  waiting : (key : ℕ) → AllBelow (length w.places) (queue_at w key)

lined : (w : State) → IsWellFormed w → IsLined w
lined w s = record { few = s.few; sections = s.sections; queues = s.queues; waiting = s.waiting }

put_lined : (w : State) (t : ℕ) (p : Place) → IsLined w → IsLined (put w t p)
put_lined w t p s = record {
  few = s.few;
  sections = s.sections;
  queues = s.queues;
  waiting = λ key. rw (length-set w.places t p) (s.waiting key);
}

filled_lined : (w : State) (keys : Keys) (who : Option ℕ) → IsLined w
    → IsLined (state_with_sections w keys who)
filled_lined w (One key) who s = record {
  few = s.few;
  sections = rw (length-set w.sections key who) s.sections;
  queues = rw (length-set w.sections key who) s.queues;
  waiting = s.waiting;
}
filled_lined w (Two first second) who s = record {
  few = s.few;
  sections = rw (length-set (set w.sections first who) second who, length-set w.sections first who)
      s.sections;
  queues = rw (length-set (set w.sections first who) second who, length-set w.sections first who) s.queues;
  waiting = s.waiting;
}

operated_lined : (w : State) (t : ℕ) (p : Place) (l : ℕ) (f : Op) → IsLined w
    → IsLined (state_after_operation w t p l f)
operated_lined w t p l f s = record {
  few = rw (length-set w.locks l _) s.few;
  sections = rw (length-set w.locks l _) s.sections;
  queues = s.queues;
  waiting = s.waiting;
}

queues_lined : (w : State) (queues : List (List Waiter)) → IsLined w → length queues ≡ length w.queues
    → ((key : ℕ) → AllBelow (length w.places) (get_or queues key [])) → IsLined (record w { queues = queues })
queues_lined w queues s e h = record {
  few = s.few;
  sections = s.sections;
  queues = e ∙ s.queues;
  waiting = h;
}

stood_lined : (w : State) (t key : ℕ) (wanted : Want) → IsLined w → t < length w.places
    → IsLined (record w { queues = queues_with_last w.queues key t wanted })
stood_lined w t key wanted s lt = queues_lined w (queues_with_last w.queues key t wanted) s
    (length-set (map (without t) w.queues) key _ ∙ length-map w.queues (without t))
    (set_all (AllBelow (length w.places)) (map (without t) w.queues) key _ []
    (below_after (length w.places) key t wanted _ lt (others key)) others)
  where
    others : (k : ℕ) → AllBelow (length w.places) (get_or (map (without t) w.queues) k [])
    others k = rw (get_or-map (without t) w.queues k []) (below_without (length w.places) t (queue_at w k)
        (s.waiting k))

parked_lined : (w : State) (t l key : ℕ) (check : Check) (wanted : Want) → IsLined w → t < length w.places
    → IsLined (state_after_park w t l key check wanted)
parked_lined w t l key check wanted s lt = either (holds check (word_at w l))
  where
    either : (b : Bool) → IsLined (if b then record w { queues = queues_with_last w.queues key t wanted }
        else w)
    either false = s
    either true = stood_lined w t key wanted s lt

took_lined : (w : State) (t key : ℕ) → IsLined w → IsLined (state_after_take_first w t key)
took_lined w t key s = by_first (first_of (queue_at w key))
  where
    rest : IsLined (record w { queues = queues_without_first w.queues key })
    rest = queues_lined w (queues_without_first w.queues key) s (length-set w.queues key _)
        (set_all (AllBelow (length w.places)) w.queues key _ [] (below_rest (length w.places) (queue_at w key)
        (s.waiting key)) s.waiting)

    by_first : (o : Option ℕ) → IsLined
        (state_after_taking (record w { queues = queues_without_first w.queues key }) t o)
    by_first None = rest
    by_first (Some u) = put_lined (record w { queues = queues_without_first w.queues key }) u _ rest

-- threads are told something, and lines change
led_lined : (w : State) (queues : List (List Waiter)) (places : List Place) → IsLined w → length places
    ≡ length w.places → length queues ≡ length w.queues
    → ((key : ℕ) → AllBelow (length w.places) (get_or queues key [])) → IsLined (record w {
      queues = queues;
      places = places;
    })
led_lined w queues places s threads lines below = record {
  few = s.few;
  sections = s.sections;
  queues = lines ∙ s.queues;
  waiting = λ key. rw threads (below key);
}

takes_lined : (w : State) (t key : ℕ) (taken : List ℕ) (left : List Waiter) → IsLined w
    → AllBelow (length w.places) left → IsLined (state_after_takes w t key taken left)
takes_lined w t key taken left s below = led_lined w (set w.queues key left)
    (places_told (TakenBy t) taken w.places) s (told_count (TakenBy t) taken w.places)
    (length-set w.queues key left)
    (set_all (AllBelow (length w.places)) w.queues key left [] below s.waiting)

requeued_lined : (w : State) (t from to : ℕ) (how : Requeue) → IsLined w
    → IsLined (state_after_requeue w t from to how)
requeued_lined w t from to how s = led_lined w (queues_requeued w.queues from to how)
    (places_told (MovedTo to) (moved_threads how (threads_of (queue_at w from)))
    (places_told (TakenBy t) (listed (taken_by how (queue_at w from))) w.places)) s
    (told_count (MovedTo to) (moved_threads how (threads_of (queue_at w from)))
    (places_told (TakenBy t) (listed (taken_by how (queue_at w from))) w.places)
    ∙ told_count (TakenBy t) (listed (taken_by how (queue_at w from))) w.places)
    (length-set (set w.queues from (left_in_line how (queue_at w from))) to _ ∙ length-set w.queues from _)
    (set_all (AllBelow (length w.places)) (set w.queues from (left_in_line how (queue_at w from))) to _ []
    (below_both (length w.places) _ _ (stays to) (below_requeued (length w.places) to how
    (queue_at w from) (s.waiting from))) stays)
  where
    stays : (key : ℕ) → AllBelow (length w.places)
        (get_or (set w.queues from (left_in_line how (queue_at w from))) key [])
    stays = set_all (AllBelow (length w.places)) w.queues from (left_in_line how (queue_at w from)) []
        (below_after_requeue (length w.places) how (queue_at w from) (s.waiting from)) s.waiting

removed_lined : (w : State) (t : ℕ) → IsLined w → IsLined (record w { queues = queues_without w.queues t })
removed_lined w t s = queues_lined w (queues_without w.queues t) s (length-map w.queues (without t))
    (λ k. rw (get_or-map (without t) w.queues k []) (below_without (length w.places) t (queue_at w k)
    (s.waiting k)))

given_lined : (w : State) (t : ℕ) (p : Place) (l : ℕ) (f : Op) → IsLined w
    → IsLined (state_after_hand_over w t p l f)
given_lined w t p l f s = record {
  few = rw (length-set w.locks l _) s.few;
  sections = rw (length-set w.locks l _) s.sections;
  queues = s.queues;
  waiting = s.waiting;
}

told_lined : (w : State) (t : ℕ) (reply : Reply) → IsLined w → IsLined (state_after_telling w t reply)
told_lined w t reply s = record {
  few = s.few;
  sections = s.sections;
  queues = s.queues;
  waiting = λ key. rw (length-map w.places (place_after_telling t reply)) (s.waiting key);
}

awakened_lined : (w : State) (t : ℕ) (x : Wakes) → IsLined w → IsLined (state_after_wake w t x)
awakened_lined w t wakes.Nobody s = s
awakened_lined w t (wakes.All note) s = told_lined w t (Woken note) s

performed_lined : (w : State) (t : ℕ) (p : Place) (act : Act) → IsLined w → t < length w.places
    → IsLined (state_after_act w t p act)
performed_lined w t p (Word l f) s lt = operated_lined w t p l f s
performed_lined w t p (HandOver l f) s lt = either (takes_effect f (word_at w l))
  where
    either : (b : Bool) → IsLined (state_after_hand_over_by b w t p l f)
    either true = told_lined (state_after_hand_over w t p l f) t (hand_over_told w t l)
        (given_lined w t p l f s)
    either false = operated_lined w t p l f s
performed_lined w t p (Enter keys) s lt = filled_lined w keys (Some t) s
performed_lined w t p (Park l key check wanted) s lt = parked_lined w t l key check wanted s lt
performed_lined w t p (Stand key wanted) s lt = stood_lined w t key wanted s lt
performed_lined w t p (Take key whom.First) s lt = took_lined w t key s
performed_lined w t p (Take key (whom.Picked start recursive)) s lt =
    takes_lined w t key (threads_of (lock_picked start recursive (queue_at w key)))
    (without_lock_picked start recursive key (queue_at w key)) s (below_unpicked (length w.places)
    (lock_picker start recursive) key (queue_at w key) (s.waiting key))
performed_lined w t p (Take key whom.All) s lt = takes_lined w t key (threads_of (queue_at w key))
    [] s tt
performed_lined w t p (act.Requeue from to how) s lt = requeued_lined w t from to how s
performed_lined w t p (Remove key) s lt = removed_lined w t s
performed_lined w t p (Leave keys x) s lt = awakened_lined (state_with_sections w keys None) t x
    (filled_lined w keys None s)
performed_lined w t p act s lt = s

-- an act changes neither the number of threads nor that of locks
filled_counts : (w : State) (keys : Keys) (who : Option ℕ)
    → (length (state_with_sections w keys who).places ≡ length w.places)
    × (length (state_with_sections w keys who).locks ≡ length w.locks)
filled_counts w (One key) who = (refl, refl)
filled_counts w (Two first second) who = (refl, refl)

pub performed_counts : (w : State) (t : ℕ) (p : Place) (act : Act)
    → (length (state_after_act w t p act).places ≡ length w.places)
    × (length (state_after_act w t p act).locks ≡ length w.locks)
performed_counts w t p (Word l f) = (refl, length-set w.locks l _)
performed_counts w t p (HandOver l f) = either (takes_effect f (word_at w l))
  where
    either : (b : Bool) → (length (state_after_hand_over_by b w t p l f).places ≡ length w.places)
        × (length (state_after_hand_over_by b w t p l f).locks ≡ length w.locks)
    either true = (length-map w.places (place_after_telling t (hand_over_told w t l)), length-set w.locks l _)
    either false = (refl, length-set w.locks l _)
performed_counts w t p (Enter keys) = filled_counts w keys (Some t)
performed_counts w t p (Park l key check wanted) = either (holds check (word_at w l))
  where
    either : (b : Bool) → (length (if b then record w { queues = queues_with_last w.queues key t wanted }
        else w).places ≡ length w.places)
        × (length (if b then record w { queues = queues_with_last w.queues key t wanted } else w).locks
        ≡ length w.locks)
    either true = (refl, refl)
    either false = (refl, refl)
performed_counts w t p (Take key whom.First) = by_first (first_of (queue_at w key))
  where
    by_first : (o : Option ℕ) → (length
        (state_after_taking (record w { queues = queues_without_first w.queues key }) t o).places
        ≡ length w.places) × (length (state_after_taking
        (record w { queues = queues_without_first w.queues key }) t o).locks ≡ length w.locks)
    by_first None = (refl, refl)
    by_first (Some u) = (length-set w.places u _, refl)
performed_counts w t p (Take key (whom.Picked start recursive)) =
    (told_count (TakenBy t) (threads_of (lock_picked start recursive (queue_at w key))) w.places, refl)
performed_counts w t p (Take key whom.All) =
    (told_count (TakenBy t) (threads_of (queue_at w key)) w.places, refl)
performed_counts w t p (act.Requeue from to how) = (
  told_count (MovedTo to) (moved_threads how (threads_of (queue_at w from)))
      (places_told (TakenBy t) (listed (taken_by how (queue_at w from))) w.places)
      ∙ told_count (TakenBy t) (listed (taken_by how (queue_at w from))) w.places,
  refl,
)
performed_counts w t p (Leave keys wakes.Nobody) = filled_counts w keys None
performed_counts w t p (Leave keys (wakes.All note)) = (
  length-map (state_with_sections w keys None).places (place_after_telling t (Woken note))
      ∙ (filled_counts w keys None).0,
  (filled_counts w keys None).1,
)
performed_counts w t p act = (refl, refl)

-- ---------------------------------------------------------------- states

pub suits : (w : State) → IsWellFormed w → (t : ℕ) → Suits (length w.locks) (kind_at w) (place_at w t)
suits w s t = (s.places t, s.kinds t)

well_formed : (w : State) → IsLined w → ((t : ℕ) → Suits (length w.locks) (kind_at w) (place_at w t))
    → AreShown w
    → IsWellFormed w
well_formed w s suit shown = record {
  few = s.few;
  sections = s.sections;
  queues = s.queues;
  places = λ t. (suit t).0;
  kinds = λ t. (suit t).1;
  shown = shown;
  waiting = s.waiting;
}

pub put_well_formed : (w : State) (t : ℕ) (p : Place) → IsWellFormed w → Suits (length w.locks) (kind_at w) p
    → IsWellFormed (put w t p)
put_well_formed w t p s h = well_formed (put w t p) (put_lined w t p (lined w s))
    (set_all (Suits (length w.locks) (kind_at w)) w.places t p Idle h (suits w s)) s.shown

befallen_well_formed : (w : State) (t : ℕ) (reply : Reply) → IsWellFormed w → ReplyFits (length w.locks)
    (kind_at w) (place_at w t) reply → IsWellFormed (state_after_reply w t reply)
befallen_well_formed w t reply s r = put_well_formed w t (next_place (place_at w t) reply) s
    (next_suits (length w.locks) (kind_at w) (place_at w t) reply (suits w s t) r)

filled_well_formed : (w : State) (keys : Keys) (who : Option ℕ) → IsWellFormed w
    → IsWellFormed (state_with_sections w keys who)
filled_well_formed w (One key) who s = well_formed (state_with_sections w (One key) who)
    (filled_lined w (One key) who (lined w s)) (suits w s) s.shown
filled_well_formed w (Two first second) who s = well_formed (state_with_sections w (Two first second) who)
    (filled_lined w (Two first second) who (lined w s)) (suits w s) s.shown

-- all that befalls a thread suits it
befallen_fits : (locks : ℕ) (kinds : ℕ → Kind) (p : Place) (reply : Reply) → Befalls reply
    → ReplyFits locks kinds p reply
befallen_fits locks kinds p (TakenBy u) h = tt
befallen_fits locks kinds p (MovedTo key) h = tt
befallen_fits locks kinds p (HandedBy u alone) h = tt
befallen_fits locks kinds p (Woken n) h = tt
befallen_fits locks kinds p reply h = absurd h

module _ (w : State) (t : ℕ) (p : Place) (a : Act) where
  abbrev done : State
  done = state_after_act w t p a

  same_kinds : kind_at done ≡ kind_at w
  same_kinds i k = performed_kinds w t p a k i

  -- the locks are as many, and of the same kinds
  suits_then : (q : Place) → Suits (length w.locks) (kind_at w) q → Suits (length done.locks) (kind_at done) q
  suits_then q h = subst (λ n. Suits n (kind_at done) q) (sym (performed_counts w t p a).1)
      (subst (λ f. Suits (length w.locks) f q) (sym same_kinds) h)

  shows_then : (v : ℕ) → ShowsPlainMutex (length w.locks) (kind_at w) v → ShowsPlainMutex (length done.locks)
      (kind_at done) v
  shows_then v h = subst (λ n. ShowsPlainMutex n (kind_at done) v) (sym (performed_counts w t p a).1)
      (subst (λ f. ShowsPlainMutex (length w.locks) f v) (sym same_kinds) h)

  performed_suits : IsWellFormed w → (u : ℕ) → Suits (length w.locks) (kind_at w) (place_at done u)
  performed_suits s u = acted_keeps (Suits (length w.locks) (kind_at w)) w u t p a
      (λ loud r b q h. next_suits (length w.locks) (kind_at w) q r h (befallen_fits (length w.locks)
      (kind_at w) q r b)) (suits w s u)

  performed_well_formed : IsWellFormed w → t < length w.places → Writes w a → IsWellFormed done
  performed_well_formed s lt writes = well_formed done (performed_lined w t p a (lined w s) lt)
      (λ u. suits_then (place_at done u) (performed_suits s u))
      (λ l of. shows_then (word_at done l) (performed_shown w t p a s.shown writes l of))

-- a thread that was there is there after it
pub acted_there : (w v : State) (t u : ℕ) (p : Place) (act : Act) (b : Bool)
    → v ≡ (if b then state_after_act w u p act else w) → t < length w.places → t < length v.places
acted_there w v t u p act b e lt = rw e (either b)
  where
    either : (b : Bool) → t < length (if b then state_after_act w u p act else w).places
    either true = rw (performed_counts w u p act).0 lt
    either false = lt

-- where the reply to the act of a place leads
pub went : (w v u : State) (t : ℕ) (p : Place) (a : Act) (r : Reply) (b : Bool) → a ≡ act_of p
    → can_do w a ≡ b
    → Some r ≡ (if b then Some (reply_to w t a) else None) → v ≡ (if b then state_after_act w t p a else w)
    → u ≡ put v t (next_place (place_at v t) r)
    → u ≡ (if can_do w (act_of p) then state_after_going w t p else w)
went w v u t p a r true ea eb er ev eu = rw (← ea, eb) (let same : r ≡ reply_to w t a = cc
    in rw (eu, ev, same, ea) refl)
went w v u t p a r false ea eb er ev eu = absurd cc

pub went_told : (w v : State) (t : ℕ) (p : Place) (a : Act) (r : Reply) (b : Bool) → a ≡ act_of p
    → can_do w a ≡ b
    → Some r ≡ (if b then Some (reply_to w t a) else None) → v ≡ (if b then state_after_act w t p a else w)
    → (o : Outcome) → o ≡ outcome_of (next_act (place_at v t) r)
    → o ≡ (if can_do w (act_of p) then going_outcome w t p else outcome.NotNow)
went_told w v t p a r true ea eb er ev o eo = rw (← ea, eb) (let same : r ≡ reply_to w t a = cc
    in rw (eo, ev, same, ea) refl)
went_told w v t p a r false ea eb er ev o eo = absurd cc

abbrev pub IsTimelyReply : Reply → Type 0
IsTimelyReply Late = ⊥
IsTimelyReply reply = Unit {0}

-- no reply to an act says that a thread is late
replies_timely : (w : State) (t : ℕ) (a : Act) → IsTimelyReply (reply_to w t a)
replies_timely w t (Take key whom.First) = tt
replies_timely w t (Take key (whom.Picked start recursive)) = tt
replies_timely w t (Take key whom.All) = tt
replies_timely w t a = tt

-- only a notification's first step depends on what it sees
abbrev pub LooksNot : Place → Type 0
LooksNot (Condvar l (Look all)) = ⊥
LooksNot p = Unit {0}

looks_not_next : (p : Place) (reply : Reply) → LooksNot p → LooksNot (next_place p reply)
looks_not_next Idle reply h = tt
looks_not_next (Mutex l at) reply h = by_next (mutex_next at reply)
  where
    by_next : (n : Next MutexPlace) → LooksNot (mutex_goes l n)
    by_next (next.At at2) = tt
    by_next (next.End answer) = tt
looks_not_next (RwLock l a at) reply h = by_next (call_next a at reply)
  where
    by_next : (n : Next RwLockCallPlace) → LooksNot (rwlock_goes l a n)
    by_next (next.At at2) = tt
    by_next (next.End answer) = tt
looks_not_next (Once l at) reply h = by_next (once_next at reply)
  where
    by_next : (n : Next OncePlace) → LooksNot (once_goes l n)
    by_next (next.At at2) = tt
    by_next (next.End answer) = tt
looks_not_next (Semaphore l at) reply h = by_next (semaphore_next at reply)
  where
    by_next : (n : Next SemaphorePlace) → LooksNot (semaphore_goes l n)
    by_next (next.At at2) = tt
    by_next (next.End answer) = tt
looks_not_next (Condvar l (Wait m timed at)) reply h = by_next (next_wait m timed at reply)
  where
    by_next : (n : Next WaitAt) → LooksNot (condvar_goes l (in_wait m timed n))
    by_next (next.At at2) = tt
    by_next (next.End answer) = tt
looks_not_next (Condvar l (Notify all m at)) reply h = by_next (next_notify all m at reply)
  where
    by_next : (n : Next NotifyAt) → LooksNot (condvar_goes l (in_notify all m n))
    by_next (next.At at2) = tt
    by_next (next.End answer) = tt
looks_not_next (Condvar l (Look all)) reply h = absurd h

others_see : (locks : ℕ) (kinds : ℕ → Kind) (p : Place) (seen : ℕ) → LooksNot p → SeesFit locks kinds p seen
others_see locks kinds Idle seen h = tt
others_see locks kinds (Mutex l at) seen h = tt
others_see locks kinds (RwLock l a at) seen h = tt
others_see locks kinds (Once l at) seen h = tt
others_see locks kinds (Semaphore l at) seen h = tt
others_see locks kinds (Condvar l (Wait m timed at)) seen h = tt
others_see locks kinds (Condvar l (Notify all m at)) seen h = tt
others_see locks kinds (Condvar l (Look all)) seen h = absurd h

others_hear : (locks : ℕ) (kinds : ℕ → Kind) (p : Place) (reply : Reply) → LooksNot p → IsTimelyReply reply
    → ReplyFits locks kinds p reply
others_hear locks kinds p (Value seen) h timely = others_see locks kinds p seen h
others_hear locks kinds p Late h timely = absurd timely
others_hear locks kinds p reply h timely = tt

seeing_fits : (w : State) (t : ℕ) (p : Place) → place_at w t ≡ p → LooksNot p
    → ReplyFits (length w.locks) (kind_at w) (place_at (state_after_act w t p (act_of p)) t)
    (reply_to w t (act_of p))
seeing_fits w t p is not_looking = others_hear (length w.locks) (kind_at w)
    (place_at (state_after_act w t p (act_of p)) t) (reply_to w t (act_of p))
    (acted_keeps LooksNot w t t p (act_of p) (λ loud r b q h. looks_not_next q r h)
    (subst LooksNot (sym is) not_looking)) (replies_timely w t (act_of p))

-- a notification that looks sees a mutex that is there, and any other reply suits any place after the act
reply_fits : (w : State) (t : ℕ) (p : Place) → IsWellFormed w → place_at w t ≡ p
    → ReplyFits (length w.locks) (kind_at w) (place_at (state_after_act w t p (act_of p)) t)
    (reply_to w t (act_of p))
reply_fits w t (Condvar l (Look all)) s is =
    let kind : IsOfItsKind (kind_at w) (Condvar l (Look all)) = subst (IsOfItsKind (kind_at w)) is (s.kinds t)
    in
    subst (λ q. SeesFit (length w.locks) (kind_at w) q (word_at w l)) (sym is) (s.shown l kind.0)
reply_fits w t Idle s is = seeing_fits w t Idle is tt
reply_fits w t (Mutex l at) s is = seeing_fits w t (Mutex l at) is tt
reply_fits w t (RwLock l a at) s is = seeing_fits w t (RwLock l a at) is tt
reply_fits w t (Once l at) s is = seeing_fits w t (Once l at) is tt
reply_fits w t (Semaphore l at) s is = seeing_fits w t (Semaphore l at) is tt
reply_fits w t (Condvar l (Wait m timed at)) s is = seeing_fits w t (Condvar l (Wait m timed at)) is tt
reply_fits w t (Condvar l (Notify all m at)) s is = seeing_fits w t (Condvar l (Notify all m at)) is tt

went_well_formed : (w : State) (t : ℕ) (p : Place) → IsWellFormed w → place_at w t ≡ p → t < length w.places
    → IsWellFormed (state_after_going w t p)
went_well_formed w t p s is lt =
    let v = state_after_act w t p (act_of p) in
    put_well_formed v t (next_place (place_at v t) (reply_to w t (act_of p)))
    (performed_well_formed w t p (act_of p) s
    lt (writes w p s (subst (Suits (length w.locks) (kind_at w)) is (suits w s t))))
    (suits_then w t p (act_of p) (next_place (place_at v t) (reply_to w t (act_of p)))
    (next_suits (length w.locks) (kind_at w) (place_at v t) (reply_to w t (act_of p))
    (performed_suits w t p (act_of p) s t) (reply_fits w t p s is)))

gone_well_formed : (w : State) (t : ℕ) → IsWellFormed w → t < length w.places
    → IsWellFormed (state_after_go w t)
gone_well_formed w t s lt = went_well_formed w t (place_at w t) s refl lt

-- where a closure's answer leads
pub closed_fits : (w : State) (t : ℕ) (succeeded : Bool) → IsWellFormed w → Suits (length w.locks) (kind_at w)
    (closed_place w t succeeded)
closed_fits w t succeeded s = next_suits (length w.locks) (kind_at w) (place_at w t) (Closed succeeded)
    (suits w s t) tt

begun_well_formed : (w : State) (t : ℕ) (c : Call) → IsWellFormed w → can_begin w t c ≡ true
    → IsWellFormed (state_after_begin w t c)
begun_well_formed w t c s can = put_well_formed w t (first_place (kind_at w (lock_in c)) c) s
    (call_suits w t c (both (is_idle (place_at w t)) (is_open_to w t c) can).1)

-- a thread stands where it looks
pub looking_well_formed : (w : State) (t : ℕ) (q : Place) → IsWellFormed w → respins_from (place_at w t)
    ≡ Some q
    → IsWellFormed (put w t q)
looking_well_formed w t q s is = let k = look (place_at w t) q is
    in put_well_formed w t q s (k.fits (length w.locks) (s.places t), k.kind (kind_at w) (s.kinds t))

-- A thread that looks loads the word of a lock that is there.
pub looks_fit : (w : State) (t : ℕ) (q : Place) → IsWellFormed w → t < length w.places
    → respins_from (place_at w t) ≡ Some q → ActFits (put w t q) (act_of (place_at (put w t q) t))
looks_fit w t q s lt is = let k = look (place_at w t) q is in
    subst (λ p. ActFits (put w t q) (act_of p)) (sym (get_or-set_same w.places t q Idle lt))
    (subst (ActFits (put w t q)) (sym k.loads) (k.there (length w.locks) (s.places t)))

below : (locks l : ℕ) → locks ≤ 256 → l < locks → l < 2 ^ 63
below locks l few lt = omega arith

-- the keys of a place are numbers
pub has_keys : (locks : ℕ) (p : Place) → locks ≤ 256 → PlaceFits locks p → HasKeys p
has_keys locks Idle few h = tt
has_keys locks (Mutex l at) few h = below locks l few h.0
has_keys locks (RwLock l a at) few h = below locks l few h
has_keys locks (Once l at) few h = below locks l few h
has_keys locks (Semaphore l at) few h = below locks l few h
has_keys locks (Condvar l (Wait m timed at)) few h = (below locks l few h.0, below locks m few h.1)
has_keys locks (Condvar l (Look all)) few h = (below locks l few h.0, tt)
has_keys locks (Condvar l (Notify all m at)) few h = (below locks l few h.0, below locks m few h.1)

pub looks_keyed : (w : State) (t : ℕ) (q : Place) → IsWellFormed w → respins_from (place_at w t) ≡ Some q
    → HasKeys (place_at (put w t q) t)
looks_keyed w t q s is = has_keys (length w.locks) (place_at (put w t q) t) s.few
    ((looking_well_formed w t q s is).places t)

looks_go : (w : State) (t : ℕ) (q : Place) → t < length w.places → respins_from (place_at w t) ≡ Some q
    → can_go (put w t q) t ≡ true
looks_go w t q lt is = ap (λ p. can_do (put w t q) (act_of p)) (get_or-set_same w.places t q Idle lt)
    ∙ ap (can_do (put w t q)) (look (place_at w t) q is).loads

pub spun : (w v : State) (t : ℕ) (q : Place) → t < length w.places → respins_from (place_at w t) ≡ Some q
    → v ≡ (if can_go (put w t q) t then state_after_go (put w t q) t else put w t q)
    → v ≡ (if can_spin w t then state_after_spin w t else w)
spun w v t q lt is e = e ∙ ap (λ b. if b then state_after_go (put w t q) t else put w t q)
    (looks_go w t q lt is) ∙ sym (ap (λ o. if is_some o then state_after_look w t o else w) is)

-- A thread that looks once more is told so, in the state that it found.
pub spun_told : {v w : State} → v ≡ w → (t : ℕ) (q : Place) (told : Outcome) → t < length v.places
    → respins_from (place_at v t) ≡ Some q → told ≡ (if can_go (put v t q) t then go_outcome (put v t q) t
    else outcome.NotNow) → told ≡ (if can_spin w t then spin_outcome w t
    else outcome.NotNow)
spun_told {v} same t q told lt is e =
    subst (λ (w : State). told ≡ (if can_spin w t then spin_outcome w t else outcome.NotNow)) same
    (e ∙ ap (λ b. if b then go_outcome (put v t q) t else outcome.NotNow) (looks_go v t q lt is)
    ∙ sym (ap (λ o. if is_some o then look_outcome v t o else outcome.NotNow) is))

spun_well_formed : (w : State) (t : ℕ) → IsWellFormed w → t < length w.places
    → IsWellFormed (state_after_spin w t)
spun_well_formed w t s lt = by_place (respins_from (place_at w t)) refl
  where
    by_place : (o : Option Place) → respins_from (place_at w t) ≡ o → IsWellFormed (state_after_look w t o)
    by_place None is = s
    by_place (Some q) is = gone_well_formed (put w t q) t (looking_well_formed w t q s is)
        (rw (length-set w.places t q) lt)

lated_well_formed : (w : State) (t : ℕ) → IsWellFormed w → IsWellFormed (state_after_late w t)
lated_well_formed w t s = by_place (place_at w t) refl
  where
    asleep : (l : ℕ) (entry : Entry) (retries : Bool) → place_at w t ≡ Mutex l
        (Lock entry retries lock.Asleep) → (b : Bool) → is_timed entry ≡ b
        → IsWellFormed (state_after_late_on w t (key_in (Some l) (in_line b Main)))
    asleep l entry retries e true timed = befallen_well_formed (state_with_sections w (One (2 * l)) (Some t))
        t
        Late (filled_well_formed w (One (2 * l)) (Some t) s) (rw e timed)
    asleep l entry retries e false timed = s

    locks : (l : ℕ) (entry : Entry) (retries : Bool) (at : LockAt) → place_at w t
        ≡ Mutex l (Lock entry retries at)
        → IsWellFormed (state_after_late_on w t (late_key (Mutex l (Lock entry retries at))))
    locks l entry retries lock.Asleep e = asleep l entry retries e (is_timed entry) refl
    locks l entry retries at e = s

    waits : (l : ℕ) (at : CondvarPlace) → place_at w t ≡ Condvar l at
        → IsWellFormed (state_after_late_on w t (late_key (Condvar l at)))
    waits l (Wait m true (wait.Asleep st)) e = by_key (late_key (Condvar l (Wait m true (wait.Asleep st))))
      where
        by_key : (o : Option ℕ) → IsWellFormed (state_after_late_on w t o)
        by_key None = s
        by_key (Some key) = befallen_well_formed (state_with_sections w (One key) (Some t)) t Late
            (filled_well_formed w (One key) (Some t) s) (rw e refl)
    waits l (Wait m false (wait.Asleep st)) e = s
    waits l (Wait m timed at) e = s
    waits l (Look all) e = s
    waits l (Notify all m at) e = s

    by_place : (p : Place) → place_at w t ≡ p → IsWellFormed (state_after_late_on w t (late_key p))
    by_place Idle e = s
    by_place (Mutex l (Lock entry retries at)) e = locks l entry retries at e
    by_place (Mutex l TryLock) e = s
    by_place (Mutex l (Unlock at)) e = s
    by_place (Mutex l UnlockFair) e = s
    by_place (Mutex l Bump) e = s
    by_place (Mutex l (HandOff bumps at)) e = s
    by_place (RwLock l a at) e = by_line (call_profile a at).late_line
      where
        by_line : (m : Option Line) → IsWellFormed (state_after_late_on w t (key_in (Some l) m))
        by_line None = s
        by_line (Some m) = befallen_well_formed (state_with_sections w (One (key_of l m)) (Some t)) t Late
            (filled_well_formed w (One (key_of l m)) (Some t) s) (rw e tt)
    by_place (Once l at) e = by_line (once_profile at).late_line
      where
        by_line : (m : Option Line) → IsWellFormed (state_after_late_on w t (key_in (Some l) m))
        by_line None = s
        by_line (Some m) = befallen_well_formed (state_with_sections w (One (key_of l m)) (Some t)) t Late
            (filled_well_formed w (One (key_of l m)) (Some t) s) (rw e tt)
    by_place (Semaphore l at) e = by_line (semaphore_profile at).late_line
      where
        by_line : (m : Option Line) → IsWellFormed (state_after_late_on w t (key_in (Some l) m))
        by_line None = s
        by_line (Some m) = befallen_well_formed (state_with_sections w (One (key_of l m)) (Some t)) t Late
            (filled_well_formed w (One (key_of l m)) (Some t) s) (rw e tt)
    by_place (Condvar l at) e = waits l at e

-- the thread stands after its closure, and goes on from there
closing_can : (w : State) (t : ℕ) (succeeded : Bool) → runs_closure (act_of (place_at w t)) ≡ true
    → can_close w t succeeded ≡ true
closing_can w t succeeded runs = rw (runs, closes_freely w w t succeeded runs) refl

-- A thread whose closure has ended goes on from there.
goes_closed : (w : State) (t : ℕ) (succeeded : Bool) (q : Place) → t < length w.places
    → runs_closure (act_of (place_at w t)) ≡ true → q ≡ closed_place w t succeeded
    → can_go (put w t q) t ≡ true
goes_closed w t succeeded q lt runs is =
    subst (λ p. can_do (put w t q) (act_of p) ≡ true) (sym is ∙ sym (get_or-set_same w.places t q Idle lt))
    (closes_freely w (put w t q) t succeeded runs)

pub closed : (w v : State) (t : ℕ) (succeeded : Bool) (q : Place) → t < length w.places
    → runs_closure (act_of (place_at w t)) ≡ true → q ≡ closed_place w t succeeded
    → v ≡ (if can_go (put w t q) t then state_after_go (put w t q) t else put w t q)
    → v ≡ (if can_close w t succeeded then state_after_close w t succeeded else w)
closed w v t succeeded q lt runs is e = rw (closing_can w t succeeded runs)
    (subst (λ p. v ≡ state_after_go (put w t p) t) is
    (e ∙ ap (λ b. if b then state_after_go (put w t q) t else put w t q) (goes_closed w t succeeded q lt runs
    is)))

pub closed_told : {v w : State} → v ≡ w → (t : ℕ) (succeeded : Bool) (q : Place) (told : Outcome)
    → t < length v.places → runs_closure (act_of (place_at v t)) ≡ true → q ≡ closed_place v t succeeded
    → told ≡ (if can_go (put v t q) t then go_outcome (put v t q) t else outcome.NotNow)
    → told ≡ (if can_close w t succeeded then close_outcome w t succeeded else outcome.NotNow)
closed_told {v} same t succeeded q told lt runs is e =
    subst (λ (w : State). told ≡ (if can_close w t succeeded then close_outcome w t succeeded
    else outcome.NotNow)) same
    (rw (closing_can v t succeeded runs) (subst (λ p. told ≡ go_outcome (put v t p) t) is
    (e ∙ ap (λ b. if b then go_outcome (put v t q) t else outcome.NotNow)
    (goes_closed v t succeeded q lt runs is))))

closed_well_formed : (w : State) (t : ℕ) (succeeded : Bool) → IsWellFormed w → t < length w.places
    → IsWellFormed (state_after_close w t succeeded)
closed_well_formed w t succeeded s lt =
    let q = closed_place w t succeeded in
    gone_well_formed (put w t q) t (put_well_formed w t q s (closed_fits w t succeeded s))
    (rw (length-set w.places t q) lt)

turned_well_formed : (w : State) (t : ℕ) (x : Turn) → IsWellFormed w → t < length w.places → can_turn w t x
    ≡ true
    → IsWellFormed (state_after_turn w t x)
turned_well_formed w t (turn.Begin c) s lt can = begun_well_formed w t c s can
turned_well_formed w t turn.Go s lt can = gone_well_formed w t s lt
turned_well_formed w t turn.Spin s lt can = spun_well_formed w t s lt
turned_well_formed w t turn.Late s lt can = lated_well_formed w t s
turned_well_formed w t turn.Ok s lt can = closed_well_formed w t true s lt
turned_well_formed w t turn.Err s lt can = closed_well_formed w t false s lt

-- a step keeps the shape
pub after_well_formed : (w : State) (s : Step) → IsWellFormed w → IsWellFormed (after w s)
after_well_formed w step s = either (is_possible w step) refl
  where
    either : (b : Bool) → is_possible w step ≡ b
        → IsWellFormed (if b then state_after_turn w step.thread step.turn else w)
    either false e = s
    either true e = let parts = both (nat_lt step.thread (length w.places)) (can_turn w step.thread step.turn)
        e in
        turned_well_formed w step.thread step.turn s (ltb-true step.thread (length w.places) parts.0) parts.1

-- the opening state has the shape
pub opening_well_formed : (kinds : List Kind) (threads : ℕ) → length kinds ≤ 256
    → IsWellFormed (opening kinds threads)
opening_well_formed kinds threads few = record {
  few = rw (length-map kinds unlocked) few;
  sections = rw (length-replicate {A = Option ℕ} (2 * length kinds) None, length-map kinds unlocked) refl;
  queues = rw (
    length-replicate {A = List Waiter} (2 * length kinds) [],
    length-replicate {A = Option ℕ}
        (2 * length kinds) None,
  ) refl;
  places = λ t. rw (idle_at threads t) tt;
  kinds = λ t. rw (idle_at threads t) tt;
  shown = λ l of. inl (unlocked_word kinds l of);
  waiting = λ key. nobody_below (2 * length kinds) key;
}
  where
    shows_none : (k : Kind) → is_condvar k ≡ true → first_word k ≡ 0
    shows_none kind.Condvar of = refl
    shows_none k of = absurd cc

    unlocked_word : (ks : List Kind) (l : ℕ)
        → is_condvar (get_or (map unlocked ks) l (unlocked kind.Mutex)).kind ≡ true
        → (get_or (map unlocked ks) l (unlocked kind.Mutex)).word ≡ 0
    unlocked_word [] l of = refl
    unlocked_word (k ∷ ks) zero of = shows_none k of
    unlocked_word (k ∷ ks) (suc l) of = unlocked_word ks l of

    nobody_below : (n key : ℕ) → AllBelow (length (replicate threads Idle)) (get_or (replicate n []) key [])
    nobody_below zero key = tt
    nobody_below (suc n) zero = tt
    nobody_below (suc n) (suc key) = nobody_below n key

-- ---------------------------------------------------------------- sizes

pub size_more : (w v u : State) → SameSize w v → SameSize v u → SameSize w u
size_more w v u p q = record { threads = q.threads ∙ p.threads; locks = q.locks ∙ p.locks }

went_size : (w : State) (t : ℕ) (p : Place) → SameSize w (state_after_going w t p)
went_size w t p =
    let counts = performed_counts w t p (act_of p) in
    record { threads = length-set (state_after_act w t p (act_of p)).places t _ ∙ counts.0; locks = counts.1 }

put_went_size : (w : State) (t : ℕ) (q : Place) → SameSize w (state_after_go (put w t q) t)
put_went_size w t q = size_more w (put w t q) (state_after_go (put w t q) t) (record {
  threads = length-set w.places t q;
  locks = refl;
})
    (went_size (put w t q) t (place_at (put w t q) t))

turned_size : (w : State) (t : ℕ) (x : Turn) → SameSize w (state_after_turn w t x)
turned_size w t (turn.Begin c) = record { threads = length-set w.places t _; locks = refl }
turned_size w t turn.Go = went_size w t (place_at w t)
turned_size w t turn.Ok = put_went_size w t (closed_place w t true)
turned_size w t turn.Err = put_went_size w t (closed_place w t false)
turned_size w t turn.Spin = by_place (respins_from (place_at w t))
  where
    by_place : (o : Option Place) → SameSize w (state_after_look w t o)
    by_place None = record { threads = refl; locks = refl }
    by_place (Some q) = put_went_size w t q
turned_size w t turn.Late = by_key (late_key (place_at w t))
  where
    by_key : (o : Option ℕ) → SameSize w (state_after_late_on w t o)
    by_key None = record { threads = refl; locks = refl }
    by_key (Some key) = record { threads = length-set w.places t _; locks = refl }

-- a step changes no number of threads or locks
pub after_size : (w : State) (s : Step) → SameSize w (after w s)
after_size w step = either (is_possible w step)
  where
    either : (b : Bool) → SameSize w (if b then state_after_turn w step.thread step.turn else w)
    either true = turned_size w step.thread step.turn
    either false = record { threads = refl; locks = refl }
