-- A thread that goes on in a call of a condition variable does so in the abstract locks, where its step has
-- led both locks as its deeds say, and the others' calls follow.
use Rattle.lot_laws.proofs.Imports
use Imports.{ℕ, Bool, true, false, Option, Some, None, if◌then◌else◌, ◌==◌, ◌&&◌, ◌≡◌, ◌≢◌, ◌<◌, List, []}
use Imports.{length, not, refl, sym, ◌∙◌, ap, subst, outcome_of, Hand, taken_from, Value, NotifyAt, Wait, Look}
use Imports.{Notify, WaitAt, condvar_call_by, look_event, notify_event, wait_event, notify_deeds, wait_deeds}
use Imports.{word_showing, beside_deeds, condvar_profile, mutex_side, notify_row, condvar_act, condvar_next}
use Imports.{next_wait, notify_act, wait_act, waiter_deeds, Condvar, condvar_does, condvar_goes, is_lock}
use Imports.{IsCondvar, Rights, CallState, Event, GoesOn, going_on, is_taken_by, woken, IsWellFormed, State}
use Imports.{can_do, place_at, reply_to, state_after_going, word_at, acts, lock_state, locks_of, taken_at}
use Imports.{GoesAll, IsInductive, condvar_of}
use Rattle.steps_base.specs.declared.acts.Next.TheVariants as next
use Rattle.steps_condvar.specs.declared.notify.NotifyAt.TheVariants as notify
use Rattle.lot_laws.specs.ThreadDeeds as deeds
use Rattle.lot_laws.proofs.calls.CallEvents.{OthersFollow, rights}
use Rattle.lot_laws.proofs.condvar.Replies.{fits_here, taken_by_wait, word_is}
use Rattle.lot_laws.proofs.condvar.OwnStand.{look_place, notify_place}
use Rattle.lot_laws.proofs.condvar.MutexUntouched.{there_deeds}
use Rattle.lot_laws.proofs.condvar.MachineFollows.{goes_led}
use Rattle.lot_laws.proofs.sites.Following.{goes_all_inductive}
use Rattle.lot_laws.proofs.condvar.LookEvents.{look_goes}
use Rattle.lot_laws.proofs.condvar.NotifyEvents.{notify_goes}
use Rattle.lot_laws.proofs.condvar.WaitEvents.{wait_goes, wait_goes_told}
use Rattle.lot_laws.proofs.condvar.WaitSleeps.{IsSettled, wait_rests}
use Rattle.lot_laws.proofs.condvar.WaitSettles.{wait_settles}
use Rattle.lot_laws.proofs.condvar.WaitersAside.{waits_aside}

-- a thread that notifies is in nobody's hand
no_hand : (all : Bool) (m : ℕ) (p : NotifyAt) → (notify_row all m p).hand ≡ None
no_hand all m notify.Enter = refl
no_hand all m notify.Again = refl
no_hand all m notify.Hide = refl
no_hand all m notify.Mark = refl
no_hand all m (notify.Set seen) = refl
no_hand all m (notify.Move locked) = refl
no_hand all m (notify.Clear any) = refl
no_hand all m (notify.MarkMoved number) = refl
no_hand all m (notify.Leave any number) = refl

-- the event of a wait's act, and its call
abbrev pub own_event : State → ℕ → ℕ → ℕ → WaitAt → Event
own_event w t l m p = wait_event l m p (taken_by_wait w m p) (reply_to w t (wait_act l m p))

abbrev pub own_call : State → ℕ → ℕ → ℕ → Bool → WaitAt → CallState
own_call w t l m timed p = condvar_call_by l m (Wait m timed p) (rights w t)

-- the act of the thread does not wake it
abbrev pub IsUnwoken : State → ℕ → ℕ → ℕ → Bool → WaitAt → Type 0
IsUnwoken w t l m timed p = woken (locks_of w) t (own_event w t l m p) t (going_on (own_event w t l m p)
    (own_call w t l m timed p)) ≡ going_on (own_event w t l m p) (own_call w t l m timed p)

module _ (w v : State) (t l : ℕ) (shape : IsWellFormed w) (inductive : IsInductive w)
    (condvar : IsCondvar (condvar_of w l))
    (there : t < length w.places) (lt : l < length w.locks) (all_deeds : ℕ → List deeds.Act)
    (goes : GoesAll w v all_deeds) where
  after : IsInductive v
  after = goes_all_inductive w v all_deeds inductive goes.follows goes.stands

  -- a wait that goes on from where it stood
  pub wait_step : (m : ℕ) (timed : Bool) (p : WaitAt) → place_at w t ≡ Condvar l (Wait m timed p)
      → v ≡ state_after_going w t (Condvar l (Wait m timed p)) → (can : can_do w (wait_act l m p) ≡ true)
      → ((k : ℕ) → k ≢ l → k ≢ m → all_deeds k ≡ [])
      → all_deeds l ≡ acts t (there_deeds (wait_deeds m p (reply_to w t (wait_act l m p))))
      → all_deeds m ≡ acts t (waiter_deeds p (taken_by_wait w m p) (reply_to w t (wait_act l m p)))
      → place_at v t ≡ condvar_goes l (condvar_next (Wait m timed p) (reply_to w t (wait_act l m p)))
      → IsUnwoken w t l m timed p
      → OthersFollow w v t (wait_event l m p (taken_by_wait w m p) (reply_to w t (wait_act l m p)))
      → GoesOn (locks_of w) t (outcome_of
      (condvar_does l (condvar_next (Wait m timed p) (reply_to w t (wait_act l m p)))))
      (locks_of v)
  wait_step m timed p is led can elsewhere at_l at_m goes_there unwoken others =
      wait_goes w v t l m timed p inductive after condvar is can all_deeds goes.follows elsewhere at_l at_m
      goes_there unwoken
      (ap (λ (x : State). (lock_state x l).shown) led
      ∙ (goes_led w t l (Wait m timed p) shape inductive is lt can).0)
      (wait_rests v t l m timed after (next_wait m timed p (reply_to w t (wait_act l m p))) goes_there
      (wait_settles w t l m timed inductive p is (fits_here w t l (Wait m timed p) inductive is).reached can))
      others

  -- A thread goes on from where its own act has left it.
  pub told_step : (m : ℕ) (timed : Bool) (p q q2 : WaitAt) → place_at w t ≡ Condvar l (Wait m timed p)
      → (can : can_do w (wait_act l m p) ≡ true)
      → ((k : ℕ) → k ≢ l → k ≢ m → all_deeds k ≡ [])
      → all_deeds l ≡ acts t (there_deeds (wait_deeds m p (reply_to w t (wait_act l m p))))
      → all_deeds m ≡ acts t (waiter_deeds p (taken_by_wait w m p) (reply_to w t (wait_act l m p)))
      → condvar_next (Wait m timed p) (reply_to w t (wait_act l m p)) ≡ next.At (Wait m timed q)
      → place_at v t ≡ Condvar l (Wait m timed q2) → IsSettled q2 → (makes : CallState → CallState)
      → ((r : ℕ → Rights) → condvar_call_by l m (Wait m timed q2) r ≡ makes
      (condvar_call_by l m (Wait m timed q) r))
      → woken (locks_of w) t (own_event w t l m p) t (going_on (own_event w t l m p)
      (own_call w t l m timed p))
      ≡ makes (going_on (own_event w t l m p) (own_call w t l m timed p))
      → OthersFollow w v t (own_event w t l m p) → GoesOn (locks_of w) t (outcome_of (wait_act l m q2))
      (locks_of v)
  told_step m timed p q q2 is can elsewhere at_l at_m says there settled makes made woken_so others =
      wait_goes_told w v t l m timed p inductive after condvar is can all_deeds goes.follows elsewhere at_l
      at_m
      q q2 says there makes made woken_so
      (wait_rests v t l m timed after (next.At q2) there settled) others

  -- a notification
  pub notify_step : (m : ℕ) (all : Bool) (p : NotifyAt) → place_at w t ≡ Condvar l (Notify all m p)
      → v ≡ state_after_going w t (Condvar l (Notify all m p))
      → (can : can_do w (notify_act all l m p) ≡ true)
      → ((k : ℕ) → k ≢ l → k ≢ m → all_deeds k ≡ [])
      → all_deeds l ≡ acts t (there_deeds (notify_deeds all m p (reply_to w t (notify_act all l m p))))
      → all_deeds m ≡ acts t (beside_deeds all (condvar_of w l).waiters p
      (reply_to w t (notify_act all l m p)))
      → OthersFollow w v t (notify_event l all m p (reply_to w t (notify_act all l m p)))
      → GoesOn (locks_of w) t (outcome_of
      (condvar_does l (condvar_next (Notify all m p) (reply_to w t (notify_act all l m p)))))
      (locks_of v)
  notify_step m all p is led can elsewhere at_l at_m others = notify_goes w v t l m all p inductive after
      condvar
      (waits_aside w inductive l (fits_here w t l (Notify all m p) inductive is).sort m) is can all_deeds
      goes.follows elsewhere at_l at_m
      (ap (λ (x : State). place_at x t) led ∙ notify_place w t l m all p is
      (fits_here w t l (Notify all m p) inductive is).reached there) free
      (ap (λ (x : State). (lock_state x l).shown) led
      ∙ (goes_led w t l (Notify all m p) shape inductive is lt can).0) others
    where
      free : (k : ℕ) → is_taken_by t (taken_at (place_at w t) k) ≡ false
      free k = ap (λ q. is_taken_by t (taken_at q k)) is ∙ either (is_lock k (Some m) && not (l == k))
        where
          either : (b : Bool)
              → is_taken_by t
              (if b then taken_from (mutex_side (Notify all m p)).hand (mutex_side (Notify all m p)).wants
              true else taken_from None (condvar_profile (Notify all m p)).wants (l == k))
              ≡ false
          either true = ap (λ (h : Option Hand). is_taken_by t
              (taken_from h (mutex_side (Notify all m p)).wants true)) (no_hand all m p)
          either false = refl

  -- the first step of a notification, which looks
  pub look_step : (all : Bool) → place_at w t ≡ Condvar l (Look all) → v ≡ state_after_going w t
      (Condvar l (Look all))
      → ((k : ℕ) → all_deeds k ≡ []) → OthersFollow w v t (look_event l (word_at w l))
      → GoesOn (locks_of w) t (outcome_of
      (condvar_does l (condvar_next (Look all) (reply_to w t (condvar_act l (Look all))))))
      (locks_of v)
  look_step all is led nothing others =
      subst (λ n. GoesOn (locks_of w) t (outcome_of (condvar_does l (condvar_next (Look all) (Value n))))
      (locks_of v)) (sym shows)
      (look_goes w v t l all inductive after is all_deeds goes.follows nothing stands_so free
      (subst (λ n. OthersFollow w v t (look_event l n)) shows others))
    where
      shows : word_at w l ≡ word_showing (lock_state w l).shown
      shows = word_is w t l (Look all) inductive is

      stands_so : place_at v t ≡ condvar_goes l
          (condvar_next (Look all) (Value (word_showing (lock_state w l).shown)))
      stands_so = ap (λ (x : State). place_at x t) led ∙ look_place w t l all is there
          ∙ ap (λ n. condvar_goes l (condvar_next (Look all) (Value n))) shows

      either : (b : Bool) → is_taken_by t (taken_from None (condvar_profile (Look all)).wants b) ≡ false
      either true = refl
      either false = refl

      free : (k : ℕ) → is_taken_by t (taken_at (place_at w t) k) ≡ false
      free k = ap (λ q. is_taken_by t (taken_at q k)) is ∙ either (l == k)
