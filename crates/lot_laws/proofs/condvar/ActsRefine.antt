-- A thread goes on in a call of a condition variable, and does so in the abstract locks: each act of a wait
-- and of a notification.
use Rattle.lot_laws.proofs.Imports
use Imports.{ℕ, Bool, true, false, Some, None, if◌then◌else◌, ◌==◌, ◌&&◌, ◌≡◌, ◌≢◌, ◌<◌, List, [], length, not}
use Imports.{inl, inr, get_or-set_same, refl, sym, ◌∙◌, ap, subst, arith, is_plain_mutex, outcome_of, is_thread}
use Imports.{taken_from, Act, Next, At, Reply, Done, Late, Took, Value, UnlockAt, unlock_act, Place, Condvar}
use Imports.{Idle, condvar_does, condvar_goes, is_lock, next_act, next_place, NotifyAt, CondvarPlace, Look}
use Imports.{Notify, Wait, WaiterFate, WaitAt, IsReachedNext, condvar_call_by, look_event, notify_event}
use Imports.{notify_deeds, wait_deeds, beside_deeds, condvar_profile, hand_of, taker_of, wants_at_mutex}
use Imports.{condvar_act, condvar_next, first_lock, in_notify, in_wait, mutex_beside, mutex_shown, next_notify}
use Imports.{next_wait, notified, notify_act, wait_act, waiter_deeds, condvar_places_reached, WaitsAside}
use Imports.{OfCondvar, Rights, Rules, AtLock, CallState, GoesOn, Nothing, after_wake, going_on, is_taken_by}
use Imports.{woken, Main, IsOfItsKind, IsWellFormed, IsThere, PlaceFits, ShowsPlainMutex, State, can_do}
use Imports.{going_outcome, kind_at, place_at, put, reply_to, state_after_act, state_after_going, word_at}
use Imports.{performed_counts, acts, locks_of, taken_at, AreCondvars, FitsCondvar, FitsItsLock, Goes as GoesAt}
use Imports.{GoesAll, IsInductive, condvar_of, key_of, rules_in, site_of}
use Rattle.core_base.specs.declared.notes.Note.TheVariants as note
use Rattle.core_base.specs.declared.ops.Op.TheVariants as op
use Rattle.steps_base.specs.declared.acts.Act.TheVariants as act
use Rattle.steps_base.specs.declared.acts.Next.TheVariants.{End as Over}
use Rattle.steps_base.specs.declared.acts.TakeWhich.TheVariants as whom
use Rattle.steps_mutex.specs.declared.places.MutexPlace.TheVariants as mutex
use Rattle.steps_mutex.specs.declared.unlock.UnlockAt.TheVariants as unlock
use Rattle.steps_condvar.specs.declared.notify.NotifyAt.TheVariants as notify
use Rattle.steps_condvar.specs.declared.wait.WaiterFate.TheVariants as stands
use Rattle.steps_condvar.specs.declared.wait.WaitAt.TheVariants as wait
use Rattle.steps_condvar.specs.CondvarProfiles.{want_of}
use Rattle.spec_locks.specs.Locks as locks
use Rattle.lot_laws.specs.ThreadDeeds as deeds
use Rattle.lot_laws.proofs.calls.CallEvents.{IsEvent, OthersFollow}
use Rattle.lot_laws.proofs.condvar.StepEvents.{NamesStill}
use Rattle.lot_laws.proofs.condvar.Replies.{apart, at_it, fits_here, may_hear, taken_by_wait, word_is}
use Rattle.lot_laws.proofs.condvar.OtherCalls.{IsCalmEvent, IsWaking, calm_follow, calm_unwoken, quiet}
use Rattle.lot_laws.proofs.condvar.OtherCalls.{wait_others}
use Rattle.lot_laws.proofs.condvar.OwnStand.{calm_waiter, is_release, notifier_still}
use Rattle.lot_laws.proofs.condvar.TwoParts.{taken_beside}
use Rattle.lot_laws.proofs.condvar.StepRefines.{IsUnwoken, look_step, notify_step, own_call, own_event}
use Rattle.lot_laws.proofs.condvar.StepRefines.{told_step, wait_step}
use Rattle.lot_laws.proofs.condvar.MutexUntouched.{there_deeds}
use Rattle.lot_laws.proofs.sites.Following.{goes_all, goes_all_inductive, only_at}
use Rattle.lot_laws.proofs.machine.Parts as glue
use Rattle.lot_laws.proofs.machine.Parts.{differ, plain_rules, same}
use Rattle.lot_laws.proofs.condvar.LookEvents.{look_happened}
use Rattle.lot_laws.proofs.condvar.LookStands.{looks}
use Rattle.lot_laws.proofs.condvar.NotifyKept.{notifies_go}
use Rattle.lot_laws.proofs.condvar.NotifyEvents.{notify_happened}
use Rattle.lot_laws.proofs.condvar.NotifyOthers.{notify_others}
use Rattle.lot_laws.proofs.calls.OtherCalls.{lonely}
use Rattle.lot_laws.proofs.condvar.ReleaseStand.{IsLeft, LeftAt, left_at, releasing}
use Rattle.lot_laws.proofs.sites.TwoLocks.{two_at}
use Rattle.lot_laws.proofs.condvar.WaitersAside.{waits_aside}
use Rattle.lot_laws.proofs.condvar.WaitEvents.{wait_happened}
use Rattle.lot_laws.proofs.condvar.WaitSleeps.{IsSettled}
use Rattle.lot_laws.proofs.condvar.WaitKept.{waits_go}

-- no act tells its own thread that its time is up
unlate : (w : State) (t : ℕ) (a : Act) → reply_to w t a ≡ Late → ⊥
unlate w t (act.Take key whom.First) e = cc
unlate w t (act.Take key (whom.Picked start recursive)) e = cc
unlate w t (act.Take key whom.All) e = cc
unlate w t a e = cc

-- the deeds of a step at two locks, seen at each
module _ (l m : ℕ) (apart_m : m ≢ l) (at_l at_m : List deeds.Act) where
  two_there : two_at l m at_l at_m l ≡ at_l
  two_there = ap (λ b. if b then at_l else if l == m then at_m else []) (same l)

  two_beside : two_at l m at_l at_m m ≡ at_m
  two_beside = ap (λ b. if b then at_l else if m == m then at_m else []) (differ m l apart_m)
      ∙ ap (λ b. if b then at_m else []) (same m)

  two_else : (k : ℕ) → k ≢ l → k ≢ m → two_at l m at_l at_m k ≡ []
  two_else k nl nm = ap (λ b. if b then at_l else if k == m then at_m else []) (differ k l nl)
      ∙ ap (λ b. if b then at_m else []) (differ k m nm)

module _ (w : State) (t l : ℕ) (shape : IsWellFormed w) (inductive : IsInductive w) (condvars : AreCondvars w)
    (there : t < length w.places) where
  -- tells what a call of it says of its locks
  module _ (at : CondvarPlace) (is : place_at w t ≡ Condvar l at) (m : ℕ) (of : mutex_beside at ≡ Some m)
    where
      fits : FitsCondvar w l at
      fits = fits_here w t l at inductive is

      plain : rules_in w m ≡ glue.mutex
      plain = plain_rules (kind_at w m) (fits.mutex m of)

      sort_m : (rules_in w m).sort ≡ locks.Mutex
      sort_m = ap (λ (r : Rules). r.sort) plain

      sized : (l < length w.locks) × (m < length w.locks)
      sized = let f = subst (λ p. PlaceFits (length w.locks) p) is (shape.places t)
          in (f.0, subst (IsThere (length w.locks)) of f.1)

      section_of : (k : ℕ) → k < length w.locks → key_of k Main < length w.sections
      section_of k lt = let n = shape.sections in omega arith

      line_of : (k : ℕ) → k < length w.locks → key_of k Main < length w.queues
      line_of k lt = let n = shape.sections in let q = shape.queues in omega arith

      -- where it goes it has come to a place of this call
      fits_next : (n : Next CondvarPlace) → IsReachedNext n → NamesStill m n
          → FitsItsLock w (condvar_goes l n)
      fits_next (Over answer) reached names = tt
      fits_next (At q) reached names = record {
        sort = fits.sort;
        reached = reached;
        mutex = λ k e. fits.mutex k (of ∙ sym names ∙ e);
      }

      reaches : (can : can_do w (condvar_act l at) ≡ true)
          → IsReachedNext (condvar_next at (reply_to w t (condvar_act l at)))
      reaches can = condvar_places_reached (condvar_of w l) t at (reply_to w t (condvar_act l at))
          fits.reached
          (may_hear w t l at inductive is can) (condvars l fits.sort) (at_it w t l at inductive is)
          (λ e. absurd (unlate w t (condvar_act l at) e))

  -- ---------------------------------------------------------------- a notification

  module _ (all : Bool) (m : ℕ) (p : NotifyAt) (is : place_at w t ≡ Condvar l (Notify all m p))
      (can : can_do w (notify_act all l m p) ≡ true) where
    abbrev notifies : CondvarPlace
    notifies = Notify all m p

    abbrev told : Reply
    told = reply_to w t (notify_act all l m p)

    abbrev afterwards : State
    afterwards = state_after_going w t (Condvar l notifies)

    abbrev at_l : List deeds.Act
    at_l = acts t (there_deeds (notify_deeds all m p told))

    abbrev at_m : List deeds.Act
    at_m = acts t (beside_deeds all (condvar_of w l).waiters p told)

    apart_m : m ≢ l
    apart_m = apart w t l notifies inductive is m refl

    sort_l : (rules_in w l).sort ≡ locks.Condvar
    sort_l = (fits notifies is m refl).sort

    aside : WaitsAside (condvar_of w l) (site_of w m) m
    aside = waits_aside w inductive l sort_l m

    names_notified : (n : Next NotifyAt) → NamesStill m (in_notify all m n)
    names_notified (At q) = refl
    names_notified (Over answer) = tt

    fits_notified : FitsItsLock w (condvar_goes l (condvar_next notifies told))
    fits_notified = fits_next notifies is m refl (condvar_next notifies told) (reaches notifies is m refl can)
        (names_notified (next_notify all m p told))

    -- the thread stands where it stood, and goes on from there
    goes_there : next_place (place_at (state_after_act w t (Condvar l notifies) (notify_act all l m p)) t)
        told
        ≡ condvar_goes l (condvar_next notifies told)
    goes_there = ap (λ q. next_place q told) (notifier_still w t l m all p is
        (fits notifies is m refl).reached there)

    pub goes : GoesAll w afterwards (two_at l m at_l at_m)
    goes = let n = sized notifies is m refl in notifies_go w t l m all inductive there apart_m sort_l
        (sort_m notifies is m refl) (plain notifies is m refl) (condvars l sort_l) aside n.0 n.1
        (section_of notifies is m refl l n.0) (section_of notifies is m refl m n.1)
        (line_of notifies is m refl l n.0) (line_of notifies is m refl m n.1) p
        (fits notifies is m refl).reached is can (subst (FitsItsLock w) (sym goes_there) fits_notified)

    happened : IsEvent w afterwards t (notify_event l all m p told)
    happened = notify_happened w afterwards t l m all p inductive (goes_all_inductive w afterwards
        (two_at l m at_l at_m)
        inductive goes.follows goes.stands) (condvars l sort_l) aside is can (two_at l m at_l at_m)
        goes.follows
        (two_else l m apart_m at_l at_m) (two_there l m apart_m at_l at_m) (two_beside l m apart_m at_l at_m)

    others : OthersFollow w afterwards t (notify_event l all m p told)
    others = let n = sized notifies is m refl in
        subst (λ q. IsEvent w (put (state_after_act w t (Condvar l notifies) (notify_act all l m p)) t q) t
        (notify_event l all m p told)
        → OthersFollow w (put (state_after_act w t (Condvar l notifies) (notify_act all l m p)) t q) t
        (notify_event l all m p told)) (sym goes_there)
        (notify_others w t l m all inductive there apart_m sort_l (sort_m notifies is m refl)
        (condvars l sort_l)
        aside (line_of notifies is m refl l n.0) (line_of notifies is m refl m n.1) p is fits_notified)
        happened

    told_after : going_outcome w t (Condvar l notifies)
        ≡ outcome_of (condvar_does l (condvar_next notifies told))
    told_after = ap (λ q. outcome_of (next_act q told))
        (notifier_still w t l m all p is (fits notifies is m refl).reached there)

    pub notifies_on : GoesOn (locks_of w) t (going_outcome w t (Condvar l notifies)) (locks_of afterwards)
    notifies_on = subst (λ o. GoesOn (locks_of w) t o (locks_of afterwards)) (sym told_after)
        (notify_step w afterwards t l shape inductive (condvars l sort_l) there (sized notifies is m refl).0
        (two_at l m at_l at_m) goes m all p is refl can (two_else l m apart_m at_l at_m)
        (two_there l m apart_m at_l at_m) (two_beside l m apart_m at_l at_m) others)

  -- ---------------------------------------------------------------- a wait

  module _ (m : ℕ) (timed : Bool) (p : WaitAt) (is : place_at w t ≡ Condvar l (Wait m timed p))
      (can : can_do w (wait_act l m p) ≡ true) where
    abbrev waits : CondvarPlace
    waits = Wait m timed p

    abbrev heard : Reply
    heard = reply_to w t (wait_act l m p)

    abbrev waited : State
    waited = state_after_going w t (Condvar l waits)

    abbrev on_l : List deeds.Act
    on_l = acts t (there_deeds (wait_deeds m p heard))

    abbrev on_m : List deeds.Act
    on_m = acts t (waiter_deeds p (taken_by_wait w m p) heard)

    apart_w : m ≢ l
    apart_w = apart w t l waits inductive is m refl

    sort_w : (rules_in w l).sort ≡ locks.Condvar
    sort_w = (fits waits is m refl).sort

    -- where it stands once it has acted
    abbrev stood : Place
    stood = place_at (state_after_act w t (Condvar l waits) (wait_act l m p)) t

    names_waiting : (n : Next WaitAt) → NamesStill m (in_wait m timed n)
    names_waiting (At q) = refl
    names_waiting (Over answer) = tt

    fits_at : (n : Next WaitAt) → IsReachedNext (in_wait m timed n)
        → FitsItsLock w (condvar_goes l (in_wait m timed n))
    fits_at n reached = fits_next waits is m refl (in_wait m timed n) reached (names_waiting n)

    module _ (fits_waited : FitsItsLock w (next_place stood heard)) where
      goes_waiting : GoesAll w waited (two_at l m on_l on_m)
      goes_waiting = let n = sized waits is m refl in waits_go w t l m timed inductive there apart_w sort_w
          (sort_m waits is m refl) (plain waits is m refl) (condvars l sort_w) n.0 n.1
          (section_of waits is m refl l n.0) (section_of waits is m refl m n.1)
          (line_of waits is m refl l n.0) (line_of waits is m refl m n.1) p (fits waits is m refl).reached
          is can fits_waited

      happened_waiting : IsEvent w waited t (own_event w t l m p)
      happened_waiting = wait_happened w waited t l m timed p inductive (goes_all_inductive w waited
          (two_at l m on_l on_m) inductive goes_waiting.follows goes_waiting.stands) (condvars l sort_w) is
          can
          (two_at l m on_l on_m) goes_waiting.follows
          (two_else l m apart_w on_l on_m) (two_there l m apart_w on_l on_m)
          (two_beside l m apart_w on_l on_m)

      others_waiting : OthersFollow w waited t (own_event w t l m p)
      others_waiting = wait_others w t l m timed inductive (sort_m waits is m refl) there apart_w p
          (fits waits is m refl).reached is can _ happened_waiting

      -- the thread goes on from where it stood, unless it wakes itself
      module _ (still : stood ≡ Condvar l waits) (unwoken : IsUnwoken w t l m timed p) where
        goes_there_waiting : place_at waited t ≡ condvar_goes l (condvar_next waits heard)
        goes_there_waiting = get_or-set_same (state_after_act w t (Condvar l waits) (wait_act l m p)).places t
            (next_place stood heard) Idle (rw ((performed_counts w t (Condvar l waits) (wait_act l m p)).0)
            there) ∙ ap (λ q. next_place q heard) still

        waits_still : GoesOn (locks_of w) t (going_outcome w t (Condvar l waits)) (locks_of waited)
        waits_still = subst (λ o. GoesOn (locks_of w) t o (locks_of waited))
            (sym (ap (λ q. outcome_of (next_act q heard)) still))
            (wait_step w waited t l shape inductive (condvars l sort_w) there (sized waits is m refl).0
            (two_at l m on_l on_m) goes_waiting m timed p is refl can (two_else l m apart_w on_l on_m)
            (two_there l m apart_w on_l on_m) (two_beside l m apart_w on_l on_m)
            goes_there_waiting unwoken others_waiting)

      -- A thread goes on from where its own act has left it.
      waits_told : (q q2 : WaitAt) → condvar_next waits heard ≡ At (Wait m timed q)
          → next_place stood heard ≡ Condvar l (Wait m timed q2)
          → going_outcome w t (Condvar l waits) ≡ outcome_of (wait_act l m q2) → IsSettled q2
          → (makes : CallState → CallState)
          → ((r : ℕ → Rights) → condvar_call_by l m (Wait m timed q2) r ≡ makes
          (condvar_call_by l m (Wait m timed q) r))
          → woken (locks_of w) t (own_event w t l m p) t
          (going_on (own_event w t l m p) (own_call w t l m timed p))
          ≡ makes (going_on (own_event w t l m p) (own_call w t l m timed p))
          → GoesOn (locks_of w) t (going_outcome w t (Condvar l waits)) (locks_of waited)
      waits_told q q2 says goes_to told settled makes made woken_so =
          subst (λ o. GoesOn (locks_of w) t o (locks_of waited)) (sym told)
          (told_step w waited t l shape inductive (condvars l sort_w) there (sized waits is m refl).0
          (two_at l m on_l on_m) goes_waiting m timed p q q2 is can (two_else l m apart_w on_l on_m)
          (two_there l m apart_w on_l on_m) (two_beside l m apart_w on_l on_m) says
          (get_or-set_same (state_after_act w t (Condvar l waits) (wait_act l m p)).places t
          (next_place stood heard) Idle (rw ((performed_counts w t (Condvar l waits) (wait_act l m p)).0)
          there) ∙ goes_to) settled makes made woken_so others_waiting)

    -- an act that wakes nobody
    calm_act : (IsWaking w t l m timed inductive (sort_m waits is m refl) p → ⊥) → IsUnwoken w t l m timed p
    calm_act calm = calm_unwoken (locks_of w) t (own_event w t l m p) t (going_on (own_event w t l m p)
        (own_call w t l m timed p)) (quiet w t l m timed inductive (sort_m waits is m refl) p
        (fits waits is m refl).reached can calm).calm

    -- outside the release of its mutex
    module _ (calm : is_release p ≡ false) where
      still : stood ≡ Condvar l waits
      still = calm_waiter w t l m timed p is (fits waits is m refl).reached there calm

      calm_fits : FitsItsLock w (next_place stood heard)
      calm_fits = subst (FitsItsLock w) (sym (ap (λ q. next_place q heard) still))
          (fits_at (next_wait m timed p heard) (reaches waits is m refl can))

      wakes_none : (p : WaitAt) → is_release p ≡ false → IsWaking w t l m timed inductive
          (sort_m waits is m refl) p → ⊥
      wakes_none (wait.Release s a) calm h = cc
      wakes_none p calm h = h

      calm_on : GoesOn (locks_of w) t (going_outcome w t (Condvar l waits)) (locks_of waited)
      calm_on = waits_still calm_fits still (calm_act (wakes_none p calm))

  -- ---------------------------------------------------------------- the release of the mutex

  module _ (m : ℕ) (timed : Bool) (s : WaiterFate) (a : UnlockAt) (is : place_at w t ≡ Condvar l
      (Wait m timed (releasing s a)))
      (can : can_do w (unlock_act m a) ≡ true) where
    abbrev releases : CondvarPlace
    releases = Wait m timed (releasing s a)

    abbrev answered : Reply
    answered = reply_to w t (unlock_act m a)

    sort_of_m : (rules_in w m).sort ≡ locks.Mutex
    sort_of_m = sort_m releases is m refl

    left : LeftAt w t l m timed inductive there (apart w t l releases inductive is m refl) sort_of_m
        (plain releases is m refl)
        (line_of releases is m refl m (sized releases is m refl).1)
        (section_of releases is m refl m (sized releases is m refl).1) s a
    left = let n = sized releases is m refl in left_at w t l m timed inductive there
        (apart w t l releases inductive is m refl) sort_of_m (plain releases is m refl)
        (line_of releases is m refl m n.1) (section_of releases is m refl m n.1) s a is

    -- the thread has come to a place of its call
    taken_reached : (none_left : Bool)
        → IsReachedNext (condvar_next (Wait m timed (releasing (stands.InHand t) unlock.Take))
        (Took true none_left))
    taken_reached true = (tt, λ e. absurd cc)
    taken_reached false = (tt, λ e. absurd cc)

    left_reached : IsReachedNext (condvar_next (Wait m timed (releasing left.now a)) answered)
    left_reached = elim left.how [
      | inl stays ↦ subst (λ z. IsReachedNext (condvar_next (Wait m timed (releasing z a)) answered))
          (sym stays.0) (reaches releases is m refl can)
      | inr own ↦ elim own [
        | inl took ↦ subst (λ z. IsReachedNext (condvar_next (Wait m timed (releasing z a)) answered))
            (sym took.in_hand) (subst (λ x. IsReachedNext
            (condvar_next (Wait m timed (releasing (stands.InHand t) x)) (reply_to w t (unlock_act m x))))
            (sym took.takes)
            (subst (λ r. IsReachedNext (condvar_next (Wait m timed (releasing (stands.InHand t) unlock.Take))
            r)) (sym took.told) (taken_reached took.none_left)))
        | inr woke ↦ subst (λ z. IsReachedNext (condvar_next (Wait m timed (releasing z a)) answered))
            (sym woke.noted) (subst (λ x. IsReachedNext
            (condvar_next (Wait m timed (releasing (stands.Noted note.Normal) x))
            (reply_to w t (unlock_act m x)))) (sym woke.leaves) ((λ e. cc), tt))
      ]
    ]

    pub left_fits : FitsItsLock w
        (next_place (place_at (state_after_act w t (Condvar l releases) (unlock_act m a)) t) answered)
    left_fits = subst (FitsItsLock w) (sym (ap (λ q. next_place q answered) left.place))
        (fits_at m timed (releasing s a) is can (next_wait m timed (releasing left.now a) answered)
        left_reached)

  -- where nothing befell it
  module _ (m : ℕ) (timed : Bool) (s : WaiterFate) (a : UnlockAt) (is : place_at w t ≡ Condvar l
      (Wait m timed (releasing s a)))
      (can : can_do w (unlock_act m a) ≡ true) where
    abbrev Goes : Type 0
    Goes = GoesOn (locks_of w) t (going_outcome w t (Condvar l (Wait m timed (releasing s a))))
        (locks_of (state_after_going w t (Condvar l (Wait m timed (releasing s a)))))

    unheld : is_thread t (taker_of s) ≡ false → (k : ℕ) → is_taken_by t (taken_at (place_at w t) k) ≡ false
    unheld free k = ap (λ q. is_taken_by t (taken_at q k)) is ∙ either (is_lock k (Some m) && not (l == k))
      where
        by_stand : (s : WaiterFate) → is_thread t (taker_of s) ≡ false
            → is_taken_by t (taken_from (hand_of s) (wants_at_mutex (Some (want_of s))) true) ≡ false
        by_stand stands.Listed free = refl
        by_stand stands.Moved free = refl
        by_stand (stands.InHand u) free = free
        by_stand (stands.Handed u) free = refl
        by_stand (stands.Noted n) free = refl

        either : (b : Bool)
            → is_taken_by t
            (if b then taken_from (hand_of s) (wants_at_mutex (Some (want_of s))) true else taken_from None
            (condvar_profile (Wait m timed (releasing s a))).wants (l == k))
            ≡ false
        either true = by_stand s free
        either false = refl

    stays_unwoken : IsLeft t s a → IsUnwoken w t l m timed (releasing s a)
    stays_unwoken free = by_act a is can free
      where
        by_act : (a : UnlockAt) → place_at w t ≡ Condvar l (Wait m timed (releasing s a))
            → can_do w (unlock_act m a) ≡ true
            → IsLeft t s a → IsUnwoken w t l m timed (releasing s a)
        by_act (unlock.Leave true) is can free =
            ap (λ (b : Bool). if b then record (own_call w t l m timed (releasing s (unlock.Leave true))) {
              retries = Some m;
              recalls =
                  after_wake (own_call w t l m timed (releasing s (unlock.Leave true))).recalls;
            }
            else own_call w t l m timed (releasing s (unlock.Leave true)))
            (unheld (free refl) m)
        by_act unlock.Subtract is can free = calm_act m timed (releasing s unlock.Subtract) is can (λ h. h)
        by_act unlock.Enter is can free = calm_act m timed (releasing s unlock.Enter) is can (λ h. h)
        by_act unlock.Take is can free = calm_act m timed (releasing s unlock.Take) is can (λ h. h)
        by_act (unlock.Clear any) is can free = calm_act m timed (releasing s (unlock.Clear any)) is can
            (λ h. h)
        by_act (unlock.Leave false) is can free = calm_act m timed (releasing s (unlock.Leave false)) is can
            (λ h. h)

    module _
        (fits_left : FitsItsLock w (next_place
        (place_at (state_after_act w t (Condvar l (Wait m timed (releasing s a))) (unlock_act m a)) t)
        (reply_to w t (unlock_act m a)))) where
      stays_on : place_at (state_after_act w t (Condvar l (Wait m timed (releasing s a))) (unlock_act m a)) t
          ≡ Condvar l (Wait m timed (releasing s a))
          → IsLeft t s a → Goes
      stays_on still free = waits_still m timed (releasing s a) is can fits_left still (stays_unwoken free)

  -- the thread has taken itself
  module _ (m : ℕ) (timed : Bool) (is : place_at w t ≡ Condvar l
      (Wait m timed (releasing stands.Moved unlock.Take)))
      (can : can_do w (unlock_act m unlock.Take) ≡ true) where
    abbrev takes_at : Place
    takes_at = Condvar l (Wait m timed (releasing stands.Moved unlock.Take))

    abbrev took_at : Place
    took_at = place_at (state_after_act w t takes_at (unlock_act m unlock.Take)) t

    took_on : (none_left : Bool) → reply_to w t (unlock_act m unlock.Take) ≡ Took true none_left
        → took_at ≡ Condvar l (Wait m timed (releasing (stands.InHand t) unlock.Take))
        → FitsItsLock w (next_place took_at (reply_to w t (unlock_act m unlock.Take)))
        → GoesOn (locks_of w) t (going_outcome w t takes_at) (locks_of (state_after_going w t takes_at))
    took_on none_left told stood fits_then = by_left none_left told
      where
        calm : IsUnwoken w t l m timed (releasing stands.Moved unlock.Take)
        calm = calm_act m timed (releasing stands.Moved unlock.Take) is can (λ h. h)

        goes_by : (r : Reply) → reply_to w t (unlock_act m unlock.Take) ≡ r
            → next_place took_at (reply_to w t (unlock_act m unlock.Take))
            ≡ next_place (Condvar l (Wait m timed (releasing (stands.InHand t) unlock.Take))) r
        goes_by r e = ap (λ q. next_place q (reply_to w t (unlock_act m unlock.Take))) stood
            ∙ ap (next_place (Condvar l (Wait m timed (releasing (stands.InHand t) unlock.Take)))) e

        told_by : (r : Reply) → reply_to w t (unlock_act m unlock.Take) ≡ r
            → going_outcome w t takes_at
            ≡ outcome_of (next_act (Condvar l (Wait m timed (releasing (stands.InHand t) unlock.Take))) r)
        told_by r e = ap (λ q. outcome_of (next_act q (reply_to w t (unlock_act m unlock.Take)))) stood
            ∙ ap (λ x. outcome_of (next_act
            (Condvar l (Wait m timed (releasing (stands.InHand t) unlock.Take))) x)) e

        by_left : (b : Bool) → reply_to w t (unlock_act m unlock.Take) ≡ Took true b
            → GoesOn (locks_of w) t (going_outcome w t takes_at) (locks_of (state_after_going w t takes_at))
        by_left true e = waits_told m timed (releasing stands.Moved unlock.Take) is can fits_then
            (releasing stands.Moved (unlock.Clear true)) (releasing (stands.InHand t) (unlock.Clear true))
            (ap (condvar_next (Wait m timed (releasing stands.Moved unlock.Take))) e)
            (goes_by (Took true true) e) (told_by (Took true true) e) tt (λ c. c) (λ r. refl) calm
        by_left false e = waits_told m timed (releasing stands.Moved unlock.Take) is can fits_then
            (releasing stands.Moved (unlock.Leave true)) (releasing (stands.InHand t) (unlock.Leave true))
            (ap (condvar_next (Wait m timed (releasing stands.Moved unlock.Take))) e)
            (goes_by (Took true false) e) (told_by (Took true false) e) tt (λ c. c) (λ r. refl) calm

  -- the thread wakes itself
  module _ (m : ℕ) (timed : Bool) (is : place_at w t ≡ Condvar l
      (Wait m timed (releasing (stands.InHand t) (unlock.Leave true))))
      (can : can_do w (unlock_act m (unlock.Leave true)) ≡ true) where
    abbrev wakes_at : Place
    wakes_at = Condvar l (Wait m timed (releasing (stands.InHand t) (unlock.Leave true)))

    abbrev woke_at : Place
    woke_at = place_at (state_after_act w t wakes_at (unlock_act m (unlock.Leave true))) t

    abbrev woken_call : CallState → CallState
    woken_call c = record c { retries = Some m; recalls = after_wake c.recalls }

    woke_on : woke_at ≡ Condvar l (Wait m timed (releasing (stands.Noted note.Normal) (unlock.Leave true)))
        → FitsItsLock w (next_place woke_at Done)
        → GoesOn (locks_of w) t (going_outcome w t wakes_at) (locks_of (state_after_going w t wakes_at))
    woke_on stood fits_then = waits_told m timed (releasing (stands.InHand t) (unlock.Leave true)) is can
        fits_then (wait.Asleep (stands.InHand t)) (wait.Lock false (first_lock true)) refl
        (ap (λ q. next_place q Done) stood)
        (ap (λ q. outcome_of (next_act q Done)) stood) tt woken_call (λ r. refl)
        (ap (λ (b : Bool). if b then woken_call
        (own_call w t l m timed (releasing (stands.InHand t) (unlock.Leave true))) else own_call w t l m
        timed (releasing (stands.InHand t) (unlock.Leave true))) in_own_hand)
      where
        in_own_hand : is_taken_by t (taken_at (place_at w t) m) ≡ true
        in_own_hand = ap (λ q. is_taken_by t (taken_at q m)) is
            ∙ ap (is_taken_by t) (taken_beside l m
            (apart w t l (Wait m timed (releasing (stands.InHand t) (unlock.Leave true))) inductive is m
            refl) (At (Wait m timed (releasing (stands.InHand t) (unlock.Leave true)))) refl) ∙ same t

  -- for every act of its release
  module _ (m : ℕ) (timed : Bool) (s : WaiterFate) (a : UnlockAt) (is : place_at w t ≡ Condvar l
      (Wait m timed (releasing s a)))
      (can : can_do w (unlock_act m a) ≡ true) where
    abbrev Released : WaiterFate → UnlockAt → Type 0
    Released s a = GoesOn (locks_of w) t (going_outcome w t (Condvar l (Wait m timed (releasing s a))))
        (locks_of (state_after_going w t (Condvar l (Wait m timed (releasing s a)))))

    abbrev stood_at : WaiterFate → UnlockAt → Place
    stood_at s a = place_at (state_after_act w t (Condvar l (Wait m timed (releasing s a))) (unlock_act m a))
        t

    abbrev From : WaiterFate → WaiterFate → UnlockAt → Type 0
    From now s a = place_at w t ≡ Condvar l (Wait m timed (releasing s a)) → can_do w (unlock_act m a) ≡ true
        → stood_at s a ≡ Condvar l (Wait m timed (releasing now a))
        → FitsItsLock w (next_place (stood_at s a) (reply_to w t (unlock_act m a))) → Released s a

    release_on : Released s a
    release_on = let at = left m timed s a is can in elim at.how [
      | inl stays ↦ stays_on m timed s a is can (left_fits m timed s a is can) (at.place
          ∙ ap (λ z. Condvar l (Wait m timed (releasing z a))) stays.0) stays.1
      | inr own ↦ elim own [
        | inl took ↦ subst (From at.now s) (sym took.takes) (subst (λ z. From at.now z unlock.Take)
            (sym took.moved) (λ e can stood fits_then. took_on m timed e can took.none_left took.told (stood
            ∙ ap (λ z. Condvar l (Wait m timed (releasing z unlock.Take))) took.in_hand) fits_then))
            is can at.place (left_fits m timed s a is can)
        | inr woke ↦ subst (From at.now s) (sym woke.leaves) (subst (λ z. From at.now z (unlock.Leave true))
            (sym woke.in_hand) (λ e can stood fits_then. woke_on m timed e can (stood
            ∙ ap (λ z. Condvar l (Wait m timed (releasing z (unlock.Leave true)))) woke.noted) fits_then))
            is can at.place (left_fits m timed s a is can)
      ]
    ]

  -- ---------------------------------------------------------------- a notification's first look

  module _ (all : Bool) (is : place_at w t ≡ Condvar l (Look all)) where
    abbrev looked : State
    looked = state_after_going w t (Condvar l (Look all))

    here_fits : FitsCondvar w l (Look all)
    here_fits = fits_here w t l (Look all) inductive is

    there_l : l < length w.locks
    there_l = let f = subst (λ p. PlaceFits (length w.locks) p) is (shape.places t) in f.0

    -- the mutex that is shown is a plain one
    looked_fits : FitsItsLock w (condvar_goes l (condvar_next (Look all) (Value (word_at w l))))
    looked_fits = by_word (word_at w l == 0) refl
      where
        shows : ShowsPlainMutex (length w.locks) (kind_at w) (word_at w l)
        shows = shape.shown l (let k = subst (IsOfItsKind (kind_at w)) is (shape.kinds t) in k.0)

        by_word : (b : Bool) → (word_at w l == 0) ≡ b
            → FitsItsLock w
            (condvar_goes l (if b then Over (notified all 0)
            else At (Notify all (mutex_shown (word_at w l)) notify.Enter)))
        by_word true e = tt
        by_word false e = record {
          sort = here_fits.sort;
          reached = tt;
          mutex = λ k names. let same_mutex : mutex_shown (word_at w l) ≡ k = cc
              in subst (λ j. is_plain_mutex (kind_at w j) ≡ true) same_mutex
              (elim shows [
                | inl none ↦ absurd (let f : (word_at w l == 0) ≡ true = ap (λ n. n == 0) none
                    in cc)
                | inr some ↦ some.1
              ]);
        }

    stood_looking : place_at (state_after_act w t (Condvar l (Look all)) (act.Word l op.Load)) t
        ≡ Condvar l (Look all)
    stood_looking = is

    looks_goes : GoesAll w looked (only_at l [])
    looks_goes = goes_all w looked l [] inductive
        (subst (λ q. GoesAt w (put (state_after_act w t (Condvar l (Look all)) (act.Word l op.Load)) t
        (next_place q (Value (word_at w l)))) l []) (sym stood_looking)
        (looks w t l all inductive there there_l here_fits.sort is looked_fits))

    nothing_done : (k : ℕ) → only_at l [] k ≡ []
    nothing_done k = either (k == l)
      where
        either : (b : Bool) → ◌≡◌ {A = List deeds.Act} (if b then [] else []) []
        either true = refl
        either false = refl

    calm_look : (seen : ℕ) → IsCalmEvent (look_event l seen)
    calm_look seen = either (seen == 0)
      where
        either : (b : Bool) → IsCalmEvent (if b then Nothing else AtLock l
            (OfCondvar (locks.Look (Some (mutex_shown seen)))))
        either true = tt
        either false = tt

    looked_so : IsEvent w looked t (look_event l (word_at w l))
    looked_so = subst (λ n. IsEvent w looked t (look_event l n)) (sym (word_is w t l (Look all) inductive is))
        (look_happened w looked t l all inductive (goes_all_inductive w looked (only_at l []) inductive
        looks_goes.follows looks_goes.stands) is (only_at l []) looks_goes.follows nothing_done)

    looks_on : GoesOn (locks_of w) t (going_outcome w t (Condvar l (Look all))) (locks_of looked)
    looks_on = subst (λ o. GoesOn (locks_of w) t o (locks_of looked))
        (sym (ap (λ q. outcome_of (next_act q (Value (word_at w l)))) stood_looking))
        (look_step w looked t l shape inductive (condvars l here_fits.sort) there there_l (only_at l [])
        looks_goes all is refl nothing_done
        (calm_follow w looked t (look_event l (word_at w l)) looked_so (calm_look (word_at w l))
        (lonely w t (next_place (place_at (state_after_act w t (Condvar l (Look all))
        (act.Word l op.Load)) t) (Value (word_at w l))) (Condvar l (Look all)) (act.Word l op.Load) tt)))

  -- ---------------------------------------------------------------- whatever it does

  -- the thread goes on in the abstract locks
  pub condvar_on : (at : CondvarPlace) → place_at w t ≡ Condvar l at → can_do w (condvar_act l at) ≡ true
      → GoesOn (locks_of w) t (going_outcome w t (Condvar l at))
      (locks_of (state_after_going w t (Condvar l at)))
  condvar_on (Look all) is can = looks_on all is
  condvar_on (Notify all m p) is can = notifies_on all m p is can
  condvar_on (Wait m timed (wait.Release s (mutex.Unlock a))) is can = release_on m timed s a is can
  condvar_on (Wait m timed (wait.Release s a)) is can =
      absurd (fits (Wait m timed (wait.Release s a)) is m refl).reached.0
  condvar_on (Wait m timed p) is can = calm_on m timed p is can refl

  -- Every lock is a site again after an act on a condition variable.
  pub condvar_inductive : (at : CondvarPlace) → place_at w t ≡ Condvar l at → can_do w (condvar_act l at)
      ≡ true
      → IsInductive (state_after_going w t (Condvar l at))
  condvar_inductive (Look all) is can = goes_all_inductive w _ _ inductive (looks_goes all is).follows
      (looks_goes all is).stands
  condvar_inductive (Notify all m p) is can = goes_all_inductive w _ _ inductive (goes all m p is can).follows
      (goes all m p is can).stands
  condvar_inductive (Wait m timed (wait.Release s (mutex.Unlock a))) is can = let g =
      goes_waiting m timed (releasing s a) is can (left_fits m timed s a is can)
      in goes_all_inductive w _ _ inductive g.follows g.stands
  condvar_inductive (Wait m timed (wait.Release s a)) is can =
      absurd (fits (Wait m timed (wait.Release s a)) is m refl).reached.0
  condvar_inductive (Wait m timed p) is can = let g = goes_waiting m timed p is can
      (calm_fits m timed p is can refl) in goes_all_inductive w _ _ inductive g.follows g.stands
