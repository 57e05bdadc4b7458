-- A thread that goes on in a call of a condition variable is told its reply as the laws of its places take
-- it: at the condition variable, and at the mutex beside it.
use Rattle.lot_laws.proofs.Imports
use Imports.{ℕ, suc, Bool, true, false, Option, Some, None, if◌then◌else◌, ◌==◌, ◌≡◌, ◌≢◌, ◌+◌, ◌*◌, ◌≤◌, List}
use Imports.{[], ◌∷◌, map, drop, length, not, refl, sym, ◌∙◌, ap, subst, arith, One, Waiter, first_of, times}
use Imports.{without, moved_by, taken_by, Act, taken_from, Location, location_by, LockAt, UnlockAt}
use Imports.{mutex_profile, is_locked, lock_act, unlock_act, Condvar, profile_at, NotifyAt, CondvarPlace, Wait}
use Imports.{Look, Notify, WaiterFate, WaitAt, comes_from_another, condvar_act, move_act, mutex_beside}
use Imports.{notify_act}
use Imports.{wait_act, condvar_row, has_mutex, mutex_side, notify_row, IsLockOf, IsReached, IsAt, MayReply}
use Imports.{MayHearNotifying, MayHearWaiting, word_showing, MayGetReplyAtMutex, MayHearLocking, MayHearReleasing}
use Imports.{MayHearWaiter, TakesFirst, condvar_moves_fit, code, shown_code, word_by, CondvarSite, IsCondvar}
use Imports.{MoveFits, WaitsAside, moved_of, HasTakenNobody, one_if_some, Taken, keep_from, Rules, first_thread}
use Imports.{standing, queued_of, Line, Main, Second, Site, is_empty, IsSectionFree, State, is_there, kind_at}
use Imports.{listed, can_do, section_is_free, place_at, queue_at, reply_to, section_at, word_at, lock_state}
use Imports.{taken_at, location_at, carried_at, FitsCondvar, FitsItsLock, IsInductive, condvar_of, inside_as}
use Imports.{key_of, rules_in, site_of, stood_in}
use Rattle.std.specs.Prelude.{is_none}
use Rattle.core_base.specs.declared.requeues.Requeue.TheVariants as requeue
use Rattle.steps_base.specs.declared.acts.Act.TheVariants as act
use Rattle.steps_mutex.specs.declared.lock.LockAt.TheVariants as lock
use Rattle.steps_mutex.specs.declared.lock.Entry.TheVariants as entry
use Rattle.steps_mutex.specs.declared.places.MutexPlace.TheVariants as mutex
use Rattle.steps_mutex.specs.declared.unlock.UnlockAt.TheVariants as unlock
use Rattle.core_base.specs.declared.ops.Op.TheVariants as op
use Rattle.steps_condvar.specs.declared.notify.NotifyAt.TheVariants as notify
use Rattle.steps_condvar.specs.declared.wait.WaitAt.TheVariants as wait
use Rattle.spec_locks.specs.Locks as locks
use Rattle.lot_laws.proofs.machine.Parts.{differ, inside_is, plain_rules, same, untaken}
use Rattle.lot_laws.proofs.sites.OneStep.{empty_line, queued_times, queued_without}
use Rattle.lot_laws.proofs.condvar.Sites.{at_place}
use Rattle.lot_laws.proofs.sites.StandsKept.{both}
use Rattle.lot_laws.proofs.hands.Counts.{first_out}

pub none_so : (o : Option ℕ) → is_none o ≡ true → o ≡ None
none_so None h = refl
none_so (Some u) h = absurd cc

-- ---------------------------------------------------------------- lines

dropped_queue : (n : ℕ) (q : List Waiter) → map queued_of (drop 1 q) ≡ drop 1 (map queued_of q)
dropped_queue n [] = refl
dropped_queue n (x ∷ q) = refl

left_alone : (q : List Waiter) → (length (drop 1 q) == 0) ≡ is_empty (drop 1 (map queued_of q))
left_alone q = sym (empty_line (drop 1 q)) ∙ ap is_empty (dropped_queue 0 q)

length_queued : (q : List Waiter) → length q ≡ length (map queued_of q)
length_queued [] = refl
length_queued (x ∷ q) = ap suc (length_queued q)

-- a thread that a requeue takes and moves are all that stood there
pub number_of : (locked : Bool) (q : List Waiter)
    → length (listed (taken_by (if locked then requeue.All else requeue.TakeOneMoveRest) q)) + length
    (moved_by (if locked then requeue.All else requeue.TakeOneMoveRest) q)
    ≡ length (map queued_of q)
number_of true q = let a : 0 + length q ≡ length q = omega arith in a ∙ length_queued q
number_of false [] = refl
number_of false (x ∷ q) = let e : length q ≡ length (map queued_of q) = length_queued q in let a : 1
    + length q ≡ suc (length q) = omega arith in a ∙ ap suc e

-- --------------------------------------------------------------- a thread at a place of a condition variable

-- a thread that a release of the mutex takes
abbrev pub taken_first : State → ℕ → UnlockAt → Option ℕ
taken_first w m unlock.Take = first_thread (lock_state w m).queue
taken_first w m p = None

-- tells what a thread does about the word that it saw, by its two tests
abbrev pub decided_by : ℕ → ℕ → Bool → Bool → Act
decided_by m x a b =
    if not a then act.Word m (op.Exchange x (x + 1))
    else if b then act.Word m (op.Exchange 1 3)
    else act.Enter (One (2 * m))

-- where it looks whether to stand in the line
abbrev lock_out : LockAt → Type 0
lock_out lock.Check = Unit {0}
lock_out p = ⊥

module _ (w : State) (t l : ℕ) (at : CondvarPlace) (inductive : IsInductive w) (is : place_at w t
    ≡ Condvar l at)
  where
    pub fits_here : FitsCondvar w l at
    fits_here = subst (FitsItsLock w) is (inductive.stands.calls t)

    abbrev pub here : CondvarSite
    here = condvar_of w l

    pub at_it : IsAt here t at
    at_it = at_place w inductive.stands t l at is

    -- the word shows the mutex that is shown
    pub word_is : word_at w l ≡ word_showing here.shown
    word_is = inductive.sites.word l ∙ ap (λ sort. word_by sort (rules_in w l).limit (lock_state w l)
        (site_of w l).aside_parked (site_of w l).parked) fits_here.sort ∙ shows here.shown
      where
        shows : (o : Option ℕ) → shown_code o ≡ word_showing o
        shows None = refl
        shows (Some m) = refl

    pub free_inside : section_is_free w (2 * l) ≡ true → here.inside ≡ None
    free_inside free = ap (λ o. inside_as o (λ u. (profile_at (place_at w u) l).stage))
        (none_so (section_at w (2 * l)) free)

    left_waiters : (length (without t (queue_at w (2 * l))) == 0) ≡ is_empty (locks.without t here.waiters)
    left_waiters = sym (empty_line (without t (queue_at w (2 * l))))
        ∙ ap is_empty (queued_without t (queue_at w (2 * l)))

    releasing : (m : ℕ) (at : UnlockAt) → comes_from_another (reply_to w t (unlock_act m at)) ≡ false
    releasing m unlock.Subtract = refl
    releasing m unlock.Enter = refl
    releasing m unlock.Take = refl
    releasing m (unlock.Clear any) = refl
    releasing m (unlock.Leave any) = refl

    waiting_hears : (m : ℕ) (timed : Bool) (p : WaitAt) → IsReached (Wait m timed p)
        → can_do w (wait_act l m p)
        ≡ true
        → MayHearWaiting here t p (reply_to w t (wait_act l m p))
    waiting_hears m timed wait.Enter reached can = free_inside can
    waiting_hears m timed wait.Show reached can = word_is
    waiting_hears m timed wait.Stand reached can = tt
    waiting_hears m timed wait.Leave reached can = tt
    waiting_hears m timed wait.Refuse reached can = tt
    waiting_hears m timed (wait.Release s (mutex.Unlock p)) reached can = releasing m p
    waiting_hears m timed (wait.Release s p) reached can = absurd reached.0
    waiting_hears m timed (wait.Asleep s) reached can = absurd cc
    waiting_hears m timed wait.Remove reached can = left_waiters
    waiting_hears m timed wait.Hide reached can = tt
    waiting_hears m timed wait.GiveUp reached can = tt
    waiting_hears m timed wait.RemoveMoved reached can = tt
    waiting_hears m timed (wait.GiveUpMoved none_left) reached can = tt
    waiting_hears m timed (wait.Lock late p) reached can = tt

    moving_hears : (all locked : Bool) (m : ℕ)
        → MayHearNotifying here all (notify.Move locked) (reply_to w t (move_act all locked l m))
    moving_hears true true m = number_of true (queue_at w (2 * l))
    moving_hears true false m = number_of false (queue_at w (2 * l))
    moving_hears false true m = left_alone (queue_at w (2 * l))
    moving_hears false false m = left_alone (queue_at w (2 * l))

    notifying_hears : (all : Bool) (m : ℕ) (p : NotifyAt) → IsReached (Notify all m p)
        → can_do w (notify_act all l m p) ≡ true
        → MayHearNotifying here all p (reply_to w t (notify_act all l m p))
    notifying_hears all m notify.Enter reached can =
        free_inside (both (section_is_free w (2 * l)) (section_is_free w (2 * m)) can).0
    notifying_hears all m notify.Again reached can = word_is
    notifying_hears all m notify.Hide reached can = reached
    notifying_hears all m notify.Mark reached can = tt
    notifying_hears all m (notify.Set seen) reached can = tt
    notifying_hears all m (notify.Move locked) reached can = moving_hears all locked m
    notifying_hears all m (notify.Clear any) reached can = tt
    notifying_hears all m (notify.MarkMoved number) reached can = reached.1
    notifying_hears all m (notify.Leave any number) reached can = tt

    -- at the condition variable
    pub may_hear : can_do w (condvar_act l at) ≡ true → MayReply here t at (reply_to w t (condvar_act l at))
    may_hear can = by_place at fits_here.reached can
      where
        by_place : (p : CondvarPlace) → IsReached p → can_do w (condvar_act l p) ≡ true
            → MayReply here t p (reply_to w t (condvar_act l p))
        by_place (Wait m timed p) reached can = waiting_hears m timed p reached can
        by_place (Look all) reached can = tt
        by_place (Notify all m p) reached can = notifying_hears all m p reached can

    -- ---------------------------------------------------------------- at the mutex beside it

    module _ (m : ℕ) (beside : mutex_beside at ≡ Some m) where
      abbrev there : Site
      there = site_of w m

      abbrev rules : Rules
      rules = rules_in w m

      pub rules_beside : rules.sort ≡ locks.Mutex
      rules_beside = ap (λ (r : Rules). r.sort) (plain_rules (kind_at w m) (fits_here.mutex m beside))

      -- the mutex is another lock
      pub apart : m ≢ l
      apart e = let both : locks.Mutex ≡ locks.Condvar = sym rules_beside ∙ ap (λ n. (rules_in w n).sort) e
          ∙ fits_here.sort in cc

      pub location_beside : location_at (place_at w t) m ≡ location_by (mutex_side at)
      location_beside = rw (is, differ l m (λ e. apart (sym e)), beside, same m) refl

      pub role_beside : there.role t ≡ (condvar_row at).role
      role_beside = rw (is, differ l m (λ e. apart (sym e)), beside, same m) refl

      pub taken_beside : taken_at (place_at w t) m ≡ taken_from (mutex_side at).hand (mutex_side at).wants
          true
      taken_beside = rw (is, differ l m (λ e. apart (sym e)), beside, same m) refl

      word_beside : word_at w m ≡ code rules there
      word_beside = inductive.sites.word m

      free_beside : section_is_free w (2 * m) ≡ true → IsSectionFree there Main
      free_beside free u h = let a : section_at w (2 * m) ≡ Some u = (inductive.stands.sections u m Main).0
          (sym (inside_is (place_at w u) m) ∙ h) in
          let none : section_at w (2 * m) ≡ None = none_so (section_at w (2 * m)) free
          in let b : ◌≡◌ {A = Option ℕ} None (Some u) = sym none ∙ a in cc

      -- a thread that has nobody in hand has taken nobody
      taken_nobody : carried_at (place_at w t) m ≡ None → HasTakenNobody there.lock t
      taken_nobody none u x h = let kept : keep_from t (taken_at (place_at w u) m) ≡ taken_at (place_at w u)
          m =
          untaken (place_at w u) t m (λ e. let a : carried_at (place_at w t) m ≡ Some false =
          inductive.stands.hands.taken t u m false e in let b : ◌≡◌ {A = Option Bool} None (Some false) =
          sym none
          ∙ a in cc) in
          let gone : keep_from t (Some (record { by = t; want = x })) ≡ Some (record { by = t; want = x }) =
          subst (λ o. keep_from t o ≡ o) h kept in
          let f : ◌≡◌ {A = Option Taken} None (Some (record { by = t; want = x })) =
          sym (ap (λ b. if b then None else Some (record { by = t; want = x })) (same t)) ∙ gone in cc

      first_there : TakesFirst there (first_thread there.lock.queue)
          (is_there (first_of (queue_at w (2 * m))))
          (length (drop 1 (queue_at w (2 * m))) == 0)
      first_there = record {
        first = refl;
        some = any_first (queue_at w (2 * m));
        left = left_alone (queue_at w (2 * m));
      }
        where
          any_first : (q : List Waiter) → is_there (first_of q)
              ≡ not (is_none (first_thread (map queued_of q)))
          any_first [] = refl
          any_first (x ∷ q) = refl

      -- the thread stands nowhere there
      nowhere_beside : (mutex_side at).stands ≡ None → (mutex_side at).hand ≡ None → standing t there.lock ≡ 0
      nowhere_beside out free =
          let main : locks.times t (map queued_of (queue_at w (2 * m))) ≡ 0 =
          queued_times t (queue_at w (2 * m)) ∙ stood Main in
          let aside : locks.one_if_thread t (first_of (queue_at w (2 * m + 1))) ≡ 0 =
          first_out t (queue_at w (2 * m + 1)) (stood Second) in
          let taken : one_if_some (taken_at (place_at w t) m) ≡ 0 = ap one_if_some (taken_beside
          ∙ ap (λ h. taken_from h (mutex_side at).wants true) free) in
          omega arith
        where
          stood : (n : Line) → times t (queue_at w (key_of m n)) ≡ 0
          stood n = inductive.stands.lines t m n ∙ ap (λ (y : Location). stood_in y.stands n) location_beside
              ∙ ap (λ o. stood_in o n) out

      stands_beside : (mutex_side at).stands ≡ Some Main → 1 ≤ locks.times t there.lock.queue
      stands_beside stands = let a : locks.times t there.lock.queue ≡ 1 = queued_times t (queue_at w (2 * m))
          ∙ inductive.stands.lines t m Main ∙ ap (λ (y : Location). stood_in y.stands Main) location_beside
          ∙ ap (λ o. stood_in o Main) stands in omega arith

      left_beside : (length (without t (queue_at w (2 * m))) == 0) ≡ is_empty
          (locks.without t there.lock.queue)
      left_beside = sym (empty_line (without t (queue_at w (2 * m))))
          ∙ ap is_empty (queued_without t (queue_at w (2 * m)))

      releasing_hears : (s : WaiterFate) (p : UnlockAt)
          → (has_mutex s ≡ true → (mutex_profile (mutex.Unlock p)).role.claims ≡ None)
          → carried_at (place_at w t) m ≡ (mutex_profile (mutex.Unlock p)).has_taken → can_do w (unlock_act m p)
          ≡ true
          → MayHearReleasing rules there t s p (taken_first w m p) (reply_to w t (unlock_act m p))
      releasing_hears s unlock.Subtract free carried can = (word_beside, unowned (has_mutex s) refl)
        where
          unowned : (b : Bool) → has_mutex s ≡ b → b ≡ false
          unowned false e = refl
          unowned true e = absurd (let none = free e in cc)
      releasing_hears s unlock.Enter free carried can = free_beside can
      releasing_hears s unlock.Take free carried can = (first_there, taken_nobody carried)
      releasing_hears s (unlock.Clear any) free carried can = tt
      releasing_hears s (unlock.Leave any) free carried can = tt

      deciding_hears : (x : ℕ) (a b : Bool) → can_do w (decided_by m x a b) ≡ true
          → MayHearLocking rules there t (lock.Decide x) (reply_to w t (decided_by m x a b))
      deciding_hears x false b can = word_beside
      deciding_hears x true true can = word_beside
      deciding_hears x true false can = free_beside can

      locking_hears : (p : LockAt) → IsLockOf p → (lock_out p → standing t there.lock ≡ 0)
          → can_do w (lock_act m p) ≡ true
          → MayHearLocking rules there t p (reply_to w t (lock_act m p))
      locking_hears lock.First of out can = word_beside
      locking_hears lock.Load of out can = tt
      locking_hears (lock.Decide x) of out can = deciding_hears x (is_locked x) (x == 1) can
      locking_hears lock.Check of out can = (ap (λ v. v == 3) word_beside, out tt)
      locking_hears (lock.Leave parked) of out can = tt
      locking_hears lock.Accept of out can = tt
      locking_hears lock.Asleep of out can = absurd cc
      locking_hears (lock.Taken by) of out can = absurd cc
      locking_hears (lock.Handed by) of out can = absurd cc
      locking_hears lock.Remove of out can = absurd of
      locking_hears lock.Clear of out can = absurd of
      locking_hears lock.GiveUp of out can = absurd of

-- ---------------------------------------------------------------- a wait, at its mutex

-- a thread that its step takes, if it is a release
abbrev pub taken_by_wait : State → ℕ → WaitAt → Option ℕ
taken_by_wait w m (wait.Release s (mutex.Unlock p)) = taken_first w m p
taken_by_wait w m p = None

module _ (w : State) (t l m : ℕ) (timed : Bool) (at : WaitAt) (inductive : IsInductive w)
    (is : place_at w t ≡ Condvar l (Wait m timed at)) where
  abbrev site_m : Site
  site_m = site_of w m

  wait_reached : IsReached (Wait m timed at)
  wait_reached = (fits_here w t l (Wait m timed at) inductive is).reached

  out_of_line : (mutex_side (Wait m timed at)).stands ≡ None → (mutex_side (Wait m timed at)).hand ≡ None
      → standing t site_m.lock ≡ 0
  out_of_line = nowhere_beside w t l (Wait m timed at) inductive is m refl

  carried : carried_at (place_at w t) m ≡ (mutex_side (Wait m timed at)).has_taken
  carried = ap (λ (y : Location). y.has_taken) (location_beside w t l (Wait m timed at) inductive is m refl)

  pub waiter_hears : can_do w (wait_act l m at) ≡ true
      → MayHearWaiter (rules_in w m) site_m t at (taken_by_wait w m at) (reply_to w t (wait_act l m at))
  waiter_hears can = by_place at refl
    where
      by_place : (p : WaitAt) → at ≡ p
          → MayHearWaiter (rules_in w m) site_m t p (taken_by_wait w m p) (reply_to w t (wait_act l m p))
      by_place wait.Enter e = tt
      by_place wait.Show e = tt
      by_place wait.Stand e = tt
      by_place wait.Leave e = tt
      by_place wait.Refuse e = tt
      by_place (wait.Release s (mutex.Unlock p)) e = releasing_hears w t l (Wait m timed at) inductive is m
          refl
          s p
          (subst (λ q. IsReached (Wait m timed q)) e wait_reached).1 (carried
          ∙ ap (λ q. (mutex_side (Wait m timed q)).has_taken) e)
          (subst (λ q. can_do w (wait_act l m q) ≡ true) e can)
      by_place (wait.Release s p) e = absurd (subst (λ q. IsReached (Wait m timed q)) e wait_reached).0
      by_place (wait.Asleep s) e = absurd (let no : can_do w (wait_act l m (wait.Asleep s)) ≡ true =
          subst (λ q. can_do w (wait_act l m q) ≡ true) e can in cc)
      by_place wait.Remove e = tt
      by_place wait.Hide e = tt
      by_place wait.GiveUp e = tt
      by_place wait.RemoveMoved e = (
        stands_beside w t l (Wait m timed at) inductive is m refl
            (ap (λ q. (mutex_side (Wait m timed q)).stands) e),
        left_beside w t l (Wait m timed at) inductive is m
            refl,
      )
      by_place (wait.GiveUpMoved none_left) e = tt
      by_place (wait.Lock late (mutex.Lock entry.Lock retries p)) e = locking_hears w t l (Wait m timed at)
          inductive is m refl p
          (subst (λ q. IsReached (Wait m timed q)) e wait_reached).1 (stood_out p e)
          (subst (λ q. can_do w (wait_act l m q) ≡ true) e can)
        where
          stood_out : (p : LockAt) → at ≡ wait.Lock late (mutex.Lock entry.Lock retries p) → lock_out p
              → standing t site_m.lock ≡ 0
          stood_out lock.Check e h = out_of_line (ap (λ q. (mutex_side (Wait m timed q)).stands) e)
              (ap (λ q. (mutex_side (Wait m timed q)).hand) e)
          stood_out p e h = absurd h
      by_place (wait.Lock late p) e = absurd (subst (λ q. IsReached (Wait m timed q)) e wait_reached).1

-- ---------------------------------------------------------------- a notification, at the mutex

module _ (w : State) (t l m : ℕ) (all : Bool) (at : NotifyAt) (inductive : IsInductive w)
    (condvars : IsCondvar (condvar_of w l))
    (aside : WaitsAside (condvar_of w l) (site_of w m) m) (is : place_at w t ≡ Condvar l (Notify all m at))
  where
    abbrev beside_site : Site
    beside_site = site_of w m

    abbrev this : CondvarPlace
    this = Notify all m at

    notify_reached : IsReached this
    notify_reached = (fits_here w t l this inductive is).reached

    pub fits_move : (locked : Bool) → at ≡ notify.Move locked → MoveFits (rules_in w m) all locked
        (condvar_of w l) beside_site t m
    fits_move locked e = condvar_moves_fit (rules_in w m) all locked (condvar_of w l) beside_site t m
        (rules_beside w t l this inductive is m refl) condvars aside
        (subst (λ q. IsAt (condvar_of w l) t (Notify all m q)) e (at_it w t l this inductive is))
        (role_beside w t l this inductive is m refl ∙ ap (λ q. (notify_row all m q).role) e)

    -- somebody waits, so that the first of them is there
    any_waits : (q : List Waiter) → moved_of false (map queued_of q) ≢ [] → is_there (first_of q) ≡ true
    any_waits [] some = absurd (some refl)
    any_waits (x ∷ q) some = refl

    pub notifier_hears : can_do w (notify_act all l m at) ≡ true
        → MayGetReplyAtMutex (rules_in w m) beside_site (condvar_of w l) t m all at
        (reply_to w t (notify_act all l m at))
    notifier_hears can = by_place at refl
      where
        by_move : (b locked : Bool) → all ≡ b → at ≡ notify.Move locked
            → MayGetReplyAtMutex (rules_in w m) beside_site (condvar_of w l) t m b (notify.Move locked)
            (reply_to w t (move_act b locked l m))
        by_move true true f e = (
          number_of true (queue_at w (2 * l)),
          subst (λ b. MoveFits (rules_in w m) b true (condvar_of w l) beside_site t m) f (fits_move true e),
        )
        by_move true false f e = (
          number_of false (queue_at w (2 * l)),
          subst (λ b. MoveFits (rules_in w m) b false (condvar_of w l) beside_site t m) f (fits_move false e),
        )
        by_move false true f e = subst (λ b. MoveFits (rules_in w m) b true (condvar_of w l) beside_site t m)
            f
            (fits_move true e)
        by_move false false f e = let k =
            subst (λ b. MoveFits (rules_in w m) b false (condvar_of w l) beside_site t m) f
            (fits_move false e)
            in (any_waits (queue_at w (2 * l)) k.some, k)

        by_place : (p : NotifyAt) → at ≡ p
            → MayGetReplyAtMutex (rules_in w m) beside_site (condvar_of w l) t m all p
            (reply_to w t (notify_act all l m p))
        by_place notify.Enter e = free_beside w t l this inductive is m refl (both (section_is_free w (2 * l))
            (section_is_free w (2 * m)) (subst (λ q. can_do w (notify_act all l m q) ≡ true) e can)).1
        by_place notify.Again e = tt
        by_place notify.Hide e = tt
        by_place notify.Mark e = inductive.sites.word m
        by_place (notify.Set seen) e = (
          inductive.sites.word m,
          subst (λ q. IsReached (Notify all m q)) e
              notify_reached,
        )
        by_place (notify.Move locked) e = by_move all locked refl e
        by_place (notify.Clear any) e = tt
        by_place (notify.MarkMoved number) e = (subst (λ q. IsReached (Notify all m q)) e notify_reached).1
        by_place (notify.Leave any number) e = taken_beside w t l this inductive is m refl
            ∙ ap (λ q. taken_from (mutex_side (Notify all m q)).hand (mutex_side (Notify all m q)).wants true)
            e
