-- A step of a notification is one event of its condition variable or of the mutex that it saw, or a move of
-- waiters from the one to the other; and its call goes on by it.
use Rattle.lot_laws.proofs.Imports
use Imports.{ℕ, Bool, true, false, Option, Some, None, if◌then◌else◌, ◌==◌, ◌≡◌, ◌≢◌, ◌⊎◌, ◌*◌, ◌≤◌, List, []}
use Imports.{◌∷◌, length, inl, inr, refl, sym, ◌∙◌, ap, subst, arith, cases_eq, eqb-true, nat_tests, outcome_of}
use Imports.{rights_where, Location, blank_row, in_hand, Next, Reply, is_locked, NotifyAt, CondvarPlace, Wait}
use Imports.{Look, Notify, CallOfTwoFollows, IsReached, MayComeOfTwo, marked_event, notify_event, IsListed}
use Imports.{condvar_deeds, notify_deeds, beside_deeds, condvar_profile, condvar_row, mutex_side}
use Imports.{notify_carries, notify_recalls, condvar_next, in_notify, is_shown, move_act, next_notify}
use Imports.{notify_act, notifies_tell, Place, Condvar, condvar_does, condvar_goes, is_lock, profile_at}
use Imports.{IsCondvar, MissIt, MoveFits, SeeAgain, WaitsAside, moved_of, Waits, moved_fewer, KeepLock}
use Imports.{after_all, event_by, HasTakenNobody, LockCase, LockState, OfCondvar, SeeOwner, Wake, rights_of}
use Imports.{MayHappen, is_among, AtLock, Event, GoesOn, MayMove, Moves, Nothing, is_taken_by, Case, Deed, End}
use Imports.{In, Main, MarkBrought, MarkOwned, Out, kept, State, can_do, kind_at, place_at, queue_at, reply_to}
use Imports.{word_at, IsMutexWord, acts, call_at, call_state, lock_state, locks_of, taken_at, FollowAll}
use Imports.{IsInductive, condvar_of, rules_in, site_of}
use Rattle.std.specs.Prelude.{is_some}
use Rattle.spec_locks.specs.declared.outcomes.Outcome.TheVariants as outcome
use Rattle.steps_base.specs.declared.acts.Next.TheVariants as next
use Rattle.steps_condvar.specs.declared.notify.NotifyAt.TheVariants as notify
use Rattle.steps_condvar.specs.CondvarCalls.{or_else}
use Rattle.steps_condvar.specs.CondvarDeeds as condvar
use Rattle.spec_locks.specs.Locks as locks
use Rattle.lot_laws.specs.ThreadDeeds as deeds
use Rattle.lot_laws.proofs.machine.AtPlaces.{coded, in_no_hand, taken_nobody}
use Rattle.lot_laws.proofs.calls.CallEvents.{IsEvent, happens_sending, OthersFollow, deeds_by, put_is, rights}
use Rattle.lot_laws.proofs.condvar.StepEvents.{call_named, Led, NamesStill, ToldSo, begins_two, call_led}
use Rattle.lot_laws.proofs.condvar.StepEvents.{condvar_goes_on, happens_two, led_by, locks_led, may_go}
use Rattle.lot_laws.proofs.condvar.StepEvents.{no_closure, others, unwoken}
use Rattle.lot_laws.proofs.condvar.Replies.{apart, at_it, role_beside, fits_here, fits_move, number_of}
use Rattle.lot_laws.proofs.condvar.Replies.{may_hear, notifier_hears, rules_beside, location_beside}
use Rattle.lot_laws.proofs.condvar.MutexUntouched.{there_deeds}
use Rattle.lot_laws.proofs.machine.Parts.{plain_rules, same}
use Rattle.lot_laws.proofs.condvar.CondvarPromises.{unlisted}
use Rattle.lot_laws.proofs.condvar.WaitersAside.{WaitsAtCondvar, waits_there}
use Rattle.lot_laws.proofs.condvar.WaitEvents.{there_rights, unheard}

names_notify : (all : Bool) (m : ℕ) (n : Next NotifyAt) → NamesStill m (in_notify all m n)
names_notify all m (next.At at) = refl
names_notify all m (next.End answer) = tt

-- the thread never sleeps
steps_on : (all : Bool) (l m : ℕ) (q : NotifyAt) → outcome_of (notify_act all l m q)
    ≡ outcome.Step
steps_on all l m notify.Enter = refl
steps_on all l m notify.Again = refl
steps_on all l m notify.Hide = refl
steps_on all l m notify.Mark = refl
steps_on all l m (notify.Set seen) = refl
steps_on true l m (notify.Move locked) = refl
steps_on false l m (notify.Move true) = refl
steps_on false l m (notify.Move false) = refl
steps_on all l m (notify.Clear any) = refl
steps_on all l m (notify.MarkMoved number) = refl
steps_on all l m (notify.Leave any number) = refl

told_so : (v : State) (t l m : ℕ) (all : Bool) (n : Next NotifyAt)
    → ToldSo v t (in_notify all m n) (outcome_of (condvar_does l (in_notify all m n)))
told_so v t l m all (next.At q) = (l, inl (steps_on all l m q))
told_so v t l m all (next.End answer) = refl

-- the word of a mutex says whether somebody owns it
locked_by : (v : ℕ) (o : Option ℕ) → IsMutexWord v o → is_locked v ≡ is_some o
locked_by v None (inl e) = ap is_locked e
locked_by v None (inr e) = ap is_locked e
locked_by v (Some u) (inl e) = ap is_locked e
locked_by v (Some u) (inr e) = ap is_locked e

module _ (w v : State) (t l m : ℕ) (all : Bool) (p : NotifyAt) (inductive : IsInductive w)
    (after : IsInductive v)
    (is : place_at w t ≡ Condvar l (Notify all m p)) (done : ℕ → List deeds.Act) (f : FollowAll w v done)
    (elsewhere : (k : ℕ) → k ≢ l → k ≢ m → done k ≡ []) where
  apart_m : m ≢ l
  apart_m = apart w t l (Notify all m p) inductive is m refl

  abbrev Fits : ℕ → Option LockCase → Type 0
  Fits = Led w v t l m apart_m inductive after f.kinds (others w v t l m apart_m inductive after done f
      elsewhere)

  two : (x y : Option LockCase) → Fits m x → Fits l y → (x ≡ None) ⊎ (y ≡ None)
      → IsEvent w v t (or_else (event_by m x) (event_by l y))
  two = happens_two w v t l m apart_m inductive after f.kinds (others w v t l m apart_m inductive after done f
      elsewhere)

  -- a lock that keeps as it was
  stays : (k : ℕ) (ds : List Deed) → done k ≡ acts t ds → KeepLock ds → lock_state v k ≡ lock_state w k
  stays k ds at_k keep = locks_led w v t l m apart_m inductive after done f elsewhere k (acts t ds) at_k
      ∙ deeds_by (rules_in w k) t ds (site_of w k) ∙ kept (rules_in w k) t ds (site_of w k) keep

  -- the thread has nobody in hand but by its place
  nobody_there : HasTakenNobody (lock_state w l) t
  nobody_there = taken_nobody w inductive t l (rw (is, same l) refl)

  nobody_beside : notify_carries p ≢ Some false → HasTakenNobody (lock_state w m) t
  nobody_beside none = in_no_hand w inductive t m
      (λ h. none (sym (ap (λ (y : Location). y.has_taken) (location_beside w t l (Notify all m p) inductive is m
      refl)) ∙ h))

  -- whether somebody owns the mutex
  owned_is : is_locked (word_at w m) ≡ is_some (lock_state w m).exclusive
  owned_is = locked_by (word_at w m) (lock_state w m).exclusive
      (coded w inductive m (plain_rules (kind_at w m) ((fits_here w t l (Notify all m p) inductive is).mutex m
      refl)))

  sees_owner : (b : Bool) → b ≡ is_some (lock_state w m).exclusive → lock_state v m ≡ lock_state w m
      → lock_state v l ≡ lock_state w l → IsEvent w v t (AtLock m (SeeOwner b))
  sees_owner b owned at_m at_l = two (Some (SeeOwner b)) None (
    at_m,
    (rules_beside w t l (Notify all m p) inductive is m refl, owned),
  ) (at_l, tt) (inr refl)

  nothing : lock_state v m ≡ lock_state w m → lock_state v l ≡ lock_state w l → IsEvent w v t Nothing
  nothing at_m at_l = two None None (at_m, tt) (at_l, tt) (inl refl)

  marked : lock_state v m ≡ lock_state w m → lock_state v l ≡ lock_state w l
      → IsEvent w v t (marked_event m (word_at w m))
  marked at_m at_l = either (is_locked (word_at w m)) refl
    where
      either : (b : Bool) → is_locked (word_at w m) ≡ b
          → IsEvent w v t (if b then Nothing else AtLock m (SeeOwner false))
      either true e = nothing at_m at_l
      either false e = sees_owner false (sym e ∙ owned_is) at_m at_l

  hides : done l ≡ acts t (Case (OfCondvar locks.Hide) ∷ []) → lock_state v m ≡ lock_state w m
      → IsEvent w v t (AtLock l (OfCondvar locks.Hide))
  hides at_l at_m = two None (Some (OfCondvar locks.Hide)) (at_m, tt) (led_by w v t l m apart_m inductive
      after
      done f elsewhere l None (Case (OfCondvar locks.Hide) ∷ []) at_l tt (λ h. nobody_there)) (inl refl)

  abbrev waiters : List locks.Queued
  waiters = (condvar_of w l).waiters

  seen_again : (b : Bool) → KeepLock (there_deeds (if b then SeeAgain m ∷ [] else MissIt m ∷ []))
  seen_again true = tt
  seen_again false = tt

  marks : (b : Bool) → KeepLock (if b then MarkOwned ∷ [] else [])
  marks true = tt
  marks false = tt

  moves : (b owned : Bool)
      → done l ≡ acts t (there_deeds (notify_deeds b m (notify.Move owned)
      (reply_to w t (move_act b owned l m))))
      → done m ≡ acts t (beside_deeds b waiters (notify.Move owned) (reply_to w t (move_act b owned l m)))
      → IsEvent w v t (notify_event l b m (notify.Move owned) (reply_to w t (move_act b owned l m)))
  moves true true at_l at_m = happens_sending w v t l m true true _ done inductive after f
      (λ e. apart_m (sym e))
      at_l at_m elsewhere
  moves true false at_l at_m = happens_sending w v t l m true false _ done inductive after f
      (λ e. apart_m (sym e)) at_l at_m elsewhere
  moves false true at_l at_m = happens_sending w v t l m false true _ done inductive after f
      (λ e. apart_m (sym e)) at_l at_m elsewhere
  moves false false at_l at_m = happens_sending w v t l m false false _ done inductive after f
      (λ e. apart_m (sym e)) at_l at_m elsewhere

  wakes : (any : Bool) → notify_carries p ≡ in_hand any false → done l ≡ acts t (Out ∷ []) → done m
      ≡ acts t (Out ∷ End ∷ [])
      → IsEvent w v t (if any then AtLock m Wake else Nothing)
  wakes true has_taken at_l at_m = two (Some Wake) None (led_by w v t l m apart_m inductive after done f
      elsewhere
      m (Some false) (Out ∷ End ∷ []) at_m tt (λ h. absurd (h refl)))
      (led_by w v t l m apart_m inductive after done f elsewhere l None (Out ∷ []) at_l tt
      (λ h. nobody_there))
      (inr refl)
  wakes false has_taken at_l at_m = two None None (led_by w v t l m apart_m inductive after done f elsewhere m
      None
      (Out ∷ End ∷ []) at_m tt (λ h. nobody_beside (λ e. let none : ◌≡◌ {A = Option Bool} None (Some false) =
      sym has_taken ∙ e in cc)))
      (led_by w v t l m apart_m inductive after done f elsewhere l None (Out ∷ []) at_l tt
      (λ h. nobody_there))
      (inl refl)

  -- at each place
  by_place : (q : NotifyAt) → p ≡ q → done l
      ≡ acts t (there_deeds (notify_deeds all m q (reply_to w t (notify_act all l m q))))
      → done m ≡ acts t (beside_deeds all waiters q (reply_to w t (notify_act all l m q)))
      → IsReached (Notify all m q)
      → IsEvent w v t (notify_event l all m q (reply_to w t (notify_act all l m q)))
  by_place notify.Enter e at_l at_m reached = nothing (stays m (In Main ∷ []) at_m tt)
      (stays l (In Main ∷ []) at_l tt)
  by_place notify.Again e at_l at_m reached = nothing (stays m [] at_m tt)
      (stays l _ at_l (seen_again (is_shown (word_at w l) m)))
  by_place notify.Hide e at_l at_m reached = hides at_l (stays m [] at_m tt)
  by_place notify.Mark e at_l at_m reached = marked (stays m [] at_m tt) (stays l [] at_l tt)
  by_place (notify.Set expected) e at_l at_m reached = either (word_at w m == expected) refl
    where
      same_m : lock_state v m ≡ lock_state w m
      same_m = stays m _ at_m (marks (word_at w m == expected))

      either : (b : Bool) → (word_at w m == expected) ≡ b
          → IsEvent w v t (if b then AtLock m (SeeOwner true) else marked_event m (word_at w m))
      either true g = sees_owner true (sym (ap is_locked (eqb-true (word_at w m) expected g) ∙ reached)
          ∙ owned_is) same_m (stays l [] at_l tt)
      either false g = marked same_m (stays l [] at_l tt)
  by_place (notify.Move owned) e at_l at_m reached = moves all owned at_l at_m
  by_place (notify.Clear any) e at_l at_m reached = hides at_l (stays m [] at_m tt)
  by_place (notify.MarkMoved number) e at_l at_m reached = nothing (stays m (MarkBrought ∷ []) at_m tt)
      (stays l [] at_l tt)
  by_place (notify.Leave any number) e at_l at_m reached = wakes any (ap notify_carries e) at_l at_m

-- ---------------------------------------------------------------- a move

abbrev IsNoMove : Event → Type 0
IsNoMove e = (c k n : ℕ) (every owned : Bool) → e ≡ Moves c k every owned n → ⊥

at_lock_only : (l : ℕ) (case : LockCase) → IsNoMove (AtLock l case)
at_lock_only l case c k n every owned e = cc

nothing_only : IsNoMove Nothing
nothing_only c k n every owned e = cc

either_only : (b : Bool) (x y : Event) → IsNoMove x → IsNoMove y → IsNoMove (if b then x else y)
either_only true x y a b = a
either_only false x y a b = b

marked_only : (m seen : ℕ) → IsNoMove (marked_event m seen)
marked_only m seen = either_only (is_locked seen) Nothing (AtLock m (SeeOwner false)) nothing_only
    (at_lock_only m (SeeOwner false))

one_first : (q : List locks.Queued) → moved_of false q ≢ [] → 1 ≡ length (moved_of false q)
one_first [] some = absurd (some refl)
one_first (x ∷ q) some = refl

not_among : (u : ℕ) (all : Bool) (q : List locks.Queued) → locks.times u q ≡ 0 → is_among u (moved_of all q)
    ≡ false
not_among u all q none = let few = moved_fewer all u q in grind (arith, nat_tests)

module _ (w : State) (t l m : ℕ) (all : Bool) (p : NotifyAt) (inductive : IsInductive w)
    (condvar_holds : IsCondvar (condvar_of w l))
    (aside : WaitsAside (condvar_of w l) (site_of w m) m) (is : place_at w t ≡ Condvar l (Notify all m p))
  where
    -- the thread moves waiters of this mutex, which stand nowhere there
    may_move : (owned : Bool) → p ≡ notify.Move owned → (n : ℕ) → n ≢ 0
        → n ≡ length (moved_of all (lock_state w l).queue)
        → MayMove (locks_of w) t l m all owned n
    may_move owned e n some number = record {
      notifies = ap (λ q. (call_state q (rights w t)).purpose) is;
      sorts = (
        (fits_here w t l (Notify all m p) inductive is).sort,
        rules_beside w t l (Notify all m p) inductive is
            m refl,
      );
      saw = ap (λ q. (call_state q (rights w t)).recalls) is ∙ ap (notify_recalls m) e;
      some = some;
      number = number;
      wait = λ u among. by_waiter u (waits_there w inductive l (fits_here w t l (Notify all m p) inductive
          is).sort
          u
          (listed u among)) (names u among) (aside u (listed u among) (names u among)).0;
      free = in_no_hand w inductive t m (λ h. let none : ◌≡◌ {A = Option Bool} None (Some false) =
          sym (ap (λ (y : Location). y.has_taken) (location_beside w t l (Notify all m p) inductive is m refl)
          ∙ ap notify_carries e) ∙ h in cc);
    }
      where
        fit : MoveFits (rules_in w m) all owned (condvar_of w l) (site_of w m) t m
        fit = fits_move w t l m all p inductive condvar_holds aside is owned e

        among_times : (u : ℕ) → is_among u (moved_of all (lock_state w l).queue) ≡ true
            → 1 ≤ locks.times u (moved_of all (lock_state w l).queue)
        among_times u among = grind (arith, nat_tests)

        listed : (u : ℕ) → is_among u (moved_of all (lock_state w l).queue) ≡ true
            → 1 ≤ locks.times u (lock_state w l).queue
        listed u among = let few = moved_fewer all u (lock_state w l).queue in let some_times =
            among_times u among in omega arith

        names : (u : ℕ) → is_among u (moved_of all (lock_state w l).queue) ≡ true
            → (condvar_of w l).waits_with u ≡ Some m
        names u among = fit.of u (among_times u among)

        by_waiter : (u : ℕ) → WaitsAtCondvar w u l → (condvar_of w l).waits_with u ≡ Some m
            → locks.standing u (lock_state w m) ≡ 0
            → ((timed : Bool) × ((call_at w u).purpose ≡ Some (Waits l m timed)))
            × (locks.standing u (lock_state w m) ≡ 0)
        by_waiter u x named nowhere = (by_at x.at x.is x.listed, nowhere)
          where
            by_at : (at : CondvarPlace) → place_at w u ≡ Condvar l at → (condvar_row at).listed ≡ true
                → (timed : Bool) × ((call_at w u).purpose ≡ Some (Waits l m timed))
            by_at (Look every) there h = absurd cc
            by_at (Notify every k at) there h = absurd (let none : false ≡ true = sym (unlisted every k at)
                ∙ h
                in cc)
            by_at (Wait k timed at) there h =
                let own : (profile_at (place_at w u) l).names ≡ Some k =
                ap (λ (q : Place). (profile_at q l).names) there
                ∙ ap (λ (b : Bool). (if b then condvar_profile (Wait k timed at) else if is_lock l (Some k)
                then mutex_side (Wait k timed at) else blank_row).names) (same l) in
                let both : Some k ≡ Some m = sym own ∙ named in
                let same_mutex : k ≡ m = cc in (
                  timed,
                  ap (λ q. (call_state q (rights w u)).purpose) there ∙ ap (λ j. Some (Waits l j timed))
                      same_mutex,
                )

-- from which it moves them
abbrev moved_from : Event → Option ℕ
moved_from (Moves c k all owned n) = Some c
moved_from e = None

module _ (w v : State) (t l m : ℕ) (all : Bool) (p : NotifyAt) (inductive : IsInductive w)
    (after : IsInductive v)
    (condvar_holds : IsCondvar (condvar_of w l)) (aside : WaitsAside (condvar_of w l) (site_of w m) m)
    (is : place_at w t ≡ Condvar l (Notify all m p))
    (can : can_do w (notify_act all l m p) ≡ true) (done : ℕ → List deeds.Act) (f : FollowAll w v done)
    (elsewhere : (k : ℕ) → k ≢ l → k ≢ m → done k ≡ []) (at_l : done l
    ≡ acts t (there_deeds (notify_deeds all m p (reply_to w t (notify_act all l m p)))))
    (at_m : done m ≡ acts t (beside_deeds all (condvar_of w l).waiters p
    (reply_to w t (notify_act all l m p)))) where
  abbrev told : Reply
  told = reply_to w t (notify_act all l m p)

  abbrev event : Event
  event = notify_event l all m p told

  reached : IsReached (Notify all m p)
  reached = (fits_here w t l (Notify all m p) inductive is).reached

  apart_here : m ≢ l
  apart_here = apart w t l (Notify all m p) inductive is m refl

  pub notify_happened : IsEvent w v t event
  notify_happened = by_place w v t l m all p inductive after is done f elsewhere p refl at_l at_m reached

  -- the mutex after it
  abbrev afterwards : LockState
  afterwards = (after_all (rules_in w m) (beside_deeds all (condvar_of w l).waiters p told) (site_of w m)
      t).lock

  led_beside : lock_state v m ≡ afterwards
  led_beside = locks_led w v t l m apart_here inductive after done f elsewhere m _ at_m
      ∙ deeds_by (rules_in w m) t (beside_deeds all (condvar_of w l).waiters p told) (site_of w m)

  led_there : lock_state v l ≡ (after_all (rules_in w l) (there_deeds (notify_deeds all m p told))
      (site_of w l) t).lock
  led_there = locks_led w v t l m apart_here inductive after done f elsewhere l _ at_l
      ∙ deeds_by (rules_in w l) t (there_deeds (notify_deeds all m p told)) (site_of w l)

  rights_led : (k : ℕ) → rights v t k ≡ rights_where m afterwards t (rights w t) k
  rights_led k = put_is (rights w t) m (rights_of afterwards t) k (rights v t k)
      (λ e. rw e (ap (λ s. rights_of s t) led_beside)) (λ nm. elim (cases_eq k l) [
        | inl e ↦ rw e (ap (λ s. rights_of s t) led_there ∙ there_rights (notify_deeds all m p told)
            (rules_in w l) (site_of w l) t)
        | inr nl ↦ ap (λ s. rights_of s t) (others w v t l m apart_here inductive after done f elsewhere k nl
            nm)
      ])

  abbrev shown_then : Option ℕ
  shown_then = (condvar.after_condvar_deeds (condvar_deeds (Notify all m p) told) (condvar_of w l) t).shown

  follows : CallOfTwoFollows l m (Notify all m p) told event shown_then (lock_state w m) afterwards t
      (condvar_next (Notify all m p) told)
  follows = notifies_tell (condvar_of w l) (rules_in w m) (site_of w m) t l m all p told
      (rules_beside w t l (Notify all m p) inductive is m refl) condvar_holds
      (at_it w t l (Notify all m p) inductive is)
      (role_beside w t l (Notify all m p) inductive is m refl) (may_hear w t l (Notify all m p) inductive is
      can)
      (notifier_hears w t l m all p inductive condvar_holds aside is can) reached

  -- a move is one that it may do
  move_may : (b owned : Bool) → all ≡ b → p ≡ notify.Move owned
      → MayComeOfTwo l (condvar_profile (Notify b m (notify.Move owned)))
      (notify_event l b m (notify.Move owned) (reply_to w t (move_act b owned l m)))
      → MayHappen (locks_of w) t (notify_event l b m (notify.Move owned)
      (reply_to w t (move_act b owned l m)))
  move_may true true e g may = may_move w t l m true p inductive condvar_holds aside (is
      ∙ ap (λ x. Condvar l (Notify x m p)) e) true g _ may.3 (number_of true (queue_at w (2 * l)))
  move_may true false e g may = may_move w t l m true p inductive condvar_holds aside (is
      ∙ ap (λ x. Condvar l (Notify x m p)) e) false g _ may.3 (number_of false (queue_at w (2 * l)))
  move_may false true e g may = may_move w t l m false p inductive condvar_holds aside (is
      ∙ ap (λ x. Condvar l (Notify x m p)) e) true g 1 may.3
      (one_first (lock_state w l).queue (fits_move w t l m false p inductive condvar_holds aside (is
      ∙ ap (λ x. Condvar l (Notify x m p)) e) true g).some)
  move_may false false e g may = may_move w t l m false p inductive condvar_holds aside (is
      ∙ ap (λ x. Condvar l (Notify x m p)) e) false g 1 may.3
      (one_first (lock_state w l).queue (fits_move w t l m false p inductive condvar_holds aside (is
      ∙ ap (λ x. Condvar l (Notify x m p)) e) false g).some)

  -- nothing else is a move, and it moves from its own
  only_moves : (q : NotifyAt) → ((owned : Bool) → q ≡ notify.Move owned → ⊥)
      → IsNoMove (notify_event l all m q (reply_to w t (notify_act all l m q)))
  only_moves notify.Enter other = nothing_only
  only_moves notify.Again other = nothing_only
  only_moves notify.Hide other = at_lock_only l (OfCondvar locks.Hide)
  only_moves notify.Mark other = marked_only m (word_at w m)
  only_moves (notify.Set expected) other = either_only (word_at w m == expected) (AtLock m (SeeOwner true))
      (marked_event m (word_at w m)) (at_lock_only m (SeeOwner true)) (marked_only m (word_at w m))
  only_moves (notify.Move owned) other = absurd (other owned refl)
  only_moves (notify.Clear any) other = at_lock_only l (OfCondvar locks.Hide)
  only_moves (notify.MarkMoved number) other = nothing_only
  only_moves (notify.Leave any number) other = either_only any (AtLock m Wake) Nothing (at_lock_only m Wake)
      nothing_only

  from_own : (b owned : Bool) (c k n : ℕ) (every o : Bool)
      → notify_event l b m (notify.Move owned) (reply_to w t (move_act b owned l m)) ≡ Moves c k every o n
      → l ≡ c
  from_own true true c k n every o e = let both : Some l ≡ Some c = ap moved_from e in cc
  from_own true false c k n every o e = let both : Some l ≡ Some c = ap moved_from e in cc
  from_own false true c k n every o e = let both : Some l ≡ Some c = ap moved_from e in cc
  from_own false false c k n every o e = let both : Some l ≡ Some c = ap moved_from e in cc

  is_move : (q : NotifyAt) → ((owned : Bool) × (q ≡ notify.Move owned))
      ⊎ ((owned : Bool) → q ≡ notify.Move owned → ⊥)
  is_move (notify.Move owned) = inl (owned, refl)
  is_move notify.Enter = inr (λ owned e. cc)
  is_move q = inr (λ owned e. cc)

  moving : (c k n : ℕ) (every o : Bool) → event ≡ Moves c k every o n → MayMove (locks_of w) t c k every o n
      × (l ≡ c)
  moving c k n every o e = elim (is_move p) [
    | inl move ↦ by_move move.0 move.1
    | inr other ↦ absurd (only_moves p other c k n every o e)
  ]
    where
      by_move : (owned : Bool) → p ≡ notify.Move owned → MayMove (locks_of w) t c k every o n × (l ≡ c)
      by_move owned g =
          let same_event : notify_event l all m p told ≡ notify_event l all m (notify.Move owned)
          (reply_to w t (move_act all owned l m)) =
          ap (λ q. notify_event l all m q (reply_to w t (notify_act all l m q))) g in
          let may : MayComeOfTwo l (condvar_profile (Notify all m (notify.Move owned)))
          (notify_event l all m (notify.Move owned) (reply_to w t (move_act all owned l m))) =
          subst (λ q. MayComeOfTwo l (condvar_profile (Notify all m q)) (notify_event l all m q
          (reply_to w t (notify_act all l m q)))) g follows.may in (
            subst (MayHappen (locks_of w) t) (sym same_event ∙ e) (move_may all owned refl g may),
            from_own all owned c k n every o (sym same_event ∙ e),
          )

  unlisted_here : locks.times t (lock_state w l).queue ≡ 0
  unlisted_here = subst (IsListed (condvar_of w l) t) (unlisted all m p) (at_it w t l (Notify all m p)
      inductive
      is).listed

  -- the step goes on by that event, where it stands then as its reply says, is in no hand of its own, and the
  -- others' calls follow
  pub notify_goes : place_at v t ≡ condvar_goes l (condvar_next (Notify all m p) told)
      → ((k : ℕ) → is_taken_by t (taken_at (place_at w t) k) ≡ false) → (lock_state v l).shown ≡ shown_then
      → OthersFollow w v t event
      → GoesOn (locks_of w) t (outcome_of (condvar_does l (condvar_next (Notify all m p) told))) (locks_of v)
  notify_goes there free shown others_follow = condvar_goes_on w v t l m (Notify all m p)
      (call_named w t l m (Notify all m p) is refl) told event notify_happened shown_then afterwards
      (condvar_next (Notify all m p) told) _
      (may_go w v t l m (Notify all m p) (call_named w t l m (Notify all m p) is refl) told event
      notify_happened shown_then afterwards follows.may (λ c k every o n e. (moving c k n every o e).0))
      (call_led w v t l m (Notify all m p) (call_named w t l m (Notify all m p) is refl) told event
      notify_happened shown_then afterwards (condvar_next (Notify all m p) told) _
      (unheard w t (notify_act all l m p) _)
      (unwoken w t event _ free (λ c k n every o e. subst
      (λ j. is_among t (moved_of every (lock_state w j).queue) ≡ false) (moving c k n every o e).1
      (not_among t every (lock_state w l).queue unlisted_here)))
      follows.becomes there (names_notify all m (next_notify all m p told)) shown rights_led
      (told_so v t l m all (next_notify all m p told)))
      others_follow (begins_two (locks_of w) l (Notify all m p) event _ follows.may
      (no_closure l (condvar_next (Notify all m p) told)))
