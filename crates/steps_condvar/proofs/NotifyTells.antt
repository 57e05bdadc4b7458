-- Each step of a notification makes of its call what its rows say, and its answer is true; and the places
-- that calls come to.
use Rattle.std.proofs.Common.{ℕ, Bool, true, false, Option, Some, None, if◌then◌else◌, ◌==◌, ◌≡◌, ◌≢◌, ◌≤◌}
use Rattle.std.proofs.Common.{inl, inr, [], ◌∷◌, length, refl, sym, ap, ◌∙◌, subst, arith}
use Rattle.std.specs.Prelude.{nat_lt, not, ◌&&◌}
use Rattle.std.proofs.lemmas.Bool.{eqb-true}
use Rattle.std.proofs.lemmas.Bool.Decides.{nat_tests}
use Rattle.spec_locks.specs.declared.outcomes.Answer.TheVariants as answer
use Rattle.steps_base.specs.declared.acts.Next.{Next}
use Rattle.steps_base.specs.declared.acts.Next.TheVariants.{At, End as Over}
use Rattle.steps_base.specs.declared.acts.Reply.{Reply}
use Rattle.steps_base.specs.declared.acts.Reply.TheVariants.{Done, Value, Parked, Took, Requeued, Removed}
use Rattle.steps_base.specs.declared.acts.Reply.TheVariants.{Late, Woken}
use Rattle.spec_locks.specs.Condvars.{CondvarSite, Inside, IsAsInside, IsCondvar, IsInsideAt, Misses}
use Rattle.spec_locks.specs.Condvars.{MoveFits, NothingToDo, Takes}
use Rattle.spec_locks.specs.Condvars as condvars
use Rattle.spec_locks.specs.Deeds.{after_all}
use Rattle.spec_locks.specs.Locks as cases
use Rattle.spec_locks.specs.Locks.{LockState, OfCondvar, Rights, Rules, SeeOwner, Wake, rights_of}
use Rattle.spec_locks.specs.Purposes.{Blank, HasMoved, Notifies, Saw}
use Rattle.spec_locks.specs.Runs.{AnswerHolds, AtLock, CallState, Keeps, LocksState, MovedNobody, Moves}
use Rattle.spec_locks.specs.Runs.{Nothing, going_on}
use Rattle.spec_locks.specs.Sites.{MarkOwned, Site}
use Rattle.steps_mutex.specs.declared.unlock.UnlockAt.TheVariants as unlock
use Rattle.steps_mutex.specs.MutexProfiles.{mutex_profile}
use Rattle.steps_mutex.specs.declared.lock.Entry.TheVariants as entry
use Rattle.steps_mutex.specs.declared.lock.LockAt.{LockAt}
use Rattle.steps_mutex.specs.declared.lock.LockAt.TheVariants as lock
use Rattle.steps_mutex.specs.declared.places.MutexPlace.TheVariants as mutex
use Rattle.steps_mutex.specs.declared.unlock.UnlockAt.{UnlockAt}
use Rattle.steps_mutex.specs.MutexSteps.{entered, in_lock, in_unlock, is_locked, is_parked, next_lock}
use Rattle.steps_mutex.specs.MutexSteps.{next_unlock, still_retries}
use Rattle.steps_condvar.specs.declared.notify.NotifyAt.{NotifyAt}
use Rattle.steps_condvar.specs.declared.notify.NotifyAt.TheVariants as notify
use Rattle.steps_condvar.specs.declared.places.CondvarPlace.{CondvarPlace}
use Rattle.steps_condvar.specs.declared.places.CondvarPlace.TheVariants.{Wait, Look, Notify}
use Rattle.steps_condvar.specs.declared.wait.WaiterFate.{WaiterFate}
use Rattle.steps_condvar.specs.declared.wait.WaiterFate.TheVariants as stands
use Rattle.steps_condvar.specs.declared.wait.WaitAt.TheVariants as wait
use Rattle.core_base.specs.declared.notes.Note.TheVariants as note
use Rattle.steps_condvar.specs.CondvarSteps.{past_release, stands_after, comes_from_another, condvar_next}
use Rattle.steps_condvar.specs.CondvarSteps.{in_notify, in_wait, is_shown, marks, moved_one, mutex_shown}
use Rattle.steps_condvar.specs.CondvarSteps.{notified, released, relocked}
use Rattle.steps_condvar.specs.CondvarProfiles.{has_mutex, may_give_up}
use Rattle.steps_condvar.specs.CondvarDeeds.{IsAt, MayReply, condvar_deeds, word_showing}
use Rattle.steps_condvar.specs.CondvarDeeds as deeds
use Rattle.steps_condvar.specs.CondvarMutex.{MayGetReplyAtMutex, beside_deeds}
use Rattle.steps_condvar.specs.CondvarCalls.{CallOfTwoFollows, CondvarPlacesReached, IsLockOf, IsReached}
use Rattle.steps_condvar.specs.CondvarCalls.{IsReachedNext, LooksTell, NotifiesTell, condvar_call_by, heard}
use Rattle.steps_condvar.specs.CondvarCalls.{notify_event}
use Rattle.steps_condvar.proofs.CondvarFit.{not_none, some_left}
use Rattle.steps_condvar.proofs.WaitTells.{keeps, same_rights}

is_zero : (n : ℕ) → (n == 0) ≡ true → n ≡ 0
is_zero n e = eqb-true n 0 e

some_number : (n : ℕ) → (n == 0) ≡ false → n ≢ 0
some_number n e z = let g : (0 == 0) ≡ false = subst (λ k. (k == 0) ≡ false) z e in cc

one_alone : (n : ℕ) → n ≤ 1 → (n == 0) ≡ false → n ≡ 1
one_alone n few e = grind (arith, nat_tests)

module _ (v : CondvarSite) (r : Rules) (s : Site) (t c m : ℕ) (site : IsCondvar v) where
  abbrev Follows : Bool → NotifyAt → Reply → Type 0
  Follows all at told =
      CallOfTwoFollows c m (Notify all m at) told (notify_event c all m at told)
      (deeds.after_condvar_deeds (condvar_deeds (Notify all m at) told) v t).shown s.lock
      (after_all r (beside_deeds all v.waiters at told) s t).lock t (condvar_next (Notify all m at) told)

  sees_again : (all : Bool) (seen : ℕ) (b : Bool) (shown : Option ℕ)
      → CallOfTwoFollows c m (Notify all m notify.Again) (Value seen) Nothing shown s.lock s.lock t
      (At (Notify all m (if not b then notify.Leave false 0 else if all then notify.Hide
      else notify.Mark)))
  sees_again true seen true shown = keeps c m t _ _ (Value seen) Nothing shown s.lock _ tt refl
      (λ rights. refl)
  sees_again false seen true shown = keeps c m t _ _ (Value seen) Nothing shown s.lock _ tt refl
      (λ rights. refl)
  sees_again all seen false shown = keeps c m t _ _ (Value seen) Nothing shown s.lock _ tt refl
      (λ rights. refl)

  -- the thread has looked whether the mutex is owned
  marked : (all : Bool) (seen : ℕ) (b : Bool)
      → CallOfTwoFollows c m (Notify all m notify.Mark) (Value seen) (if b then Nothing else AtLock m
      (SeeOwner false)) v.shown s.lock s.lock t
      (At (Notify all m (if b then notify.Set seen else notify.Move false)))
  marked all seen true = keeps c m t _ _ (Value seen) Nothing v.shown s.lock _ tt refl (λ rights. refl)
  marked all seen false = keeps c m t _ _ (Value seen) (AtLock m (SeeOwner false)) v.shown s.lock _ (
    inr refl,
    tt,
  ) refl (λ rights. refl)

  set : (all : Bool) (expected seen : ℕ) (won b : Bool)
      → CallOfTwoFollows c m (Notify all m (notify.Set expected)) (Value seen)
      (if won then AtLock m (SeeOwner true) else if b then Nothing else AtLock m (SeeOwner false)) v.shown
      s.lock
      (after_all r (if won then MarkOwned ∷ [] else []) s t).lock t
      (in_notify all m (if won then At (notify.Move true) else At (if b then notify.Set seen
      else notify.Move false)))
  set all expected seen true b = keeps c m t _ _ (Value seen) (AtLock m (SeeOwner true)) v.shown s.lock _
      (inr refl, tt) refl (λ rights. refl)
  set all expected seen false true = keeps c m t _ _ (Value seen) Nothing v.shown s.lock _ tt refl
      (λ rights. refl)
  set all expected seen false false = keeps c m t _ _ (Value seen) (AtLock m (SeeOwner false)) v.shown s.lock
      _ (inr refl, tt) refl (λ rights. refl)

  -- the thread has moved waiters
  moves_one : (locked any none_left : Bool) (told : Reply) (shown : Option ℕ) (s2 : LockState)
      → rights_of s2 t ≡ rights_of s.lock t → ((call : CallState) → heard told call ≡ call)
      → CallOfTwoFollows c m (Notify false m (notify.Move locked)) told (Moves c m false locked 1) shown
      s.lock s2 t (At (Notify false m (moved_one any none_left)))
  moves_one locked any true told shown s2 stay quiet = keeps c m t _ _ told (Moves c m false locked 1) shown
      s.lock s2 (refl, refl, refl, λ e. cc) stay (λ rights. ap (going_on (Moves c m false locked 1))
      (sym (quiet _)))
  moves_one locked any false told shown s2 stay quiet = keeps c m t _ _ told (Moves c m false locked 1) shown
      s.lock s2 (refl, refl, refl, λ e. cc) stay (λ rights. ap (going_on (Moves c m false locked 1))
      (sym (quiet _)))

  moves_all : (locked none_left : Bool) (number : ℕ) (shown : Option ℕ) (s2 : LockState) → rights_of s2 t
      ≡ rights_of s.lock t → number ≢ 0 → (b : Bool)
      → CallOfTwoFollows c m (Notify true m (notify.Move locked)) (Requeued number none_left)
      (Moves c m true locked number) shown s.lock s2 t
      (At (Notify true m (if b then notify.MarkMoved number else notify.Leave (not locked) number)))
  moves_all locked none_left number shown s2 stay some true = keeps c m t _ _ (Requeued number none_left)
      (Moves c m true locked number) shown s.lock s2 (refl, refl, refl, some) stay (λ rights. refl)
  moves_all locked none_left number shown s2 stay some false =
      keeps c m t _ _ (Requeued number none_left) (Moves c m true locked number) shown s.lock s2 (
        refl,
        refl,
        refl,
        some,
      ) stay
      (λ rights. ap (λ b. record (condvar_call_by c m (Notify true m (notify.MarkMoved number)) rights)
      { recalls = if b then Saw m else HasMoved m number }) (not_none number some))

  -- ---------------------------------------------------------------- the answer

  unshown : IsInsideAt v t (Misses m) → v.shown ≢ Some m
  unshown stage = let k : condvars.StageHolds v t (Misses m) = subst (λ (i : Option Inside). IsAsInside v i)
      stage site.inside in k.1

  answers : (all : Bool) (number : ℕ) (b : Bool) → (number == 0) ≡ b
      → IsInsideAt v t (if b then Misses m else NothingToDo) → (all ≡ false → number ≤ 1)
      → (w : LocksState) (call : CallState) → (w.locks c).shown ≡ v.shown → call.recalls
      ≡ (if b then Saw m else HasMoved m number) → Keeps w t call
      → AnswerHolds (Some (Notifies c all)) w t call (if all then answer.Number number else if b
      then answer.No else answer.Yes)
  answers false number true e stage few w call now recalls own =
      (subst (MovedNobody (w.locks c)) (sym recalls) (λ x. unshown stage (sym now ∙ x)), own)
  answers false number false e stage few w call now recalls own =
      ((m, recalls ∙ ap (HasMoved m) (one_alone number (few refl) e)), own)
  answers true number true e stage few w call now recalls own =
      inl (
        is_zero number e,
        subst (MovedNobody (w.locks c)) (sym recalls) (λ x. unshown stage (sym now ∙ x)),
        own,
      )
  answers true number false e stage few w call now recalls own = inr (some_number number e, (m, recalls), own)

  ends : (all any : Bool) (number : ℕ) → IsAt v t (Notify all m (notify.Leave any number))
      → IsReached (Notify all m (notify.Leave any number)) → (s2 : LockState) → rights_of s2 t
      ≡ rights_of s.lock t
      → CallOfTwoFollows c m (Notify all m (notify.Leave any number)) Done (if any then AtLock m Wake
      else Nothing) v.shown s.lock s2 t (Over (notified all number))
  ends all true number a reached s2 stay = record {
    may = (
      inr (number, ap (λ b. if b then Saw m else HasMoved m number) (not_none number (reached.0 refl))),
      tt,
    );
    becomes = λ w rights now is has.
        answers all number (number == 0) refl a.stage reached.1 w
        (condvar_call_by c m (Notify all m (notify.Leave true number)) rights) now refl (λ k. has k
        ∙ ap (λ (f : ℕ → Rights). f k) (same_rights t m s.lock s2 rights is stay));
  }
  ends all false number a reached s2 stay = record {
    may = tt;
    becomes = λ w rights now is has.
        answers all number (number == 0) refl a.stage reached.1 w
        (condvar_call_by c m (Notify all m (notify.Leave false number)) rights) now refl (λ k. has k
        ∙ ap (λ (f : ℕ → Rights). f k) (same_rights t m s.lock s2 rights is stay));
  }

  -- ---------------------------------------------------------------- each place

  tells : (all : Bool) (at : NotifyAt) (told : Reply) → IsAt v t (Notify all m at)
      → MayReply v t (Notify all m at) told → MayGetReplyAtMutex r s v t m all at told
      → IsReached (Notify all m at)
      → Follows all at told
  tells all notify.Enter Done a h f reached = keeps c m t _ _ Done Nothing v.shown s.lock _ tt refl
      (λ rights. refl)
  tells all notify.Again (Value seen) a h f reached = sees_again all seen (is_shown seen m) _
  tells all notify.Hide (Value seen) a h f reached = keeps c m t _ _ (Value seen)
      (AtLock c (OfCondvar cases.Hide)) None s.lock _ (inl (refl, tt), tt) refl (λ rights. refl)
  tells all notify.Mark (Value seen) a h f reached = marked all seen (is_locked seen)
  tells all (notify.Set expected) (Value seen) a h f reached = set all expected seen (seen == expected)
      (is_locked seen)
  tells false (notify.Move false) (Took any none_left) a h f reached = moves_one false any none_left
      (Took any none_left) _ _ refl (λ call. refl)
  tells false (notify.Move true) (Requeued number none_left) a h f reached =
      moves_one true false none_left (Requeued number none_left) _ _ refl (λ call. refl)
  tells true (notify.Move locked) (Requeued number none_left) a h f reached =
      moves_all locked none_left number _ _ refl (some f) (not locked && nat_lt 1 number)
    where
      some : (number ≡ length v.waiters) × MoveFits r true locked v s t m → number ≢ 0
      some f z = some_number (length v.waiters) (some_left v.waiters f.1.some) (sym f.0 ∙ z)
  tells all (notify.Clear any) (Value seen) a h f reached =
      keeps c m t _ _ (Value seen) (AtLock c (OfCondvar cases.Hide)) None s.lock _ (inl (refl, tt), tt) refl
      (λ rights. refl)
  tells all (notify.MarkMoved number) (Value seen) a h f reached =
      keeps c m t _ _ (Value seen) Nothing v.shown s.lock _ tt refl
      (λ rights. ap (λ b. record (condvar_call_by c m (Notify all m (notify.MarkMoved number)) rights)
      { recalls = if b then Saw m else HasMoved m number }) (not_none number reached.1))
  tells all (notify.Leave any number) Done a h f reached = ends all any number a reached _ refl
  tells all at told a h f reached = absurd f

pub notifies_tell : NotifiesTell
notifies_tell v r s t c m all at told sort site a is h f reached = tells v r s t c m site all at told a h f
    reached

-- ---------------------------------------------------------------- the first look

module _ (v : CondvarSite) (s : LockState) (t c : ℕ) where
  none_shown : (w : LocksState) (call : CallState) (all : Bool) → (w.locks c).shown ≡ None → call.recalls
      ≡ Blank → Keeps w t call → AnswerHolds (Some (Notifies c all)) w t call (notified all 0)
  none_shown w call false now blank own = (subst (MovedNobody (w.locks c)) (sym blank) now, own)
  none_shown w call true now blank own = inl (refl, subst (MovedNobody (w.locks c)) (sym blank) now, own)

  looks : (all : Bool) (seen : ℕ) (b : Bool) → (b ≡ true → v.shown ≡ None)
      → CallOfTwoFollows c (mutex_shown seen) (Look all) (Value seen) (if b then Nothing else AtLock c
      (OfCondvar (cases.Look (Some (mutex_shown seen))))) v.shown s s t
      (if b then Over (notified all 0) else At (Notify all (mutex_shown seen) notify.Enter))
  looks all seen true none = record {
    may = tt;
    becomes = λ w rights now is has. none_shown w (condvar_call_by c (mutex_shown seen) (Look all) rights) all
        (now ∙ none refl) refl (λ k. has k
        ∙ ap (λ (f : ℕ → Rights). f k) (same_rights t (mutex_shown seen) s s rights is refl));
  }
  looks all seen false none = keeps c (mutex_shown seen) t _ _ (Value seen)
      (AtLock c (OfCondvar (cases.Look (Some (mutex_shown seen))))) v.shown s s (inl (refl, refl), tt) refl
      (λ rights. refl)

shows_none : (o : Option ℕ) → (word_showing o == 0) ≡ true → o ≡ None
shows_none None e = refl
shows_none (Some n) e = absurd (grind (arith, nat_tests))

pub looks_tell : LooksTell
looks_tell v s t c all = looks v s t c all (word_showing v.shown) (word_showing v.shown == 0)
    (shows_none v.shown)

-- ---------------------------------------------------------------- the places that calls come to

goes_afterwards : (m : ℕ) (timed : Bool) (st : WaiterFate) → IsReached (Wait m timed (past_release st))
goes_afterwards m timed stands.Listed = tt
goes_afterwards m timed stands.Moved = tt
goes_afterwards m timed (stands.InHand by) = tt
goes_afterwards m timed (stands.Handed by) = tt
goes_afterwards m timed (stands.Noted note.Normal) = ((λ e. cc), tt)
goes_afterwards m timed (stands.Noted note.HandOff) = ((λ e. cc), tt)

-- after its first step it owns the mutex no more
abbrev OwnsNot : WaiterFate → Next UnlockAt → Type 0
OwnsNot st (At q) = has_mutex st ≡ true → (mutex_profile (mutex.Unlock q)).role.claims ≡ None
OwnsNot st (Over answer) = Unit {0}

owns_not : (st : WaiterFate) (at : UnlockAt) (told : Reply) → OwnsNot st (At at)
    → OwnsNot st (next_unlock at told)
owns_not st unlock.Subtract (Value seen) h = by (is_parked seen)
  where
    by : (b : Bool) → OwnsNot st (if b then At unlock.Enter else Over answer.Ok)
    by true = λ e. refl
    by false = tt
owns_not st unlock.Enter Done h = λ e. refl
owns_not st unlock.Take (Took any none_left) h = by none_left
  where
    by : (b : Bool) → OwnsNot st (if b then At (unlock.Clear any) else At (unlock.Leave any))
    by true = λ e. refl
    by false = λ e. refl
owns_not st (unlock.Clear any) (Value seen) h = λ e. refl
owns_not st (unlock.Leave any) Done h = tt
owns_not st at told h = h

releases : (m : ℕ) (timed : Bool) (st st2 : WaiterFate) (at : UnlockAt) (b : Bool) (n : Next UnlockAt) → b
    ≡ false
    → OwnsNot st n → IsReached (Wait m timed (if b then wait.Release st2 (mutex.Unlock at) else released st
    (in_unlock n)))
releases m timed st st2 at true n e h = absurd cc
releases m timed st st2 at false (At q) e h = (tt, h)
releases m timed st st2 at false (Over answer) e h = goes_afterwards m timed st

abbrev AreLocks : Next LockAt → Type 0
AreLocks (At at) = IsLockOf at
AreLocks (Over answer) = Unit {0}

-- the thread locks the mutex without a deadline
locks_on : (at : LockAt) (told : Reply) → IsLockOf at → (told ≡ Late → ⊥)
    → AreLocks (next_lock entry.Lock at told)
locks_on lock.First (Value seen) is late = by (seen == 0)
  where
    by : (b : Bool) → AreLocks (if b then Over (entered entry.Lock) else At lock.Load)
    by true = tt
    by false = tt
locks_on lock.Load (Value seen) is late = tt
locks_on (lock.Decide expected) (Value seen) is late = by (seen == expected) (is_locked seen)
  where
    by : (same locked : Bool) → AreLocks (if not same then At (lock.Decide seen) else if locked
        then At (lock.Decide 3) else Over (entered entry.Lock))
    by false locked = tt
    by true true = tt
    by true false = tt
locks_on (lock.Leave true) Done is late = tt
locks_on (lock.Leave false) Done is late = tt
locks_on lock.Asleep Late is late = absurd (late refl)
locks_on lock.Asleep (Woken note.Normal) is late = tt
locks_on lock.Asleep (Woken note.HandOff) is late = tt
locks_on (lock.Taken by) (Woken note.Normal) is late = tt
locks_on (lock.Taken by) (Woken note.HandOff) is late = tt
locks_on (lock.Handed by) (Woken note.Normal) is late = tt
locks_on (lock.Handed by) (Woken note.HandOff) is late = tt
locks_on lock.Check (Parked b) is late = tt
locks_on lock.Accept Done is late = tt
locks_on lock.Remove told is late = absurd is
locks_on lock.Clear told is late = absurd is
locks_on lock.GiveUp told is late = absurd is
locks_on at told is late = is

relocks : (m : ℕ) (timed timed_out retries : Bool) (n : Next LockAt) → AreLocks n
    → (timed_out ≡ true → timed ≡ true)
    → IsReachedNext (in_wait m timed (relocked timed timed_out (in_lock entry.Lock retries n)))
relocks m timed timed_out retries (At q) is late = (late, is)
relocks m timed timed_out retries (Over answer) is late = tt

marks_reached : (all : Bool) (m seen : ℕ) (b : Bool) → is_locked seen ≡ b
    → IsReached (Notify all m (if b then notify.Set seen else notify.Move false))
marks_reached all m seen true e = e
marks_reached all m seen false e = tt

module _ (c : CondvarSite) (t : ℕ) (site : IsCondvar c) where
  moved_reached : (m number : ℕ) (any b : Bool) → number ≢ 0
      → IsReached (Notify true m (if b then notify.MarkMoved number else notify.Leave any number))
  moved_reached m number any true some = (refl, some)
  moved_reached m number any false some = ((λ e. some), λ e. absurd cc)

  one_reached : (all any none_left : Bool) (m : ℕ) → IsReached (Notify all m (moved_one any none_left))
  one_reached all any true m = tt
  one_reached all any false m = ((λ e z. cc), λ e. omega arith)

  again_reached : (all b : Bool) (m : ℕ)
      → IsReached (Notify all m (if not b then notify.Leave false 0 else if all then notify.Hide
      else notify.Mark))
  again_reached true true m = refl
  again_reached false true m = tt
  again_reached all false m = ((λ e. cc), λ e. omega arith)

  reaches : (p : CondvarPlace) (told : Reply) → IsReached p → MayReply c t p told → IsAt c t p
      → (told ≡ Late → may_give_up p ≡ true) → IsReachedNext (condvar_next p told)
  reaches (Wait m timed wait.Enter) Done reached h a late = tt
  reaches (Wait m timed wait.Show) (Value seen) reached h a late = shows _
    where
      shows : (b : Bool) → IsReachedNext (in_wait m timed (if b then At wait.Stand else At wait.Refuse))
      shows true = tt
      shows false = tt
  reaches (Wait m timed wait.Stand) Done reached h a late = tt
  reaches (Wait m timed wait.Leave) Done reached h a late = (tt, λ e. absurd cc)
  reaches (Wait m timed wait.Refuse) Done reached h a late = tt
  reaches (Wait m timed (wait.Release st (mutex.Unlock at))) told reached h a late =
      releases m timed st (stands_after st told) at (comes_from_another told) (next_unlock at told) h
      (owns_not st at told reached.1)
  reaches (Wait m timed (wait.Release st at)) told reached h a late = absurd reached.0
  reaches (Wait m timed (wait.Asleep stands.Listed)) Late reached h a late = late refl
  reaches (Wait m timed (wait.Asleep stands.Moved)) Late reached h a late = late refl
  reaches (Wait m timed wait.Remove) (Removed none_left) reached h a late = unlisted none_left
    where
      unlisted : (b : Bool) → IsReachedNext (in_wait m timed (if b then At wait.Hide else At wait.GiveUp))
      unlisted true = reached
      unlisted false = reached
  reaches (Wait m timed wait.Hide) (Value seen) reached h a late = reached
  reaches (Wait m timed wait.GiveUp) Done reached h a late = ((λ e. reached), tt)
  reaches (Wait m timed wait.RemoveMoved) (Removed none_left) reached h a late = tt
  reaches (Wait m timed (wait.GiveUpMoved none_left)) Done reached h a late = ((λ e. cc), tt)
  reaches (Wait m timed (wait.Lock timed_out (mutex.Lock entry.Lock retries at))) told reached h a late =
      relocks m timed timed_out (still_retries retries told) (next_lock entry.Lock at told)
      (locks_on at told reached.1 (λ e. let g : false ≡ true = late e in cc)) reached.0
  reaches (Wait m timed (wait.Lock timed_out at)) told reached h a late = absurd reached.1
  reaches (Look all) (Value seen) reached h a late = looks_on (seen == 0)
    where
      looks_on : (b : Bool) → IsReachedNext (if b then Over (notified all 0)
          else At (Notify all (mutex_shown seen) notify.Enter))
      looks_on true = tt
      looks_on false = tt
  reaches (Notify all m notify.Enter) Done reached h a late = tt
  reaches (Notify all m notify.Again) (Value seen) reached h a late = again_reached all (is_shown seen m) m
  reaches (Notify all m notify.Hide) (Value seen) reached h a late = tt
  reaches (Notify all m notify.Mark) (Value seen) reached h a late = marks_reached all m seen (is_locked seen)
      refl
  reaches (Notify all m (notify.Set expected)) (Value seen) reached h a late = bit_pending (seen == expected)
    where
      bit_pending : (b : Bool) → IsReachedNext
          (in_notify all m (if b then At (notify.Move true) else At (marks seen)))
      bit_pending true = tt
      bit_pending false = marks_reached all m seen (is_locked seen) refl
  reaches (Notify false m (notify.Move locked)) (Took any none_left) reached h a late =
      one_reached false any none_left m
  reaches (Notify false m (notify.Move locked)) (Requeued number none_left) reached h a late =
      one_reached false false none_left m
  reaches (Notify true m (notify.Move locked)) (Requeued number none_left) reached h a late =
      let k : condvars.StageHolds c t (Takes m) = subst (λ (i : Option Inside). IsAsInside c i) a.stage
      site.inside in
      moved_reached m number (not locked) (not locked && nat_lt 1 number) (λ z. some_number (length c.waiters)
      (some_left c.waiters k.1) (sym h ∙ z))
  reaches (Notify all m (notify.Clear any)) (Value seen) reached h a late = ((λ e z. cc), λ e. omega arith)
  reaches (Notify all m (notify.MarkMoved number)) (Value seen) reached h a late =
      ((λ e. reached.1), λ e. absurd (let g : false ≡ true = sym e ∙ reached.0 in cc))
  reaches (Notify all m (notify.Leave any number)) Done reached h a late = tt
  reaches p told reached h a late = absurd h

pub condvar_places_reached : CondvarPlacesReached
condvar_places_reached c t p told reached h site a late = reaches c t site p told reached h a late
