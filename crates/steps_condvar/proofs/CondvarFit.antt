-- Each step of a thread may do to the condition variable what its deeds say, and leaves its word.
use Rattle.std.proofs.Common.{ℕ, Bool, true, false, Option, Some, None, if◌then◌else◌, ◌==◌, ◌≡◌, ◌≢◌, ◌≤◌}
use Rattle.std.proofs.Common.{◌+◌, ◌*◌, ◌⊎◌, inl, inr, List, [], ◌∷◌, ◌++◌, length, refl, sym, ap, ◌∙◌, subst}
use Rattle.std.proofs.Common.{arith}
use Rattle.std.proofs.lemmas.Bool.Decides.{nat_tests}
use Rattle.std.specs.Prelude.{drop, nat_lt, not, ◌&&◌, ◌||◌}
use Rattle.core_base.specs.declared.keys.Keys.TheVariants.{One}
use Rattle.core_base.specs.declared.notes.Note.TheVariants as note
use Rattle.core_base.specs.declared.ops.Op.{Op}
use Rattle.core_base.specs.declared.ops.Op.TheVariants as op
use Rattle.core_base.specs.Words.{apply}
use Rattle.steps_base.specs.declared.acts.Act.TheVariants as act
use Rattle.steps_base.specs.declared.acts.Next.{Next}
use Rattle.steps_base.specs.declared.acts.Next.TheVariants.{At, End}
use Rattle.steps_base.specs.declared.acts.Reply.{Reply}
use Rattle.steps_base.specs.declared.acts.Reply.TheVariants as reply
use Rattle.steps_base.specs.declared.owners.Owners.{Owners}
use Rattle.spec_locks.specs.Condvars.{CondvarPhase, NothingToDo, SeesOther, Misses, Sees, Takes, Clears}
use Rattle.spec_locks.specs.Condvars.{Inside, CondvarSite, IsCondvar, CondvarDeed, Show, SeeOther, SeeAgain}
use Rattle.spec_locks.specs.Condvars.{MissIt, MoveFirst, MoveAll, LeaveList}
use Rattle.spec_locks.specs.Condvars.{MayLeaveSection, MayGoOut, IsAsInside, IsInsideAt, IsInsideNot, at}
use Rattle.spec_locks.specs.Condvars.{condvar_leads, hidden, queued_to_wait}
use Rattle.spec_locks.specs.Condvars as condvars
use Rattle.spec_locks.specs.Locks.{Queued, times, without}
use Rattle.spec_locks.specs.Sites.{Role, is_empty}
use Rattle.spec_locks.proofs.CondvarKeeps.{move_fits}
use Rattle.spec_locks.proofs.LockKeeps.{times_append}
use Rattle.steps_mutex.specs.declared.hand_off.HandOffAt.TheVariants as hand_off
use Rattle.steps_mutex.specs.declared.lock.LockAt.TheVariants as lock
use Rattle.steps_mutex.specs.declared.places.MutexPlace.{MutexPlace}
use Rattle.steps_mutex.specs.declared.places.MutexPlace.TheVariants as mutex
use Rattle.steps_mutex.specs.declared.unlock.UnlockAt.TheVariants as unlock
use Rattle.steps_mutex.specs.MutexSteps.{is_locked, mutex_act, mutex_next}
use Rattle.steps_condvar.specs.declared.notify.NotifyAt.{NotifyAt}
use Rattle.steps_condvar.specs.declared.notify.NotifyAt.TheVariants as notify
use Rattle.steps_condvar.specs.declared.places.CondvarPlace.{CondvarPlace}
use Rattle.steps_condvar.specs.declared.places.CondvarPlace.TheVariants.{Wait, Look, Notify}
use Rattle.steps_condvar.specs.declared.wait.WaiterFate.{WaiterFate}
use Rattle.steps_condvar.specs.declared.wait.WaiterFate.TheVariants as stands
use Rattle.steps_condvar.specs.declared.wait.WaitAt.{WaitAt}
use Rattle.steps_condvar.specs.declared.wait.WaitAt.TheVariants as wait
use Rattle.steps_condvar.specs.CondvarSteps.{stands_after, comes_from_another, past_release, condvar_act}
use Rattle.steps_condvar.specs.CondvarSteps.{condvar_owners, in_notify, in_wait, is_shown, marks}
use Rattle.steps_condvar.specs.CondvarSteps.{mutex_beside, mutex_shown, notified, released, relocked}
use Rattle.steps_condvar.specs.CondvarSteps.{shown_as}
use Rattle.steps_condvar.specs.CondvarProfiles.{is_listed, told_stage}
use Rattle.steps_condvar.specs.CondvarDeeds.{AllCondvarNeeded, CondvarMovesFit, CondvarOwnersFollow}
use Rattle.steps_condvar.specs.CondvarDeeds.{CondvarStepsCode, CondvarStepsFollow, Follows, IsAt, IsAtNext}
use Rattle.steps_condvar.specs.CondvarDeeds.{IsListed, MayReply, after_condvar_deeds, condvar_deeds}
use Rattle.steps_condvar.specs.CondvarDeeds.{relocked_deeds, word_showing}
use Rattle.steps_base.proofs.Deeds.{put_same}

times_gone : (t : ℕ) (q : List Queued) → times t (without t q) ≡ 0
times_gone t [] = refl
times_gone t (x ∷ q) = grind (arith, nat_tests, times_gone t q)

times_after : (t : ℕ) (q : List Queued) → times t q ≡ 0 → times t (q ++ queued_to_wait t ∷ []) ≡ 1
times_after t q e = grind (arith, nat_tests, times_append t q (queued_to_wait t ∷ []))

times_rest : (t : ℕ) (q : List Queued) → times t q ≡ 0 → times t (drop 1 q) ≡ 0
times_rest t [] e = refl
times_rest t (x ∷ q) e = grind (arith, nat_tests)

-- by the word of a condition variable, whether it shows this mutex
same_shown : (n m : ℕ) → ((shown_as n == 0) || is_shown (shown_as n) m) ≡ true → n ≡ m
same_shown n m e = grind (arith, nat_tests)

other_shown : (n m : ℕ) → ((shown_as n == 0) || is_shown (shown_as n) m) ≡ false → n ≢ m
other_shown n m e k = grind (arith, nat_tests)

sees_own : (o : Option ℕ) (m : ℕ) → ((word_showing o == 0) || is_shown (word_showing o) m) ≡ true → (o ≡ None)
    ⊎ (o ≡ Some m)
sees_own None m e = inl refl
sees_own (Some n) m e = inr (ap (λ k. Some k) (same_shown n m e))

sees_other : (o : Option ℕ) (m : ℕ) → ((word_showing o == 0) || is_shown (word_showing o) m) ≡ false
    → (o ≢ None) × (o ≢ Some m)
sees_other None m e = absurd cc
sees_other (Some n) m e = ((λ k. cc), λ k. other_shown n m e (let g : n ≡ m = cc in g))

same_again : (n m : ℕ) → is_shown (shown_as n) m ≡ true → n ≡ m
same_again n m e = grind (arith, nat_tests)

other_again : (n m : ℕ) → is_shown (shown_as n) m ≡ false → n ≢ m
other_again n m e k = grind (arith, nat_tests)

sees_again : (o : Option ℕ) (m : ℕ) → is_shown (word_showing o) m ≡ true → o ≡ Some m
sees_again None m e = absurd cc
sees_again (Some n) m e = ap (λ k. Some k) (same_again n m e)

misses : (o : Option ℕ) (m : ℕ) → is_shown (word_showing o) m ≡ false → o ≢ Some m
misses None m e k = cc
misses (Some n) m e k = other_again n m e (let g : n ≡ m = cc in g)

pub some_left : (q : List Queued) → q ≢ [] → (length q == 0) ≡ false
some_left [] ne = absurd (ne refl)
some_left (x ∷ q) ne = grind (arith, nat_tests)

pub not_none : (n : ℕ) → n ≢ 0 → (n == 0) ≡ false
not_none n ne = grind (arith, nat_tests)

-- deeds may be done, and the thread is there after them
record Does (c : CondvarSite) (t : ℕ) (ds : List CondvarDeed) (n : Next CondvarPlace) : Type 0 where
  pub needed : AllCondvarNeeded ds c t
  pub next : IsAtNext (after_condvar_deeds ds c t) t n

module _ (c : CondvarSite) (t : ℕ) (site : IsCondvar c) where
  -- tells what t knows by its stage
  known : (stage : CondvarPhase) → IsInsideAt c t stage → condvars.StageHolds c t stage
  known stage e = subst (λ (i : Option Inside). IsAsInside c i) e site.inside

  -- the thread may leave with nothing left to do
  may_go : (stage : CondvarPhase) → IsInsideAt c t stage → MayLeaveSection stage → MayGoOut c.inside t
  may_go stage e go = subst (λ (i : Option Inside). MayGoOut i t) (sym e) (refl, go)

  stage_by : (d : CondvarSite) (b b2 : Bool) (x y : CondvarPhase) → b ≡ b2
      → IsInsideAt d t (if b then x else y) → IsInsideAt d t (if b2 then x else y)
  stage_by d b b2 x y e h = subst (λ b. IsInsideAt d t (if b then x else y)) e h

  -- ---------------------------------------------------------------- waiters

  module _ (m : ℕ) (timed : Bool) where
    shows : IsAt c t (Wait m timed wait.Show) → (b : Bool)
        → (b ≡ true → (c.shown ≡ None) ⊎ (c.shown ≡ Some m)) → (b ≡ false → (c.shown ≢ None)
        × (c.shown ≢ Some m))
        → Does c t (if b then Show m ∷ [] else SeeOther m ∷ [])
        (in_wait m timed (if b then At wait.Stand else At wait.Refuse))
    shows a true own other = record {
      needed = ((a.stage, a.names, own refl), tt);
      next = record { stage = refl; listed = a.listed; names = a.names };
    }
    shows a false own other = let x = other refl in record {
      needed = ((a.stage, x.0, x.1), tt);
      next = record { stage = refl; listed = a.listed; names = a.names };
    }

    goes_afterwards : (s : WaiterFate) → IsInsideNot c.inside t → IsListed c t (is_listed s) → c.waits_with t
        ≡ Some m
        → IsAt c t (Wait m timed (past_release s))
    goes_afterwards stands.Listed out listed names = record { stage = out; listed = listed; names = names }
    goes_afterwards stands.Moved out listed names = record { stage = out; listed = listed; names = names }
    goes_afterwards (stands.InHand by) out listed names = record {
      stage = out;
      listed = listed;
      names = names;
    }
    goes_afterwards (stands.Handed by) out listed names = record {
      stage = out;
      listed = listed;
      names = names;
    }
    goes_afterwards (stands.Noted note.Normal) out listed names = record {
      stage = out;
      listed = listed;
      names = names;
    }
    goes_afterwards (stands.Noted note.HandOff) out listed names = record {
      stage = out;
      listed = listed;
      names = names;
    }

    releases : (s s2 : WaiterFate) (at : MutexPlace) → IsAt c t (Wait m timed (wait.Release s at))
        → (b : Bool) (n : Next MutexPlace) → b ≡ false
        → IsAt c t (Wait m timed (if b then wait.Release s2 at else released s n))
    releases s s2 at a true n e = absurd cc
    releases s s2 at a false (At q) e = record { stage = a.stage; listed = a.listed; names = a.names }
    releases s s2 at a false (End answer) e = goes_afterwards s a.stage a.listed a.names

    leaves_list : IsAt c t (Wait m timed wait.Remove) → (b : Bool) → b ≡ is_empty (without t c.waiters)
        → IsAtNext (condvar_leads LeaveList c t) t
        (in_wait m timed (if b then At wait.Hide else At wait.GiveUp))
    leaves_list a true e = record {
      stage = stage_by (condvar_leads LeaveList c t) (is_empty (without t c.waiters)) true Clears NothingToDo
          (sym e) refl;
      listed = times_gone t c.waiters;
      names = a.names;
    }
    leaves_list a false e = record {
      stage = stage_by (condvar_leads LeaveList c t) (is_empty (without t c.waiters)) false Clears NothingToDo
          (sym e) refl;
      listed = times_gone t c.waiters;
      names = a.names;
    }

    locks : (timed_out : Bool) (at : MutexPlace) → IsAt c t (Wait m timed (wait.Lock timed_out at))
        → (n : Next MutexPlace)
        → Does c t (relocked_deeds n) (in_wait m timed (relocked timed timed_out n))
    locks timed_out at a (At q) = record {
      needed = tt;
      next = record { stage = a.stage; listed = a.listed; names = a.names };
    }
    locks timed_out at a (End answer) = record {
      needed = ((a.listed, a.stage), tt);
      next = record { outside = a.stage; unlisted = a.listed; names = put_same c.waits_with t None };
    }

    waits : (p : WaitAt) (told : Reply) → IsAt c t (Wait m timed p) → MayReply c t (Wait m timed p) told
        → Follows c t (Wait m timed p) told
    waits wait.Enter reply.Done a h = record {
      needed = (h, tt);
      next = record { stage = refl; listed = a.listed; names = a.names };
    }
    waits wait.Show (reply.Value seen) a h =
        let d = shows a ((word_showing c.shown == 0) || is_shown (word_showing c.shown) m)
        (sees_own c.shown m) (sees_other c.shown m) in
        subst (λ v. Follows c t (Wait m timed wait.Show) (reply.Value v)) (sym h) (record {
          needed = d.needed;
          next = d.next;
        })
    waits wait.Stand reply.Done a h = record {
      needed = (((m, a.stage), a.listed), tt);
      next = record { stage = refl; listed = times_after t c.waiters a.listed; names = a.names };
    }
    waits wait.Leave reply.Done a h = record {
      needed = (may_go NothingToDo a.stage tt, tt);
      next = record { stage = tt; listed = a.listed; names = a.names };
    }
    waits wait.Refuse reply.Done a h = record {
      needed = (may_go (SeesOther m) a.stage tt, ((a.listed, tt), tt));
      next = record { outside = tt; unlisted = a.listed; names = put_same c.waits_with t None };
    }
    waits (wait.Release s at) told a h = record {
      needed = tt;
      next = releases s (stands_after s told) at a (comes_from_another told) (mutex_next at told) h;
    }
    waits (wait.Asleep stands.Listed) reply.Late a h = record {
      needed = (h, tt);
      next = record { stage = refl; listed = a.listed; names = a.names };
    }
    waits (wait.Asleep stands.Moved) reply.Late a h = record {
      needed = tt;
      next = record { stage = a.stage; listed = a.listed; names = a.names };
    }
    waits wait.Remove (reply.Removed none_left) a h = record {
      needed = ((a.stage, subst (λ n. 1 ≤ n) (sym a.listed) (omega arith)), tt);
      next = leaves_list a none_left h;
    }
    waits wait.Hide (reply.Value seen) a h = record {
      needed = (a.stage, tt);
      next = record { stage = refl; listed = a.listed; names = a.names };
    }
    waits wait.GiveUp reply.Done a h = record {
      needed = (may_go NothingToDo a.stage tt, tt);
      next = record { stage = tt; listed = a.listed; names = a.names };
    }
    waits wait.RemoveMoved (reply.Removed none_left) a h = record {
      needed = tt;
      next = record { stage = a.stage; listed = a.listed; names = a.names };
    }
    waits (wait.GiveUpMoved none_left) reply.Done a h = record {
      needed = tt;
      next = record { stage = a.stage; listed = a.listed; names = a.names };
    }
    waits (wait.Lock timed_out at) told a h = let d = locks timed_out at a (mutex_next at told) in record {
      needed = d.needed;
      next = d.next;
    }
    waits p told a h = absurd h

  -- ---------------------------------------------------------------- a thread that notifies

  looks : (all : Bool) (v : ℕ) → IsAt c t (Look all) → (b : Bool)
      → IsAtNext c t (if b then End (notified all 0) else At (Notify all (mutex_shown v) notify.Enter))
  looks all v a true = record { outside = a.stage; unlisted = a.listed; names = a.names }
  looks all v a false = record { stage = a.stage; listed = a.listed; names = a.names }

  module _ (m : ℕ) where
    looks_again : (all : Bool) → IsAt c t (Notify all m notify.Again) → (b : Bool)
        → (b ≡ true → c.shown ≡ Some m) → (b ≡ false → c.shown ≢ Some m)
        → Does c t (if b then SeeAgain m ∷ [] else MissIt m ∷ [])
        (At (Notify all m (if not b then notify.Leave false 0 else if all then notify.Hide
        else notify.Mark)))
    looks_again true a true own other = record {
      needed = ((a.stage, own refl), tt);
      next = record { stage = refl; listed = a.listed; names = a.names };
    }
    looks_again false a true own other = record {
      needed = ((a.stage, own refl), tt);
      next = record { stage = refl; listed = a.listed; names = a.names };
    }
    looks_again all a false own other = record {
      needed = ((a.stage, other refl), tt);
      next = record { stage = refl; listed = a.listed; names = a.names };
    }

    marks_at : (all : Bool) (v : ℕ) → IsAt c t (Notify all m notify.Mark) → (b : Bool)
        → IsAt c t (Notify all m (if b then notify.Set v else notify.Move false))
    marks_at all v a true = record { stage = a.stage; listed = a.listed; names = a.names }
    marks_at all v a false = record { stage = a.stage; listed = a.listed; names = a.names }

    bit_pending : (all : Bool) (v expected : ℕ) → IsAt c t (Notify all m (notify.Set expected)) → (b : Bool)
        → IsAt c t (Notify all m (marks v))
        → IsAtNext c t (in_notify all m (if b then At (notify.Move true) else At (marks v)))
    bit_pending all v expected a true next = record { stage = a.stage; listed = a.listed; names = a.names }
    bit_pending all v expected a false next = next

    moves_first : (locked any : Bool) → IsAt c t (Notify false m (notify.Move locked)) → (b : Bool)
        → b ≡ is_empty (drop 1 c.waiters)
        → IsAt (condvar_leads MoveFirst c t) t
        (Notify false m (if b then notify.Clear any else notify.Leave any 1))
    moves_first locked any a true e = record {
      stage = stage_by (condvar_leads MoveFirst c t) (is_empty (drop 1 c.waiters)) true Clears NothingToDo
          (sym e) refl;
      listed = times_rest t c.waiters a.listed;
      names = a.names;
    }
    moves_first locked any a false e = record {
      stage = stage_by (condvar_leads MoveFirst c t) (is_empty (drop 1 c.waiters)) false Clears NothingToDo
          (sym e) refl;
      listed = times_rest t c.waiters a.listed;
      names = a.names;
    }

    moves_all : (locked : Bool) (number : ℕ) → IsAt c t (Notify true m (notify.Move locked))
        → (number == 0) ≡ false → (b : Bool)
        → IsAt (condvar_leads MoveAll c t) t (Notify true m (if b then notify.MarkMoved number
        else notify.Leave (not locked) number))
    moves_all locked number a e true = record { stage = refl; listed = refl; names = a.names }
    moves_all locked number a e false = record {
      stage = stage_by (condvar_leads MoveAll c t) false (number == 0) (Misses m) NothingToDo (sym e) refl;
      listed = refl;
      names = a.names;
    }

    may_tell : (b : Bool) → MayLeaveSection (if b then Misses m else NothingToDo)
    may_tell true = tt
    may_tell false = tt

    notifies : (all : Bool) (p : NotifyAt) (told : Reply) → IsAt c t (Notify all m p)
        → MayReply c t (Notify all m p) told → Follows c t (Notify all m p) told
    notifies all notify.Enter reply.Done a h = record {
      needed = (h, tt);
      next = record { stage = refl; listed = a.listed; names = a.names };
    }
    notifies all notify.Again (reply.Value seen) a h =
        let d = looks_again all a (is_shown (word_showing c.shown) m) (sees_again c.shown m)
        (misses c.shown m) in
        subst (λ v. Follows c t (Notify all m notify.Again) (reply.Value v)) (sym h) (record {
          needed = d.needed;
          next = d.next;
        })
    notifies true notify.Hide (reply.Value seen) a h =
        let k = known (Sees m) a.stage in
        record {
          needed = ((m, a.stage), tt);
          next = record {
            stage = ap (λ o. Some (record { thread = t; stage = hidden o })) k.0;
            listed = a.listed;
            names = a.names;
          };
        }
    notifies false notify.Hide (reply.Value seen) a h = absurd cc
    notifies all notify.Mark (reply.Value seen) a h = record {
      needed = tt;
      next = marks_at all seen a (is_locked seen);
    }
    notifies all (notify.Set expected) (reply.Value seen) a h =
        record {
          needed = tt;
          next = bit_pending all seen expected a (seen == expected) (marks_at all seen (record {
            stage = a.stage;
            listed = a.listed;
            names = a.names;
          }) (is_locked seen));
        }
    notifies false (notify.Move locked) (reply.Took any none_left) a h = record {
      needed = ((m, a.stage), tt);
      next = moves_first locked any a none_left h;
    }
    notifies false (notify.Move locked) (reply.Requeued number none_left) a h = record {
      needed = ((m, a.stage), tt);
      next = moves_first locked false a none_left h;
    }
    notifies true (notify.Move locked) (reply.Requeued number none_left) a h =
        let k = known (Takes m) a.stage in
        record {
          needed = ((m, a.stage), tt);
          next = moves_all locked number a (ap (λ n. n == 0) h ∙ some_left c.waiters k.1)
              (not locked && nat_lt 1 number);
        }
    notifies all (notify.Clear any) (reply.Value seen) a h = record {
      needed = (a.stage, tt);
      next = record { stage = refl; listed = a.listed; names = a.names };
    }
    notifies all (notify.MarkMoved number) (reply.Value seen) a h =
        record {
          needed = tt;
          next = record {
            stage = stage_by c false (number == 0) (Misses m) NothingToDo (sym (not_none number h)) a.stage;
            listed = a.listed;
            names = a.names;
          };
        }
    notifies all (notify.Leave any number) reply.Done a h =
        record {
          needed = (may_go (told_stage m number) a.stage (may_tell (number == 0)), tt);
          next = record { outside = tt; unlisted = a.listed; names = a.names };
        }
    notifies all p told a h = absurd h

  follows : (p : CondvarPlace) (told : Reply) → IsAt c t p → MayReply c t p told → Follows c t p told
  follows (Wait m timed at) told a h = waits m timed at told a h
  follows (Look all) (reply.Value seen) a h = record { needed = tt; next = looks all seen a (seen == 0) }
  follows (Notify all m at) told a h = notifies m all at told a h
  follows p told a h = absurd h

-- ---------------------------------------------------------------- the word

-- a step on a word in a call of a mutex is one on its word
decided_word : (l k s : ℕ) (f : Op) (a b : Bool)
    → (if not a then act.Word l (op.Exchange s (s + 1)) else if b then act.Word l (op.Exchange 1 3)
    else act.Enter (One (2 * l))) ≡ act.Word k f → l ≡ k
decided_word l k s f false b is = cc
decided_word l k s f true true is = cc
decided_word l k s f true false is = absurd cc

mutex_word_is : (l k : ℕ) (f : Op) (p : MutexPlace) → mutex_act l p ≡ act.Word k f → l ≡ k
mutex_word_is l k f (mutex.Lock e r (lock.Decide s)) is = decided_word l k s f (is_locked s) (s == 1) is
mutex_word_is l k f (mutex.Lock e r lock.First) is = cc
mutex_word_is l k f (mutex.Lock e r lock.Load) is = cc
mutex_word_is l k f (mutex.Lock e r lock.Clear) is = cc
mutex_word_is l k f (mutex.Lock e r lock.Check) is = absurd cc
mutex_word_is l k f (mutex.Lock e r (lock.Leave parked)) is = absurd cc
mutex_word_is l k f (mutex.Lock e r lock.Asleep) is = absurd cc
mutex_word_is l k f (mutex.Lock e r (lock.Taken by)) is = absurd cc
mutex_word_is l k f (mutex.Lock e r (lock.Handed by)) is = absurd cc
mutex_word_is l k f (mutex.Lock e r lock.Accept) is = absurd cc
mutex_word_is l k f (mutex.Lock e r lock.Remove) is = absurd cc
mutex_word_is l k f (mutex.Lock e r lock.GiveUp) is = absurd cc
mutex_word_is l k f mutex.TryLock is = cc
mutex_word_is l k f (mutex.Unlock unlock.Subtract) is = cc
mutex_word_is l k f (mutex.Unlock (unlock.Clear any)) is = cc
mutex_word_is l k f (mutex.Unlock unlock.Enter) is = absurd cc
mutex_word_is l k f (mutex.Unlock unlock.Take) is = absurd cc
mutex_word_is l k f (mutex.Unlock (unlock.Leave any)) is = absurd cc
mutex_word_is l k f mutex.UnlockFair is = cc
mutex_word_is l k f mutex.Bump is = cc
mutex_word_is l k f (mutex.HandOff b (hand_off.Store false none_left)) is = cc
mutex_word_is l k f (mutex.HandOff b (hand_off.Store true none_left)) is = absurd cc
mutex_word_is l k f (mutex.HandOff b hand_off.Enter) is = absurd cc
mutex_word_is l k f (mutex.HandOff b hand_off.Take) is = absurd cc
mutex_word_is l k f (mutex.HandOff b (hand_off.Leave any)) is = absurd cc

module _ (c : CondvarSite) (t : ℕ) where
  same_word : (n m : ℕ) → ((shown_as n == 0) || is_shown (shown_as n) m) ≡ true
      → (if shown_as n == 0 then shown_as m else shown_as n) ≡ shown_as m
  same_word n m e = grind (arith, nat_tests)

  other_word : (n m : ℕ) → (if shown_as n == 0 then shown_as m else shown_as n) ≡ shown_as n
  other_word n m = grind (arith, nat_tests)

  shows_word : (m : ℕ) (o : Option ℕ) → c.shown ≡ o → (b : Bool)
      → ((word_showing o == 0) || is_shown (word_showing o) m) ≡ b
      → (if word_showing o == 0 then shown_as m else word_showing o) ≡ word_showing
      (after_condvar_deeds (if b then Show m ∷ [] else SeeOther m ∷ []) c t).shown
  shows_word m None e true h = refl
  shows_word m None e false h = absurd cc
  shows_word m (Some n) e true h = same_word n m h
  shows_word m (Some n) e false h = other_word n m ∙ ap word_showing (sym e)

  other_owners : (n m : ℕ) (o : Owners) → (if shown_as n == 0 then record o { shown = Some m } else o) ≡ o
  other_owners n m o = grind (arith, nat_tests)

  shown_still : (n m : ℕ) (o : Owners) → n ≡ m → o.shown ≡ Some n
      → (if shown_as n == 0 then record o { shown = Some m } else o) ≡ record o { shown = Some m }
  shown_still n m o same e = other_owners n m o ∙ (λ i. record o { shown = (e ∙ ap (λ k. Some k) same) i })

  looks_word : (m : ℕ) (b : Bool) → word_showing c.shown
      ≡ word_showing (after_condvar_deeds (if b then SeeAgain m ∷ [] else MissIt m ∷ []) c t).shown
  looks_word m true = refl
  looks_word m false = refl

  leaves_word : (k : ℕ) (p : CondvarPlace) (f : Op) → condvar_act k p ≡ act.Word k f → mutex_beside p ≢ Some k
      → apply f (word_showing c.shown)
      ≡ word_showing (after_condvar_deeds (condvar_deeds p (reply.Value (word_showing c.shown))) c
      t).shown
  leaves_word k (Wait m timed wait.Show) f is ne = let e : op.Exchange 0 (shown_as m) ≡ f = cc
      in rw (← e) (shows_word m c.shown refl ((word_showing c.shown == 0) || is_shown (word_showing c.shown)
      m) refl)
  leaves_word k (Wait m timed wait.Hide) f is ne = let e : op.Store 0 ≡ f = cc in rw (← e) refl
  leaves_word k (Wait m timed (wait.Release s at)) f is ne =
      absurd (ne (ap (λ l. Some l) (mutex_word_is m k f at is)))
  leaves_word k (Wait m timed (wait.Lock timed_out at)) f is ne =
      absurd (ne (ap (λ l. Some l) (mutex_word_is m k f at is)))
  leaves_word k (Wait m timed wait.Enter) f is ne = absurd cc
  leaves_word k (Wait m timed wait.Stand) f is ne = absurd cc
  leaves_word k (Wait m timed wait.Leave) f is ne = absurd cc
  leaves_word k (Wait m timed wait.Refuse) f is ne = absurd cc
  leaves_word k (Wait m timed (wait.Asleep s)) f is ne = absurd cc
  leaves_word k (Wait m timed wait.Remove) f is ne = absurd cc
  leaves_word k (Wait m timed wait.GiveUp) f is ne = absurd cc
  leaves_word k (Wait m timed wait.RemoveMoved) f is ne = absurd cc
  leaves_word k (Wait m timed (wait.GiveUpMoved none_left)) f is ne = absurd cc
  leaves_word k (Look all) f is ne = let e : op.Load ≡ f = cc in rw (← e) refl
  leaves_word k (Notify all m notify.Again) f is ne = let e : op.Load ≡ f = cc
      in rw (← e) (looks_word m (is_shown (word_showing c.shown) m))
  leaves_word k (Notify all m notify.Hide) f is ne = let e : op.Store 0 ≡ f = cc in rw (← e) refl
  leaves_word k (Notify all m (notify.Clear any)) f is ne = let e : op.Store 0 ≡ f = cc in rw (← e) refl
  leaves_word k (Notify all m notify.Mark) f is ne = absurd (ne (ap (λ l. Some l) (let g : m ≡ k = cc in g)))
  leaves_word k (Notify all m (notify.Set seen)) f is ne =
      absurd (ne (ap (λ l. Some l) (let g : m ≡ k = cc in g)))
  leaves_word k (Notify all m (notify.MarkMoved number)) f is ne =
      absurd (ne (ap (λ l. Some l) (let g : m ≡ k = cc in g)))
  leaves_word k (Notify all m notify.Enter) f is ne = absurd cc
  leaves_word k (Notify true m (notify.Move locked)) f is ne = absurd cc
  leaves_word k (Notify false m (notify.Move true)) f is ne = absurd cc
  leaves_word k (Notify false m (notify.Move false)) f is ne = absurd cc
  leaves_word k (Notify all m (notify.Leave any number)) f is ne = absurd cc

  shows_owners : (m : ℕ) (o : Owners) (x : Option ℕ) → c.shown ≡ x → o.shown ≡ x → (b : Bool)
      → ((word_showing x == 0) || is_shown (word_showing x) m) ≡ b
      → (if word_showing x == 0 then record o { shown = Some m } else o) ≡ record o {
        shown =
            (after_condvar_deeds (if b then Show m ∷ [] else SeeOther m ∷ []) c t).shown;
      }
  shows_owners m o None e f true h = refl
  shows_owners m o None e f false h = absurd cc
  shows_owners m o (Some n) e f true h = shown_still n m o (same_shown n m h) f
  shows_owners m o (Some n) e f false h = other_owners n m o ∙ (λ i. record o { shown = (f ∙ sym e) i })

  looks_owners : (m : ℕ) (o : Owners) → o.shown ≡ c.shown → (b : Bool) → o ≡ record o {
    shown =
        (after_condvar_deeds (if b then SeeAgain m ∷ [] else MissIt m ∷ []) c t).shown;
  }
  looks_owners m o e true = λ i. record o { shown = e i }
  looks_owners m o e false = λ i. record o { shown = e i }

  leaves_owners : (k : ℕ) (p : CondvarPlace) (f : Op) (o : Owners) → condvar_act k p ≡ act.Word k f
      → mutex_beside p ≢ Some k → o.shown ≡ c.shown
      → condvar_owners p t (word_showing c.shown) o ≡ record o {
        shown =
            (after_condvar_deeds (condvar_deeds p (reply.Value (word_showing c.shown))) c t).shown;
      }
  leaves_owners k (Wait m timed wait.Show) f o is ne e =
      shows_owners m o c.shown refl e ((word_showing c.shown == 0) || is_shown (word_showing c.shown) m) refl
  leaves_owners k (Wait m timed wait.Hide) f o is ne e = refl
  leaves_owners k (Wait m timed (wait.Release s at)) f o is ne e =
      absurd (ne (ap (λ l. Some l) (mutex_word_is m k f at is)))
  leaves_owners k (Wait m timed (wait.Lock timed_out at)) f o is ne e =
      absurd (ne (ap (λ l. Some l) (mutex_word_is m k f at is)))
  leaves_owners k (Wait m timed wait.Enter) f o is ne e = absurd cc
  leaves_owners k (Wait m timed wait.Stand) f o is ne e = absurd cc
  leaves_owners k (Wait m timed wait.Leave) f o is ne e = absurd cc
  leaves_owners k (Wait m timed wait.Refuse) f o is ne e = absurd cc
  leaves_owners k (Wait m timed (wait.Asleep s)) f o is ne e = absurd cc
  leaves_owners k (Wait m timed wait.Remove) f o is ne e = absurd cc
  leaves_owners k (Wait m timed wait.GiveUp) f o is ne e = absurd cc
  leaves_owners k (Wait m timed wait.RemoveMoved) f o is ne e = absurd cc
  leaves_owners k (Wait m timed (wait.GiveUpMoved none_left)) f o is ne e = absurd cc
  leaves_owners k (Look all) f o is ne e = λ i. record o { shown = e i }
  leaves_owners k (Notify all m notify.Again) f o is ne e =
      looks_owners m o e (is_shown (word_showing c.shown) m)
  leaves_owners k (Notify all m notify.Hide) f o is ne e = refl
  leaves_owners k (Notify all m (notify.Clear any)) f o is ne e = refl
  leaves_owners k (Notify all m notify.Mark) f o is ne e =
      absurd (ne (ap (λ l. Some l) (let g : m ≡ k = cc in g)))
  leaves_owners k (Notify all m (notify.Set seen)) f o is ne e =
      absurd (ne (ap (λ l. Some l) (let g : m ≡ k = cc in g)))
  leaves_owners k (Notify all m (notify.MarkMoved number)) f o is ne e =
      absurd (ne (ap (λ l. Some l) (let g : m ≡ k = cc in g)))
  leaves_owners k (Notify all m notify.Enter) f o is ne e = absurd cc
  leaves_owners k (Notify true m (notify.Move locked)) f o is ne e = absurd cc
  leaves_owners k (Notify false m (notify.Move true)) f o is ne e = absurd cc
  leaves_owners k (Notify false m (notify.Move false)) f o is ne e = absurd cc
  leaves_owners k (Notify all m (notify.Leave any number)) f o is ne e = absurd cc

pub condvar_steps_follow : CondvarStepsFollow
condvar_steps_follow c t p told site a h = follows c t site p told a h

pub condvar_owners_follow : CondvarOwnersFollow
condvar_owners_follow c t k p f o is ne e = leaves_owners c t k p f o is ne e

pub condvar_steps_code : CondvarStepsCode
condvar_steps_code c t k p f is ne = leaves_word c t k p f is ne

-- ---------------------------------------------------------------- with the mutex

pub condvar_moves_fit : CondvarMovesFit
condvar_moves_fit r all locked c s t m sort site aside a role =
    move_fits r all locked c s t m sort site aside a.stage (ap (λ (d : Role). d.inside) role)
    (ap (λ (d : Role). d.has_taken) role)
    (ap (λ (d : Role). d.wakes) role) (ap (λ (d : Role). d.retries) role) (λ e. ap (λ (d : Role). d.will_bring)
    role ∙ e)
