-- Where a bit is left in the word of a lock that nobody owns, a thread takes the lock alone and releases it
-- fairly: the word is 0 then.
use Rattle.std.proofs.Common.{ℕ, true, false, None, refl}
use Rattle.core_base.specs.declared.ops.Op.TheVariants as op
use Rattle.spec_locks.specs.declared.calls.Access.TheVariants as access
use Rattle.spec_locks.specs.declared.calls.Patience.TheVariants as patience
use Rattle.spec_locks.specs.declared.kinds.Kind.{Kind}
use Rattle.steps_mutex.specs.declared.lock.Entry.TheVariants as entry
use Rattle.steps_mutex.specs.declared.lock.LockAt.{LockAt}
use Rattle.steps_mutex.specs.declared.lock.LockAt.TheVariants as locking
use Rattle.steps_mutex.specs.declared.hand_off.HandOffAt.{HandOffAt}
use Rattle.steps_mutex.specs.declared.hand_off.HandOffAt.TheVariants as hand_off
use Rattle.steps_mutex.specs.declared.places.MutexPlace.TheVariants as mutex
use Rattle.steps_rwlock.specs.declared.places.Admission.{Admission}
use Rattle.steps_rwlock.specs.declared.places.RwLockAt.{RwLockAt}
use Rattle.steps_rwlock.specs.declared.places.RwLockAt.TheVariants as at
use Rattle.steps_rwlock.specs.declared.purposes.RwLockPurpose.TheVariants as purpose
use Rattle.steps_rwlock_fair.specs.declared.places.RwLockCallPlace.TheVariants.{Plain, HandOver}
use Rattle.steps_rwlock_fair.specs.declared.hand_over.Taken.{Taken}
use Rattle.steps_rwlock_fair.specs.declared.hand_over.HandOverAt.{HandOverAt}
use Rattle.steps_rwlock_fair.specs.declared.hand_over.HandOverAt.TheVariants as handing
use Rattle.lot_steps.specs.declared.places.Place.{Place}
use Rattle.lot_steps.specs.declared.places.Place.TheVariants.{Mutex, RwLock}
use Rattle.lot_machine.specs.Machine.{State}
use Rattle.lot_alone.proofs.Leads.{LeadsSurely}
use Rattle.lot_world.proofs.Passes.{Ended, Passes, by_hand, into, none_first, none_picked, on_word, out_of}
use Rattle.lot_world.proofs.Passes.{word_ends}

module _ (k : Kind) where
  -- the run of the thread from a place on, where the word is v, ends with the word e
  abbrev pub Runs : ℕ → Place → (v e : ℕ) → Type 0
  Runs n p v e = (w : State) → Passes k w p v → LeadsSurely n w 0 (Ended k e)

  -- ---------------------------------------------------------------- a mutex

  abbrev locks : LockAt → Place
  locks to = Mutex 0 (mutex.Lock entry.Lock false to)

  pub lock_runs : Runs 3 (locks locking.First) 2 3
  lock_runs w f = on_word k w _ 2 f 2 3 (op.Exchange 0 1) refl refl
      (λ f. on_word k _ (locks locking.Load) 2 f 1 3 op.Load refl refl
      (λ f. word_ends k _ (locks (locking.Decide 2)) 2 f (op.Exchange 2 3) refl refl refl))

  abbrev hands_off : HandOffAt → Place
  hands_off to = Mutex 0 (mutex.HandOff false to)

  pub unlock_runs : Runs 5 (Mutex 0 mutex.UnlockFair) 3 0
  unlock_runs w f = on_word k w _ 3 f 4 0 (op.Exchange 1 0) refl refl
      (λ f. into k _ (hands_off hand_off.Enter) 3 f 3 0 refl refl refl
      (λ f. none_first k _ (hands_off hand_off.Take) 3 f 2 0 refl refl
      (λ f. on_word k _ (hands_off (hand_off.Store false true)) 3 f 1 0 (op.Store 0) refl refl
      (λ f. out_of k _ (hands_off (hand_off.Leave false)) 0 f refl refl refl))))

  -- ---------------------------------------------------------------- a reader-writer lock

  module _ (a : Admission) where
    abbrev writes : RwLockAt → Place
    writes to = RwLock 0 a (Plain (record {
      purpose = purpose.Enter access.Exclusive patience.Patient;
      retries = false;
      at = to;
    }))

    pub write_runs_1 : Runs 4 (writes at.First) 1 9
    write_runs_1 w f = on_word k w _ 1 f 3 9 (op.Exchange 0 8) refl refl
        (λ f. on_word k _ (writes at.Load) 1 f 2 9 op.Load refl refl
        (λ f. on_word k _ (writes (at.Decide 1)) 1 f 1 9 (op.Exchange 1 9) refl refl
        (λ f. word_ends k _ (writes at.Look) 9 f op.Load refl refl refl)))

    pub write_runs_2 : Runs 4 (writes at.First) 2 10
    write_runs_2 w f = on_word k w _ 2 f 3 10 (op.Exchange 0 8) refl refl
        (λ f. on_word k _ (writes at.Load) 2 f 2 10 op.Load refl refl
        (λ f. on_word k _ (writes (at.Decide 2)) 2 f 1 10 (op.Exchange 2 10) refl refl
        (λ f. word_ends k _ (writes at.Look) 10 f op.Load refl refl refl)))

    pub write_runs_3 : Runs 4 (writes at.First) 3 11
    write_runs_3 w f = on_word k w _ 3 f 3 11 (op.Exchange 0 8) refl refl
        (λ f. on_word k _ (writes at.Load) 3 f 2 11 op.Load refl refl
        (λ f. on_word k _ (writes (at.Decide 3)) 3 f 1 11 (op.Exchange 3 11) refl refl
        (λ f. word_ends k _ (writes at.Look) 11 f op.Load refl refl refl)))

    abbrev hands_over : HandOverAt → Place
    hands_over to = RwLock 0 a (HandOver access.Exclusive false to)

    abbrev nobody : Taken
    nobody = record { sharers = 0; successor = None; none_left = true }

    enter_runs : (v : ℕ) → Runs 4 (hands_over handing.Enter) v 0
    enter_runs v w f = into k w _ v f 3 0 refl refl refl
        (λ f. none_picked k _ (hands_over handing.Take) v f refl 2 0 a.recursive refl refl
        (λ f. by_hand k _ (hands_over (handing.Store nobody)) v f 1 0 (op.Store 0) refl refl
        (λ f. out_of k _ (hands_over (handing.Leave false true)) 0 f refl refl refl)))

    pub release_runs_1 : Runs 5 (hands_over (handing.Free 8)) 9 0
    release_runs_1 w f = on_word k w _ 9 f 4 0 (op.Exchange 8 0) refl refl (λ f. enter_runs 9 _ f)

    pub release_runs_2 : Runs 5 (hands_over (handing.Free 8)) 10 0
    release_runs_2 w f = on_word k w _ 10 f 4 0 (op.Exchange 8 0) refl refl (λ f. enter_runs 10 _ f)

    pub release_runs_3 : Runs 5 (hands_over (handing.Free 8)) 11 0
    release_runs_3 w f = on_word k w _ 11 f 4 0 (op.Exchange 8 0) refl refl (λ f. enter_runs 11 _ f)
