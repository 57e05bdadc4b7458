-- The calls of a condition variable: the words on which they step, and that none runs a closure.
use Rattle.std.proofs.Common.{ℕ, ◌≡◌, ◌≢◌, ◌==◌, Bool, true, false, List, Some, cond, if◌then◌else◌, sym}
use Rattle.std.proofs.Common.{refl, ap, ◌∙◌, ne_eqb, eq-eqb}
use Rattle.spec_locks.specs.declared.outcomes.OnceState.{OnceState}
use Rattle.spec_locks.specs.declared.calls.OnceCall.TheVariants.{CallOnce, WaitTimed}
use Rattle.steps_base.specs.declared.acts.Act.TheVariants as act
use Rattle.steps_condvar.specs.declared.places.CondvarPlace.TheVariants.{Wait, Look, Notify}
use Rattle.steps_condvar.specs.declared.notify.NotifyAt.{NotifyAt}
use Rattle.steps_condvar.specs.declared.notify.NotifyAt.TheVariants as notify
use Rattle.steps_condvar.specs.declared.wait.WaiterFate.TheVariants as stands
use Rattle.steps_condvar.specs.declared.wait.WaitAt.{WaitAt}
use Rattle.steps_condvar.specs.declared.wait.WaitAt.TheVariants as wait
use Rattle.steps_condvar.specs.CondvarSteps.{notify_act, wait_act}
use Rattle.steps_mutex.specs.declared.lock.Entry.TheVariants as entry
use Rattle.steps_mutex.specs.declared.places.MutexPlace.TheVariants.{Lock, Unlock}
use Rattle.steps_mutex.specs.declared.unlock.UnlockAt.TheVariants as unlock
use Rattle.steps_once.specs.declared.places.OncePlace.TheVariants as once
use Rattle.steps_once.specs.declared.run.RunAt.TheVariants as run
use Rattle.lot_steps.specs.declared.places.Place.{Place}
use Rattle.lot_steps.specs.declared.places.Place.TheVariants.{Idle, Mutex, RwLock, Once, Condvar, Semaphore}
use Rattle.core_words.specs.Indices.{word_index}
use Rattle.core_words.specs.Lots.{IsWordOf}
use Rattle.core_words.specs.declared.owners.Ownership.{Ownership}
use Rattle.core_words.specs.declared.table.LotWords.{LotWords}
use Rattle.core_words.specs.declared.words.Word.{Word}
use Rattle.core_words.specs.declared.words.WordKind.TheVariants as kind
use Rattle.run_base.specs.CondvarFitting.{FitsWait, apart}
use Rattle.run_base.specs.Fitting.{AreWordsBeside, IsStopped, of_notify, of_once, of_run, of_wait}
use Rattle.run_base.specs.Paths.{condvar_at, mutex_at}
use Rattle.run_base.specs.Stages.{ThreadState}
use Rattle.run_base.specs.Words.{at_in, word_pair, kind_in, word_among}
use Rattle.run_base.specs.declared.driver.Stop.TheVariants.{Paused}
use Rattle.run_base.proofs.SemaphoreLeading.{semaphore_no_closure}
use Rattle.run_base.proofs.Ending.{no_closure}
use Rattle.run_base.proofs.RwLockLeading.{rwlock_no_closure}
use Rattle.run_locks.specs.CondvarCalls.{at_condvar}

-- no wait runs a closure
wait_no_closure : (c m : ℕ) (timed : Bool) (state : OnceState) (up : Type 0) (base : List Ownership)
    (w : WaitAt) (st : ThreadState) → FitsWait up c m timed base w st → wait_act c m w
    ≡ act.Closure
    state → ⊥
wait_no_closure c m timed state up base (wait.Release stands.Listed (Unlock unlock.Subtract)) st f is = cc
wait_no_closure c m timed state up base (wait.Release stands.Listed (Unlock unlock.Enter)) st f is = cc
wait_no_closure c m timed state up base (wait.Release stands.Listed (Unlock unlock.Take)) st f is = cc
wait_no_closure c m timed state up base (wait.Release stands.Listed (Unlock (unlock.Clear any))) st f is = cc
wait_no_closure c m timed state up base (wait.Release stands.Listed (Unlock (unlock.Leave any))) st f is = cc
wait_no_closure c m timed state up base (wait.Release s p) st f is = absurd f
wait_no_closure c m timed state up base (wait.Lock timed_out (Lock entry.Lock retries l)) st f is =
    no_closure m state up (apart m base) (Lock entry.Lock retries l) st f.1 is
wait_no_closure c m timed state up base (wait.Lock timed_out p) st f is = absurd f.1
wait_no_closure c m timed state up base w st f is = cc

pub wait_never_pauses : (up : Type 0) (base : List Ownership) (c m : ℕ) (timed : Bool) (p : Place)
    (state : OnceState) (st : ThreadState) → IsStopped up base (of_wait c m timed) (Paused p state) st → ⊥
wait_never_pauses up base c m timed Idle state st s = s.0
wait_never_pauses up base c m timed (Mutex l at) state st s = no_closure l state up base at st s.0 s.2
wait_never_pauses up base c m timed (Semaphore l at) state st s = semaphore_no_closure l state at s.2
wait_never_pauses up base c m timed (RwLock l a at) state st s = rwlock_no_closure up l a base at st state s.0
    s.2
wait_never_pauses up base c m timed (Once l (once.Look call retries at)) state st s = let aim : of_once l call
    ≡ of_wait c m timed = s.1 in cc
wait_never_pauses up base c m timed (Once l (once.Run forced (run.Closure poisoned))) state st s =
    let aim : of_once l (CallOnce forced) ≡ of_wait c m timed = s.1 in cc
wait_never_pauses up base c m timed (Once l (once.Run forced (run.Close succeeded))) state st s = s.0
wait_never_pauses up base c m timed (Once l (once.Run forced (run.Enter succeeded))) state st s =
    let aim : of_run l succeeded ≡ of_wait c m timed = s.1 in cc
wait_never_pauses up base c m timed (Once l (once.Run forced (run.Take succeeded))) state st s =
    let aim : of_run l succeeded ≡ of_wait c m timed = s.1 in cc
wait_never_pauses up base c m timed (Once l (once.Run forced (run.Leave succeeded any))) state st s =
    let aim : of_run l succeeded ≡ of_wait c m timed = s.1 in cc
wait_never_pauses up base c m timed (Once l (once.GiveUp retries at)) state st s =
    let aim : of_once l WaitTimed ≡ of_wait c m timed = s.1 in cc
wait_never_pauses up base c m timed (Condvar l (Wait m2 timed2 w)) state st s =
    wait_no_closure l m2 timed2 state up base w st s.0 s.2
wait_never_pauses up base c m timed (Condvar l (Look all)) state st s = s.0
wait_never_pauses up base c m timed (Condvar l (Notify all m2 at)) state st s = let aim : of_notify l m2 all
    ≡ of_wait c m timed = s.1 in cc

-- No notification runs a closure.
notify_no_closure : (c m : ℕ) (state : OnceState) (all : Bool) (n : NotifyAt) → notify_act all c m n
    ≡ act.Closure state → ⊥
notify_no_closure c m state true (notify.Move locked) is = cc
notify_no_closure c m state false (notify.Move true) is = cc
notify_no_closure c m state false (notify.Move false) is = cc
notify_no_closure c m state all n is = cc

pub notify_never_pauses : (up : Type 0) (base : List Ownership) (c m : ℕ) (all : Bool) (p : Place)
    (state : OnceState) (st : ThreadState) → IsStopped up base (of_notify c m all) (Paused p state) st → ⊥
notify_never_pauses up base c m all Idle state st s = s.0
notify_never_pauses up base c m all (Mutex l at) state st s = no_closure l state up base at st s.0 s.2
notify_never_pauses up base c m all (Semaphore l at) state st s = semaphore_no_closure l state at s.2
notify_never_pauses up base c m all (RwLock l a at) state st s = rwlock_no_closure up l a base at st state s.0
    s.2
notify_never_pauses up base c m all (Once l (once.Look call retries at)) state st s = let aim : of_once l call
    ≡ of_notify c m all = s.1 in cc
notify_never_pauses up base c m all (Once l (once.Run forced (run.Closure poisoned))) state st s =
    let aim : of_once l (CallOnce forced) ≡ of_notify c m all = s.1 in cc
notify_never_pauses up base c m all (Once l (once.Run forced (run.Close succeeded))) state st s = s.0
notify_never_pauses up base c m all (Once l (once.Run forced (run.Enter succeeded))) state st s =
    let aim : of_run l succeeded ≡ of_notify c m all = s.1 in cc
notify_never_pauses up base c m all (Once l (once.Run forced (run.Take succeeded))) state st s =
    let aim : of_run l succeeded ≡ of_notify c m all = s.1 in cc
notify_never_pauses up base c m all (Once l (once.Run forced (run.Leave succeeded any))) state st s =
    let aim : of_run l succeeded ≡ of_notify c m all = s.1 in cc
notify_never_pauses up base c m all (Once l (once.GiveUp retries at)) state st s =
    let aim : of_once l WaitTimed ≡ of_notify c m all = s.1 in cc
notify_never_pauses up base c m all (Condvar l (Wait m2 timed2 w)) state st s =
    wait_no_closure l m2 timed2 state up base w st s.0 s.2
notify_never_pauses up base c m all (Condvar l (Look all2)) state st s = s.0
notify_never_pauses up base c m all (Condvar l (Notify all2 m2 n)) state st s =
    notify_no_closure l m2 state all2 n s.2

module _ (condvar mutex : Word) (apart : condvar.number ≢ mutex.number) (is_condvar : condvar.kind
    ≡ kind.Condvar) (is_mutex : mutex.kind ≡ kind.Mutex) where
  other : (mutex.number == condvar.number) ≡ false
  other = ne_eqb mutex.number condvar.number (λ e. apart (sym e))

  same : (mutex.number == mutex.number) ≡ true
  same = eq-eqb mutex.number mutex.number refl

  here : word_among (word_pair condvar mutex) condvar.number ≡ condvar
  here = ap (λ (b : Bool). if b then mutex else condvar) other

  there : word_among (word_pair condvar mutex) mutex.number ≡ mutex
  there = ap (λ (b : Bool). if b then mutex else condvar) same

  index : Word → ℕ
  index w = word_index w.number w.kind

  pub words_beside : AreWordsBeside condvar.number (Some mutex.number) (kind_in (word_pair condvar mutex))
      (at_in (word_pair condvar mutex))
  words_beside = (
    apart,
    ap (λ (w : Word). w.kind) here ∙ is_condvar,
    ap (λ (w : Word). word_index w.number w.kind) here ∙ ap (word_index condvar.number) is_condvar,
    ap (λ (w : Word). w.kind) there ∙ is_mutex,
    ap (λ (w : Word). word_index w.number w.kind) there ∙ ap (word_index mutex.number) is_mutex,
  )

  at_each : (lock : ℕ) → at_in (word_pair condvar mutex) lock ≡ at_condvar condvar.number mutex.number lock
  at_each lock = by_bit (mutex.number == lock)
    where
      by_bit : (b : Bool) → word_index (if b then mutex else condvar).number (if b then mutex
          else condvar).kind ≡ cond b (mutex_at mutex.number) (condvar_at condvar.number)
      by_bit true = ap (word_index mutex.number) is_mutex
      by_bit false = ap (word_index condvar.number) is_condvar

  pub at_both : at_in (word_pair condvar mutex) ≡ at_condvar condvar.number mutex.number
  at_both = λ i lock. at_each lock i

pub both_of : (lot : LotWords) (condvar mutex : Word) → IsWordOf lot condvar → IsWordOf lot mutex → (lock : ℕ)
    → IsWordOf lot (word_among (word_pair condvar mutex) lock)
both_of lot condvar mutex c m lock = by_bit (mutex.number == lock)
  where
    by_bit : (b : Bool) → IsWordOf lot (if b then mutex else condvar)
    by_bit true = m
    by_bit false = c
