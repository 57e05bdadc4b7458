-- Each act of a condition variable's call is one that the thread may take, and leads to a place that fits.
use Rattle.std.proofs.Common.{◌++◌, Bool, List, None, Option, Some, ap, arith, false, if◌then◌else◌, inl, inr}
use Rattle.std.proofs.Common.{length, nat_lt, not, refl, subst, sym, true, ℕ, ◌%◌, ◌&&◌, ◌*◌, ◌+◌, ◌<◌, ◌==◌}
use Rattle.std.proofs.Common.{◌||◌, ◌∙◌, ◌∷◌, ◌≡◌, ◌≢◌, ◌⊎◌}
use Rattle.std.proofs.lemmas.Bool.{false≢true}
use Rattle.core_base.specs.declared.keys.Keys.TheVariants.{One, Two}
use Rattle.core_base.specs.declared.notes.Note.TheVariants.{Normal, HandOff}
use Rattle.core_base.specs.declared.ops.Op.{Op}
use Rattle.core_base.specs.declared.ops.Op.TheVariants.{Load, Store, Sub, Exchange, Or}
use Rattle.core_base.specs.declared.wants.Want.TheVariants as wants
use Rattle.steps_condvar.specs.declared.notify.NotifyAt.{NotifyAt}
use Rattle.spec_locks.specs.declared.outcomes.Answer.{Answer}
use Rattle.spec_locks.specs.declared.outcomes.Answer.TheVariants.{Ok}
use Rattle.steps_base.specs.declared.acts.Act.{Act}
use Rattle.steps_base.specs.declared.acts.Act.TheVariants as act
use Rattle.steps_base.specs.declared.acts.Next.{Next}
use Rattle.steps_base.specs.declared.acts.Next.TheVariants.{At, End}
use Rattle.steps_base.specs.declared.acts.Reply.{Reply}
use Rattle.steps_base.specs.declared.acts.Reply.TheVariants.{Done, Value, Parked, Took, Requeued, Removed}
use Rattle.steps_base.specs.declared.acts.Reply.TheVariants.{MovedTo, Late, Woken}
use Rattle.steps_condvar.specs.CondvarSteps.{condvar_act, first_lock, in_notify, in_wait, is_shown, marks}
use Rattle.steps_condvar.specs.CondvarSteps.{move_act, mutex_beside, notified, notify_act, released, relocked}
use Rattle.steps_condvar.specs.CondvarSteps.{wait_act}
use Rattle.steps_condvar.specs.CondvarSteps as condvar_steps_of
use Rattle.steps_condvar.specs.declared.notify.NotifyAt.TheVariants as notify
use Rattle.parking_lot_core.specs.declared.tokens.Did.{Did}
use Rattle.parking_lot_core.specs.declared.tokens.Did.TheVariants as did
use Rattle.core_base.specs.declared.requeues.Requeue.{Requeue}
use Rattle.core_base.specs.declared.wants.Waiter.{Waiter}
use Rattle.core_base.specs.Lines.{threads_of}
use Rattle.steps_base.specs.Acts.{wakes_taken}
use Rattle.steps_condvar.specs.declared.wait.WaiterFate.{WaiterFate}
use Rattle.steps_condvar.specs.declared.wait.WaiterFate.TheVariants as stands
use Rattle.steps_condvar.specs.declared.wait.WaitAt.{WaitAt}
use Rattle.steps_condvar.specs.declared.wait.WaitAt.TheVariants as wait
use Rattle.steps_condvar.specs.declared.places.CondvarPlace.{CondvarPlace}
use Rattle.steps_condvar.specs.declared.places.CondvarPlace.TheVariants.{Wait, Look, Notify}
use Rattle.steps_mutex.specs.MutexSteps.{in_lock, in_unlock, is_locked, is_parked, lock_act, mutex_act}
use Rattle.steps_mutex.specs.MutexSteps.{next_lock, next_unlock, still_retries, unlock_act}
use Rattle.steps_mutex.specs.declared.places.MutexPlace.{MutexPlace}
use Rattle.steps_mutex.specs.declared.places.MutexPlace.TheVariants.{Lock, Unlock}
use Rattle.steps_mutex.specs.declared.lock.Entry.TheVariants as entry
use Rattle.steps_mutex.specs.declared.lock.LockAt.{LockAt}
use Rattle.steps_mutex.specs.declared.lock.LockAt.TheVariants as lock
use Rattle.steps_mutex.specs.declared.unlock.UnlockAt.{UnlockAt}
use Rattle.steps_mutex.specs.declared.unlock.UnlockAt.TheVariants as unlock
use Rattle.lot_steps.specs.Steps.{condvar_does, condvar_goes, in_condvar, mutex_does, mutex_goes}
use Rattle.lot_steps.specs.declared.places.Place.{Place}
use Rattle.lot_steps.specs.declared.places.Place.TheVariants.{Mutex, Condvar}
use Rattle.core_words.specs.Codes.{exclusive}
use Rattle.core_words.specs.Steps.{CodesWith, MayStep, has, owns_after_step}
use Rattle.core_words.specs.Rights.{MayHand}
use Rattle.core_words.specs.Views.{owned, owning}
use Rattle.core_words.specs.declared.owners.Owner.{Owner}
use Rattle.core_words.specs.declared.owners.Owner.TheVariants.{Exclusive}
use Rattle.core_words.specs.declared.owners.Ownership.{Ownership}
use Rattle.core_words.specs.declared.words.WordKind.{WordKind}
use Rattle.core_words.specs.declared.words.WordKind.TheVariants as kind
use Rattle.core_words.proofs.MutexSteps.{each_code, mutex_steps}
use Rattle.core_words.proofs.TiedSteps.{condvar_steps}
use Rattle.core_words.proofs.Trades.{owned_some}
use Rattle.run_base.specs.CondvarFitting.{InBothSections, FitsCondvarCall, FitsNotify, FitsWait}
use Rattle.run_base.specs.CondvarFitting.{HasMovedInSection, IsNotifyOver, LateIf, OwnsIt, SawElse}
use Rattle.run_base.specs.CondvarFitting.{TellsNumber, apart, move_did}
use Rattle.run_base.specs.Fitting.{AreWordsBeside, Fits, LooksLeadOn, Reached, ReachedBy, call_purpose}
use Rattle.run_base.specs.Fitting.{answer_of, of_mutex, of_notify, of_wait, sleeper_at}
use Rattle.run_base.specs.MutexFitting.{FitsMutex, Outside, Within, to_enter, mutex_ownership, to_release}
use Rattle.run_base.specs.Paths.{at_mutex, condvar_at, mutex_at, mutexes, step}
use Rattle.run_base.specs.Stages.{ActNeeds, Awoke, Became, HasKey, SectionView, IsLeft, IsFresh, MayLeave}
use Rattle.run_base.specs.Stages.{ThreadState, Stepped, entered_now, having_taken, listed, with_moved}
use Rattle.run_base.specs.Stages.{note_of}
use Rattle.run_base.specs.Stages.{stage, took_as}
use Rattle.run_base.specs.declared.sleepers.Sleeper.{Sleeper}

-- tells what is known of a mutex's places
abbrev pub MutexPlacesLead : Type 0 → Type 0
MutexPlacesLead up = (n : ℕ) (base : List Ownership) (at : MutexPlace) (st : ThreadState)
    → FitsMutex up n base at st →
    ActNeeds mutexes (at_mutex n) st (mutex_act n at) × LooksLeadOn up base (Mutex n at) st
    × ((reply : Reply) (new : ThreadState) → Became up mutexes (at_mutex n) (sleeper_at (Mutex n at)) st
    (mutex_act n at) reply new → Reached up base (Mutex n at) reply new)

-- acts that step on the word of one lock alone
abbrev OnlyOn : ℕ → Act → Type 0
OnlyOn m (act.Word l op) = l ≡ m
OnlyOn m (act.HandOver l op) = ⊥
OnlyOn m (act.Park l key check how) = l ≡ m
OnlyOn m a = Unit {0}

only_lock : (m : ℕ) (at : LockAt) → OnlyOn m (lock_act m at)
only_lock m lock.First = refl
only_lock m lock.Load = refl
only_lock m (lock.Decide seen) = by_bits (not (is_locked seen)) (seen == 1)
  where
    by_bits : (b e : Bool) → OnlyOn m (if b then act.Word m (Exchange seen (seen + 1)) else if e
        then act.Word m (Exchange 1 3) else act.Enter (One (2 * m)))
    by_bits true e = refl
    by_bits false true = refl
    by_bits false false = tt
only_lock m lock.Check = refl
only_lock m (lock.Leave parked) = tt
only_lock m lock.Asleep = tt
only_lock m (lock.Taken by) = tt
only_lock m (lock.Handed by) = tt
only_lock m lock.Accept = tt
only_lock m lock.Remove = tt
only_lock m lock.Clear = refl
only_lock m lock.GiveUp = tt

only_unlock : (m : ℕ) (at : UnlockAt) → OnlyOn m (unlock_act m at)
only_unlock m unlock.Subtract = refl
only_unlock m unlock.Enter = tt
only_unlock m unlock.Take = tt
only_unlock m (unlock.Clear any) = refl
only_unlock m (unlock.Leave any) = tt

-- none of them ends a call
no_end : (m : ℕ) (at : LockAt) → answer_of (lock_act m at) ≡ None
no_end m lock.First = refl
no_end m lock.Load = refl
no_end m (lock.Decide seen) = by_bits (not (is_locked seen)) (seen == 1)
  where
    by_bits : (b e : Bool) → answer_of (if b then act.Word m (Exchange seen (seen + 1)) else if e
        then act.Word m (Exchange 1 3) else act.Enter (One (2 * m))) ≡ None
    by_bits true e = refl
    by_bits false true = refl
    by_bits false false = refl
no_end m lock.Check = refl
no_end m (lock.Leave parked) = refl
no_end m lock.Asleep = refl
no_end m (lock.Taken by) = refl
no_end m (lock.Handed by) = refl
no_end m lock.Accept = refl
no_end m lock.Remove = refl
no_end m lock.Clear = refl
no_end m lock.GiveUp = refl

module _ (up : Type 0) (c m : ℕ) (kinds : ℕ → WordKind) (at : ℕ → ℕ) (words : AreWordsBeside c (Some m) kinds
    at) where
  -- a step on the word of the condition variable
  may_here : (op : Op) (owns : List Ownership) → MayStep kind.Condvar (condvar_at c) op owns
      → MayStep (kinds c) (at c) op owns
  may_here op owns may = subst (λ (k : WordKind). MayStep k (at c) op owns) (sym words.1)
      (subst (λ (n : ℕ). MayStep kind.Condvar n op owns) (sym words.2) may)

  -- A step on the mutex's word may be taken.
  may_there : (op : Op) (owns : List Ownership) → MayStep kind.Mutex (mutex_at m) op owns
      → MayStep (kinds m) (at m) op owns
  may_there op owns may = subst (λ (k : WordKind). MayStep k (at m) op owns) (sym words.3)
      (subst (λ (n : ℕ). MayStep kind.Mutex n op owns) (sym words.4) may)

  stepped_there : (op : Op) (seen : ℕ) (st new : ThreadState) → Stepped (kinds m) (at m) op seen st new
      → Stepped kind.Mutex (mutex_at m) op seen st new
  stepped_there op seen st new b = subst (λ (n : ℕ). Stepped kind.Mutex n op seen st new) words.4
      (subst (λ (k : WordKind). Stepped k (at m) op seen st new) words.3 b)

  needs_there : (st : ThreadState) (a : Act) → OnlyOn m a → ActNeeds mutexes (at_mutex m) st a
      → ActNeeds kinds at st a
  needs_there st (act.Word l op) o n = subst (λ (l : ℕ). MayStep (kinds l) (at l) op st.owns)
      (sym o) (may_there op st.owns n)
  needs_there st (act.HandOver l op) o n = absurd o
  needs_there st (act.Park l key check how) o n =
      (subst (λ (l : ℕ). MayStep (kinds l) (at l) Load st.owns) (sym o) (may_there Load st.owns n.0), n.1)
  needs_there st (act.Enter keys) o n = n
  needs_there st (act.Stand key how) o n = n
  needs_there st (act.Take key who) o n = n
  needs_there st (act.Requeue from to how) o n = n
  needs_there st (act.Remove key) o n = n
  needs_there st (act.Leave keys wakes) o n = n
  needs_there st act.Sleep o n = n
  needs_there st act.Accept o n = n
  needs_there st (act.Closure state) o n = n
  needs_there st a o n = absurd n

  awoke_there : (sleeper : Sleeper) → sleeper.lock ≡ m → (st new : ThreadState) (reply : Reply)
      → Awoke up (kinds sleeper.lock) (at sleeper.lock) sleeper st reply new
      → Awoke up kind.Mutex (mutex_at m) sleeper st reply new
  awoke_there s is st new reply b = subst (λ (n : ℕ). Awoke up kind.Mutex n s st reply new) words.4
      (subst (λ (k : WordKind). Awoke up k (at m) s st reply new) words.3
      (subst (λ (l : ℕ). Awoke up (kinds l) (at l) s st reply new) is b))

  became_there : (sleeper : Sleeper) → sleeper.lock ≡ m → (st new : ThreadState) (a : Act) → OnlyOn m a
      → (reply : Reply) → Became up kinds at sleeper st a reply new → Became up mutexes (at_mutex m) sleeper
      st a reply new
  became_there s is st new (act.Word l op) o (Value seen) b = stepped_there op seen st new
      (subst (λ (l : ℕ). Stepped (kinds l) (at l) op seen st new) o b)
  became_there s is st new (act.Word l op) o reply b = absurd b
  became_there s is st new (act.HandOver l op) o reply b = absurd o
  became_there s is st new (act.Park l key check how) o (Parked parked) b = (
    b.0,
    b.1,
    stepped_there Load b.0 st new (subst (λ (l : ℕ). Stepped (kinds l) (at l) Load b.0 st new) o
        b.2),
  )
  became_there s is st new (act.Park l key check how) o reply b = absurd b
  became_there s is st new (act.Enter keys) o Done b = b
  became_there s is st new (act.Enter keys) o reply b = absurd b
  became_there s is st new (act.Stand key how) o Done b = b
  became_there s is st new (act.Stand key how) o reply b = absurd b
  became_there s is st new (act.Take key who) o reply b = b
  became_there s is st new (act.Requeue from to how) o (Requeued number none_left) b = b
  became_there s is st new (act.Requeue from to how) o reply b = absurd b
  became_there s is st new (act.Remove key) o (Removed none_left) b = b
  became_there s is st new (act.Remove key) o reply b = absurd b
  became_there s is st new (act.Leave keys wakes) o Done b = b
  became_there s is st new (act.Leave keys wakes) o reply b = absurd b
  became_there s is st new act.Sleep o reply b = awoke_there s is st new reply b
  became_there s is st new act.Accept o Done b = b
  became_there s is st new act.Accept o reply b = absurd b
  became_there s is st new a o reply b = absurd b

  module _ (base : List Ownership) (st new : ThreadState) where
    owns_of : (s : ThreadState) → new ≡ s → new.owns ≡ s.owns
    owns_of s e = ap (λ (x : ThreadState). x.owns) e

    inside_of : (s : ThreadState) → new ≡ s → new.inside ≡ s.inside
    inside_of s e = ap (λ (x : ThreadState). x.inside) e

    abbrev Has : List Ownership → Option SectionView → ThreadState → Type 0
    Has owns inside s = (s.owns ≡ owns) × (s.inside ≡ inside)

    stays : (owns : List Ownership) (inside : Option SectionView) (s : ThreadState) → new ≡ s → s.owns
        ≡ st.owns
        → s.inside ≡ st.inside → Has owns inside st → Has owns inside new
    stays owns inside s e o i f = (owns_of s e ∙ o ∙ f.0, inside_of s e ∙ i ∙ f.1)

    -- a step on the word of the condition variable changes no owner
    shows_on : (op : Op) (seen : ℕ) (owns : List Ownership) (inside : Option SectionView)
        → Stepped (kinds c) (at c) op seen st new → Has owns inside st → Has owns inside new
    shows_on op seen owns inside b f = let e = subst (λ (k : WordKind). Stepped k (at c) op seen st new)
        words.1 b in stays owns inside _ e.1 refl refl f

    -- a look that saw another mutex than this shown, or none
    saw_else : (seen : ℕ) → is_shown seen m ≡ false → Stepped (kinds c) (at c) Load seen st new
        → SawElse c m new.steps
    saw_else seen other b = let e = subst (λ (k : WordKind). Stepped k (at c) Load seen st new) words.1 b in (
      st.steps,
      seen,
      other,
      ap (λ (s : ThreadState). s.steps) e.1 ∙ ap (λ (n : ℕ). st.steps ++ step n Load seen)
          words.2,
    )

    -- the owner of a mutex finds it locked
    found_locked : (seen : ℕ) (owns : List Ownership) → CodesWith kind.Mutex (mutex_at m) seen owns
        → has (mutex_ownership m) owns ≡ true → seen % 2 ≡ 1
    found_locked seen owns code mine = let some : 0 < owned (mutex_at m) exclusive owns =
        owned_some (mutex_at m) Exclusive owns mine exclusive (omega arith)
        in omega (arith, code.1.2, code.2 exclusive, some)

    module _ (timed : Bool) (law : MutexPlacesLead up) where
      abbrev place : WaitAt → Place
      place w = Condvar c (Wait m timed w)

      abbrev Comes : Next WaitAt → Type 0
      Comes n = ReachedBy up base (of_wait c m timed) (condvar_goes c (in_wait m timed n))
          (answer_of (condvar_does c (in_wait m timed n))) new

      leaves_mutex : OwnsIt m base × Outside base st → MayStep kind.Mutex (mutex_at m) (Sub 1) st.owns
      leaves_mutex f = (mutex_steps (mutex_at m) st.owns).leave
          (subst (λ (o : List Ownership). has (mutex_ownership m) o ≡ true) (sym f.1.0) f.0)

      wait_needs : (w : WaitAt) → FitsWait up c m timed base w st → ActNeeds kinds at st (wait_act c m w)
      wait_needs wait.Enter f = (tt, f.1.1)
      wait_needs wait.Show f = may_here (Exchange 0 (m + 1)) st.owns
          ((condvar_steps (condvar_at c) st.owns).show m (λ e. words.0 (omega (arith, e)))
          (subst (λ (o : List Ownership). has (mutex_ownership m) o ≡ true) (sym f.1.0) f.0))
      wait_needs wait.Stand f = subst (HasKey (2 * c)) (sym f.1.1) refl
      wait_needs wait.Leave f = subst (MayLeave Normal) (sym f.1.1) refl
      wait_needs wait.Refuse f = subst (MayLeave Normal) (sym f.1.1) refl
      wait_needs (wait.Release stands.Listed (Unlock unlock.Subtract)) f =
          needs_there st (unlock_act m unlock.Subtract) refl (leaves_mutex f)
      wait_needs (wait.Release stands.Listed (Unlock unlock.Enter)) f =
          needs_there st (unlock_act m unlock.Enter) tt (law m (apart m base) (Unlock unlock.Enter) st f).0
      wait_needs (wait.Release stands.Listed (Unlock unlock.Take)) f =
          needs_there st (unlock_act m unlock.Take) tt (law m (apart m base) (Unlock unlock.Take) st f).0
      wait_needs (wait.Release stands.Listed (Unlock (unlock.Clear any))) f =
          needs_there st (unlock_act m (unlock.Clear any)) refl
          (law m (apart m base) (Unlock (unlock.Clear any)) st f).0
      wait_needs (wait.Release stands.Listed (Unlock (unlock.Leave any))) f =
          needs_there st (unlock_act m (unlock.Leave any)) tt
          (law m (apart m base) (Unlock (unlock.Leave any)) st f).0
      wait_needs (wait.Release s p) f = absurd f
      wait_needs (wait.Asleep stands.Listed) f = f.1
      wait_needs (wait.Asleep stands.Moved) f = f.1
      wait_needs (wait.Asleep s) f = absurd f
      wait_needs wait.Remove f = subst (HasKey (2 * c)) (sym f.1.1) refl
      wait_needs wait.Hide f = may_here (Store 0) st.owns (condvar_steps (condvar_at c) st.owns).hide
      wait_needs wait.GiveUp f = subst (MayLeave Normal) (sym f.1.1) refl
      wait_needs wait.RemoveMoved f = subst (HasKey (2 * m)) (sym f.1) refl
      wait_needs (wait.GiveUpMoved none_left) f = subst (MayLeave Normal) (sym f.1) refl
      wait_needs (wait.Lock timed_out (Lock entry.Lock retries l)) f = needs_there st (lock_act m l)
          (only_lock m l) (law m (apart m base) (Lock entry.Lock retries l) st f.1).0
      wait_needs (wait.Lock timed_out p) f = absurd f.1

      -- a release goes on, or the thread sleeps
      abbrev ReleaseComes : Next UnlockAt → Type 0
      ReleaseComes n = ReachedBy up (apart m base) (of_mutex m to_release) (mutex_goes m (in_unlock n))
          (answer_of (mutex_does m (in_unlock n))) new → Comes (At (released stands.Listed (in_unlock n)))

      release_comes : (n : Next UnlockAt) → ReleaseComes n
      release_comes (At unlock.Subtract) h = absurd h.0
      release_comes (At unlock.Enter) h = (h.0, refl)
      release_comes (At unlock.Take) h = (h.0, refl)
      release_comes (At (unlock.Clear any)) h = (h.0, refl)
      release_comes (At (unlock.Leave any)) h = (h.0, refl)
      release_comes (End answer) h = ((h.1.0, h.1.1), refl)

      -- the thread locks its mutex again, or has it
      abbrev RelockComes : Bool → Bool → Next LockAt → Type 0
      RelockComes timed_out retries n = ReachedBy up (apart m base) (of_mutex m (to_enter entry.Lock))
          (mutex_goes m (in_lock entry.Lock retries n))
          (answer_of (mutex_does m (in_lock entry.Lock retries n))) new
          → Comes (relocked timed timed_out (in_lock entry.Lock retries n))

      relock_comes : (timed_out retries : Bool) (n : Next LockAt) → LateIf up timed timed_out
          → RelockComes timed_out retries n
      relock_comes timed_out retries (At l) late h = let none = no_end m l in
          let there = subst (λ (o : Option Answer). ReachedBy up (apart m base)
          (of_mutex m (to_enter entry.Lock)) (Mutex m (Lock entry.Lock retries l)) o new) none h in
          subst (λ (o : Option Answer). ReachedBy up base (of_wait c m timed)
          (Condvar c (Wait m timed (wait.Lock timed_out (Lock entry.Lock retries l)))) o new) (sym none)
          ((late, there.0), refl)
      relock_comes timed_out retries (End answer) late (inl h) = inr (timed_out, refl, late, h.1)
      relock_comes timed_out retries (End answer) late (inr h) = absurd (false≢true h.1.0)

      abbrev Leads : WaitAt → Type 0
      Leads w = (reply : Reply) → Became up kinds at (sleeper_at (place w)) st (wait_act c m w) reply new
          → Reached up base (place w) reply new

      -- the mutex as it goes on by itself
      by_mutex : (p : MutexPlace) → FitsMutex up m (apart m base) p st → OnlyOn m (mutex_act m p)
          → (reply : Reply) → Became up kinds at (sleeper_at (Mutex m p)) st (mutex_act m p) reply new
          → Reached up (apart m base) (Mutex m p) reply new
      by_mutex p f o reply b = (law m (apart m base) p st f).2 reply new
          (became_there (sleeper_at (Mutex m p)) refl st new (mutex_act m p) o reply b)

      -- the subtraction of the thread leaves it without the mutex, and it goes on by whether somebody waits
      -- for that
      subtracts : OwnsIt m base × Outside base st
          → Leads (wait.Release stands.Listed (Unlock unlock.Subtract))
      subtracts f (Value seen) b = by_bit (is_parked seen)
        where
          s : Stepped kind.Mutex (mutex_at m) (Sub 1) seen st new
          s = stepped_there (Sub 1) seen st new b

          mine : has (mutex_ownership m) st.owns ≡ true
          mine = subst (λ (o : List Ownership). has (mutex_ownership m) o ≡ true) (sym f.1.0) f.0

          left : new.owns ≡ apart m st.owns
          left = owns_of _ s.1 ∙ each_code (λ n. n % 2 ≡ 1 → owns_after_step kind.Mutex (mutex_at m) (Sub 1) n
              st.owns ≡ apart m st.owns)
              (λ odd. absurd (omega arith)) (λ odd. refl) (λ odd. absurd (omega arith)) (λ odd. refl) seen
              s.0.1.0 (found_locked seen st.owns s.0 mine)

          outside : Outside (apart m base) new
          outside = (left ∙ ap (apart m) f.1.0, inside_of _ s.1 ∙ f.1.1)

          by_bit : (b : Bool) → Comes (At
              (released stands.Listed (in_unlock (if b then At unlock.Enter else End Ok))))
          by_bit true = (outside, refl)
          by_bit false = (outside, refl)
      subtracts f reply b = absurd b

      -- a thread that sleeps is told of its mutex, or of its time
      asleep_on : (s : WaiterFate) → Outside (apart m base) st → (retries : Bool) → (new.owns ≡ st.owns)
          × (new.inside ≡ None) → FitsWait up c m timed base (wait.Lock false (first_lock retries)) new
      asleep_on s f retries b = (tt, (b.0 ∙ f.0, b.1))

      handed_over : Outside (apart m base) st → (owner : Owner) → owner ≡ Exclusive
          → new ≡ stage (owning (at m) owner ∷ st.owns) st.inside st.last st.steps
          → Outside (mutex_ownership m ∷ apart m base) new
      handed_over f owner is e = (
        owns_of _ e ∙ ap (λ (o : Owner). owning (at m) o ∷ st.owns) is
            ∙ ap (λ (n : ℕ). owning n Exclusive ∷ st.owns) words.4
            ∙ ap (λ (o : List Ownership). mutex_ownership m ∷ o) f.0,
        inside_of _ e ∙ f.1,
      )

      nobody : {key : ℕ} → None ≡ Some key → ⊥
      nobody e = cc

      late_in : (n key : ℕ) → Some n ≡ Some key → Outside (apart m base) st
          → new ≡ stage st.owns (entered_now (One key)) st.last st.steps → (new.owns ≡ apart m base)
          × (new.inside ≡ entered_now (One n))
      late_in n key e f x = let k : key ≡ n = cc in (
        owns_of _ x ∙ f.0,
        inside_of _ x
            ∙ ap (λ (k : ℕ). entered_now (One k)) k,
      )

      is_exclusive : (k : WordKind) → k ≡ kind.Mutex → (owner : Owner) → MayHand k wants.Exclusive owner
          → owner ≡ Exclusive
      is_exclusive k is owner h = subst (λ (k : WordKind). MayHand k wants.Exclusive owner) is h

      wait_leads : (w : WaitAt) → FitsWait up c m timed base w st → Leads w
      wait_leads wait.Enter f Done b = ((f.0, (owns_of _ b ∙ f.1.0, inside_of _ b)), refl)
      wait_leads wait.Show f (Value seen) b = by_bit ((seen == 0) || is_shown seen m)
        where
          kept : Within c base new
          kept = shows_on (Exchange 0 (m + 1)) seen base _ b f.1

          by_bit : (b : Bool) → Comes (if b then At wait.Stand else At wait.Refuse)
          by_bit true = ((f.0, kept), refl)
          by_bit false = ((f.0, kept), refl)
      wait_leads wait.Stand f Done b = ((f.0, stays base _ _ b refl refl f.1), refl)
      wait_leads wait.Leave f Done b = ((f.0, (b.0 ∙ f.1.0, b.1)), refl)
      wait_leads wait.Refuse f Done b = inl (refl, f.0, (b.0 ∙ f.1.0, b.1))
      wait_leads (wait.Release stands.Listed (Unlock unlock.Subtract)) f reply b = subtracts f reply b
      wait_leads (wait.Release stands.Listed (Unlock unlock.Enter)) f Done b =
          release_comes (next_unlock unlock.Enter Done) (by_mutex (Unlock unlock.Enter) f tt Done b)
      wait_leads (wait.Release stands.Listed (Unlock unlock.Take)) f (Took any left) b =
          release_comes (next_unlock unlock.Take (Took any left)) (by_mutex (Unlock unlock.Take) f tt
          (Took any left) b)
      wait_leads (wait.Release stands.Listed (Unlock (unlock.Clear any))) f (Value seen) b =
          release_comes (next_unlock (unlock.Clear any) (Value seen)) (by_mutex (Unlock (unlock.Clear any)) f
          refl (Value seen) b)
      wait_leads (wait.Release stands.Listed (Unlock (unlock.Leave any))) f Done b =
          release_comes (next_unlock (unlock.Leave any) Done) (by_mutex (Unlock (unlock.Leave any)) f tt Done
          b)
      wait_leads (wait.Release stands.Listed (Unlock unlock.Take)) f reply b = absurd b.0
      wait_leads (wait.Release stands.Listed (Unlock u)) f reply b = absurd b
      wait_leads (wait.Release s p) f reply b = absurd f
      wait_leads (wait.Asleep stands.Listed) f (Woken Normal) b = (asleep_on stands.Listed f true b, refl)
      wait_leads (wait.Asleep stands.Listed) f (Woken HandOff) b =
          ((tt, handed_over f b.0 (is_exclusive (kinds m) words.3 b.0 b.1) b.2), refl)
      wait_leads (wait.Asleep stands.Listed) f Late b = late_here timed b
        where
          late_here : (t : Bool) → Became up kinds at
              (sleeper_at (Condvar c (Wait m t (wait.Asleep stands.Listed)))) st act.Sleep Late
              new → ReachedBy up base (of_wait c m t) (Condvar c (Wait m t wait.Remove)) None new
          late_here true b = (((refl, b.2), late_in (2 * c) b.0 b.1.0 f b.1.1), refl)
          late_here false b = absurd (nobody b.1.0)
      wait_leads (wait.Asleep stands.Listed) f (MovedTo key) b = ((b.0.2 ∙ f.0, b.0.3), refl)
      wait_leads (wait.Asleep stands.Moved) f (Woken Normal) b = (asleep_on stands.Moved f true b, refl)
      wait_leads (wait.Asleep stands.Moved) f (Woken HandOff) b =
          ((tt, handed_over f b.0 (is_exclusive (kinds m) words.3 b.0 b.1) b.2), refl)
      wait_leads (wait.Asleep stands.Moved) f Late b = late_there timed b
        where
          late_there : (t : Bool) → Became up kinds at
              (sleeper_at (Condvar c (Wait m t (wait.Asleep stands.Moved)))) st act.Sleep Late new
              → ReachedBy up base (of_wait c m t) (Condvar c (Wait m t wait.RemoveMoved)) None new
          late_there true b = (late_in (2 * m) b.0 b.1.0 f b.1.1, refl)
          late_there false b = absurd (nobody b.1.0)
      wait_leads (wait.Asleep stands.Moved) f (MovedTo key) b = ((b.0.2 ∙ f.0, b.0.3), refl)
      wait_leads (wait.Asleep stands.Listed) f reply b = absurd b
      wait_leads (wait.Asleep stands.Moved) f reply b = absurd b
      wait_leads (wait.Asleep s) f reply b = absurd f
      wait_leads wait.Remove f (Removed none_left) b = by_bit none_left
        where
          kept : Within c (apart m base) new
          kept = stays (apart m base) _ _ b refl refl f.1

          by_bit : (b : Bool) → Comes (if b then At wait.Hide else At wait.GiveUp)
          by_bit true = ((f.0, kept), refl)
          by_bit false = ((f.0, kept), refl)
      wait_leads wait.Hide f (Value seen) b = ((f.0, shows_on (Store 0) seen (apart m base) _ b f.1), refl)
      wait_leads wait.GiveUp f Done b = ((f.0, (b.0 ∙ f.1.0, b.1)), refl)
      wait_leads wait.RemoveMoved f (Removed none_left) b = (stays (apart m base) _ _ b refl refl f, refl)
      wait_leads (wait.GiveUpMoved none_left) f Done b = ((tt, (b.0 ∙ f.0, b.1)), refl)
      wait_leads (wait.Lock timed_out (Lock entry.Lock retries l)) f reply b =
          relock_comes timed_out (still_retries retries reply) (next_lock entry.Lock l reply) f.0
          (by_mutex (Lock entry.Lock retries l) f.1 (only_lock m l) reply b)
      wait_leads (wait.Lock timed_out p) f reply b = absurd f.1
      wait_leads w f reply b = absurd b

      -- where it looks at its mutex once more, it has what it had
      wait_looks : (w : WaitAt) → FitsWait up c m timed base w st → LooksLeadOn up base (place w) st
      wait_looks (wait.Lock timed_out (Lock entry.Lock retries (lock.Decide expected))) f q is = by_mark _ is
        where
          by_mark : (b : Bool) → in_condvar c (condvar_steps_of.in_lock m timed timed_out (if b
              then Some (Lock entry.Lock retries lock.Load) else None)) ≡ Some q → Fits up base q st
              × (call_purpose q ≡ of_wait c m timed)
          by_mark true is = let there : place (wait.Lock timed_out (Lock entry.Lock retries lock.Load)) ≡ q =
              cc in subst (λ r. Fits up base r st × (call_purpose r ≡ of_wait c m timed)) there (
                (f.0, f.1.1),
                refl,
              )
          by_mark false is = absurd cc
      wait_looks (wait.Lock timed_out (Lock entry.LockTimed retries l)) f q is = absurd f.1
      wait_looks (wait.Lock timed_out (Lock entry.Bump retries l)) f q is = absurd f.1
      wait_looks w f q is = absurd cc

    module _ (all : Bool) where
      abbrev there : NotifyAt → Place
      there n = Condvar c (Notify all m n)

      abbrev Notes : Next NotifyAt → Type 0
      Notes n = ReachedBy up base (of_notify c m all) (condvar_goes c (in_notify all m n))
          (answer_of (condvar_does c (in_notify all m n))) new

      apart_keys : 2 * c ≢ 2 * m
      apart_keys e = words.0 (omega (arith, e))

      -- a step on the word of the mutex that changes no owner
      marks_on : (op : Op) (seen : ℕ) → ((n : ℕ) → n < 4 → owns_after_step kind.Mutex (mutex_at m) op n
          st.owns ≡ st.owns) → Stepped (kinds m) (at m) op seen st new → InBothSections c m base st
          → (seen < 4) × InBothSections c m base new
      marks_on op seen same b f = let s = stepped_there op seen st new b
          in (s.0.1.0, (owns_of _ s.1 ∙ same seen s.0.1.0 ∙ f.0, inside_of _ s.1 ∙ f.1))

      loads : (n : ℕ) → n < 4 → owns_after_step kind.Mutex (mutex_at m) Load n st.owns ≡ st.owns
      loads = each_code (λ n. owns_after_step kind.Mutex (mutex_at m) Load n st.owns ≡ st.owns) refl refl refl
          refl

      sets_1 : (n : ℕ) → n < 4 → owns_after_step kind.Mutex (mutex_at m) (Exchange 1 3) n st.owns ≡ st.owns
      sets_1 = each_code (λ n. owns_after_step kind.Mutex (mutex_at m) (Exchange 1 3) n st.owns ≡ st.owns)
          refl refl refl refl

      sets_3 : (n : ℕ) → n < 4 → owns_after_step kind.Mutex (mutex_at m) (Exchange 3 3) n st.owns ≡ st.owns
      sets_3 = each_code (λ n. owns_after_step kind.Mutex (mutex_at m) (Exchange 3 3) n st.owns ≡ st.owns)
          refl refl refl refl

      bit_pending : (s : ℕ) → (s ≡ 1) ⊎ (s ≡ 3) → (n : ℕ) → n < 4 → owns_after_step kind.Mutex (mutex_at m)
          (Exchange s 3) n st.owns ≡ st.owns
      bit_pending s (inl e) n h = subst (λ (s : ℕ). owns_after_step kind.Mutex (mutex_at m) (Exchange s 3) n st.owns
          ≡ st.owns) (sym e) (sets_1 n h)
      bit_pending s (inr e) n h = subst (λ (s : ℕ). owns_after_step kind.Mutex (mutex_at m) (Exchange s 3) n st.owns
          ≡ st.owns) (sym e) (sets_3 n h)

      sets_bit : (n : ℕ) → n < 4 → owns_after_step kind.Mutex (mutex_at m) (Or 2) n st.owns ≡ st.owns
      sets_bit = each_code (λ n. owns_after_step kind.Mutex (mutex_at m) (Or 2) n st.owns ≡ st.owns) refl refl
          refl refl

      -- by the word of the mutex it goes on
      marked : (seen : ℕ) → seen < 4 → InBothSections c m base new → Notes (At (marks seen))
      marked = each_code (λ n. InBothSections c m base new → Notes (At (marks n))) (λ f. by_all all f)
          (λ f. ((inl refl, f), refl)) (λ f. by_all all f) (λ f. ((inr refl, f), refl))
        where
          by_all : (a : Bool) → InBothSections c m base new → ReachedBy up base (of_notify c m a)
              (Condvar c (Notify a m (notify.Move false))) (answer_of (move_act a false c m)) new
          by_all true f = (f, refl)
          by_all false f = (f, refl)

      move_needs : (a locked : Bool) → InBothSections c m base st
          → ActNeeds kinds at st (move_act a locked c m)
      move_needs true locked f = (
        subst (HasKey (2 * c)) (sym f.1) (inl refl),
        subst (HasKey (2 * m)) (sym f.1) (inr refl),
        apart_keys,
        subst IsFresh (sym f.1) refl,
      )
      move_needs false true f = (
        subst (HasKey (2 * c)) (sym f.1) (inl refl),
        subst (HasKey (2 * m)) (sym f.1) (inr refl),
        apart_keys,
        subst IsFresh (sym f.1) refl,
      )
      move_needs false false f = (subst (HasKey (2 * c)) (sym f.1) (inl refl), subst IsFresh (sym f.1) refl)

      leave_needs : (any : Bool) (number : ℕ) → FitsNotify c m all base (notify.Leave any number) st
          → MayLeave (note_of (wakes_taken any Normal)) st.inside
      leave_needs true number (inl f) = subst (MayLeave Normal) (sym f.1.1) refl
      leave_needs false number (inl f) = subst (MayLeave Normal) (sym f.1.1) refl
      leave_needs true number (inr f) = subst (MayLeave Normal) (sym f.4) refl
      leave_needs false number (inr f) = subst (MayLeave Normal) (sym f.4) refl

      notify_needs : (n : NotifyAt) → FitsNotify c m all base n st
          → ActNeeds kinds at st (notify_act all c m n)
      notify_needs notify.Enter f = (apart_keys, f.1)
      notify_needs notify.Again f = may_here Load st.owns (condvar_steps (condvar_at c) st.owns).load
      notify_needs notify.Hide f = may_here (Store 0) st.owns (condvar_steps (condvar_at c) st.owns).hide
      notify_needs notify.Mark f = may_there Load st.owns (mutex_steps (mutex_at m) st.owns).load
      notify_needs (notify.Set seen) f = may_there (Exchange seen 3) st.owns
          ((mutex_steps (mutex_at m) st.owns).mark seen f.0)
      notify_needs (notify.Move locked) f = move_needs all locked f
      notify_needs (notify.Clear any) f =
          may_here (Store 0) st.owns (condvar_steps (condvar_at c) st.owns).hide
      notify_needs (notify.MarkMoved number) f =
          may_there (Or 2) st.owns (mutex_steps (mutex_at m) st.owns).mark_any
      notify_needs (notify.Leave any number) f = leave_needs any number f

      -- the thread has moved waiters, and took one of them or none
      moved_so : (a : Bool) (number : ℕ) (locked : Bool) (waiters : List Waiter) (moved : ℕ) → new.owns ≡ base
          → new.inside ≡ Some (record (having_taken (Two (2 * c) (2 * m)) (move_did a locked c m) waiters
          (threads_of waiters)) { moved = moved })
          → TellsNumber a number (length (threads_of waiters) + moved) → HasMovedInSection c m a number base
          new
      moved_so a number locked waiters moved o i t = (o, locked, waiters, moved, i, t)

      listed_number : (first : Option Waiter) → length (threads_of (listed first)) ≡ length (listed first)
      listed_number None = refl
      listed_number (Some w) = refl

      keeps_moved : (number : ℕ) → HasMovedInSection c m all number base st → new.owns ≡ st.owns
          → new.inside ≡ st.inside → HasMovedInSection c m all number base new
      keeps_moved number f o i = (o ∙ f.0, f.1, f.2, f.3, i ∙ f.4, f.5)

      -- where all were moved, or the first
      after_all : (locked : Bool) (number : ℕ) → HasMovedInSection c m true number base new → (b : Bool)
          → ReachedBy up base (of_notify c m true)
          (Condvar c (Notify true m (if b then notify.MarkMoved number else notify.Leave (not locked)
          number))) (answer_of (notify_act true c m (if b then notify.MarkMoved number else notify.Leave
          (not locked) number))) new
      after_all locked number h true = (h, refl)
      after_all locked number h false = (inr h, refl)

      after_one : (any : Bool) → HasMovedInSection c m false 1 base new → (b : Bool)
          → ReachedBy up base (of_notify c m false)
          (Condvar c (Notify false m (if b then notify.Clear any else notify.Leave any 1)))
          (answer_of (notify_act false c m (if b then notify.Clear any else notify.Leave any 1))) new
      after_one any h true = ((refl, h), refl)
      after_one any h false = (inr h, refl)

      requeues : (a locked : Bool) (from to : ℕ) (how : Requeue) (number : ℕ) (left : Bool)
          → did.Requeue from to how ≡ move_did a locked c m → InBothSections c m base st
          → Became up kinds at (sleeper_at (Condvar c (Notify a m (notify.Move locked)))) st
          (act.Requeue from to how) (Requeued number left) new → (t : ℕ)
          → TellsNumber a t number → HasMovedInSection c m a t base new
      requeues a locked from to how number left same f b t tells = moved_so a t locked (listed b.0) b.1
          (owns_of _ b.3 ∙ f.0)
          (inside_of _ b.3 ∙ ap (λ (i : Option SectionView). with_moved b.1
          (took_as (did.Requeue from to how) (listed b.0) i)) f.1
          ∙ ap (λ (d : Did). Some (record (having_taken (Two (2 * c) (2 * m)) d (listed b.0)
          (threads_of (listed b.0))) { moved = b.1 })) same)
          (by_kind a tells)
        where
          sum : number ≡ length (threads_of (listed b.0)) + b.1
          sum = b.2 ∙ ap (λ (k : ℕ). k + b.1) (sym (listed_number b.0))

          by_kind : (a : Bool) → TellsNumber a t number → TellsNumber a t (length (threads_of (listed b.0))
              + b.1)
          by_kind true e = e ∙ sum
          by_kind false e = e

      move_leads : (a locked : Bool) → InBothSections c m base st → (reply : Reply)
          → Became up kinds at (sleeper_at (Condvar c (Notify a m (notify.Move locked)))) st
          (move_act a locked c m) reply new → Reached up base (Condvar c (Notify a m (notify.Move locked)))
          reply new
      move_leads true true f (Requeued number left) b = after_all true number
          (requeues true true _ _ _ number left refl f b number refl) (not true && nat_lt 1 number)
      move_leads true false f (Requeued number left) b =
          after_all false number (requeues true false _ _ _ number left refl f b number refl)
          (not false && nat_lt 1 number)
      move_leads false true f (Requeued number left) b =
          after_one false (requeues false true _ _ _ number left refl f b 1 refl) left
      move_leads false false f (Took any left) b =
          after_one any (moved_so false 1 false (listed b.0.0) 0 (b.1 ∙ f.0) (b.0.2
          ∙ ap (took_as (did.TakeFirst (2 * c)) (listed b.0.0)) f.1) refl) left
      move_leads true true f reply b = absurd b
      move_leads true false f reply b = absurd b
      move_leads false true f reply b = absurd b
      move_leads false false f reply b = absurd b.0

      leave_leads : (a any : Bool) (number : ℕ) → FitsNotify c m a base (notify.Leave any number) st
          → (new.owns ≡ st.owns) × (new.inside ≡ None) × IsLeft st.inside new.last × (new.steps ≡ st.steps)
          → IsNotifyOver c m a base (notified a number) new
      leave_leads a any number (inl f) b = (
        (b.0 ∙ f.1.0, b.1),
        inl (
          ap (notified a) f.0,
          subst (λ (i : Option SectionView). IsLeft i new.last)
              f.1.1 b.2,
          subst (SawElse c m) (sym b.3) f.2,
        ),
      )
      leave_leads true any number (inr f) b = (
        (b.0 ∙ f.0, b.1),
        inr (
          f.1,
          number,
          refl,
          subst (λ (i : Option SectionView). IsLeft i new.last) f.4 b.2 ∙ ap (λ (k : ℕ). Some (record {
            key = 2 * c;
            did = move_did true f.1 c m;
            number = k;
          })) (sym f.5),
        ),
      )
      leave_leads false any number (inr f) b = (
        (b.0 ∙ f.0, b.1),
        inr (
          f.1,
          length (threads_of f.2) + f.3,
          ap (notified false) f.5,
          subst (λ (i : Option SectionView). IsLeft i new.last) f.4 b.2,
        ),
      )

      again : (b e : Bool) → (b ≡ true → SawElse c m new.steps) → InBothSections c m base new
          → ReachedBy up base (of_notify c m all)
          (Condvar c (Notify all m (if b then notify.Leave false 0 else if e then notify.Hide
          else notify.Mark))) (answer_of (notify_act all c m (if b then notify.Leave false 0 else if e
          then notify.Hide else notify.Mark))) new
      again true e saw f = (inl (refl, f, saw refl), refl)
      again false true saw f = (f, refl)
      again false false saw f = (f, refl)

      hidden : (b : Bool) → not b ≡ true → b ≡ false
      hidden true e = absurd (false≢true e)
      hidden false e = refl

      notify_leads : (n : NotifyAt) → FitsNotify c m all base n st → (reply : Reply)
          → Became up kinds at (sleeper_at (there n)) st (notify_act all c m n) reply new
          → Reached up base (there n) reply new
      notify_leads notify.Enter f Done b = ((owns_of _ b ∙ f.0, inside_of _ b), refl)
      notify_leads notify.Again f (Value seen) b = again (not (is_shown seen m)) all
          (λ e. saw_else seen (hidden (is_shown seen m) e) b) (shows_on Load seen base _ b f)
      notify_leads notify.Hide f (Value seen) b = (shows_on (Store 0) seen base _ b f, refl)
      notify_leads notify.Mark f (Value seen) b = let k = marks_on Load seen loads b f in marked seen k.0 k.1
      notify_leads (notify.Set expected) f (Value seen) b = by_bit (seen == expected)
        where
          k : (seen < 4) × InBothSections c m base new
          k = marks_on (Exchange expected 3) seen (bit_pending expected f.0) b f.1

          all_moves : (a : Bool) → ReachedBy up base (of_notify c m a)
              (Condvar c (Notify a m (notify.Move true))) (answer_of (move_act a true c m)) new
          all_moves true = (k.1, refl)
          all_moves false = (k.1, refl)

          by_bit : (b : Bool) → Notes (if b then At (notify.Move true) else At (marks seen))
          by_bit true = all_moves all
          by_bit false = marked seen k.0 k.1
      notify_leads (notify.Move locked) f reply b = move_leads all locked f reply b
      notify_leads (notify.Clear any) f (Value seen) b = let e =
          subst (λ (k : WordKind). Stepped k (at c) (Store 0) seen st new) words.1 b in (
            inr (subst (λ (a : Bool). HasMovedInSection c m all 1 base new) f.0
                (keeps_moved 1 f.1 (owns_of _ e.1) (inside_of _ e.1))),
            refl,
          )
      notify_leads (notify.MarkMoved number) f (Value seen) b = let s = stepped_there (Or 2) seen st new b
          in (inr (keeps_moved number f (owns_of _ s.1 ∙ sets_bit seen s.0.1.0) (inside_of _ s.1)), refl)
      notify_leads (notify.Leave any number) f Done b = leave_leads all any number f b
      notify_leads n f reply b = absurd b

-- each place of a condition variable's call leads on
pub condvar_place_leads : (up : Type 0) → MutexPlacesLead up → (l : ℕ) (kinds : ℕ → WordKind) (at : ℕ → ℕ)
    (base : List Ownership) (p : CondvarPlace) (st : ThreadState) → AreWordsBeside l (mutex_beside p) kinds at
    → FitsCondvarCall up l base p st →
    ActNeeds kinds at st (condvar_act l p) × LooksLeadOn up base (Condvar l p) st
    × ((reply : Reply) (new : ThreadState)
    → Became up kinds at (sleeper_at (Condvar l p)) st (condvar_act l p)
    reply new → Reached up base (Condvar l p) reply new)
condvar_place_leads up law l kinds at base (Wait m timed w) st words f = (
  wait_needs up l m kinds at words base st st timed law w f,
  wait_looks up l m kinds at words base st st
      timed law w f,
  λ reply new. wait_leads up l m kinds at words base st new timed law w f reply,
)
condvar_place_leads up law l kinds at base (Look all) st words f = absurd f
condvar_place_leads up law l kinds at base (Notify all m n) st words f = (
  notify_needs up l m kinds at words base st st all n f,
  (λ q is. absurd cc),
  λ reply new. notify_leads up
      l m kinds at words base st new all n f reply,
)
