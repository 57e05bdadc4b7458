-- Each act of a mutex's call is one that the thread may take, and leads to a place that fits.
use Rattle.std.proofs.Common.{ℕ, ◌≡◌, ◌<◌, ◌*◌, Bool, true, false, List, ◌∷◌, Option, Some, None}
use Rattle.std.proofs.Common.{if◌then◌else◌, inl, inr, sym, refl, ap, ◌∙◌, subst, arith}
use Rattle.core_base.specs.declared.keys.Keys.{Keys}
use Rattle.core_base.specs.declared.keys.Keys.TheVariants.{One}
use Rattle.core_base.specs.declared.notes.Note.TheVariants.{Normal, HandOff}
use Rattle.core_base.specs.declared.ops.Op.{Op}
use Rattle.core_base.specs.declared.ops.Op.TheVariants.{Load, And, Exchange}
use Rattle.steps_mutex.specs.MutexSteps.{mutex_act, mutex_respin, lock_act, unlock_act, decided}
use Rattle.steps_rwlock_fair.specs.FairProfiles.{call_respin}
use Rattle.steps_rwlock_fair.specs.FairSteps.{call_act}
use Rattle.steps_rwlock_fair.specs.declared.places.RwLockCallPlace.{RwLockCallPlace}
use Rattle.steps_condvar.specs.CondvarSteps as condvar_steps
use Rattle.steps_condvar.specs.declared.places.CondvarPlace.TheVariants.{Wait}
use Rattle.steps_condvar.specs.declared.wait.WaitAt.TheVariants as waiting
use Rattle.steps_once.specs.OnceSteps.{once_act, once_respin}
use Rattle.steps_once.specs.declared.places.OncePlace.{OncePlace}
use Rattle.lot_steps.specs.Steps.{late_key, in_condvar, in_mutex, in_rwlock, in_once, in_semaphore}
use Rattle.steps_base.specs.declared.acts.Act.{Act}
use Rattle.steps_base.specs.declared.acts.Act.TheVariants as act
use Rattle.steps_base.specs.declared.acts.Reply.{Reply}
use Rattle.steps_base.specs.declared.acts.Reply.TheVariants.{Done, Value, Parked, Took, Removed, MovedTo}
use Rattle.steps_base.specs.declared.acts.Reply.TheVariants.{Late, Woken}
use Rattle.steps_mutex.specs.declared.places.MutexPlace.{MutexPlace}
use Rattle.steps_mutex.specs.declared.places.MutexPlace.TheVariants as at_mutex_place
use Rattle.steps_mutex.specs.declared.lock.Entry.{Entry}
use Rattle.steps_mutex.specs.declared.lock.Entry.TheVariants as entry
use Rattle.steps_mutex.specs.declared.lock.LockAt.{LockAt}
use Rattle.steps_mutex.specs.declared.lock.LockAt.TheVariants as lock
use Rattle.steps_mutex.specs.declared.unlock.UnlockAt.{UnlockAt}
use Rattle.steps_mutex.specs.declared.unlock.UnlockAt.TheVariants as unlock
use Rattle.lot_steps.specs.declared.places.Place.{Place}
use Rattle.lot_steps.specs.declared.places.Place.TheVariants.{Idle, Mutex, RwLock, Once, Condvar, Semaphore}
use Rattle.core_words.specs.Steps.{owns_after_step}
use Rattle.core_words.specs.Views.{owning}
use Rattle.core_words.specs.declared.owners.Owner.{Owner}
use Rattle.core_words.specs.declared.owners.Ownership.{Ownership}
use Rattle.core_words.specs.declared.words.WordKind.{WordKind}
use Rattle.core_words.specs.declared.words.WordKind.TheVariants as kinds
use Rattle.core_words.proofs.MutexSteps.{mutex_steps, each_code}
use Rattle.parking_lot_core.specs.declared.tokens.Did.TheVariants.{TakeFirst}
use Rattle.run_base.specs.Fitting.{AreWordsFor, Fits, PlacesLead, LooksLeadOn, Reached, call_purpose}
use Rattle.run_base.specs.Fitting.{sleeper_at}
use Rattle.run_base.specs.MutexFitting.{FitsLock, FitsUnlock, FitsMutex, Within, Outside, beside}
use Rattle.run_base.specs.MutexFitting.{mutex_ownership}
use Rattle.run_base.specs.Paths.{GoesFrom, mutex_at, mutexes, at_mutex, rwlocks, at_rwlock, onces, at_once}
use Rattle.run_base.specs.Paths.{semaphores, at_semaphore}
use Rattle.run_base.specs.declared.sleepers.Sleeper.{Sleeper}
use Rattle.run_base.specs.Stages.{ThreadState, SectionView, ActNeeds, Became, HasKey, IsFresh, MayLeave}
use Rattle.run_base.specs.Stages.{IsLeft}
use Rattle.run_base.specs.Stages.{took_as, listed, entered_now, stage, stepped}
use Rattle.run_base.proofs.HandingOver.{hand_off_needs, hand_off_leads}
use Rattle.run_base.proofs.CondvarLeading.{condvar_place_leads}
use Rattle.run_base.proofs.Leaving.{has_done}
use Rattle.run_base.proofs.OnceLeading.{once_place_leads}
use Rattle.run_base.proofs.RwLockLeading.{rwlock_place_leads}
use Rattle.run_base.proofs.SemaphoreLeading.{semaphore_place_leads}
use Rattle.steps_semaphore.specs.SemaphoreSteps.{semaphore_act, semaphore_respin}
use Rattle.steps_semaphore.specs.declared.places.SemaphorePlace.{SemaphorePlace}

-- a reply to an operation on the word, which saw one of the four codes
pub word_reply : (up : Type 0) (n : ℕ) (st new : ThreadState) (P : Reply → Type 0) (sleeper : Sleeper) (l : ℕ)
    (op : Op) → ((seen : ℕ) → seen < 4 → new ≡ stepped kinds.Mutex (mutex_at n) op seen st
    → P (Value seen)) → (reply : Reply) → Became up mutexes (at_mutex n) sleeper st
    (act.Word l op) reply new → P reply
word_reply up n st new P sleeper l op h (Value seen) b = h seen b.0.1.0 b.1
word_reply up n st new P sleeper l op h reply b = absurd b

module _ (up : Type 0) (n : ℕ) (base : List Ownership) (st : ThreadState) where
  abbrev Can : Act → Type 0
  Can = ActNeeds mutexes (at_mutex n) st

  decide_needs : (seen : ℕ) (owns : List Ownership) → seen < 4 → Outside owns st → Can (decided n seen)
  decide_needs seen owns = each_code (λ s. Outside owns st → Can (decided n s))
      (λ f. (mutex_steps (mutex_at n) st.owns).enter 0 (omega arith) refl)
      (λ f. (mutex_steps (mutex_at n) st.owns).set_parked)
      (λ f. (mutex_steps (mutex_at n) st.owns).enter 2 (omega arith) refl) (λ f. (tt, f.1)) seen

  -- a load, and a step that clears the parked bit, change no owner
  abbrev IsQuiet : Op → ℕ → Type 0
  IsQuiet op seen = owns_after_step kinds.Mutex (mutex_at n) op seen st.owns ≡ st.owns

  load_quiet : (seen : ℕ) → seen < 4 → IsQuiet Load seen
  load_quiet = each_code (IsQuiet Load) refl refl refl refl

  clear_quiet : (seen : ℕ) → seen < 4 → IsQuiet (And 18446744073709551613) seen
  clear_quiet = each_code (IsQuiet (And 18446744073709551613)) refl refl refl refl

  -- a section in which nobody was taken is left
  leaves : (owns : List Ownership) → Within n owns st → MayLeave Normal st.inside
  leaves owns f = subst (MayLeave Normal) (sym f.1) refl

  lock_needs : (e : Entry) (at : LockAt) → FitsLock up n e (beside n e base) at st → Can (lock_act n at)
  lock_needs e lock.First f = (mutex_steps (mutex_at n) st.owns).enter 0 (omega arith) refl
  lock_needs e lock.Load f = (mutex_steps (mutex_at n) st.owns).load
  lock_needs e (lock.Decide seen) f = decide_needs seen (beside n e base) f.0 f.1
  lock_needs e lock.Check f = (
    (mutex_steps (mutex_at n) st.owns).load,
    subst (HasKey (2 * n)) (sym f.1) refl,
  )
  lock_needs e (lock.Leave parked) f = leaves (beside n e base) f
  lock_needs e lock.Asleep f = f.1
  lock_needs e lock.Accept f = tt
  lock_needs e lock.Remove f = subst (HasKey (2 * n)) (sym f.1.1) refl
  lock_needs e lock.Clear f = (mutex_steps (mutex_at n) st.owns).clear_parked
  lock_needs e lock.GiveUp f = leaves (beside n e base) f.1
  lock_needs e (lock.Taken by) f = absurd f
  lock_needs e (lock.Handed by) f = absurd f

  unlock_needs : (at : UnlockAt) → FitsUnlock n base at st → Can (unlock_act n at)
  unlock_needs unlock.Subtract f = absurd f
  unlock_needs unlock.Enter f = (tt, f.1)
  unlock_needs unlock.Take f = (
    subst (HasKey (2 * n)) (sym f.1) refl,
    subst IsFresh (sym f.1) refl,
  )
  unlock_needs (unlock.Clear any) f = (mutex_steps (mutex_at n) st.owns).clear_parked
  unlock_needs (unlock.Leave false) f = subst (MayLeave Normal) (sym f.2.1) refl
  unlock_needs (unlock.Leave true) f = subst (MayLeave Normal) (sym f.2.1) refl

  -- the needs of the place's act are there
  pub needs : (at : MutexPlace) → FitsMutex up n base at st → Can (mutex_act n at)
  needs (at_mutex_place.Lock e retries at) f = lock_needs e at f
  needs (at_mutex_place.Unlock at) f = unlock_needs at f
  needs (at_mutex_place.HandOff bumps at) f = hand_off_needs n base st at f
  needs at f = absurd f

  module _ (new : ThreadState) where
    owns_of : (s : ThreadState) → new ≡ s → new.owns ≡ s.owns
    owns_of s e = ap (λ (x : ThreadState). x.owns) e

    inside_of : (s : ThreadState) → new ≡ s → new.inside ≡ s.inside
    inside_of s e = ap (λ (x : ThreadState). x.inside) e

    -- the thread is where it was, after a step on the word that changes no owner
    stays : (owns : List Ownership) (inside : Option SectionView) (s : ThreadState) → new ≡ s → s.owns
        ≡ st.owns
        → s.inside ≡ st.inside → (st.owns ≡ owns) × (st.inside ≡ inside) → (new.owns ≡ owns)
        × (new.inside ≡ inside)
    stays owns inside s e o i f = (owns_of s e ∙ o ∙ f.0, inside_of s e ∙ i ∙ f.1)

    module _ (e : Entry) (retries : Bool) where
      abbrev place : LockAt → Place
      place at = Mutex n (at_mutex_place.Lock e retries at)

      abbrev rest : List Ownership
      rest = beside n e base

      -- by the value that an operation saw
      abbrev Saw : LockAt → Op → ℕ → Type 0
      Saw at op seen = new ≡ stepped kinds.Mutex (mutex_at n) op seen st
          → Reached up base (place at) (Value seen) new

      outside_still : Outside rest st → (s : ThreadState) → new ≡ s → s.owns ≡ st.owns → s.inside ≡ st.inside
          → Outside rest new
      outside_still f s x o i = stays rest None s x o i f

      has_it : Outside rest st → (s : ThreadState) → new ≡ s → s.owns ≡ mutex_ownership n ∷ st.owns
          → s.inside ≡ st.inside → Outside (mutex_ownership n ∷ rest) new
      has_it f s x o i = (
        owns_of s x ∙ o ∙ ap (λ (o : List Ownership). mutex_ownership n ∷ o) f.0,
        inside_of s x ∙ i ∙ f.1,
      )

      from_first : Outside rest st → (seen : ℕ) → seen < 4 → Saw lock.First (Exchange 0 1) seen
      from_first f = each_code (Saw lock.First (Exchange 0 1))
          (λ x. inl (refl, has_it f _ x refl refl)) (λ x. (outside_still f _ x refl refl, refl))
          (λ x. (outside_still f _ x refl refl, refl)) (λ x. (outside_still f _ x refl refl, refl))

      from_load : Outside rest st → (seen : ℕ) → seen < 4 → Saw lock.Load Load seen
      from_load f = each_code (Saw lock.Load Load)
          (λ x. ((omega arith, outside_still f _ x refl refl), refl))
          (λ x. ((omega arith, outside_still f _ x refl refl), refl))
          (λ x. ((omega arith, outside_still f _ x refl refl), refl))
          (λ x. ((omega arith, outside_still f _ x refl refl), refl))

      gives_up : (e : Entry) (owns : List Ownership) → Outside owns st → (key : ℕ)
          → late_key (Mutex n (at_mutex_place.Lock e retries lock.Asleep)) ≡ Some key → up
          → new ≡ stage st.owns (entered_now (One key)) st.last st.steps → FitsLock up n e owns
          lock.Remove new
      gives_up entry.LockTimed owns f key can over x = let k : key ≡ 2 * n = cc
          in ((refl, over), (owns_of _ x ∙ f.0, inside_of _ x ∙ ap (λ (k : ℕ). entered_now (One k)) k))
      gives_up entry.Lock owns f key can over x = absurd cc
      gives_up entry.Bump owns f key can over x = absurd cc

      saw_parked : Outside rest st → (seen : ℕ) → seen < 4 → Saw (lock.Decide 1) (Exchange 1 3)
          seen
      saw_parked f = each_code (Saw (lock.Decide 1) (Exchange 1 3))
          (λ x. ((omega arith, outside_still f _ x refl refl), refl))
          (λ x. ((omega arith, outside_still f _ x refl refl), refl))
          (λ x. ((omega arith, outside_still f _ x refl refl), refl))
          (λ x. ((omega arith, outside_still f _ x refl refl), refl))

      enters_0 : Outside rest st → (seen : ℕ) → seen < 4 → Saw (lock.Decide 0) (Exchange 0 1) seen
      enters_0 f = each_code (Saw (lock.Decide 0) (Exchange 0 1))
          (λ x. inl (refl, has_it f _ x refl refl)) (λ x. (
            (omega arith, outside_still f _ x refl refl),
            refl,
          ))
          (λ x. ((omega arith, outside_still f _ x refl refl), refl))
          (λ x. ((omega arith, outside_still f _ x refl refl), refl))

      enters_2 : Outside rest st → (seen : ℕ) → seen < 4 → Saw (lock.Decide 2) (Exchange 2 3) seen
      enters_2 f = each_code (Saw (lock.Decide 2) (Exchange 2 3))
          (λ x. ((omega arith, outside_still f _ x refl refl), refl))
          (λ x. ((omega arith, outside_still f _ x refl refl), refl))
          (λ x. inl (refl, has_it f _ x refl refl)) (λ x. (
            (omega arith, outside_still f _ x refl refl),
            refl,
          ))

      nobody_moves : {key : ℕ} → None ≡ Some key → ⊥
      nobody_moves e = cc

      checks : Within n rest st → (seen : ℕ) → seen < 4 → new ≡ stepped kinds.Mutex (mutex_at n)
          Load seen st → Within n rest new
      checks f seen small x = stays rest _ _ x (load_quiet seen small) refl f

      enter_reply : (P : Reply → Type 0) (keys : Keys)
          → (new ≡ stage st.owns (entered_now keys) st.last st.steps → P Done) → (reply : Reply)
          → Became up mutexes (at_mutex n) (sleeper_at (place lock.First)) st
          (act.Enter keys) reply new → P reply
      enter_reply P keys h Done b = h b
      enter_reply P keys h reply b = absurd b

      decides : (seen : ℕ) → seen < 4 → Outside rest st → (reply : Reply) → Became up mutexes (at_mutex n)
          (sleeper_at (place lock.First)) st (decided n seen) reply new
          → Reached up base (place (lock.Decide seen)) reply new
      decides = each_code (λ s. Outside rest st → (reply : Reply) → Became up mutexes (at_mutex n)
          (sleeper_at (place lock.First)) st (decided n s) reply new
          → Reached up base (place (lock.Decide s)) reply new)
          (λ f. word_reply up n st new (λ r. Reached up base (place (lock.Decide 0)) r new)
          (sleeper_at (place lock.First)) n (Exchange 0 1) (enters_0 f))
          (λ f. word_reply up n st new (λ r. Reached up base (place (lock.Decide 1)) r new)
          (sleeper_at (place lock.First)) n (Exchange 1 3) (saw_parked f))
          (λ f. word_reply up n st new (λ r. Reached up base (place (lock.Decide 2)) r new)
          (sleeper_at (place lock.First)) n (Exchange 2 3) (enters_2 f))
          (λ f. enter_reply (λ r. Reached up base (place (lock.Decide 3)) r new) (One (2 * n))
          (λ x. ((owns_of _ x ∙ f.0, inside_of _ x), refl)))

      lock_leads : (at : LockAt) → FitsLock up n e rest at st → (reply : Reply)
          → Became up mutexes (at_mutex n) (sleeper_at (place at)) st (lock_act n at) reply new
          → Reached up base (place at) reply new
      lock_leads lock.First f (Value seen) b = from_first f seen b.0.1.0 b.1
      lock_leads lock.Load f (Value seen) b = from_load f seen b.0.1.0 b.1
      lock_leads (lock.Decide seen) f reply b = decides seen f.0 f.1 reply b
      lock_leads lock.Check f (Parked parked) b = let w = checks f b.0 b.2.0.1.0 b.2.1
          in (w, refl)
      lock_leads (lock.Leave true) f Done b = ((b.0 ∙ f.0, b.1), refl)
      lock_leads (lock.Leave false) f Done b = ((b.0 ∙ f.0, b.1), refl)
      lock_leads lock.Asleep f (Woken Normal) b = ((b.0 ∙ f.0, b.1), refl)
      lock_leads lock.Asleep f (Woken HandOff) b = (
        has_it f _ (b.2 ∙ ap (λ (o : Owner). stage (owning (mutex_at n) o ∷ st.owns) st.inside st.last
            st.steps) b.1) refl refl,
        refl,
      )
      lock_leads lock.Asleep f Late b = (gives_up e rest f b.0 b.1.0 b.2 b.1.1, refl)
      lock_leads lock.Asleep f (MovedTo key) b = absurd (nobody_moves b.0.1)
      lock_leads lock.Remove f (Removed true) b = ((f.0, stays rest _ _ b refl refl f.1), refl)
      lock_leads lock.Remove f (Removed false) b = ((f.0, stays rest _ _ b refl refl f.1), refl)
      lock_leads lock.Clear f (Value seen) b =
          ((f.0, stays rest _ _ b.1 (clear_quiet seen b.0.1.0) refl f.1), refl)
      lock_leads lock.GiveUp f Done b = inr (
        refl,
        f.0,
        (b.0 ∙ f.1.0, b.1),
        subst (λ (i : Option SectionView). IsLeft i new.last) f.1.1 b.2,
      )
      lock_leads lock.Accept f Done b = inl (refl, (owns_of _ b ∙ f.0, inside_of _ b ∙ f.1))
      lock_leads (lock.Taken by) f reply b = absurd f
      lock_leads (lock.Handed by) f reply b = absurd f
      lock_leads at f reply b = absurd b

    -- a release after its subtraction
    unlock_leads : (at : UnlockAt) → FitsUnlock n base at st → (reply : Reply)
        → Became up mutexes (at_mutex n) (sleeper_at (Mutex n (at_mutex_place.Unlock at))) st
        (unlock_act n at) reply new → Reached up base (Mutex n (at_mutex_place.Unlock at)) reply new
    unlock_leads unlock.Subtract f reply b = absurd f
    unlock_leads unlock.Enter f Done b = ((owns_of _ b ∙ f.0, inside_of _ b), refl)
    unlock_leads unlock.Take f (Took any true) b =
        ((b.0.0, b.0.1, (b.1 ∙ f.0, b.0.2 ∙ ap (took_as (TakeFirst (2 * n)) (listed b.0.0)) f.1)), refl)
    unlock_leads unlock.Take f (Took any false) b =
        ((b.0.0, b.0.1, (b.1 ∙ f.0, b.0.2 ∙ ap (took_as (TakeFirst (2 * n)) (listed b.0.0)) f.1)), refl)
    unlock_leads (unlock.Clear any) f (Value seen) b =
        ((f.0, f.1, stays base _ _ b.1 (clear_quiet seen b.0.1.0) refl f.2), refl)
    unlock_leads (unlock.Leave any) f Done b =
        (refl, (b.0 ∙ f.2.0, b.1), has_done _ _ _ f.2.1 b.2)
    unlock_leads unlock.Take f reply b = absurd b.0
    unlock_leads at f reply b = absurd b

    leads : (at : MutexPlace) → FitsMutex up n base at st → (reply : Reply)
        → Became up mutexes (at_mutex n) (sleeper_at (Mutex n at)) st (mutex_act n at) reply new
        → Reached up base (Mutex n at) reply new
    leads (at_mutex_place.Lock e retries at) f = lock_leads e retries at f
    leads (at_mutex_place.Unlock at) f = unlock_leads at f
    leads (at_mutex_place.HandOff bumps at) f = hand_off_leads n base st up new bumps at f
    leads at f = absurd f

  -- where it looks at the word once more, it has what it had
  looks : (at : MutexPlace) → FitsMutex up n base at st → LooksLeadOn up base (Mutex n at) st
  looks (at_mutex_place.Lock e retries (lock.Decide expected)) f q is = by_mark _ is
    where
      by_mark : (b : Bool) → in_mutex n (if b then Some (at_mutex_place.Lock e retries lock.Load)
          else None) ≡ Some q → Fits up base q st
          × (call_purpose q ≡ call_purpose
          (Mutex n (at_mutex_place.Lock e retries (lock.Decide expected))))
      by_mark true is = let there : Mutex n (at_mutex_place.Lock e retries lock.Load) ≡ q = cc
          in subst (λ r. Fits up base r st
          × (call_purpose r ≡ call_purpose
          (Mutex n (at_mutex_place.Lock e retries (lock.Decide expected))))) there (f.1, refl)
      by_mark false is = absurd cc
  looks at f q is = absurd cc

-- the words of a call of a mutex are that one alone
mutex_place_leads : (up : Type 0) (n : ℕ) (base : List Ownership) (at : MutexPlace) (st : ThreadState)
    → FitsMutex up n base at st →
    ActNeeds mutexes (at_mutex n) st (mutex_act n at) × LooksLeadOn up base (Mutex n at) st
    × ((reply : Reply) (new : ThreadState) → Became up mutexes (at_mutex n) (sleeper_at (Mutex n at)) st
    (mutex_act n at) reply new → Reached up base (Mutex n at) reply new)
mutex_place_leads up n base at st f = (
  needs up n base st at f,
  looks up n base st at f,
  λ reply new. leads up
      n base st new at f reply,
)

both_words : (kinds : ℕ → WordKind) (at : ℕ → ℕ) (kinds2 : ℕ → WordKind) (at2 : ℕ → ℕ) → kinds ≡ kinds2
    → at ≡ at2 → ◌≡◌ {A = (ℕ → WordKind) × (ℕ → ℕ)} (kinds, at) (kinds2, at2)
both_words kinds at kinds2 at2 a b = ap (λ (k : ℕ → WordKind). (k, at)) a ∙ ap (λ (w : ℕ → ℕ). (kinds2, w)) b

pub places_lead : (up : Type 0) → PlacesLead up
places_lead up kinds at base Idle st words f = absurd f
places_lead up kinds at base (RwLock n a c) st words f =
    subst (λ (k : (ℕ → WordKind) × (ℕ → ℕ)). ActNeeds k.0 k.1 st (call_act n a c)
    × LooksLeadOn up base (RwLock n a c) st
    × ((reply : Reply) (new : ThreadState)
    → Became up k.0 k.1 (sleeper_at (RwLock n a c)) st (call_act n a c) reply
    new → Reached up base (RwLock n a c) reply new))
    (sym (both_words kinds at rwlocks (at_rwlock n) words.1 words.2)) (rwlock_place_leads up n a base c st f)
places_lead up kinds at base (Once n p) st words f =
    subst (λ (k : (ℕ → WordKind) × (ℕ → ℕ)). ActNeeds k.0 k.1 st (once_act n p)
    × LooksLeadOn up base (Once n p) st
    × ((reply : Reply) (new : ThreadState)
    → Became up k.0 k.1 (sleeper_at (Once n p)) st (once_act n p) reply new
    → Reached up base (Once n p) reply new))
    (sym (both_words kinds at onces (at_once n) words.1 words.2)) (once_place_leads up n base p st f)
places_lead up kinds at base (Mutex n p) st words f =
    subst (λ (k : (ℕ → WordKind) × (ℕ → ℕ)). ActNeeds k.0 k.1 st (mutex_act n p)
    × LooksLeadOn up base (Mutex n p) st
    × ((reply : Reply) (new : ThreadState)
    → Became up k.0 k.1 (sleeper_at (Mutex n p)) st (mutex_act n p) reply new
    → Reached up base (Mutex n p) reply new))
    (sym (both_words kinds at mutexes (at_mutex n) words.1 words.2)) (mutex_place_leads up n base p st f)
places_lead up kinds at base (Semaphore n p) st words f =
    subst (λ (k : (ℕ → WordKind) × (ℕ → ℕ)). ActNeeds k.0 k.1 st (semaphore_act n p)
    × LooksLeadOn up base (Semaphore n p) st
    × ((reply : Reply) (new : ThreadState)
    → Became up k.0 k.1 (sleeper_at (Semaphore n p)) st (semaphore_act n p)
    reply new → Reached up base (Semaphore n p) reply new))
    (sym (both_words kinds at (semaphores words.1.0) (at_semaphore n) words.1.1 words.2))
    (semaphore_place_leads up words.1.0 n base p st f)
places_lead up kinds at base (Condvar n p) st words f = condvar_place_leads up (mutex_place_leads up) n kinds
    at base p st words.1 f

-- where a call goes on from, it has what it had
pub fits_from : (up : Type 0) (kinds : ℕ → WordKind) (at : ℕ → ℕ) (base : List Ownership) (p q : Place)
    (st : ThreadState) → GoesFrom p q → AreWordsFor p kinds at → Fits up base p st → Fits up base q st
    × (call_purpose q ≡ call_purpose p)
fits_from up kinds at base p q st (inl same) words fits =
    subst (λ r. Fits up base r st × (call_purpose r ≡ call_purpose p)) (sym same) (fits, refl)
fits_from up kinds at base p q st (inr is) words fits = (places_lead up kinds at base p st words fits).1 q is

pub words_from : (kinds : ℕ → WordKind) (at : ℕ → ℕ) (p q : Place) → GoesFrom p q → AreWordsFor p kinds at
    → AreWordsFor q kinds at
words_from kinds at p q (inl same) words = subst (λ r. AreWordsFor r kinds at) (sym same) words
words_from kinds at Idle q (inr is) words = absurd cc
words_from kinds at (RwLock l a p) q (inr is) words = by_place (call_respin a p) is
  where
    by_place : (o : Option RwLockCallPlace) → in_rwlock l a o ≡ Some q → AreWordsFor q kinds at
    by_place None e = absurd cc
    by_place (Some p2) e = let there : RwLock l a p2 ≡ q = cc in subst (λ r. AreWordsFor r kinds at) there
        words
words_from kinds at (Once l p) q (inr is) words = by_place (once_respin p) is
  where
    by_place : (o : Option OncePlace) → in_once l o ≡ Some q → AreWordsFor q kinds at
    by_place None e = absurd cc
    by_place (Some p2) e = let there : Once l p2 ≡ q = cc in subst (λ r. AreWordsFor r kinds at) there words
words_from kinds at (Mutex l p) q (inr is) words = by_place (mutex_respin p) is
  where
    by_place : (o : Option MutexPlace) → in_mutex l o ≡ Some q → AreWordsFor q kinds at
    by_place None e = absurd cc
    by_place (Some p2) e = let there : Mutex l p2 ≡ q = cc in subst (λ r. AreWordsFor r kinds at) there words
words_from kinds at (Condvar l (Wait m timed (waiting.Lock timed_out p))) q (inr is) words =
    by_place (mutex_respin p) is
  where
    by_place : (o : Option MutexPlace) → in_condvar l (condvar_steps.in_lock m timed timed_out o) ≡ Some q
        → AreWordsFor q kinds at
    by_place None e = absurd cc
    by_place (Some p2) e = let there : Condvar l (Wait m timed (waiting.Lock timed_out p2)) ≡ q = cc
        in subst (λ r. AreWordsFor r kinds at) there words
words_from kinds at (Condvar l p) q (inr is) words = absurd cc
words_from kinds at (Semaphore l p) q (inr is) words = by_place (semaphore_respin p) is
  where
    by_place : (o : Option SemaphorePlace) → in_semaphore l o ≡ Some q → AreWordsFor q kinds at
    by_place None e = absurd cc
    by_place (Some p2) e = let there : Semaphore l p2 ≡ q = cc in subst (λ r. AreWordsFor r kinds at) there
        words
