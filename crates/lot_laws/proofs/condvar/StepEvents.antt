-- A step in a call of a condition variable is one event of one of its two locks, or a move of waiters
-- between them. Its call is made of that event, and comes to what the next place says.
use Rattle.lot_laws.proofs.Imports
use Imports.{ℕ, Bool, false, Option, Some, None, if◌then◌else◌, ◌≡◌, ◌≢◌, ◌⊎◌, List, [], ◌∷◌, append-nil, inl}
use Imports.{inr, refl, sym, ◌∙◌, ap, subst, cases_eq, Outcome, Next, Reply, CondvarPlace, Wait, Look, Notify}
use Imports.{WaitAt, MayComeOfTwo, case_at_condvar, heard, wait_event, wait_deeds, condvar_profile, mutex_side}
use Imports.{wait_carries, condvar_act, mutex_beside, waiter_deeds, Condvar, condvar_does, condvar_goes}
use Imports.{rights_where, outcome_of, CondvarDeed, moved_of, AreOneCase, EventNeeds, after_event, case_of}
use Imports.{event_by, Start, WasMoved, HandOff, OfOnce, Wake, HasTakenNobody, LockCase, LockState, AnswerHolds}
use Imports.{AtLock, Begins, LocksState, is_among, is_closure, is_taken_by, CallState, Event, GoesOn, MayHappen}
use Imports.{MayMove, Moves, Nothing, going_on, woken, Deed, Site, deeds_lead, deeds_need, State, kind_at}
use Imports.{place_at, acts, call_at, call_on_both, call_state, lock_state, locks_of, taken_at, ActsNeeded}
use Imports.{FollowAll, IsInductive, after_acts, rules_in, site_of}
use Rattle.spec_locks.specs.declared.outcomes.Outcome.TheVariants as outcome
use Rattle.steps_base.specs.declared.acts.Next.TheVariants as next
use Rattle.steps_condvar.specs.CondvarCalls as calls
use Rattle.steps_condvar.specs.CondvarCalls.{or_else}
use Rattle.spec_locks.specs.Condvars as condvars
use Rattle.lot_laws.specs.ThreadDeeds.{Act}
use Rattle.lot_laws.proofs.calls.CallEvents.{CallLed, GoesAs, IsEvent, RunsNothing, never_starts}
use Rattle.lot_laws.proofs.calls.CallEvents.{OthersFollow}
use Rattle.lot_laws.proofs.calls.CallEvents.{deeds_by, goes_with, happens_at, may_do, needed_then, rights}
use Rattle.lot_laws.proofs.calls.Closures.{closure_told, condvar_runs_none}
use Rattle.lot_laws.proofs.condvar.MutexUntouched.{there_deeds}

-- ---------------------------------------------------------------- an event of one of two locks

module _ (w v : State) (t c m : ℕ) (apart : m ≢ c) (before : IsInductive w) (after : IsInductive v)
    (kinds : (k : ℕ) → kind_at v k ≡ kind_at w k)
    (others : (k : ℕ) → k ≢ c → k ≢ m → lock_state v k ≡ lock_state w k) where
  abbrev pub Led : ℕ → Option LockCase → Type 0
  Led l x = (lock_state v l ≡ after_event (rules_in w l) (event_by l x) (lock_state w l) t)
      × EventNeeds (rules_in w l) (event_by l x) (lock_state w l) t

  -- nothing happens to the one, or to the other
  pub happens_two : (x y : Option LockCase) → Led m x → Led c y → (x ≡ None) ⊎ (y ≡ None)
      → IsEvent w v t (or_else (event_by m x) (event_by c y))
  happens_two (Some a) (Some b) at_m at_c one = absurd (elim one [ inl e ↦ cc | inr e ↦ cc ])
  happens_two (Some a) None at_m at_c one = happens_at w v t m (Some a) before after kinds at_m.0
      (λ k ne. elim (cases_eq k c) [
        | inl e ↦ subst (λ j. lock_state v j ≡ lock_state w j) (sym e) at_c.0
        | inr nc ↦ others k nc ne
      ]) at_m.1
  happens_two None y at_m at_c one = happens_at w v t c y before after kinds at_c.0
      (λ k ne. elim (cases_eq k m) [
        | inl e ↦ subst (λ j. lock_state v j ≡ lock_state w j) (sym e) at_m.0
        | inr nm ↦ others k ne nm
      ]) at_c.1

-- the deeds of a condition variable are that case of it
there_case : (ds : List CondvarDeed) → case_of None (there_deeds ds) ≡ case_at_condvar ds
there_case [] = refl
there_case (condvars.Show m ∷ ds) = refl
there_case (condvars.HideAndTakeAll ∷ ds) = refl
there_case (condvars.ShowNone ∷ ds) = refl
there_case (condvars.StandLast ∷ ds) = refl
there_case (condvars.LeaveList ∷ ds) = refl
there_case (condvars.GoIn ∷ ds) = refl
there_case (condvars.GoOut ∷ ds) = refl
there_case (condvars.MoveFirst ∷ ds) = refl
there_case (condvars.MoveAll ∷ ds) = refl
there_case (d ∷ ds) = refl

-- ---------------------------------------------------------------- a step of both locks

module _ (w v : State) (t c m : ℕ) (apart : m ≢ c) (before : IsInductive w) (after : IsInductive v) (all : ℕ
    → List Act)
    (f : FollowAll w v all) (elsewhere : (k : ℕ) → k ≢ c → k ≢ m → all k ≡ []) where
  pub locks_led : (k : ℕ) (ds : List Act) → all k ≡ ds → lock_state v k
      ≡ (after_acts (rules_in w k) ds (site_of w k)).lock
  locks_led k ds is = ap (λ (s : Site). s.lock) (f.site k)
      ∙ ap (λ done. (after_acts (rules_in w k) done (site_of w k)).lock) is

  pub others : (k : ℕ) → k ≢ c → k ≢ m → lock_state v k ≡ lock_state w k
  others k nc nm = locks_led k [] (elsewhere k nc nm)

  pub led_by : (l : ℕ) (hand : Option Bool) (ds : List Deed) → all l ≡ acts t ds → AreOneCase ds
      → (hand ≢ Some false → HasTakenNobody (lock_state w l) t)
      → Led w v t c m apart before after f.kinds others l (case_of hand ds)
  led_by l hand ds is one free = (
    locks_led l (acts t ds) is ∙ deeds_by (rules_in w l) t ds (site_of w l)
        ∙ deeds_lead (rules_in w l) t l hand ds (site_of w l) free one,
    deeds_need (rules_in w l) t l hand ds (site_of w l) (needed_then (rules_in w l) t ds [] (site_of w l)
        (subst (λ done. ActsNeeded (rules_in w l) done (site_of w l)) (is ∙ sym (append-nil (acts t ds)))
        (f.needed l))) one,
  )

  -- tells what happens in a step of a wait
  pub wait_happens : (p : WaitAt) (whom : Option ℕ) (told : Reply) → all c
      ≡ acts t (there_deeds (wait_deeds m p told))
      → all m ≡ acts t (waiter_deeds p whom told)
      → AreOneCase (there_deeds (wait_deeds m p told)) → AreOneCase (waiter_deeds p whom told)
      → HasTakenNobody (lock_state w c) t
      → (wait_carries p ≢ Some false → HasTakenNobody (lock_state w m) t)
      → (case_of (wait_carries p) (waiter_deeds p whom told) ≡ None)
      ⊎ (case_at_condvar (wait_deeds m p told) ≡ None)
      → IsEvent w v t (wait_event c m p whom told)
  wait_happens p whom told at_c at_m one_c one_m free_c free_m alone = happens_two w v t c m apart before
      after f.kinds others (case_of (wait_carries p) (waiter_deeds p whom told))
      (case_at_condvar (wait_deeds m p told))
      (led_by m (wait_carries p) (waiter_deeds p whom told) at_m one_m free_m)
      (subst (Led w v t c m apart before after f.kinds others c) (there_case (wait_deeds m p told))
      (led_by c None (there_deeds (wait_deeds m p told)) at_c one_c (λ h. free_c)))
      alone

-- ---------------------------------------------------------------- the call of the thread

-- the next place is one of a call that names the same mutex
abbrev pub NamesStill : ℕ → Next CondvarPlace → Type 0
NamesStill m (next.At q) = mutex_beside q ≡ Some m
NamesStill m (next.End answer) = Unit {0}

-- the thread is told of its next act, and stands somewhere if it is told to sleep; or of its answer
abbrev pub ToldSo : State → ℕ → Next CondvarPlace → Outcome → Type 0
ToldSo v t (next.At q) o = (l : ℕ) × GoesAs v t l o
ToldSo v t (next.End answer) o = o ≡ outcome.End answer

-- the thread's call is that of its place at both locks
pub call_named : (w : State) (t l m : ℕ) (p : CondvarPlace) → place_at w t ≡ Condvar l p → mutex_beside p
    ≡ Some m
    → call_at w t ≡ calls.condvar_call_by l m p (rights w t)
call_named w t l m p is names = ap (λ q. call_state q (rights w t)) is
    ∙ ap (λ o. call_on_both o (Some l) (condvar_profile p) (mutex_side p) (rights w t)) names

module _ (w v : State) (t l m : ℕ) (p : CondvarPlace) (call_is : call_at w t ≡ calls.condvar_call_by l m p
    (rights w t)) (told : Reply)
    (e : Event) (h : IsEvent w v t e) (shown : Option ℕ) (s2 : LockState) where
  abbrev call : CallState
  call = calls.condvar_call_by l m p (rights w t)

  pub call_then : (q : CondvarPlace) → place_at v t ≡ Condvar l q → mutex_beside q ≡ Some m
      → call_state (place_at v t) (rights v t) ≡ calls.condvar_call_by l m q (rights v t)
  call_then q there named = ap (λ x. call_state x (rights v t)) there
      ∙ ap (λ o. call_on_both o (Some l) (condvar_profile q) (mutex_side q) (rights v t)) named

  -- tells what it is made of
  pub may_go : MayComeOfTwo l (condvar_profile p) e
      → ((c k : ℕ) (all owned : Bool) (n : ℕ) → e ≡ Moves c k all owned n → MayMove (locks_of w) t c k all
      owned n)
      → MayHappen (locks_of w) t e
  may_go may moves = by_event e h may moves
    where
      by_event : (e : Event) → IsEvent w v t e → MayComeOfTwo l (condvar_profile p) e
          → ((c k : ℕ) (all owned : Bool) (n : ℕ) → e ≡ Moves c k all owned n
          → MayMove (locks_of w) t c k all owned n)
          → MayHappen (locks_of w) t e
      by_event Nothing h may moves = tt
      by_event (AtLock k case) h may moves = may_do (locks_of w) t k case ((condvar_profile p).purpose l) call
          call_is refl may.0 h.needs may.1
      by_event (Moves c k all owned n) h may moves = moves c k all owned n refl

  -- The call that a step leads to.
  pub call_led : (n : Next CondvarPlace) (o : Outcome) → heard told call ≡ call
      → woken (locks_of w) t e t (going_on e call) ≡ going_on e call
      → calls.BecomesOfTwo l m p told e shown (lock_state w m) s2 t n
      → place_at v t ≡ condvar_goes l n → NamesStill m n → (lock_state v l).shown ≡ shown
      → ((k : ℕ) → rights v t k ≡ rights_where m s2 t (rights w t) k) → ToldSo v t n o
      → CallLed w v t e call o
  call_led (next.At q) o unheard unwoken becomes there named shown_is led so = inl (
    call_then q there named ∙ ap (calls.condvar_call_by l m q) (λ i k. led k i) ∙ becomes (rights w t) refl
        ∙ ap (going_on e) unheard ∙ sym unwoken,
    so,
  )
  call_led (next.End a) o unheard unwoken becomes there named shown_is led so = inr (
    a,
    so,
    there,
    subst (λ x. AnswerHolds (Some ((condvar_profile p).purpose l)) (locks_of v) t (going_on e x) a) unheard
        (becomes (locks_of v) (rights w t) shown_is refl led),
  )

  -- the step is that event
  pub condvar_goes_on : (n : Next CondvarPlace) (o : Outcome) → MayHappen (locks_of w) t e
      → CallLed w v t e call o
      → OthersFollow w v t e → Begins (locks_of w) e o → GoesOn (locks_of w) t o (locks_of v)
  condvar_goes_on n o may led others begins = goes_with w v t e h call call_is o may (λ f. cc) led others
      begins

-- --------------------- notes that a thread in such a call never gets, and deeds that it never does to itself

runs_nothing_here : (l : ℕ) (p : CondvarPlace) → RunsNothing ((condvar_profile p).purpose l)
runs_nothing_here l (Wait m timed at) = tt
runs_nothing_here l (Look all) = tt
runs_nothing_here l (Notify all m at) = tt

-- the thread runs no closure
pub begins_two : (w : LocksState) (l : ℕ) (p : CondvarPlace) (e : Event) (o : Outcome)
    → MayComeOfTwo l (condvar_profile p) e
    → is_closure o ≡ false → Begins w e o
begins_two w l p Nothing (outcome.Closure state) may told = absurd cc
begins_two w l p Nothing o may told = tt
begins_two w l p (Moves c m all owned number) (outcome.Closure state) may told = absurd cc
begins_two w l p (Moves c m all owned number) o may told = tt
begins_two w l p (AtLock k (OfOnce (Start forced))) o may told =
    absurd (never_starts ((condvar_profile p).purpose l) _ _ _ k forced (runs_nothing_here l p) may.0)
begins_two w l p (AtLock k case) (outcome.Closure state) may told = absurd cc
begins_two w l p (AtLock k case) o may told = tt

pub no_closure : (l : ℕ) (n : Next CondvarPlace) → is_closure (outcome_of (condvar_does l n)) ≡ false
no_closure l (next.At q) = closure_told (condvar_act l q) ∙ condvar_runs_none l q
no_closure l (next.End answer) = refl

-- where it isn't in its own hand, nor among those that it moves, it is neither woken nor moved by itself
pub unwoken : (w : State) (t : ℕ) (e : Event) (x : CallState)
    → ((k : ℕ) → is_taken_by t (taken_at (place_at w t) k) ≡ false)
    → ((c m n : ℕ) (all owned : Bool) → e ≡ Moves c m all owned n
    → is_among t (moved_of all (lock_state w c).queue) ≡ false)
    → woken (locks_of w) t e t x ≡ x
unwoken w t Nothing x free apart = refl
unwoken w t (AtLock k Wake) x free apart = rw (free k) refl
unwoken w t (AtLock k (HandOff y z)) x free apart = rw (free k) refl
unwoken w t (AtLock k case) x free apart = refl
unwoken w t (Moves c m all owned n) x free apart = ap (λ (b : Bool). if b then record x { recalls = WasMoved }
    else x) (apart c m n all owned refl)
