-- By each act of a call of a condition variable the calls of the other threads become what its event makes of
-- them.
use Rattle.lot_laws.proofs.Imports
use Imports.{ℕ, Bool, true, false, Option, Some, None, if◌then◌else◌, ◌==◌, ◌||◌, ◌≡◌, ◌≢◌, ◌*◌, ◌<◌, List, []}
use Imports.{◌∷◌, length, not, refl, sym, ◌∙◌, ap, subst, get_or, get_or-set_other, inl, inr, One, Exclusive}
use Imports.{Next, At, Parked, Woken, Place, Condvar, Idle, LockAt, MutexPlace, enter_deeds}
use Imports.{take_deeds as takes_deeds, lock_deeds, is_locked, is_parked, lock_act, mutex_next, CondvarPlace}
use Imports.{Wait, WaitAt, IsLockOf, IsReached, case_at_condvar, wait_event, relocked_deeds, is_shown, wait_act}
use Imports.{mutex_beside, unended, SeeOther, Show, case_of, event_by, Leave, LockCase, Rights, AtLock}
use Imports.{CallState, Event, LocksState, Moves, Nothing, is_taken_by, woken, Case, End, Main, Mark, State}
use Imports.{can_do, place_at, put, reply_to, state_after_act, word_at, place_after_telling}
use Imports.{state_after_telling, state_with_sections, call_state, taken_at, IsInductive, rules_in, carried_at}
use Imports.{hand_at, WordIs, holds, get_or-map, cases_eq, Normal, is_thread, hand, Location, next_place, taker}
use Imports.{WaiterFate}
use Rattle.steps_base.specs.declared.acts.Next.TheVariants.{End as Over}
use Rattle.steps_base.specs.declared.acts.TakeWhich.TheVariants.{First}
use Rattle.steps_mutex.specs.declared.lock.Entry.TheVariants as entry
use Rattle.steps_mutex.specs.declared.lock.LockAt.TheVariants as lock
use Rattle.steps_mutex.specs.declared.places.MutexPlace.TheVariants as mutex
use Rattle.steps_mutex.specs.declared.unlock.UnlockAt.TheVariants as unlock
use Rattle.steps_condvar.specs.declared.wait.WaitAt.TheVariants as wait
use Rattle.steps_condvar.specs.CondvarCalls.{or_else}
use Rattle.spec_locks.specs.Locks as locks
use Rattle.lot_laws.proofs.machine.AtPlaces.{unless_held}
use Rattle.lot_laws.proofs.calls.CallEvents.{IsEvent, Others, OthersFollow, others_follow}
use Rattle.lot_laws.proofs.condvar.Replies.{taken_by_wait, decided_by}
use Rattle.lot_laws.proofs.calls.OtherCalls.{IsCalm, IsLonely, Stay, lonely, no_hand_off, takes}
use Rattle.lot_laws.proofs.calls.OtherCalls.{taken_by_hand}
use Rattle.lot_laws.proofs.machine.Parts.{IsInHandOf, aparts, held_tells, in_hand_where}
use Rattle.lot_laws.proofs.hands.Handed.{CarriesAt, in_hand_here}
use Rattle.lot_laws.proofs.condvar.TwoParts.{nothing_there, location_there, location_beside}
use Rattle.lot_laws.proofs.calls.LockEvents.{Befalls, wakes_others}

-- an event that leaves the calls of the others as they are
abbrev pub IsCalmEvent : Event → Type 0
IsCalmEvent Nothing = Unit {0}
IsCalmEvent (AtLock l case) = IsCalm (Some case)
IsCalmEvent (Moves c m all owned number) = ⊥

-- after it they follow, where they are as they were
pub calm_follow : (w v : State) (t : ℕ) (e : Event) → IsEvent w v t e → IsCalmEvent e
    → ((u : ℕ) → u ≢ t → (r : ℕ → Rights) → call_state (place_at v u) r ≡ call_state (place_at w u) r)
    → OthersFollow w v t e
calm_follow w v t Nothing h calm stay = others_follow w v t 0 None h tt stay
calm_follow w v t (AtLock l case) h calm stay = others_follow w v t l (Some case) h
    (no_hand_off w v t l (Some case) h (Some case) calm) (by_case case calm)
  where
    by_case : (case : LockCase) → IsCalm (Some case) → Others w v t (AtLock l case)
    by_case locks.Wake calm = absurd calm
    by_case (locks.HandOff x y) calm = absurd calm
    by_case case calm = stay
calm_follow w v t (Moves c m all owned number) h calm stay = absurd calm

-- nor does its own thread learn of it
pub calm_unwoken : (w : LocksState) (t : ℕ) (e : Event) (u : ℕ) (c : CallState) → IsCalmEvent e
    → woken w t e u c ≡ c
calm_unwoken w t Nothing u c calm = refl
calm_unwoken w t (Moves k m all owned number) u c calm = absurd calm
calm_unwoken w t (AtLock l case) u c calm = by_case case calm
  where
    by_case : (case : LockCase) → IsCalm (Some case) → woken w t (AtLock l case) u c ≡ c
    by_case locks.Wake calm = absurd calm
    by_case (locks.HandOff x y) calm = absurd calm
    by_case case calm = refl

-- for two cases of which each is calm
two_calm : (m l : ℕ) (x y : Option LockCase) → IsCalm x → IsCalm y
    → IsCalmEvent (or_else (event_by m x) (event_by l y))
two_calm m l None None h g = tt
two_calm m l None (Some b) h g = g
two_calm m l (Some a) y h g = h

-- each thread that calls a condition variable has somebody in hand at its mutex alone
pub condvar_carries : (l m : ℕ) → m ≢ l → (at : CondvarPlace) → mutex_beside at ≡ Some m
    → CarriesAt m (Condvar l at)
condvar_carries l m apart at of k ne = elim (cases_eq k l) [
  | inl e ↦ subst (λ j. carried_at (Condvar l at) j ≡ None) (sym e) (ap (λ (y : Location). y.has_taken)
      (location_there l m apart (At at) of))
  | inr nl ↦ ap (λ (y : Location). y.has_taken) (nothing_there l m apart (At at) of k nl ne)
]

-- a thread that it took there is woken
module _ (w : State) (t m : ℕ) (inductive : IsInductive w) (has_taken : CarriesAt m (place_at w t))
    (took : carried_at (place_at w t) m ≡ Some false) (p2 : Place) where
  in_hand : (u : ℕ) → is_thread t (taker (place_at w u)) ≡ true → hand_at (place_at w u) m ≡ hand t false
  in_hand u e =
      let x : IsInHandOf (place_at w u) t = in_hand_where (place_at w u) t (aparts w inductive u) e in
      let here = subst (λ k. hand_at (place_at w u) k ≡ hand t x.handed) (in_hand_here (place_at w)
      inductive.stands.hands t m u has_taken x) x.hand in
      let there : carried_at (place_at w t) m ≡ Some x.handed = inductive.stands.hands.taken t u m x.handed
      here
      in
      here ∙ ap (hand t) (let g : Some x.handed ≡ Some false = sym there ∙ took in let f : x.handed ≡ false =
      cc in f)

  pub wake_befalls : (b : State) → b.places ≡ w.places
      → Befalls w (put (state_after_telling b t (Woken Normal)) t p2) t m (Woken Normal)
  wake_befalls b places u ne = get_or-set_other _ t u p2 Idle ne
      ∙ get_or-map (place_after_telling t (Woken Normal)) b.places u Idle
      ∙ ap (λ (xs : List Place). place_after_telling t (Woken Normal) (get_or xs u Idle)) places
      ∙ ap (λ c. if c then next_place (place_at w u) (Woken Normal) else place_at w u)
      (same_test (is_thread t (taker (place_at w u))) refl)
    where
      same_test : (c : Bool) → is_thread t (taker (place_at w u)) ≡ c
          → is_thread t (taker (place_at w u)) ≡ is_taken_by t (taken_at (place_at w u) m)
      same_test true e = e ∙ sym (taken_by_hand w (place_at w u) t m (inductive.stands.calls u) (in_hand u e))
      same_test false e = e ∙ sym (unless_held w inductive t m u
          (λ h. let f : is_thread t (taker (place_at w u))
          ≡ true = held_tells (place_at w u) t m false h in cc))

  -- Calls of other threads say what their places say.
  pub wake_follows : (b : State) → b.places ≡ w.places
      → IsEvent w (put (state_after_telling b t (Woken Normal)) t p2) t (AtLock m locks.Wake)
      → OthersFollow w (put (state_after_telling b t (Woken Normal)) t p2) t (AtLock m locks.Wake)
  wake_follows b places h = others_follow w v t m (Some locks.Wake) h (λ x y e. cc)
      (wakes_others w v t m (wake_befalls b places))
    where
      v : State
      v = put (state_after_telling b t (Woken Normal)) t p2

module _ (w : State) (t l m : ℕ) (timed : Bool) (inductive : IsInductive w) (plain : (rules_in w m).sort
    ≡ locks.Mutex) where
  abbrev waits : WaitAt → CondvarPlace
  waits at = Wait m timed at

  abbrev event : WaitAt → Event
  event p = wait_event l m p (taken_by_wait w m p) (reply_to w t (wait_act l m p))

  -- nobody else's call changes
  pub record IsQuiet (p : WaitAt) : Type 0 where
    pub calm : IsCalmEvent (event p)
    pub stays : (p2 : Place) → Stay w t p2 (put (state_after_act w t (Condvar l (waits p)) (wait_act l m p)) t
        p2)

  -- an act by which nobody else goes elsewhere
  alone : (p : WaitAt) → IsLonely (wait_act l m p) → IsCalmEvent (event p) → IsQuiet p
  alone p h calm = record {
    calm = calm;
    stays = λ p2. lonely w t p2 (Condvar l (waits p)) (wait_act l m p) h;
  }

  shows : (b : Bool) → IsCalm (case_at_condvar (if b then Show m ∷ [] else SeeOther m ∷ []))
  shows true = tt
  shows false = tt

  leaves : (b : Bool) → IsCalm (case_of None
      (unended (Case (Leave Exclusive) ∷ (if b then [] else End ∷ []))))
  leaves true = tt
  leaves false = tt

  taken : (o : Option ℕ) → IsCalm (case_of None (unended (takes_deeds o)))
  taken None = tt
  taken (Some u) = tt

  entered : (b : Bool) → IsCalm (case_of None (if b then enter_deeds else []))
  entered true = tt
  entered false = tt

  word_seen : (a b : Bool) → IsCalm (case_of None (if not a then [] else if b then Mark Main ∷ []
      else enter_deeds))
  word_seen false b = tt
  word_seen true true = tt
  word_seen true false = tt

  relocked : (n : Next MutexPlace) → IsCalm (case_at_condvar (relocked_deeds n))
  relocked (At q) = tt
  relocked (Over answer) = tt

  abbrev relocks : Bool → Bool → LockAt → WaitAt
  relocks late again at = wait.Lock late (mutex.Lock entry.Lock again at)

  -- for a place where it locks its mutex again, by what it does there
  locks_quiet : (late again : Bool) (at : LockAt) → IsLonely (lock_act m at)
      → IsCalm (case_of None (lock_deeds at (reply_to w t (lock_act m at)))) → IsQuiet (relocks late again at)
  locks_quiet late again at h calm = alone (relocks late again at) h
      (two_calm m l _ _ calm (relocked (mutex_next (mutex.Lock entry.Lock again at)
      (reply_to w t (lock_act m at)))))

  decided_lonely : (x : ℕ) (a b : Bool) → IsLonely (decided_by m x a b)
  decided_lonely x false b = tt
  decided_lonely x true true = tt
  decided_lonely x true false = tt

  decided_calm : (x : ℕ) (a b : Bool)
      → IsCalm (case_of None (lock_deeds (lock.Decide x) (reply_to w t (decided_by m x a b))))
  decided_calm x false b = word_seen (word_at w m == x) (is_locked (word_at w m))
  decided_calm x true true = word_seen (word_at w m == x) (is_locked (word_at w m))
  decided_calm x true false = tt

  parked_calm : (b : Bool) → IsCalm (case_of None (lock_deeds lock.Check (Parked b)))
  parked_calm true = tt
  parked_calm false = tt

  relock_quiet : (late again : Bool) (at : LockAt) → IsLockOf at → can_do w (lock_act m at) ≡ true
      → IsQuiet (relocks late again at)
  relock_quiet late again lock.First of can = locks_quiet late again lock.First tt
      (entered (word_at w m == 0))
  relock_quiet late again lock.Load of can = locks_quiet late again lock.Load tt tt
  relock_quiet late again (lock.Decide x) of can = locks_quiet late again (lock.Decide x)
      (decided_lonely x (is_locked x) (x == 1)) (decided_calm x (is_locked x) (x == 1))
  relock_quiet late again lock.Check of can = locks_quiet late again lock.Check tt
      (parked_calm (holds (WordIs 3) (word_at w m)))
  relock_quiet late again (lock.Leave parked) of can = locks_quiet late again (lock.Leave parked) tt tt
  relock_quiet late again lock.Accept of can = locks_quiet late again lock.Accept tt tt
  relock_quiet late again lock.Asleep of can = absurd cc
  relock_quiet late again (lock.Taken by) of can = absurd cc
  relock_quiet late again (lock.Handed by) of can = absurd cc
  relock_quiet late again at of can = absurd of

  -- all acts but a wake of the threads that were taken
  abbrev pub IsWaking : WaitAt → Type 0
  IsWaking (wait.Release s (mutex.Unlock (unlock.Leave true))) = Unit {0}
  IsWaking p = ⊥

  not_condvar : (rules_in w m).sort ≢ locks.Condvar
  not_condvar e = let f : locks.Mutex ≡ locks.Condvar = sym plain ∙ e in cc

  pub quiet : (p : WaitAt) → IsReached (waits p) → can_do w (wait_act l m p) ≡ true → (IsWaking p → ⊥)
      → IsQuiet p
  quiet wait.Enter reached can calm = alone wait.Enter tt tt
  quiet wait.Show reached can calm =
      alone wait.Show tt (two_calm m l None _ tt (shows ((word_at w l == 0) || is_shown (word_at w l) m)))
  quiet wait.Stand reached can calm = alone wait.Stand tt tt
  quiet wait.Leave reached can calm = alone wait.Leave tt tt
  quiet wait.Refuse reached can calm = alone wait.Refuse tt tt
  quiet wait.Remove reached can calm = alone wait.Remove tt tt
  quiet wait.Hide reached can calm = alone wait.Hide tt tt
  quiet wait.GiveUp reached can calm = alone wait.GiveUp tt tt
  quiet wait.RemoveMoved reached can calm = alone wait.RemoveMoved tt tt
  quiet (wait.GiveUpMoved none_left) reached can calm = alone (wait.GiveUpMoved none_left) tt tt
  quiet (wait.Asleep s) reached can calm = absurd cc
  quiet (wait.Release s (mutex.Unlock unlock.Subtract)) reached can calm =
      alone (wait.Release s (mutex.Unlock unlock.Subtract)) tt
      (two_calm m l (case_of None (unended (Case (Leave Exclusive) ∷ (if is_parked (word_at w m) then []
      else End ∷ [])))) None (leaves (is_parked (word_at w m))) tt)
  quiet (wait.Release s (mutex.Unlock unlock.Enter)) reached can calm =
      alone (wait.Release s (mutex.Unlock unlock.Enter)) tt tt
  quiet (wait.Release s (mutex.Unlock unlock.Take)) reached can calm = record {
    calm = two_calm m l _ None (taken (taken_by_wait w m (wait.Release s (mutex.Unlock unlock.Take)))) tt;
    stays = λ p2. takes w t p2 inductive m Main not_condvar
        (Condvar l (waits (wait.Release s (mutex.Unlock unlock.Take)))) (2 * m) refl First;
  }
  quiet (wait.Release s (mutex.Unlock (unlock.Clear any))) reached can calm =
      alone (wait.Release s (mutex.Unlock (unlock.Clear any))) tt tt
  quiet (wait.Release s (mutex.Unlock (unlock.Leave false))) reached can calm =
      alone (wait.Release s (mutex.Unlock (unlock.Leave false))) tt tt
  quiet (wait.Release s (mutex.Unlock (unlock.Leave true))) reached can calm = absurd (calm tt)
  quiet (wait.Release s p) reached can calm = absurd reached.0
  quiet (wait.Lock late (mutex.Lock entry.Lock again at)) reached can calm =
      relock_quiet late again at reached.1 can
  quiet (wait.Lock late p) reached can calm = absurd reached.1

  -- ---------------------------------------------------------------- a wait

  module _ (is_there : t < length w.places) (apart : m ≢ l) where
    abbrev afterwards : WaitAt → Place → State
    afterwards p p2 = put (state_after_act w t (Condvar l (waits p)) (wait_act l m p)) t p2

    -- the thread wakes the threads that it took
    wakes : (s : WaiterFate) → place_at w t
        ≡ Condvar l (waits (wait.Release s (mutex.Unlock (unlock.Leave true)))) → (p2 : Place)
        → IsEvent w (afterwards (wait.Release s (mutex.Unlock (unlock.Leave true))) p2) t
        (AtLock m locks.Wake)
        → OthersFollow w (afterwards (wait.Release s (mutex.Unlock (unlock.Leave true))) p2) t
        (AtLock m locks.Wake)
    wakes s is p2 h = wake_follows w t m inductive (subst (CarriesAt m) (sym is)
        (condvar_carries l m apart this refl)) (ap (λ q. carried_at q m) is
        ∙ ap (λ (y : Location). y.has_taken) (location_beside l m apart (At this) refl)) p2
        (state_with_sections w (One (2 * m)) None) refl h
      where
        this : CondvarPlace
        this = waits (wait.Release s (mutex.Unlock (unlock.Leave true)))

    calmly : (p : WaitAt) → IsReached (waits p) → can_do w (wait_act l m p) ≡ true → (IsWaking p → ⊥)
        → (p2 : Place)
        → IsEvent w (afterwards p p2) t (event p) → OthersFollow w (afterwards p p2) t (event p)
    calmly p reached can calm p2 h = let q = quiet p reached can calm in calm_follow w (afterwards p p2) t
        (event p) h q.calm (q.stays p2)

    pub wait_others : (p : WaitAt) → IsReached (waits p) → place_at w t ≡ Condvar l (waits p)
        → can_do w (wait_act l m p) ≡ true
        → (p2 : Place) → IsEvent w (afterwards p p2) t (event p) → OthersFollow w (afterwards p p2) t
        (event p)
    wait_others (wait.Release s (mutex.Unlock (unlock.Leave true))) reached is can p2 h = wakes s is p2 h
    wait_others p reached is can p2 h = calmly p reached can (λ e. e) p2 h
