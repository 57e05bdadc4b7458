-- A thread in a call of a mutex goes on by its act: that is one event of the mutex, and its call goes on
-- with it.
use Rattle.lot_laws.proofs.Imports
use Imports.{inl, inr, ℕ, Bool, true, false, Option, Some, None, ◌≡◌, ◌<◌, ◌≤◌, length, get_or-set_same}
use Imports.{get_or-set_other, refl, sym, ◌∙◌, ap, subst, Next, Reply, Value, outcome_of, row_of, Hand, Of}
use Imports.{Profile, RowPromises, Location, Entry, MutexPlace, Lock, Unlock, mutex_deeds, mutex_row, next_row}
use Imports.{mutex_act, mutex_next, decides, mutex_promises, Place, Idle, Mutex, called_lock, mutex_does}
use Imports.{mutex_goes, next_act, next_place, profile, case_of, event_by, LockCase, rights_of}
use Imports.{standing, Line, Main, GoesOn, Nothing, Stays, is_closure, State, can_do, going_outcome, place_at}
use Imports.{reply_to, state_after_act, state_after_going, word_at, IsWellFormed, mutex_runs_none}
use Imports.{performed_counts, call_state, lock_state, locks_of, IsInductive, carried_at, rules_in, location}
use Rattle.core_base.specs.declared.ops.Op.TheVariants as op
use Rattle.steps_base.specs.declared.acts.Act.TheVariants as act
use Rattle.steps_base.specs.declared.acts.Next.TheVariants as next
use Rattle.steps_mutex.specs.declared.lock.LockAt.TheVariants as lock
use Rattle.steps_mutex.specs.declared.unlock.UnlockAt.TheVariants as unlock
use Rattle.steps_mutex.specs.declared.hand_off.HandOffAt.TheVariants as hand_off
use Rattle.steps_mutex.specs.declared.places.MutexPlace.TheVariants.{HandOff}
use Rattle.spec_locks.specs.Locks as locks
use Rattle.lot_laws.proofs.machine.AtPlaces.{in_no_hand}
use Rattle.lot_laws.proofs.calls.CallEvents.{GoesAs, IsEvent, LeadsTo, OthersFollow, RunsNothing}
use Rattle.lot_laws.proofs.calls.CallEvents.{begins_nothing}
use Rattle.lot_laws.proofs.calls.CallEvents.{goes_by, happens, others_follow, put_is, rights, runs_nothing}
use Rattle.lot_laws.proofs.calls.Closures.{closure_told}
use Rattle.lot_laws.proofs.calls.LockEvents.{hands_others}
use Rattle.lot_laws.proofs.calls.OtherCalls.{WakesOwn, hands_nothing, wakes_own}
use Rattle.lot_laws.proofs.calls.OwnPlace.{goes_from_there, told_from_there}
use Rattle.lot_laws.proofs.machine.Parts.{IsSingle, own_stance}
use Rattle.lot_laws.proofs.machine.PlaceTest.{mutex_row_facts}
use Rattle.lot_laws.proofs.promises.LineActs.{takes_here}
use Rattle.lot_laws.proofs.promises.PlacePromises.{waiting_stands}
use Rattle.lot_laws.proofs.promises.RowPromises.{IsWaiting}
use Rattle.lot_laws.proofs.mutex.MutexStaysASite.{GoesFrom, are_claims, claims_at, goes_mutex, rules_are}
use Rattle.lot_laws.proofs.mutex.MutexStaysASite.{sort_is}
use Rattle.lot_laws.proofs.sites.SitesKept.{go_by}

in_line : ◌≡◌ {A = Option Line} (Some Main) None → ⊥
in_line e = cc

in_hand_of : (h : Hand) → Some h ≡ None → ⊥
in_hand_of h e = cc

module _ (w : State) (t l : ℕ) (at : MutexPlace) (inductive : IsInductive w) (shape : IsWellFormed w)
    (there : t < length w.places)
    (lt : l < length w.locks) (is : place_at w t ≡ Mutex l at) (can : can_do w (mutex_act l at) ≡ true) where
  abbrev told : Reply
  told = reply_to w t (mutex_act l at)

  abbrev afterwards : State
  afterwards = go_by w t (Mutex l at) (mutex_act l at)

  kept : GoesFrom w t l at inductive shape there lt is (Mutex l at) (mutex_act l at)
  kept = goes_mutex w t l at inductive shape there lt is can

  sort : (rules_in w l).sort ≡ locks.Mutex
  sort = sort_is w t l at inductive shape there lt is

  has_taken : carried_at (place_at w t) l ≡ (mutex_row at).has_taken
  has_taken = ap (λ (y : Location). y.has_taken) (own_stance l (place_at w t) at is)

  abbrev case : Option LockCase
  case = case_of (mutex_row at).has_taken (mutex_deeds at kept.whom told)

  happened : IsEvent w afterwards t (event_by l case)
  happened = happens w afterwards t l (mutex_row at).has_taken (mutex_deeds at kept.whom told)
      (claims_at at kept.whom) inductive kept.goes (are_claims at kept.whom) kept.tells.one
      (λ none. in_no_hand w inductive t l (λ h. none (sym has_taken ∙ h)))

  others : OthersFollow w afterwards t (event_by l case)
  others = elim kept.others [
    | inl own ↦ others_follow w afterwards t l case happened (hands_nothing w afterwards t l case happened
        (mutex_row at).has_taken (mutex_act l at) case own)
        (wakes_own w t l inductive (rw is refl) (next_place (Mutex l at) told) (λ e. let both : locks.Condvar
        ≡ locks.Mutex = sym e ∙ sort in cc) (Mutex l at) (mutex_act l at)
        (takes_here l (location (Mutex l at)) (mutex_act l at) (mutex_row_facts l at).line) case
        (subst (λ h. WakesOwn h (mutex_act l at) case) (sym has_taken) own))
    | inr on ↦ subst (λ c. OthersFollow w afterwards t (event_by l c)) (sym on.1)
        (hands_others w afterwards t l kept.whom (subst (λ c. IsEvent w afterwards t (event_by l c)) on.1
        happened)
        (rules_are w t l at inductive shape there lt is) on.3 on.0 on.2)
  ]

  -- where it is then
  waits : (q : MutexPlace) → place_at afterwards t ≡ Mutex l q → IsWaiting (mutex_row q)
      → 1 ≤ standing t (lock_state afterwards l)
  waits q e h = waiting_stands afterwards t happened.after l (ap called_lock e)
      (subst (λ (x : Profile). IsWaiting x) (sym (ap profile e)) h)

  rests : (q : MutexPlace) → place_at afterwards t ≡ Mutex l q → (mutex_row q).hand ≡ None
      → GoesAs afterwards t l (outcome_of (mutex_act l q))
  rests (Lock entry retries lock.Asleep) e free =
      inr (inl (refl, waits (Lock entry retries lock.Asleep) e (inl in_line)))
  rests (Lock entry retries (lock.Taken by)) e free = absurd (in_hand_of (Of by false) free)
  rests (Lock entry retries (lock.Handed by)) e free = absurd (in_hand_of (Of by true) free)
  rests (Lock entry retries (lock.Decide seen)) e free = inl (decides l seen)
  rests (Lock entry retries to) e free = inl refl
  rests (Unlock unlock.Subtract) e free = inl refl
  rests (Unlock to) e free = inl refl
  rests (HandOff bumps (hand_off.Store true none_left)) e free = inl refl
  rests (HandOff bumps (hand_off.Store false none_left)) e free = inl refl
  rests (HandOff bumps to) e free = inl refl
  rests q e free = inl refl

  leads : LeadsTo afterwards t l (next_row (mutex_next at told))
      (outcome_of (mutex_does l (mutex_next at told)))
  leads = by_next (mutex_next at told)
      (get_or-set_same (state_after_act w t (Mutex l at) (mutex_act l at)).places t _ Idle
      (rw (performed_counts w t (Mutex l at) (mutex_act l at)).0 there)) kept.unheld
    where
      by_next : (n : Next MutexPlace) → place_at afterwards t ≡ mutex_goes l n → (row_of (next_row n)).hand
          ≡ None
          → LeadsTo afterwards t l (next_row n) (outcome_of (mutex_does l n))
      by_next (next.At q) e free = (ap called_lock e, ap profile e, rests q e free, subst IsSingle (sym e) tt)
      by_next (next.End answer) e free = (e, refl)

  promises : RowPromises locks.Mutex l (mutex_row at) (mutex_act l at)
  promises = mutex_promises l at

  runs : RunsNothing ((mutex_row at).purpose l)
  runs = runs_nothing (λ k. (rules_in w k).sort) l ((mutex_row at).purpose l) promises.own
      (promises.known (λ k. (rules_in w k).sort) sort)
      (λ once. let both : locks.Mutex ≡ locks.Once = sym sort ∙ once in cc)

  tells_none : (n : Next MutexPlace) → is_closure (outcome_of (mutex_does l n)) ≡ false
  tells_none (next.At p) = closure_told (mutex_act l p) ∙ mutex_runs_none l p
  tells_none (next.End answer) = refl

  pub mutex_step : GoesOn (locks_of w) t (outcome_of (next_act (Mutex l at) told)) (locks_of afterwards)
  mutex_step = goes_by w afterwards t l case happened (Mutex l at) is refl tt kept.tells.may
      (next_row (mutex_next at told)) _ kept.tells.comes leads others
      (begins_nothing (locks_of w) l (mutex_row at) case _ runs kept.tells.may
      (tells_none (mutex_next at told)))

-- ---------------------------------------------------------------- a look at the word once more

-- the thread only decides anew
module _ (w : State) (t l : ℕ) (e : Entry) (again : Bool) (inductive : IsInductive w) (shape : IsWellFormed w)
    (there : t < length w.places)
    (lt : l < length w.locks) (is : place_at w t ≡ Mutex l (Lock e again lock.Load)) where
  abbrev loading : Place
  loading = Mutex l (Lock e again lock.Load)

  abbrev decided : State
  decided = go_by w t loading (act.Word l op.Load)

  pub load_stays : Stays (locks_of w) t (call_state (place_at w t) (rights w t)) (going_outcome w t loading)
      (locks_of (state_after_going w t loading))
  load_stays = subst (λ (v : State). Stays (locks_of w) t (call_state (place_at w t) (rights w t))
      (going_outcome w t loading) (locks_of v)) (sym (goes_from_there w t loading is tt)) (record {
        told = told_from_there w t loading is tt ∙ decides l (word_at w l);
        locks = locks_stay;
        calls = λ u. put_is (λ x. call_state (place_at w x) (rights w x)) t (call_state (place_at w t)
            (rights w t)) u _
            (λ e. rw e (λ i. place_then i (rights_stay t i)))
            (λ ne. λ i. call_state (get_or-set_other w.places t u (next_place loading (Value (word_at w l)))
            Idle
            ne i) (rights_stay u i));
      })
    where
      locks_stay : (k : ℕ) → lock_state decided k ≡ lock_state w k
      locks_stay k = let h : IsEvent w decided t Nothing = happened w t l (Lock e again lock.Load) inductive
          shape there lt is refl in h.led k

      rights_stay : (u : ℕ) → rights decided u ≡ rights w u
      rights_stay u = λ i k. rights_of (locks_stay k i) u

      place_then : call_state (place_at decided t) ≡ call_state (place_at w t)
      place_then = ap call_state (get_or-set_same w.places t (next_place loading (Value (word_at w l))) Idle
          there) ∙ ap call_state (sym is)
