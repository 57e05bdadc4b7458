-- The promises between steps, as callers are told them.
use Rattle.lot_laws.proofs.Imports
use Imports.{ℕ, Bool, true, false, Option, Some, None, if◌then◌else◌, ◌==◌, ◌&&◌, ◌≡◌, ◌≢◌, ◌+◌, ◌-◌, ◌*◌, ◌≤◌}
use Imports.{◌<◌, ◌⊎◌, inl, inr, List, [], ◌∷◌, length, refl, ◌∙◌, ap, subst, arith, ◌↔◌, sym, Want, Exclusive}
use Imports.{Sleep, Profile, hand, hand_owner, Kind, Place, Condvar, act_of, calls, is_lock, called_lock}
use Imports.{or_else, profile, retries_on, taker, State, opening, place_at, kind_at, filled_at, section_at}
use Imports.{location_at, role_on, AreCondvars, AreUnmarked, IsInductive, IsSettled, rules_in, site_of}
use Imports.{HasPermits, debt, debts, IsTended, semaphore, nobody_forgotten, CallState, IsOpening, LockState}
use Imports.{Sort, Queued, Rights, opening_lock, Rules, IsSomePending, has_caller, rights_of, readers, count}
use Imports.{standing, InProgress, IsRunning, Role, Line, Main, Second, Has, Pends, Runs, IsOpen, counts_some}
use Imports.{has_readers, IsDebtorRole, IsSite, LooksAfter, HasLimit, Enters, Converts, Bumps, CallsOnce}
use Imports.{Awaits, Purpose, MayWait, Waits, RunsClosure, locks_of, lock_state, lock_seen, taken_at, call_at}
use Imports.{call_on, call_state, stance_of, Owes, sort_at, AreLookedAfterIn, IsKept, WaitsFor, WakesWaiters}
use Imports.{IsDebtorOf, IsLookedAfterIn, IsOpenNow, WasNeverFull, HasOrPends, IsHandedOverIn, IsOwedWake}
use Imports.{want_of, WaitHasReleased, KnowsRights, CondvarPlace, line_owed, FitsItsLock, One}
use Imports.{condvar_profile, condvar_place_purpose, condvar_recalls, condvar_released, condvar_row}
use Imports.{mutex_beside, idle_at, none_at, empty_at, nobody_owns, opening_shares, cases_lt, eqb-true}
use Rattle.steps_base.specs.declared.acts.Act.TheVariants.{Leave, Rest}
use Rattle.lot_laws.specs.Locations.{Location}
use Rattle.spec_locks.specs.Onces.{Done}
use Rattle.spec_locks.specs.Locks as sorts
use Rattle.lot_laws.proofs.semaphore.Debtors.{Distinct, distinct, few_debts, owing_role}
use Rattle.lot_laws.proofs.once.Marks.{marked_done, once_kind}
use Rattle.lot_laws.proofs.calls.Closures.{runs_one}
use Rattle.lot_laws.proofs.hands.Inside.{hands_inside, is_to_mark}
use Rattle.lot_laws.proofs.sites.Held.{held}
use Rattle.lot_laws.proofs.machine.InsideAwake.{inside_goes}
use Rattle.lot_laws.proofs.calls.LooksOnce.{looks}
use Rattle.lot_laws.proofs.calls.Spins.{spins}
use Rattle.lot_laws.proofs.calls.TriesPass.{tries_go}
use Rattle.lot_laws.proofs.condvar.ShownMutex.{shows_always, shows_waiters}
use Rattle.spec_locks.specs.Sites.{IsWithinLimit}
use Rattle.lot_laws.proofs.condvar.LetsGo.{lets_go}
use Rattle.lot_laws.proofs.promises.SitesPromise.{not_empty}
use Rattle.lot_laws.proofs.promises.RowPromises.{CallsOneLock, IsDebtorIn, HasClaimed, HasDebt, WasHanded}
use Rattle.lot_laws.proofs.promises.RowPromises.{RowLooksAfter}
use Rattle.lot_laws.proofs.promises.PlacePromises.{row_promises, location_own, role_own, owed_own, owes_own}
use Rattle.lot_laws.proofs.promises.PlacePromises.{calls_one_lock, role_calls, location_calls, stands_waiting}
use Rattle.lot_laws.proofs.promises.PlacePromises.{waiting_stands, call_own, inside_own}
use Rattle.lot_laws.proofs.calls.SingleCalls.{call_none, single_call}
use Rattle.lot_laws.proofs.condvar.CondvarPromises.{StandsAt, two_know, two_one, two_owe_main, two_purpose}
use Rattle.lot_laws.proofs.condvar.CondvarPromises.{two_retry, two_wait}
use Rattle.lot_laws.proofs.machine.Parts.{IsOfTwo, condvar_apart, fits_two, single_or_two}
use Rattle.lot_laws.proofs.promises.PlacePromises.{stands_there, there_stands}
use Rattle.lot_laws.proofs.condvar.Asleep.{WasHandedBeside, two_asleep, two_hand_none}
use Rattle.lot_laws.proofs.mutex.Waiters.{role_beside, location_beside}
use Rattle.core_base.specs.declared.notes.Note.TheVariants as note
use Rattle.steps_base.specs.declared.acts.Wakes as wakes
use Rattle.lot_laws.proofs.promises.Debtors.{going_owes_so, inside_owes_so, owing_so}
use Rattle.lot_laws.proofs.condvar.MutexDebts.{LooksBeside, debtor_beside, idle_owes, looks_beside, no_second}
use Rattle.lot_laws.proofs.condvar.MutexDebts.{two_owe, two_recalls, two_released, two_retries}
use Rattle.lot_laws.proofs.machine.Parts.{same, calls_none, single_retries, single_taker, IsSingle}
use Rattle.lot_laws.proofs.machine.Parts.{plain_rules}

-- a call waits for one lock
one_purpose : (o : Option Purpose) (l k : ℕ) → CallsOneLock o → MayWait o l → MayWait o k → l ≡ k
one_purpose (Some (Enters j x how)) l k one h g = sym h.0 ∙ g.0
one_purpose (Some (Converts j x y how)) l k one h g = sym h.0 ∙ g.0
one_purpose (Some (Bumps j x)) l k one h g = sym h ∙ g
one_purpose (Some (CallsOnce j forced)) l k one h g = sym h ∙ g
one_purpose (Some (Awaits j forced timed)) l k one h g = sym h ∙ g
one_purpose (Some (Waits j m timed)) l k one h g = absurd one
one_purpose o l k one h g = absurd h

-- a thread that is shown to try again does
retry_shown : (o : Option ℕ) (row : Profile) (r : ℕ → Rights) (l : ℕ)
    → ((row.retries && is_lock l o) ≡ true) ↔ ((call_on o row r).retries ≡ Some l)
retry_shown None row r l = ((λ h. absurd (none row.retries h)), λ h. absurd cc)
  where
    none : (b : Bool) → (b && false) ≡ true → ⊥
    none true h = cc
    none false h = cc
retry_shown (Some own) row r l = by_retry row.retries
  where
    by_retry : (b : Bool) → ((b && (own == l)) ≡ true) ↔ ((if b then Some own else None) ≡ Some l)
    by_retry true = ((λ h. ap Some (eqb-true own l h)), λ h. let e : own ≡ l = cc in rw e (same l))
    by_retry false = ((λ h. absurd cc), λ h. absurd cc)

-- where nobody bars the way, nobody owns the lock alone
open_unowned : (sort : Sort) (s : LockState) → ((sorts.Knows sort Exclusive → ⊥) → s.exclusive ≡ None)
    → IsOpen sort s
    → s.exclusive ≡ None
open_unowned sorts.Mutex s none h = h
open_unowned sorts.Normal s none h = h.0
open_unowned sorts.Recursive s none h = h.0
open_unowned sorts.Semaphore s none h = absurd h
open_unowned sorts.Condvar s none h = absurd h
open_unowned sorts.Once s none h = none (λ k. k)

-- each thread that has released a mutex is in a wait with it
released_mutex : (sort : ℕ → Sort) (q : Option Purpose) (released : Bool) (l : ℕ) → KnowsRights sort q
    → WaitHasReleased q released l Main → sort l ≡ sorts.Mutex
released_mutex sort (Some (Waits k n timed)) released l knows h = ap sort (sym h.0) ∙ knows.1
released_mutex sort q released l knows h = absurd h

within : (r : Rules) (s : LockState) → has_readers r.sort ≡ true → HasLimit r s → IsWithinLimit r s
within r s shared h = by_sort r.sort refl shared
  where
    by_sort : (sort : Sort) → r.sort ≡ sort → has_readers sort ≡ true → IsWithinLimit r s
    by_sort sorts.Normal e f = inl (h.normal e)
    by_sort sorts.Recursive e f = by_count (cases_lt r.limit (count s))
      where
        by_count : (r.limit < count s) ⊎ (count s ≤ r.limit) → IsWithinLimit r s
        by_count (inl more) = let top = h.top in inr (e, omega arith)
        by_count (inr few) = inl few
    by_sort sort e f = absurd (grind arith)

module _ (w : State) (inductive : IsInductive w) where
  -- in a call of one lock, or of two
  by_call : (t : ℕ) (T : Place → Type 0) → (IsSingle (place_at w t) → T (place_at w t))
      → ((k : ℕ) (at : CondvarPlace) → place_at w t ≡ Condvar k at → FitsItsLock w (Condvar k at)
      → T (Condvar k at))
      → T (place_at w t)
  by_call t T one both = elim (single_or_two (place_at w t)) [
    | inl single ↦ one single
    | inr two ↦ subst T (sym two.is) (both two.lock two.at two.is (subst (FitsItsLock w) two.is
        (inductive.stands.calls t)))
  ]

  abbrev rights_now : ℕ → ℕ → Rights
  rights_now t k = rights_of (lock_state w k) t

  waits : (t l : ℕ) → 1 ≤ standing t (lock_state w l) → MayWait (call_at w t).purpose l
  waits t l h = by_call t (λ p. MayWait (call_state p (rights_now t)).purpose l)
      (λ single. let at_lock = stands_waiting w t inductive l single h in
      subst (λ (c : CallState). MayWait c.purpose l) (sym (call_own w t inductive l single at_lock.0))
      ((row_promises w t inductive l single at_lock.0).waits at_lock.1))
      (λ k at is fits. subst (λ q. MayWait q l) (sym (two_purpose k at (rights_now t)))
      (two_wait k at l (subst (λ p. StandsAt p l) is (stands_there w t inductive l h))))

  known : (t : ℕ) → KnowsRights (sort_at w) (call_at w t).purpose
  known t = by_call t (λ p. KnowsRights (sort_at w) (call_state p (rights_now t)).purpose)
      (λ single. by_lock single (called_lock (place_at w t)) refl)
      (λ k at is fits. subst (KnowsRights (sort_at w)) (sym (two_purpose k at (rights_now t)))
      (two_know w k at fits))
    where
      by_lock : IsSingle (place_at w t) → (o : Option ℕ) → called_lock (place_at w t) ≡ o
          → KnowsRights (sort_at w) (call_at w t).purpose
      by_lock single None e = subst (λ (c : CallState). KnowsRights (sort_at w) c.purpose)
          (sym (call_none (place_at w t) e (λ k. rights_of (lock_state w k) t))) tt
      by_lock single (Some l) e = subst (λ (c : CallState). KnowsRights (sort_at w) c.purpose)
          (sym (call_own w t inductive l single e)) ((row_promises w t inductive l single e).known (sort_at w)
          refl)

  retrying : (t l : ℕ) → (retries_on (place_at w t) l ≡ true) ↔ ((call_at w t).retries ≡ Some l)
  retrying t l = by_call t (λ p. (retries_on p l ≡ true) ↔ ((call_state p (rights_now t)).retries ≡ Some l))
      (λ single. subst (λ b. (b ≡ true) ↔ ((call_at w t).retries ≡ Some l))
      (sym (single_retries (place_at w t) l single))
      (subst (λ (c : CallState). ((profile (place_at w t)).retries && calls (place_at w t) l ≡ true)
      ↔ (c.retries ≡ Some l)) (sym (single_call (place_at w t) single (λ k. rights_of (lock_state w k)
      t))) (retry_shown (called_lock (place_at w t)) (profile (place_at w t))
      (λ k. rights_of (lock_state w k) t) l)))
      (λ k at is fits. two_retry k at l (rights_now t))

  second_line : (t l : ℕ) → Owes w t l Second → has_readers (sort_at w l) ≡ true
  second_line t l = by_call t (λ p. line_owed p l ≡ Some Second → has_readers (sort_at w l) ≡ true)
      (λ single h. let own = owes_own (place_at w t) l Second single h in
      (row_promises w t inductive l single own).owing.second (sym (owed_own (place_at w t) l own single) ∙ h))
      (λ k at is fits h. absurd (two_owe_main k at l h))

  one_place : (t l k : ℕ) → 1 ≤ standing t (lock_state w l) → 1 ≤ standing t (lock_state w k) → l ≡ k
  one_place t l k h g = by_call t (λ p. StandsAt p l → StandsAt p k → l ≡ k)
      (λ single s z. one_purpose (call_at w t).purpose l k (calls_one_lock w t inductive single) (waits t l h)
      (waits t k g))
      (λ j at is fits. two_one w j at fits l k)
      (stands_there w t inductive l h) (stands_there w t inductive k g)

  limited : (l : ℕ) → has_readers (sort_at w l) ≡ true → IsWithinLimit (rules_in w l) (lock_state w l)
  limited l shared = within (rules_in w l) (lock_state w l) shared (inductive.sites.limits l shared).1

  -- ---------------------------------------------------------------- nobody is forgotten

  -- a thread that is to look after the waiters of a line does so
  module _ (t l : ℕ) (m : Line) (single : IsSingle (place_at w t))
      (debtor : IsDebtorIn (sort_at w l) (role_on (place_at w t) l) m) (unowned : (lock_state w l).exclusive
      ≢ Some t) where
    own : called_lock (place_at w t) ≡ Some l
    own = role_calls (place_at w t) l single (λ idles. idle_owes (sort_at w l) m
        (subst (λ d. IsDebtorIn (sort_at w l) d m) idles debtor))

    row : RowLooksAfter (sort_at w l) l (profile (place_at w t)) (act_of (place_at w t)) m
    row = (row_promises w t inductive l single own).debtor m (subst (λ d. IsDebtorIn (sort_at w l) d m)
        (role_own (place_at w t) l own) debtor)
        (λ claims. unowned ((inductive.sites.site l).held t (Has Exclusive) (ap (λ (d : Role). d.claims)
        (role_own (place_at w t) l own) ∙ claims)))

    debt_of : (n : Line) → HasDebt (sort_at w l) l (profile (place_at w t)) n → IsDebtorOf w t l n
    debt_of Main (inl wakes) = inl (
      owed_own (place_at w t) l own single ∙ wakes.0,
      subst (λ (c : CallState). WakesWaiters (sort_at w l) c.purpose c.gave_up c.recalls l)
          (sym (call_own w t inductive l single own)) wakes.1,
    )
    debt_of Main (inr again) = inr (
      ap (λ (c : CallState). c.retries) (call_own w t inductive l single own)
          ∙ ap (λ b. if b then Some l else None) again.0,
      ap (λ (c : CallState). counts_some (sort_at w l) (want_of c.purpose))
          (call_own w t inductive l single own) ∙ again.1,
    )
    debt_of Second owes = owed_own (place_at w t) l own single ∙ owes

    stands_nowhere : (k : ℕ) → standing t (lock_state w k) ≡ 0
    stands_nowhere k = elim (cases_lt (standing t (lock_state w k)) 1) [
      | inl none ↦ omega arith
      | inr some ↦ absurd (elim (stands_waiting w t inductive k single some).1 [
        | inl in_line ↦ in_line row.stands
        | inr taken ↦ taken row.taken
      ])
    ]

    looks_after : IsLookedAfterIn w l m
    looks_after = record {
      debtor = t;
      debt = debt_of m row.debt;
      awake = row.awake;
      stands_nowhere = λ k. inl (stands_nowhere k);
    }

  -- in a call of a condition variable, beside it
  module _ (t l : ℕ) (two : IsOfTwo (place_at w t)) where
    named_there : (m : Line) → IsDebtorIn (sort_at w l) (role_on (place_at w t) l) m
        → (mutex_beside two.at ≡ Some l) × (role_on (place_at w t) l ≡ (condvar_row two.at).role)
    named_there m debtor = let b = debtor_beside (sort_at w l) two.lock two.at l m
        (subst (λ p. IsDebtorIn (sort_at w l) (role_on p l) m) two.is debtor)
        in (b.0, ap (λ p. role_on p l) two.is ∙ b.1)

    mutex_sort : mutex_beside two.at ≡ Some l → sort_at w l ≡ sorts.Mutex
    mutex_sort names = ap (λ (r : Rules). r.sort) (plain_rules (kind_at w l)
        ((fits_two w t inductive two).mutex l names))

    purpose_two : (call_at w t).purpose ≡ Some (condvar_place_purpose two.at two.lock)
    purpose_two = ap (λ p. (call_state p (rights_now t)).purpose) two.is ∙ two_purpose two.lock two.at
        (rights_now t)

    recalls_two : (call_at w t).recalls ≡ condvar_recalls two.at
    recalls_two = ap (λ p. (call_state p (rights_now t)).recalls) two.is ∙ two_recalls two.lock two.at
        (rights_now t)

    released_two : (call_at w t).released ≡ condvar_released two.at
    released_two = ap (λ p. (call_state p (rights_now t)).released) two.is
        ∙ two_released two.lock two.at (rights_now t)

    module _ (names : mutex_beside two.at ≡ Some l) (looks : LooksBeside two.lock two.at l) where
      owes_two : (condvar_row two.at).owes_mutex ≡ true → Owes w t l Main
      owes_two owes = ap (λ p. line_owed p l) two.is ∙ two_owe two.lock two.at l names owes

      debt_two : IsDebtorOf w t l Main
      debt_two = elim looks.debt [
        | inl owed ↦ inl (
          owes_two owed.0,
          subst (λ q. WakesWaiters (sort_at w l) q (call_at w t).gave_up (call_at w t).recalls l)
              (sym purpose_two)
              (subst (λ x. WakesWaiters (sort_at w l) (Some (condvar_place_purpose two.at two.lock))
              (call_at w t).gave_up x l) (sym recalls_two) (owed.1 (sort_at w l) (call_at w t).gave_up)),
        )
        | inr again ↦ inr (
          ap (λ p. (call_state p (rights_now t)).retries) two.is ∙ two_retries two.lock two.at l
              (rights_now t) names again.0,
          ap (λ s. counts_some s (want_of (call_at w t).purpose)) (mutex_sort names)
              ∙ ap (counts_some sorts.Mutex) (ap want_of purpose_two ∙ again.1),
        )
      ]

      nowhere_two : (k : ℕ)
          → (standing t (lock_state w k) ≡ 0)
          ⊎ (WaitHasReleased (call_at w t).purpose (call_at w t).released l Main × Owes w t l Main)
      nowhere_two k = elim looks.stands [
        | inl none ↦ inl (elim (cases_lt (standing t (lock_state w k)) 1) [
          | inl few ↦ omega arith
          | inr some ↦ absurd (none k (subst (λ p. StandsAt p k) two.is (stands_there w t inductive k some)))
        ])
        | inr released ↦ inr (
          subst (λ q. WaitHasReleased q (call_at w t).released l Main) (sym purpose_two)
              (subst (λ b. WaitHasReleased (Some (condvar_place_purpose two.at two.lock)) b l Main)
              (sym released_two) released.0),
          owes_two released.1,
        )
      ]

      looks_two : IsLookedAfterIn w l Main
      looks_two = record {
        debtor = t;
        debt = debt_two;
        awake = λ asleep. looks.awake (sym (ap act_of two.is) ∙ asleep);
        stands_nowhere = nowhere_two;
      }

    looked_main : IsDebtorIn (sort_at w l) (role_on (place_at w t) l) Main → (lock_state w l).exclusive
        ≢ Some t
        → IsLookedAfterIn w l Main
    looked_main debtor unowned = let there = named_there Main debtor in
        looks_two there.0 (looks_beside two.lock two.at l (fits_two w t inductive two).reached there.0
        (subst (λ s. IsDebtorIn s (condvar_row two.at).role Main) (mutex_sort there.0)
        (subst (λ d. IsDebtorIn (sort_at w l) d Main) there.1 debtor))
        (λ claims. unowned ((inductive.sites.site l).held t (Has Exclusive)
        (ap (λ (d : Role). d.claims) there.1
        ∙ claims))))

    looked_two : (m : Line) → IsDebtorIn (sort_at w l) (role_on (place_at w t) l) m
        → (lock_state w l).exclusive ≢ Some t
        → IsLookedAfterIn w l m
    looked_two Main debtor unowned = looked_main debtor unowned
    looked_two Second debtor unowned = let there = named_there Second debtor
        in absurd (no_second two.at (fits_two w t inductive two).reached
        (subst (λ d. IsDebtorIn (sort_at w l) d Second) there.1 debtor))

  looked_after : (t l : ℕ) (m : Line) → IsDebtorIn (sort_at w l) (role_on (place_at w t) l) m
      → (lock_state w l).exclusive ≢ Some t → IsLookedAfterIn w l m
  looked_after t l m debtor unowned = elim (single_or_two (place_at w t)) [
    | inl single ↦
        looks_after t l m single debtor unowned
    | inr two ↦ looked_two t l two m debtor unowned
  ]

  -- by that thread
  looked_by : (t l : ℕ) → IsDebtorRole (sort_at w l) (role_on (place_at w t) l) → (lock_state w l).exclusive
      ≢ Some t
      → (h : IsLookedAfterIn w l Main) × (h.debtor ≡ t)
  unfolding looks_after looked_main looks_two
  looked_by t l debtor unowned = elim (single_or_two (place_at w t)) [
    | inl single ↦
        (looks_after t l Main single debtor unowned, refl)
    | inr two ↦ (
      looked_main t l two debtor unowned,
      refl,
    )
  ]

  unfilled : (l : ℕ) → WasNeverFull w l → filled_at w l ≡ false
  unfilled l full = by_sort (has_readers (sort_at w l)) refl
    where
      by_sort : (b : Bool) → has_readers (sort_at w l) ≡ b → filled_at w l ≡ false
      by_sort true e = full e
      by_sort false e = inductive.sites.unfilled l e

  -- each thread that waits in a line whose way is open
  in_line : (l : ℕ) → (lock_state w l).queue ≢ [] → IsOpen (sort_at w l) (lock_state w l) → filled_at w l
      ≡ false
      → IsLookedAfterIn w l Main
  in_line l some now empty =
      let free = open_unowned (sort_at w l) (lock_state w l) (inductive.sites.site l).state.unwritten now in
      let d = (inductive.sites.site l).main (inl some) now empty in
      looked_after d.0 l Main d.1 (λ own. let e : ◌≡◌ {A = Option ℕ} None (Some d.0) = sym free ∙ own in cc)

  -- A waiter for a permit is looked after where one is free.
  beside_permit : (l : ℕ) → sort_at w l ≡ sorts.Semaphore → (lock_state w l).queue ≢ []
      → readers (lock_state w l) < (rules_in w l).limit
      → IsLookedAfterIn w l Main
  beside_permit l sort some fewer =
      let d = nobody_forgotten (rules_in w l).limit (site_of w l) tended some fewer in
      let free = (inductive.sites.site l).state.unwritten (λ k. subst (λ x. sorts.Knows x Exclusive) sort k)
      in
      looked_after d.0 l Main (subst (λ x. IsDebtorRole x ((site_of w l).role d.0)) (sym sort) d.1)
      (λ own. let e : ◌≡◌ {A = Option ℕ} None (Some d.0) = sym free ∙ own in cc)
    where
      same_rules : rules_in w l ≡ semaphore (rules_in w l).limit
      same_rules = λ i. record { sort = sort i; limit = (rules_in w l).limit }

      tended : IsTended (rules_in w l).limit (site_of w l)
      tended = record {
        site = subst (λ r. IsSite r (site_of w l)) same_rules (inductive.sites.site l);
        looked_after = subst (λ r. HasPermits r (site_of w l)) same_rules (inductive.sites.permits l sort).0;
        few = (inductive.sites.site l).state.within sort;
      }

  -- A waiter is looked after at a `Once` that is done.
  beside_done : AreUnmarked w → (l : ℕ) → sort_at w l ≡ sorts.Once → (lock_state w l).queue ≢ []
      → (lock_state w l).phase ≡ Done
      → IsLookedAfterIn w l Main
  beside_done unmarked l sort some done = elim ((inductive.sites.site l).parked some) [
    | inl set ↦ absurd (unmarked l (once_kind (kind_at w l) sort) (marked_done w inductive l sort done set))
    | inr bit_pending ↦ looked_after bit_pending.0 l Main (debtor (role_on (place_at w bit_pending.0) l)
        ((inductive.sites.site l).setting bit_pending.0 bit_pending.1))
        (λ own. let free = (inductive.sites.site l).state.unwritten (λ k. subst (λ x. sorts.Knows x Exclusive)
        sort k) in let e : ◌≡◌ {A = Option ℕ} None (Some bit_pending.0) = sym free ∙ own in cc)
  ]
    where
      debtor : (d : Role) → LooksAfter (sort_at w l) d → IsDebtorRole (sort_at w l) d
      debtor d (inl owes_taken) = inr (inl owes_taken)
      debtor d (inr wakes) = inl wakes.1

  -- as many look after a semaphore's line as permits are free
  many_permits : (t l : ℕ) → WaitsFor w t l → sort_at w l ≡ sorts.Semaphore
      → AreLookedAfterIn w l ((rules_in w l).limit - readers (lock_state w l))
  many_permits t l waiting sort =
      let some = not_empty t (lock_state w l).queue waiting in
      let free = (inductive.sites.site l).state.unwritten (λ k. subst (λ x. sorts.Knows x Exclusive) sort k)
      in
      let found : Distinct (length (lock_state w l).shared) (λ u. debt (role_on (place_at w u) l))
      ((rules_in w l).limit - readers (lock_state w l)) =
      distinct (length (lock_state w l).shared) (λ u. debt (role_on (place_at w u) l)) _
      (λ u. few_debts w inductive l sort u)
      (let enough : (rules_in w l).limit ≤ readers (lock_state w l) + debts (site_of w l) =
      (inductive.sites.permits l sort).0.enough some in omega arith) in record {
        debtor = found.thread;
        apart = found.apart;
        each = λ i lt. looked_by (found.thread i) l
            (subst (λ x. IsDebtorRole x (role_on (place_at w (found.thread i)) l)) (sym sort)
            (owing_role (role_on (place_at w (found.thread i)) l) (found.owes i lt)))
            (λ own. let e : ◌≡◌ {A = Option ℕ} None (Some (found.thread i)) = sym free ∙ own in cc);
      }

  main : AreUnmarked w → (t l : ℕ) → WaitsFor w t l → IsOpenNow (rules_in w l) (lock_state w l)
      → WasNeverFull w l → IsLookedAfterIn w l Main
  main unmarked t l waiting open_now full =
      let some = not_empty t (lock_state w l).queue waiting in
      elim open_now [
        | inl now ↦ in_line l some now (unfilled l full)
        | inr way ↦ elim way [
          | inl free ↦ beside_permit l free.0 some free.1
          | inr done ↦
              beside_done unmarked l done.0 some done.1
        ]
      ]

  -- nobody counts as one that passes the turn of a `Once` on but a thread that owes its waiters their wake
  callers : (l : ℕ) → sort_at w l ≡ sorts.Once → has_caller (lock_state w l).queue ≡ true
      → (IsRunning (lock_state w l).phase → ⊥)
      → IsOwedWake w l
  callers l once called rests = record {
    debtor = after.debtor;
    owes = by_debt after.debtor after.debt;
    awake = after.awake;
    stands_nowhere = rests_nowhere;
  }
    where
      called_some : (q : List Queued) → has_caller q ≡ true → q ≢ []
      called_some [] h e = cc
      called_some (x ∷ q) h e = cc

      after : IsLookedAfterIn w l Main
      after = in_line l (called_some (lock_state w l).queue called) (subst (λ s. IsOpen s (lock_state w l))
          (sym once) (called, rests)) (inductive.sites.unfilled l (ap has_readers once))

      -- the thread is in no wait, whose mutex is none
      rests_nowhere : (k : ℕ) → standing after.debtor (lock_state w k) ≡ 0
      rests_nowhere k = elim (after.stands_nowhere k) [
        | inl none ↦ none
        | inr released ↦ absurd (let both : sorts.Once ≡ sorts.Mutex = sym once
            ∙ released_mutex (sort_at w) (call_at w after.debtor).purpose (call_at w after.debtor).released l
            (known after.debtor) released.0 in cc)
      ]

      counts_none : (o : Option Want) → counts_some sorts.Once o ≡ true → ⊥
      counts_none None h = cc
      counts_none (Some x) h = cc

      by_debt : (t : ℕ) → IsDebtorOf w t l Main → Owes w t l Main
      by_debt t (inl owes) = owes.0
      by_debt t (inr again) = absurd (counts_none (want_of (call_at w t).purpose)
          (subst (λ s. counts_some s (want_of (call_at w t).purpose) ≡ true) once again.1))

  closures : (t l : ℕ) → RunsClosure w t l → (lock_state w l).phase ≡ InProgress t
  closures t l h =
      let one = runs_one (place_at w t) h.1 in
      (inductive.sites.site l).held t Runs (ap (λ (d : Role). d.claims) (role_own (place_at w t) l h.0)
      ∙ ap (λ p. (profile p).role.claims) one.is)

  second : (l : ℕ) → (lock_state w l).aside ≢ None → readers (lock_state w l) ≡ 0 → IsLookedAfterIn w l Second
  second l aside none =
      let d = (inductive.sites.site l).second aside none in
      looked_after d.0 l Second d.1 (λ own. pending_alone d.0 own (lock_state w l).aside refl aside)
    where
      -- beside an owner that has the lock alone nobody is pending
      pending_alone : (t : ℕ) → (lock_state w l).exclusive ≡ Some t → (o : Option ℕ) → (lock_state w l).aside
          ≡ o → o ≢ None → ⊥
      pending_alone t alone None e some = some refl
      pending_alone t alone (Some u) e some =
          let pending = (inductive.sites.site l).state.aside_pending u e in
          let nobody = (inductive.sites.site l).state.exclusive_alone t alone in
          subst (λ o. IsSomePending o u) nobody.0 pending

  -- ---------------------------------------------------------------- a thread that was handed a lock

  module _ (t : ℕ) (asleep : act_of (place_at w t) ≡ Sleep) where
    -- tells what it has, by what it claims
    claimed_at : (l : ℕ) → called_lock (place_at w t) ≡ Some l → (x : Want)
        → HasClaimed (sort_at w l) (profile (place_at w t)).role.claims x → HasOrPends (sort_at w l)
        (lock_state w l) t x
    claimed_at l own x h = elim h [
      | inl has ↦ inl ((inductive.sites.site l).held t (Has x) (claims ∙ has))
      | inr pends ↦ inr (
        pends.0,
        pends.1,
        subst (λ o. IsSomePending o t)
            (sym ((inductive.sites.site l).held t (Pends pends.2.0) (claims ∙ pends.2.1))) refl,
      )
    ]
      where
        claims : (role_on (place_at w t) l).claims ≡ (profile (place_at w t)).role.claims
        claims = ap (λ (d : Role). d.claims) (role_own (place_at w t) l own)

    -- each thread that hands over is inside, and wakes all that it has in hand as it leaves
    tells_inside : (by l : ℕ) → (location_at (place_at w by) l).has_taken ≡ Some true
        → (section_at w (2 * l) ≡ Some by)
        × (act_of (place_at w by) ≡ Leave (One (2 * l)) (wakes.TheVariants.All note.HandOff))
    tells_inside by l has_taken = elim (single_or_two (place_at w by)) [
      | inl single ↦ (let own = location_calls (place_at w by) l single (λ out. let e : ◌≡◌ {A = Option Bool}
          None (Some true) = sym (ap (λ (x : Location). x.has_taken) out) ∙ has_taken in cc) in
          let told = (row_promises w by inductive l single own).tells
          (sym (ap (λ (x : Location). x.has_taken) (location_own (place_at w by) l own)) ∙ has_taken) in
          ((inside_own w by inductive l single own Main).0 told.1, told.0))
      | inr two ↦ absurd (two_hand_none two.lock two.at (fits_two w by inductive two).reached l
          (sym (ap (λ p. (location_at p l).has_taken) two.is) ∙ has_taken))
    ]

    handed_beside : (two : IsOfTwo (place_at w t)) → WasHandedBeside two.lock two.at → IsHandedOverIn w t
    handed_beside two handed =
        let apart = condvar_apart w two.lock two.at (fits_two w t inductive two) handed.mutex handed.beside in
        let in_hand : (location_at (place_at w t) handed.mutex).hand ≡ hand handed.by true =
        ap (λ p. (location_at p handed.mutex).hand) two.is ∙ ap (λ (x : Location). x.hand)
        (location_beside two.lock handed.mutex apart two.at handed.beside) ∙ handed.in_hand in
        let claims : (role_on (place_at w t) handed.mutex).claims ≡ Some (Has Exclusive) =
        ap (λ p. (role_on p handed.mutex).claims) two.is
        ∙ ap (λ (d : Role). d.claims) (role_beside two.lock handed.mutex apart two.at handed.beside)
        ∙ handed.claims in
        let told = tells_inside handed.by handed.mutex (inductive.stands.hands.taken handed.by t handed.mutex
        true in_hand) in
        record {
          lock = handed.mutex;
          by = handed.by;
          want = Exclusive;
          waited = subst (λ p. MayWait (call_state p (rights_now t)).purpose handed.mutex
              × (want_of (call_state p (rights_now t)).purpose ≡ Some Exclusive)) (sym two.is)
              (subst (λ q. MayWait q handed.mutex × (want_of q ≡ Some Exclusive))
              (sym (two_purpose two.lock two.at (rights_now t))) handed.waited);
          owner = inl ((inductive.sites.site handed.mutex).held t (Has Exclusive) claims);
          inside = told.0;
          in_hand = ap taker two.is ∙ ap (λ h. hand_owner (or_else h (condvar_profile two.at).hand))
              handed.in_hand;
          wakes = told.1;
        }

    handed_at : (l : ℕ) → IsSingle (place_at w t) → called_lock (place_at w t) ≡ Some l
        → WasHanded (sort_at w l) l (profile (place_at w t)) → IsHandedOverIn w t
    handed_at l single own handed =
        let in_hand : (location_at (place_at w t) l).hand ≡ hand handed.by true =
        ap (λ (x : Location). x.hand) (location_own (place_at w t) l own) ∙ handed.in_hand in
        let has_taken = inductive.stands.hands.taken handed.by t l true in_hand in
        let told = tells_inside handed.by l has_taken in
        record {
          lock = l;
          by = handed.by;
          want = handed.want;
          waited = subst (λ (c : CallState). MayWait c.purpose l × (want_of c.purpose ≡ Some handed.want))
              (sym (call_own w t inductive l single own)) (handed.waited, handed.wants);
          owner = claimed_at l own handed.want handed.has;
          inside = told.0;
          in_hand = single_taker (place_at w t) single ∙ ap hand_owner handed.in_hand;
          wakes = told.1;
        }

    sleeping : ((l : ℕ) × (1 ≤ standing t (lock_state w l))) ⊎ IsHandedOverIn w t
    sleeping = elim (single_or_two (place_at w t)) [
      | inl single ↦ by_lock single (called_lock (place_at w t))
          refl
      | inr two ↦ by_two two
    ]
      where
        by_two : IsOfTwo (place_at w t) → ((l : ℕ) × (1 ≤ standing t (lock_state w l))) ⊎ IsHandedOverIn w t
        by_two two = let fits = fits_two w t inductive two
            in elim (two_asleep two.lock two.at (condvar_apart w two.lock two.at fits) fits.reached
            (sym (ap act_of two.is) ∙ asleep)) [
              | inl some ↦ inl (
                some.0,
                there_stands w t inductive some.0 (subst (λ p. StandsAt p some.0)
                    (sym two.is) some.1),
              )
              | inr handed ↦ inr (handed_beside two handed)
            ]

        by_lock : IsSingle (place_at w t) → (o : Option ℕ) → called_lock (place_at w t) ≡ o
            → ((l : ℕ) × (1 ≤ standing t (lock_state w l))) ⊎ IsHandedOverIn w t
        by_lock single None e = absurd (let f : Rest ≡ Sleep = sym (ap act_of (calls_none (place_at w t) e))
            ∙ asleep in cc)
        by_lock single (Some l) e = elim ((row_promises w t inductive l single e).asleep asleep) [
          | inl waiting ↦ inl (l, waiting_stands w t inductive l e waiting)
          | inr handed ↦ inr (handed_at l single e handed)
        ]

  -- one that stands nowhere was handed its lock
  handed_over : (t : ℕ) → act_of (place_at w t) ≡ Sleep → ((l : ℕ) → standing t (lock_state w l) ≡ 0)
      → IsHandedOverIn w t
  handed_over t asleep nowhere = elim (sleeping t asleep) [
    | inl some ↦ absurd (let stood : 1 ≤ standing t (lock_state w some.0) = some.1 in let none =
        nowhere some.0 in omega arith)
    | inr handed ↦ handed
  ]

  pub kept : AreCondvars w → IsSettled w → IsKept w
  kept condvars settled = record {
    state = λ l. (inductive.sites.site l).state;
    one_place = one_place;
    in_hand = hands_inside w inductive;
    held = held w inductive;
    waiting = waits;
    known = known;
    coded = λ l. inductive.sites.word l;
    limited = limited;
    nobody_forgotten = record { main = main settled.unmarked; permits = many_permits; second = second };
    callers = callers;
    runs = λ t l. (settled.runs t l, closures t l);
    owing = λ t. owing_so w t inductive;
    inside_owes = λ t. inside_owes_so w t inductive;
    going_owes = λ t. going_owes_so w t inductive;
    second_line = second_line;
    retrying = retrying;
    looks = looks w inductive;
    spins = spins w inductive;
    inside_goes = inside_goes w inductive;
    tries = tries_go w inductive;
    handing = λ t h. handed_over t h.0 h.1;
    sleeping = sleeping;
    parked = λ t l waiting. elim ((inductive.sites.site l).parked (not_empty t (lock_state w l).queue
        waiting)) [
          | inl set ↦ inl set
          | inr bit_pending ↦ inr (bit_pending.0, is_to_mark w inductive bit_pending.0 l bit_pending.1)
        ];
    aside_parked = λ l. (inductive.sites.site l).aside_parked;
    shown = λ l sort free. shows_waiters w l (condvars l sort) free;
    shows = λ l sort. shows_always w l (condvars l sort);
    let_go = lets_go w inductive;
  }

-- ---------------------------------------------------------------- the opening state, of the abstract locks

pub opening_state : (kinds : List Kind) (threads l : ℕ)
    → lock_state (opening kinds threads) l ≡ opening_lock (length (opening kinds threads).places)
opening_state kinds threads l = λ i. lock_seen (opening_shares kinds threads l i) (nobody_owns kinds l i)
    (empty_at (2 * length kinds) (2 * l) i) (empty_at (2 * length kinds) (2 * l + 1) i)
    (λ u. taken_at (idle_at threads u i) l)

pub opening_is : (kinds : List Kind) (threads : ℕ) → IsOpening (locks_of (opening kinds threads))
opening_is kinds threads = record {
  locks = opening_state kinds threads;
  calls = λ t. ap (λ p. call_state p (λ l. rights_of (lock_state (opening kinds threads) l) t))
      (idle_at threads t);
  inside = none_at (2 * length kinds);
  stances = λ t. ap stance_of (idle_at threads t);
}
