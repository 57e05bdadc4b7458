-- The promises of a thread at any place of a call, by its row, and their sense in the state.
use Rattle.lot_laws.proofs.Imports
use Imports.{ℕ, Bool, true, false, Option, Some, None, if◌then◌else◌, ◌≡◌, ◌≢◌, ◌*◌, ◌+◌, ◌≤◌, ◌⊎◌, ◌↔◌, inl}
use Imports.{inr, refl, sym, ◌∙◌, ap, subst, arith, ◌&&◌, not, once_promises, semaphore_promises, One, first_of}
use Imports.{Enter, taken_from, Place, Idle, Mutex, RwLock, Once, Condvar, Semaphore, act_of, called_lock}
use Imports.{is_lock, calls, profile, line_owed, beside_of, profile_at_mutex, Taken, IsSomePending, one_if_some}
use Imports.{one_if_thread, standing, CallState, Purpose, IsReleasing, Waits, cases_eq, Role, Line, Main}
use Imports.{Second, Pends, idle, has_readers, State, place_at, kind_at, queue_at, lock_state, call_on, call_at}
use Imports.{taken_at, nowhere, location, location_at, role_on, IsInductive, FitsItsLock, key_of, stood_in}
use Imports.{rules_in, Owes, IsInside, LetsOthersIn, sort_at, IsDowngrade, GoesToWake, WaitHasReleased}
use Imports.{WakesAside, mutex_promises, call_profile, call_act}
use Rattle.core_base.specs.Lines as Lines
use Rattle.steps_base.specs.declared.acts.Act.TheVariants.{Rest}
use Rattle.spec_locks.specs.Locks as locks
use Rattle.lot_laws.specs.Locations.{Location, location_by}
use Rattle.lot_laws.proofs.hands.Counts.{none_first, first_out}
use Rattle.lot_laws.proofs.calls.SingleCalls.{call_here, call_none}
use Rattle.lot_laws.proofs.condvar.CondvarPromises.{StandsAt, two_stand_main}
use Rattle.lot_laws.proofs.machine.Parts.{single_or_two}
use Rattle.lot_laws.proofs.machine.Parts.{same, differ, taken_out, calls_none, inside_is, IsSingle}
use Rattle.lot_laws.proofs.machine.Parts.{single_location, single_role, single_taken, single_owes}
use Rattle.lot_laws.proofs.sites.OneStep.{queued_times}
use Rattle.lot_laws.proofs.sites.StandsMoved.{mutex_rules}
use Rattle.lot_laws.proofs.promises.LineActs.{line_act}
use Rattle.lot_laws.proofs.machine.PlaceTest.{IsOfLine, IsLineAct}
use Rattle.lot_laws.proofs.promises.RowPromises.{CallsOneLock, LetsIn, LetsInAt, IsWaiting}
use Rattle.lot_laws.proofs.promises.RowPromises.{calls_one as purpose_of_one, taken_in_row, RowPromises}
use Rattle.lot_laws.proofs.calls.CallEvents.{rights}
use Rattle.lot_laws.proofs.rwlock.CallRows.{call_promises}

-- -------------------------------------------------------------- the lock that a thread calls, and the others

calls_one : (p : Place) (l : ℕ) → (called_lock p ≡ Some l) ⊎ (calls p l ≡ false)
calls_one p l = by_lock (called_lock p)
  where
    by_lock : (o : Option ℕ) → (o ≡ Some l) ⊎ (is_lock l o ≡ false)
    by_lock None = inr refl
    by_lock (Some k) = elim (cases_eq k l) [ inl e ↦ inl (ap Some e) | inr ne ↦ inr (differ k l ne) ]

called : (p : Place) (l : ℕ) → called_lock p ≡ Some l → calls p l ≡ true
called p l own = ap (is_lock l) own ∙ same l

module _ (p : Place) (l : ℕ) (own : called_lock p ≡ Some l) where
  pub location_own : location_at p l ≡ location p
  location_own = ap (λ b. if b then location p else if is_lock l (beside_of p) then location_by
      (profile_at_mutex p) else nowhere) (called p l own)

  pub role_own : role_on p l ≡ (profile p).role
  role_own = ap (λ b. if b then (profile p).role else if is_lock l (beside_of p) then (profile_at_mutex p).role
      else idle) (called p l own)

  pub taken_own : taken_at p l ≡ taken_in_row (profile p)
  taken_own = here (is_lock l (beside_of p)) (calls p l) (called p l own)
    where
      here : (b c : Bool) → c ≡ true
          → (if b && not c then taken_from (profile_at_mutex p).hand (profile_at_mutex p).wants true
          else taken_from (profile p).hand (profile p).wants c)
          ≡ taken_from (profile p).hand (profile p).wants true
      here true true e = refl
      here false true e = refl
      here b false e = absurd cc

  pub owed_own : IsSingle p → line_owed p l ≡ (profile p).owes
  owed_own single = single_owes p l single ∙ ap (λ b. if b then (profile p).owes else None) (called p l own)

-- nothing is said of a lock that it doesn't call
module _ (p : Place) (l : ℕ) (single : IsSingle p) (other : calls p l ≡ false) where
  location_other : location_at p l ≡ nowhere
  location_other = single_location p l single ∙ ap (λ b. if b then location p else nowhere) other

  taken_other : taken_at p l ≡ None
  taken_other = single_taken p l single ∙ ap (taken_from (profile p).hand (profile p).wants) other
      ∙ taken_out (profile p).hand (profile p).wants

-- a thread that does something about a lock, stands at it or owes on it, calls it
pub owes_own : (p : Place) (l : ℕ) (m : Line) → IsSingle p → line_owed p l ≡ Some m → called_lock p ≡ Some l
owes_own p l m single h = elim (calls_one p l) [
  | inl own ↦ own
  | inr other ↦ absurd (let e : None ≡ Some m = sym (single_owes p l single
      ∙ ap (λ b. if b then (profile p).owes else None) other) ∙ h in cc)
]

pub role_calls : (p : Place) (l : ℕ) → IsSingle p → (role_on p l ≡ idle → ⊥) → called_lock p ≡ Some l
role_calls p l single busy = elim (calls_one p l) [
  | inl own ↦ own
  | inr other ↦ absurd (busy (single_role p l single ∙ ap (λ b. if b then (profile p).role else idle) other))
]

pub location_calls : (p : Place) (l : ℕ) → IsSingle p → (location_at p l ≡ nowhere → ⊥) → called_lock p
    ≡ Some l
location_calls p l single busy = elim (calls_one p l) [
  | inl own ↦ own
  | inr other ↦
      absurd (busy (location_other p l single other))
]

-- a key is of one lock
key_one : (l k : ℕ) (m n : Line) → key_of l m ≡ key_of k n → l ≡ k
key_one l k Main Main e = let f : 2 * l ≡ 2 * k = e in omega arith
key_one l k Main Second e = let f : 2 * l ≡ 2 * k + 1 = e in omega arith
key_one l k Second Main e = let f : 2 * l + 1 ≡ 2 * k = e in omega arith
key_one l k Second Second e = let f : 2 * l + 1 ≡ 2 * k + 1 = e in omega arith

-- a call lets others in
abbrev pub LetsBy : State → ℕ → ℕ → CallState → Type 0
LetsBy w t l c =
    IsReleasing c.purpose c.released l
    ⊎ ((has_readers (sort_at w l) ≡ true)
    × (IsDowngrade c.purpose l ⊎ ((c.gave_up ≡ Some l) × ((m : Line) → IsInside w t l m → ⊥))))

-- a call of one lock is no wait that has released its mutex
pub not_released : (q : Option Purpose) → CallsOneLock q → (released : Bool) (l : ℕ) (m : Line)
    → WaitHasReleased q released l m → ⊥
not_released None one released l m h = h
not_released (Some (Waits k n timed)) one released l m h = one
not_released (Some q) one released l m h = h

-- ---------------------------------------------------------------- each place

module _ (w : State) (t : ℕ) (inductive : IsInductive w) where
  -- in a call of one lock
  pub row_promises : (l : ℕ) → IsSingle (place_at w t) → called_lock (place_at w t) ≡ Some l
      → RowPromises (sort_at w l) l (profile (place_at w t)) (act_of (place_at w t))
  row_promises l single own = by_place (place_at w t) refl own
    where
      by_place : (p : Place) → place_at w t ≡ p → called_lock p ≡ Some l → RowPromises (sort_at w l) l
          (profile p) (act_of p)
      by_place Idle is own = absurd cc
      by_place (Condvar k at) is own = absurd (subst IsSingle is single)
      by_place (Once k at) is own =
          let here : k ≡ l = cc in
          let admitted : (rules_in w k).sort ≡ locks.Once =
          subst (FitsItsLock w) is (inductive.stands.calls t)
          in
          subst (λ j. RowPromises (sort_at w j) j (profile (Once k at)) (act_of (Once k at))) here
          (subst (λ s. RowPromises s k (profile (Once k at)) (act_of (Once k at))) (sym admitted)
          (once_promises k at))
      by_place (Semaphore k at) is own =
          let here : k ≡ l = cc in
          let admitted : (rules_in w k).sort ≡ locks.Semaphore =
          (subst (FitsItsLock w) is (inductive.stands.calls t)).0 in
          subst (λ j. RowPromises (sort_at w j) j (profile (Semaphore k at)) (act_of (Semaphore k at))) here
          (subst (λ s. RowPromises s k (profile (Semaphore k at)) (act_of (Semaphore k at))) (sym admitted)
          (semaphore_promises k at))
      by_place (Mutex k at) is own =
          let here : k ≡ l = cc in
          let admitted : FitsItsLock w (Mutex k at) = rw is at (inductive.stands.calls t) in
          let sort : locks.Mutex ≡ sort_at w k = sym (ap (λ r. r.sort) (mutex_rules (kind_at w k) admitted))
          in
          subst (λ j. RowPromises (sort_at w j) j (profile (Mutex k at)) (act_of (Mutex k at))) here
          (subst (λ s. RowPromises s k (profile (Mutex k at)) (act_of (Mutex k at))) sort
          (mutex_promises k at))
      by_place (RwLock k a c) is own =
          let here : k ≡ l = cc in
          let admitted : FitsItsLock w (RwLock k a c) = rw is at (inductive.stands.calls t) in
          subst (λ j. RowPromises (sort_at w j) j (call_profile a c) (call_act k a c)) here
          (call_promises (rules_in w k) a k c admitted.0 admitted.1)

  pub not_condvar : (l : ℕ) → IsSingle (place_at w t) → called_lock (place_at w t) ≡ Some l → sort_at w l
      ≢ locks.Condvar
  not_condvar l single own is_condvar = by_place (place_at w t) refl own
    where
      by_place : (p : Place) → place_at w t ≡ p → called_lock p ≡ Some l → ⊥
      by_place Idle is own = cc
      by_place (Condvar k at) is own = subst IsSingle is single
      by_place (Once k at) is own =
          let here : k ≡ l = cc in
          let sort : sort_at w k ≡ locks.Once = subst (FitsItsLock w) is (inductive.stands.calls t) in
          let other : sort_at w k ≡ locks.Condvar = ap (sort_at w) here ∙ is_condvar in cc
      by_place (Semaphore k at) is own =
          let here : k ≡ l = cc in
          let sort : sort_at w k ≡ locks.Semaphore = (subst (FitsItsLock w) is (inductive.stands.calls t)).0
          in
          let other : sort_at w k ≡ locks.Condvar = ap (sort_at w) here ∙ is_condvar in cc
      by_place (Mutex k at) is own =
          let here : k ≡ l = cc in
          let admitted : FitsItsLock w (Mutex k at) = rw is at (inductive.stands.calls t) in
          let sort : sort_at w k ≡ locks.Mutex = ap (λ r. r.sort) (mutex_rules (kind_at w k) admitted) in
          let other : sort_at w k ≡ locks.Condvar = ap (sort_at w) here ∙ is_condvar in cc
      by_place (RwLock k a c) is own =
          let here : k ≡ l = cc in
          let admitted : FitsItsLock w (RwLock k a c) = rw is at (inductive.stands.calls t) in
          let other : false ≡ true = sym (ap has_readers (ap (sort_at w) here ∙ is_condvar)) ∙ admitted.0.0
          in cc

  pub row_calls_one : (l : ℕ) → IsSingle (place_at w t) → called_lock (place_at w t) ≡ Some l
      → CallsOneLock (Some ((profile (place_at w t)).purpose l))
  row_calls_one l single own = purpose_of_one (sort_at w l) ((profile (place_at w t)).purpose l)
      ((row_promises l single own).known (λ k. sort_at w l) refl) (not_condvar l single own)

  pub calls_one_lock : IsSingle (place_at w t) → CallsOneLock (call_at w t).purpose
  calls_one_lock single = by_lock (called_lock (place_at w t)) refl
    where
      by_lock : (o : Option ℕ) → called_lock (place_at w t) ≡ o → CallsOneLock (call_at w t).purpose
      by_lock None e = subst (λ (c : CallState). CallsOneLock c.purpose)
          (sym (call_none (place_at w t) e (rights w t))) tt
      by_lock (Some l) e = subst (λ (c : CallState). CallsOneLock c.purpose)
          (sym (call_here (place_at w t) l single e (rights w t))) (row_calls_one l single e)

  -- ---------------------------------------------------------------- where it stands

  -- a thread that stands in the second line of a lock is the one aside of it
  module _ (l : ℕ) where
    pub in_second : (location_at (place_at w t) l).stands ≡ Some Second → (lock_state w l).aside ≡ Some t
    in_second stands = by_first (first_of (queue_at w (2 * l + 1))) refl
      where
        -- a thread that waits for a mutex, or with one, stands in no second line
        single : IsSingle (place_at w t)
        single = elim (single_or_two (place_at w t)) [
          | inl one ↦ one
          | inr two ↦ absurd (two_stand_main two.lock two.at l
              (subst (λ p. (location_at p l).stands ≡ Some Second) two.is stands))
        ]

        own : called_lock (place_at w t) ≡ Some l
        own = location_calls (place_at w t) l single (λ out. let e : ◌≡◌ {A = Option Line} None
            (Some Second) = sym (ap (λ (x : Location). x.stands) out) ∙ stands in cc)

        pending : (b : Bool) × ((lock_state w l).pending ≡ Some (record { thread = t; falls_back = b }))
        pending =
            let c = (row_promises l single own).aside
            (sym (ap (λ (x : Location). x.stands) (location_own (place_at w t) l own)) ∙ stands) in (
              c.0,
              (inductive.sites.site l).held t (Pends c.0)
                  (ap (λ (d : Role). d.claims) (role_own (place_at w t) l own) ∙ c.1),
            )

        by_first : (o : Option ℕ) → first_of (queue_at w (2 * l + 1)) ≡ o → o ≡ Some t
        by_first None none = absurd (
            let one : Lines.times t (queue_at w (2 * l + 1)) ≡ 1 = inductive.stands.lines t l Second
            ∙ ap (λ x. stood_in x Second) stands in
            let zero_times : Lines.times t (queue_at w (2 * l + 1)) ≡ 0 = ap (Lines.times t)
            (none_first (queue_at w (2 * l + 1)) none) in
            omega arith
            )
        by_first (Some u) some =
            let of = (inductive.sites.site l).state.aside_pending u some in
            ap Some (sym (subst (λ o. IsSomePending o u) pending.1 of))

    -- how often it stands anywhere about a lock
    aside_by : one_if_thread t (lock_state w l).aside ≡ stood_in (location_at (place_at w t) l).stands Second
    aside_by = by_line (location_at (place_at w t) l).stands refl
      where
        absent : Lines.times t (queue_at w (2 * l + 1)) ≡ 0 → one_if_thread t (lock_state w l).aside ≡ 0
        absent none = first_out t (queue_at w (2 * l + 1)) none

        by_line : (o : Option Line) → (location_at (place_at w t) l).stands ≡ o
            → one_if_thread t (lock_state w l).aside ≡ stood_in o Second
        by_line None e = absent (inductive.stands.lines t l Second ∙ ap (λ x. stood_in x Second) e)
        by_line (Some Main) e = absent (inductive.stands.lines t l Second ∙ ap (λ x. stood_in x Second) e)
        by_line (Some Second) e = ap (one_if_thread t) (in_second e) ∙ ap (λ b. if b then 1 else 0) (same t)

    pub standing_by : standing t (lock_state w l)
        ≡ stood_in (location_at (place_at w t) l).stands Main + stood_in (location_at (place_at w t) l).stands
        Second + one_if_some
        (taken_at (place_at w t) l)
    standing_by =
        let a : locks.times t (lock_state w l).queue ≡ stood_in (location_at (place_at w t) l).stands Main =
        queued_times t (queue_at w (2 * l)) ∙ inductive.stands.lines t l Main in
        let b = aside_by in
        omega arith

    -- each thread that stands about a lock stands in a line of it, or is taken there
    pub stands_there : 1 ≤ standing t (lock_state w l) → StandsAt (place_at w t) l
    stands_there some = by_row (location_at (place_at w t) l).stands refl (taken_at (place_at w t) l) refl
      where
        by_row : (o : Option Line) → (location_at (place_at w t) l).stands ≡ o → (h : Option Taken)
            → taken_at (place_at w t) l ≡ h
            → StandsAt (place_at w t) l
        by_row (Some m) e h f = inl (λ none. let g : ◌≡◌ {A = Option Line} None (Some m) = sym none ∙ e in cc)
        by_row None e (Some x) f = inr (λ none. let g : ◌≡◌ {A = Option Taken} None (Some x) = sym none ∙ f
            in cc)
        by_row None e None f = absurd (let n : standing t (lock_state w l) ≡ 0 = standing_by
            ∙ (λ i. stood_in (e i) Main + stood_in (e i) Second + one_if_some (f i)) in omega arith)

    -- A thread that stands in a line of a lock, or is taken there, stands about it.
    pub there_stands : StandsAt (place_at w t) l → 1 ≤ standing t (lock_state w l)
    there_stands (inl in_line) = by_line (location_at (place_at w t) l).stands refl
      where
        by_line : (o : Option Line) → (location_at (place_at w t) l).stands ≡ o
            → 1 ≤ standing t (lock_state w l)
        by_line None e = absurd (in_line e)
        by_line (Some Main) e =
            let a : stood_in (location_at (place_at w t) l).stands Main ≡ 1 = ap (λ x. stood_in x Main) e in
            let n = standing_by in omega arith
        by_line (Some Second) e =
            let a : stood_in (location_at (place_at w t) l).stands Second ≡ 1 = ap (λ x. stood_in x Second) e
            in
            let n = standing_by in omega arith
    there_stands (inr taken) = by_taken (taken_at (place_at w t) l) refl
      where
        by_taken : (o : Option Taken) → taken_at (place_at w t) l ≡ o → 1 ≤ standing t (lock_state w l)
        by_taken None e = absurd (taken e)
        by_taken (Some x) e =
            let a : one_if_some (taken_at (place_at w t) l) ≡ 1 = ap one_if_some e in
            let n = standing_by in omega arith

    -- in a call of one lock it calls that one, and waits
    pub stands_waiting : IsSingle (place_at w t) → 1 ≤ standing t (lock_state w l)
        → (called_lock (place_at w t) ≡ Some l) × IsWaiting (profile (place_at w t))
    stands_waiting single some = elim (calls_one (place_at w t) l) [
      | inl own ↦ (
        own,
        elim (stands_there some) [
          | inl in_line ↦ inl (λ none. in_line (ap (λ (x : Location). x.stands)
              (location_own (place_at w t) l own) ∙ none))
          | inr taken ↦ inr (λ none. taken (taken_own (place_at w t) l own ∙ none))
        ],
      )
      | inr other ↦ absurd (elim (stands_there some) [
        | inl in_line ↦ in_line (ap (λ (x : Location). x.stands) (location_other (place_at w t) l single
            other))
        | inr taken ↦ taken (taken_other (place_at w t) l single other)
      ])
    ]

    -- A thread that waits stands about the lock that it calls.
    pub waiting_stands : called_lock (place_at w t) ≡ Some l → IsWaiting (profile (place_at w t))
        → 1 ≤ standing t (lock_state w l)
    waiting_stands own waits = elim waits [
      | inl in_line ↦ by_line (profile (place_at w t)).stands refl in_line
      | inr taken ↦ by_taken (taken_in_row (profile (place_at w t))) refl taken
    ]
      where
        by_line : (o : Option Line) → (profile (place_at w t)).stands ≡ o → o ≢ None
            → 1 ≤ standing t (lock_state w l)
        by_line None e some = absurd (some refl)
        by_line (Some Main) e some =
            let a : stood_in (location_at (place_at w t) l).stands Main ≡ 1 =
            ap (λ (x : Location). stood_in x.stands Main) (location_own (place_at w t) l own)
            ∙ ap (λ x. stood_in x Main) e in
            let n = standing_by in omega arith
        by_line (Some Second) e some =
            let a : stood_in (location_at (place_at w t) l).stands Second ≡ 1 =
            ap (λ (x : Location). stood_in x.stands Second) (location_own (place_at w t) l own)
            ∙ ap (λ x. stood_in x Second) e in
            let n = standing_by in omega arith

        by_taken : (o : Option Taken) → taken_in_row (profile (place_at w t)) ≡ o → o ≢ None
            → 1 ≤ standing t (lock_state w l)
        by_taken None e some = absurd (some refl)
        by_taken (Some x) e some =
            let a : one_if_some (taken_at (place_at w t) l) ≡ 1 =
            ap one_if_some (taken_own (place_at w t) l own ∙ e) in
            let n = standing_by in omega arith

  -- ---------------------------------------------------------------- the call of the thread

  module _ (l : ℕ) (single : IsSingle (place_at w t)) (own : called_lock (place_at w t) ≡ Some l) where
    -- the call is told by the row
    pub call_own : call_at w t ≡ call_on (Some l) (profile (place_at w t)) (rights w t)
    call_own = call_here (place_at w t) l single own (rights w t)

    pub inside_own : (m : Line) → (profile (place_at w t)).role.inside ≡ Some m ↔ IsInside w t l m
    inside_own m = (
      (λ h. (inductive.stands.sections t l m).0 (ap (λ (x : Location). x.inside)
          (location_own (place_at w t) l own) ∙ h)),
      λ h. sym (ap (λ (x : Location). x.inside) (location_own (place_at w t) l own))
          ∙ (inductive.stands.sections t l m).1 h,
    )

    outside_own : ((m : Line) → IsInside w t l m → ⊥) → (profile (place_at w t)).role.inside ≡ None
    outside_own out = by_line (profile (place_at w t)).role.inside refl
      where
        by_line : (o : Option Line) → (profile (place_at w t)).role.inside ≡ o → o ≡ None
        by_line None e = refl
        by_line (Some m) e = absurd (out m ((inside_own m).0 e))

    gave_up_so : (b : Bool) → (if b then Some l else None) ≡ Some l → b ≡ true
    gave_up_so true h = refl
    gave_up_so false h = absurd cc

    -- A place says whether its thread lets others in.
    pub lets_in : LetsOthersIn w t l → LetsIn (sort_at w l) l (profile (place_at w t))
    lets_in h = elim (subst (LetsBy w t l) call_own h) [
      | inl releases ↦ inl releases
      | inr shared ↦ inr (
        shared.0,
        elim shared.1 [
          | inl less ↦ inl less
          | inr left ↦
              inr (gave_up_so (profile (place_at w t)).gave_up left.0, outside_own left.1)
        ],
      )
    ]

    pub lets_out : LetsIn (sort_at w l) l (profile (place_at w t)) → LetsOthersIn w t l
    lets_out h = subst (LetsBy w t l) (sym call_own) (elim h [
      | inl releases ↦ inl releases
      | inr shared ↦ inr (
        shared.0,
        elim shared.1 [
          | inl less ↦ inl less
          | inr left ↦ inr (
            ap (λ b. if b then Some l else None) left.0,
            λ m i. let e : ◌≡◌ {A = Option Line}
                None (Some m) = sym left.1 ∙ (inside_own m).1 i in cc,
          )
        ],
      )
    ])

    -- on its way into the section of a line
    lets_in_at : (m : Line)
        → LetsOthersIn w t l
        ⊎ (WakesAside (call_at w t).purpose l m ⊎ WaitHasReleased (call_at w t).purpose (call_at w t).released
        l m)
        → LetsInAt (sort_at w l) l (profile (place_at w t)) m
    lets_in_at m (inl lets) = inl (lets_in lets)
    lets_in_at m (inr (inl wakes)) = inr (subst (λ (c : CallState). WakesAside c.purpose l m) call_own wakes)
    lets_in_at m (inr (inr released)) =
        absurd (not_released (call_at w t).purpose (calls_one_lock single) (call_at w t).released l m
        released)

    lets_out_at : (m : Line) → LetsInAt (sort_at w l) l (profile (place_at w t)) m
        → LetsOthersIn w t l
        ⊎ (WakesAside (call_at w t).purpose l m ⊎ WaitHasReleased (call_at w t).purpose (call_at w t).released
        l m)
    lets_out_at m h = elim h [
      | inl lets ↦ inl (lets_out lets)
      | inr wakes ↦
          inr (inl (subst (λ (c : CallState). WakesAside c.purpose l m) (sym call_own) wakes))
    ]

  -- a thread that owes a wake on a line is inside its section, or lets others in and is on its way into it
  pub owing_is : IsSingle (place_at w t) → (l : ℕ) (m : Line) → Owes w t l m ↔ (IsInside w t l m
      ⊎ GoesToWake w t l m)
  owing_is single l m = (
    (λ h. let own = owes_own (place_at w t) l m single h in
        let row = (row_promises l single own).owing.owes m (sym (owed_own (place_at w t) l own single) ∙ h) in
        elim row [
          | inl i ↦ inl ((inside_own l single own m).0 i)
          | inr g ↦
              inr (g.0, lets_out_at l single own m g.1)
        ]),
    λ h. elim h [
      | inl i ↦ (let own = inside_calls (called_lock (place_at w t)) refl i
          in owed_own (place_at w t) l own single ∙ (row_promises l single own).owing.inside m
          ((inside_own l single own m).1 i))
      | inr g ↦ (let own = entering_calls (called_lock (place_at w t)) refl g.0
          in owed_own (place_at w t) l own single ∙ (row_promises l single own).owing.entering m g.0
          (lets_in_at l single own m g.1))
    ],
  )
    where
      inside_calls : (o : Option ℕ) → called_lock (place_at w t) ≡ o → IsInside w t l m
          → called_lock (place_at w t) ≡ Some l
      inside_calls o e i = role_calls (place_at w t) l single
          (λ idles. let f : (location_at (place_at w t) l).inside ≡ Some m =
          (inductive.stands.sections t l m).1 i in
          let g : ◌≡◌ {A = Option Line} None (Some m) = sym (ap (λ (d : Role). d.inside) idles)
          ∙ inside_is (place_at w t) l ∙ f in cc)

      entering_calls : (o : Option ℕ) → called_lock (place_at w t) ≡ o → act_of (place_at w t)
          ≡ Enter (One (key_of l m))
          → called_lock (place_at w t) ≡ Some l
      entering_calls None e a = absurd (let f : Rest ≡ Enter (One (key_of l m)) =
          sym (ap act_of (calls_none (place_at w t) e)) ∙ a in cc)
      entering_calls (Some k) e a =
          let of : IsOfLine k (key_of l m) = subst (IsLineAct k (location (place_at w t))) a
          (line_act (place_at w t) k single e) in
          e ∙ ap Some (sym (key_one l k m of.0 of.1))
