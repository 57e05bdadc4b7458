-- In a run of the world a mutex that each call gives up fairly has no more new owners than there were threads
-- before one that waits.
use Rattle.lot_laws.proofs.Imports
use Imports.{ℕ, zero, suc, true, false, Option, Some, None, ◌≡◌, ◌≢◌, ◌+◌, ◌≤◌, ◌<◌, ◌⊎◌, inl, inr, List, []}
use Imports.{◌∷◌, length, refl, sym, ◌∙◌, ap, subst, arith, cases_lt, Step, IsHandedOn, ahead, in_hands, passed}
use Imports.{turns, Taken, one_if_some, standing, MayWait, Line, Main, Second, has_readers}
use Imports.{nobody_overtakes, queues_keep_order, Idle, State, after, after_steps, kind_at, place_at}
use Imports.{step_outcome, after_size, IsKept, WaitsFor, IsInside, call_at, call_state, lock_state, locks_of}
use Imports.{owner_at, taken_at, IsWorld, is_mutex, rules_in, FairlyThroughout, IsGivenUpFairly}
use Imports.{NobodyIsOvertaken, StandsThroughout, new_owners, newly_owned}
use Rattle.spec_locks.specs.declared.kinds.Kind.TheVariants as kinds
use Rattle.spec_locks.specs.Locks as locks
use Rattle.lot_laws.proofs.promises.WorldRuns.{step_is, world_after, world_kept}
use Rattle.lot_laws.proofs.machine.KindsStay.{after_kinds}
use Rattle.lot_laws.proofs.machine.Parts.{past_all, taken_held}
use Rattle.lot_laws.proofs.mutex.FairHands.{given_up_fairly, in_hand}
use Rattle.lot_laws.proofs.mutex.FairReleases.{goes_fairly, mutex_sort, stays_owned}
use Rattle.lot_laws.proofs.mutex.FreeMutexes.{comes_closer, gets_owner}

-- ---------------------------------------------------------------- one in a hand

-- where no two are in a hand, one is at most
one_hand : (n : ℕ) (taken : ℕ → Option Taken) → ((i j : ℕ) → taken i ≢ None → taken j ≢ None → i ≡ j)
    → in_hands n taken ≤ 1
one_hand n taken same = (by_number n).0
  where
    some_so : (o : Option Taken) → (one_if_some o ≡ 0) ⊎ ((o ≢ None) × (one_if_some o ≡ 1))
    some_so None = inl refl
    some_so (Some x) = inr ((λ e. cc), refl)

    -- no thread is, where a later one is in a hand
    by_number : (n : ℕ) → (in_hands n taken ≤ 1) × ((i : ℕ) → n ≤ i → taken i ≢ None → in_hands n taken ≡ 0)
    by_number zero = (omega arith, λ i le some. refl)
    by_number (suc n) = let more = by_number n in elim (some_so (taken n)) [
      | inl none ↦ (
        (let few = more.0 in omega arith),
        λ i le some. (let zero_there : in_hands n taken ≡ 0 = more.1 i (omega arith) some in omega arith),
      )
      | inr there ↦ (
        (let zero_there : in_hands n taken ≡ 0 = more.1 n (omega arith) there.0 in omega arith),
        λ i le some. absurd (let e : n ≡ i = same n i there.0 some in omega arith),
      )
    ]

module _ (w : State) (h : IsWorld w) (l : ℕ) (sort : (rules_in w l).sort ≡ locks.Mutex) where
  abbrev k : IsKept w
  k = world_kept w h

  -- each hand is that of the thread inside
  inside_main : (u : ℕ) (x : Taken) → (lock_state w l).taken u ≡ Some x → IsInside w x.by l Main
  inside_main u x e = let there = k.in_hand u l x e in by_line there.0 there.1
    where
      by_line : (m : Line) → IsInside w x.by l m → IsInside w x.by l Main
      by_line Main i = i
      by_line Second i = absurd (let f : false ≡ true = ap has_readers (sym sort) ∙ k.second_line x.by l
          (k.inside_owes x.by l Second i) in cc)

  one_taken : (i j : ℕ) → (lock_state w l).taken i ≢ None → (lock_state w l).taken j ≢ None → i ≡ j
  one_taken i j a b = by_hands (taken_at (place_at w i) l) (taken_at (place_at w j) l) refl refl
    where
      by_hands : (x y : Option Taken) → taken_at (place_at w i) l ≡ x → taken_at (place_at w j) l ≡ y → i ≡ j
      by_hands None y e f = absurd (a e)
      by_hands x None e f = absurd (b f)
      by_hands (Some x) (Some y) e f =
          let both : Some x.by ≡ Some y.by = sym (inside_main i x e) ∙ inside_main j y f in
          let same : y.by ≡ x.by = cc in
          sym (h.inductive.stands.hands.alone x.by l i j false false sort (taken_held
          (place_at w i) x.by l x.want e)
          (taken_held (place_at w j) x.by l y.want (f ∙ (λ n. Some (record { by = same n; want = y.want })))))

  pub few_hands : (n : ℕ) → in_hands n (lock_state w l).taken ≤ 1
  few_hands n = one_hand n (lock_state w l).taken one_taken

  -- ---------------------------------------------------------------- each waiter is a thread

  pub is_thread : (u : ℕ) → 1 ≤ standing u (lock_state w l) → u < length w.places
  is_thread u some = elim (cases_lt u (length w.places)) [
    | inl lt ↦ lt
    | inr ge ↦ absurd (let waits : MayWait (call_at w u).purpose l = k.waiting u l some in
        let idle : place_at w u ≡ Idle = past_all w.places u Idle ge in
        let none : call_at w u ≡ call_state Idle (λ j. locks.rights_of (lock_state w j) u) = ap
        (λ p. call_state p (λ j. locks.rights_of (lock_state w j) u)) idle in
        subst (λ (c : Rattle.spec_locks.specs.Runs.CallState). MayWait c.purpose l) none waits)
  ]

-- ---------------------------------------------------------------- a run

stands_first : (w : State) (ss : List Step) (l t : ℕ) → StandsThroughout w ss l t → WaitsFor w t l
stands_first w [] l t h = h
stands_first w (s ∷ ss) l t h = h.0

-- as many have yet to come before it: those ahead, and one in a hand, or one that comes in where it is free
abbrev before_it : Option ℕ → ℕ → ℕ
before_it None hands = 1
before_it (Some a) hands = hands

is_owned : (o : Option ℕ) (a : ℕ) → o ≡ Some a → o ≢ None
is_owned o a e none = let f : ◌≡◌ {A = Option ℕ} (Some a) None = sym e ∙ none in cc

no_hands : (n : ℕ) (taken : ℕ → Option Taken) → ((u : ℕ) → taken u ≡ None) → in_hands n taken ≡ 0
no_hands zero taken none = refl
no_hands (suc n) taken none = let e : one_if_some (taken n) ≡ 0 = ap one_if_some (none n) in
    let more = no_hands n taken none in omega arith

module _ (w : State) (s : Step) (h : IsWorld w) (n l t : ℕ) (size : length w.places ≡ n)
    (one_owner : is_mutex (kind_at w l) ≡ true) (fairly : IsGivenUpFairly w l)
    (before : WaitsFor w t l) (now : WaitsFor (after w s) t l) where
  abbrev v : State
  v = after w s

  sort : (rules_in w l).sort ≡ locks.Mutex
  sort = mutex_sort (kind_at w l) one_owner

  kept : IsKept w
  kept = world_kept w h

  handed_on : owner_at w l ≢ None → owner_at v l ≢ None → IsHandedOn (locks_of w) (locks_of v) n l t
  handed_on owned owned_on = record {
    mutex = sort;
    waits = before;
    waits_on = now;
    owned = owned;
    owned_on = owned_on;
    few = λ u some. subst (λ m. u < m) size (is_thread w h l sort u some);
    hands = (goes_fairly w s h l one_owner fairly).hands;
  }

  closer : ahead t (lock_state v l).queue ≤ ahead t (lock_state w l).queue
  closer = comes_closer t (lock_state w l).queue (lock_state v l).queue (queues_keep_order (locks_of w)
      (locks_of v) s (step_outcome w s) (step_is w s h) l)
      before (let once : standing t (lock_state w l) ≤ 1 = (kept.state l).once t in omega arith) now

  none_taken : owner_at w l ≡ None → (u : ℕ) → (lock_state w l).taken u ≡ None
  none_taken free u = by_hand ((lock_state w l).taken u) refl
    where
      by_hand : (o : Option Taken) → (lock_state w l).taken u ≡ o → (lock_state w l).taken u ≡ None
      by_hand None e = e
      by_hand (Some x) e = absurd (in_hand w h l sort fairly u x e free)

  none_in_hands : owner_at w l ≡ None → owner_at v l ≢ None → in_hands n (lock_state v l).taken ≡ 0
  none_in_hands free owned = elim (gets_owner (locks_of w) (locks_of v) s.thread l
      (step_outcome w s) kept.state sort free s.turn (step_is w s h).1) [
        | inl still ↦ absurd (owned still)
        | inr same ↦ ap (in_hands n) same ∙ no_hands n (lock_state w l).taken (none_taken free)
      ]

  -- each new owner costs one of them
  costs : (o p : Option ℕ) → owner_at w l ≡ o → owner_at v l ≡ p
      → newly_owned o p + (ahead t (lock_state v l).queue + before_it p (in_hands n (lock_state v l).taken))
      ≤ ahead t (lock_state w l).queue + before_it o (in_hands n (lock_state w l).taken)
  costs None None e f = let less = closer in omega arith
  costs None (Some b) e f =
      let less = closer in
      let none = none_in_hands e (is_owned (owner_at v l) b f) in
      omega arith
  costs (Some a) None e f =
      absurd (stays_owned w s h l one_owner fairly t now (is_owned (owner_at w l) a e) f)
  costs (Some a) (Some b) e f =
      let on = handed_on (is_owned (owner_at w l) a e) (is_owned (owner_at v l) b f) in
      let cost = nobody_overtakes (locks_of w) (locks_of v) s (step_outcome w s) n l t kept.state
      (step_is w s h) on in
      let passes : passed (owner_at w l) (owner_at v l) ≡ passed (Some a) (Some b) =
      ap (λ x. passed x (owner_at v l)) e ∙ ap (passed (Some a)) f in
      let sum : turns n t (lock_state v l) + passed (owner_at w l) (owner_at v l)
      ≤ turns n t (lock_state w l) = cost in
      let new : newly_owned (Some a) (Some b) ≡ passed (Some a) (Some b) = refl in
      omega arith

-- how many threads have yet to come before this one
abbrev to_come : State → ℕ → ℕ → ℕ → ℕ
to_come w n l t =
    ahead t (lock_state w l).queue + before_it (owner_at w l) (in_hands n (lock_state w l).taken)

come_before : (ss : List Step) (w : State) (n l t : ℕ) → IsWorld w → length w.places ≡ n
    → is_mutex (kind_at w l) ≡ true → FairlyThroughout w ss l
    → StandsThroughout w ss l t → new_owners w ss l + to_come (after_steps w ss) n l t ≤ to_come w n l t
come_before [] w n l t h size one_owner fairly stands = omega arith
come_before (s ∷ ss) w n l t h size one_owner fairly stands =
    let cost = costs w s h n l t size one_owner fairly.0 stands.0 (stands_first (after w s) ss l t stands.1)
    (owner_at w l) (owner_at (after w s) l) refl refl in
    let rest = come_before ss (after w s) n l t (world_after w s h) ((after_size w s).threads ∙ size)
    (ap is_mutex (after_kinds w s l) ∙ one_owner) fairly.1 stands.1 in
    omega arith

pub world_steps : (ss : List Step) (w : State) → IsWorld w → IsWorld (after_steps w ss)
world_steps [] w h = h
world_steps (s ∷ ss) w h = world_steps ss (after w s) (world_after w s h)

-- ---------------------------------------------------------------- either mutex

gives_up : (ss : List Step) (w : State) (l : ℕ) → IsWorld w → kind_at w l ≡ kinds.Fair
    → FairlyThroughout w ss l
gives_up [] w l h fair = tt
gives_up (s ∷ ss) w l h fair = (
  given_up_fairly w h l fair,
  gives_up ss (after w s) l (world_after w s h)
      (after_kinds w s l ∙ fair),
)

one_at_most : (o : Option ℕ) (hands : ℕ) → hands ≤ 1 → before_it o hands ≤ 1
one_at_most None hands few = omega arith
one_at_most (Some a) hands few = few

pub nobody_is_overtaken : (w v : State) (ss : List Step) → IsWorld w → v ≡ after_steps w ss
    → NobodyIsOvertaken w ss v
nobody_is_overtaken w v ss h led t l released stands = elim released [
  | inl fair ↦ bounded (ap is_mutex fair) (gives_up ss w l h fair)
  | inr plain ↦ bounded (ap is_mutex plain.0) plain.1
]
  where
    bounded : is_mutex (kind_at w l) ≡ true → FairlyThroughout w ss l
        → new_owners w ss l + ahead t (lock_state v l).queue ≤ ahead t (lock_state w l).queue + 1
    bounded one_owner fairly = subst (λ (x : State). new_owners w ss l + ahead t (lock_state x l).queue
        ≤ ahead t (lock_state w l).queue + 1) (sym led)
        (let bound = come_before ss w (length w.places) l t h refl one_owner fairly stands in
        let few = one_at_most (owner_at w l) (in_hands (length w.places) (lock_state w l).taken)
        (few_hands w h l (mutex_sort (kind_at w l) one_owner) (length w.places)) in
        omega arith)
