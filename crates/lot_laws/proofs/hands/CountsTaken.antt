-- A thread that hands its lock over counts those that it takes: what its place says of them then is so.
use Rattle.lot_laws.proofs.Imports
use Imports.{ℕ, Bool, true, false, Option, Some, None, if◌then◌else◌, ◌==◌, ◌≡◌, ◌≢◌, ◌+◌, ◌*◌, ◌<◌, ◌≤◌, inl}
use Imports.{inr, List, [], ◌∷◌, length, set, get_or, map, refl, sym, ◌∙◌, ap, subst, arith, get_or-set_same}
use Imports.{get_or-set_other, length-set, cases_eq, cases_lt, set_past, Waiter, Want, threads_of, lock_picked}
use Imports.{without_lock_picked, Access, Turn, Outcome, Reply, TakenBy, Admission, HandOver, in_hand_of, took}
use Imports.{Place, Idle, RwLock, next_place, HasTakenNobody, LockState, is_recursive, picked, wants_shared}
use Imports.{queued_of, Turned, Main, has_readers, State, held, place_at, places_told, put, queue_at}
use Imports.{sharers_in_hand, state_after_take, successor_from, want_of_successor, wants_more_in_hand}
use Imports.{told_count, lock_state, locks_of, locations_of, FitsItsLock, IsCountOfHand, IsInductive}
use Imports.{carried_at, rules_in, nowhere, location, one_more_picked}
use Rattle.spec_locks.specs.declared.calls.Access.TheVariants as access
use Rattle.steps_base.specs.declared.acts.TakeWhich.TheVariants as whom
use Rattle.steps_rwlock_fair.specs.declared.hand_over.Taken.{Taken as Counted}
use Rattle.steps_rwlock_fair.specs.declared.hand_over.HandOverAt.TheVariants as handing
use Rattle.spec_locks.specs.Locks.{Once}
use Rattle.lot_laws.proofs.calls.EachLock.{moves_nobody, turned_so}
use Rattle.lot_laws.proofs.machine.Parts.{IsSingle}
use Rattle.lot_laws.proofs.promises.PlacePromises.{calls_one_lock}
use Rattle.lot_laws.proofs.machine.AtPlaces.{in_no_hand}
use Rattle.lot_laws.proofs.hands.Counting.{HasCounted, counting_row, counted_on}
use Rattle.lot_laws.proofs.machine.Parts.{same}
use Rattle.lot_laws.proofs.hands.Cases.{OneMore, nobody_more, takes_one_more, wanting_more}
use Rattle.lot_laws.proofs.hands.Counted.{is_more, same_hand, same_sharers, same_successor}
use Rattle.spec_locks.proofs.HandsTaken as hands
use Rattle.lot_laws.proofs.hands.InHand.{is_wanted, wanted_of}
use Rattle.lot_laws.proofs.calls.Looking.{set_keeps}
use Rattle.lot_laws.proofs.sites.PicksKept.{picks_tied, under_of}

-- ---------------------------------------------------------------- one at most wants more

queued_more : (xs : List Waiter) → wanting_more (map queued_of xs) ≡ hands.wanting_more xs
queued_more [] = refl
queued_more (x ∷ xs) = ap (λ n. (if wants_shared x.want then 0 else 1) + n) (queued_more xs)

module _ (w : State) (t l : ℕ) (inductive : IsInductive w) where
  few_picked : (start : Option Want) → wanting_more (picked (rules_in w l).sort start (lock_state w l).queue)
      ≤ 1
  few_picked start = subst (λ q. wanting_more q ≤ 1) (picks_tied (rules_in w l).sort start (2 * l)
      (queue_at w (2 * l)) (under_of (locations_of (place_at w)) l Main (queue_at w (2 * l))
      (inductive.stands.waits l Main)))
      (let one : hands.wanting_more (lock_picked start (is_recursive (rules_in w l).sort)
      (queue_at w (2 * l))) ≤ 1 = one_more_picked start (is_recursive (rules_in w l).sort)
      (queue_at w (2 * l)) in
      let tied : wanting_more (map queued_of (lock_picked start (is_recursive (rules_in w l).sort)
      (queue_at w (2 * l)))) ≡ hands.wanting_more (lock_picked start (is_recursive (rules_in w l).sort)
      (queue_at w (2 * l))) = queued_more (lock_picked start (is_recursive (rules_in w l).sort)
      (queue_at w (2 * l))) in
      omega arith)

  -- after a step of a thread that had nobody in hand
  one_more_then : IsSingle (place_at w t) → (v : State) (x : Turn) (o : Outcome) → (rules_in w l).sort ≢ Once
      → Turned (locks_of w) t x o (locks_of v) → HasTakenNobody (lock_state w l) t
      → OneMore (lock_state v l).taken t
  one_more_then single v x o lock turned none = turned_so (λ (s z : LockState). OneMore z.taken t)
      (locks_of w) (locks_of v) t l (λ c m every owned number may. absurd (moves_nobody (locks_of w) t
      (calls_one_lock w t inductive single) c m every owned number may)) (nobody_more t (lock_state w l).taken
      none)
      (λ c needs. takes_one_more (lock_state w l) t none (rules_in w l) lock few_picked c needs) x o turned

-- by where it stands then
one_in_hand : (v : State) (t l : ℕ) → IsInductive v → HasCounted l (place_at v t)
    → OneMore (lock_state v l).taken t
    → (u i : ℕ) (x y : Want) → wants_more_in_hand t (held (place_at v u)) ≡ Some x
    → wants_more_in_hand t (held (place_at v i)) ≡ Some y → u ≡ i
one_in_hand v t l inductive has one u i x y e f = let a = is_more t (held (place_at v u)) x e in let b =
    is_more t (held (place_at v i)) y f in
    one u i x y (taken_so u x a.0) a.1 (taken_so i y b.0) b.1
  where
    taken_so : (j : ℕ) (z : Want) → wanted_of t (held (place_at v j)) ≡ Some z → (lock_state v l).taken j
        ≡ Some (record { by = t; want = z })
    taken_so j z g = is_wanted t ((lock_state v l).taken j) z
        (sym (same_hand v t l inductive has.of has.any has.has_taken j) ∙ g)

-- ---------------------------------------------------------------- the take

-- a thread that isn't moved by what is told stays where it is
told_stays : (u : ℕ) (r : Reply) (p : Place) → next_place p r ≡ p → (us : List ℕ) (ps : List Place)
    → get_or ps u Idle ≡ p
    → get_or (places_told r us ps) u Idle ≡ p
told_stays u r p stays [] ps is = is
told_stays u r p stays (x ∷ us) ps is = told_stays u r p stays us (set ps x (next_place (get_or ps x Idle) r))
    (elim (cases_eq u x) [
      | inl e ↦ elim (cases_lt x (length ps)) [
        | inl lt ↦ rw e (get_or-set_same ps x (next_place (get_or ps x Idle) r) Idle lt
            ∙ ap (λ q. next_place q r) (rw e at is) ∙ stays)
        | inr ge ↦ ap (λ qs. get_or qs u Idle) (set_past ps x (next_place (get_or ps x Idle) r) ge) ∙ is
      ]
      | inr ne ↦ get_or-set_other ps x u (next_place (get_or ps x Idle) r) Idle ne ∙ is
    ])

pub took_is : (x : Access) (b : Bool) (k : Counted) → in_hand_of (HandOver x b (took x k)) ≡ Some k
took_is access.Shared b k = refl
took_is access.Upgradable b k = refl
took_is access.Exclusive b k = refl

module _ (w : State) (t l : ℕ) (a : Admission) (x : Access) (b : Bool) (inductive : IsInductive w)
    (there : t < length w.places)
    (is : place_at w t ≡ RwLock l a (HandOver x b handing.Take)) where
  abbrev taken_all : State
  taken_all = state_after_take w t (2 * l) (whom.Picked None a.recursive)

  -- tells what it is told
  abbrev pub picked_now : Counted
  picked_now = record {
    sharers = sharers_in_hand t taken_all.places;
    successor = want_of_successor (successor_from t 0 taken_all.places);
    none_left = length (without_lock_picked None a.recursive (2 * l) (queue_at w (2 * l))) == 0;
  }

  abbrev pub place_then : Place
  place_then = RwLock l a (HandOver x b (took x picked_now))

  abbrev pub state_then : State
  state_then = put taken_all t place_then

  counts : counted_on place_then l ≡ Some picked_now
  counts = ap (λ y. if y then in_hand_of (HandOver x b (took x picked_now)) else None) (same l)
      ∙ took_is x b picked_now

  size : length taken_all.places ≡ length w.places
  size = told_count (TakenBy t) (threads_of (lock_picked None a.recursive (queue_at w (2 * l)))) w.places

  at_then : place_at state_then t ≡ place_then
  at_then = get_or-set_same taken_all.places t place_then Idle (rw size there)

  still : place_at taken_all t ≡ RwLock l a (HandOver x b handing.Take)
  still = told_stays t (TakenBy t) (RwLock l a (HandOver x b handing.Take)) refl
      (threads_of (lock_picked None a.recursive (queue_at w (2 * l)))) w.places is

  -- the place of the thread is in no hand, before and after
  same_wants : (u : ℕ) → wanted_of t (held (place_at state_then u)) ≡ wanted_of t
      (held (place_at taken_all u))
  same_wants u = ap (wanted_of t) (set_keeps held taken_all.places t u place_then Idle
      ((counting_row l picked_now place_then counts).unheld ∙ sym (ap held still)))

  nobody_before : HasTakenNobody (lock_state w l) t
  nobody_before = in_no_hand w inductive t l (λ h. let none : carried_at (place_at w t) l ≡ None =
      ap (λ p. carried_at p l) is ∙ ap (λ y. (if y then location (RwLock l a (HandOver x b handing.Take))
      else nowhere).has_taken) (same l) in
      let f : ◌≡◌ {A = Option Bool} None (Some false) = sym none ∙ h in cc)

  -- a lock that is shared
  shared : (rules_in w l).sort ≢ Once
  shared once =
      let fits : FitsItsLock w (RwLock l a (HandOver x b handing.Take)) = subst (FitsItsLock w) is
      (inductive.stands.calls t) in
      let f : has_readers Once ≡ true = subst (λ sort. has_readers sort ≡ true) once fits.0.0 in cc

  pub take_counts : IsInductive state_then → (y : Turn) (o : Outcome) → Turned (locks_of w) t y o
      (locks_of state_then)
      → IsCountOfHand state_then t picked_now
  take_counts afterwards y o turned = record {
    number = same_sharers taken_all state_then t (length-set taken_all.places t place_then) same_wants;
    more = ap want_of_successor (same_successor taken_all state_then t (length-set taken_all.places t
        place_then) same_wants);
    one = one_in_hand state_then t l afterwards (subst (HasCounted l) (sym at_then)
        (counting_row l picked_now place_then counts)) (one_more_then w t l inductive
        (subst IsSingle (sym is) tt) state_then y o shared turned nobody_before);
  }
