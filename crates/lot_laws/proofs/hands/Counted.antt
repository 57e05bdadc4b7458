-- A place's counts of the threads in hand, made anew from where all threads stand: these are handed the
-- lock.
use Rattle.lot_laws.proofs.Imports
use Imports.{ℕ, zero, suc, Bool, true, false, Option, Some, None, if◌then◌else◌, ◌==◌, ◌&&◌, not, ◌≡◌, ◌≢◌, ◌+◌}
use Imports.{◌<◌, ◌≤◌, List, [], ◌∷◌, length, get_or, cond, refl, sym, ◌∙◌, ap, subst, arith, filter, eqb-true}
use Imports.{Want, Exclusive, Upgradable, Shared, CallOnce, heir_of, is_thread, Hand, Of, hand, hand_owner}
use Imports.{in_hand, taken_from, HasInHand, IsNamed, Place, Idle, Mutex, RwLock, Once, Condvar, Semaphore}
use Imports.{calls, is_lock, or_else, profile, taker, IsSuccessor, Queued, Taken, readers, shares_handed}
use Imports.{sharing_handed, wants_shared, Successor, State, held, held_by, place_at, shares_at, shares_in_hand}
use Imports.{sharers_in_hand, successor_from, successor_or, want_of_successor, wants_more_in_hand, lock_state}
use Imports.{taken_at, nowhere, location, IsCountOfHand, IsInductive, carried_at, hand_at, CondvarPlace}
use Imports.{mutex_beside, condvar_profile, mutex_side}
use Rattle.core_base.specs.declared.wants.Want.TheVariants.{Wait}
use Rattle.steps_rwlock_fair.specs.declared.hand_over.Taken.{Taken as Counted}
use Rattle.lot_laws.specs.Locations.{Location, location_by}
use Rattle.lot_laws.proofs.machine.Parts.{IsOf, same, IsSingle, single_held, single_location, single_taken}
use Rattle.lot_laws.proofs.machine.Parts.{single_taker, taken_out, IsInHandOf, in_hand_where, aparts}
use Rattle.lot_laws.proofs.hands.Handed.{in_hand_here, of_carries}
use Rattle.lot_laws.proofs.mutex.Waiters.{side_wanted}
use Rattle.lot_laws.proofs.hands.Moved.{thread_of}
use Rattle.lot_laws.proofs.hands.InHand.{counted, heir_wants, is_wanted, shared_by, sharers_from}
use Rattle.lot_laws.proofs.hands.InHand.{sharers_same, wanted_is, wanted_of, wants_heir}

-- ---------------------------------------------------------------- the machine's hand and the lock's

by_row : (t : ℕ) (h : Option Hand) (x : Option Want) (b : Bool) → ((g : Bool) → h ≡ hand t g → (g ≡ false)
    × (b ≡ true))
    → wanted_of t (held_by (hand_owner h) x) ≡ wanted_of t (taken_from h x b)
by_row t None None b f = refl
by_row t None (Some x) b f = refl
by_row t (Some (Of v true)) None b f = refl
by_row t (Some (Of v true)) (Some y) b f = either (v == t) refl
  where
    either : (c : Bool) → (v == t) ≡ c → ◌≡◌ {A = Option Want} (if c then Some y else None) None
    either true e = absurd (let g : true ≡ false = (f true (ap (λ u. hand u true) (eqb-true v t e))).0 in cc)
    either false e = refl
by_row t (Some (Of v false)) None b f = refl
by_row t (Some (Of v false)) (Some y) true f = refl
by_row t (Some (Of v false)) (Some y) false f = either (v == t) refl
  where
    either : (c : Bool) → (v == t) ≡ c → ◌≡◌ {A = Option Want} (if c then Some y else None) None
    either true e = absurd (let g : false ≡ true = (f false (ap (λ u. hand u false) (eqb-true v t e))).1
        in cc)
    either false e = refl

module _ (w : State) (t l : ℕ) (inductive : IsInductive w) (own : IsOf l (place_at w t)) (any : Bool)
    (has_taken : carried_at (place_at w t) l ≡ in_hand any false) where
  by_any : (c g : Bool) → in_hand c false ≡ Some g → g ≡ false
  by_any true g e = let f : false ≡ g = cc in sym f
  by_any false g e = absurd cc

  -- a thread that is in its hand is so at its lock, and was handed nothing
  pub hand_there : (u : ℕ) → is_thread t (taker (place_at w u)) ≡ true → hand_at (place_at w u) l
      ≡ hand t false
  hand_there u h =
      let k : IsInHandOf (place_at w u) t = in_hand_where (place_at w u) t (aparts w inductive u) h in
      let here : k.lock ≡ l = in_hand_here (place_at w) inductive.stands.hands t l u
      (of_carries l (place_at w t) own) k in
      let held_here : hand_at (place_at w u) l ≡ hand t k.handed =
      subst (λ j. hand_at (place_at w u) j ≡ hand t k.handed) here k.hand in
      held_here ∙ ap (hand t) (by_any any k.handed (sym has_taken ∙ inductive.stands.hands.taken t u l k.handed
      held_here))

  -- in a call of one lock
  fresh_here : (u : ℕ) → IsSingle (place_at w u) → (g : Bool) → (profile (place_at w u)).hand ≡ hand t g
      → (g ≡ false) × (calls (place_at w u) l ≡ true)
  fresh_here u single g h = by_call (calls (place_at w u) l)
      (sym (ap (λ (y : Location). y.hand) (single_location (place_at w u) l single))
      ∙ hand_there u (ap (is_thread t) (single_taker (place_at w u) single ∙ ap hand_owner h) ∙ same t))
    where
      by_call : (c : Bool) → (if c then location (place_at w u) else nowhere).hand ≡ hand t false
          → (g ≡ false) × (c ≡ true)
      by_call true e = (let both : hand t g ≡ hand t false = sym h ∙ e in cc, refl)
      by_call false e = absurd cc

  hand_of_one : (u : ℕ) → IsSingle (place_at w u) → wanted_of t (held (place_at w u)) ≡ wanted_of t
      (taken_at (place_at w u) l)
  hand_of_one u single = ap (wanted_of t) (single_held (place_at w u) single)
      ∙ by_row t (profile (place_at w u)).hand (profile (place_at w u)).wants (calls (place_at w u) l)
      (fresh_here u single)
      ∙ ap (wanted_of t) (sym (single_taken (place_at w u) l single))

  -- beside a condition variable
  module _ (u k : ℕ) (at : CondvarPlace) (is : place_at w u ≡ Condvar k at) where
    abbrev is_beside : Bool
    is_beside = is_lock l (mutex_beside at) && not (k == l)

    hand_beside : (x : Option Hand) → (mutex_side at).hand ≡ x
        → wanted_of t (held_by (hand_owner (or_else x None))
        (or_else (mutex_side at).wants (condvar_profile at).wants))
        ≡ wanted_of t (held_by (hand_owner x) (mutex_side at).wants)
    hand_beside None e = refl
    hand_beside (Some (Of v b)) e = rw (side_wanted at v b e) refl

    fresh_beside : (g : Bool) → (mutex_side at).hand ≡ hand t g → (g ≡ false) × (is_beside ≡ true)
    fresh_beside g h = by_call (k == l) (is_lock l (mutex_beside at)) (subst (λ q. hand_at q l ≡ hand t false)
        is
        (hand_there u (ap (λ q. is_thread t (taker q)) is
        ∙ ap (λ x. is_thread t (hand_owner (or_else x None))) h ∙ same t)))
      where
        by_call : (c d : Bool)
            → (if c then location (Condvar k at) else if d then location_by (mutex_side at) else nowhere).hand
            ≡ hand t false
            → (g ≡ false) × ((d && not c) ≡ true)
        by_call true d e = absurd cc
        by_call false true e = (let both : hand t g ≡ hand t false = sym h ∙ e in cc, refl)
        by_call false false e = absurd cc

    taken_beside : (b : Bool)
        → taken_from (mutex_side at).hand (mutex_side at).wants b
        ≡ (if b then taken_from (mutex_side at).hand (mutex_side at).wants true else None)
    taken_beside true = refl
    taken_beside false = taken_out (mutex_side at).hand (mutex_side at).wants

    hand_of_two : wanted_of t (held (place_at w u)) ≡ wanted_of t (taken_at (place_at w u) l)
    hand_of_two = ap (λ q. wanted_of t (held q)) is ∙ hand_beside (mutex_side at).hand refl
        ∙ by_row t (mutex_side at).hand (mutex_side at).wants is_beside fresh_beside
        ∙ ap (wanted_of t) (taken_beside is_beside) ∙ ap (λ q. wanted_of t (taken_at q l)) (sym is)

  pub same_hand : (u : ℕ) → wanted_of t (held (place_at w u)) ≡ wanted_of t (taken_at (place_at w u) l)
  same_hand u = by_place (place_at w u) refl
    where
      by_place : (q : Place) → place_at w u ≡ q → wanted_of t (held (place_at w u)) ≡ wanted_of t
          (taken_at (place_at w u) l)
      by_place (Condvar k at) e = hand_of_two u k at e
      by_place Idle e = hand_of_one u (rw e tt)
      by_place (Mutex k at) e = hand_of_one u (rw e tt)
      by_place (RwLock k a c) e = hand_of_one u (rw e tt)
      by_place (Once k at) e = hand_of_one u (rw e tt)
      by_place (Semaphore k at) e = hand_of_one u (rw e tt)

-- ---------------------------------------------------------------- counts

share_counts : (t : ℕ) (o : Option Taken) → shares_handed t o ≡ (if shares_in_hand t o then 1 else 0)
share_counts t None = refl
share_counts t (Some h) = refl

shares_of : (t : ℕ) (o p : Option Taken) → wanted_of t o ≡ wanted_of t p → shares_handed t o
    ≡ shares_handed t p
shares_of t o p e = by_wanted o ∙ ap share e ∙ sym (by_wanted p)
  where
    share : Option Want → ℕ
    share None = 0
    share (Some x) = if wants_shared x then 1 else 0

    by_wanted : (q : Option Taken) → shares_handed t q ≡ share (wanted_of t q)
    by_wanted None = refl
    by_wanted (Some h) = either (h.by == t)
      where
        either : (b : Bool) → ◌≡◌ {A = ℕ} (if b && wants_shared h.want then 1 else 0)
            (share (if b then Some h.want else None))
        either true = refl
        either false = refl

-- a thread that wants more, and is in the hand
more_is : (t : ℕ) (o : Option Taken) (x : Want) → wanted_of t o ≡ Some x → x ≢ Shared → wants_more_in_hand t o
    ≡ Some x
more_is t None x e ne = absurd cc
more_is t (Some h) x e ne = either (h.by == t) e
  where
    unshared : (y : Want) → y ≢ Shared → wants_shared y ≡ false
    unshared Shared f = absurd (f refl)
    unshared Exclusive f = refl
    unshared Upgradable f = refl
    unshared Wait f = refl
    unshared CallOnce f = refl

    either : (b : Bool) → ◌≡◌ {A = Option Want} (if b then Some h.want else None) (Some x)
        → ◌≡◌ {A = Option Want} (if b && not (wants_shared h.want) then Some h.want else None) (Some x)
    either true f = let same_want : h.want ≡ x = cc in ap (λ c. if not c then Some h.want else None)
        (unshared h.want (λ g. ne (sym same_want ∙ g))) ∙ f
    either false f = absurd cc

pub is_more : (t : ℕ) (o : Option Taken) (x : Want) → wants_more_in_hand t o ≡ Some x
    → (wanted_of t o ≡ Some x) × (x ≢ Shared)
is_more t None x e = absurd cc
is_more t (Some h) x e = either (h.by == t) e
  where
    by_share : (c : Bool) → wants_shared h.want ≡ c → ◌≡◌ {A = Option Want} (if not c then Some h.want
        else None) (Some x) → (◌≡◌ {A = Option Want} (Some h.want) (Some x)) × (x ≢ Shared)
    by_share true g f = absurd cc
    by_share false g f = (
      f,
      λ s. let same_want : h.want ≡ x = cc in let yes : true ≡ false =
          sym (ap wants_shared (same_want ∙ s)) ∙ g in cc,
    )

    either : (b : Bool) → ◌≡◌ {A = Option Want} (if b && not (wants_shared h.want) then Some h.want else None)
        (Some x) → (◌≡◌ {A = Option Want} (if b then Some h.want else None) (Some x)) × (x ≢ Shared)
    either true f = by_share (wants_shared h.want) refl f
    either false f = absurd cc

-- ---------------------------------------------------------------- the rights that the lock hands over

module _ (w : State) (t l : ℕ) (inductive : IsInductive w) (own : IsOf l (place_at w t)) (any : Bool)
    (has_taken : carried_at (place_at w t) l ≡ in_hand any false) (k : Counted) (count : IsCountOfHand w t k)
  where
    abbrev taken : ℕ → Option Taken
    taken u = taken_at (place_at w u) l

    abbrev pub heir : Option ℕ
    heir = thread_of (successor_from t 0 w.places)

    named : IsNamed k.successor heir
    named = by_heir (successor_from t 0 w.places) count.more
      where
        by_heir : (o : Option Successor) → want_of_successor o ≡ k.successor
            → IsNamed k.successor (thread_of o)
        by_heir None e = subst (λ x. IsNamed x None) e tt
        by_heir (Some y) e = subst (λ x. IsNamed x (Some y.thread)) e tt

    -- in the words of the lock
    taken_more : (u : ℕ) (x : Want) → wants_more_in_hand t (held (place_at w u)) ≡ Some x
        → (taken u ≡ Some (record { by = t; want = x })) × (x ≢ Shared)
    taken_more u x e = let m = is_more t (held (place_at w u)) x e
        in (is_wanted t (taken u) x (sym (same_hand w t l inductive own any has_taken u) ∙ m.0), m.1)

    more_taken : (u : ℕ) (x : Want) → taken u ≡ Some (record { by = t; want = x }) → x ≢ Shared
        → wants_more_in_hand t (held (place_at w u)) ≡ Some x
    more_taken u x e ne = more_is t (held (place_at w u)) x (same_hand w t l inductive own any has_taken u
        ∙ wanted_is t (taken u) x e) ne

    succeeds : IsSuccessor (lock_state w l) t (heir_of heir k.successor)
    succeeds = subst (λ x. IsSuccessor (lock_state w l) t (heir_of heir x)) count.more
        (by_heir (successor_from t 0 w.places) refl)
      where
        by_heir : (o : Option Successor) → successor_from t 0 w.places ≡ o
            → IsSuccessor (lock_state w l) t (heir_of (thread_of o) (want_of_successor o))
        by_heir None e u x = (
          λ f. absurd cc,
          λ f. absurd (let y = wants_heir t 0 w.places u x (more_taken u x f.0 f.1)
              in let g : ◌≡◌ {A = Option Successor} None (Some y.0) = sym e ∙ y.1 in cc),
        )
        by_heir (Some y) e u x = (
          λ f. let both : record {
            thread = y.thread;
            want = y.want;
          } ≡ record { thread = u; want = x } = cc in
              let m = taken_more y.thread y.want at_heir in (
                subst (λ (q : Queued). taken q.thread ≡ Some (record { by = t; want = q.want })) both m.0,
                subst (λ (q : Queued). q.want ≢ Shared) both m.1,
              ),
          λ f. let here = more_taken u x f.0 f.1 in
              let same_one : u ≡ y.thread = count.one u y.thread x y.want here at_heir in
              let same_want : ◌≡◌ {A = Option Want} (Some x) (Some y.want) = sym here
              ∙ ap (λ j. wants_more_in_hand t (held (place_at w j))) same_one ∙ at_heir in
              let wanted_so : x ≡ y.want = cc in λ i. Some (record {
                thread = sym same_one i;
                want = sym wanted_so i;
              }),
        )
          where
            at_heir : wants_more_in_hand t (held (place_at w y.thread)) ≡ Some y.want
            at_heir = let h = heir_wants t 0 w.places y e
                in subst (λ j. wants_more_in_hand t (held (place_at w j)) ≡ Some y.want)
                ((let z : h.0 ≡ 0 + h.0 = omega arith in z) ∙ sym h.1.0) h.1.1

    shares_so : readers (sharing_handed t (lock_state w l)) ≡ readers (lock_state w l) + k.sharers
    shares_so = shared_by t taken 0 (shares_at w l) ∙ ap (λ n. readers (lock_state w l) + n) (
        ap (λ n. sharers_from t taken 0 n) (inductive.numbers.threads l)
        ∙ sym (counted t 0 taken w.places each)
        ∙ count.number)
      where
        each : (j : ℕ) → shares_handed t (taken (0 + j))
            ≡ (if shares_in_hand t (held (get_or w.places j Idle))
            then 1 else 0)
        each j = subst (λ i. shares_handed t (taken i) ≡ (if shares_in_hand t (held (get_or w.places j Idle))
            then 1 else 0)) (let z : j ≡ 0 + j = omega arith in z)
            (shares_of t (taken j) (held (place_at w j))
            (sym (same_hand w t l inductive own any has_taken j)) ∙ share_counts t (held (place_at w j)))

    pub has_in_hand : HasInHand (lock_state w l) t k heir
    has_in_hand = record { named = named; successor = succeeds; sharers = shares_so }

-- ---------------------------------------------------------------- fewer than all threads

filter_less : (f : Place → Bool) (ps : List Place) (i : ℕ) → i < length ps → f (get_or ps i Idle) ≡ false
    → length (filter f ps) < length ps
filter_less f [] i lt e = absurd (omega arith)
filter_less f (p ∷ ps) zero lt e = ap_cond (f p) e
  where
    few : (qs : List Place) → length (filter f qs) ≤ length qs
    few [] = omega arith
    few (q ∷ qs) = let h : length (filter f qs) ≤ length qs = few qs in one (f q) h
      where
        one : (b : Bool) → length (filter f qs) ≤ length qs → length (cond b (q ∷ filter f qs) (filter f qs))
            ≤ suc (length qs)
        one true h = omega arith
        one false h = omega arith

    ap_cond : (b : Bool) → b ≡ false → length (cond b (p ∷ filter f ps) (filter f ps)) < suc (length ps)
    ap_cond true g = absurd cc
    ap_cond false g = let h : length (filter f ps) ≤ length ps = few ps in omega arith
filter_less f (p ∷ ps) (suc i) lt e = let h : length (filter f ps) < length ps =
    filter_less f ps i (omega arith) e in one (f p) h
  where
    one : (b : Bool) → length (filter f ps) < length ps → length (cond b (p ∷ filter f ps) (filter f ps))
        < suc (length ps)
    one true h = omega arith
    one false h = omega arith

-- a thread that is in nobody's hand isn't in its own
pub few_sharers : (w : State) (t : ℕ) → t < length w.places → IsSingle (place_at w t)
    → (profile (place_at w t)).hand ≡ None
    → sharers_in_hand t w.places < length w.places
few_sharers w t lt single free = filter_less (λ (p : Place). shares_in_hand t (held p)) w.places t lt
    (ap (shares_in_hand t) (single_held (place_at w t) single)
    ∙ ap (λ h. shares_in_hand t (held_by (hand_owner h) (profile (place_at w t)).wants)) free)

-- ------------------------------------------------------- as long as nobody comes into the hand, or leaves it

abbrev more_wanted : Option Want → Option Want
more_wanted None = None
more_wanted (Some x) = if not (wants_shared x) then Some x else None

more_by : (t : ℕ) (o : Option Taken) → wants_more_in_hand t o ≡ more_wanted (wanted_of t o)
more_by t None = refl
more_by t (Some h) = either (h.by == t)
  where
    either : (b : Bool) → ◌≡◌ {A = Option Want} (if b && not (wants_shared h.want) then Some h.want else None)
        (more_wanted (if b then Some h.want else None))
    either true = refl
    either false = refl

successor_same : (t i : ℕ) (ps qs : List Place) → length qs ≡ length ps
    → ((u : ℕ) → wants_more_in_hand t (held (get_or qs u Idle)) ≡ wants_more_in_hand t
    (held (get_or ps u Idle)))
    → successor_from t i qs ≡ successor_from t i ps
successor_same t i [] [] len each = refl
successor_same t i (p ∷ ps) [] len each = absurd (omega arith)
successor_same t i [] (q ∷ qs) len each = absurd (omega arith)
successor_same t i (p ∷ ps) (q ∷ qs) len each =
    let rest = successor_same t (suc i) ps qs (omega arith) (λ u. each (suc u))
    in λ j. successor_or i (each 0 j) (rest j)

counts_own : (t : ℕ) (ps : List Place) → sharers_in_hand t ps ≡ sharers_from t (λ u. held (get_or ps u Idle))
    0 (length ps)
counts_own t ps = counted t 0 (λ u. held (get_or ps u Idle)) ps
    (λ j. subst (λ i. shares_handed t (held (get_or ps i Idle))
    ≡ (if shares_in_hand t (held (get_or ps j Idle)) then 1 else 0)) (let z : j ≡ 0 + j = omega arith in z)
    (share_counts t (held (get_or ps j Idle))))

-- the counts are as they were
module _ (w v : State) (t : ℕ) (len : length v.places ≡ length w.places)
    (each : (u : ℕ) → wanted_of t (held (place_at v u)) ≡ wanted_of t (held (place_at w u))) where
  more_same : (u : ℕ) → wants_more_in_hand t (held (place_at v u)) ≡ wants_more_in_hand t
      (held (place_at w u))
  more_same u = more_by t (held (place_at v u)) ∙ ap more_wanted (each u)
      ∙ sym (more_by t (held (place_at w u)))

  pub same_sharers : sharers_in_hand t v.places ≡ sharers_in_hand t w.places
  same_sharers = counts_own t v.places ∙ ap (sharers_from t (λ u. held (place_at v u)) 0) len
      ∙ sharers_same t (λ u. held (place_at w u)) (λ u. held (place_at v u)) each 0 (length w.places)
      ∙ sym (counts_own t w.places)

  pub same_successor : successor_from t 0 v.places ≡ successor_from t 0 w.places
  same_successor = successor_same t 0 w.places v.places len more_same

  pub counted_stays : (k : Counted) → IsCountOfHand w t k → IsCountOfHand v t k
  counted_stays k count = record {
    number = same_sharers ∙ count.number;
    more = ap want_of_successor same_successor ∙ count.more;
    one = λ u x y z f g. count.one u x y z (sym (more_same u) ∙ f) (sym (more_same x) ∙ g);
  }
