-- A thread hands its right over to all that it has in hand, one or many, each by its want: every lock is a
-- site again. No place is named: the laws of its sort of lock say that its deeds may be done, what it does
-- then, and where those in its hand go.
use Rattle.lot_laws.proofs.Imports
use Imports.{ℕ, zero, suc, Bool, true, false, Option, Some, None, if◌then◌else◌, ◌==◌, ◌&&◌, ◌||◌, ◌≡◌, ◌≢◌}
use Imports.{◌+◌, ◌-◌, ◌*◌, ◌%◌, ◌^◌, ◌≤◌, ◌<◌, ◌⊎◌, replicate, List, [], ◌∷◌, ◌++◌, length, get_or, set, map}
use Imports.{inl, inr, refl, sym, ◌∙◌, ap, subst, arith, length-set, get_or-set_same, get_or-set_other, sum}
use Imports.{cases_eq, cases_lt, eqb-true, nat_tests, length-map, Op, Waiter, Want, Exclusive, Upgradable}
use Imports.{Shared, CallOnce, apply, Owners, HandedBy, claim_handed, bit_left, is_thread, with_exclusive, hand}
use Imports.{Hand, Of, in_hand as in_hand_if, taken_from, Place, Idle, calls, next_place, owners_after, profile}
use Imports.{taker, wants, LockState, Queued, Taken, Rules, Sort, Recursive, HandOff, IsSuccessor, Knows}
use Imports.{keep_from, let_go, putting, sharing_from, sharing_handed, shares_handed, succeeding, wants_shared}
use Imports.{with_owner, with_successor, without_owner, handed, readers, Role, Site, IsSite, Deed, Has, Begin}
use Imports.{Case, Holds, has_readers, is_full, after_deed, code, code_of, fills, has_aside, has_parked}
use Imports.{HasLimit, TellsTrue, words_tell_true, handed_limit, sum_cons, unshared_successor}
use Imports.{has_upgradable_handed, has_exclusive_handed, pends_handed, shares_handed_on, Successor, State}
use Imports.{place_at, word_at, owners_at, shares_at, filled_at, kind_at, queue_at, section_at, unlocked, put}
use Imports.{state_after_hand_over, state_after_telling, place_after_telling, hand_over_told, unshared_then}
use Imports.{held, held_by, shares_in_hand, shares_given, shares_handed_over, with_share, successor_from}
use Imports.{owners_of_successor, owners_handed_over, owners_with_pending, given_count, taken_at, acts}
use Imports.{location, location_at, nowhere, role_on, locations_of, ActsNeeded, LimitHasRoom, IsInductive, Goes}
use Imports.{Hands, TakesOne, FitsItsLock, after_acts, rules_in, carried_at, hand_at}
use Rattle.core_base.specs.declared.wants.Want.TheVariants.{Wait}
use Rattle.spec_locks.specs.declared.kinds.Kind.TheVariants as kind
use Rattle.steps_base.specs.Owners.{lock_seen}
use Rattle.spec_locks.specs.Locks.{Mutex, Normal, Semaphore}
use Rattle.spec_locks.specs.Locks.{Once}
use Rattle.spec_locks.specs.Locks as locks
use Rattle.spec_locks.specs.Deeds as laws
use Rattle.lot_machine.specs.declared.locks.Lock.{Lock}
use Rattle.lot_laws.specs.ThreadDeeds as deeds
use Rattle.lot_laws.specs.Locations.{Location}
use Rattle.lot_laws.proofs.machine.Parts.{free_of, held_calls, Parts, parts_at, lock_in, seen_in, same}
use Rattle.lot_laws.proofs.machine.Parts.{put_here, put_other, put_same, IsOf, location_here, untaken}
use Rattle.lot_laws.proofs.machine.Parts.{held_tells, thread_is, past_all, IsSingle, of_single, single_taken}
use Rattle.lot_laws.proofs.machine.Parts.{single_wants, next_of}
use Rattle.lot_laws.proofs.machine.KindsStay.{given_kinds}
use Rattle.lot_laws.proofs.sites.OneStep.{AreQuiet, AreSingle, acts_keep, full_then, fills_by, others_same}
use Rattle.lot_laws.proofs.sites.ActsKept.{Moves, lock_by, site_by, follows_by}
use Rattle.lot_laws.proofs.sites.LawsKept.{after_same, needed_same, parked_read, aside_read}
use Rattle.lot_laws.proofs.sites.StandsKept.{sections_same, lines_same, waits_same, hands_given, calls_in}
use Rattle.lot_laws.proofs.sites.StandsMoved.{stands_by}
use Rattle.lot_laws.proofs.sites.ToldAt.{HoldsHere, IsToldAt, SameHands, HeldHere, same_hands, has, told}
use Rattle.lot_laws.proofs.sites.ToldAt.{places_then, held_here, told_on, told_off, not_held, in_hand}
use Rattle.lot_laws.proofs.sites.ToldAt.{has_taken, alike, calls_then, all_parts, places_are}
use Rattle.lot_laws.proofs.mutex.Waiters.{holds_here}
use Rattle.lot_laws.proofs.sites.StandsKept.{AlikeBeside, own_alike}
use Rattle.lot_laws.proofs.hands.Handed.{of_carries}

-- ---------------------------------------------------------------- deeds of many threads

pub after_both : (r : Rules) (xs ys : List deeds.Act) (s : Site) → after_acts r (xs ++ ys) s
    ≡ after_acts r ys (after_acts r xs s)
after_both r [] ys s = refl
after_both r (a ∷ xs) ys s = after_both r xs ys (after_deed r a.deed s a.by)

pub needed_both : (r : Rules) (xs ys : List deeds.Act) (s : Site) → ActsNeeded r xs s
    → ActsNeeded r ys (after_acts r xs s)
    → ActsNeeded r (xs ++ ys) s
needed_both r [] ys s h k = k
needed_both r (a ∷ xs) ys s h k = (h.0, needed_both r xs ys (after_deed r a.deed s a.by) h.1 k)

module _ (t : ℕ) (alone : Bool) where
  -- each thread that was taken by t claims what it wanted, from the hand-over on
  abbrev pub claim_of : ℕ → Option Taken → List deeds.Act
  claim_of u None = []
  claim_of u (Some h) = if h.by == t then record {
    by = u;
    deed = Begin (Some (claim_handed alone h.want));
  } ∷ [] else []

  -- among so many threads
  abbrev pub claims_given : (ℕ → Option Taken) → ℕ → List deeds.Act
  claims_given taken zero = []
  claims_given taken (suc n) = claim_of n (taken n) ++ claims_given taken n

  abbrev pub with_claim : Option Taken → Role → Role
  with_claim None d = d
  with_claim (Some h) d = if h.by == t then record d { claims = Some (claim_handed alone h.want) } else d

  one_claim : (r : Rules) (s : Site) (u : ℕ) (o : Option Taken) → after_acts r (claim_of u o) s
      ≡ record s { role = putting s.role u (with_claim o (s.role u)) }
  one_claim r s u None = λ i. record s { role = λ k. sym (put_same s.role u (s.role u) refl k) i }
  one_claim r s u (Some h) = either (h.by == t)
    where
      either : (b : Bool) → after_acts r (if b then record {
        by = u;
        deed = Begin (Some (claim_handed alone h.want));
      } ∷ [] else []) s ≡ record s {
        role =
            putting s.role u (if b then record (s.role u) { claims = Some (claim_handed alone h.want) }
            else s.role u);
      }
      either true = refl
      either false = λ i. record s { role = λ k. sym (put_same s.role u (s.role u) refl k) i }

  module _ (taken : ℕ → Option Taken) where
    abbrev claimed : ℕ → ℕ → Role → Role
    claimed zero u d = d
    claimed (suc n) u d = claimed n u (if u == n then with_claim (taken n) d else d)

    claims_lead : (r : Rules) (n : ℕ) (s : Site) → after_acts r (claims_given taken n) s ≡ record s
        { role = λ u. claimed n u (s.role u) }
    claims_lead r zero s = refl
    claims_lead r (suc n) s = after_both r (claim_of n (taken n)) (claims_given taken n) s
        ∙ ap (after_acts r (claims_given taken n)) (one_claim r s n (taken n))
        ∙ claims_lead r n (record s { role = putting s.role n (with_claim (taken n) (s.role n)) })
        ∙ (λ i. record s { role = λ u. claimed n u (spot u (u == n) refl i) })
      where
        spot : (u : ℕ) (b : Bool) → (u == n) ≡ b
            → (if b then with_claim (taken n) (s.role n) else s.role u)
            ≡ (if b then with_claim (taken n) (s.role u) else s.role u)
        spot u true e = ap (λ k. with_claim (taken n) (s.role k)) (sym (eqb-true u n e))
        spot u false e = refl

    claimed_past : (n u : ℕ) (d : Role) → n ≤ u → claimed n u d ≡ d
    claimed_past zero u d h = refl
    claimed_past (suc n) u d h = ap (λ b. claimed n u (if b then with_claim (taken n) d else d))
        (let ne : (u == n) ≡ false = grind (arith, nat_tests) in ne) ∙ claimed_past n u d (omega arith)

    claimed_there : (n u : ℕ) (d : Role) → u < n → claimed n u d ≡ with_claim (taken u) d
    claimed_there zero u d h = absurd (omega arith)
    claimed_there (suc n) u d h = elim (cases_eq u n) [
      | inl e ↦ rw e (ap (λ b. claimed n n (if b then with_claim (taken n) d else d)) (same n)
          ∙ claimed_past n n (with_claim (taken n) d) (omega arith))
      | inr ne ↦ ap (λ b. claimed n u (if b then with_claim (taken n) d else d)) (let e : (u == n) ≡ false =
          grind (arith, nat_tests) in e) ∙ claimed_there n u d (omega arith)
    ]

    -- where nobody else is taken
    claimed_is : (n u : ℕ) (d : Role) → ((k : ℕ) → n ≤ k → taken k ≡ None)
        → claimed n u d ≡ with_claim (taken u) d
    claimed_is n u d none = elim (cases_lt u n) [
      | inl lt ↦ claimed_there n u d lt
      | inr ge ↦ claimed_past n u d ge ∙ sym (ap (λ o. with_claim o d) (none u ge))
    ]

    pub claims_so : (r : Rules) (n : ℕ) (s : Site) → ((k : ℕ) → n ≤ k → taken k ≡ None)
        → after_acts r (claims_given taken n) s ≡ record s { role = λ u. with_claim (taken u) (s.role u) }
    claims_so r n s none = claims_lead r n s
        ∙ (λ i. record s { role = λ u. claimed_is n u (s.role u) none i })

    -- each of them has it
    pub claims_needed : (r : Rules) (now : LockState) (n : ℕ) (s : Site) → s.lock ≡ now
        → ((u : ℕ) (h : Taken) → u < n → taken u ≡ Some h → h.by ≡ t
        → Holds now u (claim_handed alone h.want))
        → ActsNeeded r (claims_given taken n) s
    claims_needed r now zero s e holds = tt
    claims_needed r now (suc n) s e holds = needed_both r (claim_of n (taken n)) (claims_given taken n) s
        (one (taken n) refl)
        (claims_needed r now n (after_acts r (claim_of n (taken n)) s) (ap (λ (v : Site). v.lock)
        (one_claim r s n (taken n)) ∙ e) (λ u h lt. holds u h (omega arith)))
      where
        one : (o : Option Taken) → taken n ≡ o → ActsNeeded r (claim_of n o) s
        one None f = tt
        one (Some h) f = either (h.by == t) refl
          where
            either : (b : Bool) → (h.by == t) ≡ b → ActsNeeded r (if b then record {
              by = n;
              deed = Begin (Some (claim_handed alone h.want));
            } ∷ [] else []) s
            either true g = (
              subst (λ v. Holds v n (claim_handed alone h.want)) (sym e)
                  (holds n h (omega arith) f (eqb-true h.by t g)),
              tt,
            )
            either false g = tt

-- no sort of lock with readers knows other wants than these
unknown : (sort : Sort) (x : Want) → has_readers sort ≡ true → x ≢ Exclusive → x ≢ Upgradable → x ≢ Shared
    → Knows sort x → ⊥
unknown Mutex x r e u s k = cc
unknown Semaphore x r e u s k = cc
unknown Once x r e u s k = cc
unknown locks.Condvar x r e u s k = cc
unknown sort Exclusive r e u s k = e refl
unknown sort Upgradable r e u s k = u refl
unknown sort Shared r e u s k = s refl
unknown Normal x r e u s k = k
unknown Recursive x r e u s k = k

-- a thread that was not taken by t claims nothing anew
unclaimed : (t : ℕ) (alone : Bool) (o : Option Taken) (d : Role) → keep_from t o ≡ o → with_claim t alone o d
    ≡ d
unclaimed t alone None d e = refl
unclaimed t alone (Some h) d e = either (h.by == t) e
  where
    either : (b : Bool) → ◌≡◌ {A = Option Taken} (if b then None else Some h) (Some h)
        → (if b then record d { claims = Some (claim_handed alone h.want) } else d) ≡ d
    either true f = absurd cc
    either false f = refl

-- a word hangs on owners and bits alone
pub code_role : (r : Rules) (s : Site) (d : ℕ → Role) → code r (record s { role = d }) ≡ code r s
code_role r s d = by_sort r.sort
  where
    by_sort : (sort : Sort) → code_of sort r.limit (record s { role = d }) ≡ code_of sort r.limit s
    by_sort Mutex = refl
    by_sort Normal = refl
    by_sort Recursive = refl
    by_sort Semaphore = refl
    by_sort locks.Condvar = refl
    by_sort Once = refl

-- ---------------------------------------------------------------- owners

-- the heir of the machine is the successor
abbrev pub heir_in : Option Successor → Option Queued
heir_in None = None
heir_in (Some x) = Some (record { thread = x.thread; want = x.want })

module _ (shares : List ℕ) (o : Owners) (main second : List Waiter) (taken : ℕ → Option Taken) where
  writer_is : (b : Bool) (u : ℕ)
      → lock_seen shares (if b then with_exclusive o (Some u) else owners_with_pending u o) main second taken
      ≡ (if b then with_owner u Exclusive (lock_seen shares o main second taken) else locks.pending_for u
      false (lock_seen shares o main second taken))
  writer_is true u = refl
  writer_is false u = refl

  heir_is : (u : ℕ) (x : Want) → x ≢ Shared
      → lock_seen shares (owners_of_successor (sum shares) (Some (record { thread = u; want = x })) o) main
      second taken ≡ succeeding x u (lock_seen shares o main second taken)
  heir_is u Exclusive ne = writer_is (sum shares == 0) u
  heir_is u Upgradable ne = refl
  heir_is u Shared ne = absurd (ne refl)
  heir_is u x ne = refl

  pub heirs_are : (x : Option Successor) → ((q : Queued) → heir_in x ≡ Some q → q.want ≢ Shared)
      → lock_seen shares (owners_of_successor (sum shares) x o) main second taken
      ≡ with_successor (heir_in x) (lock_seen shares o main second taken)
  heirs_are None more = refl
  heirs_are (Some x) more = heir_is x.thread x.want (more (record { thread = x.thread; want = x.want }) refl)

-- ---------------------------------------------------------------- shares

shares_unless : (t : ℕ) (o : Option Taken) → keep_from t o ≡ o → shares_handed t o ≡ 0
shares_unless t None e = refl
shares_unless t (Some h) e = either (h.by == t) e
  where
    either : (b : Bool) → ◌≡◌ {A = Option Taken} (if b then None else Some h) (Some h)
        → ◌≡◌ {A = ℕ} (if b && wants_shared h.want then 1 else 0) 0
    either true f = absurd cc
    either false f = refl

not_in_hand : (t : ℕ) (o : Option ℕ) (x : Option Want) → is_thread t o ≡ false
    → shares_in_hand t (held_by o x) ≡ false
not_in_hand t None x h = refl
not_in_hand t (Some u) None h = refl
not_in_hand t (Some u) (Some x) h = ap (λ b. b && wants_shared x) h

one_given : (t n : ℕ) (b : Bool) (o : Option Taken) → n + 1 < 2 ^ 64 → shares_handed t o
    ≡ (if b then 1 else 0)
    → with_share b n ≡ n + shares_handed t o
one_given t n true o few f = let m : (n + 1) % 2 ^ 64 ≡ n + 1 = omega arith in m ∙ sym (ap (λ k. n + k) f)
one_given t n false o few f = let m : n ≡ n + 0 = omega arith in m ∙ sym (ap (λ k. n + k) f)

-- the machine gives each its right, as the lock says
pub given_is : (t i : ℕ) (taken : ℕ → Option Taken) (ps : List Place) (ns : List ℕ)
    → ((j : ℕ) → shares_handed t (taken (i + j)) ≡ (if shares_in_hand t (held (get_or ps j Idle)) then 1
    else 0))
    → length ps ≡ length ns → sum ns + 1 < 2 ^ 64
    → shares_given t ps ns ≡ sharing_from t taken i ns
given_is t i taken [] [] each e few = refl
given_is t i taken [] (n ∷ ns) each e few = absurd (omega arith)
given_is t i taken (p ∷ ps) [] each e few = absurd (omega arith)
given_is t i taken (p ∷ ps) (n ∷ ns) each e few =
    let total : sum (n ∷ ns) ≡ n + sum ns = sum_cons n ns in
    let here : with_share (shares_in_hand t (held p)) n ≡ n + shares_handed t (taken i) =
    one_given t n (shares_in_hand t (held p)) (taken i) (omega arith)
    (subst (λ k. shares_handed t (taken k) ≡ (if shares_in_hand t (held p) then 1 else 0))
    (let z : i + 0 ≡ i = omega arith in z) (each 0)) in
    let more : shares_given t ps ns ≡ sharing_from t taken (i + 1) ns = given_is t (i + 1) taken ps ns
    (λ j. subst (λ k. shares_handed t (taken k) ≡ (if shares_in_hand t (held (get_or ps j Idle)) then 1
    else 0)) (let z : i + suc j ≡ i + 1 + j = omega arith in z) (each (suc j))) (omega arith)
    (omega arith) in
    λ j. here j ∷ more j

-- ---------------------------------------------------------------- threads in hand

-- a thread that is in the hand of t, by its place, is taken by it
taken_by : (q : Place) (l : ℕ) {t : ℕ} (x : Want) → IsOf l q → (location q).hand ≡ hand t false
    → wants q ≡ Some x → taken_at q l ≡ Some (record { by = t; want = x })
taken_by q l {t = t} x of h e = single_taken q l (of_single l q of)
    ∙ (λ i. taken_from (h i) ((sym (single_wants q (of_single l q of)) ∙ e) i) (calls q l))
    ∙ ap (taken_from (hand t false) (Some x)) (held_calls q l of (Of t false) h)

-- a thread that was handed what it wanted isn't taken any more
given_free : (q : Place) (l t : ℕ) → IsSingle q → (location q).hand ≡ hand t true → taken_at q l ≡ None
given_free q l t single h = single_taken q l single ∙ ap (λ o. taken_from o (profile q).wants (calls q l)) h

-- where a thread goes that t has in hand, and hands its right
pub record IsGiven (w : State) (t l : ℕ) (handed alone : Bool) (p : Place) : Type 0 where
  pub fresh : handed ≡ false
  pub want : Want
  pub wants_it : wants p ≡ Some want
  pub taken : taken_at p l ≡ Some (record { by = t; want = want })
  pub free : taken_at (next_place p (HandedBy t alone)) l ≡ None
  pub goes : location_at (next_place p (HandedBy t alone)) l ≡ record (location_at p l) { hand = hand t true }
  pub alike : AlikeBeside l p (next_place p (HandedBy t alone))
  pub role : role_on (next_place p (HandedBy t alone)) l ≡ record (role_on p l) {
    claims =
        Some (claim_handed alone want);
  }
  pub fits : FitsItsLock w (next_place p (HandedBy t alone))

-- a thread that calls the lock
pub given_of : (w : State) (t l : ℕ) (handed alone : Bool) (p : Place) (want : Want) → IsOf l p
    → handed ≡ false → wants p ≡ Some want → location p ≡ record nowhere { hand = hand t handed }
    → location (next_place p (HandedBy t alone)) ≡ record nowhere { hand = hand t true }
    → role_on (next_place p (HandedBy t alone)) l ≡ record (role_on p l) {
      claims =
          Some (claim_handed alone want);
    }
    → FitsItsLock w (next_place p (HandedBy t alone)) → IsGiven w t l handed alone p
given_of w t l handed alone p want of fresh wants_it was goes role fits = record {
  fresh = fresh;
  want = want;
  wants_it = wants_it;
  taken = taken_by p l want of (ap (λ (y : Location). y.hand) was ∙ ap (hand t) fresh) wants_it;
  free = given_free p2 l t (of_single l p2 of_2) (ap (λ (y : Location). y.hand) goes);
  goes = location_here l p2 of_2 ∙ goes
      ∙ sym (ap (λ (y : Location). record y { hand = hand t true }) (location_here l p of ∙ was));
  alike = own_alike l p p2 of of_2;
  role = role;
  fits = fits;
}
  where
    p2 : Place
    p2 = next_place p (HandedBy t alone)

    of_2 : IsOf l p2
    of_2 = next_of l p (HandedBy t alone) of

module _ (w : State) (t l : ℕ) (inductive : IsInductive w) (own : IsOf l (place_at w t)) (there : t
    < length w.places)
    (lt : l < length w.locks) (p p2 : Place) (of : IsOf l p2) (fits : FitsItsLock w p2) (op : Op) (r : Rules)
    (rules : rules_in w l ≡ r) (sharers : has_readers r.sort ≡ true)
    (all : (u : ℕ) (b : Bool) → hand_at (place_at w u) l ≡ hand t b → IsGiven w t l b (unshared_then w t l)
    (place_at w u)) (free : (location (place_at w t)).hand ≡ None) where
  abbrev alone : Bool
  alone = unshared_then w t l

  abbrev here : Site
  here = lock_by w l r

  abbrev taken : ℕ → Option Taken
  taken u = taken_at (place_at w u) l

  site : IsSite r here
  site = site_by w t l inductive own there r rules p2 of fits

  -- waiters stand as the machine tells them
  pub beside : AlikeBeside l (place_at w t) p2
  beside = own_alike l (place_at w t) p2 own of

  abbrev same_there : SameHands l (place_at w t) p2
  same_there = same_hands l (place_at w t) p2 beside

  abbrev in_hands : HoldsHere w t l
  in_hands = holds_here w t l inductive (of_carries l (place_at w t) own)

  pub all_told : (u : ℕ) (b : Bool) → hand_at (place_at w u) l ≡ hand t b
      → IsToldAt w t l b (hand t true) (hand_over_told w t l) (place_at w u)
  all_told u b h = let k = all u b h in record { goes = k.goes; alike = k.alike; fits = k.fits }

  was_here : location_at (place_at w t) l ≡ location (place_at w t)
  was_here = location_here l (place_at w t) own

  is_here : location_at p2 l ≡ location p2
  is_here = location_here l p2 of

  abbrev is_told : ℕ → Bool
  is_told = has w t l inductive p2 same_there fits in_hands (hand_over_told w t l) (hand t true) all_told

  abbrev pub places_after : ℕ → Place
  places_after = places_then w t l inductive p2 same_there fits in_hands (hand_over_told w t l) (hand t true)
      all_told

  abbrev told_now : ℕ → Place
  told_now = told w t l inductive p2 same_there fits in_hands (hand_over_told w t l) (hand t true) all_told

  -- a thread that t has in hand
  module _ (u : ℕ) (h : is_told u ≡ true) where
    at_hand : HeldHere w t l inductive p2 same_there fits in_hands (hand_over_told w t l) (hand t true)
        all_told
        u
    at_hand = held_here w t l inductive p2 same_there fits in_hands (hand_over_told w t l) (hand t true)
        all_told
        u h

    given : IsGiven w t l at_hand.handed alone (place_at w u)
    given = all u at_hand.handed at_hand.hand

    taken_is : taken u ≡ Some (record { by = t; want = given.want })
    taken_is = given.taken

    free_then : taken_at (next_place (place_at w u) (hand_over_told w t l)) l ≡ None
    free_then = given.free

  -- t is in nobody's hand itself
  not_told : is_told t ≡ false
  not_told = by_test (is_told t) refl
    where
      by_test : (b : Bool) → is_told t ≡ b → b ≡ false
      by_test false h = refl
      by_test true h = absurd (let held_so : hand_at (place_at w t) l ≡ hand t (at_hand t h).handed =
          (at_hand t h).hand in let none : hand_at (place_at w t) l ≡ None =
          ap (λ (y : Location). y.hand) was_here ∙ free in let both : ◌≡◌ {A = Option Hand} None
          (hand t (at_hand t h).handed) = sym none ∙ held_so in cc)

  not_taken : (u : ℕ) → is_told u ≡ false → keep_from t (taken u) ≡ taken u
  not_taken u h = untaken (place_at w u) t l (not_held w t l inductive p2 same_there fits in_hands
      (hand_over_told w t l) (hand t true) all_told u h false)

  -- a thread that gets a share
  share_is : (u : ℕ) → shares_handed t (taken u) ≡ (if shares_in_hand t (held (place_at w u)) then 1 else 0)
  share_is u = either (is_told u) refl
    where
      either : (b : Bool) → is_told u ≡ b → shares_handed t (taken u)
          ≡ (if shares_in_hand t (held (place_at w u)) then 1 else 0)
      either true h = let k = given u h in
          ap (shares_handed t) (taken_is u h)
          ∙ sym (λ i. if shares_in_hand t (held_by (thread_is t (taker (place_at w u)) h i)
          (k.wants_it i)) then 1 else 0)
      either false h = shares_unless t (taken u) (not_taken u h)
          ∙ sym (ap (λ b. if b then 1 else 0) (not_in_hand t (taker (place_at w u)) (wants (place_at w u)) h))

  -- ---------------------------------------------------------------- the rights that are given

  limits : HasLimit r here.lock
  limits = subst (λ x. HasLimit x here.lock) rules (inductive.sites.limits l
      (ap (λ x. has_readers x.sort) rules
      ∙ sharers)).1

  room : (r.limit < 2 ^ 60 - 1) × (length w.places ≤ r.limit)
  room = let all_room = subst (λ x. LimitHasRoom (length w.places) x) rules
      (inductive.sites.limits l (ap (λ x. has_readers x.sort) rules ∙ sharers)).0 in (all_room.1, all_room.2)

  shares_are : shares_handed_over w t l ≡ sharing_from t taken 0 (shares_at w l)
  shares_are = given_is t 0 taken w.places (shares_at w l)
      (λ j. subst (λ k. shares_handed t (taken k) ≡ (if shares_in_hand t (held (place_at w j)) then 1 else 0))
      (let z : j ≡ 0 + j = omega arith in z) (share_is j)) (sym (inductive.numbers.threads l))
      (let a : locks.count here.lock ≡ sum (shares_at w l) + locks.one_if_some (owners_at w l).upgradable =
      refl in let b : locks.count here.lock ≤ r.limit + 1 = limits.top in let c : r.limit < 2 ^ 60 - 1 =
      room.0 in omega arith)

  pub alone_is : (x : Want) → x ≢ Shared
      → alone ≡ (readers (sharing_handed t (without_owner t x here.lock)) == 0)
  alone_is x ne = ap (λ ns. sum ns == 0) shares_are ∙ by_want x ne
    where
      by_want : (x : Want) → x ≢ Shared
          → (sum (sharing_from t taken 0 (shares_at w l)) == 0)
          ≡ (readers (sharing_handed t (without_owner t x here.lock)) == 0)
      by_want Exclusive ne = refl
      by_want Upgradable ne = refl
      by_want Shared ne = absurd (ne refl)
      by_want x ne = refl

  -- ---------------------------------------------------------------- the step

  module _ (right : Want) (none_left : Bool) where
    abbrev pub heir : Option Queued
    heir = heir_in (successor_from t 0 w.places)

    abbrev pub own_deeds : List Deed
    own_deeds = Case (HandOff right heir) ∷ bit_left none_left ∷ []

    abbrev pub claims : List deeds.Act
    claims = claims_given t alone taken (length w.places)

    abbrev keeps : Owners
    keeps = owners_after p t (word_at w l) (owners_at w l)

    abbrev pub v : State
    v = put (state_after_telling (state_after_hand_over w t p l op) t (hand_over_told w t l)) t p2

    abbrev between : Site
    between = laws.after_all r own_deeds here t

    -- tells what the laws of its sort conclude
    pub record HandsLawful : Type 0 where
      pub needed : laws.AllNeeded r own_deeds here t
      pub role : between.role t ≡ role_on p2 l
      pub owners : lock_seen (shares_at w l) keeps (queue_at w (2 * l)) (queue_at w (2 * l + 1)) taken
          ≡ without_owner t right here.lock
      pub word : apply op (word_at w l) ≡ code r between

    abbrev parts_then : Parts
    parts_then = record {
      base = record {
        shared = shares_handed_over w t l;
        filled = filled_at w l || fills (rules_in w l) (apply op (word_at w l));
      };
      word = apply op (word_at w l);
      owners = owners_handed_over w t l keeps;
      main = queue_at w (2 * l);
      second = queue_at w (2 * l + 1);
    }

    module _ (law : HandsLawful) (unheld : (location p2).hand ≡ None) where
      needed : ActsNeeded r (acts t own_deeds) here
      needed = needed_same r own_deeds here t law.needed

      is_heir : IsSuccessor here.lock t heir
      is_heir = law.needed.0.0.2

      right_more : right ≢ Shared
      right_more = law.needed.0.0.1

      lock_between : between.lock ≡ handed t right heir here.lock
      lock_between = by_bit none_left
        where
          by_bit : (b : Bool)
              → (laws.after_all r (Case (HandOff right heir) ∷ bit_left b ∷ []) here t).lock
              ≡ handed t right heir here.lock
          by_bit true = refl
          by_bit false = refl

      site_between : IsSite r between
      site_between = subst (λ s. IsSite r s) (after_same r own_deeds here t)
          (acts_keep r (acts t own_deeds) here site needed)

      -- a thread that is in hand still
      taken_then : (u : ℕ) → taken_at (places_after u) l ≡ let_go t taken u
      taken_then u = elim (cases_eq u t) [
        | inl e ↦ rw e (ap (λ q. taken_at q l) (put_here told_now t p2) ∙ free_of p2 l (of_single l p2 of)
            unheld ∙ sym (ap (keep_from t) (free_of (place_at w t) l (of_single l (place_at w t) own) free)))
        | inr ne ↦ ap (λ q. taken_at q l) (put_other told_now t p2 u ne) ∙ either (is_told u) refl
      ]
        where
          either : (b : Bool) → is_told u ≡ b → taken_at (told_now u) l ≡ keep_from t (taken u)
          either true h = ap (λ q. taken_at q l) (told_on w t l inductive p2 same_there fits in_hands
              (hand_over_told w t l) (hand t true) all_told u h) ∙ free_then u h
              ∙ sym (ap (keep_from t) (taken_is u h) ∙ ap (λ b. if b then None else Some (record {
                by = t;
                want = (given u h).want;
              })) (same t))
          either false h = ap (λ q. taken_at q l) (told_off w t l inductive p2 same_there fits in_hands
              (hand_over_told w t l) (hand t true) all_told u h) ∙ sym (not_taken u h)

      lock_then : lock_in parts_then (λ u. taken_at (places_after u) l) ≡ between.lock
      lock_then = (λ i. lock_in parts_then (λ u. taken_then u i))
          ∙ heirs_are (shares_handed_over w t l) keeps (queue_at w (2 * l)) (queue_at w (2 * l + 1))
          (let_go t taken) (successor_from t 0 w.places) (unshared_successor here.lock t heir is_heir)
          ∙ ap (with_successor heir) ((λ i. lock_seen (shares_are i) keeps (queue_at w (2 * l))
          (queue_at w (2 * l + 1)) (let_go t taken)) ∙ ap (sharing_handed t) law.owners)
          ∙ sym lock_between

      none_past : (u : ℕ) → length w.places ≤ u → taken u ≡ None
      none_past u h = ap (λ q. taken_at q l) (past_all w.places u Idle h)

      -- each in hand has what it claims
      holds : (u : ℕ) (h : Taken) → u < length w.places → taken u ≡ Some h → h.by ≡ t
          → Holds (handed t right heir here.lock) u (claim_handed alone h.want)
      holds u h lt e mine = by_want h.want alone refl refl (site.state.known_taken u h e)
          (λ more. (is_heir u h.want).1 (e ∙ (λ i. Some (record { by = mine i; want = h.want })), more))
        where
          more_or : (heir ≡ None) ⊎ ((x : Queued) × ((heir ≡ Some x) × (x.want ≢ Shared)))
          more_or = by_heir heir refl
            where
              by_heir : (o : Option Queued) → heir ≡ o → (heir ≡ None)
                  ⊎ ((x : Queued) × ((heir ≡ Some x) × (x.want ≢ Shared)))
              by_heir None f = inl f
              by_heir (Some x) f = inr (x, (f, unshared_successor here.lock t heir is_heir x f))

          shares_it : h.want ≡ Shared → Holds (handed t right heir here.lock) u (Has Shared)
          shares_it wants_so = shares_handed_on t u right heir here.lock h right_more more_or
              (subst (λ n. u < n) (sym (inductive.numbers.threads l)) lt) e mine wants_so

          by_want : (x : Want) (b : Bool) → h.want ≡ x → alone ≡ b → Knows r.sort x
              → (x ≢ Shared → heir ≡ Some (record { thread = u; want = x }))
              → Holds (handed t right heir here.lock) u (claim_handed b x)
          by_want Shared true wants_so f known is = shares_it wants_so
          by_want Shared false wants_so f known is = shares_it wants_so
          by_want Upgradable true wants_so f known is = ap (λ o. (handed t right o here.lock).upgradable)
              (is (λ g. cc)) ∙ has_upgradable_handed t u right here.lock
          by_want Upgradable false wants_so f known is = ap (λ o. (handed t right o here.lock).upgradable)
              (is (λ g. cc)) ∙ has_upgradable_handed t u right here.lock
          by_want Exclusive true wants_so f known is = ap (λ o. (handed t right o here.lock).exclusive)
              (is (λ g. cc)) ∙ has_exclusive_handed t u right here.lock (sym (alone_is right right_more) ∙ f)
          by_want Exclusive false wants_so f known is = ap (λ o. (handed t right o here.lock).pending)
              (is (λ g. cc)) ∙ pends_handed t u right here.lock (sym (alone_is right right_more) ∙ f)
          by_want Wait b wants_so f known is =
              absurd (unknown r.sort Wait sharers (λ g. cc) (λ g. cc) (λ g. cc) known)
          by_want CallOnce b wants_so f known is =
              absurd (unknown r.sort CallOnce sharers (λ g. cc) (λ g. cc) (λ g. cc) known)

      -- all of it, one deed after another
      abbrev afterwards : Site
      afterwards = after_acts r (acts t own_deeds ++ claims) here

      past_is : afterwards ≡ record between { role = λ u. with_claim t alone (taken u) (between.role u) }
      past_is = after_both r (acts t own_deeds) claims here
          ∙ ap (after_acts r claims) (after_same r own_deeds here t) ∙ claims_so t alone taken r
          (length w.places) between none_past

      all_needed : ActsNeeded r (acts t own_deeds ++ claims) here
      all_needed = needed_both r (acts t own_deeds) claims here needed (subst (λ s. ActsNeeded r claims s)
          (sym (after_same r own_deeds here t)) (claims_needed t alone taken r (handed t right heir here.lock)
          (length w.places) between lock_between holds))

      told_true : TellsTrue r between
      told_true = words_tell_true r between sharers site_between

      full_now : parts_then.base.filled ≡ between.filled
      full_now = ap (λ (x : Rules). filled_at w l || fills x (apply op (word_at w l))) rules
          ∙ ap (λ b. filled_at w l || b) (fills_by r between (apply op (word_at w l)) site_between law.word)
          ∙ sym (ap (λ (s : Site). s.filled) (sym (after_same r own_deeds here t))
          ∙ full_then r own_deeds here t (quiet_bit none_left) site
          ∙ ap (λ (s : Site). filled_at w l || is_full r s.lock) (after_same r own_deeds here t))
        where
          quiet_bit : (b : Bool) → AreQuiet (bit_left b ∷ [])
          quiet_bit true = (tt, tt)
          quiet_bit false = (tt, tt)

      single_bit : (b : Bool) → AreSingle (Case (HandOff right heir) ∷ bit_left b ∷ [])
      single_bit true = (tt, (tt, tt))
      single_bit false = (tt, (tt, tt))

      role_then : (u : ℕ) → role_on (places_after u) l ≡ with_claim t alone (taken u) (between.role u)
      role_then u = elim (cases_eq u t) [
        | inl e ↦ rw e (ap (λ q. role_on q l) (put_here told_now t p2) ∙ sym law.role
            ∙ sym (ap (λ o. with_claim t alone o (between.role t)) (free_of (place_at w t) l
            (of_single l (place_at w t) own) free)))
        | inr ne ↦ ap (λ q. role_on q l) (put_other told_now t p2 u ne) ∙ either (is_told u) refl
            ∙ sym (ap (with_claim t alone (taken u)) (ap (λ (s : Site). s.role u)
            (sym (after_same r own_deeds here t)) ∙ others_same r own_deeds here t u (single_bit none_left)
            ne))
      ]
        where
          either : (b : Bool) → is_told u ≡ b → role_on (told_now u) l ≡ with_claim t alone (taken u)
              (role_on (place_at w u) l)
          either true h = ap (λ q. role_on q l) (told_on w t l inductive p2 same_there fits in_hands
              (hand_over_told w t l) (hand t true) all_told u h) ∙ (given u h).role
              ∙ sym (ap (λ o. with_claim t alone o (role_on (place_at w u) l)) (taken_is u h)
              ∙ ap (λ b. if b then record (role_on (place_at w u) l) {
                claims =
                    Some (claim_handed alone (given u h).want);
              } else role_on (place_at w u) l) (same t))
          either false h = ap (λ q. role_on q l) (told_off w t l inductive p2 same_there fits in_hands
              (hand_over_told w t l) (hand t true) all_told u h)
              ∙ sym (unclaimed t alone (taken u) (role_on (place_at w u) l) (not_taken u h))

      led : seen_in r l parts_then places_after ≡ afterwards
      led = (λ i. record {
        lock = lock_then i;
        parked = (parked_read r.sort (apply op (word_at w l)) sharers ∙ ap has_parked law.word
            ∙ told_true.parked) i;
        aside_parked = (aside_read r.sort (apply op (word_at w l)) sharers ∙ ap has_aside law.word
            ∙ told_true.aside) i;
        filled = full_now i;
        role = λ u. role_then u i;
      }) ∙ sym past_is

      -- every lock is a site again
      module _ (any : Bool) (inside : (location p2).inside ≡ (location (place_at w t)).inside)
          (stands : (location p2).stands ≡ (location (place_at w t)).stands)
          (waits : (location p2).waits ≡ (location (place_at w t)).waits)
          (carried : (location (place_at w t)).has_taken ≡ in_hand_if any false)
          (carries_now : (location p2).has_taken ≡ in_hand_if any true) where
        places : place_at v ≡ places_after
        places = places_are w t l inductive p2 same_there fits in_hands (hand_over_told w t l) (hand t true)
            all_told (state_after_hand_over w t p l op) refl there

        threads : length v.places ≡ length w.places
        threads = length-set (map (place_after_telling t (hand_over_told w t l)) w.places) t p2
            ∙ length-map w.places (place_after_telling t (hand_over_told w t l))

        abbrev lock_here : Lock
        lock_here = record {
          kind = kind_at w l;
          word = apply op (word_at w l);
          owners = owners_handed_over w t l keeps;
          filled = filled_at w l || fills (rules_in w l) (apply op (word_at w l));
        }

        same_lock : get_or (set w.locks l lock_here) l (unlocked kind.Mutex) ≡ lock_here
        same_lock = get_or-set_same w.locks l lock_here (unlocked kind.Mutex) lt

        other_lock : (k : ℕ) → k ≢ l
            → get_or (set w.locks l lock_here) k (unlocked kind.Mutex)
            ≡ get_or w.locks k (unlocked kind.Mutex)
        other_lock k ne = get_or-set_other w.locks l k lock_here (unlocked kind.Mutex) ne

        moves : Moves w v l parts_then places_after
        moves = record {
          here = λ i. record parts_then {
            base = record {
              shared = get_or-set_same w.shares l (shares_handed_over w t l) (replicate (length v.places) 0)
                  (rw inductive.numbers.locks lt) i;
              filled = (same_lock i).filled;
            };
            word = (same_lock i).word;
            owners = (same_lock i).owners;
          };
          others = λ k ne i. record (parts_at w k) {
            base = record {
              shared = (get_or-set_other w.shares l k (shares_handed_over w t l)
                  (replicate (length v.places) 0) ne ∙ (λ j. get_or w.shares k (replicate (threads j) 0))) i;
              filled = (other_lock k ne i).filled;
            };
            word = (other_lock k ne i).word;
            owners = (other_lock k ne i).owners;
          };
          places = places;
          kinds = given_kinds w t p l op;
          alike = λ k ne. alike w t l inductive p2 same_there fits in_hands (hand_over_told w t l)
              (hand t true)
              all_told k ne ((beside k ne).taken, (beside k ne).role);
          numbers = record {
            threads = threads;
            locks = length-set w.locks l _;
            shares = length-set w.shares l (shares_handed_over w t l);
          };
          sharers = given_count t w.places (shares_at w l);
        }

        coded : apply op (word_at w l) ≡ code r (seen_in r l parts_then places_after)
        coded = law.word ∙ sym (code_role r between (λ u. with_claim t alone (taken u) (between.role u)))
            ∙ sym (ap (code r) (led ∙ past_is))

        within : HasLimit r afterwards.lock
        within = subst (λ s. HasLimit r s) (sym (ap (λ (s : Site). s.lock) past_is ∙ lock_between))
            (handed_limit r right heir here.lock t site.state law.needed.0.0
            (subst (λ n. t < n) (sym (inductive.numbers.threads l)) there)
            (free_of (place_at w t) l (of_single l (place_at w t) own) free)
            (subst (λ n. n ≤ r.limit) (sym (inductive.numbers.threads l)) room.1))

        held_before : carried_at (place_at w t) l ≡ in_hand_if any false
        held_before = ap (λ (y : Location). y.has_taken) (location_here l (place_at w t) own) ∙ carried

        -- the thread has somebody in hand after it exactly where it had before
        some_held : (b : Bool) → (location p2).has_taken ≡ Some b → (b ≡ true) × ((u : ℕ) × (is_told u ≡ true))
        some_held b e = by_any any refl (sym carries_now ∙ e)
          where
            by_any : (a : Bool) → any ≡ a → in_hand_if a true ≡ Some b → (b ≡ true)
                × ((u : ℕ) × (is_told u ≡ true))
            by_any true f g = (
              let h : true ≡ b = cc in sym h,
              let u = inductive.stands.hands.carried t l false
                  (held_before ∙ ap (λ a. in_hand_if a false) f)
                  in (u.0, held_tells (place_at w u.0) t l false u.1),
            )
            by_any false f g = absurd cc

        full_hand : (u : ℕ) → is_told u ≡ true → (location p2).has_taken ≡ Some true
        full_hand u h = carries_now ∙ by_any any refl
          where
            held_so : carried_at (place_at w t) l ≡ Some (at_hand u h).handed
            held_so = inductive.stands.hands.taken t u l (at_hand u h).handed (at_hand u h).hand

            by_any : (a : Bool) → any ≡ a → in_hand_if a true ≡ Some true
            by_any true f = refl
            by_any false f = absurd (let none : carried_at (place_at w t) l ≡ None = held_before
                ∙ ap (λ a. in_hand_if a false) f in let g : ◌≡◌ {A = Option Bool} None
                (Some (at_hand u h).handed) = sym none ∙ held_so in cc)

        hands_now : Hands (TakesOne w) places_after
        hands_now = hands_given (TakesOne w) (locations_of (place_at w)) (locations_of places_after)
            inductive.stands.hands t l is_told (location p2).has_taken
            (in_hand w t l inductive p2 same_there fits in_hands (hand_over_told w t l) (hand t true) all_told
            (ap (λ (y : Location). y.hand) is_here ∙ unheld
            ∙ sym (ap (λ c. if c then hand t true else (location_at (place_at w t) l).hand) not_told
            ∙ ap (λ (y : Location). y.hand) was_here ∙ free)))
            (λ i k. has_taken w t l inductive p2 same_there fits in_hands (hand_over_told w t l) (hand t true)
            all_told i k ∙ ap (λ c. if (i == t) && (k == l) then c else carried_at (place_at w i) k)
            (ap (λ (y : Location). y.has_taken) is_here))
            (λ u h. ((at_hand u h).handed, (at_hand u h).hand)) (λ u b h. held_tells (place_at w u) t l b h)
            some_held full_hand

        part_kept : {A : Type 0} (g : Location → A) → ((y : Location) (h : Option Hand)
            → g (record y { hand = h }) ≡ g y) → g (location p2) ≡ g (location (place_at w t)) → (u k : ℕ)
            → g (location_at (places_after u) k) ≡ g (location_at (place_at w u) k)
        part_kept g part e = all_parts w t l inductive p2 same_there fits in_hands (hand_over_told w t l)
            (hand t true) all_told g part (λ k. elim (cases_eq k l) [
              | inl f ↦ rw f (ap g is_here ∙ e ∙ sym (ap g was_here))
              | inr ne ↦ ap g (beside k ne).location
            ])

        pub hand_over_goes : Goes w v l (acts t own_deeds ++ claims)
        hand_over_goes = record {
          follows = follows_by w v l parts_then places_after moves r rules (acts t own_deeds ++ claims)
              (λ e. absurd (let f : true ≡ false = sym sharers ∙ ap has_readers e in cc)) (λ h. within) led
              all_needed coded;
          stands = stands_by w v places_after places moves.kinds
              (record {
                sections = sections_same (locations_of (place_at w)) (locations_of places_after)
                    (section_at w) inductive.stands.sections (part_kept (λ y. y.inside) (λ y h. refl) inside);
                lines = lines_same (locations_of (place_at w)) (locations_of places_after) (queue_at w)
                    (queue_at v) inductive.stands.lines (part_kept (λ y. y.stands) (λ y h. refl) stands)
                    (λ key. refl);
                waits = waits_same (locations_of (place_at w)) (locations_of places_after) (queue_at w)
                    (queue_at v) inductive.stands.waits (part_kept (λ y. y.waits) (λ y h. refl) waits)
                    (λ key. refl);
                hands = hands_now;
              })
              (λ u. calls_in w v (places_after u) moves.kinds (calls_then w t l inductive p2 same_there fits
              in_hands (hand_over_told w t l) (hand t true) all_told u));
        }
