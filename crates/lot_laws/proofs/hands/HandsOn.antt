-- A thread in a call of a reader-writer lock hands its right over: where its operation takes effect, all that
-- it has in hand own.
use Rattle.lot_laws.proofs.Imports
use Imports.{◌+◌, ◌*◌, ◌-◌, ℕ, Bool, true, false, Option, Some, None, if◌then◌else◌, ◌==◌, ◌≡◌, ◌≢◌, ◌^◌, ◌<◌}
use Imports.{◌≤◌, ◌⊎◌, inl, inr, List, [], ◌∷◌, ◌++◌, length, refl, sym, ◌∙◌, ap, subst, arith, eqb-true, Op}
use Imports.{Want, Exclusive, Upgradable, Shared, Waiter, apply, HandedBy, Value, Owners, takes_effect}
use Imports.{HandsOver, bit_left, claim_handed, heir_of, shares_then, Profile, hand, in_hand, Location}
use Imports.{location_by, Admission, RwLockPlace, RwLockAt, role_at, parked_hand as place_hand, RwLockCallPlace}
use Imports.{Plain, PeekQueue, HandOver, Bump, Handed, CallStands, in_hand_of, call_deeds, handing_deeds}
use Imports.{CallTells, StandsToHandOver as Hands, call_move, call_profile, call_act, call_next, call_owners}
use Imports.{call_shares, has_room, parked_as, tokens, with_taken, word_without, fair_sleepers_move}
use Imports.{hand_overs_move, handed_move, givers_keep, fair_calls_stand, hand_overs_tell, hand_overs_code}
use Imports.{hand_overs_follow, Place, Idle, Mutex, RwLock, Once, Condvar, Semaphore, next_place, profile}
use Imports.{LockState, Rules, Taken, HandOff, IsLockState, Owns, Queued, without_owner, Case, Role, Pends}
use Imports.{Site, has_readers, HasLimit, code, State, owners_at, place_at, put, queue_at, share_at, shares_at}
use Imports.{sharers_in_hand, state_after_act, successor_from, unshared_then, word_at, IsWellFormed, taken_at}
use Imports.{acts, FitsItsLock, Goes, LimitHasRoom, IsCountOfHand, IsInductive, carried_at, hand_at, rules_in}
use Imports.{role_on, location, Hand}
use Rattle.lot_laws.proofs.rwlock.RwLockStaysASite.{beside_no_call, of_no_once}
use Rattle.core_base.specs.declared.ops.Op.TheVariants as operation
use Rattle.spec_locks.specs.declared.calls.Access.TheVariants as access
use Rattle.steps_base.specs.declared.acts.Act.TheVariants as act
use Rattle.steps_base.specs.Owners.{lock_seen}
use Rattle.steps_base.specs.Locations.{nowhere}
use Rattle.steps_rwlock.specs.declared.places.RwLockAt.TheVariants as at
use Rattle.steps_rwlock.specs.declared.park.ParkAt.TheVariants as parking
use Rattle.steps_rwlock.specs.RwLockDeeds.{retried_want}
use Rattle.steps_rwlock_fair.specs.declared.hand_over.Taken.{Taken as Counted}
use Rattle.steps_rwlock_fair.specs.declared.hand_over.HandOverAt.TheVariants as handing
use Rattle.steps_rwlock_fair.specs.declared.handed.HandedAt.TheVariants as handed
use Rattle.spec_locks.specs.Deeds as laws
use Rattle.lot_laws.proofs.sites.ActsKept.{lock_by}
use Rattle.lot_laws.proofs.machine.Parts.{free_of, IsOf, role_here, next_of, location_here, of_single}
use Rattle.lot_laws.proofs.machine.Parts.{condvar_unheld}
use Rattle.lot_laws.proofs.hands.Counted.{few_sharers, has_in_hand}
use Rattle.lot_laws.proofs.hands.HandsStay.{IsGiven, claims_given, given_of}
use Rattle.lot_laws.proofs.hands.Moved.{hands_over as hands_all, looks_again, thread_of}
use Rattle.lot_laws.proofs.sites.MovesKept.{IsFollowed}
use Rattle.lot_laws.proofs.rwlock.RwLockStaysASite.{beside_no_call, admits, at_now, call_told_other}
use Rattle.lot_laws.proofs.rwlock.RwLockStaysASite.{call_told_value}
use Rattle.lot_laws.proofs.rwlock.RwLockStaysASite.{fits_next, fits_now, followed_by, goes_row, of_no_mutex}
use Rattle.lot_laws.proofs.rwlock.RwLockStaysASite.{own}
use Rattle.lot_laws.proofs.rwlock.RwLockStaysASite.{same_row, word_few, of_no_semaphore}

-- ---------------------------------------------------------------- the place

-- tells what a hand-over that has these in hand, and saw this word, does to the lock
pub record HandsFacts (a : Admission) (c : RwLockCallPlace) (k : Counted) (op : Op) (seen : ℕ) : Type 0 where
  pub right : Want
  pub deeds : (whom : Option ℕ) → takes_effect op seen ≡ true → call_deeds a c whom (Value seen)
      ≡ handing_deeds right k whom
  pub owners : (t : ℕ) (shared : List ℕ) (o : Owners) (main second : List Waiter) (taken : ℕ → Option Taken)
      → takes_effect op seen ≡ true
      → lock_seen shared (call_owners a c t seen o) main second taken
      ≡ without_owner t right (lock_seen shared o main second taken)
  pub fails : takes_effect op seen ≡ false → (t : ℕ) (o : Owners) → call_owners a c t seen o ≡ o
  pub shares : (n : ℕ) → call_shares a c seen n ≡ None
  pub more : right ≢ Shared

stored : (a : Admission) (b : Bool) (k : Counted) (word seen : ℕ)
    → CallStands a (HandOver access.Exclusive b (handing.Store k))
    → HandsFacts a (HandOver access.Exclusive b (handing.Store k)) k (operation.Store word) seen
stored a b k word seen stands = record {
  right = Exclusive;
  deeds = λ whom h. refl;
  owners = λ t shared o main second taken h. givers_keep a access.Exclusive b (handing.Store k) t seen shared
      o main second taken stands refl;
  fails = λ h t o. absurd cc;
  shares = λ n. refl;
  more = λ h. cc;
}

exchanged : (a : Admission) (b : Bool) (k : Counted) (expected word seen : ℕ) → has_room a.limit k expected
    ≡ true
    → CallStands a (HandOver access.Upgradable b (handing.Exchange k expected))
    → HandsFacts a (HandOver access.Upgradable b (handing.Exchange k expected)) k
    (operation.Exchange expected word) seen
exchanged a b k expected word seen room stands = record {
  right = Upgradable;
  deeds = λ whom h. rw (h, room) refl;
  owners = λ t shared o main second taken h. givers_keep a access.Upgradable b (handing.Exchange k expected) t
      seen shared o main second taken stands h;
  fails = λ h t o. rw h refl;
  shares = λ n. refl;
  more = λ h. cc;
}

hands_facts : (l : ℕ) (a : Admission) (c : RwLockCallPlace) (k : Counted) (op : Op) (seen : ℕ)
    → CallStands a c
    → in_hand_of c ≡ Some k → call_act l a c ≡ act.HandOver l op → HandsFacts a c k op seen
hands_facts l a (HandOver access.Exclusive b (handing.Store j)) k op seen stands is e =
    let same_k : j ≡ k = cc in
    let same_op : operation.Store (parked_as j.none_left (tokens j)) ≡ op = cc in
    subst (λ i. HandsFacts a (HandOver access.Exclusive b (handing.Store j)) i op seen) same_k
    (subst (λ o. HandsFacts a (HandOver access.Exclusive b (handing.Store j)) j o seen) same_op
    (stored a b j (parked_as j.none_left (tokens j)) seen stands))
hands_facts l a (HandOver access.Upgradable b (handing.Exchange j expected)) k op seen stands is e =
    by_room (has_room a.limit j expected) refl e
  where
    same_k : j ≡ k
    same_k = cc

    by_room : (room : Bool) → has_room a.limit j expected ≡ room
        → (if room then act.HandOver l (operation.Exchange expected (with_taken access.Upgradable j expected))
        else act.Word l (operation.Exchange expected
        (parked_as j.none_left (word_without access.Upgradable expected))))
        ≡ act.HandOver l op
        → HandsFacts a (HandOver access.Upgradable b (handing.Exchange j expected)) k op seen
    by_room true f g =
        let same_op : operation.Exchange expected (with_taken access.Upgradable j expected) ≡ op = cc in
        subst (λ i. HandsFacts a (HandOver access.Upgradable b (handing.Exchange j expected)) i op seen)
        same_k
        (subst (λ o. HandsFacts a (HandOver access.Upgradable b (handing.Exchange j expected)) j o seen)
        same_op (exchanged a b j expected (with_taken access.Upgradable j expected) seen f stands))
    by_room false f g = absurd cc
hands_facts l a (HandOver access.Exclusive b (handing.Exchange j expected)) k op seen stands is e =
    absurd stands
hands_facts l a (HandOver access.Upgradable b (handing.Store j)) k op seen stands is e = absurd stands
hands_facts l a (HandOver access.Shared b to) k op seen stands is e = absurd stands
hands_facts l a (HandOver x b (handing.Look j)) k op seen stands is e = absurd cc
hands_facts l a c k op seen stands is e = absurd cc

-- a thread that is in a hand claims nothing, or is pending
hand_claims : (a : Admission) (c : RwLockCallPlace) (t : ℕ) → (call_profile a c).hand ≡ hand t false
    → ((call_profile a c).role.claims ≡ None)
    ⊎ ((b : Bool) × ((call_profile a c).role.claims ≡ Some (Pends b)))
hand_claims a c t h = by_call c h
  where
    by_place : (p : RwLockPlace) (to : RwLockAt) → place_hand to ≡ hand t false
        → ((role_at (retried_want p) p.purpose to).claims ≡ None)
        ⊎ ((b : Bool) × ((role_at (retried_want p) p.purpose to).claims ≡ Some (Pends b)))
    by_place p (at.Park (parking.Taken v)) g = inl refl
    by_place p (at.Aside (parking.Taken v)) g = inr (_, refl)
    by_place p (at.Park to) g = absurd cc
    by_place p (at.Aside to) g = absurd cc
    by_place p to g = absurd cc

    by_call : (c : RwLockCallPlace) → (call_profile a c).hand ≡ hand t false
        → ((call_profile a c).role.claims ≡ None)
        ⊎ ((b : Bool) × ((call_profile a c).role.claims ≡ Some (Pends b)))
    by_call (Plain p) g = by_place p p.at g
    by_call (Bump p) g = by_place p p.at g
    by_call (PeekQueue x) g = absurd cc
    by_call (HandOver x b to) g = absurd cc
    by_call (Handed x how b (handed.Asleep u alone)) g = absurd cc
    by_call (Handed x how b handed.Accept) g = absurd cc

-- beside an owner that has more than a share nobody is pending
no_pending : (r : Rules) (s : LockState) (t : ℕ) (x : Want) → IsLockState r s → Owns s t x → x ≢ Shared
    → s.pending ≡ None
no_pending r s t Exclusive state own more = (state.exclusive_alone t own).0
no_pending r s t Upgradable state own more = grind (arith, state.pending_alone)
no_pending r s t Shared state own more = absurd (more refl)
no_pending r s t x state own more = absurd (grind arith)

heir_same : (x y : Option Want) → heir_of (Some 0) x ≡ heir_of (Some 0) y → x ≡ y
heir_same None None e = refl
heir_same (Some x) None e = absurd cc
heir_same None (Some y) e = absurd cc
heir_same (Some x) (Some y) e = let both : record { thread = 0; want = x } ≡ record { thread = 0; want = y } =
    cc in ap (λ (q : Queued). Some q.want) both

-- ---------------------------------------------------------------- the step

module _ (w : State) (t l : ℕ) (a : Admission) (c : RwLockCallPlace) (inductive : IsInductive w)
    (shape : IsWellFormed w)
    (there : t < length w.places) (lt : l < length w.locks) (is : place_at w t ≡ RwLock l a c)
    (k : Counted) (is_k : in_hand_of c ≡ Some k) (count : IsCountOfHand w t k) (op : Op) (e : call_act l a c
    ≡ act.HandOver l op) where
  abbrev here : Site
  here = lock_by w l (rules_in w l)

  fits : FitsItsLock w (RwLock l a c)
  fits = fits_now w t l a c inductive shape there lt is

  abbrev pub of : IsOf l (place_at w t)
  of = own w t l a c inductive shape there lt is

  abbrev pub row : profile (place_at w t) ≡ call_profile a c
  row = same_row w t l a c inductive shape there lt is

  abbrev readers : has_readers (rules_in w l).sort ≡ true
  readers = (admits w t l a c inductive shape there lt is).0

  pub g : HandsOver (call_move a c) op
  g = (hand_overs_move l l a c op k fits.1 is_k e).1

  pub has_taken : carried_at (place_at w t) l ≡ in_hand g.any false
  has_taken = ap (λ (y : Location). y.has_taken) (location_here l (place_at w t) of)
      ∙ ap (λ (y : Location). y.has_taken) (ap location_by row ∙ g.was)

  pub bare : (profile (place_at w t)).hand ≡ None
  bare = ap (λ (y : Location). y.hand) (ap location_by row ∙ g.was)

  abbrev pub whom : Option ℕ
  whom = thread_of (successor_from t 0 w.places)

  abbrev hands : Hands (rules_in w l) a here t c whom
  hands = record {
    call = at_now w t l a c inductive shape there lt is;
    free = free_of (place_at w t) l (of_single l (place_at w t) of) bare;
    taken = k;
    is = is_k;
    in_hand = has_in_hand w t l inductive of g.any has_taken k count;
  }

  limits : LimitHasRoom (length w.places) (rules_in w l) × HasLimit (rules_in w l) here.lock
  limits = inductive.sites.limits l fits.0.0

  room : a.limit < 2 ^ 60 - 1
  room = subst (λ n. n < 2 ^ 60 - 1) fits.0.2 limits.0.1

  few : code (rules_in w l) here < 2 ^ 64
  few = word_few (rules_in w l) here fits.0.0 (inductive.sites.site l) limits.0.1 limits.1

  fewer : k.sharers < a.limit
  fewer = let x : sharers_in_hand t w.places < length w.places =
      few_sharers w t there (of_single l (place_at w t) of) bare in
      let y : length w.places ≤ (rules_in w l).limit = limits.0.2 in
      let z : (rules_in w l).limit ≡ a.limit = fits.0.2 in
      let n : sharers_in_hand t w.places ≡ k.sharers = count.number in omega arith

  now : word_at w l ≡ code (rules_in w l) here
  now = inductive.sites.word l

  -- tells what it makes of its call
  pub hands_tell : CallTells (rules_in w l) a here t l c whom (Value (word_at w l))
  hands_tell = subst (λ v. CallTells (rules_in w l) a here t l c whom (Value v)) (sym now)
      (hand_overs_tell (rules_in w l) a here t l c op whom hands e)

  abbrev Followed : ℕ → Type 0
  Followed v = IsFollowed w t l inductive there of (rules_in w l) refl (call_move a c) row whom (Value v)
      (next_place (place_at w t) (Value v))

  follows : Followed (word_at w l)
      × (apply op (word_at w l) ≡ code (rules_in w l) (laws.after_all (rules_in w l)
      (call_deeds a c whom (Value (word_at w l))) here t))
  follows = subst (λ v. Followed v
      × (apply op v ≡ code (rules_in w l) (laws.after_all (rules_in w l) (call_deeds a c whom (Value v)) here
      t))) (sym now)
      (let f = hand_overs_follow (rules_in w l) a here t l c op whom hands e in (
        followed_by w t l a c inductive shape there lt is whom (Value (code (rules_in w l) here)) f.needed
            f.role
            (call_told_value a c (code (rules_in w l) here) few),
        hand_overs_code (rules_in w l) a here t l c op whom hands e fewer few room limits.1,
      ))

  pub facts : HandsFacts a c k op (word_at w l)
  facts = hands_facts l a c k op (word_at w l) fits.1 is_k e

  -- where it takes effect
  module _ (takes : takes_effect op (word_at w l) ≡ true) where
    same_deeds : (u : Option ℕ)
        → Case (HandOff g.right (heir_of u g.successor)) ∷ bit_left g.none_left ∷ []
        ≡ Case (HandOff facts.right (heir_of u k.successor)) ∷ bit_left k.none_left ∷ []
    same_deeds u = sym (g.deeds u (word_at w l) takes) ∙ facts.deeds u takes

    pub same_right : g.right ≡ facts.right
    same_right = let f = same_deeds None in cc

    same_successor : g.successor ≡ k.successor
    same_successor = heir_same g.successor k.successor (let f = same_deeds (Some 0) in cc)

    owns : Owns here.lock t g.right
    owns = (subst (λ ds. laws.AllNeeded (rules_in w l) ds here t) (g.deeds whom (word_at w l) takes)
        follows.0.needed).0.0.0

    pub more_right : g.right ≢ Shared
    more_right f = facts.more (sym same_right ∙ f)

    unpending : here.lock.pending ≡ None
    unpending = no_pending (rules_in w l) here.lock t g.right (inductive.sites.site l).state owns
        (λ f. facts.more (sym same_right ∙ f))

    -- nobody in its hand claims anything yet
    pub unclaimed : (u j : ℕ) (d : Admission) (q : RwLockCallPlace) → place_at w u ≡ RwLock j d q → j ≡ l
        → (call_profile d q).hand ≡ hand t false → (call_profile d q).role.claims ≡ None
    unclaimed u j d q f same_lock z = elim (hand_claims d q t z) [
      | inl none ↦ none
      | inr pends ↦ absurd (
          let claims : (here.role u).claims ≡ Some (Pends pends.0) = ap (λ (y : Place). (role_on y l).claims)
          f ∙ ap (λ (y : Role). y.claims) (role_here l (RwLock j d q) same_lock) ∙ pends.1 in
          let some : here.lock.pending ≡ Some (record {
            thread = u;
            falls_back = pends.0;
          }) = (inductive.sites.site l).held u (Pends pends.0) claims in
          let none = unpending in cc)
    ]

    -- a thread that it has in hand
    pub given : (u : ℕ) (b : Bool) → hand_at (place_at w u) l ≡ hand t b
        → IsGiven w t l b (unshared_then w t l) (place_at w u)
    given u b held = by_place (place_at w u) refl held
      where
        fresh : b ≡ false
        fresh = by_any g.any (sym has_taken ∙ inductive.stands.hands.taken t u l b held)
          where
            by_any : (y : Bool) → in_hand y false ≡ Some b → b ≡ false
            by_any true f = let z : false ≡ b = cc in sym z
            by_any false f = absurd cc

        by_place : (q : Place) → place_at w u ≡ q → hand_at q l ≡ hand t b
            → IsGiven w t l b (unshared_then w t l) q
        by_place Idle f h = absurd cc
        by_place (Condvar j at) f h = absurd (let none : hand_at (Condvar j at) l ≡ None =
            condvar_unheld j at l (beside_no_call w t l a c inductive shape there lt is u j at f)
            in let both : ◌≡◌ {A = Option Hand} None (hand t b) = sym none ∙ h in cc)
        by_place (Once j at) f h = either (j == l) refl h
          where
            either : (y : Bool) → (j == l) ≡ y → (if y then location (Once j at) else nowhere).hand ≡ hand t b
                → IsGiven w t l b (unshared_then w t l) (Once j at)
            either true same_lock z = absurd (of_no_once w t l a c inductive shape there lt is u j at f
                (eqb-true j l same_lock))
            either false same_lock z = absurd cc
        by_place (Semaphore j at) f h = either (j == l) refl h
          where
            either : (y : Bool) → (j == l) ≡ y → (if y then location (Semaphore j at) else nowhere).hand
                ≡ hand t b
                → IsGiven w t l b (unshared_then w t l) (Semaphore j at)
            either true same_lock z = absurd (of_no_semaphore w t l a c inductive shape there lt is u j at f
                (eqb-true j l same_lock))
            either false same_lock z = absurd cc
        by_place (Mutex j m) f h = either (j == l) refl h
          where
            either : (y : Bool) → (j == l) ≡ y → (if y then location (Mutex j m) else nowhere).hand ≡ hand t b
                → IsGiven w t l b (unshared_then w t l) (Mutex j m)
            either true same_lock z = absurd (of_no_mutex w t l a c inductive shape there lt is u j m f
                (eqb-true j l same_lock))
            either false same_lock z = absurd cc
        by_place (RwLock j d q) f h = either (j == l) refl h
          where
            fits_u : FitsItsLock w (RwLock j d q)
            fits_u = subst (FitsItsLock w) f (inductive.stands.calls u)

            told : Place
            told = next_place (RwLock j d q) (HandedBy t (unshared_then w t l))

            told_row : profile told ≡ (call_move d q).next (HandedBy t (unshared_then w t l))
            told_row = goes_row j d (call_next d q (HandedBy t (unshared_then w t l)))

            at_lock : j ≡ l → (call_profile d q).hand ≡ hand t b → IsGiven w t l b (unshared_then w t l)
                (RwLock j d q)
            at_lock same_lock z =
                let in_it : (call_profile d q).hand ≡ hand t false = z ∙ ap (hand t) fresh in
                let waits = (fair_sleepers_move d q fits_u.1).held t in_it in
                let m = (handed_move d q fits_u.1).given t (unshared_then w t l) waits.want in_it
                (unclaimed u j d q f same_lock in_it) waits.wants in
                given_of w t l b (unshared_then w t l) (RwLock j d q) waits.want same_lock fresh waits.wants
                (waits.was ∙ ap (λ y. record nowhere { hand = hand t y }) (sym fresh))
                (ap location_by told_row ∙ m.goes)
                (role_here l told (next_of l (RwLock j d q) (HandedBy t (unshared_then w t l)) same_lock)
                ∙ ap (λ (y : Profile). y.role) told_row ∙ m.claims
                ∙ sym (ap (λ (y : Role). record y {
                  claims =
                      Some (claim_handed (unshared_then w t l) waits.want);
                })
                (role_here l (RwLock j d q) same_lock)))
                (fits_next w t l a c inductive shape there lt is j d
                (call_next d q (HandedBy t (unshared_then w t l))) fits_u.0
                (fair_calls_stand d q (HandedBy t (unshared_then w t l)) fits_u.1
                (call_told_other d q (HandedBy t (unshared_then w t l)) tt)))

            either : (y : Bool) → (j == l) ≡ y → (if y then location (RwLock j d q) else nowhere).hand
                ≡ hand t b
                → IsGiven w t l b (unshared_then w t l) (RwLock j d q)
            either true same_lock z = at_lock (eqb-true j l same_lock) z
            either false same_lock z = absurd cc

    pub hands_goes : Goes w
        (put (state_after_act w t (RwLock l a c) (act.HandOver l op)) t (next_place (place_at w t)
        (Value (word_at w l)))) l
        (acts t (call_deeds a c whom (Value (word_at w l))) ++ claims_given t (unshared_then w t l)
        (λ u. taken_at (place_at w u) l) (length w.places))
    hands_goes = hands_all w t l inductive there of (rules_in w l) refl readers (call_move a c) row lt
        (RwLock l a c) op g takes (next_place (place_at w t) (Value (word_at w l))) follows.0 given
        (same_successor ∙ sym count.more)
        (facts.owners t (shares_at w l) (owners_at w l) (queue_at w (2 * l)) (queue_at w (2 * l + 1))
        (λ u. taken_at (place_at w u) l) takes ∙ ap (λ y. without_owner t y here.lock) (sym same_right))
        follows.1

  -- where it fails, the thread looks again
  pub hands_fails : takes_effect op (word_at w l) ≡ false
      → Goes w
      (put (state_after_act w t (RwLock l a c) (act.HandOver l op)) t (next_place (place_at w t)
      (Value (word_at w l)))) l
      (acts t (call_deeds a c whom (Value (word_at w l))))
  hands_fails fails = looks_again w t l inductive there of (rules_in w l) refl readers (call_move a c) row lt
      (RwLock l a c) op g fails (next_place (place_at w t) (Value (word_at w l))) follows.0
      (λ i. lock_seen (shares_then_same i) (facts.fails fails t (owners_at w l) i) (queue_at w (2 * l))
      (queue_at w (2 * l + 1)) (λ u. taken_at (place_at w u) l))
      (follows.1 ∙ ap (λ ds. code (rules_in w l) (laws.after_all (rules_in w l) ds here t))
      (g.fails whom (word_at w l) fails))
    where
      shares_then_same : shares_then (shares_at w l) t (call_shares a c (word_at w l) (share_at w l t))
          ≡ shares_at w l
      shares_then_same = ap (shares_then (shares_at w l) t) (facts.shares (share_at w l t))
