-- A mutex that is handed over, and every other lock, is a site again, whose word says so.
use Rattle.lot_laws.proofs.Imports
use Imports.{ℕ, Bool, true, false, Option, Some, None, if◌then◌else◌, ◌==◌, ◌&&◌, ◌≡◌, ◌≢◌, ◌+◌, ◌*◌, ◌<◌, ◌⊎◌}
use Imports.{List, ◌++◌, length, replicate, get_or, set, inl, inr, refl, sym, ◌∙◌, ap, subst, arith, length-set}
use Imports.{get_or-set_same, get_or-set_other, Waiter, Owners, Place, Mutex, MutexPlace, Act, hand_off_word}
use Imports.{is_parked, bit, one_if_some, with_exclusive, next_place, putting, IsLockState, Exclusive, Has}
use Imports.{Role, Site, IsSite, sum, unshared_then, State, hand_over_told, shares_handed_over, unlocked}
use Imports.{place_at, word_at, owners_at, shares_at, kind_at, queue_at, put, section_at, state_after_reply}
use Imports.{state_after_telling, state_after_hand_over, state_after_act, reply_to, lock_state}
use Imports.{mutex_location, acts, location_at, role_on, SameNumbers, TakesOne, rules_in, ActsNeeded}
use Imports.{IsInductive, SiteFollows, Goes, FitsItsLock, carried_at, hand_at, after_acts, cases_eq}
use Imports.{locations_of, Hands, is_mutex}
use Rattle.core_base.specs.declared.ops.Op.TheVariants as op
use Rattle.spec_locks.specs.declared.kinds.Kind.TheVariants as kind
use Rattle.steps_mutex.specs.declared.places.MutexPlace.TheVariants.{HandOff}
use Rattle.steps_mutex.specs.declared.hand_off.HandOffAt.TheVariants as hand_off
use Rattle.steps_base.specs.declared.acts.Act.TheVariants as act
use Rattle.lot_laws.proofs.sites.ToldAt as told_at
use Rattle.lot_laws.proofs.sites.ToldAt.{IsToldAt, HeldHere, same_hands}
use Rattle.lot_laws.proofs.sites.ActsKept.{AlikeAt, follows_by, lock_by}
use Rattle.lot_laws.specs.Locations.{Location, hand}
use Rattle.lot_laws.specs.ThreadDeeds as deeds
use Rattle.lot_laws.proofs.machine.Parts.{base_at, seen, goes_from, put_places, put_other, IsOf, own_stance}
use Rattle.lot_laws.proofs.machine.Parts.{none_given, WantsAlone, aparts}
use Rattle.lot_laws.proofs.hands.Handed.{told_one, successor_one, of_carries}
use Rattle.lot_laws.proofs.mutex.Waiters.{CallsMutex, IsHeldThere, calls_mutex_at, held_alone, held_there}
use Rattle.lot_laws.proofs.mutex.Waiters.{holds_here}
use Rattle.lot_laws.proofs.sites.Following as following
use Rattle.lot_laws.proofs.sites.ToldAt.{HoldsHere, SameHands}
use Rattle.lot_laws.specs.Locations.{Hand}
use Rattle.lot_laws.proofs.mutex.Hands.{handing, hands_acts}
use Rattle.lot_laws.proofs.machine.Parts.{mutex, own_role}
use Rattle.lot_laws.proofs.machine.KindsStay.{given_kinds, given_filled, given_shares}
use Rattle.lot_laws.proofs.sites.StandsKept.{AlikeBeside, own_alike, calls_in, sections_same, lines_same}
use Rattle.lot_laws.proofs.sites.StandsKept.{waits_same, hands_given}
use Rattle.lot_laws.proofs.sites.StandsMoved.{mutex_rules, takes_one, stands_by}

-- g is f, but for x at i
pub record Changed {A : Type 0} (f g : ℕ → A) (i : ℕ) (x : A) : Type 0 where
  pub here : g i ≡ x
  pub other : (j : ℕ) → j ≢ i → g j ≡ f j

pub changed_set : {A B : Type 0} (f : A → B) (xs : List A) (i : ℕ) (x d : A) → i < length xs
    → Changed (λ k. f (get_or xs k d)) (λ k. f (get_or (set xs i x) k d)) i (f x)
changed_set f xs i x d lt = record {
  here = ap f (get_or-set_same xs i x d lt);
  other = λ j ne. ap f (get_or-set_other xs i j x d ne);
}

pub unchanged : {A : Type 0} (f : ℕ → A) (l : ℕ) → Changed f f l (f l)
unchanged f l = record { here = refl; other = λ j ne. refl }

pub alike_both : (l k : ℕ) (p : ℕ → Place) (v : ℕ) (pv : Place) (t : ℕ) (p2 : Place) → AlikeBeside l (p v) pv
    → AlikeBeside l (p t) p2 → v ≢ t → k ≢ l → (u : ℕ) → AlikeAt k (p u) (putting (putting p v pv) t p2 u)
alike_both l k p v pv t p2 hv h apart ne u =
    let a = following.alike_put l k p v pv hv ne u in
    let b = following.alike_put l k (putting p v pv) t p2 (rw (put_other p v pv t (λ e. apart (sym e))) h) ne
    u in
    (b.0 ∙ a.0, b.1 ∙ a.1)

-- the word of a mutex with this owner
abbrev IsCode : ℕ → Option ℕ → Type 0
IsCode v o = v ≡ one_if_some o + 2 * bit (is_parked v)

abbrev pub mutex_at : State → ℕ → Site
mutex_at w l = lock_by w l mutex

module _ (w v : State) (l : ℕ) (rules : rules_in w l ≡ mutex) (q : ℕ → Place) (word : ℕ) (o : Owners)
    (m : List Waiter)
    (places : place_at v ≡ q) (numbers : SameNumbers w v) (bases : (k : ℕ) → base_at v k ≡ base_at w k)
    (words : Changed (word_at w) (word_at v) l word) (owners : Changed (owners_at w) (owners_at v) l o)
    (mains : Changed (λ k. queue_at w (2 * k)) (λ k. queue_at v (2 * k)) l m) (seconds : (k : ℕ)
    → queue_at v (2 * k + 1) ≡ queue_at w (2 * k + 1)) (kinds : (k : ℕ) → kind_at v k ≡ kind_at w k)
    (elsewhere : (k : ℕ) → k ≢ l → (u : ℕ) → AlikeAt k (place_at w u) (q u)) where
  -- tells what one mutex has been through
  pub follow : (ds : List deeds.Act)
      → seen l (base_at w l) word o m (queue_at w (2 * l + 1)) q ≡ after_acts mutex ds (mutex_at w l)
      → ActsNeeded mutex ds (mutex_at w l) → IsCode word o.exclusive → SiteFollows w v l ds
  follow ds led needed coded = follows_by w v l _ q (record {
    here = λ i. record {
      base = bases l i;
      word = words.here i;
      owners = owners.here i;
      main = mains.here i;
      second = seconds l i;
    };
    others = λ k ne i. record {
      base = bases k i;
      word = words.other k ne i;
      owners = owners.other k ne i;
      main = mains.other k ne i;
      second = seconds k i;
    };
    places = places;
    kinds = kinds;
    alike = elsewhere;
    numbers = numbers;
    sharers = refl;
  }) mutex rules ds (λ e. absurd cc) (λ h. absurd cc) led needed coded

-- nobody shares a mutex
pub mutex_unshared : (w : State) (l : ℕ) → IsInductive w → rules_in w l ≡ mutex → sum (shares_at w l) ≡ 0
mutex_unshared w l inductive rules =
    (subst (λ r. IsSite r (lock_by w l r)) rules (inductive.sites.site l)).state.unshared (λ h. h)

-- a lock that a thread calls is taken from so
pub unshared_at : (w : State) (t l : ℕ) (at : MutexPlace) → IsInductive w → place_at w t ≡ Mutex l at
    → sum (shares_at w l) ≡ 0
unshared_at w t l at inductive is = mutex_unshared w l inductive
    (mutex_rules (kind_at w l) (let c : FitsItsLock w (Mutex l at) = rw is at (inductive.stands.calls t)
    in c))

-- A mutex is taken from one by one.
pub single_at : (w : State) (t l : ℕ) (at : MutexPlace) → IsInductive w → place_at w t ≡ Mutex l at
    → TakesOne w l
single_at w t l at inductive is =
    takes_one w l (mutex_rules (kind_at w l) (let c : FitsItsLock w (Mutex l at) =
    rw is at (inductive.stands.calls t) in c))

-- a thread that calls it calls a mutex
pub mutexes_at : (w : State) (t l : ℕ) (at : MutexPlace) → IsInductive w → place_at w t ≡ Mutex l at → (u : ℕ)
    → CallsMutex l (place_at w u)
mutexes_at w t l at inductive is u = calls_mutex_at w l (place_at w u) (inductive.stands.calls u)
    (mutex_rules (kind_at w l) (let c : FitsItsLock w (Mutex l at) = rw is at (inductive.stands.calls t)
    in c))

-- the thread that it has in hand wants to own alone
pub alone_at : (w : State) (t l : ℕ) (at : MutexPlace) → IsInductive w → place_at w t ≡ Mutex l at → (u : ℕ)
    → WantsAlone t (place_at w u)
alone_at w t l at inductive is = held_alone (place_at w) (aparts w inductive) inductive.stands.hands t l
    (of_carries l (place_at w t) (rw is refl)) (mutexes_at w t l at inductive is)

-- ---------------------------------------------------------------- the effects of the acts

-- tells what the act of a thread leads to
abbrev pub go_by : State → ℕ → Place → Act → State
go_by w t p a = put (state_after_act w t p a) t (next_place p (reply_to w t a))

module _ (w : State) (t l : ℕ) (at : MutexPlace) (inductive : IsInductive w) (is : place_at w t ≡ Mutex l at)
    (there : t < length w.places) where
  pub of_mutex : is_mutex (kind_at w l) ≡ true
  of_mutex = let c : FitsItsLock w (Mutex l at) = rw is at (inductive.stands.calls t) in c

  pub rules : rules_in w l ≡ mutex
  rules = mutex_rules (kind_at w l) of_mutex

  pub single : TakesOne w l
  single = takes_one w l rules

  pub site_l : IsSite mutex
      (seen l (base_at w l) (word_at w l) (owners_at w l) (queue_at w (2 * l)) (queue_at w (2 * l + 1))
      (place_at w))
  site_l = subst (λ r. IsSite r (lock_by w l r)) rules (inductive.sites.site l)

  pub own : IsOf l (place_at w t)
  own = rw is refl

  -- the thread is in nobody's hand itself
  pub not_own : (mutex_location at).hand ≡ None → (u : ℕ) (b : Bool) → hand_at (place_at w u) l ≡ hand t b
      → u ≢ t
  not_own free u b held e = let a : hand_at (place_at w t) l ≡ hand t b =
      subst (λ j. hand_at (place_at w j) l ≡ hand t b) e held in let none : hand_at (place_at w t) l ≡ None =
      ap (λ (y : Location). y.hand) (own_stance l (place_at w t) at is) ∙ free in cc

module _ (w : State) (t l : ℕ) (inductive : IsInductive w) (there : t < length w.places) where
  -- a thread that it has in hand
  module _ (at : MutexPlace) (is : place_at w t ≡ Mutex l at) (b : Bool)
      (has_taken : (mutex_location at).has_taken ≡ Some b) where
    pub one_held : (u : ℕ) × (hand_at (place_at w u) l ≡ hand t b)
    one_held = inductive.stands.hands.carried t l b (ap (λ (x : Location). x.has_taken)
        (own_stance l (place_at w t) at is) ∙ has_taken)

  module _ (lt : l < length w.locks) (bumps none_left : Bool) (u : ℕ)
      (is : place_at w t ≡ Mutex l (HandOff bumps (hand_off.Store true none_left)))
      (held : hand_at (place_at w u) l ≡ hand t false) where
    abbrev at : MutexPlace
    at = HandOff bumps (hand_off.Store true none_left)

    abbrev p2 : Place
    p2 = Mutex l (HandOff bumps (hand_off.Leave true))

    abbrev pu : Place
    pu = next_place (place_at w u) (hand_over_told w t l)

    abbrev before : State
    before = state_after_hand_over w t (Mutex l at) l (op.Store (hand_off_word true none_left))

    there_u : IsHeldThere l t (place_at w u)
    there_u = held_there (place_at w u) t l (mutexes_at w t l at inductive is u) held

    own_t : IsOf l (place_at w t)
    own_t = rw is refl

    apart : u ≢ t
    apart = not_own w t l at inductive is there refl u false held

    -- how they stand then
    beside : SameHands l (place_at w t) p2
    beside = same_hands l (place_at w t) p2 (own_alike l (place_at w t) p2 own_t refl)

    fits_2 : FitsItsLock w p2
    fits_2 = of_mutex w t l at inductive is there

    holds : HoldsHere w t l
    holds = holds_here w t l inductive (of_carries l (place_at w t) own_t)

    before_t : location_at (place_at w t) l ≡ mutex_location at
    before_t = own_stance l (place_at w t) at is

    now_t : location_at p2 l ≡ mutex_location (HandOff bumps (hand_off.Leave true))
    now_t = own_stance l p2 (HandOff bumps (hand_off.Leave true)) refl

    fresh : (x : ℕ) (b : Bool) → hand_at (place_at w x) l ≡ hand t b → b ≡ false
    fresh x b h = let a : carried_at (place_at w t) l ≡ Some b = inductive.stands.hands.taken t x l b h
        in let c : carried_at (place_at w t) l ≡ Some false = ap (λ (y : Location). y.has_taken) before_t
        in let e : Some b ≡ Some false = sym a ∙ c in cc

    -- only its owner claims the mutex
    unclaimed : (x : ℕ) → x ≢ t
        → (((role_on (place_at w x) l).claims ≡ None)
        ⊎ ((role_on (place_at w x) l).claims ≡ Some (Has Exclusive)))
        → (role_on (place_at w x) l).claims ≡ None
    unclaimed x ne (inl none) = none
    unclaimed x ne (inr claims) = absurd (
        let site = site_l w t l at inductive is there in
        let its : (owners_at w l).exclusive ≡ Some x = site.held x (Has Exclusive) claims in
        let own : (owners_at w l).exclusive ≡ Some t = site.held t (Has Exclusive)
        (ap (λ (d : Role). d.claims) (own_role l (place_at w t) at is)) in
        ne (let both : Some x ≡ Some t = sym its ∙ own in cc))

    all_told : (x : ℕ) (b : Bool) → hand_at (place_at w x) l ≡ hand t b
        → IsToldAt w t l b (hand t true) (hand_over_told w t l) (place_at w x)
    all_told x b h =
        let k : IsHeldThere l t (place_at w x) = held_there (place_at w x) t l
        (mutexes_at w t l at inductive is x) (h ∙ ap (hand t) (fresh x b h)) in
        let z = k.handed (unshared_then w t l) in record {
          goes = z.location;
          alike = z.others;
          fits = z.fits (unclaimed x (not_own w t l at inductive is there refl x b h) k.claims) w
              (inductive.stands.calls x);
        }

    abbrev afterwards : ℕ → Place
    afterwards = told_at.places_then w t l inductive p2 beside fits_2 holds (hand_over_told w t l)
        (hand t true)
        all_told

    abbrev is_told : ℕ → Bool
    is_told = told_at.has w t l inductive p2 beside fits_2 holds (hand_over_told w t l) (hand t true) all_told

    abbrev then_state : State
    then_state = put (state_after_telling before t (hand_over_told w t l)) t p2

    same_kinds_then : (k : ℕ) → kind_at then_state k ≡ kind_at w k
    same_kinds_then k = given_kinds w t (Mutex l at) l (op.Store (hand_off_word true none_left)) k

    not_told : is_told t ≡ false
    not_told = by_test (is_told t) refl
      where
        by_test : (b : Bool) → is_told t ≡ b → b ≡ false
        by_test false h = refl
        by_test true h = absurd (let k : HeldHere w t l inductive p2 beside fits_2 holds
            (hand_over_told w t l)
            (hand t true) all_told t = told_at.held_here w t l inductive p2 beside fits_2 holds
            (hand_over_told w t l) (hand t true) all_told t h in not_own w t l at inductive is there refl t
            k.handed k.hand refl)

    parts_kept : {A : Type 0} (g : Location → A) → ((x : Location) (h : Option Hand)
        → g (record x { hand = h }) ≡ g x) → g (mutex_location (HandOff bumps (hand_off.Leave true)))
        ≡ g (mutex_location at) → (x k : ℕ) → g (location_at (afterwards x) k)
        ≡ g (location_at (place_at w x) k)
    parts_kept g part e = told_at.all_parts w t l inductive p2 beside fits_2 holds (hand_over_told w t l)
        (hand t true) all_told g part (λ k. elim (cases_eq k l) [
          | inl f ↦ rw f (ap g now_t ∙ e ∙ sym (ap g before_t))
          | inr ne ↦ ap g (own_alike l (place_at w t) p2 own_t refl k ne).location
        ])

    hands_then : Hands (TakesOne w) afterwards
    hands_then = hands_given (TakesOne w) (locations_of (place_at w)) (locations_of afterwards)
        inductive.stands.hands t l is_told (Some true)
        (told_at.in_hand w t l inductive p2 beside fits_2 holds (hand_over_told w t l) (hand t true) all_told
        (ap (λ (y : Location). y.hand) now_t
        ∙ sym (ap (λ c. if c then hand t true else (location_at (place_at w t) l).hand) not_told
        ∙ ap (λ (y : Location). y.hand) before_t)))
        (λ i k. told_at.has_taken w t l inductive p2 beside fits_2 holds (hand_over_told w t l) (hand t true)
        all_told i k ∙ ap (λ c. if (i == t) && (k == l) then c else carried_at (place_at w i) k)
        (ap (λ (y : Location). y.has_taken) now_t))
        (λ x h. let k : HeldHere w t l inductive p2 beside fits_2 holds (hand_over_told w t l) (hand t true)
        all_told x = told_at.held_here w t l inductive p2 beside fits_2 holds (hand_over_told w t l)
        (hand t true) all_told x h in (k.handed, k.hand))
        (λ x b h. holds.taker x b h) (λ b e. (let g : true ≡ b = cc in sym g, (u, holds.taker u false held)))
        (λ x h. refl)

    abbrev after : State
    after = put (state_after_reply before u (hand_over_told w t l)) t p2

    told : state_after_telling before t (hand_over_told w t l) ≡ state_after_reply before u
        (hand_over_told w t l)
    told = told_one before t l u false (hand_over_told w t l) (aparts w inductive) inductive.stands.hands
        (single w t l at inductive is there) (of_carries l (place_at w t) own_t) held

    owners_given : Changed (owners_at w) (owners_at after) l (with_exclusive (owners_at w l) (Some u))
    owners_given = record {
      here = ap (λ x. x.owners) (get_or-set_same w.locks l _ (unlocked kind.Mutex) lt)
          ∙ successor_one w t l u false (aparts w inductive) inductive.stands.hands
          (single w t l at inductive is there) (of_carries l (place_at w t) own_t) held
          (alone_at w t l at inductive is) (unshared_at w t l at inductive is) (with_exclusive (owners_at w l)
          None);
      other = λ k ne. ap (λ x. x.owners) (get_or-set_other w.locks l k _ (unlocked kind.Mutex)
          ne);
    }

    places : place_at after ≡ putting (putting (place_at w) u pu) t p2
    places = put_places (state_after_reply before u (hand_over_told w t l)) t p2
        (λ h. absurd (let a : length (set w.places u pu) ≡ length w.places = length-set w.places u pu
        in omega arith))
        ∙ ap (λ (f : ℕ → Place). putting f t p2) (goes_from w u (hand_over_told w t l))

    state : IsLockState mutex (lock_state w l)
    state = (site_l w t l at inductive is there).state

    coded : (b : Bool) → IsCode (if b then 1 else 3) (Some u)
    coded true = refl
    coded false = refl

    same_kinds : (k : ℕ) → kind_at after k ≡ kind_at w k
    same_kinds k = given_kinds w t (Mutex l at) l (op.Store (hand_off_word true none_left)) k

    -- the store that hands the lock over
    pub hands_over : ActsNeeded mutex (acts t (deeds.handing_deeds (Some u) none_left) ++ deeds.claims_of
        (Some u)) (mutex_at w l)
        → Goes w
        (go_by w t (Mutex l (HandOff bumps (hand_off.Store true none_left)))
        (act.HandOver l (op.Store (hand_off_word true none_left)))) l
        (acts t (deeds.handing_deeds (Some u) none_left) ++ deeds.claims_of (Some u))
    hands_over needed = record {
      follows = subst (λ (z : State). SiteFollows w (put z t p2) l
          (acts t (deeds.handing_deeds (Some u) none_left) ++ deeds.claims_of (Some u))) (sym told)
          (follow w after l (rules w t l at inductive is there) (putting (putting (place_at w) u pu) t p2)
          (if none_left then 1 else 3) (with_exclusive (owners_at w l) (Some u)) (queue_at w (2 * l)) places
          (record {
            threads = length-set (set w.places u pu) t p2 ∙ length-set w.places u pu;
            locks = length-set w.locks l _;
            shares = length-set w.shares l (shares_handed_over w t l);
          })
          (λ k i. record {
            shared = ((λ j. get_or (set w.shares l (shares_handed_over w t l)) k
                (replicate ((length-set (set w.places u pu) t p2 ∙ length-set w.places u pu) j) 0))
                ∙ given_shares w t l (none_given t w.places (shares_at w l) (alone_at w t l at inductive is))
                k)
                i;
            filled = given_filled w t (Mutex l at) l (op.Store (hand_off_word true none_left))
                (rules w t l at inductive is there) k i;
          })
          (changed_set (λ x. x.word) w.locks l _ (unlocked kind.Mutex) lt) owners_given
          (unchanged (λ k. queue_at w (2 * k)) l) (λ k. refl) same_kinds
          (λ k ne x. alike_both l k (place_at w) u pu t p2 (there_u.handed (unshared_then w t l)).others
          (own_alike l (place_at w t) p2 own_t refl) apart ne x)
          (hands_acts mutex l (base_at w l) (word_at w l) (owners_at w l) (queue_at w (2 * l))
          (queue_at w (2 * l + 1)) (place_at w) (TakesOne w) inductive.stands.hands
          (single w t l at inductive is there) (mutexes_at w t l at inductive is) t u (unshared_then w t l)
          bumps none_left refl state is held none_left)
          (handing mutex l (base_at w l) (word_at w l) (owners_at w l) (queue_at w (2 * l))
          (queue_at w (2 * l + 1)) (place_at w) (TakesOne w) inductive.stands.hands
          (single w t l at inductive is there) (mutexes_at w t l at inductive is) t u (unshared_then w t l)
          bumps none_left refl state is held none_left refl)
          needed
          (coded none_left));
      stands = stands_by w then_state afterwards (told_at.places_are w t l inductive p2 beside fits_2 holds
          (hand_over_told w t l) (hand t true) all_told before refl there) same_kinds_then
          (record {
            sections = sections_same (locations_of (place_at w)) (locations_of afterwards) (section_at w)
                inductive.stands.sections (parts_kept (λ y. y.inside) (λ y h. refl) refl);
            lines = lines_same (locations_of (place_at w)) (locations_of afterwards) (queue_at w) (queue_at w)
                inductive.stands.lines (parts_kept (λ y. y.stands) (λ y h. refl) refl) (λ key. refl);
            waits = waits_same (locations_of (place_at w)) (locations_of afterwards) (queue_at w) (queue_at w)
                inductive.stands.waits (parts_kept (λ y. y.waits) (λ y h. refl) refl) (λ key. refl);
            hands = hands_then;
          })
          (λ x. calls_in w then_state (afterwards x) same_kinds_then (told_at.calls_then w t l inductive p2
          beside
          fits_2 holds (hand_over_told w t l) (hand t true) all_told x));
    }
