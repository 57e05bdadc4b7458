-- A hand-over of a reader-writer lock is one case of the abstract lock, and the calls of all that were handed
-- it go on with what they wanted.
use Rattle.lot_laws.proofs.Imports
use Imports.{ℕ, Bool, true, false, Option, Some, None, if◌then◌else◌, ◌==◌, ◌≡◌, ◌<◌, List, ◌++◌, length}
use Imports.{get_or, get_or-set_other, refl, sym, ◌∙◌, ap, subst, eqb-true, get_or-map, Op, Want, Exclusive}
use Imports.{Upgradable, Shared, CallOnce, Next, HandedBy, Value, takes_effect, claim_handed, heir_of, row_of}
use Imports.{is_thread, Hand, Of, Profile, hand, taken_from, Location, location_by, Admission, RwLockCallPlace}
use Imports.{in_hand_of, call_deeds, next_rows, with_claim, call_move, call_profile, call_act, call_next}
use Imports.{handed_move, fair_sleepers_hear, Place, Idle, Mutex, RwLock, Once, Condvar, Semaphore, calls}
use Imports.{next_place, profile, rwlock_goes, taker, case_of, event_by, HandOff, IsTaken, Queued, Rights}
use Imports.{Taken, putting, AtLock, Event, is_taken_by, Deed, IsWellFormed, State, place_after_telling}
use Imports.{place_at, put, state_after_act, state_after_hand_over_by, unshared_then, word_at, acts, call_state}
use Imports.{lock_state, taken_at, FitsItsLock, Goes, IsCountOfHand, IsInductive, carried_at, rules_in}
use Rattle.lot_laws.proofs.rwlock.RwLockStaysASite.{beside_no_call, of_no_once}
use Rattle.core_base.specs.declared.wants.Want.TheVariants.{Wait}
use Rattle.steps_base.specs.declared.acts.Act.TheVariants as act
use Rattle.steps_base.specs.declared.acts.Next.TheVariants as next
use Rattle.steps_base.specs.Locations.{nowhere}
use Rattle.steps_rwlock_fair.specs.declared.hand_over.Taken.{Taken as Counted}
use Rattle.lot_laws.specs.ThreadDeeds as deeds
use Rattle.lot_laws.proofs.machine.AtPlaces.{in_no_hand, unless_held}
use Rattle.lot_laws.proofs.calls.CallEvents.{IsEvent, OthersFollow, happens}
use Rattle.lot_laws.proofs.machine.Parts.{IsSingle, held_tells, location_here, condvar_untaken}
use Rattle.lot_laws.proofs.hands.Rights.{given_right}
use Rattle.lot_laws.proofs.hands.Counted.{hand_there}
use Rattle.lot_laws.proofs.hands.HandEvents.{IsHandedCall, claims_are, hands_many}
use Rattle.lot_laws.proofs.hands.HandsStay.{alone_is, claims_given}
use Rattle.lot_laws.proofs.hands.HandsOn.{bare, has_taken, g, given, hands_goes, hands_tell, more_right, of}
use Rattle.lot_laws.proofs.hands.HandsOn.{row, unclaimed, whom}
use Rattle.lot_laws.proofs.calls.LockEvents.{Befalls}
use Rattle.lot_laws.proofs.calls.OtherCalls.{taken_by_hand}
use Rattle.lot_laws.proofs.rwlock.RwLockStaysASite.{beside_no_call, admits, of_no_mutex, of_no_semaphore}

-- tells what a thread has once it was handed what it wanted
gains : (alone : Bool) (x : Want) (l : ℕ) (r : ℕ → Rights)
    → putting r l (given_right alone x (r l)) ≡ with_claim (claim_handed alone x) l r
gains true Exclusive l r = refl
gains true Upgradable l r = refl
gains true Shared l r = refl
gains true Wait l r = refl
gains true CallOnce l r = refl
gains false Exclusive l r = refl
gains false Upgradable l r = refl
gains false Shared l r = refl
gains false Wait l r = refl
gains false CallOnce l r = refl

module _ (w : State) (t l : ℕ) (a : Admission) (c : RwLockCallPlace) (inductive : IsInductive w)
    (shape : IsWellFormed w)
    (there : t < length w.places) (lt : l < length w.locks) (is : place_at w t ≡ RwLock l a c)
    (k : Counted) (is_k : in_hand_of c ≡ Some k) (count : IsCountOfHand w t k) (op : Op) (e : call_act l a c
    ≡ act.HandOver l op) (takes : takes_effect op (word_at w l) ≡ true) where
  abbrev alone : Bool
  alone = unshared_then w t l

  abbrev heir : Option ℕ
  heir = whom w t l a c inductive shape there lt is k is_k count op e

  abbrev pub afterwards : State
  afterwards = put (state_after_act w t (RwLock l a c) (act.HandOver l op)) t (next_place (RwLock l a c)
      (Value (word_at w l)))

  abbrev pub done : List Deed
  done = call_deeds a c heir (Value (word_at w l))

  abbrev claims : List deeds.Act
  claims = claims_given t alone (λ u. taken_at (place_at w u) l) (length w.places)

  went : Goes w afterwards l (acts t done ++ claims)
  went = subst (λ q. Goes w (put (state_after_act w t (RwLock l a c) (act.HandOver l op)) t
      (next_place q (Value (word_at w l)))) l (acts t done ++ claims)) is (hands_goes w t l a c inductive
      shape
      there lt is k is_k count op e takes)

  abbrev pub right : Want
  right = (g w t l a c inductive shape there lt is k is_k count op e).right

  abbrev pub successor : Option Queued
  successor = heir_of heir (g w t l a c inductive shape there lt is k is_k count op e).successor

  carried_now : carried_at (place_at w t) l ≡ (call_profile a c).has_taken
  carried_now = ap (λ (y : Location). y.has_taken) (location_here l (place_at w t)
      (of w t l a c inductive shape there lt is k is_k count op e)) ∙ ap (λ (y : Profile). y.has_taken)
      (row w t l a c inductive shape there lt is k is_k count op e)

  abbrev event : Event
  event = event_by l (case_of (call_profile a c).has_taken done)

  one_case : event ≡ AtLock l (HandOff right successor)
  one_case = ap (λ ds. event_by l (case_of (call_profile a c).has_taken ds))
      ((g w t l a c inductive shape there lt is k is_k count op e).deeds heir (word_at w l) takes)

  pub hands_happen : IsEvent w afterwards t event
  hands_happen = happens w afterwards t l (call_profile a c).has_taken done claims inductive went
      (claims_are t alone (λ u. taken_at (place_at w u) l) (length w.places))
      (hands_tell w t l a c inductive shape there lt is k is_k count op e).one
      (λ none. in_no_hand w inductive t l (λ h. none (sym carried_now ∙ h)))

  -- all in its hand are told, and nobody else
  delivers : Befalls w afterwards t l (HandedBy t alone)
  delivers u ne = get_or-set_other (state_after_act w t (RwLock l a c) (act.HandOver l op)).places t u
      (next_place (RwLock l a c) (Value (word_at w l))) Idle ne
      ∙ ap (λ b. get_or (state_after_hand_over_by b w t (RwLock l a c) l op).places u Idle) takes
      ∙ get_or-map (place_after_telling t (HandedBy t alone)) w.places u Idle
      ∙ ap (λ b. if b then next_place (place_at w u) (HandedBy t alone) else place_at w u)
      (same_test (is_thread t (taker (place_at w u))) refl)
    where
      same_test : (b : Bool) → is_thread t (taker (place_at w u)) ≡ b
          → is_thread t (taker (place_at w u)) ≡ is_taken_by t (taken_at (place_at w u) l)
      same_test true f = f ∙ sym (taken_by_hand w (place_at w u) t l (inductive.stands.calls u)
          (hand_there w t l inductive (of w t l a c inductive shape there lt is k is_k count op e)
          (g w t l a c inductive shape there lt is k is_k count op e).any
          (has_taken w t l a c inductive shape there lt is k is_k count op e) u f))
      same_test false f = f ∙ sym (unless_held w inductive t l u
          (λ h. let z : is_thread t (taker (place_at w u))
          ≡ true = held_tells (place_at w u) t l false h in cc))

  -- a thread that waits for a lock that is no mutex is in a call of it alone
  handed_single : (u : ℕ) (x : Want) → IsTaken (lock_state w l) t u x → IsSingle (place_at w u)
  handed_single u x taken = by_place (place_at w u) refl taken
    where
      by_place : (q : Place) → place_at w u ≡ q → taken_at q l ≡ Some (record { by = t; want = x })
          → IsSingle q
      by_place (Condvar j at) f h = let none : taken_at (Condvar j at) l ≡ None =
          condvar_untaken j at l (beside_no_call w t l a c inductive shape there lt is u j at f)
          in let both : ◌≡◌ {A = Option Taken} None (Some (record { by = t; want = x })) = sym none ∙ h in cc
      by_place Idle f h = tt
      by_place (Mutex j m) f h = tt
      by_place (RwLock j d q) f h = tt
      by_place (Once j at) f h = tt
      by_place (Semaphore j at) f h = tt

  -- Calls of the taken go on with what they are handed.
  handed_calls : (u : ℕ) (x : Want) → IsTaken (lock_state w l) t u x → IsHandedCall l t alone x (place_at w u)
  handed_calls u x taken = by_place (place_at w u) refl taken
    where
      by_place : (q : Place) → place_at w u ≡ q → taken_at q l ≡ Some (record { by = t; want = x })
          → IsHandedCall l t alone x q
      by_place Idle f h = absurd cc
      by_place (Condvar j at) f h = absurd (let none : taken_at (Condvar j at) l ≡ None =
          condvar_untaken j at l (beside_no_call w t l a c inductive shape there lt is u j at f)
          in let both : ◌≡◌ {A = Option Taken} None (Some (record { by = t; want = x })) = sym none ∙ h in cc)
      by_place (Once j at) f h = either (j == l) refl h
        where
          either : (y : Bool) → (j == l) ≡ y → taken_from (profile (Once j at)).hand
              (profile (Once j at)).wants y ≡ Some (record { by = t; want = x })
              → IsHandedCall l t alone x (Once j at)
          either true same_lock z = absurd (of_no_once w t l a c inductive shape there lt is u j at f
              (eqb-true j l same_lock))
          either false same_lock z = absurd (untaken (profile (Once j at)).hand (profile (Once j at)).wants z)
            where
              untaken : (o : Option Hand) (y : Option Want) → taken_from o y false
                  ≡ Some (record { by = t; want = x }) → ⊥
              untaken None y z = cc
              untaken (Some (Of v true)) y z = cc
              untaken (Some (Of v false)) None z = cc
              untaken (Some (Of v false)) (Some s) z = cc
      by_place (Semaphore j at) f h = either (j == l) refl h
        where
          either : (y : Bool) → (j == l) ≡ y → taken_from (profile (Semaphore j at)).hand
              (profile (Semaphore j at)).wants y ≡ Some (record { by = t; want = x })
              → IsHandedCall l t alone x (Semaphore j at)
          either true same_lock z = absurd (of_no_semaphore w t l a c inductive shape there lt is u j at f
              (eqb-true j l same_lock))
          either false same_lock z = absurd (untaken (profile (Semaphore j at)).hand
              (profile (Semaphore j at)).wants z)
            where
              untaken : (o : Option Hand) (y : Option Want) → taken_from o y false
                  ≡ Some (record { by = t; want = x }) → ⊥
              untaken None y z = cc
              untaken (Some (Of v true)) y z = cc
              untaken (Some (Of v false)) None z = cc
              untaken (Some (Of v false)) (Some s) z = cc
      by_place (Mutex j m) f h = either (j == l) refl h
        where
          either : (y : Bool) → (j == l) ≡ y → taken_from (profile (Mutex j m)).hand
              (profile (Mutex j m)).wants y ≡ Some (record { by = t; want = x })
              → IsHandedCall l t alone x (Mutex j m)
          either true same_lock z = absurd (of_no_mutex w t l a c inductive shape there lt is u j m f
              (eqb-true j l same_lock))
          either false same_lock z = absurd (untaken (profile (Mutex j m)).hand (profile (Mutex j m)).wants z)
            where
              untaken : (o : Option Hand) (y : Option Want) → taken_from o y false
                  ≡ Some (record { by = t; want = x }) → ⊥
              untaken None y z = cc
              untaken (Some (Of v true)) y z = cc
              untaken (Some (Of v false)) None z = cc
              untaken (Some (Of v false)) (Some s) z = cc
      by_place (RwLock j d q) f h = by_row (call_profile d q).hand (call_profile d q).wants
          (calls (RwLock j d q) l) refl refl refl h
        where
          fits_u : FitsItsLock w (RwLock j d q)
          fits_u = subst (FitsItsLock w) f (inductive.stands.calls u)

          at_lock : j ≡ l → (call_profile d q).hand ≡ hand t false → (call_profile d q).wants ≡ Some x
              → IsHandedCall l t alone x (RwLock j d q)
          at_lock same_lock z wants r = by_next (call_next d q (HandedBy t alone)) refl
            where
              unclaimed_now : (call_profile d q).role.claims ≡ None
              unclaimed_now = unclaimed w t l a c inductive shape there lt is k is_k count op e takes u j d q
                  f
                  same_lock z

              by_next : (n : Next RwLockCallPlace) → call_next d q (HandedBy t alone) ≡ n
                  → call_state (rwlock_goes j d n) (putting r l (given_right alone x (r l)))
                  ≡ record (call_state (RwLock j d q) r) { retries = None }
              by_next (next.At c2) y = ap (call_state (RwLock j d c2)) (gains alone x l r
                  ∙ ap (λ i. with_claim (claim_handed alone x) i r) (sym same_lock))
                  ∙ (fair_sleepers_hear d j q fits_u.1).given t alone z unclaimed_now c2 r x wants y
              by_next (next.End answer) y = absurd (
                  let m = (handed_move d q fits_u.1).given t alone x z unclaimed_now wants in
                  let goes : location_by ((call_move d q).next (HandedBy t alone)) ≡ record nowhere {
                    hand =
                        hand t true;
                  } = m.goes in
                  let none : ◌≡◌ {A = Option Hand} None (hand t true) =
                  sym (ap (λ (n : Next RwLockCallPlace). (row_of (next_rows d n)).hand) y)
                  ∙ ap (λ (s : Location). s.hand) goes in cc)

          by_row : (o : Option Hand) (y : Option Want) (b : Bool) → (call_profile d q).hand ≡ o
              → (call_profile d q).wants ≡ y → (j == l) ≡ b → taken_from o y b
              ≡ Some (record { by = t; want = x }) → IsHandedCall l t alone x (RwLock j d q)
          by_row None y b p1 p2 p3 z = absurd cc
          by_row (Some (Of v true)) y b p1 p2 p3 z = absurd cc
          by_row (Some (Of v false)) None b p1 p2 p3 z = absurd cc
          by_row (Some (Of v false)) (Some s) true p1 p2 p3 z =
              let both : record { by = v; want = s } ≡ record { by = t; want = x } = cc in
              at_lock (eqb-true j l p3) (p1 ∙ ap (λ (y : Taken). hand y.by false) both) (p2
              ∙ ap (λ (y : Taken). Some y.want) both)
          by_row (Some (Of v false)) (Some s) false p1 p2 p3 z = absurd cc

  pub hands_others : OthersFollow w afterwards t event
  hands_others = subst (OthersFollow w afterwards t) (sym one_case) (hands_many w afterwards t l right
      successor
      (subst (IsEvent w afterwards t) one_case hands_happen) alone
      (alone_is w t l inductive (of w t l a c inductive shape there lt is k is_k count op e) there lt
      (RwLock l a c)
      (place_at w t) (of w t l a c inductive shape there lt is k is_k count op e) (inductive.stands.calls t)
      op
      (rules_in w l) refl (admits w t l a c inductive shape there lt is).0
      (given w t l a c inductive shape there lt is k is_k count op e takes)
      (bare w t l a c inductive shape there lt
      is k is_k count op e) right (more_right w t l a c inductive shape there lt is k is_k count op e takes))
      delivers handed_calls handed_single)
