-- A thread in a call of a reader-writer lock goes on by its act: for itself alone, or handing its right over
-- to those that it has in hand.
use Rattle.lot_laws.proofs.Imports
use Imports.{ℕ, Bool, true, false, Option, Some, ◌≡◌, ◌≢◌, ◌<◌, ◌*◌, ◌+◌, List, [], ◌∷◌, length, refl, sym, ◌∙◌}
use Imports.{ap, subst, append-nil, Op, Act, Value, takes_effect, Location, Admission, RwLockPlace, MayStand}
use Imports.{rwlock_move, rwlock_hears, rwlock_act, rwlock_acts_move, MovesByAct, RwLockCallPlace, Plain}
use Imports.{PeekQueue, HandOver, Bump, Handed, CallStands, in_hand_of, call_deeds, CallTells, CallMoves}
use Imports.{call_hears, call_move, call_profile, call_act, fair_acts_move, Idle, RwLock, called_lock}
use Imports.{next_place, case_of, event_by, LockCase, Begin, Deed, State, can_do, kind_at, owners_at, place_at}
use Imports.{put, queue_at, reply_to, share_at, shares_at, state_after_hand_over_by, word_at, IsWellFormed}
use Imports.{acts, AreCounted, Goes, IsInductive, carried_at, rules_in, location, has_readers, RwLockCall}
use Imports.{admission_of_kind, call_first, call_right, CallOpens, calls_open, Place, taken_at}
use Rattle.spec_locks.specs.declared.calls.Access.TheVariants as access
use Rattle.steps_base.specs.declared.acts.Act.TheVariants as act
use Rattle.steps_rwlock_fair.specs.declared.hand_over.Taken.{Taken as Counted}
use Rattle.steps_rwlock_fair.specs.declared.hand_over.HandOverAt.TheVariants as handing
use Rattle.steps_rwlock_fair.specs.declared.handed.HandedAt.TheVariants as handed
use Rattle.lot_laws.proofs.sites.ActsKept.{lock_by}
use Rattle.lot_laws.proofs.machine.AtPlaces.{in_no_hand}
use Rattle.lot_laws.proofs.calls.CallEvents.{IsEvent, OthersFollow, happens, others_follow}
use Rattle.lot_laws.proofs.hands.HandsOn.{g, hands_fails, hands_tell, whom}
use Rattle.lot_laws.proofs.hands.HandsOnEvents.{hands_happen, hands_others}
use Rattle.lot_laws.proofs.rwlock.RwLockStaysASite.{admits}
use Rattle.lot_laws.proofs.promises.LineActs.{TakesHere, takes_here}
use Rattle.lot_laws.proofs.machine.PlaceTest.{call_facts}
use Rattle.lot_laws.proofs.calls.OtherCalls.{Stay, IsCalm, WakesOwn, calm, hands_nothing, lonely, no_hand_off}
use Rattle.lot_laws.proofs.calls.OtherCalls.{wakes_own}
use Rattle.lot_laws.proofs.promises.PlacePromises.{location_own}
use Rattle.lot_laws.proofs.rwlock.RwLockStaysASite.{GoesFrom, admits_by, first_fits, stands}
use Rattle.lot_laws.proofs.book.LockStaysASite.{begins_with, goes_on, whom_by}
use Rattle.lot_laws.proofs.book.Pages.{booked}
use Rattle.lot_laws.proofs.machine.Parts.{same}
use Rattle.lot_laws.proofs.sites.SitesKept.{go_by}

-- ---------------------------------------------------------------- a thread that hands over

-- a call that only enters and releases hands nothing over
plain_gives : (l k : ℕ) (a : Admission) (p : RwLockPlace) (op : Op) → MayStand a p → rwlock_act l a p
    ≡ act.HandOver k op → ⊥
plain_gives l k a p op may e = subst (λ x. MovesByAct l a.recursive (rwlock_move a p) (rwlock_hears a p) x) e
    (rwlock_acts_move l a p may)

-- a thread that hands over says which threads it has in hand
pub gives_counted : (l k : ℕ) (a : Admission) (c : RwLockCallPlace) (op : Op) → CallStands a c
    → call_act l a c ≡ act.HandOver k op → (n : Counted) × (in_hand_of c ≡ Some n)
gives_counted l k a (HandOver x b (handing.Store n)) op may e = (n, refl)
gives_counted l k a (HandOver x b (handing.Exchange n seen)) op may e = (n, refl)
gives_counted l k a (HandOver x b (handing.Look n)) op may e = (n, refl)
gives_counted l k a (HandOver x b (handing.Leave any given)) op may e = absurd cc
gives_counted l k a (HandOver x b to) op may e = absurd cc
gives_counted l k a (Plain p) op may e = absurd (plain_gives l k a p op may e)
gives_counted l k a (Bump p) op may e = absurd (plain_gives l k a p op may.0 e)
gives_counted l k a (PeekQueue x) op may e = absurd cc
gives_counted l k a (Handed x how b (handed.Asleep u alone)) op may e = absurd cc
gives_counted l k a (Handed access.Exclusive how b handed.Accept) op may e = absurd cc
gives_counted l k a (Handed access.Shared how b handed.Accept) op may e = absurd cc
gives_counted l k a (Handed access.Upgradable how b handed.Accept) op may e = absurd cc

-- ---------------------------------------------------------------- the effect of an act

module _ (w : State) (t l : ℕ) (a : Admission) (c : RwLockCallPlace) where
  -- where it leads
  abbrev pub then_by : Act → State
  then_by y = go_by w t (RwLock l a c) y

  abbrev pub deeds_by : Option ℕ → Act → List Deed
  deeds_by whom y = call_deeds a c whom (reply_to w t y)

  abbrev pub case_by : Option ℕ → Act → Option LockCase
  case_by whom y = case_of (call_profile a c).has_taken (deeds_by whom y)

  -- the thread's deeds are one event of the lock, which its call allows, and by which it goes on with those
  -- of the others
  pub record GoesOnBy (y : Act) : Type 0 where
    pub whom : Option ℕ
    pub tells : CallTells (rules_in w l) a (lock_by w l (rules_in w l)) t l c whom (reply_to w t y)
    pub happened : IsEvent w (then_by y) t (event_by l (case_by whom y))
    pub others : OthersFollow w (then_by y) t (event_by l (case_by whom y))

module _ (w : State) (t l : ℕ) (a : Admission) (c : RwLockCallPlace) (inductive : IsInductive w)
    (shape : IsWellFormed w)
    (there : t < length w.places) (lt : l < length w.locks) (is : place_at w t ≡ RwLock l a c) where
  of : called_lock (place_at w t) ≡ Some l
  of = ap called_lock is

  -- a thread that it has in hand, by its place
  pub has_taken : carried_at (place_at w t) l ≡ (call_profile a c).has_taken
  has_taken = ap (λ (y : Location). y.has_taken) (location_own (place_at w t) l of)
      ∙ ap (λ q. (location q).has_taken) is

  abbrev goes : Option ℕ → Act → Type 0
  goes whom y = Goes w (then_by w t l a c y) l (acts t (deeds_by w t l a c whom y))

  abbrev tells : Option ℕ → Act → Type 0
  tells whom y = CallTells (rules_in w l) a (lock_by w l (rules_in w l)) t l c whom (reply_to w t y)

  -- nobody else claims anything
  happens_by : (y : Act) (whom : Option ℕ) → goes whom y → tells whom y
      → IsEvent w (then_by w t l a c y) t (event_by l (case_by w t l a c whom y))
  happens_by y whom went told = happens w (then_by w t l a c y) t l (call_profile a c).has_taken
      (deeds_by w t l a c whom y) [] inductive (subst (Goes w (then_by w t l a c y) l)
      (sym (append-nil (acts t (deeds_by w t l a c whom y)))) went) tt told.one
      (λ none. in_no_hand w inductive t l (λ h. none (sym has_taken ∙ h)))

  -- for itself alone
  module _ (y : Act) (here : TakesHere l y) (from : GoesFrom w t l a c inductive shape there lt is
      (RwLock l a c)
      y) where
    abbrev own_case : Option LockCase
    own_case = case_by w t l a c from.whom y

    own_happened : IsEvent w (then_by w t l a c y) t (event_by l own_case)
    own_happened = happens_by y from.whom from.goes from.tells

    -- the threads in the hand are woken, and nobody else's call changes
    own_others : OthersFollow w (then_by w t l a c y) t (event_by l own_case)
    own_others = others_follow w (then_by w t l a c y) t l own_case own_happened
        (hands_nothing w (then_by w t l a c y) t l own_case own_happened (call_profile a c).has_taken y own_case
        from.others)
        (wakes_own w t l inductive (rw is refl) (next_place (RwLock l a c) (reply_to w t y))
        (λ e. let some : has_readers (rules_in w l).sort ≡ true =
        (admits w t l a c inductive shape there lt is).0 in let none : has_readers (rules_in w l).sort
        ≡ false = ap has_readers e in cc) (RwLock l a c) y here own_case
        (subst (λ h. WakesOwn h y own_case) (sym has_taken) from.others))

    by_own : GoesOnBy w t l a c y
    by_own = record { whom = from.whom; tells = from.tells; happened = own_happened; others = own_others }

  -- to those that it has in hand, where its operation takes effect
  module _ (k : Counted) (is_k : in_hand_of c ≡ Some k) (counted : AreCounted w) (op : Op)
      (e : call_act l a c ≡ act.HandOver l op) where
    abbrev heir : Option ℕ
    heir = whom w t l a c inductive shape there lt is k is_k (counted t l a c k is is_k) op e

    told_so : tells heir (act.HandOver l op)
    told_so = hands_tell w t l a c inductive shape there lt is k is_k (counted t l a c k is is_k) op e

    hands : takes_effect op (word_at w l) ≡ true → GoesOnBy w t l a c (act.HandOver l op)
    hands takes = record {
      whom = heir;
      tells = told_so;
      happened = hands_happen w t l a c inductive shape there lt is k is_k (counted t l a c k is is_k) op e
          takes;
      others = hands_others w t l a c inductive shape there lt is k is_k (counted t l a c k is is_k) op e
          takes;
    }

    -- A failed exchange looks again.
    module _ (fails : takes_effect op (word_at w l) ≡ false) where
      abbrev afterwards : State
      afterwards = then_by w t l a c (act.HandOver l op)

      abbrev case : Option LockCase
      case = case_by w t l a c heir (act.HandOver l op)

      happened : IsEvent w afterwards t (event_by l case)
      happened = happens_by (act.HandOver l op) heir
          (subst (λ q. Goes w (put (state_after_hand_over_by (takes_effect op (word_at w l)) w t
          (RwLock l a c) l op) t (next_place q (Value (word_at w l)))) l
          (acts t (deeds_by w t l a c heir (act.HandOver l op)))) is
          (hands_fails w t l a c inductive shape there lt is k is_k (counted t l a c k is is_k) op e fails))
          told_so

      calmly : IsCalm case
      calmly = subst (λ ds. IsCalm (case_of (call_profile a c).has_taken ds))
          (sym ((g w t l a c inductive shape there lt is k is_k (counted t l a c k is is_k) op e).fails heir
          (word_at w l) fails)) tt

      stay : Stay w t (next_place (RwLock l a c) (Value (word_at w l))) afterwards
      stay = subst (λ b. Stay w t (next_place (RwLock l a c) (Value (word_at w l)))
          (put (state_after_hand_over_by b w t (RwLock l a c) l op) t (next_place (RwLock l a c)
          (Value (word_at w l))))) (sym fails)
          (lonely w t (next_place (RwLock l a c) (Value (word_at w l))) (RwLock l a c) (act.Word l op) tt)

      others : OthersFollow w afterwards t (event_by l case)
      others = others_follow w afterwards t l case happened (no_hand_off w afterwards t l case happened case
          calmly)
          (calm w t (next_place (RwLock l a c) (Value (word_at w l))) afterwards l case calmly stay)

      looks : GoesOnBy w t l a c (act.HandOver l op)
      looks = record { whom = heir; tells = told_so; happened = happened; others = others }

    pub by_effect : (b : Bool) → takes_effect op (word_at w l) ≡ b → GoesOnBy w t l a c (act.HandOver l op)
    by_effect true f = hands f
    by_effect false f = looks f

    pub effect_whom : (b : Bool) (f : takes_effect op (word_at w l) ≡ b) → (by_effect b f).whom ≡ heir
    unfolding by_effect hands looks
    effect_whom true f = refl
    effect_whom false f = refl

  -- by any act that hands nothing over
  pub goes_unhanded : ((k : ℕ) (op : Op) → call_act l a c ≢ act.HandOver k op) → can_do w (call_act l a c)
      ≡ true → GoesFrom w t l a c inductive shape there lt is (RwLock l a c) (call_act l a c)
  goes_unhanded plain can = let g = goes_on w t l (RwLock l a c) inductive shape there lt is
      (booked w t l (RwLock l a c) inductive is tt (same l)) (same l) plain can in
      record { whom = whom_by w (call_act l a c); goes = g.goes; tells = g.tells; others = g.others }

  -- wherever it stands
  pub rwlock_goes_on : AreCounted w → can_do w (call_act l a c) ≡ true → GoesOnBy w t l a c (call_act l a c)
  rwlock_goes_on counted can = by_act (call_act l a c) refl
    where
      may : CallStands a c
      may = stands w t l a c inductive shape there lt is

      alone : ((k : ℕ) (op : Op) → call_act l a c ≢ act.HandOver k op) → GoesOnBy w t l a c (call_act l a c)
      alone plain = by_own (call_act l a c) (takes_here l (location (RwLock l a c)) (call_act l a c)
          (call_facts l a c).line) (goes_unhanded plain can)

      by_act : (y : Act) → call_act l a c ≡ y → GoesOnBy w t l a c (call_act l a c)
      by_act (act.HandOver k op) e =
          let n = gives_counted l k a c op may e in
          let same_lock : k ≡ l = (subst (CallMoves l a.recursive (call_move a c) (call_hears a c)) e
          (fair_acts_move l a c may)).0 in
          let here : call_act l a c ≡ act.HandOver l op = e ∙ ap (λ j. act.HandOver j op) same_lock in
          subst (GoesOnBy w t l a c) (sym here) (by_effect n.0 n.1 counted op here
          (takes_effect op (word_at w l)) refl)
      by_act y e = alone (λ k op f. let g : y ≡ act.HandOver k op = sym e ∙ f in cc)

-- ---------------------------------------------------------------- a call begins

module _ (w : State) (t l : ℕ) (c : RwLockCall) (inductive : IsInductive w) (there : t < length w.places)
    (idle_now : place_at w t ≡ Idle)
    (readers : has_readers (rules_in w l).sort ≡ true) (right : call_right c t (owners_at w l)
    (share_at w l t) ≡ true) where
  abbrev pub first : Place
  first = RwLock l (admission_of_kind (kind_at w l)) (call_first c)

  pub opens : CallOpens (admission_of_kind (kind_at w l)) c
  opens = calls_open (admission_of_kind (kind_at w l)) c

  -- with what it claims
  pub rwlock_begins : Goes w (put w t first) l (acts t (Begin opens.opening.claims ∷ []))
  rwlock_begins = begins_with w t l inductive there idle_now first refl refl
      (first_fits w l (admission_of_kind (kind_at w l)) c (admits_by (kind_at w l) readers))
      opens.opening.claims opens.opening.location opens.opening.role
      (opens.has t (shares_at w l) (owners_at w l) (queue_at w (2 * l)) (queue_at w (2 * l + 1))
      (λ u. taken_at (place_at w u) l) right)
