-- A fair release, or a bump, of a lock that is shared: what its own steps make of those that it has taken.
use Rattle.lot_laws.proofs.Imports
use Imports.{ℕ, Bool, true, false, Option, Some, None, if◌then◌else◌, ◌≡◌, ◌≢◌, ◌<◌, ◌==◌, ◌⊎◌, inl, inr}
use Imports.{length, refl, sym, ◌∙◌, ap, subst, One, Two, Op, Want, Exclusive, Upgradable, Shared, CallOnce}
use Imports.{first_of, Access, Act, Value, holds, takes_effect, in_hand, Admission, RwLockCallPlace, Plain}
use Imports.{PeekQueue, HandOver, Bump, Handed, CallStands, HasInHand, in_hand_of, call_deeds, IsToGive}
use Imports.{CallMoves}
use Imports.{call_hears, call_move, call_profile, any_taken, call_act, has_room, parked_as, with_taken}
use Imports.{word_without, fair_acts_move, bump_keeps, fair_releases_give, handed_keeps, plain_keeps, after_all}
use Imports.{Owns, Rules, Site, deeds_lead, Place, RwLock, profile, IsWellFormed, State, can_do, owners_at}
use Imports.{place_at, queue_at, queues_without_first, reply_to, state_after_act, state_after_taking}
use Imports.{successor_from, word_at, FairReleaseComesTo, lock_state, AreCounted, IsInductive, rules_in}
use Rattle.core_base.specs.declared.ops.Op.TheVariants as operation
use Rattle.core_base.specs.declared.wants.Want.TheVariants.{Wait}
use Rattle.steps_base.specs.declared.acts.Act.TheVariants as act
use Rattle.steps_base.specs.declared.acts.Wakes.TheVariants as wakes
use Rattle.steps_base.specs.declared.acts.TakeWhich.TheVariants as whoms
use Rattle.steps_rwlock_fair.specs.declared.hand_over.Taken.{Taken as Counted}
use Rattle.steps_rwlock_fair.specs.declared.hand_over.HandOverAt.TheVariants as handing
use Rattle.steps_rwlock_fair.specs.FairDeeds.{exchanged_deeds}
use Rattle.lot_laws.proofs.sites.ActsKept.{lock_by}
use Rattle.lot_laws.proofs.machine.AtPlaces.{in_no_hand}
use Rattle.lot_laws.proofs.machine.Parts.{IsSingle, free_of}
use Rattle.lot_laws.proofs.hands.Counted.{has_in_hand}
use Rattle.lot_laws.proofs.hands.Moved.{thread_of}
use Rattle.lot_laws.proofs.calls.CallEvents.{led_here}
use Rattle.lot_laws.proofs.rwlock.RwLockStepsAreEvents.{case_by, GoesOnBy, by_effect, has_taken, deeds_by}
use Rattle.lot_laws.proofs.rwlock.RwLockStepsAreEvents.{effect_whom}
use Rattle.lot_laws.proofs.rwlock.RwLockStepsAreEvents.{gives_counted, rwlock_goes_on, then_by}
use Rattle.lot_laws.proofs.rwlock.RwLockStaysASite.{at_now, own, stands}

-- ---------------------------------------------------------------- acts that change no owner

abbrev IsOffWord : Act → Type 0
IsOffWord (act.Word l op) = ⊥
IsOffWord (act.HandOver l op) = ⊥
IsOffWord y = Unit {0}

module _ (w : State) (t : ℕ) (p : Place) where
  parked_locks : (b : Bool) (v : State) → v.locks ≡ w.locks → (if b then v else w).locks ≡ w.locks
  parked_locks true v e = e
  parked_locks false v e = refl

  taken_locks : (v : State) (o : Option ℕ) → (state_after_taking v t o).locks ≡ v.locks
  taken_locks v None = refl
  taken_locks v (Some u) = refl

  locks_kept : (y : Act) → IsOffWord y → (state_after_act w t p y).locks ≡ w.locks
  locks_kept (act.Word l op) h = absurd h
  locks_kept (act.HandOver l op) h = absurd h
  locks_kept (act.Enter (One key)) h = refl
  locks_kept (act.Enter (Two first second)) h = refl
  locks_kept (act.Park l key check want) h = parked_locks (holds check (word_at w l)) _ refl
  locks_kept (act.Take key whoms.First) h =
      taken_locks (record w { queues = queues_without_first w.queues key }) (first_of (queue_at w key))
  locks_kept (act.Leave (One key) wakes.Nobody) h = refl
  locks_kept (act.Leave (One key) (wakes.All note)) h = refl
  locks_kept (act.Leave (Two first second) wakes.Nobody) h = refl
  locks_kept (act.Leave (Two first second) (wakes.All note)) h = refl
  locks_kept y h = refl

-- an owner of more than a shared right stays one as long as the owners are as they were
pub owner_stays : (w v : State) (l t : ℕ) (x : Want) → v.locks ≡ w.locks → x ≢ Shared
    → Owns (lock_state w l) t x
    → Owns (lock_state v l) t x
owner_stays w v l t Exclusive e more own = ap (λ cells. (owners_at (record w { locks = cells }) l).exclusive)
    e ∙ own
owner_stays w v l t Upgradable e more own =
    ap (λ cells. (owners_at (record w { locks = cells }) l).upgradable) e ∙ own
owner_stays w v l t Shared e more own = absurd (more refl)
owner_stays w v l t Wait e more own = own
owner_stays w v l t CallOnce e more own = own

-- ---------------------------------------------------------------- deeds of an operation on the word

-- a thread that is handed the lock is in no deed of a step that hands nothing over
module _ (l : ℕ) (a : Admission) (whom : Option ℕ) (v : ℕ) where
  exchange_same : (b : Bool) (k : Counted) (expected : ℕ) (op : Op) (x : Access) (room won : Bool)
      → has_room a.limit k expected ≡ room
      → call_act l a (HandOver x b (handing.Exchange k expected)) ≡ act.Word l op → (y : Want)
      → exchanged_deeds y k whom won (has_room a.limit k expected) ≡ exchanged_deeds y k None won
      (has_room a.limit k expected)
  exchange_same b k expected op x true won e f y = absurd (
      let g : act.HandOver l (operation.Exchange expected (with_taken x k expected)) ≡ act.Word l op =
      sym (ap (λ r. if r then act.HandOver l (operation.Exchange expected (with_taken x k expected))
      else act.Word l (operation.Exchange expected (parked_as k.none_left (word_without x expected)))) e)
      ∙ f in cc)
  exchange_same b k expected op x false true e f y = ap (exchanged_deeds y k whom true) e
      ∙ sym (ap (exchanged_deeds y k None true) e)
  exchange_same b k expected op x false false e f y = refl

  word_deeds : (c : RwLockCallPlace) (op : Op) (released : Bool) (x : Want) → call_act l a c ≡ act.Word l op
      → CallStands a c
      → IsToGive ((call_profile a c).purpose l) (call_profile a c).released x → x ≢ Shared
      → call_deeds a c whom (Value v) ≡ call_deeds a c None (Value v)
  word_deeds (Plain p) op r x e may gives more =
      absurd (plain_keeps l p.purpose (call_profile a (Plain p)).released x gives)
  word_deeds (Bump p) op r x e may gives more =
      absurd (bump_keeps a l p.purpose p.retries p.at x may.1 more gives)
  word_deeds (Handed y how b to) op r x e may gives more = absurd (handed_keeps a l y how b to x gives)
  word_deeds (PeekQueue y) op r x e may gives more = refl
  word_deeds (HandOver y b handing.Load) op r x e may gives more = refl
  word_deeds (HandOver y b (handing.Free expected)) op r x e may gives more = refl
  word_deeds (HandOver y b handing.Enter) op r x e may gives more = absurd cc
  word_deeds (HandOver y b handing.Take) op r x e may gives more = absurd cc
  word_deeds (HandOver y b (handing.Store k)) op r x e may gives more = absurd cc
  word_deeds (HandOver y b (handing.Look k)) op r x e may gives more = refl
  word_deeds (HandOver y b (handing.Exchange k expected)) op r x e may gives more =
      exchange_same b k expected op y (has_room a.limit k expected) (v == expected) refl e _
  word_deeds (HandOver y b (handing.Leave any told)) op r x e may gives more = absurd cc

-- ---------------------------------------------------------------- a thread goes on

module _ (w : State) (t l : ℕ) (a : Admission) (c : RwLockCallPlace) (shape : IsWellFormed w)
    (inductive : IsInductive w)
    (counted : AreCounted w) (there : t < length w.places) (lt : l < length w.locks) (is : place_at w t
    ≡ RwLock l a c)
    (x : Want) (more : x ≢ Shared) (gives : IsToGive ((call_profile a c).purpose l)
    (call_profile a c).released x) (owns : Owns (lock_state w l) t x) where
  abbrev r : Rules
  r = rules_in w l

  abbrev here : Site
  here = lock_by w l r

  abbrev Comes : State → Type 0
  Comes v = FairReleaseComesTo r (lock_state w l) (lock_state v l) (word_at w l) t x

  may : CallStands a c
  may = stands w t l a c inductive shape there lt is

  -- a thread that gives a right up is in nobody's hand, and says which threads it has in its own
  bare : (c : RwLockCallPlace) → CallStands a c → IsToGive ((call_profile a c).purpose l)
      (call_profile a c).released x
      → (call_profile a c).hand ≡ None
  bare (Plain p) may gives = absurd (plain_keeps l p.purpose (call_profile a (Plain p)).released x gives)
  bare (Bump p) may gives = absurd (bump_keeps a l p.purpose p.retries p.at x may.1 more gives)
  bare (Handed y how b to) may gives = absurd (handed_keeps a l y how b to x gives)
  bare (PeekQueue y) may gives = refl
  bare (HandOver y b to) may gives = refl

  carried : (c : RwLockCallPlace) (k : Counted) → in_hand_of c ≡ Some k → (call_profile a c).has_taken
      ≡ in_hand (any_taken k) false
  carried (Plain p) k e = absurd cc
  carried (Bump p) k e = absurd cc
  carried (Handed y how b to) k e = absurd cc
  carried (PeekQueue y) k e = absurd cc
  carried (HandOver y b (handing.Store n)) k e = let same : n ≡ k = cc
      in ap (λ m. in_hand (any_taken m) false) same
  carried (HandOver y b (handing.Look n)) k e = let same : n ≡ k = cc in ap (λ m. in_hand (any_taken m) false)
      same
  carried (HandOver y b (handing.Exchange n expected)) k e = let same : n ≡ k = cc
      in ap (λ m. in_hand (any_taken m) false) same
  carried (HandOver y b to) k e = absurd cc

  abbrev heir : Option ℕ
  heir = thread_of (successor_from t 0 w.places)

  in_hand_now : (k : Counted) → in_hand_of c ≡ Some k → HasInHand here.lock t k heir
  in_hand_now k e = has_in_hand w t l inductive (own w t l a c inductive shape there lt is) (any_taken k)
      (has_taken w t l a c inductive shape there lt is ∙ carried c k e) k (counted t l a c k is e)

  free : here.lock.taken t ≡ None
  free = free_of (place_at w t) l (subst IsSingle (sym is) tt) (ap (λ p. (profile p).hand) is
      ∙ bare c may gives)

  -- where its deeds lead, it has come to
  led : (y : Act) (g : GoesOnBy w t l a c y)
      → lock_state (then_by w t l a c y) l ≡ (after_all r (deeds_by w t l a c g.whom y) here t).lock
  led y g = led_here w (then_by w t l a c y) t l (case_by w t l a c g.whom y) g.happened
      ∙ sym (deeds_lead r t l (call_profile a c).has_taken (deeds_by w t l a c g.whom y) here
      (λ none. in_no_hand w inductive t l (λ h. none (sym (has_taken w t l a c inductive shape there lt is)
      ∙ h)))
      g.tells.one)

  -- an operation of its own on the word
  by_word : (y : Act) (op : Op) → (call_act l a c ≡ act.Word l op) ⊎ (call_act l a c ≡ act.HandOver l op)
      → reply_to w t y ≡ Value (word_at w l)
      → (g : GoesOnBy w t l a c y) → call_deeds a c g.whom (Value (word_at w l)) ≡ call_deeds a c heir
      (Value (word_at w l))
      → Comes (then_by w t l a c y)
  by_word y op acts told g same =
      subst (λ s. FairReleaseComesTo r (lock_state w l) s (word_at w l) t x)
      (sym (led y g ∙ ap (λ reply. (after_all r (call_deeds a c g.whom reply) here t).lock) told
      ∙ ap (λ ds. (after_all r ds here t).lock) same))
      (subst (λ v. FairReleaseComesTo r (lock_state w l) (after_all r (call_deeds a c heir (Value v)) here
      t).lock v t x) (sym (inductive.sites.word l))
      (fair_releases_give r a here t l c op heir x (at_now w t l a c inductive shape there lt is) free
      in_hand_now gives more acts))

  off_word : (y : Act) → IsOffWord y → Comes (then_by w t l a c y)
  off_word y off = inl (owner_stays w (then_by w t l a c y) l t x (locks_kept w t (RwLock l a c) y off) more
      owns)

  pub goes_giving : can_do w (call_act l a c) ≡ true → Comes (then_by w t l a c (call_act l a c))
  goes_giving can = by_act (call_act l a c) refl (rwlock_goes_on w t l a c inductive shape there lt is counted
      can)
    where
      moves : CallMoves l a.recursive (call_move a c) (call_hears a c) (call_act l a c)
      moves = fair_acts_move l a c may

      by_act : (y : Act) → call_act l a c ≡ y → GoesOnBy w t l a c y → Comes (then_by w t l a c y)
      by_act (act.Word k op) e g =
          let here : k ≡ l = (subst (CallMoves l a.recursive (call_move a c) (call_hears a c)) e moves).0 in
          let at : call_act l a c ≡ act.Word l op = e ∙ ap (λ j. act.Word j op) here in
          by_word (act.Word k op) op (inl at) (ap (λ j. Value (word_at w j)) here) g
          (word_deeds l a g.whom (word_at w l) c op (call_profile a c).released x at may gives more
          ∙ sym (word_deeds l a heir (word_at w l) c op (call_profile a c).released x at may gives more))
      by_act (act.HandOver k op) e g =
          let here : k ≡ l = (subst (CallMoves l a.recursive (call_move a c) (call_hears a c)) e moves).0 in
          let at : call_act l a c ≡ act.HandOver l op = e ∙ ap (λ j. act.HandOver j op) here in
          let n = gives_counted l l a c op may at in
          let h = by_effect w t l a c inductive shape there lt is n.0 n.1 counted op at
          (takes_effect op (word_at w l)) refl in
          subst (λ j. Comes (then_by w t l a c (act.HandOver j op))) (sym here)
          (by_word (act.HandOver l op) op (inr at) refl h
          (ap (λ u. call_deeds a c u (Value (word_at w l))) (effect_whom w t l a c inductive shape there lt
          is n.0 n.1 counted op at (takes_effect op (word_at w l)) refl)))
      by_act (act.Enter keys) e g = off_word (act.Enter keys) tt
      by_act (act.Park k key check want) e g = off_word (act.Park k key check want) tt
      by_act (act.Take key whom) e g = off_word (act.Take key whom) tt
      by_act (act.Leave keys notes) e g = off_word (act.Leave keys notes) tt
      by_act (act.Remove key) e g = off_word (act.Remove key) tt
      by_act act.Accept e g = off_word act.Accept tt
      by_act y e g = off_word y tt
