-- Each operation of a mutex leaves the word of the mutex after its deeds, and the owner.
use Rattle.std.proofs.Common.{ℕ, Bool, true, false, Option, Some, None, if◌then◌else◌, ◌==◌, ◌≡◌, ◌+◌, ◌*◌}
use Rattle.std.proofs.Common.{List, [], ◌∷◌, refl, sym, ap, ◌∙◌, subst, arith}
use Rattle.std.proofs.lemmas.Bool.{eqb-true}
use Rattle.std.proofs.lemmas.Bool.Decides.{nat_tests}
use Rattle.std.specs.Prelude.{not, ◌&&◌}
use Rattle.core_base.specs.declared.keys.Keys.TheVariants.{One}
use Rattle.core_base.specs.declared.ops.Op.{Op}
use Rattle.core_base.specs.declared.ops.Op.TheVariants as op
use Rattle.core_base.specs.declared.wants.Want.TheVariants.{Exclusive}
use Rattle.core_base.specs.Words.{apply}
use Rattle.steps_base.specs.declared.acts.Act.{Act}
use Rattle.steps_base.specs.declared.acts.Act.TheVariants as act
use Rattle.steps_base.specs.declared.acts.Reply.TheVariants.{Value}
use Rattle.steps_base.specs.declared.owners.Owners.{Owners}
use Rattle.steps_base.specs.Owners.{with_exclusive}
use Rattle.spec_locks.proofs.LockKeeps.{sharing_same}
use Rattle.spec_locks.specs.Codes.{code}
use Rattle.spec_locks.specs.Deeds.{after_all}
use Rattle.spec_locks.specs.Locks.{Leave, LockState, Mutex, Rules, handed, let_go, pending_for, with_owner}
use Rattle.spec_locks.specs.Locks.{with_successor, without_owner}
use Rattle.spec_locks.specs.Sites.{Case, Deed, Role, End, Has, IsSite, Main, Mark, Site}
use Rattle.steps_mutex.specs.declared.lock.LockAt.TheVariants as lock
use Rattle.steps_mutex.specs.declared.places.MutexPlace.{MutexPlace}
use Rattle.steps_mutex.specs.declared.places.MutexPlace.TheVariants.{Lock, TryLock, Unlock, UnlockFair, Bump}
use Rattle.steps_mutex.specs.declared.places.MutexPlace.TheVariants.{HandOff}
use Rattle.steps_mutex.specs.declared.places.TheConstants.{NOT_PARKED}
use Rattle.steps_mutex.specs.declared.unlock.UnlockAt.TheVariants as unlock
use Rattle.steps_mutex.specs.declared.hand_off.HandOffAt.TheVariants as hand_off
use Rattle.steps_mutex.specs.MutexDeeds.{enter_deeds, handing_deeds, mutex_deeds, queued}
use Rattle.steps_mutex.specs.MutexLaws.{HandsOverToHeir, LeavesMutex, MayReply, MutexHandOversCode}
use Rattle.steps_mutex.specs.MutexLaws.{MutexStepsCode, mutex_role}
use Rattle.steps_mutex.specs.MutexSteps.{decided, hand_off_word, is_locked, is_parked, mutex_act}
use Rattle.steps_mutex.specs.MutexSteps.{mutex_owners}
use Rattle.steps_mutex.proofs.MutexWords.{cleared, entered_free, entered_zero, less_one, one, owned_word}
use Rattle.steps_mutex.proofs.MutexWords.{tried_free, tried_owned, word_of}

module _ (limit : ℕ) (s : Site) (t l : ℕ) (h : IsSite (record { sort = Mutex; limit = limit }) s) where
  abbrev r : Rules
  r = record { sort = Mutex; limit = limit }

  abbrev v : ℕ
  v = word_of s.parked s.lock.exclusive

  module _ (o : Owners) (owned : o.exclusive ≡ s.lock.exclusive) where
    -- the word and the owner that deeds leave
    abbrev Leaves : List Deed → ℕ → Option ℕ → Type 0
    Leaves ds w owner = (w ≡ code r (after_all r ds s t)) × (owner ≡ (after_all r ds s t).lock.exclusive)

    tried : (b : Bool) → (v == 0) ≡ b → Leaves (if b then enter_deeds else []) (if b then 1 else v)
        (if b then with_exclusive o (Some t) else o).exclusive
    tried true e = (entered_zero s.parked s.lock.exclusive t e, refl)
    tried false e = (refl, owned)

    -- an exchange that found what it expected, or did not
    abbrev Decides : ℕ → (same locked : Bool) → Op → Type 0
    Decides expected same locked f =
        Leaves (if not same then [] else if locked then Mark Main ∷ [] else enter_deeds) (apply f v)
        (if same && not locked then with_exclusive o (Some t) else o).exclusive

    abbrev decides_by : ℕ → Bool → Bool → Act
    decides_by x a b =
        if not a then act.Word l (op.Exchange x (x + 1))
        else if b then act.Word l (op.Exchange 1 3)
        else act.Enter (One (2 * l))

    same_word : (n : ℕ) → (n == n) ≡ true
    same_word n = grind (arith, nat_tests)

    fresh : (f : Op) (a : Bool) → is_locked v ≡ a → (b : Bool) → (v == 1) ≡ b → decides_by v a b
        ≡ act.Word l f → Decides v true a f
    fresh f false e b x is = let g : op.Exchange v (v + 1) ≡ f = cc
        in rw (← g) (
          ap (λ b. if b then v + 1 else v) (same_word v) ∙ entered_free s.parked s.lock.exclusive t
              e,
          refl,
        )
    fresh f true e true x is = let g : op.Exchange 1 3 ≡ f = cc in rw (← g) (
      ap (λ b. if b then 3 else v) x
          ∙ owned_word s.parked s.lock.exclusive e,
      owned,
    )
    fresh f true e false x is = absurd cc

    stale : (expected y : ℕ) (locked : Bool) → (v == expected) ≡ false → Decides expected false locked
        (op.Exchange expected y)
    stale expected y locked e = (ap (λ b. if b then y else v) e, owned)

    missed : (expected : ℕ) (f : Op) (a b here : Bool) → (v == expected) ≡ false → decides_by expected a b
        ≡ act.Word l f → (b ≡ true → expected ≡ 1)
        → Decides expected false here f
    missed expected f false b here e is x = let g : op.Exchange expected (expected + 1) ≡ f = cc
        in rw (← g) (stale expected (expected + 1) here e)
    missed expected f true true here e is x = let g : op.Exchange 1 3 ≡ f = cc
        in rw (← g) (subst (λ n. Decides n false here (op.Exchange n 3)) (x refl) (stale expected 3 here e))
    missed expected f true false here e is x = absurd cc

    decides : (expected : ℕ) (f : Op) → decided l expected ≡ act.Word l f → (b : Bool) → (v == expected) ≡ b
        → Decides expected b (is_locked v) f
    decides expected f is true e = let same : v ≡ expected = eqb-true v expected e in
        subst (λ n. Decides n true (is_locked v) f) same (fresh f (is_locked v) refl (v == 1) refl
        (subst (λ n. decided l n ≡ act.Word l f) (sym same) is))
    decides expected f is false e = missed expected f (is_locked expected) (expected == 1) (is_locked v) e is
        (λ x. eqb-true expected 1 x)

    tried_once : (b : Bool) → is_locked v ≡ b → Leaves (if b then End ∷ [] else enter_deeds)
        (apply (op.Or 1) v) (if b then o else with_exclusive o (Some t)).exclusive
    tried_once true e = (tried_owned s.parked s.lock.exclusive e, owned)
    tried_once false e = (tried_free s.parked s.lock.exclusive t e, refl)

    owns : s.role t ≡ mutex_role UnlockFair → s.lock.exclusive ≡ Some t
    owns is = h.held t (Has Exclusive) (ap (λ (d : Role). d.claims) is)

    -- a release
    released : s.lock.exclusive ≡ Some t → (b : Bool)
        → Leaves (Case (Leave Exclusive) ∷ (if b then [] else End ∷ [])) (apply (op.Sub 1) v) None
    released own true = (ap (λ e. apply (op.Sub 1) (word_of s.parked e)) own ∙ less_one s.parked t, refl)
    released own false = (ap (λ e. apply (op.Sub 1) (word_of s.parked e)) own ∙ less_one s.parked t, refl)

    -- a fair one gives the mutex up only where the word tells of nobody
    released_fairly : (b : Bool) → (v == 1) ≡ b → Leaves (if b then Case (Leave Exclusive) ∷ End ∷ [] else [])
        (if b then 0 else v) (if b then with_exclusive o None else o).exclusive
    released_fairly true e = (ap (λ p. word_of p None) (sym (one s.parked s.lock.exclusive e)), refl)
    released_fairly false e = (refl, owned)

    glanced : (b : Bool) → Leaves (if b then [] else End ∷ []) v o.exclusive
    glanced true = (refl, owned)
    glanced false = (refl, owned)

    -- a hand-off that has nobody in hand
    stores_none : (none_left : Bool) → Leaves (handing_deeds None none_left) 0 None
    stores_none none_left = (refl, refl)

    leaves : (p : MutexPlace) (whom : Option ℕ) (f : Op) (ds : List Deed) (w : ℕ)
        → mutex_deeds p whom (Value v) ≡ ds → apply f v ≡ w
        → Leaves ds w (mutex_owners p t v o).exclusive → LeavesMutex r s t p whom f o
    leaves p whom f ds w does is x = record {
      word = is ∙ x.0 ∙ ap (λ d. code r (after_all r d s t)) (sym does);
      owner = x.1 ∙ ap (λ d. (after_all r d s t).lock.exclusive) (sym does);
    }

    each_code : (p : MutexPlace) (whom : Option ℕ) (f : Op) → s.role t ≡ mutex_role p
        → MayReply r s t p whom (Value v) → mutex_act l p ≡ act.Word l f → LeavesMutex r s t p whom f o
    each_code (Lock e retries lock.First) whom f is hears does = let g : op.Exchange 0 1 ≡ f = cc
        in rw (← g) (leaves _ whom _ _ _ refl refl (tried (v == 0) refl))
    each_code (Lock e retries lock.Load) whom f is hears does = let g : op.Load ≡ f = cc
        in rw (← g) (leaves _ whom _ _ _ refl refl (refl, owned))
    each_code (Lock e retries (lock.Decide expected)) whom f is hears does =
        leaves _ whom f _ _ refl refl (decides expected f does (v == expected) refl)
    each_code (Lock e retries lock.Clear) whom f is hears does = let g : op.And NOT_PARKED ≡ f = cc
        in rw (← g) (leaves _ whom _ _ _ refl refl (cleared s.parked s.lock.exclusive, owned))
    each_code TryLock whom f is hears does = let g : op.Or 1 ≡ f = cc
        in rw (← g) (leaves _ whom _ _ _ refl refl (tried_once (is_locked v) refl))
    each_code (Unlock unlock.Subtract) whom f is hears does = let g : op.Sub 1 ≡ f = cc
        in rw (← g) (leaves _ whom _ _ _ refl refl (released (owns is) (is_parked v)))
    each_code (Unlock (unlock.Clear any)) whom f is hears does = let g : op.And NOT_PARKED ≡ f = cc
        in rw (← g) (leaves _ whom _ _ _ refl refl (cleared s.parked s.lock.exclusive, owned))
    each_code UnlockFair whom f is hears does = let g : op.Exchange 1 0 ≡ f = cc
        in rw (← g) (leaves _ whom _ _ _ refl refl (released_fairly (v == 1) refl))
    each_code Bump whom f is hears does = let g : op.Load ≡ f = cc
        in rw (← g) (leaves _ whom _ _ _ refl refl (glanced (is_parked v)))
    each_code (HandOff bumping (hand_off.Store false none_left)) None f is hears does = let g : op.Store 0
        ≡ f = cc in rw (← g) (leaves _ None _ _ _ refl refl (stores_none none_left))
    each_code (HandOff bumping (hand_off.Store false none_left)) (Some u) f is hears does =
        absurd (let g : false ≡ true = hears.1 in cc)
    each_code (HandOff bumping (hand_off.Store true none_left)) whom f is hears does = absurd cc
    each_code (HandOff bumping hand_off.Enter) whom f is hears does = absurd cc
    each_code (HandOff bumping hand_off.Take) whom f is hears does = absurd cc
    each_code (HandOff bumping (hand_off.Leave any)) whom f is hears does = absurd cc
    each_code p whom f is hears does = absurd hears

  -- ---------------------------------------------------------------- the heir

  -- the lock after a hand-off, by what is shared
  abbrev freed : List ℕ → LockState
  freed shared = record (without_owner t Exclusive s.lock) { shared = shared; taken = let_go t s.lock.taken }

  heir_owns : (u : ℕ) → (handed t Exclusive (Some (queued u)) s.lock).exclusive ≡ Some u
  heir_owns u =
      ap (λ xs. (with_successor (Some (queued u)) (freed xs)).exclusive) (sharing_same r s.lock t 0
      s.lock.shared h.state (λ x. x))
      ∙ ap (λ (n : ℕ). (if n == 0 then with_owner u Exclusive (freed s.lock.shared) else pending_for u false
      (freed s.lock.shared)).exclusive) (h.state.unshared (λ x. x))

  stores : (u : ℕ) (none_left : Bool)
      → (hand_off_word true none_left ≡ code r (after_all r (handing_deeds (Some u) none_left) s t))
      × ((after_all r (handing_deeds (Some u) none_left) s t).lock.exclusive ≡ Some u)
  stores u true = (ap (λ e. word_of false e) (sym (heir_owns u)), heir_owns u)
  stores u false = (ap (λ e. word_of true e) (sym (heir_owns u)), heir_owns u)

  each_hand_over : (p : MutexPlace) (whom : Option ℕ) (f : Op) → MayReply r s t p whom (Value v)
      → mutex_act l p ≡ act.HandOver l f → HandsOverToHeir r s t p whom f
  each_hand_over (HandOff bumping (hand_off.Store true none_left)) (Some u) f hears does =
      let g : op.Store (hand_off_word true none_left) ≡ f = cc in rw (← g) (let d = stores u none_left
      in record {
        word = d.0;
        owner = d.1;
        some = refl;
      })
  each_hand_over (HandOff bumping (hand_off.Store true none_left)) None f hears does =
      absurd (let g : true ≡ false = hears.1 in cc)
  each_hand_over (HandOff bumping (hand_off.Store false none_left)) whom f hears does = absurd cc
  each_hand_over (HandOff bumping hand_off.Enter) whom f hears does = absurd cc
  each_hand_over (HandOff bumping hand_off.Take) whom f hears does = absurd cc
  each_hand_over (HandOff bumping (hand_off.Leave any)) whom f hears does = absurd cc
  each_hand_over (Lock e retries (lock.Decide expected)) whom f hears does =
      by_tests (is_locked expected) (expected == 1) does
    where
      by_tests : (a b : Bool)
          → (if not a then act.Word l (op.Exchange expected (expected + 1)) else if b then act.Word l
          (op.Exchange 1 3) else act.Enter (One (2 * l))) ≡ act.HandOver l f
          → HandsOverToHeir r s t (Lock e retries (lock.Decide expected)) whom f
      by_tests false b is = absurd cc
      by_tests true true is = absurd cc
      by_tests true false is = absurd cc
  each_hand_over (Lock e retries at) whom f hears does = absurd cc
  each_hand_over TryLock whom f hears does = absurd cc
  each_hand_over (Unlock at) whom f hears does = by_place at does
    where
      by_place : (at : _) → mutex_act l (Unlock at) ≡ act.HandOver l f → HandsOverToHeir r s t (Unlock at)
          whom f
      by_place unlock.Subtract is = absurd cc
      by_place unlock.Enter is = absurd cc
      by_place unlock.Take is = absurd cc
      by_place (unlock.Clear any) is = absurd cc
      by_place (unlock.Leave any) is = absurd cc
  each_hand_over UnlockFair whom f hears does = absurd cc
  each_hand_over Bump whom f hears does = absurd cc

pub mutex_steps_code : MutexStepsCode
mutex_steps_code r s t l p whom f o a hears does owned =
    subst (λ x. IsSite x s → MayReply x s t p whom (Value (code x s)) → LeavesMutex x s t p whom f o)
    (λ i. record {
      sort = sym a.sort i;
      limit = r.limit;
    }) (λ h hears. each_code r.limit s t l h o owned p whom f a.role hears does) a.site hears

pub mutex_hand_overs_code : MutexHandOversCode
mutex_hand_overs_code r s t l p whom f a hears does =
    subst (λ x. IsSite x s → MayReply x s t p whom (Value (code x s)) → HandsOverToHeir x s t p whom f)
    (λ i. record {
      sort = sym a.sort i;
      limit = r.limit;
    }) (λ h hears. each_hand_over r.limit s t l h p whom f hears does) a.site hears
