-- Each operation of a semaphore leaves the word of the semaphore after its deeds, and the permits.
use Rattle.std.proofs.Common.{ℕ, Bool, true, false, Option, Some, None, if◌then◌else◌, ◌==◌, ◌≡◌, ◌<◌, ◌≤◌}
use Rattle.std.proofs.Common.{◌+◌, ◌-◌, ◌*◌, ◌%◌, ◌^◌, List, [], ◌∷◌, refl, sym, ap, ◌∙◌, subst, arith}
use Rattle.std.proofs.Common.{length, slice_index}
use Rattle.std.proofs.lemmas.Bool.{eqb-true}
use Rattle.std.proofs.lemmas.Bool.Decides.{nat_tests}
use Rattle.std.specs.Prelude.{not, ◌&&◌, slice_set}
use Rattle.core_base.specs.declared.keys.Keys.TheVariants.{One}
use Rattle.core_base.specs.declared.ops.Op.{Op}
use Rattle.core_base.specs.declared.ops.Op.TheVariants as op
use Rattle.core_base.specs.declared.wants.Want.TheVariants.{Shared}
use Rattle.core_base.specs.Words.{apply}
use Rattle.steps_base.specs.declared.acts.Act.{Act}
use Rattle.steps_base.specs.declared.acts.Act.TheVariants as act
use Rattle.steps_base.specs.declared.acts.Reply.TheVariants.{Value}
use Rattle.steps_base.specs.Owners.{shares_then}
use Rattle.spec_locks.specs.Codes.{code, has_parked}
use Rattle.spec_locks.specs.Deeds.{after_all}
use Rattle.spec_locks.specs.Locks.{Leave, Owns, Rules, Semaphore, readers}
use Rattle.spec_locks.specs.Sites.{Case, Deed, Role, End, Has, IsSite, Main, Mark, Site}
use Rattle.steps_semaphore.specs.declared.acquire.AcquireAt.TheVariants as acquire
use Rattle.steps_semaphore.specs.declared.tries.TryAt.TheVariants as tries
use Rattle.steps_semaphore.specs.declared.release.ReleaseAt.TheVariants as release
use Rattle.steps_semaphore.specs.declared.places.SemaphorePlace.{SemaphorePlace}
use Rattle.steps_semaphore.specs.declared.places.SemaphorePlace.TheVariants.{Acquire, Try, Release}
use Rattle.steps_semaphore.specs.declared.places.TheConstants.{NOT_PARKED}
use Rattle.steps_semaphore.specs.SemaphoreDeeds.{enter_deeds, semaphore_deeds}
use Rattle.steps_semaphore.specs.SemaphoreLaws.{LeavesWord, MayReply, SemaphoreStepsCode, semaphore_role}
use Rattle.steps_semaphore.specs.SemaphoreSteps.{decided, is_free, semaphore_act, semaphore_shares}
use Rattle.steps_semaphore.specs.SemaphoreSteps.{permits_taken}
use Rattle.steps_semaphore.proofs.SemaphoreWords.{bit_few, cleared, free_in, held_few, one_less, one_more}
use Rattle.steps_semaphore.proofs.SemaphoreWords.{some_free, word_of}

module _ (limit : ℕ) (s : Site) (t l : ℕ) (h : IsSite (record {
  sort = Semaphore;
  limit = limit;
}) s) (small : limit ≤ 2 ^ 62) (few : readers s.lock ≤ limit) (here : t < length s.lock.shared) where
  abbrev r : Rules
  r = record { sort = Semaphore; limit = limit }

  abbrev n : ℕ
  n = free_in limit s

  abbrev v : ℕ
  v = word_of n s.parked

  abbrev mine : ℕ
  mine = slice_index s.lock.shared t

  -- the word and the permits that deeds leave
  abbrev Leaves : List Deed → ℕ → Option ℕ → Type 0
  Leaves ds w shares = (w ≡ code r (after_all r ds s t))
      × (shares_then s.lock.shared t shares ≡ (after_all r ds s t).lock.shared)

  -- a permit is taken
  entered : is_free v ≡ true → Leaves enter_deeds (v - 2) (Some (apply (op.Add 1) mine))
  entered e = let some = some_free n s.parked e in let more = one_more s.lock t here in let fits =
      held_few s.lock t here in (
        omega (arith, bit_few s.parked),
        ap (λ k. slice_set s.lock.shared t k) (let f : (mine + 1) % 2 ^ 64 ≡ mine + 1 = omega arith in f),
      )

  looked : (b : Bool) → Leaves (if b then [] else End ∷ []) v None
  looked true = (refl, refl)
  looked false = (refl, refl)

  same_word : (k : ℕ) → (k == k) ≡ true
  same_word k = grind (arith, nat_tests)

  -- an exchange that finds a free permit takes it, where it found what it expected
  exchanged : (expected : ℕ) → (v == expected) ≡ true → is_free v ≡ true → Leaves enter_deeds
      (apply (op.Exchange expected (expected - 2)) v) (permits_taken expected v mine)
  exchanged expected e free =
      let same : v ≡ expected = eqb-true v expected e in
      let word : apply (op.Exchange expected (expected - 2)) v ≡ v - 2 =
      ap (λ b. if b then expected - 2 else v) e ∙ ap (λ k. k - 2) (sym same) in
      let shares : permits_taken expected v mine ≡ Some (apply (op.Add 1) mine) =
      (λ i. if (e i) && (free i) then Some (apply (op.Add 1) mine) else None) in
      let d = entered free in (word ∙ d.0, ap (shares_then s.lock.shared t) shares ∙ d.1)

  missed : (expected to : ℕ) → (v == expected) ≡ false → Leaves [] (apply (op.Exchange expected to) v)
      (permits_taken expected v mine)
  missed expected to e = (
    ap (λ b. if b then to else v) e,
    ap (shares_then s.lock.shared t) (λ i. if (e i) && is_free v then Some (apply (op.Add 1) mine)
        else None),
  )

  leaves : (p : SemaphorePlace) (whom : Option ℕ) (f : Op) (ds : List Deed) (w : ℕ) (shares : Option ℕ)
      → semaphore_deeds p whom (Value v) ≡ ds → apply f v ≡ w → semaphore_shares p v mine ≡ shares
      → Leaves ds w shares → LeavesWord r s t p whom f
  leaves p whom f ds w shares does is holds x = record {
    word = is ∙ x.0 ∙ ap (λ d. code r (after_all r d s t)) (sym does);
    permits = ap (shares_then s.lock.shared t) holds ∙ x.1 ∙ ap (λ d. (after_all r d s t).lock.shared)
        (sym does);
  }

  -- ---------------------------------------------------------------- calls that acquire

  -- by whether the exchange found what it expected, and a free permit
  abbrev decides_deeds : Bool → Bool → List Deed
  decides_deeds same free = if not same then [] else if free then enter_deeds else Mark Main ∷ []

  abbrev decides_by : ℕ → Bool → Bool → Act
  decides_by x a b =
      if a then act.Word l (op.Exchange x (x - 2))
      else if b then act.Word l (op.Exchange 0 1)
      else act.Enter (One (2 * l))

  -- no permit is free, and the bit is set
  marked : (v == 0) ≡ true → Leaves (Mark Main ∷ []) 1 None
  marked e = let zero : v ≡ 0 = eqb-true v 0 e in (omega (arith, zero), refl)

  never : (a : Bool) → (if a && false then Some (apply (op.Add 1) mine) else None) ≡ None
  never true = refl
  never false = refl

  nobody_free : (expected : ℕ) → is_free v ≡ false → permits_taken expected v mine ≡ None
  nobody_free expected e = (λ i. if (v == expected) && (e i) then Some (apply (op.Add 1) mine) else None)
      ∙ never (v == expected)

  fresh : (f : Op) (a : Bool) → is_free v ≡ a → (b : Bool) → (v == 0) ≡ b → decides_by v a b ≡ act.Word l f
      → Leaves (decides_deeds true a) (apply f v) (permits_taken v v mine)
  fresh f true e b x is = let g : op.Exchange v (v - 2) ≡ f = cc in rw (← g) (exchanged v (same_word v) e)
  fresh f false e true x is = let g : op.Exchange 0 1 ≡ f = cc in rw (← g) (
      let d = marked x in
      (ap (λ b. if b then 1 else v) x ∙ d.0, ap (shares_then s.lock.shared t) (nobody_free v e) ∙ d.1))
  fresh f false e false x is = absurd cc

  stale : (expected : ℕ) (f : Op) (a b : Bool) → (v == expected) ≡ false → decides_by expected a b
      ≡ act.Word l f → (b ≡ true → expected ≡ 0)
      → Leaves [] (apply f v) (permits_taken expected v mine)
  stale expected f true b e is x = let g : op.Exchange expected (expected - 2) ≡ f = cc
      in rw (← g) (missed expected (expected - 2) e)
  stale expected f false true e is x = let g : op.Exchange 0 1 ≡ f = cc in
      rw (← g) (subst (λ k. Leaves [] (apply (op.Exchange k 1) v) (permits_taken expected v mine)) (x refl)
      (missed expected 1 e))
  stale expected f false false e is x = absurd cc

  decides : (expected : ℕ) (f : Op) → decided l expected ≡ act.Word l f → (b : Bool) → (v == expected) ≡ b
      → Leaves (decides_deeds b (is_free v)) (apply f v) (permits_taken expected v mine)
  decides expected f is true e = let same : v ≡ expected = eqb-true v expected e in
      subst (λ k. Leaves (decides_deeds true (is_free v)) (apply f v) (permits_taken k v mine)) same
      (fresh f (is_free v) refl (v == 0) refl (subst (λ k. decided l k ≡ act.Word l f) (sym same) is))
  decides expected f is false e = stale expected f (is_free expected) (expected == 0) e is
      (λ x. eqb-true expected 0 x)

  -- ---------------------------------------------------------------- tries

  abbrev tries_deeds : Bool → Bool → List Deed
  tries_deeds same free = if same && free then enter_deeds else if free then [] else End ∷ []

  -- nothing is taken
  kept : (expected : ℕ) (a b : Bool) → (v == expected) ≡ a → is_free v ≡ b → (a && b) ≡ false
      → Leaves (tries_deeds a b) v (permits_taken expected v mine)
  kept expected a b e free none =
      (word a b none, ap (shares_then s.lock.shared t) (nothing_taken a b e free none) ∙ permits a b none)
    where
      nothing_taken : (a b : Bool) → (v == expected) ≡ a → is_free v ≡ b → (a && b) ≡ false
          → permits_taken expected v mine ≡ None
      nothing_taken a b e free none = (λ i. if (e i) && (free i) then Some (apply (op.Add 1) mine) else None)
          ∙ ap (λ c. if c then Some (apply (op.Add 1) mine) else None) none

      word : (a b : Bool) → (a && b) ≡ false → v ≡ code r (after_all r (tries_deeds a b) s t)
      word true true none = absurd cc
      word true false none = refl
      word false true none = refl
      word false false none = refl

      permits : (a b : Bool) → (a && b) ≡ false → s.lock.shared
          ≡ (after_all r (tries_deeds a b) s t).lock.shared
      permits true true none = absurd cc
      permits true false none = refl
      permits false true none = refl
      permits false false none = refl

  -- by the act: an exchange where a permit was free as it decided
  attempts : (expected : ℕ) (f : Op) (c a b : Bool) → is_free expected ≡ c → (v == expected) ≡ a
      → is_free v ≡ b
      → (if c then act.Word l (op.Exchange expected (expected - 2)) else act.Word l op.Load) ≡ act.Word l f
      → Leaves (tries_deeds a b) (apply f v) (permits_taken expected v mine)
  attempts expected f true true true cs e free is = let g : op.Exchange expected (expected - 2) ≡ f = cc
      in rw (← g) (exchanged expected e free)
  attempts expected f true true false cs e free is = absurd (let same : v ≡ expected = eqb-true v expected e
      in let g : true ≡ false = sym cs ∙ sym (ap is_free same) ∙ free in cc)
  attempts expected f true false b cs e free is = let g : op.Exchange expected (expected - 2) ≡ f = cc in
      rw (← g) (let d = kept expected false b e free refl in (
        ap (λ b. if b then expected - 2 else v) e ∙ d.0,
        d.1,
      ))
  attempts expected f false true true cs e free is = absurd (let same : v ≡ expected = eqb-true v expected e
      in let g : false ≡ true = sym cs ∙ sym (ap is_free same) ∙ free in cc)
  attempts expected f false true false cs e free is = let g : op.Load ≡ f = cc
      in rw (← g) (kept expected true false e free refl)
  attempts expected f false false b cs e free is = let g : op.Load ≡ f = cc
      in rw (← g) (kept expected false b e free refl)

  -- ---------------------------------------------------------------- releases

  holds : s.role t ≡ semaphore_role (Release release.Add) → Owns s.lock t Shared
  holds is = h.held t (Has Shared) (ap (λ (d : Role). d.claims) is)

  given : Owns s.lock t Shared → (b : Bool) → Leaves (Case (Leave Shared) ∷ (if b then [] else End ∷ []))
      (apply (op.Add 2) v) (Some (mine - 1))
  given own true = let less = one_less s.lock t own in (omega (arith, bit_few s.parked), refl)
  given own false = let less = one_less s.lock t own in (omega (arith, bit_few s.parked), refl)

  unmarked : apply (op.And NOT_PARKED) v ≡ word_of n false
  unmarked = cleared n s.parked (omega arith)

  -- ---------------------------------------------------------------- each place

  each_code : (p : SemaphorePlace) (whom : Option ℕ) (f : Op) → s.role t ≡ semaphore_role p
      → MayReply r s t p whom (Value v) → semaphore_act l p ≡ act.Word l f → LeavesWord r s t p whom f
  each_code (Acquire timed retries acquire.Load) whom f is hears does = let g : op.Load ≡ f = cc
      in rw (← g) (leaves _ whom _ _ _ _ refl refl refl (refl, refl))
  each_code (Acquire timed retries (acquire.Decide expected)) whom f is hears does =
      leaves _ whom f _ _ _ refl refl refl (decides expected f does (v == expected) refl)
  each_code (Acquire timed retries acquire.Clear) whom f is hears does = let g : op.And NOT_PARKED ≡ f = cc
      in rw (← g) (leaves _ whom _ _ _ _ refl refl refl (unmarked, refl))
  each_code (Try tries.Load) whom f is hears does = let g : op.Load ≡ f = cc
      in rw (← g) (leaves _ whom _ _ _ _ refl refl refl (looked (is_free v)))
  each_code (Try (tries.Decide expected)) whom f is hears does = leaves _ whom f _ _ _ refl refl refl
      (attempts expected f (is_free expected) (v == expected) (is_free v) refl refl refl does)
  each_code (Release release.Add) whom f is hears does = let g : op.Add 2 ≡ f = cc
      in rw (← g) (leaves _ whom _ _ _ _ refl refl refl (given (holds is) (has_parked v)))
  each_code (Release (release.Clear any)) whom f is hears does = let g : op.And NOT_PARKED ≡ f = cc
      in rw (← g) (leaves _ whom _ _ _ _ refl refl refl (unmarked, refl))
  each_code p whom f is hears does = absurd hears

pub semaphore_steps_code : SemaphoreStepsCode
semaphore_steps_code r s t l p whom f a hears does =
    subst (λ x. IsSite x s → MayReply x s t p whom (Value (code x s)) → LeavesWord x s t p whom f)
    (λ i. record {
      sort = sym a.sort i;
      limit = r.limit;
    }) (λ h hears. each_code r.limit s t l h a.small a.few a.here p whom f a.role hears does) a.site hears
