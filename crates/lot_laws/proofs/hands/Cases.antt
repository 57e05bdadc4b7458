-- The cases of an abstract lock change a hand little: no case of another thread brings anybody into it or
-- lets anybody go. A thread that has nobody in hand takes one at most that wants more than to share.
use Rattle.lot_laws.proofs.Imports
use Imports.{ℕ, zero, suc, Bool, true, false, Option, Some, None, if◌then◌else◌, ◌==◌, ◌≡◌, ◌≢◌, ◌+◌, ◌≤◌, ◌⊎◌}
use Imports.{inl, inr, List, [], ◌∷◌, refl, sym, ◌∙◌, ap, arith, eqb-true, nat_tests, Want, Exclusive}
use Imports.{Upgradable, Shared, CallOnce, LockState, Rules, Queued, Taken, LockCase, OfOnce, Pend, Settle}
use Imports.{Leave, Convert, Park, Aside, TakeFirst, TakeAside, TakePicked, Wake, HandOff, Rollback, Needs}
use Imports.{HasTakenNobody, IsLockState, keep_from, one_if_some, picked, putting, standing, taking, unpicked}
use Imports.{wants_shared, OnceCase, Start, Finish, Fail, Rest, TakeAll, is_handed, kept_by, taking_by}
use Imports.{taking_others, times_picked}
use Rattle.core_base.specs.declared.wants.Want.TheVariants.{Wait}
use Rattle.spec_locks.specs.Locks.{Once, Enter}
use Rattle.spec_locks.specs.Locks.{Late}
use Rattle.spec_locks.specs.Locks.{times}
use Rattle.spec_locks.specs.Locks as locks
use Rattle.lot_laws.proofs.machine.Parts.{differ}
use Rattle.lot_laws.proofs.hands.InHand.{wanted_of}

-- ---------------------------------------------------------------- a case of another thread

-- a thread that is taken by another is not in the hand of t
another_hand : (t : ℕ) (o : Option Taken) → ((h : Taken) → o ≡ Some h → h.by ≢ t) → wanted_of t o ≡ None
another_hand t None none = refl
another_hand t (Some h) none = ap (λ b. if b then Some h.want else None) (differ h.by t (none h refl))

kept_holds : (t a : ℕ) (o : Option Taken) → t ≢ a → wanted_of t (keep_from a o) ≡ wanted_of t o
kept_holds t a None ne = refl
kept_holds t a (Some h) ne = either (h.by == a) refl
  where
    either : (b : Bool) → (h.by == a) ≡ b → wanted_of t (if b then None else Some h) ≡ wanted_of t (Some h)
    either false e = refl
    either true e = sym (another_hand t (Some h) (λ i f. λ g. let same_one : h ≡ i = cc in let by_a : h.by
        ≡ a = eqb-true h.by a e in ne (sym g ∙ sym (ap (λ (j : Taken). j.by) same_one) ∙ by_a)))

taken_holds : (t a u : ℕ) (xs : List Queued) (taken : ℕ → Option Taken) → t ≢ a
    → (1 ≤ times u xs → taken u ≡ None)
    → wanted_of t (taking a xs taken u) ≡ wanted_of t (taken u)
taken_holds t a u xs taken ne free = by_number (times u xs) refl
  where
    by_number : (n : ℕ) → times u xs ≡ n → wanted_of t (taking a xs taken u) ≡ wanted_of t (taken u)
    by_number zero e = ap (wanted_of t) (taking_others a u xs taken e)
    by_number (suc n) e =
        let none : taken u ≡ None = free (omega arith) in
        another_hand t (taking a xs taken u) (λ h f g. elim (taking_by a u xs taken h f) [
          | inl mine ↦ ne (sym g ∙ mine)
          | inr was ↦ (let i : ◌≡◌ {A = Option Taken} None (Some h) = sym none ∙ was in cc)
        ]) ∙ sym (ap (wanted_of t) none)

none_some : {A : Type 0} (o : Option A) → one_if_some o ≤ 0 → o ≡ None
none_some None h = refl
none_some (Some x) h = absurd (omega arith)

-- a thread that stands in a line is in no hand
in_line_free : (r : Rules) (s : LockState) (u : ℕ) → IsLockState r s → 1 ≤ times u s.queue
    + locks.one_if_thread u s.aside
    → s.taken u ≡ None
in_line_free r s u is h = let once : standing u s ≤ 1 = is.once u in none_some (s.taken u) (omega arith)

-- a thread that is aside alone
counts_one : (v u : ℕ) → u ≡ v → locks.one_if_thread u (Some v) ≡ 1
counts_one v u e = grind (arith, nat_tests)

aside_holds : (t a u v : ℕ) (taken : ℕ → Option Taken) → t ≢ a → (u ≡ v → taken u ≡ None)
    → wanted_of t (putting taken v (Some (record { by = a; want = Exclusive })) u) ≡ wanted_of t (taken u)
aside_holds t a u v taken ne free = either (u == v) refl
  where
    either : (b : Bool) → (u == v) ≡ b → wanted_of t (if b then Some (record { by = a; want = Exclusive })
        else taken u) ≡ wanted_of t (taken u)
    either false e = refl
    either true e = another_hand t (Some (record { by = a; want = Exclusive }))
        (λ h f g. let mine : record { by = a; want = Exclusive } ≡ h = cc
        in ne (sym g ∙ sym (ap (λ (j : Taken). j.by) mine)))
        ∙ sym (ap (wanted_of t) (free (eqb-true u v e)))

once_holds : (r : Rules) (s : LockState) (t a u : ℕ) → IsLockState r s → t ≢ a → (c : OnceCase)
    → wanted_of t ((locks.once_after c s a).taken u) ≡ wanted_of t (s.taken u)
once_holds r s t a u is ne (Start forced) = refl
once_holds r s t a u is ne Finish = refl
once_holds r s t a u is ne Fail = refl
once_holds r s t a u is ne (Rest wanted forced) = refl
once_holds r s t a u is ne TakeAll = taken_holds t a u s.queue s.taken ne (λ h. in_line_free r s u is
    (omega arith))

-- a deed at a condition variable takes nobody
condvar_taken : (case : locks.CondvarCase) (s : LockState) → (locks.condvar_after case s).taken ≡ s.taken
condvar_taken (locks.Look seen) s = refl
condvar_taken (locks.Show m) s = refl
condvar_taken locks.Hide s = refl

pub others_hold : (r : Rules) (s : LockState) (t a u : ℕ) → IsLockState r s → t ≢ a → (c : LockCase)
    → Needs r c s a
    → wanted_of t ((locks.after_case r c s a).taken u) ≡ wanted_of t (s.taken u)
others_hold r s t a u is ne (Enter x) n = ap (wanted_of t) (let e : (locks.after_case r (Enter x) s a).taken u
    ≡ s.taken u = grind arith in e)
others_hold r s t a u is ne Pend n = refl
others_hold r s t a u is ne Settle n = refl
others_hold r s t a u is ne (Leave right) n =
    ap (wanted_of t) (let e : (locks.after_case r (Leave right) s a).taken u ≡ s.taken u = grind arith in e)
others_hold r s t a u is ne (Convert right x) n =
    ap (wanted_of t) (let e : (locks.after_case r (Convert right x) s a).taken u ≡ s.taken u = grind arith
    in e)
others_hold r s t a u is ne (Park x) n = refl
others_hold r s t a u is ne Aside n = refl
others_hold r s t a u is ne (TakeFirst x) n = taken_holds t a u (x ∷ []) s.taken ne
    (λ h. in_line_free r s u is (let first : times u s.queue ≡ times u (x ∷ n.0.0) = ap (times u) n.0.1
    in omega arith))
others_hold r s t a u is ne (TakeAside v) n = aside_holds t a u v s.taken ne
    (λ h. in_line_free r s u is (let here : locks.one_if_thread u s.aside ≡ 1 = ap (locks.one_if_thread u) n.0
    ∙ counts_one v u h in omega arith))
others_hold r s t a u is ne (TakePicked start) n = taken_holds t a u (picked r.sort start s.queue) s.taken ne
    (λ h. in_line_free r s u is (let parts : times u (picked r.sort start s.queue) + times u
    (unpicked r.sort start s.queue) ≡ times u s.queue = times_picked r.sort start u s.queue in omega arith))
others_hold r s t a u is ne Wake n = kept_holds t a (s.taken u) ne
others_hold r s t a u is ne (HandOff right x) n = ap (wanted_of t) ((is_handed a right x s).taken u)
    ∙ kept_holds t a (s.taken u) ne
others_hold r s t a u is ne Late n = refl
others_hold r s t a u is ne (OfOnce case) n = once_holds r s t a u is ne case
others_hold r s t a u is ne (locks.OfCondvar case) n = ap (λ (f : ℕ → Option Taken). wanted_of t (f u))
    (condvar_taken case s)
others_hold r s t a u is ne (locks.SeeOwner owned) n = refl
others_hold r s t a u is ne Rollback n = ap (wanted_of t) (let e : (locks.after_case r Rollback s a).taken u
    ≡ s.taken u = grind arith in e)

-- ---------------------------------------------------------------- a case of its own

-- how many want more than to share
abbrev pub wanting_more : List Queued → ℕ
wanting_more [] = 0
wanting_more (x ∷ xs) = (if wants_shared x.want then 0 else 1) + wanting_more xs

-- the thread is among them, and wants more
abbrev HasMore : ℕ → List Queued → Type 0
HasMore u [] = ⊥
HasMore u (x ∷ xs) = ((x.thread ≡ u) × (wants_shared x.want ≡ false)) ⊎ HasMore u xs

unshared : (x : Want) → x ≢ Shared → wants_shared x ≡ false
unshared Shared more = absurd (more refl)
unshared Exclusive more = refl
unshared Upgradable more = refl
unshared Wait more = refl
unshared CallOnce more = refl

-- a thread that is taken now was, or is among those that are taken
taken_more : (t u : ℕ) (x : Want) (xs : List Queued) (taken : ℕ → Option Taken) → x ≢ Shared
    → taking t xs taken u ≡ Some (record { by = t; want = x })
    → (taken u ≡ Some (record { by = t; want = x })) ⊎ HasMore u xs
taken_more t u x [] taken more e = inl e
taken_more t u x (z ∷ zs) taken more e =
    elim (taken_more t u x zs (putting taken z.thread (Some (record { by = t; want = z.want }))) more e) [
      | inl f ↦ either (u == z.thread) refl f
      | inr among ↦ inr (inr among)
    ]
  where
    either : (b : Bool) → (u == z.thread) ≡ b → (if b then Some (record { by = t; want = z.want })
        else taken u) ≡ Some (record { by = t; want = x }) → (taken u ≡ Some (record { by = t; want = x }))
        ⊎ HasMore u (z ∷ zs)
    either true here f = let one : record { by = t; want = z.want } ≡ record { by = t; want = x } = cc in
        inr (inl (
          sym (eqb-true u z.thread here),
          ap (λ (h : Taken). wants_shared h.want) one
              ∙ unshared x more,
        ))
    either false other f = inl f

one_at_least : (b : Bool) (n : ℕ) → b ≡ false → 1 ≤ (if b then 0 else 1) + n
one_at_least true n e = absurd cc
one_at_least false n e = omega arith

no_second : (b : Bool) (n : ℕ) → b ≡ false → (if b then 0 else 1) + n ≤ 1 → 1 ≤ n → ⊥
no_second true n e few some = absurd cc
no_second false n e few some = absurd (omega arith)

rest_few : (b : Bool) (n : ℕ) → (if b then 0 else 1) + n ≤ 1 → n ≤ 1
rest_few true n few = omega arith
rest_few false n few = omega arith

has_more : (u : ℕ) (xs : List Queued) → HasMore u xs → 1 ≤ wanting_more xs
has_more u [] h = absurd h
has_more u (x ∷ xs) (inl h) = one_at_least (wants_shared x.want) (wanting_more xs) h.1
has_more u (x ∷ xs) (inr h) = let rest : 1 ≤ wanting_more xs = has_more u xs h in omega arith

one_has_more : (u v : ℕ) (xs : List Queued) → wanting_more xs ≤ 1 → HasMore u xs → HasMore v xs → u ≡ v
one_has_more u v [] few h k = absurd h
one_has_more u v (x ∷ xs) few (inl h) (inl k) = sym h.0 ∙ k.0
one_has_more u v (x ∷ xs) few (inl h) (inr k) =
    absurd (no_second (wants_shared x.want) (wanting_more xs) h.1 few (has_more v xs k))
one_has_more u v (x ∷ xs) few (inr h) (inl k) =
    absurd (no_second (wants_shared x.want) (wanting_more xs) k.1 few (has_more u xs h))
one_has_more u v (x ∷ xs) few (inr h) (inr k) =
    one_has_more u v xs (rest_few (wants_shared x.want) (wanting_more xs) few) h k

-- the thread has one of them in hand at most
abbrev pub OneMore : (ℕ → Option Taken) → ℕ → Type 0
OneMore taken t = (u v : ℕ) (x y : Want) → taken u ≡ Some (record { by = t; want = x }) → x ≢ Shared
    → taken v ≡ Some (record { by = t; want = y }) → y ≢ Shared → u ≡ v

pub nobody_more : (t : ℕ) (taken : ℕ → Option Taken) → ((u : ℕ) (x : Want)
    → taken u ≡ Some (record { by = t; want = x }) → ⊥) → OneMore taken t
nobody_more t taken none u v x y h more k more2 = absurd (none u x h)

one_taken : (t : ℕ) (s : LockState) (xs : List Queued) → HasTakenNobody s t → wanting_more xs ≤ 1
    → (u v : ℕ) (x y : Want) → taking t xs s.taken u ≡ Some (record { by = t; want = x }) → x ≢ Shared
    → taking t xs s.taken v ≡ Some (record { by = t; want = y }) → y ≢ Shared → u ≡ v
one_taken t s xs none few u v x y h more k more2 = one_has_more u v xs few (among u x h more)
    (among v y k more2)
  where
    among : (u : ℕ) (x : Want) → taking t xs s.taken u ≡ Some (record { by = t; want = x }) → x ≢ Shared
        → HasMore u xs
    among u x h more = elim (taken_more t u x xs s.taken more h) [
      | inl was ↦ absurd (none u x was)
      | inr is ↦
          is
    ]

-- each thread that is let go is in no hand
kept_none : (t u : ℕ) (s : LockState) (x : Want) → keep_from t (s.taken u)
    ≡ Some (record { by = t; want = x }) → ⊥
kept_none t u s x e = (kept_by t (s.taken u) (record { by = t; want = x }) e).0 refl

few_first : (x : Queued) → wanting_more (x ∷ []) ≤ 1
few_first x = either (wants_shared x.want)
  where
    either : (b : Bool) → (if b then 0 else 1) + 0 ≤ 1
    either true = omega arith
    either false = omega arith

-- where nobody's hand changes
module _ (s : LockState) (t : ℕ) (none : HasTakenNobody s t) where
  as_before : (z : LockState) → ((u : ℕ) → z.taken u ≡ s.taken u) → OneMore z.taken t
  as_before z e = nobody_more t z.taken (λ u y h. none u y (sym (e u) ∙ h))

  let_go_then : (z : LockState) → ((u : ℕ) → z.taken u ≡ keep_from t (s.taken u)) → OneMore z.taken t
  let_go_then z e = nobody_more t z.taken (λ u y h. kept_none t u s y (sym (e u) ∙ h))

  pub takes_one_more : (r : Rules) → r.sort ≢ Once → ((start : Option Want)
      → wanting_more (picked r.sort start s.queue) ≤ 1)
      → (c : LockCase) → Needs r c s t → OneMore (locks.after_case r c s t).taken t
  takes_one_more r lock few (Enter x) n = as_before (locks.after_case r (Enter x) s t) (λ u. grind arith)
  takes_one_more r lock few Pend n = as_before (locks.after_case r Pend s t) (λ u. refl)
  takes_one_more r lock few Settle n = as_before (locks.after_case r Settle s t) (λ u. refl)
  takes_one_more r lock few (Leave right) n = as_before (locks.after_case r (Leave right) s t)
      (λ u. grind arith)
  takes_one_more r lock few (Convert right x) n = as_before (locks.after_case r (Convert right x) s t)
      (λ u. grind arith)
  takes_one_more r lock few (Park x) n = as_before (locks.after_case r (Park x) s t) (λ u. refl)
  takes_one_more r lock few Aside n = as_before (locks.after_case r Aside s t) (λ u. refl)
  takes_one_more r lock few (TakeFirst x) n = one_taken t s (x ∷ []) none (few_first x)
  takes_one_more r lock few (TakeAside v) n = one_taken t s (record { thread = v; want = Exclusive } ∷ [])
      none (few_first (record { thread = v; want = Exclusive }))
  takes_one_more r lock few (TakePicked start) n = one_taken t s (picked r.sort start s.queue) none
      (few start)
  takes_one_more r lock few Wake n = let_go_then (locks.after_case r Wake s t) (λ u. refl)
  takes_one_more r lock few (HandOff right x) n = let_go_then (locks.after_case r (HandOff right x) s t)
      (is_handed t right x s).taken
  takes_one_more r lock few Late n = as_before (locks.after_case r Late s t) (λ u. refl)
  takes_one_more r lock few Rollback n = as_before (locks.after_case r Rollback s t) (λ u. grind arith)
  takes_one_more r lock few (OfOnce case) n = absurd (lock n.0)
  takes_one_more r lock few (locks.OfCondvar case) n = as_before (locks.condvar_after case s)
      (λ u i. condvar_taken case s i u)
  takes_one_more r lock few (locks.SeeOwner owned) n = as_before s (λ u. refl)
