-- A thread leaves its section, and all that it has taken try again: what holds between steps holds again.
use Rattle.std.proofs.Common.{ℕ, Bool, true, false, Option, Some, None, if◌then◌else◌, ◌==◌, ◌≡◌, ◌≢◌, ◌≤◌}
use Rattle.std.proofs.Common.{◌+◌, ◌⊎◌, inl, inr, [], refl, sym, ap, ◌∙◌, arith}
use Rattle.std.proofs.lemmas.Bool.{cases_eq}
use Rattle.std.proofs.lemmas.Bool.Decides.{nat_tests}
use Rattle.spec_locks.specs.Locks.{Taken, Sort, Mutex, Normal, Recursive, Semaphore, Once, Rules, Wake}
use Rattle.spec_locks.specs.Locks.{readers, times, one_if_thread, standing, one_if_some, keep_from, let_go}
use Rattle.spec_locks.specs.Locks.{putting, Condvar}
use Rattle.spec_locks.specs.Sites.{Line, Main, Second, Claim, Role, Site, IsSite, IsEmpty, IsOpen}
use Rattle.spec_locks.specs.Sites.{IsDebtorRole, LooksAfter, Holds, Out, Needed, after_deed, leaves, wakened}
use Rattle.spec_locks.specs.Sites.{counts_some, counts_taken}
use Rattle.spec_locks.proofs.LockKeeps.{case_keeps}
use Rattle.spec_locks.proofs.Hands.{kept_few, kept_counts, kept_by}

-- all that one thread does but its trying again
pub record Alike (d e : Role) : Type 0 where
  pub inside : d.inside ≡ e.inside
  pub wakes : d.wakes ≡ e.wakes
  pub has_taken : d.has_taken ≡ e.has_taken
  pub owes_taken : d.owes_taken ≡ e.owes_taken
  pub empty : d.empty ≡ e.empty
  pub claims : d.claims ≡ e.claims
  pub will_bring : d.will_bring ≡ e.will_bring
  pub bit_pending : d.bit_pending ≡ e.bit_pending

pub wakened_alike : (t : ℕ) (o : Option Taken) (d : Role) → Alike (wakened t o d) d
wakened_alike t None d = record {
  inside = refl;
  wakes = refl;
  has_taken = refl;
  owes_taken = refl;
  empty = refl;
  claims = refl;
  will_bring = refl;
  bit_pending = refl;
}
wakened_alike t (Some h) d = either (h.by == t)
  where
    either : (b : Bool) → Alike (if b then record d { retries = Some h.want } else d) d
    either true = record {
      inside = refl;
      wakes = refl;
      has_taken = refl;
      owes_taken = refl;
      empty = refl;
      claims = refl;
      will_bring = refl;
      bit_pending = refl;
    }
    either false = record {
      inside = refl;
      wakes = refl;
      has_taken = refl;
      owes_taken = refl;
      empty = refl;
      claims = refl;
      will_bring = refl;
      bit_pending = refl;
    }

-- each thread that stays in hand, or was in none, doesn't try again by this
pub unwakened : (t : ℕ) (o : Option Taken) (d : Role) → keep_from t o ≡ o → (wakened t o d).retries
    ≡ d.retries
unwakened t None d e = refl
unwakened t (Some h) d e = either (h.by == t) refl
  where
    either : (b : Bool) → (h.by == t) ≡ b → (if b then record d { retries = Some h.want } else d).retries
        ≡ d.retries
    either false f = refl
    either true f = absurd (let g : keep_from t (Some h) ≡ None = ap (λ b. if b then None else Some h) f
        in cc)

-- Each waiter that is let go counts.
wakened_counts : (sort : Sort) (t : ℕ) (o : Option Taken) (d : Role) → counts_taken sort t o ≡ true
    → counts_some sort (wakened t o d).retries ≡ true
wakened_counts sort t None d c = absurd cc
wakened_counts sort t (Some h) d c = grind (arith, nat_tests)

module _ (r : Rules) (s : Site) (t : ℕ) (h : IsSite r s) (n : Needed r Out s t) where
  abbrev v : Site
  v = after_deed r Out s t

  other : (u : ℕ) → u ≢ t → Alike (v.role u) (s.role u)
  other u ne = let e : putting s.role t (leaves (s.role t)) u ≡ s.role u = grind (arith, nat_tests)
      in rw e (wakened_alike t (s.lock.taken u) (s.role u))

  own : Alike (v.role t) (leaves (s.role t))
  own = let e : putting s.role t (leaves (s.role t)) t ≡ leaves (s.role t) = grind (arith, nat_tests)
      in rw e (wakened_alike t (s.lock.taken t) (leaves (s.role t)))

  same_retries : (u : ℕ) → (putting s.role t (leaves (s.role t)) u).retries ≡ (s.role u).retries
  same_retries u = elim (cases_eq u t) [
    | inl e ↦ rw e (grind (arith, nat_tests))
    | inr ne ↦ grind (arith, nat_tests)
  ]

  -- a thread that is inside, has seen nobody or has taken others is another
  inside_other : (u : ℕ) (m : Line) → (v.role u).inside ≡ Some m → (u ≢ t) × ((s.role u).inside ≡ Some m)
  inside_other u m i = elim (cases_eq u t) [
    | inl e ↦ absurd (let k : (v.role t).inside ≡ Some m = rw e at i in let g = own.inside in cc)
    | inr ne ↦ (ne, sym (other u ne).inside ∙ i)
  ]

  empty_other : (u : ℕ) (m : Line) → (v.role u).empty ≡ Some m → (u ≢ t) × ((s.role u).empty ≡ Some m)
  empty_other u m i = elim (cases_eq u t) [
    | inl e ↦ absurd (let k : (v.role t).empty ≡ Some m = rw e at i in let g = own.empty in cc)
    | inr ne ↦ (ne, sym (other u ne).empty ∙ i)
  ]

  covers_other : (u : ℕ) → (v.role u).owes_taken ≡ true → (u ≢ t) × ((s.role u).owes_taken ≡ true)
  covers_other u i = elim (cases_eq u t) [
    | inl e ↦ absurd (let k : (v.role t).owes_taken ≡ true = rw e at i in let g = own.owes_taken in cc)
    | inr ne ↦ (ne, sym (other u ne).owes_taken ∙ i)
  ]

  brings_other : (u : ℕ) → (v.role u).will_bring ≡ true → (u ≢ t) × ((s.role u).will_bring ≡ true)
  brings_other u i = elim (cases_eq u t) [
    | inl e ↦ absurd (let k : (v.role t).will_bring ≡ true = rw e at i in let g = own.will_bring in cc)
    | inr ne ↦ (ne, sym (other u ne).will_bring ∙ i)
  ]

  sets_other : (u : ℕ) → (v.role u).bit_pending ≡ true → (u ≢ t) × ((s.role u).bit_pending ≡ true)
  sets_other u i = elim (cases_eq u t) [
    | inl e ↦ absurd (let k : (v.role t).bit_pending ≡ true = rw e at i in let g = own.bit_pending in cc)
    | inr ne ↦ (ne, sym (other u ne).bit_pending ∙ i)
  ]

  still_parked : s.lock.queue ≢ [] → (s.parked ≡ true) ⊎ ((u : ℕ) × ((v.role u).bit_pending ≡ true))
  still_parked left = elim (h.parked left) [
    | inl k ↦ inl k
    | inr one ↦
        let ne : one.0 ≢ t = (λ e. let k : (s.role t).bit_pending ≡ true = rw e at one.1 in let g = n.2 in cc) in
        inr (one.0, (other one.0 ne).bit_pending ∙ one.1)
  ]

  still_brought : (u : ℕ) → (v.role u).will_bring ≡ true → ((v.role u).inside ≡ Some Main) × (s.parked ≡ true)
      × (r.sort ≡ Mutex)
  still_brought u i = let k = brings_other u i in let was = h.brought u k.1
      in ((other u k.0).inside ∙ was.0, was.1, was.2)

  still_setting : (u : ℕ) → (v.role u).bit_pending ≡ true → LooksAfter r.sort (v.role u)
  still_setting u i = let k = sets_other u i in elim (h.setting u k.1) [
    | inl owes_taken ↦ inl ((other u k.0).owes_taken ∙ owes_taken)
    | inr wakes ↦ inr (wakes.0, (other u k.0).wakes ∙ wakes.1)
  ]

  was_awaited : (v.lock.queue ≢ []) ⊎ ((u : ℕ) × ((v.role u).will_bring ≡ true)) → (s.lock.queue ≢ [])
      ⊎ ((u : ℕ) × ((s.role u).will_bring ≡ true))
  was_awaited (inl k) = inl k
  was_awaited (inr one) = inr (one.0, (brings_other one.0 one.1).1)

  same_claims : (u : ℕ) → (v.role u).claims ≡ (s.role u).claims
  same_claims u = elim (cases_eq u t) [
    | inl e ↦ rw e own.claims
    | inr ne ↦ (other u ne).claims
  ]

  same_holds : (u : ℕ) (c : Claim) → Holds s.lock u c → Holds v.lock u c
  same_holds u c k = grind arith

  still_emptied : (u : ℕ) (m : Line) → (v.role u).empty ≡ Some m → ((v.role u).inside ≡ Some m)
      × IsEmpty v.lock m
  still_emptied u m e = let k = empty_other u m e in let was = h.emptied u m k.1
      in ((other u k.0).inside ∙ was.0, grind arith)

  still_covered : (u : ℕ) → (v.role u).owes_taken ≡ true → ((v.role u).inside ≡ Some Main)
      × ((v.role u).has_taken ≡ true) × (v.lock.queue ≢ [] → (x : ℕ)
      × (counts_taken r.sort u (v.lock.taken x) ≡ true))
  still_covered u c = let k = covers_other u c in let was = h.covered u k.1 in (
    (other u k.0).inside ∙ was.0,
    (other u k.0).has_taken ∙ was.1,
    λ left. let one = was.2 left
        in (one.0, kept_counts r.sort t u (s.lock.taken one.0) k.0 one.1),
  )

  still_carried : (u : ℕ) (a : Taken) → v.lock.taken u ≡ Some a → (v.role a.by).has_taken ≡ true
  still_carried u a e = let k = kept_by t (s.lock.taken u) a e in (other a.by k.0).has_taken ∙ h.carried u a k.1

  -- a thread that still stands was not in t's hand
  still_there : (u : ℕ) → 1 ≤ standing u v.lock → keep_from t (s.lock.taken u) ≡ s.lock.taken u
  still_there u e = by_hand (s.lock.taken u) refl
    where
      by_hand : (o : Option Taken) → s.lock.taken u ≡ o → keep_from t o ≡ o
      by_hand None f = refl
      by_hand (Some a) f = either (a.by == t) refl
        where
          either : (b : Bool) → (a.by == t) ≡ b → (if b then None else Some a) ≡ Some a
          either false g = refl
          either true g = absurd (
              let one : times u s.lock.queue + one_if_thread u s.lock.aside + one_if_some (Some a) ≤ 1 =
              rw f at (h.state.once u) in
              let two : 1 ≤ times u s.lock.queue + one_if_thread u s.lock.aside + one_if_some
              (keep_from t (Some a)) = rw f at e in
              let three : one_if_some (keep_from t (Some a)) ≡ 0 =
              ap (λ b. one_if_some (if b then None else Some a)) g in
              omega arith)

  still_unwoken : (u : ℕ) → 1 ≤ standing u v.lock → (v.role u).retries ≡ None
  still_unwoken u e =
      let stood : 1 ≤ standing u s.lock = (let k = kept_few t (s.lock.taken u)
      in let g : 1 ≤ times u s.lock.queue + one_if_thread u s.lock.aside
      + one_if_some (let_go t s.lock.taken u) = e in omega arith) in
      unwakened t (s.lock.taken u) (putting s.role t (leaves (s.role t)) u) (still_there u e) ∙ same_retries u
      ∙ h.unwoken u stood

  was_open : (sort : Sort) → IsOpen sort v.lock → IsOpen sort s.lock
  was_open Mutex e = e
  was_open Normal e = e
  was_open Recursive e = e
  was_open Semaphore e = e
  was_open Once e = e
  was_open Condvar e = e

  -- a thread that tries again is in nobody's hand
  in_no_hand : (u : ℕ) → counts_some r.sort (s.role u).retries ≡ true → (o : Option Taken) → s.lock.taken u
      ≡ o → keep_from t o ≡ o
  in_no_hand u c None e = refl
  in_no_hand u c (Some a) e = absurd (
      let stood : 1 ≤ standing u s.lock =
      (let k : standing u s.lock ≡ times u s.lock.queue + one_if_thread u s.lock.aside + 1 =
      ap (λ (o : Option Taken). times u s.lock.queue + one_if_thread u s.lock.aside + one_if_some o) e
      in omega arith) in
      let g : counts_some r.sort None ≡ true = rw (h.unwoken u stood) at c in
      cc)

  -- where t covers, it is alone inside, so nobody else brings
  left_by : (v.lock.queue ≢ []) ⊎ ((u : ℕ) × ((v.role u).will_bring ≡ true)) → (s.role t).owes_taken ≡ true
      → s.lock.queue ≢ []
  left_by (inl k) c = k
  left_by (inr one) c = let b = brings_other one.0 one.1
      in absurd (b.0 (h.alone one.0 t Main (h.brought one.0 b.1).0 (h.covered t c).0))

  still_main : (v.lock.queue ≢ []) ⊎ ((u : ℕ) × ((v.role u).will_bring ≡ true)) → IsOpen r.sort v.lock
      → v.filled ≡ false → (u : ℕ) × IsDebtorRole r.sort (v.role u)
  still_main left free room = let one = h.main (was_awaited left) (was_open r.sort free) room
      in by_debt one.0 one.1
    where
      by_debt : (u : ℕ) → IsDebtorRole r.sort (s.role u) → (x : ℕ) × IsDebtorRole r.sort (v.role x)
      by_debt u (inl w) = let ne : u ≢ t = (λ e. let k : (s.role t).wakes ≡ Some Main = rw e at w in let g =
          n.1 in cc) in (u, inl ((other u ne).wakes ∙ w))
      by_debt u (inr (inl c)) = elim (cases_eq u t) [
        | inl e ↦ let one = (h.covered t (rw e at c)).2 (left_by left (rw e at c))
            in (
              one.0,
              inr (inr (wakened_counts r.sort t (s.lock.taken one.0)
                  (putting s.role t (leaves (s.role t)) one.0) one.1)),
            )
        | inr ne ↦ (u, inr (inl ((other u ne).owes_taken ∙ c)))
      ]
      by_debt u (inr (inr c)) = (
        u,
        inr (inr (ap (counts_some r.sort)
            (unwakened t (s.lock.taken u) (putting s.role t (leaves (s.role t)) u)
            (in_no_hand u c (s.lock.taken u) refl) ∙ same_retries u) ∙ c)),
      )

  still_second : v.lock.aside ≢ None → readers v.lock ≡ 0 → (u : ℕ) × ((v.role u).wakes ≡ Some Second)
  still_second stands none = let one = h.second stands none in
      let ne : one.0 ≢ t = (λ e. let k : (s.role t).wakes ≡ Some Second = rw e at one.1 in let g = n.1 in cc)
      in (one.0, (other one.0 ne).wakes ∙ one.1)

  pub out_keeps : IsSite r v
  out_keeps = record {
    state = case_keeps r Wake s.lock t h.state tt;
    alone = λ u x m i j. h.alone u x m (inside_other u m i).1 (inside_other x m j).1;
    parked = still_parked;
    aside_parked = h.aside_parked;
    emptied = still_emptied;
    covered = still_covered;
    carried = still_carried;
    brought = still_brought;
    setting = still_setting;
    held = λ u c e. same_holds u c (h.held u c (sym (same_claims u) ∙ e));
    unwoken = still_unwoken;
    full = h.full;
    main = still_main;
    second = still_second;
  }
