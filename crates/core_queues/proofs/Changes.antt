-- The chain from which a thread is taken, and the chain after whose last a thread is put.
use Rattle.std.proofs.Common.{ℕ, ◌≡◌, ◌≢◌, ◌≤◌, ◌<◌, inl, inr, List, [], ◌∷◌, ◌++◌, Option, Some, None}
use Rattle.std.proofs.Common.{length, refl, sym, ap, subst, ◌∙◌, arith, get_or-set_other, get_or-set_same}
use Rattle.std.specs.Prelude.{slice_set}
use Rattle.std.proofs.lemmas.Bool.{cases_eq, cases_lt}
use Rattle.std.proofs.lemmas.Bool.Decides.{nat_tests}
use Rattle.std.proofs.lemmas.List.{get_or_past}
use Rattle.core_base.specs.declared.wants.Waiter.{Waiter}
use Rattle.core_base.specs.declared.wants.Want.{Want}
use Rattle.core_base.specs.Lines.{waiter, times, without}
use Rattle.core_base.proofs.Counts.{times_append, times_without}
use Rattle.core_queues.specs.Links.{standing_record, record_of, next_in, next_of, leading, with_next, Leads}
use Rattle.core_queues.specs.Links.{EndsAt, first_in, unlinked_records, unlinked_ends, linked_records}
use Rattle.core_queues.specs.Links.{linked_ends}
use Rattle.core_queues.specs.declared.records.Record.{Record}
use Rattle.core_queues.specs.declared.records.Ends.{Ends}
use Rattle.core_queues.proofs.Leads.{times_here, times_more, times_later, once, nobody_without, leads_kept}
use Rattle.core_queues.proofs.Leads.{last_of_all}

-- a thread that has a record is below their number
pub room : (records : List (Option Record)) (thread : ℕ) (r : Record) → record_of records thread ≡ Some r
    → thread < length records
room records thread r here = elim (cases_lt thread (length records)) [
  | inl h ↦ h
  | inr h ↦ let e : None ≡ Some r = sym (get_or_past records thread None h) ∙ here in absurd cc
]

without_none : (thread : ℕ) (xs : List Waiter) → times thread xs ≡ 0 → without thread xs ≡ xs
without_none thread [] none = refl
without_none thread (x ∷ xs) none = grind (arith, nat_tests, without_none thread xs)

without_here : (thread : ℕ) (x : Waiter) (xs : List Waiter) → x.thread ≡ thread → without thread (x ∷ xs)
    ≡ without thread xs
without_here thread x xs same = grind (arith, nat_tests)

without_later : (thread : ℕ) (x : Waiter) (xs : List Waiter) → x.thread ≢ thread → without thread (x ∷ xs) ≡ x
    ∷ without thread xs
without_later thread x xs differ = grind (arith, nat_tests)

-- a thread that stands after one that stands there does so too
pub next_stands : (records : List (Option Record)) (from : Option ℕ) (xs : List Waiter) (before thread : ℕ)
    → Leads records from xs → 1 ≤ times before xs → next_of records before ≡ Some thread → 1 ≤ times thread xs
next_stands records from [] before thread a h next = absurd (omega arith)
next_stands records from (x ∷ []) before thread a h next = elim (cases_eq x.thread before) [
  | inl same ↦ let e : None ≡ Some thread = sym a.2 ∙ ap (next_of records) same ∙ next in absurd cc
  | inr differ ↦ absurd (grind (arith, times_later before x [] differ h))
]
next_stands records from (x ∷ y ∷ ys) before thread a h next = elim (cases_eq x.thread before) [
  | inl same ↦
      let e : Some y.thread ≡ Some thread = sym a.2.0 ∙ ap (next_of records) same ∙ next in
      let same : y.thread ≡ thread = cc in
      omega (
        arith,
        times_more thread x (y ∷ ys),
        subst (λ (t : ℕ). 1 ≤ times t (y ∷ ys)) same
            (times_here y ys),
      )
  | inr differ ↦ omega (
    arith,
    times_more thread x (y ∷ ys),
    next_stands records (next_of records x.thread)
        (y ∷ ys) before thread a.2 (times_later before x (y ∷ ys) differ h) next,
  )
]

-- tells what a record is once the thread after `before` has left
record_else : (records : List (Option Record)) (before thread other : ℕ) → other ≢ before → other ≢ thread
    → record_of (unlinked_records records (Some before) thread) other ≡ record_of records other
record_else records before thread other b t =
    get_or-set_other (with_next records before (next_of records thread)) thread other None None t
    ∙ get_or-set_other records before other _ None b

record_before : (records : List (Option Record)) (before thread : ℕ) → before < length records
    → before ≢ thread → record_of (unlinked_records records (Some before) thread) before ≡ leading
    (record_of records before) (next_of records thread)
record_before records before thread h t = get_or-set_other (with_next records before (next_of records thread))
    thread before None None t ∙ get_or-set_same records before _ None h

-- a thread leaves, after another
unlinked_at : (records : List (Option Record)) (from : Option ℕ) (xs : List Waiter) (before thread : ℕ)
    → Leads records from xs → 1 ≤ times before xs → next_of records before ≡ Some thread
    → Leads (unlinked_records records (Some before) thread) from (without thread xs)
unlinked_at records from [] before thread a h next = absurd (omega arith)
unlinked_at records from (x ∷ []) before thread a h next = elim (cases_eq x.thread before) [
  | inl same ↦ let e : None ≡ Some thread = sym a.2 ∙ ap (next_of records) same ∙ next in absurd cc
  | inr differ ↦ absurd (grind (arith, times_later before x [] differ h))
]
unlinked_at records from (x ∷ y ∷ ys) before thread a h next = elim (cases_eq x.thread before) [
  | inl same ↦
      let rest : List (Option Record) = unlinked_records records (Some before) thread in
      let e : Some y.thread ≡ Some thread = sym a.2.0 ∙ ap (next_of records) same ∙ next in
      let gone : y.thread ≡ thread = cc in
      let few : times thread (x ∷ y ∷ ys) ≤ 1 = once records from (x ∷ y ∷ ys) thread a in
      let one : times before (x ∷ y ∷ ys) ≤ 1 = once records from (x ∷ y ∷ ys) before a in
      let there : 1 ≤ times thread (y ∷ ys) = subst (λ (t : ℕ). 1 ≤ times t (y ∷ ys)) gone (times_here y ys)
      in
      let apart : x.thread ≢ thread = λ (k : x.thread ≡ thread). grind (arith, nat_tests) in
      let none : times thread ys ≡ 0 = grind (arith, nat_tests) in
      let others : times before ys ≡ 0 = grind (arith, nat_tests) in
      let apart_before : before ≢ thread = λ (k : before ≡ thread). apart (same ∙ k) in
      let left : without thread (x ∷ y ∷ ys) ≡ x ∷ ys = without_later thread x (y ∷ ys) apart
      ∙ ap (λ (l : List Waiter). x ∷ l) (without_here thread y ys gone ∙ without_none thread ys none) in
      let was : record_of records before ≡ Some (standing_record x.key x.want (next_of records x.thread)) =
      ap (record_of records) (sym same) ∙ a.1 in
      let is : record_of rest before ≡ Some (standing_record x.key x.want (next_of records thread)) =
      record_before records before thread (room records before _ was) apart_before ∙ rw was refl in
      let here : record_of rest x.thread ≡ Some (standing_record x.key x.want (next_of records thread)) =
      ap (record_of rest) same ∙ is in
      let then : next_of rest x.thread ≡ next_of records thread = ap next_in here in
      let kept : Leads rest (next_of records thread) ys = leads_kept records rest (next_of records thread) ys
      (λ t stands. record_else records before thread t (λ k. let m : times before ys ≡ times t ys =
      ap (λ (u : ℕ). times u ys) (sym k) in omega arith) (λ k. let m : times thread ys ≡ times t ys =
      ap (λ (u : ℕ). times u ys) (sym k) in omega arith))
      (subst (λ (t : ℕ). Leads records (next_of records t) ys) gone a.2.2) in
      rw left (a.0, rw then here, rw then kept)
  | inr differ ↦
      let rest : List (Option Record) = unlinked_records records (Some before) thread in
      let later : 1 ≤ times before (y ∷ ys) = times_later before x (y ∷ ys) differ h in
      let there : 1 ≤ times thread (y ∷ ys) = next_stands records (next_of records x.thread) (y ∷ ys) before
      thread a.2 later next in
      let few : times thread (x ∷ y ∷ ys) ≤ 1 = once records from (x ∷ y ∷ ys) thread a in
      let apart : x.thread ≢ thread = λ (k : x.thread ≡ thread). grind (arith, nat_tests) in
      let here : record_of rest x.thread ≡ record_of records x.thread = record_else records before thread
      x.thread differ apart in
      let then : next_of rest x.thread ≡ next_of records x.thread = ap next_in here in
      rw (without_later thread x (y ∷ ys) apart) (
        a.0,
        rw then (here ∙ a.1),
        rw then (unlinked_at records (next_of records x.thread) (y ∷ ys) before thread a.2 later next),
      )
]

-- the first leaves
unlinked_first : (records : List (Option Record)) (xs : List Waiter) (thread : ℕ)
    → Leads records (Some thread) xs → Leads (unlinked_records records None thread) (next_of records thread)
    (without thread xs)
unlinked_first records [] thread a = absurd cc
unlinked_first records (x ∷ xs) thread a =
    let e : Some thread ≡ Some x.thread = a.0 in
    let gone : x.thread ≡ thread = cc in
    let few : times thread (x ∷ xs) ≤ 1 = once records (Some thread) (x ∷ xs) thread a in
    let there : 1 ≤ times thread (x ∷ xs) = subst (λ (t : ℕ). 1 ≤ times t (x ∷ xs)) gone (times_here x xs) in
    let none : times thread xs ≡ 0 = grind (arith, nat_tests) in
    let rest : List (Option Record) = unlinked_records records None thread in
    rw (without_here thread x xs gone, without_none thread xs none)
    (leads_kept records rest (next_of records thread) xs
    (λ t stands. get_or-set_other records thread t None None (λ k. let m : times thread xs ≡ times t xs =
    ap (λ (u : ℕ). times u xs) (sym k) in omega arith))
    (subst (λ (t : ℕ). Leads records (next_of records t) xs) gone a.2))

-- the one that a thread stands after: nobody, as the first, or another of the chain
abbrev pub IsAfter : List (Option Record) → Ends → Option ℕ → ℕ → List Waiter → Type 0
IsAfter records e None thread xs = e.first ≡ thread
IsAfter records e (Some before) thread xs = (1 ≤ times before xs) × (next_of records before ≡ Some thread)

pub unlinked_leads : (records : List (Option Record)) (e : Ends) (xs : List Waiter) (before : Option ℕ)
    (thread : ℕ) (next : Option ℕ) → next_of records thread ≡ next → Leads records (Some e.first) xs
    → IsAfter records e before thread xs → Leads (unlinked_records records before thread)
    (first_in (unlinked_ends e before next)) (without thread xs)
unlinked_leads records e xs None thread None n a first =
    rw (← n) (unlinked_first records xs thread (subst (λ (t : ℕ). Leads records (Some t) xs) first a))
unlinked_leads records e xs None thread (Some next) n a first =
    rw (← n) (unlinked_first records xs thread (subst (λ (t : ℕ). Leads records (Some t) xs) first a))
unlinked_leads records e xs (Some before) thread None n a h = unlinked_at records (Some e.first) xs before
    thread a h.0 h.1
unlinked_leads records e xs (Some before) thread (Some next) n a h = unlinked_at records (Some e.first) xs
    before thread a h.0 h.1

next_is : (r : Option Record) (next : Option ℕ) (old : ℕ) → next_in r ≡ Some old → next_in (leading r next)
    ≡ next
next_is None next old h = let c : None ≡ Some old = h in absurd cc
next_is (Some r) next old h = refl

had_room : (records : List (Option Record)) (before thread : ℕ) → next_of records before ≡ Some thread
    → before < length records
had_room records before thread h = elim (cases_lt before (length records)) [
  | inl fits ↦ fits
  | inr past ↦ let e : None ≡ Some thread = sym (ap next_in (get_or_past records before None past)) ∙ h
      in absurd cc
]

next_before : (records : List (Option Record)) (before thread : ℕ) → before ≢ thread → next_of records before
    ≡ Some thread → next_of (unlinked_records records (Some before) thread) before ≡ next_of records thread
next_before records before thread differ h =
    ap next_in (record_before records before thread (had_room records before thread h) differ)
    ∙ next_is (record_of records before) (next_of records thread) thread h

still : (other thread : ℕ) (xs : List Waiter) → other ≢ thread → 1 ≤ times other xs
    → 1 ≤ times other (without thread xs)
still other thread xs differ h = omega (arith, times_without other thread xs differ)

pub unlinked_end : (records : List (Option Record)) (e : Ends) (xs : List Waiter) (before : Option ℕ)
    (thread : ℕ) (next : Option ℕ) → next_of records thread ≡ next → Leads records (Some e.first) xs
    → EndsAt records (Some e) xs → IsAfter records e before thread xs
    → EndsAt (unlinked_records records before thread) (unlinked_ends e before next) (without thread xs)
unlinked_end records e xs None thread None n a last first =
    last_of_all (unlinked_records records None thread) (without thread xs)
    (rw (← n) (unlinked_first records xs thread (subst (λ (t : ℕ). Leads records (Some t) xs) first a)))
unlinked_end records e xs None thread (Some next) n a last first =
    let differ : e.last ≢ thread = λ (k : e.last ≡ thread). let c : None ≡ Some next = sym last.1
    ∙ ap (next_of records) k ∙ n in cc in (
      still e.last thread xs differ last.0,
      ap next_in (get_or-set_other records thread e.last None None differ) ∙ last.1,
    )
unlinked_end records e xs (Some before) thread None n a last h =
    let differ : before ≢ thread = λ (k : before ≡ thread). let c : Some thread ≡ None = sym h.1
    ∙ ap (next_of records) k ∙ n in cc in
    (still before thread xs differ h.0, next_before records before thread differ h.1 ∙ n)
unlinked_end records e xs (Some before) thread (Some next) n a last h =
    let differ : e.last ≢ thread = λ (k : e.last ≡ thread). let c : None ≡ Some next = sym last.1
    ∙ ap (next_of records) k ∙ n in cc in
    let other : e.last ≢ before = λ (k : e.last ≡ before). let c : None ≡ Some thread = sym last.1
    ∙ ap (next_of records) k ∙ h.1 in cc in (
      still e.last thread xs differ last.0,
      ap next_in (record_else records before thread e.last other differ)
          ∙ last.1,
    )

-- ---------------------------------------------------------------- a thread is put after the last

linked_at : (records : List (Option Record)) (from : Option ℕ) (xs : List Waiter) (last thread key : ℕ)
    (wanted : Want) (e : Ends) → e.last ≡ last → record_of records thread ≡ None → thread < length records
    → Leads records from xs → 1 ≤ times last xs → next_of records last ≡ None
    → Leads (linked_records records (Some e) key thread wanted) from (xs ++ waiter key thread wanted ∷ [])
linked_at records from [] last thread key wanted e is none fits a h end = absurd (omega arith)
linked_at records from (x ∷ xs) last thread key wanted e is none fits a h end =
    let fresh : List (Option Record) = slice_set records thread (Some (standing_record key wanted None)) in
    let rest : List (Option Record) = linked_records records (Some e) key thread wanted in
    let apart : x.thread ≢ thread = λ (k : x.thread ≡ thread). let c : None
    ≡ Some (standing_record x.key x.want (next_of records x.thread)) = sym none
    ∙ ap (record_of records) (sym k) ∙ a.1 in cc in
    elim (cases_eq x.thread last) [
      | inl same ↦
          let empty : xs ≡ [] = last_of_all records xs (subst (λ (f : Option ℕ). Leads records f xs)
          (ap (next_of records) same ∙ end) a.2) in
          let was : record_of fresh x.thread
          ≡ Some (standing_record x.key x.want (next_of records x.thread)) =
          get_or-set_other records thread x.thread _ None apart ∙ a.1 in
          let at_last : e.last ≡ x.thread = is ∙ sym same in
          let fit : x.thread < length fresh = room fresh x.thread _ was in
          let becomes : record_of rest x.thread ≡ Some (standing_record x.key x.want (Some thread)) =
          subst (λ (t : ℕ). record_of (with_next fresh t (Some thread)) x.thread
          ≡ Some (standing_record x.key x.want (Some thread))) (sym at_last)
          (get_or-set_same fresh x.thread _ None fit ∙ rw was refl) in
          let then : next_of rest x.thread ≡ Some thread = ap next_in becomes in
          let not_last : thread ≢ e.last = λ (k : thread ≡ e.last). apart (sym (k ∙ at_last)) in
          let new : record_of rest thread ≡ Some (standing_record key wanted None) =
          get_or-set_other fresh e.last thread _ None not_last ∙ get_or-set_same records thread _ None
          fits in
          let alone : next_of rest thread ≡ None = ap next_in new in
          rw empty (a.0, rw then becomes, rw then (refl, rw alone new, alone))
      | inr differ ↦
          let elsewhere : x.thread ≢ e.last = λ (k : x.thread ≡ e.last). differ (k ∙ is) in
          let here : record_of rest x.thread ≡ record_of records x.thread =
          get_or-set_other fresh e.last x.thread _ None elsewhere ∙ get_or-set_other records thread
          x.thread _ None apart in
          let then : next_of rest x.thread ≡ next_of records x.thread = ap next_in here in (
            a.0,
            rw then (here ∙ a.1),
            rw then (linked_at records (next_of records x.thread) xs last thread key
                wanted e is none fits a.2 (times_later last x xs differ h) end),
          )
    ]

pub linked_leads : (records : List (Option Record)) (had : Option Ends) (xs : List Waiter) (key thread : ℕ)
    (wanted : Want) → record_of records thread ≡ None → thread < length records
    → Leads records (first_in had) xs → EndsAt records had xs
    → Leads (linked_records records had key thread wanted) (first_in (Some (linked_ends had thread)))
    (xs ++ waiter key thread wanted ∷ [])
linked_leads records None xs key thread wanted none fits a empty =
    let rest : List (Option Record) = linked_records records None key thread wanted in
    let new : record_of rest thread ≡ Some (standing_record key wanted None) =
    get_or-set_same records thread _ None fits in
    let alone : next_of rest thread ≡ None = ap next_in new in
    rw empty (refl, rw alone new, alone)
linked_leads records (Some e) xs key thread wanted none fits a last = linked_at records (Some e.first) xs
    e.last thread key wanted e refl none fits a last.0 last.1

pub linked_end : (records : List (Option Record)) (had : Option Ends) (xs : List Waiter) (key thread : ℕ)
    (wanted : Want) → record_of records thread ≡ None → thread < length records
    → Leads records (first_in had) xs → EndsAt records had xs
    → EndsAt (linked_records records had key thread wanted) (Some (linked_ends had thread)) (xs
    ++ waiter key thread wanted ∷ [])
linked_end records None xs key thread wanted none fits a empty =
    let new : record_of (linked_records records None key thread wanted) thread
    ≡ Some (standing_record key wanted None) = get_or-set_same records thread _ None fits in
    (grind (arith, nat_tests, times_append thread key thread wanted xs), ap next_in new)
linked_end records (Some e) xs key thread wanted none fits a last =
    let fresh : List (Option Record) = slice_set records thread (Some (standing_record key wanted None)) in
    let gone : times thread xs ≡ 0 = nobody_without records (Some e.first) xs thread none a in
    let apart : thread ≢ e.last = λ (k : thread ≡ e.last). let m : times thread xs ≡ times e.last xs =
    ap (λ (u : ℕ). times u xs) k in let l = last.0 in absurd (omega arith) in
    let new : record_of (linked_records records (Some e) key thread wanted) thread
    ≡ Some (standing_record key wanted None) = get_or-set_other fresh e.last thread _ None apart
    ∙ get_or-set_same records thread _ None fits in
    (grind (arith, nat_tests, times_append thread key thread wanted xs), ap next_in new)
