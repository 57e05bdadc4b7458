-- Which threads have debts on a lock, by the links of a book.
use Rattle.std.proofs.Common.{◌≡◌, ◌∙◌, ℕ, suc, zero, ◌+◌, ◌-◌, ◌<◌, ◌≤◌, true, false, inl, inr, Some, None}
use Rattle.std.proofs.Common.{List, [], ◌∷◌, ◌++◌, length, get_or, set, drop, refl, sym, ap, subst, replicate}
use Rattle.std.proofs.Common.{get_or-set_same, get_or-set_other, length-set, ne_eqb, arith}
use Rattle.std.proofs.lemmas.Bool.{cases_eq, cases_lt}
use Rattle.std.proofs.lemmas.List.{drop_more, get_or-drop, get_or_past, get_or-replicate, length-replicate}
use Rattle.std.proofs.Math.Seq.{drop-nil}
use Rattle.lot_steps.specs.declared.places.Place.{Place}
use Rattle.lot_steps.specs.declared.places.Place.TheVariants.{Idle}
use Rattle.lot_machine.specs.declared.debts.Debt.{Debt}
use Rattle.lot_machine.specs.declared.debts.Link.{Link}
use Rattle.lot_machine.specs.declared.debts.Tag.TheVariants.{Nowhere, On}
use Rattle.lot_machine.specs.declared.debts.Debt.TheVariants.{Owes, Retries}
use Rattle.lot_machine.specs.Debts.{AreLinked, AreLinkedFrom, Skips, TagCovers, place_of_thread, unlinked}
use Rattle.lot_machine.specs.Views.{debtors, has_debt}

-- ---------------------------------------------------------------- skipped lines

-- a number of places without the debt are at the head of a list
skips_front : (debt : Debt) (l : ℕ) (ps : List Place) (n k : ℕ)
    → ((i : ℕ) → i < k → has_debt (place_of_thread ps i) debt l ≡ false) → debtors debt l n ps
    ≡ debtors debt l (n + k) (drop k ps)
skips_front debt l ps n zero none = let same : n ≡ n + 0 = omega arith in ap (λ (m : ℕ). debtors debt l m ps)
    same
skips_front debt l [] n (suc k) none = refl
skips_front debt l (p ∷ ps) n (suc k) none =
    let first : has_debt p debt l ≡ false = none 0 (omega arith) in
    let rest = skips_front debt l ps (n + 1) k (λ i lt. none (suc i) (omega (arith, lt))) in
    let there : (n + 1) + k ≡ n + suc k = omega arith in
    rw first (rest ∙ ap (λ m. debtors debt l m (drop k ps)) there)

drop_on : (n k : ℕ) (ps : List Place) → drop k (drop n ps) ≡ drop (n + k) ps
drop_on zero k ps = let same : k ≡ zero + k = omega arith in ap (λ m. drop m ps) same
drop_on (suc n) k [] = drop-nil k ∙ sym (drop-nil (suc n + k))
drop_on (suc n) k (p ∷ ps) = let same : suc (n + k) ≡ suc n + k = omega arith in drop_on n k ps
    ∙ ap (λ m. drop m (p ∷ ps)) same

-- places that are skipped have no debt, so the list is that from after them
pub skips_debtors : (places : List Place) (debt : Debt) (l from to : ℕ) → from ≤ to → Skips places l from to
    → debtors debt l from (drop from places) ≡ debtors debt l to (drop to places)
skips_debtors places debt l from to le none =
    let k = to - from in
    let there : from + k ≡ to = omega (arith, le) in
    skips_front debt l (drop from places) from k (λ i lt. rw (get_or-drop from places i Idle)
    (none (from + i) (omega arith) (omega (arith, lt, le)) debt))
    ∙ ap (λ ps. debtors debt l (from + k) ps) (drop_on from k places)
    ∙ ap (λ m. debtors debt l m (drop m places)) there

-- the one that has the debt comes first, and then those from the next one on
pub debtor_there : (places : List Place) (debt : Debt) (l t next : ℕ) → t < length places
    → has_debt (place_of_thread places t) debt l ≡ true → t < next → Skips places l (t + 1) next
    → debtors debt l t (drop t places) ≡ (debt, t) ∷ debtors debt l next (drop next places)
debtor_there places debt l t next there has later none =
    ap (λ ps. debtors debt l t ps) (drop_more places t Idle there)
    ∙ rw has (ap (λ rest. (debt, t) ∷ rest) (skips_debtors places debt l (t + 1) next (omega (arith, later))
    none))

pub debtor_past : (places : List Place) (debt : Debt) (l t next : ℕ) → t < length places
    → has_debt (place_of_thread places t) debt l ≡ false → t < next → Skips places l (t + 1) next
    → debtors debt l t (drop t places) ≡ debtors debt l next (drop next places)
debtor_past places debt l t next there none later skips =
    ap (λ ps. debtors debt l t ps) (drop_more places t Idle there)
    ∙ rw none (skips_debtors places debt l (t + 1) next (omega (arith, later)) skips)

-- all that have debts stand from the first one on
pub debts_from : (places : List Place) (l first : ℕ) → Skips places l 0 first
    → debtors Owes l first (drop first places) ++ debtors Retries l first (drop first places)
    ≡ debtors Owes l 0 places ++ debtors Retries l 0 places
debts_from places l first none =
    ap (λ owing. owing ++ debtors Retries l first (drop first places))
    (sym (skips_debtors places Owes l 0 first (omega arith) none))
    ∙ ap (λ retrying. debtors Owes l 0 places ++ retrying)
    (sym (skips_debtors places Retries l 0 first (omega arith) none))

-- ---------------------------------------------------------------- how a thread is linked

-- a thread without a debt on the lock is skipped too
skips_one : (places : List Place) (l t to : ℕ) → ((debt : Debt) → has_debt (place_of_thread places t) debt l
    ≡ false) → Skips places l (t + 1) to → Skips places l t to
skips_one places l t to none rest u le lt debt = elim (cases_eq u t) [
  | inl same ↦ rw same (none debt)
  | inr ne ↦ rest u (omega (arith, le, ne)) lt debt
]

-- nothing is linked yet
pub links_none : (n : ℕ) (places : List Place) → AreLinked (replicate n unlinked) places
links_none n places t l there on = absurd (none (subst (λ (x : Link). x.lock ≡ Some l) (all_same n t) on))
  where
    all_same : (n t : ℕ) → ◌≡◌ {A = Link} (get_or (replicate n unlinked) t unlinked) unlinked
    all_same n t = elim (cases_lt t n) [
      | inl lt ↦ get_or-replicate n t unlinked unlinked lt
      | inr ge ↦ get_or_past (replicate n unlinked) t unlinked (rw (length-replicate {A = Link} n unlinked)
          ge)
    ]

    none : {l : ℕ} → None ≡ Some l → ⊥
    none e = cc

-- where all chains begin at one thread, and no thread from there on is looked for
pub begins_at : (links : List Link) (places : List Place) (from : ℕ) → length links ≡ 1024 → from
    ≤ length places → AreLinked links places → AreLinkedFrom links (replicate 256 from) places from
begins_at links places from size within linked = record {
  sizes = (size, length-replicate {A = ℕ} 256 from);
  begins = λ l lt. rw (get_or-replicate 256 l from 0 lt) (
    omega arith,
    within,
    λ u above below debt. absurd
        (omega (arith, above, below)),
  );
  linked = linked;
}

module _ (links : List Link) (first : List ℕ) (places : List Place) (t : ℕ) (there : t < length places)
    (few : length places ≤ 1024) (f : AreLinkedFrom links first places (t + 1)) where
  -- a thread without debts on a lock stands before its chain
  goes_before : (l : ℕ) → l < 256 → ((debt : Debt) → has_debt (place_of_thread places t) debt l ≡ false)
      → (t ≤ get_or first l 0) × (get_or first l 0 ≤ length places) × Skips places l t (get_or first l 0)
  goes_before l lt none = let begins = f.begins l lt in
      (omega (arith, begins.0), begins.1, skips_one places l t (get_or first l 0) none begins.2)

  -- a thread that has no debts
  pub links_nowhere : TagCovers Nowhere (place_of_thread places t) → AreLinkedFrom links first places t
  links_nowhere tells = record {
    sizes = f.sizes;
    begins = λ l lt. goes_before l lt (λ debt. tells debt l refl);
    linked = f.linked;
  }

  -- A tag past the locks covers nothing, since no chain begins there.
  pub links_past : (own : ℕ) → 256 ≤ own → TagCovers (On own) (place_of_thread places t)
      → AreLinkedFrom links first places t
  links_past own past tells = record {
    sizes = f.sizes;
    begins = λ l lt. goes_before l lt (λ debt. tells debt l
        (ne_eqb own l (λ same. omega (arith, same, past, lt))));
    linked = f.linked;
  }

  -- a thread that may have debts on one lock stands before those of its chain
  module _ (own : ℕ) (lt : own < 256) (tells : TagCovers (On own) (place_of_thread places t)) where
    abbrev pub own_link : Link
    own_link = record { lock = Some own; next = get_or first own 0 }

    begun : (l : ℕ) → l < 256 → (t ≤ get_or (set first own t) l 0)
        × (get_or (set first own t) l 0 ≤ length places) × Skips places l t (get_or (set first own t) l 0)
    begun l below = elim (cases_eq l own) [
      | inl same ↦ rw (same, get_or-set_same first own t 0 (omega (arith, lt, f.sizes.1))) (
        omega arith,
        omega (arith, there),
        λ u above under debt. absurd (omega (arith, above, under)),
      )
      | inr ne ↦ rw (get_or-set_other first own l t 0 ne)
          (goes_before l below (λ debt. tells debt l (ne_eqb own l (λ same. ne (sym same)))))
    ]

    abbrev Leads : ℕ → ℕ → Link → Type 0
    Leads u l x = (u < x.next) × (x.next ≤ length places) × Skips places l (u + 1) x.next

    here : (l : ℕ) → own_link.lock ≡ Some l → Leads t l own_link
    here l e = let same : own ≡ l = cc in let begins = f.begins own lt in
        subst (λ (x : ℕ). Leads t x own_link) same (omega (arith, begins.0), begins.1, begins.2)

    on : AreLinked (set links t own_link) places
    on u l within e = elim (cases_eq u t) [
      | inl same ↦ let now = ap (λ (x : ℕ). get_or (set links t own_link) x unlinked) same
          ∙ get_or-set_same links t own_link unlinked (omega (arith, there, few, f.sizes.0)) in
          subst (λ (x : ℕ). Leads x l (get_or (set links t own_link) u unlinked)) (sym same)
          (subst (λ (x : Link). Leads t l x) (sym now) (here l (subst (λ (x : Link). x.lock ≡ Some l) now e)))
      | inr ne ↦ let now = get_or-set_other links t u own_link unlinked ne in
          subst (λ (x : Link). Leads u l x) (sym now) (f.linked u l within
          (subst (λ (x : Link). x.lock ≡ Some l) now e))
    ]

    pub links_on : AreLinkedFrom (set links t own_link) (set first own t) places t
    links_on = record {
      sizes = (length-set links t own_link ∙ f.sizes.0, length-set first own t ∙ f.sizes.1);
      begins = begun;
      linked = on;
    }
