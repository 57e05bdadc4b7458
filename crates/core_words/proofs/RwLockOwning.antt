-- The ownerships of a thread after its step on a reader-writer lock's word, by those before it and
-- by the value that it found.
use Rattle.std.proofs.Common.{◌≡◌, ◌≢◌, ◌⊎◌, inl, inr, ℕ, ◌+◌, ◌-◌, ◌/◌, ◌%◌, ◌^◌, ◌<◌, List, [], ◌∷◌, true}
use Rattle.std.proofs.Common.{false, cond, eqb, ◌∙◌, sym, refl, ap, subst, arith, eq-eqb, ne_eqb}
use mathlib.Core.Logic.{dite}
use native.Mathlib.Decide.{ℕ_discrete}
use Rattle.core_base.specs.Words.{apply}
use Rattle.core_base.specs.declared.ops.Op.{Op}
use Rattle.core_base.specs.declared.ops.Op.TheVariants.{Add, Sub, Exchange}
use Rattle.core_base.specs.declared.wants.Want.TheVariants as wants
use Rattle.core_words.specs.Codes.{exclusive, pending, upgrading, upgradable, shared}
use Rattle.core_words.specs.Rights.{MayHand}
use Rattle.core_words.specs.Views.{owning}
use Rattle.core_words.specs.Steps.{Trade, trading, CodesWith, has, without, is_look, owners_in, settles}
use Rattle.core_words.specs.Steps.{rwlock_trade, owns_after, owns_after_step}
use Rattle.core_words.specs.declared.owners.Owner.{Owner}
use Rattle.core_words.specs.declared.owners.Owner.TheVariants.{Exclusive, Pending, Upgrading, Upgradable}
use Rattle.core_words.specs.declared.owners.Owner.TheVariants.{Shared}
use Rattle.core_words.specs.declared.owners.Ownership.{Ownership}
use Rattle.core_words.specs.declared.words.WordKind.TheVariants.{RwLock}
use Rattle.core_words.proofs.RwLockSteps.{absent, there, either_way, stays_trade, exclusive_trade}
use Rattle.core_words.proofs.RwLockSteps.{shared_trade, writes_trade, reads_trade, upgradable_trade}
use Rattle.core_words.proofs.RwLockSteps.{upgradable_enters_trade, falls_back_trade, gives_up_trade}

-- the first of a list
pub first_goes : (at : ℕ) (o : Owner) (rest : List Ownership) → without (owning at o) (owning at o ∷ rest)
    ≡ rest
first_goes at Exclusive rest = rw (eq-eqb at at refl) refl
first_goes at Pending rest = rw (eq-eqb at at refl) refl
first_goes at Upgrading rest = rw (eq-eqb at at refl) refl
first_goes at Upgradable rest = rw (eq-eqb at at refl) refl
first_goes at Shared rest = rw (eq-eqb at at refl) refl
first_goes at o rest = rw (eq-eqb at at refl) refl

pub has_first : (at : ℕ) (o : Owner) (rest : List Ownership) → has (owning at o) (owning at o ∷ rest) ≡ true
has_first at Exclusive rest = rw (eq-eqb at at refl) refl
has_first at Pending rest = rw (eq-eqb at at refl) refl
has_first at Upgrading rest = rw (eq-eqb at at refl) refl
has_first at Upgradable rest = rw (eq-eqb at at refl) refl
has_first at Shared rest = rw (eq-eqb at at refl) refl
has_first at o rest = rw (eq-eqb at at refl) refl

module _ (at n : ℕ) (owns : List Ownership) (code : CodesWith RwLock at n owns) where
  -- the code has 64 bits
  pub fits : n < 2 ^ 64
  fits = let c₀ = code.1.0 in let c₁ = code.1.1 in let c₃ = code.1.3 in omega arith

  -- by what the step trades
  by_trade : (op : Op) (t : Trade) → rwlock_trade at op n (apply op n) owns ≡ t
      → owns_after_step RwLock at op n owns ≡ owns_after at t owns
  by_trade op t e = ap (λ (t : Trade). owns_after at t owns) e

  module _ (op : Op) (same : apply op n / 4 ≡ n / 4) where
    abbrev settled : Trade
    settled = settles at op n owns

    by_settling : (t : Trade) → settles at op n owns ≡ t → owns_after_step RwLock at op n owns
        ≡ owns_after at t owns
    by_settling t e = by_trade op t (stays_trade at owns op n (apply op n) code.0 code.1 code.2 same ∙ e)

    -- a step that is no look leaves all as it was
    pub keeps_all : is_look op n ≡ false → owns_after_step RwLock at op n owns ≡ owns
    keeps_all no_look = by_settling (trading [] []) (rw no_look refl)

    -- A look that finds readers changes no ownership.
    pub keeps_beside_readers : n / 16 ≢ 0 → owns_after_step RwLock at op n owns ≡ owns
    keeps_beside_readers some = by_settling (trading [] []) (elim (either_way (is_look op n)) [
      | inl l ↦ rw (l, ne_eqb (n / 16) 0 some) refl
      | inr l ↦ rw l refl
    ])

    -- A thread that waits for no readers keeps its ownership.
    pub keeps_settled : has (owning at Pending) owns ≡ false → has (owning at Upgrading) owns ≡ false
        → owns_after_step RwLock at op n owns ≡ owns
    keeps_settled np ng = by_settling (trading [] []) (elim (either_way (is_look op n)) [
      | inl l ↦ dite (ℕ_discrete (n / 16) 0) (λ z. rw (l, eq-eqb (n / 16) 0 z, np, ng) refl)
          (λ nz. rw (l, ne_eqb (n / 16) 0 nz) refl)
      | inr l ↦ rw l refl
    ])

  module _ (o : Owner) (rest : List Ownership) (mine : owns ≡ owning at o ∷ rest) where
    pub has_it : has (owning at o) owns ≡ true
    has_it = subst (λ (l : List Ownership). has (owning at o) l ≡ true) (sym mine) (has_first at o rest)

    left_over : without (owning at o) owns ≡ rest
    left_over = ap (without (owning at o)) mine ∙ first_goes at o rest

    -- a thread that gives it up for another right
    turned : (op : Op) (to : Owner) → rwlock_trade at op n (apply op n) owns ≡ trading (o ∷ []) (to ∷ [])
        → owns_after_step RwLock at op n owns ≡ owning at to ∷ rest
    turned op to e = by_trade op (trading (o ∷ []) (to ∷ [])) e
        ∙ ap (λ (l : List Ownership). owning at to ∷ l) left_over

    given_up : (op : Op) → rwlock_trade at op n (apply op n) owns ≡ trading (o ∷ []) []
        → owns_after_step RwLock at op n owns ≡ rest
    given_up op e = by_trade op (trading (o ∷ []) []) e ∙ left_over

  module _ (rest : List Ownership) where
    -- a thread that waits for the last readers owns alone from the look that finds none left
    pub looks_alone : (op : Op) (o : Owner) → MayHand RwLock wants.Exclusive o → owns ≡ owning at o ∷ rest
        → apply op n / 4 ≡ n / 4 → is_look op n ≡ true → n / 16 ≡ 0 → owns_after_step RwLock at op n owns
        ≡ owning at Exclusive ∷ rest
    looks_alone op o may mine same look none = elim may [
      | inl x ↦ let mine' : owns ≡ owning at Exclusive ∷ rest = mine ∙ ap (λ (w : Owner). owning at w ∷ rest)
          x in let some = there at owns op n (apply op n) code.0 code.1 code.2 Exclusive exclusive refl
          (has_it Exclusive rest mine') in let few = code.1.1 in
          keeps_settled op same (absent at owns op n (apply op n) code.0 code.1 code.2 Pending pending refl
          (omega arith)) (absent at owns op n (apply op n) code.0 code.1 code.2 Upgrading upgrading refl
          (omega arith)) ∙ mine'
      | inr p ↦ let mine' : owns ≡ owning at Pending ∷ rest = mine ∙ ap (λ (w : Owner). owning at w ∷ rest) p
          in let there' = has_it Pending rest mine' in
          turned Pending rest mine' op Exclusive (stays_trade at owns op n (apply op n) code.0 code.1 code.2
          same ∙ rw (look, eq-eqb (n / 16) 0 none, there') refl)
    ]

    pub upgrade_looks_alone : (op : Op) → owns ≡ owning at Upgrading ∷ rest → apply op n / 4 ≡ n / 4
        → is_look op n ≡ true → n / 16 ≡ 0 → owns_after_step RwLock at op n owns ≡ owning at Exclusive ∷ rest
    upgrade_looks_alone op mine same look none = let there' = has_it Upgrading rest mine in let some =
        there at owns op n (apply op n) code.0 code.1 code.2 Upgrading upgrading refl there' in let few =
        code.1.1 in
        let np = absent at owns op n (apply op n) code.0 code.1 code.2 Pending pending refl (omega arith) in
        turned Upgrading rest mine op Exclusive (stays_trade at owns op n (apply op n) code.0 code.1 code.2
        same ∙ rw (look, eq-eqb (n / 16) 0 none, np, there') refl)

    -- a look of an upgradable owner leaves all as it was
    pub upgradable_keeps : (op : Op) → owns ≡ owning at Upgradable ∷ rest → apply op n / 4 ≡ n / 4
        → owns_after_step RwLock at op n owns ≡ owns
    upgradable_keeps op mine same = let some = there at owns op n (apply op n) code.0 code.1 code.2 Upgradable
        upgradable refl (has_it Upgradable rest mine) in let few = code.1.1 in
        keeps_settled op same (absent at owns op n (apply op n) code.0 code.1 code.2 Pending pending refl
        (omega arith)) (absent at owns op n (apply op n) code.0 code.1 code.2 Upgrading upgrading refl
        (omega arith))

    -- how a right is given up, or turned into another
    pub shared_is_left : owns ≡ owning at Shared ∷ rest → owns_after_step RwLock at (Sub 16) n owns ≡ rest
    shared_is_left mine = let some = there at owns (Sub 16) n (apply (Sub 16) n) code.0 code.1 code.2 Shared
        shared refl (has_it Shared rest mine) in let c₀ = code.1.0 in let small = fits in
        given_up Shared rest mine (Sub 16) (shared_trade at owns (Sub 16) n (apply (Sub 16) n) code.0 code.1
        code.2 (has_it Shared rest mine) (omega arith))

    pub exclusive_turns : (op : Op) (gets : List Owner) → owns ≡ owning at Exclusive ∷ rest → apply op n / 4
        ≢ n / 4 → owners_in (apply op n / 4) op (apply op n) ≡ gets → rwlock_trade at op n (apply op n) owns
        ≡ trading (Exclusive ∷ []) gets
    exclusive_turns op gets mine other e = exclusive_trade at owns op n (apply op n) code.0 code.1 code.2
        (has_it Exclusive rest mine) other ∙ ap (λ (l : List Owner). trading (Exclusive ∷ []) l) e

    -- an exclusive owner finds its own bit alone, beside parked bits
    finds_writer : owns ≡ owning at Exclusive ∷ rest → n / 4 ≡ 2
    finds_writer mine = let some = there at owns (Sub 8) n (apply (Sub 8) n) code.0 code.1 code.2 Exclusive
        exclusive refl (has_it Exclusive rest mine) in let c₀ = code.1.0 in let few = code.1.1 in let none =
        code.1.2 some in omega arith

    pub exclusive_is_left : owns ≡ owning at Exclusive ∷ rest → owns_after_step RwLock at (Sub 8) n owns
        ≡ rest
    exclusive_is_left mine = let found = finds_writer mine in let small = fits
        in let left : apply (Sub 8) n / 4 ≡ 0 = omega arith in
        given_up Exclusive rest mine (Sub 8) (exclusive_turns (Sub 8) [] mine (omega arith)
        (ap (λ (k : ℕ). owners_in k (Sub 8) (apply (Sub 8) n)) left))

    pub downgraded : owns ≡ owning at Exclusive ∷ rest → owns_after_step RwLock at (Add 8) n owns
        ≡ owning at Shared ∷ rest
    downgraded mine = let found = finds_writer mine in let small = fits in let left : apply (Add 8) n / 4
        ≡ 4 = omega arith in
        turned Exclusive rest mine (Add 8) Shared (exclusive_turns (Add 8) (Shared ∷ []) mine (omega arith)
        (ap (λ (k : ℕ). owners_in k (Add 8) (apply (Add 8) n)) left))

    pub downgraded_to_upgradable : owns ≡ owning at Exclusive ∷ rest → owns_after_step RwLock at (Add 12) n
        owns ≡ owning at Upgradable ∷ rest
    downgraded_to_upgradable mine = let found = finds_writer mine in let small = fits
        in let left : apply (Add 12) n / 4 ≡ 5 = omega arith in
        turned Exclusive rest mine (Add 12) Upgradable (exclusive_turns (Add 12) (Upgradable ∷ []) mine
        (omega arith) (ap (λ (k : ℕ). owners_in k (Add 12) (apply (Add 12) n)) left))

    -- an upgradable owner is a reader, with its own bit
    finds_upgradable : owns ≡ owning at Upgradable ∷ rest → (n / 4 % 4 ≡ 1) × (0 < n / 16)
    finds_upgradable mine = let some = there at owns (Sub 20) n (apply (Sub 20) n) code.0 code.1 code.2
        Upgradable upgradable refl (has_it Upgradable rest mine) in let c₀ = code.1.0 in let few = code.1.1
        in (omega arith, omega arith)

    upgradable_turns : (op : Op) (part : ℕ) → owns ≡ owning at Upgradable ∷ rest → apply op n / 4 + 5 ≡ n / 4
        + part → part < 5 → part ≢ 1 → rwlock_trade at op n (apply op n) owns ≡ trading (Upgradable ∷ [])
        (owners_in part op (apply op n))
    upgradable_turns op part mine e few not_one = upgradable_trade at owns op n (apply op n) code.0 code.1
        code.2 part (has_it Upgradable rest mine) e not_one (λ z. absurd (omega arith))
        (λ z. absurd (omega arith)) (λ z. absurd (omega arith))

    pub upgradable_is_left : owns ≡ owning at Upgradable ∷ rest → owns_after_step RwLock at (Sub 20) n owns
        ≡ rest
    upgradable_is_left mine = let found = finds_upgradable mine in let small = fits
        in given_up Upgradable rest mine (Sub 20) (upgradable_turns (Sub 20) 0 mine (omega arith)
        (omega arith) (λ e. absurd (omega arith)))

    pub upgradable_downgraded : owns ≡ owning at Upgradable ∷ rest → owns_after_step RwLock at (Sub 4) n owns
        ≡ owning at Shared ∷ rest
    upgradable_downgraded mine = let found = finds_upgradable mine in let small = fits
        in turned Upgradable rest mine (Sub 4) Shared (upgradable_turns (Sub 4) 4 mine (omega arith)
        (omega arith) (λ e. absurd (omega arith)))

    -- an upgrade owns alone where it is the only reader, and waits else
    pub upgraded_alone : owns ≡ owning at Upgradable ∷ rest → n / 16 ≡ 1 → owns_after_step RwLock at (Sub 12)
        n owns ≡ owning at Exclusive ∷ rest
    upgraded_alone mine one = let found = finds_upgradable mine in let small = fits
        in let none : apply (Sub 12) n / 16 ≡ 0 = omega arith in
        turned Upgradable rest mine (Sub 12) Exclusive (upgradable_turns (Sub 12) 2 mine (omega arith)
        (omega arith) (λ e. absurd (omega arith)) ∙ rw (eq-eqb (apply (Sub 12) n / 16) 0 none) refl)

    pub upgraded_beside : owns ≡ owning at Upgradable ∷ rest → n / 16 ≢ 1 → owns_after_step RwLock at (Sub 12)
        n owns ≡ owning at Upgrading ∷ rest
    upgraded_beside mine more = let found = finds_upgradable mine in let small = fits
        in let some : apply (Sub 12) n / 16 ≢ 0 = λ z. more (omega arith) in
        turned Upgradable rest mine (Sub 12) Upgrading (upgradable_turns (Sub 12) 2 mine (omega arith)
        (omega arith) (λ e. absurd (omega arith)) ∙ rw (ne_eqb (apply (Sub 12) n / 16) 0 some) refl)

    -- how a thread that waited falls back
    pub fallen_back : owns ≡ owning at Upgrading ∷ rest → owns_after_step RwLock at (Add 12) n owns
        ≡ owning at Upgradable ∷ rest
    fallen_back mine = let some = there at owns (Add 12) n (apply (Add 12) n) code.0 code.1 code.2 Upgrading
        upgrading refl (has_it Upgrading rest mine) in let c₀ = code.1.0 in let few = code.1.1 in let room =
        code.1.3 in
        turned Upgrading rest mine (Add 12) Upgradable (falls_back_trade at owns (Add 12) n (apply (Add 12) n)
        code.0 code.1 code.2 (has_it Upgrading rest mine) (omega arith))

    pub pending_is_left : (o : Owner) → MayHand RwLock wants.Exclusive o → owns ≡ owning at o ∷ rest
        → owns_after_step RwLock at (Sub 8) n owns ≡ rest
    pending_is_left o may mine = elim may [
      | inl x ↦ exclusive_is_left (mine ∙ ap (λ (w : Owner). owning at w ∷ rest) x)
      | inr p ↦ let mine' : owns ≡ owning at Pending ∷ rest = mine ∙ ap (λ (w : Owner). owning at w ∷ rest) p
          in
          let some = there at owns (Sub 8) n (apply (Sub 8) n) code.0 code.1 code.2 Pending pending refl
          (has_it Pending rest mine') in let c₀ = code.1.0 in let few = code.1.1 in let small = fits in
          given_up Pending rest mine' (Sub 8) (gives_up_trade at owns (Sub 8) n (apply (Sub 8) n) code.0
          code.1 code.2 (has_it Pending rest mine') (omega arith))
    ]

  -- ---------------------------------------------------------------- exchanges of the value that is there

  exchanged : (to : ℕ) → apply (Exchange n to) n ≡ to
  exchanged to = rw (eq-eqb n n refl) refl

  entered : (to : ℕ) (o : Owner) → rwlock_trade at (Exchange n to) n to owns ≡ trading [] (o ∷ [])
      → owns_after_step RwLock at (Exchange n to) n owns ≡ owning at o ∷ owns
  entered to o e = by_trade (Exchange n to) (trading [] (o ∷ []))
      (ap (λ (m : ℕ). rwlock_trade at (Exchange n to) n m owns) (exchanged to) ∙ e)

  pub read : (n / 8 % 2 ≡ 0) ⊎ (0 < n / 16) → owns_after_step RwLock at (Exchange n (n + 16)) n owns
      ≡ owning at Shared ∷ owns
  read free = let c₀ = code.1.0 in let few = code.1.1 in
      entered (n + 16) Shared (reads_trade at owns (Exchange n (n + 16)) n (n + 16) code.0 code.1 code.2
      (omega arith)
      (dite (ℕ_discrete (code.0 exclusive) 0) (λ z. z) (λ nz. let none = code.1.2 (omega arith)
      in elim free [ inl f ↦ absurd (omega arith) | inr f ↦ absurd (omega arith) ])))

  pub read_upgradable : n / 4 % 4 ≡ 0 → owns_after_step RwLock at (Exchange n (n + 20)) n owns
      ≡ owning at Upgradable ∷ owns
  read_upgradable free = entered (n + 20) Upgradable (upgradable_enters_trade at owns (Exchange n (n + 20)) n
      (n + 20) code.0 code.1 code.2 (omega arith) free)

  -- a writer owns alone at once, or waits for the readers that are left
  pub writer_comes : n / 4 % 4 ≡ 0 → owns_after_step RwLock at (Exchange n (n + 8)) n owns ≡ owning at
      (cond (eqb n 0) Exclusive Pending) ∷ owns
  writer_comes free = entered (n + 8) (cond (eqb n 0) Exclusive Pending) (writes_trade at owns
      (Exchange n (n + 8)) n (n + 8) code.0 code.1 code.2 (omega arith) free)

  pub tried_upgrade : (rest : List Ownership) → owns ≡ owning at Upgradable ∷ rest → n / 16 ≡ 1
      → owns_after_step RwLock at (Exchange n (n - 12)) n owns ≡ owning at Exclusive ∷ rest
  tried_upgrade rest mine one = let found = finds_upgradable rest mine in let none : (n - 12) / 16 ≡ 0 =
      omega arith in
      turned Upgradable rest mine (Exchange n (n - 12)) Exclusive
      (ap (λ (m : ℕ). rwlock_trade at (Exchange n (n - 12)) n m owns) (exchanged (n - 12))
      ∙ upgradable_trade at owns (Exchange n (n - 12)) n (n - 12) code.0 code.1 code.2 2
      (has_it Upgradable rest mine) (omega arith) (λ e. absurd (omega arith)) (λ e. absurd (omega arith))
      (λ e. absurd (omega arith)) (λ e. absurd (omega arith)) ∙ rw (eq-eqb ((n - 12) / 16) 0 none) refl)
