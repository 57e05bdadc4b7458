-- The effect of a trade on a list of ownerships, by any weight of these.
use Rattle.std.proofs.Common.{◌≡◌, ◌≢◌, ℕ, ◌+◌, List, [], ◌∷◌, map, Bool, true, false, cond}
use Rattle.std.proofs.Common.{eqb, ◌&&◌, ◌||◌, refl, sym, ap, ◌∙◌, arith, ◌<◌, eq-eqb}
use Rattle.std.proofs.lemmas.Bool.{eqb-true, false≢true}
use Rattle.core_words.specs.Views.{total, owned, owning, counted}
use Rattle.core_words.specs.Steps.{Trade, owner_rank, is_this, has, without, HasAll, without_all, owns_after}
use Rattle.core_words.specs.declared.owners.Owner.{Owner}
use Rattle.core_words.specs.declared.owners.Owner.TheVariants.{Exclusive, Pending, Upgrading, Upgradable}
use Rattle.core_words.specs.declared.owners.Owner.TheVariants.{Shared, Runner, Witness}
use Rattle.core_words.specs.declared.owners.Ownership.{Ownership}
use Rattle.core_words.proofs.Totals.{total-append, total-map, total-same, total-none, cond_same, cond_other}

owner_of : ℕ → Owner
owner_of r = cond (eqb r 0) Exclusive (cond (eqb r 1) Pending
    (cond (eqb r 2) Upgradable (cond (eqb r 3) Shared (cond (eqb r 4) Runner
    (cond (eqb r 5) Witness Upgrading)))))

owner_of-rank : (o : Owner) → owner_of (owner_rank o) ≡ o
unfolding owner_of
owner_of-rank Exclusive = refl
owner_of-rank Pending = refl
owner_of-rank Upgradable = refl
owner_of-rank Shared = refl
owner_of-rank Runner = refl
owner_of-rank Witness = refl
owner_of-rank Upgrading = refl

both : (a b : Bool) → (a && b) ≡ true → (a ≡ true) × (b ≡ true)
both true b e = (refl, e)
both false b e = absurd (false≢true e)

pub this_is : (x y : Ownership) → is_this x y ≡ true → x ≡ y
this_is x y e = let t = both (eqb x.at y.at) (eqb (owner_rank x.owner) (owner_rank y.owner) && eqb x.count
    y.count) e in
    let u = both (eqb (owner_rank x.owner) (owner_rank y.owner)) (eqb x.count y.count) t.1 in
    let at = eqb-true x.at y.at t.0 in let count = eqb-true x.count y.count u.1 in
    let owner : x.owner ≡ y.owner = sym (owner_of-rank x.owner)
    ∙ ap owner_of (eqb-true (owner_rank x.owner) (owner_rank y.owner) u.0) ∙ owner_of-rank y.owner in
    λ k. record { at = at k; owner = owner k; count = count k }

module _ (weight : Ownership → ℕ) where
  pub total-without : (x : Ownership) (owns : List Ownership) → has x owns ≡ true
      → total weight (without x owns) + weight x ≡ total weight owns
  total-without x [] e = absurd (false≢true e)
  total-without x (y ∷ ys) e =
      let Goal : Bool → Type 0 = λ b. is_this y x ≡ b → (b || has x ys) ≡ true
      → total weight (cond b ys (y ∷ without x ys)) + weight x ≡ weight y + total weight ys in
      let at_true : Goal true = λ e₁ h. omega (arith, ap weight (this_is y x e₁)) in
      let at_false : Goal false = λ e₁ h. omega (arith, total-without x ys h) in
      (elim (is_this y x) as Goal [ true ↦ at_true | false ↦ at_false ]) refl e

  total-without_all : (at : ℕ) (os : List Owner) (owns : List Ownership) → HasAll at os owns
      → total weight (without_all at os owns) + total (λ o. weight (owning at o)) os ≡ total weight owns
  total-without_all at [] owns h = omega arith
  total-without_all at (o ∷ os) owns h = omega (
    arith,
    total-without (owning at o) owns h.0,
    total-without_all at os (without (owning at o) owns) h.1,
  )

  traded : (at : ℕ) (t : Trade) (owns : List Ownership) → HasAll at t.gives owns
      → total weight (owns_after at t owns) + total (λ o. weight (owning at o)) t.gives ≡ total weight owns
      + total (λ o. weight (owning at o)) t.gets
  traded at t owns h = omega (
    arith,
    total-append weight (map (owning at) t.gets)
        (without_all at t.gives owns),
    total-map weight (owning at) t.gets,
    total-without_all at t.gives owns h,
  )

-- at the word itself, by a weight of owners
pub traded_here : (at : ℕ) (t : Trade) (owns : List Ownership) → HasAll at t.gives owns → (weight : Owner → ℕ)
    → owned at weight (owns_after at t owns) + total weight t.gives ≡ owned at weight owns + total weight
    t.gets
traded_here at t owns h weight = let f = λ (x : Ownership). cond (eqb x.at at) (weight x.owner) 0 in
    let same : (os : List Owner) → total (λ o. f (owning at o)) os ≡ total weight os = λ os. total-same
    (λ (o : Owner). f (owning at o)) weight os (λ o. cond_same at at (weight o) refl) in
    omega (arith, traded f at t owns h, same t.gives, same t.gets)

-- at any other word nothing changes
pub traded_elsewhere : (at : ℕ) (t : Trade) (owns : List Ownership) → HasAll at t.gives owns → (r : ℕ)
    → r ≢ at → (weight : Owner → ℕ) → owned r weight (owns_after at t owns) ≡ owned r weight owns
traded_elsewhere at t owns h r ne weight = let f = λ (x : Ownership). cond (eqb x.at r) (weight x.owner) 0 in
    let none : (os : List Owner) → total (λ o. f (owning at o)) os ≡ 0 = λ os. total-none
    (λ (o : Owner). f (owning at o)) os (λ o. cond_other at r (weight o) (λ e. ne (sym e))) in
    omega (arith, traded f at t owns h, none t.gives, none t.gets)

pub zero_either : (b : Bool) → cond {A = ℕ} b 0 0 ≡ 0
zero_either true = refl
zero_either false = refl

-- nor does what is said of count words
pub traded_counts : (at : ℕ) (t : Trade) (owns : List Ownership) → HasAll at t.gives owns → (r : ℕ)
    → counted r (owns_after at t owns) ≡ counted r owns
traded_counts at t owns h r = let f = λ (x : Ownership). cond (eqb x.at r) x.count 0 in
    let none : (os : List Owner) → total (λ o. f (owning at o)) os ≡ 0 = λ os. total-none
    (λ (o : Owner). f (owning at o)) os (λ o. zero_either (eqb at r)) in
    omega (arith, traded f at t owns h, none t.gives, none t.gets)

-- a thread that has an ownership has some of the word, by each weight in which it counts
pub owned_some : (at : ℕ) (o : Owner) (owns : List Ownership) → has (owning at o) owns ≡ true
    → (weight : Owner → ℕ) → 0 < weight o → 0 < owned at weight owns
owned_some at o owns there weight some =
    omega (
      arith,
      total-without (λ (x : Ownership). cond (eqb x.at at) (weight x.owner) 0) (owning at o) owns
          there,
      cond_same at at (weight o) refl,
    )

-- each ownership is this one
pub is_itself : (x : Ownership) → is_this x x ≡ true
is_itself x = ap (λ b. b && (eqb (owner_rank x.owner) (owner_rank x.owner) && eqb x.count x.count))
    (eq-eqb x.at x.at refl)
    ∙ ap (λ b. b && eqb x.count x.count) (eq-eqb (owner_rank x.owner) (owner_rank x.owner) refl)
    ∙ eq-eqb x.count x.count refl

-- the rest of a list without its beginning
pub without_first : (x : Ownership) (owns : List Ownership) → without x (x ∷ owns) ≡ owns
without_first x owns = ap (λ b. cond b owns (x ∷ without x owns)) (is_itself x)

pub has_first : (x : Ownership) (owns : List Ownership) → has x (x ∷ owns) ≡ true
has_first x owns = ap (λ b. b || has x owns) (is_itself x)
