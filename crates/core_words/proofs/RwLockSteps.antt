-- The kinds of step on a reader-writer lock's word: what each trades keeps the code.
use Rattle.std.proofs.Common.{◌≡◌, ℕ, zero, suc, ◌+◌, ◌-◌, ◌*◌, ◌/◌, ◌%◌, ◌^◌, ◌<◌, ◌≤◌, ◌⊎◌, inl, inr, List}
use Rattle.std.proofs.Common.{[], ◌∷◌, Bool, true, false, cond, eqb, sym, refl, ◌∙◌, subst, arith, eq-eqb}
use Rattle.std.proofs.Common.{ne_eqb, ◌≢◌}
use mathlib.Core.Logic.{dite}
use native.Mathlib.Decide.{ℕ_discrete}
use Rattle.core_base.specs.declared.ops.Op.{Op}
use Rattle.core_base.specs.declared.ops.Op.TheVariants.{Sub}
use Rattle.core_words.specs.Views.{total, owned, owning}
use Rattle.core_words.specs.Codes.{Owners, IsRwLockCode, exclusive, pending, upgrading, upgradable, shared}
use Rattle.core_words.specs.Steps.{Trade, trading, has, HasAll, is_look, waits_by, writer_in, so_many_shared}
use Rattle.core_words.specs.Steps.{owners_in, settles, rwlock_trade}
use Rattle.core_words.specs.declared.owners.Owner.{Owner}
use Rattle.core_words.specs.declared.owners.Owner.TheVariants.{Exclusive, Pending, Upgrading, Upgradable}
use Rattle.core_words.specs.declared.owners.Owner.TheVariants.{Shared}
use Rattle.core_words.specs.declared.owners.Ownership.{Ownership}
use Rattle.core_words.proofs.Trades.{owned_some}

is_false : (b : Bool) → (b ≡ true → ⊥) → b ≡ false
is_false true h = absurd (h refl)
is_false false h = refl

pub either_way : (b : Bool) → (b ≡ true) ⊎ (b ≡ false)
either_way true = inl refl
either_way false = inr refl

many_of : (weight : Owner → ℕ) → weight Shared ≡ 1 → (n : ℕ) → total weight (so_many_shared n) ≡ n
many_of weight one zero = refl
many_of weight one (suc n) = omega (arith, many_of weight one n)

none_of : (weight : Owner → ℕ) → weight Shared ≡ 0 → (n : ℕ) → total weight (so_many_shared n) ≡ 0
none_of weight none zero = refl
none_of weight none (suc n) = omega (arith, none_of weight none n)

-- the five sorts of owner in a list
record Sorts (os : List Owner) (s u x p g : ℕ) : Type 0 where
  in_shared : total shared os ≡ s
  in_upgradable : total upgradable os ≡ u
  in_exclusive : total exclusive os ≡ x
  in_pending : total pending os ≡ p
  in_upgrading : total upgrading os ≡ g

only_shared : (k : ℕ) → Sorts (so_many_shared k) k 0 0 0 0
only_shared k = record {
  in_shared = many_of shared refl k;
  in_upgradable = none_of upgradable refl k;
  in_exclusive = none_of exclusive refl k;
  in_pending = none_of pending refl k;
  in_upgrading = none_of upgrading refl k;
}

-- tells what so many quarters stand for
pub record Parts (part left : ℕ) (op : Op) (os : List Owner) : Type 0 where
  pub sum : part ≡ 4 * (total shared os + total upgradable os) + 2 * (total exclusive os + total pending os
      + total upgrading os) + total upgradable os
  pub one : total exclusive os + total pending os + total upgrading os + total upgradable os ≤ 1
  pub alone : 0 < total exclusive os → left / 16 ≡ 0
  pub waits : waits_by op ≡ Pending → total upgrading os ≡ 0

parts_of_writer : (part left k : ℕ) (op : Op) → part ≡ 4 * k + 2 → (w : Owner) → waits_by op ≡ w
    → (w ≡ Pending) ⊎ (w ≡ Upgrading) → Parts part left op (cond (eqb (left / 16) 0) Exclusive w
    ∷ so_many_shared k)
parts_of_writer part left k op e w is which = let o = only_shared k in dite (ℕ_discrete (left / 16) 0)
    (λ z. subst (λ b. Parts part left op (cond b Exclusive w ∷ so_many_shared k))
    (sym (eq-eqb (left / 16) 0 z)) (record {
      sum = omega arith;
      one = omega arith;
      alone = λ h. z;
      waits = λ h. omega arith;
    }))
    (λ nz. subst (λ b. Parts part left op (cond b Exclusive w ∷ so_many_shared k))
    (sym (ne_eqb (left / 16) 0 nz)) (elim which [
      | inl p ↦ subst (λ (w : Owner). Parts part left op (w ∷ so_many_shared k)) (sym p) (record {
        sum = omega arith;
        one = omega arith;
        alone = λ h. absurd (omega arith);
        waits = λ h. omega arith;
      })
      | inr g ↦ subst (λ (w : Owner). Parts part left op (w ∷ so_many_shared k)) (sym g) (record {
        sum = omega arith;
        one = omega arith;
        alone = λ h. absurd (omega arith);
        waits = λ h. absurd (differ (sym h ∙ is ∙ g));
      })
    ]))
  where
    differ : Pending ≡ Upgrading → ⊥
    differ e = cc

waits_which : (op : Op) → (waits_by op ≡ Pending) ⊎ (waits_by op ≡ Upgrading)
waits_which (Sub by) = inr refl
waits_which op = inl refl

pub parts : (part left : ℕ) (op : Op) → part % 4 ≤ 2 → part ≢ 1 → Parts part left op (owners_in part op left)
parts part left op small not_one = dite (ℕ_discrete (part % 4) 2)
    (λ two. subst (λ b. Parts part left op (cond b (writer_in op left ∷ so_many_shared (part / 4))
    (cond (eqb (part % 4) 1) (Upgradable ∷ so_many_shared (part / 4 - 1)) (so_many_shared (part / 4)))))
    (sym (eq-eqb (part % 4) 2 two))
    (parts_of_writer part left (part / 4) op (omega arith) (waits_by op) refl (waits_which op)))
    (λ nt. subst (λ b. Parts part left op (cond b (writer_in op left ∷ so_many_shared (part / 4))
    (cond (eqb (part % 4) 1) (Upgradable ∷ so_many_shared (part / 4 - 1)) (so_many_shared (part / 4)))))
    (sym (ne_eqb (part % 4) 2 nt)) (dite (ℕ_discrete (part % 4) 1)
    (λ one. let o = only_shared (part / 4 - 1)
    in subst (λ b. Parts part left op (cond b (Upgradable ∷ so_many_shared (part / 4 - 1))
    (so_many_shared (part / 4)))) (sym (eq-eqb (part % 4) 1 one)) (record {
      sum = omega arith;
      one = omega arith;
      alone = λ h. absurd (omega arith);
      waits = λ h. omega arith;
    }))
    (λ ne. let o = only_shared (part / 4)
    in subst (λ b. Parts part left op (cond b (Upgradable ∷ so_many_shared (part / 4 - 1))
    (so_many_shared (part / 4)))) (sym (ne_eqb (part % 4) 1 ne)) (record {
      sum = omega arith;
      one = omega arith;
      alone = λ h. absurd (omega arith);
      waits = λ h. omega arith;
    }))))

module _ (at : ℕ) (owns : List Ownership) (op : Op) (n m : ℕ) (owners : Owners) (code : IsRwLockCode n owners)
    (mine : (weight : Owner → ℕ) → owned at weight owns ≤ owners weight) where
  -- tells what a trade has to meet
  abbrev Keeps : Trade → Type 0
  Keeps t = HasAll at t.gives owns
      × ((after : Owners) → ((weight : Owner → ℕ) → after weight + total weight t.gives ≡ owners weight
      + total weight t.gets) → IsRwLockCode m after) × Unit {0}

  abbrev pub Trades : Type 0
  Trades = Keeps (rwlock_trade at op n m owns)

  -- the value left is a code, by the owners of each sort that are given up and got
  keeps : (t : Trade) → HasAll at t.gives owns
      → m / 4 + (4 * (total shared t.gives + total upgradable t.gives) + 2 * (total exclusive t.gives
      + total pending t.gives + total upgrading t.gives) + total upgradable t.gives)
      ≡ n / 4 + (4 * (total shared t.gets + total upgradable t.gets) + 2 * (total exclusive t.gets
      + total pending t.gets + total upgrading t.gets) + total upgradable t.gets)
      → owners exclusive + owners pending + owners upgrading + owners upgradable
      + (total exclusive t.gets + total pending t.gets + total upgrading t.gets + total upgradable t.gets)
      ≤ 1 + (total exclusive t.gives + total pending t.gives + total upgrading t.gives + total upgradable
      t.gives)
      → (total exclusive t.gives < owners exclusive + total exclusive t.gets → owners shared
      + total shared t.gets ≡ total shared t.gives)
      → owners shared + owners upgradable + owners upgrading + (total shared t.gets + total upgradable t.gets
      + total upgrading t.gets)
      < 2 ^ 60 + (total shared t.gives + total upgradable t.gives + total upgrading t.gives)
      → Keeps t
  keeps t given quarters one alone few = let code₀ = code.0 in (
    given,
    (λ after same. (
      omega (arith, same shared, same upgradable, same exclusive, same pending, same upgrading),
      omega (arith, same upgradable, same exclusive, same pending, same upgrading),
      (λ some. omega (arith, same shared, alone (omega (arith, same exclusive)))),
      omega (arith, same shared, same upgradable, same upgrading),
    )),
    tt,
  )

  -- a thread that has an ownership is among the owners
  pub there : (o : Owner) (weight : Owner → ℕ) → weight o ≡ 1 → has (owning at o) owns ≡ true
      → 0 < owners weight
  there o weight one h = omega (arith, mine weight, owned_some at o owns h weight (omega arith))

  pub absent : (o : Owner) (weight : Owner → ℕ) → weight o ≡ 1 → owners weight ≡ 0 → has (owning at o) owns
      ≡ false
  absent o weight one none = is_false (has (owning at o) owns)
      (λ h. absurd (omega (arith, there o weight one h)))

  -- the word keeps its quarters: a thread that waits for the last readers may settle
  pub stays_trade : m / 4 ≡ n / 4 → rwlock_trade at op n m owns ≡ settles at op n owns
  stays_trade same = rw (eq-eqb (m / 4) (n / 4) same)

  pub stays : m / 4 ≡ n / 4 → Trades
  stays same = let code₁ = code.1 in let code₂ = code.2 in let code₃ = code.3 in
      let nothing : Keeps (trading [] []) = keeps (trading [] []) tt (omega arith) (omega arith)
      (λ h. omega (arith, code₂ (omega arith))) (omega arith) in
      let settled : (o : Owner) → has (owning at o) owns ≡ true → n / 16 ≡ 0 → (o ≡ Pending) ⊎ (o ≡ Upgrading)
      → Keeps (trading (o ∷ []) (Exclusive ∷ [])) = λ o h z which. elim which [
        | inl p ↦ subst (λ (w : Owner). Keeps (trading (w ∷ []) (Exclusive ∷ []))) (sym p)
            (let h' : has (owning at Pending) owns ≡ true =
            subst (λ (w : Owner). has (owning at w) owns ≡ true) p h in let some =
            there Pending pending refl h' in
            let code₀ = code.0 in keeps (trading (Pending ∷ []) (Exclusive ∷ [])) (h', tt) (omega arith)
            (omega arith) (λ _. omega arith) (omega arith))
        | inr g ↦ subst (λ (w : Owner). Keeps (trading (w ∷ []) (Exclusive ∷ []))) (sym g)
            (let h' : has (owning at Upgrading) owns ≡ true =
            subst (λ (w : Owner). has (owning at w) owns ≡ true) g h in let some =
            there Upgrading upgrading refl h' in
            let code₀ = code.0 in keeps (trading (Upgrading ∷ []) (Exclusive ∷ [])) (h', tt) (omega arith)
            (omega arith) (λ _. omega arith) (omega arith))
      ] in
      subst Keeps (sym (stays_trade same)) (elim (either_way (is_look op n)) [
        | inr l ↦ rw l nothing
        | inl l ↦ rw l (dite (ℕ_discrete (n / 16) 0)
            (λ z. rw (eq-eqb (n / 16) 0 z) (elim (either_way (has (owning at Pending) owns)) [
              | inl p ↦ rw p (settled Pending p z (inl refl))
              | inr np ↦ rw np (elim (either_way (has (owning at Upgrading) owns)) [
                | inl g ↦ rw g (settled Upgrading g z (inr refl))
                | inr ng ↦ rw ng nothing
              ])
            ]))
            (λ nz. rw (ne_eqb (n / 16) 0 nz) nothing))
      ])

  -- an owner alone gives that up for all that the word then stands for
  pub exclusive_trade : has (owning at Exclusive) owns ≡ true → m / 4 ≢ n / 4 → rwlock_trade at op n m owns
      ≡ trading (Exclusive ∷ []) (owners_in (m / 4) op m)
  exclusive_trade x other = let some = there Exclusive exclusive refl x in let code₀ = code.0 in let code₁ =
      code.1 in let code₂ = code.2 some in
      let e : m / 4 + 2 - n / 4 ≡ m / 4 = omega arith in rw (ne_eqb (m / 4) (n / 4) other, x, e)

  pub exclusive_gives : has (owning at Exclusive) owns ≡ true → m / 4 ≢ n / 4 → m < 2 ^ 64 → m / 4 % 4 ≤ 2
      → m / 4 ≢ 1 → (m / 4 ≤ 5) ⊎ (waits_by op ≡ Pending) → Trades
  exclusive_gives x other fits small not_one room = let some = there Exclusive exclusive refl x in let code₀ =
      code.0 in let code₁ = code.1 in let code₂ = code.2 some in
      let q = parts (m / 4) m op small not_one in let sum = q.sum in let one = q.one in
      let bound : total shared (owners_in (m / 4) op m) + total upgradable (owners_in (m / 4) op m)
      + total upgrading (owners_in (m / 4) op m) < 2 ^ 60 = elim room [
        | inl few ↦ omega arith
        | inr w ↦
            omega (arith, q.waits w)
      ] in
      subst Keeps (sym (exclusive_trade x other)) (keeps (trading (Exclusive ∷ []) (owners_in (m / 4) op m))
      (x, tt) (omega arith) (omega arith) (λ h. omega (arith, q.alone (omega arith))) (omega arith))

  -- a shared owner leaves
  pub shared_trade : has (owning at Shared) owns ≡ true → m / 4 + 4 ≡ n / 4 → rwlock_trade at op n m owns
      ≡ trading (Shared ∷ []) []
  shared_trade s e = let some = there Shared shared refl s in let code₂ = code.2 in
      let nx = absent Exclusive exclusive refl (dite (ℕ_discrete (owners exclusive) 0) (λ z. z)
      (λ nz. absurd (omega (arith, code₂ (omega arith))))) in
      rw (ne_eqb (m / 4) (n / 4) (λ z. omega arith), nx, eq-eqb (m / 4 + 4) (n / 4) e)

  pub shared_leaves : has (owning at Shared) owns ≡ true → m / 4 + 4 ≡ n / 4 → Trades
  shared_leaves s e = let some = there Shared shared refl s in let code₁ = code.1 in let code₂ = code.2
      in let code₃ = code.3 in
      subst Keeps (sym (shared_trade s e)) (keeps (trading (Shared ∷ []) []) (s, tt) (omega arith)
      (omega arith) (λ h. omega (arith, code₂ (omega arith))) (omega arith))

  -- a writer enters a word without owners, or waits for its last readers
  pub writes_trade : m / 4 ≡ n / 4 + 2 → n / 4 % 4 ≡ 0 → rwlock_trade at op n m owns ≡ trading []
      (cond (eqb n 0) Exclusive Pending ∷ [])
  writes_trade e free = let code₀ = code.0 in let code₁ = code.1 in let nx =
      absent Exclusive exclusive refl (omega arith) in
      rw (
        ne_eqb (m / 4) (n / 4) (λ z. omega arith),
        nx,
        ne_eqb (m / 4 + 4) (n / 4) (λ z. omega arith),
        eq-eqb (m / 4) (n / 4 + 2) e,
      )

  pub writes : m / 4 ≡ n / 4 + 2 → n / 4 % 4 ≡ 0 → Trades
  writes e free = let code₀ = code.0 in let code₁ = code.1 in let code₃ = code.3
      in subst Keeps (sym (writes_trade e free)) (dite (ℕ_discrete n 0)
      (λ z. rw (eq-eqb n 0 z) (keeps (trading [] (Exclusive ∷ [])) tt (omega arith) (omega arith)
      (λ h. omega arith) (omega arith)))
      (λ nz. rw (ne_eqb n 0 nz) (keeps (trading [] (Pending ∷ [])) tt (omega arith) (omega arith)
      (λ h. absurd (omega arith)) (omega arith))))

  -- a shared owner enters, also beside a thread that waits
  pub reads_trade : m / 4 ≡ n / 4 + 4 → owners exclusive ≡ 0 → rwlock_trade at op n m owns ≡ trading []
      (Shared ∷ [])
  reads_trade e none = let nx = absent Exclusive exclusive refl none in
      rw (
        ne_eqb (m / 4) (n / 4) (λ z. omega arith),
        nx,
        ne_eqb (m / 4 + 4) (n / 4) (λ z. omega arith),
        ne_eqb (m / 4) (n / 4 + 2) (λ z. omega arith),
        eq-eqb (m / 4) (n / 4 + 4) e,
      )

  pub reads : m / 4 ≡ n / 4 + 4 → owners exclusive ≡ 0 → owners shared + owners upgradable + owners upgrading
      + 1 < 2 ^ 60 → Trades
  reads e none room = let code₁ = code.1 in
      subst Keeps (sym (reads_trade e none)) (keeps (trading [] (Shared ∷ [])) tt (omega arith) (omega arith)
      (λ h. absurd (omega arith)) (omega arith))

  -- an upgradable owner gives that up for so many quarters
  pub upgradable_trade : (part : ℕ) → has (owning at Upgradable) owns ≡ true → m / 4 + 5 ≡ n / 4 + part
      → part ≢ 1 → part ≢ 5 → part ≢ 7 → part ≢ 9 → rwlock_trade at op n m owns ≡ trading (Upgradable ∷ [])
      (owners_in part op m)
  upgradable_trade part u e not_one not_five not_seven not_nine = let some =
      there Upgradable upgradable refl u in let code₁ = code.1 in
      let nx = absent Exclusive exclusive refl (omega arith) in let is : m / 4 + 5 - n / 4 ≡ part =
      omega arith in
      rw (
        ne_eqb (m / 4) (n / 4) (λ z. omega arith),
        nx,
        ne_eqb (m / 4 + 4) (n / 4) (λ z. omega arith),
        ne_eqb (m / 4) (n / 4 + 2) (λ z. omega arith),
        ne_eqb (m / 4) (n / 4 + 4) (λ z. omega arith),
        u,
        is,
      )

  pub upgradable_gives : (part : ℕ) → has (owning at Upgradable) owns ≡ true → m / 4 + 5 ≡ n / 4 + part
      → m < 2 ^ 64 → part % 4 ≤ 2 → part ≢ 1 → part ≢ 5 → part ≢ 9 → (part ≤ 4) ⊎ (waits_by op ≡ Pending)
      → Trades
  upgradable_gives part u e fits small not_one not_five not_nine room = let some =
      there Upgradable upgradable refl u in let code₀ = code.0 in let code₁ = code.1 in let code₃ = code.3 in
      let q = parts part m op small not_one in let sum = q.sum in let one = q.one in
      let bound : owners shared + total shared (owners_in part op m) + total upgradable (owners_in part op m)
      + total upgrading (owners_in part op m) < 2 ^ 60 = elim room [
        | inl few ↦ omega arith
        | inr w ↦
            omega (arith, q.waits w)
      ] in
      subst Keeps (sym (upgradable_trade part u e not_one not_five (λ z. omega arith) not_nine))
      (keeps (trading (Upgradable ∷ []) (owners_in part op m)) (u, tt) (omega arith) (omega arith)
      (λ h. omega (arith, q.alone (omega arith))) (omega arith))

  -- an upgradable owner enters
  pub upgradable_enters_trade : m / 4 ≡ n / 4 + 5 → n / 4 % 4 ≡ 0 → rwlock_trade at op n m owns
      ≡ trading [] (Upgradable ∷ [])
  upgradable_enters_trade e free = let code₀ = code.0 in let code₁ = code.1 in let nx =
      absent Exclusive exclusive refl (omega arith) in let nu = absent Upgradable upgradable refl
      (omega arith) in
      rw (
        ne_eqb (m / 4) (n / 4) (λ z. omega arith),
        nx,
        ne_eqb (m / 4 + 4) (n / 4) (λ z. omega arith),
        ne_eqb (m / 4) (n / 4 + 2) (λ z. omega arith),
        ne_eqb (m / 4) (n / 4 + 4) (λ z. omega arith),
        nu,
        eq-eqb (m / 4) (n / 4 + 5) e,
      )

  pub upgradable_enters : m / 4 ≡ n / 4 + 5 → n / 4 % 4 ≡ 0 → owners shared + 1 < 2 ^ 60 → Trades
  upgradable_enters e free room = let code₀ = code.0 in let code₁ = code.1 in
      subst Keeps (sym (upgradable_enters_trade e free)) (keeps (trading [] (Upgradable ∷ [])) tt
      (omega arith) (omega arith) (λ h. absurd (omega arith)) (omega arith))

  -- a thread that upgrades falls back
  pub falls_back_trade : has (owning at Upgrading) owns ≡ true → m / 4 ≡ n / 4 + 3
      → rwlock_trade at op n m owns ≡ trading (Upgrading ∷ []) (Upgradable ∷ [])
  falls_back_trade g e = let some = there Upgrading upgrading refl g in let code₁ = code.1 in let nx =
      absent Exclusive exclusive refl (omega arith) in let nu = absent Upgradable upgradable refl
      (omega arith) in
      rw (
        ne_eqb (m / 4) (n / 4) (λ z. omega arith),
        nx,
        ne_eqb (m / 4 + 4) (n / 4) (λ z. omega arith),
        ne_eqb (m / 4) (n / 4 + 2) (λ z. omega arith),
        ne_eqb (m / 4) (n / 4 + 4) (λ z. omega arith),
        nu,
        ne_eqb (m / 4) (n / 4 + 5) (λ z. omega arith),
        g,
      )

  pub falls_back : has (owning at Upgrading) owns ≡ true → m / 4 ≡ n / 4 + 3 → Trades
  falls_back g e = let some = there Upgrading upgrading refl g in let code₁ = code.1 in let code₃ = code.3 in
      subst Keeps (sym (falls_back_trade g e)) (keeps (trading (Upgrading ∷ []) (Upgradable ∷ [])) (g, tt)
      (omega arith) (omega arith) (λ h. absurd (omega arith)) (omega arith))

  -- a writer that waits gives up
  pub gives_up_trade : has (owning at Pending) owns ≡ true → m / 4 + 2 ≡ n / 4 → rwlock_trade at op n m owns
      ≡ trading (Pending ∷ []) []
  gives_up_trade p e = let some = there Pending pending refl p in let code₁ = code.1 in
      let nx = absent Exclusive exclusive refl (omega arith) in let nu = absent Upgradable upgradable refl
      (omega arith) in let ng = absent Upgrading upgrading refl (omega arith) in
      rw (
        ne_eqb (m / 4) (n / 4) (λ z. omega arith),
        nx,
        ne_eqb (m / 4 + 4) (n / 4) (λ z. omega arith),
        ne_eqb (m / 4) (n / 4 + 2) (λ z. omega arith),
        ne_eqb (m / 4) (n / 4 + 4) (λ z. omega arith),
        nu,
        ne_eqb (m / 4) (n / 4 + 5) (λ z. omega arith),
        ng,
      )

  pub gives_up : has (owning at Pending) owns ≡ true → m / 4 + 2 ≡ n / 4 → Trades
  gives_up p e = let some = there Pending pending refl p in let code₁ = code.1 in let code₃ = code.3 in
      subst Keeps (sym (gives_up_trade p e)) (keeps (trading (Pending ∷ []) []) (p, tt) (omega arith)
      (omega arith) (λ h. absurd (omega arith)) (omega arith))
