-- The kinds of step on a reader-writer lock's word, each an instance of the law.
use Rattle.std.proofs.Common.{◌≡◌, inl, inr, ℕ, ◌+◌, ◌-◌, ◌/◌, ◌^◌, ◌<◌, ◌≤◌, List, cond, sym, refl, ap}
use Rattle.std.proofs.Common.{subst, arith, eq-eqb, ne_eqb, bit_and}
use Rattle.std.proofs.lemmas.Nat.{and-not, and_comm}
use Rattle.std.proofs.lemmas.Nat.Bits.{and_pow}
use mathlib.Core.Logic.{dite}
use native.Mathlib.Decide.{ℕ_discrete}
use Rattle.core_base.specs.Words.{apply}
use Rattle.core_base.specs.declared.ops.Op.{Op}
use Rattle.core_base.specs.declared.ops.Op.TheVariants.{Load, Store, Add, Sub, And, Exchange}
use Rattle.core_words.specs.Views.{owned}
use Rattle.core_words.specs.Codes.{Owners, IsRwLockCode, exclusive, pending, upgrading, upgradable, shared}
use Rattle.core_words.specs.Steps.{MayStep}
use Rattle.core_words.specs.Laws.{RwLockMaySteps}
use Rattle.core_words.specs.declared.owners.Owner.{Owner}
use Rattle.core_words.specs.declared.owners.Owner.TheVariants.{Exclusive, Pending, Upgrading, Upgradable}
use Rattle.core_words.specs.declared.owners.Owner.TheVariants.{Shared}
use Rattle.core_words.specs.declared.owners.Ownership.{Ownership}
use Rattle.core_words.specs.declared.words.WordKind.TheVariants.{RwLock}
use Rattle.core_words.proofs.RwLockSteps.{Trades, there, stays, exclusive_gives, shared_leaves, writes, reads}
use Rattle.core_words.proofs.RwLockSteps.{upgradable_gives, upgradable_enters, falls_back, gives_up}

-- a bit that is cleared
cleared : (n k : ℕ) → n < 2 ^ 64 → 2 ^ k < 2 ^ 64 → bit_and n (2 ^ 64 - 1 - 2 ^ k) + bit_and n (2 ^ k) ≡ n
cleared n k fits small = omega (
  arith,
  and-not 64 (2 ^ k) n small fits,
  and_comm n (2 ^ 64 - 1 - 2 ^ k),
  and_comm n (2 ^ k),
)

module _ (at : ℕ) (owns : List Ownership) where
  -- tells what a kind of step has to meet where it finds a code
  abbrev Law : Op → ℕ → Type 0
  Law op n = (owners : Owners) (code : IsRwLockCode n owners) (mine : (weight : Owner → ℕ)
      → owned at weight owns ≤ owners weight) → n < 2 ^ 64 → Trades at owns op n (apply op n) owners code mine

  by_law : (op : Op) → ((n : ℕ) → Law op n) → MayStep RwLock at op owns
  by_law op ok n owners fits code mine agrees = ok n owners code mine fits

  -- a failed exchange is a load
  exchange : (from to : ℕ) → ((owners : Owners) (code : IsRwLockCode from owners) (mine : (weight : Owner → ℕ)
      → owned at weight owns ≤ owners weight) → from < 2 ^ 64 → Trades at owns (Exchange from to) from to
      owners code mine) → MayStep RwLock at (Exchange from to) owns
  exchange from to ok = by_law (Exchange from to) (λ n. dite (ℕ_discrete n from)
      (λ e. subst (Law (Exchange from to)) (sym e) (λ owners code mine fits. subst
      (λ m. Trades at owns (Exchange from to) from m owners code mine)
      (sym (ap (λ b. cond b to from) (eq-eqb from from refl))) (ok owners code mine fits)))
      (λ ne owners code mine fits. stays at owns (Exchange from to) n (apply (Exchange from to) n) owners code
      mine (ap (λ b. cond b to n / 4) (ne_eqb n from ne))))

  pub rwlock_steps_at : Rattle.core_words.specs.Laws.RwLockSteps at owns
  rwlock_steps_at = record {
    load = by_law Load (λ n owners code mine fits. stays at owns Load n n owners code mine refl);
    read = λ s free room. exchange s (s + 16) (λ owners code mine fits. let c₀ = code.0 in let c₁ = code.1
        in let c₂ = code.2 in reads at owns (Exchange s (s + 16)) s (s + 16) owners code mine (omega arith)
        (dite (ℕ_discrete (owners exclusive) 0) (λ z. z) (λ nz. let none = c₂ (omega arith)
        in elim free [ inl f ↦ absurd (omega arith) | inr f ↦ absurd (omega arith) ])) (omega arith));
    write_alone = exchange 0 8 (λ owners code mine fits. writes at owns (Exchange 0 8) 0 8 owners code mine
        refl refl);
    write = λ s free. exchange s (s + 8) (λ owners code mine fits. writes at owns (Exchange s (s + 8)) s
        (s + 8) owners code mine (omega arith) free);
    set_parked = λ s clear. exchange s (s + 1) (λ owners code mine fits. stays at owns (Exchange s (s + 1)) s
        (s + 1) owners code mine (omega arith));
    set_writer_parked = λ s clear. exchange s (s + 2) (λ owners code mine fits. stays at owns
        (Exchange s (s + 2)) s (s + 2) owners code mine (omega arith));
    leave_shared = λ h. by_law (Sub 16) (λ n owners code mine fits. let c₀ = code.0 in let some =
        there at owns (Sub 16) n (apply (Sub 16) n) owners code mine Shared shared refl h
        in shared_leaves at owns (Sub 16) n (apply (Sub 16) n) owners code mine h (omega arith));
    leave_exclusive = λ h. by_law (Sub 8) (λ n owners code mine fits. let c₀ = code.0 in let c₁ = code.1
        in let some = there at owns (Sub 8) n (apply (Sub 8) n) owners code mine Exclusive exclusive refl h
        in let none = code.2 some in exclusive_gives at owns (Sub 8) n (apply (Sub 8) n) owners code mine h
        (omega arith) (omega arith) (omega arith) (omega arith) (inl (omega arith)));
    clear_parked = by_law (And 18446744073709551614) (λ n owners code mine fits. stays at owns
        (And 18446744073709551614) n (bit_and n 18446744073709551614) owners code mine
        (omega (arith, cleared n 0 fits (omega arith), and_pow n 0)));
    clear_writer_parked = by_law (And 18446744073709551613) (λ n owners code mine fits. stays at owns
        (And 18446744073709551613) n (bit_and n 18446744073709551613) owners code mine
        (omega (arith, cleared n 1 fits (omega arith), and_pow n 1)));
    enter_upgradable = λ s free room. exchange s (s + 20) (λ owners code mine fits. let c₀ = code.0
        in let c₁ = code.1 in upgradable_enters at owns (Exchange s (s + 20)) s (s + 20) owners code mine
        (omega arith) free (omega arith));
    leave_upgradable = λ h. by_law (Sub 20) (λ n owners code mine fits. let c₀ = code.0 in let c₁ = code.1
        in let some = there at owns (Sub 20) n (apply (Sub 20) n) owners code mine Upgradable upgradable refl
        h in upgradable_gives at owns (Sub 20) n (apply (Sub 20) n) owners code mine 0 h (omega arith)
        (omega arith) (omega arith) (omega arith) (omega arith) (omega arith) (inl (omega arith)));
    downgrade = λ h. by_law (Add 8) (λ n owners code mine fits. let c₀ = code.0 in let c₁ = code.1
        in let some = there at owns (Add 8) n (apply (Add 8) n) owners code mine Exclusive exclusive refl h
        in let none = code.2 some in exclusive_gives at owns (Add 8) n (apply (Add 8) n) owners code mine h
        (omega arith) (omega arith) (omega arith) (omega arith) (inl (omega arith)));
    downgrade_upgradable = λ h. by_law (Sub 4) (λ n owners code mine fits. let c₀ = code.0 in let c₁ = code.1
        in let some = there at owns (Sub 4) n (apply (Sub 4) n) owners code mine Upgradable upgradable refl h
        in upgradable_gives at owns (Sub 4) n (apply (Sub 4) n) owners code mine 4 h (omega arith)
        (omega arith) (omega arith) (omega arith) (omega arith) (omega arith) (inl (omega arith)));
    downgrade_to_upgradable = λ h. by_law (Add 12) (λ n owners code mine fits. let c₀ = code.0 in let c₁ =
        code.1 in let some = there at owns (Add 12) n (apply (Add 12) n) owners code mine Exclusive exclusive
        refl h in let none = code.2 some in exclusive_gives at owns (Add 12) n (apply (Add 12) n) owners code
        mine h (omega arith) (omega arith) (omega arith) (omega arith) (inl (omega arith)));
    upgrade = λ h. by_law (Sub 12) (λ n owners code mine fits. let c₀ = code.0 in let c₁ = code.1
        in let some = there at owns (Sub 12) n (apply (Sub 12) n) owners code mine Upgradable upgradable refl
        h in upgradable_gives at owns (Sub 12) n (apply (Sub 12) n) owners code mine 2 h (omega arith)
        (omega arith) (omega arith) (omega arith) (omega arith) (omega arith) (inl (omega arith)));
    try_upgrade = λ s h one. exchange s (s - 12) (λ owners code mine fits. let c₀ = code.0 in let c₁ = code.1
        in let some = there at owns (Exchange s (s - 12)) s (s - 12) owners code mine Upgradable upgradable
        refl h in upgradable_gives at owns (Exchange s (s - 12)) s (s - 12) owners code mine 2 h (omega arith)
        (omega arith) (omega arith) (omega arith) (omega arith) (omega arith) (inl (omega arith)));
    leave_alone = λ h. exchange 8 0 (λ owners code mine fits. exclusive_gives at owns (Exchange 8 0) 8 0
        owners code mine h (omega arith) (omega arith) (omega arith) (omega arith) (inl (omega arith)));
    hand_over = λ m h fits' small not_one not_two. by_law (Store m) (λ n owners code mine fits. let c₀ =
        code.0 in let c₁ = code.1 in let some = there at owns (Store m) n m owners code mine Exclusive
        exclusive refl h in let none = code.2 some in exclusive_gives at owns (Store m) n m owners code mine h
        (λ e. not_two (omega arith)) fits' small not_one (inr refl));
    hand_upgradable = λ s m part h fits' e small not_one. exchange s m (λ owners code mine fits. let c₀ =
        code.0 in let c₁ = code.1 in let some = there at owns (Exchange s m) s m owners code mine Upgradable
        upgradable refl h in
        dite (ℕ_discrete part 5) (λ five. stays at owns (Exchange s m) s m owners code mine (omega arith))
        (λ not_five.
        dite (ℕ_discrete part 9) (λ nine. reads at owns (Exchange s m) s m owners code mine (omega arith)
        (omega arith) (omega arith)) (λ not_nine.
        upgradable_gives at owns (Exchange s m) s m owners code mine part h e fits' small not_one not_five
        not_nine (inr refl))));
    fall_back = λ h. by_law (Add 12) (λ n owners code mine fits. let c₀ = code.0 in let c₁ = code.1
        in let c₃ = code.3 in let some = there at owns (Add 12) n (apply (Add 12) n) owners code mine
        Upgrading upgrading refl h in falls_back at owns (Add 12) n (apply (Add 12) n) owners code mine h
        (omega arith));
    give_up = λ h. by_law (Sub 8) (λ n owners code mine fits. let c₀ = code.0 in let c₁ = code.1 in let some =
        there at owns (Sub 8) n (apply (Sub 8) n) owners code mine Pending pending refl h
        in gives_up at owns (Sub 8) n (apply (Sub 8) n) owners code mine h (omega arith));
  }

-- all of them
pub rwlock_steps : RwLockMaySteps
rwlock_steps at owns = rwlock_steps_at at owns
