-- An owner that leaves the word of all that it took of a reader-writer lock's queue has the right that each
-- of them wants after that step, so that it can hand it on: an owner alone stores that word, and an
-- upgradable one exchanges it for the word that it saw.
use Rattle.std.proofs.lemmas.Bool.{eqb-true}
use Rattle.std.proofs.lemmas.Bool.Decides.{nat_tests}
use Rattle.std.proofs.Common.{length, nat_le, not, ◌||◌, ◌==◌, ◌≡◌, ◌≢◌, ℕ, zero, suc, ◌+◌, ◌-◌, ◌*◌, ◌/◌}
use Rattle.std.proofs.Common.{◌%◌, ◌^◌, ◌<◌, ◌≤◌, List, [], ◌∷◌, ◌++◌, map, Bool, true, false, Option, Some}
use Rattle.std.proofs.Common.{None, cond, eqb, ◌∙◌, sym, refl, ap, subst, arith, eq-eqb, ne_eqb}
use mathlib.Core.Logic.{dite}
use native.Mathlib.Decide.{ℕ_discrete}
use Rattle.core_base.specs.declared.ops.Op.{Op}
use Rattle.core_base.specs.declared.ops.Op.TheVariants.{Store, Exchange}
use Rattle.core_base.specs.declared.wants.Want.{Want}
use Rattle.core_base.specs.declared.wants.Want.TheVariants as wants
use Rattle.core_base.specs.Words.{apply}
use Rattle.steps_base.specs.Acts.{is_there}
use Rattle.spec_locks.specs.declared.calls.Access.TheVariants as access
use Rattle.steps_rwlock.specs.RwLockSteps.{plus}
use Rattle.steps_rwlock_fair.specs.FairSteps.{any_taken, has_room, parked_as, tokens, with_taken}
use Rattle.steps_rwlock_fair.specs.FairSteps.{word_without as without_right}
use Rattle.steps_rwlock_fair.specs.declared.hand_over.Taken.{Taken}
use Rattle.core_words.specs.Codes.{exclusive, upgradable}
use Rattle.core_words.specs.Rights.{owner_given, owners_given}
use Rattle.core_words.specs.Steps.{CodesWith, HasAll, MayStep, Trade, has, owners_in, owns_after}
use Rattle.core_words.specs.Steps.{owns_after_step, rwlock_trade, so_many_shared, trading, without}
use Rattle.core_words.specs.Steps.{without_all, writer_in}
use Rattle.core_words.specs.Views.{owning}
use Rattle.core_words.specs.declared.owners.Owner.{Owner}
use Rattle.core_words.specs.declared.owners.Owner.TheVariants.{Exclusive, Pending, Shared, Upgradable}
use Rattle.core_words.specs.declared.owners.Ownership.{Ownership}
use Rattle.core_words.specs.declared.words.WordKind.TheVariants.{RwLock}
use Rattle.core_words.proofs.RwLockKinds.{rwlock_steps}
use Rattle.core_words.proofs.RwLockOwning.{first_goes, fits, has_first, keeps_all}
use Rattle.core_words.proofs.RwLockSteps.{exclusive_trade, reads_trade, stays, there, upgradable_trade}
use Rattle.run_base.specs.RwLockFitting.{AreTaken, IsUpgradableWord}
use Rattle.run_base.specs.Stages.{HandsEach, owns_when_handed}
use Rattle.run_base.specs.Takes.{more_in, sharers_in, successor_in}

-- no share, so no share is it
abbrev IsMore : Owner → Type 0
IsMore Exclusive = Unit {0}
IsMore Pending = Unit {0}
IsMore Upgradable = Unit {0}
IsMore o = ⊥

module _ (at : ℕ) where
  abbrev shared : ℕ → List Ownership → List Ownership
  shared n rest = map (owning at) (so_many_shared n) ++ rest

  -- waiters can be handed what they want, and that is left
  abbrev pub Hands : ℕ → List Want → List Ownership → List Ownership → Type 0
  Hands m ws owns rest = HasAll at (owners_given RwLock m ws) owns
      × (without_all at (owners_given RwLock m ws) owns ≡ rest)

  hands_first : (m : ℕ) (x : Want) (ws : List Want) (o : Owner) (owns rest : List Ownership)
      → owner_given RwLock m x ≡ o → Hands m ws owns rest → Hands m (x ∷ ws) (owning at o ∷ owns) rest
  hands_first m x ws o owns rest e h = subst (λ (y : Owner). Hands m (x ∷ ws) (owning at y ∷ owns) rest) e (
    (
      has_first at (owner_given RwLock m x) owns,
      subst (HasAll at (owners_given RwLock m ws))
          (sym (first_goes at (owner_given RwLock m x) owns)) h.0,
    ),
    ap (without_all at (owners_given RwLock m ws)) (first_goes at (owner_given RwLock m x) owns) ∙ h.1,
  )

  -- for the one that wants more, after those that share
  hands_there : (m : ℕ) (x : Want) (ws : List Want) (o : Owner) (owns rest left : List Ownership)
      → owner_given RwLock m x ≡ o → has (owning at o) owns ≡ true → without (owning at o) owns ≡ left
      → Hands m ws left rest → Hands m (x ∷ ws) owns rest
  hands_there m x ws o owns rest left e there_is goes h =
      let mine : has (owning at (owner_given RwLock m x)) owns ≡ true =
      ap (λ (y : Owner). has (owning at y) owns) e ∙ there_is in
      let gone : without (owning at (owner_given RwLock m x)) owns ≡ left =
      ap (λ (y : Owner). without (owning at y) owns) e ∙ goes in (
        (mine, subst (HasAll at (owners_given RwLock m ws)) (sym gone) h.0),
        ap (without_all at (owners_given RwLock m ws)) gone ∙ h.1,
      )

  skips : (o : Owner) → IsMore o → (rest : List Ownership) → has (owning at o) (owning at Shared ∷ rest)
      ≡ has (owning at o) rest
  skips Exclusive more rest = rw (eq-eqb at at refl) refl
  skips Pending more rest = rw (eq-eqb at at refl) refl
  skips Upgradable more rest = rw (eq-eqb at at refl) refl
  skips o more rest = absurd more

  stays_afterwards : (o : Owner) → IsMore o → (rest : List Ownership)
      → without (owning at o) (owning at Shared ∷ rest) ≡ owning at Shared ∷ without (owning at o) rest
  stays_afterwards Exclusive more rest = rw (eq-eqb at at refl) refl
  stays_afterwards Pending more rest = rw (eq-eqb at at refl) refl
  stays_afterwards Upgradable more rest = rw (eq-eqb at at refl) refl
  stays_afterwards o more rest = absurd more

  has_after : (o : Owner) → IsMore o → (n : ℕ) (rest : List Ownership) → has (owning at o) rest ≡ true
      → has (owning at o) (shared n rest) ≡ true
  has_after o more zero rest h = h
  has_after o more (suc n) rest h = skips o more (shared n rest) ∙ has_after o more n rest h

  goes_afterwards : (o : Owner) → IsMore o → (n : ℕ) (rest : List Ownership) → without (owning at o)
      (shared n rest) ≡ shared n (without (owning at o) rest)
  goes_afterwards o more zero rest = refl
  goes_afterwards o more (suc n) rest = stays_afterwards o more (shared n rest)
      ∙ ap (λ xs. owning at Shared ∷ xs)
      (goes_afterwards o more n rest)

  -- all share
  all_share : (m : ℕ) (ws : List Want) (rest : List Ownership) → more_in ws ≡ 0
      → Hands m ws (shared (sharers_in ws) rest) rest
  all_share m [] rest none = (tt, refl)
  all_share m (wants.Shared ∷ ws) rest none = hands_first m wants.Shared ws Shared
      (shared (sharers_in ws) rest) rest refl (all_share m ws rest none)
  all_share m (x ∷ ws) rest none = absurd cc

  -- one wants more, and what it wants is among the others
  one_more : (m : ℕ) (o : Owner) → IsMore o → (ws : List Want) (rest : List Ownership) → more_in ws ≡ 1
      → ((x : Want) → successor_in ws ≡ Some x → owner_given RwLock m x ≡ o) → has (owning at o) rest ≡ true
      → Hands m ws (shared (sharers_in ws) rest) (without (owning at o) rest)
  one_more m o more [] rest one given there_is = absurd cc
  one_more m o more (wants.Shared ∷ ws) rest one given there_is = hands_first m wants.Shared ws Shared
      (shared (sharers_in ws) rest) (without (owning at o) rest) refl (one_more m o more ws rest one given
      there_is)
  one_more m o more (wants.Exclusive ∷ ws) rest one given there_is = hands_there m wants.Exclusive ws o
      (shared (sharers_in ws) rest) (without (owning at o) rest)
      (shared (sharers_in ws) (without (owning at o) rest))
      (given wants.Exclusive refl) (has_after o more (sharers_in ws) rest there_is)
      (goes_afterwards o more (sharers_in ws) rest) (all_share m ws (without (owning at o) rest)
      (omega arith))
  one_more m o more (wants.Upgradable ∷ ws) rest one given there_is = hands_there m wants.Upgradable ws o
      (shared (sharers_in ws) rest) (without (owning at o) rest)
      (shared (sharers_in ws) (without (owning at o) rest))
      (given wants.Upgradable refl) (has_after o more (sharers_in ws) rest there_is)
      (goes_afterwards o more (sharers_in ws) rest) (all_share m ws (without (owning at o) rest)
      (omega arith))
  one_more m o more (x ∷ ws) rest one given there_is = hands_there m x ws o (shared (sharers_in ws) rest)
      (without (owning at o) rest) (shared (sharers_in ws) (without (owning at o) rest))
      (given x refl) (has_after o more (sharers_in ws) rest there_is) (goes_afterwards o more (sharers_in ws)
      rest) (all_share m ws (without (owning at o) rest) (omega arith))

  -- A greater right stands before the shared ones.
  passes : (o : Owner) → IsMore o → (rest : List Ownership)
      → has (owning at Shared) (owning at o ∷ owning at Shared ∷ rest) ≡ true
  passes Exclusive more rest = rw (eq-eqb at at refl) refl
  passes Pending more rest = rw (eq-eqb at at refl) refl
  passes Upgradable more rest = rw (eq-eqb at at refl) refl
  passes o more rest = absurd more

  leaves_before : (o : Owner) → IsMore o → (rest : List Ownership) → without (owning at Shared)
      (owning at o ∷ owning at Shared ∷ rest) ≡ owning at o ∷ rest
  leaves_before Exclusive more rest = rw (eq-eqb at at refl) refl
  leaves_before Pending more rest = rw (eq-eqb at at refl) refl
  leaves_before Upgradable more rest = rw (eq-eqb at at refl) refl
  leaves_before o more rest = absurd more

  one_first : (m : ℕ) (o : Owner) → IsMore o → (ws : List Want) (rest : List Ownership) → more_in ws ≡ 1
      → ((x : Want) → successor_in ws ≡ Some x → owner_given RwLock m x ≡ o)
      → Hands m ws (owning at o ∷ shared (sharers_in ws) rest) rest
  one_first m o more [] rest one given = absurd cc
  one_first m o more (wants.Shared ∷ ws) rest one given = hands_there m wants.Shared ws Shared
      (owning at o ∷ shared (suc (sharers_in ws)) rest) rest (owning at o ∷ shared (sharers_in ws) rest)
      refl (passes o more (shared (sharers_in ws) rest)) (leaves_before o more (shared (sharers_in ws) rest))
      (one_first m o more ws rest one given)
  one_first m o more (wants.Exclusive ∷ ws) rest one given = hands_first m wants.Exclusive ws o
      (shared (sharers_in ws) rest) rest (given wants.Exclusive refl) (all_share m ws rest (omega arith))
  one_first m o more (wants.Upgradable ∷ ws) rest one given = hands_first m wants.Upgradable ws o
      (shared (sharers_in ws) rest) rest (given wants.Upgradable refl) (all_share m ws rest (omega arith))
  one_first m o more (x ∷ ws) rest one given = hands_first m x ws o (shared (sharers_in ws) rest) rest
      (given x refl) (all_share m ws rest (omega arith))

-- ---------------------------------------------------------------- the quarters of the word

sharers_stand : (part left s : ℕ) (op : Op) → part ≡ 4 * s → owners_in part op left ≡ so_many_shared s
sharers_stand part left s op e =
    let two : part % 4 ≢ 2 = λ z. omega arith in
    let one : part % 4 ≢ 1 = λ z. omega arith in
    let all : part / 4 ≡ s = omega arith in
    rw (ne_eqb (part % 4) 2 two, ne_eqb (part % 4) 1 one, all) refl

writer_stands : (part left s : ℕ) (op : Op) → part ≡ 4 * s + 2 → owners_in part op left ≡ writer_in op left
    ∷ so_many_shared s
writer_stands part left s op e =
    let two : part % 4 ≡ 2 = omega arith in
    let all : part / 4 ≡ s = omega arith in
    rw (eq-eqb (part % 4) 2 two, all) refl

upgradable_stands : (part left s : ℕ) (op : Op) → part ≡ 4 * s + 5 → owners_in part op left ≡ Upgradable
    ∷ so_many_shared s
upgradable_stands part left s op e =
    let two : part % 4 ≢ 2 = λ z. omega arith in
    let one : part % 4 ≡ 1 = omega arith in
    let all : part / 4 - 1 ≡ s = omega arith in
    rw (ne_eqb (part % 4) 2 two, eq-eqb (part % 4) 1 one, all) refl

-- ---------------------------------------------------------------- a waiter that wants more

-- how a writer owns the word that is left at this value
abbrev writer_left : ℕ → Owner
writer_left m = cond (eqb (m / 16) 0) Exclusive Pending

-- a thread that wants neither to share nor to upgrade is handed the lock as a writer
abbrev IsWriter : Want → Type 0
IsWriter wants.Shared = ⊥
IsWriter wants.Upgradable = ⊥
IsWriter x = Unit {0}

given_writer : (m : ℕ) (x : Want) → IsWriter x → owner_given RwLock m x ≡ writer_left m
given_writer m wants.Shared w = absurd w
given_writer m wants.Upgradable w = absurd w
given_writer m x w = refl

more_left : (m : ℕ) → IsMore (writer_left m)
more_left m = either (eqb (m / 16) 0)
  where
    either : (b : Bool) → IsMore (cond b Exclusive Pending)
    either true = tt
    either false = tt

-- a fact of the successor is one of the thread that it is
of_successor : (P : Want → Type 0) (ws : List Want) (y x : Want) → successor_in ws ≡ Some y → successor_in ws
    ≡ Some x → P y → P x
of_successor P ws y x is e h = let same : ◌≡◌ {A = Option Want} (Some y) (Some x) = sym is ∙ e
    in let f : y ≡ x = cc in subst P f h

-- nobody that shares succeeds
no_sharer : (ws : List Want) → successor_in ws ≡ Some wants.Shared → ⊥
no_sharer [] e = cc
no_sharer (wants.Shared ∷ ws) e = no_sharer ws e
no_sharer (x ∷ ws) e = cc

-- whether anybody wants more
none_more : (ws : List Want) → successor_in ws ≡ None → more_in ws ≡ 0
none_more [] e = refl
none_more (wants.Shared ∷ ws) e = none_more ws e
none_more (x ∷ ws) e = absurd cc

some_more : (ws : List Want) (x : Want) → successor_in ws ≡ Some x → 1 ≤ more_in ws
some_more [] x e = absurd cc
some_more (wants.Shared ∷ ws) x e = some_more ws x e
some_more (wants.Exclusive ∷ ws) x e = omega arith
some_more (wants.Upgradable ∷ ws) x e = omega arith
some_more (y ∷ ws) x e = omega arith

-- each thread that wants no more shares
all_counted : (ws : List Want) → sharers_in ws + more_in ws ≡ length ws
all_counted [] = refl
all_counted (wants.Shared ∷ ws) = let rest = all_counted ws in omega arith
all_counted (wants.Exclusive ∷ ws) = let rest = all_counted ws in omega arith
all_counted (wants.Upgradable ∷ ws) = let rest = all_counted ws in omega arith
all_counted (x ∷ ws) = let rest = all_counted ws in omega arith

module _ (at m : ℕ) (ws : List Want) (rest : List Ownership) (one : more_in ws ≡ 1) where
  writer_first : (y : Want) → IsWriter y → successor_in ws ≡ Some y
      → Hands at m ws (owning at (writer_left m) ∷ shared at (sharers_in ws) rest) rest
  writer_first y w is = one_first at m (writer_left m) (more_left m) ws rest one
      (λ x e. of_successor (λ (z : Want). owner_given RwLock m z ≡ writer_left m) ws y x is e
      (given_writer m y w))

  upgradable_first : successor_in ws ≡ Some wants.Upgradable
      → Hands at m ws (owning at Upgradable ∷ shared at (sharers_in ws) rest) rest
  upgradable_first is = one_first at m Upgradable tt ws rest one
      (λ x e. of_successor (λ (z : Want). owner_given RwLock m z ≡ Upgradable) ws wants.Upgradable x is e
      refl)

-- ---------------------------------------------------------------- the store

module _ (at seen m : ℕ) (owns : List Ownership) (code : CodesWith RwLock at seen owns)
    (mine : has (owning at Exclusive) owns ≡ true) where
  abbrev stored_rest : List Ownership
  stored_rest = without (owning at Exclusive) owns

  found : seen / 4 ≡ 2
  found = let some = there at owns (Store m) seen m code.0 code.1 code.2 Exclusive exclusive refl mine
      in let c₀ = code.1.0 in let c₁ = code.1.1 in let c₂ = code.1.2 some in omega arith

  stored : (os : List Owner) → m / 4 ≢ 2 → owners_in (m / 4) (Store m) m ≡ os
      → owns_after_step RwLock at (Store m) seen owns ≡ map (owning at) os ++ stored_rest
  stored os other e = ap (λ t. owns_after at t owns) (exclusive_trade at owns (Store m) seen m code.0 code.1
      code.2 mine (λ z. other (z ∙ found)) ∙ ap (λ (xs : List Owner). trading (Exclusive ∷ []) xs) e)

  module _ (ws : List Want) where
    abbrev StoreHand : Type 0
    StoreHand = Hands at m ws (owns_after_step RwLock at (Store m) seen owns) stored_rest

    by_stored : (o : List Ownership) → owns_after_step RwLock at (Store m) seen owns ≡ o
        → Hands at m ws o stored_rest → StoreHand
    by_stored o e h = subst (λ (xs : List Ownership). Hands at m ws xs stored_rest) (sym e) h

    to_sharers_by_store : more_in ws ≡ 0 → m / 4 ≡ 4 * sharers_in ws → StoreHand
    to_sharers_by_store none word = by_stored (map (owning at) (so_many_shared (sharers_in ws))
        ++ stored_rest) (stored (so_many_shared (sharers_in ws)) (λ z. omega arith)
        (sharers_stand (m / 4) m (sharers_in ws) (Store m) word)) (all_share at m ws stored_rest none)

    to_upgradable_by_store : more_in ws ≡ 1 → successor_in ws ≡ Some wants.Upgradable → m / 4
        ≡ 4 * sharers_in ws + 5 → StoreHand
    to_upgradable_by_store one is word =
        by_stored (map (owning at) (Upgradable ∷ so_many_shared (sharers_in ws)) ++ stored_rest)
        (stored (Upgradable ∷ so_many_shared (sharers_in ws)) (λ z. omega arith)
        (upgradable_stands (m / 4) m (sharers_in ws) (Store m) word))
        (upgradable_first at m ws stored_rest one is)

    -- a writer owns alone where nobody shares, and else waits for those that do
    to_writer_by_store : (y : Want) → IsWriter y → more_in ws ≡ 1 → successor_in ws ≡ Some y
        → m / 4 ≡ 4 * sharers_in ws + 2 → StoreHand
    to_writer_by_store y w one is word = dite (ℕ_discrete (sharers_in ws) 0)
        (λ none. by_stored owns (keeps_all at seen owns code (Store m) (let same : m / 4 ≡ seen / 4 =
        (let z = found in omega arith) in same) refl)
        (subst (λ n. Hands at m ws (map (owning at) (so_many_shared n) ++ owns) stored_rest) none
        (one_more at m Exclusive tt ws owns one (λ x e. of_successor (λ (z : Want). owner_given RwLock m z
        ≡ Exclusive) ws y x is e (given_writer m y w ∙ alone (omega arith))) mine)))
        (λ some. by_stored (map (owning at) (writer_left m ∷ so_many_shared (sharers_in ws)) ++ stored_rest)
        (stored (writer_left m ∷ so_many_shared (sharers_in ws)) (λ z. some (omega arith))
        (writer_stands (m / 4) m (sharers_in ws) (Store m) word))
        (writer_first at m ws stored_rest one y w is))
      where
        alone : m / 16 ≡ 0 → writer_left m ≡ Exclusive
        alone z = rw (eq-eqb (m / 16) 0 z) refl

-- ---------------------------------------------------------------- the exchange

module _ (at seen m : ℕ) (owns : List Ownership) (code : CodesWith RwLock at seen owns)
    (mine : has (owning at Upgradable) owns ≡ true) where
  abbrev kept : List Ownership
  kept = without (owning at Upgradable) owns

  exchanged : apply (Exchange seen m) seen ≡ m
  exchanged = rw (eq-eqb seen seen refl) refl

  some_upgradable : 0 < code.0 upgradable
  some_upgradable = there at owns (Exchange seen m) seen m code.0 code.1 code.2 Upgradable upgradable refl
      mine

  by_trade : (t : Trade) → rwlock_trade at (Exchange seen m) seen m owns ≡ t
      → owns_after_step RwLock at (Exchange seen m) seen owns ≡ owns_after at t owns
  by_trade t e = ap (λ (k : ℕ). owns_after at (rwlock_trade at (Exchange seen m) seen k owns) owns) exchanged
      ∙ ap (λ (t : Trade). owns_after at t owns) e

  traded : (part : ℕ) (os : List Owner) → m / 4 + 5 ≡ seen / 4 + part → part ≢ 1 → part ≢ 5 → part ≢ 7
      → part ≢ 9 → owners_in part (Exchange seen m) m ≡ os → owns_after_step RwLock at (Exchange seen m) seen
      owns ≡ map (owning at) os ++ kept
  traded part os e not_one not_five not_seven not_nine is = by_trade (trading (Upgradable ∷ []) os)
      (upgradable_trade at owns (Exchange seen m) seen m code.0 code.1 code.2 part mine e not_one not_five
      not_seven not_nine ∙ ap (λ (xs : List Owner). trading (Upgradable ∷ []) xs) is)

  same_word : m / 4 ≡ seen / 4 → owns_after_step RwLock at (Exchange seen m) seen owns ≡ owns
  same_word e = keeps_all at seen owns code (Exchange seen m) (ap (λ (k : ℕ). k / 4) exchanged ∙ e)
      (rw (eq-eqb seen seen refl) refl)

  one_reader_more : m / 4 ≡ seen / 4 + 4 → owns_after_step RwLock at (Exchange seen m) seen owns
      ≡ owning at Shared ∷ owns
  one_reader_more e = let some = some_upgradable in let c₁ = code.1.1 in by_trade (trading [] (Shared ∷ []))
      (reads_trade at owns (Exchange seen m) seen m code.0 code.1 code.2 e (omega arith))

  -- the exchange only gives the right up
  gives_up : m / 4 + 5 ≡ seen / 4 → owns_after_step RwLock at (Exchange seen m) seen owns ≡ kept
  gives_up e = traded 0 [] (omega arith) (λ z. omega arith) (λ z. omega arith) (λ z. omega arith)
      (λ z. omega arith) refl

  module _ (ws : List Want) where
    abbrev Hand : Type 0
    Hand = Hands at m ws (owns_after_step RwLock at (Exchange seen m) seen owns) kept

    by_owns : (o : List Ownership) → owns_after_step RwLock at (Exchange seen m) seen owns ≡ o
        → Hands at m ws o kept → Hand
    by_owns o e h = subst (λ (xs : List Ownership). Hands at m ws xs kept) (sym e) h

    to_sharers : more_in ws ≡ 0 → m / 4 + 5 ≡ seen / 4 + 4 * sharers_in ws → Hand
    to_sharers none word = by_owns (map (owning at) (so_many_shared (sharers_in ws)) ++ kept)
        (traded (4 * sharers_in ws) (so_many_shared (sharers_in ws)) word (λ z. omega arith)
        (λ z. omega arith) (λ z. omega arith) (λ z. omega arith) (sharers_stand (4 * sharers_in ws) m
        (sharers_in ws) (Exchange seen m) refl))
        (all_share at m ws kept none)

    to_writer : (y : Want) → IsWriter y → more_in ws ≡ 1 → successor_in ws ≡ Some y → m / 4 + 5 ≡ seen / 4
        + (4 * sharers_in ws + 2) → Hand
    to_writer y w one is word = by_owns (map (owning at) (writer_left m ∷ so_many_shared (sharers_in ws))
        ++ kept)
        (traded (4 * sharers_in ws + 2) (writer_left m ∷ so_many_shared (sharers_in ws)) word
        (λ z. omega arith) (λ z. omega arith) (λ z. omega arith) (λ z. omega arith)
        (writer_stands (4 * sharers_in ws + 2) m (sharers_in ws) (Exchange seen m) refl))
        (writer_first at m ws kept one y w is)

    -- a thread whose successor's right is the one that it has
    keeps_own : more_in ws ≡ 1 → successor_in ws ≡ Some wants.Upgradable → (n : ℕ) → sharers_in ws ≡ n
        → owns_after_step RwLock at (Exchange seen m) seen owns ≡ shared at n owns → Hand
    keeps_own one is n few e = by_owns (shared at n owns) e
        (subst (λ (k : ℕ). Hands at m ws (shared at k owns) kept) few (one_more at m Upgradable tt ws owns one
        (λ x f. of_successor (λ (z : Want). owner_given RwLock m z ≡ Upgradable) ws wants.Upgradable x is
        f refl) mine))

    to_upgradable : more_in ws ≡ 1 → successor_in ws ≡ Some wants.Upgradable → m / 4 + 5 ≡ seen / 4
        + (4 * sharers_in ws + 5) → Hand
    to_upgradable one is word = dite (ℕ_discrete (sharers_in ws) 0)
        (λ none. keeps_own one is 0 none (same_word (omega arith)))
        (λ some. dite (ℕ_discrete (sharers_in ws) 1)
        (λ single. keeps_own one is 1 single (one_reader_more (omega arith)))
        (λ more. by_owns (map (owning at) (Upgradable ∷ so_many_shared (sharers_in ws)) ++ kept)
        (traded (4 * sharers_in ws + 5) (Upgradable ∷ so_many_shared (sharers_in ws)) word (λ z. omega arith)
        (λ z. some (omega arith)) (λ z. omega arith) (λ z. more (omega arith))
        (upgradable_stands (4 * sharers_in ws + 5) m (sharers_in ws) (Exchange seen m) refl))
        (upgradable_first at m ws kept one is)))

-- ---------------------------------------------------------------- words

-- the word of so many, and of a thread that wants more
abbrev pub word_of : ℕ → Option Want → Bool → ℕ
word_of n successor none_left = parked_as none_left (tokens (record {
  sharers = n;
  successor = successor;
  none_left = none_left;
}))

-- the quarters of a word
record Quarters (m n : ℕ) : Type 0 where
  fits : m < 2 ^ 64
  stand : m / 4 ≡ n

shared_word : (n : ℕ) (none_left : Bool) → n < 2 ^ 60 → Quarters (word_of n None none_left) (4 * n)
shared_word n true few = record { fits = omega arith; stand = omega arith }
shared_word n false few = record { fits = omega arith; stand = omega arith }

writer_word : (n : ℕ) (none_left : Bool) → n < 2 ^ 60 - 1
    → Quarters (word_of n (Some wants.Exclusive) none_left) (4 * n + 2)
writer_word n true few = record { fits = omega arith; stand = omega arith }
writer_word n false few = record { fits = omega arith; stand = omega arith }

upgradable_word : (n : ℕ) (none_left : Bool) → n < 2 ^ 60 - 1
    → Quarters (word_of n (Some wants.Upgradable) none_left) (4 * n + 5)
upgradable_word n true few = record { fits = omega arith; stand = omega arith }
upgradable_word n false few = record { fits = omega arith; stand = omega arith }

-- the word of them after that of an upgradable owner, and the one in which that has only given its right up
abbrev pub word_after : ℕ → ℕ → Option Want → Bool → ℕ
word_after seen n successor none_left = with_taken access.Upgradable (record {
  sharers = n;
  successor = successor;
  none_left = none_left;
}) seen

abbrev pub word_given : ℕ → Bool → ℕ
word_given seen none_left = parked_as none_left (without_right access.Upgradable seen)

-- the quarters of waiters, by those of the word that was seen
pub record QuartersFrom (seen m part : ℕ) : Type 0 where
  pub fits : m < 2 ^ 64
  pub stand : m / 4 + 5 ≡ seen / 4 + part

module _ (seen : ℕ) (own : IsUpgradableWord seen) where
  less : without_right access.Upgradable seen ≡ seen - 20
  less = let small = own.0 in let bit = own.1 in let some = own.2 in omega arith

  pub given_word : (none_left : Bool) → QuartersFrom seen (word_given seen none_left) 0
  given_word true = let small = own.0 in let bit = own.1 in let some = own.2 in let e = less in record {
    fits = omega arith;
    stand = omega arith;
  }
  given_word false = let small = own.0 in let bit = own.1 in let some = own.2 in let e = less in record {
    fits = omega arith;
    stand = omega arith;
  }

  pub free_word : QuartersFrom seen (without_right access.Upgradable seen) 0
  free_word = let small = own.0 in let bit = own.1 in let some = own.2 in let e = less in record {
    fits = omega arith;
    stand = omega arith;
  }

  module _ (n limit : ℕ) (room : limit < 2 ^ 60 - 1) where
    -- no sum wraps
    summed : (t : ℕ) → t ≤ 20 → n < 2 ^ 60 - 1 → seen / 16 - 1 + n + t / 16 < 2 ^ 60 - 1
        → plus (without_right access.Upgradable seen) (plus ((n * 16) % 2 ^ 64) t) ≡ seen - 20 + (n * 16 + t)
    summed t few small_n all = let small = own.0 in let bit = own.1 in let some = own.2 in let e = less in
        let p : (n * 16) % 2 ^ 64 ≡ n * 16 = omega arith in
        let q : (n * 16 + t) % 2 ^ 64 ≡ n * 16 + t = omega arith in
        rw (e, p, q) (omega arith)

    stands : (t part : ℕ) (w : ℕ) (none_left : Bool) → w ≡ seen - 20 + (n * 16 + t) → seen - 20 + (n * 16 + t)
        + 1 < 2 ^ 64 → t / 4 + 4 * n ≡ part → t % 4 ≡ 0 → QuartersFrom seen (parked_as none_left w) part
    stands t part w true e fits p q = let small = own.0 in let bit = own.1 in let some = own.2 in record {
      fits = omega arith;
      stand = omega arith;
    }
    stands t part w false e fits p q = let small = own.0 in let bit = own.1 in let some = own.2 in record {
      fits = omega arith;
      stand = omega arith;
    }

    pub shared_after : (none_left : Bool) → seen / 16 - 1 + n ≤ limit
        → QuartersFrom seen (word_after seen n None none_left) (4 * n)
    shared_after none_left h = stands 0 (4 * n) (plus (without_right access.Upgradable seen)
        (plus ((n * 16) % 2 ^ 64) 0)) none_left (summed 0 (omega arith) (omega arith) (omega arith))
        (let small = own.0 in omega arith) (omega arith) refl

    pub writer_after : (none_left : Bool) → seen / 16 - 1 + n ≤ limit
        → QuartersFrom seen (word_after seen n (Some wants.Exclusive) none_left) (4 * n + 2)
    writer_after none_left h = stands 8 (4 * n + 2) (plus (without_right access.Upgradable seen)
        (plus ((n * 16) % 2 ^ 64) 8)) none_left (summed 8 (omega arith) (omega arith) (omega arith))
        (let small = own.0 in omega arith) (omega arith) refl

    pub upgradable_after : (none_left : Bool) → seen / 16 - 1 + (n + 1) ≤ limit
        → QuartersFrom seen (word_after seen n (Some wants.Upgradable) none_left) (4 * n + 5)
    upgradable_after none_left h = stands 20 (4 * n + 5) (plus (without_right access.Upgradable seen)
        (plus ((n * 16) % 2 ^ 64) 20)) none_left (summed 20 (omega arith) (omega arith) (omega arith))
        (let small = own.0 in omega arith) (omega arith) refl

-- ---------------------------------------------------------------- threads that were taken

-- each thread that a place says it took
by_taken : (P : Taken → Type 0) (ws : List Want) (k : Taken) → AreTaken ws k → P (record {
  sharers = sharers_in ws;
  successor = successor_in ws;
  none_left = k.none_left;
}) → P k
by_taken P ws k taken h = subst P (λ i. record {
  sharers = sym taken.sharers i;
  successor = sym taken.successor i;
  none_left = k.none_left;
}) h

-- an owner alone may store the word of them, and can then hand on what each of them wants
pub record StoreHands (at m : ℕ) (owns : List Ownership) (ws : List Want) : Type 0 where
  pub may : MayStep RwLock at (Store m) owns
  pub hands : (seen : ℕ) → CodesWith RwLock at seen owns
      → Hands at m ws (owns_after_step RwLock at (Store m) seen owns) (without (owning at Exclusive) owns)

module _ (at : ℕ) (owns : List Ownership) (mine : has (owning at Exclusive) owns ≡ true) where
  may_store : (m : ℕ) → m < 2 ^ 64 → m / 4 % 4 ≤ 2 → m / 4 ≢ 1 → MayStep RwLock at (Store m) owns
  may_store m fits small not_one = dite (ℕ_discrete (m / 4) 2)
      (λ two n owners below code kept agrees. stays at owns (Store m) n m owners code kept (let some =
      there at owns (Store m) n m owners code kept Exclusive exclusive refl mine in let c₀ = code.0
      in let c₁ = code.1 in let c₂ = code.2 some in omega arith))
      (λ not_two. (rwlock_steps at owns).hand_over m mine fits small not_one not_two)

  module _ (ws : List Want) (none_left : Bool) (one : more_in ws ≤ 1) (few : length ws < 2 ^ 60) where
    writer_stored : (y : Want) → IsWriter y → successor_in ws ≡ Some y
        → StoreHands at (word_of (sharers_in ws) (Some wants.Exclusive) none_left) owns ws
    writer_stored y w e = let all = all_counted ws in let some = some_more ws y e in let q =
        writer_word (sharers_in ws) none_left (omega arith) in let z = q.stand in record {
          may = may_store (word_of (sharers_in ws) (Some wants.Exclusive) none_left) q.fits (omega arith)
              (λ f. omega arith);
          hands = λ seen code. to_writer_by_store at seen (word_of (sharers_in ws) (Some wants.Exclusive)
              none_left) owns code mine ws y w (omega arith) e z;
        }

    store_hands_by : (o : Option Want) → successor_in ws ≡ o
        → StoreHands at (word_of (sharers_in ws) o none_left) owns ws
    store_hands_by None e = let all = all_counted ws in let q = shared_word (sharers_in ws) none_left
        (omega arith) in let z = q.stand in record {
          may = may_store (word_of (sharers_in ws) None none_left) q.fits (omega arith) (λ f. omega arith);
          hands = λ seen code. to_sharers_by_store at seen (word_of (sharers_in ws) None none_left) owns code
              mine
              ws (none_more ws e) z;
        }
    store_hands_by (Some wants.Upgradable) e = let all = all_counted ws in let some =
        some_more ws wants.Upgradable e in let q = upgradable_word (sharers_in ws) none_left (omega arith)
        in let z = q.stand in record {
          may = may_store (word_of (sharers_in ws) (Some wants.Upgradable) none_left) q.fits (omega arith)
              (λ f. omega arith);
          hands = λ seen code. to_upgradable_by_store at seen (word_of (sharers_in ws) (Some wants.Upgradable)
              none_left) owns code mine ws (omega arith) e z;
        }
    store_hands_by (Some wants.Shared) e = absurd (no_sharer ws e)
    store_hands_by (Some wants.Exclusive) e = writer_stored wants.Exclusive tt e
    store_hands_by (Some wants.Wait) e = writer_stored wants.Wait tt e
    store_hands_by (Some wants.CallOnce) e = writer_stored wants.CallOnce tt e

  pub store_hands : (ws : List Want) (k : Taken) → AreTaken ws k
      → StoreHands at (parked_as k.none_left (tokens k)) owns ws
  store_hands ws k taken = by_taken (λ (j : Taken). StoreHands at (parked_as j.none_left (tokens j)) owns ws)
      ws k taken (store_hands_by ws k.none_left taken.one taken.few (successor_in ws) refl)

  -- as its act needs, and as it leaves its thread
  pub store_needs : (ws : List Want) (k : Taken) → AreTaken ws k
      → HandsEach RwLock at (Store (parked_as k.none_left (tokens k))) owns ws
  store_needs ws k taken seen code won = ((store_hands ws k taken).hands seen code).0

  pub store_leaves : (ws : List Want) (k : Taken) → AreTaken ws k → (seen : ℕ) → CodesWith RwLock at seen owns
      → owns_when_handed RwLock at (Store (parked_as k.none_left (tokens k))) seen ws owns ≡ without
      (owning at Exclusive) owns
  store_leaves ws k taken seen code = ((store_hands ws k taken).hands seen code).1

-- an upgradable owner may exchange the word that it saw for that of them, and can then hand on what each of
-- them wants
pub record ExchangeHands (at seen m : ℕ) (owns : List Ownership) (ws : List Want) : Type 0 where
  pub may : MayStep RwLock at (Exchange seen m) owns
  pub hands : CodesWith RwLock at seen owns
      → Hands at m ws (owns_after_step RwLock at (Exchange seen m) seen owns)
      (without (owning at Upgradable) owns)

-- the word that an upgradable owner sees tells of it
pub sees_own : (at seen : ℕ) (owns : List Ownership) → CodesWith RwLock at seen owns
    → has (owning at Upgradable) owns ≡ true → IsUpgradableWord seen
sees_own at seen owns code mine = let some = some_upgradable at seen 0 owns code mine in let c₀ = code.1.0
    in let c₁ = code.1.1 in (fits at seen owns code, omega arith, omega arith)

-- where a place tells of nobody, nobody was taken
pub nobody_taken : (ws : List Want) (k : Taken) → AreTaken ws k → any_taken k ≡ false → ws ≡ []
nobody_taken ws k taken none = by_taken (λ (j : Taken). any_taken j ≡ false → ws ≡ []) ws k taken (by_list ws)
    none
  where
    never : (b : Bool) → (b || true) ≡ false → ⊥
    never true e = cc
    never false e = cc

    by_list : (ws : List Want) → (not (sharers_in ws == 0) || is_there (successor_in ws)) ≡ false → ws ≡ []
    by_list [] e = refl
    by_list (wants.Shared ∷ ws) e = let some : (sharers_in (wants.Shared ∷ ws) == 0) ≡ false =
        ne_eqb (sharers_in (wants.Shared ∷ ws)) 0 (λ z. omega arith) in
        let f : true ≡ false = sym (ap (λ (b : Bool). not b || is_there (successor_in (wants.Shared ∷ ws)))
        some) ∙ e in absurd (never true f)
    by_list (x ∷ ws) e = absurd (never (not (sharers_in ws == 0)) e)

-- a test that says so
pub at_most : (m n : ℕ) → nat_le m n ≡ true → m ≤ n
at_most m n e = grind (arith, nat_tests)

module _ (at : ℕ) (owns : List Ownership) (mine : has (owning at Upgradable) owns ≡ true) (seen : ℕ)
    (own : IsUpgradableWord seen) where
  -- one that only gives the right up
  pub may_give_up : (m : ℕ) → QuartersFrom seen m 0 → MayStep RwLock at (Exchange seen m) owns
  may_give_up m q = (rwlock_steps at owns).hand_upgradable seen m 0 mine q.fits q.stand (omega arith)
      (λ z. omega arith)

  pub owns_given_up : (m : ℕ) → QuartersFrom seen m 0 → CodesWith RwLock at seen owns
      → owns_after_step RwLock at (Exchange seen m) seen owns ≡ without (owning at Upgradable) owns
  owns_given_up m q code = let e = q.stand in gives_up at seen m owns code mine (omega arith)

  module _ (limit : ℕ) (room : limit < 2 ^ 60 - 1) (ws : List Want) (none_left : Bool) (one : more_in ws ≤ 1)
    where
      may_hand : (m part : ℕ) → QuartersFrom seen m part → part % 4 ≤ 2 → part ≢ 1
          → MayStep RwLock at (Exchange seen m) owns
      may_hand m part q small not_one = (rwlock_steps at owns).hand_upgradable seen m part mine q.fits q.stand
          small not_one

      writer_exchanged : (y : Want) → IsWriter y → successor_in ws ≡ Some y → seen / 16 - 1 + sharers_in ws
          ≤ limit → ExchangeHands at seen (word_after seen (sharers_in ws) (Some wants.Exclusive) none_left)
          owns ws
      writer_exchanged y w e h = let some = some_more ws y e in let q = writer_after seen own (sharers_in ws)
          limit room none_left h in record {
            may = may_hand (word_after seen (sharers_in ws) (Some wants.Exclusive) none_left)
                (4 * sharers_in ws
                + 2) q (omega arith) (λ z. omega arith);
            hands = λ code. to_writer at seen (word_after seen (sharers_in ws) (Some wants.Exclusive)
                none_left)
                owns code mine ws y w (omega arith) e q.stand;
          }

      exchange_hands_by : (o : Option Want) → successor_in ws ≡ o → has_room limit (record {
        sharers = sharers_in ws;
        successor = o;
        none_left = none_left;
      }) seen ≡ true → ExchangeHands at seen (word_after seen (sharers_in ws) o none_left) owns ws
      exchange_hands_by None e fits = let h = at_most (seen / 16 - 1 + (sharers_in ws + 0)) limit fits
          in let q = shared_after seen own (sharers_in ws) limit room none_left (omega arith) in record {
            may = may_hand (word_after seen (sharers_in ws) None none_left) (4 * sharers_in ws) q
                (omega arith)
                (λ z. omega arith);
            hands = λ code. to_sharers at seen (word_after seen (sharers_in ws) None none_left) owns code
                mine ws
                (none_more ws e) q.stand;
          }
      exchange_hands_by (Some wants.Upgradable) e fits = let some = some_more ws wants.Upgradable e in let h =
          at_most (seen / 16 - 1 + (sharers_in ws + 1)) limit fits in let q =
          upgradable_after seen own (sharers_in ws) limit room none_left h in record {
            may = may_hand (word_after seen (sharers_in ws) (Some wants.Upgradable) none_left)
                (4 * sharers_in ws
                + 5) q (omega arith) (λ z. omega arith);
            hands = λ code. to_upgradable at seen (word_after seen (sharers_in ws) (Some wants.Upgradable)
                none_left) owns code mine ws (omega arith) e q.stand;
          }
      exchange_hands_by (Some wants.Shared) e fits = absurd (no_sharer ws e)
      exchange_hands_by (Some wants.Exclusive) e fits = let h = at_most (seen / 16 - 1 + (sharers_in ws + 0))
          limit fits in writer_exchanged wants.Exclusive tt e (omega arith)
      exchange_hands_by (Some wants.Wait) e fits = let h = at_most (seen / 16 - 1 + (sharers_in ws + 0)) limit
          fits in writer_exchanged wants.Wait tt e (omega arith)
      exchange_hands_by (Some wants.CallOnce) e fits = let h = at_most (seen / 16 - 1 + (sharers_in ws + 0))
          limit fits in writer_exchanged wants.CallOnce tt e (omega arith)

  module _ (limit : ℕ) (room : limit < 2 ^ 60 - 1) (ws : List Want) (k : Taken) (taken : AreTaken ws k)
      (fits : has_room limit k seen ≡ true) where
    pub exchange_hands : ExchangeHands at seen (with_taken access.Upgradable k seen) owns ws
    exchange_hands = by_taken (λ (j : Taken). has_room limit j seen ≡ true
        → ExchangeHands at seen (with_taken access.Upgradable j seen) owns ws) ws k taken
        (exchange_hands_by limit room ws k.none_left taken.one (successor_in ws) refl) fits

    abbrev handed_word : ℕ
    handed_word = with_taken access.Upgradable k seen

    left : apply (Exchange seen (with_taken access.Upgradable k seen)) seen ≡ with_taken access.Upgradable k
        seen
    left = rw (eq-eqb seen seen refl) refl

    pub exchange_needs : HandsEach RwLock at (Exchange seen (with_taken access.Upgradable k seen)) owns ws
    exchange_needs found code won = subst (λ (f : ℕ). CodesWith RwLock at f owns
        → HasAll at (owners_given RwLock (apply (Exchange seen handed_word) f) ws)
        (owns_after_step RwLock at (Exchange seen handed_word) f owns)) (sym (eqb-true found seen won))
        (λ c. subst (λ (m : ℕ). HasAll at (owners_given RwLock m ws) (owns_after_step RwLock at
        (Exchange seen handed_word) seen owns)) (sym left) (exchange_hands.hands c).0) code

    pub exchange_leaves : CodesWith RwLock at seen owns → owns_when_handed RwLock at
        (Exchange seen (with_taken access.Upgradable k seen)) seen ws owns ≡ without (owning at Upgradable)
        owns
    exchange_leaves code = ap (λ (m : ℕ). without_all at (owners_given RwLock m ws)
        (owns_after_step RwLock at (Exchange seen handed_word) seen owns)) left
        ∙ (exchange_hands.hands code).1
