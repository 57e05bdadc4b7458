-- A step on a reader-writer lock's word keeps the ownership that is claimed, or turns it into what
-- is claimed then.
use Rattle.std.proofs.Common.{ℕ, Bool, true, false, List, ◌∷◌, Option, Some, ◌≡◌, ◌≢◌, ◌⊎◌, inl, inr, ◌+◌}
use Rattle.std.proofs.Common.{◌-◌, ◌/◌, ◌%◌, ◌<◌, cond, eqb, refl, ap, ◌∙◌, sym, subst, arith, eq-eqb, ne_eqb}
use mathlib.Core.Logic.{dite}
use native.Mathlib.Decide.{ℕ_discrete}
use Rattle.core_base.specs.Words.{apply}
use Rattle.core_base.specs.declared.ops.Op.{Op}
use Rattle.core_base.specs.declared.ops.Op.TheVariants.{Add, Sub, Exchange}
use Rattle.core_base.specs.declared.wants.Want.TheVariants as wants
use Rattle.spec_locks.specs.Sites.{Claim, Has, Pends}
use Rattle.core_words.specs.Steps.{CodesWith, has, is_look, owns_after_step}
use Rattle.core_words.specs.Views.{owning}
use Rattle.core_words.specs.declared.owners.Owner.{Owner}
use Rattle.core_words.specs.declared.owners.Owner.TheVariants as owners
use Rattle.core_words.specs.declared.owners.Ownership.{Ownership}
use Rattle.core_words.specs.declared.words.WordKind.TheVariants as kinds
use Rattle.core_words.proofs.RwLockOwning.{keeps_all, keeps_beside_readers, keeps_settled, looks_alone}
use Rattle.core_words.proofs.RwLockOwning.{upgrade_looks_alone, upgradable_keeps, downgraded_to_upgradable}
use Rattle.core_words.proofs.RwLockOwning.{fallen_back, pending_is_left, read, read_upgradable, writer_comes}
use Rattle.core_words.proofs.RwLockOwning.{tried_upgrade}
use Rattle.run_base.specs.Paths.{rwlock_at}
use Rattle.run_base.specs.RwLockFitting.{IsBeside, OwnsBeside, OwnsRight}

-- a failed exchange is a look
pub missed_same : (from to seen : ℕ) → seen ≢ from → apply (Exchange from to) seen / 4 ≡ seen / 4
missed_same from to seen other = rw (ne_eqb seen from other) refl

pub missed_looks : (from to seen : ℕ) → seen ≢ from → is_look (Exchange from to) seen ≡ true
missed_looks from to seen other = rw (ne_eqb seen from other) refl

-- A step that sets a parked bit leaves the owners.
pub marked_same : (from by : ℕ) → from % 4 + by < 4 → apply (Exchange from (from + by)) from / 4 ≡ from / 4
marked_same from by small = rw (eq-eqb from from refl) (omega (arith, small))

pub marked_looks : (from to : ℕ) → is_look (Exchange from to) from ≡ false
marked_looks from to = rw (eq-eqb from from refl) refl

-- a thread that owns alone waits for nobody
pub alone_pends : (l : ℕ) (base owns : List Ownership) (b : Bool) → OwnsRight l wants.Exclusive base owns
    → OwnsBeside l (Some (Pends b)) base owns
alone_pends l base owns b c = (c.0, c.1, inl c.2, c.3, c.4)

module _ (l : ℕ) (base owns : List Ownership) (seen : ℕ) (code : CodesWith kinds.RwLock (rwlock_at l) seen
    owns) where
  abbrev after : Op → List Ownership
  after op = owns_after_step kinds.RwLock (rwlock_at l) op seen owns

  pub kept : (op : Op) (c : Option Claim) → owns_after_step kinds.RwLock (rwlock_at l) op seen owns ≡ owns
      → OwnsBeside l c base owns → OwnsBeside l c base (owns_after_step kinds.RwLock (rwlock_at l) op seen
      owns)
  kept op c e there = subst (OwnsBeside l c base) (sym e) there

  -- a step that is no look, and keeps the owners of the word
  pub unlooked : (op : Op) (c : Option Claim) → apply op seen / 4 ≡ seen / 4 → is_look op seen ≡ false
      → OwnsBeside l c base owns → OwnsBeside l c base (owns_after_step kinds.RwLock (rwlock_at l) op seen
      owns)
  unlooked op c same no_look there = kept op c (keeps_all (rwlock_at l) seen owns code op same no_look) there

  pub look_beside : (op : Op) → apply op seen / 4 ≡ seen / 4 → IsBeside l base owns
      → IsBeside l base (owns_after_step kinds.RwLock (rwlock_at l) op seen owns)
  look_beside op same beside settled = let e = beside settled in
      keeps_settled (rwlock_at l) seen owns code op same
      (subst (λ (x : List Ownership). has (owning (rwlock_at l) owners.Pending) x ≡ false) (sym e)
      settled.0) (subst (λ (x : List Ownership). has (owning (rwlock_at l) owners.Upgrading) x ≡ false)
      (sym e) settled.1) ∙ e

  -- the claim, by the owner that it names
  of_owner : (o w : Owner) (rest : List Ownership) → w ≡ o → owns ≡ owning (rwlock_at l) w ∷ rest
      → owns ≡ owning (rwlock_at l) o ∷ rest
  of_owner o w rest is e = e ∙ ap (λ (x : Owner). owning (rwlock_at l) x ∷ rest) is

  pub look_upgradable : (op : Op) → apply op seen / 4 ≡ seen / 4 → OwnsRight l wants.Upgradable base owns
      → OwnsRight l wants.Upgradable base (owns_after_step kinds.RwLock (rwlock_at l) op seen owns)
  look_upgradable op same c = kept op (Some (Has wants.Upgradable)) (upgradable_keeps (rwlock_at l) seen owns
      code c.1 op (of_owner owners.Upgradable c.0 c.1 c.2 c.4) same) c

  -- a pending writer that finds readers waits on, and else it owns alone
  pub look_pending : (op : Op) (b : Bool) → apply op seen / 4 ≡ seen / 4 → seen / 16 ≢ 0
      → OwnsBeside l (Some (Pends b)) base owns → OwnsBeside l (Some (Pends b)) base
      (owns_after_step kinds.RwLock (rwlock_at l) op seen owns)
  look_pending op b same some c = kept op (Some (Pends b)) (keeps_beside_readers (rwlock_at l) seen owns code
      op same some) c

  pub look_alone : (op : Op) (b : Bool) → apply op seen / 4 ≡ seen / 4 → is_look op seen ≡ true
      → seen / 16 ≡ 0 → OwnsBeside l (Some (Pends b)) base owns → OwnsRight l wants.Exclusive base
      (owns_after_step kinds.RwLock (rwlock_at l) op seen owns)
  look_alone op false same look none c = (
    owners.Exclusive,
    c.1,
    refl,
    c.3,
    looks_alone (rwlock_at l) seen owns code c.1 op c.0 c.2 c.4 same look none,
  )
  look_alone op true same look none c = elim c.2 [
    | inl x ↦ (
      owners.Exclusive,
      c.1,
      refl,
      c.3,
      looks_alone (rwlock_at l) seen owns code c.1 op c.0 (inl x)
          c.4 same look none,
    )
    | inr g ↦ (
      owners.Exclusive,
      c.1,
      refl,
      c.3,
      upgrade_looks_alone (rwlock_at l) seen owns code c.1 op
          (of_owner owners.Upgrading c.0 c.1 g c.4) same look none,
    )
  ]

  -- a pending writer that looks is one or the other
  pub look_waits : (op : Op) (b : Bool) → apply op seen / 4 ≡ seen / 4 → is_look op seen ≡ true
      → OwnsBeside l (Some (Pends b)) base owns → OwnsBeside l (Some (Pends b)) base
      (owns_after_step kinds.RwLock (rwlock_at l) op seen owns)
  look_waits op b same look c = dite (ℕ_discrete (seen / 16) 0)
      (λ none. alone_pends l base (owns_after_step kinds.RwLock (rwlock_at l) op seen owns) b
      (look_alone op b same look none c))
      (λ some. look_pending op b same some c)

  -- a pending writer that gives up
  pub rolls_back : OwnsBeside l (Some (Pends false)) base owns
      → IsBeside l base (owns_after_step kinds.RwLock (rwlock_at l) (Sub 8) seen owns)
  rolls_back c settled = pending_is_left (rwlock_at l) seen owns code c.1 c.0 c.2 c.4 ∙ c.3 settled

  pub falls_back : OwnsBeside l (Some (Pends true)) base owns → OwnsRight l wants.Upgradable base
      (owns_after_step kinds.RwLock (rwlock_at l) (Add 12) seen owns)
  falls_back c = elim c.2 [
    | inl x ↦ (
      owners.Upgradable,
      c.1,
      refl,
      c.3,
      downgraded_to_upgradable (rwlock_at l) seen owns code c.1
          (of_owner owners.Exclusive c.0 c.1 x c.4),
    )
    | inr g ↦ (
      owners.Upgradable,
      c.1,
      refl,
      c.3,
      fallen_back (rwlock_at l) seen owns code c.1
          (of_owner owners.Upgrading c.0 c.1 g c.4),
    )
  ]

  -- the exchange that enters
  pub reads : (seen / 8 % 2 ≡ 0) ⊎ (0 < seen / 16) → IsBeside l base owns → OwnsRight l wants.Shared base
      (owns_after_step kinds.RwLock (rwlock_at l) (Exchange seen (seen + 16)) seen owns)
  reads free beside = (owners.Shared, owns, refl, beside, read (rwlock_at l) seen owns code free)

  pub reads_upgradable : seen / 4 % 4 ≡ 0 → IsBeside l base owns → OwnsRight l wants.Upgradable base
      (owns_after_step kinds.RwLock (rwlock_at l) (Exchange seen (seen + 20)) seen owns)
  reads_upgradable free beside = (
    owners.Upgradable,
    owns,
    refl,
    beside,
    read_upgradable (rwlock_at l) seen
        owns code free,
  )

  pub writes : seen / 4 % 4 ≡ 0 → IsBeside l base owns → OwnsBeside l (Some (Pends false)) base
      (owns_after_step kinds.RwLock (rwlock_at l) (Exchange seen (seen + 8)) seen owns)
  writes free beside = (
    cond (eqb seen 0) owners.Exclusive owners.Pending,
    owns,
    which (eqb seen 0),
    beside,
    writer_comes (rwlock_at l) seen owns code free,
  )
    where
      which : (b : Bool) → (cond b owners.Exclusive owners.Pending ≡ owners.Exclusive)
          ⊎ (cond b owners.Exclusive owners.Pending ≡ owners.Pending)
      which true = inl refl
      which false = inr refl

  pub writes_alone : seen ≡ 0 → IsBeside l base owns → OwnsRight l wants.Exclusive base
      (owns_after_step kinds.RwLock (rwlock_at l) (Exchange 0 8) seen owns)
  writes_alone z beside = (
    owners.Exclusive,
    owns,
    refl,
    beside,
    subst (λ (n : ℕ). CodesWith kinds.RwLock (rwlock_at l) n owns → owns_after_step kinds.RwLock
        (rwlock_at l) (Exchange 0 8) n owns ≡ owning (rwlock_at l) owners.Exclusive ∷ owns) (sym z)
        (λ c. writer_comes (rwlock_at l) 0 owns c refl) code,
  )

  pub upgrades : seen / 16 ≡ 1 → OwnsRight l wants.Upgradable base owns → OwnsRight l wants.Exclusive base
      (owns_after_step kinds.RwLock (rwlock_at l) (Exchange seen (seen - 12)) seen owns)
  upgrades one c = (
    owners.Exclusive,
    c.1,
    refl,
    c.3,
    tried_upgrade (rwlock_at l) seen owns code c.1
        (of_owner owners.Upgradable c.0 c.1 c.2 c.4) one,
  )
