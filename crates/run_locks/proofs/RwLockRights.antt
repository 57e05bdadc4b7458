-- A thread's rights after calls of a reader-writer lock.
use Rattle.std.proofs.Common.{ℕ, Bool, true, false, List, ◌∷◌, Some, None, ◌≡◌, ◌==◌, ◌<◌, ◌-◌, ◌^◌}
use Rattle.std.proofs.Common.{if◌then◌else◌, inl, inr, refl, ap, ◌∙◌, sym, eq-eqb}
use Rattle.core_base.specs.declared.ops.Op.TheVariants.{Exchange}
use Rattle.core_base.specs.declared.wants.Want.{Want}
use Rattle.core_base.specs.declared.wants.Want.TheVariants as wants
use Rattle.spec_locks.specs.declared.calls.Access.TheVariants as access
use Rattle.spec_locks.specs.declared.calls.Patience.{Patience}
use Rattle.spec_locks.specs.declared.calls.Patience.TheVariants.{Patient, Timed, Try}
use Rattle.spec_locks.specs.declared.outcomes.Answer.{Answer}
use Rattle.spec_locks.specs.declared.outcomes.Answer.TheVariants as answers
use Rattle.steps_base.specs.declared.acts.Reply.TheVariants.{Value}
use Rattle.steps_rwlock.specs.RwLockSteps.{entered}
use Rattle.steps_rwlock.specs.declared.places.Admission.{Admission}
use Rattle.steps_rwlock.specs.declared.purposes.RwLockPurpose.{RwLockPurpose}
use Rattle.steps_rwlock.specs.declared.purposes.RwLockPurpose.TheVariants as purpose
use Rattle.lot_steps.specs.Steps.{next_act}
use Rattle.core_words.specs.Indices.{word_index}
use Rattle.core_words.specs.Rights.{owner_for}
use Rattle.core_words.specs.Steps.{CodesWith, after_step}
use Rattle.core_words.specs.Views.{owning}
use Rattle.core_words.specs.declared.owners.Ownership.{Ownership}
use Rattle.core_words.specs.declared.words.Word.{Word}
use Rattle.core_words.specs.declared.words.WordKind.TheVariants as kinds
use Rattle.parking_lot_core.specs.Tokens.{view_of, last_of, told_of}
use Rattle.parking_lot_core.specs.declared.tokens.Token.{Token}
use Rattle.run_base.specs.Fitting.{answer_of}
use Rattle.run_base.specs.Paths.{rwlock_at}
use Rattle.run_base.specs.RwLockCalls.{BeginsWith, HasWalkedRwLock, rwlock_begin}
use Rattle.run_base.specs.RwLockFitting.{Answers, LeftBy, MayGiveUp, OwnsRight}
use Rattle.run_base.specs.Stages.{ThreadState, stage_of}
use Rattle.run_locks.proofs.RwLockCalling.{begins_entering, ended_on, entered_right, path_ended, saw, started}

-- a right that is joined is owned beside what was owned before
pub joined_beside : (l : ℕ) (given x : Want) (base owns : List Ownership) → given ≡ x → owns
    ≡ owning (rwlock_at l) (owner_for given) ∷ base → OwnsRight l x base owns
joined_beside l given x base owns same e = (
  owner_for x,
  base,
  refl,
  (λ settled. refl),
  e
      ∙ ap (λ (w : Want). owning (rwlock_at l) (owner_for w) ∷ base) same,
)

-- ---------------------------------------------------------------- upgrades

pub begins_upgrading : (l : ℕ) (how : Patience) (base owns : List Ownership)
    → OwnsRight l wants.Upgradable base owns → BeginsWith l (purpose.Upgrade how) base owns
begins_upgrading l Patient base owns right = right
begins_upgrading l Timed base owns right = right
begins_upgrading l Try base owns right = right

no_entry : (how : Patience) → entered how ≡ answers.No → ⊥
no_entry Patient e = cc
no_entry Timed e = cc
no_entry Try e = cc

module _ (up : Type 0) (l : ℕ) (base : List Ownership) (a : Admission) (how : Patience) (answer : Answer)
    (st : ThreadState) (h : Answers up l base a (purpose.Upgrade how) answer st) where
  pub upgraded : (answer ≡ answers.No → ⊥) → (answer ≡ entered how) × OwnsRight l wants.Exclusive base st.owns
  upgraded some = elim h [
    | inl got ↦ got
    | inr none ↦ absurd (some none.0)
  ]

  pub fell_back : answer ≡ answers.No → MayGiveUp up how × OwnsRight l wants.Upgradable base st.owns
  fell_back is = elim h [
    | inl got ↦ absurd (no_entry how (sym got.0 ∙ is))
    | inr none ↦ (none.1, none.2)
  ]

  pub fell_back_left : answer ≡ answers.No → LeftBy l a (purpose.Upgrade how) st.last st.steps
  fell_back_left is = elim h [
    | inl got ↦ absurd (no_entry how (sym got.0 ∙ is))
    | inr none ↦ none.3
  ]

-- ---------------------------------------------------------------- a writer's try

module _ (word : Word) (is : word.kind ≡ kinds.RwLock) (a : Admission) (room : a.limit < 2 ^ 60 - 1)
    (seen : ℕ) (old new : Token) (stepped : view_of new ≡ after_step word.kind
    (word_index word.number word.kind) (Exchange 0 8) seen (view_of old)) where
  abbrev try : RwLockPurpose
  try = purpose.Enter access.Exclusive Try

  abbrev told : Bool → Answer
  told b = if b then answers.Yes else answers.No

  answered : (b : Bool) → (seen == 0) ≡ b → answer_of (next_act (rwlock_begin word.number a try) (Value seen))
      ≡ Some (told b)
  answered true e = rw e refl
  answered false e = rw e refl

  pub tried : told_of new ≡ told_of old → (b : Bool) → (seen == 0) ≡ b
      → HasWalkedRwLock word.number a try (told b) old new
  tried untold b e = path_ended word.number a try seen (told b) old new
      (saw word is try (Exchange 0 8) seen old new refl stepped) untold (answered b e)

  pub took : last_of new ≡ None → CodesWith word.kind (word_index word.number word.kind) seen
      (view_of old).owns → seen ≡ 0 → OwnsRight word.number wants.Exclusive (view_of old).owns
      (view_of new).owns
  took last code zero = let owns = (view_of old).owns in
      let over = (ended_on ⊥ word.number a owns try (stage_of old None) (stage_of new None) seen refl room
      answers.Yes (begins_entering word.number access.Exclusive Try owns)
      (started word is try (Exchange 0 8) seen old new refl stepped last code)
      (answered true (eq-eqb seen 0 zero))).0 in
      (entered_right ⊥ word.number owns a access.Exclusive Try answers.Yes (stage_of new None) over
      (inr refl)).1
