-- The two ends of a try of a mutex. It finds the mutex locked, or the seat owns it from then on and
-- its permit is out.
use Rattle.std.proofs.Common.{◌≡◌, ℕ, ◌%◌, ◌<◌, [], ◌∷◌, true, ◌∙◌, ap, refl, subst, sym, arith}
use Rattle.atomic_table.specs.Table.{Me}
use Rattle.atomic_table.specs.declared.shared.Seat.{Seat}
use Rattle.core_words.specs.Indices.{word_index}
use Rattle.core_words.specs.Views.{going_on, owning, shown, with_out}
use Rattle.core_words.specs.Permits.{out_after, slots_of}
use Rattle.core_words.specs.Rights.{named_by}
use Rattle.core_words.specs.Steps.{CodesWith, after_step, has, one_more_step}
use Rattle.core_words.specs.Plays.{TakesStep, TakesStepOf, left_over, stepping}
use Rattle.core_words.specs.Lots.{IsSeatOf}
use Rattle.core_words.specs.declared.table.LotWords.{LotWords}
use Rattle.core_words.specs.declared.owners.Owner.TheVariants.{Exclusive}
use Rattle.core_words.specs.declared.views.View.{View}
use Rattle.core_words.specs.declared.words.Word.{Word}
use Rattle.core_words.specs.declared.words.WordKind.{WordKind}
use Rattle.core_words.specs.declared.words.WordKind.TheVariants.{Mutex}
use Rattle.core_base.specs.declared.ops.Op.TheVariants.{Or}
use Rattle.core_parts.specs.declared.slot.PermitSlot.{PermitSlot}
use Rattle.core_words.proofs.AtWord.{tells_step}
use Rattle.core_words.proofs.MutexSteps.{each_code}
use Rattle.core_words.proofs.Trades.{has_first, without_first}

-- a seat that is as it was is still one of the lot
pub same_seat : (lot : LotWords) (before after : Seat PermitSlot View) → IsSeatOf lot before
    → after.table_id ≡ before.table_id → after.me ≡ before.me → IsSeatOf lot after
same_seat lot before after own table same = let family : ℕ = lot.table.shared.key.1.family in
    (table ∙ own.0, ap (λ m. m.1) same ∙ own.1 ∙ sym (ap (λ m. slots_of family m.0.out) same))

module _ (at family : ℕ) (me after : Me PermitSlot View) where
  abbrev Told : ℕ → Type 0
  Told n = let out = out_after Mutex at (Or 1) n me.0.out
      in after ≡ (with_out out (after_step Mutex at (Or 1) n me.0), slots_of family out)

  abbrev StaysOut : ℕ → Type 0
  StaysOut n = (n % 2 ≡ 0 → ⊥) → Told n → after ≡ (
    with_out me.0.out (stepping me.0 at (Or 1) n),
    slots_of family me.0.out,
  )

  abbrev GoesOut : ℕ → Type 0
  GoesOut n = n % 2 ≡ 0 → Told n
      → after ≡ (
        with_out (at ∷ []) (going_on me.0 (one_more_step me.0 at (Or 1) n) (owning at Exclusive ∷
            me.0.owns) me.0.drawn me.0.saw),
        slots_of family (at ∷ []),
      )

  stays_out : (n : ℕ) → n < 4 → StaysOut n
  stays_out = each_code StaysOut (λ odd. absurd (odd refl)) (λ _ e. e) (λ odd. absurd (odd refl)) (λ _ e. e)

  goes_out : (n : ℕ) → n < 4 → GoesOut n
  goes_out = each_code GoesOut (λ _ e. e) (λ even. absurd (omega arith)) (λ _ e. e)
      (λ even. absurd (omega arith))

module _ (lot : LotWords) (before after : Seat PermitSlot View) (word : Word) (own : IsSeatOf lot before)
    (is : word.kind ≡ Mutex) (family at found : ℕ) (same : family ≡ lot.table.shared.key.1.family)
    (there : at ≡ word_index word.number word.kind) (table : after.table_id ≡ before.table_id)
    (told : TakesStep family at (Or 1) before.me found after.me) where
  abbrev i : ℕ
  i = word_index word.number word.kind

  tells : TakesStepOf family Mutex i (Or 1) before.me found after.me
  tells = subst (λ (k : WordKind). TakesStepOf family k i (Or 1) before.me found after.me) is
      (tells_step family word.number word.kind before.me after.me found there refl told)

  small : found < 4
  small = tells.1.1.0

  pub tried_code : CodesWith word.kind (word_index word.number word.kind) found before.me.0.owns
  tried_code = (tells_step family word.number word.kind before.me after.me found there refl told).1

  pub tried_own : IsSeatOf lot after
  tried_own = (
    table ∙ own.0,
    ap (λ m. m.1) tells.0
        ∙ ap (λ (f : ℕ). slots_of f (out_after Mutex i (Or 1) found before.me.0.out)) same
        ∙ sym (ap (λ m. slots_of lot.table.shared.key.1.family m.0.out) tells.0),
  )

  pub tried_locked : (found % 2 ≡ 0 → ⊥) → shown after.me.0 ≡ stepping before.me.0 i (Or 1) found
  tried_locked odd = ap (λ m. shown m.0) (stays_out i family before.me after.me found small odd tells.0)

  module _ (even : found % 2 ≡ 0) where
    goes : after.me ≡ (
      with_out (i ∷ []) (going_on before.me.0 (one_more_step before.me.0 i (Or 1) found)
          (owning i Exclusive ∷ before.me.0.owns) before.me.0.drawn before.me.0.saw),
      slots_of family (i ∷
          []),
    )
    goes = goes_out i family before.me after.me found small even tells.0

    pub tried_out : after.me.0.out ≡ i ∷ []
    tried_out = ap (λ m. m.0.out) goes

    pub tried_named : has (named_by word Exclusive) after.me.0.owns ≡ true
    tried_named = ap (λ m. has (named_by word Exclusive) m.0.owns) goes ∙ has_first (named_by word Exclusive)
        before.me.0.owns

    pub tried_left : left_over (named_by word Exclusive) after.me.0 ≡ stepping before.me.0 i (Or 1) found
    tried_left = ap (λ m. left_over (named_by word Exclusive) m.0) goes
        ∙ ap (λ owns. going_on before.me.0 (one_more_step before.me.0 i (Or 1) found) owns
        before.me.0.drawn before.me.0.saw) (without_first (named_by word Exclusive) before.me.0.owns)
