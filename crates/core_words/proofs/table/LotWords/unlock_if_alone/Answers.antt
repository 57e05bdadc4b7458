use Rattle.std.proofs.Common.{◌≡◌, ℕ, ⊎_elim, inl, inr, ap, arith, refl, ◌∙◌, sym}
use mathlib.Core.Logic.{dite}
use Rattle.std.proofs.lemmas.Bool.{false≢true}
use native.Mathlib.Decide.{ℕ_discrete}
use Rattle.core_words.specs.Plays.{goes_on_with}
use Rattle.core_words.specs.Rights.{leaving_alone}
use Rattle.core_words.specs.Views.{shown}
use Rattle.core_words.proofs.AtWord.{goes_leaving}
use Rattle.core_words.proofs.table.LotWords.unlock_if_alone.Goals as goal

pub returns-then-leave_alone_tagged-locked-clause-stepped
    : goal.returns-then-leave_alone_tagged-locked-clause-stepped
returns-then-leave_alone_tagged-locked-clause-stepped c = let v = c.args.seat.now.me.0 in let word =
    c.args.word in let found : ℕ = c.leave_alone_tagged.result in
    let same = c.if-leave_alone_tagged-locked.true in
    let one : c.args.locked ≡ 1 = ⊎_elim (λ (e : found ≡ 1). omega (arith, same))
    (λ (e : found ≡ 3). omega (arith, same, c.requires.expects)) c.leave_alone_tagged.ensures.coded in (
      one,
      inl refl,
      c.join_steps.ensures.gone_on ∙ ap (goes_on_with v) (c.leave_alone_tagged.ensures.left one)
          ∙ goes_leaving v word found ∙ ap (leaving_alone v word) (same ∙ one),
    )

pub returns-clause-stepped : goal.returns-clause-stepped
returns-clause-stepped c = let v = c.args.seat.now.me.0 in let word = c.args.word in let found : ℕ =
    c.leave_alone_tagged.result in
    let other = c.if-leave_alone_tagged-locked.false in
    let one : c.args.locked ≡ 1 = dite (ℕ_discrete c.args.locked 1) (λ is. is)
    (λ ne. absurd (false≢true (sym c.if-is_no_step.false
    ∙ c.is_no_step.ensures.1 (omega (arith, ne, c.requires.expects))))) in
    let three : found ≡ 3 = ⊎_elim (λ e. absurd (other (omega (arith, e, one)))) (λ e. e)
    c.leave_alone_tagged.ensures.coded in (
      one,
      inr refl,
      ap shown c.join_owning.ensures.gone_on ∙ ap (goes_on_with v)
          (c.leave_alone_tagged.ensures.left one) ∙ goes_leaving v word found
          ∙ ap (leaving_alone v word) three,
    )
