-- The kinds of step on words that are tied to the word of a mutex.
use Rattle.std.proofs.Common.{◌≡◌, ◌≢◌, inl, inr, ℕ, ◌+◌, ◌<◌, List, get_or, cond, refl, ap}
use Rattle.std.proofs.Common.{eq-eqb, ne_eqb}
use mathlib.Core.Logic.{dite}
use mathlib.Core.Option.{none}
use native.Mathlib.Decide.{ℕ_discrete}
use Rattle.atomic_table.specs.Table.{Me, Allows, step}
use Rattle.core_base.specs.Words.{apply}
use Rattle.core_base.specs.declared.ops.Op.{Op}
use Rattle.core_base.specs.declared.ops.Op.TheVariants.{Load, Store, Exchange}
use Rattle.core_words.specs.Indices.{word_index}
use Rattle.core_words.specs.Codes.{ShowsBeside}
use Rattle.core_words.specs.Plays.{sees_shown}
use Rattle.core_words.specs.Rule.{LotRule, MayBeShown}
use Rattle.core_words.specs.Steps.{MayTie, MayStep}
use Rattle.core_words.specs.Laws.{CondvarMaySteps, CountMaySteps}
use Rattle.core_words.specs.declared.owners.Ownership.{Ownership}
use Rattle.core_words.specs.declared.views.View.{View}
use Rattle.core_words.specs.declared.words.WordKind.TheVariants.{Condvar}
use Rattle.core_parts.specs.declared.slot.PermitSlot.{PermitSlot}
use Rattle.core_words.specs.Permits.{slots_of}
use Rattle.core_words.proofs.Keeps.{shows_more}
use Rattle.core_words.proofs.Stepping.{steps}

-- the law of steps on a condition variable's word
condvar_step : (at : ℕ) (op : Op) (owns : List Ownership) → ((n : ℕ) → MayTie Condvar at n (apply op n) owns)
    → MayStep Condvar at op owns
condvar_step at op owns ok n owners fits code mine agrees = (tt, (λ after same. tt), ok n)

pub condvar_steps : CondvarMaySteps
condvar_steps at owns = record {
  load = condvar_step at Load owns (λ n. inl refl);
  show = λ mutex other there. condvar_step at (Exchange 0 (mutex + 1)) owns (λ n. dite (ℕ_discrete n 0)
      (λ e. inr (inr (mutex, ap (λ b. cond b (mutex + 1) n) (eq-eqb n 0 e), (other, there))))
      (λ ne. inl (ap (λ b. cond b (mutex + 1) n) (ne_eqb n 0 ne))));
  hide = condvar_step at (Store 0) owns (λ n. inr (inl refl));
}

pub count_steps : CountMaySteps
count_steps mutex owns = record { load = λ n owners fits code mine agrees. (tt, (λ after same. tt), refl) }

-- a load of a condition variable's word, which tells what it may show
pub sees_shown_allowed : (words family slots id : ℕ) (me : Me PermitSlot View) (number : ℕ) → number < words
    → me.1 ≡ slots_of family me.0.out
    → let i = word_index number Condvar in Allows (LotRule words family) slots id me i (λ n. n)
    (sees_shown family words number (step slots i 0 0 none) me)
sees_shown_allowed words family slots id me number below held s o wide at fits =
    let t = steps words family slots id me number Condvar Load below held
    ((condvar_steps (word_index number Condvar) me.0.owns).load) s o wide at fits in
    let n : ℕ = get_or s.words (word_index number Condvar) 0 in
    let shown : ShowsBeside words number n = shows_more (MayBeShown words number s.views)
    (λ mutex. (mutex < words) × (mutex ≢ number)) n (λ k h. (h.0, h.1)) (o.shows number below) in
    (t.0, t.1, t.2, t.3, (t.4, shown))
