-- The consequences of the rule, part by part.
use Rattle.std.proofs.Common.{◌≡◌, ℕ, zero, suc, ◌+◌, ◌<◌, ◌≤◌, cond, eqb, refl, ap, arith}
use mathlib.Core.Logic.{dite}
use native.Mathlib.Decide.{ℕ_discrete}
use Rattle.core_words.specs.Indices.{word_index, mutex_of_count}
use Rattle.core_words.specs.Views.{total, total_below, owned, counted, outs}
use Rattle.core_words.specs.Codes.{exclusive}
use Rattle.core_words.specs.RuleLaws.{DrawnOnce, NeverFalls, UntouchedIs0, ShownIsAMutex, CountsAnOwner}
use Rattle.core_words.specs.RuleLaws.{RunsOneAtATime, UnlockedHasItsPermit}
use Rattle.core_words.specs.declared.views.View.{View}
use Rattle.core_words.specs.declared.words.WordKind.TheVariants.{Mutex, Once, Count}
use Rattle.core_words.proofs.Counts.{no_counts}
use Rattle.core_words.proofs.PermitSteps.{out_owned}
use Rattle.core_words.proofs.Totals.{cond_same, cond_other, total-le}

-- a number is counted once below any bound above it
below_none : (n c : ℕ) → c ≤ n → total_below (λ k. cond (eqb k n) 1 0) c ≡ 0
below_none n zero h = refl
below_none n (suc c) h = omega (arith, below_none n c (omega arith), cond_other c n 1 (λ e. omega arith))

below_once : (n c : ℕ) → n < c → total_below (λ k. cond (eqb k n) 1 0) c ≡ 1
below_once n zero h = absurd (omega arith)
below_once n (suc c) h = dite (ℕ_discrete c n)
    (λ e. omega (arith, below_none n c (omega arith), cond_same c n 1 e))
    (λ ne. omega (arith, below_once n c (omega arith), cond_other c n 1 ne))

pub drawn_once : DrawnOnce
drawn_once words family s rule number = let all = rule.drawn (λ k. cond (eqb k number) 1 0) in let enough =
    rule.enough in (
      (λ below. (omega (arith, below_once number _ below), omega arith)),
      λ above. omega (
        arith,
        below_none number _ above,
      ),
    )

pub never_falls : NeverFalls
never_falls words family s rule = rule.saw

pub untouched_is_0 : UntouchedIs0
untouched_is_0 words family s rule = rule.untouched

pub shown_is_a_mutex : ShownIsAMutex
shown_is_a_mutex words family s rule = rule.shows

pub counts_an_owner : CountsAnOwner
counts_an_owner words family s rule number below = let here = rule.counts (number + 1) below in let same =
    here.said in let there : mutex_of_count (word_index (number + 1) Count) ≡ word_index number Mutex =
    omega arith in (
      here.code,
      λ none. omega (
        arith,
        ap (λ (r : ℕ). total (λ (v : View). counted r v.owns) s.views) there,
        no_counts (word_index number Mutex) s.views none,
      ),
    )

pub one_at_a_time : RunsOneAtATime
one_at_a_time words family s rule number below = let code = rule.coded number Once below in let runs = code.1
    in
    (omega (arith, runs), λ some. let done = code.2 some in (done, omega (arith, runs, done)))

pub unlocked_has_its_permit : UnlockedHasItsPermit
unlocked_has_its_permit words family s rule number below even = let i : ℕ = word_index number Mutex
    in let code = rule.coded number Mutex below in let alone = code.2 in
    rule.permits number below (omega (
      arith,
      total-le (outs i) (λ (u : View). owned i exclusive u.owns)
          s.views (λ q u e. out_owned words i u (rule.carried q u e)),
    ))
