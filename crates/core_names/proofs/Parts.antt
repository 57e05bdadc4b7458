-- Names and shares are split off and taken in: all is named, said and shared as before.
use Rattle.std.proofs.Common.{◌≡◌, ℕ, ◌+◌, ◌-◌, List, ◌∷◌, cond, eqb, sym, refl, ap}
use Rattle.std.proofs.Common.{subst, arith, inl}
use mathlib.Core.Logic.{dite}
use native.Mathlib.Decide.{ℕ_discrete}
use Rattle.atomic_table.specs.Table.{Splits, Joins}
use Rattle.core_words.specs.Rule.{LotRule}
use Rattle.core_words.specs.Views.{blank, has_number, shared_as}
use Rattle.core_words.specs.declared.views.Counting.{Counting}
use Rattle.core_words.specs.declared.views.Naming.TheVariants.{Thread, From}
use Rattle.core_words.specs.declared.views.View.{View}
use Rattle.core_words.proofs.Seats.{joins, splits}
use Rattle.core_words.proofs.Totals.{cond_same, cond_other}
use Rattle.core_words.proofs.Trades.{zero_either}
use Rattle.core_names.specs.Shares.{named, namer_from, rest_of, share_view, sharing, steps_alone}
use Rattle.core_names.specs.Shares.{takes_shares, without_first_share, without_steps}

-- the numbers from one on are that one, and those from the next on
from_on : (thread t : ℕ) → has_number t (From (thread + 1)) + has_number t (Thread thread) ≡ has_number t
    (From thread)
from_on thread t = dite (ℕ_discrete thread t)
    (λ e. omega (
      arith,
      cond_same thread t 1 e,
      cond_same (thread - t) 0 1 (omega (arith, e)),
      cond_other
          (thread + 1 - t) 0 1 (λ z. omega (arith, e, z)),
    ))
    (λ ne. dite (ℕ_discrete (thread - t) 0)
    (λ z. omega (
      arith,
      cond_other thread t 1 ne,
      cond_same (thread - t) 0 1 z,
      cond_same (thread + 1 - t)
          0 1 (omega (arith, z, ne)),
    ))
    (λ nz. omega (
      arith,
      cond_other thread t 1 ne,
      cond_other (thread - t) 0 1 nz,
      cond_other (thread + 1 -
          t) 0 1 (λ z. omega (arith, z, nz)),
    )))

-- a view without ownerships says nothing
says_none : (k : ℕ) → cond {A = ℕ} (eqb k 0) 0 0 ≡ 0
says_none k = zero_either (eqb k 0)

pub draws_number : (words family id thread : ℕ) → Splits (LotRule words family) id (namer_from thread)
    (namer_from (thread + 1)) (named thread)
draws_number words family id thread = splits words family id (namer_from thread) (namer_from (thread + 1))
    (named thread) (record {
      names = λ r weight. refl;
      says = λ r. refl;
      did = λ r. refl;
      drawn = λ weight. refl;
      out = λ r. refl;
      numbers = λ t. from_on thread t;
      said = λ t r. omega (
        arith,
        says_none (has_number t (From (thread + 1))),
        says_none (has_number t (Thread
            thread)),
        says_none (has_number t (From thread)),
      );
      shares = λ t at. refl;
    }) (omega arith) (omega arith) (λ c. (inl refl, inl refl))

pub gives_share : (words family id : ℕ) (v : View) (at thread : ℕ) (rest : List Counting) → v.shares ≡
    sharing at thread ∷ rest → Splits (LotRule words family) id v (without_first_share v) (share_view at
    thread)
gives_share words family id v at thread rest shares = splits words family id v (without_first_share v)
    (share_view at thread) (record {
      names = λ r weight. omega arith;
      says = λ r. omega arith;
      did = λ r. omega arith;
      drawn = λ weight. omega arith;
      out = λ r. omega arith;
      numbers = λ t. omega arith;
      said = λ t r. omega arith;
      shares = λ t r. let tail = ap rest_of shares in omega (
        arith,
        ap (shared_as t r) shares,
        ap (shared_as t
            r) tail,
      );
    }) (omega arith) (omega arith) (λ c. (c, inl refl))

pub passes_steps : (words family id : ℕ) (v : View) → Splits (LotRule words family) id v (without_steps v)
    (steps_alone v)
passes_steps words family id v = splits words family id v (without_steps v) (steps_alone v) (record {
  names = λ r weight. omega arith;
  says = λ r. omega arith;
  did = λ r. omega arith;
  drawn = λ weight. omega arith;
  out = λ r. omega arith;
  numbers = λ t. omega arith;
  said = λ t r. omega arith;
  shares = λ t r. omega arith;
}) (omega arith) (omega arith) (λ c. (c, inl refl))

pub takes_share : (words family id : ℕ) (v : View) (other : ℕ) (w : View) (at thread : ℕ) → w ≡ share_view
    at thread → Joins (LotRule words family) id v other w (takes_shares v w) blank
takes_share words family id v other w at thread is = subst (λ (u : View). Joins (LotRule words family) id v
    other u (takes_shares v u) blank) (sym is)
    (joins words family id v other (share_view at thread) (takes_shares v (share_view at thread)) (record {
      names = λ r weight. omega arith;
      says = λ r. omega arith;
      did = λ r. omega arith;
      drawn = λ weight. omega arith;
      out = λ r. omega arith;
      numbers = λ t. omega arith;
      said = λ t r. omega arith;
      shares = λ t r. omega arith;
    }) (inl (omega arith)) (λ c. c))
