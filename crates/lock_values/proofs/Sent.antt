-- A place may be shared where its value may be sent and shared.
use Rattle.std.proofs.Common.{ℕ, List, [], ◌∷◌}
use mathlib.Core.Bool.{Bool, true, false}
use base.Fraction.{full_share}
use base.Share.{right}
use base.Stored.{Coded}
use base.Fml.{Share}
use base.Shift.{Keyless}
use denote.RattleType.{RattleType}
use denote.Param.Send.{IsSend, IsSync, part_keyless}
use types.Keyed.{entry_keyless}
use Rattle.atomic_table.specs.Seated.{halved, TableId}
use Rattle.atomic_table.proofs.Sent.{roster_keyless}
use Rattle.lock_values.specs.Ownership.{Rec, PlacePhase, Id, berth, bench, state, rec_coded}
use Rattle.lock_values.specs.Ownership.PlacePhase.{read, written, clashed}

module _ {V : Type 0} (cv : Coded V) (alone among : V → Type 0) (z : TableId) where
  berth_keyless : (q : Share) (a : ℕ) (y : Bool) (r : ℕ × (ℕ × V)) → Keyless (berth cv alone among z q a y r)
  berth_keyless q a true r = ((λ _. tt), entry_keyless halved z.views_name r.1.0 _)
  berth_keyless q a false r = tt

  bench_keyless : (q : Share) (a : ℕ) (rs : List (Rec V)) → Keyless (bench cv alone among z q a rs)
  bench_keyless q a [] = tt
  bench_keyless q a (r ∷ rs) = (berth_keyless q a r.0 r.1, bench_keyless (right q) a rs)

  pub state_keyless : (R : RattleType) → IsSend R → IsSync R → (b e : ℕ) (t : Id) (y : PlacePhase V)
      → Keyless (state cv alone among z R b e t y)
  state_keyless R s y b e t (read a rs) = (
    (roster_keyless (rec_coded cv).code t.1.0 0 rs, bench_keyless full_share a rs),
    ((λ g. (tt, tt)), ((λ x. y.shared x b e (a ∷ t.0)), (λ x. part_keyless R s full_share x b e))),
  )
  state_keyless R s y b e t (written i v rs) = (
    (λ _. tt),
    (
      roster_keyless (rec_coded cv).code t.1.0 0 rs,
      (
        entry_keyless halved z.views_name i _,
        tt,
      ),
    ),
  )
  state_keyless R s y b e t (clashed i v q j w r) =
      ((λ _. tt), (entry_keyless halved z.views_name i _, entry_keyless halved z.views_name j _))
