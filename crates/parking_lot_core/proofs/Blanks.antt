-- Tellings and counts of steps have no data fields. Assumes `Logic`.
use Rattle.std.proofs.Common.{[], ◌∷◌, refl}
use seplogic.Ra.Ura.{Ura}
use mir.Val.{Val, vstruct, vnil}
use base.Logic.{ent, emp}
use types.Logic.{Logic, sem}
use denote.RattleType.{RattleType}
use denote.Shadow.{makes_shadow}
use denote.Struct.Struct.{Struct}
use denote.Struct.Owning.{shape}
use Rattle.parking_lot_core.specs.contracts.step_counts.StepCount as counts
use Rattle.parking_lot_core.specs.contracts.tellings.Tellings as tellings

abbrev pub blank_val : Val
blank_val = vstruct vnil

abbrev pub Blank : RattleType
Blank = Struct (shape tellings.the_type)

pub blank_made : {M : Type 1} {𝓤 : Ura M} (𝓛 : Logic 𝓤)
    → ent 𝓤 (emp 𝓤) (sem 𝓛 (Blank.own_val tt (blank_val ∷ [])))
blank_made 𝓛 = makes_shadow 𝓛 (Blank.own_val tt (blank_val ∷ [])) (λ uss. (tt, tt)) (tt, (refl, tt))

abbrev pub BlankCount : RattleType
BlankCount = Struct (shape counts.the_type)

pub blank_count_made : {M : Type 1} {𝓤 : Ura M} (𝓛 : Logic 𝓤)
    → ent 𝓤 (emp 𝓤) (sem 𝓛 (BlankCount.own_val tt (blank_val ∷ [])))
blank_count_made 𝓛 =
    makes_shadow 𝓛 (BlankCount.own_val tt (blank_val ∷ [])) (λ uss. (tt, tt)) (tt, (refl, tt))
