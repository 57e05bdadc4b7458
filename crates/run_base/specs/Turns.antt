-- The holdings of a thread at a place of its call, and the effect of one turn there. Then the effect of a
-- call that ran from there to its answer.
use Rattle.std.specs.Prelude.{◌≡◌, List, Option, None}
use Rattle.steps_base.specs.declared.acts.Act.{Act}
use Rattle.steps_base.specs.declared.acts.Reply.{Reply}
use Rattle.spec_locks.specs.declared.outcomes.Answer.{Answer}
use Rattle.lot_steps.specs.Steps.{act_of}
use Rattle.lot_steps.specs.declared.places.Place.{Place}
use Rattle.core_words.specs.declared.owners.Ownership.{Ownership}
use Rattle.parking_lot_core.specs.Tokens.{IsSameThread, IsTokenOf}
use Rattle.parking_lot_core.specs.declared.lot.ParkingLot.{ParkingLot}
use Rattle.parking_lot_core.specs.declared.sections.Section.{Section}
use Rattle.parking_lot_core.specs.declared.tokens.Token.{Token}
use Rattle.run_base.specs.Fitting.{AreWordsFor, Fits, IsOver, Reached, call_purpose}
use Rattle.run_base.specs.Courses.{Courses, HasRecorded, trail_of}
use Rattle.run_base.specs.Stages.{IsSectionOf, stage_of}
use Rattle.run_base.specs.Words.{AreWordsOf, at_in, kind_in}
use Rattle.run_base.specs.declared.words.Words.{Words}

-- a thread of the lot is at a place of its call, inside its section if any, with what fits there.
-- `up` says that its time is up
abbrev pub IsAtPlace : Type 0 → ParkingLot → Words → Place → Token → Option Section → Type 0
IsAtPlace up lot words p token section = IsTokenOf lot token × AreWordsOf lot words × IsSectionOf lot section
    × AreWordsFor p (kind_in words) (at_in words)
    × ((base : List Ownership) × Fits up base p (stage_of token section))

-- the act of the place brought this reply, which leads on to what fits
abbrev pub HasTurned : Type 0 → ParkingLot → Words → Place → Reply → Token → Option Section → Token
    → Option Section → Type 0
HasTurned up lot words p reply old section new now = IsSameThread lot old new × IsSectionOf lot now
    × HasRecorded (at_in words) old.number p reply (trail_of old section) (trail_of new now)
    × ((base : List Ownership) → Fits up base p (stage_of old section)
    → Reached up base p reply (stage_of new now))

-- a thread is at a place whose act is this
abbrev pub MayAct : Type 0 → ParkingLot → Words → Act → Token → Option Section → Type 0
MayAct up lot words a token section =
    (p : Place) × IsAtPlace up lot words p token section × (act_of p ≡ a)

-- An act at a place brought this reply.
abbrev pub HasActed : Type 0 → ParkingLot → Words → Act → Reply → Token → Option Section → Token
    → Option Section → Type 0
HasActed up lot words a reply old section new now = (p : Place) → IsAtPlace up lot words p old section
    → act_of p ≡ a
    → HasTurned up lot words p reply old section new now

-- the call ran from the place to this answer
abbrev pub HasEnded : Type 0 → ParkingLot → Words → Place → Answer → Token → Option Section → Token
    → Type 0
HasEnded up lot words p answer old section new = IsSameThread lot old new
    × ((base : List Ownership) → Fits up base p (stage_of old section)
    → IsOver up base (call_purpose p) answer (stage_of new None))
    × Courses (at_in words) old.number p (trail_of old section) (trail_of new None) answer
