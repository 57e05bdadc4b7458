-- How a call comes from one place to another, turn by turn, and what its turns do by the keys that the code
-- computes.
use Rattle.std.proofs.Common.{ℕ, ◌≡◌, ◌∙◌, Bool, None, Some, Option, refl, sym, subst}
use Rattle.core_base.specs.declared.keys.Keys.TheVariants.{One, Two}
use Rattle.core_base.specs.declared.requeues.Requeue.{Requeue as Moved}
use Rattle.core_base.specs.declared.wants.Want.{Want}
use Rattle.steps_base.specs.declared.acts.Act.{Act}
use Rattle.steps_base.specs.declared.acts.Act.TheVariants.{Enter, Leave, Requeue, Take}
use Rattle.steps_base.specs.declared.acts.Reply.{Reply}
use Rattle.steps_base.specs.declared.acts.Wakes.{Wakes}
use Rattle.steps_base.specs.declared.acts.TakeWhich.TheVariants.{First, Picked}
use Rattle.spec_locks.specs.declared.outcomes.Answer.{Answer}
use Rattle.lot_steps.specs.Steps.{act_of, next_act, next_place}
use Rattle.lot_steps.specs.declared.places.Place.{Place}
use Rattle.parking_lot_core.specs.declared.lot.ParkingLot.{ParkingLot}
use Rattle.parking_lot_core.specs.declared.sections.Section.{Section}
use Rattle.parking_lot_core.specs.declared.tokens.Token.{Token}
use Rattle.run_base.specs.Fitting.{ReachedBy, answer_of, call_purpose}
use Rattle.run_base.specs.Stages.{section_view, stage_of}
use Rattle.run_base.specs.Turns.{HasActed, HasEnded, HasTurned, IsAtPlace, MayAct}
use Rattle.run_base.specs.declared.words.Words.{Words}
use Rattle.run_base.proofs.Ending.{outside}
use Rattle.run_base.proofs.TurnsOn.{turn_ends, turn_leads, turn_then}

-- a call has come from one place to another: what fits there the thread has, and whatever ends the call there
-- ends it from where it began
pub record HasCome (up : Type 0) (lot : ParkingLot) (words : Words) (p : Place) (old : Token)
    (section : Option Section) (q : Place) (new : Token) (now : Option Section) : Type 0 where
  pub at : IsAtPlace up lot words q new now
  pub same : new.number ≡ old.number
  pub ends : (answer : Answer) (last : Token) → HasEnded up lot words q answer new now last
      → HasEnded up lot words p answer old section last

-- a thread begins where it is
pub begins : (up : Type 0) (lot : ParkingLot) (words : Words) (p : Place) (token : Token)
    (section : Option Section) → IsAtPlace up lot words p token section
    → HasCome up lot words p token section p token section
begins up lot words p token section at = record { at = at; same = refl; ends = λ answer last ended. ended }

module _ {up : Type 0} {lot : ParkingLot} {words : Words} {p : Place} {old : Token} {section : Option Section}
    {q : Place} {mid : Token} {there : Option Section} (came : HasCome up lot words p old section q mid there)
  where
    -- a thread has come to a place, by another name of that
    pub named : {r : Place} → q ≡ r → HasCome up lot words p old section r mid there
    named e = subst (λ (r : Place). HasCome up lot words p old section r mid there) e came

    -- tells what it may do there
    pub may_do : {a : Act} → act_of q ≡ a → MayAct up lot words a mid there
    may_do is = (q, came.at, is)

    -- a turn with this reply leads on to a further place
    pub turns_to : (reply : Reply) (new : Token) (now : Option Section) → HasTurned up lot words q reply mid
        there new now
        → (r : Place) → (next_place q reply ≡ r) × (answer_of (next_act q reply) ≡ None)
        → HasCome up lot words p old section r new now
    turns_to reply new now turned r leads = record {
      at = turn_leads up lot words q reply mid new there now turned came.at r leads.0 leads.1;
      same = turned.0.1 ∙ came.same;
      ends = λ answer last rest. came.ends answer last (turn_then up lot words q reply mid new there now
          turned
          r leads.0 leads.1 answer last rest);
    }

    -- An act that was done comes to its next place.
    pub comes : {a : Act} (reply : Reply) (new : Token) (now : Option Section)
        → HasActed up lot words a reply mid there new now → act_of q ≡ a
        → (r : Place) → (next_place q reply ≡ r) × (answer_of (next_act q reply) ≡ None)
        → HasCome up lot words p old section r new now
    comes reply new now done is = turns_to reply new now (done q came.at is)

    -- An act that was done ends the call, or goes on.
    pub over : {a : Act} (reply : Reply) (new : Token) (now : Option Section)
        → HasActed up lot words a reply mid there new now → act_of q ≡ a
        → (answer : Answer) → answer_of (next_act q reply) ≡ Some answer → HasEnded up lot words p answer old
        section new
    over reply new now done is answer some =
        came.ends answer new (turn_ends up lot words q reply mid new there now (done q came.at is) came.at
        answer some)

-- a thread that ended a call is outside all sections
pub turn_outside : (up : Type 0) (lot : ParkingLot) (words : Words) (p : Place) (reply : Reply)
    (old new : Token) (section now : Option Section) (answer : Answer) → IsAtPlace up lot words p old section
    → HasTurned up lot words p reply old section new now → answer_of (next_act p reply) ≡ Some answer
    → section_view now ≡ None
turn_outside up lot words p reply old new section now answer at turned some =
    let over = subst (λ (o : Option Answer). ReachedBy up at.4.0 (call_purpose p) (next_place p reply) o
    (stage_of new now)) some (turned.3 at.4.0 at.4.1) in
    outside up at.4.0 (stage_of new now).owns (call_purpose p) answer (section_view now)
    (stage_of new now).last (stage_of new now).steps over

-- an act by the keys that it is about, and by those that were computed
module _ {a n : ℕ} (e : a ≡ n) where
  pub enters_one : Enter (One n) ≡ Enter (One a)
  enters_one i = Enter (One (sym e i))

  pub takes_first : Take n First ≡ Take a First
  takes_first i = Take (sym e i) First

  pub leaves_one : {w v : Wakes} → w ≡ v → Leave (One n) v ≡ Leave (One a) w
  leaves_one h i = Leave (One (sym e i)) (sym h i)

-- a take of those that a lock lets in, by what was computed
pub takes_wanted : {a n : ℕ} {start wanted : Option Want} {recursive : Bool} → a ≡ n → start ≡ wanted
    → Take n (Picked wanted recursive) ≡ Take a (Picked start recursive)
takes_wanted {recursive} e h i = Take (sym e i) (Picked (sym h i) recursive)

module _ {a b n m : ℕ} (e : a ≡ n) (f : b ≡ m) where
  pub enters_both : Enter (Two n m) ≡ Enter (Two a b)
  enters_both i = Enter (Two (sym e i) (sym f i))

  pub leaves_both : {w v : Wakes} → w ≡ v → Leave (Two n m) v ≡ Leave (Two a b) w
  leaves_both h i = Leave (Two (sym e i) (sym f i)) (sym h i)

  pub moves : {how : Moved} → Requeue n m how ≡ Requeue a b how
  moves {how} i = Requeue (sym e i) (sym f i) how
