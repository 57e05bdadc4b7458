-- Turns one after another, up to the end of their call.
use Rattle.std.proofs.Common.{ℕ, ◌≡◌, true, None, Some, List, Option, refl, sym, ap, ◌∙◌, subst}
use Rattle.core_base.specs.declared.ops.Op.{Op}
use Rattle.steps_base.specs.declared.acts.Act.{Act}
use Rattle.steps_base.specs.declared.acts.Act.TheVariants as act
use Rattle.steps_base.specs.declared.acts.Reply.TheVariants.{Done, Value}
use Rattle.steps_base.specs.declared.acts.Reply.{Reply}
use Rattle.spec_locks.specs.declared.outcomes.Answer.{Answer}
use Rattle.lot_steps.specs.Steps.{act_of, next_act, next_place}
use Rattle.lot_steps.specs.declared.places.Place.{Place}
use Rattle.core_words.specs.declared.owners.Ownership.{Ownership}
use Rattle.core_words.specs.Indices.{word_index}
use Rattle.core_words.specs.Steps.{CodesWith, after_step}
use Rattle.core_words.specs.declared.views.View.{View}
use Rattle.core_words.specs.declared.words.Word.{Word}
use Rattle.parking_lot_core.specs.Tokens.{IsSameThread, last_of, told_of, view_of}
use Rattle.parking_lot_core.specs.declared.lot.ParkingLot.{ParkingLot}
use Rattle.parking_lot_core.specs.declared.sections.Section.{Section}
use Rattle.parking_lot_core.specs.declared.tokens.Token.{Token}
use Rattle.run_base.specs.Fitting.{CallPurpose, AreWordsFor, Fits, IsOver, ReachedBy, call_purpose, answer_of}
use Rattle.run_base.specs.Fitting.{sleeper_at}
use Rattle.run_base.specs.Paths.{closure_of}
use Rattle.parking_lot_core.specs.declared.places.QueuePlace.{QueuePlace}
use Rattle.run_base.specs.Queued.{GoesOn, HasPlace, KeepsPlace, is_queued}
use Rattle.run_base.specs.Stages.{ActNeeds, Adds, Became, IsSectionOf, section_view, stage_of}
use Rattle.run_base.specs.Courses.{Courses, TellsIn, Trail, trail_of}
use Rattle.run_base.specs.Telling.{TellsQueues, steps_of}
use Rattle.run_base.specs.Turns.{HasEnded, HasTurned, IsAtPlace}
use Rattle.run_base.specs.Words.{at_in, kind_in, word_among}
use Rattle.run_base.specs.declared.words.Words.{Words}
use Rattle.run_base.proofs.Courses.{arrives, begins, courses_on, goes_on}
use Rattle.run_base.proofs.Ending.{end_of, ended, outside}
use Rattle.run_base.proofs.Leading.{places_lead}
use Rattle.run_base.proofs.Queued.{keeps_on, queued_on, stays_queued}
use Rattle.run_base.proofs.Tellings.{HasDone, gone, has_done, outside_trail}
use Rattle.run_base.proofs.Turning.{by_stage, told, words_on}

-- tells what the act of a place needs
pub needs_by : (up : Type 0) (lot : ParkingLot) (words : Words) (p : Place) (a : Act) (token : Token)
    (section : Option Section) → IsAtPlace up lot words p token section → act_of p ≡ a
    → ActNeeds (kind_in words) (at_in words) (stage_of token section) a
needs_by up lot words p a token section at is =
    subst (ActNeeds (kind_in words) (at_in words) (stage_of token section)) is
    (places_lead up (kind_in words) (at_in words) at.4.0 p (stage_of token section) at.3 at.4.1).0

module _ (up : Type 0) (lot : ParkingLot) (words : Words) (p : Place) (old new : Token)
    (section now : Option Section) where
  -- an act that was done is a turn
  pub turned_by : (a : Act) (reply : Reply) → act_of p ≡ a → closure_of a ≡ None
      → IsAtPlace up lot words p old section → IsSameThread lot old new → IsSectionOf lot now
      → Became up (kind_in words) (at_in words) (sleeper_at p) (stage_of old section) a reply
      (stage_of new now) → Adds (at_in words) a reply (steps_of old) (steps_of new)
      → TellsQueues a reply old.number section now → TellsIn old.number a reply old section new now
      → HasTurned up lot words p reply old section new now
  turned_by a reply is none at same inside became adds queues tells = (
    same,
    inside,
    gone old.number old new section now (at_in words) p reply
        (told up (at_in words) (kind_in words) p a is none (stage_of old section) (stage_of new now) reply
        (steps_of old) (steps_of new) became adds)
        (subst (λ (b : Act). HasDone old.number old new section now b reply) (sym is)
        (has_done old.number old new section now up (kind_in words) (at_in words) (sleeper_at p) a reply
        (needs_by up lot words p a old section at is) became adds queues tells))
        (stays_queued up (kind_in words) (at_in words) at.4.0 p (stage_of old section) (stage_of new now)
        reply at.4.1
        (subst (λ (b : Act). Became up (kind_in words) (at_in words) (sleeper_at p) (stage_of old section) b
        reply (stage_of new now)) (sym is) became)),
    λ base fits. (places_lead up (kind_in words) (at_in words) base p (stage_of old section) at.3 fits).2
        reply (stage_of new now)
        (subst (λ (b : Act). Became up (kind_in words) (at_in words) (sleeper_at p) (stage_of old section) b
        reply (stage_of new now)) (sym is) became),
  )

-- a thread that accepts the lock that it was handed does nothing
pub accepts : (up : Type 0) (lot : ParkingLot) (words : Words) (p : Place) (token : Token)
    (section : Option Section) → act_of p ≡ act.Accept → IsAtPlace up lot words p token section
    → HasTurned up lot words p Done token section token section
accepts up lot words p token section is at =
    turned_by up lot words p token token section section act.Accept Done is refl at (at.0, refl)
    at.2 refl refl tt (refl, refl, refl)

-- a sleeper has its place still where it is queued
pub slept_on : (up : Type 0) (lot : ParkingLot) (words : Words) (p : Place) (old new : Token)
    (section now : Option Section) (reply : Reply) (queue then : Option QueuePlace)
    → IsAtPlace up lot words p old section → act_of p ≡ act.Sleep
    → Became up (kind_in words) (at_in words) (sleeper_at p) (stage_of old section) act.Sleep
    reply (stage_of new now) → new.number ≡ old.number → KeepsPlace lot old.number act.Sleep
    reply queue then → HasPlace lot old.number queue → is_queued (next_place p reply) ≡ true
    → HasPlace lot new.number then
slept_on up lot words p old new section now reply queue then at is became e keeps has queued =
    let goes = queued_on up (kind_in words) (at_in words) at.4.0 (stage_of old section) (stage_of new now)
    reply p at.4.1 (subst (λ (b : Act). Became up (kind_in words) (at_in words) (sleeper_at p)
    (stage_of old section) b reply (stage_of new now)) (sym is) became) in
    subst (λ (k : ℕ). HasPlace lot k then) (sym e)
    (keeps_on lot old.number act.Sleep reply queue then (is_queued p)
    (is_queued (next_place p reply))
    (subst (λ (b : Act). GoesOn (is_queued p) (is_queued (next_place p reply)) b reply) is goes) keeps
    (λ was. has) queued)

-- a step on a word
pub word_turned : (up : Type 0) (lot : ParkingLot) (words : Words) (p : Place) (old new : Token)
    (section : Option Section) (lock : ℕ) (op : Op) (seen : ℕ) (w : Word) → w ≡ word_among words lock
    → act_of p ≡ act.Word lock op → IsAtPlace up lot words p old section
    → IsSameThread lot old new
    → view_of new ≡ after_step w.kind (word_index w.number w.kind) op seen (view_of old) → last_of new ≡ None
    → CodesWith w.kind (word_index w.number w.kind) seen (view_of old).owns → told_of new ≡ told_of old
    → HasTurned up lot words p (Value seen) old section new section
word_turned up lot words p old new section lock op seen w e is at same stepped last coded untold =
    let then = subst (λ (w : Word). view_of new ≡ after_step w.kind (word_index w.number w.kind) op seen
    (view_of old)) e stepped in
    let code = subst (λ (w : Word). CodesWith w.kind (word_index w.number w.kind) seen (view_of old).owns) e
    coded in
    turned_by up lot words p old new section section (act.Word lock op) (Value seen) is refl at
    same at.2
    (by_stage (word_among words lock) op seen old section new then last code)
    (ap (λ (v : View). v.steps) then) tt (untold, refl, refl)

module _ (up : Type 0) (lot : ParkingLot) (words : Words) (p : Place) (reply : Reply) (old new : Token)
    (section now : Option Section) (turned : HasTurned up lot words p reply old section new now) where
  -- tells what a turn brings that ends no call
  fits_on : (q : Place) → next_place p reply ≡ q → answer_of (next_act p reply) ≡ None
      → (base : List Ownership) → Fits up base p (stage_of old section) → Fits up base q (stage_of new now)
      × (call_purpose q ≡ call_purpose p)
  fits_on q is none base fits =
      let reached : ReachedBy up base (call_purpose p) (next_place p reply) None (stage_of new now)
      = subst (λ (o : Option Answer). ReachedBy up base (call_purpose p) (next_place p reply) o
      (stage_of new now)) none (turned.3 base fits) in
      subst (λ (r : Place). Fits up base r (stage_of new now) × (call_purpose r ≡ call_purpose p)) is reached

  pub turn_leads : IsAtPlace up lot words p old section → (q : Place) → next_place p reply ≡ q
      → answer_of (next_act p reply) ≡ None → IsAtPlace up lot words q new now
  turn_leads at q is none = (
    turned.0.0,
    at.1,
    turned.1,
    subst (λ (r : Place). AreWordsFor r (kind_in words) (at_in words)) is (words_on p reply (kind_in words)
        (at_in words) at.3),
    (at.4.0, (fits_on q is none at.4.0 at.4.1).0),
  )

  -- tells what follows on a turn that ends no call
  pub turn_then : (q : Place) → next_place p reply ≡ q → answer_of (next_act p reply) ≡ None
      → (answer : Answer) (last : Token) → HasEnded up lot words q answer new now last
      → HasEnded up lot words p answer old section last
  turn_then q is none answer last rest = (
    (rest.0.0, rest.0.1 ∙ turned.0.1),
    λ base fits. let on = fits_on q is none base fits
        in subst (λ (aim : CallPurpose). IsOver up base aim answer (stage_of last None)) on.1
        (rest.1 base on.0),
    courses_on (at_in words) old.number p q (trail_of old section) (trail_of new now) (trail_of last None)
        answer
        (goes_on (at_in words) old.number p p q (trail_of old section) (trail_of old section)
        (trail_of new now) reply turned.2.0 (begins (at_in words) old.number p (trail_of old section))
        turned.2.1 turned.2.2 (sym is))
        (subst (λ (me : ℕ). Courses (at_in words) me q (trail_of new now) (trail_of last None) answer)
        turned.0.1 rest.2),
  )

  -- a turn that ends its call
  pub turn_ends : IsAtPlace up lot words p old section → (answer : Answer) → answer_of (next_act p reply)
      ≡ Some answer → HasEnded up lot words p answer old section new
  turn_ends at answer some = (
    turned.0,
    λ base fits. let over = subst (λ (o : Option Answer). ReachedBy up base (call_purpose p)
        (next_place p reply) o (stage_of new now)) some (turned.3 base fits) in
        ended up base (stage_of new now).owns (call_purpose p) answer (section_view now)
        (stage_of new now).last (stage_of new now).steps over,
    let over = subst (λ (o : Option Answer). ReachedBy up at.4.0 (call_purpose p) (next_place p reply) o
        (stage_of new now)) some (turned.3 at.4.0 at.4.1) in
        let none = outside up at.4.0 (stage_of new now).owns (call_purpose p) answer (section_view now)
        (stage_of new now).last (stage_of new now).steps over in
        subst (λ (x : Trail). Courses (at_in words) old.number p (trail_of old section) x answer)
        (outside_trail new now none)
        (arrives (at_in words) old.number p p (trail_of old section) (trail_of old section) (trail_of new now)
        reply turned.2.0 answer (begins (at_in words) old.number p (trail_of old section))
        turned.2.1 turned.2.2 (end_of (next_act p reply) answer some)),
  )
