-- What a thread does in a call, in order, is a course of its transitions. What the thread recorded of it
-- tells the order: of each visit of a section, the steps on words before it and in it.
use Rattle.std.specs.Prelude.{ℕ, ◌≡◌, ◌==◌, ◌+◌, ◌++◌, ◌∷◌, ◌⊎◌, [], not, Bool, true, false, List, Option}
use Rattle.std.specs.Prelude.{Some, None, length, MatchBool, if◌then◌else◌}
use Rattle.core_base.specs.Requeues.{moved_by}
use Rattle.core_base.specs.declared.keys.Keys.{Keys}
use Rattle.core_base.specs.declared.keys.Keys.TheVariants.{One}
use Rattle.core_base.specs.declared.notes.Note.{Note}
use Rattle.core_base.specs.declared.notes.Note.TheVariants.{Normal}
use Rattle.core_base.specs.declared.requeues.Requeue.{Requeue}
use Rattle.core_words.specs.declared.views.WordStep.{WordStep}
use Rattle.steps_base.specs.declared.acts.Act.{Act}
use Rattle.steps_base.specs.declared.acts.Act.TheVariants as act
use Rattle.steps_base.specs.declared.acts.Reply.{Reply}
use Rattle.steps_base.specs.declared.acts.Reply.TheVariants.{Done, Late, MovedTo, Parked, Picked, Removed}
use Rattle.steps_base.specs.declared.acts.Reply.TheVariants.{Requeued, Took, Woken}
use Rattle.steps_base.specs.declared.acts.TakeWhich.{TakeWhich}
use Rattle.steps_base.specs.declared.acts.TakeWhich.TheVariants as whom
use Rattle.spec_locks.specs.declared.outcomes.Answer.{Answer}
use Rattle.lot_steps.specs.Steps.{act_of, respins_from, next_act, next_place}
use Rattle.lot_steps.specs.declared.places.Place.{Place}
use Rattle.parking_lot_core.specs.Sections.{told_in}
use Rattle.parking_lot_core.specs.Tokens.{as_count, told_of}
use Rattle.parking_lot_core.specs.declared.sections.Section.{Section}
use Rattle.parking_lot_core.specs.declared.step_counts.StepCount.{StepCount}
use Rattle.parking_lot_core.specs.declared.tellings.Telling.{Telling}
use Rattle.parking_lot_core.specs.declared.tellings.Telling.TheVariants as telling
use Rattle.parking_lot_core.specs.declared.tokens.Did.{Did}
use Rattle.parking_lot_core.specs.declared.tokens.Did.TheVariants as did
use Rattle.parking_lot_core.specs.declared.tokens.Token.{Token}
use Rattle.run_base.specs.Paths.{Brings}
use Rattle.run_base.specs.Queued.{StaysQueued, is_queued}
use Rattle.run_base.specs.Stages.{note_of, threads_taken}
use Rattle.run_base.specs.Telling.{line_in, steps_of}
use Rattle.run_base.specs.declared.driver.Stop.{Stop}
use Rattle.run_base.specs.declared.driver.Stop.TheVariants.{Ended, Paused}

-- one thing that a thread does in a call
pub data PathItem : Type 0 where
  -- a step on a word
  did_step : WordStep → PathItem
  -- the entry of the section of these keys
  did_enter : Keys → PathItem
  -- an act on the queues of the section that the thread is inside
  did_act : Telling → PathItem
  -- the exit from that section: the waiters that the thread took there get this note
  did_leave : Note → PathItem
  -- a sleep, to its end
  did_sleep : PathItem

-- a visit that goes on: the keys of the section, and the thread's steps as it entered
pub record OpenVisit : Type 0 where
  pub keys : Keys
  pub from : StepCount

abbrev pub open_visit : Keys → StepCount → OpenVisit
open_visit keys from = record { keys = keys; from = from }

-- what a thread has recorded: its steps on words, its tellings, and the visit that goes on, if any
pub record Trail : Type 0 where
  pub steps : List WordStep
  pub told : List Telling
  pub inside : Option OpenVisit

abbrev pub trail_inside : List WordStep → List Telling → Option OpenVisit → Trail
trail_inside steps told inside = record { steps = steps; told = told; inside = inside }

-- the trail of a thread outside all sections
abbrev pub trail : List WordStep → List Telling → Trail
trail steps told = trail_inside steps told None

-- the number of these steps
abbrev pub steps_counted : List WordStep → StepCount
steps_counted steps = as_count (length steps)

-- a visit that ends after so many steps, with this note
abbrev pub visited : Option OpenVisit → StepCount → Note → List Telling
visited None to note = []
visited (Some visit) to note = telling.Visited visit.keys visit.from to note ∷ []

-- a thread records what it does. A visit is told as it ends, with the number of steps before it and after
-- it, and each sleep with the number of steps before it
abbrev pub recorded : Trail → PathItem → Trail
recorded x (did_step one) = trail_inside (x.steps ++ one ∷ []) x.told x.inside
recorded x (did_enter keys) = trail_inside x.steps x.told (Some (open_visit keys (steps_counted x.steps)))
recorded x (did_act one) = trail_inside x.steps (x.told ++ one ∷ []) x.inside
recorded x (did_leave note) =
    trail_inside x.steps (x.told ++ visited x.inside (steps_counted x.steps) note) None
recorded x did_sleep =
    trail_inside x.steps (x.told ++ telling.Slept (steps_counted x.steps) ∷ []) x.inside

-- all of these, one after the other
abbrev pub recorded_all : Trail → List PathItem → Trail
recorded_all x [] = x
recorded_all x (item ∷ more) = recorded_all (recorded x item) more

-- steps on words, and acts on queues, one after the other
abbrev pub did_steps : List WordStep → List PathItem
did_steps [] = []
did_steps (one ∷ more) = did_step one ∷ did_steps more

abbrev pub did_acts : List Telling → List PathItem
did_acts [] = []
did_acts (one ∷ more) = did_act one ∷ did_acts more

-- the steps on words among these
abbrev pub steps_in : List PathItem → List WordStep
steps_in [] = []
steps_in (did_step one ∷ more) = one ∷ steps_in more
steps_in (did_enter _ ∷ more) = steps_in more
steps_in (did_act _ ∷ more) = steps_in more
steps_in (did_leave _ ∷ more) = steps_in more
steps_in (did_sleep ∷ more) = steps_in more

-- what the section of a thread has told, if it is inside one
abbrev pub told_within : Option Section → List Telling
told_within None = []
told_within (Some section) = told_in section

-- with all that the thread was told before
abbrev pub told_by : Token → Option Section → List Telling
told_by token None = told_of token
told_by token (Some section) = told_of token ++ told_in section

-- the visit of a section that a thread is inside
abbrev pub visit_within : Option Section → Option OpenVisit
visit_within None = None
visit_within (Some section) = Some (open_visit section.keys section.since)

-- what a take does in a section
abbrev pub did_by : ℕ → TakeWhich → Did
did_by key whom.First = did.TakeFirst key
did_by key whom.All = did.TakeAll key
did_by key (whom.Picked start recursive) = did.TakePicked key start recursive

-- a take tells how many it took, and how many are left
abbrev pub taking : ℕ → TakeWhich → ℕ → ℕ → List Telling
taking key who taken left =
    telling.Took (did_by key who) taken 0 ∷ telling.Counted key left ∷ []

-- a requeue tells how many it took and moved, and how many are left
abbrev pub moving : ℕ → ℕ → Requeue → ℕ → ℕ → ℕ → List Telling
moving from to how taken moved left =
    telling.Took (did.Requeue from to how) taken moved
    ∷ telling.Counted from left ∷ []

-- an own leave of the queue tells the thread, and how many are left
abbrev pub leaving : ℕ → ℕ → ℕ → List Telling
leaving me key left = telling.Left me ∷ telling.Counted key left ∷ []

-- by these it found somebody, and left nobody
abbrev pub TellsFound : ℕ → TakeWhich → Reply → List Telling → Type 0
TellsFound key who (Took any none_left) tellings = (taken left : ℕ)
    × (tellings ≡ taking key who taken left) × (any ≡ not (taken == 0)) × (none_left ≡ (left == 0))
TellsFound key who (Picked sharers successor none_left) tellings = (taken left : ℕ)
    × (tellings ≡ taking key who taken left) × (none_left ≡ (left == 0))
TellsFound key who reply tellings = ⊥

-- an act on the queues of the thread's section tells these, which bring the reply: a thread that parked or
-- stands did so after the last
abbrev pub Tells : ℕ → Act → Reply → List Telling → Type 0
Tells me (act.Park lock key check want) (Parked parked) tellings =
    tellings ≡ (if parked then telling.Stood key me want ∷ [] else [])
Tells me (act.Stand key want) Done tellings =
    tellings ≡ telling.Stood key me want ∷ []
Tells me (act.Take key who) reply tellings = TellsFound key who reply tellings
Tells me (act.Requeue from to how) (Requeued number none_left) tellings =
    (taken moved left : ℕ) × (tellings ≡ moving from to how taken moved left)
    × (number ≡ taken + moved) × (none_left ≡ (left == 0))
Tells me (act.Remove key) (Removed none_left) tellings = (left : ℕ)
    × (tellings ≡ leaving me key left)
    × (none_left ≡ (left == 0))
Tells me a reply tellings = tellings ≡ []

-- a thread leaves the queue of a key by itself, in a visit of its own
abbrev pub leaving_late : ℕ → ℕ → List PathItem
leaving_late me key =
    did_enter (One key) ∷ did_act (telling.Left me) ∷ did_leave Normal ∷ []

-- once its time is up a thread is inside the section of the key where it stands; or it was moved; or it
-- leaves that queue by itself
abbrev pub WakesLate : ℕ → ℕ → Reply → List PathItem → Type 0
WakesLate me key Late items = items ≡ did_enter (One key) ∷ []
WakesLate me key (MovedTo to) items = items ≡ []
WakesLate me key (Woken note) items = items ≡ leaving_late me key
WakesLate me key reply items = ⊥

-- a thread sleeps, until another one woke it or its time is up
abbrev pub SleepsBy : ℕ → Reply → List PathItem → Type 0
SleepsBy me (Woken note) items =
    (items ≡ did_sleep ∷ []) ⊎ ((key : ℕ) × (items ≡ did_sleep ∷ leaving_late me key))
SleepsBy me Late items = (key : ℕ) × (items ≡ did_sleep ∷ did_enter (One key) ∷ [])
SleepsBy me (MovedTo to) items = items ≡ did_sleep ∷ []
SleepsBy me reply items = ⊥

-- what an act of this thread does beside its step on a word
abbrev pub Performs : ℕ → Act → Reply → List PathItem → Type 0
Performs me (act.Enter keys) reply items = items ≡ did_enter keys ∷ []
Performs me (act.Leave keys wakes) reply items = items ≡ did_leave (note_of wakes) ∷ []
Performs me act.Sleep reply items = SleepsBy me reply items
Performs me a reply items =
    (tellings : List Telling) × (items ≡ did_acts tellings) × Tells me a reply tellings

-- the trail of a thread, which is inside a section or outside all
abbrev pub trail_of : Token → Option Section → Trail
trail_of token section = trail_inside (steps_of token) (told_by token section) (visit_within section)

-- items that bring the reply at a place, a step on the word first; and the thread stays queued or not
abbrev pub BringsBy : (ℕ → ℕ) → ℕ → Place → List PathItem → Reply → Type 0
BringsBy at me p items reply = (stepped : List WordStep) × (done : List PathItem)
    × (items ≡ did_steps stepped ++ done) × Brings at p stepped reply × Performs me (act_of p) reply done
    × StaysQueued p reply

-- the turn of a thread at a place, with this reply
abbrev pub HasRecorded : (ℕ → ℕ) → ℕ → Place → Reply → Trail → Trail → Type 0
HasRecorded at me p reply old new =
    (items : List PathItem) × (new ≡ recorded_all old items) × BringsBy at me p items reply

-- items that lead from one place to another
pub data Course (at : ℕ → ℕ) (me : ℕ) : Place → List PathItem → Place → Type 0 where
  rests : (p : Place) → Course at me p [] p
  goes : (p q : Place) (x y : List PathItem) (reply : Reply) → Course at me p x q
      → BringsBy at me q y reply → Course at me p (x ++ y) (next_place q reply)
  -- a thread looks at the word once more in place of an act that leads to sleep
  sees : (p q r : Place) (x : List PathItem) → Course at me p x q → respins_from q ≡ Some r
      → Course at me p x r

-- the last reply of a call, which ends it by an answer
pub record Arrival (at : ℕ → ℕ) (me : ℕ) (p : Place) (all : List PathItem) (answer : Answer) : Type 0 where
  pub last : Place
  pub before : List PathItem
  pub more : List PathItem
  pub reply : Reply
  pub course : Course at me p before last
  pub will_bring : BringsBy at me last more reply
  pub whole : all ≡ before ++ more
  pub ends : next_act last reply ≡ act.End answer

-- what a thread has recorded since leads from a place to the end of its call
abbrev pub Courses : (ℕ → ℕ) → ℕ → Place → Trail → Trail → Answer → Type 0
Courses at me p old new answer =
    (path : List PathItem) × (new ≡ recorded_all old path) × Arrival at me p path answer

-- after a reply that ended its call there is no more, and else it goes on from where the reply led
abbrev pub CoursesAfterReply : (ℕ → ℕ) → ℕ → Place → Reply → Trail → Trail → Answer → Type 0
CoursesAfterReply at me p reply old new answer =
    ((new ≡ old) × (next_act p reply ≡ act.End answer))
    ⊎ Courses at me (next_place p reply) old new answer

-- what a thread has recorded since leads from one place to another
abbrev pub ComesBy : (ℕ → ℕ) → ℕ → Place → Trail → Trail → Place → Type 0
ComesBy at me p old new q = (path : List PathItem) × (new ≡ recorded_all old path) × Course at me p path q

-- a run ends its call so, or comes to its closure
abbrev pub RunsCourse : (ℕ → ℕ) → ℕ → Place → Trail → Trail → Stop → Type 0
RunsCourse at me p old new (Ended answer) = Courses at me p old new answer
RunsCourse at me p old new (Paused place state) = ComesBy at me p old new place

-- whether a thread stands in a queue after an act on it
abbrev pub stands_by : Telling → Bool → Bool
stands_by (telling.Stood _ _ _) stands = true
stands_by (telling.Left _) stands = false
stands_by (telling.Took _ _ _) stands = stands
stands_by (telling.Counted _ _) stands = stands
stands_by (telling.Visited _ _ _ _) stands = stands
stands_by (telling.Slept _) stands = stands

-- each sleep among these follows a stand of the thread, which has not left its queue by itself since. It
-- stands in a queue at their beginning, or not
abbrev pub EachSleepStands : Bool → List PathItem → Type 0
EachSleepStands stands [] = Unit {0}
EachSleepStands stands (did_sleep ∷ more) = (stands ≡ true) × EachSleepStands stands more
EachSleepStands stands (did_act one ∷ more) = EachSleepStands (stands_by one stands) more
EachSleepStands stands (did_step _ ∷ more) = EachSleepStands stands more
EachSleepStands stands (did_enter _ ∷ more) = EachSleepStands stands more
EachSleepStands stands (did_leave _ ∷ more) = EachSleepStands stands more

-- in each call that came to its answer each sleep follows a stand
abbrev pub SleepersStood : Type 0
SleepersStood = (at : ℕ → ℕ) (me : ℕ) (p : Place) (path : List PathItem) (answer : Answer)
    → Arrival at me p path answer → EachSleepStands (is_queued p) path

-- whether the thread stood last in a queue
abbrev pub is_stand : Telling → Bool
is_stand (telling.Stood _ _ _) = true
is_stand (telling.Took _ _ _) = false
is_stand (telling.Counted _ _) = false
is_stand (telling.Left _) = false
is_stand (telling.Visited _ _ _ _) = false
is_stand (telling.Slept _) = false

-- each stand among these is in the visit in which the thread took its last step on a word: since that step it
-- has neither entered nor left a section. At their beginning it has taken one so, or not
abbrev pub EachStandFollowsStep : Bool → List PathItem → Type 0
EachStandFollowsStep stepped [] = Unit {0}
EachStandFollowsStep stepped (did_step _ ∷ more) = EachStandFollowsStep true more
EachStandFollowsStep stepped (did_enter _ ∷ more) = EachStandFollowsStep false more
EachStandFollowsStep stepped (did_leave _ ∷ more) = EachStandFollowsStep false more
EachStandFollowsStep stepped (did_sleep ∷ more) = EachStandFollowsStep stepped more
EachStandFollowsStep stepped (did_act one ∷ more) =
    (is_stand one ≡ true → stepped ≡ true) × EachStandFollowsStep stepped more

-- an act that stands in a queue, after a step of an act before
abbrev pub only_stands : Act → Bool
only_stands (act.Stand key _) = true
only_stands _ = false

-- in each call that came to its answer each stand is in the visit of a step: no thread stands by a word that
-- it saw outside the section, or in another visit
abbrev pub StandsFollowSteps : Type 0
StandsFollowSteps = (at : ℕ → ℕ) (me : ℕ) (p : Place) (path : List PathItem) (answer : Answer)
    → Arrival at me p path answer → EachStandFollowsStep (only_stands (act_of p)) path

-- a thread was outside all sections, and slept
abbrev pub HasSlept : ℕ → Reply → Token → Token → Option Section → Type 0
HasSlept me reply old new sn = (items : List PathItem)
    × (trail_of new sn ≡ recorded_all (trail_of old None) items) × SleepsBy me reply items

-- the time of a sleeper is up, while it stands under a key
abbrev pub HasWokenLate : ℕ → ℕ → Reply → Token → Token → Option Section → Type 0
HasWokenLate me key reply old new sn = (items : List PathItem)
    × (trail_of new sn ≡ recorded_all (trail_of old None) items) × WakesLate me key reply items

-- an act at the thread's hand: what it told its thread, what its section tells, and the visit that goes on
abbrev pub TellsIn : ℕ → Act → Reply → Token → Option Section → Token → Option Section → Type 0
TellsIn me (act.Park lock key check want) (Parked parked) old so new sn =
    (told_of new ≡ told_of old)
    × MatchBool parked (told_within sn ≡ told_within so ++ telling.Stood key me want ∷ [])
    (told_within sn ≡ told_within so)
    × (visit_within sn ≡ visit_within so)
TellsIn me (act.Stand key want) Done old so new sn = (told_of new ≡ told_of old)
    × (told_within sn ≡ told_within so ++ telling.Stood key me want ∷ [])
    × (visit_within sn ≡ visit_within so)
TellsIn me (act.Take key who) reply old so new sn = (told_of new ≡ told_of old)
    × (told_within sn ≡ told_within so
    ++ taking key who (length (threads_taken sn)) (length (line_in key sn)))
    × (visit_within sn ≡ visit_within so)
TellsIn me (act.Requeue from to how) (Requeued number none_left) old so new sn =
    (told_of new ≡ told_of old)
    × (told_within sn ≡ told_within so ++ moving from to how (length (threads_taken sn))
    (length (moved_by how (line_in from so))) (length (line_in from sn)))
    × (visit_within sn ≡ visit_within so)
    × (number ≡ length (threads_taken sn) + length (moved_by how (line_in from so)))
TellsIn me (act.Remove key) reply old so new sn = (told_of new ≡ told_of old)
    × (told_within sn ≡ told_within so ++ leaving me key (length (line_in key sn)))
    × (visit_within sn ≡ visit_within so)
TellsIn me (act.Enter keys) reply old so new sn = (told_of new ≡ told_of old)
    × (told_within sn ≡ []) × (visit_within sn ≡ Some (open_visit keys (steps_counted (steps_of old))))
TellsIn me (act.Leave keys wakes) reply old so new sn = told_of new
    ≡ told_of old ++ (told_within so
    ++ visited (visit_within so) (steps_counted (steps_of old)) (note_of wakes))
TellsIn me act.Sleep reply old so new sn =
    HasSlept me reply old new sn
TellsIn me a reply old so new sn = (told_of new ≡ told_of old) × (told_within sn ≡ told_within so)
    × (visit_within sn ≡ visit_within so)
