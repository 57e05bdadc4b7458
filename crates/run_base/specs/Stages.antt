-- The holdings of a thread between two acts of a call, and what each act needs and changes,
-- whatever the lock is.
use Rattle.std.specs.Prelude.{ℕ, ◌≡◌, ◌≢◌, ◌≤◌, ◌==◌, ◌+◌, not, length, ◌++◌, List, [], ◌∷◌, Option, Some}
use Rattle.std.specs.Prelude.{None, Bool, true, false, ◌<◌, ◌^◌, if◌then◌else◌}
use Rattle.core_base.specs.Keys.{key_of}
use Rattle.core_base.specs.Lines.{threads_of}
use Rattle.core_base.specs.Words.{apply}
use Rattle.core_base.specs.declared.keys.Keys.{Keys}
use Rattle.core_base.specs.declared.keys.Keys.TheVariants.{One}
use Rattle.core_base.specs.declared.keys.Line.TheVariants.{Main}
use Rattle.core_base.specs.declared.notes.Note.{Note}
use Rattle.core_base.specs.declared.notes.Note.TheVariants.{Normal, HandOff}
use Rattle.core_base.specs.declared.ops.Op.{Op}
use Rattle.core_base.specs.declared.ops.Op.TheVariants.{Load}
use Rattle.core_base.specs.declared.requeues.Requeue.{Requeue}
use Rattle.core_base.specs.declared.requeues.Requeue.TheVariants.{TakeOneMoveRest}
use Rattle.core_base.specs.declared.wants.Waiter.{Waiter}
use Rattle.core_base.specs.declared.wants.Want.{Want}
use Rattle.core_words.specs.Rights.{MayHand, owners_given}
use Rattle.core_words.specs.Views.{owning}
use Rattle.core_words.specs.Steps.{MayStep, CodesWith, owns_after_step, HasAll, without_all}
use Rattle.core_words.specs.declared.owners.Owner.{Owner}
use Rattle.core_words.specs.declared.owners.Ownership.{Ownership}
use Rattle.core_words.specs.declared.views.WordStep.{WordStep}
use Rattle.core_words.specs.declared.words.WordKind.{WordKind}
use Rattle.steps_base.specs.Acts.{holds, takes_effect}
use Rattle.steps_base.specs.declared.acts.Act.{Act}
use Rattle.steps_base.specs.declared.acts.Act.TheVariants as act
use Rattle.steps_base.specs.declared.acts.Reply.{Reply}
use Rattle.steps_base.specs.declared.acts.Reply.TheVariants.{Done, Value, Parked, Took, Picked, Requeued}
use Rattle.steps_base.specs.declared.acts.Reply.TheVariants.{Removed, MovedTo, Late, Woken}
use Rattle.steps_base.specs.declared.acts.Wakes.{Wakes}
use Rattle.steps_base.specs.declared.acts.Wakes.TheVariants as wakes
use Rattle.steps_base.specs.declared.acts.TakeWhich.{TakeWhich}
use Rattle.steps_base.specs.declared.acts.TakeWhich.TheVariants as whom
use Rattle.parking_lot_core.specs.Keys.{AreKeys, IsKeyOf, first_key}
use Rattle.parking_lot_core.specs.Sections.{waiting_in, taken_in, wants_in, rightless_in, moved_in, MayNote}
use Rattle.parking_lot_core.specs.Tokens.{view_of, last_of}
use Rattle.parking_lot_core.specs.declared.lot.ParkingLot.{ParkingLot}
use Rattle.parking_lot_core.specs.declared.sections.Section.{Section}
use Rattle.parking_lot_core.specs.declared.tokens.Did.{Did}
use Rattle.parking_lot_core.specs.declared.tokens.Did.TheVariants as did
use Rattle.parking_lot_core.specs.declared.tokens.Did.TheVariants.{Nothing, TakeFirst}
use Rattle.parking_lot_core.specs.declared.tokens.SectionRecord.{SectionRecord}
use Rattle.parking_lot_core.specs.declared.tokens.Token.{Token}
use Rattle.core_queues.specs.Wants.{wants_of}
use Rattle.run_base.specs.Paths.{step}
use Rattle.run_base.specs.Takes.{more_in, sharers_in, successor_in}
use Rattle.run_base.specs.declared.sleepers.Sleeper.{Sleeper}

-- a section that a thread is inside: what it did there, the threads that it took, what each of them wants,
-- which of them have no right yet, and how many it moved to another queue
pub record SectionView : Type 0 where
  pub keys : Keys
  pub did : Did
  pub taken : List ℕ
  pub wants : List Want
  pub rightless : List ℕ
  pub moved : ℕ

pub record ThreadState : Type 0 where
  pub owns : List Ownership
  pub inside : Option SectionView
  pub last : Option SectionRecord
  pub steps : List WordStep

abbrev pub stage : List Ownership → Option SectionView → Option SectionRecord → List WordStep → ThreadState
stage owns inside last steps =
    record { owns = owns; inside = inside; last = last; steps = steps }

abbrev pub section_view : Option Section → Option SectionView
section_view None = None
section_view (Some section) = Some (record {
  keys = section.keys;
  did = section.did;
  taken = taken_in section;
  wants = wants_in section;
  rightless = rightless_in section;
  moved = moved_in section;
})

-- the waiters in the queues of a section
abbrev pub waiting_of : Option Section → List Waiter
waiting_of None = []
waiting_of (Some section) = waiting_in section

-- the wants of those that it took
abbrev pub wants_taken : Option Section → List Want
wants_taken None = []
wants_taken (Some section) = wants_in section

-- the waiters that it took
abbrev pub threads_taken : Option Section → List ℕ
threads_taken None = []
threads_taken (Some section) = taken_in section

abbrev pub stage_of : Token → Option Section → ThreadState
stage_of token section =
    stage (view_of token).owns (section_view section) (last_of token) (view_of token).steps

-- the section that a thread is inside, if any, is one of the lot
abbrev pub IsSectionOf : ParkingLot → Option Section → Type 0
IsSectionOf lot None = Unit {0}
IsSectionOf lot (Some section) = section.lot.now ≡ lot

-- one in which nothing was done
abbrev pub entered_now : Keys → Option SectionView
entered_now keys = Some (record
    { keys = keys; did = Nothing; taken = []; wants = []; rightless = []; moved = 0 })

abbrev pub front_waiter : List Waiter → Option Waiter
front_waiter [] = None
front_waiter (waiter ∷ waiters) = Some waiter

-- the waiters that a requeue takes of a line
abbrev pub taken_waiter : Requeue → List Waiter → Option Waiter
taken_waiter TakeOneMoveRest line = front_waiter line
taken_waiter _ line = None

abbrev pub listed : Option Waiter → List Waiter
listed None = []
listed (Some waiter) = waiter ∷ []

-- a section of these keys, in which these were taken, of which these have no right yet
abbrev pub having_taken : Keys → Did → List Waiter → List ℕ → SectionView
having_taken keys did waiters rightless =
    record {
      keys = keys;
      did = did;
      taken = threads_of waiters;
      wants = wants_of waiters;
      rightless = rightless;
      moved = 0;
    }

-- waiters that were taken, and have no right yet
abbrev pub took_as : Did → List Waiter → Option SectionView → Option SectionView
took_as did waiters None = None
took_as did waiters (Some inside) = Some (having_taken inside.keys did waiters (threads_of waiters))

-- The section's view once a number of waiters was moved.
abbrev pub with_moved : ℕ → Option SectionView → Option SectionView
with_moved number None = None
with_moved number (Some inside) = Some (record inside { moved = number })

-- each of those that were taken was given a right
abbrev pub all_given : Option SectionView → Option SectionView
all_given None = None
all_given (Some inside) = Some (record inside { rightless = [] })

abbrev pub is_there : Option Waiter → Bool
is_there None = false
is_there (Some waiter) = true

abbrev pub note_of : Wakes → Note
note_of wakes.Nobody = Normal
note_of (wakes.All note) = note

-- inside a section of this key
abbrev pub HasKey : ℕ → Option SectionView → Type 0
HasKey key None = ⊥
HasKey key (Some inside) = IsKeyOf inside.keys key

-- inside one where nothing was done
abbrev pub IsFresh : Option SectionView → Type 0
IsFresh None = ⊥
IsFresh (Some inside) = inside.did ≡ Nothing

-- inside one where nobody that was taken has a right yet
abbrev pub IsUngiven : Option SectionView → Type 0
IsUngiven None = ⊥
IsUngiven (Some inside) = inside.rightless ≡ inside.taken

-- the wants of those that it took there
abbrev pub wanted_in : Option SectionView → List Want
wanted_in None = []
wanted_in (Some inside) = inside.wants

-- inside one that may be left with the note
abbrev pub MayLeave : Note → Option SectionView → Type 0
MayLeave note None = ⊥
MayLeave note (Some inside) = MayNote note inside.taken inside.rightless

-- a step that leaves its thread with the right that each of them wants, whatever value it finds by
-- which it takes effect
abbrev pub HandsEach : WordKind → ℕ → Op → List Ownership → List Want → Type 0
HandsEach kind at op owns wants = (seen : ℕ) → CodesWith kind at seen owns
    → takes_effect op seen ≡ true
    → HasAll at (owners_given kind (apply op seen) wants) (owns_after_step kind at op seen owns)

-- the needs of an act, of the stage, by the kind of each lock's word and where it stands
abbrev pub ActNeeds : (ℕ → WordKind) → (ℕ → ℕ) → ThreadState → Act → Type 0
ActNeeds kinds at st (act.Word lock op) = MayStep (kinds lock) (at lock) op st.owns
ActNeeds kinds at st (act.HandOver lock op) =
    MayStep (kinds lock) (at lock) op st.owns × IsUngiven st.inside
    × HandsEach (kinds lock) (at lock) op st.owns (wanted_in st.inside)
ActNeeds kinds at st (act.Enter keys) = AreKeys keys × (st.inside ≡ None)
ActNeeds kinds at st (act.Park lock key check _) =
    MayStep (kinds lock) (at lock) Load st.owns × HasKey key st.inside
ActNeeds kinds at st (act.Stand key _) = HasKey key st.inside
ActNeeds kinds at st (act.Take key whom) = HasKey key st.inside × IsFresh st.inside
ActNeeds kinds at st (act.Requeue from to how) =
    HasKey from st.inside × HasKey to st.inside × (from ≢ to) × IsFresh st.inside
ActNeeds kinds at st (act.Remove key) = HasKey key st.inside
ActNeeds kinds at st (act.Leave keys wakes) = MayLeave (note_of wakes) st.inside
ActNeeds kinds at st act.Sleep = st.inside ≡ None
ActNeeds kinds at st act.Accept = Unit {0}
ActNeeds kinds at st (act.Closure state) = st.inside ≡ None
ActNeeds kinds at st _ = ⊥

-- after a step on a word
abbrev pub stepped : WordKind → ℕ → Op → ℕ → ThreadState → ThreadState
stepped kind at op seen st =
    stage (owns_after_step kind at op seen st.owns) st.inside None (st.steps ++ step at op seen)

-- the ownership of a thread after a step with which each of those that it took is given the right that it
-- wants
abbrev pub owns_when_handed : WordKind → ℕ → Op → ℕ → List Want → List Ownership → List Ownership
owns_when_handed kind at op seen wants owns =
    without_all at (owners_given kind (apply op seen) wants) (owns_after_step kind at op seen owns)

-- an exchange that finds another value hands nothing over
abbrev pub stage_handed : WordKind → ℕ → Op → ℕ → ThreadState → ThreadState
stage_handed kind at op seen st = if takes_effect op seen
    then stage (owns_when_handed kind at op seen (wanted_in st.inside) st.owns)
    (all_given st.inside) None (st.steps ++ step at op seen)
    else stepped kind at op seen st

-- the section that was left last is one of this key, where this was done, to so many
abbrev pub HasLeft : ℕ → Did → ℕ → Option SectionRecord → Type 0
HasLeft key did number last = last ≡ Some (record { key = key; did = did; number = number })

-- to some number of threads
abbrev pub HasDone : ℕ → Did → Option SectionRecord → Type 0
HasDone key did last = (number : ℕ) × HasLeft key did number last

-- a record is that of a lock's main queue, where nobody was taken or moved: a thread that gives up leaves the
-- queue there
abbrev pub TookNobodyAt : ℕ → Option SectionRecord → Type 0
TookNobodyAt lock last = HasLeft (key_of lock Main) Nothing 0 last

-- a section that is left leaves a record of what was done there, which counts those that it took and moved
abbrev pub IsLeft : Option SectionView → Option SectionRecord → Type 0
IsLeft None last = ⊥
IsLeft (Some inside) last =
    HasLeft (first_key inside.keys) inside.did (length inside.taken + inside.moved) last

-- the waiters that a take took, by its reply; among those that were picked one at most wants more than to
-- share, and a list holds them
abbrev pub TookBy : ℕ → TakeWhich → Reply → Option SectionView → Option SectionView → Type 0
TookBy key whom.First (Took any none_left) old new =
    (first : Option Waiter) × (any ≡ is_there first)
    × (new ≡ took_as (TakeFirst key) (listed first) old)
TookBy key whom.All (Took any none_left) old new =
    (waiters : List Waiter) × (any ≡ not (length waiters == 0))
    × (new ≡ took_as (did.TakeAll key) waiters old)
TookBy key (whom.Picked start recursive) (Picked sharers successor none_left) old new =
    (waiters : List Waiter) × (sharers ≡ sharers_in (wants_of waiters))
    × (successor ≡ successor_in (wants_of waiters))
    × (new ≡ took_as (did.TakePicked key start recursive) waiters old)
    × (more_in (wants_of waiters) ≤ 1) × (length waiters < 2 ^ 60)
TookBy key _ _ old new = ⊥

-- the stage after the time of a sleeper ended that stands under a key: it is inside the section of the key
-- under which it may be late, it is told of the key to which it may be moved, and under any other key it has
-- left the queue
abbrev pub AwokeLate : ℕ → Sleeper → ThreadState → Reply → ThreadState → Type 0
AwokeLate key sleeper st Late new =
    (sleeper.late ≡ Some key) × (new ≡ stage st.owns (entered_now (One key)) st.last st.steps)
AwokeLate key sleeper st (MovedTo to) new =
    (key ≡ to) × (sleeper.moved ≡ Some to) × (new.owns ≡ st.owns) × (new.inside ≡ None)
AwokeLate key sleeper st (Woken Normal) new =
    (sleeper.late ≢ Some key) × (sleeper.moved ≢ Some key) × (new.owns ≡ st.owns)
    × (new.inside ≡ None)
AwokeLate key sleeper st _ new = ⊥

-- the stage after a sleep, by its end
abbrev pub Awoke : Type 0 → WordKind → ℕ → Sleeper → ThreadState → Reply → ThreadState → Type 0
Awoke up kind at sleeper st (Woken Normal) new = (new.owns ≡ st.owns) × (new.inside ≡ None)
Awoke up kind at sleeper st (Woken HandOff) new =
    (owner : Owner) × MayHand kind sleeper.want owner
    × (new ≡ stage (owning at owner ∷ st.owns) st.inside st.last st.steps)
    × (sleeper.takes_over ≡ true)
Awoke up kind at sleeper st Late new = (key : ℕ) × AwokeLate key sleeper st Late new × up
Awoke up kind at sleeper st (MovedTo to) new = AwokeLate to sleeper st (MovedTo to) new × up
    × (sleeper.late ≢ None)
Awoke up kind at sleeper st _ new = ⊥

-- after a step on a word, which found the code of owners among which these are
abbrev pub Stepped : WordKind → ℕ → Op → ℕ → ThreadState → ThreadState → Type 0
Stepped kind at op seen st new = CodesWith kind at seen st.owns × (new ≡ stepped kind at op seen st)

-- the stage after an act, by its reply
abbrev pub Became : Type 0 → (ℕ → WordKind) → (ℕ → ℕ) → Sleeper → ThreadState → Act → Reply → ThreadState
    → Type 0
Became up kinds at sleeper st (act.Word lock op) (Value seen) new =
    Stepped (kinds lock) (at lock) op seen st new
Became up kinds at sleeper st (act.HandOver lock op) (Value seen) new =
    CodesWith (kinds lock) (at lock) seen st.owns × (new ≡ stage_handed (kinds lock) (at lock) op seen st)
Became up kinds at sleeper st (act.Enter keys) Done new =
    new ≡ stage st.owns (entered_now keys) st.last st.steps
Became up kinds at sleeper st (act.Park lock key check _) (Parked parked) new =
    (seen : ℕ) × (parked ≡ holds check seen) × Stepped (kinds lock) (at lock) Load seen st new
Became up kinds at sleeper st (act.Stand key _) Done new = new ≡ st
Became up kinds at sleeper st (act.Take key whom) reply new =
    TookBy key whom reply st.inside new.inside × (new.owns ≡ st.owns) × (new.last ≡ st.last)
    × (new.steps ≡ st.steps)
Became up kinds at sleeper st (act.Requeue from to how)
    (Requeued number none_left) new =
    (first : Option Waiter) × (moved : ℕ) × (number ≡ length (listed first) + moved)
    × (new ≡ stage st.owns
    (with_moved moved (took_as (did.Requeue from to how) (listed first) st.inside)) st.last
    st.steps)
Became up kinds at sleeper st (act.Remove key) (Removed none_left) new = new ≡ st
Became up kinds at sleeper st (act.Leave keys wakes) Done new =
    (new.owns ≡ st.owns) × (new.inside ≡ None) × IsLeft st.inside new.last
    × (new.steps ≡ st.steps)
Became up kinds at sleeper st act.Sleep reply new =
    Awoke up (kinds sleeper.lock) (at sleeper.lock) sleeper st reply new
Became up kinds at sleeper st act.Accept Done new = new ≡ st
Became up kinds at sleeper st _ _ new = ⊥

-- the steps on words that an act adds
abbrev pub Adds : (ℕ → ℕ) → Act → Reply → List WordStep → List WordStep → Type 0
Adds at (act.Word lock op) (Value seen) old new = new ≡ old ++ step (at lock) op seen
Adds at (act.HandOver lock op) (Value seen) old new =
    new ≡ old ++ step (at lock) op seen
Adds at (act.Park lock key check _) (Parked parked) old new =
    (seen : ℕ) × (parked ≡ holds check seen) × (new ≡ old ++ step (at lock) Load seen)
Adds at _ _ old new = new ≡ old
