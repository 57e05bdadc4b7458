-- Words for what a clause of the driver says of tokens and sections.
use Rattle.std.specs.Prelude.{ℕ, ◌≡◌, ◌==◌, ◌+◌, ◌++◌, ◌∷◌, [], not, Bool, List, Option, Some, length}
use Rattle.std.specs.Prelude.{MatchBool}
use Rattle.steps_base.specs.declared.acts.Act.{Act}
use Rattle.steps_base.specs.declared.acts.Act.TheVariants as act
use Rattle.steps_base.specs.declared.acts.Reply.{Reply}
use Rattle.steps_base.specs.declared.acts.Reply.TheVariants.{Done, Late, Parked, Took, Picked, Requeued}
use Rattle.steps_base.specs.declared.acts.Reply.TheVariants.{Removed}
use Rattle.steps_base.specs.declared.acts.TakeWhich.{TakeWhich}
use Rattle.steps_base.specs.declared.acts.TakeWhich.TheVariants as whom
use Rattle.core_base.specs.Lines.{queued_under, line, lines, waiter, without, without_first, without_key}
use Rattle.core_base.specs.Picks.{lock_picked, without_lock_picked}
use Rattle.core_base.specs.Requeues.{moved_by, requeued}
use Rattle.core_base.specs.declared.keys.Keys.TheVariants.{One}
use Rattle.core_base.specs.declared.ops.Op.{Op}
use Rattle.core_base.specs.declared.requeues.Requeue.{Requeue}
use Rattle.core_base.specs.declared.wants.Waiter.{Waiter}
use Rattle.core_base.specs.declared.wants.Want.{Want}
use Rattle.core_words.specs.Indices.{word_index}
use Rattle.core_words.specs.Steps.{MayStep, CodesWith, after_step}
use Rattle.core_words.specs.declared.owners.Ownership.{Ownership}
use Rattle.core_words.specs.declared.views.WordStep.{WordStep}
use Rattle.core_words.specs.declared.words.Word.{Word}
use Rattle.parking_lot_core.specs.Tokens.{view_of}
use Rattle.parking_lot_core.specs.declared.lot.ParkingLot.{ParkingLot}
use Rattle.parking_lot_core.specs.declared.sections.Section.{Section}
use Rattle.parking_lot_core.specs.declared.tokens.Did.{Did}
use Rattle.parking_lot_core.specs.declared.tokens.Token.{Token}
use Rattle.core_queues.specs.Wants.{wants_of}
use Rattle.run_base.specs.Stages.{HasKey, IsFresh, IsSectionOf, entered_now, front_waiter, section_view}
use Rattle.run_base.specs.Stages.{is_there, listed, taken_waiter, took_as, waiting_of}
use Rattle.run_base.specs.Takes.{sharers_in, successor_in}

-- the ownership of a thread, and the steps that it took
abbrev pub owns_of : Token → List Ownership
owns_of token = (view_of token).owns

abbrev pub steps_of : Token → List WordStep
steps_of token = (view_of token).steps

-- where a word stands
abbrev pub index_of : Word → ℕ
index_of word = word_index word.number word.kind

-- the thread may take this step on a word
abbrev pub MayTakeStep : Word → Op → Token → Type 0
MayTakeStep word op token = MayStep word.kind (index_of word) op (owns_of token)

-- the value is one that it may find there
abbrev pub MayFind : Word → ℕ → Token → Type 0
MayFind word seen token = CodesWith word.kind (index_of word) seen (owns_of token)

-- a thread has taken this step, and no other
abbrev pub HasStepped : Word → Op → ℕ → Token → Token → Type 0
HasStepped word op seen old new =
    view_of new ≡ after_step word.kind (index_of word) op seen (view_of old)

-- the waiters under a key, and whether there is none
abbrev pub line_in : ℕ → Option Section → List Waiter
line_in key section = line key (waiting_of section)

abbrev pub is_empty_at : ℕ → Option Section → Bool
is_empty_at key section = length (line_in key section) == 0

-- who waits, line by line
abbrev pub AreQueued : List Waiter → Option Section → Type 0
AreQueued waiters section = lines (waiting_of section) ≡ lines waiters

-- the thread stands after the last of a queue
abbrev pub StandsLast : ℕ → ℕ → Want → Option Section → Option Section → Type 0
StandsLast key thread want old new =
    AreQueued (without thread (waiting_of old) ++ waiter key thread want ∷ []) new

-- waiters of this key may be taken in the section
abbrev pub MayTakeAt : ParkingLot → ℕ → Option Section → Type 0
MayTakeAt lot key section =
    IsSectionOf lot section × HasKey key (section_view section) × IsFresh (section_view section)

-- waiters that were taken there
abbrev pub WereTaken : ParkingLot → Did → List Waiter → Option Section → Option Section → Type 0
WereTaken lot did waiters old new =
    IsSectionOf lot new × (section_view new ≡ took_as did waiters (section_view old))

-- a take tells of the line under its key, and of what it leaves of it
abbrev pub TellsTake : ℕ → TakeWhich → Reply → Option Section → Option Section → Type 0
TellsTake key whom.First (Took any none_left) old new =
    (any ≡ is_there (front_waiter (line_in key old)))
    × AreQueued (without_first key (waiting_of old)) new × (none_left ≡ is_empty_at key new)
TellsTake key whom.All (Took any none_left) old new =
    (any ≡ not (is_empty_at key old))
    × AreQueued (without_key key (waiting_of old)) new × (none_left ≡ is_empty_at key new)
TellsTake key (whom.Picked start recursive)
    (Picked sharers successor none_left) old new =
    (sharers ≡ sharers_in (wants_of (lock_picked start recursive (line_in key old))))
    × (successor ≡ successor_in (wants_of (lock_picked start recursive (line_in key old))))
    × AreQueued (without_lock_picked start recursive key (waiting_of old)) new
    × (none_left ≡ is_empty_at key new)
TellsTake key whom reply old new = ⊥

-- the effect of a requeue
abbrev pub TellsRequeue : ℕ → ℕ → Requeue → ℕ → Bool → Option Section → Option Section → Type 0
TellsRequeue from to how number none_left old new =
    (number ≡ length (listed (taken_waiter how (line_in from old))) + length
    (moved_by how (line_in from old)))
    × AreQueued (requeued how from to (waiting_of old)) new × (none_left ≡ is_empty_at from new)

-- a sleeper that is late stands in the queue still, inside whose section it is: another that takes it
-- or moves it first makes it no late one
abbrev pub StandsWhereLate : ℕ → Option Section → Type 0
StandsWhereLate thread section = (key : ℕ) × (section_view section ≡ entered_now (One key))
    × (queued_under thread (waiting_of section) ≡ Some key)

-- an act of this thread tells the truth of the queues, and leaves them as it says
abbrev pub TellsQueues : Act → Reply → ℕ → Option Section → Option Section → Type 0
TellsQueues (act.Park lock key check want) (Parked parked) me old new =
    MatchBool parked (StandsLast key me want old new) (waiting_of new ≡ waiting_of old)
TellsQueues (act.Stand key want) Done me old new = StandsLast key me want old new
TellsQueues (act.Take key whom) reply me old new = TellsTake key whom reply old new
TellsQueues (act.Requeue from to how) (Requeued number none_left) me old new =
    TellsRequeue from to how number none_left old new
TellsQueues (act.Remove key) (Removed none_left) me old new =
    AreQueued (without me (waiting_of old)) new × (none_left ≡ is_empty_at key new)
TellsQueues act.Sleep Late me old new = StandsWhereLate me new
TellsQueues a reply me old new = Unit {0}
