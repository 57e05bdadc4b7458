-- The effects of a call of a reader-writer lock on real threads.
use Rattle.std.specs.Prelude.{ℕ, ◌≡◌, ◌==◌, ◌<◌, ◌^◌, ◌-◌, ◌++◌, ◌&&◌, ◌||◌, not, Bool, true, false, List, []}
use Rattle.std.specs.Prelude.{Option, Some, None, Ok, Err}
use Rattle.std.proofs.Common.{◌∙◌, sym, subst}
use Rattle.std.specs.declared.result.Result.{Result}
use Rattle.core_base.specs.declared.ops.Op.{Op}
use Rattle.core_base.specs.declared.ops.Op.TheVariants.{Load, Exchange}
use Rattle.spec_locks.specs.Codes.{count_in, has_writer}
use Rattle.spec_locks.specs.declared.calls.Access.{Access}
use Rattle.spec_locks.specs.declared.calls.Access.TheVariants as accesses
use Rattle.spec_locks.specs.declared.calls.RwLockCall.{RwLockCall}
use Rattle.spec_locks.specs.declared.calls.RwLockCall.TheVariants as calls
use Rattle.spec_locks.specs.declared.outcomes.Answer.{Answer}
use Rattle.spec_locks.specs.declared.calls.Patience.{Patience}
use Rattle.spec_locks.specs.declared.outcomes.Answer.TheVariants.{No, ReadersFull}
use Rattle.spec_locks.specs.declared.outcomes.Answer.TheVariants as answers
use Rattle.steps_base.specs.declared.acts.Next.{Next}
use Rattle.steps_base.specs.declared.acts.Next.TheVariants.{At, End}
use Rattle.steps_base.specs.declared.acts.Reply.TheVariants.{Value}
use Rattle.steps_rwlock.specs.RwLockBegins.{first_at, rwlock_first}
use Rattle.steps_rwlock_fair.specs.FairBegins.{call_first, plain_first}
use Rattle.steps_rwlock.specs.RwLockDeeds.{rwlock_role}
use Rattle.steps_rwlock.specs.RwLockSteps.{wanted, to_of, entered, give_op, rwlock_next}
use Rattle.steps_rwlock.specs.declared.places.Admission.{Admission}
use Rattle.steps_rwlock.specs.declared.places.RwLockAt.{RwLockAt}
use Rattle.steps_rwlock.specs.declared.places.RwLockAt.TheVariants as at
use Rattle.steps_rwlock.specs.declared.places.RwLockPlace.{RwLockPlace}
use Rattle.steps_rwlock.specs.declared.purposes.RwLockPurpose.{RwLockPurpose}
use Rattle.steps_rwlock.specs.declared.purposes.RwLockPurpose.TheVariants as purpose
use Rattle.steps_rwlock_fair.specs.declared.places.RwLockCallPlace.TheVariants.{Plain}
use Rattle.lot_steps.specs.declared.places.Place.{Place}
use Rattle.lot_steps.specs.declared.places.Place.TheVariants.{RwLock}
use Rattle.core_words.specs.Lots.{IsWordOf}
use Rattle.core_words.specs.RightsOf.{IsHeldOf}
use Rattle.core_words.specs.declared.owners.Ownership.{Ownership}
use Rattle.core_words.specs.declared.owners.Owner.{Owner}
use Rattle.core_words.specs.declared.owners.Owner.TheVariants as owners
use Rattle.core_words.specs.declared.rights.Held.{Held}
use Rattle.core_words.specs.declared.views.WordStep.{WordStep}
use Rattle.core_words.specs.declared.words.Word.{Word}
use Rattle.core_words.specs.declared.words.WordKind.TheVariants as kinds
use Rattle.parking_lot_core.specs.Tokens.{IsTokenOf, view_of, last_of}
use Rattle.parking_lot_core.specs.declared.lot.ParkingLot.{ParkingLot}
use Rattle.parking_lot_core.specs.declared.tokens.SectionRecord.{SectionRecord}
use Rattle.parking_lot_core.specs.declared.tokens.Token.{Token}
use Rattle.run_base.specs.Courses.{Courses, trail_of}
use Rattle.run_base.specs.Paths.{at_rwlock, rwlock_at, step}
use Rattle.run_base.specs.RwLockFitting.{Answers, GaveFairly, IsBeside, AwaitsNoReaders, OwnsBeside}
use Rattle.run_base.specs.RwLockFitting.{OwnsRight, TookWoken}
use Rattle.run_base.specs.Stages.{ThreadState}

-- where a call begins
abbrev pub rwlock_begin : ℕ → Admission → RwLockPurpose → Place
rwlock_begin l a q = RwLock l a (plain_first q)

-- where it decides by what its first step saw
abbrev pub rwlock_deciding : ℕ → Admission → RwLockPurpose → ℕ → Place
rwlock_deciding l a q seen =
    RwLock l a (Plain (record { purpose = q; retries = false; at = at.Decide seen }))

-- the first operation of a call
abbrev pub op_at : RwLockPurpose → RwLockAt → Op
op_at q at.First = Exchange 0 8
op_at q at.GiveWay = give_op q
op_at q to = Load

abbrev pub first_op : RwLockPurpose → Op
first_op q = op_at q (first_at q)

-- the thread has the right that the call needs, beside these
abbrev pub BeginsWith : ℕ → RwLockPurpose → List Ownership → List Ownership → Type 0
BeginsWith l c base owns = OwnsBeside l (rwlock_role (rwlock_first c)).claims base owns

-- the answer tells of the rights at the end of a call, whether its first step ended it or not
abbrev pub AnswersCall : Type 0 → ℕ → List Ownership → Admission → RwLockPurpose → Answer → ThreadState
    → Type 0
AnswersCall up l base a (purpose.Release x) answer st =
    (answer ≡ answers.Ok) × IsBeside l base st.owns
AnswersCall up l base a (purpose.Downgrade d) answer st =
    (answer ≡ answers.Ok) × OwnsRight l (wanted (to_of d)) base st.owns
AnswersCall up l base a q answer st = Answers up l base a q answer st

-- the steps of a call, and what the queues told it, lead from its beginning to the answer
abbrev pub HasWalkedRwLock : ℕ → Admission → RwLockPurpose → Answer → Token → Token → Type 0
HasWalkedRwLock l a c answer old new = Courses (at_rwlock l) old.number (rwlock_begin l a c)
    (trail_of old None) (trail_of new None) answer

-- where its first step did not end it, a release or a downgrade took those that it wakes, and else
-- there was no further step
abbrev pub TookUnlessEnded : ℕ → Admission → RwLockPurpose → Next RwLockPlace → List WordStep
    → Option SectionRecord → Type 0
TookUnlessEnded l a q (At p) more last = TookWoken l a q last
TookUnlessEnded l a q (End answer) more last = (more ≡ []) × (last ≡ None)

abbrev pub Wakes : ℕ → Admission → RwLockPurpose → List WordStep → List WordStep
    → Option SectionRecord → Type 0
Wakes l a c old new last = (seen : ℕ) × (more : List WordStep)
    × (new ≡ (old ++ step (rwlock_at l) (first_op c) seen) ++ more)
    × TookUnlessEnded l a c (rwlock_next a (rwlock_first c) (Value seen)) more last

-- calls that wake others are so too
abbrev pub WakesBy : ℕ → Admission → RwLockPurpose → Token → Token → Type 0
WakesBy l a (purpose.Release x) old new =
    Wakes l a (purpose.Release x) (view_of old).steps (view_of new).steps (last_of new)
WakesBy l a (purpose.Downgrade d) old new =
    Wakes l a (purpose.Downgrade d) (view_of old).steps (view_of new).steps (last_of new)
WakesBy l a c old new = Unit {0}

-- a thread of the lot, and a reader-writer lock of it whose keys are numbers, with room for an
-- upgrade that gives up
abbrev pub MeetsAt : ParkingLot → Token → Word → Admission → Type 0
MeetsAt lot token word a = IsTokenOf lot token × IsWordOf lot.words word
    × (word.kind ≡ kinds.RwLock) × (word.number < 9223372036854775808) × (a.limit < 2 ^ 60 - 1)

-- a right to a reader-writer lock, owned so
abbrev pub IsRwLockRight : ParkingLot → Word → Owner → Held → Type 0
IsRwLockRight lot word owner held = IsHeldOf lot.words word owner held

-- two tokens are of one thread, which owns what it did, but for the wait for the last readers of this lock
abbrev pub StaysBeside : ℕ → Token → Token → Type 0
StaysBeside l old new = (new.number ≡ old.number) × IsBeside l (view_of old).owns (view_of new).owns

-- a thread waits for the last readers of no lock
abbrev pub WaitsForNobody : List Ownership → Type 0
WaitsForNobody owns = (l : ℕ) → AwaitsNoReaders l owns

-- two tokens are of one thread, which owns what it did, where it waited for the last readers of no lock
abbrev pub StaysSettled : Token → Token → Type 0
StaysSettled old new = (new.number ≡ old.number)
    × (WaitsForNobody (view_of old).owns → (view_of new).owns ≡ (view_of old).owns)

pub StaysSettled-on : (first next last : Token) → StaysSettled first next → StaysSettled next last
    → StaysSettled first last
StaysSettled-on first next last a b = (
  b.0 ∙ a.0,
  λ settled. let same = a.1 settled in
      b.1 (subst WaitsForNobody (sym same) settled) ∙ same,
)

-- nobody owns a lock so beside a thread that owns it so
abbrev pub Exclude : Owner → Owner → Type 0
Exclude owners.Exclusive owners.Exclusive = Unit {0}
Exclude owners.Exclusive owners.Shared = Unit {0}
Exclude owners.Exclusive owners.Upgradable = Unit {0}
Exclude owners.Upgradable owners.Upgradable = Unit {0}
Exclude one other = ⊥

-- ---------------------------------------------------------------- fair releases

-- a sharer releases as ever, and an upgradable owner takes those to which it hands the lock, or
-- frees a word that tells of nobody. An exclusive owner tries first the word that tells of nobody
-- else: it takes those to which it hands the lock where it finds another, and else there is no
-- further step
abbrev pub TookUnlessFree : ℕ → Admission → Bool → List WordStep → Option SectionRecord → Type 0
TookUnlessFree l a true more last = (more ≡ []) × (last ≡ None)
TookUnlessFree l a false more last = TookWoken l a (purpose.Release accesses.Exclusive) last

abbrev pub LeftFairly : ℕ → Admission → List WordStep → List WordStep → Option SectionRecord
    → Type 0
LeftFairly l a old new last = (seen : ℕ) × (more : List WordStep)
    × (new ≡ (old ++ step (rwlock_at l) (Exchange 8 0) seen) ++ more)
    × TookUnlessFree l a (seen == 8) more last

abbrev pub ReleasesFairly : ℕ → Admission → Access → Token → Token → Type 0
ReleasesFairly l a accesses.Shared old new = WakesBy l a (purpose.Release accesses.Shared) old new
ReleasesFairly l a accesses.Upgradable old new =
    GaveFairly l a accesses.Upgradable (last_of new) (view_of new).steps
ReleasesFairly l a accesses.Exclusive old new =
    LeftFairly l a (view_of old).steps (view_of new).steps (last_of new)

-- ---------------------------------------------------------------- calls of the world's language

-- a thread has walked a call of the world's language, from where that begins to its answer
abbrev pub HasWalkedCall : ℕ → Admission → RwLockCall → Answer → Token → Token → Type 0
HasWalkedCall l a call answer old new = Courses (at_rwlock l) old.number
    (RwLock l a (call_first call)) (trail_of old None) (trail_of new None) answer

abbrev pub WakesByCall : ℕ → Admission → RwLockCall → Token → Token → Type 0
WakesByCall l a (calls.Release x) old new = WakesBy l a (purpose.Release x) old new
WakesByCall l a (calls.Downgrade d) old new = WakesBy l a (purpose.Downgrade d) old new
WakesByCall l a (calls.ReleaseFair x) old new = ReleasesFairly l a x old new
WakesByCall l a call old new = ⊥

-- somebody owns the lock, or waits for its last readers
abbrev pub is_held : ℕ → Bool
is_held word = has_writer word || not (count_in word == 0)

-- somebody owns it alone
abbrev pub is_held_alone : ℕ → Bool
is_held_alone word = has_writer word && (count_in word == 0)

-- the word was loaded once, and told so of the lock, or not
abbrev pub SeesBy : (ℕ → Bool) → ℕ → Bool → Token → Token → Type 0
SeesBy told l answer old new = (seen : ℕ)
    × ((view_of new).steps ≡ (view_of old).steps ++ step (rwlock_at l) Load seen)
    × (told seen ≡ answer)

-- the answer of a call that turns the upgradable right into the exclusive one, by what it gives
abbrev pub turn_answer : {A B : Type 0} → Patience → Result A B → Answer
turn_answer how (Ok right) = entered how
turn_answer how (Err right) = No

-- the answer of a call that enters, by what it gives
abbrev pub entry_answer : {A E : Type 0} → Patience → Result (Option A) E → Answer
entry_answer how (Ok (Some right)) = entered how
entry_answer how (Ok None) = No
entry_answer how (Err fault) = ReadersFull
