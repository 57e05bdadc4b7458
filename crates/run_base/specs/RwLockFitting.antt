-- The holdings of a thread in a call of a reader-writer lock, at each place and at its end. Those
-- at a place are read off the place's row.
use Rattle.std.specs.Prelude.{ℕ, ◌≡◌, ◌<◌, ◌-◌, ◌^◌, ◌++◌, ◌⊎◌, Bool, true, false, List, ◌∷◌, Option, Some}
use Rattle.std.specs.Prelude.{None, ◌≤◌, ◌*◌, ◌/◌, ◌%◌, [], length}
use Rattle.core_base.specs.Keys.{key_of}
use Rattle.core_base.specs.Lines.{threads_of}
use Rattle.core_base.specs.declared.keys.Keys.TheVariants.{One}
use Rattle.core_base.specs.declared.keys.Line.{Line}
use Rattle.core_base.specs.declared.keys.Line.TheVariants.{Main, Second}
use Rattle.core_base.specs.declared.ops.Op.{Op}
use Rattle.core_base.specs.declared.ops.Op.TheVariants.{Load}
use Rattle.core_base.specs.declared.wants.Waiter.{Waiter}
use Rattle.core_base.specs.declared.wants.Want.{Want}
use Rattle.core_base.specs.declared.wants.Want.TheVariants as wants
use Rattle.spec_locks.specs.declared.calls.Access.{Access}
use Rattle.spec_locks.specs.declared.calls.Access.TheVariants as access
use Rattle.spec_locks.specs.declared.calls.Patience.{Patience}
use Rattle.spec_locks.specs.declared.calls.Patience.TheVariants.{Patient, Timed, Try}
use Rattle.spec_locks.specs.declared.outcomes.Answer.{Answer}
use Rattle.spec_locks.specs.declared.outcomes.Answer.TheVariants as answers
use Rattle.spec_locks.specs.Codes.{has_parked}
use Rattle.spec_locks.specs.Sites.{Claim, Has, Pends}
use Rattle.steps_base.specs.declared.acts.TakeWhich.{TakeWhich}
use Rattle.steps_base.specs.declared.acts.TakeWhich.TheVariants as whom_taken
use Rattle.steps_rwlock.specs.RwLockCalls.{MayStand}
use Rattle.steps_rwlock.specs.RwLockDeeds.{rwlock_role}
use Rattle.steps_rwlock.specs.RwLockProfiles.{rwlock_profile}
use Rattle.steps_rwlock.specs.RwLockSteps.{access_of, wanted, to_of, start_of, entered, rollback_op, unparked}
use Rattle.steps_rwlock.specs.RwLockSteps.{whom}
use Rattle.steps_rwlock.specs.declared.park.ParkAt.{ParkAt}
use Rattle.steps_rwlock.specs.declared.park.ParkAt.TheVariants as parking
use Rattle.steps_rwlock.specs.declared.places.Admission.{Admission}
use Rattle.steps_rwlock.specs.declared.places.RwLockAt.{RwLockAt}
use Rattle.steps_rwlock.specs.declared.places.RwLockAt.TheVariants as at
use Rattle.steps_rwlock.specs.declared.places.RwLockPlace.{RwLockPlace}
use Rattle.steps_rwlock.specs.declared.purposes.RwLockPurpose.{RwLockPurpose}
use Rattle.steps_rwlock.specs.declared.purposes.RwLockPurpose.TheVariants as purpose
use Rattle.steps_rwlock_fair.specs.FairCalls.{IsOfBump}
use Rattle.steps_rwlock_fair.specs.declared.hand_over.HandOverAt.{HandOverAt}
use Rattle.steps_rwlock_fair.specs.declared.hand_over.HandOverAt.TheVariants as handing
use Rattle.steps_rwlock_fair.specs.declared.hand_over.Taken.{Taken}
use Rattle.steps_rwlock_fair.specs.declared.handed.HandedAt.{HandedAt}
use Rattle.steps_rwlock_fair.specs.declared.handed.HandedAt.TheVariants as handed
use Rattle.steps_rwlock_fair.specs.declared.places.RwLockCallPlace.{RwLockCallPlace}
use Rattle.steps_rwlock_fair.specs.declared.places.RwLockCallPlace.TheVariants as places
use Rattle.core_queues.specs.Wants.{wants_of}
use Rattle.core_words.specs.Rights.{owner_for}
use Rattle.core_words.specs.Steps.{has}
use Rattle.core_words.specs.Views.{owning}
use Rattle.core_words.specs.declared.owners.Owner.{Owner}
use Rattle.core_words.specs.declared.owners.Owner.TheVariants as owners
use Rattle.core_words.specs.declared.owners.Ownership.{Ownership}
use Rattle.core_words.specs.declared.views.WordStep.{WordStep}
use Rattle.parking_lot_core.specs.declared.tokens.Did.{Did}
use Rattle.parking_lot_core.specs.declared.tokens.Did.TheVariants as did
use Rattle.parking_lot_core.specs.declared.tokens.SectionRecord.{SectionRecord}
use Rattle.run_base.specs.Paths.{rwlock_at, step}
use Rattle.run_base.specs.Takes.{more_in, sharers_in, successor_in}
use Rattle.run_base.specs.Stages.{HasDone, SectionView, ThreadState, TookNobodyAt, entered_now, having_taken}

-- ---------------------------------------------------------------- ownership

-- how a claim of a place is owned: a writer that waits for the last readers owns alone where it has
-- found none
abbrev pub waits_as : Bool → Owner
waits_as false = owners.Pending
waits_as true = owners.Upgrading

abbrev pub IsOwner : Claim → Owner → Type 0
IsOwner (Has x) o = o ≡ owner_for x
IsOwner (Pends falls_back) o = (o ≡ owners.Exclusive) ⊎ (o ≡ waits_as falls_back)
IsOwner _ o = ⊥

-- none of these waits for the last readers of the lock
abbrev pub AwaitsNoReaders : ℕ → List Ownership → Type 0
AwaitsNoReaders l owns = (has (owning (rwlock_at l) owners.Pending) owns ≡ false)
    × (has (owning (rwlock_at l) owners.Upgrading) owns ≡ false)

-- both are the same; a thread that comes to a lock for whose last readers it waits already may find none
-- left
abbrev pub IsBeside : ℕ → List Ownership → List Ownership → Type 0
IsBeside l base owns = AwaitsNoReaders l base → owns ≡ base

-- a claim on the lock is owned beside these
abbrev pub OwnsBeside : ℕ → Option Claim → List Ownership → List Ownership → Type 0
OwnsBeside l None base owns = IsBeside l base owns
OwnsBeside l (Some claim) base owns =
    (owner : Owner) × (rest : List Ownership) × IsOwner claim owner × IsBeside l base rest
    × (owns ≡ owning (rwlock_at l) owner ∷ rest)

abbrev pub OwnsRight : ℕ → Want → List Ownership → List Ownership → Type 0
OwnsRight l x base owns = OwnsBeside l (Some (Has x)) base owns

-- ---------------------------------------------------------------- sections

abbrev pub did_take : ℕ → TakeWhich → Did
did_take key whom_taken.First = did.TakeFirst key
did_take key (whom_taken.Picked start recursive) = did.TakePicked key start recursive
did_take key whom_taken.All = did.TakeAll key

-- the effect of a taker in the section of a line
abbrev pub did_wake : ℕ → Admission → RwLockPurpose → Line → Did
did_wake l a q m = did_take (key_of l m) (whom a (start_of q) m)

-- in the section of a line, or in none; where it carries, it has taken some of the line
abbrev pub IsWithin : ℕ → Admission → RwLockPurpose → Option Line → Bool → Option SectionView → Type 0
IsWithin l a q None has_taken inside = inside ≡ None
IsWithin l a q (Some m) false inside = inside ≡ entered_now (One (key_of l m))
IsWithin l a q (Some m) true inside = (waiters : List Waiter)
    × (inside ≡ Some (having_taken (One (key_of l m)) (did_wake l a q m) waiters
    (threads_of waiters)))

-- ---------------------------------------------------------------- places and ends

-- a word that was seen has 64 bits
abbrev pub SeenInRange : RwLockAt → Type 0
SeenInRange (at.Decide seen) = seen < 2 ^ 64
SeenInRange (at.Count seen) = seen < 2 ^ 64
SeenInRange to = Unit {0}

-- the step with which a right is given up, or turned into another, was taken before
abbrev pub HasGivenWay : RwLockAt → Type 0
HasGivenWay at.GiveWay = ⊥
HasGivenWay to = Unit {0}

-- the queue of those that a call wakes
abbrev pub woken_line : RwLockPurpose → Line
woken_line (purpose.Release access.Shared) = Second
woken_line q = Main

-- the section that was left last is one where the call took those that it wakes
abbrev pub TookWoken : ℕ → Admission → RwLockPurpose → Option SectionRecord → Type 0
TookWoken l a q last = HasDone (key_of l (woken_line q)) (did_wake l a q (woken_line q)) last

-- the last of these steps looked at the lock
abbrev pub LookedLast : ℕ → List WordStep → Type 0
LookedLast l steps = (before : List WordStep) × (seen : ℕ)
    × (steps ≡ before ++ step (rwlock_at l) Load seen)

-- the last that looked is followed by one step at most, which clears the main queue's parked bit
abbrev pub LookedInLine : ℕ → List WordStep → Type 0
LookedInLine l steps = LookedLast l steps ⊎ ((before : List WordStep) × (seen : ℕ)
    × LookedLast l before × (steps ≡ before ++ step (rwlock_at l) (unparked Main) seen))

-- a thread that is to stand in the main queue has looked there, and steps no more until it is woken
-- or gives up
abbrev pub HasParked : ℕ → ParkAt → List WordStep → Type 0
HasParked l parking.Check steps = Unit {0}
HasParked l (parking.Leave parked) steps = LookedLast l steps
HasParked l parking.Asleep steps = LookedLast l steps
HasParked l (parking.Taken by) steps = Unit {0}
HasParked l parking.Remove steps = LookedLast l steps
HasParked l parking.Clear steps = LookedLast l steps
HasParked l parking.GiveUp steps = LookedInLine l steps

abbrev pub HasStood : ℕ → RwLockAt → List WordStep → Type 0
HasStood l at.First steps = Unit {0}
HasStood l at.Load steps = Unit {0}
HasStood l (at.Decide seen) steps = Unit {0}
HasStood l (at.Park to) steps = HasParked l to steps
HasStood l at.Look steps = Unit {0}
HasStood l (at.Count seen) steps = Unit {0}
HasStood l at.Marked steps = Unit {0}
HasStood l (at.Aside to) steps = Unit {0}
HasStood l at.RollBack steps = Unit {0}
HasStood l at.GiveWay steps = Unit {0}
HasStood l (at.Wake m to) steps = Unit {0}

-- the last step of a timed call is the one with which a pending writer falls back, and saw that
-- nobody waits. A try ends by any step, and no other call gives up
abbrev pub FellBack : ℕ → RwLockPurpose → Patience → List WordStep → Type 0
FellBack l q Timed steps = (before : List WordStep) × (seen : ℕ) × (has_parked seen ≡ false)
    × (steps ≡ before ++ step (rwlock_at l) (rollback_op q) seen)
FellBack l q Try steps = Unit {0}
FellBack l q Patient steps = ⊥

-- a call that gave up left no section, where its last step saw nobody to wake, or one in which it
-- took those that it had kept out. One that enters may also have left the main queue, and done
-- nothing else there
abbrev pub LeftBy : ℕ → Admission → RwLockPurpose → Option SectionRecord → List WordStep → Type 0
LeftBy l a (purpose.Enter x how) last steps =
    ((last ≡ None) × FellBack l (purpose.Enter x how) how steps)
    ⊎ ((TookNobodyAt l last × LookedInLine l steps) ⊎ TookWoken l a (purpose.Enter x how) last)
LeftBy l a (purpose.Upgrade how) last steps =
    ((last ≡ None) × FellBack l (purpose.Upgrade how) how steps)
    ⊎ TookWoken l a (purpose.Upgrade how) last
LeftBy l a (purpose.Release x) last steps = ⊥
LeftBy l a (purpose.Downgrade d) last steps = ⊥

-- each reader is counted, and may find the lock full of readers
abbrev pub IsCounted : Access → Type 0
IsCounted access.Exclusive = ⊥
IsCounted x = Unit {0}

-- ---------------------------------------------------------------- a thread that hands the lock over

-- a word that an upgradable owner saw
abbrev pub IsUpgradableWord : ℕ → Type 0
IsUpgradableWord seen = (seen < 2 ^ 64) × (seen / 4 % 4 ≡ 1) × (0 < seen / 16)

-- a place tells the truth of those that its thread took: as many want to share, and one at most wants more
pub record AreTaken (ws : List Want) (k : Taken) : Type 0 where
  pub sharers : k.sharers ≡ sharers_in ws
  pub successor : k.successor ≡ successor_in ws
  pub one : more_in ws ≤ 1
  pub few : length ws < 2 ^ 60

-- in the main section, where it has taken these, some of which have no right yet
abbrev pub HasPicked : ℕ → Admission → List Waiter → List ℕ → Option SectionView → Type 0
HasPicked l a waiters rightless inside =
    inside ≡ Some (having_taken (One (2 * l))
    (did.TakePicked (2 * l) None a.recursive) waiters rightless)

abbrev pub HasPickedThese : ℕ → Admission → Taken → Option SectionView → Type 0
HasPickedThese l a k inside =
    (waiters : List Waiter) × AreTaken (wants_of waiters) k
    × HasPicked l a waiters (threads_of waiters) inside

-- the threads that were taken have their rights where the lock was handed over, and nobody is there where
-- nobody was taken
abbrev pub still_rightless : Bool → List Waiter → List ℕ
still_rightless true waiters = []
still_rightless false waiters = threads_of waiters

abbrev pub HasHandedOver : ℕ → Admission → Bool → Bool → Option SectionView → Type 0
HasHandedOver l a any handed inside = (waiters : List Waiter) × (any ≡ false → waiters ≡ [])
    × HasPicked l a waiters (still_rightless handed waiters) inside

-- an exclusive owner stores the word, and an upgradable one looks and exchanges it. The first step
-- of an exclusive owner's release was taken before
abbrev pub IsHandingPlace : Access → HandOverAt → Type 0
IsHandingPlace access.Shared to = ⊥
IsHandingPlace access.Upgradable (handing.Store k) = ⊥
IsHandingPlace access.Exclusive handing.Load = ⊥
IsHandingPlace access.Exclusive (handing.Free seen) = ⊥
IsHandingPlace access.Exclusive (handing.Look k) = ⊥
IsHandingPlace access.Exclusive (handing.Exchange k seen) = ⊥
IsHandingPlace x to = Unit {0}

-- a thread owns its right until the step that gives that up
abbrev pub FitsHandOver : ℕ → List Ownership → Admission → Access → HandOverAt → ThreadState → Type 0
FitsHandOver l base a x handing.Load st = OwnsRight l (wanted x) base st.owns × (st.inside ≡ None)
FitsHandOver l base a x (handing.Free seen) st =
    OwnsRight l (wanted x) base st.owns × (st.inside ≡ None) × IsUpgradableWord seen
    × (has_parked seen ≡ false)
FitsHandOver l base a x handing.Enter st = OwnsRight l (wanted x) base st.owns × (st.inside ≡ None)
FitsHandOver l base a x handing.Take st =
    OwnsRight l (wanted x) base st.owns × (st.inside ≡ entered_now (One (2 * l)))
FitsHandOver l base a x (handing.Store k) st =
    OwnsRight l (wanted x) base st.owns × HasPickedThese l a k st.inside
FitsHandOver l base a x (handing.Look k) st =
    OwnsRight l (wanted x) base st.owns × HasPickedThese l a k st.inside
FitsHandOver l base a x (handing.Exchange k seen) st =
    OwnsRight l (wanted x) base st.owns × HasPickedThese l a k st.inside × IsUpgradableWord seen
FitsHandOver l base a x (handing.Leave any handed) st =
    IsBeside l base st.owns × HasHandedOver l a any handed st.inside

-- the last of these steps saw that nobody waits
abbrev pub SawNobody : ℕ → List WordStep → Type 0
SawNobody l steps = (before : List WordStep) × (op : Op) × (seen : ℕ) × (has_parked seen ≡ false)
    × (steps ≡ before ++ step (rwlock_at l) op seen)

-- how a thread that releases fairly left: it took those to which it handed the lock, or an upgradable owner
-- freed a word that told of nobody
abbrev pub GaveFairly : ℕ → Admission → Access → Option SectionRecord → List WordStep → Type 0
GaveFairly l a access.Upgradable last steps =
    ((last ≡ None) × SawNobody l steps) ⊎ TookWoken l a (purpose.Release access.Upgradable) last
GaveFairly l a access.Exclusive last steps = TookWoken l a (purpose.Release access.Exclusive) last
GaveFairly l a access.Shared last steps = TookWoken l a (purpose.Release access.Shared) last

abbrev pub IsFairlyOver : ℕ → List Ownership → Admission → Access → Answer → ThreadState → Type 0
IsFairlyOver l base a x answer st =
    (st.inside ≡ None) × (answer ≡ answers.Ok) × IsBeside l base st.owns
    × GaveFairly l a x st.last st.steps

-- ---------------------------------------------------------------- a thread that was handed it, and bumps

-- a thread that was handed the lock has its right; a writer looks for readers first
abbrev pub FitsHanded : ℕ → List Ownership → Access → HandedAt → ThreadState → Type 0
FitsHanded l base access.Exclusive to st = ⊥
FitsHanded l base x handed.Accept st = OwnsRight l (wanted x) base st.owns × (st.inside ≡ None)
FitsHanded l base x to st = ⊥

-- a bump enters again, and a thread that was handed the lock came to enter
abbrev pub rwlock_purpose_in : RwLockCallPlace → RwLockPurpose
rwlock_purpose_in (places.Plain p) = p.purpose
rwlock_purpose_in (places.Bump p) = purpose.Enter (access_of p.purpose) Patient
rwlock_purpose_in (places.PeekQueue x) = purpose.Enter x Patient
rwlock_purpose_in (places.HandOver x b to) = purpose.Enter x Patient
rwlock_purpose_in (places.Handed x how b to) = purpose.Enter x how

-- a thread sleeps in the main queue, where it may be handed the lock
abbrev pub awaits_right : RwLockAt → Bool
awaits_right (at.Park parking.Asleep) = true
awaits_right to = false

abbrev pub may_be_handed : RwLockCallPlace → Bool
may_be_handed (places.Plain p) = awaits_right p.at
may_be_handed (places.Bump p) = awaits_right p.at
may_be_handed c = false

-- `up` says that the time of the call is up
module _ (up : Type 0) where
  pub record FitsRwLock (l : ℕ) (base : List Ownership) (a : Admission) (p : RwLockPlace)
      (st : ThreadState) : Type 0 where
    pub stands : MayStand a p
    -- the count has room for an upgrade that gives up
    pub room : a.limit < 2 ^ 60 - 1
    pub begun : HasGivenWay p.at
    pub seen : SeenInRange p.at
    pub owns : OwnsBeside l (rwlock_role p).claims base st.owns
    pub within : IsWithin l a p.purpose (rwlock_role p).inside (rwlock_role p).has_taken st.inside
    pub stood : HasStood l p.at st.steps
    pub late : (rwlock_profile a p).late ≡ true → up

  -- a bump that gives its shared right up still has it, and else stands as a plain call does
  abbrev pub FitsBump : ℕ → List Ownership → Admission → RwLockPlace → RwLockAt → ThreadState → Type 0
  FitsBump l base a p at.GiveWay st =
      (p.purpose ≡ purpose.Release access.Shared) × (a.limit < 2 ^ 60 - 1)
      × (st.inside ≡ None) × OwnsRight l wants.Shared base st.owns
  FitsBump l base a p to st = FitsRwLock l base a p st

  -- the first look of a bump was taken before
  abbrev pub FitsCall : ℕ → List Ownership → Admission → RwLockCallPlace → ThreadState → Type 0
  FitsCall l base a (places.Plain p) st = FitsRwLock l base a p st
  FitsCall l base a (places.Bump p) st = IsOfBump p.purpose p.retries × FitsBump l base a p p.at st
  FitsCall l base a (places.PeekQueue x) st = ⊥
  FitsCall l base a (places.HandOver x b to) st =
      IsHandingPlace x to × (a.limit < 2 ^ 60 - 1) × FitsHandOver l base a x to st
  FitsCall l base a (places.Handed x how b to) st = FitsHanded l base x to st

  -- the calls that may give up: a try at once, and a timed call once its time is up
  abbrev pub MayGiveUp : Patience → Type 0
  MayGiveUp Patient = ⊥
  MayGiveUp Timed = up
  MayGiveUp Try = Unit {0}

  -- the answer at the end of a call is true
  abbrev pub Answers : ℕ → List Ownership → Admission → RwLockPurpose → Answer → ThreadState → Type 0
  Answers l base a (purpose.Enter x how) answer st =
      ((answer ≡ entered how) × OwnsRight l (wanted x) base st.owns)
      ⊎ (((answer ≡ answers.No) × MayGiveUp how × IsBeside l base st.owns
      × LeftBy l a (purpose.Enter x how) st.last st.steps)
      ⊎ ((answer ≡ answers.ReadersFull) × IsCounted x × IsBeside l base st.owns))
  Answers l base a (purpose.Release x) answer st =
      (answer ≡ answers.Ok) × IsBeside l base st.owns × TookWoken l a (purpose.Release x) st.last
  Answers l base a (purpose.Downgrade d) answer st =
      (answer ≡ answers.Ok) × OwnsRight l (wanted (to_of d)) base st.owns
      × TookWoken l a (purpose.Downgrade d) st.last
  Answers l base a (purpose.Upgrade how) answer st =
      ((answer ≡ entered how) × OwnsRight l wants.Exclusive base st.owns)
      ⊎ ((answer ≡ answers.No) × MayGiveUp how × OwnsRight l wants.Upgradable base st.owns
      × LeftBy l a (purpose.Upgrade how) st.last st.steps)

  abbrev pub IsRwLockOver : ℕ → List Ownership → Admission → RwLockPurpose → Answer → ThreadState → Type 0
  IsRwLockOver l base a q answer st = (st.inside ≡ None) × Answers l base a q answer st
