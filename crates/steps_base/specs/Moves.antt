-- Where a step takes its thread in the machine, by its act: into sections and lines, out of them,
-- and into hands. For locks of every sort, by the row of a place, the rows that replies lead to,
-- and the deeds.
use Rattle.std.specs.Prelude.{ℕ, Bool, true, false, Option, Some, None, if◌then◌else◌, ◌≡◌, ◌≢◌, ◌≤◌, ◌⊎◌}
use Rattle.std.specs.Prelude.{List, [], ◌∷◌}
use Rattle.core_base.specs.declared.keys.Keys.TheVariants.{One}
use Rattle.core_base.specs.declared.notes.Note.TheVariants.{Normal, HandOff as HandOffNote}
use Rattle.core_base.specs.declared.ops.Op.{Op}
use Rattle.core_base.specs.declared.wants.Want.{Want}
use Rattle.core_base.specs.declared.wants.Want.TheVariants.{Exclusive}
use Rattle.core_base.specs.Keys.{key_of}
use Rattle.steps_base.specs.declared.acts.Act.{Act}
use Rattle.steps_base.specs.declared.acts.Act.TheVariants as act
use Rattle.steps_base.specs.declared.acts.Check.{Check}
use Rattle.steps_base.specs.declared.acts.Next.{Next}
use Rattle.steps_base.specs.declared.acts.Next.TheVariants.{At, End as Ends}
use Rattle.steps_base.specs.declared.acts.Reply.{Reply}
use Rattle.steps_base.specs.declared.acts.Reply.TheVariants.{Done, Value, Parked, Took, Picked, Removed}
use Rattle.steps_base.specs.declared.acts.Reply.TheVariants.{TakenBy, HandedBy, Woken}
use Rattle.steps_base.specs.declared.acts.Wakes.{Wakes}
use Rattle.steps_base.specs.declared.acts.TakeWhich.TheVariants as whom
use Rattle.steps_base.specs.Acts.{holds, takes_effect, wakes_taken, any_picked}
use Rattle.steps_base.specs.Profiles.{Profile, blank_row, hand, in_hand}
use Rattle.steps_base.specs.Locations.{Location, location_by, nowhere}
use Rattle.spec_locks.specs.Locks.{Rules, Queued, Aside, HandOff, Late as GivesUp, Park, TakeAside}
use Rattle.spec_locks.specs.Locks.{TakePicked, Wake, standing, times, unpicked, without}
use Rattle.spec_locks.specs.Sites.{Site, Claim, Has, Pends, Deed, Line, Main, Second, End, In, Out, Mark}
use Rattle.spec_locks.specs.Sites.{Clear, FindNobody, Case, is_empty}
use Rattle.spec_locks.specs.Codes.{code}

-- the row of the next place, or of none
abbrev pub row_of : Next Profile → Profile
row_of (At row) = row
row_of (Ends answer) = blank_row

-- a thread at a place: its row, where each reply leads it, and what it does then, where each thread that it
-- takes is no part of the place
pub record StepView : Type 0 where
  pub row : Profile
  pub next : Reply → Profile
  pub deeds : (whom : Option ℕ) → Reply → List Deed

abbrev pub location_of : StepView → Location
location_of x = location_by x.row

abbrev pub location_then : StepView → Reply → Location
location_then x told = location_by (x.next told)

-- inside the section of a line, and nowhere else
abbrev pub inside_of : Line → Location
inside_of m = record nowhere { inside = Some m }

-- ---------------------------------------------------------------- the notes that a thread may be told

-- the move of a lock's thread, and of the one that it takes, if any
abbrev pub Hears : Type 1
Hears = Rules → Site → ℕ → Option ℕ → Reply → Type 0

-- nobody is inside a section
abbrev pub IsSectionFree : Site → Line → Type 0
IsSectionFree s m = (u : ℕ) → (s.role u).inside ≢ Some m

-- a thread stands in a line, and whether nobody else does
abbrev pub StandsAlone : Site → ℕ → Line → Bool → Type 0
StandsAlone s t Main alone =
    (1 ≤ times t s.lock.queue) × (alone ≡ is_empty (without t s.lock.queue))
StandsAlone s t Second alone = s.lock.aside ≡ Some t

-- the waiter taken of the second queue, and whether one is left in the main one
abbrev pub MayTake : Rules → Site → Option Want → Line → Option ℕ → Bool → Type 0
MayTake r s start Main whom none_left = none_left ≡ is_empty (unpicked r.sort start s.lock.queue)
MayTake r s start Second whom none_left = whom ≡ s.lock.aside

-- ---------------------------------------------------------------- deeds

-- a step on the word: nobody is woken by it, or handed the lock
abbrev pub AreOfWord : List Deed → Type 0
AreOfWord [] = Unit {0}
AreOfWord (End ∷ []) = Unit {0}
AreOfWord (Mark m ∷ []) = Unit {0}
AreOfWord (Clear m ∷ []) = Unit {0}
AreOfWord (Case Wake ∷ ds) = ⊥
AreOfWord (Case (HandOff right successor) ∷ ds) = ⊥
AreOfWord (Case case ∷ []) = Unit {0}
AreOfWord (Case case ∷ End ∷ []) = Unit {0}
AreOfWord (Case case ∷ Mark m ∷ []) = Unit {0}
AreOfWord (Case case ∷ Clear m ∷ []) = Unit {0}
AreOfWord ds = ⊥

-- out of a section, and where the thread keeps a right of its own, the end of its call
abbrev pub AreLeaving : List Deed → Type 0
AreLeaving (Out ∷ []) = Unit {0}
AreLeaving (Out ∷ End ∷ []) = Unit {0}
AreLeaving ds = ⊥

-- a thread stands after the last of a line
abbrev pub parks_in : Line → Want → Deed
parks_in Main x = Case (Park x)
parks_in Second x = Case Aside

-- the thread takes the waiter of the second line, if any
abbrev pub takes_aside : Option ℕ → Deed
takes_aside None = FindNobody Second
takes_aside (Some u) = Case (TakeAside u)

-- ---------------------------------------------------------------- acts

-- the thread stays where it is, in no line and in nobody's hand
pub record StaysPut (x : StepView) : Type 0 where
  pub out : (location_of x).stands ≡ None
  pub free : (location_of x).hand ≡ None
  pub deeds : (seen : ℕ) → AreOfWord (x.deeds None (Value seen))
  pub goes : (seen : ℕ) → location_then x (Value seen) ≡ location_of x

-- the thread goes into the section of a line
pub record GoesIn (x : StepView) (hears : Hears) (m : Line) (told : Reply) : Type 0 where
  pub out : (location_of x).inside ≡ None
  pub free : (location_of x).hand ≡ None
  pub deeds : x.deeds None told ≡ In m ∷ []
  pub goes : location_then x told ≡ record (location_of x) { inside = Some m }
  pub may : (r : Rules) (s : Site) (t : ℕ) → IsSectionFree s m → hears r s t None told

-- where the test holds, it stands after the last
pub record Parks (x : StepView) (hears : Hears) (m : Line) (check : Check) (want : Want) : Type 0 where
  pub was : location_of x ≡ inside_of m
  pub parks : x.deeds None (Parked true) ≡ parks_in m want ∷ []
  pub parked : location_then x (Parked true)
      ≡ record (inside_of m) { stands = Some m; waits = Some want }
  pub turns : x.deeds None (Parked false) ≡ []
  pub turned : location_then x (Parked false) ≡ inside_of m
  pub may : (r : Rules) (s : Site) (t : ℕ) (b : Bool) → b ≡ holds check (code r s)
      → standing t s.lock ≡ 0 → hears r s t None (Parked b)

-- the thread takes the waiters of the main line that the lock lets in beside what it keeps
pub record Picks (x : StepView) (hears : Hears) (start : Option Want) : Type 0 where
  pub was : location_of x ≡ inside_of Main
  pub deeds : (n : ℕ) (y : Option Want) (none_left : Bool)
      → x.deeds None (Picked n y none_left) ≡ Case (TakePicked start) ∷ []
  pub goes : (n : ℕ) (y : Option Want) (none_left : Bool)
      → location_then x (Picked n y none_left)
      ≡ record (inside_of Main) { has_taken = in_hand (any_picked n y) false }
  pub may : (r : Rules) (s : Site) (t n : ℕ) (y : Option Want) (none_left : Bool)
      → MayTake r s start Main None none_left → hears r s t None (Picked n y none_left)

-- the thread takes the writer aside
pub record TakesAside (x : StepView) (hears : Hears) : Type 0 where
  pub was : location_of x ≡ inside_of Second
  pub deeds : (u : Option ℕ) (any none_left : Bool)
      → x.deeds u (Took any none_left) ≡ takes_aside u ∷ []
  pub goes : (any none_left : Bool)
      → location_then x (Took any none_left)
      ≡ record (inside_of Second) { has_taken = in_hand any false }
  pub may : (r : Rules) (s : Site) (t : ℕ) (any none_left : Bool)
      → hears r s t s.lock.aside (Took any none_left)

-- the thread's time is up, and it leaves the line in which it stands
pub record LeavesLine (x : StepView) (hears : Hears) (m : Line) : Type 0 where
  pub want : Want
  pub was : location_of x ≡ record (inside_of m) { stands = Some m; waits = Some want }
  pub deeds : (none_left : Bool) → x.deeds None (Removed none_left) ≡ Case GivesUp ∷ []
  pub goes : (none_left : Bool) → location_then x (Removed none_left) ≡ inside_of m
  pub may : (r : Rules) (s : Site) (t : ℕ) (none_left : Bool) → StandsAlone s t m none_left
      → hears r s t None (Removed none_left)

-- the thread goes out of the section of a line, and wakes the threads that it has in hand, if anybody
pub record GoesOut (x : StepView) (hears : Hears) (m : Line) (wakes : Wakes) : Type 0 where
  pub any : Bool
  pub notes : wakes ≡ wakes_taken any Normal
  pub inside : (location_of x).inside ≡ Some m
  pub has_taken : (location_of x).has_taken ≡ in_hand any false
  pub free : (location_of x).hand ≡ None
  pub deeds : AreLeaving (x.deeds None Done)
  pub goes : location_then x Done ≡ record (location_of x) { inside = None; has_taken = None }
  pub may : (r : Rules) (s : Site) (t : ℕ) → s.lock.taken t ≡ None → hears r s t None Done

-- ---------------------------------------------------------------- a right is handed over

-- the claim of a thread that was handed what it wanted: a writer beside readers is pending, with nothing to
-- fall back to
abbrev pub claim_handed : Bool → Want → Claim
claim_handed false Exclusive = Pends false
claim_handed alone x = Has x

-- the waiter that gets the right that one alone can have, if any, and its want
abbrev pub heir_of : Option ℕ → Option Want → Option Queued
heir_of (Some u) (Some x) = Some (record { thread = u; want = x })
heir_of whom x = None

-- the bit of the main line after it, which stands where somebody is left
abbrev pub bit_left : Bool → Deed
bit_left none_left = if none_left then Clear Main else Mark Main

-- the thread hands a right of its own over to all that it has in hand, where its operation takes effect
pub record HandsOver (x : StepView) (op : Op) : Type 0 where
  pub right : Want
  -- the want of the one among them that wants more than to share
  pub successor : Option Want
  pub any : Bool
  pub none_left : Bool
  pub was : location_of x ≡ record (inside_of Main) { has_taken = in_hand any false }
  pub deeds : (whom : Option ℕ) (seen : ℕ) → takes_effect op seen ≡ true
      → x.deeds whom (Value seen)
      ≡ Case (HandOff right (heir_of whom successor)) ∷ bit_left none_left ∷ []
  pub goes : (seen : ℕ) → takes_effect op seen ≡ true
      → location_then x (Value seen) ≡ record (inside_of Main) { has_taken = in_hand any true }
  pub fails : (whom : Option ℕ) (seen : ℕ) → takes_effect op seen ≡ false
      → x.deeds whom (Value seen) ≡ []
  pub stays : (seen : ℕ) → takes_effect op seen ≡ false → location_then x (Value seen) ≡ location_of x

-- the thread goes out of the section then, and tells them
pub record TellsHanded (x : StepView) (hears : Hears) (wakes : Wakes) : Type 0 where
  pub any : Bool
  pub notes : wakes ≡ wakes_taken any HandOffNote
  pub was : location_of x ≡ record (inside_of Main) { has_taken = in_hand any true }
  pub deeds : AreLeaving (x.deeds None Done)
  pub goes : location_then x Done ≡ nowhere
  pub may : (r : Rules) (s : Site) (t : ℕ) → s.lock.taken t ≡ None → hears r s t None Done

-- A thread that was told so ends its call.
pub record Accepts (x : StepView) (hears : Hears) : Type 0 where
  pub was : location_of x ≡ nowhere
  pub deeds : x.deeds None Done ≡ End ∷ []
  pub goes : location_then x Done ≡ nowhere
  pub may : (r : Rules) (s : Site) (t : ℕ) → hears r s t None Done

-- in the hand of a thread, it may be handed what it wants, which it claims then
pub record IsGiven (x : StepView) (u : ℕ) (want : Want) (alone : Bool) : Type 0 where
  pub goes : location_then x (HandedBy u alone) ≡ record nowhere { hand = hand u true }
  pub claims : (x.next (HandedBy u alone)).role
      ≡ record x.row.role { claims = Some (claim_handed alone want) }

-- A thread was given the lock, and is told so when the giver leaves the section.
pub record WasGiven (x : StepView) (u : ℕ) : Type 0 where
  pub was : location_of x ≡ record nowhere { hand = hand u true }
  pub goes : location_then x (Woken HandOffNote) ≡ nowhere
  pub role : (x.next (Woken HandOffNote)).role ≡ x.row.role

-- ---------------------------------------------------------------- all acts

-- at a lock, which is recursive or not, by the act
abbrev pub MovesByAct : ℕ → Bool → StepView → Hears → Act → Type 0
MovesByAct l recursive x hears (act.Word k op) = (k ≡ l) × StaysPut x
MovesByAct l recursive x hears (act.Enter keys) =
    (m : Line) × (keys ≡ One (key_of l m)) × GoesIn x hears m Done
MovesByAct l recursive x hears (act.Park k key check want) =
    (m : Line) × (k ≡ l) × (key ≡ key_of l m) × Parks x hears m check want
MovesByAct l recursive x hears (act.Take key (whom.Picked start b)) =
    (key ≡ key_of l Main) × (b ≡ recursive) × Picks x hears start
MovesByAct l recursive x hears (act.Take key whom.First) =
    (key ≡ key_of l Second) × TakesAside x hears
MovesByAct l recursive x hears (act.Remove key) = (m : Line) × (key ≡ key_of l m) × LeavesLine x hears m
MovesByAct l recursive x hears (act.Leave keys wakes) =
    (m : Line) × (keys ≡ One (key_of l m)) × GoesOut x hears m wakes
MovesByAct l recursive x hears act.Sleep = Unit {0}
MovesByAct l recursive x hears (act.End answer) = Unit {0}
MovesByAct l recursive x hears act = ⊥

-- ---------------------------------------------------------------- effects on a thread asleep

-- asleep in a line, it may be taken
pub record Sleeps (x : StepView) (m : Line) : Type 0 where
  pub want : Want
  pub was : location_of x ≡ record nowhere { stands = Some m; waits = Some want }
  pub taken : (u : ℕ) → location_then x (TakenBy u) ≡ record nowhere { hand = hand u false }
  pub wants : (u : ℕ) → (x.next (TakenBy u)).wants ≡ Some want
  pub role : (u : ℕ) → (x.next (TakenBy u)).role ≡ x.row.role

-- in the hand of a thread, it may be woken, and tries again
pub record IsHeld (x : StepView) (u : ℕ) : Type 0 where
  pub want : Want
  pub wants : x.row.wants ≡ Some want
  pub was : location_of x ≡ record nowhere { hand = hand u false }
  pub woken : location_then x (Woken Normal) ≡ nowhere
  pub role : (x.next (Woken Normal)).role ≡ record x.row.role { retries = Some want }

-- a thread that stands in a line sleeps there or is inside its section, only a pending writer stands aside,
-- and one in a hand is so to be woken
pub record RowWaits (x : StepView) : Type 0 where
  pub aside : x.row.stands ≡ Some Second
      → (x.row.wants ≡ Some Exclusive)
      × ((falls_back : Bool) × (x.row.role.claims ≡ Some (Pends falls_back)))
  pub stands : (m : Line) → x.row.stands ≡ Some m → ((location_of x).inside ≡ Some m) ⊎ Sleeps x m
  pub held : (u : ℕ) (handed : Bool) → x.row.hand ≡ hand u handed → (handed ≡ false) × IsHeld x u
