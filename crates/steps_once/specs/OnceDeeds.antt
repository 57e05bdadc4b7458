-- The deeds of each place of a `Once`, which are the effects of a step on it, and their laws.
use Rattle.std.specs.Prelude.{ℕ, Bool, true, false, Option, Some, None, if◌then◌else◌, ◌==◌, ◌≡◌, ◌≢◌, List}
use Rattle.std.specs.Prelude.{[], ◌∷◌}
use Rattle.core_base.specs.declared.ops.Op.{Op}
use Rattle.core_base.specs.declared.wants.Waiter.{Waiter}
use Rattle.core_base.specs.Words.{apply}
use Rattle.spec_locks.specs.declared.calls.OnceCall.{OnceCall}
use Rattle.steps_base.specs.declared.acts.Act.TheVariants as act
use Rattle.steps_base.specs.declared.acts.Next.{Next}
use Rattle.steps_base.specs.declared.acts.Next.TheVariants as next
use Rattle.steps_base.specs.declared.acts.Reply.{Reply}
use Rattle.steps_base.specs.declared.acts.Reply.TheVariants as reply
use Rattle.steps_base.specs.declared.owners.Owners.{Owners}
use Rattle.steps_base.specs.Acts.{holds}
use Rattle.steps_base.specs.Moves.{StandsAlone}
use Rattle.steps_base.specs.Owners.{lock_seen}
use Rattle.spec_locks.specs.Onces.{OnceCase, Start, Finish, Fail, Rest, TakeAll}
use Rattle.spec_locks.specs.Locks.{Rules, Late as GivesUp, Once, OfOnce, Taken, standing, HasTakenNobody}
use Rattle.spec_locks.specs.Sites.{Main, Role, Site, IsSite, Deed, End, In, Out, Mark, Clear, Case, idle}
use Rattle.spec_locks.specs.Deeds.{after_all, AllNeeded}
use Rattle.spec_locks.specs.Codes.{code, is_marked}
use Rattle.steps_once.specs.declared.look.LookAt.{LookAt}
use Rattle.steps_once.specs.declared.look.LookAt.TheVariants as look
use Rattle.steps_once.specs.declared.look.Course.{Course}
use Rattle.steps_once.specs.declared.look.Course.TheVariants.{Ends, Runs, Marks}
use Rattle.steps_once.specs.declared.run.RunAt.{RunAt}
use Rattle.steps_once.specs.declared.run.RunAt.TheVariants as run
use Rattle.steps_once.specs.declared.give_up.GiveUpAt.{GiveUpAt}
use Rattle.steps_once.specs.declared.give_up.GiveUpAt.TheVariants as give_up
use Rattle.steps_once.specs.declared.places.OncePlace.{OncePlace}
use Rattle.steps_once.specs.declared.places.OncePlace.TheVariants.{Look, Run, GiveUp}
use Rattle.steps_once.specs.OnceSteps.{is_forced, is_timed, want_of, course_of, check_of, once_act, once_next}
use Rattle.steps_once.specs.OnceSteps.{once_owners}
use Rattle.steps_once.specs.OnceProfiles.{once_profile}

-- ---------------------------------------------------------------- the deeds of each step

abbrev pub looked_deeds : Course → List Deed
looked_deeds (Ends answer) = End ∷ []
looked_deeds course = []

-- the state after an exchange, by whether it succeeded
abbrev pub exchanged_deeds : OnceCall → Bool → Course → List Deed
exchanged_deeds c true Runs = Case (OfOnce (Start (is_forced c))) ∷ []
exchanged_deeds c true Marks = Mark Main ∷ []
exchanged_deeds c won course = looked_deeds course

abbrev pub look_deeds : OnceCall → LookAt → Reply → List Deed
look_deeds c look.Load (reply.Value seen) = looked_deeds (course_of c seen)
look_deeds c (look.Decide expected) (reply.Value seen) =
    exchanged_deeds c (seen == expected) (course_of c seen)
look_deeds c (look.Decide expected) reply.Done = In Main ∷ []
look_deeds c look.Check (reply.Parked true) = Case (OfOnce (Rest (want_of c) (is_forced c))) ∷ []
look_deeds c (look.Leave parked) reply.Done = Out ∷ []
look_deeds c look.Asleep reply.Late = In Main ∷ []
look_deeds c at told = []

abbrev pub run_ending : Bool → OnceCase
run_ending succeeded = if succeeded then Finish else Fail

-- the run ends, and so does its call where nobody is to be woken
abbrev pub closes : Bool → Bool → List Deed
closes succeeded true = Case (OfOnce (run_ending succeeded)) ∷ []
closes succeeded false = Case (OfOnce (run_ending succeeded)) ∷ End ∷ []

abbrev pub run_deeds : RunAt → Reply → List Deed
run_deeds (run.Close succeeded) (reply.Value seen) = closes succeeded (is_marked seen)
run_deeds (run.Enter succeeded) reply.Done = In Main ∷ []
run_deeds (run.Take succeeded) (reply.Took any none_left) = Case (OfOnce TakeAll) ∷ []
run_deeds (run.Leave succeeded any) reply.Done = Out ∷ End ∷ []
run_deeds at told = []

abbrev pub give_up_deeds : GiveUpAt → Reply → List Deed
give_up_deeds give_up.Remove (reply.Removed none_left) = Case GivesUp ∷ []
give_up_deeds give_up.Clear (reply.Value seen) = Clear Main ∷ []
give_up_deeds give_up.Leave reply.Done = Out ∷ []
give_up_deeds at told = []

abbrev pub once_deeds : OncePlace → Reply → List Deed
once_deeds (Look c retries at) told = look_deeds c at told
once_deeds (Run forced at) told = run_deeds at told
once_deeds (GiveUp retries at) told = give_up_deeds at told

-- ---------------------------------------------------------------- the laws

abbrev pub once_role : OncePlace → Role
once_role p = (once_profile p).role

-- the state after a step, at its next place or in no call
abbrev pub role_next : Next OncePlace → Role
role_next (next.At p) = once_role p
role_next (next.End answer) = idle

-- a thread stands at a place of a call of a `Once`
pub record IsAt (r : Rules) (s : Site) (t : ℕ) (p : OncePlace) : Type 0 where
  pub sort : r.sort ≡ Once
  pub site : IsSite r s
  pub role : s.role t ≡ once_role p

-- the deeds of a reply may be done, and the next place says what the thread does then
pub record Follows (r : Rules) (s : Site) (t : ℕ) (p : OncePlace) (told : Reply) : Type 0 where
  pub needed : AllNeeded r (once_deeds p told) s t
  pub role : (after_all r (once_deeds p told) s t).role t ≡ role_next (once_next p told)

-- each step on the word follows
abbrev pub OnceStepsFollow : Type 0
OnceStepsFollow =
    (r : Rules) (s : Site) (t l : ℕ) (p : OncePlace) (op : Op) → IsAt r s t p
    → once_act l p ≡ act.Word l op
    → Follows r s t p (reply.Value (code r s))

-- the word that it leaves is the word of the `Once` after its deeds
abbrev pub OnceStepsCode : Type 0
OnceStepsCode =
    (r : Rules) (s : Site) (t l : ℕ) (p : OncePlace) (op : Op) → IsAt r s t p
    → once_act l p ≡ act.Word l op
    → apply op (code r s) ≡ code r (after_all r (once_deeds p (reply.Value (code r s))) s t)

-- A step leaves the phase of the `Once` as its deeds say.
abbrev pub OnceOwnersFollow : Type 0
OnceOwnersFollow =
    (r : Rules) (s : Site) (t l : ℕ) (p : OncePlace) (op : Op) (shared : List ℕ) (o : Owners)
    (main second : List Waiter) (taken : ℕ → Option Taken)
    → IsAt r s t p → once_act l p ≡ act.Word l op → s.lock ≡ lock_seen shared o main second taken
    → lock_seen shared (once_owners p t (code r s) o) main second taken
    ≡ (after_all r (once_deeds p (reply.Value (code r s))) s t).lock

-- nobody is inside the section
abbrev pub IsMainSectionFree : Site → Type 0
IsMainSectionFree s = (u : ℕ) → (s.role u).inside ≢ Some Main

-- the outcomes that a thread may be told of its steps in and out of the section, and as its time is up
abbrev pub MayReply : Rules → Site → ℕ → OncePlace → Reply → Type 0
MayReply r s t (Look c retries (look.Decide seen)) reply.Done = IsMainSectionFree s
MayReply r s t (Look c retries look.Check) (reply.Parked b) =
    (b ≡ holds (check_of c) (code r s)) × (standing t s.lock ≡ 0)
MayReply r s t (Look c retries (look.Leave parked)) reply.Done = s.lock.taken t ≡ None
MayReply r s t (Look c retries look.Asleep) reply.Late = (is_timed c ≡ true) × IsMainSectionFree s
MayReply r s t (Run forced (run.Enter succeeded)) reply.Done = IsMainSectionFree s
MayReply r s t (Run forced (run.Take succeeded)) (reply.Took any none_left) = HasTakenNobody s.lock t
MayReply r s t (Run forced (run.Leave succeeded any)) reply.Done = s.lock.taken t ≡ None
MayReply r s t (GiveUp retries give_up.Remove) (reply.Removed none_left) = StandsAlone s t Main none_left
MayReply r s t (GiveUp retries give_up.Leave) reply.Done = s.lock.taken t ≡ None
MayReply r s t p told = ⊥

-- each such step follows too
abbrev pub OnceSectionsFollow : Type 0
OnceSectionsFollow =
    (r : Rules) (s : Site) (t : ℕ) (p : OncePlace) (told : Reply) → IsAt r s t p
    → MayReply r s t p told
    → Follows r s t p told
