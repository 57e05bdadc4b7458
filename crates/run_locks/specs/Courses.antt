-- A call of a reader-writer lock, by the value that its first step saw.
use Rattle.std.specs.Prelude.{ℕ, ◌==◌, ◌&&◌, Bool, if◌then◌else◌, nat_le}
use Rattle.spec_locks.specs.Codes.{count_in, has_aside, has_parked, is_blocked}
use Rattle.spec_locks.specs.declared.calls.Access.{Access}
use Rattle.spec_locks.specs.declared.calls.Access.TheVariants as access
use Rattle.spec_locks.specs.declared.calls.Patience.{Patience}
use Rattle.spec_locks.specs.declared.calls.Patience.TheVariants.{Try}
use Rattle.spec_locks.specs.declared.outcomes.Answer.TheVariants as answers
use Rattle.steps_rwlock.specs.RwLockSteps.{entered, wanted}
use Rattle.steps_rwlock.specs.declared.places.Admission.{Admission}
use Rattle.steps_rwlock.specs.declared.purposes.RwLockPurpose.{RwLockPurpose}
use Rattle.steps_rwlock.specs.declared.purposes.RwLockPurpose.TheVariants as purpose
use Rattle.run_locks.specs.declared.rwlock_courses.Course.{Course}
use Rattle.run_locks.specs.declared.rwlock_courses.Course.TheVariants.{Ends, Takes, GoesOn}

-- a thread that may not come in goes on to wait, but for one that only tries
abbrev pub kept_out : Patience → Course
kept_out Try = Ends answers.No
kept_out how = GoesOn

abbrev pub write_course : Patience → ℕ → Course
write_course how seen = if seen == 0 then Ends (entered how) else kept_out how

abbrev pub read_course : Admission → Patience → Bool → ℕ → Course
read_course a how blocked seen =
    if blocked then kept_out how else if nat_le a.limit (count_in seen)
    then Ends answers.ReadersFull else Takes

abbrev pub entry_course : Admission → Access → Patience → ℕ → Course
entry_course a access.Exclusive how seen = write_course how seen
entry_course a x how seen = read_course a how (is_blocked a.recursive (wanted x) seen) seen

abbrev pub upgrade_course : Patience → ℕ → Course
upgrade_course Try seen = if count_in seen == 1 then Takes else Ends answers.No
upgrade_course how seen = if count_in seen == 1 then Ends (entered how) else GoesOn

-- a thread that gives a right up goes on to wake others, where there may be some
abbrev pub release_course : Bool → Course
release_course waited_for = if waited_for then GoesOn else Ends answers.Ok

abbrev pub course_of : Admission → RwLockPurpose → ℕ → Course
course_of a (purpose.Enter x how) seen = entry_course a x how seen
course_of a (purpose.Upgrade how) seen = upgrade_course how seen
course_of a (purpose.Release access.Shared) seen = release_course (has_aside seen && (count_in seen == 1))
course_of a (purpose.Release x) seen = release_course (has_parked seen)
course_of a (purpose.Downgrade d) seen = release_course (has_parked seen)
