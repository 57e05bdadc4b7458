-- The word of a `Once` tells a thread the truth.
use Rattle.std.proofs.Common.{ℕ, Bool, true, false, ◌≡◌, ◌+◌, ◌*◌, refl, ap}
use Rattle.core_base.specs.declared.ops.Op.TheVariants as op
use Rattle.core_base.specs.Words.{apply}
use Rattle.spec_locks.specs.declared.calls.OnceCall.{OnceCall}
use Rattle.spec_locks.specs.declared.calls.OnceCall.TheVariants.{CallOnce, Wait, WaitTimed}
use Rattle.spec_locks.specs.declared.outcomes.Answer.TheVariants as answer
use Rattle.spec_locks.specs.Onces.{Phase, New, Poisoned, InProgress, Done, MayStart, MayRest, phase_code}
use Rattle.spec_locks.specs.Locks.{Rules, Once}
use Rattle.spec_locks.specs.Sites.{Site}
use Rattle.spec_locks.specs.Codes.{bit, code, code_of, is_marked}
use Rattle.steps_once.specs.declared.look.Course.{Course}
use Rattle.steps_once.specs.declared.look.Course.TheVariants.{Ends, Runs, Marks, Parks}
use Rattle.steps_once.specs.declared.places.TheConstants.{NOT_PARKED}
use Rattle.steps_once.specs.OnceSteps.{is_forced, is_timed, runs, want_of, course_of, started, marked}

abbrev pub word : Bool → Phase → ℕ
word parked phase = 8 * bit parked + phase_code phase

abbrev pub word_of : Site → ℕ
word_of s = word s.parked s.lock.phase

pub coded : (r : Rules) (s : Site) → r.sort ≡ Once → code r s ≡ word_of s
coded r s sort = ap (λ x. code_of x r.limit s) sort

-- a call may do what it does by the word
abbrev pub MayGo : OnceCall → Bool → Phase → Course → Type 0
MayGo c parked phase (Ends answer.Ok) = (phase ≡ Done) × (is_timed c ≡ false)
MayGo c parked phase (Ends answer.Yes) = (phase ≡ Done) × (is_timed c ≡ true)
MayGo c parked phase (Ends answer.Poisoned) = (phase ≡ Poisoned) × (is_forced c ≡ false)
MayGo c parked phase (Ends other) = ⊥
MayGo c parked phase Runs = MayStart phase (is_forced c) × (runs c ≡ true)
MayGo c parked phase Marks = MayRest (want_of c) (is_forced c) phase
MayGo c parked phase Parks = (parked ≡ true) × MayRest (want_of c) (is_forced c) phase

pub may_go : (c : OnceCall) (parked : Bool) (phase : Phase)
    → MayGo c parked phase (course_of c (word parked phase))
may_go (CallOnce forced) true New = (tt, refl)
may_go (CallOnce forced) false New = (tt, refl)
may_go (CallOnce true) true Poisoned = (tt, refl)
may_go (CallOnce true) false Poisoned = (tt, refl)
may_go (CallOnce false) true Poisoned = (refl, refl)
may_go (CallOnce false) false Poisoned = (refl, refl)
may_go (CallOnce forced) true (InProgress u) = (refl, tt)
may_go (CallOnce forced) false (InProgress u) = tt
may_go (CallOnce forced) true Done = (refl, refl)
may_go (CallOnce forced) false Done = (refl, refl)
may_go (Wait forced) true New = (refl, tt)
may_go (Wait forced) false New = tt
may_go (Wait true) true Poisoned = (refl, tt)
may_go (Wait true) false Poisoned = tt
may_go (Wait false) true Poisoned = (refl, refl)
may_go (Wait false) false Poisoned = (refl, refl)
may_go (Wait forced) true (InProgress u) = (refl, tt)
may_go (Wait forced) false (InProgress u) = tt
may_go (Wait forced) true Done = (refl, refl)
may_go (Wait forced) false Done = (refl, refl)
may_go WaitTimed true New = (refl, tt)
may_go WaitTimed false New = tt
may_go WaitTimed true Poisoned = (refl, refl)
may_go WaitTimed false Poisoned = (refl, refl)
may_go WaitTimed true (InProgress u) = (refl, tt)
may_go WaitTimed false (InProgress u) = tt
may_go WaitTimed true Done = (refl, refl)
may_go WaitTimed false Done = (refl, refl)

pub marks_tell : (parked : Bool) (phase : Phase) → is_marked (word parked phase) ≡ parked
marks_tell true New = refl
marks_tell true Poisoned = refl
marks_tell true (InProgress u) = refl
marks_tell true Done = refl
marks_tell false New = refl
marks_tell false Poisoned = refl
marks_tell false (InProgress u) = refl
marks_tell false Done = refl

-- the word of a run that begins, and the word with the bit
pub started_is : (parked : Bool) (phase : Phase) (t : ℕ) → started (word parked phase) ≡ word parked
    (InProgress t)
started_is true New t = refl
started_is true Poisoned t = refl
started_is true (InProgress u) t = refl
started_is true Done t = refl
started_is false New t = refl
started_is false Poisoned t = refl
started_is false (InProgress u) t = refl
started_is false Done t = refl

pub marked_is : (parked : Bool) (phase : Phase) → marked (word parked phase) ≡ word true phase
marked_is true New = refl
marked_is true Poisoned = refl
marked_is true (InProgress u) = refl
marked_is true Done = refl
marked_is false New = refl
marked_is false Poisoned = refl
marked_is false (InProgress u) = refl
marked_is false Done = refl

-- the word without the bit
pub unmarked_is : (parked : Bool) (phase : Phase) → apply (op.And NOT_PARKED) (word parked phase)
    ≡ word false phase
unmarked_is true New = refl
unmarked_is true Poisoned = refl
unmarked_is true (InProgress u) = refl
unmarked_is true Done = refl
unmarked_is false New = refl
unmarked_is false Poisoned = refl
unmarked_is false (InProgress u) = refl
unmarked_is false Done = refl
