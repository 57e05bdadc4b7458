-- Waits one after another, and one more.
use Rattle.std.proofs.Common.{◌≡◌, ◌⊎◌, suc, Bool, true, false, inl, inr, refl, subst}
use Rattle.lock_raw.specs.Answers.{late_answer}
use Rattle.spec_locks.specs.declared.outcomes.Answer.{Answer}
use Rattle.spec_locks.specs.declared.outcomes.Answer.TheVariants as answers
use Rattle.lock_api.specs.Waits.{WaitsAnyTimes}

-- a wait with the mutex of a guard that was given back is one with the mutex of the first guard
pub with_given : {Token Mutex : Type 0} (waited : Mutex → Token → Token → Type 0) (back given : Mutex)
    (last new : Token) → back ≡ given → waited back last new → waited given last new
with_given waited back given last new same then = subst (λ mutex. waited mutex last new) same then

-- there is one wait more
pub waits_on : {Token Mutex : Type 0} (waited : Mutex → Token → Token → Type 0) (back given : Mutex)
    (old last new : Token) → back ≡ given → WaitsAnyTimes (waited given) old last → waited back last new
    → WaitsAnyTimes (waited given) old new
waits_on waited back given old last new same before then =
    (suc before.0, (last, before.1, with_given waited back given last new same then))

-- tells what was waited of a call with a limit whose last wait ended late or not
abbrev pub WaitedSoFar : {Token : Type 0} → (Answer → Token → Token → Type 0) → Bool → Token → Token
    → Type 0
WaitedSoFar waited false old new = WaitsAnyTimes (waited answers.Notified) old new
WaitedSoFar {Token = Token} waited true old new = (last : Token)
    × WaitsAnyTimes (waited answers.Notified) old last × waited answers.TimedOut last new

-- where it did not, each wait so far was notified
pub not_late : {Token : Type 0} (waited : Answer → Token → Token → Type 0) (late : Bool) (old new : Token)
    → late ≡ false → WaitedSoFar waited late old new → WaitsAnyTimes (waited answers.Notified) old new
not_late waited late old new not so_far = subst (λ late. WaitedSoFar waited late old new) not so_far

-- One more wait ended as those before it did.
pub waits_so_far : {Token Mutex : Type 0} (waited : Mutex → Answer → Token → Token → Type 0)
    (back given : Mutex) (late : Bool) (old last new : Token) → back ≡ given
    → WaitsAnyTimes (waited given answers.Notified) old last → waited back (late_answer late) last new
    → WaitedSoFar (waited given) late old new
waits_so_far waited back given false old last new same before then =
    waits_on (λ mutex. waited mutex answers.Notified) back given old last new same before then
waits_so_far waited back given true old last new same before then =
    (last, before, with_given (λ mutex. waited mutex answers.TimedOut) back given last new same then)

-- a call that ends then has waited in time
pub waits_in_time : {Token : Type 0} (waited : Answer → Token → Token → Type 0) (late : Bool)
    (old new : Token) → WaitedSoFar waited late old new
    → (last : Token) × WaitsAnyTimes (waited answers.Notified) old last
    × ((new ≡ last) ⊎ waited answers.TimedOut last new)
waits_in_time waited false old new so_far = (new, so_far, inl refl)
waits_in_time waited true old new so_far = (so_far.0, so_far.1, inr so_far.2)

-- where the condition holds still, only its time ends a call
pub late_or_holds : {late holds : Bool} → ((late ≡ true) ⊎ ((late ≡ false) × (holds ≡ false)))
    → holds ≡ true → late ≡ true
late_or_holds (inl late) held = late
late_or_holds (inr neither) held = cc

-- a wait that has not begun is not late
pub not_begun : {A : Type 0} → false ≡ true → A
not_begun late = cc
