-- The effect of each step of a `Once` on its call. The row of the next place is what the step's
-- case makes of the call. The call is made of that case, and its answer is true.
use Rattle.std.specs.Prelude.{ℕ, Some, None, true, false, ◌≡◌, ◌≢◌}
use Rattle.core_base.specs.declared.notes.Note.TheVariants.{Normal}
use Rattle.core_base.specs.declared.ops.Op.{Op}
use Rattle.steps_base.specs.declared.acts.Act.TheVariants as act
use Rattle.steps_base.specs.declared.acts.Next.{Next}
use Rattle.steps_base.specs.declared.acts.Next.TheVariants as next
use Rattle.steps_base.specs.declared.acts.Reply.{Reply}
use Rattle.steps_base.specs.declared.acts.Reply.TheVariants as reply
use Rattle.steps_base.specs.Profiles.{Profile, hand}
use Rattle.steps_base.specs.Calls.{CallFollows, IsNotLate, call_by}
use Rattle.spec_locks.specs.Locks.{Rules, Rights}
use Rattle.spec_locks.specs.Codes.{code}
use Rattle.spec_locks.specs.Runs.{CallState}
use Rattle.spec_locks.specs.Sites.{Site}
use Rattle.steps_once.specs.declared.places.OncePlace.{OncePlace}
use Rattle.steps_once.specs.OnceSteps.{once_act, once_next}
use Rattle.steps_once.specs.OnceProfiles.{once_profile}
use Rattle.steps_once.specs.OnceDeeds.{IsAt, MayReply, once_deeds}

abbrev pub next_row : Next OncePlace → Next Profile
next_row (next.At p) = next.At (once_profile p)
next_row (next.End answer) = next.End answer

abbrev pub CallFollowsBy : Rules → Site → ℕ → ℕ → OncePlace → Reply → Type 0
CallFollowsBy r s t l p told =
    CallFollows r s.lock t l (once_profile p) (once_deeds p told) (next_row (once_next p told))

-- each step on the word
abbrev pub OnceStepsTell : Type 0
OnceStepsTell =
    (r : Rules) (s : Site) (t l : ℕ) (p : OncePlace) (op : Op) → IsAt r s t p
    → once_act l p ≡ act.Word l op
    → CallFollowsBy r s t l p (reply.Value (code r s))

-- Each step into the section, in it, and out of it answers truly, but for the step by which a thread is late.
abbrev pub OnceSectionsTell : Type 0
OnceSectionsTell =
    (r : Rules) (s : Site) (t l : ℕ) (p : OncePlace) (told : Reply) → IsAt r s t p
    → MayReply r s t p told → IsNotLate told
    → CallFollowsBy r s t l p told

-- the call of a thread asleep, after what befalls it
abbrev pub CallBecomes : ℕ → OncePlace → Reply → (CallState → CallState) → Type 0
CallBecomes l p told becomes =
    (p2 : OncePlace) (rights : ℕ → Rights) → once_next p told ≡ next.At p2
    → call_by l (once_profile p2) rights ≡ becomes (call_by l (once_profile p) rights)

-- nothing, where it is taken; it tries again, where it is woken that was taken; and it is late,
-- where its time is up
pub record SleepersGetReply (l : ℕ) (p : OncePlace) : Type 0 where
  pub taken : (u : ℕ) → CallBecomes l p (reply.TakenBy u) (λ c. c)
  pub woken : (u : ℕ) → (once_profile p).hand ≡ hand u false
      → CallBecomes l p (reply.Woken Normal) (λ c. record c { retries = Some l })
  pub late : (once_profile p).late_line ≢ None
      → CallBecomes l p reply.Late (λ c. record c { late = true })

abbrev pub OnceSleepersHear : Type 0
OnceSleepersHear = (l : ℕ) (p : OncePlace) → SleepersGetReply l p
