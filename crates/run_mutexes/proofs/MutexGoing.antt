-- The straight course of an unlock: where its take leads.
use Rattle.std.proofs.Common.{ℕ, ◌≡◌, Bool, true, false, None, refl}
use Rattle.steps_base.specs.declared.acts.Reply.TheVariants.{Took}
use Rattle.steps_mutex.specs.declared.unlock.UnlockAt.TheVariants as unlock
use Rattle.lot_steps.specs.Steps.{next_act, next_place}
use Rattle.run_base.specs.Fitting.{answer_of}
use Rattle.run_base.specs.MutexCourses.{taken_on, unlocks_at}

module _ (m : ℕ) (any : Bool) where
  pub taken_here : (none_left : Bool) → next_place (unlocks_at m unlock.Take) (Took any none_left)
      ≡ unlocks_at m (taken_on any none_left)
  taken_here true = refl
  taken_here false = refl

  -- A take ends no call.
  pub taken_goes_on : (none_left : Bool)
      → answer_of (next_act (unlocks_at m unlock.Take) (Took any none_left)) ≡ None
  taken_goes_on true = refl
  taken_goes_on false = refl
