-- Each act of a `Once`'s call is one that the thread may take, and leads to a place that fits.
use Rattle.std.proofs.Common.{◌++◌, ℕ, suc, ◌≡◌, ◌≢◌, ◌*◌, Bool, true, false, List, ◌∷◌, Option, Some, None}
use Rattle.std.proofs.Common.{cond, if◌then◌else◌, inl, inr, sym, refl, ap, ◌∙◌, subst, arith, ne_eqb}
use Rattle.std.proofs.lemmas.Bool.{false≢true}
use mathlib.Core.Logic.{dite}
use native.Mathlib.Decide.{ℕ_discrete}
use Rattle.core_base.specs.Words.{apply}
use Rattle.core_base.specs.declared.keys.Keys.TheVariants.{One}
use Rattle.core_base.specs.declared.notes.Note.TheVariants.{Normal, HandOff}
use Rattle.core_base.specs.declared.ops.Op.TheVariants.{And, Exchange, Load}
use Rattle.spec_locks.specs.declared.calls.OnceCall.{OnceCall}
use Rattle.spec_locks.specs.declared.calls.OnceCall.TheVariants.{CallOnce, Wait, WaitTimed}
use Rattle.steps_base.specs.declared.acts.Act.{Act}
use Rattle.steps_base.specs.declared.acts.Act.TheVariants as act
use Rattle.steps_base.specs.declared.acts.Reply.{Reply}
use Rattle.steps_base.specs.declared.acts.Reply.TheVariants.{Done, Value, Parked, Took, Removed, MovedTo}
use Rattle.steps_base.specs.declared.acts.Reply.TheVariants.{Late, Woken}
use Rattle.steps_once.specs.OnceSteps.{course_of, decided, give_up_act, in_look, look_act, looked, once_act}
use Rattle.steps_once.specs.OnceSteps.{run_act}
use Rattle.steps_once.specs.declared.give_up.GiveUpAt.{GiveUpAt}
use Rattle.steps_once.specs.declared.give_up.GiveUpAt.TheVariants as give_up
use Rattle.steps_once.specs.declared.places.TheConstants.{NOT_PARKED}
use Rattle.steps_once.specs.declared.look.LookAt.{LookAt}
use Rattle.steps_once.specs.declared.look.LookAt.TheVariants as look
use Rattle.steps_once.specs.declared.run.RunAt.{RunAt}
use Rattle.steps_once.specs.declared.run.RunAt.TheVariants as run
use Rattle.steps_once.specs.declared.places.OncePlace.{OncePlace}
use Rattle.steps_once.specs.declared.places.OncePlace.TheVariants.{Look, Run, GiveUp}
use Rattle.lot_steps.specs.Steps.{in_once, once_does, once_goes}
use Rattle.lot_steps.specs.declared.places.Place.TheVariants.{Once}
use Rattle.core_words.specs.Codes.{IsOnceWord}
use Rattle.core_words.specs.Steps.{once_trade, owns_after}
use Rattle.core_words.specs.Views.{owning}
use Rattle.core_words.specs.declared.owners.Owner.TheVariants.{Runner, Witness}
use Rattle.core_words.specs.declared.owners.Ownership.{Ownership}
use Rattle.core_words.specs.declared.words.WordKind.TheVariants as kinds
use Rattle.core_words.proofs.OnceSteps.{each_once_code, once_steps}
use Rattle.parking_lot_core.specs.declared.tokens.Did.TheVariants.{TakeAll}
use Rattle.run_base.specs.Fitting.{Fits, LooksLeadOn, Reached, ReachedBy, call_purpose, answer_of, of_once}
use Rattle.run_base.specs.Fitting.{sleeper_at}
use Rattle.run_base.specs.OnceFitting.{FitsLook, FitsOnce, FitsRun, OwnsAfter, StandsOutside, StandsWithin}
use Rattle.run_base.specs.OnceFitting.{goes_on, knowing}
use Rattle.run_base.specs.Paths.{once_at, onces, at_once, step}
use Rattle.core_words.specs.declared.views.WordStep.{WordStep}
use Rattle.run_base.specs.Stages.{ThreadState, SectionView, ActNeeds, Became, HasKey, IsFresh, IsLeft}
use Rattle.run_base.specs.Stages.{MayLeave}
use Rattle.run_base.specs.Stages.{entered_now, stage, stepped, took_as}
use Rattle.run_base.proofs.Leaving.{has_done}

module _ (l : ℕ) (base : List Ownership) (st : ThreadState) where
  abbrev Can : Act → Type 0
  Can = ActNeeds onces (at_once l) st

  abbrev Decides : OnceCall → ℕ → Type 0
  Decides c seen = st.inside ≡ None → Can (decided l c seen)

  decide_needs : (c : OnceCall) (seen : ℕ) → IsOnceWord seen → Decides c seen
  decide_needs (CallOnce false) = let s = once_steps (once_at l) st.owns
      in each_once_code (Decides (CallOnce false))
      (λ o. s.start 0 (omega arith) (inl refl)) (λ o. s.load) (λ o. s.load)
      (λ o. s.set_parked 4 (inr (inr refl)))
      (λ o. s.start 8 (omega arith) (inl refl)) (λ o. s.load) (λ o. (tt, o))
  decide_needs (CallOnce true) = let s = once_steps (once_at l) st.owns
      in each_once_code (Decides (CallOnce true))
      (λ o. s.start 0 (omega arith) (inl refl)) (λ o. s.load) (λ o. s.start 2 (omega arith) (inr refl))
      (λ o. s.set_parked 4 (inr (inr refl)))
      (λ o. s.start 8 (omega arith) (inl refl)) (λ o. s.start 10 (omega arith) (inr refl)) (λ o. (tt, o))
  decide_needs (Wait false) = let s = once_steps (once_at l) st.owns in each_once_code (Decides (Wait false))
      (λ o. s.set_parked 0 (inl refl)) (λ o. s.load) (λ o. s.load) (λ o. s.set_parked 4 (inr (inr refl)))
      (λ o. (tt, o)) (λ o. s.load) (λ o. (tt, o))
  decide_needs (Wait true) = let s = once_steps (once_at l) st.owns in each_once_code (Decides (Wait true))
      (λ o. s.set_parked 0 (inl refl)) (λ o. s.load) (λ o. s.set_parked 2 (inr (inl refl)))
      (λ o. s.set_parked 4 (inr (inr refl)))
      (λ o. (tt, o)) (λ o. (tt, o)) (λ o. (tt, o))
  decide_needs WaitTimed = let s = once_steps (once_at l) st.owns in each_once_code (Decides WaitTimed)
      (λ o. s.set_parked 0 (inl refl)) (λ o. s.load) (λ o. s.load) (λ o. s.set_parked 4 (inr (inr refl)))
      (λ o. (tt, o)) (λ o. s.load) (λ o. (tt, o))

  look_needs : (c : OnceCall) (at : LookAt) → FitsLook l c base at st → Can (look_act l c at)
  look_needs c look.Load f = (once_steps (once_at l) st.owns).load
  look_needs c (look.Decide seen) f = decide_needs c seen f.0 f.2.1
  look_needs c look.Check f = ((once_steps (once_at l) st.owns).load, subst (HasKey (2 * l)) (sym f.1) refl)
  look_needs c (look.Leave parked) f = subst (MayLeave Normal) (sym f.1) refl
  look_needs c look.Asleep f = f.1
  look_needs c (look.Taken by) f = absurd f

  run_needs : (at : RunAt) → FitsRun l base at st → Can (run_act l at)
  run_needs (run.Closure poisoned) f = f.1
  run_needs (run.Close succeeded) f = absurd f
  run_needs (run.Enter succeeded) f = (tt, f.1)
  run_needs (run.Take succeeded) f = (subst (HasKey (2 * l)) (sym f.1) refl, subst IsFresh (sym f.1) refl)
  run_needs (run.Leave succeeded true) f = subst (MayLeave Normal) (sym f.3) refl
  run_needs (run.Leave succeeded false) f = subst (MayLeave Normal) (sym f.3) refl

  give_up_needs : (up : Type 0) (at : GiveUpAt) → up × StandsWithin l base st → Can (give_up_act l at)
  give_up_needs up give_up.Remove f = subst (HasKey (2 * l)) (sym f.1.1) refl
  give_up_needs up give_up.Clear f = (once_steps (once_at l) st.owns).clear_parked
  give_up_needs up give_up.Leave f = subst (MayLeave Normal) (sym f.1.1) refl

  -- the needs of the place's act are there
  needs : (up : Type 0) (at : OncePlace) → FitsOnce up l base at st → Can (once_act l at)
  needs up (Look c retries at) f = look_needs c at f
  needs up (Run forced at) f = run_needs at f
  needs up (GiveUp retries at) f = give_up_needs up at f

  module _ (up : Type 0) (new : ThreadState) where
    owns_of : (s : ThreadState) → new ≡ s → new.owns ≡ s.owns
    owns_of s e = ap (λ (x : ThreadState). x.owns) e

    inside_of : (s : ThreadState) → new ≡ s → new.inside ≡ s.inside
    inside_of s e = ap (λ (x : ThreadState). x.inside) e

    -- a look that found it done, and one that did not
    knows : StandsOutside l base st → (s : ThreadState) → new ≡ s → s.owns ≡ owning (once_at l) Witness
        ∷ st.owns
        → (times : ℕ) × (new.owns ≡ owning (once_at l) Witness ∷ knowing l times base)
    knows f s x o = (
      f.0.0,
      owns_of s x ∙ o ∙ ap (λ (rest : List Ownership). owning (once_at l) Witness
          ∷ rest) f.0.1,
    )

    still : StandsOutside l base st → (s : ThreadState) → new ≡ s → s.owns ≡ st.owns → s.inside ≡ st.inside
        → StandsOutside l base new
    still f s x o i = ((f.0.0, owns_of s x ∙ o ∙ f.0.1), inside_of s x ∙ i ∙ f.1)

    abbrev AsSeen : ℕ → Type 0
    AsSeen seen = (steps : List WordStep)
        × (new ≡ stage (owns_after (once_at l) (once_trade seen seen) st.owns) st.inside None steps)

    module _ (f : StandsOutside l base st) where
      abbrev Lands : OnceCall → Bool → ℕ → Type 0
      Lands c r seen = AsSeen seen → ReachedBy up base (of_once l c)
          (once_goes l (in_look c r (looked c seen))) (answer_of (once_does l (in_look c r (looked c seen))))
          new

      -- where a look leads
      pub lands : (c : OnceCall) (r : Bool) (seen : ℕ) → IsOnceWord seen → Lands c r seen
      lands (CallOnce false) r = each_once_code (Lands (CallOnce false) r)
          (λ x. ((inr (omega arith, inl refl), refl, still f _ x.1 refl refl), refl))
          (λ x. (inside_of _ x.1 ∙ f.1, (refl, knows f _ x.1 refl))) (λ x. let s = still f _ x.1 refl refl
          in (s.1, (refl, s.0)))
          (λ x. ((inr (omega arith, inr (inr refl)), refl, still f _ x.1 refl refl), refl))
          (λ x. ((inr (omega arith, inl refl), refl, still f _ x.1 refl refl), refl))
          (λ x. let s = still f _ x.1 refl refl in (s.1, (refl, s.0)))
          (λ x. ((inr (omega arith, inr (inr refl)), refl, still f _ x.1 refl refl), refl))
      lands (CallOnce true) r = each_once_code (Lands (CallOnce true) r)
          (λ x. ((inr (omega arith, inl refl), refl, still f _ x.1 refl refl), refl))
          (λ x. (inside_of _ x.1 ∙ f.1, (refl, knows f _ x.1 refl)))
          (λ x. ((inr (omega arith, inr (inl refl)), refl, still f _ x.1 refl refl), refl))
          (λ x. ((inr (omega arith, inr (inr refl)), refl, still f _ x.1 refl refl), refl))
          (λ x. ((inr (omega arith, inl refl), refl, still f _ x.1 refl refl), refl))
          (λ x. ((inr (omega arith, inr (inl refl)), refl, still f _ x.1 refl refl), refl))
          (λ x. ((inr (omega arith, inr (inr refl)), refl, still f _ x.1 refl refl), refl))
      lands (Wait false) r = each_once_code (Lands (Wait false) r)
          (λ x. ((inr (omega arith, inl refl), refl, still f _ x.1 refl refl), refl))
          (λ x. (inside_of _ x.1 ∙ f.1, (refl, knows f _ x.1 refl))) (λ x. let s = still f _ x.1 refl refl
          in (s.1, (refl, s.0)))
          (λ x. ((inr (omega arith, inr (inr refl)), refl, still f _ x.1 refl refl), refl))
          (λ x. ((inr (omega arith, inl refl), refl, still f _ x.1 refl refl), refl))
          (λ x. let s = still f _ x.1 refl refl in (s.1, (refl, s.0)))
          (λ x. ((inr (omega arith, inr (inr refl)), refl, still f _ x.1 refl refl), refl))
      lands (Wait true) r = each_once_code (Lands (Wait true) r)
          (λ x. ((inr (omega arith, inl refl), refl, still f _ x.1 refl refl), refl))
          (λ x. (inside_of _ x.1 ∙ f.1, (refl, knows f _ x.1 refl)))
          (λ x. ((inr (omega arith, inr (inl refl)), refl, still f _ x.1 refl refl), refl))
          (λ x. ((inr (omega arith, inr (inr refl)), refl, still f _ x.1 refl refl), refl))
          (λ x. ((inr (omega arith, inl refl), refl, still f _ x.1 refl refl), refl))
          (λ x. ((inr (omega arith, inr (inl refl)), refl, still f _ x.1 refl refl), refl))
          (λ x. ((inr (omega arith, inr (inr refl)), refl, still f _ x.1 refl refl), refl))
      lands WaitTimed r = each_once_code (Lands WaitTimed r)
          (λ x. ((inr (omega arith, inl refl), refl, still f _ x.1 refl refl), refl))
          (λ x. (inside_of _ x.1 ∙ f.1, (refl, knows f _ x.1 refl))) (λ x. let s = still f _ x.1 refl refl
          in (s.1, (refl, s.0)))
          (λ x. ((inr (omega arith, inr (inr refl)), refl, still f _ x.1 refl refl), refl))
          (λ x. ((inr (omega arith, inl refl), refl, still f _ x.1 refl refl), refl))
          (λ x. let s = still f _ x.1 refl refl in (s.1, (refl, s.0)))
          (λ x. ((inr (omega arith, inr (inr refl)), refl, still f _ x.1 refl refl), refl))

      abbrev Saw : OnceCall → Bool → ℕ → ℕ → ℕ → Type 0
      Saw c r from to seen = new ≡ stepped kinds.Once (once_at l) (Exchange from to) seen st
          → Reached up base (Once l (Look c r (look.Decide from))) (Value seen) new

      -- an exchange that finds another value is a look
      misses : (c : OnceCall) (r : Bool) (from to seen : ℕ) → IsOnceWord seen → seen ≢ from
          → Saw c r from to seen
      misses c r from to seen word ne x = let found : apply (Exchange from to) seen ≡ seen =
          ap (λ (b : Bool). cond b to seen) (ne_eqb seen from ne) in
          rw (ne_eqb seen from ne) (lands c r seen word (
            st.steps ++ step (once_at l) (Exchange from to) seen,
            x ∙ ap (λ (left : ℕ). stage (owns_after (once_at l) (once_trade seen left) st.owns) st.inside
                None (st.steps ++ step (once_at l) (Exchange from to) seen)) found,
          ))

      abbrev Leads : OnceCall → Bool → ℕ → Type 0
      Leads c r from = goes_on (course_of c from) ≡ true → (reply : Reply)
          → Became up onces (at_once l) (sleeper_at (Once l (Look c r (look.Decide from)))) st
          (decided l c from) reply new → Reached up base (Once l (Look c r (look.Decide from))) reply new

      by_exchange : (c : OnceCall) (r : Bool) (from to : ℕ) → Saw c r from to from → (reply : Reply)
          → Became up onces (at_once l) (sleeper_at (Once l (Look c r (look.Decide from)))) st
          (act.Word l (Exchange from to)) reply new
          → Reached up base (Once l (Look c r (look.Decide from))) reply new
      by_exchange c r from to hit (Value seen) b = dite (ℕ_discrete seen from)
          (λ e. subst (Saw c r from to) (sym e) hit) (λ ne. misses c r from to seen b.0.1.0 ne) b.1
      by_exchange c r from to hit reply b = absurd b

      by_entry : (c : OnceCall) (r : Bool) (from : ℕ) (reply : Reply) → Became up onces (at_once l)
          (sleeper_at (Once l (Look c r (look.Decide from)))) st (act.Enter (One (2 * l))) reply
          new → Reached up base (Once l (Look c r (look.Decide from))) reply new
      by_entry c r from Done b = (((f.0.0, owns_of _ b ∙ f.0.1), inside_of _ b), refl)
      by_entry c r from reply b = absurd b

      begins : (s : ThreadState) → new ≡ s → s.owns ≡ owning (once_at l) Runner ∷ st.owns → s.inside
          ≡ st.inside
          → FitsRun l base (run.Closure false) new
      begins s x o i = ((st.owns, f.0, owns_of s x ∙ o), inside_of s x ∙ i ∙ f.1)

      decides : (c : OnceCall) (r : Bool) (from : ℕ) → IsOnceWord from → Leads c r from
      decides (CallOnce false) r = each_once_code (Leads (CallOnce false) r)
          (λ g. by_exchange (CallOnce false) r 0 4 (λ x. (begins _ x refl refl, refl)))
          (λ g. absurd (false≢true g)) (λ g. absurd (false≢true g))
          (λ g. by_exchange (CallOnce false) r 4 12
          (λ x. ((inr (omega arith, inr (inr refl)), refl, still f _ x refl refl), refl)))
          (λ g. by_exchange (CallOnce false) r 8 12 (λ x. (begins _ x refl refl, refl)))
          (λ g. absurd (false≢true g)) (λ g. by_entry (CallOnce false) r 12)
      decides (CallOnce true) r = each_once_code (Leads (CallOnce true) r)
          (λ g. by_exchange (CallOnce true) r 0 4 (λ x. (begins _ x refl refl, refl)))
          (λ g. absurd (false≢true g)) (λ g. by_exchange (CallOnce true) r 2 4
          (λ x. (begins _ x refl refl, refl)))
          (λ g. by_exchange (CallOnce true) r 4 12
          (λ x. ((inr (omega arith, inr (inr refl)), refl, still f _ x refl refl), refl)))
          (λ g. by_exchange (CallOnce true) r 8 12 (λ x. (begins _ x refl refl, refl)))
          (λ g. by_exchange (CallOnce true) r 10 12 (λ x. (begins _ x refl refl, refl)))
          (λ g. by_entry (CallOnce true) r 12)
      decides (Wait false) r = each_once_code (Leads (Wait false) r)
          (λ g. by_exchange (Wait false) r 0 8
          (λ x. ((inr (omega arith, inl refl), refl, still f _ x refl refl), refl)))
          (λ g. absurd (false≢true g)) (λ g. absurd (false≢true g))
          (λ g. by_exchange (Wait false) r 4 12
          (λ x. ((inr (omega arith, inr (inr refl)), refl, still f _ x refl refl), refl)))
          (λ g. by_entry (Wait false) r 8) (λ g. absurd (false≢true g)) (λ g. by_entry (Wait false) r 12)
      decides (Wait true) r = each_once_code (Leads (Wait true) r)
          (λ g. by_exchange (Wait true) r 0 8
          (λ x. ((inr (omega arith, inl refl), refl, still f _ x refl refl), refl)))
          (λ g. absurd (false≢true g)) (λ g. by_exchange (Wait true) r 2 10
          (λ x. ((inr (omega arith, inr (inl refl)), refl, still f _ x refl refl), refl)))
          (λ g. by_exchange (Wait true) r 4 12
          (λ x. ((inr (omega arith, inr (inr refl)), refl, still f _ x refl refl), refl)))
          (λ g. by_entry (Wait true) r 8) (λ g. by_entry (Wait true) r 10) (λ g. by_entry (Wait true) r 12)
      decides WaitTimed r = each_once_code (Leads WaitTimed r)
          (λ g. by_exchange WaitTimed r 0 8 (λ x. (
            (inr (omega arith, inl refl), refl, still f _ x refl refl),
            refl,
          ))) (λ g. absurd (false≢true g)) (λ g. absurd (false≢true g))
          (λ g. by_exchange WaitTimed r 4 12
          (λ x. ((inr (omega arith, inr (inr refl)), refl, still f _ x refl refl), refl)))
          (λ g. by_entry WaitTimed r 8) (λ g. absurd (false≢true g)) (λ g. by_entry WaitTimed r 12)

    -- inside the section, where it finds it done or not
    within : StandsWithin l base st → (s : ThreadState) → new ≡ s → s.owns ≡ st.owns → s.inside ≡ st.inside
        → StandsWithin l base new
    within f s x o i = ((f.0.0, owns_of s x ∙ o ∙ f.0.1), inside_of s x ∙ i ∙ f.1)

    within_done : StandsWithin l base st → (s : ThreadState) → new ≡ s → s.owns ≡ owning (once_at l) Witness
        ∷ st.owns → s.inside ≡ st.inside → StandsWithin l base new
    within_done f s x o i = (
      (
        suc f.0.0,
        owns_of s x ∙ o
            ∙ ap (λ (rest : List Ownership). owning (once_at l) Witness ∷ rest) f.0.1,
      ),
      inside_of s x ∙ i ∙ f.1,
    )

    abbrev Checked : ℕ → Type 0
    Checked seen = AsSeen seen → StandsWithin l base new

    -- the look inside the section
    checks : StandsWithin l base st → (seen : ℕ) → IsOnceWord seen → Checked seen
    checks f = each_once_code Checked (λ x. within f _ x.1 refl refl) (λ x. within_done f _ x.1 refl refl)
        (λ x. within f _ x.1 refl refl)
        (λ x. within f _ x.1 refl refl) (λ x. within f _ x.1 refl refl) (λ x. within f _ x.1 refl refl)
        (λ x. within f _ x.1 refl refl)

    abbrev Cleared : ℕ → Type 0
    Cleared seen = new ≡ stepped kinds.Once (once_at l) (And NOT_PARKED) seen st
        → StandsWithin l base new

    -- the bit is cleared there
    clears : StandsWithin l base st → (seen : ℕ) → IsOnceWord seen → Cleared seen
    clears f = each_once_code Cleared (λ x. within f _ x refl refl) (λ x. within_done f _ x refl refl)
        (λ x. within f _ x refl refl)
        (λ x. within f _ x refl refl) (λ x. within f _ x refl refl) (λ x. within f _ x refl refl)
        (λ x. within f _ x refl refl)

    nobody : {key : ℕ} → None ≡ Some key → ⊥
    nobody e = cc

    look_leads : (c : OnceCall) (r : Bool) (at : LookAt) → FitsLook l c base at st → (reply : Reply)
        → Became up onces (at_once l) (sleeper_at (Once l (Look c r at))) st (look_act l c at) reply new
        → Reached up base (Once l (Look c r at)) reply new
    look_leads c r look.Load f (Value seen) b =
        lands f c r seen b.0.1.0 (st.steps ++ step (once_at l) Load seen, b.1)
    look_leads c r (look.Decide seen) f reply b = decides f.2 c r seen f.0 f.1 reply b
    look_leads c r look.Check f (Parked parked) b =
        (checks f b.0 b.2.0.1.0 (st.steps ++ step (once_at l) Load b.0, b.2.1), refl)
    look_leads c r (look.Leave true) f Done b = (((f.0.0, b.0 ∙ f.0.1), b.1), refl)
    look_leads c r (look.Leave false) f Done b = (((f.0.0, b.0 ∙ f.0.1), b.1), refl)
    look_leads c r look.Asleep f (Woken Normal) b = (((f.0.0, b.0 ∙ f.0.1), b.1), refl)
    look_leads c r look.Asleep f (Woken HandOff) b = absurd (false≢true b.3)
    look_leads WaitTimed r look.Asleep f Late b = let e : Some (2 * l) ≡ Some b.0 = b.1.0 in let same : 2 * l
        ≡ b.0 = cc in (
          (
            b.2,
            (
              (f.0.0, owns_of _ b.1.1 ∙ f.0.1),
              inside_of _ b.1.1 ∙ ap (λ (key : ℕ). entered_now (One key))
                  (sym same),
            ),
          ),
          refl,
        )
    look_leads (CallOnce forced) r look.Asleep f Late b = absurd (nobody b.1.0)
    look_leads (Wait forced) r look.Asleep f Late b = absurd (nobody b.1.0)
    look_leads c r look.Asleep f (MovedTo key) b = absurd (nobody b.0.1)
    look_leads c r (look.Taken by) f reply b = absurd f
    look_leads c r at f reply b = absurd b

    same_after : (succeeded : Bool) → OwnsAfter l succeeded base st.owns → new.owns ≡ st.owns
        → OwnsAfter l succeeded base new.owns
    same_after succeeded f e = subst (OwnsAfter l succeeded base) (sym e) f

    run_leads : (forced : Bool) (at : RunAt) → FitsRun l base at st → (reply : Reply)
        → Became up onces (at_once l) (sleeper_at (Once l (Run forced at))) st (run_act l at) reply new
        → Reached up base (Once l (Run forced at)) reply new
    run_leads forced (run.Enter succeeded) f Done b =
        ((same_after succeeded f.0 (owns_of _ b), inside_of _ b), refl)
    run_leads forced (run.Take succeeded) f (Took any left) b = (
      (same_after succeeded f.0 b.1, b.0.0, b.0.1, b.0.2 ∙ ap (took_as (TakeAll (2 * l)) b.0.0) f.1),
      refl,
    )
    run_leads forced (run.Leave succeeded any) f Done b = (
      b.1,
      refl,
      same_after succeeded f.0 b.0,
      has_done _ _ _ f.3 b.2,
    )
    run_leads forced (run.Take succeeded) f reply b = absurd b.0
    run_leads forced (run.Close succeeded) f reply b = absurd f
    run_leads forced at f reply b = absurd b

    give_up_leads : (r : Bool) (at : GiveUpAt) → up × StandsWithin l base st → (reply : Reply)
        → Became up onces (at_once l) (sleeper_at (Once l (GiveUp r at))) st (give_up_act l at) reply new
        → Reached up base (Once l (GiveUp r at)) reply new
    give_up_leads r give_up.Remove f (Removed true) b = ((f.0, subst (StandsWithin l base) (sym b) f.1), refl)
    give_up_leads r give_up.Remove f (Removed false) b = (
      (f.0, subst (StandsWithin l base) (sym b) f.1),
      refl,
    )
    give_up_leads r give_up.Clear f (Value seen) b = ((f.0, clears f.1 seen b.0.1.0 b.1), refl)
    give_up_leads r give_up.Leave f Done b = (
      b.1,
      (
        refl,
        f.0,
        (f.1.0.0, b.0 ∙ f.1.0.1),
        subst (λ (i : Option SectionView). IsLeft i new.last)
            f.1.1 b.2,
      ),
    )
    give_up_leads r at f reply b = absurd b

    leads : (at : OncePlace) → FitsOnce up l base at st → (reply : Reply) → Became up onces (at_once l)
        (sleeper_at (Once l at)) st (once_act l at) reply new → Reached up base (Once l at) reply new
    leads (Look c r at) f = look_leads c r at f
    leads (Run forced at) f = run_leads forced at f
    leads (GiveUp r at) f = give_up_leads r at f

  -- where it looks at the word once more, it has what it had
  looks : (up : Type 0) (at : OncePlace) → FitsOnce up l base at st → LooksLeadOn up base (Once l at) st
  looks up (Look c r (look.Decide seen)) f q is = by_mark _ is
    where
      by_mark : (b : Bool) → in_once l (if b then Some (Look c r look.Load) else None) ≡ Some q
          → Fits up base q st × (call_purpose q ≡ of_once l c)
      by_mark true is = let there : Once l (Look c r look.Load) ≡ q = cc in subst (λ p. Fits up base p st
          × (call_purpose p ≡ of_once l c)) there (f.2, refl)
      by_mark false is = absurd cc
  looks up at f q is = absurd cc

-- the words of a call of a `Once` are that one alone
pub once_place_leads : (up : Type 0) (l : ℕ) (base : List Ownership) (at : OncePlace) (st : ThreadState)
    → FitsOnce up l base at st →
    ActNeeds onces (at_once l) st (once_act l at) × LooksLeadOn up base (Once l at) st
    × ((reply : Reply) (new : ThreadState)
    → Became up onces (at_once l) (sleeper_at (Once l at)) st (once_act l at)
    reply new → Reached up base (Once l at) reply new)
once_place_leads up l base at st f = (
  needs l base st up at f,
  looks l base st up at f,
  λ reply new. leads l
      base st up new at f reply,
)
