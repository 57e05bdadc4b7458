-- Each act of a semaphore's call is one that the thread may take, and leads to a place that fits.
use Rattle.std.proofs.Common.{◌++◌, ℕ, ◌≡◌, ◌≢◌, ◌*◌, ◌/◌, ◌-◌, ◌^◌, ◌≤◌, ◌==◌, ◌&&◌, Bool, true, false, List}
use Rattle.std.proofs.Common.{◌∷◌, Option, Some, None, cond, not, if◌then◌else◌, sym, refl, ap, ◌∙◌}
use Rattle.std.proofs.Common.{subst, arith, eq-eqb, ne_eqb}
use Rattle.std.proofs.lemmas.Bool.{false≢true}
use Rattle.std.proofs.lemmas.Nat.{and-not, and_comm}
use Rattle.std.proofs.lemmas.Nat.Bits.{and_pow}
use mathlib.Core.Logic.{dite}
use native.Mathlib.Decide.{ℕ_discrete}
use Rattle.core_base.specs.Words.{apply}
use Rattle.core_base.specs.declared.keys.Keys.TheVariants.{One}
use Rattle.core_base.specs.declared.notes.Note.TheVariants.{Normal, HandOff}
use Rattle.core_base.specs.declared.ops.Op.{Op}
use Rattle.core_base.specs.declared.ops.Op.TheVariants.{And, Exchange, Load}
use Rattle.steps_base.specs.declared.acts.Act.{Act}
use Rattle.steps_base.specs.declared.acts.Act.TheVariants as act
use Rattle.steps_base.specs.declared.acts.Next.TheVariants.{At, End}
use Rattle.steps_base.specs.declared.acts.Reply.{Reply}
use Rattle.steps_base.specs.declared.acts.Reply.TheVariants.{Done, Value, Parked, Took, Removed, MovedTo}
use Rattle.steps_base.specs.declared.acts.Reply.TheVariants.{Late, Woken}
use Rattle.spec_locks.specs.declared.outcomes.Answer.{Answer}
use Rattle.spec_locks.specs.declared.outcomes.Answer.TheVariants as answers
use Rattle.spec_locks.specs.declared.outcomes.OnceState.{OnceState}
use Rattle.steps_semaphore.specs.SemaphoreSteps.{acquire_act, acquired, decided, in_acquire, in_try, is_free}
use Rattle.steps_semaphore.specs.SemaphoreSteps.{looked, release_act, semaphore_act}
use Rattle.steps_semaphore.specs.SemaphoreSteps.{try_act}
use Rattle.steps_semaphore.specs.declared.acquire.AcquireAt.{AcquireAt}
use Rattle.steps_semaphore.specs.declared.acquire.AcquireAt.TheVariants as acquire
use Rattle.steps_semaphore.specs.declared.tries.TryAt.{TryAt}
use Rattle.steps_semaphore.specs.declared.tries.TryAt.TheVariants as tries
use Rattle.steps_semaphore.specs.declared.release.ReleaseAt.{ReleaseAt}
use Rattle.steps_semaphore.specs.declared.release.ReleaseAt.TheVariants as release
use Rattle.steps_semaphore.specs.declared.places.SemaphorePlace.{SemaphorePlace}
use Rattle.steps_semaphore.specs.declared.places.SemaphorePlace.TheVariants.{Acquire, Try, Release}
use Rattle.lot_steps.specs.Steps.{in_semaphore, semaphore_does, semaphore_goes}
use Rattle.lot_steps.specs.declared.places.Place.{Place}
use Rattle.lot_steps.specs.declared.places.Place.TheVariants.{Semaphore}
use Rattle.core_words.specs.Steps.{CodesWith, owns_after, owns_after_step, so_many_shared, trading}
use Rattle.core_words.specs.declared.owners.Ownership.{Ownership}
use Rattle.core_words.specs.declared.words.WordKind.TheVariants as kinds
use Rattle.core_words.proofs.SemaphoreSteps.{semaphore_steps, semaphore_trades}
use Rattle.parking_lot_core.specs.declared.tokens.Did.TheVariants.{TakeFirst}
use Rattle.run_base.specs.Fitting.{CallPurpose, Fits, LooksLeadOn, Reached, ReachedBy, call_purpose}
use Rattle.run_base.specs.Fitting.{answer_of, of_semaphore, sleeper_at}
use Rattle.run_base.specs.MutexFitting.{Outside}
use Rattle.run_base.specs.SemaphoreFitting.{AcquireAnswer, to_acquire, to_try, FitsAcquire, FitsRelease}
use Rattle.run_base.specs.SemaphoreFitting.{FitsSemaphore, FitsTry, permit}
use Rattle.run_base.specs.Paths.{at_semaphore, semaphore_at, semaphores, step}
use Rattle.run_base.specs.Stages.{ThreadState, SectionView, ActNeeds, Became, HasKey, IsFresh, IsLeft}
use Rattle.run_base.specs.Stages.{MayLeave}
use Rattle.run_base.specs.Stages.{entered_now, listed, stage, stepped, took_as}
use Rattle.run_base.proofs.Leaving.{has_done}

-- a value by which a permit is free is that of one permit at least
some_free : (seen : ℕ) → is_free seen ≡ true → 2 ≤ seen
some_free seen free = dite (ℕ_discrete (seen / 2) 0)
    (λ e. absurd (false≢true (sym (ap not (eq-eqb (seen / 2) 0 e)) ∙ free)))
    (λ ne. omega arith)

module _ (permits l : ℕ) (base : List Ownership) (st : ThreadState) where
  abbrev Can : Act → Type 0
  Can = ActNeeds (semaphores permits) (at_semaphore l) st

  decide_needs : (seen : ℕ) → Outside base st → Can (decided l seen)
  decide_needs seen f = by_free (is_free seen) refl
    where
      by_word : (b : Bool) → (seen == 0) ≡ b → Can (if b then act.Word l (Exchange 0 1)
          else act.Enter (One (2 * l)))
      by_word true e = (semaphore_steps permits (semaphore_at l) st.owns).set_parked
      by_word false e = (tt, f.1)

      by_free : (b : Bool) → is_free seen ≡ b
          → Can (if b then act.Word l (Exchange seen (seen - 2)) else if seen == 0
          then act.Word l (Exchange 0 1) else act.Enter (One (2 * l)))
      by_free true e = (semaphore_steps permits (semaphore_at l) st.owns).take seen (some_free seen e)
      by_free false e = by_word (seen == 0) refl

  acquire_needs : (up : Type 0) (timed : Bool) (at : AcquireAt) → FitsAcquire up l timed base at st
      → Can (acquire_act l at)
  acquire_needs up timed acquire.Load f = (semaphore_steps permits (semaphore_at l) st.owns).load
  acquire_needs up timed (acquire.Decide seen) f = decide_needs seen f
  acquire_needs up timed acquire.Check f = (
    (semaphore_steps permits (semaphore_at l) st.owns).load,
    subst (HasKey (2 * l)) (sym f.1) refl,
  )
  acquire_needs up timed (acquire.Leave parked) f = subst (MayLeave Normal) (sym f.1) refl
  acquire_needs up timed acquire.Asleep f = f.1
  acquire_needs up timed (acquire.Taken by) f = absurd f
  acquire_needs up timed acquire.Remove f = subst (HasKey (2 * l)) (sym f.1.1) refl
  acquire_needs up timed acquire.Clear f = (semaphore_steps permits (semaphore_at l) st.owns).clear_parked
  acquire_needs up timed acquire.GiveUp f = subst (MayLeave Normal) (sym f.1.1) refl

  try_needs : (at : TryAt) → FitsTry base at st → Can (try_act l at)
  try_needs tries.Load f = (semaphore_steps permits (semaphore_at l) st.owns).load
  try_needs (tries.Decide seen) f =
      subst (λ (b : Bool). Can (if b then act.Word l (Exchange seen (seen - 2))
      else act.Word l Load)) (sym f.0)
      ((semaphore_steps permits (semaphore_at l) st.owns).take seen (some_free seen f.0))

  release_needs : (at : ReleaseAt) → FitsRelease l base at st → Can (release_act l at)
  release_needs release.Add f = absurd f
  release_needs release.Enter f = (tt, f.1)
  release_needs release.Take f = (subst (HasKey (2 * l)) (sym f.1) refl, subst IsFresh (sym f.1) refl)
  release_needs (release.Clear any) f = (semaphore_steps permits (semaphore_at l) st.owns).clear_parked
  release_needs (release.Leave true) f = subst (MayLeave Normal) (sym f.2.1) refl
  release_needs (release.Leave false) f = subst (MayLeave Normal) (sym f.2.1) refl

  -- the needs of the place's act are there
  needs : (up : Type 0) (at : SemaphorePlace) → FitsSemaphore up l base at st → Can (semaphore_act l at)
  needs up (Acquire timed retries at) f = acquire_needs up timed at f
  needs up (Try at) f = try_needs at f
  needs up (Release at) f = release_needs at f

  abbrev Owns : Op → ℕ → List Ownership
  Owns op seen = owns_after_step (kinds.Semaphore permits) (semaphore_at l) op seen st.owns

  -- where as many permits are free as before, nobody's change
  unchanged : (op : Op) (seen : ℕ) → apply op seen / 2 ≡ seen / 2 → Owns op seen ≡ st.owns
  unchanged op seen e = ap (λ (k : ℕ). owns_after (semaphore_at l) (trading (so_many_shared k)
      (so_many_shared (seen / 2 - apply op seen / 2))) st.owns) fewer
      ∙ ap (λ (k : ℕ). owns_after (semaphore_at l) (trading (so_many_shared 0) (so_many_shared k)) st.owns)
      more
    where
      fewer : apply op seen / 2 - seen / 2 ≡ 0
      fewer = omega (arith, e)

      more : seen / 2 - apply op seen / 2 ≡ 0
      more = omega (arith, e)

  loads : (seen : ℕ) → Owns Load seen ≡ st.owns
  loads seen = unchanged Load seen refl

  -- an exchange that finds another value is a load
  misses : (from to seen : ℕ) → seen ≢ from → Owns (Exchange from to) seen ≡ st.owns
  misses from to seen ne = unchanged (Exchange from to) seen (ap (λ (b : Bool). cond b to seen / 2)
      (ne_eqb seen from ne))

  -- the bit is set where no permit is free
  marks : (seen : ℕ) → Owns (Exchange 0 1) seen ≡ st.owns
  marks seen = dite (ℕ_discrete seen 0) (λ e. subst (λ (k : ℕ). Owns (Exchange 0 1) k ≡ st.owns) (sym e)
      (unchanged (Exchange 0 1) 0 refl)) (misses 0 1 seen)

  -- the bit alone is cleared
  clears : (seen : ℕ) → seen / 2 ≤ 4611686018427387904 → Owns (And 18446744073709551614) seen ≡ st.owns
  clears seen few = unchanged (And 18446744073709551614) seen
      (omega (
        arith,
        few,
        and-not 64 (2 ^ 0) seen (omega arith) (omega (arith, few)),
        and_comm seen (2 ^ 64 - 1 - 2 ^ 0),
        and_comm seen (2 ^ 0),
        and_pow seen 0,
      ))

  -- a thread that has looked ends no call
  decides_on : (seen : ℕ) → answer_of (decided l seen) ≡ None
  decides_on seen = by_look (is_free seen) (seen == 0)
    where
      by_look : (b c : Bool) → answer_of (if b then act.Word l (Exchange seen (seen - 2))
          else if c then act.Word l (Exchange 0 1) else act.Enter (One (2 * l)))
          ≡ None
      by_look true c = refl
      by_look false true = refl
      by_look false false = refl

  tries_on : (seen : ℕ) → answer_of (try_act l (tries.Decide seen)) ≡ None
  tries_on seen = by_look (is_free seen)
    where
      by_look : (b : Bool) → answer_of (if b then act.Word l (Exchange seen (seen - 2))
          else act.Word l Load) ≡ None
      by_look true = refl
      by_look false = refl

  module _ (up : Type 0) (new : ThreadState) where
    owns_of : (s : ThreadState) → new ≡ s → new.owns ≡ s.owns
    owns_of s e = ap (λ (x : ThreadState). x.owns) e

    inside_of : (s : ThreadState) → new ≡ s → new.inside ≡ s.inside
    inside_of s e = ap (λ (x : ThreadState). x.inside) e

    steps_of : (s : ThreadState) → new ≡ s → new.steps ≡ s.steps
    steps_of s e = ap (λ (x : ThreadState). x.steps) e

    -- the thread is where it was, after a step on the word that changes no owner
    stays : (inside : Option SectionView) (s : ThreadState) → new ≡ s → s.owns ≡ st.owns → s.inside
        ≡ st.inside
        → (st.owns ≡ base) × (st.inside ≡ inside) → (new.owns ≡ base) × (new.inside ≡ inside)
    stays inside s e o i f = (owns_of s e ∙ o ∙ f.0, inside_of s e ∙ i ∙ f.1)

    -- A thread has one permit more after a step that took one.
    takes : (from : ℕ) → 2 ≤ from → Outside base st → new ≡ stepped (kinds.Semaphore permits)
        (semaphore_at l) (Exchange from (from - 2)) from st → Outside (permit l ∷ base) new
    takes from some f x = (
      owns_of _ x ∙ (semaphore_trades permits (semaphore_at l) st.owns).takes from some
          ∙ ap (λ (rest : List Ownership). permit l ∷ rest) f.0,
      inside_of _ x ∙ f.1,
    )

    abbrev Found : Op → ℕ → Type 0
    Found op seen = new ≡ stepped (kinds.Semaphore permits) (semaphore_at l) op seen st

    module _ (timed : Bool) where
      abbrev place : Bool → AcquireAt → Place
      place r at = Semaphore l (Acquire timed r at)

      abbrev aim : CallPurpose
      aim = of_semaphore l (to_acquire timed)

      goes_on : (r : Bool) (seen : ℕ) → Outside base new
          → ReachedBy up base aim (place r (acquire.Decide seen)) (answer_of (decided l seen)) new
      goes_on r seen f = subst (λ (o : Option Answer). ReachedBy up base aim (place r (acquire.Decide seen)) o
          new) (sym (decides_on seen)) (f, refl)

      abbrev Lands : Bool → ℕ → Bool → Bool → Type 0
      Lands r seen b c = ReachedBy up base aim
          (semaphore_goes l (in_acquire timed r (if not b then At (acquire.Decide seen) else if c
          then End (acquired timed) else At (acquire.Decide 1))))
          (answer_of (semaphore_does l (in_acquire timed r (if not b then At (acquire.Decide seen) else if c
          then End (acquired timed) else At (acquire.Decide 1))))) new

      has_permit : (timed2 : Bool) → timed2 ≡ timed → Outside (permit l ∷ base) new
          → AcquireAnswer up l timed2 base (acquired timed2) new
      has_permit true e f = (refl, f)
      has_permit false e f = (refl, f)

      took : (r : Bool) (from : ℕ) → is_free from ≡ true → Outside (permit l ∷ base) new
          → Lands r from (from == from) (is_free from)
      took r from free f = subst (λ (b : Bool). Lands r from b (is_free from)) (sym (eq-eqb from from refl))
          (subst (λ (c : Bool). Lands r from true c) (sym free) (has_permit timed refl f))

      missed : (r : Bool) (from seen : ℕ) → seen ≢ from → Outside base new
          → Lands r seen (seen == from) (is_free seen)
      missed r from seen ne f = subst (λ (b : Bool). Lands r seen b (is_free seen))
          (sym (ne_eqb seen from ne)) (goes_on r seen f)

      marked : (r : Bool) (from seen : ℕ) → is_free from ≡ false → Outside base new
          → Lands r seen (seen == from) (is_free seen)
      marked r from seen full f = dite (ℕ_discrete seen from)
          (λ e. subst (λ (b : Bool). Lands r seen b (is_free seen)) (sym (eq-eqb seen from e))
          (subst (λ (c : Bool). Lands r seen true c) (sym (ap is_free e ∙ full)) (goes_on r 1 f)))
          (λ ne. missed r from seen ne f)

      abbrev Leads : Bool → ℕ → Act → Type 0
      Leads r from a = (reply : Reply) → Became up (semaphores permits) (at_semaphore l)
          (sleeper_at (place r (acquire.Decide from))) st a reply new
          → Reached up base (place r (acquire.Decide from)) reply new

      by_take : (r : Bool) (from : ℕ) → is_free from ≡ true → Outside base st
          → Leads r from (act.Word l (Exchange from (from - 2)))
      by_take r from free f (Value seen) b = dite (ℕ_discrete seen from)
          (λ e. subst (λ (s : ℕ). Found (Exchange from (from - 2)) s → Lands r s (s == from) (is_free s))
          (sym e) (λ x. took r from free (takes from (some_free from free) f x)) b.1)
          (λ ne. missed r from seen ne (stays None _ b.1 (misses from (from - 2) seen ne) refl f))
      by_take r from free f reply b = absurd b

      by_mark : (r : Bool) (from : ℕ) → is_free from ≡ false → Outside base st
          → Leads r from (act.Word l (Exchange 0 1))
      by_mark r from full f (Value seen) b = marked r from seen full (stays None _ b.1 (marks seen) refl f)
      by_mark r from full f reply b = absurd b

      by_entry : (r : Bool) (from : ℕ) → Outside base st → Leads r from (act.Enter (One (2 * l)))
      by_entry r from f Done b = ((owns_of _ b ∙ f.0, inside_of _ b), refl)
      by_entry r from f reply b = absurd b

      decides : (r : Bool) (from : ℕ) → Outside base st → Leads r from (decided l from)
      decides r from f = by_free (is_free from) refl
        where
          by_word : (c : Bool) → is_free from ≡ false
              → Leads r from (if c then act.Word l (Exchange 0 1) else act.Enter
              (One (2 * l)))
          by_word true full = by_mark r from full f
          by_word false full = by_entry r from f

          by_free : (b : Bool) → is_free from ≡ b
              → Leads r from (if b then act.Word l (Exchange from (from - 2)) else if from == 0
              then act.Word l (Exchange 0 1) else act.Enter (One (2 * l)))
          by_free true e = by_take r from e f
          by_free false e = by_word (from == 0) e

      nobody : {key : ℕ} → None ≡ Some key → ⊥
      nobody e = cc

      gives_up : (r : Bool) (timed2 : Bool) → timed2 ≡ timed → Outside base st → (key : ℕ)
          → (sleeper_at (Semaphore l (Acquire timed2 r acquire.Asleep))).late ≡ Some key → up
          → new ≡ stage st.owns (entered_now (One key)) st.last st.steps → FitsAcquire up l timed2 base
          acquire.Remove new
      gives_up r true e f key is over x = let k : Some (2 * l) ≡ Some key = is in let same : 2 * l ≡ key = cc
          in
          ((refl, over), (owns_of _ x ∙ f.0, inside_of _ x ∙ ap (λ (k : ℕ). entered_now (One k)) (sym same)))
      gives_up r false e f key is over x = absurd (nobody is)

      acquire_leads : (r : Bool) (at : AcquireAt) → FitsAcquire up l timed base at st → (reply : Reply)
          → Became up (semaphores permits) (at_semaphore l) (sleeper_at (place r at)) st (acquire_act l at)
          reply new → Reached up base (place r at) reply new
      acquire_leads r acquire.Load f (Value seen) b = goes_on r seen (stays None _ b.1 (loads seen) refl f)
      acquire_leads r (acquire.Decide seen) f reply b = decides r seen f reply b
      acquire_leads r acquire.Check f (Parked parked) b = (stays _ _ b.2.1 (loads b.0) refl f, refl)
      acquire_leads r (acquire.Leave true) f Done b = ((b.0 ∙ f.0, b.1), refl)
      acquire_leads r (acquire.Leave false) f Done b = ((b.0 ∙ f.0, b.1), refl)
      acquire_leads r acquire.Asleep f (Woken Normal) b = ((b.0 ∙ f.0, b.1), refl)
      acquire_leads r acquire.Asleep f (Woken HandOff) b = absurd (false≢true b.3)
      acquire_leads r acquire.Asleep f Late b = (gives_up r timed refl f b.0 b.1.0 b.2 b.1.1, refl)
      acquire_leads r acquire.Asleep f (MovedTo key) b = absurd (nobody b.0.1)
      acquire_leads r (acquire.Taken by) f reply b = absurd f
      acquire_leads r acquire.Remove f (Removed true) b = ((f.0, stays _ _ b refl refl f.1), refl)
      acquire_leads r acquire.Remove f (Removed false) b = ((f.0, stays _ _ b refl refl f.1), refl)
      acquire_leads r acquire.Clear f (Value seen) b =
          ((f.0, stays _ _ b.1 (clears seen (few seen b.0)) refl f.1), refl)
        where
          few : (seen : ℕ) → CodesWith (kinds.Semaphore permits) (semaphore_at l) seen st.owns
              → seen / 2 ≤ 4611686018427387904
          few seen code = let c = code.1.0 in omega arith
      acquire_leads r acquire.GiveUp f Done b =
          (f.0, (b.0 ∙ f.1.0, b.1), subst (λ (i : Option SectionView). IsLeft i new.last) f.1.1 b.2)
      acquire_leads r at f reply b = absurd b

    -- a try, by the value that its last step saw
    abbrev TryLands : ℕ → Bool → Type 0
    TryLands seen b = ReachedBy up base (of_semaphore l to_try)
        (semaphore_goes l (in_try (if b then At (tries.Decide seen) else End answers.No)))
        (answer_of (semaphore_does l (in_try (if b then At (tries.Decide seen) else End answers.No)))) new

    looks_on : (op : Op) (seen : ℕ) → Outside base new → new.steps ≡ st.steps ++ step (semaphore_at l) op seen
        → TryLands seen (is_free seen)
    looks_on op seen f saw = by_free (is_free seen) refl
      where
        by_free : (b : Bool) → is_free seen ≡ b → TryLands seen b
        by_free true e = subst (λ (o : Option Answer). ReachedBy up base (of_semaphore l to_try)
            (Semaphore l (Try (tries.Decide seen))) o new) (sym (tries_on seen)) ((e, f), refl)
        by_free false e = (f, (st.steps, op, seen, e, saw))

    abbrev Tried : ℕ → Bool → Type 0
    Tried seen b = ReachedBy up base (of_semaphore l to_try)
        (semaphore_goes l (in_try (if b && is_free seen then End answers.Yes else looked seen)))
        (answer_of (semaphore_does l (in_try (if b && is_free seen then End answers.Yes else looked seen))))
        new

    try_takes : (from : ℕ) → is_free from ≡ true → Outside (permit l ∷ base) new → Tried from (from == from)
    try_takes from free f = subst (Tried from) (sym (eq-eqb from from refl))
        (subst (λ (c : Bool). ReachedBy up base (of_semaphore l to_try)
        (semaphore_goes l (in_try (if c then End answers.Yes else looked from)))
        (answer_of (semaphore_does l (in_try (if c then End answers.Yes else looked from)))) new) (sym free)
        f)

    try_leads : (at : TryAt) → FitsTry base at st → (reply : Reply) → Became up (semaphores permits)
        (at_semaphore l) (sleeper_at (Semaphore l (Try at))) st (try_act l at) reply new
        → Reached up base (Semaphore l (Try at)) reply new
    try_leads tries.Load f (Value seen) b = looks_on Load seen (stays None _ b.1 (loads seen) refl f)
        (steps_of _ b.1)
    try_leads (tries.Decide from) f reply b =
        by_exchange reply (subst (λ (free : Bool). Became up (semaphores permits) (at_semaphore l)
        (sleeper_at (Semaphore l (Try (tries.Decide from)))) st (if free then act.Word l
        (Exchange from (from - 2)) else act.Word l Load) reply new) f.0 b)
      where
        by_exchange : (reply : Reply) → Became up (semaphores permits) (at_semaphore l)
            (sleeper_at (Semaphore l (Try (tries.Decide from)))) st
            (act.Word l (Exchange from (from - 2))) reply new
            → Reached up base (Semaphore l (Try (tries.Decide from))) reply new
        by_exchange (Value seen) b = dite (ℕ_discrete seen from)
            (λ e. subst (λ (s : ℕ). Found (Exchange from (from - 2)) s → Tried s (s == from)) (sym e)
            (λ x. try_takes from f.0 (takes from (some_free from f.0) f.1 x)) b.1)
            (λ ne. subst (Tried seen) (sym (ne_eqb seen from ne)) (looks_on (Exchange from (from - 2)) seen
            (stays None _ b.1 (misses from (from - 2) seen ne) refl f.1) (steps_of _ b.1)))
        by_exchange reply b = absurd b
    try_leads at f reply b = absurd b

    release_leads : (at : ReleaseAt) → FitsRelease l base at st → (reply : Reply)
        → Became up (semaphores permits) (at_semaphore l) (sleeper_at (Semaphore l (Release at))) st
        (release_act l at) reply new → Reached up base (Semaphore l (Release at)) reply new
    release_leads release.Add f reply b = absurd f
    release_leads release.Enter f Done b = ((owns_of _ b ∙ f.0, inside_of _ b), refl)
    release_leads release.Take f (Took any true) b =
        ((b.0.0, b.0.1, (b.1 ∙ f.0, b.0.2 ∙ ap (took_as (TakeFirst (2 * l)) (listed b.0.0)) f.1)), refl)
    release_leads release.Take f (Took any false) b =
        ((b.0.0, b.0.1, (b.1 ∙ f.0, b.0.2 ∙ ap (took_as (TakeFirst (2 * l)) (listed b.0.0)) f.1)), refl)
    release_leads (release.Clear any) f (Value seen) b =
        ((f.0, f.1, stays _ _ b.1 (clears seen (few seen b.0)) refl f.2), refl)
      where
        few : (seen : ℕ) → CodesWith (kinds.Semaphore permits) (semaphore_at l) seen st.owns
            → seen / 2 ≤ 4611686018427387904
        few seen code = let c = code.1.0 in omega arith
    release_leads (release.Leave any) f Done b = (refl, (b.0 ∙ f.2.0, b.1), has_done _ _ _ f.2.1 b.2)
    release_leads release.Take f reply b = absurd b.0
    release_leads at f reply b = absurd b

    leads : (at : SemaphorePlace) → FitsSemaphore up l base at st → (reply : Reply)
        → Became up (semaphores permits) (at_semaphore l) (sleeper_at (Semaphore l at)) st
        (semaphore_act l at) reply new → Reached up base (Semaphore l at) reply new
    leads (Acquire timed r at) f = acquire_leads timed r at f
    leads (Try at) f = try_leads at f
    leads (Release at) f = release_leads at f

  -- where it looks at the word once more, it has what it had
  looks : (up : Type 0) (at : SemaphorePlace) → FitsSemaphore up l base at st
      → LooksLeadOn up base (Semaphore l at) st
  looks up (Acquire timed r (acquire.Decide seen)) f q is = by_mark (seen == 0) is
    where
      by_mark : (b : Bool) → in_semaphore l (if b then Some (Acquire timed r acquire.Load) else None) ≡ Some q
          → Fits up base q st × (call_purpose q ≡ of_semaphore l (to_acquire timed))
      by_mark true is = let there : Semaphore l (Acquire timed r acquire.Load) ≡ q = cc
          in subst (λ p. Fits up base p st × (call_purpose p ≡ of_semaphore l (to_acquire timed))) there (
            f,
            refl,
          )
      by_mark false is = absurd cc
  looks up at f q is = absurd cc

-- the words of a call of a semaphore are that one alone
pub semaphore_place_leads : (up : Type 0) (permits l : ℕ) (base : List Ownership) (at : SemaphorePlace)
    (st : ThreadState) → FitsSemaphore up l base at st →
    ActNeeds (semaphores permits) (at_semaphore l) st (semaphore_act l at)
    × LooksLeadOn up base (Semaphore l at) st
    × ((reply : Reply) (new : ThreadState) → Became up (semaphores permits) (at_semaphore l)
    (sleeper_at (Semaphore l at)) st (semaphore_act l at) reply new → Reached up base (Semaphore l at)
    reply new)
semaphore_place_leads up permits l base at st f = (
  needs permits l base st up at f,
  looks permits l base st up at f,
  λ reply new. leads permits l base st up new at f reply,
)

-- no call of a semaphore runs a closure
pub semaphore_no_closure : (l : ℕ) (state : OnceState) (at : SemaphorePlace) → semaphore_act l at
    ≡ act.Closure state → ⊥
semaphore_no_closure l state (Acquire timed r (acquire.Decide seen)) is = by_look (is_free seen) (seen == 0)
    is
  where
    by_look : (b c : Bool) → (if b then act.Word l (Exchange seen (seen - 2)) else if c
        then act.Word l (Exchange 0 1) else act.Enter (One (2 * l)))
        ≡ act.Closure state → ⊥
    by_look true c is = cc
    by_look false true is = cc
    by_look false false is = cc
semaphore_no_closure l state (Try (tries.Decide seen)) is = by_look (is_free seen) is
  where
    by_look : (b : Bool) → (if b then act.Word l (Exchange seen (seen - 2))
        else act.Word l Load) ≡ act.Closure state → ⊥
    by_look true is = cc
    by_look false is = cc
semaphore_no_closure l state (Acquire t r acquire.Load) is = cc
semaphore_no_closure l state (Acquire t r acquire.Check) is = cc
semaphore_no_closure l state (Acquire t r (acquire.Leave parked)) is = cc
semaphore_no_closure l state (Acquire t r acquire.Asleep) is = cc
semaphore_no_closure l state (Acquire t r (acquire.Taken by)) is = cc
semaphore_no_closure l state (Acquire t r acquire.Remove) is = cc
semaphore_no_closure l state (Acquire t r acquire.Clear) is = cc
semaphore_no_closure l state (Acquire t r acquire.GiveUp) is = cc
semaphore_no_closure l state (Try tries.Load) is = cc
semaphore_no_closure l state (Release release.Add) is = cc
semaphore_no_closure l state (Release release.Enter) is = cc
semaphore_no_closure l state (Release release.Take) is = cc
semaphore_no_closure l state (Release (release.Clear any)) is = cc
semaphore_no_closure l state (Release (release.Leave any)) is = cc
