-- A drain comes to its end, release after release.
use Rattle.std.proofs.Common.{ℕ, zero, suc, true, Option, Some, None, ◌≡◌, ◌+◌, ◌*◌, ◌≤◌, List, [], ◌∷◌}
use Rattle.std.proofs.Common.{◌++◌}
use Rattle.std.proofs.Common.{length, inl, inr, refl, sym, ◌∙◌, ap, subst, arith}
use Rattle.std.proofs.lemmas.Bool.{cases_eq, lt-ltb}
use Rattle.spec_locks.specs.declared.calls.Step.{Step}
use Rattle.spec_locks.specs.Purposes.{Releases}
use Rattle.spec_locks.specs.Runs.{MayBegin, purpose_at}
use Rattle.lot_machine.specs.Machine.{State, after, after_steps, go_of, is_possible}
use Rattle.lot_machine.specs.Fits.{SameSize}
use Rattle.lot_machine.proofs.Shape.{after_size}
use Rattle.lot_laws.specs.Refinement.{locks_of}
use Rattle.lot_rests.specs.Rests.{NobodyGoes}
use Rattle.lot_rests.proofs.Turns.{steps_left}
use Rattle.lot_world.specs.Quiet.{IsDraining, IsAllOver}
use Rattle.lot_world.specs.Full.{IsStrict}
use Rattle.lot_world.specs.Ordered.{IsOrdered, NobodyInside, begin_of}
use Rattle.lot_world.specs.Schedules.{Progress, first_release, one_more, release_taken, released, settled}
use Rattle.lot_world.specs.Schedules.{where_some}
use Rattle.lot_world.proofs.Begins.{draining_begins}
use Rattle.lot_world.proofs.Full.{strict_goes_on}
use Rattle.lot_world.proofs.NextReleases.{BeginsRelease, begins_owns, may_release, quiet, release_is}
use Rattle.lot_world.proofs.OnNow.{draining_goes_on}
use Rattle.lot_world.proofs.Ordered.{ordered}
use Rattle.lot_world.proofs.Owed.{IsSpent, owed, owed_less, spent_goes}
use Rattle.lot_world.proofs.Progress.{HasCome, begin_goes_on, length_more, one_more_comes}
use Rattle.lot_world.proofs.Quiet.{quiet_is_over}
use Rattle.lot_world.proofs.Releases.{GivesUp, given_up, gives_begun, gives_step, spent_begun}
use Rattle.lot_world.proofs.Rested.{all_free, rest}
use Rattle.lot_world.proofs.Settled.{Spends, begin_adds, most_more, settled_keeps, settles}

-- what holds before each release
pub record IsReady (w : State) : Type 0 where
  pub draining : IsDraining w
  pub strict : IsStrict w
  pub outside : NobodyInside w
  pub stuck : NobodyGoes w

-- ---------------------------------------------------------------- threads go on

pub record HasSettled (w : State) (d e : Progress) : Type 0 where
  pub spends : Spends w d e
  pub ready : IsReady e.state

abbrev Kept : State → Type 0
Kept v = IsDraining v × IsStrict v

keeps_on : (v : State) (t : ℕ) → Kept v → Kept (after v (go_of t))
keeps_on v t h = (draining_goes_on v t h.0 h.1, strict_goes_on v t h.1)

pub has_settled : (w : State) (d : Progress) → IsDraining d.state → IsStrict d.state → HasCome w d
    → HasSettled w d (settled d)
has_settled w d draining strict h =
    let end = settles w d strict.ordered.world h in
    let kept : Kept (settled d).state = settled_keeps Kept keeps_on d (draining, strict) in
    record {
      spends = end.spends;
      ready = record {
        draining = kept.0;
        strict = kept.1;
        outside = all_free (settled d).state kept.1.ordered end.stuck;
        stuck = end.stuck;
      };
    }

-- ---------------------------------------------------------------- one release

steps_size : (w : State) (ss : List Step) → length (after_steps w ss).places ≡ length w.places
steps_size w [] = refl
steps_size w (s ∷ ss) = steps_size (after w s) ss ∙ (let size : SameSize w (after w s) = after_size w s
    in size.threads)

-- as many threads as before
pub come_size : (w : State) (d : Progress) → HasCome w d → length d.state.places ≡ length w.places
come_size w d h = ap (λ (x : State). length x.places) (sym h.leads) ∙ steps_size w d.steps

record HasReleased (w : State) (d e : Progress) : Type 0 where
  pub come : HasCome w e
  pub ready : IsReady e.state
  pub few : length e.steps + steps_left e.state ≤ length d.steps + steps_left d.state + (most_more (length w.places) + 1)
  pub lower : owed e.state + 1 ≤ owed d.state

module _ (w : State) (d : Progress) (s : Step) (ready : IsReady d.state) (b : BeginsRelease d.state s)
    (h : HasCome w d) where
  abbrev begun : Progress
  begun = one_more d (begin_of b.thread b.call)

  abbrev end : Progress
  end = settled begun

  may : MayBegin (locks_of d.state) b.thread b.call
      × (purpose_at (locks_of d.state) b.call ≡ Some (Releases 0 b.gives.right b.gives.fair))
  may = may_release d.state s ready.strict b

  kept : Kept begun.state
  kept = draining_begins d.state b.thread b.call b.gives.right b.gives.fair ready.draining ready.strict may.0
      may.1

  possible : is_possible d.state (begin_of b.thread b.call) ≡ true
  possible = rw (lt-ltb b.thread (length d.state.places) b.there, b.can) refl

  come : HasCome w begun
  come = one_more_comes w d (begin_of b.thread b.call) h
      (begin_goes_on d.state b.thread b.call possible)

  went : HasSettled w begun end
  went = has_settled w begun kept.0 kept.1 come

  -- the thread that releases has spent its right
  given : GivesUp b.thread b.gives.right b.gives.fair end.state
  given = settled_keeps (GivesUp b.thread b.gives.right b.gives.fair)
      (λ v u. gives_step b.thread b.gives.right b.gives.fair v u) begun
      (gives_begun d.state b.thread b.call b.gives.right b.gives.fair ready.strict.ordered may.0 may.1)

  spent : IsSpent end.state b.thread
  spent = given_up b.thread b.gives.right b.gives.fair end.state given
      (rest end.state went.ready.strict.ordered went.ready.stuck b.thread)

  unspent : IsSpent d.state b.thread → ⊥
  unspent none = begins_owns d.state s ready.strict b none.1

  -- the other threads have what they had
  abbrev StaysSpent : ℕ → State → Type 0
  StaysSpent u v = IsOrdered v × IsSpent v u

  others : (u : ℕ) → IsSpent d.state u → IsSpent end.state u
  others u none = elim (cases_eq u b.thread) [
    | inl e ↦ absurd (unspent (subst (IsSpent d.state) e none))
    | inr ne ↦
        let after_all : StaysSpent u end.state = settled_keeps (StaysSpent u)
        (λ v t x. (ordered v t x.0, spent_goes v t u x.0 x.1)) begun (
          kept.1.ordered,
          spent_begun d.state b.thread b.call b.gives.right b.gives.fair ready.strict.ordered may.0 may.1 u ne
              none,
        ) in
        after_all.1
  ]

  size : length end.state.places ≡ length d.state.places
  size = come_size w end went.spends.come ∙ sym (come_size w d h)

  has_released : HasReleased w d end
  has_released = record {
    come = went.spends.come;
    ready = went.ready;
    few = let few = went.spends.few in
        let long : length (d.steps ++ begin_of b.thread b.call ∷ []) ≡ length d.steps + 1 =
        length_more d.steps (begin_of b.thread b.call) in
        let adds : steps_left begun.state ≤ steps_left d.state + most_more (length w.places) =
        subst (λ n. steps_left begun.state ≤ steps_left d.state + most_more n) (come_size w d h)
        (begin_adds d.state b.thread b.call) in
        omega arith;
    lower = owed_less d.state end.state b.thread size b.there others unspent spent;
  }

release_goes : (w : State) (d : Progress) (s : Step) → IsReady d.state
    → first_release d.state 0 (length d.state.places) ≡ Some s → HasCome w d
    → HasReleased w d (release_taken d s)
release_goes w d s ready e h =
    let b = release_is d.state s ready.draining.lock.sort e in
    subst (λ x. HasReleased w d (release_taken d x)) (sym b.step) (has_released w d s ready b h)

-- ---------------------------------------------------------------- all releases

pub record IsEnded (w : State) (n : ℕ) (d e : Progress) : Type 0 where
  pub come : HasCome w e
  pub ready : IsReady e.state
  pub over : IsAllOver e.state
  pub few : length e.steps + steps_left e.state
      ≤ length d.steps + steps_left d.state + n * (most_more (length w.places) + 1)

ended_now : (w : State) (n : ℕ) (d : Progress) → IsReady d.state
    → first_release d.state 0 (length d.state.places) ≡ None → HasCome w d → IsEnded w n d d
ended_now w n d ready e h = record {
  come = h;
  ready = ready;
  over = quiet_is_over d.state ready.draining (quiet d.state ready.strict e ready.stuck);
  few = omega arith;
}

once_more : (a b c n k : ℕ) → b ≤ a + k → c ≤ b + n * k → c ≤ a + suc n * k
once_more a b c n k first more = grind arith

pub released_end : (n : ℕ) (w : State) (d : Progress) → IsReady d.state → HasCome w d → owed d.state ≤ n
    → IsEnded w n d (released n d)
unfolding released
released_end zero w d ready h few = by_release (first_release d.state 0 (length d.state.places)) refl
  where
    by_release : (o : Option Step) → first_release d.state 0 (length d.state.places) ≡ o → IsEnded w zero d d
    by_release None e = ended_now w zero d ready e h
    by_release (Some s) e = absurd (let one = release_goes w d s ready e h in let lower = one.lower
        in omega arith)
released_end (suc n) w d ready h few = by_release (first_release d.state 0 (length d.state.places)) refl
    (λ s e. let one = release_goes w d s ready e h in
    let lower = one.lower in
    (one, released_end n w (release_taken d s) one.ready one.come (omega arith)))
  where
    by_release : (o : Option Step) → first_release d.state 0 (length d.state.places) ≡ o
        → ((s : Step) → first_release d.state 0 (length d.state.places) ≡ Some s
        → HasReleased w d (release_taken d s)
        × IsEnded w n (release_taken d s) (released n (release_taken d s)))
        → IsEnded w (suc n) d (where_some o d (λ s. released n (release_taken d s)))
    by_release None e more = ended_now w (suc n) d ready e h
    by_release (Some s) e more =
        let both = more s e in
        let end = released n (release_taken d s) in
        record {
          come = both.1.come;
          ready = both.1.ready;
          over = both.1.over;
          few = once_more (length d.steps + steps_left d.state) (length (release_taken d s).steps
              + steps_left (release_taken d s).state) (length end.steps + steps_left end.state) n
              (most_more (length w.places) + 1) both.0.few both.1.few;
        }
