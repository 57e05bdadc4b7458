-- The schedule of a world that may be drained does so.
use Rattle.std.proofs.Common.{ℕ, zero, suc, true, None, if◌then◌else◌, ◌==◌, ◌≡◌, ◌+◌}
use Rattle.std.proofs.Common.{◌*◌, ◌≤◌, [], length, refl, sym, ◌∙◌, ap, subst, arith}
use Rattle.lot_machine.specs.Machine.{State, kind_at, word_at}
use Rattle.lot_laws.specs.SitesOf.{IsWorld}
use Rattle.lot_rests.specs.Rests.{NobodyGoes, most_steps}
use Rattle.lot_rests.proofs.Rest.{left_most}
use Rattle.lot_rests.proofs.Turns.{steps_left}
use Rattle.lot_world.specs.Drains.{IsDrain, IsDrainable, IsDrained}
use Rattle.lot_world.specs.DrainLaws.{SchedulesDrain}
use Rattle.lot_world.specs.Schedules.{Progress, clear, first_release, passed_through, release_taken, released}
use Rattle.lot_world.specs.Schedules.{schedule_of, settled, where_some}
use Rattle.lot_world.proofs.Cleared.{IsCleared, clears}
use Rattle.lot_world.proofs.NextReleases.{nobody_next}
use Rattle.lot_world.proofs.Owed.{idle_stuck, owed, owed_most}
use Rattle.lot_world.proofs.Progress.{HasCome}
use Rattle.lot_world.proofs.Released.{HasSettled, IsEnded, come_size, has_settled, released_end}
use Rattle.lot_world.proofs.Settled.{most_more, settled_none}
use Rattle.lot_world.proofs.Starts.{draining, strict}

-- all steps are few
bound : (n : ℕ) → (5 * n + 1) * (63 * n + 2 * 1) + 5 * n + n * (most_more n + 1) + 130
    ≤ 1000 * ((n + 1) * (n + 1))
bound n = grind arith

summed : (l0 l1 l2 s1 s2 s3 a b c : ℕ) → l0 ≤ a → s1 + l1 ≤ 0 + l0 → s2 + l2 ≤ s1 + l1 + b → s3 ≤ s2 + 130
    → a + b + 130 ≤ c → s3 ≤ c
summed l0 l1 l2 s1 s2 s3 a b c h k m n o = omega arith

-- ---------------------------------------------------------------- where all is over, there are no steps

released_none : (n : ℕ) (d : Progress) → first_release d.state 0 (length d.state.places) ≡ None
    → released n d ≡ d
unfolding released
released_none zero d e = refl
released_none (suc n) d e = ap (λ o. where_some o d (λ s. released n (release_taken d s))) e

clear_none : (d : Progress) → word_at d.state 0 ≡ 0 → clear d ≡ d
clear_none d e = ap (λ b. if b then d else passed_through d (kind_at d.state 0))
    (let f : (word_at d.state 0 == 0) ≡ true = ap (λ n. n == 0) e in f)

module _ (w : State) (world : IsWorld w) (h : IsDrainable w) where
  abbrev start : Progress
  start = record { state = w; steps = [] }

  came : HasCome w start
  came = record { leads = refl; possible = tt }

  inside : HasSettled w start (settled start)
  inside = has_settled w start (draining w world h) (strict w world h) came

  abbrev inner : Progress
  inner = settled start

  few_owe : owed inner.state ≤ length inner.state.places
  few_owe = owed_most inner.state

  abbrev outer : Progress
  outer = released (length inner.state.places) inner

  turned : IsEnded w (length inner.state.places) inner outer
  turned = released_end (length inner.state.places) w inner inside.ready inside.spends.come few_owe

  cleared : IsCleared w outer (clear outer)
  cleared = clears w outer turned.ready turned.over turned.come
      (subst (λ n. 1 ≤ n) (sym (come_size w outer turned.come)) h.some)

  -- nobody goes on where everybody is in no call
  nobody : IsDrained w → NobodyGoes w
  nobody over t = idle_stuck w t (over.over.idle t)

  no_steps : IsDrained w → schedule_of w ≡ []
  no_steps over =
      let still : inner ≡ start = settled_none start (nobody over) in
      let first : outer ≡ released (length w.places) start = ap (λ (d : Progress).
      released (length d.state.places) d) still in
      let none : outer ≡ start = first ∙ released_none (length w.places) start (nobody_next w
      (strict w world h) h.lock.sort over.over.owners) in
      let all : clear outer ≡ start = ap clear none ∙ clear_none start over.word in
      ap (λ (d : Progress). d.steps) all

  few_steps : length (clear outer).steps ≤ 1000 * ((length w.places + 1) * (length w.places + 1))
  few_steps =
      let before : steps_left w ≤ (5 * length w.places + 1) * (63 * length w.places + 2 * 1) + 5 * length w.places =
      subst (λ n. steps_left w ≤ most_steps (length w.places) n) h.lock.one (left_most w) in
      let settling : length inner.steps + steps_left inner.state ≤ 0 + steps_left w = inside.spends.few in
      let releasing : length outer.steps + steps_left outer.state
      ≤ length inner.steps + steps_left inner.state + length w.places * (most_more (length w.places) + 1) =
      subst (λ n. length outer.steps + steps_left outer.state
      ≤ length inner.steps + steps_left inner.state + n * (most_more (length w.places) + 1))
      (come_size w inner inside.spends.come) turned.few in
      let clearing : length (clear outer).steps ≤ length outer.steps + 130 = cleared.gone.few in
      summed (steps_left w) (steps_left inner.state) (steps_left outer.state) (length inner.steps) (length outer.steps)
      (length (clear outer).steps) ((5 * length w.places + 1) * (63 * length w.places + 2 * 1)
      + 5 * length w.places) (length w.places * (most_more (length w.places) + 1))
      (1000 * ((length w.places + 1) * (length w.places + 1))) before settling releasing clearing
      (bound (length w.places))

  pub drains : IsDrain w (schedule_of w)
  drains = record {
    few = few_steps;
    possible = cleared.gone.come.possible;
    ends = subst IsDrained (sym cleared.gone.come.leads) cleared.drained;
    none = no_steps;
  }

pub schedules_drain : SchedulesDrain
schedules_drain w world h = drains w world h
