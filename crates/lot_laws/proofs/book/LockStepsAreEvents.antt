-- A thread in a call of any one lock goes on by its act: that is one event of the lock, and its call goes on
-- with it.
-- No sort of lock is named.
use Rattle.lot_laws.proofs.Imports
use Imports.{ℕ, true, false, Option, Some, None, ◌≡◌, ◌≢◌, ◌<◌, [], length, get_or-set_same, inl, inr}
use Imports.{refl, sym, ◌∙◌, ap, subst, append-nil, Act, Next, Reply, outcome_of, Op, Location}
use Imports.{row_of, Hand, Profile, hand, IsWaiting, is_acting, ComesTo, MayCome, after_event, case_of}
use Imports.{event_by, LockCase, GoesOn, Role, Runs, Place, Idle, act_of, called_lock, calls, is_lock, next_act}
use Imports.{next_place, profile, State, can_do, place_at, reply_to, state_after_act, IsWellFormed}
use Imports.{performed_counts, lock_state, locks_of, acts, location, role_on, FitsItsLock, Goes, IsInductive}
use Imports.{carried_at, rules_in}
use Rattle.spec_locks.specs.declared.outcomes.Outcome.TheVariants as outcome
use Rattle.steps_base.specs.declared.acts.Act.TheVariants as act
use Rattle.steps_base.specs.declared.acts.Next.TheVariants as next
use Rattle.lot_laws.proofs.book.LockStaysASite.{Book, ComesBy, GoesFrom, Tied, goes_on, k, own, whom_by}
use Rattle.lot_laws.proofs.book.Page.{Says}
use Rattle.lot_laws.proofs.calls.CallEvents.{GoesAs, IsEvent, LeadsTo, OthersFollow, goes_by, goes_event}
use Rattle.lot_laws.proofs.calls.CallEvents.{happens}
use Rattle.lot_laws.proofs.calls.CallEvents.{others_follow}
use Rattle.lot_laws.proofs.calls.OtherCalls.{WakesOwn, hands_nothing, wakes_own}
use Rattle.lot_laws.proofs.machine.AtPlaces.{in_no_hand}
use Rattle.lot_laws.proofs.machine.Parts.{IsSingle, of_single, same}
use Rattle.lot_laws.proofs.promises.LineActs.{line_act, takes_here}
use Rattle.lot_laws.proofs.promises.PlacePromises.{location_own, role_own, waiting_stands}
use Rattle.lot_laws.proofs.sites.SitesKept.{go_by}
use Rattle.lot_laws.proofs.sites.StandsKept.{calls_in}

module _ (w : State) (t l : ℕ) (p : Place) (inductive : IsInductive w) (shape : IsWellFormed w)
    (there : t < length w.places) (lt : l < length w.locks)
    (is : place_at w t ≡ p) (book : Book w l) (calls_it : calls p l ≡ true) (plain : (j : ℕ) (op : Op)
    → act_of p ≢ act.HandOver j op) (can : can_do w (act_of p) ≡ true) where
  abbrev v : Says
  v = book.says p

  abbrev told : Reply
  told = reply_to w t (act_of p)

  abbrev afterwards : State
  afterwards = go_by w t p (act_of p)

  tied : Tied w l p v
  tied = k w t l p inductive shape there lt is book calls_it

  kept : GoesFrom w t l p inductive shape there lt is book calls_it p (act_of p)
  kept = goes_on w t l p inductive shape there lt is book calls_it plain can

  single : IsSingle p
  single = of_single l p tied.of

  has_taken : carried_at (place_at w t) l ≡ v.row.has_taken
  has_taken = ap (λ (y : Location). y.has_taken) (location_own (place_at w t) l (ap called_lock is ∙ tied.called))
      ∙ ap (λ q. (location q).has_taken) is ∙ ap (λ (y : Profile). y.has_taken) tied.row

  abbrev case : Option LockCase
  case = case_of v.row.has_taken (v.deeds (whom_by w (act_of p)) told)

  happened : IsEvent w afterwards t (event_by l case)
  happened = happens w afterwards t l v.row.has_taken (v.deeds (whom_by w (act_of p)) told) [] inductive
      (subst (Goes w afterwards l) (sym (append-nil (acts t (v.deeds (whom_by w (act_of p)) told))))
      kept.goes) tt
      kept.tells.one
      (λ none. in_no_hand w inductive t l (λ h. none (sym has_taken ∙ h)))

  others : OthersFollow w afterwards t (event_by l case)
  others = others_follow w afterwards t l case happened (hands_nothing w afterwards t l case happened
      v.row.has_taken
      (act_of p) case kept.others)
      (wakes_own w t l inductive (own w t l p inductive shape there lt is book calls_it) (next_place p told)
      tied.page.plain p (act_of p) (takes_here l (location p) (act_of p)
      (line_act p l single tied.called)) case (subst (λ h. WakesOwn h (act_of p) case) (sym has_taken)
      kept.others))

  -- where it is then
  then_there : place_at afterwards t ≡ next_place p told
  then_there = get_or-set_same (state_after_act w t p (act_of p)).places t _ Idle
      (rw (performed_counts w t p (act_of p)).0 there)

  -- the thread does something, sleeps where it stands about the lock, or runs its closure inside its run
  rests : (q : Place) → place_at afterwards t ≡ q → called_lock q ≡ Some l → (profile q).hand ≡ None
      → GoesAs afterwards t l (outcome_of (act_of q))
  rests q e called unheld = by_act (act_of q) refl
    where
      next_tied : Tied w l q (book.says q)
      next_tied = book.tied q (calls_in afterwards w q (λ k. sym (happened.kinds k))
          (subst (FitsItsLock afterwards) e (happened.after.stands.calls t))) (ap (is_lock l) called ∙ same l)

      waiting : IsWaiting (book.says q).row → GoesAs afterwards t l outcome.Sleep
      waiting h = inr (inl (
        refl,
        waiting_stands afterwards t happened.after l (ap called_lock e ∙ called)
            (subst (λ (y : Profile). IsWaiting y) (sym (ap profile e ∙ next_tied.row)) h),
      ))

      by_act : (y : Act) → act_of q ≡ y → GoesAs afterwards t l (outcome_of y)
      by_act act.Sleep f = elim (next_tied.page.promises.asleep f) [
        | inl h ↦ waiting h
        | inr h ↦ absurd (let both : ◌≡◌ {A = Option Hand} None (hand h.by true) = sym unheld
            ∙ ap (λ (y : Profile). y.hand) next_tied.row ∙ h.in_hand in cc)
      ]
      by_act (act.Closure state) f = inr (inr (
        state,
        refl,
        (happened.after.sites.site l).held t Runs
            (ap (λ q. (role_on q l).claims) e ∙ ap (λ (y : Role). y.claims) (role_own q l called)
            ∙ ap (λ (y : Profile). y.role.claims) next_tied.row ∙ next_tied.page.runs state f),
      ))
      by_act (act.End answer) f = absurd (let some : false ≡ true = sym (ap is_acting f)
          ∙ next_tied.page.promises.acts in cc)
      by_act act.Rest f = absurd (let some : false ≡ true = sym (ap is_acting f)
          ∙ next_tied.page.promises.acts in cc)
      by_act y f = inl refl

  leads : LeadsTo afterwards t l (v.comes told) (outcome_of (next_act p told))
  leads = by_next (v.comes told) (next_place p told) (next_act p told) then_there (tied.comes told) kept.free
    where
      by_next : (n : Next Profile) (q : Place) (y : Act) → place_at afterwards t ≡ q → ComesBy l n q y
          → (row_of n).hand ≡ None → LeadsTo afterwards t l n (outcome_of y)
      by_next (next.At row) q y e h free = (
        ap called_lock e ∙ h.0,
        ap profile e ∙ h.1,
        subst (λ z. GoesAs afterwards t l (outcome_of z)) (sym h.2)
            (rests q e h.0 (ap (λ (y : Profile). y.hand) h.1 ∙ free)),
        subst IsSingle (sym e) h.3,
      )
      by_next (next.End answer) q y e h free = (e ∙ h.0, ap outcome_of h.1)

  may : MayCome l (profile p) (event_by l case)
  may = subst (λ y. MayCome l y (event_by l case)) (sym tied.row) kept.tells.may

  comes : ComesTo (rules_in w l) l (profile p) (event_by l case) (lock_state w l)
      (after_event (rules_in w l) (event_by l case) (lock_state w l) t) t (v.comes told)
  comes = subst (λ y. ComesTo (rules_in w l) l y (event_by l case) (lock_state w l)
      (after_event (rules_in w l) (event_by l case) (lock_state w l) t) t (v.comes told)) (sym tied.row)
      kept.tells.comes

  pub step : GoesOn (locks_of w) t (outcome_of (next_act p told)) (locks_of afterwards)
  step = goes_by w afterwards t l case happened p is tied.called single may (v.comes told) _ comes leads
      others
      (tied.begins t inductive can kept.tells.may)

  pub step_event : step.event ≡ event_by l case
  unfolding step
  step_event = goes_event w afterwards t l case happened p is tied.called single may (v.comes told) _ comes
      leads
      others (tied.begins t inductive can kept.tells.may)
