-- A thread that owns between its calls releases, and then owns nothing.
use Rattle.std.proofs.Common.{ℕ, zero, suc, Bool, true, false, Option, Some, None, if◌then◌else◌, ◌==◌, ◌≡◌}
use Rattle.std.proofs.Common.{is_none, ◌≢◌, ◌≤◌, ◌⊎◌, inl, inr, refl, sym, ◌∙◌, ap, subst, arith}
use Rattle.std.proofs.Common.{get_or-set_other}
use Rattle.std.proofs.lemmas.Bool.{cases_eq}
use Rattle.std.proofs.lemmas.Bool.Decides.{nat_tests}
use Rattle.core_base.specs.declared.wants.Want.{Want}
use Rattle.core_base.specs.declared.wants.Want.TheVariants.{Exclusive, Upgradable, Shared, Wait, CallOnce}
use Rattle.spec_locks.specs.declared.calls.Call.{Call}
use Rattle.spec_locks.specs.declared.outcomes.Answer.{Answer}
use Rattle.spec_locks.specs.declared.outcomes.Answer.TheVariants as answer
use Rattle.spec_locks.specs.declared.outcomes.Outcome.{Outcome}
use Rattle.spec_locks.specs.declared.outcomes.Outcome.TheVariants as outcome
use Rattle.steps_base.specs.declared.acts.Act.TheVariants as act
use Rattle.std.specs.Prelude.{slice_index}
use Rattle.spec_locks.specs.Locks.{LockState, Owns, one_if_thread, Rights, rights_of, standing, with_right}
use Rattle.spec_locks.specs.Purposes.{MayWait, Purpose, Releases}
use Rattle.spec_locks.specs.Runs.{AnswerHolds, Agrees, CallState, GoesOn, HasRight, LocksState, MayBegin}
use Rattle.spec_locks.specs.Runs.{Stays, going_on, new_call, no_rights, purpose_at, rights_in, unless_ended}
use Rattle.spec_locks.specs.Runs.{woken}
use Rattle.lot_steps.specs.declared.places.Place.TheVariants.{Idle}
use Rattle.lot_steps.specs.Steps.{act_of, first_place}
use Rattle.spec_locks.specs.Calls.{lock_in}
use Rattle.lot_machine.specs.Machine.{State, after, go_of, is_possible, kind_at, place_at, state_after_begin}
use Rattle.lot_machine.specs.Machine.{step_outcome}
use Rattle.lot_machine.specs.Fits.{SameSize}
use Rattle.lot_machine.proofs.Shape.{after_size}
use Rattle.lot_laws.specs.Promises.{IsHandedOverIn, IsKept}
use Rattle.lot_laws.specs.Refinement.{call_at, call_state, lock_state, locks_of}
use Rattle.lot_laws.proofs.machine.KindsStay.{after_kinds}
use Rattle.lot_laws.proofs.calls.LockSteps.{IsTurn, after_step}
use Rattle.lot_laws.proofs.promises.WorldRuns.{world_after, world_kept}
use Rattle.lot_world.specs.Drained.{Drains}
use Rattle.lot_world.specs.Few.{HasFew, IsFew, IsPlain}
use Rattle.lot_world.specs.Ordered.{IsOrdered, begin_of}
use Rattle.lot_world.specs.Quiet.{AtRest}
use Rattle.lot_world.proofs.Few.{SameBeginning, began_same, few_begin, less, rights_are, woken_same}
use Rattle.lot_world.proofs.Ordered.{here, idle_call, idle_is, ordered, others_own, same_purpose, stepped}
use Rattle.lot_world.proofs.Owed.{IsSpent}

-- ---------------------------------------------------------------- a release gives its right up as it ends

abbrev right_now : State → ℕ → Rights
right_now w t = rights_of (lock_state w 0) t

-- the thread is in its call, or has ended it without a right
pub record GivesUp (t : ℕ) (x : Want) (fair : Bool) (w : State) : Type 0 where
  pub ordered_now : IsOrdered w
  pub either : (((call_at w t).purpose ≡ Some (Releases 0 x fair))
      × ((call_at w t).former 0 ≡ with_right x no_rights))
      ⊎ (((call_at w t).purpose ≡ None) × (right_now w t ≡ no_rights))

same : (t : ℕ) → (t == t) ≡ true
same t = grind (arith, nat_tests)

other : (u t : ℕ) → u ≢ t → (u == t) ≡ false
other u t ne = grind (arith, nat_tests)

module _ (t : ℕ) (x : Want) (fair : Bool) (w : State) (h : IsOrdered w)
    (calling : (call_at w t).purpose ≡ Some (Releases 0 x fair)) (before : (call_at w t).former 0
    ≡ with_right x no_rights) where
  abbrev led : State
  led = after w (go_of t)

  abbrev Now : Type 0
  Now = (((call_at led t).purpose ≡ Some (Releases 0 x fair))
      × ((call_at led t).former 0 ≡ with_right x no_rights))
      ⊎ (((call_at led t).purpose ≡ None) × (right_now led t ≡ no_rights))

  -- where it goes on
  module _ (goes : GoesOn (locks_of w) t (step_outcome w (go_of t)) (locks_of led)) where
    abbrev then_call : CallState
    then_call = going_on goes.event (call_at w t)

    told : call_at led t ≡ unless_ended (step_outcome w (go_of t)) (woken (locks_of w) t goes.event t
        then_call)
    told = goes.calls t ∙ ap (λ b. if b then unless_ended (step_outcome w (go_of t))
        (woken (locks_of w) t goes.event t then_call) else woken (locks_of w) t goes.event t (call_at w t))
        (same t)

    went_on : call_at led t ≡ woken (locks_of w) t goes.event t then_call → Now
    went_on e = let alike = began_same (locks_of w) t goes.event (call_at w t) in
        inl (
          ap (λ (c : CallState). c.purpose) e ∙ alike.purpose ∙ calling,
          ap (λ (c : CallState). c.former 0) e ∙ ap (λ (f : ℕ → Rights). f 0) alike.former ∙ before,
        )

    then_same : (then_call.purpose ≡ Some (Releases 0 x fair)) × (then_call.former 0 ≡ with_right x no_rights)
    then_same = let alike = Rattle.lot_world.proofs.Few.going_same goes.event (call_at w t)
        in (alike.purpose ∙ calling, ap (λ (f : ℕ → Rights). f 0) alike.former ∙ before)

    lost : (a : Answer) → AnswerHolds (Some (Releases 0 x fair)) (locks_of led) t then_call a
        → right_now led t ≡ no_rights
    lost answer.Ok holds = less x (right_now led t) no_rights (holds 0 ∙ then_same.1)
    lost a holds = absurd holds

    by_outcome : (o : Outcome) → step_outcome w (go_of t) ≡ o → Now
    by_outcome (outcome.End a) e =
        let agreed : Agrees t then_call (outcome.End a) (locks_of led) =
        subst (λ o. Agrees t then_call o (locks_of led)) e goes.agrees in
        inr (
          ap (λ (c : CallState). c.purpose) (told
              ∙ ap (λ o. unless_ended o (woken (locks_of w) t goes.event t then_call)) e),
          lost a (subst (λ q. AnswerHolds q (locks_of led) t then_call a) then_same.0 agreed.0),
        )
    by_outcome outcome.NotNow e =
        went_on (told ∙ ap (λ o. unless_ended o (woken (locks_of w) t goes.event t then_call)) e)
    by_outcome outcome.Step e = went_on (told
        ∙ ap (λ o. unless_ended o (woken (locks_of w) t goes.event t then_call)) e)
    by_outcome outcome.Sleep e = went_on (told
        ∙ ap (λ o. unless_ended o (woken (locks_of w) t goes.event t then_call)) e)
    by_outcome (outcome.Closure found) e =
        went_on (told ∙ ap (λ o. unless_ended o (woken (locks_of w) t goes.event t then_call)) e)

  in_call : Now
  in_call = elim (stepped w t h).1 [
    | inl did ↦ by_outcome did.1 (step_outcome w (go_of t)) refl
    | inr refused ↦ inl (
      ap (λ (y : LocksState). (y.calls t).purpose) refused.1.1 ∙ calling,
      ap (λ (y : LocksState). (y.calls t).former 0) refused.1.1 ∙ before,
    )
  ]

own_step : (t : ℕ) (x : Want) (fair : Bool) (w : State) → GivesUp t x fair w
    → GivesUp t x fair (after w (go_of t))
own_step t x fair w h = record { ordered_now = ordered w t h.ordered_now; either = by_call h.either }
  where
    by_call : (((call_at w t).purpose ≡ Some (Releases 0 x fair))
        × ((call_at w t).former 0 ≡ with_right x no_rights)) ⊎ (((call_at w t).purpose ≡ None)
        × (right_now w t ≡ no_rights))
        → (((call_at (after w (go_of t)) t).purpose ≡ Some (Releases 0 x fair))
        × ((call_at (after w (go_of t)) t).former 0 ≡ with_right x no_rights))
        ⊎ (((call_at (after w (go_of t)) t).purpose ≡ None) × (right_now (after w (go_of t)) t ≡ no_rights))
    by_call (inl calling) = in_call t x fair w h.ordered_now calling.0 calling.1
    by_call (inr over) = elim (stepped w t h.ordered_now).1 [
      | inl did ↦ absurd (did.1.called over.0)
      | inr refused ↦ inr (
        ap (λ (y : LocksState). (y.calls t).purpose) refused.1.1 ∙ over.0,
        ap (λ (y : LocksState). rights_of (y.locks 0) t) refused.1.1 ∙ over.1,
      )
    ]

-- the call of a thread that doesn't go on remembers how it began
other_call : (w : State) (t u : ℕ) → IsOrdered w → u ≢ t
    → SameBeginning (call_at w u) (call_at (after w (go_of t)) u)
other_call w t u h ne = elim (stepped w t h).1 [
  | inl did ↦ subst (SameBeginning (call_at w u)) (sym (told did.1))
      (woken_same (locks_of w) t did.1.event u (call_at w u))
  | inr refused ↦ subst (λ (y : LocksState). SameBeginning (call_at w u) (y.calls u)) (sym refused.1.1)
      (record { purpose = refl; former = refl })
]
  where
    told : (goes : GoesOn (locks_of w) t (step_outcome w (go_of t)) (locks_of (after w (go_of t))))
        → call_at (after w (go_of t)) u ≡ woken (locks_of w) t goes.event u (call_at w u)
    told goes = goes.calls u
        ∙ ap (λ b. if b then unless_ended (step_outcome w (go_of t)) (woken (locks_of w) t goes.event t
        (going_on goes.event (call_at w t))) else woken (locks_of w) t goes.event u (call_at w u))
        (other u t ne)

-- whatever thread goes on
pub gives_step : (t : ℕ) (x : Want) (fair : Bool) (w : State) (u : ℕ) → GivesUp t x fair w
    → GivesUp t x fair (after w (go_of u))
gives_step t x fair w u h = elim (cases_eq t u) [
  | inl e ↦ subst (λ j. GivesUp t x fair (after w (go_of j))) e (own_step t x fair w h)
  | inr ne ↦ record { ordered_now = ordered w u h.ordered_now; either = by_call ne h.either }
]
  where
    by_call : t ≢ u → (((call_at w t).purpose ≡ Some (Releases 0 x fair))
        × ((call_at w t).former 0 ≡ with_right x no_rights)) ⊎ (((call_at w t).purpose ≡ None)
        × (right_now w t ≡ no_rights))
        → (((call_at (after w (go_of u)) t).purpose ≡ Some (Releases 0 x fair))
        × ((call_at (after w (go_of u)) t).former 0 ≡ with_right x no_rights))
        ⊎ (((call_at (after w (go_of u)) t).purpose ≡ None) × (right_now (after w (go_of u)) t ≡ no_rights))
    by_call ne (inl calling) = let alike = other_call w u t h.ordered_now ne in inl (
      alike.purpose ∙ calling.0,
      ap (λ (f : ℕ → Rights). f 0) alike.former ∙ calling.1,
    )
    by_call ne (inr over) = inr (
      same_purpose w u h.ordered_now t ne ∙ over.0,
      others_own w u h.ordered_now t ne (idle_call (place_at w t) (λ l. rights_of (lock_state w l) t)
          (here w h.ordered_now t) ∙ ap is_none over.0) ∙ over.1,
    )

-- a release never sleeps
never_asleep : (w : State) (t : ℕ) (x : Want) (fair : Bool) → IsOrdered w → (call_at w t).purpose
    ≡ Some (Releases 0 x fair) → act_of (place_at w t) ≡ act.Sleep → ⊥
never_asleep w t x fair h calling asleep =
    let kept : IsKept w = world_kept w h.world in
    let handed : IsHandedOverIn w t = kept.handing t (asleep, nowhere) in
    subst (λ p. MayWait p handed.lock) calling handed.waited.0
  where
    nowhere : (l : ℕ) → standing t (lock_state w l) ≡ 0
    nowhere l = by_number (standing t (lock_state w l)) refl
      where
        by_number : (n : ℕ) → standing t (lock_state w l) ≡ n → standing t (lock_state w l) ≡ 0
        by_number zero e = e
        by_number (suc n) e = absurd (let kept : IsKept w = world_kept w h.world
            in subst (λ p. MayWait p l) calling (kept.waiting t l (omega arith)))

-- a thread that rests has released
pub given_up : (t : ℕ) (x : Want) (fair : Bool) (w : State) → GivesUp t x fair w → AtRest (place_at w t)
    → IsSpent w t
given_up t x fair w h rest = elim h.either [
  | inl calling ↦ elim rest [
    | inl idle ↦ absurd (let e : (call_at w t).purpose ≡ None =
        subst (λ p. (call_state p (λ l. rights_of (lock_state w l) t)).purpose ≡ None) (sym idle) refl
        in let g : ◌≡◌ {A = Option Purpose} None (Some (Releases 0 x fair)) = sym e ∙ calling.0 in cc)
    | inr asleep ↦ absurd (never_asleep w t x fair h.ordered_now calling.0 asleep)
  ]
  | inr ended ↦ (
    idle_is (place_at w t) (idle_call (place_at w t) (λ l. rights_of (lock_state w l) t)
        (here w h.ordered_now t) ∙ ap is_none ended.0),
    ended.1,
  )
]

-- ---------------------------------------------------------------- the call begins

pub one_thread : (t : ℕ) → one_if_thread t (Some t) ≡ 1
one_thread t = grind (arith, nat_tests)

-- an owner that has few owns that and no more
pub only_right : (s : LockState) (t : ℕ) (x : Want) → Owns s t x → IsFew (rights_of s t) → rights_of s t
    ≡ with_right x no_rights
only_right s t Exclusive owns few =
    let one : one_if_thread t s.exclusive ≡ 1 = ap (one_if_thread t) owns ∙ one_thread t in
    rights_are (rights_of s t) (with_right Exclusive no_rights) one (omega arith) (omega arith) (omega arith)
only_right s t Upgradable owns few =
    let one : one_if_thread t s.upgradable ≡ 1 = ap (one_if_thread t) owns ∙ one_thread t in
    rights_are (rights_of s t) (with_right Upgradable no_rights) (omega arith) (omega arith) one (omega arith)
only_right s t Shared owns few =
    let some : 1 ≤ slice_index s.shared t = owns in
    rights_are (rights_of s t) (with_right Shared no_rights) (omega arith) (omega arith) (omega arith)
    (omega arith)
only_right s t Wait owns few = absurd owns
only_right s t CallOnce owns few = absurd owns

module _ (w : State) (t : ℕ) (c : Call) (x : Want) (fair : Bool) (h : IsOrdered w)
    (may : MayBegin (locks_of w) t c) (releases : purpose_at (locks_of w) c ≡ Some (Releases 0 x fair)) where
  abbrev b : State
  b = after w (begin_of t c)

  begun_step : IsTurn (locks_of w) (begin_of t c) (step_outcome w (begin_of t c)) (locks_of b)
  begun_step = after_step w (begin_of t c) h.world.well_formed h.world.inductive h.world.counted
      h.world.condvars

  pub begins : Stays (locks_of w) t (new_call (purpose_at (locks_of w) c) (rights_in (locks_of w) t))
      (step_outcome w (begin_of t c)) (locks_of b)
  begins = elim begun_step.1 [
    | inl did ↦ did.1
    | inr refused ↦ absurd (refused.0 may)
  ]

  abbrev was_idle : (call_at w t).purpose ≡ None
  was_idle = may.idle

  owned : Owns (lock_state w 0) t x
  owned = subst (λ q. HasRight (locks_of w) t q) releases may.right

  plain_now : IsPlain (right_now w t)
  plain_now = subst (λ q. HasFew q ((call_at w t).former 0) (right_now w t)) was_idle (h.few t)

  few_now : IsFew (right_now w t)
  few_now = let plain = plain_now in omega arith

  pub own_right : right_now w t ≡ with_right x no_rights
  own_right = only_right (lock_state w 0) t x owned few_now

  pub ordered_begun : IsOrdered b
  ordered_begun = record {
    world = world_after w (begin_of t c) h.world;
    lock = record {
      one = let size : SameSize w b = after_size w (begin_of t c) in size.locks ∙ h.lock.one;
      sort = subst (λ k. Drains (Rattle.spec_locks.specs.Purposes.rules_of k).sort)
          (sym (after_kinds w (begin_of t c) 0)) h.lock.sort;
    };
    few = few_begin (locks_of w) (locks_of b) 0 t c (step_outcome w (begin_of t c)) h.few was_idle
        (rw releases refl) may.right begins;
  }

  -- nothing else changes
  same_places : (u : ℕ) → u ≢ t → place_at b u ≡ place_at w u
  same_places u ne = either (is_possible w (begin_of t c))
    where
      either : (y : Bool) → place_at (if y then state_after_begin w t c else w) u ≡ place_at w u
      either true = get_or-set_other w.places t u (first_place (kind_at w (lock_in c)) c) Idle ne
      either false = refl

  pub new_calling : call_at b t ≡ new_call (Some (Releases 0 x fair)) (rights_in (locks_of w) t)
  new_calling = begins.calls t ∙ ap (λ y. if y then new_call (purpose_at (locks_of w) c)
      (rights_in (locks_of w) t) else (locks_of w).calls t) (same t)
      ∙ ap (λ q. new_call q (rights_in (locks_of w) t)) releases

  pub spent_begun : (u : ℕ) → u ≢ t → IsSpent w u → IsSpent b u
  spent_begun u ne spent = (
    same_places u ne ∙ spent.0,
    ap (λ (s : LockState). rights_of s u) (begins.locks 0) ∙ spent.1,
  )

  pub gives_begun : GivesUp t x fair b
  gives_begun = record {
    ordered_now = ordered_begun;
    either = inl (
      ap (λ (y : CallState). y.purpose) new_calling,
      ap (λ (y : CallState). y.former 0) new_calling ∙ own_right,
    );
  }
