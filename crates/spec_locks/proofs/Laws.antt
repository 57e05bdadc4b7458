-- Steps that no world of the abstract locks takes: each is refused by the definitions.
use Rattle.std.proofs.Common.{ℕ, true, Option, Some, None, ◌≡◌, inl, inr, refl, sym, ap, ◌∙◌, subst}
use Rattle.core_base.specs.declared.wants.Want.{Want}
use Rattle.core_base.specs.declared.wants.Want.TheVariants.{Exclusive}
use Rattle.spec_locks.specs.declared.calls.Turn.{Turn}
use Rattle.spec_locks.specs.declared.calls.Turn.TheVariants as turn
use Rattle.spec_locks.specs.declared.outcomes.Answer.TheVariants as answer
use Rattle.spec_locks.specs.declared.outcomes.Outcome.TheVariants as outcome
use Rattle.spec_locks.specs.Locks.{Enter, Pend, Settle, Leave, Park, Aside, TakePicked, Wake, Late, Rollback}
use Rattle.spec_locks.specs.Locks.{Rights, Rules, LockState, Needs, IsFree, one_if_thread}
use Rattle.spec_locks.specs.Purposes.{Purpose, Releases, IsMadeOf, Timed, Try}
use Rattle.spec_locks.proofs.Runs.{needs_of}
use Rattle.spec_locks.specs.Runs.{LocksState, Event, Nothing, AtLock, Moves, MayDo, MayHappen, Does, Agrees}
use Rattle.spec_locks.specs.Runs.{going_on, locks_after, rights_in, rules_at, no_rights}
use Rattle.spec_locks.specs.Laws.{PossibleTurnsAreTaken, CallsTakeSteps, FairReleasesHandOver, OwnersKeepOut}
use Rattle.spec_locks.specs.Laws.{FreeMutexIsGot, trying}

-- a deed is told, and never as a refusal
told_done : (w v : LocksState) (t : ℕ) (x : Turn) → Does w t x outcome.NotNow v → ⊥
told_done w v t (turn.Begin c) d = let told = d.told in cc
told_done w v t turn.Spin d = d.goes.agrees
told_done w v t turn.Late d = let told = d.told in cc
told_done w v t turn.Go d = d.agrees
told_done w v t turn.Ok d = d.goes.agrees
told_done w v t turn.Err d = d.goes.agrees

pub possible_turns : PossibleTurnsAreTaken
possible_turns w v s may h = elim h.1 [
  | inl d ↦ told_done w v s.thread s.turn d.1
  | inr r ↦ r.0 may
]

pub calls_take_steps : CallsTakeSteps
calls_take_steps w v t c a h = elim h.1 [
  | inl d ↦ let told : outcome.End a ≡ outcome.Step = d.1.told in cc
  | inr r ↦ let told : outcome.End a ≡ outcome.NotNow = r.1.0 in cc
]

fair_wakes_none : (w : LocksState) (t l : ℕ) (o : Option Purpose) → o ≡ Some (Releases l Exclusive true)
    → MayDo w t l Wake o → ⊥
fair_wakes_none w t l None e m = m
fair_wakes_none w t l (Some p) e m = let q : p ≡ Releases l Exclusive true = cc in
    let made : IsMadeOf (Releases l Exclusive true) (w.calls t).gave_up (w.calls t).released
    (w.calls t).recalls l Wake = subst (λ x. IsMadeOf x (w.calls t).gave_up (w.calls t).released
    (w.calls t).recalls l Wake) q m.0 in
    elim made.1 [
      | inl h ↦ cc
      | inr h ↦ cc
    ]

pub fair_releases : FairReleasesHandOver
fair_releases w t l e may = fair_wakes_none w t l (w.calls t).purpose e may

free_for : (r : Rules) (s : LockState) (t : ℕ) (x : Want) → Needs r (Enter x) s t → IsFree r s x
free_for r s t Exclusive n = n.0.0
free_for r s t x n = n.0

pub owners_exclude : OwnersKeepOut
owners_exclude w t l x blocked may =
    blocked (free_for (rules_at w l) (w.locks l) t x (needs_of w t l (Enter x) (w.calls t).purpose may))

-- ---------------------------------------------------------------- a try of a mutex that nobody owns

-- a try of a free mutex does nothing but enter, and then its thread owns what it didn't
no_try_fails : (v : LocksState) (e : Event) → MayHappen trying 0 e
    → ((l : ℕ) → v.locks l ≡ locks_after trying 0 e l) → ((l : ℕ) → v.kinds l ≡ trying.kinds l)
    → Agrees 0 (going_on e (trying.calls 0)) (outcome.End answer.No) v → ⊥
no_try_fails v Nothing may led kinds agrees = let blocked = agrees.0.0 (rw (kinds 0) refl)
    in blocked.1 (rw (kinds 0, led 0) refl)
no_try_fails v (AtLock l (Enter y)) may led kinds agrees = let here : l ≡ 0 = may.0.0 in let want : y
    ≡ Exclusive = may.0.1 in
    let got : (v.locks 0).exclusive ≡ Some 0 = rw (led 0, here, want) refl in
    let kept : rights_in v 0 0 ≡ no_rights = agrees.0.1 0 in
    let one : one_if_thread 0 (v.locks 0).exclusive ≡ 0 = ap (λ (r : Rights). r.exclusive) kept in
    let two : 1 ≡ 0 = sym (ap (one_if_thread 0) got) ∙ one in cc
no_try_fails v (AtLock l Pend) may led kinds agrees = may.0.1.1 refl
no_try_fails v (AtLock l (Park y)) may led kinds agrees = may.0.1.1 refl
no_try_fails v (AtLock l Late) may led kinds agrees = let p : Try ≡ Timed = may.0.1.0 in cc
no_try_fails v (AtLock l Rollback) may led kinds agrees = may.0.1 refl
no_try_fails v (AtLock l (TakePicked start)) may led kinds agrees = may.0.1.0 refl
no_try_fails v (AtLock l Wake) may led kinds agrees = may.0.1 refl
no_try_fails v (AtLock l Settle) may led kinds agrees = may.1.0
no_try_fails v (AtLock l Aside) may led kinds agrees = may.1.0
no_try_fails v (AtLock l (Leave y)) may led kinds agrees = may.0.1
no_try_fails v (AtLock l case) may led kinds agrees = may.0.1
no_try_fails v (Moves c m all owned number) may led kinds agrees = let e = may.notifies in cc

pub free_mutex : FreeMutexIsGot
free_mutex v h = elim h.1 [
  | inl d ↦ no_try_fails v d.1.event d.1.may d.1.locks h.0.kinds d.1.agrees
  | inr r ↦ let told : outcome.End answer.No ≡ outcome.NotNow = r.1.0
      in cc
]
