-- A pending thread is in a call that waits for a right.
use Rattle.std.proofs.Common.{ℕ, Bool, true, false, Option, Some, None, if◌then◌else◌, ◌==◌, ◌≡◌, ◌≢◌, inl}
use Rattle.std.proofs.Common.{inr, refl, sym, ◌∙◌, ap, subst, arith}
use Rattle.std.proofs.lemmas.Bool.{cases_eq}
use Rattle.std.proofs.lemmas.Bool.Decides.{nat_tests}
use Rattle.core_base.specs.declared.wants.Want.{Want}
use Rattle.spec_locks.specs.declared.outcomes.Answer.{Answer}
use Rattle.spec_locks.specs.declared.outcomes.Answer.TheVariants as answer
use Rattle.spec_locks.specs.declared.outcomes.Outcome.{Outcome}
use Rattle.spec_locks.specs.declared.outcomes.Outcome.TheVariants as outcome
use Rattle.spec_locks.specs.Locks.{LockState, LockCase, Needs, Rights, Taken, Leave, TakeFirst, TakeAside}
use Rattle.spec_locks.specs.Locks.{TakePicked, Wake, HandOff, after_case, one_if_some, putting, rights_of}
use Rattle.spec_locks.specs.Locks.{with_right}
use Rattle.spec_locks.specs.Purposes.{MayWait, Purpose, Enters, Releases, Converts, Bumps, CallsOnce, Awaits}
use Rattle.spec_locks.specs.Purposes.{Waits, Notifies, ReleasesBy, lock_for}
use Rattle.spec_locks.specs.declared.calls.Patience.{Patience}
use Rattle.spec_locks.specs.declared.calls.Patience.TheVariants.{Patient, Timed, Try}
use Rattle.spec_locks.specs.Runs.{Agrees, AnswerHolds, AreLockStates, AtLock, BumpsAnswer, CallState}
use Rattle.spec_locks.specs.Runs.{ConvertsAnswer, EntersAnswer, Event, Gains, GoesOn, Keeps, LocksState}
use Rattle.spec_locks.specs.Runs.{Loses, MayDo, MayHappen, Moves, Nothing, Replaces, going_on, locks_after}
use Rattle.spec_locks.specs.Runs.{no_call, rights_in, rules_at, unless_ended, woken}
use Rattle.spec_locks.proofs.Rights.{left}
use Rattle.lot_laws.proofs.hands.Rights.{giver_has}
use Rattle.lot_world.specs.Few.{IsOfOneLock}
use Rattle.lot_world.specs.Pending.{AllBeganUnpending, BeganUnpending, OnlyWaitersStand, UnpendingGoOn}
use Rattle.lot_world.proofs.Few.{SameBeginning, case_leaves, going_same, pending_stays, put_other, put_same}
use Rattle.lot_world.proofs.Few.{woken_same}

-- ---------------------------------------------------------------- answers

-- the pending right is no right that a call tells of
same_pending : (x y : Want) (r s : Rights) → with_right x r ≡ with_right y s → r.pending ≡ s.pending
same_pending x y r s e = sym (pending_stays x r) ∙ ap (λ (z : Rights). z.pending) e ∙ pending_stays y s

module _ (v : LocksState) (t : ℕ) (c : CallState) (none : (c.former 0).pending ≡ 0) where
  abbrev IsNone : Type 0
  IsNone = (rights_in v t 0).pending ≡ 0

  kept_none : Keeps v t c → IsNone
  kept_none h = ap (λ (r : Rights). r.pending) (h 0) ∙ none

  gained_none : (x : Want) → Gains v t c 0 x → IsNone
  gained_none x h = ap (λ (r : Rights). r.pending) (h 0 ∙ put_same c.former 0 _)
      ∙ pending_stays x (c.former 0) ∙ none

  lost_none : (x : Want) → Loses v t c 0 x → IsNone
  lost_none x h = sym (pending_stays x (rights_in v t 0))
      ∙ ap (λ (r : Rights). r.pending) (sym (put_same (rights_in v t) 0 _) ∙ h 0) ∙ none

  replaced_none : (x y : Want) → Replaces v t c 0 x y → IsNone
  replaced_none x y h = same_pending x y (rights_in v t 0) (c.former 0) (sym (put_same (rights_in v t) 0 _)
      ∙ h 0 ∙ put_same c.former 0 _) ∙ none

  enters_none : (x : Want) (how : Patience) (a : Answer) → EntersAnswer v t c 0 x how a → IsNone
  enters_none x Patient answer.Ok h = gained_none x h.1
  enters_none x Timed answer.Yes h = gained_none x h.1
  enters_none x Try answer.Yes h = gained_none x h.1
  enters_none x Timed answer.No h = kept_none h.1
  enters_none x Try answer.No h = kept_none h.1
  enters_none x Patient answer.ReadersFull h = kept_none h.1
  enters_none x Timed answer.ReadersFull h = kept_none h.1
  enters_none x Try answer.ReadersFull h = kept_none h.1
  enters_none x how a h = absurd h

  converts_none : (x y : Want) (how : Patience) (a : Answer) → ConvertsAnswer v t c 0 x y how a → IsNone
  converts_none x y Patient answer.Ok h = replaced_none x y h
  converts_none x y Timed answer.Yes h = replaced_none x y h
  converts_none x y Try answer.Yes h = replaced_none x y h
  converts_none x y Timed answer.No h = kept_none h.1
  converts_none x y Try answer.No h = kept_none h.1
  converts_none x y how a h = absurd h

  bumps_none : (x : Want) (a : Answer) → BumpsAnswer v t c 0 x a → IsNone
  bumps_none x answer.Ok h = kept_none h.1
  bumps_none x answer.ReadersFull h = lost_none x h.1
  bumps_none x a h = absurd h

-- an answer leaves nobody pending
answered : (v : LocksState) (t : ℕ) (c : CallState) (now : Rights) (p : Purpose) (a : Answer) → lock_for p ≡ 0
    → BeganUnpending (Some p) (c.former 0) now
    → AnswerHolds (Some p) v t c a → (rights_in v t 0).pending ≡ 0
answered v t c now (Enters k x how) a here before h = enters_none v t c before x how a
    (subst (λ j. EntersAnswer v t c j x how a) here h)
answered v t c now (Releases k x fair) answer.Ok here before h =
    lost_none v t c before.0 x (subst (λ j. Loses v t c j x) here h)
answered v t c now (Releases k x fair) a here before h = absurd h
answered v t c now (Converts k x y how) a here before h = converts_none v t c before x y how a
    (subst (λ j. ConvertsAnswer v t c j x y how a) here h)
answered v t c now (Bumps k x) a here before h = bumps_none v t c before x a
    (subst (λ j. BumpsAnswer v t c j x a) here h)
answered v t c now (CallsOnce k forced) a here before h = absurd before
answered v t c now (Awaits k forced timed) a here before h = absurd before
answered v t c now (Waits k m timed) a here before h = absurd before
answered v t c now (Notifies k all) a here before h = absurd before

-- ---------------------------------------------------------------- steps

module _ (w v : LocksState) (t : ℕ) (o : Outcome) (state : AreLockStates w) (one : IsOfOneLock w 0)
    (waiters : OnlyWaitersStand w)
    (began : AllBeganUnpending w) (goes : GoesOn w t o v) where
  -- a thread whose call doesn't wait is in no hand
  in_no_hand : (u : ℕ) → (MayWait (w.calls u).purpose 0 → ⊥) → (w.locks 0).taken u ≡ None
  in_no_hand u never = by_taken ((w.locks 0).taken u) refl
    where
      by_taken : (x : Option Taken) → (w.locks 0).taken u ≡ x → (w.locks 0).taken u ≡ None
      by_taken None e = e
      by_taken (Some h) e = absurd (never (waiters u (let f : one_if_some ((w.locks 0).taken u) ≡ 1 =
          ap one_if_some e in omega arith)))

  no_move : (c m : ℕ) (all owned : Bool) (n : ℕ) → MayHappen w t (Moves c m all owned n) → ⊥
  no_move c m all owned n may = subst (λ p. BeganUnpending p ((w.calls t).former 0) (rights_in w t 0))
      may.notifies (began t)

  needs : (k : ℕ) (case : LockCase) (p : Option Purpose) → MayDo w t k case p
      → Needs (rules_at w k) case (w.locks k) t
  needs k case None h = absurd h
  needs k case (Some p) h = h.1

  -- an event of another thread leaves the rights of a thread in no hand
  of_event : (event : Event) (u : ℕ) → MayHappen w t event → u ≢ t → (w.locks 0).taken u ≡ None
      → rights_of (locks_after w t event 0) u ≡ rights_of (w.locks 0) u
  of_event Nothing u may ne free = refl
  of_event (Moves c m all owned number) u may ne free = absurd (no_move c m all owned number may)
  of_event (AtLock k case) u may ne free = elim (cases_eq 0 k) [
    | inl e ↦ let n : Needs (rules_at w k) case (w.locks k) t = needs k case (w.calls t).purpose may in
        subst (λ j. rights_of (putting w.locks j (after_case (rules_at w j) case (w.locks j) t) 0) u
        ≡ rights_of (w.locks 0) u) e
        (ap (λ (s : LockState). rights_of s u)
        (put_same w.locks 0 (after_case (rules_at w 0) case (w.locks 0) t))
        ∙ case_leaves w 0 t u state ne free case (subst (λ j. Needs (rules_at w j) case (w.locks j) t) (sym e)
        n))
    | inr other ↦ ap (λ (s : LockState). rights_of s u) (put_other w.locks k
        (after_case (rules_at w k) case (w.locks k) t) 0 other)
  ]

  pub others_own : (u : ℕ) → u ≢ t → (MayWait (w.calls u).purpose 0 → ⊥) → rights_in v u 0 ≡ rights_in w u 0
  others_own u ne never = ap (λ (s : LockState). rights_of s u) (goes.locks 0)
      ∙ of_event goes.event u goes.may ne (in_no_hand u never)

  -- a release gives its right up, and isn't pending after that
  by_release : (x : Want) (fair : Bool) (case : LockCase) → ReleasesBy x fair case
      → Needs (rules_at w 0) case (w.locks 0) t → (w.locks 0).taken t ≡ None
      → (rights_of (after_case (rules_at w 0) case (w.locks 0) t) t).pending
      ≡ (rights_of (w.locks 0) t).pending
  by_release x fair (Leave y) by n free = sym (pending_stays y _) ∙ ap (λ (r : Rights). r.pending)
      (left (w.locks 0) t y n)
  by_release x fair (TakeFirst y) by n free = refl
  by_release x fair (TakeAside u) by n free = refl
  by_release x fair (TakePicked start) by n free = refl
  by_release x fair Wake by n free = refl
  by_release x fair (HandOff y successor) by n free = sym (pending_stays y _)
      ∙ ap (λ (r : Rights). r.pending) (giver_has (rules_at w 0) (w.locks 0) t y successor (state 0) n free)
  by_release x fair case by n free = absurd by

  own_event : (k : ℕ) (x : Want) (fair : Bool) → (w.calls t).purpose ≡ Some (Releases k x fair)
      → (w.locks 0).taken t ≡ None
      → (event : Event) → MayHappen w t event → (rights_of (locks_after w t event 0) t).pending
      ≡ (rights_of (w.locks 0) t).pending
  own_event k x fair calling free Nothing may = refl
  own_event k x fair calling free (Moves c m all owned number) may = absurd (no_move c m all owned number may)
  own_event k x fair calling free (AtLock j case) may =
      let done : MayDo w t j case (Some (Releases k x fair)) = subst (MayDo w t j case) calling may in
      elim (cases_eq 0 j) [
        | inl e ↦ subst (λ i. (rights_of (putting w.locks i (after_case (rules_at w i) case (w.locks i) t) 0)
            t).pending ≡ (rights_of (w.locks 0) t).pending) e
            (ap (λ (s : LockState). (rights_of s t).pending)
            (put_same w.locks 0 (after_case (rules_at w 0) case (w.locks 0) t))
            ∙ by_release x fair case done.0.1 (subst (λ i. Needs (rules_at w i) case (w.locks i) t) (sym e)
            done.1) free)
        | inr other ↦ ap (λ (s : LockState). (rights_of s t).pending)
            (put_other w.locks j (after_case (rules_at w j) case (w.locks j) t) 0 other)
      ]

  -- ---------------------------------------------------------------- a thread that didn't go on

  other_led : (u : ℕ) → u ≢ t → SameBeginning (w.calls u) (v.calls u)
  other_led u ne =
      let led : v.calls u ≡ woken w t goes.event u (w.calls u) = goes.calls u
      ∙ ap (λ b. if b then unless_ended o (woken w t goes.event t (going_on goes.event (w.calls t)))
      else woken w t goes.event u (w.calls u)) (let e : (u == t) ≡ false = grind (arith, nat_tests) in e)
      in
      subst (SameBeginning (w.calls u)) (sym led) (woken_same w t goes.event u (w.calls u))

  abbrev Then : ℕ → Type 0
  Then u = BeganUnpending (v.calls u).purpose ((v.calls u).former 0) (rights_in v u 0)

  from_alike : (u : ℕ) (p : Option Purpose) → SameBeginning (w.calls u) (v.calls u) → (w.calls u).purpose ≡ p
      → BeganUnpending p ((w.calls u).former 0) (rights_in v u 0) → Then u
  from_alike u p alike e h = subst (λ q. BeganUnpending q ((v.calls u).former 0) (rights_in v u 0))
      (sym (alike.purpose ∙ e))
      (subst (λ f. BeganUnpending p f (rights_in v u 0)) (sym (ap (λ (f : ℕ → Rights). f 0) alike.former)) h)

  before_at : (u : ℕ) (p : Option Purpose) → (w.calls u).purpose ≡ p → BeganUnpending p ((w.calls u).former 0)
      (rights_in w u 0)
  before_at u p e = subst (λ q. BeganUnpending q ((w.calls u).former 0) (rights_in w u 0)) e (began u)

  pending_now : (u : ℕ) → u ≢ t → (p : Option Purpose) → (w.calls u).purpose ≡ p → (MayWait p 0 → ⊥)
      → (rights_in v u 0).pending ≡ (rights_in w u 0).pending
  pending_now u ne p e never = ap (λ (r : Rights). r.pending)
      (others_own u ne (subst (λ q. MayWait q 0 → ⊥) (sym e) never))

  of_other : (u : ℕ) → u ≢ t → Then u
  of_other u ne = by_purpose (w.calls u).purpose refl
    where
      by_purpose : (p : Option Purpose) → (w.calls u).purpose ≡ p → Then u
      by_purpose None e = from_alike u None (other_led u ne) e (pending_now u ne None e (λ f. f)
          ∙ before_at u None e)
      by_purpose (Some (Releases k x fair)) e = from_alike u (Some (Releases k x fair)) (other_led u ne) e (
        (before_at u (Some (Releases k x fair)) e).0,
        pending_now u ne (Some (Releases k x fair)) e
            (λ f. f) ∙ (before_at u (Some (Releases k x fair)) e).1,
      )
      by_purpose (Some (Enters k x how)) e = from_alike u (Some (Enters k x how)) (other_led u ne) e
          (before_at u (Some (Enters k x how)) e)
      by_purpose (Some (Converts k x y how)) e = from_alike u (Some (Converts k x y how)) (other_led u ne) e
          (before_at u (Some (Converts k x y how)) e)
      by_purpose (Some (Bumps k x)) e = from_alike u (Some (Bumps k x)) (other_led u ne) e
          (before_at u (Some (Bumps k x)) e)
      by_purpose (Some (CallsOnce k forced)) e = absurd (before_at u (Some (CallsOnce k forced)) e)
      by_purpose (Some (Awaits k forced timed)) e = absurd (before_at u (Some (Awaits k forced timed)) e)
      by_purpose (Some (Waits k m timed)) e = absurd (before_at u (Some (Waits k m timed)) e)
      by_purpose (Some (Notifies k all)) e = absurd (before_at u (Some (Notifies k all)) e)

  -- ---------------------------------------------------------------- the thread that went on

  abbrev went : CallState
  went = going_on goes.event (w.calls t)

  went_same : SameBeginning (w.calls t) went
  went_same = going_same goes.event (w.calls t)

  own_led : v.calls t ≡ unless_ended o (woken w t goes.event t went)
  own_led = goes.calls t ∙ ap (λ b. if b then unless_ended o
      (woken w t goes.event t (going_on goes.event (w.calls t))) else woken w t goes.event t (w.calls t))
      (let e : (t == t) ≡ true = grind (arith, nat_tests) in e)

  own_alike : v.calls t ≡ woken w t goes.event t went → SameBeginning (w.calls t) (v.calls t)
  own_alike led =
      let more : SameBeginning went (v.calls t) = subst (SameBeginning went) (sym led)
      (woken_same w t goes.event t went) in
      record { purpose = more.purpose ∙ went_same.purpose; former = more.former ∙ went_same.former }

  own_pending : (k : ℕ) (x : Want) (fair : Bool) → (w.calls t).purpose ≡ Some (Releases k x fair)
      → (rights_in v t 0).pending ≡ (rights_in w t 0).pending
  own_pending k x fair e = ap (λ (s : LockState). (rights_of s t).pending) (goes.locks 0)
      ∙ own_event k x fair e (in_no_hand t (subst (λ q. MayWait q 0 → ⊥) (sym e) (λ f. f))) goes.event
      goes.may

  goes_on : v.calls t ≡ woken w t goes.event t went → Then t
  goes_on led = by_purpose (w.calls t).purpose refl
    where
      by_purpose : (p : Option Purpose) → (w.calls t).purpose ≡ p → Then t
      by_purpose None e = absurd (goes.called e)
      by_purpose (Some (Releases k x fair)) e = from_alike t (Some (Releases k x fair)) (own_alike led) e (
        (before_at t (Some (Releases k x fair)) e).0,
        own_pending k x fair e
            ∙ (before_at t (Some (Releases k x fair)) e).1,
      )
      by_purpose (Some (Enters k x how)) e = from_alike t (Some (Enters k x how)) (own_alike led) e
          (before_at t (Some (Enters k x how)) e)
      by_purpose (Some (Converts k x y how)) e = from_alike t (Some (Converts k x y how)) (own_alike led) e
          (before_at t (Some (Converts k x y how)) e)
      by_purpose (Some (Bumps k x)) e = from_alike t (Some (Bumps k x)) (own_alike led) e
          (before_at t (Some (Bumps k x)) e)
      by_purpose (Some (CallsOnce k forced)) e = absurd (before_at t (Some (CallsOnce k forced)) e)
      by_purpose (Some (Awaits k forced timed)) e = absurd (before_at t (Some (Awaits k forced timed)) e)
      by_purpose (Some (Waits k m timed)) e = absurd (before_at t (Some (Waits k m timed)) e)
      by_purpose (Some (Notifies k all)) e = absurd (before_at t (Some (Notifies k all)) e)

  ended : (a : Answer) → AnswerHolds went.purpose v t went a → (rights_in v t 0).pending ≡ 0
  ended a holds = by_purpose (w.calls t).purpose refl
    where
      by_purpose : (p : Option Purpose) → (w.calls t).purpose ≡ p → (rights_in v t 0).pending ≡ 0
      by_purpose None e = absurd (goes.called e)
      by_purpose (Some p) e = answered v t went (rights_in w t 0) p a (one.calls t p e)
          (subst (λ f. BeganUnpending (Some p) f (rights_in w t 0))
          (sym (ap (λ (f : ℕ → Rights). f 0) went_same.former)) (before_at t (Some p) e))
          (subst (λ q. AnswerHolds q v t went a) (went_same.purpose ∙ e) holds)

  of_own : (x : Outcome) → o ≡ x → Then t
  of_own (outcome.End a) e =
      let over : v.calls t ≡ no_call = own_led ∙ ap (λ y. unless_ended y (woken w t goes.event t went)) e in
      subst (λ (c : CallState). BeganUnpending c.purpose (c.former 0) (rights_in v t 0)) (sym over)
      (ended a (let agreed : Agrees t went (outcome.End a) v = subst (λ y. Agrees t went y v) e goes.agrees
      in agreed.0))
  of_own outcome.NotNow e = goes_on (own_led ∙ ap (λ y. unless_ended y (woken w t goes.event t went)) e)
  of_own outcome.Step e = goes_on (own_led ∙ ap (λ y. unless_ended y (woken w t goes.event t went)) e)
  of_own outcome.Sleep e = goes_on (own_led ∙ ap (λ y. unless_ended y (woken w t goes.event t went)) e)
  of_own (outcome.Closure found) e = goes_on (own_led ∙ ap (λ y. unless_ended y (woken w t goes.event t went))
      e)

pub unpending_go_on : UnpendingGoOn
unpending_go_on w v t o state one waiters began goes u = elim (cases_eq u t) [
  | inl e ↦ subst (λ j. BeganUnpending (v.calls j).purpose ((v.calls j).former 0) (rights_in v j 0)) (sym e)
      (of_own w v t o state one waiters began goes o refl)
  | inr ne ↦ of_other w v t o state one waiters began goes u ne
]
