-- A thread that has gone on in a call of a condition variable owes by the section that it is inside, and on
-- its mutex where its release has just seen the parked bit.
use Rattle.lot_laws.proofs.Imports
use Imports.{ℕ, Bool, true, false, Option, Some, None, if◌then◌else◌, ◌==◌, ◌≡◌, ◌<◌, ◌⊎◌, ◌↔◌, ◌||◌, inl, inr}
use Imports.{length, refl, sym, ◌∙◌, ap, subst, One, CondvarCall, Outcome, outcome_of, Enter, Next, Late, At}
use Imports.{MutexPlace, in_unlock, is_parked, mutex_act, mutex_next, NotifyAt, CondvarPlace, Wait, Look}
use Imports.{Notify, WaiterFate, WaitAt, IsReached, has_released, past_release, condvar_act, condvar_first}
use Imports.{condvar_next, in_notify, in_wait, is_shown, mutex_beside, mutex_shown, next_notify, notified}
use Imports.{notify_act, released, relocked, Condvar, act_of, condvar_does, condvar_goes, late_key, line_owed}
use Imports.{next_act, Rights, Sort, Waits, CallState, Line, Main, has_readers, State, going_outcome, place_at}
use Imports.{reply_to, state_after_act, state_after_going, word_at, call_at, call_state, FitsCondvar}
use Imports.{IsInductive, key_of, IsInside, IsWait, LetsOthersIn, LooksFirst, OnlyLooks, Owes, SeesWaiters}
use Imports.{line_let_in, sort_at, tells_by, tells_of}
use Rattle.core_base.specs.declared.notes.Note.TheVariants as note
use Rattle.spec_locks.specs.declared.calls.CondvarCall.TheVariants as call
use Rattle.spec_locks.specs.declared.outcomes.Answer.TheVariants as answer
use Rattle.spec_locks.specs.declared.outcomes.Outcome.TheVariants as told
use Rattle.steps_base.specs.declared.acts.Next.TheVariants.{End as Over}
use Rattle.steps_mutex.specs.declared.places.MutexPlace.TheVariants as mutex
use Rattle.steps_mutex.specs.declared.unlock.UnlockAt.TheVariants as unlock
use Rattle.steps_condvar.specs.declared.notify.NotifyAt.TheVariants as notify
use Rattle.steps_condvar.specs.declared.wait.WaiterFate.TheVariants as stands
use Rattle.steps_condvar.specs.declared.wait.WaitAt.TheVariants as wait
use Rattle.steps_condvar.specs.CondvarProfiles.{has_given_up}
use Rattle.spec_locks.specs.Locks as locks
use Rattle.lot_laws.proofs.calls.CallEvents.{rights}
use Rattle.lot_laws.proofs.condvar.Replies.{fits_here, rules_beside}
use Rattle.lot_laws.proofs.condvar.OwnStand.{IsStill, is_release, own_place, went_is, went_place}
use Rattle.lot_laws.proofs.promises.PlacePromises.{LetsBy}
use Rattle.lot_laws.proofs.promises.Debtors.{EntersAt, IsEntering, inside_owes_so, two_owe}

-- a thread sees waiters, by its call
abbrev pub SeesBy : State → ℕ → ℕ → Line → Outcome → State → CallState → Type 0
SeesBy w t l m o v c =
    LetsBy w t l c × (line_let_in (sort_at w l) c.purpose ≡ m)
    × (tells_by (sort_at w l) c.purpose m (word_at w l) ≡ true) × (o ≡ told.Step)
    × (OnlyLooks v t l → act_of (place_at v t) ≡ Enter (One (key_of l m)))
    × (IsWait c.purpose → (call_at v t).released ≡ true)

-- ---------------------------------------------------------------- places

-- the thread is about to release its mutex, whose word has the parked bit
abbrev SeesAt : State → CondvarPlace → ℕ → Line → Type 0
SeesAt w (Wait n timed (wait.Release s (mutex.Unlock unlock.Subtract))) l m = (n ≡ l) × (m ≡ Main)
    × (is_parked (word_at w n) ≡ true)
SeesAt w at l m = ⊥

-- the thread enters the section of its mutex next
abbrev EntersNext : Next CondvarPlace → ℕ → Line → Type 0
EntersNext (At p) l m = EntersAt p l m
EntersNext (Over answer) l m = ⊥

-- a notifier never does, nor a thread that locks its mutex again, nor one that sleeps after its release
notifier_stays : (all : Bool) (n : ℕ) (x : Next NotifyAt) (l : ℕ) (m : Line)
    → EntersNext (in_notify all n x) l m → ⊥
notifier_stays all n (At at) l m e = e.2
notifier_stays all n (Over answer) l m e = e

locker_stays : (n : ℕ) (timed late : Bool) (x : Next MutexPlace) (l : ℕ) (m : Line)
    → EntersNext (in_wait n timed (relocked timed late x)) l m → ⊥
locker_stays n timed late (At at) l m e = e.2
locker_stays n timed late (Over answer) l m e = e

sleeper_stays : (n : ℕ) (timed : Bool) (s : WaiterFate) → IsEntering (Wait n timed (past_release s)) → ⊥
sleeper_stays n timed (stands.Noted note.Normal) e = e
sleeper_stays n timed (stands.Noted note.HandOff) e = e
sleeper_stays n timed s e = e

module _ (w : State) (t k : ℕ) where
  -- where its act leads it, from where that has left it
  abbrev next_of : CondvarPlace → CondvarPlace → Next CondvarPlace
  next_of at q = condvar_next q (reply_to w t (condvar_act k at))

  -- the thread enters the section next only from its release, where that saw the bit
  release_enters : (n : ℕ) (timed : Bool) (s s2 : WaiterFate) (at : MutexPlace)
      → IsReached (Wait n timed (wait.Release s at))
      → (l : ℕ) (m : Line)
      → EntersNext (next_of (Wait n timed (wait.Release s at)) (Wait n timed (wait.Release s2 at))) l m
      → SeesAt w (Wait n timed (wait.Release s at)) l m
  release_enters n timed s s2 (mutex.Unlock unlock.Subtract) reached l m e =
      by_bit (is_parked (word_at w n)) refl e
    where
      by_bit : (b : Bool) → is_parked (word_at w n) ≡ b
          → EntersAt (Wait n timed (released s2 (in_unlock (if b then At unlock.Enter else Over answer.Ok))))
          l m
          → (n ≡ l) × (m ≡ Main) × (is_parked (word_at w n) ≡ true)
      by_bit true parked e = ((let names = e.0 in cc), e.1, parked)
      by_bit false parked e = absurd (sleeper_stays n timed s2 e.2)
  release_enters n timed s s2 (mutex.Unlock unlock.Enter) reached l m e = absurd e.2
  release_enters n timed s s2 (mutex.Unlock unlock.Take) reached l m e = absurd (by_left _ _ e)
    where
      by_left : (any none_left : Bool)
          → EntersAt
          (Wait n timed (released s2 (in_unlock (if none_left then At (unlock.Clear any) else At
          (unlock.Leave any))))) l m
          → ⊥
      by_left any true e = e.2
      by_left any false e = e.2
  release_enters n timed s s2 (mutex.Unlock (unlock.Clear any)) reached l m e = absurd e.2
  release_enters n timed s s2 (mutex.Unlock (unlock.Leave any)) reached l m e =
      absurd (sleeper_stays n timed s2 e.2)
  release_enters n timed s s2 at reached l m e = absurd reached.0

  -- from any other place of a wait it doesn't
  calm_stays : (n : ℕ) (timed : Bool) (at : WaitAt) → is_release at ≡ false → (l : ℕ) (m : Line)
      → EntersNext (next_of (Wait n timed at) (Wait n timed at)) l m → ⊥
  calm_stays n timed (wait.Release s at) calm l m e = cc
  calm_stays n timed wait.Enter calm l m e = e.2
  calm_stays n timed wait.Show calm l m e = by_word ((word_at w k == 0) || is_shown (word_at w k) n) e
    where
      by_word : (b : Bool) → EntersNext (in_wait n timed (if b then At wait.Stand else At wait.Refuse)) l m
          → ⊥
      by_word true e = e.2
      by_word false e = e.2
  calm_stays n timed wait.Stand calm l m e = e.2
  calm_stays n timed wait.Leave calm l m e = e.2
  calm_stays n timed wait.Refuse calm l m e = e
  calm_stays n timed (wait.Asleep s) calm l m e = sleeper_stays n timed s e.2
  calm_stays n timed wait.Remove calm l m e = by_left _ e
    where
      by_left : (b : Bool) → EntersNext (in_wait n timed (if b then At wait.Hide else At wait.GiveUp)) l m → ⊥
      by_left true e = e.2
      by_left false e = e.2
  calm_stays n timed wait.Hide calm l m e = e.2
  calm_stays n timed wait.GiveUp calm l m e = e.2
  calm_stays n timed wait.RemoveMoved calm l m e = e.2
  calm_stays n timed (wait.GiveUpMoved none_left) calm l m e = e.2
  calm_stays n timed (wait.Lock late at) calm l m e = locker_stays n timed late
      (mutex_next at (reply_to w t (mutex_act n at))) l m e

  enters_seeing : (at q : CondvarPlace) → IsReached at → IsStill at q → (l : ℕ) (m : Line)
      → EntersNext (next_of at q) l m
      → SeesAt w at l m
  enters_seeing (Look all) q reached still l m e =
      absurd (by_word (word_at w k == 0) (subst (λ x. EntersNext (next_of (Look all) x) l m) still e))
    where
      by_word : (b : Bool)
          → EntersNext (if b then Over (notified all 0) else At (Notify all (mutex_shown (word_at w k))
          notify.Enter)) l m → ⊥
      by_word true e = e
      by_word false e = e.2
  enters_seeing (Notify all n at) q reached still l m e =
      absurd (notifier_stays all n (next_notify all n at (reply_to w t (notify_act all k n at))) l m
      (subst (λ x. EntersNext (next_of (Notify all n at) x) l m) still e))
  enters_seeing (Wait n timed (wait.Release s at)) q reached still l m e =
      release_enters n timed s still.0 at reached l m
      (subst (λ x. EntersNext (next_of (Wait n timed (wait.Release s at)) x) l m) still.1 e)
  enters_seeing (Wait n timed at) q reached still l m e =
      absurd (calm_stays n timed at refl l m (subst (λ x. EntersNext (next_of (Wait n timed at) x) l m) still
      e))

  -- A place that stays on its way enters the section next.
  sees_entering : (at q : CondvarPlace) → IsStill at q → (l : ℕ) (m : Line) → SeesAt w at l m
      → EntersNext (next_of at q) l m
  sees_entering (Wait n timed (wait.Release s (mutex.Unlock unlock.Subtract))) q still l m sees =
      subst (λ x. EntersNext (next_of (Wait n timed (wait.Release s (mutex.Unlock unlock.Subtract))) x) l m)
      (sym still.1)
      (subst (λ b. EntersAt (Wait n timed
      (released still.0 (in_unlock (if b then At unlock.Enter else Over answer.Ok)))) l m) (sym sees.2)
      (ap Some sees.0, sees.1, tt))
  sees_entering at q still l m sees = absurd sees

-- a place of a wait that is about to enter the section says so of its call
record IsOnItsWay (k : ℕ) (at : CondvarPlace) (r : ℕ → Rights) : Type 0 where
  pub steps : outcome_of (condvar_act k at) ≡ told.Step
  pub released : (call_state (Condvar k at) r).released ≡ true
  pub looks : (l : ℕ) → LooksFirst (call_state (Condvar k at) r).purpose l → ⊥

on_its_way : (k : ℕ) (at : CondvarPlace) (r : ℕ → Rights) → IsEntering at → IsOnItsWay k at r
on_its_way k (Wait n timed (wait.Release s (mutex.Unlock unlock.Enter))) r e = record {
  steps = refl;
  released = refl;
  looks = λ l h. h;
}
on_its_way k at r e = absurd e

-- whether it has released its mutex at its next place
abbrev has_released_at : ℕ → Next CondvarPlace → (ℕ → Rights) → Bool
has_released_at k n r = (call_state (condvar_goes k n) r).released

-- the thread is about to release its mutex
abbrev IsReleasingNow : WaitAt → Type 0
IsReleasingNow (wait.Release s (mutex.Unlock unlock.Subtract)) = Unit {0}
IsReleasingNow at = ⊥

module _ (w : State) (t k n : ℕ) (timed : Bool) (r : ℕ → Rights) where
  -- only then it has released its mutex after a step before which it hadn't
  calm_unreleased : (at : WaitAt) → is_release at ≡ false → has_released at ≡ false
      → has_released_at k (next_of w t k (Wait n timed at) (Wait n timed at)) r ≡ true → ⊥
  calm_unreleased (wait.Release s at) calm before later = cc
  calm_unreleased wait.Enter calm before later = cc
  calm_unreleased wait.Show calm before later = by_word ((word_at w k == 0) || is_shown (word_at w k) n) later
    where
      by_word : (b : Bool) → has_released_at k (in_wait n timed (if b then At wait.Stand else At wait.Refuse))
          r ≡ true → ⊥
      by_word true later = cc
      by_word false later = cc
  calm_unreleased wait.Stand calm before later = cc
  calm_unreleased wait.Leave calm before later = cc
  calm_unreleased wait.Refuse calm before later = cc
  calm_unreleased at calm before later = cc

  releases_now : (at : WaitAt) (q : CondvarPlace) → IsReached (Wait n timed at) → IsStill (Wait n timed at) q
      → has_released at ≡ false → has_released_at k (next_of w t k (Wait n timed at) q) r ≡ true
      → IsReleasingNow at
  releases_now (wait.Release s (mutex.Unlock unlock.Subtract)) q reached still before later = tt
  releases_now (wait.Release s (mutex.Unlock unlock.Enter)) q reached still before later = absurd cc
  releases_now (wait.Release s (mutex.Unlock unlock.Take)) q reached still before later = absurd cc
  releases_now (wait.Release s (mutex.Unlock (unlock.Clear any))) q reached still before later = absurd cc
  releases_now (wait.Release s (mutex.Unlock (unlock.Leave any))) q reached still before later = absurd cc
  releases_now (wait.Release s at) q reached still before later = absurd reached.0
  releases_now at q reached still before later =
      absurd (calm_unreleased at refl before
      (subst (λ x. has_released_at k (next_of w t k (Wait n timed at) x) r ≡ true) still later))

-- ---------------------------------------------------------------- a step

module _ (w : State) (t k : ℕ) (at : CondvarPlace) (inductive : IsInductive w) (is : place_at w t
    ≡ Condvar k at)
    (there : t < length w.places) where
  abbrev fits : FitsCondvar w k at
  fits = fits_here w t k at inductive is

  abbrev v : State
  v = state_after_going w t (Condvar k at)

  abbrev still : (q : CondvarPlace) × (place_at (state_after_act w t (Condvar k at) (condvar_act k at)) t
      ≡ Condvar k q)
      × IsStill at q
  still = own_place w t k at is fits.reached there

  abbrev n : Next CondvarPlace
  n = next_of w t k at still.0

  goes : place_at v t ≡ condvar_goes k n
  goes = went_place w t k at is fits.reached there
      ∙ ap (condvar_goes k) (went_is w t k at is fits.reached there)

  tells : going_outcome w t (Condvar k at) ≡ outcome_of (condvar_does k n)
  tells = ap (λ p. outcome_of (next_act p (reply_to w t (condvar_act k at)))) still.1

  module _ (l : ℕ) (m : Line) where
    -- the thread's call does what it sees there
    sees_by : (o : Outcome) → SeesAt w at l m → o ≡ told.Step → (call_at v t).released ≡ true
        → ((j : ℕ) → LooksFirst (call_at v t).purpose j → ⊥)
        → SeesBy w t l m o v (call_state (Condvar k at) (rights w t))
    sees_by o sees step released looks = by_place at refl sees
      where
        by_place : (p : CondvarPlace) → at ≡ p → SeesAt w p l m
            → SeesBy w t l m o v (call_state (Condvar k p) (rights w t))
        by_place (Wait j timed (wait.Release s (mutex.Unlock unlock.Subtract))) e sees =
            let sort : sort_at w l ≡ locks.Mutex = ap (sort_at w) (sym sees.0)
            ∙ rules_beside w t k at inductive is j (ap mutex_beside e) in (
              inl (sees.0, refl),
              sym sees.1,
              subst (λ (x : Sort). tells_by x (Some (Waits k j timed)) m (word_at w l) ≡ true) (sym sort)
                  (subst (λ x. tells_of locks.Mutex x (word_at w l) ≡ true) (sym sees.1)
                  (ap (λ y. is_parked (word_at w y)) (sym sees.0) ∙ sees.2)),
              step,
              (λ only. absurd (looks l only.0)),
              λ waits. released,
            )
        by_place p e sees = absurd sees

    -- A call sees waiters exactly where its place does.
    seen_by : (o : Outcome) → SeesBy w t l m o v (call_state (Condvar k at) (rights w t)) → SeesAt w at l m
    seen_by o sees = by_place at refl sees
      where
        gave_up : (b : Bool) → (if b then Some k else None) ≡ Some l → k ≡ l
        gave_up true e = cc
        gave_up false e = absurd cc

        unshared : k ≡ l → has_readers (sort_at w l) ≡ true → ⊥
        unshared here readers = let shared : false ≡ true =
            sym (ap has_readers (ap (sort_at w) (sym here) ∙ fits.sort)) ∙ readers in cc

        by_release : (j : ℕ) (timed : Bool) (a : WaitAt) → IsReleasingNow a → j ≡ l → m ≡ Main
            → is_parked (word_at w j) ≡ true
            → SeesAt w (Wait j timed a) l m
        by_release j timed (wait.Release s (mutex.Unlock unlock.Subtract)) now here main parked =
            (here, main, parked)
        by_release j timed a now here main parked = absurd now

        by_wait : (j : ℕ) (timed : Bool) (a : WaitAt) → at ≡ Wait j timed a → j ≡ l → has_released a ≡ false
            → (call_at v t).released ≡ true → m ≡ Main → tells_of (sort_at w l) m (word_at w l) ≡ true
            → SeesAt w (Wait j timed a) l m
        by_wait j timed a e here before later main saw =
            let sort : sort_at w l ≡ locks.Mutex = ap (sort_at w) (sym here)
            ∙ rules_beside w t k at inductive is j (ap mutex_beside e) in
            let parked : is_parked (word_at w l) ≡ true =
            subst (λ (x : Sort). tells_of x Main (word_at w l) ≡ true) sort
            (subst (λ x. tells_of (sort_at w l) x (word_at w l) ≡ true) main saw) in
            by_release j timed a
            (releases_now w t k j timed (rights v t) a still.0 (subst IsReached e fits.reached)
            (subst (λ p. IsStill p still.0) e still.2) before
            (subst (λ p. has_released_at k (next_of w t k p still.0) (rights v t) ≡ true) e
            (subst (λ p. (call_state p (rights v t)).released ≡ true) goes later)))
            here main (ap (λ y. is_parked (word_at w y)) here ∙ parked)

        by_place : (p : CondvarPlace) → at ≡ p → SeesBy w t l m o v (call_state (Condvar k p) (rights w t))
            → SeesAt w p l m
        by_place (Look all) e sees = absurd (elim sees.0 [
          | inl releases ↦ releases
          | inr shared ↦
              elim shared.1 [
                | inl less ↦ less
                | inr left ↦ let none : ◌≡◌ {A = Option ℕ} None (Some l) = left.0
                    in cc
              ]
        ])
        by_place (Notify all j a) e sees =
            absurd (elim sees.0 [
              | inl releases ↦ releases
              | inr shared ↦ elim shared.1 [
                | inl less ↦ less
                | inr left ↦ let none : ◌≡◌ {A = Option ℕ} None (Some l) = left.0 in cc
              ]
            ])
        by_place (Wait j timed a) e sees = elim sees.0 [
          | inl releases ↦ by_wait j timed a e releases.0 releases.1 (sees.5 tt) (sym sees.1) sees.2
          | inr shared ↦ absurd (elim shared.1 [
            | inl less ↦ less
            | inr left ↦
                unshared (gave_up (has_given_up (Wait j timed a)) left.0) shared.0
          ])
        ]

  -- the thread owes what it is inside, and what it has seen
  pub went_owing : IsInductive v → (l : ℕ) (m : Line)
      → Owes v t l m ↔ (IsInside v t l m ⊎ SeesWaiters w t l m (going_outcome w t (Condvar k at)) v)
  went_owing afterwards l m = subst (λ o. Owes v t l m ↔ (IsInside v t l m ⊎ SeesWaiters w t l m o v))
      (sym tells)
      (by_next n refl goes)
    where
      called : (o : Outcome) → SeesBy w t l m o v (call_state (Condvar k at) (rights w t))
          → SeesWaiters w t l m o v
      called o sees = subst (λ p. SeesBy w t l m o v (call_state p (rights w t))) (sym is) sees

      calls : (o : Outcome) → SeesWaiters w t l m o v → SeesBy w t l m o v
          (call_state (Condvar k at) (rights w t))
      calls o sees = subst (λ p. SeesBy w t l m o v (call_state p (rights w t))) is sees

      by_next : (x : Next CondvarPlace) → n ≡ x → place_at v t ≡ condvar_goes k x
          → Owes v t l m ↔ (IsInside v t l m ⊎ SeesWaiters w t l m (outcome_of (condvar_does k x)) v)
      by_next (Over answer) e stands = (
        (λ h. absurd (let none : ◌≡◌ {A = Option Line} None (Some m) = subst (λ p. line_owed p l ≡ Some m)
            stands h in cc)),
        λ h. elim h [
          | inl i ↦ inside_owes_so v t afterwards l m i
          | inr sees ↦ absurd (let o : told.End answer ≡ told.Step = sees.3 in cc)
        ],
      )
      by_next (At p) e stands = (
        (λ h. elim ((two_owe v t afterwards k p stands l m).0 h) [
          | inl i ↦ inl i
          | inr enters ↦ (
              let way : IsOnItsWay k p (rights v t) = on_its_way k p (rights v t) enters.2 in
              let sees : SeesAt w at l m = enters_seeing w t k at still.0 fits.reached still.2 l m
              (subst (λ x. EntersNext x l m) (sym e) enters) in
              inr (called _ (sees_by l m (outcome_of (condvar_act k p)) sees way.steps
              (subst (λ q. (call_state q (rights v t)).released ≡ true) (sym stands) way.released)
              (λ j. subst (λ q. LooksFirst (call_state q (rights v t)).purpose j → ⊥) (sym stands)
              (way.looks j))))
              )
        ]),
        λ h. elim h [
          | inl i ↦ inside_owes_so v t afterwards l m i
          | inr sees ↦ (two_owe v t afterwards k p stands l m).1
              (inr (subst (λ x. EntersNext x l m) e (sees_entering w t k at still.0 still.2 l m
              (seen_by l m (outcome_of (condvar_act k p)) (calls _ sees)))))
        ],
      )

-- ------------------------------------------------------------- where a call begins, and where its time is up

-- a thread whose time is up has released its mutex, and enters the section of the queue where it slept
pub record GoesLate (k : ℕ) (at : CondvarPlace) : Type 0 where
  pub next : CondvarPlace
  pub goes : condvar_next at Late ≡ At next
  pub calm : IsEntering next → ⊥
  pub shut : (w : State) (t l : ℕ) (r : ℕ → Rights) → LetsBy w t l (call_state (Condvar k at) r) → ⊥

-- a wait that sleeps has released its mutex
sleeper_shut : (k j : ℕ) (timed : Bool) (s : WaiterFate) (w : State) (t l : ℕ) (r : ℕ → Rights)
    → LetsBy w t l (call_state (Condvar k (Wait j timed (wait.Asleep s))) r) → ⊥
sleeper_shut k j timed s w t l r h = elim h [
  | inl releases ↦ let released : true ≡ false = releases.1 in cc
  | inr shared ↦ elim shared.1 [
    | inl less ↦ less
    | inr left ↦ let none : ◌≡◌ {A = Option ℕ} None (Some l) =
        left.0 in cc
  ]
]

pub two_goes_late : (k : ℕ) (at : CondvarPlace) (key : ℕ) → late_key (Condvar k at) ≡ Some key → GoesLate k at
two_goes_late k (Wait j true (wait.Asleep stands.Listed)) key h = record {
  next = Wait j true wait.Remove;
  goes = refl;
  calm = λ e. e;
  shut = sleeper_shut k j true stands.Listed;
}
two_goes_late k (Wait j true (wait.Asleep stands.Moved)) key h = record {
  next = Wait j true wait.RemoveMoved;
  goes = refl;
  calm = λ e. e;
  shut = sleeper_shut k j true stands.Moved;
}
two_goes_late k (Wait j true (wait.Asleep s)) key h = absurd cc
two_goes_late k (Wait j false (wait.Asleep s)) key h = absurd cc
two_goes_late k (Wait j timed at) key h = absurd cc
two_goes_late k (Look all) key h = absurd cc
two_goes_late k (Notify all j at) key h = absurd cc

-- no call begins on its way into a section of its mutex
pub first_calm : (c : CondvarCall) → IsEntering (condvar_first c) → ⊥
first_calm (call.Wait j timed) e = e
first_calm (call.Notify all) e = e

-- a thread that lets nobody in and isn't on its way owes what it is inside
pub calm_owing : (w v : State) (t k : ℕ) (at : CondvarPlace) → IsInductive v → place_at v t ≡ Condvar k at
    → (IsEntering at → ⊥)
    → ((l : ℕ) → LetsOthersIn w t l → ⊥)
    → (l : ℕ) (m : Line) (o : Outcome) → Owes v t l m ↔ (IsInside v t l m ⊎ SeesWaiters w t l m o v)
calm_owing w v t k at afterwards is calm shut l m o = (
  (λ h. elim ((two_owe v t afterwards k at is l m).0 h) [
    | inl i ↦ inl i
    | inr enters ↦
        absurd (calm enters.2)
  ]),
  λ h. elim h [ inl i ↦ inside_owes_so v t afterwards l m i | inr sees ↦ absurd (shut l sees.0) ],
)
