-- A notification of all reaches each thread that stood there as it began.
use Rattle.std.proofs.Common.{ℕ, Bool, true, false, Option, Some, None, if◌then◌else◌, ◌==◌, ◌≡◌, ◌≢◌, ◌≤◌}
use Rattle.std.proofs.Common.{◌⊎◌, inl, inr, List, [], ◌∷◌, refl, sym, ◌∙◌, ap, subst, arith}
use Rattle.std.proofs.lemmas.Bool.{cases_eq}
use Rattle.spec_locks.specs.declared.calls.Call.{Call}
use Rattle.spec_locks.specs.declared.calls.Turn.{Turn}
use Rattle.spec_locks.specs.declared.calls.Turn.TheVariants as turn
use Rattle.spec_locks.specs.declared.calls.Step.{Step}
use Rattle.spec_locks.specs.declared.outcomes.Answer.{Answer}
use Rattle.spec_locks.specs.declared.outcomes.Answer.TheVariants as answer
use Rattle.spec_locks.specs.declared.outcomes.Outcome.{Outcome}
use Rattle.spec_locks.specs.declared.outcomes.Outcome.TheVariants as outcome
use Rattle.spec_locks.specs.Onces.{Start}
use Rattle.spec_locks.specs.Condvars.{moved_of}
use Rattle.spec_locks.specs.Locks as locks
use Rattle.spec_locks.specs.Locks.{LockState, Condvar, Mutex}
use Rattle.spec_locks.specs.Locks.{Wake, HandOff, Late}
use Rattle.spec_locks.specs.Locks.{OfOnce, OfCondvar, SeeOwner, Look, left_after}
use Rattle.spec_locks.specs.Locks.{putting, standing, times}
use Rattle.spec_locks.specs.Purposes.{MayWait, Purpose, Notifies, CondvarMemory, Blank, Saw, SawOwner}
use Rattle.spec_locks.specs.Purposes.{HasMoved}
use Rattle.spec_locks.specs.Purposes.{WasMoved, WasNotified, Waits}
use Rattle.spec_locks.specs.Runs.{LocksState, CallState, AnswerHolds, Event, AtLock, Moves, Does}
use Rattle.spec_locks.specs.Runs.{GoesOn, IsBeingEmptied, IsStep, MayDo, MayHappen, MovedNobody}
use Rattle.spec_locks.specs.Runs.{NotifiesAnswer, ShowsWaiters, Stays, Turned, after_wake, gives_up}
use Rattle.spec_locks.specs.Runs.{going_on, is_among, is_taken_by, joined_by, locks_after, rules_at}
use Rattle.spec_locks.specs.Runs.{unless_ended, woken}
use Rattle.spec_locks.specs.GuaranteeLaws.{GoesOnSo, IsToBeReached, NotificationsReach}
use Rattle.spec_locks.proofs.Guarantees.{answered, ended, made_of, recalls}
use Rattle.spec_locks.proofs.Runs.{needs_of}
use Rattle.spec_locks.proofs.Idle.{differs, ends, goes_on, other_then, own_then, same_number, stay_own}
use Rattle.spec_locks.proofs.Idle.{unless_same}

-- what it recalls: nothing yet, or the mutex with which the waiter waits
abbrev Recalled : LocksState → ℕ → ℕ → CondvarMemory → Type 0
Recalled w c t Blank = Unit {0}
Recalled w c t (Saw m) = (timed : Bool) × ((w.calls t).purpose ≡ Some (Waits c m timed))
Recalled w c t (SawOwner m b) = (timed : Bool) × ((w.calls t).purpose ≡ Some (Waits c m timed))
Recalled w c t r = ⊥

still : (w v : LocksState) (c t : ℕ) (r : CondvarMemory) → (v.calls t).purpose ≡ (w.calls t).purpose
    → Recalled w c t r → Recalled v c t r
still w v c t Blank e h = tt
still w v c t (Saw m) e h = (h.0, e ∙ h.1)
still w v c t (SawOwner m b) e h = (h.0, e ∙ h.1)
still w v c t (HasMoved m n) e h = absurd h
still w v c t WasMoved e h = absurd h
still w v c t WasNotified e h = absurd h

woken_keeps : (w : LocksState) (c t : ℕ) (r : CondvarMemory) → Recalled w c t r
    → Recalled w c t (after_wake r)
woken_keeps w c t Blank h = tt
woken_keeps w c t (Saw m) h = h
woken_keeps w c t (SawOwner m b) h = h
woken_keeps w c t (HasMoved m n) h = absurd h
woken_keeps w c t WasMoved h = absurd h
woken_keeps w c t WasNotified h = absurd h

given_up : (w : LocksState) (c t l : ℕ) (r : CondvarMemory) (call : CallState) → Recalled w c t r
    → call.recalls ≡ r
    → Recalled w c t (gives_up l r call).recalls
given_up w c t l Blank call h e = subst (Recalled w c t) (sym e) h
given_up w c t l (Saw m) call h e = subst (Recalled w c t) (sym e) h
given_up w c t l (SawOwner m b) call h e = subst (Recalled w c t) (sym e) h
given_up w c t l (HasMoved m n) call h e = absurd h
given_up w c t l WasMoved call h e = absurd h
given_up w c t l WasNotified call h e = absurd h

module _ (w v : LocksState) (c t u : ℕ) (now : IsToBeReached w c t u) (stands : 1 ≤ times t (v.locks c).queue)
  where
    shows : ShowsWaiters w c
    shows = now.safe.1.shown c now.sort

    -- the waiter isn't moved
    not_moved : (x d m : ℕ) (all owned : Bool) (n : ℕ) → MayHappen w x (Moves d m all owned n)
        → is_among u (moved_of all (w.locks d).queue) ≡ true → ⊥
    not_moved x d m all owned n may among = let waits = (may.wait u among).0 in let e : Some (Notifies c true)
        ≡ Some (Waits d m waits.0) = sym now.notifies ∙ waits.1 in cc

    -- by what any thread does
    woken_recalls : (x : ℕ) (e : Event) (call : CallState) → MayHappen w x e → Recalled w c t call.recalls
        → Recalled w c t (woken w x e u call).recalls
    woken_recalls x (AtLock l Wake) call may h = either (is_taken_by x ((w.locks l).taken u))
      where
        either : (b : Bool) → Recalled w c t (if b then record call {
          retries = Some l;
          recalls = after_wake call.recalls;
        } else call).recalls
        either true = woken_keeps w c t call.recalls h
        either false = h
    woken_recalls x (AtLock l (HandOff y z)) call may h = either (is_taken_by x ((w.locks l).taken u))
      where
        either : (b : Bool) → Recalled w c t (if b then record call {
          retries = None;
          recalls = after_wake call.recalls;
        } else call).recalls
        either true = woken_keeps w c t call.recalls h
        either false = h
    woken_recalls x (Moves d m all owned n) call may h = either (is_among u (moved_of all (w.locks d).queue))
        refl
      where
        either : (b : Bool) → is_among u (moved_of all (w.locks d).queue) ≡ b
            → Recalled w c t (if b then record call { recalls = WasMoved } else call).recalls
        either true e = absurd (not_moved x d m all owned n may e)
        either false e = h
    woken_recalls x e call may h = h

    -- by what it does itself
    seen : (l m : ℕ) → MayDo w u l (OfCondvar (Look (Some m))) (w.calls u).purpose → Recalled w c t (Saw m)
    seen l m may = by_made (made_of w u l (OfCondvar (Look (Some m))) (w.calls u).purpose (Notifies c true)
        now.notifies may) (needs_of w u l (OfCondvar (Look (Some m))) (w.calls u).purpose may)
      where
        by_made : Rattle.spec_locks.specs.Purposes.IsMadeOf (Notifies c true) (w.calls u).gave_up
            (w.calls u).released (w.calls u).recalls l (OfCondvar (Look (Some m)))
            → locks.Needs (rules_at w l) (OfCondvar (Look (Some m))) (w.locks l) u → Recalled w c t (Saw m)
        by_made (inl there) needs = shows.one t m (subst (λ k. (w.locks k).shown ≡ Some m) there.0
            (sym needs.1)) now.stands
        by_made (inr beside) needs = absurd beside

    owner_seen : (l : ℕ) (b : Bool) → MayDo w u l (SeeOwner b) (w.calls u).purpose
        → Recalled w c t (w.calls u).recalls → Recalled w c t (SawOwner l b)
    owner_seen l b may h = elim (made_of w u l (SeeOwner b) (w.calls u).purpose (Notifies c true) now.notifies
        may) [
          | inl there ↦ absurd there.1
          | inr beside ↦ subst (Recalled w c t) beside h
        ]

    -- a move takes the waiter along
    no_move : (d m : ℕ) (all owned : Bool) (n : ℕ) → MayHappen w u (Moves d m all owned n)
        → ((l : ℕ) → v.locks l ≡ locks_after w u (Moves d m all owned n) l) → ⊥
    no_move d m all owned n may locks_then = (let e : Some (Notifies c true) ≡ Some (Notifies d all) =
        sym now.notifies ∙ may.notifies in
        let same : c ≡ d = cc in let every : true ≡ all = cc in
        let apart : (c == m) ≡ false = differs c m (λ f. (let g : Condvar ≡ Mutex = sym now.sort
        ∙ ap (λ k. (rules_at w k).sort) f ∙ may.sorts.1 in cc)) in
        let here : (c == d) ≡ true = ap (λ k. c == k) (sym same) ∙ same_number c in
        let gone : (v.locks c).queue ≡ [] = ap (λ (s : LockState). s.queue) (locks_then c)
        ∙ ap (λ (b : Bool). (if b then joined_by owned u (moved_of all (w.locks d).queue) (w.locks m)
        else putting w.locks d (left_after all (w.locks d)) c).queue) apart
        ∙ ap (λ (b : Bool). (if b then left_after all (w.locks d) else w.locks c).queue) here
        ∙ ap (λ (b : Bool). (left_after b (w.locks d)).queue) (sym every) in
        let none : 1 ≤ times t [] = subst (λ q. 1 ≤ times t q) gone stands in omega arith)

    own_recalls : (e : Event) → MayHappen w u e → ((l : ℕ) → v.locks l ≡ locks_after w u e l)
        → Recalled w c t (w.calls u).recalls → Recalled w c t (going_on e (w.calls u)).recalls
    own_recalls (Moves d m all owned n) may led h = absurd (no_move d m all owned n may led)
    own_recalls (AtLock l Late) may led h = given_up w c t l (w.calls u).recalls (w.calls u) h refl
    own_recalls (AtLock l (OfCondvar (Look (Some m)))) may led h = seen l m may
    own_recalls (AtLock l (SeeOwner b)) may led h = owner_seen l b may h
    own_recalls (AtLock l (OfOnce (Start b))) may led h = h
    own_recalls e may led h = h

    -- in a step that doesn't end its call
    by_event : (x : ℕ) (o : Outcome) → (v.calls u).purpose ≢ None → GoesOn w x o v
        → Recalled w c t (w.calls u).recalls → Recalled w c t (v.calls u).recalls
    by_event x o busy g h = elim (cases_eq u x) [
      | inl e ↦ own e
      | inr ne ↦ subst (λ (k : CallState). Recalled w c t k.recalls) (sym (other_then w v x o g u ne))
          (woken_recalls x g.event (w.calls u) g.may h)
    ]
      where
        not_over : u ≡ x → (a : Answer) → o ≢ outcome.End a
        not_over e a f = busy (ap (λ (k : CallState). k.purpose) (ap v.calls e ∙ own_then w v x o g
            ∙ ap (λ p. unless_ended p (woken w x g.event x (going_on g.event (w.calls x)))) f))

        own : u ≡ x → Recalled w c t (v.calls u).recalls
        own e = subst (λ (k : CallState). Recalled w c t k.recalls) (sym (ap v.calls e ∙ own_then w v x o g
            ∙ unless_same o _ (not_over e)))
            (subst (λ k. Recalled w c t (woken w x g.event k (going_on g.event (w.calls k))).recalls) e
            (woken_recalls x g.event (going_on g.event (w.calls u)) g.may
            (own_recalls g.event (subst (λ k. MayHappen w k g.event) (sym e) g.may)
            (λ l. subst (λ k. v.locks l ≡ locks_after w k g.event l) (sym e) (g.locks l)) h)))

    by_stay : (x : ℕ) (o : Outcome) (call : CallState) → (u ≡ x → call.recalls ≡ (w.calls u).recalls)
        → Stays w x call o v → Recalled w c t (w.calls u).recalls → Recalled w c t (v.calls u).recalls
    by_stay x o call same s h = elim (cases_eq u x) [
      | inl e ↦ subst (Recalled w c t)
          (sym (ap (λ (k : CallState). k.recalls) (ap v.calls e ∙ stay_own w v x o call s) ∙ same e)) h
      | inr ne ↦ subst (λ (k : CallState). Recalled w c t k.recalls)
          (sym (s.calls u ∙ ap (λ (b : Bool). if b then call else w.calls u) (differs u x ne))) h
    ]

    by_turn : (x : ℕ) (y : Turn) (o : Outcome) → (v.calls u).purpose ≢ None
        → Rattle.spec_locks.specs.Runs.MayTurn w x y → Does w x y o v → Recalled w c t (w.calls u).recalls
        → Recalled w c t (v.calls u).recalls
    by_turn x (turn.Begin call) o busy may d h =
        by_stay x o _ (λ e. absurd (let f : ◌≡◌ {A = Option Purpose} None (Some (Notifies c true)) =
        sym may.idle ∙ ap (λ k. (w.calls k).purpose) (sym e) ∙ now.notifies in cc)) d h
    by_turn x turn.Late o busy may d h =
        by_stay x o _ (λ e. ap (λ k. (w.calls k).recalls) (sym e))
        d h
    by_turn x turn.Go o busy may d h = by_event x o busy d h
    by_turn x turn.Spin o busy may d h = by_event x o busy d.goes h
    by_turn x turn.Ok o busy may d h = by_event x o busy d.goes h
    by_turn x turn.Err o busy may d h = by_event x o busy d.goes h

-- the waiter's call goes on, while it stands there
waits_on : (w v : LocksState) (s : Step) (o : Outcome) (t c : ℕ) → IsStep w s o v
    → ((l : ℕ) → 1 ≤ standing t (w.locks l) → MayWait (w.calls t).purpose l)
    → ((l : ℕ) → 1 ≤ standing t (v.locks l) → MayWait (v.calls t).purpose l)
    → 1 ≤ times t (w.locks c).queue → 1 ≤ times t (v.locks c).queue → (v.calls t).purpose
    ≡ (w.calls t).purpose
waits_on w v s o t c step before now stood stands = by_turn (cases_eq t s.thread)
  where
    called : (w.calls t).purpose ≢ None
    called e = subst (λ p. MayWait p c) e (before c (omega arith))

    called_then : (v.calls t).purpose ≢ None
    called_then e = subst (λ p. MayWait p c) e (now c (omega arith))

    going : t ≡ s.thread → (x : Turn) → ((call : Call) → x ≢ turn.Begin call) → x
        ≢ turn.Late → s.turn ≡ x → (v.calls t).purpose ≡ (w.calls t).purpose
    going e x not_begin not_late is = (goes_on w v s o step.1 t (λ f. (
      (λ call g. not_begin call (sym is ∙ g)),
      (λ g. not_late (sym is ∙ g)),
      (λ a g. called_then (ap (λ (k : CallState). k.purpose) (ap v.calls e ∙ ends w v s o step.1 a g))),
    ))).purpose

    under : t ≡ s.thread → (x : Turn) → s.turn ≡ x → Turned w s.thread x o v → (v.calls t).purpose
        ≡ (w.calls t).purpose
    under e (turn.Begin call) is (inl d) =
        absurd (called (ap (λ k. (w.calls k).purpose) e ∙ d.0.idle))
    under e turn.Late is (inl d) = ap (λ (k : CallState). k.purpose) (ap v.calls e
        ∙ stay_own w v s.thread o _ d.1) ∙ ap (λ k. (w.calls k).purpose) (sym e)
    under e turn.Go is (inl d) = going e turn.Go (λ call g. cc) (λ g. cc) is
    under e turn.Spin is (inl d) = going e turn.Spin (λ call g. cc) (λ g. cc) is
    under e turn.Ok is (inl d) = going e turn.Ok (λ call g. cc) (λ g. cc) is
    under e turn.Err is (inl d) = going e turn.Err (λ call g. cc) (λ g. cc) is
    under e x is (inr r) = ap (λ (k : LocksState). (k.calls t).purpose) r.1.1

    by_turn : (t ≡ s.thread) ⊎ (t ≢ s.thread) → (v.calls t).purpose ≡ (w.calls t).purpose
    by_turn (inl e) = under e s.turn refl step.1
    by_turn (inr ne) = (goes_on w v s o step.1 t (λ e. absurd (ne e))).purpose

-- ---------------------------------------------------------------- a run

module _ (c t u : ℕ) where
  -- one step
  recalls_on : (w x : LocksState) (s : Step) (o : Outcome) → IsToBeReached w c t u → IsToBeReached x c t u
      → IsStep w s o x → Recalled w c t (w.calls u).recalls → Recalled x c t (x.calls u).recalls
  recalls_on w x s o now later step h =
      still w x c t (x.calls u).recalls (waits_on w x s o t c step (now.safe.1.waiting t)
      (later.safe.1.waiting t) now.stands later.stands) (turned step.1)
    where
      busy : (x.calls u).purpose ≢ None
      busy e = let f : ◌≡◌ {A = Option Purpose} None (Some (Notifies c true)) = sym e ∙ later.notifies in cc

      turned : Turned w s.thread s.turn o x → Recalled w c t (x.calls u).recalls
      turned (inl d) = by_turn w x c t u now later.stands s.thread s.turn o busy d.0 d.1 h
      turned (inr r) = subst (λ (k : LocksState). Recalled w c t (k.calls u).recalls) (sym r.1.1) h

  run_recalls : (ss : List Step) (os : List Outcome) (w v : LocksState) → IsToBeReached w c t u
      → Recalled w c t (w.calls u).recalls → GoesOnSo c t u w ss os v
      → IsToBeReached v c t u × Recalled v c t (v.calls u).recalls
  run_recalls [] [] w v now h run = subst (λ (k : LocksState). IsToBeReached k c t u
      × Recalled k c t (k.calls u).recalls) (sym run) (now, h)
  run_recalls (s ∷ ss) (o ∷ os) w v now h run = run_recalls ss os run.0 v run.2
      (recalls_on w run.0 s o now run.2 run.1 h) run.3
  run_recalls [] (o ∷ os) w v now h run = absurd run
  run_recalls (s ∷ ss) [] w v now h run = absurd run

  -- the answer of the notification
  module _ (v z : LocksState) (now : IsToBeReached v c t u) (shows : ShowsWaiters z c) (stands : 1
      ≤ times t (z.locks c).queue) (waits : (z.calls t).purpose ≡ (v.calls t).purpose) where
    none_shown : (z.locks c).shown ≡ None → IsBeingEmptied z c
    none_shown e = elim (shows.none e) [
      | inl empty ↦ absurd (let some : 1 ≤ times t [] = subst (λ q. 1 ≤ times t q) empty stands
          in omega arith)
      | inr emptied ↦ emptied
    ]

    by_recalls : (r : CondvarMemory) → Recalled v c t r → MovedNobody (z.locks c) r → IsBeingEmptied z c
    by_recalls Blank h moved = none_shown moved
    by_recalls (Saw m) h moved = by_shown (z.locks c).shown refl
      where
        by_shown : (o : Option ℕ) → (z.locks c).shown ≡ o → IsBeingEmptied z c
        by_shown None e = none_shown e
        by_shown (Some k) e = absurd (let waiting = shows.one t k e stands in
            let same : Some (Waits c m h.0) ≡ Some (Waits c k waiting.0) = sym h.1 ∙ sym waits ∙ waiting.1 in
            let f : k ≡ m = cc in moved (e ∙ ap Some f))
    by_recalls (SawOwner m b) h moved = absurd moved
    by_recalls (HasMoved m n) h moved = absurd h
    by_recalls WasMoved h moved = absurd h
    by_recalls WasNotified h moved = absurd h

    by_answer : (call : CallState) (a : Answer) → Recalled v c t call.recalls
        → NotifiesAnswer z u call c true a → IsBeingEmptied z c
    by_answer call (answer.Number n) h (inl holds) = by_recalls call.recalls h holds.1
    by_answer call (answer.Number n) h (inr holds) = absurd (subst (Recalled v c t) holds.1.1 h)
    by_answer call a h holds = absurd holds

pub notifications_reach : NotificationsReach
notifications_reach c t u w v z ss os s a now blank run is step sort stands safe =
    let there = run_recalls c t u ss os w v now (subst (Recalled w c t) (sym blank) tt) run in
    let g : GoesOn v u (outcome.End a) z = subst (λ k. GoesOn v k (outcome.End a) z)
    is (ended v z s.thread (outcome.End a) s.turn a refl step.1) in
    let kept = recalls v z u g.event g.may in
    let holds : AnswerHolds (Some (Notifies c true)) z u (going_on g.event (v.calls u)) a =
    subst (λ p. AnswerHolds p z u (going_on g.event (v.calls u)) a) (kept.purpose ∙ there.0.notifies)
    (answered v z u (outcome.End a) a refl g) in
    by_answer c t u v z there.0 (safe.1.shown c sort) stands (waits_on v z s (outcome.End a) t c
    step (there.0.safe.1.waiting t) (safe.1.waiting t) there.0.stands stands)
    (going_on g.event (v.calls u)) a (own_recalls v z c t u there.0 stands g.event g.may g.locks there.1)
    holds
