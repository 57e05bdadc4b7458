-- Calls go on as they were.
use Rattle.std.proofs.Common.{ℕ, Bool, true, false, Option, Some, None, if◌then◌else◌, ◌==◌, ◌≡◌, ◌≢◌, inl}
use Rattle.std.proofs.Common.{inr, refl, sym, ◌∙◌, ap, subst, arith}
use Rattle.std.proofs.lemmas.Bool.{cases_eq}
use Rattle.std.proofs.lemmas.Bool.Decides.{nat_tests}
use Rattle.spec_locks.specs.declared.calls.Call.{Call}
use Rattle.spec_locks.specs.declared.calls.Turn.{Turn}
use Rattle.spec_locks.specs.declared.calls.Turn.TheVariants as turn
use Rattle.spec_locks.specs.declared.calls.Step.{Step}
use Rattle.spec_locks.specs.declared.outcomes.Answer.{Answer}
use Rattle.spec_locks.specs.declared.outcomes.Outcome.{Outcome}
use Rattle.spec_locks.specs.declared.outcomes.Outcome.TheVariants as outcome
use Rattle.spec_locks.specs.Onces.{Start}
use Rattle.spec_locks.specs.Condvars.{moved_of}
use Rattle.spec_locks.specs.Locks.{LockCase, Leave, Wake, HandOff, Late, OfOnce, OfCondvar, Look}
use Rattle.spec_locks.specs.Purposes.{Purpose, CondvarMemory, Blank, Saw, SawOwner, HasMoved, WasMoved}
use Rattle.spec_locks.specs.Purposes.{WasNotified}
use Rattle.spec_locks.specs.Runs.{LocksState, CallState, Event, AtLock, Moves, Does}
use Rattle.spec_locks.specs.Runs.{GoesOn, MayDo, MayHappen, Stays, Turned, gives_up, going_on}
use Rattle.spec_locks.specs.Runs.{is_among, is_taken_by, new_call, no_call}
use Rattle.spec_locks.specs.Runs.{purpose_at, rights_in, unless_ended, woken}
use Rattle.spec_locks.specs.EachStep.{CallGoesOn, IsUnderWay}

-- ---------------------------------------------------------------- the memory of a call

timely_of : (w : LocksState) (t l : ℕ) (case : LockCase) (o : Option Purpose) → MayDo w t l case o
    → Rattle.spec_locks.specs.Runs.IsTimely (w.calls t).late case
timely_of w t l case None may = absurd may
timely_of w t l case (Some p) may = may.2

call_same : (c d : CallState) → d.purpose ≡ c.purpose → d.former ≡ c.former → d.gave_up ≡ c.gave_up
    → (d.late ≡ true → c.late ≡ true) → (c.released ≡ true → d.released ≡ true) → CallGoesOn c d
call_same c d e f g h i = record { purpose = e; former = f; gave_up = inl g; late = h; released = i }

call_stays : (c : CallState) → CallGoesOn c c
call_stays c = call_same c c refl refl refl (λ h. h) (λ h. h)

call_then : (c d e : CallState) → CallGoesOn c d → d.gave_up ≡ e.gave_up → CallGoesOn d e → CallGoesOn c e
call_then c d e a same b = record {
  purpose = b.purpose ∙ a.purpose;
  former = b.former ∙ a.former;
  gave_up = elim a.gave_up [ inl h ↦ inl (sym same ∙ h) | inr h ↦ inr h ];
  late = λ h. a.late (b.late h);
  released = λ h. b.released (a.released h);
}

-- by another thread's step
pub woken_goes : (w : LocksState) (t : ℕ) (e : Event) (u : ℕ) (c : CallState) → CallGoesOn c (woken w t e u c)
    × ((woken w t e u c).gave_up ≡ c.gave_up)
woken_goes w t (AtLock l Wake) u c = either (is_taken_by t ((w.locks l).taken u))
  where
    either : (b : Bool) → CallGoesOn c (if b then record c {
      retries = Some l;
      recalls = Rattle.spec_locks.specs.Runs.after_wake c.recalls;
    } else c)
        × ((if b then record c {
          retries = Some l;
          recalls = Rattle.spec_locks.specs.Runs.after_wake c.recalls;
        } else c).gave_up ≡ c.gave_up)
    either true = (call_same c _ refl refl refl (λ h. h) (λ h. h), refl)
    either false = (call_stays c, refl)
woken_goes w t (AtLock l (HandOff x y)) u c = either (is_taken_by t ((w.locks l).taken u))
  where
    either : (b : Bool) → CallGoesOn c (if b then record c {
      retries = None;
      recalls = Rattle.spec_locks.specs.Runs.after_wake c.recalls;
    } else c)
        × ((if b then record c {
          retries = None;
          recalls = Rattle.spec_locks.specs.Runs.after_wake c.recalls;
        } else c).gave_up ≡ c.gave_up)
    either true = (call_same c _ refl refl refl (λ h. h) (λ h. h), refl)
    either false = (call_stays c, refl)
woken_goes w t (Moves l m all owned n) u c = either (is_among u (moved_of all (w.locks l).queue))
  where
    either : (b : Bool) → CallGoesOn c (if b then record c { recalls = WasMoved } else c)
        × ((if b then record c { recalls = WasMoved } else c).gave_up ≡ c.gave_up)
    either true = (call_same c _ refl refl refl (λ h. h) (λ h. h), refl)
    either false = (call_stays c, refl)
woken_goes w t e u c = (call_stays c, refl)

-- by its own
gives_up_goes : (l : ℕ) (r : CondvarMemory) (c : CallState) → c.late ≡ true → CallGoesOn c (gives_up l r c)
gives_up_goes l WasMoved c late = record {
  purpose = refl;
  former = refl;
  gave_up = inl refl;
  late = λ h. late;
  released = λ h. h;
}
gives_up_goes l Blank c late = record {
  purpose = refl;
  former = refl;
  gave_up = inr late;
  late = λ h. h;
  released = λ h. h;
}
gives_up_goes l (Saw m) c late = record {
  purpose = refl;
  former = refl;
  gave_up = inr late;
  late = λ h. h;
  released = λ h. h;
}
gives_up_goes l (SawOwner m b) c late = record {
  purpose = refl;
  former = refl;
  gave_up = inr late;
  late = λ h. h;
  released = λ h. h;
}
gives_up_goes l (HasMoved m n) c late = record {
  purpose = refl;
  former = refl;
  gave_up = inr late;
  late = λ h. h;
  released = λ h. h;
}
gives_up_goes l WasNotified c late = record {
  purpose = refl;
  former = refl;
  gave_up = inr late;
  late = λ h. h;
  released = λ h. h;
}

pub going_goes : (w : LocksState) (t : ℕ) (e : Event) → MayHappen w t e → CallGoesOn (w.calls t)
    (going_on e (w.calls t))
going_goes w t (AtLock l Late) may = gives_up_goes l (w.calls t).recalls (w.calls t)
    (timely_of w t l Late (w.calls t).purpose may)
going_goes w t (AtLock l (OfCondvar (Look (Some m)))) may =
    call_same (w.calls t) _ refl refl refl (λ h. h) (λ h. h)
going_goes w t (AtLock l (OfOnce (Start b))) may = call_same (w.calls t) _ refl refl refl (λ h. h) (λ h. refl)
going_goes w t (AtLock l (Leave x)) may = call_same (w.calls t) _ refl refl refl (λ h. h) (λ h. refl)
going_goes w t (AtLock l (HandOff x y)) may = call_same (w.calls t) _ refl refl refl (λ h. h) (λ h. refl)
going_goes w t e may = call_same (w.calls t) (going_on e (w.calls t)) refl refl refl (λ h. h) (λ h. h)

-- ---------------------------------------------------------------- a step, by its calls

pub same_number : (k : ℕ) → (k == k) ≡ true
same_number k = grind (arith, nat_tests)

pub differs : (k n : ℕ) → k ≢ n → (k == n) ≡ false
differs k n ne = grind (arith, nat_tests)

pub unless_same : (o : Outcome) (c : CallState) → ((a : Answer) → o ≢ outcome.End a)
    → unless_ended o c ≡ c
unless_same (outcome.End a) c n = absurd (n a refl)
unless_same outcome.NotNow c n = refl
unless_same outcome.Step c n = refl
unless_same outcome.Sleep c n = refl
unless_same (outcome.Closure state) c n = refl

module _ (w v : LocksState) (t : ℕ) (o : Outcome) where
  pub own_then : (g : GoesOn w t o v) → v.calls t ≡ unless_ended o
      (woken w t g.event t (going_on g.event (w.calls t)))
  own_then g = g.calls t ∙ ap (λ (b : Bool). if b then unless_ended o
      (woken w t g.event t (going_on g.event (w.calls t))) else woken w t g.event t (w.calls t))
      (same_number t)

  pub other_then : (g : GoesOn w t o v) (u : ℕ) → u ≢ t → v.calls u ≡ woken w t g.event u (w.calls u)
  other_then g u ne = g.calls u
      ∙ ap (λ (b : Bool). if b then unless_ended o (woken w t g.event t (going_on g.event (w.calls t)))
      else woken w t g.event u (w.calls u)) (differs u t ne)

  event_ends : (g : GoesOn w t o v) (a : Answer) → o ≡ outcome.End a → v.calls t ≡ no_call
  event_ends g a e = own_then g
      ∙ ap (λ x. unless_ended x (woken w t g.event t (going_on g.event (w.calls t)))) e

  event_goes : (g : GoesOn w t o v) (u : ℕ) → (u ≡ t → (a : Answer) → o ≢ outcome.End a)
      → CallGoesOn (w.calls u) (v.calls u)
  event_goes g u under = elim (cases_eq u t) [
    | inl e ↦ subst (λ k. CallGoesOn (w.calls k) (v.calls k)) (sym e) (own (under e))
    | inr ne ↦ subst (CallGoesOn (w.calls u)) (sym (other_then g u ne)) (woken_goes w t g.event u
        (w.calls u)).0
  ]
    where
      own : ((a : Answer) → o ≢ outcome.End a) → CallGoesOn (w.calls t) (v.calls t)
      own n = let afterwards = woken_goes w t g.event t (going_on g.event (w.calls t)) in
          subst (CallGoesOn (w.calls t)) (sym (own_then g ∙ unless_same o _ n))
          (call_then (w.calls t) (going_on g.event (w.calls t))
          (woken w t g.event t (going_on g.event (w.calls t))) (going_goes w t g.event g.may)
          (sym afterwards.1) afterwards.0)

  stay_goes : (c : CallState) → Stays w t c o v → (u : ℕ) → u ≢ t → CallGoesOn (w.calls u) (v.calls u)
  stay_goes c s u ne = subst (CallGoesOn (w.calls u))
      (sym (s.calls u ∙ ap (λ (b : Bool). if b then c else w.calls u) (differs u t ne)))
      (call_stays (w.calls u))

  pub stay_own : (c : CallState) → Stays w t c o v → v.calls t ≡ c
  stay_own c s = s.calls t ∙ ap (λ (b : Bool). if b then c else w.calls t) (same_number t)

module _ (w v : LocksState) (s : Step) (o : Outcome) where
  not_ended : o ≡ outcome.Step → (a : Answer) → o ≢ outcome.End a
  not_ended e a f = let g : outcome.Step ≡ outcome.End a = sym e ∙ f in cc

  does_begin : (x : Turn) (c : Call) → x ≡ turn.Begin c → Does w s.thread x o v → v.calls s.thread
      ≡ new_call (purpose_at w c) (rights_in w s.thread)
  does_begin (turn.Begin d) c e does = let same : d ≡ c = cc
      in subst (λ y. v.calls s.thread ≡ new_call (purpose_at w y) (rights_in w s.thread)) same
      (stay_own w v s.thread o _ does)
  does_begin x c e does = absurd cc

  does_late : (x : Turn) → x ≡ turn.Late → Does w s.thread x o v → v.calls s.thread
      ≡ record (w.calls s.thread) { late = true }
  does_late turn.Late e does = stay_own w v s.thread o _ does
  does_late x e does = absurd cc

  does_end : (x : Turn) (a : Answer) → o ≡ outcome.End a → Does w s.thread x o v
      → v.calls s.thread ≡ no_call
  does_end (turn.Begin c) a e does = absurd (not_ended does.told a e)
  does_end turn.Late a e does = absurd (not_ended does.told a e)
  does_end turn.Go a e does = event_ends w v s.thread o does a e
  does_end turn.Spin a e does = event_ends w v s.thread o does.goes a e
  does_end turn.Ok a e does = event_ends w v s.thread o does.goes a e
  does_end turn.Err a e does = event_ends w v s.thread o does.goes a e

  does_go_on : (x : Turn) (u : ℕ) → (u ≡ s.thread → ((c : Call) → x ≢ turn.Begin c)
      × (x ≢ turn.Late) × ((a : Answer) → o ≢ outcome.End a)) → Does w s.thread x o v
      → CallGoesOn (w.calls u) (v.calls u)
  does_go_on (turn.Begin c) u under does = stay_goes w v s.thread o _ does u
      (λ e. (under e).0 c refl)
  does_go_on turn.Late u under does = stay_goes w v s.thread o _ does u (λ e. (under e).1 refl)
  does_go_on turn.Go u under does = event_goes w v s.thread o does u (λ e. (under e).2)
  does_go_on turn.Spin u under does = event_goes w v s.thread o does.goes u (λ e. (under e).2)
  does_go_on turn.Ok u under does = event_goes w v s.thread o does.goes u (λ e. (under e).2)
  does_go_on turn.Err u under does = event_goes w v s.thread o does.goes u (λ e. (under e).2)

  module _ (turned : Turned w s.thread s.turn o v) where
    pub begins : (c : Call) → s.turn ≡ turn.Begin c → o ≢ outcome.NotNow
        → v.calls s.thread ≡ new_call (purpose_at w c) (rights_in w s.thread)
    begins c e told = elim turned [ inl d ↦ does_begin s.turn c e d.1 | inr r ↦ absurd (told r.1.0) ]

    pub is_late : s.turn ≡ turn.Late → o ≢ outcome.NotNow → v.calls s.thread
        ≡ record (w.calls s.thread) { late = true }
    is_late e told = elim turned [ inl d ↦ does_late s.turn e d.1 | inr r ↦ absurd (told r.1.0) ]

    pub ends : (a : Answer) → o ≡ outcome.End a → v.calls s.thread ≡ no_call
    ends a e = elim turned [
      | inl d ↦ does_end s.turn a e d.1
      | inr r ↦
          absurd (let f : outcome.NotNow ≡ outcome.End a = sym r.1.0 ∙ e in cc)
    ]

    pub goes_on : (u : ℕ) → (u ≡ s.thread → IsUnderWay s o) → CallGoesOn (w.calls u) (v.calls u)
    goes_on u under = elim turned [
      | inl d ↦ does_go_on s.turn u under d.1
      | inr r ↦ subst (λ (k : LocksState). CallGoesOn (w.calls u) (k.calls u)) (sym r.1.1)
          (call_stays (w.calls u))
    ]
