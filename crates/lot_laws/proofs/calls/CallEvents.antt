-- A step of a thread is one event of the abstract locks, whatever lock it calls and wherever it stands: the
-- one case of its deeds. Its call comes to what its rows say.
use Rattle.lot_laws.proofs.Imports
use Imports.{ℕ, Bool, true, false, Option, Some, None, if◌then◌else◌, ◌==◌, ◌≡◌, ◌≢◌, ◌⊎◌, ◌≤◌, List, [], ◌∷◌}
use Imports.{◌++◌, inl, inr, refl, sym, ◌∙◌, ap, subst, arith, line_of, moved_of, taken_of, Nothing, Moves}
use Imports.{gives_up, joined_by, KnowsRights, OfOnce, Sort, CondvarCase, Hide, Enters, Releases, Converts}
use Imports.{Bumps, CallsOnce, Awaits, lock_for, CondvarMemory, Blank, Saw, SawOwner, HasMoved, WasMoved}
use Imports.{WasNotified}
use Imports.{Waits, Notifies, is_closure, Begins, cases_eq, eqb-true, nat_tests, Want, Answer, Outcome, Next}
use Imports.{Profile, call_by, MayCome, ComesTo, rights_where, called_lock, profile, Place, Idle, Purpose}
use Imports.{IsMadeOf, rules_of, InProgress, OnceCase, Start, Finish, Fail, Rest, TakeAll, OnceState, LockState}
use Imports.{Rules, Rights, LockCase, HandOff, HasTakenNobody, Queued, Needs, left_after, putting, rights_of}
use Imports.{standing, LocksState, IsTimely, rules_at as locks_rules, CallState, Event, AtLock, MayHappen}
use Imports.{Agrees, AnswerHolds, GoesOn, locks_after, going_on, woken, unless_ended, Site, Deed, Begin, Bring}
use Imports.{Send, after_deed, AreOneCase, case_of, event_by, event_of, EventNeeds, after_event, deeds_lead}
use Imports.{deeds_need, others_keep, State, place_at, kind_at, lock_state, call_at, call_state, locks_of, acts}
use Imports.{FollowAll, IsInductive, Goes, ActsNeeded, rules_in, after_acts, site_of}
use Rattle.spec_locks.specs.Locks.{Once, Look, Show}
use Rattle.spec_locks.specs.declared.outcomes.Outcome.TheVariants as outcome
use Rattle.steps_base.specs.declared.acts.Next.TheVariants as next
use Rattle.spec_locks.specs.Locks as locks
use Rattle.spec_locks.specs.Deeds as deeds
use Rattle.lot_laws.specs.ThreadDeeds.{Act}
use Rattle.lot_laws.proofs.sites.ActsKept.{goes_inductive}
use Rattle.lot_laws.proofs.machine.AtPlaces.{taken_nobody}
use Rattle.lot_laws.proofs.machine.Parts.{IsSingle, put_here, put_other}
use Rattle.lot_laws.proofs.calls.SingleCalls.{call_here}
use Rattle.lot_laws.proofs.hands.OwnHand.{own_hand}

-- ---------------------------------------------------------------- functions with one value set

pub put_is : {A : Type 0} (f : ℕ → A) (t : ℕ) (x : A) (u : ℕ) (y : A) → (u ≡ t → y ≡ x) → (u ≢ t → y ≡ f u)
    → y ≡ putting f t x u
put_is f t x u y here other = either (u == t) refl
  where
    either : (b : Bool) → (u == t) ≡ b → y ≡ (if b then x else f u)
    either true e = here (eqb-true u t e)
    either false e = other (λ s. grind (arith, nat_tests))

unequal : (u t : ℕ) → (u == t) ≡ false → u ≢ t
unequal u t h e = grind (arith, nat_tests)

either_is : {A : Type 0} (b : Bool) (y x z : A) → (b ≡ true → y ≡ x) → (b ≡ false → y ≡ z) → y
    ≡ (if b then x else z)
either_is true y x z h k = h refl
either_is false y x z h k = k refl

-- tells what a thread owns of each lock
abbrev pub rights : State → ℕ → ℕ → Rights
rights w t l = rights_of (lock_state w l) t

-- ---------------------------------------------------------------- the effects on the locks

-- tells what an event needs of its lock; of a notification's move the call says it
abbrev pub Allows : State → ℕ → Event → Type 0
Allows w t Nothing = Unit {0}
Allows w t (AtLock l case) = Needs (rules_in w l) case (lock_state w l) t
Allows w t (Moves c m all owned number) = Unit {0}

-- the locks go through an event of t that they allow
pub record IsEvent (w v : State) (t : ℕ) (e : Event) : Type 0 where
  pub led : (k : ℕ) → lock_state v k ≡ locks_after (locks_of w) t e k
  pub needs : Allows w t e
  pub kinds : (k : ℕ) → kind_at v k ≡ kind_at w k
  pub before : IsInductive w
  pub after : IsInductive v

-- one lock alone goes through it
pub happens_at : (w v : State) (t l : ℕ) (c : Option LockCase) → IsInductive w → IsInductive v
    → ((k : ℕ) → kind_at v k ≡ kind_at w k)
    → lock_state v l ≡ after_event (rules_in w l) (event_by l c) (lock_state w l) t
    → ((k : ℕ) → k ≢ l → lock_state v k ≡ lock_state w k)
    → EventNeeds (rules_in w l) (event_by l c) (lock_state w l) t → IsEvent w v t (event_by l c)
happens_at w v t l None before after kinds here other needs =
    record {
      led = λ k. elim (cases_eq k l) [ inl e ↦ rw e here | inr ne ↦ other k ne ];
      needs = tt;
      kinds = kinds;
      before = before;
      after = after;
    }
happens_at w v t l (Some case) before after kinds here other needs =
    record {
      led = λ k. put_is (lock_state w) l _ k (lock_state v k) (λ e. rw e here) (λ ne. other k ne);
      needs = needs;
      kinds = kinds;
      before = before;
      after = after;
    }

-- An event moves waiters from one lock to another.
pub happens_moving : (w v : State) (t c m : ℕ) (all owned : Bool) (number : ℕ) → IsInductive w → IsInductive v
    → ((k : ℕ) → kind_at v k ≡ kind_at w k)
    → c ≢ m → lock_state v c ≡ left_after all (lock_state w c)
    → lock_state v m ≡ joined_by owned t (moved_of all (lock_state w c).queue) (lock_state w m)
    → ((k : ℕ) → k ≢ c → k ≢ m → lock_state v k ≡ lock_state w k) → IsEvent w v t (Moves c m all owned number)
happens_moving w v t c m all owned number before after kinds apart left joined other = record {
  led = λ k. put_is (putting (lock_state w) c (left_after all (lock_state w c))) m _ k (lock_state v k)
      (λ e. rw e joined) (λ nm. put_is (lock_state w) c _ k (lock_state v k) (λ e. rw e left)
      (λ nc. other k nc nm));
  needs = tt;
  kinds = kinds;
  before = before;
  after = after;
}

-- each thread that is handed the lock claims it
abbrev pub IsClaim : Deed → Type 0
IsClaim (Begin claims) = Unit {0}
IsClaim deed = ⊥

abbrev pub AreClaims : List Act → Type 0
AreClaims [] = Unit {0}
AreClaims (a ∷ more) = IsClaim a.deed × AreClaims more

module _ (r : Rules) where
  claims_keep : (claims : List Act) (s : Site) → AreClaims claims → (after_acts r claims s).lock ≡ s.lock
  claims_keep [] s h = refl
  claims_keep (a ∷ more) s h = claims_keep more (after_deed r a.deed s a.by) h.1 ∙ claim_keeps a.deed h.0
    where
      claim_keeps : (d : Deed) → IsClaim d → (after_deed r d s a.by).lock ≡ s.lock
      claim_keeps (Begin c) h = refl
      claim_keeps d h = absurd h

  deeds_then : (t : ℕ) (ds : List Deed) (claims : List Act) (s : Site) → AreClaims claims
      → (after_acts r (acts t ds ++ claims) s).lock ≡ (deeds.after_all r ds s t).lock
  deeds_then t [] claims s h = claims_keep claims s h
  deeds_then t (d ∷ ds) claims s h = deeds_then t ds claims (after_deed r d s t) h

  pub deeds_by : (t : ℕ) (ds : List Deed) (s : Site) → (after_acts r (acts t ds) s).lock
      ≡ (deeds.after_all r ds s t).lock
  deeds_by t [] s = refl
  deeds_by t (d ∷ ds) s = deeds_by t ds (after_deed r d s t)

  pub needed_then : (t : ℕ) (ds : List Deed) (claims : List Act) (s : Site)
      → ActsNeeded r (acts t ds ++ claims) s
      → deeds.AllNeeded r ds s t
  needed_then t [] claims s n = tt
  needed_then t (d ∷ ds) claims s n = (n.0, needed_then t ds claims (after_deed r d s t) n.1)

-- the event of deeds that a lock has been through
pub happens : (w v : State) (t l : ℕ) (hand : Option Bool) (ds : List Deed) (claims : List Act)
    → IsInductive w
    → Goes w v l (acts t ds ++ claims) → AreClaims claims → AreOneCase ds
    → (hand ≢ Some false → HasTakenNobody (lock_state w l) t) → IsEvent w v t (event_of l hand ds)
happens w v t l hand ds claims inductive goes begin one free = happens_at w v t l (case_of hand ds) inductive
    (goes_inductive w v l (acts t ds ++ claims) inductive goes) goes.follows.kinds
    (ap (λ (s : Site). s.lock) goes.follows.site ∙ deeds_then (rules_in w l) t ds claims (site_of w l) begin
    ∙ deeds_lead (rules_in w l) t l hand ds (site_of w l) free one)
    (λ k ne. ap (λ (s : Site). s.lock) (goes.follows.others k ne).0)
    (deeds_need (rules_in w l) t l hand ds (site_of w l) (needed_then (rules_in w l) t ds claims (site_of w l)
    goes.follows.needed) one)

-- An event says which waiters of one lock go to the other.
pub happens_sending : (w v : State) (t c m : ℕ) (all owned : Bool) (number : ℕ) (ds : ℕ → List Act)
    → IsInductive w → IsInductive v
    → FollowAll w v ds → c ≢ m
    → ds c ≡ acts t (Send all ∷ [])
    → ds m
    ≡ acts t
    (Bring (taken_of owned (moved_of all (lock_state w c).queue))
    (line_of owned (moved_of all (lock_state w c).queue)) ∷ [])
    → ((k : ℕ) → k ≢ c → k ≢ m → ds k ≡ []) → IsEvent w v t (Moves c m all owned number)
happens_sending w v t c m all owned number ds before after f apart sent brought others =
    happens_moving w v t c m all owned number before after f.kinds apart
    (locks_led c ∙ ap (λ done. (after_acts (rules_in w c) done (site_of w c)).lock) sent)
    (locks_led m ∙ ap (λ done. (after_acts (rules_in w m) done (site_of w m)).lock) brought)
    (λ k nc nm. locks_led k ∙ ap (λ done. (after_acts (rules_in w k) done (site_of w k)).lock)
    (others k nc nm))
  where
    locks_led : (k : ℕ) → lock_state v k ≡ (after_acts (rules_in w k) (ds k) (site_of w k)).lock
    locks_led k = ap (λ (s : Site). s.lock) (f.site k)

-- ---------------------------------------------------------------- the calls

-- the thread is told of a step; that it sleeps, where it stands about the lock; or of its closure, where its
-- run is on
abbrev pub GoesAs : State → ℕ → ℕ → Outcome → Type 0
GoesAs v t l o =
    (o ≡ outcome.Step)
    ⊎ (((o ≡ outcome.Sleep) × (1 ≤ standing t (lock_state v l)))
    ⊎ ((state : OnceState) × (o ≡ outcome.Closure state)
    × ((lock_state v l).phase ≡ InProgress t)))

-- the call of a thread goes on by an event as its rows say, or it has ended
abbrev pub LeadsTo : State → ℕ → ℕ → Next Profile → Outcome → Type 0
LeadsTo v t l (next.At row) o = (called_lock (place_at v t) ≡ Some l) × (profile (place_at v t) ≡ row)
    × GoesAs v t l o × IsSingle (place_at v t)
LeadsTo v t l (next.End a) o = (place_at v t ≡ Idle) × (o ≡ outcome.End a)

-- the calls of the other threads become what an event makes of them
abbrev pub OthersFollow : State → State → ℕ → Event → Type 0
OthersFollow w v t e = (u : ℕ) → u ≢ t → call_state (place_at v u) (rights v u) ≡ woken (locks_of w) t e u
    (call_state (place_at w u) (rights w u))

-- All other locks keep their owners and queues.
abbrev pub Others : State → State → ℕ → Event → Type 0
Others w v t e = (u : ℕ) → u ≢ t → (r : ℕ → Rights) → call_state (place_at v u) r ≡ woken (locks_of w) t e u
    (call_state (place_at w u) r)

-- an event leaves what a call is for
same_purpose : (e : Event) (x : CallState) → (going_on e x).purpose ≡ x.purpose
same_purpose Nothing x = refl
same_purpose (Moves c m all owned number) x = refl
same_purpose (AtLock l case) x = by_case case
  where
    by_case : (case : LockCase) → (going_on (AtLock l case) x).purpose ≡ x.purpose
    by_case locks.Late = late_purpose x.recalls
      where
        late_purpose : (recalls : CondvarMemory) → (gives_up l recalls x).purpose ≡ x.purpose
        late_purpose Blank = refl
        late_purpose (Saw m) = refl
        late_purpose (SawOwner m owned) = refl
        late_purpose (HasMoved m number) = refl
        late_purpose WasMoved = refl
        late_purpose WasNotified = refl
    by_case (locks.OfCondvar case) = by_condvar case
      where
        by_condvar : (case : CondvarCase) → (going_on (AtLock l (locks.OfCondvar case)) x).purpose ≡ x.purpose
        by_condvar (Look None) = refl
        by_condvar (Look (Some m)) = refl
        by_condvar (Show m) = refl
        by_condvar Hide = refl
    by_case (locks.SeeOwner owned) = refl
    by_case (locks.Enter y) = refl
    by_case locks.Pend = refl
    by_case locks.Settle = refl
    by_case (locks.Park y) = refl
    by_case locks.Aside = refl
    by_case (locks.Leave y) = refl
    by_case (locks.HandOff y z) = refl
    by_case (locks.OfOnce case) = by_once case
      where
        by_once : (case : OnceCase) → (going_on (AtLock l (locks.OfOnce case)) x).purpose ≡ x.purpose
        by_once (Start forced) = refl
        by_once Finish = refl
        by_once Fail = refl
        by_once (Rest wanted forced) = refl
        by_once TakeAll = refl
    by_case case = refl

-- a case may happen where the call is made of it and what it needs is there
pub may_do : (w : LocksState) (t l : ℕ) (case : LockCase) (purpose : Purpose) (c : CallState) → w.calls t ≡ c
    → c.purpose ≡ Some purpose → IsMadeOf purpose c.gave_up c.released c.recalls l case
    → Needs (locks_rules w l) case (w.locks l) t → IsTimely c.late case → MayHappen w t (AtLock l case)
may_do w t l case purpose c is e made needs timely = rw (is, e) (rw is made, needs, rw is timely)

-- a thread that calls no `Once` begins no run
abbrev pub RunsNothing : Purpose → Type 0
RunsNothing (CallsOnce l forced) = ⊥
RunsNothing (Awaits l forced timed) = ⊥
RunsNothing purpose = Unit {0}

pub runs_nothing : (sorts : ℕ → Sort) (l : ℕ) (p : Purpose) → lock_for p ≡ l → KnowsRights sorts (Some p)
    → (sorts l ≡ Once → ⊥)
    → RunsNothing p
runs_nothing sorts l (CallsOnce k forced) own knows other = other (subst (λ j. sorts j ≡ Once) own knows)
runs_nothing sorts l (Awaits k forced timed) own knows other = other (subst (λ j. sorts j ≡ Once) own knows)
runs_nothing sorts l p own knows other = tt

pub never_starts : (p : Purpose) (g : Option ℕ) (r : Bool) (q : CondvarMemory) (l : ℕ) (forced : Bool)
    → RunsNothing p
    → IsMadeOf p g r q l (OfOnce (Start forced)) → ⊥
never_starts (Enters k x how) g r q l forced h m = m.1
never_starts (Releases k x fair) g r q l forced h m = m.1
never_starts (Converts k x y how) g r q l forced h m = m.1
never_starts (Bumps k x) g r q l forced h m = elim m.1 [ inl a ↦ a | inr b ↦ b.1 ]
never_starts (CallsOnce k f) g r q l forced h m = h
never_starts (Awaits k f timed) g r q l forced h m = h
never_starts (Waits k n timed) g r q l forced h m = elim m [
  | inl there ↦ there.1
  | inr beside ↦
      elim beside.1 [ inl a ↦ a | inr b ↦ b.1 ]
]
never_starts (Notifies k all) g r q l forced h m = elim m [ inl there ↦ there.1 | inr beside ↦ beside ]

-- A call that begins is told of no closure.
pub begins_nothing : (w : LocksState) (l : ℕ) (row : Profile) (c : Option LockCase) (o : Outcome)
    → RunsNothing (row.purpose l)
    → MayCome l row (event_by l c) → is_closure o ≡ false → Begins w (event_by l c) o
begins_nothing w l row None o runs may told = by_outcome o told
  where
    by_outcome : (o : Outcome) → is_closure o ≡ false → Begins w Nothing o
    by_outcome (outcome.Closure state) h = absurd cc
    by_outcome o h = tt
begins_nothing w l row (Some case) o runs may told = by_case case o may told
  where
    by_case : (case : LockCase) (o : Outcome) → MayCome l row (AtLock l case) → is_closure o ≡ false
        → Begins w (AtLock l case) o
    by_case (OfOnce (Start forced)) o m h =
        absurd (never_starts (row.purpose l) _ row.released row.recalls l forced runs m.0)
    by_case case (outcome.Closure state) m h = absurd cc
    by_case case o m h = tt

-- ---------------------------------------------------------------- a step is one event

-- the thread's call has come to what the event made of it, and it is told so; or it has ended, with a true
-- answer
abbrev pub CallLed : State → State → ℕ → Event → CallState → Outcome → Type 0
CallLed w v t e call o =
    ((call_state (place_at v t) (rights v t) ≡ woken (locks_of w) t e t (going_on e call))
    × ((l : ℕ) × GoesAs v t l o))
    ⊎ ((a : Answer) × (o ≡ outcome.End a) × (place_at v t ≡ Idle)
    × AnswerHolds call.purpose (locks_of v) t (going_on e call) a)

module _ (w v : State) (t : ℕ) (e : Event) (h : IsEvent w v t e) (call : CallState) (is : call_at w t ≡ call)
    (o : Outcome) where
  own_call : CallLed w v t e call o
      → call_state (place_at v t) (rights v t) ≡ unless_ended o (woken (locks_of w) t e t (going_on e call))
  own_call (inl on) = on.0 ∙ goes_on on.1.1
    where
      goes_on : GoesAs v t on.1.0 o
          → woken (locks_of w) t e t (going_on e call) ≡ unless_ended o (woken (locks_of w) t e t
          (going_on e call))
      goes_on (inl k) = rw k refl
      goes_on (inr (inl k)) = rw k.0 refl
      goes_on (inr (inr k)) = rw k.1 refl
  own_call (inr over) = rw (over.1, over.2) refl

  told_so : CallLed w v t e call o → Agrees t (going_on e call) o (locks_of v)
  told_so (inl on) = elim on.1.1 [
    | inl k ↦ rw k tt
    | inr k ↦ elim k [
      | inl k ↦ rw k.0 (on.1.0, k.1)
      | inr k ↦ rw k.1 (on.1.0, k.2)
    ]
  ]
  told_so (inr over) = rw over.1 (
    subst (λ x. AnswerHolds x (locks_of v) t (going_on e call) over.0) (sym (same_purpose e call)) over.3,
    λ k. taken_nobody v h.after t k (rw over.2 refl),
  )

  pub goes_with : MayHappen (locks_of w) t e → call.purpose ≢ None → CallLed w v t e call o
      → OthersFollow w v t e
      → Begins (locks_of w) e o → GoesOn (locks_of w) t o (locks_of v)
  goes_with may called led others begins = record {
    called = rw is called;
    event = e;
    may = may;
    locks = h.led;
    calls = λ u. either_is (u == t) (call_state (place_at v u) (rights v u)) _ _ (λ k. let same : u ≡ t =
        eqb-true u t k in rw (same, is) (own_call led)) (λ k. others u (unequal u t k));
    agrees = rw is (told_so led);
    begins = begins;
  }

  pub goes_with_event : (may : MayHappen (locks_of w) t e) (called : call.purpose ≢ None)
      (led : CallLed w v t e call o)
      (others : OthersFollow w v t e) (begins : Begins (locks_of w) e o)
      → (goes_with may called led others begins).event ≡ e
  unfolding goes_with
  goes_with_event may called led others begins = refl

-- ---------------------------------------------------------------- one lock's part

module _ (w v : State) (t l : ℕ) (c : Option LockCase) (h : IsEvent w v t (event_by l c)) where
  pub led_here : lock_state v l ≡ after_event (rules_in w l) (event_by l c) (lock_state w l) t
  led_here = by_case c h
    where
      by_case : (c : Option LockCase) → IsEvent w v t (event_by l c)
          → lock_state v l ≡ after_event (rules_in w l) (event_by l c) (lock_state w l) t
      by_case None h = h.led l
      by_case (Some case) h = h.led l ∙ put_here (lock_state w) l (after_event (rules_in w l) (AtLock l case)
          (lock_state w l) t)

  pub led_elsewhere : (k : ℕ) → k ≢ l → lock_state v k ≡ lock_state w k
  led_elsewhere k ne = by_case c h
    where
      by_case : (c : Option LockCase) → IsEvent w v t (event_by l c) → lock_state v k ≡ lock_state w k
      by_case None h = h.led k
      by_case (Some case) h = h.led k ∙ put_other (lock_state w) l (after_event (rules_in w l) (AtLock l case)
          (lock_state w l) t) k ne

  needs_here : EventNeeds (rules_in w l) (event_by l c) (lock_state w l) t
  needs_here = by_case c h
    where
      by_case : (c : Option LockCase) → IsEvent w v t (event_by l c) → EventNeeds (rules_in w l)
          (event_by l c) (lock_state w l) t
      by_case None h = tt
      by_case (Some case) h = h.needs

  -- tells what a thread owns then
  pub rights_led : (u k : ℕ)
      → rights v u k ≡ rights_where l (after_event (rules_in w l) (event_by l c) (lock_state w l) t) u
      (rights w u) k
  rights_led u k = put_is (rights w u) l _ k (rights v u k) (λ e. rw e (ap (λ s. rights_of s u) led_here))
      (λ ne. ap (λ s. rights_of s u) (led_elsewhere k ne))

  abbrev pub IsNoHandOff : Option LockCase → Type 0
  IsNoHandOff None = Unit {0}
  IsNoHandOff (Some case) = (x : Want) (y : Option Queued) → case ≢ HandOff x y

  -- nobody else's rights change, but by a hand-over
  pub rights_stay : IsNoHandOff c → (u : ℕ) → u ≢ t → (k : ℕ) → rights v u k ≡ rights w u k
  rights_stay plain u ne k = elim (cases_eq k l) [
    | inl e ↦ rw e (ap (λ s. rights_of s u) led_here ∙ stays c plain needs_here)
    | inr nk ↦ ap (λ s. rights_of s u) (led_elsewhere k nk)
  ]
    where
      stays : (c : Option LockCase) → IsNoHandOff c → EventNeeds (rules_in w l) (event_by l c)
          (lock_state w l) t
          → rights_of (after_event (rules_in w l) (event_by l c) (lock_state w l) t) u ≡ rights w u l
      stays None plain needs = refl
      stays (Some case) plain needs = others_keep (rules_in w l) (lock_state w l) t u
          (h.before.sites.site l).state ne case plain needs

  pub others_follow : IsNoHandOff c → Others w v t (event_by l c) → OthersFollow w v t (event_by l c)
  others_follow plain others u ne = ap (call_state (place_at v u)) (λ i k. rights_stay plain u ne k i)
      ∙ others u ne (rights w u)

  -- a thread at a place of a call of this lock alone
  module _ (p : Place) (is : place_at w t ≡ p) (of : called_lock p ≡ Some l) (single : IsSingle p) where
    abbrev call_then : CallState
    call_then = call_by l (profile p) (rights w t)

    abbrev afterwards : LockState
    afterwards = after_event (rules_in w l) (event_by l c) (lock_state w l) t

    called_by : (r : ℕ → Rights) → call_state (place_at w t) r ≡ call_by l (profile p) r
    called_by r = ap (λ q. call_state q r) is ∙ call_here p l single of r

    may_happen : MayCome l (profile p) (event_by l c) → MayHappen (locks_of w) t (event_by l c)
    may_happen may = by_case c may needs_here
      where
        by_case : (c : Option LockCase) → MayCome l (profile p) (event_by l c)
            → EventNeeds (rules_in w l) (event_by l c) (lock_state w l) t → MayHappen (locks_of w) t
            (event_by l c)
        by_case None may needs = tt
        by_case (Some case) may needs = may_do (locks_of w) t l case ((profile p).purpose l) call_then
            (called_by (rights w t)) refl may.0 needs may.1

    -- the event of the step is that of its deeds
    pub goes_by : MayCome l (profile p) (event_by l c) → (n : Next Profile) (o : Outcome)
        → ComesTo (rules_in w l) l (profile p) (event_by l c) (lock_state w l)
        (after_event (rules_in w l) (event_by l c) (lock_state w l) t) t n
        → LeadsTo v t l n o → OthersFollow w v t (event_by l c) → Begins (locks_of w) (event_by l c) o
        → GoesOn (locks_of w) t o (locks_of v)
    goes_by may n o comes leads others begins = goes_with w v t (event_by l c) h call_then
        (called_by (rights w t)) o (may_happen may) (λ e. cc) (led n comes leads) others begins
      where
        -- the thread is in no hand of its own
        unwoken : (c : Option LockCase) (x : CallState) → woken (locks_of w) t (event_by l c) t x ≡ x
        unwoken (Some locks.Wake) x = rw (own_hand w h.before t l (subst IsSingle (sym is) single)) refl
        unwoken (Some (HandOff y z)) x = rw (own_hand w h.before t l (subst IsSingle (sym is) single)) refl
        unwoken None x = refl
        unwoken (Some case) x = refl

        led : (n : Next Profile) → ComesTo (rules_in w l) l (profile p) (event_by l c) (lock_state w l)
            afterwards
            t n
            → LeadsTo v t l n o → CallLed w v t (event_by l c) call_then o
        led (next.At row) comes leads = inl (
          call_here (place_at v t) l leads.3 leads.0 (rights v t) ∙ ap (λ x. call_by l x (rights v t)) leads.1
              ∙ ap (call_by l row) (λ i k. rights_led t k i) ∙ comes (rights w t) refl
              ∙ sym (unwoken c (going_on (event_by l c) call_then)),
          (l, leads.2),
        )
        led (next.End a) comes leads =
            inr (
              a,
              leads.1,
              leads.0,
              comes (locks_of v) (rights w t) (ap rules_of (h.kinds l)) led_here refl
                  (rights_led t),
            )

    pub goes_event : (may : MayCome l (profile p) (event_by l c)) (n : Next Profile) (o : Outcome)
        (comes : ComesTo (rules_in w l) l (profile p) (event_by l c) (lock_state w l)
        (after_event (rules_in w l) (event_by l c) (lock_state w l) t) t n)
        (leads : LeadsTo v t l n o) (others : OthersFollow w v t (event_by l c))
        (begins : Begins (locks_of w) (event_by l c) o)
        → (goes_by may n o comes leads others begins).event ≡ event_by l c
    unfolding goes_by
    goes_event may n o comes leads others begins = goes_with_event w v t (event_by l c) h call_then
        (called_by (rights w t)) o (may_happen may) _ _ others begins
