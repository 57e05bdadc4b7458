-- A fair release, a bump, or a call that was handed the lock, whose thread steps alone: from each place it
-- ends, or begins to enter again.
use Rattle.lot_laws.proofs.Imports
use Imports.{ℕ, suc, Bool, true, false, None, if◌then◌else◌, ◌==◌, ◌&&◌, ◌≡◌, ◌+◌, ◌*◌, ◌≤◌, List, ◌∷◌}
use Imports.{replicate, inl, inr, refl, sym, ◌∙◌, ap, subst, arith, One, Waiter, first_of, apply, Access}
use Imports.{Patience, Ok, Outcome, Act, Next, At, Done, outcome_of, wakes_taken, Admission, RwLockAt, WakeAt}
use Imports.{entered, unparked, Admits, RwLockCallPlace, PeekQueue, HandOver, Bump, Handed, HandOverAt}
use Imports.{any_taken}
use Imports.{bump_next, enters_again, exchange_act, freed_next, gives_up_at, gives_way, has_room, looked}
use Imports.{note_by, parked_as, with_taken, word_without, HandsOverAt, count_in, has_aside, has_parked}
use Imports.{rules_of, RwLock, act_of, next_act, next_place, rwlock_does, rwlock_goes, State, after}
use Imports.{after_steps, go_of, queue_at, queues_without_first, solo, step_outcome, step_outcomes, key_of}
use Imports.{rules_in, EndsOrSleeps, location}
use Rattle.core_base.specs.declared.keys.Line.{Line}
use Rattle.core_base.specs.declared.keys.Line.TheVariants.{Main, Second}
use Rattle.core_base.specs.declared.ops.Op.TheVariants as op
use Rattle.spec_locks.specs.declared.calls.Access.TheVariants as access
use Rattle.spec_locks.specs.declared.outcomes.Outcome.TheVariants as outcome
use Rattle.steps_base.specs.declared.acts.Act.TheVariants as act
use Rattle.steps_base.specs.declared.acts.Next.TheVariants.{End}
use Rattle.steps_base.specs.declared.acts.TakeWhich.TheVariants as whoms
use Rattle.steps_rwlock.specs.declared.places.RwLockAt.TheVariants as at
use Rattle.steps_rwlock.specs.declared.purposes.RwLockPurpose.TheVariants as purpose
use Rattle.steps_rwlock.specs.declared.release.WakeAt.TheVariants as waking
use Rattle.steps_rwlock_fair.specs.declared.hand_over.Taken.{Taken}
use Rattle.steps_rwlock_fair.specs.declared.hand_over.HandOverAt.TheVariants as handing
use Rattle.steps_rwlock_fair.specs.declared.handed.HandedAt.TheVariants as handed
use Rattle.steps_rwlock_fair.specs.FairSteps.{released}
use Rattle.lot_laws.proofs.machine.Parts.{same}
use Rattle.lot_laws.proofs.machine.KindsStay.{after_kinds}
use Rattle.lot_laws.proofs.rwlock.RwLockRows.{of}
use Rattle.lot_alone.proofs.RwLock.{taken_word}
use Rattle.lot_alone.proofs.Leads.{Leads, leads_barred, leads_rest, leads_step, leads_more, leads_so}
use Rattle.lot_alone.proofs.TwoLines.{StepsAlone, Comes, word_comes, enter_comes, leave_comes}
use Rattle.lot_alone.proofs.TwoLines.{take_comes, hand_comes, accept_comes, finds_free}

abbrev pub Resting : State → Outcome → Type 0
Resting v x = EndsOrSleeps x

module _ (t l : ℕ) (a : Admission) where
  abbrev pub Alone : State → RwLockCallPlace → ℕ → (Line → List Waiter) → Type 0
  Alone w c v q = StepsAlone w t l (RwLock l a c) v q

  -- the lock is shared, by its rules
  abbrev pub Shares : State → Type 0
  Shares w = Admits (rules_in w l) a

  pub shares_on : (w : State) → Shares w → Shares (after w (go_of t))
  shares_on w h = subst (λ k. Admits (rules_of k) a) (sym (after_kinds w (go_of t) l)) h

  -- some steps on it begins to enter again, and what comes of that comes of the run
  pub record EntersAgain (x : Access) (w v : State) (o : Outcome) : Type 0 where
    pub steps : ℕ
    pub told : step_outcomes w (replicate steps (go_of t)) ≡ replicate steps outcome.Step
    pub word : ℕ
    pub queues : Line → List Waiter
    pub shares : Shares (after_steps w (replicate steps (go_of t)))
    pub alone : Alone (after_steps w (replicate steps (go_of t))) (enters_again x) word queues
    pub room : ℕ
    pub enough : 11 ≤ room
    pub last : Outcome
    pub state : (solo room (after_steps w (replicate steps (go_of t))) t last).state ≡ v
    pub outcome_is : (solo room (after_steps w (replicate steps (go_of t))) t last).outcome ≡ o

  again_now : (x : Access) (v : ℕ) (w : State) (q : Line → List Waiter) → Shares w
      → Alone w (enters_again x) v q
      → Leads 11 w t (EntersAgain x w)
  again_now x v w q shares f n last enough = inl (record {
    steps = 0;
    told = refl;
    word = v;
    queues = q;
    shares = shares;
    alone = f;
    room = n;
    enough = enough;
    last = last;
    state = refl;
    outcome_is = refl;
  })

  again_after : (x : Access) (w v : State) (o : Outcome) → step_outcome w (go_of t) ≡ outcome.Step
      → EntersAgain x (after w (go_of t)) v o → EntersAgain x w v o
  again_after x w v o told h = record {
    steps = suc h.steps;
    told = λ i. told i ∷ h.told i;
    word = h.word;
    queues = h.queues;
    shares = h.shares;
    alone = h.alone;
    room = h.room;
    enough = h.enough;
    last = h.last;
    state = h.state;
    outcome_is = h.outcome_is;
  }

  -- a bump enters again, and any other call ends
  abbrev pub Ends : Bool → Access → State → State → Outcome → Type 0
  Ends b x w v o = (b ≡ true → EntersAgain x w v o) × (b ≡ false → o ≡ outcome.End Ok)

  goes : (b : Bool) (x : Access) (k v : ℕ) (w : State) (q : Line → List Waiter) (c : RwLockCallPlace)
      (told : Outcome) → Shares w
      → told ≡ outcome.Step → Comes w t l (RwLock l a c) told v q
      → (Shares (after w (go_of t)) → Alone (after w (go_of t)) c v q → Leads k (after w (go_of t)) t
      (Ends b x (after w (go_of t))))
      → Leads (k + 1) w t (Ends b x w)
  goes b x k v w q c told shares more comes on = leads_step w t (Ends b x w) k step
      (leads_so k (after w (go_of t)) t (Ends b x (after w (go_of t))) (Ends b x w)
      (λ v o h. (λ e. again_after x w v o step (h.0 e), h.1)) (on (shares_on w shares) comes.1))
    where
      step : step_outcome w (go_of t) ≡ outcome.Step
      step = comes.0 ∙ more

  -- into a section, or it is barred
  enters : (b : Bool) (x : Access) (k v : ℕ) (w : State) (q : Line → List Waiter) (c to : RwLockCallPlace)
      (m : Line) → Shares w
      → Alone w c v q → act_of (RwLock l a c) ≡ act.Enter (One (key_of l m))
      → (location (RwLock l a c)).inside ≡ None
      → next_place (RwLock l a c) Done ≡ RwLock l a to → outcome_of (next_act (RwLock l a c) Done)
      ≡ outcome.Step
      → (Shares (after w (go_of t)) → Alone (after w (go_of t)) to v q → Leads k (after w (go_of t)) t
      (Ends b x (after w (go_of t))))
      → Leads (k + 1) w t (Ends b x w)
  enters b x k v w q c to m shares f is outside leads steps on =
      elim (finds_free w t l (RwLock l a c) v q f outside m is) [
        | inl free ↦ goes b x k v w q to (outcome_of (next_act (RwLock l a c) Done)) shares steps
            (subst (λ p. Comes w t l p (outcome_of (next_act (RwLock l a c) Done)) v q) leads
            (enter_comes w t l (RwLock l a c) v q f m is free)) on
        | inr barred ↦ leads_barred w t (Ends b x w) (k + 1) barred
      ]

  -- the thread has given its right up
  released_rests : (x : Access) (b : Bool) (v : ℕ) (w : State) (q : Line → List Waiter) → Shares w
      → Comes w t l (rwlock_goes l a (released x b)) (outcome_of (rwlock_does l a (released x b))) v q
      → Leads 12 w t (Ends b x w)
  released_rests x false v w q shares c = leads_more 1 12 w t (Ends false x w) (omega arith)
      (leads_rest w t (Ends false x w) (outcome.End Ok) c.0 tt ((λ e. absurd cc), λ e. refl))
  released_rests x true v w q shares c = goes true x 11 v w q (enters_again x)
      (outcome_of (rwlock_does l a (released x true))) shares (begins x) c
      (λ s f. leads_so 11 (after w (go_of t)) t (EntersAgain x (after w (go_of t)))
      (Ends true x (after w (go_of t))) (λ v o h. ((λ e. h), λ e. absurd cc))
      (again_now x v (after w (go_of t)) q s f))
    where
      begins : (x : Access) → outcome_of (rwlock_does l a (released x true)) ≡ outcome.Step
      begins access.Shared = refl
      begins access.Upgradable = refl
      begins access.Exclusive = refl

  module _ (x : Access) (b : Bool) where
    abbrev over : HandOverAt → RwLockCallPlace
    over to = HandOver x b to

    leave_rests : (any told : Bool) (v : ℕ) (w : State) (q : Line → List Waiter) → Shares w
        → Alone w (over (handing.Leave any told)) v q → Leads 12 w t (Ends b x w)
    leave_rests any told v w q shares f =
        released_rests x b v w q shares (leave_comes w t l _ v q f Main (wakes_taken any (note_by told)) refl)

    store_rests : (k : Taken) (v : ℕ) (w : State) (q : Line → List Waiter) → Shares w
        → Alone w (over (handing.Store k)) v q
        → Leads 13 w t (Ends b x w)
    store_rests k v w q shares f = goes b x 12 _ w q (over (handing.Leave (any_taken k) true)) _ shares refl
        (hand_comes w t l _ v q f _ refl) (λ s g. leave_rests (any_taken k) true _ _ q s g)

    -- where it goes from an exchange
    abbrev exchanged : Taken → ℕ → Bool → Next RwLockCallPlace
    exchanged k v won = if won then At (over (handing.Leave (any_taken k) (has_room a.limit k v)))
        else At (over (handing.Exchange k v))

    abbrev exchange_as : Bool → ℕ → ℕ → ℕ → Act
    exchange_as room seen y z = if room then act.HandOver l (op.Exchange seen y) else act.Word l
        (op.Exchange seen z)

    -- an exchange that fails leaves the word as it was
    record ExchangeComes (w : State) (k : Taken) (seen v : ℕ) (q : Line → List Waiter) : Type 0 where
      pub word : ℕ
      pub fails : (v == seen) ≡ false → word ≡ v
      pub comes : Comes w t l (rwlock_goes l a (exchanged k v (v == seen)))
          (outcome_of (rwlock_does l a (exchanged k v (v == seen)))) word q

    exchange_comes : (k : Taken) (seen v : ℕ) (w : State) (q : Line → List Waiter)
        → Alone w (over (handing.Exchange k seen)) v q
        → ExchangeComes w k seen v q
    exchange_comes k seen v w q f = either (has_room a.limit k seen) refl
      where
        either : (r : Bool) → has_room a.limit k seen ≡ r → ExchangeComes w k seen v q
        either true e = record {
          word = _;
          fails = λ g. ap (λ (b : Bool). if b then with_taken x k seen else v) g;
          comes = hand_comes w t l _ v q f (op.Exchange seen (with_taken x k seen))
              (ap (λ r. exchange_as r seen (with_taken x k seen)
              (parked_as k.none_left (word_without x seen))) e);
        }
        either false e = record {
          word = _;
          fails = λ g. ap (λ (b : Bool). if b then parked_as k.none_left (word_without x seen) else v) g;
          comes = word_comes w t l _ v q f (op.Exchange seen (parked_as k.none_left (word_without x seen)))
              (ap (λ r. exchange_as r seen (with_taken x k seen)
              (parked_as k.none_left (word_without x seen))) e);
        }

    -- an act of an exchange is a step
    exchange_steps : (k : Taken) (v : ℕ) → outcome_of (exchange_act l a.limit x k v) ≡ outcome.Step
    exchange_steps k v = either (has_room a.limit k v) (with_taken x k v) (parked_as k.none_left
        (word_without x v))
      where
        either : (r : Bool) (y z : ℕ) → outcome_of (exchange_as r v y z) ≡ outcome.Step
        either true y z = refl
        either false y z = refl

    exchange_now : (k : Taken) (v : ℕ) (w : State) (q : Line → List Waiter) → Shares w
        → Alone w (over (handing.Exchange k v)) v q
        → Leads 13 w t (Ends b x w)
    exchange_now k v w q shares f =
        let c = exchange_comes k v v w q f in
        goes b x 12 c.word w q (over (handing.Leave (any_taken k) (has_room a.limit k v))) outcome.Step shares
        refl
        (subst (λ r. Comes w t l (rwlock_goes l a (exchanged k v r))
        (outcome_of (rwlock_does l a (exchanged k v r))) c.word q) (same v) c.comes)
        (λ s g. leave_rests (any_taken k) (has_room a.limit k v) c.word _ q s g)

    exchange_rests : (k : Taken) (seen v : ℕ) (w : State) (q : Line → List Waiter) → Shares w
        → Alone w (over (handing.Exchange k seen)) v q → Leads 14 w t (Ends b x w)
    exchange_rests k seen v w q shares f = either (v == seen) refl
      where
        c : ExchangeComes w k seen v q
        c = exchange_comes k seen v w q f

        either : (won : Bool) → (v == seen) ≡ won → Leads 14 w t (Ends b x w)
        either true e = leads_more 13 14 w t (Ends b x w) (omega arith) (goes b x 12 c.word w q
            (over (handing.Leave (any_taken k) (has_room a.limit k v))) outcome.Step shares refl
            (subst (λ r. Comes w t l (rwlock_goes l a (exchanged k v r))
            (outcome_of (rwlock_does l a (exchanged k v r))) c.word q) e c.comes)
            (λ s g. leave_rests (any_taken k) (has_room a.limit k v) c.word _ q s g))
        either false e = goes b x 13 v w q (over (handing.Exchange k v))
            (outcome_of (exchange_act l a.limit x k v)) shares (exchange_steps k v)
            (subst (λ n. Comes w t l (RwLock l a (over (handing.Exchange k v)))
            (outcome_of (exchange_act l a.limit x k v)) n q) (c.fails e)
            (subst (λ r. Comes w t l (rwlock_goes l a (exchanged k v r))
            (outcome_of (rwlock_does l a (exchanged k v r))) c.word q) e c.comes))
            (λ s g. exchange_now k v _ q s g)

  look_rests : (b : Bool) (k : Taken) (v : ℕ) (w : State) (q : Line → List Waiter) → Shares w
      → Alone w (HandOver access.Upgradable b (handing.Look k)) v q
      → Leads 14 w t (Ends b access.Upgradable w)
  look_rests b k v w q shares f = goes b access.Upgradable 13 v w q (HandOver access.Upgradable b
      (handing.Exchange k v)) _ shares (exchange_steps access.Upgradable b k v)
      (word_comes w t l _ v q f op.Load refl) (λ s g. exchange_now access.Upgradable b k v _ q s g)

  take_rests : (x : Access) (b : Bool) → HandsOverAt x handing.Take → (v : ℕ) (w : State) (q : Line
      → List Waiter) → Shares w
      → Alone w (HandOver x b handing.Take) v q → Leads 15 w t (Ends b x w)
  take_rests access.Shared b fits v w q shares f = absurd fits
  take_rests access.Upgradable b fits v w q shares f = goes b access.Upgradable 14 v w _
      (HandOver access.Upgradable b (handing.Look _)) _ shares refl (take_comes w t l _ v q f (2 * l)
      (whoms.Picked None a.recursive) refl refl) (λ s g. look_rests b _ v _ _ s g)
  take_rests access.Exclusive b fits v w q shares f = leads_more 14 15 w t (Ends b access.Exclusive w)
      (omega arith) (goes b access.Exclusive 13 v w _ (HandOver access.Exclusive b (handing.Store _)) _ shares
      refl (take_comes w t l _ v q f (2 * l) (whoms.Picked None a.recursive) refl refl)
      (λ s g. store_rests access.Exclusive b _ v _ _ s g))

  enters_rest : (x : Access) (b : Bool) → HandsOverAt x handing.Take → (v : ℕ) (w : State) (q : Line
      → List Waiter) → Shares w
      → Alone w (HandOver x b handing.Enter) v q → Leads 16 w t (Ends b x w)
  enters_rest x b fits v w q shares f = enters b x 15 v w q (HandOver x b handing.Enter)
      (HandOver x b handing.Take) Main shares f refl refl refl refl (λ s g. take_rests x b fits v _ q s g)

  -- the thread tries the word as it is
  free_now : (x : Access) (b : Bool) (v : ℕ) (w : State) (q : Line → List Waiter) → Shares w
      → Alone w (HandOver x b (handing.Free v)) v q → Leads 12 w t (Ends b x w)
  free_now x b v w q shares f = released_rests x b (apply (op.Exchange v (word_without x v)) v) w q shares
      (subst (λ r. Comes w t l (rwlock_goes l a (if r then released x b else At
      (HandOver x b (freed_next x v))))
      (outcome_of (rwlock_does l a (if r then released x b else At (HandOver x b (freed_next x v)))))
      (apply (op.Exchange v (word_without x v)) v) q) (same v) (word_comes w t l _ v q f
      (op.Exchange v (word_without x v)) refl))

  looked_rests : (b : Bool) (v : ℕ) (w : State) (q : Line → List Waiter) → Shares w
      → Comes w t l (RwLock l a (HandOver access.Upgradable b (looked v)))
      (outcome_of (rwlock_does l a (At (HandOver access.Upgradable b (looked v))))) v q
      → Leads 17 w t (Ends b access.Upgradable w)
  looked_rests b v w q shares c = either (has_parked v) c
    where
      either : (p : Bool)
          → Comes w t l (RwLock l a (HandOver access.Upgradable b (if p then handing.Enter else handing.Free
          v)))
          (outcome_of (rwlock_does l a (At (HandOver access.Upgradable b (if p then handing.Enter
          else handing.Free v))))) v q
          → Leads 17 w t (Ends b access.Upgradable w)
      either true c = goes b access.Upgradable 16 v w q (HandOver access.Upgradable b handing.Enter)
          outcome.Step shares refl c (λ s g. enters_rest access.Upgradable b tt v _ q s g)
      either false c = leads_more 13 17 w t (Ends b access.Upgradable w) (omega arith)
          (goes b access.Upgradable 12 v w q (HandOver access.Upgradable b (handing.Free v)) outcome.Step
          shares refl c (λ s g. free_now access.Upgradable b v _ q s g))

  load_rests : (b : Bool) (v : ℕ) (w : State) (q : Line → List Waiter) → Shares w
      → Alone w (HandOver access.Upgradable b handing.Load) v q → Leads 17 w t (Ends b access.Upgradable w)
  load_rests b v w q shares f = looked_rests b v w q shares (word_comes w t l _ v q f op.Load refl)

  free_rests : (x : Access) (b : Bool) (seen v : ℕ) → HandsOverAt x handing.Take
      → (w : State) (q : Line → List Waiter) → Shares w
      → Alone w (HandOver x b (handing.Free seen)) v q → Leads 17 w t (Ends b x w)
  free_rests x b seen v fits w q shares f = either x fits (v == seen) refl
      (word_comes w t l _ v q f (op.Exchange seen (word_without x seen)) refl)
    where
      either : (x2 : Access) → HandsOverAt x2 handing.Take → (won : Bool) → (v == seen) ≡ won
          → Comes w t l (rwlock_goes l a (if won then released x2 b else At
          (HandOver x2 b (freed_next x2 v))))
          (outcome_of (rwlock_does l a (if won then released x2 b else At (HandOver x2 b (freed_next x2 v)))))
          (if v == seen then word_without x seen else v) q
          → Leads 17 w t (Ends b x2 w)
      either x2 fits true e c = leads_more 12 17 w t (Ends b x2 w) (omega arith)
          (released_rests x2 b _ w q shares c)
      either access.Shared fits false e c = absurd fits
      either access.Upgradable fits false e c = looked_rests b v w q shares
          (subst (λ n. Comes w t l (RwLock l a (HandOver access.Upgradable b (looked v)))
          (outcome_of (rwlock_does l a (At (HandOver access.Upgradable b (looked v))))) n q)
          (ap (λ (b : Bool). if b then word_without x seen else v) e) c)
      either access.Exclusive fits false e c = goes b access.Exclusive 16 v w q
          (HandOver access.Exclusive b handing.Enter) outcome.Step shares refl
          (subst (λ n. Comes w t l (RwLock l a (HandOver access.Exclusive b handing.Enter)) outcome.Step n q)
          (ap (λ (b : Bool). if b then word_without x seen else v) e) c)
          (λ s g. enters_rest access.Exclusive b tt v _ q s g)

  pub hands_over_rest : (x : Access) (b : Bool) (to : HandOverAt) → HandsOverAt x to
      → (v : ℕ) (w : State) (q : Line → List Waiter) → Shares w → Alone w (HandOver x b to) v q
      → Leads 17 w t (Ends b x w)
  hands_over_rest access.Shared b to fits v w q shares f = absurd fits
  hands_over_rest access.Upgradable b handing.Load fits v w q shares f = load_rests b v w q shares f
  hands_over_rest access.Exclusive b handing.Load fits v w q shares f = absurd fits
  hands_over_rest access.Upgradable b (handing.Free seen) fits v w q shares f =
      free_rests access.Upgradable b seen v tt w q shares f
  hands_over_rest access.Exclusive b (handing.Free seen) fits v w q shares f =
      free_rests access.Exclusive b seen v tt w q shares f
  hands_over_rest access.Upgradable b handing.Enter fits v w q shares f = leads_more 16 17 w t
      (Ends b access.Upgradable w) (omega arith) (enters_rest access.Upgradable b tt v w q shares f)
  hands_over_rest access.Exclusive b handing.Enter fits v w q shares f = leads_more 16 17 w t
      (Ends b access.Exclusive w) (omega arith) (enters_rest access.Exclusive b tt v w q shares f)
  hands_over_rest access.Upgradable b handing.Take fits v w q shares f = leads_more 15 17 w t
      (Ends b access.Upgradable w) (omega arith) (take_rests access.Upgradable b tt v w q shares f)
  hands_over_rest access.Exclusive b handing.Take fits v w q shares f = leads_more 15 17 w t
      (Ends b access.Exclusive w) (omega arith) (take_rests access.Exclusive b tt v w q shares f)
  hands_over_rest access.Exclusive b (handing.Store k) fits v w q shares f =
      leads_more 13 17 w t (Ends b access.Exclusive w) (omega arith) (store_rests access.Exclusive b k v w q
      shares f)
  hands_over_rest access.Upgradable b (handing.Store k) fits v w q shares f = absurd fits
  hands_over_rest access.Upgradable b (handing.Look k) fits v w q shares f =
      leads_more 14 17 w t (Ends b access.Upgradable w) (omega arith) (look_rests b k v w q shares f)
  hands_over_rest access.Exclusive b (handing.Look k) fits v w q shares f = absurd fits
  hands_over_rest access.Upgradable b (handing.Exchange k seen) fits v w q shares f =
      leads_more 14 17 w t (Ends b access.Upgradable w) (omega arith) (exchange_rests access.Upgradable b k
      seen v w q shares f)
  hands_over_rest access.Exclusive b (handing.Exchange k seen) fits v w q shares f = absurd fits
  hands_over_rest x b (handing.Leave any told) fits v w q shares f = leads_more 12 17 w t (Ends b x w)
      (omega arith) (leave_rests x b any told v w q shares f)

  -- ---------------------------------------------------------------- a bump that releases a shared right

  abbrev leaving : RwLockAt → RwLockCallPlace
  leaving to = Bump (of (purpose.Release access.Shared) false to)

  wakes_leave : (any : Bool) (v : ℕ) (w : State) (q : Line → List Waiter) → Shares w
      → Alone w (leaving (at.Wake Second (waking.Leave any))) v q → Leads 12 w t (Ends true access.Shared w)
  wakes_leave any v w q shares f = released_rests access.Shared true v w q shares
      (leave_comes w t l _ v q f Second _ refl)

  wakes_clear : (any : Bool) (v : ℕ) (w : State) (q : Line → List Waiter) → Shares w
      → Alone w (leaving (at.Wake Second (waking.Clear any))) v q → Leads 13 w t (Ends true access.Shared w)
  wakes_clear any v w q shares f = goes true access.Shared 12 _ w q
      (leaving (at.Wake Second (waking.Leave any))) _ shares refl (word_comes w t l _ v q f (unparked Second)
      refl) (λ s g. wakes_leave any _ _ q s g)

  wakes_take : (v : ℕ) (w : State) (q : Line → List Waiter) → Shares w
      → Alone w (leaving (at.Wake Second waking.Take)) v q
      → Leads 14 w t (Ends true access.Shared w)
  wakes_take v w q shares f = goes true access.Shared 13 v w _ (leaving (at.Wake Second (waking.Clear _))) _
      shares refl (take_comes w t l _ v q f (2 * l + 1) whoms.First refl
      (taken_word t l a (record w { queues = queues_without_first w.queues (2 * l + 1) })
      (first_of (queue_at w (2 * l + 1)))))
      (λ s g. wakes_clear _ v _ _ s g)

  wakes_enter : (v : ℕ) (w : State) (q : Line → List Waiter) → Shares w
      → Alone w (leaving (at.Wake Second waking.Enter)) v q
      → Leads 15 w t (Ends true access.Shared w)
  wakes_enter v w q shares f = enters true access.Shared 14 v w q (leaving (at.Wake Second waking.Enter))
      (leaving (at.Wake Second waking.Take)) Second shares f refl refl refl refl (λ s g. wakes_take v _ q s g)

  pub wakes_rest : (to : WakeAt) (v : ℕ) (w : State) (q : Line → List Waiter) → Shares w
      → Alone w (leaving (at.Wake Second to)) v q → Leads 15 w t (Ends true access.Shared w)
  wakes_rest waking.Enter v w q shares f = wakes_enter v w q shares f
  wakes_rest waking.Take v w q shares f = leads_more 14 15 w t (Ends true access.Shared w) (omega arith)
      (wakes_take v w q shares f)
  wakes_rest (waking.Clear any) v w q shares f = leads_more 13 15 w t (Ends true access.Shared w)
      (omega arith) (wakes_clear any v w q shares f)
  wakes_rest (waking.Leave any) v w q shares f = leads_more 12 15 w t (Ends true access.Shared w)
      (omega arith) (wakes_leave any v w q shares f)

  pub gives_rest : (v : ℕ) (w : State) (q : Line → List Waiter) → Shares w → Alone w (leaving at.GiveWay) v q
      → Leads 16 w t (Ends true access.Shared w)
  gives_rest v w q shares f = either (has_aside v && (count_in v == 1)) _ (word_comes w t l _ v q f _ refl)
    where
      either : (b : Bool) (v2 : ℕ)
          → Comes w t l
          (rwlock_goes l a (bump_next (purpose.Release access.Shared) (if b
          then At (of (purpose.Release access.Shared) false (at.Wake Second waking.Enter)) else End Ok)))
          (outcome_of (rwlock_does l a (bump_next (purpose.Release access.Shared)
          (if b then At (of (purpose.Release access.Shared) false (at.Wake Second waking.Enter))
          else End Ok)))) v2 q → Leads 16 w t (Ends true access.Shared w)
      either true v2 c = goes true access.Shared 15 v2 w q (leaving (at.Wake Second waking.Enter))
          outcome.Step shares refl c (λ s g. wakes_enter v2 _ q s g)
      either false v2 c = leads_more 12 16 w t (Ends true access.Shared w) (omega arith)
          (released_rests access.Shared true v2 w q shares c)

  -- -------------------------------------------- a bump that looks, and a thread that was handed the lock

  pub glance_rests : (x : Access) (v : ℕ) (w : State) (q : Line → List Waiter) → Shares w
      → Alone w (PeekQueue x) v q
      → Leads 18 w t (Ends (gives_way a x v) x w)
  glance_rests x v w q shares f = either x (gives_way a x v) (word_comes w t l _ v q f op.Load refl)
    where
      either : (x : Access) (b : Bool)
          → Comes w t l (rwlock_goes l a (if b then At (gives_up_at x) else End Ok))
          (outcome_of (rwlock_does l a (if b then At (gives_up_at x) else End Ok))) v q
          → Leads 18 w t (Ends b x w)
      either x false c = leads_more 1 18 w t (Ends false x w) (omega arith)
          (leads_rest w t (Ends false x w) (outcome.End Ok) c.0 tt ((λ e. absurd cc), λ e. refl))
      either access.Shared true c = leads_more 17 18 w t (Ends true access.Shared w) (omega arith)
          (goes true access.Shared 16 v w q (leaving at.GiveWay) outcome.Step shares refl c
          (λ s g. gives_rest v _ q s g))
      either access.Upgradable true c = goes true access.Upgradable 17 v w q
          (HandOver access.Upgradable true handing.Load) outcome.Step shares refl c
          (λ s g. load_rests true v _ q s g)
      either access.Exclusive true c = leads_more 17 18 w t (Ends true access.Exclusive w) (omega arith)
          (goes true access.Exclusive 16 v w q (HandOver access.Exclusive true handing.Enter) outcome.Step
          shares refl c (λ s g. enters_rest access.Exclusive true tt v _ q s g))

  pub accepts_rest : (x : Access) (how : Patience) (b : Bool) (v : ℕ) (w : State) (q : Line → List Waiter)
      → Alone w (Handed x how b handed.Accept) v q → Leads 1 w t Resting
  accepts_rest access.Exclusive how b v w q f = leads_rest w t Resting (outcome.End (entered how))
      (word_comes w t l _ v q f op.Load refl).0 tt tt
  accepts_rest access.Shared how b v w q f = leads_rest w t Resting (outcome.End (entered how))
      (accept_comes w t l _ v q f refl).0 tt tt
  accepts_rest access.Upgradable how b v w q f = leads_rest w t Resting (outcome.End (entered how))
      (accept_comes w t l _ v q f refl).0 tt tt
