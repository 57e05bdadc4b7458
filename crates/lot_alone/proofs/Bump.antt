-- A bump that enters again steps alone as a call that enters: each of its steps is the same, but for the call
-- that its place is of.
use Rattle.lot_laws.proofs.Imports
use Imports.{ℕ, zero, suc, Bool, true, false, Option, Some, None, if◌then◌else◌, ◌==◌, ◌&&◌, ◌≡◌, ◌≢◌, ◌+◌, ◌*◌}
use Imports.{◌^◌, ◌<◌, List, [], ◌∷◌, length, set, get_or, nat_lt, replicate, slice_index_or, inl, inr, refl}
use Imports.{sym, ◌∙◌, ap, subst, arith, get_or-set_same, length-set, One, Waiter, Access, Patient, Outcome}
use Imports.{Act, Next, At, Reply, holds, outcome_of, Admission, RwLockPlace, RwLockAt, RwLockPurpose, Decision}
use Imports.{ParkAt, Admits, decided, decided_act, exchange, plus, rwlock_act, rwlock_next, act_at, IsDecided}
use Imports.{IsNoRefusal, MayBeTold, MayStand, MayStandNext, ParksBy, StandsAt, rwlock_calls_stand}
use Imports.{RwLockCallPlace, Plain, PeekQueue, HandOver, Bump, Handed, CallStands, IsOfBump, bump_next}
use Imports.{enters_again, gives_way, plain_next, unless_given, rwlock_first, StaysFor, stays_for, has_aside}
use Imports.{Place, Idle, RwLock, act_of, next_act, next_place, rwlock_does, rwlock_goes, shares_after}
use Imports.{SoloEnd as Ran, State, state_after_operation, after, alone_after, can_do, can_go, go_of}
use Imports.{go_outcome, held, is_possible, owners_at, place_at, put, queue_at, queues_with_last, reply_to}
use Imports.{runs_closure, solo, state_after_act, state_after_go, step_outcome, word_at, going_outcome}
use Imports.{state_after_going, kind_at, IsWellFormed, SameSize, IsOfItsKind, after_well_formed, after_size}
use Imports.{performed_counts, put_well_formed, AreCondvars, AreCounted, IsInductive, rules_in, role_on}
use Imports.{location, lock_seen, lock_state, taken_at, IsBarred, EndsOrSleeps}
use Rattle.std.proofs.Common.{slice_set}
use Rattle.core_base.specs.declared.keys.Line.{Line}
use Rattle.core_base.specs.declared.keys.Line.TheVariants.{Main, Second}
use Rattle.spec_locks.specs.declared.calls.Access.TheVariants as access
use Rattle.spec_locks.specs.declared.outcomes.Outcome.TheVariants as outcome
use Rattle.steps_base.specs.declared.acts.Act.TheVariants as act
use Rattle.steps_base.specs.declared.acts.Next.TheVariants.{End}
use Rattle.steps_base.specs.declared.acts.Wakes.TheVariants as wakes
use Rattle.steps_rwlock.specs.declared.places.RwLockAt.TheVariants as at
use Rattle.steps_rwlock.specs.declared.purposes.RwLockPurpose.TheVariants as purpose
use Rattle.steps_rwlock.specs.declared.enter.Decision.TheVariants as decisions
use Rattle.steps_rwlock.specs.declared.park.ParkAt.TheVariants as parking
use Rattle.steps_rwlock_fair.specs.declared.handed.HandedAt.TheVariants as handed
use Rattle.lot_laws.proofs.calls.OwnPlace.{goes_from_there, told_from_there}
use Rattle.lot_laws.proofs.calls.Closures.{call_runs_none}
use Rattle.lot_laws.proofs.mutex.FairMutexes.{put_settled}
use Rattle.lot_laws.proofs.sites.ActsKept.{goes_inductive, place_goes}
use Rattle.lot_laws.proofs.machine.Parts.{parts_at}
use Rattle.lot_laws.proofs.sites.OneStep.{steps_by}
use Rattle.lot_laws.proofs.calls.PlainCalls.{never_given}
use Rattle.lot_laws.proofs.rwlock.RwLockRows.{of}
use Rattle.lot_alone.proofs.RwLock.{is_ready, rwlock_rests}
use Rattle.lot_laws.proofs.rwlock.Words.{word_small}
use Rattle.lot_alone.proofs.Leads.{Leads, OrBarred, barred_as, leads_more, leads_so, leads_then}
use Rattle.lot_alone.proofs.TwoLines.{StepsAlone}
use Rattle.lot_alone.proofs.HandsOver.{Ends, Resting, Shares, shares_on, accepts_rest, gives_rest}
use Rattle.lot_alone.proofs.HandsOver.{glance_rests, hands_over_rest, wakes_rest}
use Rattle.lot_laws.proofs.condvar.StepsKeep.{after_condvars}
use Rattle.lot_laws.proofs.hands.CountsKept.{counted_after}
use Rattle.lot_laws.proofs.hands.Counting.{nothing}
use Rattle.lot_laws.proofs.condvar.CondvarRows.{names_of, stage_of}
use Rattle.lot_laws.proofs.condvar.SameCondvars.{put_condvars}
use Rattle.lot_laws.proofs.hands.CountsPut.{put_counted}
use Rattle.lot_laws.proofs.sites.TurnsKept.{after_inductive}

set_set : {A : Type 0} (xs : List A) (i : ℕ) (y z : A) → set (set xs i y) i z ≡ set xs i z
set_set [] i y z = refl
set_set (x ∷ xs) zero y z = refl
set_set (x ∷ xs) (suc i) y z = ap (λ ys. x ∷ ys) (set_set xs i y z)

-- ---------------------------------------------------------------- acts of a call that enters

-- into a section and out of it, on the word, and into a line
abbrev IsEntering : Act → Type 0
IsEntering (act.Word l x) = Unit {0}
IsEntering (act.Enter (One key)) = Unit {0}
IsEntering (act.Park l key check x) = Unit {0}
IsEntering (act.Leave (One key) wakes.Nobody) = Unit {0}
IsEntering act.Sleep = Unit {0}
IsEntering y = ⊥

module _ (w : State) (t l : ℕ) (a : Admission) (p : RwLockPlace) where
  abbrev bumping : Place
  bumping = RwLock l a (Bump p)

  abbrev plainly : Place
  plainly = RwLock l a (Plain p)

  -- the thread's place in a call that only enters
  abbrev pub as_plain : State
  as_plain = put w t plainly

  parked : (b : Bool) (queues : List (List Waiter)) → (if b then record as_plain { queues = queues }
      else as_plain) ≡ put (if b then record w { queues = queues } else w) t plainly
  parked true queues = refl
  parked false queues = refl

  -- the numbers of shared rights at a lock, of so many threads
  abbrev row_by : ℕ → ℕ → List ℕ
  row_by k n = slice_index_or w.shares k (replicate n 0)

  abbrev placed : ℕ → List ℕ → Option ℕ → List (List ℕ)
  placed k row None = w.shares
  placed k row (Some n) = slice_set w.shares k (slice_set row t n)

  acts_same : (y : Act) → IsEntering y → state_after_act as_plain t plainly y
      ≡ put (state_after_act w t bumping y) t plainly
  acts_same (act.Word k x) h = λ i. record (put (state_after_operation w t bumping k x) t plainly) {
    shares = placed k (row_by k (length-set w.places t plainly i)) (shares_after bumping (word_at w k)
        (slice_index_or (row_by k (length-set w.places t plainly i)) t 0));
  }
  acts_same (act.Enter (One key)) h = refl
  acts_same (act.Park k key check x) h = parked (holds check (word_at w k))
      (queues_with_last w.queues key t x)
  acts_same (act.Leave (One key) wakes.Nobody) h = refl
  acts_same act.Sleep h = refl
  acts_same y h = absurd h

  replies_same : (y : Act) → IsEntering y → reply_to as_plain t y ≡ reply_to w t y
  replies_same (act.Word k x) h = refl
  replies_same (act.Enter (One key)) h = refl
  replies_same (act.Park k key check x) h = refl
  replies_same (act.Leave (One key) wakes.Nobody) h = refl
  replies_same act.Sleep h = refl
  replies_same y h = absurd h

  can_same : (y : Act) → IsEntering y → can_do as_plain y ≡ can_do w y
  can_same (act.Word k x) h = refl
  can_same (act.Enter (One key)) h = refl
  can_same (act.Park k key check x) h = refl
  can_same (act.Leave (One key) wakes.Nobody) h = refl
  can_same act.Sleep h = refl
  can_same y h = absurd h

module _ (l : ℕ) (a : Admission) (x : Access) (retries : Bool) where
  abbrev in_entry : RwLockAt → RwLockPlace
  in_entry to = of (purpose.Enter x Patient) retries to

  decides_enter : (seen : ℕ) (d : Decision) → IsNoRefusal d
      → IsEntering (decided_act l (purpose.Enter x Patient) seen d)
  decides_enter seen decisions.Take h = tt
  decides_enter seen decisions.Mark h = tt
  decides_enter seen decisions.Park h = tt
  decides_enter seen (decisions.Refuse answer) h = absurd h

  counts_enter : (seen : ℕ) (b : Bool)
      → IsEntering (if b then act.Enter (One (2 * l + 1)) else exchange l seen (plus seen 2))
  counts_enter seen true = tt
  counts_enter seen false = tt

  parks_enter : (to : ParkAt) → ParksBy Patient to
      → IsEntering (act_at l a (in_entry (at.Park to)) (at.Park to))
  parks_enter parking.Check h = tt
  parks_enter (parking.Leave b) h = tt
  parks_enter parking.Asleep h = tt
  parks_enter (parking.Taken by) h = tt
  parks_enter parking.Remove h = absurd h
  parks_enter parking.Clear h = absurd h
  parks_enter parking.GiveUp h = absurd h

  asides_enter : (to : ParkAt) → ParksBy Patient to
      → IsEntering (act_at l a (in_entry (at.Aside to)) (at.Aside to))
  asides_enter parking.Check h = tt
  asides_enter (parking.Leave b) h = tt
  asides_enter parking.Asleep h = tt
  asides_enter (parking.Taken by) h = tt
  asides_enter parking.Remove h = absurd h
  asides_enter parking.Clear h = absurd h
  asides_enter parking.GiveUp h = absurd h

  -- where it may stand that waits for ever
  abbrev IsOn : RwLockAt → Type 0
  IsOn (at.Park to) = ParksBy Patient to
  IsOn (at.Aside to) = ParksBy Patient to
  IsOn at.RollBack = ⊥
  IsOn at.GiveWay = ⊥
  IsOn (at.Wake m to) = ⊥
  IsOn to = Unit {0}

  is_on : (y : Access) (to : RwLockAt) → StandsAt (purpose.Enter y Patient) retries to → IsOn to
  is_on access.Exclusive (at.Park to) h = h
  is_on access.Exclusive (at.Aside to) h = h
  is_on access.Exclusive at.RollBack h = h
  is_on access.Exclusive at.GiveWay h = h
  is_on access.Exclusive (at.Wake Main to) h = h
  is_on access.Exclusive (at.Wake Second to) h = h
  is_on access.Exclusive to h = tt
  is_on access.Shared (at.Park to) h = h
  is_on access.Shared at.Load h = tt
  is_on access.Shared (at.Decide seen) h = tt
  is_on access.Shared to h = absurd h
  is_on access.Upgradable (at.Park to) h = h
  is_on access.Upgradable at.Load h = tt
  is_on access.Upgradable (at.Decide seen) h = tt
  is_on access.Upgradable to h = absurd h

  enters : (to : RwLockAt) → IsOn to → IsDecided a (purpose.Enter x Patient) to
      → IsEntering (act_at l a (in_entry to) to)
  enters at.First on h = tt
  enters at.Load on h = tt
  enters (at.Decide seen) on h = decides_enter seen (decided a (in_entry (at.Decide seen)) seen) h
  enters (at.Park to) on h = parks_enter to on
  enters at.Look on h = tt
  enters (at.Count seen) on h = counts_enter seen (has_aside seen)
  enters at.Marked on h = tt
  enters (at.Aside to) on h = asides_enter to on
  enters at.RollBack on h = absurd on
  enters at.GiveWay on h = absurd on
  enters (at.Wake m to) on h = absurd on

  module _ (w : State) (t : ℕ) (small : word_at w l < 2 ^ 64) where
    abbrev told_at : RwLockAt → Reply
    told_at to = reply_to w t (act_at l a (in_entry to) to)

    decides_may : (seen : ℕ) (d : Decision) → decided a (in_entry (at.Decide seen)) seen ≡ d → IsNoRefusal d
        → MayBeTold a (in_entry (at.Decide seen)) (at.Decide seen)
        (reply_to w t (decided_act l (purpose.Enter x Patient) seen d))
    decides_may seen decisions.Take e h = small
    decides_may seen decisions.Mark e h = small
    decides_may seen decisions.Park e h = e
    decides_may seen (decisions.Refuse answer) e h = absurd h

    counts_may : (seen : ℕ) (b : Bool)
        → MayBeTold a (in_entry (at.Count seen)) (at.Count seen)
        (reply_to w t (if b then act.Enter (One (2 * l + 1)) else exchange l seen (plus seen 2)))
    counts_may seen true = tt
    counts_may seen false = small

    parks_may : (to : ParkAt) → ParksBy Patient to → MayBeTold a (in_entry (at.Park to)) (at.Park to)
        (told_at (at.Park to))
    parks_may parking.Check h = tt
    parks_may (parking.Leave b) h = tt
    parks_may parking.Asleep h = tt
    parks_may (parking.Taken by) h = tt
    parks_may parking.Remove h = absurd h
    parks_may parking.Clear h = absurd h
    parks_may parking.GiveUp h = absurd h

    asides_may : (to : ParkAt) → ParksBy Patient to → MayBeTold a (in_entry (at.Aside to)) (at.Aside to)
        (told_at (at.Aside to))
    asides_may parking.Check h = tt
    asides_may (parking.Leave b) h = tt
    asides_may parking.Asleep h = tt
    asides_may (parking.Taken by) h = tt
    asides_may parking.Remove h = absurd h
    asides_may parking.Clear h = absurd h
    asides_may parking.GiveUp h = absurd h

    told_may : (to : RwLockAt) → IsOn to → IsDecided a (purpose.Enter x Patient) to
        → MayBeTold a (in_entry to) to (told_at to)
    told_may at.First on h = small
    told_may at.Load on h = small
    told_may (at.Decide seen) on h = decides_may seen (decided a (in_entry (at.Decide seen)) seen) refl h
    told_may (at.Park to) on h = parks_may to on
    told_may at.Look on h = small
    told_may (at.Count seen) on h = counts_may seen (has_aside seen)
    told_may at.Marked on h = tt
    told_may (at.Aside to) on h = asides_may to on
    told_may at.RollBack on h = absurd on
    told_may at.GiveWay on h = absurd on
    told_may (at.Wake m to) on h = absurd on

-- ---------------------------------------------------------------- the locks' view of a place

-- places by which a thread is taken alike
abbrev TakenAlike : Place → Place → Type 0
TakenAlike p q = (k : ℕ) → taken_at p k ≡ taken_at q k

taken_set : (ps : List Place) (t : ℕ) (p q : Place) → TakenAlike p q → (u k : ℕ)
    → taken_at (get_or (set ps t p) u Idle) k ≡ taken_at (get_or (set ps t q) u Idle) k
taken_set [] t p q alike u k = refl
taken_set (y ∷ ps) zero p q alike zero k = alike k
taken_set (y ∷ ps) zero p q alike (suc u) k = refl
taken_set (y ∷ ps) (suc t) p q alike zero k = refl
taken_set (y ∷ ps) (suc t) p q alike (suc u) k = taken_set ps t p q alike u k

set_own : (ps : List Place) (t : ℕ) → set ps t (get_or ps t Idle) ≡ ps
set_own [] t = refl
set_own (y ∷ ps) zero = refl
set_own (y ∷ ps) (suc t) = ap (λ qs. y ∷ qs) (set_own ps t)

locks_put : (w : State) (t : ℕ) (p q : Place) → TakenAlike p q → (k : ℕ) → lock_state (put w t p) k
    ≡ lock_state (put w t q) k
locks_put w t p q alike k =
    let size : length (set w.places t p) ≡ length (set w.places t q) = length-set w.places t p
    ∙ sym (length-set w.places t q) in
    λ i. lock_seen (slice_index_or w.shares k (replicate (size i) 0)) (owners_at w k) (queue_at w (2 * k))
    (queue_at w (2 * k + 1)) (λ u. taken_set w.places t p q alike u k i)

locks_kept : (w : State) (t l : ℕ) (c d : RwLockCallPlace) (a : Admission)
    → TakenAlike (RwLock l a c) (RwLock l a d)
    → place_at w t ≡ RwLock l a d → (k : ℕ) → lock_state (put w t (RwLock l a c)) k ≡ lock_state w k
locks_kept w t l c d a alike is k = locks_put w t (RwLock l a c) (RwLock l a d) alike k
    ∙ ap (λ q. lock_state (put w t q) k) (sym is) ∙ ap (λ ps. lock_state (record w { places = ps }) k)
    (set_own w.places t)

-- ---------------------------------------------------------------- solo runs

module _ (t l : ℕ) (a : Admission) (x : Access) where
  -- in a bump that enters again
  pub record Again (w : State) (retries : Bool) (to : RwLockAt) : Type 0 where
    pub shape : IsWellFormed w
    pub inductive : IsInductive w
    pub counted : AreCounted w
    pub condvars : AreCondvars w
    pub shares : Admits (rules_in w l) a
    pub thread : t < length w.places
    pub place : place_at w t ≡ RwLock l a (Bump (of (purpose.Enter x Patient) retries to))
    pub stands : MayStand a (of (purpose.Enter x Patient) retries to)

  abbrev BarredAs : State → State → Type 0
  BarredAs v v2 = IsBarred v t → IsBarred v2 t

  -- two runs tell the same, leave the locks the same, and the second is barred where the first is
  abbrev pub SameEnd : Ran → Ran → Type 0
  SameEnd r r2 = (r.outcome ≡ r2.outcome) × ((k : ℕ) → lock_state r.state k ≡ lock_state r2.state k)
      × BarredAs r.state r2.state

  -- tells what one more step comes to
  ends_same : (o : Outcome) (w v w2 v2 : State) (last : Outcome) (more more2 : Ran)
      → ((k : ℕ) → lock_state w k ≡ lock_state w2 k)
      → ((k : ℕ) → lock_state v k ≡ lock_state v2 k) → BarredAs w w2 → BarredAs v v2
      → (o ≡ outcome.Step → SameEnd more more2)
      → SameEnd (alone_after o w v last more) (alone_after o w2 v2 last more2)
  ends_same outcome.NotNow w v w2 v2 last more more2 before afterwards bars bars_then h = (refl, before, bars)
  ends_same outcome.Step w v w2 v2 last more more2 before afterwards bars bars_then h = h refl
  ends_same outcome.Sleep w v w2 v2 last more more2 before afterwards bars bars_then h =
      (refl, afterwards, bars_then)
  ends_same (outcome.Closure state) w v w2 v2 last more more2 before afterwards bars bars_then h =
      (refl, afterwards, bars_then)
  ends_same (outcome.End answer) w v w2 v2 last more more2 before afterwards bars bars_then h =
      (refl, afterwards, bars_then)

  module _ (w : State) (retries : Bool) (to : RwLockAt) (g : Again w retries to) where
    abbrev p : RwLockPlace
    p = of (purpose.Enter x Patient) retries to

    abbrev y : Act
    y = rwlock_act l a p

    abbrev told : Reply
    told = reply_to w t y

    abbrev n : Next RwLockPlace
    n = rwlock_next a p told

    abbrev plain_w : State
    plain_w = as_plain w t l a p

    small : word_at w l < 2 ^ 64
    small = word_small w l g.inductive g.shares.0

    on : IsOn l a x retries to
    on = is_on l a x retries x to g.stands.place

    entering : IsEntering y
    entering = enters l a x retries to on g.stands.decided

    here : place_at plain_w t ≡ RwLock l a (Plain p)
    here = get_or-set_same w.places t (RwLock l a (Plain p)) Idle g.thread

    can : can_go plain_w t ≡ can_go w t
    can = ap (λ q. can_do plain_w (act_of q)) here ∙ can_same w t l a p y entering
        ∙ sym (ap (λ q. can_do w (act_of q)) g.place)

    possible : is_possible plain_w (go_of t) ≡ is_possible w (go_of t)
    possible = λ i. nat_lt t (length-set w.places t (RwLock l a (Plain p)) i) && can i

    does_same : (n : Next RwLockPlace)
        → outcome_of (rwlock_does l a (plain_next n)) ≡ outcome_of
        (rwlock_does l a (bump_next (purpose.Enter x Patient) n))
    does_same (At q) = refl
    does_same (End answer) = refl

    told_plain : go_outcome plain_w t ≡ outcome_of (rwlock_does l a (plain_next n))
    told_plain = ap (going_outcome plain_w t) here ∙ told_from_there plain_w t (RwLock l a (Plain p)) here tt
        ∙ ap (λ r. outcome_of (next_act (RwLock l a (Plain p)) r)) (replies_same w t l a p y entering)
        ∙ ap (λ (o : Option RwLockCallPlace). outcome_of (rwlock_does l a (unless_given o (plain_next n))))
        (never_given w t false p y)

    told_bump : go_outcome w t ≡ outcome_of (rwlock_does l a (bump_next (purpose.Enter x Patient) n))
    told_bump = ap (going_outcome w t) g.place ∙ told_from_there w t (RwLock l a (Bump p)) g.place tt
        ∙ ap (λ (o : Option RwLockCallPlace). outcome_of
        (rwlock_does l a (unless_given o (bump_next (purpose.Enter x Patient) n)))) (never_given w t true p y)

    told_same : go_outcome plain_w t ≡ go_outcome w t
    told_same = told_plain ∙ does_same n ∙ sym told_bump

    outs : step_outcome plain_w (go_of t) ≡ step_outcome w (go_of t)
    outs = λ i. if possible i then told_same i else outcome.NotNow

    -- tells what its act makes of the world, but for its own place
    abbrev acted : State
    acted = state_after_act w t (RwLock l a (Bump p)) y

    went : is_possible w (go_of t) ≡ true
        → after w (go_of t) ≡ put acted t (rwlock_goes l a (bump_next (purpose.Enter x Patient) n))
    went able = ap (λ b. if b then state_after_go w t else w) able ∙ ap (state_after_going w t) g.place
        ∙ goes_from_there w t (RwLock l a (Bump p)) g.place tt
        ∙ ap (λ (o : Option RwLockCallPlace). put acted t
        (rwlock_goes l a (unless_given o (bump_next (purpose.Enter x Patient) n))))
        (never_given w t true p y)

    went_plain : is_possible w (go_of t) ≡ true → after plain_w (go_of t) ≡ put acted t
        (rwlock_goes l a (plain_next n))
    went_plain able = ap (λ b. if b then state_after_go plain_w t else plain_w) (possible ∙ able)
        ∙ ap (state_after_going plain_w t) here ∙ goes_from_there plain_w t (RwLock l a (Plain p)) here tt
        ∙ (λ i. put (acts_same w t l a p y entering i) t
        (next_place (RwLock l a (Plain p)) (replies_same w t l a p y entering i)))
        ∙ ap (λ (o : Option RwLockCallPlace). put (put acted t (RwLock l a (Plain p))) t
        (rwlock_goes l a (unless_given o (plain_next n)))) (never_given w t false p y)
        ∙ ap (λ ps. record acted { places = ps }) (set_set acted.places t (RwLock l a (Plain p))
        (rwlock_goes l a (plain_next n)))

    -- the locks don't tell the one call from the other
    locks_here : (k : ℕ) → lock_state plain_w k ≡ lock_state w k
    locks_here = locks_kept w t l (Plain p) (Bump p) a (λ k. refl) g.place

    locks_then : (m : Next RwLockPlace) (k : ℕ)
        → lock_state (put acted t (rwlock_goes l a (plain_next m))) k
        ≡ lock_state (put acted t (rwlock_goes l a (bump_next (purpose.Enter x Patient) m))) k
    locks_then (At q) k = locks_put acted t (RwLock l a (Plain q)) (RwLock l a (Bump q)) (λ j. refl) k
    locks_then (End answer) k = refl

    locks_afterwards : (k : ℕ) → lock_state (after plain_w (go_of t)) k ≡ lock_state (after w (go_of t)) k
    locks_afterwards k = either (is_possible w (go_of t)) refl
      where
        either : (b : Bool) → is_possible w (go_of t) ≡ b
            → lock_state (after plain_w (go_of t)) k ≡ lock_state (after w (go_of t)) k
        either true able = ap (λ (s : State). lock_state s k) (went_plain able) ∙ locks_then n k
            ∙ sym (ap (λ (s : State). lock_state s k) (went able))
        either false able = ap (λ (b : Bool). lock_state (if b then state_after_go plain_w t else plain_w) k)
            (possible ∙ able) ∙ locks_here k
            ∙ sym (ap (λ (b : Bool). lock_state (if b then state_after_go w t else w) k) able)

    -- nor whether it is barred
    bars_here : BarredAs plain_w w
    bars_here = barred_as plain_w w t refl (ap act_of here ∙ sym (ap act_of g.place))

    acted_there : t < length acted.places
    acted_there = rw ((performed_counts w t (RwLock l a (Bump p)) y).0) g.thread

    bars_then : (m : Next RwLockPlace)
        → BarredAs (put acted t (rwlock_goes l a (plain_next m)))
        (put acted t (rwlock_goes l a (bump_next (purpose.Enter x Patient) m)))
    bars_then (At q) = barred_as (put acted t (RwLock l a (Plain q))) (put acted t (RwLock l a (Bump q))) t
        refl
        (ap act_of (get_or-set_same acted.places t (RwLock l a (Plain q)) Idle acted_there)
        ∙ sym (ap act_of (get_or-set_same acted.places t (RwLock l a (Bump q)) Idle acted_there)))
    bars_then (End answer) = λ b. b

    bars_after : BarredAs (after plain_w (go_of t)) (after w (go_of t))
    bars_after = either (is_possible w (go_of t)) refl
      where
        either : (b : Bool) → is_possible w (go_of t) ≡ b → BarredAs (after plain_w (go_of t))
            (after w (go_of t))
        either true able = λ b. subst (λ (s : State). IsBarred s t) (sym (went able))
            (bars_then n (subst (λ (s : State). IsBarred s t) (went_plain able) b))
        either false able = λ b. subst (λ (s : State). IsBarred s t)
            (sym (ap (λ (c : Bool). if c then state_after_go w t else w) able))
            (bars_here (subst (λ (s : State). IsBarred s t)
            (ap (λ (c : Bool). if c then state_after_go plain_w t else plain_w) (possible ∙ able)) b))

    -- where it goes on
    module _ (able : is_possible w (go_of t) ≡ true) (q : RwLockPlace) (is : n ≡ At q) where
      stays : q.purpose ≡ purpose.Enter x Patient
      stays = subst (StaysFor (purpose.Enter x Patient)) is (stays_for a p told)

      same_place : q ≡ of (purpose.Enter x Patient) q.retries q.at
      same_place = λ i. record { purpose = stays i; retries = q.retries; at = q.at }

      related : after plain_w (go_of t) ≡ as_plain (after w (go_of t)) t l a
          (of (purpose.Enter x Patient) q.retries q.at)
      related = went_plain able ∙ ap (λ m. put acted t (rwlock_goes l a (plain_next m))) is
          ∙ sym (ap (λ ps. record acted { places = ps }) (set_set acted.places t (RwLock l a (Bump q))
          (RwLock l a (Plain q))))
          ∙ sym (ap (λ (s : State). put s t (RwLock l a (Plain q))) (went able
          ∙ ap (λ m. put acted t (rwlock_goes l a (bump_next (purpose.Enter x Patient) m))) is))
          ∙ ap (λ r. put (after w (go_of t)) t (RwLock l a (Plain r))) same_place

      again_then : Again (after w (go_of t)) q.retries q.at
      again_then = record {
        shape = after_well_formed w (go_of t) g.shape;
        inductive = after_inductive w (go_of t) g.shape g.inductive g.counted g.condvars;
        counted = counted_after w (go_of t) g.shape g.inductive g.counted g.condvars;
        condvars = after_condvars w (go_of t) g.shape g.inductive g.counted g.condvars;
        shares = shares_on t l a w g.shares;
        thread = let size : SameSize w (after w (go_of t)) = after_size w (go_of t)
            in rw size.threads g.thread;
        place = ap (λ (s : State). place_at s t) (went able
            ∙ ap (λ m. put acted t (rwlock_goes l a (bump_next (purpose.Enter x Patient) m))) is)
            ∙ get_or-set_same acted.places t (RwLock l a (Bump q)) Idle
            (rw ((performed_counts w t (RwLock l a (Bump p)) y).0) g.thread)
            ∙ ap (λ r. RwLock l a (Bump r)) same_place;
        stands = subst (MayStand a) same_place
            (subst (MayStandNext a) is (rwlock_calls_stand a p told g.stands
            (told_may l a x retries w t small to on g.stands.decided)));
      }

    -- a call that goes on has not ended
    goes_on : step_outcome w (go_of t) ≡ outcome.Step → (q : RwLockPlace) × ((is_possible w (go_of t) ≡ true)
        × (n ≡ At q))
    goes_on step = by_possible (is_possible w (go_of t)) refl step
      where
        by_next : (m : Next RwLockPlace) → n ≡ m → is_possible w (go_of t) ≡ true
            → outcome_of (rwlock_does l a (bump_next (purpose.Enter x Patient) m)) ≡ outcome.Step
            → (q : RwLockPlace) × ((is_possible w (go_of t) ≡ true) × (n ≡ At q))
        by_next (At q) is able step = (q, (able, is))
        by_next (End answer) is able step = absurd cc

        by_possible : (b : Bool) → is_possible w (go_of t) ≡ b
            → (if b then go_outcome w t else outcome.NotNow) ≡ outcome.Step
            → (q : RwLockPlace) × ((is_possible w (go_of t) ≡ true) × (n ≡ At q))
        by_possible true able step = by_next n refl able (sym told_bump ∙ step)
        by_possible false able step = absurd cc

  -- the thread's runs come to the same
  same_run : (k : ℕ) (w : State) (retries : Bool) (to : RwLockAt) (last : Outcome) → Again w retries to
      → SameEnd (solo k (as_plain w t l a (of (purpose.Enter x Patient) retries to)) t last) (solo k w t last)
  unfolding solo
  same_run zero w retries to last g = (refl, locks_here w retries to g, bars_here w retries to g)
  same_run (suc k) w retries to last g = subst
      (λ o. SameEnd (alone_after o (plain_w w retries to g) (after (plain_w w retries to g) (go_of t)) last
      (solo k (after (plain_w w retries to g) (go_of t)) t outcome.Step))
      (alone_after (step_outcome w (go_of t)) w (after w (go_of t)) last
      (solo k (after w (go_of t)) t outcome.Step)))
      (sym (outs w retries to g))
      (ends_same (step_outcome w (go_of t)) (plain_w w retries to g) (after (plain_w w retries to g)
      (go_of t)) w (after w (go_of t)) last
      (solo k (after (plain_w w retries to g) (go_of t)) t outcome.Step) (solo k (after w (go_of t)) t
      outcome.Step) (locks_here w retries to g) (locks_afterwards w retries to g) (bars_here w retries to g)
      (bars_after w retries to g)
      (λ step. let next = goes_on w retries to g step in
      subst (λ s. SameEnd (solo k s t outcome.Step) (solo k (after w (go_of t)) t outcome.Step))
      (sym (related w retries to g next.1.0 next.0 next.1.1))
      (same_run k (after w (go_of t)) next.0.retries next.0.at outcome.Step
      (again_then w retries to g next.1.0 next.0 next.1.1))))

-- ---------------------------------------------------------------- the thread comes to rest

module _ (t l : ℕ) (a : Admission) where
  -- the thread's place in a call that only enters is as good
  plain_inductive : (w : State) (p : RwLockPlace) → IsInductive w → t < length w.places → place_at w t
      ≡ RwLock l a (Bump p)
      → Admits (rules_in w l) a → MayStand a p → IsInductive (put w t (RwLock l a (Plain p)))
  plain_inductive w p inductive there is admits stands = goes_inductive w (put w t (RwLock l a (Plain p))) l
      [] inductive
      (place_goes w t l inductive (rw is refl) there (rules_in w l) refl (RwLock l a (Plain p)) refl (
        admits,
        stands,
      ) [] (λ h. tt)
      (steps_by (rules_in w l) l (parts_at w l) (parts_at w l) (place_at w) t (RwLock l a (Plain p)) [] tt tt
      (ap (λ q. taken_at q l) is) refl refl refl refl (sym (ap (λ q. role_on q l) is)))
      (sym (ap location is)))

  -- as a call that only enters it steps alone too
  pub plain_alone : (w : State) (p : RwLockPlace) (v : ℕ) (q : Line → List Waiter) → Shares t l a w
      → MayStand a p
      → StepsAlone w t l (RwLock l a (Bump p)) v q → StepsAlone (as_plain w t l a p) t l
      (RwLock l a (Plain p)) v q
  plain_alone w p v q shares may f = record {
    shape = put_well_formed w t (RwLock l a (Plain p)) f.shape (
      f.lock,
      subst (IsOfItsKind (kind_at w)) f.place
          (f.shape.kinds t),
    );
    inductive = plain_inductive w p f.inductive f.thread f.place shares may;
    counted = put_counted w t (RwLock l a (Plain p)) f.thread (sym (ap held f.place)) (λ k. nothing (l == k))
        f.counted;
    condvars = put_condvars w t (RwLock l a (Plain p)) f.thread (λ k. (
      sym (ap (λ q. stage_of q k) f.place),
      sym (ap (λ q. names_of q k) f.place),
    )) f.condvars;
    settled = put_settled w t l a p f.thread shares.0 (ap (λ q. runs_closure (act_of q)) f.place
        ∙ call_runs_none l a (Bump p)) f.settled;
    thread = rw (length-set w.places t (RwLock l a (Plain p))) f.thread;
    lock = f.lock;
    place = get_or-set_same w.places t (RwLock l a (Plain p)) Idle f.thread;
    single = tt;
    word = f.word;
    queue = f.queue;
  }

  pub as_entry : (x : Access) (retries : Bool) (to : RwLockAt) (v : ℕ) (w : State) (q : Line → List Waiter)
      → Shares t l a w
      → MayStand a (of (purpose.Enter x Patient) retries to)
      → StepsAlone w t l (RwLock l a (Bump (of (purpose.Enter x Patient) retries to))) v q
      → (k : ℕ) (last : Outcome)
      → SameEnd t l a x (solo k (as_plain w t l a (of (purpose.Enter x Patient) retries to)) t last)
      (solo k w t last)
  as_entry x retries to v w q shares may f k last = same_run t l a x k w retries to last (record {
    shape = f.shape;
    inductive = f.inductive;
    counted = f.counted;
    condvars = f.condvars;
    shares = shares;
    thread = f.thread;
    place = f.place;
    stands = may;
  })

  small_at : (w : State) (v : ℕ) (q : Line → List Waiter) (c : RwLockCallPlace) → Shares t l a w
      → StepsAlone w t l (RwLock l a c) v q → v < 2 ^ 64
  small_at w v q c shares f = subst (λ n. n < 2 ^ 64) f.word (word_small w l f.inductive shares.0)

  entry_rests : (x : Access) (retries : Bool) (to : RwLockAt) (v : ℕ) (w : State) (q : Line → List Waiter)
      → Shares t l a w
      → MayStand a (of (purpose.Enter x Patient) retries to)
      → rwlock_act l a (of (purpose.Enter x Patient) retries to) ≢ act.Sleep
      → StepsAlone w t l (RwLock l a (Bump (of (purpose.Enter x Patient) retries to))) v q
      → Leads 11 w t Resting
  entry_rests x retries to v w q shares may up f = λ k last enough. let same_end =
      as_entry x retries to v w q shares may f k last in
      elim (rwlock_rests t l a entry v (as_plain w t l a entry) q (small_at w v q (Bump entry) shares f)
      (is_ready t l a entry may up) (plain_alone w entry v q shares may f) k last enough) [
        | inl rests ↦ inl (subst EndsOrSleeps same_end.0 rests)
        | inr barred ↦ inr (same_end.2 barred)
      ]
    where
      entry : RwLockPlace
      entry = of (purpose.Enter x Patient) retries to

  -- where a bump enters again
  pub first_may : (x : Access) → MayStand a (rwlock_first (purpose.Enter x Patient))
  first_may access.Exclusive = record { place = tt; fresh = tt; decided = tt }
  first_may access.Shared = record { place = tt; fresh = tt; decided = tt }
  first_may access.Upgradable = record { place = tt; fresh = tt; decided = tt }

  -- there its runs come to the same as those of a call that only enters
  pub as_first : (x : Access) (v : ℕ) (w : State) (q : Line → List Waiter) → Shares t l a w
      → StepsAlone w t l (RwLock l a (enters_again x)) v q → (k : ℕ) (last : Outcome)
      → SameEnd t l a x (solo k (as_plain w t l a (rwlock_first (purpose.Enter x Patient))) t last)
      (solo k w t last)
  as_first access.Exclusive v w q shares f k last = as_entry access.Exclusive false at.First v w q shares
      (first_may access.Exclusive) f k last
  as_first access.Shared v w q shares f k last = as_entry access.Shared false at.Load v w q shares
      (first_may access.Shared) f k last
  as_first access.Upgradable v w q shares f k last = as_entry access.Upgradable false at.Load v w q shares
      (first_may access.Upgradable) f k last

  pub first_seen : (x : Access) (w : State) → place_at w t ≡ RwLock l a (enters_again x) → (k : ℕ)
      → lock_state (as_plain w t l a (rwlock_first (purpose.Enter x Patient))) k ≡ lock_state w k
  first_seen x w is k = locks_kept w t l (Plain (rwlock_first (purpose.Enter x Patient))) (enters_again x) a
      (λ j. refl) is k

  pub again_rests : (x : Access) (v : ℕ) (w : State) (q : Line → List Waiter) → Shares t l a w
      → StepsAlone w t l (RwLock l a (enters_again x)) v q → Leads 11 w t Resting
  again_rests access.Exclusive v w q shares f = entry_rests access.Exclusive false at.First v w q shares
      (first_may access.Exclusive) (λ e. cc) f
  again_rests access.Shared v w q shares f = entry_rests access.Shared false at.Load v w q shares
      (first_may access.Shared) (λ e. cc) f
  again_rests access.Upgradable v w q shares f = entry_rests access.Upgradable false at.Load v w q shares
      (first_may access.Upgradable) (λ e. cc) f

  ends_rest : (b : Bool) (x : Access) (k : ℕ) (w : State) → Leads k w t (Ends t l a b x w)
      → Leads k w t Resting
  ends_rest true x k w h = leads_then k w t (Ends t l a true x w) Resting (λ v o e. let again = e.0 refl in
      subst (λ (z : State × Outcome). OrBarred t Resting z.0 z.1) (λ i. (again.state i, again.outcome_is i))
      (again_rests x again.word _ again.queues again.shares again.alone again.room again.last
      again.enough)) h
  ends_rest false x k w h = leads_so k w t (Ends t l a false x w) Resting (λ v o e. subst EndsOrSleeps
      (sym (e.1 refl)) tt) h

  bump_rests : (q : RwLockPurpose) (retries : Bool) (to : RwLockAt) (v : ℕ) (w : State) (line : Line
      → List Waiter)
      → Shares t l a w → v < 2 ^ 64 → MayStand a (of q retries to) → IsOfBump q retries
      → rwlock_act l a (of q retries to) ≢ act.Sleep → StepsAlone w t l (RwLock l a (Bump (of q retries to)))
      v line
      → Leads 18 w t Resting
  bump_rests (purpose.Enter x Patient) retries to v w line shares small may bump up f =
      leads_more 11 18 w t Resting (omega arith) (entry_rests x retries to v w line shares may up f)
  bump_rests (purpose.Release access.Shared) true to v w line shares small may bump up f =
      absurd (let e : true ≡ false = bump in cc)
  bump_rests (purpose.Release access.Shared) false to v w line shares small may bump up f =
      by_place to may.place f
    where
      by_place : (to : RwLockAt) → StandsAt (purpose.Release access.Shared) false to
          → StepsAlone w t l (RwLock l a (Bump (of (purpose.Release access.Shared) false to))) v line
          → Leads 18 w t Resting
      by_place at.GiveWay fits f = leads_more 16 18 w t Resting (omega arith)
          (ends_rest true access.Shared 16 w (gives_rest t l a v w line shares f))
      by_place (at.Wake Second to) fits f = leads_more 15 18 w t Resting (omega arith)
          (ends_rest true access.Shared 15 w (wakes_rest t l a to v w line shares f))
      by_place to fits f = absurd fits
  bump_rests q retries to v w line shares small may bump up f = absurd bump

  -- from each place of a call where the thread is awake
  pub call_rests : (c : RwLockCallPlace) (v : ℕ) (w : State) (q : Line → List Waiter) → Shares t l a w
      → v < 2 ^ 64
      → CallStands a c → act_of (RwLock l a c) ≢ act.Sleep → StepsAlone w t l (RwLock l a c) v q
      → Leads 18 w t Resting
  call_rests (Plain p) v w q shares small stands up f = leads_more 11 18 w t Resting (omega arith)
      (rwlock_rests t l a p v w q small (is_ready t l a p stands up) f)
  call_rests (Bump p) v w q shares small stands up f = bump_rests p.purpose p.retries p.at v w q shares small
      stands.0 stands.1 up f
  call_rests (PeekQueue x) v w q shares small stands up f =
      ends_rest (gives_way a x v) x 18 w (glance_rests t l a x v w q shares f)
  call_rests (HandOver x b to) v w q shares small stands up f = leads_more 17 18 w t Resting (omega arith)
      (ends_rest b x 17 w (hands_over_rest t l a x b to stands v w q shares f))
  call_rests (Handed x how b (handed.Asleep by alone)) v w q shares small stands up f = absurd (up refl)
  call_rests (Handed x how b handed.Accept) v w q shares small stands up f =
      leads_more 1 18 w t Resting (omega arith) (accepts_rest t l a x how b v w q f)
