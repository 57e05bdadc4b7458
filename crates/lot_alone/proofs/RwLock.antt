-- A call of a reader-writer lock whose thread steps alone: from each place, where it ends or falls asleep.
use Rattle.lot_laws.proofs.Imports
use Imports.{ℕ, Bool, true, false, Option, Some, None, if◌then◌else◌, ◌==◌, ◌&&◌, not, ◌≡◌, ◌≢◌, ◌+◌, ◌-◌, ◌*◌}
use Imports.{◌%◌, ◌≤◌, ◌<◌, ◌^◌, length, drop, List, [], ◌∷◌, ◌++◌, refl, sym, ◌∙◌, ap, subst, arith, eqb-true}
use Imports.{One, Waiter, Want, apply, Access, Downgrade, Patience, Patient, Timed, Try, Answer, Outcome, Next}
use Imports.{At, Value, holds, outcome_of, waiter, first_of, Admission, RwLockPlace, RwLockPurpose, RwLockAt}
use Imports.{Decision, ParkAt, WakeAt, act_at, park_act, wanted, access_of, patience_of, want_at, start_of}
use Imports.{ends_with, entered, is_counted, decision, decided, decided_for, decided_act, exchanged_next}
use Imports.{decision_blocked, park_or_mark, exchange, plus, word_taken, rwlock_act, rwlock_next, park_check}
use Imports.{unparked, whom, after_count, looked_by, came_in, gave_way, parks_at, missed, clears, rollback_op}
use Imports.{give_op, bit, code, code_of, rw_code, writers, count_in, has_aside, has_parked, is_blocked, bars}
use Imports.{leaves_readers, Site, IsSite, has_readers, Line, Main, Second, Idle, RwLock, Plain, act_of, State}
use Imports.{word_at, queue_at, queues_without_first, state_after_taking, after, go_of, IsNoRefusal, MayStand}
use Imports.{StandsAt, IsDecided, decides_to_park, aside_set, IsInductive, key_of, rules_in, site_of, Rules}
use Imports.{Sort, Recursive, count, one_if_some, EndsOrSleeps}
use Rattle.std.proofs.Common.{nat_le}
use Rattle.core_base.specs.declared.ops.Op.TheVariants as op
use Rattle.spec_locks.specs.declared.calls.Access.TheVariants as access
use Rattle.spec_locks.specs.declared.outcomes.Answer.TheVariants as answer
use Rattle.spec_locks.specs.declared.outcomes.Outcome.TheVariants as outcome
use Rattle.steps_base.specs.declared.acts.Act.TheVariants as act
use Rattle.steps_base.specs.declared.acts.Next.TheVariants.{End}
use Rattle.steps_base.specs.declared.acts.Wakes.TheVariants as wakes
use Rattle.steps_base.specs.declared.acts.TakeWhich.TheVariants as whoms
use Rattle.steps_rwlock.specs.declared.purposes.RwLockPurpose.TheVariants as purpose
use Rattle.steps_rwlock.specs.declared.places.RwLockAt.TheVariants as at
use Rattle.steps_rwlock.specs.declared.enter.Decision.TheVariants as decisions
use Rattle.steps_rwlock.specs.declared.park.ParkAt.TheVariants as parking
use Rattle.steps_rwlock.specs.declared.release.WakeAt.TheVariants as waking
use Rattle.steps_rwlock.specs.RwLockSteps.{looked}
use Rattle.steps_rwlock.specs.RwLockSteps.{took}
use Rattle.lot_laws.proofs.calls.PlainCalls.{plain_goes, plain_does}
use Rattle.spec_locks.specs.Locks.{Mutex, Normal, Semaphore, Once}
use Rattle.spec_locks.specs.Locks.{Condvar}
use Rattle.lot_laws.proofs.machine.Parts.{same}
use Rattle.lot_alone.proofs.Leads.{Leads, leads_rest, leads_step, leads_more, leads_so}
use Rattle.lot_alone.proofs.TwoLines.{StepsAlone, Comes, leads_into, word_comes, leave_comes, park_comes}
use Rattle.lot_alone.proofs.TwoLines.{parks_last, remove_comes, take_comes}

-- ---------------------------------------------------------------- runs of a thread alone

abbrev Resting : State → Outcome → Type 0
Resting v x = EndsOrSleeps x

module _ (t l : ℕ) (a : Admission) where
  abbrev Alone : State → RwLockPlace → ℕ → (Line → List Waiter) → Type 0
  Alone w p v q = StepsAlone w t l (RwLock l a (Plain p)) v q

  abbrev to : RwLockPlace → RwLockAt → RwLockPlace
  to p at = record p { at = at }

  -- the thread ends, or goes on from another place
  module _ (w : State) (P : State → Outcome → Type 0) where
    ends : (v : ℕ) (q : Line → List Waiter) (answer : Answer) (n : Next RwLockPlace) → n ≡ End answer
        → Comes w t l (plain_goes l a n) (outcome_of (plain_does l a n)) v q
        → (P (after w (go_of t)) (outcome.End answer)) → Leads 1 w t P
    ends v q answer n is c h = leads_rest w t P (outcome.End answer) (c.0
        ∙ ap (λ x. outcome_of (plain_does l a x)) is) tt h

    sleeps : (v : ℕ) (q : Line → List Waiter) (p2 : RwLockPlace) (n : Next RwLockPlace) → n ≡ At p2
        → outcome_of (rwlock_act l a p2) ≡ outcome.Sleep
        → Comes w t l (plain_goes l a n) (outcome_of (plain_does l a n)) v q
        → P (after w (go_of t)) outcome.Sleep → Leads 1 w t P
    sleeps v q p2 n is rests c h = leads_rest w t P outcome.Sleep (c.0
        ∙ ap (λ x. outcome_of (plain_does l a x)) is ∙ rests) tt h

    goes : (k v : ℕ) (q : Line → List Waiter) (p2 : RwLockPlace) (n : Next RwLockPlace) → n ≡ At p2
        → outcome_of (rwlock_act l a p2) ≡ outcome.Step → Comes w t l (plain_goes l a n)
        (outcome_of (plain_does l a n)) v q → (Alone (after w (go_of t)) p2 v q
        → Leads k (after w (go_of t)) t P) → Leads (k + 1) w t P
    goes k v q p2 n is more c h = leads_step w t P k (c.0 ∙ ap (λ x. outcome_of (plain_does l a x)) is ∙ more)
        (h (subst (λ x. StepsAlone (after w (go_of t)) t l (plain_goes l a x) v q) is c.1))

  -- ---------------------------------------------------------------- into a line

  -- the thread sleeps, as the last of the line
  abbrev pub Sleeps : Line → RwLockPlace → (Line → List Waiter) → State → Outcome → Type 0
  Sleeps m p q v x = (x ≡ outcome.Sleep) × (queue_at v (key_of l m) ≡ q m ++ waiter (key_of l m) t (want_at p)
      ∷ [])

  abbrev again : RwLockPlace → RwLockAt → Bool → RwLockPlace
  again p to retries = record { purpose = p.purpose; retries = retries; at = to }

  parks_sleeps : (m : Line) (p : RwLockPlace) (retries : Bool) (v : ℕ) (w : State) (q q2 : Line → List Waiter)
      → q2 m ≡ q m ++ waiter (key_of l m) t (want_at p) ∷ []
      → Alone w (again p (parks_at m (parking.Leave true)) retries) v q2 → Leads 1 w t (Sleeps m p q)
  parks_sleeps Main p retries v w q q2 last f = let c = leave_comes w t l _ v q2 f Main wakes.Nobody refl
      in sleeps w (Sleeps Main p q) v q2 (again p (at.Park parking.Asleep) retries) _ refl refl c (
        refl,
        c.1.queue Main ∙ last,
      )
  parks_sleeps Second p retries v w q q2 last f = let c = leave_comes w t l _ v q2 f Second wakes.Nobody refl
      in sleeps w (Sleeps Second p q) v q2 (again p (at.Aside parking.Asleep) retries) _ refl refl c (
        refl,
        c.1.queue Second ∙ last,
      )

  -- the thread's way is barred, or readers are left
  check_sleeps : (p : RwLockPlace) (v : ℕ) (w : State) (q : Line → List Waiter)
      → bars a.recursive (want_at p) v ≡ true → Alone w (to p (at.Park parking.Check)) v q
      → Leads 2 w t (Sleeps Main p q)
  check_sleeps p v w q barred f = let c = park_comes w t l _ v q f (2 * l) (park_check a (want_at p) Main)
      (want_at p) true refl barred in
      goes w (Sleeps Main p q) 1 v _ (again p (at.Park (parking.Leave true)) (p.retries && not true)) _ refl
      refl c
      (λ g. parks_sleeps Main p (p.retries && not true) v _ q _ (parks_last w t l _ v q f refl Main
      (want_at p)) g)

  aside_sleeps : (p : RwLockPlace) (v : ℕ) (w : State) (q : Line → List Waiter) → leaves_readers v ≡ true
      → Alone w (to p (at.Aside parking.Check)) v q → Leads 2 w t (Sleeps Second p q)
  aside_sleeps p v w q left f = let c = park_comes w t l _ v q f (2 * l + 1) (park_check a (want_at p) Second)
      (want_at p) true refl left in
      goes w (Sleeps Second p q) 1 v _ (again p (at.Aside (parking.Leave true)) (p.retries && not true)) _
      refl refl c
      (λ g. parks_sleeps Second p (p.retries && not true) v _ q _ (parks_last w t l _ v q f refl Second
      (want_at p)) g)

  -- ---------------------------------------------------------------- waiters

  -- the decision of a thread that waits, by the parked bit that it saw
  abbrev waiting : Bool → Decision
  waiting parked = if parked then decisions.Park else decisions.Mark

  record IsBarred (x : Want) (v : ℕ) (parked : Bool) : Type 0 where
    pub blocked : is_blocked a.recursive x v ≡ true
    pub bit : has_parked v ≡ parked

  waits_by : (b parked : Bool) → park_or_mark b ≡ waiting parked → b ≡ parked
  waits_by true true h = refl
  waits_by true false h = absurd cc
  waits_by false true h = absurd cc
  waits_by false false h = refl

  blocked_by : (how : Patience) (v : ℕ) (parked : Bool) → decision_blocked how v ≡ waiting parked
      → has_parked v ≡ parked
  blocked_by Try v true h = absurd cc
  blocked_by Try v false h = absurd cc
  blocked_by Patient v parked h = waits_by (has_parked v) parked h
  blocked_by Timed v parked h = waits_by (has_parked v) parked h

  refuses_not : (c parked : Bool) → (if c then decisions.Refuse answer.ReadersFull else decisions.Take)
      ≡ waiting parked → ⊥
  refuses_not true true h = absurd cc
  refuses_not true false h = absurd cc
  refuses_not false true h = absurd cc
  refuses_not false false h = absurd cc

  barred_by : (x : Want) (how : Patience) (v : ℕ) (parked : Bool) → decision a x how v ≡ waiting parked
      → IsBarred x v parked
  barred_by x how v parked h = either (is_blocked a.recursive x v) refl h
    where
      either : (b : Bool) → is_blocked a.recursive x v ≡ b
          → (if b then decision_blocked how v else if is_counted x && nat_le a.limit (count_in v)
          then decisions.Refuse answer.ReadersFull else decisions.Take) ≡ waiting parked → IsBarred x v parked
      either true e g = record { blocked = e; bit = blocked_by how v parked g }
      either false e g = absurd (refuses_not (is_counted x && nat_le a.limit (count_in v)) parked g)

  tries_not : (b parked : Bool) → (if b then decisions.Take else decisions.Refuse answer.No) ≡ waiting parked
      → ⊥
  tries_not true true h = absurd cc
  tries_not true false h = absurd cc
  tries_not false true h = absurd cc
  tries_not false false h = absurd cc

  barred : (p : RwLockPlace) (v : ℕ) (parked : Bool) → decided a p v ≡ waiting parked
      → IsBarred (want_at p) v parked
  barred p v parked h = by_purpose p.purpose h
    where
      by_purpose : (q : RwLockPurpose) → decided_for a q v ≡ waiting parked
          → IsBarred (wanted (access_of q)) v parked
      by_purpose (purpose.Upgrade how) g = absurd (tries_not (count_in v == 1) parked g)
      by_purpose (purpose.Enter x how) g = barred_by (wanted x) how v parked g
      by_purpose (purpose.Release x) g = barred_by (wanted x) Patient v parked g
      by_purpose (purpose.Downgrade d) g = barred_by (wanted (access_of (purpose.Downgrade d))) Patient v
          parked g

  -- ---------------------------------------------------------------- by the word as it is

  abbrev decides : RwLockPlace → ℕ → RwLockPlace
  decides p v = again p (at.Decide v) p.retries

  parks_leads : (p : RwLockPlace) (v : ℕ) (w : State) (q : Line → List Waiter) → decided a p v
      ≡ decisions.Park → Alone w (decides p v) v q → Leads 3 w t (Sleeps Main p q)
  parks_leads p v w q e f = let b = barred p v true e in
      leads_into w t l _ v q f (Sleeps Main p q) 2 Main (ap (λ d. decided_act l p.purpose v d) e) refl refl
      (λ g. check_sleeps p v _ q (rw (b.bit, b.blocked) refl) g)

  marks_leads : (p : RwLockPlace) (v : ℕ) (w : State) (q : Line → List Waiter) → v < 2 ^ 64 → decided a p v
      ≡ decisions.Mark → Alone w (decides p v) v q → Leads 4 w t (Sleeps Main p q)
  marks_leads p v w q small e f = let c = word_comes w t l _ v q f (op.Exchange v (plus v 1))
      (ap (λ d. decided_act l p.purpose v d) e) in
      let afterwards : decided a p (plus v 1) ≡ decisions.Park = decides_to_park a p.purpose v small e in
      goes w (Sleeps Main p q) 3 _ q (decides p (plus v 1)) _ (ap (exchanged_next a (decides p v) v v) e
      ∙ ap (λ (b : Bool). if b then At (decides p (plus v 1)) else looked a (decides p v) v) (same v))
      (ap (λ d. outcome_of (decided_act l p.purpose (plus v 1) d)) afterwards) c
      (λ g. parks_leads p (plus v 1) _ q afterwards
      (subst (λ y. Alone (after w (go_of t)) (decides p (plus v 1)) y q)
      (ap (λ (b : Bool). if b then plus v 1 else v) (same v)) g))

  -- ---------------------------------------------------------------- a pending writer

  count_aside : (p : RwLockPlace) (v : ℕ) (w : State) (q : Line → List Waiter) → has_aside v ≡ true
      → (count_in v == 0) ≡ false → Alone w (to p (at.Count v)) v q → Leads 3 w t (Sleeps Second p q)
  count_aside p v w q bit left f =
      leads_into w t l _ v q f (Sleeps Second p q) 2 Second
      (ap (λ (b : Bool). if b then act.Enter (One (2 * l + 1)) else exchange l v (plus v 2)) bit) refl
      refl (λ g. aside_sleeps p v _ q (rw (bit, left) refl) g)

  marked_aside : (p : RwLockPlace) (v : ℕ) (w : State) (q : Line → List Waiter) → has_aside v ≡ true
      → (count_in v == 0) ≡ false → Alone w (to p at.Marked) v q → Leads 3 w t (Sleeps Second p q)
  marked_aside p v w q bit left f =
      leads_into w t l _ v q f (Sleeps Second p q) 2 Second refl refl refl
      (λ g. aside_sleeps p v _ q (rw (bit, left) refl) g)

  count_marks : (p : RwLockPlace) (v : ℕ) (w : State) (q : Line → List Waiter) → v < 2 ^ 64 → has_aside v
      ≡ false → (count_in v == 0) ≡ false → Alone w (to p (at.Count v)) v q → Leads 4 w t (Sleeps Second p q)
  count_marks p v w q small bit left f = let c = word_comes w t l _ v q f (op.Exchange v (plus v 2))
      (ap (λ (b : Bool). if b then act.Enter (One (2 * l + 1)) else exchange l v (plus v 2)) bit) in
      let m = aside_set v small bit in
      goes w (Sleeps Second p q) 3 _ q (again p at.Marked p.retries) _
      (ap (λ (b : Bool). if b then At (again p at.Marked p.retries) else after_count (to p (at.Count v))
      v) (same v))
      refl c
      (λ g. marked_aside p (plus v 2) _ q m.0 (ap (λ n. n == 0) m.1 ∙ left)
      (subst (λ y. Alone (after w (go_of t)) (again p at.Marked p.retries) y q)
      (ap (λ (b : Bool). if b then plus v 2 else v) (same v)) g))

  count_leads : (p : RwLockPlace) (v : ℕ) (w : State) (q : Line → List Waiter) → v < 2 ^ 64
      → (count_in v == 0) ≡ false → Alone w (to p (at.Count v)) v q → Leads 4 w t (Sleeps Second p q)
  count_leads p v w q small left f = either (has_aside v) refl
    where
      either : (b : Bool) → has_aside v ≡ b → Leads 4 w t (Sleeps Second p q)
      either true e = leads_more 3 4 w t (Sleeps Second p q) (omega arith) (count_aside p v w q e left f)
      either false e = count_marks p v w q small e left f

  counts_step : (v : ℕ) (b : Bool) → outcome_of (if b then act.Enter (One (2 * l + 1)) else exchange l v
      (plus v 2)) ≡ outcome.Step
  counts_step v true = refl
  counts_step v false = refl

  -- the thread owns where nobody shares, and else it sleeps aside
  abbrev pub Settles : Bool → RwLockPlace → (Line → List Waiter) → State → Outcome → Type 0
  Settles true p q v x = x ≡ outcome.End (entered (patience_of p.purpose))
  Settles false p q v x = Sleeps Second p q v x

  look_leads : (p : RwLockPlace) (v : ℕ) (w : State) (q : Line → List Waiter) → v < 2 ^ 64
      → Alone w (to p at.Look) v q → Leads 5 w t (Settles (count_in v == 0) p q)
  look_leads p v w q small f = either (count_in v == 0) refl (word_comes w t l _ v q f op.Load refl)
    where
      counting : Bool → Next RwLockPlace
      counting b = if b then End (entered (patience_of p.purpose)) else At (again p (at.Count v) p.retries)

      either : (b : Bool) → (count_in v == 0) ≡ b → Comes w t l (plain_goes l a (counting b))
          (outcome_of (plain_does l a (counting b))) v q → Leads 5 w t (Settles b p q)
      either true e c = leads_more 1 5 w t (Settles true p q) (omega arith)
          (ends w (Settles true p q) v q (entered (patience_of p.purpose)) (counting true) refl c refl)
      either false e c = goes w (Settles false p q) 4 v q (again p (at.Count v) p.retries) (counting false)
          refl (counts_step v (has_aside v)) c (λ g. count_leads p v _ q small e g)

  -- ---------------------------------------------------------------- from a look

  -- a thread that takes a right has it, and a writer looks for readers then
  abbrev pub Takes : RwLockPurpose → Bool → ℕ → (Line → List Waiter) → State → Outcome → Type 0
  Takes (purpose.Enter access.Exclusive how) retries v q s x = Settles (count_in (plus v 8) == 0) (record {
    purpose = purpose.Enter access.Exclusive how;
    retries = retries;
    at = at.Look;
  }) q s x
  Takes r retries v q s x = x ≡ outcome.End (entered (patience_of r))

  abbrev pub place_for : RwLockPurpose → Bool → RwLockAt → RwLockPlace
  place_for r retries at = record { purpose = r; retries = retries; at = at }

  below : (n : ℕ) → n % 2 ^ 64 < 2 ^ 64
  below n = omega arith

  won : (v x : ℕ) → apply (op.Exchange v x) v ≡ x
  won v x = ap (λ (b : Bool). if b then x else v) (same v)

  takes_leads : (r : RwLockPurpose) (retries : Bool) (v : ℕ) (w : State) (q : Line → List Waiter)
      → decided_for a r v ≡ decisions.Take → Alone w (place_for r retries (at.Decide v)) v q
      → Leads 6 w t (Takes r retries v q)
  takes_leads r retries v w q e f = by_purpose r e (word_comes w t l _ v q f (op.Exchange v (word_taken r v))
      (ap (λ d. decided_act l r v d) e))
    where
      is_next : (r : RwLockPurpose) → decided_for a r v ≡ decisions.Take
          → rwlock_next a (place_for r retries (at.Decide v)) (Value v) ≡ came_in
          (place_for r retries (at.Decide v))
      is_next r e = ap (exchanged_next a (place_for r retries (at.Decide v)) v v) e
          ∙ ap (λ (b : Bool). if b then came_in (place_for r retries (at.Decide v)) else looked a
          (place_for r retries (at.Decide v)) v) (same v)

      finished : (r : RwLockPurpose) → decided_for a r v ≡ decisions.Take
          → came_in (place_for r retries (at.Decide v)) ≡ End (entered (patience_of r))
          → Comes w t l (plain_goes l a (rwlock_next a (place_for r retries (at.Decide v)) (Value v)))
          (outcome_of (plain_does l a (rwlock_next a (place_for r retries (at.Decide v)) (Value v))))
          (apply (op.Exchange v (word_taken r v)) v) q
          → Leads 6 w t (λ s x. x ≡ outcome.End (entered (patience_of r)))
      finished r e ended c = leads_more 1 6 w t (λ s x. x ≡ outcome.End (entered (patience_of r)))
          (omega arith) (ends w (λ s x. x ≡ outcome.End (entered (patience_of r))) _ q
          (entered (patience_of r)) _ (is_next r e ∙ ended) c refl)

      by_purpose : (r : RwLockPurpose) → decided_for a r v ≡ decisions.Take
          → Comes w t l (plain_goes l a (rwlock_next a (place_for r retries (at.Decide v)) (Value v)))
          (outcome_of (plain_does l a (rwlock_next a (place_for r retries (at.Decide v)) (Value v))))
          (apply (op.Exchange v (word_taken r v)) v) q → Leads 6 w t (Takes r retries v q)
      by_purpose (purpose.Enter access.Exclusive how) e c =
          goes w (Takes (purpose.Enter access.Exclusive how) retries v q) 5 _ q
          (place_for (purpose.Enter access.Exclusive how) false at.Look) _
          (is_next (purpose.Enter access.Exclusive how) e) refl c
          (λ g. settled (look_leads (place_for (purpose.Enter access.Exclusive how) false at.Look) (plus v 8)
          _ q (below (v + 8)) (subst (λ y. Alone (after w (go_of t))
          (place_for (purpose.Enter access.Exclusive how) false at.Look) y q) (won v (plus v 8)) g)))
        where
          settled : Leads 5 (after w (go_of t)) t (Settles (count_in (plus v 8) == 0)
              (place_for (purpose.Enter access.Exclusive how) false at.Look) q)
              → Leads 5 (after w (go_of t)) t (Takes (purpose.Enter access.Exclusive how) retries v q)
          settled h = leads_so 5 (after w (go_of t)) t (Settles (count_in (plus v 8) == 0)
              (place_for (purpose.Enter access.Exclusive how) false at.Look) q)
              (Takes (purpose.Enter access.Exclusive how) retries v q) (so (count_in (plus v 8) == 0)) h
            where
              so : (b : Bool) (s : State) (x : Outcome)
                  → Settles b (place_for (purpose.Enter access.Exclusive how) false at.Look) q s x
                  → Settles b (place_for (purpose.Enter access.Exclusive how) retries at.Look) q s x
              so true s x g = g
              so false s x g = g
      by_purpose (purpose.Enter access.Shared how) e c = finished (purpose.Enter access.Shared how) e refl c
      by_purpose (purpose.Enter access.Upgradable how) e c = finished (purpose.Enter access.Upgradable how) e
          refl c
      by_purpose (purpose.Release x) e c = finished (purpose.Release x) e refl c
      by_purpose (purpose.Downgrade d) e c = finished (purpose.Downgrade d) e refl c
      by_purpose (purpose.Upgrade how) e c = finished (purpose.Upgrade how) e refl c

  -- by its decision about the word as it is
  abbrev pub Decides : Decision → RwLockPlace → ℕ → (Line → List Waiter) → State → Outcome → Type 0
  Decides (decisions.Refuse answer) p v q s x = x ≡ outcome.End answer
  Decides decisions.Take p v q s x = Takes p.purpose p.retries v q s x
  Decides decision p v q s x = Sleeps Main p q s x

  fresh_leads : (p : RwLockPlace) (v : ℕ) (w : State) (q : Line → List Waiter) → v < 2 ^ 64 → (d : Decision)
      → IsNoRefusal d → decided a p v ≡ d → Alone w (decides p v) v q → Leads 6 w t (Decides d p v q)
  fresh_leads p v w q small decisions.Take h e f = takes_leads p.purpose p.retries v w q e f
  fresh_leads p v w q small decisions.Mark h e f = leads_more 4 6 w t (Sleeps Main p q) (omega arith)
      (marks_leads p v w q small e f)
  fresh_leads p v w q small decisions.Park h e f = leads_more 3 6 w t (Sleeps Main p q) (omega arith)
      (parks_leads p v w q e f)
  fresh_leads p v w q small (decisions.Refuse answer) h e f = absurd h

  -- the thread has looked at the word as it is
  looked_leads : (p : RwLockPlace) (v : ℕ) (w : State) (q : Line → List Waiter) (n : Next RwLockPlace)
      → v < 2 ^ 64 → n ≡ looked a p v → Comes w t l (plain_goes l a n) (outcome_of (plain_does l a n)) v q
      → Leads 7 w t (Decides (decided a p v) p v q)
  looked_leads p v w q n small is c = by_decision (decided a p v) refl is
    where
      by_decision : (d : Decision) → decided a p v ≡ d → n ≡ looked_by p v d → Leads 7 w t (Decides d p v q)
      by_decision (decisions.Refuse answer) e g = leads_more 1 7 w t (Decides (decisions.Refuse answer) p v q)
          (omega arith) (ends w (Decides (decisions.Refuse answer) p v q) v q answer n g c refl)
      by_decision decisions.Take e g = goes w (Decides decisions.Take p v q) 6 v q (decides p v) n g
          (ap (λ d. outcome_of (decided_act l p.purpose v d)) e) c (λ f. fresh_leads p v _ q small
          decisions.Take tt e f)
      by_decision decisions.Mark e g = goes w (Decides decisions.Mark p v q) 6 v q (decides p v) n g
          (ap (λ d. outcome_of (decided_act l p.purpose v d)) e) c (λ f. fresh_leads p v _ q small
          decisions.Mark tt e f)
      by_decision decisions.Park e g = goes w (Decides decisions.Park p v q) 6 v q (decides p v) n g
          (ap (λ d. outcome_of (decided_act l p.purpose v d)) e) c (λ f. fresh_leads p v _ q small
          decisions.Park tt e f)

  pub load_leads : (p : RwLockPlace) (v : ℕ) (w : State) (q : Line → List Waiter) → v < 2 ^ 64
      → Alone w (to p at.Load) v q → Leads 7 w t (Decides (decided a p v) p v q)
  load_leads p v w q small f = looked_leads p v w q _ small refl (word_comes w t l _ v q f op.Load refl)

  -- a writer tries an unlocked word first
  abbrev pub Tries : Bool → Patience → RwLockPlace → ℕ → (Line → List Waiter) → State → Outcome → Type 0
  Tries true how p v q s x = x ≡ outcome.End (entered how)
  Tries false Try p v q s x = x ≡ outcome.End answer.No
  Tries false how p v q s x = Decides (decided a p v) p v q s x

  pub first_leads : (p : RwLockPlace) (v : ℕ) (w : State) (q : Line → List Waiter) → v < 2 ^ 64
      → Alone w (to p at.First) v q → Leads 8 w t (Tries (v == 0) (patience_of p.purpose) p v q)
  first_leads p v w q small f = either (v == 0) (patience_of p.purpose) (word_comes w t l _ v q f
      (op.Exchange 0 8) refl) refl refl
    where
      ended : (P : State → Outcome → Type 0) (x : ℕ) (answer : Answer) → Comes w t l Idle (outcome.End answer)
          x q → P (after w (go_of t)) (outcome.End answer) → Leads 8 w t P
      ended P x answer c h = leads_more 1 8 w t P (omega arith) (leads_rest w t P (outcome.End answer) c.0 tt
          h)

      looks : (how : Patience) → (v == 0) ≡ false → Comes w t l (RwLock l a (Plain (to p at.Load)))
          outcome.Step (if v == 0 then 8 else v) q → Leads 8 w t (Decides (decided a p v) p v q)
      looks how e c = leads_step w t (Decides (decided a p v) p v q) 7 c.0
          (load_leads p v _ q small (subst (λ y. Alone (after w (go_of t)) (to p at.Load) y q)
          (ap (λ (b : Bool). if b then 8 else v) e) c.1))

      either : (b : Bool) (how : Patience)
          → Comes w t l (plain_goes l a (if b then End (entered how) else missed p how))
          (outcome_of (plain_does l a (if b then End (entered how) else missed p how))) (if v == 0 then 8
          else v) q → (v == 0) ≡ b → patience_of p.purpose ≡ how → Leads 8 w t (Tries b how p v q)
      either true how c e g = ended (Tries true how p v q) _ (entered how) c refl
      either false Try c e g = ended (Tries false Try p v q) _ answer.No c refl
      either false Patient c e g = looks Patient e c
      either false Timed c e g = looks Timed e c

  -- ---------------------------------------------------------------- from any place

  sleeps_so : (m : Line) (p : RwLockPlace) (q : Line → List Waiter) (s : State) (x : Outcome)
      → Sleeps m p q s x → EndsOrSleeps x
  sleeps_so m p q s x h = rw (h.0) tt

  settles_so : (b : Bool) (p : RwLockPlace) (q : Line → List Waiter) (s : State) (x : Outcome)
      → Settles b p q s x → EndsOrSleeps x
  settles_so true p q s x h = rw h tt
  settles_so false p q s x h = sleeps_so Second p q s x h

  takes_so : (r : RwLockPurpose) (retries : Bool) (v : ℕ) (q : Line → List Waiter) (s : State) (x : Outcome)
      → Takes r retries v q s x → EndsOrSleeps x
  takes_so (purpose.Enter access.Exclusive how) retries v q s x h = settles_so (count_in (plus v 8) == 0) _ q
      s x h
  takes_so (purpose.Enter access.Shared how) retries v q s x h = rw h tt
  takes_so (purpose.Enter access.Upgradable how) retries v q s x h = rw h tt
  takes_so (purpose.Release y) retries v q s x h = rw h tt
  takes_so (purpose.Downgrade d) retries v q s x h = rw h tt
  takes_so (purpose.Upgrade how) retries v q s x h = rw h tt

  decides_so : (d : Decision) (p : RwLockPlace) (v : ℕ) (q : Line → List Waiter) (s : State) (x : Outcome)
      → Decides d p v q s x → EndsOrSleeps x
  decides_so (decisions.Refuse answer) p v q s x h = rw h tt
  decides_so decisions.Take p v q s x h = takes_so p.purpose p.retries v q s x h
  decides_so decisions.Mark p v q s x h = sleeps_so Main p q s x h
  decides_so decisions.Park p v q s x h = sleeps_so Main p q s x h

  tries_so : (b : Bool) (how : Patience) (p : RwLockPlace) (v : ℕ) (q : Line → List Waiter) (s : State)
      (x : Outcome) → Tries b how p v q s x → EndsOrSleeps x
  tries_so true how p v q s x h = rw h tt
  tries_so false Try p v q s x h = rw h tt
  tries_so false Patient p v q s x h = decides_so (decided a p v) p v q s x h
  tries_so false Timed p v q s x h = decides_so (decided a p v) p v q s x h

  looked_rests : (p : RwLockPlace) (v : ℕ) (w : State) (q : Line → List Waiter) (n : Next RwLockPlace)
      → v < 2 ^ 64 → n ≡ looked a p v → Comes w t l (plain_goes l a n) (outcome_of (plain_does l a n)) v q
      → Leads 7 w t Resting
  looked_rests p v w q n small is c = leads_so 7 w t (Decides (decided a p v) p v q) Resting
      (decides_so (decided a p v) p v q) (looked_leads p v w q n small is c)

  load_rests : (p : RwLockPlace) (v : ℕ) (w : State) (q : Line → List Waiter) → v < 2 ^ 64
      → Alone w (to p at.Load) v q → Leads 7 w t Resting
  load_rests p v w q small f = leads_so 7 w t (Decides (decided a p v) p v q) Resting
      (decides_so (decided a p v) p v q) (load_leads p v w q small f)

  look_rests : (p : RwLockPlace) (v : ℕ) (w : State) (q : Line → List Waiter) → v < 2 ^ 64
      → Alone w (to p at.Look) v q → Leads 5 w t Resting
  look_rests p v w q small f = leads_so 5 w t (Settles (count_in v == 0) p q) Resting
      (settles_so (count_in v == 0) p q) (look_leads p v w q small f)

  -- on its way to wake others, and then it ends
  abbrev pub Ends : RwLockPurpose → State → Outcome → Type 0
  Ends r s x = x ≡ outcome.End (ends_with r)

  wakes_leave : (p : RwLockPlace) (m : Line) (any : Bool) (v : ℕ) (w : State) (q : Line → List Waiter)
      → Alone w (to p (at.Wake m (waking.Leave any))) v q → Leads 1 w t (Ends p.purpose)
  wakes_leave p m any v w q f = ends w (Ends p.purpose) v q (ends_with p.purpose) _ refl
      (leave_comes w t l _ v q f m _ refl) refl

  wakes_clear : (p : RwLockPlace) (m : Line) (any : Bool) (v : ℕ) (w : State) (q : Line → List Waiter)
      → Alone w (to p (at.Wake m (waking.Clear any))) v q → Leads 2 w t (Ends p.purpose)
  wakes_clear p m any v w q f = goes w (Ends p.purpose) 1 _ q (again p (at.Wake m (waking.Leave any))
      p.retries) _ refl refl (word_comes w t l _ v q f (unparked m) refl) (λ g. wakes_leave p m any _ _ q g)

  took_ends : (p : RwLockPlace) (m : Line) (any none_left : Bool) (v : ℕ) (w : State) (q : Line → List Waiter)
      → Comes w t l (RwLock l a (Plain (again p (at.Wake m (took m any none_left)) p.retries)))
      (outcome_of (rwlock_act l a (again p (at.Wake m (took m any none_left)) p.retries))) v q
      → Leads 3 w t (Ends p.purpose)
  took_ends p m any none_left v w q c = either (clears m none_left) c
    where
      either : (b : Bool) → Comes w t l
          (RwLock l a (Plain (again p (at.Wake m (if b then waking.Clear any else waking.Leave any))
          p.retries))) (outcome_of (rwlock_act l a
          (again p (at.Wake m (if b then waking.Clear any else waking.Leave any)) p.retries))) v q
          → Leads 3 w t (Ends p.purpose)
      either true c = leads_step w t (Ends p.purpose) 2 c.0 (wakes_clear p m any v _ q c.1)
      either false c = leads_more 2 3 w t (Ends p.purpose) (omega arith) (leads_step w t (Ends p.purpose) 1
          c.0 (wakes_leave p m any v _ q c.1))

  pub taken_word : (b : State) (x : Option ℕ) → word_at (state_after_taking b t x) l ≡ word_at b l
  taken_word b None = refl
  taken_word b (Some u) = refl

  wakes_take : (p : RwLockPlace) (m : Line) (v : ℕ) (w : State) (q : Line → List Waiter)
      → Alone w (to p (at.Wake m waking.Take)) v q → Leads 4 w t (Ends p.purpose)
  wakes_take p Main v w q f = leads_more 3 4 w t (Ends p.purpose) (omega arith)
      (took_ends p Main _ _ v w _ (take_comes w t l _ v q f (2 * l) (whom a (start_of p.purpose) Main) refl
      refl))
  wakes_take p Second v w q f = leads_more 3 4 w t (Ends p.purpose) (omega arith)
      (took_ends p Second _ (length (drop 1 (queue_at w (2 * l + 1))) == 0) v w _
      (take_comes w t l _ v q f (2 * l + 1) whoms.First refl
      (taken_word (record w { queues = queues_without_first w.queues (2 * l + 1) })
      (first_of (queue_at w (2 * l + 1))))))

  wakes_enter : (p : RwLockPlace) (m : Line) (v : ℕ) (w : State) (q : Line → List Waiter)
      → Alone w (to p (at.Wake m waking.Enter)) v q → Leads 5 w t (Ends p.purpose)
  wakes_enter p m v w q f = leads_into w t l _ v q f (Ends p.purpose) 4 m refl refl refl
      (λ g. wakes_take p m v _ q g)

  wakes_end : (p : RwLockPlace) (m : Line) (x : WakeAt) (v : ℕ) (w : State) (q : Line → List Waiter)
      → Alone w (to p (at.Wake m x)) v q → Leads 5 w t (Ends p.purpose)
  wakes_end p m waking.Enter v w q f = wakes_enter p m v w q f
  wakes_end p m waking.Take v w q f = leads_more 4 5 w t (Ends p.purpose) (omega arith)
      (wakes_take p m v w q f)
  wakes_end p m (waking.Clear any) v w q f = leads_more 2 5 w t (Ends p.purpose) (omega arith)
      (wakes_clear p m any v w q f)
  wakes_end p m (waking.Leave any) v w q f = leads_more 1 5 w t (Ends p.purpose) (omega arith)
      (wakes_leave p m any v w q f)

  -- the thread gives its right up, and wakes those that it saw
  gave_ends : (p : RwLockPlace) (m : Line) (b : Bool) (answer : Answer) (v : ℕ) (w : State) (q : Line
      → List Waiter) → answer ≡ ends_with p.purpose
      → Comes w t l (plain_goes l a (if b then At (again p (at.Wake m waking.Enter) p.retries)
      else End answer)) (outcome_of
      (plain_does l a (if b then At (again p (at.Wake m waking.Enter) p.retries) else End answer))) v q
      → Leads 6 w t (Ends p.purpose)
  gave_ends p m true answer v w q is c = leads_step w t (Ends p.purpose) 5 c.0 (wakes_enter p m v _ q c.1)
  gave_ends p m false answer v w q is c = leads_more 1 6 w t (Ends p.purpose) (omega arith)
      (leads_rest w t (Ends p.purpose) (outcome.End answer) c.0 tt (ap outcome.End is))

  -- a pending writer gives up
  abbrev IsWaiting : RwLockPurpose → Type 0
  IsWaiting (purpose.Enter x how) = Unit {0}
  IsWaiting (purpose.Upgrade how) = Unit {0}
  IsWaiting r = ⊥

  rollback_ends : (p : RwLockPlace) (v : ℕ) (w : State) (q : Line → List Waiter) → IsWaiting p.purpose
      → Alone w (to p at.RollBack) v q → Leads 6 w t (Ends p.purpose)
  rollback_ends p v w q waits f = gave_ends p Main (has_parked v) answer.No _ w q (answers p.purpose waits)
      (word_comes w t l _ v q f (rollback_op p.purpose) refl)
    where
      answers : (r : RwLockPurpose) → IsWaiting r → answer.No ≡ ends_with r
      answers (purpose.Enter x how) h = refl
      answers (purpose.Upgrade how) h = refl
      answers (purpose.Release x) h = absurd h
      answers (purpose.Downgrade d) h = absurd h

  ends_so : (r : RwLockPurpose) (s : State) (x : Outcome) → Ends r s x → EndsOrSleeps x
  ends_so r s x h = rw h tt

  pub release_ends : (x : Access) (retries : Bool) (v : ℕ) (w : State) (q : Line → List Waiter)
      → Alone w (place_for (purpose.Release x) retries at.GiveWay) v q
      → Leads 6 w t (Ends (purpose.Release x))
  release_ends x retries v w q f = by_access x (word_comes w t l _ v q f (give_op (purpose.Release x)) refl)
    where
      by_access : (x : Access) → Comes w t l
          (plain_goes l a (gave_way (place_for (purpose.Release x) retries at.GiveWay) v))
          (outcome_of (plain_does l a (gave_way (place_for (purpose.Release x) retries at.GiveWay) v)))
          (apply (give_op (purpose.Release x)) v) q → Leads 6 w t (Ends (purpose.Release x))
      by_access access.Shared c = gave_ends (place_for (purpose.Release access.Shared) retries at.GiveWay)
          Second (has_aside v && (count_in v == 1)) answer.Ok _ w q refl c
      by_access access.Upgradable c = gave_ends (place_for (purpose.Release access.Upgradable) retries
          at.GiveWay) Main (has_parked v) answer.Ok _ w q refl c
      by_access access.Exclusive c = gave_ends (place_for (purpose.Release access.Exclusive) retries
          at.GiveWay) Main (has_parked v) answer.Ok _ w q refl c

  pub downgrade_ends : (d : Downgrade) (retries : Bool) (v : ℕ) (w : State) (q : Line → List Waiter)
      → Alone w (place_for (purpose.Downgrade d) retries at.GiveWay) v q
      → Leads 6 w t (Ends (purpose.Downgrade d))
  downgrade_ends d retries v w q f = gave_ends (place_for (purpose.Downgrade d) retries at.GiveWay) Main
      (has_parked v) answer.Ok _ w q refl (word_comes w t l _ v q f (give_op (purpose.Downgrade d)) refl)

  -- an upgrade owns where it was the only one, and else it looks for readers
  abbrev pub Upgrades : Bool → Patience → Bool → ℕ → (Line → List Waiter) → State → Outcome → Type 0
  Upgrades true how retries v q s x = x ≡ outcome.End (entered how)
  Upgrades false how retries v q s x = Settles (count_in (apply (op.Sub 12) v) == 0)
      (place_for (purpose.Upgrade how) false at.Look) q s x

  pub upgrade_leads : (how : Patience) (retries : Bool) (v : ℕ) (w : State) (q : Line → List Waiter)
      → Alone w (place_for (purpose.Upgrade how) retries at.GiveWay) v q
      → Leads 6 w t (Upgrades (count_in v == 1) how retries v q)
  upgrade_leads how retries v w q f = by_count (count_in v == 1) (word_comes w t l _ v q f (op.Sub 12) refl)
    where
      by_count : (b : Bool) → Comes w t l
          (plain_goes l a (if b then End (entered how) else At (place_for (purpose.Upgrade how) false
          at.Look))) (outcome_of (plain_does l a (if b then End (entered how)
          else At (place_for (purpose.Upgrade how) false at.Look)))) (apply (op.Sub 12) v) q
          → Leads 6 w t (Upgrades b how retries v q)
      by_count true c = leads_more 1 6 w t (Upgrades true how retries v q) (omega arith)
          (leads_rest w t (Upgrades true how retries v q) (outcome.End (entered how)) c.0 tt refl)
      by_count false c = leads_step w t (Upgrades false how retries v q) 5 c.0
          (look_leads (place_for (purpose.Upgrade how) false at.Look) (apply (op.Sub 12) v) _ q (below _) c.1)

  upgrades_so : (b : Bool) (how : Patience) (retries : Bool) (v : ℕ) (q : Line → List Waiter) (s : State)
      (x : Outcome) → Upgrades b how retries v q s x → EndsOrSleeps x
  upgrades_so true how retries v q s x h = rw h tt
  upgrades_so false how retries v q s x h = settles_so (count_in (apply (op.Sub 12) v) == 0) _ q s x h

  -- a call that gives its right up
  abbrev IsGiving : RwLockPurpose → Type 0
  IsGiving (purpose.Enter x how) = ⊥
  IsGiving r = Unit {0}

  give_way_rests : (r : RwLockPurpose) (retries : Bool) (v : ℕ) (w : State) (q : Line → List Waiter)
      → IsGiving r → Alone w (place_for r retries at.GiveWay) v q → Leads 6 w t Resting
  give_way_rests (purpose.Enter x how) retries v w q gives f = absurd gives
  give_way_rests (purpose.Release x) retries v w q gives f = leads_so 6 w t (Ends (purpose.Release x)) Resting
      (ends_so (purpose.Release x)) (release_ends x retries v w q f)
  give_way_rests (purpose.Downgrade d) retries v w q gives f = leads_so 6 w t (Ends (purpose.Downgrade d))
      Resting (ends_so (purpose.Downgrade d)) (downgrade_ends d retries v w q f)
  give_way_rests (purpose.Upgrade how) retries v w q gives f =
      leads_so 6 w t (Upgrades (count_in v == 1) how retries v q) Resting (upgrades_so (count_in v == 1) how
      retries v q) (upgrade_leads how retries v w q f)

  -- the thread's time is up
  gives_up_rests : (m : Line) (p : RwLockPlace) (v : ℕ) (w : State) (q : Line → List Waiter)
      → IsWaiting p.purpose → Alone w (to p (parks_at m parking.GiveUp)) v q → Leads 7 w t Resting
  gives_up_rests Main p v w q waits f = leads_more 1 7 w t Resting (omega arith)
      (ends w Resting v q answer.No _ refl (leave_comes w t l _ v q f Main wakes.Nobody refl) tt)
  gives_up_rests Second p v w q waits f = goes w Resting 6 v q (again p at.RollBack p.retries) _ refl refl
      (leave_comes w t l _ v q f Second wakes.Nobody refl) (λ g. leads_so 6 _ t (Ends p.purpose) Resting
      (ends_so p.purpose) (rollback_ends p v _ q waits g))

  clear_rests : (m : Line) (p : RwLockPlace) (v : ℕ) (w : State) (q : Line → List Waiter)
      → IsWaiting p.purpose → Alone w (to p (parks_at m parking.Clear)) v q → Leads 8 w t Resting
  clear_rests Main p v w q waits f = goes w Resting 7 _ q (again p (at.Park parking.GiveUp) p.retries) _ refl
      refl (word_comes w t l _ v q f (unparked Main) refl) (λ g. gives_up_rests Main p _ _ q waits g)
  clear_rests Second p v w q waits f = goes w Resting 7 _ q (again p (at.Aside parking.GiveUp) p.retries) _
      refl refl (word_comes w t l _ v q f (unparked Second) refl) (λ g. gives_up_rests Second p _ _ q waits g)

  remove_rests : (m : Line) (p : RwLockPlace) (v : ℕ) (w : State) (q : Line → List Waiter)
      → IsWaiting p.purpose → Alone w (to p (parks_at m parking.Remove)) v q → Leads 9 w t Resting
  remove_rests Main p v w q waits f = either _ (remove_comes w t l _ v q f (2 * l) refl)
    where
      either : (b : Bool) {q2 : Line → List Waiter}
          → Comes w t l (RwLock l a (Plain (again p (at.Park (if b then parking.Clear else parking.GiveUp))
          p.retries))) (outcome_of (rwlock_act l a
          (again p (at.Park (if b then parking.Clear else parking.GiveUp)) p.retries))) v q2
          → Leads 9 w t Resting
      either true {q2} c = leads_step w t Resting 8 c.0 (clear_rests Main p v _ q2 waits c.1)
      either false {q2} c = leads_more 8 9 w t Resting (omega arith) (leads_step w t Resting 7 c.0
          (gives_up_rests Main p v _ q2 waits c.1))
  remove_rests Second p v w q waits f = let c = remove_comes w t l _ v q f (2 * l + 1) refl
      in leads_step w t Resting 8 c.0 (clear_rests Second p v _ _ waits c.1)

  -- the thread stands in the line, or looks again
  leave_rests : (m : Line) (p : RwLockPlace) (b : Bool) (v : ℕ) (w : State) (q : Line → List Waiter)
      → v < 2 ^ 64 → Alone w (to p (parks_at m (parking.Leave b))) v q → Leads 8 w t Resting
  leave_rests Main p true v w q small f = leads_more 1 8 w t Resting (omega arith)
      (sleeps w Resting v q (again p (at.Park parking.Asleep) p.retries) _ refl refl
      (leave_comes w t l _ v q f Main wakes.Nobody refl) tt)
  leave_rests Second p true v w q small f = leads_more 1 8 w t Resting (omega arith)
      (sleeps w Resting v q (again p (at.Aside parking.Asleep) p.retries) _ refl refl
      (leave_comes w t l _ v q f Second wakes.Nobody refl) tt)
  leave_rests Main p false v w q small f = goes w Resting 7 v q (again p at.Load p.retries) _ refl refl
      (leave_comes w t l _ v q f Main wakes.Nobody refl) (λ g. load_rests p v _ q small g)
  leave_rests Second p false v w q small f = leads_more 6 8 w t Resting (omega arith)
      (goes w Resting 5 v q (again p at.Look p.retries) _ refl refl (leave_comes w t l _ v q f Second
      wakes.Nobody refl) (λ g. look_rests p v _ q small g))

  check_rests : (m : Line) (p : RwLockPlace) (v : ℕ) (w : State) (q : Line → List Waiter) → v < 2 ^ 64
      → Alone w (to p (parks_at m parking.Check)) v q → Leads 9 w t Resting
  check_rests Main p v w q small f = goes w Resting 8 v _ (again p (at.Park (parking.Leave _)) _) _ refl refl
      (park_comes w t l _ v q f (2 * l) (park_check a (want_at p) Main) (want_at p)
      (holds (park_check a (want_at p) Main) v) refl refl)
      (λ g. leave_rests Main (again p at.Load _) (holds (park_check a (want_at p) Main) v) v _ _ small g)
  check_rests Second p v w q small f = goes w Resting 8 v _ (again p (at.Aside (parking.Leave _)) _) _ refl
      refl (park_comes w t l _ v q f (2 * l + 1) (park_check a (want_at p) Second) (want_at p)
      (holds (park_check a (want_at p) Second) v) refl refl)
      (λ g. leave_rests Second (again p at.Look _) (holds (park_check a (want_at p) Second) v) v _ _ small g)

  -- on its way into a line, or out of it, but asleep
  abbrev IsAwake : ParkAt → Type 0
  IsAwake parking.Asleep = ⊥
  IsAwake (parking.Taken by) = ⊥
  IsAwake x = Unit {0}

  parks_rests : (m : Line) (p : RwLockPlace) (x : ParkAt) (v : ℕ) (w : State) (q : Line → List Waiter)
      → IsWaiting p.purpose → IsAwake x → v < 2 ^ 64 → Alone w (to p (parks_at m x)) v q → Leads 9 w t Resting
  parks_rests m p parking.Check v w q waits up small f = check_rests m p v w q small f
  parks_rests m p (parking.Leave b) v w q waits up small f = leads_more 8 9 w t Resting (omega arith)
      (leave_rests m p b v w q small f)
  parks_rests m p parking.Asleep v w q waits up small f = absurd up
  parks_rests m p (parking.Taken by) v w q waits up small f = absurd up
  parks_rests m p parking.Remove v w q waits up small f = remove_rests m p v w q waits f
  parks_rests m p parking.Clear v w q waits up small f = leads_more 8 9 w t Resting (omega arith)
      (clear_rests m p v w q waits f)
  parks_rests m p parking.GiveUp v w q waits up small f = leads_more 7 9 w t Resting (omega arith)
      (gives_up_rests m p v w q waits f)

  -- the thread decides by a value that the word has no longer, or still
  stale_next : (p : RwLockPlace) (x v : ℕ) (d : Decision) → (v == x) ≡ false → (d ≡ decisions.Park → ⊥)
      → exchanged_next a (decides p x) x v d ≡ looked a (decides p x) v
  stale_next p x v decisions.Take e h =
      ap (λ (b : Bool). if b then came_in (decides p x) else looked a (decides p x) v) e
  stale_next p x v decisions.Mark e h = ap (λ (b : Bool). if b then At (decides p (plus x 1))
      else looked a (decides p x) v) e
  stale_next p x v decisions.Park e h = refl
  stale_next p x v (decisions.Refuse answer) e h = refl

  stale_rests : (p : RwLockPlace) (x v y : ℕ) (w : State) (q : Line → List Waiter) (d : Decision) → v < 2 ^ 64
      → (v == x) ≡ false → (d ≡ decisions.Park → ⊥) → decided a p x ≡ d → rwlock_act l a (decides p x)
      ≡ act.Word l (op.Exchange x y) → Alone w (decides p x) v q → Leads 9 w t Resting
  stale_rests p x v y w q d small e h is does f = leads_more 7 9 w t Resting (omega arith)
      (looked_rests (decides p x) v w q _ small (ap (exchanged_next a (decides p x) x v) is
      ∙ stale_next p x v d e h)
      (subst (λ z. Comes w t l (plain_goes l a (rwlock_next a (decides p x) (Value v)))
      (outcome_of (plain_does l a (rwlock_next a (decides p x) (Value v)))) z q)
      (ap (λ (b : Bool). if b then y else v) e) (word_comes w t l _ v q f (op.Exchange x y) does)))

  decide_rests : (p : RwLockPlace) (x v : ℕ) (w : State) (q : Line → List Waiter) (d : Decision)
      → IsNoRefusal d → decided a p x ≡ d → v < 2 ^ 64 → Alone w (decides p x) v q → Leads 10 w t Resting
  decide_rests p x v w q d h e small f = either (v == x) refl
    where
      is_stale : (d : Decision) → IsNoRefusal d → decided a p x ≡ d → (v == x) ≡ false → Leads 10 w t Resting
      is_stale decisions.Take h e ne = leads_more 9 10 w t Resting (omega arith)
          (stale_rests p x v (word_taken p.purpose x) w q decisions.Take small ne (λ g. cc) e
          (ap (decided_act l p.purpose x) e) f)
      is_stale decisions.Mark h e ne = leads_more 9 10 w t Resting (omega arith)
          (stale_rests p x v (plus x 1) w q decisions.Mark small ne (λ g. cc) e
          (ap (decided_act l p.purpose x) e) f)
      is_stale decisions.Park h e ne = leads_into w t l _ v q f Resting 9 Main
          (ap (decided_act l p.purpose x) e) refl refl (λ g. check_rests Main p v _ q small g)
      is_stale (decisions.Refuse answer) h e ne = absurd h

      either : (b : Bool) → (v == x) ≡ b → Leads 10 w t Resting
      either true g = let same_word : v ≡ x = eqb-true v x g in
          leads_more 6 10 w t Resting (omega arith) (leads_so 6 w t (Decides d p v q) Resting
          (decides_so d p v q) (fresh_leads p v w q small d h (rw same_word e)
          (subst (λ y. Alone w (decides p y) v q) (sym same_word) f)))
      either false g = is_stale d h e g

  marked_rests : (p : RwLockPlace) (v : ℕ) (w : State) (q : Line → List Waiter) → v < 2 ^ 64
      → Alone w (to p at.Marked) v q → Leads 10 w t Resting
  marked_rests p v w q small f = leads_into w t l _ v q f Resting 9 Second refl refl refl
      (λ g. check_rests Second p v _ q small g)

  count_rests : (p : RwLockPlace) (x v : ℕ) (w : State) (q : Line → List Waiter) → v < 2 ^ 64
      → Alone w (to p (at.Count x)) v q → Leads 11 w t Resting
  count_rests p x v w q small f = either (has_aside x) refl
    where
      aside_rests : (x v : ℕ) (w : State) → v < 2 ^ 64 → has_aside x ≡ true
          → Alone w (again p (at.Count x) p.retries) v q → Leads 10 w t Resting
      aside_rests x v w small e f = leads_into w t l _ v q f Resting 9 Second
          (ap (λ (b : Bool). if b then act.Enter (One (2 * l + 1)) else exchange l x (plus x 2)) e) refl refl
          (λ g. check_rests Second p v _ q small g)

      counted_rests : (b : Bool) → (count_in v == 0) ≡ b
          → Comes w t l (plain_goes l a (if b then End (entered (patience_of p.purpose)) else At
          (again p (at.Count v) p.retries)))
          (outcome_of (plain_does l a (if b then End (entered (patience_of p.purpose)) else At
          (again p (at.Count v) p.retries)))) v q → Leads 11 w t Resting
      counted_rests true e c = leads_more 1 11 w t Resting (omega arith) (leads_rest w t Resting
          (outcome.End (entered (patience_of p.purpose))) c.0 tt tt)
      counted_rests false e c = leads_more 5 11 w t Resting (omega arith) (leads_step w t Resting 4 (c.0
          ∙ counts_step v (has_aside v)) (leads_so 4 _ t (Sleeps Second p q) Resting (sleeps_so Second p q)
          (count_leads p v _ q small e c.1)))

      marked_next : Bool → Next RwLockPlace
      marked_next b = if b then At (again p at.Marked p.retries) else after_count (to p (at.Count x)) v

      by_word : (b : Bool) → (v == x) ≡ b → has_aside x ≡ false → Comes w t l (plain_goes l a (marked_next b))
          (outcome_of (plain_does l a (marked_next b))) (if v == x then plus x 2 else v) q
          → Leads 11 w t Resting
      by_word false ne e c = counted_rests (count_in v == 0) refl
          (subst (λ z. Comes w t l (plain_goes l a (marked_next false))
          (outcome_of (plain_does l a (marked_next false))) z q) (ap (λ (b : Bool). if b then plus x 2 else v)
          ne) c)
      by_word true g e c =
          leads_step w t Resting 10 c.0 (marked_rests p (plus x 2) _ q (below (x + 2))
          (subst (λ y. Alone (after w (go_of t)) (again p at.Marked p.retries) y q)
          (ap (λ (b : Bool). if b then plus x 2 else v) g) c.1))

      either : (b : Bool) → has_aside x ≡ b → Leads 11 w t Resting
      either true e = leads_more 10 11 w t Resting (omega arith) (aside_rests x v w small e f)
      either false e = by_word (v == x) refl e (word_comes w t l _ v q f (op.Exchange x (plus x 2))
          (ap (λ (b : Bool). if b then act.Enter (One (2 * l + 1)) else exchange l x (plus x 2)) e))

  -- awake, and with something to do
  abbrev IsReady : RwLockPlace → RwLockAt → Type 0
  IsReady p (at.Decide seen) = IsNoRefusal (decided a p seen)
  IsReady p (at.Park x) = IsAwake x × IsWaiting p.purpose
  IsReady p (at.Aside x) = IsAwake x × IsWaiting p.purpose
  IsReady p at.RollBack = IsWaiting p.purpose
  IsReady p at.GiveWay = IsGiving p.purpose
  IsReady p x = Unit {0}

  pub rwlock_rests : (p : RwLockPlace) (v : ℕ) (w : State) (q : Line → List Waiter) → v < 2 ^ 64
      → IsReady p p.at → Alone w p v q → Leads 11 w t Resting
  rwlock_rests p v w q small ready f = by_at p.at ready f
    where
      by_at : (x : RwLockAt) → IsReady p x → Alone w (to p x) v q → Leads 11 w t Resting
      by_at at.First ready f = leads_more 8 11 w t Resting (omega arith)
          (leads_so 8 w t (Tries (v == 0) (patience_of p.purpose) p v q) Resting
          (tries_so (v == 0) (patience_of p.purpose) p v q) (first_leads p v w q small f))
      by_at at.Load ready f = leads_more 7 11 w t Resting (omega arith) (load_rests p v w q small f)
      by_at (at.Decide x) ready f = leads_more 10 11 w t Resting (omega arith)
          (decide_rests p x v w q (decided a p x) ready refl small f)
      by_at (at.Park x) ready f = leads_more 9 11 w t Resting (omega arith)
          (parks_rests Main p x v w q ready.1 ready.0 small f)
      by_at at.Look ready f = leads_more 5 11 w t Resting (omega arith) (look_rests p v w q small f)
      by_at (at.Count x) ready f = count_rests p x v w q small f
      by_at at.Marked ready f = leads_more 10 11 w t Resting (omega arith) (marked_rests p v w q small f)
      by_at (at.Aside x) ready f = leads_more 9 11 w t Resting (omega arith)
          (parks_rests Second p x v w q ready.1 ready.0 small f)
      by_at at.RollBack ready f = leads_more 6 11 w t Resting (omega arith)
          (leads_so 6 w t (Ends p.purpose) Resting (ends_so p.purpose) (rollback_ends p v w q ready f))
      by_at at.GiveWay ready f = leads_more 6 11 w t Resting (omega arith)
          (give_way_rests p.purpose p.retries v w q ready f)
      by_at (at.Wake m x) ready f = leads_more 5 11 w t Resting (omega arith)
          (leads_so 5 w t (Ends p.purpose) Resting (ends_so p.purpose) (wakes_end p m x v w q f))

-- a thread that isn't asleep has something to do
pub is_ready : (t l : ℕ) (a : Admission) (p : RwLockPlace) → MayStand a p → act_of (RwLock l a (Plain p))
    ≢ act.Sleep → IsReady t l a p p.at
is_ready t l a p stands up = by_at p.purpose p.at stands.place stands.decided up
  where
    by_parking : (q : RwLockPurpose) (m : Line) (x : ParkAt) → park_act l a (wanted (access_of q)) m x
        ≢ act.Sleep → IsAwake t l a x
    by_parking q m parking.Asleep up = absurd (up refl)
    by_parking q m (parking.Taken by) up = absurd (up refl)
    by_parking q m parking.Check up = tt
    by_parking q m (parking.Leave b) up = tt
    by_parking q m parking.Remove up = tt
    by_parking q m parking.Clear up = tt
    by_parking q m parking.GiveUp up = tt

    waits : (m : Line) (x : ParkAt) (q : RwLockPurpose) → StandsAt q p.retries (parks_at m x)
        → IsWaiting t l a q
    waits m x (purpose.Enter y how) h = tt
    waits m x (purpose.Upgrade how) h = tt
    waits Main x (purpose.Release access.Shared) h = absurd h
    waits Second x (purpose.Release access.Shared) h = absurd h
    waits Main x (purpose.Release access.Upgradable) h = absurd h
    waits Second x (purpose.Release access.Upgradable) h = absurd h
    waits Main x (purpose.Release access.Exclusive) h = absurd h
    waits Second x (purpose.Release access.Exclusive) h = absurd h
    waits Main x (purpose.Downgrade d) h = absurd h
    waits Second x (purpose.Downgrade d) h = absurd h

    rolls_back : (q : RwLockPurpose) → StandsAt q p.retries at.RollBack → IsWaiting t l a q
    rolls_back (purpose.Enter y how) h = tt
    rolls_back (purpose.Upgrade how) h = tt
    rolls_back (purpose.Release access.Shared) h = absurd h
    rolls_back (purpose.Release access.Upgradable) h = absurd h
    rolls_back (purpose.Release access.Exclusive) h = absurd h
    rolls_back (purpose.Downgrade d) h = absurd h

    gives : (q : RwLockPurpose) → StandsAt q p.retries at.GiveWay → IsGiving t l a q
    gives (purpose.Enter access.Shared how) h = absurd h
    gives (purpose.Enter access.Upgradable how) h = absurd h
    gives (purpose.Enter access.Exclusive how) h = absurd h
    gives (purpose.Upgrade how) h = tt
    gives (purpose.Release x) h = tt
    gives (purpose.Downgrade d) h = tt

    by_at : (q : RwLockPurpose) (x : RwLockAt) → StandsAt q p.retries x → IsDecided a q x
        → act_at l a (record {
          purpose = q;
          retries = p.retries;
          at = x;
        }) x ≢ act.Sleep → IsReady t l a (record { purpose = q; retries = p.retries; at = x }) x
    by_at q at.First s h up = tt
    by_at q at.Load s h up = tt
    by_at q (at.Decide seen) s h up = h
    by_at q (at.Park x) s h up = (by_parking q Main x up, waits Main x q s)
    by_at q at.Look s h up = tt
    by_at q (at.Count seen) s h up = tt
    by_at q at.Marked s h up = tt
    by_at q (at.Aside x) s h up = (by_parking q Second x up, waits Second x q s)
    by_at q at.RollBack s h up = rolls_back q s
    by_at q at.GiveWay s h up = gives q s
    by_at q (at.Wake m x) s h up = tt
