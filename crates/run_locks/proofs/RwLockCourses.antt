-- The rest of a call, from its first step on, is as its transition says.
use Rattle.std.proofs.Common.{ℕ, Bool, true, false, List, Some, if◌then◌else◌, ◌==◌, ◌&&◌, ◌≡◌, refl, ap, ◌∙◌}
use Rattle.std.proofs.Common.{sym, subst, eq-eqb, nat_le}
use Rattle.core_base.specs.declared.keys.Line.{Line}
use Rattle.core_base.specs.declared.keys.Line.TheVariants.{Main, Second}
use Rattle.core_base.specs.declared.ops.Op.TheVariants.{Exchange}
use Rattle.spec_locks.specs.declared.calls.Access.TheVariants as access
use Rattle.spec_locks.specs.declared.calls.Patience.{Patience}
use Rattle.spec_locks.specs.declared.calls.Patience.TheVariants.{Patient, Timed, Try}
use Rattle.spec_locks.specs.declared.outcomes.Answer.{Answer}
use Rattle.spec_locks.specs.declared.outcomes.Answer.TheVariants as answers
use Rattle.spec_locks.specs.Codes.{count_in, has_aside, has_parked, is_blocked}
use Rattle.steps_base.specs.declared.acts.Act.{Act}
use Rattle.steps_base.specs.declared.acts.Act.TheVariants as act
use Rattle.steps_base.specs.declared.acts.Next.{Next}
use Rattle.steps_base.specs.declared.acts.Next.TheVariants.{At, End}
use Rattle.steps_base.specs.declared.acts.Reply.TheVariants.{Value}
use Rattle.steps_rwlock.specs.RwLockBegins.{rwlock_first}
use Rattle.steps_rwlock.specs.RwLockSteps.{came_in, came_in_for, decided_act, decided_for, decision_blocked}
use Rattle.steps_rwlock.specs.RwLockSteps.{entered, exchanged_next, goes, looked, looked_by, missed}
use Rattle.steps_rwlock.specs.RwLockSteps.{patience_of, rwlock_next, park_or_mark, wakes_or_ends, wanted}
use Rattle.steps_rwlock.specs.RwLockSteps.{word_taken}
use Rattle.steps_rwlock.specs.declared.enter.Decision.{Decision}
use Rattle.steps_rwlock.specs.declared.enter.Decision.TheVariants as decisions
use Rattle.steps_rwlock.specs.declared.places.Admission.{Admission}
use Rattle.steps_rwlock.specs.declared.places.RwLockAt.TheVariants as at
use Rattle.steps_rwlock.specs.declared.places.RwLockPlace.{RwLockPlace}
use Rattle.steps_rwlock.specs.declared.purposes.RwLockPurpose.{RwLockPurpose}
use Rattle.steps_rwlock.specs.declared.purposes.RwLockPurpose.TheVariants as purpose
use Rattle.steps_rwlock.specs.declared.release.WakeAt.TheVariants as waking
use Rattle.steps_rwlock_fair.specs.FairSteps.{plain_next}
use Rattle.steps_rwlock_fair.specs.declared.places.RwLockCallPlace.TheVariants.{Plain}
use Rattle.lot_steps.specs.Steps.{act_of, next_act, next_place, rwlock_does, rwlock_goes}
use Rattle.core_words.specs.Steps.{MayStep}
use Rattle.core_words.specs.declared.owners.Ownership.{Ownership}
use Rattle.core_words.specs.declared.words.WordKind.TheVariants as kinds
use Rattle.run_locks.specs.Courses.{course_of, kept_out, release_course}
use Rattle.run_locks.specs.declared.rwlock_courses.Course.{Course}
use Rattle.run_locks.specs.declared.rwlock_courses.Course.TheVariants.{Ends, Takes, GoesOn}
use Rattle.run_base.specs.Fitting.{Fits, Reached, answer_of, sleeper_at}
use Rattle.run_base.specs.Paths.{at_rwlock, rwlock_at, rwlocks}
use Rattle.run_base.specs.RwLockCalls.{rwlock_begin, rwlock_deciding}
use Rattle.run_base.specs.Stages.{ActNeeds, Became, ThreadState, Stepped}
use Rattle.run_base.proofs.RwLockLeading.{rwlock_place_leads}

-- the place where a call decides by what its first step saw
abbrev pub decides : RwLockPurpose → ℕ → RwLockPlace
decides c seen = record { purpose = c; retries = false; at = at.Decide seen }

-- where the first step led, by what the call does after it
abbrev pub Led : Decision → RwLockPurpose → ℕ → Course → Next RwLockPlace → Type 0
Led d c seen (Ends answer) n = n ≡ End answer
Led d c seen Takes n = (n ≡ At (decides c seen)) × (d ≡ decisions.Take)
    × (came_in_for (decides c seen) c ≡ End (entered (patience_of c)))
Led d c seen GoesOn n = (p : RwLockPlace) × (n ≡ At p)

module _ (seen : ℕ) where
  abbrev entry : Patience → Bool → Bool → Decision
  entry how blocked full = if blocked then decision_blocked how seen else if full then decisions.Refuse
      answers.ReadersFull else decisions.Take

  waits_led : (c : RwLockPurpose) (parked : Bool) → Led (park_or_mark parked) c seen GoesOn
      (looked_by (rwlock_first c) seen (park_or_mark parked))
  waits_led c true = (record { purpose = c; retries = false; at = at.Decide seen }, refl)
  waits_led c false = (record { purpose = c; retries = false; at = at.Decide seen }, refl)

  reads_led : (c : RwLockPurpose) (how : Patience) (blocked full : Bool) → came_in_for (decides c seen) c
      ≡ End (entered (patience_of c))
      → Led (entry how blocked full) c seen (if blocked then kept_out how else if full then Ends
      answers.ReadersFull else Takes) (looked_by (rwlock_first c) seen (entry how blocked full))
  reads_led c Try true full came = refl
  reads_led c Patient true full came = waits_led c (has_parked seen)
  reads_led c Timed true full came = waits_led c (has_parked seen)
  reads_led c how false true came = refl
  reads_led c how false false came = (refl, refl, came)

  writes_led : (d : Decision) (c : RwLockPurpose) (how : Patience) (free : Bool)
      → Led d c seen (if free then Ends (entered how) else kept_out how) (if free then End (entered how)
      else missed (rwlock_first c) how)
  writes_led d c how true = refl
  writes_led d c Try false = refl
  writes_led d c Patient false = (record { purpose = c; retries = false; at = at.Load }, refl)
  writes_led d c Timed false = (record { purpose = c; retries = false; at = at.Load }, refl)

  tries_led : (alone : Bool) → Led (if alone then decisions.Take else decisions.Refuse answers.No)
      (purpose.Upgrade Try) seen (if alone then Takes else Ends answers.No)
      (looked_by (rwlock_first (purpose.Upgrade Try)) seen (if alone then decisions.Take else decisions.Refuse
      answers.No))
  tries_led true = (refl, refl, refl)
  tries_led false = refl

  upgrades_led : (d : Decision) (c : RwLockPurpose) (how : Patience) (alone : Bool)
      → Led d c seen (if alone then Ends (entered how) else GoesOn) (if alone then End (entered how)
      else goes (rwlock_first c) at.Look false)
  upgrades_led d c how true = refl
  upgrades_led d c how false = (record { purpose = c; retries = false; at = at.Look }, refl)

  leaves_led : (d : Decision) (c : RwLockPurpose) (m : Line) (some : Bool)
      → Led d c seen (release_course some) (wakes_or_ends (rwlock_first c) m some)
  leaves_led d c m true = (record { purpose = c; retries = false; at = at.Wake m waking.Enter }, refl)
  leaves_led d c m false = refl

led : (a : Admission) (c : RwLockPurpose) (seen : ℕ) → Led (decided_for a c seen) c seen (course_of a c seen)
    (rwlock_next a (rwlock_first c) (Value seen))
led a (purpose.Enter access.Exclusive how) seen =
    writes_led seen (decided_for a (purpose.Enter access.Exclusive how) seen)
    (purpose.Enter access.Exclusive how) how (seen == 0)
led a (purpose.Enter access.Shared how) seen = reads_led seen (purpose.Enter access.Shared how) how
    (is_blocked a.recursive (wanted access.Shared) seen) (nat_le a.limit (count_in seen)) refl
led a (purpose.Enter access.Upgradable how) seen = reads_led seen (purpose.Enter access.Upgradable how) how
    (is_blocked a.recursive (wanted access.Upgradable) seen) (nat_le a.limit (count_in seen)) refl
led a (purpose.Upgrade Try) seen = tries_led seen (count_in seen == 1)
led a (purpose.Upgrade Patient) seen = upgrades_led seen (decided_for a (purpose.Upgrade Patient) seen)
    (purpose.Upgrade Patient) Patient (count_in seen == 1)
led a (purpose.Upgrade Timed) seen = upgrades_led seen (decided_for a (purpose.Upgrade Timed) seen)
    (purpose.Upgrade Timed) Timed (count_in seen == 1)
led a (purpose.Release access.Shared) seen =
    leaves_led seen (decided_for a (purpose.Release access.Shared) seen) (purpose.Release access.Shared)
    Second (has_aside seen && (count_in seen == 1))
led a (purpose.Release access.Upgradable) seen =
    leaves_led seen (decided_for a (purpose.Release access.Upgradable) seen)
    (purpose.Release access.Upgradable) Main (has_parked seen)
led a (purpose.Release access.Exclusive) seen =
    leaves_led seen (decided_for a (purpose.Release access.Exclusive) seen) (purpose.Release access.Exclusive)
    Main (has_parked seen)
led a (purpose.Downgrade d) seen = leaves_led seen (decided_for a (purpose.Downgrade d) seen)
    (purpose.Downgrade d) Main (has_parked seen)

module _ (l : ℕ) (a : Admission) (c : RwLockPurpose) (seen : ℕ) where
  led_by : (k : Course) → course_of a c seen ≡ k → Led (decided_for a c seen) c seen k
      (rwlock_next a (rwlock_first c) (Value seen))
  led_by k e = subst (λ (x : Course). Led (decided_for a c seen) c seen x (rwlock_next a (rwlock_first c)
      (Value seen))) e (led a c seen)

  -- the thread has ended
  pub ends_with : (answer : Answer) → course_of a c seen ≡ Ends answer
      → answer_of (next_act (rwlock_begin l a c) (Value seen)) ≡ Some answer
  ends_with answer e = ap (λ (n : Next RwLockPlace). answer_of (rwlock_does l a (plain_next n)))
      (led_by (Ends answer) e)

  -- the thread goes on, with or without a wait
  pub waits_at : course_of a c seen ≡ GoesOn → (p : RwLockPlace)
      × (rwlock_next a (rwlock_first c) (Value seen) ≡ At p)
  waits_at e = led_by GoesOn e

  pub takes_at : course_of a c seen ≡ Takes → (p : RwLockPlace)
      × (rwlock_next a (rwlock_first c) (Value seen) ≡ At p)
  takes_at e = (decides c seen, (led_by Takes e).0)

  pub comes_to : course_of a c seen ≡ Takes → next_place (rwlock_begin l a c) (Value seen) ≡ rwlock_deciding l
      a c seen
  comes_to e = ap (λ (n : Next RwLockPlace). rwlock_goes l a (plain_next n)) (led_by Takes e).0

  module _ (takes : course_of a c seen ≡ Takes) where
    -- the thread takes its right by an exchange
    pub takes_by : act_of (rwlock_deciding l a c seen) ≡ act.Word l (Exchange seen (word_taken c seen))
    takes_by = ap (decided_act l c seen) (led_by Takes takes).1

    -- which ends it, where it finds what was expected
    pub takes_all : (found : ℕ) → found ≡ seen → next_act (rwlock_deciding l a c seen) (Value found)
        ≡ act.End (entered (patience_of c))
    takes_all found e = ap (λ (n : Next RwLockPlace). rwlock_does l a (plain_next n))
        (ap (exchanged_next a (decides c seen) seen found) (led_by Takes takes).1
        ∙ ap (λ (b : Bool). if b then came_in (decides c seen) else looked a (decides c seen) found)
        (eq-eqb found seen e)
        ∙ (led_by Takes takes).2)

    module _ (up : Type 0) (base : List Ownership) (st : ThreadState)
        (fits : Fits up base (rwlock_deciding l a c seen) st) where
      pub may_take : MayStep kinds.RwLock (rwlock_at l) (Exchange seen (word_taken c seen)) st.owns
      may_take = subst (ActNeeds rwlocks (at_rwlock l) st) takes_by (rwlock_place_leads up l a base
          (Plain (decides c seen)) st fits).0

      pub takes_on : (found : ℕ) (new : ThreadState) → Stepped kinds.RwLock (rwlock_at l)
          (Exchange seen (word_taken c seen)) found st new → Reached up base (rwlock_deciding l a c seen)
          (Value found) new
      takes_on found new s = (rwlock_place_leads up l a base (Plain (decides c seen)) st fits).2 (Value found)
          new
          (subst (λ (x : Act). Became up rwlocks (at_rwlock l) (sleeper_at (rwlock_deciding l a c seen)) st x
          (Value found) new) (sym takes_by) s)
