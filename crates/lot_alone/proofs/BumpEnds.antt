-- Each call of a reader-writer lock that steps alone from its beginning: a bump ends with its right, or
-- gives it up and is as a call that enters.
use Rattle.lot_laws.proofs.Imports
use Imports.{ℕ, zero, suc, Bool, true, false, Option, Some, None, ◌==◌, ◌&&◌, ◌||◌, not, ◌≡◌, ◌≢◌, ◌+◌, ◌-◌}
use Imports.{◌≤◌, ◌<◌, ◌^◌, ◌⊎◌, inl, inr, [], length, replicate, refl, sym, ◌∙◌, ap, subst, arith, slice_index}
use Imports.{slice_set, sum, eqb-true, nat_tests, Exclusive, Upgradable, Shared, Access, Patient, Timed, Try}
use Imports.{RwLockCall, Outcome, Admission, RwLockPlace, rwlock_first, Admits, wanted, Plain, PeekQueue}
use Imports.{call_first, call_role, enters_again, gives_way, IsLockState, LockState, Rights, Sort, Recursive}
use Imports.{Rules, IsBlocked, IsFree, MayEnter, Owns, count, is_recursive, one_if_some, readers, rights_of}
use Imports.{with_right, TellsTrue, bit, code, count_in, has_parked, has_writer, writers, Bumps, rwlock_purpose}
use Imports.{LocksState, IsRun, one_more_at, rules_at, Role, Has, IsSite, Main, has_readers, rw_is}
use Imports.{words_tell_true, packed_writer, fewer_share, RwLock, act_of, SoloEnd as Ran, State, after}
use Imports.{after_steps, alone_after, go_of, place_at, queue_at, section_at, solo, step_outcome, step_outcomes}
use Imports.{word_at, call_at, call_state, lock_state, locks_of, IsInductive, IsWorld, key_of, rules_in}
use Imports.{site_of, role_on, BumpsShared, ComesBack, EndsAlone, locks_afterwards, EntersAlone, BumpGivesWay}
use Imports.{MayEnterAtOnce, NeedsNoWay, EndsOrSleeps, WaitsAlone, WaitsForReaders, EntersSection, HasWhatItReads}
use Imports.{IsBarred, IsWorldRun}
use Rattle.spec_locks.specs.declared.calls.Access.TheVariants as access
use Rattle.spec_locks.specs.declared.calls.RwLockCall.TheVariants as call
use Rattle.spec_locks.specs.declared.outcomes.Answer.TheVariants as answer
use Rattle.spec_locks.specs.declared.outcomes.Outcome.TheVariants as outcome
use Rattle.steps_rwlock.specs.declared.purposes.RwLockPurpose.TheVariants as purpose
use Rattle.steps_rwlock_fair.specs.declared.hand_over.HandOverAt.TheVariants as handing
use Rattle.spec_locks.specs.Locks.{Mutex as Mutual, Normal}
use Rattle.spec_locks.specs.Locks.{Semaphore, Once}
use Rattle.spec_locks.specs.Locks.{Condvar}
use Rattle.lot_laws.proofs.machine.Parts.{role_here, inside_is, put_here}
use Rattle.lot_alone.proofs.Leads.{Leads, or_so}
use Rattle.lot_alone.proofs.TwoLines.{StepsAlone}
use Rattle.lot_alone.proofs.Answers.{HasAnswered, answered, former_kept}
use Rattle.lot_laws.proofs.promises.WorldRuns.{RunsAlone, run_refines, runs_alone, world_run}
use Rattle.lot_alone.proofs.HandsOver.{EntersAgain, Ends, Resting, glance_rests, hands_over_rest}
use Rattle.lot_alone.proofs.Bump.{SameEnd, again_rests, as_first, as_plain, first_may, first_seen}
use Rattle.lot_alone.proofs.Bump.{plain_alone}
use Rattle.lot_alone.proofs.RwLock.{downgrade_ends, load_leads, release_ends, upgrade_leads}
use Rattle.lot_laws.proofs.rwlock.Words.{word_small}
use Rattle.lot_alone.proofs.RwLockEnds.{downgrades_alone, enters_alone, exclusive_released, no_mutex}
use Rattle.lot_alone.proofs.RwLockEnds.{releases_alone, tries_upgrade, upgradable_released}
use Rattle.lot_alone.proofs.RwLockEnds.{upgrades_alone}

-- --------------------------------------------- some steps of a thread alone, after each of which it goes on

steps_run : (n : ℕ) (w : State) (t : ℕ) → IsWorld w → step_outcomes w (replicate n (go_of t))
    ≡ replicate n outcome.Step
    → IsRun (locks_of w) (replicate n (go_of t)) (replicate n outcome.Step)
    (locks_of (after_steps w (replicate n (go_of t))))
steps_run n w t h told = run_refines w (after_steps w (replicate n (go_of t))) (replicate n (go_of t))
    (replicate n outcome.Step)
    (subst (λ os. IsWorldRun w (replicate n (go_of t)) os (after_steps w (replicate n (go_of t)))) told
    (world_run w (replicate n (go_of t)) h))

-- a run ends so, or is barred
abbrev ComesTo : ℕ → Ran → Type 0
ComesTo t r = EndsOrSleeps r.outcome ⊎ IsBarred r.state t

-- a call that comes to rest steps first, unless it is barred
moves : (k : ℕ) (w : State) (t : ℕ) → Leads k w t Resting → (IsBarred w t → ⊥) → step_outcome w (go_of t)
    ≢ outcome.NotNow
unfolding solo
moves k w t h free e = elim (subst (λ o. ComesTo t (alone_after o w (after w (go_of t)) outcome.NotNow
    (solo k (after w (go_of t)) t outcome.Step))) e (h (suc k) outcome.NotNow (omega arith))) [
      | inl rests ↦ rests
      | inr barred ↦ free barred
    ]

-- From there on it does not matter what the thread was told before.
solo_from : (n : ℕ) (w : State) (t : ℕ) (last last2 : Outcome) → step_outcome w (go_of t) ≢ outcome.NotNow
    → 1 ≤ n
    → solo n w t last ≡ solo n w t last2
unfolding solo
solo_from zero w t last last2 goes le = absurd (omega arith)
solo_from (suc n) w t last last2 goes le = by_outcome (step_outcome w (go_of t)) goes
  where
    by_outcome : (o : Outcome) → o ≢ outcome.NotNow
        → alone_after o w (after w (go_of t)) last (solo n (after w (go_of t)) t outcome.Step)
        ≡ alone_after o w (after w (go_of t)) last2 (solo n (after w (go_of t)) t outcome.Step)
    by_outcome outcome.NotNow ne = absurd (ne refl)
    by_outcome o ne = refl

-- ---------------------------------------------------------------- statements on the locks alone

-- a call that waits for a right comes to the same by the locks that it sees
module _ (before : Type 0) (w w2 v v2 : LocksState) (t l : ℕ) (o o2 : Outcome) (locks : w.locks l
    ≡ w2.locks l)
    (rules : rules_at w l ≡ rules_at w2 l) (locks2 : v.locks l ≡ v2.locks l) (told : o ≡ o2) where
  may_so : (x : Access) → MayEnterAtOnce ⊥ (rules_at w2 l) (w2.locks l) (wanted x) Patient
      → MayEnterAtOnce before (rules_at w l) (w.locks l) (wanted x) Patient
  may_so access.Shared h = subst (λ (p : Rules × LockState). MayEnter p.0 p.1 Shared)
      (λ i. (sym rules i, sym locks i)) h
  may_so access.Upgradable h = subst (λ (p : Rules × LockState). MayEnter p.0 p.1 Upgradable)
      (λ i. (sym rules i, sym locks i)) h
  may_so access.Exclusive h = subst (λ (p : Rules × LockState). MayEnter p.0 p.1 Exclusive
      × (has_readers p.0.sort ≡ true → readers p.1 ≡ 0)) (λ i. (sym rules i, sym locks i)) h

  enters_so : (x : Access) → EntersAlone before w t l (wanted x) Patient o v
      → EntersAlone ⊥ w2 t l (wanted x) Patient o2 v2
  enters_so x h = record {
    owns = λ may. subst (λ (p : Outcome × LockState). (p.0 ≡ outcome.End answer.Ok) × Owns p.1 t (wanted x))
        (λ i. (told i, locks2 i)) (h.owns (may_so x may));
    pends = λ e may some. subst (λ (p : Outcome × LockState). WaitsForReaders Patient t p.0 p.1)
        (λ i. (told i, locks2 i))
        (h.pends e (subst (λ (p : Rules × LockState). MayEnter p.0 p.1 (wanted x))
        (λ i. (sym rules i, sym locks i)) may) (subst (λ s. 1 ≤ readers s) (sym locks) some));
    refused = λ sort e try. absurd (let f : Patient ≡ Try = try in cc);
    full = λ full. sym told ∙ h.full (
      full.0,
      subst (λ (p : Rules × LockState). IsFree p.0 p.1 (wanted x))
          (λ i. (sym rules i, sym locks i)) full.1,
      subst (λ (p : Rules × LockState). p.0.limit ≤ count p.1)
          (λ i. (sym rules i, sym locks i)) full.2,
    );
    barred = λ b. subst (λ (p : Outcome × (LockState × LockState)). WaitsAlone Patient p.1.0 t (wanted x) p.0
        p.1.1) (λ i. (told i, (locks i, locks2 i)))
        (h.barred (subst (λ (p : Rules × LockState). IsBlocked p.0 p.1 (wanted x))
        (λ i. (sym rules i, sym locks i)) b));
  }

-- ---------------------------------------------------------------- a bump

-- a writer owns alone
few_writers_of : (r : Rules) (s : LockState) → IsLockState r s → writers s ≤ 1
few_writers_of r s state = grind (arith, state.exclusive_alone)

pending_is_writer : (s : LockState) → writers s ≤ 1 → s.pending ≢ None → (writers s == 1) ≡ true
pending_is_writer s most some = grind (arith, nat_tests)

writer_beside_readers : (r : Rules) (s : LockState) → IsLockState r s → 1 ≤ readers s → (writers s == 1)
    ≡ true → s.pending ≢ None
writer_beside_readers r s state shared h none = grind (arith, nat_tests, state.exclusive_alone)

module _ (w : State) (t l : ℕ) (a : Admission) (x : Access) (holds : IsWorld w)
    (admits : Admits (rules_in w l) a)
    (is : place_at w t ≡ RwLock l a (PeekQueue x)) (v2 : State) (o : Outcome) (run : RunsAlone w t o v2) where
  abbrev s : LockState
  s = lock_state w l

  abbrev word : ℕ
  word = word_at w l

  tells : TellsTrue (rules_in w l) (site_of w l)
  tells = words_tell_true (rules_in w l) (site_of w l) admits.0 (holds.inductive.sites.site l)

  coded : word ≡ code (rules_in w l) (site_of w l)
  coded = holds.inductive.sites.word l

  role_now : role_on (place_at w t) l ≡ call_role (PeekQueue x)
  role_now = ap (λ p. role_on p l) is ∙ role_here l (RwLock l a (PeekQueue x)) refl

  -- tells what it owned as it began
  began : (call_at w t).former ≡ (λ k. rights_of (lock_state w k) t)
  began = ap (λ p. (call_state p (λ k. rights_of (lock_state w k) t)).former) is

  -- the thread ends with its right
  ends_owning : o ≡ outcome.End answer.Ok → Owns (lock_state v2 l) t (wanted x)
  ends_owning told = (subst (λ p. HasAnswered t p (call_at w t).former answer.Ok (locks_of v2)) called
      (answered run.told (locks_of w) (locks_of v2) t answer.Ok
      (run_refines w v2 (replicate (length run.told) (go_of t)) run.told run.run) run.goes_on (sym run.last
      ∙ told))).holds.0
    where
      called : (call_at w t).purpose ≡ Some (Bumps l (wanted x))
      called = ap (λ p. (call_state p (λ k. rights_of (lock_state w k) t)).purpose) is

  -- ---------------------------------------------------------------- when it gives way

  site : IsSite (rules_in w l) (site_of w l)
  site = holds.inductive.sites.site l

  -- a thread that is to set the bit of a lock that is shared has taken waiters
  owes_taken : (u : ℕ) → ((site_of w l).role u).bit_pending ≡ true → ((site_of w l).role u).owes_taken ≡ true
  owes_taken u bit_pending = elim (site.setting u bit_pending) [
    | inl has ↦ has
    | inr once ↦ absurd (let f : has_readers Once ≡ true = subst (λ sort. has_readers sort ≡ true) once.0
        admits.0 in cc)
  ]

  -- nobody else is inside, and it sets no bit itself
  has_waiter : ((u : ℕ) → section_at w (key_of l Main) ≡ Some u → u ≡ t) → s.queue ≢ [] → has_parked word
      ≡ true
  has_waiter way some = elim (site.parked some) [
    | inl h ↦ ap has_parked coded ∙ tells.parked ∙ h
    | inr h ↦ absurd (
        let covered = site.covered h.0 (owes_taken h.0 h.1) in
        let inside : section_at w (key_of l Main) ≡ Some h.0 = (holds.inductive.stands.sections h.0 l Main).0
        (sym (inside_is (place_at w h.0) l) ∙ covered.0) in
        let here : (role_on (place_at w t) l).bit_pending ≡ true =
        subst (λ u. (role_on (place_at w u) l).bit_pending ≡ true) (way h.0 inside) h.1 in
        let f : false ≡ true = sym (ap (λ (d : Role). d.bit_pending) role_now) ∙ here in cc)
  ]

  few_writers : writers s ≤ 1
  few_writers = few_writers_of (rules_in w l) s site.state

  few : (b : Bool) → bit b ≤ 1
  few true = omega arith
  few false = omega arith

  some_few : (o : Option ℕ) → one_if_some o ≤ 1
  some_few None = omega arith
  some_few (Some u) = omega arith

  writer_is : has_writer word ≡ (writers s == 1)
  writer_is = ap has_writer (coded ∙ rw_is (rules_in w l).sort (rules_in w l).limit (site_of w l) admits.0)
      ∙ ap (λ n. n == 1) (packed_writer (count s) (writers s) (one_if_some s.upgradable)
      (bit (site_of w l).aside_parked) (bit (site_of w l).parked) few_writers (some_few s.upgradable)
      (few (site_of w l).aside_parked) (few (site_of w l).parked))

  counted : count_in word ≡ count s
  counted = ap count_in coded ∙ tells.count

  -- by what it reads
  last_reader : ((rules_in w l).sort ≡ Recursive → count s ≡ 1) → (not a.recursive || (count_in word == 1))
      ≡ true
  last_reader one = by_sort (rules_in w l).sort refl admits.1
    where
      by_sort : (sort : Sort) → (rules_in w l).sort ≡ sort → is_recursive sort ≡ a.recursive
          → (not a.recursive || (count_in word == 1)) ≡ true
      by_sort Recursive e f = ap (λ (b : Bool). not b || (count_in word == 1)) (sym f)
          ∙ ap (λ n. n == 1) (counted ∙ one e)
      by_sort Normal e f = ap (λ (b : Bool). not b || (count_in word == 1)) (sym f)
      by_sort Mutual e f = ap (λ (b : Bool). not b || (count_in word == 1)) (sym f)
      by_sort Semaphore e f = ap (λ (b : Bool). not b || (count_in word == 1)) (sym f)
      by_sort Once e f = ap (λ (b : Bool). not b || (count_in word == 1)) (sym f)
      by_sort Condvar e f = ap (λ (b : Bool). not b || (count_in word == 1)) (sym f)

  reads_last : (not a.recursive || (count_in word == 1)) ≡ true → (rules_in w l).sort ≡ Recursive
      → count s ≡ 1
  reads_last h e = sym counted ∙ eqb-true (count_in word) 1 (ap (λ (b : Bool). not b || (count_in word == 1))
      (ap is_recursive (sym e) ∙ admits.1) ∙ h)

  pending_writes : s.pending ≢ None → (writers s == 1) ≡ true
  pending_writes some = pending_is_writer s few_writers some

  writes_pending : 1 ≤ readers s → (writers s == 1) ≡ true → s.pending ≢ None
  writes_pending shared h = writer_beside_readers (rules_in w l) s site.state shared h

  gives_so : (x2 : Access) → HasWhatItReads w t (Some (Bumps l (wanted x2)))
      → BumpGivesWay (rules_in w l) s (wanted x2) → gives_way a x2 word ≡ true
  gives_so access.Shared reads g = ap (λ b. b && (not a.recursive || (count_in word == 1))) (writer_is
      ∙ pending_writes g.0) ∙ last_reader g.1
  gives_so access.Upgradable reads g = has_waiter reads g
  gives_so access.Exclusive reads g = has_waiter reads g

  some_share : Owns s t Shared → 1 ≤ readers s
  some_share shares = let e : sum (slice_set s.shared t (slice_index s.shared t - 1)) + 1 ≡ sum s.shared =
      fewer_share s.shared t shares in omega arith

  shares_now : access.Shared ≡ x → 1 ≤ readers s
  shares_now e = some_share (site.held t (Has Shared) (ap (λ (d : Role). d.claims) role_now
      ∙ ap (λ (y : Access). Some (Has (wanted y))) (sym e)))

  keeps_so : (x2 : Access) → x2 ≡ x → NeedsNoWay (has_parked word ≡ false) (rules_in w l) s (wanted x2)
      → gives_way a x2 word ≡ false
  keeps_so access.Shared e none = either (has_writer word) (not a.recursive || (count_in word == 1)) refl refl
    where
      either : (b c : Bool) → has_writer word ≡ b → (not a.recursive || (count_in word == 1)) ≡ c
          → (b && c) ≡ false
      either false c f g = refl
      either true false f g = refl
      either true true f g = absurd (none (writes_pending (shares_now e) (sym writer_is ∙ f), reads_last g))
  keeps_so access.Upgradable e none = none
  keeps_so access.Exclusive e none = none

  -- ---------------------------------------------------------------- the thread comes back

  module _ (e : EntersAgain t l a x w v2 o) where
    abbrev between : State
    between = after_steps w (replicate e.steps (go_of t))

    abbrev entry : RwLockPlace
    entry = rwlock_first (purpose.Enter x Patient)

    abbrev plain_w : State
    plain_w = as_plain between t l a entry

    plain : StepsAlone plain_w t l (RwLock l a (Plain entry)) e.word e.queues
    plain = plain_alone t l a between entry e.word e.queues e.shares (first_may t l a x) e.alone

    -- the thread enters no section there
    unbarred : IsBarred between t → ⊥
    unbarred b = by_access x (subst (λ p. EntersSection (key_of b.lock b.line) (act_of p)) e.alone.place
        b.enters)
      where
        by_access : (y : Access) → EntersSection (key_of b.lock b.line) (act_of (RwLock l a (enters_again y)))
            → ⊥
        by_access access.Exclusive h = h
        by_access access.Shared h = h
        by_access access.Upgradable h = h

    same_ends : SameEnd t l a x (solo e.room plain_w t outcome.NotNow) (solo e.room between t outcome.NotNow)
    same_ends = as_first t l a x e.word between e.queues e.shares e.alone e.room outcome.NotNow

    from_there : solo e.room between t outcome.NotNow ≡ solo e.room between t e.last
    from_there = solo_from e.room between t outcome.NotNow e.last
        (moves 11 between t (again_rests t l a x e.word between e.queues e.shares e.alone) unbarred)
        (let enough : 11 ≤ e.room = e.enough in omega arith)

    run_there : IsRun (locks_of w) (replicate e.steps (go_of t)) (replicate e.steps outcome.Step)
        (locks_of between)
    run_there = steps_run e.steps w t holds e.told

    former_at : (y : Access) (rights : ℕ → Rights)
        → (call_state (RwLock l a (enters_again y)) rights).former ≡ one_more_at l (wanted y) rights
    former_at access.Shared rights = refl
    former_at access.Upgradable rights = refl
    former_at access.Exclusive rights = refl

    gave_up : with_right (wanted x) (rights_of (lock_state between l) t) ≡ rights_of s t
    gave_up = sym (put_here (λ k. rights_of (lock_state between k) t) l (with_right (wanted x)
        (rights_of (lock_state between l) t)))
        ∙ ap (λ f. f l) (sym (ap (λ p. (call_state p (λ k. rights_of (lock_state between k) t)).former)
        e.alone.place ∙ former_at x (λ k. rights_of (lock_state between k) t))
        ∙ former_kept e.steps (locks_of w) (locks_of between) t run_there ∙ began)

    -- where it comes to what a call comes to that enters
    comes_so : EntersAlone (word_at plain_w l ≡ 0) (locks_of plain_w) t l (wanted x) Patient
        (solo e.room plain_w t outcome.NotNow).outcome (locks_of (solo e.room plain_w t outcome.NotNow).state)
        → ComesBack (locks_afterwards w t) (locks_of w) t l (wanted x) o (locks_of v2)
    comes_so h = record {
      steps = e.steps;
      run = run_there;
      given_up = gave_up;
      enters = enters_so (word_at plain_w l ≡ 0) (locks_of plain_w) (locks_of between)
          (locks_of (solo e.room plain_w t outcome.NotNow).state) (locks_of v2) t l
          (solo e.room plain_w t outcome.NotNow).outcome o
          (first_seen t l a x between e.alone.place l) refl
          (same_ends.1 l ∙ ap (λ (r : Ran). lock_state r.state l) from_there
          ∙ ap (λ (z : State). lock_state z l) e.state)
          (same_ends.0 ∙ ap (λ (r : Ran). r.outcome) from_there ∙ e.outcome_is) x h;
    }

    comes_back : ComesBack (locks_afterwards w t) (locks_of w) t l (wanted x) o (locks_of v2) ⊎ IsBarred v2 t
    comes_back = elim (enters_alone plain_w t l a x Patient e.room outcome.NotNow e.enough plain.inductive
        e.shares plain.place
        (record {
          shape = plain.shape;
          inductive = plain.inductive;
          counted = plain.counted;
          condvars = plain.condvars;
          settled = plain.settled;
          thread = plain.thread;
          lock = plain.lock;
          place = plain.place;
          single = plain.single;
          word = refl;
          queue = λ m. refl;
        })
        (runs_alone e.room plain_w t (record {
          well_formed = plain.shape;
          inductive = plain.inductive;
          counted = plain.counted;
          condvars = plain.condvars;
          settled = plain.settled;
        }))) [
          | inl h ↦ inl (comes_so h)
          | inr barred ↦ inr (subst (λ (z : State). IsBarred z t) (ap (λ (r : Ran). r.state) from_there
              ∙ e.state) (same_ends.2 barred))
        ]

  pub bumps_shared : HasWhatItReads w t (Some (Bumps l (wanted x))) → Ends t l a (gives_way a x word) x w v2 o
      → BumpsShared (has_parked word ≡ false) (locks_afterwards w t) (locks_of w) t l (wanted x) o
      (locks_of v2)
      ⊎ IsBarred v2 t
  bumps_shared reads h = either (gives_way a x word) refl
    where
      either : (b : Bool) → gives_way a x word ≡ b
          → BumpsShared (has_parked word ≡ false) (locks_afterwards w t) (locks_of w) t l (wanted x) o
          (locks_of v2) ⊎ IsBarred v2 t
      either true gives = or_so (λ back. record {
        gives_way = λ g. back;
        stays = λ none. absurd (let f : true ≡ false = sym gives ∙ keeps_so x refl none in cc);
      }) (comes_back (h.0 gives))
      either false keeps = inl (record {
        gives_way = λ g. absurd (let f : false ≡ true = sym keeps ∙ gives_so x reads g in cc);
        stays = λ none. let told = h.1 keeps in (told, ends_owning told);
      })

-- ---------------------------------------------------------------- each call, from its beginning

pub rwlock_alone : (w : State) (t l : ℕ) (a : Admission) (c : RwLockCall) (n : ℕ) (last : Outcome) → 18 ≤ n
    → IsInductive w
    → Admits (rules_in w l) a → place_at w t ≡ RwLock l a (call_first c)
    → StepsAlone w t l (RwLock l a (call_first c)) (word_at w l) (λ m. queue_at w (key_of l m))
    → RunsAlone w t (solo n w t last).outcome (solo n w t last).state
    → HasWhatItReads w t (Some (rwlock_purpose l c))
    → EndsAlone w t (Some (rwlock_purpose l c)) (solo n w t last).outcome (solo n w t last).state
    ⊎ IsBarred (solo n w t last).state t
rwlock_alone w t l a c n last le inductive admits is f run reads = by_call c is f reads
  where
    small : word_at w l < 2 ^ 64
    small = word_small w l inductive admits.0

    v2 : State
    v2 = (solo n w t last).state

    x : Outcome
    x = (solo n w t last).outcome

    by_call : (c : RwLockCall) → place_at w t ≡ RwLock l a (call_first c)
        → StepsAlone w t l (RwLock l a (call_first c)) (word_at w l) (λ m. queue_at w (key_of l m))
        → HasWhatItReads w t (Some (rwlock_purpose l c))
        → EndsAlone w t (Some (rwlock_purpose l c)) x v2 ⊎ IsBarred v2 t
    by_call (call.Enter y how) is f reads = enters_alone w t l a y how n last (omega arith) inductive admits
        is f
        run
    by_call (call.Release y) is f reads = or_so (releases_alone w t l a inductive admits v2 x run y is)
        (release_ends t l a y false (word_at w l) w (λ m. queue_at w (key_of l m)) f n last (omega arith))
    by_call (call.Downgrade d) is f reads = or_so (downgrades_alone w t l a inductive admits v2 x run d is)
        (downgrade_ends t l a d false (word_at w l) w (λ m. queue_at w (key_of l m)) f n last (omega arith))
    by_call (call.Upgrade Try) is f reads = or_so (tries_upgrade w t l a inductive admits v2 x run is)
        (load_leads t l a _ (word_at w l) w (λ m. queue_at w (key_of l m)) small f n last (omega arith))
    by_call (call.Upgrade Patient) is f reads =
        or_so (upgrades_alone w t l a inductive admits v2 x run Patient (λ h. cc) is)
        (upgrade_leads t l a Patient false (word_at w l) w (λ m. queue_at w (key_of l m)) f n last
        (omega arith))
    by_call (call.Upgrade Timed) is f reads =
        or_so (upgrades_alone w t l a inductive admits v2 x run Timed (λ h. cc) is)
        (upgrade_leads t l a Timed false (word_at w l) w (λ m. queue_at w (key_of l m)) f n last
        (omega arith))
    by_call (call.ReleaseFair access.Shared) is f reads =
        or_so (releases_alone w t l a inductive admits v2 x run access.Shared is)
        (release_ends t l a access.Shared false (word_at w l) w (λ m. queue_at w (key_of l m)) f n last
        (omega arith))
    by_call (call.ReleaseFair access.Upgradable) is f reads =
        or_so (λ h. upgradable_released w t l a inductive admits v2 x run is (h.1 refl))
        (hands_over_rest t l a access.Upgradable false handing.Load tt (word_at w l) w
        (λ m. queue_at w (key_of l m)) admits f n last (omega arith))
    by_call (call.ReleaseFair access.Exclusive) is f reads =
        or_so (λ h. exclusive_released w t l a inductive admits v2 x run is (h.1 refl))
        (hands_over_rest t l a access.Exclusive false (handing.Free 8) refl (word_at w l) w
        (λ m. queue_at w (key_of l m)) admits f n last (omega arith))
    by_call (call.Bump y) is f reads =
        elim (glance_rests t l a y (word_at w l) w (λ m. queue_at w (key_of l m)) admits f n last
        (omega arith)) [
          | inl h ↦ or_so (λ shared. (
            (λ mutex. no_mutex w t l a inductive admits v2 x run mutex),
            λ readers.
                shared,
          ))
              (bumps_shared w t l a y (record {
                well_formed = f.shape;
                inductive = f.inductive;
                counted = f.counted;
                condvars = f.condvars;
                settled = f.settled;
              }) admits is v2 x run reads h)
          | inr barred ↦ inr barred
        ]
