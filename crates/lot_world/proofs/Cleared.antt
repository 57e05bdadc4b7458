-- Where the releases are over, the word is 0, or a thread clears it.
use Rattle.std.proofs.Common.{ℕ, zero, suc, Bool, true, false, Option, Some, None, if◌then◌else◌, ◌==◌, ◌≡◌}
use Rattle.std.proofs.Common.{◌≢◌, ◌≤◌, ◌<◌, length, length-set, inl, inr, refl, sym, ◌∙◌, ap, subst, arith}
use Rattle.std.specs.Prelude.{replicate, slice_index_or, sum}
use Rattle.std.proofs.lemmas.Bool.{eqb-true}
use Rattle.core_base.specs.declared.wants.Want.TheVariants.{Exclusive}
use Rattle.spec_locks.specs.declared.calls.Call.{Call}
use Rattle.spec_locks.specs.declared.kinds.Kind.{Kind}
use Rattle.spec_locks.specs.declared.kinds.Kind.TheVariants as kind
use Rattle.spec_locks.specs.declared.outcomes.Outcome.TheVariants as outcome
use Rattle.spec_locks.specs.Calls.{lock_in}
use Rattle.spec_locks.specs.Codes.{code}
use Rattle.spec_locks.specs.Locks.{IsLockState, MayEnter, Owns, readers, rights_of}
use Rattle.spec_locks.specs.Purposes.{Enters, purpose_of, rules_of}
use Rattle.spec_locks.specs.declared.calls.Patience.TheVariants.{Patient}
use Rattle.spec_locks.specs.Runs.{HasRight, purpose_at}
use Rattle.spec_locks.specs.Sites.{has_readers}
use Rattle.lot_steps.specs.declared.places.Place.TheVariants.{Idle}
use Rattle.lot_steps.specs.Steps.{first_place}
use Rattle.lot_machine.specs.Machine.{State, after, can_begin, kind_at, place_at, section_at, solo}
use Rattle.lot_machine.specs.Machine.{state_after_begin, word_at}
use Rattle.lot_laws.specs.Refinement.{call_state, lock_state, locks_of}
use Rattle.lot_laws.specs.SitesOf.{IsWorld, key_of, rules_in, site_of}
use Rattle.lot_laws.specs.Solo.{EndsAlone, EndsBy, IsUnobstructed, locks_afterwards}
use Rattle.lot_laws.proofs.calls.Begins.{begin_possible}
use Rattle.lot_laws.proofs.machine.Parts.{IsSingle}
use Rattle.lot_alone.proofs.EndsOrSleeps.{ends_alone}
use Rattle.lot_world.specs.Drained.{Drains}
use Rattle.lot_world.specs.Quiet.{IsAllOver}
use Rattle.lot_world.specs.Ordered.{NobodyInside, begin_of}
use Rattle.lot_world.specs.Drains.{IsDrained}
use Rattle.lot_world.specs.Schedules.{Progress, call_alone, clear, entry_call, fair_release_of, one_more}
use Rattle.lot_world.specs.Schedules.{passed_through}
use Rattle.lot_world.proofs.Clears.{IsFree, free_by_code, free_of, free_rights, mutex_word, shared_word}
use Rattle.lot_world.proofs.Passes.{Passes, begins, led, may}
use Rattle.lot_world.proofs.Passing.{Runs, lock_runs, release_runs_1, release_runs_2, release_runs_3}
use Rattle.lot_world.proofs.Passing.{unlock_runs, write_runs_1, write_runs_2, write_runs_3}
use Rattle.lot_world.proofs.Progress.{HasCome, HasGone, alone_state, call_goes, goes_then, stays}
use Rattle.lot_world.proofs.Released.{IsReady}

-- ---------------------------------------------------------------- a call of the thread

pub record IsCalled (k : Kind) (e : ℕ) (w : State) (d f : Progress) : Type 0 where
  pub gone : HasGone w 65 d f
  pub passes : Passes k f.state Idle e

module _ (k : Kind) (v : ℕ) (w : State) (f : Passes k w Idle v) (c : Call) (here : lock_in c ≡ 0) where
  kind_here : kind_at w (lock_in c) ≡ k
  kind_here = ap (kind_at w) here ∙ f.kind

  pub can_call : HasRight (locks_of w) 0 (purpose_of k c) → can_begin w 0 c ≡ true
  can_call right = begin_possible w 0 c (record {
    thread = f.alone.thread;
    idle = ap (λ p. (call_state p (λ l. rights_of (lock_state w l) 0)).purpose) f.alone.place;
    lock = subst (λ l. l < length w.locks) (sym here) f.alone.lock;
    right = subst (λ j. HasRight (locks_of w) 0 (purpose_of j c)) (sym kind_here) right;
  })

  pub begun : can_begin w 0 c ≡ true → IsSingle (first_place k c) → Passes k (after w (begin_of 0 c))
      (first_place k c) v
  begun can single = subst (λ j. IsSingle (first_place j c) → Passes k (after w (begin_of 0 c))
      (first_place j c) v) kind_here (begins k w v f c can) single

pub calls : (k : Kind) (v e n : ℕ) (w : State) (d : Progress) (c : Call) → Passes k d.state Idle v
    → HasCome w d → lock_in c ≡ 0
    → HasRight (locks_of d.state) 0 (purpose_of k c) → IsSingle (first_place k c) → n ≤ 64
    → Runs k n (first_place k c) v e
    → IsCalled k e w d (call_alone d 0 c)
calls k v e n w d c f h here right single le runs =
    let can = can_call k v d.state f c here right in
    record {
      gone = call_goes w d 0 c (may k d.state v f c can) h;
      passes = subst (λ s. Passes k s Idle e)
          (sym (alone_state 64 (one_more d (begin_of 0 c)) 0 outcome.NotNow))
          (runs (after d.state (begin_of 0 c)) (begun k v d.state f c here can single) 64 outcome.NotNow le);
    }

-- -------------------------------------------------------- a thread that enters a lock without owner, owns it

module _ (k : Kind) (v : ℕ) (w : State) (f : Passes k w Idle v) (c : Call) (here : lock_in c ≡ 0)
    (outside : NobodyInside w) (free : IsFree (lock_state w 0))
    (enters : purpose_of k c ≡ Some (Enters 0 Exclusive Patient)) (single : IsSingle (first_place k c)) where
  can : can_begin w 0 c ≡ true
  can = can_call k v w f c here (rw enters tt)

  abbrev w1 : State
  w1 = after w (begin_of 0 c)

  g : Passes k w1 (first_place k c) v
  g = begun k v w f c here can single

  leads : w1 ≡ state_after_begin w 0 c
  leads = led k w v f c can

  kind_there : kind_at w1 (lock_in c) ≡ k
  kind_there = ap (kind_at w1) here ∙ g.kind

  way : IsUnobstructed w1 0
  way l u m may has inside = absurd (let a : section_at w1 (key_of l m) ≡ None =
      ap (λ (x : State). section_at x (key_of l m)) leads ∙ outside (key_of l m) in
      let b : ◌≡◌ {A = Option ℕ} None (Some u) = sym a ∙ inside in cc)

  free_then : IsFree (lock_state w1 0)
  free_then = subst (λ x. IsFree (lock_state x 0)) (sym leads) (record {
    exclusive = free.exclusive;
    pending = free.pending;
    upgradable = free.upgradable;
    readers = ap (λ n. sum (slice_index_or w.shares 0 (replicate n 0))) (length-set w.places 0
        (first_place (kind_at w (lock_in c)) c)) ∙ free.readers;
  })

  may_enter : Drains (rules_of k).sort → MayEnter (rules_of k) (lock_state w1 0) Exclusive
  may_enter drains = by_kind k drains
    where
      by_kind : (k : Kind) → Drains (rules_of k).sort → MayEnter (rules_of k) (lock_state w1 0) Exclusive
      by_kind kind.Mutex d = ((tt, free_then.exclusive), tt)
      by_kind kind.Fair d = ((tt, free_then.exclusive), tt)
      by_kind (kind.RwLock limit) d = (
        (tt, (free_then.exclusive, free_then.pending, free_then.upgradable)),
        tt,
      )
      by_kind (kind.Recursive limit) d =
          ((tt, (free_then.exclusive, free_then.pending, free_then.upgradable)), tt)
      by_kind kind.Once d = absurd d
      by_kind (kind.Semaphore permits) d = absurd d
      by_kind kind.Condvar d = absurd d

  abbrev ended : State
  ended = (solo 64 w1 0 outcome.NotNow).state

  pub owns : Drains (rules_of k).sort → Owns (lock_state ended 0) 0 Exclusive
  owns drains =
      let ends : EndsAlone w1 0 (purpose_at (locks_of w1) c) (solo 64 w1 0 outcome.NotNow).outcome ended =
      ends_alone w1 0 g.alone.shape g.alone.inductive g.alone.counted g.alone.condvars g.alone.settled c
      (g.alone.place ∙ ap (λ j. first_place j c) (sym kind_there)) way in
      let told : purpose_at (locks_of w1) c ≡ Some (Enters 0 Exclusive Patient) =
      ap (λ j. purpose_of j c) kind_there ∙ enters in
      let by_right : EndsBy (word_at w1) (locks_afterwards w1 0) (locks_of w1) 0
      (Some (Enters 0 Exclusive Patient)) (solo 64 w1 0 outcome.NotNow).outcome (locks_of ended) =
      subst (λ q. EndsAlone w1 0 q (solo 64 w1 0 outcome.NotNow).outcome ended) told ends in
      (by_right.owns (subst (λ j. MayEnter (rules_of j) (lock_state w1 0) Exclusive
      × (has_readers (rules_of j).sort ≡ true → readers (lock_state w1 0) ≡ 0)) (sym g.kind)
      (may_enter drains, λ shares. free_then.readers))).1

-- ---------------------------------------------------------------- both calls

-- the thread takes the lock and releases it fairly
module _ (k : Kind) (v e n m : ℕ) (w : State) (d : Progress) (f : Passes k d.state Idle v) (h : HasCome w d)
    (outside : NobodyInside d.state) (free : IsFree (lock_state d.state 0))
    (drains : Drains (rules_of k).sort) (c r : Call) (enters : purpose_of k c
    ≡ Some (Enters 0 Exclusive Patient)) (here : lock_in c ≡ 0) (here_too : lock_in r ≡ 0)
    (single : IsSingle (first_place k c)) (single_too : IsSingle (first_place k r)) (le : n ≤ 64)
    (le_too : m ≤ 64)
    (takes : Runs k n (first_place k c) v e) (releases : Runs k m (first_place k r) e 0)
    (needs : (x : State) → Owns (lock_state x 0) 0 Exclusive → HasRight (locks_of x) 0 (purpose_of k r)) where
  entered : IsCalled k e w d (call_alone d 0 c)
  entered = calls k v e n w d c f h here (rw enters tt) single le takes

  owned : Owns (lock_state (call_alone d 0 c).state 0) 0 Exclusive
  owned = subst (λ x. Owns (lock_state x 0) 0 Exclusive)
      (sym (alone_state 64 (one_more d (begin_of 0 c)) 0 outcome.NotNow))
      (owns k v d.state f c here outside free enters single drains)

  released : IsCalled k 0 w (call_alone d 0 c) (call_alone (call_alone d 0 c) 0 r)
  released = calls k e 0 m w (call_alone d 0 c) r entered.passes entered.gone.come here_too
      (needs (call_alone d 0 c).state owned) single_too le_too releases

  pub two_calls : HasGone w 130 d (call_alone (call_alone d 0 c) 0 r)
      × Passes k (call_alone (call_alone d 0 c) 0 r).state Idle 0
  two_calls = (
    goes_then w 65 65 d (call_alone d 0 c) (call_alone (call_alone d 0 c) 0 r) entered.gone
        released.gone,
    released.passes,
  )

-- ---------------------------------------------------------------- the end

drained : (k : Kind) (w : State) → Drains (rules_of k).sort → Passes k w Idle 0 → IsDrained w
drained k w drains f = record {
  over = record { idle = idle; queues = f.alone.queue; owners = free_rights (lock_state w 0) free };
  word = f.alone.word;
}
  where
    idle : (t : ℕ) → place_at w t ≡ Idle
    idle zero = f.alone.place
    idle (suc t) = f.others (suc t) (λ h. omega arith)

    coded : code (rules_of k) (site_of w 0) ≡ 0
    coded = sym (ap (λ j. code (rules_of j) (site_of w 0)) f.kind) ∙ sym (f.alone.inductive.sites.word 0)
        ∙ f.alone.word

    free : IsFree (lock_state w 0)
    free = free_by_code k (site_of w 0) drains (subst (λ j. IsLockState (rules_of j) (lock_state w 0)) f.kind
        (f.alone.inductive.sites.site 0).state) coded

pub record IsCleared (w : State) (d e : Progress) : Type 0 where
  pub gone : HasGone w 130 d e
  pub drained : IsDrained e.state

module _ (w : State) (d : Progress) (ready : IsReady d.state) (over : IsAllOver d.state) (h : HasCome w d)
    (some : 1 ≤ length d.state.places) where
  abbrev s : State
  s = d.state

  world : IsWorld s
  world = ready.strict.ordered.world

  free : IsFree (lock_state s 0)
  free = free_of (lock_state s 0) over.owners

  stands : (k : Kind) → kind_at s 0 ≡ k → (v : ℕ) → word_at s 0 ≡ v → Passes k s Idle v
  stands k e v is = record {
    alone = record {
      shape = world.well_formed;
      inductive = world.inductive;
      counted = world.counted;
      condvars = world.condvars;
      settled = world.settled;
      thread = let a : 1 ≤ length s.places = some in omega arith;
      lock = let one : length s.locks ≡ 1 = ready.strict.ordered.lock.one in omega arith;
      place = over.idle 0;
      single = tt;
      word = is;
      queue = over.queues;
    };
    others = λ u ne. over.idle u;
    kind = e;
  }

  abbrev Result : Kind → Type 0
  Result k = HasGone w 130 d (passed_through d k) × Passes k (passed_through d k).state Idle 0

  -- by the kind and by what is left
  by_kind : (k : Kind) → kind_at s 0 ≡ k → Drains (rules_of k).sort → (v : ℕ) → word_at s 0 ≡ v → v ≢ 0
      → word_at s 0 ≡ code (rules_of k) (site_of s 0) → Result k
  by_kind kind.Mutex e drains v is bits coded = elim (mutex_word (site_of s 0) free) [
    | inl none ↦ absurd (bits (sym is ∙ coded ∙ none))
    | inr two ↦ two_calls kind.Mutex 2 3 3 5 w d (stands kind.Mutex e 2 (coded ∙ two)) h ready.outside free
        drains (entry_call kind.Mutex) (fair_release_of kind.Mutex) refl refl refl tt tt (omega arith)
        (omega arith) (lock_runs kind.Mutex) (unlock_runs kind.Mutex) (λ x o. o)
  ]
  by_kind kind.Fair e drains v is bits coded = elim (mutex_word (site_of s 0) free) [
    | inl none ↦ absurd (bits (sym is ∙ coded ∙ none))
    | inr two ↦ two_calls kind.Fair 2 3 3 5 w d (stands kind.Fair e 2 (coded ∙ two)) h ready.outside free
        drains (entry_call kind.Fair) (fair_release_of kind.Fair) refl refl refl tt tt (omega arith)
        (omega arith) (lock_runs kind.Fair) (unlock_runs kind.Fair) (λ x o. o)
  ]
  by_kind (kind.RwLock limit) e drains v is bits coded = elim (shared_word (site_of s 0) free) [
    | inl none ↦ absurd (bits (sym is ∙ coded ∙ none))
    | inr (inl one) ↦ two_calls (kind.RwLock limit) 1 9 4 5 w d (stands (kind.RwLock limit) e 1 (coded ∙ one))
        h ready.outside free drains (entry_call (kind.RwLock limit)) (fair_release_of (kind.RwLock limit))
        refl refl refl tt tt (omega arith) (omega arith) (write_runs_1 (kind.RwLock limit) _)
        (release_runs_1 (kind.RwLock limit) _) (λ x o. o)
    | inr (inr (inl two)) ↦ two_calls (kind.RwLock limit) 2 10 4 5 w d (stands (kind.RwLock limit) e 2 (coded
        ∙ two)) h ready.outside free drains (entry_call (kind.RwLock limit))
        (fair_release_of (kind.RwLock limit)) refl refl refl tt tt (omega arith) (omega arith)
        (write_runs_2 (kind.RwLock limit) _) (release_runs_2 (kind.RwLock limit) _) (λ x o. o)
    | inr (inr (inr three)) ↦ two_calls (kind.RwLock limit) 3 11 4 5 w d (stands (kind.RwLock limit) e 3
        (coded ∙ three)) h ready.outside free drains (entry_call (kind.RwLock limit))
        (fair_release_of (kind.RwLock limit)) refl refl refl tt tt (omega arith) (omega arith)
        (write_runs_3 (kind.RwLock limit) _) (release_runs_3 (kind.RwLock limit) _) (λ x o. o)
  ]
  by_kind (kind.Recursive limit) e drains v is bits coded = elim (shared_word (site_of s 0) free) [
    | inl none ↦ absurd (bits (sym is ∙ coded ∙ none))
    | inr (inl one) ↦ two_calls (kind.Recursive limit) 1 9 4 5 w d (stands (kind.Recursive limit) e 1 (coded
        ∙ one)) h ready.outside free drains (entry_call (kind.Recursive limit))
        (fair_release_of (kind.Recursive limit)) refl refl refl tt tt (omega arith) (omega arith)
        (write_runs_1 (kind.Recursive limit) _) (release_runs_1 (kind.Recursive limit) _) (λ x o. o)
    | inr (inr (inl two)) ↦ two_calls (kind.Recursive limit) 2 10 4 5 w d (stands (kind.Recursive limit) e 2
        (coded ∙ two)) h ready.outside free drains (entry_call (kind.Recursive limit))
        (fair_release_of (kind.Recursive limit)) refl refl refl tt tt (omega arith) (omega arith)
        (write_runs_2 (kind.Recursive limit) _) (release_runs_2 (kind.Recursive limit) _) (λ x o. o)
    | inr (inr (inr three)) ↦ two_calls (kind.Recursive limit) 3 11 4 5 w d
        (stands (kind.Recursive limit) e 3 (coded ∙ three)) h ready.outside free drains
        (entry_call (kind.Recursive limit)) (fair_release_of (kind.Recursive limit)) refl refl refl tt tt
        (omega arith) (omega arith) (write_runs_3 (kind.Recursive limit) _)
        (release_runs_3 (kind.Recursive limit) _) (λ x o. o)
  ]
  by_kind kind.Once e drains v is bits coded = absurd drains
  by_kind (kind.Semaphore permits) e drains v is bits coded = absurd drains
  by_kind kind.Condvar e drains v is bits coded = absurd drains

  pub clears : IsCleared w d (clear d)
  clears = by_word (word_at s 0 == 0) refl
    where
      drains : Drains (rules_in s 0).sort
      drains = ready.strict.ordered.lock.sort

      by_word : (b : Bool) → (word_at s 0 == 0) ≡ b
          → IsCleared w d (if b then d else passed_through d (kind_at s 0))
      by_word true e = record {
        gone = stays w 130 d h;
        drained = record { over = over; word = eqb-true (word_at s 0) 0 e };
      }
      by_word false e =
          let passed = by_kind (kind_at s 0) refl drains (word_at s 0) refl (λ z. let a : (word_at s 0 == 0)
          ≡ true = ap (λ n. n == 0) z in let b : true ≡ false = sym a ∙ e in cc)
          (world.inductive.sites.word 0) in
          record {
            gone = passed.0;
            drained = drained (kind_at s 0) (passed_through d (kind_at s 0)).state drains passed.1;
          }
