-- A lock that is full while it is drained.
use Rattle.std.proofs.Common.{ℕ, Bool, true, false, Option, Some, None, if◌then◌else◌, ◌==◌, ◌&&◌, ◌≡◌, ◌≢◌}
use Rattle.std.proofs.Common.{◌+◌, ◌≤◌, ◌<◌, List, [], ◌∷◌, length, map, nat_lt, nat_le, inl, inr, refl, sym}
use Rattle.std.proofs.Common.{◌∙◌, ap, subst, arith}
use Rattle.std.specs.Prelude.{slice_index}
use Rattle.std.proofs.lemmas.Bool.{cases_eq}
use Rattle.std.proofs.lemmas.Bool.Decides.{nat_tests}
use Rattle.std.proofs.lemmas.List.{get_or_past}
use Rattle.core_base.specs.declared.wants.Waiter.{Waiter}
use Rattle.core_base.specs.declared.wants.Want.{Want}
use Rattle.core_base.specs.Lines.{times}
use Rattle.spec_locks.specs.declared.outcomes.Outcome.{Outcome}
use Rattle.spec_locks.specs.declared.outcomes.Outcome.TheVariants as outcome
use Rattle.spec_locks.specs.Onces.{Start, Rest, Fail}
use Rattle.spec_locks.specs.Locks.{LockState, Rights, count, one_if_thread, rights_of, with_right}
use Rattle.spec_locks.specs.Locks as locks
use Rattle.spec_locks.specs.Picks.{queued_of}
use Rattle.spec_locks.specs.Purposes.{Purpose, CondvarMemory, Releases, WasMoved}
use Rattle.spec_locks.specs.Runs.{AtLock, CallState, Event, GoesOn, LocksState, Moves, Nothing, gives_up}
use Rattle.spec_locks.specs.Runs.{going_on, no_rights, unless_ended, woken}
use Rattle.spec_locks.specs.Sites.{Main, has_readers, is_full}
use Rattle.lot_steps.specs.declared.places.Place.{Place}
use Rattle.lot_steps.specs.declared.places.Place.TheVariants.{Idle, Mutex, RwLock, Once, Condvar, Semaphore}
use Rattle.lot_steps.specs.Steps.{is_idle, is_lock, called_lock, profile}
use Rattle.lot_machine.specs.Machine.{State, after, can_go, go_of, is_possible, place_at, queue_at}
use Rattle.lot_machine.specs.Machine.{state_after_go, step_outcome}
use Rattle.lot_machine.specs.Fits.{AllBelow, SameSize}
use Rattle.lot_machine.proofs.Shape.{after_size}
use Rattle.lot_laws.specs.Refinement.{call_at, call_state, lock_state, locks_of}
use Rattle.lot_laws.specs.SitesOf.{key_of, rules_in, stood_in}
use Rattle.lot_laws.specs.Locations.{location, location_at}
use Rattle.lot_laws.proofs.sites.StandsKept.{in_main}
use Rattle.lot_world.specs.Drained.{OneEach, counting_rights}
use Rattle.lot_world.specs.Few.{HasFew, IsFew, IsPlain, number}
use Rattle.lot_world.proofs.Crowded.{nobody_is_left_out}
use Rattle.lot_world.proofs.Few.{began_same}
use Rattle.lot_world.specs.Owned.{ReleasesOne}
use Rattle.lot_world.specs.Standing.{MayStandAt}
use Rattle.lot_world.proofs.Owned.{places_own_few, queued_own_nothing}
use Rattle.lot_world.specs.Full.{FullIsEmpty, IsStrict, StrictGoesOn}
use Rattle.lot_world.proofs.Quiet.{began}
use Rattle.lot_world.proofs.Ordered.{here, ordered, others_own, stepped}

same_one : (t : ℕ) → (t == t) ≡ true
same_one t = grind (arith, nat_tests)

not_one : (u t : ℕ) → u ≢ t → (u == t) ≡ false
not_one u t ne = grind (arith, nat_tests)

-- ---------------------------------------------------------------- each thread's rights

-- a release at its place
fresh_at : (p : Place) (rights : ℕ → Rights) → called_lock p ≡ Some 0 → MayStandAt p
    → ((x : Want) (fair : Bool) → (call_state p rights).purpose ≡ Some (Releases 0 x fair)
    → (call_state p rights).released ≡ false → (call_state p rights).former 0 ≡ with_right x no_rights)
    → ReleasesOne p rights
fresh_at Idle rights of stands h x fair is free = absurd cc
fresh_at (Mutex l at) rights of stands h x fair is free =
    let e : l ≡ 0 = cc in
    subst (λ j. (profile (Mutex l at)).former j rights 0 ≡ with_right x no_rights) e
    (h x fair (ap (λ j. Some ((profile (Mutex l at)).purpose j)) e ∙ ap Some is) free)
fresh_at (RwLock l a c) rights of stands h x fair is free =
    let e : l ≡ 0 = cc in
    subst (λ j. (profile (RwLock l a c)).former j rights 0 ≡ with_right x no_rights) e
    (h x fair (ap (λ j. Some ((profile (RwLock l a c)).purpose j)) e ∙ ap Some is) free)
fresh_at (Once l at) rights of stands h x fair is free = absurd stands
fresh_at (Semaphore l at) rights of stands h x fair is free = absurd stands
fresh_at (Condvar l at) rights of stands h x fair is free = absurd stands

few_of_plain : (r : Rights) → IsPlain r → IsFew r
few_of_plain r h = omega arith

module _ (w : State) (h : IsStrict w) where
  abbrev s : LockState
  s = lock_state w 0

  abbrev rights : (t l : ℕ) → Rights
  rights t l = rights_of (lock_state w l) t

  all_few : (t : ℕ) → IsFew (rights t 0)
  all_few t = elim (here w h.ordered t) [
    | inl idle ↦ few_of_plain (rights t 0)
        (subst (λ p. HasFew (call_state p (rights t)).purpose ((call_state p (rights t)).former 0)
        (rights t 0)) idle (h.ordered.few t))
    | inr only ↦ places_own_few (place_at w t) (rights t) only.1 only.0 (began (place_at w t) (rights t)
        only.0 only.1 (h.ordered.few t)) (fresh_at (place_at w t) (rights t) only.0 only.1 (h.fresh t))
  ]

  one_counted : (t : ℕ) → counting_rights s t ≤ 1
  one_counted t = let few : number (rights t 0) ≤ 1 = all_few t in omega arith

  threads_own : (o : Option ℕ) → s.upgradable ≡ o → (u : ℕ) → o ≡ Some u → u < length w.places
  threads_own None e u f = absurd cc
  threads_own (Some x) e u f = by_size (nat_lt u (length w.places)) refl
    where
      owns : one_if_thread u s.upgradable ≡ 1
      owns = ap (one_if_thread u) (e ∙ f) ∙ (let g : one_if_thread u (Some u) ≡ 1 = grind (arith, nat_tests)
          in g)

      by_size : (b : Bool) → nat_lt u (length w.places) ≡ b → u < length w.places
      by_size true g = grind (arith, nat_tests)
      by_size false g = absurd (let one = owns in let none : one_if_thread u s.upgradable ≡ 0 =
          ap (λ (r : Rights). r.upgradable) (h.past u (grind (arith, nat_tests))) in omega arith)

  long : length s.shared ≡ length w.places
  long = h.ordered.world.inductive.numbers.threads 0

  each : OneEach s
  each = record {
    one = one_counted;
    there = λ u e. let lt = threads_own s.upgradable refl u e in let n = long in omega arith;
  }

  -- a thread in the main line owns nothing
  queued_none : (t : ℕ) → 1 ≤ times t (queue_at w (key_of 0 Main)) → counting_rights s t ≡ 0
  queued_none t stands = elim (here w h.ordered t) [
    | inl idle ↦ absurd (let e : stood_in (location_at Idle 0).stands Main ≡ 0 = refl
        in let f : times t (queue_at w (key_of 0 Main)) ≡ stood_in (location_at Idle 0).stands Main = lines
        ∙ ap (λ p. stood_in (location_at p 0).stands Main) idle in omega arith)
    | inr only ↦
        let own : location_at (place_at w t) 0 ≡ location (place_at w t) = rw (ap (is_lock 0) only.0) refl in
        let main : (profile (place_at w t)).stands ≡ Some Main = sym (ap (λ x. x.stands) own)
        ∙ in_main (location_at (place_at w t) 0).stands (let l = lines in omega arith) in
        let none : rights t 0 ≡ no_rights = queued_own_nothing (place_at w t) (rights t) only.1 only.0 main
        (began (place_at w t) (rights t) only.0 only.1 (h.ordered.few t)) in
        let a : slice_index s.shared t ≡ 0 = ap (λ (r : Rights). r.shared) none in
        let b : one_if_thread t s.upgradable ≡ 0 = ap (λ (r : Rights). r.upgradable) none in
        omega arith
  ]
    where
      lines : times t (queue_at w (key_of 0 Main)) ≡ stood_in (location_at (place_at w t) 0).stands Main
      lines = h.ordered.world.inductive.stands.lines t 0 Main

  module _ (full : is_full (rules_in w 0) s ≡ true) where
    shared_sort : (b : Bool) → has_readers (rules_in w 0).sort ≡ b → has_readers (rules_in w 0).sort ≡ true
    shared_sort true e = e
    shared_sort false e = absurd (let f : is_full (rules_in w 0) s ≡ false =
        ap (λ b. b && nat_le (rules_in w 0).limit (count s)) e in let g = full in cc)

    none_first : (q : List Waiter) → queue_at w (key_of 0 Main) ≡ q
        → map queued_of (queue_at w (key_of 0 Main)) ≡ []
    none_first [] e = ap (map queued_of) e
    none_first (x ∷ q) e = absurd (
        let here_one : times x.thread (x ∷ q) ≡ 1 + times x.thread q =
        (let same : (x.thread == x.thread) ≡ true = grind (arith, nat_tests)
        in ap (λ b. (if b then 1 else 0) + times x.thread q) same) in
        let stands : 1 ≤ times x.thread (queue_at w (key_of 0 Main)) =
        (let f : times x.thread (queue_at w (key_of 0 Main)) ≡ times x.thread (x ∷ q) =
        ap (times x.thread) e in omega arith) in
        let none = queued_none x.thread stands in
        let below : AllBelow (length w.places) (x ∷ q) = subst (AllBelow (length w.places)) e
        (h.ordered.world.well_formed.waiting (key_of 0 Main)) in
        let lt : x.thread < length w.places = below.0 in
        let room : length w.places ≤ (rules_in w 0).limit =
        (h.ordered.world.inductive.sites.limits 0 (shared_sort (has_readers (rules_in w 0).sort) refl)).0.2
        in
        let n = long in
        let owns = nobody_is_left_out (rules_in w 0) s x.thread (omega arith) each full (omega arith) in
        omega arith)

pub full_is_empty : FullIsEmpty
full_is_empty w h full = none_first w h full (queue_at w (key_of 0 Main)) refl

-- ---------------------------------------------------------------- what stays so

either_same : {A : Type 0} (f : CallState → A) (b : Bool) (c d : CallState) → f d ≡ f c
    → f (if b then d else c) ≡ f c
either_same f true c d e = e
either_same f false c d e = refl

woken_released : (w : LocksState) (t : ℕ) (event : Event) (u : ℕ) (c : CallState)
    → (woken w t event u c).released ≡ c.released
woken_released w t (AtLock l locks.Wake) u c = either_same (λ x. x.released) _ c _ refl
woken_released w t (AtLock l (locks.HandOff x successor)) u c = either_same (λ x. x.released) _ c _ refl
woken_released w t (AtLock l case) u c = refl
woken_released w t (Moves l m all owned n) u c = either_same (λ x. x.released) _ c _ refl
woken_released w t Nothing u c = refl

gives_up_released : (l : ℕ) (recalls : CondvarMemory) (c : CallState)
    → (gives_up l recalls c).released ≡ c.released
gives_up_released l WasMoved c = refl
gives_up_released l recalls c = refl

-- a thread that has its right yet had it before
still_fresh : (event : Event) (c : CallState) → (going_on event c).released ≡ false → c.released ≡ false
still_fresh (AtLock l locks.Late) c e = sym (gives_up_released l c.recalls c) ∙ e
still_fresh (AtLock l (locks.Leave x)) c e = absurd cc
still_fresh (AtLock l (locks.HandOff x successor)) c e = absurd cc
still_fresh (AtLock l (locks.OfOnce (Start forced))) c e = absurd cc
still_fresh (AtLock l (locks.OfOnce (Rest x forced))) c e = e
still_fresh (AtLock l (locks.OfOnce Fail)) c e = e
still_fresh (AtLock l (locks.OfOnce case)) c e = e
still_fresh (AtLock l (locks.OfCondvar (locks.Look (Some m)))) c e = e
still_fresh (AtLock l (locks.OfCondvar (locks.Look None))) c e = e
still_fresh (AtLock l (locks.OfCondvar case)) c e = e
still_fresh (AtLock l case) c e = e
still_fresh (Moves l m all owned n) c e = e
still_fresh Nothing c e = e

module _ (w : State) (t : ℕ) (h : IsStrict w) where
  abbrev v : State
  v = after w (go_of t)

  abbrev Fresh : CallState → Type 0
  Fresh c = (x : Want) (fair : Bool) → c.purpose ≡ Some (Releases 0 x fair) → c.released ≡ false
      → c.former 0 ≡ with_right x no_rights

  -- a call that went on, and one that was befallen
  led_fresh : (c d : CallState) → d.purpose ≡ c.purpose → d.former ≡ c.former
      → (d.released ≡ false → c.released ≡ false) → Fresh c → Fresh d
  led_fresh c d purpose former released fresh x fair is free = ap (λ (f : ℕ → Rights). f 0) former
      ∙ fresh x fair (sym purpose ∙ is) (released free)

  module _ (goes : GoesOn (locks_of w) t (step_outcome w (go_of t)) (locks_of v)) where
    other_fresh : (u : ℕ) → u ≢ t → Fresh (call_at v u)
    other_fresh u ne =
        let told : call_at v u ≡ woken (locks_of w) t goes.event u (call_at w u) = goes.calls u
        ∙ ap (λ b. if b then unless_ended (step_outcome w (go_of t)) (woken (locks_of w) t goes.event t
        (going_on goes.event (call_at w t))) else woken (locks_of w) t goes.event u (call_at w u))
        (not_one u t ne) in
        let alike = Rattle.lot_world.proofs.Few.woken_same (locks_of w) t goes.event u (call_at w u) in
        subst Fresh (sym told) (led_fresh (call_at w u) (woken (locks_of w) t goes.event u (call_at w u))
        alike.purpose alike.former (λ e. sym (woken_released (locks_of w) t goes.event u (call_at w u))
        ∙ e) (h.fresh u))

    abbrev went : CallState
    went = woken (locks_of w) t goes.event t (going_on goes.event (call_at w t))

    went_fresh : Fresh went
    went_fresh = let alike = began_same (locks_of w) t goes.event (call_at w t) in
        led_fresh (call_at w t) went alike.purpose alike.former (λ e. still_fresh goes.event (call_at w t)
        (sym (woken_released (locks_of w) t goes.event t (going_on goes.event (call_at w t))) ∙ e))
        (h.fresh t)

    own_told : call_at v t ≡ unless_ended (step_outcome w (go_of t)) went
    own_told = goes.calls t ∙ ap (λ b. if b then unless_ended (step_outcome w (go_of t)) went
        else woken (locks_of w) t goes.event t (call_at w t)) (same_one t)

    ended_or : (o : Outcome) → Fresh (unless_ended o went)
    ended_or (outcome.End a) x fair is free =
        absurd (let g : ◌≡◌ {A = Option Purpose} None (Some (Releases 0 x fair)) = is in cc)
    ended_or outcome.NotNow x fair is free = went_fresh x fair is free
    ended_or outcome.Step x fair is free = went_fresh x fair is free
    ended_or outcome.Sleep x fair is free = went_fresh x fair is free
    ended_or (outcome.Closure found) x fair is free = went_fresh x fair is free

    own_fresh : Fresh (call_at v t)
    own_fresh = subst Fresh (sym own_told) (ended_or (step_outcome w (go_of t)))

  fresh_then : (u : ℕ) → Fresh (call_at v u)
  fresh_then u = elim (stepped w t h.ordered).1 [
    | inl did ↦ elim (cases_eq u t) [
      | inl e ↦ subst (λ j. Fresh (call_at v j)) (sym e) (own_fresh did.1)
      | inr ne ↦ other_fresh did.1 u ne
    ]
    | inr refused ↦ subst (λ (y : LocksState). Fresh (y.calls u)) (sym refused.1.1) (h.fresh u)
  ]

  past_then : (u : ℕ) → length w.places ≤ u → rights_of (lock_state v 0) u ≡ no_rights
  past_then u ge = elim (cases_eq u t) [
    | inl e ↦ subst (λ (x : State). rights_of (lock_state x 0) u ≡ no_rights) (sym (stuck e)) (h.past u ge)
    | inr ne ↦ others_own w t h.ordered u ne (ap is_idle (get_or_past w.places u Idle ge)) ∙ h.past u ge
  ]
    where
      stuck : u ≡ t → after w (go_of t) ≡ w
      stuck e = let no : is_possible w (go_of t) ≡ false = (let f : nat_lt t (length w.places) ≡ false =
          grind (arith, nat_tests) in ap (λ b. b && can_go w t) f)
          in ap (λ b. if b then state_after_go w t else w) no

pub strict_goes_on : StrictGoesOn
strict_goes_on w t h = record {
  ordered = ordered w t h.ordered;
  fresh = fresh_then w t h;
  past = λ u ge. past_then w t h u (let size : SameSize w (after w (go_of t)) = after_size w (go_of t)
      in let n : length (after w (go_of t)).places ≡ length w.places = size.threads in omega arith);
}
