-- Each turn of a world, taken where no thread has looked for its exchange.
use Rattle.std.proofs.Common.{ℕ, Bool, true, false, Option, Some, None, ◌==◌, ◌^◌, ◌||◌, ◌≡◌, ◌<◌, ◌⊎◌, inl}
use Rattle.std.proofs.Common.{inr, length, refl, sym, ◌∙◌, ap, subst, get_or-set_same}
use Rattle.core_base.specs.declared.ops.Op.TheVariants as op
use Rattle.core_base.specs.declared.ops.Op.TheVariants.{Load}
use Rattle.steps_base.specs.declared.acts.Act.{Act}
use Rattle.steps_base.specs.declared.acts.Act.TheVariants as act
use Rattle.steps_base.specs.declared.acts.Reply.{Reply}
use Rattle.steps_base.specs.declared.acts.Reply.TheVariants.{Value}
use Rattle.steps_base.specs.declared.acts.TakeWhich.TheVariants as whom
use Rattle.steps_base.specs.Acts.{outcome_of}
use Rattle.steps_mutex.specs.declared.places.MutexPlace.{MutexPlace}
use Rattle.steps_once.specs.declared.places.OncePlace.{OncePlace}
use Rattle.steps_semaphore.specs.declared.places.SemaphorePlace.{SemaphorePlace}
use Rattle.steps_condvar.specs.declared.places.CondvarPlace.{CondvarPlace}
use Rattle.steps_condvar.specs.declared.places.CondvarPlace.TheVariants.{Wait}
use Rattle.steps_condvar.specs.declared.wait.WaitAt.TheVariants as wait
use Rattle.steps_rwlock.specs.declared.places.Admission.{Admission}
use Rattle.steps_rwlock_fair.specs.declared.places.RwLockCallPlace.{RwLockCallPlace}
use Rattle.steps_rwlock_fair.specs.FairSteps.{call_act}
use Rattle.lot_steps.specs.declared.places.Place.{Place}
use Rattle.lot_steps.specs.declared.places.Place.TheVariants.{Idle, Mutex, RwLock, Once, Condvar, Semaphore}
use Rattle.lot_steps.specs.Steps.{act_of, in_condvar, in_mutex, in_once, in_rwlock, in_semaphore, next_act}
use Rattle.lot_steps.specs.Steps.{next_place}
use Rattle.spec_locks.specs.declared.outcomes.Outcome.{Outcome}
use Rattle.lot_machine.proofs.Shape.{performed_counts}
use Rattle.lot_machine.specs.Machine.{State, after, is_possible, can_do, filled_at, go_of, go_outcome}
use Rattle.lot_machine.specs.Machine.{going_outcome, place_at, put, reply_to, state_after_act, state_after_go}
use Rattle.lot_machine.specs.Machine.{state_after_going, word_at}
use Rattle.lot_machine.proofs.Closures.{IsOwn, call_own}
use Rattle.lot_laws.specs.SitesOf.{FitsItsLock, IsInductive, IsWorld, rules_in, site_of}
use Rattle.lot_laws.proofs.rwlock.Words.{word_small}
use Rattle.lot_laws.proofs.promises.WorldRuns.{world_after}
use Rattle.lot_laws.proofs.calls.OwnPlace.{stays_there}
use Rattle.lot_laws.proofs.condvar.OwnStand.{IsStill, own_place}
use Rattle.lot_laws.proofs.machine.Parts.{IsOfTwo, fits_two, single_or_two}
use Rattle.lot_laws.proofs.sites.OneStep.{fills_by, noted}
use Rattle.lot_misses.specs.Looks.{MayBeAt, call_looked, condvar_looked, is_load, leads_to_exchange}
use Rattle.lot_misses.specs.Looks.{looked_from, looks_by, misses, mutex_looked, once_looked, semaphore_looked}
use Rattle.lot_misses.proofs.Acted.{AllSane, acted_sane, acted_so, before, can_so, free_kept, kept, place_so}
use Rattle.lot_misses.proofs.Acted.{put_so, reply_so, set_sane}
use Rattle.lot_misses.proofs.Loads.{leads_none, may_be, no_try, no_try_again, undecided}
use Rattle.lot_misses.proofs.Places.{GoesBy, GoesByLook, GoesByNoLook, IsLook, IsSane, Tells, goes_so}
use Rattle.lot_misses.proofs.Places.{stays_sane}
use Rattle.lot_misses.proofs.Rows.{IsNoValue, IsOfWord, exchange_by}
use Rattle.lot_misses.proofs.Turns.{AllNoted, Comes, One, go_possible, here_so, hits_so, look_goes}
use Rattle.lot_misses.proofs.Turns.{looks_again, misses_so, one_turn, there_so, went_by_word}

-- ---------------------------------------------------------------- what a world says

pub all_noted : (w : State) → IsWorld w → AllNoted w
all_noted w h l = ap (λ b. filled_at w l || b) (fills_by (rules_in w l) (site_of w l) (word_at w l)
    (h.inductive.sites.site l) (h.inductive.sites.word l))
    ∙ sym (noted (rules_in w l) (site_of w l) (h.inductive.sites.site l))

word_told : (w : State) → IsInductive w → (l : ℕ) (a : Admission) (c : RwLockCallPlace)
    → FitsItsLock w (RwLock l a c) → (t : ℕ)
    → (x : Act) → IsOwn l x → Tells (RwLock l a c) (reply_to w t x)
word_told w inductive l a c fits t (act.Word k f) own = subst (λ n. word_at w n < 2 ^ 64) (sym own)
    (word_small w l inductive fits.0.0)
word_told w inductive l a c fits t (act.HandOver k f) own = subst (λ n. word_at w n < 2 ^ 64) (sym own)
    (word_small w l inductive fits.0.0)
word_told w inductive l a c fits t (act.Park k key check x) own = tt
word_told w inductive l a c fits t (act.Take key whom.First) own = tt
word_told w inductive l a c fits t (act.Take key (whom.Picked start recursive)) own = tt
word_told w inductive l a c fits t (act.Take key whom.All) own = tt
word_told w inductive l a c fits t (act.Requeue from to how) own = tt
word_told w inductive l a c fits t (act.Remove key) own = tt
word_told w inductive l a c fits t x own = tt

-- the reply to its act is one that a thread may hear
tells_own : (w : State) (t : ℕ) → IsInductive w → (p : Place) → FitsItsLock w p
    → Tells p (reply_to w t (act_of p))
tells_own w t inductive Idle fits = tt
tells_own w t inductive (Mutex l at) fits = tt
tells_own w t inductive (RwLock l a c) fits = word_told w inductive l a c fits t (call_act l a c)
    (call_own l a c)
tells_own w t inductive (Once l at) fits = tt
tells_own w t inductive (Condvar l at) fits = tt
tells_own w t inductive (Semaphore l at) fits = tt

-- a call looks at its own sort of lock
other_mutex : (l : ℕ) (o : Option MutexPlace) (q : Place) → in_mutex l o ≡ Some q
    → (k : ℕ) (a : Admission) (c : RwLockCallPlace) → q ≡ RwLock k a c → ⊥
other_mutex l None q e k a c is = absurd cc
other_mutex l (Some at) q e k a c is = let here : Mutex l at ≡ q = cc in let both : Mutex l at
    ≡ RwLock k a c = here ∙ is in absurd cc

other_once : (l : ℕ) (o : Option OncePlace) (q : Place) → in_once l o ≡ Some q
    → (k : ℕ) (a : Admission) (c : RwLockCallPlace) → q ≡ RwLock k a c → ⊥
other_once l None q e k a c is = absurd cc
other_once l (Some at) q e k a c is = let here : Once l at ≡ q = cc in let both : Once l at
    ≡ RwLock k a c = here ∙ is in absurd cc

other_condvar : (l : ℕ) (o : Option CondvarPlace) (q : Place) → in_condvar l o ≡ Some q
    → (k : ℕ) (a : Admission) (c : RwLockCallPlace) → q ≡ RwLock k a c → ⊥
other_condvar l None q e k a c is = absurd cc
other_condvar l (Some at) q e k a c is = let here : Condvar l at ≡ q = cc in let both : Condvar l at
    ≡ RwLock k a c = here ∙ is in absurd cc

other_semaphore : (l : ℕ) (o : Option SemaphorePlace) (q : Place) → in_semaphore l o ≡ Some q
    → (k : ℕ) (a : Admission) (c : RwLockCallPlace) → q ≡ RwLock k a c → ⊥
other_semaphore l None q e k a c is = absurd cc
other_semaphore l (Some at) q e k a c is = let here : Semaphore l at ≡ q = cc in let both : Semaphore l at
    ≡ RwLock k a c = here ∙ is in absurd cc

-- a thread that looks is told the value of the word, for every sort of lock
look_tells : (w : State) → IsInductive w → (p q : Place) → FitsItsLock w p → looked_from p ≡ Some q → (k : ℕ)
    → act_of q ≡ act.Word k Load → Tells q (Value (word_at w k))
look_tells w inductive p q fits looked k load = by_place p q fits looked load
  where
    by_call : (l : ℕ) (a : Admission) (d : RwLockCallPlace)
        → ((t : ℕ) (x : Act) → IsOwn l x → Tells (RwLock l a d) (reply_to w t x))
        → act_of (RwLock l a d) ≡ act.Word k Load → Tells (RwLock l a d) (Value (word_at w k))
    by_call l a d told load = told 0 (act.Word k Load) (subst (IsOwn l) load (call_own l a d))

    by_option : (l : ℕ) (a : Admission) (c : RwLockCallPlace) (o : Option RwLockCallPlace)
        → FitsItsLock w (RwLock l a c) → (q : Place) → in_rwlock l a o ≡ Some q
        → act_of q ≡ act.Word k Load → Tells q (Value (word_at w k))
    by_option l a c None fits q e load = absurd cc
    by_option l a c (Some d) fits q e load = let here : RwLock l a d ≡ q = cc in
        subst (λ x. Tells x (Value (word_at w k))) here
        (by_call l a d (λ t x own. word_told w inductive l a c fits t x own) (ap act_of here ∙ load))

    away : (q : Place) → ((l : ℕ) (a : Admission) (c : RwLockCallPlace) → q ≡ RwLock l a c → ⊥)
        → Tells q (Value (word_at w k))
    away Idle differs = tt
    away (Mutex l at) differs = tt
    away (RwLock l a c) differs = absurd (differs l a c refl)
    away (Once l at) differs = tt
    away (Condvar l at) differs = tt
    away (Semaphore l at) differs = tt

    by_place : (p q : Place) → FitsItsLock w p → looked_from p ≡ Some q → act_of q ≡ act.Word k Load
        → Tells q (Value (word_at w k))
    by_place Idle q fits e load = absurd cc
    by_place (RwLock l a c) q fits e load = by_option l a c (call_looked a c) fits q e load
    by_place (Mutex l at) q fits e load = away q (λ l2 a c is. other_mutex l (mutex_looked at) q e l2 a c is)
    by_place (Once l at) q fits e load = away q (λ l2 a c is. other_once l (once_looked at) q e l2 a c is)
    by_place (Condvar l at) q fits e load = away q (λ l2 a c is. other_condvar l (condvar_looked at) q e l2 a
        c is)
    by_place (Semaphore l at) q fits e load = away q (λ l2 a c is. other_semaphore l (semaphore_looked at) q e
        l2 a c is)

-- ---------------------------------------------------------------- where a thread stands once it has acted

-- the thread does what it did, and has looked for nothing
record StaysSo (p o : Place) : Type 0 where
  none : looked_from p ≡ None → looked_from o ≡ None
  does : act_of o ≡ act_of p
  tells : (r : Reply) → Tells p r → Tells o r
  same : (q : Place) → looked_from p ≡ Some q → o ≡ p

stays_same : (p : Place) → StaysSo p p
stays_same p = record { none = λ e. e; does = refl; tells = λ r h. h; same = λ q e. refl }

still_so : (l : ℕ) (at q : CondvarPlace) → IsStill at q → StaysSo (Condvar l at) (Condvar l q)
still_so l (Wait m timed (wait.Release s a)) q still = subst
    (λ x. StaysSo (Condvar l (Wait m timed (wait.Release s a))) (Condvar l x)) (sym still.1)
    (record { none = λ e. refl; does = refl; tells = λ r h. tt; same = λ q e. absurd cc })
still_so l at q still = subst (λ x. StaysSo (Condvar l at) (Condvar l x)) (sym still)
    (stays_same (Condvar l at))

module _ (w : State) (h : IsWorld w) (t : ℕ) (there : t < length w.places) where
  abbrev p : Place
  p = place_at w t

  abbrev own : Place
  own = place_at (state_after_act w t p (act_of p)) t

  stays : StaysSo (place_at w t) own
  stays = elim (single_or_two (place_at w t)) [
    | inl single ↦ subst (StaysSo (place_at w t)) (sym (stays_there w t (place_at w t) refl single))
        (stays_same (place_at w t))
    | inr two ↦ two_stays two
  ]
    where
      two_stays : (two : IsOfTwo (place_at w t))
          → StaysSo (place_at w t) (place_at (state_after_act w t (place_at w t) (act_of (place_at w t))) t)
      two_stays two =
          let stood = own_place w t two.lock two.at two.is (fits_two w t h.inductive two).reached there in
          subst (λ x. StaysSo x (place_at (state_after_act w t x (act_of x)) t)) (sym two.is)
          (subst (StaysSo (Condvar two.lock two.at)) (sym stood.1) (still_so two.lock two.at stood.0 stood.2))

-- ------------------------------------------------------------ a turn that is no look, and no exchange by one

-- from a place where its thread stands in both runs, to another
module _ (k : ℕ → Bool) (w : State) (t : ℕ) (p o : Place) (all : AllSane k w.places) (is : place_at w t ≡ p)
    (here : kept (k t) p ≡ p) (own : place_at (state_after_act w t p (act_of p)) t ≡ o)
    (here_then : kept (k t) o ≡ o)
    (next : kept (k t) (next_place o (reply_to w t (act_of p)))
    ≡ next_place o (reply_to w t (act_of p))) where
  abbrev V : State
  V = state_after_act w t p (act_of p)

  abbrev r : Reply
  r = reply_to w t (act_of p)

  pub plain_here : place_at (before k w) t ≡ p
  plain_here = place_so k w all t ∙ ap (kept (k t)) is ∙ here

  V_place : place_at (before k V) t ≡ o
  V_place = place_so k V (acted_sane k w all t p (act_of p)) t ∙ ap (kept (k t)) own ∙ here_then

  pub plain_leads : state_after_go (before k w) t ≡ before k (state_after_go w t)
  plain_leads = ap (state_after_going (before k w) t) plain_here
      ∙ ap (λ x. put x t (next_place (place_at x t) (reply_to (before k w) t (act_of p))))
      (acted_so k w all t p (act_of p))
      ∙ ap (λ x. put (before k V) t (next_place (place_at (before k V) t) x))
      (reply_so k w all t (act_of p))
      ∙ ap (λ x. put (before k V) t (next_place x r)) V_place
      ∙ ap (put (before k V) t) (sym next)
      ∙ put_so k V (acted_sane k w all t p (act_of p)) t (next_place o r)
      ∙ ap (before k) (sym (ap (state_after_going w t) is ∙ ap (λ x. put V t (next_place x r)) own))

  pub plain_tells : go_outcome (before k w) t ≡ go_outcome w t
  plain_tells = ap (going_outcome (before k w) t) plain_here
      ∙ ap (λ x. outcome_of (next_act (place_at x t) (reply_to (before k w) t (act_of p))))
      (acted_so k w all t p (act_of p))
      ∙ ap (λ x. outcome_of (next_act (place_at (before k V) t) x)) (reply_so k w all t (act_of p))
      ∙ ap (λ x. outcome_of (next_act x r)) V_place
      ∙ sym (ap (going_outcome w t) is ∙ ap (λ x. outcome_of (next_act x r)) own)

  pub plain_possible : t < length w.places → can_do w (act_of p) ≡ true
      → is_possible (before k w) (go_of t) ≡ true
  plain_possible there can = go_possible (before k w) t (there_so k w t there)
      (rw (plain_here, can_so k w (act_of p), can) refl)

-- a reply tells a word's value, or none
value_or : (w : State) (t : ℕ) (x : Act) → ((v : ℕ) × IsOfWord x × (reply_to w t x ≡ Value v))
    ⊎ IsNoValue (reply_to w t x)
value_or w t (act.Word k f) = inl (word_at w k, tt, refl)
value_or w t (act.HandOver k f) = inl (word_at w k, tt, refl)
value_or w t (act.Park k key check x) = inr tt
value_or w t (act.Take key whom.First) = inr tt
value_or w t (act.Take key (whom.Picked start recursive)) = inr tt
value_or w t (act.Take key whom.All) = inr tt
value_or w t (act.Requeue from to how) = inr tt
value_or w t (act.Remove key) = inr tt
value_or w t x = inr tt

-- what is no look, by its act
pub alone_by : (w : State) (p : Place) (a : Act)
    → ((l : ℕ) → a ≡ act.Word l Load → leads_to_exchange p (word_at w l) ≡ false) → looks_by w p a ≡ false
alone_by w p (act.Word l Load) alone = alone l refl
alone_by w p (act.Word l (op.Store value)) alone = refl
alone_by w p (act.Word l (op.Swap value)) alone = refl
alone_by w p (act.Word l (op.Add by)) alone = refl
alone_by w p (act.Word l (op.Sub by)) alone = refl
alone_by w p (act.Word l (op.Or bits)) alone = refl
alone_by w p (act.Word l (op.And bits)) alone = refl
alone_by w p (act.Word l (op.Exchange from to)) alone = refl
alone_by w p a alone = refl

-- a thread that stays as it is, and has looked or decided, takes the same step
module _ (k : ℕ → Bool) (w : State) (all : AllSane k w.places) (t : ℕ) (there : t < length w.places)
    (on : k t ≡ true) where
  stays_as : (p : Place) → kept (k t) p ≡ p
  stays_as p = ap (λ b. kept b p) on

  pub stays_here : place_at (before k w) t ≡ place_at w t
  stays_here = place_so k w all t ∙ stays_as (place_at w t)

  abbrev after_own : Place
  after_own = place_at (state_after_act w t (place_at w t) (act_of (place_at w t))) t

  pub stays_goes : can_do w (act_of (place_at w t)) ≡ true
      → looks_by (before k w) (place_at w t) (act_of (place_at w t)) ≡ false
      → One (k t) (before k w) (before k (state_after_go w t)) (go_outcome w t) (go_of t)
  stays_goes can alone =
      let p = place_at w t in
      one_turn (k t) (before k w) (before k (state_after_go w t)) (go_outcome w t) (go_of t)
      (plain_possible k w t p after_own all refl (stays_as p) refl (stays_as after_own)
      (stays_as (next_place after_own (reply_to w t (act_of p)))) there can)
      (λ off. absurd (let never : true ≡ false = sym on ∙ off in cc))
      (ap (λ q. looks_by (before k w) q (act_of q)) stays_here ∙ alone)
      (plain_leads k w t p after_own all refl (stays_as p) refl (stays_as after_own)
      (stays_as (next_place after_own (reply_to w t (act_of p)))))
      (plain_tells k w t p after_own all refl (stays_as p) refl (stays_as after_own)
      (stays_as (next_place after_own (reply_to w t (act_of p)))))

-- ---------------------------------------------------------------- go

module _ (k : ℕ → Bool) (w : State) (h : IsWorld w) (all : AllSane k w.places) (t : ℕ)
    (there : t < length w.places)
    (off : k t ≡ false) where
  abbrev here : Place
  here = place_at w t

  abbrev then_own : Place
  then_own = place_at (state_after_act w t (place_at w t) (act_of (place_at w t))) t

  own_stays : StaysSo (place_at w t) then_own
  own_stays = stays w h t there

  here_sane : IsSane (place_at w t)
  here_sane = all t off

  own_sane : IsSane then_own
  own_sane = acted_sane k w all t (place_at w t) (act_of (place_at w t)) t off

  abbrev told : Reply
  told = reply_to w t (act_of (place_at w t))

  next_sane : IsSane (next_place then_own told)
  next_sane = stays_sane then_own told
      (own_stays.tells told (tells_own w t h.inductive (place_at w t) (h.inductive.stands.calls t))) own_sane

  abbrev To : State → Outcome → Type 0
  To v o = Comes (k t) (before k w) (before k v) t o

  -- where it goes, it stands where it may
  next_fits : can_do w (act_of (place_at w t)) ≡ true → MayBeAt (next_place then_own told)
  next_fits can = may_be (after w (go_of t)) (next_place then_own told)
      (subst (FitsItsLock (after w (go_of t))) place ((world_after w (go_of t) h).inductive.stands.calls t))
    where
      place : place_at (after w (go_of t)) t ≡ next_place then_own told
      place = rw (go_possible w t there can) (get_or-set_same
          (state_after_act w t (place_at w t) (act_of (place_at w t))).places t
          (next_place then_own told) Idle
          (rw (performed_counts w t (place_at w t) (act_of (place_at w t))).0 there))

  -- the thread of the turn has not looked
  module _ (free : looked_from (place_at w t) ≡ None) (can : can_do w (act_of (place_at w t)) ≡ true) where
    own_by : GoesByNoLook then_own
    own_by = subst (GoesBy then_own) (own_stays.none free) (goes_so then_own own_sane)

    here_by : GoesByNoLook (place_at w t)
    here_by = subst (GoesBy (place_at w t)) free (goes_so (place_at w t) here_sane)

    -- where it goes by a load, it stands as it did
    load_then : (l : ℕ) → act_of (place_at w t) ≡ act.Word l Load
        → next_place then_own told ≡ next_place (place_at w t) (Value (word_at w l))
    load_then l load = ap
        (λ x. next_place (place_at (state_after_act w t (place_at w t) x) t) (reply_to w t x)) load

    none_alone : (l : ℕ) → act_of (place_at w t) ≡ act.Word l Load
        → looked_from (next_place (place_at w t) (Value (word_at w l))) ≡ None
        → leads_to_exchange (place_at w t) (word_at w l) ≡ false
    none_alone l load none = leads_none (place_at w t) (word_at w l)
        (no_try w (place_at w t) (word_at w l) (h.inductive.stands.calls t) (ap is_load load))
        (subst MayBeAt (load_then l load) (next_fits can)) none

    plainly : looked_from (next_place then_own told) ≡ None → To (state_after_go w t) (go_outcome w t)
    plainly none = inr (inl
        (one_turn (k t) (before k w) (before k (state_after_go w t)) (go_outcome w t) (go_of t)
        (plain_possible k w t (place_at w t) then_own all refl (free_kept (k t) (place_at w t) free) refl
        (free_kept (k t) then_own (own_stays.none free))
        (free_kept (k t) (next_place then_own told) none) there can)
        (λ e. rw (plain_at, free) refl)
        (ap (λ q. looks_by (before k w) q (act_of q)) plain_at
        ∙ alone_by (before k w) (place_at w t) (act_of (place_at w t))
        (λ l load. none_alone l load (ap looked_from (sym (load_then l load)) ∙ none)))
        (plain_leads k w t (place_at w t) then_own all refl (free_kept (k t) (place_at w t) free) refl
        (free_kept (k t) then_own (own_stays.none free)) (free_kept (k t) (next_place then_own told) none))
        (plain_tells k w t (place_at w t) then_own all refl (free_kept (k t) (place_at w t) free) refl
        (free_kept (k t) then_own (own_stays.none free)) (free_kept (k t) (next_place then_own told) none))))
      where
        plain_at : place_at (before k w) t ≡ place_at w t
        plain_at = here_so k w all t (place_at w t) refl free

    -- a look that leads to an exchange
    looks_on : (v : ℕ) → told ≡ Value v → IsLook then_own v → To (state_after_go w t) (go_outcome w t)
    looks_on v told_so look = by_load (sym own_stays.does ∙ look.load)
      where
        by_load : act_of (place_at w t) ≡ act.Word look.lock Load → To (state_after_go w t) (go_outcome w t)
        by_load load = look_goes k w t (place_at w t) look.lock off all (all_noted w h) there refl free load
            (stays_sane (place_at w t) (Value (word_at w look.lock))
            (subst (λ x. Tells (place_at w t) (reply_to w t x)) load (tells_own w t h.inductive (place_at w t)
            (h.inductive.stands.calls t))) here_sane) (none_alone look.lock load)
            (here_by.acts (word_at w look.lock) (subst IsOfWord (sym load) tt))

    pub goes_freely : To (state_after_go w t) (go_outcome w t)
    goes_freely = elim (value_or w t (act_of (place_at w t))) [
      | inl value ↦ by_lead value.0 value.2
          (own_by.acts value.0 (subst IsOfWord (sym own_stays.does) value.1))
      | inr other ↦ plainly (own_by.others told other)
    ]
      where
        by_lead : (v : ℕ) → told ≡ Value v → (looked_from (next_place then_own (Value v)) ≡ None)
            ⊎ IsLook then_own v → To (state_after_go w t) (go_outcome w t)
        by_lead v is (inl none) = plainly (ap (λ x. looked_from (next_place then_own x)) is ∙ none)
        by_lead v is (inr look) = looks_on v is look

  -- the thread of the turn has looked
  module _ (q : Place) (looked : looked_from (place_at w t) ≡ Some q) where
    pub by_look : GoesByLook (place_at w t) q
    by_look = subst (GoesBy (place_at w t)) looked (goes_so (place_at w t) here_sane)

    looked_sane : IsSane (next_place q (Value (word_at w by_look.lock)))
    looked_sane = stays_sane q (Value (word_at w by_look.lock)) (look_tells w h.inductive (place_at w t) q
        (h.inductive.stands.calls t) looked by_look.lock by_look.load) by_look.sound

    plain : MayBeAt (next_place q (Value (word_at w by_look.lock)))
        → looked_from (next_place q (Value (word_at w by_look.lock))) ≡ None
        → leads_to_exchange q (word_at w by_look.lock) ≡ false
    plain may none = leads_none q (word_at w by_look.lock)
        (no_try_again w (place_at w t) q (word_at w by_look.lock)
        (h.inductive.stands.calls t) looked) may none

    value_told : (b : Bool) → reply_to w t (exchange_by b by_look.lock by_look.from by_look.to)
        ≡ Value (word_at w by_look.lock)
    value_told true = refl
    value_told false = refl

    -- where it misses, it goes where another look leads
    missed_then : (word_at w by_look.lock == by_look.from) ≡ false
        → next_place then_own told ≡ next_place q (Value (word_at w by_look.lock))
    missed_then other = ap (λ p. next_place p told) (own_stays.same q looked)
        ∙ ap (λ x. next_place (place_at w t) (reply_to w t x)) by_look.exchange
        ∙ ap (next_place (place_at w t)) (value_told by_look.hands)
        ∙ (by_look.misses (word_at w by_look.lock) other).next

    pub goes_by_look : can_do w (act_of (place_at w t)) ≡ true → To (state_after_go w t) (go_outcome w t)
    goes_by_look can = by_word (word_at w by_look.lock == by_look.from) refl
      where
        by_word : (b : Bool) → (word_at w by_look.lock == by_look.from) ≡ b
            → To (state_after_go w t) (go_outcome w t)
        by_word true same = hits_so k w t (place_at w t) q off all (all_noted w h) there refl looked by_look
            here_sane (own_stays.same q looked) same (undecided q by_look.lock by_look.sound by_look.load)
        by_word false other =
            misses_so k w t (place_at w t) q off all (all_noted w h) there refl looked by_look
            other looked_sane (plain (subst MayBeAt (missed_then other) (next_fits can)))

    pub looks_anew : MayBeAt (next_place q (Value (word_at w by_look.lock)))
        → To (state_after_go (put w t q) t) (go_outcome (put w t q) t)
    looks_anew may = looks_again k w t (place_at w t) q off all
        (all_noted w h) there refl looked by_look looked_sane
        (plain may)

  pub goes_so_far : can_do w (act_of (place_at w t)) ≡ true → To (state_after_go w t) (go_outcome w t)
  goes_so_far can = by_place (looked_from (place_at w t)) refl
    where
      by_place : (o : Option Place) → looked_from (place_at w t) ≡ o
          → To (state_after_go w t) (go_outcome w t)
      by_place None free = goes_freely free can
      by_place (Some q) looked = goes_by_look q looked can

-- ---------------------------------------------------------------- places stay sane

module _ (k : ℕ → Bool) (w : State) (h : IsWorld w) (all : AllSane k w.places) (t : ℕ)
    (there : t < length w.places) where
  pub go_sane : AllSane k (state_after_go w t).places
  go_sane = set_sane k (state_after_act w t (place_at w t) (act_of (place_at w t))).places t
      (next_place (place_at (state_after_act w t (place_at w t) (act_of (place_at w t))) t)
      (reply_to w t (act_of (place_at w t)))) (acted_sane k w all t (place_at w t) (act_of (place_at w t)))
      (λ off. next_sane k w h all t there off)

  pub look_sane : (q : Place) → k t ≡ false → looked_from (place_at w t) ≡ Some q
      → AllSane k (state_after_go (put w t q) t).places
  look_sane q off looked = let by = by_look k w h all t there off q looked in
      subst (λ v. AllSane k v.places)
      (sym (went_by_word (put w t q) t q (get_or-set_same w.places t q Idle there) by.lock Load by.load))
      (set_sane k (put w t q).places t (next_place q (Value (word_at w by.lock)))
      (set_sane k w.places t q all (λ e. by.sound)) (λ e. looked_sane k w h all t there off q looked))
