-- A turn of one thread, taken where no thread has looked for its exchange: it looks when it exchanges, and so
-- never misses.
use Rattle.std.proofs.Common.{ℕ, zero, suc, arith, Bool, true, false, Option, Some, None, ◌==◌, ◌||◌, ◌&&◌}
use Rattle.std.proofs.Common.{not, nat_lt, ◌≡◌, ◌<◌, ◌⊎◌, inl, inr, List, [], ◌∷◌, length, map, set, get_or}
use Rattle.std.proofs.Common.{refl, sym, ◌∙◌, ap, subst, eqb-true, get_or-set_same, length-set}
use Rattle.std.specs.Prelude.{replicate}
use Rattle.std.proofs.Math.ListN.{get_or-map}
use Rattle.std.proofs.Math.Seq.{map-set_same}
use Rattle.std.proofs.lemmas.List.{map-set, set-get_or}
use Rattle.std.proofs.lemmas.Bool.Decides.{nat_tests}
use Rattle.core_base.specs.declared.ops.Op.{Op}
use Rattle.core_base.specs.declared.ops.Op.TheVariants.{Exchange, Load}
use Rattle.core_base.specs.Words.{apply}
use Rattle.spec_locks.specs.declared.calls.Step.{Step}
use Rattle.spec_locks.specs.declared.outcomes.Outcome.{Outcome}
use Rattle.spec_locks.specs.declared.outcomes.Outcome.TheVariants as outcome
use Rattle.spec_locks.specs.Codes.{fills}
use Rattle.spec_locks.specs.Purposes.{rules_of}
use Rattle.steps_base.specs.declared.acts.Act.TheVariants as act
use Rattle.steps_base.specs.declared.acts.Next.{Next}
use Rattle.steps_base.specs.declared.acts.Next.TheVariants.{At, End}
use Rattle.steps_base.specs.declared.acts.Reply.{Reply}
use Rattle.steps_base.specs.declared.acts.Reply.TheVariants.{Value}
use Rattle.steps_base.specs.Acts.{outcome_of}
use Rattle.steps_mutex.specs.declared.places.MutexPlace.{MutexPlace}
use Rattle.steps_mutex.specs.MutexSteps.{mutex_next}
use Rattle.steps_once.specs.declared.places.OncePlace.{OncePlace}
use Rattle.steps_once.specs.OnceSteps.{once_next}
use Rattle.steps_semaphore.specs.declared.places.SemaphorePlace.{SemaphorePlace}
use Rattle.steps_semaphore.specs.SemaphoreSteps.{semaphore_next}
use Rattle.steps_condvar.specs.declared.places.CondvarPlace.{CondvarPlace}
use Rattle.steps_condvar.specs.CondvarSteps.{condvar_next}
use Rattle.steps_rwlock_fair.specs.declared.places.RwLockCallPlace.{RwLockCallPlace}
use Rattle.steps_rwlock_fair.specs.FairSteps.{call_next}
use Rattle.lot_steps.specs.declared.places.Place.{Place}
use Rattle.lot_steps.specs.declared.places.Place.TheVariants.{Idle, Mutex, RwLock, Once, Condvar, Semaphore}
use Rattle.lot_steps.specs.Steps.{act_of, condvar_does, condvar_goes, is_idle, mutex_does, mutex_goes}
use Rattle.lot_steps.specs.Steps.{next_act, next_place, once_does, once_goes, owners_after, rwlock_does}
use Rattle.lot_steps.specs.Steps.{rwlock_goes, semaphore_does, semaphore_goes, shares_after, taker, wants}
use Rattle.lot_machine.specs.Machine.{State, after, can_do, filled_at, go_of, go_outcome, going_outcome}
use Rattle.lot_machine.specs.Machine.{hand_over_told, held, held_by, is_possible, kind_at, owners_at}
use Rattle.lot_machine.specs.Machine.{place_after_telling, place_at, put, reply_to, share_at, shares_at}
use Rattle.lot_machine.specs.Machine.{shares_with, state_after_act, state_after_go, state_after_going}
use Rattle.lot_machine.specs.Machine.{state_after_hand_over, state_after_hand_over_by, state_after_operation}
use Rattle.lot_machine.specs.Machine.{state_after_telling, state_after_turn, step_outcome, turn_outcome}
use Rattle.lot_machine.specs.Machine.{unlocked, with_word, word_at}
use Rattle.lot_misses.specs.Looks.{finds_another, has_decided, is_exchange, leads_to_exchange, looked_from}
use Rattle.lot_misses.specs.Looks.{looks, looks_by, misses, or_here}
use Rattle.lot_misses.proofs.Acted.{AllSane, acted_sane, acted_so, before, free_kept, given_so, helds_so}
use Rattle.lot_misses.proofs.Acted.{kept, kept_length, operation_so, place_so, put_so, set_sane, shares_so}
use Rattle.lot_misses.proofs.Acted.{successor_so}
use Rattle.lot_misses.proofs.Places.{GoesBy, GoesByLook, IsLook, IsSane, goes_so}
use Rattle.lot_misses.proofs.Rows.{exchange_by}
use Rattle.lot_machine.proofs.Shape.{performed_counts}

-- ---------------------------------------------------------------- lists

set_set : {A : Type 0} (xs : List A) (i : ℕ) (x y : A) → set (set xs i x) i y ≡ set xs i y
set_set [] i x y = refl
set_set (z ∷ xs) zero x y = refl
set_set (z ∷ xs) (suc i) x y = ap (λ ys. z ∷ ys) (set_set xs i x y)

pub put_put : (w : State) (t : ℕ) (p q : Place) → put (put w t p) t q ≡ put w t q
put_put w t p q = ap (λ ps. record w { places = ps }) (set_set w.places t p q)

pub put_here : (w : State) (t : ℕ) (p : Place) → place_at w t ≡ p → put w t p ≡ w
put_here w t p is = ap (λ ps. record w { places = ps }) (ap (set w.places t) (sym is)
    ∙ set-get_or w.places t Idle)

there_now : (w : State) (t : ℕ) (p : Place) → t < length w.places → place_at (put w t p) t ≡ p
there_now w t p there = get_or-set_same w.places t p Idle there

-- ---------------------------------------------------------------- outcomes

-- a call that goes on does what its next place says
next_is : (p : Place) (r : Reply) → is_idle (next_place p r) ≡ false → next_act p r ≡ act_of (next_place p r)
next_is Idle r h = absurd cc
next_is (Mutex l at) r h = by_next (mutex_next at r) h
  where
    by_next : (n : Next MutexPlace) → is_idle (mutex_goes l n) ≡ false
        → mutex_does l n ≡ act_of (mutex_goes l n)
    by_next (At p) h = refl
    by_next (End answer) h = absurd cc
next_is (RwLock l a c) r h = by_next (call_next a c r) h
  where
    by_next : (n : Next RwLockCallPlace) → is_idle (rwlock_goes l a n) ≡ false → rwlock_does l a n
        ≡ act_of (rwlock_goes l a n)
    by_next (At p) h = refl
    by_next (End answer) h = absurd cc
next_is (Once l at) r h = by_next (once_next at r) h
  where
    by_next : (n : Next OncePlace) → is_idle (once_goes l n) ≡ false → once_does l n ≡ act_of (once_goes l n)
    by_next (At p) h = refl
    by_next (End answer) h = absurd cc
next_is (Condvar l at) r h = by_next (condvar_next at r) h
  where
    by_next : (n : Next CondvarPlace) → is_idle (condvar_goes l n) ≡ false → condvar_does l n
        ≡ act_of (condvar_goes l n)
    by_next (At p) h = refl
    by_next (End answer) h = absurd cc
next_is (Semaphore l at) r h = by_next (semaphore_next at r) h
  where
    by_next : (n : Next SemaphorePlace) → is_idle (semaphore_goes l n) ≡ false → semaphore_does l n
        ≡ act_of (semaphore_goes l n)
    by_next (At p) h = refl
    by_next (End answer) h = absurd cc

exchange_step : (hands : Bool) (l from to : ℕ) → outcome_of (exchange_by hands l from to) ≡ outcome.Step
exchange_step true l from to = refl
exchange_step false l from to = refl

-- a thread that comes to an exchange by a look is told that it goes on
looked_goes_on : (p q : Place) (r : Reply) → IsSane (next_place p r) → looked_from (next_place p r) ≡ Some q
    → outcome_of (next_act p r) ≡ outcome.Step
looked_goes_on p q r sane is =
    let by : GoesByLook (next_place p r) q = subst (GoesBy (next_place p r)) is
    (goes_so (next_place p r) sane) in
    ap outcome_of (next_is p r by.busy ∙ by.exchange) ∙ exchange_step by.hands by.lock by.from by.to

-- ---------------------------------------------------------------- locks that stay

-- once full, noted
abbrev pub AllNoted : State → Type 0
AllNoted w = (l : ℕ) → (filled_at w l || fills (rules_of (kind_at w l)) (word_at w l)) ≡ filled_at w l

same_locks : (w : State) → AllNoted w → (l : ℕ) → with_word w l (word_at w l) (owners_at w l) ≡ w
same_locks w noted l = ap
    (λ b. record w {
      locks = set w.locks l
          (record { kind = kind_at w l; word = word_at w l; owners = owners_at w l; filled = b });
    }) (noted l)
    ∙ ap (λ ls. record w { locks = ls }) (set-get_or w.locks l (unlocked _))

nothing_done : (w : State) → AllNoted w → (t : ℕ) (p : Place) (l : ℕ) (f : Op) → apply f (word_at w l)
    ≡ word_at w l
    → owners_after p t (word_at w l) (owners_at w l) ≡ owners_at w l
    → shares_after p (word_at w l) (share_at w l t) ≡ None
    → state_after_operation w t p l f ≡ w
nothing_done w noted t p l f word owners shares = rw (word, owners, shares) (same_locks w noted l)

-- an operation at another place changes the same
operation_put : (w : State) (t : ℕ) (p q : Place) (l : ℕ) (f : Op) → state_after_operation (put w t q) t p l f
    ≡ put (state_after_operation w t p l f) t q
operation_put w t p q l f = ap
    (λ (ss : List (List ℕ)). record (put (with_word w l (apply f (word_at w l))
    (owners_after p t (word_at w l) (owners_at w l))) t q) { shares = ss })
    (numbers (shares_after p (word_at w l) (share_at (put w t q) l t))
    ∙ ap (λ n. shares_with w l t (shares_after p (word_at w l) n)) (ap (λ ns. get_or ns t 0) so))
  where
    so : shares_at (put w t q) l ≡ shares_at w l
    so = ap (λ n. get_or w.shares l (replicate n 0)) (length-set w.places t q)

    numbers : (o : Option ℕ) → shares_with (put w t q) l t o ≡ shares_with w l t o
    numbers None = refl
    numbers (Some n) = ap (λ ns. set w.shares l (set ns t n)) so

-- ---------------------------------------------------------------- turns that come to the same

-- nothing changes in the other run, and the thread is told that it goes on
pub record Waits (b z : State) (told : Outcome) : Type 0 where
  pub same : b ≡ z
  pub goes_on : told ≡ outcome.Step

-- One step leads the other run there, and tells its thread the same. It is no look. But for a thread that stays
-- as it is, it doesn't miss.
pub record One (stays : Bool) (b z : State) (told : Outcome) (s : Step) : Type 0 where
  pub possible : is_possible b s ≡ true
  pub hit : stays ≡ false → misses b s ≡ false
  pub alone : looks b s ≡ false
  pub leads : after b s ≡ z
  pub tells : step_outcome b s ≡ told

-- a look and its exchange do
pub record Two (b z : State) (t : ℕ) (told : Outcome) : Type 0 where
  pub first : is_possible b (go_of t) ≡ true
  pub first_hit : misses b (go_of t) ≡ false
  pub looks : looks b (go_of t) ≡ true
  pub first_tells : step_outcome b (go_of t) ≡ outcome.Step
  pub second : is_possible (after b (go_of t)) (go_of t) ≡ true
  pub second_hit : misses (after b (go_of t)) (go_of t) ≡ false
  pub leads : after (after b (go_of t)) (go_of t) ≡ z
  pub tells : step_outcome (after b (go_of t)) (go_of t) ≡ told

-- a thread that goes on, or looks once more, goes on in the other run so
abbrev pub Comes : Bool → State → State → ℕ → Outcome → Type 0
Comes stays b z t told = Waits b z told ⊎ (One stays b z told (go_of t) ⊎ Two b z t told)

-- one step is taken
pub one_turn : (stays : Bool) (b z : State) (told : Outcome) (s : Step) → is_possible b s ≡ true
    → (stays ≡ false → misses b s ≡ false) → looks b s ≡ false
    → state_after_turn b s.thread s.turn ≡ z → turn_outcome b s.thread s.turn ≡ told → One stays b z told s
one_turn stays b z told s possible hit alone leads tells = record {
  possible = possible;
  hit = hit;
  alone = alone;
  leads = rw possible leads;
  tells = rw possible tells;
}

pub go_possible : (w : State) (t : ℕ) → t < length w.places → can_do w (act_of (place_at w t)) ≡ true
    → is_possible w (go_of t) ≡ true
go_possible w t there can = let lt : nat_lt t (length w.places) ≡ true = grind (arith, nat_tests)
    in rw (lt, can) refl

-- ---------------------------------------------------------------- a look

module _ (w : State) (t : ℕ) (p : Place) (is : place_at w t ≡ p) (l : ℕ) (f : Op)
    (does : act_of p ≡ act.Word l f) where
  pub went_by_word : state_after_go w t ≡ put (state_after_operation w t p l f) t
      (next_place p (Value (word_at w l)))
  went_by_word = ap (state_after_going w t) is
      ∙ rw does (ap (λ x. put (state_after_operation w t p l f) t (next_place x (Value (word_at w l)))) is)

  told_by_word : go_outcome w t ≡ outcome_of (next_act p (Value (word_at w l)))
  told_by_word = ap (going_outcome w t) is
      ∙ rw does (ap (λ x. outcome_of (next_act x (Value (word_at w l)))) is)

-- a thread that doesn't stay as it is, and has not looked, stands where it does
pub here_so : (k : ℕ → Bool) (w : State) → AllSane k w.places → (t : ℕ) (p : Place) → place_at w t ≡ p
    → looked_from p ≡ None → place_at (before k w) t ≡ p
here_so k w all t p is free = place_so k w all t ∙ ap (kept (k t)) is ∙ free_kept (k t) p free

-- one that has looked stands where it looked
pub back_so : (k : ℕ → Bool) (w : State) → AllSane k w.places → (t : ℕ) (p q : Place) → k t ≡ false
    → place_at w t ≡ p → looked_from p ≡ Some q → place_at (before k w) t ≡ q
back_so k w all t p q off is looked = place_so k w all t ∙ ap (kept (k t)) is ∙ ap (λ b. kept b p) off
    ∙ ap (λ o. or_here o p) looked

pub there_so : (k : ℕ → Bool) (w : State) (t : ℕ) → t < length w.places → t < length (before k w).places
there_so k w t there = rw (kept_length k w.places) there

-- a look is a turn where it leads on, and none where it leads to an exchange
pub look_goes : (k : ℕ → Bool) (w : State) (t : ℕ) (q : Place) (l : ℕ) → k t ≡ false → AllSane k w.places
    → AllNoted w → t < length w.places → place_at w t ≡ q → looked_from q ≡ None → act_of q ≡ act.Word l Load
    → IsSane (next_place q (Value (word_at w l)))
    → (looked_from (next_place q (Value (word_at w l))) ≡ None → leads_to_exchange q (word_at w l) ≡ false)
    → (looked_from (next_place q (Value (word_at w l))) ≡ None) ⊎ IsLook q (word_at w l)
    → Comes (k t) (before k w) (before k (state_after_go w t)) t (go_outcome w t)
look_goes k w t q l off all noted there is free load sane plain leads = by_lead leads
  where
    here : place_at (before k w) t ≡ q
    here = here_so k w all t q is free

    by_lead : (looked_from (next_place q (Value (word_at w l))) ≡ None) ⊎ IsLook q (word_at w l)
        → Comes (k t) (before k w) (before k (state_after_go w t)) t (go_outcome w t)
    by_lead (inl none) =
        inr (inl (one_turn (k t) (before k w) (before k (state_after_go w t)) (go_outcome w t)
        (go_of t) (go_possible (before k w) t (there_so k w t there) (rw (here, load) refl))
        (λ e. rw (here, free) refl)
        (ap (λ p. looks_by (before k w) p (act_of p)) here ∙ ap (looks_by (before k w) q) load ∙ plain none)
        (went_by_word (before k w) t q here l Load load
        ∙ ap (λ x. put x t (next_place q (Value (word_at w l)))) (operation_so k w all t q l Load)
        ∙ ap (put (before k (state_after_operation w t q l Load)) t)
        (sym (free_kept (k t) (next_place q (Value (word_at w l))) none))
        ∙ put_so k (state_after_operation w t q l Load) all t (next_place q (Value (word_at w l)))
        ∙ ap (before k) (sym (went_by_word w t q is l Load load)))
        (told_by_word (before k w) t q here l Load load ∙ sym (told_by_word w t q is l Load load))))
    by_lead (inr look) = inl (record {
      same = sym (ap (before k) (went_by_word w t q is l Load load
          ∙ ap (λ x. put x t (next_place q (Value (word_at w l)))) (nothing_done w noted t q l Load refl
          (look.owners t (owners_at w l)) (look.shares (share_at w l t))))
          ∙ sym (put_so k w all t (next_place q (Value (word_at w l))))
          ∙ ap (λ b. put (before k w) t (kept b (next_place q (Value (word_at w l))))) off
          ∙ ap (λ o. put (before k w) t (or_here o (next_place q (Value (word_at w l))))) look.again
          ∙ put_here (before k w) t q here);
      goes_on = told_by_word w t q is l Load load ∙ looked_goes_on q q (Value (word_at w l)) sane look.again;
    })

-- turns lead on alike from states that are the same
pub moved : (stays : Bool) (b c y z : State) (t : ℕ) (told told2 : Outcome) → c ≡ b → y ≡ z → told2 ≡ told
    → Comes stays c y t told2 → Comes stays b z t told
moved stays b c y z t told told2 from to same comes = subst (λ x. Comes stays x z t told) from
    (subst (λ x. Comes stays c x t told) to (subst (Comes stays c y t) same comes))

-- ---------------------------------------------------------------- an exchange by a look

exchange_missed : (from to v : ℕ) → (v == from) ≡ false → apply (Exchange from to) v ≡ v
exchange_missed from to v other = rw other refl

module _ (k : ℕ → Bool) (w : State) (t : ℕ) (p q : Place) (off : k t ≡ false) (all : AllSane k w.places)
    (noted : AllNoted w) (there : t < length w.places) (is : place_at w t ≡ p)
    (looked : looked_from p ≡ Some q) (h : GoesByLook p q) where
  abbrev v : ℕ
  v = word_at w h.lock

  abbrev exchange : Op
  exchange = Exchange h.from h.to

  here : place_at (before k w) t ≡ q
  here = back_so k w all t p q off is looked

  -- the thread stands where it looked
  pub back : before k (put w t q) ≡ before k w
  back = sym (put_so k w all t q) ∙ ap (put (before k w) t) (free_kept (k t) q h.unlooked)
      ∙ put_here (before k w) t q here

  -- looks once more
  pub looks_again : IsSane (next_place q (Value v))
      → (looked_from (next_place q (Value v)) ≡ None → leads_to_exchange q v ≡ false)
      → Comes (k t) (before k w) (before k (state_after_go (put w t q) t)) t (go_outcome (put w t q) t)
  looks_again sane plain =
      moved (k t) (before k w) (before k (put w t q)) (before k (state_after_go (put w t q) t))
      (before k (state_after_go (put w t q) t)) t (go_outcome (put w t q) t)
      (go_outcome (put w t q) t) back refl refl
      (look_goes k (put w t q) t q h.lock off (set_sane k w.places t q all (λ e. h.sound)) noted
      (rw (length-set w.places t q) there) (there_now w t q there) h.unlooked h.load sane plain (h.leads v))

  -- ---------------------------------------------------------------- the exchange misses

  module _ (other : (v == h.from) ≡ false) where
    hands_nothing : state_after_act w t p (act.HandOver h.lock exchange) ≡ state_after_operation w t p h.lock
        exchange
    hands_nothing = ap (λ e. state_after_hand_over_by e w t p h.lock exchange) other

    went_missed : (hands : Bool) → act_of p ≡ exchange_by hands h.lock h.from h.to
        → (state_after_go w t ≡ put (state_after_operation w t p h.lock exchange) t (next_place p (Value v)))
        × (go_outcome w t ≡ outcome_of (next_act p (Value v)))
    went_missed false does = (
      went_by_word w t p is h.lock exchange does,
      told_by_word w t p is h.lock
          exchange does,
    )
    went_missed true does = (
      ap (state_after_going w t) is
          ∙ ap (λ a. put (state_after_act w t p a) t (next_place (place_at (state_after_act w t p a) t)
          (reply_to w t a))) does
          ∙ ap (λ x. put x t (next_place (place_at x t) (Value v))) hands_nothing
          ∙ ap (λ x. put (state_after_operation w t p h.lock exchange) t (next_place x (Value v))) is,
      ap (going_outcome w t) is
          ∙ ap (λ a. outcome_of (next_act (place_at (state_after_act w t p a) t) (reply_to w t a))) does
          ∙ ap (λ x. outcome_of (next_act (place_at x t) (Value v))) hands_nothing
          ∙ ap (λ x. outcome_of (next_act x (Value v))) is,
    )

    -- as a look does
    missed_as_looked : state_after_operation w t p h.lock exchange ≡ state_after_operation w t q h.lock Load
    missed_as_looked = let miss = h.misses v other in
        rw (
          exchange_missed h.from h.to v other,
          miss.owners t (owners_at w h.lock),
          miss.shares
              (share_at w h.lock t),
        ) refl

    missed_leads : state_after_go w t ≡ state_after_go (put w t q) t
    missed_leads = (went_missed h.hands h.exchange).0
        ∙ ap (λ x. put x t (next_place p (Value v))) missed_as_looked
        ∙ ap (put (state_after_operation w t q h.lock Load) t) (h.misses v other).next
        ∙ sym (put_put (state_after_operation w t q h.lock Load) t q (next_place q (Value v)))
        ∙ ap (λ x. put x t (next_place q (Value v))) (sym (operation_put w t q q h.lock Load))
        ∙ sym (went_by_word (put w t q) t q (there_now w t q there) h.lock Load h.load)

    missed_tells : go_outcome w t ≡ go_outcome (put w t q) t
    missed_tells = (went_missed h.hands h.exchange).1 ∙ ap outcome_of (h.misses v other).act
        ∙ sym (told_by_word (put w t q) t q (there_now w t q there) h.lock Load h.load)

    pub misses_so : IsSane (next_place q (Value v))
        → (looked_from (next_place q (Value v)) ≡ None → leads_to_exchange q v ≡ false)
        → Comes (k t) (before k w) (before k (state_after_go w t)) t (go_outcome w t)
    misses_so sane plain = moved (k t) (before k w) (before k w) (before k (state_after_go (put w t q) t))
        (before k (state_after_go w t)) t (go_outcome w t) (go_outcome (put w t q) t) refl
        (ap (before k) (sym missed_leads)) (sym missed_tells) (looks_again sane plain)

  -- ---------------------------------------------------------------- the exchange succeeds

  module _ (sane : IsSane p) (own : place_at (state_after_act w t p (act_of p)) t ≡ p) (same : (v == h.from)
      ≡ true) where
    abbrev x : State
    x = put (before k w) t p

    -- the thread takes its look now
    abbrev V : State
    V = state_after_act w t p (exchange_by h.hands h.lock h.from h.to)

    at_from : v ≡ h.from
    at_from = eqb-true v h.from same

    sees_now : next_place q (Value v) ≡ p
    sees_now = ap (λ n. next_place q (Value n)) at_from ∙ h.sees

    first_leads : state_after_go (before k w) t ≡ x
    first_leads = went_by_word (before k w) t q here h.lock Load h.load
        ∙ ap (λ y. put y t (next_place q (Value v))) (operation_so k w all t q h.lock Load
        ∙ ap (before k) (nothing_done w noted t q h.lock Load refl
        (subst (λ n. owners_after q t n (owners_at w h.lock) ≡ owners_at w h.lock) (sym at_from)
        (h.looks.owners t (owners_at w h.lock)))
        (subst (λ n. shares_after q n (share_at w h.lock t) ≡ None) (sym at_from)
        (h.looks.shares (share_at w h.lock t)))))
        ∙ ap (put (before k w) t) sees_now

    first_tells : go_outcome (before k w) t ≡ outcome.Step
    first_tells = told_by_word (before k w) t q here h.lock Load h.load
        ∙ looked_goes_on q q (Value v) (subst IsSane (sym sees_now) sane) (ap looked_from sees_now ∙ looked)

    there_too : t < length (before k w).places
    there_too = there_so k w t there

    first_possible : is_possible (before k w) (go_of t) ≡ true
    first_possible = go_possible (before k w) t there_too (rw (here, h.load) refl)

    first_hits : misses (before k w) (go_of t) ≡ false
    first_hits = rw (here, h.unlooked) refl

    after_first : after (before k w) (go_of t) ≡ x
    after_first = rw first_possible first_leads

    -- ---------------------------------------------------------------- the exchange

    x_place : place_at x t ≡ p
    x_place = there_now (before k w) t p there_too

    held_same : held p ≡ held q
    held_same = ap (λ u. held_by u (wants p)) h.taker ∙ ap (held_by (taker q)) h.wants

    x_helds : map held x.places ≡ map held (before k w).places
    x_helds = map-set_same held (before k w).places t p Idle (held_same ∙ ap held (sym here))

    x_shares : shares_at x h.lock ≡ shares_at (before k w) h.lock
    x_shares = ap (λ n. get_or w.shares h.lock (replicate n 0)) (length-set (before k w).places t p)

    x_hands : state_after_hand_over x t p h.lock exchange
        ≡ put (state_after_hand_over (before k w) t p h.lock exchange) t p
    x_hands = rw (
      x_shares,
      given_so t x.places (before k w).places (shares_at (before k w) h.lock)
          x_helds,
      successor_so t 0 x.places (before k w).places x_helds,
    ) refl

    x_told : hand_over_told x t h.lock ≡ hand_over_told (before k w) t h.lock
    x_told = rw (
      x_shares,
      given_so t x.places (before k w).places (shares_at (before k w) h.lock)
          x_helds,
    ) refl

    abbrev told : Reply
    told = hand_over_told (before k w) t h.lock

    owns : place_at V t ≡ p
    owns = ap (λ a. place_at (state_after_act w t p a) t) (sym h.exchange) ∙ own

    -- where it hands the lock over, it hears nothing itself
    module _ (hands : h.hands ≡ true) where
      gives : state_after_act w t p (act.HandOver h.lock exchange) ≡ state_after_telling
          (state_after_hand_over w t p h.lock exchange) t (hand_over_told w t h.lock)
      gives = ap (λ e. state_after_hand_over_by e w t p h.lock exchange) same

      gives_before : state_after_telling (state_after_hand_over (before k w) t p h.lock exchange) t told
          ≡ before k (state_after_act w t p (act.HandOver h.lock exchange))
      gives_before = sym (ap (λ e. state_after_hand_over_by e (before k w) t p h.lock exchange) same)
          ∙ acted_so k w all t p (act.HandOver h.lock exchange)

      told_same : told ≡ hand_over_told w t h.lock
      told_same = rw (
        shares_so k w all h.lock,
        given_so t (before k w).places w.places (shares_at w h.lock)
            (helds_so k w.places all),
      ) refl

      deaf : place_after_telling t told p ≡ p
      deaf = ap (λ r. place_after_telling t r p) told_same
          ∙ sym (get_or-map (place_after_telling t (hand_over_told w t h.lock)) w.places t Idle
          ∙ ap (place_after_telling t (hand_over_told w t h.lock)) is)
          ∙ ap (λ y. place_at y t) (sym gives)
          ∙ ap (λ b. place_at (state_after_act w t p (exchange_by b h.lock h.from h.to)) t) (sym hands)
          ∙ owns

      x_gives : state_after_act x t p (act.HandOver h.lock exchange)
          ≡ put (before k (state_after_act w t p (act.HandOver h.lock exchange))) t p
      x_gives = ap (λ e. state_after_hand_over_by e x t p h.lock exchange) same
          ∙ ap (λ y. state_after_telling y t (hand_over_told x t h.lock)) x_hands
          ∙ ap (state_after_telling (put (state_after_hand_over (before k w) t p h.lock exchange) t p) t)
          x_told
          ∙ ap (λ ps. record (state_after_hand_over (before k w) t p h.lock exchange) { places = ps })
          (map-set (place_after_telling t told) (before k w).places t p)
          ∙ ap (put (state_after_telling (state_after_hand_over (before k w) t p h.lock exchange) t told)
          t) deaf
          ∙ ap (λ y. put y t p) gives_before

    x_acts : state_after_act x t p (exchange_by h.hands h.lock h.from h.to) ≡ put (before k V) t p
    x_acts = by_hands h.hands refl
      where
        by_hands : (b : Bool) → h.hands ≡ b → state_after_act x t p (exchange_by b h.lock h.from h.to)
            ≡ put (before k (state_after_act w t p (exchange_by b h.lock h.from h.to))) t p
        by_hands false e = operation_put (before k w) t p p h.lock exchange
            ∙ ap (λ y. put y t p) (operation_so k w all t p h.lock exchange)
        by_hands true e = x_gives e

    tells_value : (y : State) (b : Bool) → word_at y h.lock ≡ v
        → reply_to y t (exchange_by b h.lock h.from h.to) ≡ Value v
    tells_value y true e = ap Value e
    tells_value y false e = ap Value e

    hit_none : looked_from (next_place p (Value v)) ≡ None
    hit_none = ap (λ u. looked_from (next_place p (Value u))) at_from ∙ h.hits

    V_there : t < length (before k V).places
    V_there = rw (
      kept_length k V.places,
      (performed_counts w t p (exchange_by h.hands h.lock h.from h.to)).0,
    ) there

    x_owns : place_at (put (before k V) t p) t ≡ p
    x_owns = there_now (before k V) t p V_there

    second_leads : state_after_go x t ≡ before k (state_after_go w t)
    second_leads = ap (state_after_going x t) x_place
        ∙ ap (λ a. put (state_after_act x t p a) t (next_place (place_at (state_after_act x t p a) t)
        (reply_to x t a))) h.exchange
        ∙ ap (λ y. put y t (next_place (place_at y t)
        (reply_to x t (exchange_by h.hands h.lock h.from h.to)))) x_acts
        ∙ ap (λ r. put (put (before k V) t p) t (next_place (place_at (put (before k V) t p) t) r))
        (tells_value x h.hands refl)
        ∙ ap (λ y. put (put (before k V) t p) t (next_place y (Value v))) x_owns
        ∙ put_put (before k V) t p (next_place p (Value v))
        ∙ ap (put (before k V) t) (sym (free_kept (k t) (next_place p (Value v)) hit_none))
        ∙ put_so k V (acted_sane k w all t p (exchange_by h.hands h.lock h.from h.to)) t
        (next_place p (Value v))
        ∙ ap (before k) (sym (ap (state_after_going w t) is
        ∙ ap (λ a. put (state_after_act w t p a) t (next_place (place_at (state_after_act w t p a) t)
        (reply_to w t a))) h.exchange
        ∙ ap (λ r. put V t (next_place (place_at V t) r)) (tells_value w h.hands refl)
        ∙ ap (λ y. put V t (next_place y (Value v))) owns))

    second_tells : go_outcome x t ≡ go_outcome w t
    second_tells = ap (going_outcome x t) x_place
        ∙ ap (λ a. outcome_of (next_act (place_at (state_after_act x t p a) t) (reply_to x t a))) h.exchange
        ∙ ap (λ y. outcome_of
        (next_act (place_at y t) (reply_to x t (exchange_by h.hands h.lock h.from h.to)))) x_acts
        ∙ ap (λ r. outcome_of (next_act (place_at (put (before k V) t p) t) r))
        (tells_value x h.hands refl)
        ∙ ap (λ y. outcome_of (next_act y (Value v))) x_owns
        ∙ sym (ap (going_outcome w t) is
        ∙ ap (λ a. outcome_of (next_act (place_at (state_after_act w t p a) t) (reply_to w t a))) h.exchange
        ∙ ap (λ r. outcome_of (next_act (place_at V t) r)) (tells_value w h.hands refl)
        ∙ ap (λ y. outcome_of (next_act y (Value v))) owns)

    can_exchange : (b : Bool) → can_do x (exchange_by b h.lock h.from h.to) ≡ true
    can_exchange true = refl
    can_exchange false = refl

    second_possible : is_possible x (go_of t) ≡ true
    second_possible = go_possible x t (rw (length-set (before k w).places t p) there_too)
        (rw (x_place, h.exchange) (can_exchange h.hands))

    finds_it : (b : Bool) → finds_another x (exchange_by b h.lock h.from h.to) ≡ false
    finds_it true = ap not same
    finds_it false = ap not same

    second_hits : misses x (go_of t) ≡ false
    second_hits = rw (x_place, looked, h.exchange) (finds_it h.hands)

    first_outcome : step_outcome (before k w) (go_of t) ≡ outcome.Step
    first_outcome = rw first_possible first_tells

    -- a thread has not decided where it looks
    is_look : has_decided q ≡ false → looks (before k w) (go_of t) ≡ true
    is_look undecided = ap (λ y. looks_by (before k w) y (act_of y)) here
        ∙ ap (looks_by (before k w) q) h.load
        ∙ ap (λ y. not (has_decided q) && is_exchange (act_of y)) sees_now
        ∙ ap (λ d. not d && is_exchange (act_of p)) undecided ∙ ap is_exchange h.exchange
        ∙ by_hands_exchange h.hands
      where
        by_hands_exchange : (b : Bool) → is_exchange (exchange_by b h.lock h.from h.to) ≡ true
        by_hands_exchange true = refl
        by_hands_exchange false = refl

    pub hits_so : has_decided q ≡ false
        → Comes (k t) (before k w) (before k (state_after_go w t)) t (go_outcome w t)
    hits_so undecided = inr (inr (record {
      first = first_possible;
      first_hit = first_hits;
      looks = is_look undecided;
      first_tells = first_outcome;
      second = ap (λ y. is_possible y (go_of t)) after_first ∙ second_possible;
      second_hit = ap (λ y. misses y (go_of t)) after_first ∙ second_hits;
      leads = ap (λ y. after y (go_of t)) after_first ∙ rw second_possible second_leads;
      tells = ap (λ y. step_outcome y (go_of t)) after_first ∙ rw second_possible second_tells;
    }))
