-- An owner that hands a reader-writer lock over: each act is one that it may take, and each reply leads on.
use Rattle.std.proofs.Common.{◌++◌, ℕ, Bool, true, false, List, [], ◌∷◌, Option, None, if◌then◌else◌, ◌==◌}
use Rattle.std.proofs.Common.{◌≡◌, ◌≢◌, inl, inr, ◌-◌, ◌*◌, ◌/◌, ◌^◌, ◌<◌, ◌≤◌, length, refl, ap, ◌∙◌, sym}
use Rattle.std.proofs.Common.{subst, suc, eq-eqb, ne_eqb}
use mathlib.Core.Logic.{dite}
use native.Mathlib.Decide.{ℕ_discrete}
use Rattle.core_base.specs.Lines.{threads_of}
use Rattle.core_base.specs.Words.{apply}
use Rattle.core_base.specs.declared.keys.Keys.TheVariants.{One}
use Rattle.core_base.specs.declared.notes.Note.TheVariants as note
use Rattle.core_base.specs.declared.ops.Op.{Op}
use Rattle.core_base.specs.declared.ops.Op.TheVariants.{Load, Store, Exchange}
use Rattle.core_base.specs.declared.wants.Waiter.{Waiter}
use Rattle.core_base.specs.declared.wants.Want.{Want}
use Rattle.core_base.specs.declared.wants.Want.TheVariants as wants
use Rattle.spec_locks.specs.declared.calls.Access.{Access}
use Rattle.spec_locks.specs.declared.calls.Access.TheVariants as access
use Rattle.spec_locks.specs.declared.calls.Patience.TheVariants.{Patient}
use Rattle.spec_locks.specs.declared.outcomes.Answer.{Answer}
use Rattle.spec_locks.specs.Codes.{has_parked}
use Rattle.steps_base.specs.Acts.{wakes_taken}
use Rattle.steps_base.specs.declared.acts.Act.{Act}
use Rattle.steps_base.specs.declared.acts.Act.TheVariants as act
use Rattle.steps_base.specs.declared.acts.Next.{Next}
use Rattle.steps_base.specs.declared.acts.Next.TheVariants.{At}
use Rattle.steps_base.specs.declared.acts.Reply.{Reply}
use Rattle.steps_base.specs.declared.acts.Reply.TheVariants.{Done, Value, Picked}
use Rattle.core_queues.specs.Wants.{wants_of}
use Rattle.steps_rwlock.proofs.RwLockOpenings.{rwlock_calls_open}
use Rattle.steps_rwlock.specs.RwLockBegins.{rwlock_first}
use Rattle.steps_rwlock.specs.declared.places.Admission.{Admission}
use Rattle.steps_rwlock.specs.declared.purposes.RwLockPurpose.TheVariants as purpose
use Rattle.steps_rwlock_fair.specs.FairSteps.{any_taken, has_room, hand_over_act, hand_over_next, looked}
use Rattle.steps_rwlock_fair.specs.FairSteps.{parked_as, released, tokens, with_taken}
use Rattle.steps_rwlock_fair.specs.FairSteps.{note_by, word_without as without_right}
use Rattle.steps_rwlock_fair.specs.declared.hand_over.HandOverAt.{HandOverAt}
use Rattle.steps_rwlock_fair.specs.declared.hand_over.HandOverAt.TheVariants as handing
use Rattle.steps_rwlock_fair.specs.declared.hand_over.Taken.{Taken}
use Rattle.steps_rwlock_fair.specs.declared.places.RwLockCallPlace.{RwLockCallPlace}
use Rattle.steps_rwlock_fair.specs.declared.places.RwLockCallPlace.TheVariants.{HandOver}
use Rattle.lot_steps.specs.Steps.{rwlock_does, rwlock_goes}
use Rattle.lot_steps.specs.declared.places.Place.TheVariants.{RwLock}
use Rattle.core_words.proofs.RwLockKinds.{rwlock_steps}
use Rattle.core_words.specs.Steps.{CodesWith, without}
use Rattle.core_words.specs.Views.{owning}
use Rattle.core_words.specs.declared.owners.Owner.TheVariants as owners
use Rattle.core_words.specs.declared.owners.Ownership.{Ownership}
use Rattle.core_words.specs.declared.words.WordKind.TheVariants as kinds
use Rattle.parking_lot_core.specs.declared.tokens.Did.TheVariants as did
use Rattle.run_base.specs.Fitting.{Reached, ReachedBy, answer_of, handing_aim, sleeper_at}
use Rattle.run_base.specs.Paths.{at_rwlock, closure_of, rwlock_at, rwlocks, step}
use Rattle.run_base.specs.RwLockFitting.{AreTaken, FitsHandOver, FitsRwLock, GaveFairly, IsHandingPlace}
use Rattle.run_base.specs.RwLockFitting.{HasPickedThese, HasPicked, IsBeside, IsUpgradableWord, OwnsRight}
use Rattle.run_base.specs.RwLockFitting.{still_rightless}
use Rattle.run_base.specs.Takes.{more_in, sharers_in, successor_in}
use Rattle.run_base.specs.Stages.{ActNeeds, Became, HandsEach, HasDone, HasKey, SectionView, IsFresh, IsLeft}
use Rattle.run_base.specs.Stages.{IsUngiven, MayLeave, ThreadState, Stepped, all_given, entered_now}
use Rattle.run_base.specs.Stages.{stage_handed}
use Rattle.run_base.specs.Stages.{owns_when_handed, stage, stepped, took_as, wanted_in}
use Rattle.run_base.proofs.Leaving.{has_done}
use Rattle.run_base.proofs.RwLockHands.{exchange_hands, exchange_leaves, exchange_needs, free_word}
use Rattle.run_base.proofs.RwLockHands.{given_word, may_give_up, nobody_taken, owns_given_up, sees_own}
use Rattle.run_base.proofs.RwLockHands.{store_hands, store_leaves, store_needs}
use Rattle.run_base.proofs.RwLockKeeping.{look_upgradable, missed_same}
use Rattle.run_base.proofs.RwLockNeeds.{has_right, left_beside}

-- where it stands, it neither ends its call nor runs a closure
pub hand_over_goes_on : (l : ℕ) (a : Admission) (x : Access) (to : HandOverAt)
    → (answer_of (hand_over_act l a x to) ≡ None) × (closure_of (hand_over_act l a x to) ≡ None)
hand_over_goes_on l a x handing.Load = (refl, refl)
hand_over_goes_on l a x (handing.Free seen) = (refl, refl)
hand_over_goes_on l a x handing.Enter = (refl, refl)
hand_over_goes_on l a x handing.Take = (refl, refl)
hand_over_goes_on l a x (handing.Store k) = (refl, refl)
hand_over_goes_on l a x (handing.Look k) = (refl, refl)
hand_over_goes_on l a x (handing.Exchange k seen) = by_room (has_room a.limit k seen)
  where
    by_room : (b : Bool) → (answer_of (if b then act.HandOver l (Exchange seen (with_taken x k seen))
        else act.Word l (Exchange seen (parked_as k.none_left (without_right x seen)))) ≡ None)
        × (closure_of (if b then act.HandOver l (Exchange seen (with_taken x k seen)) else act.Word l
        (Exchange seen (parked_as k.none_left (without_right x seen)))) ≡ None)
    by_room true = (refl, refl)
    by_room false = (refl, refl)
hand_over_goes_on l a x (handing.Leave any given) = (refl, refl)

-- as many want something as were taken
as_many : (xs : List Waiter) → length (wants_of xs) ≡ length xs
as_many [] = refl
as_many (x ∷ xs) = ap suc (as_many xs)

none_waits : (xs : List Waiter) → wants_of xs ≡ [] → xs ≡ []
none_waits [] e = refl
none_waits (x ∷ xs) e = absurd cc

-- ---------------------------------------------------------------- the conditions of its acts

module _ (l : ℕ) (a : Admission) (base : List Ownership) (st : ThreadState) (room : a.limit < 2 ^ 60 - 1)
  where
    abbrev Can : Act → Type 0
    Can = ActNeeds rwlocks (at_rwlock l) st

    takes_needs : (key : ℕ) → st.inside ≡ entered_now (One key) → HasKey key st.inside × IsFresh st.inside
    takes_needs key e = (subst (HasKey key) (sym e) refl, subst IsFresh (sym e) refl)

    leaves_needs : (any given : Bool) (waiters : List Waiter) → (any ≡ false → waiters ≡ [])
        → HasPicked l a waiters (still_rightless given waiters) st.inside
        → Can (act.Leave (One (2 * l)) (wakes_taken any (note_by given)))
    leaves_needs true true waiters none picked = subst (MayLeave note.HandOff) (sym picked) refl
    leaves_needs true false waiters none picked = subst (MayLeave note.Normal) (sym picked) refl
    leaves_needs false true waiters none picked = subst (MayLeave note.Normal) (sym picked)
        (sym (ap threads_of (none refl)))
    leaves_needs false false waiters none picked = subst (MayLeave note.Normal) (sym picked) refl

    -- the step that hands over what it took
    hands_each : (op : Op) (waiters : List Waiter) → HasPicked l a waiters (threads_of waiters) st.inside
        → HandsEach kinds.RwLock (rwlock_at l) op st.owns (wants_of waiters) → IsUngiven st.inside
        × HandsEach kinds.RwLock (rwlock_at l) op st.owns (wanted_in st.inside)
    hands_each op waiters picked h = (
      subst IsUngiven (sym picked) refl,
      subst (λ (i : Option SectionView). HandsEach kinds.RwLock (rwlock_at l) op st.owns (wanted_in i))
          (sym picked) h,
    )

    exchanges_needs : (k : Taken) (seen : ℕ) → OwnsRight l wants.Upgradable base st.owns
        → HasPickedThese l a k st.inside → IsUpgradableWord seen → (b : Bool) → has_room a.limit k seen ≡ b
        → Can (if b then act.HandOver l (Exchange seen (with_taken access.Upgradable k seen)) else act.Word l
        (Exchange seen (parked_as k.none_left (without_right access.Upgradable seen))))
    exchanges_needs k seen right hand own true fits = let mine = has_right l owners.Upgradable base st.owns
        right in
        let each = hands_each (Exchange seen (with_taken access.Upgradable k seen)) hand.0 hand.2
        (exchange_needs (rwlock_at l) st.owns mine seen own a.limit room (wants_of hand.0) k hand.1 fits) in (
          (exchange_hands (rwlock_at l) st.owns mine seen own a.limit room (wants_of hand.0) k hand.1
              fits).may,
          each.0,
          each.1,
        )
    exchanges_needs k seen right hand own false full = may_give_up (rwlock_at l) st.owns
        (has_right l owners.Upgradable base st.owns right) seen own
        (parked_as k.none_left (without_right access.Upgradable seen)) (given_word seen own k.none_left)

    pub hand_over_needs : (x : Access) (to : HandOverAt) → IsHandingPlace x to → FitsHandOver l base a x to st
        → Can (hand_over_act l a x to)
    hand_over_needs access.Upgradable handing.Load h f = (rwlock_steps (rwlock_at l) st.owns).load
    hand_over_needs access.Upgradable (handing.Free seen) h f = may_give_up (rwlock_at l) st.owns
        (has_right l owners.Upgradable base st.owns f.0) seen f.2 (without_right access.Upgradable seen)
        (free_word seen f.2)
    hand_over_needs access.Upgradable handing.Enter h f = (tt, f.1)
    hand_over_needs access.Upgradable handing.Take h f = takes_needs (2 * l) f.1
    hand_over_needs access.Upgradable (handing.Look k) h f = (rwlock_steps (rwlock_at l) st.owns).load
    hand_over_needs access.Upgradable (handing.Exchange k seen) h f = exchanges_needs k seen f.0 f.1 f.2
        (has_room a.limit k seen) refl
    hand_over_needs access.Upgradable (handing.Leave any given) h f = leaves_needs any given f.1.0 f.1.1 f.1.2
    hand_over_needs access.Exclusive handing.Enter h f = (tt, f.1)
    hand_over_needs access.Exclusive handing.Take h f = takes_needs (2 * l) f.1
    hand_over_needs access.Exclusive (handing.Store k) h f = let mine = has_right l owners.Exclusive base
        st.owns f.0 in
        let each = hands_each (Store (parked_as k.none_left (tokens k))) f.1.0 f.1.2
        (store_needs (rwlock_at l) st.owns mine (wants_of f.1.0) k f.1.1) in
        ((store_hands (rwlock_at l) st.owns mine (wants_of f.1.0) k f.1.1).may, each.0, each.1)
    hand_over_needs access.Exclusive (handing.Leave any given) h f = leaves_needs any given f.1.0 f.1.1 f.1.2
    hand_over_needs access.Shared to h f = absurd h
    hand_over_needs x to h f = absurd h

-- ---------------------------------------------------------------- where its replies lead

module _ (up : Type 0) (l : ℕ) (a : Admission) (base : List Ownership) (room : a.limit < 2 ^ 60 - 1)
    (bumps : Bool) (st new : ThreadState) where
  -- a thread that bumps enters again
  pub enters_fit : (x : Access) → IsBeside l base new.owns → new.inside ≡ None
      → FitsRwLock up l base a (rwlock_first (purpose.Enter x Patient)) new
  enters_fit access.Shared beside none = record {
    stands = (rwlock_calls_open a (purpose.Enter access.Shared Patient)).stands;
    room = room;
    begun = tt;
    seen = tt;
    owns = beside;
    within = none;
    stood = tt;
    late = λ e. absurd cc;
  }
  enters_fit access.Upgradable beside none = record {
    stands = (rwlock_calls_open a (purpose.Enter access.Upgradable Patient)).stands;
    room = room;
    begun = tt;
    seen = tt;
    owns = beside;
    within = none;
    stood = tt;
    late = λ e. absurd cc;
  }
  enters_fit access.Exclusive beside none = record {
    stands = (rwlock_calls_open a (purpose.Enter access.Exclusive Patient)).stands;
    room = room;
    begun = tt;
    seen = tt;
    owns = beside;
    within = none;
    stood = tt;
    late = λ e. absurd cc;
  }

  abbrev Reach : Access → Next RwLockCallPlace → Type 0
  Reach x n = ReachedBy up base (handing_aim l a x bumps) (rwlock_goes l a n) (answer_of (rwlock_does l a n))
      new

  goes : (x : Access) (to : HandOverAt) → IsHandingPlace x to → FitsHandOver l base a x to new
      → Reach x (At (HandOver x bumps to))
  goes x to h f = subst (λ (o : Option Answer). ReachedBy up base (handing_aim l a x bumps)
      (RwLock l a (HandOver x bumps to)) o new) (sym (hand_over_goes_on l a x to).0) ((h, room, f), refl)

  -- the thread has given its right up
  gave_up : (x : Access) → new.inside ≡ None → IsBeside l base new.owns → GaveFairly l a x new.last new.steps
      → Reach x (released x bumps)
  gave_up x none beside gave = by_call bumps x gave
    where
      by_call : (b : Bool) (x : Access) → GaveFairly l a x new.last new.steps
          → ReachedBy up base (handing_aim l a x b) (rwlock_goes l a (released x b))
          (answer_of (rwlock_does l a (released x b))) new
      by_call false x gave = (none, refl, beside, gave)
      by_call true access.Shared gave = ((tt, enters_fit access.Shared beside none), refl)
      by_call true access.Upgradable gave = ((tt, enters_fit access.Upgradable beside none), refl)
      by_call true access.Exclusive gave = ((tt, enters_fit access.Exclusive beside none), refl)

  owns_of : (s : ThreadState) → new ≡ s → new.owns ≡ s.owns
  owns_of s e = ap (λ (x : ThreadState). x.owns) e

  inside_of : (s : ThreadState) → new ≡ s → new.inside ≡ s.inside
  inside_of s e = ap (λ (x : ThreadState). x.inside) e

  last_of : (s : ThreadState) → new ≡ s → new.last ≡ s.last
  last_of s e = ap (λ (x : ThreadState). x.last) e

  keeps_right : (w : Want) → new.owns ≡ st.owns → OwnsRight l w base st.owns → OwnsRight l w base new.owns
  keeps_right w e = subst (OwnsRight l w base) (sym e)

  -- a thread that it took
  took_these : (x : Access) (n : ℕ) (y : Option Want) (none_left : Bool) (waiters : List Waiter)
      → AreTaken (wants_of waiters) (record {
        sharers = n;
        successor = y;
        none_left = none_left;
      }) → st.inside ≡ entered_now (One (2 * l)) → new.inside
      ≡ took_as (did.TakePicked (2 * l) None a.recursive)
      waiters st.inside
      → HasPickedThese l a (record { sharers = n; successor = y; none_left = none_left }) new.inside
  took_these x n y none_left waiters taken was e =
      (waiters, taken, e ∙ ap (took_as (did.TakePicked (2 * l) None a.recursive) waiters) was)

  -- after the section
  left_section : (x : Access) (any given : Bool) → IsHandingPlace x (handing.Leave any given)
      → FitsHandOver l base a x (handing.Leave any given) st → new.owns ≡ st.owns → new.inside ≡ None
      → IsLeft st.inside new.last → Reach x (released x bumps)
  left_section x any given h f same none left = gave_up x none (subst (IsBeside l base) (sym same) f.0)
      (by_access x h (has_done _ _ _ f.1.2 left))
    where
      by_access : (x : Access) → IsHandingPlace x (handing.Leave any given)
          → HasDone (2 * l) (did.TakePicked (2 * l) None a.recursive) new.last
          → GaveFairly l a x new.last new.steps
      by_access access.Upgradable h took = inr took
      by_access access.Exclusive h took = took
      by_access access.Shared h took = absurd h

  -- the threads that it took own what they wanted, and it owns its right no longer
  handed_over : (x : Access) (k : Taken) (given : Bool) → IsHandingPlace x (handing.Leave (any_taken k) given)
      → (waiters : List Waiter) → AreTaken (wants_of waiters) k → IsBeside l base new.owns
      → HasPicked l a waiters (still_rightless given waiters) new.inside
      → Reach x (At (HandOver x bumps (handing.Leave (any_taken k) given)))
  handed_over x k given h waiters taken beside picked = goes x (handing.Leave (any_taken k) given) h (
    beside,
    (waiters, (λ none. none_waits waiters (nobody_taken (wants_of waiters) k taken none)), picked),
  )

  taken_by : (waiters : List Waiter) (n : ℕ) (y : Option Want) (none_left : Bool)
      → n ≡ sharers_in (wants_of waiters) → y ≡ successor_in (wants_of waiters) → more_in (wants_of waiters)
      ≤ 1 → length waiters < 2 ^ 60 → AreTaken (wants_of waiters) (record {
        sharers = n;
        successor = y;
        none_left = none_left;
      })
  taken_by waiters n y none_left s u one few = record {
    sharers = s;
    successor = u;
    one = one;
    few = subst (λ (k : ℕ). k < 2 ^ 60) (sym (as_many waiters)) few;
  }

  -- ---------------------------------------------------------------- an exclusive owner

  exclusive_leads : (to : HandOverAt) → IsHandingPlace access.Exclusive to
      → FitsHandOver l base a access.Exclusive to st → (reply : Reply) → Became up rwlocks (at_rwlock l)
      (sleeper_at (RwLock l a (HandOver access.Exclusive bumps to))) st (hand_over_act l a access.Exclusive
      to) reply new → Reach access.Exclusive (hand_over_next a access.Exclusive bumps to reply)
  exclusive_leads handing.Enter h f Done b = goes access.Exclusive handing.Take tt
      (keeps_right wants.Exclusive (owns_of _ b) f.0, inside_of _ b)
  exclusive_leads handing.Take h f (Picked n y none_left) b = goes access.Exclusive (handing.Store (record {
    sharers = n;
    successor = y;
    none_left = none_left;
  })) tt (
    keeps_right wants.Exclusive b.1 f.0,
    took_these access.Exclusive n y none_left b.0.0 (taken_by b.0.0 n y none_left b.0.1 b.0.2 b.0.4 b.0.5) f.1
        b.0.3,
  )
  exclusive_leads (handing.Store k) h f (Value seen) b = let mine = has_right l owners.Exclusive base st.owns
      f.0 in
      let waiters = f.1.0 in let op = Store (parked_as k.none_left (tokens k)) in
      let owns : new.owns ≡ without (owning (rwlock_at l) owners.Exclusive) st.owns = owns_of _ b.1
      ∙ ap (λ (i : Option SectionView). owns_when_handed kinds.RwLock (rwlock_at l)
      (Store (parked_as k.none_left (tokens k))) seen (wanted_in i) st.owns) f.1.2
      ∙ store_leaves (rwlock_at l) st.owns mine (wants_of f.1.0) k f.1.1 seen b.0 in
      handed_over access.Exclusive k true tt f.1.0 f.1.1 (subst (IsBeside l base) (sym owns)
      (left_beside l owners.Exclusive base st.owns f.0)) (inside_of _ b.1 ∙ ap all_given f.1.2)
  exclusive_leads (handing.Leave any given) h f Done b = left_section access.Exclusive any given h f b.0 b.1
      b.2
  exclusive_leads handing.Take h f reply b = absurd b.0
  exclusive_leads handing.Load h f reply b = absurd h
  exclusive_leads (handing.Free seen) h f reply b = absurd h
  exclusive_leads (handing.Look k) h f reply b = absurd h
  exclusive_leads (handing.Exchange k seen) h f reply b = absurd h
  exclusive_leads to h f reply b = absurd b

  -- ---------------------------------------------------------------- an upgradable owner

  abbrev Step : Op → ℕ → Type 0
  Step op seen = Stepped kinds.RwLock (rwlock_at l) op seen st new

  -- a step that changes no owner keeps its right, and told it of itself
  looks : (op : Op) (seen : ℕ) → apply op seen / 4 ≡ seen / 4 → Step op seen
      → OwnsRight l wants.Upgradable base st.owns → OwnsRight l wants.Upgradable base new.owns
  looks op seen same b right = subst (OwnsRight l wants.Upgradable base) (sym (owns_of _ b.1))
      (look_upgradable l base st.owns seen b.0 op same right)

  saw : (op : Op) (seen : ℕ) → Step op seen → OwnsRight l wants.Upgradable base st.owns
      → IsUpgradableWord seen
  saw op seen b right = sees_own (rwlock_at l) seen st.owns b.0 (has_right l owners.Upgradable base st.owns
      right)

  looked_comes : (seen : ℕ) → OwnsRight l wants.Upgradable base new.owns → new.inside ≡ None
      → IsUpgradableWord seen → Reach access.Upgradable (At (HandOver access.Upgradable bumps (looked seen)))
  looked_comes seen right none own = by_bit (has_parked seen) refl
    where
      by_bit : (b : Bool) → has_parked seen ≡ b
          → Reach access.Upgradable (At (HandOver access.Upgradable bumps (if b then handing.Enter
          else handing.Free seen)))
      by_bit true some = goes access.Upgradable handing.Enter tt (right, none)
      by_bit false clear = goes access.Upgradable (handing.Free seen) tt (right, none, own, clear)

  freed : (expected : ℕ) → FitsHandOver l base a access.Upgradable (handing.Free expected) st
      → Step (Exchange expected (without_right access.Upgradable expected)) expected
      → Reach access.Upgradable (released access.Upgradable bumps)
  freed expected f b = let mine = has_right l owners.Upgradable base st.owns f.0 in
      let owns : new.owns ≡ without (owning (rwlock_at l) owners.Upgradable) st.owns = owns_of _ b.1
      ∙ owns_given_up (rwlock_at l) st.owns mine expected f.2 (without_right access.Upgradable expected)
      (free_word expected f.2) b.0 in
      gave_up access.Upgradable (inside_of _ b.1 ∙ f.1) (subst (IsBeside l base) (sym owns)
      (left_beside l owners.Upgradable base st.owns f.0))
      (inl (
        last_of _ b.1,
        (
          st.steps,
          Exchange expected (without_right access.Upgradable expected),
          expected,
          f.3,
          ap (λ (s : ThreadState). s.steps) b.1,
        ),
      ))

  frees : (expected seen : ℕ) → FitsHandOver l base a access.Upgradable (handing.Free expected) st
      → Step (Exchange expected (without_right access.Upgradable expected)) seen
      → Reach access.Upgradable (if seen == expected then released access.Upgradable bumps else At
      (HandOver access.Upgradable bumps (looked seen)))
  frees expected seen f b = dite (ℕ_discrete seen expected)
      (λ same. subst (λ (t : Bool). Reach access.Upgradable (if t then released access.Upgradable bumps
      else At (HandOver access.Upgradable bumps (looked seen)))) (sym (eq-eqb seen expected same))
      (freed expected f (subst (Step (Exchange expected (without_right access.Upgradable expected))) same b)))
      (λ ne. subst (λ (t : Bool). Reach access.Upgradable (if t then released access.Upgradable bumps
      else At (HandOver access.Upgradable bumps (looked seen)))) (sym (ne_eqb seen expected ne))
      (looked_comes seen (looks (Exchange expected (without_right access.Upgradable expected)) seen
      (missed_same expected (without_right access.Upgradable expected) seen ne) b f.0) (inside_of _ b.1
      ∙ f.1) (saw (Exchange expected (without_right access.Upgradable expected)) seen b f.0)))

  module _ (k : Taken) (expected : ℕ) (f : FitsHandOver l base a access.Upgradable
      (handing.Exchange k expected) st) where
    -- another value was there
    missed : (m seen : ℕ) → seen ≢ expected → Step (Exchange expected m) seen
        → Reach access.Upgradable (At (HandOver access.Upgradable bumps (handing.Exchange k seen)))
    missed m seen ne b = goes access.Upgradable (handing.Exchange k seen) tt (
      looks (Exchange expected m) seen (missed_same expected m seen ne) b f.0,
      (f.1.0, f.1.1, inside_of _ b.1 ∙ f.1.2),
      saw (Exchange expected m) seen b f.0,
    )

    abbrev Goes : ℕ → Bool → Type 0
    Goes seen t = Reach access.Upgradable
        (if t then At (HandOver access.Upgradable bumps (handing.Leave (any_taken k)
        (has_room a.limit k seen))) else At (HandOver access.Upgradable bumps (handing.Exchange k seen)))

    -- the value that the exchange expected was there
    there : (seen : ℕ) (given : Bool) → seen ≡ expected → has_room a.limit k expected ≡ given
        → IsBeside l base new.owns → HasPicked l a f.1.0 (still_rightless given f.1.0) new.inside
        → Goes seen (seen == expected)
    there seen given same e beside picked = subst (Goes seen) (sym (eq-eqb seen expected same))
        (subst (λ (t : Bool). Reach access.Upgradable
        (At (HandOver access.Upgradable bumps (handing.Leave (any_taken k) t))))
        (sym (ap (has_room a.limit k) same ∙ e))
        (handed_over access.Upgradable k given (may_leave given) f.1.0 f.1.1 beside picked))
      where
        may_leave : (given : Bool) → IsHandingPlace access.Upgradable (handing.Leave (any_taken k) given)
        may_leave given = tt

    abbrev op : Op
    op = Exchange expected (with_taken access.Upgradable k expected)

    abbrev after_hand : ThreadState
    after_hand = stage (owns_when_handed kinds.RwLock (rwlock_at l) op expected (wanted_in st.inside) st.owns)
        (all_given st.inside) None (st.steps ++ step (rwlock_at l) op expected)

    hands : (seen : ℕ) → has_room a.limit k expected ≡ true → CodesWith kinds.RwLock (rwlock_at l) seen
        st.owns → new ≡ stage_handed kinds.RwLock (rwlock_at l)
        (Exchange expected (with_taken access.Upgradable k expected)) seen st → Goes seen (seen == expected)
    hands seen fits code e = dite (ℕ_discrete seen expected)
        (λ same. won same (subst (λ (s : ℕ). CodesWith kinds.RwLock (rwlock_at l) s st.owns) same code)
        (e ∙ ap (λ (s : ℕ). stage_handed kinds.RwLock (rwlock_at l) op s st) same
        ∙ ap (λ (t : Bool). if t then after_hand else stepped kinds.RwLock (rwlock_at l) op expected st)
        (eq-eqb expected expected refl)))
        (λ ne. subst (Goes seen) (sym (ne_eqb seen expected ne))
        (missed (with_taken access.Upgradable k expected) seen ne (
          code,
          e ∙ ap (λ (t : Bool). if t then stage (owns_when_handed kinds.RwLock (rwlock_at l) op seen
              (wanted_in st.inside) st.owns) (all_given st.inside) None (st.steps ++ step (rwlock_at l) op
              seen)
              else stepped kinds.RwLock (rwlock_at l) op seen st) (ne_eqb seen expected ne),
        )))
      where
        won : seen ≡ expected → CodesWith kinds.RwLock (rwlock_at l) expected st.owns → new ≡ after_hand
            → Goes seen (seen == expected)
        won same code e = let mine = has_right l owners.Upgradable base st.owns f.0 in
            let owns : new.owns ≡ without (owning (rwlock_at l) owners.Upgradable) st.owns = owns_of _ e
            ∙ ap (λ (i : Option SectionView). owns_when_handed kinds.RwLock (rwlock_at l) op expected
            (wanted_in i) st.owns) f.1.2 ∙ exchange_leaves (rwlock_at l) st.owns mine expected f.2 a.limit
            room (wants_of f.1.0) k f.1.1 fits code in
            there seen true same fits (subst (IsBeside l base) (sym owns) (left_beside l owners.Upgradable
            base st.owns f.0)) (inside_of _ e ∙ ap all_given f.1.2)

    gives : (seen : ℕ) → has_room a.limit k expected ≡ false
        → Step (Exchange expected (parked_as k.none_left (without_right access.Upgradable expected))) seen
        → Goes seen (seen == expected)
    gives seen full b = dite (ℕ_discrete seen expected)
        (λ same. won same (subst (Step
        (Exchange expected (parked_as k.none_left (without_right access.Upgradable expected)))) same b))
        (λ ne. subst (Goes seen) (sym (ne_eqb seen expected ne))
        (missed (parked_as k.none_left (without_right access.Upgradable expected)) seen ne b))
      where
        won : seen ≡ expected → Step (Exchange expected (parked_as k.none_left
            (without_right access.Upgradable expected))) expected → Goes seen (seen == expected)
        won same b = let mine = has_right l owners.Upgradable base st.owns f.0 in
            let owns : new.owns ≡ without (owning (rwlock_at l) owners.Upgradable) st.owns = owns_of _ b.1
            ∙ owns_given_up (rwlock_at l) st.owns mine expected f.2 (parked_as k.none_left
            (without_right access.Upgradable expected)) (given_word expected f.2 k.none_left) b.0 in
            there seen false same full (subst (IsBeside l base) (sym owns)
            (left_beside l owners.Upgradable base st.owns f.0)) (inside_of _ b.1 ∙ f.1.2)

    by_room : (r : Bool) → has_room a.limit k expected ≡ r → (reply : Reply)
        → Became up rwlocks (at_rwlock l)
        (sleeper_at (RwLock l a (HandOver access.Upgradable bumps (handing.Exchange k expected)))) st
        (if r then act.HandOver l (Exchange expected (with_taken access.Upgradable k expected))
        else act.Word l (Exchange expected
        (parked_as k.none_left (without_right access.Upgradable expected)))) reply new
        → Reach access.Upgradable (hand_over_next a access.Upgradable bumps (handing.Exchange k expected)
        reply)
    by_room true fits (Value seen) b = hands seen fits b.0 b.1
    by_room false full (Value seen) b = gives seen full b
    by_room true fits reply b = absurd b
    by_room false full reply b = absurd b

  upgradable_leads : (to : HandOverAt) → IsHandingPlace access.Upgradable to
      → FitsHandOver l base a access.Upgradable to st → (reply : Reply) → Became up rwlocks (at_rwlock l)
      (sleeper_at (RwLock l a (HandOver access.Upgradable bumps to))) st (hand_over_act l a access.Upgradable
      to) reply new → Reach access.Upgradable (hand_over_next a access.Upgradable bumps to reply)
  upgradable_leads handing.Load h f (Value seen) b = looked_comes seen (looks Load seen refl b f.0)
      (inside_of _ b.1 ∙ f.1) (saw Load seen b f.0)
  upgradable_leads (handing.Free expected) h f (Value seen) b = frees expected seen f b
  upgradable_leads handing.Enter h f Done b = goes access.Upgradable handing.Take tt
      (keeps_right wants.Upgradable (owns_of _ b) f.0, inside_of _ b)
  upgradable_leads handing.Take h f (Picked n y none_left) b = goes access.Upgradable (handing.Look (record {
    sharers = n;
    successor = y;
    none_left = none_left;
  })) tt (
    keeps_right wants.Upgradable b.1 f.0,
    took_these access.Upgradable n y none_left b.0.0 (taken_by b.0.0 n y none_left b.0.1 b.0.2 b.0.4 b.0.5)
        f.1 b.0.3,
  )
  upgradable_leads (handing.Look k) h f (Value seen) b = goes access.Upgradable (handing.Exchange k seen) tt
      (looks Load seen refl b f.0, (f.1.0, f.1.1, inside_of _ b.1 ∙ f.1.2), saw Load seen b f.0)
  upgradable_leads (handing.Exchange k expected) h f reply b =
      by_room k expected f (has_room a.limit k expected) refl reply b
  upgradable_leads (handing.Leave any given) h f Done b = left_section access.Upgradable any given h f b.0 b.1
      b.2
  upgradable_leads handing.Take h f reply b = absurd b.0
  upgradable_leads (handing.Store k) h f reply b = absurd h
  upgradable_leads to h f reply b = absurd b

  pub hand_over_leads : (x : Access) (to : HandOverAt) → IsHandingPlace x to → FitsHandOver l base a x to st
      → (reply : Reply) → Became up rwlocks (at_rwlock l) (sleeper_at (RwLock l a (HandOver x bumps to))) st
      (hand_over_act l a x to) reply new → Reached up base (RwLock l a (HandOver x bumps to)) reply new
  hand_over_leads access.Upgradable to h f reply b = upgradable_leads to h f reply b
  hand_over_leads access.Exclusive to h f reply b = exclusive_leads to h f reply b
  hand_over_leads access.Shared to h f reply b = absurd h
