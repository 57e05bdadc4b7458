-- The acts of an owner that saw a waiter, and where they lead.
use Rattle.std.proofs.Common.{ℕ, ◌≡◌, ◌<◌, ◌*◌, ◌%◌, Bool, true, false, List, [], Option, Some, None, sym}
use Rattle.std.proofs.Common.{refl, ap, ◌∙◌, subst, arith}
use Rattle.core_base.specs.Lines.{threads_of}
use Rattle.core_base.specs.declared.keys.Keys.TheVariants.{One}
use Rattle.core_base.specs.declared.wants.Waiter.{Waiter}
use Rattle.core_base.specs.declared.notes.Note.TheVariants as note
use Rattle.core_base.specs.declared.ops.Op.TheVariants.{Store}
use Rattle.steps_mutex.specs.MutexSteps.{hand_off_act, hand_off_word}
use Rattle.steps_base.specs.declared.acts.Reply.{Reply}
use Rattle.steps_base.specs.declared.acts.Reply.TheVariants.{Done, Value, Took}
use Rattle.steps_mutex.specs.declared.places.MutexPlace.TheVariants.{HandOff}
use Rattle.steps_mutex.specs.declared.hand_off.HandOffAt.{HandOffAt}
use Rattle.steps_mutex.specs.declared.hand_off.HandOffAt.TheVariants as at
use Rattle.lot_steps.specs.declared.places.Place.TheVariants.{Mutex}
use Rattle.core_words.specs.Codes.{exclusive}
use Rattle.core_words.specs.Rights.{owners_given}
use Rattle.core_words.specs.Steps.{CodesWith, owns_after_step, has, without, without_all}
use Rattle.core_words.specs.Views.{owned}
use Rattle.core_words.specs.declared.owners.Owner.TheVariants.{Exclusive}
use Rattle.core_words.specs.declared.owners.Ownership.{Ownership}
use Rattle.core_words.specs.declared.words.WordKind.TheVariants as kinds
use Rattle.core_words.proofs.MutexSteps.{mutex_steps, each_code}
use Rattle.core_words.proofs.Trades.{owned_some}
use Rattle.parking_lot_core.specs.declared.tokens.Did.TheVariants.{TakeFirst}
use Rattle.run_base.specs.Fitting.{Reached, sleeper_at}
use Rattle.run_base.specs.MutexFitting.{FitsHandOff, mutex_ownership}
use Rattle.run_base.specs.Paths.{mutex_at, mutexes, at_mutex}
use Rattle.run_base.specs.Stages.{ThreadState, SectionView, ActNeeds, Became, HasKey, HandsEach, IsFresh}
use Rattle.run_base.specs.Stages.{IsUngiven}
use Rattle.run_base.specs.Stages.{MayLeave, is_there, listed, having_taken, took_as, all_given, wanted_in}
use Rattle.run_base.proofs.Leaving.{has_done}

-- an owner finds the word locked
pub finds_locked : (n seen : ℕ) (owns : List Ownership) → has (mutex_ownership n) owns ≡ true
    → CodesWith kinds.Mutex (mutex_at n) seen owns → seen % 2 ≡ 1
finds_locked n seen owns there code = let mine : 0 < owned (mutex_at n) exclusive owns =
    owned_some (mutex_at n) Exclusive owns there exclusive (omega arith) in let counted = code.2 exclusive
    in let locked = code.1.2 in omega arith

small_word : (none_left : Bool) → hand_off_word true none_left < 4
small_word true = omega arith
small_word false = omega arith

-- the store that hands over leaves the word locked, and the other one doesn't
kept : (n : ℕ) (none_left : Bool) (seen : ℕ) → seen < 4 → seen % 2 ≡ 1 → (owns : List Ownership)
    → owns_after_step kinds.Mutex (mutex_at n) (Store (hand_off_word true none_left)) seen owns
    ≡ owns
kept n true = each_code (λ s. s % 2 ≡ 1 → (owns : List Ownership) → owns_after_step kinds.Mutex
    (mutex_at n) (Store 1) s owns ≡ owns) (λ odd. absurd (omega arith)) (λ odd owns. refl)
    (λ odd. absurd (omega arith)) (λ odd owns. refl)
kept n false = each_code (λ s. s % 2 ≡ 1 → (owns : List Ownership) → owns_after_step kinds.Mutex
    (mutex_at n) (Store 3) s owns ≡ owns) (λ odd. absurd (omega arith)) (λ odd owns. refl)
    (λ odd. absurd (omega arith)) (λ odd owns. refl)

freed : (n seen : ℕ) → seen < 4 → seen % 2 ≡ 1 → (owns : List Ownership)
    → owns_after_step kinds.Mutex (mutex_at n) (Store 0) seen owns ≡ without (mutex_ownership n)
    owns
freed n = each_code (λ s. s % 2 ≡ 1 → (owns : List Ownership) → owns_after_step kinds.Mutex
    (mutex_at n) (Store 0) s owns ≡ without (mutex_ownership n) owns) (λ odd. absurd (omega arith))
    (λ odd owns. refl) (λ odd. absurd (omega arith)) (λ odd owns. refl)

module _ (n : ℕ) (base : List Ownership) (st : ThreadState) where
  -- the store leaves its thread with the mutex
  abbrev Gives : ℕ → Type 0
  Gives word = (seen : ℕ) → CodesWith kinds.Mutex (mutex_at n) seen st.owns
      → has (mutex_ownership n) (owns_after_step kinds.Mutex (mutex_at n) (Store word) seen
      st.owns) ≡ true

  there_now : has (mutex_ownership n) base ≡ true → st.owns ≡ base → has (mutex_ownership n) st.owns ≡ true
  there_now there same = subst (λ (o : List Ownership). has (mutex_ownership n) o ≡ true) (sym same) there

  pub hand_off_needs : (at : HandOffAt) → FitsHandOff n base at st → ActNeeds mutexes (at_mutex n) st
      (hand_off_act n at)
  hand_off_needs at.Enter f = (tt, f.1.1)
  hand_off_needs at.Take f = (subst (HasKey (2 * n)) (sym f.1.1) refl, subst IsFresh (sym f.1.1) refl)
  hand_off_needs (at.Store false none_left) f = (mutex_steps (mutex_at n) st.owns).hand_over 0 (omega arith)
      (there_now f.0 f.1.2.0)
  hand_off_needs (at.Store true none_left) f = let there = there_now f.0 f.1.2.0 in
      let gives : Gives (hand_off_word true none_left) = λ seen code. subst
      (λ (o : List Ownership). has (mutex_ownership n) o ≡ true)
      (sym (kept n none_left seen code.1.0 (finds_locked n seen st.owns there code) st.owns)) there in
      let one = by_first f.1.0 f.1.1 f.1.2.1 (hand_off_word true none_left) gives in (
        (mutex_steps (mutex_at n) st.owns).hand_over (hand_off_word true none_left) (small_word none_left)
            there,
        one.0,
        one.1,
      )
    where
      by_first : (first : Option Waiter) → true ≡ is_there first → st.inside
          ≡ Some (having_taken (One (2 * n)) (TakeFirst (2 * n)) (listed first) (threads_of (listed first)))
          → (word : ℕ) → Gives word → IsUngiven st.inside × HandsEach kinds.Mutex (mutex_at n)
          (Store word) st.owns (wanted_in st.inside)
      by_first None e i word gives = absurd cc
      by_first (Some to) e i word gives = (
        subst IsUngiven (sym i) refl,
        subst (λ (x : Option SectionView). HandsEach kinds.Mutex (mutex_at n) (Store word) st.owns
            (wanted_in x)) (sym i) (λ seen code won. (gives seen code, tt)),
      )
  hand_off_needs (at.Leave false) f = by_none f.0 f.1 f.2.1
    where
      by_none : (first : Option Waiter) → false ≡ is_there first → st.inside
          ≡ Some (having_taken (One (2 * n)) (TakeFirst (2 * n)) (listed first) [])
          → MayLeave note.Normal st.inside
      by_none None e i = subst (MayLeave note.Normal) (sym i) refl
      by_none (Some to) e i = absurd cc
  hand_off_needs (at.Leave true) f = subst (MayLeave note.HandOff) (sym f.2.1) refl

  module _ (up : Type 0) (new : ThreadState) (bumps : Bool) where
    owns_of : (s : ThreadState) → new ≡ s → new.owns ≡ s.owns
    owns_of s e = ap (λ (x : ThreadState). x.owns) e

    inside_of : (s : ThreadState) → new ≡ s → new.inside ≡ s.inside
    inside_of s e = ap (λ (x : ThreadState). x.inside) e

    pub hand_off_leads : (at : HandOffAt) → FitsHandOff n base at st → (reply : Reply)
        → Became up mutexes (at_mutex n) (sleeper_at (Mutex n (HandOff bumps at))) st (hand_off_act n at)
        reply new → Reached up base (Mutex n (HandOff bumps at)) reply new
    hand_off_leads at.Enter f Done b = ((f.0, (owns_of _ b ∙ f.1.0, inside_of _ b)), refl)
    hand_off_leads at.Take f (Took true left) b = (
      (f.0, (b.0.0, b.0.1, (b.1 ∙ f.1.0, b.0.2 ∙ ap (took_as (TakeFirst (2 * n)) (listed b.0.0)) f.1.1))),
      refl,
    )
    hand_off_leads at.Take f (Took false left) b = (
      (f.0, (b.0.0, b.0.1, (b.1 ∙ f.1.0, b.0.2 ∙ ap (took_as (TakeFirst (2 * n)) (listed b.0.0)) f.1.1))),
      refl,
    )
    hand_off_leads (at.Store false left) f (Value seen) b = let odd = finds_locked n seen st.owns
        (there_now f.0 f.1.2.0) b.0 in (
          (
            f.1.0,
            f.1.1,
            (
              owns_of _ b.1 ∙ freed n seen b.0.1.0 odd st.owns ∙ ap (without (mutex_ownership n))
                  f.1.2.0,
              inside_of _ b.1 ∙ f.1.2.1 ∙ none_listed f.1.0 f.1.1,
            ),
          ),
          refl,
        )
      where
        none_listed : (first : Option Waiter) → false ≡ is_there first → ◌≡◌ {A = Option SectionView}
            (Some (having_taken (One (2 * n)) (TakeFirst (2 * n)) (listed first) (threads_of (listed first))))
            (Some (having_taken (One (2 * n)) (TakeFirst (2 * n)) (listed first) []))
        none_listed None e = refl
        none_listed (Some to) e = absurd cc
    hand_off_leads (at.Store true left) f (Value seen) b = let odd = finds_locked n seen st.owns
        (there_now f.0 f.1.2.0) b.0 in
        let word = hand_off_word true left in let owns = owns_after_step kinds.Mutex (mutex_at n)
        (Store (hand_off_word true left)) seen st.owns in (
          (
            f.1.0,
            f.1.1,
            (
              owns_of _ b.1 ∙ one_given f.1.0 f.1.1 f.1.2.1 word owns
                  ∙ ap (without (mutex_ownership n)) (kept n left seen b.0.1.0 odd st.owns ∙ f.1.2.0),
              inside_of _ b.1 ∙ ap all_given f.1.2.1,
            ),
          ),
          refl,
        )
      where
        one_given : (first : Option Waiter) → true ≡ is_there first → st.inside
            ≡ Some (having_taken (One (2 * n)) (TakeFirst (2 * n)) (listed first) (threads_of (listed first)))
            → (word : ℕ) (owns : List Ownership) → without_all (mutex_at n)
            (owners_given kinds.Mutex word (wanted_in st.inside)) owns ≡ without
            (mutex_ownership n) owns
        one_given None e i word owns = absurd cc
        one_given (Some to) e i word owns =
            ap (λ (x : Option SectionView). without_all (mutex_at n) (owners_given kinds.Mutex
            word (wanted_in x)) owns) i
    hand_off_leads (at.Leave any) f Done b = left_by bumps
      where
        left_by : (bumps : Bool) → Reached up base (Mutex n (HandOff bumps (at.Leave any))) Done new
        left_by true = ((b.0 ∙ f.2.0, b.1), refl)
        left_by false = (refl, (b.0 ∙ f.2.0, b.1), has_done _ _ _ f.2.1 b.2)
    hand_off_leads at.Take f reply b = absurd b.0
    hand_off_leads at f reply b = absurd b
