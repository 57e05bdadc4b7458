-- A whole reader-writer call: its first step, and the rest of it.
use Rattle.std.proofs.Common.{ℕ, List, [], ◌++◌, Some, None, ◌≡◌, ◌⊎◌, ◌-◌, ◌^◌, ◌<◌, inl, inr, refl, ap, ◌∙◌}
use Rattle.std.proofs.Common.{sym, subst}
use Rattle.std.proofs.lemmas.List.{append-nil}
use Rattle.core_base.specs.declared.ops.Op.{Op}
use Rattle.spec_locks.specs.declared.outcomes.Answer.{Answer}
use Rattle.spec_locks.specs.declared.outcomes.Answer.TheVariants as answers
use Rattle.spec_locks.specs.declared.calls.Access.{Access}
use Rattle.spec_locks.specs.declared.calls.Access.TheVariants as access
use Rattle.spec_locks.specs.declared.calls.Patience.{Patience}
use Rattle.spec_locks.specs.declared.calls.Patience.TheVariants.{Patient, Timed, Try}
use Rattle.steps_base.specs.declared.acts.Next.{Next}
use Rattle.steps_base.specs.declared.acts.Next.TheVariants.{At, End}
use Rattle.steps_base.specs.declared.acts.Reply.TheVariants.{Value}
use Rattle.steps_rwlock.specs.RwLockBegins.{rwlock_first}
use Rattle.steps_rwlock.specs.RwLockSteps.{entered, rwlock_next, wanted}
use Rattle.steps_rwlock.specs.declared.places.Admission.{Admission}
use Rattle.steps_rwlock.specs.declared.places.RwLockPlace.{RwLockPlace}
use Rattle.steps_rwlock.specs.declared.purposes.RwLockPurpose.{RwLockPurpose}
use Rattle.steps_rwlock.specs.declared.purposes.RwLockPurpose.TheVariants as purpose
use Rattle.lot_steps.specs.Steps.{next_act, next_place, rwlock_does, rwlock_goes}
use Rattle.lot_steps.specs.declared.places.Place.{Place}
use Rattle.steps_rwlock_fair.specs.FairSteps.{plain_next}
use Rattle.core_words.specs.Indices.{word_index}
use Rattle.core_words.specs.Steps.{CodesWith, MayStep, after_step}
use Rattle.core_words.specs.declared.owners.Ownership.{Ownership}
use Rattle.core_words.specs.declared.views.View.{View}
use Rattle.core_words.specs.declared.views.WordStep.{WordStep}
use Rattle.core_words.specs.declared.words.Word.{Word}
use Rattle.core_words.specs.declared.words.WordKind.{WordKind}
use Rattle.core_words.specs.declared.words.WordKind.TheVariants as kinds
use Rattle.parking_lot_core.specs.Tokens.{view_of, last_of, told_of}
use Rattle.parking_lot_core.specs.declared.tokens.Token.{Token}
use Rattle.run_base.specs.Fitting.{CallPurpose, AreWordsFor, Fits, IsOver, call_purpose, answer_of, of_rwlock}
use Rattle.run_base.specs.Courses.{Courses, trail_of}
use Rattle.run_base.specs.Paths.{at_rwlock, rwlock_at, rwlocks, step}
use Rattle.run_base.specs.RwLockCalls.{AnswersCall, BeginsWith, HasWalkedRwLock, TookUnlessEnded, Wakes}
use Rattle.run_base.specs.RwLockCalls.{WakesBy, first_op, rwlock_begin}
use Rattle.run_base.specs.RwLockFitting.{Answers, IsBeside, IsCounted, IsRwLockOver, LeftBy, MayGiveUp}
use Rattle.run_base.specs.RwLockFitting.{OwnsRight, TookWoken}
use Rattle.run_base.specs.Stages.{ThreadState, Stepped, stage_of}
use Rattle.run_base.specs.Telling.{steps_of}
use Rattle.run_base.specs.Words.{single_word, at_in, kind_in}
use Rattle.run_base.proofs.Ending.{end_of}
use Rattle.run_base.proofs.Courses.{courses_after, one_more, over_at_once}
use Rattle.run_base.proofs.RwLockBeginning.{Begun, begins_with, begun, may_begin}
use Rattle.run_base.proofs.RwLockGoing as leading
use Rattle.run_base.proofs.Turning.{by_stage, words_on}
use Rattle.run_base.proofs.Unqueued.{after_begin}

module _ (word : Word) (is : word.kind ≡ kinds.RwLock) where
  pub rwlock_kinds : kind_in (single_word word) ≡ rwlocks
  rwlock_kinds = ap {B = ℕ → WordKind} (λ (kind : WordKind) (lock : ℕ). kind) is

  pub rwlock_alone : at_in (single_word word) ≡ at_rwlock word.number
  rwlock_alone = ap {B = ℕ → ℕ} (λ (kind : WordKind) (lock : ℕ). word_index word.number kind) is

  pub words_after : (a : Admission) (c : RwLockPurpose) (seen : ℕ) → word.number < 9223372036854775808
      → AreWordsFor (next_place (rwlock_begin word.number a c) (Value seen)) (kind_in (single_word word))
      (at_in (single_word word))
  words_after a c seen small = words_on (rwlock_begin word.number a c) (Value seen)
      (kind_in (single_word word)) (at_in (single_word word)) (small, rwlock_kinds, rwlock_alone)

  -- a thread that has the right that its call needs takes its first step
  pub may_start : (c : RwLockPurpose) (op : Op) (base owns : List Ownership) → op ≡ first_op c
      → BeginsWith word.number c base owns → MayStep word.kind (word_index word.number word.kind) op owns
  may_start c op base owns e b = subst (λ (k : WordKind). MayStep k (word_index word.number k) op owns)
      (sym is) (subst (λ (o : Op). MayStep kinds.RwLock (rwlock_at word.number) o owns) (sym e)
      (may_begin word.number c base owns b))

  -- the step, as the stages have it
  pub started : (c : RwLockPurpose) (op : Op) (seen : ℕ) (old new : Token) → op ≡ first_op c
      → view_of new ≡ after_step word.kind (word_index word.number word.kind) op seen (view_of old)
      → last_of new ≡ None → CodesWith word.kind (word_index word.number word.kind) seen (view_of old).owns
      → Stepped kinds.RwLock (rwlock_at word.number) (first_op c) seen (stage_of old None) (stage_of new None)
  started c op seen old new e stepped last code =
      subst (λ (k : WordKind). Stepped k (word_index word.number k) (first_op c) seen (stage_of old None)
      (stage_of new None)) is
      (subst (λ (o : Op). Stepped word.kind (word_index word.number word.kind) o seen (stage_of old None)
      (stage_of new None)) e (by_stage word op seen old None new stepped last code))

  pub saw : (c : RwLockPurpose) (op : Op) (seen : ℕ) (old new : Token) → op ≡ first_op c → view_of new
      ≡ after_step word.kind (word_index word.number word.kind) op seen (view_of old) → (view_of new).steps
      ≡ (view_of old).steps ++ step (rwlock_at word.number) (first_op c) seen
  saw c op seen old new e stepped = ap (λ (v : View). v.steps) stepped
      ∙ ap (λ (k : WordKind). (view_of old).steps ++ step (word_index word.number k) op seen) is
      ∙ ap (λ (o : Op). (view_of old).steps ++ step (rwlock_at word.number) o seen) e

some_none : {A B : Type 0} {x : A} → Some x ≡ None → B
some_none e = absurd cc

module _ (up : Type 0) (l : ℕ) (a : Admission) (base : List Ownership) (c : RwLockPurpose)
    (st new : ThreadState)
    (seen : ℕ) (outside : st.inside ≡ None) (room : a.limit < 2 ^ 60 - 1) where
  abbrev after : Next RwLockPlace
  after = rwlock_next a (rwlock_first c) (Value seen)

  begun_here : BeginsWith l c base st.owns → Stepped kinds.RwLock (rwlock_at l) (first_op c) seen st new
      → Begun up l a base st new seen outside room c (rwlock_next a (rwlock_first c) (Value seen))
  begun_here b s = begun up l a base st new seen outside room c b s

  -- where it goes on it fits, and what it is for stays
  pub fits_on : BeginsWith l c base st.owns → Stepped kinds.RwLock (rwlock_at l) (first_op c) seen st new
      → answer_of (next_act (rwlock_begin l a c) (Value seen)) ≡ None
      → Fits up base (next_place (rwlock_begin l a c) (Value seen)) new
      × (call_purpose (next_place (rwlock_begin l a c) (Value seen)) ≡ of_rwlock l a c)
  fits_on b s none = by_next (rwlock_next a (rwlock_first c) (Value seen)) (begun_here b s) none
    where
      by_next : (n : Next RwLockPlace) → Begun up l a base st new seen outside room c n
          → answer_of (rwlock_does l a (plain_next n)) ≡ None → Fits up base (rwlock_goes l a (plain_next n))
          new × (call_purpose (rwlock_goes l a (plain_next n)) ≡ of_rwlock l a c)
      by_next (At p) k none = (k.0, ap (of_rwlock l a) k.1)
      by_next (End answer) k none = some_none none

  -- where it goes on it has not ended
  pub unfinished : BeginsWith l c base st.owns → Stepped kinds.RwLock (rwlock_at l) (first_op c) seen st new
      → (p : RwLockPlace) × (rwlock_next a (rwlock_first c) (Value seen) ≡ At p)
      → answer_of (next_act (rwlock_begin l a c) (Value seen)) ≡ None
  unfinished b s at = by_next (rwlock_next a (rwlock_first c) (Value seen)) (begun_here b s) at.1
    where
      by_next : (n : Next RwLockPlace) → Begun up l a base st new seen outside room c n → n ≡ At at.0
          → answer_of (rwlock_does l a (plain_next n)) ≡ None
      by_next (At p) k e = (leading.goes_on l a p k.0.stands).0
      by_next (End answer) k e = absurd cc

  -- where it ended, its answer is right
  pub ended_on : (answer : Answer) → BeginsWith l c base st.owns → Stepped kinds.RwLock (rwlock_at l)
      (first_op c) seen st new → answer_of (next_act (rwlock_begin l a c) (Value seen)) ≡ Some answer
      → AnswersCall up l base a c answer new × (rwlock_next a (rwlock_first c) (Value seen) ≡ End answer)
  ended_on answer b s some = by_next (rwlock_next a (rwlock_first c) (Value seen)) refl (begun_here b s) some
    where
      by_next : (n : Next RwLockPlace) → rwlock_next a (rwlock_first c) (Value seen) ≡ n
          → Begun up l a base st new seen outside room c n → answer_of (rwlock_does l a (plain_next n))
          ≡ Some answer → AnswersCall up l base a c answer new
          × (rwlock_next a (rwlock_first c) (Value seen) ≡ End answer)
      by_next (At p) e k some = some_none (sym some ∙ (leading.goes_on l a p k.0.stands).0)
      by_next (End x) e k some = let same : x ≡ answer = cc
          in (
            subst (λ (y : Answer). AnswersCall up l base a c y new) same k.1,
            e
                ∙ ap (λ (y : Answer). End y) same,
          )

-- an answer at the end of a call tells of the rights
pub over_call : (up : Type 0) (l : ℕ) (base : List Ownership) (a : Admission) (q : RwLockPurpose)
    (answer : Answer) (st : ThreadState) → IsRwLockOver up l base a q answer st
    → AnswersCall up l base a q answer
    st
over_call up l base a (purpose.Release x) answer st h = (h.1.0, h.1.1)
over_call up l base a (purpose.Downgrade d) answer st h = (h.1.0, h.1.1)
over_call up l base a (purpose.Enter x how) answer st h = h.1
over_call up l base a (purpose.Upgrade how) answer st h = h.1

-- a release or a downgrade that its first step ended woke nobody, and another took those that it wakes
pub wakes_at_once : (l : ℕ) (a : Admission) (c : RwLockPurpose) (seen : ℕ) (answer : Answer) (old new : Token)
    → (view_of new).steps ≡ (view_of old).steps ++ step (rwlock_at l) (first_op c) seen → last_of new ≡ None
    → rwlock_next a (rwlock_first c) (Value seen) ≡ End answer → WakesBy l a c old new
wakes_at_once l a c seen answer old new saw last ends = by_call c saw ends
  where
    none : (d : RwLockPurpose) → (view_of new).steps ≡ (view_of old).steps ++ step (rwlock_at l) (first_op d)
        seen → rwlock_next a (rwlock_first d) (Value seen) ≡ End answer → Wakes l a d (view_of old).steps
        (view_of new).steps (last_of new)
    none d saw ends = (
      seen,
      [],
      saw
          ∙ sym (append-nil ((view_of old).steps ++ step (rwlock_at l) (first_op d) seen)),
      subst (λ (n : Next RwLockPlace). TookUnlessEnded l a d n [] (last_of new)) (sym ends) (refl, last),
    )

    by_call : (d : RwLockPurpose) → (view_of new).steps ≡ (view_of old).steps ++ step (rwlock_at l)
        (first_op d) seen → rwlock_next a (rwlock_first d) (Value seen) ≡ End answer → WakesBy l a d old new
    by_call (purpose.Release x) saw ends = none (purpose.Release x) saw ends
    by_call (purpose.Downgrade d) saw ends = none (purpose.Downgrade d) saw ends
    by_call (purpose.Enter x how) saw ends = tt
    by_call (purpose.Upgrade how) saw ends = tt

pub wakes_later : (up : Type 0) (l : ℕ) (base : List Ownership) (a : Admission) (c : RwLockPurpose) (seen : ℕ)
    (answer : Answer) (old mid new : Token) → (view_of mid).steps ≡ (view_of old).steps ++ step (rwlock_at l)
    (first_op c) seen → (more : List WordStep) → (view_of new).steps ≡ (view_of mid).steps ++ more
    → answer_of (next_act (rwlock_begin l a c) (Value seen)) ≡ None → IsRwLockOver up l base a c answer
    (stage_of new None) → WakesBy l a c old new
wakes_later up l base a c seen answer old mid new saw more rest none over = by_call c saw none over
  where
    took : (d : RwLockPurpose) (n : Next RwLockPlace) → answer_of (rwlock_does l a (plain_next n)) ≡ None
        → TookWoken l a d (last_of new) → TookUnlessEnded l a d n more (last_of new)
    took d (At p) none t = t
    took d (End x) none t = some_none none

    wakes : (d : RwLockPurpose) → (view_of mid).steps ≡ (view_of old).steps ++ step (rwlock_at l) (first_op d)
        seen → answer_of (next_act (rwlock_begin l a d) (Value seen)) ≡ None → TookWoken l a d (last_of new)
        → Wakes l a d (view_of old).steps (view_of new).steps (last_of new)
    wakes d saw none t = (
      seen,
      more,
      rest ∙ ap (λ (x : List WordStep). x ++ more) saw,
      took d (rwlock_next a (rwlock_first d) (Value seen)) none t,
    )

    by_call : (d : RwLockPurpose) → (view_of mid).steps ≡ (view_of old).steps ++ step (rwlock_at l)
        (first_op d) seen → answer_of (next_act (rwlock_begin l a d) (Value seen)) ≡ None
        → IsRwLockOver up l base a d answer (stage_of new None) → WakesBy l a d old new
    by_call (purpose.Release x) saw none over = wakes (purpose.Release x) saw none over.1.2
    by_call (purpose.Downgrade d) saw none over = wakes (purpose.Downgrade d) saw none over.1.2
    by_call (purpose.Enter x how) saw none over = tt
    by_call (purpose.Upgrade how) saw none over = tt

-- the course of a call that its first step ended, and of one that went on
module _ (l : ℕ) (a : Admission) (c : RwLockPurpose) (seen : ℕ) (answer : Answer) (old mid : Token)
    (saw : steps_of mid ≡ steps_of old ++ step (rwlock_at l) (first_op c) seen)
    (untold : told_of mid ≡ told_of old) where
  pub path_ended : answer_of (next_act (rwlock_begin l a c) (Value seen)) ≡ Some answer
      → HasWalkedRwLock l a c answer old mid
  path_ended some = over_at_once (at_rwlock l) old.number (rwlock_begin l a c) l (first_op c) seen
      (trail_of old None) (trail_of mid None) answer (begins_with l a c) (after_begin l a c seen)
      (one_more old mid (rwlock_at l) (first_op c) seen saw untold)
      (end_of (next_act (rwlock_begin l a c) (Value seen)) answer some)

  pub path_later : (new : Token) → mid.number ≡ old.number
      → Courses (at_rwlock l) mid.number (next_place (rwlock_begin l a c) (Value seen))
      (trail_of mid None) (trail_of new None) answer
      → HasWalkedRwLock l a c answer old new
  path_later new same rest = courses_after (at_rwlock l) old.number (rwlock_begin l a c) l (first_op c)
      seen (trail_of old None) (trail_of mid None) (trail_of new None) answer (begins_with l a c)
      (after_begin l a c seen) (one_more old mid (rwlock_at l) (first_op c) seen saw untold)
      (subst (λ (me : ℕ). Courses (at_rwlock l) me (next_place (rwlock_begin l a c) (Value seen))
      (trail_of mid None) (trail_of new None) answer) same rest)

-- each thread that enters begins with what it owns
pub begins_entering : (l : ℕ) (x : Access) (how : Patience) (owns : List Ownership)
    → BeginsWith l (purpose.Enter x how) owns owns
begins_entering l access.Shared how owns = λ settled. refl
begins_entering l access.Upgradable how owns = λ settled. refl
begins_entering l access.Exclusive how owns = λ settled. refl

no_entry : (how : Patience) → entered how ≡ answers.No → ⊥
no_entry Patient e = cc
no_entry Timed e = cc
no_entry Try e = cc

full_entry : (how : Patience) (answer : Answer) → answer ≡ entered how → (answer ≡ answers.Ok → ⊥)
    → (answer ≡ answers.Yes → ⊥) → ⊥
full_entry Patient answer e o y = o e
full_entry Timed answer e o y = y e
full_entry Try answer e o y = y e

module _ (up : Type 0) (l : ℕ) (base : List Ownership) (a : Admission) (x : Access) (how : Patience)
    (answer : Answer) (st : ThreadState) (h : Answers up l base a (purpose.Enter x how) answer st) where
  pub entered_right : (answer ≡ answers.Ok) ⊎ (answer ≡ answers.Yes) → (answer ≡ entered how)
      × OwnsRight l (wanted x) base st.owns
  entered_right which = elim h [
    | inl got ↦ got
    | inr (inl none) ↦ let n = none.0 in elim which [ inl o ↦ absurd cc | inr y ↦ absurd cc ]
    | inr (inr full) ↦ let n = full.0 in elim which [ inl o ↦ absurd cc | inr y ↦ absurd cc ]
  ]

  pub gave_up_may : answer ≡ answers.No → MayGiveUp up how × IsBeside l base st.owns
  gave_up_may is = elim h [
    | inl got ↦ absurd (no_entry how (sym got.0 ∙ is))
    | inr (inl none) ↦ (none.1, none.2)
    | inr (inr full) ↦ let n = full.0 in absurd cc
  ]

  pub gave_up_left : answer ≡ answers.No → LeftBy l a (purpose.Enter x how) st.last st.steps
  gave_up_left is = elim h [
    | inl got ↦ absurd (no_entry how (sym got.0 ∙ is))
    | inr (inl none) ↦ none.3
    | inr (inr full) ↦ let n = full.0 in absurd cc
  ]

  pub found_full : (answer ≡ answers.Ok → ⊥) → (answer ≡ answers.Yes → ⊥) → (answer ≡ answers.No → ⊥)
      → (answer ≡ answers.ReadersFull) × IsCounted x × IsBeside l base st.owns
  found_full o y n = elim h [
    | inl got ↦ absurd (full_entry how answer got.0 o y)
    | inr (inl none) ↦ absurd (n none.0)
    | inr (inr full) ↦ full
  ]

-- a call that goes on after its first step
module _ (up : Type 0) (word : Word) (is : word.kind ≡ kinds.RwLock) (a : Admission) (room : a.limit
    < 2 ^ 60 - 1) (c : RwLockPurpose) (op : Op) (seen : ℕ) (old mid : Token) (first : op ≡ first_op c)
    (stepped : view_of mid ≡ after_step word.kind (word_index word.number word.kind) op seen (view_of old))
    (last : last_of mid ≡ None)
    (code : CodesWith word.kind (word_index word.number word.kind) seen (view_of old).owns)
    (goes : (p : RwLockPlace) × (rwlock_next a (rwlock_first c) (Value seen) ≡ At p)) where
  abbrev next : Place
  next = next_place (rwlock_begin word.number a c) (Value seen)

  steps_saw : (view_of mid).steps ≡ (view_of old).steps ++ step (rwlock_at word.number) (first_op c) seen
  steps_saw = saw word is c op seen old mid first stepped

  start : Stepped kinds.RwLock (rwlock_at word.number) (first_op c) seen (stage_of old None)
      (stage_of mid None)
  start = started word is c op seen old mid first stepped last code

  none : (base : List Ownership) → BeginsWith word.number c base (view_of old).owns
      → answer_of (next_act (rwlock_begin word.number a c) (Value seen)) ≡ None
  none base b = unfinished up word.number a base c (stage_of old None) (stage_of mid None) seen refl room b
      start goes

  pub rest_fits : (base : List Ownership) → BeginsWith word.number c base (view_of old).owns
      → Fits up base next (stage_of mid None) × (call_purpose next ≡ of_rwlock word.number a c)
  rest_fits base b = fits_on up word.number a base c (stage_of old None) (stage_of mid None) seen refl room b
      start (none base b)

  module _ (answer : Answer) (new : Token) where
    pub rest_path : told_of mid ≡ told_of old → mid.number ≡ old.number
        → Courses (at_rwlock word.number) mid.number next (trail_of mid None) (trail_of new None) answer
        → HasWalkedRwLock word.number a c answer old new
    rest_path untold same rest = path_later word.number a c seen answer old mid steps_saw untold new same rest

    module _ (base : List Ownership) (b : BeginsWith word.number c base (view_of old).owns)
        (over : Fits up base next (stage_of mid None) → IsOver up base (call_purpose next) answer
        (stage_of new None)) where
      is_over : IsRwLockOver up word.number base a c answer (stage_of new None)
      is_over = subst (λ (aim : CallPurpose). IsOver up base aim answer (stage_of new None))
          (rest_fits base b).1 (over (rest_fits base b).0)

      pub rest_over : AnswersCall up word.number base a c answer (stage_of new None)
      rest_over = over_call up word.number base a c answer (stage_of new None) is_over

      pub rest_record : (more : List WordStep) → steps_of new ≡ steps_of mid ++ more
          → WakesBy word.number a c old new
      rest_record more rest = wakes_later up word.number base a c seen answer old mid new steps_saw more rest
          (none base b) is_over
