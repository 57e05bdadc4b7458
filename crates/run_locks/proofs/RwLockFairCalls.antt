-- The first steps of fair releases and bumps, and the rest of them.
use Rattle.std.proofs.Common.{inl, inr, ℕ, Bool, true, false, List, [], ◌++◌, Option, Some, None}
use Rattle.std.proofs.Common.{if◌then◌else◌, ◌≡◌, ◌≢◌, ◌-◌, ◌/◌, ◌^◌, ◌<◌, refl, ap, ◌∙◌, sym, subst, arith}
use Rattle.std.proofs.Common.{eq-eqb, ne_eqb}
use Rattle.std.proofs.lemmas.List.{append-nil}
use Rattle.core_base.specs.Words.{apply}
use Rattle.core_base.specs.declared.ops.Op.{Op}
use Rattle.core_base.specs.declared.ops.Op.TheVariants.{Load, Exchange}
use Rattle.core_base.specs.declared.wants.Want.TheVariants as wants
use Rattle.spec_locks.specs.declared.calls.Access.{Access}
use Rattle.spec_locks.specs.declared.calls.Access.TheVariants as access
use Rattle.spec_locks.specs.declared.calls.Patience.TheVariants.{Patient}
use Rattle.spec_locks.specs.declared.outcomes.Answer.{Answer}
use Rattle.spec_locks.specs.declared.outcomes.Answer.TheVariants.{Ok, ReadersFull}
use Rattle.spec_locks.specs.Sites.{Has}
use Rattle.steps_base.specs.declared.acts.Next.{Next}
use Rattle.steps_base.specs.declared.acts.Next.TheVariants.{At, End}
use Rattle.steps_rwlock.specs.RwLockSteps.{wanted}
use Rattle.steps_rwlock.specs.declared.places.Admission.{Admission}
use Rattle.steps_rwlock.specs.declared.purposes.RwLockPurpose.TheVariants as purpose
use Rattle.steps_rwlock_fair.specs.FairSteps.{gives_up_at, gives_way, glance_next}
use Rattle.steps_rwlock_fair.specs.declared.hand_over.HandOverAt.TheVariants as handing
use Rattle.steps_rwlock_fair.specs.declared.places.RwLockCallPlace.{RwLockCallPlace}
use Rattle.steps_rwlock_fair.specs.declared.places.RwLockCallPlace.TheVariants.{PeekQueue, HandOver}
use Rattle.steps_base.specs.declared.acts.Reply.TheVariants.{Value}
use Rattle.lot_steps.specs.Steps.{next_place, rwlock_does, rwlock_goes}
use Rattle.lot_steps.specs.declared.places.Place.{Place}
use Rattle.lot_steps.specs.declared.places.Place.TheVariants.{RwLock}
use Rattle.core_words.proofs.RwLockKinds.{rwlock_steps}
use Rattle.core_words.proofs.RwLockOwning.{keeps_beside_readers}
use Rattle.core_words.proofs.RwLockSteps.{exclusive_trade, there}
use Rattle.core_words.specs.Codes.{exclusive, shared}
use Rattle.core_words.specs.Steps.{CodesWith, MayStep, after_step, is_look, owns_after, owns_after_step}
use Rattle.core_words.specs.Steps.{without}
use Rattle.core_words.specs.Indices.{word_index}
use Rattle.core_words.specs.Views.{owning}
use Rattle.core_words.specs.declared.owners.Owner.TheVariants as owners
use Rattle.core_words.specs.declared.owners.Ownership.{Ownership}
use Rattle.core_words.specs.declared.views.View.{View}
use Rattle.core_words.specs.declared.views.WordStep.{WordStep}
use Rattle.core_words.specs.declared.words.Word.{Word}
use Rattle.core_words.specs.declared.words.WordKind.{WordKind}
use Rattle.core_words.specs.declared.words.WordKind.TheVariants as kinds
use Rattle.parking_lot_core.specs.Tokens.{last_of, told_of, view_of}
use Rattle.parking_lot_core.specs.declared.tokens.SectionRecord.{SectionRecord}
use Rattle.parking_lot_core.specs.declared.tokens.Token.{Token}
use Rattle.run_base.specs.Fitting.{Fits, call_purpose, of_rwlock}
use Rattle.run_base.specs.Courses.{Courses, recorded_all, trail_of}
use Rattle.run_base.specs.Paths.{at_rwlock, rwlock_at, step}
use Rattle.run_base.specs.Queued.{is_queued}
use Rattle.run_base.specs.RwLockCalls.{LeftFairly, TookUnlessFree}
use Rattle.run_base.specs.RwLockFitting.{Answers, IsBeside, IsCounted, OwnsRight, TookWoken}
use Rattle.run_base.specs.Stages.{ThreadState, Stepped, stage_of}
use Rattle.run_base.specs.Telling.{steps_of}
use Rattle.run_base.proofs.Courses.{courses_after, one, one_more, over_at_once}
use Rattle.run_base.proofs.RwLockKeeping.{alone_pends, kept, look_alone, look_upgradable, missed_looks}
use Rattle.run_base.proofs.RwLockKeeping.{missed_same}
use Rattle.run_base.proofs.RwLockNeeds.{has_right, left_beside}
use Rattle.run_base.proofs.Turning.{by_stage}
use Rattle.run_base.proofs.Unqueued.{unqueued_call}

-- ---------------------------------------------------------------- looks

module _ (l : ℕ) (base owns : List Ownership) (seen : ℕ) (code : CodesWith kinds.RwLock (rwlock_at l) seen
    owns) (op : Op) (same : apply op seen / 4 ≡ seen / 4) where
  shares_on : OwnsRight l wants.Shared base owns → OwnsRight l wants.Shared base
      (owns_after_step kinds.RwLock (rwlock_at l) op seen owns)
  shares_on right = let some = there (rwlock_at l) owns op seen (apply op seen) code.0 code.1 code.2
      owners.Shared shared refl (has_right l owners.Shared base owns right) in let c₀ = code.1.0 in
      kept l base owns seen code op (Some (Has wants.Shared)) (keeps_beside_readers (rwlock_at l) seen owns
      code op same (λ z. omega arith)) right

  stays_alone : is_look op seen ≡ true → OwnsRight l wants.Exclusive base owns
      → OwnsRight l wants.Exclusive base (owns_after_step kinds.RwLock (rwlock_at l) op seen owns)
  stays_alone look right = let some = there (rwlock_at l) owns op seen (apply op seen) code.0 code.1 code.2
      owners.Exclusive exclusive refl (has_right l owners.Exclusive base owns right) in let c₀ = code.1.0
      in let few = code.1.1 in let none = code.1.2 some in
      look_alone l base owns seen code op false same look (omega arith) (alone_pends l base owns false right)

-- a load keeps any right
load_keeps : (l : ℕ) (x : Access) (base owns : List Ownership) (seen : ℕ) → CodesWith kinds.RwLock
    (rwlock_at l) seen owns → OwnsRight l (wanted x) base owns → OwnsRight l (wanted x) base
    (owns_after_step kinds.RwLock (rwlock_at l) Load seen owns)
load_keeps l access.Shared base owns seen code right = shares_on l base owns seen code Load refl right
load_keeps l access.Upgradable base owns seen code right = look_upgradable l base owns seen code Load refl
    right
load_keeps l access.Exclusive base owns seen code right = stays_alone l base owns seen code Load refl refl
    right

-- ---------------------------------------------------------------- bumps

module _ (l : ℕ) (a : Admission) (x : Access) (base : List Ownership) (st new : ThreadState) (seen : ℕ)
    (outside : st.inside ≡ None) (room : a.limit < 2 ^ 60 - 1) (s : Stepped kinds.RwLock (rwlock_at l) Load
    seen st new) (right : OwnsRight l (wanted x) base st.owns) where
  right_now : OwnsRight l (wanted x) base new.owns
  right_now = subst (OwnsRight l (wanted x) base) (sym (ap (λ (s : ThreadState). s.owns) s.1))
      (load_keeps l x base st.owns seen s.0 right)

  none_now : new.inside ≡ None
  none_now = ap (λ (s : ThreadState). s.inside) s.1 ∙ outside

  -- where it gives its right up, or is over
  abbrev pub Glanced : Next RwLockCallPlace → Type 0
  Glanced (At c) = Fits ⊥ base (RwLock l a c) new
      × (call_purpose (RwLock l a c) ≡ of_rwlock l a (purpose.Enter x Patient))
  Glanced (End answer) = (answer ≡ Ok) × OwnsRight l (wanted x) base new.owns

  gives : (x : Access) → OwnsRight l (wanted x) base new.owns → Fits ⊥ base (RwLock l a (gives_up_at x)) new
      × (call_purpose (RwLock l a (gives_up_at x)) ≡ of_rwlock l a (purpose.Enter x Patient))
  gives access.Shared right = ((refl, (refl, room, none_now, right)), refl)
  gives access.Upgradable right = ((tt, room, (right, none_now)), refl)
  gives access.Exclusive right = ((tt, room, (right, none_now)), refl)

  pub glanced : Glanced (glance_next a x seen)
  glanced = by_test (gives_way a x seen)
    where
      by_test : (b : Bool) → Glanced (if b then At (gives_up_at x) else End Ok)
      by_test true = gives x right_now
      by_test false = (refl, right_now)

-- ---------------------------------------------------------------- an exclusive owner's first step

module _ (l : ℕ) (a : Admission) (base : List Ownership) (st new : ThreadState) (seen : ℕ)
    (outside : st.inside
    ≡ None) (room : a.limit < 2 ^ 60 - 1) (s : Stepped kinds.RwLock (rwlock_at l) (Exchange 8 0) seen st new)
    (right : OwnsRight l wants.Exclusive base st.owns) where
  -- the word told of nobody else
  pub left_free : seen ≡ 8 → IsBeside l base new.owns
  left_free same = subst (IsBeside l base) (sym owns) (left_beside l owners.Exclusive base st.owns right)
    where
      at_8 : CodesWith kinds.RwLock (rwlock_at l) 8 st.owns → owns_after_step kinds.RwLock (rwlock_at l)
          (Exchange 8 0) 8 st.owns ≡ without (owning (rwlock_at l) owners.Exclusive) st.owns
      at_8 code = ap (λ t. owns_after (rwlock_at l) t st.owns) (exclusive_trade (rwlock_at l) st.owns
          (Exchange 8 0) 8 0 code.0 code.1 code.2 (has_right l owners.Exclusive base st.owns right)
          (λ z. omega arith))

      owns : new.owns ≡ without (owning (rwlock_at l) owners.Exclusive) st.owns
      owns = ap (λ (s : ThreadState). s.owns) s.1
          ∙ subst (λ (n : ℕ). CodesWith kinds.RwLock (rwlock_at l) n st.owns
          → owns_after_step kinds.RwLock (rwlock_at l) (Exchange 8 0) n st.owns
          ≡ without (owning (rwlock_at l) owners.Exclusive) st.owns) (sym same) at_8 s.0

  -- A fair release that saw waiters goes to hand the lock over.
  pub goes_to_hand : seen ≢ 8 → Fits ⊥ base (RwLock l a (HandOver access.Exclusive false handing.Enter)) new
  goes_to_hand other = (
    tt,
    room,
    (
      subst (OwnsRight l wants.Exclusive base) (sym (ap (λ (s : ThreadState). s.owns) s.1))
          (stays_alone l base st.owns seen s.0 (Exchange 8 0) (missed_same 8 0 seen other)
          (missed_looks 8 0 seen other) right),
      ap (λ (s : ThreadState). s.inside) s.1 ∙ outside,
    ),
  )

-- the path of the call
module _ (l : ℕ) (a : Admission) (seen : ℕ) (old mid : Token)
    (saw : steps_of mid ≡ steps_of old ++ step (rwlock_at l) (Exchange 8 0) seen)
    (untold : told_of mid ≡ told_of old) where
  abbrev frees : Place
  frees = RwLock l a (HandOver access.Exclusive false (handing.Free 8))

  abbrev hands : Place
  hands = RwLock l a (HandOver access.Exclusive false handing.Enter)

  calm : is_queued (next_place frees (Value seen)) ≡ false
  calm = unqueued_call l a (HandOver access.Exclusive false (handing.Free 8)) seen tt refl

  gave : trail_of mid None ≡ recorded_all (trail_of old None) (one (rwlock_at l) (Exchange 8 0) seen)
  gave = one_more old mid (rwlock_at l) (Exchange 8 0) seen saw untold

  pub path_free : seen ≡ 8
      → Courses (at_rwlock l) old.number frees (trail_of old None) (trail_of mid None) Ok
  path_free same = over_at_once (at_rwlock l) old.number frees l (Exchange 8 0) seen
      (trail_of old None) (trail_of mid None) Ok refl calm gave
      (ap (λ (b : Bool). rwlock_does l a
      (if b then End Ok else At (HandOver access.Exclusive false handing.Enter))) (eq-eqb seen 8 same))

  pub path_handing : (new : Token) → mid.number ≡ old.number → seen ≢ 8
      → Courses (at_rwlock l) mid.number hands (trail_of mid None) (trail_of new None) Ok
      → Courses (at_rwlock l) old.number frees (trail_of old None) (trail_of new None) Ok
  path_handing new same other rest = courses_after (at_rwlock l) old.number frees l (Exchange 8 0) seen
      (trail_of old None) (trail_of mid None) (trail_of new None) Ok refl calm gave
      (subst (λ (p : Place). Courses (at_rwlock l) old.number p (trail_of mid None) (trail_of new None) Ok)
      (sym (ap (λ (b : Bool). rwlock_goes l a
      (if b then End Ok else At (HandOver access.Exclusive false handing.Enter))) (ne_eqb seen 8 other)))
      (subst (λ (me : ℕ). Courses (at_rwlock l) me hands (trail_of mid None) (trail_of new None) Ok) same
      rest))

-- the record of the call
module _ (l : ℕ) (a : Admission) (seen : ℕ) (old mid new : List WordStep)
    (saw : mid ≡ old ++ step (rwlock_at l) (Exchange 8 0) seen) where
  pub record_free : seen ≡ 8 → LeftFairly l a old mid None
  record_free same = (
    seen,
    [],
    saw ∙ sym (append-nil (old ++ step (rwlock_at l) (Exchange 8 0) seen)),
    subst (λ (b : Bool). TookUnlessFree l a b [] None) (sym (eq-eqb seen 8 same)) (refl, refl),
  )

  pub record_handing : (last : Option SectionRecord) → seen ≢ 8 → (more : List WordStep) → new ≡ mid ++ more
      → TookWoken l a (purpose.Release access.Exclusive) last → LeftFairly l a old new last
  record_handing last other more e took = (
    seen,
    more,
    e ∙ ap (λ (x : List WordStep). x ++ more) saw,
    subst (λ (b : Bool). TookUnlessFree l a b more last) (sym (ne_eqb seen 8 other)) took,
  )

-- ---------------------------------------------------------------- by tokens

module _ (word : Word) (is : word.kind ≡ kinds.RwLock) (op : Op) (seen : ℕ) (old new : Token)
    (stepped : view_of new ≡ after_step word.kind (word_index word.number word.kind) op seen (view_of old))
  where
    pub saw_step : (view_of new).steps ≡ (view_of old).steps ++ step (rwlock_at word.number) op seen
    saw_step = ap (λ (v : View). v.steps) stepped
        ∙ ap (λ (k : WordKind). (view_of old).steps ++ step (word_index word.number k) op seen) is

    pub has_taken_it : last_of new ≡ None → CodesWith word.kind (word_index word.number word.kind) seen
        (view_of old).owns → Stepped kinds.RwLock (rwlock_at word.number) op seen (stage_of old None)
        (stage_of new None)
    has_taken_it last code = subst (λ (k : WordKind). Stepped k (word_index word.number k) op seen
        (stage_of old None) (stage_of new None)) is (by_stage word op seen old None new stepped last code)

-- where a bump went on, and where its look ended it
module _ (l : ℕ) (a : Admission) (x : Access) (seen : ℕ) (old mid : Token)
    (saw : steps_of mid ≡ steps_of old ++ step (rwlock_at l) Load seen)
    (untold : told_of mid ≡ told_of old) (answer : Answer) where
  abbrev glance : Place
  glance = RwLock l a (PeekQueue x)

  unqueued : is_queued (next_place glance (Value seen)) ≡ false
  unqueued = unqueued_call l a (PeekQueue x) seen tt refl

  looked : trail_of mid None ≡ recorded_all (trail_of old None) (one (rwlock_at l) Load seen)
  looked = one_more old mid (rwlock_at l) Load seen saw untold

  pub bump_ends : glance_next a x seen ≡ End answer
      → Courses (at_rwlock l) old.number glance (trail_of old None) (trail_of mid None) answer
  bump_ends e = over_at_once (at_rwlock l) old.number glance l Load seen (trail_of old None)
      (trail_of mid None) answer refl unqueued looked (ap (rwlock_does l a) e)

  pub bump_goes_on : (new : Token) (c : RwLockCallPlace) → mid.number ≡ old.number
      → glance_next a x seen ≡ At c
      → Courses (at_rwlock l) mid.number (RwLock l a c) (trail_of mid None) (trail_of new None) answer
      → Courses (at_rwlock l) old.number glance (trail_of old None) (trail_of new None) answer
  bump_goes_on new c same e rest = courses_after (at_rwlock l) old.number glance l Load seen
      (trail_of old None) (trail_of mid None) (trail_of new None) answer refl unqueued looked
      (subst (λ (p : Place). Courses (at_rwlock l) old.number p (trail_of mid None) (trail_of new None)
      answer)
      (sym (ap (rwlock_goes l a) e))
      (subst (λ (me : ℕ). Courses (at_rwlock l) me (RwLock l a c) (trail_of mid None) (trail_of new None)
      answer)
      same rest))

-- the first step of an exclusive owner is one that it may take
pub may_leave_alone : (l : ℕ) (base owns : List Ownership) → OwnsRight l wants.Exclusive base owns
    → MayStep kinds.RwLock (rwlock_at l) (Exchange 8 0) owns
may_leave_alone l base owns right = (rwlock_steps (rwlock_at l) owns).leave_alone
    (has_right l owners.Exclusive base owns right)

-- a bump that has not its right again found the lock full of readers
pub bump_full : (l : ℕ) (base : List Ownership) (a : Admission) (x : Access) (answer : Answer)
    (st : ThreadState)
    → Answers ⊥ l base a (purpose.Enter x Patient) answer st → (answer ≡ Ok → ⊥) → (answer ≡ ReadersFull)
    × IsCounted x × IsBeside l base st.owns
bump_full l base a x answer st h other = elim h [
  | inl got ↦ absurd (other got.0)
  | inr (inl none) ↦ absurd none.1
  | inr (inr full) ↦ full
]
