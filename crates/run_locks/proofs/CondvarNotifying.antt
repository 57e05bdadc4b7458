-- The first step of a notification, and the rest after it.
use Rattle.std.proofs.Common.{ℕ, false, true, not, ◌&&◌, ◌≡◌, ◌≢◌, ◌==◌, ◌+◌, ◌-◌, ◌++◌, Bool, List, None}
use Rattle.std.proofs.Common.{if◌then◌else◌, inl, inr, sym, refl, ap, ◌∙◌, subst, eq-eqb, ne_eqb, arith}
use Rattle.std.proofs.lemmas.Bool.{false≢true}
use Rattle.core_base.specs.declared.ops.Op.TheVariants.{Load}
use Rattle.steps_base.specs.declared.acts.Act.TheVariants.{End}
use Rattle.steps_base.specs.declared.acts.Next.TheVariants.{At, End as Over}
use Rattle.steps_base.specs.declared.acts.Reply.TheVariants.{Value}
use Rattle.spec_locks.specs.declared.outcomes.Answer.{Answer}
use Rattle.steps_condvar.specs.CondvarSteps.{is_shown, notified}
use Rattle.steps_condvar.specs.declared.notify.NotifyAt.TheVariants as notify
use Rattle.steps_condvar.specs.declared.places.CondvarPlace.TheVariants.{Notify}
use Rattle.lot_steps.specs.Steps.{condvar_goes, next_act, next_place}
use Rattle.lot_steps.specs.declared.places.Place.{Place}
use Rattle.lot_steps.specs.declared.places.Place.TheVariants.{Condvar}
use Rattle.core_words.specs.declared.views.WordStep.{WordStep}
use Rattle.parking_lot_core.specs.Tokens.{last_of, told_of}
use Rattle.parking_lot_core.specs.declared.tokens.Token.{Token}
use Rattle.run_base.specs.CondvarFitting.{AnswersBy}
use Rattle.run_base.specs.Courses.{Courses, trail_of}
use Rattle.run_base.specs.Paths.{condvar_at, mutex_at, step}
use Rattle.run_base.specs.Queued.{is_queued}
use Rattle.run_base.specs.Telling.{steps_of}
use Rattle.run_base.proofs.Courses.{arrives_at_once, courses_from}
use Rattle.run_locks.specs.CondvarCalls.{HasNotified, NotifiesBy, TellsMoved, at_condvar, notify_begin}
use Rattle.run_locks.specs.CondvarCalls.{notify_slow}

-- beside another mutex the word of the condition variable stands at its own place
own_word : (n m : ℕ) → m ≢ n → at_condvar n m n ≡ condvar_at n
own_word n m ne = ap (λ (b : Bool). if b then mutex_at m else condvar_at n) (ne_eqb m n ne)

module _ (n : ℕ) (all : Bool) (seen : ℕ) (answer : Answer) (old mid : Token) (added : steps_of mid
    ≡ steps_of old ++ step (condvar_at n) Load seen) (untold : told_of mid ≡ told_of old) (same : mid.number
    ≡ old.number) where
  beside : (m : ℕ) → m ≢ n → steps_of mid ≡ steps_of old ++ step (at_condvar n m n) Load seen
  beside m ne = added ∙ ap (λ i. steps_of old ++ step i Load seen) (sym (own_word n m ne))

  looked_off : is_queued (next_place (notify_begin n all) (Value seen)) ≡ false
  looked_off = by_test (seen == 0)
    where
      by_test : (b : Bool)
          → is_queued (condvar_goes n (if b then Over (notified all 0) else At
          (Notify all (seen - 1) notify.Enter))) ≡ false
      by_test true = refl
      by_test false = refl

  -- the thread saw that nobody waits
  pub nobody_waits : seen ≡ 0 → answer ≡ notified all 0 → NotifiesBy n all answer old mid
  nobody_waits zero told = (
    n + 1,
    arrives_at_once (at_condvar n (n + 1)) old.number (notify_begin n all) n Load seen (steps_of old)
        (steps_of mid) (told_of old) (told_of mid) answer refl looked_off (beside (n + 1) (λ e. omega arith))
        untold
        (subst (λ v. next_act (notify_begin n all) (Value v) ≡ End answer) (sym zero) (ap End (sym told))),
  )

  leads : (m : ℕ) → seen ≡ m + 1 → next_place (notify_begin n all) (Value seen) ≡ notify_slow n m all
  leads m e =
      let some : (seen == 0) ≡ false = ne_eqb seen 0 (λ none. omega arith) in
      let back : seen - 1 ≡ m = omega arith in
      ap (λ (b : Bool). condvar_goes n (if b then Over (notified all 0) else At
      (Notify all (seen - 1) notify.Enter))) some
      ∙ ap (λ k. Condvar n (Notify all k notify.Enter)) back

  -- A notification that did nothing saw that no mutex is shown.
  pub some_wait : (m : ℕ) → m ≢ n → seen ≡ m + 1 → (new : Token) → HasNotified n m all answer mid new
      → NotifiesBy n all answer old new
  some_wait m ne shown new afterwards = (
    m,
    courses_from (at_condvar n m) old.number (notify_begin n all) n Load seen (steps_of old) (steps_of mid)
        (told_of old) (told_of mid) (trail_of new None) answer refl looked_off (beside m ne) untold
        (subst (λ (p : Place). Courses (at_condvar n m) old.number p (trail_of mid None) (trail_of new None)
        answer) (sym (leads m shown))
        (subst (λ (me : ℕ). Courses (at_condvar n m) me (notify_slow n m all) (trail_of mid None)
        (trail_of new None) answer) same afterwards)),
  )

-- a value that shows another mutex than one is another value
shows_else : (m first seen : ℕ) → first ≡ m + 1 → is_shown seen m ≡ false → seen ≢ first
shows_else m first seen shown other same =
    let here : seen ≡ m + 1 = same ∙ shown in
    let some : (seen == 0) ≡ false = ne_eqb seen 0 (λ none. omega arith) in
    let back : (seen - 1 == m) ≡ true = eq-eqb (seen - 1) m (omega arith) in
    false≢true (sym other ∙ ap (λ (b : Bool). not b && (seen - 1 == m)) some ∙ back)

-- tells what its sections tell of a notification that goes on after its first look
pub tells_moved : (n m : ℕ) (all : Bool) (first : ℕ) (answer : Answer) (old new : Token) → first ≡ m + 1
    → (more : List WordStep) × (steps_of new ≡ steps_of old ++ more) → AnswersBy n m all answer (last_of new)
    (steps_of new) → TellsMoved n all first answer old new
tells_moved n m all first answer old new shown more (inl none) =
    inl (none.0, (more, (none.2.0, none.2.1, none.2.3, shows_else m first none.2.1 shown none.2.2, none.1)))
tells_moved n m all first answer old new shown more (inr moved) = inr (
  m,
  moved.0,
  moved.1,
  shown,
  moved.2,
  moved.3,
  more,
)
