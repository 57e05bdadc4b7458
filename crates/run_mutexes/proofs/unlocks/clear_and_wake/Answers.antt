use Rattle.std.proofs.Common.{◌≡◌, Bool, true, false, refl, sym, subst, rules}
use Rattle.steps_base.specs.declared.acts.Reply.TheVariants.{Value}
use Rattle.spec_locks.specs.declared.outcomes.Answer.TheVariants.{Ok}
use Rattle.run_base.specs.Turns.{HasEnded, IsAtPlace}
use Rattle.run_base.proofs.TurnsOn.{turn_leads, turn_then}
use Rattle.steps_mutex.specs.declared.unlock.UnlockAt.TheVariants as unlock
use Rattle.run_base.specs.MutexCourses.{taken_on, unlocks_at}
use Rattle.run_mutexes.proofs.unlocks.clear_and_wake.Goals as goal

pub turn_word-requires : goal.turn_word-requires
turn_word-requires g c = let none : c.args.none_left ≡ true = search rules in (
  unlocks_at c.args.mutex (unlock.Clear c.args.any),
  subst (λ (b : Bool). IsAtPlace ⊥ c.args.lot.now c.args.words (unlocks_at c.args.mutex
      (taken_on c.args.any b)) c.args.token.now c.args.section) none c.requires,
  refl,
)

pub leave_and_wake-requires : goal.leave_and_wake-requires
leave_and_wake-requires g c = let none : c.args.none_left ≡ true = search rules in
    let p = unlocks_at c.args.mutex (unlock.Clear c.args.any) in
    let at = subst (λ (b : Bool). IsAtPlace ⊥ c.args.lot.now c.args.words (unlocks_at c.args.mutex
    (taken_on c.args.any b)) c.args.token.now c.args.section) none c.requires in
    turn_leads ⊥ c.args.lot.now c.args.words p (Value c.turn_word.result) c.args.token.now
    c.turn_word.new.token c.args.section c.args.section (c.turn_word.ensures p at refl) at
    (unlocks_at c.args.mutex (unlock.Leave c.args.any)) refl refl

pub returns-then-none_left : goal.returns-then-none_left
returns-then-none_left g c = let none : c.args.none_left ≡ true = search rules in
    let p = unlocks_at c.args.mutex (unlock.Clear c.args.any) in
    let at = subst (λ (b : Bool). IsAtPlace ⊥ c.args.lot.now c.args.words (unlocks_at c.args.mutex
    (taken_on c.args.any b)) c.args.token.now c.args.section) none c.requires in
    subst (λ (b : Bool). HasEnded ⊥ c.args.lot.now c.args.words
    (unlocks_at c.args.mutex (taken_on c.args.any b)) Ok c.args.token.now c.args.section
    c.leave_and_wake.new.token) (sym none)
    (turn_then ⊥ c.args.lot.now c.args.words p (Value c.turn_word.result) c.args.token.now
    c.turn_word.new.token c.args.section c.args.section (c.turn_word.ensures p at refl)
    (unlocks_at c.args.mutex (unlock.Leave c.args.any)) refl refl Ok c.leave_and_wake.new.token
    c.leave_and_wake.ensures)

pub leave_and_wake-requires-2 : goal.leave_and_wake-requires-2
leave_and_wake-requires-2 g c = let some : c.args.none_left ≡ false = search rules in
    subst (λ (b : Bool). IsAtPlace ⊥ c.args.lot.now c.args.words
    (unlocks_at c.args.mutex (taken_on c.args.any b)) c.args.token.now c.args.section) some c.requires

pub returns : goal.returns
returns g c = let some : c.args.none_left ≡ false = search rules in
    subst (λ (b : Bool). HasEnded ⊥ c.args.lot.now c.args.words
    (unlocks_at c.args.mutex (taken_on c.args.any b)) Ok c.args.token.now c.args.section
    c.leave_and_wake-2.new.token) (sym some) c.leave_and_wake-2.ensures
