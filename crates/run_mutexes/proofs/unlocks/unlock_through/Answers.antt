use Rattle.std.proofs.Common.{ℕ, None, refl, sym, ap}
use Rattle.steps_base.specs.declared.acts.Act.TheVariants.{Enter, Take}
use Rattle.steps_base.specs.declared.acts.Reply.TheVariants.{Done, Took}
use Rattle.steps_base.specs.declared.acts.TakeWhich.TheVariants.{First}
use Rattle.core_base.specs.declared.keys.Keys.TheVariants.{One}
use Rattle.spec_locks.specs.declared.outcomes.Answer.TheVariants.{Ok}
use Rattle.run_base.proofs.TurnsOn.{turn_leads, turn_then}
use Rattle.steps_mutex.specs.declared.unlock.UnlockAt.TheVariants as unlock
use Rattle.run_base.specs.MutexCourses.{taken_on, unlocks_at}
use Rattle.run_mutexes.proofs.MutexGoing.{taken_here, taken_goes_on}
use Rattle.run_mutexes.proofs.unlocks.unlock_through.Goals as goal

pub turn_enter-requires : goal.turn_enter-requires
turn_enter-requires g c = (
  unlocks_at c.args.mutex unlock.Enter,
  c.requires,
  ap (λ (k : ℕ). Enter (One k)) (sym c.main_key-key.ensures),
)

pub turn_take_first-any-requires : goal.turn_take_first-any-requires
turn_take_first-any-requires g c = let first = unlocks_at c.args.mutex unlock.Enter in
    let entered = c.turn_enter.ensures first c.requires (ap (λ (k : ℕ). Enter (One k))
    (sym c.main_key-key.ensures)) in
    let at = turn_leads ⊥ c.args.lot.now c.args.words first Done c.args.token.now c.turn_enter.new.token None
    c.turn_enter.new.section entered c.requires (unlocks_at c.args.mutex unlock.Take) refl refl in
    (unlocks_at c.args.mutex unlock.Take, at, ap (λ (k : ℕ). Take k First) (sym c.main_key-key.ensures))

pub clear_and_wake-requires : goal.clear_and_wake-requires
clear_and_wake-requires g c = let first = unlocks_at c.args.mutex unlock.Enter in let second =
    unlocks_at c.args.mutex unlock.Take in
    let any = c.turn_take_first-any.result.0 in let none = c.turn_take_first-any.result.1 in
    let entered = c.turn_enter.ensures first c.requires (ap (λ (k : ℕ). Enter (One k))
    (sym c.main_key-key.ensures)) in
    let at = turn_leads ⊥ c.args.lot.now c.args.words first Done c.args.token.now c.turn_enter.new.token None
    c.turn_enter.new.section entered c.requires second refl refl in
    turn_leads ⊥ c.args.lot.now c.args.words second (Took any none) c.turn_enter.new.token
    c.turn_enter.new.token c.turn_enter.new.section c.turn_take_first-any.new.section
    (c.turn_take_first-any.ensures.done second at (ap (λ (k : ℕ). Take k First)
    (sym c.main_key-key.ensures))) at
    (unlocks_at c.args.mutex (taken_on any none)) (taken_here c.args.mutex any none)
    (taken_goes_on c.args.mutex any none)

pub returns : goal.returns
returns g c = let first = unlocks_at c.args.mutex unlock.Enter in let second =
    unlocks_at c.args.mutex unlock.Take in
    let any = c.turn_take_first-any.result.0 in let none = c.turn_take_first-any.result.1 in let last =
    c.clear_and_wake.new.token in
    let entered = c.turn_enter.ensures first c.requires (ap (λ (k : ℕ). Enter (One k))
    (sym c.main_key-key.ensures)) in
    let at = turn_leads ⊥ c.args.lot.now c.args.words first Done c.args.token.now c.turn_enter.new.token None
    c.turn_enter.new.section entered c.requires second refl refl in
    turn_then ⊥ c.args.lot.now c.args.words first Done c.args.token.now c.turn_enter.new.token None
    c.turn_enter.new.section entered second refl refl Ok last
    (turn_then ⊥ c.args.lot.now c.args.words second (Took any none) c.turn_enter.new.token
    c.turn_enter.new.token c.turn_enter.new.section c.turn_take_first-any.new.section
    (c.turn_take_first-any.ensures.done second at (ap (λ (k : ℕ). Take k First)
    (sym c.main_key-key.ensures)))
    (unlocks_at c.args.mutex (taken_on any none)) (taken_here c.args.mutex any none)
    (taken_goes_on c.args.mutex any none) Ok last c.clear_and_wake.ensures)
