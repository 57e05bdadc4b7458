use Rattle.std.proofs.Common.{rules, ℕ, ◌≡◌, ◌++◌, ◌∙◌, Bool, List, None, true, false, ap, sym, subst}
use Rattle.spec_locks.specs.Codes.{is_marked}
use Rattle.core_base.specs.declared.ops.Op.TheVariants.{Swap}
use Rattle.steps_once.specs.OnceSteps.{word_after}
use Rattle.core_words.specs.Indices.{word_index}
use Rattle.core_words.specs.Steps.{CodesWith, MayStep, has, owns_after_step, without}
use Rattle.core_words.specs.Views.{owning}
use Rattle.core_words.specs.declared.owners.Owner.TheVariants.{Runner}
use Rattle.core_words.specs.declared.owners.Ownership.{Ownership}
use Rattle.core_words.specs.declared.views.View.{View}
use Rattle.core_words.specs.declared.views.WordStep.{WordStep}
use Rattle.core_words.specs.declared.words.WordKind.{WordKind}
use Rattle.core_words.specs.declared.words.WordKind.TheVariants.{Once}
use Rattle.core_words.proofs.OnceSteps.{once_steps}
use Rattle.parking_lot_core.specs.Tokens.{last_of}
use Rattle.run_base.specs.OnceFitting.{OwnsAfter}
use Rattle.lot_steps.specs.declared.places.Place.TheVariants as place
use Rattle.steps_once.specs.declared.places.OncePlace.TheVariants.{Run}
use Rattle.steps_once.specs.declared.run.RunAt.TheVariants as run
use Rattle.run_base.specs.Courses.{Courses, steps_in, trail_of}
use Rattle.run_base.specs.Paths.{at_once, once_at, step}
use Rattle.run_base.proofs.Courses.{one_more, steps_since}
use Rattle.run_base.specs.Telling.{owns_of, steps_of}
use Rattle.run_once_and_semaphores.specs.OnceCalls.{WokeIfMarked}
use Rattle.run_once_and_semaphores.proofs.OnceCalling.{closes_at_once, closes_on, runs_found, swapped, word_left}
use Rattle.run_once_and_semaphores.proofs.once_calls.close.Goals as goal

pub first_step_with-seen-requires-clause-may : goal.first_step_with-seen-requires-clause-may
first_step_with-seen-requires-clause-may g c = let n = c.args.word.number in
    subst (λ (kind : WordKind). MayStep kind (word_index c.args.word.number kind) (Swap c.word_after.result)
    (owns_of c.args.token.now)) (sym c.requires.own.2)
    (subst (λ (left : ℕ). MayStep Once (once_at c.args.word.number) (Swap left) (owns_of c.args.token.now))
    (sym c.word_after.ensures)
    ((once_steps (once_at n) (owns_of c.args.token.now)).finish (word_after c.args.succeeded)
    (word_left n c.args.succeeded) c.requires.runs))

-- tells what the thread owns after the step that ended its run
afterwards : (n : ℕ) (s : Bool) (seen left : ℕ) (kind : WordKind) (owns new : List Ownership) → kind ≡ Once
    → left ≡ word_after s → CodesWith kind (word_index n kind) seen owns → has (owning (once_at n) Runner)
    owns ≡ true
    → new ≡ owns_after_step kind (word_index n kind) (Swap left) seen owns
    → OwnsAfter n s (without (owning (once_at n) Runner) owns) new
afterwards n s seen left kind owns new once same coded runs is = let code =
    subst (λ (kind : WordKind). CodesWith kind (word_index n kind) seen owns) once coded in
    subst (OwnsAfter n s (without (owning (once_at n) Runner) owns))
    (sym (is ∙ ap (λ (kind : WordKind). owns_after_step kind (word_index n kind) (Swap left) seen owns)
    once ∙ ap (λ (left : ℕ). owns_after_step Once (once_at n) (Swap left) seen owns) same))
    (swapped n s owns seen code.1.0 (runs_found n seen owns code runs))

pub wake-requires-clause-owns : goal.wake-requires-clause-owns
wake-requires-clause-owns g c = let n = c.args.word.number in let w = c.first_step_with-seen in let owns =
    owns_of c.args.token.now in (
      without (owning (once_at n) Runner) owns,
      afterwards n c.args.succeeded w.result c.word_after.result c.args.word.kind owns (owns_of w.new.token)
          c.requires.own.2 c.word_after.ensures w.ensures.coded c.requires.runs
          (ap (λ (v : View). v.owns) w.ensures.stepped),
    )

-- The step of a close adds one to the path.
added : (n seen left : ℕ) (s : Bool) (kind : WordKind) (old new : List WordStep) → kind ≡ Once
    → left ≡ word_after s → new ≡ old ++ step (word_index n kind) (Swap left) seen → new ≡ old
    ++ step (once_at n) (Swap (word_after s)) seen
added n seen left s kind old new once same is = is
    ∙ ap (λ (kind : WordKind). old ++ step (word_index n kind) (Swap left) seen) once
    ∙ ap (λ (left : ℕ). old ++ step (once_at n) (Swap left) seen) same

pub returns-then-is_marked-clause-path : goal.returns-then-is_marked-clause-path
returns-then-is_marked-clause-path g c = let n = c.args.word.number in let s = c.args.succeeded in let w =
    c.first_step_with-seen in let owns = owns_of c.args.token.now in let old = steps_of c.args.token.now in let mid =
    steps_of c.first_step_with-seen.new.token in
    let marked : is_marked c.first_step_with-seen.result ≡ true = search rules in
    let over = c.wake.ensures.over (without (owning (once_at n) Runner) owns)
    (afterwards n s w.result c.word_after.result c.args.word.kind owns (owns_of w.new.token) c.requires.own.2
    c.word_after.ensures w.ensures.coded c.requires.runs (ap (λ (v : View). v.owns) w.ensures.stepped))
    in
    closes_on n c.args.forced s w.result c.args.token.now.number (trail_of c.args.token.now None)
    (trail_of w.new.token None) (trail_of c.wake.new.token None) c.wake.result marked
    (one_more _ _ _ _ _ (added n w.result c.word_after.result s c.args.word.kind old mid c.requires.own.2
    c.word_after.ensures (ap (λ (v : View). v.steps) w.ensures.stepped)) w.ensures.untold) over.1
    (subst (λ (me : ℕ). Courses (at_once c.args.word.number) me (place.Once c.args.word.number
    (Run c.args.forced (run.Enter c.args.succeeded))) (trail_of c.first_step_with-seen.new.token None)
    (trail_of c.wake.new.token None) c.wake.result) w.ensures.own.0.1 c.wake.ensures.path)

pub returns-then-is_marked-clause-closed : goal.returns-then-is_marked-clause-closed
returns-then-is_marked-clause-closed g c = let n = c.args.word.number in let s = c.args.succeeded in let w =
    c.first_step_with-seen in let owns = owns_of c.args.token.now in let old = steps_of c.args.token.now in let mid =
    steps_of c.first_step_with-seen.new.token in
    let marked : is_marked c.first_step_with-seen.result ≡ true = search rules in let path = c.wake.ensures.path in
    let over = c.wake.ensures.over (without (owning (once_at n) Runner) owns)
    (afterwards n s w.result c.word_after.result c.args.word.kind owns (owns_of w.new.token) c.requires.own.2
    c.word_after.ensures w.ensures.coded c.requires.runs (ap (λ (v : View). v.owns) w.ensures.stepped))
    in (
      w.result,
      steps_in path.0,
      steps_since _ _ path.0 path.1 ∙ ap (λ (l : List WordStep). l ++ steps_in c.wake.ensures.path.0)
          (added n w.result c.word_after.result s c.args.word.kind old mid c.requires.own.2
          c.word_after.ensures (ap (λ (v : View). v.steps) w.ensures.stepped)),
      subst (λ (b : Bool). WokeIfMarked c.args.word.number b (steps_in c.wake.ensures.path.0)
          (last_of c.wake.new.token)) (sym marked) over.3,
    )

pub returns-then-is_marked-clause-owns : goal.returns-then-is_marked-clause-owns
returns-then-is_marked-clause-owns g c = let n = c.args.word.number in let s = c.args.succeeded in let w =
    c.first_step_with-seen in let owns = owns_of c.args.token.now in
    (c.wake.ensures.over (without (owning (once_at n) Runner) owns) (afterwards n s w.result
    c.word_after.result
    c.args.word.kind owns (owns_of w.new.token) c.requires.own.2 c.word_after.ensures w.ensures.coded
    c.requires.runs (ap (λ (v : View). v.owns) w.ensures.stepped))).2

pub returns-else-is_marked-clause-path : goal.returns-else-is_marked-clause-path
returns-else-is_marked-clause-path g c = let n = c.args.word.number in let s = c.args.succeeded in let w =
    c.first_step_with-seen in let old = steps_of c.args.token.now in let mid = steps_of c.first_step_with-seen.new.token in
    let unmarked : is_marked c.first_step_with-seen.result ≡ false = search rules in
    closes_at_once n c.args.forced s w.result c.args.token.now.number (trail_of c.args.token.now None)
    (trail_of w.new.token None) unmarked
    (one_more _ _ _ _ _ (added n w.result c.word_after.result s c.args.word.kind old mid c.requires.own.2
    c.word_after.ensures (ap (λ (v : View). v.steps) w.ensures.stepped)) w.ensures.untold)

pub returns-else-is_marked-clause-owns : goal.returns-else-is_marked-clause-owns
returns-else-is_marked-clause-owns g c = let n = c.args.word.number in let w = c.first_step_with-seen in let owns =
    owns_of c.args.token.now in
    afterwards n c.args.succeeded w.result c.word_after.result c.args.word.kind owns (owns_of w.new.token)
    c.requires.own.2 c.word_after.ensures w.ensures.coded c.requires.runs
    (ap (λ (v : View). v.owns) w.ensures.stepped)
