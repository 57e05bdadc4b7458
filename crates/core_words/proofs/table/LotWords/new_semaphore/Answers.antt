use Rattle.std.proofs.Common.{ℕ, ◌∷◌, [], ◌++◌, ◌≡◌, sym, subst}
use Rattle.core_words.specs.Draws.{IsDrawn}
use Rattle.core_words.specs.Indices.{word_index}
use Rattle.core_words.specs.Steps.{holding}
use Rattle.core_words.specs.declared.words.WordKind.TheVariants.{Semaphore}
use Rattle.core_words.proofs.table.LotWords.new_semaphore.Goals as goal

pub returns-in-Some-clause-held : goal.returns-in-Some-clause-held
returns-in-Some-clause-held c = subst (λ (n : ℕ). c.draw_permits.new.seat.me.0.owns ≡ holding
    (word_index n (Semaphore c.args.permits)) c.args.permits ++ c.args.seat.now.me.0.owns)
    (sym c.new.ensures.0) c.in-Some.ensures.held

pub returns-in-Some-clause-drawn : goal.returns-in-Some-clause-drawn
returns-in-Some-clause-drawn c =
    subst (λ (n : ℕ). IsDrawn c.args.self.now.count (Semaphore c.args.permits ∷ []) n c.args.seat.now.me.0
    c.draw_permits.new.seat.me.0) (sym c.new.ensures.0) c.in-Some.ensures.drawn
