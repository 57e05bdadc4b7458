use Rattle.std.proofs.Common.{ℕ, ◌∷◌, [], sym, subst}
use Rattle.core_words.specs.Draws.{IsDrawn}
use Rattle.core_words.proofs.table.LotWords.new_word.Goals as goal

pub returns-in-Some-clause-drawn : goal.returns-in-Some-clause-drawn
returns-in-Some-clause-drawn c = subst (λ (n : ℕ). IsDrawn c.args.self.now.count (c.args.kind ∷ []) n
    c.args.seat.now.me.0 c.draw.new.seat.me.0) (sym c.new.ensures.0) c.in-Some.ensures.drawn
