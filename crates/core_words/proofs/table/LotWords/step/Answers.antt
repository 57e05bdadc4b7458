use Rattle.std.proofs.Common.{◌∙◌, ap, sym}
use Rattle.core_words.specs.Permits.{slots_of}
use Rattle.core_words.specs.Views.{shown}
use Rattle.core_words.proofs.table.LotWords.step.Goals as goal

pub returns-clause-own : goal.returns-clause-own
returns-clause-own c = let told = c.step_tagged.ensures in let family =
    c.args.self.now.table.shared.key.1.family in
    (told.0 ∙ c.requires.own.0.0, ap (λ m. m.1) told.1.0 ∙ sym (ap (λ m. slots_of family m.0.out) told.1.0))

pub returns-clause-stepped : goal.returns-clause-stepped
returns-clause-stepped c = ap (λ m. shown m.0) c.step_tagged.ensures.1.0

pub returns-clause-out : goal.returns-clause-out
returns-clause-out c = ap (λ m. m.0.out) c.step_tagged.ensures.1.0

pub returns-clause-coded : goal.returns-clause-coded
returns-clause-coded c = c.step_tagged.ensures.1.1
