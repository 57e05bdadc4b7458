-- How a view owns the word of a reader-writer lock. An upgradable owner reads beside others.
use Rattle.std.specs.Prelude.{◌⊎◌, ℕ, ◌<◌}
use Rattle.core_words.specs.Views.{owned}
use Rattle.core_words.specs.Codes.{exclusive, shared, upgradable}
use Rattle.core_words.specs.declared.views.View.{View}

abbrev pub alone : ℕ → View → Type 0
alone at v = 0 < owned at exclusive v.owns

abbrev pub among : ℕ → View → Type 0
among at v = (0 < owned at shared v.owns) ⊎ (0 < owned at upgradable v.owns)
