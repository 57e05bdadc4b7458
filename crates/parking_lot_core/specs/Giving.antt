-- The rights that are given to those that a section took.
use Rattle.std.specs.Prelude.{ℕ, List, slice_index_or}
use Rattle.core_base.specs.declared.wants.Want.{Want}
use Rattle.core_base.specs.declared.wants.Want.TheVariants as wants
use Rattle.core_words.specs.Indices.{word_index}
use Rattle.core_words.specs.Rights.{owner_given, owners_given}
use Rattle.core_words.specs.Steps.{HasAll, without_all}
use Rattle.core_words.specs.Views.{going_on}
use Rattle.core_words.specs.declared.owners.Owner.{Owner}
use Rattle.core_words.specs.declared.owners.Ownership.{Ownership}
use Rattle.core_words.specs.declared.views.View.{View}
use Rattle.core_words.specs.declared.words.Word.{Word}

-- how the one at a place owns the word, which is left at this value
abbrev pub owner_given_at : Word → ℕ → List Want → ℕ → Owner
owner_given_at word left wanted place =
    owner_given word.kind left (slice_index_or wanted place wants.Exclusive)

-- the ownership has a right for each of them
abbrev pub HasEach : Word → ℕ → List Want → List Ownership → Type 0
HasEach word left wanted owns =
    HasAll (word_index word.number word.kind) (owners_given word.kind left wanted) owns

-- a view without these rights
abbrev pub less_each : Word → ℕ → List Want → View → View
less_each word left wanted v =
    going_on v v.steps (without_all (word_index word.number word.kind)
    (owners_given word.kind left wanted) v.owns) v.drawn v.saw
