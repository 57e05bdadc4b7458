use Rattle.std.proofs.Common.{◌≡◌, ◌∙◌, ℕ, sym, ap, subst}
use Rattle.core_words.specs.Indices.{word_index}
use Rattle.core_words.specs.Permits.{slots_of}
use Rattle.core_words.specs.Plays.{piece}
use Rattle.core_words.specs.Views.{owning}
use Rattle.core_words.specs.declared.owners.Owner.TheVariants.{Upgradable}
use Rattle.core_words.specs.declared.views.View.{View}
use Rattle.lock_values.specs.Owning.{among}
use Rattle.lock_values.proofs.Excludes.{excluded_at, upgradable_owns}
use Rattle.lock_values.proofs.calls.open_upgradable.Goals as goal

pub into_badge-requires : goal.into_badge-requires
into_badge-requires g c = ap (λ m. m.1) c.into_seat.ensures.1 ∙ c.requires.own.2.0.1
    ∙ ap (λ (v : View). slots_of c.args.words.now.table.shared.key.1.family v.out) c.requires.own.2.1

pub read-requires : goal.read-requires
read-requires g c = let words = c.args.words.now in let word = c.args.word in let place = c.args.place.now
    in let e = c.requires.place in
    let at : place.at ≡ word_index word.number word.kind = ap (λ z. z.at) e in (
      ap (λ t. t.table_id) c.seats.ensures ∙ sym (ap (λ z. z.table) e),
      c.into_badge.ensures.0 ∙ c.into_seat.ensures.0 ∙ c.requires.own.2.0.0 ∙ sym (ap (λ z. z.table) e),
      excluded_at c.seats.result.now.key.0 words.count c.seats.result.now.key.1.family word.number place.at
          word.kind (ap (λ t. t.key.0) c.seats.ensures ∙ words.sized.1) c.requires.own.0.1 c.requires.own.1
          at,
      (
        c.into_seat.result.me.0,
        c.into_badge.ensures.2,
        subst (λ (v : View). among place.at v)
            (sym (ap (λ m. m.0) c.into_seat.ensures.1 ∙ c.requires.own.2.1))
            (subst (λ (a : ℕ). among place.at (piece (owning a Upgradable))) at (upgradable_owns place.at)),
      ),
    )
