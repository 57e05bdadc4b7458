use Rattle.std.proofs.Common.{◌≡◌, ℕ, List, bit_or, sym, subst, ap, refl, ◌∙◌}
use Rattle.atomic_table.specs.Table.{Me}
use Rattle.core_base.specs.declared.ops.Op.TheVariants.{Or}
use Rattle.core_words.specs.Indices.{word_index}
use Rattle.core_words.specs.Permits.{slots_of}
use Rattle.core_words.specs.Plays.{TakesStepOf}
use Rattle.core_words.specs.Steps.{MayStep}
use Rattle.core_words.specs.declared.owners.Ownership.{Ownership}
use Rattle.core_words.specs.declared.views.View.{View}
use Rattle.core_parts.specs.declared.slot.PermitSlot.{PermitSlot}
use Rattle.core_words.proofs.AtWord.{table_allows, table_allows_load, tells_step}
use Rattle.core_words.proofs.table.LotWords.set_bits.Goals as goal

pub load-seen-requires : goal.load-seen-requires
load-seen-requires g c = let word = c.args.word in
    table_allows_load c.args.self.now c.args.seat.now word c.requires.own g.P.PermitTag.family g.B.Bits.bits
    c.requires.pick.1
    (subst (λ (bits : ℕ). MayStep word.kind (word_index word.number word.kind) (Or bits)
    c.args.seat.now.me.0.owns) (sym c.requires.pick.0) c.requires.may) c.index-at.ensures

pub fetch_or-requires : goal.fetch_or-requires
fetch_or-requires g c = let word = c.args.word in let seen = c.load-seen.result in let seat =
    c.load-seen.new.seat in
    let same = c.load-seen.ensures.2.1
    (λ e. c.if-seen-bits.false (subst (λ (bits : ℕ). bit_or seen bits ≡ seen) c.requires.pick.0 e)) in
    table_allows c.args.self.now seat word (
      (
        c.load-seen.ensures.0 ∙ c.requires.own.0.0,
        ap (λ m. m.1) same
            ∙ c.requires.own.0.1 ∙ sym (ap (λ m. slots_of c.args.self.now.table.shared.key.1.family m.0.out)
            same),
      ),
      c.requires.own.1,
    )
    g.P.PermitTag.family c.requires.pick.1
    (subst (λ (owns : List Ownership). MayStep word.kind (word_index word.number word.kind) (Or c.args.bits)
    owns) (sym (ap (λ m. m.0.owns) same)) c.requires.may) c.index-at.ensures refl

pub returns-then-seen-bits : goal.returns-then-seen-bits
returns-then-seen-bits g c = let word = c.args.word in let told = c.load-seen.ensures in let seen =
    c.load-seen.result in (
      told.0,
      tells_step g.P.PermitTag.family word.number word.kind c.args.seat.now.me c.load-seen.new.seat.me seen
          c.index-at.ensures (ap (λ (bits : ℕ). Or bits) (sym c.requires.pick.0))
          (told.2.0 (subst (λ (bits : ℕ). bit_or seen bits ≡ seen) (sym c.requires.pick.0)
          c.if-seen-bits.true)),
    )

pub returns : goal.returns
returns g c = let word = c.args.word in let told = c.fetch_or.ensures in let seen = c.load-seen.result
    in let after = c.fetch_or.new.seat.me in
    let same = c.load-seen.ensures.2.1
    (λ e. c.if-seen-bits.false (subst (λ (bits : ℕ). bit_or seen bits ≡ seen) c.requires.pick.0 e)) in (
      told.0 ∙ c.load-seen.ensures.0,
      subst (λ (me : Me PermitSlot View). TakesStepOf g.P.PermitTag.family word.kind
          (word_index word.number word.kind) (Or c.args.bits) me c.fetch_or.result after) same
          (tells_step g.P.PermitTag.family word.number word.kind c.load-seen.new.seat.me after
          c.fetch_or.result c.index-at.ensures refl told.2),
    )
