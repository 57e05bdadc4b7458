use Rattle.std.proofs.Common.{ℕ, ◌+◌, [], ◌∷◌, ◌++◌, ◌∙◌, ap, arith, length, sym, subst}
use Rattle.core_base.specs.declared.ops.Op.TheVariants.{Exchange, Load}
use Rattle.core_words.specs.Indices.{counter}
use Rattle.core_words.specs.Permits.{slots_of}
use Rattle.core_words.specs.Plays.{numbered}
use Rattle.core_words.specs.Draws.{NoPermits}
use Rattle.core_words.proofs.Keeps.{look, draw_so_many}
use Rattle.core_words.proofs.Looks.{Looked-from, first_look, next_look}
use Rattle.core_words.proofs.table.LotWords.draw.Goals as goal

pub load-seen-requires : goal.load-seen-requires
load-seen-requires g c = let sized = c.args.self.now.sized in let sized₀ = sized.0 in (
  c.requires.own.0,
  omega arith,
  look c.args.self.now.table.shared.key.0
      c.args.self.now.table.shared.key.1.family c.args.self.now.table.shared.table_id.slots
      c.args.seat.now.id c.args.seat.now.me,
)

pub compare_exchange-found-requires : goal.compare_exchange-found-requires
compare_exchange-found-requires g c = let lot = c.args.self.now in let sized = lot.sized in let sized₀ =
    sized.0 in let sized₁ = sized.1 in (
      c.loop-seen.invariant.own.0.0,
      omega arith,
      draw_so_many lot.table.shared.key.0
          lot.table.shared.key.1.family lot.table.shared.table_id.slots c.loop-seen.seat.id
          c.loop-seen.seat.me
          g.K.Kinds.kinds c.loop-seen.seen (length c.args.kinds.now) (subst NoPermits (sym c.requires.kinds.0)
          c.requires.bare) (ap length c.requires.kinds.0) c.loop-seen.invariant.saw (omega arith),
    )

pub loop-seen-preserved : goal.loop-seen-preserved
loop-seen-preserved g c = let same = c.loop-seen.invariant in let before = c.loop-seen.seat.me.0
    in let after = c.compare_exchange-found.new.seat.me.0 in
    let failed = c.compare_exchange-found.ensures.2.1 c.if-found-seen.false in
    let steps = ap (λ m. m.0.steps) failed.1 in record {
      own = (
        (
          c.compare_exchange-found.ensures.0 ∙ same.own.0.0,
          ap (λ m. m.1) failed.1 ∙ same.own.0.1
              ∙ sym (ap (λ m. slots_of c.args.self.now.table.shared.key.1.family m.0.out) failed.1),
        ),
        ap (λ m. m.0.owns) failed.1 ∙ same.own.1,
      );
      drawn = ap (λ m. m.0.drawn) failed.1 ∙ same.drawn;
      saw = ap (λ m. m.0.saw) failed.1;
      last = (before.steps, Exchange c.loop-seen.seen (c.loop-seen.seen + length c.args.kinds.now), steps);
      looked = next_look c.args.seat.now.me.0.steps before.steps after.steps c.loop-seen.seen
          c.compare_exchange-found.result c.args.self.now.count (c.loop-seen.seen + length c.args.kinds.now)
          same.looked failed.0 c.loop-seen-test.true c.if-found-seen.false steps;
    }

pub loop-seen-init : goal.loop-seen-init
loop-seen-init g c = let old = c.args.seat.now.me.0 in let new = c.load-seen.new.seat.me.0 in let looked =
    c.load-seen.ensures.2 in
    let steps = ap (λ m. m.0.steps) looked in record {
      own = (
        (
          c.load-seen.ensures.0 ∙ c.requires.own.0,
          ap (λ m. m.1) looked ∙ c.requires.own.1
              ∙ sym (ap (λ m. slots_of c.args.self.now.table.shared.key.1.family m.0.out) looked),
        ),
        ap (λ m. m.0.owns) looked,
      );
      drawn = ap (λ m. m.0.drawn) looked;
      saw = ap (λ m. m.0.saw) looked;
      last = (old.steps, Load, steps);
      looked = first_look old.steps new.steps c.load-seen.result c.args.self.now.count steps;
    }

pub returns-then-found-seen-clause-own : goal.returns-then-found-seen-clause-own
returns-then-found-seen-clause-own g c = let same = c.loop-seen.invariant in let drew =
    c.compare_exchange-found.ensures.2.0 c.if-found-seen.true in (
      (
        c.compare_exchange-found.ensures.0 ∙ same.own.0.0,
        ap (λ m. m.1) drew ∙ same.own.0.1
            ∙ sym (ap (λ m. slots_of c.args.self.now.table.shared.key.1.family m.0.out) drew),
      ),
      ap (λ m. m.0.owns) drew ∙ same.own.1,
    )

pub returns-then-found-seen-clause-drawn : goal.returns-then-found-seen-clause-drawn
returns-then-found-seen-clause-drawn g c = let same = c.loop-seen.invariant in let drew =
    c.compare_exchange-found.ensures.2.0 c.if-found-seen.true in
    let seen = c.loop-seen.seen in let before = c.loop-seen.seat.me.0 in let kinds = c.args.kinds.now in (
      omega (arith, c.if-needed-words.true, c.loop-seen-test.true),
      ap (λ m. m.0.drawn) drew ∙ ap (λ (n : ℕ). numbered n g.K.Kinds.kinds ++ before.drawn)
          c.if-found-seen.true ∙ ap (λ ks. numbered seen ks ++ before.drawn) c.requires.kinds.0
          ∙ ap (λ d. numbered seen kinds ++ d) same.drawn,
      (
        before.steps,
        Looked-from c.args.seat.now.me.0.steps before.steps seen c.args.self.now.count same.looked,
        ap (λ m. m.0.steps) drew
            ∙ ap (λ (n : ℕ). before.steps ++ record {
              at = counter;
              op = Exchange seen (seen + length kinds);
              seen = n;
            } ∷ []) c.if-found-seen.true,
      ),
    )

pub returns-else-needed-words-clause-drawn : goal.returns-else-needed-words-clause-drawn
returns-else-needed-words-clause-drawn g c = let same = c.loop-seen.invariant in let seen = c.loop-seen.seen
    in (
      same.drawn,
      Looked-from c.args.seat.now.me.0.steps c.loop-seen.seat.me.0.steps seen c.args.self.now.count
          same.looked,
      (seen, same.last, omega (arith, c.if-needed-words.false)),
    )

pub returns-after-loop-seen-clause-drawn : goal.returns-after-loop-seen-clause-drawn
returns-after-loop-seen-clause-drawn g c = let same = c.loop-seen.invariant in let seen = c.loop-seen.seen
    in (
      same.drawn,
      Looked-from c.args.seat.now.me.0.steps c.loop-seen.seat.me.0.steps seen c.args.self.now.count
          same.looked,
      (seen, same.last, omega (arith, c.loop-seen-test.false, c.requires.kinds.1)),
    )
