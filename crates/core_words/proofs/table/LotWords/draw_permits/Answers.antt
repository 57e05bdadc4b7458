use Rattle.std.proofs.Common.{ℕ, ◌+◌, [], ◌∷◌, ◌++◌, ◌∙◌, ap, arith, sym}
use Rattle.core_base.specs.declared.ops.Op.TheVariants.{Exchange, Load}
use Rattle.core_words.specs.Indices.{counter, word_index}
use Rattle.core_words.specs.Permits.{slots_of}
use Rattle.core_words.specs.Plays.{numbered}
use Rattle.core_words.specs.Steps.{holding}
use Rattle.core_words.specs.declared.words.WordKind.TheVariants.{Semaphore}
use Rattle.core_words.proofs.Keeps.{look}
use Rattle.core_words.proofs.Endowing.{draw_permits_of}
use Rattle.core_words.proofs.Looks.{Looked-from, first_look, next_look}
use Rattle.core_words.proofs.table.LotWords.draw_permits.Goals as goal

pub load-seen-requires : goal.load-seen-requires
load-seen-requires g c = let sized = c.args.self.now.sized in let sized₀ = sized.0 in (
  c.requires.own.0,
  omega arith,
  look c.args.self.now.table.shared.key.0
      c.args.self.now.table.shared.key.1.family c.args.self.now.table.shared.table_id.slots
      c.args.seat.now.id c.args.seat.now.me,
)

pub compare_exchange-found-requires : goal.compare_exchange-found-requires
compare_exchange-found-requires g c = let lot = c.args.self.now in let sized = lot.sized in let sized₀ =
    sized.0 in let sized₁ = sized.1 in (
      c.loop-seen.invariant.own.0.0,
      omega arith,
      draw_permits_of lot.table.shared.key.0
          lot.table.shared.key.1.family lot.table.shared.table_id.slots c.loop-seen.seat.id
          c.loop-seen.seat.me
          c.args.permits g.M.ManyTag.many c.loop-seen.seen c.requires.many.0 c.requires.many.1
          c.loop-seen.invariant.saw (omega arith),
    )

pub loop-seen-preserved : goal.loop-seen-preserved
loop-seen-preserved g c = let same = c.loop-seen.invariant in let before = c.loop-seen.seat.me.0
    in let after = c.compare_exchange-found.new.seat.me.0 in
    let failed = c.compare_exchange-found.ensures.2.1 c.if-found-seen.false in
    let steps = ap (λ m. m.0.steps) failed.1 in record {
      own = (
        (
          c.compare_exchange-found.ensures.0 ∙ same.own.0.0,
          ap (λ m. m.1) failed.1 ∙ same.own.0.1
              ∙ sym (ap (λ m. slots_of c.args.self.now.table.shared.key.1.family m.0.out) failed.1),
        ),
        ap (λ m. m.0.owns) failed.1 ∙ same.own.1,
      );
      drawn = ap (λ m. m.0.drawn) failed.1 ∙ same.drawn;
      saw = ap (λ m. m.0.saw) failed.1;
      last = (before.steps, Exchange c.loop-seen.seen (c.loop-seen.seen + 1), steps);
      looked = next_look c.args.seat.now.me.0.steps before.steps after.steps c.loop-seen.seen
          c.compare_exchange-found.result c.args.self.now.count (c.loop-seen.seen + 1) same.looked failed.0
          c.loop-seen-test.true c.if-found-seen.false steps;
    }

pub loop-seen-init : goal.loop-seen-init
loop-seen-init g c = let old = c.args.seat.now.me.0 in let new = c.load-seen.new.seat.me.0 in let looked =
    c.load-seen.ensures.2 in
    let steps = ap (λ m. m.0.steps) looked in record {
      own = (
        (
          c.load-seen.ensures.0 ∙ c.requires.own.0,
          ap (λ m. m.1) looked ∙ c.requires.own.1
              ∙ sym (ap (λ m. slots_of c.args.self.now.table.shared.key.1.family m.0.out) looked),
        ),
        ap (λ m. m.0.owns) looked,
      );
      drawn = ap (λ m. m.0.drawn) looked;
      saw = ap (λ m. m.0.saw) looked;
      last = (old.steps, Load, steps);
      looked = first_look old.steps new.steps c.load-seen.result c.args.self.now.count steps;
    }

pub returns-then-found-seen-clause-own : goal.returns-then-found-seen-clause-own
returns-then-found-seen-clause-own g c = let same = c.loop-seen.invariant in let drew =
    c.compare_exchange-found.ensures.2.0 c.if-found-seen.true in (
      c.compare_exchange-found.ensures.0 ∙ same.own.0.0,
      ap (λ m. m.1) drew ∙ same.own.0.1
          ∙ sym (ap (λ m. slots_of c.args.self.now.table.shared.key.1.family m.0.out) drew),
    )

pub returns-then-found-seen-clause-held : goal.returns-then-found-seen-clause-held
returns-then-found-seen-clause-held g c = let same = c.loop-seen.invariant in let drew =
    c.compare_exchange-found.ensures.2.0 c.if-found-seen.true in
    let before = c.loop-seen.seat.me.0 in let many = g.M.ManyTag.many in
    ap (λ m. m.0.owns) drew ∙ ap (λ (n : ℕ). holding (word_index n (Semaphore many)) many ++ before.owns)
    c.if-found-seen.true
    ∙ ap (λ (k : ℕ). holding (word_index c.loop-seen.seen (Semaphore k)) k ++ before.owns) c.requires.many.0
    ∙ ap (λ owns. holding (word_index c.loop-seen.seen (Semaphore c.args.permits)) c.args.permits ++ owns)
    same.own.1

pub returns-then-found-seen-clause-drawn : goal.returns-then-found-seen-clause-drawn
returns-then-found-seen-clause-drawn g c = let same = c.loop-seen.invariant in let drew =
    c.compare_exchange-found.ensures.2.0 c.if-found-seen.true in
    let seen = c.loop-seen.seen in let before = c.loop-seen.seat.me.0 in let many = g.M.ManyTag.many in (
      omega (arith, c.loop-seen-test.true),
      ap (λ m. m.0.drawn) drew ∙ ap (λ (n : ℕ). numbered n (Semaphore many ∷ []) ++ before.drawn)
          c.if-found-seen.true ∙ ap (λ (k : ℕ). numbered seen (Semaphore k ∷ []) ++ before.drawn)
          c.requires.many.0 ∙ ap (λ d. numbered seen (Semaphore c.args.permits ∷ []) ++ d) same.drawn,
      (
        before.steps,
        Looked-from c.args.seat.now.me.0.steps before.steps seen c.args.self.now.count same.looked,
        ap (λ m. m.0.steps) drew
            ∙ ap (λ (n : ℕ). before.steps ++ record {
              at = counter;
              op = Exchange seen (seen + 1);
              seen = n;
            } ∷ []) c.if-found-seen.true,
      ),
    )

pub returns-clause-drawn : goal.returns-clause-drawn
returns-clause-drawn g c = let same = c.loop-seen.invariant in let seen = c.loop-seen.seen in (
  same.drawn,
  Looked-from c.args.seat.now.me.0.steps c.loop-seen.seat.me.0.steps seen c.args.self.now.count
      same.looked,
  (seen, same.last, omega (arith, c.loop-seen-test.false)),
)
