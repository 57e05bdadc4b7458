use Rattle.std.proofs.Common.{refl, ap, ◌∙◌}
use Rattle.core_base.specs.declared.ops.Op.TheVariants.{Or}
use Rattle.core_words.specs.Indices.{word_index}
use Rattle.core_words.specs.Lots.{IsSeatOf, IsWordOf}
use Rattle.core_words.specs.declared.words.WordKind.TheVariants.{Mutex}
use Rattle.core_words.proofs.AtWord.{may_mutex, table_allows}
use Rattle.core_words.proofs.MutexSteps.{mutex_steps}
use Rattle.core_words.proofs.Tries.{tried_code, tried_own, tried_locked, tried_out, tried_named, tried_left}
use Rattle.core_words.specs.Views.{shown}
use Rattle.core_words.proofs.table.LotWords.try_again.Goals as goal

pub fetch_or-seen-requires : goal.fetch_or-seen-requires
fetch_or-seen-requires g c = let lot = c.args.self.now in let seat = c.args.seat.now in let word = c.args.word
    in
    let own : IsSeatOf lot seat × IsWordOf lot word = (c.requires.own.0, c.requires.own.1) in
    table_allows lot seat word own g.P.PermitTag.family c.requires.pick.0
    (may_mutex lot seat word own c.requires.own.2 (Or 1) (mutex_steps (word_index word.number Mutex)
    seat.me.0.owns).set_locked) c.index.ensures refl

pub returns-then-seen-ne0-clause-own : goal.returns-then-seen-ne0-clause-own
returns-then-seen-ne0-clause-own g c = tried_own c.args.self.now c.args.seat.now c.fetch_or-seen.new.seat
    c.args.word c.requires.own.0 c.requires.own.2 g.P.PermitTag.family c.index.result c.fetch_or-seen.result
    c.requires.pick.0 c.index.ensures c.fetch_or-seen.ensures.0 c.fetch_or-seen.ensures.2

pub returns-then-seen-ne0-clause-stepped : goal.returns-then-seen-ne0-clause-stepped
returns-then-seen-ne0-clause-stepped g c = tried_locked c.args.self.now c.args.seat.now
    c.fetch_or-seen.new.seat c.args.word c.requires.own.0 c.requires.own.2 g.P.PermitTag.family
    c.index.result c.fetch_or-seen.result c.requires.pick.0 c.index.ensures c.fetch_or-seen.ensures.0
    c.fetch_or-seen.ensures.2 c.if-seen-ne0.true

pub split_owner_seat-owner-requires-clause-own : goal.split_owner_seat-owner-requires-clause-own
split_owner_seat-owner-requires-clause-own g c = (
  tried_own c.args.self.now c.args.seat.now c.fetch_or-seen.new.seat
      c.args.word c.requires.own.0 c.requires.own.2 g.P.PermitTag.family c.index.result
      c.fetch_or-seen.result
      c.requires.pick.0 c.index.ensures c.fetch_or-seen.ensures.0 c.fetch_or-seen.ensures.2,
  c.requires.own.1,
  c.requires.own.2,
)

pub split_owner_seat-owner-requires-clause-out : goal.split_owner_seat-owner-requires-clause-out
split_owner_seat-owner-requires-clause-out g c =
    tried_out c.args.self.now c.args.seat.now c.fetch_or-seen.new.seat
    c.args.word c.requires.own.0 c.requires.own.2 g.P.PermitTag.family c.index.result c.fetch_or-seen.result
    c.requires.pick.0 c.index.ensures c.fetch_or-seen.ensures.0 c.fetch_or-seen.ensures.2 c.if-seen-ne0.false

pub split_owner_seat-owner-requires-clause-named : goal.split_owner_seat-owner-requires-clause-named
split_owner_seat-owner-requires-clause-named g c =
    tried_named c.args.self.now c.args.seat.now c.fetch_or-seen.new.seat
    c.args.word c.requires.own.0 c.requires.own.2 g.P.PermitTag.family c.index.result c.fetch_or-seen.result
    c.requires.pick.0 c.index.ensures c.fetch_or-seen.ensures.0 c.fetch_or-seen.ensures.2 c.if-seen-ne0.false

pub returns-clause-stepped : goal.returns-clause-stepped
returns-clause-stepped g c = ap shown c.split_owner_seat-owner.ensures.left
    ∙ tried_left c.args.self.now c.args.seat.now
    c.fetch_or-seen.new.seat c.args.word c.requires.own.0 c.requires.own.2 g.P.PermitTag.family
    c.index.result c.fetch_or-seen.result c.requires.pick.0 c.index.ensures c.fetch_or-seen.ensures.0
    c.fetch_or-seen.ensures.2 c.if-seen-ne0.false

pub returns-then-seen-ne0-clause-coded : goal.returns-then-seen-ne0-clause-coded
returns-then-seen-ne0-clause-coded g c = tried_code c.args.self.now c.args.seat.now c.fetch_or-seen.new.seat
    c.args.word c.requires.own.0 c.requires.own.2 g.P.PermitTag.family c.index.result c.fetch_or-seen.result
    c.requires.pick.0 c.index.ensures c.fetch_or-seen.ensures.0 c.fetch_or-seen.ensures.2

pub returns-clause-coded : goal.returns-clause-coded
returns-clause-coded g c = tried_code c.args.self.now c.args.seat.now c.fetch_or-seen.new.seat c.args.word
    c.requires.own.0 c.requires.own.2 g.P.PermitTag.family c.index.result c.fetch_or-seen.result
    c.requires.pick.0 c.index.ensures c.fetch_or-seen.ensures.0 c.fetch_or-seen.ensures.2
