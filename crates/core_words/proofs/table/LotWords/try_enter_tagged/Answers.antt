use Rattle.std.proofs.Common.{ap, ◌∙◌, ◌%◌, subst}
use Rattle.core_words.specs.Steps.{CodesWith}
use Rattle.core_words.specs.Lots.{IsSeatOf, IsWordOf}
use Rattle.core_words.proofs.AtWord.{table_sees_locked, table_tries_seen}
use Rattle.core_words.specs.Views.{shown}
use Rattle.core_words.specs.Plays.{stepping}
use Rattle.core_base.specs.declared.ops.Op.TheVariants.{Or}
use Rattle.core_words.specs.Indices.{word_index}
use Rattle.core_words.proofs.Tries.{same_seat, tried_code, tried_own, tried_locked, tried_out, tried_named}
use Rattle.core_words.proofs.Tries.{tried_left}
use Rattle.core_words.proofs.table.LotWords.try_enter_tagged.Goals as goal

pub load-looked-requires : goal.load-looked-requires
load-looked-requires g c = let lot = c.args.self.now in let seat = c.args.seat.now in let word = c.args.word
    in
    let own : IsSeatOf lot seat × IsWordOf lot word = (c.requires.own.0, c.requires.own.1) in
    table_sees_locked lot seat word own g.P.PermitTag.family c.index-at.result c.requires.pick.0
    c.index-at.ensures c.requires.own.2

pub compare_exchange-seen-requires : goal.compare_exchange-seen-requires
compare_exchange-seen-requires g c = let lot = c.args.self.now in let seat = c.load-looked.new.seat
    in let word = c.args.word in
    let own : IsSeatOf lot seat × IsWordOf lot word = (
      same_seat lot c.args.seat.now seat c.requires.own.0 c.load-looked.ensures.0
          (c.load-looked.ensures.2.0 c.if-looked-ne0.false),
      c.requires.own.1,
    ) in
    table_tries_seen lot seat word own g.P.PermitTag.family c.index-at.result c.load-looked.result
    c.if-looked-ne0.false c.requires.pick.0 c.index-at.ensures c.requires.own.2

pub returns-then-looked-ne0-clause-own : goal.returns-then-looked-ne0-clause-own
returns-then-looked-ne0-clause-own g c = tried_own c.args.self.now c.args.seat.now c.load-looked.new.seat
    c.args.word c.requires.own.0 c.requires.own.2 g.P.PermitTag.family c.index-at.result c.load-looked.result
    c.requires.pick.0 c.index-at.ensures c.load-looked.ensures.0
    (c.load-looked.ensures.2.1 c.if-looked-ne0.true)

pub returns-then-looked-ne0-clause-stepped : goal.returns-then-looked-ne0-clause-stepped
returns-then-looked-ne0-clause-stepped g c = tried_locked c.args.self.now c.args.seat.now
    c.load-looked.new.seat c.args.word c.requires.own.0 c.requires.own.2 g.P.PermitTag.family
    c.index-at.result c.load-looked.result c.requires.pick.0 c.index-at.ensures c.load-looked.ensures.0
    (c.load-looked.ensures.2.1 c.if-looked-ne0.true) c.if-looked-ne0.true

pub split_owner_seat-owner-requires-clause-own : goal.split_owner_seat-owner-requires-clause-own
split_owner_seat-owner-requires-clause-own g c = (
  tried_own c.args.self.now c.load-looked.new.seat c.compare_exchange-seen.new.seat c.args.word
      (same_seat c.args.self.now c.args.seat.now c.load-looked.new.seat c.requires.own.0
      c.load-looked.ensures.0
      (c.load-looked.ensures.2.0 c.if-looked-ne0.false)) c.requires.own.2 g.P.PermitTag.family
      c.index-at.result c.compare_exchange-seen.result c.requires.pick.0 c.index-at.ensures
      c.compare_exchange-seen.ensures.0 (c.compare_exchange-seen.ensures.2.0 c.if-seen-looked.true),
  c.requires.own.1,
  c.requires.own.2,
)

pub split_owner_seat-owner-requires-clause-out : goal.split_owner_seat-owner-requires-clause-out
split_owner_seat-owner-requires-clause-out g c = tried_out c.args.self.now c.load-looked.new.seat
    c.compare_exchange-seen.new.seat c.args.word (same_seat c.args.self.now c.args.seat.now
    c.load-looked.new.seat c.requires.own.0 c.load-looked.ensures.0 (c.load-looked.ensures.2.0
    c.if-looked-ne0.false)) c.requires.own.2 g.P.PermitTag.family c.index-at.result
    c.compare_exchange-seen.result c.requires.pick.0 c.index-at.ensures c.compare_exchange-seen.ensures.0
    (c.compare_exchange-seen.ensures.2.0 c.if-seen-looked.true) (ap (λ n. n % 2) c.if-seen-looked.true
    ∙ c.if-looked-ne0.false)

pub split_owner_seat-owner-requires-clause-named : goal.split_owner_seat-owner-requires-clause-named
split_owner_seat-owner-requires-clause-named g c = tried_named c.args.self.now c.load-looked.new.seat
    c.compare_exchange-seen.new.seat c.args.word (same_seat c.args.self.now c.args.seat.now
    c.load-looked.new.seat c.requires.own.0 c.load-looked.ensures.0 (c.load-looked.ensures.2.0
    c.if-looked-ne0.false)) c.requires.own.2 g.P.PermitTag.family c.index-at.result
    c.compare_exchange-seen.result c.requires.pick.0 c.index-at.ensures c.compare_exchange-seen.ensures.0
    (c.compare_exchange-seen.ensures.2.0 c.if-seen-looked.true) (ap (λ n. n % 2) c.if-seen-looked.true
    ∙ c.if-looked-ne0.false)

pub returns-then-seen-looked-clause-stepped : goal.returns-then-seen-looked-clause-stepped
returns-then-seen-looked-clause-stepped g c = ap shown c.split_owner_seat-owner.ensures.left
    ∙ tried_left c.args.self.now c.load-looked.new.seat c.compare_exchange-seen.new.seat c.args.word
    (same_seat c.args.self.now c.args.seat.now c.load-looked.new.seat c.requires.own.0 c.load-looked.ensures.0
    (c.load-looked.ensures.2.0 c.if-looked-ne0.false)) c.requires.own.2 g.P.PermitTag.family
    c.index-at.result c.compare_exchange-seen.result c.requires.pick.0 c.index-at.ensures
    c.compare_exchange-seen.ensures.0 (c.compare_exchange-seen.ensures.2.0 c.if-seen-looked.true)
    (ap (λ n. n % 2) c.if-seen-looked.true ∙ c.if-looked-ne0.false)
    ∙ ap (λ m. stepping m.0 (word_index c.args.word.number c.args.word.kind) (Or 1)
    c.compare_exchange-seen.result) (c.load-looked.ensures.2.0 c.if-looked-ne0.false)

pub returns-then-seen-ne0-clause-own : goal.returns-then-seen-ne0-clause-own
returns-then-seen-ne0-clause-own g c = tried_own c.args.self.now c.load-looked.new.seat
    c.compare_exchange-seen.new.seat c.args.word (same_seat c.args.self.now c.args.seat.now
    c.load-looked.new.seat c.requires.own.0 c.load-looked.ensures.0 (c.load-looked.ensures.2.0
    c.if-looked-ne0.false)) c.requires.own.2 g.P.PermitTag.family c.index-at.result
    c.compare_exchange-seen.result c.requires.pick.0 c.index-at.ensures c.compare_exchange-seen.ensures.0
    (c.compare_exchange-seen.ensures.2.1.1 c.if-seen-ne0.true)

pub returns-then-seen-ne0-clause-stepped : goal.returns-then-seen-ne0-clause-stepped
returns-then-seen-ne0-clause-stepped g c = tried_locked c.args.self.now c.load-looked.new.seat
    c.compare_exchange-seen.new.seat c.args.word (same_seat c.args.self.now c.args.seat.now
    c.load-looked.new.seat c.requires.own.0 c.load-looked.ensures.0 (c.load-looked.ensures.2.0
    c.if-looked-ne0.false)) c.requires.own.2 g.P.PermitTag.family c.index-at.result
    c.compare_exchange-seen.result c.requires.pick.0 c.index-at.ensures c.compare_exchange-seen.ensures.0
    (c.compare_exchange-seen.ensures.2.1.1 c.if-seen-ne0.true) c.if-seen-ne0.true
    ∙ ap (λ m. stepping m.0 (word_index c.args.word.number c.args.word.kind) (Or 1)
    c.compare_exchange-seen.result) (c.load-looked.ensures.2.0 c.if-looked-ne0.false)

pub try_again-requires-clause-own : goal.try_again-requires-clause-own
try_again-requires-clause-own g c = (
  same_seat c.args.self.now c.load-looked.new.seat c.compare_exchange-seen.new.seat
      (same_seat c.args.self.now c.args.seat.now c.load-looked.new.seat c.requires.own.0
      c.load-looked.ensures.0 (c.load-looked.ensures.2.0 c.if-looked-ne0.false))
      c.compare_exchange-seen.ensures.0 (c.compare_exchange-seen.ensures.2.1.0 c.if-seen-looked.false
      c.if-seen-ne0.false),
  c.requires.own.1,
  c.requires.own.2,
)

pub returns-clause-stepped : goal.returns-clause-stepped
returns-clause-stepped g c = c.try_again.ensures.stepped
    ∙ ap (λ m. stepping m.0 (word_index c.args.word.number c.args.word.kind) (Or 1) c.try_again.result.0)
    (c.compare_exchange-seen.ensures.2.1.0 c.if-seen-looked.false c.if-seen-ne0.false
    ∙ c.load-looked.ensures.2.0 c.if-looked-ne0.false)

pub returns-then-looked-ne0-clause-coded : goal.returns-then-looked-ne0-clause-coded
returns-then-looked-ne0-clause-coded g c = tried_code c.args.self.now c.args.seat.now c.load-looked.new.seat
    c.args.word c.requires.own.0 c.requires.own.2 g.P.PermitTag.family c.index-at.result c.load-looked.result
    c.requires.pick.0 c.index-at.ensures c.load-looked.ensures.0
    (c.load-looked.ensures.2.1 c.if-looked-ne0.true)

pub returns-then-seen-looked-clause-coded : goal.returns-then-seen-looked-clause-coded
returns-then-seen-looked-clause-coded g c =
    subst (λ me. CodesWith c.args.word.kind (word_index c.args.word.number c.args.word.kind)
    c.compare_exchange-seen.result me.0.owns) (c.load-looked.ensures.2.0 c.if-looked-ne0.false)
    (tried_code c.args.self.now c.load-looked.new.seat c.compare_exchange-seen.new.seat c.args.word
    (same_seat c.args.self.now c.args.seat.now c.load-looked.new.seat c.requires.own.0
    c.load-looked.ensures.0 (c.load-looked.ensures.2.0 c.if-looked-ne0.false)) c.requires.own.2
    g.P.PermitTag.family c.index-at.result c.compare_exchange-seen.result c.requires.pick.0
    c.index-at.ensures c.compare_exchange-seen.ensures.0 (c.compare_exchange-seen.ensures.2.0
    c.if-seen-looked.true))

pub returns-then-seen-ne0-clause-coded : goal.returns-then-seen-ne0-clause-coded
returns-then-seen-ne0-clause-coded g c =
    subst (λ me. CodesWith c.args.word.kind (word_index c.args.word.number c.args.word.kind)
    c.compare_exchange-seen.result me.0.owns) (c.load-looked.ensures.2.0 c.if-looked-ne0.false)
    (tried_code c.args.self.now c.load-looked.new.seat c.compare_exchange-seen.new.seat c.args.word
    (same_seat c.args.self.now c.args.seat.now c.load-looked.new.seat c.requires.own.0
    c.load-looked.ensures.0 (c.load-looked.ensures.2.0 c.if-looked-ne0.false)) c.requires.own.2
    g.P.PermitTag.family c.index-at.result c.compare_exchange-seen.result c.requires.pick.0
    c.index-at.ensures c.compare_exchange-seen.ensures.0 (c.compare_exchange-seen.ensures.2.1.1
    c.if-seen-ne0.true))

pub returns-clause-coded : goal.returns-clause-coded
returns-clause-coded g c = subst (λ me. CodesWith c.args.word.kind (word_index c.args.word.number
    c.args.word.kind) c.try_again.result.0 me.0.owns) (c.compare_exchange-seen.ensures.2.1.0
    c.if-seen-looked.false c.if-seen-ne0.false ∙ c.load-looked.ensures.2.0 c.if-looked-ne0.false)
    c.try_again.ensures.coded
