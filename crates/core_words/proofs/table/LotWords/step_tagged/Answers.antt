use Rattle.core_words.proofs.AtWord.{table_allows, tells_step}
use Rattle.core_words.proofs.table.LotWords.step_tagged.Goals as goal

pub load-requires : goal.load-requires
load-requires g c = table_allows c.args.self.now c.args.seat.now c.args.word c.requires.own
    g.P.PermitTag.family c.requires.pick c.requires.may c.index-at.ensures c.in-Load.is

pub swap-requires : goal.swap-requires
swap-requires g c = table_allows c.args.self.now c.args.seat.now c.args.word c.requires.own
    g.P.PermitTag.family c.requires.pick c.requires.may c.index-at.ensures c.in-Store.is

pub swap-requires-in-Swap : goal.swap-requires-in-Swap
swap-requires-in-Swap g c = table_allows c.args.self.now c.args.seat.now c.args.word c.requires.own
    g.P.PermitTag.family c.requires.pick c.requires.may c.index-at.ensures c.in-Swap.is

pub fetch_add-requires : goal.fetch_add-requires
fetch_add-requires g c = table_allows c.args.self.now c.args.seat.now c.args.word c.requires.own
    g.P.PermitTag.family c.requires.pick c.requires.may c.index-at.ensures c.in-Add.is

pub fetch_sub-requires : goal.fetch_sub-requires
fetch_sub-requires g c = table_allows c.args.self.now c.args.seat.now c.args.word c.requires.own
    g.P.PermitTag.family c.requires.pick c.requires.may c.index-at.ensures c.in-Sub.is

pub fetch_and-requires : goal.fetch_and-requires
fetch_and-requires g c = table_allows c.args.self.now c.args.seat.now c.args.word c.requires.own
    g.P.PermitTag.family c.requires.pick c.requires.may c.index-at.ensures c.in-And.is

pub compare_exchange-requires : goal.compare_exchange-requires
compare_exchange-requires g c = table_allows c.args.self.now c.args.seat.now c.args.word c.requires.own
    g.P.PermitTag.family c.requires.pick c.requires.may c.index-at.ensures c.in-Exchange.is

pub returns-in-Load : goal.returns-in-Load
returns-in-Load g c = let told = c.load.ensures in (
  told.0,
  tells_step g.P.PermitTag.family c.args.word.number c.args.word.kind c.args.seat.now.me
      c.load.new.seat.me c.load.result c.index-at.ensures c.in-Load.is told.2,
)

pub returns-in-Store : goal.returns-in-Store
returns-in-Store g c = let told = c.swap.ensures in (
  told.0,
  tells_step g.P.PermitTag.family c.args.word.number c.args.word.kind c.args.seat.now.me
      c.swap.new.seat.me c.swap.result c.index-at.ensures c.in-Store.is told.2,
)

pub returns-in-Swap : goal.returns-in-Swap
returns-in-Swap g c = let told = c.swap-in-Swap.ensures in (
  told.0,
  tells_step g.P.PermitTag.family c.args.word.number c.args.word.kind c.args.seat.now.me
      c.swap-in-Swap.new.seat.me c.swap-in-Swap.result c.index-at.ensures c.in-Swap.is told.2,
)

pub returns-in-Add : goal.returns-in-Add
returns-in-Add g c = let told = c.fetch_add.ensures in (
  told.0,
  tells_step g.P.PermitTag.family c.args.word.number c.args.word.kind c.args.seat.now.me
      c.fetch_add.new.seat.me c.fetch_add.result c.index-at.ensures c.in-Add.is told.2,
)

pub returns-in-Sub : goal.returns-in-Sub
returns-in-Sub g c = let told = c.fetch_sub.ensures in (
  told.0,
  tells_step g.P.PermitTag.family c.args.word.number c.args.word.kind c.args.seat.now.me
      c.fetch_sub.new.seat.me c.fetch_sub.result c.index-at.ensures c.in-Sub.is told.2,
)

pub returns-in-And : goal.returns-in-And
returns-in-And g c = let told = c.fetch_and.ensures in (
  told.0,
  tells_step g.P.PermitTag.family c.args.word.number c.args.word.kind c.args.seat.now.me
      c.fetch_and.new.seat.me c.fetch_and.result c.index-at.ensures c.in-And.is told.2,
)

pub returns-in-Exchange : goal.returns-in-Exchange
returns-in-Exchange g c = let told = c.compare_exchange.ensures in (
  told.0,
  tells_step g.P.PermitTag.family c.args.word.number c.args.word.kind c.args.seat.now.me
      c.compare_exchange.new.seat.me c.compare_exchange.result c.index-at.ensures c.in-Exchange.is told.2,
)
