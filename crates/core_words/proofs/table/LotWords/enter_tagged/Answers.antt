use Rattle.std.proofs.Common.{ℕ, arith, refl, subst}
use Rattle.core_base.specs.declared.ops.Op.TheVariants.{Exchange}
use Rattle.core_words.specs.Indices.{word_index}
use Rattle.core_words.specs.Steps.{CodesWith}
use Rattle.core_words.specs.Lots.{IsSeatOf, IsWordOf}
use Rattle.core_words.specs.declared.words.WordKind.TheVariants.{Mutex}
use Rattle.core_words.proofs.AtWord.{expects_code, finds_0, mutex_code, table_expects}
use Rattle.core_words.proofs.MutexSteps.{mutex_steps}
use Rattle.core_words.proofs.Stepping.{enters_or_not}
use Rattle.core_words.proofs.table.LotWords.enter_tagged.Goals as goal

pub compare_exchange-seen-requires : goal.compare_exchange-seen-requires
compare_exchange-seen-requires g c = let lot = c.args.self.now in let seat = c.args.seat.now in let word =
    c.args.word in
    let own : IsSeatOf lot seat × IsWordOf lot word = (c.requires.own.0, c.requires.own.1) in
    table_expects lot seat word own g.P.PermitTag.family c.index.result 0 c.args.unlocked 1
    (λ unlocked. Exchange unlocked 1)
    ((mutex_steps (word_index word.number Mutex) seat.me.0.owns).enter 0 (omega arith) refl)
    (enters_or_not c.args.unlocked c.requires.expects)
    c.requires.pick.0 c.index.ensures c.requires.own.2

pub returns-then-seen-unlocked-clause-coded : goal.returns-then-seen-unlocked-clause-coded
returns-then-seen-unlocked-clause-coded g c = expects_code g.P.PermitTag.family 0 c.args.word.number
    c.index.result c.args.unlocked c.args.word.kind (Exchange 0 1) c.args.seat.now.me
    c.compare_exchange-seen.new.seat.me c.compare_exchange-seen.result c.index.ensures
    c.compare_exchange-seen.ensures.2

pub returns-clause-coded : goal.returns-clause-coded
returns-clause-coded g c =
    let code : CodesWith c.args.word.kind (word_index c.args.word.number c.args.word.kind)
    c.compare_exchange-seen.result c.args.seat.now.me.0.owns
    = expects_code g.P.PermitTag.family 0 c.args.word.number c.index.result c.args.unlocked c.args.word.kind
    (Exchange 0 1) c.args.seat.now.me c.compare_exchange-seen.new.seat.me c.compare_exchange-seen.result
    c.index.ensures c.compare_exchange-seen.ensures.2 in
    let few = mutex_code c.args.word.kind (word_index c.args.word.number c.args.word.kind)
    c.compare_exchange-seen.result c.args.seat.now.me.0.owns c.requires.own.2 code in
    subst (λ (n : ℕ). CodesWith c.args.word.kind (word_index c.args.word.number c.args.word.kind) n
    c.args.seat.now.me.0.owns) (finds_0 c.args.unlocked c.compare_exchange-seen.result
    c.if-seen-unlocked.false few c.requires.expects) code
