use Rattle.std.proofs.Common.{◌≡◌, ap, subst, sym, List, true, []}
use Rattle.core_base.specs.declared.ops.Op.TheVariants.{Sub}
use Rattle.core_words.specs.Indices.{word_index}
use Rattle.core_words.specs.Lots.{IsSeatOf, IsWordOf}
use Rattle.core_words.specs.Rights.{named_by}
use Rattle.core_words.specs.Steps.{has}
use Rattle.core_words.specs.Views.{owning}
use Rattle.core_words.specs.declared.owners.Owner.TheVariants.{Exclusive}
use Rattle.core_words.specs.declared.owners.Ownership.{Ownership}
use Rattle.core_words.specs.declared.words.WordKind.TheVariants.{Mutex}
use Rattle.core_words.proofs.AtWord.{at_mutex, table_expects}
use Rattle.core_words.proofs.MutexSteps.{mutex_steps}
use Rattle.core_words.proofs.Stepping.{takes_nothing, leaves_or_not}
use Rattle.core_words.proofs.Trades.{has_first}
use Rattle.core_words.proofs.table.LotWords.leave_tagged.Goals as goal

pub fetch_sub-requires : goal.fetch_sub-requires
fetch_sub-requires g c = let lot = c.args.self.now in let owner = c.args.owner.now in let word = c.args.word
    in
    let own : IsSeatOf lot owner × IsWordOf lot word = (c.requires.own.0.0, c.requires.own.1) in
    let mine : has (named_by word Exclusive) owner.me.0.owns ≡ true =
    subst (λ (owns : List Ownership). has (named_by word Exclusive) owns ≡ true)
    (sym (ap (λ v. v.owns) c.requires.own.0.1)) (has_first (named_by word Exclusive) []) in
    table_expects lot owner word own g.P.PermitTag.family c.index.result 1 c.args.locked 0
    (λ taken. Sub taken)
    ((mutex_steps (word_index word.number Mutex) owner.me.0.owns).leave
    (subst (λ i. has (owning i Exclusive) owner.me.0.owns ≡ true) (at_mutex lot owner word own
    c.requires.own.2) mine))
    (leaves_or_not (λ taken. Sub taken) c.args.locked takes_nothing c.requires.expects) c.requires.pick
    c.index.ensures c.requires.own.2
