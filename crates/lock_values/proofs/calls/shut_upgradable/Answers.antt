use Rattle.std.proofs.Common.{◌∙◌, sym, ap}
use Rattle.lock_values.proofs.Excludes.{excluded_at}
use Rattle.lock_values.proofs.calls.shut_upgradable.Goals as goal

pub close-requires : goal.close-requires
close-requires g c = let words = c.args.words.now in let word = c.args.word in let e = c.requires.open.0 in (
  ap (λ t. t.table_id) c.seats.ensures ∙ sym (ap (λ z. z.table) e),
  excluded_at c.seats.result.now.key.0 words.count c.seats.result.now.key.1.family word.number
      c.args.seen.of.at word.kind (ap (λ t. t.key.0) c.seats.ensures ∙ words.sized.1) c.requires.own.0.1
      c.requires.own.1 (ap (λ z. z.at) e),
)
