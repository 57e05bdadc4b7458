use Rattle.std.proofs.Common.{◌≡◌, [], sym, ◌∙◌, arith}
use Rattle.std.specs.Prelude.{slice_index_or}
use Rattle.std.proofs.lemmas.List.{get_or_read}
use Rattle.std.proofs.lemmas.Slice.Eq.{bytes_eq-Decides}
use Rattle.lot_text.proofs.names.Names.find.Goals as goal

pub returns-then-is_same : goal.returns-then-is_same
returns-then-is_same c =
    let names = c.self.inside.names.items in
    let within = c.if-hint-len.true in
    let is = (bytes_eq-Decides c.index.result.now c.args.name).0 (sym c.is_same.ensures ∙ c.if-is_same.true)
    in
    let stands : slice_index_or names c.in-Some.hint.now [] ≡ c.args.name =
    sym (get_or_read names c.in-Some.hint.now _ (omega arith) c.index.ensures []) ∙ is in
    rw (← c.self.view_is, ← stands) (sym (c.self.invariant c.in-Some.hint.now (omega arith)))
