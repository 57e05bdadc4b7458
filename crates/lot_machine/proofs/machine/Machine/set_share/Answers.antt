use Rattle.std.proofs.Common.{◌≡◌, ◌<◌, ◌∙◌, sym, map, length, replicate, ap}
use Rattle.std.specs.Prelude.{slice_set, slice_index_or}
use Rattle.std.specs.Vec.{with_items}
use Rattle.std.proofs.Common.{length-set}
use Rattle.std.proofs.lemmas.List.{map-set, length-map, with_items_is}
use Rattle.std.proofs.Math.ListN.{get_or-map}
use Rattle.lot_machine.specs.Machine.{State, lines_from}
use Rattle.lot_machine.proofs.ShareLemmas.{get_any}
use Rattle.lot_machine.proofs.machine.Machine.set_share.Goals as goal

pub returns-in-Some : goal.returns-in-Some
returns-in-Some g c =
    let rows = map (λ row. row.items) c.self.inside.shares.items in
    let d = replicate (length c.self.inside.places.items) 0 in
    let row = c.index_mut-shares.result.now in
    let there : c.args.lock < length c.self.inside.locks.items =
    rw (ap (λ (v : State). length v.locks) c.self.view_is) c.requires in
    let within : c.args.lock < length rows = rw (
      length-map c.self.inside.shares.items (λ y. y.items),
      c.self.invariant.2,
    ) there in
    let old : row.items ≡ slice_index_or rows c.args.lock d =
    ap (λ y. y.items) c.index_mut-shares.ensures.value
    ∙ sym (get_or-map (λ y. y.items) c.self.inside.shares.items c.args.lock row)
    ∙ get_any rows c.args.lock row.items d within in
    let given : c.set_share_in.new.shares ≡ slice_set (slice_index_or rows c.args.lock d) c.args.thread
    c.in-Some.number =
    c.set_share_in.ensures ∙ (λ i. slice_set ((c.as_mut_slice.ensures.value ∙ old) i) c.args.thread
    c.in-Some.number) in
    let back = with_items_is row c.set_share_in.new.shares (ap length given
    ∙ length-set (slice_index_or rows c.args.lock d) c.args.thread c.in-Some.number ∙ ap length (sym old)
    ∙ sym row.ok.0) in
    rw (c.in-Some.is, ← c.self.view_is) (λ i. record {
      places = c.self.inside.places.items;
      locks = c.self.inside.locks.items;
      shares = (map-set (λ y. y.items) c.self.inside.shares.items c.args.lock
          (with_items row c.set_share_in.new.shares) ∙ ap (λ q. slice_set rows c.args.lock q) (back ∙ given))
          i;
      sections = c.self.inside.sections.items;
      queues = lines_from 0 (length c.self.inside.sections.items) (g.Q.Queues.waiting c.self.inside.queues);
    })
