use Rattle.std.proofs.Common.{◌≡◌, ◌<◌, ◌==◌, ◌∙◌, sym, map, length, ap}
use Rattle.std.proofs.lemmas.List.{with_items_is}
use Rattle.std.specs.Prelude.{slice_set}
use Rattle.core_base.specs.Lines.{line, threads_of}
use Rattle.core_base.specs.Picks.{lock_picked, without_lock_picked}
use Rattle.steps_base.specs.declared.acts.Reply.TheVariants.{Picked, TakenBy}
use Rattle.lot_machine.specs.Machine.{State, lines_from, places_told, sharers_in_hand, successor_from}
use Rattle.lot_machine.specs.Machine.{want_of_successor}
use Rattle.lot_machine.proofs.QueueLemmas.{told_count, lines_picked, line_then_picked, line_here}
use Rattle.lot_machine.proofs.machine.Machine.take_picked.Goals as goal

pub returns-clause-state : goal.returns-clause-state
returns-clause-state g c =
    let n = length c.self.inside.sections.items in
    let waiting = g.Q.Queues.waiting c.self.inside.queues in
    let within : c.args.key < n = rw (ap (λ (v : State). length v.sections) c.self.view_is) c.requires in
    let who = lock_picked c.args.start c.args.recursive (line c.args.key waiting) in
    let out : c.take_by.new.out.items ≡ threads_of who = rw (c.clear.ensures.items, c.new.ensures) at
    c.take_by.ensures.taken in
    let queues : lines_from 0 n (g.Q.Queues.waiting c.take_by.new.self) ≡ slice_set (lines_from 0 n waiting)
    c.args.key (without_lock_picked c.args.start c.args.recursive c.args.key (line c.args.key waiting)) =
    lines_picked n c.args.key c.args.start c.args.recursive waiting (g.Q.Queues.waiting c.take_by.new.self)
    within (rw c.new.ensures at c.take_by.ensures.lines) in
    let told : c.tell_each.new.places ≡ places_told (TakenBy c.args.thread) (threads_of who)
    c.self.inside.places.items =
    c.tell_each.ensures ∙ (λ i. places_told (TakenBy c.args.thread) ((c.as_slice.ensures.value ∙ out) i)
    (c.as_mut_slice.ensures.value i)) in
    let back = with_items_is c.self.inside.places c.tell_each.new.places (ap length told
    ∙ told_count (TakenBy c.args.thread) (threads_of who) c.self.inside.places.items
    ∙ sym c.self.inside.places.ok.0) in
    rw (← c.self.view_is, line_here n c.args.key waiting within)
    (λ i. record {
      places = (back ∙ told) i;
      locks = c.self.inside.locks.items;
      shares = map (λ row. row.items) c.self.inside.shares.items;
      sections = c.self.inside.sections.items;
      queues = queues i;
    })

pub returns-clause-reply : goal.returns-clause-reply
returns-clause-reply g c =
    let n = length c.self.inside.sections.items in
    let waiting = g.Q.Queues.waiting c.self.inside.queues in
    let within : c.args.key < n = rw (ap (λ (v : State). length v.sections) c.self.view_is) c.requires in
    let who = lock_picked c.args.start c.args.recursive (line c.args.key waiting) in
    let out : c.take_by.new.out.items ≡ threads_of who = rw (c.clear.ensures.items, c.new.ensures) at
    c.take_by.ensures.taken in
    let told : c.tell_each.new.places ≡ places_told (TakenBy c.args.thread) (threads_of who)
    c.self.inside.places.items =
    c.tell_each.ensures ∙ (λ i. places_told (TakenBy c.args.thread) ((c.as_slice.ensures.value ∙ out) i)
    (c.as_mut_slice.ensures.value i)) in
    let left : c.is_empty.result ≡ (length (without_lock_picked c.args.start c.args.recursive c.args.key
    (line c.args.key waiting)) == 0) =
    c.is_empty.ensures ∙ ap (λ q. length q == 0)
    (line_here n c.args.key (g.Q.Queues.waiting c.take_by.new.self) within
    ∙ line_then_picked c.args.key c.args.start c.args.recursive waiting
    (g.Q.Queues.waiting c.take_by.new.self) (rw c.new.ensures at c.take_by.ensures.lines)) in
    let back = with_items_is c.self.inside.places c.tell_each.new.places (ap length told
    ∙ told_count (TakenBy c.args.thread) (threads_of who) c.self.inside.places.items
    ∙ sym c.self.inside.places.ok.0) in
    let sharing : c.sharers.result ≡ sharers_in_hand c.args.thread (places_told (TakenBy c.args.thread)
    (threads_of who) c.self.inside.places.items) = c.sharers.ensures ∙ ap (sharers_in_hand c.args.thread)
    (c.as_slice-places.ensures.value ∙ back ∙ told) in
    let more : c.want_of_successor.result ≡ want_of_successor (successor_from c.args.thread 0
    (places_told (TakenBy c.args.thread) (threads_of who) c.self.inside.places.items)) =
    c.want_of_successor.ensures ∙ ap want_of_successor (c.find_successor.ensures
    ∙ ap (successor_from c.args.thread 0) (c.as_slice-places.ensures.value ∙ back ∙ told)) in
    rw (← c.self.view_is, line_here n c.args.key waiting within) (λ i. Picked (sharing i) (more i) (left i))
