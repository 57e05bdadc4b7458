use Rattle.std.proofs.Common.{◌≡◌, ◌<◌, ◌+◌, ◌==◌, ◌∙◌, sym, [], map, length, ap}
use Rattle.std.proofs.lemmas.List.{with_items_is}
use Rattle.std.specs.Prelude.{slice_index_or}
use Rattle.core_base.specs.Lines.{line, threads_of}
use Rattle.core_base.specs.Requeues.{taken_by, moved_by}
use Rattle.steps_base.specs.declared.acts.Reply.TheVariants.{Requeued, TakenBy, MovedTo}
use Rattle.lot_machine.specs.Machine.{State, lines_from, places_told, listed, moved_threads, left_in_line}
use Rattle.lot_machine.specs.Machine.{queues_requeued}
use Rattle.lot_machine.proofs.QueueLemmas.{told_count, lines_requeued, line_left, line_here}
use Rattle.lot_machine.proofs.machine.Machine.requeue.Goals as goal

pub returns-clause-state : goal.returns-clause-state
returns-clause-state g c =
    let n = length c.self.inside.sections.items in
    let waiting = g.Q.Queues.waiting c.self.inside.queues in
    let from_there : c.args.from < n = rw (ap (λ (v : State). length v.sections) c.self.view_is)
    c.requires.keys.0 in
    let to_there : c.args.to < n = rw (ap (λ (v : State). length v.sections) c.self.view_is) c.requires.keys.1
    in
    let here : slice_index_or (lines_from 0 n waiting) c.args.from [] ≡ line c.args.from waiting =
    line_here n c.args.from waiting from_there in
    let listed_now : c.list_line.new.out.items ≡ threads_of (line c.args.from waiting) =
    rw c.clear.ensures.items at c.list_line.ensures.listed in
    let whom : c.keep_moved.new.whom.items ≡ moved_threads c.args.how
    (threads_of (line c.args.from waiting)) = c.keep_moved.ensures.moved
    ∙ ap (moved_threads c.args.how) listed_now in
    let queues : lines_from 0 n (g.Q.Queues.waiting c.requeue-first.new.self) ≡ queues_requeued
    (lines_from 0 n waiting) c.args.from c.args.to c.args.how =
    lines_requeued n c.args.from c.args.to c.args.how waiting (g.Q.Queues.waiting c.requeue-first.new.self)
    from_there to_there c.requeue-first.ensures.lines in
    let told : c.tell_one.new.places ≡ places_told (TakenBy c.args.thread)
    (listed (taken_by c.args.how (line c.args.from waiting))) c.self.inside.places.items =
    c.tell_one.ensures ∙ (λ i. places_told (TakenBy c.args.thread) (listed (c.requeue-first.ensures.taken i))
    (c.as_mut_slice-places.ensures.value i)) in
    let all_told : c.tell_each.new.places ≡ places_told (MovedTo c.args.to)
    (moved_threads c.args.how (threads_of (line c.args.from waiting)))
    (places_told (TakenBy c.args.thread) (listed (taken_by c.args.how (line c.args.from waiting)))
    c.self.inside.places.items) =
    c.tell_each.ensures ∙ (λ i. places_told (MovedTo c.args.to) ((c.as_slice.ensures.value ∙ whom) i)
    (told i)) in
    let places = all_told ∙ sym (ap (λ q. places_told (MovedTo c.args.to) (moved_threads c.args.how
    (threads_of q)) (places_told (TakenBy c.args.thread) (listed (taken_by c.args.how q))
    c.self.inside.places.items)) here) in
    let count = ap length all_told ∙ told_count (MovedTo c.args.to) (moved_threads c.args.how
    (threads_of (line c.args.from waiting))) (places_told (TakenBy c.args.thread)
    (listed (taken_by c.args.how (line c.args.from waiting))) c.self.inside.places.items)
    ∙ told_count (TakenBy c.args.thread) (listed (taken_by c.args.how (line c.args.from waiting)))
    c.self.inside.places.items ∙ sym c.self.inside.places.ok.0 in
    let back = with_items_is c.self.inside.places c.tell_each.new.places count in
    rw (← c.self.view_is)
    (λ i. record {
      places = (back ∙ places) i;
      locks = c.self.inside.locks.items;
      shares = map (λ row. row.items) c.self.inside.shares.items;
      sections = c.self.inside.sections.items;
      queues = queues i;
    })

pub returns-clause-reply : goal.returns-clause-reply
returns-clause-reply g c =
    let n = length c.self.inside.sections.items in
    let waiting = g.Q.Queues.waiting c.self.inside.queues in
    let within : c.args.from < n = rw (ap (λ (v : State). length v.sections) c.self.view_is) c.requires.keys.0
    in
    let q = line c.args.from waiting in
    let number : c.one_if_some.result + c.requeue-first.result.1 ≡ length (listed (taken_by c.args.how q))
    + length (moved_by c.args.how q) =
    (λ i. (c.one_if_some.ensures.number ∙ ap (λ o. length (listed o)) c.requeue-first.ensures.taken) i
    + c.requeue-first.ensures.number.0 i) in
    let left : c.is_empty.result ≡ (length (left_in_line c.args.how q) == 0) =
    c.is_empty.ensures ∙ ap (λ x. length x == 0)
    (line_here n c.args.from (g.Q.Queues.waiting c.requeue-first.new.self) within
    ∙ line_left c.args.from c.args.to c.args.how waiting (g.Q.Queues.waiting c.requeue-first.new.self)
    c.requires.keys.2 c.requeue-first.ensures.lines) in
    rw (← c.self.view_is, line_here n c.args.from waiting within) (λ i. Requeued (number i) (left i))
