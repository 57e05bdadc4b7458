use Rattle.lot_replay.specs.Shows.{owner_text, owners_text, group}
use Rattle.lot_text.proofs.SentLemmas.{Left}
use Rattle.lot_replay.proofs.show.print_owners.Given as goal

abbrev pub invariant-loop-owner : goal.invariant-loop-owner
invariant-loop-owner g l =
    (goal.iterator-loop-owner g).can_next l.owner-iterator
    × (goal.iterator-loop-owner g).is_finite l.owner-iterator
    × Left (g.W.Write.contents l.fn.writer) (g.W.Write.contents l.writer) l.fn.page l.page
    (group l.mark owner_text l.owner-iterator) (owners_text l.fn.owners)
