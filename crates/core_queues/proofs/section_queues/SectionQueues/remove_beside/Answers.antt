use Rattle.std.proofs.Common.{inl, inr}
use Rattle.core_queues.proofs.Halves.{removed, gone, apart_still, left_both}
use Rattle.core_queues.proofs.section_queues.SectionQueues.remove_beside.Goals as goal

pub returns-clause-lines : goal.returns-clause-lines
returns-clause-lines c = left_both c.args.thread c.args.self.now.queues.waiters
    c.args.other.now.queues.waiters _ _ c.remove.ensures.lines c.remove-2.ensures.lines

pub returns-clause-apart : goal.returns-clause-apart
returns-clause-apart c =
    let t = c.args.thread in let xs = c.args.self.now.queues.waiters in let ys =
    c.args.other.now.queues.waiters in
    let one = removed t xs _ c.remove.ensures.lines in let other = removed t ys _ c.remove-2.ensures.lines in
    λ key. (
      apart_still t key xs ys _ _ one other (inl (gone t xs _ c.remove.ensures.lines)),
      apart_still t key ys xs _ _ other one (inr (gone t xs _ c.remove.ensures.lines)),
    )
