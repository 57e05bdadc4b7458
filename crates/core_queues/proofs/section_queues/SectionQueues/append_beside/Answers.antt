use Rattle.std.proofs.Common.{◌≡◌, [], inl, inr}
use Rattle.core_base.specs.Lines.{line}
use Rattle.core_queues.proofs.Halves.{appended, removed, gone, apart_still, came_first, came_other}
use Rattle.core_queues.proofs.Halves.{in_another}
use Rattle.core_queues.proofs.section_queues.SectionQueues.append_beside.Goals as goal

pub returns-then-holds-clause-lines : goal.returns-then-holds-clause-lines
returns-then-holds-clause-lines c = let self = c.args.self.now in let other = c.args.other.now in let two =
    c.requires.two.0 in
    let none : line c.args.key other.queues.waiters ≡ [] = in_another self.bits other.bits other.number
    other.seats c.args.key other.queues.waiters other.of_bucket self.number
    (c.holds.ensures.0 c.if-holds.true) two.1 two.2 in
    came_first c.args.key c.args.thread c.args.want self.queues.waiters other.queues.waiters _ _ none
    c.append.ensures.lines c.remove.ensures.lines

pub returns-then-holds-clause-apart : goal.returns-then-holds-clause-apart
returns-then-holds-clause-apart c =
    let t = c.args.thread in let xs = c.args.self.now.queues.waiters in let ys =
    c.args.other.now.queues.waiters in
    let one = appended c.args.key t c.args.want xs _ c.append.ensures.lines in let other =
    removed t ys _ c.remove.ensures.lines in
    λ key. (
      apart_still t key xs ys _ _ one other (inr (gone t ys _ c.remove.ensures.lines)),
      apart_still t key ys xs _ _ other one (inl (gone t ys _ c.remove.ensures.lines)),
    )

pub returns-else-holds-clause-lines : goal.returns-else-holds-clause-lines
returns-else-holds-clause-lines c = came_other c.args.key c.args.thread c.args.want
    c.args.self.now.queues.waiters c.args.other.now.queues.waiters _ _ c.remove-else-holds.ensures.lines
    c.append-else-holds.ensures.lines

pub returns-else-holds-clause-apart : goal.returns-else-holds-clause-apart
returns-else-holds-clause-apart c =
    let t = c.args.thread in let xs = c.args.self.now.queues.waiters in let ys =
    c.args.other.now.queues.waiters in
    let one = removed t xs _ c.remove-else-holds.ensures.lines in let other =
    appended c.args.key t c.args.want ys _ c.append-else-holds.ensures.lines in
    λ key. (
      apart_still t key xs ys _ _ one other (inl (gone t xs _ c.remove-else-holds.ensures.lines)),
      apart_still t key ys xs _ _ other one (inr (gone t xs _ c.remove-else-holds.ensures.lines)),
    )
