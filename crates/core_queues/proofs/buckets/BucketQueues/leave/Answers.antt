use Rattle.std.proofs.Common.{◌≡◌, refl}
use Rattle.core_queues.proofs.Linked.{hashed, shown_is}
use Rattle.core_queues.proofs.Moved.{place, places, first_there, left_now, as_shown, gone_from}
use Rattle.core_queues.proofs.Moved.{length-unlinked}
use Rattle.core_queues.proofs.Became.{left_lines}
use Rattle.core_queues.specs.Links.{next_of}
use Rattle.core_queues.proofs.buckets.BucketQueues.leave.Goals as goal

pub unlink-requires : goal.unlink-requires
unlink-requires c =
    let leads = c.self.invariant.1.leads c.args.bucket in
    let stands = rw (← c.self.view_is) at c.requires.stands in
    let first = rw (← c.self.view_is) at c.requires.first in
    (place _ _ _ _ leads (first_there _ _ _ first), places _ _ _ _ leads stands)

pub invariant_of-self : goal.invariant_of-self
invariant_of-self c =
    let within = rw (← c.self.view_is) at c.requires.within in
    let stands = rw (← c.self.view_is) at c.requires.stands in
    let first = rw (← c.self.view_is) at c.requires.first in
    let next : c.next-next.result ≡ next_of c.self.inside.records.items c.args.thread =
    rw (c.next-next.ensures, c.standing.ensures, c.deref.ensures.value) refl in
    let linked = left_now c.self.inside.records.items _ c.self.inside.buckets.items c.self.inside.bits
    c.args.bucket _ _ c.args.before c.next-next.result c.args.thread c.self.invariant.1 within
    c.index-ends.ensures stands first next c.unlink.ensures c.ends_without.ensures in (
      c.self.invariant.0,
      as_shown _ _ _ _ linked,
      rw (c.unlink.ensures, length-unlinked c.self.inside.records.items c.args.before c.args.thread)
          c.self.invariant.2,
    )

pub returns : goal.returns
returns c =
    let within = rw (← c.self.view_is) at c.requires.within in
    let stands = rw (← c.self.view_is) at c.requires.stands in
    let first = rw (← c.self.view_is) at c.requires.first in
    let next : c.next-next.result ≡ next_of c.self.inside.records.items c.args.thread =
    rw (c.next-next.ensures, c.standing.ensures, c.deref.ensures.value) refl in
    let linked = left_now c.self.inside.records.items _ c.self.inside.buckets.items c.self.inside.bits
    c.args.bucket _ _ c.args.before c.next-next.result c.args.thread c.self.invariant.1 within
    c.index-ends.ensures stands first next c.unlink.ensures c.ends_without.ensures in
    record {
      chains = rw (← c.self.view_is) (shown_is _ _ _ _ linked);
      same = rw (← c.self.view_is, c.unlink.ensures) (
        length-unlinked c.self.inside.records.items
            c.args.before c.args.thread,
        refl,
      );
      lines = rw (← c.self.view_is) (left_lines c.self.inside.records.items _ c.self.inside.buckets.items _
          c.self.inside.bits c.args.bucket c.args.thread c.self.invariant.1 linked within
          (first_there _ _ _ first));
      hashed = hashed _ _ _ _ (as_shown _ _ _ _ linked);
      gone = rw c.unlink.ensures (gone_from _ _ _ _ _ _ (rw c.unlink.ensures at linked));
    }
