use Rattle.std.proofs.Common.{◌≡◌, refl, None, arith, ◌<◌, length}
use Rattle.std.specs.Prelude.{slice_index_or}
use Rattle.std.proofs.lemmas.List.{get_or_read}
use Rattle.core_queues.proofs.Linked.{hashed, shown_is}
use Rattle.core_queues.proofs.Moved.{last_place, come_now, as_shown, length-linked}
use Rattle.core_queues.proofs.Became.{come_lines}
use Rattle.core_queues.specs.Links.{chains_of}
use Rattle.core_queues.proofs.buckets.BucketQueues.come.Goals as goal

pub link-requires : goal.link-requires
link-requires c =
    let below = rw (← c.self.view_is) at c.requires.below in
    let linked = c.self.invariant.1 in
    let each = linked.each in
    let within : c.bucket-bucket.result
    < length (chains_of c.self.inside.records.items c.self.inside.buckets.items) =
    rw (← c.self.view_is) at c.bucket-bucket.ensures.within in
    let had : c.index-ends.result.now ≡ slice_index_or c.self.inside.buckets.items c.bucket-bucket.result
    None = get_or_read c.self.inside.buckets.items c.bucket-bucket.result _ (omega arith)
    c.index-ends.ensures None in (
      below,
      rw had (last_place _ _ _ (linked.leads c.bucket-bucket.result)
          (linked.ends c.bucket-bucket.result)),
    )

pub invariant_of-self : goal.invariant_of-self
invariant_of-self c =
    let within = rw (← c.self.view_is) at c.bucket-bucket.ensures.within in
    let bucket = rw (← c.self.view_is) at c.bucket-bucket.ensures.bucket in
    let below = rw (← c.self.view_is) at c.requires.below in
    let alone = rw (← c.self.view_is) at c.requires.alone in
    let linked = come_now c.self.inside.records.items _ c.self.inside.buckets.items c.self.inside.bits
    c.bucket-bucket.result c.args.key c.args.thread c.args.want _ _ c.self.invariant.1 within bucket
    c.index-ends.ensures alone below c.link.ensures c.ends_with.ensures in (
      c.self.invariant.0,
      as_shown _ _ _ _ linked,
      rw (
        c.link.ensures,
        length-linked c.self.inside.records.items c.index-ends.result.now c.args.key
            c.args.thread c.args.want,
      ) c.self.invariant.2,
    )

pub returns : goal.returns
returns c =
    let within = rw (← c.self.view_is) at c.bucket-bucket.ensures.within in
    let bucket = rw (← c.self.view_is) at c.bucket-bucket.ensures.bucket in
    let below = rw (← c.self.view_is) at c.requires.below in
    let alone = rw (← c.self.view_is) at c.requires.alone in
    let linked = come_now c.self.inside.records.items _ c.self.inside.buckets.items c.self.inside.bits
    c.bucket-bucket.result c.args.key c.args.thread c.args.want _ _ c.self.invariant.1 within bucket
    c.index-ends.ensures alone below c.link.ensures c.ends_with.ensures in
    record {
      chains = rw (← c.self.view_is, ← bucket) (shown_is _ _ _ _ linked);
      same = rw (← c.self.view_is, c.link.ensures) (
        length-linked c.self.inside.records.items
            c.index-ends.result.now c.args.key c.args.thread c.args.want,
        refl,
      );
      lines = rw (← c.self.view_is) (come_lines c.self.inside.records.items _ c.self.inside.buckets.items _
          c.self.inside.bits c.bucket-bucket.result c.args.key c.args.thread c.args.want c.self.invariant.1
          linked bucket within);
      hashed = hashed _ _ _ _ (as_shown _ _ _ _ linked);
    }
