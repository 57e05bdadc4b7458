use Rattle.std.proofs.Common.{◌≡◌, ◌<◌, length, None, arith, refl}
use Rattle.std.specs.Prelude.{slice_index_or}
use Rattle.std.proofs.lemmas.List.{get_or_read}
use Rattle.core_queues.proofs.Linked.{hashed}
use Rattle.core_queues.proofs.Found.{found, found_stands}
use Rattle.core_queues.specs.Links.{waiter_at, next_after, chains_of}
use Rattle.core_queues.proofs.buckets.BucketQueues.rest_after.Goals as goal

pub returns : goal.returns
returns c =
    let records = c.self.inside.records.items in
    let buckets = c.self.inside.buckets.items in
    let linked = c.self.invariant.1 in
    let each = linked.each in
    let within : c.args.bucket < length (chains_of records buckets) = rw (← c.self.view_is) at
    c.requires.within in
    let stands = rw (← c.self.view_is) at c.requires.stands in
    let ends : c.index-ends.result.now ≡ slice_index_or buckets c.args.bucket None =
    get_or_read buckets c.args.bucket _ (omega arith) c.index-ends.ensures None in
    let seen : c.waiter.result ≡ waiter_at records
    (next_after records (slice_index_or buckets c.args.bucket None) c.args.before) =
    rw (c.waiter.ensures, c.deref-2.ensures.value, c.rest_after-thread.ensures, c.deref.ensures.value, ends)
    refl in
    record {
      hashed = rw (← c.self.view_is) (hashed _ _ _ _ linked);
      found = rw (← c.self.view_is) (found records _ _ c.args.before c.waiter.result
          (linked.leads c.args.bucket) stands seen);
      stands = rw (← c.self.view_is) (found_stands records _ _ c.args.before c.waiter.result
          (linked.leads c.args.bucket) stands seen);
    }
