use Rattle.std.proofs.Common.{◌≡◌, ◌∙◌, ◌^◌, ap, None, rules}
use Rattle.std.specs.Prelude.{replicate}
use Rattle.std.proofs.lemmas.List.{length-replicate}
use Rattle.core_queues.specs.declared.records.Record.{Record}
use Rattle.core_queues.proofs.Opening.{opening, nobody, whole, nothing}
use Rattle.core_queues.proofs.kind.BucketQueuesQueues.with_capacity.Goals as goal

pub invariant_of-result : goal.invariant_of-result
invariant_of-result c =
    let records : c.in-Ok.records.items ≡ replicate c.args.threads None =
    c.in-Ok.ensures.items_if_clones_equal (λ y e. search rules) in
    let buckets : c.in-Ok-from_elem.buckets.items ≡ replicate (2 ^ c.bits_for-bits.result) None =
    c.in-Ok-from_elem.ensures.items_if_clones_equal (λ y e. search rules)
    ∙ ap (λ n. replicate n None) (whole c.bits_for-bits.result c.bits_for-bits.ensures.few) in (
      c.bits_for-bits.ensures.few,
      rw (records, buckets) (opening c.args.threads c.bits_for-bits.result),
      rw records (rw (length-replicate c.args.threads (nothing Record)) c.bits_for-bits.ensures.least),
    )

pub returns-clause-ok : goal.returns-clause-ok
returns-clause-ok c =
    let records : c.in-Ok.records.items ≡ replicate c.args.threads None =
    c.in-Ok.ensures.items_if_clones_equal (λ y e. search rules) in
    let buckets : c.in-Ok-from_elem.buckets.items ≡ replicate (2 ^ c.bits_for-bits.result) None =
    c.in-Ok-from_elem.ensures.items_if_clones_equal (λ y e. search rules)
    ∙ ap (λ n. replicate n None) (whole c.bits_for-bits.result c.bits_for-bits.ensures.few) in (
      rw (records, buckets) (nobody (replicate c.args.threads None) (2 ^ c.bits_for-bits.result)),
      rw records (length-replicate c.args.threads (nothing Record)),
    )
