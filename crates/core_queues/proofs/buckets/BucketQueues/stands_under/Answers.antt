use Rattle.std.proofs.Common.{◌≡◌, ◌∙◌, sym, ap, Some, None}
use Rattle.core_queues.proofs.Linked.{hashed, key_found}
use Rattle.core_queues.proofs.Became.{stands_there}
use Rattle.core_queues.specs.Links.{record_of, key_of_record}
use Rattle.core_queues.proofs.buckets.BucketQueues.stands_under.Goals as goal

pub returns-in-Some-clause-key : goal.returns-in-Some-clause-key
returns-in-Some-clause-key c =
    let is : record_of c.self.inside.records.items c.args.thread ≡ Some c.in-Some.record =
    ap (λ l. record_of l c.args.thread) (sym c.deref.ensures.value) ∙ sym c.in-Some.ensures in
    rw (← c.self.view_is) (sym (key_found _ _ _ _ c.args.thread c.self.invariant.1 ∙ ap key_of_record is))

pub returns-in-Some-clause-stands : goal.returns-in-Some-clause-stands
returns-in-Some-clause-stands c =
    let is : record_of c.self.inside.records.items c.args.thread ≡ Some c.in-Some.record =
    ap (λ l. record_of l c.args.thread) (sym c.deref.ensures.value) ∙ sym c.in-Some.ensures in
    rw (← c.self.view_is) (stands_there _ _ _ c.args.thread _ c.self.invariant.1 is)

pub returns-in-Some-clause-hashed : goal.returns-in-Some-clause-hashed
returns-in-Some-clause-hashed c = rw (← c.self.view_is) (hashed _ _ _ _ c.self.invariant.1)

pub returns-in-None-clause-key : goal.returns-in-None-clause-key
returns-in-None-clause-key c =
    let is : record_of c.self.inside.records.items c.args.thread ≡ None = ap (λ l. record_of l c.args.thread)
    (sym c.deref.ensures.value) ∙ sym c.in-None.ensures in
    rw (← c.self.view_is) (sym (key_found _ _ _ _ c.args.thread c.self.invariant.1 ∙ ap key_of_record is))

pub returns-in-None-clause-hashed : goal.returns-in-None-clause-hashed
returns-in-None-clause-hashed c = rw (← c.self.view_is) (hashed _ _ _ _ c.self.invariant.1)
