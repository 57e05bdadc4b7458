use Rattle.std.proofs.Common.{◌≡◌, ◌≤◌, ◌+◌, ◌++◌, IfSome, length}
use Rattle.std.specs.Prelude.{slice_set}
use Rattle.std.specs.Vec.{vec_len, vec_capacity}
use Rattle.core_queues.specs.Chains.{chain, rest_after, IsHashed}
use Rattle.core_queues.proofs.Parts.{upto}
use Rattle.core_base.specs.Lines.{line, times, threads_of}
use Rattle.core_base.specs.Picks.{picked, without_picked}
use Rattle.core_queues.proofs.kind.BucketQueuesQueues.take_by.Given as goal

abbrev pub invariant-loop-waiter : goal.invariant-loop-waiter
invariant-loop-waiter g l = let by = g.P.Picker in record {
  chains : l.self.chains ≡ slice_set l.fn.self.chains l.bucket (chain l.self l.bucket);
  waiting : upto l.before (chain l.self l.bucket) ++ without_picked by.answer by.next l.picker l.key
      (rest_after l.before (chain l.self l.bucket)) ≡ without_picked by.answer by.next l.fn.picker l.key
      (chain l.fn.self l.bucket);
  taken : l.out.items ++ threads_of (picked by.answer by.next l.picker
      (line l.key (rest_after l.before (chain l.self l.bucket)))) ≡ l.fn.out.items ++ threads_of
      (picked by.answer by.next l.fn.picker (line l.key (chain l.fn.self l.bucket)));
  left : vec_len l.out + length (chain l.self l.bucket) ≤ vec_capacity l.out;
  room : vec_capacity l.out ≡ vec_capacity l.fn.out;
  capacity : l.self.capacity ≡ l.fn.self.capacity;
  bits : l.self.bits ≡ l.fn.self.bits;
  stands : IfSome l.before (λ b. 1 ≤ times b (chain l.self l.bucket));
  hashed : IsHashed l.self;
}

abbrev pub decreases-loop-waiter : goal.decreases-loop-waiter
decreases-loop-waiter g l = length (rest_after l.before (chain l.self l.bucket))
