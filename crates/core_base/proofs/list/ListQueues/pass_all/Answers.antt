use Rattle.std.proofs.Common.{◌≡◌, ◌++◌, List, ℕ, length, length-append, ap, refl, ◌∙◌, arith}
use Rattle.core_base.specs.Lines.{line, threads_of}
use Rattle.core_base.specs.Requeues.{moved_to}
use Rattle.core_base.proofs.Seats.{length_seated, length-standing, length-threads_of, line_seated, seated_passed, seated_without_key, standing_moved}
use Rattle.core_base.proofs.list.ListQueues.pass_all.Goals as goal

pub take_key-requires : goal.take_key-requires
take_key-requires c =
    let room = rw (← c.self.view_is) at c.requires.spare in
    omega (
      arith,
      length_seated _ _ c.self.invariant.1,
      c.self.inside.waiters.ok,
      ap length room.0,
      c.args.spare.now.ok,
      room.1,
    )

pub push_each-requires : goal.push_each-requires
push_each-requires c =
    let waiters = c.self.inside.waiters.items in
    let spare : c.take_key.new.out.items ≡ threads_of (line c.args.from waiters) = c.take_key.ensures.taken
    ∙ ap (λ (l : List ℕ). l ++ threads_of (line c.args.from waiters)) c.requires.spare.0 in
    let apart = rw (← c.self.view_is, ← c.other.view_is) at c.requires.apart in
    let same = rw (← c.self.view_is, ← c.other.view_is) at c.requires.same in
    let seated = seated_passed c.args.from c.args.to _ _ _ c.self.invariant.1
    (rw same at c.other.invariant.1) apart in
    omega (
      arith,
      length_seated _ _ seated,
      length-append c.other.inside.waiters.items (moved_to c.args.to (line c.args.from waiters)),
      ap length (standing_moved c.args.to (line c.args.from waiters)),
      length-standing c.args.to (threads_of (line c.args.from waiters)),
      ap length spare,
      ap length c.as_slice.ensures.value,
      c.other.inside.waiters.ok,
      c.other.invariant.0,
      same,
    )

pub invariant_of-self : goal.invariant_of-self
invariant_of-self c = rw (c.take_key.ensures.capacity, c.take_key.ensures.items) (
  c.self.invariant.0,
  seated_without_key c.args.from _ _ c.self.invariant.1,
)

pub invariant_of-other : goal.invariant_of-other
invariant_of-other c =
    let waiters = c.self.inside.waiters.items in
    let spare : c.take_key.new.out.items ≡ threads_of (line c.args.from waiters) = c.take_key.ensures.taken
    ∙ ap (λ (l : List ℕ). l ++ threads_of (line c.args.from waiters)) c.requires.spare.0 in
    let apart = rw (← c.self.view_is, ← c.other.view_is) at c.requires.apart in
    let same = rw (← c.self.view_is, ← c.other.view_is) at c.requires.same in
    let seated = seated_passed c.args.from c.args.to _ _ _ c.self.invariant.1
    (rw same at c.other.invariant.1) apart in
    rw (
      c.push_each.ensures.capacity,
      c.push_each.ensures.items,
      c.as_slice.ensures.value,
      spare,
      standing_moved c.args.to (line c.args.from waiters),
      same,
    ) (rw same at c.other.invariant.0, seated)

pub returns-clause-number : goal.returns-clause-number
returns-clause-number c =
    let waiters = c.self.inside.waiters.items in
    let spare : c.take_key.new.out.items ≡ threads_of (line c.args.from waiters) = c.take_key.ensures.taken
    ∙ ap (λ (l : List ℕ). l ++ threads_of (line c.args.from waiters)) c.requires.spare.0 in
    let number : c.len-number.result ≡ length (line c.args.from waiters) = omega (
      arith,
      c.len-number.ensures,
      c.take_key.new.out.ok,
      ap length spare,
      length-threads_of (line c.args.from waiters),
    ) in
    rw (← c.self.view_is) (
      number,
      omega (arith, number, line_seated c.args.from _ _ c.self.invariant.1),
    )

pub returns-clause-passed : goal.returns-clause-passed
returns-clause-passed c =
    let waiters = c.self.inside.waiters.items in
    let spare : c.take_key.new.out.items ≡ threads_of (line c.args.from waiters) = c.take_key.ensures.taken
    ∙ ap (λ (l : List ℕ). l ++ threads_of (line c.args.from waiters)) c.requires.spare.0 in
    rw (
      ← c.self.view_is,
      ← c.other.view_is,
      c.push_each.ensures.items,
      c.as_slice.ensures.value,
      spare,
      standing_moved c.args.to (line c.args.from waiters),
    ) refl
