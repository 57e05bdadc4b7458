use Rattle.std.proofs.Common.{◌≡◌, ◌≢◌, rules}
use Rattle.std.specs.Sync.Mutex.{mutex_guard_value}
use Rattle.core_queues.specs.Chains.{bucket_of}
use Rattle.parking_lot_core.specs.Pairs.{AreApartAt, AreBuckets}
use Rattle.parking_lot_core.proofs.Pairs.{apart_turned, for_some, here_else, lines_turned, none_turned}
use Rattle.parking_lot_core.proofs.Pairs.{two_turned}
use Rattle.parking_lot_core.proofs.sections.Section.turn_to.Goals as goal

pub holds-requires : goal.holds-requires
holds-requires c = let self = c.args.self.now in let two = self.two c.in-Some.other c.in-Some.is in
    rw (c.deref.ensures, two.0.1) self.seated.1

pub invariant_of-self-clause-two : goal.invariant_of-self-clause-two
invariant_of-self-clause-two c = let self = c.args.self.now in
    for_some (λ guard. AreBuckets self.keys (mutex_guard_value c.swap.new.x) (mutex_guard_value guard)) _
    (rw (c.swap.ensures.x_after, c.swap.ensures.y_after) (two_turned self.keys (mutex_guard_value self.first)
    (mutex_guard_value c.in-Some.other) (self.two c.in-Some.other c.in-Some.is)))

pub invariant_of-self-clause-apart : goal.invariant_of-self-clause-apart
invariant_of-self-clause-apart c = let self = c.args.self.now in
    λ nothing. for_some (λ guard. AreApartAt self.keys (mutex_guard_value c.swap.new.x)
    (mutex_guard_value guard)) _
    (rw (c.swap.ensures.x_after, c.swap.ensures.y_after)
    (apart_turned self.keys (mutex_guard_value self.first) (mutex_guard_value c.in-Some.other)
    (self.apart nothing c.in-Some.other c.in-Some.is)))

pub returns-then-holds-clause-lines : goal.returns-then-holds-clause-lines
returns-then-holds-clause-lines c = let self = c.args.self.now in let two =
    self.two c.in-Some.other c.in-Some.is in
    rw (c.swap.ensures.x_after, c.swap.ensures.y_after, c.in-Some.is)
    (lines_turned (mutex_guard_value self.first) (mutex_guard_value c.in-Some.other) two.0)

pub returns-then-holds-clause-none : goal.returns-then-holds-clause-none
returns-then-holds-clause-none c = let self = c.args.self.now in let two =
    self.two c.in-Some.other c.in-Some.is in
    let here : bucket_of (mutex_guard_value c.in-Some.other).bits c.args.key
    ≡ (mutex_guard_value c.in-Some.other).number = rw (← c.deref.ensures)
    (c.holds.ensures.0 c.if-holds.true) in
    rw c.swap.ensures.y_after (none_turned (mutex_guard_value self.first) (mutex_guard_value c.in-Some.other)
    c.args.key two.0 here)

pub returns-else-holds-clause-here : goal.returns-else-holds-clause-here
returns-else-holds-clause-here c = let self = c.args.self.now in let two =
    self.two c.in-Some.other c.in-Some.is in
    let there : bucket_of (mutex_guard_value c.in-Some.other).bits c.args.key
    ≢ (mutex_guard_value c.in-Some.other).number = search rules in
    here_else self.keys (mutex_guard_value self.first) (mutex_guard_value c.in-Some.other) c.args.key two
    c.requires.key there

pub invariant_of-self-clause-seated : goal.invariant_of-self-clause-seated
invariant_of-self-clause-seated c = let self = c.args.self.now in let two =
    self.two c.in-Some.other c.in-Some.is in
    rw (c.swap.ensures.x_after, two.0.0, two.0.1) self.seated

pub invariant_of-self-else-holds-clause-two : goal.invariant_of-self-else-holds-clause-two
invariant_of-self-else-holds-clause-two c = let self = c.args.self.now in
    for_some (λ guard. AreBuckets self.keys (mutex_guard_value self.first) (mutex_guard_value guard)) _
    (self.two c.in-Some.other c.in-Some.is)

pub invariant_of-self-else-holds-clause-apart : goal.invariant_of-self-else-holds-clause-apart
invariant_of-self-else-holds-clause-apart c = let self = c.args.self.now in
    λ nothing. for_some (λ guard. AreApartAt self.keys (mutex_guard_value self.first)
    (mutex_guard_value guard)) _ (self.apart nothing c.in-Some.other c.in-Some.is)
