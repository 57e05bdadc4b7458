use Rattle.std.proofs.Common.{rules, ◌≡◌}
use Rattle.lock_raw.specs.Counts.{times_in}
use Rattle.raw_mutexes.specs.Counting.{SawCount, StoredCount}
use Rattle.raw_mutexes.specs.MutexGuards.{IsGuardOf}
use Rattle.raw_mutexes.specs.Words.{lot_of}
use Rattle.raw_mutexes.proofs.counting.RawMutexRawMutexCounted.count_off_only.Goals as goal

pub returns-clause-guard : goal.returns-clause-guard
returns-clause-guard c = let mutex = c.args.self.now in let n = mutex.word.number in let old =
    c.args.token.now in let looked = c.look_by_share-seen.new.token in let new = c.count_out-opened.new.token in
    let seen = c.look_by_share-seen.result in
    let guard : IsGuardOf (lot_of mutex) mutex.word record {
      opened = c.count_out-opened.result.0;
      permit = c.count_out-opened.result.1;
    } = search rules in
    let saw : SawCount n seen old looked = search rules in
    let once : times_in seen ≡ 1 = search rules in
    let stored : StoredCount n seen 0 looked new = search rules in
    (guard, (seen, looked, saw, once, stored))
