use Rattle.std.proofs.Common.{rules, ◌+◌, ◌<◌}
use Rattle.lock_raw.specs.Counts.{Names, times_in}
use Rattle.raw_mutexes.specs.Counting.{IsShareOf, SawCount, StoredCount}
use Rattle.raw_mutexes.specs.Words.{lot_of}
use Rattle.raw_mutexes.proofs.counting.RawMutexRawMutexCounted.count_again.Goals as goal

pub returns-clause-share : goal.returns-clause-share
returns-clause-share c = let mutex = c.args.self.now in let n = mutex.word.number in let old =
    c.args.token.now in let looked = c.look_count-seen.new.token in let new = c.count_again-share.new.token in
    let seen = c.look_count-seen.result in
    let share : IsShareOf (lot_of mutex) mutex.word record { share = c.count_again-share.result } =
    search rules in
    let saw : SawCount n seen old looked = search rules in
    let named : Names old.number seen = search rules in
    let below : times_in seen < 4294967295 = search rules in
    let stored : StoredCount n seen (seen + 1) looked new = search rules in
    (share, (seen, looked, saw, named, below, stored))
