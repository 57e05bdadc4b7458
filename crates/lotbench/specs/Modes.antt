-- The names of the modes.
use Rattle.std.specs.Prelude.{◌≡◌, ◌≢◌, ℕ, List, codes, Option, MatchOption}
use Rattle.lotbench.specs.declared.plans.Mode.{Mode}
use Rattle.lotbench.specs.declared.plans.Mode.TheVariants.{RawMutex, RawMutexTry, Mutex, MutexTry, Fair, Many}
use Rattle.lotbench.specs.declared.plans.Mode.TheVariants.{ManyFair, Remutex, Remutex2, RawRead, RawWrite}
use Rattle.lotbench.specs.declared.plans.Mode.TheVariants.{Read, Write, RwMix, ReadRecursive, Upgradable}
use Rattle.lotbench.specs.declared.plans.Mode.TheVariants.{Upgrade, Downgrade, Once, Semaphore, Semaphore2}
use Rattle.lotbench.specs.declared.plans.Mode.TheVariants.{Notify, NotifyAll, PingPong, ManyTurns, Queue}

abbrev pub mode_name : Mode → List ℕ
mode_name RawMutex = codes "raw_mutex"
mode_name RawMutexTry = codes "raw_mutex_try"
mode_name Mutex = codes "mutex"
mode_name MutexTry = codes "mutex_try"
mode_name Fair = codes "fair"
mode_name Many = codes "many"
mode_name ManyFair = codes "many_fair"
mode_name Remutex = codes "remutex"
mode_name Remutex2 = codes "remutex2"
mode_name RawRead = codes "raw_read"
mode_name RawWrite = codes "raw_write"
mode_name Read = codes "read"
mode_name Write = codes "write"
mode_name RwMix = codes "rw_mix"
mode_name ReadRecursive = codes "read_recursive"
mode_name Upgradable = codes "upgradable"
mode_name Upgrade = codes "upgrade"
mode_name Downgrade = codes "downgrade"
mode_name Once = codes "once"
mode_name Semaphore = codes "semaphore"
mode_name Semaphore2 = codes "semaphore2"
mode_name Notify = codes "notify"
mode_name NotifyAll = codes "notify_all"
mode_name PingPong = codes "pingpong"
mode_name ManyTurns = codes "many_turns"
mode_name Queue = codes "queue"

-- the mode of a name, and none where no mode has it
abbrev pub IsModeNamed : List ℕ → Option Mode → Type 0
IsModeNamed name found =
    MatchOption found ((mode : Mode) → mode_name mode ≢ name) (λ mode. mode_name mode ≡ name)
