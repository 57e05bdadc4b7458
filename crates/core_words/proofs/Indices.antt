-- An index tells its number and its kind.
use Rattle.std.proofs.Common.{◌≡◌, ℕ, ◌%◌, ◌<◌, sym, refl, ap, ◌∙◌, arith}
use Rattle.core_words.specs.Indices.{rank, word_index, kind_of_rank, word_kind_at, plain}
use Rattle.core_words.specs.declared.words.WordKind.{WordKind}
use Rattle.core_words.specs.declared.words.WordKind.TheVariants.{Mutex, RwLock, Condvar, Once, Count}
use Rattle.core_words.specs.declared.words.WordKind.TheVariants.{Semaphore}

pub rank_lt : (kind : WordKind) → rank kind < 8
rank_lt Mutex = omega arith
rank_lt RwLock = omega arith
rank_lt Condvar = omega arith
rank_lt Once = omega arith
rank_lt Count = omega arith
rank_lt (Semaphore permits) = omega arith

pub kind_of_rank-rank : (kind : WordKind) → kind_of_rank (rank kind) ≡ plain kind
kind_of_rank-rank Mutex = refl
kind_of_rank-rank RwLock = refl
kind_of_rank-rank Condvar = refl
kind_of_rank-rank Once = refl
kind_of_rank-rank Count = refl
kind_of_rank-rank (Semaphore permits) = refl

pub word_kind_at-index : (number : ℕ) (kind : WordKind) → word_kind_at (word_index number kind) ≡ plain kind
word_kind_at-index number kind = let e : word_index number kind % 8 ≡ rank kind = omega (arith, rank_lt kind)
    in ap kind_of_rank e ∙ kind_of_rank-rank kind

pub index-number : (number number' : ℕ) (kind kind' : WordKind) → word_index number kind ≡ word_index number'
    kind' → number ≡ number'
index-number number number' kind kind' e = omega (arith, rank_lt kind, rank_lt kind')

pub index-kind : (number number' : ℕ) (kind kind' : WordKind) → word_index number kind ≡ word_index number'
    kind' → plain kind ≡ plain kind'
index-kind number number' kind kind' e = let r : rank kind ≡ rank kind' = omega (
  arith,
  rank_lt kind,
  rank_lt kind',
) in
    sym (kind_of_rank-rank kind) ∙ ap kind_of_rank r ∙ kind_of_rank-rank kind'

-- a plain mutex is one
pub plain_mutex : (kind : WordKind) → plain kind ≡ Mutex → kind ≡ Mutex
plain_mutex Mutex e = refl
plain_mutex RwLock e = e
plain_mutex Condvar e = e
plain_mutex Once e = e
plain_mutex Count e = e
plain_mutex (Semaphore permits) e = absurd (omega (arith, ap rank e))

pub rank_plain : (kind : WordKind) → rank (plain kind) ≡ rank kind
rank_plain Mutex = refl
rank_plain RwLock = refl
rank_plain Condvar = refl
rank_plain Once = refl
rank_plain Count = refl
rank_plain (Semaphore permits) = refl
