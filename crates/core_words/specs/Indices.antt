-- The indices of the words of a lot in its table.
use Rattle.std.specs.Prelude.{ℕ, ◌+◌, ◌-◌, ◌*◌, ◌%◌, cond, ◌==◌}
use Rattle.core_words.specs.declared.words.WordKind.{WordKind}
use Rattle.core_words.specs.declared.words.WordKind.TheVariants.{Mutex, RwLock, Condvar, Once, Count}
use Rattle.core_words.specs.declared.words.WordKind.TheVariants.{Semaphore}

-- the greatest lot
abbrev pub most_words : ℕ
most_words = 1048576

abbrev pub rank : WordKind → ℕ
rank Mutex = 0
rank RwLock = 1
rank Condvar = 2
rank Once = 3
rank Count = 4
rank (Semaphore permits) = 5

-- the index of the counter of drawn words
abbrev pub counter : ℕ
counter = 0

-- the index of the word of a number and a kind: each number has eight, which is a cache line
abbrev pub word_index : ℕ → WordKind → ℕ
word_index number kind = 8 * (number + 1) + rank kind

-- the mutex of a count word: the word of the number before
abbrev pub mutex_of_count : ℕ → ℕ
mutex_of_count at = at - 12

-- how many there are for so many words and the counter
abbrev pub table_size : ℕ → ℕ
table_size words = 8 * (words + 1)

abbrev pub kind_of_rank : ℕ → WordKind
kind_of_rank r = cond (r == 0) Mutex
    (cond (r == 1) RwLock (cond (r == 2) Condvar (cond (r == 3) Once
    (cond (r == 4) Count (Semaphore 0)))))

-- a kind without the number of permits, which no index tells
abbrev pub plain : WordKind → WordKind
plain (Semaphore permits) = Semaphore 0
plain kind = kind

-- with how many permits a word of this kind is drawn
abbrev pub permits_in : WordKind → ℕ
permits_in (Semaphore permits) = permits
permits_in kind = 0

-- the plain kind of the word at an index
abbrev pub word_kind_at : ℕ → WordKind
word_kind_at at = kind_of_rank (at % 8)
