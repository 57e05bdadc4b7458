-- The effect of a step on a word on the owners of the word.
use Rattle.std.specs.Prelude.{◌≡◌, ◌≢◌, ℕ, ◌+◌, ◌%◌, ◌^◌, ◌<◌, ◌≤◌, ◌⊎◌, zero, suc, ◌-◌, ◌/◌, List, [], ◌∷◌}
use Rattle.std.specs.Prelude.{◌++◌, Bool, true, false, cond, ◌==◌, ◌&&◌, ◌||◌, not, map}
use Rattle.core_base.specs.Words.{apply}
use Rattle.core_base.specs.declared.ops.Op.{Op}
use Rattle.core_base.specs.declared.ops.Op.TheVariants.{Load, Sub, Exchange}
use Rattle.core_words.specs.Indices.{word_index, mutex_of_count}
use Rattle.core_words.specs.Views.{going_on, total, owned, owning, owning_with}
use Rattle.core_words.specs.Codes.{Owners, Codes, Shows, IsCountCode}
use Rattle.core_words.specs.declared.owners.Owner.{Owner}
use Rattle.core_words.specs.declared.owners.Owner.TheVariants.{Exclusive, Pending, Upgrading, Upgradable}
use Rattle.core_words.specs.declared.owners.Owner.TheVariants.{Shared, Runner, Witness}
use Rattle.core_words.specs.declared.owners.Ownership.{Ownership}
use Rattle.core_words.specs.declared.views.View.{View}
use Rattle.core_words.specs.declared.views.WordStep.{WordStep}
use Rattle.core_words.specs.declared.words.WordKind.{WordKind}
use Rattle.core_words.specs.declared.words.WordKind.TheVariants.{Mutex, RwLock, Once, Condvar, Count}
use Rattle.core_words.specs.declared.words.WordKind.TheVariants.{Semaphore}

-- the ownerships that a step takes from its thread, and those that it brings
pub record Trade : Type 0 where
  pub gives : List Owner
  pub gets : List Owner

abbrev pub trading : List Owner → List Owner → Trade
trading gives gets = record { gives = gives; gets = gets }

-- by the value found and the value left: a thread that sets LOCKED enters, a thread that clears it leaves
abbrev pub mutex_trade : ℕ → ℕ → Trade
mutex_trade found left = cond (found % 2 == left % 2) (trading [] [])
    (cond (found % 2 == 0) (trading [] (Exclusive ∷ [])) (trading (Exclusive ∷ []) []))

abbrev pub owner_rank : Owner → ℕ
owner_rank Exclusive = 0
owner_rank Pending = 1
owner_rank Upgradable = 2
owner_rank Shared = 3
owner_rank Runner = 4
owner_rank Witness = 5
owner_rank Upgrading = 6

-- an ownership is this one
abbrev pub is_this : Ownership → Ownership → Bool
is_this x y = (x.at == y.at) && ((owner_rank x.owner == owner_rank y.owner) && (x.count == y.count))

abbrev pub has : Ownership → List Ownership → Bool
has x [] = false
has x (y ∷ ys) = is_this y x || has x ys

-- the list without the first ownership that is this one
abbrev pub without : Ownership → List Ownership → List Ownership
without x [] = []
without x (y ∷ ys) = cond (is_this y x) ys (y ∷ without x ys)

abbrev pub HasAll : ℕ → List Owner → List Ownership → Type 0
HasAll at [] owns = Unit {0}
HasAll at (o ∷ os) owns =
    (has (owning at o) owns ≡ true) × HasAll at os (without (owning at o) owns)

abbrev pub without_all : ℕ → List Owner → List Ownership → List Ownership
without_all at [] owns = owns
without_all at (o ∷ os) owns = without_all at os (without (owning at o) owns)

abbrev pub owns_after : ℕ → Trade → List Ownership → List Ownership
owns_after at t owns = map (owning at) t.gets ++ without_all at t.gives owns

-- a step that leaves the word as it found it, and tells its value
abbrev pub is_look : Op → ℕ → Bool
is_look Load found = true
is_look (Exchange from to) found = not (found == from)
is_look _ found = false

-- a thread that waits for the last readers: an upgrade has subtracted, and a writer has exchanged or was
-- handed the lock
abbrev pub waits_by : Op → Owner
waits_by (Sub _) = Upgrading
waits_by _ = Pending

-- a new writer is alone where the word is left without readers
abbrev pub writer_in : Op → ℕ → Owner
writer_in op left = cond (left / 16 == 0) Exclusive (waits_by op)

abbrev pub so_many_shared : ℕ → List Owner
so_many_shared zero = []
so_many_shared (suc n) = Shared ∷ so_many_shared n

-- the ownerships of so many permits of the word at an index
abbrev pub holding : ℕ → ℕ → List Ownership
holding at permits = map (owning at) (so_many_shared permits)

-- the owners that so many quarters of a word stand for: 4 for each shared one, 2 for a writer, 5
-- for an upgradable one
abbrev pub owners_in : ℕ → Op → ℕ → List Owner
owners_in part op left = cond (part % 4 == 2) (writer_in op left ∷ so_many_shared (part / 4))
    (cond (part % 4 == 1) (Upgradable ∷ so_many_shared (part / 4 - 1)) (so_many_shared (part / 4)))

-- a thread that waits for the last readers owns alone from the look that finds none left
abbrev pub settles : ℕ → Op → ℕ → List Ownership → Trade
settles at op found owns = cond (is_look op found && (found / 16 == 0))
    (cond (has (owning at Pending) owns) (trading (Pending ∷ []) (Exclusive ∷ []))
    (cond (has (owning at Upgrading) owns) (trading (Upgrading ∷ []) (Exclusive ∷ []))
    (trading [] [])))
    (trading [] [])

-- by the quarters of the word that are found and left, and by what the one that steps owns: a thread that
-- owns alone or is upgradable gives that up for all that is there then, and everybody else enters, leaves as
-- a shared owner, or gives up waiting
abbrev pub rwlock_trade : ℕ → Op → ℕ → ℕ → List Ownership → Trade
rwlock_trade at op found left owns = let a = found / 4 in let b = left / 4 in
    cond (b == a) (settles at op found owns)
    (cond (has (owning at Exclusive) owns)
    (trading (Exclusive ∷ []) (owners_in (b + 2 - a) op left))
    (cond (b + 4 == a) (trading (Shared ∷ []) [])
    (cond (b == a + 2) (trading [] (cond (found == 0) Exclusive Pending ∷ []))
    (cond (b == a + 4) (trading [] (Shared ∷ []))
    (cond (has (owning at Upgradable) owns)
    (trading (Upgradable ∷ []) (owners_in (b + 5 - a) op left))
    (cond (b == a + 5) (trading [] (Upgradable ∷ []))
    (cond (has (owning at Upgrading) owns) (trading (Upgrading ∷ []) (Upgradable ∷ []))
    (trading (Pending ∷ []) []))))))))

-- a thread that sets LOCKED runs, one that clears it has run, and one that finds or leaves DONE knows it
abbrev pub once_trade : ℕ → ℕ → Trade
once_trade found left = trading
    (cond ((found / 4 % 2 == 1) && (left / 4 % 2 == 0)) (Runner ∷ []) [])
    (cond (left == 1) (Witness ∷ [])
    (cond ((found / 4 % 2 == 0) && (left / 4 % 2 == 1)) (Runner ∷ []) []))

-- a thread that takes free permits of a semaphore has them, and one that frees some has them no more
abbrev pub semaphore_trade : ℕ → ℕ → Trade
semaphore_trade found left =
    trading (so_many_shared (left / 2 - found / 2)) (so_many_shared (found / 2 - left / 2))

-- for a thread that steps on the word at an index and owns these: by the operation and the value found
abbrev pub trade : WordKind → ℕ → Op → ℕ → List Ownership → Trade
trade Mutex at op found owns = mutex_trade found (apply op found)
trade RwLock at op found owns = rwlock_trade at op found (apply op found) owns
trade Once at op found owns = once_trade found (apply op found)
trade (Semaphore permits) at op found owns = semaphore_trade found (apply op found)
trade _ at op found owns = trading [] []

-- the ownerships after a step, by the operation and the value found
abbrev pub owns_after_step : WordKind → ℕ → Op → ℕ → List Ownership → List Ownership
owns_after_step kind at op found owns = owns_after at (trade kind at op found owns) owns

-- a count word is a count, and what an owner of its mutex says
abbrev pub CountAgrees : WordKind → ℕ → ℕ → List Ownership → Type 0
CountAgrees Count at n owns =
    IsCountCode n × ((count : ℕ) → has (owning_with (mutex_of_count at) count) owns ≡ true
    → count ≡ n)
CountAgrees _ at n owns = Unit {0}

-- a step that changes a condition variable's word hides the mutex that it shows, or shows a mutex
-- of another number that the thread owns. A count word stays as it is
abbrev pub MayTie : WordKind → ℕ → ℕ → ℕ → List Ownership → Type 0
MayTie Condvar at found left owns = (left ≡ found)
    ⊎ Shows (λ mutex. (at ≢ word_index mutex Condvar)
    × (has (owning (word_index mutex Mutex) Exclusive) owns ≡ true)) left
MayTie Count at found left owns = left ≡ found
MayTie _ at found left owns = Unit {0}

-- n is the code of owners among which these are
abbrev pub CodesWith : WordKind → ℕ → ℕ → List Ownership → Type 0
CodesWith kind at n owns = (owners : Owners) × Codes kind n owners
    × ((weight : Owner → ℕ) → owned at weight owns ≤ owners weight) × CountAgrees kind at n owns

-- each code that a step finds is of owners among which these are: these have what it gives up, it leaves the
-- code of the owners after it, and a word that is tied to a mutex stays so
abbrev pub MayStep : WordKind → ℕ → Op → List Ownership → Type 0
MayStep kind at op owns = (n : ℕ) (owners : Owners) → n < 2 ^ 64 → Codes kind n owners
    → ((weight : Owner → ℕ) → owned at weight owns ≤ owners weight) → CountAgrees kind at n owns
    → HasAll at (trade kind at op n owns).gives owns
    × ((after : Owners)
    → ((weight : Owner → ℕ) → after weight + total weight (trade kind at op n owns).gives
    ≡ owners weight + total weight (trade kind at op n owns).gets)
    → Codes kind (apply op n) after)
    × MayTie kind at n (apply op n) owns

abbrev pub one_more_step : View → ℕ → Op → ℕ → List WordStep
one_more_step v at op found = v.steps ++ record { at = at; op = op; seen = found } ∷ []

-- the view after a step at an index: the step is listed, and it owns what the step trades
abbrev pub after_step : WordKind → ℕ → Op → ℕ → View → View
after_step kind at op found v =
    going_on v (one_more_step v at op found) (owns_after_step kind at op found v.owns) v.drawn v.saw
