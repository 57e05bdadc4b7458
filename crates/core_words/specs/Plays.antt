-- The facts that each step tells the thread that takes it: of the step, the seat before, the value
-- found and the seat after.
use Rattle.std.specs.Prelude.{Ok, Err, ◌≡◌, ◌≢◌, bit_or, ℕ, ◌+◌, ◌/◌, ◌%◌, ◌^◌, ◌<◌, ◌≤◌, List, [], ◌∷◌, ◌++◌}
use Rattle.std.specs.declared.result.Result.{Result}
use Rattle.atomic_table.specs.Table.{Me, Step}
use Rattle.core_base.specs.declared.ops.Op.{Op}
use Rattle.core_base.specs.declared.ops.Op.TheVariants.{Load, Store, Swap, Add, Sub, Or, And, Exchange}
use Rattle.core_words.specs.Indices.{counter, word_index, word_kind_at}
use Rattle.core_words.specs.Codes.{ShowsBeside, shared}
use Rattle.core_words.specs.Views.{shown, view, going_on, counts_in, with_out, owned, drew_permits}
use Rattle.core_words.specs.Permits.{out_after, slots_of}
use Rattle.core_parts.specs.declared.slot.PermitSlot.{PermitSlot}
use Rattle.core_words.specs.Steps.{CodesWith, one_more_step, after_step, holding, without}
use Rattle.core_words.specs.declared.owners.Ownership.{Ownership}
use Rattle.core_words.specs.declared.views.Drawn.{Drawn}
use Rattle.core_words.specs.declared.views.Naming.TheVariants.{Nobody}
use Rattle.core_words.specs.declared.views.View.{View}
use Rattle.core_words.specs.declared.words.WordKind.{WordKind}
use Rattle.core_words.specs.declared.words.WordKind.TheVariants.{Semaphore}

abbrev pub Play : Type 0 → Type 1
Play S = Step S → Me S View → ℕ → Me S View → Type 0

-- the value found is a code in which the seat's own ownerships are counted. Its view changes by this
-- step alone, and the slots that are out with it follow
abbrev pub TakesStepOf :
    ℕ → WordKind → ℕ → Op → Me PermitSlot View → ℕ → Me PermitSlot View → Type 0
TakesStepOf family kind at op me found after = let out = out_after kind at op found me.0.out in
    (after ≡ (with_out out (after_step kind at op found me.0), slots_of family out))
    × CodesWith kind at found me.0.owns

-- an index tells the kind
abbrev pub TakesStep : ℕ → ℕ → Op → Me PermitSlot View → ℕ → Me PermitSlot View → Type 0
TakesStep family at op me found after =
    TakesStepOf family (word_kind_at at) at op me found after

abbrev pub loads : ℕ → Play PermitSlot
loads family st me found after = TakesStep family st.word Load me found after

abbrev pub swaps : ℕ → Play PermitSlot
swaps family st me found after = TakesStep family st.word (Swap st.first) me found after

abbrev pub adds : ℕ → Play PermitSlot
adds family st me found after = TakesStep family st.word (Add st.first) me found after

abbrev pub subs : ℕ → Play PermitSlot
subs family st me found after = TakesStep family st.word (Sub st.first) me found after

abbrev pub ors : ℕ → Play PermitSlot
ors family st me found after = TakesStep family st.word (Or st.first) me found after

-- a load that finds the bits set is an or with them, and any other is no step
abbrev pub saw_set : ℕ → ℕ → Play PermitSlot
saw_set family bits st me found after =
    (bit_or found bits ≡ found → TakesStep family st.word (Or bits) me found after)
    × (bit_or found bits ≢ found → after ≡ me)

-- a load of a condition variable's word, of this number and in a lot of so many words, which tells
-- what it may show
abbrev pub sees_shown : ℕ → ℕ → ℕ → Play PermitSlot
sees_shown family words number st me found after = TakesStep family st.word Load me found after
    × ShowsBeside words number found

abbrev pub ands : ℕ → Play PermitSlot
ands family st me found after = TakesStep family st.word (And st.first) me found after

abbrev pub exchanges : ℕ → Play PermitSlot
exchanges family st me found after =
    TakesStep family st.word (Exchange st.first st.second) me found after

-- a store is listed as such, and found what a swap finds
abbrev pub stores : ℕ → Play PermitSlot
stores family st me found after = TakesStep family st.word (Store st.first) me found after

-- the words that are drawn together, from a number on
abbrev pub numbered : ℕ → List WordKind → List Drawn
numbered number [] = []
numbered number (kind ∷ kinds) =
    record { number = number; kind = kind } ∷ numbered (number + 1) kinds

abbrev pub looks_at_word : {S : Type 0} → Play S
looks_at_word st me found after = after ≡ (
  with_out me.0.out (going_on me.0 (one_more_step me.0 counter Load found) me.0.owns me.0.drawn found),
  me.1,
)

-- words of these kinds are drawn where the counter is as expected, and else it is greater
abbrev pub draws : {S : Type 0} → List WordKind → Play S
draws kinds st me found after =
    (found ≡ st.first → after ≡ (
      with_out me.0.out (going_on me.0 (one_more_step me.0 counter (Exchange st.first st.second) found)
          me.0.owns
          (numbered found kinds ++ me.0.drawn) st.second),
      me.1,
    ))
    × (found ≢ st.first → (st.first < found)
    × (after ≡ (
      with_out me.0.out (going_on me.0 (one_more_step me.0 counter (Exchange st.first st.second) found)
          me.0.owns
          me.0.drawn found),
      me.1,
    )))

-- a semaphore's word is drawn where the counter is as expected, with so many permits, which the thread that
-- draws it holds; and else the counter is greater
abbrev pub draws_permits : {S : Type 0} → ℕ → Play S
draws_permits permits st me found after =
    (found ≡ st.first → after ≡ (
      with_out me.0.out (going_on me.0 (one_more_step me.0 counter (Exchange st.first st.second) found)
          (holding (word_index found (Semaphore permits)) permits ++ me.0.owns)
          (numbered found (Semaphore permits ∷ []) ++ me.0.drawn) st.second),
      me.1,
    ))
    × (found ≢ st.first → (st.first < found)
    × (after ≡ (
      with_out me.0.out (going_on me.0 (one_more_step me.0 counter (Exchange st.first st.second) found)
          me.0.owns
          me.0.drawn found),
      me.1,
    )))

-- the free permits of a semaphore of this number, with those that a view names, are no more than those with
-- which its word was drawn, and these are known to the thread that drew it
abbrev pub WithinPermits : ℕ → ℕ → View → Type 0
WithinPermits number n v =
    (all : ℕ) × (n / 2 + owned (word_index number (Semaphore 0)) shared v.owns ≤ all)
    × (all ≤ 2 ^ 62) × (0 < drew_permits number v → all ≡ drew_permits number v)

-- a load of such a word
abbrev pub sees_free : ℕ → ℕ → Play PermitSlot
sees_free family number st me found after =
    TakesStep family st.word Load me found after × WithinPermits number found me.0

-- one ownership is split off a view
abbrev pub left_over : Ownership → View → View
left_over x v = going_on v v.steps (without x v.owns) v.drawn v.saw

abbrev pub piece : Ownership → View
piece x = view [] (x ∷ []) [] 0

-- a view takes in what another owns
abbrev pub takes_in : View → View → View
takes_in v w = going_on v v.steps (w.owns ++ v.owns) v.drawn v.saw

-- a view without a number and without shares, which says nothing of counts
abbrev pub BringsNoName : View → Type 0
BringsNoName w = (w.naming ≡ Nobody) × (w.shares ≡ []) × (counts_in w.owns ≡ 0)

-- a view goes on with what another, which drew nothing, has done and owns
abbrev pub goes_on_with : View → View → View
goes_on_with v w = going_on v (v.steps ++ w.steps) (w.owns ++ v.owns) v.drawn v.saw

-- a view with one step more, which trades nothing
abbrev pub stepping : View → ℕ → Op → ℕ → View
stepping v at op found = going_on v (one_more_step v at op found) v.owns v.drawn v.saw

-- a step where the number that it expects of the word is the real one. Where it is another it is no
-- step, and tells as much of the value found
abbrev pub TakesExpected : ℕ → ℕ → Op → Play PermitSlot
TakesExpected family real op st me found after =
    (st.first ≡ real → TakesStep family st.word op me found after)
    × (st.first ≢ real → (after ≡ me)
    × CodesWith (word_kind_at st.word) st.word found me.0.owns)

-- a mutex is entered, and is given up
abbrev pub takes_mutex : ℕ → Play PermitSlot
takes_mutex family = TakesExpected family 0 (Exchange 0 1)

-- the value that a step saw which enters an unlocked mutex, or finds another value
abbrev pub entering_saw : {A : Type 0} → Result A ℕ → ℕ
entering_saw (Ok taken) = 0
entering_saw (Err seen) = seen

abbrev pub gives_mutex_up : ℕ → Play PermitSlot
gives_mutex_up family = TakesExpected family 1 (Sub 1)

abbrev pub leaves_alone : ℕ → Play PermitSlot
leaves_alone family = TakesExpected family 1 (Exchange 1 0)

-- an even number: a mutex's word that is unlocked
abbrev pub IsEven : ℕ → Type 0
IsEven n = n % 2 ≡ 0

-- a load that finds a mutex locked is a try, and any other is no step
abbrev pub sees_locked : ℕ → Play PermitSlot
sees_locked family st me found after =
    (IsEven found → after ≡ me)
    × ((IsEven found → ⊥) → TakesStep family st.word (Or 1) me found after)

-- an exchange in place of a try, of a mutex that was seen unlocked: it is the try where it finds
-- what was seen, or finds the mutex locked, and any other is no step
abbrev pub tries_seen : ℕ → Play PermitSlot
tries_seen family st me found after =
    (found ≡ st.first → TakesStep family st.word (Or 1) me found after)
    × ((found ≢ st.first → IsEven found → after ≡ me)
    × ((IsEven found → ⊥) → TakesStep family st.word (Or 1) me found after))

-- an owner of the mutex of an index has its permit out, and no other
abbrev pub takes_out : ℕ → ℕ → Me PermitSlot View → Me PermitSlot View → Type 0
takes_out family at me after = after ≡ (with_out (at ∷ []) me.0, slots_of family (at ∷ []))

-- a seat has none out
abbrev pub lays_back : Me PermitSlot View → Me PermitSlot View → Type 0
lays_back me after = after ≡ (shown me.0, [])
