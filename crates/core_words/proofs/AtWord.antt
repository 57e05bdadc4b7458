-- A step on a word of a lot, as the lot's table wants it.
use Rattle.std.proofs.Common.{List, ◌≡◌, ◌≢◌, ℕ, ◌+◌, ◌%◌, ◌<◌, ◌⊎◌, cond, eqb, Bool, true, false, ◌∙◌, ap}
use Rattle.std.proofs.Common.{arith, sym, subst, refl}
use mathlib.Core.Logic.{dite}
use mathlib.Core.Option.{none}
use native.Mathlib.Decide.{ℕ_discrete}
use Rattle.atomic_table.specs.Table.{Allows, Me, step}
use Rattle.atomic_table.specs.declared.shared.Seat.{Seat}
use Rattle.core_parts.specs.Changes.{Stirs}
use Rattle.core_words.specs.Indices.{rank, word_index, word_kind_at, plain}
use Rattle.core_words.specs.Codes.{exclusive}
use Rattle.core_words.specs.Views.{blank, owned}
use Rattle.core_words.specs.Rights.{leaving_alone, named_by, piece_of, takes_permit}
use Rattle.core_words.specs.Rule.{LotRule}
use Rattle.core_parts.specs.declared.slot.PermitSlot.{PermitSlot}
use Rattle.core_words.specs.Steps.{CodesWith, MayStep, has}
use Rattle.core_words.specs.Plays.{TakesExpected, TakesStep, TakesStepOf, goes_on_with, stepping, takes_in}
use Rattle.core_words.specs.Plays.{takes_out, lays_back, saw_set, sees_free, sees_locked, sees_shown}
use Rattle.core_words.specs.Plays.{tries_seen}
use Rattle.core_words.specs.Lots.{IsSeatOf, IsWordOf}
use Rattle.core_words.specs.declared.table.LotWords.{LotWords}
use Rattle.core_words.specs.declared.owners.Owner.{Owner}
use Rattle.core_words.specs.declared.owners.Ownership.{Ownership}
use Rattle.core_words.specs.declared.owners.Owner.TheVariants.{Exclusive, Pending, Upgrading, Upgradable}
use Rattle.core_words.specs.declared.owners.Owner.TheVariants.{Shared, Runner, Witness}
use Rattle.core_words.specs.declared.views.View.{View}
use Rattle.core_words.specs.declared.words.Word.{Word}
use Rattle.core_base.specs.Words.{apply}
use Rattle.core_base.specs.declared.ops.Op.{Op}
use Rattle.core_base.specs.declared.ops.Op.TheVariants.{Exchange, Or}
use Rattle.core_words.proofs.Stepping.{expected_allowed, sees_locked_allowed, sees_set, steps_at_word}
use Rattle.core_words.proofs.Stepping.{tries_seen_allowed}
use Rattle.core_words.proofs.TiedSteps.{sees_shown_allowed}
use Rattle.core_words.proofs.Endowing.{sees_free_allowed}
use Rattle.core_words.proofs.PermitSteps.{lays_back_allowed, takes_out_allowed}
use Rattle.core_words.proofs.Totals.{cond_other}
use Rattle.core_words.proofs.Trades.{owned_some, zero_either}
use Rattle.core_words.specs.declared.words.WordKind.{WordKind}
use Rattle.core_words.specs.declared.words.WordKind.TheVariants.{Mutex, RwLock, Condvar, Once, Count}
use Rattle.core_words.specs.declared.words.WordKind.TheVariants.{Semaphore}
use Rattle.core_words.proofs.Indices.{rank_lt, rank_plain, word_kind_at-index, plain_mutex}

-- a step tells of the kind what it tells of the plain kind
of_plain : (family at : ℕ) (kind : WordKind) (op : Op) (me after : Me PermitSlot View) (found : ℕ)
    → TakesStepOf family (plain kind) at op me found after → TakesStepOf family kind at op me found after
of_plain family at Mutex op me after found t = t
of_plain family at RwLock op me after found t = t
of_plain family at Condvar op me after found t = t
of_plain family at Once op me after found t = t
of_plain family at Count op me after found t = t
of_plain family at (Semaphore permits) op me after found t = t

-- gives what a step at an index tells, by the word that has this index and the operation that was matched
pub tells_step : {at : ℕ} {op op' : Op} (family number : ℕ) (kind : WordKind) (me after : Me PermitSlot View)
    (found : ℕ) → at ≡ word_index number kind → op ≡ op'
    → TakesStep family at op' me found after → TakesStepOf family kind (word_index number kind) op me found
    after
tells_step {at} {op} {op'} family number kind me after found there is told =
    subst (λ (x : Op). TakesStepOf family kind (word_index number kind) x me found after) (sym is)
    (of_plain family (word_index number kind) kind op' me after found
    (subst (λ (k : WordKind). TakesStepOf family k (word_index number kind) op' me found after)
    (word_kind_at-index number kind)
    (subst (λ (i : ℕ). TakesStep family i op' me found after) there told)))

-- a code is one too
coded_plain : (at found : ℕ) (owns : List Ownership) (kind : WordKind) → CodesWith (plain kind) at found owns
    → CodesWith kind at found owns
coded_plain at found owns Mutex c = c
coded_plain at found owns RwLock c = c
coded_plain at found owns Condvar c = c
coded_plain at found owns Once c = c
coded_plain at found owns Count c = c
coded_plain at found owns (Semaphore permits) c = c

-- a step that expects a number finds a code, also where it is none
pub expects_code : (family real number at first : ℕ) (kind : WordKind) (op : Op)
    (me after : Me PermitSlot View) (found : ℕ) → at ≡ word_index number kind
    → (first ≡ real → TakesStep family at op me found after)
    × (first ≢ real → (after ≡ me) × CodesWith (word_kind_at at) at found me.0.owns)
    → CodesWith kind (word_index number kind) found me.0.owns
expects_code family real number at first kind op me after found there told = dite (ℕ_discrete first real)
    (λ expected. (tells_step family number kind me after found there refl (told.0 expected)).1)
    (λ other. coded_plain (word_index number kind) found me.0.owns kind
    (subst (λ (k : WordKind). CodesWith k (word_index number kind) found me.0.owns)
    (word_kind_at-index number kind)
    (subst (λ (i : ℕ). CodesWith (word_kind_at i) i found me.0.owns) there (told.1 other).1)))

-- a mutex's word is below 4
pub mutex_code : (kind : WordKind) (at found : ℕ) (owns : List Ownership) → kind ≡ Mutex
    → CodesWith kind at found owns → found < 4
mutex_code kind at found owns is code = let own : CodesWith Mutex at found owns =
    subst (λ (k : WordKind). CodesWith k at found owns) is code in own.1.0

-- a step that expected 0, or a number above 3, and found what it expected has found 0
pub finds_0 : (expected found : ℕ) → found ≡ expected → found < 4 → (expected ≢ 0 → 3 < expected) → found ≡ 0
finds_0 expected found same few far = dite (ℕ_discrete expected 0)
    (λ zero. same ∙ zero)
    (λ other. let above = far other in absurd (omega arith))

-- a step at an index is allowed to a seat that goes on by this
abbrev pub AllowedAt : LotWords → Seat PermitSlot View → ℕ → (ℕ → ℕ) → (ℕ → Me PermitSlot View → Type 0)
    → Type 0
AllowedAt lot seat i change then = (seat.table_id ≡ lot.table.shared.table_id)
    × (i < lot.table.shared.table_id.words)
    × Allows (LotRule lot.table.shared.key.0 lot.table.shared.key.1.family) lot.table.shared.table_id.slots
    seat.id seat.me i change then

-- a change of a view without a step is allowed to a seat that goes on by this
abbrev pub StirsAt : LotWords → Seat PermitSlot View → (Me PermitSlot View → Type 0) → Type 0
StirsAt lot seat then = (seat.table_id ≡ lot.table.shared.table_id)
    × Stirs (LotRule lot.table.shared.key.0 lot.table.shared.key.1.family) lot.table.shared.table_id.slots
    seat.id seat.me then

module _ (lot : LotWords) (seat : Seat PermitSlot View) (word : Word) (own : IsSeatOf lot seat
    × IsWordOf lot word) where
  abbrev words : ℕ
  words = lot.table.shared.key.0

  abbrev from : ℕ
  from = lot.table.shared.key.1.family

  abbrev slots : ℕ
  slots = lot.table.shared.table_id.slots

  pub below : word.number < words
  below = let sized = lot.sized in let drawn = own.1 in omega (arith, sized.1, drawn.1)

  pub near : (i : ℕ) → i ≡ word_index word.number word.kind → i < lot.table.shared.table_id.words
  near i here = let sized = lot.sized in omega (arith, rank_lt word.kind, sized.0, sized.1, below, here)

  -- by the index that was computed and the operation that was matched
  pub table_allows : {at : ℕ} {op op' : Op} (family : ℕ) → family ≡ from → MayStep word.kind
      (word_index word.number word.kind) op seat.me.0.owns → at ≡ word_index word.number word.kind → op ≡ op'
      → AllowedAt lot seat at (apply op') (TakesStep family at op' seat.me)
  table_allows {at} {op} {op'} family same may there is = let seated = own.0 in (
    seated.0,
    near at there,
    subst (λ (f : ℕ). Allows (LotRule words from) slots seat.id seat.me at (apply op')
        (TakesStep f at op' seat.me)) (sym same)
        (steps_at_word words from slots seat.id seat.me word.number word.kind at op op' is there below
        seated.1 may),
  )

  -- a load in place of an or
  pub table_allows_load : {at : ℕ} (family bits : ℕ) → family ≡ from
      → MayStep word.kind (word_index word.number word.kind) (Or bits) seat.me.0.owns
      → at ≡ word_index word.number word.kind
      → AllowedAt lot seat at (λ n. n) (saw_set family bits (step slots at 0 0 none) seat.me)
  table_allows_load {at} family bits same may there = let seated = own.0 in
      let Goal : ℕ → ℕ → Type 0 = λ f i. Allows (LotRule words from) slots seat.id seat.me i (λ n. n)
      (saw_set f bits (step slots i 0 0 none) seat.me) in (
        seated.0,
        near at there,
        subst (λ (f : ℕ). Goal f at) (sym same) (subst (λ (i : ℕ). Goal from i) (sym there)
            (sees_set words from slots seat.id seat.me word.number word.kind bits below seated.1 may)),
      )

  -- a load of a condition variable's word, which tells what it may show
  pub table_sees_shown : (family most number at : ℕ) → family ≡ from → most ≡ lot.count → number ≡ word.number
      → at ≡ word_index word.number word.kind → word.kind ≡ Condvar
      → AllowedAt lot seat at (λ n. n) (sees_shown family most number (step slots at 0 0 none) seat.me)
  table_sees_shown family most number at same all is_it there is = let sized = lot.sized in let seated = own.0
      in
      let Goal : ℕ → ℕ → ℕ → ℕ → Type 0 = λ f w n i. Allows (LotRule words from) slots seat.id seat.me i
      (λ m. m) (sees_shown f w n (step slots i 0 0 none) seat.me) in
      let here : at ≡ word_index word.number Condvar = there ∙ ap (λ (k : WordKind). word_index word.number k)
      is in (
        seated.0,
        near at there,
        subst (λ (f : ℕ). Goal f most number at) (sym same) (subst (λ (w : ℕ). Goal from w number at) (sized.1
            ∙ sym all) (subst (λ (n : ℕ). Goal from words n at) (sym is_it)
            (subst (λ (i : ℕ). Goal from words word.number i) (sym here)
            (sees_shown_allowed words from slots seat.id seat.me word.number below seated.1)))),
      )

  -- a load of a semaphore's word, which tells how many permits may be free
  pub table_sees_free : (family number at : ℕ) → family ≡ from → number ≡ word.number
      → at ≡ word_index word.number word.kind → plain word.kind ≡ Semaphore 0
      → AllowedAt lot seat at (λ n. n) (sees_free family number (step slots at 0 0 none) seat.me)
  table_sees_free family number at same is_it there is = let seated = own.0 in
      let Goal : ℕ → ℕ → ℕ → Type 0 = λ f n i. Allows (LotRule words from) slots seat.id seat.me i (λ m. m)
      (sees_free f n (step slots i 0 0 none) seat.me) in
      let here : at ≡ word_index word.number (Semaphore 0) = omega (
        arith,
        there,
        rank_plain word.kind,
        ap rank is,
      ) in (
        seated.0,
        near at there,
        subst (λ (f : ℕ). Goal f number at) (sym same) (subst (λ (n : ℕ). Goal from n at) (sym is_it)
            (subst (λ (i : ℕ). Goal from word.number i) (sym here)
            (sees_free_allowed words from slots seat.id seat.me word.number below seated.1))),
      )

  -- the index of a mutex
  pub at_mutex : word.kind ≡ Mutex → word_index word.number word.kind ≡ word_index word.number Mutex
  at_mutex is = ap (λ (k : WordKind). word_index word.number k) is

  -- each step that a mutex allows is allowed at a word that is one
  pub may_mutex : word.kind ≡ Mutex → (op : Op) → MayStep Mutex (word_index word.number Mutex) op
      seat.me.0.owns → MayStep word.kind (word_index word.number word.kind) op seat.me.0.owns
  may_mutex is op may = subst (λ (k : WordKind). MayStep k (word_index word.number k) op seat.me.0.owns)
      (sym is) may

  -- a load of the counter, after which the permit of a mutex that the seat owns is out
  pub table_takes_out : (family at : ℕ) → family ≡ from → at ≡ word_index word.number word.kind
      → word.kind ≡ Mutex → has (named_by word Exclusive) seat.me.0.owns ≡ true
      → StirsAt lot seat (takes_out family at seat.me)
  table_takes_out family at same there is owns = let sized = lot.sized in let seated = own.0 in
      let i : ℕ = word_index word.number Mutex in
      let Goal : ℕ → ℕ → Type 0 = λ f j. Stirs (LotRule words from) slots seat.id seat.me
      (takes_out f j seat.me) in
      let mine = owned_some (word_index word.number word.kind) Exclusive seat.me.0.owns owns exclusive
      (omega arith) in (
        seated.0,
        subst (λ (f : ℕ). Goal f at) (sym same) (subst (λ (j : ℕ). Goal from j) (sym (there ∙ at_mutex is))
            (takes_out_allowed words from slots seat.id seat.me word.number below
            (subst (λ (r : ℕ). 0 < owned r exclusive seat.me.0.owns) (at_mutex is) mine) seated.1)),
      )

  -- a load in place of a try
  pub table_sees_locked : (family i : ℕ) → family ≡ from → i ≡ word_index word.number word.kind
      → word.kind ≡ Mutex
      → AllowedAt lot seat i (λ n. n) (sees_locked family (step slots i 0 0 none) seat.me)
  table_sees_locked family i same here is = let seated = own.0 in
      let Goal : ℕ → ℕ → Type 0 = λ f j. Allows (LotRule words from) slots seat.id seat.me j (λ n. n)
      (sees_locked f (step slots j 0 0 none) seat.me) in (
        seated.0,
        near i here,
        subst (λ (f : ℕ). Goal f i) (sym same) (subst (λ (j : ℕ). Goal from j) (sym (here ∙ at_mutex is))
            (sees_locked_allowed words from slots seat.id seat.me word.number below seated.1)),
      )

  -- An exchange on the table sees what was there.
  pub table_tries_seen : (family i seen : ℕ) → seen % 2 ≡ 0 → family ≡ from
      → i ≡ word_index word.number word.kind → word.kind ≡ Mutex
      → AllowedAt lot seat i (apply (Exchange seen (seen + 1)))
      (tries_seen family (step slots i seen (seen + 1) none) seat.me)
  table_tries_seen family i seen even same here is = let seated = own.0 in
      let Goal : ℕ → ℕ → Type 0 = λ f j. Allows (LotRule words from) slots seat.id seat.me j
      (apply (Exchange seen (seen + 1))) (tries_seen f (step slots j seen (seen + 1) none) seat.me) in (
        seated.0,
        near i here,
        subst (λ (f : ℕ). Goal f i) (sym same) (subst (λ (j : ℕ). Goal from j) (sym (here ∙ at_mutex is))
            (tries_seen_allowed words from slots seat.id seat.me word.number seen even below seated.1)),
      )

  -- a step of a mutex where it expects the real number
  pub table_expects : (family i real first second : ℕ) (op_of : ℕ → Op)
      → MayStep Mutex (word_index word.number Mutex) (op_of real) seat.me.0.owns → (first ≡ real)
      ⊎ ((first ≢ real) × ((n : ℕ) → n < 4 → apply (op_of first) n ≡ n))
      → family ≡ from → i ≡ word_index word.number word.kind → word.kind ≡ Mutex
      → AllowedAt lot seat i (apply (op_of first)) (TakesExpected family real (op_of real)
      (step slots i first second none) seat.me)
  table_expects family i real first second op_of may which same here is = let seated = own.0 in
      let Goal : ℕ → ℕ → Type 0 = λ f j. Allows (LotRule words from) slots seat.id seat.me j
      (apply (op_of first)) (TakesExpected f real (op_of real) (step slots j first second none) seat.me)
      in (
        seated.0,
        near i here,
        subst (λ (f : ℕ). Goal f i) (sym same) (subst (λ (j : ℕ). Goal from j) (sym (here ∙ at_mutex is))
            (expected_allowed words from slots seat.id seat.me word.number real first second op_of below
            seated.1 may which)),
      )

-- a load of the counter, after which nothing is out
pub table_lays_back : (lot : LotWords) (seat : Seat PermitSlot View) → IsSeatOf lot seat
    → StirsAt lot seat (lays_back seat.me)
table_lays_back lot seat own = (
  own.0,
  lays_back_allowed lot.table.shared.key.0 lot.table.shared.key.1.family
      lot.table.shared.table_id.slots seat.id seat.me own.1,
)

-- a thread that goes on after an exchange that leaves a mutex where nobody waits has left it so
pub goes_leaving : (v : View) (word : Word) (seen : ℕ) → goes_on_with v (leaving_alone blank word seen)
    ≡ leaving_alone v word seen
goes_leaving v word seen = by_test (eqb seen 1)
  where
    by_test : (b : Bool) → let at = word_index word.number word.kind in let op = Exchange 1 0 in
        goes_on_with v (cond b (stepping blank at op seen)
        (stepping (takes_in blank (piece_of word Exclusive)) at op seen))
        ≡ cond b (stepping v at op seen) (stepping (takes_in v (piece_of word Exclusive)) at op seen)
    by_test true = refl
    by_test false = refl

-- an ownership other than that of a mutex alone is no mutex's whose permit may be out
not_exclusive : (owner : Owner) → (takes_permit Mutex owner ≡ true → ⊥) → exclusive owner ≡ 0
not_exclusive Exclusive other = absurd (other refl)
not_exclusive Pending other = refl
not_exclusive Upgrading other = refl
not_exclusive Upgradable other = refl
not_exclusive Shared other = refl
not_exclusive Runner other = refl
not_exclusive Witness other = refl

pub apart : (word : Word) (owner : Owner) → (takes_permit word.kind owner ≡ true → ⊥) → (r : ℕ)
    → word_kind_at r ≡ Mutex → cond (eqb (word_index word.number word.kind) r) (exclusive owner) 0 ≡ 0
apart word owner other r is = let i : ℕ = word_index word.number word.kind in
    dite (ℕ_discrete i r)
    (λ e. let mutex : word.kind ≡ Mutex =
    plain_mutex word.kind (sym (word_kind_at-index word.number word.kind) ∙ ap word_kind_at e ∙ is) in
    let none : exclusive owner ≡ 0 = not_exclusive owner
    (λ takes. other (ap (λ (k : WordKind). takes_permit k owner) mutex ∙ takes)) in
    ap (λ (n : ℕ). cond (eqb i r) n 0) none ∙ zero_either (eqb i r))
    (λ ne. cond_other i r (exclusive owner) ne)
