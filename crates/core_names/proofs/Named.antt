-- A thread that a count names says it.
use Rattle.std.proofs.Common.{◌≡◌, ◌≢◌, Bool, true, false, ℕ, ◌+◌, ◌/◌, ◌%◌, ◌<◌, ◌≤◌, ◌||◌}
use Rattle.std.proofs.Common.{List, [], ◌∷◌, get_or, set, cond, eqb, sym, refl, ap, ◌∙◌, subst, arith}
use Rattle.std.proofs.Common.{eq-eqb}
use mathlib.Core.Logic.{dite}
use mathlib.Core.Option.{some}
use native.Mathlib.Decide.{ℕ_discrete}
use lib.ListN.{get_elem?}
use Rattle.atomic_table.specs.Table.{State}
use Rattle.core_parts.specs.declared.slot.PermitSlot.{PermitSlot}
use Rattle.core_words.specs.Codes.{everyone, exclusive, if_names}
use Rattle.core_words.specs.Indices.{mutex_of_count, word_index}
use Rattle.core_words.specs.Rule.{LotRule}
use Rattle.core_words.specs.Steps.{has, is_this}
use Rattle.core_words.specs.Views.{blank, counted, has_number, named, owned, owning_with, said_as}
use Rattle.core_words.specs.Views.{shared_as, total}
use Rattle.core_words.specs.declared.owners.Owner.{Owner}
use Rattle.core_words.specs.declared.owners.Owner.TheVariants.{Exclusive, Pending, Upgrading, Upgradable}
use Rattle.core_words.specs.declared.owners.Owner.TheVariants.{Shared, Runner, Witness}
use Rattle.core_words.specs.declared.owners.Ownership.{Ownership}
use Rattle.core_words.specs.declared.views.Counting.{Counting}
use Rattle.core_words.specs.declared.views.Naming.{Naming}
use Rattle.core_words.specs.declared.views.Naming.TheVariants.{Thread}
use Rattle.core_words.specs.declared.views.View.{View}
use Rattle.core_words.specs.declared.words.WordKind.TheVariants.{Mutex, Count}
use Rattle.core_words.proofs.Counts.{no_count}
use Rattle.core_words.proofs.Keeps.{number_case}
use Rattle.core_words.proofs.Totals.{total-le, total-set, term_le, cond_same, cond_other}
use Rattle.core_words.proofs.Trades.{has_first}
use Rattle.core_names.specs.Shares.{SaysAt, sharing}

or_true : (b : Bool) → (b || true) ≡ true
or_true true = refl
or_true false = refl

alone_at_most : (o : Owner) → exclusive o ≤ 1
alone_at_most Exclusive = omega arith
alone_at_most Pending = omega arith
alone_at_most Upgrading = omega arith
alone_at_most Upgradable = omega arith
alone_at_most Shared = omega arith
alone_at_most Runner = omega arith
alone_at_most Witness = omega arith

only_alone : (o : Owner) → 0 < exclusive o → o ≡ Exclusive
only_alone Exclusive h = refl
only_alone Pending h = absurd (omega arith)
only_alone Upgrading h = absurd (omega arith)
only_alone Upgradable h = absurd (omega arith)
only_alone Shared h = absurd (omega arith)
only_alone Runner h = absurd (omega arith)
only_alone Witness h = absurd (omega arith)

-- no more own a word alone than own it
owned_alone : (at : ℕ) (owns : List Ownership) → owned at exclusive owns ≤ owned at everyone owns
owned_alone at [] = omega arith
owned_alone at (x ∷ xs) = dite (ℕ_discrete x.at at)
    (λ e. omega (
      arith,
      cond_same x.at at (exclusive x.owner) e,
      cond_same x.at at 1 e,
      alone_at_most
          x.owner,
      owned_alone at xs,
    ))
    (λ ne. omega (
      arith,
      cond_other x.at at (exclusive x.owner) ne,
      cond_other x.at at 1 ne,
      owned_alone at
          xs,
    ))

-- an only owner says what is said
says_it : (at count : ℕ) (owns : List Ownership) → counted at owns ≡ count → 0 < count → owned at everyone
    owns ≤ 1 → owned at everyone owns ≤ owned at exclusive owns → has (owning_with at count) owns ≡ true
says_it at count [] says more one alone = absurd (omega arith)
says_it at count (x ∷ xs) says more one alone = dite (ℕ_discrete x.at at)
    (λ e. let here = cond_same x.at at 1 e in
    let none : owned at everyone xs ≡ 0 = omega (arith, here) in
    let rest = no_count at xs none in let less = owned_alone at xs in
    let is : x.owner ≡ Exclusive = only_alone x.owner (omega (
      arith,
      here,
      none,
      less,
      cond_same x.at at
          (exclusive x.owner) e,
    )) in
    let so : x.count ≡ count = omega (arith, rest, cond_same x.at at x.count e) in
    let this : owning_with at count ≡ x = λ k. record { at = sym e k; owner = sym is k; count = sym so k } in
    subst (λ (y : Ownership). has (owning_with at count) (y ∷ xs) ≡ true) this (has_first (owning_with at
    count) xs))
    (λ ne. let o = cond_other x.at at 1 ne in let there = says_it at count xs (omega (
      arith,
      cond_other
          x.at at x.count ne,
    )) more (omega (arith, o)) (omega (
      arith,
      o,
      cond_other x.at at (exclusive
          x.owner) ne,
    )) in
    ap (λ (b : Bool). is_this x (owning_with at count) || b) there ∙ or_true (is_this x (owning_with at
    count)))

-- a view without the number of a thread says nothing as that thread
says_as_nobody : (thread at : ℕ) (v : View) → has_number thread v.naming ≡ 0 → said_as thread at v ≡ 0
says_as_nobody thread at v none = ap (λ (b : Bool). cond b 0 (counted at v.owns)) (eq-eqb (has_number
    thread v.naming) 0 none)

nobody_says : (thread at : ℕ) (views : List View) → total (λ (v : View). has_number thread v.naming) views
    ≡ 0 → total (said_as thread at) views ≡ 0
nobody_says thread at [] none = refl
nobody_says thread at (v ∷ vs) none = omega (
  arith,
  says_as_nobody thread at v (omega arith),
  nobody_says
      thread at vs (omega arith),
)

-- the name of a thread has its number, and no other
pub has_own : (thread : ℕ) (a : Naming) → a ≡ Thread thread → has_number thread a ≡ 1
has_own thread a is = ap (has_number thread) is ∙ cond_same thread thread 1 refl

pub has_no_other : (t thread : ℕ) (a : Naming) → a ≡ Thread thread → t ≢ thread → has_number t a ≡ 0
has_no_other t thread a is ne = ap (has_number t) is ∙ cond_other thread t 1 (λ e. ne (sym e))

pub says_own : (thread at : ℕ) (v : View) → v.naming ≡ Thread thread → said_as thread at v ≡ counted at v.owns
says_own thread at v is = ap (λ (n : ℕ). cond (eqb n 0) 0 (counted at v.owns)) (has_own thread v.naming is)

pub says_no_other : (t thread at : ℕ) (v : View) → v.naming ≡ Thread thread → t ≢ thread → said_as t at v ≡ 0
says_no_other t thread at v is ne = says_as_nobody t at v (has_no_other t thread v.naming is ne)

module _ (words family : ℕ) (s : State PermitSlot View) (o : LotRule words family s) (thread number id : ℕ)
    (v : View) (at : get_elem? s.views id ≡ some v) (below : number < words) (own : v.naming ≡ Thread
    thread) where
  abbrev i : ℕ
  i = word_index number Count

  abbrev n : ℕ
  n = get_or s.words i 0

  abbrev mutex : ℕ
  mutex = mutex_of_count i

  -- a name says all that is said as its thread
  pub says_all : said_as thread mutex v ≡ total (said_as thread mutex) s.views
  says_all = let one = has_own thread v.naming own in
      let once = o.numbers thread in
      let others : total (λ (u : View). has_number thread u.naming) (set s.views id blank) ≡ 0 = omega
      (arith, total-set (λ (u : View). has_number thread u.naming) s.views id v blank at) in
      omega (
        arith,
        total-set (said_as thread mutex) s.views id v blank at,
        nobody_says thread mutex (set
            s.views id blank) others,
      )

  pub named_says : n / 4294967296 ≡ thread + 1 → SaysAt i n v
  named_says names =
      let is = o.counts number below in
      let all : counted mutex v.owns ≡ n = sym (says_own thread mutex v own) ∙ says_all ∙ is.names thread ∙
      cond_same (n / 4294967296) (thread + 1) n names in
      let some' : 0 < n = omega (arith, names) in
      let owns : 0 < owned mutex everyone v.owns = dite (ℕ_discrete (owned mutex everyone v.owns) 0) (λ z.
      absurd (omega (arith, no_count mutex v.owns z))) (λ nz. omega arith) in
      let mine = term_le (λ (u : View). owned mutex everyone u.owns) s.views id v at in
      let real = o.owned mutex everyone (omega (arith, owns, mine)) in
      number_case number (λ e. absurd (let z = ap (λ (k : ℕ). mutex_of_count (word_index k Count)) e in let
      real₀ = real.0 in omega arith))
      (λ before e. let same : mutex ≡ word_index before Mutex = ap (λ (k : ℕ). mutex_of_count (word_index k
      Count)) e ∙ omega arith in
      let code = o.coded before Mutex (omega arith) in let code₁ = code.1 in let code₂ = code.2 in
      let all-named : named mutex everyone s.views ≡ named (word_index before Mutex) everyone s.views = ap
      (λ (r : ℕ). named r everyone s.views) same in
      let alone-named : named mutex exclusive s.views ≡ named (word_index before Mutex) exclusive s.views =
      ap (λ (r : ℕ). named r exclusive s.views) same in
      let few = total-le (λ (u : View). owned mutex exclusive u.owns) (λ (u : View). owned mutex everyone
      u.owns) (set s.views id blank) (λ q u e'. owned_alone mutex u.owns) in
      let less = owned_alone mutex v.owns in
      says_it mutex n v.owns all some' (omega (arith, mine, all-named, code₁))
      (omega (
        arith,
        all-named,
        alone-named,
        code₁,
        code₂,
        few,
        less,
        total-set (λ (u : View). owned mutex
            everyone u.owns) s.views id v blank at,
        total-set (λ (u : View). owned mutex exclusive u.owns)
            s.views id v blank at,
      )))

  -- a name with a share of a count that names its thread is named
  pub shared_names : (rest : List Counting) → v.shares ≡ sharing i thread ∷ rest → (n / 4294967296 ≡ thread
      + 1) × (0 < n % 4294967296)
  shared_names rest shares = let is = o.counts number below in
      let one : shared_as thread i v.shares ≡ 1 + shared_as thread i rest = ap (shared_as thread i) shares
      ∙ omega (
        arith,
        cond_same i i (cond (eqb thread thread) 1 0) refl,
        cond_same thread thread 1
            refl,
      ) in
      let mine = term_le (λ (u : View). shared_as thread i u.shares) s.views id v at in
      let some' : 0 < if_names thread n (n % 4294967296) = omega (arith, one, mine, is.shares thread) in
      dite (ℕ_discrete (n / 4294967296) (thread + 1))
      (λ e. (e, omega (arith, some', cond_same (n / 4294967296) (thread + 1) (n % 4294967296) e)))
      (λ ne. absurd (omega (arith, some', cond_other (n / 4294967296) (thread + 1) (n % 4294967296) ne)))

-- a share in a view names the thread that its count names
pub share_names : (words family : ℕ) (s : State PermitSlot View) (o : LotRule words family s) (thread
    number id : ℕ) (v : View) (at : get_elem? s.views id ≡ some v) (below : number < words)
    → 1 ≤ shared_as thread (word_index number Count) v.shares
    → get_or s.words (word_index number Count) 0 / 4294967296 ≡ thread + 1
share_names words family s o thread number id v at below one =
    let i : ℕ = word_index number Count in let n : ℕ = get_or s.words i 0 in
    let is = o.counts number below in
    let mine = term_le (λ (u : View). shared_as thread i u.shares) s.views id v at in
    let some' : 0 < if_names thread n (n % 4294967296) = omega (arith, one, mine, is.shares thread) in
    dite (ℕ_discrete (n / 4294967296) (thread + 1)) (λ e. e)
    (λ ne. absurd (omega (arith, some', cond_other (n / 4294967296) (thread + 1) (n % 4294967296) ne)))
