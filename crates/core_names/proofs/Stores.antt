-- A count is stored by the thread that it is to name, and looked at.
use Rattle.std.proofs.Common.{◌≡◌, ◌≢◌, ◌⊎◌, ⊎_elim, inl, inr, ℕ, ◌+◌, ◌/◌, ◌%◌, ◌<◌, ◌≤◌, List}
use Rattle.std.proofs.Common.{[], ◌∷◌, get_or, set, cond, eqb, sym, refl, ap, ◌∙◌, subst, arith}
use mathlib.Core.Logic.{dite}
use mathlib.Core.Option.{some, none}
use native.Mathlib.Decide.{ℕ_discrete}
use lib.ListN.{get_elem?}
use Rattle.atomic_table.specs.Table.{State, Me, step, keeps, Allows}
use Rattle.core_base.specs.declared.ops.Op.TheVariants.{Load, Store}
use Rattle.core_parts.specs.declared.slot.PermitSlot.{PermitSlot}
use Rattle.core_words.specs.Codes.{IsCountCode, if_names}
use Rattle.core_words.specs.Indices.{mutex_of_count, rank, word_index}
use Rattle.core_words.specs.Permits.{slots_of}
use Rattle.core_words.specs.Rule.{IsCount, LotRule}
use Rattle.core_words.specs.Steps.{MayStep}
use Rattle.core_words.specs.Views.{counted, owning_with, said_as, shared_as, total}
use Rattle.core_words.specs.declared.owners.Ownership.{Ownership}
use Rattle.core_words.specs.declared.views.Counting.{Counting}
use Rattle.core_words.specs.declared.views.Naming.TheVariants.{Thread}
use Rattle.core_words.specs.declared.views.View.{View}
use Rattle.core_words.specs.declared.words.WordKind.TheVariants.{Count}
use Rattle.core_words.proofs.Keeps.{agreed, steps_more, turned}
use Rattle.core_words.proofs.Stepping.{silent, steps}
use Rattle.core_words.proofs.Totals.{total-set, cond_same, cond_other}
use Rattle.core_words.proofs.Trades.{total-without, zero_either}
use Rattle.core_names.specs.Shares.{SaysAt, counting, looks_named, looks_own, rest_of, sees_own, sees_two}
use Rattle.core_names.specs.Shares.{sharing, stores_less, stores_more}
use Rattle.core_names.proofs.Named.{named_says, says_no_other, says_own, share_names, shared_names}

-- any thread may load a count
count_load : (at : ℕ) (owns : List Ownership) → MayStep Count at Load owns
count_load at owns n owners fits code mine agrees = (tt, (λ after same. tt), refl)

-- a count names this thread, or nobody
abbrev pub IsOwn : ℕ → ℕ → Type 0
IsOwn thread n = (n ≡ 0) ⊎ (n / 4294967296 ≡ thread + 1)

names_own : (t thread n x : ℕ) → t ≡ thread → IsOwn thread n → (n ≡ 0 → x ≡ 0) → if_names t n x ≡ x
names_own t thread n x is own zero = ⊎_elim
    (λ none'. let z = zero none' in ap (λ (y : ℕ). if_names t n y) z ∙ zero_either (eqb (n / 4294967296) (t
    + 1)) ∙ sym z)
    (λ names. cond_same (n / 4294967296) (t + 1) x (omega (arith, names, is))) own

names_no_other : (t thread n x : ℕ) → t ≢ thread → IsOwn thread n → (n ≡ 0 → x ≡ 0) → if_names t n x ≡ 0
names_no_other t thread n x ne own zero = ⊎_elim
    (λ none'. ap (λ (y : ℕ). if_names t n y) (zero none') ∙ zero_either (eqb (n / 4294967296) (t + 1)))
    (λ names. cond_other (n / 4294967296) (t + 1) x (λ e. ne (omega (arith, names, e)))) own

-- what a store of a count asks of its thread: it says what was there, and is named by what it leaves, with as
-- many shares
pub record Stores (thread at said left : ℕ) (shares : List Counting) (v : View) : Type 0 where
  pub own : v.naming ≡ Thread thread
  pub bare : v.out ≡ []
  pub says : SaysAt at said v
  pub was : IsOwn thread said
  pub is : IsOwn thread left
  pub code : IsCountCode left
  pub here : (t : ℕ) → shared_as t at shares + if_names t said (said % 4294967296) ≡ shared_as t at
      v.shares + if_names t left (left % 4294967296)
  pub elsewhere : (t r : ℕ) → r ≢ at → shared_as t r shares ≡ shared_as t r v.shares

module _ (words family : ℕ) (s : State PermitSlot View) (o : LotRule words family s) (thread number id said
    left : ℕ) (shares : List Counting) (v : View) (at : get_elem? s.views id ≡ some v) (below : number <
    words)
    (ok : Stores thread (word_index number Count) said left shares v) where
  abbrev i : ℕ
  i = word_index number Count

  abbrev n : ℕ
  n = get_or s.words i 0

  abbrev mutex : ℕ
  mutex = mutex_of_count i

  abbrev w : View
  w = counting i said left shares v

  abbrev vs : List View
  vs = set s.views id w

  pub finds : n ≡ said
  finds = sym ((agreed words family s o number Count id v at below).1 said ok.says)

  -- what it owns is as before, but for what it says of this count
  exchanged : (f : Ownership → ℕ) → total f w.owns + f (owning_with mutex said) ≡ total f v.owns + f
      (owning_with mutex left)
  exchanged f = omega (arith, total-without f (owning_with mutex said) v.owns ok.says)

  says_here : counted mutex w.owns + said ≡ counted mutex v.owns + left
  says_here = omega (
    arith,
    exchanged (λ (x : Ownership). cond (eqb x.at mutex) x.count 0),
    cond_same mutex
        mutex said refl,
    cond_same mutex mutex left refl,
  )

  count_kept : IsCount i left vs
  count_kept = let was = o.counts number below in record {
    code = ok.code;
    said = omega (
      arith,
      was.said,
      finds,
      total-set (λ (u : View). counted mutex u.owns) s.views id v w at,
      says_here,
    );
    names = λ t. let sum = total-set (said_as t mutex) s.views id v w at in
        let old : total (said_as t mutex) s.views ≡ if_names t said said = was.names t ∙ ap (λ (k : ℕ).
        if_names t k k) finds in
        dite (ℕ_discrete t thread)
        (λ e. let mine : said_as t mutex v ≡ counted mutex v.owns = subst (λ (k : ℕ). said_as k mutex v ≡
        counted mutex v.owns) (sym e) (says_own thread mutex v ok.own) in
        let next : said_as t mutex w ≡ counted mutex w.owns = subst (λ (k : ℕ). said_as k mutex w ≡ counted
        mutex w.owns) (sym e) (says_own thread mutex w ok.own) in
        omega (
          arith,
          sum,
          old,
          mine,
          next,
          says_here,
          names_own t thread said said e ok.was (λ z. z),
          names_own t thread left left e ok.is (λ z. z),
        ))
        (λ ne. omega (
          arith,
          sum,
          old,
          says_no_other t thread mutex v ok.own ne,
          says_no_other t thread
              mutex w ok.own ne,
          names_no_other t thread said said ne ok.was (λ z. z),
          names_no_other t
              thread left left ne ok.is (λ z. z),
        ));
    shares = λ t. let old : total (λ (u : View). shared_as t i u.shares) s.views ≡ if_names t said (said %
        4294967296) = was.shares t ∙ ap (λ (k : ℕ). if_names t k (k % 4294967296)) finds in
        omega (arith, old, total-set (λ (u : View). shared_as t i u.shares) s.views id v w at, ok.here t);
  }

  pub stored : LotRule words family (record { words = set s.words i left; homes = s.homes; views = vs })
  stored = turned words family s o number Count id left v w at below
      (λ r ne weight. omega (arith, exchanged (λ (x : Ownership). cond (eqb x.at r) (weight x.owner) 0)))
      (λ after same. tt)
      count_kept
      refl
      (λ r apart. let ne : mutex ≢ r = λ e. apart refl (sym e) in omega (
        arith,
        exchanged (λ (x :
            Ownership). cond (eqb x.at r) x.count 0),
        cond_other mutex r said ne,
        cond_other mutex r left ne,
      ))
      (λ t r apart. ok.elsewhere t r (apart refl))
      (λ e. absurd (omega (arith, ap rank e)))
      refl (inl ok.bare) refl refl
      (omega (arith, steps_more v i said i (Store left), cond_same i i 1 refl))
      (λ r. omega (arith, steps_more v i said r (Store left)))

-- a store that leaves these shares
stores_allowed : (words family slots id : ℕ) (me : Me PermitSlot View) (thread number said left : ℕ)
    (shares : List Counting) → number < words → Stores thread (word_index number Count) said left shares
    me.0
    → let i = word_index number Count in Allows (LotRule words family) slots id me i (λ _. left) (λ found
    after. after ≡ (counting i said left shares me.0, me.1))
stores_allowed words family slots id me thread number said left shares below ok s o wide at fits =
    let i : ℕ = word_index number Count in (
      counting i said left shares me.0,
      keeps,
      tt,
      stored words family s o thread number id said left shares
          me.0 at below ok,
      refl,
    )

-- the share of a thread that counts once more, or once less
share_here : (t thread at : ℕ) (rest : List Counting) → shared_as t at (sharing at thread ∷ rest) ≡ cond
    (eqb thread t) 1 0 + shared_as t at rest
share_here t thread at rest = omega (arith, cond_same at at (cond (eqb thread t) 1 0) refl)

share_elsewhere : (t thread at r : ℕ) (rest : List Counting) → r ≢ at → shared_as t r (sharing at thread ∷
    rest) ≡ shared_as t r rest
share_elsewhere t thread at r rest ne = omega (
  arith,
  cond_other at r (cond (eqb thread t) 1 0) (λ e. ne
      (sym e)),
)

none_of_none : (n : ℕ) → n ≡ 0 → n % 4294967296 ≡ 0
none_of_none n e = ap (λ (k : ℕ). k % 4294967296) e

-- the times of a count, of the thread that it names, and of another
times_more : (t thread said left : ℕ) → IsOwn thread said → IsOwn thread left → left % 4294967296 ≡ said %
    4294967296 + 1
    → cond (eqb thread t) 1 0 + if_names t said (said % 4294967296) ≡ if_names t left (left % 4294967296)
times_more t thread said left was is more = dite (ℕ_discrete t thread)
    (λ e. omega (
      arith,
      cond_same thread t 1 (sym e),
      names_own t thread said (said % 4294967296) e was
          (none_of_none said),
      names_own t thread left (left % 4294967296) e is (none_of_none left),
      more,
    ))
    (λ ne. omega (
      arith,
      cond_other thread t 1 (λ e. ne (sym e)),
      names_no_other t thread said (said %
          4294967296) ne was (none_of_none said),
      names_no_other t thread left (left % 4294967296) ne is
          (none_of_none left),
    ))

pub more_allowed : (words family slots id : ℕ) (me : Me PermitSlot View) (thread number said left : ℕ) →
    number < words → me.0.naming ≡ Thread thread → me.0.out ≡ [] → SaysAt (word_index number Count) said
    me.0
    → IsOwn thread said → left / 4294967296 ≡ thread + 1 → IsCountCode left → left % 4294967296 ≡ said %
    4294967296 + 1
    → let i = word_index number Count in Allows (LotRule words family) slots id me i (λ _. left)
    (stores_more thread said (step slots i left 0 none) me)
more_allowed words family slots id me thread number said left below own bare says was names code more =
    let i : ℕ = word_index number Count in let is : IsOwn thread left = inr names in
    stores_allowed words family slots id me thread number said left (sharing i thread ∷ me.0.shares) below
    (record {
      own = own;
      bare = bare;
      says = says;
      was = was;
      is = is;
      code = code;
      here = λ t. omega (arith, share_here t thread i me.0.shares, times_more t thread said left was is more);
      elsewhere = λ t r ne. share_elsewhere t thread i r me.0.shares ne;
    })

pub less_allowed : (words family slots id : ℕ) (me : Me PermitSlot View) (thread number said left : ℕ)
    (rest : List Counting) → number < words → me.0.naming ≡ Thread thread → me.0.out ≡ [] → SaysAt
    (word_index number Count) said me.0
    → said / 4294967296 ≡ thread + 1 → IsOwn thread left → IsCountCode left → said % 4294967296 ≡ left %
    4294967296 + 1 → me.0.shares ≡ sharing (word_index number Count) thread ∷ rest
    → let i = word_index number Count in Allows (LotRule words family) slots id me i (λ _. left)
    (stores_less said (step slots i left 0 none) me)
less_allowed words family slots id me thread number said left rest below own bare says names is code less
    shares =
    let i : ℕ = word_index number Count in let was : IsOwn thread said = inr names in
    let tail : rest_of me.0.shares ≡ rest = ap rest_of shares in
    stores_allowed words family slots id me thread number said left (rest_of me.0.shares) below (record {
      own = own;
      bare = bare;
      says = says;
      was = was;
      is = is;
      code = code;
      here = λ t. omega (
        arith,
        ap (shared_as t i) shares,
        ap (shared_as t i) tail,
        share_here t thread i
            rest,
        times_more t thread left said is was less,
      );
      elsewhere = λ t r ne. ap (shared_as t r) tail ∙ sym (share_elsewhere t thread i r rest ne) ∙ sym (ap
          (shared_as t r) shares);
    })

-- a look, as a step and as none
pub look_allowed : (words family slots id : ℕ) (me : Me PermitSlot View) (thread number : ℕ) → number <
    words → me.0.naming ≡ Thread thread → me.1 ≡ slots_of family me.0.out
    → let i = word_index number Count in Allows (LotRule words family) slots id me i (λ n. n) (looks_named
    family thread (step slots i 0 0 none) me)
look_allowed words family slots id me thread number below own held s o wide at fits = let i : ℕ =
    word_index number Count in
    let t = steps words family slots id me number Count Load below held (count_load i me.0.owns) s o wide
    at fits in
    (t.0, t.1, t.2, t.3, (t.4, named_says words family s o thread number id me.0 at below own))

pub see_allowed : (words family slots id : ℕ) (me : Me PermitSlot View) (thread number : ℕ) (rest : List
    Counting) → number < words → me.0.naming ≡ Thread thread → me.0.shares ≡ sharing (word_index number
    Count) thread ∷ rest
    → let i = word_index number Count in Allows (LotRule words family) slots id me i (λ n. n) (sees_own
    thread (step slots i 0 0 none) me)
see_allowed words family slots id me thread number rest below own shares s o wide at fits = let i : ℕ =
    word_index number Count in
    let t = shared_names words family s o thread number id me.0 at below own rest shares in (
      me.0,
      keeps,
      tt,
      silent words family s o i id me.0 at,
      (
        refl,
        t.0,
        t.1,
        named_says words family s o
            thread number id me.0 at below own t.0,
      ),
    )

-- a look by a share, as a step
pub look_own_allowed : (words family slots id : ℕ) (me : Me PermitSlot View) (thread number : ℕ) (rest :
    List Counting) → number < words → me.0.naming ≡ Thread thread → me.1 ≡ slots_of family me.0.out →
    me.0.shares ≡ sharing (word_index number Count) thread ∷ rest
    → let i = word_index number Count in Allows (LotRule words family) slots id me i (λ n. n) (looks_own
    family thread (step slots i 0 0 none) me)
look_own_allowed words family slots id me thread number rest below own held shares s o wide at fits = let i :
    ℕ = word_index number Count in
    let t = steps words family slots id me number Count Load below held (count_load i me.0.owns) s o wide
    at fits in
    let n = shared_names words family s o thread number id me.0 at below own rest shares in
    (t.0, t.1, t.2, t.3, (t.4, n.0, n.1, named_says words family s o thread number id me.0 at below own n.0))

-- a look by the shares of two threads
pub two_allowed : (words family slots id : ℕ) (me : Me PermitSlot View) (one other number : ℕ) → number <
    words → me.0.shares ≡ sharing (word_index number Count) other ∷ sharing (word_index number Count) one ∷
    []
    → let i = word_index number Count in Allows (LotRule words family) slots id me i (λ n. n) (sees_two one
    other (step slots i 0 0 none) me)
two_allowed words family slots id me one other number below shares s o wide at fits = let i : ℕ =
    word_index number Count in
    let has_one : 1 ≤ shared_as one i me.0.shares = omega (
      arith,
      ap (shared_as one i) shares,
      share_here one other i (sharing i one ∷ []),
      share_here one one i [],
      cond_same one one 1 refl,
    ) in
    let has_other : 1 ≤ shared_as other i me.0.shares = omega (
      arith,
      ap (shared_as other i) shares,
      share_here other other i (sharing i one ∷ []),
      cond_same other other 1 refl,
    ) in (
      me.0,
      keeps,
      tt,
      silent words family s o i id me.0 at,
      (
        refl,
        share_names words family s o one number id me.0 at below has_one,
        share_names words family s o other number id me.0 at below has_other,
      ),
    )
