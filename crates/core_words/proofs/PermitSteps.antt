-- Permits go out of their slots, and back.
use Rattle.std.proofs.Common.{◌≡◌, Bool, true, false, ℕ, zero, suc, ◌+◌, ◌-◌, ◌/◌, ◌%◌, ◌<◌, ◌≤◌, ⊎_elim}
use Rattle.std.proofs.Common.{inl, inr, List, [], ◌∷◌, ◌++◌, length, get_or, set, map, cond, eqb, sym, refl}
use Rattle.std.proofs.Common.{ap, ◌∙◌, subst, arith, length-set}
use mathlib.Core.Logic.{dite}
use mathlib.Core.Option.{Option, some, none, some-injective, some-ne-none}
use native.Mathlib.Decide.{ℕ_discrete}
use lib.ListN.{get_elem?, replicate, length-replicate, get_or-replicate}
use Rattle.atomic_table.specs.Table.{State, Me, takes, gives, chain, rest, put_back, opening}
use Rattle.atomic_table.proofs.Lists.{at_set}
use Rattle.core_words.specs.Indices.{word_index, counter, table_size}
use Rattle.core_words.specs.Views.{blank, namer, shown, with_out, total, total_below, owned, named}
use Rattle.core_words.specs.Views.{has_number, steps_at, outs}
use Rattle.core_words.specs.Codes.{Codes, IsMutexCode, exclusive, if_names}
use Rattle.core_words.specs.Permits.{slot_at, slots_of, laid}
use Rattle.core_parts.specs.Changes.{Stirs}
use Rattle.core_words.specs.Plays.{lays_back, takes_out}
use Rattle.core_words.specs.Rule.{IsCount, LotRule, MayHaveOut}
use Rattle.core_words.specs.declared.owners.Ownership.{Ownership}
use Rattle.core_words.specs.declared.views.Naming.TheVariants.{From}
use Rattle.core_words.specs.declared.views.View.{View}
use Rattle.core_words.specs.declared.words.WordKind.{WordKind}
use Rattle.core_words.specs.declared.words.WordKind.TheVariants.{Mutex, RwLock, Condvar, Once, Count}
use Rattle.core_words.specs.declared.words.WordKind.TheVariants.{Semaphore}
use Rattle.core_parts.specs.declared.slot.PermitSlot.{PermitSlot}
use Rattle.core_words.proofs.Keeps.{reseated, same_counts}
use Rattle.core_words.proofs.Lists.{has_index, set_again, set_else, set_here}
use Rattle.core_words.proofs.Totals.{total-le, total-set, cond_same, cond_other}
use Rattle.core_words.proofs.Trades.{zero_either}
use Rattle.core_words.proofs.Indices.{rank_lt}

-- a thread that has at most one slot has none without it
pub rest_none : (words family : ℕ) (out : List ℕ) (owns : List Ownership) → MayHaveOut words out owns
    → rest (slots_of family out) ≡ []
rest_none words family out owns carries = ⊎_elim (λ none. ap (λ l. rest (slots_of family l)) none)
    (λ t. ap (λ l. rest (slots_of family l)) t.2) carries

-- the permit of one mutex is out at the index of that alone
one_out : (j r : ℕ) (out : List ℕ) → out ≡ j ∷ [] → total (λ (k : ℕ). cond (eqb k r) 1 0) out
    ≡ cond (eqb j r) 1 0
one_out j r out e = omega (arith, ap (total (λ (k : ℕ). cond (eqb k r) 1 0)) e)

pub none_out : (r : ℕ) (out : List ℕ) → out ≡ [] → total (λ (k : ℕ). cond (eqb k r) 1 0) out ≡ 0
none_out r out e = ap (total (λ (k : ℕ). cond (eqb k r) 1 0)) e

-- a permit is out no more often than its mutex is owned
pub out_owned : (words i : ℕ) (v : View) → MayHaveOut words v.out v.owns → outs i v ≤ owned i exclusive v.owns
out_owned words i v carries = ⊎_elim (λ none. omega (arith, none_out i v.out none))
    (λ t. let j : ℕ = word_index t.0 Mutex in let some' = t.3 in
    dite (ℕ_discrete j i)
    (λ e. let there : 0 < owned i exclusive v.owns = subst (λ (r : ℕ). 0 < owned r exclusive v.owns) e some'
    in omega (arith, one_out j i v.out t.2, cond_same j i 1 e))
    (λ ne. omega (arith, one_out j i v.out t.2, cond_other j i 1 ne)))
    carries

module _ (words family : ℕ) (s : State PermitSlot View) (o : LotRule words family s) where
  -- a seat has other permits out, and the slots follow
  reslotted : (id : ℕ) (v : View) (out : List ℕ) (hs : List (Option PermitSlot)) → get_elem? s.views id
      ≡ some v → length hs ≡ length s.homes → MayHaveOut words out v.owns
      → ((number : ℕ) → number < words → total (outs (word_index number Mutex))
      (set s.views id (with_out out v)) ≡ 0 → get_elem? hs (word_index number Mutex) ≡ some
      (some (slot_at family (word_index number Mutex))))
      → LotRule words family (record { words = s.words; homes = hs; views = set s.views id (with_out out v) })
  reslotted id v out hs at same carries permits = let w = with_out out v in
      reseated words family s o hs (set s.views id w)
      (λ r weight. omega (arith, total-set (λ (u : View). owned r weight u.owns) s.views id v w at))
      (same_counts s.views id v w at (record { naming = refl; shares = refl }) (λ r. refl))
      (λ r. omega (arith, total-set (steps_at r) s.views id v w at))
      (λ weight. omega (arith, total-set (λ (u : View). total weight u.drawn) s.views id v w at))
      (λ q u e. ⊎_elim (λ t. let old = o.saw id v at in omega (arith, ap (λ (y : View). y.saw) t.1))
      (λ t. o.saw q u t.1) (at_set s.views id q w u e))
      (λ q u e. ⊎_elim (λ t. subst (λ (y : View). MayHaveOut words y.out y.owns) t.1 carries)
      (λ t. o.carried q u t.1) (at_set s.views id q w u e))
      same permits

  -- the permit that is out with a seat is laid back
  pub laid_back : (id : ℕ) (v : View) → get_elem? s.views id ≡ some v
      → LotRule words family (record {
        words = s.words;
        homes = put_back s.homes (slots_of family v.out);
        views = set s.views id (shown v);
      })
  laid_back id v at = let size = o.size in let same-homes = o.homes in
      let Goal : List ℕ → Type 0 = λ out. LotRule words family (record {
        words = s.words;
        homes = put_back s.homes (slots_of family out);
        views = set s.views id (shown v);
      }) in
      let sum : (r : ℕ) → total (outs r) (set s.views id (shown v)) + outs r v ≡ total (outs r) s.views =
      λ r. omega (arith, total-set (outs r) s.views id v (shown v) at) in
      ⊎_elim
      (λ none. subst Goal (sym none) (reslotted id v [] s.homes at refl (inl refl)
      (λ number below z. let r : ℕ = word_index number Mutex
      in o.permits number below (omega (arith, sum r, none_out r v.out none)))))
      (λ t. let j : ℕ = word_index t.0 Mutex in let below' = t.1 in let slot = slot_at family j in
      subst Goal (sym t.2) (reslotted id v [] (set s.homes j (some slot)) at
      (length-set s.homes j (some slot)) (inl refl)
      (λ number below z. let r : ℕ = word_index number Mutex in
      dite (ℕ_discrete r j)
      (λ e. subst (λ (k : ℕ). get_elem? (set s.homes j (some slot)) k ≡ some (some (slot_at family k)))
      (sym e) (set_here s.homes j (some slot) (omega arith)))
      (λ ne. set_else s.homes j r (some slot) ne
      ∙ o.permits number below (omega (
        arith,
        sum r,
        one_out j r v.out t.2,
        cond_other j r 1 (λ e. ne (sym e)),
      ))))))
      (o.carried id v at)

  -- a thread that owns a mutex, and has nothing out, finds its permit in the slot, and has it out then
  pub goes_out : (number id : ℕ) (v : View) → get_elem? s.views id ≡ some v → v.out ≡ [] → number < words
      → 0 < owned (word_index number Mutex) exclusive v.owns
      → (get_elem? s.homes (word_index number Mutex) ≡ some (some (slot_at family (word_index number Mutex))))
      × LotRule words family (record {
        words = s.words;
        homes = set s.homes (word_index number Mutex) none;
        views = set s.views id (with_out (word_index number Mutex ∷ []) v);
      })
  goes_out number id v at nothing below some' =
      let i : ℕ = word_index number Mutex in let w = with_out (i ∷ []) v in let vs = set s.views id blank in
      let code : IsMutexCode (get_or s.words i 0) (λ weight. named i weight s.views) =
      o.coded number Mutex below in let alone = code.2 in
      let others : total (outs i) vs ≤ total (λ (u : View). owned i exclusive u.owns) vs =
      total-le (outs i) (λ (u : View). owned i exclusive u.owns) vs (λ q u e. out_owned words i u
      (⊎_elim (λ t. subst (λ (y : View). MayHaveOut words y.out y.owns) t.1 (inl refl))
      (λ t. o.carried q u t.1) (at_set s.views id q blank u e))) in
      let nobody : total (outs i) s.views ≡ 0 = omega (
        arith,
        total-set (outs i) s.views id v blank at,
        total-set (λ (u : View). owned i exclusive u.owns) s.views id v blank at,
        none_out i v.out nothing,
      )
      in (
        o.permits number below nobody,
        reslotted id v (i ∷ []) (set s.homes i none) at (length-set s.homes i none)
            (inr (number, below, refl, some'))
            (λ number' below' z. let r : ℕ = word_index number' Mutex in
            dite (ℕ_discrete r i)
            (λ e. absurd (omega (
              arith,
              total-set (outs r) s.views id v w at,
              none_out r v.out nothing,
              cond_same i r 1 (sym e),
            )))
            (λ ne. set_else s.homes i r none ne ∙ o.permits number' below'
            (omega (
              arith,
              total-set (outs r) s.views id v w at,
              none_out r v.out nothing,
              cond_other i r 1 (λ e. ne (sym e)),
            )))),
      )

-- a seat has nothing out
pub lays_back_allowed : (words family slots id : ℕ) (me : Me PermitSlot View)
    → me.1 ≡ slots_of family me.0.out
    → Stirs (LotRule words family) slots id me (lays_back me)
lays_back_allowed words family slots id me held s o wide at = (
  shown me.0,
  gives,
  tt,
  subst (λ (c : List (ℕ × PermitSlot)). LotRule words family (record {
    words = s.words;
    homes = put_back s.homes c;
    views = set s.views id (shown me.0);
  })) (sym held) (laid_back words family s o id me.0 at),
  ap (λ c. (shown me.0, c)) (ap rest held ∙ rest_none words family me.0.out me.0.owns (o.carried id me.0 at)),
)

-- a thread that owns a mutex has its permit out, and no other
pub takes_out_allowed : (words family slots id : ℕ) (me : Me PermitSlot View) (number : ℕ) → number < words
    → 0 < owned (word_index number Mutex) exclusive me.0.owns → me.1 ≡ slots_of family me.0.out
    → Stirs (LotRule words family) slots id me (takes_out family (word_index number Mutex) me)
takes_out_allowed words family slots id me number below some' held s o wide at =
    let i : ℕ = word_index number Mutex in let v = me.0 in let w = with_out (i ∷ []) v in
    let homes = put_back s.homes (slots_of family v.out) in
    let s₁ : State PermitSlot View = record {
      words = s.words;
      homes = homes;
      views = set s.views id (shown v);
    } in
    let mine : LotRule words family s₁ = laid_back words family s o id v at in
    let out = goes_out words family s₁ mine number id (shown v) (set_here s.views id (shown v)
    (has_index s.views id v at)) refl below some' in
    let there : LotRule words family (record {
      words = s.words;
      homes = set homes i none;
      views = set s.views id w;
    }) =
    subst (λ vs. LotRule words family (record {
      words = s.words;
      homes = set homes i none;
      views = vs;
    })) (set_again s.views id (shown v) w) out.1 in (
      w,
      chain gives (takes i (slot_at family i)),
      (
        tt,
        subst (λ (c : List (ℕ × PermitSlot)). get_elem? (put_back s.homes c) i
            ≡ some (some (slot_at family i))) (sym held) out.0,
      ),
      subst (λ (c : List (ℕ × PermitSlot)). LotRule words family (record {
        words = s.words;
        homes = set (put_back s.homes c) i none;
        views = set s.views id w;
      })) (sym held) there,
      ap (λ c. (w, (i, slot_at family i) ∷ c)) (ap rest held ∙ rest_none words family v.out v.owns
          (o.carried id v at)),
    )

-- ---------------------------------------------------------------- the opening state

snoc_length : {A : Type 0} (l : List A) (x : A) → length (l ++ x ∷ []) ≡ suc (length l)
snoc_length [] x = refl
snoc_length (y ∷ ys) x = ap suc (snoc_length ys x)

near : (l : List PermitSlot) (x : PermitSlot) (i : ℕ) → i < length l → get_elem? (map some (l ++ x ∷ [])) i
    ≡ get_elem? (map some l) i
near [] x i h = absurd (omega arith)
near (y ∷ ys) x zero h = refl
near (y ∷ ys) x (suc i) h = near ys x i (omega arith)

last : (l : List PermitSlot) (x : PermitSlot) (i : ℕ) → i ≡ length l → get_elem? (map some (l ++ x ∷ [])) i
    ≡ some (some x)
last [] x zero e = refl
last [] x (suc i) e = absurd (omega arith)
last (y ∷ ys) x zero e = absurd (omega arith)
last (y ∷ ys) x (suc i) e = last ys x i (omega arith)

map_length : (l : List PermitSlot) → length (map some l) ≡ length l
map_length [] = refl
map_length (y ∷ ys) = ap suc (map_length ys)

laid_length : (family n : ℕ) → length (laid family n) ≡ n
laid_length family zero = refl
laid_length family (suc n) = snoc_length (laid family n) (slot_at family n) ∙ ap suc (laid_length family n)

laid_at : (family n i : ℕ) → i < n → get_elem? (map some (laid family n)) i ≡ some (some (slot_at family i))
laid_at family zero i h = absurd (omega arith)
laid_at family (suc n) i h = dite (ℕ_discrete i n)
    (λ e. subst (λ (k : ℕ). get_elem? (map some (laid family (suc n))) k ≡ some (some (slot_at family k)))
    (sym e) (last (laid family n) (slot_at family n) n (sym (laid_length family n))))
    (λ ne. let size = laid_length family n in near (laid family n) (slot_at family n) i (omega arith)
    ∙ laid_at family n i (omega arith))

zero_code : (kind : WordKind) → Codes kind 0 (λ weight. 0)
zero_code Mutex = (omega arith, refl, refl)
zero_code RwLock = (refl, omega arith, (λ h. refl), omega arith)
zero_code Condvar = tt
zero_code Once = ((inr (omega arith, inl refl)), refl, λ h. absurd (omega arith))
zero_code Count = tt
zero_code (Semaphore permits) = (omega arith, refl)

all_zero : (n i : ℕ) → i < n → get_or (replicate {A = ℕ} n 0) i 0 ≡ 0
all_zero n i h = get_or-replicate n i 0 0 h

zeros_length : (n : ℕ) → length (replicate {A = ℕ} n 0) ≡ n
zeros_length n = length-replicate n 0

only_blank : (n seat : ℕ) (v : View) → get_elem? (namer ∷ []) seat ≡ some v → v.saw ≤ n
only_blank n zero v e = omega (arith, ap (λ (y : View). y.saw) (some-injective namer v e))
only_blank n (suc seat) v e = absurd (some-ne-none v (sym e))

only_nothing : (words seat : ℕ) (v : View) → get_elem? (namer ∷ []) seat ≡ some v → MayHaveOut words v.out
    v.owns
only_nothing words zero v e = subst (λ (y : View). MayHaveOut words y.out y.owns) (some-injective namer v
    e) (inl refl)
only_nothing words (suc seat) v e = absurd (some-ne-none v (sym e))

once_at_most : (b : Bool) → cond {A = ℕ} b 1 0 ≤ 1
once_at_most true = omega arith
once_at_most false = omega arith

nothing_named : (thread n m : ℕ) → m ≡ 0 → if_names thread n m ≡ 0
nothing_named thread n m e = ap (λ (k : ℕ). if_names thread n k) e ∙ zero_either (eqb (n / 4294967296)
    (thread + 1))

no_count_at_first : (at n : ℕ) → n ≡ 0 → IsCount at n (namer ∷ [])
no_count_at_first at n e = record {
  code = inl e;
  said = e;
  names = λ thread. omega (
    arith,
    zero_either (eqb (has_number thread (From 0)) 0),
    nothing_named thread n
        n e,
  );
  shares = λ thread. sym (nothing_named thread n (n % 4294967296) (ap (λ (k : ℕ). k % 4294967296) e));
}

first_index : (words : ℕ) → counter < table_size words
first_index words = omega arith

-- all words are 0, and each permit lies in its slot
pub opens_at_first : (words family : ℕ) → LotRule words family (opening (replicate (table_size words) 0)
    (laid family (table_size words)) namer)
opens_at_first words family = record {
  size = zeros_length (table_size words);
  coded = λ number kind below. subst (λ (x : ℕ). Codes kind x (λ weight. 0))
      (sym (all_zero (table_size words) (word_index number kind) (omega (arith, rank_lt kind))))
      (zero_code kind);
  shows = λ number below. inl (all_zero (table_size words) (word_index number Condvar) (omega arith));
  numbers = λ thread. omega (arith, once_at_most (eqb (0 - thread) 0));
  counts = λ number below. no_count_at_first (word_index number Count) (get_or (replicate (table_size
      words) 0) (word_index number Count) 0) (all_zero (table_size words) (word_index number Count) (omega
      arith));
  semaphores = λ number below. omega (
    arith,
    all_zero (table_size words) (word_index number (Semaphore 0))
        (omega arith),
  );
  owned = λ at weight some'. absurd (omega arith);
  untouched = λ at above h none'. all_zero (table_size words) at
      (subst (λ (k : ℕ). at < k) (zeros_length (table_size words)) h);
  drawn = λ weight. sym (ap (total_below weight) (all_zero (table_size words) counter (first_index words)));
  enough = subst (λ (x : ℕ). x ≤ words) (sym (all_zero (table_size words) counter (first_index words)))
      (omega arith);
  saw = λ seat v e. only_blank (get_or (replicate (table_size words) 0) counter 0) seat v e;
  carried = λ seat v e. only_nothing words seat v e;
  homes = map_length (laid family (table_size words)) ∙ laid_length family (table_size words)
      ∙ sym (zeros_length (table_size words));
  permits = λ number below none'. laid_at family (table_size words) (word_index number Mutex) (omega arith);
}
