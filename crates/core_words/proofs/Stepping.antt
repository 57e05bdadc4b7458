-- Steps on words, as the lot's table wants them: a thread that locks a mutex has its permit out with that
-- step, and a thread that unlocks one lays back what is out.
use Rattle.std.proofs.Common.{◌≡◌, ◌≢◌, if◌then◌else◌, ℕ, ◌+◌, ◌%◌, ◌<◌, ◌≤◌, ◌⊎◌, ⊎_elim, inl, inr, List, []}
use Rattle.std.proofs.Common.{◌∷◌, get_or, set, cond, eqb, bit_or, sym, refl, ap, ◌∙◌, subst, arith, eq-eqb}
use Rattle.std.proofs.Common.{ne_eqb}
use mathlib.Core.Logic.{dite}
use mathlib.Core.Option.{Option, some, none}
use Rattle.std.proofs.lemmas.List.{set-get_or}
use native.Mathlib.Decide.{ℕ_discrete}
use lib.ListN.{get_elem?}
use Rattle.atomic_table.specs.Table.{State, Me, step, Act, keeps, takes, gives, chain, rest, put_back, Valid}
use Rattle.atomic_table.specs.Table.{carried_after, stepped, Allows}
use Rattle.core_base.specs.Words.{apply}
use Rattle.core_base.specs.declared.ops.Op.{Op}
use Rattle.core_base.specs.declared.ops.Op.TheVariants.{Exchange, Load, Or, Sub}
use Rattle.core_words.specs.Indices.{plain, rank, word_index}
use Rattle.core_words.specs.Views.{shown, with_out, owned, owning}
use Rattle.core_words.specs.Codes.{exclusive}
use Rattle.core_words.specs.Permits.{out_after, slot_at, slots_of}
use Rattle.core_words.specs.Plays.{TakesExpected, TakesStep, TakesStepOf, saw_set, sees_locked, tries_seen}
use Rattle.core_words.specs.Rule.{LotRule}
use Rattle.core_words.specs.Steps.{CodesWith, MayStep, Trade, after_step, mutex_trade, owns_after}
use Rattle.core_words.specs.Steps.{owns_after_step, trading}
use Rattle.core_words.specs.declared.owners.Owner.TheVariants.{Exclusive}
use Rattle.core_words.specs.declared.views.View.{View}
use Rattle.core_words.specs.declared.words.WordKind.{WordKind}
use Rattle.core_words.specs.declared.words.WordKind.TheVariants.{Mutex, RwLock, Condvar, Once, Count}
use Rattle.core_words.specs.declared.words.WordKind.TheVariants.{Semaphore}
use Rattle.core_parts.specs.declared.slot.PermitSlot.{PermitSlot}
use Rattle.core_words.proofs.Indices.{word_kind_at-index}
use Rattle.core_words.proofs.Keeps.{step_taken}
use Rattle.core_words.proofs.Lists.{has_index, set_again, set_elem, set_here}
use Rattle.core_words.proofs.MutexSteps.{each_code, mutex_steps}
use Rattle.core_words.proofs.PermitSteps.{goes_out, laid_back, rest_none}
use Rattle.core_words.proofs.Totals.{cond_same}

-- the effect of a step that leaves a mutex as locked as it was, locks it, or unlocks it
module _ (at : ℕ) (op : Op) (n : ℕ) where
  pub stays_trade : n % 2 ≡ apply op n % 2 → mutex_trade n (apply op n) ≡ trading [] []
  stays_trade e = ap (λ b. cond b (trading [] []) (cond (eqb (n % 2) 0) (trading [] (Exclusive ∷ []))
      (trading (Exclusive ∷ []) []))) (eq-eqb (n % 2) (apply op n % 2) e)

  pub stays_out : (out : List ℕ) → n % 2 ≡ apply op n % 2 → out_after Mutex at op n out ≡ out
  stays_out out e = ap (λ b. cond b out (cond (eqb (n % 2) 0) (at ∷ []) []))
      (eq-eqb (n % 2) (apply op n % 2) e)

  pub locks_trade : n % 2 ≡ 0 → apply op n % 2 ≡ 1 → mutex_trade n (apply op n) ≡ trading [] (Exclusive ∷ [])
  locks_trade even odd = ap (λ b. cond b (trading [] []) (cond (eqb (n % 2) 0) (trading [] (Exclusive ∷ []))
      (trading (Exclusive ∷ []) []))) (ne_eqb (n % 2) (apply op n % 2) (λ e. omega arith))
      ∙ ap (λ b. cond b (trading [] (Exclusive ∷ [])) (trading (Exclusive ∷ []) [])) (eq-eqb (n % 2) 0 even)

  pub locks_out : (out : List ℕ) → n % 2 ≡ 0 → apply op n % 2 ≡ 1 → out_after Mutex at op n out ≡ at ∷ []
  locks_out out even odd = ap (λ b. cond b out (cond (eqb (n % 2) 0) (at ∷ []) []))
      (ne_eqb (n % 2) (apply op n % 2) (λ e. omega arith))
      ∙ ap (λ b. cond b (at ∷ []) []) (eq-eqb (n % 2) 0 even)

  pub unlocks_trade : n % 2 ≡ 1 → apply op n % 2 ≡ 0 → mutex_trade n (apply op n) ≡ trading (Exclusive ∷ [])
      []
  unlocks_trade odd even = ap (λ b. cond b (trading [] []) (cond (eqb (n % 2) 0) (trading [] (Exclusive ∷ []))
      (trading (Exclusive ∷ []) []))) (ne_eqb (n % 2) (apply op n % 2) (λ e. omega arith))
      ∙ ap (λ b. cond b (trading [] (Exclusive ∷ [])) (trading (Exclusive ∷ []) []))
      (ne_eqb (n % 2) 0 (λ e. omega arith))

  pub unlocks_out : (out : List ℕ) → n % 2 ≡ 1 → apply op n % 2 ≡ 0 → out_after Mutex at op n out ≡ []
  unlocks_out out odd even = ap (λ b. cond b out (cond (eqb (n % 2) 0) (at ∷ []) []))
      (ne_eqb (n % 2) (apply op n % 2) (λ e. omega arith))
      ∙ ap (λ b. cond b (at ∷ []) []) (ne_eqb (n % 2) 0 (λ e. omega arith))

module _ (words family id : ℕ) (me : Me PermitSlot View) (number : ℕ) (op : Op) (below : number < words)
    (s : State PermitSlot View) (o : LotRule words family s) (at : get_elem? s.views id ≡ some me.0) where
  abbrev found : WordKind → ℕ
  found kind = get_or s.words (word_index number kind) 0

  abbrev Fits : WordKind → Type 0
  Fits kind = found kind < 18446744073709551616

  -- tells what the table asks of a step, by the slots that are out with the seat
  abbrev Goes : WordKind → List (ℕ × PermitSlot) → Type 0
  Goes kind c = (w : View) × (a : Act PermitSlot) × Valid s.homes c a × LotRule words family
      (stepped s (word_index number kind) (apply op (found kind)) id c w a)
      × TakesStepOf family kind (word_index number kind) op me (found kind) (w, carried_after c a)

  -- nothing goes out or comes back
  stays : (kind : WordKind) → Fits kind → MayStep kind (word_index number kind) op me.0.owns
      → out_after kind (word_index number kind) op (found kind) me.0.out ≡ me.0.out
      → (kind ≡ Mutex → (found kind % 2 ≡ apply op (found kind) % 2) ⊎ (me.0.out ≡ []))
      → Goes kind (slots_of family me.0.out)
  stays kind fits may same parity = let i : ℕ = word_index number kind in let v = me.0 in let t =
      step_taken words family s o number kind op id v at below fits may parity in (
        with_out v.out (after_step kind i op (found kind) v),
        keeps,
        tt,
        t.0,
        (
          ap (λ out. (with_out out (after_step kind i op (found kind) v), slots_of family out)) (sym same),
          t.1,
        ),
      )

  -- a state by its parts
  abbrev at_hand : ℕ → List (Option PermitSlot) → List View → State PermitSlot View
  at_hand m homes views = record {
    words = set s.words (word_index number Mutex) m;
    homes = homes;
    views = views;
  }

  -- the seat has laid back what is out
  abbrev bare_state : State PermitSlot View
  bare_state = record {
    words = s.words;
    homes = put_back s.homes (slots_of family me.0.out);
    views = set s.views id (shown me.0);
  }

  bare_taken : Fits Mutex → MayStep Mutex (word_index number Mutex) op me.0.owns → let i =
      word_index number Mutex in let n = found Mutex in let w = after_step Mutex i op n me.0 in
      LotRule words family (at_hand (apply op n) bare_state.homes (set s.views id w))
      × CodesWith Mutex i n me.0.owns
  bare_taken fits may = let i : ℕ = word_index number Mutex in let n : ℕ = found Mutex in let w =
      after_step Mutex i op n me.0 in
      let t = step_taken words family bare_state (laid_back words family s o id me.0 at) number Mutex op id
      (shown me.0) (set_here s.views id (shown me.0) (has_index s.views id me.0 at)) below fits may
      (λ _. inr refl) in (
        subst (λ vs. LotRule words family (at_hand (apply op n) bare_state.homes vs))
            (set_again s.views id (shown me.0) w) t.0,
        t.1,
      )

  nothing_more : rest (slots_of family me.0.out) ≡ []
  nothing_more = rest_none words family me.0.out me.0.owns (o.carried id me.0 at)

  leaves : Fits Mutex → MayStep Mutex (word_index number Mutex) op me.0.owns → found Mutex % 2 ≡ 1
      → apply op (found Mutex) % 2 ≡ 0 → Goes Mutex (slots_of family me.0.out)
  leaves fits may odd even = let i : ℕ = word_index number Mutex in let n : ℕ = found Mutex in let w =
      after_step Mutex i op n me.0 in let t = bare_taken fits may in (
        w,
        gives,
        tt,
        t.0,
        (
          ap (λ c. (w, c)) nothing_more ∙ ap (λ out. (with_out out w, slots_of family out))
              (sym (unlocks_out i op n me.0.out odd even)),
          t.1,
        ),
      )

  enters : Fits Mutex → MayStep Mutex (word_index number Mutex) op me.0.owns → found Mutex % 2 ≡ 0
      → apply op (found Mutex) % 2 ≡ 1 → Goes Mutex (slots_of family me.0.out)
  enters fits may even odd = let i : ℕ = word_index number Mutex in let n : ℕ = found Mutex in let m : ℕ =
      apply op n in let w = after_step Mutex i op n me.0 in let t = bare_taken fits may in
      let mine : owns_after_step Mutex i op n me.0.owns ≡ owning i Exclusive ∷ me.0.owns =
      ap (λ (x : Trade). owns_after i x me.0.owns) (locks_trade i op n even odd) in
      let some' : 0 < owned i exclusive w.owns = omega (
        arith,
        ap (owned i exclusive) mine,
        cond_same i i 1 refl,
      ) in
      let out = goes_out words family (at_hand m bare_state.homes (set s.views id w)) t.0 number id w
      (set_here s.views id w (has_index s.views id me.0 at)) refl below some' in
      let there : LotRule words family (at_hand m (set bare_state.homes i none)
      (set s.views id (with_out (i ∷ []) w))) =
      subst (λ vs. LotRule words family (at_hand m (set bare_state.homes i none) vs))
      (set_again s.views id w (with_out (i ∷ []) w)) out.1 in (
        with_out (i ∷ []) w,
        chain gives (takes i (slot_at family i)),
        (tt, out.0),
        there,
        (
          ap (λ c. (with_out (i ∷ []) w, (i, slot_at family i) ∷ c)) nothing_more
              ∙ ap (λ out. (with_out out w, slots_of family out)) (sym (locks_out i op n me.0.out even odd)),
          t.1,
        ),
      )

  by_kind : (kind : WordKind) → Fits kind → MayStep kind (word_index number kind) op me.0.owns
      → Goes kind (slots_of family me.0.out)
  by_kind Mutex fits may = let i : ℕ = word_index number Mutex in let n : ℕ = found Mutex in
      dite (ℕ_discrete (n % 2) (apply op n % 2))
      (λ e. stays Mutex fits may (stays_out i op n me.0.out e) (λ _. inl e))
      (λ ne. dite (ℕ_discrete (n % 2) 0) (λ even. enters fits may even (omega arith))
      (λ odd. leaves fits may (omega arith) (omega arith)))
  by_kind RwLock fits may = stays RwLock fits may refl (λ e. absurd (omega (arith, ap rank e)))
  by_kind Condvar fits may = stays Condvar fits may refl (λ e. absurd (omega (arith, ap rank e)))
  by_kind Once fits may = stays Once fits may refl (λ e. absurd (omega (arith, ap rank e)))
  by_kind (Semaphore permits) fits may = stays (Semaphore permits) fits may refl
      (λ e. absurd (omega (arith, ap rank e)))
  by_kind Count fits may = stays Count fits may refl (λ e. absurd (omega (arith, ap rank e)))

  -- a step on a word of this kind, taken for one of the plain kind
  abbrev GoesAs : WordKind → WordKind → List (ℕ × PermitSlot) → Type 0
  GoesAs kind k c = (w : View) × (a : Act PermitSlot) × Valid s.homes c a × LotRule words family
      (stepped s (word_index number kind) (apply op (found kind)) id c w a)
      × TakesStepOf family k (word_index number kind) op me (found kind) (w, carried_after c a)

  plainly : (kind : WordKind) (c : List (ℕ × PermitSlot)) → Goes kind c → GoesAs kind (plain kind) c
  plainly Mutex c g = g
  plainly RwLock c g = g
  plainly Condvar c g = g
  plainly Once c g = g
  plainly Count c g = g
  plainly (Semaphore permits) c g = g

-- the law of all steps on words: one that the seat may take keeps the rule
pub steps : (words family slots id : ℕ) (me : Me PermitSlot View) (number : ℕ) (kind : WordKind) (op : Op)
    → number < words → me.1 ≡ slots_of family me.0.out → MayStep kind (word_index number kind) op me.0.owns
    → Allows (LotRule words family) slots id me (word_index number kind) (apply op)
    (TakesStep family (word_index number kind) op me)
steps words family slots id me number kind op below held may s o wide at fits =
    let i : ℕ = word_index number kind in let n : ℕ = get_or s.words i 0 in
    let Then : WordKind → List (ℕ × PermitSlot) → Type 0 = λ k c. (w : View) × (a : Act PermitSlot)
    × Valid s.homes c a × LotRule words family (stepped s i (apply op n) id c w a)
    × TakesStepOf family k i op me n (w, carried_after c a) in
    subst (λ (k : WordKind). Then k me.1) (sym (word_kind_at-index number kind))
    (subst (λ (c : List (ℕ × PermitSlot)). Then (plain kind) c) (sym held)
    (plainly words family id me number op below s o at kind (slots_of family me.0.out)
    (by_kind words family id me number op below s o at kind fits may)))

-- a step that may be taken is allowed, by the index that was computed and the operation that was matched
pub steps_at_word : (words family slots id : ℕ) (me : Me PermitSlot View) (number : ℕ) (kind : WordKind)
    (at : ℕ) (op op' : Op) → op ≡ op' → at ≡ word_index number kind → number < words
    → me.1 ≡ slots_of family me.0.out → MayStep kind (word_index number kind) op me.0.owns
    → Allows (LotRule words family) slots id me at (apply op') (TakesStep family at op' me)
steps_at_word words family slots id me number kind at op op' same there below held may =
    let may' : MayStep kind (word_index number kind) op' me.0.owns =
    subst (λ (x : Op). MayStep kind (word_index number kind) x me.0.owns) same may in
    subst (λ (i : ℕ). Allows (LotRule words family) slots id me i (apply op') (TakesStep family i op' me))
    (sym there) (steps words family slots id me number kind op' below held may')

-- a step that leaves all as it was, and is told to nobody
pub silent : (words family : ℕ) (s : State PermitSlot View) → LotRule words family s → (i id : ℕ) (v :
    View) → get_elem? s.views id ≡ some v
    → LotRule words family (record {
      words = set s.words i (get_or s.words i 0);
      homes = s.homes;
      views =
          set s.views id v;
    })
silent words family s o i id v at = subst (λ (xs : List ℕ). LotRule words family (record {
  words = xs;
  homes = s.homes;
  views = set s.views id v;
})) (sym (set-get_or s.words i 0))
    (subst (λ (vs : List View). LotRule words family (record {
      words = s.words;
      homes = s.homes;
      views = vs;
    })) (sym (set_elem s.views id v at)) o)

-- a load that finds bits set is an or with these, and any other is no step
pub sees_set : (words family slots id : ℕ) (me : Me PermitSlot View) (number : ℕ) (kind : WordKind) (bits : ℕ)
    → number < words → me.1 ≡ slots_of family me.0.out → MayStep kind (word_index number kind) (Or bits)
    me.0.owns
    → Allows (LotRule words family) slots id me (word_index number kind) (λ n. n)
    (saw_set family bits (step slots (word_index number kind) 0 0 none) me)
sees_set words family slots id me number kind bits below held may s o wide at fits =
    let i : ℕ = word_index number kind in let n : ℕ = get_or s.words i 0 in
    dite (ℕ_discrete (bit_or n bits) n)
    (λ e. let t = steps words family slots id me number kind (Or bits) below held may s o wide at fits in (
      t.0,
      t.1,
      t.2,
      subst (λ (m : ℕ). LotRule words family (stepped s i m id me.1 t.0 t.1)) e t.3,
      ((λ _. t.4), λ ne. absurd (ne e)),
    ))
    (λ ne. (me.0, keeps, tt, silent words family s o i id me.0 at, ((λ e. absurd (ne e)), λ _. refl)))

-- a step where it expects the real number, and none where it expects another, by which it leaves each word of
-- a mutex as that is
pub expected_allowed : (words family slots id : ℕ) (me : Me PermitSlot View) (number real first second : ℕ)
    (op_of : ℕ → Op) → number < words → me.1 ≡ slots_of family me.0.out
    → MayStep Mutex (word_index number Mutex) (op_of real) me.0.owns → (first ≡ real)
    ⊎ ((first ≢ real) × ((n : ℕ) → n < 4 → apply (op_of first) n ≡ n))
    → let i = word_index number Mutex in Allows (LotRule words family) slots id me i (apply (op_of first))
    (TakesExpected family real (op_of real) (step slots i first second none) me)
expected_allowed words family slots id me number real first second op_of below held may which s o wide at
    fits =
    let i : ℕ = word_index number Mutex in let n : ℕ = get_or s.words i 0 in let code =
    o.coded number Mutex below in
    let Goes : ℕ → Type 0 = λ f. (w : View) × (a : Act PermitSlot) × Valid s.homes me.1 a
    × LotRule words family (stepped s i (apply (op_of f) n) id me.1 w a)
    × TakesExpected family real (op_of real) (step slots i f second none) me n (w, carried_after me.1 a)
    in
    ⊎_elim
    (λ is. let t = steps words family slots id me number Mutex (op_of real) below held may s o wide at fits in
    subst Goes (sym is) (t.0, t.1, t.2, t.3, ((λ _. t.4), λ ne. absurd (ne refl))))
    (λ other. let t = steps words family slots id me number Mutex Load below held
    ((mutex_steps i me.0.owns).load) s o wide at fits in (
      me.0,
      keeps,
      tt,
      subst (λ (m : ℕ). LotRule words family (stepped s i m id me.1 me.0 keeps)) (sym (other.1 n code.0))
          (silent words family s o i id me.0 at),
      ((λ is. absurd (other.0 is)), λ _. (refl, t.4.1)),
    ))
    which

-- the value that an exchange expects which enters a mutex, or gives one up: the real number, or one by which
-- it does nothing
pub enters_or_not : (unlocked : ℕ) → (unlocked ≢ 0 → 3 < unlocked) → (unlocked ≡ 0)
    ⊎ ((unlocked ≢ 0) × ((n : ℕ) → n < 4 → apply (Exchange unlocked 1) n ≡ n))
enters_or_not unlocked expects = dite (ℕ_discrete unlocked 0) (λ is. inl is)
    (λ ne. let large = expects ne
    in inr (ne, λ n small. ap (λ b. if b then 1 else n) (ne_eqb n unlocked (λ e. omega arith))))

pub leaves_or_not : (op_of : ℕ → Op) (locked : ℕ) → ((n : ℕ) → n < 4 → apply (op_of 0) n ≡ n) → locked ≤ 1
    → (locked ≡ 1) ⊎ ((locked ≢ 1) × ((n : ℕ) → n < 4 → apply (op_of locked) n ≡ n))
leaves_or_not op_of locked nothing expects = dite (ℕ_discrete locked 1) (λ is. inl is)
    (λ ne. let none : locked ≡ 0 = omega arith in inr (
      ne,
      λ n small. ap (λ (k : ℕ). apply (op_of k) n) none
          ∙ nothing n small,
    ))

pub takes_nothing : (n : ℕ) → n < 4 → apply (Sub 0) n ≡ n
takes_nothing n small = each_code (λ m. apply (Sub 0) m ≡ m) refl refl refl refl n small

pub exchanges_nothing : (n : ℕ) → n < 4 → apply (Exchange 0 0) n ≡ n
exchanges_nothing n small = each_code (λ m. apply (Exchange 0 0) m ≡ m) refl refl refl refl n small

-- the rest of a mutex's word after the or of a try, locked and unlocked
still_locked : (n : ℕ) → n < 4 → (n % 2 ≡ 0 → ⊥) → apply (Or 1) n ≡ n
still_locked n small odd = each_code (λ k. (k % 2 ≡ 0 → ⊥) → apply (Or 1) k ≡ k) (λ odd. absurd (odd refl))
    (λ odd. refl) (λ odd. absurd (odd refl)) (λ odd. refl) n small odd

is_locked : (n : ℕ) → n < 4 → n % 2 ≡ 0 → apply (Or 1) n ≡ n + 1
is_locked n small even = each_code (λ k. k % 2 ≡ 0 → apply (Or 1) k ≡ k + 1) (λ even. refl)
    (λ even. absurd (omega arith)) (λ even. refl) (λ even. absurd (omega arith)) n small even

-- An exchange that finds what it expects writes, and one that doesn't writes nothing.
meets : (n seen : ℕ) → n ≡ seen → apply (Exchange seen (seen + 1)) n ≡ seen + 1
meets n seen is = ap (λ b. if b then seen + 1 else n) (eq-eqb n seen is)

misses : (n seen : ℕ) → n ≢ seen → apply (Exchange seen (seen + 1)) n ≡ n
misses n seen ne = ap (λ b. if b then seen + 1 else n) (ne_eqb n seen ne)

-- a load that is a try where it finds the mutex locked
pub sees_locked_allowed : (words family slots id : ℕ) (me : Me PermitSlot View) (number : ℕ) → number < words
    → me.1 ≡ slots_of family me.0.out
    → let i = word_index number Mutex in Allows (LotRule words family) slots id me i (λ n. n)
    (sees_locked family (step slots i 0 0 none) me)
sees_locked_allowed words family slots id me number below held s o wide at fits =
    let i : ℕ = word_index number Mutex in let n : ℕ = get_or s.words i 0 in let code =
    o.coded number Mutex below in
    dite (ℕ_discrete (n % 2) 0)
    (λ even. (me.0, keeps, tt, silent words family s o i id me.0 at, ((λ _. refl), λ not. absurd (not even))))
    (λ odd. let t = steps words family slots id me number Mutex (Or 1) below held
    ((mutex_steps i me.0.owns).set_locked) s o wide at fits in (
      t.0,
      t.1,
      t.2,
      subst (λ (m : ℕ). LotRule words family (stepped s i m id me.1 t.0 t.1))
          (still_locked n code.0 odd) t.3,
      ((λ even. absurd (odd even)), λ _. t.4),
    ))

-- an exchange in place of a try, of a mutex that was seen unlocked
pub tries_seen_allowed : (words family slots id : ℕ) (me : Me PermitSlot View) (number seen : ℕ)
    → seen % 2 ≡ 0 → number < words → me.1 ≡ slots_of family me.0.out
    → let i = word_index number Mutex in Allows (LotRule words family) slots id me i
    (apply (Exchange seen (seen + 1))) (tries_seen family (step slots i seen (seen + 1) none) me)
tries_seen_allowed words family slots id me number seen even below held s o wide at fits =
    let i : ℕ = word_index number Mutex in let n : ℕ = get_or s.words i 0 in let code =
    o.coded number Mutex below in
    let t = steps words family slots id me number Mutex (Or 1) below held
    ((mutex_steps i me.0.owns).set_locked) s o wide at fits in
    let Rule : ℕ → Type 0 = λ m. LotRule words family (stepped s i m id me.1 t.0 t.1) in
    dite (ℕ_discrete n seen)
    (λ is. (
      t.0,
      t.1,
      t.2,
      subst Rule (is_locked n code.0 (omega arith) ∙ ap (λ (k : ℕ). k + 1) is ∙ sym (meets n seen is)) t.3,
      ((λ _. t.4), ((λ ne. absurd (ne is)), λ odd. absurd (odd (omega arith)))),
    ))
    (λ ne. dite (ℕ_discrete (n % 2) 0)
    (λ free. (
      me.0,
      keeps,
      tt,
      subst (λ (m : ℕ). LotRule words family (stepped s i m id me.1 me.0 keeps)) (sym (misses n seen ne))
          (silent words family s o i id me.0 at),
      ((λ is. absurd (ne is)), ((λ _ _. refl), λ odd. absurd (odd free))),
    ))
    (λ odd. (
      t.0,
      t.1,
      t.2,
      subst Rule (still_locked n code.0 odd ∙ sym (misses n seen ne)) t.3,
      ((λ is. absurd (ne is)), ((λ _ free. absurd (odd free)), λ _. t.4)),
    )))
