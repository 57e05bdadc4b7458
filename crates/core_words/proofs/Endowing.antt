-- A semaphore's word is drawn with its permits, and these stay as many.
use Rattle.std.proofs.Common.{◌≡◌, ◌≢◌, ◌⊎◌, ⊎_elim, inl, inr, ℕ, zero, suc, ◌+◌, ◌-◌, ◌/◌, ◌^◌, ◌<◌, ◌≤◌}
use Rattle.std.proofs.Common.{List, [], ◌∷◌, ◌++◌, get_or, set, cond, eqb, sym, refl, ap, ◌∙◌}
use Rattle.std.proofs.Common.{subst, arith, eq-eqb, ne_eqb}
use mathlib.Core.Logic.{dite}
use mathlib.Core.Option.{some, none}
use native.Mathlib.Decide.{ℕ_discrete}
use lib.ListN.{get_elem?}
use prog.Atomic.{either}
use Rattle.atomic_table.specs.Table.{State, Me, step, keeps, Act, Valid, carried_after, stepped, Allows}
use Rattle.atomic_table.proofs.Lists.{at_set}
use Rattle.core_base.specs.declared.ops.Op.TheVariants.{Exchange, Load}
use Rattle.core_words.specs.Indices.{counter, permits_in, word_index}
use Rattle.core_words.specs.Views.{blank, going_on, with_out, total, total_below, owned, owning, named}
use Rattle.core_words.specs.Views.{counted, steps_at, outs, drew, drew_permits, granted}
use Rattle.core_words.specs.Codes.{Codes, IsSemaphoreCode, everyone, exclusive, shared}
use Rattle.core_words.specs.Rule.{LotRule, MayHaveOut}
use Rattle.core_words.specs.RuleLaws.{PermitsAreAllThere}
use Rattle.core_words.specs.Permits.{slots_of}
use Rattle.core_words.specs.Steps.{holding, one_more_step, so_many_shared}
use Rattle.core_words.specs.Plays.{WithinPermits, draws_permits, numbered, sees_free}
use Rattle.core_words.specs.declared.owners.Owner.{Owner}
use Rattle.core_words.specs.declared.owners.Ownership.{Ownership}
use Rattle.core_words.specs.declared.views.View.{View}
use Rattle.core_words.specs.declared.views.Drawn.{Drawn}
use Rattle.core_words.specs.declared.words.WordKind.{WordKind}
use Rattle.core_words.specs.declared.words.WordKind.TheVariants.{Mutex, Condvar, Count, Semaphore}
use Rattle.core_parts.specs.declared.slot.PermitSlot.{PermitSlot}
use Rattle.core_words.proofs.Indices.{index-kind}
use Rattle.core_words.proofs.Keeps.{SameCounts, SameName, at_counter, codes_alike, count_turned}
use Rattle.core_words.proofs.Keeps.{counts_still, no_permits, permits_of, same_counts, shown_still}
use Rattle.core_words.proofs.Keeps.{total_below-numbered}
use Rattle.core_words.proofs.Lists.{has_index, set_again, set_here}
use Rattle.core_words.proofs.SemaphoreSteps.{many_of, semaphore_steps}
use Rattle.core_words.proofs.Stepping.{steps}
use Rattle.core_words.proofs.Totals.{total-append, total-map, total-none, total-same, total-set, term_le}
use Rattle.core_words.proofs.Totals.{cond_same, cond_other}
use Rattle.core_words.proofs.Trades.{zero_either}

-- ------------------------------------------------ a thread that drew nothing of a number was granted nothing

abbrev is_number : ℕ → ℕ → ℕ
is_number number k = cond (eqb k number) 1 0

none_drawn : (number : ℕ) (ds : List Drawn) → total (λ (d : Drawn). is_number number d.number) ds ≡ 0
    → permits_of number ds ≡ 0
none_drawn number [] e = refl
none_drawn number (d ∷ ds) e = dite (ℕ_discrete d.number number)
    (λ is. absurd (omega (arith, cond_same d.number number 1 is)))
    (λ ne. omega (
      arith,
      cond_other d.number number (permits_in d.kind) ne,
      none_drawn number ds (omega arith),
    ))

none_granted : (number : ℕ) (views : List View) → total (drew (is_number number)) views ≡ 0
    → granted number views ≡ 0
none_granted number [] e = refl
none_granted number (v ∷ vs) e = omega (
  arith,
  none_drawn number v.drawn (omega arith),
  none_granted number vs (omega arith),
)

below_none : (n c : ℕ) → c ≤ n → total_below (is_number n) c ≡ 0
below_none n zero h = refl
below_none n (suc c) h = omega (arith, below_none n c (omega arith), cond_other c n 1 (λ e. omega arith))

below_one : (n c : ℕ) → total_below (is_number n) c ≤ 1
below_one n zero = omega arith
below_one n (suc c) = dite (ℕ_discrete c n)
    (λ e. omega (arith, below_none n c (omega arith), cond_same c n 1 e))
    (λ ne. omega (arith, below_one n c, cond_other c n 1 ne))

-- ---------------------------------------------------------------- a seat's holdings with its permits

held_here : (at permits : ℕ) (owns : List Ownership) (weight : Owner → ℕ)
    → owned at weight (holding at permits ++ owns) ≡ total weight (so_many_shared permits) + owned at weight
    owns
held_here at permits owns weight = let f = λ (x : Ownership). cond (eqb x.at at) (weight x.owner) 0 in
    omega (
      arith,
      total-append f (holding at permits) owns,
      total-map f (owning at) (so_many_shared permits),
      total-same (λ (o : Owner). f (owning at o)) weight (so_many_shared permits)
          (λ o. cond_same at at (weight o) refl),
    )

held_elsewhere : (at permits : ℕ) (owns : List Ownership) (r : ℕ) → r ≢ at → (weight : Owner → ℕ)
    → owned r weight (holding at permits ++ owns) ≡ owned r weight owns
held_elsewhere at permits owns r ne weight = let f = λ (x : Ownership). cond (eqb x.at r) (weight x.owner) 0
    in
    omega (
      arith,
      total-append f (holding at permits) owns,
      total-map f (owning at) (so_many_shared permits),
      total-none (λ (o : Owner). f (owning at o)) (so_many_shared permits)
          (λ o. cond_other at r (weight o) (λ e. ne (sym e))),
    )

held_counts : (at permits : ℕ) (owns : List Ownership) (r : ℕ) → counted r (holding at permits ++ owns)
    ≡ counted r owns
held_counts at permits owns r = let f = λ (x : Ownership). cond (eqb x.at r) x.count 0 in
    omega (
      arith,
      total-append f (holding at permits) owns,
      total-map f (owning at) (so_many_shared permits),
      total-none (λ (o : Owner). f (owning at o)) (so_many_shared permits) (λ o. zero_either (eqb at r)),
    )

-- a seat that drew a semaphore without permits has drawn it with them, and holds them
module _ (words family : ℕ) (s : State PermitSlot View) (o : LotRule words family s) (number permits j : ℕ)
    (v w : View) (me : get_elem? s.views j ≡ some v)
    (below : number < words) (few : permits ≤ 2 ^ 62) (fresh : granted number s.views ≡ 0)
    (holds : w.owns ≡ holding (word_index number (Semaphore permits)) permits ++ v.owns)
    (drew_here : drew_permits number w ≡ drew_permits number v + permits) (drew_there : (k : ℕ) → k ≢
    number → drew_permits k w ≡ drew_permits k v)
    (same-drawn : (weight : ℕ → ℕ) → drew weight w ≡ drew weight v) (same-steps : (r : ℕ) → steps_at r w ≡
    steps_at r v) (same-out : w.out ≡ v.out) (same-saw : w.saw ≡ v.saw) (same-name : SameName v w) where
  abbrev i : ℕ
  i = word_index number (Semaphore permits)

  abbrev vs : List View
  vs = set s.views j w

  here : (weight : Owner → ℕ) → named i weight vs ≡ named i weight s.views
      + total weight (so_many_shared permits)
  here weight = omega (
    arith,
    total-set (λ (u : View). owned i weight u.owns) s.views j v w me,
    ap (owned i weight) holds,
    held_here i permits v.owns weight,
  )

  there : (r : ℕ) → r ≢ i → (weight : Owner → ℕ) → named r weight vs ≡ named r weight s.views
  there r ne weight = omega (
    arith,
    total-set (λ (u : View). owned r weight u.owns) s.views j v w me,
    ap (owned r weight) holds,
    held_elsewhere i permits v.owns r ne weight,
  )

  stepped-same : (r : ℕ) → total (steps_at r) vs ≡ total (steps_at r) s.views
  stepped-same r = omega (arith, total-set (steps_at r) s.views j v w me, same-steps r)

  code : IsSemaphoreCode (get_or s.words i 0) (λ weight. named i weight vs)
  code = let was = o.coded number (Semaphore permits) below in let was₁ = was.1 in let all =
      o.semaphores number below in (
        omega (arith, here shared, many_of shared refl permits),
        omega (
          arith,
          here shared,
          here everyone,
          many_of shared refl permits,
          many_of everyone refl permits,
        ),
      )

  same-counted : SameCounts s.views vs
  same-counted = same_counts s.views j v w me same-name (λ r. ap (counted r) holds ∙ held_counts i permits
      v.owns r)

  no_less : (r : ℕ) → owned r exclusive v.owns ≤ owned r exclusive w.owns
  no_less r = omega (
    arith,
    ap (owned r exclusive) holds,
    total-append (λ (x : Ownership). cond (eqb x.at r) (exclusive x.owner) 0) (holding i permits) v.owns,
  )

  carries : MayHaveOut words w.out w.owns
  carries = subst (λ (out : List ℕ). MayHaveOut words out w.owns) (sym same-out) (⊎_elim (λ none'. inl none')
      (λ t. let r : ℕ = word_index t.0 Mutex in let some' = t.3
      in inr (t.0, t.1, t.2, omega (arith, no_less r)))
      (o.carried j v me))

  pub endowed : LotRule words family (record { words = s.words; homes = s.homes; views = vs })
  endowed = record {
    size = o.size;
    coded = λ number' kind' below'. let r : ℕ = word_index number' kind' in
        dite (ℕ_discrete r i)
        (λ e. subst (λ (q : ℕ). Codes kind' (get_or s.words q 0) (λ weight. named q weight vs)) (sym e)
        (codes_alike (Semaphore permits) kind' (get_or s.words i 0) (λ weight. named i weight vs)
        (index-kind number' number kind' (Semaphore permits) e) code))
        (λ ne. subst (Codes kind' (get_or s.words r 0)) (λ k weight. sym (there r ne weight) k) (o.coded
        number' kind' below'));
    shows = λ number' below'. shown_still words number' s.views vs (get_or s.words (word_index number'
        Condvar) 0) (λ k. omega (arith, stepped-same (word_index k Mutex))) (o.shows number' below');
    numbers = λ thread. let old = o.numbers thread in omega (arith, same-counted.numbers thread);
    counts = λ number' below'. counts_still (word_index number' Count) (get_or s.words (word_index number'
        Count) 0) s.views vs same-counted (o.counts number' below');
    semaphores = λ number' below'. let r : ℕ = word_index number' (Semaphore 0) in let old = o.semaphores
        number' below' in
        dite (ℕ_discrete number' number)
        (λ e. subst (λ (k : ℕ). get_or s.words (word_index k (Semaphore 0)) 0 / 2
        + named (word_index k (Semaphore 0)) shared vs ≡ granted k vs) (sym e)
        (let was = o.semaphores number below in omega (
          arith,
          here shared,
          many_of shared refl permits,
          total-set (drew_permits number) s.views j v w me,
          drew_here,
        )))
        (λ ne. omega (
          arith,
          there r (λ e. ne (omega arith)) shared,
          total-set (drew_permits number') s.views
              j v w me,
          drew_there number' ne,
        ));
    owned = λ r weight some'. dite (ℕ_discrete r i) (λ e. let size = o.size in (omega arith, omega arith))
        (λ ne. o.owned r weight (omega (arith, there r ne weight)));
    untouched = λ r above h none'. o.untouched r above h (omega (arith, stepped-same r));
    drawn = λ weight. omega (
      arith,
      total-set (drew weight) s.views j v w me,
      same-drawn weight,
      o.drawn weight,
    );
    enough = o.enough;
    saw = λ q u e. ⊎_elim (λ t. let old = o.saw j v me in omega (
      arith,
      same-saw,
      ap (λ (y : View). y.saw) t.1,
    )) (λ t. o.saw q u t.1) (at_set s.views j q w u e);
    carried = λ q u e. ⊎_elim (λ t. subst (λ (y : View). MayHaveOut words y.out y.owns) t.1 carries)
        (λ t. o.carried q u t.1) (at_set s.views j q w u e);
    homes = o.homes;
    permits = λ number' below' none'. let r : ℕ = word_index number' Mutex in
        o.permits number' below' (omega (
          arith,
          total-set (outs r) s.views j v w me,
          ap (total (λ (k : ℕ). cond (eqb k r) 1 0)) same-out,
        ));
  }

-- a draw with permits, where the seat has seen the counter
pub draw_permits : (words family slots id : ℕ) (me : Me PermitSlot View) (permits seen : ℕ) → permits ≤ 2 ^ 62
    → me.0.saw ≡ seen → seen + 1 ≤ words
    → Allows (LotRule words family) slots id me counter (λ n. either (eqb n seen) (seen + 1) n)
    (draws_permits permits (step slots counter seen (seen + 1) none) me)
draw_permits words family slots id me permits seen few saw room s o wide at fits =
    let n : ℕ = get_or s.words counter 0 in let new : ℕ = seen + 1 in let op = Exchange seen new
    in let bare : List WordKind = Semaphore 0 ∷ [] in
    let Goal : ℕ → Type 0 = λ (y : ℕ). (w : View) × (a : Act PermitSlot) × Valid s.homes me.1 a
    × LotRule words family (stepped s counter y id me.1 w a)
    × draws_permits permits (step slots counter seen new none) me n (w, carried_after me.1 a) in
    dite (ℕ_discrete n seen)
    (λ e. let v : View = with_out me.0.out (going_on me.0 (one_more_step me.0 counter op n) me.0.owns
    (numbered n bare ++ me.0.drawn) new) in
    let w : View = with_out me.0.out (going_on me.0 (one_more_step me.0 counter op n) (holding (word_index
    n (Semaphore permits)) permits ++ me.0.owns) (numbered n (Semaphore permits ∷ []) ++ me.0.drawn)
    new) in
    let drew_none : (number : ℕ) → drew_permits number v ≡ drew_permits number me.0 = λ number. omega (
      arith,
      total-append (λ (word : Drawn). cond (eqb word.number number) (permits_in word.kind) 0)
          (numbered n bare) me.0.drawn,
      no_permits number n bare (refl, tt),
    ) in
    let s₁ : State PermitSlot View = record {
      words = set s.words counter new;
      homes = s.homes;
      views = set
          s.views id v;
    } in
    let o₁ : LotRule words family s₁ = count_turned words family s o id new me.0 v at (omega arith) room
    refl (record { naming = refl; shares = refl }) refl (omega arith) (λ r h. at_counter me.0 op n r h)
    (λ weight. omega (
      arith,
      total-append (λ (word : Drawn). weight word.number) (numbered n bare)
          me.0.drawn,
      total_below-numbered weight n bare,
      ap (λ (k : ℕ). total_below weight (k + 1)) e,
    ))
    drew_none in
    let fresh : granted n s₁.views ≡ 0 = omega (
      arith,
      total-set (drew_permits n) s.views id me.0 v at,
      drew_none n,
      none_granted n s.views (o.drawn (is_number n) ∙ below_none n n (omega arith)),
    ) in
    let there : LotRule words family (record {
      words = set s.words counter new;
      homes = s.homes;
      views = set (set s.views id v) id w;
    }) =
    endowed words family s₁ o₁ n permits id v w (set_here s.views id v (has_index s.views id me.0 at))
    (omega arith) few fresh refl
    (omega (arith, cond_same n n permits refl, cond_same n n 0 refl))
    (λ k ne. omega (arith, cond_other n k permits (λ f. ne (sym f)), cond_other n k 0 (λ f. ne (sym f))))
    (λ weight. refl) (λ r. refl) refl refl (record { naming = refl; shares = refl }) in
    subst (λ b. Goal (either b new n)) (sym (eq-eqb n seen e)) (
      w,
      keeps,
      tt,
      subst (λ views. LotRule words family (record {
        words = set s.words counter new;
        homes = s.homes;
        views = views;
      })) (set_again s.views id v w) there,
      ((λ _. refl), λ ne. absurd (ne e)),
    ))
    (λ ne. let w = with_out me.0.out (going_on me.0 (one_more_step me.0 counter op n) me.0.owns me.0.drawn
    n) in
    subst (λ b. Goal (either b new n)) (sym (ne_eqb n seen ne)) (
      w,
      keeps,
      tt,
      count_turned words family s o id n me.0 w at (omega arith) o.enough refl (record {
        naming = refl;
        shares = refl;
      }) refl (omega arith) (λ r h. at_counter me.0 op n r h) (λ weight. refl) (λ number.
          refl),
      ((λ e. absurd (ne e)), λ _. (omega (arith, o.saw id me.0 at), refl)),
    ))

-- ---------------------------------------------------------------- the permits stay as many

-- a thread that drew a number knows all that was granted of it
known_granted : (words family : ℕ) (s : State PermitSlot View) → LotRule words family s
    → (number seat : ℕ) (v : View) → get_elem? s.views seat ≡ some v
    → 0 < drew_permits number v → granted number s.views ≡ drew_permits number v
known_granted words family s o number seat v me some' =
    let f = drew (is_number number) in
    let mine : 0 < f v = dite (ℕ_discrete (f v) 0) (λ z. absurd (omega (arith, none_drawn number v.drawn z)))
    (λ nz. omega arith) in
    let others : total f (set s.views seat blank) ≡ 0 = omega (
      arith,
      total-set f s.views seat v blank me,
      o.drawn (is_number number),
      below_one number (get_or s.words counter 0),
    ) in
    omega (
      arith,
      total-set (drew_permits number) s.views seat v blank me,
      none_granted number (set s.views seat blank) others,
    )

pub permits_are_all_there : PermitsAreAllThere
permits_are_all_there words family s o number below = let i : ℕ = word_index number (Semaphore 0) in let all =
    o.semaphores number below in
    let code = o.coded number (Semaphore 0) below in (
      all,
      code.1,
      λ seat v me. (
        omega (
          arith,
          term_le (λ (u : View). owned i shared u.owns) s.views seat v
              me,
        ),
        known_granted words family s o number seat v me,
      ),
    )

-- a load of a semaphore's word, which tells how many permits may be free
pub sees_free_allowed : (words family slots id : ℕ) (me : Me PermitSlot View) (number : ℕ) → number < words
    → me.1 ≡ slots_of family me.0.out
    → let i = word_index number (Semaphore 0) in Allows (LotRule words family) slots id me i (λ n. n)
    (sees_free family number (step slots i 0 0 none) me)
sees_free_allowed words family slots id me number below held s o wide at fits = let i : ℕ =
    word_index number (Semaphore 0) in
    let t = steps words family slots id me number (Semaphore 0) Load below held
    ((semaphore_steps 0 i me.0.owns).load) s o wide at fits in
    let all = o.semaphores number below in let code = o.coded number (Semaphore 0) below in let few = code.0
    in
    let within : WithinPermits number (get_or s.words i 0) me.0 = (
      granted number s.views,
      omega (arith, term_le (λ (u : View). owned i shared u.owns) s.views id me.0 at),
      omega arith,
      known_granted words family s o number id me.0 at,
    ) in
    (t.0, t.1, t.2, t.3, (t.4, within))

-- a draw of so many permits is allowed, by the number of permits that was picked
pub draw_permits_of : (words family slots id : ℕ) (me : Me PermitSlot View) (permits many seen : ℕ)
    → many ≡ permits → permits ≤ 2 ^ 62 → me.0.saw ≡ seen → seen + 1 ≤ words
    → Allows (LotRule words family) slots id me counter (λ n. either (eqb n seen) (seen + 1) n)
    (draws_permits many (step slots counter seen (seen + 1) none) me)
draw_permits_of words family slots id me permits many seen e few saw room =
    subst (λ (k : ℕ). Allows (LotRule words family) slots id me counter (λ n. either (eqb n seen) (seen + 1)
    n) (draws_permits k (step slots counter seen (seen + 1) none) me)) (sym e)
    (draw_permits words family slots id me permits seen few saw room)
