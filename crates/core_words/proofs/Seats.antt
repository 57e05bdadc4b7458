-- Seats are split and joined: what is named, done and drawn in all stays as it was.
use Rattle.std.proofs.Common.{◌≡◌, ℕ, ◌+◌, ◌<◌, ◌≤◌, ◌⊎◌, true, cond, eqb, [], ◌∷◌, ◌++◌, ⊎_elim, inl, inr}
use Rattle.std.proofs.Common.{List, set, sym, ◌∙◌, ap, subst, refl, arith}
use mathlib.Core.Option.{some}
use lib.ListN.{get_elem?}
use Rattle.atomic_table.specs.Table.{Splits, Joins}
use Rattle.atomic_table.proofs.Lists.{at_set, at_snoc}
use Rattle.core_words.specs.Indices.{word_index, word_kind_at}
use Rattle.core_words.specs.Codes.{exclusive}
use Rattle.core_words.specs.Views.{blank, with_out, total, owned, owning, counted, counts_in, has_number}
use Rattle.core_words.specs.Views.{said_as, shared_as, steps_at, outs}
use Rattle.core_words.specs.Plays.{BringsNoName, goes_on_with, left_over, piece, takes_in}
use Rattle.core_words.specs.Rule.{LotRule, MayHaveOut}
use Rattle.core_words.specs.Steps.{has, without}
use Rattle.core_words.specs.declared.owners.Owner.{Owner}
use Rattle.core_words.specs.declared.owners.Owner.TheVariants.{Exclusive}
use Rattle.core_words.specs.declared.words.WordKind.TheVariants.{Mutex}
use Rattle.core_words.specs.declared.owners.Ownership.{Ownership}
use Rattle.core_words.specs.declared.views.Naming.{Naming}
use Rattle.core_words.specs.declared.views.Naming.TheVariants.{Nobody}
use Rattle.core_words.specs.declared.views.Drawn.{Drawn}
use Rattle.core_words.specs.declared.views.View.{View}
use Rattle.core_words.specs.declared.views.WordStep.{WordStep}
use Rattle.core_words.proofs.Keeps.{reseated, said_alike}
use Rattle.core_words.proofs.Indices.{word_kind_at-index}
use Rattle.core_words.proofs.Lists.{set_else}
use Rattle.core_words.proofs.PermitSteps.{none_out}
use Rattle.core_words.proofs.Totals.{total-append, total-set, cond_same}
use Rattle.core_words.proofs.Trades.{total-without, zero_either}

-- two views together name, say, have done and drew what one does
pub record AreParts (w u v : View) : Type 0 where
  pub names : (r : ℕ) (weight : Owner → ℕ) → owned r weight w.owns + owned r weight u.owns ≡ owned r weight
      v.owns
  pub says : (r : ℕ) → counted r w.owns + counted r u.owns ≡ counted r v.owns
  pub did : (r : ℕ) → steps_at r w + steps_at r u ≡ steps_at r v
  pub drawn : (weight : Drawn → ℕ) → total weight w.drawn + total weight u.drawn ≡ total weight v.drawn
  pub out : (r : ℕ) → outs r w + outs r u ≡ outs r v
  pub numbers : (thread : ℕ) → has_number thread w.naming + has_number thread u.naming ≡ has_number thread
      v.naming
  pub said : (thread r : ℕ) → said_as thread r w + said_as thread r u ≡ said_as thread r v
  pub shares : (thread at : ℕ) → shared_as thread at w.shares + shared_as thread at u.shares ≡ shared_as
      thread at v.shares

-- a thread that has a permit out owns its mutex
abbrev Carries : ℕ → View → Type 0
Carries words v = MayHaveOut words v.out v.owns

-- a weight of views stays as a seat's view is cut in two
cut : (f : View → ℕ) (views : List View) (j : ℕ) (v w u : View) → get_elem? views j ≡ some v → f w + f u ≡ f v
    → total f (set views j w ++ u ∷ []) ≡ total f views
cut f views j v w u me parts = omega (
  arith,
  total-append f (set views j w) (u ∷ []),
  total-set f views j v w me,
)

-- a seat keeps a part of its view, and another part goes to a new seat; neither saw more of the counter
pub splits : (words family id : ℕ) (v w u : View) → AreParts w u v → w.saw ≤ v.saw → u.saw ≤ v.saw →
    (Carries words v → Carries words w × Carries words u) → Splits (LotRule words family) id v w u
splits words family id v w u parts less less' carries s o me = reseated words family s o s.homes (set
    s.views id w ++ u ∷ [])
    (λ r weight. cut (λ (x : View). owned r weight x.owns) s.views id v w u me (parts.names r weight))
    (record {
      numbers = λ thread. cut (λ (x : View). has_number thread x.naming) s.views id v w u me (parts.numbers
          thread);
      said = λ r. cut (λ (x : View). counted r x.owns) s.views id v w u me (parts.says r);
      names = λ thread r. cut (said_as thread r) s.views id v w u me (parts.said thread r);
      shares = λ thread at. cut (λ (x : View). shared_as thread at x.shares) s.views id v w u me
          (parts.shares thread at);
    })
    (λ r. cut (steps_at r) s.views id v w u me (parts.did r))
    (λ weight. cut (λ (x : View). total weight x.drawn) s.views id v w u me (parts.drawn weight))
    (λ q x e. let old = o.saw id v me in
    ⊎_elim (λ e₂. ⊎_elim (λ t. omega (arith, ap (λ (y : View). y.saw) t.1)) (λ t. o.saw q x t.1)
    (at_set s.views id q w x e₂))
    (λ (t : u ≡ x). omega (arith, ap (λ (y : View). y.saw) t)) (at_snoc (set s.views id w) u x q e))
    (λ q x e. let now = carries (o.carried id v me) in
    ⊎_elim (λ e₂. ⊎_elim (λ t. subst (Carries words) t.1 now.0) (λ t. o.carried q x t.1)
    (at_set s.views id q w x e₂))
    (λ (t : u ≡ x). subst (Carries words) t now.1) (at_snoc (set s.views id w) u x q e))
    refl
    (λ number below none. let r : ℕ = word_index number Mutex
    in o.permits number below (sym (cut (outs r) s.views id v w u me (parts.out r)) ∙ none))

-- one seat more, which knows nothing
pub seats_another : (words family id : ℕ) (v : View) → Splits (LotRule words family) id v v blank
seats_another words family id v = splits words family id v v blank
    (record {
      names = λ r weight. omega arith;
      says = λ r. omega arith;
      did = λ r. omega arith;
      drawn = λ
          weight. omega arith;
      out = λ r. omega arith;
      numbers = λ thread. omega arith;
      said = λ thread r.
          omega arith;
      shares = λ thread at. omega arith;
    }) (omega arith) (omega arith) (λ c. (c, inl refl))

-- a thread that gives up what isn't of the mutex whose permit is out has that permit out still
keeps_out : (words : ℕ) (v : View) (x : Ownership) → has x v.owns ≡ true → ((r : ℕ) → word_kind_at r ≡ Mutex
    → cond (eqb x.at r) (exclusive x.owner) 0 ≡ 0) → Carries words v → MayHaveOut words v.out
    (without x v.owns)
keeps_out words v x there apart carries = ⊎_elim (λ none. inl none)
    (λ t. let j : ℕ = word_index t.0 Mutex in let some' = t.3 in
    inr (
      t.0,
      t.1,
      t.2,
      omega (
        arith,
        total-without (λ (y : Ownership). cond (eqb y.at j) (exclusive y.owner)
            0) x v.owns there,
        apart j (word_kind_at-index t.0 Mutex),
      ),
    ))
    carries

-- an ownership that says nothing of a count leaves what is said of counts
count_none : (x : Ownership) (r : ℕ) → x.count ≡ 0 → cond (eqb x.at r) x.count 0 ≡ 0
count_none x r e = ap (λ (c : ℕ). cond (eqb x.at r) c 0) e ∙ zero_either (eqb x.at r)

says_without : (v : View) (x : Ownership) → has x v.owns ≡ true → x.count ≡ 0 → (r : ℕ) → counted r
    (without x v.owns) ≡ counted r v.owns
says_without v x there none r = omega (
  arith,
  total-without (λ (y : Ownership). cond (eqb y.at r) y.count
      0) x v.owns there,
  count_none x r none,
)

-- one ownership goes to a seat of its own
pub splits_off : (words family id : ℕ) (v : View) (x : Ownership) → has x v.owns ≡ true → x.count ≡ 0 → ((r
    : ℕ) → word_kind_at r ≡ Mutex → cond (eqb x.at r) (exclusive x.owner) 0 ≡ 0) → Splits (LotRule words
    family) id v (with_out v.out (left_over x v)) (piece x)
splits_off words family id v x there nothing apart = splits words family id v (with_out v.out (left_over x
    v)) (piece x) (record {
      names = λ r weight. omega (
        arith,
        total-without (λ (y : Ownership). cond (eqb y.at r) (weight y.owner) 0)
            x v.owns there,
      );
      says = λ r. omega (
        arith,
        total-without (λ (y : Ownership). cond (eqb y.at r) y.count 0) x v.owns
            there,
      );
      did = λ r. omega arith;
      drawn = λ weight. omega arith;
      out = λ r. omega arith;
      numbers = λ thread. omega arith;
      said = λ thread r. omega (
        arith,
        said_alike thread r v (with_out v.out (left_over x v)) refl
            (says_without v x there nothing r),
      );
      shares = λ thread at. omega arith;
    }) (omega arith) (omega arith) (λ c. (keeps_out words v x there apart c, inl refl))

-- an owner keeps the mutex whose permit is out, and all else goes to a seat of its own
pub keeps_owner : (words family id : ℕ) (v : View) (number : ℕ) → number < words
    → v.out ≡ word_index number Mutex ∷ [] → has (owning (word_index number Mutex) Exclusive) v.owns ≡ true
    → let i = word_index number Mutex in Splits (LotRule words family) id v
    (with_out (i ∷ []) (piece (owning i Exclusive))) (left_over (owning i Exclusive) v)
keeps_owner words family id v number below out there = let i : ℕ = word_index number Mutex in let x =
    owning i Exclusive in
    splits words family id v (with_out (i ∷ []) (piece x)) (left_over x v) (record {
      names = λ r weight. omega (
        arith,
        total-without (λ (y : Ownership). cond (eqb y.at r) (weight y.owner) 0) x v.owns there,
      );
      says = λ r. omega (
        arith,
        total-without (λ (y : Ownership). cond (eqb y.at r) y.count 0) x v.owns
            there,
      );
      did = λ r. omega arith;
      drawn = λ weight. omega arith;
      out = λ r. omega (arith, ap (total (λ (k : ℕ). cond (eqb k r) 1 0)) out);
      numbers = λ thread. omega arith;
      said = λ thread r. omega (
        arith,
        said_alike thread r v (left_over x v) refl (says_without v x there
            refl r),
      );
      shares = λ thread at. omega arith;
    }) (omega arith) (omega arith) (λ c. (
      inr (number, below, refl, omega (arith, cond_same i i 1 refl)),
      inl refl,
    ))

-- a weight of views stays as a seat takes in what another has, which has nothing then
paste : (f : View → ℕ) (views : List View) (j k : ℕ) (v w b : View) → f blank ≡ 0 → get_elem? views j ≡ some v
    → get_elem? (set views j b) k ≡ some w → f v + f w ≡ f b
    → total f (set (set views j b) k blank) ≡ total f views
paste f views j k v w b none me them parts = omega (
  arith,
  total-set f (set views j b) k w blank them,
  total-set f views j v b me,
)

-- a seat takes another's view in with its own; what it saw of the counter one of them saw
pub joins : (words family id : ℕ) (v : View) (other : ℕ) (w b : View) → AreParts v w b → (b.saw ≤ v.saw) ⊎
    (b.saw ≤ w.saw) → (Carries words v → Carries words b) → Joins (LotRule words family) id v other w b
    blank
joins words family id v other w b parts saw carries s o me apart them =
    let mine = o.saw id v me in let theirs = o.saw other w (sym (set_else s.views id other b apart) ∙ them) in
    reseated words family s o s.homes (set (set s.views id b) other blank)
    (λ r weight. paste (λ (x : View). owned r weight x.owns) s.views id other v w b refl me them
    (parts.names r weight))
    (record {
      numbers = λ thread. paste (λ (x : View). has_number thread x.naming) s.views id other v w b refl me
          them (parts.numbers thread);
      said = λ r. paste (λ (x : View). counted r x.owns) s.views id other v w b refl me them (parts.says r);
      names = λ thread r. paste (said_as thread r) s.views id other v w b refl me them (parts.said thread r);
      shares = λ thread at. paste (λ (x : View). shared_as thread at x.shares) s.views id other v w b refl
          me them (parts.shares thread at);
    })
    (λ r. paste (steps_at r) s.views id other v w b refl me them (parts.did r))
    (λ weight. paste (λ (x : View). total weight x.drawn) s.views id other v w b refl me them
    (parts.drawn weight))
    (λ q x e. ⊎_elim (λ t. omega (arith, ap (λ (y : View). y.saw) t.1))
    (λ t. ⊎_elim (λ t₂. ⊎_elim (λ h. omega (arith, ap (λ (y : View). y.saw) t₂.1))
    (λ h. omega (arith, ap (λ (y : View). y.saw) t₂.1)) saw)
    (λ t₂. o.saw q x t₂.1) (at_set s.views id q b x t.1))
    (at_set (set s.views id b) other q blank x e))
    (λ q x e. ⊎_elim (λ t. subst (Carries words) t.1 (inl refl))
    (λ t. ⊎_elim (λ t₂. subst (Carries words) t₂.1 (carries (o.carried id v me))) (λ t₂. o.carried q x t₂.1)
    (at_set s.views id q b x t.1))
    (at_set (set s.views id b) other q blank x e))
    refl
    (λ number below none. let r : ℕ = word_index number Mutex
    in o.permits number below (sym (paste (outs r) s.views id other v w b refl me them (parts.out r))
    ∙ none))

-- a thread that owns no less may have out what it had
owns_no_less : (words : ℕ) (out : List ℕ) (owns all : List Ownership)
    → ((r : ℕ) → owned r exclusive owns ≤ owned r exclusive all) → MayHaveOut words out owns
    → MayHaveOut words out all
owns_no_less words out owns all more carries = ⊎_elim (λ none. inl none)
    (λ t. let r : ℕ = word_index t.0 Mutex in let some' = t.3 in inr (t.0, t.1, t.2, omega (arith, more r)))
    carries

-- an ownership comes back, by the view that its seat has
pub takes_back : (words family id : ℕ) (v : View) (other : ℕ) (x : Ownership) (w : View) → x.count ≡ 0 → w
    ≡ piece x → Joins (LotRule words family) id v other w (with_out v.out (takes_in v w)) blank
takes_back words family id v other x w nothing is = subst (λ (u : View). Joins (LotRule words family) id v
    other u (with_out v.out (takes_in v u)) blank) (sym is)
    (joins words family id v other (piece x) (with_out v.out (takes_in v (piece x)))
    (record {
      names = λ r weight. omega arith;
      says = λ r. omega arith;
      did = λ r. omega arith;
      drawn = λ weight. omega arith;
      out = λ r. omega arith;
      numbers = λ thread. omega arith;
      said = λ thread r. omega (
        arith,
        said_alike thread r v (with_out v.out (takes_in v (piece x))) refl
            (let says : counted r (x ∷ v.owns) ≡ counted r v.owns = omega (arith, count_none x r nothing) in
            says),
      );
      shares = λ thread at. omega arith;
    }) (inl (omega arith))
    (λ c. owns_no_less words v.out v.owns (x ∷ v.owns) (λ r. omega arith) c))

-- a seat that has no number and says nothing of counts adds nothing
no_count_in : (owns : List Ownership) → counts_in owns ≡ 0 → (r : ℕ) → counted r owns ≡ 0
no_count_in [] none r = refl
no_count_in (x ∷ xs) none r = omega (arith, count_none x r (omega arith), no_count_in xs (omega arith) r)

says_nothing : (w : View) → w.naming ≡ Nobody → (thread r : ℕ) → said_as thread r w ≡ 0
says_nothing w none thread r = ap (λ (a : Naming). cond (eqb (has_number thread a) 0) 0 (counted r w.owns))
    none

-- one view goes on with another, which drew nothing: what is out with them together is out still
module _ (v w : View) (out : List ℕ) (none : w.drawn ≡ []) (nameless : BringsNoName w) where
  all_owned : (r : ℕ) (weight : Owner → ℕ) → owned r weight (w.owns ++ v.owns) ≡ owned r weight v.owns +
      owned r weight w.owns
  all_owned r weight = omega (
    arith,
    total-append (λ (y : Ownership). cond (eqb y.at r) (weight y.owner) 0)
        w.owns v.owns,
  )

  says_as_much : (r : ℕ) → counted r (w.owns ++ v.owns) ≡ counted r v.owns
  says_as_much r = omega (
    arith,
    total-append (λ (y : Ownership). cond (eqb y.at r) y.count 0) w.owns
        v.owns,
    no_count_in w.owns nameless.2 r,
  )

  are_parts : ((r : ℕ) → outs r v + outs r w ≡ total (λ (k : ℕ). cond (eqb k r) 1 0) out) → AreParts v w
      (with_out out (goes_on_with v w))
  are_parts together = record {
    names = λ r weight. sym (all_owned r weight);
    says = λ r. omega (arith, total-append (λ (y : Ownership). cond (eqb y.at r) y.count 0) w.owns v.owns);
    did = λ r. sym (total-append (λ (step : WordStep). cond (eqb step.at r) 1 0) v.steps w.steps);
    drawn = λ weight. omega (arith, ap (total weight) none);
    out = together;
    numbers = λ thread. omega (arith, ap (has_number thread) nameless.0);
    said = λ thread r. omega (
      arith,
      said_alike thread r v (with_out out (goes_on_with v w)) refl
          (says_as_much r),
      says_nothing w nameless.0 thread r,
    );
    shares = λ thread at. omega (arith, ap (shared_as thread at) nameless.1);
  }

-- parts in the other order
turned : (u v w : View) → AreParts u v w → AreParts v u w
turned u v w parts = record {
  names = λ r weight. omega (arith, parts.names r weight);
  says = λ r. omega (arith, parts.says r);
  did = λ r. omega (arith, parts.did r);
  drawn = λ weight. omega (arith, parts.drawn weight);
  out = λ r. omega (arith, parts.out r);
  numbers = λ thread. omega (arith, parts.numbers thread);
  said = λ thread r. omega (arith, parts.said thread r);
  shares = λ thread at. omega (arith, parts.shares thread at);
}

-- all that another seat has done and owns, which drew nothing and has nothing out, comes to a seat
pub goes_on : (words family id : ℕ) (v : View) (other : ℕ) (w : View) → w.drawn ≡ [] → w.out ≡ [] →
    BringsNoName w → Joins (LotRule words family) id v other w (with_out v.out (goes_on_with v w)) blank
goes_on words family id v other w none nothing nameless = joins words family id v other w (with_out v.out
    (goes_on_with v w))
    (are_parts v w v.out none nameless (λ r. omega (arith, none_out r w.out nothing))) (inl (omega arith))
    (λ c. owns_no_less words v.out v.owns (w.owns ++ v.owns) (λ r. omega (
      arith,
      all_owned v w v.out none
          nameless r exclusive,
    )) c)

-- a blank seat takes in another view, and goes on as that other one, whose permit stays out
pub goes_on_as : (words family id : ℕ) (w : View) (other : ℕ) (v : View) → w.drawn ≡ [] → v.out ≡ [] →
    BringsNoName w → Joins (LotRule words family) id w other v (with_out w.out (goes_on_with v w)) blank
goes_on_as words family id w other v none nothing nameless = joins words family id w other v (with_out
    w.out (goes_on_with v w))
    (turned v w (with_out w.out (goes_on_with v w)) (are_parts v w w.out none nameless (λ r. omega (
      arith,
      none_out r v.out nothing,
    )))) (inr (omega arith))
    (λ c. owns_no_less words w.out w.owns (w.owns ++ v.owns) (λ r. omega (
      arith,
      all_owned v w w.out none
          nameless r exclusive,
    )) c)
