-- Each step keeps the rule.
use Rattle.std.proofs.Common.{◌≡◌, Bool, false, ℕ, ◌+◌, ◌<◌, ◌≤◌, eqb, cond, ◌≢◌, ◌⊎◌, true, ◌%◌, ◌/◌, ◌-◌}
use Rattle.std.proofs.Common.{List, [], ◌∷◌, ◌++◌, inl, inr, length, get_or, set, sym, refl, ap, ◌∙◌, subst}
use Rattle.std.proofs.Common.{⊎_elim, arith, length-set, get_or-set_same, get_or-set_other, eq-eqb, ne_eqb}
use Rattle.std.proofs.Common.{zero, suc}
use mathlib.Core.Logic.{dite}
use mathlib.Core.Option.{Option, some, none}
use native.Mathlib.Decide.{ℕ_discrete}
use lib.ListN.{get_elem?}
use prog.Atomic.{either}
use Rattle.atomic_table.specs.Table.{State, Me, step, keeps, Act, Valid, carried_after, stepped, Allows}
use Rattle.atomic_table.proofs.Lists.{at_set}
use Rattle.core_words.specs.Indices.{rank, plain, permits_in, word_index, counter, mutex_of_count}
use Rattle.core_words.specs.Views.{view, going_on, with_out, total, total_below, owned, owning, owning_with}
use Rattle.core_words.specs.Views.{named, counted, has_number, said_as, shared_as, steps_at, outs, drew}
use Rattle.core_words.specs.Views.{drew_permits, granted}
use Rattle.core_words.specs.Codes.{Owners, Codes, Shows, everyone, exclusive, shared}
use Rattle.core_words.specs.Rule.{IsCount, LotRule, MayBeShown, MayHaveOut}
use Rattle.core_words.specs.Permits.{slot_at}
use Rattle.core_parts.specs.declared.slot.PermitSlot.{PermitSlot}
use Rattle.core_base.specs.Words.{apply}
use Rattle.core_base.specs.declared.ops.Op.{Op}
use Rattle.core_base.specs.declared.ops.Op.TheVariants.{Load, Exchange}
use Rattle.core_words.specs.Steps.{has, HasAll, trade, trading, CountAgrees, CodesWith, MayTie, MayStep}
use Rattle.core_words.specs.Steps.{owns_after_step, one_more_step, after_step, so_many_shared}
use Rattle.core_words.specs.Plays.{looks_at_word, draws, numbered}
use Rattle.core_words.specs.Draws.{NoPermits}
use Rattle.core_words.specs.declared.owners.Ownership.{Ownership}
use Rattle.core_words.specs.declared.views.WordStep.{WordStep}
use Rattle.core_words.specs.declared.views.Naming.{Naming}
use Rattle.core_words.proofs.Trades.{total-without, traded_here, traded_elsewhere, traded_counts, owned_some}
use Rattle.core_words.specs.declared.owners.Owner.{Owner}
use Rattle.core_words.specs.declared.owners.Owner.TheVariants.{Exclusive}
use Rattle.core_words.specs.declared.views.View.{View}
use Rattle.core_words.specs.declared.views.Drawn.{Drawn}
use Rattle.core_words.specs.declared.words.WordKind.{WordKind}
use Rattle.core_words.specs.declared.words.WordKind.TheVariants.{Mutex, RwLock, Condvar, Once, Count}
use Rattle.core_words.specs.declared.words.WordKind.TheVariants.{Semaphore}
use Rattle.core_words.proofs.Counts.{counted-where}
use Rattle.core_words.proofs.Totals.{total-append, total-set, term_le, total_below-suc, cond_same, cond_other}
use Rattle.core_words.proofs.Indices.{rank_lt, index-number, index-kind, plain_mutex}

pub shows_more : (P Q : ℕ → Type 0) (n : ℕ) → ((k : ℕ) → P k → Q k) → Shows P n → Shows Q n
shows_more P Q n more h = ⊎_elim (λ z. inl z) (λ t. inr (t.0, t.1, more t.0 t.2)) h

-- a mutex that was shown may be shown still, as views list more steps
pub shown_still : (words number : ℕ) (old new : List View) (n : ℕ)
    → ((mutex : ℕ) → total (steps_at (word_index mutex Mutex)) old ≤ total (steps_at (word_index mutex Mutex))
    new)
    → Shows (MayBeShown words number old) n → Shows (MayBeShown words number new) n
shown_still words number old new n more = shows_more (MayBeShown words number old)
    (MayBeShown words number new) n
    (λ k h. let stepped = h.2 in (h.0, h.1, omega (arith, more k)))

-- tells what ties the value of a word to the word of a mutex
abbrev pub Tied : ℕ → WordKind → ℕ → ℕ → List View → Type 0
Tied words Condvar number n views = Shows (MayBeShown words number views) n
Tied words Count number n views = IsCount (word_index number Count) n views
Tied words _ number n views = Unit {0}

-- tells what the number of permits in a kind has no part in
to_plain : (kind : WordKind) (n : ℕ) (owners : Owners) → Codes kind n owners → Codes (plain kind) n owners
to_plain Mutex n owners c = c
to_plain RwLock n owners c = c
to_plain Condvar n owners c = c
to_plain Once n owners c = c
to_plain Count n owners c = c
to_plain (Semaphore permits) n owners c = c

from_plain : (kind : WordKind) (n : ℕ) (owners : Owners) → Codes (plain kind) n owners → Codes kind n owners
from_plain Mutex n owners c = c
from_plain RwLock n owners c = c
from_plain Condvar n owners c = c
from_plain Once n owners c = c
from_plain Count n owners c = c
from_plain (Semaphore permits) n owners c = c

pub codes_alike : (kind kind' : WordKind) (n : ℕ) (owners : Owners) → plain kind' ≡ plain kind
    → Codes kind n owners → Codes kind' n owners
codes_alike kind kind' n owners e c = from_plain kind' n owners (subst (λ (k : WordKind). Codes k n owners)
    (sym e) (to_plain kind n owners c))

tied_plain : (words : ℕ) (kind : WordKind) (number n : ℕ) (views : List View) → Tied words kind number n views
    → Tied words (plain kind) number n views
tied_plain words Mutex number n views c = c
tied_plain words RwLock number n views c = c
tied_plain words Condvar number n views c = c
tied_plain words Once number n views c = c
tied_plain words Count number n views c = c
tied_plain words (Semaphore permits) number n views c = c

plain_tied : (words : ℕ) (kind : WordKind) (number n : ℕ) (views : List View)
    → Tied words (plain kind) number n views → Tied words kind number n views
plain_tied words Mutex number n views c = c
plain_tied words RwLock number n views c = c
plain_tied words Condvar number n views c = c
plain_tied words Once number n views c = c
plain_tied words Count number n views c = c
plain_tied words (Semaphore permits) number n views c = c

tied_alike : (words : ℕ) (kind kind' : WordKind) (number n : ℕ) (views : List View) → plain kind' ≡ plain kind
    → Tied words kind number n views → Tied words kind' number n views
tied_alike words kind kind' number n views e c = plain_tied words kind' number n views
    (subst (λ (k : WordKind). Tied words k number n views) (sym e) (tied_plain words kind number n views c))

-- what is said of counts, and the shares of these, by all views together
pub record SameCounts (old new : List View) : Type 0 where
  pub numbers : (thread : ℕ) → total (λ (v : View). has_number thread v.naming) new ≡ total (λ (v : View).
      has_number thread v.naming) old
  pub said : (r : ℕ) → total (λ (v : View). counted r v.owns) new ≡ total (λ (v : View). counted r v.owns) old
  pub names : (thread r : ℕ) → total (said_as thread r) new ≡ total (said_as thread r) old
  pub shares : (thread at : ℕ) → total (λ (v : View). shared_as thread at v.shares) new ≡ total (λ (v :
      View). shared_as thread at v.shares) old

-- a count stays one, as all views together say the same of it and have as many shares
pub count_still : (at n : ℕ) (old new : List View) → total (λ (v : View). counted (mutex_of_count at)
    v.owns) new ≡ total (λ (v : View). counted (mutex_of_count at) v.owns) old
    → ((thread : ℕ) → total (said_as thread (mutex_of_count at)) new ≡ total (said_as thread
    (mutex_of_count at)) old)
    → ((thread : ℕ) → total (λ (v : View). shared_as thread at v.shares) new ≡ total (λ (v : View).
    shared_as thread at v.shares) old)
    → IsCount at n old → IsCount at n new
count_still at n old new said names shares is = record {
  code = is.code;
  said = is.said ∙ sym said;
  names = λ thread. names thread ∙ is.names thread;
  shares = λ thread. shares thread ∙ is.shares thread;
}

pub counts_still : (at n : ℕ) (old new : List View) → SameCounts old new → IsCount at n old → IsCount at n new
counts_still at n old new same is = count_still at n old new (same.said (mutex_of_count at)) (λ thread.
    same.names thread (mutex_of_count at)) (λ thread. same.shares thread at) is

-- tells that a seat has the number of a thread, and the shares, that it had
pub record SameName (v w : View) : Type 0 where
  pub naming : w.naming ≡ v.naming
  pub shares : w.shares ≡ v.shares

-- a seat that says as much of a count says as much as a thread
pub said_alike : (thread r : ℕ) (v w : View) → w.naming ≡ v.naming → counted r w.owns ≡ counted r v.owns →
    said_as thread r w ≡ said_as thread r v
said_alike thread r v w same says = ap (λ (a : Naming). cond (eqb (has_number thread a) 0) 0 (counted r
    w.owns)) same ∙ ap (λ (c : ℕ). cond (eqb (has_number thread v.naming) 0) 0 c) says

-- all say the same of counts, as one seat changes that says what it did
pub same_counts : (views : List View) (j : ℕ) (v w : View) → get_elem? views j ≡ some v → SameName v w →
    ((r : ℕ) → counted r w.owns ≡ counted r v.owns) → SameCounts views (set views j w)
same_counts views j v w me same says = record {
  numbers = λ thread. omega (
    arith,
    total-set (λ (u : View). has_number thread u.naming) views j v w me,
    ap
        (has_number thread) same.naming,
  );
  said = λ r. omega (arith, total-set (λ (u : View). counted r u.owns) views j v w me, says r);
  names = λ thread r. omega (
    arith,
    total-set (said_as thread r) views j v w me,
    said_alike thread r v w
        same.naming (says r),
  );
  shares = λ thread at. omega (
    arith,
    total-set (λ (u : View). shared_as thread at u.shares) views j v w
        me,
    ap (shared_as thread at) same.shares,
  );
}

-- the permits that a list of drawn words brings to a number
abbrev pub permits_of : ℕ → List Drawn → ℕ
permits_of number drawn = total (λ (word : Drawn). cond (eqb word.number number) (permits_in word.kind) 0)
    drawn

module _ (words family : ℕ) (s : State PermitSlot View) (o : LotRule words family s) where
  -- the law of all steps on words: what is owned of this word changes, and its code with that
  pub turned : (number : ℕ) (kind : WordKind) (j m : ℕ) (v w : View) → get_elem? s.views j ≡ some v
      → number < words
      → ((r : ℕ) → r ≢ word_index number kind → (weight : Owner → ℕ) → owned r weight w.owns
      ≡ owned r weight v.owns)
      → ((after : Owners) → ((weight : Owner → ℕ) → after weight + owned (word_index number kind) weight
      v.owns ≡ named (word_index number kind) weight s.views + owned (word_index number kind) weight
      w.owns) → Codes kind m after)
      → Tied words kind number m (set s.views j w)
      → (w.naming ≡ v.naming)
      → ((r : ℕ) → (kind ≡ Count → r ≢ mutex_of_count (word_index number kind)) → counted r w.owns ≡
      counted r v.owns)
      → ((thread r : ℕ) → (kind ≡ Count → r ≢ word_index number kind) → shared_as thread r w.shares ≡
      shared_as thread r v.shares)
      → (plain kind ≡ Semaphore 0 → m / 2 + owned (word_index number kind) shared w.owns ≡ get_or s.words
      (word_index number kind) 0 / 2 + owned (word_index number kind) shared v.owns)
      → w.out ≡ v.out → MayHaveOut words w.out w.owns
      → w.drawn ≡ v.drawn → w.saw ≡ v.saw → 0 < steps_at (word_index number kind) w → ((r : ℕ) → steps_at r
      v ≤ steps_at r w)
      → LotRule words family (record {
        words = set s.words (word_index number kind) m;
        homes = s.homes;
        views = set s.views j w;
      })
  turned number kind j m v w me below others codes tied same-naming same-counts same-shares balance
      same-out carries same-drawn same-saw stepped more =
      let i : ℕ = word_index number kind in let size = o.size in let enough = o.enough in
      let near : i < length s.words = omega (arith, rank_lt kind) in
      let vs = set s.views j w in
      let here : get_or (set s.words i m) i 0 ≡ m = get_or-set_same s.words i m 0 near in
      let count-here : get_or (set s.words i m) counter 0 ≡ get_or s.words counter 0 =
      get_or-set_other s.words i counter m 0 (λ e. omega arith) in
      let sum : (r : ℕ) (weight : Owner → ℕ) → named r weight vs + owned r weight v.owns ≡ named r weight
      s.views + owned r weight w.owns = λ r weight. total-set (λ (u : View). owned r weight u.owns)
      s.views j v w me in
      let tied_here : (number' : ℕ) (kind' : WordKind) → word_index number' kind' ≡ i
      → Tied words kind' number' (get_or (set s.words i m) (word_index number' kind') 0) vs =
      λ number' kind' e. subst (λ (x : ℕ). Tied words kind' number' x vs)
      (sym (ap (λ (r : ℕ). get_or (set s.words i m) r 0) e ∙ here))
      (tied_alike words kind kind' number' m vs (index-kind number' number kind' kind e)
      (subst (λ (n : ℕ). Tied words kind n m vs) (sym (index-number number' number kind' kind e)) tied))
      in
      let still : (r : ℕ) → r ≢ i → get_or (set s.words i m) r 0 ≡ get_or s.words r 0 = λ r ne.
      get_or-set_other s.words i r m 0 ne in
      let stepped-more : (r : ℕ) → total (steps_at r) s.views ≤ total (steps_at r) vs = λ r. omega (
        arith,
        total-set (steps_at r) s.views j v w me,
        more r,
      ) in
      record {
        size = length-set s.words i m ∙ size;
        coded = λ number' kind' below'. dite (ℕ_discrete (word_index number' kind') i)
            (λ e. subst (λ (r : ℕ). Codes kind' (get_or (set s.words i m) r 0) (λ weight. named r weight vs))
            (sym e)
            (codes_alike kind kind' (get_or (set s.words i m) i 0) (λ weight. named i weight vs)
            (index-kind number' number kind' kind e)
            (subst (λ (x : ℕ). Codes kind x (λ weight. named i weight vs)) (sym here)
            (codes (λ weight. named i weight vs) (λ weight. sum i weight)))))
            (λ ne. let r : ℕ = word_index number' kind' in
            let same : (weight : Owner → ℕ) → named r weight s.views ≡ named r weight vs = λ weight. omega
            (arith, sum r weight, others r ne weight) in
            subst (λ (x : ℕ). Codes kind' x (λ weight. named r weight vs))
            (sym (get_or-set_other s.words i r m 0 ne))
            (subst (Codes kind' (get_or s.words r 0)) (λ k weight. same weight k)
            (o.coded number' kind' below')));
        shows = λ number' below'. dite (ℕ_discrete (word_index number' Condvar) i) (tied_here number' Condvar)
            (λ ne. subst (Shows (MayBeShown words number' vs)) (sym (still (word_index number' Condvar) ne))
            (shown_still words number' s.views vs (get_or s.words (word_index number' Condvar) 0)
            (λ k. stepped-more (word_index k Mutex)) (o.shows number' below')));
        counts = λ number' below'. dite (ℕ_discrete (word_index number' Count) i) (tied_here number' Count)
            (λ ne. let q : ℕ = word_index number' Count in let r : ℕ = mutex_of_count q in
            let apart : kind ≡ Count → r ≢ mutex_of_count i = λ k e. ne (let there = ap (word_index number)
            k in omega arith) in
            subst (λ (n : ℕ). IsCount q n vs) (sym (still q ne)) (count_still q (get_or s.words q 0)
            s.views vs
            (omega (arith, total-set (λ (u : View). counted r u.owns) s.views j v w me, same-counts r apart))
            (λ thread. omega (
              arith,
              total-set (said_as thread r) s.views j v w me,
              said_alike thread r v w
                  same-naming (same-counts r apart),
            ))
            (λ thread. omega (
              arith,
              total-set (λ (u : View). shared_as thread q u.shares) s.views j v w
                  me,
              same-shares thread q (λ k. ne),
            ))
            (o.counts number' below')));
        numbers = λ thread. let old = o.numbers thread in omega (
          arith,
          total-set (λ (u : View). has_number
              thread u.naming) s.views j v w me,
          ap (has_number thread) same-naming,
        );
        semaphores = λ number' below'. let r : ℕ = word_index number' (Semaphore 0) in
            let all : granted number' vs ≡ granted number' s.views =
            omega (
              arith,
              total-set (drew_permits number') s.views j v w me,
              ap (permits_of number') same-drawn,
            ) in
            let old = o.semaphores number' below' in
            dite (ℕ_discrete r i)
            (λ e. subst (λ (q : ℕ). get_or (set s.words i m) q 0 / 2 + named q shared vs ≡ granted number' vs)
            (sym e)
            (let was : get_or s.words i 0 / 2 + named i shared s.views ≡ granted number' s.views =
            subst (λ (q : ℕ). get_or s.words q 0 / 2 + named q shared s.views ≡ granted number' s.views) e
            old in
            let even : m / 2 + owned i shared w.owns ≡ get_or s.words i 0 / 2 + owned i shared v.owns =
            balance (sym (index-kind number' number (Semaphore 0) kind e)) in
            omega (arith, here, sum i shared)))
            (λ ne. omega (arith, still r ne, sum r shared, others r ne shared));
        owned = λ r weight some. dite (ℕ_discrete r i) (λ e. (
          omega arith,
          omega (arith, length-set s.words i m),
        ))
            (λ ne. let old = o.owned r weight (omega (arith, sum r weight, others r ne weight)) in let old₁ =
            old.1 in (old.0, omega (arith, length-set s.words i m)));
        untouched = λ r above h none. dite (ℕ_discrete r i)
            (λ e. absurd (omega (
              arith,
              term_le (steps_at r) s.views j v me,
              total-set (steps_at r) s.views j v w me,
              subst (λ (q : ℕ). 0 < steps_at q w) (sym e)
                  stepped,
            )))
            (λ ne. get_or-set_other s.words i r m 0 ne ∙ o.untouched r above
            (omega (arith, length-set s.words i m)) (omega (arith, stepped-more r)));
        drawn = λ weight. omega (
          arith,
          total-set (drew weight) s.views j v w me,
          o.drawn weight,
          ap (λ d. drew weight (view [] [] d 0)) same-drawn,
          ap (total_below weight) count-here,
        );
        enough = omega (arith, count-here);
        saw = λ q u e. ⊎_elim (λ t. let old = o.saw j v me in omega (arith, ap (λ (y : View). y.saw) t.1))
            (λ t. let old = o.saw q u t.1 in omega arith) (at_set s.views j q w u e);
        carried = λ q u e. ⊎_elim (λ t. subst (λ (y : View). MayHaveOut words y.out y.owns) t.1 carries)
            (λ t. o.carried q u t.1) (at_set s.views j q w u e);
        homes = o.homes ∙ sym (length-set s.words i m);
        permits = λ number' below' none. let r : ℕ = word_index number' Mutex in
            o.permits number' below' (omega (
              arith,
              total-set (outs r) s.views j v w me,
              ap (total (λ (k : ℕ). cond (eqb k r) 1 0)) same-out,
            ));
      }

  -- the views and homes change, and what the views name together does not
  pub reseated : (hs : List (Option PermitSlot)) (vs : List View) → ((r : ℕ) (weight : Owner → ℕ) → named r
      weight vs ≡ named r weight s.views)
      → SameCounts s.views vs
      → ((r : ℕ) → total (steps_at r) vs ≡ total (steps_at r) s.views) → ((weight : Drawn → ℕ) → total (λ
      (u : View). total weight u.drawn) vs ≡ total (λ (u : View). total weight u.drawn) s.views)
      → ((q : ℕ) (u : View) → get_elem? vs q ≡ some u → u.saw ≤ get_or s.words counter 0)
      → ((q : ℕ) (u : View) → get_elem? vs q ≡ some u → MayHaveOut words u.out u.owns)
      → length hs ≡ length s.homes
      → ((number : ℕ) → number < words → total (outs (word_index number Mutex)) vs ≡ 0
      → get_elem? hs (word_index number Mutex) ≡ some (some (slot_at family (word_index number Mutex))))
      → LotRule words family (record { words = s.words; homes = hs; views = vs })
  reseated hs vs same-named same-counts same-steps same-drawn saw carried same-homes permits = record {
    size = o.size;
    coded = λ number' kind' below. subst (Codes kind' (get_or s.words (word_index number' kind') 0)) (λ k
        weight. sym (same-named (word_index number' kind') weight) k) (o.coded number' kind' below);
    shows = λ number' below. shown_still words number' s.views vs (get_or s.words (word_index number'
        Condvar) 0) (λ k. omega (arith, same-steps (word_index k Mutex))) (o.shows number' below);
    numbers = λ thread. let old = o.numbers thread in omega (arith, same-counts.numbers thread);
    counts = λ number' below. counts_still (word_index number' Count) (get_or s.words (word_index number'
        Count) 0) s.views vs same-counts (o.counts number' below);
    semaphores = λ number' below. let r : ℕ = word_index number' (Semaphore 0) in
        omega (
          arith,
          o.semaphores number' below,
          same-named r shared,
          same-drawn (λ (word : Drawn). cond (eqb word.number number') (permits_in word.kind) 0),
        );
    owned = λ r weight some. o.owned r weight (omega (arith, same-named r weight));
    untouched = λ r above h none. o.untouched r above h (omega (arith, same-steps r));
    drawn = λ weight. same-drawn (λ (word : Drawn). weight word.number) ∙ o.drawn weight;
    enough = o.enough;
    saw = saw;
    carried = carried;
    homes = same-homes ∙ o.homes;
    permits = permits;
  }

pub steps_more : (v : View) (at found r : ℕ) (op : Op) → total (λ (step : WordStep). cond (eqb step.at r) 1 0)
    (one_more_step v at op found) ≡ steps_at r v + cond (eqb at r) 1 0
steps_more v at found r op = omega (
  arith,
  total-append (λ (step : WordStep). cond (eqb step.at r) 1 0) v.steps (record {
    at = at;
    op = op;
    seen = found;
  } ∷ []),
)

-- tells what a step does to ownerships, by any weight of owners, and to what is said of count words
record Steps (kind : WordKind) (at : ℕ) (op : Op) (found : ℕ) (owns : List Ownership) : Type 0 where
  here : (weight : Owner → ℕ) → owned at weight (owns_after_step kind at op found owns) + total weight
      (trade kind at op found owns).gives ≡ owned at weight owns + total weight (trade kind at op found
      owns).gets
  elsewhere : (r : ℕ) → r ≢ at → (weight : Owner → ℕ) → owned r weight (owns_after_step kind at op found
      owns) ≡ owned r weight owns
  counts : (r : ℕ) → counted r (owns_after_step kind at op found owns) ≡ counted r owns

stepped_so : (kind : WordKind) (at : ℕ) (op : Op) (found : ℕ) (owns : List Ownership) → HasAll at (trade
    kind at op found owns).gives owns → Steps kind at op found owns
stepped_so Mutex at op found owns h = let t = trade Mutex at op found owns in record {
  here = traded_here
      at t owns h;
  elsewhere = traded_elsewhere at t owns h;
  counts = traded_counts at t owns h;
}
stepped_so RwLock at op found owns h = let t = trade RwLock at op found owns in record {
  here = traded_here
      at t owns h;
  elsewhere = traded_elsewhere at t owns h;
  counts = traded_counts at t owns h;
}
stepped_so Condvar at op found owns h = let t = trade Condvar at op found owns in record {
  here =
      traded_here at t owns h;
  elsewhere = traded_elsewhere at t owns h;
  counts = traded_counts at t owns h;
}
stepped_so (Semaphore permits) at op found owns h = let t = trade (Semaphore permits) at op found owns in
    record {
      here = traded_here at t owns h;
      elsewhere = traded_elsewhere at t owns h;
      counts =
          traded_counts at t owns h;
    }
stepped_so Count at op found owns h = let t = trade Count at op found owns in record {
  here = traded_here
      at t owns h;
  elsewhere = traded_elsewhere at t owns h;
  counts = traded_counts at t owns h;
}
stepped_so Once at op found owns h = let t = trade Once at op found owns in record {
  here = traded_here at
      t owns h;
  elsewhere = traded_elsewhere at t owns h;
  counts = traded_counts at t owns h;
}

shared_many : (n : ℕ) → total shared (so_many_shared n) ≡ n
shared_many zero = refl
shared_many (suc n) = omega (arith, shared_many n)

-- the free permits, with those that the seat owns, stay as many
balanced : (kind : WordKind) (at : ℕ) (op : Op) (n : ℕ) (owns : List Ownership) → Steps kind at op n owns
    → plain kind ≡ Semaphore 0
    → apply op n / 2 + owned at shared (owns_after_step kind at op n owns) ≡ n / 2 + owned at shared owns
balanced (Semaphore permits) at op n owns so e = let a : ℕ = n / 2 in let b : ℕ = apply op n / 2 in
    omega (arith, so.here shared, shared_many (b - a), shared_many (a - b))
balanced Mutex at op n owns so e = absurd (omega (arith, ap rank e))
balanced RwLock at op n owns so e = absurd (omega (arith, ap rank e))
balanced Condvar at op n owns so e = absurd (omega (arith, ap rank e))
balanced Once at op n owns so e = absurd (omega (arith, ap rank e))
balanced Count at op n owns so e = absurd (omega (arith, ap rank e))

pub number_case : {P : Type 0} (number : ℕ) → (number ≡ 0 → P) → ((before : ℕ) → number ≡ before + 1 → P) → P
number_case zero z p = z refl
number_case (suc n) z p = p n (omega arith)

module _ (words family : ℕ) (s : State PermitSlot View) (o : LotRule words family s) where
  -- a mutex that somebody owns is a word of the lot, has one owner, and somebody has stepped on it
  pub owned_mutex : (mutex : ℕ) → 0 < named (word_index mutex Mutex) exclusive s.views → (mutex < words) ×
      (named (word_index mutex Mutex) everyone s.views ≡ 1) × (0 < total (steps_at (word_index mutex
      Mutex)) s.views)
  owned_mutex mutex one = let there = o.owned (word_index mutex Mutex) exclusive one in let there₁ =
      there.1 in let size = o.size in
      let below : mutex < words = omega arith in let code = o.coded mutex Mutex below in let code₁ = code.1
      in let code₂ = code.2 in (
        below,
        omega arith,
        dite (ℕ_discrete (total (steps_at (word_index mutex Mutex)) s.views) 0)
            (λ z. absurd (let none = o.untouched (word_index mutex Mutex) there.0 there.1 z in omega arith))
            (λ nz. omega arith),
      )

  -- the count that a seat says of the mutex before a count word is the value of that word
  pub agreed : (number : ℕ) (kind : WordKind) (id : ℕ) (v : View) → get_elem? s.views id ≡ some v → number
      < words → CountAgrees kind (word_index number kind) (get_or s.words (word_index number kind) 0) v.owns
  agreed number Count id v at below = let here = o.counts number below in (
    here.code,
    λ count there.
        counted-where s.views id v at (mutex_of_count (word_index number Count)) count there (one_owner
        number count id v at there) ∙ sym here.said,
  )
    where
      one_owner : (number count id : ℕ) (v : View) → get_elem? s.views id ≡ some v
          → has (owning_with (mutex_of_count (word_index number Count)) count) v.owns ≡ true
          → named (mutex_of_count (word_index number Count)) everyone s.views ≤ 1
      one_owner number count id v at there = let r : ℕ = mutex_of_count (word_index number Count) in
          let f = λ (x : Ownership). cond (eqb x.at r) (exclusive x.owner) 0 in
          let some : 0 < named r exclusive s.views =
          omega (
            arith,
            term_le (λ (u : View). owned r exclusive u.owns) s.views id v at,
            total-without f (owning_with r count) v.owns there,
            cond_same r r 1 refl,
          ) in
          let real = o.owned r exclusive some in
          number_case number (λ e. absurd (let z = ap (λ (k : ℕ). mutex_of_count (word_index k Count)) e
          in let real₀ = real.0 in omega arith))
          (λ before e. let same : r ≡ word_index before Mutex =
          ap (λ (k : ℕ). mutex_of_count (word_index k Count)) e ∙ omega arith in
          subst (λ (q : ℕ). named q everyone s.views ≤ 1) (sym same) (let one =
          owned_mutex before (subst (λ (q : ℕ). 0 < named q exclusive s.views) same some) in let one₁ =
          one.1 in omega arith))
  agreed number Mutex id v at below = tt
  agreed number RwLock id v at below = tt
  agreed number Condvar id v at below = tt
  agreed number Once id v at below = tt
  agreed number (Semaphore permits) id v at below = tt

  -- a step that may be taken leaves a tied word tied, whatever is out after it
  tied_after : (number : ℕ) (kind : WordKind) (op : Op) (id : ℕ) (v : View) (out : List ℕ)
      → get_elem? s.views id ≡ some v → number < words
      → MayTie kind (word_index number kind) (get_or s.words (word_index number kind) 0)
      (apply op (get_or s.words (word_index number kind) 0)) v.owns
      → ((r : ℕ) → steps_at r v ≤ steps_at r (after_step kind (word_index number kind) op
      (get_or s.words (word_index number kind) 0) v))
      → Tied words kind number (apply op (get_or s.words (word_index number kind) 0))
      (set s.views id (with_out out (after_step kind (word_index number kind) op
      (get_or s.words (word_index number kind) 0) v)))
  tied_after number Condvar op id v out at below tie more =
      let n : ℕ = get_or s.words (word_index number Condvar) 0 in let w =
      with_out out (after_step Condvar (word_index number Condvar) op n v) in
      let vs = set s.views id w in let New : ℕ → Type 0 = MayBeShown words number vs in
      let grown : (r : ℕ) → total (steps_at r) s.views ≤ total (steps_at r) vs = λ r. omega (
        arith,
        total-set (steps_at r) s.views id v w at,
        more r,
      ) in
      ⊎_elim (λ e. subst (Shows New) (sym e) (shown_still words number s.views vs n
      (λ k. grown (word_index k Mutex)) (o.shows number below)))
      (λ t. shows_more (λ mutex. (word_index number Condvar ≢ word_index mutex Condvar)
      × (has (owning (word_index mutex Mutex) Exclusive) v.owns ≡ true)) New (apply op n)
      (λ k there. let i : ℕ = word_index k Mutex in let real =
      owned_mutex k (omega (
        arith,
        term_le (λ (u : View). owned i exclusive u.owns) s.views id v at,
        owned_some i Exclusive v.owns there.1 exclusive (omega arith),
      )) in let stepped = real.2 in
      (real.0, (λ e. there.0 (ap (λ q. word_index q Condvar) (sym e))), omega (arith, grown i))) t) tie
  tied_after number Count op id v out at below tie more =
      let i : ℕ = word_index number Count in let n : ℕ = get_or s.words i 0 in let w = with_out out
      (after_step Count i op n v) in
      subst (λ (k : ℕ). IsCount i k (set s.views id w)) (sym tie)
      (counts_still i n s.views (set s.views id w) (same_counts s.views id v w at (record {
        naming = refl;
        shares = refl;
      }) (λ r. refl)) (o.counts number below))
  tied_after number Mutex op id v out at below tie more = tt
  tied_after number RwLock op id v out at below tie more = tt
  tied_after number Once op id v out at below tie more = tt
  tied_after number (Semaphore permits) op id v out at below tie more = tt

-- a step that leaves a mutex as locked as it was takes nothing from a thread that takes it
no_trade : (kind : WordKind) → kind ≡ Mutex → (at : ℕ) (op : Op) (n : ℕ) (owns : List Ownership)
    → n % 2 ≡ apply op n % 2 → total exclusive (trade kind at op n owns).gives ≡ 0
no_trade kind is at op n owns e = subst (λ (k : WordKind). total exclusive (trade k at op n owns).gives ≡ 0)
    (sym is)
    (ap (λ b. total exclusive (cond b (trading [] []) (cond (eqb (n % 2) 0) (trading [] (Exclusive ∷ []))
    (trading (Exclusive ∷ []) []))).gives) (eq-eqb (n % 2) (apply op n % 2) e))

-- a seat with a permit out after a step owns its mutex still, where the step neither locks one nor unlocks
-- it, or nothing is out
carries_on : (words number : ℕ) (kind : WordKind) (op : Op) (n : ℕ) (v : View) → MayHaveOut words v.out v.owns
    → Steps kind (word_index number kind) op n v.owns
    → (kind ≡ Mutex → (n % 2 ≡ apply op n % 2) ⊎ (v.out ≡ []))
    → MayHaveOut words v.out (owns_after_step kind (word_index number kind) op n v.owns)
carries_on words number kind op n v carries so same = ⊎_elim (λ none. inl none)
    (λ t. let j : ℕ = word_index t.0 Mutex in let i : ℕ = word_index number kind in let some' = t.3 in inr (
      t.0,
      t.1,
      t.2,
      dite (ℕ_discrete j i)
          (λ e. let is : kind ≡ Mutex = plain_mutex kind (sym (index-kind t.0 number Mutex kind e)) in
          ⊎_elim
          (λ parity. subst (λ (r : ℕ). 0 < owned r exclusive (owns_after_step kind i op n v.owns)) (sym e)
          (let there : 0 < owned i exclusive v.owns = subst (λ (r : ℕ). 0 < owned r exclusive v.owns) e some'
          in omega (arith, so.here exclusive, no_trade kind is i op n v.owns parity)))
          (λ none. absurd (omega (arith, ap length (sym none ∙ t.2))))
          (same is))
          (λ ne. omega (arith, so.elsewhere j ne exclusive)),
    ))
    carries

-- the law of all steps on words: one that the seat may take keeps the rule, where what is out stays out
pub step_taken : (words family : ℕ) (s : State PermitSlot View) → LotRule words family s
    → (number : ℕ) (kind : WordKind) (op : Op) (id : ℕ) (v : View) → get_elem? s.views id ≡ some v
    → number < words
    → get_or s.words (word_index number kind) 0 < 18446744073709551616 → MayStep kind (word_index number kind)
    op v.owns
    → (kind ≡ Mutex → (get_or s.words (word_index number kind) 0 % 2 ≡ apply op
    (get_or s.words (word_index number kind) 0) % 2) ⊎ (v.out ≡ []))
    → let i = word_index number kind in let n = get_or s.words i 0 in
    LotRule words family (record {
      words = set s.words i (apply op n);
      homes = s.homes;
      views = set s.views id (with_out v.out (after_step kind i op n v));
    }) × CodesWith kind i n v.owns
step_taken words family s o number kind op id v at below fits may same =
    let i : ℕ = word_index number kind in let n : ℕ = get_or s.words i 0 in let m : ℕ = apply op n in
    let mine : (weight : Owner → ℕ) → owned i weight v.owns ≤ named i weight s.views = λ weight. term_le
    (λ (u : View). owned i weight u.owns) s.views id v at in
    let code = o.coded number kind below in
    let agrees = agreed words family s o number kind id v at below in
    let ok = may n (λ weight. named i weight s.views) fits code mine agrees in
    let so = stepped_so kind i op n v.owns ok.0 in let w = with_out v.out (after_step kind i op n v) in
    let more : (r : ℕ) → steps_at r v ≤ steps_at r w = λ r. omega (arith, steps_more v i n r op) in (
      turned words family s o number kind id m v w at below
          so.elsewhere
          (λ after same. ok.1 after (λ weight. omega (arith, same weight, so.here weight)))
          (tied_after words family s o number kind op id v v.out at below ok.2 more)
          refl (λ r apart. so.counts r) (λ thread r apart. refl)
          (balanced kind i op n v.owns so)
          refl
          (carries_on words number kind op n v (o.carried id v at) so same)
          refl refl (omega (arith, steps_more v i n i op, cond_same i i 1 refl)) more,
      ((λ weight. named i weight s.views), code, mine, agrees),
    )

-- the law of steps on the counter, which only adds to it
pub count_turned : (words family : ℕ) (s : State PermitSlot View) (o : LotRule words family s) (j m : ℕ) (v
    w : View) → get_elem? s.views j ≡ some v → get_or s.words counter 0 ≤ m → m ≤ words
    → w.owns ≡ v.owns → SameName v w → w.out ≡ v.out → w.saw ≤ m → ((r : ℕ) → 0 < r → steps_at r w ≡
    steps_at r v)
    → ((weight : ℕ → ℕ) → drew weight w + total_below weight (get_or s.words counter 0) ≡ drew weight v +
    total_below weight m)
    → ((number : ℕ) → drew_permits number w ≡ drew_permits number v)
    → LotRule words family (record {
      words = set s.words counter m;
      homes = s.homes;
      views = set s.views j
          w;
    })
count_turned words family s o j m v w me up fits same-owns same-name same-out saw same-steps same-drawn
    same-permits =
    let size = o.size in let vs = set s.views j w in
    let here : get_or (set s.words counter m) counter 0 ≡ m = get_or-set_same s.words counter m 0 (omega
    arith) in
    let there : (r : ℕ) → 0 < r → get_or (set s.words counter m) r 0 ≡ get_or s.words r 0 = λ r h.
    get_or-set_other s.words counter r m 0 (λ e. omega arith) in
    let same-named : (r : ℕ) (weight : Owner → ℕ) → named r weight s.views ≡ named r weight vs = λ r
    weight. omega (
      arith,
      total-set (λ (u : View). owned r weight u.owns) s.views j v w me,
      ap (owned r
          weight) same-owns,
    ) in
    let same-counts : SameCounts s.views vs = same_counts s.views j v w me same-name (λ r. ap (counted r)
    same-owns) in
    let stepped : (r : ℕ) → 0 < r → total (steps_at r) vs ≡ total (steps_at r) s.views = λ r h. omega
    (arith, total-set (steps_at r) s.views j v w me, same-steps r h) in
    record {
      size = length-set s.words counter m ∙ size;
      coded = λ number' kind' below. subst (λ (x : ℕ). Codes kind' x (λ weight. named (word_index number'
          kind') weight vs)) (sym (there (word_index number' kind') (omega arith)))
          (subst (Codes kind' (get_or s.words (word_index number' kind') 0)) (λ k weight. same-named
          (word_index number' kind') weight k) (o.coded number' kind' below));
      shows = λ number' below. subst (Shows (MayBeShown words number' vs)) (sym (there (word_index number'
          Condvar) (omega arith)))
          (shown_still words number' s.views vs (get_or s.words (word_index number' Condvar) 0) (λ k. omega
          (arith, stepped (word_index k Mutex) (omega arith))) (o.shows number' below));
      numbers = λ thread. let old = o.numbers thread in omega (arith, same-counts.numbers thread);
      counts = λ number' below. let q : ℕ = word_index number' Count in subst (λ (k : ℕ). IsCount q k vs)
          (sym (there q (omega arith)))
          (counts_still q (get_or s.words q 0) s.views vs same-counts (o.counts number' below));
      semaphores = λ number' below. let r : ℕ = word_index number' (Semaphore 0) in
          omega (
            arith,
            o.semaphores number' below,
            there r (omega arith),
            same-named r shared,
            total-set (drew_permits number') s.views j v w me,
            same-permits number',
          );
      owned = λ r weight some. let old = o.owned r weight (omega (arith, same-named r weight)) in let old₁ =
          old.1 in (old.0, omega (arith, length-set s.words counter m));
      untouched = λ r above h none. there r above
          ∙ o.untouched r above (omega (arith, length-set s.words counter m))
          (omega (arith, stepped r above));
      drawn = λ weight. omega (
        arith,
        total-set (drew weight) s.views j v w me,
        o.drawn weight,
        same-drawn weight,
        ap (total_below weight) here,
      );
      enough = omega arith;
      saw = λ q u e. ⊎_elim (λ t. omega (arith, ap (λ (y : View). y.saw) t.1)) (λ t. let old = o.saw q u t.1
          in omega arith) (at_set s.views j q w u e);
      carried = λ q u e. ⊎_elim (λ t. subst (λ (y : View). MayHaveOut words y.out y.owns) t.1
          (subst (λ (out : List ℕ). MayHaveOut words out w.owns) (sym same-out)
          (subst (λ (owns : List Ownership). MayHaveOut words v.out owns) (sym same-owns)
          (o.carried j v me))))
          (λ t. o.carried q u t.1) (at_set s.views j q w u e);
      homes = o.homes ∙ sym (length-set s.words counter m);
      permits = λ number' below none. let r : ℕ = word_index number' Mutex in
          o.permits number' below (omega (
            arith,
            total-set (outs r) s.views j v w me,
            ap (total (λ (k : ℕ). cond (eqb k r) 1 0)) same-out,
          ));
    }

pub at_counter : (v : View) (op : Op) (found r : ℕ) → 0 < r
    → total (λ (step : WordStep). cond (eqb step.at r) 1 0) (one_more_step v counter op found) ≡ steps_at r v
at_counter v op found r above = omega (
  arith,
  steps_more v counter found r op,
  cond_other counter r 1 (λ e. omega arith),
)

-- a look at the counter
pub look : (words family slots id : ℕ) (me : Me PermitSlot View) → Allows (LotRule words family) slots id
    me counter (λ n. n) (looks_at_word (step slots counter 0 0 none) me)
look words family slots id me s o wide at fits = let n : ℕ = get_or s.words counter 0 in let w = with_out
    me.0.out (going_on me.0 (one_more_step me.0 counter Load n) me.0.owns me.0.drawn n) in (
      w,
      keeps,
      tt,
      count_turned words family s o id n me.0 w at (omega arith) o.enough refl (record {
        naming = refl;
        shares = refl;
      }) refl (omega arith) (λ r h. at_counter me.0 Load n r h) (λ weight.
          refl) (λ number. refl),
      refl,
    )

-- the numbers that are drawn together
pub total_below-numbered : (weight : ℕ → ℕ) (n : ℕ) (kinds : List WordKind)
    → total (λ (word : Drawn). weight word.number) (numbered n kinds) + total_below weight n
    ≡ total_below weight (n + length kinds)
total_below-numbered weight n [] = let e : n ≡ n + 0 = omega arith in omega (arith, ap (total_below weight) e)
total_below-numbered weight n (kind ∷ kinds) = omega (
  arith,
  total_below-suc weight n,
  total_below-numbered weight (n + 1) kinds,
  ap (total_below weight) (let e : n + 1 + length kinds ≡ n
      + suc (length kinds) = omega arith in e),
)

zero_or : (b : Bool) (k : ℕ) → k ≡ 0 → cond b k 0 ≡ 0
zero_or true k e = e
zero_or false k e = refl

pub no_permits : (number n : ℕ) (kinds : List WordKind) → NoPermits kinds → permits_of number
    (numbered n kinds) ≡ 0
no_permits number n [] h = refl
no_permits number n (kind ∷ kinds) h = omega (
  arith,
  zero_or (eqb n number) (permits_in kind) h.0,
  no_permits number (n + 1) kinds h.1,
)

-- a draw, where the seat has seen the counter
pub draw : (words family slots id : ℕ) (me : Me PermitSlot View) (kinds : List WordKind) (seen : ℕ)
    → NoPermits kinds → me.0.saw ≡ seen → seen + length kinds ≤ words
    → Allows (LotRule words family) slots id me counter (λ n. either (eqb n seen) (seen + length kinds) n)
    (draws kinds (step slots counter seen (seen + length kinds) none) me)
draw words family slots id me kinds seen bare saw room s o wide at fits =
    let n : ℕ = get_or s.words counter 0 in let new : ℕ = seen + length kinds in let op = Exchange seen new in
    let Goal : ℕ → Type 0 = λ (y : ℕ). (w : View) × (a : Act PermitSlot) × Valid s.homes me.1 a
    × LotRule words family (stepped s counter y id me.1 w a)
    × draws kinds (step slots counter seen new none) me n (w, carried_after me.1 a) in
    dite (ℕ_discrete n seen)
    (λ e. let w = with_out me.0.out (going_on me.0 (one_more_step me.0 counter op n) me.0.owns (numbered n
    kinds ++ me.0.drawn) new) in
    subst (λ b. Goal (either b new n)) (sym (eq-eqb n seen e)) (
      w,
      keeps,
      tt,
      count_turned words family s o id new me.0 w at (omega arith) room refl (record {
        naming = refl;
        shares = refl;
      }) refl (omega arith) (λ r h. at_counter me.0 op n r h)
          (λ weight. omega (
            arith,
            total-append (λ (word : Drawn). weight word.number) (numbered n kinds)
                me.0.drawn,
            total_below-numbered weight n kinds,
            ap (λ (k : ℕ). total_below weight (k +
                length kinds)) e,
          ))
          (λ number. omega (
            arith,
            total-append (λ (word : Drawn). cond (eqb word.number number)
                (permits_in word.kind) 0) (numbered n kinds) me.0.drawn,
            no_permits number n kinds bare,
          )),
      ((λ _. refl), λ ne. absurd (ne e)),
    ))
    (λ ne. let w = with_out me.0.out (going_on me.0 (one_more_step me.0 counter op n) me.0.owns me.0.drawn
    n) in
    subst (λ b. Goal (either b new n)) (sym (ne_eqb n seen ne)) (
      w,
      keeps,
      tt,
      count_turned words family s o id n me.0 w at (omega arith) o.enough refl (record {
        naming = refl;
        shares = refl;
      }) refl (omega arith) (λ r h. at_counter me.0 op n r h) (λ weight. refl) (λ number.
          refl),
      ((λ e. absurd (ne e)), λ _. (omega (arith, o.saw id me.0 at), refl)),
    ))

-- a draw of words of these kinds is allowed, by the count of words that was computed
pub draw_so_many : (words family slots id : ℕ) (me : Me PermitSlot View) (kinds : List WordKind)
    (seen needed : ℕ) → NoPermits kinds → length kinds ≡ needed → me.0.saw ≡ seen → seen + needed ≤ words
    → Allows (LotRule words family) slots id me counter (λ n. either (eqb n seen) (seen + needed) n)
    (draws kinds (step slots counter seen (seen + needed) none) me)
draw_so_many words family slots id me kinds seen needed bare e saw room = let Goal : ℕ → Type 0 =
    λ (k : ℕ). seen + k ≤ words → Allows (LotRule words family) slots id me counter
    (λ n. either (eqb n seen) (seen + k) n) (draws kinds (step slots counter seen (seen + k) none) me) in
    subst Goal e (draw words family slots id me kinds seen bare saw) room
