-- Each run of a new world has one without misses.
use Rattle.std.proofs.Common.{ℕ, zero, suc, arith, Bool, true, false, Option, Some, None}
use Rattle.std.proofs.Common.{nat_lt, ◌≡◌, inl, inr, ◌<◌, List, [], ◌∷◌, ◌++◌, length, map, get_or}
use Rattle.std.proofs.Common.{refl, sym, ◌∙◌, ap, subst, append_assoc}
use Rattle.std.specs.Prelude.{replicate}
use Rattle.std.proofs.lemmas.Bool.{cases_lt}
use Rattle.std.proofs.lemmas.List.{append-nil}
use Rattle.std.proofs.lemmas.Bool.Decides.{nat_tests}
use Rattle.spec_locks.specs.declared.calls.Step.{Step}
use Rattle.spec_locks.specs.declared.outcomes.Outcome.{Outcome}
use Rattle.lot_steps.specs.declared.places.Place.{Place}
use Rattle.lot_steps.specs.declared.places.Place.TheVariants.{Idle}
use Rattle.lot_machine.specs.Machine.{State, after, after_steps, can_do}
use Rattle.lot_machine.specs.Machine.{go_of, is_possible}
use Rattle.lot_machine.specs.Machine.{opening, place_at}
use Rattle.lot_machine.specs.Machine.{step_outcome}
use Rattle.lot_laws.specs.SitesOf.{IsWorld}
use Rattle.lot_laws.proofs.promises.WorldRuns.{world_after}
use Rattle.lot_misses.specs.Looks.{FollowedBy, GoesWithoutMiss, LooksAtOnce, LooksFor, LooksForExchanges}
use Rattle.lot_misses.specs.Looks.{NoMissIsNeeded, before_looks, looked_from}
use Rattle.lot_misses.specs.Looks.{news, news_of, or_here, unlooked}
use Rattle.lot_misses.proofs.Acted.{AllSane, before, free_kept, kept}
use Rattle.lot_misses.proofs.Acted.{kept_none, kept_whole, place_so}
use Rattle.lot_misses.proofs.Places.{GoesBy, GoesByLook, IsSane, goes_so}
use Rattle.lot_misses.proofs.Rows.{exchange_by}
use Rattle.lot_misses.proofs.Steps.{TakenBy, stepped}
use Rattle.lot_misses.proofs.Turns.{One, Two}

-- ---------------------------------------------------------------- runs

after_both : (xs ys : List Step) (w : State) → after_steps w (xs ++ ys) ≡ after_steps (after_steps w xs) ys
after_both [] ys w = refl
after_both (x ∷ xs) ys w = after_both xs ys (after w x)

news_both : (xs ys : List Step) (w : State) → news w (xs ++ ys) ≡ news w xs ++ news (after_steps w xs) ys
news_both [] ys w = refl
news_both (x ∷ xs) ys w = ap (λ ns. news_of x.thread (step_outcome w x) ++ ns) (news_both xs ys (after w x))
    ∙ sym (append_assoc (news_of x.thread (step_outcome w x)) (news (after w x) xs)
    (news (after_steps (after w x) xs) ys))

hits_both : (xs ys : List Step) (w : State) → GoesWithoutMiss w xs → GoesWithoutMiss (after_steps w xs) ys
    → GoesWithoutMiss w (xs ++ ys)
hits_both [] ys w first second = second
hits_both (x ∷ xs) ys w first second = (first.0, first.1, hits_both xs ys (after w x) first.2 second)

followed_both : (o : Option Place) (t : ℕ) (xs ys : List Step) → FollowedBy o t xs → FollowedBy o t (xs ++ ys)
followed_both None t xs ys h = tt
followed_both (Some q) t [] ys h = absurd h
followed_both (Some q) t (x ∷ xs) ys h = h

looks_both : (xs ys : List Step) (w : State) → LooksAtOnce w xs → LooksAtOnce (after_steps w xs) ys
    → LooksAtOnce w (xs ++ ys)
looks_both [] ys w first second = second
looks_both (x ∷ xs) ys w first second = (
  followed_both (looked_from (place_at (after w x) x.thread)) x.thread xs ys first.0,
  looks_both xs ys (after w x) first.1 second,
)

-- where no thread has looked, none has
free_there : (p : Place) → IsSane p → looked_from (unlooked p) ≡ None
free_there p sane = by_place (looked_from p) refl (goes_so p sane)
  where
    by_place : (o : Option Place) → looked_from p ≡ o → GoesBy p o → looked_from (or_here o p) ≡ None
    by_place None e by = e
    by_place (Some q) e by = by.unlooked

-- The steps of the other run from one state to another. Each look among them is followed at once by its
-- exchange.
record Came (b z : State) (t : ℕ) (o : Outcome) : Type 0 where
  steps : List Step
  hits : GoesWithoutMiss b steps
  at_once : looked_from (place_at z t) ≡ None → LooksAtOnce b steps
  leads : after_steps b steps ≡ z
  tells : news b steps ≡ news_of t o

-- nothing follows where it has not looked
none_follows : (x z : State) (t : ℕ) → x ≡ z → looked_from (place_at z t) ≡ None
    → FollowedBy (looked_from (place_at x t)) t []
none_follows x z t led free =
    subst (λ o. FollowedBy o t []) (sym (ap (λ y. looked_from (place_at y t)) led ∙ free)) tt

go_follows : (o : Option Place) (t : ℕ) (ss : List Step) → FollowedBy o t (go_of t ∷ ss)
go_follows None t ss = tt
go_follows (Some q) t ss = refl

no_steps : (b z : State) (t : ℕ) (o : Outcome) → b ≡ z → news_of t o ≡ [] → Came b z t o
no_steps b z t o same none =
    record { steps = []; hits = tt; at_once = λ free. tt; leads = same; tells = sym none }

one_step : (b z : State) (o : Outcome) (s : Step) → One false b z o s → Came b z s.thread o
one_step b z o s one = record {
  steps = s ∷ [];
  hits = (one.possible, one.hit refl, tt);
  at_once = λ free. (none_follows (after b s) z s.thread one.leads free, tt);
  leads = one.leads;
  tells = ap (λ x. news_of s.thread x ++ []) one.tells ∙ append-nil (news_of s.thread o);
}

two_steps : (b z : State) (t : ℕ) (o : Outcome) → Two b z t o → Came b z t o
two_steps b z t o two = record {
  steps = go_of t ∷ go_of t ∷ [];
  hits = (two.first, two.first_hit, (two.second, two.second_hit, tt));
  at_once = λ free. (
    go_follows (looked_from (place_at (after b (go_of t)) t)) t [],
    (none_follows (after (after b (go_of t)) (go_of t)) z t two.leads free, tt),
  );
  leads = two.leads;
  tells = ap (λ x. news_of t x ++
      (news_of t (step_outcome (after b (go_of t)) (go_of t)) ++ [])) two.first_tells
      ∙ ap (λ x. news_of t x ++ []) two.tells ∙ append-nil (news_of t o);
}

came : (b z : State) (s : Step) (o : Outcome) → TakenBy false b z s o → Came b z s.thread o
came b z s o (inr one) = one_step b z o s one
came b z s o (inl goes) = elim goes.1 [
  | inl waits ↦ no_steps b z s.thread o waits.same (ap (news_of s.thread) waits.goes_on)
  | inr more ↦ elim more [
    | inl one ↦ one_step b z o (go_of s.thread) one
    | inr two ↦ two_steps b z s.thread o two
  ]
]

-- no thread stays as it is
abbrev nobody : ℕ → Bool
nobody u = false

record ComesAll (w : State) (ss : List Step) : Type 0 where
  steps : List Step
  hits : GoesWithoutMiss (before nobody w) steps
  at_once : LooksAtOnce (before nobody w) steps
  leads : after_steps (before nobody w) steps ≡ before nobody (after_steps w ss)
  tells : news (before nobody w) steps ≡ news w ss
  sane : AllSane nobody (after_steps w ss).places

step_came : (w : State) (h : IsWorld w) (all : AllSane nobody w.places) (s : Step)
    → LooksFor w s.thread s.turn
    → Came (before nobody w) (before nobody (after w s)) s.thread (step_outcome w s)
    × AllSane nobody (after w s).places
step_came w h all s for_one = by_test (is_possible w s) refl
  where
    by_test : (b : Bool) → is_possible w s ≡ b
        → Came (before nobody w) (before nobody (after w s)) s.thread (step_outcome w s)
        × AllSane nobody (after w s).places
    by_test true e = let one = stepped nobody w h all s refl for_one e in (
      came (before nobody w) (before nobody (after w s)) s (step_outcome w s) one.0,
      one.1,
    )
    by_test false e =
        let stays : w ≡ after w s = rw e refl in (
          no_steps (before nobody w) (before nobody (after w s)) s.thread (step_outcome w s)
              (ap (before nobody) stays)
              (rw e refl),
          subst (λ v. AllSane nobody v.places) stays all,
        )

goes_all : (ss : List Step) (w : State) → IsWorld w → AllSane nobody w.places → LooksForExchanges w ss
    → ComesAll w ss
goes_all [] w h all for_all = record {
  steps = [];
  hits = tt;
  at_once = tt;
  leads = refl;
  tells = refl;
  sane = all;
}
goes_all (s ∷ ss) w h all for_all =
    let one = step_came w h all s for_all.0 in
    let rest = goes_all ss (after w s) (world_after w s h) one.1 for_all.1 in
    record {
      steps = one.0.steps ++ rest.steps;
      hits = hits_both one.0.steps rest.steps (before nobody w) one.0.hits
          (subst (λ x. GoesWithoutMiss x rest.steps) (sym one.0.leads) rest.hits);
      at_once = looks_both one.0.steps rest.steps (before nobody w)
          (one.0.at_once (ap looked_from (place_so nobody (after w s) one.1 s.thread)
          ∙ free_there (place_at (after w s) s.thread) (one.1 s.thread refl)))
          (subst (λ x. LooksAtOnce x rest.steps) (sym one.0.leads) rest.at_once);
      leads = after_both one.0.steps rest.steps (before nobody w) ∙ ap (λ x. after_steps x rest.steps)
          one.0.leads ∙ rest.leads;
      tells = news_both one.0.steps rest.steps (before nobody w)
          ∙ ap (λ ns. ns ++ news (after_steps (before nobody w) one.0.steps) rest.steps) one.0.tells
          ∙ ap (λ x. news_of s.thread (step_outcome w s) ++ news x rest.steps) one.0.leads
          ∙ ap (λ ns. news_of s.thread (step_outcome w s) ++ ns) rest.tells;
      sane = rest.sane;
    }

-- ---------------------------------------------------------------- a new world, and one at rest

idle_so_far : (n : ℕ) → map unlooked (replicate n Idle) ≡ replicate n Idle
idle_so_far zero = refl
idle_so_far (suc n) = ap (λ ps. Idle ∷ ps) (idle_so_far n)

idle_sane : (n u : ℕ) → IsSane (get_or (replicate n Idle) u Idle)
idle_sane zero u = tt
idle_sane (suc n) zero = tt
idle_sane (suc n) (suc u) = idle_sane n u

can_exchange : (w : State) (hands : Bool) (l from to : ℕ) → can_do w (exchange_by hands l from to) ≡ true
can_exchange w true l from to = refl
can_exchange w false l from to = refl

beyond_idle : (ps : List Place) (u : ℕ) → (u < length ps → ⊥) → get_or ps u Idle ≡ Idle
beyond_idle [] u past = refl
beyond_idle (p ∷ ps) zero past = absurd (past (omega arith))
beyond_idle (p ∷ ps) (suc u) past = beyond_idle ps u (λ lt. past (omega arith))

-- a thread that has looked goes on: where none does, each stands where it does
pub rests_so : (k : ℕ → Bool) (v : State) → AllSane k v.places → ((t : ℕ) → is_possible v (go_of t) ≡ false)
    → before k v ≡ v
rests_so k v all still =
    ap (λ ps. record v { places = ps }) (kept_whole k v.places (λ u. by_keep u (k u) refl))
  where
    goes : (u : ℕ) (q : Place) → k u ≡ false → u < length v.places → looked_from (place_at v u) ≡ Some q
        → is_possible v (go_of u) ≡ true
    goes u q off lt looked =
        let by : GoesByLook (place_at v u) q = subst (GoesBy (place_at v u)) looked
        (goes_so (place_at v u) (all u off)) in
        let lets : nat_lt u (length v.places) ≡ true = grind (arith, nat_tests) in
        rw (lets, by.exchange) (can_exchange v by.hands by.lock by.from by.to)

    free : (u : ℕ) → k u ≡ false → looked_from (place_at v u) ≡ None
    free u off = elim (cases_lt u (length v.places)) [
      | inl lt ↦ by_place (looked_from (place_at v u)) refl lt
      | inr ge ↦ ap looked_from (beyond_idle v.places u (λ lt. absurd (omega arith)))
    ]
      where
        by_place : (o : Option Place) → looked_from (place_at v u) ≡ o → u < length v.places
            → looked_from (place_at v u) ≡ None
        by_place None e lt = e
        by_place (Some q) e lt = absurd (let never : true ≡ false = sym (goes u q off lt e) ∙ still u in cc)

    by_keep : (u : ℕ) (c : Bool) → k u ≡ c → kept (k u) (place_at v u) ≡ place_at v u
    by_keep u true on = ap (λ c. kept c (place_at v u)) on
    by_keep u false off = free_kept (k u) (place_at v u) (free u off)

nobody_so : (w : State) → before nobody w ≡ before_looks w
nobody_so w = ap (λ ps. record w { places = ps }) (kept_none nobody (λ u. refl) w.places)

pub no_miss_is_needed : NoMissIsNeeded
no_miss_is_needed kinds threads h ss for_all =
    let w : State = opening kinds threads in
    let one = goes_all ss w h (λ u off. idle_sane threads u) for_all in
    let same : before nobody w ≡ w = nobody_so w
    ∙ ap (λ ps. record w { places = ps }) (idle_so_far threads) in
    record {
      steps = one.steps;
      hits = subst (λ x. GoesWithoutMiss x one.steps) same one.hits;
      at_once = subst (λ x. LooksAtOnce x one.steps) same one.at_once;
      leads = ap (λ x. after_steps x one.steps) (sym same) ∙ one.leads ∙ nobody_so (after_steps w ss);
      tells = ap (λ x. news x one.steps) (sym same) ∙ one.tells;
      rests = λ still. ap (λ x. after_steps x one.steps) (sym same) ∙ one.leads
          ∙ rests_so nobody (after_steps w ss) one.sane still;
    }
