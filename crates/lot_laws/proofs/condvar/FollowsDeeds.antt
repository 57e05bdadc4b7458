-- A thread that goes on in a call of a condition variable leads it where its deeds do.
use Rattle.lot_laws.proofs.Imports
use Imports.{ℕ, Option, Some, None, ◌≡◌, ◌≢◌, ◌↔◌, List, [], ◌∷◌, inl, inr, refl, sym, ◌∙◌, ap, subst, cases_eq}
use Imports.{Next, Reply, CondvarPlace, condvar_row, condvar_next, AllCondvarNeeded, Follows, IsAtNext}
use Imports.{IsAtStage, MayReply, after_condvar_deeds, condvar_deeds, condvar_steps_follow, Idle, Condvar}
use Imports.{condvar_goes, profile_at, CondvarDeed, BeginsWait, EndsWait, GoIn, GoOut, Show, SeeOther}
use Imports.{StandLast, SeeAgain, MissIt, HideAndTakeAll, MoveFirst, MoveAll, LeaveList, ShowNone}
use Imports.{CondvarNeeded, CondvarSite, Inside, IsCondvar, IsInsideNot, MayGoOut, CondvarPhase, condvar_leads}
use Imports.{SectionChanges, Line, Main, condvar_deed_keeps, State, place_at, section_at, lock_state}
use Imports.{location_at, condvar_of, inside_as, key_of, stage_or}
use Rattle.steps_base.specs.declared.acts.Next.TheVariants as next
use Rattle.lot_laws.specs.SitesOf.{Stands}
use Rattle.lot_laws.proofs.condvar.CondvarRows.{names_of, row_says, stage_of}
use Rattle.lot_laws.proofs.condvar.Sites.{at_place}
use Rattle.lot_laws.proofs.machine.Parts.{put_other}

-- ---------------------------------------------------------------- deeds of one thread

-- deeds that may be done keep what holds of it
pub deeds_keep : (ds : List CondvarDeed) (c : CondvarSite) (t : ℕ) → IsCondvar c → AllCondvarNeeded ds c t
    → IsCondvar (after_condvar_deeds ds c t)
deeds_keep [] c t h needed = h
deeds_keep (d ∷ ds) c t h needed = deeds_keep ds (condvar_leads d c t) t (condvar_deed_keeps d c t h needed.0)
    needed.1

module _ (t : ℕ) where
  -- each other thread inside stays there
  abbrev SameOthers : Option Inside → Option Inside → Type 0
  SameOthers x y = (i : Inside) → i.thread ≢ t → (x ≡ Some i) ↔ (y ≡ Some i)

  -- nobody else is inside
  abbrev IsOwn : Option Inside → Type 0
  IsOwn x = (i : Inside) → x ≡ Some i → i.thread ≡ t

  both_own : (x y : Option Inside) → IsOwn x → IsOwn y → SameOthers x y
  both_own x y a b i ne = (λ e. absurd (ne (a i e)), λ e. absurd (ne (b i e)))

  within : (x : Option Inside) (stage : CondvarPhase) → x ≡ Some (record { thread = t; stage = stage })
      → IsOwn x
  within x stage e i f = let both : Some (record { thread = t; stage = stage }) ≡ Some i = sym e ∙ f
      in let one : record { thread = t; stage = stage } ≡ i = cc in sym (ap (λ (j : Inside). j.thread) one)

  nobody : (x : Option Inside) → x ≡ None → IsOwn x
  nobody x e i f = absurd (let both : None ≡ Some i = sym e ∙ f in cc)

  leaving : (x : Option Inside) → MayGoOut x t → IsOwn x
  leaving None may i f = absurd may
  leaving (Some j) may i f = let one : j ≡ i = cc in sym (ap (λ (k : Inside). k.thread) one) ∙ may.0

  deed_others : (d : CondvarDeed) (c : CondvarSite) → CondvarNeeded d c t → SameOthers c.inside
      (condvar_leads d c t).inside
  deed_others (BeginsWait m) c n i ne = (λ e. e, λ e. e)
  deed_others EndsWait c n i ne = (λ e. e, λ e. e)
  deed_others GoIn c n i ne = both_own _ _ (nobody c.inside n) (within _ _ refl) i ne
  deed_others GoOut c n i ne = both_own _ _ (leaving c.inside n) (nobody _ refl) i ne
  deed_others (Show m) c n i ne = both_own _ _ (within c.inside _ n.0) (within _ _ refl) i ne
  deed_others (SeeOther m) c n i ne = both_own _ _ (within c.inside _ n.0) (within _ _ refl) i ne
  deed_others StandLast c n i ne = both_own _ _ (within c.inside _ n.0.1) (within _ _ refl) i ne
  deed_others (SeeAgain m) c n i ne = both_own _ _ (within c.inside _ n.0) (within _ _ refl) i ne
  deed_others (MissIt m) c n i ne = both_own _ _ (within c.inside _ n.0) (within _ _ refl) i ne
  deed_others HideAndTakeAll c n i ne = both_own _ _ (within c.inside _ n.1) (within _ _ refl) i ne
  deed_others MoveFirst c n i ne = both_own _ _ (within c.inside _ n.1) (within _ _ refl) i ne
  deed_others MoveAll c n i ne = both_own _ _ (within c.inside _ n.1) (within _ _ refl) i ne
  deed_others LeaveList c n i ne = both_own _ _ (within c.inside _ n.0) (within _ _ refl) i ne
  deed_others ShowNone c n i ne = both_own _ _ (within c.inside _ n) (within _ _ refl) i ne

  deeds_others : (ds : List CondvarDeed) (c : CondvarSite) → AllCondvarNeeded ds c t
      → SameOthers c.inside (after_condvar_deeds ds c t).inside
  deeds_others [] c n i ne = (λ e. e, λ e. e)
  deeds_others (d ∷ ds) c n i ne =
      let a = deed_others d c n.0 i ne in
      let b = deeds_others ds (condvar_leads d c t) n.1 i ne in
      (λ e. b.0 (a.0 e), λ e. a.1 (b.1 e))

  -- Each waiter waits with the mutex that it named.
  deed_names : (d : CondvarDeed) (c : CondvarSite) (u : ℕ) → u ≢ t → (condvar_leads d c t).waits_with u
      ≡ c.waits_with u
  deed_names (BeginsWait m) c u ne = put_other c.waits_with t (Some m) u ne
  deed_names EndsWait c u ne = put_other c.waits_with t None u ne
  deed_names d c u ne = refl

  deeds_names : (ds : List CondvarDeed) (c : CondvarSite) (u : ℕ) → u ≢ t
      → (after_condvar_deeds ds c t).waits_with u ≡ c.waits_with u
  deeds_names [] c u ne = refl
  deeds_names (d ∷ ds) c u ne = deeds_names ds (condvar_leads d c t) u ne ∙ deed_names d c u ne

  -- where it isn't inside itself, the same thread is, if any
  same_inside : (x y z : Option Inside) → SameOthers x y → SameOthers x z → IsInsideNot y t → IsInsideNot z t
      → y ≡ z
  same_inside x None None a b n k = refl
  same_inside x None (Some j) a b n k = absurd (let none : None ≡ Some j = (a j k).0 ((b j k).1 refl) in cc)
  same_inside x (Some i) z a b n k = sym ((b i n).0 ((a i n).1 refl))

-- ---------------------------------------------------------------- a step

-- a place that says the same of its thread there
abbrev pub Alike : Next CondvarPlace → Next CondvarPlace → Type 0
Alike (next.At q) (next.At q2) = ((condvar_row q2).stage ≡ (condvar_row q).stage)
    × ((condvar_row q2).waits_with ≡ (condvar_row q).waits_with)
Alike (next.End answer) (next.End answer2) = Unit {0}
Alike n n2 = ⊥

module _ (w v : State) (t l : ℕ) (at : CondvarPlace) (told : Reply) (stands : Stands w)
    (stands_then : Stands v)
    (is : place_at w t ≡ Condvar l at)
    (n : Next CondvarPlace) (goes : place_at v t ≡ condvar_goes l n) (alike : Alike (condvar_next at told) n)
    (condvar : IsCondvar (condvar_of w l)) (hears : MayReply (condvar_of w l) t at told)
    (says : (u : ℕ) → u ≢ t → (stage_of (place_at v u) l ≡ stage_of (place_at w u) l)
    × (names_of (place_at v u) l ≡ names_of (place_at w u) l))
    (section : SectionChanges (section_at w (key_of l Main)) t (section_at v (key_of l Main))) where
  abbrev led : CondvarSite
  led = after_condvar_deeds (condvar_deeds at told) (condvar_of w l) t

  follows : Follows (condvar_of w l) t at told
  follows = condvar_steps_follow (condvar_of w l) t at told condvar (at_place w stands t l at is) hears

  stage_then : (u : ℕ) → u ≢ t → (profile_at (place_at v u) l).stage ≡ (profile_at (place_at w u) l).stage
  stage_then u ne = (row_says (place_at v u) l).0 ∙ (says u ne).0 ∙ sym (row_says (place_at w u) l).0

  names_then : (u : ℕ) → u ≢ t → (profile_at (place_at v u) l).names ≡ (profile_at (place_at w u) l).names
  names_then u ne = (row_says (place_at v u) l).1 ∙ (says u ne).1 ∙ sym (row_says (place_at w u) l).1

  -- each other thread inside stays so
  module _ (i : Inside) (ne : i.thread ≢ t) where
    abbrev Both : Option ℕ → Option ℕ → Type 0
    Both o p = (inside_as o (λ u. (profile_at (place_at w u) l).stage) ≡ Some i)
        ↔ (inside_as p (λ u. (profile_at (place_at v u) l).stage) ≡ Some i)

    not_own : (o : Option CondvarPhase) → Some (record { thread = t; stage = stage_or o }) ≡ Some i → ⊥
    not_own o e = let one : record {
      thread = t;
      stage = stage_or o;
    } ≡ i = cc in ne (sym (ap (λ (j : Inside). j.thread) one))

    same_section : (o : Option ℕ) → Both o o
    same_section None = (λ e. e, λ e. e)
    same_section (Some u) = elim (cases_eq u t) [
      | inl own ↦ (
        λ e. absurd (not_own (profile_at (place_at w u) l).stage (ap (λ k. Some (record {
          thread = k;
          stage = stage_or (profile_at (place_at w u) l).stage;
        })) (sym own) ∙ e)),
        λ e. absurd (not_own (profile_at (place_at v u) l).stage (ap (λ k. Some (record {
          thread = k;
          stage = stage_or (profile_at (place_at v u) l).stage;
        })) (sym own) ∙ e)),
      )
      | inr other ↦ let q = ap (λ o. Some (record {
        thread = u;
        stage = stage_or o;
      })) (stage_then u other) in (λ e. q ∙ e, λ e. sym q ∙ e)
    ]

    by_change : (o p : Option ℕ) → SectionChanges o t p → Both o p
    by_change o p (inl e) = subst (λ q. Both o q) (sym e) (same_section o)
    by_change o p (inr (inl e)) = subst (λ q. Both q p) (sym e.0) (subst (λ q. Both None q) (sym e.1)
        (λ f. absurd cc, λ f. absurd (not_own (profile_at (place_at v t) l).stage f)))
    by_change o p (inr (inr e)) = subst (λ q. Both q p) (sym e.0) (subst (λ q. Both (Some t) q) (sym e.1)
        (λ f. absurd (not_own (profile_at (place_at w t) l).stage f), λ f. absurd cc))

  others_inside : SameOthers t (condvar_of w l).inside (condvar_of v l).inside
  others_inside i ne = by_change i ne (section_at w (key_of l Main)) (section_at v (key_of l Main)) section

  -- where its call has ended it isn't inside
  over : place_at v t ≡ Idle → IsInsideNot (condvar_of v l).inside t
  over idle = by_section (section_at v (key_of l Main)) refl
    where
      by_section : (o : Option ℕ) → section_at v (key_of l Main) ≡ o
          → IsInsideNot (inside_as o (λ u. (profile_at (place_at v u) l).stage)) t
      by_section None e = tt
      by_section (Some u) e = λ own.
          let there : (location_at (place_at v t) l).inside ≡ Some Main = (stands_then.sections t l Main).1 (e
          ∙ ap Some own) in
          let nowhere_now : (location_at (place_at v t) l).inside ≡ None =
          ap (λ p. (location_at p l).inside) idle in
          let both : ◌≡◌ {A = Option Line} None (Some Main) = sym nowhere_now ∙ there in cc

  inside_led : (condvar_of v l).inside ≡ led.inside
  inside_led = by_next (condvar_next at told) n goes alike follows.next
    where
      others : IsInsideNot (condvar_of v l).inside t → IsInsideNot led.inside t → (condvar_of v l).inside
          ≡ led.inside
      others a b = same_inside t (condvar_of w l).inside (condvar_of v l).inside led.inside others_inside
          (deeds_others t (condvar_deeds at told) (condvar_of w l) follows.needed) a b

      by_stage : (o : Option CondvarPhase) → IsAtStage (condvar_of v l) t o → IsAtStage led t o
          → (condvar_of v l).inside ≡ led.inside
      by_stage None a b = others a b
      by_stage (Some stage) a b = a ∙ sym b

      by_next : (x n : Next CondvarPlace) → place_at v t ≡ condvar_goes l n → Alike x n → IsAtNext led t x
          → (condvar_of v l).inside ≡ led.inside
      by_next (next.At q) (next.At q2) there same_row at_next = by_stage (condvar_row q).stage
          (subst (IsAtStage (condvar_of v l) t) same_row.0 (at_place v stands_then t l q2 there).stage)
          at_next.stage
      by_next (next.End answer) (next.End answer2) there same_row away = others (over there) away.outside
      by_next x n there same_row at_next = absurd same_row

  names_led : (u : ℕ) → (condvar_of v l).waits_with u ≡ led.waits_with u
  names_led u = elim (cases_eq u t) [
    | inl own ↦ subst (λ k. (condvar_of v l).waits_with k ≡ led.waits_with k) (sym own)
        (by_next (condvar_next at told) n goes alike follows.next)
    | inr other ↦ names_then u other ∙ sym (deeds_names t (condvar_deeds at told) (condvar_of w l) u other)
  ]
    where
      by_next : (x n : Next CondvarPlace) → place_at v t ≡ condvar_goes l n → Alike x n → IsAtNext led t x
          → (condvar_of v l).waits_with t ≡ led.waits_with t
      by_next (next.At q) (next.At q2) there same_row at_next = (at_place v stands_then t l q2 there).names
          ∙ same_row.1 ∙ sym at_next.names
      by_next (next.End answer) (next.End answer2) there same_row away = ap (λ p. (profile_at p l).names)
          there ∙ sym away.names
      by_next x n there same_row at_next = absurd same_row

  pub condvar_led : (lock_state v l).shown ≡ led.shown → (lock_state v l).queue ≡ led.waiters
      → condvar_of v l ≡ led
  condvar_led shown waiters = λ i. record {
    shown = shown i;
    waiters = waiters i;
    inside = inside_led i;
    waits_with = λ u. names_led u i;
  }

  -- After a deed the condition variable is well formed again.
  pub condvar_stays : (lock_state v l).shown ≡ led.shown → (lock_state v l).queue ≡ led.waiters
      → IsCondvar (condvar_of v l)
  condvar_stays shown waiters = subst IsCondvar (sym (condvar_led shown waiters))
      (deeds_keep (condvar_deeds at told) (condvar_of w l) t condvar follows.needed)
