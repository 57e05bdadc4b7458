-- All that a thread has in hand at one lock are told one thing, and it goes on itself: where the threads
-- stand then. They may be in calls of other locks too, and the thread itself may be among them.
use Rattle.lot_laws.proofs.Imports
use Imports.{ℕ, Bool, true, false, Option, Some, None, if◌then◌else◌, ◌==◌, ◌&&◌, ◌≡◌, ◌≢◌, ◌<◌, ◌⊎◌, length}
use Imports.{get_or, map, inl, inr, refl, sym, ◌∙◌, ap, subst, arith, cases_eq, eqb-true, length-map, and-true}
use Imports.{and-false, get_or-map, Place, Idle, Reply, is_thread, next_place, taker, putting, State, place_at}
use Imports.{put, state_after_telling, place_after_telling, location_at, IsInductive, FitsItsLock, carried_at}
use Imports.{hand_at}
use Rattle.lot_laws.specs.Locations.{Location, Hand, hand}
use Rattle.lot_laws.proofs.machine.Parts.{same, differ, put_places, put_here, put_other}
use Rattle.lot_laws.proofs.sites.StandsKept.{AlikeBeside}
use Rattle.lot_laws.proofs.sites.Following.{AlikeAt}

-- where a thread goes that t had in hand at the lock, and in whose hand it is there then, if in anybody's
pub record IsToldAt (w : State) (t l : ℕ) (handed : Bool) (after : Option Hand) (reply : Reply)
    (p : Place) : Type 0 where
  pub goes : location_at (next_place p reply) l ≡ record (location_at p l) { hand = after }
  pub alike : AlikeBeside l p (next_place p reply)
  pub fits : FitsItsLock w (next_place p reply)

-- in whose hand a thread is, at some lock
pub record IsHeldAt (p : Place) (t : ℕ) : Type 0 where
  pub lock : ℕ
  pub handed : Bool
  pub hand : hand_at p lock ≡ hand t handed

-- at each other lock a thread has nobody more or less in hand, and is in no other hand
abbrev pub SameHands : ℕ → Place → Place → Type 0
SameHands l p p2 = (k : ℕ) → k ≢ l → (hand_at p2 k ≡ hand_at p k) × (carried_at p2 k ≡ carried_at p k)

pub same_hands : (l : ℕ) (p p2 : Place) → AlikeBeside l p p2 → SameHands l p p2
same_hands l p p2 beside k ne = let e = (beside k ne).location in (
  ap (λ (y : Location). y.hand) e,
  ap (λ (y : Location). y.has_taken) e,
)

-- each thread that is in a hand is so at some lock, and t has nobody in hand at another lock than this one
pub record HoldsHere (w : State) (t l : ℕ) : Type 0 where
  pub held : (u : ℕ) → is_thread t (taker (place_at w u)) ≡ true → IsHeldAt (place_at w u) t
  pub taker : (u : ℕ) (b : Bool) → hand_at (place_at w u) l ≡ hand t b → is_thread t (taker (place_at w u))
      ≡ true
  pub nobody : (k : ℕ) → k ≢ l → carried_at (place_at w t) k ≡ None

module _ (w : State) (t l : ℕ) (inductive : IsInductive w) (p2 : Place) (beside : SameHands l (place_at w t)
    p2)
    (fits : FitsItsLock w p2) (holds : HoldsHere w t l) (reply : Reply) (after : Option Hand)
    (all : (u : ℕ) (b : Bool) → hand_at (place_at w u) l ≡ hand t b → IsToldAt w t l b after reply
    (place_at w u)) where
  -- a thread that is told
  abbrev pub has : ℕ → Bool
  has u = is_thread t (taker (place_at w u))

  abbrev pub told : ℕ → Place
  told u = place_after_telling t reply (place_at w u)

  abbrev pub places_then : ℕ → Place
  places_then = putting told t p2

  -- in hand at this lock
  pub record HeldHere (u : ℕ) : Type 0 where
    pub handed : Bool
    pub hand : hand_at (place_at w u) l ≡ hand t handed

  pub held_here : (u : ℕ) → has u ≡ true → HeldHere u
  held_here u h = by_lock (cases_eq k.lock l)
    where
      k : IsHeldAt (place_at w u) t
      k = holds.held u h

      by_lock : ((k.lock ≡ l) ⊎ (k.lock ≢ l)) → HeldHere u
      by_lock (inl e) = record {
        handed = k.handed;
        hand = subst (λ j. hand_at (place_at w u) j ≡ hand t k.handed) e k.hand;
      }
      by_lock (inr ne) = absurd (let a : carried_at (place_at w t) k.lock ≡ Some k.handed =
          inductive.stands.hands.taken t u k.lock k.handed k.hand in
          let c : ◌≡◌ {A = Option Bool} None (Some k.handed) = sym (holds.nobody k.lock ne) ∙ a in cc)

  pub told_on : (u : ℕ) → has u ≡ true → told u ≡ next_place (place_at w u) reply
  told_on u h = ap (λ b. if b then next_place (place_at w u) reply else place_at w u) h

  pub told_off : (u : ℕ) → has u ≡ false → told u ≡ place_at w u
  told_off u h = ap (λ b. if b then next_place (place_at w u) reply else place_at w u) h

  -- a thread that is not told is not in its hand
  pub not_held : (u : ℕ) → has u ≡ false → (b : Bool) → hand_at (place_at w u) l ≡ hand t b → ⊥
  not_held u h b g = let c : true ≡ false = sym (holds.taker u b g) ∙ h in cc

  -- the news of a thread: what holds of each that is in its hand, and of each other
  pub by_told : (P : Place → Type 0) (u : ℕ) → (HeldHere u → P (next_place (place_at w u) reply))
      → ((has u ≡ false) → P (place_at w u)) → P (told u)
  by_told P u told_so other = either (has u) refl
    where
      either : (b : Bool) → has u ≡ b → P (told u)
      either true h = subst P (sym (told_on u h)) (told_so (held_here u h))
      either false h = subst P (sym (told_off u h)) (other h)

  -- a part of a station that a hand is no part of
  part_told : {A : Type 0} (g : Location → A) → ((x : Location) (h : Option Hand) → g (record x { hand = h })
      ≡ g x) → (u k : ℕ) → g (location_at (told u) k) ≡ g (location_at (place_at w u) k)
  part_told g same_part u k = by_told (λ q. g (location_at q k) ≡ g (location_at (place_at w u) k)) u
      (λ held. let z = all u held.handed held.hand in elim (cases_eq k l) [
        | inl e ↦ rw e (ap g z.goes ∙ same_part (location_at (place_at w u) l) after)
        | inr ne ↦ ap g (z.alike k ne).location
      ])
      (λ h. refl)

  -- another lock sees nothing of it
  pub alike : (k : ℕ) → k ≢ l → AlikeAt k (place_at w t) p2 → (u : ℕ) → AlikeAt k (place_at w u)
      (places_then u)
  alike k ne own u = elim (cases_eq u t) [
    | inl e ↦ rw (e, put_here told t p2) own
    | inr nu ↦ subst (λ (y : Place). AlikeAt k (place_at w u) y) (sym (put_other told t p2 u nu))
        (by_told (λ q. AlikeAt k (place_at w u) q) u
        (λ held. let z = all u held.handed held.hand in ((z.alike k ne).taken, (z.alike k ne).role))
        (λ h. (refl, refl)))
  ]

  not_here : (k : ℕ) → (k == l) ≡ false → k ≢ l
  not_here k e f = let yes : (k == l) ≡ true = rw f (same l) in let g : true ≡ false = sym yes ∙ e in cc

  pub calls_then : (u : ℕ) → FitsItsLock w (places_then u)
  calls_then u = elim (cases_eq u t) [
    | inl e ↦ rw (e, put_here told t p2) fits
    | inr nu ↦ subst (λ (y : Place). FitsItsLock w y) (sym (put_other told t p2 u nu))
        (by_told (FitsItsLock w) u (λ held. (all u held.handed held.hand).fits)
        (λ h. inductive.stands.calls u))
  ]

  -- each thread that is told is in this hand then; t itself is so where it was in its own
  module _ (own : (location_at p2 l).hand ≡ (if has t then after else (location_at (place_at w t) l).hand))
    where
      pub in_hand : (u k : ℕ) → hand_at (places_then u) k ≡ (if has u && (k == l) then after else hand_at
          (place_at w u) k)
      in_hand u k = elim (cases_eq u t) [
        | inl e ↦ rw (e, put_here told t p2) (at_key (k == l) refl)
        | inr nu ↦ ap (λ y. hand_at y k) (put_other told t p2 u nu) ∙ either (has u) refl
      ]
        where
          at_key : (c : Bool) → (k == l) ≡ c → hand_at p2 k
              ≡ (if has t && c then after else hand_at (place_at w t) k)
          at_key true e = ap (hand_at p2) (eqb-true k l e) ∙ own
              ∙ sym ((λ i. if and-true (has t) i then after else hand_at (place_at w t) (eqb-true k l e i)))
          at_key false e = (beside k (not_here k e)).0
              ∙ sym (ap (λ b. if b then after else hand_at (place_at w t) k) (and-false (has t)))

          at_told : HeldHere u → has u ≡ true → (c : Bool) → (k == l) ≡ c
              → hand_at (told u) k ≡ (if c then after else hand_at (place_at w u) k)
          at_told held h true e = ap (λ y. hand_at y k) (told_on u h)
              ∙ ap (λ j. hand_at (next_place (place_at w u) reply) j) (eqb-true k l e)
              ∙ ap (λ (y : Location). y.hand) (all u held.handed held.hand).goes
          at_told held h false e = ap (λ y. hand_at y k) (told_on u h) ∙ ap (λ (y : Location). y.hand)
              ((all u held.handed held.hand).alike k (not_here k e)).location

          either : (b : Bool) → has u ≡ b → hand_at (told u) k
              ≡ (if b && (k == l) then after else hand_at (place_at w u) k)
          either false h = ap (λ y. hand_at y k) (told_off u h)
          either true h = at_told (held_here u h) h (k == l) refl

  pub has_taken : (i k : ℕ)
      → carried_at (places_then i) k ≡ (if (i == t) && (k == l) then (location_at p2 l).has_taken
      else carried_at (place_at w i) k)
  has_taken i k = elim (cases_eq i t) [
    | inl e ↦ rw (e, put_here told t p2, same t) (either (k == l) refl)
    | inr ni ↦ rw (put_other told t p2 i ni, differ i t ni) (part_told (λ y. y.has_taken) (λ x h. refl) i k)
  ]
    where
      either : (c : Bool) → (k == l) ≡ c
          → carried_at p2 k ≡ (if c then (location_at p2 l).has_taken else carried_at (place_at w t) k)
      either true e = ap (carried_at p2) (eqb-true k l e)
      either false e = (beside k (not_here k e)).1

  -- the parts that a hand is no part of, but for those of t
  pub other_parts : {A : Type 0} (g : Location → A) → ((x : Location) (h : Option Hand)
      → g (record x { hand = h }) ≡ g x) → (u k : ℕ) → u ≢ t → g (location_at (places_then u) k)
      ≡ g (location_at (place_at w u) k)
  other_parts g part u k ne = ap (λ y. g (location_at y k)) (put_other told t p2 u ne) ∙ part_told g part u k

  pub all_parts : {A : Type 0} (g : Location → A) → ((x : Location) (h : Option Hand)
      → g (record x { hand = h }) ≡ g x) → ((k : ℕ) → g (location_at p2 k) ≡ g (location_at (place_at w t) k))
      → (u k : ℕ) → g (location_at (places_then u) k) ≡ g (location_at (place_at w u) k)
  all_parts g part e u k = elim (cases_eq u t) [
    | inl f ↦ rw (f, put_here told t p2) (e k)
    | inr nu ↦ other_parts g part u k nu
  ]

  -- a state in which they stand so
  pub places_are : (b : State) → b.places ≡ w.places → t < length w.places
      → place_at (put (state_after_telling b t reply) t p2) ≡ places_then
  places_are b e there = put_places (state_after_telling b t reply) t p2
      (λ h. absurd (let a : length (map (place_after_telling t reply) b.places) ≡ length b.places =
      length-map b.places (place_after_telling t reply) in let c : length b.places ≡ length w.places =
      ap length e in omega arith))
      ∙ ap (λ (f : ℕ → Place). putting f t p2)
      ((λ i u. get_or-map (place_after_telling t reply) b.places u Idle i)
      ∙ (λ i u. place_after_telling t reply (get_or (e i) u Idle)))
