-- The machine keeps more than its locks' being sites, where one thread goes elsewhere, or two.
use Rattle.lot_laws.proofs.Imports
use Imports.{ℕ, true, Option, Some, None, ◌≡◌, ◌≢◌, List, inl, inr, refl, sym, ◌∙◌, ap, subst, cases_eq, Waiter}
use Imports.{times, Kind, Place, Rules, putting, rules_of, Line, State, place_at, kind_at, section_at, queue_at}
use Imports.{is_mutex, location_at, Sections, Lines, AllAreWaiting, Hands, HandsBy, TakesOne, FitsItsLock}
use Imports.{rules_in, key_of, stood_in, locations_of}
use Rattle.spec_locks.specs.declared.kinds.Kind.TheVariants as kind
use Rattle.lot_laws.specs.Locations.{Location}
use Rattle.lot_laws.specs.SitesOf.{Stands}
use Rattle.lot_laws.proofs.machine.Parts.{put_here, put_other}
use Rattle.lot_laws.proofs.machine.Parts.{mutex}
use Rattle.lot_laws.proofs.sites.StandsKept.{AlikeBeside, part_else, sections_same, entered, left, lines_same}
use Rattle.lot_laws.proofs.sites.StandsKept.{line_moved, hands_same, waits_same, calls_in}

pub mutex_rules : (k : Kind) → is_mutex k ≡ true → rules_of k ≡ mutex
mutex_rules kind.Mutex h = refl
mutex_rules kind.Fair h = refl
mutex_rules k h = absurd cc

-- a thread has one waiter of a mutex in hand
pub takes_one : (w : State) (l : ℕ) → rules_in w l ≡ mutex → TakesOne w l
takes_one w l rules = ap (λ (r : Rules). r.sort) rules

-- locks of the same kinds take as many
pub hands_in : (w v : State) (p : ℕ → Place) → ((k : ℕ) → kind_at v k ≡ kind_at w k) → Hands (TakesOne w) p
    → Hands (TakesOne v) p
hands_in w v p kinds h = record {
  carried = h.carried;
  alone = λ t l u x b c o. h.alone t l u x b c (sym (ap (λ y. (rules_of y).sort) (kinds l)) ∙ o);
  taken = h.taken;
}

-- ---------------------------------------------------------------- by the stations of threads

-- the machine has its threads in sections, lines and hands as their places say
pub record AreThere (one : ℕ → Type 0) (at : ℕ → ℕ → Location) (section : ℕ → Option ℕ) (queue : ℕ
    → List Waiter) : Type 0 where
  pub sections : Sections at section
  pub lines : Lines at queue
  pub waits : AllAreWaiting at queue
  pub hands : HandsBy one at

pub there_in : (w : State) → Stands w → AreThere (TakesOne w) (locations_of (place_at w)) (section_at w)
    (queue_at w)
there_in w stands = record {
  sections = stands.sections;
  lines = stands.lines;
  waits = stands.waits;
  hands = stands.hands;
}

-- a state by how its threads stand
pub stands_by : (w v : State) (q : ℕ → Place) → place_at v ≡ q → ((k : ℕ) → kind_at v k ≡ kind_at w k)
    → AreThere (TakesOne w) (locations_of q) (section_at v) (queue_at v) → ((u : ℕ) → FitsItsLock v (q u))
    → Stands v
stands_by w v q e kinds there c = record {
  sections = subst (λ (f : ℕ → Place). Sections (locations_of f) (section_at v)) (sym e) there.sections;
  lines = subst (λ (f : ℕ → Place). Lines (locations_of f) (queue_at v)) (sym e) there.lines;
  waits = subst (λ (f : ℕ → Place). AllAreWaiting (locations_of f) (queue_at v)) (sym e) there.waits;
  hands = subst (λ (f : ℕ → Place). Hands (TakesOne v) f) (sym e) (hands_in w v q kinds there.hands);
  calls = λ u. subst (λ (f : ℕ → Place). FitsItsLock v (f u)) (sym e) (c u);
}

-- one thread goes elsewhere, at one lock
module _ {one : ℕ → Type 0} (at at2 : ℕ → ℕ → Location) (section : ℕ → Option ℕ) (queue : ℕ → List Waiter)
    (there : AreThere one at section queue) (t l : ℕ) (others : (u k : ℕ) → (u ≡ t → k ≡ l → ⊥)
    → at2 u k ≡ at u k) where
  -- a part of a station that is the same
  part : {A : Type 0} (g : Location → A) → g (at2 t l) ≡ g (at t l) → (u k : ℕ) → g (at2 u k) ≡ g (at u k)
  part g e u k = elim (cases_eq u t) [
    | inl f ↦ elim (cases_eq k l) [
      | inl h ↦ rw (f, h) e
      | inr ne ↦ ap g (others u k (λ i j. ne j))
    ]
    | inr ne ↦ ap g (others u k (λ i j. ne i))
  ]

  other : {A : Type 0} (g : Location → A) → (u k : ℕ) → (u ≡ t → k ≡ l → ⊥) → g (at2 u k) ≡ g (at u k)
  other g u k ne = ap g (others u k ne)

  hands_stay : (at2 t l).has_taken ≡ (at t l).has_taken → (at2 t l).hand ≡ (at t l).hand → HandsBy one at2
  hands_stay c n = hands_same at at2 there.hands (part (λ x. x.has_taken) c) (part (λ x. x.hand) n)

  waits_stay : (at2 t l).waits ≡ (at t l).waits → AllAreWaiting at2 queue
  waits_stay e = waits_same at at2 queue queue there.waits (part (λ x. x.waits) e) (λ key. refl)

  lines_stay : (at2 t l).stands ≡ (at t l).stands → Lines at2 queue
  lines_stay e = lines_same at at2 queue queue there.lines (part (λ x. x.stands) e) (λ key. refl)

  sections_stay : (at2 t l).inside ≡ (at t l).inside → Sections at2 section
  sections_stay e = sections_same at at2 section there.sections (part (λ x. x.inside) e)

  -- with the same station, and the same sections and lines
  pub still : at2 t l ≡ at t l → AreThere one at2 section queue
  still e = record {
    sections = sections_stay (ap (λ (x : Location). x.inside) e);
    lines = lines_stay (ap (λ (x : Location). x.stands) e);
    waits = waits_stay (ap (λ (x : Location). x.waits) e);
    hands = hands_stay (ap (λ (x : Location). x.has_taken) e) (ap (λ (x : Location). x.hand) e);
  }

  module _ (m : Line) (after : ℕ → Option ℕ) (elsewhere : (key : ℕ) → key ≢ key_of l m → after key
      ≡ section key) where
    -- into a section that is free
    pub goes_in : section (key_of l m) ≡ None → after (key_of l m) ≡ Some t → (at t l).inside ≡ None
        → at2 t l ≡ record (at t l) { inside = Some m } → AreThere one at2 after queue
    goes_in free held out e = record {
      sections = entered at at2 section after there.sections t l m (other (λ x. x.inside)) elsewhere free out
          (ap (λ (x : Location). x.inside) e) held;
      lines = lines_stay (ap (λ (x : Location). x.stands) e);
      waits = waits_stay (ap (λ (x : Location). x.waits) e);
      hands = hands_stay (ap (λ (x : Location). x.has_taken) e) (ap (λ (x : Location). x.hand) e);
    }

    -- out of its own
    pub goes_out : after (key_of l m) ≡ None → (at t l).inside ≡ Some m → at2 t l ≡ record (at t l) {
      inside =
          None;
    } → AreThere one at2 after queue
    goes_out free within e = record {
      sections = left at at2 section after there.sections t l m (other (λ x. x.inside)) elsewhere within
          (ap (λ (x : Location). x.inside) e) free;
      lines = lines_stay (ap (λ (x : Location). x.stands) e);
      waits = waits_stay (ap (λ (x : Location). x.waits) e);
      hands = hands_stay (ap (λ (x : Location). x.has_taken) e) (ap (λ (x : Location). x.hand) e);
    }

  -- into a line, or out of it
  pub line_changes : (m : Line) (after : ℕ → List Waiter)
      → ((key : ℕ) → key ≢ key_of l m → after key ≡ queue key)
      → ((u : ℕ) → u ≢ t → times u (after (key_of l m)) ≡ times u (queue (key_of l m)))
      → ((n : Line) → times t (after (key_of l n)) ≡ stood_in (at2 t l).stands n) → AllAreWaiting at2 after
      → (at2 t l).inside ≡ (at t l).inside → (at2 t l).has_taken ≡ (at t l).has_taken → (at2 t l).hand
      ≡ (at t l).hand
      → AreThere one at2 section after
  line_changes m after elsewhere counts own_count waits i c n = record {
    sections = sections_stay i;
    lines = line_moved at at2 queue after there.lines t l m (other (λ x. x.stands)) elsewhere counts
        own_count;
    waits = waits;
    hands = hands_stay c n;
  }

-- ---------------------------------------------------------------- by their places

pub calls_put : (v : State) (p : ℕ → Place) (t : ℕ) (p2 : Place) → ((u : ℕ) → FitsItsLock v (p u))
    → FitsItsLock v p2 → (u : ℕ)
    → FitsItsLock v (putting p t p2 u)
calls_put v p t p2 c c2 u = elim (cases_eq u t) [
  | inl e ↦ rw (e, put_here p t p2) c2
  | inr ne ↦ rw (put_other p t p2 u ne) (c u)
]

module _ (w v : State) (stands : Stands w) (kinds : (k : ℕ) → kind_at v k ≡ kind_at w k) where
  pub calls_one : (t : ℕ) (p2 : Place) → FitsItsLock w p2 → (u : ℕ)
      → FitsItsLock v (putting (place_at w) t p2 u)
  calls_one t p2 fits = calls_put v (place_at w) t p2 (λ u. calls_in w v (place_at w u) kinds
      (stands.calls u)) (calls_in w v p2 kinds fits)

  -- one thread stands elsewhere
  pub stands_put : (t : ℕ) (p2 : Place) → FitsItsLock w p2 → place_at v ≡ putting (place_at w) t p2
      → AreThere (TakesOne w) (locations_of (putting (place_at w) t p2)) (section_at v) (queue_at v)
      → Stands v
  stands_put t p2 fits places there = stands_by w v (putting (place_at w) t p2) places kinds there
      (calls_one t p2 fits)

-- where one thread goes elsewhere, nobody else does, and it doesn't at another lock
pub others_stay : (p : ℕ → Place) (t l : ℕ) (p2 : Place) → AlikeBeside l (p t) p2 → (u k : ℕ)
    → (u ≡ t → k ≡ l → ⊥)
    → locations_of (putting p t p2) u k ≡ locations_of p u k
others_stay p t l p2 alike = part_else (λ x. x) l p t p2 alike

-- A thread's own location at a lock is that of its place.
pub location_put : (p : ℕ → Place) (t l : ℕ) (p2 : Place) → locations_of (putting p t p2) t l
    ≡ location_at p2 l
location_put p t l p2 = ap (λ q. location_at q l) (put_here p t p2)
