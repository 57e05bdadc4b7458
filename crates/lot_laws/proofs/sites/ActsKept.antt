-- Each act of one thread in a call of one lock keeps every lock of the world a site whose word says so.
use Rattle.lot_laws.proofs.Imports
use Imports.{ℕ, true, Some, None, ◌≡◌, ◌≢◌, ◌<◌, List, [], ◌∷◌, ◌++◌, length, sym, ◌∙◌, ap, One, Op, Want}
use Imports.{apply, waiter, without, Place, Rules, putting, Role, IsSite, Deed, Line, In, FindNobody}
use Imports.{has_readers, after_deed, code, State, place_at, word_at, queue_at, section_at, put}
use Imports.{state_after_operation, state_with_sections, queues_with_last, queues_without, queues_without_first}
use Imports.{taken_at, acts, location, location_at, nowhere, role_on, ActsNeeded, IsInductive, Goes}
use Imports.{FitsItsLock, rules_in, key_of}
use Rattle.lot_laws.specs.Locations.{Location}
use Rattle.lot_laws.proofs.machine.Parts.{parts_at, seen_in, IsOf, location_here, location_elsewhere}
use Rattle.lot_laws.proofs.sites.OneStep.{Steps}
use Rattle.lot_laws.proofs.sites.StandsKept.{AlikeBeside, own_alike}
pub use Rattle.lot_laws.proofs.sites.Following.{AlikeAt, Moves, NoHandOff, asides, follows_by}
pub use Rattle.lot_laws.proofs.sites.Following.{goes_all_inductive, goes_inductive, lates, limited, lock_by}
pub use Rattle.lot_laws.proofs.sites.Following.{operated, ordinary_by, parks, stood_one, stood_other}
pub use Rattle.lot_laws.proofs.sites.Following.{with_line}
use Rattle.lot_laws.proofs.sites.ActsAt as at

module _ (w : State) (t l : ℕ) (inductive : IsInductive w) (own : IsOf l (place_at w t)) (there : t
    < length w.places) (r : Rules)
    (rules : rules_in w l ≡ r) (p2 : Place) (of : IsOf l p2) (fits : FitsItsLock w p2) where
  alike : AlikeBeside l (place_at w t) p2
  alike = own_alike l (place_at w t) p2 own of

  was_here : location_at (place_at w t) l ≡ location (place_at w t)
  was_here = location_here l (place_at w t) own

  is_here : location_at p2 l ≡ location p2
  is_here = location_here l p2 of

  same_here : location p2 ≡ location (place_at w t) → location_at p2 l ≡ location_at (place_at w t) l
  same_here e = is_here ∙ e ∙ sym was_here

  -- the thread stands at no other lock
  out : (k : ℕ) → k ≢ l → (location_at (place_at w t) k).stands ≡ None
  out k ne = ap (λ (x : Location). x.stands) (location_elsewhere l k (place_at w t) own ne)

  pub site_by : IsSite r (lock_by w l r)
  site_by = at.site_by w t l inductive there r rules p2 alike fits

  pub word_goes : (p : Place) → l < length w.locks → l < length w.shares → (f : Op) (ds : List Deed)
      → (has_readers r.sort ≡ true → NoHandOff ds) → Steps r l (parts_at w l) (operated w t p l f)
      (place_at w) t p2 ds
      → apply f (word_at w l) ≡ code r (seen_in r l (operated w t p l f) (putting (place_at w) t p2))
      → location p2 ≡ location (place_at w t) → Goes w (put (state_after_operation w t p l f) t p2) l
      (acts t ds)
  word_goes p lt shared f ds plain steps coded e = at.word_goes w t l inductive there r rules p2 alike fits p
      lt
      shared f ds plain steps coded (same_here e)

  pub place_goes : (ds : List Deed) → (has_readers r.sort ≡ true → NoHandOff ds)
      → Steps r l (parts_at w l) (parts_at w l) (place_at w) t p2 ds → location p2 ≡ location (place_at w t)
      → Goes w (put w t p2) l (acts t ds)
  place_goes ds plain steps e = at.place_goes w t l inductive there r rules p2 alike fits ds plain steps
      (same_here e)

  pub nobody_inside : (m : Line) → section_at w (key_of l m) ≡ None → (u : ℕ)
      → (role_on (place_at w u) l).inside ≢ Some m
  nobody_inside = at.nobody_inside w t l inductive there r rules p2 alike fits

  module _ (hand : taken_at (place_at w t) l ≡ taken_at p2 l) where
    pub finds_none : (m : Line) (d : Role) → ActsNeeded r (acts t (FindNobody m ∷ [])) (lock_by w l r)
        → role_on p2 l ≡ (after_deed r (FindNobody m) (lock_by w l r) t).role t
        → Steps r l (parts_at w l) (parts_at w l) (place_at w) t p2 (FindNobody m ∷ [])
    finds_none = at.finds_none w t l inductive there r rules p2 alike fits hand

  module _ (m : Line) (line : key_of l m < length w.sections) where
    pub enter_goes : section_at w (key_of l m) ≡ None → (location (place_at w t)).inside ≡ None
        → Steps r l (parts_at w l) (parts_at w l) (place_at w) t p2 (In m ∷ []) → location p2
        ≡ record (location (place_at w t)) { inside = Some m }
        → Goes w (put (state_with_sections w (One (key_of l m)) (Some t)) t p2) l (acts t (In m ∷ []))
    enter_goes free outside steps e = at.enter_goes w t l inductive there r rules p2 alike fits m line free
        (ap (λ (x : Location). x.inside) was_here ∙ outside) steps
        (is_here ∙ e ∙ sym (ap (λ (x : Location). record x { inside = Some m }) was_here))

    pub leave_goes : (location (place_at w t)).inside ≡ Some m → (ds : List Deed)
        → (has_readers r.sort ≡ true → NoHandOff ds) → Steps r l (parts_at w l) (parts_at w l) (place_at w) t
        p2 ds → location p2 ≡ record (location (place_at w t)) { inside = None }
        → Goes w (put (state_with_sections w (One (key_of l m)) None) t p2) l (acts t ds)
    leave_goes within ds plain steps e = at.leave_goes w t l inductive there r rules p2 alike fits m line
        (ap (λ (x : Location). x.inside) was_here ∙ within) ds plain steps
        (is_here ∙ e ∙ sym (ap (λ (x : Location). record x { inside = None }) was_here))

  pub park_goes : (m : Line) (x : Want) (ds : List Deed) → (has_readers r.sort ≡ true → NoHandOff ds)
      → key_of l m < length w.queues → (location (place_at w t)).stands ≡ None
      → Steps r l (parts_at w l) (with_line (parts_at w l) m (queue_at w (key_of l m) ++ waiter (key_of l m) t
      x ∷ []))
      (place_at w) t p2 ds
      → location p2 ≡ record (location (place_at w t)) { stands = Some m; waits = Some x }
      → Goes w (put (record w { queues = queues_with_last w.queues (key_of l m) t x }) t p2) l (acts t ds)
  park_goes m x ds plain line nowhere steps e = at.park_goes w t l inductive there r rules p2 alike fits out m
      x
      ds plain line (ap (λ (y : Location). y.stands) was_here ∙ nowhere) steps
      (is_here ∙ e ∙ sym (ap (λ (y : Location). record y { stands = Some m; waits = Some x }) was_here))

  pub remove_goes : (m : Line) (ds : List Deed) → (has_readers r.sort ≡ true → NoHandOff ds)
      → (location (place_at w t)).stands ≡ Some m
      → Steps r l (parts_at w l) (with_line (parts_at w l) m (without t (queue_at w (key_of l m))))
      (place_at w) t p2 ds
      → location p2 ≡ record (location (place_at w t)) { stands = None; waits = None }
      → Goes w (put (record w { queues = queues_without w.queues t }) t p2) l (acts t ds)
  remove_goes m ds plain stands steps e = at.remove_goes w t l inductive there r rules p2 alike fits out m ds
      plain (ap (λ (y : Location). y.stands) was_here ∙ stands) steps
      (is_here ∙ e ∙ sym (ap (λ (y : Location). record y { stands = None; waits = None }) was_here))

  pub nobody_goes : (m : Line) (ds : List Deed) → (has_readers r.sort ≡ true → NoHandOff ds)
      → key_of l m < length w.queues
      → queue_at w (key_of l m) ≡ [] → Steps r l (parts_at w l) (parts_at w l) (place_at w) t p2 ds
      → location p2 ≡ location (place_at w t)
      → Goes w (put (record w { queues = queues_without_first w.queues (key_of l m) }) t p2) l (acts t ds)
  nobody_goes m ds plain line empty steps e = at.nobody_goes w t l inductive there r rules p2 alike fits m ds
      plain line empty steps (same_here e)
