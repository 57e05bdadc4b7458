-- A thread goes on: every lock is a site again. Here a call of a mutex.
use Rattle.lot_laws.proofs.Imports
use Imports.{append-nil, ◌++◌, ℕ, Bool, true, false, Option, Some, None, if◌then◌else◌, ◌==◌, ◌≡◌, ◌≢◌, ◌+◌}
use Imports.{◌*◌, ◌<◌, ◌⊎◌, List, [], ◌∷◌, length, inl, inr, refl, sym, ◌∙◌, ap, subst, Normal, Op, Waiter}
use Imports.{Exclusive, first_of, apply, Act, Next, Reply, Value, Took, HandedBy, TakenBy, Late, CallFollows}
use Imports.{inside_of, location_of, location_then, row_of, with_exclusive, Profile, in_hand, Location}
use Imports.{IsLockState, IsSuccessor, Rules, let_go, Case, Clear, Deed, End}
use Imports.{Line, Main, Mark, MarkBrought, MarkOwned, Site, aside_in, code, case_of, MutexPlace, mutex_deeds}
use Imports.{take_deeds, HandsOverToHeir, heir, mutex_row, next_row, mutex_late_line, hand_off_word, mutex_act}
use Imports.{mutex_next, mutex_owners, mutex_hand_overs_code, mutex_steps_code, mutex_steps_follow}
use Imports.{mutex_steps_tell, Place, Idle, Mutex, RwLock, Once, Condvar, Semaphore, act_of, mutex_goes}
use Imports.{next_place, profile, State, can_do, hand_over_told, section_is_free as is_free_in, owners_at}
use Imports.{place_at, put, queue_at, queues_without_first, reply_to, section_at, kind_at, state_after_act}
use Imports.{state_after_hand_over, state_after_late_under, state_after_operation, state_after_reply}
use Imports.{unshared_then, word_at, GivesUpTimed, IsWellFormed, PlaceFits, taken_at, acts, claims_of, location}
use Imports.{location_at, ActsNeeded, AreCounted, FitsItsLock, Goes, IsInductive, carried_at, hand_at, is_mutex}
use Imports.{key_of, rules_in}
use Rattle.core_base.specs.declared.notes.Note.TheVariants.{HandOff as HandOffNote}
use Rattle.core_base.specs.declared.ops.Op.TheVariants as ops
use Rattle.steps_base.specs.declared.acts.Act.TheVariants as act
use Rattle.steps_base.specs.declared.acts.Next.TheVariants as next
use Rattle.steps_base.specs.declared.acts.TakeWhich.TheVariants as whoms
use Rattle.spec_locks.specs.Locks as locks
use Rattle.spec_locks.specs.Deeds as laws
use Rattle.steps_mutex.specs.declared.places.MutexPlace.TheVariants.{HandOff}
use Rattle.steps_mutex.specs.declared.hand_off.HandOffAt.TheVariants as hand_off
use Rattle.steps_mutex.specs.MutexLaws.{Follows, IsAt, LeavesMutex, MayReply}
use Rattle.steps_mutex.specs.MutexLaws.{role_next}
use Rattle.lot_laws.specs.ThreadDeeds.{Act as OneDeed}
use Rattle.lot_laws.proofs.calls.CallEvents.{AreClaims}
use Rattle.lot_laws.specs.Locations.{hand}
use Rattle.lot_laws.proofs.calls.LockEvents.{Befalls}
use Rattle.lot_laws.proofs.calls.OtherCalls.{WakesOwn, delivers, befalls_nobody}
use Rattle.lot_laws.proofs.hands.Handed.{handed_is}
use Rattle.lot_laws.proofs.machine.AtPlaces.{in_no_hand}
use Rattle.lot_laws.proofs.machine.Parts.{IsOf, IsSingle, base_at, differ, free_of, location_here, mutex}
use Rattle.lot_laws.proofs.machine.Parts.{next_of, of_single, own_stance, role_here, same, untaken}
use Rattle.lot_laws.proofs.mutex.Acts.{IsOfWord, OwnedBy, owned_by, works_at}
use Rattle.lot_laws.proofs.mutex.Hands.{accepts as has_now, first_goes, first_sleeps, first_stands, hands_to}
use Rattle.lot_laws.proofs.mutex.Hands.{tries}
use Rattle.lot_laws.proofs.mutex.MutexMoves.{MutexMoves, StoresNothing, Works, mutex_acts_move, mutex_hears}
use Rattle.lot_laws.proofs.mutex.MutexMoves.{mutex_late_move, mutex_move, owner_alone}
use Rattle.lot_laws.proofs.mutex.Waiters.{CallsMutex, IsHeldThere, WasGivenThere, calls_mutex_at, given_there}
use Rattle.lot_laws.proofs.mutex.Waiters.{held_there}
use Rattle.lot_laws.proofs.book.LockStaysASite.{goes_on}
use Rattle.lot_laws.proofs.book.Pages.{booked, semaphore_timed}
use Rattle.lot_laws.proofs.once.Page.{keeps_all as once_keeps}
use Rattle.lot_laws.proofs.semaphore.Page.{keeps_all as semaphore_keeps}
use Rattle.lot_laws.proofs.sites.ByAct.{AreCalm, GoesBy, IsBrief, accepted, calm_case, into, left_main}
use Rattle.lot_laws.proofs.sites.ByAct.{line_there, none_is, on_time, out_of, parked, section_there}
use Rattle.lot_laws.proofs.sites.ByAct.{tells_all, took_first}
use Rattle.lot_laws.proofs.rwlock.RwLockStepsAreEvents.{rwlock_goes_on}
use Rattle.lot_laws.proofs.sites.ActsKept.{goes_inductive, lock_by}
use Rattle.lot_laws.proofs.sites.FirstTaken.{TakesFirst}
use Rattle.lot_laws.proofs.sites.FirstTaken as first
use Rattle.lot_laws.proofs.sites.MovesKept.{IsFollowed, goes_in, location_is, there_is}
use Rattle.lot_laws.proofs.sites.SitesKept.{go_by, hands_over, one_held}
use Rattle.lot_laws.proofs.sites.StandsKept.{own_alike}
use Rattle.lot_laws.proofs.sites.StandsMoved.{mutex_rules}
use Rattle.lot_laws.proofs.sites.TakesAt.{after_take, member}
use Rattle.lot_laws.proofs.sites.WakesAt.{IsWokenAt}

-- where a place leads, its row does
goes_row : (l : ℕ) (n : Next MutexPlace) → profile (mutex_goes l n) ≡ row_of (next_row n)
goes_row l (next.At p) = refl
goes_row l (next.End answer) = refl

role_is : (n : Next MutexPlace) → role_next n ≡ (row_of (next_row n)).role
role_is (next.At p) = refl
role_is (next.End answer) = refl

-- ---------------------------------------------------------------- deeds that leave the others as they are

word_calm : (ds : List Deed) → IsOfWord ds → AreCalm ds
word_calm [] h = tt
word_calm (End ∷ []) h = tt
word_calm (Mark Main ∷ []) h = tt
word_calm (Clear Main ∷ []) h = tt
word_calm (MarkOwned ∷ []) h = tt
word_calm (MarkBrought ∷ []) h = tt
word_calm (Case (locks.Leave Exclusive) ∷ []) h = tt
word_calm (Case (locks.Leave Exclusive) ∷ End ∷ []) h = tt
word_calm (Case (locks.Enter Exclusive) ∷ End ∷ []) h = tt
word_calm ds h = absurd h

takes_calm : (who : Option ℕ) → AreCalm (take_deeds who)
takes_calm None = tt
takes_calm (Some u) = tt

-- ---------------------------------------------------------------- the claimant of the mutex after a step

-- a thread to which it is handed
abbrev pub claims_at : MutexPlace → Option ℕ → List OneDeed
claims_at (HandOff bumps (hand_off.Store any none_left)) who = claims_of who
claims_at p who = []

pub are_claims : (p : MutexPlace) (who : Option ℕ) → AreClaims (claims_at p who)
are_claims (HandOff bumps (hand_off.Store any none_left)) None = tt
are_claims (HandOff bumps (hand_off.Store any none_left)) (Some u) = (tt, tt)
are_claims (HandOff bumps at) who = tt
are_claims p who = tt

no_claims : (p : MutexPlace) (who : Option ℕ) → StoresNothing p → claims_at p who ≡ []
no_claims (HandOff bumps (hand_off.Store any none_left)) who h = absurd h
no_claims (HandOff bumps at) who h = refl
no_claims p who h = refl

-- ---------------------------------------------------------------- one thread

module _ (w : State) (t l : ℕ) (at : MutexPlace) (inductive : IsInductive w) (shape : IsWellFormed w)
    (there : t < length w.places)
    (lt : l < length w.locks) (is : place_at w t ≡ Mutex l at) where
  fits_now : is_mutex (kind_at w l) ≡ true
  fits_now = let c : FitsItsLock w (Mutex l at) = subst (FitsItsLock w) is (inductive.stands.calls t) in c

  pub rules_are : rules_in w l ≡ mutex
  rules_are = mutex_rules (kind_at w l) fits_now

  pub sort_is : (rules_in w l).sort ≡ locks.Mutex
  sort_is = ap (λ (r : Rules). r.sort) rules_are

  timed : GivesUpTimed at
  timed = let fits : PlaceFits (length w.locks) (Mutex l at) = subst (PlaceFits (length w.locks)) is
      (shape.places t) in fits.1

  pub own : IsOf l (place_at w t)
  own = rw is refl

  same_row : profile (place_at w t) ≡ mutex_row at
  same_row = ap profile is

  abbrev r : Rules
  r = rules_in w l

  abbrev here : Site
  here = lock_by w l r

  pub at_now : IsAt r here t at
  at_now = record {
    sort = sort_is;
    site = inductive.sites.site l;
    role = role_here l (place_at w t) own ∙ ap (λ (y : Profile). y.role) same_row;
  }

  fits_next : (n : Next MutexPlace) → FitsItsLock w (mutex_goes l n)
  fits_next (next.At p) = fits_now
  fits_next (next.End answer) = tt

  -- tells what its laws conclude
  abbrev Followed : Option ℕ → Reply → Type 0
  Followed who told = IsFollowed w t l inductive there own r refl (mutex_move at) same_row who told
      (next_place (place_at w t) told)

  followed : (who : Option ℕ) (told : Reply) → MayReply r here t at who told → Followed who told
  followed who told hears = let f = mutex_steps_follow r here t at who told at_now hears in record {
    of = next_of l (place_at w t) told own;
    fits = subst (λ q. FitsItsLock w (next_place q told)) (sym is) (fits_next (mutex_next at told));
    row = ap (λ q. profile (next_place q told)) is ∙ goes_row l (mutex_next at told);
    needed = f.needed;
    role = f.role ∙ role_is (mutex_next at told);
  }

  abbrev deeds_of : Option ℕ → Reply → List Deed
  deeds_of who told = mutex_deeds at who told

  abbrev case_at : Option ℕ → Reply → Option locks.LockCase
  case_at who told = case_of (mutex_row at).has_taken (deeds_of who told)

  -- ---------------------------------------------------------------- each act

  abbrev Then : Place → Act → State
  Then q y = put (state_after_act w t (Mutex l at) y) t (next_place q (reply_to w t y))

  -- the thread hands the mutex over to its heir, and a waiter in its hand is told of it
  abbrev HandsOn : Place → Act → Option ℕ → Type 0
  HandsOn q y who = (alone : Bool)
      × (case_at who (reply_to w t y) ≡ Some (locks.HandOff Exclusive (heir who)))
      × Befalls w (Then q y) t l (HandedBy t alone) × (taken_at (place_at w t) l ≡ None)

  -- the thread's deeds as it goes on from a place, what they make of its call, and of those of the others
  pub record GoesFrom (q : Place) (y : Act) : Type 0 where
    pub whom : Option ℕ
    pub goes : Goes w (Then q y) l (acts t (deeds_of whom (reply_to w t y)) ++ claims_at at whom)
    pub tells : CallFollows r here.lock t l (mutex_row at) (deeds_of whom (reply_to w t y))
        (next_row (mutex_next at (reply_to w t y)))
    pub others : WakesOwn (mutex_row at).has_taken y (case_at whom (reply_to w t y)) ⊎ HandsOn q y whom
    -- The thread is in nobody's hand after the step.
    pub unheld : (location_then (mutex_move at) (reply_to w t y)).hand ≡ None

  -- where nobody claims the mutex then
  plainly : {q : Place} {y : Act} (who : Option ℕ) → claims_at at who ≡ []
      → Goes w (Then q y) l (acts t (deeds_of who (reply_to w t y))) → MayReply r here t at who
      (reply_to w t y) → reply_to w t y ≢ Late
      → (location_then (mutex_move at) (reply_to w t y)).hand ≡ None → WakesOwn (mutex_row at).has_taken y
      (case_at who (reply_to w t y)) ⊎ HandsOn q y who → GoesFrom q y
  plainly {q = q} {y = y} who none goes hears now unheld others = record {
    whom = who;
    goes = subst (Goes w (Then q y) l) (sym (append-nil (acts t (deeds_of who (reply_to w t y))))
        ∙ ap (λ more. acts t (deeds_of who (reply_to w t y)) ++ more) (sym none)) goes;
    tells = mutex_steps_tell r here t l at who (reply_to w t y) at_now hears now;
    others = others;
    unheld = unheld;
  }

  line : key_of l Main < length w.queues
  line = line_there w l shape lt Main

  word_is : word_at w l ≡ code r here
  word_is = inductive.sites.word l

  -- one operation on the word
  on_word : (op : Op) → mutex_act l at ≡ act.Word l op → claims_at at None ≡ []
      → MayReply r here t at None (Value (code r here)) → OwnedBy r (deeds_of None (Value (word_at w l))) here
      t
      → (location_of (mutex_move at)).hand ≡ None → location_then (mutex_move at) (Value (word_at w l))
      ≡ location_of (mutex_move at)
      → WakesOwn (mutex_row at).has_taken (act.Word l op) (case_at None (Value (word_at w l)))
      ⊎ HandsOn (place_at w t) (act.Word l op) None
      → GoesFrom (place_at w t) (act.Word l op)
  on_word op e none may by_owner free goes others = plainly None none
      (works_at w t l inductive there sort_is p2 (own_alike l (place_at w t) p2 own f.of) f.fits (Mutex l at)
      op
      lt (deeds_of None (Value (word_at w l))) by_owner refl f.needed
      (f.role ∙ sym (role_here l p2 f.of ∙ ap (λ (y : Profile). y.role) f.row))
      (owner_alone at t (word_at w l) (owners_at w l) ∙ ap (with_exclusive (owners_at w l))
      (subst (λ v. (mutex_owners at t v (owners_at w l)).exclusive
      ≡ (laws.after_all r (deeds_of None (Value v)) here t).lock.exclusive) (sym word_is) leaves.owner))
      (subst (λ v. apply op v ≡ code r (laws.after_all r (deeds_of None (Value v)) here t)) (sym word_is)
      leaves.word)
      (location_here l p2 f.of ∙ same_location ∙ sym (location_here l (place_at w t) own))
      (free_of (place_at w t) l (of_single l (place_at w t) own) (ap (λ (y : Location). y.hand) was ∙ free)
      ∙ sym (free_of p2 l (of_single l p2 f.of) (ap (λ (y : Location). y.hand) (same_location ∙ was)
      ∙ free))))
      sees (λ x. cc) (ap (λ (y : Location). y.hand) goes ∙ free) others
    where
      sees : MayReply r here t at None (Value (word_at w l))
      sees = subst (λ v. MayReply r here t at None (Value v)) (sym word_is) may

      leaves : LeavesMutex r here t at None op (owners_at w l)
      leaves = mutex_steps_code r here t l at None op (owners_at w l) at_now may e refl

      p2 : Place
      p2 = next_place (place_at w t) (Value (word_at w l))

      f : Followed None (Value (word_at w l))
      f = followed None (Value (word_at w l)) sees

      was : location (place_at w t) ≡ location_of (mutex_move at)
      was = location_is w t l inductive there own r refl (mutex_move at) same_row

      same_location : location p2 ≡ location (place_at w t)
      same_location = there_is w t l inductive there own r refl (mutex_move at) same_row None
          (Value (word_at w l)) p2 f ∙ goes ∙ sym was

  -- a thread that it has in hand it has taken, or handed the mutex
  held_so : (any c b : Bool) → (location_of (mutex_move at)).has_taken ≡ in_hand any c → (u : ℕ)
      → hand_at (place_at w u) l ≡ hand t b → b ≡ c
  held_so any c b has_taken u held =
      by_any any (sym (ap (λ (y : Location). y.has_taken) (location_here l (place_at w t) own
      ∙ location_is w t l inductive there own r refl (mutex_move at) same_row) ∙ has_taken)
      ∙ inductive.stands.hands.taken t u l b held)
    where
      by_any : (any : Bool) → in_hand any c ≡ Some b → b ≡ c
      by_any true e = let f : c ≡ b = cc in sym f
      by_any false e = absurd cc

  calls_it : (u : ℕ) → CallsMutex l (place_at w u)
  calls_it u = calls_mutex_at w l (place_at w u) (inductive.stands.calls u) rules_are

  -- each of them tries again, or has the mutex
  tries_again : (any : Bool) → (location_of (mutex_move at)).has_taken ≡ in_hand any false → (u : ℕ) (b : Bool)
      → hand_at (place_at w u) l ≡ hand t b → IsWokenAt w t l Normal (place_at w u)
  tries_again any has_taken u b held = let k : IsHeldThere l t (place_at w u) =
      held_there (place_at w u) t l (calls_it u) (held ∙ ap (hand t) (held_so any false b has_taken u held)) in
      record {
        lets = tries l t (place_at w u) k;
        goes = k.woken.location;
        alike = k.woken.others;
        fits = k.woken.fits tt w (inductive.stands.calls u);
      }

  has_it : (any : Bool) → (location_of (mutex_move at)).has_taken ≡ in_hand any true → (u : ℕ) (b : Bool)
      → hand_at (place_at w u) l ≡ hand t b → IsWokenAt w t l HandOffNote (place_at w u)
  has_it any has_taken u b held = let k : WasGivenThere l t (place_at w u) =
      given_there (place_at w u) t l (calls_it u) (held ∙ ap (hand t) (held_so any true b has_taken u held)) in
      record {
        lets = has_now l t t (place_at w u) k;
        goes = k.told.location;
        alike = k.told.others;
        fits = k.told.fits tt w (inductive.stands.calls u);
      }

  -- ---------------------------------------------------------------- by each act but the store of a hand-off

  module _ (nothing : StoresNothing at) where
    brief : (told : Reply) → IsBrief told → MayReply r here t at None told → Followed None told
    brief told now hears = followed None told hears

    go_on : (who : Option ℕ) (y : Act) → GoesBy w t l inductive shape there lt own (mutex_move at) same_row
        (mutex_hears at) (Mutex l at) brief who y → GoesFrom (place_at w t) y
    go_on who y b = plainly {q = place_at w t} {y = y} who (no_claims at who nothing) b.goes b.told
        (on_time (reply_to w t y) b.brief) b.free (inl b.others)

    works : (op : Op) → mutex_act l at ≡ act.Word l op → Works (mutex_move at) (mutex_hears at)
        → GoesFrom (place_at w t) (act.Word l op)
    works op e g = on_word op e (no_claims at None nothing) (g.may r here t)
        (owned_by r (deeds_of None (Value (word_at w l))) here t (g.deeds (word_at w l))) g.free
        (g.goes (word_at w l))
        (inl (calm_case (mutex_row at).has_taken (deeds_of None (Value (word_at w l)))
        (word_calm (deeds_of None (Value (word_at w l))) (g.deeds (word_at w l)))))

    -- the first of the line, if there is one
    module _ (g : TakesFirst take_deeds (mutex_move at) (mutex_hears at)) where
      is_now : location_at (place_at w t) l ≡ inside_of Main
      is_now = location_here l (place_at w t) own ∙ first.is_now w t l inductive there own r refl
          (mutex_move at)
          same_row (mutex_hears at) take_deeds line g

      takes_one : (y : Waiter) (rest : List Waiter) → queue_at w (2 * l) ≡ y ∷ rest
          → Followed (Some y.thread) (Took true (length rest == 0))
          → first.KeptBy w t l inductive there own r refl (mutex_move at) same_row (mutex_hears at) take_deeds
          line g (y ∷ rest)
      takes_one y rest e f = subst (λ ds. Goes w
          (put (state_after_reply (record w { queues = queues_without_first w.queues (2 * l) }) y.thread
          (TakenBy t)) t p2) l (acts t ds)) (sym does)
          (first_goes w l inductive rules_are y rest e t there p2 (own_alike l (place_at w t) p2 own f.of)
          f.fits
          line (first_sleeps w l inductive rules_are y rest e t apart (ap (λ (z : Location). z.inside)
          is_now)) (ap (λ (z : Location). z.has_taken) is_now)
          (location_here l p2 f.of ∙ first.is_then w t l inductive there own r refl (mutex_move at) same_row
          (mutex_hears at) take_deeds line g (Some y.thread) true (length rest == 0) f
          ∙ sym (λ j. record (after_take t (not_self j) (is_now j)) { has_taken = Some false }))
          (first.hand_then w t l inductive there own r refl (mutex_move at) same_row (mutex_hears at)
          take_deeds
          line g (Some y.thread) true (length rest == 0) f
          ∙ sym (ap (λ b. if b then taken_at (next_place (place_at w t) (TakenBy t)) l else taken_at
          (place_at w t) l) not_self ∙ first.hand_now w t l inductive there own r refl (mutex_move at)
          same_row (mutex_hears at) take_deeds line g))
          (subst (λ ds. laws.AllNeeded r ds here t) does f.needed)
          (ap (λ ds. (laws.after_all r ds here t).role t) (sym does) ∙ f.role
          ∙ sym (role_here l p2 f.of ∙ ap (λ (z : Profile). z.role) f.row)))
        where
          p2 : Place
          p2 = next_place (place_at w t) (Took true (length rest == 0))

          does : deeds_of (Some y.thread) (Took true (length rest == 0)) ≡ take_deeds (Some y.thread)
          does = g.deeds (Some y.thread) true (length rest == 0)

          apart : y.thread ≢ t
          apart same_one = let a : (location_at (place_at w t) l).stands ≡ Some Main =
              subst (λ j. (location_at (place_at w j) l).stands ≡ Some Main) same_one
              (first_stands w l inductive rules_are y rest e) in let b : (location_at (place_at w t) l).stands
              ≡ None = ap (λ (z : Location). z.stands) is_now in cc

          not_self : member t (y ∷ []) ≡ false
          not_self = rw (differ y.thread t apart) refl

    by_act : (y : Act) → mutex_act l at ≡ y → MutexMoves l (mutex_move at) (mutex_hears at) y
        → can_do w y ≡ true → GoesFrom (place_at w t) y
    by_act (act.Word k op) e g can = subst (λ j. GoesFrom (place_at w t) (act.Word j op)) (sym g.0)
        (works op (e ∙ ap (λ j. act.Word j op) g.0) g.1)
    by_act (act.Enter keys) e g can = go_on None (act.Enter keys) (into w t l inductive shape there lt own
        (mutex_move at) same_row (mutex_hears at) (Mutex l at) brief Main keys g.0 can g.1)
    by_act (act.Park k key check want) e g can = go_on None (act.Park k key check want)
        (parked w t l inductive shape there lt own (mutex_move at) same_row (mutex_hears at) (Mutex l at)
        brief
        Main k key check want g.0 g.1 g.2)
    by_act (act.Take key whoms.First) e g can = go_on (first_of (queue_at w key)) (act.Take key whoms.First)
        (took_first w t l inductive shape there lt own (mutex_move at) same_row (mutex_hears at) (Mutex l at)
        brief take_deeds g.1 refl takes_calm (λ who any none_left h. followed who (Took any none_left) h)
        (takes_one g.1) key g.0)
    by_act (act.Remove key) e g can = go_on None (act.Remove key) (left_main w t l inductive shape there lt
        own
        (mutex_move at) same_row (mutex_hears at) (Mutex l at) brief key g.0 g.1)
    by_act (act.Leave keys wakes) e g can = elim g.1 [
      | inl h ↦ go_on None (act.Leave keys wakes) (out_of w t l inductive shape there lt own (mutex_move at)
          same_row (mutex_hears at) (Mutex l at) brief Main keys wakes g.0 h (tries_again h.any h.has_taken))
      | inr h ↦ go_on None (act.Leave keys wakes) (tells_all w t l inductive shape there lt own
          (mutex_move at)
          same_row (mutex_hears at) (Mutex l at) brief keys wakes g.0 h
          (has_it h.any (ap (λ (y : Location). y.has_taken) h.was)))
    ]
    by_act act.Accept e g can = go_on None act.Accept (accepted w t l inductive shape there lt own
        (mutex_move at) same_row (mutex_hears at) (Mutex l at) brief g)
    by_act act.Sleep e g can = absurd cc
    by_act y e g can = absurd g

    -- the thread's deeds are what the place and the reply say
    goes_plainly : can_do w (mutex_act l at) ≡ true → GoesFrom (Mutex l at) (mutex_act l at)
    goes_plainly can = subst (λ q. GoesFrom q (mutex_act l at)) is (by_act (mutex_act l at) refl
        (mutex_acts_move l at timed nothing) can)

  -- the thread's time is up
  pub mutex_goes_late : (m : Line) → mutex_late_line at ≡ Some m → is_free_in w (key_of l m) ≡ true
      → Goes w (state_after_late_under w t (key_of l m)) l (acts t (deeds_of None Late))
  mutex_goes_late m e free = goes_in w t l inductive there own r refl (mutex_move at) same_row
      (mutex_hears at) m
      Late (next_place (place_at w t) Late) (section_there w l shape lt m)
      (none_is (section_at w (key_of l m)) free) (mutex_late_move at m e) (λ h. followed None Late h)

-- ---------------------------------------------------------------- the store of a hand-off

module _ (w : State) (t l : ℕ) (bumps none_left : Bool) (inductive : IsInductive w) (shape : IsWellFormed w)
    (there : t < length w.places)
    (lt : l < length w.locks) where
  -- to nobody
  module _ (is : place_at w t ≡ Mutex l (HandOff bumps (hand_off.Store false none_left))) where
    abbrev at_none : MutexPlace
    at_none = HandOff bumps (hand_off.Store false none_left)

    abbrev now : Site
    now = lock_by w l (rules_in w l)

    bare_now : carried_at (place_at w t) l ≡ None
    bare_now = ap (λ (y : Location). y.has_taken) (own_stance l (place_at w t) at_none is)

    lets_go : locks.handed t Exclusive None now.lock ≡ record now.lock { exclusive = None }
    lets_go = handed_is t (base_at w l) (owners_at w l) (queue_at w (2 * l)) (queue_at w (2 * l + 1))
        (place_at w) l None (subst (λ x. IsLockState x now.lock) (rules_are w t l at_none inductive shape
        there
        lt is) (inductive.sites.site l).state)
        ∙ (λ i. record now.lock { exclusive = None; taken = λ u. none u i })
      where
        none : (u : ℕ) → let_go t (λ v. taken_at (place_at w v) l) u ≡ taken_at (place_at w u) l
        none u = untaken (place_at w u) t l (λ h. let a : carried_at (place_at w t) l ≡ Some false =
            inductive.stands.hands.taken t u l false h in let c : ◌≡◌ {A = Option Bool} None (Some false) =
            sym bare_now ∙ a in cc)

    stores_nobody : GoesFrom w t l at_none inductive shape there lt is (Mutex l at_none) (mutex_act l at_none)
    stores_nobody = subst (λ q. GoesFrom w t l at_none inductive shape there lt is q (mutex_act l at_none)) is
        (on_word w t l at_none inductive shape there lt is (ops.Store 0) refl refl (
          refl,
          refl,
          heirless,
          ap (λ p. taken_at p l) is,
        )
        (record {
          single = (tt, (tt, tt));
          lock = lets_go ∙ sym (ap (λ x. record now.lock { exclusive = x })
              (ap (λ (s : locks.LockState). s.exclusive) lets_go));
          aside = sym (ap (λ x. aside_in x (word_at w l)) (sort_is w t l at_none inductive shape there lt
              is));
        }) refl refl
        (inr (
          true,
          refl,
          befalls_nobody w t l inductive (rw is refl) (next_place (place_at w t)
              (Value (word_at w l))) (state_after_operation w t (Mutex l at_none) l (ops.Store 0))
              (HandedBy t true) refl bare_now,
          ap (λ p. taken_at p l) is,
        )))
      where
        heirless : IsSuccessor now.lock t None
        heirless u x = (
          λ h. absurd cc,
          λ h. absurd (in_no_hand w inductive t l (λ g. let c : ◌≡◌ {A = Option Bool} None (Some false) =
              sym bare_now ∙ g in cc) u x h.0),
        )

  -- to the thread that it has in hand
  module _ (is : place_at w t ≡ Mutex l (HandOff bumps (hand_off.Store true none_left))) where
    abbrev at_one : MutexPlace
    at_one = HandOff bumps (hand_off.Store true none_left)

    abbrev site_now : Site
    site_now = lock_by w l (rules_in w l)

    abbrev store : Op
    store = ops.Store (hand_off_word true none_left)

    abbrev deeds_to : ℕ → List Deed
    deeds_to u = mutex_deeds at_one (Some u) (Value (code (rules_in w l) site_now))

    stores : GoesFrom w t l at_one inductive shape there lt is (Mutex l at_one) (mutex_act l at_one)
    stores = record {
      whom = Some one.0;
      goes = hands_over w t l inductive there lt bumps none_left one.0 is one.1
          (subst (λ x. ActsNeeded x (acts t (deeds_to one.0) ++ claims_of (Some one.0)) (lock_by w l x)) plain
          (follows.needed.0, (follows.needed.1.0, (hands.owner, tt))));
      tells = mutex_steps_tell (rules_in w l) site_now t l at_one (Some one.0) (Value (word_at w l)) at_it
          (subst (λ v. MayReply (rules_in w l) site_now t at_one (Some one.0) (Value v))
          (sym (inductive.sites.word l)) may) (λ x. cc);
      others = inr (
        unshared_then w t l,
        refl,
        delivers w t l inductive (rw is refl)
            (Mutex l (HandOff bumps (hand_off.Leave true))) (state_after_hand_over w t (Mutex l at_one) l
            store)
            (hand_over_told w t l) refl (ap (λ (y : Location). y.has_taken) (own_stance l (place_at w t) at_one
            is)),
        ap (λ p. taken_at p l) is,
      );
      unheld = refl;
    }
      where
        one : (u : ℕ) × (hand_at (place_at w u) l ≡ hand t false)
        one = one_held w t l inductive there at_one is false refl

        plain : rules_in w l ≡ mutex
        plain = rules_are w t l at_one inductive shape there lt is

        at_it : IsAt (rules_in w l) site_now t at_one
        at_it = at_now w t l at_one inductive shape there lt is

        may : MayReply (rules_in w l) site_now t at_one (Some one.0) (Value (code (rules_in w l) site_now))
        may = (refl, refl, hands_to w t l one.0 inductive plain one.1, ap (λ p. taken_at p l) is)

        follows : Follows (rules_in w l) site_now t at_one (Some one.0) (Value (code (rules_in w l) site_now))
        follows = mutex_steps_follow (rules_in w l) site_now t at_one (Some one.0)
            (Value (code (rules_in w l) site_now)) at_it may

        hands : HandsOverToHeir (rules_in w l) site_now t at_one (Some one.0) store
        hands = mutex_hand_overs_code (rules_in w l) site_now t l at_one (Some one.0) store at_it may refl

-- ---------------------------------------------------------------- wherever it stands

pub goes_mutex : (w : State) (t l : ℕ) (at : MutexPlace) (inductive : IsInductive w) (shape : IsWellFormed w)
    (there : t < length w.places) (lt : l < length w.locks)
    (is : place_at w t ≡ Mutex l at) → can_do w (mutex_act l at) ≡ true → GoesFrom w t l at inductive shape
    there
    lt is (Mutex l at) (mutex_act l at)
goes_mutex w t l (HandOff bumps (hand_off.Store true none_left)) inductive shape there lt is can =
    stores w t l bumps none_left inductive shape there lt is
goes_mutex w t l (HandOff bumps (hand_off.Store false none_left)) inductive shape there lt is can =
    stores_nobody w t l bumps none_left inductive shape there lt is
goes_mutex w t l at inductive shape there lt is can = goes_plainly w t l at inductive shape there lt is tt can

-- a thread goes on
module _ (w : State) (t : ℕ) (inductive : IsInductive w) (shape : IsWellFormed w) (there : t
    < length w.places)
  where
    pub gone_kept : AreCounted w → (p : Place) → place_at w t ≡ p → IsSingle p → PlaceFits (length w.locks) p
        → can_do w (act_of p) ≡ true → IsInductive (go_by w t p (act_of p))
    gone_kept counted Idle is single fits can = absurd cc
    gone_kept counted (Condvar l at) is single fits can = absurd single
    gone_kept counted (Once l at) is single fits can = goes_inductive w _ l _ inductive
        (goes_on w t l (Once l at) inductive shape there fits is (booked w t l (Once l at) inductive is tt
        (same l))
        (same l) (once_keeps l at) can).goes
    gone_kept counted (Semaphore l at) is single fits can =
        goes_inductive w _ l _ inductive (goes_on w t l (Semaphore l at) inductive shape there fits is
        (booked w t l (Semaphore l at) inductive is tt (same l)) (same l)
        (semaphore_keeps l at (semaphore_timed w l at (subst (FitsItsLock w) is (inductive.stands.calls t))))
        can).goes
    gone_kept counted (Mutex l at) is single fits can = goes_inductive w _ l _ inductive
        (goes_mutex w t l at inductive shape there fits.0 is can).goes
    gone_kept counted (RwLock l a c) is single fits can =
        (rwlock_goes_on w t l a c inductive shape there fits is counted can).happened.after
