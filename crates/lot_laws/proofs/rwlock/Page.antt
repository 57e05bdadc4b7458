-- The pages of the places of a reader-writer lock: what its laws say of each, as any sort of lock says it.
use Rattle.lot_laws.proofs.Imports
use Imports.{ℕ, true, false, Option, None, ◌≡◌, ◌≢◌, ◌-◌, ◌^◌, ◌<◌, inl, inr, refl, sym}
use Imports.{◌∙◌, ap, subst, Op, Act, Next, Reply, Done, Value, Picked}
use Imports.{Late, outcome_of, IsNotLate, Admission}
use Imports.{Admits, RwLockCallPlace}
use Imports.{HandOver, CallMayBeTold, CallMayHear, CallStands, CallStandsNext, IsInCall}
use Imports.{call_deeds, next_rows, CallMoves, call_hears, call_move}
use Imports.{call_profile, call_act, call_next, fair_acts_move, fair_late_moves, fair_sleepers_move}
use Imports.{fair_sections_tell, fair_steps_tell, fair_steps_code, fair_steps_follow, handed_move}
use Imports.{fair_owners_follow, fair_sections_follow, fair_calls_stand, HasLimit, TellsTrue, code}
use Imports.{Rules, is_recursive, standing, is_closure, IsSite, Site, has_readers, RwLock}
use Imports.{owners_after, rwlock_does, rwlock_goes, shares_after, State, reply_to, runs_closure, word_at}
use Imports.{call_runs_none, locks_of, FitsItsLock, IsInductive, rules_in, acts, words_tell_true}
use Rattle.spec_locks.specs.declared.calls.Patience.TheVariants as patience
use Rattle.steps_base.specs.declared.acts.Act.TheVariants as act
use Rattle.steps_base.specs.declared.acts.Next.TheVariants as next
use Rattle.steps_base.specs.declared.acts.TakeWhich.TheVariants as whom
use Rattle.steps_rwlock.specs.declared.places.RwLockAt.TheVariants as at
use Rattle.steps_rwlock.specs.declared.park.ParkAt.TheVariants as parking
use Rattle.spec_locks.specs.Deeds as laws
use Rattle.spec_locks.specs.Locks as locks
use Rattle.lot_laws.proofs.book.LockStaysASite.{ComesBy, MayCome, Tied}
use Rattle.lot_laws.proofs.book.Page.{Follows, IsThere, Leaves, MovesBy, Page, Says}
use Rattle.lot_laws.proofs.calls.Closures.{closure_told}
use Rattle.lot_laws.proofs.calls.CallEvents.{RunsNothing, begins_nothing, runs_nothing}
use Rattle.lot_laws.proofs.rwlock.CallRows.{call_promises}
use Rattle.lot_laws.proofs.sites.LawsKept.{after_same, aside_read, needed_same, parked_read}
use Rattle.lot_laws.proofs.sites.OneStep.{acts_keep}
use Rattle.lot_laws.proofs.rwlock.RwLockStaysASite.{call_told_done, call_told_late, call_told_other}
use Rattle.lot_laws.proofs.rwlock.RwLockStaysASite.{call_told_value}
use Rattle.lot_laws.proofs.rwlock.RwLockStaysASite.{role_is, role_row, word_few}
use Rattle.lot_laws.proofs.rwlock.Late.{late_row}
use Rattle.lot_laws.proofs.sites.ActsKept.{lock_by}

-- ---------------------------------------------------------------- a page

abbrev pub rwlock_says : Admission → RwLockCallPlace → Says
rwlock_says a c = record {
  row = call_profile a c;
  comes = λ told. next_rows a (call_next a c told);
  deeds = λ who told. call_deeds a c who told;
  hears = call_hears a c;
}

not_late : (told : Reply) → told ≢ Late → IsNotLate told
not_late Late h = absurd (h refl)
not_late told h = tt

moves_so : (r : Rules) (l : ℕ) (a : Admission) (c : RwLockCallPlace) (y : Act) → is_recursive r.sort
    ≡ a.recursive → CallMoves l a.recursive (call_move a c) (call_hears a c) y
    → MovesBy r l (call_move a c) (call_hears a c) y
moves_so r l a c (act.Take key whom.First) same g = inr g
moves_so r l a c (act.Take key whom.All) same g = absurd g
moves_so r l a c (act.Take key (whom.Picked start b)) same g = (g.0, g.1 ∙ sym same, g.2)
moves_so r l a c (act.Park k key check want) same g = inl g
moves_so r l a c (act.Closure state) same g = absurd g
moves_so r l a c (act.HandOver k op) same g = g.0
moves_so r l a c (act.Leave keys wakes) same g = g
moves_so r l a c act.Accept same g = g
moves_so r l a c y same g = g

module _ (r : Rules) (l : ℕ) (a : Admission) (c : RwLockCallPlace) (admits : Admits r a)
    (stands : CallStands a c) where
  in_call : (s : Site) (t : ℕ) → IsThere r s t (call_profile a c) → IsInCall r a s t c
  in_call s t h = record {
    admits = admits;
    site = h.site;
    role = h.role ∙ role_row a c;
    stands = stands;
    there = h.here;
  }

  follows : (s : Site) (t : ℕ) (who : Option ℕ) (told : Reply) → IsThere r s t (call_profile a c)
      → CallMayHear r a s t c who told → Follows r s t (call_move a c) who told
  follows s t who told h hears = let f = fair_sections_follow r a s t c who told (in_call s t h) hears
      in record {
        needed = f.needed;
        role = f.role ∙ role_is a (call_next a c told);
      }

  module _ (s : Site) (t : ℕ) (op : Op) (h : IsThere r s t (call_profile a c)) (out : standing t s.lock ≡ 0)
      (e : call_act l a c ≡ act.Word l op) where
    abbrev then_s : Site
    then_s = laws.after_all r (call_deeds a c None (Value (code r s))) s t

    limits : (r.limit < 2 ^ 60 - 1) × HasLimit r s.lock
    limits = h.limits admits.0

    room : a.limit < 2 ^ 60 - 1
    room = subst (λ n. n < 2 ^ 60 - 1) admits.2 limits.0

    works : Follows r s t (call_move a c) None (Value (code r s))
    works = let f = fair_steps_follow r a s t l c op (in_call s t h) out e in record {
      needed = f.needed;
      role = f.role ∙ role_is a (call_next a c (Value (code r s)));
    }

    -- the word after it tells its bits
    told_then : TellsTrue r then_s
    told_then = words_tell_true r then_s admits.0
        (subst (IsSite r) (after_same r (call_deeds a c None (Value (code r s))) s t)
        (acts_keep r (acts t (call_deeds a c None (Value (code r s)))) s h.site
        (needed_same r (call_deeds a c None (Value (code r s))) s t works.needed)))

    leaves : Leaves r s t (call_move a c) op (owners_after (RwLock l a c)) (shares_after (RwLock l a c))
    leaves = record {
      word = fair_steps_code r a s t l c op (in_call s t h) out e (word_few r s admits.0 h.site limits.0
          limits.1) room limits.1;
      lock = λ o main second taken same. fair_owners_follow r a s t l c op s.lock.shared o main second taken
          (in_call s t h) e room limits.1 same;
      parked = parked_read r.sort (code r then_s) admits.0 ∙ told_then.parked;
      aside = aside_read r.sort (code r then_s) admits.0 ∙ told_then.aside;
    }

  pub rwlock_page : Page r l (rwlock_says a c) (call_act l a c) (owners_after (RwLock l a c))
      (shares_after (RwLock l a c))
  rwlock_page = record {
    many = λ one. let e : false ≡ true = sym (ap has_readers one) ∙ admits.0 in cc;
    plain = λ one. let e : false ≡ true = sym (ap has_readers one) ∙ admits.0 in cc;
    word = λ s t op h out e. (
      works s t op h out e,
      leaves s t op h out e,
      fair_steps_tell r a s t l c op (in_call s t h) out e,
    );
    follows = follows;
    tells = λ s t who told h hears now. fair_sections_tell r a s t l c who told (in_call s t h) hears
        (not_late told now);
    moves = moves_so r l a c (call_act l a c) admits.1 (fair_acts_move l a c stands);
    waits = fair_sleepers_move a c stands;
    given = (handed_move a c stands).was_given;
    late = λ m h. fair_late_moves a c m (sym (late_row a c) ∙ h);
    runs = λ state e. absurd (let none : runs_closure (call_act l a c) ≡ false = call_runs_none l a c
        in let some : runs_closure (call_act l a c) ≡ true = ap runs_closure e in let both : true ≡ false =
        sym some ∙ none in cc);
    promises = call_promises r a l c admits stands;
  }

comes_by : (l : ℕ) (a : Admission) (n : Next RwLockCallPlace) → ComesBy l (next_rows a n) (rwlock_goes l a n)
    (rwlock_does l a n)
comes_by l a (next.At q) = (refl, refl, refl, tt)
comes_by l a (next.End answer) = (refl, refl)

pub rwlock_tied : (w : State) (l : ℕ) (a : Admission) (c : RwLockCallPlace) → IsInductive w
    → FitsItsLock w (RwLock l a c) → Tied w l (RwLock l a c) (rwlock_says a c)
rwlock_tied w l a c inductive fits = record {
  page = rwlock_page (rules_in w l) l a c fits.0 fits.1;
  of = refl;
  called = refl;
  row = refl;
  comes = λ told. comes_by l a (call_next a c told);
  fits = λ told may. by_next (call_next a c told) (fair_calls_stand a c told fits.1 (may_be told may));
  begins = λ t inductive can may. begins_nothing (locks_of w) l (call_profile a c) _ _ runs may
      (tells_none (call_next a c (reply_to w t (call_act l a c))));
}
  where
    by_next : (n : Next RwLockCallPlace) → CallStandsNext a n → FitsItsLock w (rwlock_goes l a n)
    by_next (next.At q) h = (fits.0, h)
    by_next (next.End answer) h = tt

    few : word_at w l < 2 ^ 64
    few = let k = inductive.sites.limits l fits.0.0 in subst (λ v. v < 2 ^ 64) (sym (inductive.sites.word l))
        (word_few (rules_in w l) (lock_by w l (rules_in w l)) fits.0.0 (inductive.sites.site l) k.0.1 k.1)

    may_be : (told : Reply) → MayCome w l (rwlock_says a c) told → CallMayBeTold a c told
    may_be (Value seen) may = call_told_value a c seen (subst (λ v. v < 2 ^ 64) (sym may) few)
    may_be Late may = call_told_late a c may.0 (sym (late_row a c) ∙ may.1)
    may_be Done may = call_told_done a (rules_in w l) (lock_by w l (rules_in w l)) may.0 c may.1 may.2
    may_be told may = call_told_other a c told tt

    runs : RunsNothing ((call_profile a c).purpose l)
    runs = runs_nothing (λ k. (rules_in w k).sort) l ((call_profile a c).purpose l)
        (call_promises (rules_in w l) a l c fits.0 fits.1).own
        ((call_promises (rules_in w l) a l c fits.0 fits.1).known (λ k. (rules_in w k).sort) refl)
        (λ once. let both : false ≡ true = sym (ap has_readers once) ∙ fits.0.0 in cc)

    tells_none : (n : Next RwLockCallPlace) → is_closure (outcome_of (rwlock_does l a n)) ≡ false
    tells_none (next.At q) = closure_told (call_act l a q) ∙ call_runs_none l a q
    tells_none (next.End answer) = refl
