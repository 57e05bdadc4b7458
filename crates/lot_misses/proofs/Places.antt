-- Looks, and the exchanges that go by them, at the places of every sort of lock.
use Rattle.std.proofs.Common.{ℕ, Bool, false, Option, Some, None, ◌==◌, ◌≡◌, ◌⊎◌, inl, inr, refl, sym, ◌∙◌}
use Rattle.std.proofs.Common.{ap, subst}
use Rattle.core_base.specs.declared.ops.Op.TheVariants.{Load}
use Rattle.spec_locks.specs.declared.outcomes.Answer.{Answer}
use Rattle.steps_base.specs.declared.acts.Act.{Act}
use Rattle.steps_base.specs.declared.acts.Act.TheVariants.{Word}
use Rattle.steps_base.specs.declared.acts.Next.{Next}
use Rattle.steps_base.specs.declared.acts.Next.TheVariants.{At, End}
use Rattle.steps_base.specs.declared.acts.Reply.{Reply}
use Rattle.steps_base.specs.declared.acts.Reply.TheVariants.{Value}
use Rattle.steps_base.specs.declared.owners.Owners.{Owners}
use Rattle.steps_mutex.specs.declared.places.MutexPlace.{MutexPlace}
use Rattle.steps_mutex.specs.MutexSteps.{mutex_next}
use Rattle.steps_rwlock_fair.specs.declared.places.RwLockCallPlace.{RwLockCallPlace}
use Rattle.steps_rwlock_fair.specs.FairSteps.{call_next}
use Rattle.steps_once.specs.declared.places.OncePlace.{OncePlace}
use Rattle.steps_once.specs.OnceSteps.{once_next}
use Rattle.steps_condvar.specs.declared.places.CondvarPlace.{CondvarPlace}
use Rattle.steps_condvar.specs.CondvarSteps.{condvar_next}
use Rattle.steps_semaphore.specs.declared.places.SemaphorePlace.{SemaphorePlace}
use Rattle.steps_semaphore.specs.SemaphoreSteps.{semaphore_next}
use Rattle.steps_rwlock.specs.declared.places.Admission.{Admission}
use Rattle.lot_steps.specs.declared.places.Place.{Place}
use Rattle.lot_steps.specs.declared.places.Place.TheVariants.{Idle, Mutex, RwLock, Once, Condvar, Semaphore}
use Rattle.lot_steps.specs.Steps.{act_of, beside_of, called_lock, condvar_does, condvar_goes, in_condvar}
use Rattle.lot_steps.specs.Steps.{in_mutex, in_once, in_rwlock, in_semaphore, is_idle, key_in, late_key}
use Rattle.lot_steps.specs.Steps.{mutex_does, mutex_goes, next_act, next_place, once_does, once_goes}
use Rattle.lot_steps.specs.Steps.{owners_after, profile, profile_at_mutex, rwlock_does, rwlock_goes}
use Rattle.lot_steps.specs.Steps.{semaphore_does, semaphore_goes, shares_after, taker, wants}
use Rattle.lot_machine.proofs.Acted.{Befalls}
use Rattle.lot_misses.specs.Looks.{call_looked, condvar_looked, looked_from, mutex_looked, once_looked}
use Rattle.lot_misses.specs.Looks.{semaphore_looked}
use Rattle.lot_misses.proofs.Condvars.{IsSaneCondvar, condvar_looks_right, condvar_table}
use Rattle.lot_misses.proofs.Mutexes.{mutex_looks_right, mutex_table}
use Rattle.lot_misses.proofs.Onces.{IsSaneOnce, once_looks_right, once_table}
use Rattle.lot_misses.proofs.Rows.{FitsReply, HasLooked, HasLookedBy, HasNotLooked, IsNoValue, IsOfWord}
use Rattle.lot_misses.proofs.Rows.{Looks, LooksRight, Misses, Precedes, SaneThen, Table, exchange_by}
use Rattle.lot_misses.proofs.Rows.{looked_then}
use Rattle.lot_misses.proofs.RwLockCalls.{IsSaneCall, call_looks_right, call_table}
use Rattle.lot_misses.proofs.Semaphores.{IsSaneSemaphore, semaphore_looks_right, semaphore_table}

-- ---------------------------------------------------------------- what is asked of a place

-- a place that threads come to
abbrev pub IsSane : Place → Type 0
IsSane Idle = Unit {0}
IsSane (Mutex l at) = Unit {0}
IsSane (RwLock l a c) = IsSaneCall c
IsSane (Once l at) = IsSaneOnce at
IsSane (Condvar l at) = IsSaneCondvar at
IsSane (Semaphore l at) = IsSaneSemaphore at

-- A look that sees this value leads to an exchange, and has no effect.
pub record IsLook (q : Place) (v : ℕ) : Type 0 where
  pub lock : ℕ
  pub load : act_of q ≡ Word lock Load
  pub again : looked_from (next_place q (Value v)) ≡ Some q
  pub owners : (t : ℕ) (o : Owners) → owners_after q t v o ≡ o
  pub shares : (n : ℕ) → shares_after q v n ≡ None

-- where a thread that has looked misses, it comes to what another look leads to
pub record IsMiss (q p : Place) (v : ℕ) : Type 0 where
  pub next : next_place p (Value v) ≡ next_place q (Value v)
  pub act : next_act p (Value v) ≡ next_act q (Value v)
  pub owners : (t : ℕ) (o : Owners) → owners_after p t v o ≡ owners_after q t v o
  pub shares : (n : ℕ) → shares_after p v n ≡ shares_after q v n

-- a thread at a place has looked from another
pub record GoesByLook (p q : Place) : Type 0 where
  pub lock : ℕ
  pub from : ℕ
  pub to : ℕ
  pub hands : Bool
  pub load : act_of q ≡ Word lock Load
  pub exchange : act_of p ≡ exchange_by hands lock from to
  pub sees : next_place q (Value from) ≡ p
  pub looks : IsLook q from
  pub misses : (v : ℕ) → (v == from) ≡ false → IsMiss q p v
  pub leads : (v : ℕ) → (looked_from (next_place q (Value v)) ≡ None) ⊎ IsLook q v
  pub hits : looked_from (next_place p (Value from)) ≡ None
  pub befallen : (r : Reply) → Befalls r → looked_from (next_place p r) ≡ Some (next_place q r)
  pub unlooked : looked_from q ≡ None
  pub sound : IsSane q
  pub taker : taker p ≡ taker q
  pub wants : wants p ≡ wants q
  pub late : late_key p ≡ None
  pub busy : is_idle p ≡ false
  pub busy_too : is_idle q ≡ false

-- a thread at a place has not
pub record GoesByNoLook (p : Place) : Type 0 where
  pub acts : (v : ℕ) → IsOfWord (act_of p) → (looked_from (next_place p (Value v)) ≡ None) ⊎ IsLook p v
  pub others : (r : Reply) → IsNoValue r → looked_from (next_place p r) ≡ None

abbrev pub GoesBy : Place → Option Place → Type 0
GoesBy p None = GoesByNoLook p
GoesBy p (Some q) = GoesByLook p q

-- ---------------------------------------------------------------- the places of a sort among all

abbrev wrapped : {P : Type 0} → (P → Place) → Option P → Option Place
wrapped f None = None
wrapped f (Some p) = Some (f p)

record Wraps {P : Type 0} (s : Table P) : Type 0 where
  wrap : P → Place
  goes : Next P → Place
  does : Next P → Act
  gone : (p : P) → goes (At p) ≡ wrap p
  ended : (answer : Answer) → goes (End answer) ≡ Idle
  act : (p : P) → act_of (wrap p) ≡ s.act p
  next : (p : P) (r : Reply) → next_place (wrap p) r ≡ goes (s.next p r)
  next_does : (p : P) (r : Reply) → next_act (wrap p) r ≡ does (s.next p r)
  owners : (p : P) (t v : ℕ) (o : Owners) → owners_after (wrap p) t v o ≡ s.owners p t v o
  shares : (p : P) (v n : ℕ) → shares_after (wrap p) v n ≡ s.shares p v n
  looked : (p : P) → looked_from (wrap p) ≡ wrapped wrap (s.looked p)
  row : (p : P) → profile (wrap p) ≡ s.row p
  beside : (p : P) → profile_at_mutex (wrap p) ≡ s.beside p
  busy : (p : P) → is_idle (wrap p) ≡ false

no_key : (o : Option ℕ) → key_in o None ≡ None
no_key None = refl
no_key (Some l) = refl

module _ {P : Type 0} (s : Table P) (w : Wraps s) (so : (p : P) → s.sane p → IsSane (w.wrap p)) where
  looked_goes : (n : Next P) → looked_from (w.goes n) ≡ wrapped w.wrap (looked_then s n)
  looked_goes (At p) = ap looked_from (w.gone p) ∙ w.looked p
  looked_goes (End answer) = ap looked_from (w.ended answer)

  looked_next : (p : P) (r : Reply) → looked_from (next_place (w.wrap p) r)
      ≡ wrapped w.wrap (looked_then s (s.next p r))
  looked_next p r = ap looked_from (w.next p r) ∙ looked_goes (s.next p r)

  is_look : (q : P) (v : ℕ) → Looks s q v → IsLook (w.wrap q) v
  is_look q v h = record {
    lock = h.lock;
    load = w.act q ∙ h.load;
    again = looked_next q (Value v) ∙ ap (wrapped w.wrap) h.again;
    owners = λ t o. w.owners q t v o ∙ h.owners t o;
    shares = λ n. w.shares q v n ∙ h.shares n;
  }

  leads_or : (q : P) (v : ℕ) → (looked_then s (s.next q (Value v)) ≡ None) ⊎ Looks s q v
      → (looked_from (next_place (w.wrap q) (Value v)) ≡ None) ⊎ IsLook (w.wrap q) v
  leads_or q v (inl none) = inl (looked_next q (Value v) ∙ ap (wrapped w.wrap) none)
  leads_or q v (inr h) = inr (is_look q v h)

  is_miss : (q p : P) (v : ℕ) → Misses s q p v → IsMiss (w.wrap q) (w.wrap p) v
  is_miss q p v h = record {
    next = w.next p (Value v) ∙ ap w.goes h.next ∙ sym (w.next q (Value v));
    act = w.next_does p (Value v) ∙ ap w.does h.next ∙ sym (w.next_does q (Value v));
    owners = λ t o. w.owners p t v o ∙ h.owners t o ∙ sym (w.owners q t v o);
    shares = λ n. w.shares p v n ∙ h.shares n ∙ sym (w.shares q v n);
  }

  precedes : (n m : Next P) → Precedes s n m → looked_from (w.goes m) ≡ Some (w.goes n)
  precedes (At q) (At p) h = ap looked_from (w.gone p) ∙ w.looked p ∙ ap (wrapped w.wrap) h
      ∙ ap Some (sym (w.gone q))
  precedes (At q) (End answer) h = absurd h
  precedes (End answer) m h = absurd h

  by_look : (p q : P) → HasLooked s p q → GoesByLook (w.wrap p) (w.wrap q)
  by_look p q h = record {
    lock = h.lock;
    from = h.from;
    to = h.to;
    hands = h.hands;
    load = w.act q ∙ h.load;
    exchange = w.act p ∙ h.exchange;
    sees = w.next q (Value h.from) ∙ ap w.goes h.sees ∙ w.gone p;
    looks = is_look q h.from h.looks;
    misses = λ v other. is_miss q p v (h.misses v other);
    leads = λ v. leads_or q v (h.leads v);
    hits = looked_next p (Value h.from) ∙ ap (wrapped w.wrap) h.hits;
    befallen = λ r b. ap looked_from (w.next p r) ∙ precedes (s.next q r) (s.next p r) (h.befallen r b)
        ∙ ap Some (sym (w.next q r));
    unlooked = w.looked q ∙ ap (wrapped w.wrap) h.unlooked;
    sound = so q h.sound;
    taker = rw (w.row p, w.row q, w.beside p, w.beside q, h.alike.hand, h.alike_beside.hand) refl;
    wants = rw (w.row p, w.row q, w.beside p, w.beside q, h.alike.wants, h.alike_beside.wants) refl;
    late = rw (
      w.row p,
      w.beside p,
      h.alike.late,
      h.alike_beside.late,
      no_key (beside_of (w.wrap p)),
      no_key
          (called_lock (w.wrap p)),
    ) refl;
    busy = w.busy p;
    busy_too = w.busy q;
  }

  by_no_look : (p : P) → HasNotLooked s p → GoesByNoLook (w.wrap p)
  by_no_look p h = record {
    acts = λ v of. leads_or p v (h.acts v (subst IsOfWord (w.act p) of));
    others = λ r b. looked_next p r ∙ ap (wrapped w.wrap) (h.others r b);
  }

  goes_by : (p : P) → LooksRight s → s.sane p → GoesBy (w.wrap p) (looked_from (w.wrap p))
  goes_by p right sane = subst (GoesBy (w.wrap p)) (sym (w.looked p))
      (by_place (s.looked p) (right.place p sane))
    where
      by_place : (o : Option P) → HasLookedBy s p o → GoesBy (w.wrap p) (wrapped w.wrap o)
      by_place None h = by_no_look p h
      by_place (Some q) h = by_look p q h

  sane_goes : (n : Next P) → SaneThen s n → IsSane (w.goes n)
  sane_goes (At p) sane = subst IsSane (sym (w.gone p)) (so p sane)
  sane_goes (End answer) sane = subst IsSane (sym (w.ended answer)) tt

wraps_mutex : (l : ℕ) → Wraps (mutex_table l)
wraps_mutex l = record {
  wrap = Mutex l;
  goes = mutex_goes l;
  does = mutex_does l;
  gone = λ p. refl;
  ended = λ answer. refl;
  act = λ p. refl;
  next = λ p r. refl;
  next_does = λ p r. refl;
  owners = λ p t v o. refl;
  shares = λ p v n. refl;
  looked = λ p. in_place (mutex_looked p);
  row = λ p. refl;
  beside = λ p. refl;
  busy = λ p. refl;
}
  where
    in_place : (o : Option MutexPlace) → in_mutex l o ≡ wrapped (Mutex l) o
    in_place None = refl
    in_place (Some p) = refl

wraps_rwlock : (l : ℕ) (a : Admission) → Wraps (call_table l a)
wraps_rwlock l a = record {
  wrap = RwLock l a;
  goes = rwlock_goes l a;
  does = rwlock_does l a;
  gone = λ p. refl;
  ended = λ answer. refl;
  act = λ p. refl;
  next = λ p r. refl;
  next_does = λ p r. refl;
  owners = λ p t v o. refl;
  shares = λ p v n. refl;
  looked = λ p. in_place (call_looked a p);
  row = λ p. refl;
  beside = λ p. refl;
  busy = λ p. refl;
}
  where
    in_place : (o : Option RwLockCallPlace) → in_rwlock l a o ≡ wrapped (RwLock l a) o
    in_place None = refl
    in_place (Some p) = refl

wraps_once : (l : ℕ) → Wraps (once_table l)
wraps_once l = record {
  wrap = Once l;
  goes = once_goes l;
  does = once_does l;
  gone = λ p. refl;
  ended = λ answer. refl;
  act = λ p. refl;
  next = λ p r. refl;
  next_does = λ p r. refl;
  owners = λ p t v o. refl;
  shares = λ p v n. refl;
  looked = λ p. in_place (once_looked p);
  row = λ p. refl;
  beside = λ p. refl;
  busy = λ p. refl;
}
  where
    in_place : (o : Option OncePlace) → in_once l o ≡ wrapped (Once l) o
    in_place None = refl
    in_place (Some p) = refl

wraps_condvar : (l : ℕ) → Wraps (condvar_table l)
wraps_condvar l = record {
  wrap = Condvar l;
  goes = condvar_goes l;
  does = condvar_does l;
  gone = λ p. refl;
  ended = λ answer. refl;
  act = λ p. refl;
  next = λ p r. refl;
  next_does = λ p r. refl;
  owners = λ p t v o. refl;
  shares = λ p v n. refl;
  looked = λ p. in_place (condvar_looked p);
  row = λ p. refl;
  beside = λ p. refl;
  busy = λ p. refl;
}
  where
    in_place : (o : Option CondvarPlace) → in_condvar l o ≡ wrapped (Condvar l) o
    in_place None = refl
    in_place (Some p) = refl

wraps_semaphore : (l : ℕ) → Wraps (semaphore_table l)
wraps_semaphore l = record {
  wrap = Semaphore l;
  goes = semaphore_goes l;
  does = semaphore_does l;
  gone = λ p. refl;
  ended = λ answer. refl;
  act = λ p. refl;
  next = λ p r. refl;
  next_does = λ p r. refl;
  owners = λ p t v o. refl;
  shares = λ p v n. refl;
  looked = λ p. in_place (semaphore_looked p);
  row = λ p. refl;
  beside = λ p. refl;
  busy = λ p. refl;
}
  where
    in_place : (o : Option SemaphorePlace) → in_semaphore l o ≡ wrapped (Semaphore l) o
    in_place None = refl
    in_place (Some p) = refl

-- ---------------------------------------------------------------- every place

-- a reader-writer lock tells a word of 64 bits
abbrev pub Tells : Place → Reply → Type 0
Tells (RwLock l a c) r = FitsReply (call_table l a) r
Tells p r = Unit {0}

idle_goes : GoesByNoLook Idle
idle_goes = record { acts = λ v of. absurd of; others = λ r b. refl }

pub goes_so : (p : Place) → IsSane p → GoesBy p (looked_from p)
unfolding wraps_mutex wraps_rwlock wraps_once wraps_condvar wraps_semaphore
goes_so Idle sane = idle_goes
goes_so (Mutex l at) sane = goes_by (mutex_table l) (wraps_mutex l) (λ p h. tt) at (mutex_looks_right l) tt
goes_so (RwLock l a c) sane = goes_by (call_table l a) (wraps_rwlock l a) (λ p h. h) c (call_looks_right l a)
    sane
goes_so (Once l at) sane = goes_by (once_table l) (wraps_once l) (λ p h. h) at (once_looks_right l) sane
goes_so (Condvar l at) sane = goes_by (condvar_table l) (wraps_condvar l) (λ p h. h) at
    (condvar_looks_right l) sane
goes_so (Semaphore l at) sane = goes_by (semaphore_table l) (wraps_semaphore l) (λ p h. h) at
    (semaphore_looks_right l) sane

any_fits : {P : Type 0} (s : Table P) → ((v : ℕ) → s.fits v) → (r : Reply) → FitsReply s r
any_fits s any (Value v) = any v
any_fits s any r = tt

pub stays_sane : (p : Place) (r : Reply) → Tells p r → IsSane p → IsSane (next_place p r)
unfolding wraps_mutex wraps_rwlock wraps_once wraps_condvar wraps_semaphore
stays_sane Idle r fits sane = tt
stays_sane (Mutex l at) r fits sane =
    sane_goes (mutex_table l) (wraps_mutex l) (λ p h. tt) (mutex_next at r)
    ((mutex_looks_right l).keeps at r (any_fits (mutex_table l) (λ v. tt) r) tt)
stays_sane (RwLock l a c) r fits sane =
    sane_goes (call_table l a) (wraps_rwlock l a) (λ p h. h) (call_next a c r)
    ((call_looks_right l a).keeps c r fits sane)
stays_sane (Once l at) r fits sane =
    sane_goes (once_table l) (wraps_once l) (λ p h. h) (once_next at r)
    ((once_looks_right l).keeps at r (any_fits (once_table l) (λ v. tt) r) sane)
stays_sane (Condvar l at) r fits sane =
    sane_goes (condvar_table l) (wraps_condvar l) (λ p h. h) (condvar_next at r)
    ((condvar_looks_right l).keeps at r (any_fits (condvar_table l) (λ v. tt) r) sane)
stays_sane (Semaphore l at) r fits sane =
    sane_goes (semaphore_table l) (wraps_semaphore l) (λ p h. h) (semaphore_next at r)
    ((semaphore_looks_right l).keeps at r (any_fits (semaphore_table l) (λ v. tt) r) sane)
