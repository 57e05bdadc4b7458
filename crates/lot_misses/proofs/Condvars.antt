-- Looks of a notification at the mutex beside, and those of a wait that locks its mutex again.
use Rattle.std.proofs.Common.{ℕ, arith, Bool, true, false, Option, Some, None, if◌then◌else◌, ◌==◌, ◌&&◌}
use Rattle.std.proofs.Common.{◌||◌, nat_lt, ◌≡◌, ◌⊎◌, inl, inr, not, refl, ◌∙◌, ap}
use Rattle.std.proofs.lemmas.Bool.Decides.{nat_tests}
use Rattle.core_base.specs.declared.notes.Note.TheVariants as note
use Rattle.steps_base.specs.declared.acts.Next.{Next}
use Rattle.steps_base.specs.declared.acts.Next.TheVariants.{At, End}
use Rattle.steps_base.specs.declared.acts.Reply.{Reply}
use Rattle.steps_base.specs.declared.acts.Reply.TheVariants.{Done, Value, Took, Requeued, Removed, TakenBy}
use Rattle.steps_base.specs.declared.acts.Reply.TheVariants.{MovedTo, HandedBy, Late, Woken}
use Rattle.steps_mutex.specs.declared.places.MutexPlace.{MutexPlace}
use Rattle.steps_mutex.specs.MutexSteps.{is_locked, mutex_next}
use Rattle.steps_condvar.specs.declared.notify.NotifyAt.{NotifyAt}
use Rattle.steps_condvar.specs.declared.notify.NotifyAt.TheVariants as notify
use Rattle.steps_condvar.specs.declared.wait.WaiterFate.{WaiterFate}
use Rattle.steps_condvar.specs.declared.wait.WaiterFate.TheVariants as stands
use Rattle.steps_condvar.specs.declared.wait.WaitAt.{WaitAt}
use Rattle.steps_condvar.specs.declared.wait.WaitAt.TheVariants as wait
use Rattle.steps_condvar.specs.declared.places.CondvarPlace.{CondvarPlace}
use Rattle.steps_condvar.specs.declared.places.CondvarPlace.TheVariants.{Wait, Look, Notify}
use Rattle.steps_condvar.specs.CondvarSteps.{past_release, comes_from_another, condvar_act, condvar_next}
use Rattle.steps_condvar.specs.CondvarSteps.{condvar_owners, in_lock, in_notify, in_wait, is_shown}
use Rattle.steps_condvar.specs.CondvarSteps.{late_place, marks, moved_one, mutex_shown, notified, released}
use Rattle.steps_condvar.specs.CondvarSteps.{relocked, stands_after}
use Rattle.steps_condvar.specs.CondvarProfiles.{condvar_profile, mutex_side, wants_at_mutex, wants_at_condvar}
use Rattle.lot_machine.proofs.Acted.{Befalls}
use Rattle.lot_misses.specs.Looks.{condvar_looked, mutex_looked}
use Rattle.lot_misses.proofs.Mutexes.{mutex_looks_right, mutex_table}
use Rattle.lot_misses.proofs.Rows.{HasLooked, HasLookedBy, HasNotLooked, IsNoValue, Looks, LooksRight}
use Rattle.lot_misses.proofs.Rows.{Precedes, SaneThen, Table, looked_then, never}

-- a notification is about to set the bit of a mutex only where it saw an owner
abbrev pub IsSaneCondvar : CondvarPlace → Type 0
IsSaneCondvar (Notify all m (notify.Set seen)) = is_locked seen ≡ true
IsSaneCondvar p = Unit {0}

abbrev pub condvar_table : ℕ → Table CondvarPlace
condvar_table l = record {
  act = condvar_act l;
  next = condvar_next;
  owners = condvar_owners;
  shares = λ p v n. None;
  looked = condvar_looked;
  sane = IsSaneCondvar;
  fits = λ v. Unit {0};
  row = condvar_profile;
  beside = mutex_side;
}

module _ (l : ℕ) where
  abbrev Then : Next CondvarPlace → Option CondvarPlace
  Then n = looked_then (condvar_table l) n

  -- ---------------------------------------------------------------- a wait that locks its mutex again

  module _ (m : ℕ) (timed late : Bool) where
    abbrev on : MutexPlace → CondvarPlace
    on at = Wait m timed (wait.Lock late at)

    inner_then : (n : Next MutexPlace) → Then (in_wait m timed (relocked timed late n)) ≡ in_lock m timed late
        (looked_then (mutex_table m) n)
    inner_then (At at) = refl
    inner_then (End answer) = refl

    looks_so : (q : MutexPlace) (v : ℕ) → Looks (mutex_table m) q v → Looks (condvar_table l) (on q) v
    looks_so q v h = record {
      lock = h.lock;
      load = h.load;
      again = inner_then (mutex_next q (Value v)) ∙ ap (in_lock m timed late) h.again;
      owners = λ t o. h.owners t o;
      shares = λ n. refl;
    }

    leads_so : (q : MutexPlace) (v : ℕ) → (looked_then (mutex_table m) (mutex_next q (Value v)) ≡ None)
        ⊎ Looks (mutex_table m) q v
        → (Then (condvar_next (on q) (Value v)) ≡ None) ⊎ Looks (condvar_table l) (on q) v
    leads_so q v (inl none) = inl (inner_then (mutex_next q (Value v)) ∙ ap (in_lock m timed late) none)
    leads_so q v (inr h) = inr (looks_so q v h)

    precedes_so : (n k : Next MutexPlace) → Precedes (mutex_table m) n k
        → Precedes (condvar_table l) (in_wait m timed (relocked timed late n))
        (in_wait m timed (relocked timed late k))
    precedes_so (At q) (At p) h = ap (in_lock m timed late) h
    precedes_so (At q) (End answer) h = absurd h
    precedes_so (End answer) k h = absurd h

    relocks : (p q : MutexPlace) → HasLooked (mutex_table m) p q → HasLooked (condvar_table l) (on p) (on q)
    relocks p q h = record {
      lock = h.lock;
      from = h.from;
      to = h.to;
      hands = h.hands;
      load = h.load;
      exchange = h.exchange;
      sees = ap (λ n. in_wait m timed (relocked timed late n)) h.sees;
      looks = looks_so q h.from h.looks;
      misses = λ v other. record {
        next = ap (λ n. in_wait m timed (relocked timed late n)) (h.misses v other).next;
        owners = λ t o. (h.misses v other).owners t o;
        shares = λ n. refl;
      };
      leads = λ v. leads_so q v (h.leads v);
      hits = inner_then (mutex_next p (Value h.from)) ∙ ap (in_lock m timed late) h.hits;
      befallen = λ r b. precedes_so (mutex_next q r) (mutex_next p r) (h.befallen r b);
      unlooked = ap (in_lock m timed late) h.unlooked;
      sound = tt;
      alike = record { hand = refl; wants = ap wants_at_condvar h.alike.wants; late = refl; late_too = refl };
      alike_beside = record {
        hand = h.alike.hand;
        wants = ap wants_at_mutex h.alike.wants;
        late = refl;
        late_too = refl;
      };
    }

    locks_on : (p : MutexPlace) → HasNotLooked (mutex_table m) p → HasNotLooked (condvar_table l) (on p)
    locks_on p h = record {
      acts = λ v of. leads_so p v (h.acts v of);
      others = λ r b. inner_then (mutex_next p r) ∙ ap (in_lock m timed late) (h.others r b);
    }

    locks : (p : MutexPlace) → HasLookedBy (condvar_table l) (on p) (in_lock m timed late (mutex_looked p))
    locks p = by_place (mutex_looked p) ((mutex_looks_right m).place p tt)
      where
        by_place : (o : Option MutexPlace) → HasLookedBy (mutex_table m) p o
            → HasLookedBy (condvar_table l) (on p) (in_lock m timed late o)
        by_place None h = locks_on p h
        by_place (Some q) h = relocks p q h

  -- ---------------------------------------------------------------- a wait before that

  module _ (m : ℕ) (timed : Bool) where
    afterwards : (s : WaiterFate) → condvar_looked (Wait m timed (past_release s)) ≡ None
    afterwards (stands.Noted note.Normal) = refl
    afterwards (stands.Noted note.HandOff) = refl
    afterwards s = refl

    released_then : (s : WaiterFate) (n : Next MutexPlace) → condvar_looked (Wait m timed (released s n))
        ≡ None
    released_then s (At at) = refl
    released_then s (End answer) = afterwards s

    releases : (s : WaiterFate) (at : MutexPlace) (r : Reply)
        → Then (condvar_next (Wait m timed (wait.Release s at)) r) ≡ None
    releases s at r = by_reply (comes_from_another r)
      where
        by_reply : (b : Bool)
            → condvar_looked (Wait m timed (if b then wait.Release (stands_after s r) at
            else released s (mutex_next at r))) ≡ None
        by_reply true = refl
        by_reply false = released_then s (mutex_next at r)

    late_then : (s : WaiterFate) → condvar_looked (Wait m timed (late_place s)) ≡ None
    late_then stands.Listed = refl
    late_then stands.Moved = refl
    late_then s = refl

    asleep : (s : WaiterFate) (r : Reply) → Then (condvar_next (Wait m timed (wait.Asleep s)) r) ≡ None
    asleep s Late = late_then s
    asleep s r = afterwards (stands_after s r)

    shows : (r : Reply) → Then (condvar_next (Wait m timed wait.Show) r) ≡ None
    shows (Value v) = either ((v == 0) || is_shown v m)
      where
        either : (b : Bool) → Then (in_wait m timed (if b then At wait.Stand else At wait.Refuse)) ≡ None
        either true = refl
        either false = refl
    shows r = refl

    removes : (r : Reply) → Then (condvar_next (Wait m timed wait.Remove) r) ≡ None
    removes (Removed true) = refl
    removes (Removed false) = refl
    removes r = refl

    enters : (r : Reply) → Then (condvar_next (Wait m timed wait.Enter) r) ≡ None
    enters Done = refl
    enters r = refl

    stood : (r : Reply) → Then (condvar_next (Wait m timed wait.Stand) r) ≡ None
    stood Done = refl
    stood r = refl

    leaves : (r : Reply) → Then (condvar_next (Wait m timed wait.Leave) r) ≡ None
    leaves Done = refl
    leaves r = refl

    refuses : (r : Reply) → Then (condvar_next (Wait m timed wait.Refuse) r) ≡ None
    refuses Done = refl
    refuses r = refl

    hides : (r : Reply) → Then (condvar_next (Wait m timed wait.Hide) r) ≡ None
    hides (Value v) = refl
    hides r = refl

    gives_up : (r : Reply) → Then (condvar_next (Wait m timed wait.GiveUp) r) ≡ None
    gives_up Done = refl
    gives_up r = refl

    removes_moved : (r : Reply) → Then (condvar_next (Wait m timed wait.RemoveMoved) r) ≡ None
    removes_moved (Removed none_left) = refl
    removes_moved r = refl

    gives_up_moved : (none_left : Bool) (r : Reply)
        → Then (condvar_next (Wait m timed (wait.GiveUpMoved none_left)) r) ≡ None
    gives_up_moved none_left Done = refl
    gives_up_moved none_left r = refl

    waits : (at : WaitAt) → HasLookedBy (condvar_table l) (Wait m timed at) (condvar_looked (Wait m timed at))
    waits wait.Enter = never (condvar_table l) (Wait m timed wait.Enter) enters
    waits wait.Show = never (condvar_table l) (Wait m timed wait.Show) shows
    waits wait.Stand = never (condvar_table l) (Wait m timed wait.Stand) stood
    waits wait.Leave = never (condvar_table l) (Wait m timed wait.Leave) leaves
    waits wait.Refuse = never (condvar_table l) (Wait m timed wait.Refuse) refuses
    waits (wait.Release s at) = never (condvar_table l) (Wait m timed (wait.Release s at)) (releases s at)
    waits (wait.Asleep s) = never (condvar_table l) (Wait m timed (wait.Asleep s)) (asleep s)
    waits wait.Remove = never (condvar_table l) (Wait m timed wait.Remove) removes
    waits wait.Hide = never (condvar_table l) (Wait m timed wait.Hide) hides
    waits wait.GiveUp = never (condvar_table l) (Wait m timed wait.GiveUp) gives_up
    waits wait.RemoveMoved = never (condvar_table l) (Wait m timed wait.RemoveMoved) removes_moved
    waits (wait.GiveUpMoved none_left) = never (condvar_table l) (Wait m timed (wait.GiveUpMoved none_left))
        (gives_up_moved none_left)
    waits (wait.Lock late at) = locks m timed late at

  -- ---------------------------------------------------------------- a notification

  looks_first : (all : Bool) (r : Reply) → Then (condvar_next (Look all) r) ≡ None
  looks_first all (Value v) = either (v == 0)
    where
      either : (b : Bool) → Then (if b then End (notified all 0)
          else At (Notify all (mutex_shown v) notify.Enter)) ≡ None
      either true = refl
      either false = refl
  looks_first all r = refl

  module _ (all : Bool) (m : ℕ) where
    marks_then : (v : ℕ) → (Then (in_notify all m (At (marks v))) ≡ None) ⊎ Looks (condvar_table l)
        (Notify all m notify.Mark) v
    marks_then v = by_word (is_locked v) refl
      where
        by_word : (b : Bool) → is_locked v ≡ b → (Then (in_notify all m (At (marks v))) ≡ None)
            ⊎ Looks (condvar_table l) (Notify all m notify.Mark) v
        by_word true f = inr (record {
          lock = m;
          load = refl;
          again = rw f refl;
          owners = λ t o. refl;
          shares
              = λ n. refl;
        })
        by_word false f = inl (rw f refl)

    set_befell : (seen : ℕ) (r : Reply) → Befalls r
        → Precedes (condvar_table l) (condvar_next (Notify all m notify.Mark) r)
        (condvar_next (Notify all m (notify.Set seen)) r)
    set_befell seen (TakenBy t) h = refl
    set_befell seen (MovedTo key) h = refl
    set_befell seen (HandedBy t alone) h = refl
    set_befell seen (Woken n) h = refl
    set_befell seen r h = absurd h

    bit_pending : (seen : ℕ) → is_locked seen ≡ true → HasLooked (condvar_table l) (Notify all m (notify.Set seen))
        (Notify all m notify.Mark)
    bit_pending seen f = record {
      lock = m;
      from = seen;
      to = 3;
      hands = false;
      load = refl;
      exchange = refl;
      sees = rw f refl;
      looks = record { lock = m; load = refl; again = rw f refl; owners = λ t o. refl; shares = λ n. refl };
      misses = λ v other. record { next = rw other refl; owners = λ t o. refl; shares = λ n. refl };
      leads = marks_then;
      hits = let same : (seen == seen) ≡ true = grind (arith, nat_tests) in rw same refl;
      befallen = set_befell seen;
      unlooked = refl;
      sound = tt;
      alike = record { hand = refl; wants = refl; late = refl; late_too = refl };
      alike_beside = record { hand = refl; wants = refl; late = refl; late_too = refl };
    }

    marked : (r : Reply) → IsNoValue r → Then (condvar_next (Notify all m notify.Mark) r) ≡ None
    marked (Value v) h = absurd h
    marked r h = refl

    enters_both : (r : Reply) → Then (condvar_next (Notify all m notify.Enter) r) ≡ None
    enters_both Done = refl
    enters_both r = refl

    looks_again : (r : Reply) → Then (condvar_next (Notify all m notify.Again) r) ≡ None
    looks_again (Value v) = by_tests (is_shown v m) all
      where
        by_tests : (b c : Bool)
            → Then (in_notify all m (At (if not b then notify.Leave false 0 else if c then notify.Hide
            else notify.Mark))) ≡ None
        by_tests false c = refl
        by_tests true true = refl
        by_tests true false = refl
    looks_again r = refl

    hides_it : (r : Reply) → Then (condvar_next (Notify all m notify.Hide) r) ≡ None
    hides_it (Value v) = refl
    hides_it r = refl

    one_then : (any none_left : Bool) → condvar_looked (Notify all m (moved_one any none_left)) ≡ None
    one_then any true = refl
    one_then any false = refl

    moves : (locked : Bool) (r : Reply) → Then (condvar_next (Notify all m (notify.Move locked)) r) ≡ None
    moves locked (Took any none_left) = one_then any none_left
    moves locked (Requeued number none_left) = by_tests all (not locked && nat_lt 1 number)
      where
        by_tests : (b c : Bool)
            → Then (in_notify all m
            (if b then At (if c then notify.MarkMoved number else notify.Leave (not locked) number)
            else At (moved_one false none_left))) ≡ None
        by_tests true true = refl
        by_tests true false = refl
        by_tests false c = one_then false none_left
    moves locked r = refl

    clears : (any : Bool) (r : Reply) → Then (condvar_next (Notify all m (notify.Clear any)) r) ≡ None
    clears any (Value v) = refl
    clears any r = refl

    marks_moved : (number : ℕ) (r : Reply) → Then (condvar_next (Notify all m (notify.MarkMoved number)) r)
        ≡ None
    marks_moved number (Value v) = refl
    marks_moved number r = refl

    leaves_both : (any : Bool) (number : ℕ) (r : Reply)
        → Then (condvar_next (Notify all m (notify.Leave any number)) r) ≡ None
    leaves_both any number Done = refl
    leaves_both any number r = refl

    notifies : (at : NotifyAt) → IsSaneCondvar (Notify all m at)
        → HasLookedBy (condvar_table l) (Notify all m at) (condvar_looked (Notify all m at))
    notifies notify.Enter sane = never (condvar_table l) (Notify all m notify.Enter) enters_both
    notifies notify.Again sane = never (condvar_table l) (Notify all m notify.Again) looks_again
    notifies notify.Hide sane = never (condvar_table l) (Notify all m notify.Hide) hides_it
    notifies notify.Mark sane = record { acts = λ v of. marks_then v; others = marked }
    notifies (notify.Set seen) sane = bit_pending seen sane
    notifies (notify.Move locked) sane = never (condvar_table l) (Notify all m (notify.Move locked))
        (moves locked)
    notifies (notify.Clear any) sane = never (condvar_table l) (Notify all m (notify.Clear any)) (clears any)
    notifies (notify.MarkMoved number) sane = never (condvar_table l) (Notify all m (notify.MarkMoved number))
        (marks_moved number)
    notifies (notify.Leave any number) sane = never (condvar_table l) (Notify all m (notify.Leave any number))
        (leaves_both any number)

  place : (p : CondvarPlace) → IsSaneCondvar p → HasLookedBy (condvar_table l) p (condvar_looked p)
  place (Wait m timed at) sane = waits m timed at
  place (Look all) sane = never (condvar_table l) (Look all) (looks_first all)
  place (Notify all m at) sane = notifies all m at sane

  -- ---------------------------------------------------------------- notifications stay sane

  wait_sane : (m : ℕ) (timed : Bool) (n : Next WaitAt) → SaneThen (condvar_table l) (in_wait m timed n)
  wait_sane m timed (At at) = tt
  wait_sane m timed (End answer) = tt

  look_sane : (all : Bool) (r : Reply) → SaneThen (condvar_table l) (condvar_next (Look all) r)
  look_sane all (Value v) = either (v == 0)
    where
      either : (b : Bool) → SaneThen (condvar_table l) (if b then End (notified all 0)
          else At (Notify all (mutex_shown v) notify.Enter))
      either true = tt
      either false = tt
  look_sane all r = tt

  module _ (all : Bool) (m : ℕ) where
    marks_sane : (v : ℕ) → IsSaneCondvar (Notify all m (marks v))
    marks_sane v = by_word (is_locked v) refl
      where
        by_word : (b : Bool) → is_locked v ≡ b
            → IsSaneCondvar (Notify all m (if b then notify.Set v else notify.Move false))
        by_word true f = f
        by_word false f = tt

    one_sane : (any none_left : Bool) → IsSaneCondvar (Notify all m (moved_one any none_left))
    one_sane any true = tt
    one_sane any false = tt

    notify_sane : (at : NotifyAt) (r : Reply) → IsSaneCondvar (Notify all m at)
        → SaneThen (condvar_table l) (condvar_next (Notify all m at) r)
    notify_sane notify.Enter Done sane = tt
    notify_sane notify.Again (Value v) sane = by_tests (is_shown v m) all
      where
        by_tests : (b c : Bool)
            → SaneThen (condvar_table l)
            (in_notify all m (At (if not b then notify.Leave false 0 else if c then notify.Hide
            else notify.Mark)))
        by_tests false c = tt
        by_tests true true = tt
        by_tests true false = tt
    notify_sane notify.Hide (Value v) sane = tt
    notify_sane notify.Mark (Value v) sane = marks_sane v
    notify_sane (notify.Set seen) (Value v) sane = either (v == seen)
      where
        either : (b : Bool) → SaneThen (condvar_table l)
            (in_notify all m (if b then At (notify.Move true) else At (marks v)))
        either true = tt
        either false = marks_sane v
    notify_sane (notify.Move locked) (Took any none_left) sane = one_sane any none_left
    notify_sane (notify.Move locked) (Requeued number none_left) sane = by_tests all
        (not locked && nat_lt 1 number)
      where
        by_tests : (b c : Bool)
            → SaneThen (condvar_table l)
            (in_notify all m (if b then At (if c then notify.MarkMoved number else notify.Leave
            (not locked) number) else At (moved_one false none_left)))
        by_tests true true = tt
        by_tests true false = tt
        by_tests false c = one_sane false none_left
    notify_sane (notify.Clear any) (Value v) sane = tt
    notify_sane (notify.MarkMoved number) (Value v) sane = tt
    notify_sane (notify.Leave any number) Done sane = tt
    notify_sane at r sane = sane

  keeps : (p : CondvarPlace) (r : Reply) → IsSaneCondvar p → SaneThen (condvar_table l) (condvar_next p r)
  keeps (Wait m timed at) r sane = wait_sane m timed _
  keeps (Look all) r sane = look_sane all r
  keeps (Notify all m at) r sane = notify_sane all m at r sane

  pub condvar_looks_right : LooksRight (condvar_table l)
  condvar_looks_right = record { place = place; keeps = λ p r fits sane. keeps p r sane }
