-- Looks of each call of a reader-writer lock: a bump enters as any entering call does, and a fair release
-- looks at the waiters that it lets in.
use Rattle.std.proofs.Common.{ℕ, arith, Bool, true, false, Option, Some, None, if◌then◌else◌, ◌==◌, ◌^◌, ◌<◌}
use Rattle.std.proofs.Common.{◌≡◌, ◌⊎◌, inl, inr, refl, sym, ◌∙◌, ap, subst}
use Rattle.std.proofs.lemmas.Bool.Decides.{nat_tests}
use Rattle.core_base.specs.declared.notes.Note.TheVariants as note
use Rattle.spec_locks.specs.declared.calls.Access.{Access}
use Rattle.spec_locks.specs.declared.calls.Access.TheVariants as access
use Rattle.spec_locks.specs.declared.calls.Patience.{Patience}
use Rattle.spec_locks.specs.declared.outcomes.Answer.{Answer}
use Rattle.spec_locks.specs.declared.outcomes.Answer.TheVariants as answer
use Rattle.spec_locks.specs.Codes.{has_aside, has_parked}
use Rattle.steps_base.specs.declared.acts.Next.{Next}
use Rattle.steps_base.specs.declared.acts.Next.TheVariants.{At, End}
use Rattle.steps_base.specs.declared.acts.Reply.{Reply}
use Rattle.steps_base.specs.declared.acts.Reply.TheVariants.{Done, Value, Picked, TakenBy, MovedTo, HandedBy}
use Rattle.steps_base.specs.declared.acts.Reply.TheVariants.{Woken}
use Rattle.steps_base.specs.declared.owners.Owners.{Owners}
use Rattle.steps_base.specs.Profiles.{blank_row}
use Rattle.steps_rwlock.specs.declared.places.Admission.{Admission}
use Rattle.steps_rwlock.specs.declared.places.RwLockPlace.{RwLockPlace}
use Rattle.steps_rwlock.specs.declared.places.RwLockAt.{RwLockAt}
use Rattle.steps_rwlock.specs.declared.places.RwLockAt.TheVariants as at
use Rattle.steps_rwlock.specs.declared.purposes.RwLockPurpose.{RwLockPurpose}
use Rattle.steps_rwlock.specs.declared.purposes.RwLockPurpose.TheVariants as purpose
use Rattle.steps_rwlock.specs.declared.park.ParkAt.TheVariants as parking
use Rattle.steps_rwlock.specs.declared.enter.Decision.{Decision}
use Rattle.steps_rwlock.specs.declared.enter.Decision.TheVariants as decisions
use Rattle.steps_rwlock.specs.RwLockSteps.{decided, rwlock_act, rwlock_next, rwlock_owners, rwlock_shares}
use Rattle.steps_rwlock.specs.RwLockProfiles.{gone_to, rwlock_profile}
use Rattle.steps_rwlock_fair.specs.declared.hand_over.HandOverAt.{HandOverAt}
use Rattle.steps_rwlock_fair.specs.declared.hand_over.HandOverAt.TheVariants as handing
use Rattle.steps_rwlock_fair.specs.declared.hand_over.Taken.{Taken}
use Rattle.steps_rwlock_fair.specs.declared.handed.HandedAt.{HandedAt}
use Rattle.steps_rwlock_fair.specs.declared.handed.HandedAt.TheVariants as handed
use Rattle.steps_rwlock_fair.specs.declared.places.RwLockCallPlace.{RwLockCallPlace}
use Rattle.steps_rwlock_fair.specs.declared.places.RwLockCallPlace.TheVariants.{Plain, Bump, PeekQueue}
use Rattle.steps_rwlock_fair.specs.declared.places.RwLockCallPlace.TheVariants.{HandOver}
use Rattle.steps_rwlock_fair.specs.declared.places.RwLockCallPlace.TheVariants.{Handed}
use Rattle.steps_rwlock_fair.specs.FairSteps.{any_taken, bump_ended, bump_next, freed_next, call_act}
use Rattle.steps_rwlock_fair.specs.FairSteps.{call_next, call_owners, call_shares, entering, given}
use Rattle.steps_rwlock_fair.specs.FairSteps.{gives_up_at, gives_way, handed_by, handed_woken, has_room}
use Rattle.steps_rwlock_fair.specs.FairSteps.{looked, parked_as, plain_next, released, took, unless_given}
use Rattle.steps_rwlock_fair.specs.FairSteps.{with_taken, woken_with, word_without}
use Rattle.steps_rwlock_fair.specs.FairProfiles.{call_profile, in_call}
use Rattle.lot_machine.proofs.Acted.{Befalls}
use Rattle.lot_misses.specs.Looks.{call_looked, freeing, rwlock_looked, rwlock_looked_by}
use Rattle.lot_misses.proofs.Rows.{AreAlike, exchange_by, FitsReply, HasLooked, HasLookedBy, HasNotLooked}
use Rattle.lot_misses.proofs.Rows.{IsNoValue, IsOfWord, Looks, LooksRight, Misses, Precedes, SaneThen, Table}
use Rattle.lot_misses.proofs.Rows.{looked_then, never}
use Rattle.lot_misses.proofs.RwLocks.{IsSaneAt, rwlock_looks_right, rwlock_table}

-- an upgradable owner that lets nobody in saw nobody parked
abbrev pub IsSaneCall : RwLockCallPlace → Type 0
IsSaneCall (Plain p) = IsSaneAt p.at
IsSaneCall (Bump p) = IsSaneAt p.at
IsSaneCall (HandOver access.Upgradable bumps (handing.Free seen)) = has_parked seen ≡ false
IsSaneCall c = Unit {0}

abbrev pub call_table : ℕ → Admission → Table RwLockCallPlace
call_table l a = record {
  act = call_act l a;
  next = call_next a;
  owners = call_owners a;
  shares = call_shares a;
  looked = call_looked a;
  sane = IsSaneCall;
  fits = λ v. v < 2 ^ 64;
  row = call_profile a;
  beside = λ c. blank_row;
}

abbrev next_by : Bool → RwLockPurpose → Next RwLockPlace → Next RwLockCallPlace
next_by false q n = plain_next n
next_by true q n = bump_next q n

module _ (l : ℕ) (a : Admission) where
  abbrev Then : Next RwLockCallPlace → Option RwLockCallPlace
  Then n = looked_then (call_table l a) n

  abbrev Inner : Next RwLockPlace → Option RwLockPlace
  Inner n = looked_then (rwlock_table l a) n

  -- ---------------------------------------------------------------- as a call that enters

  ended : (q : RwLockPurpose) (answer : Answer) → Then (bump_ended q answer) ≡ None
  ended (purpose.Enter x how) answer = refl
  ended (purpose.Release access.Shared) answer = refl
  ended (purpose.Release access.Upgradable) answer = refl
  ended (purpose.Release access.Exclusive) answer = refl
  ended (purpose.Downgrade d) answer = refl
  ended (purpose.Upgrade how) answer = refl

  woken : (x : Access) (how : Patience) (bumps alone : Bool) → call_looked a (handed_woken x how bumps alone)
      ≡ None
  woken access.Exclusive how bumps true = refl
  woken access.Exclusive how true false = refl
  woken access.Exclusive how false false = refl
  woken access.Shared how bumps alone = refl
  woken access.Upgradable how bumps alone = refl

  -- no place that a thread is given is an exchange by a look
  given_then : (bumps : Bool) (p : RwLockPlace) (r : Reply) (n : Next RwLockCallPlace) → Then n ≡ None
      → Then (unless_given (given bumps p r) n) ≡ None
  given_then bumps p (HandedBy by alone) n none = by_place p.purpose p.at
    where
      by_place : (q : RwLockPurpose) (to : RwLockAt) → Then (unless_given (handed_by bumps q to by alone) n)
          ≡ None
      by_place (purpose.Enter x how) (at.Park (parking.Taken u)) = refl
      by_place (purpose.Enter x how) to = none
      by_place q to = none
  given_then bumps p (Woken note.HandOff) n none = by_place p.purpose p.at
    where
      by_place : (q : RwLockPurpose) (to : RwLockAt) → Then (unless_given (woken_with bumps q to) n) ≡ None
      by_place (purpose.Enter x how) (at.Park parking.Asleep) = woken x how bumps false
      by_place (purpose.Enter x how) to = none
      by_place q to = none
  given_then bumps p (Woken note.Normal) n none = none
  given_then bumps p r n none = none

  -- a thread that isn't in the main queue, or on its way there
  abbrev IsAwake : RwLockAt → Type 0
  IsAwake (at.Park to) = ⊥
  IsAwake to = Unit {0}

  looked_up : (p : RwLockPlace) (y z : RwLockAt) → rwlock_looked a p y ≡ Some z → IsAwake y × IsAwake z
  looked_up p (at.Decide seen) z e = (tt, by_decision (decided a p seen) e)
    where
      by_decision : (d : Decision) → rwlock_looked_by d ≡ Some z → IsAwake z
      by_decision decisions.Take e = let here : at.Load ≡ z = cc in subst IsAwake here tt
      by_decision decisions.Mark e = let here : at.Load ≡ z = cc in subst IsAwake here tt
      by_decision decisions.Park e = absurd cc
      by_decision (decisions.Refuse answer) e = absurd cc
  looked_up p (at.Count seen) z e = (tt, by_bit (has_aside seen) e)
    where
      by_bit : (b : Bool) → (if b then None else Some at.Look) ≡ Some z → IsAwake z
      by_bit true e = absurd cc
      by_bit false e = let here : at.Look ≡ z = cc in subst IsAwake here tt
  looked_up p y z e = absurd cc

  module _ (bumps : Bool) where
    inner_then : (q : RwLockPurpose) (n : Next RwLockPlace) → Then (next_by bumps q n)
        ≡ in_call bumps (Inner n)
    inner_then q n = by_kind bumps n
      where
        by_kind : (b : Bool) (n : Next RwLockPlace) → Then (next_by b q n) ≡ in_call b (Inner n)
        by_kind true (At p) = refl
        by_kind false (At p) = refl
        by_kind true (End answer) = ended q answer
        by_kind false (End answer) = refl

    act_so : (p : RwLockPlace) → call_act l a (entering bumps p) ≡ rwlock_act l a p
    act_so p = by_kind bumps
      where
        by_kind : (b : Bool) → call_act l a (entering b p) ≡ rwlock_act l a p
        by_kind true = refl
        by_kind false = refl

    next_so : (p : RwLockPlace) (r : Reply) → call_next a (entering bumps p) r
        ≡ unless_given (given bumps p r) (next_by bumps p.purpose (rwlock_next a p r))
    next_so p r = by_kind bumps
      where
        by_kind : (b : Bool) → call_next a (entering b p) r ≡ unless_given (given b p r)
            (next_by b p.purpose (rwlock_next a p r))
        by_kind true = refl
        by_kind false = refl

    owners_so : (p : RwLockPlace) (t v : ℕ) (o : Owners) → call_owners a (entering bumps p) t v o
        ≡ rwlock_owners a p t v o
    owners_so p t v o = by_kind bumps
      where
        by_kind : (b : Bool) → call_owners a (entering b p) t v o ≡ rwlock_owners a p t v o
        by_kind true = refl
        by_kind false = refl

    shares_so : (p : RwLockPlace) (v n : ℕ) → call_shares a (entering bumps p) v n ≡ rwlock_shares a p v n
    shares_so p v n = by_kind bumps
      where
        by_kind : (b : Bool) → call_shares a (entering b p) v n ≡ rwlock_shares a p v n
        by_kind true = refl
        by_kind false = refl

    looked_so : (p : RwLockPlace) → call_looked a (entering bumps p)
        ≡ in_call bumps (gone_to p (rwlock_looked a p p.at))
    looked_so p = by_kind bumps
      where
        by_kind : (b : Bool) → call_looked a (entering b p) ≡ in_call b (gone_to p (rwlock_looked a p p.at))
        by_kind true = refl
        by_kind false = refl

    alike_so : (p q : RwLockPlace) → AreAlike (rwlock_profile a p) (rwlock_profile a q)
        → AreAlike (call_profile a (entering bumps p)) (call_profile a (entering bumps q))
    alike_so p q h = by_kind bumps
      where
        by_kind : (b : Bool) → AreAlike (call_profile a (entering b p)) (call_profile a (entering b q))
        by_kind true = record { hand = h.hand; wants = h.wants; late = h.late; late_too = h.late_too }
        by_kind false = record { hand = h.hand; wants = h.wants; late = h.late; late_too = h.late_too }

    looks_so : (q : RwLockPlace) (v : ℕ) → Looks (rwlock_table l a) q v
        → Looks (call_table l a) (entering bumps q) v
    looks_so q v h = record {
      lock = h.lock;
      load = act_so q ∙ h.load;
      again = ap (λ n. Then n) (next_so q (Value v)) ∙ inner_then q.purpose (rwlock_next a q (Value v))
          ∙ ap (in_call bumps) h.again;
      owners = λ t o. owners_so q t v o ∙ h.owners t o;
      shares = λ n. shares_so q v n ∙ h.shares n;
    }

    leads_so : (q : RwLockPlace) (v : ℕ) → (Inner (rwlock_next a q (Value v)) ≡ None)
        ⊎ Looks (rwlock_table l a) q v
        → (Then (call_next a (entering bumps q) (Value v)) ≡ None) ⊎ Looks (call_table l a) (entering bumps q)
        v
    leads_so q v (inl none) = inl (ap (λ n. Then n) (next_so q (Value v))
        ∙ inner_then q.purpose (rwlock_next a q (Value v)) ∙ ap (in_call bumps) none)
    leads_so q v (inr h) = inr (looks_so q v h)

    handed_none : (q : RwLockPurpose) (y : RwLockAt) (u : ℕ) (alone : Bool) → IsAwake y
        → handed_by bumps q y u alone ≡ None
    handed_none (purpose.Enter x how) (at.Park to) u alone up = absurd up
    handed_none (purpose.Enter x how) y u alone up = refl
    handed_none q y u alone up = refl

    woken_none : (q : RwLockPurpose) (y : RwLockAt) → IsAwake y → woken_with bumps q y ≡ None
    woken_none (purpose.Enter x how) (at.Park to) up = absurd up
    woken_none (purpose.Enter x how) y up = refl
    woken_none q y up = refl

    given_none : (p : RwLockPlace) (r : Reply) → IsAwake p.at → given bumps p r ≡ None
    given_none p (HandedBy u alone) up = handed_none p.purpose p.at u alone up
    given_none p (Woken note.HandOff) up = woken_none p.purpose p.at up
    given_none p (Woken note.Normal) up = refl
    given_none p r up = refl

    -- from there it goes as an entering call
    up_next : (p : RwLockPlace) (r : Reply) → IsAwake p.at → call_next a (entering bumps p) r
        ≡ next_by bumps p.purpose (rwlock_next a p r)
    up_next p r up = next_so p r ∙ ap (λ o. unless_given o (next_by bumps p.purpose (rwlock_next a p r)))
        (given_none p r up)

    precedes_so : (q : RwLockPurpose) (n m : Next RwLockPlace) → Precedes (rwlock_table l a) n m
        → Precedes (call_table l a) (next_by bumps q n) (next_by bumps q m)
    precedes_so q (At x) (At p) h = by_kind bumps
      where
        by_kind : (b : Bool) → Precedes (call_table l a) (next_by b q (At x)) (next_by b q (At p))
        by_kind true = ap (in_call true) h
        by_kind false = ap (in_call false) h
    precedes_so q (At x) (End answer) h = absurd h
    precedes_so q (End answer) m h = absurd h

    at_so : (q : RwLockPurpose) (p : RwLockPlace) → next_by bumps q (At p) ≡ At (entering bumps p)
    at_so q p = by_kind bumps
      where
        by_kind : (b : Bool) → next_by b q (At p) ≡ At (entering b p)
        by_kind true = refl
        by_kind false = refl

    sound_so : (q : RwLockPlace) → IsSaneAt q.at → IsSaneCall (entering bumps q)
    sound_so q sane = by_kind bumps
      where
        by_kind : (b : Bool) → IsSaneCall (entering b q)
        by_kind true = sane
        by_kind false = sane

    module _ (p : RwLockPlace) (x : RwLockAt) (is : rwlock_looked a p p.at ≡ Some x)
        (h : HasLooked (rwlock_table l a) p (record p { at = x })) where
      abbrev q : RwLockPlace
      q = record p { at = x }

      ups : IsAwake p.at × IsAwake x
      ups = looked_up p p.at x is

      missed_so : (v : ℕ) → Misses (rwlock_table l a) q p v → Misses (call_table l a) (entering bumps q)
          (entering bumps p) v
      missed_so v m = record {
        next = up_next p (Value v) ups.0 ∙ ap (next_by bumps p.purpose) m.next
            ∙ sym (up_next q (Value v) ups.1);
        owners = λ t o. owners_so p t v o ∙ m.owners t o ∙ sym (owners_so q t v o);
        shares = λ n. shares_so p v n ∙ m.shares n ∙ sym (shares_so q v n);
      }

      befell : (r : Reply) → Befalls r → Precedes (call_table l a) (call_next a (entering bumps q) r)
          (call_next a (entering bumps p) r)
      befell r b = subst (λ n. Precedes (call_table l a) n (call_next a (entering bumps p) r))
          (sym (up_next q r ups.1))
          (subst (λ n. Precedes (call_table l a) (next_by bumps p.purpose (rwlock_next a q r)) n)
          (sym (up_next p r ups.0))
          (precedes_so p.purpose (rwlock_next a q r) (rwlock_next a p r) (h.befallen r b)))

      entered : HasLooked (call_table l a) (entering bumps p) (entering bumps q)
      entered = record {
        lock = h.lock;
        from = h.from;
        to = h.to;
        hands = h.hands;
        load = act_so q ∙ h.load;
        exchange = act_so p ∙ h.exchange;
        sees = up_next q (Value h.from) ups.1 ∙ ap (next_by bumps p.purpose) h.sees ∙ at_so p.purpose p;
        looks = looks_so q h.from h.looks;
        misses = λ v other. missed_so v (h.misses v other);
        leads = λ v. leads_so q v (h.leads v);
        hits = ap (λ n. Then n) (up_next p (Value h.from) ups.0)
            ∙ inner_then p.purpose (rwlock_next a p (Value h.from)) ∙ ap (in_call bumps) h.hits;
        befallen = befell;
        unlooked = looked_so q ∙ ap (in_call bumps) h.unlooked;
        sound = sound_so q h.sound;
        alike = alike_so p q h.alike;
        alike_beside = record { hand = refl; wants = refl; late = refl; late_too = refl };
      }

    no_value : (p : RwLockPlace) (r : Reply) → Inner (rwlock_next a p r) ≡ None
        → Then (call_next a (entering bumps p) r) ≡ None
    no_value p r none = ap (λ n. Then n) (next_so p r)
        ∙ given_then bumps p r (next_by bumps p.purpose (rwlock_next a p r))
        (inner_then p.purpose (rwlock_next a p r) ∙ ap (in_call bumps) none)

    not_entered : (p : RwLockPlace) → HasNotLooked (rwlock_table l a) p
        → HasNotLooked (call_table l a) (entering bumps p)
    not_entered p h = record {
      acts = λ v of. leads_so p v (h.acts v (subst IsOfWord (act_so p) of));
      others = λ r b. no_value p r (h.others r b);
    }

    enters : (p : RwLockPlace) → IsSaneAt p.at → HasLookedBy (call_table l a) (entering bumps p)
        (in_call bumps (gone_to p (rwlock_looked a p p.at)))
    enters p sane = by_place (rwlock_looked a p p.at) refl ((rwlock_looks_right l a).place p sane)
      where
        by_place : (o : Option RwLockAt) → rwlock_looked a p p.at ≡ o → HasLookedBy (rwlock_table l a) p
            (gone_to p o)
            → HasLookedBy (call_table l a) (entering bumps p) (in_call bumps (gone_to p o))
        by_place None e h = not_entered p h
        by_place (Some x) e h = entered p x e h

  -- ---------------------------------------------------------------- a thread that hands over

  released_then : (x : Access) (bumps : Bool) → Then (released x bumps) ≡ None
  released_then access.Shared true = refl
  released_then access.Upgradable true = refl
  released_then access.Exclusive true = refl
  released_then x false = refl

  free_then : (x : Access) (bumps b : Bool) (to : HandOverAt) → call_looked a (HandOver x bumps to) ≡ None
      → Then (if b then released x bumps else At (HandOver x bumps to)) ≡ None
  free_then x bumps true to none = released_then x bumps
  free_then x bumps false to none = none

  module _ (bumps : Bool) where
    abbrev upgradable : RwLockCallPlace
    upgradable = HandOver access.Upgradable bumps handing.Load

    loads : (v : ℕ) → (Then (At (HandOver access.Upgradable bumps (looked v))) ≡ None)
        ⊎ Looks (call_table l a) upgradable v
    loads v = by_bit (has_parked v) refl
      where
        by_bit : (b : Bool) → has_parked v ≡ b → (Then (At (HandOver access.Upgradable bumps (looked v)))
            ≡ None) ⊎ Looks (call_table l a) upgradable v
        by_bit true f = inl (rw f refl)
        by_bit false f = inr (record {
          lock = l;
          load = refl;
          again = rw f refl;
          owners = λ t o. refl;
          shares
              = λ n. refl;
        })

    free_befell : (seen : ℕ) (r : Reply) → Befalls r → Precedes (call_table l a) (call_next a upgradable r)
        (call_next a (HandOver access.Upgradable bumps (handing.Free seen)) r)
    free_befell seen (TakenBy t) h = refl
    free_befell seen (MovedTo key) h = refl
    free_befell seen (HandedBy t alone) h = refl
    free_befell seen (Woken n) h = refl
    free_befell seen r h = absurd h

    frees : (seen : ℕ) → has_parked seen ≡ false
        → HasLooked (call_table l a) (HandOver access.Upgradable bumps (handing.Free seen)) upgradable
    frees seen f = record {
      lock = l;
      from = seen;
      to = word_without access.Upgradable seen;
      hands = false;
      load = refl;
      exchange = refl;
      sees = rw f refl;
      looks = record { lock = l; load = refl; again = rw f refl; owners = λ t o. refl; shares = λ n. refl };
      misses = λ v other. record { next = rw other refl; owners = λ t o. rw other refl; shares = λ n. refl };
      leads = loads;
      hits = let same : (seen == seen) ≡ true = grind (arith, nat_tests)
          in rw same (released_then access.Upgradable bumps);
      befallen = free_befell seen;
      unlooked = refl;
      sound = tt;
      alike = record { hand = refl; wants = refl; late = refl; late_too = refl };
      alike_beside = record { hand = refl; wants = refl; late = refl; late_too = refl };
    }

  look_sane : (x : Access) (bumps : Bool) (k : Taken) → IsSaneCall (HandOver x bumps (handing.Look k))
  look_sane access.Shared bumps k = tt
  look_sane access.Upgradable bumps k = tt
  look_sane access.Exclusive bumps k = tt

  module _ (x : Access) (bumps : Bool) (k : Taken) where
    abbrev look : RwLockCallPlace
    look = HandOver x bumps (handing.Look k)

    look_sees : (v : ℕ) → Looks (call_table l a) look v
    look_sees v = record { lock = l; load = refl; again = refl; owners = λ t o. refl; shares = λ n. refl }

    exchange_befell : (seen : ℕ) (r : Reply) → Befalls r → Precedes (call_table l a) (call_next a look r)
        (call_next a (HandOver x bumps (handing.Exchange k seen)) r)
    exchange_befell seen (TakenBy t) h = refl
    exchange_befell seen (MovedTo key) h = refl
    exchange_befell seen (HandedBy t alone) h = refl
    exchange_befell seen (Woken n) h = refl
    exchange_befell seen r h = absurd h

    hands_over : (seen to : ℕ) (hands : Bool) → call_act l a (HandOver x bumps (handing.Exchange k seen))
        ≡ exchange_by hands l seen to
        → HasLooked (call_table l a) (HandOver x bumps (handing.Exchange k seen)) look
    hands_over seen to hands is = record {
      lock = l;
      from = seen;
      to = to;
      hands = hands;
      load = refl;
      exchange = is;
      sees = refl;
      looks = look_sees seen;
      misses = λ v other. record { next = rw other refl; owners = λ t o. rw other refl; shares = λ n. refl };
      leads = λ v. inr (look_sees v);
      hits = let same : (seen == seen) ≡ true = grind (arith, nat_tests) in rw same refl;
      befallen = exchange_befell seen;
      unlooked = refl;
      sound = look_sane x bumps k;
      alike = record { hand = refl; wants = refl; late = refl; late_too = refl };
      alike_beside = record { hand = refl; wants = refl; late = refl; late_too = refl };
    }

    exchanges : (seen : ℕ) → HasLooked (call_table l a) (HandOver x bumps (handing.Exchange k seen)) look
    exchanges seen = by_room (has_room a.limit k seen) refl
      where
        by_room : (b : Bool) → has_room a.limit k seen ≡ b
            → HasLooked (call_table l a) (HandOver x bumps (handing.Exchange k seen)) look
        by_room true f = hands_over seen (with_taken x k seen) true (rw f refl)
        by_room false f = hands_over seen (parked_as k.none_left (word_without x seen)) false (rw f refl)

  loaded : (x : Access) (bumps : Bool) → HasNotLooked (call_table l a) (HandOver x bumps handing.Load)
  loaded x bumps = record { acts = λ v of. by_access x v; others = others }
    where
      parked_or : (y : Access) (b : Bool) (v : ℕ) → ((s : ℕ) → freeing y bumps ≡ None)
          → call_looked a (HandOver y bumps (if b then handing.Enter else handing.Free v)) ≡ None
      parked_or y true v none = refl
      parked_or y false v none = none v

      by_access : (y : Access) (v : ℕ) → (Then (At (HandOver y bumps (looked v))) ≡ None)
          ⊎ Looks (call_table l a) (HandOver y bumps handing.Load) v
      by_access access.Upgradable v = loads bumps v
      by_access access.Shared v = inl (parked_or access.Shared (has_parked v) v (λ s. refl))
      by_access access.Exclusive v = inl (parked_or access.Exclusive (has_parked v) v (λ s. refl))

      others : (r : Reply) → IsNoValue r → Then (call_next a (HandOver x bumps handing.Load) r) ≡ None
      others (Value v) h = absurd h
      others r h = refl

  looks_at : (x : Access) (bumps : Bool) (k : Taken)
      → HasNotLooked (call_table l a) (HandOver x bumps (handing.Look k))
  looks_at x bumps k = record { acts = λ v of. inr (look_sees x bumps k v); others = others }
    where
      others : (r : Reply) → IsNoValue r → Then (call_next a (HandOver x bumps (handing.Look k)) r) ≡ None
      others (Value v) h = absurd h
      others r h = refl

  took_then : (x : Access) (bumps : Bool) (k : Taken) → Then (At (HandOver x bumps (took x k))) ≡ None
  took_then access.Shared bumps k = refl
  took_then access.Upgradable bumps k = refl
  took_then access.Exclusive bumps k = refl

  module _ (x : Access) (bumps : Bool) where
    frees_word : call_looked a (HandOver x bumps (handing.Free 0)) ≡ None → (seen : ℕ) (r : Reply)
        → Then (call_next a (HandOver x bumps (handing.Free seen)) r) ≡ None
    frees_word none seen (Value v) = by_access x none (v == seen)
      where
        by_access : (y : Access) → freeing y bumps ≡ None → (b : Bool)
            → Then (if b then released y bumps else At (HandOver y bumps (freed_next y v))) ≡ None
        by_access access.Shared none b = free_then access.Shared bumps b handing.Enter refl
        by_access access.Exclusive none b = free_then access.Exclusive bumps b handing.Enter refl
        by_access access.Upgradable none b = absurd cc
    frees_word none seen r = none

    entered_section : (r : Reply) → Then (call_next a (HandOver x bumps handing.Enter) r) ≡ None
    entered_section Done = refl
    entered_section r = refl

    takes : (r : Reply) → Then (call_next a (HandOver x bumps handing.Take) r) ≡ None
    takes (Picked n y none_left) = took_then x bumps
        (record { sharers = n; successor = y; none_left = none_left })
    takes r = refl

    stores : (k : Taken) (r : Reply) → Then (call_next a (HandOver x bumps (handing.Store k)) r) ≡ None
    stores k (Value v) = refl
    stores k r = refl

    leaves : (any b : Bool) (r : Reply) → Then (call_next a (HandOver x bumps (handing.Leave any b)) r) ≡ None
    leaves any b Done = released_then x bumps
    leaves any b r = refl

  frees_all : (x : Access) (bumps : Bool) (seen : ℕ) → IsSaneCall (HandOver x bumps (handing.Free seen))
      → HasLookedBy (call_table l a) (HandOver x bumps (handing.Free seen)) (freeing x bumps)
  frees_all access.Shared bumps seen sane = never (call_table l a)
      (HandOver access.Shared bumps (handing.Free seen)) (frees_word access.Shared bumps refl seen)
  frees_all access.Upgradable bumps seen sane = frees bumps seen sane
  frees_all access.Exclusive bumps seen sane = never (call_table l a)
      (HandOver access.Exclusive bumps (handing.Free seen)) (frees_word access.Exclusive bumps refl seen)

  hands : (x : Access) (bumps : Bool) (to : HandOverAt) → IsSaneCall (HandOver x bumps to)
      → HasLookedBy (call_table l a) (HandOver x bumps to) (call_looked a (HandOver x bumps to))
  hands x bumps handing.Load sane = loaded x bumps
  hands x bumps (handing.Free seen) sane = frees_all x bumps seen sane
  hands x bumps handing.Enter sane = never (call_table l a) (HandOver x bumps handing.Enter)
      (entered_section x bumps)
  hands x bumps handing.Take sane = never (call_table l a) (HandOver x bumps handing.Take) (takes x bumps)
  hands x bumps (handing.Store k) sane = never (call_table l a) (HandOver x bumps (handing.Store k))
      (stores x bumps k)
  hands x bumps (handing.Look k) sane = looks_at x bumps k
  hands x bumps (handing.Exchange k seen) sane = exchanges x bumps k seen
  hands x bumps (handing.Leave any b) sane = never (call_table l a) (HandOver x bumps (handing.Leave any b))
      (leaves x bumps any b)

  -- --------------------------------------------------------- a glance, and a thread that was handed the lock

  gave_then : (x : Access) (b : Bool) → Then (if b then At (gives_up_at x) else End answer.Ok) ≡ None
  gave_then access.Shared true = refl
  gave_then access.Upgradable true = refl
  gave_then access.Exclusive true = refl
  gave_then x false = refl

  glances : (x : Access) (r : Reply) → Then (call_next a (PeekQueue x) r) ≡ None
  glances x (Value v) = gave_then x (gives_way a x v)
  glances x r = refl

  handed_then : (x : Access) (how : Patience) (bumps : Bool) (to : HandedAt) (r : Reply)
      → Then (call_next a (Handed x how bumps to) r) ≡ None
  handed_then x how bumps (handed.Asleep by alone) (Woken note.HandOff) = woken x how bumps alone
  handed_then x how bumps (handed.Asleep by alone) (Woken note.Normal) = refl
  handed_then x how bumps (handed.Asleep by alone) r = refl
  handed_then x how bumps handed.Accept Done = refl
  handed_then x how bumps handed.Accept (Value v) = refl
  handed_then x how bumps handed.Accept r = refl

  place : (c : RwLockCallPlace) → IsSaneCall c → HasLookedBy (call_table l a) c (call_looked a c)
  place (Plain p) sane = enters false p sane
  place (Bump p) sane = enters true p sane
  place (PeekQueue x) sane = never (call_table l a) (PeekQueue x) (glances x)
  place (HandOver x bumps to) sane = hands x bumps to sane
  place (Handed x how bumps to) sane = never (call_table l a) (Handed x how bumps to)
      (handed_then x how bumps to)

  -- ---------------------------------------------------------------- calls stay sane

  entered_sane : (bumps : Bool) (p : RwLockPlace) → IsSaneAt p.at → IsSaneCall (entering bumps p)
  entered_sane true p sane = sane
  entered_sane false p sane = sane

  released_sane : (x : Access) (bumps : Bool) → SaneThen (call_table l a) (released x bumps)
  released_sane access.Shared true = tt
  released_sane access.Upgradable true = tt
  released_sane access.Exclusive true = tt
  released_sane x false = tt

  ended_sane : (q : RwLockPurpose) (answer : Answer) → SaneThen (call_table l a) (bump_ended q answer)
  ended_sane (purpose.Enter x how) answer = tt
  ended_sane (purpose.Release access.Shared) answer = tt
  ended_sane (purpose.Release access.Upgradable) answer = tt
  ended_sane (purpose.Release access.Exclusive) answer = tt
  ended_sane (purpose.Downgrade d) answer = tt
  ended_sane (purpose.Upgrade how) answer = tt

  next_sane : (bumps : Bool) (q : RwLockPurpose) (n : Next RwLockPlace) → SaneThen (rwlock_table l a) n
      → SaneThen (call_table l a) (next_by bumps q n)
  next_sane true q (At p) sane = sane
  next_sane false q (At p) sane = sane
  next_sane true q (End answer) sane = ended_sane q answer
  next_sane false q (End answer) sane = tt

  woken_sane : (x : Access) (how : Patience) (bumps alone : Bool)
      → IsSaneCall (handed_woken x how bumps alone)
  woken_sane access.Exclusive how bumps true = tt
  woken_sane access.Exclusive how true false = tt
  woken_sane access.Exclusive how false false = tt
  woken_sane access.Shared how bumps alone = tt
  woken_sane access.Upgradable how bumps alone = tt

  given_sane : (bumps : Bool) (p : RwLockPlace) (r : Reply) (n : Next RwLockCallPlace)
      → SaneThen (call_table l a) n
      → SaneThen (call_table l a) (unless_given (given bumps p r) n)
  given_sane bumps p (HandedBy by alone) n sane = by_place p.purpose p.at
    where
      by_place : (q : RwLockPurpose) (to : RwLockAt)
          → SaneThen (call_table l a) (unless_given (handed_by bumps q to by alone) n)
      by_place (purpose.Enter x how) (at.Park (parking.Taken u)) = tt
      by_place (purpose.Enter x how) to = sane
      by_place q to = sane
  given_sane bumps p (Woken note.HandOff) n sane = by_place p.purpose p.at
    where
      by_place : (q : RwLockPurpose) (to : RwLockAt)
          → SaneThen (call_table l a) (unless_given (woken_with bumps q to) n)
      by_place (purpose.Enter x how) (at.Park parking.Asleep) = woken_sane x how bumps false
      by_place (purpose.Enter x how) to = sane
      by_place q to = sane
  given_sane bumps p (Woken note.Normal) n sane = sane
  given_sane bumps p r n sane = sane

  enters_sane : (bumps : Bool) (p : RwLockPlace) (r : Reply) → FitsReply (rwlock_table l a) r → IsSaneAt p.at
      → SaneThen (call_table l a) (call_next a (entering bumps p) r)
  enters_sane bumps p r few sane = subst (λ n. SaneThen (call_table l a) n) (sym (next_so bumps p r))
      (given_sane bumps p r (next_by bumps p.purpose (rwlock_next a p r))
      (next_sane bumps p.purpose (rwlock_next a p r) ((rwlock_looks_right l a).keeps p r few sane)))

  looked_sane : (x : Access) (bumps : Bool) (v : ℕ) → IsSaneCall (HandOver x bumps (looked v))
  looked_sane access.Shared bumps v = either (has_parked v)
    where
      either : (b : Bool) → IsSaneCall (HandOver access.Shared bumps (if b then handing.Enter
          else handing.Free v))
      either true = tt
      either false = tt
  looked_sane access.Exclusive bumps v = either (has_parked v)
    where
      either : (b : Bool) → IsSaneCall (HandOver access.Exclusive bumps (if b then handing.Enter
          else handing.Free v))
      either true = tt
      either false = tt
  looked_sane access.Upgradable bumps v = either (has_parked v) refl
    where
      either : (b : Bool) → has_parked v ≡ b
          → IsSaneCall (HandOver access.Upgradable bumps (if b then handing.Enter else handing.Free v))
      either true f = tt
      either false f = f

  freed_sane : (x : Access) (bumps : Bool) (v : ℕ) → IsSaneCall (HandOver x bumps (freed_next x v))
  freed_sane access.Shared bumps v = tt
  freed_sane access.Exclusive bumps v = tt
  freed_sane access.Upgradable bumps v = looked_sane access.Upgradable bumps v

  took_sane : (x : Access) (bumps : Bool) (k : Taken) → IsSaneCall (HandOver x bumps (took x k))
  took_sane access.Shared bumps k = tt
  took_sane access.Upgradable bumps k = tt
  took_sane access.Exclusive bumps k = tt

  -- a place that any thread may come to
  abbrev IsFreeOf : HandOverAt → Type 0
  IsFreeOf (handing.Free seen) = ⊥
  IsFreeOf to = Unit {0}

  any_sane : (x : Access) (bumps : Bool) (to : HandOverAt) → IsFreeOf to → IsSaneCall (HandOver x bumps to)
  any_sane x bumps (handing.Free seen) free = absurd free
  any_sane access.Shared bumps to free = tt
  any_sane access.Upgradable bumps to free = tt
  any_sane access.Exclusive bumps to free = tt

  hands_sane : (x : Access) (bumps : Bool) (to : HandOverAt) (r : Reply) → IsSaneCall (HandOver x bumps to)
      → SaneThen (call_table l a) (call_next a (HandOver x bumps to) r)
  hands_sane x bumps handing.Load (Value v) sane = looked_sane x bumps v
  hands_sane x bumps (handing.Free seen) (Value v) sane = either (v == seen)
    where
      either : (b : Bool) → SaneThen (call_table l a) (if b then released x bumps
          else At (HandOver x bumps (freed_next x v)))
      either true = released_sane x bumps
      either false = freed_sane x bumps v
  hands_sane x bumps handing.Enter Done sane = any_sane x bumps handing.Take tt
  hands_sane x bumps handing.Take (Picked n y none_left) sane = took_sane x bumps
      (record { sharers = n; successor = y; none_left = none_left })
  hands_sane x bumps (handing.Store k) (Value v) sane = any_sane x bumps (handing.Leave (any_taken k) true) tt
  hands_sane x bumps (handing.Look k) (Value v) sane = any_sane x bumps (handing.Exchange k v) tt
  hands_sane x bumps (handing.Exchange k seen) (Value v) sane = either (v == seen)
    where
      either : (b : Bool) → SaneThen (call_table l a)
          (if b then At (HandOver x bumps (handing.Leave (any_taken k) (has_room a.limit k v)))
          else At (HandOver x bumps (handing.Exchange k v)))
      either true = any_sane x bumps (handing.Leave (any_taken k) (has_room a.limit k v)) tt
      either false = any_sane x bumps (handing.Exchange k v) tt
  hands_sane x bumps (handing.Leave any b) Done sane = released_sane x bumps
  hands_sane x bumps to r sane = sane

  gave_sane : (x : Access) (b : Bool) → SaneThen (call_table l a) (if b then At (gives_up_at x)
      else End answer.Ok)
  gave_sane access.Shared true = tt
  gave_sane access.Upgradable true = tt
  gave_sane access.Exclusive true = tt
  gave_sane x false = tt

  handed_sane : (x : Access) (how : Patience) (bumps : Bool) (to : HandedAt) (r : Reply)
      → SaneThen (call_table l a) (call_next a (Handed x how bumps to) r)
  handed_sane x how bumps (handed.Asleep by alone) (Woken note.HandOff) = woken_sane x how bumps alone
  handed_sane x how bumps (handed.Asleep by alone) (Woken note.Normal) = tt
  handed_sane x how bumps (handed.Asleep by alone) r = tt
  handed_sane x how bumps handed.Accept Done = tt
  handed_sane x how bumps handed.Accept (Value v) = tt
  handed_sane x how bumps handed.Accept r = tt

  keeps : (c : RwLockCallPlace) (r : Reply) → FitsReply (call_table l a) r → IsSaneCall c
      → SaneThen (call_table l a) (call_next a c r)
  keeps (Plain p) r few sane = enters_sane false p r (fits_so r few) sane
    where
      fits_so : (r : Reply) → FitsReply (call_table l a) r → FitsReply (rwlock_table l a) r
      fits_so (Value v) few = few
      fits_so r few = tt
  keeps (Bump p) r few sane = enters_sane true p r (fits_so r few) sane
    where
      fits_so : (r : Reply) → FitsReply (call_table l a) r → FitsReply (rwlock_table l a) r
      fits_so (Value v) few = few
      fits_so r few = tt
  keeps (PeekQueue x) (Value v) few sane = gave_sane x (gives_way a x v)
  keeps (PeekQueue x) r few sane = tt
  keeps (HandOver x bumps to) r few sane = hands_sane x bumps to r sane
  keeps (Handed x how bumps to) r few sane = handed_sane x how bumps to r

  pub call_looks_right : LooksRight (call_table l a)
  call_looks_right = record { place = place; keeps = keeps }
