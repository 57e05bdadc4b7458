-- Each step of a fair release or of a bump makes of its call what its row says, and its answer is true.
use Rattle.std.proofs.Common.{ℕ, Bool, true, false, Option, Some, None, List, [], ◌∷◌, if◌then◌else◌, ◌==◌}
use Rattle.std.proofs.Common.{◌≡◌, ◌≢◌, inl, inr, refl, sym, ap, subst, ◌∙◌}
use Rattle.std.proofs.lemmas.Bool.{eqb-true}
use Rattle.core_base.specs.declared.keys.Line.TheVariants.{Main}
use Rattle.core_base.specs.declared.ops.Op.{Op}
use Rattle.core_base.specs.declared.ops.Op.TheVariants as operation
use Rattle.core_base.specs.declared.wants.Want.{Want}
use Rattle.core_base.specs.declared.wants.Want.TheVariants.{Exclusive, Upgradable, Shared}
use Rattle.spec_locks.specs.declared.calls.Access.{Access}
use Rattle.spec_locks.specs.declared.calls.Access.TheVariants as access
use Rattle.spec_locks.specs.declared.outcomes.Answer.TheVariants.{Ok}
use Rattle.steps_base.specs.declared.acts.Act.TheVariants as act
use Rattle.steps_base.specs.declared.acts.Next.{Next}
use Rattle.steps_base.specs.declared.acts.Next.TheVariants as next
use Rattle.steps_base.specs.declared.acts.Reply.{Reply}
use Rattle.steps_base.specs.declared.acts.Reply.TheVariants as reply
use Rattle.steps_base.specs.Calls.{CallFollows}
use Rattle.spec_locks.specs.Locks.{Rules, Rights, LockCase, Leave, TakePicked, HandOff, Wake, Owns}
use Rattle.spec_locks.specs.Locks.{after_case, handed, rights_of, with_right, without_owner}
use Rattle.spec_locks.specs.Purposes.{Blank, IsMadeOf, ReleasesBy, is_fair_bump}
use Rattle.spec_locks.specs.Runs.{CallState}
use Rattle.spec_locks.specs.Sites.{Has, Role, Site, IsSite, Deed, Case, In, Out}
use Rattle.spec_locks.specs.Codes.{code, has_parked}
use Rattle.spec_locks.specs.Deeds.{KeepLock}
use Rattle.spec_locks.proofs.Rights.{left}
use Rattle.steps_rwlock.specs.declared.places.Admission.{Admission}
use Rattle.steps_rwlock.specs.RwLockSteps.{wanted}
use Rattle.steps_rwlock.specs.RwLockDeeds.{Admits, does_and_wakes}
use Rattle.steps_base.specs.Moves.{bit_left, heir_of}
use Rattle.steps_rwlock_fair.specs.declared.places.RwLockCallPlace.{RwLockCallPlace}
use Rattle.steps_rwlock_fair.specs.declared.places.RwLockCallPlace.TheVariants.{PeekQueue, HandOver}
use Rattle.steps_rwlock_fair.specs.declared.hand_over.Taken.{Taken}
use Rattle.steps_rwlock_fair.specs.declared.hand_over.HandOverAt.{HandOverAt}
use Rattle.steps_rwlock_fair.specs.declared.hand_over.HandOverAt.TheVariants as handing
use Rattle.steps_rwlock_fair.specs.FairSteps.{any_taken, has_room, with_taken, parked_as, word_without}
use Rattle.steps_rwlock_fair.specs.FairSteps.{released, looked, took, freed_next, gives_up_at, hand_over_act}
use Rattle.steps_rwlock_fair.specs.FairSteps.{call_act}
use Rattle.steps_rwlock_fair.specs.FairDeeds.{holding_role, freed_deeds, exchanged_deeds, handing_deeds}
use Rattle.steps_rwlock_fair.specs.FairDeeds.{leaves_over, glance_deeds, call_role}
use Rattle.steps_rwlock_fair.specs.FairProfiles.{call_profile, release_purpose, has_given}
use Rattle.steps_rwlock_fair.specs.FairCalls.{HandsOverAt, IsInCall, HasInHand, MayHearHanding, in_hand_of}
use Rattle.steps_rwlock_fair.specs.FairLaws.{next_rows, CallTells, HandOversTell}
use Rattle.steps_rwlock_fair.proofs.HandOvers.{WantsMore, wants_more, exclusive_gone, upgradable_gone}
use Rattle.steps_rwlock_fair.proofs.FairRights.{goes, keeps, loses, gave}

-- a call that remembers other rights, which are the same
pub recalls : (c : CallState) (f : ℕ → Rights) → ((k : ℕ) → f k ≡ c.former k) → record c { former = f } ≡ c
recalls c f e = λ i. record c { former = λ k. e k i }

keeps_bit : (none_left : Bool) → KeepLock (bit_left none_left ∷ [])
keeps_bit true = tt
keeps_bit false = tt

module _ (r : Rules) (a : Admission) (s : Site) (t l : ℕ) where
  abbrev Tells : RwLockCallPlace → List Deed → Next RwLockCallPlace → Type 0
  Tells c ds n = CallFollows r s.lock t l (call_profile a c) ds (next_rows a n)

  -- ---------------------------------------------------------------- a look of a bump

  pub glance_tells : (x : Access) → Owns s.lock t (wanted x) → (goes_on : Bool)
      → Tells (PeekQueue x) (glance_deeds goes_on) (if goes_on then next.At (gives_up_at x) else next.End Ok)
  glance_tells x own false = record {
    one = tt;
    may = tt;
    comes = λ v rights ruled now e has. (
      subst (λ z. Owns z t (wanted x)) (sym now) own,
      keeps l t s.lock s.lock (wanted x) false v rights e has refl,
    );
  }
  glance_tells access.Shared own true = record {
    one = tt;
    may = tt;
    comes = λ rights e. recalls _ _ (goes l t s.lock s.lock Shared false false rights e refl);
  }
  glance_tells access.Upgradable own true = record {
    one = tt;
    may = tt;
    comes = λ rights e. recalls _ _ (goes l t s.lock s.lock Upgradable false false rights e refl);
  }
  glance_tells access.Exclusive own true = record {
    one = tt;
    may = tt;
    comes = λ rights e. recalls _ _ (goes l t s.lock s.lock Exclusive false false rights e refl);
  }

  -- ---------------------------------------------------------------- a thread that hands over

  -- a case of the lock that the call is made of: it takes, gives its right up, or hands over
  made_of : (b : Bool) (x : Want) (case : LockCase) → ReleasesBy x (is_fair_bump x) case
      → ReleasesBy x true case → IsMadeOf (release_purpose b x l) None false Blank l case
  made_of false x case by fair = (refl, fair)
  made_of true x (Leave y) by fair = (refl, inl (by, refl))
  made_of true x (HandOff y successor) by fair = (refl, inl (by, refl))
  made_of true x case by fair = (refl, inl by)

  module _ (x : Access) (b : Bool) where
    abbrev place : HandOverAt → RwLockCallPlace
    place to = HandOver x b to

    -- nothing happens to the lock
    rests : (to to2 : HandOverAt) → has_given to ≡ false → has_given to2 ≡ false
        → Tells (place to) [] (next.At (place to2))
    rests to to2 was is = record {
      one = tt;
      may = tt;
      comes = λ rights e. rw (was, is)
          (recalls _ _ (goes l t s.lock s.lock (wanted x) false false rights e refl));
    }

    enters : (to : HandOverAt) → has_given to ≡ false → Tells (place to) (In Main ∷ [])
        (next.At (place handing.Take))
    enters to was = record {
      one = tt;
      may = tt;
      comes = λ rights e. rw was (recalls _ _ (goes l t s.lock s.lock (wanted x) false false rights e refl));
    }

  -- the thread has given its right up, and ends, or enters again
  released_by : (x : Access) (b : Bool) → Owns s.lock t (wanted x) → (seen : ℕ) → (wanted x ≢ Shared)
      × (is_fair_bump (wanted x) ≡ true) → Tells (HandOver x b (handing.Free seen))
      (does_and_wakes b (Case (Leave (wanted x)))) (released x b)
  released_by access.Shared b own seen more = absurd (more.0 refl)
  released_by access.Exclusive false own seen more = record {
    one = tt;
    may = ((refl, refl), tt);
    comes = λ v rights ruled now e has. loses l t s.lock (without_owner t Exclusive s.lock) Exclusive false v
        rights e has (left s.lock t Exclusive own);
  }
  released_by access.Upgradable false own seen more = record {
    one = tt;
    may = ((refl, refl), tt);
    comes = λ v rights ruled now e has. loses l t s.lock (without_owner t Upgradable s.lock) Upgradable false
        v rights e has (left s.lock t Upgradable own);
  }
  released_by access.Exclusive true own seen more = record {
    one = tt;
    may = ((refl, inl (refl, refl)), tt);
    comes = λ rights e. recalls _ _ (goes l t s.lock (without_owner t Exclusive s.lock) Exclusive false true
        rights e (left s.lock t Exclusive own));
  }
  released_by access.Upgradable true own seen more = record {
    one = tt;
    may = ((refl, inl (refl, refl)), tt);
    comes = λ rights e. recalls _ _ (goes l t s.lock (without_owner t Upgradable s.lock) Upgradable false true
        rights e (left s.lock t Upgradable own));
  }

  -- there was no room
  leaves_them : (b : Bool) (k : Taken) (expected : ℕ) → Owns s.lock t Upgradable → (any : Bool)
      → Tells (HandOver access.Upgradable b (handing.Exchange k expected)) (leaves_over Upgradable k)
      (next.At (HandOver access.Upgradable b (handing.Leave any false)))
  leaves_them b k expected own any = record {
    one = keeps_bit k.none_left;
    may = (made_of b Upgradable (Leave Upgradable) refl refl, tt);
    comes = λ rights e. recalls _ _ (goes l t s.lock (without_owner t Upgradable s.lock) Upgradable false true
        rights e (left s.lock t Upgradable own));
  }

  takes : (x : Access) (b : Bool) (k : Taken) → HandsOverAt x handing.Take
      → Tells (HandOver x b handing.Take) (Case (TakePicked None) ∷ []) (next.At (HandOver x b (took x k)))
  takes access.Exclusive b k fits = record {
    one = tt;
    may = (made_of b Exclusive (TakePicked None) ((λ e. cc), refl) ((λ e. cc), refl), tt);
    comes = λ rights e. recalls _ _ (goes l t s.lock (after_case r (TakePicked None) s.lock t) Exclusive false
        false rights e refl);
  }
  takes access.Upgradable b k fits = record {
    one = tt;
    may = (made_of b Upgradable (TakePicked None) ((λ e. cc), refl) ((λ e. cc), refl), tt);
    comes = λ rights e. recalls _ _ (goes l t s.lock (after_case r (TakePicked None) s.lock t) Upgradable
        false false rights e refl);
  }
  takes access.Shared b k fits = absurd fits

  -- out of the section: it ends, or enters again
  leaves : (x : Access) (b any handed : Bool) → HandsOverAt x (handing.Leave any handed)
      → Tells (HandOver x b (handing.Leave any handed)) (Out ∷ []) (released x b)
  leaves access.Shared b any handed fits = absurd fits
  leaves x false false handed fits = record {
    one = tt;
    may = tt;
    comes = λ v rights ruled now e has. loses l t s.lock s.lock (wanted x) true v rights e has refl;
  }
  leaves x false true true fits = record {
    one = tt;
    may = tt;
    comes = λ v rights ruled now e has. loses l t s.lock s.lock (wanted x) true v rights e has refl;
  }
  leaves access.Upgradable false true false fits = record {
    one = tt;
    may = ((refl, inr refl), tt);
    comes = λ v rights ruled now e has. loses l t s.lock (after_case r Wake s.lock t) Upgradable true v rights
        e has refl;
  }
  leaves access.Exclusive false true false fits = absurd fits
  leaves access.Upgradable true false handed fits = record {
    one = tt;
    may = tt;
    comes = λ rights e. recalls _ _ (goes l t s.lock s.lock Upgradable true true rights e refl);
  }
  leaves access.Upgradable true true true fits = record {
    one = tt;
    may = tt;
    comes = λ rights e. recalls _ _ (goes l t s.lock s.lock Upgradable true true rights e refl);
  }
  leaves access.Upgradable true true false fits = record {
    one = tt;
    may = ((refl, inl (inr refl)), tt);
    comes = λ rights e. recalls _ _ (goes l t s.lock (after_case r Wake s.lock t) Upgradable true true rights
        e refl);
  }
  leaves access.Exclusive true false handed fits = record {
    one = tt;
    may = tt;
    comes = λ rights e. recalls _ _ (goes l t s.lock s.lock Exclusive true true rights e refl);
  }
  leaves access.Exclusive true true true fits = record {
    one = tt;
    may = tt;
    comes = λ rights e. recalls _ _ (goes l t s.lock s.lock Exclusive true true rights e refl);
  }
  leaves access.Exclusive true true false fits = absurd fits

  -- the lock is handed over
  stores : (b : Bool) (k : Taken) (whom : Option ℕ) (any : Bool)
      → with_right Exclusive (rights_of (handed t Exclusive (heir_of whom k.successor) s.lock) t)
      ≡ rights_of s.lock t
      → Tells (HandOver access.Exclusive b (handing.Store k)) (handing_deeds Exclusive k whom)
      (next.At (HandOver access.Exclusive b (handing.Leave any true)))
  stores b k whom any same = record {
    one = keeps_bit k.none_left;
    may = (made_of b Exclusive (HandOff Exclusive (heir_of whom k.successor)) (refl, refl) (refl, refl), tt);
    comes = λ rights e. recalls _ _ (goes l t s.lock (handed t Exclusive (heir_of whom k.successor) s.lock)
        Exclusive false true rights e same);
  }

  exchanges : (b : Bool) (k : Taken) (expected : ℕ) (whom : Option ℕ) (any : Bool)
      → with_right Upgradable (rights_of (handed t Upgradable (heir_of whom k.successor) s.lock) t)
      ≡ rights_of s.lock t
      → Tells (HandOver access.Upgradable b (handing.Exchange k expected)) (handing_deeds Upgradable k whom)
      (next.At (HandOver access.Upgradable b (handing.Leave any true)))
  exchanges b k expected whom any same = record {
    one = keeps_bit k.none_left;
    may = (
      made_of b Upgradable (HandOff Upgradable (heir_of whom k.successor)) (refl, refl) (refl, refl),
      tt,
    );
    comes = λ rights e. recalls _ _ (goes l t s.lock (handed t Upgradable (heir_of whom k.successor) s.lock)
        Upgradable false true rights e same);
  }

  -- ---------------------------------------------------------------- every place of it

  looked_given : (seen : ℕ) → has_given (looked seen) ≡ false
  looked_given seen = either (has_parked seen)
    where
      either : (b : Bool) → has_given (if b then handing.Enter else handing.Free seen) ≡ false
      either true = refl
      either false = refl

  freed_given : (x : Access) (seen : ℕ) → has_given (freed_next x seen) ≡ false
  freed_given access.Upgradable seen = looked_given seen
  freed_given access.Shared seen = refl
  freed_given access.Exclusive seen = refl

  more_of : (x : Access) (to : HandOverAt) → HandsOverAt x to → (wanted x ≢ Shared)
      × (is_fair_bump (wanted x) ≡ true)
  more_of access.Exclusive to fits = (λ e. cc, refl)
  more_of access.Upgradable to fits = (λ e. cc, refl)
  more_of access.Shared to fits = absurd fits

  freed_tells : (x : Access) (b : Bool) (expected seen : ℕ) (won : Bool)
      → HandsOverAt x (handing.Free expected) → Owns s.lock t (wanted x)
      → Tells (HandOver x b (handing.Free expected)) (freed_deeds (wanted x) b won) (if won then released x b
      else next.At (HandOver x b (freed_next x seen)))
  freed_tells x b expected seen true fits own = released_by x b own expected (more_of x _ fits)
  freed_tells x b expected seen false fits own = rests x b (handing.Free expected) (freed_next x seen) refl
      (freed_given x seen)

  exchanged_tells : (op : Op) (b : Bool) (k : Taken) (expected : ℕ) → Owns s.lock t Upgradable → (room : Bool)
      → has_room a.limit k expected ≡ room → (won : Bool) → (code r s == expected) ≡ won
      → (if room then act.HandOver l (operation.Exchange expected (with_taken access.Upgradable k expected))
      else act.Word l (operation.Exchange expected (parked_as k.none_left
      (word_without access.Upgradable expected)))) ≡ act.Word l op
      → Tells (HandOver access.Upgradable b (handing.Exchange k expected))
      (exchanged_deeds Upgradable k None won room)
      (if won then next.At (HandOver access.Upgradable b
      (handing.Leave (any_taken k) (has_room a.limit k (code r s)))) else next.At
      (HandOver access.Upgradable b (handing.Exchange k (code r s))))
  exchanged_tells op b k expected own true er won ew e = absurd cc
  exchanged_tells op b k expected own false er false ew e =
      rests access.Upgradable b (handing.Exchange k expected) (handing.Exchange k (code r s)) refl refl
  exchanged_tells op b k expected own false er true ew e =
      let same : has_room a.limit k (code r s) ≡ false =
      ap (has_room a.limit k) (eqb-true (code r s) expected ew) ∙ er in
      rw same (leaves_them b k expected own (any_taken k))

  pub hand_over_tells : (op : Op) (x : Access) (b : Bool) (to : HandOverAt) → HandsOverAt x to
      → Owns s.lock t (wanted x) → hand_over_act l a x to ≡ act.Word l op → CallTells r a s t l
      (HandOver x b to) None (reply.Value (code r s))
  hand_over_tells op x b handing.Load fits own e = rests x b handing.Load (looked (code r s)) refl
      (looked_given (code r s))
  hand_over_tells op x b (handing.Look k) fits own e = rests x b (handing.Look k)
      (handing.Exchange k (code r s)) refl refl
  hand_over_tells op x b (handing.Free expected) fits own e = freed_tells x b expected (code r s)
      (code r s == expected) fits own
  hand_over_tells op access.Upgradable b (handing.Exchange k expected) fits own e =
      exchanged_tells op b k expected own (has_room a.limit k expected) refl (code r s == expected) refl e
  hand_over_tells op access.Exclusive b (handing.Exchange k expected) fits own e = absurd fits
  hand_over_tells op access.Shared b (handing.Exchange k expected) fits own e = absurd fits
  hand_over_tells op x b to fits own e = absurd cc

  pub hand_over_sections_tell : (x : Access) (b : Bool) (to : HandOverAt) (whom : Option ℕ) (told : Reply)
      → HandsOverAt x to → MayHearHanding r s t to whom told → CallTells r a s t l (HandOver x b to) whom told
  hand_over_sections_tell x b handing.Enter whom reply.Done fits hears = enters x b handing.Enter refl
  hand_over_sections_tell access.Exclusive b handing.Take whom (reply.Picked n y none_left) fits hears =
      takes access.Exclusive b (record {
        sharers = n;
        successor = y;
        none_left = none_left;
      }) fits
  hand_over_sections_tell access.Upgradable b handing.Take whom (reply.Picked n y none_left) fits hears =
      takes access.Upgradable b (record {
        sharers = n;
        successor = y;
        none_left = none_left;
      }) fits
  hand_over_sections_tell access.Shared b handing.Take whom (reply.Picked n y none_left) fits hears =
      absurd fits
  hand_over_sections_tell x b (handing.Leave any handed) whom reply.Done fits hears =
      leaves x b any handed fits
  hand_over_sections_tell x b to whom told fits hears = absurd hears

  -- the giver owns until then
  pub owns_at : (x : Access) (b : Bool) (to : HandOverAt) → IsSite r s → s.role t ≡ call_role
      (HandOver x b to) → has_given to ≡ false → Owns s.lock t (wanted x)
  owns_at x b handing.Load h is e = h.held t (Has (wanted x)) (ap (λ (d : Role). d.claims) is)
  owns_at x b (handing.Free seen) h is e = h.held t (Has (wanted x)) (ap (λ (d : Role). d.claims) is)
  owns_at x b handing.Enter h is e = h.held t (Has (wanted x)) (ap (λ (d : Role). d.claims) is)
  owns_at x b handing.Take h is e = h.held t (Has (wanted x)) (ap (λ (d : Role). d.claims) is)
  owns_at x b (handing.Store k) h is e = h.held t (Has (wanted x)) (ap (λ (d : Role). d.claims) is)
  owns_at x b (handing.Look k) h is e = h.held t (Has (wanted x)) (ap (λ (d : Role). d.claims) is)
  owns_at x b (handing.Exchange k seen) h is e = h.held t (Has (wanted x)) (ap (λ (d : Role). d.claims) is)
  owns_at x b (handing.Leave any handed) h is e = absurd cc

-- ---------------------------------------------------------------- the step that hands over

module _ (r : Rules) (a : Admission) (s : Site) (t l : ℕ) (op : Op) (whom : Option ℕ) (call : Admits r a)
    (site : IsSite r s) (free : s.lock.taken t ≡ None) (j : Taken) (hand : HasInHand s.lock t j whom) where
  more : WantsMore j.successor
  more = wants_more r s t j whom call.0 site hand

  gone_exclusive : s.role t ≡ holding_role Exclusive j → with_right Exclusive
      (rights_of (handed t Exclusive (heir_of whom j.successor) s.lock) t) ≡ rights_of s.lock t
  gone_exclusive is = gave r s.lock t free j whom hand more Exclusive (λ f. cc)
      (site.held t (Has Exclusive) (ap (λ (d : Role). d.claims) is)) (exclusive_gone r s t site
      (ap (λ (d : Role). d.claims) is)).0

  gone_upgradable : s.role t ≡ holding_role Upgradable j
      → with_right Upgradable (rights_of (handed t Upgradable (heir_of whom j.successor) s.lock) t)
      ≡ rights_of s.lock t
  gone_upgradable is = gave r s.lock t free j whom hand more Upgradable (λ f. cc)
      (site.held t (Has Upgradable) (ap (λ (d : Role). d.claims) is)) (upgradable_gone r s t site
      (ap (λ (d : Role). d.claims) is)).0

  exchanged : (b : Bool) (expected : ℕ) → s.role t ≡ holding_role Upgradable j → (room : Bool)
      → has_room a.limit j expected ≡ room → (won : Bool) → (code r s == expected) ≡ won
      → (if room then act.HandOver l (operation.Exchange expected (with_taken access.Upgradable j expected))
      else act.Word l (operation.Exchange expected (parked_as j.none_left
      (word_without access.Upgradable expected)))) ≡ act.HandOver l op
      → Tells r a s t l (HandOver access.Upgradable b (handing.Exchange j expected))
      (exchanged_deeds Upgradable j whom won room)
      (if won then next.At (HandOver access.Upgradable b
      (handing.Leave (any_taken j) (has_room a.limit j (code r s)))) else next.At
      (HandOver access.Upgradable b (handing.Exchange j (code r s))))
  exchanged b expected is false er won ew e = absurd cc
  exchanged b expected is true er false ew e = rests r a s t l access.Upgradable b
      (handing.Exchange j expected) (handing.Exchange j (code r s)) refl refl
  exchanged b expected is true er true ew e =
      let room : has_room a.limit j (code r s) ≡ true = ap (has_room a.limit j)
      (eqb-true (code r s) expected ew) ∙ er in
      rw room (exchanges r a s t l b j expected whom (any_taken j) (gone_upgradable is))

pub hand_overs_tell : HandOversTell
hand_overs_tell r a s t l c op whom over e = by_place c over.call over.is e
  where
    k : Taken
    k = over.taken

    hand_of : (j : Taken) → k ≡ j → HasInHand s.lock t j whom
    hand_of j same = subst (λ (i : Taken). HasInHand s.lock t i whom) same over.in_hand

    by_place : (c : RwLockCallPlace) → IsInCall r a s t c → in_hand_of c ≡ Some k → call_act l a c
        ≡ act.HandOver l op → CallTells r a s t l c whom (reply.Value (code r s))
    by_place (HandOver access.Exclusive b (handing.Store j)) call is e = let same : k ≡ j = cc
        in stores r a s t l b j whom (any_taken j) (gone_exclusive r a s t l op whom call.admits call.site
        over.free j (hand_of j same) call.role)
    by_place (HandOver access.Upgradable b (handing.Exchange j expected)) call is e = let same : k ≡ j = cc
        in exchanged r a s t l op whom call.admits call.site over.free j (hand_of j same) b expected call.role
        (has_room a.limit j expected) refl (code r s == expected) refl e
    by_place (HandOver access.Exclusive b (handing.Exchange j expected)) call is e = absurd call.stands
    by_place (HandOver access.Upgradable b (handing.Store j)) call is e = absurd call.stands
    by_place (HandOver access.Shared b to) call is e = absurd call.stands
    by_place (HandOver x b (handing.Look j)) call is e = absurd cc
    by_place c call is e = absurd cc
