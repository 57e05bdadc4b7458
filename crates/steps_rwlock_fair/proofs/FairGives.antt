-- A fair release gives the lock to all that it has taken, in one step.
use Rattle.std.specs.Prelude.{slice_index}
use Rattle.std.proofs.lemmas.Bool.{eqb-true}
use Rattle.std.proofs.lemmas.Bool.Decides.{nat_tests}
use Rattle.std.proofs.Common.{ℕ, Bool, true, false, Option, Some, None, List, [], ◌∷◌, if◌then◌else◌, ◌==◌}
use Rattle.std.proofs.Common.{◌&&◌, ◌≡◌, ◌≢◌, ◌<◌, ◌≤◌, ◌+◌, ◌-◌, ◌⊎◌, inl, inr, refl, sym, ap, subst, ◌∙◌}
use Rattle.std.proofs.Common.{arith}
use Rattle.core_base.specs.declared.ops.Op.{Op}
use Rattle.core_base.specs.declared.ops.Op.TheVariants as operation
use Rattle.core_base.specs.declared.wants.Want.{Want}
use Rattle.core_base.specs.declared.wants.Want.TheVariants.{Exclusive, Upgradable, Shared}
use Rattle.spec_locks.specs.declared.calls.Access.{Access}
use Rattle.spec_locks.specs.declared.calls.Access.TheVariants as access
use Rattle.spec_locks.specs.declared.calls.Patience.{Patience}
use Rattle.spec_locks.specs.declared.calls.Patience.TheVariants.{Patient}
use Rattle.steps_base.specs.declared.acts.Act.TheVariants as act
use Rattle.steps_base.specs.Acts.{takes_effect}
use Rattle.steps_base.specs.Moves.{bit_left, claim_handed, heir_of}
use Rattle.spec_locks.specs.Locks.{LockState, Rules, Queued, Leave, Owns, IsTaken, HasTakenNobody, count}
use Rattle.spec_locks.specs.Locks.{handed, readers}
use Rattle.spec_locks.specs.Locks as locks
use Rattle.spec_locks.specs.Sites.{Site, IsSite, Role, Has, HasClaim, Case, Deed, counts, counts_taken}
use Rattle.spec_locks.specs.Codes.{TellsTrue, code, count_in, has_parked}
use Rattle.spec_locks.specs.Deeds.{after_all}
use Rattle.spec_locks.proofs.CodeLaws.{words_tell_true}
use Rattle.steps_rwlock.specs.declared.places.Admission.{Admission}
use Rattle.steps_rwlock.specs.declared.places.RwLockAt.{RwLockAt}
use Rattle.steps_rwlock.specs.declared.purposes.RwLockPurpose.{RwLockPurpose}
use Rattle.steps_rwlock.specs.declared.purposes.RwLockPurpose.TheVariants as purpose
use Rattle.steps_rwlock.specs.RwLockSteps.{wanted}
use Rattle.steps_rwlock.specs.RwLockDeeds.{Admits, at_rest}
use Rattle.steps_rwlock.specs.RwLockProfiles.{purpose_by}
use Rattle.steps_rwlock_fair.specs.declared.places.RwLockCallPlace.{RwLockCallPlace}
use Rattle.steps_rwlock_fair.specs.declared.places.RwLockCallPlace.TheVariants.{Plain, PeekQueue, HandOver}
use Rattle.steps_rwlock_fair.specs.declared.places.RwLockCallPlace.TheVariants.{Bump}
use Rattle.steps_rwlock_fair.specs.declared.places.RwLockCallPlace.TheVariants.{Handed}
use Rattle.steps_rwlock_fair.specs.declared.hand_over.Taken.{Taken}
use Rattle.steps_rwlock_fair.specs.declared.hand_over.HandOverAt.{HandOverAt}
use Rattle.steps_rwlock_fair.specs.declared.hand_over.HandOverAt.TheVariants as handing
use Rattle.steps_rwlock_fair.specs.declared.handed.HandedAt.{HandedAt}
use Rattle.steps_rwlock_fair.specs.FairSteps.{count_of_taken, has_room, gives_way, with_taken, parked_as}
use Rattle.steps_rwlock_fair.specs.FairSteps.{word_without, tokens, call_act}
use Rattle.steps_rwlock_fair.specs.FairDeeds.{exchanged_deeds, freed_deeds, glance_deeds, leaves_over}
use Rattle.steps_rwlock_fair.specs.FairDeeds.{holding_role}
use Rattle.steps_rwlock_fair.specs.FairProfiles.{call_profile, release_purpose}
use Rattle.steps_rwlock_fair.specs.FairCalls.{IsInCall, IsOfBump, HasInHand, in_hand_of}
use Rattle.steps_rwlock_fair.specs.FairLaws.{StandsToHandOver as Over, lock_slow}
use Rattle.steps_rwlock_fair.specs.FairGives.{IsToGive, HasGot, GivesToAll, LetsGo, WakesThem}
use Rattle.steps_rwlock_fair.specs.FairGives.{FairReleasesGive}
use Rattle.steps_rwlock_fair.proofs.HandOvers.{counts as counts_then, upgradable_gone, wants_more}
use Rattle.steps_rwlock_fair.proofs.HandOversGive.{hand_overs_give}
use Rattle.steps_rwlock_fair.proofs.SharesGiven.{shares_given}

-- ---------------------------------------------------------------- calls

-- no other call gives its right up fairly
pub plain_keeps : (l : ℕ) (q : RwLockPurpose) (released : Bool) (x : Want)
    → IsToGive (purpose_by q l) released x → ⊥
plain_keeps l (purpose.Enter y how) released x h = h
plain_keeps l (purpose.Release y) released x h = let e : false ≡ true = h.1 in cc
plain_keeps l (purpose.Downgrade d) released x h = h
plain_keeps l (purpose.Upgrade how) released x h = h

pub bump_keeps : (a : Admission) (l : ℕ) (q : RwLockPurpose) (again : Bool) (to : RwLockAt) (x : Want)
    → IsOfBump q again → x ≢ Shared
    → IsToGive ((call_profile a (Bump (record {
      purpose = q;
      retries = again;
      at = to;
    }))).purpose l) (call_profile a (Bump (record {
      purpose = q;
      retries = again;
      at = to;
    }))).released x → ⊥
bump_keeps a l (purpose.Enter y Patient) again to x bump more h = let e : true ≡ false = h.1 in cc
bump_keeps a l (purpose.Release access.Shared) again to x bump more h = more (sym h.0)
bump_keeps a l q again to x bump more h = bump

pub handed_keeps : (a : Admission) (l : ℕ) (y : Access) (how : Patience) (b : Bool) (to : HandedAt) (x : Want)
    → IsToGive ((call_profile a (Handed y how b to)).purpose l) (call_profile a (Handed y how b to)).released
    x → ⊥
handed_keeps a l y how true to x h = let e : true ≡ false = h.1 in cc
handed_keeps a l y how false to x h = h

-- the right is the one that the call is to give
right_is : (l : ℕ) (y : Want) (b released : Bool) (x : Want) → IsToGive (release_purpose b y l) released x
    → (y ≡ x) × (released ≡ false)
right_is l y true released x h = (h.0, h.1)
right_is l y false released x h = (h.0, h.2)

-- ---------------------------------------------------------------- the rights got

got_by : (s s2 : LockState) (u : ℕ) (x : Want) (alone : Bool) → (readers s2 == 0) ≡ alone
    → (x ≡ Shared → slice_index s2.shared u ≡ slice_index s.shared u + 1)
    → HasClaim s2 u (Some (claim_handed alone x)) → HasGot s s2 u x
got_by s s2 u Exclusive true e more h = inl h
got_by s s2 u Exclusive false e more h = inr (h, some_reader (readers s2) e)
  where
    some_reader : (n : ℕ) → (n == 0) ≡ false → 1 ≤ n
    some_reader n e = grind (arith, nat_tests)
got_by s s2 u Upgradable true e more h = h
got_by s s2 u Upgradable false e more h = h
got_by s s2 u Shared true e more h = more refl
got_by s s2 u Shared false e more h = more refl
got_by s s2 u x true e more h = absurd h
got_by s s2 u x false e more h = absurd h

module _ (r : Rules) (a : Admission) (s : Site) (t l : ℕ) (h : IsSite r s) where
  -- a thread that carries nobody has taken nobody
  takes_nobody : (s.role t).has_taken ≡ false → HasTakenNobody s.lock t
  takes_nobody none u x taken = let e : true ≡ false = sym (h.carried u _ taken) ∙ none in cc

  -- a thread that covers the line has somebody in hand, or nobody is left
  some_or_none : (s.role t).owes_taken ≡ true → ((u : ℕ) × ((x : Want) × IsTaken s.lock t u x))
      ⊎ (s.lock.queue ≡ [])
  some_or_none owes_taken = by_line s.lock.queue refl
    where
      by_taken : (u : ℕ) (o : Option locks.Taken) → s.lock.taken u ≡ o → counts_taken r.sort t o ≡ true
          → (x : Want) × IsTaken s.lock t u x
      by_taken u None e c = absurd cc
      by_taken u (Some k) e c = by_thread (k.by == t) refl c
        where
          by_thread : (b : Bool) → (k.by == t) ≡ b → (b && counts r.sort k.want) ≡ true → (x : Want)
              × IsTaken s.lock t u x
          by_thread true f g = (
            k.want,
            e ∙ ap (λ v. Some (record { by = v; want = k.want }))
                (eqb-true k.by t f),
          )
          by_thread false f g = absurd cc

      by_line : (q : List Queued) → s.lock.queue ≡ q → ((u : ℕ) × ((x : Want) × IsTaken s.lock t u x))
          ⊎ (s.lock.queue ≡ [])
      by_line [] e = inr e
      by_line (y ∷ q) e = let some = (h.covered t owes_taken).2 (λ f. let g : y ∷ q ≡ [] = sym e ∙ f in cc)
          in inl (some.0, by_taken some.0 (s.lock.taken some.0) refl some.1)

  -- ---------------------------------------------------------------- steps

  abbrev Given : LockState → Want → Type 0
  Given now x = Owns now t x ⊎ (GivesToAll s.lock now t ⊎ (LetsGo s.lock (code r s) t
      ⊎ WakesThem r s.lock now t x))

  glances : (x : Want) (b : Bool) → Owns s.lock t x → Given (after_all r (glance_deeds b) s t).lock x
  glances x true own = inl own
  glances x false own = inl own

  freed : (x : Want) (b : Bool) (expected : ℕ) → has_parked expected ≡ false
      → s.role t ≡ at_rest None (Some (Has x)) → Owns s.lock t x → (won : Bool) → (code r s == expected) ≡ won
      → Given (after_all r (freed_deeds x b won) s t).lock x
  freed x b expected clear is own false e = inl own
  freed x b expected clear is own true e =
      inr (inr (inl (
        takes_nobody (ap (λ (d : Role). d.has_taken) is),
        ap has_parked (eqb-true (code r s) expected e) ∙ clear,
      )))

  module _ (admits : Admits r a) (k : Taken) (whom : Option ℕ) (hand : HasInHand s.lock t k whom) where
    -- the waiters would pass the limit
    passes : s.role t ≡ holding_role Upgradable k → has_room a.limit k (code r s) ≡ false → r.limit
        < count (handed t Upgradable (heir_of whom k.successor) s.lock)
    passes is none =
        let tells : TellsTrue r s = words_tell_true r s admits.0 h in
        let gone = upgradable_gone r s t h (ap (λ (d : Role). d.claims) is) in
        let n = counts_then _ gone.0 k.successor whom (wants_more r s t k whom admits.0 h hand) hand.named in
        let all = hand.sharers in let c = tells.count in let m = admits.2 in let one = gone.1 in
        let many : a.limit < (count_in (code r s) - 1) + count_of_taken k = grind (arith, nat_tests) in
        omega arith

    wakes : s.role t ≡ holding_role Upgradable k → has_room a.limit k (code r s) ≡ false
        → Given (after_all r (leaves_over Upgradable k) s t).lock Upgradable
    wakes is none = inr (inr (inr (
      refl,
      settled k.none_left,
      (heir_of whom k.successor, (hand.successor, passes is none)),
    )))
      where
        settled : (b : Bool) → (after_all r (Case (Leave Upgradable) ∷ bit_left b ∷ []) s t).lock.taken
            ≡ s.lock.taken
        settled true = refl
        settled false = refl

-- ---------------------------------------------------------------- every place

module _ (r : Rules) (a : Admission) (s : Site) (t l : ℕ) (op : Op) (whom : Option ℕ) where
  -- to all in hand
  gives_all : (c : RwLockCallPlace) → Over r a s t c whom → call_act l a c ≡ act.HandOver l op
      → takes_effect op (code r s) ≡ true → (s.role t).owes_taken ≡ true
      → GivesToAll s.lock (lock_slow r a s t c whom) t
  gives_all c over e won owes_taken = record {
    all = λ u x mine there. got_by s.lock (lock_slow r a s t c whom) u x _ refl
        (λ shares. shares_given r a s t l u c op whom over e won (subst (IsTaken s.lock t u) shares mine)
        there)
        (hand_overs_give r a s t l u c op whom x over e won mine there);
    some = some_or_none r a s t l over.call.site owes_taken;
  }

  module _ (free : s.lock.taken t ≡ None) where
    over_of : (c : RwLockCallPlace) (k : Taken) → IsInCall r a s t c → in_hand_of c ≡ Some k
        → HasInHand s.lock t k whom → Over r a s t c whom
    over_of c k call is hand = record { call = call; free = free; taken = k; is = is; in_hand = hand }

    stores : (b : Bool) (k : Taken) → IsInCall r a s t (HandOver access.Exclusive b (handing.Store k))
        → HasInHand s.lock t k whom → call_act l a (HandOver access.Exclusive b (handing.Store k))
        ≡ act.HandOver l op
        → GivesToAll s.lock (lock_slow r a s t (HandOver access.Exclusive b (handing.Store k)) whom) t
    stores b k call hand e =
        let same : operation.Store (parked_as k.none_left (tokens k)) ≡ op = cc in
        gives_all (HandOver access.Exclusive b (handing.Store k)) (over_of _ k call refl hand) e
        (ap (λ o. takes_effect o (code r s)) (sym same)) (ap (λ (d : Role). d.owes_taken) call.role)

    exchanges : (b : Bool) (k : Taken) (expected : ℕ) (call : IsInCall r a s t
        (HandOver access.Upgradable b (handing.Exchange k expected))) → HasInHand s.lock t k whom
        → Owns s.lock t Upgradable
        → (call_act l a (HandOver access.Upgradable b (handing.Exchange k expected)) ≡ act.Word l op)
        ⊎ (call_act l a (HandOver access.Upgradable b (handing.Exchange k expected)) ≡ act.HandOver l op)
        → Given r a s t l call.site (lock_slow r a s t (HandOver access.Upgradable b
        (handing.Exchange k expected)) whom) Upgradable
    exchanges b k expected call hand own acts = either (code r s == expected) refl
        (has_room a.limit k expected) refl
      where
        -- the act of the thread, where there is room
        hands : has_room a.limit k expected ≡ true
            → act.HandOver l (operation.Exchange expected (with_taken access.Upgradable k expected))
            ≡ act.HandOver l op
        hands room = by_act acts
          where
            roomy : act.HandOver l (operation.Exchange expected (with_taken access.Upgradable k expected))
                ≡ call_act l a (HandOver access.Upgradable b (handing.Exchange k expected))
            roomy = sym (ap (λ y. if y then act.HandOver l
                (operation.Exchange expected (with_taken access.Upgradable k expected)) else act.Word l
                (operation.Exchange expected (parked_as k.none_left (word_without access.Upgradable
                expected)))) room)

            by_act : (call_act l a (HandOver access.Upgradable b (handing.Exchange k expected))
                ≡ act.Word l op) ⊎ (call_act l a (HandOver access.Upgradable b (handing.Exchange k expected))
                ≡ act.HandOver l op)
                → act.HandOver l (operation.Exchange expected (with_taken access.Upgradable k expected))
                ≡ act.HandOver l op
            by_act (inl e) = absurd (let f : act.HandOver l
                (operation.Exchange expected (with_taken access.Upgradable k expected)) ≡ act.Word l op =
                roomy ∙ e in cc)
            by_act (inr e) = roomy ∙ e

        either : (won : Bool) → (code r s == expected) ≡ won → (room : Bool) → has_room a.limit k expected
            ≡ room → Given r a s t l call.site
            (lock_slow r a s t (HandOver access.Upgradable b (handing.Exchange k expected)) whom) Upgradable
        either false ew room er = subst
            (λ b. Given r a s t l call.site
            (after_all r (exchanged_deeds Upgradable k whom b (has_room a.limit k expected)) s t).lock
            Upgradable) (sym ew) (inl own)
        either true ew false er = subst (λ (d : List Deed). Given r a s t l call.site (after_all r d s t).lock
            Upgradable) (λ i. exchanged_deeds Upgradable k whom (sym ew i) (sym er i))
            (wakes r a s t l call.site call.admits k whom hand call.role (ap (has_room a.limit k)
            (eqb-true (code r s) expected ew) ∙ er))
        either true ew true er =
            let same : operation.Exchange expected (with_taken access.Upgradable k expected) ≡ op =
            (let e = hands er in cc) in
            inr (inl (gives_all (HandOver access.Upgradable b (handing.Exchange k expected))
            (over_of _ k call refl hand) (sym
            (ap (λ y. if y then act.HandOver l (operation.Exchange expected
            (with_taken access.Upgradable k expected)) else act.Word l
            (operation.Exchange expected (parked_as k.none_left (word_without access.Upgradable
            expected)))) (sym er)) ∙ hands er)
            (sym (ap (λ o. takes_effect o (code r s)) same) ∙ ew) (ap (λ (d : Role). d.owes_taken) call.role)))

    -- an owner that hands its lock over
    over_gives : (y : Access) (b : Bool) (to : HandOverAt) (call : IsInCall r a s t (HandOver y b to))
        → ((k : Taken) → in_hand_of (HandOver y b to) ≡ Some k → HasInHand s.lock t k whom)
        → Owns s.lock t (wanted y)
        → (call_profile a (HandOver y b to)).released ≡ false
        → (call_act l a (HandOver y b to) ≡ act.Word l op)
        ⊎ (call_act l a (HandOver y b to) ≡ act.HandOver l op)
        → Given r a s t l call.site (lock_slow r a s t (HandOver y b to) whom) (wanted y)
    over_gives access.Shared b to call hand own keeps acts = absurd call.stands
    over_gives y b handing.Load call hand own keeps acts = inl own
    over_gives access.Exclusive b (handing.Free expected) call hand own keeps acts =
        freed r a s t l call.site Exclusive b expected (ap has_parked call.stands) call.role own
        (code r s == expected) refl
    over_gives access.Upgradable b (handing.Free expected) call hand own keeps acts =
        freed r a s t l call.site Upgradable b expected call.stands call.role own (code r s == expected) refl
    over_gives y b handing.Enter call hand own keeps acts = absurd (elim acts [ inl e ↦ cc | inr e ↦ cc ])
    over_gives y b handing.Take call hand own keeps acts = absurd (elim acts [ inl e ↦ cc | inr e ↦ cc ])
    over_gives access.Exclusive b (handing.Store k) call hand own keeps acts =
        inr (inl (elim acts [ inl e ↦ absurd cc | inr e ↦ stores b k call (hand k refl) e ]))
    over_gives access.Upgradable b (handing.Store k) call hand own keeps acts = absurd call.stands
    over_gives y b (handing.Look k) call hand own keeps acts = inl own
    over_gives access.Upgradable b (handing.Exchange k expected) call hand own keeps acts =
        exchanges b k expected call (hand k refl) own acts
    over_gives access.Exclusive b (handing.Exchange k expected) call hand own keeps acts = absurd call.stands
    over_gives y b (handing.Leave any told) call hand own keeps acts = absurd (let e : true ≡ false = keeps
        in cc)

pub fair_releases_give : FairReleasesGive
fair_releases_give r a s t l (Plain p) op whom x call free hand gives more acts =
    absurd (plain_keeps l p.purpose (call_profile a (Plain p)).released x gives)
fair_releases_give r a s t l (Bump p) op whom x call free hand gives more acts =
    absurd (bump_keeps a l p.purpose p.retries p.at x call.stands.1 more gives)
fair_releases_give r a s t l (PeekQueue y) op whom x call free hand gives more acts =
    subst (Given r a s t l call.site (lock_slow r a s t (PeekQueue y) whom)) gives.0
    (glances r a s t l call.site (wanted y) (gives_way a y (code r s))
    (call.site.held t (Has (wanted y)) (ap (λ (d : Role). d.claims) call.role)))
fair_releases_give r a s t l (HandOver y b to) op whom x call free hand gives more acts =
    let right = right_is l (wanted y) b (call_profile a (HandOver y b to)).released x gives in
    subst (Given r a s t l call.site (lock_slow r a s t (HandOver y b to) whom)) right.0
    (over_gives r a s t l op whom free y b to call hand (owned to right.1 call.role acts) right.1 acts)
  where
    owned : (to : HandOverAt) → (call_profile a (HandOver y b to)).released ≡ false → s.role t
        ≡ (call_profile a (HandOver y b to)).role → (call_act l a (HandOver y b to) ≡ act.Word l op)
        ⊎ (call_act l a (HandOver y b to) ≡ act.HandOver l op) → Owns s.lock t (wanted y)
    owned (handing.Leave any told) keeps is acts = absurd (let e : true ≡ false = keeps in cc)
    owned handing.Load keeps is acts = call.site.held t (Has (wanted y)) (ap (λ (d : Role). d.claims) is)
    owned (handing.Free seen) keeps is acts = call.site.held t (Has (wanted y))
        (ap (λ (d : Role). d.claims) is)
    owned handing.Enter keeps is acts = call.site.held t (Has (wanted y)) (ap (λ (d : Role). d.claims) is)
    owned handing.Take keeps is acts = call.site.held t (Has (wanted y)) (ap (λ (d : Role). d.claims) is)
    owned (handing.Store k) keeps is acts = call.site.held t (Has (wanted y)) (ap (λ (d : Role). d.claims) is)
    owned (handing.Look k) keeps is acts = call.site.held t (Has (wanted y)) (ap (λ (d : Role). d.claims) is)
    owned (handing.Exchange k seen) keeps is acts = call.site.held t (Has (wanted y))
        (ap (λ (d : Role). d.claims) is)
fair_releases_give r a s t l (Handed y how b to) op whom x call free hand gives more acts =
    absurd (handed_keeps a l y how b to x gives)
