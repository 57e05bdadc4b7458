-- Each step on the word of a fair release or of a bump leads to the word of the lock after it.
use Rattle.std.proofs.Common.{ℕ, Bool, true, false, None, if◌then◌else◌, ◌==◌, ◌≡◌, ◌⊎◌, ◌+◌, ◌-◌, ◌%◌, ◌^◌}
use Rattle.std.proofs.Common.{◌≤◌, ◌<◌, inl, inr, refl, ap, sym, ◌∙◌, length, arith}
use Rattle.std.proofs.lemmas.Bool.{eqb-true}
use Rattle.core_base.specs.declared.ops.Op.{Op}
use Rattle.core_base.specs.declared.ops.Op.TheVariants as operation
use Rattle.core_base.specs.declared.wants.Want.TheVariants.{Exclusive, Upgradable}
use Rattle.core_base.specs.Words.{apply}
use Rattle.spec_locks.specs.declared.calls.Access.{Access}
use Rattle.spec_locks.specs.declared.calls.Access.TheVariants as access
use Rattle.steps_base.specs.declared.acts.Act.TheVariants as act
use Rattle.steps_base.specs.declared.acts.Reply.TheVariants as reply
use Rattle.spec_locks.specs.Locks.{Rules, Leave}
use Rattle.spec_locks.specs.Sites.{Site, IsSite, End, Case, has_readers, after_deed}
use Rattle.spec_locks.specs.Codes.{code, rw_code, bit}
use Rattle.spec_locks.specs.Deeds.{after_all, AllNeeded}
use Rattle.spec_locks.proofs.CodeLaws.{follows, rw_is, low_is}
use Rattle.steps_rwlock.specs.declared.places.Admission.{Admission}
use Rattle.steps_rwlock.specs.RwLockSteps.{wanted, token}
use Rattle.steps_rwlock.specs.RwLockDeeds.{does_and_wakes}
use Rattle.steps_rwlock.proofs.RwLockCodes.{rwlock_steps_code}
use Rattle.steps_rwlock.proofs.RwLockStands.{is_at}
use Rattle.steps_base.specs.Moves.{bit_left}
use Rattle.steps_rwlock_fair.specs.declared.places.RwLockCallPlace.{RwLockCallPlace}
use Rattle.steps_rwlock_fair.specs.declared.places.RwLockCallPlace.TheVariants.{Plain, PeekQueue, HandOver}
use Rattle.steps_rwlock_fair.specs.declared.places.RwLockCallPlace.TheVariants.{Bump}
use Rattle.steps_rwlock_fair.specs.declared.places.RwLockCallPlace.TheVariants.{Handed}
use Rattle.steps_rwlock_fair.specs.declared.hand_over.Taken.{Taken}
use Rattle.steps_rwlock_fair.specs.declared.hand_over.HandOverAt.{HandOverAt}
use Rattle.steps_rwlock_fair.specs.declared.hand_over.HandOverAt.TheVariants as handing
use Rattle.steps_rwlock_fair.specs.declared.handed.HandedAt.TheVariants as given
use Rattle.steps_rwlock_fair.specs.FairSteps.{has_room, parked_as, word_without, with_taken, gives_way}
use Rattle.steps_rwlock_fair.specs.FairSteps.{hand_over_act}
use Rattle.steps_rwlock_fair.specs.FairDeeds.{leaves_over, exchanged_deeds, freed_deeds, glance_deeds}
use Rattle.steps_rwlock_fair.specs.FairDeeds.{call_deeds}
use Rattle.steps_rwlock_fair.specs.FairCalls.{HandsOverAt}
use Rattle.steps_rwlock_fair.specs.FairLaws.{after_call, FairStepsCode}
use Rattle.steps_rwlock_fair.proofs.FairFit.{fair_steps_follow}
use Rattle.steps_rwlock_fair.proofs.HandOvers.{settles}

one_bit : (b : Bool) → bit b ≤ 1
one_bit true = omega arith
one_bit false = omega arith

-- a right is given up, and the parked bit set anew
left_words : (v by parked c after left : ℕ) → v < 2 ^ 64 → by ≤ v → by % 2 ≡ 0 → v % 2 ≡ parked → c + by ≡ v
    → after + parked ≡ c + left
    → after ≡ ((v + (2 ^ 64 - by)) % 2 ^ 64 - (v + (2 ^ 64 - by)) % 2 ^ 64 % 2) + left
left_words v by parked c after left small few even low is after_is =
    let gone : (v + (2 ^ 64 - by)) % 2 ^ 64 ≡ c = omega arith in
    let bit_is : (v + (2 ^ 64 - by)) % 2 ^ 64 % 2 ≡ parked = omega arith in
    omega arith

gone_word : (v by c : ℕ) → v < 2 ^ 64 → c + by ≡ v → (v + (2 ^ 64 - by)) % 2 ^ 64 ≡ c
gone_word v by c small is = omega arith

module _ (r : Rules) (a : Admission) (s : Site) (t l : ℕ) (op : Op) (rw_sort : has_readers r.sort ≡ true)
    (h : IsSite r s) (there : t < length s.lock.shared) (small : code r s < 2 ^ 64) where
  abbrev v : ℕ
  v = code r s

  coded : (x : Site) → code r x ≡ rw_code x
  coded x = rw_is r.sort r.limit x rw_sort

  past_end : code r (after_deed r End s t) ≡ v
  past_end = coded (after_deed r End s t) ∙ sym (coded s)

  -- a right is given up, at the end of its call or not
  gives : (x : Access) (b : Bool) → (x ≡ access.Exclusive) ⊎ (x ≡ access.Upgradable)
      → AllNeeded r (does_and_wakes b (Case (Leave (wanted x)))) s t
      → code r (after_all r (does_and_wakes b (Case (Leave (wanted x)))) s t) + token (wanted x) ≡ v
  gives access.Exclusive true ex n = let e = follows r s t rw_sort there h (Leave Exclusive) n.0 (λ f. f)
      in rw (coded (after_deed r (Case (Leave Exclusive)) s t), coded s) (omega arith)
  gives access.Exclusive false ex n = let e = follows r s t rw_sort there h (Leave Exclusive) n.0 (λ f. f)
      in rw (coded (after_deed r End (after_deed r (Case (Leave Exclusive)) s t) t), coded s) (omega arith)
  gives access.Upgradable true ex n = let e = follows r s t rw_sort there h (Leave Upgradable) n.0 (λ f. f)
      in rw (coded (after_deed r (Case (Leave Upgradable)) s t), coded s) (omega arith)
  gives access.Upgradable false ex n = let e = follows r s t rw_sort there h (Leave Upgradable) n.0 (λ f. f)
      in rw (coded (after_deed r End (after_deed r (Case (Leave Upgradable)) s t) t), coded s) (omega arith)
  gives access.Shared b ex n = absurd (elim ex [ inl f ↦ cc | inr f ↦ cc ])

  glanced : (b : Bool) → op ≡ operation.Load → apply op v ≡ code r (after_all r (glance_deeds b) s t)
  glanced true e = rw e refl
  glanced false e = rw e (sym past_end)

  freed : (x : Access) (b : Bool) (expected : ℕ) → (x ≡ access.Exclusive) ⊎ (x ≡ access.Upgradable)
      → op ≡ operation.Exchange expected (word_without x expected) → (won : Bool) → (v == expected) ≡ won
      → AllNeeded r (freed_deeds (wanted x) b won) s t → apply op v ≡ code r
      (after_all r (freed_deeds (wanted x) b won) s t)
  freed x b expected ex e false ew n = rw (e, ew) refl
  freed x b expected ex e true ew n =
      let same = eqb-true v expected ew in
      rw (e, ew) (ap (word_without x) (sym same) ∙ gone_word v (token (wanted x)) _ small (gives x b ex n))

  left : (k : Taken) → AllNeeded r (leaves_over Upgradable k) s t
      → code r (after_all r (leaves_over Upgradable k) s t) ≡ parked_as k.none_left
      (word_without access.Upgradable v)
  left k n =
      let e = gives access.Upgradable true (inr refl) (n.0, tt) in
      let bits = settles r (after_deed r (Case (Leave Upgradable)) s t) t k.none_left in
      let low = low_is r s h in
      let is = coded s in let is_left = coded (after_deed r (Case (Leave Upgradable)) s t) in
      rw (coded (after_deed r (bit_left k.none_left) (after_deed r (Case (Leave Upgradable)) s t) t))
      (left_words v 20 (bit s.parked) (rw_code (after_deed r (Case (Leave Upgradable)) s t)) _
      (if k.none_left then 0 else 1) small (omega arith) refl (omega arith) (omega arith) bits)

  exchanged : (k : Taken) (expected : ℕ) → (room : Bool) → (won : Bool) → (v == expected) ≡ won
      → (if room then act.HandOver l (operation.Exchange expected (with_taken access.Upgradable k expected))
      else act.Word l (operation.Exchange expected (parked_as k.none_left
      (word_without access.Upgradable expected)))) ≡ act.Word l op
      → AllNeeded r (exchanged_deeds Upgradable k None won room) s t → apply op v
      ≡ code r (after_all r (exchanged_deeds Upgradable k None won room) s t)
  exchanged k expected true won ew e n = absurd cc
  exchanged k expected false false ew e n = let f : op ≡ operation.Exchange expected
      (parked_as k.none_left (word_without access.Upgradable expected)) = cc in rw (f, ew) refl
  exchanged k expected false true ew e n =
      let f : op ≡ operation.Exchange expected
      (parked_as k.none_left (word_without access.Upgradable expected)) = cc in
      let same = eqb-true v expected ew in
      rw (f, ew) (ap (λ w. parked_as k.none_left (word_without access.Upgradable w)) (sym same)
      ∙ sym (left k n))

  abbrev Leads : RwLockCallPlace → Type 0
  Leads c = AllNeeded r (call_deeds a c None (reply.Value v)) s t → apply op v
      ≡ code r (after_call r a s t c None (reply.Value v))

  hand_over_code : (x : Access) (b : Bool) (to : HandOverAt) → HandsOverAt x to → hand_over_act l a x to
      ≡ act.Word l op → Leads (HandOver x b to)
  hand_over_code x b handing.Load fits e n = let f : op ≡ operation.Load = cc in rw f refl
  hand_over_code x b (handing.Look k) fits e n = let f : op ≡ operation.Load = cc in rw f refl
  hand_over_code access.Exclusive b (handing.Free expected) fits e n = let f : op ≡ operation.Exchange
      expected (word_without access.Exclusive expected) = cc in freed access.Exclusive b expected (inl refl) f
      (v == expected) refl n
  hand_over_code access.Upgradable b (handing.Free expected) fits e n = let f : op ≡ operation.Exchange
      expected (word_without access.Upgradable expected) = cc in freed access.Upgradable b expected (inr refl)
      f (v == expected) refl n
  hand_over_code access.Shared b (handing.Free expected) fits e n = absurd fits
  hand_over_code access.Upgradable b (handing.Exchange k expected) fits e n =
      exchanged k expected (has_room a.limit k expected) (v == expected) refl e n
  hand_over_code access.Exclusive b (handing.Exchange k expected) fits e n = absurd fits
  hand_over_code access.Shared b (handing.Exchange k expected) fits e n = absurd fits
  hand_over_code x b to fits e n = absurd cc

pub fair_steps_code : FairStepsCode
fair_steps_code r a s t l (Plain p) op call nowhere e small few limit = rwlock_steps_code r a s t l p op
    (is_at r a s t p call.admits call.site call.role call.stands call.there) nowhere e call.there small few
    limit
fair_steps_code r a s t l (Bump p) op call nowhere e small few limit = rwlock_steps_code r a s t l p op
    (is_at r a s t p call.admits call.site call.role call.stands.0 call.there) nowhere e call.there small few
    limit
fair_steps_code r a s t l (PeekQueue x) op call nowhere e small few limit = let f : op ≡ operation.Load = cc
    in glanced r a s t l op call.admits.0 call.site call.there small (gives_way a x (code r s)) f
fair_steps_code r a s t l (HandOver x b to) op call nowhere e small few limit =
    hand_over_code r a s t l op call.admits.0 call.site call.there small x b to call.stands e
    (fair_steps_follow r a s t l (HandOver x b to) op call nowhere e).needed
fair_steps_code r a s t l (Handed access.Exclusive how b given.Accept) op call nowhere e small few limit =
    let f : op ≡ operation.Load = cc in glanced r a s t l op call.admits.0 call.site call.there small false f
fair_steps_code r a s t l (Handed access.Upgradable how b given.Accept) op call nowhere e small few limit =
    absurd cc
fair_steps_code r a s t l (Handed access.Shared how b given.Accept) op call nowhere e small few limit =
    absurd cc
fair_steps_code r a s t l (Handed x how b (given.Asleep by alone)) op call nowhere e small few limit =
    absurd cc
