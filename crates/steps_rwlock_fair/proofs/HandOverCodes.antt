-- The step that hands a lock over leaves its word as the lock after it has it, and keeps its limit.
use Rattle.std.proofs.Common.{ℕ, Bool, true, false, Option, Some, if◌then◌else◌, ◌==◌, ◌≡◌, ◌+◌, ◌-◌, ◌*◌}
use Rattle.std.proofs.Common.{◌%◌, ◌^◌, ◌≤◌, ◌<◌, refl, ap, sym, subst, ◌∙◌, arith}
use Rattle.std.proofs.lemmas.Bool.{eqb-true}
use Rattle.std.proofs.lemmas.Bool.Decides.{nat_tests}
use Rattle.core_base.specs.declared.ops.Op.{Op}
use Rattle.core_base.specs.declared.ops.Op.TheVariants as operation
use Rattle.core_base.specs.declared.wants.Want.{Want}
use Rattle.core_base.specs.declared.wants.Want.TheVariants.{Exclusive, Upgradable}
use Rattle.core_base.specs.Words.{apply}
use Rattle.spec_locks.specs.declared.calls.Access.TheVariants as access
use Rattle.steps_base.specs.declared.acts.Act.TheVariants as act
use Rattle.steps_base.specs.declared.acts.Reply.TheVariants as reply
use Rattle.spec_locks.specs.Locks.{LockState, Rules, HandOff, count, readers, one_if_some, handed}
use Rattle.spec_locks.specs.Sites.{Role, Site, IsSite, Case, has_readers, after_deed}
use Rattle.spec_locks.specs.Codes.{code, rw_code, TellsTrue, HasLimit, writers, count_in, bit}
use Rattle.spec_locks.specs.Deeds.{after_all}
use Rattle.spec_locks.proofs.CodeLaws.{rw_is, words_tell_true}
use Rattle.steps_rwlock.specs.declared.places.Admission.{Admission}
use Rattle.steps_rwlock.specs.RwLockDeeds.{Admits}
use Rattle.steps_base.specs.Moves.{bit_left, heir_of}
use Rattle.steps_rwlock_fair.specs.declared.places.RwLockCallPlace.{RwLockCallPlace}
use Rattle.steps_rwlock_fair.specs.declared.places.RwLockCallPlace.TheVariants.{HandOver}
use Rattle.steps_rwlock_fair.specs.declared.hand_over.Taken.{Taken}
use Rattle.steps_rwlock_fair.specs.declared.hand_over.HandOverAt.TheVariants as handing
use Rattle.steps_rwlock_fair.specs.FairSteps.{tokens, token_of, count_of_taken, is_upgradable, has_room}
use Rattle.steps_rwlock_fair.specs.FairSteps.{parked_as, word_without, with_taken, call_act}
use Rattle.steps_rwlock_fair.specs.FairDeeds.{holding_role, exchanged_deeds}
use Rattle.steps_rwlock_fair.specs.FairCalls.{IsInCall, HasInHand, in_hand_of}
use Rattle.steps_rwlock_fair.specs.FairLaws.{after_call, HandOversCode, HandOversKeepLimit}
use Rattle.steps_rwlock_fair.proofs.HandOvers.{WantsMore, wants_more, adds, counts, lasting, exclusive_gone}
use Rattle.steps_rwlock_fair.proofs.HandOvers.{upgradable_gone, settles, token_even, token_small, token_top}
use Rattle.steps_rwlock_fair.proofs.HandOverFit.{fits}

-- the bit is no part of the lock
pub settled_lock : (r : Rules) (s : Site) (t : ℕ) (none_left : Bool)
    → (after_deed r (bit_left none_left) s t).lock ≡ s.lock
settled_lock r s t true = refl
settled_lock r s t false = refl

-- sums that don't wrap
pub tokens_are : (k : Taken) → k.sharers < 2 ^ 60 - 1 → tokens k ≡ 16 * k.sharers + token_of k.successor
tokens_are k few =
    let small = token_top k.successor in
    let one : (k.sharers * 16) % 2 ^ 64 ≡ 16 * k.sharers = omega arith in
    let two : ((k.sharers * 16) % 2 ^ 64 + token_of k.successor) % 2 ^ 64 ≡ 16 * k.sharers + token_of
    k.successor = omega arith in
    two

one_bit : (b : Bool) → bit b ≤ 1
one_bit true = omega arith
one_bit false = omega arith

-- a word without the upgradable right and with others, where its parked bit is set anew
sums : (v n more aside parked after left p now : ℕ) → v ≡ 16 * n + 20 + (2 * aside + parked) → aside ≤ 1
    → parked ≤ 1 → v < 2 ^ 64 → more % 2 ≡ 0 → 16 * n + more ≤ 2 ^ 64 - 16
    → now ≡ 16 * n + more + (2 * aside + p) → after + p ≡ now + left
    → after ≡ (((v + (2 ^ 64 - 20)) % 2 ^ 64 + more) % 2 ^ 64 - ((v + (2 ^ 64 - 20)) % 2 ^ 64 + more) % 2 ^ 64
    % 2) + left
sums v n more aside parked after left p now is one_a one_p small even room now_is after_is =
    let gone : (v + (2 ^ 64 - 20)) % 2 ^ 64 ≡ 16 * n + (2 * aside + parked) = omega arith in
    let full : ((v + (2 ^ 64 - 20)) % 2 ^ 64 + more) % 2 ^ 64 ≡ 16 * n + (2 * aside + parked) + more =
    omega arith in
    let low : ((v + (2 ^ 64 - 20)) % 2 ^ 64 + more) % 2 ^ 64 % 2 ≡ parked = omega arith in
    omega arith

module _ (r : Rules) (s : Site) (t : ℕ) (whom : Option ℕ) (rw_sort : has_readers r.sort ≡ true)
    (h : IsSite r s) (k : Taken) (hand : HasInHand s.lock t k whom) where
  coded : (x : Site) → code r x ≡ rw_code x
  coded x = rw_is r.sort r.limit x rw_sort

  tells : TellsTrue r s
  tells = words_tell_true r s rw_sort h

  more : WantsMore k.successor
  more = wants_more r s t k whom rw_sort h hand

  -- the site after the hand-over, before its bit is set anew
  abbrev after_hand : Want → Site
  after_hand x = after_deed r (Case (HandOff x (heir_of whom k.successor))) s t

  abbrev now : Want → LockState
  now x = handed t x (heir_of whom k.successor) s.lock

  -- tells what an exclusive owner stores
  pub stored : s.role t ≡ holding_role Exclusive k → k.sharers < 2 ^ 60 - 1
      → code r (after_deed r (bit_left k.none_left) (after_hand Exclusive) t) ≡ parked_as k.none_left
      (tokens k)
  stored is few =
      let gone = exclusive_gone r s t h (ap (λ (d : Role). d.claims) is) in
      let sum_is = adds _ gone.0 k.successor whom more hand.named in
      let all = hand.sharers in let nobody = gone.1 in
      let bits = settles r (after_hand Exclusive) t k.none_left in
      let tokens_is = tokens_are k few in let even = token_even k.successor in
      rw (coded (after_deed r (bit_left k.none_left) (after_hand Exclusive) t), tokens_is) (omega arith)

  -- how many are in hand is no more than how many count
  few_in_hand : (limit n : ℕ) → n + count_of_taken k ≤ limit → limit < 2 ^ 60 - 1 → (k.sharers < 2 ^ 60 - 1)
      × (16 * n + (16 * k.sharers + token_of k.successor) ≤ 16 * limit + 16)
  few_in_hand limit n room few = by_bit (is_upgradable k.successor) room (token_small k.successor)
    where
      by_bit : (b : Bool) → n + (k.sharers + (if b then 1 else 0)) ≤ limit → token_of k.successor
          ≤ 16 * (if b then 1 else 0) + 16 → (k.sharers < 2 ^ 60 - 1)
          × (16 * n + (16 * k.sharers + token_of k.successor) ≤ 16 * limit + 16)
      by_bit true room small = (omega arith, omega arith)
      by_bit false room small = (omega arith, omega arith)

  now_code : rw_code (after_hand Upgradable) ≡ (16 * count (now Upgradable)
      + (8 * writers (now Upgradable) + 4 * one_if_some (now Upgradable).upgradable))
      + (2 * bit s.aside_parked + bit (after_hand Upgradable).parked)
  now_code = omega arith

  -- tells what an upgradable owner exchanges
  pub exchanged_word : s.role t ≡ holding_role Upgradable k → code r s < 2 ^ 64 → (count_in (code r s) - 1)
      + count_of_taken k ≤ r.limit → r.limit < 2 ^ 60 - 1
      → code r (after_deed r (bit_left k.none_left) (after_hand Upgradable) t) ≡ with_taken access.Upgradable
      k (code r s)
  exchanged_word is small room few =
      let gone = upgradable_gone r s t h (ap (λ (d : Role). d.claims) is) in
      let sum_is : 16 * count (now Upgradable) + (8 * writers (now Upgradable) + 4 * one_if_some
      (now Upgradable).upgradable) ≡ 16 * readers s.lock + (16 * k.sharers + token_of k.successor) =
      adds _ gone.0 k.successor whom more hand.named ∙ ap (λ n. 16 * n + token_of k.successor) hand.sharers
      ∙ (let e : 16 * (readers s.lock + k.sharers) + token_of k.successor ≡ 16 * readers s.lock
      + (16 * k.sharers + token_of k.successor) = omega arith in e) in
      let bits = settles r (after_hand Upgradable) t k.none_left in
      let others : count_in (code r s) - 1 ≡ readers s.lock = (let c = tells.count in let one = gone.1
      in omega arith) in
      let enough = few_in_hand r.limit (readers s.lock) (subst (λ n. n + count_of_taken k ≤ r.limit) others
      room) few in
      rw (coded (after_deed r (bit_left k.none_left) (after_hand Upgradable) t), tokens_are k enough.0)
      (sums (code r s) (readers s.lock) (16 * k.sharers + token_of k.successor) (bit s.aside_parked)
      (bit s.parked) _ (if k.none_left then 0 else 1) (bit (after_hand Upgradable).parked)
      (rw_code (after_hand Upgradable)) (coded s ∙ gone.2) (one_bit s.aside_parked) (one_bit s.parked)
      small (let e = token_even k.successor in omega arith) (omega (arith, enough.1)) (now_code
      ∙ ap (λ n. n + (2 * bit s.aside_parked + bit (after_hand Upgradable).parked)) sum_is) bits)

  -- the limit
  pub exclusive_limit : s.role t ≡ holding_role Exclusive k → k.sharers < r.limit → HasLimit r (now Exclusive)
  exclusive_limit is few =
      let gone = exclusive_gone r s t h (ap (λ (d : Role). d.claims) is) in
      let all = hand.sharers in let nobody = gone.1 in
      let n = by_bit (is_upgradable k.successor) (counts _ gone.0 k.successor whom more hand.named
      ∙ ap (λ m. m + (if is_upgradable k.successor then 1 else 0)) hand.sharers) in
      let last = lasting _ gone.0 k.successor whom more hand.named in
      record {
        top = omega arith;
        normal = λ e. omega arith;
        falls = λ p e f. absurd (let g : true ≡ false = sym f ∙ last p e in cc);
        falls_normal = λ p e f. absurd (let g : true ≡ false = sym f ∙ last p e in cc);
      }
    where
      by_bit : (b : Bool) → count (now Exclusive) ≡ readers s.lock + k.sharers + (if b then 1 else 0)
          → count (now Exclusive) ≤ readers s.lock + k.sharers + 1
      by_bit true e = omega arith
      by_bit false e = omega arith

  pub upgradable_limit : s.role t ≡ holding_role Upgradable k → count (now Upgradable) ≤ r.limit
      → HasLimit r (now Upgradable)
  upgradable_limit is few =
      let gone = upgradable_gone r s t h (ap (λ (d : Role). d.claims) is) in
      let last = lasting _ gone.0 k.successor whom more hand.named in
      record {
        top = omega arith;
        normal = λ e. few;
        falls = λ p e f. few;
        falls_normal = λ p e f. absurd (let g : true ≡ false = sym f ∙ last p e in cc);
      }

module _ (r : Rules) (a : Admission) (s : Site) (t l : ℕ) (op : Op) (whom : Option ℕ) (admits : Admits r a)
    (h : IsSite r s) (k : Taken) (hand : HasInHand s.lock t k whom) where
  room_is : (seen : ℕ) → has_room a.limit k seen ≡ true → (count_in seen - 1) + count_of_taken k ≤ r.limit
  room_is seen e = let m = admits.2 in grind (arith, nat_tests)

  abbrev Leads : RwLockCallPlace → Type 0
  Leads c = apply op (code r s) ≡ code r (after_call r a s t c whom (reply.Value (code r s)))

  stores : s.role t ≡ holding_role Exclusive k → op ≡ operation.Store (parked_as k.none_left (tokens k))
      → k.sharers < 2 ^ 60 - 1 → Leads (HandOver access.Exclusive false (handing.Store k))
  stores is e few = rw e (sym (stored r s t whom admits.0 h k hand is few))

  exchanges : (expected : ℕ) → s.role t ≡ holding_role Upgradable k → code r s < 2 ^ 64 → a.limit < 2 ^ 60 - 1
      → (room : Bool) → has_room a.limit k expected ≡ room → (won : Bool) → (code r s == expected) ≡ won
      → (if room then act.HandOver l (operation.Exchange expected (with_taken access.Upgradable k expected))
      else act.Word l (operation.Exchange expected (parked_as k.none_left
      (word_without access.Upgradable expected)))) ≡ act.HandOver l op
      → apply op (code r s) ≡ code r (after_all r (exchanged_deeds Upgradable k whom won room) s t)
  exchanges expected is small few false er won ew e = absurd cc
  exchanges expected is small few true er false ew e = let f : op ≡ operation.Exchange expected
      (with_taken access.Upgradable k expected) = cc in rw (f, ew) refl
  exchanges expected is small few true er true ew e =
      let f : op ≡ operation.Exchange expected (with_taken access.Upgradable k expected) = cc in
      let same = eqb-true (code r s) expected ew in let m = admits.2 in
      rw (f, ew) (sym (exchanged_word r s t whom admits.0 h k hand is small
      (room_is (code r s) (ap (has_room a.limit k) same ∙ er)) (omega arith)
      ∙ ap (with_taken access.Upgradable k) same))

  limited : (expected : ℕ) → s.role t ≡ holding_role Upgradable k → HasLimit r s.lock → (room : Bool)
      → has_room a.limit k expected ≡ room → (won : Bool) → (code r s == expected) ≡ won
      → (if room then act.HandOver l (operation.Exchange expected (with_taken access.Upgradable k expected))
      else act.Word l (operation.Exchange expected (parked_as k.none_left
      (word_without access.Upgradable expected)))) ≡ act.HandOver l op
      → HasLimit r (after_all r (exchanged_deeds Upgradable k whom won room) s t).lock
  limited expected is limit false er won ew e = absurd cc
  limited expected is limit true er false ew e = limit
  limited expected is limit true er true ew e =
      rw (settled_lock r (after_hand r s t whom admits.0 h k hand Upgradable) t k.none_left)
      (upgradable_limit r s t whom admits.0 h k hand is (fits r a s t l op whom admits h k hand is
      (ap (has_room a.limit k) (eqb-true (code r s) expected ew) ∙ er)))

pub hand_overs_code : HandOversCode
hand_overs_code r a s t l c op whom over e lt small few limit = by_place c over.call over.is e
  where
    k : Taken
    k = over.taken

    by_place : (c : RwLockCallPlace) → IsInCall r a s t c → in_hand_of c ≡ Some k → call_act l a c
        ≡ act.HandOver l op → apply op (code r s) ≡ code r
        (after_call r a s t c whom (reply.Value (code r s)))
    by_place (HandOver access.Exclusive b (handing.Store j)) call is e =
        let same : k ≡ j = cc in let f : op ≡ operation.Store (parked_as j.none_left (tokens j)) = cc in
        stores r a s t l op whom call.admits call.site j (subst (λ (i : Taken). HasInHand s.lock t i whom)
        same over.in_hand) call.role f (subst (λ (i : Taken). i.sharers < 2 ^ 60 - 1) same (omega arith))
    by_place (HandOver access.Upgradable b (handing.Exchange j expected)) call is e =
        let same : k ≡ j = cc in
        exchanges r a s t l op whom call.admits call.site j (subst (λ (i : Taken). HasInHand s.lock t i whom)
        same over.in_hand) expected call.role small few (has_room a.limit j expected) refl
        (code r s == expected) refl e
    by_place (HandOver access.Exclusive b (handing.Exchange j expected)) call is e = absurd call.stands
    by_place (HandOver access.Upgradable b (handing.Store j)) call is e = absurd call.stands
    by_place (HandOver access.Shared b to) call is e = absurd call.stands
    by_place (HandOver x b (handing.Look j)) call is e = absurd cc
    by_place c call is e = absurd cc

pub hand_overs_keep_limit : HandOversKeepLimit
hand_overs_keep_limit r a s t l c op whom over e lt limit = by_place c over.call over.is e
  where
    k : Taken
    k = over.taken

    by_place : (c : RwLockCallPlace) → IsInCall r a s t c → in_hand_of c ≡ Some k → call_act l a c
        ≡ act.HandOver l op → HasLimit r (after_call r a s t c whom (reply.Value (code r s))).lock
    by_place (HandOver access.Exclusive b (handing.Store j)) call is e =
        let same : k ≡ j = cc in let hand = subst (λ (i : Taken). HasInHand s.lock t i whom) same over.in_hand
        in let m = call.admits.2 in
        rw (settled_lock r (after_hand r s t whom call.admits.0 call.site j hand Exclusive) t j.none_left)
        (exclusive_limit r s t whom call.admits.0 call.site j hand call.role
        (subst (λ (i : Taken). i.sharers < r.limit) same (omega arith)))
    by_place (HandOver access.Upgradable b (handing.Exchange j expected)) call is e =
        let same : k ≡ j = cc in
        limited r a s t l op whom call.admits call.site j (subst (λ (i : Taken). HasInHand s.lock t i whom)
        same over.in_hand) expected call.role limit (has_room a.limit j expected) refl
        (code r s == expected) refl e
    by_place (HandOver access.Exclusive b (handing.Exchange j expected)) call is e = absurd call.stands
    by_place (HandOver access.Upgradable b (handing.Store j)) call is e = absurd call.stands
    by_place (HandOver access.Shared b to) call is e = absurd call.stands
    by_place (HandOver x b (handing.Look j)) call is e = absurd cc
    by_place c call is e = absurd cc
