-- The queues in which nobody stands.
use Rattle.std.proofs.Common.{ℕ, zero, suc, ◌≡◌, ◌<◌, ◌^◌, ◌*◌, ◌%◌, List, [], Option, Some, None, length}
use Rattle.std.proofs.Common.{refl, sym, ap, ◌∙◌, arith}
use Rattle.std.specs.Prelude.{slice_index_or, replicate}
use Rattle.std.proofs.lemmas.List.{length-replicate, length-map}
use Rattle.std.proofs.Math.Nat.{mod-eq_of_lt}
use Rattle.std.proofs.Math.Pow.{pow-lt}
use Rattle.core_queues.specs.Chains.{joined}
use Rattle.core_queues.specs.Links.{key_of_record, first_in, IsLinked, chain_from, chains_of}
use Rattle.core_queues.specs.declared.records.Record.{Record}
use Rattle.core_queues.specs.declared.records.Ends.{Ends}

abbrev pub nothing : (A : Type 0) → Option A
nothing A = None

all_none : (A : Type 0) (n i : ℕ) → slice_index_or (replicate n (nothing A)) i (nothing A) ≡ nothing A
all_none A zero i = refl
all_none A (suc n) zero = refl
all_none A (suc n) (suc i) = all_none A n i

no_chain : (records : List (Option Record)) (n : ℕ) → chain_from records n None ≡ []
no_chain records zero = refl
no_chain records (suc n) = refl

no_chains : (records : List (Option Record)) (n i : ℕ) → slice_index_or (chains_of records (replicate n None))
    i [] ≡ []
no_chains records zero i = refl
no_chains records (suc n) zero = no_chain records (length records)
no_chains records (suc n) (suc i) = no_chains records n i

pub nobody : (records : List (Option Record)) (n : ℕ) → joined (chains_of records (replicate n None)) ≡ []
nobody records zero = refl
nobody records (suc n) = rw (no_chain records (length records)) (nobody records n)

pub opening : (threads bits : ℕ) → IsLinked (replicate threads None) (replicate (2 ^ bits) None) bits
    (chains_of (replicate threads None) (replicate (2 ^ bits) None))
opening threads bits =
    let records : List (Option Record) = replicate threads None in
    let buckets : List (Option Ends) = replicate (2 ^ bits) None in
    record {
      as_many = length-replicate (2 ^ bits) None;
      each = length-map buckets (λ (e : Option Ends). chain_from records (length records) (first_in e));
      leads = λ b. rw (no_chains records (2 ^ bits) b, all_none (Ends) (2 ^ bits) b) refl;
      ends = λ b. rw (no_chains records (2 ^ bits) b, all_none (Ends) (2 ^ bits) b) refl;
      own_bucket = λ b thread key has there. let e : None ≡ Some key =
          ap key_of_record (sym (all_none (Record) threads thread)) ∙ has in absurd cc;
      stands = λ thread key has. let e : None ≡ Some key =
          ap key_of_record (sym (all_none (Record) threads thread)) ∙ has in absurd cc;
    }

-- a one that is shifted
pub whole : (bits : ℕ) → bits < 64 → (1 * 2 ^ bits) % 18446744073709551616 ≡ 2 ^ bits
whole bits few =
    let one : 1 * 2 ^ bits ≡ 2 ^ bits = omega arith in
    let below : 2 ^ bits < 2 ^ 64 = pow-lt few in
    ap (λ (n : ℕ). n % 18446744073709551616) one ∙ mod-eq_of_lt below
