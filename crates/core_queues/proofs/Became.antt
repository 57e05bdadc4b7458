-- The lines once a thread has left or come.
use Rattle.std.proofs.Common.{ℕ, ◌≡◌, ◌≤◌, ◌<◌, List, [], ◌∷◌, ◌++◌, Option, Some, None, length, refl, sym}
use Rattle.std.proofs.Common.{ap, subst, ◌∙◌, arith}
use Rattle.std.specs.Prelude.{slice_index_or, slice_set}
use Rattle.std.proofs.lemmas.Bool.Decides.{nat_tests}
use Rattle.core_base.specs.declared.wants.Waiter.{Waiter}
use Rattle.core_base.specs.declared.wants.Want.{Want}
use Rattle.core_base.specs.Lines.{waiter, times, line, lines, without, without_first, first_of}
use Rattle.core_queues.specs.Chains.{bucket_of, joined, Chained, IsHashed, chain}
use Rattle.core_queues.specs.Links.{record_of, IsLinked, chains_of, key_of_record}
use Rattle.core_queues.specs.declared.records.Record.{Record}
use Rattle.core_queues.specs.declared.records.Ends.{Ends}
use Rattle.core_queues.proofs.Linked.{shown_is, hashed}
use Rattle.core_queues.proofs.Moved.{as_shown}
use Rattle.core_queues.proofs.Joined.{line_at, lines_left, lines_come, lines_first, first_leaves}

abbrev shown_as_chained : List (Option Record) → List (Option Ends) → ℕ → Chained
shown_as_chained records buckets bits = record {
  chains = chains_of records buckets;
  capacity = length records;
  bits = bits;
}

pub left_lines : (records others : List (Option Record)) (buckets new : List (Option Ends))
    (bits b thread : ℕ) → IsLinked records buckets bits (chains_of records buckets)
    → IsLinked others new bits (slice_set (chains_of records buckets) b
    (without thread (slice_index_or (chains_of records buckets) b []))) → b
    < length (chains_of records buckets) → 1 ≤ times thread (slice_index_or (chains_of records buckets) b [])
    → lines (joined (chains_of others new)) ≡ lines (without thread (joined (chains_of records buckets)))
left_lines records others buckets new bits b thread linked now fits stands =
    lines_left (shown_as_chained records buckets bits) (shown_as_chained others new bits) b thread
    (hashed records buckets bits (chains_of records buckets) linked) (hashed others new bits
    (chains_of others new) (as_shown others new bits _ now)) refl fits (shown_is others new bits _ now)
    stands

pub come_lines : (records others : List (Option Record)) (buckets new : List (Option Ends))
    (bits b key thread : ℕ) (wanted : Want) → IsLinked records buckets bits (chains_of records buckets)
    → IsLinked others new bits (slice_set (chains_of records buckets) b
    (slice_index_or (chains_of records buckets) b [] ++ waiter key thread wanted ∷ []))
    → b ≡ bucket_of bits key → b < length (chains_of records buckets) → lines (joined (chains_of others new))
    ≡ lines (joined (chains_of records buckets) ++ waiter key thread wanted ∷ [])
come_lines records others buckets new bits b key thread wanted linked now bucket fits =
    lines_come (shown_as_chained records buckets bits) (shown_as_chained others new bits) key thread wanted
    (hashed records buckets bits (chains_of records buckets) linked) (hashed others new bits
    (chains_of others new) (as_shown others new bits _ now)) refl (rw (← bucket) fits)
    (rw (← bucket) (shown_is others new bits _ now))

-- each thread that has a record stands in its chain
pub stands_there : (records : List (Option Record)) (buckets : List (Option Ends)) (bits thread : ℕ)
    (r : Record) → IsLinked records buckets bits (chains_of records buckets) → record_of records thread
    ≡ Some r → 1 ≤ times thread (slice_index_or (chains_of records buckets) (bucket_of bits r.key) [])
stands_there records buckets bits thread r linked is = linked.stands thread r.key (ap key_of_record is)

-- ---------------------------------------------------------------- the first under a key

nobody_under : (key : ℕ) (xs : List Waiter) → line key xs ≡ [] → without_first key xs ≡ xs
nobody_under key [] none = refl
nobody_under key (x ∷ xs) none = grind (arith, nat_tests, nobody_under key xs)

pub no_first : (q : Chained) (key : ℕ) → IsHashed q → line key (chain q (bucket_of q.bits key)) ≡ []
    → (first_of (line key (joined q.chains)) ≡ None) × (without_first key (joined q.chains) ≡ joined q.chains)
no_first q key hashed none =
    let empty : line key (joined q.chains) ≡ [] = line_at q key hashed ∙ none in
    (ap first_of empty, nobody_under key (joined q.chains) empty)

pub first_taken : (q q' : Chained) (key thread : ℕ) → IsHashed q → IsHashed q' → q'.bits ≡ q.bits
    → bucket_of q.bits key < length q.chains → first_of (line key (chain q (bucket_of q.bits key)))
    ≡ Some thread → q'.chains ≡ slice_set q.chains (bucket_of q.bits key)
    (without thread (chain q (bucket_of q.bits key))) → lines (joined q'.chains)
    ≡ lines (without_first key (joined q.chains))
first_taken q q' key thread hashed hashed' bits fits first is =
    lines_first q q' key hashed hashed' bits fits (is ∙ ap (slice_set q.chains (bucket_of q.bits key))
    (first_leaves key thread (chain q (bucket_of q.bits key)) (hashed.seated (bucket_of q.bits key)).once
    first))

-- the first of a line, by the bucket that was returned
pub under_first : (q : Chained) (key bucket : ℕ) (x : Waiter) (xs : List Waiter) → IsHashed q
    → bucket ≡ bucket_of q.bits key → line key (chain q bucket) ≡ x ∷ xs → Some x.thread ≡ first_of
    (line key (joined q.chains))
under_first q key bucket x xs hashed is h =
    sym (ap first_of (line_at q key hashed ∙ ap (λ (b : ℕ). line key (chain q b)) (sym is) ∙ h))

pub under_none : (q : Chained) (key bucket : ℕ) → IsHashed q → bucket ≡ bucket_of q.bits key
    → line key (chain q bucket) ≡ [] → (None ≡ first_of (line key (joined q.chains)))
    × (lines (joined q.chains) ≡ lines (without_first key (joined q.chains)))
under_none q key bucket hashed is h =
    let none = no_first q key hashed (ap (λ (b : ℕ). line key (chain q b)) (sym is) ∙ h) in
    (sym none.0, ap lines (sym none.1))

pub under_taken : (q q' : Chained) (key bucket : ℕ) (x : Waiter) (xs : List Waiter) → IsHashed q → IsHashed q'
    → (q'.capacity ≡ q.capacity) × (q'.bits ≡ q.bits) → bucket < length q.chains
    → bucket ≡ bucket_of q.bits key → line key (chain q bucket) ≡ x ∷ xs → q'.chains ≡ slice_set q.chains
    bucket (without x.thread (chain q bucket)) → lines (joined q'.chains) ≡ lines
    (without_first key (joined q.chains))
under_taken q q' key bucket x xs hashed hashed' same fits is h new =
    first_taken q q' key x.thread hashed hashed' same.1 (subst (λ (b : ℕ). b < length q.chains) is fits)
    (ap first_of (ap (λ (b : ℕ). line key (chain q b)) (sym is) ∙ h))
    (new ∙ ap (λ (b : ℕ). slice_set q.chains b (without x.thread (chain q b))) is)
