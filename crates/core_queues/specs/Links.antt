-- How records lead from one to the next.
use Rattle.std.specs.Prelude.{ℕ, zero, suc, List, [], ◌∷◌, ◌++◌, Option, Some, None, ◌^◌, ◌≤◌, ◌≡◌, length}
use Rattle.std.specs.Prelude.{map, slice_index_or, slice_set}
use Rattle.core_base.specs.declared.wants.Waiter.{Waiter}
use Rattle.core_base.specs.declared.wants.Want.{Want}
use Rattle.core_base.specs.Lines.{waiter, times}
use Rattle.core_queues.specs.Chains.{bucket_of}
use Rattle.core_queues.specs.declared.records.Record.{Record}
use Rattle.core_queues.specs.declared.records.Ends.{Ends}

abbrev pub standing_record : ℕ → Want → Option ℕ → Record
standing_record key want next = record { key = key; want = want; next = next }

abbrev pub ends : ℕ → ℕ → Ends
ends first last = record { first = first; last = last }

abbrev pub record_of : List (Option Record) → ℕ → Option Record
record_of records thread = slice_index_or records thread None

abbrev pub next_in : Option Record → Option ℕ
next_in None = None
next_in (Some r) = r.next

abbrev pub key_of_record : Option Record → Option ℕ
key_of_record None = None
key_of_record (Some r) = Some r.key

-- the next thread of a record
abbrev pub next_of : List (Option Record) → ℕ → Option ℕ
next_of records thread = next_in (record_of records thread)

abbrev pub first_in : Option Ends → Option ℕ
first_in None = None
first_in (Some e) = Some e.first

-- the next thread after another, or, with none, the first
abbrev pub next_after : List (Option Record) → Option Ends → Option ℕ → Option ℕ
next_after records ends None = first_in ends
next_after records ends (Some before) = next_of records before

abbrev pub waiter_of_record : ℕ → Option Record → Option Waiter
waiter_of_record thread None = None
waiter_of_record thread (Some r) = Some (waiter r.key thread r.want)

-- a thread with its key and what it wants
abbrev pub waiter_at : List (Option Record) → Option ℕ → Option Waiter
waiter_at records None = None
waiter_at records (Some thread) = waiter_of_record thread (record_of records thread)

-- the record with another after it
abbrev pub leading : Option Record → Option ℕ → Option Record
leading None next = None
leading (Some r) next = Some (standing_record r.key r.want next)

abbrev pub with_next : List (Option Record) → ℕ → Option ℕ → List (Option Record)
with_next records thread next = slice_set records thread (leading (record_of records thread) next)

abbrev pub waiters_of_record : ℕ → Option Record → List Waiter
waiters_of_record thread None = []
waiters_of_record thread (Some r) = waiter r.key thread r.want ∷ []

-- the waiters of a chain from a thread on, so many at most
abbrev pub chain_from : List (Option Record) → ℕ → Option ℕ → List Waiter
chain_from records zero from = []
chain_from records (suc n) None = []
chain_from records (suc n) (Some thread) =
    waiters_of_record thread (record_of records thread) ++ chain_from records n (next_of records thread)

abbrev pub chains_of : List (Option Record) → List (Option Ends) → List (List Waiter)
chains_of records buckets =
    map (λ (e : Option Ends). chain_from records (length records) (first_in e)) buckets

-- the records lead from a thread through these to the end
abbrev pub Leads : List (Option Record) → Option ℕ → List Waiter → Type 0
Leads records from [] = from ≡ None
Leads records from (x ∷ xs) = (from ≡ Some x.thread)
    × (record_of records x.thread ≡ Some (standing_record x.key x.want (next_of records x.thread)))
    × Leads records (next_of records x.thread) xs

-- the last of these is a thread
abbrev pub EndsAt : List (Option Record) → Option Ends → List Waiter → Type 0
EndsAt records None xs = xs ≡ []
EndsAt records (Some e) xs = (1 ≤ times e.last xs) × (next_of records e.last ≡ None)

-- the records are in these chains
pub record IsLinked (records : List (Option Record)) (buckets : List (Option Ends)) (bits : ℕ)
    (chains : List (List Waiter)) : Type 0 where
  pub as_many : length buckets ≡ 2 ^ bits
  pub each : length chains ≡ length buckets
  pub leads : (bucket : ℕ)
      → Leads records (first_in (slice_index_or buckets bucket None)) (slice_index_or chains bucket [])
  pub ends : (bucket : ℕ)
      → EndsAt records (slice_index_or buckets bucket None) (slice_index_or chains bucket [])
  pub own_bucket : (bucket thread key : ℕ) → key_of_record (record_of records thread) ≡ Some key
      → 1 ≤ times thread (slice_index_or chains bucket []) → bucket_of bits key ≡ bucket
  pub stands : (thread key : ℕ) → key_of_record (record_of records thread) ≡ Some key
      → 1 ≤ times thread (slice_index_or chains (bucket_of bits key) [])

-- the chain without a thread, which stands after another
abbrev pub unlinked_records : List (Option Record) → Option ℕ → ℕ → List (Option Record)
unlinked_records records None thread = slice_set records thread None
unlinked_records records (Some before) thread =
    slice_set (with_next records before (next_of records thread)) thread None

abbrev pub unlinked_ends : Ends → Option ℕ → Option ℕ → Option Ends
unlinked_ends e None None = None
unlinked_ends e None (Some next) = Some (ends next e.last)
unlinked_ends e (Some before) None = Some (ends e.first before)
unlinked_ends e (Some before) (Some next) = Some e

abbrev pub ends_left : Option Ends → Option ℕ → Option ℕ → Option Ends
ends_left None before next = None
ends_left (Some e) before next = unlinked_ends e before next

-- the chain with a thread after its last
abbrev pub linked_records : List (Option Record) → Option Ends → ℕ → ℕ → Want
    → List (Option Record)
linked_records records None key thread want =
    slice_set records thread (Some (standing_record key want None))
linked_records records (Some e) key thread want =
    with_next (slice_set records thread (Some (standing_record key want None))) e.last (Some thread)

abbrev pub linked_ends : Option Ends → ℕ → Ends
linked_ends None thread = ends thread thread
linked_ends (Some e) thread = ends e.first thread
