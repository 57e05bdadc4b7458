-- A thread leaves a chain or comes after its last, by what is seen of the chains.
use Rattle.std.proofs.Common.{ℕ, ◌≡◌, ◌≤◌, ◌<◌, inl, inr, List, [], ◌∷◌, ◌++◌, Option, Some, None, IfSome}
use Rattle.std.proofs.Common.{length, refl, sym, ap, subst, ◌∙◌, arith, length-set}
use Rattle.std.specs.Prelude.{slice_index_or, slice_set}
use Rattle.std.proofs.lemmas.Bool.{cases_lt}
use Rattle.std.proofs.lemmas.List.{get_or_read}
use Rattle.core_base.specs.declared.wants.Waiter.{Waiter}
use Rattle.core_base.specs.declared.wants.Want.{Want}
use Rattle.core_base.specs.Lines.{waiter, times, without, first_of, queued_under}
use Rattle.core_queues.specs.Chains.{bucket_of, rest_after, joined}
use Rattle.core_queues.specs.Links.{standing_record, leading, with_next, record_of, next_of, key_of_record}
use Rattle.core_queues.specs.Links.{first_in, Leads, EndsAt, IsLinked, chains_of, unlinked_records, ends_left}
use Rattle.core_queues.specs.Links.{linked_records, linked_ends}
use Rattle.core_queues.specs.declared.records.Record.{Record}
use Rattle.core_queues.specs.declared.records.Ends.{Ends}
use Rattle.core_queues.proofs.Leads.{leads_afterwards, seated}
use Rattle.core_queues.proofs.Changes.{IsAfter}
use Rattle.core_queues.proofs.Linked.{shown_is, one_leaves, one_comes, key_found, gone}
use Rattle.core_queues.proofs.Found.{first_stands}

-- a thread that stands has a place among the records
pub place : (records : List (Option Record)) (from : Option ℕ) (xs : List Waiter) (thread : ℕ)
    → Leads records from xs → 1 ≤ times thread xs → thread < length records
place records from xs thread a h = elim (cases_lt thread (length records)) [
  | inl fits ↦ fits
  | inr past ↦ absurd (omega (arith, (seated records from xs a).below thread past))
]

pub places : (records : List (Option Record)) (from : Option ℕ) (xs : List Waiter) (before : Option ℕ)
    → Leads records from xs → IfSome before (λ b. 1 ≤ times b xs) → IfSome before (λ b. b < length records)
places records from xs None a h = tt
places records from xs (Some b) a h = place records from xs b a h

pub last_place : (records : List (Option Record)) (had : Option Ends) (xs : List Waiter)
    → Leads records (first_in had) xs → EndsAt records had xs → IfSome had (λ e. e.last < length records)
last_place records None xs a h = tt
last_place records (Some e) xs a h = place records (Some e.first) xs e.last a h.0

head_is : (xs : List Waiter) (thread : ℕ) → first_of xs ≡ Some thread → (records : List (Option Record))
    (from : Option ℕ) → Leads records from xs → from ≡ Some thread
head_is [] thread first records from a = let e : None ≡ Some thread = first in absurd cc
head_is (x ∷ xs) thread first records from a = a.0 ∙ first

pub first_there : (before : Option ℕ) (xs : List Waiter) (thread : ℕ) → first_of (rest_after before xs)
    ≡ Some thread → 1 ≤ times thread xs
first_there before xs thread first = go (rest_after before xs) refl where
  go : (zs : List Waiter) → rest_after before xs ≡ zs → 1 ≤ times thread xs
  go [] is = let e : None ≡ Some thread = sym (ap first_of is) ∙ first in absurd cc
  go (y ∷ ys) is = let e : Some y.thread ≡ Some thread = sym (ap first_of is) ∙ first in let same : y.thread
      ≡ thread = cc in subst (λ (t : ℕ). 1 ≤ times t xs) same (first_stands before xs y ys is)

is_after : (records : List (Option Record)) (e : Ends) (xs : List Waiter) (before : Option ℕ) (thread : ℕ)
    → Leads records (Some e.first) xs → IfSome before (λ b. 1 ≤ times b xs) → first_of (rest_after before xs)
    ≡ Some thread → IsAfter records e before thread xs
is_after records e xs None thread a stands first = let h : Some e.first ≡ Some thread =
    head_is xs thread first records (Some e.first) a in (cc)
is_after records e xs (Some b) thread a stands first = (
  stands,
  head_is (rest_after (Some b) xs) thread first records (next_of records b)
      (leads_afterwards records (Some e.first) xs b a stands),
)

nobody_first : (before : Option ℕ) (xs : List Waiter) (thread : ℕ) → xs ≡ [] → first_of (rest_after before xs)
    ≡ Some thread → Some thread ≡ None
nobody_first None xs thread empty first = sym first ∙ ap first_of empty
nobody_first (Some b) xs thread empty first = sym first
    ∙ ap (λ (l : List Waiter). first_of (rest_after (Some b) l)) empty

-- a thread has left
pub left : (records : List (Option Record)) (buckets : List (Option Ends)) (bits : ℕ)
    (chains : List (List Waiter)) (b : ℕ) (had : Option Ends) (before : Option ℕ) (thread : ℕ)
    → IsLinked records buckets bits chains → b < length buckets → slice_index_or buckets b None ≡ had
    → IfSome before (λ b'. 1 ≤ times b' (slice_index_or chains b []))
    → first_of (rest_after before (slice_index_or chains b [])) ≡ Some thread
    → IsLinked (unlinked_records records before thread) (slice_set buckets b
    (ends_left had before (next_of records thread))) bits
    (slice_set chains b (without thread (slice_index_or chains b [])))
left records buckets bits chains b None before thread linked fits is stands first =
    let empty : slice_index_or chains b [] ≡ [] =
    subst (λ (h : Option Ends). EndsAt records h (slice_index_or chains b [])) is (linked.ends b) in
    let e : Some thread ≡ None = nobody_first before (slice_index_or chains b []) thread empty first in
    absurd cc
left records buckets bits chains b (Some e) before thread linked fits is stands first =
    let xs : List Waiter = slice_index_or chains b [] in
    let leads : Leads records (Some e.first) xs = subst (λ (h : Option Ends). Leads records (first_in h) xs)
    is (linked.leads b) in
    one_leaves records buckets bits chains b e before thread linked fits is
    (is_after records e xs before thread leads stands first) (first_there before xs thread first)

none_standing : (r : Option Record) → key_of_record r ≡ None → r ≡ None
none_standing None h = refl
none_standing (Some r) h = let e : Some r.key ≡ None = h in absurd cc

pub no_record : (records : List (Option Record)) (buckets : List (Option Ends)) (bits : ℕ)
    (chains : List (List Waiter)) (thread : ℕ) → IsLinked records buckets bits chains
    → queued_under thread (joined chains) ≡ None → record_of records thread ≡ None
no_record records buckets bits chains thread linked alone = none_standing (record_of records thread)
    (sym (key_found records buckets bits chains thread linked) ∙ alone)

-- the queues that are shown are linked
pub as_shown : (records : List (Option Record)) (buckets : List (Option Ends)) (bits : ℕ)
    (chains : List (List Waiter)) → IsLinked records buckets bits chains → IsLinked records buckets bits
    (chains_of records buckets)
as_shown records buckets bits chains linked =
    subst (λ (l : List (List Waiter)). IsLinked records buckets bits l)
    (sym (shown_is records buckets bits chains linked)) linked

pub gone_from : (records : List (Option Record)) (before : Option ℕ) (buckets : List (Option Ends)) (bits : ℕ)
    (chains : List (List Waiter)) (thread : ℕ) → IsLinked (unlinked_records records before thread) buckets
    bits chains → queued_under thread (joined (chains_of (unlinked_records records before thread) buckets))
    ≡ None
gone_from records before buckets bits chains thread linked =
    key_found (unlinked_records records before thread) buckets bits
    (chains_of (unlinked_records records before thread) buckets) thread
    (as_shown (unlinked_records records before thread) buckets bits chains linked)
    ∙ ap key_of_record (gone records before thread)

-- a thread that leaves has gone, by what the calls return that do it
pub left_now : (records others : List (Option Record)) (buckets : List (Option Ends)) (bits b : ℕ)
    (had new : Option Ends) (before next : Option ℕ) (thread : ℕ) → IsLinked records buckets bits
    (chains_of records buckets) → b < length (chains_of records buckets) → had ≡ slice_index_or buckets b had
    → IfSome before (λ b'. 1 ≤ times b' (slice_index_or (chains_of records buckets) b []))
    → first_of (rest_after before (slice_index_or (chains_of records buckets) b [])) ≡ Some thread
    → next ≡ next_of records thread → others ≡ unlinked_records records before thread
    → new ≡ ends_left had before next → IsLinked others (slice_set buckets b new) bits
    (slice_set (chains_of records buckets) b
    (without thread (slice_index_or (chains_of records buckets) b [])))
left_now records others buckets bits b had new before next thread linked within read stands first is_next
    is_others is_new =
    let each = linked.each in
    let fits : b < length buckets = omega arith in
    let is_had : slice_index_or buckets b None ≡ had = sym (get_or_read buckets b had fits read None) in
    rw (is_others, is_new, is_next) (left records buckets bits (chains_of records buckets) b had before thread
    linked fits is_had stands first)

pub come_now : (records others : List (Option Record)) (buckets : List (Option Ends)) (bits b key thread : ℕ)
    (wanted : Want) (had : Option Ends) (new : Ends) → IsLinked records buckets bits
    (chains_of records buckets) → b < length (chains_of records buckets) → b ≡ bucket_of bits key
    → had ≡ slice_index_or buckets b had → queued_under thread (joined (chains_of records buckets)) ≡ None
    → thread < length records → others ≡ linked_records records had key thread wanted
    → new ≡ linked_ends had thread → IsLinked others (slice_set buckets b (Some new)) bits
    (slice_set (chains_of records buckets) b (slice_index_or (chains_of records buckets) b []
    ++ waiter key thread wanted ∷ []))
come_now records others buckets bits b key thread wanted had new linked within bucket read alone below
    is_others is_new =
    let each = linked.each in
    let fits : b < length buckets = omega arith in
    let is_had : had ≡ slice_index_or buckets b None = get_or_read buckets b had fits read None in
    rw (is_others, is_new, is_had) (one_comes records buckets bits (chains_of records buckets) b key thread
    wanted linked fits (sym bucket) (no_record records buckets bits (chains_of records buckets) thread
    linked alone) below)

pub length-unlinked : (records : List (Option Record)) (before : Option ℕ) (thread : ℕ)
    → length (unlinked_records records before thread) ≡ length records
length-unlinked records None thread = length-set records thread None
length-unlinked records (Some before) thread = length-set (with_next records before (next_of records thread))
    thread None ∙ length-set records before (leading (record_of records before) (next_of records thread))

pub length-linked : (records : List (Option Record)) (had : Option Ends) (key thread : ℕ) (wanted : Want)
    → length (linked_records records had key thread wanted) ≡ length records
length-linked records None key thread wanted =
    length-set records thread (Some (standing_record key wanted None))
length-linked records (Some e) key thread wanted =
    length-set (slice_set records thread (Some (standing_record key wanted None))) e.last _
    ∙ length-set records thread (Some (standing_record key wanted None))
