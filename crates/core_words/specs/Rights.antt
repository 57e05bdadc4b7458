-- The word and the owner that a right names.
use Rattle.std.specs.Prelude.{◌≡◌, ◌⊎◌, ◌/◌, ◌==◌, ℕ, List, [], ◌∷◌, Bool, cond, map, true, false}
use Rattle.core_words.specs.Indices.{word_index}
use Rattle.core_words.specs.Views.{owning, with_out}
use Rattle.core_words.specs.Plays.{piece, stepping, takes_in}
use Rattle.core_words.specs.declared.owners.Owner.{Owner}
use Rattle.core_words.specs.declared.owners.Owner.TheVariants.{Exclusive, Pending, Upgrading, Upgradable}
use Rattle.core_words.specs.declared.owners.Owner.TheVariants.{Shared, Runner, Witness}
use Rattle.core_words.specs.declared.owners.Ownership.{Ownership}
use Rattle.core_words.specs.declared.views.View.{View}
use Rattle.core_words.specs.declared.words.Word.{Word}
use Rattle.core_words.specs.declared.words.WordKind.{WordKind}
use Rattle.core_words.specs.declared.words.WordKind.TheVariants.{Mutex, RwLock}
use Rattle.core_base.specs.declared.ops.Op.TheVariants.{Exchange}
use Rattle.core_base.specs.declared.wants.Want as wants

-- a thread that has what was wanted owns the word so
abbrev pub owner_for : wants.Want → Owner
owner_for wants.TheVariants.Exclusive = Exclusive
owner_for wants.TheVariants.Upgradable = Upgradable
owner_for wants.TheVariants.Shared = Shared
owner_for wants.TheVariants.Wait = Witness
owner_for wants.TheVariants.CallOnce = Runner

-- the want of an owner. A writer that waits for the last readers wants to own alone
abbrev pub want_of : Owner → wants.Want
want_of Exclusive = wants.TheVariants.Exclusive
want_of Pending = wants.TheVariants.Exclusive
want_of Upgrading = wants.TheVariants.Exclusive
want_of Upgradable = wants.TheVariants.Upgradable
want_of Shared = wants.TheVariants.Shared
want_of Runner = wants.TheVariants.CallOnce
want_of Witness = wants.TheVariants.Wait

-- how a word may be owned by a thread that was handed what it wants: a reader-writer lock's writer may have
-- to wait for the last readers
abbrev pub MayHand : WordKind → wants.Want → Owner → Type 0
MayHand RwLock wants.TheVariants.Exclusive owner = (owner ≡ Exclusive) ⊎ (owner ≡ Pending)
MayHand _ want owner = owner ≡ owner_for want

-- how a thread that is handed a lock owns it, whose word is left at this value: a mutex alone, and a
-- reader-writer lock by what it wants, where a writer waits for the readers that are left
abbrev pub owner_given : WordKind → ℕ → wants.Want → Owner
owner_given Mutex left _ = Exclusive
owner_given RwLock left wants.TheVariants.Shared = Shared
owner_given RwLock left wants.TheVariants.Upgradable = Upgradable
owner_given RwLock left _ = cond (left / 16 == 0) Exclusive Pending
owner_given _ left want = owner_for want

abbrev pub owners_given : WordKind → ℕ → List wants.Want → List Owner
owners_given kind left wants = map (owner_given kind left) wants

abbrev pub named_by : Word → Owner → Ownership
named_by word owner = owning (word_index word.number word.kind) owner

abbrev pub piece_of : Word → Owner → View
piece_of word owner = piece (named_by word owner)

-- whether the permit of its value goes along with an ownership: it does with a mutex
abbrev pub takes_permit : WordKind → Owner → Bool
takes_permit Mutex Exclusive = true
takes_permit _ owner = false

-- the view of a thread that owns a mutex and nothing else, with its permit out
abbrev pub with_permit : Word → View
with_permit word = with_out (word_index word.number word.kind ∷ []) (piece_of word Exclusive)

-- the view of a right's seat: it owns this and nothing else, with the permit that goes along
abbrev pub handed_view : Word → Owner → View
handed_view word owner = cond (takes_permit word.kind owner) (with_permit word) (piece_of word owner)

-- the view after the exchange that leaves a mutex where nobody waits, which saw this: where it missed, the
-- mutex is owned still
abbrev pub leaving_alone : View → Word → ℕ → View
leaving_alone v word seen = let at = word_index word.number word.kind in
    cond (seen == 1) (stepping v at (Exchange 1 0) seen)
    (stepping (takes_in v (piece_of word Exclusive)) at (Exchange 1 0) seen)
