-- Cells: each says what a thread is to a lock, by the views of their world.
use Rattle.std.specs.Prelude.{ℕ, Bool, false, Option, Some, None, if◌then◌else◌, ◌+◌, ◌*◌, ◌==◌, ◌||◌, List}
use Rattle.std.specs.Prelude.{[], ◌∷◌}
use Rattle.steps_base.specs.declared.owners.Owner.{Owner}
use Rattle.core_base.specs.declared.wants.Waiter.{Waiter}
use Rattle.lot_steps.specs.declared.places.Place.{Place}
use Rattle.lot_steps.specs.Steps.{owes_on, retries_on, taker, calls}
use Rattle.lot_machine.specs.Machine.{State, place_at, section_at}
use Rattle.lot_machine.specs.Views.{owners_of, queue_of}
use Rattle.lot_picture.specs.declared.cells.Cell.{Cell}
use Rattle.lot_picture.specs.declared.cells.Deed.{Deed}
use Rattle.lot_picture.specs.declared.cells.Deed.TheVariants.{Owes, Waits, WaitsAside, Retries, Taken, Calls}

-- the first right of a thread among these
abbrev pub right_among : List (Owner × ℕ) → ℕ → Option Owner
right_among [] t = None
right_among (r ∷ rs) t = if r.1 == t then Some r.0 else right_among rs t

-- whether this thread is inside a section
abbrev pub is_thread : ℕ → Option ℕ → Bool
is_thread t None = false
is_thread t (Some s) = s == t

-- whether a thread is inside one of the two sections of a lock
abbrev pub is_inside_lock : State → ℕ → ℕ → Bool
is_inside_lock w t l = is_thread t (section_at w (2 * l)) || is_thread t (section_at w (2 * l + 1))

-- how a thread waits that stands under a key of a lock
abbrev pub waiting_under : ℕ → ℕ → Deed
waiting_under l key = if key == 2 * l then Waits else WaitsAside

-- how a thread waits among these
abbrev pub waits_among : List Waiter → ℕ → ℕ → Option Deed
waits_among [] t l = None
waits_among (x ∷ xs) t l = if x.thread == t then Some (waiting_under l x.key) else waits_among xs t l

-- the deed of a thread that neither owes, nor stands in a queue, nor tries again, where it was
-- taken or not by one that is inside
abbrev pub call_deed : State → Place → ℕ → Option ℕ → Option Deed
call_deed w p l None = if calls p l then Some Calls else None
call_deed w p l (Some by) =
    if is_inside_lock w by l then Some Taken
    else if calls p l then Some Calls else None

abbrev pub waking_deed : State → Place → ℕ → Option Deed
waking_deed w p l = if retries_on p l then Some Retries else call_deed w p l (taker p)

abbrev pub or_deed : Option Deed → Option Deed → Option Deed
or_deed (Some d) other = Some d
or_deed None other = other

-- the deed of a thread's call at a lock
abbrev pub deed_of : State → ℕ → ℕ → Option Deed
deed_of w t l =
    if owes_on (place_at w t) l then Some Owes
    else or_deed (waits_among (queue_of w l) t l) (waking_deed w (place_at w t) l)

-- the part of a thread at a lock
abbrev pub cell_at : State → ℕ → ℕ → Cell
cell_at w t l = record {
  right = right_among (owners_of w l) t;
  deed = deed_of w t l;
  is_inside = is_inside_lock w t l;
}
