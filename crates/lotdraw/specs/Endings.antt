-- Why there is no picture.
use Rattle.std.specs.Prelude.{Bool, true, false}
use Rattle.lot_picture.specs.declared.lines.Failure.{Failure}
use Rattle.lot_picture.specs.declared.lines.Failure.TheVariants.{Malformed, NoMemory, Unread, Undrawn}
use Rattle.lot_picture.specs.declared.lines.Failure.TheVariants.{Unwritten}
use Rattle.lotdraw.specs.declared.start.Unfit.{Unfit}
use Rattle.lotdraw.specs.declared.start.Unfit.TheVariants as unfit

-- whether a line has another form
abbrev pub is_malformed : Failure → Bool
is_malformed (Malformed n) = true
is_malformed (NoMemory n) = false
is_malformed Unread = false
is_malformed Undrawn = false
is_malformed Unwritten = false

-- whether nothing may be written: a line has another form, or what was asked for isn't in the schedule
abbrev pub is_silent : Unfit → Bool
is_silent (unfit.Failed failure) = is_malformed failure
is_silent (unfit.Lacks said) = true
