-- How a thread comes into a reentrant mutex, and goes.
use Rattle.std.specs.Prelude.{◌⊎◌}

abbrev pub Between : Type 0 → Type 1
Between Token = Token → Token → Type 0

-- a thread had the mutex and counted once more, or saw that it had it not, took it, and began to count
abbrev pub CameIn : {Token : Type 0} → Between Token → Between Token → Between Token
    → Between Token → Token → Token → Type 0
CameIn {Token} counted_again saw_others took began old new = counted_again old new
    ⊎ ((looked : Token) × (inside : Token) × saw_others old looked × took looked inside
    × began inside new)

-- a thread saw that it had the mutex not, and a try failed
abbrev pub StayedOut : {Token : Type 0} → Between Token → Between Token → Token → Token → Type 0
StayedOut {Token} saw_others failed old new =
    (looked : Token) × saw_others old looked × failed looked new

abbrev pub Both : {Token : Type 0} → Between Token → Between Token → Between Token
Both one other old new = one old new × other old new

-- a thread counted once less, or counted out, and released the mutex
abbrev pub WentOff : {Token : Type 0} → Between Token → Between Token → Between Token → Token
    → Token → Type 0
WentOff {Token} counted_less counted_out gave_up old new = counted_less old new
    ⊎ ((last : Token) × counted_out old last × gave_up last new)

-- a thread saw that it has the mutex more than once, or it counted out, passed the mutex on where another
-- waits and has it again, and began to count
abbrev pub Bumped : {Token : Type 0} → Between Token → Between Token → Between Token
    → Between Token → Token → Token → Type 0
Bumped {Token} saw_more counted_out bumped began old new = saw_more old new
    ⊎ ((last : Token) × (inside : Token) × counted_out old last × bumped last inside
    × began inside new)
