-- What a thread is about to do.
use Rattle.std.specs.Prelude.{ℕ}
use Rattle.steps_base.specs.declared.acts.Act.{Act}
use Rattle.steps_base.specs.declared.acts.Act.TheVariants.{Rest, Word, HandOver, Enter, Park, Stand, Take}
use Rattle.steps_base.specs.declared.acts.Act.TheVariants.{Requeue, Remove, Leave, Sleep, Accept, Closure}
use Rattle.steps_base.specs.declared.acts.Act.TheVariants.{End}
use Rattle.lot_steps.specs.Steps.{act_of}
use Rattle.lot_machine.specs.Machine.{State, place_at, word_at}
use Rattle.lot_picture.specs.declared.dues.Due.{Due}

-- the word that an act reads or changes, or 0
abbrev pub word_found : State → Act → ℕ
word_found w Rest = 0
word_found w (Word lock op) = word_at w lock
word_found w (HandOver lock op) = word_at w lock
word_found w (Enter keys) = 0
word_found w (Park lock key check _) = word_at w lock
word_found w (Stand key _) = 0
word_found w (Take key whom) = 0
word_found w (Requeue from to how) = 0
word_found w (Remove key) = 0
word_found w (Leave keys wakes) = 0
word_found w Sleep = 0
word_found w Accept = 0
word_found w (Closure state) = 0
word_found w (End answer) = 0

-- the next act of a thread, and the word that it finds
abbrev pub due_at : State → ℕ → Due
due_at w t = record { act = act_of (place_at w t); word = word_found w (act_of (place_at w t)) }
