-- A turn leads where it leads in the world that there is, or is to be made.
use Rattle.std.proofs.Common.{ℕ, Option, Some, None, List, length, cond, inl, inr, ◌≡◌, refl, ap, ◌∙◌, arith}
use Rattle.std.specs.Prelude.{option_and_then}
use Rattle.std.proofs.lemmas.Bool.Decides.{leb_tells}
use Rattle.lot_machine.specs.Machine.{State}
use Rattle.lot_text.specs.declared.grammar.Command.TheVariants as command
use Rattle.lot_text.specs.declared.grammar.NamedTurn.{NamedTurn}
use Rattle.core_base.specs.declared.queues.Queues.{Ghosts}
use Rattle.lot_replay.specs.declared.session.Session.{Session}
use Rattle.lot_replay.specs.Sessions.{session_stage, session_world, stage_with, world_with}
use Rattle.lot_replay.specs.Stages.{ReplayStage, obeyed, played, after_line}
use Rattle.lot_text.specs.Lines.{line_len}
use Rattle.lot_text.specs.Grammar.{meaning}
use Rattle.lot_text.specs.Turns.{named_turn, IsTurn}
use Rattle.lot_text.specs.declared.turns.PlainTurn.{PlainTurn}

pub turn_obeyed : {Q : Type 0} {queues : Ghosts Q} (s : Session Q queues) (t : ℕ) (turn : NamedTurn)
    → obeyed (session_stage s) (command.Turn t turn) ≡ played s.names (session_world s)
    (command.Turn t turn)
turn_obeyed s t turn = by_world s.world
  where
    by_world : (o : Option State) → obeyed (stage_with s.threads s.names s.kinds.items o)
        (command.Turn t turn) ≡ played s.names (world_with s.threads s.kinds.items o)
        (command.Turn t turn)
    by_world None = refl
    by_world (Some w) = refl

-- the line of a plain turn leads where the turn leads
pub turn_after : (stage : ReplayStage) (line : List ℕ) (t : ℕ) (turn : PlainTurn) → IsTurn line t turn
    → after_line stage line ≡ obeyed stage (command.Turn t (named_turn turn))
turn_after stage line t turn h = elim (leb_tells (length line) line_len) [
  | inl fits ↦ ap (λ b. cond b (option_and_then (obeyed stage) (meaning line)) None) fits.0
      ∙ ap (option_and_then (obeyed stage)) h.1
  | inr long ↦ absurd (omega (arith, long.1, h.0))
]
