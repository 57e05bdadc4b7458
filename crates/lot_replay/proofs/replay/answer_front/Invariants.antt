use Rattle.std.proofs.Common.{◌≡◌, ◌≤◌, ◌-◌, length, drop, None}
use Rattle.lot_text.specs.Sent.{Puts}
use Rattle.lot_replay.specs.Fronts.{AnswersFront}
use Rattle.lot_replay.specs.Sessions.{replay_stage_of}
use Rattle.lot_replay.proofs.replay.answer_front.Given as goal

abbrev pub invariant-loop-first : goal.invariant-loop-first
invariant-loop-first g l =
    (l.front.len ≤ length l.shown)
    × (l.front.lines ≤ l.front.len)
    × (l.front.refusal ≡ None)
    × AnswersFront l.shown (drop l.front.len l.shown) l.front.lines (replay_stage_of l.initial.state.session)
    (replay_stage_of l.state.session) (Puts (g.W.Write.contents l.initial.writer)
    (g.W.Write.contents l.writer) l.initial.page l.page)

abbrev pub decreases-loop-first : goal.decreases-loop-first
decreases-loop-first g l = length l.shown - l.front.len
