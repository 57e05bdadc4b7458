use Rattle.parking_lot_core.proofs.Sleeps.{woken_slept, woken_not_late}
use Rattle.parking_lot_core.proofs.lot.ParkingLot.sleep.Goals as goal

pub returns-in-Some-take_note-clause-slept : goal.returns-in-Some-take_note-clause-slept
returns-in-Some-take_note-clause-slept g c = woken_slept c.args.self.now c.args.token.now c.args.word
    c.args.want c.in-Some-take_note.told c.in-Some-take_note.ensures

pub returns-in-Some-take_note-clause-unlimited : goal.returns-in-Some-take_note-clause-unlimited
returns-in-Some-take_note-clause-unlimited g c = λ none. c.in-Some-take_note.ensures

pub returns-in-Some-take_note-clause-late : goal.returns-in-Some-take_note-clause-late
returns-in-Some-take_note-clause-late g c = λ late. absurd (woken_not_late c.args.self.now c.args.word
    c.args.want c.in-Some-take_note.told c.in-Some-take_note.ensures late)

pub returns-in-Late-clause-slept : goal.returns-in-Late-clause-slept
returns-in-Late-clause-slept g c = (c.in-Late.ensures.0, c.requires.queued)
