use Rattle.std.proofs.Common.{◌≡◌, ◌<◌, Some, length, get_or, sym, ap, ◌∙◌, subst}
use Rattle.std.proofs.lemmas.List.{get_or_default}
use Rattle.lot_steps.specs.declared.places.Place.TheVariants.{Idle}
use Rattle.lot_steps.specs.Steps.{respins_from}
use Rattle.lot_machine.specs.Machine.{State}
use Rattle.lot_machine.specs.Fits.{IsWellFormed}
use Rattle.lot_machine.proofs.Shape.{looks_fit, looks_keyed, spun, spun_told}
use Rattle.lot_machine.proofs.machine.Machine.spin.Goals as goal

pub returns-in-Some-clause-state : goal.returns-in-Some-clause-state
returns-in-Some-clause-state g c =
    let there : c.args.thread < length c.self.inside.places.items =
    subst (λ (w : State). c.args.thread < length w.places) (sym c.self.view_is) c.requires.1 in
    let is : respins_from (get_or c.self.inside.places.items c.args.thread Idle) ≡ Some c.in-Some.place =
    ap respins_from (get_or_default c.self.inside.places.items c.args.thread Idle c.index.result.now there
    ∙ sym c.index.ensures) ∙ sym c.in-Some.ensures in
    rw (← c.self.view_is) (spun _ _ c.args.thread c.in-Some.place there is c.go.ensures.state)

pub returns-in-Some-clause-outcome : goal.returns-in-Some-clause-outcome
returns-in-Some-clause-outcome g c =
    let there : c.args.thread < length c.self.inside.places.items =
    subst (λ (w : State). c.args.thread < length w.places) (sym c.self.view_is) c.requires.1 in
    let is : respins_from (get_or c.self.inside.places.items c.args.thread Idle) ≡ Some c.in-Some.place =
    ap respins_from (get_or_default c.self.inside.places.items c.args.thread Idle c.index.result.now there
    ∙ sym c.index.ensures) ∙ sym c.in-Some.ensures in
    spun_told c.self.view_is c.args.thread c.in-Some.place c.go.result there is c.go.ensures.outcome

pub go-requires-clause-keys : goal.go-requires-clause-keys
go-requires-clause-keys g c =
    let there : c.args.thread < length c.self.inside.places.items =
    subst (λ (w : State). c.args.thread < length w.places) (sym c.self.view_is) c.requires.1 in
    let is : respins_from (get_or c.self.inside.places.items c.args.thread Idle) ≡ Some c.in-Some.place =
    ap respins_from (get_or_default c.self.inside.places.items c.args.thread Idle c.index.result.now there
    ∙ sym c.index.ensures) ∙ sym c.in-Some.ensures in
    looks_keyed _ c.args.thread c.in-Some.place (subst (λ (w : State). IsWellFormed w) (sym c.self.view_is)
    c.requires.0) is

pub go-requires-clause-fits : goal.go-requires-clause-fits
go-requires-clause-fits g c =
    let there : c.args.thread < length c.self.inside.places.items =
    subst (λ (w : State). c.args.thread < length w.places) (sym c.self.view_is) c.requires.1 in
    let is : respins_from (get_or c.self.inside.places.items c.args.thread Idle) ≡ Some c.in-Some.place =
    ap respins_from (get_or_default c.self.inside.places.items c.args.thread Idle c.index.result.now there
    ∙ sym c.index.ensures) ∙ sym c.in-Some.ensures in
    looks_fit _ c.args.thread c.in-Some.place (subst (λ (w : State). IsWellFormed w) (sym c.self.view_is)
    c.requires.0) there is
