use Rattle.std.proofs.Common.{ap, subst, sym, ◌∙◌}
use Rattle.atomic_table.specs.declared.shared.Seat.{Seat}
use Rattle.core_parts.specs.declared.slot.PermitSlot.{PermitSlot}
use Rattle.core_words.specs.Permits.{slots_of}
use Rattle.core_words.specs.Plays.{BringsNoName}
use Rattle.core_words.specs.declared.views.View.{View}
use Rattle.core_words.proofs.Seats.{goes_on_as}
use Rattle.core_words.proofs.table.LotWords.join_owning.Goals as goal

pub join_seat-requires : goal.join_seat-requires
join_seat-requires c = let lot = c.args.self.now in let sized = lot.sized in let sized₀ = sized.0
    in let family = lot.table.shared.key.1.family in
    let thread = c.replace-thread.result in let owner = c.replace-thread.new.dest in
    let was = c.replace-thread.ensures.value in let is = c.replace-thread.ensures.after in let laid =
    c.put_back_permit.ensures.laid in (
      ap (λ s. s.table_id) is ∙ c.requires.own.1.0,
      ap (λ s. s.table_id) was ∙ c.put_back_permit.ensures.own.0,
      ap (λ s. s.me.1) was ∙ c.put_back_permit.ensures.own.1 ∙ ap (λ v. slots_of family v.out) laid,
      goes_on_as lot.table.shared.key.0 family owner.id owner.me.0 thread.id thread.me.0 (ap (λ s.
          s.me.0.drawn) is ∙ c.requires.left) (ap (λ s. s.me.0.out) was ∙ ap (λ v. v.out) laid)
          (subst (λ (s : Seat PermitSlot View). BringsNoName s.me.0) (sym is) c.requires.nameless),
    )
