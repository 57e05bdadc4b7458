-- A reader-writer call whose time is up: it sleeps in the line that its row says, and stands there still.
use Rattle.lot_laws.proofs.Imports
use Imports.{Some, None, ◌≡◌, refl, ap, RwLockAt, rwlock_next, next_at, patience_of, Admission, RwLockPlace}
use Imports.{rwlock_late_line, late_line_at, parked_hand as rwlock_hand, RwLockCallPlace, Plain, PeekQueue}
use Imports.{HandOver, Bump as BumpCall, Handed, call_late_line, call_profile, bump_next, call_next, plain_next}
use Rattle.steps_rwlock.specs.declared.places.RwLockAt.TheVariants as at
use Rattle.steps_rwlock.specs.declared.park.ParkAt.TheVariants as parking
use Rattle.core_base.specs.declared.keys.Line.{Line}
use Rattle.steps_base.specs.declared.acts.Reply.TheVariants as reply
use Rattle.steps_base.specs.declared.acts.Next.TheVariants as next

-- the thread sleeps in a line, and stands there still
late_place : (a : Admission) (p : RwLockPlace) (m : Line) → rwlock_late_line p ≡ Some m
    → (p2 : RwLockPlace) × (rwlock_next a p reply.Late ≡ next.At p2) × (rwlock_hand p.at ≡ None)
    × (rwlock_hand p2.at ≡ None)
late_place a p m h = by_place p.at refl h
  where
    by_place : (to : RwLockAt) → p.at ≡ to → late_line_at (patience_of p.purpose) to ≡ Some m
        → (p2 : RwLockPlace) × (rwlock_next a p reply.Late ≡ next.At p2) × (rwlock_hand p.at ≡ None)
        × (rwlock_hand p2.at ≡ None)
    by_place (at.Park parking.Asleep) e h = (
      record p { at = at.Park parking.Remove },
      ap (λ x. next_at a p x reply.Late) e,
      ap rwlock_hand e,
      refl,
    )
    by_place (at.Aside parking.Asleep) e h = (
      record p { at = at.Aside parking.Remove },
      ap (λ x. next_at a p x reply.Late) e,
      ap rwlock_hand e,
      refl,
    )
    by_place (at.Park to) e h = absurd cc
    by_place (at.Aside to) e h = absurd cc
    by_place to e h = absurd cc

pub call_late : (a : Admission) (c : RwLockCallPlace) (m : Line) → call_late_line c ≡ Some m
    → (d : RwLockCallPlace) × (call_next a c reply.Late ≡ next.At d) × ((call_profile a c).hand ≡ None)
    × ((call_profile a d).hand ≡ None)
call_late a (Plain p) m h = let z = late_place a p m h in (Plain z.0, ap plain_next z.1, z.2, z.3)
call_late a (BumpCall p) m h = let z = late_place a p m h in (
  BumpCall z.0,
  ap (bump_next p.purpose) z.1,
  z.2,
  z.3,
)
call_late a (PeekQueue x) m h = absurd cc
call_late a (HandOver x b to) m h = absurd cc
call_late a (Handed x how b to) m h = absurd cc

-- the thread's line stands in its row
pub late_row : (a : Admission) (c : RwLockCallPlace) → (call_profile a c).late_line ≡ call_late_line c
late_row a (Plain p) = refl
late_row a (BumpCall p) = refl
late_row a (PeekQueue x) = refl
late_row a (HandOver x b to) = refl
late_row a (Handed x how b to) = refl
