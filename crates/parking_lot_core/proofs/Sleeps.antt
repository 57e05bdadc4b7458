-- The end of a sleep that was told something, or that gave up.
use Rattle.core_words.specs.declared.words.Word.{Word}
use Rattle.core_base.specs.declared.wants.Want.{Want}
use Rattle.parking_lot_core.specs.Sleeps.{IsWoken, IsSlept, WasLate}
use Rattle.parking_lot_core.specs.declared.lot.ParkingLot.{ParkingLot}
use Rattle.parking_lot_core.specs.declared.sleep.Slept.{Slept}
use Rattle.parking_lot_core.specs.declared.sleep.Slept.TheVariants.{Woken, Handed, Late}
use Rattle.parking_lot_core.specs.declared.tokens.Token.{Token}

pub woken_slept : (lot : ParkingLot) (token : Token) (word : Word) (wanted : Want) (slept : Slept)
    → IsWoken lot word wanted slept → IsSlept lot token word wanted slept
woken_slept lot token word wanted (Woken note) woken = woken
woken_slept lot token word wanted (Handed right) woken = woken
woken_slept lot token word wanted (Late section key place) woken = absurd woken

pub woken_not_late : (lot : ParkingLot) (word : Word) (wanted : Want) (slept : Slept)
    → IsWoken lot word wanted slept → WasLate slept → ⊥
woken_not_late lot word wanted (Woken note) woken late = late
woken_not_late lot word wanted (Handed right) woken late = late
woken_not_late lot word wanted (Late section key place) woken late = woken
