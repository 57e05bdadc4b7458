-- A thread after a wait.
use Rattle.std.proofs.Common.{inl, inr, subst}
use Rattle.core_base.specs.declared.faults.Fault.{Fault}
use Rattle.lock_api.specs.Conditions.{WaitedOrNot}
use Rattle.lock_monitor.specs.Conditions.{IsRefusedAtLast}
use Rattle.lock_raw.specs.Answers.{IsRefusal}

-- the thread is the same after one more wait, and after all before it
pub stays_after : {Token : Type 0} (keeps_rights : Token → Token → Type 0)
    → ((first next last : Token) → keeps_rights first next → keeps_rights next last → keeps_rights first last)
    → (first next last : Token) → WaitedOrNot keeps_rights first next → keeps_rights next last
    → keeps_rights first last
stays_after keeps_rights on first next last (inl same) then = subst (λ t. keeps_rights t last) same then
stays_after keeps_rights on first next last (inr afterwards) then = on first next last afterwards then

-- a refusal is one at last
pub refused_at_last : {Token : Type 0} (found_full : Token → Token → Type 0) (old new : Token) (fault : Fault)
    → IsRefusal found_full old new fault → IsRefusedAtLast found_full new fault
refused_at_last found_full old new fault (inl refused) = inl refused.0
refused_at_last found_full old new fault (inr refused) = inr (refused.0, (old, refused.1))
