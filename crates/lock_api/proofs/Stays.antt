-- A thread is the same one after one more call.
use Rattle.std.proofs.Common.{inl, inr, subst}
use Rattle.lock_api.specs.Conditions.{WaitedOrNot}

-- after one more wait it is the same thread still
pub stays_afterwards : {Token : Type 0} (keeps_rights : Token → Token → Type 0)
    → ((first next last : Token) → keeps_rights first next → keeps_rights next last → keeps_rights first last)
    → (first next last : Token) → WaitedOrNot keeps_rights first next → keeps_rights next last
    → WaitedOrNot keeps_rights first last
stays_afterwards keeps_rights on first next last (inl same) then = inr
    (subst (λ t. keeps_rights t last) same then)
stays_afterwards keeps_rights on first next last (inr afterwards) then = inr
    (on first next last afterwards then)
