-- One look after another.
use Rattle.std.specs.Prelude.{◌≡◌, Result, Ok, Err, refl}
use Rattle.std.proofs.Common.{ap, ◌∙◌}
use Rattle.lock_values.specs.declared.errors.ThenError.{ThenError}
use Rattle.lock_values.specs.declared.errors.ThenError.TheVariants.{First, Second}

abbrev pub second_found : {A E F : Type 0} → Result A F → Result A (ThenError E F)
second_found (Ok x) = Ok x
second_found (Err e) = Err (Second e)

-- the finding of the second in that of the first
abbrev pub found_after : {A B E F : Type 0} → Result A E → (A → Result B F) → Result B (ThenError E F)
found_after (Ok x) finds = second_found (finds x)
found_after (Err e) finds = Err (First e)

-- one value is written to what the second finds, and another to what the first found
abbrev pub written_after : {A B E X : Type 0} → Result A E → (A → B → A) → (A → X) → X → B → X
written_after (Ok x) inner outer value next = outer (inner x next)
written_after (Err e) inner outer value next = value

-- only what the second found is found after the first
pub found_second : {A E F : Type 0} (one : Result A F) (found : A) → second_found {E = E} one ≡ Ok found
    → one ≡ Ok found
found_second {E = E} (Ok x) found at = let same : x ≡ found = cc in ap Ok same
found_second (Err e) found at = cc

module _ {X A B E F : Type 0}
    (finds : X → Result A E) (written : X → A → X)
    (finds_written : (value : X) (found next : A) → finds value ≡ Ok found → finds (written value next)
    ≡ Ok next)
    (inner : A → Result B F) (inner_written : A → B → A)
    (inner_finds : (value : A) (found next : B) → inner value ≡ Ok found → inner (inner_written value next)
    ≡ Ok next)
  where
    found_by : (value : X) (one : Result A E) (found next : B) → finds value ≡ one → found_after one inner
        ≡ Ok found
        → found_after (finds (written_after one inner_written (written value) value next)) inner ≡ Ok next
    found_by value (Ok x) found next is at =
        let outer : finds (written value (inner_written x next)) ≡ Ok (inner_written x next) =
        finds_written value x (inner_written x next) is in
        let deep : inner (inner_written x next) ≡ Ok next =
        inner_finds x found next (found_second {E = E} (inner x) found at) in
        ap (λ one. found_after one inner) outer ∙ ap second_found deep
    found_by value (Err e) found next is at = cc

    -- a value that was written is found
    pub found_after_written : (value : X) (found next : B) → found_after (finds value) inner ≡ Ok found
        → found_after (finds (written_after (finds value) inner_written (written value) value next)) inner
        ≡ Ok next
    found_after_written value found next at = found_by value (finds value) found next refl at
