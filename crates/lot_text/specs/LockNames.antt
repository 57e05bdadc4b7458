-- The names of locks.
use Rattle.std.specs.Prelude.{ℕ, ◌≡◌, ◌<◌, slice_index_or, Bool, false, ◌-◌, ◌==◌, ◌&&◌, ◌||◌, List, [], ◌∷◌}
use Rattle.std.specs.Prelude.{◌++◌, length, nat_le, nat_lt, replicate, Option, Some, None, if◌then◌else◌}
use Rattle.std.specs.List.{before_first, list_all, position}
use Rattle.std.specs.Str.{bytes_eq}

abbrev pub is_letter : ℕ → Bool
is_letter c = nat_le 97 c && nat_le c 122

abbrev pub is_digit : ℕ → Bool
is_digit c = nat_le 48 c && nat_le c 57

-- a text of lower-case letters and digits
abbrev pub are_name_bytes : List ℕ → Bool
are_name_bytes word = list_all (λ b. is_letter b || is_digit b) word

-- a lower-case letter, and then up to 15 lower-case letters or digits
abbrev pub is_name : List ℕ → Bool
is_name [] = false
is_name (c ∷ cs) = is_letter c && (nat_lt (length cs) 16 && are_name_bytes cs)

abbrev pub name_of : List ℕ → Option (List ℕ)
name_of word = if is_name word then Some word else None

-- the number of the lock that has a name, where the locks have these names
abbrev pub lock_named : List (List ℕ) → List ℕ → Option ℕ
lock_named names name = position (λ other. bytes_eq other name) names

-- each name is found where it stands, so it stands nowhere else
abbrev pub NamesAreDistinct : List (List ℕ) → Type 0
NamesAreDistinct names =
    (k : ℕ) → k < length names → lock_named names (slice_index_or names k []) ≡ Some k

-- a name is kept in 16 bytes, with zeros after it
abbrev pub padded : List ℕ → List ℕ
padded name = name ++ replicate (16 - length name) 0

abbrev pub spelled : List ℕ → List ℕ
spelled bytes = before_first (λ b. b == 0) bytes
