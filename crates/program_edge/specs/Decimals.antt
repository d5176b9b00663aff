-- Numbers among the words of a command.
use Rattle.std.specs.Prelude.{ℕ, Bool, false, not, ◌&&◌, ◌==◌, nat_le, List, [], ◌∷◌, length, Option, Some, None, if◌then◌else◌}
use Rattle.std.specs.List.{list_all}
use Rattle.message_words.specs.Numbers.{wide_number_in}

-- a decimal digit
abbrev pub is_digit : ℕ → Bool
is_digit octet = nat_le 48 octet && nat_le octet 57

-- a zero stands in front of others
abbrev pub has_leading_zero : List ℕ → Bool
has_leading_zero [] = false
has_leading_zero (octet ∷ []) = false
has_leading_zero (octet ∷ next ∷ octets) = octet == 48

-- decimal digits without a sign, and without a zero in front of others
abbrev pub is_decimal : List ℕ → Bool
is_decimal word = not (length word == 0) && (not (has_leading_zero word) && list_all is_digit word)

-- the number that a word is, if it is decimal and within bounds
abbrev pub number_within : ℕ → ℕ → List ℕ → Option ℕ
number_within least most word =
    let n = wide_number_in word in
    if is_decimal word && (nat_le least n && nat_le n most) then Some n else None
