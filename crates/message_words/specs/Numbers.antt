-- The numbers that words stand for. Any word stands for some number: the words of that number are others where it isn't one.
use Rattle.std.specs.Prelude.{ℕ, ◌+◌, ◌-◌, ◌*◌, ◌^◌, min, ℤ, pos, neg_ℤ, List, [], ◌∷◌, ◌==◌, nat_lt, if◌then◌else◌}

-- a number with one digit more, up to the most
abbrev pub with_digit : ℕ → ℕ → ℕ → ℕ
with_digit most n octet = min most (10 * n + (octet - 48))

-- the number that digits go on to behind a number, up to the most
abbrev pub number_from : ℕ → ℕ → List ℕ → ℕ
number_from most n [] = n
number_from most n (octet ∷ octets) = number_from most (with_digit most n octet) octets

-- a number of 32 bits
abbrev pub number_in : List ℕ → ℕ
number_in word = number_from (2 ^ 32 - 1) 0 word

-- a number of 64 bits
abbrev pub wide_number_in : List ℕ → ℕ
wide_number_in word = number_from (2 ^ 64 - 1) 0 word

-- a value of 128 bits, negative behind a minus
abbrev pub value_in : List ℕ → ℤ
value_in [] = pos 0
value_in (octet ∷ octets) = if octet == 45 then neg_ℤ (pos (number_from (2 ^ 127) 0 octets)) else pos (number_from (2 ^ 127 - 1) 0 (octet ∷ octets))

-- a digit to the base 16
abbrev pub hex_value : List ℕ → ℕ
hex_value [] = 0
hex_value (octet ∷ octets) = if nat_lt octet 58 then octet - 48 else octet - 87
