-- Numbers in fields of bits and of octets, the most significant first.
use Rattle.std.specs.Prelude.{ℕ, zero, suc, ◌+◌, ◌-◌, ◌*◌, ◌/◌, ◌%◌, ◌^◌, ◌<◌, ◌≤◌, List, [], ◌∷◌, length, ℤ, pos, negsuc, nat_lt, if◌then◌else◌}

-- the digits of a number to the base, in so many places
abbrev pub digits : ℕ → ℕ → ℕ → List ℕ
digits base zero n = []
digits base (suc places) n = (n / base ^ places) % base ∷ digits base places n

-- the number that digits to the base make
abbrev pub number : ℕ → List ℕ → ℕ
number base [] = 0
number base (digit ∷ lower) = digit * base ^ length lower + number base lower

-- a number in so many octets, and the number that octets make
abbrev pub octets_of : ℕ → ℕ → List ℕ
octets_of count n = digits 256 count n

-- the number that octets make
abbrev pub number_of : List ℕ → ℕ
number_of octets = number 256 octets

-- a number in two's complement of so many bits, as an unsigned one
abbrev pub twos_complement : ℕ → ℤ → ℕ
twos_complement bits (pos n) = n
twos_complement bits (negsuc n) = 2 ^ bits - suc n

-- the signed number that an unsigned one of so many bits stands for in two's complement
abbrev pub signed_of : ℕ → ℕ → ℤ
signed_of bits n = if nat_lt (2 * n) (2 ^ bits) then pos n else negsuc (2 ^ bits - suc n)

-- a signed number in so many octets, and the signed number that octets make
abbrev pub signed_octets_of : ℕ → ℤ → List ℕ
signed_octets_of count z = octets_of count (twos_complement (8 * count) z)

-- the signed number that octets make in two's complement
abbrev pub signed_number_of : List ℕ → ℤ
signed_number_of octets = signed_of (8 * length octets) (number_of octets)

-- a field of a packet has 1 to 16 octets
abbrev pub IsFieldWidth : ℕ → Type 0
IsFieldWidth octets = (1 ≤ octets) × (octets ≤ 16)

-- so many octets hold the number in two's complement
abbrev pub FitsSignedOctets : ℕ → ℤ → Type 0
FitsSignedOctets octets (pos n) = 2 * n < 2 ^ (8 * octets)
FitsSignedOctets octets (negsuc n) = 2 * suc n ≤ 2 ^ (8 * octets)
