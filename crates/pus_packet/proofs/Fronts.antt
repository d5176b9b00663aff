-- The first seven octets of a packet, which are alike in both directions.
use Rattle.std.proofs.Common.{arith, ◌≡◌, refl, ap, ◌∙◌, ℕ, ◌+◌, ◌/◌, ◌%◌, ◌^◌, ◌<◌, ◌≤◌, List, [], ◌∷◌, ◌++◌, length, Bool, true, false, Option, None}
use Rattle.std.specs.Prelude.{nat_lt, not, ◌==◌, if◌then◌else◌}
use Rattle.std.proofs.Math.Nat.{mod-eq_of_lt}
use Rattle.std.proofs.lemmas.Bool.Decides.{nat_tests}
use Rattle.hk_base.specs.Fields.{octets_of, number_of}
use Rattle.hk_base.proofs.FieldLemmas.{number-digits}
use Rattle.pus_packet.specs.Packets.{version, direction, secondary_flag, sequence_flags, claimed_length, pus_version, fault_unless, first_fault, header_faults}
use Rattle.pus_packet.specs.Joining.{primary_octets}
use Rattle.pus_packet.specs.declared.header.PacketFault.{PacketFault}
use Rattle.pus_packet.specs.declared.header.PacketFault.TheVariants.{Short, Length, Version, Direction, NoSecondary, Segmented, PusVersion}

-- the direction of a packet, and its first octets as a number, the process aside
abbrev pub wanted : Bool → ℕ
wanted request = if request then 1 else 0

abbrev pub start : Bool → ℕ
start request = if request then 0x1800 else 0x800

-- seven octets, and what follows them
abbrev pub front : Bool → ℕ → ℕ → ℕ → ℕ → List ℕ → List ℕ
front request apid count claimed low rest = primary_octets (start request) apid count claimed ++ ((0x20 + low) ∷ rest)

pub word-two : (n : ℕ) → n < 2 ^ 16 → number_of (octets_of 2 n) ≡ n
word-two n fits = number-digits 256 2 n (omega arith) ∙ mod-eq_of_lt fits

pub first-word : (request : Bool) (apid : ℕ) → apid < 2 ^ 11 → number_of (octets_of 2 (start request + apid)) ≡ start request + apid
first-word true apid fits = word-two (0x1800 + apid) (omega (arith, fits))
first-word false apid fits = word-two (0x800 + apid) (omega (arith, fits))

pub second-word : (count : ℕ) → count < 2 ^ 14 → number_of (octets_of 2 (0xc000 + count)) ≡ 0xc000 + count
second-word count fits = word-two (0xc000 + count) (omega (arith, fits))

pub process-again : (request : Bool) (apid : ℕ) → apid < 2 ^ 11 → (start request + apid) % 2 ^ 11 ≡ apid
process-again true apid fits = omega (arith, fits)
process-again false apid fits = omega (arith, fits)

pub count-again : (count : ℕ) → count < 2 ^ 14 → (0xc000 + count) % 2 ^ 14 ≡ count
count-again count fits = omega (arith, fits)

pub half-again : (low : ℕ) → low < 2 ^ 4 → (0x20 + low) % 16 ≡ low
half-again low fits = omega (arith, fits)

version-again : (request : Bool) (apid : ℕ) → apid < 2 ^ 11 → (start request + apid) / 2 ^ 13 ≡ 0
version-again true apid fits = omega (arith, fits)
version-again false apid fits = omega (arith, fits)

direction-again : (request : Bool) (apid : ℕ) → apid < 2 ^ 11 → (start request + apid) / 2 ^ 12 % 2 ≡ wanted request
direction-again true apid fits = omega (arith, fits)
direction-again false apid fits = omega (arith, fits)

secondary-again : (request : Bool) (apid : ℕ) → apid < 2 ^ 11 → (start request + apid) / 2 ^ 11 % 2 ≡ 1
secondary-again true apid fits = omega (arith, fits)
secondary-again false apid fits = omega (arith, fits)

flags-again : (count : ℕ) → count < 2 ^ 14 → (0xc000 + count) / 2 ^ 14 ≡ 3
flags-again count fits = omega (arith, fits)

pus-again : (low : ℕ) → low < 2 ^ 4 → (0x20 + low) / 16 ≡ 2
pus-again low fits = omega (arith, fits)

-- a test that passes has no fault
passed : (b : Bool) (fault : PacketFault) → b ≡ true → fault_unless b fault ≡ None
passed b fault e = rw e refl

same : (a b : ℕ) (fault : PacketFault) → a ≡ b → fault_unless (a == b) fault ≡ None
same a b fault e = passed (a == b) fault (grind (arith, nat_tests))

enough : (n least : ℕ) (fault : PacketFault) → least ≤ n → fault_unless (not (nat_lt n least)) fault ≡ None
enough n least fault le = let few : nat_lt n least ≡ false = grind (arith, nat_tests) in rw few refl

none_of_seven : (a b c d e f g : Option PacketFault) → a ≡ None → b ≡ None → c ≡ None → d ≡ None → e ≡ None → f ≡ None → g ≡ None
    → first_fault (a ∷ b ∷ c ∷ d ∷ e ∷ f ∷ g ∷ []) ≡ None
none_of_seven a b c d e f g pa pb pc pd pe pf pg = rw (pa, pb, pc, pd, pe, pf, pg) refl

-- a front that fits has no fault
pub front-again : (request : Bool) (apid count claimed low least : ℕ) (rest : List ℕ)
    → apid < 2 ^ 11
    → count < 2 ^ 14
    → low < 2 ^ 4
    → claimed < 2 ^ 16
    → claimed ≡ length rest
    → least ≤ 7 + length rest
    → first_fault (header_faults (wanted request) least (front request apid count claimed low rest)) ≡ None
front-again request apid count claimed low least rest process number half fits size long =
    let octets = front request apid count claimed low rest in
    let first = first-word request apid process in
    let second = second-word count number in
    let third = word-two claimed fits in
    let all : length octets ≡ 7 + length rest = omega arith in
    none_of_seven (fault_unless (not (nat_lt (length octets) least)) (Short (length octets)))
    (fault_unless (claimed_length octets == length octets) (Length (claimed_length octets) (length octets)))
    (fault_unless (version octets == 0) (Version (version octets)))
    (fault_unless (direction octets == wanted request) (Direction (direction octets)))
    (fault_unless (secondary_flag octets == 1) NoSecondary)
    (fault_unless (sequence_flags octets == 3) (Segmented (sequence_flags octets)))
    (fault_unless (pus_version octets == 2) (PusVersion (pus_version octets)))
    (enough (length octets) least (Short (length octets)) (omega (arith, long, all)))
    (same (claimed_length octets) (length octets) (Length (claimed_length octets) (length octets)) (ap (λ n. n + 7) third ∙ omega (arith, size, all)))
    (same (version octets) 0 (Version (version octets)) (ap (λ n. n / 2 ^ 13) first ∙ version-again request apid process))
    (same (direction octets) (wanted request) (Direction (direction octets)) (ap (λ n. n / 2 ^ 12 % 2) first ∙ direction-again request apid process))
    (same (secondary_flag octets) 1 NoSecondary (ap (λ n. n / 2 ^ 11 % 2) first ∙ secondary-again request apid process))
    (same (sequence_flags octets) 3 (Segmented (sequence_flags octets)) (ap (λ n. n / 2 ^ 14) second ∙ flags-again count number))
    (same (pus_version octets) 2 (PusVersion (pus_version octets)) (pus-again low half))
