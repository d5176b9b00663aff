-- The widths that a document states: their checks in order, and the values that stand where keys are missing.
use Rattle.std.specs.Prelude.{◌≡◌, ℕ, ◌-◌, ◌*◌, ◌^◌, List, ◌++◌, min, codes, ◌==◌}
use Rattle.hk_base.specs.Fit.{IsWithin}
use Rattle.hk_base.specs.declared.types.Widths.{Widths}
use Rattle.hk_tailoring.specs.Checks.{Check}
use Rattle.hk_tailoring.specs.Keys.{Section, natural_at, flag_at, number_checks, needed_number_checks, flag_checks}

-- the greatest number in so many bits
abbrev pub greatest_in : ℕ → ℕ
greatest_in bits = 2 ^ bits - 1

-- the greatest interval that may be allowed, by the octets of intervals
abbrev pub greatest_interval : ℕ → ℕ
greatest_interval octets = min 4096 (greatest_in (8 * octets))

-- a number is that of a key, or another where the key is missing, and is from low to high
abbrev pub IsStated : Section → List ℕ → ℕ → ℕ → ℕ → ℕ → Type 0
IsStated s key missing low high n = (n ≡ natural_at s key missing) × IsWithin low high n

-- the greatest interval that is allowed, by the octets of intervals
abbrev pub max_interval_in : Section → ℕ → ℕ
max_interval_in s octets = natural_at s (codes "max_interval") (greatest_interval octets)

-- the checks of the greatest interval, by the octets of intervals
abbrev pub max_interval_checks : Section → ℕ → List Check
max_interval_checks s octets = number_checks s (codes "max_interval") 1 (greatest_interval octets)

-- the version, and the addresses
unfoldable pub identity_checks : Section → List Check
identity_checks s =
    needed_number_checks s (codes "version") 1 2
    ++ (needed_number_checks s (codes "apid") 0 2046 ++ needed_number_checks s (codes "ground") 0 65535)

-- the time field, and the slot in its ticks
unfoldable pub time_checks : Section → List Check
time_checks s =
    number_checks s (codes "coarse") 1 4
    ++ (number_checks s (codes "fine") 0 3 ++ needed_number_checks s (codes "slot") 16 4294967296)

-- the checksums of packets
unfoldable pub checksum_checks : Section → List Check
checksum_checks s = flag_checks s (codes "tc_checksum") ++ flag_checks s (codes "tm_checksum")

-- the octets of identifiers and intervals
unfoldable pub id_octets_checks : Section → List Check
id_octets_checks s =
    number_checks s (codes "structure_octets") 1 2
    ++ (number_checks s (codes "parameter_octets") 1 2 ++ number_checks s (codes "interval_octets") 1 4)

-- the octets of counts, repetition numbers and steps
unfoldable pub count_octets_checks : Section → List Check
count_octets_checks s =
    number_checks s (codes "count_octets") 1 2
    ++ (number_checks s (codes "repetition_octets") 1 2 ++ number_checks s (codes "step_octets") 1 2)

-- the fraction of a mean, and the limits, by the octets of intervals
unfoldable pub limit_checks : Section → ℕ → List Check
limit_checks s interval_octets =
    number_checks s (codes "mean_fraction") 0 2
    ++ (max_interval_checks s interval_octets ++ number_checks s (codes "max_payload") 1 4096)

-- all widths
unfoldable pub width_checks : Section → List Check
width_checks s =
    identity_checks s
    ++ (time_checks s
    ++ (checksum_checks s
    ++ (id_octets_checks s ++ (count_octets_checks s ++ limit_checks s (natural_at s (codes "interval_octets") 2)))))

-- the widths are those that a document states
pub record AreWidths (s : Section) (w : Widths) : Type 0 where
  pub packed : w.packed ≡ (natural_at s (codes "version") 0 == 2)
  pub apid : w.apid ≡ natural_at s (codes "apid") 0
  pub address : w.ground ≡ natural_at s (codes "ground") 0
  pub coarse : w.coarse ≡ natural_at s (codes "coarse") 4
  pub fine : w.fine ≡ natural_at s (codes "fine") 2
  pub slot : w.slot ≡ natural_at s (codes "slot") 0
  pub tc_checksum : w.tc_checksum ≡ flag_at s (codes "tc_checksum")
  pub tm_checksum : w.tm_checksum ≡ flag_at s (codes "tm_checksum")
  pub structure_octets : w.structure_octets ≡ natural_at s (codes "structure_octets") 1
  pub parameter_octets : w.parameter_octets ≡ natural_at s (codes "parameter_octets") 2
  pub interval_octets : w.interval_octets ≡ natural_at s (codes "interval_octets") 2
  pub count_octets : w.count_octets ≡ natural_at s (codes "count_octets") 1
  pub repetition_octets : w.repetition_octets ≡ natural_at s (codes "repetition_octets") 1
  pub step_octets : w.step_octets ≡ natural_at s (codes "step_octets") 1
  pub mean_fraction : w.mean_fraction ≡ natural_at s (codes "mean_fraction") 0
  pub max_interval : w.max_interval ≡ max_interval_in s (natural_at s (codes "interval_octets") 2)
  pub max_payload : w.max_payload ≡ natural_at s (codes "max_payload") 1024
