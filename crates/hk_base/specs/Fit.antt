-- Which tailorings are fit: the ranges of widths, parameters and boot structures.
use Rattle.std.specs.Prelude.{◌≡◌, ℕ, ◌+◌, ◌-◌, ◌*◌, ◌/◌, ◌^◌, ◌<◌, ◌≤◌, ⊤, length, pos, ◌≤ℤ◌, ◌<ℤ◌, IsTrue, MatchBool, IfSome, map, nat_eq}
use Rattle.std.specs.List.{AllByRecursion, IsDistinct}
use Rattle.hk_base.specs.Payload.{IsValid}
use Rattle.hk_base.specs.Parameters.{fits, key_eq}
use Rattle.hk_base.specs.TailoringParts.{TailoringParts}
use Rattle.hk_base.specs.declared.types.Widths.{Widths}
use Rattle.hk_base.specs.declared.types.Form.{Form}
use Rattle.hk_base.specs.declared.types.Form.TheVariants.{Unsigned, Signed, Enumerated, Boolean}
use Rattle.hk_base.specs.declared.types.Param.{Param}
use Rattle.hk_base.specs.declared.types.Boot.{Boot}

-- a number from low up to high, both included
abbrev pub IsWithin : ℕ → ℕ → ℕ → Type 0
IsWithin low high n = (low ≤ n) × (n ≤ high)

-- widths in their ranges
pub record IsFitWidths (w : Widths) : Type 0 where
  pub apid : w.apid ≤ 2046
  pub address : w.ground < 2 ^ 16
  pub coarse : IsWithin 1 4 w.coarse
  pub fine : w.fine ≤ 3
  pub slot : IsWithin 16 (2 ^ 32) w.slot
  pub structure_octets : IsWithin 1 2 w.structure_octets
  pub parameter_octets : IsWithin 1 2 w.parameter_octets
  pub interval_octets : IsWithin 1 4 w.interval_octets
  pub count_octets : IsWithin 1 2 w.count_octets
  pub repetition_octets : IsWithin 1 2 w.repetition_octets
  pub step_octets : IsWithin 1 2 w.step_octets
  pub mean_fraction : w.mean_fraction ≤ 2
  pub max_interval : IsWithin 1 4096 w.max_interval × (w.max_interval < 256 ^ w.interval_octets)
  pub max_payload : IsWithin 1 4096 w.max_payload

-- enumerated values are 1 to 64 numbers from 0 that the bits hold
abbrev pub IsFitForm : Form → ℕ → Type 0
IsFitForm Unsigned bits = ⊤
IsFitForm Signed bits = ⊤
IsFitForm (Enumerated values) bits =
    IsWithin 1 64 (length values) × AllByRecursion (λ v. (pos 0 ≤ℤ v) × (v <ℤ pos (2 ^ bits))) values
IsFitForm Boolean bits = ⊤

-- a parameter that is fit, its ID and its initial value aside: 1 to 64 bits, in the fewest octets that hold them
pub record IsFitShape (p : Param) : Type 0 where
  pub bits : IsWithin 1 64 p.bits
  pub octets : p.octets ≡ (p.bits + 7) / 8
  pub form : IsFitForm p.form p.bits

-- a parameter that is fit; values fill their octets unless they are packed
pub record IsFitParam (w : Widths) (p : Param) : Type 0 where
  pub id : p.id < 256 ^ w.parameter_octets
  pub shape : IsFitShape p
  pub whole : MatchBool w.packed ⊤ (p.bits ≡ 8 * p.octets)
  pub initial : IfSome p.initial (λ v. IsTrue (fits p v))

-- a boot structure that is fit
pub record IsFitBoot (t : TailoringParts) (b : Boot) : Type 0 where
  pub id : b.key.id < 256 ^ t.widths.structure_octets
  pub valid : IsValid t b.structure.def

-- the parts of a tailoring that is fit
pub record IsFit (t : TailoringParts) : Type 0 where
  pub widths : IsFitWidths t.widths
  pub count : IsWithin 1 512 (length t.params)
  pub params : AllByRecursion (IsFitParam t.widths) t.params
  pub ids : IsDistinct nat_eq (map (λ p. p.id) t.params)
  pub boot_count : length t.boots ≤ 64
  pub boots : AllByRecursion (IsFitBoot t) t.boots
  pub keys : IsDistinct key_eq (map (λ b. b.key) t.boots)

-- the slot that a tag lies in, and the greatest tag that a packet can carry
abbrev pub slot_of : TailoringParts → ℕ → ℕ
slot_of t tag = tag / t.widths.slot

-- the greatest tag that a packet can carry
abbrev pub greatest_tag : TailoringParts → ℕ
greatest_tag t = 256 ^ (t.widths.coarse + t.widths.fine) - 1
