-- Intervals are read from their spelling, and from no other octets.
use Rattle.std.proofs.Common.{arith, ◌≡◌, refl, sym, ℕ, List, Bool, true, false, None}
use Rattle.std.specs.Prelude.{◌==◌, nat_lt}
use Rattle.std.specs.Option.{option_or}
use Rattle.std.proofs.lemmas.Option.{none-some}
use Rattle.std.proofs.lemmas.Bool.Decides.{nat_tests}
use Rattle.hk_base.specs.TailoringParts.{TailoringParts}
use Rattle.hk_base.specs.Fit.{IsWithin}
use Rattle.body_fields.specs.Reading.{fault_if, uint, interval_fault, interval_field}
use Rattle.body_fields.specs.Spelling.{Reads, AreOctets, IsInterval, interval_octets}
use Rattle.body_fields.specs.declared.fault.BodyFault.TheVariants.{ZeroInterval, LongInterval}
use Rattle.body_fields.proofs.ReadingLemmas.{reads-check, reads-uint}
use Rattle.body_fields.proofs.TakingLemmas.{Took, IsSpelled, took-weaken, took-check, took-uint}

interval_stands : (t : TailoringParts) (n : ℕ) → IsWithin 1 t.widths.max_interval n → interval_fault t n ≡ None
interval_stands t n is =
    let some : n == 0 ≡ false = let low = is.0 in grind (arith, nat_tests) in
    let short : nat_lt t.widths.max_interval n ≡ false = let high = is.1 in grind (arith, nat_tests) in
    rw (some, short) refl

stands_interval : (t : TailoringParts) (n : ℕ) → interval_fault t n ≡ None → IsWithin 1 t.widths.max_interval n
stands_interval t n e = go (n == 0) (nat_lt t.widths.max_interval n) refl refl e
  where
    go : (none_test long_test : Bool) → n == 0 ≡ none_test → nat_lt t.widths.max_interval n ≡ long_test
        → option_or (fault_if none_test ZeroInterval) (fault_if long_test (LongInterval n)) ≡ None → IsWithin 1 t.widths.max_interval n
    go true long_test a b h = absurd (none-some ZeroInterval (sym h))
    go false true a b h = absurd (none-some (LongInterval n) (sym h))
    go false false a b h = (grind (arith, nat_tests), grind (arith, nat_tests))

-- an interval is read from its spelling
pub reads-interval : (t : TailoringParts) (n : ℕ) → IsInterval t n → Reads (interval_field t) (interval_octets t n) n
reads-interval t n is =
    reads-check (interval_fault t) (uint t.widths.interval_octets) (interval_octets t n) n
    (reads-uint t.widths.interval_octets n is.1) (interval_stands t n is.0)

-- an interval that was read
abbrev pub IsSpelledInterval : TailoringParts → ℕ → List ℕ → Type 0
IsSpelledInterval t n text = (text ≡ interval_octets t n) × IsInterval t n

pub took-interval : (t : TailoringParts) (octets : List ℕ) → AreOctets octets → Took (IsSpelledInterval t) octets (interval_field t octets)
took-interval t octets are =
    took-weaken (λ n text. IsSpelled t.widths.interval_octets n text × (interval_fault t n ≡ None)) (IsSpelledInterval t) octets (interval_field t octets)
    (took-check (IsSpelled t.widths.interval_octets) (interval_fault t) octets (uint t.widths.interval_octets octets) (took-uint t.widths.interval_octets octets are))
    (λ n text h. (h.0.0, (stands_interval t n h.1, h.0.1)))
