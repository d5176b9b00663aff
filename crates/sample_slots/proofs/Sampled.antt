-- A definition that is well formed under a fit tailoring has samples, and its arrays can be read.
use Rattle.std.proofs.Common.{◌≡◌, ◌≤◌, ◌%◌, ℕ, List, [], ◌∷◌, flat_map, arith}
use Rattle.std.specs.Prelude.{is_some, IsTrue}
use Rattle.hk_base.specs.Parameters.{parameter}
use Rattle.std.specs.List.{All, AllByRecursion}
use Rattle.std.proofs.lemmas.List.Elements.{All-from_recursion}
use Rattle.hk_base.specs.TailoringParts.{TailoringParts}
use Rattle.hk_base.specs.Definitions.{IsWellFormed, IsArray}
use Rattle.hk_base.specs.Fit.{IsFitWidths}
use Rattle.hk_base.specs.declared.types.SuperList.{SuperList}
use Rattle.hk_base.specs.declared.types.Definition.{Definition}
use Rattle.hk_base.proofs.Membership.{AllByRecursion-parts}
use Rattle.sample_slots.specs.Slots.{IsSampled, IsSampledArray}
use Rattle.sample_slots.specs.Reading.{IsReadableArray}

sampled_arrays : (t : TailoringParts) (n : ℕ) (arrays : List SuperList) → AllByRecursion (IsArray t n) arrays → AllByRecursion (IsSampledArray n) arrays
sampled_arrays t n [] h = tt
sampled_arrays t n (a ∷ arrays) h = (record { members = h.0.members; few = h.0.few; repeated = h.0.repeated; divides = h.0.divides }, sampled_arrays t n arrays h.1)

-- the condition on definitions of callers that hold a tailoring
pub is-sampled : (t : TailoringParts) (d : Definition) → IsFitWidths t.widths → IsWellFormed t d → IsSampled d
is-sampled t d fit formed = record {
  interval = (formed.interval.0, omega (arith, formed.interval.1, fit.max_interval.0.1));
  some = formed.some;
  simple = formed.simple;
  few_arrays = formed.few_arrays;
  arrays = All-from_recursion (IsSampledArray d.interval) d.arrays (sampled_arrays t d.interval d.arrays formed.arrays);
}

-- a divisor isn't greater
small_repetition : (n r : ℕ) → 1 ≤ n → n % r ≡ 0 → r ≤ n
small_repetition n r some divides = grind (arith, some, divides)

-- parameters that the tailoring has, by recursion
abbrev pub HasAll : TailoringParts → List ℕ → Type 0
HasAll t ids = AllByRecursion (λ id. IsTrue (is_some (parameter t id))) ids

readable_arrays : (t : TailoringParts) (n : ℕ) (arrays : List SuperList) → 1 ≤ n → n ≤ 4096 → AllByRecursion (IsArray t n) arrays → HasAll t (flat_map (λ a. a.params) arrays) → AllByRecursion (IsReadableArray t) arrays
readable_arrays t n [] some most h known = tt
readable_arrays t n (a ∷ arrays) some most h known =
    let parts = AllByRecursion-parts _ a.params (flat_map (λ (x : SuperList). x.params) arrays) known in (
      record {
        known = All-from_recursion _ a.params parts.0;
        few = h.0.few;
        repeated = omega (arith, small_repetition n a.repetition some h.0.divides, most);
      },
      readable_arrays t n arrays some most h.1 parts.1,
    )

pub readable : (t : TailoringParts) (d : Definition) → IsSampled d → IsWellFormed t d → All (IsReadableArray t) d.arrays
readable t d sampled formed =
    let parts = AllByRecursion-parts _ d.simple (flat_map (λ (x : SuperList). x.params) d.arrays) formed.known in
    All-from_recursion (IsReadableArray t) d.arrays (readable_arrays t d.interval d.arrays sampled.interval.0 sampled.interval.1 formed.arrays parts.1)
