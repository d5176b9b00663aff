-- Sizes of groups of values.
use Rattle.std.proofs.Common.{◌≡◌, ◌+◌, ◌*◌, ◌/◌, ◌<◌, ◌≤◌, ◌%◌, ℕ, zero, suc, List, [], ◌∷◌, length, take, get_or, refl, sym, ap, ◌∙◌, arith, sum_by, eqb}
use Rattle.std.specs.Prelude.{find, All, flat_map}
use Rattle.std.specs.List.{filter_map, AllByRecursion}
use Rattle.std.proofs.lemmas.List.{take_more}
use Rattle.std.proofs.Math.Nat.{div-add-mod}
use Rattle.std.proofs.lemmas.List.Elements.{filter_map-append, All-from_recursion, All-weaker}
use Rattle.std.proofs.lemmas.List.Sums.{sum_by-append, sum_by-cons}
use Rattle.hk_base.specs.TailoringParts.{TailoringParts}
use Rattle.hk_base.specs.Definitions.{IsArray, IsSmallArray}
use Rattle.hk_base.specs.Payload.{repetitions, simple_group, group_octets, payload_size, ids_bits, ids_octets, arrays_octets}
use Rattle.hk_base.specs.declared.types.Param.{Param}
use Rattle.hk_base.specs.declared.types.Definition.{Definition}
use Rattle.hk_base.specs.declared.types.SuperList.{SuperList}

-- the parameters with these IDs
abbrev found : List Param → List ℕ → List Param
found params ids = filter_map (λ id. find (λ (p : Param). eqb p.id id) params) ids

-- one parameter more
pub ids_bits_more : (params : List Param) (ids : List ℕ) (i : ℕ) → i < length ids → ids_bits params (take (i + 1) ids) ≡ ids_bits params (take i ids) + ids_bits params (get_or ids i 0 ∷ [])
ids_bits_more params ids i h =
    ap (λ xs. ids_bits params xs) (take_more ids i 0 h)
    ∙ (ap (λ ps. sum_by (λ (p : Param). p.bits) ps) (filter_map-append (λ id. find (λ (p : Param). eqb p.id id) params) (take i ids) (get_or ids i 0 ∷ []))
    ∙ sum_by-append (λ (p : Param). p.bits) (found params (take i ids)) (found params (get_or ids i 0 ∷ [])))

-- all repetitions of an array have one size
repeated_size : (t : TailoringParts) (ids : List ℕ) (spacing n : ℕ) → sum_by (group_octets t) (repetitions ids spacing n) ≡ n * ids_octets t.params ids
repeated_size t ids spacing zero = omega arith
repeated_size t ids spacing (suc n) =
    sum_by-cons (group_octets t) (record { lag = n * spacing; params = ids }) (repetitions ids spacing n) ∙ omega (arith, repeated_size t ids spacing n)

arrays_size : (t : TailoringParts) (interval : ℕ) (arrays : List SuperList)
    → sum_by (group_octets t) (flat_map (λ a. repetitions a.params (interval / a.repetition) a.repetition) arrays) ≡ arrays_octets t.params arrays
arrays_size t interval [] = refl
arrays_size t interval (a ∷ arrays) =
    sum_by-append (group_octets t) (repetitions a.params (interval / a.repetition) a.repetition) _
    ∙ (omega (arith, repeated_size t a.params (interval / a.repetition) a.repetition, arrays_size t interval arrays)
    ∙ sym (sum_by-cons (λ a. a.repetition * ids_octets t.params a.params) a arrays))

simple_size : (t : TailoringParts) (ids : List ℕ) → sum_by (group_octets t) (simple_group ids) ≡ ids_octets t.params ids
simple_size t [] = refl
simple_size t (id ∷ ids) = omega arith

-- the size of a payload
pub size_by_lists : (t : TailoringParts) (d : Definition) → payload_size t d ≡ ids_octets t.params d.simple + arrays_octets t.params d.arrays
size_by_lists t d =
    sum_by-append (group_octets t) (simple_group d.simple) _ ∙ omega (arith, simple_size t d.simple, arrays_size t d.interval d.arrays)

multiple_within : (r n q : ℕ) → 1 ≤ n → n ≡ r * q → r ≤ n
multiple_within r n zero least e = absurd (omega arith)
multiple_within r n (suc q) least e = let more : r * suc q ≡ r * q + r = omega arith in omega arith

-- what divides a number is no more than the number
divisor_within : (r n : ℕ) → 1 ≤ r → 1 ≤ n → n % r ≡ 0 → r ≤ n
divisor_within r n some least divides = multiple_within r n (n / r) least (sym (div-add-mod n r) ∙ omega (arith, divides))

-- the arrays of a definition are small
pub arrays_are_small : (t : TailoringParts) (n : ℕ) (arrays : List SuperList) → 1 ≤ n → n ≤ 4096 → AllByRecursion (IsArray t n) arrays → All IsSmallArray arrays
arrays_are_small t n arrays least most each =
    All-weaker (IsArray t n) IsSmallArray
    (λ a is. record { few = is.few; repeated = omega (arith, most, divisor_within a.repetition n is.repeated least is.divides) })
    arrays (All-from_recursion (IsArray t n) arrays each)
