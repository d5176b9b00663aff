-- What the fields of a fit tailoring hold.
use Rattle.std.proofs.Common.{arith, ◌≡◌, refl, sym, ap, subst, ◌∙◌, ℕ, suc, ◌+◌, ◌-◌, ◌*◌, ◌/◌, ◌^◌, ◌<◌, ◌≤◌, List, [], ◌∷◌, Bool, true, false, ◌⊎◌, inl, inr, Option, Some, None, ℤ, pos, negsuc}
use Rattle.std.specs.Prelude.{◌==◌, ◌||◌, find, int_le, int_lt, is_some, not, ◌≤ℤ◌, ◌<ℤ◌, IsSome, nat_lt, if◌then◌else◌}
use Rattle.std.specs.Ordering.{int_eq}
use Rattle.std.specs.Option.{option_or}
use Rattle.std.specs.List.{list_any, AllByRecursion}
use Rattle.std.proofs.Math.Nat.{pow-le-pow_right, div-add-mod, pow-succ'}
use Rattle.std.proofs.lemmas.Nat.{mod_below}
use Rattle.std.proofs.lemmas.Int.{ints}
use Rattle.std.proofs.lemmas.Bool.{and_parts, or_cases, both_ways}
use Rattle.std.proofs.lemmas.Bool.Decides.{nat_tests, Decides-eqb, Decides-int_eq}
use Rattle.std.proofs.lemmas.Option.{none-some, same_Some}
use Rattle.hk_base.specs.TailoringParts.{TailoringParts}
use Rattle.hk_base.specs.Fields.{FitsSignedOctets, signed_of}
use Rattle.hk_base.specs.Parameters.{parameter, fits, in_range}
use Rattle.hk_base.specs.Fit.{IsFit, IsFitShape, IsFitForm, IsFitParam}
use Rattle.body_fields.specs.Reading.{param_fault, repeat_fault, interval_fault, fault_if}
use Rattle.body_fields.specs.Spelling.{IsInOctets}
use Rattle.hk_base.specs.declared.types.Form.{Form}
use Rattle.hk_base.specs.declared.types.Form.TheVariants.{Unsigned, Signed, Enumerated, Boolean}
use Rattle.hk_base.specs.declared.types.Param.{Param}
use Rattle.body_fields.specs.declared.fault.BodyFault.{BodyFault}
use Rattle.body_fields.specs.declared.fault.BodyFault.TheVariants.{UnknownParam, ZeroInterval, LongInterval}
use Rattle.hk_base.proofs.FieldLemmas.{pow_pos}
use Rattle.hk_base.proofs.Finds.{find_each}
use Rattle.hk_base.proofs.Numbers.{pow_of_octets, signed_of-above}

-- the octets of a fit parameter have room for its bits
bits_in_octets : (bits octets : ℕ) → octets ≡ (bits + 7) / 8 → bits ≤ 8 * octets
bits_in_octets bits octets e = omega (arith, e, div-add-mod (bits + 7) 8, mod_below (bits + 7) 8 (omega arith))

wider : (bits octets : ℕ) → octets ≡ (bits + 7) / 8 → 2 ^ bits ≤ 256 ^ octets
wider bits octets e =
    omega (arith, pow_of_octets octets, pow-le-pow_right {n = 2} (omega arith) {i = bits} {j = 8 * octets} (bits_in_octets bits octets e))

below_pos : (n m : ℕ) → int_lt (pos n) (pos m) ≡ true → n < m
below_pos n m e = grind (arith, nat_tests)

not_above : (n m : ℕ) → int_le (negsuc m) (negsuc n) ≡ true → n ≤ m
not_above n m e = grind (arith, nat_tests)

unsigned_in : (bits octets : ℕ) (v : ℤ) → 2 ^ bits ≤ 256 ^ octets → in_range Unsigned bits v ≡ true → IsInOctets Unsigned octets v
unsigned_in bits octets (pos n) room e = let below : n < 2 ^ bits = below_pos n (2 ^ bits) (and_parts (int_le (pos 0) (pos n)) (int_lt (pos n) (pos (2 ^ bits))) e).1 in omega arith
unsigned_in bits octets (negsuc n) room e = absurd (both_ways (int_le (pos 0) (negsuc n)) refl (and_parts (int_le (pos 0) (negsuc n)) (int_lt (negsuc n) (pos (2 ^ bits))) e).0)

-- half of what the bits can be
half_of_bits : (bits : ℕ) → 1 ≤ bits → 2 ^ bits ≡ 2 * 2 ^ (bits - 1)
half_of_bits bits some = let next : bits ≡ suc (bits - 1) = omega arith in ap (λ b. 2 ^ b) next ∙ pow-succ' 2 (bits - 1)

signed_in : (bits octets : ℕ) (v : ℤ) → 1 ≤ bits → 2 ^ bits ≤ 256 ^ octets → in_range Signed bits v ≡ true → FitsSignedOctets octets v
signed_in bits octets (pos n) some room e =
    let below : n < 2 ^ (bits - 1) = below_pos n (2 ^ (bits - 1)) (and_parts (int_le (signed_of bits (2 ^ (bits - 1))) (pos n)) (int_lt (pos n) (pos (2 ^ (bits - 1)))) e).1 in
    omega (arith, half_of_bits bits some, pow_of_octets octets)
signed_in bits octets (negsuc n) some room e =
    let half = half_of_bits bits some in
    let least : signed_of bits (2 ^ (bits - 1)) ≡ negsuc (2 ^ bits - suc (2 ^ (bits - 1))) = signed_of-above bits (2 ^ (bits - 1)) (omega arith) in
    let above : n ≤ 2 ^ bits - suc (2 ^ (bits - 1)) =
    not_above n (2 ^ bits - suc (2 ^ (bits - 1))) (subst (λ z. int_le z (negsuc n) ≡ true) least (and_parts _ _ e).0) in
    let some_half : 0 < 2 ^ (bits - 1) = pow_pos 2 (bits - 1) (omega arith) in
    omega (arith, pow_of_octets octets)

-- a number that octets have room for
abbrev IsBelow : ℕ → ℤ → Type 0
IsBelow limit (pos n) = n < limit
IsBelow limit (negsuc n) = ⊥

low_enough : (limit most : ℕ) (v : ℤ) → pos 0 ≤ℤ v → v <ℤ pos limit → limit ≤ most → IsBelow most v
low_enough limit most (pos n) low high room = omega (arith, ints)
low_enough limit most (negsuc n) low high room = let no : ⊥ = omega (arith, ints) in absurd no

listed_in : (limit most : ℕ) (v : ℤ) (values : List ℤ) → limit ≤ most → AllByRecursion (λ x. (pos 0 ≤ℤ x) × (x <ℤ pos limit)) values
    → list_any (int_eq v) values ≡ true → IsBelow most v
listed_in limit most v [] room all e = absurd (both_ways false refl e)
listed_in limit most v (x ∷ values) room all e =
    go (or_cases (int_eq v x) (list_any (int_eq v) values) e) (λ later. listed_in limit most v values room all.1 later)
  where
    go : (int_eq v x ≡ true) ⊎ (list_any (int_eq v) values ≡ true) → (list_any (int_eq v) values ≡ true → IsBelow most v) → IsBelow most v
    go (inl same) rest = subst (IsBelow most) (sym ((Decides-int_eq v x).0 same)) (low_enough limit most x all.0.0 all.0.1 room)
    go (inr later) rest = rest later

truth_in : (most : ℕ) (v : ℤ) → 2 ≤ most → (int_eq v (pos 0) || int_eq v (pos 1)) ≡ true → IsBelow most v
truth_in most v room e = go (or_cases (int_eq v (pos 0)) (int_eq v (pos 1)) e)
  where
    go : (int_eq v (pos 0) ≡ true) ⊎ (int_eq v (pos 1) ≡ true) → IsBelow most v
    go (inl same) = subst (IsBelow most) (sym ((Decides-int_eq v (pos 0)).0 same)) (omega arith)
    go (inr same) = subst (IsBelow most) (sym ((Decides-int_eq v (pos 1)).0 same)) (omega arith)

-- a value that fits its parameter has room in its octets
pub fits-in_octets : (p : Param) (v : ℤ) → IsFitShape p → fits p v ≡ true → IsInOctets p.form p.octets v
fits-in_octets p v shape fit = go p.form shape.form fit
  where
    room : 2 ^ p.bits ≤ 256 ^ p.octets
    room = wider p.bits p.octets shape.octets

    enumerated : (values : List ℤ) (z : ℤ) → IsBelow (256 ^ p.octets) z → IsInOctets (Enumerated values) p.octets z
    enumerated values (pos n) is = is
    enumerated values (negsuc n) is = is

    boolean : (z : ℤ) → IsBelow (256 ^ p.octets) z → IsInOctets Boolean p.octets z
    boolean (pos n) is = is
    boolean (negsuc n) is = is

    go : (form : Form) → IsFitForm form p.bits → in_range form p.bits v ≡ true → IsInOctets form p.octets v
    go Unsigned is e = unsigned_in p.bits p.octets v room e
    go Signed is e = signed_in p.bits p.octets v shape.bits.0 room e
    go (Enumerated values) is e = enumerated values v (listed_in (2 ^ p.bits) (256 ^ p.octets) v values room is.1 e)
    go Boolean is e = boolean v (truth_in (256 ^ p.octets) v (omega (arith, room, half_of_bits p.bits shape.bits.0, pow_pos 2 (p.bits - 1) (omega arith))) e)

passes : {X : Type 0} (test : X → Bool) (y x : X) (rest : Option X) (b : Bool) → test y ≡ b → (if b then Some y else rest) ≡ Some x → (rest ≡ Some x → test x ≡ true) → test x ≡ true
passes test y x rest true t e later = subst (λ z. test z ≡ true) (same_Some y x e) t
passes test y x rest false t e later = later e

-- what is found passes the test
find-passes : {X : Type 0} (test : X → Bool) (xs : List X) (x : X) → find test xs ≡ Some x → test x ≡ true
find-passes test [] x e = absurd (none-some x e)
find-passes test (y ∷ xs) x e = passes test y x (find test xs) (test y) refl e (λ f. find-passes test xs x f)

-- a parameter that is found is fit, and has the ID
pub parameter-fit : (t : TailoringParts) (id : ℕ) (p : Param) → IsFit t → parameter t id ≡ Some p → IsFitParam t.widths p × (p.id ≡ id)
parameter-fit t id p fit e = (
  find_each (IsFitParam t.widths) (λ (q : Param). q.id == id) t.params p e fit.params,
  (Decides-eqb p.id id).0 (find-passes (λ (q : Param). q.id == id) t.params p e),
)

-- an ID that stands is one of a parameter
pub param_known : (t : TailoringParts) (earlier : List ℕ) (id : ℕ) → param_fault t earlier id ≡ None → (p : Param) × (parameter t id ≡ Some p)
param_known t earlier id e = go (repeat_fault earlier id) (parameter t id) refl e
  where
    go : (repeated : Option BodyFault) (found : Option Param) → parameter t id ≡ found
        → option_or repeated (fault_if (not (is_some found)) (UnknownParam id)) ≡ None → (p : Param) × (parameter t id ≡ Some p)
    go (Some fault) found is h = absurd (none-some fault (sym h))
    go None None is h = absurd (none-some (UnknownParam id) (sym h))
    go None (Some p) is h = (p, is)

-- and it has room in its octets
pub param_in_octets : (t : TailoringParts) (earlier : List ℕ) (id : ℕ) → IsFit t → param_fault t earlier id ≡ None → id < 256 ^ t.widths.parameter_octets
param_in_octets t earlier id fit e =
    let known = param_known t earlier id e in
    let p = parameter-fit t id known.0 fit known.1 in
    subst (λ n. n < 256 ^ t.widths.parameter_octets) p.1 p.0.id

-- the ID of a known parameter has room in its octets
pub known_in_octets : (t : TailoringParts) (id : ℕ) → IsFit t → IsSome (parameter t id) → id < 256 ^ t.widths.parameter_octets
known_in_octets t id fit known = go (parameter t id) refl known
  where
    go : (o : Option Param) → parameter t id ≡ o → IsSome o → id < 256 ^ t.widths.parameter_octets
    go None is some = absurd (both_ways false refl some)
    go (Some p) is some =
        let found = parameter-fit t id p fit is in
        subst (λ n. n < 256 ^ t.widths.parameter_octets) found.1 found.0.id

-- an interval that stands has room in its octets
pub interval_in_octets : (t : TailoringParts) (n : ℕ) → IsFit t → interval_fault t n ≡ None → n < 256 ^ t.widths.interval_octets
interval_in_octets t n fit e = go (n == 0) (nat_lt t.widths.max_interval n) refl e
  where
    go : (zero_test long_test : Bool) → nat_lt t.widths.max_interval n ≡ long_test
        → option_or (fault_if zero_test ZeroInterval) (fault_if long_test (LongInterval n)) ≡ None → n < 256 ^ t.widths.interval_octets
    go true long_test is h = absurd (none-some ZeroInterval (sym h))
    go false true is h = absurd (none-some (LongInterval n) (sym h))
    go false false is h =
        let low : n ≤ t.widths.max_interval = grind (arith, nat_tests) in
        omega (arith, low, fit.widths.max_interval.1)

-- 255 and less has room in the octets of a count
pub count_in_octets : (t : TailoringParts) (n : ℕ) → IsFit t → n ≤ 255 → n < 256 ^ t.widths.count_octets
count_in_octets t n fit few =
    omega (arith, pow-le-pow_right {n = 256} (omega arith) {i = 1} {j = t.widths.count_octets} fit.widths.count_octets.0)
