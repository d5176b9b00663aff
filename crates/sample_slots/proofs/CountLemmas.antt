-- The values of a payload are as many as the samples of the report.
use Rattle.std.proofs.Common.{◌≡◌, ◌-◌, ◌*◌, ◌/◌, ℕ, zero, suc, ℤ, List, [], ◌∷◌, length, drop, flat_map, Option, Some, None, Ok, Err, refl, sym, ap, ◌∙◌, arith}
use Rattle.std.specs.List.{AllByRecursion}
use Rattle.std.proofs.lemmas.List.{length-append}
use Rattle.hk_base.specs.TailoringParts.{TailoringParts}
use Rattle.hk_base.specs.Definitions.{IsWellFormed}
use Rattle.hk_base.specs.Payload.{Group, groups, simple_group, repetitions, places, bits_of, bits_values, group_params, group_octets, payload_values, payload_fault, payload_read, unless_fault}
use Rattle.hk_base.specs.declared.types.SuperList.{SuperList}
use Rattle.hk_base.specs.declared.types.Definition.{Definition}
use Rattle.hk_base.specs.declared.types.PayloadFault.{PayloadFault}
use Rattle.hk_base.proofs.Membership.{AllByRecursion-parts, AllByRecursion-append}
use Rattle.sample_slots.specs.Reading.{array_groups}
use Rattle.sample_slots.proofs.Places.{group_places, length-slot_places}
use Rattle.sample_slots.proofs.ReadingLemmas.{length-known, length-bits_values}
use Rattle.sample_slots.proofs.Sampled.{HasAll}

-- groups whose parameters the tailoring has
abbrev pub AreKnownGroups : TailoringParts → List Group → Type 0
AreKnownGroups t gs = AllByRecursion (λ g. HasAll t g.params) gs

known_simple : (t : TailoringParts) (ids : List ℕ) → HasAll t ids → AreKnownGroups t (simple_group ids)
known_simple t [] h = tt
known_simple t (id ∷ ids) h = (h, tt)

known_repetitions : (t : TailoringParts) (ids : List ℕ) (spacing r : ℕ) → HasAll t ids → AreKnownGroups t (repetitions ids spacing r)
known_repetitions t ids spacing zero h = tt
known_repetitions t ids spacing (suc r) h = (h, known_repetitions t ids spacing r h)

known_arrays : (t : TailoringParts) (interval : ℕ) (arrays : List SuperList) → HasAll t (flat_map (λ a. a.params) arrays) → AreKnownGroups t (flat_map (array_groups interval) arrays)
known_arrays t interval [] h = tt
known_arrays t interval (a ∷ arrays) h =
    let parts = AllByRecursion-parts _ a.params (flat_map (λ (x : SuperList). x.params) arrays) h in
    AllByRecursion-append _ (array_groups interval a) (flat_map (array_groups interval) arrays) (known_repetitions t a.params (interval / a.repetition) a.repetition parts.0) (known_arrays t interval arrays parts.1)

pub known-groups : (t : TailoringParts) (d : Definition) → IsWellFormed t d → AreKnownGroups t (groups d)
known-groups t d formed =
    let parts = AllByRecursion-parts _ d.simple (flat_map (λ (x : SuperList). x.params) d.arrays) formed.known in
    AllByRecursion-append _ (simple_group d.simple) (flat_map (array_groups d.interval) d.arrays) (known_simple t d.simple parts.0) (known_arrays t d.interval d.arrays parts.1)

length-payload_values : (t : TailoringParts) (last : ℕ) (gs : List Group) (bits : List ℕ) → AreKnownGroups t gs → length (payload_values t gs bits) ≡ length (flat_map (group_places last) gs)
length-payload_values t last [] bits h = refl
length-payload_values t last (g ∷ gs) bits h =
    let rest = drop (8 * group_octets t g) bits in
    let values = length-append (bits_values (group_params t g) bits) (payload_values t gs rest) in
    let found = length-append (group_places last g) (flat_map (group_places last) gs) in
    omega
    (arith, values, found, length-bits_values (group_params t g) bits, length-known t g.params h.0, length-slot_places (last - g.lag) g.params, length-payload_values t last gs rest h.1)

read_values : (fault : Option PayloadFault) (values read : List ℤ) → unless_fault fault values ≡ Ok read → values ≡ read
read_values None values read e = cc
read_values (Some f) values read e = absurd (let no : Err f ≡ Ok read → ⊥ = λ e. cc in no e)

pub read-count : (t : TailoringParts) (d : Definition) (octets : List ℕ) (values : List ℤ) (last : ℕ) → IsWellFormed t d → payload_read t d octets ≡ Ok values → length values ≡ length (places d last)
read-count t d octets values last formed e =
    ap (λ (vs : List ℤ). length vs) (sym (read_values (payload_fault t d octets) (payload_values t (groups d) (bits_of octets)) values e))
    ∙ length-payload_values t last (groups d) (bits_of octets) (known-groups t d formed)
