-- A value that fits its parameter can be counted, and members have room for one sample more.
use Rattle.std.proofs.lemmas.Int.{ints}
use Rattle.std.proofs.Common.{arith, ◌≡◌, ℕ, suc, ◌*◌, ◌^◌, ◌<◌, ◌≤◌, ℤ, pos, negsuc, List, [], ◌∷◌, length, true, Option, Some, None}
use Rattle.std.specs.Prelude.{filter_map, nat_lt, if◌then◌else◌}
use Rattle.std.specs.List.{AllByRecursion, AllZip, cons_option}
use Rattle.std.proofs.lemmas.List.{length-reverse}
use Rattle.std.proofs.Math.Nat.{pow-le-pow_right}
use Rattle.hk_base.specs.Fit.{IsFitShape}
use Rattle.hk_base.specs.Parameters.{fits}
use Rattle.hk_base.specs.declared.types.Form.{Form}
use Rattle.hk_base.specs.declared.types.Form.TheVariants.{Unsigned, Signed, Enumerated, Boolean}
use Rattle.hk_base.specs.declared.types.Param.{Param}
use Rattle.body_fields.specs.Spelling.{IsInOctets}
use Rattle.body_fields.proofs.FitLemmas.{fits-in_octets}
use Rattle.statistics.specs.Summaries.{Sample, IsSampleValue}
use Rattle.hk_world.specs.States as states
use Rattle.hk_world.specs.States.{BoardState}
use Rattle.hk_world.specs.Timelines.{Session, state_after}
use Rattle.hk_world.specs.Honest.{sample_of, samples_of}
use Rattle.hk_world.specs.declared.moment.Moment.{Moment}
use Rattle.board_state.specs.Statistics.{StatisticsHeld, AreStatistics, IsMember}
use Rattle.board_state.specs.declared.members.Member.{Member}

small-above : (n : ℕ) → n < 18446744073709551616 → IsSampleValue (pos n)
small-above n h = record { least = omega (arith, ints); greatest = omega (arith, ints, h) }

small-below : (n : ℕ) → suc n ≤ 9223372036854775808 → IsSampleValue (negsuc n)
small-below n h = record { least = omega (arith, ints, h); greatest = omega (arith, ints) }

octets-most : (o : ℕ) → o ≤ 8 → 256 ^ o ≤ 18446744073709551616
octets-most o h = let some : 0 < 256 = omega arith in pow-le-pow_right some h

bits-most : (o : ℕ) → o ≤ 8 → 2 ^ (8 * o) ≤ 18446744073709551616
bits-most o h = let some : 0 < 2 = omega arith in let le : 8 * o ≤ 64 = omega (arith, h) in pow-le-pow_right some le

in-octets : (form : Form) (o : ℕ) (v : ℤ) → o ≤ 8 → IsInOctets form o v → IsSampleValue v
in-octets Signed o (pos n) le h = let most = bits-most o le in small-above n (omega (arith, most, h))
in-octets Signed o (negsuc n) le h = let most = bits-most o le in small-below n (omega (arith, most, h))
in-octets Unsigned o (pos n) le h = let most = octets-most o le in small-above n (omega (arith, most, h))
in-octets (Enumerated values) o (pos n) le h = let most = octets-most o le in small-above n (omega (arith, most, h))
in-octets Boolean o (pos n) le h = let most = octets-most o le in small-above n (omega (arith, most, h))
in-octets Unsigned o (negsuc n) le h = absurd h
in-octets (Enumerated values) o (negsuc n) le h = absurd h
in-octets Boolean o (negsuc n) le h = absurd h

-- a value that fits its parameter can be counted
pub sample-value : (p : Param) (v : ℤ) → IsFitShape p → fits p v ≡ true → IsSampleValue v
sample-value p v shape e =
    let octets = shape.octets in
    let bits = shape.bits.1 in
    in-octets p.form p.octets v (omega (arith, octets, bits)) (fits-in_octets p v shape e)

fewer : (id tag : ℕ) (moments : List Moment) → length (filter_map (λ m. if nat_lt tag m.tag then sample_of id m.act else None) moments) ≤ length moments
fewer id tag [] = omega arith
fewer id tag (m ∷ earlier) = go (if nat_lt tag m.tag then sample_of id m.act else None) (fewer id tag earlier)
  where
    go : (o : Option Sample) → length (filter_map (λ (x : Moment). if nat_lt tag x.tag then sample_of id x.act else None) earlier) ≤ length earlier
        → length (cons_option o (filter_map (λ (x : Moment). if nat_lt tag x.tag then sample_of id x.act else None) earlier)) ≤ suc (length earlier)
    go None h = omega (arith, h)
    go (Some x) h = omega (arith, h)

counts-fewer : (state : BoardState) (moments : List Moment) (xs : List states.Member) (ms : List Member) → AllZip (IsMember state moments) xs ms
    → AllByRecursion (λ m. m.stat.count ≤ length moments) ms
counts-fewer state moments [] [] h = tt
counts-fewer state moments [] (m ∷ ms) h = absurd h
counts-fewer state moments (a ∷ xs) [] h = absurd h
counts-fewer state moments (a ∷ xs) (m ∷ ms) h =
    let tag : ℕ = if nat_lt state.start a.added then a.added else state.start in
    let count = h.0.1.count in
    let turned : length (samples_of state moments a) ≡ length (filter_map (λ (x : Moment). if nat_lt tag x.tag then sample_of a.param x.act else None) moments) =
    length-reverse (filter_map (λ (x : Moment). if nat_lt tag x.tag then sample_of a.param x.act else None) moments) in
    let few = fewer a.param tag moments in
    (omega (arith, count, turned, few), counts-fewer state moments xs ms h.1)

below-most : (n : ℕ) (ms : List Member) → n ≤ 1048576 → AllByRecursion (λ m. m.stat.count ≤ n) ms → AllByRecursion (λ m. m.stat.count < 4294967295) ms
below-most n [] le h = tt
below-most n (m ∷ ms) le h = (let few = h.0 in omega (arith, few, le), below-most n ms le h.1)

-- the members have room for one sample more
pub counts-room : (s : Session) (moments : List Moment) (x : StatisticsHeld) → AreStatistics s moments x → length moments ≤ 1048576
    → AllByRecursion (λ m. m.stat.count < 4294967295) x.members
counts-room s moments x h le =
    below-most (length moments) x.members le (counts-fewer (state_after s moments) moments (state_after s moments).statistics.members x.members h.members)
