-- Reading value by value, and group by group.
use Rattle.std.proofs.Common.{◌≡◌, ◌+◌, ◌-◌, ◌*◌, ◌/◌, ◌<◌, ℕ, zero, suc, ℤ, List, [], ◌∷◌, ◌++◌, length, take, drop, get_or, Bool, true, false, cond, nat_lt, not, Option, Some, None, Result, Ok, Err, refl, sym, ap, subst, ◌∙◌, arith, append_assoc, append-nil, zero-add}
use Rattle.std.specs.Prelude.{◌==◌, zip, flat_map, filter_map, sum_by, position, is_some, IsTrue, option_map, if◌then◌else◌}
use Rattle.std.specs.List.{cons_option, prefix_len, AllByRecursion}
use Rattle.std.specs.Option.{option_or}
use Rattle.std.proofs.lemmas.Bool.{both_ways}
use Rattle.std.proofs.lemmas.Bool.Decides.{nat_tests}
use Rattle.std.proofs.lemmas.List.{length-append, length_push, drop_more}
use Rattle.std.proofs.lemmas.List.Elements.{recursion_from_All}
use Rattle.std.proofs.lemmas.List.Sums.{sum_by-cons, sum_by-append}
use Rattle.std.proofs.Math.Nat.{suc-mul, zero-mul}
use Rattle.hk_base.specs.declared.types.SuperList.{SuperList}
use Rattle.hk_base.specs.declared.types.Definition.{Definition}
use Rattle.hk_base.specs.TailoringParts.{TailoringParts}
use Rattle.hk_base.specs.Parameters.{parameter, fits, bits_value}
use Rattle.hk_base.specs.Payload.{Group, repetitions, simple_group, groups, payload_size, payload_read, bits_of, bits_values, misfit, unless_fault, groups_fault, payload_values, group_params, group_octets, ids_bits, ids_octets}
use Rattle.hk_base.specs.declared.types.Param.{Param}
use Rattle.hk_base.specs.declared.types.PayloadFault.{PayloadFault}
use Rattle.hk_base.specs.declared.types.PayloadFault.TheVariants.{WrongSize, WrongValue, Padding, Memory}
use Rattle.sample_slots.specs.Reading.{AreKnown, GoesOn, simple_count, array_groups, array_octets, is_set, value_read, onto, values_after, groups_after, Fails}

-- a position in a list with one more member in front
pub position-cons : {X : Type 0} (test : X → Bool) (x : X) (xs : List X) → position test (x ∷ xs) ≡ cond (test x) (Some 0) (option_map suc (position test xs))
position-cons {X} test x xs = go (test x)
  where
    n : ℕ
    n = prefix_len (λ y. not (test y)) xs

    later : (k : ℕ) (b : Bool) → cond b (Some (1 + k)) None ≡ option_map suc (cond b (Some k) None)
    later k true = ap Some (omega arith)
    later k false = refl

    first : (k : ℕ) → nat_lt 0 (suc k) ≡ true
    first k = grind (arith, nat_tests)

    next : (k m : ℕ) → nat_lt (1 + k) (suc m) ≡ nat_lt k m
    next k m = grind (arith, nat_tests)

    go : (b : Bool) → cond (nat_lt (cond (not b) (1 + prefix_len (λ y. not (test y)) xs) 0) (length (x ∷ xs))) (Some (cond (not b) (1 + prefix_len (λ y. not (test y)) xs) 0)) None ≡ cond b (Some 0) (option_map suc (position test xs))
    go true = ap (λ b. cond b (Some 0) None) (first (length xs))
    go false =
        ap (λ b. cond b (Some (1 + prefix_len (λ y. not (test y)) xs)) None) (next (prefix_len (λ y. not (test y)) xs) (length xs))
        ∙ later (prefix_len (λ y. not (test y)) xs) (nat_lt (prefix_len (λ y. not (test y)) xs) (length xs))

-- what is read after one value more, or its fault
after-one : (earlier : List ℤ) (v : ℤ) (vs : List ℤ) (b : Bool) (m : Option ℕ)
    → onto earlier (unless_fault (option_map (λ i. WrongValue (length earlier + i)) (cond (not b) (Some 0) (option_map suc m))) (v ∷ vs))
    ≡ cond b (onto (earlier ++ v ∷ []) (unless_fault (option_map (λ i. WrongValue (length (earlier ++ v ∷ []) + i)) m) vs)) (Err (WrongValue (length earlier)))
after-one earlier v vs true None = ap Ok (sym (append_assoc earlier (v ∷ []) vs))
after-one earlier v vs true (Some i) = ap (λ n. Err (WrongValue n)) (omega (arith, length_push earlier v))
after-one earlier v vs false m = ap (λ n. Err (WrongValue n)) (omega arith)

values-step : (t : TailoringParts) (earlier : List ℤ) (id : ℕ) (ids bits : List ℕ) (p : Param) → parameter t id ≡ Some p
    → values_after t earlier (id ∷ ids) bits
    ≡ cond (fits p (bits_value p (take p.bits bits))) (values_after t (earlier ++ bits_value p (take p.bits bits) ∷ []) ids (drop p.bits bits)) (Err (WrongValue (length earlier)))
values-step t earlier id ids bits p known =
    ap (λ o. read (cons_option o ps)) known
    ∙ (ap (λ m. onto earlier (unless_fault (option_map (λ i. WrongValue (length earlier + i)) m) (v ∷ vs))) (position-cons (λ (q, w). not (fits q w)) (p, v) (zip ps vs))
    ∙ after-one earlier v vs (fits p v) (misfit ps vs))
  where
    ps : List Param
    ps = filter_map (parameter t) ids

    v : ℤ
    v = bits_value p (take p.bits bits)

    vs : List ℤ
    vs = bits_values (filter_map (parameter t) ids) (drop p.bits bits)

    read : List Param → Result (List ℤ) PayloadFault
    read qs = onto earlier (unless_fault (option_map (λ i. WrongValue (length earlier + i)) (misfit qs (bits_values qs bits))) (bits_values qs bits))

-- a value that fits
cond-ok : (b : Bool) (v value : ℤ) (fault : PayloadFault) → cond b (Ok v) (Err fault) ≡ Ok value → (b ≡ true) × (v ≡ value)
cond-ok true v value fault e = (refl, cc)
cond-ok false v value fault e = absurd (let no : Err fault ≡ Ok value → ⊥ = λ e. cc in no e)

-- a value that doesn't
cond-err : (b : Bool) (v : ℤ) (fault e : PayloadFault) → cond b (Ok v) (Err fault) ≡ Err e → (b ≡ false) × (fault ≡ e)
cond-err true v fault e h = absurd (let no : Ok v ≡ Err e → ⊥ = λ e. cc in no h)
cond-err false v fault e h = (refl, cc)

-- reading after a value that fits
pub read-more : (t : TailoringParts) (earlier : List ℤ) (ids bits : List ℕ) (i : ℕ) (p : Param) (number : ℕ) (value : ℤ) → i < length ids → parameter t (get_or ids i 0) ≡ Some p → value_read p number bits ≡ Ok value
    → values_after t earlier (drop i ids) bits ≡ values_after t (earlier ++ value ∷ []) (drop (i + 1) ids) (drop p.bits bits)
read-more t earlier ids bits i p number value h known read =
    let v = bits_value p (take p.bits bits) in
    let parts = cond-ok (fits p v) v value (WrongValue number) read in
    ap (λ xs. values_after t earlier xs bits) (drop_more ids i 0 h)
    ∙ (values-step t earlier (get_or ids i 0) (drop (i + 1) ids) bits p known
    ∙ (ap (λ b. cond b (values_after t (earlier ++ v ∷ []) (drop (i + 1) ids) (drop p.bits bits)) (Err (WrongValue (length earlier)))) parts.0
    ∙ ap (λ z. values_after t (earlier ++ z ∷ []) (drop (i + 1) ids) (drop p.bits bits)) parts.1))

-- reading that ends with a fault has it
pub fails-so : {Y : Type 0} (e : PayloadFault) (read : Result Y PayloadFault) → read ≡ Err e → Fails e read
fails-so (WrongSize m n) read h = h
fails-so (WrongValue n) read h = h
fails-so (Padding n) read h = h
fails-so Memory read h = tt

-- a reading that has the faults of another has the fault of this one
pub fails-on : {X Y : Type 0} (e : PayloadFault) (read : Result X PayloadFault) (all : Result Y PayloadFault) → ((f : PayloadFault) → read ≡ Err f → all ≡ Err f) → Fails e read → Fails e all
fails-on (WrongSize m n) read all f h = f (WrongSize m n) h
fails-on (WrongValue n) read all f h = f (WrongValue n) h
fails-on (Padding n) read all f h = f (Padding n) h
fails-on Memory read all f h = tt

-- reading at a value that doesn't fit
pub read-fails : (t : TailoringParts) (earlier : List ℤ) (ids bits : List ℕ) (i : ℕ) (p : Param) (number : ℕ) (e : PayloadFault) → i < length ids → parameter t (get_or ids i 0) ≡ Some p → number ≡ length earlier → value_read p number bits ≡ Err e
    → values_after t earlier (drop i ids) bits ≡ Err e
read-fails t earlier ids bits i p number e h known last read =
    let v = bits_value p (take p.bits bits) in
    let parts = cond-err (fits p v) v (WrongValue number) e read in
    ap (λ xs. values_after t earlier xs bits) (drop_more ids i 0 h)
    ∙ (values-step t earlier (get_or ids i 0) (drop (i + 1) ids) bits p known
    ∙ (ap (λ b. cond b (values_after t (earlier ++ v ∷ []) (drop (i + 1) ids) (drop p.bits bits)) (Err (WrongValue (length earlier)))) parts.0
    ∙ (ap (λ n. Err (WrongValue n)) (sym last) ∙ ap Err parts.1)))

-- reading at the end
pub read-end : (t : TailoringParts) (earlier : List ℤ) (ids bits : List ℕ) → ids ≡ [] → values_after t earlier ids bits ≡ Ok earlier
read-end t earlier ids bits e = ap (λ xs. values_after t earlier xs bits) e ∙ ap Ok (append-nil earlier)

-- the bits of one parameter, and of those after it
pub bits-more : (t : TailoringParts) (ids : List ℕ) (i : ℕ) (p : Param) → i < length ids → parameter t (get_or ids i 0) ≡ Some p → ids_bits t.params (drop i ids) ≡ p.bits + ids_bits t.params (drop (i + 1) ids)
bits-more t ids i p h known =
    ap (λ xs. ids_bits t.params xs) (drop_more ids i 0 h)
    ∙ (ap (λ o. sum_by (λ (q : Param). q.bits) (cons_option o (filter_map (parameter t) (drop (i + 1) ids)))) known
    ∙ sum_by-cons (λ (q : Param). q.bits) p (filter_map (parameter t) (drop (i + 1) ids)))

-- known parameters are as many as their IDs
pub length-known : (t : TailoringParts) (ids : List ℕ) → AllByRecursion (λ id. IsTrue (is_some (parameter t id))) ids → length (filter_map (parameter t) ids) ≡ length ids
length-known t [] h = refl
length-known t (id ∷ ids) h = go (parameter t id) h.0 (length-known t ids h.1)
  where
    go : (o : Option Param) → IsTrue (is_some o) → length (filter_map (parameter t) ids) ≡ length ids → length (cons_option o (filter_map (parameter t) ids)) ≡ suc (length ids)
    go None some rest = absurd (both_ways false refl some)
    go (Some p) some rest = ap suc rest

pub length-bits_values : (ps : List Param) (bits : List ℕ) → length (bits_values ps bits) ≡ length ps
length-bits_values [] bits = refl
length-bits_values (p ∷ ps) bits = ap suc (length-bits_values ps (drop p.bits bits))

onto-ok : (old new values : List ℤ) (fault : Option PayloadFault) → onto old (unless_fault fault values) ≡ Ok new → (fault ≡ None) × (old ++ values ≡ new)
onto-ok old new values None e = (refl, cc)
onto-ok old new values (Some f) e = absurd (let no : Err f ≡ Ok new → ⊥ = λ e. cc in no e)

onto-twice : (old values more : List ℤ) (fault : Option PayloadFault) → onto old (unless_fault fault (values ++ more)) ≡ onto (old ++ values) (unless_fault fault more)
onto-twice old values more None = ap Ok (sym (append_assoc old values more))
onto-twice old values more (Some f) = refl

-- a group whose values fit, and whose padding is clean
pub group-ok : (t : TailoringParts) (old new : List ℤ) (number : ℕ) (g : Group) (gs : List Group) (bits : List ℕ) → AreKnown t g.params → values_after t old g.params bits ≡ Ok new
    → is_set (drop (ids_bits t.params g.params) (take (8 * group_octets t g) bits)) ≡ false
    → groups_after t old number (g ∷ gs) bits ≡ groups_after t new (number + 1) gs (drop (8 * group_octets t g) bits)
group-ok t old new number g gs bits known fit clean =
    ap (λ f. onto old (unless_fault (option_or (option_or f (cond (is_set (drop (ids_bits t.params g.params) (take (8 * group_octets t g) bits))) (Some (Padding number)) None)) later) (values ++ more))) parts.0
    ∙ (ap (λ b. onto old (unless_fault (option_or (cond b (Some (Padding number)) None) later) (values ++ more))) clean
    ∙ (onto-twice old values more later
    ∙ (ap (λ vs. onto vs (unless_fault later more)) parts.1
    ∙ ap (λ n. onto new (unless_fault (groups_fault t gs n (suc number) rest) more)) size
    ∙ ap (λ n. onto new (unless_fault (groups_fault t gs (length new) n rest) more)) (omega arith))))
  where
    values : List ℤ
    values = bits_values (group_params t g) bits

    rest : List ℕ
    rest = drop (8 * group_octets t g) bits

    more : List ℤ
    more = payload_values t gs (drop (8 * group_octets t g) bits)

    later : Option PayloadFault
    later = groups_fault t gs (length old + length g.params) (suc number) (drop (8 * group_octets t g) bits)

    parts : (option_map (λ i. WrongValue (length old + i)) (misfit (group_params t g) (bits_values (group_params t g) bits)) ≡ None) × (old ++ bits_values (group_params t g) bits ≡ new)
    parts = onto-ok old new (bits_values (group_params t g) bits) (option_map (λ i. WrongValue (length old + i)) (misfit (group_params t g) (bits_values (group_params t g) bits))) fit

    size : length old + length g.params ≡ length new
    size =
        omega
        (arith, length-append old (bits_values (group_params t g) bits), ap (λ (vs : List ℤ). length vs) parts.1, length-bits_values (group_params t g) bits, length-known t g.params (recursion_from_All _ g.params known))

-- a group with a 1 in its padding
pub group-dirty : (t : TailoringParts) (old new : List ℤ) (number : ℕ) (g : Group) (gs : List Group) (bits : List ℕ) → values_after t old g.params bits ≡ Ok new
    → is_set (drop (ids_bits t.params g.params) (take (8 * group_octets t g) bits)) ≡ true
    → groups_after t old number (g ∷ gs) bits ≡ Err (Padding number)
group-dirty t old new number g gs bits fit dirty =
    ap (λ f. onto old (unless_fault (option_or (option_or f (cond (is_set (drop (ids_bits t.params g.params) (take (8 * group_octets t g) bits))) (Some (Padding number)) None)) later) all)) parts.0
    ∙ ap (λ b. onto old (unless_fault (option_or (cond b (Some (Padding number)) None) later) all)) dirty
  where
    all : List ℤ
    all = payload_values t (g ∷ gs) bits

    later : Option PayloadFault
    later = groups_fault t gs (length old + length g.params) (suc number) (drop (8 * group_octets t g) bits)

    parts : (option_map (λ i. WrongValue (length old + i)) (misfit (group_params t g) (bits_values (group_params t g) bits)) ≡ None) × (old ++ bits_values (group_params t g) bits ≡ new)
    parts = onto-ok old new (bits_values (group_params t g) bits) (option_map (λ i. WrongValue (length old + i)) (misfit (group_params t g) (bits_values (group_params t g) bits))) fit

-- a group with a value that doesn't fit
pub group-fails : (t : TailoringParts) (old : List ℤ) (number : ℕ) (g : Group) (gs : List Group) (bits : List ℕ) (e : PayloadFault) → values_after t old g.params bits ≡ Err e → groups_after t old number (g ∷ gs) bits ≡ Err e
group-fails t old number g gs bits e h =
    go (option_map (λ i. WrongValue (length old + i)) (misfit (group_params t g) (bits_values (group_params t g) bits)))
    (cond (is_set (drop (ids_bits t.params g.params) (take (8 * group_octets t g) bits))) (Some (Padding number)) None)
    (groups_fault t gs (length old + length g.params) (suc number) (drop (8 * group_octets t g) bits)) (bits_values (group_params t g) bits) (payload_values t (g ∷ gs) bits) h
  where
    go : (f padding later : Option PayloadFault) (values all : List ℤ) → onto old (unless_fault f values) ≡ Err e → onto old (unless_fault (option_or (option_or f padding) later) all) ≡ Err e
    go None padding later values all h = absurd (let no : Ok (old ++ values) ≡ Err e → ⊥ = λ e. cc in no h)
    go (Some f) padding later values all h = h

-- the next of the repetitions that are left
pub repetitions-more : (ids : List ℕ) (spacing r i : ℕ) → i < r → repetitions ids spacing (r - i) ≡ record { lag = (r - (i + 1)) * spacing; params = ids } ∷ repetitions ids spacing (r - (i + 1))
repetitions-more ids spacing r i h = let e : r - i ≡ suc (r - (i + 1)) = omega (arith, h) in ap (λ k. repetitions ids spacing k) e

-- the octets of the repetitions of an array
pub sum-repetitions : (t : TailoringParts) (ids : List ℕ) (spacing r : ℕ) → sum_by (group_octets t) (repetitions ids spacing r) ≡ r * ids_octets t.params ids
sum-repetitions t ids spacing zero = sym (zero-mul (ids_octets t.params ids))
sum-repetitions t ids spacing (suc r) =
    sum_by-cons (group_octets t) (record { lag = r * spacing; params = ids }) (repetitions ids spacing r)
    ∙ omega (arith, sum-repetitions t ids spacing r, suc-mul r (ids_octets t.params ids))

-- the octets of arrays
pub sum-arrays : (t : TailoringParts) (interval : ℕ) (arrays : List SuperList) → sum_by (group_octets t) (flat_map (array_groups interval) arrays) ≡ sum_by (array_octets t) arrays
sum-arrays t interval [] = refl
sum-arrays t interval (a ∷ arrays) =
    sum_by-append (group_octets t) (array_groups interval a) (flat_map (array_groups interval) arrays)
    ∙ omega (arith, sum-repetitions t a.params (interval / a.repetition) a.repetition, sum-arrays t interval arrays, sum_by-cons (array_octets t) a arrays)

-- the octets of the next array, and of those after it
pub sum-more : (t : TailoringParts) (arrays : List SuperList) (i : ℕ) (a : SuperList) → i < length arrays → a ≡ get_or arrays i a
    → sum_by (array_octets t) (drop i arrays) ≡ array_octets t a + sum_by (array_octets t) (drop (i + 1) arrays)
sum-more t arrays i a h is =
    ap (λ xs. sum_by (array_octets t) xs) (drop_more arrays i a h ∙ ap (λ x. x ∷ drop (i + 1) arrays) (sym is)) ∙ sum_by-cons (array_octets t) a (drop (i + 1) arrays)

-- the octets of simple parameters
sum-simple : (t : TailoringParts) (ids : List ℕ) → sum_by (group_octets t) (simple_group ids) ≡ ids_octets t.params ids
sum-simple t [] = refl
sum-simple t (id ∷ ids) = zero-add (ids_octets t.params (id ∷ ids))

-- the octets of a payload
pub size-parts : (t : TailoringParts) (d : Definition) → payload_size t d ≡ ids_octets t.params d.simple + sum_by (array_octets t) d.arrays
size-parts t d =
    sum_by-append (group_octets t) (simple_group d.simple) (flat_map (array_groups d.interval) d.arrays)
    ∙ omega (arith, sum-simple t d.simple, sum-arrays t d.interval d.arrays)

-- no group is left
pub groups-end : (t : TailoringParts) (values : List ℤ) (number interval : ℕ) (arrays : List SuperList) (bits : List ℕ) → arrays ≡ [] → groups_after t values number (flat_map (array_groups interval) arrays) bits ≡ Ok values
groups-end t values number interval arrays bits e = ap (λ xs. groups_after t values number (flat_map (array_groups interval) xs) bits) e ∙ ap Ok (append-nil values)

-- one group of simple parameters, where there are any
pub goes-simple : {X : Type 0} (view : X → List ℕ) (t : TailoringParts) (old new : List ℤ) (ids octets : List ℕ) (result : Result X PayloadFault) → (length ids == 0) ≡ false → old ≡ []
    → GoesOn view t old new 0 1 (record { lag = 0; params = ids } ∷ []) octets result → GoesOn view t [] new 0 (simple_count ids) (simple_group ids) octets result
goes-simple view t old new [] octets result some start goes = absurd (both_ways true some refl)
goes-simple view t old new (id ∷ ids) octets result some start goes = subst (λ values. GoesOn view t values new 0 1 (record { lag = 0; params = id ∷ ids } ∷ []) octets result) start goes

onto-nothing : (read : Result (List ℤ) PayloadFault) → onto [] read ≡ read
onto-nothing (Ok values) = refl
onto-nothing (Err fault) = refl

-- where the size is right, a payload is read group by group
pub payload-groups : (t : TailoringParts) (d : Definition) (octets : List ℕ) → (payload_size t d == length octets) ≡ true → payload_read t d octets ≡ groups_after t [] 0 (groups d) (bits_of octets)
payload-groups t d octets size =
    ap (λ b. unless_fault (if b then groups_fault t (groups d) 0 0 (bits_of octets) else Some (WrongSize (payload_size t d) (length octets))) (payload_values t (groups d) (bits_of octets))) size
    ∙ sym (onto-nothing (unless_fault (groups_fault t (groups d) 0 0 (bits_of octets)) (payload_values t (groups d) (bits_of octets))))
