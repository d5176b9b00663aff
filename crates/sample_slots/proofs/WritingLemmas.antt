-- Writing value by value, and group by group.
use Rattle.std.proofs.Common.{◌≡◌, ◌+◌, ◌-◌, ◌*◌, ◌/◌, ◌%◌, ◌<◌, ◌≤◌, ℕ, suc, ℤ, List, [], ◌∷◌, ◌++◌, length, take, drop, get_or, true, false, Option, Some, None, Result, Ok, Err, refl, sym, ap, subst, ◌∙◌, arith, append_assoc, append-nil}
use Rattle.std.specs.Prelude.{replicate, flat_map, filter_map, sum_by}
use Rattle.std.specs.List.{cons_option}
use Rattle.std.specs.Option.{option_map_or}
use Rattle.std.specs.Result.{OnOk}
use Rattle.std.proofs.lemmas.Bool.{both_ways}
use Rattle.std.proofs.lemmas.List.{length-append, length-take, drop_more, append_cancel_left}
use Rattle.std.proofs.lemmas.List.Sums.{sum_by-cons}
use Rattle.std.proofs.lemmas.Grind.{flat_map-append}
use Rattle.hk_base.specs.TailoringParts.{TailoringParts}
use Rattle.hk_base.specs.Fields.{digits, twos_complement}
use Rattle.hk_base.specs.Parameters.{parameter, fits, value_bits}
use Rattle.hk_base.specs.Payload.{Group, repetitions, simple_group, group_octets, bits_of, values_bits, padded_bits, payload_bits, AllFit}
use Rattle.hk_base.specs.declared.types.Param.{Param}
use Rattle.hk_base.specs.declared.types.Place.{Place}
use Rattle.hk_base.proofs.FieldLemmas.{length-digits}
use Rattle.sample_slots.specs.declared.packing.Pending.{Pending}
use Rattle.sample_slots.specs.Writing.{IsPending, written, AreFitting, GroupsFit, Writes}
use Rattle.sample_slots.proofs.BitsLemmas.{length-bits_of}
use Rattle.sample_slots.proofs.ReadingLemmas.{repetitions-more}
use Rattle.sample_slots.proofs.PayloadLaws.{placed}

-- the values of the next places, and those of the rest
front-fit : (t : TailoringParts) (slot : ℕ) (ids : List ℕ) (rest : List Place) (values : List ℤ) → AllFit t (placed slot ids ++ rest) values → AreFitting t ids (take (length ids) values) × AllFit t rest (drop (length ids) values)
front-fit t slot [] rest values h = (tt, h)
front-fit t slot (id ∷ ids) rest [] h = absurd h
front-fit t slot (id ∷ ids) rest (v ∷ vs) h = let later = front-fit t slot ids rest vs h.1 in ((h.0, later.0), later.1)

-- values that fit at their places fit group by group
pub groups-fit : (t : TailoringParts) (last : ℕ) (gs : List Group) (values : List ℤ) → AllFit t (flat_map (λ g. placed (last - g.lag) g.params) gs) values → GroupsFit t gs values
groups-fit t last [] values h = tt
groups-fit t last (g ∷ gs) values h =
    let parts = front-fit t (last - g.lag) g.params (flat_map (λ x. placed (last - x.lag) x.params) gs) values h in
    (parts.0, groups-fit t last gs (drop (length g.params) values) parts.1)

places-moved : (t : TailoringParts) (slot other : ℕ) (ids : List ℕ) (rest later : List Place) (values : List ℤ) → ((vs : List ℤ) → AllFit t rest vs → AllFit t later vs) → AllFit t (placed slot ids ++ rest) values → AllFit t (placed other ids ++ later) values
places-moved t slot other [] rest later values move h = move values h
places-moved t slot other (id ∷ ids) rest later [] move h = absurd h
places-moved t slot other (id ∷ ids) rest later (v ∷ vs) move h = (h.0, places-moved t slot other ids rest later vs move h.1)

-- values that fit fit whatever the last slot
pub fit-anywhere : (t : TailoringParts) (last other : ℕ) (gs : List Group) (values : List ℤ) → AllFit t (flat_map (λ g. placed (last - g.lag) g.params) gs) values → AllFit t (flat_map (λ g. placed (other - g.lag) g.params) gs) values
fit-anywhere t last other [] values h = h
fit-anywhere t last other (g ∷ gs) values h =
    places-moved t (last - g.lag) (other - g.lag) g.params (flat_map (λ x. placed (last - x.lag) x.params) gs) (flat_map (λ x. placed (other - x.lag) x.params) gs) values (λ vs. fit-anywhere t last other gs vs) h

-- a value fits the parameter that is found
pub fit-param : (o : Option Param) (p : Param) (v : ℤ) → o ≡ Some p → option_map_or (λ p. fits p v) o false ≡ true → fits p v ≡ true
fit-param o p v known e = sym (ap (λ o. option_map_or (λ q. fits q v) o false) known) ∙ e

-- the next value
pub fit-more : (t : TailoringParts) (ids : List ℕ) (i : ℕ) (rest : List ℤ) (v : ℤ) (vs : List ℤ) → i < length ids → rest ≡ v ∷ vs → AreFitting t (drop i ids) rest
    → (option_map_or (λ p. fits p v) (parameter t (get_or ids i 0)) false ≡ true) × AreFitting t (drop (i + 1) ids) vs
fit-more t ids i rest v vs h e fit = subst (λ xs. AreFitting t xs (v ∷ vs)) (drop_more ids i 0 h) (subst (λ ws. AreFitting t (drop i ids) ws) e fit)

-- there is one
pub fit-some : (t : TailoringParts) (ids : List ℕ) (i : ℕ) (rest : List ℤ) → i < length ids → length rest ≡ 0 → AreFitting t (drop i ids) rest → ⊥
fit-some t ids i [] h e fit = subst (λ xs. AreFitting t xs []) (drop_more ids i 0 h) fit
fit-some t ids i (v ∷ vs) h e fit = absurd (omega (arith, e))

length-fit : (t : TailoringParts) (ids : List ℕ) (values : List ℤ) → AreFitting t ids values → length values ≡ length ids
length-fit t [] [] fit = refl
length-fit t [] (v ∷ vs) fit = absurd fit
length-fit t (id ∷ ids) [] fit = absurd fit
length-fit t (id ∷ ids) (v ∷ vs) fit = ap suc (length-fit t ids vs fit.1)

-- there are enough
pub fit-enough : (t : TailoringParts) (ids : List ℕ) (values : List ℤ) → AreFitting t ids (take (length ids) values) → length ids ≤ length values
fit-enough t ids values fit = omega (arith, length-fit t ids (take (length ids) values) fit, length-take (length ids) values)

-- the bits of the next value, and of those after it
pub values-more : (t : TailoringParts) (ids : List ℕ) (i : ℕ) (p : Param) (rest : List ℤ) (v : ℤ) (vs : List ℤ) → i < length ids → parameter t (get_or ids i 0) ≡ Some p → rest ≡ v ∷ vs
    → values_bits (filter_map (parameter t) (drop i ids)) rest ≡ value_bits p v ++ values_bits (filter_map (parameter t) (drop (i + 1) ids)) vs
values-more t ids i p rest v vs h known e =
    ap (λ ws. values_bits (filter_map (parameter t) (drop i ids)) ws) e
    ∙ (ap (λ xs. values_bits (filter_map (parameter t) xs) (v ∷ vs)) (drop_more ids i 0 h)
    ∙ ap (λ o. values_bits (cons_option o (filter_map (parameter t) (drop (i + 1) ids))) (v ∷ vs)) known)

-- one value is written, and the bits of the whole stay the same
pub value-written : (old mid new value later : List ℕ) → new ≡ mid ++ value → mid ++ (value ++ later) ≡ old → new ++ later ≡ old
value-written old mid new value later e whole = ap (λ xs. xs ++ later) e ∙ (append_assoc mid value later ∙ whole)

-- the number of the bits of values
length-fitting : (t : TailoringParts) (ids : List ℕ) (vs : List ℤ) → AreFitting t ids vs → length (values_bits (filter_map (parameter t) ids) vs) ≡ sum_by (λ p. p.bits) (filter_map (parameter t) ids)
length-fitting t [] [] fit = refl
length-fitting t [] (v ∷ vs) fit = absurd fit
length-fitting t (id ∷ ids) [] fit = absurd fit
length-fitting t (id ∷ ids) (v ∷ vs) fit = go (parameter t id) fit.0 (length-fitting t ids vs fit.1)
  where
    go : (o : Option Param) → option_map_or (λ p. fits p v) o false ≡ true → length (values_bits (filter_map (parameter t) ids) vs) ≡ sum_by (λ p. p.bits) (filter_map (parameter t) ids)
        → length (values_bits (cons_option o (filter_map (parameter t) ids)) (v ∷ vs)) ≡ sum_by (λ p. p.bits) (cons_option o (filter_map (parameter t) ids))
    go None e ih = absurd (both_ways false refl e)
    go (Some p) e ih =
        let ps = filter_map (parameter t) ids in
        omega (arith, length-append (value_bits p v) (values_bits ps vs), length-digits 2 p.bits (twos_complement p.bits v), ih, sum_by-cons (λ (q : Param). q.bits) p ps)

-- the zeros that fill the last octet
fill : (m o l s c : ℕ) → c < 8 → 8 * m + c ≡ 8 * o + l → l ≡ s → (8 - c) % 8 ≡ 8 * ((s + 7) / 8) - l
fill m o l s c few whole size = omega (arith, few, whole, size)

-- a group is written
pub group-written : (t : TailoringParts) (ids old mid new : List ℕ) (values own rest : List ℤ) (p : Pending) (lag : ℕ) → own ≡ take (length ids) values → rest ≡ drop (length ids) values → AreFitting t ids own → IsPending p
    → written mid p ≡ bits_of old ++ values_bits (filter_map (parameter t) ids) own
    → bits_of new ≡ written mid p ++ replicate ((8 - p.count) % 8) 0
    → Writes t (record { lag = lag; params = ids } ∷ []) [] old values new rest
group-written t ids old mid new values own rest p lag front back fit pending values_written padded = record {
  bits = λ more. ap (λ xs. xs ++ payload_bits t more rest) whole
      ∙ (append_assoc (bits_of old) (padded_bits octets bits) (payload_bits t more rest)
      ∙ (ap (λ vs. bits_of old ++ (padded_bits octets bits ++ payload_bits t more vs)) back
      ∙ ap (λ vs. bits_of old ++ (padded_bits octets (values_bits (filter_map (parameter t) ids) vs) ++ payload_bits t more (drop (length ids) values))) front));
  fit = λ more both. subst (λ vs. GroupsFit t more vs) (sym back) both.1;
}
  where
    bits : List ℕ
    bits = values_bits (filter_map (parameter t) ids) own

    octets : ℕ
    octets = group_octets t (record { lag = lag; params = ids })

    sizes : 8 * length mid + p.count ≡ 8 * length old + length (values_bits (filter_map (parameter t) ids) own)
    sizes =
        omega (
          arith,
          ap (λ (xs : List ℕ). length xs) values_written,
          length-append (bits_of mid) (digits 2 p.count p.held),
          length-digits 2 p.count p.held,
          length-bits_of mid,
          length-append (bits_of old) (values_bits (filter_map (parameter t) ids) own),
          length-bits_of old,
        )

    zeros : (8 - p.count) % 8 ≡ 8 * ((sum_by (λ q. q.bits) (filter_map (parameter t) ids) + 7) / 8) - length (values_bits (filter_map (parameter t) ids) own)
    zeros = fill (length mid) (length old) (length (values_bits (filter_map (parameter t) ids) own)) (sum_by (λ q. q.bits) (filter_map (parameter t) ids)) p.count pending.few sizes (length-fitting t ids own fit)

    whole : bits_of new ≡ bits_of old ++ padded_bits (group_octets t (record { lag = lag; params = ids })) (values_bits (filter_map (parameter t) ids) own)
    whole =
        padded
        ∙ (ap (λ xs. xs ++ replicate ((8 - p.count) % 8) 0) values_written
        ∙ (append_assoc (bits_of old) bits (replicate ((8 - p.count) % 8) 0) ∙ ap (λ n. bits_of old ++ (bits ++ replicate n 0)) zeros))

-- the next of the groups that were left are written
pub writes-more : (t : TailoringParts) (all left gs later : List Group) (old mid new : List ℕ) (values vs rest : List ℤ) → Writes t all left old values mid vs → left ≡ gs ++ later → Writes t gs [] mid vs new rest
    → Writes t all later old values new rest
writes-more t all left gs later old mid new values vs rest first e second = record {
  bits = λ more. second.bits (later ++ more)
      ∙ (ap (λ xs. bits_of mid ++ payload_bits t xs vs) (sym (append_assoc gs later more) ∙ ap (λ xs. xs ++ more) (sym e)) ∙ first.bits more);
  fit = λ more fit. second.fit (later ++ more) (subst (λ xs. GroupsFit t xs vs) (ap (λ xs. xs ++ more) e ∙ append_assoc gs later more) (first.fit more fit));
}

-- no group is left
pub writes-end : (t : TailoringParts) (all left : List Group) (old new : List ℕ) (values rest : List ℤ) → left ≡ [] → Writes t all left old values new rest → Writes t all [] old values new rest
writes-end t all left old new values rest e writes = subst (λ gs. Writes t all gs old values new rest) e writes

-- one group of simple parameters, where there are any
pub writes-simple : (t : TailoringParts) (ids found old new : List ℕ) (values rest : List ℤ) → found ≡ ids → Writes t (record { lag = 0; params = found } ∷ []) [] old values new rest → Writes t (simple_group ids) [] old values new rest
writes-simple t [] found old new values rest e writes =
    let own = subst (λ xs. Writes t (record { lag = 0; params = xs } ∷ []) [] old values new rest) e writes in
    record { bits = own.bits; fit = λ more fit. own.fit more (tt, fit) }
writes-simple t (id ∷ ids) found old new values rest e writes = subst (λ xs. Writes t (record { lag = 0; params = xs } ∷ []) [] old values new rest) e writes

-- values that fit all groups fit those that are left
pub writes-fit : (t : TailoringParts) (all left : List Group) (old new : List ℕ) (values rest : List ℤ) → Writes t all left old values new rest → GroupsFit t all values → GroupsFit t left rest
writes-fit t all left old new values rest writes fit = subst (λ gs. GroupsFit t gs rest) (append-nil left) (writes.fit [] (subst (λ gs. GroupsFit t gs values) (sym (append-nil all)) fit))

-- the values that are left fit the next repetition
pub repetition-fit : (t : TailoringParts) (ids found : List ℕ) (spacing r i : ℕ) (more : List Group) (rest : List ℤ) → i < r → found ≡ ids → GroupsFit t (repetitions ids spacing (r - i) ++ more) rest → AreFitting t found (take (length found) rest)
repetition-fit t ids found spacing r i more rest h e fit =
    subst (λ xs. AreFitting t xs (take (length xs) rest)) (sym e) (subst (λ gs. GroupsFit t (gs ++ more) rest) (repetitions-more ids spacing r i h) fit).0

-- the values at the front fit the simple parameters
pub simple-fit : (t : TailoringParts) (ids found : List ℕ) (more : List Group) (values : List ℤ) → found ≡ ids → GroupsFit t (simple_group ids ++ more) values → AreFitting t found (take (length found) values)
simple-fit t ids found more values e fit = subst (λ xs. AreFitting t xs (take (length xs) values)) (sym e) (own ids fit)
  where
    own : (xs : List ℕ) → GroupsFit t (simple_group xs ++ more) values → AreFitting t xs (take (length xs) values)
    own [] h = tt
    own (x ∷ xs) h = h.0

-- what an answer has where it is Ok
pub on-ok : {X Y : Type 0} (P Q : Type 0) (result : Result X Y) → (P → Q) → OnOk result P → OnOk result Q
on-ok P Q (Ok x) then have = then have
on-ok P Q (Err y) then have = tt

-- all groups are written
pub writes-all : (t : TailoringParts) (all : List Group) (old new : List ℕ) (values rest : List ℤ) → Writes t all [] old values new rest → bits_of new ≡ bits_of old ++ payload_bits t all values
writes-all t all old new values rest writes =
    sym (append-nil (bits_of new)) ∙ (writes.bits [] ∙ ap (λ gs. bits_of old ++ payload_bits t gs values) (append-nil all))

-- the octets that were appended have the bits that were appended
pub appended : (old behind new bits : List ℕ) → new ≡ old ++ behind → bits_of new ≡ bits_of old ++ bits → bits_of behind ≡ bits
appended old behind new bits e whole =
    append_cancel_left (bits_of old) (bits_of behind) bits (sym (flat_map-append (digits 2 8) old behind) ∙ (ap (λ xs. bits_of xs) (sym e) ∙ whole))
