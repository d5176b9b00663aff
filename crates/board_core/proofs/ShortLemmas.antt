-- Reports of structures are short: no parameter stands twice in one.
use Rattle.std.proofs.Common.{arith, ◌≡◌, ℕ, ◌+◌, ◌*◌, ◌<◌, ◌≤◌, ◌^◌, refl, sym, ◌∙◌, ap, List, [], ◌∷◌, ◌++◌, length, length-append, map, flat_map, cond, Bool, true, false, ◌==◌, ◌||◌, Some, None}
use Rattle.std.specs.Prelude.{IsTrue, is_some, find, nat_eq}
use Rattle.std.specs.Cmp.{nat_eq_equiv}
use Rattle.std.specs.List.{AllByRecursion, IsDistinct, list_any}
use Rattle.std.proofs.lemmas.Bool.{eq-eqb}
use Rattle.std.proofs.lemmas.Bool.Decides.{Decides-eqb}
use Rattle.std.proofs.lemmas.List.{length-map}
use Rattle.std.proofs.lemmas.Map.Made.{length-le_from_is_member}
use Rattle.std.proofs.Math.Nat.{pow-le-pow_right}
use Rattle.hk_base.specs.Definitions.{IsWellFormed, first_repeat, parameter_ids}
use Rattle.hk_base.specs.Fields.{octets_of}
use Rattle.hk_base.specs.Fit.{IsFit}
use Rattle.hk_base.specs.Parameters.{parameter}
use Rattle.hk_base.specs.TailoringParts.{TailoringParts}
use Rattle.hk_base.specs.declared.types.Definition.{Definition}
use Rattle.hk_base.specs.declared.types.Key.{Key}
use Rattle.hk_base.specs.declared.types.Param.{Param}
use Rattle.hk_base.specs.declared.types.Structure.{Structure}
use Rattle.hk_base.specs.declared.types.SuperList.{SuperList}
use Rattle.hk_base.proofs.FieldLemmas.{length-digits}
use Rattle.body_fields.specs.Spelling.{flag_octets, param_octets, counted_octets}
use Rattle.st03_grammar.specs.Spelling.{array_octets}
use Rattle.st03_grammar.specs.declared.bodies.Report03.TheVariants as told
use Rattle.report_structures.proofs.RepeatLemmas.{among, repeat-seen}
use Rattle.pus_messages.specs.declared.message.ReportBody.TheVariants.{Hk}
use Rattle.board_steps.specs.Steps.{row_of}
use Rattle.board_core.specs.Logs.{IsWritable}
use Rattle.board_core.proofs.ListedLemmas.{structure-told, first-clear}

or_left : (a b : Bool) → (a || b) ≡ false → a ≡ false
or_left false b e = refl
or_left true b e = absurd (let no : true ≡ false → ⊥ = λ z. cc in no e)

or_swap2 : (a b c : Bool) → (a || (b || c)) ≡ (b || (a || c))
or_swap2 true true c = refl
or_swap2 true false c = refl
or_swap2 false true c = refl
or_swap2 false false c = refl

-- an ID that was seen isn't among the others
apart : (x : ℕ) (seen xs : List ℕ) → first_repeat (x ∷ seen) xs ≡ None → AllByRecursion (λ y. nat_eq x y ≡ false) xs
apart x seen [] e = tt
apart x seen (y ∷ ys) e =
    let clear = first-clear (among y (x ∷ seen)) y (first_repeat (y ∷ x ∷ seen) ys) e in
    (or_left (x == y) (among y seen) clear.0, apart x (y ∷ seen) ys (repeat-seen (x ∷ y ∷ seen) (y ∷ x ∷ seen) ys (λ z. or_swap2 (x == z) (y == z) (among z seen)) ∙ clear.1))

distinct : (seen ids : List ℕ) → first_repeat seen ids ≡ None → IsDistinct nat_eq ids
unfolding IsDistinct
distinct seen [] e = tt
distinct seen (x ∷ xs) e =
    let clear = first-clear (among x seen) x (first_repeat (x ∷ seen) xs) e in
    (apart x seen xs clear.1, distinct (x ∷ seen) xs clear.1)

-- a known ID is one of the parameters
known-member : (q : ℕ) (params : List Param) → is_some (find (λ p. p.id == q) params) ≡ true → list_any (nat_eq q) (map (λ p. p.id) params) ≡ true
known-member q [] e = absurd (let no : false ≡ true → ⊥ = λ z. cc in no e)
known-member q (p ∷ params) e = go (p.id == q) refl (known-member q params)
  where
    go : (b : Bool) → (p.id == q) ≡ b → (is_some (find (λ x. x.id == q) params) ≡ true → list_any (nat_eq q) (map (λ x. x.id) params) ≡ true)
        → (nat_eq q p.id || list_any (nat_eq q) (map (λ x. x.id) params)) ≡ true
    go true f ih = ap (λ b. b || list_any (nat_eq q) (map (λ x. x.id) params)) (eq-eqb q p.id (sym ((Decides-eqb p.id q).0 f)))
    go false f ih = or_right (nat_eq q p.id) (list_any (nat_eq q) (map (λ x. x.id) params)) (ih (sym (ap (λ b. is_some (cond b (Some p) (find (λ x. x.id == q) params))) f) ∙ e))
      where
        or_right : (a b : Bool) → b ≡ true → (a || b) ≡ true
        or_right true b h = refl
        or_right false b h = h

all-known : (t : TailoringParts) (q : ℕ) (ids : List ℕ) → AllByRecursion (λ id. IsTrue (is_some (parameter t id))) ids → list_any (nat_eq q) ids ≡ true → is_some (parameter t q) ≡ true
all-known t q [] k e = absurd (let no : false ≡ true → ⊥ = λ z. cc in no e)
all-known t q (x ∷ xs) k e = go (nat_eq q x) refl (all-known t q xs k.1)
  where
    go : (b : Bool) → nat_eq q x ≡ b → (list_any (nat_eq q) xs ≡ true → is_some (parameter t q) ≡ true) → is_some (parameter t q) ≡ true
    go true f ih = ap (λ n. is_some (parameter t n)) ((Decides-eqb q x).0 f) ∙ k.0
    go false f ih = ih (sym (ap (λ b. b || list_any (nat_eq q) xs) f) ∙ e)

-- a definition has no more parameters than there are
few-ids : (t : TailoringParts) (d : Definition) → IsFit t → IsWellFormed t d → length (parameter_ids d) ≤ 512
few-ids t d fit h =
    let le = length-le_from_is_member nat_eq_equiv (parameter_ids d) (map (λ p. p.id) t.params) (distinct [] (parameter_ids d) h.once)
    (λ q e. known-member q t.params (all-known t q (parameter_ids d) h.known e)) in
    let same = length-map t.params (λ (p : Param). p.id) in
    let most = fit.count.1 in
    omega (arith, le, same, most)

params-short : (t : TailoringParts) (ids : List ℕ) → IsFit t → length (flat_map (param_octets t) ids) ≤ 2 * length ids
params-short t [] fit = omega arith
params-short t (x ∷ xs) fit =
    let more = params-short t xs fit in
    let one = length-digits 256 t.widths.parameter_octets x in
    let wide = fit.widths.parameter_octets.1 in
    let both = length-append (param_octets t x) (flat_map (param_octets t) xs) in
    omega (arith, more, one, wide, both)

counted-short : (t : TailoringParts) (ids : List ℕ) → IsFit t → length (counted_octets t (param_octets t) ids) ≤ 2 + 2 * length ids
counted-short t ids fit =
    let more = params-short t ids fit in
    let one = length-digits 256 t.widths.count_octets (length ids) in
    let wide = fit.widths.count_octets.1 in
    let both = length-append (octets_of t.widths.count_octets (length ids)) (flat_map (param_octets t) ids) in
    omega (arith, more, one, wide, both)

arrays-short : (t : TailoringParts) (arrays : List SuperList) → IsFit t → length (flat_map (array_octets t) arrays) ≤ 4 * length arrays + 2 * length (flat_map (λ a. a.params) arrays)
arrays-short t [] fit = omega arith
arrays-short t (a ∷ rest) fit =
    let more = arrays-short t rest fit in
    let ids = counted-short t a.params fit in
    let one = length-digits 256 t.widths.repetition_octets a.repetition in
    let wide = fit.widths.repetition_octets.1 in
    let inner = length-append (octets_of t.widths.repetition_octets a.repetition) (counted_octets t (param_octets t) a.params) in
    let both = length-append (array_octets t a) (flat_map (array_octets t) rest) in
    let all = length-append a.params (flat_map (λ (b : SuperList). b.params) rest) in
    omega (arith, more, ids, one, wide, inner, both, all)

flag-one : (b : Bool) → length (flag_octets b) ≡ 1
flag-one true = refl
flag-one false = refl

-- a structure that is held can be told
pub structure-writable : (t : TailoringParts) (key : Key) (s : Structure) → IsFit t → key.id < 256 ^ t.widths.structure_octets → IsWellFormed t s.def → IsWritable t (Hk (told.Structure key s))
structure-writable t key s fit id h =
    let simple : List ℕ = counted_octets t (param_octets t) s.def.simple in
    let arrays : List ℕ = counted_octets t (array_octets t) s.def.arrays in
    let interval : List ℕ = octets_of t.widths.interval_octets s.def.interval in
    let named : List ℕ = octets_of t.widths.structure_octets key.id in
    let a = length-append named (flag_octets s.enabled ++ (interval ++ (simple ++ arrays))) in
    let b = length-append (flag_octets s.enabled) (interval ++ (simple ++ arrays)) in
    let c = length-append interval (simple ++ arrays) in
    let d = length-append simple arrays in
    let e = length-append (octets_of t.widths.count_octets (length s.def.arrays)) (flat_map (array_octets t) s.def.arrays) in
    let f = counted-short t s.def.simple fit in
    let g = arrays-short t s.def.arrays fit in
    let i = length-digits 256 t.widths.structure_octets key.id in
    let j = length-digits 256 t.widths.interval_octets s.def.interval in
    let k = length-digits 256 t.widths.count_octets (length s.def.arrays) in
    let l = flag-one s.enabled in
    let m = few-ids t s.def fit h in
    let n = length-append s.def.simple (flat_map (λ (x : SuperList). x.params) s.def.arrays) in
    let few = h.few_arrays in
    let w1 = fit.widths.structure_octets.1 in
    let w2 = fit.widths.interval_octets.1 in
    let w3 = fit.widths.count_octets.1 in
    record {
      grammar = structure-told t key s fit id h;
      room = tt;
      short = omega (arith, a, b, c, d, e, f, g, i, j, k, l, m, n, few, w1, w2, w3);
    }

-- and so can its properties
pub properties-writable : (t : TailoringParts) (key : Key) (s : Structure) → IsFit t → key.id < 256 ^ t.widths.structure_octets → IsWellFormed t s.def
    → IsWritable t (Hk (told.Periodic key.kind (row_of key s ∷ [])))
properties-writable t key s fit id h =
    let interval : List ℕ = octets_of t.widths.interval_octets s.def.interval in
    let named : List ℕ = octets_of t.widths.structure_octets key.id in
    let a = length-append named (flag_octets s.enabled ++ interval) in
    let b = length-append (flag_octets s.enabled) interval in
    let c = length-append (octets_of t.widths.count_octets 1) ((named ++ (flag_octets s.enabled ++ interval)) ++ []) in
    let d = length-append (named ++ (flag_octets s.enabled ++ interval)) [] in
    let i = length-digits 256 t.widths.structure_octets key.id in
    let j = length-digits 256 t.widths.interval_octets s.def.interval in
    let k = length-digits 256 t.widths.count_octets 1 in
    let l = flag-one s.enabled in
    let w1 = fit.widths.structure_octets.1 in
    let w2 = fit.widths.interval_octets.1 in
    let w3 = fit.widths.count_octets.1 in
    let most = fit.widths.max_interval.1 in
    let high = h.interval.1 in
    let room : 256 ^ 1 ≤ 256 ^ t.widths.count_octets = let some : 0 < 256 = omega arith in pow-le-pow_right some fit.widths.count_octets.0 in
    record {
      grammar = ((omega arith, omega arith, omega (arith, room)), ((refl, tt), (id, tt)), ((h.interval, omega (arith, high, most)), tt));
      room = tt;
      short = omega (arith, a, b, c, d, i, j, k, l, w1, w2, w3);
    }
