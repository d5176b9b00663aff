-- A structure whose definition is valid can be told: its lists stand in a report, which is short.
use Rattle.std.proofs.Common.{arith, ◌≡◌, ℕ, ◌<◌, ◌≤◌, ◌^◌, ◌%◌, refl, sym, ◌∙◌, ap, ap₂, subst, List, [], ◌∷◌, ◌++◌, append_assoc, append-nil, length, flat_map, Bool, true, false, ◌==◌, ◌||◌, not, Option, Some, None}
use Rattle.std.specs.Prelude.{IsTrue, is_some, if◌then◌else◌}
use Rattle.std.specs.List.{AllByRecursion}
use Rattle.std.specs.Option.{option_or}
use Rattle.std.proofs.lemmas.Bool.{eq-eqb}
use Rattle.std.proofs.lemmas.Bool.Decides.{nat_tests}
use Rattle.std.proofs.lemmas.Option.{none-some}
use Rattle.std.proofs.Math.Nat.{pow-le-pow_right}
use Rattle.hk_base.specs.Definitions.{IsWellFormed, first_repeat}
use Rattle.hk_base.specs.Definitions as definitions
use Rattle.hk_base.specs.Fit.{IsFit}
use Rattle.hk_base.specs.Parameters.{parameter}
use Rattle.hk_base.specs.TailoringParts.{TailoringParts}
use Rattle.hk_base.specs.declared.types.Definition.{Definition}
use Rattle.hk_base.specs.declared.types.Key.{Key}
use Rattle.hk_base.specs.declared.types.Param.{Param}
use Rattle.hk_base.specs.declared.types.Structure.{Structure}
use Rattle.hk_base.specs.declared.types.SuperList.{SuperList}
use Rattle.body_fields.specs.Reading.{fault_if, param_fault}
use Rattle.body_fields.specs.Spelling.{AllStand, AllFit}
use Rattle.body_fields.specs.declared.fault.BodyFault.TheVariants.{RepeatedKey, UnknownParam, ZeroCount, BadRepetition}
use Rattle.body_fields.proofs.FitLemmas.{parameter-fit}
use Rattle.st03_grammar.specs.Bodies.{in_view, array_view, least_arrays}
use Rattle.st03_grammar.specs.Spelling.{AreArrays, AreLists, IsReport03}
use Rattle.st03_grammar.specs.declared.bodies.Report03.TheVariants as told
use Rattle.report_structures.proofs.RepeatLemmas.{among, among-append, repeat-seen}

pub first-clear : (b : Bool) (id : ℕ) (rest : Option ℕ) → (if b then Some id else rest) ≡ None → (b ≡ false) × (rest ≡ None)
first-clear false id rest e = (refl, e)
first-clear true id rest e = absurd (none-some id (sym e))

or_swap : (a b c : Bool) → (a || (b || c)) ≡ (b || (a || c))
or_swap true true c = refl
or_swap true false c = refl
or_swap false true c = refl
or_swap false false c = refl

-- of two lists none stands twice: so in the first, and in the second behind it
once-split : (seen xs ys : List ℕ) → first_repeat seen (xs ++ ys) ≡ None → (first_repeat seen xs ≡ None) × (first_repeat (xs ++ seen) ys ≡ None)
once-split seen [] ys e = (refl, e)
once-split seen (x ∷ xs) ys e =
    let clear = first-clear (among x seen) x (first_repeat (x ∷ seen) (xs ++ ys)) e in
    let more = once-split (x ∷ seen) xs ys clear.1 in
    (ap (λ b. if b then Some x else first_repeat (x ∷ seen) xs) clear.0 ∙ more.0, repeat-seen (x ∷ (xs ++ seen)) (xs ++ x ∷ seen) ys (λ y. sym (moved y)) ∙ more.1)
  where
    moved : (y : ℕ) → among y (xs ++ x ∷ seen) ≡ among y (x ∷ (xs ++ seen))
    moved y =
        among-append y xs (x ∷ seen)
        ∙ (or_swap (among y xs) (x == y) (among y seen) ∙ ap (λ b. (x == y) || b) (sym (among-append y xs seen)))

-- known IDs of which none stands twice can stand
stands : (t : TailoringParts) (view : List ℕ → List ℕ) (others earlier ids : List ℕ) → ((before : List ℕ) (x : ℕ) → among x (view before) ≡ among x (before ++ others))
    → first_repeat (earlier ++ others) ids ≡ None → AllByRecursion (λ id. IsTrue (is_some (parameter t id))) ids → AllStand (λ before id. param_fault t (view before) id) earlier ids
stands t view others earlier [] shows e k = tt
stands t view others earlier (id ∷ ids) shows e k =
    let clear = first-clear (among id (earlier ++ others)) id (first_repeat (id ∷ (earlier ++ others)) ids) e in
    (ap₂ (λ a b. option_or (fault_if a (RepeatedKey id)) (fault_if (not b) (UnknownParam id))) (shows earlier id ∙ clear.0) k.0, stands t view others (id ∷ earlier) ids shows clear.1 k.1)

-- known IDs fit their field
ids-fit : (t : TailoringParts) (ids : List ℕ) → IsFit t → AllByRecursion (λ id. IsTrue (is_some (parameter t id))) ids → AllFit t.widths.parameter_octets ids
ids-fit t [] fit k = tt
ids-fit t (id ∷ ids) fit k = (go (parameter t id) refl k.0, ids-fit t ids fit k.1)
  where
    go : (o : Option Param) → parameter t id ≡ o → is_some o ≡ true → id < 256 ^ t.widths.parameter_octets
    go None q h = absurd (let no : false ≡ true → ⊥ = λ z. cc in no h)
    go (Some p) q h = let f = parameter-fit t id p fit q in subst (λ n. n < 256 ^ t.widths.parameter_octets) f.1 f.0.id

count-fits : (t : TailoringParts) (n : ℕ) → IsFit t → n ≤ 255 → n < 256 ^ t.widths.count_octets
count-fits t n fit le = let room : 256 ^ 1 ≤ 256 ^ t.widths.count_octets = let some : 0 < 256 = omega arith in pow-le-pow_right some fit.widths.count_octets.0 in omega (arith, le, room)

known-split : (t : TailoringParts) (xs ys : List ℕ) → AllByRecursion (λ id. IsTrue (is_some (parameter t id))) (xs ++ ys)
    → AllByRecursion (λ id. IsTrue (is_some (parameter t id))) xs × AllByRecursion (λ id. IsTrue (is_some (parameter t id))) ys
known-split t [] ys k = (tt, k)
known-split t (x ∷ xs) ys k = let more = known-split t xs ys k.1 in ((k.0, more.0), more.1)

module _ (t : TailoringParts) (fit : IsFit t) (n : ℕ) (simple : List ℕ) where
  repetition-stands : (r : ℕ) → 1 ≤ r → n % r ≡ 0 → option_or (fault_if (r == 0) ZeroCount) (fault_if (not (n % r == 0)) (BadRepetition r n)) ≡ None
  repetition-stands r some divides =
      ap₂ (λ a b. option_or (fault_if a ZeroCount) (fault_if (not b) (BadRepetition r n))) (not-zero r some) (eq-eqb (n % r) 0 divides)
    where
      not-zero : (k : ℕ) → 1 ≤ k → (k == 0) ≡ false
      not-zero k le = grind (arith, nat_tests)

  arrays-stand : (earlier arrays : List SuperList) → first_repeat (simple ++ flat_map (λ a. a.params) earlier) (flat_map (λ a. a.params) arrays) ≡ None
      → AllByRecursion (λ id. IsTrue (is_some (parameter t id))) (flat_map (λ a. a.params) arrays) → AllByRecursion (definitions.IsArray t n) arrays → AreArrays t true (Some n) simple earlier arrays
  arrays-stand earlier [] e k h = tt
  arrays-stand earlier (a ∷ rest) e k h =
      let front : List ℕ = flat_map (λ (b : SuperList). b.params) earlier in
      let behind : List ℕ = flat_map (λ (b : SuperList). b.params) rest in
      let once = once-split (simple ++ front) a.params behind e in
      let known = known-split t a.params behind k in (
        record {
          repetition = repetition-stands a.repetition h.0.repeated h.0.divides;
          field = h.0.field;
          count = (h.0.members, h.0.few, count-fits t (length a.params) fit h.0.few);
          params = (stands t (array_view true simple earlier) (simple ++ front) [] a.params (λ before x. ap (among x) (append_assoc before simple front)) once.0 known.0, ids-fit t a.params fit known.0);
        },
        arrays-stand (a ∷ earlier) rest (repeat-seen (simple ++ (a.params ++ front)) (a.params ++ (simple ++ front)) behind (λ x. moved x front) ∙ once.1) known.1 h.1,
      )
    where
      moved : (x : ℕ) (front : List ℕ) → among x (simple ++ (a.params ++ front)) ≡ among x (a.params ++ (simple ++ front))
      moved x front =
          among-append x simple (a.params ++ front) ∙ ap (λ b. among x simple || b) (among-append x a.params front)
          ∙ or_swap (among x simple) (among x a.params) (among x front)
          ∙ sym (among-append x a.params (simple ++ front) ∙ ap (λ b. among x a.params || b) (among-append x simple front))

-- the lists of a valid definition can stand in a report
pub lists-told : (t : TailoringParts) (d : Definition) → IsFit t → IsWellFormed t d → AreLists t true (Some d.interval) d.simple d.arrays
lists-told t d fit h =
    let behind : List ℕ = flat_map (λ (b : SuperList). b.params) d.arrays in
    let once = once-split [] d.simple behind h.once in
    let known = known-split t d.simple behind h.known in
    record {
      simple_count = (omega arith, h.simple, count-fits t (length d.simple) fit h.simple);
      params = (stands t (in_view true) [] [] d.simple (λ before x. ap (among x) (sym (append-nil before))) once.0 known.0, ids-fit t d.simple fit known.0);
      array_count = (least d.simple d.arrays h.some, h.few_arrays, count-fits t (length d.arrays) fit h.few_arrays);
      listed = arrays-stand t fit d.interval d.simple [] d.arrays once.1 known.1 h.arrays;
    }
  where
    least : (simple : List ℕ) (arrays : List SuperList) → 1 ≤ length (simple ++ flat_map (λ a. a.params) arrays) → least_arrays simple ≤ length arrays
    least [] [] le = absurd (omega (arith, le))
    least [] (a ∷ arrays) le = omega arith
    least (x ∷ simple) arrays le = omega arith

-- a report of a structure is of the grammar
pub structure-told : (t : TailoringParts) (key : Key) (s : Structure) → IsFit t → key.id < 256 ^ t.widths.structure_octets → IsWellFormed t s.def → IsReport03 t (told.Structure key s)
structure-told t key s fit id h =
    let most = fit.widths.max_interval.1 in
    let high = h.interval.1 in
    (id, (h.interval, omega (arith, high, most)), lists-told t s.def fit h)
