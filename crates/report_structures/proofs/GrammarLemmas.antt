-- The instructions of a request of the grammar are changes of the grammar.
use Rattle.std.proofs.Common.{arith, ◌≡◌, ℕ, zero, suc, ◌%◌, ◌≤◌, ◌==◌, refl, sym, subst, List, [], ◌∷◌, length, length-append, map, Bool, true, false, Option, Some, None}
use Rattle.std.specs.Prelude.{not, flat_map, is_some, nat_lt, IsTrue}
use Rattle.std.specs.List.{AllByRecursion}
use Rattle.std.specs.Option.{option_or, option_map_or}
use Rattle.std.proofs.lemmas.Bool.{eqb-true, not-false}
use Rattle.std.proofs.lemmas.Bool.Decides.{nat_tests}
use Rattle.hk_base.specs.TailoringParts.{TailoringParts}
use Rattle.hk_base.specs.Parameters.{parameter}
use Rattle.hk_base.specs.Definitions.{listed_ids}
use Rattle.body_fields.specs.Reading.{fault_if, param_fault, interval_fault}
use Rattle.body_fields.specs.Spelling.{AllStand}
use Rattle.body_fields.specs.declared.fault.BodyFault.{BodyFault}
use Rattle.body_fields.specs.declared.fault.BodyFault.TheVariants.{ZeroCount, ZeroInterval, LongInterval, BadRepetition}
use Rattle.hk_base.specs.declared.types.Kind.{Kind}
use Rattle.hk_base.specs.declared.types.Key.{Key}
use Rattle.hk_base.specs.declared.types.SuperList.{SuperList}
use Rattle.hk_base.proofs.Finds.{slice_get_each}
use Rattle.body_fields.proofs.FitLemmas.{param_known}
use Rattle.hk_base.proofs.Membership.{AllByRecursion-append}
use Rattle.std.proofs.lemmas.Option.{none-some}
use Rattle.st03_grammar.specs.Bodies.{repetition_fault, array_view, in_view}
use Rattle.body_fields.specs.Spelling.{IsInterval}
use Rattle.st03_grammar.specs.Spelling.{AreArrays, AreLists, IsRequest03}
use Rattle.st03_grammar.specs.Instructions.{StructureChange, plain, set_interval, key_of, structure_changes, instruction_at}
use Rattle.st03_grammar.specs.declared.bodies.Each.{Each}
use Rattle.st03_grammar.specs.declared.bodies.Pair.{Pair}
use Rattle.st03_grammar.specs.declared.bodies.Request03.{Request03}
use Rattle.st03_grammar.specs.declared.bodies.Request03.TheVariants.{Create, Append, OnEach, Intervals}
use Rattle.report_structures.specs.Changes.{IsGrammarArray, AreGrammarLists, IsGrammarInterval, AllDivide, IsGrammarChange}

-- an ID of a parameter of the tailoring
abbrev IsKnown : TailoringParts → ℕ → Type 0
IsKnown t id = IsTrue (is_some (parameter t id))

known_ids : (t : TailoringParts) (view : List ℕ → List ℕ) (earlier ids : List ℕ) → AllStand (λ before id. param_fault t (view before) id) earlier ids → AllByRecursion (IsKnown t) ids
known_ids t view earlier [] h = tt
known_ids t view earlier (id ∷ ids) h =
    let known = param_known t (view earlier) id h.0 in
    (subst (λ o. IsTrue (is_some o)) (sym known.1) refl, known_ids t view (id ∷ earlier) ids h.1)

repeated : (interval : Option ℕ) (r : ℕ) → repetition_fault interval r ≡ None → 1 ≤ r
repeated interval r e = go (r == 0) (option_map_or (λ n. fault_if (not (n % r == 0)) (BadRepetition r n)) interval None) refl e
  where
    go : (b : Bool) (rest : Option BodyFault) → r == 0 ≡ b → option_or (fault_if b ZeroCount) rest ≡ None → 1 ≤ r
    go true rest a h = absurd (none-some ZeroCount (sym h))
    go false rest a h = grind (arith, nat_tests)

divides : (n r : ℕ) → repetition_fault (Some n) r ≡ None → n % r ≡ 0
divides n r e = go (r == 0) (not (n % r == 0)) refl e
  where
    go : (b odd : Bool) → not (n % r == 0) ≡ odd → option_or (fault_if b ZeroCount) (fault_if odd (BadRepetition r n)) ≡ None → n % r ≡ 0
    go true odd a h = absurd (none-some ZeroCount (sym h))
    go false true a h = absurd (none-some (BadRepetition r n) (sym h))
    go false false a h = eqb-true (n % r) 0 (not-false (n % r == 0) a)

arrays_of_grammar : (t : TailoringParts) (once : Bool) (interval : Option ℕ) (simple : List ℕ) (earlier arrays : List SuperList)
    → AreArrays t once interval simple earlier arrays → AllByRecursion (IsGrammarArray t) arrays
arrays_of_grammar t once interval simple earlier [] are = tt
arrays_of_grammar t once interval simple earlier (a ∷ others) are = (
  record { members = are.0.count.0; few = are.0.count.1; repeated = repeated interval a.repetition are.0.repetition; field = are.0.field },
  arrays_of_grammar t once interval simple (a ∷ earlier) others are.1,
)

pub all_divide : (t : TailoringParts) (once : Bool) (n : ℕ) (simple : List ℕ) (earlier arrays : List SuperList) → AreArrays t once (Some n) simple earlier arrays → AllDivide n arrays
all_divide t once n simple earlier [] are = tt
all_divide t once n simple earlier (a ∷ others) are = (divides n a.repetition are.0.repetition, all_divide t once n simple (a ∷ earlier) others are.1)

arrays_known : (t : TailoringParts) (once : Bool) (interval : Option ℕ) (simple : List ℕ) (earlier arrays : List SuperList)
    → AreArrays t once interval simple earlier arrays → AllByRecursion (IsKnown t) (flat_map (λ a. a.params) arrays)
arrays_known t once interval simple earlier [] are = tt
arrays_known t once interval simple earlier (a ∷ others) are =
    AllByRecursion-append (IsKnown t) a.params (flat_map (λ x. x.params) others) (known_ids t (array_view once simple earlier) [] a.params are.0.params.0)
    (arrays_known t once interval simple (a ∷ earlier) others are.1)

some_listed : (t : TailoringParts) (once : Bool) (interval : Option ℕ) (simple : List ℕ) (arrays : List SuperList)
    → AreLists t once interval simple arrays → 1 ≤ length (listed_ids simple arrays)
some_listed t once interval (id ∷ simple) arrays are = omega arith
some_listed t once interval [] [] are = absurd (omega (arith, are.array_count.0))
some_listed t once interval [] (a ∷ arrays) are = omega (arith, are.listed.0.count.0, length-append a.params (flat_map (λ x. x.params) arrays))

pub lists_of_grammar : (t : TailoringParts) (once : Bool) (interval : Option ℕ) (simple : List ℕ) (arrays : List SuperList)
    → AreLists t once interval simple arrays → AreGrammarLists t simple arrays
lists_of_grammar t once interval simple arrays are =
    record {
      some = some_listed t once interval simple arrays are;
      known = AllByRecursion-append (IsKnown t) simple (flat_map (λ a. a.params) arrays) (known_ids t (in_view once) [] simple are.params.0)
          (arrays_known t once interval simple [] arrays are.listed);
      few = are.simple_count.1;
      few_arrays = are.array_count.1;
      each_array = arrays_of_grammar t once interval simple [] arrays are.listed;
    }

-- an instruction of the grammar
abbrev OfGrammar : TailoringParts → Key × StructureChange → Type 0
OfGrammar t x = IsGrammarChange t x.1

each_of_grammar : (t : TailoringParts) (each : Each) (kind : Kind) (ids : List ℕ) → AllByRecursion (OfGrammar t) (map (λ id. (key_of kind id, plain each)) ids)
each_of_grammar t each kind [] = tt
each_of_grammar t each kind (id ∷ ids) = (tt, each_of_grammar t each kind ids)

pairs_of_grammar : (t : TailoringParts) (kind : Kind) (pairs : List Pair) → AllByRecursion (λ p. IsInterval t p.interval) pairs
    → AllByRecursion (OfGrammar t) (map (λ p. (key_of kind p.id, set_interval p.interval)) pairs)
pairs_of_grammar t kind [] h = tt
pairs_of_grammar t kind (p ∷ pairs) h = (h.0.0, pairs_of_grammar t kind pairs h.1)

changes_of_grammar : (t : TailoringParts) (r : Request03) → IsRequest03 t r → AllByRecursion (OfGrammar t) (structure_changes r)
changes_of_grammar t (Create key d) is =
    ((is.1.0, lists_of_grammar t false (Some d.interval) d.simple d.arrays is.2, all_divide t false d.interval d.simple [] d.arrays is.2.listed), tt)
changes_of_grammar t (Append key a) is = (lists_of_grammar t false None a.simple a.arrays is.1, tt)
changes_of_grammar t (OnEach each kind ids) is = each_of_grammar t each kind ids
changes_of_grammar t (Intervals kind pairs) is = pairs_of_grammar t kind pairs is.2

pub instruction_of_grammar : (t : TailoringParts) (r : Request03) (n : ℕ) (key : Key) (change : StructureChange) → IsRequest03 t r
    → instruction_at r n ≡ Some (key, change) → IsGrammarChange t change
instruction_of_grammar t r zero key change is e = absurd (none-some (key, change) e)
instruction_of_grammar t r (suc i) key change is e = slice_get_each (OfGrammar t) (structure_changes r) i (key, change) e (changes_of_grammar t r is)
