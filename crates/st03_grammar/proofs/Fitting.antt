-- What is of the grammar has room in its fields.
use Rattle.std.proofs.Common.{arith, ℕ, ◌≤◌, List, [], ◌∷◌, length, map, Bool, Option}
use Rattle.std.specs.List.{AllByRecursion}
use Rattle.hk_base.specs.TailoringParts.{TailoringParts}
use Rattle.body_fields.specs.Spelling.{AllFit, IsInterval}
use Rattle.hk_base.specs.declared.types.SuperList.{SuperList}
use Rattle.std.proofs.lemmas.List.{length-map}
use Rattle.st03_grammar.specs.Instructions.{structure_changes}
use Rattle.st03_grammar.specs.Spelling.{PairFits, RowFits, ArrayFits, ListsFit, RequestFits, ReportFits, AreArrays, AreLists, IsRequest03, IsReport03}
use Rattle.st03_grammar.specs.declared.bodies.Pair.{Pair}
use Rattle.st03_grammar.specs.declared.bodies.PeriodicRow.{PeriodicRow}
use Rattle.st03_grammar.specs.declared.bodies.Request03.{Request03}
use Rattle.st03_grammar.specs.declared.bodies.Request03.TheVariants.{Create, Append, OnEach, Intervals}
use Rattle.st03_grammar.specs.declared.bodies.Report03.{Report03}
use Rattle.st03_grammar.specs.declared.bodies.Report03.TheVariants as told

arrays_fit : (t : TailoringParts) (once : Bool) (interval : Option ℕ) (simple : List ℕ) (earlier arrays : List SuperList)
    → AreArrays t once interval simple earlier arrays
    → AllByRecursion (ArrayFits t) arrays
arrays_fit t once interval simple earlier [] are = tt
arrays_fit t once interval simple earlier (a ∷ others) are =
    ((are.0.field, (are.0.count.1, are.0.count.2, are.0.params.1)), arrays_fit t once interval simple (a ∷ earlier) others are.1)

lists_fit : (t : TailoringParts) (once : Bool) (interval : Option ℕ) (simple : List ℕ) (arrays : List SuperList) → AreLists t once interval simple arrays → ListsFit t simple arrays
lists_fit t once interval simple arrays are =
    record {
      params = (are.simple_count.1, are.simple_count.2, are.params.1);
      few_arrays = are.array_count.1;
      array_count = are.array_count.2;
      each_array = arrays_fit t once interval simple [] arrays are.listed;
    }

pairs_fit : (t : TailoringParts) (pairs : List Pair) → AllFit t.widths.structure_octets (map (λ p. p.id) pairs) → AllByRecursion (λ p. IsInterval t p.interval) pairs → AllByRecursion (PairFits t) pairs
pairs_fit t [] ids intervals = tt
pairs_fit t (p ∷ pairs) ids intervals = ((ids.0, intervals.0.1), pairs_fit t pairs ids.1 intervals.1)

rows_fit : (t : TailoringParts) (rows : List PeriodicRow) → AllFit t.widths.structure_octets (map (λ r. r.id) rows) → AllByRecursion (λ r. IsInterval t r.interval) rows → AllByRecursion (RowFits t) rows
rows_fit t [] ids intervals = tt
rows_fit t (r ∷ rows) ids intervals = ((ids.0, intervals.0.1), rows_fit t rows ids.1 intervals.1)

-- a request of the grammar has room in its fields
pub request_fits : (t : TailoringParts) (r : Request03) → IsRequest03 t r → RequestFits t r
request_fits t (Create key d) is = (is.0, is.1.1, lists_fit t _ _ d.simple d.arrays is.2)
request_fits t (Append key a) is = (is.0, lists_fit t _ _ a.simple a.arrays is.1)
request_fits t (OnEach each kind ids) is = (is.0.1, is.0.2, is.1.1)
request_fits t (Intervals kind pairs) is = (is.0.1, is.0.2, pairs_fit t pairs is.1.1 is.2)

-- a report of the grammar has room in its fields
pub report_fits : (t : TailoringParts) (r : Report03) → IsReport03 t r → ReportFits t r
report_fits t (told.Structure key s) is = (is.0, is.1.1, lists_fit t _ _ s.def.simple s.def.arrays is.2)
report_fits t (told.Values key payload) is = is
report_fits t (told.Periodic kind rows) is = (is.0.1, is.0.2, rows_fit t rows is.1.1 is.2)

-- a request of the grammar has at most 255 instructions
pub few_instructions : (t : TailoringParts) (r : Request03) → IsRequest03 t r → length (structure_changes r) ≤ 255
few_instructions t (Create key d) is = omega arith
few_instructions t (Append key a) is = omega arith
few_instructions t (OnEach each kind ids) is = rw (length-map) is.0.1
few_instructions t (Intervals kind pairs) is = rw (length-map) is.0.1
