-- The bodies of housekeeping requests and reports.
use Rattle.std.specs.Prelude.{ℕ, ◌%◌, List, [], ◌∷◌, ◌++◌, flat_map, map, Bool, true, false, not, ◌==◌, Option, Some, None, Result, Ok, if◌then◌else◌}
use Rattle.std.specs.Option.{option_or, option_map_or}
use Rattle.hk_base.specs.TailoringParts.{TailoringParts}
use Rattle.body_fields.specs.Reading.{Read, then_read, with_check, fault_if, uint, counted_list, repeat_fault, param_field, interval_field, flag_field, body_of}
use Rattle.hk_base.specs.declared.types.Kind.{Kind}
use Rattle.hk_base.specs.declared.types.Kind.TheVariants.{Housekeeping, Diagnostic}
use Rattle.hk_base.specs.declared.types.Key.{Key}
use Rattle.hk_base.specs.declared.types.SuperList.{SuperList}
use Rattle.hk_base.specs.declared.types.Definition.{Definition}
use Rattle.body_fields.specs.declared.fault.BodyFault.{BodyFault}
use Rattle.body_fields.specs.declared.fault.BodyFault.TheVariants.{ZeroCount, BadRepetition}
use Rattle.st03_grammar.specs.Instructions.{key_of}
use Rattle.st03_grammar.specs.declared.bodies.Added.{Added}
use Rattle.st03_grammar.specs.declared.bodies.Each.{Each}
use Rattle.st03_grammar.specs.declared.bodies.Each.TheVariants.{Delete, Enable, Disable, Show, OneShot, ShowPeriodic}
use Rattle.st03_grammar.specs.declared.bodies.Pair.{Pair}
use Rattle.st03_grammar.specs.declared.bodies.PeriodicRow.{PeriodicRow}
use Rattle.st03_grammar.specs.declared.bodies.Request03.{Request03}
use Rattle.st03_grammar.specs.declared.bodies.Request03.TheVariants.{Create, Append, OnEach, Intervals}
use Rattle.st03_grammar.specs.declared.bodies.Report03.{Report03}
use Rattle.st03_grammar.specs.declared.bodies.Report03.TheVariants as told

-- a structure ID that isn't among these
abbrev pub structure_field : TailoringParts → List ℕ → List ℕ → Read ℕ
structure_field t earlier octets = with_check (repeat_fault earlier) (uint t.widths.structure_octets octets)

-- a structure ID, as a key
abbrev pub key_field : TailoringParts → Kind → List ℕ → Read Key
key_field t kind octets = then_read (structure_field t [] octets) (λ id rest. Ok (key_of kind id, rest))

-- a repetition number is 1 or more, and divides the interval where the body has one
abbrev pub repetition_fault : Option ℕ → ℕ → Option BodyFault
repetition_fault interval r =
    option_or (fault_if (r == 0) ZeroCount) (option_map_or (λ n. fault_if (not (n % r == 0)) (BadRepetition r n)) interval None)

-- whether parameter IDs may stand twice: in a report each stands once
abbrev pub in_view : Bool → List ℕ → List ℕ
in_view once ids = if once then ids else []

-- the IDs that count as read before the next one of an array, after others of the array, simple ones and other arrays
abbrev pub array_view : Bool → List ℕ → List SuperList → List ℕ → List ℕ
array_view once simple earlier ids = in_view once (ids ++ simple ++ flat_map (λ a. a.params) earlier)

-- a repetition number and its parameters, after the simple ones and earlier arrays
abbrev pub array_field : TailoringParts → Bool → Option ℕ → List ℕ → List SuperList → List ℕ → Read SuperList
array_field t once interval simple earlier octets =
    then_read (with_check (repetition_fault interval) (uint t.widths.repetition_octets octets)) (λ r rest.
    then_read (counted_list t 1 (λ ids field. param_field t (array_view once simple earlier ids) field) rest) (λ params end.
    Ok (record { repetition = r; params = params }, end)))

-- the least number of arrays: where there is no simple parameter there is an array
abbrev pub least_arrays : List ℕ → ℕ
least_arrays [] = 1
least_arrays (id ∷ ids) = 0

-- LISTS: simple parameters and arrays
abbrev pub lists_field : TailoringParts → Bool → Option ℕ → List ℕ → Read Added
lists_field t once interval octets =
    then_read (counted_list t 0 (λ ids field. param_field t (in_view once ids) field) octets) (λ simple rest.
    then_read (counted_list t (least_arrays simple) (array_field t once interval simple) rest) (λ arrays end.
    Ok (record { simple = simple; arrays = arrays }, end)))

-- a definition of an interval and lists
abbrev pub definition_of : ℕ → Added → Definition
definition_of interval lists = record { interval = interval; simple = lists.simple; arrays = lists.arrays }

-- a request that creates a structure
abbrev pub creation : TailoringParts → Kind → List ℕ → Read Request03
creation t kind octets =
    then_read (key_field t kind octets) (λ key rest.
    then_read (interval_field t rest) (λ n more.
    then_read (lists_field t false (Some n) more) (λ lists end. Ok (Create key (definition_of n lists), end))))

-- a request that appends parameters
abbrev pub appending : TailoringParts → Kind → List ℕ → Read Request03
appending t kind octets =
    then_read (key_field t kind octets) (λ key rest. then_read (lists_field t false None rest) (λ lists end. Ok (Append key lists, end)))

-- a request on each of a list of structures
abbrev pub on_each : TailoringParts → Each → Kind → List ℕ → Read Request03
on_each t each kind octets = then_read (counted_list t 1 (structure_field t) octets) (λ ids end. Ok (OnEach each kind ids, end))

-- a structure ID that isn't among these, with an interval
abbrev pub pair_field : TailoringParts → List Pair → List ℕ → Read Pair
pair_field t earlier octets =
    then_read (structure_field t (map (λ p. p.id) earlier) octets) (λ id rest.
    then_read (interval_field t rest) (λ n end. Ok (record { id = id; interval = n }, end)))

-- a request that sets intervals
abbrev pub intervals : TailoringParts → Kind → List ℕ → Read Request03
intervals t kind octets = then_read (counted_list t 1 (pair_field t) octets) (λ pairs end. Ok (Intervals kind pairs, end))

-- the requests by their subtypes
abbrev pub request_table : TailoringParts → List (ℕ × (List ℕ → Read Request03))
request_table t =
    (1, creation t Housekeeping)
    ∷ (2, creation t Diagnostic)
    ∷ (3, on_each t Delete Housekeeping)
    ∷ (4, on_each t Delete Diagnostic)
    ∷ (5, on_each t Enable Housekeeping)
    ∷ (6, on_each t Disable Housekeeping)
    ∷ (7, on_each t Enable Diagnostic)
    ∷ (8, on_each t Disable Diagnostic)
    ∷ (9, on_each t Show Housekeeping)
    ∷ (11, on_each t Show Diagnostic)
    ∷ (27, on_each t OneShot Housekeeping)
    ∷ (28, on_each t OneShot Diagnostic)
    ∷ (29, appending t Housekeeping)
    ∷ (30, appending t Diagnostic)
    ∷ (31, intervals t Housekeeping)
    ∷ (32, intervals t Diagnostic)
    ∷ (33, on_each t ShowPeriodic Housekeeping)
    ∷ (34, on_each t ShowPeriodic Diagnostic)
    ∷ []

-- the request of a subtype
abbrev pub request_body : TailoringParts → ℕ → List ℕ → Option (Result Request03 BodyFault)
request_body t subtype octets = body_of (request_table t) subtype octets

-- a report of a structure, in which each parameter stands once
abbrev pub structure_report : TailoringParts → Kind → List ℕ → Read Report03
structure_report t kind octets =
    then_read (key_field t kind octets) (λ key rest.
    then_read (flag_field rest) (λ enabled more.
    then_read (interval_field t more) (λ n others.
    then_read (lists_field t true (Some n) others) (λ lists end.
    Ok (told.Structure key (record { def = definition_of n lists; enabled = enabled }), end)))))

-- a report with a payload to the end of the body
abbrev pub parameter_report : TailoringParts → Kind → List ℕ → Read Report03
parameter_report t kind octets = then_read (key_field t kind octets) (λ key payload. Ok (told.Values key payload, []))

-- a structure ID that isn't among these, with a status and an interval
abbrev pub row_field : TailoringParts → List PeriodicRow → List ℕ → Read PeriodicRow
row_field t earlier octets =
    then_read (structure_field t (map (λ r. r.id) earlier) octets) (λ id rest.
    then_read (flag_field rest) (λ enabled more.
    then_read (interval_field t more) (λ n end. Ok (record { id = id; enabled = enabled; interval = n }, end))))

-- a report of periodic properties
abbrev pub periodic_report : TailoringParts → Kind → List ℕ → Read Report03
periodic_report t kind octets = then_read (counted_list t 1 (row_field t) octets) (λ rows end. Ok (told.Periodic kind rows, end))

-- the reports by their subtypes
abbrev pub report_table : TailoringParts → List (ℕ × (List ℕ → Read Report03))
report_table t =
    (10, structure_report t Housekeeping)
    ∷ (12, structure_report t Diagnostic)
    ∷ (25, parameter_report t Housekeeping)
    ∷ (26, parameter_report t Diagnostic)
    ∷ (35, periodic_report t Housekeeping)
    ∷ (36, periodic_report t Diagnostic)
    ∷ []

-- the report of a subtype
abbrev pub report_body : TailoringParts → ℕ → List ℕ → Option (Result Report03 BodyFault)
report_body t subtype octets = body_of (report_table t) subtype octets
