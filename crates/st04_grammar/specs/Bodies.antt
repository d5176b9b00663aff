-- The bodies of statistics requests and reports.
use Rattle.std.specs.Prelude.{ℕ, ◌+◌, List, [], ◌∷◌, map, not, ℤ, Bool, true, false, ◌==◌, Option, None, Result, Ok, Err}
use Rattle.std.specs.Option.{option_or, option_map_or}
use Rattle.hk_base.specs.TailoringParts.{TailoringParts}
use Rattle.hk_base.specs.Parameters.{parameter}
use Rattle.body_fields.specs.Reading.{Read, then_read, with_check, fault_if, octets_field, uint, counted_list, param_fault, interval_field, flag_field, time_field, form_number, value_of_field, body_of}
use Rattle.hk_base.specs.declared.types.Form.{Form}
use Rattle.hk_base.specs.declared.types.Form.TheVariants.{Unsigned, Signed, Enumerated, Boolean}
use Rattle.body_fields.specs.declared.fault.BodyFault.{BodyFault}
use Rattle.body_fields.specs.declared.fault.BodyFault.TheVariants.{ZeroCount, UnknownParam, NotNumeric}
use Rattle.st04_grammar.specs.declared.bodies.Request04.{Request04}
use Rattle.st04_grammar.specs.declared.bodies.Request04.TheVariants.{Report, Reset, Enable, Disable, Add, Delete, ShowDefinitions}
use Rattle.st04_grammar.specs.declared.bodies.StatRow.{StatRow}
use Rattle.st04_grammar.specs.declared.bodies.Report04.{Report04}
use Rattle.st04_grammar.specs.declared.bodies.Report04.TheVariants as told

-- a parameter with numbers
abbrev pub is_numeric : Form → Bool
is_numeric Unsigned = true
is_numeric Signed = true
is_numeric (Enumerated values) = false
is_numeric Boolean = false

-- the fault of a parameter without numbers
abbrev pub form_fault : TailoringParts → ℕ → Option BodyFault
form_fault t id = option_map_or (λ p. fault_if (not (is_numeric p.form)) (NotNumeric id)) (parameter t id) None

-- the fault of a parameter ID that is repeated, unknown or without numbers
abbrev pub numeric_fault : TailoringParts → List ℕ → ℕ → Option BodyFault
numeric_fault t earlier id = option_or (param_fault t earlier id) (form_fault t id)

-- the ID of a parameter with numbers
abbrev pub numeric_field : TailoringParts → List ℕ → List ℕ → Read ℕ
numeric_field t earlier octets = with_check (numeric_fault t earlier) (uint t.widths.parameter_octets octets)

-- a request without a body
abbrev pub bare_request : Request04 → List ℕ → Read Request04
bare_request request octets = Ok (request, octets)

-- a request for a report, which may reset
abbrev pub report_request : List ℕ → Read Request04
report_request octets = then_read (flag_field octets) (λ resets end. Ok (Report resets, end))

-- a request for reports at an interval
abbrev pub enable_request : TailoringParts → List ℕ → Read Request04
enable_request t octets = then_read (interval_field t octets) (λ n end. Ok (Enable n, end))

-- parameters with numbers, so many at least
abbrev pub numeric_ids : TailoringParts → ℕ → List ℕ → Read (List ℕ)
numeric_ids t least octets = counted_list t least (numeric_field t) octets

-- a request that adds parameters
abbrev pub add_request : TailoringParts → List ℕ → Read Request04
add_request t octets = then_read (numeric_ids t 1 octets) (λ ids end. Ok (Add ids, end))

-- a request that deletes parameters, or all where it names none
abbrev pub delete_request : TailoringParts → List ℕ → Read Request04
delete_request t octets = then_read (numeric_ids t 0 octets) (λ ids end. Ok (Delete ids, end))

-- the requests by their subtypes
abbrev pub request_table : TailoringParts → List (ℕ × (List ℕ → Read Request04))
request_table t =
    (1, report_request)
    ∷ (3, bare_request Reset)
    ∷ (4, enable_request t)
    ∷ (5, bare_request Disable)
    ∷ (6, add_request t)
    ∷ (7, delete_request t)
    ∷ (8, bare_request ShowDefinitions)
    ∷ []

-- the request of a subtype
abbrev pub request_body : TailoringParts → ℕ → List ℕ → Option (Result Request04 BodyFault)
request_body t subtype octets = body_of (request_table t) subtype octets

-- a mean has its parameter's octets and those of the fraction, and its sign
abbrev pub mean_field : TailoringParts → ℕ → List ℕ → Read ℤ
mean_field t id octets =
    option_map_or (λ p. then_read (octets_field (p.octets + t.widths.mean_fraction) octets) (λ field rest. Ok (form_number p.form field, rest)))
    (parameter t id) (Err (UnknownParam id))

-- a number of samples
abbrev pub samples_field : List ℕ → Read ℕ
samples_field octets = with_check (λ n. fault_if (n == 0) ZeroCount) (uint 4 octets)

-- the statistics of a parameter
abbrev pub row_field : TailoringParts → List StatRow → List ℕ → Read StatRow
row_field t earlier octets =
    then_read (numeric_field t (map (λ r. r.param) earlier) octets) (λ id o1.
    then_read (samples_field o1) (λ count o2.
    then_read (value_of_field t id o2) (λ max o3.
    then_read (time_field t o3) (λ max_time o4.
    then_read (value_of_field t id o4) (λ min o5.
    then_read (time_field t o5) (λ min_time o6.
    then_read (mean_field t id o6) (λ mean end.
    Ok (record { param = id; count = count; max = max; max_time = max_time; min = min; min_time = min_time; mean = mean }, end))))))))

-- a report of statistics: from when, to when, and the rows
abbrev pub statistics_report : TailoringParts → List ℕ → Read Report04
statistics_report t octets =
    then_read (time_field t octets) (λ start o1.
    then_read (time_field t o1) (λ stop o2.
    then_read (counted_list t 0 (row_field t) o2) (λ rows end. Ok (told.Statistics (record { start = start; end = stop; rows = rows }), end))))

-- a report of what the statistics are taken of: the status, the interval, and the parameters
abbrev pub definition_report : TailoringParts → List ℕ → Read Report04
definition_report t octets =
    then_read (flag_field octets) (λ enabled o1.
    then_read (interval_field t o1) (λ n o2.
    then_read (numeric_ids t 0 o2) (λ ids end. Ok (told.Definitions enabled n ids, end))))

-- the reports by their subtypes
abbrev pub report_table : TailoringParts → List (ℕ × (List ℕ → Read Report04))
report_table t = (2, statistics_report t) ∷ (9, definition_report t) ∷ []

-- the report of a subtype
abbrev pub report_body : TailoringParts → ℕ → List ℕ → Option (Result Report04 BodyFault)
report_body t subtype octets = body_of (report_table t) subtype octets
