-- The spelling of statistics requests and reports.
use Rattle.std.specs.Prelude.{ℕ, ◌+◌, ◌^◌, ◌<◌, ◌≤◌, ℤ, ⊤, List, [], ◌++◌, length, map, Bool, IfSome, IsSome}
use Rattle.std.specs.List.{AllByRecursion}
use Rattle.hk_base.specs.TailoringParts.{TailoringParts}
use Rattle.hk_base.specs.Fields.{octets_of}
use Rattle.hk_base.specs.Parameters.{parameter}
use Rattle.st04_grammar.specs.Bodies.{numeric_fault}
use Rattle.body_fields.specs.Spelling.{AllStand, IsCount, IsInOctets, IsInterval, IsValueOf, counted_octets, param_octets, interval_octets, flag_octets, time_octets, value_octets, mean_octets}
use Rattle.st04_grammar.specs.declared.bodies.Request04.{Request04}
use Rattle.st04_grammar.specs.declared.bodies.Request04.TheVariants.{Report, Reset, Enable, Disable, Add, Delete, ShowDefinitions}
use Rattle.st04_grammar.specs.declared.bodies.StatRow.{StatRow}
use Rattle.st04_grammar.specs.declared.bodies.StatReport.{StatReport}
use Rattle.st04_grammar.specs.declared.bodies.Report04.{Report04}
use Rattle.st04_grammar.specs.declared.bodies.Report04.TheVariants as told

-- the subtype of a request
abbrev pub request_subtype : Request04 → ℕ
request_subtype (Report resets) = 1
request_subtype Reset = 3
request_subtype (Enable n) = 4
request_subtype Disable = 5
request_subtype (Add ids) = 6
request_subtype (Delete ids) = 7
request_subtype ShowDefinitions = 8

-- the body of a request
abbrev pub request_octets : TailoringParts → Request04 → List ℕ
request_octets t (Report resets) = flag_octets resets
request_octets t Reset = []
request_octets t (Enable n) = interval_octets t n
request_octets t Disable = []
request_octets t (Add ids) = counted_octets t (param_octets t) ids
request_octets t (Delete ids) = counted_octets t (param_octets t) ids
request_octets t ShowDefinitions = []

-- the subtype of a report
abbrev pub report_subtype : Report04 → ℕ
report_subtype (told.Statistics report) = 2
report_subtype (told.Definitions enabled n ids) = 9

-- the statistics of a parameter
abbrev pub row_octets : TailoringParts → StatRow → List ℕ
row_octets t r =
    param_octets t r.param
    ++ (octets_of 4 r.count
    ++ (value_octets t r.param r.max
    ++ (time_octets t r.max_time
    ++ (value_octets t r.param r.min ++ (time_octets t r.min_time ++ mean_octets t r.param r.mean)))))

-- a report of statistics
abbrev pub statistics_octets : TailoringParts → StatReport → List ℕ
statistics_octets t r = time_octets t r.start ++ (time_octets t r.end ++ counted_octets t (row_octets t) r.rows)

-- a report of what the statistics are taken of
abbrev pub definition_octets : TailoringParts → Bool → ℕ → List ℕ → List ℕ
definition_octets t enabled n ids = flag_octets enabled ++ (interval_octets t n ++ counted_octets t (param_octets t) ids)

-- the body of a report
abbrev pub report_octets : TailoringParts → Report04 → List ℕ
report_octets t (told.Statistics report) = statistics_octets t report
report_octets t (told.Definitions enabled n ids) = definition_octets t enabled n ids

-- the parameters of rows
abbrev pub ids_of : List StatRow → List ℕ
ids_of rows = map (λ r. r.param) rows

-- a tag that the field of a time has room for
abbrev pub IsTime : TailoringParts → ℕ → Type 0
IsTime t tag = tag < 256 ^ (t.widths.coarse + t.widths.fine)

-- a mean that its octets have room for
abbrev pub IsMeanOf : TailoringParts → ℕ → ℤ → Type 0
IsMeanOf t id mean = IfSome (parameter t id) (λ p. IsInOctets p.form (p.octets + t.widths.mean_fraction) mean)

-- statistics that a row can have, its parameter aside
pub record IsRow (t : TailoringParts) (r : StatRow) : Type 0 where
  pub count : (1 ≤ r.count) × (r.count < 256 ^ 4)
  pub max : IsValueOf t r.param r.max
  pub max_time : IsTime t r.max_time
  pub min : IsValueOf t r.param r.min
  pub min_time : IsTime t r.min_time
  pub mean : IsMeanOf t r.param r.mean

-- a row that can be written: its parameter is known
pub record IsKnownRow (t : TailoringParts) (r : StatRow) : Type 0 where
  pub known : IsSome (parameter t r.param)
  pub row : IsRow t r

-- rows that can stand in a body
pub record AreRows (t : TailoringParts) (rows : List StatRow) : Type 0 where
  pub count : IsCount t 0 (length rows)
  pub ids : AllStand (numeric_fault t) [] (ids_of rows)
  pub each : AllByRecursion (IsRow t) rows

-- IDs of parameters with numbers that can stand in a body, so many at least
pub record AreNumericIds (t : TailoringParts) (least : ℕ) (ids : List ℕ) : Type 0 where
  pub count : IsCount t least (length ids)
  pub stand : AllStand (numeric_fault t) [] ids

-- which requests are of the grammar
abbrev pub IsRequest : TailoringParts → Request04 → Type 0
IsRequest t (Report resets) = ⊤
IsRequest t Reset = ⊤
IsRequest t (Enable n) = IsInterval t n
IsRequest t Disable = ⊤
IsRequest t (Add ids) = AreNumericIds t 1 ids
IsRequest t (Delete ids) = AreNumericIds t 0 ids
IsRequest t ShowDefinitions = ⊤

-- which reports of statistics are of the grammar; the end may lie before the start, and a maximum below the minimum
pub record IsStatistics (t : TailoringParts) (r : StatReport) : Type 0 where
  pub start : IsTime t r.start
  pub stop : IsTime t r.end
  pub rows : AreRows t r.rows

-- which reports are of the grammar
abbrev pub IsReport : TailoringParts → Report04 → Type 0
IsReport t (told.Statistics report) = IsStatistics t report
IsReport t (told.Definitions enabled n ids) = IsInterval t n × AreNumericIds t 0 ids
