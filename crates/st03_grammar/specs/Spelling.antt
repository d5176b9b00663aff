-- The spelling of housekeeping requests and reports.
use Rattle.std.specs.Prelude.{◌≡◌, ℕ, ◌^◌, ◌<◌, ◌≤◌, ⊤, List, [], ◌∷◌, ◌++◌, length, map, Bool, true, false, Option, Some, None}
use Rattle.std.specs.List.{AllByRecursion}
use Rattle.hk_base.specs.TailoringParts.{TailoringParts}
use Rattle.hk_base.specs.Fields.{octets_of}
use Rattle.body_fields.specs.Reading.{repeat_fault, param_fault}
use Rattle.body_fields.specs.Spelling.{AllStand, AllFit, IsCount, IsInterval, counted_octets, structure_octets, param_octets, interval_octets, flag_octets}
use Rattle.hk_base.specs.declared.types.Kind.{Kind}
use Rattle.hk_base.specs.declared.types.Kind.TheVariants.{Housekeeping, Diagnostic}
use Rattle.hk_base.specs.declared.types.SuperList.{SuperList}
use Rattle.st03_grammar.specs.Bodies.{in_view, array_view, repetition_fault, least_arrays}
use Rattle.st03_grammar.specs.declared.bodies.Each.{Each}
use Rattle.st03_grammar.specs.declared.bodies.Each.TheVariants.{Delete, Enable, Disable, Show, OneShot, ShowPeriodic}
use Rattle.st03_grammar.specs.declared.bodies.Pair.{Pair}
use Rattle.st03_grammar.specs.declared.bodies.PeriodicRow.{PeriodicRow}
use Rattle.st03_grammar.specs.declared.bodies.Request03.{Request03}
use Rattle.st03_grammar.specs.declared.bodies.Request03.TheVariants.{Create, Append, OnEach, Intervals}
use Rattle.st03_grammar.specs.declared.bodies.Report03.{Report03}
use Rattle.st03_grammar.specs.declared.bodies.Report03.TheVariants as told

-- one of a pair of numbers, the first for housekeeping, the second for diagnostics
abbrev pub by_kind : Kind → ℕ → ℕ → ℕ
by_kind Housekeeping first second = first
by_kind Diagnostic first second = second

-- the subtype of a request on each of a list of structures
abbrev pub each_subtype : Each → Kind → ℕ
each_subtype Delete kind = by_kind kind 3 4
each_subtype Enable kind = by_kind kind 5 7
each_subtype Disable kind = by_kind kind 6 8
each_subtype Show kind = by_kind kind 9 11
each_subtype OneShot kind = by_kind kind 27 28
each_subtype ShowPeriodic kind = by_kind kind 33 34

-- the subtype of a request
abbrev pub request_subtype : Request03 → ℕ
request_subtype (Create key d) = by_kind key.kind 1 2
request_subtype (Append key a) = by_kind key.kind 29 30
request_subtype (OnEach each kind ids) = each_subtype each kind
request_subtype (Intervals kind pairs) = by_kind kind 31 32

-- the subtype of a report
abbrev pub report_subtype : Report03 → ℕ
report_subtype (told.Structure key s) = by_kind key.kind 10 12
report_subtype (told.Values key payload) = by_kind key.kind 25 26
report_subtype (told.Periodic kind rows) = by_kind kind 35 36

-- an array: its repetition number, and its parameters
abbrev pub array_octets : TailoringParts → SuperList → List ℕ
array_octets t a = octets_of t.widths.repetition_octets a.repetition ++ counted_octets t (param_octets t) a.params

-- LISTS: simple parameters and arrays
abbrev pub lists_octets : TailoringParts → List ℕ → List SuperList → List ℕ
lists_octets t simple arrays = counted_octets t (param_octets t) simple ++ counted_octets t (array_octets t) arrays

-- a structure ID with an interval
abbrev pub pair_octets : TailoringParts → Pair → List ℕ
pair_octets t p = structure_octets t p.id ++ interval_octets t p.interval

-- a structure ID with a status and an interval
abbrev pub row_octets : TailoringParts → PeriodicRow → List ℕ
row_octets t r = structure_octets t r.id ++ (flag_octets r.enabled ++ interval_octets t r.interval)

-- the body of a request
abbrev pub request_octets : TailoringParts → Request03 → List ℕ
request_octets t (Create key d) = structure_octets t key.id ++ (interval_octets t d.interval ++ lists_octets t d.simple d.arrays)
request_octets t (Append key a) = structure_octets t key.id ++ lists_octets t a.simple a.arrays
request_octets t (OnEach each kind ids) = counted_octets t (structure_octets t) ids
request_octets t (Intervals kind pairs) = counted_octets t (pair_octets t) pairs

-- the body of a report
abbrev pub report_octets : TailoringParts → Report03 → List ℕ
report_octets t (told.Structure key s) =
    structure_octets t key.id ++ (flag_octets s.enabled ++ (interval_octets t s.def.interval ++ lists_octets t s.def.simple s.def.arrays))
report_octets t (told.Values key payload) = structure_octets t key.id ++ payload
report_octets t (told.Periodic kind rows) = counted_octets t (row_octets t) rows

-- IDs of structures of which none stands twice
abbrev pub AreStructures : TailoringParts → List ℕ → Type 0
AreStructures t ids = AllStand repeat_fault [] ids × AllFit t.widths.structure_octets ids

-- IDs of known parameters, of which none stands among those that a view shows of the ones before it
abbrev pub AreParams : TailoringParts → (List ℕ → List ℕ) → List ℕ → Type 0
AreParams t view ids = AllStand (λ earlier id. param_fault t (view earlier) id) [] ids × AllFit t.widths.parameter_octets ids

-- an array that can stand after simple parameters and other arrays
pub record IsArray (t : TailoringParts) (once : Bool) (interval : Option ℕ) (simple : List ℕ) (earlier : List SuperList) (a : SuperList) : Type 0 where
  pub repetition : repetition_fault interval a.repetition ≡ None
  pub field : a.repetition < 256 ^ t.widths.repetition_octets
  pub count : IsCount t 1 (length a.params)
  pub params : AreParams t (array_view once simple earlier) a.params

-- arrays in order, after others
abbrev pub AreArrays : TailoringParts → Bool → Option ℕ → List ℕ → List SuperList → List SuperList → Type 0
AreArrays t once interval simple earlier [] = ⊤
AreArrays t once interval simple earlier (a ∷ others) = IsArray t once interval simple earlier a × AreArrays t once interval simple (a ∷ earlier) others

-- LISTS that can stand in a body
pub record AreLists (t : TailoringParts) (once : Bool) (interval : Option ℕ) (simple : List ℕ) (arrays : List SuperList) : Type 0 where
  pub simple_count : IsCount t 0 (length simple)
  pub params : AreParams t (in_view once) simple
  pub array_count : IsCount t (least_arrays simple) (length arrays)
  pub listed : AreArrays t once interval simple [] arrays

-- a request of the grammar
abbrev pub IsRequest03 : TailoringParts → Request03 → Type 0
IsRequest03 t (Create key d) = (key.id < 256 ^ t.widths.structure_octets) × IsInterval t d.interval × AreLists t false (Some d.interval) d.simple d.arrays
IsRequest03 t (Append key a) = (key.id < 256 ^ t.widths.structure_octets) × AreLists t false None a.simple a.arrays
IsRequest03 t (OnEach each kind ids) = IsCount t 1 (length ids) × AreStructures t ids
IsRequest03 t (Intervals kind pairs) =
    IsCount t 1 (length pairs) × AreStructures t (map (λ p. p.id) pairs) × AllByRecursion (λ p. IsInterval t p.interval) pairs

-- a report of the grammar
abbrev pub IsReport03 : TailoringParts → Report03 → Type 0
IsReport03 t (told.Structure key s) =
    (key.id < 256 ^ t.widths.structure_octets) × IsInterval t s.def.interval × AreLists t true (Some s.def.interval) s.def.simple s.def.arrays
IsReport03 t (told.Values key payload) = key.id < 256 ^ t.widths.structure_octets
IsReport03 t (told.Periodic kind rows) =
    IsCount t 1 (length rows) × AreStructures t (map (λ r. r.id) rows) × AllByRecursion (λ r. IsInterval t r.interval) rows

-- a request of the grammar under its subtype, in its spelling
abbrev pub IsSpelledRequest : TailoringParts → ℕ → Request03 → List ℕ → Type 0
IsSpelledRequest t subtype r octets = (subtype ≡ request_subtype r) × (octets ≡ request_octets t r) × IsRequest03 t r

-- a report of the grammar under its subtype, in its spelling
abbrev pub IsSpelledReport : TailoringParts → ℕ → Report03 → List ℕ → Type 0
IsSpelledReport t subtype r octets = (subtype ≡ report_subtype r) × (octets ≡ report_octets t r) × IsReport03 t r

-- a pair that its fields can hold
abbrev pub PairFits : TailoringParts → Pair → Type 0
PairFits t p = (p.id < 256 ^ t.widths.structure_octets) × (p.interval < 256 ^ t.widths.interval_octets)

-- a row that its fields can hold
abbrev pub RowFits : TailoringParts → PeriodicRow → Type 0
RowFits t r = (r.id < 256 ^ t.widths.structure_octets) × (r.interval < 256 ^ t.widths.interval_octets)

-- parameters that a counted list can hold
abbrev pub ParamsFit : TailoringParts → List ℕ → Type 0
ParamsFit t ids = (length ids ≤ 255) × (length ids < 256 ^ t.widths.count_octets) × AllFit t.widths.parameter_octets ids

-- an array that its fields can hold
abbrev pub ArrayFits : TailoringParts → SuperList → Type 0
ArrayFits t a = (a.repetition < 256 ^ t.widths.repetition_octets) × ParamsFit t a.params

-- LISTS that their fields can hold
pub record ListsFit (t : TailoringParts) (simple : List ℕ) (arrays : List SuperList) : Type 0 where
  pub params : ParamsFit t simple
  pub few_arrays : length arrays ≤ 255
  pub array_count : length arrays < 256 ^ t.widths.count_octets
  pub each_array : AllByRecursion (ArrayFits t) arrays

-- a request that its fields can hold
abbrev pub RequestFits : TailoringParts → Request03 → Type 0
RequestFits t (Create key d) = (key.id < 256 ^ t.widths.structure_octets) × (d.interval < 256 ^ t.widths.interval_octets) × ListsFit t d.simple d.arrays
RequestFits t (Append key a) = (key.id < 256 ^ t.widths.structure_octets) × ListsFit t a.simple a.arrays
RequestFits t (OnEach each kind ids) = (length ids ≤ 255) × (length ids < 256 ^ t.widths.count_octets) × AllFit t.widths.structure_octets ids
RequestFits t (Intervals kind pairs) = (length pairs ≤ 255) × (length pairs < 256 ^ t.widths.count_octets) × AllByRecursion (PairFits t) pairs

-- a report that its fields can hold
abbrev pub ReportFits : TailoringParts → Report03 → Type 0
ReportFits t (told.Structure key s) =
    (key.id < 256 ^ t.widths.structure_octets) × (s.def.interval < 256 ^ t.widths.interval_octets) × ListsFit t s.def.simple s.def.arrays
ReportFits t (told.Values key payload) = key.id < 256 ^ t.widths.structure_octets
ReportFits t (told.Periodic kind rows) = (length rows ≤ 255) × (length rows < 256 ^ t.widths.count_octets) × AllByRecursion (RowFits t) rows
