-- The spelling of requests and reports on parameter values, and which of them are of the grammar.
use Rattle.std.specs.Prelude.{ℕ, List, [], ◌++◌, length, map, Option, IsSome}
use Rattle.std.specs.List.{AllByRecursion}
use Rattle.hk_base.specs.Parameters.{parameter}
use Rattle.body_fields.specs.Reading.{param_fault}
use Rattle.body_fields.specs.declared.fault.BodyFault.{BodyFault}
use Rattle.hk_base.specs.TailoringParts.{TailoringParts}
use Rattle.body_fields.specs.Spelling.{AllStand, IsCount, IsValueOf, counted_octets, param_octets, value_octets}
use Rattle.st20_grammar.specs.Bodies.{settable_fault}
use Rattle.st20_grammar.specs.declared.bodies.Setting.{Setting}
use Rattle.st20_grammar.specs.declared.bodies.Request20.{Request20}
use Rattle.st20_grammar.specs.declared.bodies.Request20.TheVariants.{Report, Set}
use Rattle.st20_grammar.specs.declared.bodies.Report20.{Report20}

-- a parameter with a value
abbrev pub setting_octets : TailoringParts → Setting → List ℕ
setting_octets t x = param_octets t x.param ++ value_octets t x.param x.value

-- the subtype of a request
abbrev pub request_subtype : Request20 → ℕ
request_subtype (Report ids) = 1
request_subtype (Set settings) = 3

-- the body of a request
abbrev pub request_octets : TailoringParts → Request20 → List ℕ
request_octets t (Report ids) = counted_octets t (param_octets t) ids
request_octets t (Set settings) = counted_octets t (setting_octets t) settings

-- the subtype of a report
abbrev pub report_subtype : ℕ
report_subtype = 2

-- the body of a report
abbrev pub report_octets : TailoringParts → Report20 → List ℕ
report_octets t r = counted_octets t (setting_octets t) r.pairs

-- the IDs of parameters with values
abbrev pub ids_of : List Setting → List ℕ
ids_of settings = map (λ x. x.param) settings

-- parameters with values that can stand in a body, by the check of their IDs
pub record AreSettings (t : TailoringParts) (fault : List ℕ → ℕ → Option BodyFault) (settings : List Setting) : Type 0 where
  pub count : IsCount t 1 (length settings)
  pub ids : AllStand fault [] (ids_of settings)
  pub values : AllByRecursion (λ x. IsValueOf t x.param x.value) settings

-- parameter IDs that can stand in a body
pub record AreIds (t : TailoringParts) (ids : List ℕ) : Type 0 where
  pub count : IsCount t 1 (length ids)
  pub stand : AllStand (param_fault t) [] ids

-- a known parameter with a value that it can have
pub record IsSetting (t : TailoringParts) (x : Setting) : Type 0 where
  pub known : IsSome (parameter t x.param)
  pub value : IsValueOf t x.param x.value

-- which requests are of the grammar
abbrev pub IsRequest : TailoringParts → Request20 → Type 0
IsRequest t (Report ids) = AreIds t ids
IsRequest t (Set settings) = AreSettings t (settable_fault t) settings

-- which reports are of the grammar
abbrev pub IsReport : TailoringParts → Report20 → Type 0
IsReport t r = AreSettings t (param_fault t) r.pairs
