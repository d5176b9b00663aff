-- The bodies of requests and reports on parameter values.
use Rattle.std.specs.Prelude.{ℕ, List, [], ◌∷◌, map, Bool, true, false, not, if◌then◌else◌, Option, None, Result, Ok}
use Rattle.std.specs.Option.{option_or, option_map_or}
use Rattle.hk_base.specs.TailoringParts.{TailoringParts}
use Rattle.hk_base.specs.Parameters.{parameter, is_settable}
use Rattle.body_fields.specs.Reading.{Read, then_read, with_check, fault_if, uint, counted_list, param_fault, param_field, value_of_field, body_of}
use Rattle.body_fields.specs.declared.fault.BodyFault.{BodyFault}
use Rattle.body_fields.specs.declared.fault.BodyFault.TheVariants.{NotSettable}
use Rattle.st20_grammar.specs.declared.bodies.Setting.{Setting}
use Rattle.st20_grammar.specs.declared.bodies.Request20.{Request20}
use Rattle.st20_grammar.specs.declared.bodies.Request20.TheVariants.{Report, Set}
use Rattle.st20_grammar.specs.declared.bodies.Report20.{Report20}

-- the fault of a parameter that isn't settable
abbrev pub sensed_fault : TailoringParts → ℕ → Option BodyFault
sensed_fault t id = option_map_or (λ p. fault_if (not (is_settable p)) (NotSettable id)) (parameter t id) None

-- the fault of a parameter ID that is repeated, unknown or not settable
abbrev pub settable_fault : TailoringParts → List ℕ → ℕ → Option BodyFault
settable_fault t earlier id = option_or (param_fault t earlier id) (sensed_fault t id)

-- a parameter with a value, by the check of its ID
abbrev pub setting_field : TailoringParts → (List ℕ → ℕ → Option BodyFault) → List Setting → List ℕ → Read Setting
setting_field t fault earlier octets =
    then_read (with_check (fault (map (λ x. x.param) earlier)) (uint t.widths.parameter_octets octets)) (λ id rest.
    then_read (value_of_field t id rest) (λ value end. Ok (record { param = id; value = value }, end)))

-- the check of an ID that stands before a value: a request sets settable parameters alone
abbrev pub id_fault : TailoringParts → Bool → List ℕ → ℕ → Option BodyFault
id_fault t sets = if sets then settable_fault t else param_fault t

-- parameters with values
abbrev pub settings : TailoringParts → Bool → List ℕ → Read (List Setting)
settings t sets octets = counted_list t 1 (setting_field t (id_fault t sets)) octets

-- a request for the values of parameters
abbrev pub report_request : TailoringParts → List ℕ → Read Request20
report_request t octets = then_read (counted_list t 1 (param_field t) octets) (λ ids end. Ok (Report ids, end))

-- a request that sets parameters
abbrev pub set_request : TailoringParts → List ℕ → Read Request20
set_request t octets = then_read (settings t true octets) (λ pairs end. Ok (Set pairs, end))

-- a report of values
abbrev pub value_report : TailoringParts → List ℕ → Read Report20
value_report t octets = then_read (settings t false octets) (λ pairs end. Ok (record { pairs = pairs }, end))

-- the requests by their subtypes
abbrev pub request_table : TailoringParts → List (ℕ × (List ℕ → Read Request20))
request_table t = (1, report_request t) ∷ (3, set_request t) ∷ []

-- the request of a subtype
abbrev pub request_body : TailoringParts → ℕ → List ℕ → Option (Result Request20 BodyFault)
request_body t subtype octets = body_of (request_table t) subtype octets

-- the reports by their subtypes
abbrev pub report_table : TailoringParts → List (ℕ × (List ℕ → Read Report20))
report_table t = (2, value_report t) ∷ []

-- the report of a subtype
abbrev pub report_body : TailoringParts → ℕ → List ℕ → Option (Result Report20 BodyFault)
report_body t subtype octets = body_of (report_table t) subtype octets
