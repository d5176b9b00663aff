-- Reading the fields of a body from left to right, up to the first that can't stand.
use Rattle.std.specs.Prelude.{ℕ, zero, suc, ◌+◌, List, [], ◌∷◌, length, take, drop, ℤ, pos, Bool, not, ◌==◌, nat_lt, Option, Some, None, is_some, option_map, Result, Ok, Err, find, if◌then◌else◌}
use Rattle.std.specs.List.{list_any}
use Rattle.std.specs.Option.{option_or, option_map_or}
use Rattle.hk_base.specs.TailoringParts.{TailoringParts}
use Rattle.hk_base.specs.Fields.{number_of, signed_number_of}
use Rattle.hk_base.specs.Parameters.{parameter, fits}
use Rattle.hk_base.specs.declared.types.Form.{Form}
use Rattle.hk_base.specs.declared.types.Form.TheVariants.{Signed}
use Rattle.hk_base.specs.declared.types.Param.{Param}
use Rattle.body_fields.specs.declared.fault.BodyFault.{BodyFault}
use Rattle.body_fields.specs.declared.fault.BodyFault.TheVariants.{Short, Trailing, ZeroCount, RepeatedKey, UnknownParam, ZeroInterval, TooMany, LongInterval, WrongValue, Status}

-- a value and the octets after it, or the first fault
abbrev pub Read : Type 0 → Type 0
Read A = Result (A × List ℕ) BodyFault

-- what a field is followed by
abbrev pub then_read : {A B : Type 0} → Read A → (A → List ℕ → Read B) → Read B
then_read (Ok x) next = next x.0 x.1
then_read (Err fault) next = Err fault

-- a value of which a check finds no fault
abbrev pub with_check : {A : Type 0} → (A → Option BodyFault) → Read A → Read A
with_check {A} fault (Ok x) = stands (fault x.0)
  where
    stands : Option BodyFault → Read A
    stands None = Ok x
    stands (Some f) = Err f
with_check fault (Err f) = Err f

-- a fault where a test passes
abbrev pub fault_if : Bool → BodyFault → Option BodyFault
fault_if b fault = if b then Some fault else None

-- a whole body: no octet is left
abbrev pub whole_body : {A : Type 0} → Read A → Result A BodyFault
whole_body (Err fault) = Err fault
whole_body {A} (Ok x) = ends x.1
  where
    ends : List ℕ → Result A BodyFault
    ends [] = Ok x.0
    ends (octet ∷ octets) = Err (Trailing (suc (length octets)))

-- so many octets, as a number
abbrev pub octets_field : ℕ → List ℕ → Read (List ℕ)
octets_field count octets = if nat_lt (length octets) count then Err Short else Ok (take count octets, drop count octets)

-- an unsigned number in so many octets
abbrev pub uint : ℕ → List ℕ → Read ℕ
uint count octets = then_read (octets_field count octets) (λ field rest. Ok (number_of field, rest))

-- a list of so many members, each read with those before it in view, the newest first
abbrev pub list_of : {A : Type 0} → (List A → List ℕ → Read A) → ℕ → List A → List ℕ → Read (List A)
list_of member zero earlier octets = Ok ([], octets)
list_of member (suc n) earlier octets =
    then_read (member earlier octets) (λ x rest. then_read (list_of member n (x ∷ earlier) rest) (λ xs rest. Ok (x ∷ xs, rest)))

-- a count that is at least so many, and then so many members
abbrev pub count_fault : ℕ → ℕ → Option BodyFault
count_fault least n = option_or (fault_if (nat_lt n least) ZeroCount) (fault_if (nat_lt 255 n) (TooMany n))

-- a count that is at least so much
abbrev pub count_field : TailoringParts → ℕ → List ℕ → Read ℕ
count_field t least octets = with_check (count_fault least) (uint t.widths.count_octets octets)

-- a count, and then so many members
abbrev pub counted_list : {A : Type 0} → TailoringParts → ℕ → (List A → List ℕ → Read A) → List ℕ → Read (List A)
counted_list t least member octets = then_read (count_field t least octets) (λ n rest. list_of member n [] rest)

-- an ID that isn't among these
abbrev pub repeat_fault : List ℕ → ℕ → Option BodyFault
repeat_fault earlier id = fault_if (list_any (λ e. e == id) earlier) (RepeatedKey id)

-- a parameter ID that is known and isn't among these
abbrev pub param_fault : TailoringParts → List ℕ → ℕ → Option BodyFault
param_fault t earlier id = option_or (repeat_fault earlier id) (fault_if (not (is_some (parameter t id))) (UnknownParam id))

-- the ID of a parameter that isn't among these
abbrev pub param_field : TailoringParts → List ℕ → List ℕ → Read ℕ
param_field t earlier octets = with_check (param_fault t earlier) (uint t.widths.parameter_octets octets)

-- an interval
abbrev pub interval_fault : TailoringParts → ℕ → Option BodyFault
interval_fault t n = option_or (fault_if (n == 0) ZeroInterval) (fault_if (nat_lt t.widths.max_interval n) (LongInterval n))

-- an interval in its octets
abbrev pub interval_field : TailoringParts → List ℕ → Read ℕ
interval_field t octets = with_check (interval_fault t) (uint t.widths.interval_octets octets)

-- an octet that is 0 or 1
abbrev pub flag_field : List ℕ → Read Bool
flag_field octets =
    then_read (with_check (λ b. fault_if (nat_lt 1 b) (Status b)) (uint 1 octets)) (λ b rest. Ok (b == 1, rest))

-- a time, as a tag
abbrev pub time_field : TailoringParts → List ℕ → Read ℕ
time_field t octets = uint (t.widths.coarse + t.widths.fine) octets

-- a number in so many octets, signed where the form is
abbrev pub form_number : Form → List ℕ → ℤ
form_number Signed octets = signed_number_of octets
form_number _ octets = pos (number_of octets)

-- a value of a parameter in its octets
abbrev pub value_field : Param → List ℕ → Read ℤ
value_field p octets =
    with_check (λ v. fault_if (not (fits p v)) (WrongValue p.id)) (then_read (octets_field p.octets octets) (λ field rest. Ok (form_number p.form field, rest)))

-- the value after a parameter's ID
abbrev pub value_of_field : TailoringParts → ℕ → List ℕ → Read ℤ
value_of_field t id octets = option_map_or (λ p. value_field p octets) (parameter t id) (Err (UnknownParam id))

-- the reader of a subtype in a table
abbrev pub reader : {A : Type 0} → List (ℕ × (List ℕ → Read A)) → ℕ → Option (List ℕ → Read A)
reader table subtype = option_map (λ row. row.1) (find (λ row. row.0 == subtype) table)

-- the body of a subtype, or its fault; none where the subtype isn't in the table
abbrev pub body_of : {A : Type 0} → List (ℕ × (List ℕ → Read A)) → ℕ → List ℕ → Option (Result A BodyFault)
body_of table subtype octets = option_map (λ read. whole_body (read octets)) (reader table subtype)
