-- A shelf, a sink and a sensor in memory, as contracts see them.
use Rattle.std.specs.Prelude.{◌≡◌, ◌+◌, ◌-◌, ◌≤◌, ℕ, ℤ, min, Bool, ◌&&◌, ◌||◌, ◌==◌, List, ◌++◌, length, take, drop, Option, None, Some, Result, All, IsSome, find, option_map, slice_get, nat_le, if◌then◌else◌}
use Rattle.std.specs.List.{list_any, list_all}
use Rattle.std.specs.Result.{result_ok}
use Rattle.hk_base.specs.Outside.{most_faults, file_of}
use Rattle.hk_base.specs.Parameters.{fits}
use Rattle.hk_base.specs.declared.outside.Failed.{Failed}
use Rattle.hk_base.specs.declared.types.Param.{Param}

-- whether a number is listed
abbrev pub is_listed : List ℕ → ℕ → Bool
is_listed failing number = list_any (λ listed. listed == number) failing

-- after so many calls, the number of the next one is listed
abbrev pub is_next_listed : List ℕ → ℕ → Bool
is_next_listed failing calls = is_listed failing (calls + 1)

-- no number listed is above the number of calls so far
abbrev pub NoneAhead : List ℕ → ℕ → Type 0
NoneAhead failing calls = All (λ number. number ≤ calls) failing

-- one more, up to where a count ends
abbrev pub one_more : ℕ → ℕ
one_more count = min (count + 1) most_faults

-- a shelf in memory: its files, the calls that fail, the most octets of a read, its counts, and what is left of the file that was selected
pub record ShelfState : Type 0 where
  pub files : List (List ℕ × List ℕ)
  pub failing : List ℕ
  pub most : ℕ
  pub calls : ℕ
  pub faults : ℕ
  pub rest : Option (List ℕ)

-- the octets of the file at a place
abbrev pub file_at : List (List ℕ × List ℕ) → Option ℕ → Option (List ℕ)
file_at files None = None
file_at files (Some at) = option_map (λ file. file.1) (slice_get files at)

-- what a select of that name finds: nothing where the call is listed
abbrev pub selected : ShelfState → List ℕ → Option (List ℕ)
selected shelf name = if is_next_listed shelf.failing shelf.calls then None else file_of shelf.files name

-- what a read finds: nothing where the call is listed
abbrev pub readable : ShelfState → Option (List ℕ)
readable shelf = if is_next_listed shelf.failing shelf.calls then None else shelf.rest

-- how many octets a read into a buffer of that size gives
abbrev pub read_count : ShelfState → ℕ → List ℕ → ℕ
read_count shelf size rest = min shelf.most (min (length rest) size)

-- what a read into a buffer of that size leaves
abbrev pub left_by_read : ShelfState → ℕ → List ℕ → List ℕ
left_by_read shelf size rest = drop (read_count shelf size rest) rest

-- the shelf after a call that left so much, or failed
abbrev pub shelf_after : ShelfState → Option (List ℕ) → ShelfState
shelf_after shelf None = record shelf { calls = one_more shelf.calls; faults = one_more shelf.faults }
shelf_after shelf (Some rest) = record shelf { calls = one_more shelf.calls; rest = Some rest }

-- a sink in memory: what it took, the calls that fail, the most octets of a write, the room that is left, and its counts
pub record SinkState : Type 0 where
  pub taken : List ℕ
  pub failing : List ℕ
  pub most : ℕ
  pub room : ℕ
  pub calls : ℕ
  pub faults : ℕ

-- The room is told where no later call is listed.
abbrev pub sink_room : SinkState → Option ℕ
sink_room sink = if list_all (λ number. nat_le number sink.calls) sink.failing then Some sink.room else None

-- how many octets of a piece a write takes: none where the call is listed or there is no room
abbrev pub write_count : SinkState → List ℕ → Option ℕ
write_count sink piece =
    if is_next_listed sink.failing sink.calls || sink.room == 0 then None else Some (min sink.most (min sink.room (length piece)))

-- the sink after a write that took so many octets of a piece, or failed
abbrev pub sink_after : SinkState → List ℕ → Option ℕ → SinkState
sink_after sink piece None = record sink { calls = one_more sink.calls; faults = one_more sink.faults }
sink_after sink piece (Some count) =
    record sink { taken = sink.taken ++ take count piece; room = sink.room - count; calls = one_more sink.calls }

-- a sensor in memory: rows of a parameter's ID, a slot and a value, the calls that fail, and its counts
pub record TableState : Type 0 where
  pub rows : List (ℕ × ℕ × ℤ)
  pub failing : List ℕ
  pub calls : ℕ
  pub faults : ℕ

-- whether a row is of the parameter and the slot, with a value that fits
abbrev pub is_fitting : Param → ℕ → ℕ × ℕ × ℤ → Bool
is_fitting param slot row = row.0 == param.id && (row.1 == slot && fits param row.2)

-- the value of the first such row
abbrev pub first_fitting : List (ℕ × ℕ × ℤ) → Param → ℕ → Option ℤ
first_fitting rows param slot = option_map (λ row. row.2) (find (is_fitting param slot) rows)

-- what a read answers: nothing where the call is listed
abbrev pub sensed : TableState → Param → ℕ → Option ℤ
sensed table param slot = if is_next_listed table.failing table.calls then None else first_fitting table.rows param slot

-- the sensor after a read that answered, or failed
abbrev pub table_after : TableState → Option ℤ → TableState
table_after table None = record table { calls = one_more table.calls; faults = one_more table.faults }
table_after table (Some value) = record table { calls = one_more table.calls }

-- the first fitting row has this value
abbrev pub IsGiven : TableState → Param → ℕ → ℤ → Type 0
IsGiven table param slot value = first_fitting table.rows param slot ≡ Some value

-- what a read answers, and the sensor after it
abbrev pub Senses : TableState → Param → ℕ → Result ℤ Failed → TableState → Type 0
Senses before param slot answer after =
    (result_ok answer ≡ sensed before param slot) × (after ≡ table_after before (sensed before param slot))

-- there is a fitting row, and no later call is listed
abbrev pub IsSure : TableState → Param → ℕ → Type 0
IsSure table param slot = IsSome (first_fitting table.rows param slot) × NoneAhead table.failing table.calls
