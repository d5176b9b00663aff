-- The states of a structure that choices among requests can lead to.
use Rattle.std.specs.Prelude.{List, [], ◌∷◌, ◌++◌, length, map, flat_map, Bool, true, false, not, ◌&&◌, ◌==◌, nat_lt, Option, Result, Ok, Err, bytes_eq, if◌then◌else◌}
use Rattle.std.specs.List.{list_any}
use Rattle.std.specs.Option.{option_eq}
use lib.Pointwise.{pointwise}
use Rattle.hk_base.specs.TailoringParts.{TailoringParts}
use Rattle.hk_base.specs.declared.types.SuperList.{SuperList}
use Rattle.hk_base.specs.declared.types.Definition.{Definition}
use Rattle.hk_base.specs.declared.types.Structure.{Structure}
use Rattle.report_structures.specs.Effects.{effect}
use Rattle.report_structures.specs.declared.refusal.Refusal.{Refusal}
use Rattle.ground_history.specs.declared.answer.Outcome.{Outcome}
use Rattle.ground_history.specs.declared.answer.Outcome.TheVariants.{Done, Refused, Unknown}
use Rattle.definition_intervals.specs.Openings.{Candidate, Opening}

-- whether two flags are the same
abbrev pub bool_eq : Bool → Bool → Bool
bool_eq true b = b
bool_eq false b = not b

-- whether two arrays are the same
abbrev pub array_eq : SuperList → SuperList → Bool
array_eq a b = a.repetition == b.repetition && bytes_eq a.params b.params

-- whether two definitions are the same
abbrev pub definition_eq : Definition → Definition → Bool
definition_eq a b = a.interval == b.interval && bytes_eq a.simple b.simple && pointwise array_eq a.arrays b.arrays

-- whether two structures are the same
abbrev pub structure_eq : Structure → Structure → Bool
structure_eq a b = definition_eq a.def b.def && bool_eq a.enabled b.enabled

-- whether two states are the same: both absent, or the same structure
abbrev pub state_eq : Option Structure → Option Structure → Bool
state_eq a b = option_eq structure_eq a b

-- the states after a change by what is known of its outcome: none where the effect is otherwise than reported
abbrev pub agreed_states : Outcome → Option Structure → Result (Option Structure) Refusal → List (Option Structure)
agreed_states Done before (Ok after) = after ∷ []
agreed_states Done before (Err refusal) = []
agreed_states Refused before (Ok after) = []
agreed_states Refused before (Err refusal) = before ∷ []
agreed_states Unknown before (Ok after) = after ∷ []
agreed_states Unknown before (Err refusal) = before ∷ []

-- the states after a request: it is left out, unless it is certain, or taken
abbrev pub next_states : TailoringParts → Candidate → Option Structure → List (Option Structure)
next_states t c state = (if c.certain then [] else state ∷ []) ++ agreed_states c.outcome state (effect t c.change state)

-- the states that all choices among some requests lead to
abbrev pub reachable_states : TailoringParts → List Candidate → Option Structure → List (Option Structure)
reachable_states t [] state = state ∷ []
reachable_states t (c ∷ cs) state = flat_map (reachable_states t cs) (next_states t c state)

-- the states that are possible from an opening
abbrev pub states_from : TailoringParts → Opening → List (Option Structure)
states_from t o = reachable_states t o.requests o.state

-- whether a state is possible from an opening
abbrev pub is_possible_from : TailoringParts → Option Structure → Opening → Bool
is_possible_from t state o = list_any (state_eq state) (states_from t o)

-- states with one more, where it isn't there yet
abbrev pub with_state : Option Structure → List (Option Structure) → List (Option Structure)
with_state s states = if list_any (state_eq s) states then states else s ∷ states

-- states, each once
abbrev pub distinct_states : List (Option Structure) → List (Option Structure)
distinct_states [] = []
distinct_states (s ∷ ss) = with_state s (distinct_states ss)

-- the beginnings of a list
abbrev pub prefixes : {X : Type 0} → List X → List (List X)
prefixes [] = [] ∷ []
prefixes (x ∷ xs) = [] ∷ map (λ ys. x ∷ ys) (prefixes xs)

-- after some request there are more than 64 possible states
abbrev pub is_crowded : TailoringParts → Opening → Bool
is_crowded t o = list_any (λ cs. nat_lt 64 (length (distinct_states (reachable_states t cs o.state)))) (prefixes o.requests)
