-- What is found of the states that are possible from an opening, one request after the other.
use Rattle.std.specs.Prelude.{◌≡◌, ◌≤◌, ℕ, ⊤, List, [], ◌∷◌, length, flat_map, Bool, true, false, nat_lt, Option, Some, None, option_and_then, if◌then◌else◌}
use Rattle.std.specs.List.{All, IsDistinct, list_any, list_all}
use Rattle.std.specs.Option.{option_or}
use Rattle.hk_base.specs.TailoringParts.{TailoringParts}
use Rattle.hk_base.specs.declared.types.Key.{Key}
use Rattle.hk_base.specs.declared.types.Structure.{Structure}
use Rattle.st03_grammar.specs.Instructions.{StructureChange}
use Rattle.pus_messages.specs.Changes.{change_by}
use Rattle.pus_messages.specs.Spelling.{IsRequest, IsReport}
use Rattle.pus_messages.specs.declared.message.Request.{Request}
use Rattle.pus_messages.specs.declared.message.Report.{Report}
use Rattle.report_structures.specs.Changes.{IsGrammarChange, IsFormedState}
use Rattle.ground_history.specs.Histories.{History}
use Rattle.definition_intervals.specs.Openings.{Candidate, Opening, candidates, opening, surely_creates, reported_structure, is_open, first_open}
use Rattle.definition_intervals.specs.States.{state_eq, next_states, distinct_states, states_from, is_crowded}
use Rattle.definition_intervals.specs.Verdicts.{named_request}
use Rattle.definition_intervals.specs.Bases.{IsBasis}
use Rattle.definition_intervals.specs.declared.answer.Basis.{Basis}
use Rattle.definition_intervals.specs.declared.answer.Basis.TheVariants.{NoOpening, Crowded, Open}

-- possible states, or none where there are more than 64
abbrev pub unless_many : List (Option Structure) → Option (List (Option Structure))
unless_many states = if nat_lt 64 (length states) then None else Some states

-- the states before a request: a sure creation begins with absence, whatever was found
abbrev pub found_before : Candidate → Option (List (Option Structure)) → Option (List (Option Structure))
found_before c found = if surely_creates c then Some (None ∷ []) else found

-- what is found after a change of what was found before it
abbrev pub found_by : TailoringParts → Candidate → Option (List (Option Structure)) → Option (List (Option Structure))
found_by t c found = option_and_then (λ states. unless_many (distinct_states (flat_map (next_states t c) states))) found

-- what is found after one more request
abbrev pub found_after : TailoringParts → Candidate → Option (List (Option Structure)) → Option (List (Option Structure))
found_after t c found = found_by t c (found_before c found)

-- what is found after some more requests
abbrev pub found_after_all : TailoringParts → List Candidate → Option (List (Option Structure)) → Option (List (Option Structure))
found_after_all t [] found = found
found_after_all t (c ∷ cs) found = found_after_all t cs (found_after t c found)

-- two that are found are the same: both crowded, or with the same states
abbrev pub AreSameFound : Option (List (Option Structure)) → Option (List (Option Structure)) → Type 0
AreSameFound None None = ⊤
AreSameFound (Some a) (Some b) = (s : Option Structure) → list_any (state_eq s) a ≡ list_any (state_eq s) b
AreSameFound _ _ = ⊥

-- what is found is valid, sizes of payloads aside, and has each state once
abbrev pub IsFormedFound : TailoringParts → Option (List (Option Structure)) → Type 0
IsFormedFound t None = ⊤
IsFormedFound t (Some states) = All (IsFormedState t) states × IsDistinct state_eq states

-- what is found tells which states are possible from an opening, or that it is crowded
abbrev pub IsFoundOf : TailoringParts → Opening → Option (List (Option Structure)) → Type 0
IsFoundOf t o None = is_crowded t o ≡ true
IsFoundOf t o (Some states) = (is_crowded t o ≡ false) × ((s : Option Structure) → list_any (state_eq s) states ≡ list_any (state_eq s) (states_from t o))

-- the first open change after one more request: nothing before a sure creation counts
abbrev pub first_after : Candidate → Option ℕ → Option ℕ
first_after c first =
    let own = if is_open c then Some c.number else None in
    if surely_creates c then own else option_or first own

-- the first open change after some more requests
abbrev pub first_after_all : List Candidate → Option ℕ → Option ℕ
first_after_all [] first = first
first_after_all (c ∷ cs) first = first_after_all cs (first_after c first)

-- What is possible from an opening, and its first open change, are found request by request.
abbrev pub OpeningsAreFound : Type 0
OpeningsAreFound =
    (t : TailoringParts) (h : History) (key : Key) (tag from : ℕ) (state : Option Structure)
    → IsFoundOf t (opening h key tag from state) (found_after_all t (candidates h key from tag) (Some (state ∷ [])))
    × (first_open (opening h key tag from state) ≡ first_after_all (candidates h key from tag) None)

-- The same is found after a request of what was the same before it.
abbrev pub SameIsFound : Type 0
SameIsFound =
    (t : TailoringParts) (c : Candidate) (a b : Option (List (Option Structure)))
    → AreSameFound a b → AreSameFound (found_after t c a) (found_after t c b)

-- whether a state is among those that were found; what is crowded leaves out none
abbrev pub is_left : Option Structure → Option (List (Option Structure)) → Bool
is_left s None = true
is_left s (Some states) = list_any (state_eq s) states

-- whether something is crowded
abbrev pub is_crowd : Option (List (Option Structure)) → Bool
is_crowd None = true
is_crowd (Some states) = false

-- each of some that were found tells of the opening beside it
abbrev pub AreFoundOf : TailoringParts → List Opening → List (Option (List (Option Structure))) → Type 0
AreFoundOf t [] [] = ⊤
AreFoundOf t (o ∷ os) (found ∷ founds) = IsFoundOf t o found × AreFoundOf t os founds
AreFoundOf t _ _ = ⊥

-- what is left of the states that some finds have in common: none where all are crowded
abbrev pub IsCommon : List (Option (List (Option Structure))) → Option (List (Option Structure)) → Type 0
IsCommon founds None = list_all is_crowd founds ≡ true
IsCommon founds (Some states) =
    (list_all is_crowd founds ≡ false) × IsDistinct state_eq states × ((s : Option Structure) → list_any (state_eq s) states ≡ list_all (is_left s) founds)

-- what some that were found leave, with the request to name
abbrev pub IsBasisOf : List (Option (List (Option Structure))) → ℕ → Basis → Type 0
IsBasisOf founds named NoOpening = founds ≡ []
IsBasisOf founds named (Crowded k) = (1 ≤ length founds) × (list_all is_crowd founds ≡ true) × (named ≡ k)
IsBasisOf founds named (Open states k) =
    (list_all is_crowd founds ≡ false) × IsDistinct state_eq states × ((s : Option Structure) → list_any (state_eq s) states ≡ list_all (is_left s) founds) × (named ≡ k)

-- What the finds of openings leave is the basis of verdicts.
abbrev pub FindsGiveBases : Type 0
FindsGiveBases =
    (t : TailoringParts) (os : List Opening) (founds : List (Option (List (Option Structure)))) (basis : Basis)
    → AreFoundOf t os founds → IsBasisOf founds (named_request os) basis → IsBasis t os basis

-- The change that a request of the grammar makes of a structure is one of the grammar.
abbrev pub ChangesAreFormed : Type 0
ChangesAreFormed =
    (t : TailoringParts) (key : Key) (r : Request) (number : ℕ) (change : StructureChange)
    → IsRequest t r → change_by key r ≡ Some (number, change) → IsGrammarChange t change

-- The state that a report of the grammar tells is valid, the size of its payload aside.
abbrev pub ReportedStatesAreFormed : Type 0
ReportedStatesAreFormed = (t : TailoringParts) (key : Key) (r : Report) → IsReport t r → IsFormedState t (reported_structure key r.body)
