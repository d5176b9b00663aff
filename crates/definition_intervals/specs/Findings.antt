-- What functions find of the states that are possible, and what they want of openings.
use Rattle.std.specs.Prelude.{◌≡◌, ◌≤◌, List, [], ◌++◌, ◌∷◌, length, Bool, true, false, not, filter, nat_lt, Option, Some, None, if◌then◌else◌}
use Rattle.std.specs.List.{All, IsDistinct, list_any}
use Rattle.hk_base.specs.TailoringParts.{TailoringParts}
use Rattle.hk_base.specs.declared.types.Definition.{Definition}
use Rattle.hk_base.specs.declared.types.Structure.{Structure}
use Rattle.report_structures.specs.Changes.{IsGrammarChange, IsFormedState}
use Rattle.definition_intervals.specs.Openings.{Candidate, Opening, surely_creates}
use Rattle.definition_intervals.specs.States.{definition_eq, state_eq, states_from, is_crowded}
use Rattle.definition_intervals.specs.Verdicts.{common_states}

-- a change that requests of the grammar can ask for
abbrev pub IsFormedCandidate : TailoringParts → Candidate → Type 0
IsFormedCandidate t c = IsGrammarChange t c.change

-- an opening with a valid state, its payload size aside, and changes of the grammar
pub record IsFormedOpening (t : TailoringParts) (o : Opening) : Type 0 where
  pub state : IsFormedState t o.state
  pub requests : All (IsFormedCandidate t) o.requests

-- a list has each of some states once, and no others
pub record IsSetOf (states all : List (Option Structure)) : Type 0 where
  pub once : IsDistinct state_eq states
  pub members : (s : Option Structure) → list_any (state_eq s) states ≡ list_any (state_eq s) all

-- states were added to a list that has each once
abbrev pub Adds : List (Option Structure) → List (Option Structure) → List (Option Structure) → Type 0
Adds old new more = (all : List (Option Structure)) → IsSetOf old all → IsSetOf new (all ++ more)

-- the states that are possible from an opening, each once; none where it is crowded
abbrev pub AreFound : TailoringParts → Opening → Option (List (Option Structure)) → Type 0
AreFound t o None = is_crowded t o ≡ true
AreFound t o (Some states) = (is_crowded t o ≡ false) × IsSetOf states (states_from t o)

-- the openings that aren't crowded
abbrev pub uncrowded_openings : TailoringParts → List Opening → List Opening
uncrowded_openings t os = filter (λ x. not (is_crowded t x)) os

-- the states that are possible from each opening that isn't crowded, each once; none where there is no such opening
abbrev pub AreCommon : TailoringParts → List Opening → Option (List (Option Structure)) → Type 0
AreCommon t os None = uncrowded_openings t os ≡ []
AreCommon t os (Some states) = (1 ≤ length (uncrowded_openings t os)) × IsSetOf states (common_states t (uncrowded_openings t os))

-- the states of a list that are in another, too
abbrev pub shared_states : List (Option Structure) → List (Option Structure) → List (Option Structure)
shared_states states others = filter (λ s. list_any (state_eq s) others) states

-- the states that are possible so far, and what one more opening leaves of them; a crowded one says nothing
abbrev pub narrowed : Option (List (Option Structure)) → Option (List (Option Structure)) → Option (List (Option Structure))
narrowed common None = common
narrowed None (Some found) = Some found
narrowed (Some states) (Some found) = Some (shared_states states found)

-- the opening with the greatest tag, of the latest so far and one behind it
abbrev pub newer_of : Option Opening → Opening → Opening
newer_of None o = o
newer_of (Some latest) o = if nat_lt o.tag latest.tag then latest else o

-- a definition is the one that was found so far, if there is one
abbrev pub is_agreed : Option Definition → Definition → Bool
is_agreed None d = true
is_agreed (Some only) d = definition_eq only d

-- an opening with one more request: a sure creation makes it begin with that request, before which the structure was absent
abbrev pub with_request : Opening → Candidate → Opening
with_request o c =
    if surely_creates c
    then record { tag = o.tag; state = None; requests = c ∷ [] }
    else record { tag = o.tag; state = o.state; requests = o.requests ++ c ∷ [] }
