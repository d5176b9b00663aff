-- What the openings of a structure leave for a verdict, whatever the payload of the report is.
use Rattle.std.specs.Prelude.{◌≡◌, ℕ, ◌≤◌, ⊤, List, [], ◌∷◌, ◌++◌, length, map, filter_map, slice_get, Bool, true, false, ◌&&◌, ◌==◌, Some, unwrap_or}
use Rattle.std.specs.List.{All}
use lib.Pointwise.{pointwise}
use Rattle.hk_base.specs.declared.types.Key.{Key}
use Rattle.ground_history.specs.Histories.{History}
use Rattle.hk_base.specs.TailoringParts.{TailoringParts}
use Rattle.report_structures.specs.Changes.{IsFormedState}
use Rattle.definition_intervals.specs.Openings.{Opening, openings}
use Rattle.definition_intervals.specs.States.{state_eq}
use Rattle.definition_intervals.specs.Verdicts.{named_request, explanation, verdict_by, verdict_of}
use Rattle.definition_intervals.specs.Findings.{AreCommon, uncrowded_openings}
use Rattle.definition_intervals.specs.declared.answer.Basis.{Basis}
use Rattle.definition_intervals.specs.declared.answer.Basis.TheVariants.{NoOpening, Crowded, Open}
use Rattle.definition_intervals.specs.declared.answer.Verdict.{Verdict}
use Rattle.definition_intervals.specs.declared.answer.Verdict.TheVariants as v

-- what some openings leave: that there is none, that all are crowded, or the states that are possible from each that isn't; and the request to name
abbrev pub IsBasis : TailoringParts → List Opening → Basis → Type 0
IsBasis t os NoOpening = os ≡ []
IsBasis t os (Crowded k) = (1 ≤ length os) × (uncrowded_openings t os ≡ []) × (named_request os ≡ k)
IsBasis t os (Open states k) = AreCommon t os (Some states) × (named_request os ≡ k)

-- a basis with valid states, sizes of payloads aside
abbrev pub IsFormedBasis : TailoringParts → Basis → Type 0
IsFormedBasis t (Open states k) = All (IsFormedState t) states
IsFormedBasis t _ = ⊤

-- the verdict on a report with a tag and a payload, from what the openings of its structure leave
abbrev pub verdict_on : TailoringParts → ℕ → List ℕ → Basis → Verdict
verdict_on t tag payload NoOpening = v.NoOpening
verdict_on t tag payload (Crowded k) = v.Crowded k
verdict_on t tag payload (Open states k) = verdict_by (filter_map (explanation t tag payload) states) k

-- What openings leave gives the verdict from them.
abbrev pub BasesDecide : Type 0
BasesDecide =
    (t : TailoringParts) (os : List Opening) (basis : Basis) (tag : ℕ) (payload : List ℕ)
    → IsBasis t os basis → verdict_on t tag payload basis ≡ verdict_of t tag payload os

-- each of some bases is that of the openings of a structure at its tag, one for each tag
abbrev pub AreBases : TailoringParts → History → Key → List ℕ → List Basis → Type 0
AreBases t h key [] [] = ⊤
AreBases t h key (tag ∷ tags) (basis ∷ bases) = IsBasis t (openings t h key tag) basis × AreBases t h key tags bases
AreBases t h key _ _ = ⊥

-- whether two bases are the same, with their states in the same order
abbrev pub basis_eq : Basis → Basis → Bool
basis_eq NoOpening NoOpening = true
basis_eq (Crowded k) (Crowded j) = k == j
basis_eq (Open states k) (Open others j) = k == j && pointwise state_eq states others
basis_eq _ _ = false

-- the bases at some places of a list
abbrev pub at_places : List Basis → List ℕ → List Basis
at_places held places = map (λ place. unwrap_or (slice_get held place) NoOpening) places

-- the bases that were held are still in front
abbrev pub KeepsHeld : List Basis → List Basis → Type 0
KeepsHeld old new = (more : List Basis) × (new ≡ old ++ more)
