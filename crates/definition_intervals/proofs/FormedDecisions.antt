-- A decided definition is valid, and explains the report.
use Rattle.std.proofs.Common.{◌≡◌, ℕ, refl, sym, subst, List, [], ◌∷◌, Bool, true, false, inl, Option, Some, None}
use Rattle.std.specs.Prelude.{not, filter, filter_map, find, option_map, IsTrue, if◌then◌else◌}
use Rattle.std.specs.List.{list_all, AllByRecursion}
use Rattle.std.proofs.lemmas.List.Elements.{recursion_from_All}
use Rattle.hk_base.specs.TailoringParts.{TailoringParts}
use Rattle.hk_base.specs.Fit.{IsFit, IsFitBoot}
use Rattle.hk_base.specs.Definitions.{IsWellFormed}
use Rattle.hk_base.specs.Parameters.{key_eq, boot_structure}
use Rattle.hk_base.specs.declared.types.Boot.{Boot}
use Rattle.hk_base.specs.declared.types.Key.{Key}
use Rattle.hk_base.specs.declared.types.Definition.{Definition}
use Rattle.hk_base.specs.declared.types.Structure.{Structure}
use Rattle.hk_base.proofs.Membership.{IsIn, some_value, IsIn-filter, IsIn-filter_map, AllByRecursion-IsIn}
use Rattle.report_structures.specs.Changes.{IsFormedState}
use Rattle.definition_intervals.specs.Openings.{Opening, openings}
use Rattle.definition_intervals.specs.States.{definition_eq, states_from, is_possible_from, is_crowded}
use Rattle.definition_intervals.specs.Verdicts.{named_request, common_states, explains, explanation, verdict_by, verdict_from, verdict_of}
use Rattle.definition_intervals.specs.Findings.{IsFormedOpening, IsFormedCandidate}
use Rattle.definition_intervals.specs.Soundness.{DecisionsAreFormed}
use Rattle.definition_intervals.specs.declared.answer.Verdict.TheVariants.{Decided, Undecidable, Crowded, NoOpening, Impossible}
use Rattle.definition_intervals.proofs.VerdictLemmas.{decided-same}
use Rattle.definition_intervals.proofs.GatherLemmas.{openings-formed}
use Rattle.definition_intervals.proofs.ReachLemmas.{reachable-formed}

-- the boot state of a fit tailoring is valid
boot-state : (t : TailoringParts) (key : Key) → IsFit t → IsFormedState t (boot_structure t key)
boot-state t key fit = go t.boots fit.boots
  where
    one : (b : Boot) (rest : List Boot) (c : Bool) → IsFitBoot t b → IsFormedState t (option_map (λ x. x.structure) (find (λ x. key_eq x.key key) rest))
        → IsFormedState t (option_map (λ x. x.structure) (if c then Some b else find (λ x. key_eq x.key key) rest))
    one b rest true fits later = fits.valid.formed
    one b rest false fits later = later

    go : (bs : List Boot) → AllByRecursion (IsFitBoot t) bs → IsFormedState t (option_map (λ b. b.structure) (find (λ b. key_eq b.key key) bs))
    go [] all = tt
    go (b ∷ bs) all = one b bs (key_eq b.key key) all.0 (go bs all.1)

-- a decided definition is among those that remain
decided_by : (ds : List Definition) (k : ℕ) (d : Definition) → verdict_by ds k ≡ Decided d → IsIn d ds
decided_by [] k d e = absurd (let no : Impossible ≡ Decided d → ⊥ = λ p. cc in no e)
decided_by (x ∷ ds) k d e = go (list_all (definition_eq x) ds) e
  where
    go : (b : Bool) → (if b then Decided x else Undecidable k) ≡ Decided d → IsIn d (x ∷ ds)
    go true p = inl (sym (decided-same x d p))
    go false p = absurd (let no : Undecidable k ≡ Decided d → ⊥ = λ q. cc in no p)

-- the state that a definition that explains a report is of
explained_state : (t : TailoringParts) (tag : ℕ) (payload : List ℕ) (s : Option Structure) (d : Definition) → IsFormedState t s → explanation t tag payload s ≡ Some d
    → IsWellFormed t d × IsTrue (explains t tag payload d)
explained_state t tag payload None d formed e = absurd (let no : None ≡ Some d → ⊥ = λ p. cc in no e)
explained_state t tag payload (Some s) d formed e = go (explains t tag payload s.def) refl e
  where
    go : (b : Bool) → explains t tag payload s.def ≡ b → (if b then Some s.def else None) ≡ Some d → IsWellFormed t d × IsTrue (explains t tag payload d)
    go true p q =
        let same = some_value s.def d q in
        (subst (IsWellFormed t) same formed, subst (λ x. explains t tag payload x ≡ true) same p)
    go false p q = absurd (let no : None ≡ Some d → ⊥ = λ x. cc in no q)

-- a decided definition is that of a state that an opening leads to
decided_from : (t : TailoringParts) (tag : ℕ) (payload : List ℕ) (os : List Opening) (k : ℕ) (d : Definition) → ((o : Opening) → IsIn o os → IsFormedOpening t o)
    → verdict_from t tag payload os k ≡ Decided d → IsWellFormed t d × IsTrue (explains t tag payload d)
decided_from t tag payload [] k d formed e = absurd (let no : Crowded k ≡ Decided d → ⊥ = λ p. cc in no e)
decided_from t tag payload (o ∷ os) k d formed e =
    let opening = formed o (inl refl) in
    let remains = IsIn-filter_map (explanation t tag payload) d (common_states t (o ∷ os)) (decided_by (filter_map (explanation t tag payload) (common_states t (o ∷ os))) k d e) in
    let state = IsIn-filter (λ s. list_all (is_possible_from t s) os) remains.0 (states_from t o) remains.1 in
    explained_state t tag payload remains.0 d
    (reachable-formed t o.requests o.state remains.0 (recursion_from_All (IsFormedCandidate t) o.requests opening.requests) opening.state state.0) remains.2

decided_of : (t : TailoringParts) (tag : ℕ) (payload : List ℕ) (os : List Opening) (d : Definition) → ((o : Opening) → IsIn o os → IsFormedOpening t o)
    → verdict_of t tag payload os ≡ Decided d → IsWellFormed t d × IsTrue (explains t tag payload d)
decided_of t tag payload [] d formed e = absurd (let no : NoOpening ≡ Decided d → ⊥ = λ p. cc in no e)
decided_of t tag payload (o ∷ os) d formed e =
    decided_from t tag payload (filter (λ x. not (is_crowded t x)) (o ∷ os)) (named_request (o ∷ os)) d
    (λ x i. formed x (IsIn-filter (λ y. not (is_crowded t y)) x (o ∷ os) i).0) e

pub decisions_formed : DecisionsAreFormed
decisions_formed g key tag payload d fit grounded e =
    let os = openings g.tailoring g.history key tag in
    let formed = recursion_from_All (IsFormedOpening g.tailoring) os (openings-formed g key tag grounded (boot-state g.tailoring key fit)) in
    decided_of g.tailoring tag payload os d (λ o i. AllByRecursion-IsIn (IsFormedOpening g.tailoring) o os formed i) e
