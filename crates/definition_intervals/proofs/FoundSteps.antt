-- What is found after a request, from the set of states after it.
use Rattle.std.proofs.Common.{◌≡◌, ◌<◌, ◌≤◌, sym, ◌∙◌, ap, subst, List, true, false, Option, Some, None, length, flat_map}
use Rattle.std.specs.Prelude.{nat_lt, if◌then◌else◌}
use Rattle.std.specs.List.{All, AllByRecursion}
use Rattle.std.proofs.lemmas.Bool.{lt-ltb, le-ltb}
use Rattle.std.proofs.lemmas.List.Elements.{All-from_recursion, recursion_from_All}
use Rattle.hk_base.specs.TailoringParts.{TailoringParts}
use Rattle.hk_base.specs.declared.types.Structure.{Structure}
use Rattle.hk_base.proofs.Membership.{IsIn-flat_map, IsIn-AllByRecursion, AllByRecursion-IsIn}
use Rattle.report_structures.specs.Changes.{IsFormedState}
use Rattle.definition_intervals.specs.Openings.{Candidate}
use Rattle.definition_intervals.specs.States.{next_states, distinct_states}
use Rattle.definition_intervals.specs.Findings.{IsFormedCandidate, IsSetOf}
use Rattle.definition_intervals.specs.Founds.{found_by, AreSameFound, IsFormedFound}
use Rattle.definition_intervals.proofs.SetLemmas.{same-all, distinct-members, set-count}
use Rattle.definition_intervals.proofs.ReachLemmas.{next-formed}

-- too many states
pub found-many : (t : TailoringParts) (c : Candidate) (ss after : List (Option Structure)) → IsSetOf after (flat_map (next_states t c) ss) → 64 < length after → AreSameFound None (found_by t c (Some ss))
found-many t c ss after h l =
    let next = flat_map (next_states t c) ss in
    let many : nat_lt 64 (length (distinct_states next)) ≡ true = ap (λ n. nat_lt 64 n) (sym (set-count after next h)) ∙ lt-ltb 64 (length after) l in
    subst (λ b. AreSameFound None (if b then None else Some (distinct_states next))) (sym many) tt

-- not too many
pub found-few : (t : TailoringParts) (c : Candidate) (ss after : List (Option Structure)) → IsSetOf after (flat_map (next_states t c) ss) → length after ≤ 64
    → AreSameFound (Some after) (found_by t c (Some ss))
found-few t c ss after h l =
    let next = flat_map (next_states t c) ss in
    let few : nat_lt 64 (length (distinct_states next)) ≡ false = ap (λ n. nat_lt 64 n) (sym (set-count after next h)) ∙ le-ltb 64 (length after) l in
    subst (λ b. AreSameFound (Some after) (if b then None else Some (distinct_states next))) (sym few) (λ q. h.members q ∙ sym (distinct-members next q))

-- they are valid
pub found-formed : (t : TailoringParts) (c : Candidate) (ss after : List (Option Structure)) → IsFormedCandidate t c → All (IsFormedState t) ss
    → IsSetOf after (flat_map (next_states t c) ss) → IsFormedFound t (Some after)
found-formed t c ss after grammar formed h = (All-from_recursion (IsFormedState t) after (same-all (IsFormedState t) after (flat_map (next_states t c) ss) h.members all), h.once)
  where
    all : AllByRecursion (IsFormedState t) (flat_map (next_states t c) ss)
    all =
        IsIn-AllByRecursion (IsFormedState t) (flat_map (next_states t c) ss)
        (λ a i. let r = IsIn-flat_map (next_states t c) a ss i in
        next-formed t c r.0 a grammar (AllByRecursion-IsIn (IsFormedState t) r.0 ss (recursion_from_All (IsFormedState t) ss formed) r.1) r.2)
