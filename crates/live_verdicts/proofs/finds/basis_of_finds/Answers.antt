use Rattle.std.proofs.Common.{subst, Option, IfSome, List}
use Rattle.std.specs.List.{All}
use Rattle.hk_base.specs.declared.types.Structure.{Structure}
use Rattle.report_structures.specs.Changes.{IsFormedState}
use Rattle.live_verdicts.proofs.finds.basis_of_finds.Goals as goal

pub returns-in-Some-clause-formed : goal.returns-in-Some-clause-formed
returns-in-Some-clause-formed c =
    λ t all.
    subst (λ (o : Option (List (Option Structure))). IfSome o (All (IsFormedState t))) c.in-Some.is (c.in_ok-states.ensures.formed t all)
