use Rattle.std.proofs.Common.{subst, sym, List, Option}
use Rattle.std.specs.Option.{option_copied}
use Rattle.hk_base.specs.declared.types.Structure.{Structure}
use Rattle.definition_intervals.specs.Founds.{IsFormedFound}
use Rattle.opening_sweeps.proofs.JoinLemmas.{formed-one}
use Rattle.live_verdicts.proofs.finds.found_from.Goals as goal

pub found_over-requires-clause-found : goal.found_over-requires-clause-found
found_over-requires-clause-found c =
    let t = c.args.tailoring.now in
    subst (λ (f : Option (List (Option Structure))). IsFormedFound t f) (sym c.in_ok-begun.ensures) (formed-one t (option_copied c.args.state) c.requires.state)
