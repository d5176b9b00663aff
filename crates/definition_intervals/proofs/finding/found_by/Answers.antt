use Rattle.std.proofs.Common.{arith, List, Some, sym, subst}
use Rattle.hk_base.specs.declared.types.Structure.{Structure}
use Rattle.std.specs.Prelude.{Option}
use Rattle.definition_intervals.specs.Founds.{found_by, AreSameFound, IsFormedFound}
use Rattle.definition_intervals.proofs.FoundSteps.{found-many, found-few, found-formed}
use Rattle.definition_intervals.proofs.finding.found_by.Goals as goal

pub returns-then-len-gt-MOST_STATES-clause-same : goal.returns-then-len-gt-MOST_STATES-clause-same
returns-then-len-gt-MOST_STATES-clause-same c =
    found-many c.args.tailoring.now c.args.request.now c.args.states.now c.in_ok-after.after.items c.in_ok-after.ensures (omega arith)

pub returns-clause-same : goal.returns-clause-same
returns-clause-same c =
    let t = c.args.tailoring.now in
    let r = c.args.request.now in
    let ss = c.args.states.now in
    subst (λ (xs : List (Option Structure)). AreSameFound (Some xs) (found_by t r (Some ss))) (sym c.from_vec.ensures)
    (found-few t r ss c.in_ok-after.after.items c.in_ok-after.ensures (omega arith))

pub returns-clause-formed : goal.returns-clause-formed
returns-clause-formed c =
    let t = c.args.tailoring.now in
    let r = c.args.request.now in
    let ss = c.args.states.now in
    subst (λ (xs : List (Option Structure)). IsFormedFound t (Some xs)) (sym c.from_vec.ensures)
    (found-formed t r ss c.in_ok-after.after.items c.requires.grammar c.requires.formed c.in_ok-after.ensures)
