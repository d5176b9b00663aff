use Rattle.std.proofs.Common.{take, IfSome}
use Rattle.std.specs.List.{All}
use Rattle.hk_base.specs.TailoringParts.{TailoringParts}
use Rattle.report_structures.specs.Changes.{IsFormedState}
use Rattle.definition_intervals.specs.Founds.{IsCommon, IsFormedFound}
use Rattle.opening_sweeps.specs.Groups.{finds}
use Rattle.opening_sweeps.specs.declared.group.Group.{Group}
use Rattle.opening_sweeps.proofs.narrowing.common_states.Given as goal

abbrev pub invariant-loop-group : goal.invariant-loop-group
invariant-loop-group l =
    record {
      common : IsCommon (finds (take l.group-index l.groups)) l.common;
      formed : (t : TailoringParts) → All (λ (g : Group). IsFormedFound t g.found) l.groups → IfSome l.common (All (IsFormedState t));
    }
