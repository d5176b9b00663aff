use Rattle.std.proofs.Common.{take, IfSome}
use Rattle.std.specs.List.{All}
use Rattle.hk_base.specs.TailoringParts.{TailoringParts}
use Rattle.report_structures.specs.Changes.{IsFormedState}
use Rattle.definition_intervals.specs.Founds.{IsCommon, IsFormedFound}
use Rattle.live_verdicts.proofs.finds.common_states.Given as goal

abbrev pub invariant-loop-found : goal.invariant-loop-found
invariant-loop-found l =
    record {
      common : IsCommon (take l.found-index l.finds) l.common;
      formed : (t : TailoringParts) → All (IsFormedFound t) l.finds → IfSome l.common (All (IsFormedState t));
    }
