use Rattle.std.proofs.Common.{take, IfSome}
use Rattle.std.specs.List.{All}
use Rattle.report_structures.specs.Changes.{IsFormedState}
use Rattle.definition_intervals.specs.Findings.{AreCommon}
use Rattle.definition_intervals.proofs.narrowing.common_states.Given as goal

abbrev pub invariant-loop-opening : goal.invariant-loop-opening
invariant-loop-opening l =
    record {
      common : AreCommon l.tailoring (take l.opening-index l.openings) l.common;
      formed : IfSome l.common (All (IsFormedState l.tailoring));
    }
