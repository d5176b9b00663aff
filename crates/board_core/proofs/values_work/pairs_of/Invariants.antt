use Rattle.std.proofs.Common.{◌≡◌, ◌++◌, drop}
use Rattle.board_core.specs.Reporting.{pairs_held}
use Rattle.board_core.proofs.values_work.pairs_of.Given as goal

abbrev pub invariant-loop-id : goal.invariant-loop-id
invariant-loop-id l = l.pairs.items ++ pairs_held l.channels (drop l.id-index l.ids) ≡ pairs_held l.channels l.ids
