use Rattle.std.proofs.Common.{◌++◌, Ok, flat_map}
use Rattle.std.specs.List.{AllByRecursion}
use Rattle.pus_messages.specs.Spelling.{HasRoom}
use Rattle.ground_history.specs.Histories.{Kept}
use Rattle.session_texts.specs.Blocks.{block}
use Rattle.decommutator.specs.Output.{Proceeds, as_seen}
use Rattle.decommutator.proofs.blocks.write_blocks.Given as goal

abbrev pub invariant-loop-kept : goal.invariant-loop-kept
invariant-loop-kept g l = record {
  ahead : Proceeds
      (l.fn.out.items ++ flat_map (block l.verdicts.tailoring l.verdicts.history) l.verdicts.history.kept)
      (as_seen g.K.Sink l.fn.sink)
      (Ok tt)
      (l.out.items ++ flat_map (block l.verdicts.tailoring l.verdicts.history) l.kept-iterator)
      (as_seen g.K.Sink l.sink);
  short : AllByRecursion (λ (k : Kept). HasRoom k.report.body) l.kept-iterator;
}
