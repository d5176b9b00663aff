use Rattle.std.proofs.Common.{◌++◌, Ok, flat_map, drop}
use Rattle.decommutator.specs.Due.{last_text}
use Rattle.decommutator.specs.Output.{Proceeds, as_seen}
use Rattle.decommutator.proofs.rest.write_blocks.Given as goal

abbrev pub invariant-loop-tag : goal.invariant-loop-tag
invariant-loop-tag g l =
    record {
      ahead : Proceeds
          (l.fn.out.items ++ flat_map (last_text l.verdicts) l.tags)
          (as_seen g.K.Sink l.fn.sink)
          (Ok tt)
          (l.out.items ++ flat_map (last_text l.verdicts) (drop l.tag-index l.tags))
          (as_seen g.K.Sink l.sink);
    }
