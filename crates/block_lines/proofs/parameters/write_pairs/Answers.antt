use Rattle.std.proofs.Common.{flat_map, take}
use Rattle.session_texts.specs.Blocks.{current_line}
use Rattle.block_lines.proofs.Appending.{fails_after}
use Rattle.block_lines.proofs.parameters.write_pairs.Goals as goal

pub returns-in_err-write_pair : goal.returns-in_err-write_pair
returns-in_err-write_pair c =
    fails_after c.from_residual.result c.args.out.now.items (flat_map current_line (take c.loop-pair.pair-index c.args.pairs.now))
    c.loop-pair.out.items c.write_pair.new.out.items _ c.from_residual.ensures.0 c.loop-pair.invariant c.in_err-write_pair.ensures
