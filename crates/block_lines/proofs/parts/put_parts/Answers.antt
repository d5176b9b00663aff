use Rattle.std.proofs.Common.{flat_map, take}
use Rattle.block_lines.specs.Parts.{part_octets}
use Rattle.block_lines.proofs.Appending.{fails_after}
use Rattle.block_lines.proofs.parts.put_parts.Goals as goal

pub returns-in_err-put_part : goal.returns-in_err-put_part
returns-in_err-put_part c =
    fails_after c.from_residual.result c.args.out.now.items (flat_map part_octets (take c.loop-part.part-index c.args.parts.now))
    c.loop-part.out.items c.put_part.new.out.items _ c.from_residual.ensures.0 c.loop-part.invariant c.in_err-put_part.ensures
