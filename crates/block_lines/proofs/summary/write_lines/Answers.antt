use Rattle.std.proofs.Common.{flat_map, take}
use Rattle.block_lines.specs.Numbers.{numbered_line}
use Rattle.block_lines.proofs.Appending.{fails_after}
use Rattle.block_lines.proofs.summary.write_lines.Goals as goal

pub returns-in_err-write_number : goal.returns-in_err-write_number
returns-in_err-write_number c =
    fails_after c.from_residual.result c.args.out.now.items (flat_map numbered_line (take c.loop-line.line-index c.args.lines.now))
    c.loop-line.out.items c.write_number.new.out.items _ c.from_residual.ensures.0 c.loop-line.invariant c.in_err-write_number.ensures
