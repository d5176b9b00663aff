use Rattle.std.proofs.Common.{flat_map, take}
use Rattle.session_texts.specs.Blocks.{stat_line}
use Rattle.block_lines.proofs.Appending.{fails_after}
use Rattle.block_lines.proofs.parameters.write_rows.Goals as goal

pub returns-in_err-write_row : goal.returns-in_err-write_row
returns-in_err-write_row c =
    fails_after c.from_residual.result c.args.out.now.items (flat_map (stat_line c.args.tailoring.now) (take c.loop-row.row-index c.args.rows.now))
    c.loop-row.out.items c.write_row.new.out.items _ c.from_residual.ensures.0 c.loop-row.invariant c.in_err-write_row.ensures
