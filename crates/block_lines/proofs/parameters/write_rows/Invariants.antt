use Rattle.std.proofs.Common.{◌≡◌, ◌++◌, flat_map, take}
use Rattle.session_texts.specs.Blocks.{stat_line}
use Rattle.block_lines.proofs.parameters.write_rows.Given as goal

abbrev pub invariant-loop-row : goal.invariant-loop-row
invariant-loop-row l = l.out.items ≡ l.fn.out.items ++ flat_map (stat_line l.tailoring) (take l.row-index l.rows)
