use Rattle.std.proofs.Common.{◌≡◌, ◌++◌, flat_map, take}
use Rattle.block_lines.specs.Numbers.{numbered_line}
use Rattle.block_lines.proofs.summary.write_lines.Given as goal

abbrev pub invariant-loop-line : goal.invariant-loop-line
invariant-loop-line l = l.out.items ≡ l.fn.out.items ++ flat_map numbered_line (take l.line-index l.lines)
