use Rattle.std.proofs.Common.{◌++◌, ap, ◌∙◌}
use Rattle.std.specs.Prelude.{codes}
use Rattle.std.specs.Fmt.{decimal}
use Rattle.session_texts.specs.Blocks.{line_end}
use Rattle.block_lines.specs.Decisions.{payload_lines}
use Rattle.block_lines.proofs.Appending.{line_then}
use Rattle.block_lines.proofs.reports.write_decision.Goals as goal

pub returns : goal.returns
returns c =
    line_then c.args.out.now.items (codes " decided interval ") (decimal c.args.def.now.interval) line_end
    (payload_lines c.args.tailoring.now c.args.tag c.args.payload.now c.args.def.now)
    c.write_number_end.new.out.items c.write_payload.new.out.items
    (c.in_ok-write_number_end.ensures ∙ ap (λ n. c.args.out.now.items ++ (codes " decided interval " ++ (decimal n ++ line_end))) c.from.ensures)
    c.in_ok-write_payload.ensures
