use Rattle.std.proofs.Common.{rules}
use Rattle.record_commands.proofs.EncodeLemmas.{begins, nothing_behind}
use Rattle.record_commands.proofs.encoding.split_line.Goals as goal

pub returns-then-is_empty-clause-lines : goal.returns-then-is_empty-clause-lines
returns-then-is_empty-clause-lines c =
    begins c.args.text.now c.split_at.result.0.now c.split_at.result.1.now c.split_at.result.1.now c.line_length-end.result c.requires
    c.line_length-end.ensures.length c.split_at.ensures.front c.split_at.ensures.back (nothing_behind c.split_at.result.1.now (search rules))

pub returns-clause-lines : goal.returns-clause-lines
returns-clause-lines c =
    begins c.args.text.now c.split_at.result.0.now c.split_at.result.1.now c.split_at-2.result.1.now c.line_length-end.result c.requires
    c.line_length-end.ensures.length c.split_at.ensures.front c.split_at.ensures.back c.split_at-2.ensures.back
