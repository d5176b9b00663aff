use Rattle.std.proofs.Common.{◌≡◌, ◌++◌, flat_map, drop}
use Rattle.std.specs.String.{string_bytes}
use Rattle.message_words.specs.Words.{row_words}
use Rattle.message_words.specs.Tails.{tail}
use Rattle.message_words.proofs.reports.push_rows.Given as goal

abbrev pub invariant-loop-row : goal.invariant-loop-row
invariant-loop-row l =
    string_bytes l.line ++ tail (flat_map row_words (drop l.row-index l.rows)) ≡ string_bytes l.fn.line ++ tail (flat_map row_words l.rows)
