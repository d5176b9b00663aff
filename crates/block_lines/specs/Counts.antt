-- The counts of what became of packets that were received, as six numbers.
use Rattle.std.specs.Prelude.{ℕ, List, ◌++◌, codes}
use Rattle.std.specs.List.{count_by}
use Rattle.ground_history.specs.declared.answer.GotKind.{GotKind}
use Rattle.session_texts.specs.Texts.{is_repeat, is_conflict, is_foreign, is_skipped, is_unread, is_stray, count_line}
use Rattle.block_lines.specs.declared.counts.Counts.{Counts}

-- how often each thing became of packets
abbrev pub counts_of : List GotKind → Counts
counts_of kinds =
    record {
      repeats = count_by is_repeat kinds;
      conflicts = count_by is_conflict kinds;
      foreign = count_by is_foreign kinds;
      skipped = count_by is_skipped kinds;
      unread = count_by is_unread kinds;
      stray = count_by is_stray kinds;
    }

-- the six numbers as lines, each where it isn't 0
abbrev pub lines_of : Counts → List ℕ
lines_of c =
    count_line (codes "repeats") c.repeats
    ++ (count_line (codes "conflicts") c.conflicts
    ++ (count_line (codes "foreign") c.foreign
    ++ (count_line (codes "skipped") c.skipped ++ (count_line (codes "unread") c.unread ++ count_line (codes "stray") c.stray))))
