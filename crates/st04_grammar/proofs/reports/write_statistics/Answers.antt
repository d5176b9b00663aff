use Rattle.std.proofs.Common.{◌≡◌, ◌++◌, List, sym, subst}
use Rattle.std.specs.Prelude.{OnOk}
use Rattle.std.specs.List.{AllByRecursion}
use Rattle.body_fields.specs.Spelling.{counted_octets, time_octets}
use Rattle.st04_grammar.specs.Spelling.{IsKnownRow, row_octets}
use Rattle.st04_grammar.specs.declared.bodies.StatRow.{StatRow}
use Rattle.st04_grammar.proofs.SpellingLemmas.{rows_known}
use Rattle.st04_grammar.proofs.WritingLemmas.{last_part, earlier_part}
use Rattle.st04_grammar.proofs.reports.write_statistics.Goals as goal

pub write_list-requires-clause-members : goal.write_list-requires-clause-members
write_list-requires-clause-members c =
    let t = c.args.tailoring.now in
    subst (λ (rows : List StatRow). AllByRecursion (IsKnownRow t) rows) (sym c.as_slice.ensures) (rows_known t c.args.report.now.rows c.requires.rows)

pub returns : goal.returns
returns c =
    let t = c.args.tailoring.now in
    let report = c.args.report.now in
    let rows = counted_octets t (row_octets t) report.rows in
    let end = c.write_list.new.out.items in
    let result = c.write_list.result in
    earlier_part c.args.out.now.items (time_octets t report.start) c.write_time.new.out.items (time_octets t report.end ++ rows) end result c.in_ok-write_time.ensures.ok
    (last_part c.write_time.new.out.items (time_octets t report.end) c.write_time-2.new.out.items rows end result c.in_ok-write_time-2.ensures.ok
    (subst (λ (xs : List StatRow). OnOk result (end ≡ c.write_time-2.new.out.items ++ counted_octets t (row_octets t) xs)) c.as_slice.ensures c.write_list.ensures.ok)
    c.write_list.ensures.err)
