use Rattle.std.proofs.Common.{lit≤, lit<, refl, sym, subst, List, [], ◌∷◌, negsuc}
use Rattle.hk_base.specs.TailoringParts.{TailoringParts}
use Rattle.hk_base.specs.Builtin.{builtin}
use Rattle.st04_grammar.specs.Spelling.{IsRow, IsStatistics}
use Rattle.st04_grammar.specs.declared.bodies.StatRow.{StatRow}
use Rattle.st04_grammar.specs.declared.bodies.StatReport.{StatReport}
use Rattle.st04_grammar.proofs.tests.written_report.Goals as goal

abbrev row : StatRow
row = record { param = 2; count = 2; max = negsuc 2; max_time = 0; min = negsuc 3; min_time = 4096; mean = negsuc 3 }

abbrev report_of : List StatRow → StatReport
report_of rows = record { start = 0; end = 8200; rows = rows }

row_fine : IsRow builtin row
row_fine = record { count = (lit≤ tt, lit< tt); max = refl; max_time = lit< tt; min = refl; min_time = lit< tt; mean = lit≤ tt }

fine : IsStatistics builtin (report_of (row ∷ []))
fine = record { start = lit< tt; stop = lit< tt; rows = record { count = (lit≤ tt, lit≤ tt, lit< tt); ids = (refl, tt); each = (row_fine, tt) } }

pub encode_report-requires : goal.encode_report-requires
encode_report-requires c =
    subst (λ (t : TailoringParts). IsStatistics t (report_of c.in_ok-rows.rows)) (sym c.in_ok-tailoring.ensures)
    (subst (λ (rows : List StatRow). IsStatistics builtin (report_of rows)) (sym c.in_ok-rows.ensures) fine)
