use Rattle.st03_grammar.proofs.Fitting.{report_fits}
use Rattle.st03_grammar.proofs.writing.encode_report.Goals as goal

pub write_report-written-requires : goal.write_report-written-requires
write_report-written-requires c = report_fits c.args.tailoring.now c.args.report.now c.requires
