use Rattle.st01_reports.proofs.Fitting.{verification_fits}
use Rattle.st01_reports.proofs.writing.encode.Goals as goal

pub write_report-written-requires : goal.write_report-written-requires
write_report-written-requires c = verification_fits c.args.tailoring.now c.args.v.now c.widths-widths.ensures.fit.widths.count_octets.0 c.requires
