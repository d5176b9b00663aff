use Rattle.std.proofs.Common.{◌∙◌}
use Rattle.st01_reports.proofs.Newest.{newest_is}
use Rattle.st01_reports.proofs.reading.newest.Goals as goal

pub returns : goal.returns
returns c = c.copied.ensures ∙ (c.last.ensures.value ∙ newest_is c.args.earlier.now)
