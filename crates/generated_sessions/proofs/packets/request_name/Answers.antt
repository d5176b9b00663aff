use Rattle.std.proofs.Common.{sym, subst}
use Rattle.st01_reports.specs.Spelling.{IsRequestId}
use Rattle.generated_sessions.proofs.Messages.{name_is, name_fits}
use Rattle.generated_sessions.proofs.packets.request_name.Goals as goal

pub returns-clause-name : goal.returns-clause-name
returns-clause-name c = name_is c.args.request c.request_header.result c.request_id.result c.request_header.ensures c.request_id.ensures

pub returns-clause-fits : goal.returns-clause-fits
returns-clause-fits c =
    subst IsRequestId (sym (name_is c.args.request c.request_header.result c.request_id.result c.request_header.ensures c.request_id.ensures))
    (name_fits c.args.request)
