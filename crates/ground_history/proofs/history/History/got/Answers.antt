use Rattle.std.proofs.Common.{subst}
use Rattle.pus_messages.specs.Receptions.{IsFrom, IsShort}
use Rattle.pus_messages.specs.Spelling.{IsReportPacket}
use Rattle.ground_history.specs.Ground.{Ground}
use Rattle.ground_history.proofs.history.History.got.Goals as goal

pub got_report-requires : goal.got_report-requires
got_report-requires c =
    record {
      spelled =
          subst (λ (g : Ground). IsReportPacket g.tailoring c.in-Readable.report c.args.bytes.now) c.self.view_is
          (subst (IsFrom c.self.inside.tailoring c.args.bytes.now) c.in-Readable.is c.in_ok-apid.ensures.found);
      short = subst IsShort c.in-Readable.is c.in_ok-apid.ensures.room;
    }
