use Rattle.std.proofs.Common.{arith}
use Rattle.std.proofs.lemmas.Result.{IfOk-weaker}
use Rattle.body_fields.proofs.BodyLemmas.{read_is, octets_below}
use Rattle.st01_reports.specs.Bodies.{report_table}
use Rattle.st01_reports.proofs.TakenBodies.{report-took}
use Rattle.st01_reports.proofs.reading.decode.Goals as goal

pub returns-clause-found : goal.returns-clause-found
returns-clause-found c =
    let t = c.args.tailoring.now in
    let body = c.args.body.now in
    let below = octets_below body (λ i. omega (arith, c.type_inv.body i)) in
    IfOk-weaker c.read_body.result _ _ (λ report e. report-took t c.args.subtype body report below e)
    (read_is (report_table t) c.args.subtype body c.read_body.result c.requires.known c.read_body.ensures)
