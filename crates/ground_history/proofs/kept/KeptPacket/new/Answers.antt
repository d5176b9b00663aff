use Rattle.std.proofs.Common.{◌∙◌, ◌-◌, refl, ap, length, List, ℕ}
use Rattle.ground_history.specs.Ground.{payload_of, with_payload}
use Rattle.ground_history.specs.Histories.{Kept}
use Rattle.ground_history.specs.declared.kept.Contents.{Contents}
use Rattle.ground_history.proofs.KeptOctets.{whole}
use Rattle.ground_history.proofs.kept.KeptPacket.new.Goals as goal

-- a kept packet by what it holds
abbrev kept_of : Contents → Kept
kept_of x = record { packet = with_payload x.around x.place (payload_of x.report.body); report = x.report; number = x.number }

pub returns : goal.returns
returns c =
    let parts = c.requires in
    let given = c.payload-payload.result.now in
    let packet =
    whole c.args.bytes.now parts.0 (payload_of c.args.report.body) parts.1 c.in_ok-without.field-0 given c.args.behind (length c.args.bytes.now - c.args.behind - length given)
    parts.2 parts.3 c.payload-payload.ensures refl c.in_ok-without.ensures in
    ap kept_of c.in_ok-new.ensures.ok ∙ ap (λ (p : List ℕ). record { packet = p; report = c.args.report; number = c.args.number }) packet
