use Rattle.std.proofs.Common.{arith, ◌≡◌, ◌≤◌, ◌+◌, ◌∙◌, sym, ap, false}
use Rattle.pus_messages.specs.declared.message.Report.{Report}
use Rattle.ground_history.specs.Ground.{tells_structure}
use Rattle.ground_history.proofs.SayLemmas.{other-from}
use Rattle.entry_changes.proofs.KeptLemmas.{structure-kept, other-kept}
use Rattle.entry_changes.proofs.changes.changed_by_packet.Goals as goal

pub returns-then-tells : goal.returns-then-tells
returns-then-tells c =
    λ g grounded e.
    let n = c.args.kept.now in
    let other = other-from n.report.body (λ v is. c.in_default.not-Verify v (ap (λ (r : Report). r.body) c.report.ensures ∙ is)) in
    let limit : c.saturating_add.result ≤ c.tag.result + 1 = omega (arith, c.saturating_add.ensures) in
    structure-kept g c.args.history.now n c.tag.result c.saturating_add.result e other c.tag.ensures limit

pub returns-else-tells : goal.returns-else-tells
returns-else-tells c =
    λ g grounded e.
    let n = c.args.kept.now in
    let other = other-from n.report.body (λ v is. c.in_default.not-Verify v (ap (λ (r : Report). r.body) c.report.ensures ∙ is)) in
    let none : tells_structure n.report.body ≡ false = ap (λ (r : Report). tells_structure r.body) (sym c.report.ensures) ∙ (sym c.tells.ensures ∙ c.if-tells.false) in
    other-kept g c.args.history.now n e other none
