use Rattle.std.proofs.Common.{ℕ, ◌∙◌, sym, ap, subst, Some}
use Rattle.std.specs.Prelude.{unwrap_or}
use Rattle.pus_messages.specs.declared.message.Report.{Report}
use Rattle.ground_history.specs.Ground.{with_history}
use Rattle.ground_history.proofs.SayLemmas.{other-from}
use Rattle.entry_changes.specs.Changes.{AreUnsureSame, with_packet}
use Rattle.entry_changes.proofs.TouchLemmas.{other-touches, acceptance-touches, verification-touches}
use Rattle.entry_changes.proofs.touched.touched_by_packet.Goals as goal

pub returns-in_default : goal.returns-in_default
returns-in_default c =
    λ g.
    let other = other-from c.args.kept.now.report.body (λ v is. c.in_default.not-Verify v (ap (λ (r : Report). r.body) c.report.ensures ∙ is)) in
    other-touches g c.args.kept.now other

pub returns-then-tells_acceptance : goal.returns-then-tells_acceptance
returns-then-tells_acceptance c =
    λ g.
    let body = sym (ap (λ (r : Report). r.body) c.report.ensures) ∙ c.in-Verify.is in
    acceptance-touches g c.args.kept.now c.in-Verify.verification body (sym c.tells_acceptance.ensures ∙ c.if-tells_acceptance.true)

pub returns : goal.returns
returns c =
    λ g.
    let n = c.args.kept.now in
    let body = sym (ap (λ (r : Report). r.body) c.report.ensures) ∙ c.in-Verify.is in
    let number = c.unwrap_or.ensures ∙ ap (λ o. unwrap_or o 0) c.number.ensures in
    subst (λ (k : ℕ). AreUnsureSame (Some k) g (with_history g (with_packet g.history n))) (sym number) (verification-touches g n c.in-Verify.verification body)
