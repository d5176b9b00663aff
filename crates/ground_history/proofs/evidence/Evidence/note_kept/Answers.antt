-- A verification report, another report, and a packet without a number.
use Rattle.std.proofs.Common.{◌<◌, ◌^◌, ℕ, ◌∙◌, sym, ap, subst, Option}
use Rattle.std.specs.Option.{IfSome}
use Rattle.pus_messages.specs.declared.message.Report.{Report}
use Rattle.ground_history.proofs.SayLemmas.{says-kept, says-unverified, says-unnumbered, other-from}
use Rattle.ground_history.proofs.evidence.Evidence.note_kept.Goals as goal

pub returns-in-Verify : goal.returns-in-Verify
returns-in-Verify c kept says =
    let number = sym c.number.ensures ∙ c.in-Some.is in
    let near : c.in-Some.request < 2 ^ 63 = subst (λ (o : Option ℕ). IfSome o (λ k. k < 2 ^ 63)) number c.requires.number in
    says-kept c.args.self.now c.note.new.self kept c.args.packet.now c.tag.result c.in-Some.request _ number (ap (λ (r : Report). r.body) (sym c.report.ensures) ∙ c.in-Verify.is) (sym c.tag.ensures) c.tag.type_inv near
    says c.note.ensures

pub returns-in_default-body : goal.returns-in_default-body
returns-in_default-body c kept says =
    says-unverified c.args.self.now c.args.packet.now
    (other-from c.args.packet.now.report.body (λ v e. c.in_default-body.not-Verify v (ap (λ (r : Report). r.body) c.report.ensures ∙ e)))
    kept says

pub returns-in_default : goal.returns-in_default
returns-in_default c kept says = says-unnumbered c.args.self.now c.args.packet.now (sym c.number.ensures ∙ c.in_default.is) kept says
