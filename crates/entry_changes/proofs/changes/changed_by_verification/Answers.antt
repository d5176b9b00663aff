use Rattle.std.proofs.Common.{arith, ◌<◌, ◌∙◌, sym, length}
use Rattle.entry_changes.proofs.KeptLemmas.{verification-kept, first-kept}
use Rattle.entry_changes.proofs.changes.changed_by_verification.Goals as goal

pub returns-in-Some-last_before : goal.returns-in-Some-last_before
returns-in-Some-last_before c =
    λ g grounded e.
    let later = c.args.history.now in
    let n = c.args.kept.now in
    let v = c.args.verification.now in
    let sent : c.in-Some.number < length later.history.requests = omega (arith, c.count.ensures) in
    verification-kept c.bounds_rise.ensures g later n c.in-Some.number v c.tag.result c.in-Some-last_before.last c.unseen_below.result e grounded
    c.tailoring-tailoring.ensures.grounded (sym c.number.ensures ∙ c.in-Some.is) c.requires c.tag.ensures sent c.in-Some-last_before.ensures c.unseen_below.ensures

pub returns-in-None : goal.returns-in-None
returns-in-None c = λ g grounded e. first-kept g c.args.history.now c.args.kept.now c.args.verification.now 1 e c.requires (omega arith)
