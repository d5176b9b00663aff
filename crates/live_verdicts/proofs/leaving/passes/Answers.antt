use Rattle.std.proofs.Common.{◌≡◌, ◌+◌, true, sym, subst, Option}
use Rattle.std.specs.Prelude.{IfOk}
use Rattle.hk_base.specs.TailoringParts.{TailoringParts}
use Rattle.definition_intervals.specs.Openings.{Candidate}
use Rattle.definition_intervals.specs.Findings.{IsFormedCandidate}
use Rattle.entry_changes.specs.Changes.{unsures}
use Rattle.live_verdicts.specs.Marks.{Leaves}
use Rattle.live_verdicts.proofs.GrowLemmas.{IsUnsureAt, one-unsure, none-unsure, unsures-formed, one-all, all-none, if-passes}
use Rattle.live_verdicts.proofs.leaving.passes.Goals as goal

pub leaves-requires-clause-request : goal.leaves-requires-clause-request
leaves-requires-clause-request c =
    let g = c.args.history.now in
    let n = c.args.number in
    let told = subst (λ (o : Option Candidate). IsUnsureAt g.history c.args.key n o) c.in-Some.is c.unsure.ensures in
    let is = one-unsure g.history c.args.key n c.in-Some.request c.requires.sent told in
    subst (λ (t : TailoringParts). IsFormedCandidate t c.in-Some.request) (sym c.tailoring-tailoring.ensures.tailoring)
    (one-all (IsFormedCandidate g.tailoring) (unsures g.history c.args.key n (n + 1)) c.in-Some.request is
    (unsures-formed c.changes_are_formed.ensures g c.args.key n (n + 1) c.tailoring-tailoring.ensures.grounded))

pub returns-in-Some-clause-passes : goal.returns-in-Some-clause-passes
returns-in-Some-clause-passes c =
    let g = c.args.history.now in
    let n = c.args.number in
    let m = c.args.mark.now in
    let told = subst (λ (o : Option Candidate). IsUnsureAt g.history c.args.key n o) c.in-Some.is c.unsure.ensures in
    let is = one-unsure g.history c.args.key n c.in-Some.request c.requires.sent told in
    if-passes g.tailoring m (unsures g.history c.args.key n (n + 1)) c.in-Some.request is c.leaves.result
    (subst (λ (t : TailoringParts). IfOk c.leaves.result (λ yes. yes ≡ true → Leaves t c.in-Some.request m)) c.tailoring-tailoring.ensures.tailoring c.leaves.ensures.leaves)

pub returns-in-None-clause-passes : goal.returns-in-None-clause-passes
returns-in-None-clause-passes c =
    λ yes.
    let g = c.args.history.now in
    let n = c.args.number in
    let told = subst (λ (o : Option Candidate). IsUnsureAt g.history c.args.key n o) c.in-None.is c.unsure.ensures in
    all-none (λ r. Leaves g.tailoring r c.args.mark.now) (unsures g.history c.args.key n (n + 1)) (none-unsure g.history c.args.key n c.requires.sent told)
