use Rattle.std.proofs.Common.{◌∙◌, ◌<◌, sym, ap, subst, Option}
use Rattle.std.specs.Option.{option_copied}
use Rattle.definition_intervals.specs.Openings.{Candidate, Opening}
use Rattle.definition_intervals.specs.Findings.{with_request}
use Rattle.definition_intervals.proofs.GatherLemmas.{IsCandidateAt, opened-step, unchanged-step}
use Rattle.definition_intervals.proofs.gathering.opening.Goals as goal
use Rattle.definition_intervals.proofs.gathering.opening.Goals.{in-Some+in_ok-opening, in_default}

pub loop-number-preserved : goal.loop-number-preserved
loop-number-preserved c =
    let h = c.args.history.now.history in
    let key = c.args.key in
    let from = c.args.from in
    let tag = c.args.tag in
    let n = c.loop-number.number in
    let state = option_copied c.args.state in
    let within = subst (λ k. n < k) c.count-number-end.ensures c.loop-number-test.true in
    elim c.match-candidate.branch [
      | in-Some+in_ok-opening w ↦
          let told = subst (λ (o : Option Candidate). IsCandidateAt h key from tag n o) w.in-Some.is c.candidate.ensures in
          w.opening-is ∙ (w.in_ok-opening.ensures ∙ (ap (λ (o : Opening). with_request o w.in-Some.request) c.loop-number.invariant ∙ sym (opened-step h key from tag n state w.in-Some.request within told)))
      | in_default w ↦
          let told = subst (λ (o : Option Candidate). IsCandidateAt h key from tag n o) w.in_default.is c.candidate.ensures in
          w.opening-is ∙ (c.loop-number.invariant ∙ sym (unchanged-step h key from tag n state within told))
    ]
