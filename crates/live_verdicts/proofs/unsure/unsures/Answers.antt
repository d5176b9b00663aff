use Rattle.std.proofs.Common.{arith, ◌∙◌, ◌<◌, ◌≤◌, length, sym, ap, subst, List, Vec, Global, Option}
use Rattle.std.specs.List.{All}
use Rattle.definition_intervals.specs.Openings.{Candidate}
use Rattle.definition_intervals.specs.Findings.{IsFormedCandidate}
use Rattle.live_verdicts.proofs.GrowLemmas.{IsUnsureAt, unsures-with, unsures-without, unsures-formed}
use Rattle.live_verdicts.proofs.unsure.unsures.Goals as goal
use Rattle.live_verdicts.proofs.unsure.unsures.Goals.{in-Some+in_ok-push, in_default}

pub loop-number-preserved : goal.loop-number-preserved
loop-number-preserved c =
    let h = c.args.history.now.history in
    let key = c.args.key in
    let first = c.args.numbers.first in
    let n = c.loop-number.number in
    let before = c.loop-number.requests.items in
    let order : first ≤ n = omega arith in
    let within : n < length h.requests = omega (arith, c.requires.within) in
    elim c.match-unsure.branch [
      | in-Some+in_ok-push w ↦
          let told = subst (λ (o : Option Candidate). IsUnsureAt h key n o) w.in-Some.is c.unsure.ensures in
          unsures-with h key first n w.in-Some.request before c.match-unsure.requests.items order within told c.loop-number.invariant
          (ap (λ (v : Vec Candidate Global). v.items) w.requests-is ∙ w.in_ok-push.ensures.items)
      | in_default w ↦
          let told = subst (λ (o : Option Candidate). IsUnsureAt h key n o) w.in_default.is c.unsure.ensures in
          ap (λ (v : Vec Candidate Global). v.items) w.requests-is ∙ unsures-without h key first n before order within told c.loop-number.invariant
    ]

pub returns-clause-formed : goal.returns-clause-formed
returns-clause-formed c =
    let g = c.args.history.now in
    subst (λ (cs : List Candidate). All (IsFormedCandidate g.tailoring) cs) (sym c.loop-number.invariant)
    (unsures-formed c.changes_are_formed.ensures g c.args.key c.args.numbers.first c.loop-number.number c.tailoring-tailoring.ensures.grounded)
