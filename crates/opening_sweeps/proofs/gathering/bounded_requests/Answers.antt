use Rattle.std.proofs.Common.{◌≡◌, ◌∙◌, ◌<◌, length, sym, ap, subst, Vec, Global, Option, Some, None}
use Rattle.opening_sweeps.specs.Requests.{Bounded}
use Rattle.opening_sweeps.proofs.GatherLemmas.{IsRequestAt, request-added, request-skipped}
use Rattle.opening_sweeps.proofs.gathering.bounded_requests.Goals as goal
use Rattle.opening_sweeps.proofs.gathering.bounded_requests.Goals.{in-Some+in_ok-push, in_default}

pub loop-number-preserved : goal.loop-number-preserved
loop-number-preserved c =
    let h = c.args.history.now.history in
    let key = c.args.key in
    let n = c.loop-number.number in
    let before = c.loop-number.requests.items in
    let within = subst (λ k. n < k) c.count-number-end.ensures c.loop-number-test.true in
    elim c.match-bounded_request.branch [
      | in-Some+in_ok-push w ↦
          let told = subst (λ (o : Option Bounded). IsRequestAt h key n o) w.in-Some.is c.bounded_request.ensures in
          request-added h key n w.in-Some.request before c.match-bounded_request.requests.items within told c.loop-number.invariant
          (ap (λ (v : Vec Bounded Global). v.items) w.requests-is ∙ w.in_ok-push.ensures.items)
      | in_default w ↦
          let told = subst (λ (o : Option Bounded). IsRequestAt h key n o) w.in_default.is c.bounded_request.ensures in
          ap (λ (v : Vec Bounded Global). v.items) w.requests-is ∙ request-skipped h key n before within told c.loop-number.invariant
    ]
