use Rattle.std.proofs.Common.{arith, ◌≡◌, ◌∙◌, ◌<◌, ◌+◌, ℕ, List, Bor, Option, IfSome, sym, ap, subst, take, flat_map}
use Rattle.std.specs.List.{enumerate_from}
use Rattle.std.specs.Option.{option_copied}
use Rattle.std.proofs.lemmas.List.{take_all}
use Rattle.std.proofs.lemmas.List.FromFn.{length-enumerate_from}
use Rattle.hk_base.specs.declared.types.Key.{Key}
use Rattle.pus_messages.specs.declared.message.Request.{Request}
use Rattle.ground_history.specs.Histories.{Sent}
use Rattle.verdict_tables.specs.Collecting.{Collects, sent_places}
use Rattle.verdict_tables.proofs.CollectLemmas.{member-at, collects-same, sent-step, unsent-step}
use Rattle.verdict_tables.proofs.collecting.add_requests.Goals as goal
use Rattle.verdict_tables.proofs.collecting.add_requests.Goals.{in-Some+in_ok-add_request, in_default}

pub loop-number-preserved : goal.loop-number-preserved
loop-number-preserved c =
    let h = c.args.history.now.history in
    let n = c.loop-number.number in
    let within = subst (λ k. n < k) c.count-number-end.ensures c.loop-number-test.true in
    let member = member-at h.requests n within in
    let told = subst (λ (o : Option Sent). IfSome o (λ sent. option_copied c.request.result ≡ sent.request)) member.1 c.request.ensures in
    elim c.match-request.branch [
      | in-Some+in_ok-add_request w ↦
          subst (λ (new : List (Key × List ℕ)). Collects c.args.places.now new (λ key. flat_map (sent_places h key) (take (n + 1) (enumerate_from 0 h.requests)))) (sym w.places-is)
          (sent-step h n member.0 w.in-Some.request.now c.args.places.now c.loop-number.places w.add_request.new.places member.1
          (sym told ∙ ap (λ (o : Option (Bor Request)). option_copied o) w.in-Some.is) c.loop-number.invariant w.in_ok-add_request.ensures)
      | in_default w ↦
          subst (λ (new : List (Key × List ℕ)). Collects c.args.places.now new (λ key. flat_map (sent_places h key) (take (n + 1) (enumerate_from 0 h.requests)))) (sym w.places-is)
          (unsent-step h n member.0 c.args.places.now c.loop-number.places member.1
          (sym told ∙ ap (λ (o : Option (Bor Request)). option_copied o) w.in_default.is) c.loop-number.invariant)
    ]

pub returns : goal.returns
returns c =
    let h = c.args.history.now.history in
    collects-same c.args.places.now c.loop-number.places _ _ (λ key. ap (λ (l : List (ℕ × Sent)). flat_map (sent_places h key) l)
    (take_all c.loop-number.number (enumerate_from 0 h.requests) (omega (arith, length-enumerate_from 0 h.requests, c.count-number-end.ensures, c.loop-number-test.false)))) c.loop-number.invariant
