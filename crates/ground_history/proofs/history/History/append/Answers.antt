use Rattle.std.proofs.Common.{◌≡◌, ◌∙◌, ◌++◌, ◌∷◌, [], List, ap, sym, subst}
use Rattle.ground_history.specs.Ground.{IsGrounded}
use Rattle.ground_history.specs.Histories.{Sent}
use Rattle.ground_history.specs.contracts.history.History.{the_view}
use Rattle.ground_history.proofs.GroundedLemmas.{with_requests, grounded-sent}
use Rattle.ground_history.proofs.OutcomeLemmas.{appended}
use Rattle.ground_history.proofs.history.History.append.Goals as goal

pub invariant_of-self-2 : goal.invariant_of-self-2
invariant_of-self-2 c =
    let request : Sent = record { packet = c.in_ok-packet.packet; request = c.in_ok-request.request; floor = c.newest-floor.result } in
    let pushed : c.push.new.self ≡ c.self.inside.requests ++ request ∷ [] = c.in_ok-push.ensures.pushed ∙ ap (λ (r : Sent). c.self.inside.requests ++ r ∷ []) c.new.ensures in
    let grounded = grounded-sent (the_view c.self.inside) request c.self.invariant.1 c.in_ok-request.ensures.grammar c.newest-floor.ensures in
    (c.self.invariant.0, subst (λ (requests : List Sent). IsGrounded (with_requests (the_view c.self.inside) requests)) (sym pushed) grounded)

pub returns-clause-added : goal.returns-clause-added
returns-clause-added c =
    rw (← c.self.view_is)
    (appended (the_view c.self.inside) c.push.new.self c.in_ok-packet.packet c.args.bytes.now c.in_ok-request.request c.newest-floor.result
    (c.in_ok-push.ensures.pushed ∙ ap (λ (r : Sent). c.self.inside.requests ++ r ∷ []) c.new.ensures) c.in_ok-packet.ensures c.in_ok-request.ensures.request c.newest-floor.ensures)
