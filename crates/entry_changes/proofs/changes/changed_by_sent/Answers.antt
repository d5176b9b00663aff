use Rattle.std.proofs.Common.{arith, ◌≡◌, ◌+◌, ◌-◌, ◌≤◌, ◌∙◌, sym, ap, subst, length, ◌++◌, ◌∷◌, [], Some}
use Rattle.std.specs.Result.{result_ok}
use Rattle.std.proofs.lemmas.List.{length-append}
use Rattle.pus_messages.specs.Messages.{protocol}
use Rattle.ground_history.specs.Histories.{Sent, newest_tag}
use Rattle.ground_history.specs.Evidence.{low}
use Rattle.ground_history.specs.Ground.{Ground}
use Rattle.entry_changes.specs.Changes.{AreSameBelow}
use Rattle.entry_changes.proofs.SameLemmas.{with_request}
use Rattle.entry_changes.proofs.KeptLemmas.{request-sent}
use Rattle.entry_changes.proofs.changes.changed_by_sent.Goals as goal

pub returns : goal.returns
returns c =
    λ g packet e.
    let r : Sent = record { packet = packet; request = result_ok ((protocol g.tailoring).request packet); floor = newest_tag g.history } in
    let n = length g.history.requests in
    let more : length (g.history.requests ++ r ∷ []) ≡ n + 1 = length-append g.history.requests (r ∷ []) in
    let count : c.count-count.result ≡ n + 1 = c.count-count.ensures ∙ (ap (λ (x : Ground). length x.history.requests) e ∙ more) in
    let last : c.count-count.result - 1 ≡ n = omega (arith, count) in
    let bound : c.low.result ≡ low (with_request g.history r) n = c.low.ensures ∙ (ap (λ (x : Ground). low x.history (c.count-count.result - 1)) e ∙ ap (λ k. low (with_request g.history r) k) last) in
    let limit : c.saturating_add.result ≤ low (with_request g.history r) n + 1 = omega (arith, bound, c.saturating_add.ensures) in
    subst (λ (x : Ground). AreSameBelow (Some c.saturating_add.result) g x) (sym e) (request-sent g r c.saturating_add.result limit)
