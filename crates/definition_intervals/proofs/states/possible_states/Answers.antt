use Rattle.std.proofs.Common.{arith, ◌≡◌, ◌∙◌, ◌<◌, ◌∷◌, [], List, Option, length, subst, sym, ap, get_or, flat_map}
use Rattle.std.specs.List.{All}
use Rattle.hk_base.specs.declared.types.Structure.{Structure}
use Rattle.report_structures.specs.Changes.{IsFormedState}
use Rattle.definition_intervals.specs.Openings.{Candidate, Opening}
use Rattle.definition_intervals.specs.States.{next_states}
use Rattle.definition_intervals.specs.Findings.{IsSetOf}
use Rattle.definition_intervals.proofs.ReachLemmas.{AreReached, reached-none, reached-more, reached-crowded, reached-formed}
use Rattle.definition_intervals.proofs.states.possible_states.Goals as goal

pub loop-request-init : goal.loop-request-init
loop-request-init c =
    let o = c.args.opening.now in
    let first = ap (λ (x : Opening). x.state) c.opening.view_is in
    subst (λ (ss : List (Option Structure)). AreReached c.args.tailoring.now o 0 ss)
    (ap (λ (s : Option Structure). s ∷ []) (sym first) ∙ sym c.in_ok-states.ensures) (reached-none c.args.tailoring.now o)

pub states_after-requires-clause-formed : goal.states_after-requires-clause-formed
states_after-requires-clause-formed c =
    subst (λ (ss : List (Option Structure)). All (IsFormedState c.args.tailoring.now) ss) (sym c.deref.ensures.value)
    (reached-formed c.args.tailoring.now c.args.opening.now c.loop-request.request-index c.loop-request.states.items c.requires c.loop-request.invariant)

pub returns-then-len-gt-MOST_STATES-clause-found : goal.returns-then-len-gt-MOST_STATES-clause-found
returns-then-len-gt-MOST_STATES-clause-found c =
    let t = c.args.tailoring.now in
    let o = c.args.opening.now in
    let i = c.loop-request.request-index in
    let item = c.request-item.result in
    let states = c.loop-request.states.items in
    let more = c.in_ok-states-2.states.items in
    let same : c.as_slice-request-items.result.now ≡ o.requests = c.as_slice-request-items.ensures ∙ ap (λ (x : Opening). x.requests) c.opening.view_is in
    let below = subst (λ (xs : List Candidate). i < length xs) same c.loop-request-test.true in
    let is = c.request-item.is ∙ ap (λ (xs : List Candidate). get_or xs i item) same in
    let set = subst (λ (ss : List (Option Structure)). IsSetOf more (flat_map (next_states t item) ss)) c.deref.ensures.value c.in_ok-states-2.ensures in
    reached-crowded t o i item states more below is c.loop-request.invariant set (omega arith)

pub loop-request-preserved : goal.loop-request-preserved
loop-request-preserved c =
    let t = c.args.tailoring.now in
    let o = c.args.opening.now in
    let i = c.loop-request.request-index in
    let item = c.request-item.result in
    let states = c.loop-request.states.items in
    let more = c.in_ok-states-2.states.items in
    let same : c.as_slice-request-items.result.now ≡ o.requests = c.as_slice-request-items.ensures ∙ ap (λ (x : Opening). x.requests) c.opening.view_is in
    let below = subst (λ (xs : List Candidate). i < length xs) same c.loop-request-test.true in
    let is = c.request-item.is ∙ ap (λ (xs : List Candidate). get_or xs i item) same in
    let set = subst (λ (ss : List (Option Structure)). IsSetOf more (flat_map (next_states t item) ss)) c.deref.ensures.value c.in_ok-states-2.ensures in
    reached-more t o i item states more below is c.loop-request.invariant set (omega arith)

pub returns-clause-formed : goal.returns-clause-formed
returns-clause-formed c =
    subst (λ (ss : List (Option Structure)). All (IsFormedState c.args.tailoring.now) ss) (sym c.from_vec.ensures)
    (reached-formed c.args.tailoring.now c.args.opening.now c.loop-request.request-index c.loop-request.states.items c.requires c.loop-request.invariant)
