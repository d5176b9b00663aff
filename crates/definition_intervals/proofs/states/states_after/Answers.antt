use Rattle.std.proofs.Common.{◌∙◌, ◌++◌, List, [], Option, subst, sym, ap, take, flat_map}
use Rattle.hk_base.specs.declared.types.Structure.{Structure}
use Rattle.definition_intervals.specs.States.{next_states}
use Rattle.definition_intervals.specs.Findings.{IsSetOf}
use Rattle.definition_intervals.proofs.SetLemmas.{set-none}
use Rattle.definition_intervals.proofs.ReachLemmas.{pieces-more}
use Rattle.definition_intervals.proofs.states.states_after.Goals as goal

pub loop-state-init : goal.loop-state-init
loop-state-init c = subst (λ (ss : List (Option Structure)). IsSetOf ss []) (sym c.new-after.ensures.items) set-none

pub loop-state-preserved : goal.loop-state-preserved
loop-state-preserved c =
    let next = next_states c.args.tailoring.now c.args.request.now in
    let states = c.args.states.now in
    let i = c.loop-state.state-index in
    let earlier = flat_map next (take i states) in
    let new = c.add_next.new.states.items in
    subst (λ (ss : List (Option Structure)). IsSetOf new ss)
    (ap (λ (s : Option Structure). earlier ++ next s) c.as_ref.ensures.value ∙ sym (pieces-more next states i c.state-item.result c.loop-state-test.true c.state-item.is))
    (c.in_ok-add_next.ensures earlier c.loop-state.invariant)
