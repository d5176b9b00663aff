use Rattle.definition_intervals.proofs.SetLemmas.{added-new, added-there}
use Rattle.definition_intervals.proofs.states.add_state.Goals as goal

pub returns-in_ok-push : goal.returns-in_ok-push
returns-in_ok-push c =
    added-new c.args.state _ c.args.states.now.items c.deref.result.now c.push.new.self.items c.has_state.result c.as_ref.ensures.value c.deref.ensures.value c.has_state.ensures
    c.if-not-has_state.true c.in_ok-push.ensures.items

pub returns-else-not-has_state : goal.returns-else-not-has_state
returns-else-not-has_state c =
    added-there c.args.state _ c.args.states.now.items c.deref.result.now c.has_state.result c.as_ref.ensures.value c.deref.ensures.value c.has_state.ensures
    c.if-not-has_state.false
