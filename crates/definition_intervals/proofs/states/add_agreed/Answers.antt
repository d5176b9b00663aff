use Rattle.std.proofs.Common.{Option, OnOk, option_to_list, subst, sym}
use Rattle.hk_base.specs.declared.types.Structure.{Structure}
use Rattle.definition_intervals.specs.Findings.{Adds}
use Rattle.definition_intervals.proofs.states.add_agreed.Goals as goal

pub returns-in-Some : goal.returns-in-Some
returns-in-Some c =
    subst (λ (o : Option (Option Structure)). OnOk c.add_state.result (Adds c.args.states.now.items c.add_state.new.states.items (option_to_list o)))
    (sym c.in-Some.is) c.add_state.ensures
