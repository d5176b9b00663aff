use Rattle.std.proofs.Common.{◌≡◌, ◌∙◌, ◌∷◌, [], Bool, false, Option, OnOk, ap, subst, sym}
use Rattle.std.specs.Prelude.{if◌then◌else◌}
use Rattle.std.specs.Option.{option_copied}
use Rattle.hk_base.specs.declared.types.Structure.{Structure}
use Rattle.definition_intervals.specs.Openings.{Candidate}
use Rattle.definition_intervals.specs.Findings.{Adds}
use Rattle.definition_intervals.proofs.states.add_skipped.Goals as goal

pub returns : goal.returns
returns c =
    let uncertain : c.args.request.now.certain ≡ false = ap (λ (r : Candidate). r.certain) (sym c.request.view_is) ∙ c.if-request.false in
    subst (λ (b : Bool). OnOk c.add_state.result (Adds c.args.states.now.items c.add_state.new.states.items (if b then [] else option_copied c.args.before ∷ []))) (sym uncertain)
    (subst (λ (s : Option Structure). OnOk c.add_state.result (Adds c.args.states.now.items c.add_state.new.states.items (s ∷ []))) c.in_ok-copied_state.ensures c.add_state.ensures)
