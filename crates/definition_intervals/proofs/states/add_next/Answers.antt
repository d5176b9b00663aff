use Rattle.std.proofs.Common.{◌∷◌, [], List, Option, OnOk, subst}
use Rattle.std.specs.Prelude.{if◌then◌else◌}
use Rattle.std.specs.Option.{option_copied}
use Rattle.std.proofs.lemmas.Result.{on_ok_weaker}
use Rattle.hk_base.specs.declared.types.Structure.{Structure}
use Rattle.report_structures.specs.Effects.{effect}
use Rattle.definition_intervals.specs.States.{agreed_states}
use Rattle.definition_intervals.specs.Findings.{Adds}
use Rattle.definition_intervals.proofs.SetLemmas.{adds-both}
use Rattle.definition_intervals.proofs.states.add_next.Goals as goal

pub returns : goal.returns
returns c =
    let r = c.args.request.now in
    let before = option_copied c.args.before in
    let skipped = if r.certain then [] else before ∷ [] in
    let agreed = agreed_states r.outcome before (effect c.args.tailoring.now r.change before) in
    let old = c.args.states.now.items in
    let middle = c.add_skipped.new.states.items in
    let new = c.add_agreed.new.states.items in
    on_ok_weaker c.add_agreed.result (λ (h : Adds middle new agreed). adds-both old middle new skipped agreed c.in_ok-add_skipped.ensures h)
    (subst (λ (ss : List (Option Structure)). OnOk c.add_agreed.result (Adds middle new ss)) c.in_ok-agreed.ensures c.add_agreed.ensures)
