use Rattle.std.proofs.Common.{◌≡◌, ◌∙◌, ◌+◌, drop, sym, ap, subst, Bor, Option, None, Some}
use Rattle.std.specs.Option.{option_copied}
use Rattle.std.specs.Prelude.{filter_map}
use Rattle.std.specs.List.{cons_option}
use Rattle.hk_base.specs.declared.types.Definition.{Definition}
use Rattle.hk_base.specs.declared.types.Structure.{Structure}
use Rattle.definition_intervals.specs.Verdicts.{explanation, verdict_by}
use Rattle.definition_intervals.proofs.AgreementLemmas.{agreed-step, unexplained-step}
use Rattle.definition_intervals.proofs.deciding.verdict_among.Goals as goal
use Rattle.definition_intervals.proofs.deciding.verdict_among.Goals.{in-Some+else-not-agrees, in_default}

pub loop-state-preserved : goal.loop-state-preserved
loop-state-preserved c =
    let explain = explanation c.args.tailoring.now c.args.tag c.args.payload.now in
    let states = c.args.states.now in
    let i = c.loop-state.state-index in
    let state = c.state-item.result in
    let only = option_copied c.loop-state.only in
    let k = c.args.number in
    let v = verdict_by (filter_map explain states) k in
    let told = c.in_ok-def.ensures ∙ ap (λ (s : Option Structure). explain s) c.as_ref.ensures.value in
    elim c.match-branch-2.branch [
      | in-Some+else-not-agrees w ↦
          let d = w.in-Some.def.now in
          let some : explain state ≡ Some d = sym told ∙ ap (λ (o : Option (Bor Definition)). option_copied o) w.in-Some.is in
          subst (λ (o : Option (Bor Definition)). verdict_by (cons_option (option_copied o) (filter_map explain (drop (i + 1) states))) k ≡ v) (sym w.only-is)
          (agreed-step explain states i state only d k v c.loop-state-test.true c.state-item.is some (sym w.agrees.ensures ∙ w.if-not-agrees.false) c.loop-state.invariant)
      | in_default w ↦
          let none : explain state ≡ None = sym told ∙ ap (λ (o : Option (Bor Definition)). option_copied o) w.in_default.is in
          subst (λ (o : Option (Bor Definition)). verdict_by (cons_option (option_copied o) (filter_map explain (drop (i + 1) states))) k ≡ v) (sym w.only-is)
          (unexplained-step explain states i state only k v c.loop-state-test.true c.state-item.is none c.loop-state.invariant)
    ]
