use Rattle.std.proofs.Common.{◌≡◌, ◌+◌, FitsSigned, rules, pos, drop, get_or, sym, ap, ◌∙◌}
use Rattle.std.specs.Int.{w128}
use Rattle.std.proofs.lemmas.Int.{to_z-of_z}
use Rattle.std.proofs.lemmas.List.{at_drop_more}
use Rattle.board_state.specs.Values.{with_settings, change_channel, set_channel}
use Rattle.st20_grammar.specs.declared.bodies.Setting.{Setting}
use Rattle.board_state.proofs.channels.Channels.set.Goals as goal

pub loop-setting-preserved : goal.loop-setting-preserved
loop-setting-preserved c =
    let i = c.loop-setting.setting-index in
    let xs = c.args.settings.now in
    let x : Setting = get_or xs i (record { param = 0; value = pos 0 }) in
    let fits : FitsSigned w128 x.value = search rules in
    ap (with_settings (drop (i + 1) xs)) (c.set_one.ensures ∙ ap (λ v. change_channel x.param (set_channel v) c.loop-setting.self) (to_z-of_z w128 x.value fits))
    ∙ sym (at_drop_more (λ ys. with_settings ys c.loop-setting.self) xs i _ c.loop-setting-test.true)
    ∙ c.loop-setting.invariant
