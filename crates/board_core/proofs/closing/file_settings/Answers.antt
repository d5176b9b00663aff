use Rattle.std.proofs.Common.{rules, FitsSigned, ℕ, pos, ◌+◌, List, drop, get_or, sym, ◌∙◌, ap, subst}
use Rattle.std.specs.Int.{w128}
use Rattle.std.proofs.lemmas.Int.{to_z-of_z}
use Rattle.std.proofs.lemmas.List.{at_drop_more, drop_more}
use Rattle.st20_grammar.specs.declared.bodies.Setting.{Setting}
use Rattle.board_state.specs.Values.{change_channel, filed_channel}
use Rattle.board_state.specs.declared.channels.Channel.{Channel}
use Rattle.board_core.specs.Closing.{with_filings, AreToFile}
use Rattle.board_core.proofs.closing.file_settings.Goals as goal

pub file-requires : goal.file-requires
file-requires c =
    let i = c.loop-setting.setting-index in
    let xs = c.args.settings.now in
    let d : Setting = record { param = 0; value = pos 0 } in
    (subst (AreToFile c.args.slot c.loop-setting.channels) (drop_more xs i d c.loop-setting-test.true) c.loop-setting.invariant.to_file).0

pub loop-setting-preserved : goal.loop-setting-preserved
loop-setting-preserved c =
    let i = c.loop-setting.setting-index in
    let xs = c.args.settings.now in
    let d : Setting = record { param = 0; value = pos 0 } in
    let lt = c.loop-setting-test.true in
    let x : Setting = get_or xs i (record { param = 0; value = pos 0 }) in
    let fits : FitsSigned w128 x.value = search rules in
    let new = c.file.ensures ∙ ap (λ v. change_channel x.param (filed_channel c.args.slot v) c.loop-setting.channels) (to_z-of_z w128 x.value fits) in
    record {
      left = ap (with_filings c.args.slot (drop (i + 1) xs)) new ∙ sym (at_drop_more (λ ys. with_filings c.args.slot ys c.loop-setting.channels) xs i d lt) ∙ c.loop-setting.invariant.left;
      to_file = subst (λ (cs : List (ℕ × Channel)). AreToFile c.args.slot cs (drop (i + 1) xs)) (sym new)
          (subst (AreToFile c.args.slot c.loop-setting.channels) (drop_more xs i d lt) c.loop-setting.invariant.to_file).1;
    }
