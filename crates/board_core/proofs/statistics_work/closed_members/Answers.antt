use Rattle.std.proofs.Common.{arith, ◌≡◌, ◌+◌, take, get_or, sym, subst, pos, FitsSigned}
use Rattle.std.specs.Int.{w128}
use Rattle.std.specs.List.{AllByRecursion}
use Rattle.std.proofs.lemmas.Int.{to_z-of_z}
use Rattle.std.proofs.lemmas.List.{take_more, take_all}
use Rattle.statistics.specs.Summaries.{sample}
use Rattle.st20_grammar.specs.declared.bodies.Setting.{Setting}
use Rattle.board_state.specs.Statistics.{StatisticsHeld}
use Rattle.board_core.specs.Reporting.{FilesAll, HasAtMost}
use Rattle.board_core.proofs.StatisticsClosingLemmas.{files-last, all-one-more, all-room, sample-fits}
use Rattle.board_core.proofs.statistics_work.closed_members.Goals as goal

pub file-requires-clause-value : goal.file-requires-clause-value
file-requires-clause-value c =
    let x : Setting = get_or c.args.settings.now c.loop-setting.setting-index (record { param = 0; value = pos 0 }) in
    let value = c.requires.values c.loop-setting.setting-index (record { param = 0; value = pos 0 }) c.loop-setting-test.true in
    let fits : FitsSigned w128 x.value = sample-fits x.value value in
    simp to_z-of_z value

pub file-requires-clause-room : goal.file-requires-clause-room
file-requires-clause-room c =
    let lt = c.loop-setting-test.true in
    let few = c.requires.few in
    all-room (1048576 + c.loop-setting.setting-index) c.loop-setting.closed.members (omega (arith, lt, few)) c.loop-setting.invariant.room

pub loop-setting-preserved : goal.loop-setting-preserved
loop-setting-preserved c =
    let i = c.loop-setting.setting-index in
    let lt = c.loop-setting-test.true in
    let d : Setting = record { param = 0; value = pos 0 } in
    let x : Setting = get_or c.args.settings.now i (record { param = 0; value = pos 0 }) in
    let value = c.requires.values i (record { param = 0; value = pos 0 }) lt in
    let fits : FitsSigned w128 x.value = sample-fits x.value value in
    let filed = simp to_z-of_z at c.file.ensures in
    let e : 1048576 + i + 1 ≡ 1048576 + (i + 1) = omega arith in
    record {
      files = subst (λ l. FilesAll c.args.slot l c.in_ok-closed.closed c.file.new.self) (sym (take_more c.args.settings.now i d lt))
          (files-last c.args.slot (take i c.args.settings.now) x c.in_ok-closed.closed c.loop-setting.closed c.file.new.self c.loop-setting.invariant.files filed);
      room = subst (λ n. AllByRecursion (HasAtMost n) c.file.new.self.members) e
          (all-one-more (1048576 + i) x.param (sample c.args.slot x.value) c.loop-setting.closed.members c.file.new.self.members c.loop-setting.invariant.room filed.0);
    }

pub returns : goal.returns
returns c =
    let all : take c.loop-setting.setting-index c.args.settings.now ≡ c.args.settings.now = take_all c.loop-setting.setting-index c.args.settings.now c.loop-setting-test.false in
    subst (λ (o : StatisticsHeld). FilesAll c.args.slot c.args.settings.now o c.loop-setting.closed) c.in_ok-closed.ensures
    (subst (λ l. FilesAll c.args.slot l c.in_ok-closed.closed c.loop-setting.closed) all c.loop-setting.invariant.files)
