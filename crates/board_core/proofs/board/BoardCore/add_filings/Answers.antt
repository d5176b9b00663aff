use Rattle.std.proofs.Common.{rules, FitsSigned, refl, ◌≡◌, ◌≤◌, ◌+◌, [], map, take, length, max, get_or, pos, None, sym, subst}
use Rattle.std.specs.Int.{w128}
use Rattle.std.proofs.lemmas.Int.{to_z-of_z}
use Rattle.hk_base.specs.Fit.{greatest_tag}
use Rattle.hk_base.specs.TailoringParts.{TailoringParts}
use Rattle.st20_grammar.specs.declared.bodies.Setting.{Setting}
use Rattle.hk_world.specs.declared.moment.Act.TheVariants.{Filed}
use Rattle.board_steps.specs.Cores.{Core}
use Rattle.board_core.specs.Boards.{core_of}
use Rattle.board_core.specs.Closing.{end_settings, filing_of, IsDraftedTo, IsTelling, HasTime}
use Rattle.board_core.specs.Logs.{IsDrafted}
use Rattle.board_core.specs.Planned.{log_of}
use Rattle.board_core.proofs.EndCallLemmas.{filing-early, filing-more, filings-all}
use Rattle.board_core.proofs.board.BoardCore.add_filings.Goals as goal

pub add-requires-clause-early : goal.add-requires-clause-early
add-requires-clause-early c =
    let b = c.self.inside in
    let before : Core = core_of b.clock b.slot_now b.requests b.structures b.log in
    let i = c.loop-setting.setting-index in
    let xs = c.args.settings.now in
    let d = c.loop-setting.draft in
    let inv = subst (λ (y : Core). IsDraftedTo y (map (filing_of y.slot_now) (take i xs)) d) (sym c.self.view_is) c.loop-setting.invariant in
    let left = subst (λ (y : Core). HasTime y (length xs)) (sym c.self.view_is) c.requires.left in
    subst (λ (t : TailoringParts). max d.clock (d.last_tag + 1) ≤ greatest_tag t) (sym c.tailoring-in-loop-setting.ensures)
    (filing-early before xs i d c.loop-setting-test.true inv left)

pub loop-setting-preserved : goal.loop-setting-preserved
loop-setting-preserved c =
    let b = c.self.inside in
    let before : Core = core_of b.clock b.slot_now b.requests b.structures b.log in
    let i = c.loop-setting.setting-index in
    let xs = c.args.settings.now in
    let d = c.loop-setting.draft in
    let x : Setting = get_or xs i (record { param = 0; value = pos 0 }) in
    let fits : FitsSigned w128 x.value = search rules in
    let inv = subst (λ (y : Core). IsDraftedTo y (map (filing_of y.slot_now) (take i xs)) d) (sym c.self.view_is) c.loop-setting.invariant in
    let added = c.in_ok-add.ensures (log_of before) (sym c.tailoring-in-loop-setting.ensures) inv.draft in
    let filed = subst (λ v. IsDrafted (log_of before) d.clock (Filed x.param b.slot_now v) None d c.add.new.self) (to_z-of_z w128 x.value fits) added in
    subst (λ (y : Core). IsDraftedTo y (map (filing_of y.slot_now) (take (i + 1) xs)) c.add.new.self) c.self.view_is
    (filing-more before xs i (record { param = 0; value = pos 0 }) x d c.add.new.self c.loop-setting-test.true refl inv filed)

pub returns : goal.returns
returns c =
    let b = c.self.inside in
    let before : Core = core_of b.clock b.slot_now b.requests b.structures b.log in
    let i = c.loop-setting.setting-index in
    let xs = c.args.settings.now in
    let inv = subst (λ (y : Core). IsDraftedTo y (map (filing_of y.slot_now) (take i xs)) c.loop-setting.draft) (sym c.self.view_is) c.loop-setting.invariant in
    let settings = subst (λ (y : Core). xs ≡ end_settings y) (sym c.self.view_is) c.requires.settings in
    subst (λ (y : Core). IsTelling y [] c.loop-setting.draft) c.self.view_is
    (filings-all before xs i c.loop-setting.draft c.loop-setting-test.false settings inv)
