use Rattle.std.proofs.Common.{arith, ◌≤◌, ◌+◌, ◌++◌, ◌∷◌, [], max, Some, OnOk, sym, ◌∙◌, subst}
use Rattle.std.specs.List.{All}
use Rattle.hk_base.specs.Fit.{IsFit, greatest_tag}
use Rattle.hk_base.specs.TailoringParts.{TailoringParts}
use Rattle.hk_world.specs.declared.moment.Act.TheVariants.{Emitted}
use Rattle.board_steps.specs.Cores.{Core, session}
use Rattle.board_steps.specs.Plans.{statistics}
use Rattle.board_steps.specs.Steps.{IsAbout}
use Rattle.board_state.specs.Statistics.{IsTimely}
use Rattle.board_core.specs.Boards.{core_of}
use Rattle.board_core.specs.Closing.{AreEndStatistics, IsTelling, IsToTell}
use Rattle.board_core.specs.Logs.{IsDrafted, IsWritable, drafted}
use Rattle.board_core.specs.Planned.{log_of}
use Rattle.board_core.specs.Reporting.{IsStatisticsBody}
use Rattle.board_core.proofs.EndLemmas.{on-ok, telling-early, telling-more, telling-tag, filings-time, filings-room}
use Rattle.board_core.proofs.EndReportLemmas.{end-timely, statistics-end}
use Rattle.board_core.proofs.EndTimeLemmas.{greatest-few}
use Rattle.board_core.proofs.board.BoardCore.add_statistics.Goals as goal

pub next_tag-tag-requires : goal.next_tag-tag-requires
next_tag-tag-requires c =
    let b = c.self.inside in
    let fit = subst IsFit c.tailoring-tailoring.ensures c.widths-fit.ensures.fit in
    let t = subst (λ (y : Core). IsToTell y 1 c.args.draft.now) (sym c.self.view_is) c.requires.draft in
    let low = t.telling.draft.fit in
    let few = greatest-few b.log.tailoring fit in
    omega (arith, low, few)

pub statistics_report-requires : goal.statistics_report-requires
statistics_report-requires c =
    let b = c.self.inside in
    let before : Core = core_of b.clock b.slot_now b.requests b.structures b.log in
    let fit = subst IsFit c.tailoring-tailoring.ensures c.widths-fit.ensures.fit in
    let only = c.requests_are_spelled.ensures.only b.log.tailoring in
    let t = subst (λ (y : Core). IsToTell y 1 c.args.draft.now) (sym c.self.view_is) c.requires.draft in
    let x = c.args.members.now in
    let k = subst (λ (y : Core). AreEndStatistics y x) (sym c.self.view_is) c.requires.members in
    subst (λ (t : TailoringParts). All (IsTimely t) x.members) (sym c.tailoring-tailoring.ensures)
    (end-timely before fit only c.self.invariant.board.stands.octets c.self.invariant.board.stands.good t.topics c.args.draft.now t.telling (filings-time before c.args.draft.now t) (filings-room before c.args.draft.now t) x k)

pub add-requires-clause-writable : goal.add-requires-clause-writable
add-requires-clause-writable c =
    let b = c.self.inside in
    let before : Core = core_of b.clock b.slot_now b.requests b.structures b.log in
    let fit = subst IsFit c.tailoring-tailoring.ensures c.widths-fit.ensures.fit in
    let only = c.requests_are_spelled.ensures.only b.log.tailoring in
    let d = c.args.draft.now in
    let t = subst (λ (y : Core). IsToTell y 1 c.args.draft.now) (sym c.self.view_is) c.requires.draft in
    let x = c.args.members.now in
    let k = subst (λ (y : Core). AreEndStatistics y x) (sym c.self.view_is) c.requires.members in
    let q = subst (λ (t : TailoringParts). IsStatisticsBody t x c.next_tag-tag.result c.in_ok-body.body) c.tailoring-tailoring.ensures c.in_ok-body.ensures in
    let le = subst (λ n. n ≤ greatest_tag b.log.tailoring) (sym c.next_tag-tag.ensures) (telling-early before d t) in
    subst (λ (t : TailoringParts). IsWritable t c.in_ok-body.body) (sym c.tailoring-tailoring.ensures)
    (statistics-end before fit only c.self.invariant.board.stands.octets c.self.invariant.board.stands.good t.topics d t.telling (filings-time before d t) (filings-room before d t) x k
    c.next_tag-tag.result c.in_ok-body.body le q).0

pub add-requires-clause-early : goal.add-requires-clause-early
add-requires-clause-early c =
    let b = c.self.inside in
    let before : Core = core_of b.clock b.slot_now b.requests b.structures b.log in
    let d = c.args.draft.now in
    let t = subst (λ (y : Core). IsToTell y 1 c.args.draft.now) (sym c.self.view_is) c.requires.draft in
    subst (λ (t : TailoringParts). max d.clock (d.last_tag + 1) ≤ greatest_tag t) (sym c.tailoring-tailoring.ensures) (telling-early before d t)

pub returns : goal.returns
returns c = λ topics h.
    let b = c.self.inside in
    let before : Core = core_of b.clock b.slot_now b.requests b.structures b.log in
    let fit = subst IsFit c.tailoring-tailoring.ensures c.widths-fit.ensures.fit in
    let only = c.requests_are_spelled.ensures.only b.log.tailoring in
    let d = c.args.draft.now in
    let t = subst (λ (y : Core). IsToTell y 1 c.args.draft.now) (sym c.self.view_is) c.requires.draft in
    let x = c.args.members.now in
    let k = subst (λ (y : Core). AreEndStatistics y x) (sym c.self.view_is) c.requires.members in
    let q = subst (λ (t : TailoringParts). IsStatisticsBody t x c.next_tag-tag.result c.in_ok-body.body) c.tailoring-tailoring.ensures c.in_ok-body.ensures in
    let le = subst (λ n. n ≤ greatest_tag b.log.tailoring) (sym c.next_tag-tag.ensures) (telling-early before d t) in
    let telling = subst (λ (y : Core). IsTelling y topics d) (sym c.self.view_is) h in
    let g = c.add.ensures (log_of before) (sym c.tailoring-tailoring.ensures) telling.draft in
    let told = statistics-end before fit only c.self.invariant.board.stands.octets c.self.invariant.board.stands.good topics d telling (filings-time before d t) (filings-room before d t) x k
    c.next_tag-tag.result c.in_ok-body.body le q in
    subst (λ (y : Core). OnOk c.add.result (IsTelling y (topics ++ statistics ∷ []) c.add.new.self)) c.self.view_is
    (on-ok (IsDrafted (log_of before) d.clock Emitted (Some c.in_ok-body.body) d c.add.new.self) (IsTelling before (topics ++ statistics ∷ []) c.add.new.self)
    (λ p. telling-more before topics statistics c.in_ok-body.body d c.add.new.self telling p
    (λ tag e. subst (λ n. IsAbout (session before) b.slot_now (drafted (log_of before) d.moments.items) n statistics c.in_ok-body.body) (c.next_tag-tag.ensures ∙ telling-tag before topics d telling ∙ sym e) told.1)) c.add.result g)
