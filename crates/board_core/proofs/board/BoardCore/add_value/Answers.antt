use Rattle.std.proofs.Common.{◌≤◌, ◌+◌, ◌++◌, ◌∷◌, [], max, Some, OnOk, sym, subst}
use Rattle.hk_base.specs.Fit.{IsFit, greatest_tag}
use Rattle.hk_base.specs.TailoringParts.{TailoringParts}
use Rattle.st03_grammar.specs.declared.bodies.Report03.TheVariants as hk
use Rattle.pus_messages.specs.declared.message.ReportBody.TheVariants.{Hk}
use Rattle.hk_world.specs.declared.moment.Act.TheVariants.{Emitted}
use Rattle.board_steps.specs.Cores.{Core}
use Rattle.board_steps.specs.Plans.{samples_of}
use Rattle.board_core.specs.Boards.{core_of}
use Rattle.board_core.specs.Closing.{IsEndPayload, IsTelling, IsToTell}
use Rattle.board_core.specs.Logs.{IsDrafted, IsWritable}
use Rattle.board_core.specs.Planned.{log_of}
use Rattle.board_core.proofs.EndLemmas.{on-ok, telling-early, telling-more}
use Rattle.board_core.proofs.EndReportLemmas.{value-told}
use Rattle.board_core.proofs.board.BoardCore.add_value.Goals as goal

pub add-requires-clause-writable : goal.add-requires-clause-writable
add-requires-clause-writable c =
    let b = c.self.inside in
    let before : Core = core_of b.clock b.slot_now b.requests b.structures b.log in
    let fit = subst IsFit c.tailoring.ensures c.widths-fit.ensures.fit in
    let only = c.requests_are_spelled.ensures.only b.log.tailoring in
    let t = subst (λ (y : Core). IsToTell y 1 c.args.draft.now) (sym c.self.view_is) c.requires.draft in
    let k = subst (λ (y : Core). IsEndPayload y c.args.key c.in_ok-payload.payload) (sym c.self.view_is) c.in_ok-payload.ensures in
    subst (λ (t : TailoringParts). IsWritable t (Hk (hk.Values c.args.key c.in_ok-payload.payload))) (sym c.tailoring-2.ensures)
    (value-told before fit only c.self.invariant.board.stands.octets c.self.invariant.board.stands.good t.topics c.args.draft.now t.telling c.args.key c.in_ok-payload.payload 0 k).0

pub add-requires-clause-early : goal.add-requires-clause-early
add-requires-clause-early c =
    let b = c.self.inside in
    let before : Core = core_of b.clock b.slot_now b.requests b.structures b.log in
    let t = subst (λ (y : Core). IsToTell y 1 c.args.draft.now) (sym c.self.view_is) c.requires.draft in
    subst (λ (t : TailoringParts). max c.args.draft.now.clock (c.args.draft.now.last_tag + 1) ≤ greatest_tag t) (sym c.tailoring-2.ensures) (telling-early before c.args.draft.now t)

pub returns : goal.returns
returns c = λ topics h.
    let b = c.self.inside in
    let before : Core = core_of b.clock b.slot_now b.requests b.structures b.log in
    let fit = subst IsFit c.tailoring.ensures c.widths-fit.ensures.fit in
    let only = c.requests_are_spelled.ensures.only b.log.tailoring in
    let d = c.args.draft.now in
    let body = Hk (hk.Values c.args.key c.in_ok-payload.payload) in
    let k = subst (λ (y : Core). IsEndPayload y c.args.key c.in_ok-payload.payload) (sym c.self.view_is) c.in_ok-payload.ensures in
    let telling = subst (λ (y : Core). IsTelling y topics d) (sym c.self.view_is) h in
    let g = c.add.ensures (log_of before) (sym c.tailoring-2.ensures) telling.draft in
    subst (λ (y : Core). OnOk c.add.result (IsTelling y (topics ++ samples_of c.args.key ∷ []) c.add.new.self)) c.self.view_is
    (on-ok (IsDrafted (log_of before) d.clock Emitted (Some body) d c.add.new.self) (IsTelling before (topics ++ samples_of c.args.key ∷ []) c.add.new.self)
    (λ q. telling-more before topics (samples_of c.args.key) body d c.add.new.self telling q
    (λ tag e. (value-told before fit only c.self.invariant.board.stands.octets c.self.invariant.board.stands.good topics d telling c.args.key c.in_ok-payload.payload tag k).1)) c.add.result g)
