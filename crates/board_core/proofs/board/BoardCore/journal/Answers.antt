use Rattle.std.proofs.Common.{subst}
use Rattle.hk_base.specs.Fit.{IsFit}
use Rattle.hk_world.specs.Honest.{IsHonest}
use Rattle.hk_world.specs.Legal.{IsLegal}
use Rattle.board_steps.specs.Added.{IsJournal}
use Rattle.board_steps.specs.Cores.{Core, session}
use Rattle.board_steps.specs.Timeline.{Stands}
use Rattle.board_steps.proofs.TimeLemmas.{timeline-legal, timeline-honest}
use Rattle.board_core.specs.Boards.{core_of}
use Rattle.board_core.proofs.board.BoardCore.journal.Goals as goal

pub returns-clause-bounds : goal.returns-clause-bounds
returns-clause-bounds c =
    let b = c.self.inside in
    subst (λ (x : Core). IsJournal x) c.self.view_is
    (c.journals.ensures.stands (core_of b.clock b.slot_now b.requests b.structures b.log) (subst IsFit c.tailoring.ensures c.widths-fit.ensures.fit) c.self.invariant.board.stands)

pub returns-clause-stands : goal.returns-clause-stands
returns-clause-stands c = subst Stands c.self.view_is c.self.invariant.board.stands

pub returns-clause-legal : goal.returns-clause-legal
returns-clause-legal c =
    let b = c.self.inside in
    let x : Core = core_of b.clock b.slot_now b.requests b.structures b.log in
    subst (λ (y : Core). IsLegal (session y) y.moments) c.self.view_is (timeline-legal (session x) x.moments c.self.invariant.board.stands.good.timeline)

pub returns-clause-honest : goal.returns-clause-honest
returns-clause-honest c =
    let b = c.self.inside in
    let x : Core = core_of b.clock b.slot_now b.requests b.structures b.log in
    subst (λ (y : Core). IsHonest (session y) y.moments) c.self.view_is (timeline-honest (session x) x.moments c.self.invariant.board.stands.good.timeline)
