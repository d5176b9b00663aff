use Rattle.std.proofs.Common.{sym, subst, Ok}
use Rattle.hk_base.specs.Fit.{IsFit}
use Rattle.board_steps.specs.Cores.{Core}
use Rattle.board_steps.specs.Steps.{Answers}
use Rattle.board_steps.specs.declared.event.Event.TheVariants.{Work}
use Rattle.board_core.specs.Boards.{core_of}
use Rattle.board_core.specs.Effects.{IsToCarry}
use Rattle.board_core.specs.declared.effect.Effect.TheVariants.{Delete}
use Rattle.board_core.proofs.CarriedLemmas.{left-first}
use Rattle.board_core.proofs.FinishedLemmas.{deleted-finished}
use Rattle.board_core.proofs.board.BoardCore.delete.Goals as goal

pub count_done-requires : goal.count_done-requires
count_done-requires c =
    let b = c.self.inside in
    left-first b.clock b.slot_now b.requests b.structures b.log (Delete c.args.key) c.args.draft (subst (λ (x : Core). IsToCarry x (Delete c.args.key) c.args.draft) (sym c.self.view_is) c.requires)
    b.requests.waiting c.self.invariant.board.waits

pub invariant_of-self-2 : goal.invariant_of-self-2
invariant_of-self-2 c =
    let b = c.self.inside in
    let t = subst (λ (x : Core). IsToCarry x (Delete c.args.key) c.args.draft) (sym c.self.view_is) c.requires in
    (deleted-finished b.clock b.slot_now b.requests b.structures b.log b.channels b.members c.args.draft (subst IsFit c.tailoring.ensures c.widths-fit.ensures.fit)
    (c.requests_are_spelled.ensures.only b.log.tailoring) c.self.invariant c.args.key t c.count_done.new.self c.delete.new.self c.commit.new.self c.in_ok-count.count
    (record { requests = c.count_done.ensures; log = c.in_ok-count.ensures.ok; count_is = c.in_ok-count.ensures.count }) c.delete.ensures.changes c.delete.ensures.rising).1

pub returns : goal.returns
returns c =
    let b = c.self.inside in
    let t = subst (λ (x : Core). IsToCarry x (Delete c.args.key) c.args.draft) (sym c.self.view_is) c.requires in
    subst (λ (x : Core). Answers x Work (core_of b.clock b.slot_now c.count_done.new.self c.delete.new.self c.commit.new.self) (Ok c.in_ok-count.count)) c.self.view_is
    (deleted-finished b.clock b.slot_now b.requests b.structures b.log b.channels b.members c.args.draft (subst IsFit c.tailoring.ensures c.widths-fit.ensures.fit)
    (c.requests_are_spelled.ensures.only b.log.tailoring) c.self.invariant c.args.key t c.count_done.new.self c.delete.new.self c.commit.new.self c.in_ok-count.count
    (record { requests = c.count_done.ensures; log = c.in_ok-count.ensures.ok; count_is = c.in_ok-count.ensures.count }) c.delete.ensures.changes c.delete.ensures.rising).0
