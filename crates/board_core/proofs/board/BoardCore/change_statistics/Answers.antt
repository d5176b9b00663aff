use Rattle.std.proofs.Common.{sym, ◌∙◌, ap, subst, Ok, ◌+◌}
use Rattle.hk_base.specs.Fit.{IsFit, slot_of}
use Rattle.board_steps.specs.Cores.{Core, next_tag}
use Rattle.board_steps.specs.Steps.{Answers}
use Rattle.board_steps.specs.declared.event.Event.TheVariants.{Work}
use Rattle.board_state.specs.OneByOne.{statistics_change_of}
use Rattle.board_state.specs.Statistics.{Changes}
use Rattle.board_core.specs.Boards.{core_of}
use Rattle.board_core.specs.Effects.{IsToCarry}
use Rattle.board_core.specs.declared.effect.Effect.TheVariants.{ChangeStatistics}
use Rattle.board_core.proofs.CarriedLemmas.{left-first}
use Rattle.board_core.proofs.StatisticsCarriedLemmas.{statistics-finished}
use Rattle.board_core.proofs.board.BoardCore.change_statistics.Goals as goal

pub count_done-requires : goal.count_done-requires
count_done-requires c =
    let b = c.self.inside in
    left-first b.clock b.slot_now b.requests b.structures b.log (ChangeStatistics c.args.change) c.args.draft (subst (λ (x : Core). IsToCarry x (ChangeStatistics c.args.change) c.args.draft) (sym c.self.view_is) c.requires)
    b.requests.waiting c.self.invariant.board.waits

pub invariant_of-self-2 : goal.invariant_of-self-2
invariant_of-self-2 c =
    let b = c.self.inside in
    let t = subst (λ (x : Core). IsToCarry x (ChangeStatistics c.args.change) c.args.draft) (sym c.self.view_is) c.requires in
    let slot = c.next_slot-next_slot.ensures.slot ∙ ap (λ (x : Core). slot_of x.tailoring (next_tag x.clock x.moments) + 1) (sym c.self.view_is) in
    let changes = subst (λ n. Changes (statistics_change_of c.args.change) c.args.draft.last_tag n b.members c.in_ok-members.members) slot c.in_ok-members.ensures in
    (statistics-finished b.clock b.slot_now b.requests b.structures b.log b.channels b.members c.args.draft (subst IsFit c.tailoring.ensures c.widths-fit.ensures.fit)
    (c.requests_are_spelled.ensures.only b.log.tailoring) c.self.invariant c.args.change t c.in_ok-members.members changes c.count_done.new.self c.commit.new.self c.in_ok-count.count
    (record { requests = c.count_done.ensures; log = c.in_ok-count.ensures.ok; count_is = c.in_ok-count.ensures.count })).1

pub returns : goal.returns
returns c =
    let b = c.self.inside in
    let t = subst (λ (x : Core). IsToCarry x (ChangeStatistics c.args.change) c.args.draft) (sym c.self.view_is) c.requires in
    let slot = c.next_slot-next_slot.ensures.slot ∙ ap (λ (x : Core). slot_of x.tailoring (next_tag x.clock x.moments) + 1) (sym c.self.view_is) in
    let changes = subst (λ n. Changes (statistics_change_of c.args.change) c.args.draft.last_tag n b.members c.in_ok-members.members) slot c.in_ok-members.ensures in
    subst (λ (x : Core). Answers x Work (core_of b.clock b.slot_now c.count_done.new.self b.structures c.commit.new.self) (Ok c.in_ok-count.count)) c.self.view_is
    (statistics-finished b.clock b.slot_now b.requests b.structures b.log b.channels b.members c.args.draft (subst IsFit c.tailoring.ensures c.widths-fit.ensures.fit)
    (c.requests_are_spelled.ensures.only b.log.tailoring) c.self.invariant c.args.change t c.in_ok-members.members changes c.count_done.new.self c.commit.new.self c.in_ok-count.count
    (record { requests = c.count_done.ensures; log = c.in_ok-count.ensures.ok; count_is = c.in_ok-count.ensures.count })).0
