use Rattle.std.proofs.Common.{ℕ, refl, sym, subst, Ok, Some}
use Rattle.hk_base.specs.Fit.{IsFit}
use Rattle.board_steps.specs.Cores.{Core}
use Rattle.board_steps.specs.Steps.{Answers}
use Rattle.board_steps.specs.declared.event.Event.TheVariants.{Work}
use Rattle.board_core.specs.Boards.{core_of}
use Rattle.board_core.specs.Effects.{IsToCarry}
use Rattle.std.specs.Prelude.{◌+◌}
use Rattle.hk_base.specs.Fit.{slot_of}
use Rattle.board_steps.specs.Cores.{next_tag}
use Rattle.board_state.specs.Holdings.{ChangesAt, new_held}
use Rattle.board_core.specs.declared.effect.Effect.TheVariants.{Create}
use Rattle.board_core.proofs.CarriedLemmas.{left-first}
use Rattle.board_core.proofs.FinishedLemmas.{created-finished, created-absent, taken-back}
use Rattle.board_core.proofs.board.BoardCore.create.Goals as goal

pub count_done-requires : goal.count_done-requires
count_done-requires c =
    let b = c.self.inside in
    left-first b.clock b.slot_now b.requests b.structures b.log (Create c.args.key c.args.structure) c.args.draft (subst (λ (x : Core). IsToCarry x (Create c.args.key c.args.structure) c.args.draft) (sym c.self.view_is) c.requires) b.requests.waiting c.self.invariant.board.waits

pub invariant_of-self-in-Ok : goal.invariant_of-self-in-Ok
invariant_of-self-in-Ok c =
    let b = c.self.inside in
    let t = subst (λ (x : Core). IsToCarry x (Create c.args.key c.args.structure) c.args.draft) (sym c.self.view_is) c.requires in
    (created-finished b.clock b.slot_now b.requests b.structures b.log b.channels b.members c.args.draft (subst IsFit c.tailoring.ensures c.widths-fit.ensures.fit)
    (c.requests_are_spelled.ensures.only b.log.tailoring) c.self.invariant c.args.key c.args.structure t c.count_done.new.self c.create.new.self c.commit.new.self c.in-Ok.count
    (record { requests = c.count_done.ensures; log = c.in-Ok.ensures.ok; count_is = c.in-Ok.ensures.count })
    (subst (λ (x : Core). ChangesAt c.args.key (Some (new_held c.args.structure (slot_of x.tailoring (next_tag x.clock x.moments) + 1))) b.structures c.create.new.self) (sym c.self.view_is)
    (subst (λ (n : ℕ). ChangesAt c.args.key (Some (new_held c.args.structure n)) b.structures c.create.new.self) c.next_slot-first_slot.ensures.slot c.in_ok-create.ensures.ok)) c.in_ok-create.ensures.rising).1

pub invariant_of-self-in-Err : goal.invariant_of-self-in-Err
invariant_of-self-in-Err c =
    let b = c.self.inside in
    let t = subst (λ (x : Core). IsToCarry x (Create c.args.key c.args.structure) c.args.draft) (sym c.self.view_is) c.requires in
    let none = created-absent b.clock b.slot_now b.requests b.structures b.log b.channels b.members c.args.draft (subst IsFit c.tailoring.ensures c.widths-fit.ensures.fit)
    (c.requests_are_spelled.ensures.only b.log.tailoring) c.self.invariant c.args.key c.args.structure t in
    taken-back b.clock b.slot_now b.requests b.structures b.log b.channels b.members c.args.draft (subst IsFit c.tailoring.ensures c.widths-fit.ensures.fit)
    (c.requests_are_spelled.ensures.only b.log.tailoring) c.self.invariant c.args.key (new_held c.args.structure c.next_slot-first_slot.result) c.create.new.self c.delete.new.self c.commit.new.self none refl
    c.in_ok-create.ensures.ok c.delete.ensures.changes c.delete.ensures.rising c.in_ok-create.ensures.one_shots c.delete.ensures.one_shots c.in-Err.ensures.err

pub returns-in-Ok : goal.returns-in-Ok
returns-in-Ok c =
    let b = c.self.inside in
    let t = subst (λ (x : Core). IsToCarry x (Create c.args.key c.args.structure) c.args.draft) (sym c.self.view_is) c.requires in
    subst (λ (x : Core). Answers x Work (core_of b.clock b.slot_now c.count_done.new.self c.create.new.self c.commit.new.self) (Ok c.in-Ok.count)) c.self.view_is
    (created-finished b.clock b.slot_now b.requests b.structures b.log b.channels b.members c.args.draft (subst IsFit c.tailoring.ensures c.widths-fit.ensures.fit)
    (c.requests_are_spelled.ensures.only b.log.tailoring) c.self.invariant c.args.key c.args.structure t c.count_done.new.self c.create.new.self c.commit.new.self c.in-Ok.count
    (record { requests = c.count_done.ensures; log = c.in-Ok.ensures.ok; count_is = c.in-Ok.ensures.count })
    (subst (λ (x : Core). ChangesAt c.args.key (Some (new_held c.args.structure (slot_of x.tailoring (next_tag x.clock x.moments) + 1))) b.structures c.create.new.self) (sym c.self.view_is)
    (subst (λ (n : ℕ). ChangesAt c.args.key (Some (new_held c.args.structure n)) b.structures c.create.new.self) c.next_slot-first_slot.ensures.slot c.in_ok-create.ensures.ok)) c.in_ok-create.ensures.rising).0
