use Rattle.std.proofs.Common.{ℕ, List, sym, ap, ◌∙◌, subst, Ok}
use Rattle.hk_base.specs.Fit.{IsFit}
use Rattle.board_steps.specs.Cores.{Core}
use Rattle.board_steps.specs.Steps.{Answers}
use Rattle.board_steps.specs.declared.event.Event.TheVariants.{Work}
use Rattle.board_core.specs.Boards.{core_of}
use Rattle.board_core.specs.Effects.{IsToCarry}
use Rattle.board_core.specs.declared.effect.Effect.TheVariants.{Refused}
use Rattle.board_state.specs.Waiting.{first_refused}
use Rattle.board_core.proofs.CarriedLemmas.{left-first}
use Rattle.board_core.proofs.FinishedLemmas.{refused-finished}
use Rattle.board_core.proofs.board.BoardCore.pass_over.Goals as goal

pub refused_next-requires : goal.refused_next-requires
refused_next-requires c =
    let b = c.self.inside in
    left-first b.clock b.slot_now b.requests b.structures b.log (Refused c.args.refusal) c.args.draft (subst (λ (x : Core). IsToCarry x (Refused c.args.refusal) c.args.draft) (sym c.self.view_is) c.requires) b.requests.waiting c.self.invariant.board.waits

pub count_refused-requires : goal.count_refused-requires
count_refused-requires c =
    let b = c.self.inside in
    left-first b.clock b.slot_now b.requests b.structures b.log (Refused c.args.refusal) c.args.draft (subst (λ (x : Core). IsToCarry x (Refused c.args.refusal) c.args.draft) (sym c.self.view_is) c.requires) b.requests.waiting c.self.invariant.board.waits

pub invariant_of-self-2 : goal.invariant_of-self-2
invariant_of-self-2 c =
    let b = c.self.inside in
    let t = subst (λ (x : Core). IsToCarry x (Refused c.args.refusal) c.args.draft) (sym c.self.view_is) c.requires in
    (refused-finished b.clock b.slot_now b.requests b.structures b.log b.channels b.members c.args.draft (subst IsFit c.tailoring.ensures c.widths-fit.ensures.fit)
    (c.requests_are_spelled.ensures.only b.log.tailoring) c.self.invariant c.args.refusal t c.count_refused.new.self c.commit.new.self c.in_ok-count.count
    (c.count_refused.ensures ∙ ap (λ (ns : List ℕ). record { packets = b.requests.packets; waiting = first_refused ns b.requests.waiting }) c.in_ok-refused.ensures) c.in_ok-count.ensures.ok c.in_ok-count.ensures.count).1

pub returns : goal.returns
returns c =
    let b = c.self.inside in
    let t = subst (λ (x : Core). IsToCarry x (Refused c.args.refusal) c.args.draft) (sym c.self.view_is) c.requires in
    subst (λ (x : Core). Answers x Work (core_of b.clock b.slot_now c.count_refused.new.self b.structures c.commit.new.self) (Ok c.in_ok-count.count)) c.self.view_is
    (refused-finished b.clock b.slot_now b.requests b.structures b.log b.channels b.members c.args.draft (subst IsFit c.tailoring.ensures c.widths-fit.ensures.fit)
    (c.requests_are_spelled.ensures.only b.log.tailoring) c.self.invariant c.args.refusal t c.count_refused.new.self c.commit.new.self c.in_ok-count.count
    (c.count_refused.ensures ∙ ap (λ (ns : List ℕ). record { packets = b.requests.packets; waiting = first_refused ns b.requests.waiting }) c.in_ok-refused.ensures) c.in_ok-count.ensures.ok c.in_ok-count.ensures.count).0
