use Rattle.std.proofs.Common.{refl, ◌≡◌, ◌∷◌, drop, sym, subst, ap, ◌∙◌, Ok}
use Rattle.std.specs.Option.{option_copied}
use Rattle.hk_base.specs.Fit.{IsFit}
use Rattle.hk_world.specs.declared.moment.Act.{Act}
use Rattle.hk_world.specs.declared.moment.Act.TheVariants.{NotStarted}
use Rattle.board_steps.specs.Cores.{Core}
use Rattle.board_core.specs.Boards.{core_of, IsWhole}
use Rattle.board_core.specs.Logs.{AnswersOne}
use Rattle.board_steps.specs.Steps.{Answers}
use Rattle.board_state.specs.Waiting.{RequestsHeld}
use Rattle.board_core.specs.Worked.{IsToRefuse}
use Rattle.board_steps.specs.declared.event.Event.TheVariants.{Work}
use Rattle.board_core.proofs.StartLemmas.{head-is, no-head}
use Rattle.board_core.proofs.WholeLemmas.{work-holds}
use Rattle.board_core.proofs.RefuseLemmas.{refusal-planned, refused-waits, refused}
use Rattle.board_core.proofs.board.BoardCore.refuse.Goals as goal

pub unreachable-requires : goal.unreachable-requires
unreachable-requires c =
    let b = c.self.inside in
    let none = no-head b.requests.waiting (sym c.first.ensures.first ∙ ap option_copied c.in_default.is) in
    refused-waits (core_of b.clock b.slot_now b.requests b.structures b.log) c.args.refusal b.requests.waiting c.self.invariant.board.waits (subst (λ (x : Core). IsToRefuse x c.args.refusal) (sym c.self.view_is) c.requires) none

pub invariant_of-self : goal.invariant_of-self
invariant_of-self c =
    let b = c.self.inside in
    let w = c.in-Some.running.now in
    let ws = drop 1 b.requests.waiting in
    let waits : b.requests.waiting ≡ w ∷ ws = head-is b.requests.waiting w (sym c.first.ensures.first ∙ ap option_copied c.in-Some.is) in
    let t = subst (λ (x : Core). IsToRefuse x c.args.refusal) (sym c.self.view_is) c.requires in
    let g = subst (λ (a : Act). AnswersOne b.log b.clock a c.refusal_of-act.result.1 c.add_one.new.self (Ok c.in-Ok.count)) c.refusal_of-act.ensures.0 c.in-Ok.ensures in
    let h = subst (λ x. AnswersOne b.log b.clock (NotStarted w.number) x c.add_one.new.self (Ok c.in-Ok.count)) c.refusal_of-act.ensures.1 g in
    let r = refused b.clock b.slot_now b.requests b.structures b.log w ws waits c.args.refusal (subst IsFit c.tailoring.ensures c.widths-fit.ensures.fit) (c.requests_are_spelled.ensures.only b.log.tailoring) c.self.invariant.board t
    c.add_one.new.self c.in-Ok.count h in
    let before : Core = core_of b.clock b.slot_now b.requests b.structures b.log in
    let plans = refusal-planned b.clock b.slot_now b.requests b.structures b.log w ws waits c.args.refusal (subst IsFit c.tailoring.ensures c.widths-fit.ensures.fit) (c.requests_are_spelled.ensures.only b.log.tailoring) c.self.invariant.board t in
    subst (λ (x : RequestsHeld). IsWhole (core_of b.clock b.slot_now x b.structures c.add_one.new.self) x.waiting b.structures b.channels b.members) (sym c.end_first.ensures)
    (work-holds before (core_of b.clock b.slot_now (record { packets = b.requests.packets; waiting = ws }) b.structures c.add_one.new.self) b.requests.waiting ws b.structures b.channels b.members (NotStarted w.number) plans (λ tag. refl) tt r.0.3 r.1 c.self.invariant)

pub returns-in-Ok : goal.returns-in-Ok
returns-in-Ok c =
    let b = c.self.inside in
    let w = c.in-Some.running.now in
    let ws = drop 1 b.requests.waiting in
    let waits : b.requests.waiting ≡ w ∷ ws = head-is b.requests.waiting w (sym c.first.ensures.first ∙ ap option_copied c.in-Some.is) in
    let t = subst (λ (x : Core). IsToRefuse x c.args.refusal) (sym c.self.view_is) c.requires in
    let g = subst (λ (a : Act). AnswersOne b.log b.clock a c.refusal_of-act.result.1 c.add_one.new.self (Ok c.in-Ok.count)) c.refusal_of-act.ensures.0 c.in-Ok.ensures in
    let h = subst (λ x. AnswersOne b.log b.clock (NotStarted w.number) x c.add_one.new.self (Ok c.in-Ok.count)) c.refusal_of-act.ensures.1 g in
    let r = refused b.clock b.slot_now b.requests b.structures b.log w ws waits c.args.refusal (subst IsFit c.tailoring.ensures c.widths-fit.ensures.fit) (c.requests_are_spelled.ensures.only b.log.tailoring) c.self.invariant.board t
    c.add_one.new.self c.in-Ok.count h in
    subst (λ (x : Core). Answers x Work (core_of b.clock b.slot_now c.end_first.new.self b.structures c.add_one.new.self) (Ok c.in-Ok.count)) c.self.view_is
    (subst (λ (x : RequestsHeld). Answers (core_of b.clock b.slot_now b.requests b.structures b.log) Work (core_of b.clock b.slot_now x b.structures c.add_one.new.self) (Ok c.in-Ok.count)) (sym c.end_first.ensures) r.0)
