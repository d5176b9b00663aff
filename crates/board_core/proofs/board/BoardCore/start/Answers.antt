use Rattle.std.proofs.Common.{refl, ◌≡◌, ◌∷◌, List, drop, true, sym, subst, ap, ◌∙◌, Ok}
use Rattle.std.specs.Option.{option_copied}
use Rattle.hk_base.specs.Fit.{IsFit}
use Rattle.hk_world.specs.declared.moment.Act.{Act}
use Rattle.hk_world.specs.declared.moment.Act.TheVariants.{Started}
use Rattle.board_steps.specs.Cores.{Core}
use Rattle.board_core.specs.Boards.{core_of, IsWhole}
use Rattle.board_core.specs.Logs.{AnswersOne}
use Rattle.board_steps.specs.Steps.{Answers}
use Rattle.board_state.specs.Waiting.{RequestsHeld, first_started}
use Rattle.board_core.specs.Worked.{IsToStart}
use Rattle.board_steps.specs.declared.event.Event.TheVariants.{Work}
use Rattle.board_state.specs.declared.running.Running.{Running}
use Rattle.board_core.proofs.WholeLemmas.{work-holds}
use Rattle.board_core.proofs.StartLemmas.{start-planned, head-is, no-head, one-waits, started}
use Rattle.board_core.proofs.board.BoardCore.start.Goals as goal

pub unreachable-requires : goal.unreachable-requires
unreachable-requires c =
    let b = c.self.inside in
    let none = no-head b.requests.waiting (sym c.first.ensures.first ∙ ap option_copied c.in_default.is) in
    one-waits (core_of b.clock b.slot_now b.requests b.structures b.log) b.requests.waiting c.self.invariant.board.waits (subst IsToStart (sym c.self.view_is) c.requires) none

pub invariant_of-self : goal.invariant_of-self
invariant_of-self c =
    let b = c.self.inside in
    let w = c.in-Some.running.now in
    let ws = drop 1 b.requests.waiting in
    let waits : b.requests.waiting ≡ w ∷ ws = head-is b.requests.waiting w (sym c.first.ensures.first ∙ ap option_copied c.in-Some.is) in
    let t = subst IsToStart (sym c.self.view_is) c.requires in
    let h = subst (λ (a : Act). AnswersOne b.log b.clock a c.start_of-act.result.1 c.add_one.new.self (Ok c.in-Ok.count)) c.start_of-act.ensures.0 c.in-Ok.ensures in
    let r = started b.clock b.slot_now b.requests b.structures b.log w ws waits (subst IsFit c.tailoring.ensures c.widths-fit.ensures.fit) (c.requests_are_spelled.ensures.only b.log.tailoring) c.self.invariant.board t
    c.start_of-act.result.1 c.start_of-act.ensures.1 c.add_one.new.self c.in-Ok.count h in
    let held : c.start_first.new.self ≡ record { packets = b.requests.packets; waiting = record w { started = true } ∷ ws } =
    c.start_first.ensures ∙ ap (λ (xs : List Running). record { packets = b.requests.packets; waiting = first_started xs }) waits in
    let before : Core = core_of b.clock b.slot_now b.requests b.structures b.log in
    let plans = start-planned b.clock b.slot_now b.requests b.structures b.log w ws waits (subst IsFit c.tailoring.ensures c.widths-fit.ensures.fit) (c.requests_are_spelled.ensures.only b.log.tailoring) c.self.invariant.board t in
    subst (λ (x : RequestsHeld). IsWhole (core_of b.clock b.slot_now x b.structures c.add_one.new.self) x.waiting b.structures b.channels b.members) (sym held)
    (work-holds before (core_of b.clock b.slot_now (record { packets = b.requests.packets; waiting = record w { started = true } ∷ ws }) b.structures c.add_one.new.self) b.requests.waiting (record w { started = true } ∷ ws) b.structures b.channels b.members (Started w.number) plans (λ tag. refl) tt r.0.3 r.1 c.self.invariant)

pub returns-in-Ok : goal.returns-in-Ok
returns-in-Ok c =
    let b = c.self.inside in
    let w = c.in-Some.running.now in
    let ws = drop 1 b.requests.waiting in
    let waits : b.requests.waiting ≡ w ∷ ws = head-is b.requests.waiting w (sym c.first.ensures.first ∙ ap option_copied c.in-Some.is) in
    let t = subst IsToStart (sym c.self.view_is) c.requires in
    let h = subst (λ (a : Act). AnswersOne b.log b.clock a c.start_of-act.result.1 c.add_one.new.self (Ok c.in-Ok.count)) c.start_of-act.ensures.0 c.in-Ok.ensures in
    let r = started b.clock b.slot_now b.requests b.structures b.log w ws waits (subst IsFit c.tailoring.ensures c.widths-fit.ensures.fit) (c.requests_are_spelled.ensures.only b.log.tailoring) c.self.invariant.board t
    c.start_of-act.result.1 c.start_of-act.ensures.1 c.add_one.new.self c.in-Ok.count h in
    let held : c.start_first.new.self ≡ record { packets = b.requests.packets; waiting = record w { started = true } ∷ ws } =
    c.start_first.ensures ∙ ap (λ (xs : List Running). record { packets = b.requests.packets; waiting = first_started xs }) waits in
    subst (λ (x : Core). Answers x Work (core_of b.clock b.slot_now c.start_first.new.self b.structures c.add_one.new.self) (Ok c.in-Ok.count)) c.self.view_is
    (subst (λ (x : RequestsHeld). Answers (core_of b.clock b.slot_now b.requests b.structures b.log) Work (core_of b.clock b.slot_now x b.structures c.add_one.new.self) (Ok c.in-Ok.count)) (sym held) r.0)
