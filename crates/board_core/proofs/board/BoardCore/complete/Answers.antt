use Rattle.std.proofs.Common.{refl, ◌≡◌, ◌∷◌, ◌≤◌, length, drop, sym, subst, ap, ◌∙◌, Ok, Err, IfSome, Option}
use Rattle.std.specs.Option.{option_copied}
use Rattle.hk_base.specs.Fit.{IsFit}
use Rattle.pus_messages.specs.declared.message.ReportBody.{ReportBody}
use Rattle.pus_messages.specs.Instructions.{instructions}
use Rattle.hk_world.specs.declared.moment.Act.{Act}
use Rattle.hk_world.specs.declared.moment.Act.TheVariants.{Completed}
use Rattle.board_steps.specs.Cores.{Core}
use Rattle.board_core.specs.Boards.{core_of, IsWhole}
use Rattle.board_core.specs.Logs.{AnswersOne, IsWritable}
use Rattle.board_steps.specs.Steps.{Answers}
use Rattle.board_state.specs.Waiting.{RequestsHeld}
use Rattle.board_core.specs.Worked.{IsToComplete}
use Rattle.board_steps.specs.declared.event.Event.TheVariants.{Work}
use Rattle.board_core.proofs.StartLemmas.{head-is, no-head}
use Rattle.board_core.proofs.WholeLemmas.{work-holds}
use Rattle.board_core.proofs.CompleteLemmas.{completion-planned, ending-waits, written, completed, not-completed}
use Rattle.board_core.proofs.board.BoardCore.complete.Goals as goal

pub unreachable-requires : goal.unreachable-requires
unreachable-requires c =
    let b = c.self.inside in
    let none = no-head b.requests.waiting (sym c.first.ensures.first ∙ ap option_copied c.in_default.is) in
    ending-waits (core_of b.clock b.slot_now b.requests b.structures b.log) b.requests.waiting c.self.invariant.board.waits (subst IsToComplete (sym c.self.view_is) c.requires) none

pub add_one-requires : goal.add_one-requires
add_one-requires c =
    let b = c.self.inside in
    let w = c.in-Some.running.now in
    let ws = drop 1 b.requests.waiting in
    let waits : b.requests.waiting ≡ w ∷ ws = head-is b.requests.waiting w (sym c.first.ensures.first ∙ ap option_copied c.in-Some.is) in
    let t = subst IsToComplete (sym c.self.view_is) c.requires in
    let fit = subst IsFit c.tailoring.ensures c.widths-fit.ensures.fit in
    let only = c.requests_are_spelled.ensures.only b.log.tailoring in
    let few = subst (λ x. IfSome x (λ v. length (instructions v.now.request) ≤ 255)) c.in-Some.is c.first.ensures.few in
    let can = written b.clock b.slot_now b.requests b.structures b.log w ws waits fit only c.self.invariant.board t few in
    record { writable = subst (λ (x : Option ReportBody). IfSome x (IsWritable b.log.tailoring)) (sym c.in_ok-act.ensures.1) can }

pub invariant_of-self : goal.invariant_of-self
invariant_of-self c =
    let b = c.self.inside in
    let w = c.in-Some.running.now in
    let ws = drop 1 b.requests.waiting in
    let waits : b.requests.waiting ≡ w ∷ ws = head-is b.requests.waiting w (sym c.first.ensures.first ∙ ap option_copied c.in-Some.is) in
    let t = subst IsToComplete (sym c.self.view_is) c.requires in
    let fit = subst IsFit c.tailoring.ensures c.widths-fit.ensures.fit in
    let only = c.requests_are_spelled.ensures.only b.log.tailoring in
    let told = c.in_ok-act.ensures in
    let g = subst (λ (a : Act). AnswersOne b.log b.clock a c.in_ok-act.report c.add_one.new.self (Ok c.in-Ok.count)) told.0 c.in-Ok.ensures in
    let h = subst (λ x. AnswersOne b.log b.clock (Completed w.number w.refused) x c.add_one.new.self (Ok c.in-Ok.count)) told.1 g in
    let r = completed b.clock b.slot_now b.requests b.structures b.log w ws waits fit only c.self.invariant.board t c.add_one.new.self c.in-Ok.count h in
    let held : c.end_first.new.self ≡ record { packets = b.requests.packets; waiting = ws } = c.end_first.ensures in
    let before : Core = core_of b.clock b.slot_now b.requests b.structures b.log in
    let plans = completion-planned b.clock b.slot_now b.requests b.structures b.log w ws waits fit only c.self.invariant.board t in
    subst (λ (x : RequestsHeld). IsWhole (core_of b.clock b.slot_now x b.structures c.add_one.new.self) x.waiting b.structures b.channels b.members) (sym held)
    (work-holds before (core_of b.clock b.slot_now (record { packets = b.requests.packets; waiting = ws }) b.structures c.add_one.new.self) b.requests.waiting ws b.structures b.channels b.members (Completed w.number w.refused) plans (λ tag. refl) tt r.0.3 r.1 c.self.invariant)

pub returns-in-Ok : goal.returns-in-Ok
returns-in-Ok c =
    let b = c.self.inside in
    let w = c.in-Some.running.now in
    let ws = drop 1 b.requests.waiting in
    let waits : b.requests.waiting ≡ w ∷ ws = head-is b.requests.waiting w (sym c.first.ensures.first ∙ ap option_copied c.in-Some.is) in
    let t = subst IsToComplete (sym c.self.view_is) c.requires in
    let fit = subst IsFit c.tailoring.ensures c.widths-fit.ensures.fit in
    let only = c.requests_are_spelled.ensures.only b.log.tailoring in
    let told = c.in_ok-act.ensures in
    let g = subst (λ (a : Act). AnswersOne b.log b.clock a c.in_ok-act.report c.add_one.new.self (Ok c.in-Ok.count)) told.0 c.in-Ok.ensures in
    let h = subst (λ x. AnswersOne b.log b.clock (Completed w.number w.refused) x c.add_one.new.self (Ok c.in-Ok.count)) told.1 g in
    let r = completed b.clock b.slot_now b.requests b.structures b.log w ws waits fit only c.self.invariant.board t c.add_one.new.self c.in-Ok.count h in
    let held : c.end_first.new.self ≡ record { packets = b.requests.packets; waiting = ws } = c.end_first.ensures in
    subst (λ (x : Core). Answers x Work (core_of b.clock b.slot_now c.end_first.new.self b.structures c.add_one.new.self) (Ok c.in-Ok.count)) c.self.view_is
    (subst (λ (x : RequestsHeld). Answers (core_of b.clock b.slot_now b.requests b.structures b.log) Work (core_of b.clock b.slot_now x b.structures c.add_one.new.self) (Ok c.in-Ok.count)) (sym held) r.0)

pub returns-in-Err : goal.returns-in-Err
returns-in-Err c =
    let b = c.self.inside in
    let w = c.in-Some.running.now in
    let ws = drop 1 b.requests.waiting in
    let waits : b.requests.waiting ≡ w ∷ ws = head-is b.requests.waiting w (sym c.first.ensures.first ∙ ap option_copied c.in-Some.is) in
    let t = subst IsToComplete (sym c.self.view_is) c.requires in
    let fit = subst IsFit c.tailoring.ensures c.widths-fit.ensures.fit in
    let only = c.requests_are_spelled.ensures.only b.log.tailoring in
    let told = c.in_ok-act.ensures in
    let g = subst (λ (a : Act). AnswersOne b.log b.clock a c.in_ok-act.report c.add_one.new.self (Err c.in-Err.fault)) told.0 c.in-Err.ensures in
    let h = subst (λ x. AnswersOne b.log b.clock (Completed w.number w.refused) x c.add_one.new.self (Err c.in-Err.fault)) told.1 g in
    let r = not-completed b.clock b.slot_now b.requests b.structures b.log w ws waits fit only c.self.invariant.board t c.in-Err.fault c.add_one.new.self h in
    subst (λ (x : Core). Answers x Work (core_of b.clock b.slot_now b.requests b.structures c.add_one.new.self) (Err c.in-Err.fault)) c.self.view_is r.0
