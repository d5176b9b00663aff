use Rattle.std.proofs.Common.{◌≡◌, ◌∷◌, drop, sym, ◌∙◌, ap, subst, Ok}
use Rattle.std.specs.Option.{option_copied}
use Rattle.board_steps.specs.Cores.{Core, session}
use Rattle.board_core.specs.Boards.{core_of}
use Rattle.board_steps.specs.Steps.{Answers}
use Rattle.board_state.specs.Waiting.{AreWaiting}
use Rattle.board_core.specs.Worked.{IsToComplete, IsToExecute, IsUnbegun}
use Rattle.board_steps.specs.declared.event.Event.TheVariants.{Work}
use Rattle.board_core.proofs.StartLemmas.{head-is, no-head}
use Rattle.board_core.proofs.WorkingLemmas.{none-waits, to-complete, to-execute}
use Rattle.board_core.proofs.board.BoardCore.work.Goals as goal

pub returns-in_default : goal.returns-in_default
returns-in_default c =
    let b = c.self.inside in
    let before : Core = core_of b.clock b.slot_now b.requests b.structures b.log in
    let none = no-head b.requests.waiting (sym c.first.ensures.first ∙ ap option_copied c.in_default.is) in
    subst (λ (x : Core). Answers x Work x (Ok 0)) c.self.view_is
    (none-waits before (subst (AreWaiting (session before) before.moments) none c.self.invariant.board.waits) c.self.invariant.board.room)

pub only_refusal-requires-clause-unbegun : goal.only_refusal-requires-clause-unbegun
only_refusal-requires-clause-unbegun c =
    let b = c.self.inside in
    let before : Core = core_of b.clock b.slot_now b.requests b.structures b.log in
    let w = c.in-Some.running.now in
    let waits : b.requests.waiting ≡ w ∷ drop 1 b.requests.waiting = head-is b.requests.waiting w (sym c.first.ensures.first ∙ ap option_copied c.in-Some.is) in
    subst (λ (x : Core). IsUnbegun x w) c.self.view_is
    (record {
      others = drop 1 b.requests.waiting;
      waits = subst (AreWaiting (session before) before.moments) waits c.self.invariant.board.waits;
      unbegun = c.if-not-running.true;
    })

pub complete-requires : goal.complete-requires
complete-requires c =
    let b = c.self.inside in
    let before : Core = core_of b.clock b.slot_now b.requests b.structures b.log in
    let w = c.in-Some.running.now in
    let ws = drop 1 b.requests.waiting in
    let waits : b.requests.waiting ≡ w ∷ ws = head-is b.requests.waiting w (sym c.first.ensures.first ∙ ap option_copied c.in-Some.is) in
    subst IsToComplete c.self.view_is
    (to-complete before w ws (c.requests_are_spelled.ensures.only b.log.tailoring) c.self.invariant.board.stands
    (subst (AreWaiting (session before) before.moments) waits c.self.invariant.board.waits) c.if-not-running.false (sym c.is_executed.ensures ∙ c.if-is_executed.true))

pub execute-requires : goal.execute-requires
execute-requires c =
    let b = c.self.inside in
    let before : Core = core_of b.clock b.slot_now b.requests b.structures b.log in
    let w = c.in-Some.running.now in
    let ws = drop 1 b.requests.waiting in
    let waits : b.requests.waiting ≡ w ∷ ws = head-is b.requests.waiting w (sym c.first.ensures.first ∙ ap option_copied c.in-Some.is) in
    subst IsToExecute c.self.view_is
    (to-execute before w ws (c.requests_are_spelled.ensures.only b.log.tailoring) c.self.invariant.board.stands
    (subst (AreWaiting (session before) before.moments) waits c.self.invariant.board.waits) c.if-not-running.false (sym c.is_executed.ensures ∙ c.if-is_executed.false))
