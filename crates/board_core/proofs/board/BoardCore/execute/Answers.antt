use Rattle.std.proofs.Common.{arith, ◌≡◌, ℕ, ◌∷◌, drop, sym, ◌∙◌, ap, subst, Err}
use Rattle.std.specs.Prelude.{Result}
use Rattle.std.proofs.lemmas.Result.{err_from_is_err_and}
use Rattle.board_steps.specs.declared.event.BoardFault.{BoardFault}
use Rattle.std.specs.Option.{option_copied}
use Rattle.board_steps.specs.Cores.{Core, session}
use Rattle.board_steps.specs.Steps.{Answers}
use Rattle.board_steps.specs.declared.event.Event.TheVariants.{Work}
use Rattle.board_state.specs.Waiting.{AreWaiting}
use Rattle.board_core.specs.Boards.{core_of}
use Rattle.board_core.specs.Effects.{IsEffectOf, IsExecuting, IsToCarry}
use Rattle.board_core.specs.Planned.{IsPlanned}
use Rattle.board_core.specs.Worked.{IsToExecute}
use Rattle.board_core.proofs.StartLemmas.{head-is, no-head}
use Rattle.board_core.proofs.DraftedLemmas.{work-fails}
use Rattle.board_core.proofs.ExecuteLemmas.{execution-waits, is-left, next-there, after-next, is-executing, to-carry}
use Rattle.board_core.proofs.board.BoardCore.execute.Goals as goal

pub unreachable-requires : goal.unreachable-requires
unreachable-requires c =
    let b = c.self.inside in
    let none = no-head b.requests.waiting (sym c.first.ensures.first ∙ ap option_copied c.in_default.is) in
    execution-waits (core_of b.clock b.slot_now b.requests b.structures b.log) b.requests.waiting c.self.invariant.board.waits (subst IsToExecute (sym c.self.view_is) c.requires) none

pub effect_of-requires-clause-until : goal.effect_of-requires-clause-until
effect_of-requires-clause-until c =
    let b = c.self.inside in
    let before : Core = core_of b.clock b.slot_now b.requests b.structures b.log in
    let w = c.in-Some.running.now in
    let ws = drop 1 b.requests.waiting in
    let waits : b.requests.waiting ≡ w ∷ ws = head-is b.requests.waiting w (sym c.first.ensures.first ∙ ap option_copied c.in-Some.is) in
    let each = subst (AreWaiting (session before) before.moments) waits c.self.invariant.board.waits in
    let left = is-left before w ws each (subst IsToExecute (sym c.self.view_is) c.requires) in
    omega (arith, left)

pub execution-requires-clause-executing : goal.execution-requires-clause-executing
execution-requires-clause-executing c =
    let b = c.self.inside in
    let before : Core = core_of b.clock b.slot_now b.requests b.structures b.log in
    let w = c.in-Some.running.now in
    let ws = drop 1 b.requests.waiting in
    let waits : b.requests.waiting ≡ w ∷ ws = head-is b.requests.waiting w (sym c.first.ensures.first ∙ ap option_copied c.in-Some.is) in
    let each = subst (AreWaiting (session before) before.moments) waits c.self.invariant.board.waits in
    let t = subst IsToExecute (sym c.self.view_is) c.requires in
    let next = next-there before w ws each t in
    let is = subst (λ (x : Core). IsEffectOf x next.0 c.in_ok-effect.effect) (sym c.self.view_is) (c.in_ok-effect.ensures next.0 (after-next before w ws each t)) in
    subst (λ (x : Core). IsExecuting x w c.in_ok-effect.effect) c.self.view_is (is-executing before w ws each t c.in_ok-effect.effect is)

pub carry_out-requires : goal.carry_out-requires
carry_out-requires c =
    let b = c.self.inside in
    let before : Core = core_of b.clock b.slot_now b.requests b.structures b.log in
    let w = c.in-Some.running.now in
    let ws = drop 1 b.requests.waiting in
    let waits : b.requests.waiting ≡ w ∷ ws = head-is b.requests.waiting w (sym c.first.ensures.first ∙ ap option_copied c.in-Some.is) in
    let each = subst (AreWaiting (session before) before.moments) waits c.self.invariant.board.waits in
    let t = subst IsToExecute (sym c.self.view_is) c.requires in
    let next = next-there before w ws each t in
    let is = subst (λ (x : Core). IsEffectOf x next.0 c.in_ok-effect.effect) (sym c.self.view_is) (c.in_ok-effect.ensures next.0 (after-next before w ws each t)) in
    let plan = subst (λ (x : Core). IsPlanned x Work c.in_ok-draft.draft) (sym c.self.view_is) c.in_ok-draft.ensures in
    subst (λ (x : Core). IsToCarry x c.in_ok-effect.effect c.in_ok-draft.draft) c.self.view_is
    (to-carry before w c.in_ok-effect.effect c.in_ok-draft.draft (is-executing before w ws each t c.in_ok-effect.effect is) plan)

pub returns-in_err-draft : goal.returns-in_err-draft
returns-in_err-draft c =
    let core : Core = c.args.self.now in
    let p = err_from_is_err_and c.from_residual-in_err-draft.result c.from_residual-in_err-draft.ensures.1 in
    let R : BoardFault → Type 0 = λ x. Answers core Work core (Err x) in
    let Q : Result ℕ BoardFault → Type 0 = λ r. Answers core Work core r in
    subst Q (sym p.1) (subst R (sym p.2) (work-fails core c.in_err-draft.field-0.0 c.in_err-draft.ensures))
