use Rattle.std.proofs.Common.{arith, ◌≡◌, ◌-◌, sym, ◌∙◌, ap, subst, Some, slice_get}
use Rattle.std.specs.Prelude.{option_map, IfOk}
use Rattle.std.proofs.lemmas.Option.{none-some, same_Some}
use Rattle.pus_messages.specs.Instructions.{Instruction, instructions}
use Rattle.board_steps.specs.Cores.{Core, session}
use Rattle.board_state.specs.OneByOne.{instruction_of}
use Rattle.board_state.specs.Waiting.{IsRunning}
use Rattle.board_core.specs.Boards.{core_of}
use Rattle.board_core.specs.Effects.{IsEffectOf, IsOfGrammar}
use Rattle.board_core.proofs.ExecuteLemmas.{member-there, running-given}
use Rattle.board_core.proofs.board.BoardCore.effect_of.Goals as goal

pub unreachable-requires : goal.unreachable-requires
unreachable-requires c =
    let w = c.args.running.now in
    let low = c.requires.from in
    let high = c.requires.until in
    let x = member-there (instructions w.request) (c.args.number - 1) (omega (arith, low, high)) in
    none-some x.0 (ap (option_map instruction_of) (sym c.in_default.is) ∙ c.instruction_at.ensures ∙ x.1)

pub effect-requires : goal.effect-requires
effect-requires c =
    let b = c.self.inside in
    let core : Core = core_of b.clock b.slot_now b.requests b.structures b.log in
    let w = c.args.running.now in
    let x = instruction_of c.in-Some.instruction in
    let there : slice_get (instructions w.request) (c.args.number - 1) ≡ Some x = sym c.instruction_at.ensures ∙ ap (option_map instruction_of) c.in-Some.is in
    let running = subst (λ (y : Core). IsRunning (session y) y.moments w) (sym c.self.view_is) c.requires.running in
    subst (λ (y : Core). IsOfGrammar y.tailoring x) c.self.view_is
    (running-given core w (c.requests_are_spelled.ensures.only b.log.tailoring) c.self.invariant.board.stands running (c.args.number - 1) x there)

pub returns : goal.returns
returns c y e =
    let w = c.args.running.now in
    let x = instruction_of c.in-Some.instruction in
    let there : slice_get (instructions w.request) (c.args.number - 1) ≡ Some x = sym c.instruction_at.ensures ∙ ap (option_map instruction_of) c.in-Some.is in
    subst (λ (z : Instruction). IfOk c.effect.result (IsEffectOf c.args.self.now z)) (same_Some x y (sym there ∙ e)) c.effect.ensures
