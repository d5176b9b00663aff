use Rattle.std.proofs.Common.{sym, ◌∙◌, subst}
use Rattle.pus_messages.specs.Instructions.{instructions}
use Rattle.board_steps.specs.Cores.{Core}
use Rattle.board_core.specs.Boards.{core_of}
use Rattle.board_core.specs.Worked.{IsToBegin, IsUnbegun}
use Rattle.board_core.proofs.BeginLemmas.{several-begins, one-begins}
use Rattle.board_core.proofs.ExecuteLemmas.{member-there, running-some}
use Rattle.board_core.proofs.board.BoardCore.only_refusal.Goals as goal

pub returns-then-has_several : goal.returns-then-has_several
returns-then-has_several c =
    several-begins c.args.self.now c.args.running.now c.requires.unbegun (sym c.has_several.ensures ∙ c.if-has_several.true)

pub effect_of-requires-clause-until : goal.effect_of-requires-clause-until
effect_of-requires-clause-until c =
    let b = c.self.inside in
    let core : Core = core_of b.clock b.slot_now b.requests b.structures b.log in
    let w = c.args.running.now in
    let h = subst (λ (y : Core). IsUnbegun y w) (sym c.self.view_is) c.requires.unbegun in
    running-some core w (c.requests_are_spelled.ensures.only b.log.tailoring) c.self.invariant.board.stands h.waits.each.0

pub returns : goal.returns
returns c =
    let b = c.self.inside in
    let core : Core = core_of b.clock b.slot_now b.requests b.structures b.log in
    let w = c.args.running.now in
    let h = subst (λ (y : Core). IsUnbegun y w) (sym c.self.view_is) c.requires.unbegun in
    let x = member-there (instructions w.request) 0 (running-some core w (c.requests_are_spelled.ensures.only b.log.tailoring) c.self.invariant.board.stands h.waits.each.0) in
    subst (IsToBegin c.args.self.now) (sym c.refusal.ensures)
    (one-begins c.args.self.now w c.requires.unbegun (sym c.has_several.ensures ∙ c.if-has_several.false) x.0 x.1 c.in_ok-effect.effect (c.in_ok-effect.ensures x.0 x.1))
