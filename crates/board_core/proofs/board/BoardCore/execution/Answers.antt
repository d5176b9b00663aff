use Rattle.std.proofs.Common.{sym, subst, Err}
use Rattle.std.specs.Prelude.{Result}
use Rattle.std.proofs.lemmas.Result.{err_from_is_err_and}
use Rattle.board_steps.specs.Cores.{Core}
use Rattle.board_steps.specs.declared.event.BoardFault.{BoardFault}
use Rattle.board_steps.specs.declared.event.Event.TheVariants.{Work}
use Rattle.board_core.specs.declared.log.Draft.{Draft}
use Rattle.board_core.specs.Planned.{AnswersPlan}
use Rattle.board_core.proofs.DraftedLemmas.{plan-fails}
use Rattle.board_core.proofs.board.BoardCore.execution.Goals as goal

pub returns-in_err-draft : goal.returns-in_err-draft
returns-in_err-draft c =
    let core : Core = c.args.self.now in
    let p = err_from_is_err_and c.from_residual.result c.from_residual.ensures.1 in
    let R : BoardFault → Type 0 = λ x. AnswersPlan core Work (Err x) in
    let Q : Result Draft BoardFault → Type 0 = λ r. AnswersPlan core Work r in
    subst Q (sym p.1) (subst R (sym p.2) (plan-fails core c.args.running.now c.args.effect.now c.in_err-draft.field-0.0 c.in_err-draft.ensures))

pub add_ordered-requires : goal.add_ordered-requires
add_ordered-requires c = (c.args.running.now, c.requires.executing, c.in_ok-draft.ensures)
