use Rattle.std.proofs.Common.{arith, ℕ, ◌<◌, ◌≤◌, ◌^◌, ◌+◌, max, sym, subst, Bool, Ok, Err, Option}
use Rattle.std.specs.Prelude.{IfSome, Result}
use Rattle.std.proofs.lemmas.Result.{err_from_is_err_and}
use Rattle.hk_base.specs.Fit.{greatest_tag}
use Rattle.hk_base.specs.TailoringParts.{TailoringParts}
use Rattle.hk_base.specs.declared.types.RequestId.{RequestId}
use Rattle.pus_messages.specs.declared.message.ReportBody.{ReportBody}
use Rattle.hk_world.specs.declared.moment.Act.TheVariants.{Executed}
use Rattle.board_steps.specs.Cores.{Core}
use Rattle.board_steps.specs.declared.event.BoardFault.{BoardFault}
use Rattle.board_core.specs.Boards.{core_of}
use Rattle.board_core.specs.Effects.{IsExecuting, HasCause, is_done}
use Rattle.board_core.specs.Execution.{AnswersFirst}
use Rattle.board_core.specs.Logs.{AnswersDraft, IsDrafted, IsWritable}
use Rattle.board_core.specs.Planned.{log_of}
use Rattle.board_core.specs.declared.log.Draft.{Draft}
use Rattle.board_core.proofs.CompleteLemmas.{id-small}
use Rattle.board_core.proofs.DraftedLemmas.{small-effect, ordered-few, first-fails, first-early, first-drafted}
use Rattle.board_core.proofs.ExecutionLemmas.{progress-writable}
use Rattle.board_core.proofs.board.BoardCore.executed.Goals as goal

pub draft-requires : goal.draft-requires
draft-requires c =
    let count = c.moments.ensures in
    let few = ordered-few c.args.effect.now in
    omega (arith, count, few)

pub progress-report-requires-clause-small : goal.progress-report-requires-clause-small
progress-report-requires-clause-small c = small-effect c.args.self.now c.requires.executing.instruction c.args.effect.now c.requires.executing.is_effect

pub add-requires-clause-writable : goal.add-requires-clause-writable
add-requires-clause-writable c =
    let b = c.self.inside in
    let w = c.args.running.now in
    let e = c.args.effect.now in
    let h = subst (λ (y : Core). IsExecuting y w e) (sym c.self.view_is) c.requires.executing in
    let id = subst (λ (i : RequestId). i.word < 256 ^ 4) (sym h.waits.each.0.id) (id-small b.requests.packets w.number c.self.invariant.board.stands.octets) in
    let few : w.executed + 1 ≤ 255 = let left = h.left in let most = c.requires.few in omega (arith, left, most) in
    let report = c.progress-report.ensures.report in
    let caused = subst (λ (o : Option ReportBody). IfSome o HasCause) report c.progress-report.ensures.cause in
    subst (λ (o : Option ReportBody). IfSome o (IsWritable c.tailoring-tailoring.result.now)) (sym report)
    (progress-writable c.tailoring-tailoring.result.now w (w.executed + 1) e c.widths-fit.ensures.fit id (omega arith) few caused)

pub add-requires-clause-known : goal.add-requires-clause-known
add-requires-clause-known c =
    let b = c.self.inside in
    let core : Core = core_of b.clock b.slot_now b.requests b.structures b.log in
    (log_of core, sym c.tailoring-tailoring.ensures, c.in_ok-draft.ensures.2)

pub add-requires-clause-early : goal.add-requires-clause-early
add-requires-clause-early c =
    let b = c.self.inside in
    let core : Core = core_of b.clock b.slot_now b.requests b.structures b.log in
    let w = c.args.running.now in
    let e = c.args.effect.now in
    let old = c.in_ok-draft.draft in
    let h = subst (λ (y : Core). IsExecuting y w e) (sym c.self.view_is) c.requires.executing in
    let k = subst (λ (n : ℕ). AnswersDraft b.log b.clock n (Ok old)) c.moments.ensures c.in_ok-draft.ensures in
    subst (λ (t : TailoringParts). max old.clock (old.last_tag + 1) ≤ greatest_tag t) (sym c.tailoring-tailoring.ensures) (first-early core w e h old k)

pub returns-in_err-draft : goal.returns-in_err-draft
returns-in_err-draft c =
    let b = c.self.inside in
    let core : Core = core_of b.clock b.slot_now b.requests b.structures b.log in
    let w = c.args.running.now in
    let e = c.args.effect.now in
    let h = subst (λ (y : Core). IsExecuting y w e) (sym c.self.view_is) c.requires.executing in
    let k = subst (λ (n : ℕ). AnswersDraft b.log b.clock n (Err c.in_err-draft.field-0.0)) c.moments.ensures c.in_err-draft.ensures in
    let p = err_from_is_err_and c.from_residual.result c.from_residual.ensures.1 in
    let R : BoardFault → Type 0 = λ x. AnswersFirst core w e (Err x) in
    let Q : Result Draft BoardFault → Type 0 = λ r. AnswersFirst core w e r in
    subst (λ (y : Core). AnswersFirst y w e c.from_residual.result) c.self.view_is (subst Q (sym p.1) (subst R (sym p.2) (first-fails core w e h c.in_err-draft.field-0.0 k)))

pub returns : goal.returns
returns c =
    let b = c.self.inside in
    let core : Core = core_of b.clock b.slot_now b.requests b.structures b.log in
    let w = c.args.running.now in
    let e = c.args.effect.now in
    let old = c.in_ok-draft.draft in
    let new : Draft = c.add.new.self in
    let h = subst (λ (y : Core). IsExecuting y w e) (sym c.self.view_is) c.requires.executing in
    let k = subst (λ (n : ℕ). AnswersDraft b.log b.clock n (Ok old)) c.moments.ensures c.in_ok-draft.ensures in
    let told = c.in_ok-add.ensures (log_of core) (sym c.tailoring-tailoring.ensures) k.2 in
    let done = subst (λ (x : Bool). IsDrafted (log_of core) old.clock (Executed w.number (w.executed + 1) x) c.progress-report.result old new) c.is_done.ensures told in
    let g = subst (λ (o : Option ReportBody). IsDrafted (log_of core) old.clock (Executed w.number (w.executed + 1) (is_done e)) o old new) c.progress-report.ensures.report done in
    subst (λ (y : Core). AnswersFirst y w e (Ok new)) c.self.view_is (first-drafted core w e h old k new g)
