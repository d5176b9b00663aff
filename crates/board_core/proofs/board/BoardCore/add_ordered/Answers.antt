use Rattle.std.proofs.Common.{◌≡◌, ℕ, ◌≤◌, ◌+◌, max, length, sym, subst, Option, Some}
use Rattle.hk_base.specs.Fit.{IsFit, greatest_tag}
use Rattle.hk_base.specs.TailoringParts.{TailoringParts}
use Rattle.pus_messages.specs.declared.message.ReportBody.{ReportBody}
use Rattle.hk_world.specs.declared.moment.Act.TheVariants.{Emitted}
use Rattle.board_steps.specs.Cores.{Core}
use Rattle.board_steps.specs.declared.event.Event.TheVariants.{Work}
use Rattle.board_core.specs.Effects.{effect_topics}
use Rattle.board_core.specs.Execution.{IsToldAfter}
use Rattle.board_core.specs.Logs.{IsDrafted, IsWritable}
use Rattle.board_core.specs.Planned.{log_of, IsPlanned}
use Rattle.board_core.specs.declared.log.Draft.{Draft}
use Rattle.board_core.proofs.DraftedLemmas.{last-small, next-early, none-told, told-early, told-writable, one-told}
use Rattle.board_core.proofs.LogLemmas.{on-ok}
use Rattle.board_core.proofs.board.BoardCore.add_ordered.Goals as goal

pub next_tag-tag-requires : goal.next_tag-tag-requires
next_tag-tag-requires c =
    let b = c.self.inside in
    let w = c.requires.0 in
    last-small c.args.self.now w c.args.effect.now c.requires.1 c.args.draft.now c.requires.2
    (subst (λ (y : Core). IsFit y.tailoring) c.self.view_is (subst IsFit c.tailoring-tailoring.ensures c.widths-fit.ensures.fit))

pub ordered_report-requires-clause-effect : goal.ordered_report-requires-clause-effect
ordered_report-requires-clause-effect c = (c.requires.1.instruction, c.requires.1.is_effect)

pub ordered_report-requires-clause-early : goal.ordered_report-requires-clause-early
ordered_report-requires-clause-early c =
    subst (λ (n : ℕ). n + length (effect_topics c.args.effect.now) ≤ greatest_tag c.args.self.now.tailoring + 1) (sym c.next_tag-tag.ensures)
    (next-early c.args.self.now c.requires.0 c.args.effect.now c.requires.1 c.args.draft.now c.requires.2)

pub add-requires-clause-writable : goal.add-requires-clause-writable
add-requires-clause-writable c =
    let e = c.args.effect.now in
    let w = c.requires.0 in
    let h = c.requires.1 in
    let f = c.requires.2 in
    let tag = c.next_tag-tag.result in
    let same = subst (λ (y : Core). y.tailoring ≡ c.tailoring-tailoring.result.now) c.self.view_is (sym c.tailoring-tailoring.ensures) in
    let told = subst (λ (o : Option ReportBody). IsToldAfter c.args.self.now f.moment tag (effect_topics e) o) c.in-Some.is (c.in_ok-report.ensures w f.moment h f.executed) in
    subst (λ (t : TailoringParts). IsWritable t c.in-Some.body) same (told-writable c.args.self.now w e h c.args.draft.now f tag c.in-Some.body told)

pub add-requires-clause-known : goal.add-requires-clause-known
add-requires-clause-known c =
    let same = subst (λ (y : Core). y.tailoring ≡ c.tailoring-tailoring.result.now) c.self.view_is (sym c.tailoring-tailoring.ensures) in
    (log_of c.args.self.now, same, c.requires.2.draft)

pub add-requires-clause-early : goal.add-requires-clause-early
add-requires-clause-early c =
    let e = c.args.effect.now in
    let w = c.requires.0 in
    let h = c.requires.1 in
    let f = c.requires.2 in
    let d = c.args.draft.now in
    let tag = c.next_tag-tag.result in
    let same = subst (λ (y : Core). y.tailoring ≡ c.tailoring-tailoring.result.now) c.self.view_is (sym c.tailoring-tailoring.ensures) in
    let told = subst (λ (o : Option ReportBody). IsToldAfter c.args.self.now f.moment tag (effect_topics e) o) c.in-Some.is (c.in_ok-report.ensures w f.moment h f.executed) in
    subst (λ (t : TailoringParts). max d.clock (d.last_tag + 1) ≤ greatest_tag t) same (told-early c.args.self.now w e h d f tag c.in-Some.body told)

pub returns-in-Some : goal.returns-in-Some
returns-in-Some c =
    let core : Core = c.args.self.now in
    let e = c.args.effect.now in
    let w = c.requires.0 in
    let h = c.requires.1 in
    let f = c.requires.2 in
    let d = c.args.draft.now in
    let new : Draft = c.add.new.self in
    let tag = c.next_tag-tag.result in
    let same = subst (λ (y : Core). y.tailoring ≡ c.tailoring-tailoring.result.now) c.self.view_is (sym c.tailoring-tailoring.ensures) in
    let told = subst (λ (o : Option ReportBody). IsToldAfter core f.moment tag (effect_topics e) o) c.in-Some.is (c.in_ok-report.ensures w f.moment h f.executed) in
    on-ok (IsDrafted (log_of core) d.clock Emitted (Some c.in-Some.body) d new) (IsPlanned core Work new) c.add.result
    (λ g. one-told core w e h d f tag c.in-Some.body new told c.next_tag-tag.ensures g)
    (c.add.ensures (log_of core) same f.draft)

pub returns-in-None : goal.returns-in-None
returns-in-None c =
    let e = c.args.effect.now in
    let w = c.requires.0 in
    let h = c.requires.1 in
    let f = c.requires.2 in
    let tag = c.next_tag-tag.result in
    let told = subst (λ (o : Option ReportBody). IsToldAfter c.args.self.now f.moment tag (effect_topics e) o) c.in-None.is (c.in_ok-report.ensures w f.moment h f.executed) in
    none-told c.args.self.now w e h c.args.draft.now f tag told
