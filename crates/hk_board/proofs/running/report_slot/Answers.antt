use Rattle.std.proofs.Common.{◌≡◌, ℕ, List, ◌∷◌, ◌+◌, sym, ap, subst, ◌∙◌}
use Rattle.hk_base.specs.TailoringParts.{TailoringParts}
use Rattle.board_steps.specs.Cores.{Core}
use Rattle.sampler_threads.specs.Executors.{core_of}
use Rattle.run_slots.specs.Standing.{IsBeforeSlot, IsInSlot}
use Rattle.hk_board.proofs.TextLemmas.{journal_tags}
use Rattle.hk_board.proofs.SlotLemmas.{journal_is, slot_reported}
use Rattle.hk_board.proofs.running.report_slot.Goals as goal

pub give_reports-requires : goal.give_reports-requires
give_reports-requires c = journal_tags c.core-core.result.now c.journal-journal.result.now c.journal-journal.ensures.moments c.journal-journal.ensures.bounds

pub returns-in-Ok-clause-ok : goal.returns-in-Ok-clause-ok
returns-in-Ok-clause-ok c = λ t s start slots moments now tailoring number run.
    let core : Core = core_of c.args.executor.now in
    let parts : c.tailoring.result.now ≡ t = c.tailoring.ensures ∙ (ap (λ (x : Core). x.tailoring) c.core-core.ensures ∙ tailoring) in
    slot_reported t s start slots moments c.journal-journal.result.now core c.args.slot c.args.progress.now.next c.args.progress.now.shown c.len-progress.result c.args.progress.now.link c.give_reports.new.link now number
    (journal_is c.journal-journal.result.now core.moments (c.journal-journal.ensures.moments ∙ ap (λ (x : Core). x.moments) c.core-core.ensures)) c.len-progress.ensures.length run
    (λ earlier whole from inside.
    subst (λ (u : TailoringParts). IsBeforeSlot u s (moments ∷ slots) c.journal-journal.result.now (c.args.slot + 1) c.args.progress.now.next c.give_reports.new.link) parts
    (c.in-Ok.ensures s slots earlier moments c.args.progress.now.next whole from
    (subst (λ (u : TailoringParts). IsInSlot u s slots earlier c.args.slot c.args.progress.now.next c.args.progress.now.link) (sym parts) inside)))
