use Rattle.std.proofs.Common.{◌≡◌, ◌<◌, [], ℕ, List, sym, ap, subst, ◌∙◌}
use Rattle.board_steps.specs.Cores.{Core}
use Rattle.sampler_threads.specs.Executors.{core_of}
use Rattle.sampler_threads.specs.Slots.{AreSmall}
use Rattle.run_records.specs.Putting.{as_seen}
use Rattle.hk_board.specs.Progress.{EndsEarly}
use Rattle.hk_board.specs.declared.status.BoardStatus.{BoardStatus}
use Rattle.hk_board.proofs.TextLemmas.{journal_packets}
use Rattle.hk_board.proofs.EndLemmas.{unopened}
use Rattle.hk_board.proofs.SlotLemmas.{sent_short, slot_before, slot_opened}
use Rattle.hk_board.proofs.running.ordered_slot.Goals as goal

pub open_slot-requires-clause-short : goal.open_slot-requires-clause-short
open_slot-requires-clause-short g c = sent_short (core_of c.args.executor.now).tailoring [] c.args.script.now.sendings c.requires.script.sendings

pub open_slot-requires-clause-small : goal.open_slot-requires-clause-small
open_slot-requires-clause-small g c = journal_packets c.core.result.now c.journal-journal.result.now c.journal-journal.ensures.moments c.journal-journal.ensures.bounds

pub opened_slot-requires-clause-size : goal.opened_slot-requires-clause-size
opened_slot-requires-clause-size g c κs outlives = subst AreSmall (sym c.deref.ensures.value) c.in-Ok.ensures.sized

pub returns-in-Ok-clause-ok : goal.returns-in-Ok-clause-ok
returns-in-Ok-clause-ok g c = λ start was slots number at ready.
    let core = core_of c.args.executor.now in
    let t = core.tailoring in
    let s = c.args.script.now in
    let journal = c.journal-journal.result.now in
    let is = c.journal-journal.ensures.moments ∙ ap (λ (x : Core). x.moments) c.core.ensures in
    let progress = c.args.progress.now in
    let first = as_seen g.K.Sink c.args.sink.now in
    let before = slot_before t s start slots core journal c.args.slot progress.next progress.shown progress.link first number is at in
    c.opened_slot.ensures.ok start was slots number
    (slot_opened t s start slots core journal c.args.slot progress.next c.in-Ok.opened.next progress.shown progress.link c.open_slot.new.link c.deref.result.now first (as_seen g.K.Sink c.open_slot.new.sink) number is at
    (c.in-Ok.ensures.text t slots c.requires.script before) (c.deref.ensures.value ∙ c.in-Ok.ensures.uplinks t slots c.requires.script before) (c.in-Ok.ensures.opened t slots c.requires.script before))
    ready

pub returns-in-Ok-clause-err : goal.returns-in-Ok-clause-err
returns-in-Ok-clause-err g c = λ start was slots number below at ready.
    let core = core_of c.args.executor.now in
    let t = core.tailoring in
    let s = c.args.script.now in
    let journal = c.journal-journal.result.now in
    let is = c.journal-journal.ensures.moments ∙ ap (λ (x : Core). x.moments) c.core.ensures in
    let progress = c.args.progress.now in
    let first = as_seen g.K.Sink c.args.sink.now in
    let before = slot_before t s start slots core journal c.args.slot progress.next progress.shown progress.link first number is at in
    c.opened_slot.ensures.err start was slots number below
    (slot_opened t s start slots core journal c.args.slot progress.next c.in-Ok.opened.next progress.shown progress.link c.open_slot.new.link c.deref.result.now first (as_seen g.K.Sink c.open_slot.new.sink) number is at
    (c.in-Ok.ensures.text t slots c.requires.script before) (c.deref.ensures.value ∙ c.in-Ok.ensures.uplinks t slots c.requires.script before) (c.in-Ok.ensures.opened t slots c.requires.script before))
    ready

pub returns-in-Err-clause-err : goal.returns-in-Err-clause-err
returns-in-Err-clause-err g c = λ start was slots number below at ready.
    let core = core_of c.args.executor.now in
    let t = core.tailoring in
    let s = c.args.script.now in
    let journal = c.journal-journal.result.now in
    let is = c.journal-journal.ensures.moments ∙ ap (λ (x : Core). x.moments) c.core.ensures in
    let progress = c.args.progress.now in
    let first = as_seen g.K.Sink c.args.sink.now in
    let now = as_seen g.K.Sink c.open_slot.new.sink in
    let before = slot_before t s start slots core journal c.args.slot progress.next progress.shown progress.link first number is at in
    subst (λ (x : BoardStatus). EndsEarly g.N.Sensor t s was x start now) (sym c.into.ensures)
    (unopened g.N.Sensor t s was (λ xs ms. c.slots_make_the_record.ensures t s xs ms) start slots core at.ran (subst (λ n. n < s.slots) number below) ready.between.sampled c.in-Err.fault first now at.put
    (c.in-Err.ensures.text t slots c.requires.script before))
