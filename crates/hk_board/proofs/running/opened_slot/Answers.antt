use Rattle.std.proofs.Common.{◌≡◌, ◌<◌, ◌∷◌, ℕ, List, Ok, Err, sym, subst}
use Rattle.hk_world.specs.declared.moment.Moment.{Moment}
use Rattle.board_steps.specs.SlotRuns.{IsSlot}
use Rattle.sampler_threads.specs.Executors.{core_of, rings_of}
use Rattle.run_records.specs.Putting.{as_seen}
use Rattle.hk_board.specs.Progress.{RunsTo, EndsEarly, IsAt, IsOpened}
use Rattle.hk_board.specs.declared.status.BoardStatus.{BoardStatus}
use Rattle.hk_board.specs.declared.status.BoardStatus.TheVariants.{NoMemory}
use Rattle.hk_board.proofs.EndLemmas.{unended, unreported}
use Rattle.hk_board.proofs.SlotLemmas.{if_err_map, on_ok_map, slot_run}
use Rattle.hk_board.proofs.running.opened_slot.Goals as goal

pub returns-in-Ok-clause-ok : goal.returns-in-Ok-clause-ok
returns-in-Ok-clause-ok g c = λ start was slots number opened ready.
    let before = core_of c.args.executor.now in
    let after = core_of c.run_written.new.executor in
    let t = before.tailoring in
    let s = c.args.script.now in
    let now = as_seen g.K.Sink c.run_written.new.sink in
    let runs = c.in-Ok.ensures.runs opened.all_shown in
    let run = slot_run t s start slots runs.1.0 before after c.args.uplinks.now c.args.progress.now.next c.args.progress.now.shown c.args.progress.now.link (as_seen g.K.Sink c.args.sink.now) now
    (λ xs ms. c.slots_make_the_record.ensures t s xs ms) opened runs.0 runs.1.1 runs.1.2 in
    let sampled = c.in-Ok.ensures.sampled in
    on_ok_map c.report_slot.result _ _
    (λ at. (
      runs.1.0,
      at,
      c.samplers_go_on.ensures.next t was slots runs.1.0 (rings_of c.args.executor.now) (rings_of c.run_written.new.executor) c.args.samplers.now c.run_written.new.samplers c.is_fit.ensures ready.some ready.between
          ready.orders (c.in-Ok.ensures.filed ready.fresh runs.1.0 runs.1.1) sampled.0 sampled.1 sampled.2,
    ))
    (c.report_slot.ensures.ok t s start slots runs.1.0 now (c.slots_begin_unfiled.ensures.tailoring t s (runs.1.0 ∷ slots) after c.is_fit.ensures run.ran) number run)

pub returns-in-Ok-clause-err : goal.returns-in-Ok-clause-err
returns-in-Ok-clause-err g c = λ start was slots number below opened ready.
    let before = core_of c.args.executor.now in
    let after = core_of c.run_written.new.executor in
    let t = before.tailoring in
    let s = c.args.script.now in
    let now = as_seen g.K.Sink c.run_written.new.sink in
    let runs = c.in-Ok.ensures.runs opened.all_shown in
    let run = slot_run t s start slots runs.1.0 before after c.args.uplinks.now c.args.progress.now.next c.args.progress.now.shown c.args.progress.now.link (as_seen g.K.Sink c.args.sink.now) now
    (λ xs ms. c.slots_make_the_record.ensures t s xs ms) opened runs.0 runs.1.1 runs.1.2 in
    if_err_map c.report_slot.result (λ x. x ≡ NoMemory) (λ x. EndsEarly g.N.Sensor t s was x start now)
    (λ x is.
    subst (λ (y : BoardStatus). EndsEarly g.N.Sensor t s was y start now) (sym is)
    (unreported g.N.Sensor t s was (λ xs ms. c.slots_make_the_record.ensures t s xs ms) start slots before opened.ran (subst (λ n. n < s.slots) number below) ready.between.sampled after now runs.1.0
    (subst (λ ups. IsSlot ups before after) opened.is_uplinks runs.0) runs.1.1
    (c.samplers_go_on.ensures.part t was slots runs.1.0 (rings_of c.args.executor.now) c.args.samplers.now c.is_fit.ensures ready.between ready.orders (c.run_written.ensures.filed_part ready.fresh runs.1.0 runs.1.1))
    run.put)) c.report_slot.ensures.err

pub returns-in-Err-clause-err : goal.returns-in-Err-clause-err
returns-in-Err-clause-err g c = λ start was slots number below opened ready.
    let before = core_of c.args.executor.now in
    let after = core_of c.run_written.new.executor in
    let t = before.tailoring in
    let s = c.args.script.now in
    let mid = as_seen g.K.Sink c.args.sink.now in
    let now = as_seen g.K.Sink c.run_written.new.sink in
    unended g.N.Sensor t s was (λ xs ms. c.slots_make_the_record.ensures t s xs ms) start slots before opened.ran (subst (λ n. n < s.slots) number below) ready.between.sampled c.in-Err.status after opened.before mid now
    opened.put opened.opened
    (λ ms done.
    c.samplers_go_on.ensures.part t was slots ms (rings_of c.args.executor.now) c.args.samplers.now c.is_fit.ensures ready.between ready.orders (c.run_written.ensures.filed_part ready.fresh ms done))
    (subst (λ ups. RunsTo ups before after (Err c.in-Err.status) mid now) opened.is_uplinks (c.in-Err.ensures.runs opened.all_shown))
