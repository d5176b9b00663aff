use Rattle.std.proofs.Common.{◌≡◌, ℕ, List, Result, Err, sym, ap, subst, ◌∙◌}
use Rattle.board_steps.specs.Cores.{Core}
use Rattle.sampler_threads.specs.Executors.{core_of, rings_of}
use Rattle.run_records.specs.Putting.{as_seen}
use Rattle.sampled_slots.specs.Seats.{AreFiled, AreFiledInPart}
use Rattle.hk_board.specs.Progress.{RunsTo}
use Rattle.board_steps.specs.SlotRuns.{IsSlot}
use Rattle.hk_board.proofs.StepLemmas.{slot_tailoring}
use Rattle.hk_board.proofs.TextLemmas.{journal_lines}
use Rattle.hk_board.proofs.SlotLemmas.{all_filed_in_part, either, if_err_map, if_ok_map, slot_cut, slot_written, well_ended}
use Rattle.hk_board.proofs.running.run_written.Goals as goal

pub put_moments-requires : goal.put_moments-requires
put_moments-requires g c = journal_lines c.core.result.now c.journal.result.now c.journal.ensures.moments c.journal.ensures.bounds

pub returns-in-Ok-clause-filed : goal.returns-in-Ok-clause-filed
returns-in-Ok-clause-filed g c = λ fresh moments done.
    let core = core_of c.args.executor.now in
    let t = core.tailoring in
    well_ended c.run_slot-ran.result c.ended.result (AreFiled g.N.Sensor t moments c.args.samplers.now c.run_slot-ran.new.samplers) c.ended.ensures
    (if_ok_map c.run_slot-ran.result _ (λ count. AreFiled g.N.Sensor t moments c.args.samplers.now c.run_slot-ran.new.samplers)
    (λ count filed. c.slots_are_sampled.ensures.filed t core (core_of c.run_slot-ran.new.executor) moments c.args.samplers.now c.run_slot-ran.new.samplers done (filed fresh)) c.run_slot-ran.ensures.filed)

pub returns-in-Ok-clause-filed_part : goal.returns-in-Ok-clause-filed_part
returns-in-Ok-clause-filed_part g c = λ fresh moments done.
    let core = core_of c.args.executor.now in
    let t = core.tailoring in
    either c.run_slot-ran.result (AreFiledInPart g.N.Sensor t moments c.args.samplers.now)
    (if_ok_map c.run_slot-ran.result _ (λ count. AreFiledInPart g.N.Sensor t moments c.args.samplers.now)
    (λ count filed.
    all_filed_in_part g.N.Sensor t moments c.args.samplers.now c.run_slot-ran.new.samplers
    (c.slots_are_sampled.ensures.filed t core (core_of c.run_slot-ran.new.executor) moments c.args.samplers.now c.run_slot-ran.new.samplers done (filed fresh))) c.run_slot-ran.ensures.filed)
    (if_err_map c.run_slot-ran.result _ (λ fault. AreFiledInPart g.N.Sensor t moments c.args.samplers.now)
    (λ fault filed. c.slots_are_sampled.ensures.filed_part t core (core_of c.run_slot-ran.new.executor) moments c.args.samplers.now done (filed fresh)) c.run_slot-ran.ensures.filed_part)

pub returns-in-Err-clause-filed_part : goal.returns-in-Err-clause-filed_part
returns-in-Err-clause-filed_part g c = λ fresh moments done.
    let core = core_of c.args.executor.now in
    let t = core.tailoring in
    either c.run_slot-ran.result (AreFiledInPart g.N.Sensor t moments c.args.samplers.now)
    (if_ok_map c.run_slot-ran.result _ (λ count. AreFiledInPart g.N.Sensor t moments c.args.samplers.now)
    (λ count filed.
    all_filed_in_part g.N.Sensor t moments c.args.samplers.now c.run_slot-ran.new.samplers
    (c.slots_are_sampled.ensures.filed t core (core_of c.run_slot-ran.new.executor) moments c.args.samplers.now c.run_slot-ran.new.samplers done (filed fresh))) c.run_slot-ran.ensures.filed)
    (if_err_map c.run_slot-ran.result _ (λ fault. AreFiledInPart g.N.Sensor t moments c.args.samplers.now)
    (λ fault filed. c.slots_are_sampled.ensures.filed_part t core (core_of c.run_slot-ran.new.executor) moments c.args.samplers.now done (filed fresh)) c.run_slot-ran.ensures.filed_part)

pub returns-in-Ok-clause-runs : goal.returns-in-Ok-clause-runs
returns-in-Ok-clause-runs g c = λ shown.
    let before = core_of c.args.executor.now in
    let after = core_of c.run_slot-ran.new.executor in
    slot_written c.args.uplinks.now before after c.run_slot-ran.result c.ended.result c.journal.result.now c.args.shown (as_seen g.K.Sink c.args.sink.now) (as_seen g.K.Sink c.put_moments.new.sink)
    c.run_slot-ran.ensures.slot c.run_slot-ran.ensures.part (c.journal.ensures.moments ∙ ap (λ (x : Core). x.moments) c.core.ensures) shown c.in-Ok.ensures c.ended.ensures

pub returns-in-Err-clause-runs : goal.returns-in-Err-clause-runs
returns-in-Err-clause-runs g c = λ shown.
    let before = core_of c.args.executor.now in
    let after = core_of c.run_slot-ran.new.executor in
    subst (λ x. RunsTo c.args.uplinks.now before after (Err x) (as_seen g.K.Sink c.args.sink.now) (as_seen g.K.Sink c.put_moments.new.sink)) (sym c.into.ensures)
    (slot_cut c.args.uplinks.now before after c.run_slot-ran.result c.in-Err.fault c.journal.result.now c.args.shown (as_seen g.K.Sink c.args.sink.now) (as_seen g.K.Sink c.put_moments.new.sink)
    c.run_slot-ran.ensures.slot c.run_slot-ran.ensures.part (c.journal.ensures.moments ∙ ap (λ (x : Core). x.moments) c.core.ensures) shown c.in-Err.ensures)

pub returns-in-Ok-clause-tailoring : goal.returns-in-Ok-clause-tailoring
returns-in-Ok-clause-tailoring g c =
    let before = core_of c.args.executor.now in
    let after = core_of c.run_slot-ran.new.executor in
    well_ended c.run_slot-ran.result c.ended.result (after.tailoring ≡ before.tailoring) c.ended.ensures
    (if_ok_map c.run_slot-ran.result (λ count. IsSlot c.args.uplinks.now before after) (λ count. after.tailoring ≡ before.tailoring) (λ count whole. slot_tailoring c.args.uplinks.now before after whole)
    c.run_slot-ran.ensures.slot)
