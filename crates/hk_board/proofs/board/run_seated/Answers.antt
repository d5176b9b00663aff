use Rattle.std.proofs.Common.{List, map, drop, length, sym, subst, ◌∙◌}
use Rattle.run_records.specs.Putting.{as_seen}
use Rattle.sampler_threads.specs.Executors.{core_of}
use Rattle.sampler_threads.specs.declared.slot.Sampler.{Sampler}
use Rattle.sampled_slots.specs.Seats.{sensors_of}
use Rattle.hk_board.specs.Progress.{Ends}
use Rattle.hk_board.proofs.LoopLemmas.{whole_slice}
use Rattle.hk_board.proofs.board.run_seated.Goals as goal

pub returns : goal.returns
returns g c =
    let t = (core_of c.args.executor.now).tailoring in
    let s = c.args.script.now in
    let start = as_seen g.K.Sink c.args.sink.now in
    let now = as_seen g.K.Sink c.run_slots-ended.new.sink in
    let result = c.run_slots-ended.result in
    let after = c.run_slots-ended.new.samplers in
    subst (λ (is : List g.row.N.Denot). Ends g.N.Sensor t s (sensors_of c.args.samplers.items) is result start now) (sym c.sensors_back.ensures)
    (subst (λ (xs : List (Sampler g.row.N.Denot)). Ends g.N.Sensor t s (sensors_of c.args.samplers.items) (map (λ x. x.sensor) xs) result start now)
    (sym (whole_slice after (drop (length after) c.args.samplers.items) c.args.samplers.len (c.run_slots-ended.auto.samplers ∙ c.deref_mut.ensures.len)))
    (subst (λ (xs : List (Sampler g.row.N.Denot)). Ends g.N.Sensor t s (sensors_of xs) (sensors_of after) result start now) c.deref_mut.ensures.value c.run_slots-ended.ensures))
