use Rattle.std.proofs.Common.{◌≡◌, ◌<◌, ℕ, List, length, sym, subst, ◌∙◌}
use Rattle.hk_world.specs.declared.moment.Moment.{Moment}
use Rattle.sampler_threads.specs.Executors.{core_of, count_of, rings_of}
use Rattle.sampler_threads.specs.Samplings.{HavePlaces}
use Rattle.sampled_slots.specs.Seats.{HaveOrders}
use Rattle.run_records.specs.Putting.{as_seen}
use Rattle.hk_board.proofs.EndLemmas.{unordered}
use Rattle.hk_board.proofs.SlotLemmas.{slot_ready}
use Rattle.hk_board.proofs.running.one_slot.Goals as goal

pub ordered_slot-requires-clause-orders : goal.ordered_slot-requires-clause-orders
ordered_slot-requires-clause-orders g c κs outlives =
    let core = core_of c.args.executor.now in
    let seats = c.order_all.ensures.seats in
    let same = c.samplers_hold_ends.ensures.same c.args.samplers.now c.order_all.new.samplers seats.count seats.ends seats.sensors in
    c.samplers_can_be_ordered.ensures.orders core.tailoring (count_of c.args.executor.now) core.slot_now c.order_all.new.samplers c.is_fit.ensures c.in-Ok.ensures.orders
    (subst (HavePlaces core.tailoring (count_of c.args.executor.now)) (sym same.0) c.requires.places)

pub returns-in-Ok-clause-ok : goal.returns-in-Ok-clause-ok
returns-in-Ok-clause-ok g c = λ start was slots number at between.
    let core = core_of c.args.executor.now in
    let t = core.tailoring in
    let rings = rings_of c.args.executor.now in
    let seats = c.order_all.ensures.seats in
    let same = c.samplers_hold_ends.ensures.same c.args.samplers.now c.order_all.new.samplers seats.count seats.ends seats.sensors in
    let counted = c.samplers_go_on.ensures.count t was slots rings c.args.samplers.now between in
    let after = c.samplers_go_on.ensures.ordered t was slots rings c.args.samplers.now c.order_all.new.samplers between same.1 same.0 in
    let orders = subst (λ n. HaveOrders t n core.slot_now c.order_all.new.samplers) (sym c.requires.count ∙ counted.0) c.in-Ok.ensures.orders in
    c.ordered_slot.ensures.ok start was slots number at
    (slot_ready g.N.Sensor was slots core rings c.order_all.new.samplers (subst (λ n. 0 < n) counted.0 c.requires.some) after orders (c.slots_begin_unfiled.ensures.slot t c.args.script.now slots core at.ran)
    (c.samplers_go_on.ensures.ready core was slots rings c.order_all.new.samplers c.is_fit.ensures (c.slots_begin_unfiled.ensures.run t c.args.script.now slots core c.is_fit.ensures at.ran) after orders).2)

pub returns-in-Ok-clause-err : goal.returns-in-Ok-clause-err
returns-in-Ok-clause-err g c = λ start was slots number below at between.
    let core = core_of c.args.executor.now in
    let t = core.tailoring in
    let rings = rings_of c.args.executor.now in
    let seats = c.order_all.ensures.seats in
    let same = c.samplers_hold_ends.ensures.same c.args.samplers.now c.order_all.new.samplers seats.count seats.ends seats.sensors in
    let counted = c.samplers_go_on.ensures.count t was slots rings c.args.samplers.now between in
    let after = c.samplers_go_on.ensures.ordered t was slots rings c.args.samplers.now c.order_all.new.samplers between same.1 same.0 in
    let orders = subst (λ n. HaveOrders t n core.slot_now c.order_all.new.samplers) (sym c.requires.count ∙ counted.0) c.in-Ok.ensures.orders in
    c.ordered_slot.ensures.err start was slots number below at
    (slot_ready g.N.Sensor was slots core rings c.order_all.new.samplers (subst (λ n. 0 < n) counted.0 c.requires.some) after orders (c.slots_begin_unfiled.ensures.slot t c.args.script.now slots core at.ran)
    (c.samplers_go_on.ensures.ready core was slots rings c.order_all.new.samplers c.is_fit.ensures (c.slots_begin_unfiled.ensures.run t c.args.script.now slots core c.is_fit.ensures at.ran) after orders).2)

pub returns-in-Err-clause-err : goal.returns-in-Err-clause-err
returns-in-Err-clause-err g c = λ start was slots number below at between.
    let core = core_of c.args.executor.now in
    unordered g.N.Sensor core.tailoring c.args.script.now was (λ xs ms. c.slots_make_the_record.ensures core.tailoring c.args.script.now xs ms) start slots core at.ran (subst (λ n. n < c.args.script.now.slots) number below)
    between.sampled (as_seen g.K.Sink c.args.sink.now) at.put
