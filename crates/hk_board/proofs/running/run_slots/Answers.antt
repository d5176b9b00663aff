use Rattle.std.proofs.Common.{arith, ◌≡◌, ◌+◌, ◌<◌, ◌≤◌, ◌∷◌, ℕ, List, length, sym, ap, subst, ◌∙◌}
use Rattle.std.proofs.lemmas.List.{length-map}
use Rattle.std.proofs.lemmas.Result.{err_from_is_err_and}
use Rattle.hk_base.specs.TailoringParts.{TailoringParts}
use Rattle.board_scripts.specs.Spelling.{IsScript}
use Rattle.run_records.specs.Putting.{as_seen}
use Rattle.sampler_threads.specs.Executors.{core_of, count_of, rings_of}
use Rattle.sampler_threads.specs.Samplings.{HavePlaces}
use Rattle.sampler_threads.specs.Slots.{ends_of}
use Rattle.sampled_slots.specs.Seats.{sensors_of}
use Rattle.hk_board.specs.Progress.{EndsEarly}
use Rattle.hk_board.proofs.EndLemmas.{unheaded, header_put, header_failed}
use Rattle.hk_board.proofs.LoopLemmas.{begins, at_tailoring, between_tailoring, come_to_end, goes_on}
use Rattle.hk_board.proofs.running.run_slots.Goals as goal

pub loop-slot-init : goal.loop-slot-init
loop-slot-init g c =
    let t = (core_of c.args.executor.now).tailoring in
    let rings = rings_of c.args.executor.now in
    begins g.N.Sensor t c.args.script.now c.args.samplers.now (as_seen g.K.Sink c.args.sink.now) (as_seen g.K.Sink c.put_header.new.sink) (core_of c.args.executor.now) rings c.link_of.result c.requires.fresh (c.link_of.ensures t)
    (header_put t c.args.script.now (as_seen g.K.Sink c.args.sink.now) (as_seen g.K.Sink c.put_header.new.sink) c.in_ok-put_header.ensures)
    (c.samplers_go_on.ensures.begin t rings c.args.samplers.now c.requires.ends c.requires.settled (subst (λ n. HavePlaces t n (ends_of c.args.samplers.now)) (sym c.requires.count) c.requires.places))

pub one_slot-requires-clause-script : goal.one_slot-requires-clause-script
one_slot-requires-clause-script g c κs outlives =
    subst (λ (t : TailoringParts). IsScript t c.args.script.now) (sym c.loop-slot.invariant.tailoring) c.requires.script

pub one_slot-requires-clause-within : goal.one_slot-requires-clause-within
one_slot-requires-clause-within g c κs outlives = c.loop-slot.invariant.within

pub one_slot-requires-clause-some : goal.one_slot-requires-clause-some
one_slot-requires-clause-some g c κs outlives =
    let come = c.loop-slot.invariant in
    let counted = c.samplers_go_on.ensures.count (core_of c.args.executor.now).tailoring (sensors_of c.args.samplers.now) come.slots (rings_of c.loop-slot.executor) c.loop-slot.samplers come.between in
    omega (arith, counted.0, c.requires.some, length-map c.args.samplers.now (λ s. s.sensor))

pub one_slot-requires-clause-count : goal.one_slot-requires-clause-count
one_slot-requires-clause-count g c κs outlives =
    let come = c.loop-slot.invariant in
    let counted = c.samplers_go_on.ensures.count (core_of c.args.executor.now).tailoring (sensors_of c.args.samplers.now) come.slots (rings_of c.loop-slot.executor) c.loop-slot.samplers come.between in
    counted.0 ∙ (sym counted.1 ∙ sym c.is_count.ensures)

pub one_slot-requires-clause-ends : goal.one_slot-requires-clause-ends
one_slot-requires-clause-ends g c κs outlives =
    c.samplers_hold_ends.ensures.samplers (rings_of c.loop-slot.executor) c.loop-slot.samplers c.loop-slot.invariant.between.paired

pub one_slot-requires-clause-places : goal.one_slot-requires-clause-places
one_slot-requires-clause-places g c κs outlives =
    let come = c.loop-slot.invariant in
    let counted = c.samplers_go_on.ensures.count (core_of c.args.executor.now).tailoring (sensors_of c.args.samplers.now) come.slots (rings_of c.loop-slot.executor) c.loop-slot.samplers come.between in
    subst (λ (t : TailoringParts). HavePlaces t (count_of c.loop-slot.executor) (ends_of c.loop-slot.samplers)) (sym come.tailoring)
    (subst (λ n. HavePlaces (core_of c.args.executor.now).tailoring n (ends_of c.loop-slot.samplers)) (sym (c.is_count.ensures ∙ counted.1)) come.between.places)

pub returns-in-Err : goal.returns-in-Err
returns-in-Err g c =
    let come = c.loop-slot.invariant in
    let t = (core_of c.args.executor.now).tailoring in
    let u = (core_of c.loop-slot.executor).tailoring in
    let s = c.args.script.now in
    let start = as_seen g.K.Sink c.args.sink.now in
    let was = sensors_of c.args.samplers.now in
    let now = as_seen g.K.Sink c.loop-slot.sink in
    let progress = c.loop-slot.progress in
    subst (λ (x : TailoringParts). EndsEarly g.N.Sensor x s was c.in-Err.status start (as_seen g.K.Sink c.one_slot.new.sink)) come.tailoring
    (c.in-Err.ensures.err start was come.slots come.is_number c.loop-slot-test.true
    (at_tailoring u t s start come.slots (core_of c.loop-slot.executor) progress.next progress.shown progress.link now (sym come.tailoring) come.at)
    (between_tailoring g.N.Sensor u t was come.slots (rings_of c.loop-slot.executor) c.loop-slot.samplers (sym come.tailoring) come.between))

pub returns-in_err-put_header : goal.returns-in_err-put_header
returns-in_err-put_header g c =
    let t = (core_of c.args.executor.now).tailoring in
    let s = c.args.script.now in
    let first = as_seen g.K.Sink c.args.sink.now in
    let now = as_seen g.K.Sink c.put_header.new.sink in
    let p = err_from_is_err_and c.from_residual.result c.from_residual.ensures.1 in
    rw (p.1, p.2) (unheaded g.N.Sensor t s (sensors_of c.args.samplers.now) (λ xs ms. c.slots_make_the_record.ensures t s xs ms) c.in_err-put_header.field-0.0 first now
    (header_failed t s c.in_err-put_header.field-0.0 first now c.in_err-put_header.ensures))

pub loop-slot-preserved : goal.loop-slot-preserved
loop-slot-preserved g c =
    let come = c.loop-slot.invariant in
    let t = (core_of c.args.executor.now).tailoring in
    let u = (core_of c.loop-slot.executor).tailoring in
    let s = c.args.script.now in
    let start = as_seen g.K.Sink c.args.sink.now in
    let was = sensors_of c.args.samplers.now in
    let now = as_seen g.K.Sink c.loop-slot.sink in
    let progress = c.loop-slot.progress in
    let after = core_of c.one_slot.new.executor in
    let later = c.one_slot.new.progress in
    let went = c.in-Ok.ensures.ok start was come.slots come.is_number
    (at_tailoring u t s start come.slots (core_of c.loop-slot.executor) progress.next progress.shown progress.link now (sym come.tailoring) come.at)
    (between_tailoring g.N.Sensor u t was come.slots (rings_of c.loop-slot.executor) c.loop-slot.samplers (sym come.tailoring) come.between) in
    goes_on g.N.Sensor t s was start c.loop-slot.slot come.slots went.0 after (rings_of c.one_slot.new.executor) c.one_slot.new.samplers later.next later.shown later.link (as_seen g.K.Sink c.one_slot.new.sink) come.is_number
    c.loop-slot-test.true
    (at_tailoring t u s start (went.0 ∷ come.slots) after later.next later.shown later.link (as_seen g.K.Sink c.one_slot.new.sink) come.tailoring went.1)
    (between_tailoring g.N.Sensor t u was (went.0 ∷ come.slots) (rings_of c.one_slot.new.executor) c.one_slot.new.samplers come.tailoring went.2) c.in-Ok.ensures.within (c.in-Ok.ensures.tailoring ∙ come.tailoring)

pub returns : goal.returns
returns g c =
    let come = c.loop-slot.invariant in
    come_to_end g.N.Sensor (core_of c.args.executor.now).tailoring c.args.script.now (sensors_of c.args.samplers.now) (as_seen g.K.Sink c.args.sink.now) c.loop-slot.slot (core_of c.loop-slot.executor) (rings_of c.loop-slot.executor)
    c.loop-slot.samplers c.loop-slot.progress.next c.loop-slot.progress.shown c.loop-slot.progress.link (as_seen g.K.Sink c.loop-slot.sink) come (omega (arith, c.loop-slot-test.false))
