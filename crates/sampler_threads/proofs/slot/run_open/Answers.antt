use Rattle.std.proofs.Common.{◌≡◌, ◌++◌, map, refl, sym, ◌∙◌}
use Rattle.sampler_threads.specs.Deeds.{takes, takings}
use Rattle.board_steps.specs.SlotRuns.{IsStopped, at_start}
use Rattle.sampler_threads.specs.Rings.{Stops}
use Rattle.sampler_threads.specs.Slots.{WithEach, SettledSampler, AreSampled, IsReadyToClose}
use Rattle.sampler_threads.proofs.RunLemmas.{took_tailoring, went_tailoring, filing_stops}
use Rattle.sampler_threads.proofs.ServeLemmas.{on_ok, if_err, ok_always, served_more, served_then, idle_kept}
use Rattle.sampler_threads.proofs.SettleLemmas.{samplers, some_of, met_ends, met_received, met_whole}
use Rattle.sampler_threads.proofs.OpenLemmas.{served_took, met_as_kept, can_sample, sampled_ends, sampled_between, may_sampled, may_kept}
use Rattle.sampler_threads.proofs.slot.run_open.Goals as goal

pub returns-in-Err-clause-served : goal.returns-in-Err-clause-served
returns-in-Err-clause-served g c =
    let start = at_start c.args.uplinks.now in
    let k = c.settle_samplers.ensures.taken in (
      map takes k.0,
      start,
      served_took start c.args.core.now c.settle_samplers.new.core c.args.rings.now c.settle_samplers.new.rings k.0 refl k.1 k.2,
      tt,
      filing_stops start c.settle_samplers.new.core c.in-Err.fault refl c.in-Err.ensures.err,
    )

pub returns-in-Err-clause-may : goal.returns-in-Err-clause-may
returns-in-Err-clause-may g c =
    may_kept g.N.Sensor c.args.tailoring.now c.args.rings.now c.settle_samplers.new.rings c.args.samplers.now c.settle_samplers.new.samplers
    c.requires.ends.count (some_of c.args.rings.now) c.settle_samplers.ensures.kept

pub run_arms-served-requires-clause-tailoring : goal.run_arms-served-requires-clause-tailoring
run_arms-served-requires-clause-tailoring g c = λ lifetimes order.
    let k = c.settle_samplers.ensures.taken in
    c.requires.tailoring ∙ sym (took_tailoring c.args.core.now c.settle_samplers.new.core k.0 k.1)

pub run_arms-served-requires-clause-samplers : goal.run_arms-served-requires-clause-samplers
run_arms-served-requires-clause-samplers g c = λ lifetimes order.
    can_sample c.args.tailoring.now c.args.rings.now c.settle_samplers.new.rings c.args.samplers.now c.settle_samplers.new.samplers
    c.requires.ends.count c.requires.orders c.settle_samplers.ensures.kept c.in_default.ensures.settled (some_of c.args.rings.now)

pub meet_samplers-requires : goal.meet_samplers-requires
meet_samplers-requires g c =
    let e = c.run_arms-served.ensures.served in
    sampled_ends g.N.Sensor c.args.tailoring.now c.settle_samplers.new.rings c.run_arms-served.new.rings (takings e.0) c.settle_samplers.new.samplers c.run_arms-served.new.samplers
    c.settle_samplers.ensures.ends e.2.received c.run_arms-served.ensures.sampled

pub returns-in-Err-served-clause-ends : goal.returns-in-Err-served-clause-ends
returns-in-Err-served-clause-ends g c =
    let e = c.run_arms-served.ensures.served in
    let ends = sampled_ends g.N.Sensor c.args.tailoring.now c.settle_samplers.new.rings c.run_arms-served.new.rings (takings e.0) c.settle_samplers.new.samplers c.run_arms-served.new.samplers
    c.settle_samplers.ensures.ends e.2.received c.run_arms-served.ensures.sampled in
    met_ends samplers c.run_arms-served.new.rings c.meet_samplers.new.rings c.run_arms-served.new.samplers c.meet_samplers.new.samplers ends.count c.meet_samplers.ensures

pub returns-in-Err-served-clause-whole : goal.returns-in-Err-served-clause-whole
returns-in-Err-served-clause-whole g c =
    let e = c.run_arms-served.ensures.served in
    let ends = sampled_ends g.N.Sensor c.args.tailoring.now c.settle_samplers.new.rings c.run_arms-served.new.rings (takings e.0) c.settle_samplers.new.samplers c.run_arms-served.new.samplers
    c.settle_samplers.ensures.ends e.2.received c.run_arms-served.ensures.sampled in
    met_whole samplers c.run_arms-served.new.rings c.meet_samplers.new.rings c.run_arms-served.new.samplers c.meet_samplers.new.samplers ends.count c.meet_samplers.ensures

pub returns-in-Err-served-clause-served : goal.returns-in-Err-served-clause-served
returns-in-Err-served-clause-served g c =
    let start = at_start c.args.uplinks.now in
    let k = c.settle_samplers.ensures.taken in
    let e = c.in-Err-served.ensures.served in
    let ends = sampled_ends g.N.Sensor c.args.tailoring.now c.settle_samplers.new.rings c.run_arms-served.new.rings (takings e.0) c.settle_samplers.new.samplers c.run_arms-served.new.samplers
    c.settle_samplers.ensures.ends e.2.received c.run_arms-served.ensures.sampled in (
      map takes k.0 ++ e.0,
      e.1,
      served_then start e.1 c.args.core.now c.run_arms-served.new.core c.args.rings.now c.run_arms-served.new.rings c.meet_samplers.new.rings (map takes k.0 ++ e.0)
          (served_more start start e.1 c.args.core.now c.settle_samplers.new.core c.run_arms-served.new.core c.args.rings.now c.settle_samplers.new.rings c.run_arms-served.new.rings (map takes k.0) e.0
          (served_took start c.args.core.now c.settle_samplers.new.core c.args.rings.now c.settle_samplers.new.rings k.0 refl k.1 k.2) e.2)
          (met_received samplers c.run_arms-served.new.rings c.meet_samplers.new.rings c.run_arms-served.new.samplers c.meet_samplers.new.samplers ends.count c.meet_samplers.ensures),
      tt,
      e.4,
    )

pub returns-in-Err-served-clause-may : goal.returns-in-Err-served-clause-may
returns-in-Err-served-clause-may g c =
    let e = c.run_arms-served.ensures.served in
    may_sampled g.N.Sensor c.args.tailoring.now c.args.samplers.now c.meet_samplers.new.samplers
    (sampled_between g.N.Sensor c.args.tailoring.now c.args.rings.now c.settle_samplers.new.rings c.run_arms-served.new.rings c.meet_samplers.new.rings
    c.args.samplers.now c.settle_samplers.new.samplers c.run_arms-served.new.samplers c.meet_samplers.new.samplers
    c.requires.ends.count (e.2.received.count ∙ c.settle_samplers.ensures.kept.count) (some_of c.args.rings.now)
    c.settle_samplers.ensures.kept c.run_arms-served.ensures.sampled
    (met_as_kept c.run_arms-served.new.rings c.meet_samplers.new.rings c.run_arms-served.new.samplers c.meet_samplers.new.samplers c.meet_samplers.ensures))

pub settle_samplers-requires-2-clause-tailoring : goal.settle_samplers-requires-2-clause-tailoring
settle_samplers-requires-2-clause-tailoring g c =
    let k = c.settle_samplers.ensures.taken in
    let e = c.run_arms-served.ensures.served in
    c.requires.tailoring
    ∙ sym (went_tailoring (at_start c.args.uplinks.now) e.1 c.settle_samplers.new.core c.run_arms-served.new.core e.0 e.2.went ∙ took_tailoring c.args.core.now c.settle_samplers.new.core k.0 k.1)

pub settle_samplers-requires-2-clause-ends : goal.settle_samplers-requires-2-clause-ends
settle_samplers-requires-2-clause-ends g c =
    let e = c.run_arms-served.ensures.served in
    sampled_ends g.N.Sensor c.args.tailoring.now c.settle_samplers.new.rings c.run_arms-served.new.rings (takings e.0) c.settle_samplers.new.samplers c.run_arms-served.new.samplers
    c.settle_samplers.ensures.ends e.2.received c.run_arms-served.ensures.sampled

pub returns-clause-served : goal.returns-clause-served
returns-clause-served g c =
    let start = at_start c.args.uplinks.now in
    let k = c.settle_samplers.ensures.taken in
    let e = c.in_default-served.ensures.served in
    let u = c.settle_samplers-2.ensures.taken in
    let core = c.settle_samplers-2.new.core in
    let first = served_more start start e.1 c.args.core.now c.settle_samplers.new.core c.run_arms-served.new.core c.args.rings.now c.settle_samplers.new.rings c.run_arms-served.new.rings (map takes k.0) e.0
    (served_took start c.args.core.now c.settle_samplers.new.core c.args.rings.now c.settle_samplers.new.rings k.0 refl k.1 k.2) e.2 in (
      (map takes k.0 ++ e.0) ++ map takes u.0,
      e.1,
      served_more start e.1 e.1 c.args.core.now c.run_arms-served.new.core core c.args.rings.now c.run_arms-served.new.rings c.settle_samplers-2.new.rings (map takes k.0 ++ e.0) (map takes u.0) first
          (served_took e.1 c.run_arms-served.new.core core c.run_arms-served.new.rings c.settle_samplers-2.new.rings u.0 e.2.is_open u.1 u.2),
      ok_always c.settle_samplers-2.result (IsReadyToClose e.1 core) (e.3.0, idle_kept e.1 c.run_arms-served.new.core core u.0 u.1 e.3.1, e.3.2),
      if_err c.settle_samplers-2.result (λ fault. Stops core fault) (λ fault. IsStopped e.1 core fault) (λ fault h. filing_stops e.1 core fault e.2.is_open h) c.settle_samplers-2.ensures.err,
    )

pub returns-clause-ok : goal.returns-clause-ok
returns-clause-ok g c =
    let e = c.run_arms-served.ensures.served in
    let t = c.args.tailoring.now in
    let last = c.settle_samplers-2.new.samplers in
    on_ok c.settle_samplers-2.result (WithEach SettledSampler c.settle_samplers-2.new.rings last) (WithEach SettledSampler c.settle_samplers-2.new.rings last × AreSampled g.N.Sensor t c.args.samplers.now last)
    (λ s. (
      s,
      sampled_between g.N.Sensor t c.args.rings.now c.settle_samplers.new.rings c.run_arms-served.new.rings c.settle_samplers-2.new.rings
          c.args.samplers.now c.settle_samplers.new.samplers c.run_arms-served.new.samplers last
          c.requires.ends.count (e.2.received.count ∙ c.settle_samplers.ensures.kept.count) (some_of c.args.rings.now)
          c.settle_samplers.ensures.kept c.run_arms-served.ensures.sampled c.settle_samplers-2.ensures.kept,
    ))
    c.settle_samplers-2.ensures.settled

pub returns-clause-may : goal.returns-clause-may
returns-clause-may g c =
    let e = c.run_arms-served.ensures.served in
    let t = c.args.tailoring.now in
    let last = c.settle_samplers-2.new.samplers in
    may_sampled g.N.Sensor t c.args.samplers.now last
    (sampled_between g.N.Sensor t c.args.rings.now c.settle_samplers.new.rings c.run_arms-served.new.rings c.settle_samplers-2.new.rings
    c.args.samplers.now c.settle_samplers.new.samplers c.run_arms-served.new.samplers last
    c.requires.ends.count (e.2.received.count ∙ c.settle_samplers.ensures.kept.count) (some_of c.args.rings.now)
    c.settle_samplers.ensures.kept c.run_arms-served.ensures.sampled c.settle_samplers-2.ensures.kept)
