use Rattle.std.proofs.Common.{◌≡◌, refl, sym, ◌∙◌, OnOk, rules}
use Rattle.sampler_threads.specs.Rings.{TookKnown}
use Rattle.sampler_threads.specs.Slots.{WithEach, SettledSampler}
use Rattle.sampler_threads.proofs.ServeLemmas.{on_ok}
use Rattle.sampler_threads.proofs.SettleLemmas.{samplers, met_ends, taken_ends, met_kept, kept_twice, all_settled, met_twice, met_whole}
use Rattle.sampler_threads.proofs.slot.settle_samplers.Goals as goal

pub meet_samplers-requires-2 : goal.meet_samplers-requires-2
meet_samplers-requires-2 g c =
    let d = c.drain_all-drained.ensures.taken in
    taken_ends samplers c.meet_samplers.new.rings c.drain_all-drained.new.rings d.0 c.meet_samplers.new.samplers
    (met_ends samplers c.args.rings.now c.meet_samplers.new.rings c.args.samplers.now c.meet_samplers.new.samplers c.requires.ends.count c.meet_samplers.ensures) d.2

pub returns-clause-taken : goal.returns-clause-taken
returns-clause-taken g c =
    let d = c.drain_all-drained.ensures.taken in (
      d.0,
      d.1,
      met_twice samplers c.args.rings.now c.meet_samplers.new.rings c.drain_all-drained.new.rings c.meet_samplers-2.new.rings d.0 c.args.samplers.now c.meet_samplers.new.samplers c.meet_samplers-2.new.samplers
          c.requires.ends.count c.meet_samplers.ensures d.2 c.meet_samplers-2.ensures,
    )

pub returns-clause-ends : goal.returns-clause-ends
returns-clause-ends g c =
    let d = c.drain_all-drained.ensures.taken in
    met_ends samplers c.drain_all-drained.new.rings c.meet_samplers-2.new.rings c.meet_samplers.new.samplers c.meet_samplers-2.new.samplers
    (c.meet_samplers.ensures.others ∙ (c.requires.ends.count ∙ sym (d.2.count ∙ c.meet_samplers.ensures.count))) c.meet_samplers-2.ensures

pub returns-clause-whole : goal.returns-clause-whole
returns-clause-whole g c =
    let d = c.drain_all-drained.ensures.taken in
    met_whole samplers c.drain_all-drained.new.rings c.meet_samplers-2.new.rings c.meet_samplers.new.samplers c.meet_samplers-2.new.samplers
    (c.meet_samplers.ensures.others ∙ (c.requires.ends.count ∙ sym (d.2.count ∙ c.meet_samplers.ensures.count))) c.meet_samplers-2.ensures

pub returns-clause-kept : goal.returns-clause-kept
returns-clause-kept g c =
    let d = c.drain_all-drained.ensures.taken in
    kept_twice samplers c.args.rings.now c.drain_all-drained.new.rings c.meet_samplers-2.new.rings c.args.samplers.now c.meet_samplers.new.samplers c.meet_samplers-2.new.samplers
    (met_kept samplers c.args.rings.now c.meet_samplers.new.rings c.drain_all-drained.new.rings d.0 c.args.samplers.now c.meet_samplers.new.samplers c.meet_samplers.ensures d.2) c.meet_samplers-2.ensures

pub returns-clause-settled : goal.returns-clause-settled
returns-clause-settled g c =
    let d = c.drain_all-drained.ensures.taken in
    on_ok c.drain_all-drained.result (TookKnown c.meet_samplers.new.rings d.0) (WithEach SettledSampler c.meet_samplers-2.new.rings c.meet_samplers-2.new.samplers)
    (λ known. all_settled samplers c.args.rings.now c.meet_samplers.new.rings c.drain_all-drained.new.rings c.meet_samplers-2.new.rings d.0 c.args.samplers.now c.meet_samplers.new.samplers c.meet_samplers-2.new.samplers
    c.requires.ends.count c.meet_samplers.ensures d.2 known c.meet_samplers-2.ensures)
    d.4
