use Rattle.std.proofs.Common.{◌≡◌, subst, sym}
use Rattle.hk_base.specs.Fit.{IsFit}
use Rattle.board_steps.specs.SlotRuns.{at_start, at_end}
use Rattle.sampler_threads.specs.Slots.{Ran, RanPart}
use Rattle.sampler_threads.proofs.EventLemmas.{events_of}
use Rattle.sampler_threads.proofs.FinalLemmas.{filed_each}
use Rattle.sampler_threads.proofs.PartLemmas.{filed_part}
use Rattle.sampler_threads.proofs.slot.run_slot.Goals as goal

pub returns-in-Ok-clause-slot : goal.returns-in-Ok-clause-slot
returns-in-Ok-clause-slot g c =
    let ok = c.in-Ok.ensures.ok in
    events_of (at_start c.args.uplinks.now) at_end c.args.executor.now.core c.run_and_close.new.core ok.0 ok.1.went

pub returns-in-Err-clause-part : goal.returns-in-Err-clause-part
returns-in-Err-clause-part g c =
    let err = c.in-Err.ensures.err in
    (err.1, events_of (at_start c.args.uplinks.now) err.1 c.args.executor.now.core c.run_and_close.new.core err.0 err.2.went, err.2.stopped)

pub returns-in-Ok-clause-filed : goal.returns-in-Ok-clause-filed
returns-in-Ok-clause-filed g c = λ fresh k s below.
    let ok = c.in-Ok.ensures.ok in
    let core = c.args.executor.now.core in
    let xs = c.args.samplers.now in
    let ups = c.args.uplinks.now in
    let after = c.run_and_close.new.core in
    let rings_after = c.run_and_close.new.rings in
    let ys = c.run_and_close.new.samplers in
    let at = subst (λ rs. Ran g.N.Sensor c.args.executor.now.tailoring ups core rs xs ok.0 after rings_after ys) c.as_mut_slice-rings.ensures.value ok.1 in
    let ran = subst (λ t. Ran g.N.Sensor t ups core c.args.executor.now.rings.items xs ok.0 after rings_after ys) c.args.executor.now.same at in
    let fit : IsFit core.tailoring = subst IsFit c.args.executor.now.same c.widths-widths.ensures.fit in
    filed_each g.N.Sensor ups core c.args.executor.now.rings.items xs ok.0 after rings_after ys c.requires.ends.count ran fit fresh k s below

pub returns-in-Err-clause-filed_part : goal.returns-in-Err-clause-filed_part
returns-in-Err-clause-filed_part g c = λ fresh k s below.
    let err = c.in-Err.ensures.err in
    let core = c.args.executor.now.core in
    let xs = c.args.samplers.now in
    let ups = c.args.uplinks.now in
    let after = c.run_and_close.new.core in
    let rings_after = c.run_and_close.new.rings in
    let ys = c.run_and_close.new.samplers in
    let fault = c.in-Err.fault in
    let at = subst (λ rs. RanPart g.N.Sensor c.args.executor.now.tailoring ups core rs xs fault err.0 err.1 after rings_after ys) c.as_mut_slice-rings.ensures.value err.2 in
    let ran = subst (λ t. RanPart g.N.Sensor t ups core c.args.executor.now.rings.items xs fault err.0 err.1 after rings_after ys) c.args.executor.now.same at in
    let fit : IsFit core.tailoring = subst IsFit c.args.executor.now.same c.widths-widths.ensures.fit in
    filed_part g.N.Sensor ups core c.args.executor.now.rings.items xs fault err.0 err.1 after rings_after ys c.requires.ends.count ran fit fresh k s below
