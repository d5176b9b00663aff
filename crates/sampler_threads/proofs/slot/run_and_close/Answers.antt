use Rattle.std.proofs.Common.{◌≡◌, ◌≤◌, ◌++◌, ◌∷◌, [], List, length, refl, sym, ◌∙◌, ap, subst, arith, OnOk, IfErr}
use Rattle.board_steps.specs.Cores.{Core}
use Rattle.board_steps.specs.Runs.{IsMade}
use Rattle.board_steps.specs.SlotRuns.{Ahead, IsStopped, Refuses, at_start, at_end}
use Rattle.board_steps.specs.declared.event.Event.TheVariants.{CloseSlot}
use Rattle.sampler_threads.specs.Deeds.{Deed, Went, gives}
use Rattle.sampler_threads.specs.Slots.{Ran, RanPart}
use Rattle.sampler_threads.proofs.RunLemmas.{went_tailoring, went_moments}
use Rattle.sampler_threads.proofs.ServeLemmas.{on_ok, if_err}
use Rattle.sampler_threads.proofs.CloseLemmas.{closed, closed_received, close_stops}
use Rattle.sampler_threads.proofs.StepLemmas.{given_tailoring, given_moments}
use Rattle.sampler_threads.proofs.slot.run_and_close.Goals as goal

pub returns-in-Err-clause-tailoring : goal.returns-in-Err-clause-tailoring
returns-in-Err-clause-tailoring g c =
    let e = c.run_open.ensures.served in went_tailoring (at_start c.args.uplinks.now) e.1 c.args.core.now c.run_open.new.core e.0 e.2.went

pub returns-in-Err-clause-grown : goal.returns-in-Err-clause-grown
returns-in-Err-clause-grown g c =
    let e = c.run_open.ensures.served in went_moments (at_start c.args.uplinks.now) e.1 c.args.core.now c.run_open.new.core e.0 e.2.went

pub returns-in-Err-clause-err : goal.returns-in-Err-clause-err
returns-in-Err-clause-err g c =
    let e = c.in-Err.ensures.served in
    (e.0, e.1, record { went = e.2.went; received = e.2.received; whole = c.run_open.ensures.whole; sampled = c.run_open.ensures.may; stopped = e.4 })

pub returns-clause-tailoring : goal.returns-clause-tailoring
returns-clause-tailoring g c =
    let e = c.run_open.ensures.served in
    given_tailoring c.run_open.new.core c.give.new.core CloseSlot c.give.result c.give.ensures.made c.give.ensures.refused
    ∙ went_tailoring (at_start c.args.uplinks.now) e.1 c.args.core.now c.run_open.new.core e.0 e.2.went

pub returns-clause-grown : goal.returns-clause-grown
returns-clause-grown g c =
    let e = c.run_open.ensures.served in
    omega (
      arith,
      given_moments c.run_open.new.core c.give.new.core CloseSlot c.give.result c.give.ensures.made c.give.ensures.refused,
      went_moments (at_start c.args.uplinks.now) e.1 c.args.core.now c.run_open.new.core e.0 e.2.went,
    )

pub returns-clause-ok : goal.returns-clause-ok
returns-clause-ok g c =
    let e = c.in_default.ensures.served in
    let ups = c.args.uplinks.now in
    on_ok c.give.result (IsMade c.run_open.new.core CloseSlot c.give.new.core) ((deeds : List Deed) × Ran g.N.Sensor c.args.tailoring.now ups c.args.core.now c.args.rings.now c.args.samplers.now deeds c.give.new.core c.run_open.new.rings c.run_open.new.samplers)
    (λ made. (
      e.0 ++ gives CloseSlot ∷ [],
      record {
        went = closed (at_start ups) e.1 c.args.core.now c.run_open.new.core c.give.new.core e.0 e.2.went e.3 made;
        received = closed_received c.args.rings.now c.run_open.new.rings e.0 e.2.received;
        settled = c.in_default.ensures.ok.0;
        sampled = c.in_default.ensures.ok.1;
      },
    ))
    c.give.ensures.made

pub returns-clause-err : goal.returns-clause-err
returns-clause-err g c =
    let e = c.in_default.ensures.served in
    let ups = c.args.uplinks.now in
    if_err c.give.result (λ fault. (c.give.new.core ≡ c.run_open.new.core) × Refuses c.run_open.new.core CloseSlot fault)
    (λ fault. (deeds : List Deed) × (ahead : Ahead) × RanPart g.N.Sensor c.args.tailoring.now ups c.args.core.now c.args.rings.now c.args.samplers.now fault deeds ahead c.give.new.core c.run_open.new.rings c.run_open.new.samplers)
    (λ fault h. (
      e.0,
      e.1,
      record {
        went = subst (λ k. Went (at_start ups) c.args.core.now e.0 e.1 k) (sym h.0) e.2.went;
        received = e.2.received;
        whole = c.run_open.ensures.whole;
        sampled = c.run_open.ensures.may;
        stopped = subst (λ k. IsStopped e.1 k fault) (sym h.0) (close_stops e.1 c.run_open.new.core fault e.3 h.1);
      },
    ))
    c.give.ensures.refused
