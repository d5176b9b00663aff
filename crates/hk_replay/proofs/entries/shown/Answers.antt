use Rattle.std.proofs.Common.{◌≡◌, Err, sym, ap, subst, ◌∙◌}
use Rattle.std.specs.Prelude.{IfSome}
use Rattle.record_commands.specs.Showing.{IsShownAsGiven}
use Rattle.hk_replay.specs.Outcomes.{show_outcome}
use Rattle.hk_replay.specs.Faults.{IsPlain}
use Rattle.hk_replay.specs.Replay.{HasOutput, WritesNothingElse}
use Rattle.hk_replay.specs.declared.status.ReplayStatus.{ReplayStatus}
use Rattle.hk_replay.specs.declared.status.ReplayStatus.TheVariants as status
use Rattle.hk_replay.proofs.ShownLemmas.{fault_output}
use Rattle.hk_replay.proofs.StatusLemmas.{nothing_record, plain_record, read_run, shown_given, undone, used, write_run}
use Rattle.hk_replay.proofs.entries.shown.Goals as goal

pub returns-in-Err-clause-output : goal.returns-in-Err-clause-output
returns-in-Err-clause-output g c =
    let t = c.args.tailoring.now in
    let rest = g.F.Shelf.rest c.args.shelf.now in
    let before = g.K.Sink.taken c.args.sink.now in
    let after = g.K.Sink.taken c.show.new.sink in
    subst (λ (s : ReplayStatus). IfSome rest (λ octets. HasOutput s (show_outcome t octets) before after)) (sym c.into.ensures)
    (fault_output t rest (g.F.Shelf.rest c.show.new.shelf) before after c.in-Err.fault c.in-Err.ensures.causes c.in-Err.ensures.shown)

pub returns-in-Err-clause-plain : goal.returns-in-Err-clause-plain
returns-in-Err-clause-plain g c = subst IsPlain (sym c.into.ensures) (plain_record c.in-Err.fault c.in-Err.ensures.causes)

pub returns-in-Err-clause-used : goal.returns-in-Err-clause-used
returns-in-Err-clause-used g c = λ is. used c.in-Err.fault (sym c.into.ensures ∙ is)

pub returns-in-Err-clause-end : goal.returns-in-Err-clause-end
returns-in-Err-clause-end g c = λ is. absurd (undone c.in-Err.fault (sym c.into.ensures ∙ is))

pub returns-in-Err-clause-read_fault : goal.returns-in-Err-clause-read_fault
returns-in-Err-clause-read_fault g c = λ is. c.in-Err.ensures.read_fault (ap Err (read_run c.in-Err.fault (sym c.into.ensures ∙ is)))

pub returns-in-Err-clause-write_fault : goal.returns-in-Err-clause-write_fault
returns-in-Err-clause-write_fault g c = λ is. c.in-Err.ensures.write_fault (ap Err (write_run c.in-Err.fault (sym c.into.ensures ∙ is)))

pub returns-in-Err-clause-nothing : goal.returns-in-Err-clause-nothing
returns-in-Err-clause-nothing g c =
    let before = g.K.Sink.taken c.args.sink.now in
    let after = g.K.Sink.taken c.show.new.sink in
    subst (λ (s : ReplayStatus). WritesNothingElse s before after) (sym c.into.ensures) (nothing_record c.in-Err.fault before after c.in-Err.ensures.causes)

pub returns-in-Err-clause-given : goal.returns-in-Err-clause-given
returns-in-Err-clause-given g c =
    let t = c.args.tailoring.now in
    let rest = g.F.Shelf.rest c.args.shelf.now in
    let left = g.F.Shelf.rest c.show.new.shelf in
    let before = g.K.Sink.taken c.args.sink.now in
    let after = g.K.Sink.taken c.show.new.sink in
    subst (λ (s : ReplayStatus). IfSome rest (λ octets. s ≡ status.ReadFault → IsShownAsGiven t octets left before after)) (sym c.into.ensures)
    (shown_given t rest left before after c.in-Err.fault c.in-Err.ensures.shown)
