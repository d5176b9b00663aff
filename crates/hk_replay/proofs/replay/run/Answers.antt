use Rattle.std.proofs.Common.{Option, None, sym, ap, subst, ◌∙◌}
use Rattle.std.specs.Option.{option_map}
use Rattle.hk_replay.specs.Words.{Command}
use Rattle.hk_replay.specs.Asked.{asked}
use Rattle.hk_replay.specs.Runs.{IsProgramRun}
use Rattle.hk_replay.specs.declared.status.ReplayStatus.TheVariants as status
use Rattle.hk_replay.proofs.RunLemmas.{unasked}
use Rattle.hk_replay.proofs.replay.run.Goals as goal

pub returns-in-None : goal.returns-in-None
returns-in-None g c =
    let files = g.F.Shelf.files c.args.shelf.now in
    let sound = g.F.Shelf.is_sound c.args.shelf.now in
    let faults = g.F.Shelf.faults c.args.shelf.now in
    let rest = g.F.Shelf.rest c.args.shelf.now in
    let taken = g.K.Sink.taken c.args.sink.now in
    let room = g.K.Sink.room c.args.sink.now in
    let unwritten = g.K.Sink.faults c.args.sink.now in
    subst (λ (o : Option Command). IsProgramRun o status.Usage files sound faults faults rest rest taken taken room unwritten unwritten)
    (sym (ap (option_map asked) c.in-None.is) ∙ c.command_in.ensures)
    (unasked files sound faults rest taken room unwritten)

pub returns-in-Some : goal.returns-in-Some
returns-in-Some g c =
    let files = g.F.Shelf.files c.args.shelf.now in
    let sound = g.F.Shelf.is_sound c.args.shelf.now in
    let faults = g.F.Shelf.faults c.args.shelf.now in
    let rest = g.F.Shelf.rest c.args.shelf.now in
    let taken = g.K.Sink.taken c.args.sink.now in
    let room = g.K.Sink.room c.args.sink.now in
    let unwritten = g.K.Sink.faults c.args.sink.now in
    subst (λ (o : Option Command). IsProgramRun o c.done.result files sound faults (g.F.Shelf.faults c.done.new.shelf) rest (g.F.Shelf.rest c.done.new.shelf) taken (g.K.Sink.taken c.done.new.sink) room unwritten (g.K.Sink.faults c.done.new.sink))
    (sym (ap (option_map asked) c.in-Some.is) ∙ c.command_in.ensures)
    c.done.ensures
