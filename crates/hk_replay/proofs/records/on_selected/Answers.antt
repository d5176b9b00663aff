use Rattle.std.proofs.Common.{◌≡◌, ◌≤◌, length, sym, subst}
use Rattle.std.specs.Prelude.{IfSome}
use Rattle.hk_replay.specs.Asked.{asked_of_record}
use Rattle.hk_replay.specs.Outcomes.{outcome_text, record_outcome}
use Rattle.hk_replay.specs.declared.words.RecordCommand.{RecordCommand}
use Rattle.hk_replay.proofs.records.on_selected.Goals as goal

pub returns-in-Show-clause-room : goal.returns-in-Show-clause-room
returns-in-Show-clause-room g c =
    subst (λ (x : RecordCommand). IfSome (g.F.Shelf.rest c.args.shelf.now) (λ octets. IfSome (g.K.Sink.room c.args.sink.now) (λ room. length (outcome_text (record_outcome (asked_of_record x) c.args.tailoring.now octets)) ≤ room → g.K.Sink.faults c.shown.new.sink ≡ g.K.Sink.faults c.args.sink.now)))
    (sym c.in-Show.is) c.shown.ensures.room

pub returns-in-Follow-clause-room : goal.returns-in-Follow-clause-room
returns-in-Follow-clause-room g c =
    subst (λ (x : RecordCommand). IfSome (g.F.Shelf.rest c.args.shelf.now) (λ octets. IfSome (g.K.Sink.room c.args.sink.now) (λ room. length (outcome_text (record_outcome (asked_of_record x) c.args.tailoring.now octets)) ≤ room → g.K.Sink.faults c.followed.new.sink ≡ g.K.Sink.faults c.args.sink.now)))
    (sym c.in-Follow.is) c.followed.ensures.room
