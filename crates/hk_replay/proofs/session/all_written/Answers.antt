use Rattle.session_record.specs.Reading.{to_come}
use Rattle.hk_replay.specs.Taking.{first_outcome}
use Rattle.hk_replay.proofs.StatusLemmas.{undone_reading}
use Rattle.hk_replay.proofs.TakingLemmas.{ended_output}
use Rattle.hk_replay.proofs.session.all_written.Goals as goal

pub returns-in-Err-clause-output : goal.returns-in-Err-clause-output
returns-in-Err-clause-output g c =
    ended_output (λ octets. first_outcome c.args.session.now.standing c.args.first (to_come c.args.reader.now octets)) (g.F.Shelf.rest c.args.shelf.now) c.in-Err.status (g.K.Sink.taken c.args.sink.now)
    c.in-Err.ensures.early c.in-Err.ensures.outcome

pub returns-in-Err-clause-end : goal.returns-in-Err-clause-end
returns-in-Err-clause-end g c = λ is. absurd (undone_reading c.in-Err.status c.in-Err.ensures.early is)
