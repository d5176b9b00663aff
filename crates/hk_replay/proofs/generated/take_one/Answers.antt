use Rattle.hk_replay.proofs.SessionLemmas.{Stands}
use Rattle.hk_replay.proofs.GeneratingLemmas.{follows_taken, follows_refused, on_ok}
use Rattle.hk_replay.proofs.generated.take_one.Goals as goal

pub returns-in-Ok-clause-follows : goal.returns-in-Ok-clause-follows
returns-in-Ok-clause-follows c =
    let stands : Stands = record { first = c.entries_stand.ensures.first; next = c.entries_stand.ensures.next; text = c.entries_stand.ensures.text } in
    follows_taken stands c.args.session.now.standing c.entry.new.self.standing c.args.entry.now c.in-Ok.ensures.state

pub returns-in-Err-clause-follows : goal.returns-in-Err-clause-follows
returns-in-Err-clause-follows c =
    let stands : Stands = record { first = c.entries_stand.ensures.first; next = c.entries_stand.ensures.next; text = c.entries_stand.ensures.text } in
    on_ok c.unless_memory.result _ _
    (λ other. follows_refused stands c.args.session.now.standing c.entry.new.self.standing c.args.entry.now c.in-Err.fault other c.in-Err.ensures.answer c.in-Err.ensures.state)
    c.unless_memory.ensures
