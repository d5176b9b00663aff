use Rattle.std.proofs.Common.{ℕ, List, ◌++◌, ap, ◌∙◌}
use Rattle.session_texts.specs.Tallies.{summary}
use Rattle.hk_replay.proofs.SessionLemmas.{Stands}
use Rattle.hk_replay.proofs.GeneratingLemmas.{numbers_are}
use Rattle.hk_replay.proofs.generated.numbers.Goals as goal

pub returns : goal.returns
returns c =
    let stands : Stands = record { first = c.entries_stand.ensures.first; next = c.entries_stand.ensures.next; text = c.entries_stand.ensures.text } in
    c.in_ok-write_summary.ensures
    ∙ (ap (λ (xs : List ℕ). xs ++ summary c.in_ok-tally.tally) c.new-text.ensures.items
    ∙ (ap summary c.in_ok-tally.ensures
    ∙ numbers_are stands c.entries_stand.ensures.tally c.args.seed c.args.rounds c.args.session.now.standing c.take_rounds.new.session.standing c.take_last.new.session.standing
    c.requires.session c.in_ok-take_rounds.ensures.follows c.in_ok-take_last.ensures (c.rounds_come_one_by_one.ensures.end c.args.seed c.args.rounds)))
