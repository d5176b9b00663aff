use Rattle.std.proofs.Common.{List, All, sym, subst, ◌∙◌}
use Rattle.session_record.specs.declared.entry.Entry.{Entry}
use Rattle.generated_sessions.specs.Entries.{IsShortEntry}
use Rattle.hk_replay.proofs.generated.take_round.Goals as goal

pub take_each-requires-clause-short : goal.take_each-requires-clause-short
take_each-requires-clause-short c =
    subst (λ (xs : List Entry). All IsShortEntry xs) (sym (c.as_slice.ensures.value ∙ c.in_ok-entries.ensures)) (c.entries_are_short.ensures.round c.args.seed c.args.round)
