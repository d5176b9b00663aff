use Rattle.std.proofs.Common.{arith}
use Rattle.std.proofs.lemmas.List.Elements.{All-from_recursion}
use Rattle.generated_sessions.specs.Generated as made
use Rattle.generated_sessions.specs.Entries.{IsShortEntry}
use Rattle.generated_sessions.proofs.Entries.{round_short, late_short}
use Rattle.generated_sessions.proofs.laws.entries_are_short.Goals as goal

pub returns-clause-round : goal.returns-clause-round
returns-clause-round c = λ seed round. All-from_recursion IsShortEntry (made.round_entries seed round) (round_short seed round).0

pub returns-clause-few : goal.returns-clause-few
returns-clause-few c = λ seed round. omega (arith, (round_short seed round).1)

pub returns-clause-late : goal.returns-clause-late
returns-clause-late c = λ seed count. All-from_recursion IsShortEntry (made.late_entries seed count) (late_short seed count).0

pub returns-clause-one : goal.returns-clause-one
returns-clause-one c = λ seed count. (late_short seed count).1
