use Rattle.pus_messages.specs.Messages.{protocol}
use Rattle.board_steps.proofs.HeaderLemmas.{run-headers, counted, typed-counted}
use Rattle.board_steps.proofs.laws.headers.Goals as goal

pub returns-clause-counts : goal.returns-clause-counts
returns-clause-counts c t events core run = counted (protocol t) core.moments (run-headers t events core run).1

pub returns-clause-counters : goal.returns-clause-counters
returns-clause-counters c t events core service subtype run = typed-counted (protocol t) service subtype core.moments (run-headers t events core run).1
