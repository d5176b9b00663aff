use Rattle.record_commands.proofs.WholeLemmas.{reads-longest}
use Rattle.record_commands.proofs.trim.trimmed.Goals as goal

pub returns-clause-longest : goal.returns-clause-longest
returns-clause-longest g c = reads-longest (g.F.Shelf.rest c.args.shelf.now) c.whole_entries.result (λ out. out.items) c.whole_entries.ensures.outcome
