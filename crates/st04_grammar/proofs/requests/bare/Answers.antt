use Rattle.std.proofs.Common.{refl, Ok}
use Rattle.st04_grammar.proofs.requests.bare.Goals as goal

pub returns : goal.returns
returns c = c.whole.ensures (Ok (c.args.request, c.args.body.now)) refl
