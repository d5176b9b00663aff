use Rattle.verdict_tables.specs.Places.{places}
use Rattle.verdict_tables.proofs.MemberLemmas.{IsIn-among}
use Rattle.verdict_tables.proofs.OpeningLemmas.{same-openings}
use Rattle.verdict_tables.proofs.laws.openings_stay.Goals as goal

pub returns : goal.returns
returns c = λ t h key first tag l between. same-openings t h key first tag l (λ n i. between n (IsIn-among n (places h key) i))
