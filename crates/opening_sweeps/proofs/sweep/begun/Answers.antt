use Rattle.std.proofs.Common.{option_to_list}
use Rattle.opening_sweeps.proofs.SweepLemmas.{swept-first}
use Rattle.opening_sweeps.proofs.sweep.begun.Goals as goal

pub returns-clause-swept : goal.returns-clause-swept
returns-clause-swept c =
    λ t rs told formed.
    swept-first t rs (option_to_list c.args.boot) told c.in_ok-first_groups.field-0 c.first_tag-latest.result c.first_tag-latest.ensures
    c.in_ok-first_groups.ensures.alike (c.in_ok-first_groups.ensures.reached t rs formed)
