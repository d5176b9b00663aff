use Rattle.std.proofs.Common.{◌≡◌, take}
use Rattle.std.specs.Prelude.{filter}
use Rattle.opening_sweeps.specs.Groups.{is_unsure}
use Rattle.opening_sweeps.proofs.settling.unsure_tags.Given as goal

abbrev pub invariant-loop-tag : goal.invariant-loop-tag
invariant-loop-tag l = l.unsure.items ≡ filter (is_unsure l.request) (take l.tag-index l.tags)
