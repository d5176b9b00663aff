use Rattle.std.proofs.Common.{◌≡◌, [], drop}
use Rattle.std.specs.Prelude.{find}
use Rattle.opening_sweeps.specs.Groups.{is_sure}
use Rattle.opening_sweeps.proofs.settling.sure_tags.Given as goal

abbrev pub invariant-loop-tag : goal.invariant-loop-tag
invariant-loop-tag l = (l.sure.items ≡ []) × (find (is_sure l.request) (drop l.tag-index l.tags) ≡ find (is_sure l.request) l.tags)
