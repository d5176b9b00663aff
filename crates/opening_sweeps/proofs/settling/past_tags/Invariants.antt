use Rattle.std.proofs.Common.{◌≡◌, take}
use Rattle.std.specs.Prelude.{filter}
use Rattle.opening_sweeps.specs.Groups.{is_past}
use Rattle.opening_sweeps.proofs.settling.past_tags.Given as goal

abbrev pub invariant-loop-tag : goal.invariant-loop-tag
invariant-loop-tag l = l.past.items ≡ filter (is_past l.request) (take l.tag-index l.tags)
