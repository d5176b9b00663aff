use Rattle.std.proofs.Common.{◌≡◌, take}
use Rattle.live_verdicts.proofs.finds.copied_finds.Given as goal

abbrev pub invariant-loop-found : goal.invariant-loop-found
invariant-loop-found l = l.copies.items ≡ take l.found-index l.finds
