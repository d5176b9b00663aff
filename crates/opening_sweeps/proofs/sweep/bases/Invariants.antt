use Rattle.std.proofs.Common.{ℕ, ◌<◌, ◌≤◌, length, take, get_or}
use Rattle.std.specs.List.{All}
use Rattle.definition_intervals.specs.Bases.{AreBases, IsFormedBasis}
use Rattle.opening_sweeps.specs.Requests.{bounded_requests, boot_starts, told_starts}
use Rattle.opening_sweeps.specs.Sweeps.{IsSwept}
use Rattle.opening_sweeps.proofs.sweep.bases.Given as goal

abbrev pub invariant-loop-tag : goal.invariant-loop-tag
invariant-loop-tag l =
    let t = l.history.tailoring in
    let h = l.history.history in
    record {
      swept : IsSwept t (bounded_requests h l.fn.key) (boot_starts t h l.fn.key) (told_starts h l.fn.key) l.sweep;
      bases : AreBases t h l.fn.key (take l.tag-index l.firsts) l.bases;
      formed : All (IsFormedBasis t) l.bases;
      tag : l.tag-index < length l.firsts → l.sweep.tag ≤ get_or l.firsts l.tag-index 0;
    }
