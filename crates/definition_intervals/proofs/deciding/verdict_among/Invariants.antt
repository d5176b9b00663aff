use Rattle.std.proofs.Common.{◌≡◌, drop}
use Rattle.std.specs.Prelude.{filter_map}
use Rattle.std.specs.List.{cons_option}
use Rattle.std.specs.Option.{option_copied}
use Rattle.definition_intervals.specs.Verdicts.{explanation, verdict_by}
use Rattle.definition_intervals.proofs.deciding.verdict_among.Given as goal

abbrev pub invariant-loop-state : goal.invariant-loop-state
invariant-loop-state l =
    let explain = explanation l.tailoring l.tag l.payload in
    verdict_by (cons_option (option_copied l.only) (filter_map explain (drop l.state-index l.states))) l.number ≡ verdict_by (filter_map explain l.states) l.number
