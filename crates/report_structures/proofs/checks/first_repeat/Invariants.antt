use Rattle.std.proofs.Common.{◌≡◌, ◌++◌, take, drop}
use Rattle.hk_base.specs.Definitions.{first_repeat}
use Rattle.report_structures.proofs.checks.first_repeat.Given as goal

abbrev pub invariant-loop-number : goal.invariant-loop-number
invariant-loop-number l = first_repeat (take l.number l.ids ++ l.earlier) (drop l.number l.ids) ≡ first_repeat l.earlier l.ids
