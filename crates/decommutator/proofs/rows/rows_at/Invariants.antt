use Rattle.std.proofs.Common.{◌≡◌, ◌++◌, drop, map}
use Rattle.std.specs.Prelude.{zip}
use Rattle.hk_base.specs.Payload.{places}
use Rattle.decommutator.specs.Rows.{row_of}
use Rattle.decommutator.proofs.rows.rows_at.Given as goal

abbrev pub invariant-loop-number : goal.invariant-loop-number
invariant-loop-number l =
    let ps = places l.def l.last in
    l.rows.items ++ map row_of (zip (drop l.number ps) (drop l.number l.values)) ≡ map row_of (zip ps l.values)
