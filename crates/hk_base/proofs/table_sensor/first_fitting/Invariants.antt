use Rattle.std.proofs.Common.{◌≡◌, drop}
use Rattle.hk_base.specs.Memory.{first_fitting}
use Rattle.hk_base.proofs.table_sensor.first_fitting.Given as goal

abbrev pub invariant-loop-row : goal.invariant-loop-row
invariant-loop-row l = first_fitting (drop l.row-index l.rows) l.param l.slot ≡ first_fitting l.rows l.param l.slot
