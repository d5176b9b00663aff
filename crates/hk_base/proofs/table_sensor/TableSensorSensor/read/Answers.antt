use Rattle.std.proofs.Common.{sym, FitsSigned, rules}
use Rattle.std.specs.Int.{w128}
use Rattle.std.proofs.lemmas.Int.{to_z-of_z}
use Rattle.hk_base.proofs.RowLemmas.{first_fits}
use Rattle.hk_base.proofs.table_sensor.TableSensorSensor.read.Goals as goal

pub returns-in-Some-clause-fitting : goal.returns-in-Some-clause-fitting
returns-in-Some-clause-fitting c =
    let fits : FitsSigned w128 c.in-Some.value = search rules in
    rw (to_z-of_z w128 c.in-Some.value fits) (first_fits c.as_slice-2.result.now c.args.param.now c.args.slot c.in-Some.value (sym c.in-Some.ensures))
