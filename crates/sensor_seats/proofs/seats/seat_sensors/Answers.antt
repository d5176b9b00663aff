use Rattle.sensor_seats.proofs.SeatLemmas.{seated, settled}
use Rattle.sensor_seats.proofs.seats.seat_sensors.Goals as goal

pub returns-clause-ready : goal.returns-clause-ready
returns-clause-ready g c = λ rings fresh. (
  seated c.args.ends c.seat_all.result.items c.seat_all.ensures.ends rings fresh,
  settled c.args.ends c.seat_all.result.items c.seat_all.ensures.ends rings fresh,
)
