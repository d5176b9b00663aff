use Rattle.std.proofs.Common.{◌≡◌, ◌≤◌, ◌+◌, ◌++◌, [], map}
use Rattle.std.specs.Prelude.{reverse, vec_len, vec_capacity}
use Rattle.std.specs.List.{AllByRecursion}
use Rattle.sensor_seats.proofs.seats.seat_all.Given as goal

abbrev pub invariant-loop-sensor : goal.invariant-loop-sensor
invariant-loop-sensor g l = record {
  sensors : l.fn.sensors.items ≡ l.sensors.items ++ reverse (map (λ s. s.sensor) l.samplers.items);
  ends : l.fn.ends ≡ l.ends.items ++ reverse (map (λ s. s.end) l.samplers.items);
  same : vec_len l.ends ≡ vec_len l.sensors;
  orders : AllByRecursion (λ s. s.orders ≡ []) l.samplers.items;
  count : vec_len l.samplers + vec_len l.sensors ≤ vec_capacity l.samplers;
  room : vec_capacity l.sensors ≡ vec_capacity l.fn.sensors;
}

abbrev pub decreases-loop-sensor : goal.decreases-loop-sensor
decreases-loop-sensor g l = vec_len l.sensors
