use Rattle.std.proofs.Common.{rules, arith, ◌≡◌, [], ◌∷◌, ◌++◌, ◌∙◌, length, ap, subst, sym}
use Rattle.std.specs.List.{AllByRecursion}
use Rattle.hk_base.proofs.Membership.{AllByRecursion-append}
use Rattle.sampler_threads.specs.declared.slot.Sampler.{Sampler}
use Rattle.sensor_seats.proofs.SeatLemmas.{moved-one, moved-all, each-reversed, none-left}
use Rattle.sensor_seats.proofs.seats.seat_all.Goals as goal

pub loop-sensor-preserved : goal.loop-sensor-preserved
loop-sensor-preserved g c =
    let seat : Sampler g.row.N.Denot = record { end = c.in-Some-pop.end; sensor = c.in-Some.sensor; orders = c.from_vec.result } in
    let inv = c.loop-sensor.invariant in
    let now = c.push.new.self.items in
    let pushed : now ≡ c.loop-sensor.samplers.items ++ seat ∷ [] = c.in-Ok.ensures.items in
    record {
      sensors = moved-one (λ (s : Sampler g.row.N.Denot). s.sensor) c.args.sensors.now.items c.loop-sensor.sensors.items c.pop.new.self.items c.loop-sensor.samplers.items now seat
          inv.sensors c.in-Some.ensures.items pushed;
      ends = moved-one (λ (s : Sampler g.row.N.Denot). s.end) c.args.ends c.loop-sensor.ends.items c.pop-in-Some.new.self.items c.loop-sensor.samplers.items now seat
          inv.ends c.in-Some-pop.ensures.items pushed;
      same = omega (arith, inv.same, c.in-Some.ensures.len, c.in-Some-pop.ensures.len);
      orders = subst (AllByRecursion (λ (s : Sampler g.row.N.Denot). s.orders ≡ [])) (sym pushed)
          (AllByRecursion-append (λ (s : Sampler g.row.N.Denot). s.orders ≡ []) c.loop-sensor.samplers.items (seat ∷ []) inv.orders (c.from_vec.ensures ∙ c.new.ensures.items, tt));
      count = omega (arith, inv.count, c.in-Ok.ensures.len, c.in-Ok.ensures.lower_bound, c.in-Some.ensures.len);
      room = search rules;
    }

pub returns-clause-ends : goal.returns-clause-ends
returns-clause-ends g c =
    let none : c.loop-sensor.sensors.items ≡ [] = search rules in
    let left : c.loop-sensor.ends.items ≡ [] =
    none-left c.loop-sensor.ends.items (omega (arith, c.loop-sensor.invariant.same, c.loop-sensor.ends.ok.0, c.loop-sensor.sensors.ok.0, ap length none)) in
    moved-all (λ (s : Sampler g.row.N.Denot). s.end) c.args.ends c.loop-sensor.ends.items c.loop-sensor.samplers.items c.reverse.new.self.items c.loop-sensor.invariant.ends left
    c.reverse.ensures.items

pub returns-clause-sensors : goal.returns-clause-sensors
returns-clause-sensors g c =
    let none : c.loop-sensor.sensors.items ≡ [] = search rules in
    moved-all (λ (s : Sampler g.row.N.Denot). s.sensor) c.args.sensors.now.items c.loop-sensor.sensors.items c.loop-sensor.samplers.items c.reverse.new.self.items
    c.loop-sensor.invariant.sensors none c.reverse.ensures.items

pub returns-clause-orders : goal.returns-clause-orders
returns-clause-orders g c =
    subst (AllByRecursion (λ (s : Sampler g.row.N.Denot). s.orders ≡ [])) (sym c.reverse.ensures.items)
    (each-reversed (λ (s : Sampler g.row.N.Denot). s.orders ≡ []) c.loop-sensor.samplers.items c.loop-sensor.invariant.orders)
