use Rattle.std.proofs.Common.{rules, ◌≡◌, ◌≤◌, List, ℕ, length, map, subst, sym}
use Rattle.std.specs.List.{AllByRecursion}
use Rattle.run_slots.specs.Arrivals.{requested}
use Rattle.run_slots.proofs.ArrivalLemmas.{mapped-all, requested-sized}
use Rattle.run_slots.proofs.arriving.uplinks_of.Goals as goal

pub returns-clause-sized : goal.returns-clause-sized
returns-clause-sized c = λ short.
    let given = requested c.args.sendings.now in
    let past : length c.args.numbers.now ≤ c.numbers.place = search rules in
    let all : c.numbers.packets.items ≡ map given c.args.numbers.now =
    mapped-all given c.args.numbers.now c.numbers.place c.numbers.packets.items (map given c.args.numbers.now) past c.numbers.invariant in
    subst (AllByRecursion (λ (packet : List ℕ). length packet ≤ 2147483648)) (sym all) (requested-sized 2147483648 c.args.sendings.now c.args.numbers.now short)
