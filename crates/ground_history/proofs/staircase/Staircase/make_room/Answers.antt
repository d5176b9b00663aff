-- A step as high as what stands at its place changes no height.
use Rattle.std.proofs.Common.{◌≡◌, sym, subst}
use Rattle.ground_history.specs.Stairs.{height_at}
use Rattle.ground_history.proofs.StairLemmas.{room-rising, room-height}
use Rattle.ground_history.proofs.staircase.Staircase.make_room.Goals as goal

pub invariant_of-self-2 : goal.invariant_of-self-2
invariant_of-self-2 c =
    room-rising c.args.place c.height-height.result c.self.inside.steps.entries c.insert.new.self.entries c.insert.ensures.was_ordered c.self.invariant
    (subst (λ s. c.height-height.result ≡ height_at s c.args.place) (sym c.self.view_is) c.height-height.ensures) c.in_ok-insert.ensures.entries

pub returns-clause-heights : goal.returns-clause-heights
returns-clause-heights c k =
    rw (← c.self.view_is)
    (room-height c.args.place c.height-height.result c.self.inside.steps.entries c.insert.new.self.entries c.insert.ensures.was_ordered c.self.invariant
    (subst (λ s. c.height-height.result ≡ height_at s c.args.place) (sym c.self.view_is) c.height-height.ensures) c.in_ok-insert.ensures.entries k)
