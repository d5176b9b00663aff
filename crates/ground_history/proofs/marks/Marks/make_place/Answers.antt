use Rattle.std.proofs.Common.{false, sym, ◌∙◌}
use Rattle.ground_history.proofs.MarkLemmas.{marked-same, places-stay}
use Rattle.ground_history.proofs.marks.Marks.make_place.Goals as goal

pub returns-in_ok-insert-clause-marks : goal.returns-in_ok-insert-clause-marks
returns-in_ok-insert-clause-marks c =
    rw (← c.self.view_is)
    (marked-same c.self.inside.marks.entries c.insert.new.self.entries c.args.request c.args.step (sym c.contains_key.ensures ∙ c.if-not-contains_key.true) c.in_ok-insert.ensures.updates.0)

pub returns-in_ok-insert-clause-others : goal.returns-in_ok-insert-clause-others
returns-in_ok-insert-clause-others c =
    rw (← c.self.view_is)
    (places-stay c.self.inside.marks.entries c.insert.new.self.entries c.args.request c.args.step false c.in_ok-insert.ensures.updates.0)
