use Rattle.std.proofs.Common.{true}
use Rattle.ground_history.proofs.MarkLemmas.{marked-more, places-stay}
use Rattle.ground_history.proofs.marks.Marks.mark_one.Goals as goal

pub returns-clause-marks : goal.returns-clause-marks
returns-clause-marks c =
    rw (← c.self.view_is) (marked-more c.self.inside.marks.entries c.insert.new.self.entries c.args.request c.args.step c.in-Ok.ensures.updates.0)

pub returns-clause-others : goal.returns-clause-others
returns-clause-others c =
    rw (← c.self.view_is) (places-stay c.self.inside.marks.entries c.insert.new.self.entries c.args.request c.args.step true c.in-Ok.ensures.updates.0)
