use Rattle.std.proofs.Common.{ap, sym, ◌∙◌}
use Rattle.ground_history.specs.Ground.{Ground}
use Rattle.decommutator.specs.Due.{report_from}
use Rattle.decommutator.proofs.DueLemmas.{found-room}
use Rattle.decommutator.proofs.rest.put_with_tag.Goals as goal

pub put_last-requires : goal.put_last-requires
put_last-requires c =
    found-room c.args.verdicts.now c.args.tag c.in-Some.report.now c.history.ensures.grounded
    (ap (λ (x : Ground). report_from x c.args.tag) (sym c.history.ensures.history) ∙ sym c.in-Some.ensures)
