use Rattle.std.proofs.Common.{arith, sym}
use Rattle.decommutator.proofs.RowLemmas.{count-fits}
use Rattle.decommutator.proofs.rows.report_count.Goals as goal

pub overflow_add-count : goal.overflow_add-count
overflow_add-count c =
    let few = count-fits c.loop-kept.count c.in-Some.kept.now c.next.new.self c.loop-kept.kept-iterator c.args.history.now.history.kept c.in-Some.ensures.steps
    (sym c.if-is_parameter_report.ensures) c.loop-kept.invariant c.requires in
    omega (arith, few)
