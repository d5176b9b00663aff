use Rattle.std.proofs.Common.{rules, ◌≡◌, ◌≤◌, ◌∙◌, Some, length}
use Rattle.std.specs.Prelude.{slice_get}
use Rattle.run_slots.proofs.ReportLemmas.{gives-more, gives-none}
use Rattle.run_slots.proofs.reporting.give_moments.Goals as goal

pub moments-preserved : goal.moments-preserved
moments-preserved c =
    let there : slice_get c.args.journal.now c.moments.number ≡ Some c.in-Some.moment.now = search rules in
    record {
      settings = c.give_report.ensures.settings ∙ c.moments.invariant.settings;
      come = λ after later. c.moments.invariant.come after
          (gives-more c.args.tailoring.now c.args.slot c.moments.number c.args.journal.now c.in-Some.moment.now c.moments.link c.give_report.new.link after there
          c.in_ok-give_report.ensures.given later);
    }

pub returns-clause-given : goal.returns-clause-given
returns-clause-given c =
    let past : length c.args.journal.now ≤ c.moments.number = search rules in
    c.moments.invariant.come c.moments.link (gives-none c.args.tailoring.now c.args.slot c.moments.number c.args.journal.now c.moments.link past)
