use Rattle.std.proofs.Common.{◌≡◌, ◌-◌, length, drop}
use Rattle.simulated_link.specs.declared.link.Link.{Link}
use Rattle.run_slots.specs.Fronts.{IsGiven}
use Rattle.run_slots.specs.Reporting.{reports_numbered}
use Rattle.run_slots.proofs.reporting.give_moments.Given as goal

abbrev pub invariant-moments : goal.invariant-moments
invariant-moments l = record {
  settings : l.link.settings ≡ l.fn.link.settings;
  come : (after : Link) → IsGiven (reports_numbered l.tailoring l.slot l.number (drop l.number l.journal)) l.link after
      → IsGiven (reports_numbered l.tailoring l.slot l.from (drop l.from l.journal)) l.fn.link after;
}

abbrev pub decreases-moments : goal.decreases-moments
decreases-moments l = length l.journal - l.number
