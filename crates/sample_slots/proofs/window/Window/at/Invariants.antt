use Rattle.std.proofs.Common.{◌-◌}
use Rattle.sample_slots.proofs.WindowLemmas.{IsBetween}
use Rattle.sample_slots.proofs.window.Window.at.Given as goal

abbrev pub invariant-loop-low : goal.invariant-loop-low
invariant-loop-low l = IsBetween l.self.items l.slot l.low l.high

abbrev pub decreases-loop-low : goal.decreases-loop-low
decreases-loop-low l = l.high - l.low
