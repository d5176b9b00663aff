use Rattle.std.proofs.Common.{◌≡◌, ◌++◌, flat_map, drop}
use Rattle.std.specs.String.{string_bytes}
use Rattle.message_words.specs.Words.{refused_words}
use Rattle.message_words.specs.Tails.{tail}
use Rattle.message_words.proofs.reports.push_refused.Given as goal

abbrev pub invariant-loop-step : goal.invariant-loop-step
invariant-loop-step l =
    string_bytes l.line ++ tail (flat_map refused_words (drop l.step-index l.steps)) ≡ string_bytes l.fn.line ++ tail (flat_map refused_words l.steps)
