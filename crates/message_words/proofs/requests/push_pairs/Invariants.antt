use Rattle.std.proofs.Common.{◌≡◌, ◌++◌, flat_map, drop}
use Rattle.std.specs.String.{string_bytes}
use Rattle.message_words.specs.Words.{pair_words}
use Rattle.message_words.specs.Tails.{tail}
use Rattle.message_words.proofs.requests.push_pairs.Given as goal

abbrev pub invariant-loop-pair : goal.invariant-loop-pair
invariant-loop-pair l =
    string_bytes l.line ++ tail (flat_map pair_words (drop l.pair-index l.pairs)) ≡ string_bytes l.fn.line ++ tail (flat_map pair_words l.pairs)
