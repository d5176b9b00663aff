use Rattle.std.proofs.Common.{◌≡◌, ◌++◌, flat_map, drop}
use Rattle.std.specs.String.{string_bytes}
use Rattle.message_words.specs.Words.{array_words}
use Rattle.message_words.specs.Tails.{tail}
use Rattle.message_words.proofs.lists.push_arrays.Given as goal

abbrev pub invariant-loop-array : goal.invariant-loop-array
invariant-loop-array l =
    string_bytes l.line ++ tail (flat_map array_words (drop l.array-index l.arrays)) ≡ string_bytes l.fn.line ++ tail (flat_map array_words l.arrays)
