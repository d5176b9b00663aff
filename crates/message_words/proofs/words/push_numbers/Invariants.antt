use Rattle.std.proofs.Common.{◌≡◌, ◌++◌, map, drop}
use Rattle.std.specs.String.{string_bytes}
use Rattle.std.specs.Fmt.{decimal}
use Rattle.message_words.specs.Tails.{tail}
use Rattle.message_words.proofs.words.push_numbers.Given as goal

abbrev pub invariant-loop-number : goal.invariant-loop-number
invariant-loop-number l =
    string_bytes l.line ++ tail (map decimal (drop l.number-index l.numbers)) ≡ string_bytes l.fn.line ++ tail (map decimal l.numbers)
