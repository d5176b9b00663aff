use Rattle.std.proofs.Common.{◌≡◌, ◌++◌, map, drop}
use Rattle.message_words.specs.BodyOctets.{number_octets}
use Rattle.message_words.proofs.octets.put_numbers.Given as goal

abbrev pub invariant-loop-word : goal.invariant-loop-word
invariant-loop-word l =
    l.out.items ++ number_octets l.octets (map (λ word. word.now) (drop l.word-index l.words)) ≡ l.fn.out.items ++ number_octets l.octets (map (λ word. word.now) l.words)
