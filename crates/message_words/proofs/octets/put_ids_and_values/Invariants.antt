use Rattle.std.proofs.Common.{◌≡◌, ◌++◌, map, drop, None}
use Rattle.message_words.specs.BodyOctets.{setting_octets_from}
use Rattle.message_words.proofs.octets.put_ids_and_values.Given as goal

abbrev pub invariant-loop-word : goal.invariant-loop-word
invariant-loop-word l =
    l.out.items ++ setting_octets_from l.tailoring l.param (map (λ word. word.now) (drop l.word-index l.words))
    ≡ l.fn.out.items ++ setting_octets_from l.tailoring None (map (λ word. word.now) l.words)
