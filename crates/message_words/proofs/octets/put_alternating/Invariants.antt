use Rattle.std.proofs.Common.{◌≡◌, ◌≤◌, ◌++◌, map, drop}
use Rattle.message_words.specs.BodyOctets.{alternating_octets}
use Rattle.message_words.proofs.octets.put_alternating.Given as goal

abbrev pub invariant-loop-word : goal.invariant-loop-word
invariant-loop-word l =
    record {
      to_come : l.out.items ++ alternating_octets l.width l.next (map (λ word. word.now) (drop l.word-index l.words)) ≡ l.fn.out.items ++ alternating_octets l.octets l.other (map (λ word. word.now) l.words);
      width : (1 ≤ l.width) × (l.width ≤ 4);
      next : (1 ≤ l.next) × (l.next ≤ 4);
    }
