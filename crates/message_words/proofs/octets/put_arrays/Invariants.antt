use Rattle.std.proofs.Common.{◌≡◌, ◌++◌, map, flat_map, drop}
use Rattle.message_words.specs.BodyOctets.{array_octets}
use Rattle.message_words.proofs.octets.put_arrays.Given as goal

abbrev pub invariant-loop-array : goal.invariant-loop-array
invariant-loop-array l =
    l.out.items ++ flat_map (array_octets l.tailoring) (map (λ part. map (λ word. word.now) part.now) (drop l.array-index l.arrays))
    ≡ l.fn.out.items ++ flat_map (array_octets l.tailoring) (map (λ part. map (λ word. word.now) part.now) l.arrays)
