use Rattle.std.proofs.Common.{◌≡◌, ◌++◌, drop, flat_map}
use Rattle.hk_base.specs.Payload.{places}
use Rattle.generated_sessions.specs.Generated.{sample_octets}
use Rattle.generated_sessions.proofs.payload.put_samples.Given as goal

abbrev pub invariant-loop-number : goal.invariant-loop-number
invariant-loop-number l =
    l.out.items ++ flat_map (sample_octets l.seed) (drop l.number (places l.def l.last))
    ≡ l.fn.out.items ++ flat_map (sample_octets l.seed) (places l.def l.last)
