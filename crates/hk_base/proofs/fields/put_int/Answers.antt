use Rattle.std.proofs.Common.{◌++◌, ℕ, ℤ, ◌-◌, take, drop, ap, ◌∙◌}
use Rattle.std.specs.Int.{w128, to_be_bytes, cast_unsigned}
use Rattle.std.proofs.lemmas.Int.{to_z-of_z}
use Rattle.hk_base.proofs.Numbers.{last_octets, narrow}
use Rattle.hk_base.proofs.fields.put_int.Goals as goal

pub returns-clause-ok : goal.returns-clause-ok
returns-clause-ok c =
    let all = c.to_be_bytes-all.result in
    c.in_ok-extend_from_slice.ensures.items ∙ ap (λ xs. c.args.out.now.items ++ xs)
    (ap (λ (n : ℕ). take (16 - (16 - n)) (drop (16 - n) all)) c.from.ensures
    ∙ (last_octets c.args.octets _ all c.requires.width.1 (c.to_be_bytes-all.ensures ∙ ap (λ (z : ℤ). to_be_bytes w128 (cast_unsigned w128 z)) (to_z-of_z w128 c.args.value c.ranges.value))
    ∙ narrow c.args.octets c.args.value c.requires.width.1 c.requires.fits))
