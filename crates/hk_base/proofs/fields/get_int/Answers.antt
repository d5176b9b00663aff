use Rattle.std.proofs.Common.{◌*◌, ℕ, take, arith, ap, ◌∙◌, sym, rules, FitsSigned}
use Rattle.std.specs.Int.{w128}
use Rattle.std.proofs.lemmas.Int.{to_z-of_z}
use Rattle.hk_base.specs.Fields.{number_of, signed_of}
use Rattle.hk_base.proofs.Numbers.{length-take_within, pow_of_octets}
use Rattle.hk_base.proofs.fields.get_int.Goals as goal

pub sign_extended-requires-clause-fits : goal.sign_extended-requires-clause-fits
sign_extended-requires-clause-fits c = omega (arith, c.in_ok-number.ensures.fits, pow_of_octets c.args.octets)

pub returns-clause-value : goal.returns-clause-value
returns-clause-value c =
    let within : FitsSigned w128 c.sign_extended.result = search rules in
    to_z-of_z w128 c.sign_extended.result within
    ∙ (c.sign_extended.ensures
    ∙ (ap (λ (n : ℕ). signed_of (8 * c.args.octets) n) c.in_ok-number.ensures.value
    ∙ ap (λ (n : ℕ). signed_of (8 * n) (number_of (take c.args.octets c.args.bytes.now))) (sym (length-take_within c.args.octets c.args.bytes.now c.in_ok-number.ensures.enough))))
