use Rattle.std.proofs.Common.{◌≡◌, true, ℤ, sym, subst}
use Rattle.std.specs.Int.{w128}
use Rattle.std.proofs.lemmas.Int.{to_z-of_z}
use Rattle.hk_base.specs.Parameters.{parameter, fits}
use Rattle.body_fields.specs.Spelling.{IsInOctets}
use Rattle.body_fields.proofs.FitLemmas.{fits-in_octets}
use Rattle.body_fields.proofs.NamedLemmas.{known_fits}
use Rattle.body_fields.proofs.named.write_value_of.Goals as goal

pub write_form_number-requires-clause-fits : goal.write_form_number-requires-clause-fits
write_form_number-requires-clause-fits c =
    let p = c.in-Some.param.now in
    let fitting : fits p c.args.value ≡ true = known_fits (parameter c.args.tailoring.now c.args.id) p c.args.value (sym c.in-Some.ensures.param) c.requires.fits in
    subst (λ (v : ℤ). IsInOctets p.form p.octets v) (sym (to_z-of_z w128 c.args.value c.ranges.value)) (fits-in_octets p c.args.value c.in-Some.ensures.fit_param.shape fitting)
