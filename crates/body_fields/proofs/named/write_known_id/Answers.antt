use Rattle.std.proofs.Common.{◌<◌, ◌^◌, ℕ, sym, subst}
use Rattle.hk_base.specs.declared.types.Widths.{Widths}
use Rattle.body_fields.proofs.FitLemmas.{known_in_octets}
use Rattle.body_fields.proofs.named.write_known_id.Goals as goal

pub put_uint-requires-clause-fits : goal.put_uint-requires-clause-fits
put_uint-requires-clause-fits c =
    let room = known_in_octets c.args.tailoring.now c.args.id c.widths.ensures.fit c.requires in
    let at_widths = subst (λ (w : Widths). c.args.id < 256 ^ w.parameter_octets) (sym c.widths.ensures.widths) room in
    subst (λ (n : ℕ). n < 256 ^ c.widths.result.now.parameter_octets) (sym c.from.ensures) at_widths
