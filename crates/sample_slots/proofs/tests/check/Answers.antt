use Rattle.std.proofs.Common.{◌≡◌, ℤ, List, Ok, sym, subst, rules}
use Rattle.hk_base.specs.Definitions.{IsWellFormed}
use Rattle.hk_base.specs.Payload.{AllFit, places, payload_read}
use Rattle.sample_slots.proofs.SpellingLaws.{read-payload}
use Rattle.sample_slots.proofs.tests.check.Goals as goal

pub write_payload-requires-clause-fit : goal.write_payload-requires-clause-fit
write_payload-requires-clause-fit g c =
    let t = c.args.tailoring.now in
    let d = c.in_ok-def.field-0.now.def in
    let formed : IsWellFormed t d = search rules in
    let read : payload_read t d c.args.bytes.now ≡ Ok c.in-Ok-Ok.values = c.in-Ok-Ok.ensures.values in
    subst (λ (vs : List ℤ). AllFit t (places d d.interval) vs) (sym c.as_slice-in-Ok-Ok.ensures) (read-payload t d c.in-Ok-Ok.values c.args.bytes.now formed read).fit
