use Rattle.std.proofs.Common.{lit≤, lit<, sym, subst}
use Rattle.hk_base.specs.TailoringParts.{TailoringParts}
use Rattle.body_fields.specs.Spelling.{IsInterval}
use Rattle.st04_grammar.proofs.tests.written_request.Goals as goal

pub encode_request-requires : goal.encode_request-requires
encode_request-requires c = subst (λ (t : TailoringParts). IsInterval t 4096) (sym c.in_ok-tailoring.ensures) ((lit≤ tt, lit≤ tt), lit< tt)
