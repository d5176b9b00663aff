use Rattle.std.proofs.Common.{◌≡◌, false, length, rules}
use Rattle.std.specs.Prelude.{nat_lt}
use Rattle.std.proofs.lemmas.Result.{err_from_is_err_and}
use Rattle.st03_grammar.specs.Bodies.{request_body}
use Rattle.message_words.specs.Reading.{most_octets}
use Rattle.message_words.proofs.BodyFaults.{refused}
use Rattle.message_words.proofs.bodies.decode03.Goals as goal

pub returns-in_err-decode_request : goal.returns-in_err-decode_request
returns-in_err-decode_request c =
    let p = err_from_is_err_and c.from_residual.result c.from_residual.ensures.1 in
    let few : nat_lt most_octets (length c.args.octets.now) ≡ false = search rules in
    refused (request_body c.args.tailoring.now c.args.subtype) c.args.octets.now c.in_err-decode_request.field-0.0 c.from_residual.result p.0 p.1 p.2 few c.in_err-decode_request.ensures.gives
