use Rattle.std.proofs.Common.{arith, ◌≡◌, ℕ, List, true, Result}
use Rattle.std.specs.Prelude.{is_some, IfSome, IfOk}
use Rattle.std.proofs.lemmas.Result.{IfOk-weaker}
use Rattle.hk_base.specs.TailoringParts.{TailoringParts}
use Rattle.body_fields.specs.Outcomes.{Gives}
use Rattle.body_fields.specs.Reading.{reader}
use Rattle.body_fields.specs.Spelling.{AreOctets}
use Rattle.body_fields.specs.declared.fault.BodyFault.{BodyFault}
use Rattle.body_fields.proofs.BodyLemmas.{read_is, octets_below}
use Rattle.st03_grammar.specs.Bodies.{request_table, request_body}
use Rattle.st03_grammar.specs.Spelling.{IsSpelledRequest}
use Rattle.st03_grammar.specs.declared.bodies.Request03.{Request03}
use Rattle.st03_grammar.proofs.Fitting.{few_instructions}
use Rattle.st03_grammar.proofs.Apart.{read_apart}
use Rattle.st03_grammar.proofs.TakenBodies.{request-took}
use Rattle.st03_grammar.proofs.requests.decode_request.Goals as goal

-- what was decoded stood in its spelling
found : (t : TailoringParts) (subtype : ℕ) (body : List ℕ) (result : Result Request03 BodyFault) → AreOctets body → is_some (reader (request_table t) subtype) ≡ true
    → IfSome (request_body t subtype body) (λ given. Gives (λ request. request) result given)
    → IfOk result (λ request. IsSpelledRequest t subtype request body)
found t subtype body result below known gives =
    IfOk-weaker result _ _ (λ request e. request-took t subtype body request below e) (read_is (request_table t) subtype body result known gives)

pub returns-clause-found : goal.returns-clause-found
returns-clause-found c =
    found c.args.tailoring.now c.args.subtype c.args.body.now c.read_body.result (octets_below c.args.body.now (λ i. omega (arith, c.type_inv.body i))) c.requires.known c.read_body.ensures

pub returns-clause-few : goal.returns-clause-few
returns-clause-few c =
    let t = c.args.tailoring.now in
    IfOk-weaker c.read_body.result _ _ (λ request spelled. few_instructions t request spelled.2)
    (found t c.args.subtype c.args.body.now c.read_body.result (octets_below c.args.body.now (λ i. omega (arith, c.type_inv.body i))) c.requires.known c.read_body.ensures)

pub returns-clause-apart : goal.returns-clause-apart
returns-clause-apart c = read_apart c.args.tailoring.now c.args.subtype c.args.body.now c.read_body.result c.requires.known c.read_body.ensures
