use Rattle.std.proofs.Common.{◌≡◌, ◌∙◌, sym, ap, subst, ◌++◌, ◌≤◌, ◌^◌, length}
use Rattle.pus_messages.specs.Spelling.{request_body_octets}
use Rattle.pus_messages.proofs.BoundLemmas.{request_most}
use Rattle.pus_messages.proofs.writing.request_body.Goals as goal

pub returns-clause-short : goal.returns-clause-short
returns-clause-short c =
    let t = c.args.tailoring.now in
    let body = c.args.body.now in
    let is : c.from_vec.result ≡ request_body_octets t body =
    c.from_vec.ensures ∙ (c.in_ok-write_request_body.ensures ∙ ap (λ xs. xs ++ request_body_octets t body) c.new-out.ensures.items) in
    subst (λ xs. length xs ≤ 2 ^ 31) (sym is) (request_most t body c.widths-fit.ensures.fit c.requires)
