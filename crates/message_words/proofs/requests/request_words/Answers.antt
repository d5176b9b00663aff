use Rattle.std.proofs.Common.{ℕ, ◌∙◌, [], ◌∷◌, ◌++◌, ap, Vec, Global}
use Rattle.std.specs.Fmt.{decimal}
use Rattle.message_words.specs.Words.{hex, request_body_words, text_of_words}
use Rattle.message_words.proofs.TailLemmas.{line_is}
use Rattle.message_words.proofs.requests.request_words.Goals as goal

pub returns : goal.returns
returns c =
    let r = c.args.request.now in
    c.from_vec.ensures
    ∙ ap (λ (v : Vec ℕ Global). v.items) c.into_bytes.ensures.value
    ∙ line_is (decimal r.header.count) _ _ _ (hex 1 c.from.result ∷ []) (request_body_words r.body)
    (c.in_ok-write.ensures.bytes ∙ ap (λ start. start ++ decimal r.header.count) c.new-line.ensures.bytes) c.in_ok-push_hex.ensures c.in_ok-push_body.ensures
    ∙ ap (λ flags. text_of_words (decimal r.header.count ∷ hex 1 flags ∷ request_body_words r.body)) c.from.ensures
