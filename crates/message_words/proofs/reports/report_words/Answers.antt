use Rattle.std.proofs.Common.{ℕ, ◌∙◌, [], ◌∷◌, ◌++◌, ap, Vec, Global}
use Rattle.std.specs.Fmt.{decimal}
use Rattle.message_words.specs.Words.{type_word, report_body_words}
use Rattle.message_words.proofs.TailLemmas.{line_is}
use Rattle.message_words.proofs.reports.report_words.Goals as goal

pub returns : goal.returns
returns c =
    let r = c.args.report.now in
    c.from_vec.ensures
    ∙ ap (λ (v : Vec ℕ Global). v.items) c.into_bytes.ensures.value
    ∙ line_is (decimal r.header.tag) _ _ _ (type_word r.header.service r.header.subtype ∷ []) (report_body_words r.body)
    (c.in_ok-write.ensures.bytes ∙ ap (λ start. start ++ decimal r.header.tag) c.new-line.ensures.bytes) c.in_ok-push_type.ensures c.in_ok-push_body.ensures
