use Rattle.std.proofs.Common.{◌∙◌, ◌++◌, ap, Vec, Global, ℕ}
use Rattle.std.specs.Fmt.{decimal}
use Rattle.std.specs.String.{string_bytes}
use Rattle.message_words.specs.Tails.{tail}
use Rattle.journal_texts.specs.JournalTexts.{act_words, packet_words}
use Rattle.message_words.proofs.TailLemmas.{line_is}
use Rattle.journal_texts.proofs.writing.journal_text.Goals as goal

pub returns : goal.returns
returns c =
    let m = c.args.moment.now in
    c.from_vec.ensures
    ∙ ap (λ (v : Vec ℕ Global). v.items) c.into_bytes.ensures.value
    ∙ line_is (decimal m.tag) _ _ _ (act_words m.act) (packet_words m.packet)
    (c.in_ok-write.ensures.bytes ∙ ap (λ start. start ++ decimal m.tag) c.new-line.ensures.bytes) c.in_ok-push_act.ensures
    (c.in_ok-push_packet.ensures ∙ ap (λ packet. string_bytes c.push_act.new.line ++ tail (packet_words packet)) c.as_slice.ensures)
