use Rattle.std.proofs.Common.{◌++◌, ap, sym, ◌∙◌}
use Rattle.std.specs.Prelude.{codes}
use Rattle.std.specs.String.{string_bytes}
use Rattle.journal_texts.proofs.PacketsAgain.{packet-tail}
use Rattle.journal_texts.proofs.writing.push_packet.Goals as goal

pub returns : goal.returns
returns c =
    c.in_ok-write.ensures.bytes
    ∙ ap (λ digits. string_bytes c.args.line.now ++ (codes " packet " ++ digits)) c.in_ok-digits.ensures
    ∙ ap (λ put. string_bytes c.args.line.now ++ put) (packet-tail c.args.packet.now (sym c.is_empty.ensures ∙ c.if-is_empty.false))
