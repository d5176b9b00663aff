-- The line of an entry of a record.
use Rattle.std.specs.Prelude.{ℕ, List, [], ◌∷◌, ◌++◌, map, ◌&&◌, nat_le, codes, Result, Ok, Err, if◌then◌else◌}
use Rattle.std.specs.Fmt.{decimal}
use Rattle.hk_base.specs.TailoringParts.{TailoringParts}
use Rattle.pus_messages.specs.declared.message.Request.{Request}
use Rattle.pus_messages.specs.declared.message.MessageFault.{MessageFault}
use Rattle.pus_messages.specs.Protocol.{Reception, foreign, skipped, unread, readable}
use Rattle.pus_messages.specs.Messages.{request_of, reception}
use Rattle.message_words.specs.Words.{request_text, report_text, type_word}
use Rattle.session_record.specs.declared.entry.Entry.{Entry}
use Rattle.session_record.specs.declared.entry.Entry.TheVariants.{Sent, Got, Line}

-- the words of what was sent: those of a request, if it is one
abbrev pub sent_words : Result Request MessageFault → List ℕ
sent_words (Ok request) = request_text request
sent_words (Err fault) = codes "unread"

-- the words of what was received: that it is of another process or of a type that isn't known, those of a report, or that it is none
abbrev pub got_words : Reception → List ℕ
got_words (foreign apid) = codes "foreign " ++ decimal apid
got_words (skipped service subtype) = codes "skipped " ++ type_word service subtype
got_words unread = codes "unread"
got_words (readable report) = report_text report

-- an octet as it is shown: itself where it is a blank or a sign of ASCII, and else a question mark
abbrev pub printable : ℕ → ℕ
printable octet = if nat_le 0x20 octet && nat_le octet 0x7e then octet else 0x3f

-- the line of an entry
unfoldable pub entry_line : TailoringParts → Entry → List ℕ
entry_line t (Sent packet) = codes "sent " ++ (sent_words (request_of t packet) ++ 10 ∷ [])
entry_line t (Got packet) = codes "got " ++ (got_words (reception t packet) ++ 10 ∷ [])
entry_line t (Line text) = codes "journal " ++ (map printable text ++ 10 ∷ [])
