-- The moment that a text is the text of.
use Rattle.std.specs.Prelude.{ℕ, List, [], ◌∷◌, map, ◌==◌, Bool, Option, Some, None, option_map, codes, if◌then◌else◌}
use Rattle.std.specs.List.{slice_split}
use Rattle.std.specs.Result.{result_ok}
use Rattle.std.specs.Str.{bytes_eq}
use Rattle.hex.specs.Hex.{decode_of}
use Rattle.message_words.specs.Numbers.{number_in, wide_number_in, value_in}
use Rattle.message_words.specs.Reading.{is_ascii}
use Rattle.hk_world.specs.declared.moment.Moment.{Moment}
use Rattle.hk_world.specs.declared.moment.Act.{Act}
use Rattle.hk_world.specs.declared.moment.Act.TheVariants.{Accepted, TurnedAway, Started, NotStarted, Executed, Completed, Emitted, Filed}
use Rattle.journal_texts.specs.JournalTexts.{journal_text}

-- the number of a request
abbrev pub request_in : List (List ℕ) → Option ℕ
request_in (k ∷ []) = Some (wide_number_in k)
request_in _ = None

-- a request, an instruction of it, and whether it was done
abbrev pub execution_in : List (List ℕ) → Option Act
execution_in (k ∷ number ∷ done ∷ []) = Some (Executed (wide_number_in k) (number_in number) (bytes_eq done (codes "done")))
execution_in _ = None

-- a request, and its instructions that were refused
abbrev pub completion_in : List (List ℕ) → Option Act
completion_in [] = None
completion_in (k ∷ refused) = Some (Completed (wide_number_in k) (map number_in refused))

-- a parameter, a slot and the value
abbrev pub filing_in : List (List ℕ) → Option Act
filing_in (param ∷ slot ∷ value ∷ []) = Some (Filed (number_in param) (wide_number_in slot) (value_in value))
filing_in _ = None

-- the act that words name
abbrev pub act_in : List (List ℕ) → Option Act
act_in [] = None
act_in (what ∷ words) =
    if bytes_eq what (codes "accepted") then option_map (λ k. Accepted k) (request_in words)
    else if bytes_eq what (codes "turned-away") then option_map (λ k. TurnedAway k) (request_in words)
    else if bytes_eq what (codes "started") then option_map (λ k. Started k) (request_in words)
    else if bytes_eq what (codes "not-started") then option_map (λ k. NotStarted k) (request_in words)
    else if bytes_eq what (codes "executed") then execution_in words
    else if bytes_eq what (codes "completed") then completion_in words
    else if bytes_eq what (codes "emitted") then Some Emitted
    else if bytes_eq what (codes "filed") then filing_in words
    else None

-- the octets of a packet that one word names
abbrev pub packet_in_words : List (List ℕ) → Option (List ℕ)
packet_in_words (digits ∷ []) = result_ok (decode_of digits)
packet_in_words _ = None

-- the octets of a packet, none where there are no words of one
abbrev pub packet_in : List (List (List ℕ)) → Option (List ℕ)
packet_in [] = Some []
packet_in (words ∷ others) = packet_in_words words

-- the word before the octets of a packet
abbrev pub is_packet : List ℕ → Bool
is_packet word = bytes_eq word (codes "packet")

-- a moment of these parts, where they are there
abbrev pub moment_with : ℕ → Option Act → Option (List ℕ) → Option Moment
moment_with tag (Some act) (Some packet) = Some (record { tag = tag; act = act; packet = packet })
moment_with tag (Some act) None = None
moment_with tag None packet = None

-- the moment that the words of an act and those of a packet name
abbrev pub moment_in_sections : ℕ → List (List (List ℕ)) → Option Moment
moment_in_sections tag [] = None
moment_in_sections tag (act ∷ packets) = moment_with tag (act_in act) (packet_in packets)

-- the moment with this tag that the words of its act, and those of its packet behind them, name
abbrev pub moment_at : ℕ → List (List ℕ) → Option Moment
moment_at tag words = moment_in_sections tag (slice_split is_packet words)

-- the moment that words name: its tag, its act and its packet
abbrev pub moment_in_words : List (List ℕ) → Option Moment
moment_in_words [] = None
moment_in_words (tag ∷ words) = moment_at (wide_number_in tag) words

-- a moment whose text is this one
abbrev pub with_text : List ℕ → Option Moment → Option Moment
with_text text None = None
with_text text (Some m) = if bytes_eq (journal_text m) text then Some m else None

-- the moment whose text this is: the one that its words, which one blank divides, name, where that one's text is this one
abbrev pub moment_in_text : List ℕ → Option Moment
moment_in_text text =
    if is_ascii text then with_text text (moment_in_words (slice_split (λ octet. octet == 32) text)) else None
