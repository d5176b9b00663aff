-- The words of a packet, and its octets read from them.
use Rattle.std.proofs.Common.{◌≡◌, ℕ, zero, suc, lit<, ◌/◌, ◌%◌, ◌<◌, Bool, true, false, List, [], ◌∷◌, ◌++◌, length, Some, refl, ap, sym, ◌∙◌, arith, append-nil}
use Rattle.std.specs.Prelude.{slice_index, ◌==◌, ◌&&◌, nat_le, codes}
use Rattle.std.specs.List.{AllByRecursion, list_all, slice_split}
use Rattle.std.specs.Str.{bytes_eq}
use Rattle.std.specs.Result.{result_ok}
use Rattle.std.proofs.lemmas.List.Splits.{slice_split_none, slice_split_at}
use Rattle.std.proofs.lemmas.List.Elements.{All-from_recursion}
use Rattle.hex.specs.Hex.{IsBytes, encode_lower, encode_with, lower_digits}
use Rattle.hex.proofs.HexLemmas.{decode_of-encode_lower}
use Rattle.body_fields.specs.Spelling.{AreOctets}
use Rattle.message_words.specs.Tails.{tail}
use Rattle.message_words.specs.Lines.{is_printed, IsWord, AreWords}
use Rattle.message_words.proofs.LineLemmas.{both_true, left_true, right_true}
use Rattle.journal_texts.specs.JournalTexts.{packet_words}
use Rattle.journal_texts.specs.Reading.{is_packet, packet_in}

-- a test of octets from the first digit to the last
abbrev in_digits : ℕ → Bool
in_digits octet = nat_le 48 octet && nat_le octet 102

in_table : (t : List ℕ) → list_all in_digits t ≡ true → (k : ℕ) → k < length t → in_digits (slice_index t k) ≡ true
in_table [] e k l = absurd (omega arith)
in_table (c ∷ cs) e zero l = left_true (in_digits c) (list_all in_digits cs) e
in_table (c ∷ cs) e (suc k) l = in_table cs (right_true (in_digits c) (list_all in_digits cs) e) k (omega arith)

digit-between : (k : ℕ) → k < 16 → in_digits (slice_index lower_digits k) ≡ true
digit-between k l = in_table lower_digits refl k l

printed : (c : ℕ) → in_digits c ≡ true → is_printed c ≡ true
printed c e = grind arith

no_mark : (c : ℕ) → in_digits c ≡ true → (c == 112) ≡ false
no_mark c e = grind arith

hex-word : (octets : List ℕ) → AreOctets octets → IsWord (encode_lower octets)
unfolding encode_with
hex-word [] are = refl
hex-word (b ∷ rest) are =
    let high : b / 16 < 16 = omega (arith, are.0) in
    let low : b % 16 < 16 = omega arith in
    both_true (is_printed (slice_index lower_digits (b / 16))) _ (printed (slice_index lower_digits (b / 16)) (digit-between (b / 16) high))
    (both_true (is_printed (slice_index lower_digits (b % 16))) _ (printed (slice_index lower_digits (b % 16)) (digit-between (b % 16) low)) (hex-word rest are.1))

first_unmarked : (c : ℕ) (cs : List ℕ) → (c == 112) ≡ false → is_packet (c ∷ cs) ≡ false
first_unmarked c cs e = ap (λ b. b && bytes_eq cs (codes "acket")) e

hex-unmarked : (b : ℕ) (rest : List ℕ) → b < 256 → is_packet (encode_lower (b ∷ rest)) ≡ false
unfolding encode_with
hex-unmarked b rest l =
    let high : b / 16 < 16 = omega arith in
    first_unmarked (slice_index lower_digits (b / 16)) (slice_index lower_digits (b % 16) ∷ encode_with lower_digits rest)
    (no_mark (slice_index lower_digits (b / 16)) (digit-between (b / 16) high))

-- the words of a packet are words of a line
pub packet-words : (packet : List ℕ) → AreOctets packet → AreWords (packet_words packet)
packet-words [] are = tt
packet-words (b ∷ rest) are = (refl, (hex-word (b ∷ rest) are, tt))

are_bytes : (octets : List ℕ) → AreOctets octets → IsBytes octets
are_bytes [] are i = lit< tt
are_bytes (b ∷ rest) are zero = are.0
are_bytes (b ∷ rest) are (suc i) = are_bytes rest are.1 i

-- the words behind the one that is before a packet
abbrev pub packet_sections : List ℕ → List (List (List ℕ))
packet_sections [] = []
packet_sections (b ∷ rest) = (encode_lower (b ∷ rest) ∷ []) ∷ []

-- words with those of a packet behind them are divided before the packet
pub sections-again : (words : List (List ℕ)) (packet : List ℕ) → AllByRecursion (λ word. is_packet word ≡ false) words → AreOctets packet
    → slice_split is_packet (words ++ packet_words packet) ≡ words ∷ packet_sections packet
sections-again words [] unmarked are =
    ap (slice_split is_packet) (append-nil words) ∙ slice_split_none is_packet words (All-from_recursion _ words unmarked)
sections-again words (b ∷ rest) unmarked are =
    let digits : List ℕ = encode_lower (b ∷ rest) in
    slice_split_at is_packet words (codes "packet") (digits ∷ []) (All-from_recursion _ words unmarked) refl
    ∙ ap (λ others. words ∷ others) (slice_split_none is_packet (digits ∷ []) (All-from_recursion (λ word. is_packet word ≡ false) (digits ∷ []) (hex-unmarked b rest are.0, tt)))

-- a packet is read from its words
pub packet-again : (packet : List ℕ) → AreOctets packet → packet_in (packet_sections packet) ≡ Some packet
packet-again [] are = refl
packet-again (b ∷ rest) are = ap result_ok (decode_of-encode_lower (b ∷ rest) (are_bytes (b ∷ rest) are))

-- what stands behind a line for a packet that has octets
pub packet-tail : (packet : List ℕ) → (length packet == 0) ≡ false → codes " packet " ++ encode_lower packet ≡ tail (packet_words packet)
packet-tail [] e = cc
packet-tail (b ∷ rest) e = ap (λ digits. codes " packet " ++ digits) (sym (append-nil (encode_lower (b ∷ rest))))
