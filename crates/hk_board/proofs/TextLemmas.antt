-- The lines of a journal are short enough for the entries of a record.
use Rattle.std.proofs.Common.{arith, ◌≡◌, ◌+◌, ◌*◌, ◌<◌, ◌≤◌, ◌^◌, ℕ, ℤ, pos, negsuc, suc, Bool, true, false, List, [], ◌∷◌, ◌++◌, length, length-append, map, refl, sym, subst, ◌∙◌}
use Rattle.std.specs.Prelude.{reverse, codes}
use Rattle.std.specs.List.{AllByRecursion, join_with_byte}
use Rattle.std.specs.Fmt.{decimal, signed_decimal}
use Rattle.std.proofs.lemmas.List.{reverse-append, reverse-reverse, length-map}
use Rattle.std.proofs.lemmas.Fmt.{length-decimal-le, length-decimal-le_wide}
use Rattle.hex.specs.Hex.{lower_digits}
use Rattle.hex.proofs.HexLemmas.{length-encode_with}
use Rattle.hk_base.specs.Fit.{greatest_tag}
use Rattle.hk_base.specs.Fields.{FitsSignedOctets}
use Rattle.hk_base.specs.TailoringParts.{TailoringParts}
use Rattle.hk_base.proofs.Membership.{AllByRecursion-append}
use Rattle.hk_world.specs.declared.moment.Moment.{Moment}
use Rattle.hk_world.specs.declared.moment.Act.{Act}
use Rattle.hk_world.specs.declared.moment.Act.TheVariants.{Accepted, TurnedAway, Started, NotStarted, Executed, Completed, Emitted, Filed}
use Rattle.board_steps.specs.Cores.{Core}
use Rattle.board_steps.specs.Added.{IsActWithin, IsWithin, IsJournal}
use Rattle.journal_texts.specs.JournalTexts.{done_word, act_words, packet_words, moment_words, journal_text}

-- words of at most 131,084 digits, which is twice the octets of the longest packet
abbrev AreWords : List (List ℕ) → Type 0
AreWords words = AllByRecursion (λ word. length word ≤ 131084) words

joined : (words : List (List ℕ)) → AreWords words → length (join_with_byte 32 words) ≤ 131085 * length words
joined [] all = omega arith
joined (word ∷ []) all = omega (arith, all.0)
joined (word ∷ next ∷ words) all =
    omega (arith, all.0, joined (next ∷ words) all.1, length-append word (32 ∷ join_with_byte 32 (next ∷ words)))

digits : (n : ℕ) → n < 2 ^ 56 → length (decimal n) ≤ 131084
digits n small =
    let few : length (decimal n) ≤ 20 = length-decimal-le 20 n (omega arith) (omega (arith, small)) (omega (arith, small)) in
    omega (arith, few)

small_digits : (n : ℕ) → n < 65536 → length (decimal n) ≤ 131084
small_digits n small = digits n (omega (arith, small))

value_digits : (value : ℤ) → FitsSignedOctets 16 value → length (signed_decimal value) ≤ 131084
value_digits (pos n) fits =
    let few : length (decimal n) ≤ 40 = length-decimal-le_wide 40 n (omega arith) (omega (arith, fits)) (omega (arith, fits)) in
    omega (arith, few)
value_digits (negsuc n) fits =
    let few : length (decimal (suc n)) ≤ 40 = length-decimal-le_wide 40 (suc n) (omega arith) (omega (arith, fits)) (omega (arith, fits)) in
    omega (arith, few)

numbers : (refused : List ℕ) → AllByRecursion (λ n. n ≤ 255) refused → AreWords (map decimal refused)
numbers [] small = tt
numbers (n ∷ refused) small = (small_digits n (omega (arith, small.0)), numbers refused small.1)

flag : (done : Bool) → length (done_word done) ≤ 131084
flag true = omega arith
flag false = omega arith

act : (t : TailoringParts) (slot : ℕ) (a : Act) → slot < 2 ^ 56 → IsActWithin t slot a → AreWords (act_words a) × (length (act_words a) ≤ 257)
act t slot (Accepted k) early within = ((omega arith, (small_digits k (omega (arith, within)), tt)), omega arith)
act t slot (TurnedAway k) early within = ((omega arith, (small_digits k (omega (arith, within)), tt)), omega arith)
act t slot (Started k) early within = ((omega arith, (small_digits k (omega (arith, within)), tt)), omega arith)
act t slot (NotStarted k) early within = ((omega arith, (small_digits k (omega (arith, within)), tt)), omega arith)
act t slot (Executed k number done) early within =
    ((omega arith, (small_digits k (omega (arith, within.0)), (small_digits number (omega (arith, within.1)), (flag done, tt)))), omega arith)
act t slot (Completed k refused) early within =
    ((omega arith, (small_digits k (omega (arith, within.0)), numbers refused within.2)), omega (arith, within.1, length-map refused decimal))
act t slot Emitted early within = ((omega arith, tt), omega arith)
act t slot (Filed id x value) early within =
    ((omega arith, (small_digits id within.0, (digits x (omega (arith, within.1, early)), (value_digits value within.2, tt)))), omega arith)

packet : (octets : List ℕ) → length octets ≤ 65542 → AreWords (packet_words octets) × (length (packet_words octets) ≤ 2)
packet [] size = (tt, omega arith)
packet (octet ∷ octets) size = ((omega arith, (omega (arith, size, length-encode_with lower_digits (octet ∷ octets)), tt)), omega arith)

line_short : (t : TailoringParts) (slot : ℕ) (m : Moment) → greatest_tag t < 2 ^ 56 → slot ≤ greatest_tag t → IsWithin t slot m → length (journal_text m) ≤ 2 ^ 31
line_short t slot m greatest early within =
    let a = act t slot m.act (omega (arith, greatest, early)) within.act in
    let p = packet m.packet within.size in
    let words : AreWords (moment_words m) = (digits m.tag (omega (arith, within.tag, greatest)), AllByRecursion-append (λ word. length word ≤ 131084) (act_words m.act) (packet_words m.packet) a.0 p.0) in
    omega (arith, joined (moment_words m) words, a.1, p.1, length-append (act_words m.act) (packet_words m.packet))

lines_short : (t : TailoringParts) (slot : ℕ) (moments : List Moment) → greatest_tag t < 2 ^ 56 → slot ≤ greatest_tag t → AllByRecursion (IsWithin t slot) moments
    → AllByRecursion (λ m. length (journal_text m) ≤ 2 ^ 31) moments
lines_short t slot [] greatest early within = tt
lines_short t slot (m ∷ moments) greatest early within =
    (line_short t slot m greatest early within.0, lines_short t slot moments greatest early within.1)

packets_short : (t : TailoringParts) (slot : ℕ) (moments : List Moment) → AllByRecursion (IsWithin t slot) moments → AllByRecursion (λ m. length m.packet ≤ 2 ^ 31) moments
packets_short t slot [] within = tt
packets_short t slot (m ∷ moments) within = (omega (arith, within.0.size), packets_short t slot moments within.1)

tags_early : (t : TailoringParts) (slot : ℕ) (moments : List Moment) → greatest_tag t < 2 ^ 56 → AllByRecursion (IsWithin t slot) moments → AllByRecursion (λ m. m.tag < 2 ^ 63) moments
tags_early t slot [] greatest within = tt
tags_early t slot (m ∷ moments) greatest within = (omega (arith, within.0.tag, greatest), tags_early t slot moments greatest within.1)

all_reverse : {X : Type 0} (P : X → Type 0) (xs : List X) → AllByRecursion P xs → AllByRecursion P (reverse xs)
all_reverse P [] h = tt
all_reverse P (x ∷ xs) h =
    subst (AllByRecursion P) (sym (reverse-append (x ∷ []) xs)) (AllByRecursion-append P (reverse xs) (x ∷ []) (all_reverse P xs h.1) (h.0, tt))

-- what holds of the moments of a core holds of its journal, whose oldest moment is first
of_journal : {X : Type 0} (P : X → Type 0) (journal moments : List X) → reverse journal ≡ moments → AllByRecursion P moments → AllByRecursion P journal
of_journal P journal moments is all = subst (AllByRecursion P) (reverse-reverse journal) (all_reverse P (reverse journal) (subst (AllByRecursion P) (sym is) all))

pub journal_lines : (c : Core) (journal : List Moment) → reverse journal ≡ c.moments → IsJournal c → AllByRecursion (λ m. length (journal_text m) ≤ 2 ^ 31) journal
journal_lines c journal is stands =
    of_journal (λ (m : Moment). length (journal_text m) ≤ 2 ^ 31) journal c.moments is (lines_short c.tailoring c.slot_now c.moments stands.greatest stands.slot stands.moments)

pub journal_packets : (c : Core) (journal : List Moment) → reverse journal ≡ c.moments → IsJournal c → AllByRecursion (λ m. length m.packet ≤ 2 ^ 31) journal
journal_packets c journal is stands =
    of_journal (λ (m : Moment). length m.packet ≤ 2 ^ 31) journal c.moments is (packets_short c.tailoring c.slot_now c.moments stands.moments)

pub journal_tags : (c : Core) (journal : List Moment) → reverse journal ≡ c.moments → IsJournal c → AllByRecursion (λ m. m.tag < 2 ^ 63) journal
journal_tags c journal is stands =
    of_journal (λ (m : Moment). m.tag < 2 ^ 63) journal c.moments is (tags_early c.tailoring c.slot_now c.moments stands.greatest stands.moments)
