-- What is read from words is a moment whose numbers are in the ranges of their types.
use Rattle.std.proofs.Common.{◌≡◌, ℕ, zero, suc, ◌-◌, ◌^◌, ◌<◌, ◌≤◌, pos, neg_ℤ, Bool, true, false, List, [], ◌∷◌, map, Option, Some, None, Result, Ok, Err, refl, subst, arith}
use Rattle.std.specs.Prelude.{◌==◌, IfSome, option_map, codes, if◌then◌else◌}
use Rattle.std.specs.List.{AllByRecursion, slice_split}
use Rattle.std.specs.Str.{bytes_eq}
use Rattle.std.specs.Result.{result_ok}
use Rattle.hex.specs.Hex.{IsBytes, decode_of}
use Rattle.hex.specs.declared.error.FromHexError.{FromHexError}
use Rattle.hex.proofs.HexLemmas.{decode_of-ok}
use Rattle.hk_base.specs.Fields.{FitsSignedOctets}
use Rattle.body_fields.specs.Spelling.{AreOctets}
use Rattle.message_words.specs.Numbers.{with_digit, number_from, number_in, wide_number_in, value_in}
use Rattle.hk_world.specs.declared.moment.Moment.{Moment}
use Rattle.hk_world.specs.declared.moment.Act.{Act}
use Rattle.hk_world.specs.declared.moment.Act.TheVariants.{Accepted, TurnedAway, Started, NotStarted, Emitted}
use Rattle.journal_texts.specs.Moments.{IsAct, IsMoment}
use Rattle.journal_texts.specs.Reading.{request_in, execution_in, completion_in, filing_in, act_in, packet_in_words, packet_in, is_packet, moment_with, moment_in_sections, moment_in_words}

number_from-le : (most n : ℕ) (digits : List ℕ) → n ≤ most → number_from most n digits ≤ most
number_from-le most n [] l = l
number_from-le most n (digit ∷ digits) l = number_from-le most (with_digit most n digit) digits (omega arith)

number-fits : (word : List ℕ) → number_in word < 2 ^ 32
number-fits word = omega (arith, number_from-le (2 ^ 32 - 1) 0 word (omega arith))

wide-fits : (word : List ℕ) → wide_number_in word < 2 ^ 64
wide-fits word = omega (arith, number_from-le (2 ^ 64 - 1) 0 word (omega arith))

below_zero-fits : (n : ℕ) → n ≤ 2 ^ 127 → FitsSignedOctets 16 (neg_ℤ (pos n))
below_zero-fits zero l = omega arith
below_zero-fits (suc n) l = omega arith

value-fits_by : (octet : ℕ) (octets : List ℕ) (b : Bool)
    → FitsSignedOctets 16 (if b then neg_ℤ (pos (number_from (2 ^ 127) 0 octets)) else pos (number_from (2 ^ 127 - 1) 0 (octet ∷ octets)))
value-fits_by octet octets true = below_zero-fits (number_from (2 ^ 127) 0 octets) (number_from-le (2 ^ 127) 0 octets (omega arith))
value-fits_by octet octets false = omega (arith, number_from-le (2 ^ 127 - 1) 0 (octet ∷ octets) (omega arith))

value-fits : (word : List ℕ) → FitsSignedOctets 16 (value_in word)
value-fits [] = omega arith
value-fits (octet ∷ octets) = value-fits_by octet octets (octet == 45)

numbers-fit : (words : List (List ℕ)) → AllByRecursion (λ n. n < 2 ^ 32) (map number_in words)
numbers-fit [] = tt
numbers-fit (word ∷ words) = (number-fits word, numbers-fit words)

request-fits : (act : ℕ → Act) → ((k : ℕ) → k < 2 ^ 64 → IsAct (act k)) → (words : List (List ℕ)) → IfSome (option_map act (request_in words)) IsAct
request-fits act fits [] = tt
request-fits act fits (k ∷ []) = fits (wide_number_in k) (wide-fits k)
request-fits act fits (k ∷ next ∷ words) = tt

execution-fits : (words : List (List ℕ)) → IfSome (execution_in words) IsAct
execution-fits [] = tt
execution-fits (k ∷ []) = tt
execution-fits (k ∷ number ∷ []) = tt
execution-fits (k ∷ number ∷ done ∷ []) = (wide-fits k, number-fits number)
execution-fits (k ∷ number ∷ done ∷ next ∷ words) = tt

completion-fits : (words : List (List ℕ)) → IfSome (completion_in words) IsAct
completion-fits [] = tt
completion-fits (k ∷ refused) = (wide-fits k, numbers-fit refused)

filing-fits : (words : List (List ℕ)) → IfSome (filing_in words) IsAct
filing-fits [] = tt
filing-fits (param ∷ []) = tt
filing-fits (param ∷ slot ∷ []) = tt
filing-fits (param ∷ slot ∷ value ∷ []) = (number-fits param, wide-fits slot, value-fits value)
filing-fits (param ∷ slot ∷ value ∷ next ∷ words) = tt

-- the act that words name, by the tests of the first one
act-fits_by : (accepted turned_away started not_started executed completed emitted filed : Bool) (words : List (List ℕ))
    → IfSome
    (if accepted then option_map (λ k. Accepted k) (request_in words)
    else if turned_away then option_map (λ k. TurnedAway k) (request_in words)
    else if started then option_map (λ k. Started k) (request_in words)
    else if not_started then option_map (λ k. NotStarted k) (request_in words)
    else if executed then execution_in words
    else if completed then completion_in words
    else if emitted then Some Emitted
    else if filed then filing_in words
    else None)
    IsAct
act-fits_by true b c d e f g h words = request-fits (λ k. Accepted k) (λ k l. l) words
act-fits_by false true c d e f g h words = request-fits (λ k. TurnedAway k) (λ k l. l) words
act-fits_by false false true d e f g h words = request-fits (λ k. Started k) (λ k l. l) words
act-fits_by false false false true e f g h words = request-fits (λ k. NotStarted k) (λ k l. l) words
act-fits_by false false false false true f g h words = execution-fits words
act-fits_by false false false false false true g h words = completion-fits words
act-fits_by false false false false false false true h words = tt
act-fits_by false false false false false false false true words = filing-fits words
act-fits_by false false false false false false false false words = tt

act-fits : (words : List (List ℕ)) → IfSome (act_in words) IsAct
act-fits [] = tt
act-fits (what ∷ words) =
    act-fits_by (bytes_eq what (codes "accepted")) (bytes_eq what (codes "turned-away")) (bytes_eq what (codes "started")) (bytes_eq what (codes "not-started"))
    (bytes_eq what (codes "executed")) (bytes_eq what (codes "completed")) (bytes_eq what (codes "emitted")) (bytes_eq what (codes "filed")) words

octets_are : (octets : List ℕ) → IsBytes octets → AreOctets octets
octets_are [] bytes = tt
octets_are (b ∷ rest) bytes = (bytes zero, octets_are rest (λ i. bytes (suc i)))

decoded-fit : (digits : List ℕ) (result : Result (List ℕ) FromHexError) → decode_of digits ≡ result → IfSome (result_ok result) AreOctets
decoded-fit digits (Ok octets) e = octets_are octets (decode_of-ok digits octets e).3
decoded-fit digits (Err fault) e = tt

packet-fits_in_words : (words : List (List ℕ)) → IfSome (packet_in_words words) AreOctets
packet-fits_in_words [] = tt
packet-fits_in_words (digits ∷ []) = decoded-fit digits (decode_of digits) refl
packet-fits_in_words (digits ∷ next ∷ words) = tt

packet-fits : (sections : List (List (List ℕ))) → IfSome (packet_in sections) AreOctets
packet-fits [] = tt
packet-fits (words ∷ others) = packet-fits_in_words words

with-fits : (tag : ℕ) (act : Option Act) (packet : Option (List ℕ)) → tag < 2 ^ 64 → IfSome act IsAct → IfSome packet AreOctets → IfSome (moment_with tag act packet) IsMoment
with-fits tag (Some act) (Some packet) l is are = record { tag = l; act = is; packet = are }
with-fits tag (Some act) None l is are = tt
with-fits tag None packet l is are = tt

sections-fit : (tag : ℕ) (sections : List (List (List ℕ))) → tag < 2 ^ 64 → IfSome (moment_in_sections tag sections) IsMoment
sections-fit tag [] l = tt
sections-fit tag (act ∷ packets) l = with-fits tag (act_in act) (packet_in packets) l (act-fits act) (packet-fits packets)

words-fit : (words : List (List ℕ)) → IfSome (moment_in_words words) IsMoment
words-fit [] = tt
words-fit (tag ∷ words) = sections-fit (wide_number_in tag) (slice_split is_packet words) (wide-fits tag)

some-fits : (o : Option Moment) (m : Moment) → o ≡ Some m → IfSome o IsMoment → IsMoment m
some-fits o m e fits = subst (λ o. IfSome o IsMoment) e fits

-- a moment that words name has numbers in the ranges of their types
pub moment-fits : (words : List (List ℕ)) (m : Moment) → moment_in_words words ≡ Some m → IsMoment m
moment-fits words m e = some-fits (moment_in_words words) m e (words-fit words)
