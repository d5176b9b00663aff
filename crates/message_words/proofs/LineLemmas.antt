-- A line of words, divided again.
use Rattle.std.proofs.Common.{◌≡◌, ℕ, zero, suc, lit<, ◌^◌, ◌<◌, ℤ, pos, negsuc, Bool, true, false, List, [], ◌∷◌, map, refl, ap, ◌∙◌, arith, rules}
use Rattle.std.specs.Prelude.{slice_index, ◌==◌, ◌&&◌, nat_lt}
use Rattle.std.specs.List.{AllByRecursion, list_all, slice_split}
use Rattle.std.specs.Int.{IsInRange}
use Rattle.std.specs.Fmt.{decimal, signed_decimal}
use Rattle.std.specs.Str.{IsUtf8}
use Rattle.std.proofs.lemmas.Str.{IsUtf8-from_ascii}
use Rattle.std.proofs.lemmas.Bool.Decides.{nat_tests}
use Rattle.std.proofs.lemmas.List.Splits.{slice_split_none, slice_split_at}
use Rattle.std.proofs.lemmas.List.Folds.{list_all-append}
use Rattle.std.proofs.lemmas.List.Elements.{All-from_recursion}
use Rattle.hk_base.specs.Fields.{FitsSignedOctets}
use Rattle.message_words.specs.Words.{text_of_words}
use Rattle.message_words.specs.Lines.{is_printed, IsWord, AreWords}
use Rattle.message_words.specs.Reading.{is_ascii}
use Rattle.message_words.proofs.NumberLemmas.{AreDigits, decimal-digits}

pub both_true : (a b : Bool) → a ≡ true → b ≡ true → (a && b) ≡ true
both_true a b e f = ap (λ x. x && b) e ∙ f

pub left_true : (a b : Bool) → (a && b) ≡ true → a ≡ true
left_true true b e = refl
left_true false b e = e

pub right_true : (a b : Bool) → (a && b) ≡ true → b ≡ true
right_true true b e = e
right_true false b e = absurd (search rules)

printed_digit : (c : ℕ) → IsInRange 48 57 c → is_printed c ≡ true
printed_digit c r = grind (arith, r)

digits-word : (ds : List ℕ) → AreDigits ds → IsWord ds
digits-word [] are = refl
digits-word (c ∷ cs) are = both_true (is_printed c) (list_all is_printed cs) (printed_digit c are.0) (digits-word cs are.1)

wide-word : (n : ℕ) → n < 10 ^ 64 → IsWord (decimal n)
wide-word n l = digits-word (decimal n) (decimal-digits n l)

-- the text of a number is one word
pub decimal-word : (n : ℕ) → n < 2 ^ 64 → IsWord (decimal n)
decimal-word n l = wide-word n (omega arith)

-- the text of a value is one word
pub value-word : (v : ℤ) → FitsSignedOctets 16 v → IsWord (signed_decimal v)
value-word (pos n) fits = wide-word n (omega (arith, fits))
value-word (negsuc n) fits = wide-word (suc n) (omega (arith, fits))

-- the texts of numbers are words
pub decimal-words : (ns : List ℕ) → AllByRecursion (λ n. n < 2 ^ 32) ns → AreWords (map decimal ns)
decimal-words [] few = tt
decimal-words (n ∷ ns) few = (decimal-word n (omega (arith, few.0)), decimal-words ns few.1)

not_blank : (c : ℕ) → is_printed c ≡ true → (c == 32) ≡ false
not_blank c e = grind arith

low : (c : ℕ) → is_printed c ≡ true → nat_lt c 128 ≡ true
low c e = grind arith

no_blanks : (word : List ℕ) → IsWord word → AllByRecursion (λ c. (c == 32) ≡ false) word
no_blanks [] is = tt
no_blanks (c ∷ cs) is =
    (not_blank c (left_true (is_printed c) (list_all is_printed cs) is), no_blanks cs (right_true (is_printed c) (list_all is_printed cs) is))

-- words in a line are those that one blank divides
pub split-words : (word : List ℕ) (words : List (List ℕ)) → IsWord word → AreWords words → slice_split (λ octet. octet == 32) (text_of_words (word ∷ words)) ≡ word ∷ words
split-words word [] is are = slice_split_none (λ octet. octet == 32) word (All-from_recursion _ word (no_blanks word is))
split-words word (next ∷ words) is are =
    slice_split_at (λ octet. octet == 32) word 32 (text_of_words (next ∷ words)) (All-from_recursion _ word (no_blanks word is)) refl
    ∙ ap (λ others. word ∷ others) (split-words next words are.0 are.1)

ascii-word : (word : List ℕ) → IsWord word → is_ascii word ≡ true
ascii-word [] is = refl
ascii-word (c ∷ cs) is =
    both_true (nat_lt c 128) (is_ascii cs) (low c (left_true (is_printed c) (list_all is_printed cs) is)) (ascii-word cs (right_true (is_printed c) (list_all is_printed cs) is))

-- a line of words is ASCII
pub ascii-words : (words : List (List ℕ)) → AreWords words → is_ascii (text_of_words words) ≡ true
ascii-words [] are = refl
ascii-words (word ∷ []) are = ascii-word word are.0
ascii-words (word ∷ next ∷ words) are =
    list_all-append (λ octet. nat_lt octet 128) word (32 ∷ text_of_words (next ∷ words))
    ∙ both_true (is_ascii word) (is_ascii (text_of_words (next ∷ words))) (ascii-word word are.0) (ascii-words (next ∷ words) are.1)

octets_below : (bs : List ℕ) → is_ascii bs ≡ true → (i : ℕ) → slice_index bs i < 128
octets_below [] e i = lit< tt
octets_below (c ∷ cs) e zero = let first : nat_lt c 128 ≡ true = left_true (nat_lt c 128) (is_ascii cs) e in grind (arith, nat_tests)
octets_below (c ∷ cs) e (suc i) = octets_below cs (right_true (nat_lt c 128) (is_ascii cs) e) i

-- a line of ASCII is a text
pub ascii-utf8 : (bs : List ℕ) → is_ascii bs ≡ true → IsUtf8 bs
ascii-utf8 bs e = IsUtf8-from_ascii bs (octets_below bs e)
