-- Words behind others.
use Rattle.std.proofs.Common.{◌≡◌, ℕ, suc, ◌+◌, ◌-◌, ◌/◌, ◌%◌, ◌^◌, ◌<◌, arith, List, [], ◌∷◌, ◌++◌, refl, ap, sym, ◌∙◌, append_assoc, append-nil}
use Rattle.message_words.specs.Words.{text_of_words, hex, hex_digit}
use Rattle.message_words.specs.Tails.{tail}

-- words behind words
pub tail-append : (xs ys : List (List ℕ)) → tail (xs ++ ys) ≡ tail xs ++ tail ys
tail-append [] ys = refl
tail-append (x ∷ xs) ys = ap (λ rest. (32 ∷ x) ++ rest) (tail-append xs ys) ∙ sym (append_assoc (32 ∷ x) (tail xs) (tail ys))

-- a text is its first word and the words behind it
pub text-cons : (word : List ℕ) (words : List (List ℕ)) → text_of_words (word ∷ words) ≡ word ++ tail words
text-cons word [] = sym (append-nil word)
text-cons word (next ∷ words) = ap (λ rest. word ++ (32 ∷ rest)) (text-cons next words)

-- what two writers put last is what one puts that has the words of both
pub joined : (a b c : List ℕ) (xs ys : List (List ℕ)) → b ≡ a ++ tail xs → c ≡ b ++ tail ys → c ≡ a ++ tail (xs ++ ys)
joined a b c xs ys e f = f ∙ ap (λ v. v ++ tail ys) e ∙ append_assoc a (tail xs) (tail ys) ∙ ap (λ v. a ++ v) (sym (tail-append xs ys))

-- a step of a loop that puts words last: with the words of one member, and the words to come
pub step : (a b whole : List ℕ) (xs ys all : List (List ℕ)) → b ≡ a ++ tail xs → all ≡ xs ++ ys → a ++ tail all ≡ whole → b ++ tail ys ≡ whole
step a b whole xs ys all e split w = joined a b (b ++ tail ys) xs ys e refl ∙ ap (λ v. a ++ tail v) (sym split) ∙ w

-- a line of a first word and of what two writers put behind it
pub line_is : (first a b c : List ℕ) (xs ys : List (List ℕ)) → a ≡ first → b ≡ a ++ tail xs → c ≡ b ++ tail ys → c ≡ text_of_words (first ∷ xs ++ ys)
line_is first a b c xs ys start e f = joined a b c xs ys e f ∙ ap (λ v. v ++ tail (xs ++ ys)) start ∙ sym (text-cons first (xs ++ ys))

-- the digits to the base 16 from one place on
pub hex_step : (places place n : ℕ) → place < places → hex (places - place) n ≡ hex_digit (n / 16 ^ (places - 1 - place) % 16) ∷ hex (places - (place + 1)) n
hex_step places place n l =
    let e : places - place ≡ suc (places - 1 - place) = omega arith in
    let f : places - 1 - place ≡ places - (place + 1) = omega arith in
    ap (λ k. hex k n) e ∙ ap (λ k. hex_digit (n / 16 ^ (places - 1 - place) % 16) ∷ hex k n) f

-- a step of the loop that puts the digits one by one
pub hex_turn : (a b whole text : List ℕ) (places place n digit : ℕ) → place < places → b ≡ a ++ text → text ≡ digit ∷ []
    → digit ≡ hex_digit (n / 16 ^ (places - 1 - place) % 16) → a ++ hex (places - place) n ≡ whole → b ++ hex (places - (place + 1)) n ≡ whole
hex_turn a b whole text places place n digit l e one is w =
    let rest : List ℕ = hex (places - (place + 1)) n in
    ap (λ v. v ++ rest) (e ∙ ap (λ v. a ++ v) (one ∙ ap (λ d. d ∷ []) is))
    ∙ append_assoc a (hex_digit (n / 16 ^ (places - 1 - place) % 16) ∷ []) rest
    ∙ ap (λ v. a ++ v) (sym (hex_step places place n l))
    ∙ w
