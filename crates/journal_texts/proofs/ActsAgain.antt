-- Acts are read from their words.
use Rattle.std.proofs.Common.{◌≡◌, ℕ, ◌^◌, ◌<◌, ℤ, pos, negsuc, Bool, true, false, List, [], ◌∷◌, map, Some, refl, ap, ◌∙◌, arith}
use Rattle.std.specs.Prelude.{◌==◌, ◌&&◌, codes}
use Rattle.std.specs.List.{AllByRecursion}
use Rattle.std.specs.Int.{IsInRange}
use Rattle.std.specs.Fmt.{decimal, signed_decimal}
use Rattle.std.specs.Str.{bytes_eq}
use Rattle.std.specs.Str.Parse.{AllDigits}
use Rattle.std.proofs.lemmas.Str.Parse.{digit_from_value}
use Rattle.std.proofs.lemmas.Fmt.{decimal_is_IsNumeral_wide}
use Rattle.hk_base.specs.Fields.{FitsSignedOctets}
use Rattle.message_words.specs.Lines.{IsWord, AreWords}
use Rattle.message_words.specs.Numbers.{number_in, wide_number_in, value_in}
use Rattle.hk_world.specs.declared.moment.Act.{Act}
use Rattle.hk_world.specs.declared.moment.Act.TheVariants.{Accepted, TurnedAway, Started, NotStarted, Executed, Completed, Emitted, Filed}
use Rattle.journal_texts.specs.JournalTexts.{done_word, act_words}
use Rattle.journal_texts.specs.Moments.{IsAct}
use Rattle.journal_texts.specs.Reading.{is_packet, act_in}

-- numbers have words, and are read from them
pub record AreReadBack : Type 0 where
  pub number : (n : ℕ) → n < 2 ^ 32 → number_in (decimal n) ≡ n
  pub wide : (n : ℕ) → n < 2 ^ 64 → wide_number_in (decimal n) ≡ n
  pub value : (v : ℤ) → FitsSignedOctets 16 v → value_in (signed_decimal v) ≡ v
  pub word : (n : ℕ) → n < 2 ^ 64 → IsWord (decimal n)
  pub value_word : (v : ℤ) → FitsSignedOctets 16 v → IsWord (signed_decimal v)

done-again : (done : Bool) → bytes_eq (done_word done) (codes "done") ≡ done
done-again true = refl
done-again false = refl

numbers-again : (laws : AreReadBack) (ns : List ℕ) → AllByRecursion (λ n. n < 2 ^ 32) ns → map number_in (map decimal ns) ≡ ns
numbers-again laws [] few = refl
numbers-again laws (n ∷ ns) few =
    ap (λ k. k ∷ map number_in (map decimal ns)) (laws.number n few.0) ∙ ap (λ others. n ∷ others) (numbers-again laws ns few.1)

-- an act is read from its words
pub act-again : (laws : AreReadBack) (act : Act) → IsAct act → act_in (act_words act) ≡ Some act
act-again laws (Accepted k) is = ap (λ n. Some (Accepted n)) (laws.wide k is)
act-again laws (TurnedAway k) is = ap (λ n. Some (TurnedAway n)) (laws.wide k is)
act-again laws (Started k) is = ap (λ n. Some (Started n)) (laws.wide k is)
act-again laws (NotStarted k) is = ap (λ n. Some (NotStarted n)) (laws.wide k is)
act-again laws (Executed k number done) is =
    ap (λ n. Some (Executed n (number_in (decimal number)) (bytes_eq (done_word done) (codes "done")))) (laws.wide k is.0)
    ∙ ap (λ n. Some (Executed k n (bytes_eq (done_word done) (codes "done")))) (laws.number number is.1)
    ∙ ap (λ d. Some (Executed k number d)) (done-again done)
act-again laws (Completed k refused) is =
    ap (λ n. Some (Completed n (map number_in (map decimal refused)))) (laws.wide k is.0)
    ∙ ap (λ ns. Some (Completed k ns)) (numbers-again laws refused is.1)
act-again laws Emitted is = refl
act-again laws (Filed param slot value) is =
    ap (λ n. Some (Filed n (wide_number_in (decimal slot)) (value_in (signed_decimal value)))) (laws.number param is.0)
    ∙ ap (λ n. Some (Filed param n (value_in (signed_decimal value)))) (laws.wide slot is.1)
    ∙ ap (λ v. Some (Filed param slot v)) (laws.value value is.2)

narrow-word : (laws : AreReadBack) (n : ℕ) → n < 2 ^ 32 → IsWord (decimal n)
narrow-word laws n l = laws.word n (omega arith)

narrow-words : (laws : AreReadBack) (ns : List ℕ) → AllByRecursion (λ n. n < 2 ^ 32) ns → AreWords (map decimal ns)
narrow-words laws [] few = tt
narrow-words laws (n ∷ ns) few = (narrow-word laws n few.0, narrow-words laws ns few.1)

done-word : (done : Bool) → IsWord (done_word done)
done-word true = refl
done-word false = refl

-- the words of an act are words of a line
pub act-words : (laws : AreReadBack) (act : Act) → IsAct act → AreWords (act_words act)
act-words laws (Accepted k) is = (refl, (laws.word k is, tt))
act-words laws (TurnedAway k) is = (refl, (laws.word k is, tt))
act-words laws (Started k) is = (refl, (laws.word k is, tt))
act-words laws (NotStarted k) is = (refl, (laws.word k is, tt))
act-words laws (Executed k number done) is = (refl, (laws.word k is.0, (narrow-word laws number is.1, (done-word done, tt))))
act-words laws (Completed k refused) is = (refl, (laws.word k is.0, narrow-words laws refused is.1))
act-words laws Emitted is = (refl, tt)
act-words laws (Filed param slot value) is = (refl, (narrow-word laws param is.0, (laws.word slot is.1, (laws.value_word value is.2, tt))))

no_digit : (c : ℕ) → IsInRange 48 57 c → (c == 112) ≡ false
no_digit c r = grind (arith, r)

digits-unmarked : (ds : List ℕ) → AllDigits 10 ds → is_packet ds ≡ false
digits-unmarked [] are = refl
digits-unmarked (c ∷ cs) are = ap (λ b. b && bytes_eq cs (codes "acket")) (no_digit c (digit_from_value c are.0))

number-unmarked : (n : ℕ) → n < 2 ^ 64 → is_packet (decimal n) ≡ false
number-unmarked n l = digits-unmarked (decimal n) (decimal_is_IsNumeral_wide n (omega arith)).0.1

narrow-unmarked : (n : ℕ) → n < 2 ^ 32 → is_packet (decimal n) ≡ false
narrow-unmarked n l = number-unmarked n (omega arith)

value-unmarked : (v : ℤ) → FitsSignedOctets 16 v → is_packet (signed_decimal v) ≡ false
value-unmarked (pos n) fits = digits-unmarked (decimal n) (decimal_is_IsNumeral_wide n (omega (arith, fits))).0.1
value-unmarked (negsuc n) fits = refl

narrow-all_unmarked : (ns : List ℕ) → AllByRecursion (λ n. n < 2 ^ 32) ns → AllByRecursion (λ word. is_packet word ≡ false) (map decimal ns)
narrow-all_unmarked [] few = tt
narrow-all_unmarked (n ∷ ns) few = (narrow-unmarked n few.0, narrow-all_unmarked ns few.1)

done-unmarked : (done : Bool) → is_packet (done_word done) ≡ false
done-unmarked true = refl
done-unmarked false = refl

-- no word of an act is the one before a packet
pub act-unmarked : (act : Act) → IsAct act → AllByRecursion (λ word. is_packet word ≡ false) (act_words act)
act-unmarked (Accepted k) is = (refl, (number-unmarked k is, tt))
act-unmarked (TurnedAway k) is = (refl, (number-unmarked k is, tt))
act-unmarked (Started k) is = (refl, (number-unmarked k is, tt))
act-unmarked (NotStarted k) is = (refl, (number-unmarked k is, tt))
act-unmarked (Executed k number done) is = (refl, (number-unmarked k is.0, (narrow-unmarked number is.1, (done-unmarked done, tt))))
act-unmarked (Completed k refused) is = (refl, (number-unmarked k is.0, narrow-all_unmarked refused is.1))
act-unmarked Emitted is = (refl, tt)
act-unmarked (Filed param slot value) is = (refl, (narrow-unmarked param is.0, (number-unmarked slot is.1, (value-unmarked value is.2, tt))))
