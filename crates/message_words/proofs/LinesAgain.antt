-- A request of the grammar is read from its words.
use Rattle.std.proofs.Common.{◌≡◌, ℕ, Bool, true, List, ◌∷◌, Option, Some, None, refl, ap, sym, ◌∙◌, arith}
use Rattle.std.specs.Prelude.{◌==◌, ◌&&◌, nat_lt, option_map, if◌then◌else◌}
use Rattle.std.specs.List.{slice_split}
use Rattle.std.specs.Fmt.{decimal}
use Rattle.std.proofs.lemmas.Bool.Decides.{nat_tests}
use Rattle.std.proofs.lemmas.Slice.Eq.{bytes_eq-Decides}
use Rattle.hk_base.specs.TailoringParts.{TailoringParts}
use Rattle.hk_base.specs.Fit.{IsFit}
use Rattle.st03_grammar.specs.Spelling as st03
use Rattle.st04_grammar.specs.Spelling as st04
use Rattle.st20_grammar.specs.Spelling as st20
use Rattle.pus_messages.specs.Spelling.{request_type, IsRequestBody}
use Rattle.pus_messages.specs.declared.message.Request.{Request}
use Rattle.pus_messages.specs.declared.message.RequestBody.{RequestBody}
use Rattle.pus_messages.specs.declared.message.RequestBody.TheVariants as ask
use Rattle.message_words.specs.Words.{hex, request_body_words, request_words, request_text}
use Rattle.message_words.specs.Numbers.{hex_value}
use Rattle.message_words.specs.Grammar.{IsOfGround}
use Rattle.message_words.specs.Reading.{typed, body_in, request_with, request_named, with_words, request_in_words}
use Rattle.message_words.proofs.NumberLemmas.{number_in-decimal, hex_value-hex}
use Rattle.message_words.specs.Lines.{IsWord, AreWords}
use Rattle.message_words.proofs.LineLemmas.{decimal-word, split-words, ascii-words, both_true}
use Rattle.message_words.proofs.SpelledLists.{narrow}
use Rattle.message_words.proofs.BodiesAgain.{Again03, Again04, Again20, housekeeping-again, statistics-again, values-again}
use Rattle.message_words.proofs.WordsOfBodies.{housekeeping-words, statistics-words, request20-words, hex-word}

-- the laws of the bodies under a tailoring
pub record AreSpelled (t : TailoringParts) : Type 0 where
  pub housekeeping : Again03 t
  pub statistics : Again04 t
  pub values : Again20 t

body-again : (t : TailoringParts) (b : RequestBody) (service subtype : ℕ) → IsFit t → AreSpelled t → service ≡ (request_type b).0 → subtype ≡ (request_type b).1 → IsRequestBody t b
    → body_in t (request_body_words b) ≡ Some (typed service subtype b)
body-again t (ask.Hk r) service subtype fit laws served typed_so is =
    housekeeping-again t r (narrow t fit) laws.housekeeping is
    ∙ ap (λ s. Some (typed s (st03.request_subtype r) (ask.Hk r))) (sym served)
    ∙ ap (λ s. Some (typed service s (ask.Hk r))) (sym typed_so)
body-again t (ask.Stat r) service subtype fit laws served typed_so is =
    statistics-again t r fit (narrow t fit) laws.statistics is
    ∙ ap (λ s. Some (typed s (st04.request_subtype r) (ask.Stat r))) (sym served)
    ∙ ap (λ s. Some (typed service s (ask.Stat r))) (sym typed_so)
body-again t (ask.Par r) service subtype fit laws served typed_so is =
    values-again t r fit (narrow t fit) laws.values is
    ∙ ap (λ s. Some (typed s (st20.request_subtype r) (ask.Par r))) (sym served)
    ∙ ap (λ s. Some (typed service s (ask.Par r))) (sym typed_so)

body-words : (t : TailoringParts) (b : RequestBody) → IsFit t → IsRequestBody t b → AreWords (request_body_words b)
body-words t (ask.Hk r) fit is = housekeeping-words t r (narrow t fit) is
body-words t (ask.Stat r) fit is = statistics-words t r fit (narrow t fit) is
body-words t (ask.Par r) fit is = request20-words t r fit (narrow t fit) is

-- a request with another process and another source
abbrev sent : Request → ℕ → ℕ → Request
sent r apid source =
    record {
      header = record { apid = apid; count = r.header.count; flags = r.header.flags; service = r.header.service; subtype = r.header.subtype; source = source };
      body = r.body;
    }

header-again : (t : TailoringParts) (r : Request) → IsOfGround t r → request_with t r.header.count r.header.flags (typed r.header.service r.header.subtype r.body) ≡ r
header-again t r is = ap (λ apid. sent r apid t.widths.ground) (sym is.apid) ∙ ap (λ source. sent r r.header.apid source) (sym is.source)

-- the request that words name, by its count and its flags
abbrev named : TailoringParts → List (List ℕ) → ℕ → ℕ → Option Request
named t words count flags = if nat_lt count 16384 && nat_lt flags 16 then option_map (request_with t count flags) (body_in t words) else None

named-again : (t : TailoringParts) (r : Request) → IsFit t → AreSpelled t → IsOfGround t r → request_named t (request_words r) ≡ Some r
named-again t r fit laws is =
    let words : List (List ℕ) = request_body_words r.body in
    let count : ℕ = r.header.count in
    let flags : ℕ = r.header.flags in
    let counted : nat_lt count 16384 ≡ true = let l = is.message.headers.count in grind (arith, nat_tests) in
    let flagged : nat_lt flags 16 ≡ true = let l = is.message.headers.flags in grind (arith, nat_tests) in
    ap (λ n. named t words n (hex_value (hex 1 flags))) (number_in-decimal count (omega (arith, is.message.headers.count)))
    ∙ ap (λ n. named t words count n) (hex_value-hex flags is.message.headers.flags)
    ∙ ap (λ (b : Bool). if b then option_map (request_with t count flags) (body_in t words) else None) (both_true (nat_lt count 16384) (nat_lt flags 16) counted flagged)
    ∙ ap (option_map (request_with t count flags)) (body-again t r.body r.header.service r.header.subtype fit laws is.message.service is.message.subtype is.message.body)
    ∙ ap Some (header-again t r is)

-- a request of the grammar is read from its words
pub request-again : (t : TailoringParts) (r : Request) → IsFit t → AreSpelled t → IsOfGround t r → request_in_words t (request_text r) ≡ Some r
request-again t r fit laws is =
    let line : List ℕ = request_text r in
    let count : IsWord (decimal r.header.count) = decimal-word r.header.count (omega (arith, is.message.headers.count)) in
    let others : AreWords (hex 1 r.header.flags ∷ request_body_words r.body) = (hex-word r.header.flags, body-words t r.body fit is.message.body) in
    ap (λ (b : Bool). if b then with_words line (request_named t (slice_split (λ octet. octet == 32) line)) else None) (ascii-words (request_words r) (count, others))
    ∙ ap (λ words. with_words line (request_named t words)) (split-words (decimal r.header.count) (hex 1 r.header.flags ∷ request_body_words r.body) count others)
    ∙ ap (with_words line) (named-again t r fit laws is)
    ∙ ap (λ (b : Bool). if b then Some r else None) ((bytes_eq-Decides line line).1 refl)
