-- A moment is read from its text, and from no other.
use Rattle.std.proofs.Common.{◌≡◌, ℕ, Bool, true, false, List, ◌∷◌, ◌++◌, Option, Some, None, Result, Ok, Err, refl, ap, subst, sym, ◌∙◌}
use Rattle.std.specs.Prelude.{◌==◌, IfOk, if◌then◌else◌}
use Rattle.std.specs.List.{slice_split}
use Rattle.std.specs.Str.{bytes_eq}
use Rattle.std.specs.Fmt.{decimal}
use Rattle.std.proofs.lemmas.Option.{none-some, same_Some}
use Rattle.std.proofs.lemmas.Slice.Eq.{bytes_eq-Decides}
use Rattle.hk_base.proofs.Membership.{AllByRecursion-append}
use Rattle.message_words.specs.Lines.{IsWord, AreWords}
use Rattle.message_words.specs.Reading.{is_ascii}
use Rattle.message_words.specs.Words.{text_of_words}
use Rattle.hk_world.specs.declared.moment.Moment.{Moment}
use Rattle.journal_texts.specs.JournalTexts.{act_words, packet_words, moment_words, journal_text}
use Rattle.journal_texts.specs.Moments.{IsMoment}
use Rattle.journal_texts.specs.Outcomes.{Gives}
use Rattle.journal_texts.specs.Reading.{packet_in, is_packet, moment_with, moment_in_sections, moment_in_words, with_text, moment_in_text}
use Rattle.journal_texts.specs.declared.fault.JournalFault.{JournalFault}
use Rattle.journal_texts.specs.declared.fault.JournalFault.TheVariants.{BadLine}
use Rattle.journal_texts.proofs.ActsAgain.{AreReadBack, act-again, act-words, act-unmarked}
use Rattle.journal_texts.proofs.RangeLemmas.{moment-fits}
use Rattle.journal_texts.proofs.PacketsAgain.{packet_sections, packet-words, sections-again, packet-again}

-- words are found again in a line of them, which is ASCII
pub record AreDivided : Type 0 where
  pub words : (word : List ℕ) (words : List (List ℕ)) → IsWord word → AreWords words
      → slice_split (λ octet. octet == 32) (text_of_words (word ∷ words)) ≡ word ∷ words
  pub ascii : (words : List (List ℕ)) → AreWords words → is_ascii (text_of_words words) ≡ true

named-again : (laws : AreReadBack) (m : Moment) → IsMoment m → moment_in_words (moment_words m) ≡ Some m
named-again laws m is =
    ap (λ tag. moment_in_sections tag (slice_split is_packet (act_words m.act ++ packet_words m.packet))) (laws.wide m.tag is.tag)
    ∙ ap (moment_in_sections m.tag) (sections-again (act_words m.act) m.packet (act-unmarked m.act is.act) is.packet)
    ∙ ap (λ act. moment_with m.tag act (packet_in (packet_sections m.packet))) (act-again laws m.act is.act)
    ∙ ap (moment_with m.tag (Some m.act)) (packet-again m.packet is.packet)

-- a moment is read from its text
pub moment-again : (lines : AreDivided) (laws : AreReadBack) (m : Moment) → IsMoment m → moment_in_text (journal_text m) ≡ Some m
moment-again lines laws m is =
    let text : List ℕ = journal_text m in
    let behind : List (List ℕ) = act_words m.act ++ packet_words m.packet in
    let tag : IsWord (decimal m.tag) = laws.word m.tag is.tag in
    let others : AreWords behind = AllByRecursion-append IsWord (act_words m.act) (packet_words m.packet) (act-words laws m.act is.act) (packet-words m.packet is.packet) in
    ap (λ (b : Bool). if b then with_text text (moment_in_words (slice_split (λ octet. octet == 32) text)) else None) (lines.ascii (moment_words m) (tag, others))
    ∙ ap (λ words. with_text text (moment_in_words words)) (lines.words (decimal m.tag) behind tag others)
    ∙ ap (with_text text) (named-again laws m is)
    ∙ ap (λ (b : Bool). if b then Some m else None) ((bytes_eq-Decides text text).1 refl)

-- a test that lets something through passed
if_some : {X : Type 0} (b : Bool) (o : Option X) (x : X) → (if b then o else None) ≡ Some x → (b ≡ true) × (o ≡ Some x)
if_some true o x e = (refl, e)
if_some false o x e = absurd (none-some x e)

with_text_some : (text : List ℕ) (o : Option Moment) (m : Moment) → with_text text o ≡ Some m → (o ≡ Some m) × (journal_text m ≡ text)
with_text_some text None m e = absurd (none-some m e)
with_text_some text (Some x) m e =
    let passed = if_some (bytes_eq (journal_text x) text) (Some x) m e in
    (passed.1, ap journal_text (sym (same_Some x m passed.1)) ∙ (bytes_eq-Decides (journal_text x) text).0 passed.0)

-- a moment is read from no other text than its own, and its numbers are in the ranges of their types
pub moment-only : (text : List ℕ) (m : Moment) → moment_in_text text ≡ Some m → IsMoment m × (journal_text m ≡ text)
moment-only text m e =
    let words : List (List ℕ) = slice_split (λ octet. octet == 32) text in
    let read = with_text_some text (moment_in_words words) m (if_some (is_ascii text) (with_text text (moment_in_words words)) m e).1 in
    (moment-fits words m read.0, read.1)

-- what holds of whatever is given holds of an Ok
pub ok_from_gives : {X : Type 0} (result : Result X JournalFault) (given : Option X) (P : X → Type 0) → ((x : X) → given ≡ Some x → P x) → Gives result given → IfOk result P
ok_from_gives (Ok x) given P holds gives = holds x gives
ok_from_gives (Err fault) given P holds gives = tt

-- where a text is refused it is the text of no moment that is read from its own
pub refused_from_gives : (result : Result Moment JournalFault) (text : List ℕ) (m : Moment) → Gives result (moment_in_text text) → result ≡ Err BadLine
    → moment_in_text (journal_text m) ≡ Some m → journal_text m ≡ text → ⊥
refused_from_gives result text m gives refused again is =
    let none : moment_in_text text ≡ None = subst (λ r. Gives r (moment_in_text text)) refused gives in
    none-some m (sym none ∙ ap moment_in_text (sym is) ∙ again)
