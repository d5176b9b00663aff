-- The entries of a world are all taken, so a record of them has no problem but a fault of its format.
use Rattle.std.proofs.Common.{◌≡◌, ℕ, refl, sym, ◌∙◌, ap, subst, List, [], ◌∷◌, ◌++◌, map, append_assoc, Bool, None, Result, Ok, Err}
use Rattle.std.proofs.lemmas.List.{reverse-append}
use Rattle.std.proofs.lemmas.List.Elements.{filter_map-append}
use Rattle.std.specs.Prelude.{filter_map, reverse, option_map, IsOk}
use Rattle.std.specs.Option.{option_or}
use Rattle.hk_base.specs.TailoringParts.{TailoringParts}
use Rattle.pus_messages.specs.Messages.{protocol}
use Rattle.pus_messages.specs.Protocol.{Protocol}
use Rattle.hk_world.specs.Timelines.{EachAfter}
use Rattle.hk_world.specs.Worlds.{World, IsWorld}
use Rattle.hk_world.specs.Worlds as worlds
use Rattle.ground_history.specs.Histories.{history_of, sent_answer, IsTaken, AreTaken}
use Rattle.ground_history.specs.declared.answer.SentFault.{SentFault}
use Rattle.ground_history.proofs.EntryLemmas.{world-attributed}
use Rattle.definition_intervals.proofs.KnownWorlds.{protocol_lawful}
use Rattle.session_record.specs.Records.{Entries, read_record}
use Rattle.session_record.specs.declared.header.Header.{Header}
use Rattle.session_record.specs.declared.entry.Entry.{Entry}
use Rattle.session_record.specs.declared.entry.Entry.TheVariants.{Sent, Got, Line}
use Rattle.session_texts.specs.Sessions.{seen_entry, seen, known_after, answer_problem, entry_problem, entries_problem, problem_of, record_problem}
use Rattle.session_texts.specs.Truth.{IsSeenIn}
use Rattle.session_texts.specs.declared.problem.RecordProblem.TheVariants as problem
use Rattle.session_texts.proofs.EntryLemmas.{seen-more}

-- what holds over a list holds over what was there before
each-before : {X : Type 0} (R : List X → X → Type 0) (later earlier : List X) → EachAfter R (later ++ earlier) → EachAfter R earlier
each-before R [] earlier h = h
each-before R (x ∷ later) earlier h = each-before R later earlier h.1

-- what is seen of later entries stands before what is seen of earlier ones
pub seen-append : (earlier later : List Entry) → seen (earlier ++ later) ≡ seen later ++ seen earlier
seen-append earlier later = ap reverse (filter_map-append seen_entry earlier later) ∙ reverse-append (filter_map seen_entry earlier) (filter_map seen_entry later)

-- no entry of these has a fault
abbrev AreAllTaken : Protocol → Header → List Entry → Type 0
AreAllTaken p h entries = AreTaken p h.known h.long (seen entries)

taken-before : (p : Protocol) (h : Header) (earlier later : List Entry) → AreAllTaken p h (earlier ++ later) → AreAllTaken p h earlier
taken-before p h earlier later taken =
    each-before (λ before entry. IsTaken p (history_of p h.known h.long before) entry) (seen later) (seen earlier)
    (subst (AreTaken p h.known h.long) (seen-append earlier later) taken)

no-fault : (offset : ℕ) (r : Result Bool SentFault) → IsOk r → answer_problem offset r ≡ None
no-fault offset (Ok new) ok = refl
no-fault offset (Err fault) ok = cc

entry-taken : (p : Protocol) (h : Header) (earlier : List Entry) (offset : ℕ) (e : Entry) → AreAllTaken p h (earlier ++ e ∷ []) → entry_problem p (known_after p h earlier) offset e ≡ None
entry-taken p h earlier offset (Got packet) taken = refl
entry-taken p h earlier offset (Line text) taken = refl
entry-taken p h earlier offset (Sent packet) taken =
    let here : AreTaken p h.known h.long (worlds.sent packet ∷ seen earlier) = subst (AreTaken p h.known h.long) (seen-more earlier (Sent packet)) taken in
    no-fault offset (sent_answer p (known_after p h earlier) packet) here.0

-- where all entries are taken none has a problem
pub no-problem : (p : Protocol) (h : Header) (earlier : List Entry) (list : List (ℕ × Entry)) → AreAllTaken p h (earlier ++ map (λ x. x.1) list) → entries_problem p h earlier list ≡ None
no-problem p h earlier [] taken = refl
no-problem p h earlier ((offset, e) ∷ later) taken =
    let all : AreAllTaken p h ((earlier ++ e ∷ []) ++ map (λ x. x.1) later) = subst (AreAllTaken p h) (sym (append_assoc earlier (e ∷ []) (map (λ x. x.1) later))) taken in
    let rest : entries_problem p h (earlier ++ e ∷ []) later ≡ None = no-problem p h (earlier ++ e ∷ []) later all in
    ap (λ o. option_or o (entries_problem p h (earlier ++ e ∷ []) later)) (entry-taken p h earlier offset e (taken-before p h (earlier ++ e ∷ []) (map (λ x. x.1) later) all)) ∙ rest

-- the entries of a world are taken
seen-taken : (t : TailoringParts) (w : World) (h : Header) (entries : List Entry) → w.session.protocol ≡ protocol t → IsWorld w → IsSeenIn w h entries → AreAllTaken (protocol t) h entries
seen-taken t w h entries e world s =
    subst (λ p. AreTaken p h.known h.long (seen entries)) e
    (subst (λ b. AreTaken w.session.protocol b h.long (seen entries)) (sym s.0)
    (subst (λ b. AreTaken w.session.protocol w.session.known b (seen entries)) (sym s.1)
    (subst (AreTaken w.session.protocol w.session.known w.session.long) (sym s.2) (world-attributed w [] w.steps (protocol_lawful t w.session e) world refl).taken)))

pub entries_taken : (t : TailoringParts) (w : World) (h : Header) (list : List (ℕ × Entry)) → w.session.protocol ≡ protocol t → IsWorld w → IsSeenIn w h (map (λ x. x.1) list)
    → entries_problem (protocol t) h [] list ≡ None
entries_taken t w h list e world s = no-problem (protocol t) h [] list (seen-taken t w h (map (λ x. x.1) list) e world s)

pub record_taken : (t : TailoringParts) (w : World) (octets : List ℕ) (x : Header × Entries) → w.session.protocol ≡ protocol t → IsWorld w → read_record octets ≡ Ok x
    → IsSeenIn w x.0 (map (λ e. e.1) x.1.list) → record_problem (protocol t) octets ≡ option_map problem.Format x.1.fault
record_taken t w octets x e world is s =
    ap (problem_of (protocol t)) is ∙ ap (λ o. option_or o (option_map problem.Format x.1.fault)) (entries_taken t w x.0 x.1.list e world s)
