-- One entry more at the end of a list.
use Rattle.std.proofs.Common.{◌≡◌, ℕ, refl, sym, ◌∙◌, ap, List, [], ◌∷◌, ◌++◌, map, append_assoc, Option, Some, None}
use Rattle.std.proofs.lemmas.List.{append-nil, reverse-append}
use Rattle.std.proofs.lemmas.List.Elements.{filter_map-append}
use Rattle.std.specs.Prelude.{filter_map, reverse}
use Rattle.std.specs.Option.{option_or}
use Rattle.pus_messages.specs.Protocol.{Protocol}
use Rattle.hk_world.specs.Worlds as worlds
use Rattle.ground_history.specs.Histories.{history_of}
use Rattle.session_record.specs.declared.header.Header.{Header}
use Rattle.session_record.specs.declared.entry.Entry.{Entry}
use Rattle.session_record.specs.declared.entry.Entry.TheVariants.{Sent, Got, Line}
use Rattle.session_texts.specs.Sessions.{seen_entry, seen, known_after, known_with, kinds_of, kinds_after, kinds_with, entry_problem, entries_problem}
use Rattle.session_texts.specs.declared.problem.RecordProblem.{RecordProblem}

-- what is seen with one entry more
abbrev pub seen_with : Option worlds.Entry → List worlds.Entry → List worlds.Entry
seen_with None earlier = earlier
seen_with (Some e) earlier = e ∷ earlier

seen-with : (e : Entry) (xs : List worlds.Entry) → reverse (xs ++ filter_map seen_entry (e ∷ [])) ≡ seen_with (seen_entry e) (reverse xs)
seen-with (Sent packet) xs = reverse-append xs (worlds.sent packet ∷ [])
seen-with (Got packet) xs = reverse-append xs (worlds.got packet ∷ [])
seen-with (Line text) xs = ap reverse (append-nil xs)

pub seen-more : (entries : List Entry) (e : Entry) → seen (entries ++ e ∷ []) ≡ seen_with (seen_entry e) (seen entries)
seen-more entries e = ap reverse (filter_map-append seen_entry entries (e ∷ [])) ∙ seen-with e (filter_map seen_entry entries)

known-seen : (p : Protocol) (h : Header) (e : Entry) (earlier : List worlds.Entry)
    → history_of p h.known h.long (seen_with (seen_entry e) earlier) ≡ known_with p (history_of p h.known h.long earlier) e
known-seen p h (Sent packet) earlier = refl
known-seen p h (Got packet) earlier = refl
known-seen p h (Line text) earlier = refl

pub known-more : (p : Protocol) (h : Header) (entries : List Entry) (e : Entry) → known_after p h (entries ++ e ∷ []) ≡ known_with p (known_after p h entries) e
known-more p h entries e = ap (history_of p h.known h.long) (seen-more entries e) ∙ known-seen p h e (seen entries)

kinds-seen : (p : Protocol) (h : Header) (e : Entry) (earlier : List worlds.Entry)
    → kinds_of p h (seen_with (seen_entry e) earlier) ≡ kinds_with p (history_of p h.known h.long earlier) e (kinds_of p h earlier)
kinds-seen p h (Sent packet) earlier = refl
kinds-seen p h (Got packet) earlier = refl
kinds-seen p h (Line text) earlier = refl

pub kinds-more : (p : Protocol) (h : Header) (entries : List Entry) (e : Entry)
    → kinds_after p h (entries ++ e ∷ []) ≡ kinds_with p (known_after p h entries) e (kinds_after p h entries)
kinds-more p h entries e = ap (kinds_of p h) (seen-more entries e) ∙ kinds-seen p h e (seen entries)

-- the first of three
or-assoc : (a b c : Option RecordProblem) → option_or a (option_or b c) ≡ option_or (option_or a b) c
or-assoc None b c = refl
or-assoc (Some x) b c = refl

pub problems-more : (p : Protocol) (h : Header) (earlier : List Entry) (now later : List (ℕ × Entry))
    → entries_problem p h earlier (now ++ later) ≡ option_or (entries_problem p h earlier now) (entries_problem p h (earlier ++ map (λ x. x.1) now) later)
problems-more p h earlier [] later = ap (λ es. entries_problem p h es later) (sym (append-nil earlier))
problems-more p h earlier ((offset, e) ∷ now) later =
    let here : Option RecordProblem = entry_problem p (known_after p h earlier) offset e in
    ap (option_or here) (problems-more p h (earlier ++ e ∷ []) now later)
    ∙ ap (λ es. option_or here (option_or (entries_problem p h (earlier ++ e ∷ []) now) (entries_problem p h es later)))
    (append_assoc earlier (e ∷ []) (map (λ y. y.1) now))
    ∙ or-assoc here (entries_problem p h (earlier ++ e ∷ []) now) (entries_problem p h (earlier ++ e ∷ map (λ y. y.1) now) later)
