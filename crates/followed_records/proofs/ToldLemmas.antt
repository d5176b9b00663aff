-- What comes of entries one by one is what comes of the record.
use Rattle.std.proofs.Common.{◌≡◌, ◌⊎◌, inl, inr, ℕ, List, [], ◌∷◌, ◌++◌, map, Bool, true, false, Option, Some, None, Result, Ok, Err, refl, sym, ap, ◌∙◌, append_assoc, append-nil}
use Rattle.std.specs.Prelude.{reverse, option_map}
use Rattle.std.specs.Option.{option_or}
use Rattle.std.proofs.lemmas.List.{reverse-append, reverse-reverse}
use Rattle.hk_base.specs.TailoringParts.{TailoringParts}
use Rattle.pus_messages.specs.Protocol.{Protocol}
use Rattle.pus_messages.specs.Messages.{protocol}
use Rattle.ground_history.specs.Histories.{sent_answer}
use Rattle.ground_history.specs.declared.answer.SentFault.{SentFault}
use Rattle.session_record.specs.Records.{Entries, header_of, read_record}
use Rattle.session_record.specs.declared.header.Header.{Header}
use Rattle.session_record.specs.declared.entry.Entry.{Entry}
use Rattle.session_record.specs.declared.entry.Entry.TheVariants.{Sent, Got, Line}
use Rattle.session_record.specs.declared.entry.RecordFault.{RecordFault}
use Rattle.session_texts.specs.Sessions.{known_after, answer_problem, entry_problem, entries_problem}
use Rattle.session_texts.specs.Follow.{entry_blocks, followed, follow_end}
use Rattle.session_texts.specs.declared.problem.RecordProblem.{RecordProblem}
use Rattle.session_texts.specs.declared.problem.RecordProblem.TheVariants as problem
use Rattle.decommutator.specs.Standing.{Standing, Decommutation, entry_answer, taken}
use Rattle.decommutator.specs.Following.{IsFollowing, followed_text, after_followed, closing_text}
use Rattle.followed_records.specs.Told.{Told, taken_by, taken_entries, told_until, told_of, told}
use Rattle.followed_records.specs.Following.{told_after, told_by, told_entries, told_rest, new_decommutation}

-- what is promised of what stands for entries that were followed
pub record IsPromised : Type 0 where
  pub first : (t : TailoringParts) (h : Header) → IsFollowing t h [] (new_decommutation t h)
  pub next : (t : TailoringParts) (h : Header) (entries : List Entry) (d : Decommutation) (e : Entry) → IsFollowing t h entries d → IsFollowing t h (e ∷ entries) (after_followed d e)
  pub text : (t : TailoringParts) (h : Header) (entries : List Entry) (d : Decommutation) (e : Entry) → IsFollowing t h entries d → followed_text d e ≡ entry_blocks (protocol t) h e entries
  pub rest : (t : TailoringParts) (h : Header) (entries : List Entry) (d : Decommutation) → IsFollowing t h entries d → closing_text d ≡ follow_end (protocol t) h entries

-- blocks in place of others
abbrev with_blocks : List ℕ → Told → Told
with_blocks blocks x = record { blocks = blocks; ending = x.ending; problem = x.problem }

pub after_twice : (one two : List ℕ) (x : Told) → told_after one (told_after two x) ≡ told_after (one ++ two) x
after_twice one two x = ap (λ bs. with_blocks bs x) (sym (append_assoc one two x.blocks))

pub after_none : (blocks ending : List ℕ) (found : Option RecordProblem)
    → told_after blocks (record { blocks = []; ending = ending; problem = found }) ≡ record { blocks = blocks; ending = ending; problem = found }
after_none blocks ending found = ap (λ bs. with_blocks bs (record { blocks = []; ending = ending; problem = found })) (append-nil blocks)

-- all that comes of entries, the newest first
abbrev all_told : Protocol → Header → List Entry → Told
all_told p h entries = record { blocks = followed p h entries; ending = follow_end p h entries; problem = None }

-- what comes of entries before a problem
abbrev some_told : Protocol → Header → RecordProblem → List Entry → Told
some_told p h found entries = record { blocks = followed p h (reverse entries); ending = []; problem = Some found }

abbrev held : List (ℕ × Entry) → List Entry
held list = map (λ (x : ℕ × Entry). x.1) list

-- an entry was taken, or it is a problem
abbrev Agrees : ℕ → Result Unit SentFault → Option RecordProblem → Type 0
Agrees offset answer found = ((answer ≡ Ok tt) × (found ≡ None)) ⊎ ((f : SentFault) × (answer ≡ Err f) × (found ≡ Some (problem.Entry f offset)))

by_answer : (offset : ℕ) (answer : Result Bool SentFault) → Agrees offset (taken answer) (answer_problem offset answer)
by_answer offset (Ok new) = inl (refl, refl)
by_answer offset (Err f) = inr (f, refl, refl)

agrees : (s : Standing) (offset : ℕ) (e : Entry) → Agrees offset (entry_answer s e) (entry_problem (protocol s.tailoring) s.history offset e)
agrees s offset (Sent packet) = by_answer offset (sent_answer (protocol s.tailoring) s.history packet)
agrees s offset (Got packet) = inl (refl, refl)
agrees s offset (Line line) = inl (refl, refl)

-- an entry more that is no problem
until_more : (p : Protocol) (h : Header) (earlier : List Entry) (offset : ℕ) (e : Entry) (later : List (ℕ × Entry)) (found : Option RecordProblem)
    → entry_problem p (known_after p h earlier) offset e ≡ None → told_until p h (earlier ++ e ∷ []) later found ≡ told_until p h earlier ((offset, e) ∷ later) found
until_more p h earlier offset e later None is = ap (λ es. all_told p h (reverse es)) (append_assoc earlier (e ∷ []) (held later))
until_more p h earlier offset e later (Some q) is =
    sym (ap (λ o. some_told p h q (taken_by o earlier (taken_entries p h (earlier ++ e ∷ []) later))) is)

-- what comes of entries after others by the problems that there are
abbrev told_later : Protocol → Header → List Entry → List (ℕ × Entry) → Option RecordProblem → Told
told_later p h earlier list found = told_until p h earlier list (option_or (entries_problem p h earlier list) found)

-- an entry that is taken
one_taken : (p : Protocol) (h : Header) (earlier : List Entry) (offset : ℕ) (e : Entry) (later : List (ℕ × Entry)) (found : Option RecordProblem) (done text : List ℕ) (answer : Result Unit SentFault) (rest : Told)
    → answer ≡ Ok tt → entry_problem p (known_after p h earlier) offset e ≡ None → told_after (done ++ text) rest ≡ told_later p h (earlier ++ e ∷ []) later found
    → told_after done (told_by offset answer text rest) ≡ told_later p h earlier ((offset, e) ∷ later) found
one_taken p h earlier offset e later found done text answer rest ok fine is =
    let next = entries_problem p h (earlier ++ e ∷ []) later in
    ap (λ a. told_after done (told_by offset a text rest)) ok
    ∙ (after_twice done text rest
    ∙ (is
    ∙ (until_more p h earlier offset e later (option_or next found) fine
    ∙ ap (λ o. told_until p h earlier ((offset, e) ∷ later) (option_or (option_or o next) found)) (sym fine))))

-- an entry that is a problem
one_refused : (p : Protocol) (h : Header) (entries earlier : List Entry) (offset : ℕ) (e : Entry) (later : List (ℕ × Entry)) (found : Option RecordProblem) (text : List ℕ) (answer : Result Unit SentFault) (rest : Told) (f : SentFault)
    → answer ≡ Err f → entry_problem p (known_after p h earlier) offset e ≡ Some (problem.Entry f offset) → reverse earlier ≡ entries
    → told_after (followed p h entries) (told_by offset answer text rest) ≡ told_later p h earlier ((offset, e) ∷ later) found
one_refused p h entries earlier offset e later found text answer rest f wrong is turned =
    let q = problem.Entry f offset in
    let next = entries_problem p h (earlier ++ e ∷ []) later in
    let more = taken_entries p h (earlier ++ e ∷ []) later in
    ap (λ a. told_after (followed p h entries) (told_by offset a text rest)) wrong
    ∙ (after_none (followed p h entries) [] (Some q)
    ∙ (ap (λ es. record { blocks = followed p h es; ending = []; problem = Some q }) (sym turned)
    ∙ (ap (λ o. some_told p h q (taken_by o earlier more)) (sym is)
    ∙ ap (λ o. told_until p h earlier ((offset, e) ∷ later) (option_or (option_or o next) found)) (sym is))))

newest : (e : Entry) (earlier : List Entry) → reverse (e ∷ earlier) ≡ reverse earlier ++ e ∷ []
newest e earlier = reverse-append (e ∷ []) earlier

-- one more entry, by what the rest comes to
one_more : IsPromised → (t : TailoringParts) (h : Header) (earlier : List Entry) (offset : ℕ) (e : Entry) (later : List (ℕ × Entry)) (fault : Option RecordFault) (d : Decommutation) → IsFollowing t h earlier d
    → Agrees offset (entry_answer d.standing e) (entry_problem (protocol d.standing.tailoring) d.standing.history offset e)
    → told_after (followed (protocol t) h (e ∷ earlier)) (told_entries (after_followed d e) later fault) ≡ told_later (protocol t) h (reverse (e ∷ earlier)) later (option_map problem.Format fault)
    → told_after (followed (protocol t) h earlier) (told_entries d ((offset, e) ∷ later) fault) ≡ told_later (protocol t) h (reverse earlier) ((offset, e) ∷ later) (option_map problem.Format fault)
one_more laws t h earlier offset e later fault d is (inl a) rest_is =
    let p = protocol t in
    let next = after_followed d e in
    let rest = told_entries next later fault in
    let found = option_map problem.Format fault in
    let fine : entry_problem p (known_after p h (reverse earlier)) offset e ≡ None = sym (ap (λ (s : Standing). entry_problem (protocol s.tailoring) s.history offset e) is.standing) ∙ a.1 in
    one_taken p h (reverse earlier) offset e later found (followed p h earlier) (followed_text d e) (entry_answer d.standing e) rest a.0 fine
    (ap (λ xs. told_after (followed p h earlier ++ xs) rest) (laws.text t h earlier d e is) ∙ (rest_is ∙ ap (λ es. told_later p h es later found) (newest e earlier)))
one_more laws t h earlier offset e later fault d is (inr a) rest_is =
    let p = protocol t in
    let wrong : entry_problem p (known_after p h (reverse earlier)) offset e ≡ Some (problem.Entry a.0 offset) = sym (ap (λ (s : Standing). entry_problem (protocol s.tailoring) s.history offset e) is.standing) ∙ a.2 in
    one_refused p h earlier (reverse earlier) offset e later (option_map problem.Format fault) (followed_text d e) (entry_answer d.standing e) (told_entries (after_followed d e) later fault) a.0 a.1 wrong (reverse-reverse earlier)

-- entries after others come to what the definitions give them
told_are : IsPromised → (t : TailoringParts) (h : Header) (earlier : List Entry) (list : List (ℕ × Entry)) (fault : Option RecordFault) (d : Decommutation) → IsFollowing t h earlier d
    → told_after (followed (protocol t) h earlier) (told_entries d list fault) ≡ told_later (protocol t) h (reverse earlier) list (option_map problem.Format fault)
told_are laws t h earlier [] None d is =
    let p = protocol t in
    let turned : reverse (reverse earlier ++ []) ≡ earlier = ap reverse (append-nil (reverse earlier)) ∙ reverse-reverse earlier in
    after_none (followed p h earlier) (closing_text d) None
    ∙ (ap (λ xs. record { blocks = followed p h earlier; ending = xs; problem = None }) (laws.rest t h earlier d is)
    ∙ ap (all_told p h) (sym turned))
told_are laws t h earlier [] (Some f) d is =
    after_none (followed (protocol t) h earlier) [] (Some (problem.Format f))
    ∙ ap (λ es. record { blocks = followed (protocol t) h es; ending = []; problem = Some (problem.Format f) }) (sym (reverse-reverse earlier))
told_are laws t h earlier ((offset, e) ∷ later) fault d is =
    one_more laws t h earlier offset e later fault d is (agrees d.standing offset e) (told_are laws t h (e ∷ earlier) later fault (after_followed d e) (laws.next t h earlier d e is))

-- what stands before the first entry of what octets are read as
abbrev pub start_of : TailoringParts → Result (Header × Entries) RecordFault → Decommutation
start_of t (Ok x) = new_decommutation t x.0
start_of t (Err fault) = new_decommutation t (header_of true false)

told_by_header : IsPromised → (t : TailoringParts) (r : Result (Header × Entries) RecordFault) → told_of (protocol t) r ≡ told_rest (start_of t r) r
told_by_header laws t (Err f) = refl
told_by_header laws t (Ok x) = sym (told_are laws t x.0 [] x.1.list x.1.fault (new_decommutation t x.0) (laws.first t x.0))

-- what comes of a record is what comes of its entries after nothing
pub told_start : IsPromised → (t : TailoringParts) (octets : List ℕ) → told t octets ≡ told_rest (start_of t (read_record octets)) (read_record octets)
unfolding told
told_start laws t octets = told_by_header laws t (read_record octets)
