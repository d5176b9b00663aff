-- What is made of entries one after the other is the outcome of the record.
use Rattle.std.proofs.Common.{◌≡◌, ℕ, List, [], ◌∷◌, ◌++◌, map, Bool, Option, Some, None, Result, Ok, Err, refl, sym, ap, ◌∙◌, append_assoc, append-nil}
use Rattle.std.specs.Prelude.{option_map}
use Rattle.std.specs.Option.{option_or}
use Rattle.hk_base.specs.TailoringParts.{TailoringParts}
use Rattle.pus_messages.specs.Messages.{protocol}
use Rattle.session_record.specs.Records.{Entries, read_record}
use Rattle.session_record.specs.declared.header.Header.{Header}
use Rattle.session_record.specs.declared.entry.Entry.{Entry}
use Rattle.session_record.specs.declared.entry.Entry.TheVariants.{Sent, Got, Line}
use Rattle.session_record.specs.declared.entry.RecordFault.{RecordFault}
use Rattle.ground_history.specs.Histories.{sent_answer}
use Rattle.ground_history.specs.declared.answer.SentFault.{SentFault}
use Rattle.session_texts.specs.Sessions.{known_after, answer_problem, entries_problem, problem_of}
use Rattle.session_texts.specs.Texts.{text}
use Rattle.session_texts.specs.declared.problem.RecordProblem.{RecordProblem}
use Rattle.session_texts.specs.declared.problem.RecordProblem.TheVariants as problem
use Rattle.decommutator.specs.Entries.{standing_of}
use Rattle.decommutator.specs.Standing.{Standing, new_standing, with_entry, entry_answer, taken, standing_text}
use Rattle.hk_replay.specs.Outcomes.{Outcome, written, stopped, unless_problem, session_text, replay_outcome}
use Rattle.hk_replay.specs.Taking.{answered_outcome, entries_outcome, rest_outcome}
use Rattle.hk_replay.specs.declared.status.ReplayStatus.TheVariants.{Record}

-- what is promised of what stands for entries
pub record Stands : Type 0 where
  pub first : (t : TailoringParts) (h : Header) → standing_of t h [] ≡ new_standing t h.known h.long
  pub next : (t : TailoringParts) (h : Header) (entries : List Entry) (e : Entry) → with_entry (standing_of t h entries) e ≡ standing_of t h (entries ++ e ∷ [])
  pub text : (t : TailoringParts) (h : Header) (entries : List Entry) → standing_text (standing_of t h entries) ≡ text (protocol t) h entries

-- the entries without their offsets
abbrev held : List (ℕ × Entry) → List Entry
held entries = map (λ (e : ℕ × Entry). e.1) entries

-- an answer is a problem, or the rest decides
answered : (offset : ℕ) (answer : Result Bool SentFault) (rest : Outcome) (later fault : Option RecordProblem) (whole : List ℕ) → rest ≡ unless_problem (option_or later fault) whole
    → answered_outcome offset (taken answer) rest ≡ unless_problem (option_or (option_or (answer_problem offset answer) later) fault) whole
answered offset (Ok new) rest later fault whole is = is
answered offset (Err f) rest later fault whole is = refl

one_more : (t : TailoringParts) (h : Header) (earlier : List Entry) (offset : ℕ) (e : Entry) (rest : Outcome) (later : List (ℕ × Entry)) (fault : Option RecordProblem) (whole : List ℕ)
    → rest ≡ unless_problem (option_or (entries_problem (protocol t) h (earlier ++ e ∷ []) later) fault) whole
    → answered_outcome offset (entry_answer (standing_of t h earlier) e) rest ≡ unless_problem (option_or (entries_problem (protocol t) h earlier ((offset, e) ∷ later)) fault) whole
one_more t h earlier offset (Sent packet) rest later fault whole is =
    answered offset (sent_answer (protocol t) (known_after (protocol t) h earlier) packet) rest (entries_problem (protocol t) h (earlier ++ Sent packet ∷ []) later) fault whole is
one_more t h earlier offset (Got packet) rest later fault whole is = is
one_more t h earlier offset (Line line) rest later fault whole is = is

-- entries after others have the outcome that the definitions give them
entries_are : Stands → (t : TailoringParts) (h : Header) (earlier : List Entry) (later : List (ℕ × Entry)) (fault : Option RecordFault)
    → entries_outcome (standing_of t h earlier) later fault
    ≡ unless_problem (option_or (entries_problem (protocol t) h earlier later) (option_map problem.Format fault)) (text (protocol t) h (earlier ++ held later))
entries_are stands t h earlier [] None = ap written (stands.text t h earlier ∙ ap (text (protocol t) h) (sym (append-nil earlier)))
entries_are stands t h earlier [] (Some f) = refl
entries_are stands t h earlier ((offset, e) ∷ later) fault =
    let next = earlier ++ e ∷ [] in
    let rest = entries_outcome (with_entry (standing_of t h earlier) e) later fault in
    let is : rest ≡ unless_problem (option_or (entries_problem (protocol t) h next later) (option_map problem.Format fault)) (text (protocol t) h (earlier ++ (e ∷ held later))) =
    ap (λ (s : Standing). entries_outcome s later fault) (stands.next t h earlier e)
    ∙ (entries_are stands t h next later fault
    ∙ ap (λ (es : List Entry). unless_problem (option_or (entries_problem (protocol t) h next later) (option_map problem.Format fault)) (text (protocol t) h es)) (append_assoc earlier (e ∷ []) (held later))) in
    one_more t h earlier offset e rest later (option_map problem.Format fault) (text (protocol t) h (earlier ++ (e ∷ held later))) is

-- the outcome of a whole record, after nothing
pub whole_record : Stands → (t : TailoringParts) (octets : List ℕ) (x : Header × Entries) → read_record octets ≡ Ok x
    → replay_outcome t octets ≡ rest_outcome (new_standing t x.0.known x.0.long) (Ok x)
unfolding replay_outcome
whole_record stands t octets x is =
    ap (λ (r : Result (Header × Entries) RecordFault). unless_problem (problem_of (protocol t) r) (session_text (protocol t) r)) is
    ∙ (sym (entries_are stands t x.0 [] x.1.list x.1.fault)
    ∙ ap (λ (s : Standing). entries_outcome s x.1.list x.1.fault) (stands.first t x.0))

-- octets without a header have no entries
pub no_record : (t : TailoringParts) (octets : List ℕ) (fault : RecordFault) → read_record octets ≡ Err fault → replay_outcome t octets ≡ stopped (Record (problem.Format fault))
unfolding replay_outcome
no_record t octets fault is = ap (λ (r : Result (Header × Entries) RecordFault). unless_problem (problem_of (protocol t) r) (session_text (protocol t) r)) is
