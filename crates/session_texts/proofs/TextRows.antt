-- Texts of worked records, by computation from their octets.
use Rattle.std.proofs.Common.{◌≡◌, ℕ, refl, List, [], ◌∷◌, ◌++◌, true, false, Option, Some, None, Result, Ok, Err}
use Rattle.std.specs.Prelude.{codes, map, take}
use Rattle.std.specs.Fmt.{digits}
use Rattle.hk_base.specs.Builtin.{builtin}
use Rattle.pus_messages.specs.Messages.{protocol}
use Rattle.session_record.specs.Records.{Entries, header_of, read_record, record_octets}
use Rattle.session_record.specs.declared.header.Header.{Header}
use Rattle.session_record.specs.declared.entry.Entry.{Entry}
use Rattle.session_record.specs.declared.entry.Entry.TheVariants.{Sent, Got}
use Rattle.session_record.specs.declared.entry.RecordFault.{RecordFault}
use Rattle.session_record.specs.declared.entry.RecordFault.TheVariants.{Cut}
use Rattle.ground_history.specs.declared.answer.SentFault.TheVariants.{WrongCount}
use Rattle.session_texts.specs.Sessions.{record_problem}
use Rattle.session_texts.specs.Texts.{text}
use Rattle.session_texts.specs.Follow.{followed, follow_text}
use Rattle.session_texts.specs.Tallies.{tally}
use Rattle.session_texts.specs.declared.problem.RecordProblem.TheVariants as problem

-- lines, each ended by a line feed
abbrev lines : List (List ℕ) → List ℕ
lines [] = []
lines (l ∷ ls) = l ++ (10 ∷ lines ls)

-- the text of octets, where they are a record
abbrev text_by : Result (Header × Entries) RecordFault → Option (List ℕ)
text_by (Ok x) = Some (text (protocol builtin) x.0 (map (λ e. e.1) x.1.list))
text_by (Err fault) = None

abbrev known : Header
known = header_of true false

abbrev report_one : List ℕ
report_one = 8 ∷ 100 ∷ 192 ∷ 0 ∷ 0 ∷ 15 ∷ 32 ∷ 3 ∷ 25 ∷ 0 ∷ 0 ∷ 0 ∷ 1 ∷ 0 ∷ 0 ∷ 0 ∷ 0 ∷ 64 ∷ 1 ∷ 1 ∷ 0 ∷ 42 ∷ []

abbrev report_one_other : List ℕ
report_one_other = 8 ∷ 100 ∷ 192 ∷ 0 ∷ 0 ∷ 15 ∷ 32 ∷ 3 ∷ 25 ∷ 0 ∷ 0 ∷ 0 ∷ 1 ∷ 0 ∷ 0 ∷ 0 ∷ 0 ∷ 64 ∷ 1 ∷ 1 ∷ 0 ∷ 43 ∷ []

abbrev change_two : List ℕ
change_two = 24 ∷ 100 ∷ 192 ∷ 0 ∷ 0 ∷ 8 ∷ 47 ∷ 3 ∷ 31 ∷ 0 ∷ 1 ∷ 1 ∷ 2 ∷ 0 ∷ 4 ∷ []

abbrev report_two : List ℕ
report_two = 8 ∷ 100 ∷ 192 ∷ 0 ∷ 0 ∷ 19 ∷ 32 ∷ 3 ∷ 25 ∷ 0 ∷ 0 ∷ 0 ∷ 1 ∷ 0 ∷ 0 ∷ 0 ∷ 0 ∷ 128 ∷ 2 ∷ 2 ∷ 0 ∷ 1 ∷ 10 ∷ 11 ∷ 12 ∷ 13 ∷ []

abbrev completed_two : List ℕ
completed_two = 8 ∷ 100 ∷ 192 ∷ 0 ∷ 0 ∷ 16 ∷ 32 ∷ 1 ∷ 7 ∷ 0 ∷ 0 ∷ 0 ∷ 1 ∷ 0 ∷ 0 ∷ 0 ∷ 0 ∷ 112 ∷ 4 ∷ 24 ∷ 100 ∷ 192 ∷ 0 ∷ []

abbrev statistics : List ℕ
statistics = 8 ∷ 100 ∷ 192 ∷ 0 ∷ 0 ∷ 46 ∷ 32 ∷ 4 ∷ 2 ∷ 0 ∷ 0 ∷ 0 ∷ 1 ∷ 0 ∷ 0 ∷ 0 ∷ 0 ∷ 32 ∷ 8 ∷ 0 ∷ 0 ∷ 0 ∷ 0 ∷ 0 ∷ 0 ∷ 0 ∷ 0 ∷ 0 ∷ 0 ∷ 32 ∷ 8 ∷ 1 ∷ 0 ∷ 2 ∷ 0 ∷ 0 ∷ 0 ∷ 2 ∷ 253 ∷ 0 ∷ 0 ∷ 0 ∷ 0 ∷ 0 ∷ 0 ∷ 252 ∷ 0 ∷ 0 ∷ 0 ∷ 0 ∷ 16 ∷ 0 ∷ 252 ∷ []

abbrev values_report : List ℕ
values_report = 8 ∷ 100 ∷ 192 ∷ 0 ∷ 0 ∷ 17 ∷ 32 ∷ 20 ∷ 2 ∷ 0 ∷ 0 ∷ 0 ∷ 1 ∷ 0 ∷ 0 ∷ 0 ∷ 0 ∷ 32 ∷ 9 ∷ 1 ∷ 0 ∷ 7 ∷ 1 ∷ 0xf4 ∷ []

abbrev structure_one : List ℕ
structure_one = 8 ∷ 100 ∷ 192 ∷ 0 ∷ 0 ∷ 20 ∷ 32 ∷ 3 ∷ 10 ∷ 0 ∷ 0 ∷ 0 ∷ 1 ∷ 0 ∷ 0 ∷ 0 ∷ 0 ∷ 80 ∷ 1 ∷ 1 ∷ 1 ∷ 0 ∷ 4 ∷ 1 ∷ 0 ∷ 1 ∷ 0 ∷ []

abbrev report_one_later : List ℕ
report_one_later = 8 ∷ 100 ∷ 192 ∷ 0 ∷ 0 ∷ 15 ∷ 32 ∷ 3 ∷ 25 ∷ 0 ∷ 0 ∷ 0 ∷ 1 ∷ 0 ∷ 0 ∷ 0 ∷ 0 ∷ 128 ∷ 1 ∷ 1 ∷ 0 ∷ 7 ∷ []

abbrev text_of_record : Header → List Entry → Option (List ℕ)
text_of_record h entries = text_by (read_record (record_octets h entries))

decided_at_start : text_of_record known (Got report_one ∷ []) ≡ Some (lines (codes "report hk 1 tag 16385 decided interval 4" ∷ codes "value 1 slot 3 = 42" ∷ []))
unfolding digits
decided_at_start = refl

abbrev two_lines : List ℕ
two_lines =
    lines
    (codes "report hk 2 tag 32770 decided interval 4"
    ∷ codes "value 1 slot 7 = 1"
    ∷ codes "value 3 slot 4 = 10"
    ∷ codes "value 3 slot 5 = 11"
    ∷ codes "value 3 slot 6 = 12"
    ∷ codes "value 3 slot 7 = 13"
    ∷ [])

decided_by_completion : text_of_record known (Sent change_two ∷ Got report_two ∷ Got completed_two ∷ []) ≡ Some two_lines
unfolding digits
decided_by_completion = refl

undecidable_change : text_of_record known (Sent change_two ∷ Got report_two ∷ []) ≡ Some (lines (codes "report hk 2 tag 32770 undecidable 0" ∷ []))
unfolding digits
undecidable_change = refl

repeats_are_counted : text_of_record known (Got report_one ∷ Got report_one ∷ Got report_one ∷ Got report_one_other ∷ [])
    ≡ Some (lines (codes "report hk 1 tag 16385 decided interval 4" ∷ codes "value 1 slot 3 = 42" ∷ codes "repeats 2" ∷ codes "conflicts 1" ∷ []))
unfolding digits
repeats_are_counted = refl

statistics_are_written : text_of_record known (Got statistics ∷ [])
    ≡ Some (lines (codes "statistics tag 8200 from 0 to 8200" ∷ codes "stat 2 count 2 max -3 at 0 min -4 at 4096 mean -4 scale 1" ∷ []))
unfolding digits
statistics_are_written = refl

values_are_written : text_of_record known (Got values_report ∷ []) ≡ Some (lines (codes "values tag 8201" ∷ codes "current 7 = 500" ∷ []))
unfolding digits
values_are_written = refl

-- the block of a report is written with the entry that decides it
followed_by_completion : follow_text (protocol builtin) known (Sent change_two ∷ Got report_two ∷ Got completed_two ∷ []) ≡ two_lines
unfolding digits
followed_by_completion = refl

followed_before : followed (protocol builtin) known (Got report_two ∷ Sent change_two ∷ []) ≡ []
followed_before = refl

-- a report that is decided comes before one that has no opening
followed_with_unknown_start : follow_text (protocol builtin) (header_of false false) (Got report_one ∷ Got structure_one ∷ Got report_one_later ∷ [])
    ≡ lines (codes "report hk 1 tag 32769 decided interval 4" ∷ codes "value 1 slot 7 = 7" ∷ codes "report hk 1 tag 16385 no-opening" ∷ [])
unfolding digits
followed_with_unknown_start = refl

numbers : tally (protocol builtin) known (Sent change_two ∷ Got report_two ∷ Got completed_two ∷ [])
    ≡ record { sent = 1; received = 2; repeats = 0; decided = 1; undecidable = 0; other = 0; values = 5 }
numbers = refl

-- a request packet with another count than the next, and a record that is cut after it
abbrev enable_next : List ℕ
enable_next = 24 ∷ 100 ∷ 192 ∷ 1 ∷ 0 ∷ 6 ∷ 47 ∷ 3 ∷ 5 ∷ 0 ∷ 1 ∷ 1 ∷ 1 ∷ []

wrong_count_before_a_cut : record_problem (protocol builtin) (record_octets known (Sent enable_next ∷ []) ++ 0x47 ∷ []) ≡ Some (problem.Entry (WrongCount 0 1) 8)
wrong_count_before_a_cut = refl

cut_entry : record_problem (protocol builtin) (take 34 (record_octets known (Got report_one ∷ []))) ≡ Some (problem.Format (Cut 8))
cut_entry = refl
