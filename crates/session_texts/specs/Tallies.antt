-- The numbers of a session.
use Rattle.std.specs.Prelude.{ℕ, List, ◌++◌, length, filter_map, Bool, true, false, Option, Some, None, codes}
use Rattle.std.specs.List.{count_by, sum_by}
use Rattle.std.specs.Fmt.{decimal}
use Rattle.hk_base.specs.TailoringParts.{TailoringParts}
use Rattle.st03_grammar.specs.declared.bodies.Report03.TheVariants as hk
use Rattle.pus_messages.specs.Protocol.{Protocol}
use Rattle.pus_messages.specs.declared.message.ReportBody.{ReportBody}
use Rattle.pus_messages.specs.declared.message.ReportBody.TheVariants.{Hk}
use Rattle.ground_history.specs.Histories.{History, tag_of}
use Rattle.definition_intervals.specs.Verdicts.{verdict}
use Rattle.definition_intervals.specs.declared.answer.Verdict.{Verdict}
use Rattle.definition_intervals.specs.declared.answer.Verdict.TheVariants.{Decided, Undecidable}
use Rattle.session_record.specs.declared.header.Header.{Header}
use Rattle.session_record.specs.declared.entry.Entry.{Entry}
use Rattle.session_texts.specs.Sessions.{known_after, kinds_after}
use Rattle.session_texts.specs.Blocks.{line_end, report_places}
use Rattle.session_texts.specs.Texts.{is_repeat}
use Rattle.session_texts.specs.Follow.{is_decision}
use Rattle.session_texts.specs.declared.problem.Tally.{Tally}

-- the verdict on a parameter report, with its tag
abbrev pub body_verdict : TailoringParts → History → ℕ → ReportBody → Option (ℕ × Verdict)
body_verdict t h tag (Hk (hk.Values key payload)) = Some (tag, verdict t h key tag payload)
body_verdict t h tag _ = None

-- the verdicts on all parameter reports, in the order of tags
abbrev pub verdicts : TailoringParts → History → List (ℕ × Verdict)
verdicts t h = filter_map (λ k. body_verdict t h (tag_of k) k.report.body) h.kept

-- whether a verdict leaves definitions open
abbrev pub is_undecidable : Verdict → Bool
is_undecidable (Undecidable k) = true
is_undecidable _ = false

-- a verdict that is neither
abbrev pub is_other : Verdict → Bool
is_other (Decided d) = false
is_other (Undecidable k) = false
is_other _ = true

-- how many values a report has, by its tag and the verdict on it
abbrev pub value_count : TailoringParts → ℕ × Verdict → ℕ
value_count t (tag, Decided d) = length (report_places t d tag)
value_count t (tag, _) = 0

-- the numbers of entries
abbrev pub tally : Protocol → Header → List Entry → Tally
tally p h entries =
    let known = known_after p h entries in
    let all = verdicts p.tailoring known in
    record {
      sent = length known.requests;
      received = length known.kept;
      repeats = count_by is_repeat (kinds_after p h entries);
      decided = count_by (λ v. is_decision v.1) all;
      undecidable = count_by (λ v. is_undecidable v.1) all;
      other = count_by (λ v. is_other v.1) all;
      values = sum_by (value_count p.tailoring) all;
    }

-- a number with its word
abbrev pub number_line : List ℕ → ℕ → List ℕ
number_line word n = word ++ (codes " " ++ (decimal n ++ line_end))

-- the numbers as lines
abbrev pub summary : Tally → List ℕ
summary x =
    number_line (codes "sent") x.sent
    ++ (number_line (codes "received") x.received
    ++ (number_line (codes "repeats") x.repeats
    ++ (number_line (codes "decided") x.decided
    ++ (number_line (codes "undecidable") x.undecidable ++ (number_line (codes "other") x.other ++ number_line (codes "values") x.values)))))
