-- The lines of what is known are those of its blocks.
use Rattle.std.proofs.Common.{◌≡◌, ℕ, refl, sym, ◌∙◌, ap, List, [], ◌∷◌, ◌++◌, append_assoc, Option, Some, None, Result, Ok, Err}
use Rattle.std.proofs.lemmas.List.{append-nil}
use Rattle.std.specs.Prelude.{ℤ, filter_map, flat_map, zip, codes}
use Rattle.std.specs.List.{cons_option}
use Rattle.std.specs.Fmt.{decimal}
use Rattle.hk_base.specs.TailoringParts.{TailoringParts}
use Rattle.hk_base.specs.Payload.{payload_read}
use Rattle.hk_base.specs.declared.types.Key.{Key}
use Rattle.hk_base.specs.declared.types.Place.{Place}
use Rattle.hk_base.specs.declared.types.PayloadFault.{PayloadFault}
use Rattle.st03_grammar.specs.declared.bodies.Report03.TheVariants as hk
use Rattle.st04_grammar.specs.declared.bodies.Report04.TheVariants as stat
use Rattle.pus_messages.specs.declared.message.ReportBody.{ReportBody}
use Rattle.pus_messages.specs.declared.message.ReportBody.TheVariants.{Verify, Hk, Stat, Par}
use Rattle.ground_history.specs.Histories.{Kept, History, tag_of}
use Rattle.definition_intervals.specs.Verdicts.{verdict}
use Rattle.definition_intervals.specs.declared.answer.Verdict.{Verdict}
use Rattle.definition_intervals.specs.declared.answer.Verdict.TheVariants.{Decided, Undecidable, Crowded, NoOpening, Impossible}
use Rattle.session_texts.specs.Blocks.{line_end, value_line, value_lines, report_front, report_places, verdict_lines, body_block, block}
use Rattle.session_texts.specs.Truth.{Block, parameter_block, statistics_block, current_block, verdict_line, block_lines}

-- values with their places
abbrev pub read_rows : List Place → Result (List ℤ) PayloadFault → List (Place × ℤ)
read_rows ps (Ok vs) = zip ps vs
read_rows ps (Err fault) = []

-- the values of a report, by the verdict on it
abbrev pub verdict_rows : TailoringParts → ℕ → List ℕ → Verdict → List (Place × ℤ)
verdict_rows t tag payload (Decided d) = read_rows (report_places t d tag) (payload_read t d payload)
verdict_rows t tag payload _ = []

-- the block of a parameter report, by the verdict on it
abbrev pub report_block : TailoringParts → Key → ℕ → List ℕ → Verdict → Block
report_block t key tag payload v = parameter_block key tag v (verdict_rows t tag payload v)

-- the block of a report, if it has one
abbrev pub block_of_body : TailoringParts → History → ℕ → ReportBody → Option Block
block_of_body t h tag (Verify v) = None
block_of_body t h tag (Hk (hk.Values key payload)) = Some (report_block t key tag payload (verdict t h key tag payload))
block_of_body t h tag (Hk (hk.Structure key structure)) = None
block_of_body t h tag (Hk (hk.Periodic kind rows)) = None
block_of_body t h tag (Stat (stat.Statistics report)) = Some (statistics_block tag report)
block_of_body t h tag (Stat (stat.Definitions enabled interval params)) = None
block_of_body t h tag (Par report) = Some (current_block tag report)

-- the block of a kept packet, if it has one
abbrev pub block_of : TailoringParts → History → Kept → Option Block
block_of t h k = block_of_body t h (tag_of k) k.report.body

-- the lines of a block, if there is one
abbrev pub option_lines : TailoringParts → Option Block → List ℕ
option_lines t None = []
option_lines t (Some b) = block_lines t b

rows-lines : (ps : List Place) (r : Result (List ℤ) PayloadFault) → value_lines ps r ≡ flat_map value_line (read_rows ps r)
rows-lines ps (Ok vs) = refl
rows-lines ps (Err fault) = refl

verdict-lines : (t : TailoringParts) (tag : ℕ) (payload : List ℕ) (v : Verdict)
    → verdict_lines t tag payload v ≡ verdict_line v ++ flat_map value_line (verdict_rows t tag payload v)
verdict-lines t tag payload (Decided d) =
    let rest : List ℕ = flat_map value_line (verdict_rows t tag payload (Decided d)) in
    ap (λ xs. codes " decided interval " ++ (decimal d.interval ++ (line_end ++ xs))) (rows-lines (report_places t d tag) (payload_read t d payload))
    ∙ sym
    (append_assoc (codes " decided interval ") (decimal d.interval ++ line_end) rest
    ∙ ap (λ xs. codes " decided interval " ++ xs) (append_assoc (decimal d.interval) line_end rest))
verdict-lines t tag payload (Undecidable k) = sym (append-nil (verdict_line (Undecidable k)))
verdict-lines t tag payload (Crowded k) = sym (append-nil (verdict_line (Crowded k)))
verdict-lines t tag payload NoOpening = sym (append-nil (verdict_line NoOpening))
verdict-lines t tag payload Impossible = sym (append-nil (verdict_line Impossible))

body-lines : (t : TailoringParts) (h : History) (tag : ℕ) (body : ReportBody) → body_block t h tag body ≡ option_lines t (block_of_body t h tag body)
body-lines t h tag (Verify v) = refl
body-lines t h tag (Hk (hk.Values key payload)) = ap (λ xs. report_front key tag ++ xs) (verdict-lines t tag payload (verdict t h key tag payload))
body-lines t h tag (Hk (hk.Structure key structure)) = refl
body-lines t h tag (Hk (hk.Periodic kind rows)) = refl
body-lines t h tag (Stat (stat.Statistics report)) = refl
body-lines t h tag (Stat (stat.Definitions enabled interval params)) = refl
body-lines t h tag (Par report) = refl

-- the blocks of kept packets
abbrev pub blocks_of : TailoringParts → History → List Kept → List Block
blocks_of t h ks = filter_map (block_of t h) ks

option-cons : (t : TailoringParts) (o : Option Block) (bs : List Block) → flat_map (block_lines t) (cons_option o bs) ≡ option_lines t o ++ flat_map (block_lines t) bs
option-cons t None bs = refl
option-cons t (Some b) bs = refl

-- the lines of kept packets are those of their blocks
pub lines-of : (t : TailoringParts) (h : History) (ks : List Kept) → flat_map (block t h) ks ≡ flat_map (block_lines t) (blocks_of t h ks)
lines-of t h [] = refl
lines-of t h (k ∷ ks) =
    ap (λ xs. xs ++ flat_map (block t h) ks) (body-lines t h (tag_of k) k.report.body)
    ∙ ap (λ xs. option_lines t (block_of t h k) ++ xs) (lines-of t h ks)
    ∙ sym (option-cons t (block_of t h k) (blocks_of t h ks))
