-- When a text is true of what a board did.
use Rattle.std.specs.Prelude.{◌≡◌, ◌≢◌, ◌<◌, ◌≤◌, ⊤, ℕ, ◌+◌, ℤ, List, [], ◌∷◌, ◌++◌, codes, map, flat_map, slice_get, Bool, true, false, ◌==◌, Some, IsTrue, IsFalse, if◌then◌else◌}
use Rattle.std.specs.List.{AllByRecursion, count_by, list_any}
use Rattle.std.specs.Fmt.{decimal}
use Rattle.hk_base.specs.TailoringParts.{TailoringParts}
use Rattle.hk_base.specs.declared.types.Key.{Key}
use Rattle.hk_base.specs.declared.types.Place.{Place}
use Rattle.hk_base.specs.declared.types.Definition.{Definition}
use Rattle.hk_base.specs.declared.types.Structure.{Structure}
use Rattle.st03_grammar.specs.declared.bodies.Report03.TheVariants as hk
use Rattle.st04_grammar.specs.declared.bodies.StatRow.{StatRow}
use Rattle.st04_grammar.specs.declared.bodies.StatReport.{StatReport}
use Rattle.st04_grammar.specs.declared.bodies.Report04.TheVariants as stat
use Rattle.st20_grammar.specs.declared.bodies.Setting.{Setting}
use Rattle.st20_grammar.specs.declared.bodies.Report20.{Report20}
use Rattle.pus_messages.specs.Protocol.{Reception, foreign, skipped}
use Rattle.pus_messages.specs.declared.message.ReportBody.{ReportBody}
use Rattle.pus_messages.specs.declared.message.ReportBody.TheVariants.{Hk, Stat, Par}
use Rattle.hk_world.specs.Timelines.{tailoring}
use Rattle.hk_world.specs.Honest.{IsReport}
use Rattle.hk_world.specs.Worlds.{World, Step, stray, Reports, IsTrueValue, IsTrueStat, IsTrueCurrent, deliveries_of, entries_seen, world_state_at}
use Rattle.hk_world.specs.declared.moment.Moment.{Moment}
use Rattle.ground_history.specs.Bounds.{history_in}
use Rattle.ground_history.specs.declared.answer.GotKind.{GotKind}
use Rattle.definition_intervals.specs.Openings.{Opening, openings, first_open, is_settled}
use Rattle.definition_intervals.specs.Soundness.{IsOpenChange, places_of}
use Rattle.definition_intervals.specs.declared.answer.Verdict.{Verdict}
use Rattle.definition_intervals.specs.declared.answer.Verdict.TheVariants.{Decided, Undecidable, Crowded, NoOpening, Impossible}
use Rattle.session_record.specs.Records.{header_of}
use Rattle.session_record.specs.declared.header.Header.{Header}
use Rattle.session_record.specs.declared.entry.Entry.{Entry}
use Rattle.session_texts.specs.Sessions.{seen, kinds_of}
use Rattle.session_texts.specs.Blocks.{line_end, report_front, value_line, statistics_lines, current_lines}
use Rattle.session_texts.specs.Texts.{is_repeat, is_conflict, is_foreign, is_skipped, is_unread, is_stray, count_lines}

-- The block of a kept report: of a parameter report with its structure, its tag, the verdict on it, and its values with their places; of a statistics report; or of a report of current values.
pub data Block : Type 0 where
  parameter_block : Key → ℕ → Verdict → List (Place × ℤ) → Block
  statistics_block : ℕ → StatReport → Block
  current_block : ℕ → Report20 → Block

-- what the first line of a parameter report's block says of the verdict
abbrev pub verdict_line : Verdict → List ℕ
verdict_line (Decided d) = codes " decided interval " ++ (decimal d.interval ++ line_end)
verdict_line (Undecidable k) = codes " undecidable " ++ (decimal k ++ line_end)
verdict_line (Crowded k) = codes " crowded " ++ (decimal k ++ line_end)
verdict_line NoOpening = codes " no-opening" ++ line_end
verdict_line Impossible = codes " impossible" ++ line_end

-- the lines of a block
abbrev pub block_lines : TailoringParts → Block → List ℕ
block_lines t (parameter_block key tag verdict rows) = report_front key tag ++ (verdict_line verdict ++ flat_map value_line rows)
block_lines t (statistics_block tag report) = statistics_lines t tag report
block_lines t (current_block tag report) = current_lines tag report.pairs

-- the tag of a block's report
abbrev pub block_tag : Block → ℕ
block_tag (parameter_block key tag verdict rows) = tag
block_tag (statistics_block tag report) = tag
block_tag (current_block tag report) = tag

-- the openings of a structure for a report with a tag, by all that the ground knows in a world
abbrev pub openings_in : World → Key → ℕ → List Opening
openings_in w key tag = openings (tailoring w.session) (history_in w) key tag

-- A request is the first open change of the opening with the greatest tag, and no opening is without an open change.
pub record IsNamed (w : World) (key : Key) (tag k : ℕ) : Type 0 where
  pub place : ℕ
  pub opening : Opening
  pub there : slice_get (openings_in w key tag) place ≡ Some opening
  pub greatest : AllByRecursion (λ o. o.tag ≤ opening.tag) (openings_in w key tag)
  pub first : first_open opening ≡ Some k
  pub open_change : IsOpenChange (openings_in w key tag) k

-- a report isn't settled by what the ground knows in a world
abbrev pub IsUnsettled : World → Key → ℕ → Type 0
IsUnsettled w key tag = IsFalse (is_settled (tailoring w.session) (history_in w) key tag)

-- The values of a decided report are true: the definition is the one in force, there is one value for each of its places, and each is the sample that the board took there.
pub record AreTrueRows (w : World) (key : Key) (tag : ℕ) (d : Definition) (rows : List (Place × ℤ)) : Type 0 where
  pub structure : Structure
  pub in_force : (world_state_at w tag).structure key ≡ Some structure
  pub definition_is : structure.def ≡ d
  pub places : map (λ r. r.0) rows ≡ places_of w tag d
  pub values : (row : ℕ) (place : Place) (value : ℤ) → slice_get rows row ≡ Some (place, value)
      → IsTrueValue w key tag d.interval row place.param place.slot value

-- What a parameter report's block says is so in a world: its values are true where it is decided; or else it has none, and the report isn't settled. No report is impossible.
abbrev pub IsTrueVerdict : World → Key → ℕ → Verdict → List (Place × ℤ) → Type 0
IsTrueVerdict w key tag (Decided d) rows = AreTrueRows w key tag d rows
IsTrueVerdict w key tag (Undecidable k) rows = IsUnsettled w key tag × (rows ≡ [])
IsTrueVerdict w key tag (Crowded k) rows = IsUnsettled w key tag × (rows ≡ [])
IsTrueVerdict w key tag NoOpening rows = IsUnsettled w key tag × (rows ≡ [])
IsTrueVerdict w key tag Impossible rows = ⊥

-- The reason that a verdict gives is so in a world: the request that is named leaves the report open, and there is no opening exactly where the verdict says so.
abbrev pub IsTrueReason : World → Key → ℕ → Verdict → Type 0
IsTrueReason w key tag (Decided d) = openings_in w key tag ≢ []
IsTrueReason w key tag (Undecidable k) = IsNamed w key tag k
IsTrueReason w key tag (Crowded k) = IsNamed w key tag k
IsTrueReason w key tag NoOpening = openings_in w key tag ≡ []
IsTrueReason w key tag Impossible = ⊥

-- a block of a parameter report gives a true reason; the others give none
abbrev pub HasTrueReason : World → Block → Type 0
HasTrueReason w (parameter_block key tag verdict rows) = IsTrueReason w key tag verdict
HasTrueReason w (statistics_block tag report) = ⊤
HasTrueReason w (current_block tag report) = ⊤

-- a report with this tag and body is one that the board made, and it was delivered
pub record IsOfReport (w : World) (tag : ℕ) (body : ReportBody) : Type 0 where
  pub made : Reports w tag body
  pub number : ℕ
  pub moment : Moment
  pub delivered : slice_get (deliveries_of w.steps) number ≡ Some moment
  pub tag_is : moment.tag ≡ tag
  pub report : IsReport w.session moment body

-- What a block says is so in a world: its report was delivered, and its verdict is true, or the board reported each of its rows.
abbrev pub IsTrueBlock : World → Block → Type 0
IsTrueBlock w (parameter_block key tag verdict rows) =
    ((payload : List ℕ) × IsOfReport w tag (Hk (hk.Values key payload))) × IsTrueVerdict w key tag verdict rows
IsTrueBlock w (statistics_block tag report) =
    IsOfReport w tag (Stat (stat.Statistics report)) × ((row : ℕ) (x : StatRow) → slice_get report.rows row ≡ Some x → IsTrueStat w tag row x)
IsTrueBlock w (current_block tag report) =
    IsOfReport w tag (Par report) × ((row : ℕ) (x : Setting) → slice_get report.pairs row ≡ Some x → IsTrueCurrent w tag row x)

-- a block is that of a report with a tag and a body: a parameter report, a statistics report or a report of current values
abbrev pub IsBlockOf : ℕ → ReportBody → Block → Type 0
IsBlockOf tag (Hk (hk.Values key payload)) (parameter_block named at verdict rows) = (named ≡ key) × (at ≡ tag)
IsBlockOf tag (Stat (stat.Statistics report)) (statistics_block at told) = (told ≡ report) × (at ≡ tag)
IsBlockOf tag (Par report) (current_block at told) = (told ≡ report) × (at ≡ tag)
IsBlockOf tag body b = ⊥

-- whether a report has a block: message types [3,25], [3,26], [4,2] and [20,2]
abbrev pub has_block : ReportBody → Bool
has_block (Hk (hk.Values key payload)) = true
has_block (Stat (stat.Statistics report)) = true
has_block (Par report) = true
has_block _ = false

-- one of the blocks is that of a report with a tag and a body
abbrev pub HasBlock : List Block → ℕ → ReportBody → Type 0
HasBlock blocks tag body = (i : ℕ) × (b : Block) × (slice_get blocks i ≡ Some b) × IsBlockOf tag body b

-- each report that was delivered and has a block has one of these
abbrev pub HasEachReport : World → List Block → Type 0
HasEachReport w blocks =
    (i : ℕ) (m : Moment) (body : ReportBody) → slice_get (deliveries_of w.steps) i ≡ Some m → IsReport w.session m body
    → IsTrue (has_block body) → HasBlock blocks m.tag body

-- no two blocks have one tag: each has one above those before it
abbrev pub HaveRisingTags : List Block → Type 0
HaveRisingTags [] = ⊤
HaveRisingTags (b ∷ bs) = AllByRecursion (λ later. block_tag b < block_tag later) bs × HaveRisingTags bs

-- how many deliveries are of packets that had been delivered before
abbrev pub repeats_of : List Moment → ℕ
repeats_of [] = 0
repeats_of (m ∷ earlier) = (if list_any (λ e. e.tag == m.tag) earlier then 1 else 0) + repeats_of earlier

-- the packets that came and aren't the board's
abbrev pub strays_of : List Step → List (List ℕ)
strays_of [] = []
strays_of (stray packet ∷ earlier) = packet ∷ strays_of earlier
strays_of (_ ∷ earlier) = strays_of earlier

-- another process sent it
abbrev pub is_of_another : Reception → Bool
is_of_another (foreign apid) = true
is_of_another _ = false

-- its type isn't known
abbrev pub is_of_no_type : Reception → Bool
is_of_no_type (skipped service subtype) = true
is_of_no_type _ = false

-- What is counted is so in a world: repeats are of packets that had been delivered before, packets of another process or of no known type are those that aren't the board's, and there are no others.
pub record AreTrueCounts (w : World) (kinds : List GotKind) : Type 0 where
  pub repeats : count_by is_repeat kinds ≡ repeats_of (deliveries_of w.steps)
  pub foreign : count_by is_foreign kinds ≡ count_by (λ packet. is_of_another (w.session.protocol.reception packet)) (strays_of w.steps)
  pub skipped : count_by is_skipped kinds ≡ count_by (λ packet. is_of_no_type (w.session.protocol.reception packet)) (strays_of w.steps)
  pub conflicts : count_by is_conflict kinds ≡ 0
  pub unread : count_by is_unread kinds ≡ 0
  pub stray : count_by is_stray kinds ≡ 0

-- no two blocks have one tag
abbrev pub HaveDistinctTags : List Block → Type 0
HaveDistinctTags [] = ⊤
HaveDistinctTags (b ∷ bs) = AllByRecursion (λ other. block_tag b ≢ block_tag other) bs × HaveDistinctTags bs

-- What is written is blocks in an order, and each is true in a world.
pub record AreTrueBlocks (are_ordered : List Block → Type 0) (w : World) (text : List ℕ) : Type 0 where
  pub blocks : List Block
  pub lines : text ≡ flat_map (block_lines (tailoring w.session)) blocks
  pub order : are_ordered blocks
  pub each : AllByRecursion (IsTrueBlock w) blocks

-- A text with an order of its blocks is true in a world: it is true blocks in that order and then counts, each report that was delivered and has a block has one, and what is counted is so.
pub record IsTrueIn (are_ordered : List Block → Type 0) (w : World) (text : List ℕ) : Type 0 where
  pub front : List ℕ
  pub written : AreTrueBlocks are_ordered w front
  pub kinds : List GotKind
  pub lines : text ≡ front ++ count_lines kinds
  pub complete : HasEachReport w written.blocks
  pub counts : AreTrueCounts w kinds

-- a text is true in a world, with its blocks in the order of tags
abbrev pub IsTrueText : World → List ℕ → Type 0
IsTrueText = IsTrueIn HaveRisingTags

-- a text whose blocks were written as they were decided is true in a world, each block of another report
abbrev pub IsTrueFollowing : World → List ℕ → Type 0
IsTrueFollowing = IsTrueIn HaveDistinctTags

-- what was written so far is true in a world: true blocks, each of another report
abbrev pub IsTrueSoFar : World → List ℕ → Type 0
IsTrueSoFar = AreTrueBlocks HaveDistinctTags

-- a text is true in a world, and each of its blocks gives a true reason
abbrev pub HasTrueReasons : (List Block → Type 0) → World → List ℕ → Type 0
HasTrueReasons are_ordered w text = (whole : IsTrueIn are_ordered w text) × AllByRecursion (HasTrueReason w) whole.written.blocks

-- the entries of a record are those of a world: what was sent and what was received, in their order
abbrev pub IsSeenIn : World → Header → List Entry → Type 0
IsSeenIn w h entries = (h.known ≡ w.session.known) × (h.long ≡ w.session.long) × (seen entries ≡ entries_seen w.session.requests w.steps)

-- what became of each packet that was received in a world, the newest first
abbrev pub kinds_in : World → List GotKind
kinds_in w = kinds_of w.session.protocol (header_of w.session.known w.session.long) (entries_seen w.session.requests w.steps)
