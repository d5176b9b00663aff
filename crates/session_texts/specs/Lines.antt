-- The lines of a text, and when they are true of what a board did: each by what it says and by the lines above it.
use Rattle.std.specs.Prelude.{◌≡◌, ⊤, ℕ, ◌^◌, ℤ, List, [], ◌∷◌, ◌++◌, codes, length, map, Bool, true, false, ◌==◌, ◌&&◌, IsTrue}
use Rattle.std.specs.List.{slice_split}
use Rattle.std.specs.Fmt.{decimal, signed_decimal}
use Rattle.hk_base.specs.TailoringParts.{TailoringParts}
use Rattle.hk_base.specs.declared.types.Key.{Key}
use Rattle.hk_base.specs.declared.types.Place.{Place}
use Rattle.st04_grammar.specs.declared.bodies.StatRow.{StatRow}
use Rattle.st20_grammar.specs.declared.bodies.Setting.{Setting}
use Rattle.hk_world.specs.Timelines.{tailoring}
use Rattle.hk_world.specs.Worlds.{World, IsTrueValue, IsTrueStat, IsTrueCurrent}
use Rattle.definition_intervals.specs.declared.answer.Verdict.{Verdict}
use Rattle.definition_intervals.specs.declared.answer.Verdict.TheVariants.{Decided, Undecidable, Crowded, NoOpening, Impossible}
use Rattle.session_texts.specs.Blocks.{report_front}
use Rattle.session_texts.specs.Truth.{parameter_block, IsTrueBlock}

-- all members but the last
abbrev pub without_last : List (List ℕ) → List (List ℕ)
without_last [] = []
without_last (x ∷ []) = []
without_last (x ∷ y ∷ ys) = x ∷ without_last (y ∷ ys)

-- the lines of a text: what its line feeds end, each without its own
abbrev pub lines_of : List ℕ → List (List ℕ)
lines_of text = without_last (slice_split (λ octet. octet == 10) text)

-- what the first line of a parameter report's block says of the verdict
abbrev pub verdict_text : Verdict → List ℕ
verdict_text (Decided d) = codes " decided interval " ++ decimal d.interval
verdict_text (Undecidable k) = codes " undecidable " ++ decimal k
verdict_text (Crowded k) = codes " crowded " ++ decimal k
verdict_text NoOpening = codes " no-opening"
verdict_text Impossible = codes " impossible"

-- the first line of a parameter report's block
abbrev pub report_text : Key → ℕ → Verdict → List ℕ
report_text key tag v = report_front key tag ++ verdict_text v

-- the first line of a decided report's block
abbrev pub decided_text : Key → ℕ → ℕ → List ℕ
decided_text key tag interval = report_front key tag ++ (codes " decided interval " ++ decimal interval)

-- a value with its place
abbrev pub value_text : Place × ℤ → List ℕ
value_text (place, value) =
    codes "value " ++ (decimal place.param ++ (codes " slot " ++ (decimal place.slot ++ (codes " = " ++ signed_decimal value))))

-- the first line of a statistics report's block: its tag, and the tags from and to which it tells
abbrev pub statistics_text : ℕ → ℕ → ℕ → List ℕ
statistics_text tag start end = codes "statistics tag " ++ (decimal tag ++ (codes " from " ++ (decimal start ++ (codes " to " ++ decimal end))))

-- the statistics of a parameter
abbrev pub stat_text : TailoringParts → StatRow → List ℕ
stat_text t r =
    codes "stat "
    ++ (decimal r.param
    ++ (codes " count "
    ++ (decimal r.count
    ++ (codes " max "
    ++ (signed_decimal r.max
    ++ (codes " at "
    ++ (decimal r.max_time
    ++ (codes " min "
    ++ (signed_decimal r.min
    ++ (codes " at "
    ++ (decimal r.min_time ++ (codes " mean " ++ (signed_decimal r.mean ++ (codes " scale " ++ decimal (256 ^ t.widths.mean_fraction)))))))))))))))

-- the first line of the block of a report of values
abbrev pub values_text : ℕ → List ℕ
values_text tag = codes "values tag " ++ decimal tag

-- the value of a parameter
abbrev pub current_text : Setting → List ℕ
current_text x = codes "current " ++ (decimal x.param ++ (codes " = " ++ signed_decimal x.value))

-- whether a line begins with a word
abbrev pub begins : List ℕ → List ℕ → Bool
begins [] line = true
begins (c ∷ word) [] = false
begins (c ∷ word) (d ∷ line) = (d == c) && begins word line

-- A line of a parameter report is true: it is the first of a true block.
pub record IsTrueReportLine (w : World) (line : List ℕ) : Type 0 where
  pub key : Key
  pub tag : ℕ
  pub verdict : Verdict
  pub rows : List (Place × ℤ)
  pub text : line ≡ report_text key tag verdict
  pub is_true : IsTrueBlock w (parameter_block key tag verdict rows)

-- A line with a value is true: above it are other values, and then the line of a decided report; and the value is the sample that the board took for its place in that report, under the definition then in force. Lines above stand with the nearest first.
pub record IsTrueValueLine (w : World) (above : List (List ℕ)) (line : List ℕ) : Type 0 where
  pub key : Key
  pub tag : ℕ
  pub interval : ℕ
  pub others : List (Place × ℤ)
  pub rest : List (List ℕ)
  pub place : Place
  pub value : ℤ
  pub text : line ≡ value_text (place, value)
  pub under : above ≡ map value_text others ++ (decided_text key tag interval ∷ rest)
  pub is_true : IsTrueValue w key tag interval (length others) place.param place.slot value

-- A line with the statistics of a parameter is true: above it are others, and then the first line of a statistics report's block; and the board reported that row at its place in that report.
pub record IsTrueStatLine (w : World) (above : List (List ℕ)) (line : List ℕ) : Type 0 where
  pub tag : ℕ
  pub start : ℕ
  pub end : ℕ
  pub others : List StatRow
  pub rest : List (List ℕ)
  pub row : StatRow
  pub text : line ≡ stat_text (tailoring w.session) row
  pub under : above ≡ map (stat_text (tailoring w.session)) others ++ (statistics_text tag start end ∷ rest)
  pub is_true : IsTrueStat w tag (length others) row

-- A line with a current value is true: above it are others, and then the first line of the block of a report of values; and the board reported that value at its place in that report.
pub record IsTrueCurrentLine (w : World) (above : List (List ℕ)) (line : List ℕ) : Type 0 where
  pub tag : ℕ
  pub others : List Setting
  pub rest : List (List ℕ)
  pub setting : Setting
  pub text : line ≡ current_text setting
  pub under : above ≡ map current_text others ++ (values_text tag ∷ rest)
  pub is_true : IsTrueCurrent w tag (length others) setting

-- what a line says is so in a world, by its first word
pub record IsTrueLine (w : World) (above : List (List ℕ)) (line : List ℕ) : Type 0 where
  pub report : IsTrue (begins (codes "report ") line) → IsTrueReportLine w line
  pub value : IsTrue (begins (codes "value ") line) → IsTrueValueLine w above line
  pub stat : IsTrue (begins (codes "stat ") line) → IsTrueStatLine w above line
  pub current : IsTrue (begins (codes "current ") line) → IsTrueCurrentLine w above line

-- lines under others are true
abbrev pub AreTrueUnder : World → List (List ℕ) → List (List ℕ) → Type 0
AreTrueUnder w above [] = ⊤
AreTrueUnder w above (line ∷ lines) = IsTrueLine w above line × AreTrueUnder w (line ∷ above) lines

-- each line of a text is true in a world
abbrev pub HasTrueLines : World → List ℕ → Type 0
HasTrueLines w text = AreTrueUnder w [] (lines_of text)
