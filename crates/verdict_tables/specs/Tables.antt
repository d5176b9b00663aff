-- Tables of the ranges of tags in which verdicts on a structure's reports rest on the same basis.
use Rattle.std.specs.Prelude.{◌≡◌, ◌≢◌, ℕ, ◌+◌, ◌-◌, ◌^◌, ◌<◌, List, [], ◌∷◌, length, filter, slice_get, Bool, nat_le, Option, Some, MatchOption, IfSome, unwrap_or, if◌then◌else◌}
use Rattle.std.specs.Option.{option_map_or}
use Rattle.std.specs.Map.{lookup}
use Rattle.std.specs.List.Sorted.{IsStrictlyIncreasing}
use Rattle.std.specs.List.{All}
use Rattle.hk_base.specs.TailoringParts.{TailoringParts}
use Rattle.hk_base.specs.Parameters.{boot_structure, key_eq}
use Rattle.hk_base.specs.declared.types.Key.{Key}
use Rattle.ground_history.specs.Histories.{History}
use Rattle.ground_history.specs.Ground.{Ground}
use Rattle.definition_intervals.specs.Bases.{IsFormedBasis, verdict_on}
use Rattle.definition_intervals.specs.Verdicts.{verdict}
use Rattle.definition_intervals.specs.declared.answer.Basis.{Basis}
use Rattle.definition_intervals.specs.declared.answer.Basis.TheVariants.{NoOpening, Open}
use Rattle.definition_intervals.specs.declared.answer.Verdict.{Verdict}
use Rattle.definition_intervals.specs.declared.answer.Verdict.TheVariants as v
use Rattle.verdict_tables.specs.Places.{places, AreFirsts}

-- the ranges of a structure: the first tag of each, and the basis of verdicts in each
pub record RangeParts : Type 0 where
  pub firsts : List ℕ
  pub bases : List Basis

-- what tables hold: the tailoring, if they stand for a history, whether the start is known, and the ranges of structures
pub record TableParts : Type 0 where
  pub tailoring : Option TailoringParts
  pub known : Bool
  pub structures : List (Key × RangeParts)

-- how many ranges begin at a tag or before it
abbrev pub begun : List ℕ → ℕ → ℕ
begun firsts tag = length (filter (λ first. nat_le first tag) firsts)

-- the basis in the last range that begins at a tag or before it
abbrev pub basis_in : RangeParts → ℕ → Basis
basis_in ranges tag = unwrap_or (slice_get ranges.bases (begun ranges.firsts tag - 1)) NoOpening

-- the ranges of a structure, if it has any
abbrev pub ranges_of : TableParts → Key → Option RangeParts
ranges_of tables key = lookup (key_eq key) tables.structures

-- the basis where nothing may have changed a structure since the start: its boot state, where the start is known
abbrev pub start_basis : TailoringParts → Bool → Key → Basis
start_basis t known key = if known then Open (boot_structure t key ∷ []) 0 else NoOpening

-- the basis of verdicts on reports of a structure with a tag
abbrev pub basis_of : TailoringParts → TableParts → Key → ℕ → Basis
basis_of t tables key tag = option_map_or (λ ranges. basis_in ranges tag) (ranges_of tables key) (start_basis t tables.known key)

-- the verdict that tables give on a report of a structure with a tag and a payload
abbrev pub table_verdict : TableParts → Key → ℕ → List ℕ → Verdict
table_verdict tables key tag payload =
    option_map_or (λ t. verdict_on t tag payload (basis_of t tables key tag)) tables.tailoring v.NoOpening

-- how many ranges a structure has
abbrev pub range_count : TableParts → Key → ℕ
range_count tables key = option_map_or (λ ranges. length ranges.firsts) (ranges_of tables key) 0

-- a structure has ranges exactly where it has places, and their first tags are 0 and the places
abbrev pub HasRanges : History → Key → Option RangeParts → Type 0
HasRanges h key found = MatchOption found (places h key ≡ []) (λ ranges. (places h key ≢ []) × AreFirsts h key ranges.firsts)

-- Tables stand for what is known: each verdict that they give is that of the definition, and the ranges are those of the history.
pub record StandsFor (tables : TableParts) (g : Ground) : Type 0 where
  pub verdicts : (key : Key) (tag : ℕ) (payload : List ℕ) → table_verdict tables key tag payload ≡ verdict g.tailoring g.history key tag payload
  pub ranges : (key : Key) → HasRanges g.history key (ranges_of tables key)

-- ranges: the first begins at 0, each later one above the one before, and each has a basis; there are fewer than 2^32
pub record IsRanges (ranges : RangeParts) : Type 0 where
  pub begin : slice_get ranges.firsts 0 ≡ Some 0
  pub rising : IsStrictlyIncreasing ranges.firsts
  pub each : length ranges.bases ≡ length ranges.firsts
  pub few : length ranges.firsts < 2 ^ 32

-- the range with a number begins at a tag or before it, and no later one does
pub record IsSearched (ranges : RangeParts) (tag number : ℕ) : Type 0 where
  pub within : number < length ranges.firsts
  pub last : number + 1 ≡ begun ranges.firsts tag

-- each basis that tables hold has valid states, sizes of payloads aside
abbrev pub AreFormed : TableParts → Type 0
AreFormed tables =
    IfSome tables.tailoring (λ t. (key : Key) → IfSome (ranges_of tables key) (λ ranges. All (IsFormedBasis t) ranges.bases))
