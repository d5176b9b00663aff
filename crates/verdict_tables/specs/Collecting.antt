-- What is held for each structure, and how the places of all are collected.
use Rattle.std.specs.Prelude.{◌≡◌, ◌≢◌, ℕ, List, [], ◌∷◌, ◌++◌, flat_map, Option, MatchOption, unwrap_or, if◌then◌else◌}
use Rattle.std.specs.Option.{option_map_or}
use Rattle.std.specs.List.{All, enumerate_from}
use Rattle.std.specs.List.Sorted.{IsStrictlyIncreasing}
use Rattle.std.specs.Map.{lookup}
use Rattle.hk_base.specs.Parameters.{key_eq}
use Rattle.hk_base.specs.declared.types.Key.{Key}
use Rattle.ground_history.specs.Histories.{Sent, History}
use Rattle.ground_history.specs.Ground.{Ground}
use Rattle.definition_intervals.specs.Bases.{AreBases, IsFormedBasis}
use Rattle.verdict_tables.specs.Places.{report_places, bound_places, changed_keys, places, is_among, AreFirsts}
use Rattle.verdict_tables.specs.Tables.{RangeParts}

-- what is held for a structure
abbrev pub held_for : {X : Type 0} → List (Key × X) → Key → Option X
held_for held key = lookup (key_eq key) held

-- what is held for one structure is now this, and for each other one what it was
abbrev pub IsHeld : {X : Type 0} → Key → Option X → List (Key × X) → List (Key × X) → Type 0
IsHeld key value old new = (other : Key) → held_for new other ≡ (if key_eq key other then value else held_for old other)

-- the tags that were collected for a structure
abbrev pub tags_of : List (Key × List ℕ) → Key → List ℕ
tags_of collected key = unwrap_or (held_for collected key) []

-- for each structure some tags are added to those that were collected
abbrev pub Collects : List (Key × List ℕ) → List (Key × List ℕ) → (Key → List ℕ) → Type 0
Collects old new more = (key : Key) → tags_of new key ≡ tags_of old key ++ more key

-- some tags, if two keys are the same
abbrev pub tags_if : Key → Key → List ℕ → List ℕ
tags_if named key tags = if key_eq named key then tags else []

-- the bounds of a request for each of some structures
abbrev pub named_places : List ℕ → List Key → Key → List ℕ
named_places bounds named key = flat_map (λ n. tags_if n key bounds) named

-- the bounds of a numbered request, once for each of its instructions that can change the structure
abbrev pub sent_places : History → Key → ℕ × Sent → List ℕ
sent_places h key numbered = option_map_or (λ r. named_places (bound_places h numbered.0) (changed_keys r) key) numbered.1.request []

-- the tags that are collected for a structure: its places, some of them twice
abbrev pub collected_places : History → Key → List ℕ
collected_places h key = flat_map (report_places key) h.kept ++ flat_map (sent_places h key) (enumerate_from 0 h.requests)

-- ranges begin at 0 and at some tags, rising, each with the basis there
pub record AreRangesAt (g : Ground) (key : Key) (tags : List ℕ) (ranges : RangeParts) : Type 0 where
  pub rising : IsStrictlyIncreasing ranges.firsts
  pub members : (tag : ℕ) → is_among tag ranges.firsts ≡ is_among tag (0 ∷ tags)
  pub bases : AreBases g.tailoring g.history key ranges.firsts ranges.bases
  pub formed : All (IsFormedBasis g.tailoring) ranges.bases

-- the ranges of a structure that has places: their first tags, and the basis at each
pub record IsTable (g : Ground) (key : Key) (ranges : RangeParts) : Type 0 where
  pub some : places g.history key ≢ []
  pub firsts : AreFirsts g.history key ranges.firsts
  pub bases : AreBases g.tailoring g.history key ranges.firsts ranges.bases
  pub formed : All (IsFormedBasis g.tailoring) ranges.bases

-- a structure has its ranges, or no places
abbrev pub HasTable : Ground → Key → Option RangeParts → Type 0
HasTable g key found = MatchOption found (places g.history key ≡ []) (IsTable g key)
