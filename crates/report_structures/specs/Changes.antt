-- Changes that requests of the grammar ask for, and what functions answer for them.
use Rattle.std.specs.Prelude.{◌≡◌, ℕ, ◌%◌, ◌^◌, ◌<◌, ◌≤◌, ⊤, List, length, Option, Some, None, Result, Ok, Err, IfSome, IsTrue, is_some}
use Rattle.std.specs.List.{AllByRecursion}
use Rattle.hk_base.specs.TailoringParts.{TailoringParts}
use Rattle.hk_base.specs.Parameters.{parameter}
use Rattle.hk_base.specs.Definitions.{listed_ids, IsWellFormed}
use Rattle.hk_base.specs.declared.types.SuperList.{SuperList}
use Rattle.hk_base.specs.declared.types.Structure.{Structure}
use Rattle.st03_grammar.specs.Instructions.{StructureChange, create, append, set_interval, plain}
use Rattle.report_structures.specs.declared.refusal.Refusal.{Refusal}
use Rattle.report_structures.specs.declared.refusal.ApplyFault.{ApplyFault}
use Rattle.report_structures.specs.declared.refusal.ApplyFault.TheVariants.{Refused, Memory}

-- an array of the grammar, whatever the interval
pub record IsGrammarArray (t : TailoringParts) (a : SuperList) : Type 0 where
  pub members : 1 ≤ length a.params
  pub few : length a.params ≤ 255
  pub repeated : 1 ≤ a.repetition
  pub field : a.repetition < 256 ^ t.widths.repetition_octets

-- lists of the grammar
pub record AreGrammarLists (t : TailoringParts) (simple : List ℕ) (arrays : List SuperList) : Type 0 where
  pub some : 1 ≤ length (listed_ids simple arrays)
  pub known : AllByRecursion (λ id. IsTrue (is_some (parameter t id))) (listed_ids simple arrays)
  pub few : length simple ≤ 255
  pub few_arrays : length arrays ≤ 255
  pub each_array : AllByRecursion (IsGrammarArray t) arrays

-- an interval of the grammar
abbrev pub IsGrammarInterval : TailoringParts → ℕ → Type 0
IsGrammarInterval t n = (1 ≤ n) × (n ≤ t.widths.max_interval)

-- each repetition number divides the interval
abbrev pub AllDivide : ℕ → List SuperList → Type 0
AllDivide n arrays = AllByRecursion (λ a. n % a.repetition ≡ 0) arrays

-- a change of the grammar
abbrev pub IsGrammarChange : TailoringParts → StructureChange → Type 0
IsGrammarChange t (create d) = IsGrammarInterval t d.interval × AreGrammarLists t d.simple d.arrays × AllDivide d.interval d.arrays
IsGrammarChange t (append a) = AreGrammarLists t a.simple a.arrays
IsGrammarChange t (set_interval n) = IsGrammarInterval t n
IsGrammarChange t (plain each) = ⊤

-- a state whose definition, if there is one, is valid, its payload size aside
abbrev pub IsFormedState : TailoringParts → Option Structure → Type 0
IsFormedState t state = IfSome state (λ s. IsWellFormed t s.def)

-- a check passes, or it has this refusal
abbrev pub Checks : {X : Type 0} → Result X Refusal → Option Refusal → Type 0
Checks (Ok _) refusal = refusal ≡ None
Checks (Err r) refusal = refusal ≡ Some r

-- what a function gives is the effect, unless it wants memory
abbrev pub Gives : Result (Option Structure) ApplyFault → Result (Option Structure) Refusal → Type 0
Gives (Ok state) effect = effect ≡ Ok state
Gives (Err (Refused refusal)) effect = effect ≡ Err refusal
Gives (Err Memory) effect = ⊤
